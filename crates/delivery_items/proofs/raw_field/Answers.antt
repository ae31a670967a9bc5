-- `raw_field` gives field k as it stands in the line. The loop keeps: `from` is within the line, i is
-- at most k, and the fields after the first i are those of the line from `from` on. Where the line ends
-- first there is none (`field-beyond`); at k the field goes up to the next separator (`field-here`).
use mathlib.Core.Path.{◌≡◌, refl, ◌∙◌, ap}
use native.Mathlib.Omega.{arith}
use Rattle.delivery_items.specs.Items.{raw_field}
use Rattle.delivery_items.proofs.FieldsParted.{fields-next, field-here, field-beyond}
use Rattle.delivery_items.proofs.raw_field.Goals as goal

-- ---- before the loop
pub loop-i-init : goal.loop-i-init
loop-i-init c = (omega arith, omega arith, refl)

-- ---- a turn: the line ends, or the next field begins
pub slice_bounds-result-start : goal.slice_bounds-result-start
slice_bounds-result-start c = omega (arith, c.separator_from-end.ensures.on)

pub returns-then-line-end : goal.returns-then-line-end
returns-then-line-end c =
    let v = c.loop-i.invariant in
    field-beyond _ _ _ _ v.2 c.separator_from-end.ensures c.if-line-end.true _ c.loop-i-test.true

pub loop-i-preserved : goal.loop-i-preserved
loop-i-preserved c =
    let v = c.loop-i.invariant in (
      omega arith,
      omega arith,
      fields-next c.args.line.now c.loop-i.i _ _ v.2
          c.separator_from-end.ensures c.if-line-end.false,
    )

-- ---- the end: field k
pub slice_bounds-result-count-2 : goal.slice_bounds-result-count-2
slice_bounds-result-count-2 c = omega (arith, c.separator_from-end-2.ensures.on)

pub slice_bounds-result-start-2 : goal.slice_bounds-result-start-2
slice_bounds-result-start-2 c = omega (arith, c.separator_from-end-2.ensures.on)

pub slice_bounds-result-end-2 : goal.slice_bounds-result-end-2
slice_bounds-result-end-2 c = omega (arith, c.separator_from-end-2.ensures.within)

pub returns : goal.returns
returns c =
    let args = c.args in
    let v = c.loop-i.invariant in
    let e : c.loop-i.i ≡ args.k = omega (arith, v.1) in
    field-here args.line.now c.loop-i.i _ _ v.2 c.separator_from-end-2.ensures ∙ ap (raw_field args.line.now) e
