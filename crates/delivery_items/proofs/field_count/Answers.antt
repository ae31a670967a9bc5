-- `field_count` counts the fields of a line. The loop keeps: `from` is a place of the line or its end, the count is at most `from` + 1,
-- and the count with the fields that are left after `from` makes all. A separator has one more (`some_left`), the end none (`none_left`).
use mathlib.Core.Path.{sym}
use native.Mathlib.Omega.{arith}
use Prim.Native.Nat.{◌+◌}
use Rattle.delivery_items.proofs.FieldsParted.{fields-counted, none_left, some_left}
use Rattle.delivery_items.proofs.field_count.Goals as goal

-- ---- before the loop
pub loop-from-init : goal.loop-from-init
loop-from-init c =
    let s = c.separator_from-from.ensures in
    (s.within, omega (arith, s.on), sym (fields-counted _ _ _ s))

-- ---- a turn and the end
pub loop-from-smaller : goal.loop-from-smaller
loop-from-smaller c = omega (arith, c.separator_from-from-in-loop-from.ensures.on)

pub loop-from-preserved : goal.loop-from-preserved
loop-from-preserved c =
    let v = c.loop-from.invariant in
    let s = c.separator_from-from-in-loop-from.ensures in
    let line = c.args.line.now in (
      s.within,
      omega (arith, s.on, v.1),
      omega (
        arith,
        v.2,
        some_left line c.loop-from.from c.loop-from-test.true,
        fields-counted line (c.loop-from.from + 1) c.separator_from-from-in-loop-from.result s,
      ),
    )

pub returns : goal.returns
returns c =
    let v = c.loop-from.invariant in
    omega (arith, v.2, none_left c.args.line.now c.loop-from.from c.loop-from-test.false)
