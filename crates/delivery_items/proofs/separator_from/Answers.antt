-- `separator_from` gives the place of the first separator from a place on, or the line's end. The loop keeps: no byte from `from`
-- up to i is a separator. It returns at a separator, or at the end of the line.
use mathlib.Core.Path.{◌≡◌, ◌∙◌, sym}
use native.Mathlib.Omega.{arith}
use lib.ListN.{length}
use Rattle.questions.proofs.Bools.{clash}
use Rattle.delivery_items.proofs.FieldsParted.{none_more}
use Rattle.delivery_items.proofs.separator_from.Goals as goal

-- ---- the loop
pub loop-i-init : goal.loop-i-init
loop-i-init c = λ j h l e. omega arith

pub returns-then-is_separator : goal.returns-then-is_separator
returns-then-is_separator c = record {
  on = omega arith;
  within = omega arith;
  none = c.loop-i.invariant;
  parts = λ h. sym c.is_separator.ensures ∙ c.if-is_separator.true;
}

pub loop-i-preserved : goal.loop-i-preserved
loop-i-preserved c =
    none_more c.args.line.now _ _ c.loop-i.invariant
    (λ e. clash (c.is_separator.ensures ∙ e) c.if-is_separator.false)

-- ---- the end
pub returns : goal.returns
returns c =
    let e : c.loop-i.i ≡ length c.args.line.now = omega arith in
    record { on = omega arith; within = omega arith; none = rw e at c.loop-i.invariant; parts = λ h. absurd (omega arith) }
