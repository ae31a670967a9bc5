-- `read_number` gives the number that a word is, held at 1,000,000,000; an empty word and one with a byte that is no digit are none. The loop keeps:
-- the value is at most that, the bytes from i on are all digits exactly if the word is, and the value continued with them is, held, the word's.
use mathlib.Core.Path.{refl, sym, ◌∙◌, ap}
use native.Mathlib.Omega.{arith}
use Rattle.delivery_lines.proofs.NoticeValues.{from_start, held_small, held-most, number-none, no_digit, one-digit, held_one, number-not, digits-whole}
use Rattle.delivery_lines.proofs.NoticeValues.{value-whole, number_is}
use Rattle.questions.proofs.Bools.{said-no, said-yes}
use Rattle.delivery_lines.specs.NoticeLines.{held}
use Rattle.delivery_lines.proofs.read_number.Goals as goal

-- ---- the empty word, and before the loop
pub returns-then-word-eq0 : goal.returns-then-word-eq0
returns-then-word-eq0 c = number-none _ c.if-word-eq0.true

pub loop-i-init : goal.loop-i-init
loop-i-init c = (omega arith, omega arith, refl, from_start _)

-- ---- a turn: a byte that is no digit, or a digit more
pub returns-then-not-is_digit : goal.returns-then-not-is_digit
returns-then-not-is_digit c =
    number-not _ (sym c.loop-i.invariant.2 ∙
    no_digit _ _ c.loop-i-test.true (said-no c.is_digit.ensures c.if-not-is_digit.true))

pub digit_more-value-requires : goal.digit_more-value-requires
digit_more-value-requires c = (c.loop-i.invariant.0, c.digit_value.ensures.1)

pub loop-i-preserved : goal.loop-i-preserved
loop-i-preserved c =
    let r = c.digit_more-value.ensures in
    let e = c.digit_value.ensures.0 in (
      rw r (held-most _),
      omega arith,
      sym (one-digit _ _ c.loop-i-test.true
          (said-yes c.is_digit.ensures c.if-not-is_digit.false)) ∙
          c.loop-i.invariant.2,
      held_one _ _ c.loop-i-test.true _ _ (rw e at r) c.loop-i.invariant.3,
    )

-- ---- the end: the word is a number
pub returns : goal.returns
returns c =
    let v = c.loop-i.invariant in
    number_is _ _ c.if-word-eq0.false (sym v.2 ∙ digits-whole _ _ v.1 c.loop-i-test.false)
    (held_small _ v.0 ∙ ap held (sym (value-whole _ _ _ v.1 c.loop-i-test.false)) ∙ v.3)
