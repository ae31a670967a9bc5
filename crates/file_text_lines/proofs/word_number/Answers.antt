-- The number that a word is, where it is one and at most a given number.
-- The loop keeps: `value` followed by the bytes that are left makes the number that the whole word makes, and value ≤ most (one-digit).
-- The returns of none are: no bytes, a byte that is no digit (no_digit), a number above the most (too-great); at the end the value is the number.
use native.Mathlib.Omega.{arith}
use mathlib.Core.Path.{refl, sym, ◌∙◌}
use Rattle.questions.proofs.Bools.{said-no, said-yes}
use Rattle.file_text_lines.proofs.NumberWords.{number-none, number-some, no_digit, too-great, one-digit, number-whole}
use Rattle.file_text_lines.proofs.word_number.Goals as goal

-- ---- no bytes
pub returns-then-word-eq0 : goal.returns-then-word-eq0
returns-then-word-eq0 c = number-none _ _ c.if-word-eq0.true

-- ---- the loop, and what ends it with no number
pub loop-byte-init : goal.loop-byte-init
loop-byte-init c = (omega arith, refl)

pub returns-then-not-is_digit : goal.returns-then-not-is_digit
returns-then-not-is_digit c =
    let v = c.loop-byte.invariant in
    sym (no_digit _ _ _ _ c.loop-byte-test.true (said-no c.is_digit.ensures c.if-not-is_digit.true)) ∙ v.1 ∙
    number-some _ _ c.if-word-eq0.false

pub returns-then-most-next : goal.returns-then-most-next
returns-then-most-next c =
    let v = c.loop-byte.invariant in
    sym (too-great _ _ _ _ c.loop-byte-test.true (omega (arith, c.digit_value.ensures.0))) ∙ v.1 ∙
    number-some _ _ c.if-word-eq0.false

-- ---- one digit more
pub loop-byte-preserved : goal.loop-byte-preserved
loop-byte-preserved c =
    let v = c.loop-byte.invariant in
    let e = c.digit_value.ensures.0 in (
      omega arith,
      rw e (sym (one-digit _ _ _ _ c.loop-byte-test.true (said-yes c.is_digit.ensures c.if-not-is_digit.false)
          (omega (arith, e))) ∙ v.1),
    )

-- ---- the word's end
pub returns : goal.returns
returns c =
    let v = c.loop-byte.invariant in
    sym (number-whole _ _ _ _ (omega arith) c.loop-byte-test.false) ∙ v.1 ∙ number-some _ _ c.if-word-eq0.false
