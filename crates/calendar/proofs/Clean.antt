-- Question 5 of a day's two bits, case by case.
-- Assumes nothing.
use mathlib.Core.Path.{◌≡◌, refl}
use mathlib.Core.Bool.{Bool, true, false, not}
use Rattle.questions.proofs.Bools.{clash, or_right}
use Rattle.calendar.specs.Trading.{bits_clean}

-- two bits of 0 are clean, whether the day may be closed or not
pub bits-zero : (may : Bool) → bits_clean may false false ≡ true
unfolding bits_clean
bits-zero may = refl

-- a first bit that may be 1 and was not taken away keeps a slot clean
pub bits-more : (may before after second : Bool) → may ≡ true → (before ≡ true → after ≡ true) → bits_clean may before second ≡ true
    → bits_clean may after second ≡ true
unfolding bits_clean
bits-more may before true second m h t = rw (m) (or_right (not second) refl)
bits-more may true false second m h t = clash (h refl) refl
bits-more may false false second m h t = t

-- the second bit is 0 where the first is
pub bits-second : (may first second : Bool) → bits_clean may first second ≡ true → first ≡ false → second ≡ false
unfolding bits_clean
bits-second may first false t e = refl
bits-second may true true t e = e
bits-second may false true t e = clash t refl
