-- Question 5 of a day: a day outside the first map may not be in the second; a day in the first must be one that may be closed.
-- The first `return` is the case without the first bit (bits-open), the second the case with it (bits-closed).
use mathlib.Core.Path.{◌≡◌, refl}
use mathlib.Core.Bool.{Bool, true, false, not}
use Rattle.questions.proofs.Bools.{said-no, said-yes}
use Rattle.calendar.specs.Trading.{bits_clean}
use Rattle.file_calendar.proofs.day_clean.Goals as goal

-- a day that is not in the first map may not be in the second
bits-open : (may second : Bool) → not second ≡ bits_clean may false second
unfolding bits_clean
bits-open may true = refl
bits-open may false = refl

bits-closed : (may second : Bool) → may ≡ bits_clean may true second
unfolding bits_clean
bits-closed true true = refl
bits-closed true false = refl
bits-closed false second = refl

pub returns-then-not-map_bit : goal.returns-then-not-map_bit
returns-then-not-map_bit c =
    rw (c.map_bit-then-not-map_bit.ensures, said-no c.map_bit.ensures c.if-not-map_bit.true)
    (bits-open _ _)

pub returns : goal.returns
returns c =
    rw (c.may_close.ensures, said-yes c.map_bit.ensures c.if-not-map_bit.false)
    (bits-closed _ _)
