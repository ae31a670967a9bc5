-- The Saturdays and Sundays of the 64 days that begin with a weekday: seven masks, each of them computed from the definition.
-- The last case is 6, since the weekday is below 7.
use mathlib.Core.Path.{◌≡◌, refl}
use mathlib.Core.Bool.{not}
use Prim.Native.Nat.{◌+◌, ◌%◌}
use lib.Dec.{ltb}
use Rattle.calendar_words.specs.DayWords.{day_word}
use native.Mathlib.Omega.{arith}
use Rattle.calendar_words.proofs.weekends_on.Goals as goal

-- the last mask begins with a Sunday
last-mask : 0x83060C183060C183 ≡ day_word 64 (λ p. not (ltb ((6 + p) % 7) 5))
unfolding day_word
last-mask = refl

pub returns-in-0 : goal.returns-in-0
unfolding day_word
returns-in-0 c = rw c.in-0.is

pub returns-in-1 : goal.returns-in-1
unfolding day_word
returns-in-1 c = rw c.in-1.is

pub returns-in-2 : goal.returns-in-2
unfolding day_word
returns-in-2 c = rw c.in-2.is

pub returns-in-3 : goal.returns-in-3
unfolding day_word
returns-in-3 c = rw c.in-3.is

pub returns-in-4 : goal.returns-in-4
unfolding day_word
returns-in-4 c = rw c.in-4.is

pub returns-in-5 : goal.returns-in-5
unfolding day_word
returns-in-5 c = rw c.in-5.is

pub returns-in_default : goal.returns-in_default
returns-in_default c = let e : c.args.weekday ≡ 6 = omega (arith, c.requires) in rw e last-mask
