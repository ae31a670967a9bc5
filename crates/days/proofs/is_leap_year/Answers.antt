-- Every fourth year is a leap year, of the hundredth years only every fourth: the definition's tests, one by one.
use Rattle.days.specs.Gregorian.{leap_year}
use mathlib.Core.Path.{refl}
use Rattle.days.proofs.is_leap_year.Goals as goal

pub returns : goal.returns
unfolding leap_year
returns c = refl
