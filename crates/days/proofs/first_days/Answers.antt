-- The constant table follows the Gregorian month lengths from day 0 to 36,525 and has 1,200 entries. By computing.
use Rattle.questions.specs.Search.{one_of}
use Rattle.days.specs.Gregorian.{follows_from, length_of, month_length, length_in, leap_year}
use mathlib.Core.Path.{refl}
use Rattle.days.proofs.first_days.Goals as goal

-- the one computed test, over the constant that the code reads
pub returns : goal.returns
unfolding follows_from length_of month_length length_in leap_year one_of
returns c = refl
