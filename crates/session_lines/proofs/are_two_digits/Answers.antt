-- The answer is both tests of the definition, by the contract of `is_digit` for each of the two bytes, which are within the
-- 64.
use mathlib.Core.Path.{ap₂}
use mathlib.Core.Bool.{◌&&◌}
use Rattle.session_lines.proofs.are_two_digits.Goals as goal

pub returns : goal.returns
returns c = ap₂ ◌&&◌ c.is_digit.ensures c.is_digit-2.ensures
