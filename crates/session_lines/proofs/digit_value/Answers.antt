-- The value of a digit, at most 9: a byte below 48 has 0, any other the remainder by 10 of what it is above 48. By arithmetic.
use native.Mathlib.Omega.{arith}
use mathlib.Core.Path.{refl}
use Rattle.session_lines.proofs.digit_value.Goals as goal

pub returns-then-byte-lt48 : goal.returns-then-byte-lt48
returns-then-byte-lt48 c = (omega arith, omega arith)

pub returns : goal.returns
returns c = (refl, omega arith)
