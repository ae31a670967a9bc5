-- The number of two digits is ten times the first value and the second. Each is at most 9, so that it is at most 99 and
-- fits.
use native.Mathlib.Omega.{arith}
use Rattle.session_lines.proofs.two_value.Goals as goal

pub overflow_mul-result : goal.overflow_mul-result
overflow_mul-result c = omega (arith, c.digit_value.ensures.1)

pub overflow_add-result : goal.overflow_add-result
overflow_add-result c = omega (arith, c.digit_value.ensures.1, c.digit_value-2.ensures.1)

pub returns : goal.returns
returns c = (
  rw (c.digit_value-2.ensures.0, c.digit_value.ensures.0),
  omega (arith, c.digit_value.ensures.1, c.digit_value-2.ensures.1),
)
