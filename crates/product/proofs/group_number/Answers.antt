-- A group's two digits as one number; 100 where a byte is no digit (`no_number`). Where both are, `digits` bounds them, so nothing is taken from a
-- smaller number and the sum fits; `number-of` is the value.
use mathlib.Core.Path.{◌≡◌, sym, ap₂, ◌∙◌}
use mathlib.Core.Bool.{true, ◌&&◌}
use native.Mathlib.Omega.{arith}
use Rattle.product.specs.Fields.{digit}
use Rattle.product.proofs.Groups.{Digits, are-digits, number-of, no_number}
use Rattle.product.proofs.group_number.Goals as goal

told : (c : goal.Then-is_digit) → (digit c.args.tens && digit c.args.ones) ≡ true
told c = sym (ap₂ ◌&&◌ c.is_digit.ensures c.is_digit-2.ensures) ∙ c.if-is_digit.true

digits : (c : goal.Then-is_digit) → Digits c.args.tens c.args.ones
digits c = are-digits _ _ (told c)

pub overflow_sub-result : goal.overflow_sub-result
overflow_sub-result c = (digits c).tens-low

pub overflow_mul-result : goal.overflow_mul-result
overflow_mul-result c = omega (arith, digits c)

pub overflow_sub-result-then-is_digit : goal.overflow_sub-result-then-is_digit
overflow_sub-result-then-is_digit c = (digits c).ones_low

pub overflow_add-result : goal.overflow_add-result
overflow_add-result c = omega (arith, digits c)

pub returns-then-is_digit : goal.returns-then-is_digit
returns-then-is_digit c = sym (number-of _ _ (told c))

pub returns : goal.returns
returns c = sym (no_number _ _ (sym (ap₂ ◌&&◌ c.is_digit.ensures c.is_digit-2.ensures) ∙ c.if-is_digit.false))
