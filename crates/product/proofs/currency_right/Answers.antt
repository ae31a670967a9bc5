-- Question 7, the currency: one of five codes. Each comparison is the definition's (`code-of-3`), joined as its list joins them.
use mathlib.Core.Path.{◌≡◌}
use native.Mathlib.Omega.{arith}
use lib.ListN.{length}
use mathlib.Core.Bool.{or_assoc, or-false}
use Rattle.product.specs.Fields.{currency_right, one_of_codes}
use Rattle.product.proofs.Codes.{code-of-3}
use Rattle.product.proofs.currency_right.Goals as goal

pub returns : goal.returns
unfolding currency_right one_of_codes
returns c =
    let l : length c.args.currency ≡ 3 = omega arith in
    simp (
      or_assoc,
      or-false,
      c.eq.ensures,
      c.eq-2.ensures,
      c.eq-3.ensures,
      c.eq-4.ensures,
      c.eq-5.ensures,
      code-of-3 c.args.currency 69 85 82 l,
      code-of-3 c.args.currency 67 72 70 l,
      code-of-3 c.args.currency 85 83 68 l,
      code-of-3 c.args.currency 71 66 80 l,
      code-of-3 c.args.currency 71 66 88 l,
    )
