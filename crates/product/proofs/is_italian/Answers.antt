-- Whether the group is IT01 or IT11: each comparison is the definition's (`code-of-4`), joined as its list joins them.
use mathlib.Core.Path.{◌≡◌}
use native.Mathlib.Omega.{arith}
use lib.ListN.{length}
use mathlib.Core.Bool.{or-false}
use Rattle.product.specs.Settlement.{italian}
use Rattle.product.specs.Fields.{one_of_codes}
use Rattle.product.proofs.Codes.{code-of-4}
use Rattle.product.proofs.is_italian.Goals as goal

pub returns : goal.returns
unfolding italian one_of_codes
returns c =
    let l : length c.args.group ≡ 4 = omega arith in
    simp (or-false, c.eq.ensures, c.eq-2.ensures, code-of-4 c.args.group 73 84 48 49 l, code-of-4 c.args.group 73 84 49 49 l)
