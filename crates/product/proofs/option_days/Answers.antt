-- The days to settlement of an option. `days` says that the definition depends only on the country's two bytes and the group's number; each
-- `return` computes it from the bytes and the number, or the range, that its arm matched, and the default from those that no arm has.
use Rattle.std.proofs.lemmas.Bool.Decides.{nat_tests}
use native.Mathlib.Omega.{arith}
use mathlib.Core.Path.{◌≡◌, sym, ◌∙◌}
use lib.ListN.{get_or}
use Rattle.product.specs.Settlement.{option_days}
use Rattle.product.proofs.Groups.{days_by, days-by}
use Rattle.product.proofs.option_days.Goals as goal
use Rattle.product.proofs.option_days.Goals.{After-group_number-number}

-- ---- the country and the number
days : (c : After-group_number-number) → option_days c.args.group ≡ days_by (get_or c.args.group 0 0) (get_or c.args.group 1 0) c.group_number-number.result
days c = days-by _ _ c.group_number-number.ensures

-- ---- two days
pub returns-in-68-eq69-11-to-14 : goal.returns-in-68-eq69-11-to-14
returns-in-68-eq69-11-to-14 c = sym (days (goal.at.returns-in-68-eq69-11-to-14 c).After-group_number-number ∙ grind (arith, nat_tests))

-- ---- four days
pub returns-in-70-eq73-11-to-14 : goal.returns-in-70-eq73-11-to-14
returns-in-70-eq73-11-to-14 c = sym (days (goal.at.returns-in-70-eq73-11-to-14 c).After-group_number-number ∙ grind (arith, nat_tests))

pub returns-in-70-eq73-11-to-14-2 : goal.returns-in-70-eq73-11-to-14-2
returns-in-70-eq73-11-to-14-2 c = sym (days (goal.at.returns-in-70-eq73-11-to-14-2 c).After-group_number-number ∙ grind (arith, nat_tests))

pub returns-in-70-eq73-11-to-14-3 : goal.returns-in-70-eq73-11-to-14-3
returns-in-70-eq73-11-to-14-3 c = sym (days (goal.at.returns-in-70-eq73-11-to-14-3 c).After-group_number-number ∙ grind (arith, nat_tests))

-- ---- three days
pub returns-in_default : goal.returns-in_default
returns-in_default c = sym (days (goal.at.returns-in_default c).After-group_number-number ∙ grind (arith, nat_tests))

pub returns-in_default-2 : goal.returns-in_default-2
returns-in_default-2 c = sym (days (goal.at.returns-in_default-2 c).After-group_number-number ∙ grind (arith, nat_tests))

pub returns-in_default-3 : goal.returns-in_default-3
returns-in_default-3 c = sym (days (goal.at.returns-in_default-3 c).After-group_number-number ∙ grind (arith, nat_tests))

pub returns-in_default-4 : goal.returns-in_default-4
returns-in_default-4 c = sym (days (goal.at.returns-in_default-4 c).After-group_number-number ∙ grind (arith, nat_tests))

pub returns-in_default-5 : goal.returns-in_default-5
returns-in_default-5 c = sym (days (goal.at.returns-in_default-5 c).After-group_number-number ∙ grind (arith, nat_tests))

pub returns-in_default-6 : goal.returns-in_default-6
returns-in_default-6 c = sym (days (goal.at.returns-in_default-6 c).After-group_number-number ∙ grind (arith, nat_tests))

pub returns-in_default-7 : goal.returns-in_default-7
returns-in_default-7 c = sym (days (goal.at.returns-in_default-7 c).After-group_number-number ∙ grind (arith, nat_tests))

pub returns-in_default-8 : goal.returns-in_default-8
returns-in_default-8 c = sym (days (goal.at.returns-in_default-8 c).After-group_number-number ∙ grind (arith, nat_tests))

pub returns-in_default-9 : goal.returns-in_default-9
returns-in_default-9 c = sym (days (goal.at.returns-in_default-9 c).After-group_number-number ∙ grind (arith, nat_tests))

pub returns-in_default-10 : goal.returns-in_default-10
returns-in_default-10 c = sym (days (goal.at.returns-in_default-10 c).After-group_number-number ∙ grind (arith, nat_tests))

pub returns-in_default-11 : goal.returns-in_default-11
returns-in_default-11 c = sym (days (goal.at.returns-in_default-11 c).After-group_number-number ∙ grind (arith, nat_tests))
