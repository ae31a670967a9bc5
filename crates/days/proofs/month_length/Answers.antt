-- The length of a month, 0 for a number that is none. February asks `is_leap_year`; of any other number the arm that it took
-- tells which tests of the definition it passes.
use Rattle.std.proofs.lemmas.Bool.Decides.{nat_tests}
use Rattle.days.specs.Gregorian.{length_in, month_length}
use Rattle.questions.specs.Search.{one_of}
use native.Mathlib.Omega.{arith}
use Rattle.questions.proofs.Bools.{said-no, said-yes}
use Rattle.days.proofs.month_length.Goals as goal

pub returns-then-is_leap_year : goal.returns-then-is_leap_year
unfolding month_length length_in
returns-then-is_leap_year c = simp (c.in-2.is, said-yes c.is_leap_year.ensures c.if-is_leap_year.true)

pub returns-else-is_leap_year : goal.returns-else-is_leap_year
unfolding month_length length_in
returns-else-is_leap_year c = simp (c.in-2.is, said-no c.is_leap_year.ensures c.if-is_leap_year.false)

pub returns-in-4 : goal.returns-in-4
unfolding month_length length_in one_of
returns-in-4 c = grind (arith, nat_tests)

pub returns-in_default : goal.returns-in_default
unfolding month_length length_in one_of
returns-in_default c = grind (arith, nat_tests)

pub returns-in_default-2 : goal.returns-in_default-2
unfolding month_length length_in one_of
returns-in_default-2 c = grind (arith, nat_tests)

pub returns-in-1 : goal.returns-in-1
unfolding month_length length_in one_of
returns-in-1 c = grind (arith, nat_tests)

pub returns-in-1-2 : goal.returns-in-1-2
unfolding month_length length_in one_of
returns-in-1-2 c = grind (arith, nat_tests)
