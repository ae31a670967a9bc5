-- The kind with a number, or the refusal 7. Each of the cases 0 to 5 is computed from the definition; the last number is above 5, and none has it
-- (`kind-missing`).
use mathlib.Core.Path.{sym}
use native.Mathlib.Omega.{arith}
use borrow.Author.Tests.{lt-leb}
use Rattle.questions.specs.Questions.{first_no, answer}
use Rattle.product.specs.Fields.{kind_of, kind_call}
use Rattle.product.proofs.KindNumbers.{kind-missing}
use Rattle.product.proofs.KindTryFromU8.try_from.Goals as goal

pub returns-in-0 : goal.returns-in-0
unfolding kind_call kind_of answer first_no
returns-in-0 c = rw c.in-0.is

pub returns-in-1 : goal.returns-in-1
unfolding kind_call kind_of answer first_no
returns-in-1 c = rw c.in-1.is

pub returns-in-2 : goal.returns-in-2
unfolding kind_call kind_of answer first_no
returns-in-2 c = rw c.in-2.is

pub returns-in-3 : goal.returns-in-3
unfolding kind_call kind_of answer first_no
returns-in-3 c = rw c.in-3.is

pub returns-in-4 : goal.returns-in-4
unfolding kind_call kind_of answer first_no
returns-in-4 c = rw c.in-4.is

pub returns-in-5 : goal.returns-in-5
unfolding kind_call kind_of answer first_no
returns-in-5 c = rw c.in-5.is

pub returns-in_default : goal.returns-in_default
returns-in_default c =
    let number = c.args.number in
    sym (kind-missing number (lt-leb number 5 (grind arith)))
