-- `is_other_sort` says whether a name's form is not that of the product: the definition's two cases, each by the test.
use mathlib.Core.Path.{refl}
use Rattle.delivery_answers.proofs.is_other_sort.Goals as goal

pub returns-then-friday : goal.returns-then-friday
returns-then-friday c = rw c.if-friday.true refl

pub returns : goal.returns
returns c = rw c.if-friday.false refl
