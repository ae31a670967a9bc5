-- The buffer has room for the refusals.
use Rattle.delivery_judging.proofs.Places.{listed-is}
use borrow.Author.Rules.{rules}
use Rattle.delivery_judging.proofs.listed_of.Goals as goal

pub returns : goal.returns
returns c = listed-is _ _ _ _ _ _ _ _ _ _ (search rules) c.listed_at.ensures
