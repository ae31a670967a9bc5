-- Three tests, as the definition has them.
use Rattle.c_delivery.specs.Delivered.{ready}
use borrow.Author.Rules.{rules}
use Rattle.c_delivery.proofs.is_ready.Goals as goal

pub returns : goal.returns
unfolding ready
returns c = search rules
