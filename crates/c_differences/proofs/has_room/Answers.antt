-- Two tests, as the definition has them.
use Rattle.c_differences.specs.Found.{room_for}
use borrow.Author.Rules.{rules}
use Rattle.c_differences.proofs.has_room.Goals as goal

pub returns : goal.returns
unfolding room_for
returns c = search rules
