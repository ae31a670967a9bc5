-- A command with the letter R or C: what `move_apart` promises of it is the roll or the close of the table.
use Rattle.delivery_calls.proofs.Making.{roll-made, close-made}
use Rattle.delivery_calls.proofs.command_apart.Goals as goal

pub returns : goal.returns
returns c = λ k. record {
  rolls = roll-made _ _ _ _ _ _ (c.move_apart-m.ensures k);
  closes = close-made _ _ _ _ _ _ (c.move_apart-m.ensures k);
}
