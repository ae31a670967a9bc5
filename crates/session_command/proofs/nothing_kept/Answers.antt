-- Before the first command no O is accepted and the table is that of zeros, by the contract of `zero_table`.
use Rattle.session_command.specs.Sessions.{nothing_kept}
use mathlib.Core.Path.{refl}
use Rattle.session_command.proofs.nothing_kept.Goals as goal

pub returns : goal.returns
unfolding nothing_kept
returns c = rw c.zero_table-table.ensures refl
