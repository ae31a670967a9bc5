-- A byte of the maps; one past the end counts as 0. Within the map it is what is read; past the end the definition's default.
use mathlib.Core.Path.{sym}
use lib.ListN.{get_or-eq_default}
use Rattle.calendar_checks.proofs.byte_of.Goals as goal

pub returns : goal.returns
returns c = sym (get_or-eq_default c.args.closed.now 0 c.if-at-closed.false)
