-- `call_number` gives number i of a list, and 0 past its end: within the list by the read, past it `get_or` gives its default.
use mathlib.Core.Path.{sym}
use native.Mathlib.Omega.{arith}
use lib.ListN.{get_or-eq_default}
use Rattle.delivery_tables.proofs.call_number.Goals as goal

pub returns : goal.returns
returns c = sym (get_or-eq_default c.args.list.now 0 (omega arith))
