-- The loop keeps: the table of the rest and its maps is the one that the calls so far leave, the buffer holds their refusals, and question 10 has
-- the answer that it had at the start.
use mathlib.Core.Path.{◌≡◌}
use Prim.Native.Nat.{◌≤◌}
use lib.ListN.{length}
use Rattle.table.specs.Table.{sound}
use Rattle.session_apart.specs.Apart.{table_with}
use Rattle.delivery_tables.proofs.NoticesOnTable.{Taking}
use Rattle.delivery_tables.proofs.run_notices.Given as goal

abbrev pub invariant-loop-i : goal.invariant-loop-i
invariant-loop-i l =
    (l.count ≤ length l.initial.refusals) × (l.i ≤ l.count) × (l.ten ≡ sound (table_with l.rest l.closed l.exchange))
    × Taking l.id l.calls l.ids l.initial.refusals (table_with l.initial.rest l.initial.closed l.initial.exchange) l.refusals (table_with l.rest l.closed l.exchange) l.i
