-- The loop keeps (`Printing`): the first `length` bytes and the lines from `next` on are all lines from `from` on, `lines` counts those written, the
-- buffer is unchanged past `length`, and `next` is a key that differs or 65,536. Each round moves `next` on, so it ends.
use Prim.Native.Nat.{◌-◌}
use lib.ListN.{take}
use Rattle.delivery_differences.specs.Differences.{rows_at}
use Rattle.delivery_reports.proofs.ReportLines.{Printing}
use Rattle.delivery_reports.proofs.print_differences.Given as goal

-- ---- what the loop keeps
abbrev pub invariant-loop-kind : goal.invariant-loop-kind
invariant-loop-kind l =
    Printing l.kind l.id (take l.n l.listed) (rows_at l.keys l.days l.fulls l.numbers l.backs l.places) l.from l.initial.out l.next l.length l.lines l.out

abbrev pub decreases-loop-kind : goal.decreases-loop-kind
decreases-loop-kind l = 65536 - l.next
