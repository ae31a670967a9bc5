-- Both loops keep `Walking`: `complete` is yes; the places listed and those still to fill are a complete listing's, at most 15; and filling those,
-- the rest of this step's and the later steps', from `from` on gives what the start gives. A place is filled by `takes`, a key from `end` on leaves
-- both loops (`stops`), and after the last step `finishes` gives the listing.
use Rattle.listing.proofs.Fresh.{mat_of}
use Rattle.listing.specs.Months.{set_at, rule_of}
use Rattle.listing.proofs.ListLoops.{rest, Walking}
use Rattle.calendar.specs.Trading.{calendar_with}
use Rattle.listing.specs.Rules.{front}
use lib.ListN.{replicate}
use mathlib.Core.List.{◌++◌}
use Prim.Native.Nat.{◌+◌, ◌-◌, ◌≤◌}
use Rattle.listing.proofs.list_in.Given as goal

abbrev pub invariant-loop-j : goal.invariant-loop-j
invariant-loop-j l =
    Walking (mat_of (calendar_with l.cover l.closed) l.kind l.group) l.end l.row
    (front (rule_of (calendar_with l.cover l.closed) l.kind l.group) (calendar_with l.cover l.closed) l.date) l.maturities l.listed l.from l.complete
    (replicate (l.count - l.j) (set_at l.row l.step) ++ rest l.row (l.step + 1)) × (l.count ≤ 255)

abbrev pub invariant-steps : goal.invariant-steps
invariant-steps l =
    Walking (mat_of (calendar_with l.cover l.closed) l.kind l.group) l.end l.row
    (front (rule_of (calendar_with l.cover l.closed) l.kind l.group) (calendar_with l.cover l.closed) l.date) l.maturities l.listed l.from l.complete (rest l.row l.step)
