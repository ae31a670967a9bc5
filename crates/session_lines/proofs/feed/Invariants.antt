-- The loop keeps: the line so far, fed with the bytes that are left, is the first line fed with all. A full line takes no more (`fed-full`); a turn is
-- `fed-step`, and at the end nothing is left (`fed-done`).
use mathlib.Core.Path.{◌≡◌}
use lib.ListN.{drop}
use Rattle.session_lines.specs.CommandLines.{fed}
use Rattle.session_lines.proofs.feed.Given as goal

abbrev pub invariant-loop-byte : goal.invariant-loop-byte
invariant-loop-byte l =
    fed (record { bytes = l.held; length = l.n }) (drop l.byte-index l.bytes) ≡ fed (record { bytes = l.initial.held; length = l.initial.n }) l.bytes
