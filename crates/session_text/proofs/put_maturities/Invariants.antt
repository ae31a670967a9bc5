-- The loop keeps: the lines of the maturities so far are written, and the next place is at most their width after the first. The widths rise with their
-- number (`lines-rise`), so each line has room; after the last one there are n (`lines-done`).
use Rattle.session_text.specs.TermsText.{maturities_text, lines_width}
use Rattle.session_text.specs.Buffer.{Written}
use lib.ListN.{length}
use Prim.Native.Nat.{◌+◌, ◌≤◌}
use Rattle.session_text.proofs.put_maturities.Given as goal

-- ---- what the loop keeps
abbrev pub invariant-loop-m : goal.invariant-loop-m
invariant-loop-m l =
    (l.n ≤ 15) × (lines_width l.kind l.n ≤ 465) × (l.at + 465 ≤ length l.initial.out) × (l.m-index ≤ l.n) × (l.next ≤ l.at + lines_width l.kind l.m-index)
    × Written l.initial.out l.out l.at l.next (maturities_text l.kind l.m-index l.fn.maturities)
