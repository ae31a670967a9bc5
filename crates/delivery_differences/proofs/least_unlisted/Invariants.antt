-- The loop keeps: the least of what is found so far and the keys from place j on is that of 65,536 and all of them; a turn is `least-next`, and past the
-- last row none is left (`least-done`).
use mathlib.Core.Path.{◌≡◌}
use Prim.Native.Nat.{◌≤◌}
use lib.ListN.{take, drop}
use Rattle.delivery_differences.specs.DifferencePasses.{row_keys_at, unlisted, least_of}
use Rattle.delivery_differences.proofs.least_unlisted.Given as goal

abbrev pub invariant-loop-place : goal.invariant-loop-place
invariant-loop-place l =
    (l.n ≤ 15) × (least_of (unlisted (take l.n l.maturities)) l.from (drop l.place-index (row_keys_at l.keys l.places)) l.least
    ≡ least_of (unlisted (take l.n l.maturities)) l.from (row_keys_at l.keys l.places) 65536)
