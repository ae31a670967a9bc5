-- The loop keeps: n is at most 15 and within the list, and the least of what is found so far and the keys from i on is that of `found` and all of
-- them; a turn is `least-next`, and at n none is left (`least-done`).
use mathlib.Core.Path.{◌≡◌}
use Prim.Native.Nat.{◌≤◌}
use lib.ListN.{length, take, drop}
use Rattle.delivery_differences.specs.Differences.{differs_in, rows_at}
use Rattle.delivery_differences.specs.DifferencePasses.{maturity_keys, least_of}
use Rattle.delivery_differences.proofs.least_listed.Given as goal

-- ---- the loop's invariant and its measure
abbrev pub invariant-loop-i : goal.invariant-loop-i
invariant-loop-i l =
    (l.n ≤ length l.maturities) × (l.n ≤ 15) × (least_of (differs_in (take l.n l.maturities) (rows_at l.keys l.days l.fulls l.numbers l.backs l.places)) l.from
    (drop l.i (maturity_keys (take l.n l.maturities))) l.least
    ≡ least_of (differs_in (take l.n l.maturities) (rows_at l.keys l.days l.fulls l.numbers l.backs l.places)) l.from (maturity_keys (take l.n l.maturities)) l.found)
