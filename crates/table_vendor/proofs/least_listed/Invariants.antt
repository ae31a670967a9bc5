-- The loop keeps: looking on from place i with the least so far gives what looking from the first place with 65,536 gives (`place-next`); from n on
-- nothing is left, and it is the least so far (`place-done`).
use Rattle.table_vendor.specs.VendorPasses.{least_listed}
use Rattle.table_vendor.specs.Vendor.{entries_of}
use mathlib.Core.Path.{◌≡◌}
use Prim.Native.Nat.{◌≤◌}
use lib.ListN.{length, take, drop}
use Rattle.table_vendor.proofs.least_listed.Given as goal

-- ---- what the loop keeps
abbrev pub invariant-loop-i : goal.invariant-loop-i
invariant-loop-i l =
    (l.n ≤ length l.maturities) × (l.n ≤ 15) × (least_listed (entries_of l.list) (drop l.i (take l.n l.maturities)) l.least
    ≡ least_listed (entries_of l.list) (take l.n l.maturities) 65536)
