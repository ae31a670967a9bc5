-- The loop keeps: n is the number of entries, and looking on from entry j with the least so far gives what looking at the whole list with the key
-- found before gives (`other-next`); after the last entry it is the least so far (`other-done`).
use Rattle.table_vendor.specs.VendorPasses.{entry_count, least_other}
use Rattle.listing.specs.Months.{places_of_kind}
use Rattle.table_vendor.specs.Vendor.{entries_of}
use mathlib.Core.Path.{◌≡◌}
use Prim.Native.Nat.{◌*◌, ◌≤◌}
use lib.ListN.{take, drop}
use Rattle.table_vendor.proofs.least_other.Given as goal

-- ---- what the loop keeps
abbrev pub invariant-loop-j : goal.invariant-loop-j
invariant-loop-j l =
    (l.n ≡ entry_count l.list) × (2 * l.n ≤ 18446744073709551616)
    × (least_other (take (places_of_kind l.kind) l.maturities) (drop l.j (entries_of l.list)) l.least
    ≡ least_other (take (places_of_kind l.kind) l.maturities) (entries_of l.list) l.found)
