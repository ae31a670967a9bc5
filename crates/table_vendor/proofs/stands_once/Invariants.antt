-- The loop keeps: n is the number of entries, and from entry j on the key stands as often, and first with the same day, as in the whole list. At the
-- first entry with it the day decides, then whether it is absent after; without one it is no.
use Rattle.table_vendor.specs.VendorPasses.{entry_count}
use Rattle.table_vendor.specs.Vendor.{entries_of, times, vendor_day_in}
use mathlib.Core.Path.{◌≡◌}
use Prim.Native.Nat.{◌*◌, ◌≤◌}
use lib.ListN.{drop}
use Rattle.table_vendor.proofs.stands_once.Given as goal

-- ---- what the loop keeps
abbrev pub invariant-loop-j : goal.invariant-loop-j
invariant-loop-j l = (l.n ≡ entry_count l.list) × (2 * l.n ≤ 18446744073709551616) × (times (drop l.j (entries_of l.list)) l.key ≡ times (entries_of l.list) l.key)
    × (vendor_day_in (drop l.j (entries_of l.list)) l.key ≡ vendor_day_in (entries_of l.list) l.key)
