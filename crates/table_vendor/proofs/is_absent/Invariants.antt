-- The loop keeps: n is the number of entries, and the key stands from entry j on as often as from the first one asked. An entry with the key ends it
-- with no (`not-gone`); after the last one it stands no time (`gone`).
use Rattle.table_vendor.specs.VendorPasses.{entry_count}
use Rattle.table_vendor.specs.Vendor.{entries_of, times}
use mathlib.Core.Path.{◌≡◌}
use Prim.Native.Nat.{◌*◌, ◌≤◌}
use lib.ListN.{drop}
use Rattle.table_vendor.proofs.is_absent.Given as goal

-- ---- what the loop keeps
abbrev pub invariant-loop-j : goal.invariant-loop-j
invariant-loop-j l = (l.n ≡ entry_count l.list) × (2 * l.n ≤ 18446744073709551616)
    × (times (drop l.j (entries_of l.list)) l.key ≡ times (drop l.from (entries_of l.list)) l.key)
