-- The six lists have the row as row `i`: four bytes of the id from 4 × `i` on, and an entry at `i` in each of the other five.
-- The lists after the writes are those of `RowStored` by computing; the mark of a full row cites its call. The lengths required bound the writes.
use mathlib.Core.Path.{refl}
use native.Mathlib.Omega.{arith}
use lib.ListN.{length-set}
use Rattle.delivery_receipts.proofs.store_row.Goals as goal

-- ---- the four bytes of the id
pub bounds-ids-at-2 : goal.bounds-ids-at-2
bounds-ids-at-2 c = simp length-set (omega arith)

pub bounds-ids-at-3 : goal.bounds-ids-at-3
bounds-ids-at-3 c = simp length-set (omega arith)

pub bounds-ids-at-4 : goal.bounds-ids-at-4
bounds-ids-at-4 c = simp length-set (omega arith)

-- ---- the row
pub returns : goal.returns
returns c = record { ids = refl; keys = refl; days = refl; fulls = rw c.full_mark.ensures refl; numbers = refl; backs = refl }
