-- The arrays have room for 65,536 rows; a longer file than there may be is refused by its verdict.
use mathlib.Core.Path.{sym}
use Prim.Native.Nat.{ℕ}
use native.Mathlib.Omega.{arith}
use lib.ListN.{replicate, length-replicate}
use Rattle.reconcile_rows.proofs.RowsRan.{room-enough, at_least}
use Rattle.reconcile_rows.proofs.reconcile_rows.Goals as goal

pub returns-then-file-gt65537 : goal.returns-then-file-gt65537
returns-then-file-gt65537 c = λ g. absurd (omega (arith, g.size, c.if-file-gt65537.true))

pub with_lists-requires : goal.with_lists-requires
with_lists-requires c = (
  omega (arith, c.if-file-gt65537.false),
  room-enough _ (length-replicate {A = ℕ} 262144 0) (length-replicate {A = ℕ} 65536 0) (length-replicate {A = ℕ} 65536 0) (length-replicate {A = ℕ} 65536 0)
      (length-replicate {A = ℕ} 65536 0) (length-replicate {A = ℕ} 65536 0),
  at_least (replicate {A = ℕ} 65536 0) (length-replicate {A = ℕ} 65536 0),
)

pub returns : goal.returns
returns c = c.with_lists.ensures

pub slice_bounds-with_lists-end : goal.slice_bounds-with_lists-end
slice_bounds-with_lists-end c = sym (length-replicate {A = ℕ} 262144 0)

pub slice_bounds-with_lists-end-2 : goal.slice_bounds-with_lists-end-2
slice_bounds-with_lists-end-2 c = sym (length-replicate {A = ℕ} 65536 0)

pub slice_bounds-with_lists-end-3 : goal.slice_bounds-with_lists-end-3
slice_bounds-with_lists-end-3 c = sym (length-replicate {A = ℕ} 65536 0)

pub slice_bounds-with_lists-end-4 : goal.slice_bounds-with_lists-end-4
slice_bounds-with_lists-end-4 c = sym (length-replicate {A = ℕ} 65536 0)

pub slice_bounds-with_lists-end-5 : goal.slice_bounds-with_lists-end-5
slice_bounds-with_lists-end-5 c = sym (length-replicate {A = ℕ} 65536 0)

pub slice_bounds-with_lists-end-6 : goal.slice_bounds-with_lists-end-6
slice_bounds-with_lists-end-6 c = sym (length-replicate {A = ℕ} 65536 0)

pub slice_bounds-with_lists-end-7 : goal.slice_bounds-with_lists-end-7
slice_bounds-with_lists-end-7 c = sym (length-replicate {A = ℕ} 65536 0)
