-- Question 7, the size in a record: at least one share and at most 9,999 ten-thousandths. The definition's other test, at most 65,535 shares, holds
-- of every number of two bytes.
use Prim.Native.Nat.{◌≤◌}
use native.Mathlib.Omega.{arith}
use mathlib.Core.Bool.{and-true}
use borrow.Author.Tests.{le-leb}
use Rattle.product.proofs.file_size_right.Goals as goal

pub returns : goal.returns
returns c = let h : c.args.shares ≤ 65535 = omega arith in simp (le-leb _ _ h, and-true)
