-- `put_rows` writes the rows of the first n maturities. The loop keeps: the rows of the first i stand from `at` up to `next` (`Putting`).
-- The next row fits (`fits`), a turn puts it after them (`goes`), and at n all stand there (`ends`).
use mathlib.Core.Path.{refl}
use native.Mathlib.Omega.{arith}
use Rattle.delivery_rows.proofs.RowsInBuffer.{begins, fits, goes, ends}
use Rattle.delivery_rows.proofs.put_rows.Goals as goal

-- ---- before the loop
pub loop-i-init : goal.loop-i-init
loop-i-init c = begins _ _ _ _ _

-- ---- a turn
pub loop-i-preserved : goal.loop-i-preserved
loop-i-preserved c =
    let put = c.append-next.ensures.put (fits _ _ _ _ _ _ _ _ c.loop-i.invariant (omega (arith, c.requires.0, c.loop-i-test.true)) c.requires.1
    c.well_formed.1.1.0.1.0.1 _ c.row_line.ensures) in
    goes _ _ _ _ _ _ _ _ c.loop-i.invariant (omega (arith, c.requires.0, c.loop-i-test.true)) c.requires.1 c.well_formed.1.1.0.1.0.1 _
    c.row_line.ensures _ _ _ put.0 put.1 refl

-- ---- the end
pub shape_of-out : goal.shape_of-out
shape_of-out c = c.loop-i.invariant.long

pub returns : goal.returns
returns c = ends _ _ _ _ _ _ _ _ _ c.loop-i.invariant (omega (arith, c.loop-i-test.false))
