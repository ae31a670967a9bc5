-- Whether n bytes from a byte on are zero: those that the slice has are read, and the others count as 0 (`zeros-within`).
-- The first `return` is where it has them all.
use mathlib.Core.Path.{◌∙◌}
use Prim.Native.Nat.{◌+◌}
use lib.ListN.{length}
use native.Mathlib.Omega.{arith}
use Rattle.file_blocks.proofs.Zeros.{zeros-within}
use Rattle.file_blocks.proofs.are_zero.Goals as goal

pub returns-then-end-bytes : goal.returns-then-end-bytes
returns-then-end-bytes c =
    let args = c.args in
    let first = c.from-first in
    c.bits_of.ensures
    ∙ zeros-within args.bytes.now args.at args.n first.result (first.result + c.from.result) (omega (arith, first.ensures)) (omega (arith, c.from.ensures))

pub returns : goal.returns
returns c =
    let args = c.args in
    let first = c.from-first in
    c.bits_of-2.ensures
    ∙ zeros-within args.bytes.now args.at args.n c.min.result (length args.bytes.now) (omega (arith, first.ensures, c.min.ensures))
    (omega (arith, first.ensures, c.from.ensures, c.min.ensures))
