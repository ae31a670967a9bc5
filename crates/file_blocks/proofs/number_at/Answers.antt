-- The big-endian number in two bytes, below 65,536: what `from_be_bytes` gives of the two bytes.
use Rattle.std.proofs.Common.{◌≡◌, ◌+◌, ◌*◌}
use native.Mathlib.Omega.{arith}
use Rattle.file_blocks.specs.Blocks.{number_at}
use Rattle.file_blocks.proofs.number_at.Goals as goal

pub returns : goal.returns
unfolding number_at
returns c =
    let both : c.from_be_bytes.result ≡ c.byte_at.result * 256 + c.byte_at-2.result = c.from_be_bytes.ensures in
    let e = rw c.from-first.ensures at c.byte_at.ensures in
    let f = rw c.from-first.ensures at c.byte_at-2.ensures in
    omega (arith, both, e, f, c.from.ensures)
