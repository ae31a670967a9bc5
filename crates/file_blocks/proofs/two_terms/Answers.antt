-- Bytes i and 255 + i, each times its place from 1. The later place's product is the earlier's and 255 times the byte (`term-later`); each product is
-- at most 65,025 (`small`), so it fits 16 bits and the sum is at most 195,075.
use Rattle.file_blocks.proofs.Files.{term-most, term-later}
use Prim.Native.Nat.{◌+◌, ◌*◌, ◌≤◌}
use native.Mathlib.Omega.{arith}
use Rattle.file_blocks.proofs.two_terms.Goals as goal

-- ---- the two products are small
small : (c : goal.Start) → (c.args.i + 1) * c.args.first ≤ 65025
small c = term-most _ _ c.requires.0 c.requires.1

small-2 : (c : goal.Start) → (c.args.i + 1) * c.args.second ≤ 65025
small-2 c = term-most _ _ c.requires.0 c.requires.2

-- ---- the sizes
pub overflow_mul-result : goal.overflow_mul-result
overflow_mul-result c = omega (arith, small c)

pub overflow_cast-result : goal.overflow_cast-result
overflow_cast-result c = omega (arith, small c)

pub overflow_mul-result-2 : goal.overflow_mul-result-2
overflow_mul-result-2 c = omega (arith, small-2 c)

pub overflow_cast-result-2 : goal.overflow_cast-result-2
overflow_cast-result-2 c = omega (arith, small-2 c)

pub overflow_add-result-3 : goal.overflow_add-result-3
overflow_add-result-3 c = omega (arith, small c, small-2 c)

pub overflow_add-result-4 : goal.overflow_add-result-4
overflow_add-result-4 c = omega (arith, small c, small-2 c)

-- ---- the sum
pub returns : goal.returns
returns c = (omega (arith, term-later c.args.i c.args.second), omega (arith, small c, small-2 c, c.requires))
