-- Question 25: the buffer is long enough for so many blocks, and they are at most 65536 bytes.
-- More than 128 blocks are more than 65536 bytes: the first `return`. Of at most 128 the question is left of the room alone: the second.
use mathlib.Core.Path.{sym}
use mathlib.Core.Bool.{and-true, and-false}
use Prim.Native.Nat.{◌*◌}
use native.Mathlib.Omega.{arith}
use lib.Dec.{leb}
use borrow.Author.Tests.{le-leb, lt-leb}
use Rattle.file_draft.proofs.has_room.Goals as goal

pub returns-then-blocks-gt128 : goal.returns-then-blocks-gt128
returns-then-blocks-gt128 c =
    let blocks = c.args.blocks in
    rw (lt-leb (512 * blocks) 65536 (omega arith)) (sym (and-false (leb (512 * blocks) c.args.room)))

pub returns : goal.returns
returns c =
    let blocks = c.args.blocks in
    rw (le-leb (512 * blocks) 65536 (omega arith)) (sym (and-true (leb (512 * blocks) c.args.room)))
