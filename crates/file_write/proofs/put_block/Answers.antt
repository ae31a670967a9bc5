-- The buffer afterwards has the block at its place and is otherwise as it was.
use mathlib.Core.Path.{◌≡◌, sym}
use Prim.Native.Nat.{◌+◌, ◌-◌}
use native.Mathlib.Omega.{arith}
use lib.Seq.{drop-drop}
use Rattle.std.proofs.lemmas.List.Edits.{paste_all}
use Rattle.file_write.proofs.put_block.Goals as goal

pub returns : goal.returns
returns c =
    let e : c.args.at + 512 - c.args.at ≡ 512 = omega arith in
    rw (e, c.copy_from_slice.ensures.after, drop-drop 512 c.args.at c.args.buffer.now)
    (sym (paste_all c.args.buffer.now c.args.at c.args.block 512 (omega arith)))
