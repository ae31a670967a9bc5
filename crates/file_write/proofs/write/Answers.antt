-- The file is written where questions 3 to 8 and 25 are answered yes; with a refusal the buffer is as it was.
-- The `?` hands on the refusal of `judge`. No refusal means that there is room for the blocks (room-there), and the blocks put are the file.
use mathlib.Core.Path.{sym}
use Rattle.std.proofs.lemmas.Result.{err_from_is_err_and}
use Rattle.file_write.proofs.WriteAnswer.{write-refused, write-accepted, room-there}
use Rattle.file_write.proofs.write.Goals as goal

pub returns-in_err-judge : goal.returns-in_err-judge
returns-in_err-judge c =
    let p = err_from_is_err_and c.from_residual.result c.from_residual.ensures.1 in
    rw (p.1, p.2) (write-refused c.args.calendar c.args.records.now c.args.buffer.now _ c.in_err-judge.ensures)

pub put_blocks-requires : goal.put_blocks-requires
put_blocks-requires c =
    room-there _ _ c.args.buffer.now _ (sym c.in_ok-judge.ensures) c.blocks_in-blocks.ensures

pub returns : goal.returns
returns c =
    write-accepted _ _ _ _ _ (sym c.in_ok-judge.ensures) c.blocks_in-blocks.ensures
    c.put_blocks.ensures
