-- The list has room, so the line holds the text of the input; what is refused is by its bytes.
use native.Mathlib.Omega.{arith}
use mathlib.Core.Path.{sym}
use lib.Seq.{length-take-le}
use Rattle.confirm_inputs.proofs.VerdictLength.{line-room, line-fits, line-is}
use Rattle.confirm_inputs.proofs.FirstBytes.{refused-is}
use Rattle.confirm_run.proofs.answer.Goals as goal

pub slice_bounds-bytes-end : goal.slice_bounds-bytes-end
slice_bounds-bytes-end c =
    let made = c.confirm_line-line.ensures in
    omega (arith, line-room _ _ _ c.requires _ made, line-fits _ _ _ c.requires _ made)

pub write_out-sent-requires : goal.write_out-sent-requires
write_out-sent-requires c =
    let made = c.confirm_line-line.ensures in
    (omega (arith, line-room _ _ _ c.requires _ made, line-fits _ _ _ c.requires _ made), line-is _ _ _ c.requires _ made)

pub returns : goal.returns
returns c =
    (c.write_out-sent.ensures, refused-is _ _ _ _ (line-is _ _ _ c.requires _ c.confirm_line-line.ensures) c.is_yes-refused.ensures)

pub slice_bounds-is_yes-end : goal.slice_bounds-is_yes-end
slice_bounds-is_yes-end c =
    let made = c.confirm_line-line.ensures in
    sym (length-take-le _ _ (omega (arith, line-room _ _ _ c.requires _ made, line-fits _ _ _ c.requires _ made)))
