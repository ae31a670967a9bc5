-- The last line is taken in, and what is said of the whole list is its file, or why there is none; the status is by that.
use native.Mathlib.Omega.{arith}
use mathlib.Core.Path.{refl, sym}
use Rattle.file_text_read.proofs.ListLines.{composed-fits}
use Rattle.file_text_told.proofs.Whole.{of-input, line-short}
use Rattle.compose_run.proofs.ComposeStatus.{compose-ran}
use Rattle.compose_run.proofs.answer.Goals as goal

pub hand_out-handed-requires : goal.hand_out-handed-requires
hand_out-handed-requires c =
    let pre = c.requires in
    let room = sym c.large_buffer-file.ensures in
    let p = c.compose-c.ensures in
    let last = c.take_last-taken.ensures in
    let made = c.said-told.ensures in
    let fits = composed-fits _ _ _ p.0 in (
      pre.0,
      pre.1,
      omega (arith, fits),
      omega (arith, fits, room),
      line-short _ _ _ _ _ _ pre.2 last _ _ _ room p.0 p.1 _ made,
      of-input _ _ _ _ _ _ pre.2 last _ _ _ room p.0 p.1 _ made,
    )

pub returns : goal.returns
returns c =
    let h = c.hand_out-handed.ensures in
    (refl, compose-ran _ _ _ _ h.0 h.1 (rw (← c.is_open.ensures) c.status-status.ensures))
