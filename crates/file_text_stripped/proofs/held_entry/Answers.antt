-- The bytes that are shown, without the mark where the line is the first, say what the line says.
use mathlib.Core.Path.{◌≡◌, sym}
use native.Mathlib.Omega.{arith}
use lib.ListN.{length}
use lib.Seq.{length-take-le}
use Rattle.file_text_stripped.proofs.LineHeld.{said-held}
use Rattle.file_text_stripped.proofs.held_entry.Goals as goal

pub slice_bounds-bytes-end : goal.slice_bounds-bytes-end
slice_bounds-bytes-end c =
    let l : length c.args.line.bytes ≡ 255 = c.well_formed.1.0.1.1.0.1.0.1 in
    omega (arith, l, c.shown_length-n.ensures.0)

pub slice_bounds-bare_text-end : goal.slice_bounds-bare_text-end
slice_bounds-bare_text-end c =
    let l : length c.args.line.bytes ≡ 255 = c.well_formed.1.0.1.1.0.1.0.1 in
    sym (length-take-le _ _ (omega (arith, l, c.shown_length-n.ensures.0)))

pub returns : goal.returns
returns c =
    said-held c.args.first c.args.line c.shown_length-n.result c.shown_length-n.ensures.1 _
    c.bare_text.ensures _ c.text_said.ensures
