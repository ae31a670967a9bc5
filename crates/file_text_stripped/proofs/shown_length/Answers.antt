-- The bytes of a line that are shown: all that are held where the line is longer, else those before the blanks at its end.
use mathlib.Core.Path.{◌≡◌, sym}
use native.Mathlib.Omega.{arith}
use lib.ListN.{length}
use lib.Seq.{length-take-le}
use Rattle.file_text_stripped.proofs.LineHeld.{shown-over, shown-whole}
use Rattle.file_text_stripped.proofs.shown_length.Goals as goal

pub returns-then-line : goal.returns-then-line
returns-then-line c =
    let h = c.held_length-n.ensures in
    (h.0, shown-over c.args.line c.held_length-n.result h.1 c.if-line.true)

pub slice_bounds-bytes-end : goal.slice_bounds-bytes-end
slice_bounds-bytes-end c =
    let l : length c.args.line.bytes ≡ 255 = c.well_formed.0.1.1.0.1.0.1 in
    omega (arith, l, c.held_length-n.ensures.0)

pub slice_bounds-trimmed_length-end : goal.slice_bounds-trimmed_length-end
slice_bounds-trimmed_length-end c =
    let l : length c.args.line.bytes ≡ 255 = c.well_formed.0.1.1.0.1.0.1 in
    sym (length-take-le _ _ (omega (arith, l, c.held_length-n.ensures.0)))

pub returns : goal.returns
returns c =
    let l : length c.args.line.bytes ≡ 255 = c.well_formed.0.1.1.0.1.0.1 in
    let h = c.held_length-n.ensures in
    let t = c.trimmed_length.ensures in
    shown-whole c.args.line c.held_length-n.result h.1 h.0 l c.if-line.false _ t.1 t.0
