-- The first part without its mark, from line 1 on.
use native.Mathlib.Omega.{arith}
use Rattle.query_input.proofs.FirstPart.{first-handed}
use Rattle.query_input.proofs.write_first.Goals as goal

pub slice_bounds-write_part-count : goal.slice_bounds-write_part-count
slice_bounds-write_part-count c = omega (arith, c.mark_length-mark.ensures.1)

pub slice_bounds-write_part-start : goal.slice_bounds-write_part-start
slice_bounds-write_part-start c = omega (arith, c.mark_length-mark.ensures.1)

pub slice_bounds-write_part-end : goal.slice_bounds-write_part-end
slice_bounds-write_part-end c = omega (arith, c.mark_length-mark.ensures.1)

pub write_part-requires : goal.write_part-requires
write_part-requires c =
    c.requires

pub returns : goal.returns
returns c = λ e.
    first-handed _ _ _ _ _ _ _ _ _ c.empty_long_line-line.ensures c.nothing_sent-sent.ensures.1
    c.mark_length-mark.ensures.0 (c.write_part.ensures e)
