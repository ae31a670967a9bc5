-- A line of more than 255 bytes is judged by its first byte, any other by the bytes that are held.
use mathlib.Core.Path.{◌≡◌, ◌∙◌, sym}
use native.Mathlib.Omega.{arith}
use lib.ListN.{length}
use lib.Seq.{length-take-le}
use Rattle.delivery_queries.proofs.Answering.{asks-comment, asks-long, asks-short}
use Rattle.delivery_queries.proofs.held_asks.Goals as goal

pub returns-then-bytes-eq35 : goal.returns-then-bytes-eq35
returns-then-bytes-eq35 c = c.bare_held.ensures ∙ asks-comment _ c.if-line.true c.if-bytes-eq35.true

pub returns-then-line : goal.returns-then-line
returns-then-line c = c.bare_held-then-line.ensures ∙ asks-long _ c.if-line.true c.if-bytes-eq35.false

pub slice_bounds-bytes-end : goal.slice_bounds-bytes-end
slice_bounds-bytes-end c =
    let l : length c.args.line.bytes ≡ 255 = c.well_formed.0.1.1.0.1.0.1 in
    omega (arith, l, c.held_length-n.ensures.0)

pub slice_bounds-question_of-end : goal.slice_bounds-question_of-end
slice_bounds-question_of-end c =
    let l : length c.args.line.bytes ≡ 255 = c.well_formed.0.1.1.0.1.0.1 in
    sym (length-take-le _ _ (omega (arith, c.held_length-n.ensures.0, l)))

pub returns : goal.returns
returns c =
    c.question_of.ensures ∙ asks-short c.args.line c.if-line.false c.held_length-n.result
    c.held_length-n.ensures.1
