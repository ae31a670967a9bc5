-- All bytes at the start of the buffer are written, or the output is no longer open.
use mathlib.Core.Path.{◌∙◌, ap}
use lib.Seq.{length-take-le}
use Rattle.session_parts.specs.TermsParts.{counted}
use Rattle.query_input.proofs.output.write_out.Goals as goal

pub returns : goal.returns
returns c = λ e.
    (c.write_next.ensures e).1 ∙ ap (counted c.args.sent.bytes)
    (length-take-le c.args.to.length c.args.out.now c.requires.0)
