-- The library's line, flat.
use mathlib.Core.Path.{◌∙◌, ap}
use Rattle.c_delivery.specs.Delivered.{text_line}
use Rattle.c_delivery.proofs.refused_call.Goals as goal

pub returns : goal.returns
returns c = c.text_line.ensures ∙ ap text_line c.refusal_line.ensures.is
