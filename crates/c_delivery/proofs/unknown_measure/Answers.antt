-- The library's line, flat.
use mathlib.Core.Path.{◌∙◌, ap}
use Rattle.c_delivery.specs.Delivered.{text_line}
use Rattle.c_delivery.proofs.unknown_measure.Goals as goal

pub returns : goal.returns
returns c = c.text_line.ensures ∙ ap text_line c.unknown_measure_line.ensures.is
