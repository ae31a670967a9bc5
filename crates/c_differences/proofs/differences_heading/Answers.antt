-- The library's line, flat.
use mathlib.Core.Path.{◌∙◌, ap}
use Rattle.c_delivery.specs.Delivered.{text_line}
use Rattle.c_differences.proofs.differences_heading.Goals as goal

pub returns : goal.returns
returns c = c.text_line.ensures ∙ ap text_line c.heading_line.ensures.is
