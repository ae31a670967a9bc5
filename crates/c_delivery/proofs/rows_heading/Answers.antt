-- The library's line, flat.
use mathlib.Core.Path.{◌∙◌, ap}
use Rattle.c_delivery.specs.Delivered.{text_line}
use Rattle.c_delivery.proofs.rows_heading.Goals as goal

pub returns : goal.returns
returns c = c.text_line.ensures ∙ ap text_line c.delivery_heading_line.ensures.is
