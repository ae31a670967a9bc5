-- `line_field` gives field k without its quotes: what `unquote` says, of the field that `raw_field` gives.
use mathlib.Core.Path.{◌∙◌, ap}
use Rattle.delivery_items.specs.Items.{unquoted, field_at}
use Rattle.delivery_items.proofs.line_field.Goals as goal

pub returns : goal.returns
unfolding field_at
returns c = c.unquote.ensures ∙ ap unquoted c.raw_field.ensures
