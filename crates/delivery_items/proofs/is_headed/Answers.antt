-- `is_headed` says whether the first field is `product`: what `is_product_word` says of the field that `line_field` gives.
use mathlib.Core.Path.{◌∙◌, ap}
use Rattle.delivery_items.specs.Items.{is_product_word, headed}
use Rattle.delivery_items.proofs.is_headed.Goals as goal

pub returns : goal.returns
unfolding headed
returns c = c.is_product_word.ensures ∙ ap is_product_word c.line_field.ensures
