-- The line with no bytes is the definition's: by computing.
use mathlib.Core.Path.{refl}
use Rattle.delivery_items.specs.Items.{empty_long}
use Rattle.delivery_items.proofs.empty_long_line.Goals as goal

pub returns : goal.returns
unfolding empty_long
returns c = refl
