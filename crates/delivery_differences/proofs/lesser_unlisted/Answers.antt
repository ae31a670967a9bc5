-- `lesser_unlisted` keeps what was found where the key is below `from` (`too_small`), not below what was found (`too_large`)
-- or listed (`passing`); else the key is the lesser (`failing`). Whether it is listed is what `right_of` says.
use mathlib.Core.Path.{◌∙◌, sym, ap}
use Rattle.delivery_differences.specs.DifferencePasses.{unlisted}
use mathlib.Core.Bool.{not}
use Rattle.delivery_differences.specs.Differences.{Right}
use Rattle.delivery_differences.proofs.KeyRows.{listed-is}
use Rattle.delivery_differences.proofs.DifferencePasses.{too_small, too_large, passing, failing}
use Rattle.delivery_differences.proofs.lesser_unlisted.Goals as goal

pub returns-then-found-from : goal.returns-then-found-from
returns-then-found-from c = too_small _ _ _ _ c.if-found-from.true

pub returns-then-least-found : goal.returns-then-least-found
returns-then-least-found c = too_large _ _ _ _ c.if-least-found.true

pub returns-then-is_some : goal.returns-then-is_some
unfolding unlisted
returns-then-is_some c = passing _ _ _ _ (ap (λ (r : Right). not r.listed) (sym c.right_of.ensures)
    ∙ ap not (listed-is _ ∙ sym c.is_some.ensures ∙ c.if-is_some.true))

pub returns : goal.returns
unfolding unlisted
returns c = failing _ _ _ _ c.if-found-from.false c.if-least-found.false (ap (λ (r : Right). not r.listed) (sym c.right_of.ensures)
    ∙ ap not (listed-is _ ∙ sym c.is_some.ensures ∙ c.if-is_some.false))
