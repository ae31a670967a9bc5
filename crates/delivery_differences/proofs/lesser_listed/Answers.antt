-- `lesser_listed` keeps what was found where the key is below `from` (`too_small`), not below what was found (`too_large`) or
-- does not differ (`passing`); else the key is the lesser (`failing`). Whether it differs is what `told_of` says.
use mathlib.Core.Path.{◌≡◌, refl, ◌∙◌, sym, ap}
use denote.Enum.Bare.{sameb}
use Rattle.delivery_differences.specs.contracts.Why.{the_type}
use Rattle.delivery_differences.specs.declared.Why.{Why}
use Rattle.delivery_differences.specs.declared.Why.TheVariants.{Same, Missing, Extra, Twice, Day, Number, DaysBack}
use Rattle.delivery_differences.specs.Differences.{is_same, differs_in, difference_of}
use mathlib.Core.Bool.{not}
use Rattle.delivery_differences.specs.declared.Difference.{Difference}
use Rattle.delivery_differences.proofs.DifferencePasses.{too_small, too_large, passing, failing}
use Rattle.delivery_differences.proofs.lesser_listed.Goals as goal

-- the equality of reasons with `Same` is whether a key does not differ
same-is : (w : Why) → sameb the_type w Same ≡ is_same w
same-is Same = refl
same-is Missing = refl
same-is Extra = refl
same-is Twice = refl
same-is Day = refl
same-is Number = refl
same-is DaysBack = refl

pub returns-then-found-from : goal.returns-then-found-from
returns-then-found-from c = too_small _ _ _ _ c.if-found-from.true

pub returns-then-least-found : goal.returns-then-least-found
returns-then-least-found c = too_large _ _ _ _ c.if-least-found.true

pub returns-then-eq : goal.returns-then-eq
unfolding differs_in difference_of
returns-then-eq c = passing _ _ _ _ (ap (λ (d : Difference). not (is_same d.why)) (sym c.told_of-told.ensures) ∙
    ap not (sym (same-is _) ∙ sym c.eq.ensures ∙ c.if-eq.true))

pub returns : goal.returns
unfolding differs_in difference_of
returns c = failing _ _ _ _ c.if-found-from.false c.if-least-found.false
    (ap (λ (d : Difference). not (is_same d.why)) (sym c.told_of-told.ensures) ∙ ap not (sym (same-is _) ∙ sym c.eq.ensures ∙ c.if-eq.false))
