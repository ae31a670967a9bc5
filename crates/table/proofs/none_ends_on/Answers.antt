-- Shown: yes exactly where no maturity of the fifteen places ends on the day. What the test of all places found (`cases_from_all`) is the
-- definition's answer (`none-answered`).
use Rattle.std.proofs.Common.{◌≡◌, rules, tests}
use Rattle.std.proofs.lemmas.Iterator.{cases_from_all, YieldsList-from_slice}
use Rattle.listing.specs.declared.Maturity.{Maturity}
use Rattle.table.proofs.Unmoved.{none-answered}
use Rattle.table.proofs.none_ends_on.Goals as goal

pub returns : goal.returns
returns c =
    let d = c.args.day in
    let ms = c.args.maturities in
    none-answered ms d _ c.well_formed.0.1.0.1
    (cases_from_all _ _ _ (λ (m : Maturity). m.day ≡ d → ⊥) (λ (m : Maturity). m.day ≡ d) c.all.ensures.ran (YieldsList-from_slice ms cc)
    (λ x q k. search (rules, tests)) (λ x q k. search (rules, tests)))
