-- `next_difference` gives the smallest key that differs from a key on. The least unlisted key that was delivered, then the least listed
-- key that differs, make the least of all that differ (`passes-find`); the first n of 15 maturities are those that are used (`up-to-15`).
use mathlib.Core.Path.{◌∙◌, sym, ap}
use Rattle.delivery_differences.proofs.DifferencePasses.{up-to-15, passes-find}
use Rattle.delivery_differences.specs.Differences.{differs_in, next_difference, rows_at}
use Rattle.delivery_differences.specs.DifferencePasses.{maturity_keys, unlisted, least_of}
use Rattle.delivery_differences.proofs.KeyRows.{places-keys}
use mathlib.Core.List.{List}
use Prim.Native.Nat.{ℕ}
use Rattle.listing.specs.declared.Maturity.{Maturity}
use lib.ListN.{take}
use Rattle.delivery_differences.proofs.next_difference.Goals as goal

pub returns : goal.returns
returns c =
    let args = c.args in
    let rows = (rows_at args.keys.now args.days.now args.fulls.now args.numbers.now args.backs.now args.places.now) in
    let ms = take c.within-used.result args.maturities in
    c.least_listed.ensures
    ∙ ap (least_of (differs_in ms rows) args.from (maturity_keys ms))
    (c.least_unlisted-found.ensures ∙ ap (λ (ks : List ℕ). least_of (unlisted ms) args.from ks 65536)
    (sym (places-keys args.keys.now args.days.now args.fulls.now args.numbers.now args.backs.now args.places.now)))
    ∙ passes-find ms rows args.from
    ∙ ap (λ (ms : List Maturity). next_difference ms rows args.from)
    (up-to-15 args.maturities args.n _ c.well_formed.0.1.0.1
    c.within-used.ensures.1)
