-- Shown: the answer is the definition's verdict on the list. A table that is not sound is said to be unsound; of a sound one
-- the least key that differs, among the listed and then the list's own, is what is said (`vendor-said`), and it is at most
-- 65,536 (`least-most`).
use Rattle.table_vendor.proofs.FreshEntries.{least-most, vendor-said, vendor-10}
use Rattle.questions.proofs.Bools.{said-no, said-yes}
use mathlib.Core.Path.{◌≡◌, ◌∙◌, sym}
use lib.ListN.{length}
use Rattle.table_vendor.proofs.judge.Goals as goal

pub returns-then-not-is_sound : goal.returns-then-not-is_sound
returns-then-not-is_sound c = sym (vendor-10 _ _ (said-no c.is_sound.ensures c.if-not-is_sound.true))

pub key_of-requires : goal.key_of-requires
key_of-requires c =
    let e = said-yes c.is_sound.ensures c.if-not-is_sound.false in
    let l : length c.args.t.maturities ≡ 15 = c.well_formed.0.1.1.1.1.1.0.1.0.1 in
    least-most c.args.t e l c.args.list.now _ _ _ c.places_of_kind-n.ensures.0 c.least_listed-found.ensures
    c.least_other-least.ensures

pub returns : goal.returns
returns c =
    let e = said-yes c.is_sound.ensures c.if-not-is_sound.false in
    let l : length c.args.t.maturities ≡ 15 = c.well_formed.0.1.1.1.1.1.0.1.0.1 in
    c.key_of.ensures
    ∙ vendor-said c.args.t e l c.args.list.now _ _ _ c.places_of_kind-n.ensures.0 c.least_listed-found.ensures
    c.least_other-least.ensures
