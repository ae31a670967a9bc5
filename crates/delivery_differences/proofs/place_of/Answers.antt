-- `place_of` gives the first of some places whose row has a key: what the test of each place found is where the key stands among the keys
-- (`place-found`).
use Rattle.std.proofs.Common.{◌≡◌, ◌∙◌, rules, tests}
use Rattle.std.proofs.lemmas.Iterator.{YieldsList-from_slice}
use Rattle.std.proofs.lemmas.Iterator.Search.{position_from_yields_List}
use Prim.Native.Nat.{ℕ}
use lib.Dec.{eqb}
use lib.ListN.{get_or}
use Rattle.delivery_differences.specs.DifferencePasses.{row_keys_at, found_in}
use Rattle.delivery_differences.proofs.KeyRows.{place-found, place-within}
use Rattle.delivery_differences.proofs.place_of.Goals as goal

pub returns : goal.returns
returns c =
    let keys = c.args.keys.now in
    let key = c.args.key in
    let places = c.args.places.now in
    let e : c.position.result ≡ found_in key (row_keys_at keys places) =
    position_from_yields_List (λ (i : ℕ). eqb (get_or keys i 0) key) _ _ c.position.result c.position.ensures.ran
    (YieldsList-from_slice places cc) (λ x b q k. search (rules, tests)) ∙ place-found keys key places in
    record { found = e; within = place-within keys key places c.position.result e }
