-- The first place of a table that holds the fresh listing holds the front.
-- Assumes nothing.
use mathlib.Core.Path.{◌≡◌, refl, ◌∙◌, ap}
use mathlib.Core.Bool.{true, ◌||◌}
use mathlib.Core.List.{List, [], ◌∷◌, map}
use Prim.Native.Nat.{ℕ, ◌-◌, ◌≤◌}
use native.Mathlib.Omega.{arith}
use lib.Dec.{eqb, ltb}
use lib.ListN.{length, get_or, replicate, length-map, get_or-append}
use borrow.Author.Tests.{eqb-true}
use Rattle.questions.proofs.Bools.{both}
use Rattle.questions.proofs.Search.{every-at}
use Rattle.calendar.specs.Trading.{cover_start}
use Rattle.listing.specs.declared.Maturity.{Maturity}
use Rattle.expiry.specs.LastDays.{key_of}
use Rattle.listing.specs.Rules.{Rule, front, count_from, keys_before, fresh_keys, complete, maturity, unused, places15}
use Rattle.listing.specs.Months.{places_of_kind, counted_for, cover_rule}
use Rattle.listing.proofs.Fresh.{places-least}
use Rattle.listing.proofs.Lawful.{fresh-first}
use Rattle.listing.proofs.OfKinds.{rule-lawful}
use Rattle.table_numbering.specs.Numbering.{same_maturity, place_right}
use Rattle.table.specs.declared.Table.{Table}
use Rattle.table.specs.Table.{lists_fresh, rule_in, fresh_in, covered_in}

-- the first place of a listing that is the fresh one holds the front
pub first-front : (t : Table) → covered_in t t.calendar t.date ≡ true → lists_fresh t ≡ true
    → (get_or t.maturities 0 unused).key ≡ front (rule_in t t.calendar) t.calendar t.date
unfolding lists_fresh complete cover_rule places15
first-front t w a =
    let same = (both (same_maturity m (get_or (places15 fresh) 0 unused)) (ltb 0 (places_of_kind t.product.kind) || eqb m.number 0)
    (every-at (place_right t.maturities (places15 fresh) (places_of_kind t.product.kind)) 15 0 a (omega arith))).0 in
    let same_key : m.key ≡ (get_or (places15 fresh) 0 unused).key =
    eqb-true m.key (get_or (places15 fresh) 0 unused).key (both (eqb m.key (get_or (places15 fresh) 0 unused).key) _ same).0 in
    let long : length (fresh_keys r t.calendar t.date) ≡ places_of_kind t.product.kind = eqb-true _ _ w in
    let some : 1 ≤ length (fresh_keys r t.calendar t.date) = omega (arith, long, places-least t.product.kind) in
    same_key
    ∙ ap (λ (x : Maturity). x.key) (get_or-append fresh (replicate (15 - length fresh) unused) unused 0
    (omega (arith, some, length-map (fresh_keys r t.calendar t.date) (maturity r t.calendar (λ k. 0)))))
    ∙ head (fresh_keys r t.calendar t.date) some ∙
    fresh-first r (rule-lawful t.calendar.cover t.product.kind t.product.group) t.calendar t.date some
  where
    r : Rule
    r = rule_in t t.calendar

    m : Maturity
    m = get_or t.maturities 0 unused

    fresh : List Maturity
    fresh = fresh_in t t.calendar t.date

    head : (ks : List ℕ) → 1 ≤ length ks → (get_or (map (maturity r t.calendar (λ k. 0)) ks) 0 unused).key ≡ get_or ks 0 0
    head [] h = absurd (omega arith)
    head (k ∷ ks) h = refl

-- so the keys of the cover before it are those before the front
pub keys-there : (t : Table) → covered_in t t.calendar t.date ≡ true → lists_fresh t ≡ true
    → (m : ℕ) → m ≡ count_from (counted_for t.product.kind) ((get_or t.maturities 0 unused).key - key_of t.product.kind (cover_start t.calendar.cover))
    (key_of t.product.kind (cover_start t.calendar.cover))
    → m ≡ keys_before (rule_in t t.calendar) t.calendar t.date
unfolding keys_before cover_rule
keys-there t w a m e =
    e ∙ ap (λ (x : ℕ). count_from (counted_for t.product.kind) (x - key_of t.product.kind (cover_start t.calendar.cover))
    (key_of t.product.kind (cover_start t.calendar.cover))) (first-front t w a)
