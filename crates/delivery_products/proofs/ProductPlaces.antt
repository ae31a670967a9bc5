-- The product at a place, question by question; and that it is the one that its id finds.
-- Assumes nothing.
use mathlib.Core.Path.{◌≡◌, refl, ◌∙◌, sym}
use mathlib.Core.Bool.{Bool, true, false, ◌&&◌}
use mathlib.Core.List.{List, [], ◌∷◌, ◌++◌}
use Prim.Native.Nat.{ℕ, zero, suc, ◌/◌, ◌%◌}
use native.Mathlib.Omega.{arith}
use lib.Dec.{ltb}
use lib.ListN.{get_or}
use borrow.Author.Tests.{ltb-true, lt-ltb, eq-eqb}
use Rattle.questions.specs.Questions.{Ask, ask, first_no}
use Rattle.questions.proofs.Bools.{and-fst, and-snd, and_both, is_false}
use Rattle.questions.proofs.Asks.{no-asks, first-yes, first-no, accepted, refused}
use Rattle.file_ids.specs.Ids.{place_count, is_record, id_at}
use Rattle.file_load.specs.Products.{same_id, product_at, product_from}
use Rattle.file_load.specs.Load.{load_asks, has_id, found, place_from, product_of}
use Rattle.file_load.proofs.RisingIds.{record-inside}
use Rattle.file_load.proofs.Accepting.{accepted-file}
use Rattle.product.specs.Fields.{zero_product}
use Rattle.delivery_products.specs.declared.PlaceProduct.{PlaceProduct}
use Rattle.delivery_products.specs.ProductsByPlace.{place_asks, place_call, place_answer, no_product, AtPlace}

-- of two lists of questions, one after the other
append-no : (qs rs : List Ask) (n : ℕ) → first_no qs ≡ suc n → first_no (qs ++ rs) ≡ suc n
unfolding first_no
append-no [] rs n e = absurd (omega arith)
append-no (ask k true ∷ qs) rs n e = append-no qs rs n e
append-no (ask k false ∷ qs) rs n e = e

abbrev numbers : List Ask → Bool
numbers [] = true
numbers (ask k b ∷ qs) = ltb 0 k && numbers qs

append-yes : (qs rs : List Ask) → numbers qs ≡ true → first_no qs ≡ 0 → first_no (qs ++ rs) ≡ first_no rs
unfolding first_no
append-yes [] rs p e = refl
append-yes (ask k true ∷ qs) rs p e = append-yes qs rs (and-snd (ltb 0 k) (numbers qs) p) e
append-yes (ask k false ∷ qs) rs p e = absurd (omega (arith, ltb-true 0 k (and-fst (ltb 0 k) (numbers qs) p)))

load-numbers : (f : List ℕ) → numbers (load_asks f) ≡ true
unfolding load_asks
load-numbers f = refl

module _ (f : List ℕ) (p : ℕ) where
  -- 1 to 8
  pub place-refused : (q : ℕ) (r : PlaceProduct) → q ≡ first_no (load_asks f) → (q ≡ 0 → ⊥) → r ≡ no_product q → place_answer r ≡ place_call f p
  unfolding place_call place_asks
  place-refused zero r e h i = absurd (h refl)
  place-refused (suc n) r e h i =
      rw i (sym (refused (load_asks f ++ (ask 9 (is_record f p) ∷ [])) zero_product (product_at f (p / 15) (p % 15)) n (append-no (load_asks f) _ n (sym e))))

  module _ (a : first_no (load_asks f) ≡ 0) where
    rest-is : first_no (place_asks f p) ≡ first_no (ask 9 (is_record f p) ∷ [])
    unfolding place_asks
    rest-is = append-yes (load_asks f) _ (load-numbers f) a

    -- 9
    pub place-empty : (r : PlaceProduct) → is_record f p ≡ false → r ≡ no_product 9 → place_answer r ≡ place_call f p
    unfolding place_call
    place-empty r e i = rw i (sym (refused (place_asks f p) zero_product (product_at f (p / 15) (p % 15)) 8 (rest-is ∙ first-no 9 {b = is_record f p} [] e)))

    -- a place that holds a record gives the product of its block and record
    pub place-holds : is_record f p ≡ true → place_call f p ≡ record { refusal = 0; value = product_at f (p / 15) (p % 15) }
    unfolding place_call
    place-holds e = accepted (place_asks f p) zero_product (product_at f (p / 15) (p % 15)) (rest-is ∙ first-yes 9 {b = is_record f p} [] e ∙ no-asks)

-- an id is itself
pub self-id : (id : List ℕ) → same_id id id ≡ true
unfolding same_id
self-id id = rw (
  eq-eqb (get_or id 0 0) (get_or id 0 0) refl,
  eq-eqb (get_or id 1 0) (get_or id 1 0) refl,
  eq-eqb (get_or id 2 0) (get_or id 2 0) refl,
  eq-eqb (get_or id 3 0) (get_or id 3 0) refl,
)

-- a place that holds a record has its id
own-id : (f : List ℕ) (p : ℕ) → is_record f p ≡ true → has_id f (id_at f p) p ≡ true
unfolding has_id
own-id f p e = and_both e (self-id (id_at f p))

ids-agree : (f : List ℕ) (p : ℕ) → (product_at f (p / 15) (p % 15)).id ≡ id_at f p
unfolding product_at product_from id_at
ids-agree f p = refl

module _ (f : List ℕ) (p : ℕ) (a : first_no (load_asks f) ≡ 0) (h : is_record f p ≡ true) where
  place_is : place_from f (id_at f p) 0 ≡ p
  place_is = (accepted-file f a).unique (id_at f p) p (own-id f p h)

  -- in an accepted file, a place that holds a record gives the product that its id finds
  pub at_place : AtPlace f p
  unfolding product_of found
  at_place =
      record {
        loaded = a;
        holds = h;
        there = rw place_is (lt-ltb p (place_count f) (record-inside f p h));
        is = place-holds f p a h ∙ rw place_is;
        same_id = rw place_is (ids-agree f p);
      }

-- the product that an id finds is the one at its place
pub place-product : (f : List ℕ) (p : ℕ) → first_no (load_asks f) ≡ 0 → is_record f p ≡ true → product_of f (id_at f p) ≡ product_at f (p / 15) (p % 15)
unfolding product_of
place-product f p a h = rw (place_is f p a h)

-- no two places have the same id
pub other-id : (f : List ℕ) (p q : ℕ) → first_no (load_asks f) ≡ 0 → is_record f p ≡ true → is_record f q ≡ true → (q ≡ p → ⊥)
    → same_id (id_at f q) (id_at f p) ≡ false
unfolding has_id
other-id f p q a h k n =
    is_false (same_id (id_at f q) (id_at f p))
    (λ e. n (sym ((accepted-file f a).unique (id_at f p) q (and_both k e)) ∙ place_is f p a h))
