-- Where the ids rise, no two records have the same id, and a record with an id that is less stands before.
-- Assumes nothing.
use mathlib.Core.Path.{◌≡◌, refl, ap}
use mathlib.Core.Bool.{Bool, true, false}
use mathlib.Core.Logic.{◌⊎◌, inl, inr}
use mathlib.Core.List.{List}
use Prim.Native.Nat.{ℕ, ◌/◌, ◌%◌, ◌≤◌, ◌<◌}
use native.Mathlib.Nat.{le_refl, eq-or-lt_of_le}
use native.Mathlib.Omega.{arith}
use lib.Dec.{ltb}
use lib.ListN.{get_or}
use borrow.Author.Tests.{eqb-true, eq-eqb, le-ltb}
use Rattle.questions.proofs.Bools.{clash, both, and-fst, lt-or-ge}
use Rattle.questions.proofs.Search.{every-at}
use Rattle.file_blocks.specs.Blocks.{block_count, block_of, is_products, records_of_block}
use Rattle.file_ids.specs.Ids.{place_count, is_record, id_at, byte_rises, id_rises, pair_rises, place_rises, ids_rise}
use Rattle.file_blocks.proofs.Files.{block_out}
use Rattle.file_load.specs.Products.{same_id}
use Rattle.file_load.specs.Load.{has_id, place_from}
use Rattle.file_load.proofs.Seeking.{place-reached, found-has}

-- a place with a record is one of the file's
pub record-inside : (f : List ℕ) (p : ℕ) → is_record f p ≡ true → p < place_count f
unfolding is_record
record-inside f p t = go (lt-or-ge (p / 15) (block_count f))
  where
    go : (p / 15 < block_count f) ⊎ (block_count f ≤ p / 15) → p < place_count f
    go (inl h) = omega arith
    go (inr h) =
        clash (and-fst (is_products (block_of f (p / 15))) (ltb (p % 15) (records_of_block (block_of f (p / 15)))) t)
        (ap (λ (b : List ℕ). is_products b) (block_out f (p / 15) h))

byte-same : (x : ℕ) (rest : Bool) → byte_rises x x rest ≡ rest
unfolding byte_rises
byte-same x rest = rw (le-ltb x x (le_refl x), eq-eqb x x refl)

record Bytes (a b : List ℕ) : Type 0 where
  byte0 : get_or a 0 0 ≡ get_or b 0 0
  byte1 : get_or a 1 0 ≡ get_or b 1 0
  byte2 : get_or a 2 0 ≡ get_or b 2 0
  byte3 : get_or a 3 0 ≡ get_or b 3 0

bytes : (a b : List ℕ) → same_id a b ≡ true → Bytes a b
unfolding same_id
bytes a b e =
    let (e012, e3) = both _ _ e in
    let (e01, e2) = both _ _ e012 in
    let (e0, e1) = both _ _ e01 in
    record { byte0 = eqb-true _ _ e0; byte1 = eqb-true _ _ e1; byte2 = eqb-true _ _ e2; byte3 = eqb-true _ _ e3 }

-- ids that are the same rise to the same ids
pub rises-same : (a b id : List ℕ) → same_id a id ≡ true → id_rises a b ≡ id_rises id b
unfolding id_rises
rises-same a b id s =
    let x = bytes a id s in
    rw (x.byte0, x.byte1, x.byte2, x.byte3)

-- an id does not rise to itself
level : (a b id : List ℕ) → same_id a id ≡ true → same_id b id ≡ true → id_rises a b ≡ false
unfolding id_rises
level a b id s t =
    let x = bytes a id s in
    let y = bytes b id t in
    simp (x.byte0, x.byte1, x.byte2, x.byte3, y.byte0, y.byte1, y.byte2, y.byte3, byte-same, le-ltb _ _ (le_refl (get_or id 3 0)))

module _ (f id : List ℕ) (p : ℕ) (t : has_id f id p ≡ true) where
  has : (is_record f p ≡ true) × (same_id (id_at f p) id ≡ true)
  unfolding has_id
  has = both (is_record f p) (same_id (id_at f p) id) t

  inside : p < place_count f
  inside = record-inside f p has.0

  -- of the places before p none has its id
  before : ids_rise f ≡ true → (q : ℕ) → q < p → has_id f id q ≡ true → ⊥
  unfolding ids_rise place_rises has_id
  before e q h s =
      let (record-q, id-q) = both (is_record f q) (same_id (id_at f q) id) s in
      let all = rw has.0 at (every-at (place_rises f) (place_count f) p e inside) in
      let rises = rw record-q at (every-at (pair_rises f p) p q all h) in
      clash rises (level (id_at f q) (id_at f p) id id-q has.1)

  -- where the ids rise, a place that holds a record with an id is the first such place
  pub only-place : ids_rise f ≡ true → place_from f id 0 ≡ p
  only-place e = go (eq-or-lt_of_le reached)
    where
      reached : place_from f id 0 ≤ p
      reached = place-reached f id p inside t

      go : (place_from f id 0 ≡ p) ⊎ (place_from f id 0 < p) → place_from f id 0 ≡ p
      go (inl s) = s
      go (inr h) = absurd (before e (place_from f id 0) h (found-has f id (omega (arith, inside))))
