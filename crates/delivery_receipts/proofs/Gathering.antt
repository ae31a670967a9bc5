-- The places of a product's rows, one row after the other, and the rows that stand there.
-- Assumes nothing.
use mathlib.Core.Path.{◌≡◌, refl, ◌∙◌, sym, ap}
use mathlib.Core.Bool.{Bool, true, false, not, cond}
use mathlib.Core.List.{List, [], ◌∷◌, ◌++◌, append-nil}
use Prim.Native.Nat.{ℕ, zero, suc, ◌+◌, ◌≤◌, ◌<◌}
use native.Mathlib.Numerals.{add-one}
use native.Mathlib.Omega.{arith}
use lib.ListN.{length, take, set, length-set}
use lib.Seq.{take-suc-set}
use Rattle.questions.specs.Search.{every}
use Rattle.file_load.specs.Products.{same_id}
use Rattle.file_load.specs.Load.{found}
use Rattle.delivery_differences.specs.declared.DeliveredRow.{DeliveredRow}
use Rattle.delivery_differences.specs.Differences.{row_at, rows_at}
use Rattle.delivery_receipts.specs.Receipts.{Received}
use Rattle.delivery_products.specs.IdList.{id_in}
use Rattle.delivery_receipts.specs.Receiving.{Lists, received_at, received_to, places_to, rows_for, PlacesIn, first_unknown}

pub record Gathering (id ids : List ℕ) (n : ℕ) (before : List ℕ) (out : List ℕ) (size i : ℕ) : Type 0 where
  -- the places gathered so far are those of the product's rows among the first i
  pub is : take size out ≡ places_to id ids i
  -- the places gathered are at most as many as the rows looked at
  pub few : size ≤ i
  -- the rows looked at are at most the n rows
  pub within : i ≤ n
  -- there are at most 65,536 rows
  pub small : n ≤ 65536
  -- the list has room for as many places as there are rows
  pub room : n ≤ length before
  -- the list of places keeps its length
  pub long : length out ≡ length before

-- before the first row no place is gathered
pub starts : (id ids : List ℕ) (n : ℕ) (before : List ℕ) → n ≤ 65536 → n ≤ length before → Gathering id ids n before before 0 0
unfolding places_to
starts id ids n before s r = record { is = refl; few = omega arith; within = omega arith; small = s; room = r; long = refl }

places-more : (id ids : List ℕ) (i : ℕ) → places_to id ids (i + 1) ≡ places_to id ids i ++ cond (same_id (id_in ids i) id) (i ∷ []) []
unfolding places_to
places-more id ids i = rw (add-one i) refl

module _ (id ids : List ℕ) (n : ℕ) (before out : List ℕ) (size i : ℕ) (g : Gathering id ids n before out size i) (l : i < n) where
  -- while a row is left, the list has room for one more place
  pub place-room : size < length out
  place-room = omega (arith, g.few, g.room, g.long)

  -- while a row is left, its place is below 65,536
  pub place-small : i < 65536
  place-small = omega (arith, g.small)

  -- a row with the product's id adds its place, another row adds none
  pub gathers : (own : Bool) → own ≡ same_id (id_in ids i) id → (r : ℕ) (after : List ℕ) → r ≡ size + cond own 1 0 → after ≡ cond own (set out size i) out
      → Gathering id ids n before after r (i + 1)
  gathers true e r after p q =
      let w : take r after ≡ take size out ++ (i ∷ []) = rw (q, p, add-one size) (take-suc-set out size i place-room) in
      record {
        is = w ∙ ap (λ (x : List ℕ). x ++ (i ∷ [])) g.is ∙ sym (places-more id ids i ∙ ap (λ (b : Bool). places_to id ids i ++ cond b (i ∷ []) []) (sym e));
        few = omega (arith, g.few);
        within = omega arith;
        small = g.small;
        room = g.room;
        long = ap length q ∙ length-set out size i ∙ g.long;
      }
  gathers false e r after p q =
      let z : r ≡ size = omega arith in
      record {
        is = rw (q, z) (g.is ∙ sym (append-nil (places_to id ids i)) ∙
            sym (places-more id ids i ∙ ap (λ (b : Bool). places_to id ids i ++ cond b (i ∷ []) []) (sym e)));
        few = omega (arith, g.few);
        within = omega arith;
        small = g.small;
        room = g.room;
        long = ap length q ∙ g.long;
      }

-- after the last row the places gathered are all those of the product's rows
pub gathered : (id ids : List ℕ) (n : ℕ) (before out : List ℕ) (size i : ℕ) → Gathering id ids n before out size i → n ≤ i → PlacesIn id ids n before out size
gathered id ids n before out size i g h =
    let e : i ≡ n = omega (arith, g.within) in
    record {
      is = λ s r. rw e at g.is;
      fits = omega (arith, g.few, g.within, g.room, g.long);
      long = g.long;
    }

-- with more than 65,536 rows, or without room for their places, nothing is gathered
pub none-gathered : (id ids : List ℕ) (n : ℕ) (before : List ℕ) → (n ≤ 65536 → n ≤ length before → ⊥) → PlacesIn id ids n before before 0
none-gathered id ids n before h = record { is = λ s r. absurd (h s r); fits = omega arith; long = refl }

-- ---- the rows at those places are the product's

rows_append : (a b c d e : List ℕ) (x y : List ℕ) → rows_at a b c d e (x ++ y) ≡ rows_at a b c d e x ++ rows_at a b c d e y
unfolding rows_at
rows_append a b c d e [] y = refl
rows_append a b c d e (i ∷ x) y = ap (λ (rs : List DeliveredRow). row_at a b c d e i ∷ rs) (rows_append a b c d e x y)

for-append : (id : List ℕ) (x y : List Received) → rows_for id (x ++ y) ≡ rows_for id x ++ rows_for id y
unfolding rows_for
for-append id [] y = refl
for-append id (r ∷ x) y = go (same_id r.id id) (for-append id x y)
  where
    go : (b : Bool) → rows_for id (x ++ y) ≡ rows_for id x ++ rows_for id y
        → cond b (r.row ∷ rows_for id (x ++ y)) (rows_for id (x ++ y)) ≡ cond b (r.row ∷ rows_for id x) (rows_for id x) ++ rows_for id y
    go true e = ap (λ (rs : List DeliveredRow). r.row ∷ rs) e
    go false e = e

none : (id a b c d e : List ℕ) → rows_at a b c d e [] ≡ rows_for id []
unfolding rows_at rows_for
none id a b c d e = refl

last : (id : List ℕ) (a : Lists) (n : ℕ)
    → rows_at a.keys a.days a.fulls a.numbers a.backs (cond (same_id (id_in a.ids n) id) (n ∷ []) []) ≡ rows_for id (received_at a n ∷ [])
unfolding rows_at rows_for
last id a n = go (same_id (id_in a.ids n) id)
  where
    go : (b : Bool) → rows_at a.keys a.days a.fulls a.numbers a.backs (cond b (n ∷ []) [])
        ≡ cond b (row_at a.keys a.days a.fulls a.numbers a.backs n ∷ []) []
    go true = refl
    go false = refl

-- the rows at a product's places are the rows of the product, in their order
pub rows_are : (id : List ℕ) (a : Lists) (n : ℕ)
    → rows_at a.keys a.days a.fulls a.numbers a.backs (places_to id a.ids n) ≡ rows_for id (received_to a n)
unfolding places_to received_to
rows_are id a zero = none id a.keys a.days a.fulls a.numbers a.backs
rows_are id a (suc n) =
    rows_append a.keys a.days a.fulls a.numbers a.backs (places_to id a.ids n) (cond (same_id (id_in a.ids n) id) (n ∷ []) [])
    ∙ ap (λ (rs : List DeliveredRow). rs ++ rows_at a.keys a.days a.fulls a.numbers a.backs (cond (same_id (id_in a.ids n) id) (n ∷ []) []))
    (rows_are id a n)
    ∙ ap (λ (rs : List DeliveredRow). rows_for id (received_to a n) ++ rs) (last id a n)
    ∙ sym (for-append id (received_to a n) (received_at a n ∷ []))

-- ---- an id that is not in the file

module _ (f ids : List ℕ) (i : ℕ) where
  -- a row whose id is in the file is not the first of an unknown id
  pub known-id : found f (id_in ids i) ≡ true → false ≡ first_unknown f ids i
  unfolding first_unknown
  known-id e = rw e refl

  -- a row whose id is not in the file is the first of its id exactly where no row before it has that id
  pub unknown-id : found f (id_in ids i) ≡ false → (b : Bool) → b ≡ every i (λ j. not (same_id (id_in ids j) (id_in ids i))) → b ≡ first_unknown f ids i
  unfolding first_unknown
  unknown-id e b q = q ∙ rw e refl
