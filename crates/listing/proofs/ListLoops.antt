-- The laws by which the two loops of `list` follow the definition of the listing.
-- Assumes nothing.
use mathlib.Core.Path.{◌≡◌, refl, ◌∙◌, sym, ap}
use mathlib.Core.Bool.{Bool, true, false, not, ◌||◌, cond}
use mathlib.Core.List.{List, [], ◌∷◌, ◌++◌, map}
use Prim.Native.Nat.{ℕ, zero, suc, ◌+◌, ◌-◌, ◌%◌, ◌≤◌, ◌<◌}
use native.Mathlib.Nat.{zero-add, sub-zero}
use native.Mathlib.Numerals.{add-one}
use native.Mathlib.Omega.{arith}
use lib.Dec.{ltb, eqb, lit≤, lit<}
use lib.ListN.{length, get_or, replicate, set, drop, drop_of_length-le, length-append, length-replicate, length-map}
use lib.Seq.{sets, drop-cons, sets-eq}
use borrow.Author.Tests.{lt-ltb, le-ltb, eq-eqb, ne_eqb}
use Rattle.questions.specs.Search.{every, one_of}
use Rattle.questions.proofs.Search.{every-at}
use Rattle.product.specs.declared.Kind.{Kind}
use Rattle.product.specs.declared.Kind.TheVariants.{Future, Option}
use Rattle.product.specs.declared.ListingText.TheVariants.{Of2008, Of2005}
use Rattle.product.specs.declared.Term.TheVariants.{Months12, Months24, Months60, Weeks5}
use Rattle.product.specs.Fields.{kind_number}
use Rattle.listing.specs.declared.Maturity.{Maturity}
use Rattle.listing.specs.declared.Listing.{Listing}
use Rattle.listing.specs.Rules.{next_of, taken, unused, places15}
use Rattle.std.proofs.Common.{sum}
use Rattle.listing.specs.Months.{places_of_kind, quarters, month_sets, names2005, counts, step_sets, set_at, in_set, places_of}

-- the places of the steps from s on, of row k
unfoldable pub rest : ℕ → ℕ → List (ℕ → Bool)
rest k s = places_of (drop s (get_or counts k [])) (drop s (get_or step_sets k []))

-- a row has four counts, of at most fifteen keys
row-length : (k : ℕ) → k < 6 → length (get_or counts k []) ≡ 4
row-length zero h = refl
row-length (suc zero) h = refl
row-length (suc (suc zero)) h = refl
row-length (suc (suc (suc zero))) h = refl
row-length (suc (suc (suc (suc zero)))) h = refl
row-length (suc (suc (suc (suc (suc zero))))) h = refl
row-length (suc (suc (suc (suc (suc (suc k)))))) h = absurd (omega arith)

-- and four sets
sets-length : (k : ℕ) → k < 6 → length (get_or step_sets k []) ≡ 4
sets-length zero h = refl
sets-length (suc zero) h = refl
sets-length (suc (suc zero)) h = refl
sets-length (suc (suc (suc zero))) h = refl
sets-length (suc (suc (suc (suc zero)))) h = refl
sets-length (suc (suc (suc (suc (suc zero))))) h = refl
sets-length (suc (suc (suc (suc (suc (suc k)))))) h = absurd (omega arith)

-- the number of every kind is below 6, so each kind has a row of counts
pub kind-below : (kind : Kind) → kind_number kind < 6
kind-below (Future Of2008) = lit< tt
kind-below (Future Of2005) = lit< tt
kind-below (Option Months12) = lit< tt
kind-below (Option Months24) = lit< tt
kind-below (Option Months60) = lit< tt
kind-below (Option Weeks5) = lit< tt

-- the places of every kind are at most 15
pub rest-room : (kind : Kind) → length (rest (kind_number kind) 0) ≤ 15
unfolding rest places_of
rest-room (Future Of2008) = lit≤ tt
rest-room (Future Of2005) = lit≤ tt
rest-room (Option Months12) = lit≤ tt
rest-room (Option Months24) = lit≤ tt
rest-room (Option Months60) = lit≤ tt
rest-room (Option Weeks5) = lit≤ tt

-- the steps from s on are the step s and those after it
rest-step : (k s : ℕ) → k < 6 → s < 4 → rest k s ≡ replicate (get_or (get_or counts k []) s 0) (set_at k s) ++ rest k (s + 1)
unfolding rest places_of
rest-step k s hk hs =
    let l : s < length (get_or counts k []) = rw row-length hs in
    let m : s < length (get_or step_sets k []) = rw sets-length hs in
    rw (drop-cons (get_or counts k []) s 0 l, drop-cons (get_or step_sets k []) s (λ k. false) m, add-one)

rest-none : (k s : ℕ) → k < 6 → 4 ≤ s → rest k s ≡ []
unfolding rest places_of
rest-none k s hk hs =
    let l : length (get_or counts k []) ≤ s = rw row-length hs in
    rw (drop_of_length-le (get_or counts k []) l)

-- the sum of the counts, step by step
pub rest-count : (k s : ℕ) → k < 6 → s < 4 → length (rest k s) ≡ get_or (get_or counts k []) s 0 + length (rest k (s + 1))
rest-count k s hk hs = ap length (rest-step k s hk hs) ∙ simp (length-append, length-replicate)

-- the sum of a kind's row of counts is how many maturities its complete listing has
pub sum-places : (kind : Kind) → sum (get_or counts (kind_number kind) []) ≡ places_of_kind kind
unfolding places_of
sum-places (Future Of2008) = refl
sum-places (Future Of2005) = refl
sum-places (Option Months12) = refl
sum-places (Option Months24) = refl
sum-places (Option Months60) = refl
sum-places (Option Weeks5) = refl

-- the listing once the places ps are filled from the key f on, after n places of a; it is complete if they make t
module _ (mat : ℕ → Maturity) (e t : ℕ) where
  -- the listing after those places are filled: whether it is complete, and its maturities
  unfoldable pub grown : ℕ → List Maturity → List (ℕ → Bool) → ℕ → Listing
  grown n a ps f = record { complete = eqb (n + length (taken e ps f)) t; maturities = sets a n (map mat (taken e ps f)) }

  -- nothing is left
  pub grown-done : (n f : ℕ) (a : List Maturity) → n ≡ t → grown n a [] f ≡ record { complete = true; maturities = a }
  unfolding grown taken
  grown-done n f a q = rw (eq-eqb (n + 0) t (omega arith))

  module _ (n c j f : ℕ) (p : ℕ → Bool) (a : List Maturity) (r : List (ℕ → Bool)) (h : j < c) where
    one_more : replicate (c - j) p ≡ p ∷ replicate (c - (j + 1)) p
    one_more = let q : c - j ≡ suc (c - (j + 1)) = omega arith in rw q

    shift : (x : ℕ) → n + suc x ≡ suc n + x
    shift x = omega arith

    -- a key below the end is taken
    pub grown-turn : next_of e p f < e → grown n a (replicate (c - j) p ++ r) f
        ≡ grown (n + 1) (set a n (mat (next_of e p f))) (replicate (c - (j + 1)) p ++ r) (next_of e p f + 1)
    unfolding grown taken
    grown-turn l = rw (one_more, lt-ltb _ _ l, add-one n, add-one (next_of e p f), shift)

    -- a key at the end or beyond stops the walk
    pub grown-stop : e ≤ next_of e p f → n < t → grown n a (replicate (c - j) p ++ r) f ≡ record { complete = false; maturities = a }
    unfolding grown taken
    grown-stop l u = rw (one_more, le-ltb _ _ l, ne_eqb (n + 0) t (omega arith))

-- a step that has taken its count
step-done : (c j : ℕ) (p : ℕ → Bool) (r : List (ℕ → Bool)) → c ≤ j → replicate (c - j) p ++ r ≡ r
step-done c j p r h = let q : c - j ≡ 0 = omega arith in rw q

-- the walk with the places ps still to fill: the listing that they complete is the whole one
pub record Walking (mat : ℕ → Maturity) (e k front : ℕ) (a : List Maturity) (n from : ℕ) (complete : Bool) (ps : List (ℕ → Bool)) : Type 0 where
  -- the row is one of the six
  pub row : k < 6
  -- the end of the cover's keys is at most 36,525
  pub ends : e ≤ 36525
  -- the listing is complete so far
  pub so_far : complete ≡ true
  -- the places filled and the places still to fill are all places of the row
  pub few : n + length ps ≡ length (rest k 0)
  -- the row has at most 15 places
  pub room : length (rest k 0) ≤ 15
  -- the listing from here is the listing of the whole row from the front on
  pub same : grown mat e (length (rest k 0)) n a ps from ≡ grown mat e (length (rest k 0)) 0 (replicate 15 unused) (rest k 0) front

-- at the start of the walk no place is filled, all places of the kind's row are to fill, and the key is the front
pub starts : (mat : ℕ → Maturity) (e : ℕ) (kind : Kind) (k front : ℕ) → k ≡ kind_number kind → e ≤ 36525
    → Walking mat e k front (replicate 15 unused) 0 front true (rest k 0)
starts mat e kind k front q h =
    rw q (record { row = kind-below kind; ends = h; so_far = refl; few = omega arith; room = rest-room kind; same = refl })

module _ {mat : ℕ → Maturity} {e k front : ℕ} {a : List Maturity} {n from : ℕ} {complete : Bool} where
  -- a step begins
  pub enters : (s : ℕ) → s < 4 → Walking mat e k front a n from complete (rest k s)
      → Walking mat e k front a n from complete (replicate (get_or (get_or counts k []) s 0 - 0) (set_at k s) ++ rest k (s + 1))
      × (get_or (get_or counts k []) s 0 ≤ 255)
  enters s h w = (
    rw (sub-zero, ← rest-step k s w.row h) w,
    omega (arith, w.room, simp (length-append, length-replicate) at (rw (rest-step k s w.row h) at w.few)),
  )

  -- the last step has ended
  pub finishes : (s : ℕ) → 4 ≤ s → Walking mat e k front a n from complete (rest k s)
      → ◌≡◌ {A = Listing} (record { complete = complete; maturities = a }) (grown mat e (length (rest k 0)) 0 (replicate 15 unused) (rest k 0) front)
  finishes s h w =
      let z : rest k s ≡ [] = rest-none k s w.row h in
      let q : n ≡ length (rest k 0) = omega (arith, w.few, ap length z) in
      rw w.so_far (sym (grown-done mat e (length (rest k 0)) n from a q) ∙ (rw z at w.same))

  module _ (c j : ℕ) (p : ℕ → Bool) (r : List (ℕ → Bool)) (w : Walking mat e k front a n from complete (replicate (c - j) p ++ r)) where
    -- a step ends
    pub leaves : c ≤ j → Walking mat e k front a n from complete r
    leaves h = rw (step-done c j p r h) at w

    sizes : n + (c - j + length r) ≡ length (rest k 0)
    sizes = simp (length-append, length-replicate) at w.few

    -- where a step has places still to fill, fewer than 15 places are filled
    pub has_room : j < c → n < 15
    has_room h = omega (arith, sizes, w.room)

    -- a key is taken
    pub takes : (m : ℕ) → j < c → m ≡ next_of e p from → m < e
        → Walking mat e k front (set a n (mat m)) (n + 1) (m + 1) complete (replicate (c - (j + 1)) p ++ r)
    takes m h q l =
        record {
          row = w.row;
          ends = w.ends;
          so_far = w.so_far;
          few = simp (length-append, length-replicate) (omega (arith, sizes));
          room = w.room;
          same = rw q (sym (grown-turn mat e (length (rest k 0)) n c j from p a r h (rw q at l)) ∙ w.same);
        }

    -- a key beyond the cover ends the walk
    pub stops : (m : ℕ) → j < c → m ≡ next_of e p from → e ≤ m
        → ◌≡◌ {A = Listing} (record { complete = false; maturities = a }) (grown mat e (length (rest k 0)) 0 (replicate 15 unused) (rest k 0) front)
    stops m h q l = sym (grown-stop mat e (length (rest k 0)) n c j from p a r h (rw q at l) (omega (arith, sizes))) ∙ w.same

-- fifteen places, of which the first hold the list
sets-places : (ms : List Maturity) → length ms ≤ 15 → sets (replicate 15 unused) 0 ms ≡ places15 ms
unfolding places15
sets-places ms h = sets-eq ms (replicate 15 unused) 0 (omega arith) ∙ drops (length ms) h
  where
    left : (i n : ℕ) → i ≤ n → drop i (replicate n unused) ≡ replicate (n - i) unused
    left zero n l = ap (λ (x : ℕ). replicate x unused) (sym (sub-zero n))
    left (suc i) zero l = absurd (omega arith)
    left (suc i) (suc n) l =
        let q : n - i ≡ suc n - suc i = omega arith in
        left i n (omega arith) ∙ ap (λ (x : ℕ). replicate x unused) q

    drops : (i : ℕ) → i ≤ 15 → ms ++ drop (0 + i) (replicate 15 unused) ≡ ms ++ replicate (15 - i) unused
    drops i l = ap (λ (x : List Maturity). ms ++ x) (ap (λ (x : ℕ). drop x (replicate 15 unused)) (zero-add i) ∙ left i 15 l)

-- no more keys are taken than there are places
pub taken-length : (e : ℕ) (ps : List (ℕ → Bool)) (f : ℕ) → length (taken e ps f) ≤ length ps
unfolding taken
taken-length e [] f = omega arith
taken-length e (p ∷ ps) f = go (ltb (next_of e p f) e) (taken-length e ps (suc (next_of e p f)))
  where
    go : (b : Bool) → length (taken e ps (suc (next_of e p f))) ≤ length ps
        → length (cond b (next_of e p f ∷ taken e ps (suc (next_of e p f))) []) ≤ suc (length ps)
    go true h = omega arith
    go false h = omega arith

-- the whole listing
pub whole_is : (mat : ℕ → Maturity) (e k front : ℕ) → length (rest k 0) ≤ 15
    → grown mat e (length (rest k 0)) 0 (replicate 15 unused) (rest k 0) front
    ≡ record { complete = eqb (length (taken e (rest k 0) front)) (length (rest k 0)); maturities = places15 (map mat (taken e (rest k 0) front)) }
unfolding grown
whole_is mat e k front h =
    let l : length (map mat (taken e (rest k 0) front)) ≤ 15 = simp length-map (omega (arith, taken-length e (rest k 0) front)) in
    rw (zero-add, sets-places (map mat (taken e (rest k 0) front)) l)

-- the sets by arithmetic on the month's name
same : Bool → Bool → Bool
same a b = cond a b (not b)

same-is : (a b : Bool) → same a b ≡ true → a ≡ b
unfolding same
same-is true true e = refl
same-is true false e = sym e
same-is false true e = e
same-is false false e = refl

module _ (names : List ℕ) (test : ℕ → Bool) (right : every 12 (λ j. same (test (j + 1)) (one_of names (j + 1))) ≡ true) where
  set-by : (m : ℕ) → test (m % 12 + 1) ≡ in_set names m
  unfolding in_set
  set-by m = same-is (test (m % 12 + 1)) (one_of names (m % 12 + 1)) (every-at (λ j. same (test (j + 1)) (one_of names (j + 1))) 12 (m % 12) right (omega arith))

-- every month, quarters, half years, Decembers
pub set_all : (m : ℕ) → true ≡ get_or month_sets 0 (λ m. false) m
unfolding every one_of same
set_all = set-by (1 ∷ 2 ∷ 3 ∷ 4 ∷ 5 ∷ 6 ∷ 7 ∷ 8 ∷ 9 ∷ 10 ∷ 11 ∷ 12 ∷ []) (λ name. true) refl

-- the second set holds the months whose name is divisible by three: March, June, September, December
pub set-quarters : (m : ℕ) → eqb ((m % 12 + 1) % 3) 0 ≡ get_or month_sets 1 (λ m. false) m
unfolding every one_of same
set-quarters = set-by quarters (λ name. eqb (name % 3) 0) refl

-- the third set holds the months whose name is divisible by six: June and December
pub set-halves : (m : ℕ) → eqb ((m % 12 + 1) % 6) 0 ≡ get_or month_sets 2 (λ m. false) m
unfolding every one_of same
set-halves = set-by (6 ∷ 12 ∷ []) (λ name. eqb (name % 6) 0) refl

-- the fourth set holds the Decembers
pub set-decembers : (m : ℕ) → eqb (m % 12 + 1) 12 ≡ get_or month_sets 3 (λ m. false) m
unfolding every one_of same
set-decembers = set-by (12 ∷ []) (λ name. eqb name 12) refl

-- the seven names of 2005
pub set-2005 : (m : ℕ) → (eqb ((m % 12 + 1) % 3) 0 || (eqb (m % 12 + 1) 4 || (eqb (m % 12 + 1) 5 || eqb (m % 12 + 1) 7))) ≡ in_set names2005 m
unfolding every one_of same
set-2005 = set-by names2005 (λ name. eqb (name % 3) 0 || (eqb name 4 || (eqb name 5 || eqb name 7))) refl
