-- Lists of maturities whose months rise, and the places of their months.
-- Assumes nothing.
use mathlib.Core.Path.{◌≡◌, refl, ap}
use mathlib.Core.Bool.{Bool, true, false, ◌||◌}
use mathlib.Core.List.{List, [], ◌∷◌, map}
use Prim.Native.Nat.{ℕ, zero, suc, ◌<◌}
use native.Mathlib.Omega.{arith}
use lib.Dec.{eqb}
use lib.ListN.{length, get_or, length-map}
use borrow.Author.Tests.{eqb-true, eq-eqb}
use Rattle.questions.proofs.Bools.{clash, or_right, is_false}
use Rattle.listing.specs.declared.Maturity.{Maturity}
use Rattle.calendar.specs.declared.Calendar.{Calendar}
use Rattle.product.specs.declared.Kind.{Kind}
use Rattle.listing.specs.Rules.{Rule, fresh_keys, maturity, unused}
use Rattle.listing.specs.Months.{rule_of, fresh_of}
use Rattle.listing.proofs.Lawful.{Lawful, keys-rise}
use Rattle.listing.proofs.OfKinds.{rule-lawful}
use Rattle.table_numbering.specs.Numbering.{is_listed}
use Rattle.table_numbering.specs.NumberingLaws.{Rising}

-- the place of a month in a list
pub record Place (ms : List Maturity) (k : ℕ) : Type 0 where
  -- a place in the list
  pub place : ℕ
  -- the place is in the list
  pub below : place < length ms
  -- the month in the place is the one asked for
  pub key : (get_or ms place unused).key ≡ k

next_place : (m : Maturity) (ms : List Maturity) (k : ℕ) → Place ms k → Place (m ∷ ms) k
next_place m ms k s = record { place = suc s.place; below = omega (arith, s.below); key = s.key }

-- a listed month has a place in the list
pub place_of : (ms : List Maturity) (k : ℕ) → is_listed ms k ≡ true → Place ms k
unfolding is_listed
place_of [] k t = clash t refl
place_of (m ∷ ms) k t = go (eqb m.key k) refl t (place_of ms k)
  where
    go : (b : Bool) → eqb m.key k ≡ b → (b || is_listed ms k) ≡ true → (is_listed ms k ≡ true → Place ms k) → Place (m ∷ ms) k
    go true e t ih = record { place = 0; below = omega arith; key = eqb-true m.key k e }
    go false e t ih = next_place m ms k (ih t)

-- the month in a place is listed
in_place : (ms : List Maturity) (i : ℕ) → i < length ms → is_listed ms (get_or ms i unused).key ≡ true
unfolding is_listed
in_place [] i h = absurd (omega arith)
in_place (m ∷ ms) zero h = rw (eq-eqb m.key m.key refl)
in_place (m ∷ ms) (suc i) h = or_right (eqb m.key (get_or ms i unused).key) (in_place ms i (omega arith))

module _ (m : Maturity) (ms : List Maturity) where
  module _ (rises : Rising (m ∷ ms)) where
    -- a list whose months rise, without its first maturity, has rising months
    pub rising-tail : Rising ms
    rising-tail i j l h = rises (suc i) (suc j) (omega arith) (omega arith)

    -- the months after the first are above it
    pub rising-above : (k : ℕ) → is_listed ms k ≡ true → m.key < k
    rising-above k t =
        let s = place_of ms k t in
        omega (arith, s.key, rises 0 (suc s.place) (omega arith) (omega (arith, s.below)))

    -- so the first is there once
    pub rising-once : is_listed ms m.key ≡ false
    rising-once = is_false (is_listed ms m.key) (λ t. absurd (omega (arith, rising-above m.key t)))

  -- a maturity before all months of a list with rising months, put first, leaves them rising
  pub rising-cons : ((k : ℕ) → is_listed ms k ≡ true → m.key < k) → Rising ms → Rising (m ∷ ms)
  rising-cons above rises i zero l h = absurd (omega arith)
  rising-cons above rises zero (suc j) l h = above (get_or ms j unused).key (in_place ms j (omega arith))
  rising-cons above rises (suc i) (suc j) l h = rises i j (omega arith) (omega arith)

-- a place of a mapped list holds the function's value of what the list holds there
pub at_map : {A : Type 0} (f : ℕ → A) (d : A) (ks : List ℕ) (i : ℕ) → i < length ks → get_or (map f ks) i d ≡ f (get_or ks i 0)
at_map f d [] i h = absurd (omega arith)
at_map f d (k ∷ ks) zero h = refl
at_map f d (k ∷ ks) (suc i) h = at_map f d ks i (omega arith)

-- the months of every fresh listing rise
module _ (r : Rule) (w : Lawful r) (cal : Calendar) (date : ℕ) (nu : ℕ → ℕ) where
  abbrev keys : List ℕ
  keys = fresh_keys r cal date

  key-at-place : (i : ℕ) → i < length keys → (get_or (map (maturity r cal nu) keys) i unused).key ≡ get_or keys i 0
  key-at-place i h = ap (λ (m : Maturity). m.key) (at_map (maturity r cal nu) unused keys i h)

  -- the months of a listing by a lawful rule rise
  pub listing-rises : Rising (map (maturity r cal nu) keys)
  listing-rises i j l h =
      let n : j < length keys = omega (arith, length-map keys (maturity r cal nu)) in
      omega (arith, key-at-place i (omega arith), key-at-place j n, keys-rise r w cal date i j l n)

-- the months of the fresh listing of each kind, calendar and date rise
pub fresh-rises : (cal : Calendar) (kind : Kind) (group : List ℕ) (date : ℕ) → Rising (fresh_of cal kind group date)
fresh-rises cal kind group date = listing-rises (rule_of cal kind group) (rule-lawful cal.cover kind group) cal date (λ k. 0)
