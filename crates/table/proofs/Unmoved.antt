-- A day on which no listed maturity ends, closed, leaves the listing as it is.
-- Assumes nothing.
use mathlib.Core.Path.{◌≡◌, refl, ◌∙◌, sym, ap}
use mathlib.Core.Bool.{Bool, true, false, not, ◌&&◌, cond}
use mathlib.Core.Logic.{◌⊎◌, inl, inr}
use mathlib.Core.List.{List, [], ◌∷◌, map}
use Prim.Native.Nat.{ℕ, zero, suc, ◌-◌, ◌≤◌, ◌<◌}
use native.Mathlib.Omega.{arith}
use native.Mathlib.Nat.{add-zero}
use lib.Dec.{leb, eqb}
use lib.ListN.{length, get_or}
use Rattle.std.specs.Bool.{MatchBool}
use Rattle.std.specs.List.{AllWithin, HoldsAt}
use borrow.Author.Tests.{leb-false, eqb-false, eq-eqb, ne_eqb, not-true}
use Rattle.questions.specs.Search.{first_from}
use Rattle.questions.proofs.Search.{every-all, every-at, every-not}
use Rattle.calendar.specs.declared.Calendar.{Calendar}
use Rattle.calendar.specs.declared.Cover.{Cover}
use Rattle.listing.specs.declared.Maturity.{Maturity}
use Rattle.expiry.specs.LastDays.{last_day}
use Rattle.listing.specs.Rules.{Rule, front, widest, alive, last_day_of, taken, fresh_keys, complete, maturity, unused}
use Rattle.listing.specs.Months.{places_of_kind, cover_rule}
use Rattle.listing.proofs.Fresh.{places-least, places-most}
use Rattle.listing.proofs.Lawful.{fresh-first}
use Rattle.listing.proofs.OfKinds.{rule-lawful}
use Rattle.table.specs.declared.Table.{Table}
use Rattle.table.specs.Table.{listed_in, sound, moved_to, moved, refused_with, kept_in, none_ends_on, rule_in, covered_in}
use Rattle.table.proofs.TableQuestions.{sound-parts}
use Rattle.table.proofs.Staying.{fresh-long, place, in-places, blank-is, places-are, known, none-missing, none_left, known-numbers}
use lib.ListN.{length-map}

module _ (ms : List Maturity) (d : ℕ) where
  -- what a test of all places found is the answer to whether none ends on the day
  pub none-answered : (r : Bool) → length ms ≡ 15
      → MatchBool r (AllWithin (λ (m : Maturity). m.day ≡ d → ⊥) ms 0 (length ms)) ((k : ℕ) × (k < length ms) × HoldsAt (λ (m : Maturity). m.day ≡ d) ms k)
      → r ≡ none_ends_on ms d
  unfolding none_ends_on
  none-answered true l h =
      sym (every-all (λ i. not (eqb (get_or ms i unused).day d)) 15
      (λ k b. rw (ne_eqb (get_or ms k unused).day d (h k unused (omega arith) (omega arith))) refl))
  none-answered false l h =
      sym (every-not (λ i. not (eqb (get_or ms i unused).day d)) 15 h.0 (rw (eq-eqb (get_or ms h.0 unused).day d (h.2 unused)) refl) (omega (arith, h.1)))

  -- where none ends on the day, each place has another last day
  pub none_of : none_ends_on ms d ≡ true → (i : ℕ) → i < 15 → (get_or ms i unused).day ≡ d → ⊥
  unfolding none_ends_on
  none_of e i h = eqb-false (get_or ms i unused).day d (not-true (eqb (get_or ms i unused).day d) (every-at (λ i. not (eqb (get_or ms i unused).day d)) 15 i e h))

-- a search finds the same where a second test refuses what the first refuses, and takes what the first finds
search-same : (f g : ℕ → Bool) (none n k : ℕ) → ((x : ℕ) → f x ≡ false → g x ≡ false) → (f (first_from f none n k) ≡ true → g (first_from f none n k) ≡ true)
    → first_from g none n k ≡ first_from f none n k
unfolding first_from
search-same f g none zero k over takes = refl
search-same f g none (suc n) k over takes = go (f k) refl takes (search-same f g none n (suc k) over)
  where
    go : (b : Bool) → f k ≡ b → (f (cond b k (first_from f none n (suc k))) ≡ true → g (cond b k (first_from f none n (suc k))) ≡ true)
        → ((f (first_from f none n (suc k)) ≡ true → g (first_from f none n (suc k)) ≡ true) → first_from g none n (suc k) ≡ first_from f none n (suc k))
        → cond (g k) k (first_from g none n (suc k)) ≡ cond b k (first_from f none n (suc k))
    go true e y i = rw (y e)
    go false e y i = rw (over k e) (i y)

-- a list mapped by two functions that agree on it
map_same : (φ ψ : ℕ → Maturity) (xs : List ℕ) → ((i : ℕ) → i < length xs → φ (get_or xs i 0) ≡ ψ (get_or xs i 0)) → map φ xs ≡ map ψ xs
map_same φ ψ [] h = refl
map_same φ ψ (x ∷ xs) h = ap (λ (m : Maturity). m ∷ map φ xs) (h 0 (omega arith)) ∙
    ap (λ (l : List Maturity). ψ x ∷ l) (map_same φ ψ xs (λ i l. h (suc i) (omega arith)))

day-at : (r : Rule) (cal : Calendar) (ks : List ℕ) (i : ℕ) → i < length ks
    → (get_or (map (maturity r cal (λ k. 0)) ks) i unused).day ≡ last_day_of r cal (get_or ks i 0)
day-at r cal [] i h = absurd (omega arith)
day-at r cal (k ∷ ks) zero h = refl
day-at r cal (k ∷ ks) (suc i) h = day-at r cal ks i (omega arith)

module _ (t : Table) (s : sound t ≡ true) (len : length t.maturities ≡ 15) (d : ℕ) (later : t.date < d)
    (none : (i : ℕ) → i < 15 → (get_or t.maturities i unused).day ≡ d → ⊥)
    (cal : Calendar) (cover : cal.cover ≡ t.calendar.cover)
    (but : (a : ℕ) → (last_day t.calendar a ≡ d) ⊎ (last_day cal a ≡ last_day t.calendar a)) where
  abbrev r : Rule
  r = rule_in t t.calendar

  abbrev ks : List ℕ
  ks = fresh_keys r t.calendar t.date

  long : length ks ≡ places_of_kind t.product.kind
  long = sym (length-map ks (maturity r t.calendar (λ k. 0))) ∙ fresh-long t s len

  -- no listed key ends on the day
  key_apart : (i : ℕ) → i < length ks → last_day_of r t.calendar (get_or ks i 0) ≡ d → ⊥
  key_apart i h e =
      let l : i < places_of_kind t.product.kind = omega (arith, long) in
      let m : i < 15 = omega (arith, places-most t.product.kind) in
      none i m ((place t s len i m).day ∙ ap (λ (x : Maturity). x.day) (in-places t s len i l) ∙ day-at r t.calendar ks i h ∙ e)

  last_as : (k : ℕ) → (last_day_of r t.calendar k ≡ d → ⊥) → last_day_of r cal k ≡ last_day_of r t.calendar k
  last_as k n = go (but (r.anchor k))
    where
      go : (last_day t.calendar (r.anchor k) ≡ d) ⊎ (last_day cal (r.anchor k) ≡ last_day t.calendar (r.anchor k))
          → last_day cal (r.anchor k) ≡ last_day t.calendar (r.anchor k)
      go (inl e) = absurd (n e)
      go (inr e) = e

  -- a key that ended before the date still does
  still-over : (k : ℕ) → (widest r.places k && alive r t.calendar t.date k) ≡ false → (widest r.places k && alive r cal t.date k) ≡ false
  still-over k e = go (widest r.places k) refl e
    where
      go : (b : Bool) → widest r.places k ≡ b → (b && alive r t.calendar t.date k) ≡ false → (b && alive r cal t.date k) ≡ false
      go true q e = ap (leb t.date) (last_as k (λ x. omega (arith, leb-false t.date (last_day_of r t.calendar k) e))) ∙ e
      go false q e = refl

  front_same : front r cal t.date ≡ front r t.calendar t.date
  unfolding front
  front_same =
      search-same (λ k. widest r.places k && alive r t.calendar t.date k) (λ k. widest r.places k && alive r cal t.date k) r.beyond
      (r.beyond - r.start t.date) (r.start t.date) still-over
      (λ e. ap (λ (x : ℕ). widest r.places (front r t.calendar t.date) && leb t.date x) (last_as (front r t.calendar t.date) at_front) ∙ e)
    where
      some : 1 ≤ length ks
      some = omega (arith, long, places-least t.product.kind)

      at_front : last_day_of r t.calendar (front r t.calendar t.date) ≡ d → ⊥
      at_front e = key_apart 0 some (ap (last_day_of r t.calendar)
          (fresh-first r (rule-lawful t.calendar.cover t.product.kind t.product.group) t.calendar t.date some) ∙ e)

  keys-same : fresh_keys r cal t.date ≡ fresh_keys r t.calendar t.date
  unfolding fresh_keys
  keys-same = ap (taken r.beyond r.places) front_same

  maturity-as : (k : ℕ) → last_day_of r cal k ≡ last_day_of r t.calendar k → maturity r cal (λ k. 0) k ≡ maturity r t.calendar (λ k. 0) k
  maturity-as k e = rw e

  fresh-same : map (maturity r cal (λ k. 0)) (fresh_keys r t.calendar t.date)
      ≡ map (maturity r t.calendar (λ k. 0)) (fresh_keys r t.calendar t.date)
  fresh-same =
      map_same (maturity r cal (λ k. 0)) (maturity r t.calendar (λ k. 0)) ks
      (λ i h. maturity-as (get_or ks i 0) (last_as (get_or ks i 0) (key_apart i h)))

  as-kept : (q : Rule) → q ≡ r → cond (complete q cal t.date) (moved_to t cal t.date (map (maturity q cal (λ k. 0)) (fresh_keys q cal t.date)))
      (refused_with t 16) ≡ kept_in t cal t.date
  unfolding complete
  as-kept q e =
      rw (e, keys-same, fresh-same, (sound-parts t s).whole)
      (rw (
        blank-is t s len,
        none-missing (listed_in t) (listed_in t) (known t s len),
        none_left (listed_in t) (listed_in t) (known t s len),
        known-numbers (listed_in t) (listed_in t) t.given (known t s len),
        places-are t s len,
        add-zero t.given,
      ))

  -- a calendar that changes only last days on a later day on which no listed maturity ends is accepted and keeps the listing
  pub unmoved : cond (covered_in t cal t.date) (moved t cal t.date) (refused_with t 16) ≡ kept_in t cal t.date
  unfolding moved
  unmoved = as-kept (rule_in t cal) (ap (λ (c : Cover). cover_rule c t.product.kind t.product.group) cover)
