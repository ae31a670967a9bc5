-- What holds of the fronts, days and listings of every lawful rule.
-- Assumes nothing.
use mathlib.Core.Path.{◌≡◌, refl, ap, ◌∙◌}
use mathlib.Core.Bool.{Bool, true, false, ◌&&◌, cond}
use mathlib.Core.List.{List, [], ◌∷◌}
use mathlib.Core.Logic.{◌⊎◌, inl, inr}
use Prim.Native.Nat.{ℕ, zero, suc, ◌+◌, ◌-◌, ◌≤◌, ◌<◌}
use native.Mathlib.Nat.{add-zero, add-suc}
use native.Mathlib.Omega.{arith}
use lib.Dec.{ltb}
use lib.ListN.{length, get_or}
use borrow.Author.Tests.{eqb-true, leb-true, leb-false}
use Rattle.questions.specs.Search.{first_from}
use Rattle.questions.proofs.Bools.{clash, both, and_both, lt-or-ge}
use Rattle.questions.proofs.Search.{latest-le, latest-rises, search-here, search-none}
use Rattle.calendar.specs.declared.Calendar.{Calendar}
use Rattle.calendar.specs.Trading.{trading_day}
use Rattle.listing.specs.Rules.{Rule, last_day_of, alive, widest, front, next_of, taken, fresh_keys, complete}
use Rattle.expiry.proofs.Fridays.{last-is}
use Rattle.listing.proofs.Walks.{sift, sift-at, sift-rises}
use Rattle.listing.proofs.OpenPlaces.{Nested, lists, taken-sift, Within, within, widely, stays}

-- anchors rise with the key, a key before a date's own has its anchor before the date, the sets are nested, and the keys of the widest are counted
pub record Lawful (r : Rule) : Type 0 where
  -- the set of each place lies inside the set of the place before it
  pub nested : Nested (widest r.places) r.places
  -- the anchor of the next key is not before the anchor of a key
  pub rising : (k : ℕ) → r.anchor k ≤ r.anchor (suc k)
  -- a key before a date's own has its anchor before the date
  pub own : (k d : ℕ) → k < r.start d → r.anchor k < d
  -- each key of the first place's set is one that is counted
  pub counts : (k : ℕ) → widest r.places k ≡ true → r.counted k ≡ true

-- what does not fall from one key to the next does not fall
pub risen : (f : ℕ → ℕ) → ((k : ℕ) → f k ≤ f (suc k)) → (j k : ℕ) → j ≤ k → f j ≤ f k
risen f h j k l = let q : j + (k - j) ≡ k = omega arith in rw q at (go (k - j))
  where
    go : (n : ℕ) → f j ≤ f (j + n)
    go zero = rw (add-zero j) (omega arith)
    go (suc n) = rw (add-suc j n) (omega (arith, go n, h (j + n)))

-- a search finds nothing, or a number that passes; none that passes is before it
pub record Found (f : ℕ → Bool) (n d k : ℕ) : Type 0 where
  -- the number passes the test
  pub passes : f k ≡ true
  -- the number is not before the start of the search
  pub from : d ≤ k
  -- the number is before the end of the search
  pub below : k < d + n

-- a search gives `none` or finds a number that passes
pub first_found : (f : ℕ → Bool) (none n d : ℕ) → (first_from f none n d ≡ none) ⊎ Found f n d (first_from f none n d)
unfolding first_from
first_found f none zero d = inl refl
first_found f none (suc n) d = go (f d) refl (first_found f none n (suc d))
  where
    go : (b : Bool) → f d ≡ b → (first_from f none n (suc d) ≡ none) ⊎ Found f n (suc d) (first_from f none n (suc d))
        → (cond b d (first_from f none n (suc d)) ≡ none) ⊎ Found f (suc n) d (cond b d (first_from f none n (suc d)))
    go true e s = inr (record { passes = e; from = omega arith; below = omega arith })
    go false e (inl q) = inl q
    go false e (inr w) = inr (record { passes = w.passes; from = omega (arith, w.from); below = omega (arith, w.below) })

-- a search gives a number no later than any number in its range that passes
pub first-least : (f : ℕ → Bool) (none n d k : ℕ) → d ≤ k → k < d + n → f k ≡ true → first_from f none n d ≤ k
unfolding first_from
first-least f none zero d k a b t = absurd (omega arith)
first-least f none (suc n) d k a b t = go (f d) refl (lt-or-ge d k) (λ h. first-least f none n (suc d) k h (omega arith) t)
  where
    go : (b : Bool) → f d ≡ b → (d < k) ⊎ (k ≤ d) → (suc d ≤ k → first_from f none n (suc d) ≤ k) → cond b d (first_from f none n (suc d)) ≤ k
    go true e s ih = a
    go false e (inl l) ih = ih l
    go false e (inr l) ih =
        let q : d ≡ k = omega arith in
        clash (ap f q ∙ t) e

-- the first key that is taken
first_taken : (e : ℕ) (ps : List (ℕ → Bool)) (f : ℕ) → 1 ≤ length (taken e ps f) → next_of e (widest ps) f ≡ f → get_or (taken e ps f) 0 0 ≡ f
unfolding taken
first_taken e [] f h q = absurd (omega arith)
first_taken e (set ∷ rest) f h q = go (ltb (next_of e set f) e) h
  where
    go : (b : Bool) → 1 ≤ length (cond b (next_of e set f ∷ taken e rest (suc (next_of e set f))) [])
        → get_or (cond b (next_of e set f ∷ taken e rest (suc (next_of e set f))) []) 0 0 ≡ f
    go true h = q
    go false h = absurd (omega arith)

-- the key is in the listing of a rule from the front on
abbrev pub in_listing : Rule → ℕ → ℕ → Bool
in_listing r front k = lists r.beyond r.places front k

module _ (r : Rule) (w : Lawful r) where
  -- days do not fall as keys rise, nor where a calendar has more trading days
  pub days-rise : (cal cal' : Calendar) → ((d : ℕ) → trading_day cal d ≡ true → trading_day cal' d ≡ true) → (j k : ℕ) → j ≤ k
      → last_day_of r cal j ≤ last_day_of r cal' k
  days-rise cal cal' more j k h =
      omega (
        arith,
        last-is cal (r.anchor j),
        last-is cal' (r.anchor k),
        latest-rises (trading_day cal) (trading_day cal') (r.anchor j) (r.anchor k) more (risen r.anchor w.rising j k h),
      )

  -- the last trading day of a key is not after its anchor
  pub day-anchor : (cal : Calendar) (k : ℕ) → last_day_of r cal k ≤ r.anchor k
  day-anchor cal k = omega (arith, last-is cal (r.anchor k), latest-le (trading_day cal) (r.anchor k))

  module _ (cal : Calendar) (date : ℕ) where
    abbrev test : ℕ → Bool
    test k = widest r.places k && alive r cal date k

    -- the front is the first key beyond the cover, or a key that passes
    abbrev Either : Type 0
    Either = (front r cal date ≡ r.beyond) ⊎ Found test (r.beyond - r.start date) (r.start date) (front r cal date)

    either : Either
    unfolding front
    either = first_found test r.beyond (r.beyond - r.start date) (r.start date)

    -- the front is at most the first key beyond the cover
    pub front-most : front r cal date ≤ r.beyond
    front-most = go either
      where
        go : Either → front r cal date ≤ r.beyond
        go (inl q) = omega arith
        go (inr s) = omega (arith, s.below, s.from)

    -- where the date's own key is at most the first key beyond the cover, the front is not before that key
    pub front-from : r.start date ≤ r.beyond → r.start date ≤ front r cal date
    front-from h = go either
      where
        go : Either → r.start date ≤ front r cal date
        go (inl q) = omega arith
        go (inr s) = s.from

    -- a front in the cover is a key of the first set, whose day is not past
    pub front-passes : front r cal date < r.beyond → (widest r.places (front r cal date) ≡ true) × (alive r cal date (front r cal date) ≡ true)
    front-passes h = go either
      where
        go : Either → (widest r.places (front r cal date) ≡ true) × (alive r cal date (front r cal date) ≡ true)
        go (inl q) = absurd (omega arith)
        go (inr s) = both (widest r.places (front r cal date)) (alive r cal date (front r cal date)) s.passes

    -- no such key is before the front
    pub front-least : (k : ℕ) → k < r.beyond → widest r.places k ≡ true → alive r cal date k ≡ true → front r cal date ≤ k
    unfolding front
    front-least k h a b = go (lt-or-ge k (r.start date))
      where
        go : (k < r.start date) ⊎ (r.start date ≤ k)
            → first_from (λ j. widest r.places j && alive r cal date j) r.beyond (r.beyond - r.start date) (r.start date) ≤ k
        go (inl l) = absurd (omega (arith, w.own k date l, leb-true date (last_day_of r cal k) b, day-anchor cal k))
        go (inr l) = first-least test r.beyond (r.beyond - r.start date) (r.start date) k l (omega arith) (and_both a b)

    -- the day of a key before the front is past, and that of a key from the front on is not
    pub day-past : (k : ℕ) → k < r.beyond → widest r.places k ≡ true → k < front r cal date → last_day_of r cal k < date
    day-past k h a l = go (alive r cal date k) refl
      where
        go : (b : Bool) → alive r cal date k ≡ b → last_day_of r cal k < date
        go true e = absurd (omega (arith, front-least k h a e))
        go false e = leb-false date (last_day_of r cal k) e

    -- a key of the cover from the front on has its last trading day on the date or later
    pub day-ahead : (k : ℕ) → k < r.beyond → front r cal date ≤ k → date ≤ last_day_of r cal k
    day-ahead k h l =
        omega (arith, leb-true date (last_day_of r cal (front r cal date)) (front-passes (omega arith)).1, days-rise cal cal (λ d t. t) (front r cal date) k l)

    -- the fresh listing holds the keys that pass a test of the key alone
    pub fresh-is : fresh_keys r cal date ≡ sift (in_listing r (front r cal date)) r.beyond 0
    unfolding fresh_keys
    fresh-is = taken-sift r.beyond r.places (front r cal date) front-most

    -- the first key of a listing is the front
    pub fresh-first : 1 ≤ length (fresh_keys r cal date) → get_or (fresh_keys r cal date) 0 0 ≡ front r cal date
    unfolding fresh_keys
    fresh-first h = first_taken r.beyond r.places (front r cal date) h (self (lt-or-ge (front r cal date) r.beyond))
      where
        self : (front r cal date < r.beyond) ⊎ (r.beyond ≤ front r cal date) → next_of r.beyond (widest r.places) (front r cal date) ≡ front r cal date
        self (inl l) = search-here (widest r.places) r.beyond r.beyond (front r cal date) l (front-passes l).0
        self (inr l) = omega (arith, search-none (widest r.places) r.beyond r.beyond (front r cal date) l, front-most)

    -- a complete listing has as many keys as places
    pub complete-length : complete r cal date ≡ true → length (fresh_keys r cal date) ≡ length r.places
    unfolding complete
    complete-length e = eqb-true (length (fresh_keys r cal date)) (length r.places) e

    -- a key of the fresh listing
    pub record Key (k : ℕ) : Type 0 where
      -- the key is not before the front
      pub from : front r cal date ≤ k
      -- the key is in the cover
      pub below : k < r.beyond
      -- the key is in the set of the first place
      pub wide : widest r.places k ≡ true
      -- the last trading day of the key is not before the date
      pub day : date ≤ last_day_of r cal k

    -- a key that the listing from the front on holds is a key of the fresh listing
    pub key-of : (k : ℕ) → in_listing r (front r cal date) k ≡ true → Key k
    key-of k e =
        let s : Within r.beyond r.places (front r cal date) k = within r.beyond r.places (front r cal date) k e in
        record {
          from = s.from;
          below = s.below;
          wide = widely r.beyond r.places (widest r.places) w.nested (front r cal date) k e;
          day = day-ahead k s.below s.from;
        }

    -- each entry of the fresh listing's keys is a key of the fresh listing
    pub key-at : (i : ℕ) → i < length (fresh_keys r cal date) → Key (get_or (fresh_keys r cal date) i 0)
    key-at i h =
        rw (fresh-is)
        (key-of (get_or (sift (in_listing r (front r cal date)) r.beyond 0) i 0)
        (sift-at (in_listing r (front r cal date)) r.beyond 0 i (rw (fresh-is) at h)).passes)

    -- the keys rise strictly, and their days do not fall
    pub keys-rise : (i j : ℕ) → i < j → j < length (fresh_keys r cal date) → get_or (fresh_keys r cal date) i 0 < get_or (fresh_keys r cal date) j 0
    keys-rise i j l h = rw (fresh-is) (sift-rises (in_listing r (front r cal date)) r.beyond 0 i j l (rw (fresh-is) at h))

  -- where no day that was past is ahead, the front does not go back
  pub front-later : (cal cal' : Calendar) (date date' : ℕ) → ((k : ℕ) → alive r cal' date' k ≡ true → alive r cal date k ≡ true)
      → front r cal date ≤ front r cal' date'
  front-later cal cal' date date' h = go (lt-or-ge (front r cal' date') r.beyond)
    where
      go : (front r cal' date' < r.beyond) ⊎ (r.beyond ≤ front r cal' date') → front r cal date ≤ front r cal' date'
      go (inl l) =
          let s = front-passes cal' date' l in
          front-least cal date (front r cal' date') l s.0 (h (front r cal' date') s.1)
      go (inr l) = omega (arith, front-most cal date)

  -- a later front's listing holds every listed key that is not before it
  pub keys-stay : (f g : ℕ) → f ≤ g → (k : ℕ) → in_listing r f k ≡ true → g ≤ k → in_listing r g k ≡ true
  keys-stay = stays r.beyond r.places (widest r.places) w.nested
