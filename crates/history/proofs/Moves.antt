-- A numbered listing, and the one that replaces it where the front does not go back.
-- Assumes nothing.
use mathlib.Core.Path.{◌≡◌, refl, sym, ap, ◌∙◌, fun_ext}
use mathlib.Core.Bool.{Bool, true, false, not, ◌&&◌, cond, and-true}
use mathlib.Core.List.{List, [], map}
use mathlib.Core.Logic.{◌⊎◌, inl, inr}
use Prim.Native.Nat.{ℕ, ◌+◌, ◌-◌, ◌≤◌, ◌<◌}
use native.Mathlib.Nat.{zero-add}
use native.Mathlib.Omega.{arith}
use lib.ListN.{length, length-map}
use borrow.Author.Tests.{not-true}
use Rattle.questions.proofs.Bools.{clash, both, is_false, lt-or-ge}
use Rattle.calendar.specs.declared.Calendar.{Calendar}
use Rattle.listing.specs.declared.Maturity.{Maturity}
use Rattle.listing.specs.Rules.{Rule, last_of, front, count_from, keys_before, fresh_keys, maturity}
use Rattle.listing.proofs.Walks.{bit}
use Rattle.listing.proofs.OpenPlaces.{before-none}
use Rattle.listing.proofs.Lawful.{Lawful, in_listing, front-most, fresh-is, key-of, keys-stay}
use Rattle.table_numbering.specs.Numbering.{is_listed, number_of, missing, renumbered}
use Rattle.table_numbering.specs.NumberingLaws.{only, MissingLaw}
use Rattle.listing.proofs.KeyCounts.{count_add, count-window, count-balance, count_less, length-sift}
use Rattle.table_numbering.proofs.MonthsRise.{listing-rises}
use Rattle.table_numbering.proofs.Renumbering.{missing-law}
use Rattle.history.proofs.ListingNumbers.{but, next, number-of, listed-is, renumbered-is, Numbers, next-keeps, next-numbers}

-- the fresh listing of a rule, not yet numbered
abbrev pub fresh : Rule → Calendar → ℕ → List Maturity
fresh r cal date = map (maturity r cal (λ k. 0)) (fresh_keys r cal date)

-- the key is in the fresh listing
abbrev pub now : Rule → Calendar → ℕ → ℕ → Bool
now r cal date = in_listing r (front r cal date)

-- the numbers that keys have once another listing replaces the first, and once a first one is made
abbrev pub numbers_next : Rule → Calendar → ℕ → ℕ → (ℕ → ℕ) → Calendar → ℕ → ℕ → ℕ
numbers_next r cal date given nu cal' date' = next (but (now r cal' date') (now r cal date)) given nu

-- the numbers that keys have once a first listing is made
abbrev pub numbers_first : Rule → Calendar → ℕ → ℕ → ℕ
numbers_first r cal date = next (but (now r cal date) (λ k. false)) 0 (λ k. 0)

-- the maturities are the fresh listing with the numbers of nu; a key that ever had a number and is not before the front is listed; given − listed is
-- at least 0 and at most the keys before the front
pub record Numbered (r : Rule) (cal : Calendar) (date : ℕ) (ms : List Maturity) (given : ℕ) (nu : ℕ → ℕ) : Type 0 where
  -- the maturities are the fresh listing with these numbers
  pub listing : ms ≡ map (maturity r cal nu) (fresh_keys r cal date)
  -- the numbers of the fresh keys are distinct, from 1 to the count given
  pub numbers : Numbers (now r cal date) given nu
  -- a key that ever had a number and is not before the front is in the fresh listing
  pub there : (k : ℕ) → 1 ≤ nu k → front r cal date ≤ k → now r cal date k ≡ true
  -- the front is not before the rule's first key
  pub begins : r.first ≤ front r cal date
  -- the count given is at least the number of maturities
  pub enough : length ms ≤ given
  -- the count given is at most the number of maturities and of keys before the front
  pub few : given ≤ length ms + keys_before r cal date

-- what holds once the listing of another calendar and date replaces it: it is numbered again, numbers once given stay, entered + old = left + new,
-- its months are the fresh ones, and those that left lie from the old front on, before the new
pub record ListingReplaced (r : Rule) (cal : Calendar) (date : ℕ) (ms : List Maturity) (given : ℕ) (nu : ℕ → ℕ) (cal' : Calendar) (date' : ℕ) : Type 0 where
  -- the listing that replaces the old one is numbered
  pub numbered : Numbered r cal' date' (renumbered ms given (fresh r cal' date')) (given + length (missing (fresh r cal' date') ms))
      (numbers_next r cal date given nu cal' date')
  -- a number once given stays the same after the move
  pub grows : (k : ℕ) → 1 ≤ nu k → numbers_next r cal date given nu cal' date' k ≡ nu k
  -- the months that entered and the old listing are as many as those that left and the new listing
  pub balance : length (missing (fresh r cal' date') ms) + length ms
      ≡ length (missing ms (fresh r cal' date')) + length (renumbered ms given (fresh r cal' date'))
  -- the months of the new listing are those of the fresh one
  pub listed : (k : ℕ) → is_listed (renumbered ms given (fresh r cal' date')) k ≡ is_listed (fresh r cal' date') k
  -- the months that left are those of the old listing that the fresh one has not, by rising month
  pub left : MissingLaw ms (fresh r cal' date') (missing ms (fresh r cal' date'))
  -- a month that left is before the new front and not before the old one
  pub between : (k : ℕ) → is_listed (missing ms (fresh r cal' date')) k ≡ true → (front r cal date ≤ k) × (k < front r cal' date')

module _ (r : Rule) (w : Lawful r) where
  below : (cal : Calendar) (date k : ℕ) → now r cal date k ≡ true → k < r.beyond
  below cal date k e = (key-of r w cal date k e).below

  size : (cal : Calendar) (date : ℕ) (nu : ℕ → ℕ) → length (map (maturity r cal nu) (fresh_keys r cal date)) ≡ count_from (now r cal date) r.beyond 0
  size cal date nu =
      length-map (fresh_keys r cal date) (maturity r cal nu) ∙ ap length (fresh-is r w cal date) ∙ length-sift (now r cal date) r.beyond 0

  module _ (cal : Calendar) (date : ℕ) (nu : ℕ → ℕ) where
    -- a month is listed in the numbered fresh listing where the rule lists it at the date
    pub listed-now : (k : ℕ) → is_listed (map (maturity r cal nu) (fresh_keys r cal date)) k ≡ now r cal date k
    listed-now k = rw (fresh-is r w cal date) (listed-is (last_of r cal) nu (now r cal date) k r.beyond (below cal date k))

    number-now : (k : ℕ) → number_of (map (maturity r cal nu) (fresh_keys r cal date)) k ≡ cond (now r cal date k) (nu k) 0
    number-now k = number-of (last_of r cal) nu (fresh_keys r cal date) k ∙ rw (listed-now k)

  module _ (cal : Calendar) (date : ℕ) (ms : List Maturity) (given : ℕ) (nu : ℕ → ℕ) (I : Numbered r cal date ms given nu) where
    -- a key is listed where the fresh listing has it, and then has its number
    pub present-is : (k : ℕ) → is_listed ms k ≡ now r cal date k
    present-is k = rw I.listing (listed-now cal date nu k)

    -- a month in the fresh listing has its number, any other 0
    pub number_is : (k : ℕ) → number_of ms k ≡ cond (now r cal date k) (nu k) 0
    number_is k = rw I.listing (number-now cal date nu k)

    count-is : length ms ≡ count_from (now r cal date) r.beyond 0
    count-is = ap length I.listing ∙ size cal date nu

    -- no more numbers are given than keys of the cover are counted
    pub given-most : given ≤ count_from r.counted (r.beyond - r.first) r.first
    unfolding keys_before
    given-most =
        let m = front-most r w cal date in
        let i : (front r cal date - r.first) + (r.beyond - front r cal date) ≡ r.beyond - r.first = omega (arith, I.begins) in
        let j : r.first + (front r cal date - r.first) ≡ front r cal date = omega (arith, I.begins) in
        omega (
          arith,
          I.few,
          count-is,
          count-window (now r cal date) (front r cal date) r.beyond r.beyond m (omega arith)
              (λ k l. before-none r.beyond r.places (front r cal date) k l)
              (λ k l. is_false (now r cal date k) (λ t. absurd (omega (arith, below cal date k t)))),
          count_less (now r cal date) r.counted (λ k e. w.counts k (key-of r w cal date k e).wide) (r.beyond - front r cal date) (front r cal date),
          ap (λ (x : ℕ). count_from r.counted x r.first) i,
          count_add r.counted (front r cal date - r.first) (r.beyond - front r cal date) r.first,
          ap (count_from r.counted (r.beyond - front r cal date)) j,
        )

    -- a listing of a later front replaces it
    module _ (cal' : Calendar) (date' : ℕ) (later : front r cal date ≤ front r cal' date') where
      abbrev p : ℕ → Bool
      p = now r cal date

      abbrev p' : ℕ → Bool
      p' = now r cal' date'

      -- a listed key that is not before the new front stays
      keeps : (k : ℕ) → p k ≡ true → front r cal' date' ≤ k → p' k ≡ true
      keeps k e h = keys-stay r w (front r cal date) (front r cal' date') later k e h

      -- a key that enters never had a number
      none : (k : ℕ) → but p' p k ≡ true → nu k ≡ 0
      none k e = go (lt-or-ge 0 (nu k)) (both (p' k) (not (p k)) e)
        where
          go : (0 < nu k) ⊎ (nu k ≤ 0) → (p' k ≡ true) × (not (p k) ≡ true) → nu k ≡ 0
          go (inl h) s = clash (I.there k h (omega (arith, (key-of r w cal' date' k s.0).from))) (not-true (p k) s.1)
          go (inr h) s = omega arith

      -- a key that leaves is before the new front
      leaves : (k : ℕ) → but p p' k ≡ true → k < front r cal' date'
      leaves k e = go (lt-or-ge k (front r cal' date')) (both (p k) (not (p' k)) e)
        where
          go : (k < front r cal' date') ⊎ (front r cal' date' ≤ k) → (p k ≡ true) × (not (p' k) ≡ true) → k < front r cal' date'
          go (inl h) s = h
          go (inr h) s = clash (keeps k s.0 h) (not-true (p' k) s.1)

      -- the numbers that keys have then
      abbrev numbers-then : ℕ → ℕ
      numbers-then = numbers_next r cal date given nu cal' date'

      renumbered-now : renumbered ms given (fresh r cal' date') ≡ map (maturity r cal' numbers-then) (fresh_keys r cal' date')
      renumbered-now =
          renumbered-is p p' nu (last_of r cal') (λ k. 0) given ms present-is (λ k e. number_is k ∙ rw e) (fresh_keys r cal' date')
          (listing-rises r w cal' date' (λ k. 0)) (listed-now cal' date' (λ k. 0))

      listed_then : (k : ℕ) → is_listed (renumbered ms given (fresh r cal' date')) k ≡ is_listed (fresh r cal' date') k
      listed_then k = rw renumbered-now (listed-now cal' date' numbers-then k ∙ sym (listed-now cal' date' (λ k. 0) k))

      entered-law : MissingLaw (fresh r cal' date') ms (missing (fresh r cal' date') ms)
      entered-law = missing-law ms (fresh r cal' date') (listing-rises r w cal' date' (λ k. 0))

      -- as many months entered as keys are in the new listing and not in the old one
      pub entered-is : length (missing (fresh r cal' date') ms) ≡ count_from (but p' p) r.beyond 0
      entered-is =
          entered-law.count r.beyond (λ k e. below cal' date' k (sym (listed-now cal' date' (λ k. 0) k) ∙ e))
          ∙ ap (λ (q : ℕ → Bool). count_from q r.beyond 0) (fun_ext each)
        where
          each : (k : ℕ) → only (fresh r cal' date') ms k ≡ but p' p k
          each k = rw (listed-now cal' date' (λ k. 0) k, present-is k)

      left-law : MissingLaw ms (fresh r cal' date') (missing ms (fresh r cal' date'))
      left-law = missing-law (fresh r cal' date') ms (rw I.listing (listing-rises r w cal date nu))

      left_is : (k : ℕ) → only ms (fresh r cal' date') k ≡ but p p' k
      left_is k = rw (present-is k, listed-now cal' date' (λ k. 0) k)

      left-count : length (missing ms (fresh r cal' date')) ≡ count_from (but p p') r.beyond 0
      left-count =
          left-law.count r.beyond (λ k e. below cal date k (sym (present-is k) ∙ e)) ∙ ap (λ (q : ℕ → Bool). count_from q r.beyond 0) (fun_ext left_is)

      left-between : (k : ℕ) → is_listed (missing ms (fresh r cal' date')) k ≡ true → (front r cal date ≤ k) × (k < front r cal' date')
      left-between k e =
          let t : but p p' k ≡ true = sym (left_is k) ∙ sym (left-law.holds k) ∙ e in
          ((key-of r w cal date k (both (p k) (not (p' k)) t).0).from, leaves k t)

      balance : length (missing (fresh r cal' date') ms) + length ms
          ≡ length (missing ms (fresh r cal' date')) + length (renumbered ms given (fresh r cal' date'))
      balance =
          omega (
            arith,
            entered-is,
            count-is,
            left-count,
            ap length renumbered-now,
            size cal' date' numbers-then,
            count-balance (but p' p) p (but p p') p' (λ k. swap (p k) (p' k)) r.beyond 0,
          )
        where
          swap : (a b : Bool) → bit (b && not a) + bit a ≡ bit (a && not b) + bit b
          swap true true = refl
          swap true false = refl
          swap false true = refl
          swap false false = refl

      -- those that leave count among the keys before the new front
      passed : length (missing ms (fresh r cal' date')) + keys_before r cal date ≤ keys_before r cal' date'
      unfolding keys_before
      passed =
          let i : (front r cal date - r.first) + (front r cal' date' - front r cal date) ≡ front r cal' date' - r.first = omega (arith, I.begins, later) in
          let j : r.first + (front r cal date - r.first) ≡ front r cal date = omega (arith, I.begins) in
          omega (
            arith,
            left-count,
            count-window (but p p') (front r cal date) (front r cal' date') r.beyond later (front-most r w cal' date')
                (λ k l. rw (before-none r.beyond r.places (front r cal date) k l))
                (λ k l. is_false (but p p' k) (λ t. absurd (omega (arith, leaves k t)))),
            count_less (but p p') r.counted (λ k e. w.counts k (key-of r w cal date k (both (p k) (not (p' k)) e).0).wide)
                (front r cal' date' - front r cal date) (front r cal date),
            ap (λ (x : ℕ). count_from r.counted x r.first) i,
            count_add r.counted (front r cal date - r.first) (front r cal' date' - front r cal date) r.first,
            ap (count_from r.counted (front r cal' date' - front r cal date)) j,
          )

      moved_keeps : (k : ℕ) → 1 ≤ nu k → numbers-then k ≡ nu k
      moved_keeps = next-keeps p p' r.beyond given nu I.numbers (below cal' date') none

      moved-there : (k : ℕ) → 1 ≤ numbers-then k → front r cal' date' ≤ k → p' k ≡ true
      moved-there k h l = go (but p' p k) refl
        where
          go : (b : Bool) → but p' p k ≡ b → p' k ≡ true
          go true e = (both (p' k) (not (p k)) e).0
          go false e =
              let q : numbers-then k ≡ nu k = rw e in
              keeps k (I.there k (omega arith) (omega arith)) l

      moved-numbered : Numbered r cal' date' (renumbered ms given (fresh r cal' date')) (given + length (missing (fresh r cal' date') ms)) numbers-then
      moved-numbered = record {
        listing = renumbered-now;
        numbers = rw entered-is (next-numbers p p' r.beyond given nu I.numbers (below cal' date') none);
        there = moved-there;
        begins = omega (arith, I.begins);
        enough = omega (arith, I.enough, balance);
        few = omega (arith, I.few, balance, passed);
      }

      -- a numbered listing, replaced by that of a calendar and date whose front is not before the old one, is numbered again
      pub moves : ListingReplaced r cal date ms given nu cal' date'
      moves = record { numbered = moved-numbered; grows = moved_keeps; balance = balance; listed = listed_then; left = left-law; between = left-between }

  -- the first listing
  module _ (cal : Calendar) (date : ℕ) (begins : r.first ≤ front r cal date) where
    abbrev first-numbers : ℕ → ℕ
    first-numbers = numbers_first r cal date

    no-numbers : Numbers (λ k. false) 0 (λ k. 0)
    no-numbers = record { pos = λ k e. clash e refl; small = λ k. omega arith; inj = λ x y e l. absurd (omega arith) }

    first-listing : renumbered [] 0 (fresh r cal date) ≡ map (maturity r cal first-numbers) (fresh_keys r cal date)
    unfolding is_listed
    first-listing =
        renumbered-is (λ k. false) (now r cal date) (λ k. 0) (last_of r cal) (λ k. 0) 0 [] (λ k. refl) (λ k e. clash e refl) (fresh_keys r cal date)
        (listing-rises r w cal date (λ k. 0)) (listed-now cal date (λ k. 0))

    first_count : 0 + count_from (but (now r cal date) (λ k. false)) r.beyond 0 ≡ length (fresh r cal date)
    first_count =
        zero-add (count_from (but (now r cal date) (λ k. false)) r.beyond 0)
        ∙ ap (λ (q : ℕ → Bool). count_from q r.beyond 0) (fun_ext (λ k. and-true (now r cal date k))) ∙ sym (size cal date (λ k. 0))

    first-there : (k : ℕ) → 1 ≤ first-numbers k → now r cal date k ≡ true
    first-there k h = go (but (now r cal date) (λ k. false) k) refl
      where
        go : (b : Bool) → but (now r cal date) (λ k. false) k ≡ b → now r cal date k ≡ true
        go true e = (both (now r cal date k) true e).0
        go false e = let q : first-numbers k ≡ 0 = rw e in absurd (omega arith)

    -- the first listing has as many maturities as the fresh one
    pub first-length : length (renumbered [] 0 (fresh r cal date)) ≡ length (fresh r cal date)
    first-length =
        ap length first-listing ∙ length-map (fresh_keys r cal date) (maturity r cal first-numbers) ∙
        sym (length-map (fresh_keys r cal date) (maturity r cal (λ k. 0)))

    -- the first listing is numbered, with as many numbers given as it has maturities
    pub first-numbered : Numbered r cal date (renumbered [] 0 (fresh r cal date)) (length (fresh r cal date)) first-numbers
    first-numbered = record {
      listing = first-listing;
      numbers = rw first_count at (next-numbers (λ k. false) (now r cal date) r.beyond 0 (λ k. 0) no-numbers (below cal date) (λ k e. refl));
      there = λ k h l. first-there k h;
      begins = begins;
      enough = omega (arith, first-length);
      few = omega (arith, first-length);
    }
