-- What the calls on a table come to, question by question.
-- Assumes nothing.
use mathlib.Core.Path.{◌≡◌, refl, ◌∙◌, sym}
use mathlib.Core.Bool.{Bool, true, false, ◌&&◌, cond}
use mathlib.Core.List.{List, [], ◌∷◌}
use Prim.Native.Nat.{ℕ, suc, ◌-◌, ◌≤◌, ◌<◌}
use native.Mathlib.Omega.{arith}
use lib.Dec.{leb, ltb, eqb-suc-zero}
use lib.ListN.{take, drop}
use borrow.Author.Tests.{leb-true, le-leb, lt-leb}
use Rattle.questions.specs.Questions.{Ask, ask, first_no}
use Rattle.questions.specs.Search.{every}
use Rattle.questions.proofs.Asks.{first-yes, first-no}
use Rattle.questions.proofs.Bools.{both}
use Rattle.calendar.specs.declared.Calendar.{Calendar}
use Rattle.calendar.specs.Trading.{valid_cover, clean, every_week, in_cover, trading_day, close_day}
use Rattle.product.specs.Fields.{product_right}
use Rattle.listing.specs.Rules.{keys_before}
use Rattle.listing.specs.declared.Listing.{Listing}
use Rattle.listing.specs.Months.{places_of_kind, listing_of, week_into_cover}
use Rattle.listing.proofs.OfKinds.{rule-before}
use Rattle.listing.proofs.Fresh.{places-most, complete-is, places_is, fresh-listed}
use Rattle.table.specs.declared.Table.{Table}
use Rattle.table.specs.declared.Outcome.{Outcome}
use Rattle.table_numbering.specs.Numbering.{place_right, numbers_right}
use Rattle.table.specs.Table.{lists_fresh, listing_sound, sound, moved_to, moved, refused_with, answered, roll_asks, roll_call, close_asks, close_call, rule_in}
use Rattle.table.specs.Table.{covered_in}

-- the first question answered no
pub answered-no : (t : Table) (asks : List Ask) (o : Outcome) (n : ℕ) → first_no asks ≡ suc n → answered t asks o ≡ refused_with t (suc n)
unfolding answered
answered-no t asks o n e = rw (e, eqb-suc-zero n)

-- a call that no question refuses gives its outcome
pub answered-yes : (t : Table) (asks : List Ask) (o : Outcome) → first_no asks ≡ 0 → answered t asks o ≡ o
unfolding answered
answered-yes t asks o e = rw e

-- the last question decides where all others are answered yes
pub answered-last : (t : Table) (asks : List Ask) (o : Outcome) (n : ℕ) (last : Bool) → first_no asks ≡ first_no (ask (suc n) last ∷ [])
    → answered t asks o ≡ cond last o (refused_with t (suc n))
unfolding first_no
answered-last t asks o n true e = answered-yes t asks o e
answered-last t asks o n false e = answered-no t asks o n e

-- the parts of soundness, one after the other
pub record Sound (t : Table) : Type 0 where
  -- the fields of the product are right
  pub fields : product_right t.product ≡ true
  -- the cover is valid
  pub cover : valid_cover t.calendar.cover ≡ true
  -- the calendar is clean
  pub clean-days : clean t.calendar ≡ true
  -- every seven days of the cover have a trading day
  pub weeks : every_week t.calendar ≡ true
  -- the table's date is in the cover
  pub dated : in_cover t.calendar.cover t.date ≡ true
  -- the table's date passes question 24
  pub week : week_into_cover t.product.kind t.calendar.cover t.date ≡ true
  -- the fresh listing is all in the cover
  pub whole : covered_in t t.calendar t.date ≡ true
  -- the places hold the fresh listing
  pub listed : lists_fresh t ≡ true
  -- the listing numbers are distinct, from 1 to the count given
  pub numbers : numbers_right t.maturities (places_of_kind t.product.kind) t.given ≡ true
  -- the count given is at least the number of places of the kind
  pub least : places_of_kind t.product.kind ≤ t.given
  -- the count given less the places of the kind is at most the number of keys before the front
  pub most : t.given - places_of_kind t.product.kind ≤ keys_before (rule_in t t.calendar) t.calendar t.date

-- a sound table has each part of soundness
pub sound-parts : (t : Table) → sound t ≡ true → Sound t
unfolding sound
sound-parts t e =
    let (fields, e1) = both _ _ e in
    let (cover, e2) = both _ _ e1 in
    let (clean-days, e3) = both _ _ e2 in
    let (weeks, e4) = both _ _ e3 in
    let (dated, e5) = both _ _ e4 in
    let (week, e6) = both _ _ e5 in
    let (whole, e7) = both _ _ e6 in
    let (listed, e8) = both _ _ e7 in
    let (numbers, e9) = both _ _ e8 in
    let (least, most) = both _ _ e9 in
    record {
      fields = fields;
      cover = cover;
      clean-days = clean-days;
      weeks = weeks;
      dated = dated;
      week = week;
      whole = whole;
      listed = listed;
      numbers = numbers;
      least = leb-true _ _ least;
      most = leb-true _ _ most;
    }

-- the count given of a sound table is small
pub given-most : (t : Table) → sound t ≡ true → t.given ≤ 60000
given-most t e =
    let s = sound-parts t e in
    omega (arith, s.most, rule-before t.calendar.cover t.product.kind t.product.group t.calendar t.date, places-most t.product.kind)

-- the table moved to a calendar and a date, or refusal 16 where the fresh listing is not all in the cover
abbrev pub moved_or16 : Table → Calendar → ℕ → Outcome
moved_or16 t cal date = cond (covered_in t cal date) (moved t cal date) (refused_with t 16)

-- roll, by its first question answered no
module _ (t : Table) (date : ℕ) where
  -- where the first of the questions left is answered no, its number is the refusal
  pub roll-no : (n : ℕ) {b : Bool} (rest : List Ask) → first_no (roll_asks t date) ≡ first_no (ask (suc n) b ∷ rest) → b ≡ false
      → refused_with t (suc n) ≡ roll_call t date
  unfolding roll_call
  roll-no n rest e f = sym (answered-no t (roll_asks t date) _ n (e ∙ first-no (suc n) rest f))

  -- a roll of an unsound table gives refusal 10
  pub roll-10 : sound t ≡ false → roll_call t date ≡ refused_with t 10
  roll-10 a = sym (roll-no 9 _ refl a)

  -- a roll with only 16 left gives the table moved to the date, or 16
  pub roll-last : first_no (roll_asks t date) ≡ first_no (drop 3 (roll_asks t date)) → moved_or16 t t.calendar date ≡ roll_call t date
  unfolding roll_call
  roll-last e = sym (answered-last t (roll_asks t date) _ 15 _ e)

  -- the same, from the three yeses
  pub roll-16 : sound t ≡ true → in_cover t.calendar.cover date ≡ true → leb t.date date ≡ true → roll_call t date ≡ moved_or16 t t.calendar date
  roll-16 a b d = sym (roll-last (first-yes 10 _ a ∙ first-yes 11 _ b ∙ first-yes 12 _ d))

-- close, by its first question answered no
module _ (t : Table) (day : ℕ) where
  -- where the first of the questions left is answered no, its number is the refusal
  pub close-no : (n : ℕ) {b : Bool} (rest : List Ask) → first_no (close_asks t day) ≡ first_no (ask (suc n) b ∷ rest) → b ≡ false
      → refused_with t (suc n) ≡ close_call t day
  unfolding close_call
  close-no n rest e f = sym (answered-no t (close_asks t day) _ n (e ∙ first-no (suc n) rest f))

  -- closing a day of an unsound table gives refusal 10
  pub close-10 : sound t ≡ false → close_call t day ≡ refused_with t 10
  close-10 a = sym (close-no 9 _ refl a)

  -- a closing with only 16 left gives the table moved to the new calendar, or 16
  pub close-last : first_no (close_asks t day) ≡ first_no (drop 5 (close_asks t day)) → moved_or16 t (close_day t.calendar day) t.date ≡ close_call t day
  unfolding close_call
  close-last e = sym (answered-last t (close_asks t day) _ 15 _ e)

  -- the same, from the five yeses
  pub close-16 : sound t ≡ true → in_cover t.calendar.cover day ≡ true → ltb t.date day ≡ true → trading_day t.calendar day ≡ true
      → every_week (close_day t.calendar day) ≡ true → close_call t day ≡ moved_or16 t (close_day t.calendar day) t.date
  close-16 a b d f g = sym (close-last (first-yes 10 _ a ∙ first-yes 11 _ b ∙ first-yes 13 _ d ∙ first-yes 14 _ f ∙ first-yes 15 _ g))

-- the move with the code's listing
pub moved-is : (t : Table) (cal : Calendar) (date : ℕ) (l : Listing) → l ≡ listing_of cal t.product.kind t.product.group date → l.complete ≡ true
    → moved_to t cal date (take (places_of_kind t.product.kind) l.maturities) ≡ moved t cal date
unfolding moved
moved-is t cal date l e w =
    let k = t.product.kind in
    let g = t.product.group in
    rw (places_is cal k g date l e, fresh-listed cal k g date (places_of_kind t.product.kind) refl (sym (complete-is cal k g date l e) ∙ w))

-- the code's test of the places is the definition's
pub lists-is : (t : Table) (l : Listing) (b : Bool) → l ≡ listing_of t.calendar t.product.kind t.product.group t.date
    → b ≡ every 15 (place_right t.maturities l.maturities (places_of_kind t.product.kind)) → b ≡ lists_fresh t
unfolding lists_fresh
lists-is t l b e r =
    r ∙ rw (places_is t.calendar t.product.kind t.product.group t.date l e)

no_both : (a b c : Bool) → (a && b) ≡ false → (a && (b && c)) ≡ false
no_both true b c e = rw e
no_both false b c e = refl

-- what is said of the maturities, question by question
module _ (t : Table) where
  -- a listing that is not all in the cover or not the fresh one is not sound
  pub listing-unlike : (covered_in t t.calendar t.date && lists_fresh t) ≡ false → listing_sound t ≡ false
  listing-unlike e = no_both (covered_in t t.calendar t.date) (lists_fresh t) _ e

  module _ (e : (covered_in t t.calendar t.date && lists_fresh t) ≡ true) where
    w : covered_in t t.calendar t.date ≡ true
    w = (both (covered_in t t.calendar t.date) (lists_fresh t) e).0

    a : lists_fresh t ≡ true
    a = (both (covered_in t t.calendar t.date) (lists_fresh t) e).1

    -- a listing whose numbers are not distinct, from 1 to the count given, is not sound
    pub listing-numbers : numbers_right t.maturities (places_of_kind t.product.kind) t.given ≡ false → listing_sound t ≡ false
    listing-numbers b = rw (w, a, b)

    module _ (b : numbers_right t.maturities (places_of_kind t.product.kind) t.given ≡ true) (n : ℕ) (q : n ≡ places_of_kind t.product.kind) where
      -- a listing with fewer numbers given than places is not sound
      pub listing-few : t.given < n → listing_sound t ≡ false
      listing-few l = rw (w, a, b, lt-leb (places_of_kind t.product.kind) t.given (omega (arith, q)))

      -- any other listing is sound exactly where the count given less the places is at most the keys before the front
      pub listing-rest : (m : ℕ) → n ≤ t.given → m ≡ keys_before (rule_in t t.calendar) t.calendar t.date
          → leb (t.given - n) m ≡ listing_sound t
      listing-rest m l k =
          sym (rw (w, a, b, le-leb (places_of_kind t.product.kind) t.given (omega (arith, q))) (rw (← k, ← q)))
