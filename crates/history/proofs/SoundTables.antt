-- Every call on a sound table gives a sound table, no listing number of a month passes 192, and no day stepped back more than six days.
-- Assumes nothing.
use mathlib.Core.Path.{◌≡◌, refl, sym, ap, ◌∙◌}
use mathlib.Core.Bool.{Bool, true, false, not, ◌&&◌, ◌||◌, cond}
use mathlib.Core.List.{List, [], ◌∷◌, map}
use mathlib.Core.Logic.{◌⊎◌, inl, inr}
use Prim.Native.Nat.{ℕ, zero, suc, ◌-◌, ◌≤◌, ◌<◌}
use native.Mathlib.Nat.{le_refl}
use native.Mathlib.Omega.{arith}
use lib.Dec.{leb, eqb}
use lib.ListN.{length, get_or, length-map, get_or-eq_default}
use lib.Seq.{get_or-take, length-take-le, ext_get_or}
use borrow.Author.Tests.{eqb-true, eqb-false, eq-eqb, ne_eqb, leb-true, not-true}
use Rattle.questions.specs.Questions.{first_no}
use Rattle.questions.specs.Search.{every}
use Rattle.questions.proofs.Bools.{both, lt-or-ge}
use Rattle.questions.proofs.Search.{every-at}
use Rattle.expiry.specs.declared.LastDay.{LastDay}
use Rattle.expiry.specs.LastDays.{last_trading_day, worked_out}
use Rattle.listing.specs.declared.Maturity.{Maturity}
use Rattle.product.specs.Fields.{is_weekly}
use Rattle.listing.specs.Rules.{Rule, last_of, keys_before, fresh_keys, maturity, unused, places15}
use Rattle.listing.specs.Months.{places_of_kind, cover_rule, keys_of}
use Rattle.listing.proofs.Lawful.{Lawful, complete-length, key-at, keys-rise}
use Rattle.listing.proofs.Fresh.{places-most}
use Rattle.listing.proofs.OfKinds.{rule-lawful, rule-places, rule-begins, rule-keys, months-most, rule-deep, six-back}
use Rattle.table.specs.declared.Table.{Table}
use Rattle.table_numbering.specs.Numbering.{is_listed, number_of, same_maturity, numbers_right}
use Rattle.table_numbering.proofs.MonthsRise.{place_of, at_map}
use Rattle.table_numbering.proofs.Unique.{same-maturity}
use Rattle.table.specs.Table.{listed_in, lists_fresh, sound, moved, roll_call, close_call, reopen_call, rule_in}
use Rattle.table_measures.specs.Measures.{measure_call}
use Rattle.table_measures.proofs.ValueKept.{asked-range, resized-sound}
use Rattle.history.specs.Book.{Call, roll, close, reopen, measure, Book, calendar_after, date_after, book_asks}
use Rattle.history.specs.History.{table_call}
use Rattle.history.proofs.ListingNumbers.{Numbers}
use Rattle.history.proofs.Moves.{fresh, now, Numbered, listed-now, given-most, numbers_next, moves}
use Rattle.history.proofs.Soundness.{Opened, at-used, is-sound}
use Rattle.history.proofs.AcceptedCalls.{rule-stays, after-opened, forward}
use Rattle.history.proofs.TableAsBook.{accepted_call, either_call, table-answer}

-- a month with a number is listed
number-listed : (ms : List Maturity) (k : ℕ) → 1 ≤ number_of ms k → is_listed ms k ≡ true
unfolding number_of is_listed
number-listed [] k h = absurd (omega arith)
number-listed (m ∷ ms) k h = go (eqb m.key k) h (number-listed ms k)
  where
    go : (b : Bool) → 1 ≤ cond b m.number (number_of ms k) → (1 ≤ number_of ms k → is_listed ms k ≡ true) → (b || is_listed ms k) ≡ true
    go true h ih = refl
    go false h ih = ih h

-- where months differ, the number of the month in a place is the place's
number-place : (ms : List Maturity) (i : ℕ) → i < length ms → ((j : ℕ) → j < i → (get_or ms j unused).key ≡ (get_or ms i unused).key → ⊥)
    → number_of ms (get_or ms i unused).key ≡ (get_or ms i unused).number
unfolding number_of
number-place [] i h apart = absurd (omega arith)
number-place (m ∷ ms) zero h apart = rw (eq-eqb m.key m.key refl)
number-place (m ∷ ms) (suc i) h apart =
    rw (ne_eqb m.key (get_or ms i unused).key (apart 0 (omega arith)))
    (number-place ms i (omega arith) (λ j l. apart (suc j) (omega arith)))

-- what question 10 asks
record Sound (t : Table) : Type 0 where
  opened : Opened t.product t.calendar t.date
  lists : lists_fresh t ≡ true
  numbers : numbers_right t.maturities (places_of_kind t.product.kind) t.given ≡ true
  enough : places_of_kind t.product.kind ≤ t.given
  few : t.given - places_of_kind t.product.kind ≤ keys_before (rule_in t t.calendar) t.calendar t.date

sounds : (t : Table) → sound t ≡ true → Sound t
unfolding sound
sounds t e =
    let (a, e1) = both _ _ e in
    let (b, e2) = both _ _ e1 in
    let (c, e3) = both _ _ e2 in
    let (d, e4) = both _ _ e3 in
    let (f, e5) = both _ _ e4 in
    let (l, e5w) = both _ _ e5 in
    let (g, e6) = both _ _ e5w in
    let (h, e7) = both _ _ e6 in
    let (i, e8) = both _ _ e7 in
    let (j, k) = both _ _ e8 in
    record {
      opened = record { product = a; valid = b; cleaned = c; weeks = d; covered = f; week = l; full = g };
      lists = h;
      numbers = i;
      enough = leb-true _ _ j;
      few = leb-true _ _ k;
    }

module _ (t : Table) (s : Sound t) where
  abbrev r : Rule
  r = rule_in t t.calendar

  abbrev w : Lawful (rule_in t t.calendar)
  w = rule-lawful t.calendar.cover t.product.kind t.product.group

  abbrev n : ℕ
  n = places_of_kind t.product.kind

  abbrev key : ℕ → ℕ
  key i = get_or (fresh_keys r t.calendar t.date) i 0

  -- what a place holds
  abbrev in_place : ℕ → Maturity
  in_place i = get_or t.maturities i unused

  as_many : length (fresh_keys r t.calendar t.date) ≡ n
  as_many = complete-length r w t.calendar t.date s.opened.full ∙ rule-places t.calendar.cover t.product.kind t.product.group

  fresh_in : (i : ℕ) → i < n → get_or (places15 (fresh r t.calendar t.date)) i unused ≡ maturity r t.calendar (λ k. 0) (key i)
  fresh_in i h =
      at-used (fresh r t.calendar t.date) i (omega (arith, as_many, length-map (fresh_keys r t.calendar t.date) (maturity r t.calendar (λ k. 0))))
      ∙ at_map (maturity r t.calendar (λ k. 0)) unused (fresh_keys r t.calendar t.date) i (omega (arith, as_many))

  -- the last trading day of the month in a place, with the days stepped back
  abbrev last : ℕ → LastDay
  last i = last_of r t.calendar (key i)

  -- the month, the day and the days stepped back are the fresh listing's
  same_in : (i : ℕ) → i < n → ((in_place i).key ≡ key i) × ((in_place i).day ≡ (last i).day) × ((in_place i).back ≡ (last i).back)
  unfolding lists_fresh
  same_in i h =
      let l : i < 15 = omega (arith, places-most t.product.kind) in
      let e : same_maturity (in_place i) (get_or (places15 (fresh r t.calendar t.date)) i unused) ≡ true = (both _ _ (every-at _ 15 i s.lists l)).0 in
      let (a, f) = both (eqb (in_place i).key (key i)) (eqb (in_place i).day (last i).day && eqb (in_place i).back (last i).back)
      (rw (fresh_in i h) at e) in
      let (b, c) = both (eqb (in_place i).day (last i).day) (eqb (in_place i).back (last i).back) f in
      (eqb-true (in_place i).key (key i) a, eqb-true (in_place i).day (last i).day b, eqb-true (in_place i).back (last i).back c)

  -- so they are those that are worked out for the month
  last-in : (i : ℕ) → i < n → ◌≡◌ {A = LastDay} (record { day = (in_place i).day; back = (in_place i).back })
      (worked_out t.calendar t.product.kind t.product.group (in_place i).key)
  unfolding cover_rule worked_out last_trading_day
  last-in i h = rw ((same_in i h).0, (same_in i h).1, (same_in i h).2)

  back_in : (i : ℕ) → i < n → (in_place i).back ≤ 6
  unfolding cover_rule last_trading_day
  back_in i h =
      let k = key-at r w t.calendar t.date i (omega (arith, as_many)) in
      let b = rule-begins t.calendar.cover t.product.kind t.product.group t.calendar t.date s.opened.covered in
      let d = rule-deep t.calendar.cover t.product.kind t.product.group s.opened.valid t.date s.opened.covered s.opened.week (key i)
      (omega (arith, k.from, b)) k.below in
      omega (arith, (same_in i h).2, six-back t.calendar t.product.kind t.product.group s.opened.weeks (key i) d.0 d.1)

  -- numbers from 1 to the count given, distinct
  record Number (i : ℕ) : Type 0 where
    pos : 1 ≤ (in_place i).number
    small : (in_place i).number ≤ t.given
    apart : (j : ℕ) → j < i → (in_place j).number ≡ (in_place i).number → ⊥

  number_in : (i : ℕ) → i < n → Number i
  unfolding numbers_right
  number_in i h =
      let (a, e) = both (leb 1 (in_place i).number) _ (every-at _ n i s.numbers h) in
      let (b, c) = both (leb (in_place i).number t.given) (every i (λ j. not (eqb (in_place j).number (in_place i).number))) e in
      record {
        pos = leb-true 1 (in_place i).number a;
        small = leb-true (in_place i).number t.given b;
        apart = λ j l. eqb-false (in_place j).number (in_place i).number
            (not-true (eqb (in_place j).number (in_place i).number) (every-at (λ j. not (eqb (in_place j).number (in_place i).number)) i j c l));
      }

  -- so every used place is there
  long : n ≤ length t.maturities
  long = go (lt-or-ge (length t.maturities) n)
    where
      go : (length t.maturities < n) ⊎ (n ≤ length t.maturities) → n ≤ length t.maturities
      go (inl l) =
          let e : in_place (length t.maturities) ≡ unused = get_or-eq_default t.maturities unused (le_refl (length t.maturities)) in
          absurd (omega (arith, (number_in (length t.maturities) l).pos, ap (λ (m : Maturity). m.number) e))
      go (inr l) = l

  listed-long : length (listed_in t) ≡ n
  listed-long = length-take-le n t.maturities long

  listed_at : (i : ℕ) → i < n → get_or (listed_in t) i unused ≡ in_place i
  listed_at i h = get_or-take n t.maturities i unused h

  -- the number of the month in a place
  number-key : (i : ℕ) → i < n → number_of (listed_in t) (key i) ≡ (in_place i).number
  number-key i h =
      let q : (get_or (listed_in t) i unused).key ≡ key i = ap (λ (m : Maturity). m.key) (listed_at i h) ∙ (same_in i h).0 in
      ap (number_of (listed_in t)) (sym q) ∙ number-place (listed_in t) i (omega (arith, listed-long)) (λ j l e. rises j l (e ∙ q))
      ∙ ap (λ (m : Maturity). m.number) (listed_at i h)
    where
      rises : (j : ℕ) → j < i → (get_or (listed_in t) j unused).key ≡ key i → ⊥
      rises j l e =
          omega (
            arith,
            ap (λ (m : Maturity). m.key) (listed_at j (omega arith)),
            (same_in j (omega arith)).0,
            keys-rise r w t.calendar t.date j i l (omega (arith, as_many)),
          )

  listing-is : listed_in t ≡ map (maturity r t.calendar (number_of (listed_in t))) (fresh_keys r t.calendar t.date)
  listing-is =
      ext_get_or unused (listed_in t) (map (maturity r t.calendar (number_of (listed_in t))) (fresh_keys r t.calendar t.date))
      (listed-long ∙ sym (length-map (fresh_keys r t.calendar t.date) (maturity r t.calendar (number_of (listed_in t))) ∙ as_many))
      (λ i h. each i (omega (arith, listed-long)))
    where
      each : (i : ℕ) → i < n → get_or (listed_in t) i unused
          ≡ get_or (map (maturity r t.calendar (number_of (listed_in t))) (fresh_keys r t.calendar t.date)) i unused
      each i h =
          listed_at i h
          ∙ same-maturity (in_place i) (maturity r t.calendar (number_of (listed_in t)) (key i)) (same_in i h).0 (same_in i h).1 (same_in i h).2
          (sym (number-key i h))
          ∙ sym (at_map (maturity r t.calendar (number_of (listed_in t))) unused (fresh_keys r t.calendar t.date) i (omega (arith, as_many)))

  -- the place of a listed month has its number
  record Placed (k : ℕ) : Type 0 where
    place : ℕ
    below : place < n
    named : key place ≡ k
    number : number_of (listed_in t) k ≡ (in_place place).number

  placed_at : (k : ℕ) → is_listed (listed_in t) k ≡ true → Placed k
  placed_at k e =
      let q = place_of (listed_in t) k e in
      let h : q.place < n = omega (arith, q.below, listed-long) in
      let m : key q.place ≡ k = sym (same_in q.place h).0 ∙ sym (ap (λ (m : Maturity). m.key) (listed_at q.place h)) ∙ q.key in
      record { place = q.place; below = h; named = m; number = ap (number_of (listed_in t)) (sym m) ∙ number-key q.place h }

  listed-is : (k : ℕ) → is_listed (listed_in t) k ≡ now r t.calendar t.date k
  listed-is k = ap (λ (ms : List Maturity). is_listed ms k) listing-is ∙ listed-now r w t.calendar t.date (number_of (listed_in t)) k

  numbers-are : Numbers (now r t.calendar t.date) t.given (number_of (listed_in t))
  numbers-are = record {
    pos = λ k e. positive k (placed_at k (listed-is k ∙ e));
    small = λ k. within k (lt-or-ge 0 (number_of (listed_in t) k));
    inj = λ x y e l. one x y e (placed_at x (number-listed (listed_in t) x l)) (placed_at y (number-listed (listed_in t) y (omega arith)));
  }
    where
      positive : (k : ℕ) → Placed k → 1 ≤ number_of (listed_in t) k
      positive k q = omega (arith, q.number, (number_in q.place q.below).pos)

      within : (k : ℕ) → (0 < number_of (listed_in t) k) ⊎ (number_of (listed_in t) k ≤ 0) → number_of (listed_in t) k ≤ t.given
      within k (inl h) =
          let q = placed_at k (number-listed (listed_in t) k h) in
          omega (arith, q.number, (number_in q.place q.below).small)
      within k (inr h) = omega arith

      one : (x y : ℕ) → number_of (listed_in t) x ≡ number_of (listed_in t) y → Placed x → Placed y → x ≡ y
      one x y e a b =
          let c : (in_place a.place).number ≡ (in_place b.place).number = sym a.number ∙ e ∙ b.number in
          let u : a.place < b.place → ⊥ = λ l. (number_in b.place b.below).apart a.place l c in
          let v : b.place < a.place → ⊥ = λ l. (number_in a.place a.below).apart b.place l (sym c) in
          let q : a.place ≡ b.place = omega arith in
          sym a.named ∙ ap key q ∙ b.named

  numbered : Numbered r t.calendar t.date (listed_in t) t.given (number_of (listed_in t))
  numbered = record {
    listing = listing-is;
    numbers = numbers-are;
    there = λ k h l. sym (listed-is k) ∙ number-listed (listed_in t) k h;
    begins = omega (arith, rule-begins t.calendar.cover t.product.kind t.product.group t.calendar t.date s.opened.covered);
    enough = omega (arith, listed-long, s.enough);
    few = omega (arith, listed-long, s.few);
  }

  -- the book that holds what the table holds
  abbrev beside : Book
  beside = record { calendar = t.calendar; date = t.date; maturities = listed_in t; given = t.given; gone = []; size = t.product.size }

  abbrev refusal : Call → ℕ
  refusal c = first_no (book_asks t.product.kind t.product.group beside c)

  -- the fresh listing of an accepted call's calendar and date gives a sound table
  moved-sound : (c : Call) → refusal c ≡ 0
      → sound (moved t (calendar_after t.calendar c) (date_after t.date c)).table ≡ true
  unfolding moved
  moved-sound c e =
      let cal = calendar_after t.calendar c in
      let date = date_after t.date c in
      is-sound t.product cal date _ _ (numbers_next r t.calendar t.date t.given (number_of (listed_in t)) cal date)
      (after-opened t.product beside s.opened c e)
      (rw (rule-stays t.calendar t.product.kind t.product.group c)
      (moves r w t.calendar t.date (listed_in t) t.given (number_of (listed_in t)) numbered cal date
      (forward t.product.kind t.product.group beside w c e)).numbered)

  -- an accepted call gives a sound table
  accepted-sound : sound t ≡ true → (c : Call) → refusal c ≡ 0 → sound (accepted_call t c).table ≡ true
  accepted-sound e (roll date) y = moved-sound (roll date) y
  accepted-sound e (close day) y = moved-sound (close day) y
  accepted-sound e (reopen day) y = moved-sound (reopen day) y
  accepted-sound e (measure u v price) y = resized-sound t _ e (asked-range t.product.kind t.product.size u v price y).size-right

  called-sound : sound t ≡ true → (c : Call) → sound (table_call t c).table ≡ true
  called-sound e c = rw (table-answer t beside refl refl refl e c) (go (eqb (refusal c) 0) refl)
    where
      go : (b : Bool) → eqb (refusal c) 0 ≡ b → sound (either_call b t c (refusal c)).table ≡ true
      go true q = accepted-sound e c (eqb-true (refusal c) 0 q)
      go false q = e

module _ (t : Table) (e : sound t ≡ true) where
  -- a sound table holds as many maturities as its kind's row of counts sums to
  pub listed-length : length (listed_in t) ≡ places_of_kind t.product.kind
  listed-length = listed-long t (sounds t e)

  -- they are a numbered listing
  pub sound-numbered : Numbered (rule_in t t.calendar) t.calendar t.date (listed_in t) t.given (number_of (listed_in t))
  sound-numbered = numbered t (sounds t e)

  -- no more numbers are given than the cover has months, or weekly Fridays
  pub given-bound : t.given ≤ keys_of t.calendar.cover t.product.kind
  given-bound =
      omega (
        arith,
        given-most (r t (sounds t e)) (w t (sounds t e)) t.calendar t.date (listed_in t) t.given (number_of (listed_in t)) sound-numbered,
        rule-keys t.calendar.cover t.product.kind t.product.group,
      )

  -- 'So the listing number of a month never passes 192'
  pub number_bound : is_weekly t.product.kind ≡ false → (m : ℕ) → number_of (listed_in t) m ≤ 192
  number_bound q m = omega (
    arith,
    sound-numbered.numbers.small m,
    given-bound,
    months-most t.calendar.cover t.product.kind (sounds t e).opened.valid q,
  )

  -- 'a sound table has it right': the day and the days stepped back of each maturity are those that are worked out (02, note 2)
  pub last-right : (i : ℕ) → i < places_of_kind t.product.kind
      → ◌≡◌ {A = LastDay} (record { day = (get_or t.maturities i unused).day; back = (get_or t.maturities i unused).back })
      (worked_out t.calendar t.product.kind t.product.group (get_or t.maturities i unused).key)
  last-right = last-in t (sounds t e)

  -- 'the number of days it stepped back from the anchor, 0 to 6' (02, note 2)
  pub back-most : (i : ℕ) → i < places_of_kind t.product.kind → (get_or t.maturities i unused).back ≤ 6
  back-most = back_in t (sounds t e)

  -- what an accepted open asks holds of its product, calendar and date
  pub sound-opened : Opened t.product t.calendar t.date
  sound-opened = (sounds t e).opened

  -- the key in a used place is the fresh listing's, it is listed, and the place holds its number
  pub key_right : (i : ℕ) → i < places_of_kind t.product.kind
      → (get_or t.maturities i unused).key ≡ get_or (fresh_keys (rule_in t t.calendar) t.calendar t.date) i 0
  key_right i h = (same_in t (sounds t e) i h).0

  -- the number of the key in a used place of a sound table is the number in that place
  pub number-right : (i : ℕ) → i < places_of_kind t.product.kind
      → number_of (listed_in t) (get_or t.maturities i unused).key ≡ (get_or t.maturities i unused).number
  number-right i h = ap (number_of (listed_in t)) (key_right i h) ∙ number-key t (sounds t e) i h

  -- the key in a used place of a sound table is listed
  pub key-listed : (i : ℕ) → i < places_of_kind t.product.kind → is_listed (listed_in t) (get_or t.maturities i unused).key ≡ true
  key-listed i h =
      number-listed (listed_in t) (get_or t.maturities i unused).key (omega (arith, number-right i h, (number_in t (sounds t e) i h).pos))

  -- accepted or refused, a call on it gives a sound table
  pub call-sound : (c : Call) → sound (table_call t c).table ≡ true
  call-sound = called-sound t (sounds t e) e

  -- a roll of a sound table gives a sound table
  pub roll-sound : (date : ℕ) → sound (roll_call t date).table ≡ true
  roll-sound date = call-sound (roll date)

  -- closing a day of a sound table gives a sound table
  pub close-sound : (day : ℕ) → sound (close_call t day).table ≡ true
  close-sound day = call-sound (close day)

  -- reopening a day of a sound table gives a sound table
  pub reopen-sound : (day : ℕ) → sound (reopen_call t day).table ≡ true
  reopen-sound day = call-sound (reopen day)

  -- a measure of a sound table gives a sound table
  pub measure-sound : (p q price : ℕ) → sound (measure_call t p q price).table ≡ true
  measure-sound p q price = call-sound (measure p q price)
