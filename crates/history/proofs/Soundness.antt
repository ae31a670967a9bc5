-- A table that holds a numbered listing is sound, and a sound table holds one.
-- Assumes nothing.
use mathlib.Core.Path.{◌≡◌, refl, sym, ap, ◌∙◌}
use mathlib.Core.Bool.{true, not, ◌&&◌, ◌||◌}
use mathlib.Core.List.{List, [], ◌∷◌, ◌++◌, map}
use mathlib.Core.Logic.{◌⊎◌, inl, inr}
use Prim.Native.Nat.{ℕ, zero, suc, ◌+◌, ◌-◌, ◌≤◌, ◌<◌}
use native.Mathlib.Omega.{arith}
use lib.Dec.{leb, ltb, eqb}
use lib.ListN.{length, get_or, replicate, length-map, get_or-append}
use lib.Seq.{take_at, get_or-append-add}
use borrow.Author.Tests.{eq-eqb, ne_eqb, le-leb, lt-ltb}
use Rattle.questions.specs.Search.{every}
use Rattle.questions.proofs.Bools.{both, and_both, or_left, or_right, lt-or-ge}
use Rattle.questions.proofs.Search.{every-all}
use Rattle.calendar.specs.declared.Calendar.{Calendar}
use Rattle.calendar.specs.Trading.{valid_cover, in_cover, clean, every_week}
use Rattle.product.specs.declared.Product.{Product}
use Rattle.product.specs.Fields.{product_right}
use Rattle.expiry.specs.declared.LastDay.{LastDay}
use Rattle.listing.specs.declared.Maturity.{Maturity}
use Rattle.listing.specs.Rules.{Rule, last_of, keys_before, fresh_keys, maturity, unused, places15}
use Rattle.listing.specs.Months.{places_of_kind, rule_of, all_in_cover, week_into_cover}
use Rattle.listing.proofs.Walks.{sift-at}
use Rattle.listing.proofs.Lawful.{Lawful, fresh-is, complete-length, keys-rise}
use Rattle.listing.proofs.OfKinds.{rule-lawful, rule-places}
use Rattle.table.specs.declared.Table.{Table}
use Rattle.table_numbering.specs.Numbering.{same_maturity, numbers_right}
use Rattle.table.specs.Table.{listed_in, lists_fresh, sound}
use Rattle.history.specs.History.{opens}
use Rattle.table_numbering.proofs.MonthsRise.{at_map}
use Rattle.history.proofs.ListingNumbers.{mat}
use Rattle.history.proofs.Moves.{fresh, now, Numbered}

-- the questions of an accepted open, answered yes
pub record Opened (p : Product) (cal : Calendar) (date : ℕ) : Type 0 where
  -- the product is right
  pub product : product_right p ≡ true
  -- the cover is valid
  pub valid : valid_cover cal.cover ≡ true
  -- the calendar is clean
  pub cleaned : clean cal ≡ true
  -- every seven days of the cover have a trading day
  pub weeks : every_week cal ≡ true
  -- the date is in the cover
  pub covered : in_cover cal.cover date ≡ true
  -- the date passes question 24
  pub week : week_into_cover p.kind cal.cover date ≡ true
  -- the fresh listing is all in the cover
  pub full : all_in_cover cal p.kind p.group date ≡ true

-- where a product opens with a calendar and a date, each question of open is answered yes
pub opened : (p : Product) (cal : Calendar) (date : ℕ) → opens p cal date ≡ true → Opened p cal date
unfolding opens
opened p cal date e =
    let (a, e1) = both _ _ e in
    let (b, e2) = both _ _ e1 in
    let (c, e3) = both _ _ e2 in
    let (d, e4) = both _ _ e3 in
    let (f, e5) = both _ _ e4 in
    let (h, g) = both _ _ e5 in
    record { product = a; valid = b; cleaned = c; weeks = d; covered = f; week = h; full = g }

-- a list by its places
at_same : {A : Type 0} (d : A) (n i : ℕ) → get_or (replicate n d) i d ≡ d
at_same d zero i = refl
at_same d (suc n) zero = refl
at_same d (suc n) (suc i) = at_same d n i

at-unused : (ms : List Maturity) (i : ℕ) → length ms ≤ i → get_or (places15 ms) i unused ≡ unused
unfolding places15
at-unused ms i h =
    let q : length ms + (i - length ms) ≡ i = omega arith in
    ap (λ (x : ℕ). get_or (ms ++ replicate (15 - length ms) unused) x unused) (sym q)
    ∙ get_or-append-add ms (replicate (15 - length ms) unused) (i - length ms) unused ∙ at_same unused (15 - length ms) (i - length ms)

-- a used place of the fifteen holds the maturity of the list
pub at-used : (ms : List Maturity) (i : ℕ) → i < length ms → get_or (places15 ms) i unused ≡ get_or ms i unused
unfolding places15
at-used ms i h = get_or-append ms (replicate (15 - length ms) unused) unused i h

-- the same months, days and days stepped back, whatever the numbers
module _ (dy : ℕ → LastDay) (nu mu : ℕ → ℕ) where
  same_at : (n : ℕ) (ks : List ℕ) (i : ℕ)
      → same_maturity (get_or (map (mat dy nu) ks ++ replicate n unused) i unused) (get_or (map (mat dy mu) ks ++ replicate n unused) i unused) ≡ true
  same_at n [] i = rw (at_same unused n i)
  same_at n (k ∷ ks) zero = and_both (eq-eqb k k refl) (and_both (eq-eqb (dy k).day (dy k).day refl) (eq-eqb (dy k).back (dy k).back refl))
  same_at n (k ∷ ks) (suc i) = same_at n ks i

  same-places : (ks : List ℕ) (i : ℕ) → same_maturity (get_or (places15 (map (mat dy nu) ks)) i unused) (get_or (places15 (map (mat dy mu) ks)) i unused) ≡ true
  unfolding places15
  same-places ks i = rw (length-map ks (mat dy nu), length-map ks (mat dy mu)) (same_at (15 - length ks) ks i)

-- the table of a product, a calendar, a date, some maturities and the count given
abbrev pub table_of : Product → Calendar → ℕ → List Maturity → ℕ → Table
table_of p cal date ms given = record { product = p; calendar = cal; date = date; maturities = places15 ms; given = given }

module _ (p : Product) (cal : Calendar) (date : ℕ) (ms : List Maturity) (given : ℕ) (nu : ℕ → ℕ) (o : Opened p cal date) where
  abbrev r : Rule
  r = rule_of cal p.kind p.group

  abbrev w : Lawful (rule_of cal p.kind p.group)
  w = rule-lawful cal.cover p.kind p.group

  abbrev n : ℕ
  n = places_of_kind p.kind

  module _ (I : Numbered (rule_of cal p.kind p.group) cal date ms given nu) where
    as_many : length (fresh_keys r cal date) ≡ n
    as_many = complete-length r w cal date o.full ∙ rule-places cal.cover p.kind p.group

    as_long : length ms ≡ n
    as_long = ap length I.listing ∙ length-map (fresh_keys r cal date) (maturity r cal nu) ∙ as_many

    -- it holds them
    pub holds : listed_in (table_of p cal date ms given) ≡ ms
    unfolding places15
    holds = take_at ms (replicate (15 - length ms) unused) (n) as_long

    lists-them : lists_fresh (table_of p cal date ms given) ≡ true
    unfolding lists_fresh
    lists-them = every-all _ 15 (λ i h. each i (lt-or-ge i (n)))
      where
        same : (i : ℕ) → same_maturity (get_or (places15 ms) i unused) (get_or (places15 (fresh r cal date)) i unused) ≡ true
        same i = rw I.listing (same-places (last_of r cal) nu (λ k. 0) (fresh_keys r cal date) i)

        each : (i : ℕ) → (i < n) ⊎ (n ≤ i)
            → (same_maturity (get_or (places15 ms) i unused) (get_or (places15 (fresh r cal date)) i unused)
            && (ltb i (n) || eqb (get_or (places15 ms) i unused).number 0)) ≡ true
        each i (inl l) = and_both (same i) (or_left (eqb (get_or (places15 ms) i unused).number 0) (lt-ltb i (n) l))
        each i (inr l) = and_both (same i) (or_right (ltb i (n)) (rw (at-unused ms i (omega (arith, as_long)))))

    -- the key in a place, and its number
    abbrev key : ℕ → ℕ
    key i = get_or (fresh_keys r cal date) i 0

    used : (i : ℕ) → i < n → i < length (fresh_keys r cal date)
    used i h = omega (arith, as_many)

    number-at : (i : ℕ) → i < n → (get_or (places15 ms) i unused).number ≡ nu (key i)
    number-at i h =
        ap (λ (m : Maturity). m.number)
        (at-used ms i (omega (arith, as_long)) ∙ ap (λ (l : List Maturity). get_or l i unused) I.listing ∙
        at_map (maturity r cal nu) unused (fresh_keys r cal date) i (used i h))

    key-listed : (i : ℕ) → i < n → now r cal date (key i) ≡ true
    key-listed i h = rw (fresh-is r w cal date) (sift-at (now r cal date) r.beyond 0 i (rw (fresh-is r w cal date) at (used i h))).passes

    numbers-them : numbers_right (places15 ms) (n) given ≡ true
    unfolding numbers_right
    numbers-them = every-all _ (n) each
      where
        apart : (i j : ℕ) → i < n → j < i → not (eqb (get_or (places15 ms) j unused).number (get_or (places15 ms) i unused).number) ≡ true
        apart i j h l =
            rw (
              number-at i h,
              number-at j (omega arith),
              ne_eqb (nu (key j)) (nu (key i))
                  (λ q. absurd (omega (
                    arith,
                    I.numbers.inj (key j) (key i) q (I.numbers.pos (key j) (key-listed j (omega arith))),
                    keys-rise r w cal date j i l (used i h),
                  ))),
            )

        each : (i : ℕ) → i < n → (leb 1 (get_or (places15 ms) i unused).number
            && (leb (get_or (places15 ms) i unused).number given
            && every i (λ j. not (eqb (get_or (places15 ms) j unused).number (get_or (places15 ms) i unused).number)))) ≡ true
        each i h =
            and_both (le-leb 1 (get_or (places15 ms) i unused).number (rw (number-at i h) (I.numbers.pos (key i) (key-listed i h))))
            (and_both (le-leb (get_or (places15 ms) i unused).number given (rw (number-at i h) (I.numbers.small (key i))))
            (every-all _ i (λ j l. apart i j h l)))

    -- a table that holds a numbered listing and passes the questions of open is sound
    pub is-sound : sound (table_of p cal date ms given) ≡ true
    unfolding sound
    is-sound =
        and_both o.product (and_both o.valid (and_both o.cleaned (and_both o.weeks (and_both o.covered (and_both o.week (and_both o.full
        (and_both lists-them (and_both numbers-them
        (and_both (le-leb (n) given (omega (arith, I.enough, as_long)))
        (le-leb (given - n) (keys_before r cal date) (omega (arith, I.few, as_long))))))))))))
