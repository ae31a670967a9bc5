-- The month sets are nested; the anchors of months rise and lie in their months; the months of a cover.
-- Assumes nothing.
use mathlib.Core.Path.{◌≡◌, refl, sym, ap, ◌∙◌}
use mathlib.Core.Bool.{Bool, true, false, not, ◌||◌, cond}
use mathlib.Core.List.{List, [], ◌∷◌, ◌++◌}
use mathlib.Core.Logic.{◌⊎◌, inl, inr}
use Prim.Native.Nat.{ℕ, zero, suc, ◌+◌, ◌-◌, ◌*◌, ◌%◌, ◌≤◌, ◌<◌}
use native.Mathlib.Omega.{arith}
use lib.ListN.{replicate}
use Rattle.questions.specs.Search.{every, one_of}
use Rattle.questions.proofs.Bools.{clash, lt-or-ge}
use Rattle.questions.proofs.Search.{every-at}
use Rattle.days.specs.Gregorian.{first_day}
use Rattle.days.specs.Dates.{first_of, month_of, year_start}
use Rattle.days.proofs.MonthOfDay.{length-bounds, first-suc, first-le, first_to, first_out, first-last, month-ge, month-is, month-past, month-holds, month-most}
use Rattle.calendar.specs.declared.Cover.{Cover}
use Rattle.calendar.specs.Trading.{valid_cover, cover_start, cover_end, in_cover}
use Rattle.calendar.proofs.Covered.{years, cover-facts}
use Rattle.product.specs.Settlement.{italian}
use Rattle.expiry.specs.LastDays.{third_friday, month_anchor}
use Rattle.expiry.proofs.Fridays.{third-is}
use Rattle.listing.specs.Months.{quarters, month_sets, in_set, places_of}
use Rattle.listing.proofs.OpenPlaces.{Nested, nested-wider}

-- a month of some names is a month of others, if each name is one of them
abbrev implies : List ℕ → List ℕ → ℕ → Bool
implies names others j = not (one_of names (j + 1)) || one_of others (j + 1)

names-inside : (names others : List ℕ) → every 12 (implies names others) ≡ true → (m : ℕ) → in_set names m ≡ true → in_set others m ≡ true
unfolding in_set
names-inside names others e m t =
    go (one_of names (m % 12 + 1)) (one_of others (m % 12 + 1)) (every-at (implies names others) 12 (m % 12) e (omega arith)) t
  where
    go : (a b : Bool) → (not a || b) ≡ true → a ≡ true → b ≡ true
    go true b h t = h
    go false b h t = clash t refl

-- each set lies inside the one before it, the first inside p
abbrev pub Chain : (ℕ → Bool) → List (ℕ → Bool) → Type 0
Chain p [] = Unit {0}
Chain p (set ∷ sets) = ((m : ℕ) → set m ≡ true → p m ≡ true) × Chain set sets

nested-step : (p q : ℕ → Bool) (rest : List (ℕ → Bool)) → ((m : ℕ) → q m ≡ true → p m ≡ true) → Nested q rest → (n : ℕ) → Nested p (replicate n q ++ rest)
nested-step p q rest h s zero = nested-wider p q rest h s
nested-step p q rest h s (suc n) = (h, nested-step q q rest (λ m e. e) s n)

-- so the places of any row of counts are nested
pub nested-row : (p : ℕ → Bool) (row : List ℕ) (sets : List (ℕ → Bool)) → Chain p sets → Nested p (places_of row sets)
unfolding places_of
nested-row p [] sets c = tt
nested-row p (count ∷ row) [] c = tt
nested-row p (count ∷ row) (set ∷ sets) c = nested-step p set (places_of row sets) c.0 (nested-row set row sets c.1) count

-- each of the four sets of months lies inside the one before it
pub month-chain : Chain (λ m. true) month_sets
unfolding every one_of
month-chain = (
  λ m e. refl,
  (
    names-inside quarters (1 ∷ 2 ∷ 3 ∷ 4 ∷ 5 ∷ 6 ∷ 7 ∷ 8 ∷ 9 ∷ 10 ∷ 11 ∷ 12 ∷ []) refl,
    (names-inside (6 ∷ 12 ∷ []) quarters refl, (names-inside (12 ∷ []) (6 ∷ 12 ∷ []) refl, tt)),
  ),
)

-- the next month starts at least 28 days later, until 2099 ends
first_next : (k : ℕ) → k < 1200 → first_of k + 28 ≤ first_of (suc k)
first_next k h = omega (arith, first_to k (omega arith), first_to (suc k) h, first-suc k, length-bounds k)

first_stops : (k : ℕ) → 1200 ≤ k → first_of (suc k) ≡ first_of k
first_stops k h = first_out (suc k) (omega arith) ∙ sym (first_out k h)

third-next : (k : ℕ) → k < 1200 → third_friday k + 28 ≤ third_friday (suc k)
third-next k h = omega (arith, third-is k, third-is (suc k), first_next k h)

third-stops : (k : ℕ) → 1200 ≤ k → third_friday (suc k) ≡ third_friday k
unfolding third_friday
third-stops k h = rw (first_stops k h)

module _ (group : List ℕ) where
  anchor-third : (k : ℕ) → (third_friday k ≤ month_anchor group k + 1) × (month_anchor group k ≤ third_friday k)
  unfolding month_anchor
  anchor-third k = go (italian group)
    where
      go : (b : Bool) → (third_friday k ≤ cond b (third_friday k - 1) (third_friday k) + 1) × (cond b (third_friday k - 1) (third_friday k) ≤ third_friday k)
      go true = (omega arith, omega arith)
      go false = (omega arith, omega arith)

  -- anchors rise strictly until 2099 ends
  pub anchor-next : (k : ℕ) → k < 1200 → month_anchor group k + 28 ≤ month_anchor group (suc k)
  unfolding month_anchor
  anchor-next k h = go (italian group)
    where
      go : (b : Bool) → cond b (third_friday k - 1) (third_friday k) + 28 ≤ cond b (third_friday (suc k) - 1) (third_friday (suc k))
      go true = omega (arith, third-next k h, third-is k)
      go false = omega (arith, third-next k h)

  -- from the end of 2099 on, the anchor of the next month is the same day
  pub anchor-stops : (k : ℕ) → 1200 ≤ k → month_anchor group (suc k) ≡ month_anchor group k
  unfolding month_anchor
  anchor-stops k h = rw (third-stops k h)

  -- the anchor lies in its month, at least 13 days after its first
  pub anchor-in : (k : ℕ) → k < 1200 → (first_day k + 13 ≤ month_anchor group k) × (month_anchor group k < first_day (suc k))
  anchor-in k h =
      let s = anchor-third k in
      (omega (arith, third-is k, first_to k (omega arith)), omega (arith, third-is k, first_to k (omega arith), first-suc k, length-bounds k))

  -- the anchor of the next month is not before the anchor of a month
  pub anchor-rises : (k : ℕ) → month_anchor group k ≤ month_anchor group (suc k)
  anchor-rises k = go (lt-or-ge k 1200)
    where
      go : (k < 1200) ⊎ (1200 ≤ k) → month_anchor group k ≤ month_anchor group (suc k)
      go (inl l) = omega (arith, anchor-next k l)
      go (inr l) = omega (arith, anchor-stops k l)

  -- a month before a date's own has its anchor before the date
  pub anchor-own : (k d : ℕ) → k < month_of d → month_anchor group k < d
  anchor-own k d h = go (lt-or-ge d 36525)
    where
      l : k < 1200
      l = omega (arith, month-most d)

      go : (d < 36525) ⊎ (36525 ≤ d) → month_anchor group k < d
      go (inl s) = omega (arith, anchor-in k l, first-le (suc k) (month_of d) h, month-holds d s)
      go (inr s) = omega (arith, anchor-in k l, first-last k l, first-suc k)

-- months rise with the days
pub month-rises : (d e : ℕ) → d ≤ e → month_of d ≤ month_of e
month-rises d e h = go (lt-or-ge e 36525)
  where
    go : (e < 36525) ⊎ (36525 ≤ e) → month_of d ≤ month_of e
    go (inl l) =
        let a = month-holds d (omega arith) in
        let b = month-holds e l in
        month-ge (month_of d) (month_of e) e (omega (arith, a.from)) b.until
    go (inr l) = omega (arith, month-most d, month-past e l)

-- the month of a 1 January
month-start : (y : ℕ) → 2000 ≤ y → y ≤ 2100 → (month_of (year_start y) ≡ 12 * (y - 2000)) × (year_start y ≡ first_day (12 * (y - 2000)))
unfolding year_start
month-start y a b =
    let q : first_of (12 * (y - 2000)) ≡ first_day (12 * (y - 2000)) = first_to (12 * (y - 2000)) (omega arith) in (
      month-is (12 * (y - 2000)) (first_of (12 * (y - 2000))) (omega arith) (omega arith)
          (omega (arith, first-suc (12 * (y - 2000)), length-bounds (12 * (y - 2000)))),
      q,
    )

module _ (c : Cover) where
  -- the months of the cover
  pub record Months : Type 0 where
    -- the cover has at most 192 months
    pub most : month_of (cover_end c) ≤ month_of (cover_start c) + 192
    -- the first month beyond the cover is at most month 1,200
    pub last : month_of (cover_end c) ≤ 1200
    -- the cover's start is the first day of its month
    pub start : cover_start c ≡ first_day (month_of (cover_start c))
    -- the cover's end is the first day of its month
    pub end : cover_end c ≡ first_day (month_of (cover_end c))

  -- a valid cover has at most 192 months, ends by 2099 and is made of whole months
  pub months : valid_cover c ≡ true → Months
  unfolding cover_start cover_end
  months v =
      let y = years c v in
      let s = month-start c.first_year y.low (omega arith) in
      let e = month-start (c.first_year + c.years) (omega arith) y.high in
      record {
        most = omega arith;
        last = month-most (year_start (c.first_year + c.years));
        start = s.1 ∙ ap first_day (sym s.0);
        end = e.1 ∙ ap first_day (sym e.0);
      }

  -- a date of the cover has its month in the cover
  pub own-month : (d : ℕ) → in_cover c d ≡ true → (month_of (cover_start c) ≤ month_of d) × (month_of d ≤ month_of (cover_end c))
  own-month d e =
      let f = cover-facts c d e in
      (month-rises (cover_start c) d f.0, month-rises d (cover_end c) (omega arith))

  -- the anchor of a month of the cover, and the six days before it, lie in the cover
  pub month-deep : valid_cover c ≡ true → (group : List ℕ) (m : ℕ) → month_of (cover_start c) ≤ m → m < month_of (cover_end c)
      → (cover_start c + 6 ≤ month_anchor group m) × (month_anchor group m < cover_end c)
  month-deep valid group m a b =
      let v = months valid in
      let i = anchor-in group m (omega (arith, v.last)) in
      (omega (arith, v.start, first-le (month_of (cover_start c)) m a, i.0), omega (arith, v.end, first-le (suc m) (month_of (cover_end c)) b, i.1))
