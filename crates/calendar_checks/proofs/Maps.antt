-- Question 5 by words: the days of a year that may not be closed, and the maps of 16 years.
-- Assumes nothing.
use mathlib.Core.Path.{◌≡◌, refl, ◌∙◌, sym, ap}
use mathlib.Core.Bool.{Bool, true, false, not, ◌&&◌, ◌||◌, cond, and-false}
use mathlib.Core.Logic.{◌⊎◌, inl, inr}
use mathlib.Core.List.{List}
use Prim.Native.Nat.{ℕ, ◌+◌, ◌-◌, ◌*◌, ◌/◌, ◌%◌, ◌^◌, ◌≤◌, ◌<◌}
use native.Mathlib.Omega.{arith}
use lib.Bits.{bit_or}
use lib.Dec.{leb, ltb}
use borrow.Author.Tests.{le-leb, lt-leb, lt-ltb, le-ltb}
use Rattle.questions.specs.Search.{every}
use Rattle.questions.proofs.Bools.{lt-or-ge}
use Rattle.questions.proofs.Search.{every-at}
use Rattle.days.specs.Gregorian.{weekday_of}
use Rattle.days.specs.Dates.{year_start}
use Rattle.days.proofs.Years.{year-start-is, year-start-past, year-start-le}
use Rattle.calendar.specs.declared.Cover.{Cover}
use Rattle.calendar.specs.declared.Calendar.{Calendar}
use Rattle.calendar.specs.Bits.{bit_at}
use Rattle.calendar.specs.Trading.{may_close, may_be_closed, bits_clean, clean}
use Rattle.calendar.proofs.Covered.{may-not, may-day, may_past}
use Rattle.calendar_words.specs.DayWords.{day_bit, Weekends}
use Rattle.calendar_words.proofs.DayWords.{or-day, shr-day, every-same, both-every}
use Rattle.calendar_checks.proofs.Ranges.{every-sum}
use Rattle.calendar_checks.specs.Maps.{Barred, Used}

-- a year that has days has 365 or 366
pub year-days : (y : ℕ) → year_start y < year_start (y + 1)
    → (2000 ≤ y) × (y < 2100) × (year_start y + 365 ≤ year_start (y + 1)) × (year_start (y + 1) ≤ year_start y + 366)
year-days y h = go (lt-or-ge y 2000) (lt-or-ge y 2100)
  where
    go : (y < 2000) ⊎ (2000 ≤ y) → (y < 2100) ⊎ (2100 ≤ y)
        → (2000 ≤ y) × (y < 2100) × (year_start y + 365 ≤ year_start (y + 1)) × (year_start (y + 1) ≤ year_start y + 366)
    go (inl a) b = absurd (omega (arith, h, year-start-le (y + 1) 2000 (omega arith), year-start-is 2000 (omega arith) (omega arith)))
    go (inr a) (inr b) = absurd (omega (arith, h, year-start-past y b, year-start-past (y + 1) (omega arith)))
    go (inr a) (inl b) =
        let s = year-start-is y a (omega arith) in
        let e = year-start-is (y + 1) (omega arith) (omega arith) in
        (a, b, omega arith, omega arith)

-- the weekends of a year that has days
barred-weeks : (y x j p : ℕ) → year_start y < year_start (y + 1) → Weekends (year_start y) x → j < 6 → p < 56
    → day_bit 56 (x / 2 ^ 8) p ≡ not (may_close y (56 * j + p))
barred-weeks y x j p h v k l =
    let d = year-days y h in
    let e : weekday_of (year_start y + p) ≡ weekday_of (year_start y + (56 * j + p)) = omega arith in
    shr-day 56 8 x p l ∙ v p (omega arith) ∙ ap (λ (n : ℕ). not (ltb n 5)) e ∙ sym (ap not (may-day y (56 * j + p) (omega (arith, d))))

or-false : (q : Bool) → (q || false) ≡ q
or-false true = refl
or-false false = refl

-- the rest of the map: its last days are after the year's end
barred-rest : (y x m c p : ℕ) → year_start (y + 1) ≡ year_start y + 336 + c → c ≤ 32 → Weekends (year_start y) x
    → every 32 (λ p. cond (leb c p) (day_bit 32 m p) (not (day_bit 32 m p))) ≡ true → p < 32 → day_bit 32 (bit_or (x / 2 ^ 32) m) p ≡ not (may_close y (336 + p))
barred-rest y x m c p s b v t l = or-day 32 (x / 2 ^ 32) m p ∙ ap (λ (q : Bool). q || day_bit 32 m p) (shr-day 32 32 x p l ∙ v p (omega arith)) ∙
    go (lt-or-ge p c)
  where
    tested : cond (leb c p) (day_bit 32 m p) (not (day_bit 32 m p)) ≡ true
    tested = every-at (λ p. cond (leb c p) (day_bit 32 m p) (not (day_bit 32 m p))) 32 p t l

    off : (q : Bool) → not q ≡ true → q ≡ false
    off true h = sym h
    off false h = refl

    or-true : (q : Bool) → (q || true) ≡ true
    or-true true = refl
    or-true false = refl

    go : (p < c) ⊎ (c ≤ p) → (not (ltb (weekday_of (year_start y + p)) 5) || day_bit 32 m p) ≡ not (may_close y (336 + p))
    go (inl h) =
        let z : day_bit 32 m p ≡ false = off (day_bit 32 m p) (rw (lt-leb c p h) at tested) in
        let e : weekday_of (year_start y + p) ≡ weekday_of (year_start y + (336 + p)) = omega arith in
        rw z (or-false (not (ltb (weekday_of (year_start y + p)) 5))) ∙ ap (λ (n : ℕ). not (ltb n 5)) e ∙ sym (ap not (may-day y (336 + p) (omega arith)))
    go (inr h) =
        let o : day_bit 32 m p ≡ true = rw (le-leb c p h) at tested in
        rw o (or-true (not (ltb (weekday_of (year_start y + p)) 5))) ∙ sym (ap not (may-not y (336 + p) (omega arith)))

-- the words that the code makes of them
module _ (y x : ℕ) (b : Barred y x) where
  none_open : year_start (y + 1) ≤ year_start y → (n p : ℕ) → p < 64 → day_bit 64 x p ≡ not (may_close y (n + p))
  none_open h n p l = every-at (day_bit 64 x) 64 p (b.1 h) l ∙ sym (ap not (may-not y (n + p) (omega arith)))

  -- in each eight weeks of a year, the word without its last eight days has the days that may not be closed
  pub weeks-barred : (j p : ℕ) → j < 6 → p < 56 → day_bit 56 (x / 2 ^ 8) p ≡ not (may_close y (56 * j + p))
  weeks-barred j p k l = go (lt-or-ge (year_start y) (year_start (y + 1)))
    where
      go : (year_start y < year_start (y + 1)) ⊎ (year_start (y + 1) ≤ year_start y) → day_bit 56 (x / 2 ^ 8) p ≡ not (may_close y (56 * j + p))
      go (inl h) = barred-weeks y x j p h (b.0 h) k l
      go (inr h) = shr-day 56 8 x p l ∙ none_open h (56 * j) p (omega arith)

  -- after six times eight weeks, the word of the rest, with the days after the year's end, has the days that may not be closed
  pub rest-barred : (m c : ℕ) → (year_start y < year_start (y + 1) → year_start (y + 1) ≡ year_start y + 336 + c) → c ≤ 32
      → every 32 (λ p. cond (leb c p) (day_bit 32 m p) (not (day_bit 32 m p))) ≡ true → (p : ℕ) → p < 32
      → day_bit 32 (bit_or (x / 2 ^ 32) m) p ≡ not (may_close y (336 + p))
  rest-barred m c s k t p l = go (lt-or-ge (year_start y) (year_start (y + 1)))
    where
      go : (year_start y < year_start (y + 1)) ⊎ (year_start (y + 1) ≤ year_start y) → day_bit 32 (bit_or (x / 2 ^ 32) m) p ≡ not (may_close y (336 + p))
      go (inl h) = barred-rest y x m c p (s h) k (b.0 h) t l
      go (inr h) = or-day 32 (x / 2 ^ 32) m p ∙
          rw (shr-day 32 32 x p l, every-at (day_bit 64 x) 64 p (b.1 h) (omega arith)) (sym (ap not (may-not y (336 + p) (omega arith))))

-- how many days a year that has days has after six times eight weeks
pub rest-leap : (y : ℕ) → y % 4 ≡ 0 → year_start y < year_start (y + 1) → year_start (y + 1) ≡ year_start y + 336 + 30
rest-leap y z h =
    let (a, b, _, _) = year-days y h in
    let w : (y - 2000 + 4) / 4 ≡ (y - 2000 + 3) / 4 + 1 = omega arith in
    omega (arith, year-start-is y a (omega arith), year-start-is (y + 1) (omega arith) (omega arith))

-- a year that has days and is not divisible by four has 29 days after six times eight weeks
pub rest-other : (y : ℕ) → (y % 4 ≡ 0 → ⊥) → year_start y < year_start (y + 1) → year_start (y + 1) ≡ year_start y + 336 + 29
rest-other y z h =
    let (a, b, _, _) = year-days y h in
    let w : (y - 2000 + 4) / 4 ≡ (y - 2000 + 3) / 4 = omega arith in
    omega (arith, year-start-is y a (omega arith), year-start-is (y + 1) (omega arith) (omega arith))

-- 5, of day n of the map k of a year, and of a slot of the maps
abbrev pub map_day : List ℕ → ℕ → ℕ → ℕ → Bool
map_day map k y n = not (bit_at map (368 * k + n)) || may_close y n

-- a slot of the map is 0, or may be closed in the cover
abbrev pub slot_day : List ℕ → Cover → ℕ → Bool
slot_day map c s = not (bit_at map s) || may_be_closed c s

-- the slots of map k are the days of its year, and those after the last are not closed
module _ (map : List ℕ) (c : Cover) (n : ℕ) (u : Used c n) where
  -- each slot of map k passes exactly where each day of map k passes for its year
  pub slots-year : (k : ℕ) → k < n → every 368 (λ m. slot_day map c (368 * k + m)) ≡ every 368 (map_day map k (c.first_year + k))
  slots-year k h =
      every-same (λ m. slot_day map c (368 * k + m)) (map_day map k (c.first_year + k)) 368
      (λ m l. ap (λ (q : Bool). not (bit_at map (368 * k + m)) || q) (u.here k m h l))

  -- all slots pass where those of the first n maps do, and the bits after those maps are 0
  pub slots-after : (every (368 * n) (slot_day map c) && every (5888 - 368 * n) (λ p. not (bit_at map (368 * n + p)))) ≡ every 5888 (slot_day map c)
  slots-after =
      let e : 368 * n + (5888 - 368 * n) ≡ 5888 = omega (arith, u.most) in
      ap (λ (b : Bool). every (368 * n) (slot_day map c) && b)
      (every-same (λ p. not (bit_at map (368 * n + p))) (λ p. slot_day map c (368 * n + p)) (5888 - 368 * n)
      (λ p l. sym (or-false (not (bit_at map (368 * n + p)))) ∙
      ap (λ (q : Bool). not (bit_at map (368 * n + p)) || q) (sym (u.beyond (368 * n + p) (omega arith) (omega arith))))) ∙
      every-sum (slot_day map c) (368 * n) (5888 - 368 * n) ∙ ap (λ (m : ℕ). every m (slot_day map c)) e

-- 5, of both maps
pub both-clean : (cal : Calendar) → (every 5888 (slot_day cal.closed cal.cover)
    && every 5888 (λ s. not (bit_at cal.exchange s) || bit_at cal.closed s)) ≡ clean cal
unfolding clean bits_clean
both-clean cal = both-every (slot_day cal.closed cal.cover) (λ s. not (bit_at cal.exchange s) || bit_at cal.closed s) 5888

-- the maps of a cover
module _ (c : Cover) where
  slot_is : (s : ℕ) → may_be_closed c s ≡ (ltb (s / 368) c.years && may_close (c.first_year + s / 368) (s % 368))
  unfolding may_be_closed
  slot_is s = refl

  late : (s : ℕ) → 2100 ≤ c.first_year + s / 368 → may_be_closed c s ≡ false
  late s h = slot_is s ∙ rw (may_past (c.first_year + s / 368) (s % 368) h) (and-false (ltb (s / 368) c.years))

  after : (s : ℕ) → c.years ≤ s / 368 → may_be_closed c s ≡ false
  after s h = slot_is s ∙ rw (le-ltb (s / 368) c.years h)

  within : (k m : ℕ) → k < c.years → m < 368 → may_be_closed c (368 * k + m) ≡ may_close (c.first_year + k) m
  within k m h l =
      let a : (368 * k + m) / 368 ≡ k = omega arith in
      let b : (368 * k + m) % 368 ≡ m = omega arith in
      slot_is (368 * k + m) ∙ rw (a, b, lt-ltb k c.years h)

  -- a cover from 2100 or later has no map that may have closed days
  pub used-none : 2100 ≤ c.first_year → Used c 0
  used-none h =
      record { most = omega arith; early = λ z. absurd (omega (arith, z)); here = λ k m z. absurd (omega (arith, z)); beyond = λ s z v. late s (omega arith) }

  -- a cover of at most 16 years from before 2100 has as many maps that may have closed days as it has years
  pub used-years : c.first_year < 2100 → c.years ≤ 16 → Used c c.years
  used-years h l = record { most = l; early = λ z. h; here = within; beyond = λ s z v. after s (omega (arith, z)) }

  -- a cover of more than 16 years from before 2100 has 16 maps that may have closed days
  pub used_all : c.first_year < 2100 → 16 < c.years → Used c 16
  used_all h l = record { most = omega arith; early = λ z. h; here = λ k m z. within k m (omega (arith, z)); beyond = λ s z v. absurd (omega (arith, z, v)) }
