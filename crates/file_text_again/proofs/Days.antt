-- The calendar that the lines of a right calendar's days say has that calendar's cover, closed days and days of the second map.
-- Assumes nothing.
use mathlib.Core.Path.{◌≡◌, refl, sym, ap, ◌∙◌}
use mathlib.Core.Bool.{Bool, true, false, not, ◌&&◌, ◌||◌, cond, and-false}
use mathlib.Core.Logic.{◌⊎◌, inl, inr}
use Prim.Native.Nat.{ℕ, zero, suc, ◌+◌, ◌-◌, ◌/◌, ◌%◌, ◌^◌, ◌≤◌, ◌<◌}
use native.Mathlib.Nat.{zero-div, le_refl}
use native.Mathlib.Omega.{arith}
use lib.Dec.{eqb, ltb}
use lib.ListN.{length, get_or, replicate, length-set, length-replicate, get_or-replicate, get_or-eq_default}
use borrow.Author.Tests.{le-leb, lt-ltb, le-ltb, eqb-true, eqb-false}
use Rattle.questions.proofs.Bools.{both, and-fst, lt-or-ge}
use Rattle.questions.proofs.Search.{every-at}
use Rattle.calendar.specs.Bits.{bit_at, set_bit}
use Rattle.calendar.specs.declared.Calendar.{Calendar}
use Rattle.calendar.specs.Trading.{calendar_with, valid_cover, cover_start, cover_end, in_cover, slot_of, closed_on, in_second_map, open_calendar, may_be_closed, bits_clean}
use Rattle.calendar.specs.Trading.{clean_slot, clean, close_day}
use Rattle.calendar.proofs.Covered.{cover-facts, start-end, covered, slot-below}
use Rattle.calendar.proofs.Closing.{closed-other, closed-here}
use Rattle.file_text_print.specs.Contents.{cover_days}
use Rattle.file_text_read.specs.Lists.{close_exchange_day}
use Rattle.file_text_again.proofs.FileText.{day_told, calendar_told}

-- ---- days up to one

before-next : (x d : ℕ) → (x ≡ d → ⊥) → ltb x (suc d) ≡ ltb x d
before-next x d n = go (lt-or-ge x d)
  where
    go : (x < d) ⊎ (d ≤ x) → ltb x (suc d) ≡ ltb x d
    go (inl h) = lt-ltb x (suc d) (omega arith) ∙ sym (lt-ltb x d h)
    go (inr h) = le-ltb x (suc d) (next h) ∙ sym (le-ltb x d h)
      where
        next : d ≤ x → suc d ≤ x
        next h = other (lt-or-ge d x)
          where
            other : (d < x) ⊎ (x ≤ d) → suc d ≤ x
            other (inl l) = omega arith
            other (inr l) = absurd (n (omega arith))

module _ (b old : ℕ → Bool) (d : ℕ) (is : (x : ℕ) → old x ≡ (b x && ltb x d)) where
  -- a day that is not marked
  step-keep : b d ≡ false → (x : ℕ) → old x ≡ (b x && ltb x (suc d))
  step-keep n x = is x ∙ go (eqb x d) refl
    where
      go : (c : Bool) → eqb x d ≡ c → (b x && ltb x d) ≡ (b x && ltb x (suc d))
      go true q = rw (eqb-true x d q, n) refl
      go false q = ap (λ (y : Bool). b x && y) (sym (before-next x d (eqb-false x d q)))

  -- one that is marked
  step-mark : b d ≡ true → (new : ℕ → Bool) → new d ≡ true → ((x : ℕ) → (x ≡ d → ⊥) → new x ≡ old x) → (x : ℕ) → new x ≡ (b x && ltb x (suc d))
  step-mark m new h other x = go (eqb x d) refl
    where
      go : (c : Bool) → eqb x d ≡ c → new x ≡ (b x && ltb x (suc d))
      go true q = rw (eqb-true x d q, h, m, lt-ltb d (suc d) (le_refl (suc d))) refl
      go false q = other x (eqb-false x d q) ∙ is x ∙ ap (λ (y : Bool). b x && y) (sym (before-next x d (eqb-false x d q)))

-- ---- maps

zeros-at : (i : ℕ) → get_or (replicate 736 zero) i zero ≡ zero
zeros-at i = go (lt-or-ge i 736)
  where
    go : (i < 736) ⊎ (736 ≤ i) → get_or (replicate 736 zero) i zero ≡ zero
    go (inl h) = get_or-replicate 736 i 0 0 h
    go (inr h) = get_or-eq_default (replicate 736 zero) 0 h

-- in a map of zeros no day is set
pub no-bit : (slot : ℕ) → bit_at (replicate 736 0) slot ≡ false
unfolding bit_at
no-bit slot = simp (zeros-at (slot / 8), zero-div (2 ^ (7 - slot % 8)))

close-long : (cal : Calendar) (d : ℕ) → length (close_day cal d).closed ≡ length cal.closed
unfolding close_day set_bit
close-long cal d = go (in_cover cal.cover d)
  where
    go : (b : Bool) → length (cond b (set_bit cal.closed (slot_of cal.cover d)) cal.closed) ≡ length cal.closed
    go true = simp length-set
    go false = refl

-- the two maps of a day closed on which payments run
exchange-first : (t : Calendar) (d x : ℕ) → closed_on (close_exchange_day t d) x ≡ closed_on (close_day t d) x
unfolding closed_on close_exchange_day close_day
exchange-first t d x = refl

exchange-second : (t : Calendar) (d x : ℕ) → in_second_map (close_exchange_day t d) x ≡ closed_on (close_day (calendar_with t.cover t.exchange) d) x
unfolding closed_on in_second_map close_exchange_day close_day
exchange-second t d x = refl

second-first : (t : Calendar) (x : ℕ) → closed_on (calendar_with t.cover t.exchange) x ≡ in_second_map t x
unfolding closed_on in_second_map
second-first t x = refl

close-second : (t : Calendar) (d x : ℕ) → in_second_map (close_day t d) x ≡ in_second_map t x
unfolding in_second_map close_day
close-second t d x = refl

-- ---- a right calendar

-- what is said up to a day: its days before that one
record UpTo (cal t : Calendar) (e : ℕ) : Type 0 where
  cover : t.cover ≡ cal.cover
  first-long : length t.closed ≡ 736
  second-long : length t.exchange ≡ 736
  days : (x : ℕ) → closed_on t x ≡ (closed_on cal x && ltb x e)
  second : (x : ℕ) → in_second_map t x ≡ (in_second_map cal x && ltb x e)

module _ (cal : Calendar) (valid : valid_cover cal.cover ≡ true) (tidy : clean cal ≡ true) where
  abbrev start : ℕ
  start = cover_start cal.cover

  -- a day of the second map is closed
  pub second-closed : (d : ℕ) → in_second_map cal d ≡ true → closed_on cal d ≡ true
  unfolding in_second_map closed_on clean bits_clean
  second-closed d h =
      let s = both (in_cover cal.cover d) (bit_at cal.exchange (slot_of cal.cover d)) h in
      let c = every-at (clean_slot cal) 5888 (slot_of cal.cover d) tidy (slot-below cal.cover d (covered cal.cover d s.0) valid) in
      rw s.0 (go (bit_at cal.closed (slot_of cal.cover d)) (may_be_closed cal.cover (slot_of cal.cover d)) (rw s.1 at c))
    where
      go : (f m : Bool) → ((not f || m) && (false || f)) ≡ true → f ≡ true
      go true m q = refl
      go false m q = q

  -- before the first day
  before : (b : ℕ → Bool) → ((x : ℕ) → b x ≡ true → in_cover cal.cover x ≡ true) → (x : ℕ) → false ≡ (b x && ltb x start)
  before b inside x = go (b x) refl
    where
      go : (c : Bool) → b x ≡ c → false ≡ (c && ltb x start)
      go true q = sym (le-ltb x start (cover-facts cal.cover x (inside x q)).0)
      go false q = refl

  closed_in : (x : ℕ) → closed_on cal x ≡ true → in_cover cal.cover x ≡ true
  unfolding closed_on
  closed_in x q = and-fst (in_cover cal.cover x) (bit_at cal.closed (slot_of cal.cover x)) q

  second-in : (x : ℕ) → in_second_map cal x ≡ true → in_cover cal.cover x ≡ true
  unfolding in_second_map
  second-in x q = and-fst (in_cover cal.cover x) (bit_at cal.exchange (slot_of cal.cover x)) q

  none-closed : (x : ℕ) → closed_on (open_calendar cal.cover) x ≡ false
  unfolding closed_on open_calendar
  none-closed x = rw (no-bit (slot_of cal.cover x)) (and-false (in_cover cal.cover x))

  none-second : (x : ℕ) → in_second_map (open_calendar cal.cover) x ≡ false
  unfolding in_second_map open_calendar
  none-second x = rw (no-bit (slot_of cal.cover x)) (and-false (in_cover cal.cover x))

  open-upto : UpTo cal (open_calendar cal.cover) start
  unfolding open_calendar
  open-upto =
      record {
        cover = refl;
        first-long = length-replicate {A = ℕ} 736 0;
        second-long = length-replicate {A = ℕ} 736 0;
        days = λ x. none-closed x ∙ before (closed_on cal) closed_in x;
        second = λ x. none-second x ∙ before (in_second_map cal) second-in x;
      }

  module _ (t : Calendar) (d : ℕ) (u : UpTo cal t d) (inside : in_cover cal.cover d ≡ true) where
    cover-valid : valid_cover t.cover ≡ true
    cover-valid = rw u.cover valid

    cover-in : in_cover t.cover d ≡ true
    cover-in = rw u.cover inside

    marked-first : closed_on cal d ≡ true → (x : ℕ) → closed_on (close_day t d) x ≡ (closed_on cal x && ltb x (suc d))
    marked-first m =
        step-mark (closed_on cal) (closed_on t) d u.days m (closed_on (close_day t d)) (closed-here t d cover-valid u.first-long cover-in) (closed-other t d)

    marked-second : in_second_map cal d ≡ true → (x : ℕ) → in_second_map (close_exchange_day t d) x ≡ (in_second_map cal x && ltb x (suc d))
    marked-second m =
        step-mark (in_second_map cal) (in_second_map t) d u.second m (in_second_map (close_exchange_day t d))
        (exchange-second t d d ∙ closed-here (calendar_with t.cover t.exchange) d cover-valid u.second-long cover-in)
        (λ x n. exchange-second t d x ∙ closed-other (calendar_with t.cover t.exchange) d x n ∙ second-first t x)

    exchange-long : length (close_exchange_day t d).exchange ≡ 736
    unfolding close_exchange_day
    exchange-long = close-long (calendar_with t.cover t.exchange) d ∙ u.second-long

    exchange-upto : in_second_map cal d ≡ true → UpTo cal (close_exchange_day t d) (suc d)
    unfolding close_exchange_day
    exchange-upto m =
        record {
          cover = u.cover;
          first-long = close-long t d ∙ u.first-long;
          second-long = exchange-long;
          days = λ x. exchange-first t d x ∙ marked-first (second-closed d m) x;
          second = marked-second m;
        }

    close-upto : in_second_map cal d ≡ false → closed_on cal d ≡ true → UpTo cal (close_day t d) (suc d)
    unfolding close_day
    close-upto n m =
        record {
          cover = u.cover;
          first-long = close-long t d ∙ u.first-long;
          second-long = u.second-long;
          days = marked-first m;
          second = λ x. close-second t d x ∙ step-keep (in_second_map cal) (in_second_map t) d u.second n x;
        }

    open-on : in_second_map cal d ≡ false → closed_on cal d ≡ false → UpTo cal t (suc d)
    open-on n m =
        record {
          cover = u.cover;
          first-long = u.first-long;
          second-long = u.second-long;
          days = step-keep (closed_on cal) (closed_on t) d u.days m;
          second = step-keep (in_second_map cal) (in_second_map t) d u.second n;
        }

    day-upto : UpTo cal (day_told cal t d) (suc d)
    unfolding day_told
    day-upto = go (in_second_map cal d) refl (closed_on cal d) refl
      where
        go : (a : Bool) → in_second_map cal d ≡ a → (b : Bool) → closed_on cal d ≡ b → UpTo cal (cond a (close_exchange_day t d) (cond b (close_day t d) t)) (suc d)
        go true p b q = exchange-upto p
        go false p true q = close-upto p q
        go false p false q = open-on p q

  upto-at : (t : Calendar) (e g : ℕ) → e ≡ g → UpTo cal t e → UpTo cal t g
  upto-at t e g q u = rw (← q) u

  day-in : (k : ℕ) → k < cover_days cal.cover → in_cover cal.cover (start + k) ≡ true
  unfolding in_cover cover_days
  day-in k h = rw (le-leb start (start + k) (omega arith), lt-ltb (start + k) (cover_end cal.cover) (omega arith)) refl

  all-upto : (k : ℕ) → k ≤ cover_days cal.cover → UpTo cal (calendar_told cal k) (start + k)
  unfolding calendar_told
  all-upto zero h = upto-at (open_calendar cal.cover) start (start + 0) (omega arith) open-upto
  all-upto (suc k) h =
      upto-at (day_told cal (calendar_told cal k) (start + k)) (suc (start + k)) (start + suc k) (omega arith)
      (day-upto (calendar_told cal k) (start + k) (all-upto k (omega arith)) (day-in k (omega arith)))

  -- all days of the cover
  all-days : (b : ℕ → Bool) → ((x : ℕ) → b x ≡ true → in_cover cal.cover x ≡ true) → (x : ℕ) → (b x && ltb x (start + cover_days cal.cover)) ≡ b x
  unfolding cover_days
  all-days b inside x = go (b x) refl
    where
      go : (c : Bool) → b x ≡ c → (c && ltb x (start + (cover_end cal.cover - start))) ≡ c
      go true q = lt-ltb x (start + (cover_end cal.cover - start)) (omega (arith, (cover-facts cal.cover x (inside x q)).1, start-end cal.cover))
      go false q = refl

  -- the calendar after the lines of all days of the cover has the closed days of the calendar that is printed
  pub days-told : (x : ℕ) → closed_on (calendar_told cal (cover_days cal.cover)) x ≡ closed_on cal x
  days-told x = (all-upto (cover_days cal.cover) (le_refl (cover_days cal.cover))).days x ∙ all-days (closed_on cal) closed_in x

  -- the calendar after the lines of all days of the cover has the same days in the second map
  pub second-told : (x : ℕ) → in_second_map (calendar_told cal (cover_days cal.cover)) x ≡ in_second_map cal x
  second-told x = (all-upto (cover_days cal.cover) (le_refl (cover_days cal.cover))).second x ∙ all-days (in_second_map cal) second-in x
