-- Closing a day changes that day alone.
-- Assumes nothing.
use mathlib.Core.Path.{◌≡◌, refl, ◌∙◌, sym, ap}
use mathlib.Core.Bool.{Bool, true, false, not, ◌&&◌, cond, and-false}
use mathlib.Core.List.{List}
use Prim.Native.Nat.{ℕ, ◌-◌, ◌*◌, ◌/◌, ◌%◌, ◌^◌}
use native.Mathlib.Omega.{arith}
use lib.Dec.{eqb, ltb}
use lib.Bits.{bit_or}
use lib.ListN.{length, get_or, set}
use borrow.Author.Tests.{eqb-true, eqb-false, not-true}
use Rattle.questions.proofs.Bools.{clash, both}
use Rattle.questions.proofs.Search.{every-at, every-all}
use Rattle.days.specs.Gregorian.{weekday_of}
use Rattle.calendar.specs.declared.Calendar.{Calendar}
use Rattle.calendar.specs.Bits.{bit_at, set_bit}
use Rattle.calendar.specs.Trading.{calendar_of_maps, valid_cover, in_cover, slot_of, closed_on, trading_day, in_second_map, may_be_closed, bits_clean, clean_slot}
use Rattle.calendar.specs.Trading.{clean, close_day}
use Rattle.calendar.proofs.Bits.{set_here, set_other, set_keeps, set-turn, one_shl}
use Rattle.calendar.proofs.Covered.{covered, slot-below, slot-may, slot_same}
use Rattle.calendar.proofs.Clean.{bits-more, bits-second}

module _ (cal : Calendar) (d : ℕ) where
  -- it keeps the cover and the second map
  pub close-cover : (close_day cal d).cover ≡ cal.cover
  unfolding close_day
  close-cover = refl

  -- closing a day leaves the second map as it is
  pub close-exchange : (close_day cal d).exchange ≡ cal.exchange
  unfolding close_day
  close-exchange = refl

  in_map : in_cover cal.cover d ≡ true → (close_day cal d).closed ≡ set_bit cal.closed (slot_of cal.cover d)
  unfolding close_day
  in_map e = rw e

  out-map : in_cover cal.cover d ≡ false → (close_day cal d).closed ≡ cal.closed
  unfolding close_day
  out-map e = rw e

  -- the bit of any other day of the cover is as it was
  bit-other : (e : ℕ) → (e ≡ d → ⊥) → in_cover cal.cover e ≡ true
      → bit_at (close_day cal d).closed (slot_of cal.cover e) ≡ bit_at cal.closed (slot_of cal.cover e)
  bit-other e ne p = go (in_cover cal.cover d) refl
    where
      go : (b : Bool) → in_cover cal.cover d ≡ b → bit_at (close_day cal d).closed (slot_of cal.cover e) ≡ bit_at cal.closed (slot_of cal.cover e)
      go true q =
          rw (in_map q)
          (set_other cal.closed (slot_of cal.cover d) (slot_of cal.cover e)
          (λ s. ne (slot_same cal.cover e d (covered cal.cover e p) (covered cal.cover d q) s)))
      go false q = rw (out-map q)

  -- any other day is as it was
  pub closed-other : (e : ℕ) → (e ≡ d → ⊥) → closed_on (close_day cal d) e ≡ closed_on cal e
  unfolding closed_on
  closed-other e ne = go (in_cover cal.cover e) refl
    where
      go : (b : Bool) → in_cover cal.cover e ≡ b
          → (in_cover (close_day cal d).cover e && bit_at (close_day cal d).closed (slot_of (close_day cal d).cover e))
          ≡ (in_cover cal.cover e && bit_at cal.closed (slot_of cal.cover e))
      go true p = rw (close-cover) (ap (λ (b : Bool). in_cover cal.cover e && b) (bit-other e ne p))
      go false p = rw (close-cover, p)

  -- closing a day leaves each other day a trading day or none, as it was
  pub trading-other : (e : ℕ) → (e ≡ d → ⊥) → trading_day (close_day cal d) e ≡ trading_day cal e
  unfolding trading_day
  trading-other e ne = rw (closed-other e ne, close-cover)

  -- the day is closed, and so no trading day
  pub closed-here : valid_cover cal.cover ≡ true → length cal.closed ≡ 736 → in_cover cal.cover d ≡ true → closed_on (close_day cal d) d ≡ true
  unfolding closed_on
  closed-here y l e =
      let s = slot-below cal.cover d (covered cal.cover d e) y in
      rw (close-cover, e, in_map e) (set_here cal.closed (slot_of cal.cover d) (omega arith))

  -- in a valid cover with a map of 736 bytes, a day that is closed is no trading day
  pub trading-here : valid_cover cal.cover ≡ true → length cal.closed ≡ 736 → trading_day (close_day cal d) d ≡ false
  unfolding trading_day
  trading-here y l = go (in_cover cal.cover d) refl
    where
      go : (b : Bool) → in_cover cal.cover d ≡ b → (in_cover (close_day cal d).cover d && (ltb (weekday_of d) 5 && not (closed_on (close_day cal d) d))) ≡ false
      go true e = rw (closed-here y l e, close-cover, e) (and-false (ltb (weekday_of d) 5))
      go false e = rw (close-cover, e)

  -- a closed day stays closed, so a trading day after closing was one before
  closed-stays : closed_on cal d ≡ true → closed_on (close_day cal d) d ≡ true
  unfolding closed_on
  closed-stays e =
      let (a, b) = both (in_cover cal.cover d) (bit_at cal.closed (slot_of cal.cover d)) e in
      rw (close-cover, a, in_map a) (set_keeps cal.closed (slot_of cal.cover d) b)

  -- closing the day itself
  trading-same : trading_day (close_day cal d) d ≡ true → trading_day cal d ≡ true
  unfolding trading_day close_day
  trading-same t = go (closed_on cal d) refl t
    where
      go : (b : Bool) → closed_on cal d ≡ b → (in_cover (close_day cal d).cover d && (ltb (weekday_of d) 5 && not (closed_on (close_day cal d) d))) ≡ true
          → (in_cover cal.cover d && (ltb (weekday_of d) 5 && not (closed_on cal d))) ≡ true
      go true q t =
          let (a, r) = both (in_cover cal.cover d) (ltb (weekday_of d) 5 && not (closed_on (close_day cal d) d)) t in
          let (w, n) = both (ltb (weekday_of d) 5) (not (closed_on (close_day cal d) d)) r in
          clash (closed-stays q) (not-true (closed_on (close_day cal d) d) n)
      go false q t =
          let (a, r) = both (in_cover cal.cover d) (ltb (weekday_of d) 5 && not (closed_on (close_day cal d) d)) t in
          let (w, n) = both (ltb (weekday_of d) 5) (not (closed_on (close_day cal d) d)) r in
          rw (a, w, q)

  -- a trading day of the calendar after a closing is a trading day of the calendar before it
  pub trading-before : (e : ℕ) → trading_day (close_day cal d) e ≡ true → trading_day cal e ≡ true
  trading-before e t = go (eqb e d) refl
    where
      go : (b : Bool) → eqb e d ≡ b → trading_day cal e ≡ true
      go true q =
          let p : e ≡ d = eqb-true _ _ q in
          ap (trading_day cal) p ∙ trading-same (ap (trading_day (close_day cal d)) (sym p) ∙ t)
      go false q = sym (trading-other e (eqb-false _ _ q)) ∙ t

  -- a Monday to Friday of the cover may be closed
  pub clean_close : clean cal ≡ true → in_cover cal.cover d ≡ true → ltb (weekday_of d) 5 ≡ true → clean (close_day cal d) ≡ true
  unfolding clean close_day
  clean_close k e w =
      (every-all (clean_slot (close_day cal d)) 5888 (λ s h. go s (eqb s (slot_of cal.cover d)) refl (every-at (clean_slot cal) 5888 s k h)))
    where
      may : may_be_closed cal.cover (slot_of cal.cover d) ≡ true
      may = slot-may cal.cover d (covered cal.cover d e) ∙ w

      go : (s : ℕ) (b : Bool) → eqb s (slot_of cal.cover d) ≡ b → clean_slot cal s ≡ true
          → bits_clean (may_be_closed cal.cover s) (bit_at (close_day cal d).closed s) (bit_at cal.exchange s) ≡ true
      go s true q t =
          let p : s ≡ slot_of cal.cover d = eqb-true s (slot_of cal.cover d) q in
          let m : may_be_closed cal.cover s ≡ true = ap (may_be_closed cal.cover) p ∙ may in
          bits-more _ _ _ _ m (λ b. rw (in_map e, p) (set_keeps cal.closed (slot_of cal.cover d) (ap (bit_at cal.closed) (sym p) ∙ b))) t
      go s false q t = rw (in_map e, set_other cal.closed (slot_of cal.cover d) s (eqb-false _ _ q)) t

  open-bit : in_cover cal.cover d ≡ true → closed_on cal d ≡ false → bit_at cal.closed (slot_of cal.cover d) ≡ false
  unfolding closed_on
  open-bit a e = rw a at e

  -- a trading day is not in the second map
  pub trading-not-second : valid_cover cal.cover ≡ true → clean cal ≡ true → trading_day cal d ≡ true → in_second_map cal d ≡ false
  unfolding in_second_map trading_day clean
  trading-not-second y k t =
      let (a, r) = both (in_cover cal.cover d) (ltb (weekday_of d) 5 && not (closed_on cal d)) t in
      let (w, n) = both (ltb (weekday_of d) 5) (not (closed_on cal d)) r in
      rw a
      (bits-second _ _ _ (every-at (clean_slot cal) 5888 (slot_of cal.cover d) k (slot-below cal.cover d (covered cal.cover d a) y))
      (open-bit a (not-true (closed_on cal d) n)))

  -- 'A closure notice leaves the second map's bit 0' (02, note 4): 14 admits trading days alone
  pub second-after-close : valid_cover cal.cover ≡ true → clean cal ≡ true → trading_day cal d ≡ true → in_second_map (close_day cal d) d ≡ false
  unfolding in_second_map
  second-after-close y k t = rw (close-cover, close-exchange) (trading-not-second y k t)

  -- where nothing is marked: a day outside the cover, or a slot past the maps
  pub close-out : in_cover cal.cover d ≡ false → cal ≡ close_day cal d
  unfolding close_day
  close-out e = rw e

  -- the code's store
  pub close-store : (slot : ℕ) → slot ≡ slot_of cal.cover d → in_cover cal.cover d ≡ true
      → ◌≡◌ {A = Calendar} (record {
        cover = cal.cover;
        closed =
            set cal.closed (slot / 8) (bit_or (get_or cal.closed (slot / 8) 0) (1 * 2 ^ (7 - slot % 8) % 256));
        exchange = cal.exchange;
      }) (close_day cal d)
  unfolding close_day set_bit
  close-store slot q e = rw (one_shl (7 - slot % 8) (omega arith), e, q)

-- two days closed in either order
pub close-turn : (cal : Calendar) (d e : ℕ) → close_day (close_day cal d) e ≡ close_day (close_day cal e) d
unfolding close_day
close-turn cal d e = ap (λ (closed : List ℕ). calendar_of_maps cal.cover closed cal.exchange) (go (in_cover cal.cover d) (in_cover cal.cover e))
  where
    -- the map with the bit of a day set where a test says so
    mark : Bool → ℕ → List ℕ → List ℕ
    mark b day closed = cond b (set_bit closed (slot_of cal.cover day)) closed

    go : (a b : Bool) → mark b e (mark a d cal.closed) ≡ mark a d (mark b e cal.closed)
    go true true = set-turn cal.closed (slot_of cal.cover d) (slot_of cal.cover e)
    go true false = refl
    go false true = refl
    go false false = refl
