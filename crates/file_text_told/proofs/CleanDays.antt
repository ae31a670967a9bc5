-- A line that is not at fault for 5 keeps the calendar clean.
-- Assumes nothing.
use mathlib.Core.Path.{◌≡◌, refl, sym, ap, ◌∙◌}
use mathlib.Core.Bool.{Bool, true, false, not, ◌&&◌, ◌||◌, cond, or-true}
use mathlib.Core.List.{List, []}
use mathlib.Core.Logic.{◌⊎◌, inl, inr}
use Prim.Native.Nat.{ℕ, ◌-◌, ◌/◌, ◌%◌, ◌^◌, ◌≤◌, ◌<◌}
use native.Mathlib.Nat.{zero-div}
use native.Mathlib.Omega.{arith}
use lib.Dec.{eqb, ltb}
use lib.ListN.{length, get_or, replicate, length-set, length-replicate, get_or-replicate, get_or-eq_default}
use borrow.Author.Tests.{eqb-true, eqb-false, leb-false, lt-ltb}
use Rattle.questions.proofs.Bools.{clash, lt-or-ge}
use Rattle.questions.proofs.Search.{every-at, every-all}
use Rattle.days.specs.Gregorian.{weekday_of}
use Rattle.calendar.specs.declared.Cover.{Cover}
use Rattle.calendar.specs.declared.Calendar.{Calendar}
use Rattle.calendar.specs.Bits.{bit_at, set_bit}
use Rattle.calendar.specs.Trading.{valid_cover, in_cover, slot_of, may_be_closed, bits_clean, clean_slot, clean, close_day, open_calendar, zero_calendar}
use Rattle.calendar.proofs.Bits.{set_here, set_other}
use Rattle.calendar.proofs.Covered.{covered, slot-may}
use Rattle.calendar.proofs.Clean.{bits-zero}
use Rattle.calendar.proofs.Closing.{clean_close}
use Rattle.calendar_synthetic.specs.Generated.{made_asks, made_from, made_call}
use Rattle.calendar_synthetic.proofs.CleanCalendars.{passes}
use Rattle.questions.specs.Questions.{Answer}
use Rattle.questions.proofs.Asks.{first-no, refused}
use Rattle.file_text_lines.specs.declared.Entry.{Entry}
use Rattle.file_text_faults.specs.Faults.{names_weekend, at_fault, id_after}
use Rattle.file_text_read.specs.Lists.{close_exchange_day, entry_fits, calendar_after_entry, records_after}
use Rattle.file_text_told.proofs.Faultless.{Keeps}

-- a map of zeros has no bit
no_byte : (n i : ℕ) → ◌≡◌ {A = ℕ} (get_or (replicate n 0) i 0) 0
no_byte n i = go (lt-or-ge i n)
  where
    go : (i < n) ⊎ (n ≤ i) → ◌≡◌ {A = ℕ} (get_or (replicate n 0) i 0) 0
    go (inl h) = get_or-replicate n i 0 0 h
    go (inr h) = get_or-eq_default (replicate n 0) 0 (omega (arith, length-replicate {A = ℕ} n 0))

no-bit : (slot : ℕ) → bit_at (replicate 736 0) slot ≡ false
unfolding bit_at
no-bit slot = simp (no_byte 736 (slot / 8), zero-div (2 ^ (7 - slot % 8)))

open-clean : (cover : Cover) → clean (open_calendar cover) ≡ true
unfolding clean open_calendar
open-clean cover = every-all (clean_slot (open_calendar cover)) 5888 (λ s h. rw (no-bit s) (bits-zero (may_be_closed cover s)))

open-long : (cover : Cover) → length (open_calendar cover).closed ≡ 736
unfolding open_calendar
open-long cover = length-replicate {A = ℕ} 736 0

-- the zero calendar is clean
pub zero-clean : clean zero_calendar ≡ true
unfolding zero_calendar
zero-clean = open-clean _

-- the map of closed days of the zero calendar has 736 bytes
pub zero-long : length zero_calendar.closed ≡ 736
unfolding zero_calendar
zero-long = open-long _

made-zeros : (seed : ℕ) (cover : Cover) → valid_cover cover ≡ false → (made_call seed cover).value ≡ zero_calendar
unfolding made_call
made-zeros seed cover wrong = ap (λ (a : Answer Calendar). a.value) (refused (made_asks cover) zero_calendar (made_from seed cover) 3 (first-no 4 [] wrong))

made-clean : (seed : ℕ) (cover : Cover) → clean (made_call seed cover).value ≡ true
made-clean seed cover = go (valid_cover cover) refl
  where
    go : (b : Bool) → valid_cover cover ≡ b → clean (made_call seed cover).value ≡ true
    go true v = (passes seed cover v).closures
    go false v = ap clean (made-zeros seed cover v) ∙ zero-clean

bits-both : (may first second : Bool) → may ≡ true → first ≡ true → bits_clean may first second ≡ true
unfolding bits_clean
bits-both true true second m f = or-true (not second)
bits-both true false second m f = clash refl (sym f)
bits-both false first second m f = clash refl (sym m)

module _ (cal : Calendar) (d : ℕ) (long : length cal.closed ≡ 736) (i : in_cover cal.cover d ≡ true) where
  close-long : length (close_day cal d).closed ≡ 736
  unfolding close_day set_bit
  close-long = rw (i, length-set cal.closed (slot_of cal.cover d / 8) _) long

  exchange-long : length (close_exchange_day cal d).closed ≡ 736
  unfolding close_exchange_day
  exchange-long = close-long

  -- a day of the second map is closed too
  exchange-clean : clean cal ≡ true → ltb (weekday_of d) 5 ≡ true → clean (close_exchange_day cal d) ≡ true
  unfolding clean close_exchange_day close_day
  exchange-clean k w =
      rw i
      (every-all _ 5888 (λ s h. go s h (eqb s (slot_of cal.cover d)) refl (every-at (clean_slot cal) 5888 s k h)))
    where
      may : may_be_closed cal.cover (slot_of cal.cover d) ≡ true
      may = slot-may cal.cover d (covered cal.cover d i) ∙ w

      go : (s : ℕ) → s < 5888 → (b : Bool) → eqb s (slot_of cal.cover d) ≡ b → clean_slot cal s ≡ true
          → bits_clean (may_be_closed cal.cover s) (bit_at (set_bit cal.closed (slot_of cal.cover d)) s)
          (bit_at (set_bit cal.exchange (slot_of cal.cover d)) s)
          ≡ true
      go s h true q t =
          let p : s ≡ slot_of cal.cover d = eqb-true s (slot_of cal.cover d) q in
          bits-both _ _ _ (ap (may_be_closed cal.cover) p ∙ may)
          (ap (bit_at (set_bit cal.closed (slot_of cal.cover d))) p ∙ set_here cal.closed (slot_of cal.cover d) (omega (arith, long, p, h)))
      go s h false q t =
          rw (set_other cal.closed (slot_of cal.cover d) s (eqb-false _ _ q), set_other cal.exchange (slot_of cal.cover d) s (eqb-false _ _ q)) t

-- a `C` or `X` that fits names a day of the cover, after no seed
day-parts : (begun seeded within : Bool) → (begun && (not seeded && within)) ≡ true → (seeded ≡ false) × (within ≡ true)
day-parts true false within h = (refl, h)
day-parts true true within h = clash refl (sym h)
day-parts false seeded within h = clash refl (sym h)

module _ (begun : Bool) (cover : Cover) (seeded : Bool) (e : Entry) where
  fits-c : e.letter ≡ 67 → entry_fits begun cover seeded e ≡ true → (seeded ≡ false) × (in_cover cover e.day ≡ true)
  unfolding entry_fits
  fits-c p h = day-parts begun seeded (in_cover cover e.day) (rw p at h)

  fits-x : e.letter ≡ 88 → entry_fits begun cover seeded e ≡ true → (seeded ≡ false) × (in_cover cover e.day ≡ true)
  unfolding entry_fits
  fits-x p h = day-parts begun seeded (in_cover cover e.day) (rw p at h)

-- and where it is not at fault, a Monday to Friday
module _ (before : List ℕ) (e : Entry) where
  weekday-c : e.letter ≡ 67 → at_fault 5 before e ≡ false → ltb (weekday_of e.day) 5 ≡ true
  unfolding at_fault names_weekend
  weekday-c p a = lt-ltb (weekday_of e.day) 5 (leb-false 5 (weekday_of e.day) (rw p at a))

  weekday-x : e.letter ≡ 88 → at_fault 5 before e ≡ false → ltb (weekday_of e.day) 5 ≡ true
  unfolding at_fault names_weekend
  weekday-x p a = lt-ltb (weekday_of e.day) 5 (leb-false 5 (weekday_of e.day) (rw p at a))

-- the calendar is clean, and without a seed its map has all its bytes
abbrev pub CleanOf : List ℕ → Calendar → Bool → List ℕ → Type 0
CleanOf before cal seeded records = (clean cal ≡ true) × (seeded ≡ false → length cal.closed ≡ 736)

-- a line that fits and is not at fault for 5 keeps the calendar clean, and without a seed its map of 736 bytes
pub keeps-clean : (room : ℕ) → Keeps room 5 CleanOf
unfolding calendar_after_entry
keeps-clean room begun before cal seeded records e l f a p =
    go (eqb e.letter 89) refl (eqb e.letter 83) refl (eqb e.letter 67) refl (eqb e.letter 88) refl
  where
    no_or : (b : Bool) → (b || false) ≡ false → b ≡ false
    no_or true h = h
    no_or false h = refl

    go : (y : Bool) → eqb e.letter 89 ≡ y → (s : Bool) → eqb e.letter 83 ≡ s → (c : Bool) → eqb e.letter 67 ≡ c → (x : Bool) → eqb e.letter 88 ≡ x
        → CleanOf (id_after before e)
        (cond y (open_calendar e.cover)
        (cond s (made_call e.seed e.cover).value (cond c (close_day cal e.day) (cond x (close_exchange_day cal e.day) cal))))
        (seeded || s) (records_after room records e)
    go true q s q' c u x v = (open-clean e.cover, (λ z. open-long e.cover))
    go false q true q' c u x v = (made-clean e.seed e.cover, (λ z. clash (or-true seeded) z))
    go false q false q' true u x v =
        let k : e.letter ≡ 67 = eqb-true e.letter 67 u in
        let t : (seeded ≡ false) × (in_cover cal.cover e.day ≡ true) = fits-c begun cal.cover seeded e k f in
        (clean_close cal e.day p.0 t.1 (weekday-c before e k a), (λ z. close-long cal e.day (p.1 t.0) t.1))
    go false q false q' false u true v =
        let k : e.letter ≡ 88 = eqb-true e.letter 88 v in
        let t : (seeded ≡ false) × (in_cover cal.cover e.day ≡ true) = fits-x begun cal.cover seeded e k f in (
          exchange-clean cal e.day (p.1 t.0) t.1 p.0 (weekday-x before e k a),
          (λ z. exchange-long cal e.day (p.1 t.0) t.1),
        )
    go false q false q' false u false v = (p.0, (λ z. p.1 (no_or seeded z)))
