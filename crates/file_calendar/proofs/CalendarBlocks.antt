-- The calendar blocks of a file, and its calendar: question 5 over the blocks is the same as over the calendar.
-- Assumes nothing.
use mathlib.Core.Path.{◌≡◌, refl, ◌∙◌, sym, ap}
use mathlib.Core.Bool.{Bool, true, false, not, ◌&&◌, ◌||◌}
use mathlib.Core.Logic.{◌⊎◌, inl, inr}
use mathlib.Core.List.{List}
use Prim.Native.Nat.{ℕ, ◌+◌, ◌-◌, ◌*◌, ◌/◌, ◌%◌, ◌^◌, ◌≤◌, ◌<◌}
use native.Mathlib.Nat.{zero-div}
use native.Mathlib.Omega.{arith}
use lib.Dec.{eqb, leb}
use lib.ListN.{length, get_or}
use borrow.Author.Tests.{leb-true, ltb-true, eqb-true, le-leb, lt-ltb, le-ltb, ne_eqb}
use Rattle.questions.specs.Search.{every}
use Rattle.questions.proofs.Bools.{both, and-snd, and_both, or_right, same_test, lt-or-ge}
use Rattle.questions.proofs.Search.{every-at, every-all}
use Rattle.calendar.specs.Bits.{bit_at}
use Rattle.calendar.specs.Trading.{zero_calendar, in_cover, slot_of, closed_on, in_second_map, may_be_closed, clean_slot, clean}
use Rattle.calendar.proofs.Bits.{bit_past}
use Rattle.calendar.proofs.Clean.{bits-zero}
use Rattle.calendar.proofs.Covered.{Covered, covered}
use Rattle.days.specs.Dates.{year_of, day_in_year}
use Rattle.days.proofs.Years.{in-year-below}
use Rattle.file_blocks.specs.Blocks.{block_count, block_of, zeros, is_calendar, is_products, year_of_block}
use Rattle.file_calendar.specs.Calendars.{year_count, year_in_order, in_order, order_right, map_bit, day_clean, block_clean, calendars_clean, up_to, map_byte}
use Rattle.file_calendar.specs.Calendars.{maps_from, calendar_blocks, calendar_of, old_file}
use Rattle.file_calendar.proofs.Filling.{listed_at, listed-length, up_in, up-out}

module _ (f : List ℕ) (years : ℕ) (e : years ≡ year_count f) where
  -- a file with 1 to 16 calendar blocks has the calendar of those blocks
  pub calendar-in : (leb 1 years && leb years 16) ≡ true → calendar_of f ≡ calendar_blocks f
  unfolding calendar_of
  calendar-in t = rw (rw e at t)

  -- a file whose count of calendar blocks is not 1 to 16 has the calendar of no year
  pub calendar-out : (leb 1 years && leb years 16) ≡ false → calendar_of f ≡ zero_calendar
  unfolding calendar_of
  calendar-out t = rw (rw e at t)

-- what question 4 says
pub record Ordered (f : List ℕ) : Type 0 where
  -- the file has at least one calendar block
  pub some : 1 ≤ year_count f
  -- the file has at most 16 calendar blocks
  pub most : year_count f ≤ 16
  -- the file has fewer calendar blocks than blocks, so at least one other
  pub fewer : year_count f < block_count f
  -- each block of the file is in the order that question 4 states
  pub each : every (block_count f) (in_order f) ≡ true

-- a file that question 4 accepts has these counts and this order
pub ordered : (f : List ℕ) → order_right f ≡ true → Ordered f
unfolding order_right
ordered f e =
    let (abc, d) = both _ _ e in
    let (ab, c) = both _ _ abc in
    let (a, b) = both _ _ ab in
    record { some = leb-true _ _ a; most = leb-true _ _ b; fewer = ltb-true _ _ c; each = d }

module _ (f : List ℕ) (o : Ordered f) where
  -- the calendar of a file that question 4 accepts is that of its calendar blocks
  pub calendar-is : calendar_of f ≡ calendar_blocks f
  calendar-is = calendar-in f (year_count f) refl (and_both (le-leb _ _ o.some) (le-leb _ _ o.most))

  first-blocks : (k : ℕ) → k < year_count f → (is_calendar (block_of f k) && year_in_order f k) ≡ true
  unfolding in_order
  first-blocks k h = rw (lt-ltb k (year_count f) h) at (every-at (in_order f) (block_count f) k o.each (omega (arith, o.fewer)))

  -- a block whose index is below the count of years is a calendar block
  pub calendar-block : (k : ℕ) → k < year_count f → is_calendar (block_of f k) ≡ true
  calendar-block k h = (both _ _ (first-blocks k h)).0

  -- the year of calendar block k is the first block's year + k
  pub block-year : (k : ℕ) → k < year_count f → year_of_block (block_of f k) ≡ year_of_block (block_of f 0) + k
  block-year k h = eqb-true _ _ (and-snd (is_calendar (block_of f k)) (year_in_order f k) (first-blocks k h))

  -- each block from the count of years on is a product block
  pub product-block : (k : ℕ) → year_count f ≤ k → k < block_count f → is_products (block_of f k) ≡ true
  unfolding in_order
  product-block k h l = rw (le-ltb k (year_count f) h) at (every-at (in_order f) (block_count f) k o.each l)

  other_block : (k : ℕ) → year_count f ≤ k → k < block_count f → is_calendar (block_of f k) ≡ false
  other_block k h l =
      let e : get_or (block_of f k) 0 0 ≡ 2 = eqb-true _ _ (product-block k h l) in
      ne_eqb (get_or (block_of f k) 0 0) 1 (λ z. omega arith)

  -- the maps that begin at a byte of the calendar blocks
  module _ (at : ℕ) where
    abbrev maps : List ℕ
    maps = maps_from at f (year_count f)

    -- a map of the file's calendar has 736 bytes, 46 for each of 16 years
    pub maps-long : length maps ≡ 736
    unfolding maps_from
    maps-long = listed-length 0 736 (up_to (46 * year_count f) (map_byte at f))

    -- byte j of year k in a map of the file's calendar is byte j of the map in calendar block k
    pub map-in : (k j : ℕ) → k < year_count f → j < 46 → get_or maps (46 * k + j) 0 ≡ get_or (block_of f k) (at + j) 0
    unfolding maps_from map_byte
    map-in k j h l =
        let a : (46 * k + j) / 46 ≡ k = omega arith in
        let b : (46 * k + j) % 46 ≡ j = omega arith in
        listed_at 736 (up_to (46 * year_count f) (map_byte at f)) (46 * k + j) (omega (arith, o.most))
        ∙ up_in (map_byte at f) (46 * year_count f) (46 * k + j) (omega arith)
        ∙ simp (a, b)

    map-out : (i : ℕ) → 46 * year_count f ≤ i → i < 736 → get_or maps i 0 ≡ 0
    unfolding maps_from
    map-out i h l = listed_at 736 (up_to (46 * year_count f) (map_byte at f)) i l ∙ up-out (map_byte at f) (46 * year_count f) i h

    -- the bit of day n of year k of the file
    bit_in : (k n : ℕ) → k < year_count f → n < 368 → bit_at maps (368 * k + n) ≡ map_bit at (block_of f k) n
    unfolding bit_at map_bit
    bit_in k n h l =
        let a : (368 * k + n) / 8 ≡ 46 * k + n / 8 = omega arith in
        let b : (368 * k + n) % 8 ≡ n % 8 = omega arith in
        simp (a, b, map-in k (n / 8) h (omega arith))

    bit-out : (k n : ℕ) → year_count f ≤ k → k < 16 → n < 368 → bit_at maps (368 * k + n) ≡ false
    unfolding bit_at
    bit-out k n h g l =
        simp (map-out ((368 * k + n) / 8) (omega arith) (omega arith), zero-div (2 ^ (7 - (368 * k + n) % 8)))

    -- the bit of a day of the cover stands in its year's block
    bit_is : (d : ℕ) → in_cover (calendar_blocks f).cover d ≡ true
        → bit_at maps (slot_of (calendar_blocks f).cover d) ≡ map_bit at (block_of f (year_of d - year_of_block (block_of f 0))) (day_in_year d)
    unfolding slot_of
    bit_is d e =
        let v : Covered (calendar_blocks f).cover d = covered (calendar_blocks f).cover d e in
        bit_in (year_of d - year_of_block (block_of f 0)) (day_in_year d) (omega (arith, v.year-low, v.year-high)) (omega (arith, in-year-below d v.day))

  -- a day of the cover is closed where its bit in its year's block is 1, and in the second map where that map's bit is
  pub closed_is : (d : ℕ) → in_cover (calendar_blocks f).cover d ≡ true
      → closed_on (calendar_blocks f) d ≡ map_bit 16 (block_of f (year_of d - year_of_block (block_of f 0))) (day_in_year d)
  unfolding closed_on
  closed_is d e = rw e (bit_is 16 d e)

  -- a day of the cover is in the second map exactly where the second map of its year's block has its bit
  pub second_is : (d : ℕ) → in_cover (calendar_blocks f).cover d ≡ true
      → in_second_map (calendar_blocks f) d ≡ map_bit 62 (block_of f (year_of d - year_of_block (block_of f 0))) (day_in_year d)
  unfolding in_second_map
  second_is d e = rw e (bit_is 62 d e)

  -- a slot of the calendar is clean where the day's bits of its block are
  slot-in : (k n : ℕ) → k < year_count f → n < 368 → clean_slot (calendar_blocks f) (368 * k + n) ≡ day_clean (block_of f k) n
  unfolding may_be_closed
  slot-in k n h l =
      let a : (368 * k + n) / 368 ≡ k = omega arith in
      let b : (368 * k + n) % 368 ≡ n = omega arith in
      simp (bit_in 16 k n h l, bit_in 62 k n h l, a, b, lt-ltb k (year_count f) h, block-year k h)

  slot-out : (k n : ℕ) → year_count f ≤ k → k < 16 → n < 368 → clean_slot (calendar_blocks f) (368 * k + n) ≡ true
  slot-out k n h g l = rw (bit-out 16 k n h g l, bit-out 62 k n h g l) (bits-zero _)

  -- where question 5 is answered yes, each calendar block is clean
  pub block-clean : (k : ℕ) → k < year_count f → calendars_clean f ≡ true → block_clean (block_of f k) ≡ true
  unfolding calendars_clean
  block-clean k h e =
      rw (calendar-block k h) at (every-at (λ n. not (is_calendar (block_of f n)) || block_clean (block_of f n)) (block_count f) k e (omega (arith, o.fewer)))

  -- where question 5 is answered yes of the file, its calendar is clean
  pub blocks-clean : calendars_clean f ≡ true → clean (calendar_blocks f) ≡ true
  unfolding clean block_clean
  blocks-clean e = every-all (clean_slot (calendar_blocks f)) 5888 each
    where
      each : (s : ℕ) → s < 5888 → clean_slot (calendar_blocks f) s ≡ true
      each s h =
          let q : s ≡ 368 * (s / 368) + s % 368 = omega arith in
          ap (clean_slot (calendar_blocks f)) q ∙ side (lt-or-ge (s / 368) (year_count f))
        where
          side : (s / 368 < year_count f) ⊎ (year_count f ≤ s / 368) → clean_slot (calendar_blocks f) (368 * (s / 368) + s % 368) ≡ true
          side (inl l) =
              slot-in (s / 368) (s % 368) l (omega arith)
              ∙ every-at (day_clean (block_of f (s / 368))) 368 (s % 368) (both _ _ (block-clean (s / 368) l e)).0 (omega arith)
          side (inr l) = slot-out (s / 368) (s % 368) l (omega arith) (omega arith)

  abbrev tails : Bool
  tails = every (year_count f) (λ k. zeros (block_of f k) 108 402)

  blocks-tails : calendars_clean f ≡ true → tails ≡ true
  unfolding block_clean
  blocks-tails e =
      every-all (λ k. zeros (block_of f k) 108 402) (year_count f) (λ k h. (both (every 368 (day_clean (block_of f k))) _ (block-clean k h e)).1)

  clean-block : clean (calendar_blocks f) ≡ true → tails ≡ true → (k : ℕ) → k < year_count f → block_clean (block_of f k) ≡ true
  unfolding clean block_clean
  clean-block e t k h =
      and_both
      (every-all (day_clean (block_of f k)) 368
      (λ n l. sym (slot-in k n h l) ∙ every-at (clean_slot (calendar_blocks f)) 5888 (368 * k + n) e (omega (arith, o.most))))
      (every-at (λ k. zeros (block_of f k) 108 402) (year_count f) k t h)

  clean-blocks : clean (calendar_blocks f) ≡ true → tails ≡ true → calendars_clean f ≡ true
  unfolding calendars_clean
  clean-blocks e t = every-all (λ n. not (is_calendar (block_of f n)) || block_clean (block_of f n)) (block_count f) (λ k h. each k h (lt-or-ge k (year_count f)))
    where
      each : (k : ℕ) → k < block_count f → (k < year_count f) ⊎ (year_count f ≤ k) → (not (is_calendar (block_of f k)) || block_clean (block_of f k)) ≡ true
      each k h (inl l) = or_right (not (is_calendar (block_of f k))) (clean-block e t k l)
      each k h (inr l) = rw (other_block k l h)

  -- question 5 of the file is that its calendar is clean and the bytes after both maps are zero in each calendar block
  pub clean-test : (clean (calendar_blocks f) && tails) ≡ calendars_clean f
  clean-test =
      same_test (clean (calendar_blocks f) && tails) (calendars_clean f)
      (λ e. let (a, b) = both (clean (calendar_blocks f)) tails e in clean-blocks a b)
      (λ e. and_both (blocks-clean e) (blocks-tails e))

  -- an old file: the second map of its calendar has no bit
  old_bit : old_file f ≡ true → (k n : ℕ) → k < year_count f → n < 368 → map_bit 62 (block_of f k) n ≡ false
  unfolding old_file map_bit zeros
  old_bit e k n h l =
      let z : get_or (block_of f k) (62 + n / 8) 0 ≡ 0 =
      eqb-true _ _ (every-at (λ i. eqb (get_or (block_of f k) (62 + i) 0) 0) 46 (n / 8) (every-at (λ k. zeros (block_of f k) 62 46) (year_count f) k e h)
      (omega arith)) in
      simp (z, zero-div (2 ^ (7 - n % 8)))

  old-map : old_file f ≡ true → (s : ℕ) → bit_at (maps 62) s ≡ false
  old-map e s = side (lt-or-ge (s / 368) (year_count f)) (lt-or-ge s 5888)
    where
      q : s ≡ 368 * (s / 368) + s % 368
      q = omega arith

      side : (s / 368 < year_count f) ⊎ (year_count f ≤ s / 368) → (s < 5888) ⊎ (5888 ≤ s) → bit_at (maps 62) s ≡ false
      side (inl l) r = ap (bit_at (maps 62)) q ∙ bit_in 62 (s / 368) (s % 368) l (omega arith) ∙ old_bit e (s / 368) (s % 368) l (omega arith)
      side (inr l) (inl r) = ap (bit_at (maps 62)) q ∙ bit-out 62 (s / 368) (s % 368) l (omega arith) (omega arith)
      side (inr l) (inr r) = bit_past (maps 62) s (omega (arith, maps-long 62))

  -- the second map of an old file's calendar has no bit set
  pub old-bits : old_file f ≡ true → (s : ℕ) → bit_at (calendar_of f).exchange s ≡ false
  old-bits e s = rw calendar-is (old-map e s)
