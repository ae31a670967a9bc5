-- The calendar of the file is the calendar that was handed in, within its cover; questions 4 to 6 of the file.
-- Assumes nothing.
use Prim.Native.Nat.{ℕ, zero, suc, ◌+◌, ◌-◌, ◌*◌, ◌/◌, ◌%◌, ◌≤◌, ◌<◌, min}
use mathlib.Core.Path.{◌≡◌, ◌∙◌, sym, ap}
use mathlib.Core.Bool.{Bool, true, false, ◌&&◌, cond, and-true}
use mathlib.Core.Logic.{◌⊎◌, inl, inr}
use mathlib.Core.List.{List}
use native.Mathlib.Nat.{add-zero, le_refl}
use native.Mathlib.Omega.{arith}
use lib.Dec.{eqb, leb, ltb}
use lib.ListN.{length, get_or}
use lib.Seq.{ext_get_or}
use borrow.Author.Tests.{eq-eqb, ne_eqb, lt-ltb, le-ltb, le-leb, leb-true}
use Rattle.questions.specs.Search.{every}
use Rattle.questions.proofs.Bools.{both, and_both, same_test, lt-or-ge}
use Rattle.questions.proofs.Search.{every-all}
use Rattle.calendar.specs.declared.Calendar.{Calendar}
use Rattle.calendar.specs.Trading.{clean, every_week}
use Rattle.file_blocks.specs.Blocks.{block_count, block_of, count_of, zeros, is_calendar, is_products, year_of_block}
use Rattle.file_calendar.specs.Calendars.{listed, up_to, map_byte, maps_from, year_count, year_in_order, in_order, order_right, calendars_clean, calendar_blocks}
use Rattle.file_calendar.specs.Calendars.{calendar_of, weeks_right}
use Rattle.file_calendar.proofs.Filling.{listed-length, listed_at, up_in, up-out}
use Rattle.file_calendar.proofs.CalendarBlocks.{ordered, calendar-is, clean-test}
use Rattle.file_draft.specs.Drafts.{calendar_byte, block_for, blocks_in, file_of, counts_right, years_of_map, within_cover}
use Rattle.file_draft.proofs.DraftBlocks.{block-byte, file-blocks, file-block}
use Rattle.file_draft.proofs.Headers.{calendar-byte, calendar-header, product-header}

-- of the numbers below n those from a on pass, up to c of them, and no other
pub count-run : (test : ℕ → Bool) (a c n : ℕ) → ((k : ℕ) → k < a → test k ≡ false) → ((k : ℕ) → a ≤ k → k < a + c → test k ≡ true)
    → ((k : ℕ) → a + c ≤ k → k < n → test k ≡ false) → count_of n test ≡ min c (n - a)
unfolding count_of
count-run test a c zero before within after = omega arith
count-run test a c (suc n) before within after =
    go (lt-or-ge n a) (lt-or-ge n (a + c)) (count-run test a c n before within (λ k p q. after k p (omega arith)))
  where
    go : (n < a) ⊎ (a ≤ n) → (n < a + c) ⊎ (a + c ≤ n) → count_of n test ≡ min c (n - a) → count_of n test + cond (test n) 1 0 ≡ min c (suc n - a)
    go (inl l) r e = rw (before n l, e) (omega arith)
    go (inr l) (inl r) e = rw (within n l r, e) (omega arith)
    go (inr l) (inr r) e = rw (after n r (le_refl (suc n)), e) (omega arith)

module _ (cal : Calendar) (records : List ℕ) where
  abbrev f : List ℕ
  f = file_of cal records

  abbrev years : ℕ
  years = cal.cover.years

  abbrev first : ℕ
  first = cal.cover.first_year

  abbrev blocks : ℕ
  blocks = blocks_in cal records

  calendar-kind : (k : ℕ) → k < years → is_calendar (block_of f k) ≡ true
  calendar-kind k h =
      ap (λ (b : List ℕ). is_calendar b) (file-block cal records k (omega arith)) ∙ eq-eqb _ _ (calendar-header cal records k h).kind-is

  other-kind : (k : ℕ) → years ≤ k → k < blocks → is_calendar (block_of f k) ≡ false
  other-kind k h l =
      ap (λ (b : List ℕ). is_calendar b) (file-block cal records k l)
      ∙ ne_eqb (get_or (block_for cal records k) 0 0) 1 (λ z. omega (arith, (product-header cal records k h).kind-is))

  -- each block of the file from the count of years on is a product block
  pub product-kind : (k : ℕ) → years ≤ k → k < blocks → is_products (block_of f k) ≡ true
  product-kind k h l =
      ap (λ (b : List ℕ). is_products b) (file-block cal records k l) ∙ eq-eqb _ _ (product-header cal records k h).kind-is

  -- no block of the file before the count of years is a product block
  pub no-product : (k : ℕ) → k < years → is_products (block_of f k) ≡ false
  no-product k h =
      ap (λ (b : List ℕ). is_products b) (file-block cal records k (omega arith))
      ∙ ne_eqb (get_or (block_for cal records k) 0 0) 2 (λ z. omega (arith, (calendar-header cal records k h).kind-is))

  block-year : (k : ℕ) → k < years → year_of_block (block_of f k) ≡ first + k
  block-year k h =
      ap (λ (b : List ℕ). year_of_block b) (file-block cal records k (omega arith)) ∙ (calendar-header cal records k h).number_is

  -- 'loading it gives the counts': that of years
  pub years-written : year_count f ≡ years
  unfolding year_count
  years-written =
      count-run (λ k. is_calendar (block_of f k)) 0 years (block_count f) (λ k h. absurd (omega arith)) (λ k g h. calendar-kind k (omega arith))
      (λ k g h. other-kind k (omega arith) (omega (arith, file-blocks cal records)))
      ∙ omega (arith, file-blocks cal records)

  block-in-order : 1 ≤ years → (k : ℕ) → k < blocks → (k < years) ⊎ (years ≤ k)
      → cond (ltb k years) (is_calendar (block_of f k) && year_in_order f k) (is_products (block_of f k)) ≡ true
  block-in-order s k h (inl l) =
      rw (lt-ltb k years l)
      (and_both (calendar-kind k l)
      (eq-eqb _ _ (block-year k l ∙ ap (λ (y : ℕ). y + k) (sym (block-year 0 s ∙ add-zero first)))))
  block-in-order s k h (inr l) = rw (le-ltb k years l) (product-kind k l h)

  in-order : 1 ≤ years → (k : ℕ) → k < blocks → in_order f k ≡ true
  unfolding in_order
  in-order s k h = rw years-written (block-in-order s k h (lt-or-ge k years))

  order-right : 1 ≤ years → years ≤ 16 → 1 ≤ length records → order_right f ≡ true
  unfolding order_right
  order-right a b c =
      rw years-written
      (and_both
      (and_both (and_both (le-leb 1 years a) (le-leb years 16 b)) (lt-ltb years (block_count f) (omega (arith, file-blocks cal records))))
      (every-all (in_order f) (block_count f) (λ k h. in-order a k (omega (arith, file-blocks cal records)))))

  -- 4, of the file: 1 to 16 years, and a record
  pub order-written : order_right f ≡ counts_right cal.cover records
  order-written =
      same_test (order_right f) (leb 1 years && (leb years 16 && leb 1 (length records)))
      (λ e.
      let o = ordered f e in
      and_both (le-leb 1 years (omega (arith, o.some, years-written)))
      (and_both (le-leb years 16 (omega (arith, o.most, years-written)))
      (le-leb 1 (length records) (omega (arith, o.fewer, years-written, file-blocks cal records)))))
      (λ e.
      let (a, r) = both (leb 1 years) (leb years 16 && leb 1 (length records)) e in
      let (b, c) = both (leb years 16) (leb 1 (length records)) r in
      order-right (leb-true _ _ a) (leb-true _ _ b) (leb-true _ _ c))

  -- the two maps of calendar block k
  first-map : (k j : ℕ) → j < 46 → calendar_byte cal k (16 + j) ≡ get_or cal.closed (46 * k + j) 0
  unfolding calendar_byte
  first-map k j l =
      let e : 16 + j - 16 ≡ j = omega arith in
      rw (le-ltb (16 + j) 16 (omega arith), lt-ltb (16 + j) 62 (omega arith), e)

  second-map : (k j : ℕ) → j < 46 → calendar_byte cal k (62 + j) ≡ get_or cal.exchange (46 * k + j) 0
  unfolding calendar_byte
  second-map k j l =
      let e : 62 + j - 62 ≡ j = omega arith in
      rw (le-ltb (62 + j) 16 (omega arith), le-ltb (62 + j) 62 (omega arith), lt-ltb (62 + j) 108 (omega arith), e)

  after-maps : (k j : ℕ) → 108 ≤ j → calendar_byte cal k j ≡ 0
  unfolding calendar_byte
  after-maps k j l = rw (le-ltb j 16 (omega arith), le-ltb j 62 (omega arith), le-ltb j 108 l)

  file-byte : (k j : ℕ) → k < years → j < 510 → get_or (block_of f k) j 0 ≡ calendar_byte cal k j
  file-byte k j h l =
      ap (λ (b : List ℕ). get_or b j 0) (file-block cal records k (omega arith))
      ∙ block-byte cal records k j l
      ∙ calendar-byte cal records k j h

  -- a map that the calendar blocks have from a byte on
  module _ (at : ℕ) (map : List ℕ) (most : at ≤ 464) (stands : (k j : ℕ) → j < 46 → calendar_byte cal k (at + j) ≡ get_or map (46 * k + j) 0) where
    byte-written : (i : ℕ) → i < 46 * years → map_byte at f i ≡ get_or map i 0
    unfolding map_byte
    byte-written i h =
        let e : 46 * (i / 46) + i % 46 ≡ i = omega arith in
        file-byte (i / 46) (at + i % 46) (omega arith) (omega arith)
        ∙ stands (i / 46) (i % 46) (omega arith)
        ∙ ap (λ (n : ℕ). get_or map n 0) e

    up_same : (i : ℕ) → (i < 46 * years) ⊎ (46 * years ≤ i) → up_to (46 * years) (map_byte at f) i ≡ up_to (46 * years) (λ i. get_or map i 0) i
    up_same i (inl l) =
        up_in (map_byte at f) (46 * years) i l ∙ byte-written i l ∙ sym (up_in (λ i. get_or map i 0) (46 * years) i l)
    up_same i (inr l) = up-out (map_byte at f) (46 * years) i l ∙ sym (up-out (λ i. get_or map i 0) (46 * years) i l)

    map-written : maps_from at f years ≡ years_of_map years map
    unfolding maps_from years_of_map
    map-written =
        ext_get_or 0 (listed 0 736 (up_to (46 * years) (map_byte at f))) (listed 0 736 (up_to (46 * years) (λ i. get_or map i 0)))
        (listed-length 0 736 (up_to (46 * years) (map_byte at f)) ∙ sym (listed-length 0 736 (up_to (46 * years) (λ i. get_or map i 0))))
        (λ i h. each i (omega (arith, listed-length 0 736 (up_to (46 * years) (map_byte at f)))))
      where
        each : (i : ℕ) → i < 736 → get_or (listed 0 736 (up_to (46 * years) (map_byte at f))) i 0 ≡ get_or (listed 0 736 (up_to (46 * years) (λ i. get_or map i 0))) i 0
        each i h =
            listed_at 736 (up_to (46 * years) (map_byte at f)) i h
            ∙ up_same i (lt-or-ge i (46 * years))
            ∙ sym (listed_at 736 (up_to (46 * years) (λ i. get_or map i 0)) i h)

  module _ (e : order_right f ≡ true) where
    some : 1 ≤ years
    some = let o = ordered f e in omega (arith, o.some, years-written)

    blocks-written : calendar_blocks f ≡ within_cover cal
    unfolding within_cover
    blocks-written =
        let y : year_of_block (block_of f 0) ≡ first = block-year 0 some ∙ add-zero first in
        rw (y, years-written, map-written 16 cal.closed (omega arith) first-map, map-written 62 cal.exchange (omega arith) second-map)

    -- the calendar of the file
    pub calendar-written : calendar_of f ≡ within_cover cal
    calendar-written = calendar-is f (ordered f e) ∙ blocks-written

    tails : every (year_count f) (λ k. zeros (block_of f k) 108 402) ≡ true
    unfolding zeros
    tails =
        every-all (λ k. zeros (block_of f k) 108 402) (year_count f)
        (λ k h.
        every-all (λ i. eqb (get_or (block_of f k) (108 + i) 0) 0) 402
        (λ i l.
        eq-eqb _ _ (file-byte k (108 + i) (omega (arith, years-written)) (omega arith) ∙ after-maps k (108 + i) (omega arith))))

    -- 5, of the file
    pub clean-written : calendars_clean f ≡ clean (within_cover cal)
    clean-written =
        sym (clean-test f (ordered f e)) ∙ rw (tails, blocks-written) (and-true (clean (within_cover cal)))

    -- 6, of the file
    pub weeks-written : weeks_right f ≡ every_week (within_cover cal)
    unfolding weeks_right
    weeks-written = ap every_week calendar-written
