-- A file that was written holds what was handed in, and loading it gives the counts.
-- Assumes nothing.
use Prim.Native.Nat.{ℕ, ◌+◌, ◌-◌, ◌*◌, ◌/◌, ◌%◌, ◌^◌, ◌≤◌, ◌<◌}
use mathlib.Core.Path.{◌≡◌, refl, ◌∙◌, sym, ap, fun_ext}
use mathlib.Core.Bool.{Bool, true, false, ◌&&◌}
use mathlib.Core.Logic.{◌⊎◌, inl, inr}
use mathlib.Core.List.{List}
use native.Mathlib.Nat.{zero-div}
use native.Mathlib.Omega.{arith}
use lib.Dec.{eqb}
use lib.ListN.{length, get_or, get_or-eq_default}
use lib.Seq.{ext_get_or}
use borrow.Author.Tests.{eqb-true, eq-eqb, le-leb, le-ltb}
use Rattle.questions.specs.Questions.{first_no}
use Rattle.questions.proofs.Bools.{both, and-snd, and_both, clash, lt-or-ge}
use Rattle.questions.specs.Search.{every, some}
use Rattle.questions.proofs.Search.{every-at, every-all}
use Rattle.days.proofs.Years.{in-year-below}
use Rattle.calendar.specs.Bits.{byte_bit, bit_at}
use Rattle.calendar.specs.Trading.{cover_start, cover_end, in_cover, slot_of, closed_on, trading_day, in_second_map, may_be_closed, bits_clean, clean_slot, clean}
use Rattle.calendar.specs.Trading.{every_week}
use Rattle.calendar.specs.declared.Calendar.{Calendar}
use Rattle.calendar.proofs.Clean.{bits-zero}
use Rattle.calendar.proofs.Covered.{Covered, covered}
use Rattle.file_blocks.specs.Blocks.{block_of, records_of_block, length_right}
use Rattle.file_records.specs.Records.{products_right}
use Rattle.file_calendar.specs.Calendars.{up_to, calendar_of}
use Rattle.file_calendar.proofs.Filling.{listed-length, listed_at, up_in, up-out}
use Rattle.file_load.specs.Load.{load_asks, load_call}
use Rattle.file_load.proofs.LoadAnswers.{load-accepted}
use Rattle.file_draft.specs.Drafts.{product_blocks, records_within, blocks_in, file_of, records_written, write_asks, years_of_map, within_cover}
use Rattle.file_draft.proofs.DraftBlocks.{block-length, file-length, file-blocks, file-block, checks-written}
use Rattle.file_draft.proofs.DraftCalendars.{years-written, calendar-written, product-kind, no-product}
use Rattle.file_draft.proofs.DraftRecords.{count-is, held-byte, records-counted}
use Rattle.file_draft.proofs.DraftQuestions.{Writable, writable, Counted, counted}
use Rattle.file_write.specs.FilesWritten.{are_bytes, maps_whole, records_of, Holds}
use Rattle.file_write.proofs.ZeroBytes.{byte-below}
use Rattle.file_write.proofs.Shapes.{Shape, records-long, records-at}

-- a byte without bits is zero
even-of : (x : ℕ) → eqb (x % 2) 1 ≡ false → x % 2 ≡ 0
even-of x e = go (lt-or-ge (x % 2) 1)
  where
    go : (x % 2 < 1) ⊎ (1 ≤ x % 2) → x % 2 ≡ 0
    go (inl h) = omega arith
    go (inr h) = clash (eq-eqb (x % 2) 1 (omega arith)) e

no_bits : (x : ℕ) → x < 256 → ((n : ℕ) → n < 8 → byte_bit x n ≡ false) → x ≡ 0
no_bits x small none =
    let a : x < 128 = omega (arith, even-of (x / 128) (none 0 (omega arith))) in
    let b : x < 64 = omega (arith, even-of (x / 64) (none 1 (omega arith))) in
    let c : x < 32 = omega (arith, even-of (x / 32) (none 2 (omega arith))) in
    let d : x < 16 = omega (arith, even-of (x / 16) (none 3 (omega arith))) in
    let e : x < 8 = omega (arith, even-of (x / 8) (none 4 (omega arith))) in
    let f : x < 4 = omega (arith, even-of (x / 4) (none 5 (omega arith))) in
    let g : x < 2 = omega (arith, even-of (x / 2) (none 6 (omega arith))) in
    omega (arith, even-of (x / 1) (none 7 (omega arith)))

-- a map of at most 16 years
module _ (years : ℕ) (most : years ≤ 16) (map : List ℕ) where
  kept_at : (i : ℕ) → i < 736 → get_or (years_of_map years map) i 0 ≡ up_to (46 * years) (λ j. get_or map j 0) i
  unfolding years_of_map
  kept_at i h = listed_at 736 (up_to (46 * years) (λ j. get_or map j 0)) i h

  -- the days of those years are as they were
  kept-bit : (slot : ℕ) → slot < 368 * years → bit_at (years_of_map years map) slot ≡ bit_at map slot
  unfolding bit_at
  kept-bit slot h =
      ap (λ (x : ℕ). byte_bit x (slot % 8))
      (kept_at (slot / 8) (omega arith) ∙ up_in (λ j. get_or map j 0) (46 * years) (slot / 8) (omega arith))

  -- and there is no other
  no-bit-after : (slot : ℕ) → 368 * years ≤ slot → slot < 5888 → bit_at (years_of_map years map) slot ≡ false
  unfolding bit_at
  no-bit-after slot h l =
      simp (kept_at (slot / 8) (omega arith), up-out (λ j. get_or map j 0) (46 * years) (slot / 8) (omega arith), zero-div (2 ^ (7 - slot % 8)))

  kept-long : length (years_of_map years map) ≡ 736
  unfolding years_of_map
  kept-long = listed-length 0 736 (up_to (46 * years) (λ j. get_or map j 0))

  -- and so is the map, where there is nothing after them
  kept_whole : length map ≡ 736 → ((i : ℕ) → 46 * years ≤ i → i < 736 → get_or map i 0 ≡ 0) → years_of_map years map ≡ map
  kept_whole long nothing =
      ext_get_or 0 (years_of_map years map) map (kept-long ∙ sym long) (λ i h. go i (omega (arith, kept-long)) (lt-or-ge i (46 * years)))
    where
      go : (i : ℕ) → i < 736 → (i < 46 * years) ⊎ (46 * years ≤ i) → get_or (years_of_map years map) i 0 ≡ get_or map i 0
      go i h (inl l) = kept_at i h ∙ up_in (λ j. get_or map j 0) (46 * years) i l
      go i h (inr l) = kept_at i h ∙ up-out (λ j. get_or map j 0) (46 * years) i l ∙ sym (nothing i l h)

-- where a bit may not be 1, neither map has it
bits-barred : (first second : Bool) → bits_clean false first second ≡ true → (first ≡ false) × (second ≡ false)
unfolding bits_clean
bits-barred true second e = clash e refl
bits-barred false true e = clash e refl
bits-barred false false e = (refl, refl)

-- a clean calendar has nothing after its last year
module _ (cal : Calendar) (tidy : clean cal ≡ true) (most : cal.cover.years ≤ 16) where
  no_slot : (s : ℕ) → s < 5888 → cal.cover.years ≤ s / 368 → (bit_at cal.closed s ≡ false) × (bit_at cal.exchange s ≡ false)
  unfolding clean may_be_closed
  no_slot s h l =
      bits-barred (bit_at cal.closed s) (bit_at cal.exchange s)
      (rw (le-ltb (s / 368) cal.cover.years l) at (every-at (clean_slot cal) 5888 s tidy h))

  nothing : (map : List ℕ) → are_bytes map ≡ true → ((s : ℕ) → s < 5888 → cal.cover.years ≤ s / 368 → bit_at map s ≡ false) → (i : ℕ)
      → 46 * cal.cover.years ≤ i → i < 736 → get_or map i 0 ≡ 0
  unfolding bit_at
  nothing map bytes none i l h =
      no_bits (get_or map i 0) (byte-below map bytes i)
      (λ n g.
      let a : (8 * i + n) / 8 ≡ i = omega arith in
      let b : (8 * i + n) % 8 ≡ n = omega arith in
      rw (a, b) at (none (8 * i + n) (omega arith) (omega arith)))

  kept-calendar : maps_whole cal ≡ true → within_cover cal ≡ cal
  unfolding maps_whole within_cover
  kept-calendar e =
      let (ab, cd) = both (eqb (length cal.closed) 736 && are_bytes cal.closed) (eqb (length cal.exchange) 736 && are_bytes cal.exchange) e in
      let (a, b) = both (eqb (length cal.closed) 736) (are_bytes cal.closed) ab in
      let (c, d) = both (eqb (length cal.exchange) 736) (are_bytes cal.exchange) cd in
      rw (
        kept_whole cal.cover.years most cal.closed (eqb-true _ _ a) (nothing cal.closed b (λ s h l. (no_slot s h l).0)),
        kept_whole cal.cover.years most cal.exchange (eqb-true _ _ c) (nothing cal.exchange d (λ s h l. (no_slot s h l).1)),
      )

-- the days of a cover of at most 16 years
module _ (cal : Calendar) (most : cal.cover.years ≤ 16) where
  day-slot : (d : ℕ) → in_cover cal.cover d ≡ true → slot_of cal.cover d < 368 * cal.cover.years
  unfolding slot_of
  day-slot d e =
      let v : Covered cal.cover d = covered cal.cover d e in
      omega (arith, v.year-low, v.year-high, in-year-below d v.day)

  -- a day is marked in a map of the file where it is in the map handed in
  marked : (map : List ℕ) (d : ℕ) → (in_cover cal.cover d && bit_at (years_of_map cal.cover.years map) (slot_of cal.cover d))
      ≡ (in_cover cal.cover d && bit_at map (slot_of cal.cover d))
  marked map d = go (in_cover cal.cover d) refl
    where
      go : (b : Bool) → in_cover cal.cover d ≡ b
          → (b && bit_at (years_of_map cal.cover.years map) (slot_of cal.cover d)) ≡ (b && bit_at map (slot_of cal.cover d))
      go true e = kept-bit cal.cover.years most map (slot_of cal.cover d) (day-slot d e)
      go false e = refl

  -- what the file holds of a clean calendar is clean
  pub within-clean : clean cal ≡ true → clean (within_cover cal) ≡ true
  unfolding clean within_cover
  within-clean tidy = every-all (clean_slot (within_cover cal)) 5888 (λ s h. go s h (lt-or-ge s (368 * cal.cover.years)))
    where
      go : (s : ℕ) → s < 5888 → (s < 368 * cal.cover.years) ⊎ (368 * cal.cover.years ≤ s) → clean_slot (within_cover cal) s ≡ true
      go s h (inl l) =
          rw (kept-bit cal.cover.years most cal.closed s l, kept-bit cal.cover.years most cal.exchange s l)
          (every-at (clean_slot cal) 5888 s tidy h)
      go s h (inr l) =
          rw (no-bit-after cal.cover.years most cal.closed s l h, no-bit-after cal.cover.years most cal.exchange s l h)
          (bits-zero (may_be_closed cal.cover s))

  -- its trading days are the calendar's
  trades-same : (d : ℕ) → trading_day (within_cover cal) d ≡ trading_day cal d
  unfolding trading_day closed_on within_cover
  trades-same d = rw (marked cal.closed d) refl

  -- question 6 of a calendar of at most 16 years is that of the same calendar within its cover
  pub within-weeks : every_week (within_cover cal) ≡ every_week cal
  unfolding every_week within_cover
  within-weeks =
      ap (λ (trades : ℕ → Bool). every (cover_end cal.cover - cover_start cal.cover - 6) (λ k. some 7 (λ i. trades (cover_start cal.cover + k + i))))
      (fun_ext trades-same)

-- what is accepted
module _ (cal : Calendar) (records : List ℕ) (room : ℕ) (w : Writable cal records room) where
  abbrev f : List ℕ
  f = file_of cal records

  abbrev years : ℕ
  years = cal.cover.years

  k : Counted cal records room
  k = counted cal records room w

  right-7 : products_right f ≡ true
  unfolding records_written
  right-7 = and-snd (eqb (length records % 32) 0) (products_right f) w.yes7

  right-1 : length_right f ≡ true
  unfolding length_right
  right-1 =
      rw (file-length cal records)
      (and_both
      (and_both (eq-eqb (512 * blocks_in cal records % 512) 0 (omega arith))
      (le-leb 1024 (512 * blocks_in cal records) (omega (arith, k.years-some, k.records-some))))
      (le-leb (512 * blocks_in cal records) 65536 (omega (arith, k.blocks-most))))

  none-asked : first_no (load_asks f) ≡ 0
  unfolding load_asks first_no
  none-asked = rw (right-1, checks-written cal records, w.yes3, w.yes4, w.yes5, w.yes6, right-7, w.yes8)

  loads : load_call f ≡ record { refusal = 0; value = record { years = years; records = length records / 32 } }
  loads = load-accepted f none-asked ∙ rw (years-written cal records, records-counted cal records k.records-whole)

  calendar-is : calendar_of f ≡ within_cover cal
  calendar-is = calendar-written cal records w.yes4

  cover : (calendar_of f).cover ≡ cal.cover
  unfolding within_cover
  cover = rw calendar-is

  closed-days : (d : ℕ) → closed_on (calendar_of f) d ≡ closed_on cal d
  unfolding closed_on within_cover
  closed-days d = rw calendar-is (marked cal k.years-most cal.closed d)

  second-days : (d : ℕ) → in_second_map (calendar_of f) d ≡ in_second_map cal d
  unfolding in_second_map within_cover
  second-days d = rw calendar-is (marked cal k.years-most cal.exchange d)

  abbrev m : ℕ
  m = product_blocks records - 1

  abbrev c : ℕ
  c = records_within records m

  inside : (i : ℕ) → i ≤ m → years + i < blocks_in cal records
  inside i h = omega (arith, k.records-some)

  within : (i : ℕ) → i ≤ m → records_of_block (block_of f (years + i)) ≡ records_within records i
  within i h =
      let e : years + i - years ≡ i = omega arith in
      count-is cal records k.records-whole (years + i) (omega arith) (inside i h) ∙ ap (λ (j : ℕ). records_within records j) e

  held : (i x : ℕ) → i ≤ m → x < 480 → get_or (block_of f (years + i)) (16 + x) 0 ≡ get_or records (480 * i + x) 0
  held i x h g =
      let e : years + i - years ≡ i = omega arith in
      held-byte cal records k.records-whole (years + i) (omega arith) (inside i h) x g
      ∙ ap (λ (j : ℕ). get_or records (480 * j + x) 0) e

  shape : Shape f years m c
  shape =
      record {
        blocks = omega (arith, file-blocks cal records, k.records-some);
        long = λ n h. ap length (file-block cal records n (omega (arith, file-blocks cal records))) ∙ block-length cal records n;
        others = no-product cal records;
        products = λ n h l. product-kind cal records n h (omega (arith, file-blocks cal records));
        full = λ i h. within i (omega arith) ∙ omega arith;
        last = within m (omega arith);
        most = omega arith;
      }

  long-is : 480 * m + 32 * c ≡ length records
  long-is = omega (arith, k.records-whole, k.records-some)

  unused : (x : ℕ) → 32 * c ≤ x → x < 480 → get_or (block_of f (years + m)) (16 + x) 0 ≡ 0
  unused x h g = held m x (omega arith) g ∙ get_or-eq_default records 0 (omega (arith, long-is))

  records-held : records_of f ≡ records
  records-held =
      ext_get_or 0 (records_of f) records (records-long f years m c shape ∙ long-is)
      (λ i h.
      let l : i < length records = omega (arith, records-long f years m c shape, long-is) in
      let e : 480 * (i / 480) + i % 480 ≡ i = omega arith in
      let j : i / 480 ≤ m = omega (arith, k.records-whole) in
      ap (λ (n : ℕ). get_or (records_of f) n 0) (sym e)
      ∙ records-at f years m c shape unused (i / 480) (i % 480) j (omega arith)
      ∙ held (i / 480) (i % 480) j (omega arith)
      ∙ ap (λ (n : ℕ). get_or records n 0) e)

-- 'The file holds what was handed in, and loading it gives the counts'
pub holds : (cal : Calendar) (records : List ℕ) (room : ℕ) → first_no (write_asks cal records room) ≡ 0 → Holds cal records
holds cal records room e =
    let w = writable cal records room e in
    record {
      loads = loads cal records room w;
      cover = cover cal records room w;
      closed-days = closed-days cal records room w;
      second-days = second-days cal records room w;
      records-held = records-held cal records room w;
      calendar = λ tidy maps. calendar-is cal records room w ∙ kept-calendar cal tidy (counted cal records room w).years-most maps;
    }
