-- The text of an accepted file says, line by line, its cover, its closed days one after the other, and the records of its places.
-- Assumes nothing.
use mathlib.Core.Path.{◌≡◌, refl, ◌∙◌}
use mathlib.Core.List.{List, [], ◌++◌}
use mathlib.Core.Bool.{Bool, true, false, not, ◌&&◌, ◌||◌, cond}
use mathlib.Core.Logic.{◌⊎◌, inl, inr}
use Prim.Native.Nat.{ℕ, zero, suc, ◌+◌, ◌-◌, ◌*◌, ◌/◌, ◌%◌, ◌≤◌, ◌<◌}
use native.Mathlib.Nat.{le_refl}
use native.Mathlib.Omega.{arith}
use lib.Dec.{eqb, leb, ltb}
use lib.ListN.{length, get_or, take, drop, length-append, length-take, length-drop, get_or-eq_default}
use lib.Seq.{length-take-le, get_or-take, get_or-drop}
use borrow.Author.Tests.{lt-ltb, le-leb, lt-leb, ne_eqb, eqb-true, leb-true}
use Rattle.questions.specs.Questions.{first_no}
use Rattle.questions.specs.Search.{every}
use Rattle.questions.proofs.Bools.{both, and-fst, and_both, lt-or-ge}
use Rattle.questions.proofs.Search.{every-at, every-all}
use Rattle.calendar.specs.declared.Calendar.{Calendar}
use Rattle.calendar.specs.Trading.{cover_start, cover_end, in_cover, closed_on, in_second_map, open_calendar, close_day}
use Rattle.calendar.proofs.Covered.{Years, years, covered}
use Rattle.file_blocks.specs.Blocks.{block_count, block_of, zeros, is_products, records_of_block, length_right}
use Rattle.file_blocks.proofs.Files.{block_in}
use Rattle.file_records.specs.Records.{record_of, record_right, record_place_right, records_right, products_right}
use Rattle.file_ids.specs.Ids.{place_count, is_record}
use Rattle.file_calendar.specs.Calendars.{calendar_of}
use Rattle.file_load.specs.Load.{load_asks, Accepted}
use Rattle.file_load.proofs.LoadAnswers.{AllYes, all_yes}
use Rattle.file_load.proofs.Accepting.{accepted-file}
use Rattle.file_load.proofs.RisingIds.{record-inside}
use Rattle.file_write.specs.FilesWritten.{are_bytes}
use Rattle.file_write.proofs.ZeroBytes.{byte-below}
use Rattle.file_text_print.specs.Contents.{cover_text, marked_text, product_text, day_line, place_line, cover_days, line_text, line_count, lines_text}
use Rattle.file_text_print.proofs.TextLengths.{line-short}
use Rattle.file_text_read.specs.Lists.{Content, no_content, close_exchange_day, line_taken, content_of}
use Rattle.file_text_again.proofs.LinesAgain.{cover_read, day_read_as}
use Rattle.file_text_again.proofs.ProductLines.{product_read}
use Rattle.file_text_again.proofs.LinesSaid.{Printed, Reads, reads_none, reads-line, reads_then, reads_whole, Says, says-cover, says-closed}
use Rattle.file_text_again.proofs.LinesSaid.{says-exchange, says-product}
use Rattle.file_text_again.proofs.Text.{cover-printed, day-printed, product-printed}

-- ---- bytes of a part of a file

below-take : (l : List ℕ) → ((i : ℕ) → get_or l i 0 < 256) → (n i : ℕ) → get_or (take n l) i 0 < 256
below-take l b n i = go (lt-or-ge i n)
  where
    go : (i < n) ⊎ (n ≤ i) → get_or (take n l) i 0 < 256
    go (inl h) = omega (arith, get_or-take n l i 0 h, b i)
    go (inr h) = omega (arith, get_or-eq_default (take n l) 0 {n = i} (omega (arith, length-take n l)))

below-drop : (l : List ℕ) → ((i : ℕ) → get_or l i 0 < 256) → (n i : ℕ) → get_or (drop n l) i 0 < 256
below-drop l b n i = omega (arith, get_or-drop n l i 0, b (n + i))

-- a list whose numbers are all below 256 is a list of bytes
pub are-bytes : (l : List ℕ) → ((i : ℕ) → get_or l i 0 < 256) → are_bytes l ≡ true
unfolding are_bytes
are-bytes l b = every-all (λ i. ltb (get_or l i 0) 256) (length l) (λ i h. lt-ltb (get_or l i 0) 256 (b i))

-- the calendar after the line of a day, and after those of the first days of a calendar's cover
unfoldable pub day_told : Calendar → Calendar → ℕ → Calendar
day_told cal told d = cond (in_second_map cal d) (close_exchange_day told d) (cond (closed_on cal d) (close_day told d) told)

-- the calendar after the lines of the first days of a calendar's cover
unfoldable pub calendar_told : Calendar → ℕ → Calendar
calendar_told cal zero = open_calendar cal.cover
calendar_told cal (suc k) = day_told cal (calendar_told cal k) (cover_start cal.cover + k)

-- the records after the line of a place, and after those of the first places of a file
unfoldable pub place_told : List ℕ → List ℕ → ℕ → List ℕ
place_told f told p = cond (is_record f p) (told ++ record_of (block_of f (p / 15)) (p % 15)) told

-- the records after the lines of the first places of a file
unfoldable pub records_told : List ℕ → ℕ → List ℕ
records_told f zero = []
records_told f (suc p) = place_told f (records_told f p) p

day-cover : (cal told : Calendar) (d : ℕ) → (day_told cal told d).cover ≡ told.cover
unfolding day_told close_exchange_day close_day
day-cover cal told d = go (in_second_map cal d) (closed_on cal d)
  where
    go : (a b : Bool) → (cond a (close_exchange_day told d) (cond b (close_day told d) told)).cover ≡ told.cover
    go true b = refl
    go false true = refl
    go false false = refl

-- the calendar after the lines of the first days has the cover of the calendar
pub told-cover : (cal : Calendar) (k : ℕ) → (calendar_told cal k).cover ≡ cal.cover
unfolding calendar_told open_calendar
told-cover cal zero = refl
told-cover cal (suc k) = day-cover cal (calendar_told cal k) (cover_start cal.cover + k) ∙ told-cover cal k

-- ---- an accepted file of bytes

module _ (f : List ℕ) (bytes : are_bytes f ≡ true) (e : first_no (load_asks f) ≡ 0) where
  a : AllYes f
  a = all_yes f e

  acc : Accepted f
  acc = accepted-file f e

  abbrev cal : Calendar
  cal = calendar_of f

  span : Years cal.cover
  span = years cal.cover acc.cover

  whole : length f ≡ 512 * block_count f
  unfolding length_right
  whole =
      let q : length f % 512 ≡ 0 = eqb-true _ _ (and-fst (eqb (length f % 512) 0) (leb 1024 (length f)) (and-fst _ _ a.yes1)) in
      omega arith

  -- the record of a place
  module _ (p : ℕ) (t : is_record f p ≡ true) where
    abbrev block : List ℕ
    block = block_of f (p / 15)

    abbrev record-at : List ℕ
    record-at = record_of block (p % 15)

    inside : p < place_count f
    inside = record-inside f p t

    block-long : length block ≡ 512
    block-long =
        rw (block_in f (p / 15) (omega (arith, inside)))
        (length-take-le 512 (drop (512 * (p / 15)) f) (omega (arith, length-drop (512 * (p / 15)) f, whole, inside)))

    block-bytes : (i : ℕ) → get_or block i 0 < 256
    block-bytes i =
        rw (block_in f (p / 15) (omega (arith, inside))) (below-take (drop (512 * (p / 15)) f) (below-drop f (byte-below f bytes) (512 * (p / 15))) 512 i)

    record_is : record-at ≡ take 32 (drop (16 + 32 * (p % 15)) block)
    unfolding record_of
    record_is = rw (lt-ltb (p % 15) 15 (omega arith)) refl

    -- the record in a place of the file has 32 bytes
    pub record-long : length record-at ≡ 32
    record-long = rw record_is (length-take-le 32 (drop (16 + 32 * (p % 15)) block) (omega (arith, length-drop (16 + 32 * (p % 15)) block, block-long)))

    record-bytes : are_bytes record-at ≡ true
    record-bytes =
        rw record_is
        (are-bytes (take 32 (drop (16 + 32 * (p % 15)) block))
        (below-take (drop (16 + 32 * (p % 15)) block) (below-drop block block-bytes (16 + 32 * (p % 15))) 32))

    place-right : record_right record-at ≡ true
    unfolding products_right records_right record_place_right is_record
    place-right =
        let s = both (is_products block) (ltb (p % 15) (records_of_block block)) t in
        let b = every-at (λ k. not (is_products (block_of f k)) || records_right (block_of f k)) (block_count f) (p / 15) a.yes7 (omega (arith, inside)) in
        let r = and-fst (every 15 (record_place_right block)) (zeros block 496 14) (rw s.0 at b) in
        rw s.1 at (every-at (record_place_right block) 15 (p % 15) r (omega arith))

    -- a product line shorter than 64 bytes, printed of a place's record, says that record
    pub place-printed : length (product_text record-at) < 64 → Printed (product_text record-at) (product_read record-at)
    place-printed h = product-printed record-at record-long record-bytes place-right h

  abbrev start : ℕ
  start = cover_start cal.cover

  abbrev days : ℕ
  days = cover_days cal.cover

  day-in : (k : ℕ) → k < days → in_cover cal.cover (start + k) ≡ true
  unfolding in_cover cover_days
  day-in k h = and_both (le-leb start (start + k) (omega arith)) (lt-ltb (start + k) (cover_end cal.cover) (omega arith))

  blocks-few : block_count f ≤ 128
  unfolding length_right
  blocks-few = omega (arith, leb-true (length f) 65536 (both (eqb (length f % 512) 0 && leb 1024 (length f)) (leb (length f) 65536) a.yes1).1, whole)

  -- ---- line by line

  module _ (room : ℕ) (enough : 61440 ≤ room) where
    pub record Told (n : ℕ) (told : Calendar) (records : List ℕ) : Type 0 where
      -- what is said after the first lines
      pub content : Content
      -- the first lines are read from nothing said to this content
      pub reads : Reads room (lines_text cal f n) no_content content
      -- this content holds the calendar and the records that were told
      pub says : Says content told records

    -- the first line
    line-0 : lines_text cal f 1 ≡ [] ++ cover_text cal.cover
    unfolding lines_text line_text
    line-0 = refl

    told-first : Told 1 (calendar_told cal 0) []
    unfolding calendar_told
    told-first =
        record {
          content = line_taken room no_content (cover_read cal.cover);
          reads =
              rw line-0
              (reads_then room (reads_none room no_content)
              (reads-line room (cover_text cal.cover) (cover_read cal.cover) no_content
              (cover-printed cal.cover (omega (arith, span.high)) (omega (arith, span.most)))));
          says = says-cover room cal.cover;
        }

    -- the line of a day
    day-at : (k : ℕ) → k < days → line_text cal f (suc k) ≡ day_line cal (start + k)
    unfolding line_text
    day-at k h =
        let q : suc k - 1 ≡ k = omega arith in
        rw (ne_eqb (suc k) 0 (λ z. omega arith), le-leb (suc k) days (omega arith), q) refl

    day-least : (k : ℕ) → k < days → start + k < 36525
    day-least k h = (covered cal.cover (start + k) (day-in k h)).day

    more : (n : ℕ) (t : List ℕ) (c after : Content) → line_text cal f n ≡ t → Reads room (lines_text cal f n) no_content c → Reads room t c after
        → Reads room (lines_text cal f (suc n)) no_content after
    unfolding lines_text
    more n t c after q p r = reads_then room p (rw q r)

    day-step : (k : ℕ) → k < days → Told (suc k) (calendar_told cal k) [] → Told (suc (suc k)) (calendar_told cal (suc k)) []
    unfolding calendar_told day_told day_line
    day-step k h t = go (in_second_map cal (start + k)) (closed_on cal (start + k)) (day-at k h)
      where
        d : ℕ
        d = start + k

        inside-told : in_cover (calendar_told cal k).cover d ≡ true
        inside-told = rw (told-cover cal k) (day-in k h)

        go : (x y : Bool) → line_text cal f (suc k) ≡ cond x (marked_text 88 d) (cond y (marked_text 67 d) [])
            → Told (suc (suc k)) (cond x (close_exchange_day (calendar_told cal k) d) (cond y (close_day (calendar_told cal k) d) (calendar_told cal k))) []
        go true y q =
            record {
              content = line_taken room t.content (day_read_as 88 d);
              reads =
                  more (suc k) (marked_text 88 d) t.content (line_taken room t.content (day_read_as 88 d)) q t.reads
                  (reads-line room (marked_text 88 d) (day_read_as 88 d) t.content (day-printed 88 d (inr refl) (day-least k h)));
              says = says-exchange room t.content (calendar_told cal k) [] t.says d inside-told;
            }
        go false true q =
            record {
              content = line_taken room t.content (day_read_as 67 d);
              reads =
                  more (suc k) (marked_text 67 d) t.content (line_taken room t.content (day_read_as 67 d)) q t.reads
                  (reads-line room (marked_text 67 d) (day_read_as 67 d) t.content (day-printed 67 d (inl refl) (day-least k h)));
              says = says-closed room t.content (calendar_told cal k) [] t.says d inside-told;
            }
        go false false q =
            record { content = t.content; reads = more (suc k) [] t.content t.content q t.reads (reads_none room t.content); says = t.says }

    told-days : (k : ℕ) → k ≤ days → Told (suc k) (calendar_told cal k) []
    told-days zero h = told-first
    told-days (suc k) h = day-step k (omega arith) (told-days k (omega arith))

    -- the line of a place
    place_at : (p : ℕ) → line_text cal f (suc (days + p)) ≡ place_line f p
    unfolding line_text
    place_at p =
        let q : suc (days + p) - 1 - days ≡ p = omega arith in
        go (lt-or-ge 0 1) q
      where
        go : (0 < 1) ⊎ (1 ≤ 0) → suc (days + p) - 1 - days ≡ p
            → cond (eqb (suc (days + p)) 0) (cover_text cal.cover)
            (cond (leb (suc (days + p)) days) (day_line cal (start + (suc (days + p) - 1))) (place_line f (suc (days + p) - 1 - days))) ≡ place_line f p
        go z q = rw (ne_eqb (suc (days + p)) 0 (λ k. omega arith), lt-leb (suc (days + p)) days (omega arith), q) refl

    place_short : (p : ℕ) → length (place_line f p) < 64
    place_short p = rw (← place_at p) (line-short cal f (suc (days + p)))

    -- the records of the first places have at most 32 bytes for each place
    pub told-long : (p : ℕ) → length (records_told f p) ≤ 32 * p
    unfolding records_told place_told
    told-long zero = omega arith
    told-long (suc p) = go (is_record f p) refl (told-long p)
      where
        go : (b : Bool) → is_record f p ≡ b → length (records_told f p) ≤ 32 * p
            → length (cond b (records_told f p ++ record_of (block_of f (p / 15)) (p % 15)) (records_told f p)) ≤ 32 * suc p
        go true q h = omega (arith, length-append (records_told f p) (record_of (block_of f (p / 15)) (p % 15)), record-long p q)
        go false q h = omega arith

    place-step : (p : ℕ) → p < place_count f → Told (suc (days + p)) (calendar_told cal days) (records_told f p)
        → Told (suc (suc (days + p))) (calendar_told cal days) (records_told f (suc p))
    unfolding records_told place_told place_line
    place-step p h t = go (is_record f p) refl (place_at p) (place_short p)
      where
        r : List ℕ
        r = record_of (block_of f (p / 15)) (p % 15)

        go : (b : Bool) → is_record f p ≡ b → line_text cal f (suc (days + p)) ≡ cond b (product_text r) [] → length (cond b (product_text r) []) < 64
            → Told (suc (suc (days + p))) (calendar_told cal days) (cond b (records_told f p ++ r) (records_told f p))
        go true q l s =
            record {
              content = line_taken room t.content (product_read r);
              reads =
                  more (suc (days + p)) (product_text r) t.content (line_taken room t.content (product_read r)) l t.reads
                  (reads-line room (product_text r) (product_read r) t.content (place-printed p q s));
              says = says-product room t.content (calendar_told cal days) (records_told f p) t.says r (omega (arith, told-long p, blocks-few));
            }
        go false q l s =
            record {
              content = t.content;
              reads = more (suc (days + p)) [] t.content t.content l t.reads
                  (reads_none room t.content);
              says = t.says;
            }

    told_at : (n m : ℕ) (told : Calendar) (records : List ℕ) → n ≡ m → Told n told records → Told m told records
    told_at n m told records q t = rw (← q) t

    no-places : Told (suc days) (calendar_told cal days) (records_told f 0)
    unfolding records_told
    no-places = told-days days (le_refl days)

    told-places : (p : ℕ) → p ≤ place_count f → Told (suc (days + p)) (calendar_told cal days) (records_told f p)
    told-places zero h = told_at (suc days) (suc (days + 0)) (calendar_told cal days) (records_told f 0) (omega arith) no-places
    told-places (suc p) h =
        told_at (suc (suc (days + p))) (suc (days + suc p)) (calendar_told cal days) (records_told f (suc p)) (omega arith)
        (place-step p (omega arith) (told-places p (omega arith)))

    -- the whole text
    pub told_text : Says (content_of room (lines_text cal f (line_count cal f))) (calendar_told cal days) (records_told f (place_count f))
    unfolding line_count
    told_text =
        let t = told-places (place_count f) (omega arith) in
        let q : 1 + (days + place_count f) ≡ suc (days + place_count f) = omega arith in
        rw (q, reads_whole room (lines_text cal f (suc (days + place_count f))) t.content t.reads) t.says
