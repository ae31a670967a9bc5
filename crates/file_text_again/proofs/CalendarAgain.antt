-- The calendar that the lines of a right calendar's days say is that calendar, byte by byte: a bit is set for a day that a line names and for no other,
-- and the bits of a right calendar are all days'.
-- Assumes nothing.
use mathlib.Core.Path.{◌≡◌, refl, sym, ap, ◌∙◌}
use mathlib.Core.List.{List}
use mathlib.Core.Bool.{Bool, true, false, not, ◌||◌, cond}
use mathlib.Core.Logic.{◌⊎◌, inl, inr}
use Prim.Native.Nat.{ℕ, zero, suc, ◌+◌, ◌-◌, ◌*◌, ◌/◌, ◌%◌, ◌^◌, ◌≤◌, ◌<◌}
use native.Mathlib.Omega.{arith}
use lib.Bits.{bit_or}
use lib.Dec.{eqb, ltb}
use lib.ListN.{length, get_or, replicate, length-set, length-replicate, get_or-eq_default}
use lib.Seq.{ext_get_or}
use borrow.Author.Tests.{lt-ltb, eqb-true, eqb-false, ltb-true}
use Rattle.questions.specs.Questions.{first_no}
use Rattle.questions.proofs.Bools.{and-fst, and-snd, clash, lt-or-ge}
use Rattle.questions.proofs.Search.{every-at}
use Rattle.days.specs.Gregorian.{weekday_of}
use Rattle.days.specs.Dates.{year_of, year_start, day_in_year}
use Rattle.days.proofs.Years.{year-from, year-until, year-start-most}
use Rattle.calendar.specs.Bits.{byte_bit, bit_at, set_bit}
use Rattle.calendar.specs.declared.Cover.{Cover}
use Rattle.calendar.specs.declared.Calendar.{Calendar}
use Rattle.calendar.specs.Trading.{calendar_of_maps, calendar_with, valid_cover, cover_start, in_cover, slot_of, closed_on, in_second_map, open_calendar, may_close}
use Rattle.calendar.specs.Trading.{may_be_closed, bits_clean, clean_slot, clean, close_day}
use Rattle.calendar.proofs.Bits.{set_other}
use Rattle.calendar.proofs.Covered.{covers-is}
use Rattle.calendar.proofs.Closing.{close-cover, close-exchange}
use Rattle.calendar_words.proofs.DayWords.{same_bits}
use Rattle.file_blocks.proofs.Files.{block-byte}
use Rattle.file_calendar.specs.Calendars.{year_count, up_to, map_byte, maps_from, calendar_of}
use Rattle.file_calendar.proofs.Filling.{listed-length, listed_at, up_in, up-out}
use Rattle.file_calendar.proofs.CalendarBlocks.{Ordered, ordered, calendar-is}
use Rattle.file_load.specs.Load.{load_asks, Accepted}
use Rattle.file_load.proofs.LoadAnswers.{all_yes}
use Rattle.file_load.proofs.Accepting.{accepted-file}
use Rattle.file_write.specs.FilesWritten.{are_bytes}
use Rattle.file_write.proofs.ZeroBytes.{byte-below}
use Rattle.file_text_print.specs.Contents.{cover_days}
use Rattle.file_text_read.specs.Lists.{close_exchange_day}
use Rattle.file_text_again.proofs.FileText.{day_told, calendar_told, told-cover}
use Rattle.file_text_again.proofs.TextBytes.{OfBytes, zero-bytes, bit-bytes}
use Rattle.file_text_again.proofs.Days.{second-closed, no-bit, days-told, second-told}

-- ---- maps and their bits

-- the same test of a bit is the same bit
same_bit : (a b : ℕ) → eqb (a % 2) 1 ≡ eqb (b % 2) 1 → a % 2 ≡ b % 2
same_bit a b e = go (eqb (a % 2) 1) refl
  where
    go : (c : Bool) → eqb (a % 2) 1 ≡ c → a % 2 ≡ b % 2
    go true q = eqb-true (a % 2) 1 q ∙ sym (eqb-true (b % 2) 1 (sym e ∙ q))
    go false q = omega (arith, eqb-false (a % 2) 1 q, eqb-false (b % 2) 1 (sym e ∙ q))

-- bytes with the same eight bits are one
same_byte : (x y : ℕ) → x < 256 → y < 256 → ((n : ℕ) → n < 8 → byte_bit x n ≡ byte_bit y n) → x ≡ y
same_byte x y a b h =
    same_bits 8 x y a b
    (λ j k.
    let e : 7 - (7 - j) ≡ j = omega arith in
    same_bit (x / 2 ^ j) (y / 2 ^ j) (rw e at (h (7 - j) (omega arith))))

-- maps of 736 bytes with the same 5,888 bits are one
same_map : (a b : List ℕ) → length a ≡ 736 → length b ≡ 736 → ((i : ℕ) → get_or a i 0 < 256) → ((i : ℕ) → get_or b i 0 < 256)
    → ((s : ℕ) → s < 5888 → bit_at a s ≡ bit_at b s) → a ≡ b
unfolding bit_at
same_map a b la lb ba bb h =
    ext_get_or 0 a b (la ∙ sym lb)
    (λ i l. same_byte (get_or a i 0) (get_or b i 0) (ba i) (bb i)
    (λ n g.
    let p : (8 * i + n) / 8 ≡ i = omega arith in
    let q : (8 * i + n) % 8 ≡ n = omega arith in
    rw (p, q) at (h (8 * i + n) (omega arith))))

-- a map of 736 bytes with no bit that another has not
record Within (whole map : List ℕ) : Type 0 where
  long : length map ≡ 736
  bytes : OfBytes map
  bits : (s : ℕ) → bit_at map s ≡ true → bit_at whole s ≡ true

module _ (whole : List ℕ) where
  none_within : Within whole (replicate 736 0)
  none_within =
      record {
        long = length-replicate {A = ℕ} 736 0;
        bytes = zero-bytes 736;
        bits = λ s e. clash e (no-bit s);
      }

  module _ (map : List ℕ) (w : Within whole map) where
    set-within : (s : ℕ) → bit_at whole s ≡ true → Within whole (set_bit map s)
    unfolding set_bit
    set-within s m =
        record {
          long = length-set {A = ℕ} map (s / 8) (bit_or (get_or map (s / 8) 0) (2 ^ (7 - s % 8))) ∙ w.long;
          bytes = bit-bytes map s w.bytes;
          bits = bits-set s m;
        }
      where
        bits-set : (s : ℕ) → bit_at whole s ≡ true → (x : ℕ) → bit_at (set_bit map s) x ≡ true → bit_at whole x ≡ true
        bits-set s m x e = go (eqb x s) refl
          where
            go : (b : Bool) → eqb x s ≡ b → bit_at whole x ≡ true
            go true q = ap (bit_at whole) (eqb-true x s q) ∙ m
            go false q = w.bits x (sym (set_other map s x (eqb-false x s q)) ∙ e)

  close-within : (t : Calendar) (d : ℕ) → Within whole t.closed → bit_at whole (slot_of t.cover d) ≡ true → Within whole (close_day t d).closed
  unfolding close_day
  close-within t d w m = go (in_cover t.cover d)
    where
      go : (b : Bool) → Within whole (cond b (set_bit t.closed (slot_of t.cover d)) t.closed)
      go true = set-within t.closed w (slot_of t.cover d) m
      go false = w

-- ---- slots and days

-- a slot that may be marked is a day's
module _ (c : Cover) (s : ℕ) (may : may_be_closed c s ≡ true) where
  abbrev year : ℕ
  year = c.first_year + s / 368

  abbrev day : ℕ
  day = year_start year + s % 368

  year-in : s / 368 < c.years
  unfolding may_be_closed
  year-in = ltb-true (s / 368) c.years (and-fst (ltb (s / 368) c.years) (may_close year (s % 368)) may)

  day-in : day < year_start (year + 1)
  unfolding may_be_closed may_close
  day-in =
      ltb-true day (year_start (year + 1))
      (and-fst (ltb day (year_start (year + 1))) (ltb (weekday_of day) 5) (and-snd (ltb (s / 368) c.years) (may_close year (s % 368)) may))

  day-small : day < 36525
  day-small = omega (arith, day-in, year-start-most (year + 1))

  year-is : year_of day ≡ year
  year-is = omega (arith, year-from year day day-small (omega arith), year-until (year + 1) day day-in)

  day-covered : in_cover c day ≡ true
  day-covered =
      sym (covers-is c day day-small (omega (arith, year-is))) ∙ lt-ltb (year_of day - c.first_year) c.years (omega (arith, year-is, year-in))

  slot_is : slot_of c day ≡ s
  unfolding slot_of day_in_year
  slot_is = omega (arith, year-is, ap year_start year-is)

-- what is marked may be
first-may : (may first second : Bool) → bits_clean may first second ≡ true → first ≡ true → may ≡ true
unfolding bits_clean
first-may may true second e q = and-fst may (not second || true) e
first-may may false second e q = clash q refl

second-first : (may first second : Bool) → bits_clean may first second ≡ true → second ≡ true → first ≡ true
unfolding bits_clean
second-first may first true e q = and-snd (not first || may) first e
second-first may first false e q = clash q refl

-- ---- a right calendar whose maps are bytes

same-calendar : (a b : Calendar) → a.cover ≡ b.cover → a.closed ≡ b.closed → a.exchange ≡ b.exchange → a ≡ b
same-calendar a b p q r =
    ap (λ (x : Cover). calendar_of_maps x a.closed a.exchange) p
    ∙ ap (λ (x : List ℕ). calendar_of_maps b.cover x a.exchange) q
    ∙ ap (λ (x : List ℕ). calendar_of_maps b.cover b.closed x) r

-- implied both ways
same_truth : (a b : Bool) → (a ≡ true → b ≡ true) → (b ≡ true → a ≡ true) → a ≡ b
same_truth true b f g = sym (f refl)
same_truth false true f g = g refl
same_truth false false f g = refl

-- what is said has no mark that the calendar has not
record NoMore (cal t : Calendar) : Type 0 where
  cover : t.cover ≡ cal.cover
  first : Within cal.closed t.closed
  second : Within cal.exchange t.exchange

module _ (cal : Calendar) (valid : valid_cover cal.cover ≡ true) (tidy : clean cal ≡ true) where
  first_slot : (s : ℕ) → s < 5888 → bit_at cal.closed s ≡ true → may_be_closed cal.cover s ≡ true
  unfolding clean
  first_slot s h e =
      first-may (may_be_closed cal.cover s) (bit_at cal.closed s) (bit_at cal.exchange s) (every-at (clean_slot cal) 5888 s tidy h) e

  second-slot : (s : ℕ) → s < 5888 → bit_at cal.exchange s ≡ true → may_be_closed cal.cover s ≡ true
  unfolding clean
  second-slot s h e =
      first_slot s h
      (second-first (may_be_closed cal.cover s) (bit_at cal.closed s) (bit_at cal.exchange s) (every-at (clean_slot cal) 5888 s tidy h) e)

  closed-bit : (d : ℕ) → closed_on cal d ≡ true → bit_at cal.closed (slot_of cal.cover d) ≡ true
  unfolding closed_on
  closed-bit d e = and-snd (in_cover cal.cover d) (bit_at cal.closed (slot_of cal.cover d)) e

  second-bit : (d : ℕ) → in_second_map cal d ≡ true → bit_at cal.exchange (slot_of cal.cover d) ≡ true
  unfolding in_second_map
  second-bit d e = and-snd (in_cover cal.cover d) (bit_at cal.exchange (slot_of cal.cover d)) e

  none_more : NoMore cal (open_calendar cal.cover)
  unfolding open_calendar
  none_more = record { cover = refl; first = none_within cal.closed; second = none_within cal.exchange }

  -- the line of a day
  module _ (t : Calendar) (d : ℕ) (n : NoMore cal t) where
    first_more : closed_on cal d ≡ true → Within cal.closed (close_day t d).closed
    first_more m = close-within cal.closed t d n.first (rw n.cover (closed-bit d m))

    second_more : in_second_map cal d ≡ true → Within cal.exchange (close_day (calendar_with t.cover t.exchange) d).closed
    second_more m = close-within cal.exchange (calendar_with t.cover t.exchange) d n.second (rw n.cover (second-bit d m))

    close_more : closed_on cal d ≡ true → NoMore cal (close_day t d)
    close_more m =
        record {
          cover = close-cover t d ∙ n.cover;
          first = first_more m;
          second = rw (close-exchange t d) n.second;
        }

    exchange-more : in_second_map cal d ≡ true → NoMore cal (close_exchange_day t d)
    unfolding close_exchange_day
    exchange-more m = record { cover = n.cover; first = first_more (second-closed cal valid tidy d m); second = second_more m }

    day-more : NoMore cal (day_told cal t d)
    unfolding day_told
    day-more = go (in_second_map cal d) refl (closed_on cal d) refl
      where
        go : (a : Bool) → in_second_map cal d ≡ a → (b : Bool) → closed_on cal d ≡ b → NoMore cal (cond a (close_exchange_day t d) (cond b (close_day t d) t))
        go true p b q = exchange-more p
        go false p true q = close_more q
        go false p false q = n

  told_more : (k : ℕ) → NoMore cal (calendar_told cal k)
  unfolding calendar_told
  told_more zero = none_more
  told_more (suc k) = day-more (calendar_told cal k) (cover_start cal.cover + k) (told_more k)

  -- the calendar that all lines say
  abbrev told : Calendar
  told = calendar_told cal (cover_days cal.cover)

  -- a day by its slot, in the calendar and in what is said
  module _ (s : ℕ) (may : may_be_closed cal.cover s ≡ true) where
    abbrev d : ℕ
    d = day cal.cover s may

    told_in : (t : Calendar) → t.cover ≡ cal.cover → (in_cover t.cover d ≡ true) × (slot_of t.cover d ≡ s)
    told_in t q = rw q (day-covered cal.cover s may, slot_is cal.cover s may)

    closed_at : (t : Calendar) → t.cover ≡ cal.cover → closed_on t d ≡ bit_at t.closed s
    unfolding closed_on
    closed_at t q = rw ((told_in t q).0, (told_in t q).1) refl

    second_at : (t : Calendar) → t.cover ≡ cal.cover → in_second_map t d ≡ bit_at t.exchange s
    unfolding in_second_map
    second_at t q = rw ((told_in t q).0, (told_in t q).1) refl

    abbrev q : told.cover ≡ cal.cover
    q = told-cover cal (cover_days cal.cover)

    first-same : bit_at told.closed s ≡ bit_at cal.closed s
    first-same = sym (closed_at told q) ∙ days-told cal valid tidy d ∙ closed_at cal refl

    second-same : bit_at told.exchange s ≡ bit_at cal.exchange s
    second-same = sym (second_at told q) ∙ second-told cal valid tidy d ∙ second_at cal refl

  more : NoMore cal told
  more = told_more (cover_days cal.cover)

  first-bits : (s : ℕ) → s < 5888 → bit_at told.closed s ≡ bit_at cal.closed s
  first-bits s h =
      same_truth (bit_at told.closed s) (bit_at cal.closed s) (more.first.bits s) (λ e. first-same s (first_slot s h e) ∙ e)

  second-bits : (s : ℕ) → s < 5888 → bit_at told.exchange s ≡ bit_at cal.exchange s
  second-bits s h =
      same_truth (bit_at told.exchange s) (bit_at cal.exchange s) (more.second.bits s) (λ e. second-same s (second-slot s h e) ∙ e)

  calendar-told : length cal.closed ≡ 736 → length cal.exchange ≡ 736 → ((i : ℕ) → get_or cal.closed i 0 < 256)
      → ((i : ℕ) → get_or cal.exchange i 0 < 256) → told ≡ cal
  calendar-told la lb ba bb =
      same-calendar told cal more.cover
      (same_map told.closed cal.closed more.first.long la more.first.bytes.at ba first-bits)
      (same_map told.exchange cal.exchange more.second.long lb more.second.bytes.at bb second-bits)

-- ---- an accepted file of bytes

module _ (f : List ℕ) (bytes : are_bytes f ≡ true) (e : first_no (load_asks f) ≡ 0) where
  o : Ordered f
  o = ordered f (all_yes f e).yes4

  a : Accepted f
  a = accepted-file f e

  block-map : (at i : ℕ) → at ≤ 62 → i < 46 * year_count f → map_byte at f i < 256
  unfolding map_byte
  block-map at i l h =
      omega (arith, block-byte f (i / 46) (at + i % 46) (omega (arith, o.fewer)) (omega arith), byte-below f bytes (512 * (i / 46) + (at + i % 46)))

  map-byte : (at i : ℕ) → at ≤ 62 → get_or (maps_from at f (year_count f)) i 0 < 256
  unfolding maps_from
  map-byte at i l = go (lt-or-ge i 736) (lt-or-ge i (46 * year_count f))
    where
      go : (i < 736) ⊎ (736 ≤ i) → (i < 46 * year_count f) ⊎ (46 * year_count f ≤ i) → get_or (maps_from at f (year_count f)) i 0 < 256
      go (inl h) (inl g) = rw (listed_at 736 (up_to (46 * year_count f) (map_byte at f)) i h, up_in (map_byte at f) (46 * year_count f) i g) (block-map at i l g)
      go (inl h) (inr g) = rw (listed_at 736 (up_to (46 * year_count f) (map_byte at f)) i h, up-out (map_byte at f) (46 * year_count f) i g) (omega arith)
      go (inr h) b =
          omega (
            arith,
            get_or-eq_default (maps_from at f (year_count f)) 0 {n = i}
                (omega (arith, listed-length 0 736 (up_to (46 * year_count f) (map_byte at f)))),
          )

  first-bytes : (i : ℕ) → get_or (calendar_of f).closed i 0 < 256
  first-bytes i = rw (calendar-is f o) (map-byte 16 i (omega arith))

  second-bytes : (i : ℕ) → get_or (calendar_of f).exchange i 0 < 256
  second-bytes i = rw (calendar-is f o) (map-byte 62 i (omega arith))

  -- the calendar that its text says is the file's
  pub file-calendar-told : calendar_told (calendar_of f) (cover_days (calendar_of f).cover) ≡ calendar_of f
  file-calendar-told = calendar-told (calendar_of f) a.cover a.closures a.maps a.exchange-maps first-bytes second-bytes
