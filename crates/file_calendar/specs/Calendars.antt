-- The calendar blocks of a master file, and the calendar that they make (01, Master file; questions 4 to 6; 02, note 4).
-- Assumes nothing.
use Rattle.std.specs.Prelude.{ℕ, zero, suc, ◌+◌, ◌*◌, ◌/◌, ◌%◌, Bool, not, ◌&&◌, ◌||◌, cond, List, [], ◌∷◌, get_or, eqb, leb, ltb}
use Rattle.questions.specs.Questions.{ask, Answer, answer}
use Rattle.questions.specs.Search.{every}
use Rattle.calendar.specs.Bits.{byte_bit}
use Rattle.calendar.specs.Trading.{may_close, bits_clean, every_week, zero_calendar}
use Rattle.calendar.specs.declared.Calendar.{Calendar}
use Rattle.file_blocks.specs.Blocks.{block_count, count_of, block_of, zeros, is_calendar, is_products, year_of_block}
use Rattle.file_calendar.specs.declared.FileCalendar.{FileCalendar}

-- 'the counts of years ..':
-- a calendar block for each year
unfoldable pub year_count : List ℕ → ℕ
year_count f = count_of (block_count f) (λ k. is_calendar (block_of f k))

-- 'consecutive rising years', of the calendar blocks:
-- block k has the first block's year + k
abbrev pub year_in_order : List ℕ → ℕ → Bool
year_in_order f k = eqb (year_of_block (block_of f k)) (year_of_block (block_of f 0) + k)

-- 4, of block k: the first blocks are the calendar blocks, each with its year, 'then .. product block and no other kind'
unfoldable pub in_order : List ℕ → ℕ → Bool
in_order f k = cond (ltb k (year_count f)) (is_calendar (block_of f k) && year_in_order f k) (is_products (block_of f k))

-- 4 'Do 1 to 16 calendar blocks of consecutive rising years come first, then at least one product block and no other kind?'
unfoldable pub order_right : List ℕ → Bool
order_right f =
    leb 1 (year_count f) && leb (year_count f) 16 && ltb (year_count f) (block_count f) && every (block_count f) (in_order f)

-- 'day n of the year (from 0) is the bit of value 2^(7 − n mod 8) in byte 16 + n div 8; 1 means closed',
-- and 'a second map in bytes 62–107, same bit order' (02, note 4):
-- of the map that begins at byte `at`
unfoldable pub map_bit : ℕ → List ℕ → ℕ → Bool
map_bit at b n = byte_bit (get_or b (at + n / 8) 0) (n % 8)

-- 'Weekend bits, bits after the year's end .. are zero', of the bit n;
-- that of the second map 'may be set only where the first map has its bit'
abbrev pub day_clean : List ℕ → ℕ → Bool
day_clean b n = bits_clean (may_close (year_of_block b) n) (map_bit 16 b n) (map_bit 62 b n)

-- 'Weekend bits, bits after the year's end and bytes .. –509 are zero', since note 4 after both maps;
-- the bits are those of bytes 16 to 61 and of bytes 62 to 107
unfoldable pub block_clean : List ℕ → Bool
block_clean b = every 368 (day_clean b) && zeros b 108 402

-- 5 'Is every calendar block clean as stated?'
unfoldable pub calendars_clean : List ℕ → Bool
calendars_clean f = every (block_count f) (λ k. not (is_calendar (block_of f k)) || block_clean (block_of f k))

-- the values at i, i + 1, .., n of them
unfoldable pub listed : ℕ → ℕ → (ℕ → ℕ) → List ℕ
listed i zero value = []
listed i (suc n) value = value i ∷ listed (suc i) n value

-- the first n values, then zeros
unfoldable pub up_to : ℕ → (ℕ → ℕ) → ℕ → ℕ
up_to n value i = cond (ltb i n) (value i) 0

-- byte i of the maps of all years: each calendar block has 46 bytes from byte `at` on
unfoldable pub map_byte : ℕ → List ℕ → ℕ → ℕ
map_byte at f i = get_or (block_of f (i / 46)) (at + i % 46) 0

-- the maps of the first years of a file, then zeros up to 16 years
unfoldable pub maps_from : ℕ → List ℕ → ℕ → List ℕ
maps_from at f years = listed 0 736 (up_to (46 * years) (map_byte at f))

-- the calendar of 1 to 16 calendar blocks: the first map from byte 16 on, the second from byte 62 on
abbrev pub calendar_blocks : List ℕ → Calendar
calendar_blocks f =
    record {
      cover = record { first_year = year_of_block (block_of f 0); years = year_count f };
      closed = maps_from 16 f (year_count f);
      exchange = maps_from 62 f (year_count f);
    }

-- 'the file's calendar';
-- a file that has not 1 to 16 calendar blocks has no year
unfoldable pub calendar_of : List ℕ → Calendar
calendar_of f = cond (leb 1 (year_count f) && leb (year_count f) 16) (calendar_blocks f) zero_calendar

-- the number and the value that an answer with the file's calendar stands for
abbrev pub calendar_answer : FileCalendar → Answer Calendar
calendar_answer r = record { refusal = r.refusal; value = r.calendar }

-- with a refusal: its number, and no calendar
abbrev pub refused_file : ℕ → FileCalendar
refused_file number = record { refusal = number; calendar = zero_calendar }

-- question 4 and, where it is answered yes, the file's calendar
unfoldable pub order_call : List ℕ → Answer Calendar
order_call f = answer (ask 4 (order_right f) ∷ []) zero_calendar (calendar_of f)

-- 6 'Does every run of seven days in the cover hold a trading day?'
unfoldable pub weeks_right : List ℕ → Bool
weeks_right f = every_week (calendar_of f)

-- 'An old file, whose second map is zero' (02, note 4):
-- bytes 62 to 107 of its calendar blocks are zero
unfoldable pub old_file : List ℕ → Bool
old_file f = every (year_count f) (λ k. zeros (block_of f k) 62 46)
