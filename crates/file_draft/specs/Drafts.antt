-- The file of a calendar and a list of records, and the questions that are asked of it before it is written (02, note 7; questions 3 to 8 and 25).
-- Assumes nothing.
use Rattle.std.specs.Prelude.{ℕ, zero, suc, ◌+◌, ◌-◌, ◌*◌, ◌/◌, ◌%◌, min, Bool, ◌&&◌, cond, List, [], ◌∷◌, ◌++◌, eqb, leb, ltb, length, take, drop, get_or}
use Rattle.questions.specs.Questions.{Ask, ask}
use Rattle.questions.specs.Search.{every}
use Rattle.calendar.specs.declared.Cover.{Cover}
use Rattle.calendar.specs.declared.Calendar.{Calendar}
use Rattle.file_blocks.specs.Blocks.{weighted_sum, headers_right}
use Rattle.file_records.specs.Records.{four_bytes, record_right, products_right}
use Rattle.file_ids.specs.Ids.{id_rises, ids_rise}
use Rattle.file_calendar.specs.Calendars.{listed, up_to, order_right, calendars_clean, weeks_right}

-- 'integers big-endian'; 'a block index too large for its bytes is left to 25':
-- the first of a number's two bytes. It is not cut: no file with such an index passes 25
abbrev pub high_byte : ℕ → ℕ
high_byte number = number / 256

-- the second of them
abbrev pub low_byte : ℕ → ℕ
low_byte number = number % 256

-- 'Byte 0: kind .. Byte 1: version, 1. Bytes 2–3: the year, or the count of records .. Bytes 4–5: the block's index from 0. Bytes 6–15: zero'
unfoldable pub header_byte : ℕ → ℕ → ℕ → ℕ → ℕ
header_byte kind number index j =
    cond (eqb j 0) kind
    (cond (eqb j 1) 1
    (cond (eqb j 2) (high_byte number)
    (cond (eqb j 3) (low_byte number)
    (cond (eqb j 4) (high_byte index)
    (cond (eqb j 5) (low_byte index) 0)))))

-- 'day n of the year .. in byte 16 + n div 8'; 'a second map in bytes 62–107' (02, note 4):
-- byte j of calendar block k before its check: the header with its year, the two maps, then zeros
unfoldable pub calendar_byte : Calendar → ℕ → ℕ → ℕ
calendar_byte cal k j =
    cond (ltb j 16) (header_byte 1 (cal.cover.first_year + k) k j)
    (cond (ltb j 62) (get_or cal.closed (46 * k + (j - 16)) 0)
    (cond (ltb j 108) (get_or cal.exchange (46 * k + (j - 62)) 0) 0))

-- 'a list of records', 32 bytes each:
-- how many it has; one that ends early counts
abbrev pub records_in : List ℕ → ℕ
records_in records = (length records + 31) / 32

-- record i of the list, from 0
unfoldable pub list_record : List ℕ → ℕ → List ℕ
list_record records i = take 32 (drop (32 * i) records)

-- 'full product blocks, the last one perhaps short':
-- 15 records to a block
abbrev pub product_blocks : List ℕ → ℕ
product_blocks records = (records_in records + 14) / 15

-- 'the count of records (1–15)' of product block n
abbrev pub records_within : List ℕ → ℕ → ℕ
records_within records n = min 15 (records_in records - 15 * n)

-- 'record k (from 0) at 16 + 32 × k'; 'Unused records and bytes 496–509 are zero':
-- byte j of product block n, which is block k of the file, before its check: the header with its count, then these
unfoldable pub product_byte : List ℕ → ℕ → ℕ → ℕ → ℕ
product_byte records n k j =
    cond (ltb j 16) (header_byte 2 (records_within records n) k j)
    (cond (ltb j 496) (get_or records (480 * n + (j - 16)) 0) 0)

-- byte j of block k: the calendar blocks 'come first' (4), a block for each year
unfoldable pub block_byte : Calendar → List ℕ → ℕ → ℕ → ℕ
block_byte cal records k j =
    cond (ltb k cal.cover.years) (calendar_byte cal k j) (product_byte records (k - cal.cover.years) k j)

-- 'Bytes 510–511: the check, the sum of (i + 1) × byte i over i = 0..509, mod 65,521':
-- 510 bytes and these two
unfoldable pub checked : List ℕ → List ℕ
checked body = body ++ (high_byte (weighted_sum body 510 % 65521) ∷ low_byte (weighted_sum body 510 % 65521) ∷ [])

-- block k of the file
abbrev pub block_for : Calendar → List ℕ → ℕ → List ℕ
block_for cal records k = checked (listed 0 510 (block_byte cal records k))

-- the first n blocks of the file
unfoldable pub blocks_for : Calendar → List ℕ → ℕ → List ℕ
blocks_for cal records zero = []
blocks_for cal records (suc n) = blocks_for cal records n ++ block_for cal records n

-- how many blocks the file has
abbrev pub blocks_in : Calendar → List ℕ → ℕ
blocks_in cal records = cal.cover.years + product_blocks records

-- 'Write a file .. from a calendar and a list of records':
-- the file of any calendar and any list
unfoldable pub file_of : Calendar → List ℕ → List ℕ
file_of cal records = blocks_for cal records (blocks_in cal records)

-- 7 of that file; a list that ends within a record has one that is not as stated
unfoldable pub records_written : Calendar → List ℕ → Bool
records_written cal records = eqb (length records % 32) 0 && products_right (file_of cal records)

-- 25 'is the buffer long enough for the file, and the file at most 65,536 bytes?'
unfoldable pub fits : Calendar → List ℕ → ℕ → Bool
fits cal records room = leb (length (file_of cal records)) room && leb (length (file_of cal records)) 65536

-- 'Input whose file questions 3 to 8 would refuse .. gets that number'; 'Checks: 25, after those',
-- of a buffer with room for some bytes
unfoldable pub write_asks : Calendar → List ℕ → ℕ → List Ask
write_asks cal records room =
    ask 3 (headers_right (file_of cal records))
    ∷ ask 4 (order_right (file_of cal records))
    ∷ ask 5 (calendars_clean (file_of cal records))
    ∷ ask 6 (weeks_right (file_of cal records))
    ∷ ask 7 (records_written cal records)
    ∷ ask 8 (ids_rise (file_of cal records))
    ∷ ask 25 (fits cal records room)
    ∷ []

-- 3, of the file: '(year 2000–2099)', of every year of the cover
unfoldable pub years_right : Cover → Bool
years_right c = every c.years (λ k. leb 2000 (c.first_year + k) && leb (c.first_year + k) 2099)

-- 4, of the file: '1 to 16 calendar blocks', 'then at least one product block'
abbrev pub counts_right : Cover → List ℕ → Bool
counts_right c records = leb 1 c.years && (leb c.years 16 && leb 1 (length records))

-- a map of 16 years with the bytes of some years, then zeros
unfoldable pub years_of_map : ℕ → List ℕ → List ℕ
years_of_map years map = listed 0 736 (up_to (46 * years) (λ i. get_or map i 0))

-- the calendar that the file holds: the maps of the cover's years, and nothing after them
unfoldable pub within_cover : Calendar → Calendar
within_cover cal =
    record {
      cover = cal.cover;
      closed = years_of_map cal.cover.years cal.closed;
      exchange = years_of_map cal.cover.years cal.exchange;
    }

-- 7, of the records of a list
unfoldable pub list_right : List ℕ → Bool
list_right records = every (length records / 32) (λ i. record_right (list_record records i))

-- '0–3 product id', of a record of a list
unfoldable pub list_id : List ℕ → ℕ → List ℕ
list_id records i = four_bytes (list_record records i) 0

-- 8, of the records of a list: each id is greater than the one before it
unfoldable pub list_rises : List ℕ → Bool
list_rises records = every (length records / 32 - 1) (λ i. id_rises (list_id records i) (list_id records (i + 1)))
