-- The blocks of a master file: their numbers, checks and headers (01, Master file; questions 1 to 3).
-- Assumes nothing.
use Rattle.std.specs.Prelude.{ℕ, zero, suc, ◌+◌, ◌*◌, ◌/◌, ◌%◌, Bool, ◌&&◌, ◌||◌, cond, List, [], length, map, take, drop, get_or, eqb, leb, ltb}
use Rattle.std.specs.List.{range_with_len}
use Rattle.questions.specs.Search.{every}

-- 'Blocks of 512 bytes':
-- how many whole ones a file has
abbrev pub block_count : List ℕ → ℕ
block_count f = length f / 512

-- block k, from 0; no bytes where the file has no whole block k
unfoldable pub block_of : List ℕ → ℕ → List ℕ
block_of f k = cond (ltb k (block_count f)) (take 512 (drop (512 * k) f)) []

-- the whole blocks of a file, from block 0 on
unfoldable pub blocks_of : List ℕ → List (List ℕ)
blocks_of f = map (block_of f) (range_with_len 0 (block_count f))

-- 'integers big-endian':
-- the number in byte `at` and the next; a byte past the end counts as 0
unfoldable pub number_at : List ℕ → ℕ → ℕ
number_at b at = 256 * get_or b at 0 + get_or b (at + 1) 0

-- n bytes from byte `at` on are zero
unfoldable pub zeros : List ℕ → ℕ → ℕ → Bool
zeros b at n = every n (λ i. eqb (get_or b (at + i) 0) 0)

-- how many of 0, .., n − 1 pass
unfoldable pub count_of : ℕ → (ℕ → Bool) → ℕ
count_of zero test = 0
count_of (suc n) test = count_of n test + cond (test n) 1 0

-- 'the sum of (i + 1) × byte i' over the first n bytes
unfoldable pub weighted_sum : List ℕ → ℕ → ℕ
weighted_sum b zero = 0
weighted_sum b (suc n) = weighted_sum b n + suc n * get_or b n 0

-- 'Bytes 510–511: the check, the sum of (i + 1) × byte i over i = 0..509, mod 65,521'
unfoldable pub check_right : List ℕ → Bool
check_right b = eqb (weighted_sum b 510 % 65521) (number_at b 510)

-- 'Byte 0: kind, 1 calendar ..'
abbrev pub is_calendar : List ℕ → Bool
is_calendar b = eqb (get_or b 0 0) 1

-- 'Byte 0: kind, .. 2 products'
abbrev pub is_products : List ℕ → Bool
is_products b = eqb (get_or b 0 0) 2

-- 'Bytes 2–3: the year ..', of a calendar block
abbrev pub year_of_block : List ℕ → ℕ
year_of_block b = number_at b 2

-- 'Bytes 2–3: .. the count of records', of a product block
abbrev pub records_of_block : List ℕ → ℕ
records_of_block b = number_at b 2

-- 'kind, 1 calendar or 2 products', with 'year 2000–2099' or 'the count of records (1–15)'
unfoldable pub block_kind_right : List ℕ → Bool
block_kind_right b =
    is_calendar b && leb 2000 (year_of_block b) && leb (year_of_block b) 2099
    || is_products b && leb 1 (records_of_block b) && leb (records_of_block b) 15

-- 'Byte 0: kind .. Byte 1: version, 1. Bytes 2–3: the year, or the count .. Bytes 4–5: the block's index from 0. Bytes 6–15: zero'
unfoldable pub header_right : List ℕ → ℕ → Bool
header_right b k = block_kind_right b && eqb (get_or b 1 0) 1 && eqb (number_at b 4) k && zeros b 6 10

-- 1 'Is the length a multiple of 512, from 1,024 to 65,536?'
unfoldable pub length_right : List ℕ → Bool
length_right f = eqb (length f % 512) 0 && leb 1024 (length f) && leb (length f) 65536

-- 2 'Is every check right?'
unfoldable pub checks_right : List ℕ → Bool
checks_right f = every (block_count f) (λ k. check_right (block_of f k))

-- 3 'Is every header, bytes 0–15, right (year 2000–2099)?'
unfoldable pub headers_right : List ℕ → Bool
headers_right f = every (block_count f) (λ k. header_right (block_of f k) k)
