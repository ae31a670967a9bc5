-- The product blocks of a master file and their records (01, Master file; question 7; 02, note 11).
-- Assumes nothing.
use Rattle.std.specs.Prelude.{ℕ, ◌+◌, ◌*◌, Bool, not, ◌&&◌, ◌||◌, cond, List, [], ◌∷◌, map, take, drop, get_or, ltb}
use Rattle.std.specs.List.{range_with_len}
use Rattle.questions.specs.Search.{every}
use Rattle.product.specs.Fields.{fields_right, file_size_right}
use Rattle.file_blocks.specs.Blocks.{block_count, block_of, number_at, zeros, is_products, records_of_block}

-- 'record k (from 0) at 16 + 32 × k';
-- a block has places for 15
unfoldable pub record_of : List ℕ → ℕ → List ℕ
record_of b k = cond (ltb k 15) (take 32 (drop (16 + 32 * k) b)) []

-- n bytes from byte `at` on; a byte past the end counts as 0
unfoldable pub bytes_at : List ℕ → ℕ → ℕ → List ℕ
bytes_at r at n = map (λ i. get_or r (at + i) 0) (range_with_len 0 n)

-- three bytes from byte `at` on; a byte past the end counts as 0
unfoldable pub three_bytes : List ℕ → ℕ → List ℕ
three_bytes r at = get_or r at 0 ∷ get_or r (at + 1) 0 ∷ get_or r (at + 2) 0 ∷ []

-- four bytes from byte `at` on
unfoldable pub four_bytes : List ℕ → ℕ → List ℕ
four_bytes r at = get_or r at 0 ∷ get_or r (at + 1) 0 ∷ get_or r (at + 2) 0 ∷ get_or r (at + 3) 0 ∷ []

-- '13–14 contract size in shares'; 'Sizes now carry ten-thousandths of a share: record bytes 20–21 hold 0 to 9,999' (02, note 11):
-- in ten-thousandths of a share
unfoldable pub size_at : List ℕ → ℕ
size_at r = 10000 * number_at r 13 + number_at r 20

-- 'Record bytes: 0–3 product id .. 4–7 group .. 8–11 cash market .. 12 kind .. 13–14 contract size .. 15–16 tick ..
-- 17–19 EUR, CHF, USD, GBP or GBX; 20–31 zero',
-- of which note 11 of document 02 takes 20–21
unfoldable pub record_right : List ℕ → Bool
record_right r =
    fields_right (four_bytes r 0) (four_bytes r 4) (four_bytes r 8) (get_or r 12 0) (size_at r) (number_at r 15) (three_bytes r 17)
    && file_size_right (number_at r 13) (number_at r 20)
    && zeros r 22 10

-- of record k of a block: as stated, or 'Unused records .. are zero'
unfoldable pub record_place_right : List ℕ → ℕ → Bool
record_place_right b k = cond (ltb k (records_of_block b)) (record_right (record_of b k)) (zeros (record_of b k) 0 32)

-- 'every record, and all that must be zero in its block': 'Unused records and bytes 496–509 are zero'
unfoldable pub records_right : List ℕ → Bool
records_right b = every 15 (record_place_right b) && zeros b 496 14

-- 7 'Is every record, and all that must be zero in its block, as stated?'
unfoldable pub products_right : List ℕ → Bool
products_right f = every (block_count f) (λ k. not (is_products (block_of f k)) || records_right (block_of f k))
