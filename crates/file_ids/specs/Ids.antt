-- The places of a master file that hold records, and the ids there (01, Master file; question 8).
-- Assumes nothing.
use Rattle.std.specs.Prelude.{ℕ, ◌*◌, ◌/◌, ◌%◌, Bool, not, ◌&&◌, ◌||◌, List, get_or, eqb, ltb}
use Rattle.questions.specs.Search.{every}
use Rattle.file_blocks.specs.Blocks.{block_count, count_of, block_of, is_products, records_of_block}
use Rattle.file_records.specs.Records.{record_of, four_bytes}

-- the places for records, 15 to a block: place p is record p mod 15 of block p div 15
abbrev pub place_count : List ℕ → ℕ
place_count f = 15 * block_count f

-- the place holds a record: its block is a product block, and counts it
unfoldable pub is_record : List ℕ → ℕ → Bool
is_record f p = is_products (block_of f (p / 15)) && ltb (p % 15) (records_of_block (block_of f (p / 15)))

-- 'the counts .. of records'
unfoldable pub record_count : List ℕ → ℕ
record_count f = count_of (place_count f) (is_record f)

-- '0–3 product id', at a place
unfoldable pub id_at : List ℕ → ℕ → List ℕ
id_at f p = four_bytes (record_of (block_of f (p / 15)) (p % 15)) 0

-- 'byte by byte':
-- the first byte is less, or it is the same and what follows rises
unfoldable pub byte_rises : ℕ → ℕ → Bool → Bool
byte_rises x y rest = ltb x y || eqb x y && rest

-- of two ids, the second is greater
unfoldable pub id_rises : List ℕ → List ℕ → Bool
id_rises a b =
    byte_rises (get_or a 0 0) (get_or b 0 0)
    (byte_rises (get_or a 1 0) (get_or b 1 0)
    (byte_rises (get_or a 2 0) (get_or b 2 0)
    (ltb (get_or a 3 0) (get_or b 3 0))))

-- of a record at the place p and an earlier place q: where q holds a record too, the id at p is greater
abbrev pub pair_rises : List ℕ → ℕ → ℕ → Bool
pair_rises f p q = not (is_record f q) || id_rises (id_at f q) (id_at f p)

-- 8, of the place p: where it holds a record, its id is greater than the id of each record before it
unfoldable pub place_rises : List ℕ → ℕ → Bool
place_rises f p = not (is_record f p) || every p (pair_rises f p)

-- 8 'Do the ids strictly rise, byte by byte, over the file?'
unfoldable pub ids_rise : List ℕ → Bool
ids_rise f = every (place_count f) (place_rises f)
