-- The calls on a master file: load, and the search by id (01, Master file; Questions, 1 to 9; 02, notes 4 and 11).
-- Assumes nothing.
use Rattle.std.specs.Prelude.{ℕ, ◌-◌, ◌/◌, ◌%◌, ◌≤◌, ◌≡◌, Bool, true, ◌&&◌, cond, List, [], ◌∷◌, length, ltb}
use Rattle.questions.specs.Questions.{Ask, ask, Answer, answer}
use Rattle.questions.specs.Search.{first_from}
use Rattle.days.specs.Dates.{year_of, day_in_year}
use Rattle.calendar.specs.Trading.{valid_cover, in_cover, closed_on, in_second_map, clean, every_week, zero_calendar}
use Rattle.calendar.specs.declared.Calendar.{Calendar}
use Rattle.product.specs.Fields.{product_right}
use Rattle.product.specs.declared.Product.{Product}
use Rattle.file_blocks.specs.Blocks.{block_count, block_of, year_of_block, length_right, checks_right, headers_right}
use Rattle.file_calendar.specs.Calendars.{year_count, order_right, map_bit, calendars_clean, calendar_of, weeks_right}
use Rattle.file_records.specs.Records.{products_right}
use Rattle.file_ids.specs.Ids.{place_count, is_record, record_count, id_at, ids_rise}
use Rattle.file_load.specs.Products.{same_id, product_at}
use Rattle.file_load.specs.declared.Counts.{Counts}
use Rattle.file_load.specs.declared.Loaded.{Loaded}
use Rattle.file_load.specs.declared.Place.{Place}
use Rattle.file_load.specs.declared.Found.{Found}
use Rattle.file_load.specs.declared.Found.TheVariants.{At, Nothing}

-- 'Load .. asks 1–8, each over the whole file'
unfoldable pub load_asks : List ℕ → List Ask
load_asks f =
    ask 1 (length_right f)
    ∷ ask 2 (checks_right f)
    ∷ ask 3 (headers_right f)
    ∷ ask 4 (order_right f)
    ∷ ask 5 (calendars_clean f)
    ∷ ask 6 (weeks_right f)
    ∷ ask 7 (products_right f)
    ∷ ask 8 (ids_rise f)
    ∷ []

-- the questions of load, and the file's calendar
unfoldable pub judge_call : List ℕ → Answer Calendar
judge_call f = answer (load_asks f) zero_calendar (calendar_of f)

-- 'Load (returns the counts of years and of records)'
unfoldable pub load_call : List ℕ → Answer Counts
load_call f =
    answer (load_asks f) (record { years = 0; records = 0 }) (record { years = year_count f; records = record_count f })

-- the number and the values that an answer of load stands for
abbrev pub load_answer : Loaded → Answer Counts
load_answer l = record { refusal = l.refusal; value = l.counts }

-- the place holds the record with an id
unfoldable pub has_id : List ℕ → List ℕ → ℕ → Bool
has_id f id p = is_record f p && same_id (id_at f p) id

-- the first place, from p on, of a record with an id; the count of places where there is none
unfoldable pub place_from : List ℕ → List ℕ → ℕ → ℕ
place_from f id p = first_from (has_id f id) (place_count f) (place_count f - p) p

-- 9 'Is the id there?'
unfoldable pub found : List ℕ → List ℕ → Bool
found f id = ltb (place_from f id 0) (place_count f)

-- a place by 'its block and record number'
abbrev pub place_of : ℕ → Place
place_of p = record { block = p / 15; «record» = p % 15 }

-- what is at a place that a search ended with: a record, or nothing past the last block
unfoldable pub found_at : List ℕ → ℕ → ℕ → Found
found_at f block place = cond (ltb block (block_count f)) (At block place) Nothing

-- 9
abbrev pub find_asks : List ℕ → List ℕ → List Ask
find_asks f id = ask 9 (found f id) ∷ []

-- the place of the record with an id, 'given as a record's four bytes'
unfoldable pub find_call : List ℕ → List ℕ → Answer Place
find_call f id = answer (find_asks f id) (record { block = 0; «record» = 0 }) (place_of (place_from f id 0))

-- the number and the values that each case of the answer stands for
abbrev pub find_answer : Found → Answer Place
find_answer (At block place) = record { refusal = 0; value = record { block = block; «record» = place } }
find_answer Nothing = record { refusal = 9; value = record { block = 0; «record» = 0 } }

-- the product with an id
unfoldable pub product_of : List ℕ → List ℕ → Product
product_of f id = product_at f (place_from f id 0 / 15) (place_from f id 0 % 15)

-- what an accepted file gives: first_no (load_asks f) is 0
pub record Accepted (f : List ℕ) : Type 0 where
  -- '1 to 16 years from 2000 to 2099' (01, The table)
  pub cover : valid_cover (calendar_of f).cover ≡ true
  -- 5
  pub closures : clean (calendar_of f) ≡ true
  -- 6
  pub weeks : every_week (calendar_of f) ≡ true
  -- 'day n of the year (from 0) is the bit .. in byte 16 + n div 8; 1 means closed',
  -- of each day of the cover, in the block of its year
  pub days : (d : ℕ) → in_cover (calendar_of f).cover d ≡ true
      → closed_on (calendar_of f) d ≡ map_bit 16 (block_of f (year_of d - year_of_block (block_of f 0))) (day_in_year d)
  -- 'a second map in bytes 62–107, same bit order' (02, note 4)
  pub second-days : (d : ℕ) → in_cover (calendar_of f).cover d ≡ true
      → in_second_map (calendar_of f) d ≡ map_bit 62 (block_of f (year_of d - year_of_block (block_of f 0))) (day_in_year d)
  -- 46 bytes for each of 16 years, in both maps
  pub maps : length (calendar_of f).closed ≡ 736
  pub exchange-maps : length (calendar_of f).exchange ≡ 736
  -- 7, of the product of each record, but for the lower bound of a file's size, which `sizes` has
  pub products : (p : ℕ) → is_record f p ≡ true → product_right (product_at f (p / 15) (p % 15)) ≡ true
  -- 'a file's [size] not below one share' (02, note 11), in ten-thousandths
  pub sizes : (p : ℕ) → is_record f p ≡ true → 10000 ≤ (product_at f (p / 15) (p % 15)).size
  -- 7, of the product that is found by its id
  pub product : (id : List ℕ) → found f id ≡ true → product_right (product_of f id) ≡ true
  -- 8: the record with an id is the only one
  pub unique : (id : List ℕ) (p : ℕ) → has_id f id p ≡ true → place_from f id 0 ≡ p
