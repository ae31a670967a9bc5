-- What writing owes: 'The file holds what was handed in, and loading it gives the counts.
-- Writing out what an accepted file holds gives that same file wherever all its product blocks but the last are full' (02, note 7);
-- sizes as of note 11.
-- Assumes nothing.
use Rattle.std.specs.Prelude.{ℕ, zero, suc, ◌+◌, ◌-◌, ◌*◌, ◌/◌, ◌≤◌, ◌≡◌, Bool, true, ◌&&◌, cond, List, [], ◌++◌, eqb, leb, ltb, length, take, drop, get_or}
use Rattle.questions.specs.Search.{every}
use Rattle.calendar.specs.declared.Calendar.{Calendar}
use Rattle.calendar.specs.Trading.{closed_on, in_second_map, clean}
use Rattle.product.specs.declared.Product.{Product}
use Rattle.product.specs.Fields.{product_right}
use Rattle.file_blocks.specs.Blocks.{block_count, block_of, is_products, records_of_block}
use Rattle.file_records.specs.Records.{record_right}
use Rattle.file_calendar.specs.Calendars.{year_count, calendar_of}
use Rattle.file_load.specs.Products.{product_from}
use Rattle.file_load.specs.Load.{load_call}
use Rattle.file_draft.specs.Drafts.{file_of}
use Rattle.file_write.specs.Writing.{write_call, buffer_after, record_bytes}

-- each is a byte, as in every lent file and every array of bytes
unfoldable pub are_bytes : List ℕ → Bool
are_bytes bytes = every (length bytes) (λ i. ltb (get_or bytes i 0) 256)

-- the maps are arrays of 736 bytes, as those of every calendar that is handed in
unfoldable pub maps_whole : Calendar → Bool
maps_whole cal =
    eqb (length cal.closed) 736 && are_bytes cal.closed && (eqb (length cal.exchange) 736 && are_bytes cal.exchange)

-- 'record k (from 0) at 16 + 32 × k':
-- the records of a block one after the other, as many as it counts
unfoldable pub block_records : List ℕ → List ℕ
block_records b = cond (is_products b) (take (32 * records_of_block b) (drop 16 b)) []

-- the records of the first n blocks of a file
unfoldable pub records_up_to : List ℕ → ℕ → List ℕ
records_up_to f zero = []
records_up_to f (suc n) = records_up_to f n ++ block_records (block_of f n)

-- 'what an accepted file holds', beside its calendar:
-- its records
unfoldable pub records_of : List ℕ → List ℕ
records_of f = records_up_to f (block_count f)

-- 'all its product blocks but the last are full'
unfoldable pub all_full : List ℕ → Bool
all_full f =
    every (block_count f - 1 - year_count f) (λ n. eqb (records_of_block (block_of f (year_count f + n))) 15)

-- of an accepted writing: first_no (write_asks cal records room) is 0
pub record Holds (cal : Calendar) (records : List ℕ) : Type 0 where
  -- 'loading it gives the counts'
  pub loads : load_call (file_of cal records) ≡ record { refusal = 0; value = record { years = cal.cover.years; records = length records / 32 } }
  -- 'The file holds what was handed in':
  -- the years, the days of both maps, the records byte by byte
  pub cover : (calendar_of (file_of cal records)).cover ≡ cal.cover
  pub closed-days : (d : ℕ) → closed_on (calendar_of (file_of cal records)) d ≡ closed_on cal d
  pub second-days : (d : ℕ) → in_second_map (calendar_of (file_of cal records)) d ≡ in_second_map cal d
  pub records-held : records_of (file_of cal records) ≡ records
  -- and the calendar as it is, where nothing stands in its maps after the last year, which is no day
  pub calendar : clean cal ≡ true → maps_whole cal ≡ true → calendar_of (file_of cal records) ≡ cal

-- 'Writing out what an accepted file holds gives that same file wherever all its product blocks but the last are full':
-- of a file of bytes that load accepts, with such blocks
pub record SameFile (f : List ℕ) : Type 0 where
  pub file : file_of (calendar_of f) (records_of f) ≡ f
  pub accepted : (room : ℕ) → length f ≤ room → write_call (calendar_of f) (records_of f) room ≡ record { refusal = 0; value = length f }
  pub buffer : (before : List ℕ) → length f ≤ length before → buffer_after (calendar_of f) (records_of f) before ≡ f ++ drop (length f) before

-- of a product's fields as arrays: what `record_of` writes is read as the product, but for sizes above 65,535.9999 shares,
-- and is as stated (7) exactly where the product is and its size is 'not below one share' (02, note 11)
pub record RecordOf (p : Product) : Type 0 where
  pub long : length (record_bytes p) ≡ 32
  pub read : p.size ≤ 655359999 → product_from (record_bytes p) ≡ p
  pub right : record_right (record_bytes p) ≡ (product_right p && leb 10000 p.size)
