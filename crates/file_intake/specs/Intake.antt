-- Loading a master file one block at a time (02, note 8; questions 1 to 8).
-- A block is a file of one block, so what 01 says of the records and ids of a file is used on a block too.
-- Assumes nothing.
use Rattle.std.specs.Prelude.{ℕ, zero, suc, ◌+◌, ◌-◌, ◌*◌, min, Bool, not, ◌&&◌, ◌||◌, cond, List, [], ◌∷◌, eqb, leb, ltb, length, replicate}
use Rattle.questions.specs.Questions.{Ask, ask, first_no, Answer, answer}
use Rattle.questions.specs.Search.{every}
use Rattle.days.specs.Gregorian.{weekday_of}
use Rattle.days.specs.Dates.{year_start}
use Rattle.file_blocks.specs.Blocks.{is_calendar, is_products, year_of_block, check_right, header_right, block_of}
use Rattle.file_calendar.specs.Calendars.{map_bit, block_clean}
use Rattle.file_records.specs.Records.{records_right}
use Rattle.file_ids.specs.Ids.{is_record, record_count, id_at, id_rises, ids_rise}
use Rattle.file_load.specs.declared.Counts.{Counts}
use Rattle.file_intake.specs.declared.Intake.{Intake}
use Rattle.file_intake.specs.declared.Taken.{Taken}
use Rattle.file_intake.specs.declared.Finished.{Finished}

-- 'the lowest refusal included, although a later block may hold the fault with the lower number':
-- the lower of two refusals, 0 standing for none
unfoldable pub lower : ℕ → ℕ → ℕ
lower a b = cond (eqb a 0) b (cond (eqb b 0) a (min a b))

-- the year of the file's first block, once this block is taken
abbrev pub first_year : Intake → List ℕ → ℕ
first_year s b = cond (eqb s.taken 0) (year_of_block b) s.first_year

-- 4, of the next block, 'Do 1 to 16 calendar blocks of consecutive rising years come first, then at least one product block and no other kind?':
-- a calendar block follows calendar blocks only, is one of the first 16 and not the last of those announced, and has the year that follows;
-- another is a product block and not the first
unfoldable pub in_turn : Intake → List ℕ → Bool
in_turn s b =
    cond (is_calendar b)
    (eqb s.years s.taken && (ltb s.taken 16 && (ltb (suc s.taken) s.announced && eqb (year_of_block b) (first_year s b + s.taken))))
    (leb 1 s.taken && is_products b)

-- 'A trading day is a Monday to Friday .. that is not closed', of day n, from 0, of the block's year
unfoldable pub day_trades : List ℕ → ℕ → Bool
day_trades b n = ltb (weekday_of (year_start (year_of_block b) + n)) 5 && not (map_bit 16 b n)

-- how many days the block's year has
abbrev pub days_of : List ℕ → ℕ
days_of b = year_start (year_of_block b + 1) - year_start (year_of_block b)

-- the days without trading up to and with a day, counted up to seven
abbrev pub idle_next : Bool → ℕ → ℕ
idle_next trades idle = cond trades 0 (cond (ltb idle 7) (suc idle) idle)

-- the same after n days of the block's year, from those before it on
unfoldable pub idle_through : List ℕ → ℕ → ℕ → ℕ
idle_through b idle zero = idle
idle_through b idle (suc n) = idle_next (day_trades b n) (idle_through b idle n)

-- 6, of the next calendar block, 'Does every run of seven days in the cover hold a trading day?':
-- no seven days without trading end in its year
unfoldable pub weeks_go_on : ℕ → List ℕ → Bool
weeks_go_on idle b = every (days_of b) (λ n. ltb (idle_through b idle (suc n)) 7)

-- 8, of the next block, 'Do the ids strictly rise, byte by byte, over the file?':
-- its ids rise, the first of them from the last one before the block
unfoldable pub ids_go_on : Intake → List ℕ → Bool
ids_go_on s b = ids_rise b && (eqb s.records 0 || (not (is_record b 0) || id_rises s.last_id (id_at b 0)))

-- 2 to 8, of the next block
unfoldable pub block_asks : Intake → List ℕ → List Ask
block_asks s b =
    ask 2 (check_right b)
    ∷ ask 3 (header_right b s.taken)
    ∷ ask 4 (in_turn s b)
    ∷ ask 5 (not (is_calendar b) || block_clean b)
    ∷ ask 6 (not (is_calendar b) || weeks_go_on s.idle b)
    ∷ ask 7 (not (is_products b) || records_right b)
    ∷ ask 8 (ids_go_on s b)
    ∷ []

-- 'Accept the file one block at a time':
-- the state with one block more
unfoldable pub with_block : Intake → List ℕ → Intake
with_block s b =
    record {
      announced = s.announced;
      taken = suc s.taken;
      lowest = lower s.lowest (first_no (block_asks s b));
      first_year = first_year s b;
      years = s.years + cond (is_calendar b) 1 0;
      idle = cond (is_calendar b) (idle_through b s.idle (days_of b)) s.idle;
      records = s.records + record_count b;
      last_id = cond (eqb (record_count b) 0) s.last_id (id_at b (record_count b - 1));
    }

-- 'the number of blocks said beforehand':
-- the state before the first block
abbrev pub announced_state : ℕ → Intake
announced_state blocks =
    record { announced = blocks; taken = 0; lowest = 0; first_year = 0; years = 0; idle = 0; records = 0; last_id = replicate 4 0 }

-- 'gets 1 ..; the state is then as before'
abbrev pub refused_state : Intake → Taken
refused_state s = record { refusal = 1; state = s }

-- 'An announced number outside 2 to 128 gets 1 before any block';
-- the state that came with it is left free, and is one of zeros
unfoldable pub announce_call : ℕ → Taken
announce_call blocks = cond (leb 2 blocks && leb blocks 128) (record { refusal = 0; state = announced_state blocks }) (refused_state (announced_state 0))

-- 'For a state these calls never made .. any result or refusal will do':
-- the numbers of a state are within the bounds of those that these calls leave; a state whose numbers are not so gets 1
unfoldable pub plausible : Intake → Bool
plausible s =
    leb 2 s.announced
    && (leb s.announced 128
    && (leb s.taken s.announced
    && (leb s.lowest 8 && (leb s.years s.taken && (leb s.idle 7 && leb s.records (15 * s.taken))))))

-- a block of 512 bytes that is not one too many
abbrev pub may_take : Intake → List ℕ → Bool
may_take s b = plausible s && (ltb s.taken s.announced && eqb (length b) 512)

-- 'So does a block that isn't 512 bytes or is one too many ..; the state is then as before'
unfoldable pub take_call : Intake → List ℕ → Taken
take_call s b = cond (may_take s b) (record { refusal = 0; state = with_block s b }) (refused_state s)

-- all blocks that were announced are taken
abbrev pub all_taken : Intake → Bool
all_taken s = plausible s && eqb s.taken s.announced

-- 'a final call gives the result':
-- 1 where it is 'made too early', else the lowest refusal, else the counts
unfoldable pub finish_call : Intake → Answer Counts
finish_call s =
    answer (ask 1 (all_taken s) ∷ ask s.lowest (eqb s.lowest 0) ∷ []) (record { years = 0; records = 0 })
    (record { years = s.years; records = s.records })

-- 'a final call made too early' gets 1
abbrev pub too_early : Answer Counts
too_early = record { refusal = 1; value = record { years = 0; records = 0 } }

-- the number and the values that an answer of the final call stands for
abbrev pub finished_answer : Finished → Answer Counts
finished_answer r = record { refusal = r.refusal; value = r.counts }

-- an answer of the final call, with the state as it came
abbrev pub finished_with : Intake → ℕ → ℕ → ℕ → Finished
finished_with s refusal years records = record { refusal = refusal; counts = record { years = years; records = records }; state = s }

-- 'announced with that number and handed over in order':
-- the state after the first k blocks of a file
unfoldable pub state_after : List ℕ → ℕ → ℕ → Intake
state_after f n zero = announced_state n
state_after f n (suc k) = with_block (state_after f n k) (block_of f k)
