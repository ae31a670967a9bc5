-- The cover, the closed days, the trading days and the exchange days (01, Days and months; questions 5, 6, 11, 14, 15, 17 and 26; 02, notes 4, 5, 9 and 14).
-- Assumes nothing.
use Rattle.std.specs.Prelude.{ℕ, zero, suc, ◌+◌, ◌-◌, ◌*◌, ◌/◌, ◌%◌, Bool, not, ◌&&◌, ◌||◌, cond, List, [], leb, ltb, replicate}
use Rattle.questions.specs.Search.{every, some, first_from}
use Rattle.days.specs.Gregorian.{weekday_of}
use Rattle.days.specs.Dates.{year_of, year_start, day_in_year}
use Rattle.calendar.specs.Bits.{bit_at, set_bit, clear_bit}
use Rattle.calendar.specs.declared.Cover.{Cover}
use Rattle.calendar.specs.declared.Calendar.{Calendar}

-- a calendar by its cover and its two maps
abbrev pub calendar_of_maps : Cover → List ℕ → List ℕ → Calendar
calendar_of_maps cover closed exchange = record { cover = cover; closed = closed; exchange = exchange }

-- the same with nothing in the second map, on which trading days, last trading days and listings do not depend (Second)
abbrev pub calendar_with : Cover → List ℕ → Calendar
calendar_with cover closed = calendar_of_maps cover closed []

-- a cover with nothing in its maps
unfoldable pub open_calendar : Cover → Calendar
open_calendar cover = calendar_of_maps cover (replicate 736 0) (replicate 736 0)

-- 'a calendar of zeros' (02, note 14), as in 'a table of zeros' (01, Questions, in order)
unfoldable pub zero_calendar : Calendar
zero_calendar = open_calendar (record { first_year = 0; years = 0 })

-- '1 to 16 years from 2000 to 2099' (01, The table)
unfoldable pub valid_cover : Cover → Bool
valid_cover c = leb 1 c.years && (leb c.years 16 && (leb 2000 c.first_year && leb (c.first_year + c.years) 2100))

-- 1 January of the cover's first year
unfoldable pub cover_start : Cover → ℕ
cover_start c = year_start c.first_year

-- the day after 31 December of its last year
unfoldable pub cover_end : Cover → ℕ
cover_end c = year_start (c.first_year + c.years)

-- 'The cover is a run of whole years'; 11: 'Is the day in the cover?'
unfoldable pub in_cover : Cover → ℕ → Bool
in_cover c d = leb (cover_start c) d && ltb d (cover_end c)

-- where the maps have the bit of a day: 46 bytes for each year of the cover, a bit for each day of the year
unfoldable pub slot_of : Cover → ℕ → ℕ
slot_of c d = 368 * (year_of d - c.first_year) + day_in_year d

-- a day of the cover is closed where its bit is 1
unfoldable pub closed_on : Calendar → ℕ → Bool
closed_on cal d = in_cover cal.cover d && bit_at cal.closed (slot_of cal.cover d)

-- 'A trading day is a Monday to Friday in the cover that is not closed'; 14: 'Is it a trading day?'
unfoldable pub trading_day : Calendar → ℕ → Bool
trading_day cal d = in_cover cal.cover d && (ltb (weekday_of d) 5 && not (closed_on cal d))

-- 'On some days there is no trading, yet payments and deliveries run .. A bit there marks such a day' (02, note 4):
-- a day of the second map
unfoldable pub in_second_map : Calendar → ℕ → Bool
in_second_map cal d = in_cover cal.cover d && bit_at cal.exchange (slot_of cal.cover d)

-- 'Due days count trading days and these days'
unfoldable pub exchange_day : Calendar → ℕ → Bool
exchange_day cal d = trading_day cal d || in_second_map cal d

-- the first day after d, and before e, that passes a test; 36,525, which is no day, where none does
unfoldable pub next_day : (ℕ → Bool) → ℕ → ℕ → ℕ
next_day test e d = first_from test 36525 (e - suc d) (suc d)

-- the n-th such day after d, d itself for n = 0; 36,525 where there is none before an e of at most 36,525
unfoldable pub nth_day : (ℕ → Bool) → ℕ → ℕ → ℕ → ℕ
nth_day test e zero d = d
nth_day test e (suc n) d = next_day test e (nth_day test e n d)

-- 'the n-th trading day after a given .. day' (01, Due day, tick, cash):
-- what due days count where the second map is zero
abbrev pub nth_trading_day : Calendar → ℕ → ℕ → ℕ
nth_trading_day cal n d = nth_day (trading_day cal) (cover_end cal.cover) n d

-- 'the first exchange day after it' (02, note 5):
-- the first exchange day of the cover after d; 36,525 where none is left
unfoldable pub next_exchange_day : Calendar → ℕ → ℕ
next_exchange_day cal d = next_day (exchange_day cal) (cover_end cal.cover) d

-- 'Due days count trading days and these days' (02, note 4):
-- the n-th exchange day after a day
unfoldable pub nth_exchange_day : Calendar → ℕ → ℕ → ℕ
nth_exchange_day cal n d = nth_day (exchange_day cal) (cover_end cal.cover) n d

-- 'Weekend bits, bits after the year's end .. are zero':
-- day n of the year y is one of the year's, and a Monday to Friday
unfoldable pub may_close : ℕ → ℕ → Bool
may_close y n = ltb (year_start y + n) (year_start (y + 1)) && ltb (weekday_of (year_start y + n)) 5

-- the slot belongs to a year of the cover, and to a Monday to Friday of that year
unfoldable pub may_be_closed : Cover → ℕ → Bool
may_be_closed c slot = ltb (slot / 368) c.years && may_close (c.first_year + slot / 368) (slot % 368)

-- 5, of a day's bits in the two maps: the first is 1 only where it may be; the second 'may be set only where the first map has its bit'
unfoldable pub bits_clean : Bool → Bool → Bool → Bool
bits_clean may first second = (not first || may) && (not second || first)

-- 5, of a slot of the maps
abbrev pub clean_slot : Calendar → ℕ → Bool
clean_slot cal slot = bits_clean (may_be_closed cal.cover slot) (bit_at cal.closed slot) (bit_at cal.exchange slot)

-- 5, of a calendar: in its two maps of 16 years each bit is 0, or may be 1; so the maps after the last year's are zero
unfoldable pub clean : Calendar → Bool
clean cal = every 5888 (clean_slot cal)

-- one of the n days from s on is a trading day
abbrev pub some_trades : Calendar → ℕ → ℕ → Bool
some_trades cal s n = some n (λ i. trading_day cal (s + i))

-- 6: 'Does every run of seven days in the cover hold a trading day?'
-- A run is given by its first day
unfoldable pub every_week : Calendar → Bool
every_week cal =
    every (cover_end cal.cover - cover_start cal.cover - 6) (λ k. some_trades cal (cover_start cal.cover + k) 7)

-- 'Close marks one day closed' (01, The table); 'A closure notice leaves the second map's bit 0' (02, note 4):
-- the second map is as it was; a day outside the cover changes nothing
unfoldable pub close_day : Calendar → ℕ → Calendar
close_day cal d =
    record {
      cover = cal.cover;
      closed = cond (in_cover cal.cover d) (set_bit cal.closed (slot_of cal.cover d)) cal.closed;
      exchange = cal.exchange;
    }

-- 'clears the day in both maps' (02, note 9);
-- a day outside the cover changes nothing
unfoldable pub reopen_day : Calendar → ℕ → Calendar
reopen_day cal d =
    record {
      cover = cal.cover;
      closed = cond (in_cover cal.cover d) (clear_bit cal.closed (slot_of cal.cover d)) cal.closed;
      exchange = cond (in_cover cal.cover d) (clear_bit cal.exchange (slot_of cal.cover d)) cal.exchange;
    }

-- 26: 'is the day a closed Monday to Friday?' (02, note 9)
unfoldable pub closed_weekday : Calendar → ℕ → Bool
closed_weekday cal d = closed_on cal d && ltb (weekday_of d) 5
