-- The table, its soundness, and the calls that open it, roll it, close a day and open it again (01, The table; Questions, in order; 02, notes 2, 3 and 9).
-- Assumes nothing.
use Rattle.std.specs.Prelude.{ℕ, ◌+◌, ◌-◌, Bool, not, ◌&&◌, cond, List, [], ◌∷◌, leb, ltb, eqb, length, get_or, take, replicate}
use Rattle.questions.specs.Questions.{Ask, ask, first_no, Answer}
use Rattle.questions.specs.Search.{every, first_from}
use Rattle.calendar.specs.declared.Calendar.{Calendar}
use Rattle.calendar.specs.Trading.{zero_calendar, valid_cover, in_cover, trading_day, clean, every_week, close_day, reopen_day, closed_weekday}
use Rattle.product.specs.declared.Product.{Product}
use Rattle.product.specs.Fields.{product_right, zero_product}
use Rattle.listing.specs.declared.Maturity.{Maturity}
use Rattle.listing.specs.Rules.{Rule, keys_before, front_stays, unused, places15}
use Rattle.listing.specs.Months.{places_of_kind, rule_of, fresh_of, all_in_cover, week_into_cover}
use Rattle.file_calendar.specs.Calendars.{calendar_of}
use Rattle.file_load.specs.Load.{product_of}
use Rattle.file_load.specs.Halves.{product_by_halves}
use Rattle.table_opening.specs.Opening.{open_asks, asks_in}
use Rattle.table.specs.declared.Table.{Table}
use Rattle.table.specs.declared.Outcome.{Outcome}
use Rattle.table_numbering.specs.Numbering.{missing, renumbered, numbered_fresh, place_right, numbers_right}

-- the listing rule of the table's product, by a calendar
abbrev pub rule_in : Table → Calendar → Rule
rule_in t cal = rule_of cal t.product.kind t.product.group

-- its fresh listing on a date
abbrev pub fresh_in : Table → Calendar → ℕ → List Maturity
fresh_in t cal date = fresh_of cal t.product.kind t.product.group date

-- whether that is 'all of it in the cover'
abbrev pub covered_in : Table → Calendar → ℕ → Bool
covered_in t cal date = all_in_cover cal t.product.kind t.product.group date

-- the maturities in the places that are used
abbrev pub listed_in : Table → List Maturity
listed_in t = take (places_of_kind t.product.kind) t.maturities

-- 'its months and days are the fresh listing .., and unused places are zero',
-- of all fifteen places; so are the days stepped back (02, note 2)
unfoldable pub lists_fresh : Table → Bool
lists_fresh t =
    every 15
    (place_right t.maturities (places15 (fresh_in t t.calendar t.date)) (places_of_kind t.product.kind))

-- of 10, what is said of the maturities
abbrev pub listing_sound : Table → Bool
listing_sound t =
    -- 'its months and days are the fresh listing, all of it in the cover, and unused places are zero'
    covered_in t t.calendar t.date
    && (lists_fresh t
    -- 'its numbers are distinct, from 1 to the count given'
    && (numbers_right t.maturities (places_of_kind t.product.kind) t.given
    -- 'given − listed is at least 0 and at most the number of cover months before the front month';
    -- 'the cover's weekly Fridays before the front one take the place of cover months' (02, note 3)
    && (leb (places_of_kind t.product.kind) t.given
    && leb (t.given - places_of_kind t.product.kind) (keys_before (rule_in t t.calendar) t.calendar t.date))))

-- 10: 'Is the table sound?'
unfoldable pub sound : Table → Bool
sound t =
    -- 'its product fields and calendar satisfy questions 5, 6 and 7, with 1 to 16 years from 2000 to 2099'
    product_right t.product
    && (valid_cover t.calendar.cover
    && (clean t.calendar
    && (every_week t.calendar
    -- 'its date is in the cover'
    && (in_cover t.calendar.cover t.date
    -- 'and the date passes 24' (02, note 3)
    && (week_into_cover t.product.kind t.calendar.cover t.date && listing_sound t)))))

-- 'satisfy questions 5, 6 .., with 1 to 16 years from 2000 to 2099':
-- of 10, what is said of the calendar
abbrev pub calendar_sound : Calendar → Bool
calendar_sound cal = valid_cover cal.cover && (clean cal && every_week cal)

-- 'Both then hold the fresh listing; a month that was there keeps its number, and months that enter take the next numbers by rising month.
-- A month left if the old table had it and the new has not':
-- what an accepted roll, close or reopening gives back, for a fresh listing
abbrev pub moved_to : Table → Calendar → ℕ → List Maturity → Outcome
moved_to t cal date fresh =
    record {
      refusal = 0;
      table = record {
        product = t.product;
        calendar = cal;
        date = date;
        maturities = places15 (renumbered (listed_in t) t.given fresh);
        given = t.given + length (missing fresh (listed_in t));
      };
      entered = length (missing fresh (listed_in t));
      left = length (missing (listed_in t) fresh);
    }

-- the same with the fresh listing of the calendar and date that the call leaves
unfoldable pub moved : Table → Calendar → ℕ → Outcome
moved t cal date = moved_to t cal date (fresh_in t cal date)

-- 'table calls return the same table and counts 0 and 0'
abbrev pub refused_with : Table → ℕ → Outcome
refused_with t number = record { refusal = number; table = t; entered = 0; left = 0 }

-- a table call: refused with the number of the first question answered no, else accepted
unfoldable pub answered : Table → List Ask → Outcome → Outcome
answered t asks accepted = cond (eqb (first_no asks) 0) accepted (refused_with t (first_no asks))

-- 'open: a table of zeros'
unfoldable pub zero_table : Table
zero_table = record { product = zero_product; calendar = zero_calendar; date = 0; maturities = replicate 15 unused; given = 0 }

-- 'Open numbers the listed months 1, 2, .. by rising month', for a fresh listing
abbrev pub opened_on : Product → Calendar → ℕ → List Maturity → Table
opened_on p cal date fresh =
    record { product = p; calendar = cal; date = date; maturities = places15 (numbered_fresh fresh); given = length fresh }

-- the table that an accepted open gives back
unfoldable pub opened_table : Product → Calendar → ℕ → Table
opened_table p cal date = opened_on p cal date (fresh_of cal p.kind p.group date)

-- 'entered is the months listed and left is 0', for a fresh listing
abbrev pub opened_with : Product → Calendar → ℕ → List Maturity → Outcome
opened_with p cal date fresh = record { refusal = 0; table = opened_on p cal date fresh; entered = length fresh; left = 0 }

-- the call that opens a table, from a file alone: what stood in the table plays no part
unfoldable pub open_call : List ℕ → List ℕ → ℕ → Outcome
open_call f id date =
    answered zero_table (open_asks f id date)
    (opened_with (product_of f id) (calendar_of f) date (fresh_of (calendar_of f) (product_of f id).kind (product_of f id).group date))

-- the call that opens a table where the verdict of questions 1 to 8 on the file is at hand; with the file's own it is `open_call`
unfoldable pub open_in : Answer Calendar → List ℕ → List ℕ → ℕ → Outcome
open_in verdict f id date =
    answered zero_table (asks_in verdict f id date)
    (opened_with (product_by_halves f id) verdict.value date (fresh_of verdict.value (product_by_halves f id).kind (product_by_halves f id).group date))

-- 'Roll: 10, 11, 12, 16'
abbrev pub roll_asks : Table → ℕ → List Ask
roll_asks t date =
    ask 10 (sound t)
    ∷ ask 11 (in_cover t.calendar.cover date)
    ∷ ask 12 (leb t.date date)
    ∷ ask 16 (covered_in t t.calendar date)
    ∷ []

-- 'Roll sets the date it is given, a later or equal one'
unfoldable pub roll_call : Table → ℕ → Outcome
roll_call t date = answered t (roll_asks t date) (moved t t.calendar date)

-- 'Close: 10, 11, 13–16'
abbrev pub close_asks : Table → ℕ → List Ask
close_asks t day =
    ask 10 (sound t)
    ∷ ask 11 (in_cover t.calendar.cover day)
    ∷ ask 13 (ltb t.date day) ∷ ask 14 (trading_day t.calendar day)
    ∷ ask 15 (every_week (close_day t.calendar day))
    ∷ ask 16 (covered_in t (close_day t.calendar day) t.date)
    ∷ []

-- 'Close marks one day closed'
unfoldable pub close_call : Table → ℕ → Outcome
close_call t day = answered t (close_asks t day) (moved t (close_day t.calendar day) t.date)

-- 'It asks 10, 11, 13, then the new questions', 26 and 27 (02, note 9)
abbrev pub reopen_asks : Table → ℕ → List Ask
reopen_asks t day =
    ask 10 (sound t)
    ∷ ask 11 (in_cover t.calendar.cover day)
    ∷ ask 13 (ltb t.date day) ∷ ask 26 (closed_weekday t.calendar day)
    ∷ ask 27 (front_stays (rule_in t t.calendar) t.calendar (reopen_day t.calendar day) t.date)
    ∷ []

-- 'The exchange withdraws a closure. Add reopening of a day to the calls on a table' (02, note 9)
unfoldable pub reopen_call : Table → ℕ → Outcome
reopen_call t day = answered t (reopen_asks t day) (moved t (reopen_day t.calendar day) t.date)

-- only the code needs it: the same table with a calendar and a date, no month entered or left
abbrev pub kept_in : Table → Calendar → ℕ → Outcome
kept_in t cal date =
    record {
      refusal = 0;
      table = record { product = t.product; calendar = cal; date = date; maturities = t.maturities; given = t.given };
      entered = 0;
      left = 0;
    }

-- only the code needs these: how many days before a day the nearest trading day lies, 7 where none of the six days before it is one
unfoldable pub steps_back : Calendar → ℕ → ℕ
steps_back cal day = first_from (λ n. leb n day && trading_day cal (day - n)) 7 6 1

-- the same of the days after it; 7 of a day after 2099
unfoldable pub steps_on : Calendar → ℕ → ℕ
steps_on cal day = cond (leb 36525 day) 7 (first_from (λ n. trading_day cal (day + n)) 7 6 1)

-- the two trading days lie at most seven days apart
unfoldable pub trades_around : Calendar → ℕ → Bool
trades_around cal day = leb (steps_back cal day + steps_on cal day) 7

-- no maturity in the fifteen places ends on a day
unfoldable pub none_ends_on : List Maturity → ℕ → Bool
none_ends_on ms day = every 15 (λ i. not (eqb (get_or ms i unused).day day))
