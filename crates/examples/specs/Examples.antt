-- The worked examples marked P, as one table of tests (01, March 2008 and its neighbours),
-- and our own for document 02: months of futures of 2005 (note 1), days stepped back (note 2), weekly options (note 3),
-- sizes, prices and cash with ten-thousandths of a share (note 11).
-- Assumes nothing.
use Rattle.std.specs.Prelude.{ℕ, Bool, true, false, not, ◌&&◌, List, [], ◌∷◌, map, eqb, replicate}
use Rattle.questions.specs.Questions.{Answer}
use Rattle.days.specs.Gregorian.{weekday_of, month_number}
use Rattle.days.specs.Dates.{day_call, day_of}
use Rattle.calendar.specs.declared.Cover.{Cover}
use Rattle.calendar.specs.declared.Calendar.{Calendar}
use Rattle.calendar.specs.Trading.{close_day}
use Rattle.product.specs.declared.Kind.TheVariants.{Future, Option}
use Rattle.product.specs.declared.ListingText.TheVariants.{Of2008, Of2005}
use Rattle.product.specs.declared.Term.TheVariants.{Months12, Weeks5}
use Rattle.product.specs.declared.Product.{Product}
use Rattle.product.specs.Fields.{EUR}
use Rattle.product.specs.Settlement.{IT, group_code}
use Rattle.amounts.specs.declared.Amount.{Amount}
use Rattle.amounts.specs.Prices.{new_size, new_price, measure_right, cash_of}
use Rattle.listing.specs.Rules.{fresh_keys}
use Rattle.expiry.specs.LastDays.{third_friday, last_trading_day, worked_out}
use Rattle.listing.specs.Months.{rule_of, week_into_cover}
use Rattle.table.specs.declared.Table.{Table}
use Rattle.table.specs.declared.Outcome.{Outcome}
use Rattle.table.specs.Table.{listed_in, opened_table, roll_call}
use Rattle.table_prices.specs.TablePrices.{tick_call, cash_call}

-- a call's refusal and value
abbrev pub answered_with : Answer ℕ → ℕ → ℕ → Bool
answered_with a refusal value = eqb a.refusal refusal && eqb a.value value

-- the same numbers in the same order
abbrev pub same_list : List ℕ → List ℕ → Bool
same_list [] [] = true
same_list [] (y ∷ ys) = false
same_list (x ∷ xs) [] = false
same_list (x ∷ xs) (y ∷ ys) = eqb x y && same_list xs ys

-- a positive amount, or zero: the amount and the rest
abbrev pub is_positive : Amount → ℕ → ℕ → Bool
is_positive a amount rest = not a.negative && (eqb a.amount amount && eqb a.rest rest)

-- a negative one
abbrev pub is_negative : Amount → ℕ → ℕ → Bool
is_negative a amount rest = a.negative && (eqb a.amount amount && eqb a.rest rest)

-- a call that is accepted, with a positive amount and rest 0
abbrev pub pays : Answer Amount → ℕ → Bool
pays a amount = eqb a.refusal 0 && is_positive a.value amount 0

-- the group FR11
abbrev pub FR11 : List ℕ
FR11 = group_code (70 ∷ 82 ∷ []) 11

-- the group FR01
abbrev pub FR01 : List ℕ
FR01 = group_code (70 ∷ 82 ∷ []) 1

-- the group IT11
abbrev pub IT11 : List ℕ
IT11 = group_code IT 11

-- 2008 to 2010 with no closed day
abbrev pub open2008 : Calendar
open2008 = record { cover = record { first_year = 2008; years = 3 }; closed = replicate 736 0; exchange = replicate 736 0 }

-- 'With only 21 March 2008 closed'
unfoldable pub only21 : Calendar
only21 = close_day open2008 (day_of 2008 3 21)

-- 'With 20 March closed too'
unfoldable pub also20 : Calendar
also20 = close_day only21 (day_of 2008 3 20)

-- with only Friday 1 May 2009 closed
unfoldable pub may_day : Calendar
may_day = close_day open2008 (day_of 2009 5 1)

-- 'kind 1 of FR11',
-- on a date
unfoldable pub months_on : ℕ → List ℕ
months_on date = fresh_keys (rule_of only21 (Option Months12) FR11) only21 date

-- 'kind 4, a future of 2005' (02, note 1),
-- of FR01, on a date
unfoldable pub futures_on : ℕ → List ℕ
futures_on date = fresh_keys (rule_of only21 (Future Of2005) FR01) only21 date

-- a future of 100 shares with tick 5
unfoldable pub axa_future : Product
axa_future =
    record {
      id = 65 ∷ 88 ∷ 65 ∷ 70 ∷ [];
      group = FR01;
      market = 88 ∷ 80 ∷ 65 ∷ 82 ∷ [];
      kind = Future Of2008;
      size = 1000000;
      tick = 5;
      currency = EUR;
    }

-- its table, opened on 2 January 2008
unfoldable pub future_table : Table
future_table = opened_table axa_future open2008 (day_of 2008 1 2)

-- kind 5 (02, note 3) of a group, on a date
unfoldable pub fridays_on : List ℕ → ℕ → List ℕ
fridays_on group date = fresh_keys (rule_of only21 (Option Weeks5) group) only21 date

-- an option of kind 5
unfoldable pub axa_weekly : Product
axa_weekly =
    record {
      id = 65 ∷ 88 ∷ 65 ∷ 87 ∷ [];
      group = FR11;
      market = 88 ∷ 80 ∷ 65 ∷ 82 ∷ [];
      kind = Option Weeks5;
      size = 1000000;
      tick = 5;
      currency = EUR;
    }

-- its table, opened on 17 March 2008 and rolled to 29 March
unfoldable pub weekly_rolled : Outcome
weekly_rolled = roll_call (opened_table axa_weekly only21 (day_of 2008 3 17)) (day_of 2008 3 29)

-- a cover from 2010, which begins on a Friday
abbrev pub cover2010 : Cover
cover2010 = record { first_year = 2010; years = 1 }

-- the rows, each under its sentence
unfoldable pub rows : List Bool
rows =
    -- '21 March 2008 is day 3,002, a Friday'
    answered_with (day_call 2008 3 21) 0 3002 ∷ eqb (weekday_of 3002) 4 ∷
    -- '1 January 2008 is 2,922'
    answered_with (day_call 2008 1 1) 0 2922 ∷
    -- '29 February 2000 is 59; 29 February 2001: 23'
    answered_with (day_call 2000 2 29) 0 59 ∷ answered_with (day_call 2001 2 29) 23 0 ∷
    -- 'With only 21 March 2008 closed, March 2008 ends on 20 March for FR11 and for IT11'
    eqb (last_trading_day only21 (Option Months12) FR11 (month_number 2008 3)) (day_of 2008 3 20) ∷
    eqb (last_trading_day only21 (Option Months12) IT11 (month_number 2008 3)) (day_of 2008 3 20) ∷
    -- 'With 20 March closed too: 19 March for both'
    eqb (last_trading_day also20 (Option Months12) FR11 (month_number 2008 3)) (day_of 2008 3 19) ∷
    eqb (last_trading_day also20 (Option Months12) IT11 (month_number 2008 3)) (day_of 2008 3 19) ∷
    -- 'March 2008 in the example shows 1 for FR11' (02, note 2),
    -- and 0 for IT11
    eqb (worked_out only21 (Option Months12) FR11 (month_number 2008 3)).back 1 ∷
    eqb (worked_out only21 (Option Months12) IT11 (month_number 2008 3)).back 0 ∷
    -- with 20 March closed too 2 and 1
    eqb (worked_out also20 (Option Months12) FR11 (month_number 2008 3)).back 2 ∷
    eqb (worked_out also20 (Option Months12) IT11 (month_number 2008 3)).back 1 ∷
    -- 'A third Friday on the 15th (August 2008) and on the 21st (March 2008)'
    eqb (third_friday (month_number 2008 8)) (day_of 2008 8 15) ∷
    eqb (third_friday (month_number 2008 3)) (day_of 2008 3 21) ∷
    -- 'With only 21 March closed, kind 1 of FR11 on 20 March 2008: Mar, Apr, May, Jun, Sep, Dec'
    same_list (months_on (day_of 2008 3 20))
    (month_number 2008 3 ∷ month_number 2008 4 ∷ month_number 2008 5 ∷ month_number 2008 6 ∷ month_number 2008 9 ∷ month_number 2008 12 ∷ []) ∷
    -- 'on 21 March: Apr, May, Jun, Sep, Dec, Mar 2009'
    same_list (months_on (day_of 2008 3 21))
    (month_number 2008 4 ∷ month_number 2008 5 ∷ month_number 2008 6 ∷ month_number 2008 9 ∷ month_number 2008 12 ∷ month_number 2009 3 ∷ []) ∷
    -- 02, note 1, with only 21 March closed: on 20 March 2008 Mar, Apr, May, Jun, Jul, Sep, Dec
    same_list (futures_on (day_of 2008 3 20))
    (month_number 2008 3 ∷ month_number 2008 4 ∷ month_number 2008 5 ∷ month_number 2008 6 ∷ month_number 2008 7 ∷ month_number 2008 9 ∷ month_number 2008 12 ∷ []) ∷
    -- on 21 March: Apr, May, Jun, Jul, Sep, Dec, Mar 2009
    same_list (futures_on (day_of 2008 3 21))
    (month_number 2008 4 ∷ month_number 2008 5 ∷ month_number 2008 6 ∷ month_number 2008 7 ∷ month_number 2008 9 ∷ month_number 2008 12 ∷ month_number 2009 3 ∷ []) ∷
    -- on 19 July 2008: Sep, Dec, and of 2009 Mar, Apr, May, Jun, Jul
    same_list (futures_on (day_of 2008 7 19))
    (month_number 2008 9 ∷ month_number 2008 12 ∷ month_number 2009 3 ∷ month_number 2009 4 ∷ month_number 2009 5 ∷ month_number 2009 6 ∷ month_number 2009 7 ∷ []) ∷
    -- weekly options (02, note 3), with only 21 March closed: a table of 17 March 2008 lists the Fridays 28 March, 4, 11 and 25 April, for FR11 and IT11 alike
    same_list (fridays_on FR11 (day_of 2008 3 17)) (day_of 2008 3 28 ∷ day_of 2008 4 4 ∷ day_of 2008 4 11 ∷ day_of 2008 4 25 ∷ []) ∷
    same_list (fridays_on IT11 (day_of 2008 3 17)) (day_of 2008 3 28 ∷ day_of 2008 4 4 ∷ day_of 2008 4 11 ∷ day_of 2008 4 25 ∷ []) ∷
    -- 'The Italian rule takes no part in them':
    -- on Friday 28 March itself IT11 still lists it
    same_list (fridays_on IT11 (day_of 2008 3 28)) (day_of 2008 3 28 ∷ day_of 2008 4 4 ∷ day_of 2008 4 11 ∷ day_of 2008 4 25 ∷ []) ∷
    -- 'each taken back to the latest trading day at or before it':
    -- Friday 1 May 2009, closed, ends on Thursday 30 April, one day back
    eqb (worked_out may_day (Option Weeks5) IT11 (day_of 2009 5 1)).day (day_of 2009 4 30) ∷
    eqb (worked_out may_day (Option Weeks5) IT11 (day_of 2009 5 1)).back 1 ∷
    -- rolled to 29 March the table lists 4, 11, 25 April and 2 May, which has number 5
    eqb weekly_rolled.refusal 0 ∷
    same_list (map (λ m. m.key) (listed_in weekly_rolled.table)) (day_of 2008 4 4 ∷ day_of 2008 4 11 ∷ day_of 2008 4 25 ∷ day_of 2008 5 2 ∷ []) ∷
    same_list (map (λ m. m.number) (listed_in weekly_rolled.table)) (2 ∷ 3 ∷ 4 ∷ 5 ∷ []) ∷
    -- '24 .. is the date at least seven days after the cover's first day?':
    -- in a cover from 2010 not 7 January, but 8 January
    not (week_into_cover (Option Weeks5) cover2010 (day_of 2010 1 7)) ∷
    week_into_cover (Option Weeks5) cover2010 (day_of 2010 1 8) ∷
    -- 'in opening kind 5':
    -- of kind 1 it is not asked
    week_into_cover (Option Months12) cover2010 (day_of 2010 1 1) ∷
    -- '3 contracts of 100, agreed 12.3400, final 12.5000: +480,000'; 'whole sizes give the old amount and rest 0' (02, note 11)
    pays (cash_call future_table 3 123400 125000) 480000 ∷
    -- 02, note 11: 100 shares at 12.3400, 3 for 2: 150 shares at 8.2267, upward from 8.22666..
    eqb (new_size 1000000 3 2) 1500000 ∷ eqb (new_price 123400 1000000 1500000) 82267 ∷
    -- 100 shares at 10.0000, 1 for 3: 33.3333 shares at 30.0000
    eqb (new_size 1000000 1 3) 333333 ∷ eqb (new_price 100000 1000000 333333) 300000 ∷
    -- 'halves upward':
    -- one ten-thousandth, 1 for 2, stays; 1 for 3 is 0, which 29 refuses
    eqb (new_size 1 1 2) 1 ∷ eqb (new_size 1 1 3) 0 ∷ measure_right 1 1 2 100 ∷ not (measure_right 1 1 3 100) ∷
    -- 65,535.9999 shares, 1 for 1, pass 29, and not 2 for 1; neither does a price above 99,999.9999
    measure_right 655359999 1 1 100 ∷ not (measure_right 655359999 2 1 100) ∷ not (measure_right 10000 1 2 999999999) ∷
    -- one contract of 33.3333 shares, agreed 0.0100, final 0.0101: +33 rest 3,333
    is_positive (cash_of 1 333333 100 101) 33 3333 ∷
    -- 'the sign covering both, zero being positive':
    -- of one ten-thousandth, from 0.0001 to 0 a negative amount of 0, rest 1; equal prices a positive 0
    is_negative (cash_of 1 1 1 0) 0 1 ∷ is_positive (cash_of 1 1 100 100) 0 0 ∷
    -- 100,000 contracts of 65,535.9999 shares, agreed 0.0001, final 99,999.9999: 6,553,599,976,892,800,020 rest 0
    is_positive (cash_of 100000 655359999 1 999999999) 6553599976892800020 0 ∷
    -- 'Price 5 with tick 5 passes, 6 gets 20'
    eqb (tick_call future_table 5) 0 ∷ eqb (tick_call future_table 6) 20 ∷
    []

-- every row of a table holds
abbrev pub all_hold : List Bool → Bool
all_hold [] = true
all_hold (row ∷ rest) = row && all_hold rest
