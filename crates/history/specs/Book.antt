-- The book of demand 3 (01, The table, 'The book of demand 3 ..'; 02, notes 9 and 11). Nothing of it reads a table.
-- What `renumbered` and `missing` give, which the table uses too, is said without their recursion in `table_numbering` NumberingLaws.
-- Assumes nothing.
use Rattle.std.specs.Prelude.{ℕ, ◌+◌, cond, List, [], ◌∷◌, ◌++◌, map, leb, ltb, eqb, length}
use Rattle.questions.specs.Questions.{Ask, ask, first_no}
use Rattle.calendar.specs.declared.Calendar.{Calendar}
use Rattle.calendar.specs.Trading.{in_cover, trading_day, every_week, close_day, reopen_day, closed_weekday}
use Rattle.product.specs.declared.Kind.{Kind}
use Rattle.amounts.specs.Prices.{new_size, new_price}
use Rattle.table_measures.specs.Measures.{measure_asked}
use Rattle.listing.specs.declared.Maturity.{Maturity}
use Rattle.listing.specs.Rules.{front_stays}
use Rattle.table_numbering.specs.Numbering.{missing, renumbered, numbered_fresh}
use Rattle.listing.specs.Months.{rule_of, fresh_of, all_in_cover}

-- 'The list of rolls and closes', and of reopenings (02, note 9); 'A measure .. joins the calls a history may hold' (02, note 11):
-- a call with its argument, a date or a day; a measure with p, q and the old price
pub data Call : Type 0 where
  roll close reopen : ℕ → Call
  measure : ℕ → ℕ → ℕ → Call

-- 'every call's acceptance or refusal number and its two counts'; '(price 0 if refused)' (02, note 11):
-- acceptance is 0. With it the price that a measure gives; the other calls give none, 0
pub record Reply : Type 0 where
  pub refusal : ℕ
  pub entered : ℕ
  pub left : ℕ
  pub price : ℕ

-- 'It holds a calendar, a date, maturities (month, day, number), the count given and the months that left';
-- a maturity has the days stepped back too (02, note 2); and the product's size (02, note 11)
pub record Book : Type 0 where
  pub calendar : Calendar
  pub date : ℕ
  pub maturities : List Maturity
  pub given : ℕ
  pub gone : List ℕ
  pub size : ℕ

-- 'close marks the day closed'; 'the book takes a reopening like a close, with .. the day cleared in both maps' (02, note 9)
abbrev pub calendar_after : Calendar → Call → Calendar
calendar_after cal (roll date) = cal
calendar_after cal (close day) = close_day cal day
calendar_after cal (reopen day) = reopen_day cal day
calendar_after cal (measure p q price) = cal

-- 'roll sets the date'
abbrev pub date_after : ℕ → Call → ℕ
date_after date (roll later) = later
date_after date (close day) = date
date_after date (reopen day) = date
date_after date (measure p q price) = date

-- 'It starts with the fresh listing, numbered 1, 2, .. by rising month; given is its length, and no month has left';
-- 'fed the opened product's size too' (02, note 11)
unfoldable pub book_opened : Kind → List ℕ → ℕ → Calendar → ℕ → Book
book_opened kind group size cal date =
    let fresh = fresh_of cal kind group date in
    record { calendar = cal; date = date; maturities = numbered_fresh fresh; given = length fresh; gone = []; size = size }

-- 'A roll or close asks the book its questions except 10; 16 is asked with the date and calendar that the call would leave';
-- a reopening 'with its own questions except 10' (02, note 9); the book 'answers a measure as this note says, 10 left out' (02, note 11)
abbrev pub book_asks : Kind → List ℕ → Book → Call → List Ask
book_asks kind group b (roll date) =
    ask 11 (in_cover b.calendar.cover date)
    ∷ ask 12 (leb b.date date)
    ∷ ask 16 (all_in_cover b.calendar kind group date)
    ∷ []
book_asks kind group b (close day) =
    ask 11 (in_cover b.calendar.cover day)
    ∷ ask 13 (ltb b.date day)
    ∷ ask 14 (trading_day b.calendar day)
    ∷ ask 15 (every_week (close_day b.calendar day))
    ∷ ask 16 (all_in_cover (close_day b.calendar day) kind group b.date)
    ∷ []
book_asks kind group b (reopen day) =
    ask 11 (in_cover b.calendar.cover day)
    ∷ ask 13 (ltb b.date day)
    ∷ ask 26 (closed_weekday b.calendar day)
    ∷ ask 27 (front_stays (rule_of b.calendar kind group) b.calendar (reopen_day b.calendar day) b.date)
    ∷ []
book_asks kind group b (measure p q price) = measure_asked kind b.size p q price

-- 'Else the call is accepted .. The fresh listing then replaces the old.
-- A month in both keeps its number; a new one has entered and takes the next number after given, by rising month; given grows by the entered.
-- A month only in the old one joins those that left';
-- the size stays
unfoldable pub book_moved : Kind → List ℕ → Book → Calendar → ℕ → Book
book_moved kind group b cal date =
    let fresh = fresh_of cal kind group date in
    record {
      calendar = cal;
      date = date;
      maturities = renumbered b.maturities b.given fresh;
      given = b.given + length (missing fresh b.maturities);
      gone = b.gone ++ map (λ m. m.key) (missing b.maturities fresh);
      size = b.size;
    }

-- a measure 'changes only its size' (02, note 11)
unfoldable pub book_resized : Book → ℕ → Book
book_resized b size =
    record { calendar = b.calendar; date = b.date; maturities = b.maturities; given = b.given; gone = b.gone; size = size }

-- 'The call's two counts are the months that entered and that left in it'
unfoldable pub book_counts : Kind → List ℕ → Book → Calendar → ℕ → Reply
book_counts kind group b cal date =
    let fresh = fresh_of cal kind group date in
    record { refusal = 0; entered = length (missing fresh b.maturities); left = length (missing b.maturities fresh); price = 0 }

-- 'Else the call is accepted: roll sets the date, close marks the day closed';
-- a reopening is taken 'like a close, with .. the day cleared in both maps' (02, note 9);
-- a measure gives 'the size nearest to size × p / q' and 'changes only its size' (02, note 11)
abbrev pub book_accepted : Kind → List ℕ → Book → Call → Book
book_accepted kind group b (roll date) = book_moved kind group b b.calendar date
book_accepted kind group b (close day) = book_moved kind group b (close_day b.calendar day) b.date
book_accepted kind group b (reopen day) = book_moved kind group b (reopen_day b.calendar day) b.date
book_accepted kind group b (measure p q price) = book_resized b (new_size b.size p q)

-- what the book answers an accepted call; of a measure no month entered or left, and 'the price nearest to old price × old size / new size' (02, note 11)
abbrev pub accepted_reply : Kind → List ℕ → Book → Call → Reply
accepted_reply kind group b (roll date) = book_counts kind group b b.calendar date
accepted_reply kind group b (close day) = book_counts kind group b (close_day b.calendar day) b.date
accepted_reply kind group b (reopen day) = book_counts kind group b (reopen_day b.calendar day) b.date
accepted_reply kind group b (measure p q price) =
    record { refusal = 0; entered = 0; left = 0; price = new_price price b.size (new_size b.size p q) }

-- 'At a no, the book stays as it is':
-- the book after a call
unfoldable pub book_after : Kind → List ℕ → Book → Call → Book
book_after kind group b c = cond (eqb (first_no (book_asks kind group b c)) 0) (book_accepted kind group b c) b

-- at a no 'that question's number, counts 0 and 0', '(price 0 if refused)' (02, note 11):
-- what the book answers a call
unfoldable pub book_reply : Kind → List ℕ → Book → Call → Reply
book_reply kind group b c =
    cond (eqb (first_no (book_asks kind group b c)) 0)
    (accepted_reply kind group b c)
    (record { refusal = first_no (book_asks kind group b c); entered = 0; left = 0; price = 0 })

-- 'is fed .. then each call's arguments':
-- the book after a list of calls
unfoldable pub book_run : Kind → List ℕ → Book → List Call → Book
book_run kind group b [] = b
book_run kind group b (c ∷ cs) = book_run kind group (book_after kind group b c) cs

-- 'every call's acceptance or refusal number and its two counts', and the price of a measure:
-- the book's answers to a list of calls
unfoldable pub book_replies : Kind → List ℕ → Book → List Call → List Reply
book_replies kind group b [] = []
book_replies kind group b (c ∷ cs) = book_reply kind group b c ∷ book_replies kind group (book_after kind group b c) cs
