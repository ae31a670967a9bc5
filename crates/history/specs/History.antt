-- Demand 3: one claim about every list of rolls, closes, reopenings and measures on a table that an accepted open gave back
-- (01, The table; the sentences that do not stand there are the demand's own).
-- For a weekly product 'demand 3 and its book read with Fridays for months' (02, note 3): a month m is there the day number of a Friday.
-- Assumes nothing.
use Rattle.std.specs.Prelude.{ℕ, suc, ◌+◌, ◌≤◌, ◌<◌, ◌≡◌, Bool, true, false, cond, ◌&&◌, List, [], ◌∷◌, ◌++◌, ◌↔◌, eqb, length, get_or}
use Rattle.questions.specs.Search.{one_of}
use Rattle.calendar.specs.declared.Calendar.{Calendar}
use Rattle.calendar.specs.Trading.{valid_cover, in_cover, clean, every_week}
use Rattle.product.specs.declared.Product.{Product}
use Rattle.product.specs.Fields.{product_right, is_weekly}
use Rattle.listing.specs.Rules.{places15}
use Rattle.expiry.specs.LastDays.{last_trading_day}
use Rattle.table.specs.declared.Table.{Table}
use Rattle.table.specs.declared.Outcome.{Outcome}
use Rattle.table_numbering.specs.Numbering.{is_listed, number_of, unnumbered}
use Rattle.listing.specs.Months.{fresh_of, all_in_cover, keys_of, week_into_cover}
use Rattle.file_calendar.specs.Calendars.{calendar_of}
use Rattle.file_load.specs.Load.{product_of}
use Rattle.table.specs.Table.{listed_in, sound, roll_call, close_call, reopen_call, opened_table, open_call}
use Rattle.table_measures.specs.declared.Measured.{Measured}
use Rattle.table_measures.specs.Measures.{with_size, measure_call}
use Rattle.history.specs.declared.Called.{Called}
use Rattle.history.specs.Book.{Call, roll, close, reopen, measure, Reply, Book, calendar_after, date_after, book_opened, book_run, book_replies}

-- a roll, close or reopening gives no price
abbrev pub unpriced : Outcome → Called
unpriced o = record { refusal = o.refusal; table = o.table; entered = o.entered; left = o.left; price = 0 }

-- 'A measure changes no month' (02, note 11):
-- its counts are 0 and 0 by this definition
abbrev pub uncounted : Measured → Called
uncounted m = record { refusal = m.refusal; table = m.table; entered = 0; left = 0; price = m.price }

-- 'the table .. rolls and closes a day', and 'reopening of a day' (02, note 9); a measure 'joins the calls a history may hold' (02, note 11):
-- a call on a table
abbrev pub table_call : Table → Call → Called
table_call t (roll date) = unpriced (roll_call t date)
table_call t (close day) = unpriced (close_call t day)
table_call t (reopen day) = unpriced (reopen_call t day)
table_call t (measure p q price) = uncounted (measure_call t p q price)

-- 'nothing else changes the table between its calls':
-- the table after a list of calls
unfoldable pub table_run : Table → List Call → Table
table_run t [] = t
table_run t (c ∷ cs) = table_run (table_call t c).table cs

-- a call's 'acceptance or refusal number and its two counts', and the price of a measure
abbrev pub reply_of : Called → Reply
reply_of o = record { refusal = o.refusal; entered = o.entered; left = o.left; price = o.price }

-- 'every call's acceptance or refusal number and its two counts', and the price of a measure
unfoldable pub table_replies : Table → List Call → List Reply
table_replies t [] = []
table_replies t (c ∷ cs) = reply_of (table_call t c) ∷ table_replies (table_call t c).table cs

-- 'the file's calendar with the accepted closures', and reopenings: 'the calendar as it then is' (02, note 9)
unfoldable pub calendar_of_calls : Calendar → List Call → List Reply → Calendar
calendar_of_calls cal [] rs = cal
calendar_of_calls cal (c ∷ cs) [] = cal
calendar_of_calls cal (c ∷ cs) (r ∷ rs) = calendar_of_calls (cond (eqb r.refusal 0) (calendar_after cal c) cal) cs rs

-- 'the date of the last accepted roll (or the opening)'
unfoldable pub date_of_calls : ℕ → List Call → List Reply → ℕ
date_of_calls date [] rs = date
date_of_calls date (c ∷ cs) [] = date
date_of_calls date (c ∷ cs) (r ∷ rs) = date_of_calls (cond (eqb r.refusal 0) (date_after date c) date) cs rs

-- what an accepted open leaves: 7 holds of the product, with any size that a table may have,
-- the cover has '1 to 16 years from 2000 to 2099', and 5, 6, 11, 24 and 16 are answered yes
unfoldable pub opens : Product → Calendar → ℕ → Bool
opens p cal date =
    product_right p
    && (valid_cover cal.cover
    && (clean cal
    && (every_week cal
    && (in_cover cal.cover date && (week_into_cover p.kind cal.cover date && all_in_cover cal p.kind p.group date)))))

module _ (p : Product) (cal : Calendar) (date : ℕ) where
  -- the table after a list of calls that 'starts from the table that an accepted open gave back'
  abbrev pub after : List Call → Table
  after cs = table_run (opened_table p cal date) cs

  -- the book after the same calls
  abbrev pub book : List Call → Book
  book cs = book_run p.kind p.group (book_opened p.kind p.group p.size cal date) cs

  -- the table's answers to the calls, and the book's
  abbrev pub answers : List Call → List Reply
  answers cs = table_replies (opened_table p cal date) cs

  abbrev pub book_answers : List Call → List Reply
  book_answers cs = book_replies p.kind p.group (book_opened p.kind p.group p.size cal date) cs

  -- 'the file's calendar with the accepted closures' and reopenings
  abbrev pub calendar_then : List Call → Calendar
  calendar_then cs = calendar_of_calls cal cs (answers cs)

  -- 'the date of the last accepted roll (or the opening)'
  abbrev pub date_then : List Call → ℕ
  date_then cs = date_of_calls date cs (answers cs)

  -- a month is listed after some calls
  abbrev pub listed_then : List Call → ℕ → Bool
  listed_then cs m = is_listed (listed_in (after cs)) m

  -- its listing number then; 0 where it is not listed
  abbrev pub number_then : List Call → ℕ → ℕ
  number_then cs m = number_of (listed_in (after cs)) m

  -- a month was listed after some beginning of the list of calls
  pub record WasListed (cs : List Call) (m : ℕ) : Type 0 where
    pub beginning : List Call
    pub rest : List Call
    pub whole : cs ≡ beginning ++ rest
    pub listed : listed_then beginning m ≡ true

  -- the table after one call more
  abbrev pub next : List Call → Call → Table
  next cs c = (table_call (after cs) c).table

  -- 'Demand 3 is a single claim about the list':
  -- at the moment after the calls cs, at any later moment after cs ++ ds, and for one more call
  pub record Demand3 (cs ds : List Call) : Type 0 where
    -- 'After it, the table's calendar, date, maturities (month, day, number) and count given are the book's',
    -- and so are the days stepped back
    pub book-calendar : (after cs).calendar ≡ (book cs).calendar
    pub book-date : (after cs).date ≡ (book cs).date
    pub book-maturities : (after cs).maturities ≡ places15 (book cs).maturities
    pub book-listed : listed_in (after cs) ≡ (book cs).maturities
    pub book-given : (after cs).given ≡ (book cs).given
    -- 'the table's size after the list is the book's' (02, note 11):
    -- the product is the opened one but for its size
    pub product : (after cs).product ≡ with_size p (book cs).size
    -- 'so are every call's acceptance or refusal number and its two counts';
    -- and the price: the book 'answers a measure as this note says' (02, note 11)
    pub replies : answers cs ≡ book_answers cs
    -- 'months and last trading days equal a listing made afresh from the opened product, the file's calendar with the accepted closures,
    -- and the date of the last accepted roll (or the opening)'; 'with the product as changed' (02, note 11):
    -- the days stepped back too (02, note 2); the product's kind and group are the opened one's
    pub calendar-is : (after cs).calendar ≡ calendar_then cs
    pub date-is : (after cs).date ≡ date_then cs
    pub fresh : unnumbered (listed_in (after cs)) ≡ fresh_of (calendar_then cs) p.kind p.group (date_then cs)
    -- 'From the opening on no listing number stood for two months'
    pub one-month : (m m' n : ℕ) → number_then cs m ≡ suc n → number_then (cs ++ ds) m' ≡ suc n → m ≡ m'
    -- 'no month had two'
    pub one_number : (m n n' : ℕ) → number_then cs m ≡ suc n → number_then (cs ++ ds) m ≡ suc n' → n ≡ n'
    -- every listed month has a number
    pub numbered : (m : ℕ) → listed_then cs m ≡ true → 1 ≤ number_then cs m
    -- 'none that left came back'
    pub for-good : (m : ℕ) → one_of (book cs).gone m ≡ true → listed_then (cs ++ ds) m ≡ false
    -- the same of the table alone: a month that was listed at some moment and is not at a later one is not listed again
    pub never_back : (m : ℕ) (es : List Call) → listed_then cs m ≡ true → listed_then (cs ++ ds) m ≡ false → listed_then ((cs ++ ds) ++ es) m ≡ false
    -- 'A month only in the old one joins those that left':
    -- every month that was listed and is not any more is among them
    pub in-gone : (m : ℕ) → listed_then cs m ≡ true → listed_then (cs ++ ds) m ≡ false → one_of (book (cs ++ ds)).gone m ≡ true
    -- and no other: every month among them was listed after some beginning of the list of calls
    pub was-listed : (m : ℕ) → one_of (book cs).gone m ≡ true → WasListed cs m
    -- none is among them twice
    pub gone-once : (i j : ℕ) → i < j → j < length (book cs).gone → get_or (book cs).gone i 0 ≡ get_or (book cs).gone j 0 → ⊥
    -- 'A call took a listed month off exactly when its last trading day, as the calendar stands after the call, is before the date the table then has'
    pub off : (c : Call) (m : ℕ) → listed_then cs m ≡ true
        → (is_listed (listed_in (next cs c)) m ≡ false) ↔ (last_trading_day (next cs c).calendar p.kind p.group m < (next cs c).date)
    -- 'Numbers given = months listed + months that left'
    pub sum : (after cs).given ≡ length (listed_in (after cs)) + length (book cs).gone
    -- the table is sound
    pub stays-sound : sound (after cs) ≡ true
    -- no listing number passes the number of the cover's months, or of its weekly Fridays
    pub number-most : (m : ℕ) → number_then cs m ≤ keys_of cal.cover p.kind
    -- nor does the count of numbers given
    pub given-most : (after cs).given ≤ keys_of cal.cover p.kind
    -- 'the listing number of a month never passes 192';
    -- a cover may have more weekly Fridays
    pub number-below-193 : is_weekly p.kind ≡ false → (m : ℕ) → number_then cs m ≤ 192
    -- nor does the count of numbers given
    pub below-193 : is_weekly p.kind ≡ false → (after cs).given ≤ 192

-- 'The list of rolls and closes', with reopenings (02, note 9) and measures (02, note 11) among them,
-- 'starts from the table that an accepted open gave back':
-- what demand 3 says of every file, id and date with an accepted open, and every list of calls
pub record FromFile (f id : List ℕ) (date : ℕ) (cs ds : List Call) : Type 0 where
  pub opened : (open_call f id date).table ≡ opened_table (product_of f id) (calendar_of f) date
  pub demand : Demand3 (product_of f id) (calendar_of f) date cs ds
