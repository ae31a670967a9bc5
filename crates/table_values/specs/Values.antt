-- Calls that return days and leave the table as it is (01, Due day, tick, cash; Questions, in order; 02, notes 2 to 5).
-- Assumes nothing.
use Rattle.std.specs.Prelude.{ℕ, ◌≡◌, true, false, List, [], ◌∷◌}
use Rattle.questions.specs.Questions.{Ask, ask, first_no, Answer, answer}
use Rattle.calendar.specs.Bits.{bit_at}
use Rattle.calendar.specs.Trading.{in_cover, trading_day, nth_trading_day, nth_exchange_day}
use Rattle.product.specs.Settlement.{settlement_days}
use Rattle.expiry.specs.declared.LastDay.{LastDay}
use Rattle.expiry.specs.LastDays.{worked_out}
use Rattle.table.specs.declared.Table.{Table}
use Rattle.table_values.specs.declared.DayReply.{DayReply}
use Rattle.table_values.specs.declared.LastDayReply.{LastDayReply}
use Rattle.table_numbering.specs.Numbering.{is_listed}
use Rattle.table.specs.Table.{listed_in, sound}

-- 'returns the number of the first answered no',
-- and the value, of a reply with a day
abbrev pub day_reply : DayReply → Answer ℕ
day_reply r = record { refusal = r.refusal; value = r.day }

-- 'With it: .. other calls return zero values', of a reply with a day
abbrev pub no_day : ℕ → Answer ℕ
no_day number = record { refusal = number; value = 0 }

-- 'returns the number of the first answered no',
-- and the value, of a reply with a last trading day and the days stepped back (02, note 2)
abbrev pub last_day_reply : LastDayReply → Answer LastDay
last_day_reply r = record { refusal = r.refusal; value = record { day = r.day; back = r.back } }

-- 'With it: .. other calls return zero values', of that reply
abbrev pub no_last_day : ℕ → Answer LastDay
no_last_day number = record { refusal = number; value = record { day = 0; back = 0 } }

-- 'Last trading day of a listed month: 10, 18'; 18 reads 'with Fridays' on weekly tables (02, note 3):
-- the key is a month's number, on a weekly table the day number of a Friday
abbrev pub last_day_asks : Table → ℕ → List Ask
last_day_asks t key = ask 10 (sound t) ∷ ask 18 (is_listed (listed_in t) key) ∷ []

-- 'Last trading day of a listed month', with the days stepped back (02, note 2); 'With it: .. other calls return zero values'
unfoldable pub last_day_call : Table → ℕ → Answer LastDay
last_day_call t key = answer (last_day_asks t key) (record { day = 0; back = 0 }) (worked_out t.calendar t.product.kind t.product.group key)

-- 'Due day: the n-th trading day after ..', as changed by 'Due days count trading days and these days' (02, note 4)
-- and 'Due now counts from any day ..: the first counted day is the first exchange day after it' (02, note 5):
-- the n-th exchange day after a day of any kind; 36,525 where too few are left in the cover; that the day is 'in the cover' is 11
unfoldable pub due_day : Table → ℕ → ℕ
due_day t day = nth_exchange_day t.calendar (settlement_days t.product.kind t.product.group) day

-- 'Due: 10, 11, 14, 17' without 14: 'due no longer gives 14. Question 17 can still refuse near the cover's end' (02, note 5);
-- 'question 17 reads with exchange days' (02, note 4)
unfoldable pub due_asks : Table → ℕ → List Ask
due_asks t day =
    ask 10 (sound t)
    ∷ ask 11 (in_cover t.calendar.cover day)
    ∷ ask 17 (in_cover t.calendar.cover (due_day t day))
    ∷ []

-- 'Due: 10, 11, 14, 17' (01, Questions),
-- what due asked before note 5, with the due day of that time; only the claims that compare due with what it answered before need it
unfoldable pub due_asks_before : Table → ℕ → ℕ → List Ask
due_asks_before t day due =
    ask 10 (sound t)
    ∷ ask 11 (in_cover t.calendar.cover day)
    ∷ ask 14 (trading_day t.calendar day)
    ∷ ask 17 (in_cover t.calendar.cover due)
    ∷ []

-- 'Due day: the n-th trading day after a given trading day' (01, Due day, tick, cash), as it was before note 4
unfoldable pub old_due_day : Table → ℕ → ℕ
old_due_day t day = nth_trading_day t.calendar (settlement_days t.product.kind t.product.group) day

-- 'With it: .. other calls return zero values':
-- the due day of a day of the cover
unfoldable pub due_call : Table → ℕ → Answer ℕ
due_call t day = answer (due_asks t day) 0 (due_day t day)

-- 'whose second map is zero' (02, note 4), of a table
abbrev pub ZeroSecond : Table → Type 0
ZeroSecond t = (s : ℕ) → bit_at t.calendar.exchange s ≡ false

-- 'An old file, whose second map is zero, yields its old due days' (02, note 4), of a table
pub record OldDueDays (t : Table) : Type 0 where
  pub days : ZeroSecond t → (day : ℕ) → due_day t day ≡ old_due_day t day
  -- where due answered with that day, it still does
  pub answers : ZeroSecond t → (day : ℕ) → first_no (due_asks_before t day (old_due_day t day)) ≡ 0 → due_call t day ≡ record { refusal = 0; value = old_due_day t day }

-- what note 5 says of due. Before it due counted exchange days already (note 4), so the due day was `due_day` then too; what changed is the questions
pub record DueKept (t : Table) (day : ℕ) : Type 0 where
  -- 'Days that were answered before keep their due day'
  pub kept : first_no (due_asks_before t day (due_day t day)) ≡ 0 → due_call t day ≡ record { refusal = 0; value = due_day t day }
  -- a trading day keeps its answer, refusal or day
  pub as_before : trading_day t.calendar day ≡ true → due_call t day ≡ answer (due_asks_before t day (due_day t day)) 0 (due_day t day)
  -- 'and due no longer gives 14'
  pub never-14 : (due_call t day).refusal ≡ 14 → ⊥
