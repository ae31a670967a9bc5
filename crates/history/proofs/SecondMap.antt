-- The second map through a history: no call puts a day into it, so tables of an old file keep their old due days (02, note 4).
-- Assumes nothing.
use mathlib.Core.Path.{◌≡◌, sym, ◌∙◌, ap}
use mathlib.Core.Bool.{Bool, true, false, cond}
use mathlib.Core.List.{List, [], ◌∷◌}
use Prim.Native.Nat.{ℕ}
use lib.Dec.{eqb}
use Rattle.questions.proofs.Bools.{clash, is_false}
use Rattle.calendar.specs.declared.Calendar.{Calendar}
use Rattle.calendar.specs.Bits.{bit_at}
use Rattle.calendar.proofs.Closing.{close-exchange}
use Rattle.calendar.proofs.Reopening.{exchange-bits}
use Rattle.product.specs.declared.Product.{Product}
use Rattle.file_calendar.specs.Calendars.{calendar_of, old_file}
use Rattle.file_calendar.proofs.CalendarBlocks.{ordered, old-bits}
use Rattle.file_load.specs.Load.{product_of}
use Rattle.file_load.proofs.LoadAnswers.{all_yes}
use Rattle.table.specs.declared.Table.{Table}
use Rattle.table.specs.Table.{open_call, opened_table}
use Rattle.table.proofs.Opens.{accepted-from}
use Rattle.table_values.specs.Values.{ZeroSecond}
use Rattle.table_values.proofs.Before.{old-due}
use Rattle.history.specs.Book.{Call, roll, close, reopen, measure, Reply, calendar_after}
use Rattle.history.specs.History.{table_run, table_replies, calendar_of_calls, Demand3}
use Rattle.history.specs.OldFiles.{OldFileDues}
use Rattle.history.proofs.FromFile.{from-file}

-- a day that is in the second map after a call was there before it
pub exchange-after : (cal : Calendar) (c : Call) (s : ℕ) → bit_at (calendar_after cal c).exchange s ≡ true → bit_at cal.exchange s ≡ true
exchange-after cal (roll date) s t = t
exchange-after cal (close day) s t = rw (close-exchange cal day) at t
exchange-after cal (reopen day) s t = exchange-bits cal day s t
exchange-after cal (measure p q price) s t = t

exchange-of-calls : (cal : Calendar) (cs : List Call) (rs : List Reply) (s : ℕ) → bit_at (calendar_of_calls cal cs rs).exchange s ≡ true
    → bit_at cal.exchange s ≡ true
unfolding calendar_of_calls
exchange-of-calls cal [] rs s t = t
exchange-of-calls cal (c ∷ cs) [] s t = t
exchange-of-calls cal (c ∷ cs) (r ∷ rs) s t = go (eqb r.refusal 0) (exchange-of-calls (cond (eqb r.refusal 0) (calendar_after cal c) cal) cs rs s t)
  where
    go : (b : Bool) → bit_at (cond b (calendar_after cal c) cal).exchange s ≡ true → bit_at cal.exchange s ≡ true
    go true t = exchange-after cal c s t
    go false t = t

module _ (p : Product) (cal : Calendar) (date : ℕ) (cs ds : List Call) (h : Demand3 p cal date cs ds) where
  -- no day comes into the table's second map
  pub exchange-stays : (s : ℕ) → bit_at (table_run (opened_table p cal date) cs).calendar.exchange s ≡ true → bit_at cal.exchange s ≡ true
  exchange-stays s t = exchange-of-calls cal cs (table_replies (opened_table p cal date) cs) s
      (ap (λ (c : Calendar). bit_at c.exchange s) (sym h.calendar-is) ∙ t)

-- an old file: every table opened from it, after any list of calls
module _ (f id : List ℕ) (date : ℕ) where
  old-bits-stay : old_file f ≡ true → (open_call f id date).refusal ≡ 0 → (cs : List Call) → ZeroSecond (table_run (open_call f id date).table cs)
  old-bits-stay old e cs s =
      let h = from-file f id date e cs [] in
      let o = ordered f (all_yes f (accepted-from f id date e).loaded).yes4 in
      ap (λ (t : Table). bit_at (table_run t cs).calendar.exchange s) h.opened ∙
      is_false _ (λ t. clash (exchange-stays (product_of f id) (calendar_of f) date cs [] h.demand s t) (old-bits f o old s))

  -- tables of an old file have a zero second map and their old due days after all lists of calls
  pub old-due-stays : OldFileDues f id date
  old-due-stays = record { zero = old-bits-stay; days = λ old e cs. (old-due (table_run (open_call f id date).table cs)).days (old-bits-stay old e cs) }
