-- A closure leaves the second map's bit 0: 14 admits trading days alone, in a sound table no trading day is in the second map, and no call puts a day there.
-- Assumes nothing.
use mathlib.Core.Path.{◌≡◌, ap}
use mathlib.Core.Bool.{Bool, true, false, cond}
use mathlib.Core.List.{List, [], ◌∷◌}
use Prim.Native.Nat.{ℕ}
use lib.Dec.{eqb}
use Rattle.questions.specs.Questions.{Ask, first_no}
use Rattle.questions.proofs.Bools.{clash, is_false}
use Rattle.questions.proofs.Asks.{none-no}
use Rattle.calendar.specs.declared.Calendar.{Calendar}
use Rattle.calendar.specs.Bits.{bit_at}
use Rattle.calendar.specs.Trading.{in_cover, slot_of, trading_day, in_second_map, close_day, reopen_day}
use Rattle.calendar.proofs.Bits.{clear-here}
use Rattle.calendar.proofs.Closing.{close-cover, close-exchange, trading-not-second}
use Rattle.calendar.proofs.Reopening.{reopen-cover}
use Rattle.table.specs.declared.Table.{Table}
use Rattle.table.specs.declared.Outcome.{Outcome}
use Rattle.table.specs.Table.{sound, moved, refused_with, answered, roll_asks, roll_call, close_asks, close_call, reopen_asks, reopen_call}
use Rattle.table.proofs.TableQuestions.{answered-yes, sound-parts}
use Rattle.table.proofs.Opens.{refusal_is}
use Rattle.table_measures.specs.Measures.{measured_by, unmeasured, measure_asks, measure_call}
use Rattle.history.specs.Book.{Call, roll, close, reopen, measure, calendar_after}
use Rattle.history.specs.History.{table_call, table_run}
use Rattle.history.specs.ClosureNotices.{second_bit, ClosureNotice}
use Rattle.history.proofs.SecondMap.{exchange-after}

-- a day of the cover whose bit is 1 is in the second map
bit-in-map : (cal : Calendar) (day : ℕ) → in_cover cal.cover day ≡ true → bit_at cal.exchange (slot_of cal.cover day) ≡ true → in_second_map cal day ≡ true
unfolding in_second_map
bit-in-map cal day e t = rw (e, t)

module _ (t : Table) (day : ℕ) where
  -- a close that is accepted: the day's bit was 0
  bit-before : first_no (close_asks t day) ≡ 0 → second_bit t day ≡ false
  bit-before z =
      let (a, e1) = none-no 9 (sound t) _ z in
      let (b, e2) = none-no 10 (in_cover t.calendar.cover day) _ e1 in
      let (d, e3) = none-no 12 _ _ e2 in
      let (f, e4) = none-no 13 (trading_day t.calendar day) _ e3 in
      let s = sound-parts t a in
      is_false _ (λ q. clash (bit-in-map t.calendar day b q) (trading-not-second t.calendar day s.cover s.clean-days f))

  -- and the table that it gives back has it as it was
  close-calendar : first_no (close_asks t day) ≡ 0 → (close_call t day).table.calendar ≡ close_day t.calendar day
  unfolding close_call moved
  close-calendar z = ap (λ (o : Outcome). o.table.calendar) (answered-yes t (close_asks t day) (moved t (close_day t.calendar day) t.date) z)

  close-asked : (close_call t day).refusal ≡ 0 → first_no (close_asks t day) ≡ 0
  unfolding close_call
  close-asked = refusal_is t (close_asks t day) (moved t (close_day t.calendar day) t.date)

  close-bit : (close_call t day).refusal ≡ 0 → second_bit (close_call t day).table day ≡ false
  close-bit e = rw (close-calendar (close-asked e), close-cover t.calendar day, close-exchange t.calendar day) (bit-before (close-asked e))

  -- an accepted reopening clears it
  reopen-asked : (reopen_call t day).refusal ≡ 0 → first_no (reopen_asks t day) ≡ 0
  unfolding reopen_call
  reopen-asked = refusal_is t (reopen_asks t day) (moved t (reopen_day t.calendar day) t.date)

  reopen-calendar : first_no (reopen_asks t day) ≡ 0 → (reopen_call t day).table.calendar ≡ reopen_day t.calendar day
  unfolding reopen_call moved
  reopen-calendar z = ap (λ (o : Outcome). o.table.calendar) (answered-yes t (reopen_asks t day) (moved t (reopen_day t.calendar day) t.date) z)

  reopened-bit : in_cover t.calendar.cover day ≡ true → bit_at (reopen_day t.calendar day).exchange (slot_of t.calendar.cover day) ≡ false
  unfolding reopen_day
  reopened-bit e = rw (e, clear-here t.calendar.exchange (slot_of t.calendar.cover day))

  reopen-bit : (reopen_call t day).refusal ≡ 0 → second_bit (reopen_call t day).table day ≡ false
  reopen-bit e =
      let z = reopen-asked e in
      let (a, e1) = none-no 9 (sound t) _ z in
      let (b, e2) = none-no 10 (in_cover t.calendar.cover day) _ e1 in
      rw (reopen-calendar z, reopen-cover t.calendar day) (reopened-bit b)

module _ (day : ℕ) where
  -- the bit of the day is 0
  abbrev Zero : Calendar → Type 0
  Zero cal = bit_at cal.exchange (slot_of cal.cover day) ≡ false

  -- it stays so with every call, accepted or refused
  after-zero : (cal : Calendar) (c : Call) → (calendar_after cal c).cover ≡ cal.cover → Zero cal → Zero (calendar_after cal c)
  after-zero cal c same z = rw same (is_false _ (λ q. clash (exchange-after cal c (slot_of cal.cover day) q) z))

  answered-zero : (t : Table) (asks : List Ask) (o : Outcome) → Zero o.table.calendar → Zero t.calendar → Zero (answered t asks o).table.calendar
  unfolding answered
  answered-zero t asks o a b = go (eqb (first_no asks) 0)
    where
      go : (test : Bool) → Zero (cond test o (refused_with t (first_no asks))).table.calendar
      go true = a
      go false = b

  measured-zero : (t : Table) (p q price : ℕ) → Zero t.calendar → Zero (measure_call t p q price).table.calendar
  unfolding measure_call
  measured-zero t p q price z = go (eqb (first_no (measure_asks t p q price)) 0)
    where
      go : (test : Bool) → Zero (cond test (measured_by t p q price) (unmeasured t (first_no (measure_asks t p q price)))).table.calendar
      go true = z
      go false = z

  call-zero : (t : Table) (c : Call) → Zero t.calendar → Zero (table_call t c).table.calendar
  unfolding roll_call close_call reopen_call moved
  call-zero t (roll date) z = answered-zero t (roll_asks t date) (moved t t.calendar date) z z
  call-zero t (close d) z = answered-zero t (close_asks t d) (moved t (close_day t.calendar d) t.date)
      (after-zero t.calendar (close d) (close-cover t.calendar d) z) z
  call-zero t (reopen d) z = answered-zero t (reopen_asks t d) (moved t (reopen_day t.calendar d) t.date)
      (after-zero t.calendar (reopen d) (reopen-cover t.calendar d) z) z
  call-zero t (measure p q price) z = measured-zero t p q price z

  run-zero : (cs : List Call) (t : Table) → Zero t.calendar → Zero (table_run t cs).calendar
  unfolding table_run
  run-zero [] t z = z
  run-zero (c ∷ cs) t z = run-zero cs (table_call t c).table (call-zero t c z)

-- an accepted closure or reopening leaves the day's bit in the second map 0, and a day whose bit is 1 is not closed again
pub closure-notice : (t : Table) (day : ℕ) → ClosureNotice t day
closure-notice t day =
    record {
      closed = close-bit t day;
      no-second-close = λ one e. clash one (bit-before t day (close-asked t day e));
      reopened = reopen-bit t day;
      closed-again = λ first e. close-bit (reopen_call t day).table day e;
      stays = λ e cs. run-zero day cs (close_call t day).table (close-bit t day e);
    }
