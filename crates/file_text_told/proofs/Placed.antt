-- A refusal 5, 7 or 8 comes with the number of a line, and 6 with a day: were no line at fault, the question would be answered yes.
-- Assumes nothing.
use mathlib.Core.Path.{◌≡◌, refl, sym, ap, ◌∙◌}
use mathlib.Core.Bool.{Bool, true, false, not, cond}
use mathlib.Core.List.{List, [], ◌∷◌}
use Prim.Native.Nat.{ℕ, zero, suc, ◌+◌, ◌-◌, ◌%◌, ◌≤◌, ◌<◌}
use native.Mathlib.Omega.{arith}
use lib.ListN.{length}
use borrow.Author.Tests.{eq-eqb, not-true}
use Rattle.questions.specs.Questions.{Ask, ask, first_no}
use Rattle.questions.specs.Search.{every, first_from}
use Rattle.questions.proofs.Bools.{clash, and_both}
use Rattle.questions.proofs.Search.{Failing, every_one}
use Rattle.calendar.specs.declared.Calendar.{Calendar}
use Rattle.calendar.specs.Trading.{cover_start, cover_end, clean, some_trades, every_week, zero_calendar}
use Rattle.file_blocks.specs.Blocks.{headers_right}
use Rattle.file_ids.specs.Ids.{ids_rise}
use Rattle.file_calendar.specs.Calendars.{order_right, calendars_clean, weeks_right}
use Rattle.file_draft.specs.Drafts.{file_of, records_written, write_asks, list_right, list_rises}
use Rattle.file_draft.proofs.DraftQuestions.{years-few}
use Rattle.file_draft.proofs.DraftCalendars.{order-written, clean-written, weeks-written}
use Rattle.file_draft.proofs.DraftRecords.{products-written, rises-written}
use Rattle.file_write.proofs.Holding.{within-clean, within-weeks}
use Rattle.session_lines.specs.CommandLines.{no_id, lines_from}
use Rattle.file_text_faults.specs.Faults.{first_fault, first_idle}
use Rattle.file_text_read.specs.Lists.{no_content, numbered_lines, content_of}
use Rattle.file_text_told.specs.Whole.{text_content, text_refusal, SaysPlace}
use Rattle.file_text_told.proofs.Faultless.{Keeps, KeptToEnd, lines_keep}
use Rattle.file_text_told.proofs.CleanDays.{zero-clean, zero-long, CleanOf, keeps-clean}
use Rattle.file_text_told.proofs.ListRecords.{RightOf, keeps-right, RisesOf, keeps-rising}

-- ---- which question is answered no

passed : (k n : ℕ) (b : Bool) (rest : List Ask) → (k ≡ n → ⊥) → first_no (ask k b ∷ rest) ≡ n → (b ≡ true) × (first_no rest ≡ n)
unfolding first_no
passed k n true rest h e = (refl, e)
passed k n false rest h e = absurd (h e)

-- no question has the number
unfoldable others : ℕ → List Ask → Type 0
others n [] = n ≡ 0 → ⊥
others n (ask k b ∷ rest) = (k ≡ n → ⊥) × others n rest

never : (n : ℕ) (asks : List Ask) → others n asks → first_no asks ≡ n → ⊥
unfolding others first_no
never n [] h e = h (sym e)
never n (ask k true ∷ rest) h e = never n rest h.1 e
never n (ask k false ∷ rest) h e = h.0 e

failed : (k : ℕ) (b : Bool) (rest : List Ask) → others k rest → first_no (ask k b ∷ rest) ≡ k → b ≡ false
unfolding first_no
failed k true rest h e = absurd (never k rest h e)
failed k false rest h e = refl

module _ (cal : Calendar) (records : List ℕ) (room : ℕ) where
  abbrev f : List ℕ
  f = file_of cal records

  no-5 : first_no (write_asks cal records room) ≡ 5 → (order_right f ≡ true) × (calendars_clean f ≡ false)
  unfolding write_asks others
  no-5 e =
      let (a3, e3) = passed 3 5 (headers_right f) _ (λ z. omega arith) e in
      let (a4, e4) = passed 4 5 (order_right f) _ (λ z. omega arith) e3 in
      (a4, failed 5 (calendars_clean f) _ ((λ z. omega arith), ((λ z. omega arith), ((λ z. omega arith), ((λ z. omega arith), (λ z. omega arith))))) e4)

  no-6 : first_no (write_asks cal records room) ≡ 6 → (order_right f ≡ true) × (weeks_right f ≡ false)
  unfolding write_asks others
  no-6 e =
      let (a3, e3) = passed 3 6 (headers_right f) _ (λ z. omega arith) e in
      let (a4, e4) = passed 4 6 (order_right f) _ (λ z. omega arith) e3 in
      let (a5, e5) = passed 5 6 (calendars_clean f) _ (λ z. omega arith) e4 in
      (a4, failed 6 (weeks_right f) _ ((λ z. omega arith), ((λ z. omega arith), ((λ z. omega arith), (λ z. omega arith)))) e5)

  no-7 : first_no (write_asks cal records room) ≡ 7 → records_written cal records ≡ false
  unfolding write_asks others
  no-7 e =
      let (a3, e3) = passed 3 7 (headers_right f) _ (λ z. omega arith) e in
      let (a4, e4) = passed 4 7 (order_right f) _ (λ z. omega arith) e3 in
      let (a5, e5) = passed 5 7 (calendars_clean f) _ (λ z. omega arith) e4 in
      let (a6, e6) = passed 6 7 (weeks_right f) _ (λ z. omega arith) e5 in
      failed 7 (records_written cal records) _ ((λ z. omega arith), ((λ z. omega arith), (λ z. omega arith))) e6

  no-8 : first_no (write_asks cal records room) ≡ 8 → ids_rise f ≡ false
  unfolding write_asks others
  no-8 e =
      let (a3, e3) = passed 3 8 (headers_right f) _ (λ z. omega arith) e in
      let (a4, e4) = passed 4 8 (order_right f) _ (λ z. omega arith) e3 in
      let (a5, e5) = passed 5 8 (calendars_clean f) _ (λ z. omega arith) e4 in
      let (a6, e6) = passed 6 8 (weeks_right f) _ (λ z. omega arith) e5 in
      let (a7, e7) = passed 7 8 (records_written cal records) _ (λ z. omega arith) e6 in
      failed 8 (ids_rise f) _ ((λ z. omega arith), (λ z. omega arith)) e7

  -- the same by what was handed in
  unclean : first_no (write_asks cal records room) ≡ 5 → clean cal ≡ true → ⊥
  unclean e k =
      let q : (order_right f ≡ true) × (calendars_clean f ≡ false) = no-5 e in
      clash (clean-written cal records q.0 ∙ within-clean cal (years-few cal.cover records (sym (order-written cal records) ∙ q.0)) k) q.1

  idle : first_no (write_asks cal records room) ≡ 6 → every_week cal ≡ false
  idle e =
      let q : (order_right f ≡ true) × (weeks_right f ≡ false) = no-6 e in
      sym (within-weeks cal (years-few cal.cover records (sym (order-written cal records) ∙ q.0))) ∙ sym (weeks-written cal records q.0) ∙ q.1

  unright : first_no (write_asks cal records room) ≡ 7 → length records % 32 ≡ 0 → list_right records ≡ true → ⊥
  unfolding records_written
  unright e w k = clash (and_both (eq-eqb (length records % 32) 0 w) (products-written cal records w ∙ k)) (no-7 e)

  unrising : first_no (write_asks cal records room) ≡ 8 → length records % 32 ≡ 0 → list_rises records ≡ true → ⊥
  unrising e w k = clash (rises-written cal records w ∙ k) (no-8 e)

-- ---- the first day

record Found (f : ℕ → Bool) (r d n : ℕ) : Type 0 where
  low : d ≤ r
  high : r < d + n
  is : f r ≡ true

found : (f : ℕ → Bool) (none n d j : ℕ) → j < n → f (d + j) ≡ true → Found f (first_from f none n d) d n
unfolding first_from
found f none zero d j h e = absurd (omega arith)
found f none (suc n) d zero h e = go (f d) refl
  where
    same : d ≡ d + 0
    same = omega arith

    go : (b : Bool) → f d ≡ b → Found f (cond b d (first_from f none n (suc d))) d (suc n)
    go true q = record { low = omega arith; high = omega arith; is = q }
    go false q = clash (ap f same ∙ e) q
found f none (suc n) d (suc j) h e = go (f d) refl (found f none n (suc d) j (omega arith) (ap f on ∙ e))
  where
    on : suc d + j ≡ d + suc j
    on = omega arith

    go : (b : Bool) → f d ≡ b → Found f (first_from f none n (suc d)) (suc d) n → Found f (cond b d (first_from f none n (suc d))) d (suc n)
    go true q r = record { low = omega arith; high = omega arith; is = q }
    go false q r = record { low = omega (arith, r.low); high = omega (arith, r.high); is = r.is }

-- ---- a text

module _ (input : List ℕ) (good : (text_content input).bad ≡ 0) where
  -- with no line at fault for a question, what each line keeps is kept
  faultless : (question : ℕ) (P : List ℕ → Calendar → Bool → List ℕ → Type 0) (step : Keeps 65536 question P) → P no_id zero_calendar false []
      → (first_fault question (numbered_lines input)).line ≡ 0 → KeptToEnd 65536 question P step (text_content input)
  unfolding text_content content_of numbered_lines no_content first_fault
  faultless question P step p z = lines_keep 65536 question P step no_id no_content (lines_from [] input) 0 p refl good z

asked : (input : List ℕ) (n : ℕ) → text_refusal input ≡ n → first_no (write_asks (text_content input).calendar (text_content input).records 65536) ≡ n
unfolding text_refusal
asked input n e = e

some-line : (n : ℕ) → (n ≡ 0 → ⊥) → 1 ≤ n
some-line zero h = absurd (h refl)
some-line (suc n) h = omega arith

none_right : list_right [] ≡ true
unfolding list_right every
none_right = refl

none-rises : list_rises [] ≡ true
unfolding list_rises every
none-rises = refl

-- the first run of seven days without trading, where there is one
module _ (cal : Calendar) (e : every_week cal ≡ false) where
  abbrev runs : ℕ
  runs = cover_end cal.cover - cover_start cal.cover - 6

  first_run : Found (λ d. not (some_trades cal d 7)) (first_idle cal) (cover_start cal.cover) runs
  unfolding every_week first_idle
  first_run =
      let k : Failing (λ i. some_trades cal (cover_start cal.cover + i) 7) runs = every_one (λ i. some_trades cal (cover_start cal.cover + i) 7) runs e in
      let q : cover_end cal.cover - 6 - cover_start cal.cover ≡ runs = omega arith in
      rw q (found (λ d. not (some_trades cal d 7)) 36525 runs (cover_start cal.cover) k.at k.below (rw k.fails refl))

module _ (input : List ℕ) where
  abbrev cal : Calendar
  cal = (text_content input).calendar

  abbrev records : List ℕ
  records = (text_content input).records

  module _ (good : (text_content input).bad ≡ 0) where
    at_5 : text_refusal input ≡ 5 → (first_fault 5 (numbered_lines input)).line ≡ 0 → ⊥
    at_5 e z = unclean cal records 65536 (asked input 5 e) (faultless input good 5 CleanOf (keeps-clean 65536) (zero-clean, (λ s. zero-long)) z).holds.0

    at_7 : text_refusal input ≡ 7 → (first_fault 7 (numbered_lines input)).line ≡ 0 → ⊥
    at_7 e z =
        let k = faultless input good 7 RightOf (keeps-right 65536) (refl, none_right) z in
        unright cal records 65536 (asked input 7 e) k.holds.0 k.holds.1

    none-risen : RisesOf 65536 no_id []
    none-risen = record { whole = refl; rises = none-rises; last = λ s h. absurd (omega (arith, s)) }

    at_8 : text_refusal input ≡ 8 → (first_fault 8 (numbered_lines input)).line ≡ 0 → ⊥
    at_8 e z =
        let k = faultless input good 8 (λ before of seeded list. RisesOf 65536 before list) (keeps-rising 65536) none-risen z in
        unrising cal records 65536 (asked input 8 e) k.holds.whole k.holds.rises

  at-6 : text_refusal input ≡ 6 → every_week cal ≡ false
  at-6 e = idle cal records 65536 (asked input 6 e)

  -- the place that is told with a refusal of a text is there: a line with 5, 7 and 8, a day of the cover with 6
  pub says-place : SaysPlace input
  says-place =
      record {
        line5 = λ good e. some-line _ (at_5 good e);
        line7 = λ good e. some-line _ (at_7 good e);
        line8 = λ good e. some-line _ (at_8 good e);
        day6 = λ e. (first_run cal (at-6 e)).low;
        days6 = λ e. omega (arith, (first_run cal (at-6 e)).low, (first_run cal (at-6 e)).high);
        idle6 = λ e. not-true (some_trades cal (first_idle cal) 7) (first_run cal (at-6 e)).is;
      }
