-- Questions 1 to 8 and the counts of years and of records, which are zeros with a refusal.
-- The refusal of `judge` is the first no: the first `return`. In the other all are yes, years come from the calendar and records from `record_count`.
-- By the yes to 1 the file has at most 65536 bytes, so its count of records fits.
use mathlib.Core.Path.{◌≡◌, sym, ◌∙◌}
use native.Mathlib.Omega.{arith}
use Rattle.questions.specs.Questions.{first_no}
use Rattle.file_load.specs.Load.{load_asks}
use Rattle.file_load.proofs.LoadAnswers.{all_yes, length_most, judged-refusal, judged-years, load-refused, load-accepted}
use Rattle.file_load.proofs.load.Goals as goal
use Rattle.file_load.proofs.load.Goals.{Else-refusal-ne0}

accepted : (c : Else-refusal-ne0) → first_no (load_asks c.args.file.now) ≡ 0
accepted c = sym (judged-refusal _ _ c.judge-judged.ensures) ∙ c.if-refusal-ne0.false

pub returns-then-refusal-ne0 : goal.returns-then-refusal-ne0
returns-then-refusal-ne0 c = load-refused _ _ (judged-refusal _ _ c.judge-judged.ensures) c.if-refusal-ne0.true

pub overflow_cast-result : goal.overflow_cast-result
overflow_cast-result c = omega (arith, length_most _ (all_yes _ (accepted (goal.at.overflow_cast-result c).Else-refusal-ne0)).yes1)

pub returns : goal.returns
returns c =
    rw (judged-years _ _ c.judge-judged.ensures c.if-refusal-ne0.false, c.record_count.ensures.0)
    (sym (load-accepted _ (accepted (goal.at.returns c).Else-refusal-ne0)))
