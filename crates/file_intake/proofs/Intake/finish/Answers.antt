-- The result of load, and the state as it came: 1 where it is asked for too early, else the lowest refusal, else the counts.
-- The three returns are these three cases; all blocks taken means a plausible state, so the lowest refusal is at most 8 and fits a byte.
use mathlib.Core.Path.{◌∙◌, sym, ap}
use native.Mathlib.Omega.{arith}
use Rattle.questions.proofs.Bools.{said-no, said-yes}
use Rattle.file_intake.specs.declared.Finished.{Finished}
use Rattle.file_intake.specs.Intake.{finished_answer}
use Rattle.file_intake.proofs.Steps.{lowest-small, finish-early, finish-refused, finish-accepted}
use Rattle.file_intake.proofs.Intake.finish.Goals as goal

pub returns-then-not-all_taken : goal.returns-then-not-all_taken
returns-then-not-all_taken c =
    let e = c.ended.ensures in
    (ap finished_answer e ∙ sym (finish-early _ (said-no c.all_taken.ensures c.if-not-all_taken.true)), ap (λ (r : Finished). r.state) e)

pub overflow_cast-lowest : goal.overflow_cast-lowest
overflow_cast-lowest c =
    omega (arith, lowest-small _ (said-yes c.all_taken.ensures c.if-not-all_taken.false))

pub returns-then-lowest-ne0 : goal.returns-then-lowest-ne0
returns-then-lowest-ne0 c =
    let e = c.ended-then-lowest-ne0.ensures in (
      ap finished_answer e ∙ sym (finish-refused _ (said-yes c.all_taken.ensures c.if-not-all_taken.false) c.if-lowest-ne0.true),
      ap (λ (r : Finished). r.state) e,
    )

pub returns : goal.returns
returns c =
    let e = c.ended-2.ensures in (
      ap finished_answer e ∙ sym (finish-accepted _ (said-yes c.all_taken.ensures c.if-not-all_taken.false) c.if-lowest-ne0.false),
      ap (λ (r : Finished). r.state) e,
    )
