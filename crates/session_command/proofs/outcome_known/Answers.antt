-- Shown: where `ten` is the answer to question 10 of the table, the outcome is that of the command's call. An O opens by the
-- verdict; an unsound table refuses with 10 any other letter (`unsound`); a sound one rolls for R and else closes.
use Rattle.session_command.proofs.CommandAnswers.{opens_by, rolls, closes, unsound}
use Rattle.questions.proofs.Bools.{said-no, said-yes}
use mathlib.Core.Path.{◌∙◌}
use Rattle.session_command.proofs.outcome_known.Goals as goal

pub returns-then-letter-eq79 : goal.returns-then-letter-eq79
returns-then-letter-eq79 c = λ k. c.open_in.ensures ∙ opens_by _ _ _ c.if-letter-eq79.true

pub returns-then-not-ten : goal.returns-then-not-ten
returns-then-not-ten c = λ k. c.refused.ensures ∙ unsound _ _ _ c.if-letter-eq79.false (said-no k c.if-not-ten.true)

pub returns-then-letter-eq82 : goal.returns-then-letter-eq82
returns-then-letter-eq82 c = λ k. c.roll_sound.ensures (said-yes k c.if-not-ten.false) ∙
    rolls _ _ _ c.if-letter-eq79.false c.if-letter-eq82.true

pub returns : goal.returns
returns c = λ k. c.close_sound.ensures (said-yes k c.if-not-ten.false) ∙
    closes _ _ _ c.if-letter-eq79.false c.if-letter-eq82.false
