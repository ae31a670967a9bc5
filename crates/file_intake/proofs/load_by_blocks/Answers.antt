-- Load by these calls gives what load gives of the whole file.
-- The first `return` is the no to question 1. After its yes the blocks are handed over, and the final call gives the result of load (`ends`).
use native.Mathlib.Omega.{arith}
use Rattle.questions.proofs.Bools.{said-no, said-yes}
use Rattle.file_load.proofs.LoadAnswers.{load-refused}
use Rattle.file_intake.proofs.BlockByBlock.{not-long, ends}
use Rattle.file_intake.proofs.load_by_blocks.Goals as goal

pub returns-then-not-length_right : goal.returns-then-not-length_right
returns-then-not-length_right c = load-refused _ _ (not-long _ (said-no c.length_right.ensures c.if-not-length_right.true)) (λ z. omega arith)

pub hand_over_all-requires : goal.hand_over_all-requires
hand_over_all-requires c = said-yes c.length_right.ensures c.if-not-length_right.false

pub returns : goal.returns
returns c =
    ends _ (said-yes c.length_right.ensures c.if-not-length_right.false) _ _ c.hand_over_all.ensures c.finish-last.ensures.0
