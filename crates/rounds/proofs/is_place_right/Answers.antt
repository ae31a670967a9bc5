-- Shown: yes exactly where the number at place i is from 0 to 199 and no place before i has it. A number above 199 ends
-- with no; else the places before it are asked for it (`none_is`).
use Rattle.questions.proofs.Chains.{none_item}
use borrow.Author.Tests.{le-leb, lt-leb}
use mathlib.Core.Bool.{not}
use mathlib.Core.Path.{◌∙◌, ap}
use native.Mathlib.Omega.{arith}
use Rattle.rounds.proofs.is_place_right.Goals as goal

-- ---- a number above 199
pub returns-then-number-gt199 : goal.returns-then-number-gt199
returns-then-number-gt199 c = rw (lt-leb _ _ c.if-number-gt199.true)

-- ---- after the test
pub returns : goal.returns
returns c =
    rw (le-leb _ _ c.if-number-gt199.false) (ap not c.contains.ensures.value ∙ none_item _ c.args.tables 0 c.args.i (omega (arith, c.well_formed.0.1.0.1)))
