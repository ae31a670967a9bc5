-- Whether no seven days in a row of a word have their bit: by `seven_is` the two, four and seven days in a row leave 0 just there.
use Rattle.calendar_words.proofs.Equations.{seven_is}
use native.Mathlib.Omega.{arith}
use Rattle.calendar_words.proofs.no_seven.Goals as goal

pub returns : goal.returns
returns c = seven_is _ (omega arith)
