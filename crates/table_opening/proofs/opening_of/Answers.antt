-- Shown: what is found is the definition's opening of the file: refused by the first question of open answered no, or the
-- product, calendar and fresh listing. The verdict is the file's own, by `judge`, and with it `opening_in` finds just that
-- (`opening-is`).
use Rattle.table_opening.proofs.Opened.{opening-is}
use mathlib.Core.Path.{◌∙◌, ap}
use Rattle.table_opening.specs.Opening.{opening_result}
use Rattle.table_opening.proofs.opening_of.Goals as goal

pub returns : goal.returns
returns c = (rw c.judge-judged.ensures at c.opening_in.ensures) ∙ ap opening_result (opening-is c.args.file.now c.args.id c.args.date)
