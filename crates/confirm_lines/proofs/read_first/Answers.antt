-- Before a table is open, a line that is no open is bad (`first-bad`), and an open is called and gives the reading after it (`first-open`).
use mathlib.Core.Path.{◌∙◌, sym, ap}
use Rattle.confirm_lines.specs.ListingLines.{after_call}
use Rattle.confirm_lines.proofs.Names.{first-bad, first-open}
use Rattle.confirm_lines.proofs.read_first.Goals as goal

pub returns-then-c-ne79 : goal.returns-then-c-ne79
returns-then-c-ne79 c = c.after_entry.ensures ∙ sym (first-bad _ _ _ c.if-c-ne79.true)

pub returns : goal.returns
returns c = c.after_call.ensures ∙ ap after_call c.open-o.ensures ∙ sym (first-open _ _ _ c.if-c-ne79.false)
