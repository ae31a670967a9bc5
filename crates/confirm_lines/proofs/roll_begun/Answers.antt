-- `roll_begun` is the empty line with `R` and a space more: by what `empty_line` and `extend` say.
use Rattle.confirm_lines.specs.ListingLines.{roll_begun}
use Rattle.confirm_lines.proofs.roll_begun.Goals as goal

pub returns : goal.returns
unfolding roll_begun
returns c = simp (c.extend-2.ensures, c.extend.ensures, c.empty_line.ensures)
