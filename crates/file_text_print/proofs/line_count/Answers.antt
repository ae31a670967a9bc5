-- How many lines the text has: one for the cover, one for each day that `cover_days` ensures, and one for each place. The sums fit, by search.
use Rattle.file_text_print.specs.Contents.{line_count}
use Rattle.file_text_print.proofs.line_count.Goals as goal

pub returns : goal.returns
unfolding line_count
returns c = rw c.cover_days.ensures.0
