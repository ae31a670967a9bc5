-- The line is the heading of the differences.
-- It is the empty line fed with the heading's bytes, which are those of `differences_heading`.
use Rattle.delivery_reports.specs.Reports.{differences_heading}
use Rattle.file_text_print.proofs.Building.{first}
use Rattle.delivery_reports.proofs.BytesOnLine.{fed-text}
use Rattle.delivery_reports.proofs.heading_line.Goals as goal

pub returns : goal.returns
unfolding differences_heading
returns c = first c.empty_line.ensures (fed-text _ _ _ c.feed.ensures)
