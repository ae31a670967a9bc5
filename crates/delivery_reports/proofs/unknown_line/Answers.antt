-- The line is that of an id that is not in the file: the id, and the bytes ',,product,,' with a line feed.
-- The empty line gets the id and then the bytes; `first` and `then` join them to `unknown_text`.
use Rattle.delivery_reports.specs.Reports.{unknown_text}
use Rattle.file_text_print.proofs.Building.{first, then}
use Rattle.delivery_reports.proofs.BytesOnLine.{fed-text}
use Rattle.delivery_reports.proofs.unknown_line.Goals as goal

pub returns : goal.returns
unfolding unknown_text
returns c = first c.empty_line.ensures (then c.with_id.ensures (fed-text _ _ _ c.feed.ensures))
