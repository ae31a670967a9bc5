-- Before the first line nothing is bad, refused, opened or begun: the definition's
-- fields, with the table of zeros as its function says.
use Rattle.confirm_lines.specs.ListingLines.{no_listing}
use Rattle.confirm_lines.proofs.no_listing.Goals as goal

pub returns : goal.returns
unfolding no_listing
returns c = rw c.zero_table-table.ensures
