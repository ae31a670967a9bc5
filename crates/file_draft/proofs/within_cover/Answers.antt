-- The calendar that the file holds, with nothing after the cover's last year: both maps are what `years_of_map` ensures.
use Rattle.file_draft.specs.Drafts.{within_cover}
use Rattle.file_draft.proofs.within_cover.Goals as goal

pub returns : goal.returns
unfolding within_cover
returns c = rw (c.years_of_map-closed.ensures, c.years_of_map-exchange.ensures)
