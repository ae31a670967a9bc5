-- The fresh listing of a product on a date: it depends on the first map alone (`listing-second`), so the answer on the lent map is the calendar's.
use Rattle.listing.proofs.SecondMap.{listing-second}
use mathlib.Core.Path.{◌∙◌}
use mathlib.Core.List.{[]}
use Rattle.listing.proofs.list.Goals as goal

pub returns : goal.returns
returns c = c.list_in.ensures ∙ listing-second _ [] _ _ _
