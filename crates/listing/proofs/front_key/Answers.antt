-- The front of a kind on a date: it depends on the first map alone (`front-second`), so the answer on the lent map is the calendar's.
use Rattle.listing.proofs.SecondMap.{front-second}
use mathlib.Core.Path.{◌∙◌}
use mathlib.Core.List.{[]}
use Rattle.listing.proofs.front_key.Goals as goal

pub returns : goal.returns
returns c = c.front_key_in.ensures ∙ front-second _ [] _ _
