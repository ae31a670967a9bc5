-- The word has the `length` days after six times eight weeks and is below 2^length: the rest of the map without its last 32 − length bits
-- (`shows-part`, `part-below`).
use Rattle.calendar_words.proofs.Equations.{rest-shows, rest_below}
use Rattle.calendar_words.proofs.Windows.{shows-part, part-below}
use Rattle.calendar_checks.proofs.rest_days.Goals as goal

pub returns : goal.returns
returns c =
    let start = c in (
      shows-part _ _ _ _ start.requires.1 (rest-shows _ _ _ c.rest_of.ensures start.requires.0),
      part-below _ _ start.requires.1 (rest_below _ _ _ c.rest_of.ensures),
    )
