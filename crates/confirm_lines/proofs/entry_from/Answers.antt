-- `entry_from` gives no entry where the name or the last day has no letter, else the key and the day; each return by the test before it.
use Rattle.confirm_lines.specs.ListingLines.{entry_from}
use Rattle.confirm_lines.proofs.entry_from.Goals as goal

pub returns-then-name-last : goal.returns-then-name-last
unfolding entry_from
returns-then-name-last c = rw c.if-name-last.true

pub returns : goal.returns
unfolding entry_from
returns c = rw c.if-name-last.false
