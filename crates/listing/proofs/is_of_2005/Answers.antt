-- Whether a month has one of the seven names, by `set-2005`.
use Rattle.listing.proofs.ListLoops.{set-2005}
use Rattle.listing.proofs.is_of_2005.Goals as goal

pub returns : goal.returns
returns c = set-2005 c.args.month
