-- Found in the file, and delivered after the notices: each field is that of the definition.
use Rattle.delivery_queries.proofs.QueryStandings.{stands}
use Rattle.delivery_queries.proofs.standing.Goals as goal

pub returns : goal.returns
returns c =
    stands _ _ _ _ _ _ _ _ _ _ c.weekly_in-weekly.ensures _ _ c.is_some.ensures c.unwrap_or.ensures c.deliver-d.ensures
