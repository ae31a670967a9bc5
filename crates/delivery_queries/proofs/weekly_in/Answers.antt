-- The answer of `find` says whether the id is there, and of which product.
use Rattle.delivery_queries.proofs.QueryStandings.{known-here, known-not}
use Rattle.delivery_queries.proofs.weekly_in.Goals as goal

pub returns-in-At : goal.returns-in-At
returns-in-At c =
    known-here _ _ _ _ (rw c.in-At.is at c.find.ensures) _ c.product_at-p.ensures _ c.is_weekly.ensures

pub returns-in-Nothing : goal.returns-in-Nothing
returns-in-Nothing c = known-not _ _ (rw c.in-Nothing.is at c.find.ensures)
