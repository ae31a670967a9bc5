-- The queue has no table and two hundred places of zero, by the contract of `no_tables`.
use Rattle.rounds.proofs.Queue.empty.Goals as goal

pub returns : goal.returns
returns c = rw c.no_tables-tables.ensures
