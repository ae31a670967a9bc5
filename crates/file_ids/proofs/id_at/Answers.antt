-- The id at a place: its record's first four bytes. What `record_at` and `four_at` ensure, put together, is the definition `id_at`.
use Rattle.file_ids.specs.Ids.{id_at}
use Rattle.file_ids.proofs.id_at.Goals as goal

pub returns : goal.returns
unfolding id_at
returns c = simp (c.four_at.ensures, c.record_at.ensures)
