-- Whether a place holds the record with an id: the answers of `is_record`, `id_at` and `same_id`, put together, are `has_id`.
use Rattle.file_load.specs.Load.{has_id}
use Rattle.file_load.proofs.has_id.Goals as goal

pub returns : goal.returns
unfolding has_id
returns c = simp (c.same_id.ensures, c.id_at.ensures, c.is_record.ensures)
