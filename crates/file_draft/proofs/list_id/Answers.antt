-- The id of a record of the list: its first four bytes. What `list_record` and `four_at` ensure, put together, is `list_id`.
use Rattle.file_draft.specs.Drafts.{list_id}
use Rattle.file_draft.proofs.list_id.Goals as goal

pub returns : goal.returns
unfolding list_id
returns c = simp (c.four_at.ensures, c.list_record.ensures)
