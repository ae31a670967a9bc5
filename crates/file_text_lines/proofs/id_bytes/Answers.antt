-- The four bytes of an id: what the four calls of `byte_or_space` ensure, put together, is `id_bytes`.
use Rattle.file_text_lines.specs.Entries.{id_bytes}
use Rattle.file_text_lines.proofs.id_bytes.Goals as goal

pub returns : goal.returns
unfolding id_bytes
returns c = rw (
  c.byte_or_space-4.ensures,
  c.byte_or_space-3.ensures,
  c.byte_or_space-2.ensures,
  c.byte_or_space.ensures,
)
