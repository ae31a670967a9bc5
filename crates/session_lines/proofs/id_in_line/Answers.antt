-- The four bytes are the definition's, each by the contract of `id_byte_at` for places 0 to 3.
use Rattle.session_lines.specs.CommandLines.{id_in_line}
use Rattle.session_lines.proofs.id_in_line.Goals as goal

pub returns : goal.returns
unfolding id_in_line
returns c = rw (
  c.id_byte_at-4.ensures,
  c.id_byte_at-3.ensures,
  c.id_byte_at-2.ensures,
  c.id_byte_at.ensures,
)
