-- Byte i of an id, or a space after its last: within the id the default plays no part (same-default), after it the default is the answer.
use mathlib.Core.Path.{sym}
use lib.ListN.{get_or-eq_default}
use Rattle.file_text_lines.proofs.LineWords.{same-default}
use Rattle.file_text_lines.proofs.byte_or_space.Goals as goal

pub returns-then-i-id : goal.returns-then-i-id
returns-then-i-id c = same-default c.args.id.now _ 0 32 c.if-i-id.true

pub returns : goal.returns
returns c = sym (get_or-eq_default c.args.id.now 32 c.if-i-id.false)
