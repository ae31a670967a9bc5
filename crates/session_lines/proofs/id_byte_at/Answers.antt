-- Byte i of the id: the line's byte 2 + i where i is below k, else a space; each `return` rewrites by its test. Since i is
-- below 4, the byte is within the line.
use mathlib.Core.Path.{refl}
use borrow.Author.Tests.{lt-ltb, le-ltb}
use Rattle.session_lines.proofs.id_byte_at.Goals as goal

pub returns-then-i-k : goal.returns-then-i-k
returns-then-i-k c = rw (lt-ltb c.args.i c.args.k c.if-i-k.true) refl

pub returns : goal.returns
returns c = rw (le-ltb c.args.i c.args.k c.if-i-k.false) refl
