-- A line with one byte more, as the definition says: a full one of 64 bytes stays as it is; else the byte is written after
-- the bytes it has, within the 64.
use Rattle.session_lines.specs.CommandLines.{extended}
use borrow.Author.Tests.{lt-ltb, le-ltb}
use mathlib.Core.Path.{refl}
use Rattle.session_lines.proofs.extend.Goals as goal

pub returns-then-at-ge64 : goal.returns-then-at-ge64
unfolding extended
returns-then-at-ge64 c = rw (le-ltb c.args.line.length 64 c.if-at-ge64.true) refl

pub returns : goal.returns
unfolding extended
returns c = rw (lt-ltb c.args.line.length 64 c.if-at-ge64.false) refl
