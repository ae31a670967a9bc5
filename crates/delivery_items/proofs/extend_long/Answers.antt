-- `extend_long` adds one byte to a line: a full one holds no more and notes whether the
-- byte is no blank, another has it at its end; each return by the test on the length.
use mathlib.Core.Path.{refl, sym}
use Rattle.delivery_items.specs.Items.{lengthened}
use borrow.Author.Tests.{lt-ltb, le-ltb}
use Rattle.delivery_items.proofs.extend_long.Goals as goal

pub returns-then-at-ge255 : goal.returns-then-at-ge255
unfolding lengthened
returns-then-at-ge255 c = sym (rw (le-ltb _ _ c.if-at-ge255.true, c.is_blank.ensures) refl)

pub returns : goal.returns
unfolding lengthened
returns c = sym (rw (lt-ltb _ _ c.if-at-ge255.false) refl)
