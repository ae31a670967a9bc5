-- Whether an entry may stand where it does.
-- The six returns are: no entry, a Y or S, nothing said yet, a P, a day after an S, and a day by the cover; each cites the tests before it.
use mathlib.Core.Path.{refl}
use borrow.Author.Tests.{eq-eqb, ne_eqb}
use Rattle.file_text_read.specs.Lists.{entry_fits}
use Rattle.file_text_read.proofs.entry_fits.Goals as goal

pub returns-then-letter-eq0 : goal.returns-then-letter-eq0
unfolding entry_fits
returns-then-letter-eq0 c = rw (eq-eqb _ 0 c.if-letter-eq0.true) refl

pub returns-then-letter : goal.returns-then-letter
unfolding entry_fits
returns-then-letter c = rw (ne_eqb _ 0 c.if-letter-eq0.false, c.if-letter.true) refl

pub returns-then-not-begun : goal.returns-then-not-begun
unfolding entry_fits
returns-then-not-begun c = rw (ne_eqb _ 0 c.if-letter-eq0.false, c.if-letter.false, c.if-not-begun.true) refl

pub returns-then-letter-eq80 : goal.returns-then-letter-eq80
unfolding entry_fits
returns-then-letter-eq80 c = rw (
  ne_eqb _ 0 c.if-letter-eq0.false,
  c.if-letter.false,
  c.if-not-begun.false,
  eq-eqb _ 80 c.if-letter-eq80.true,
) refl

pub returns-then-seeded : goal.returns-then-seeded
unfolding entry_fits
returns-then-seeded c =
    rw (
      ne_eqb _ 0 c.if-letter-eq0.false,
      c.if-letter.false,
      c.if-not-begun.false,
      ne_eqb _ 80 c.if-letter-eq80.false,
      c.if-seeded.true,
    ) refl

pub returns : goal.returns
unfolding entry_fits
returns c =
    rw (
      ne_eqb _ 0 c.if-letter-eq0.false,
      c.if-letter.false,
      c.if-not-begun.false,
      ne_eqb _ 80 c.if-letter-eq80.false,
      c.if-seeded.false,
    ) c.in_cover.ensures
