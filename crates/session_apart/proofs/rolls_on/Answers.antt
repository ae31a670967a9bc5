-- Shown: a yes says that the command is a roll, that `ten` is yes, and that the roll of a sound table, under any second map,
-- is the same table on the date. The four returns with no have nothing to show; the last has the date in the cover, not
-- before the table's, and the front in the first place (`rolls-kept`).
use mathlib.Core.Path.{◌≡◌, refl, sym}
use mathlib.Core.Bool.{true≢false}
use lib.ListN.{length}
use borrow.Author.Tests.{le-leb}
use Rattle.questions.proofs.Bools.{said-yes}
use Rattle.session_apart.proofs.Keeping.{rolls-kept}
use Rattle.session_apart.proofs.rolls_on.Goals as goal

pub returns-then-letter-ne82 : goal.returns-then-letter-ne82
returns-then-letter-ne82 c = λ e. absurd (true≢false (sym e))

pub returns-then-not-ten : goal.returns-then-not-ten
returns-then-not-ten c = λ e. absurd (true≢false (sym e))

pub returns-then-not-in_cover : goal.returns-then-not-in_cover
returns-then-not-in_cover c = λ e. absurd (true≢false (sym e))

pub returns-then-date-rest : goal.returns-then-date-rest
returns-then-date-rest c = λ e. absurd (true≢false (sym e))

pub returns : goal.returns
returns c = λ e.
    let len : length c.args.rest.maturities ≡ 15 = c.well_formed.1.1.0.1.1.1.1.1.0.1.0.1 in
    let front = rw c.front_key_in.ensures at e in (
      c.if-letter-ne82.false,
      said-yes refl c.if-not-ten.false,
      rolls-kept _ _ len _ (said-yes c.in_cover.ensures c.if-not-in_cover.false) (le-leb _ _ c.if-date-rest.false) front,
    )
