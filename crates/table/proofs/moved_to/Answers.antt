-- Shown: the outcome is the definition's for the fresh listing. The count given is at most 60,000, so the sum fits and
-- `renumber` gives the new numbers; the months entered and left are the two counts of `count_missing`.
use native.Mathlib.Omega.{arith}
use borrow.Author.Tests.{le-leb}
use Rattle.table.proofs.moved_to.Goals as goal

pub returns : goal.returns
returns c =
    let t = c.args.t in
    let small = le-leb t.given 60000 (omega arith) in
    rw (c.renumber-maturities.ensures, small, c.count_missing-left.ensures.0, c.count_missing-entered.ensures.0)
