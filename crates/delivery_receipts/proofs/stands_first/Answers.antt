-- True exactly where no row before row `i` has its id.
-- The loop keeps: no row before `j` has the id of row `i`. A row with the same id is a no (`every-not`),
-- any other is one more without it (`every_more`); at the end `j` is `i`.
use mathlib.Core.Path.{◌≡◌, ◌∙◌, sym, ap}
use native.Mathlib.Omega.{arith}
use mathlib.Core.Bool.{not}
use Rattle.questions.proofs.Search.{every-none, every_more, every-not}
use Rattle.delivery_receipts.proofs.stands_first.Goals as goal

pub loop-j-init : goal.loop-j-init
loop-j-init c = every-none _

pub returns-then-same_id : goal.returns-then-same_id
returns-then-same_id c = sym (every-not _ _ _ (ap not
    (sym (rw (c.id_in.ensures, c.id_in-id.ensures) at c.same_id.ensures) ∙ c.if-same_id.true))
    c.loop-j-test.true)

pub loop-j-preserved : goal.loop-j-preserved
loop-j-preserved c =
    every_more _ _ c.loop-j.invariant
    (ap not (sym (rw (c.id_in.ensures, c.id_in-id.ensures) at c.same_id.ensures) ∙
    c.if-same_id.false))

-- ---- the end
pub returns : goal.returns
returns c =
    let e : c.loop-j.j ≡ c.args.i = omega arith in
    sym (rw e at c.loop-j.invariant)
