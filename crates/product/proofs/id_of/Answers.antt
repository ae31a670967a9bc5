-- An id of `count` characters, and then spaces. The loop keeps: i is at most 4, and the first i bytes pass. A byte that fails fails the id
-- (`every-not`), one that passes is one more (`every_more`); at the end i is 4.
use mathlib.Core.Path.{◌≡◌, sym}
use native.Mathlib.Omega.{arith}
use Rattle.questions.proofs.Bools.{said-no, said-yes}
use Rattle.questions.proofs.Search.{every-none, every_more, every-not}
use Rattle.product.specs.Fields.{id_of_length}
use Rattle.product.proofs.id_of.Goals as goal

-- ---- the loop begins with no bytes
pub loop-i-init : goal.loop-i-init
loop-i-init c = (omega arith, every-none _)

-- ---- a byte that fails
pub returns-then-not-id_byte : goal.returns-then-not-id_byte
unfolding id_of_length
returns-then-not-id_byte c =
    let l = c.loop-i in
    sym (every-not _ 4 l.i (said-no c.id_byte.ensures c.if-not-id_byte.true) (omega arith))

-- ---- a byte that passes
pub loop-i-preserved : goal.loop-i-preserved
loop-i-preserved c =
    let l = c.loop-i in
    (omega arith, every_more _ l.i l.invariant.1 (said-yes c.id_byte.ensures c.if-not-id_byte.false))

-- ---- after the loop: all four bytes
pub returns : goal.returns
unfolding id_of_length
returns c =
    let e : c.loop-i.i ≡ 4 = omega arith in
    sym (rw e at c.loop-i.invariant.1)
