-- The line goes on with the part's bytes up to its line feed, or up to the part's end, and the answer says which.
-- The loop keeps: the line so far ends with the bytes from `i` on where the line given ends with those from `from` on, and `i` is not past
-- both `from` and the part's end. A line feed ends the line (`line-ends`), any other byte makes it longer (`line_on`), and past the last byte
-- the part ends (`part-ends`).
use mathlib.Core.Path.{◌≡◌, refl, ◌∙◌}
use native.Mathlib.Omega.{arith}
use Rattle.delivery_items.proofs.LineEnds.{line_on, line-ends, part-ends}
use Rattle.delivery_items.proofs.line_from.Goals as goal

pub loop-i-init : goal.loop-i-init
loop-i-init c = (omega arith, refl)

pub returns-then-byte-eq10 : goal.returns-then-byte-eq10
returns-then-byte-eq10 c = line-ends _ _ _ c.loop-i-test.true c.if-byte-eq10.true ∙ c.loop-i.invariant.1

pub loop-i-preserved : goal.loop-i-preserved
loop-i-preserved c = (
  omega (arith, c.loop-i-test.true),
  line_on _ _ _ c.loop-i-test.true c.if-byte-eq10.false _ c.extend_long-l.ensures ∙ c.loop-i.invariant.1,
)

pub returns : goal.returns
returns c =
    let e : c.max.result ≡ c.loop-i.i = omega (arith, c.loop-i.invariant.0) in
    rw e (part-ends _ _ _ c.loop-i-test.false ∙ c.loop-i.invariant.1)
