-- Buffer after buffer: what was written is the text up to the place that is reached.
use mathlib.Core.Path.{refl, sym, ◌∙◌}
use mathlib.Core.Bool.{true≢false}
use native.Mathlib.Omega.{arith}
use Rattle.questions.proofs.Bools.{said-no, said-yes}
use Rattle.delivery_sessions.specs.QueryRuns.{answers}
use Rattle.delivery_sessions.proofs.QueryRuns.{handed-none, handed-more, handed-all}
use borrow.Author.Rules.{rules}
use Rattle.query_input.proofs.write_part.Goals as goal

pub loop-s-init : goal.loop-s-init
loop-s-init c = (c.requires, refl, refl, handed-none _ _ _ _ _ _ (search rules))

pub write_out-sent-requires : goal.write_out-sent-requires
write_out-sent-requires c =
    let a = rw c.loop-s.invariant.2 at c.answer_part-p.ensures in
    (a.fits, answers a.text)

pub shape_of-refusals-then-not-is_open : goal.shape_of-refusals-then-not-is_open
shape_of-refusals-then-not-is_open c =
    omega (arith, c.loop-s.invariant.2)

pub shape_of-out-then-not-is_open : goal.shape_of-out-then-not-is_open
shape_of-out-then-not-is_open c =
    omega (arith, c.answer_part-p.ensures.long, c.loop-s.invariant.1)

pub returns-then-not-is_open : goal.returns-then-not-is_open
returns-then-not-is_open c = λ e. absurd (true≢false (sym e ∙ said-no c.is_open.ensures c.if-not-is_open.true))

pub loop-s-smaller : goal.loop-s-smaller
loop-s-smaller c =
    let v = c.loop-s.invariant in
    omega (
      arith,
      c.loop-s-test.true,
      c.answer_part-p.ensures.moves (omega (arith, v.0, v.1)) c.loop-s-test.true,
    )

pub loop-s-preserved : goal.loop-s-preserved
loop-s-preserved c =
    let v = c.loop-s.invariant in
    let a = rw v.2 at c.answer_part-p.ensures in
    let w = c.write_out-sent.ensures (said-yes c.is_open.ensures c.if-not-is_open.false) in
    (v.0, a.long ∙ v.1, omega (arith, v.2, c.refusals-1.given), handed-more _ _ _ _ _ _ _ _ _ _ _ _ _ _ _ v.3 a w)

pub shape_of-refusals : goal.shape_of-refusals
shape_of-refusals c = c.loop-s.invariant.2

pub shape_of-out : goal.shape_of-out
shape_of-out c = c.loop-s.invariant.1

pub returns : goal.returns
returns c = λ e. handed-all _ _ _ _ _ _ _ _ _ _ _ c.loop-s-test.false c.loop-s.invariant.3
