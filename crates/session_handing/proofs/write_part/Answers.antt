-- `write_part` writes the answers to all lines that end in a part, where the output stays open. The loop keeps:
-- the buffer has its length of 512 or more, and what was sent, then the answers to the part from `s.at` on, are
-- those to all of it (`Handed`). Each turn leads on (`handed-more`); at the end nothing is left (`handed-all`).
use native.Mathlib.Omega.{arith}
use mathlib.Core.Path.{refl, sym, ◌∙◌}
use mathlib.Core.Bool.{true≢false}
use Rattle.questions.proofs.Bools.{said-no, said-yes}
use Rattle.session_parts.specs.TermsParts.{answers}
use Rattle.session_parts.proofs.TermsRuns.{handed-none, handed-more, handed-all}
use borrow.Author.Rules.{rules}
use Rattle.session_handing.proofs.write_part.Goals as goal

-- ---- before the loop
pub returns-then-out-lt512 : goal.returns-then-out-lt512
returns-then-out-lt512 c = λ k e. absurd (omega (arith, k, c.if-out-lt512.true))

pub loop-s-init : goal.loop-s-init
loop-s-init c = (omega (arith, c.if-out-lt512.false), refl, handed-none _ _ _ _ _ (search rules))

-- ---- a turn: what is written, and an output that is shut
pub write_out-text-requires : goal.write_out-text-requires
write_out-text-requires c =
    let a = c.answer_part-p.ensures in
    (a.fits, answers a.text)

pub shape_of-out-then-not-is_open : goal.shape_of-out-then-not-is_open
shape_of-out-then-not-is_open c =
    c.answer_part-p.ensures.long ∙ c.loop-s.invariant.1

pub returns-then-not-is_open : goal.returns-then-not-is_open
returns-then-not-is_open c = λ k e. absurd (true≢false (sym e ∙ said-no c.is_open.ensures c.if-not-is_open.true))

-- ---- the invariant after it
pub loop-s-smaller : goal.loop-s-smaller
loop-s-smaller c =
    let v = c.loop-s.invariant in
    omega (arith, c.loop-s-test.true, c.answer_part-p.ensures.moves (omega (arith, v.0, v.1)) c.loop-s-test.true)

pub loop-s-preserved : goal.loop-s-preserved
loop-s-preserved c =
    let v = c.loop-s.invariant in
    let a = c.answer_part-p.ensures in
    let w = c.write_out-text.ensures (said-yes c.is_open.ensures c.if-not-is_open.false) in
    (v.0, a.long ∙ v.1, handed-more _ _ _ _ _ _ _ _ _ _ _ _ _ v.2 a w)

-- ---- the end
pub shape_of-out : goal.shape_of-out
shape_of-out c = c.loop-s.invariant.1

pub returns : goal.returns
returns c = λ k e. handed-all _ _ _ _ _ _ _ _ _ c.loop-s-test.false c.loop-s.invariant.2
