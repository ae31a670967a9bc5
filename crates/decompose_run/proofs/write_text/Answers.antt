-- What was written is the text of the lines before the next one; each part that is printed comes next, and at the end all lines are there.
use native.Mathlib.Omega.{arith}
use mathlib.Core.Path.{refl, sym, ◌∙◌}
use mathlib.Core.Bool.{true≢false}
use Prim.Native.Nat.{◌<◌}
use Rattle.questions.proofs.Bools.{said-no, said-yes}
use Rattle.file_text_print.proofs.WholeText.{no_lines, lines_more, all_lines, next-lines}
use Rattle.decompose_run.proofs.write_text.Goals as goal

pub loop-next-init : goal.loop-next-init
loop-next-init c = (refl, omega arith, c.nothing_sent-sent.ensures.1 ∙ sym (no_lines _ _))

pub write_out-sent-requires : goal.write_out-sent-requires
write_out-sent-requires c =
    let pre = c.requires in
    let v = c.loop-next.invariant in
    let p = c.print_lines-p.ensures in
    (p.fits, pre.1, next-lines _ pre.2 _ pre.3 _ _ _ _ p v.1 _ v.2)

pub shape_of-out-then-not-is_open : goal.shape_of-out-then-not-is_open
shape_of-out-then-not-is_open c =
    c.print_lines-p.ensures.long ∙ c.loop-next.invariant.0

pub returns-then-not-is_open : goal.returns-then-not-is_open
returns-then-not-is_open c = λ e. absurd (true≢false (sym e ∙ said-no c.is_open.ensures c.if-not-is_open.true))

pub loop-next-smaller : goal.loop-next-smaller
loop-next-smaller c =
    let pre = c.requires in
    let p = c.print_lines-p.ensures in
    let q = c.line_count-count.ensures in
    let m : c.loop-next.next < c.print_lines-p.result.next =
    p.moves (omega (arith, pre.0, c.loop-next.invariant.0)) (omega (arith, q, c.loop-next-test.true))
    in
    omega (arith, m, c.loop-next-test.true)

pub loop-next-preserved : goal.loop-next-preserved
loop-next-preserved c =
    let v = c.loop-next.invariant in
    let p = c.print_lines-p.ensures in
    let w = c.write_out-sent.ensures (said-yes c.is_open.ensures c.if-not-is_open.false) in
    (p.long ∙ v.0, p.within v.1, omega (arith, w, v.2, lines_more _ _ _ _ _ _ p))

pub shape_of-out : goal.shape_of-out
shape_of-out c = c.loop-next.invariant.0

pub returns : goal.returns
returns c = λ e.
    let pre = c.requires in
    let v = c.loop-next.invariant in
    v.2 ∙ all_lines _ pre.2 _ pre.3 _ (omega (arith, v.1, c.line_count-count.ensures, c.loop-next-test.false))
