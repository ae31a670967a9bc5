-- `answer_all` writes the whole text of the session, where the output stays open. The loop keeps: both buffers have 65,536 bytes, the verdict is the file's
-- own, and a run that goes on from here is one from the start, with as many bytes as were read (`CameFar`). Each part leads on (`far-more`), and
-- after the last read the last line ends it (`far-all`, `far-input`).
use native.Mathlib.Omega.{arith}
use mathlib.Core.Path.{refl, sym, ◌∙◌}
use mathlib.Core.Bool.{true≢false}
use Rattle.questions.proofs.Bools.{said-no, said-yes}
use Rattle.terms_run.proofs.PartsRead.{far_none, far-more, far-all, far-input, failed-2}
use Rattle.terms_run.proofs.answer_all.Goals as goal

-- ---- before the loop
pub loop-part-init : goal.loop-part-init
loop-part-init c = (
  sym c.large_buffer-part.ensures,
  sym c.large_buffer-out.ensures,
  c.judge-judged.ensures,
  rw (c.no_text-text.ensures.1, c.empty_line-line.ensures, c.nothing_kept-kept.ensures)
      (far_none _ _ c.nothing_read-input.ensures.1),
)

pub returns-then-not-is_open : goal.returns-then-not-is_open
returns-then-not-is_open c =
    rw c.ended.ensures
    (refl, (λ w. failed-2 _ _ w), λ e. absurd (true≢false (sym e ∙ said-no c.is_open.ensures c.if-not-is_open.true)))

pub loop-part-smaller : goal.loop-part-smaller
loop-part-smaller c =
    c.read_part-read.ensures.fewer (omega arith) (omega (arith, c.part-in-loop-part-1.given))
    (omega (arith, c.loop-part-test.true, c.reads_left.ensures))

pub loop-part-preserved : goal.loop-part-preserved
loop-part-preserved c =
    let w = c.read_part-read.ensures in
    let v = c.loop-part.invariant in
    let d = c.write_part-k.ensures (omega (arith, v.1)) (said-yes c.is_open.ensures c.if-not-is_open.false) in
    (c.part-in-loop-part-1.given, c.out-in-loop-part-1.given, v.2, far-more _ _ _ _ _ _ _ _ _ _ _ v.3 w.within.0 d w.count)

pub returns : goal.returns
returns c =
    let v = c.loop-part.invariant in
    rw c.ended-2.ensures (
      refl,
      (λ w. failed-2 _ _ w),
      λ e.
          let w = c.write_last-all.ensures (omega (arith, v.1)) (omega (arith, c.reads_left.ensures, c.loop-part-test.false)) in
          let r = far-all _ _ _ _ _ _ _ v.3 (w.1 e) w.0 in
          far-input _ _ _ _ _ (rw v.2 at r) (omega (arith, c.reads_left.ensures, c.loop-part-test.false)),
    )
