-- A file that is refused is told, and nothing else; else the notices are read, and where they cannot be, nothing is told.
use mathlib.Core.Path.{sym, ◌∙◌}
use native.Mathlib.Omega.{arith}
use lib.Seq.{length-take-le}
use Rattle.questions.proofs.Bools.{clash}
use Rattle.reconcile_run.proofs.Fits.{refused-line, refused-first, refused-reads, refused-ran, accepted-first, unread-ran, file-refused, file-accepted}
use Rattle.reconcile_run.proofs.on_file.Goals as goal

pub tell_refused-told-requires : goal.tell_refused-told-requires
tell_refused-told-requires c = refused-line _ _ _ c.judge-judged.ensures c.if-refusal-ne0.true _ c.master_line.ensures

pub returns-then-refusal-ne0 : goal.returns-then-refusal-ne0
returns-then-refusal-ne0 c =
    let own = c.judge-judged.ensures in
    let some = c.if-refusal-ne0.true in
    file-refused _ _ (refused-first _ _ own some) _ c.not_read-notices.ensures
    (refused-ran _ _ (refused-reads _ _ own _ some) _ c.tell_refused-told.ensures _ c.no_rows-rows.ensures)

pub returns-then-could_not : goal.returns-then-could_not
returns-then-could_not c =
    file-accepted _ _ (accepted-first _ _ c.judge-judged.ensures c.if-refusal-ne0.false) _ c.read_notices-notices.ensures
    (λ y. unread-ran _ c.nothing_told.ensures _ c.no_rows-rows-then-could_not.ensures)
    (λ n. clash (sym c.could_not.ensures ∙ c.if-could_not.true) n)

pub slice_bounds-with_notices-end : goal.slice_bounds-with_notices-end
slice_bounds-with_notices-end c = omega (arith, c.size-n.ensures, c.read_notices-notices.ensures.1)

pub slice_bounds-with_notices-end-2 : goal.slice_bounds-with_notices-end-2
slice_bounds-with_notices-end-2 c = sym (length-take-le _ _ (omega (
  arith,
  c.size-n.ensures,
  c.read_notices-notices.ensures.1,
)))

pub with_notices-rows-requires : goal.with_notices-rows-requires
with_notices-rows-requires c = (
  c.judge-judged.ensures,
  c.if-refusal-ne0.false,
  c.requires,
)

pub returns : goal.returns
returns c =
    file-accepted _ _ (accepted-first _ _ c.judge-judged.ensures c.if-refusal-ne0.false) _ c.read_notices-notices.ensures
    (λ y. clash y (sym c.could_not.ensures ∙ c.if-could_not.false)) (λ n. rw c.size-n.ensures at c.with_notices-rows.ensures)
