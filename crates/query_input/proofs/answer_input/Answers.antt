-- The first part, then the others; an input of fewer than three bytes is one part, and has ended.
use mathlib.Core.Path.{sym, ap, ◌∙◌}
use mathlib.Core.Bool.{true≢false}
use native.Mathlib.Omega.{arith}
use lib.Seq.{length-take-le}
use Rattle.questions.proofs.Bools.{said-no, said-yes}
use Rattle.streams.specs.declared.output.Sent.{Sent}
use Rattle.streams.specs.declared.reads.Input.{Input}
use Rattle.delivery_sessions.proofs.QueryRuns.{came-first, came-short}
use Rattle.query_input.proofs.FirstPart.{three}
use Rattle.query_input.proofs.answer_input.Goals as goal

pub returns-then-has_failed : goal.returns-then-has_failed
returns-then-has_failed c = λ e f.
    absurd (true≢false (sym c.if-has_failed.true ∙ c.has_failed.ensures ∙ ap (λ (i : Input). i.failed) (sym c.nothing_answered.ensures.0) ∙
    f))

pub slice_bounds-write_first-end : goal.slice_bounds-write_first-end
slice_bounds-write_first-end c = sym (length-take-le _ _ c.read_first-read.ensures.within.0)

pub write_first-k-requires : goal.write_first-k-requires
write_first-k-requires c = omega (arith, c.large_buffer-out.ensures)

pub returns-then-not-is_open : goal.returns-then-not-is_open
returns-then-not-is_open c = λ e f.
    absurd (true≢false (sym e ∙ ap (λ (s : Sent). s.open) c.ended.ensures.1 ∙ said-no c.is_open.ensures c.if-not-is_open.true))

pub write_last-requires : goal.write_last-requires
write_last-requires c =
    let w = c.read_first-read.ensures in (
      omega (arith, c.out-2-1.given),
      w.ended c.if-n-lt3.true (omega (arith, c.if-n-lt3.true, c.part-2-1.given)),
      sym c.has_failed.ensures ∙ c.if-has_failed.false,
    )

pub returns-then-n-lt3 : goal.returns-then-n-lt3
returns-then-n-lt3 c = λ e f.
    let w = c.read_first-read.ensures in
    let none = c.nothing_read.ensures in
    let x = rw c.refusals-1.given at c.write_last.ensures in
    rw x.0 (
      w.ended c.if-n-lt3.true (omega (arith, c.if-n-lt3.true, c.part-2-1.given)),
      came-short _ _ _ _ _ _ _ _ _ (omega (arith, w.count, w.within.1, none.1))
          (c.write_first-k.ensures (said-yes c.is_open.ensures c.if-not-is_open.false)) (x.1 e) x.2,
    )

pub write_rest-requires : goal.write_rest-requires
write_rest-requires c =
    let w = c.read_first-read.ensures in
    let none = c.nothing_read.ensures in (
      omega (arith, c.out-2-1.given),
      rw c.refusals-1.given
          (came-first _ _ _ _ _ _ _ (three _ _ c.if-n-lt3.false w.within.0) (omega (arith, w.count, w.within.1, none.1))
          (c.write_first-k.ensures (said-yes c.is_open.ensures c.if-not-is_open.false))),
    )

pub returns : goal.returns
returns c =
    rw c.refusals-1.given at c.write_rest.ensures
