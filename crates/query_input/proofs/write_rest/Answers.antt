-- Part after part: a run from here on is the rest of one from line 1 on, with as many bytes as were read; after the last read the last line ends it.
use mathlib.Core.Path.{refl, sym, ap, ◌∙◌}
use mathlib.Core.Bool.{true≢false}
use native.Mathlib.Omega.{arith}
use lib.Seq.{length-take-le}
use Rattle.questions.proofs.Bools.{said-no, said-yes}
use Rattle.streams.specs.declared.output.Sent.{Sent}
use Rattle.streams.specs.declared.reads.Input.{Input}
use Rattle.delivery_sessions.proofs.QueryRuns.{came-more, came-all}
use Rattle.query_input.proofs.write_rest.Goals as goal

pub loop-part-init : goal.loop-part-init
loop-part-init c =
    (c.requires.0, refl, refl, sym c.large_buffer-part.ensures, c.requires.1)

pub slice_bounds-write_part-end : goal.slice_bounds-write_part-end
slice_bounds-write_part-end c = sym (length-take-le _ _ c.read_part-read.ensures.within.0)

pub write_part-k-requires : goal.write_part-k-requires
write_part-k-requires c =
    let v = c.loop-part.invariant in
    omega (arith, v.0, v.1)

pub shape_of-refusals-then-not-is_open : goal.shape_of-refusals-then-not-is_open
shape_of-refusals-then-not-is_open c =
    omega (arith, c.loop-part.invariant.2)

pub shape_of-out-then-not-is_open : goal.shape_of-out-then-not-is_open
shape_of-out-then-not-is_open c =
    omega (arith, c.loop-part.invariant.1)

pub returns-then-not-is_open : goal.returns-then-not-is_open
returns-then-not-is_open c = λ e f.
    absurd (true≢false (sym e ∙ ap (λ (s : Sent). s.open) c.ended.ensures.1 ∙ said-no c.is_open.ensures c.if-not-is_open.true))

pub loop-part-smaller : goal.loop-part-smaller
loop-part-smaller c =
    c.read_part-read.ensures.fewer (omega arith) (omega (arith, c.part-in-loop-part-1.given))
    (omega (arith, c.loop-part-test.true, c.reads_left.ensures))

pub loop-part-preserved : goal.loop-part-preserved
loop-part-preserved c =
    let v = c.loop-part.invariant in
    let w = c.read_part-read.ensures in
    let d = rw v.2 at (c.write_part-k.ensures (said-yes c.is_open.ensures c.if-not-is_open.false)) in (
      v.0,
      omega (arith, v.1),
      omega (arith, v.2, c.refusals-1.given),
      c.part-in-loop-part-1.given,
      came-more _ _ _ _ _ _ _ _ _ _ _ _ v.4 d (omega (arith, w.count, w.within.1)),
    )

pub shape_of-refusals-then-has_failed : goal.shape_of-refusals-then-has_failed
shape_of-refusals-then-has_failed c =
    omega (arith, c.loop-part.invariant.2)

pub shape_of-out-then-has_failed : goal.shape_of-out-then-has_failed
shape_of-out-then-has_failed c = omega (arith, c.loop-part.invariant.1)

pub returns-then-has_failed : goal.returns-then-has_failed
returns-then-has_failed c = λ e f.
    absurd (true≢false (sym c.if-has_failed.true ∙ c.has_failed.ensures ∙ ap (λ (i : Input). i.failed) (sym c.ended-then-has_failed.ensures.0) ∙ f))

pub write_last-requires : goal.write_last-requires
write_last-requires c =
    let v = c.loop-part.invariant in
    (omega (arith, v.0, v.1), omega (arith, c.reads_left.ensures, c.loop-part-test.false), sym c.has_failed.ensures ∙ c.if-has_failed.false)

pub shape_of-refusals : goal.shape_of-refusals
shape_of-refusals c =
    omega (arith, c.loop-part.invariant.2)

pub shape_of-out : goal.shape_of-out
shape_of-out c = omega (arith, c.loop-part.invariant.1)

pub returns : goal.returns
returns c = λ e f.
    let v = c.loop-part.invariant in
    let w = rw v.2 at c.write_last.ensures in
    rw w.0 (omega (arith, c.reads_left.ensures, c.loop-part-test.false), came-all _ _ _ _ _ _ _ _ v.4 (w.1 e) w.2)
