-- What was told is as long as the lines before the next one, where all lines come next; each line then comes next, and at the end all lines are there.
use Rattle.std.proofs.Common.{◌≡◌, ℕ, ◌+◌, List, length, refl, ap, ◌∙◌, arith}
use Rattle.delivery_refusals.specs.Refusals.{unknown_lines}
use Rattle.delivery_parts.proofs.Handing.{line-long, line-few, line-next, no-unknown, more-unknown, next-unknown, unknown-short, few-unknown}
use Rattle.delivery_handing.proofs.tell_unknown.Goals as goal

pub loop-i-init : goal.loop-i-init
loop-i-init c =
    (refl, λ k s x. omega (arith, no-unknown c.args.file.now c.args.calls.now c.args.ids.now))

pub loop-i-preserved : goal.loop-i-preserved
loop-i-preserved c =
    let f = c.args.file.now in
    let calls = c.args.calls.now in
    let ids = c.args.ids.now in
    let i = c.loop-i.i in
    let made = c.unknown_measure_line-line.ensures in
    let v = c.loop-i.invariant in
    let u = c.tell-h.ensures in (
      u.0 ∙ v.0,
      λ k s x.
          let far : c.loop-i.h.told ≡ c.args.handed.told + length (unknown_lines f calls ids i) = v.1 k s x in
          let one = u.1 (line-few made (unknown-short _ _ _ _))
          (omega (arith, far, few-unknown f calls ids i, k, s, c.loop-i-test.true))
          (rw far (line-next made (unknown-short _ _ _ _) (next-unknown f calls ids _ _ _ i c.loop-i-test.true x))) in
          omega (arith, one, far, line-long made (unknown-short f calls ids i), more-unknown f calls ids i),
    )

pub returns : goal.returns
returns c =
    let v = c.loop-i.invariant in
    let e : c.loop-i.i ≡ c.args.count = omega (arith, c.loop-i.auto.i-end, c.loop-i-test.false) in
    let lines : ℕ → List ℕ = unknown_lines c.args.file.now c.args.calls.now c.args.ids.now in
    (v.0, λ k s x. v.1 k s x ∙ ap (λ (n : ℕ). c.args.handed.told + length (lines n)) e)
