-- What was told is as long as the lines before the next one, where all lines come next; each line then comes next, and at the end all lines of the place
-- are there.
use Rattle.std.proofs.Common.{◌≡◌, ℕ, ◌+◌, Bool, true, false, cond, List, [], length, refl, ap, ◌∙◌, arith}
use borrow.Author.Tests.{not-true, not-false}
use Rattle.delivery_refusals.specs.Refusals.{refusal_lines}
use Rattle.file_text_print.specs.WholeText.{NextOf}
use Rattle.delivery_parts.proofs.Handing.{line-long, line-few, line-next, no-refusals, more-refusals, next-refusal, refusal-line-short, few-refusals}
use Rattle.delivery_handing.proofs.tell_place.Goals as goal

-- a place with a record, and one without
held : (b : Bool) (all lines : List ℕ) (at : ℕ) → b ≡ true → NextOf all at (cond b lines []) → NextOf all at lines
held b all lines at e n = rw e at n

held-long : (b : Bool) (lines : List ℕ) → b ≡ true → length (cond b lines []) ≡ length lines
held-long b lines e = rw e refl

none-long : (b : Bool) (lines : List ℕ) → b ≡ false → length (cond b lines []) ≡ 0
none-long b lines e = rw e refl

pub returns-then-not-part : goal.returns-then-not-part
returns-then-not-part c =
    let p = c.args.part in
    let lines = refusal_lines p.id c.args.opened p.refusal c.args.calls.now c.args.refusals.now (c.args.count + 1) in
    (refl, λ k s x. (omega (arith, none-long p.holds lines (not-true _ c.if-not-part.true)), omega arith))

pub returns-then-count-gt6553 : goal.returns-then-count-gt6553
returns-then-count-gt6553 c = (refl, λ k s x. absurd (omega (arith, k, c.if-count-gt6553.true)))

pub loop-i-init : goal.loop-i-init
loop-i-init c =
    let p = c.args.part in
    (refl, λ s x. omega (arith, no-refusals p.id c.args.opened p.refusal c.args.calls.now c.args.refusals.now))

pub overflow_add-i-end : goal.overflow_add-i-end
overflow_add-i-end c = omega (arith, c.if-count-gt6553.false)

pub returns : goal.returns
returns c =
    let p = c.args.part in
    let o = c.args.opened in
    let calls = c.args.calls.now in
    let rs = c.args.refusals.now in
    let n = c.args.count + 1 in
    let v = c.loop-i.invariant in
    let four : length p.id ≡ 4 = c.well_formed.1.1.1.1.0.1.1.1.1.0.1.0.1 in
    let e : c.loop-i.i ≡ n = omega (arith, c.loop-i.auto.i-end, c.loop-i-test.false) in (
      v.0,
      λ k s x.
          let t : c.loop-i.h.told ≡ c.args.handed.told + length (refusal_lines p.id o p.refusal calls rs n) =
          v.1 s (held p.holds _ _ _ (not-false _ c.if-not-part.false) x)
          ∙ ap (λ (j : ℕ). c.args.handed.told + length (refusal_lines p.id o p.refusal calls rs j)) e
          in (
            omega (arith, t, held-long p.holds (refusal_lines p.id o p.refusal calls rs n) (not-false _ c.if-not-part.false)),
            omega (arith, t, few-refusals p.id o p.refusal calls rs four n, k),
          ),
    )

pub loop-i-preserved : goal.loop-i-preserved
loop-i-preserved c =
    let few = c.if-count-gt6553.false in
    let p = c.args.part in
    let o = c.args.opened in
    let calls = c.args.calls.now in
    let rs = c.args.refusals.now in
    let i = c.loop-i.i in
    let four : length p.id ≡ 4 = c.well_formed.1.1.1.1.0.1.1.1.1.0.1.0.1 in
    let made = c.refusal_line-line.ensures in
    let v = c.loop-i.invariant in
    let u = c.tell-h.ensures in (
      u.0 ∙ v.0,
      λ s x.
          let far : c.loop-i.h.told ≡ c.args.handed.told + length (refusal_lines p.id o p.refusal calls rs i) = v.1 s x in
          let one = u.1 (line-few made (refusal-line-short _ _ _ _ _ four _))
          (omega (arith, far, few-refusals p.id o p.refusal calls rs four i, few, s, c.loop-i-test.true))
          (rw far (line-next made (refusal-line-short _ _ _ _ _ four _) (next-refusal p.id o p.refusal calls rs _ _ _ i c.loop-i-test.true x))) in
          omega (arith, one, far, line-long made (refusal-line-short p.id o p.refusal calls rs four i), more-refusals p.id o p.refusal calls rs i),
    )
