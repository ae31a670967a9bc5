-- The state is one that whole blocks of an input have left, and as many bytes were read as these have. The loop is left at the input's end,
-- or at a block that is refused whatever follows, or at a read that failed.
use mathlib.Core.Path.{◌≡◌, refl, sym, ◌∙◌}
use mathlib.Core.Bool.{false}
use mathlib.Core.List.{List}
use mathlib.Core.Logic.{◌⊎◌, inl, inr}
use Prim.Native.Nat.{ℕ, ◌*◌, ◌≤◌, ◌<◌}
use native.Mathlib.Omega.{arith}
use lib.ListN.{length, take}
use Rattle.questions.proofs.Bools.{lt-or-ge}
use Rattle.file_intake_text.proofs.Pieces.{goes_on, says-unread, says-finished, says-refused}
use borrow.Author.Rules.{rules}
use Rattle.gateway_run.proofs.read_blocks.Goals as goal
use Rattle.gateway_run.proofs.read_blocks.Goals.{else-loop-rt-test, then-loop-rt-test+else-has_failed+then-n-eq0}

-- a block that was read has a byte, and 512 at most
bytes : (n : ℕ) (block : List ℕ) → n ≤ length block → n ≡ length (take n block) → length block ≡ 512 → (n ≡ 0 → ⊥)
    → (0 < length (take n block)) × (length (take n block) ≤ 512)
bytes n block h l e z = go (lt-or-ge n 1)
  where
    go : (n < 1) ⊎ (1 ≤ n) → (0 < length (take n block)) × (length (take n block) ≤ 512)
    go (inl w) = absurd (z (omega arith))
    go (inr w) = (omega arith, omega arith)

pub loop-rt-init : goal.loop-rt-init
loop-rt-init c = (search rules, c.requires.0, omega (arith, c.nothing_read-input.ensures.1, c.requires.1), c.nothing_read-input.ensures.2)

pub returns-then-has_failed : goal.returns-then-has_failed
returns-then-has_failed c =
    says-unread _ _ _ (sym c.has_failed.ensures ∙ c.if-has_failed.true) c.refused-ended.ensures

pub returns-then-next-ne0 : goal.returns-then-next-ne0
returns-then-next-ne0 c =
    let v = c.loop-rt.invariant in
    let w = c.read_on_or_error-read.ensures in
    let z : length c.read_on_or_error-read.new.part ≡ 512 = omega (arith, v.0, c.read_on_or_error-read.auto.part) in
    let n = bytes _ _ w.within.0 w.within.1 z c.if-n-eq0.false in
    says-refused _ _ v.1 _ (sym c.has_failed.ensures ∙ c.if-has_failed.false) _ _ n.0 n.1 _ c.take-next.ensures c.if-next-ne0.true
    c.refused-ended-then-next-ne0.ensures (omega (arith, w.count, v.2, w.within.1, n.1, v.1.few.0, v.1.few.1))
    (λ s. w.ended (omega (arith, s, w.within.1)) (omega (arith, s, w.within.1, z)))

pub loop-rt-preserved : goal.loop-rt-preserved
loop-rt-preserved c =
    let v = c.loop-rt.invariant in
    let w = c.read_on_or_error-read.ensures in
    let z : length c.read_on_or_error-read.new.part ≡ 512 = omega (arith, v.0, c.read_on_or_error-read.auto.part) in
    let n = bytes _ _ w.within.0 w.within.1 z c.if-n-eq0.false in
    let g = goes_on _ _ v.1 _ n.0 n.1 _ c.take-next.ensures c.if-next-ne0.false _ refl in (
      z,
      g.0,
      omega (arith, w.count, v.2, w.within.1, g.1, g.2, v.1.few.0, v.1.few.1),
      sym c.has_failed.ensures ∙ c.if-has_failed.false,
    )

pub returns : goal.returns
returns c =
    let v = c.loop-rt.invariant in
    let i = c.loop-rt-test.input in
    let facts : (i.bytes ≡ 512 * c.loop-rt.state.taken) × (i.left ≡ 0) × (i.failed ≡ false) =
    elim c.loop-rt-test.branch [
      | else-loop-rt-test w ↦ rw w.input-is (v.2, omega (arith, c.reads_left.ensures, w.loop-rt-test.false), v.3)
      | then-loop-rt-test+else-has_failed+then-n-eq0 w ↦
          let r = w.read_on_or_error-read.ensures in
          let z : length w.read_on_or_error-read.new.part ≡ 512 = omega (arith, v.0, w.read_on_or_error-read.auto.part) in
          rw w.input-is (
            omega (arith, r.count, w.if-n-eq0.true, v.2, v.1.few.0, v.1.few.1),
            r.ended (omega (arith, w.if-n-eq0.true)) (omega (arith, w.if-n-eq0.true, z)),
            sym w.has_failed.ensures ∙ w.if-has_failed.false,
          )
    ] in
    says-finished _ _ v.1 _ facts.2 _ facts.0 facts.1 _ c.finished-ended.ensures c.finish.ensures.0
