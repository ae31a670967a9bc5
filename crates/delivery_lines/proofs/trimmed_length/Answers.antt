-- `trimmed_length` gives the length without the blanks at the end. The loop goes from the last byte to the first and keeps: the first n bytes
-- trimmed are the line trimmed. A blank drops off (`trim-more`), the first other byte is the last that stays (`trim-done`), and blanks alone
-- leave nothing (`trim-none`).
use mathlib.Core.Path.{◌≡◌, ◌∙◌, sym, ap}
use Prim.Native.Nat.{◌-◌, ◌+◌}
use native.Mathlib.Omega.{arith}
use lib.Seq.{take_all}
use Rattle.delivery_lines.specs.NoticeLines.{trimmed}
use Rattle.delivery_lines.proofs.Trimming.{trim-more, trim-done, trim-none}
use Rattle.delivery_lines.proofs.trimmed_length.Goals as goal

pub loop-n-init : goal.loop-n-init
loop-n-init c = ap trimmed (take_all _ c.args.line.now (omega arith))

pub loop-n-preserved : goal.loop-n-preserved
loop-n-preserved c =
    trim-more _ _ c.loop-n.auto.n c.loop-n-test.true (sym c.is_blank.ensures ∙ c.if-not-is_blank.false) c.loop-n.invariant

pub returns-then-not-is_blank : goal.returns-then-not-is_blank
returns-then-not-is_blank c =
    let e : c.loop-n.n - 1 + 1 ≡ c.loop-n.n = omega (arith, c.loop-n-test.true) in
    let last = sym c.is_blank.ensures ∙ c.if-not-is_blank.true in (
      rw e (trim-done _ _ c.loop-n.auto.n (λ _. last) c.loop-n.invariant),
      omega (arith, c.loop-n.auto.n, c.loop-n-test.true),
    )

pub returns : goal.returns
returns c = (trim-none _ _ (omega (arith, c.loop-n-test.false)) c.loop-n.invariant, omega arith)
