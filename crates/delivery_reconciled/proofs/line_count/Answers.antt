-- No bytes are 0, any others 1.
use mathlib.Core.Path.{sym, ap}
use mathlib.Core.Bool.{Bool, cond}
use Prim.Native.Nat.{ℕ}
use native.Mathlib.Omega.{arith}
use borrow.Author.Tests.{eq-eqb, ne_eqb}
use Rattle.delivery_reconciled.proofs.line_count.Goals as goal

pub returns-then-line-eq0 : goal.returns-then-line-eq0
returns-then-line-eq0 c = (ap (λ (b : Bool). cond {A = ℕ} b 0 1) (sym (eq-eqb _ 0 c.if-line-eq0.true)), omega arith)

pub returns : goal.returns
returns c = (ap (λ (b : Bool). cond {A = ℕ} b 0 1) (sym (ne_eqb _ 0 c.if-line-eq0.false)), omega arith)
