-- Before place p the first p places were handed out, where rows are printed, and at the end all places.
use Rattle.std.proofs.Common.{◌≡◌, ℕ, List, sym, ◌∙◌, true≢false, arith, rules}
use Rattle.questions.proofs.Bools.{said-no, said-yes}
use Rattle.delivery_parts.specs.Handing.{HandedTo}
use borrow.Author.Rules.{rules}
use Rattle.delivery_handing.proofs.print_places.Goals as goal

at-end : (f notices : List ℕ) (p q n m : ℕ) → p ≡ q → HandedTo f notices p n m → HandedTo f notices q n m
at-end f notices p q n m e w = rw (← e) w

pub loop-p-init : goal.loop-p-init
loop-p-init c = ((λ g w. w), search rules, search rules)

pub returns-then-not-is_open : goal.returns-then-not-is_open
returns-then-not-is_open c = λ g w e. absurd (true≢false (sym e ∙ said-no c.is_open.ensures c.if-not-is_open.true))

pub loop-p-preserved : goal.loop-p-preserved
loop-p-preserved c =
    let v = c.loop-p.invariant in
    let taken = said-yes c.is_open.ensures c.if-not-is_open.false in (
      (λ g w. c.print_place-h.ensures g (v.0 g w) (omega (arith, c.loop-p-test.true)) (omega (arith, v.1)) v.2 taken),
      c.refusals-in-loop-p-1.given,
      c.out-in-loop-p-1.given,
    )

pub returns : goal.returns
returns c = λ g w e.
    let v = c.loop-p.invariant in
    at-end _ _ _ _ _ _ (omega (arith, c.loop-p.auto.p-end, c.loop-p-test.false)) (v.0 g w)
