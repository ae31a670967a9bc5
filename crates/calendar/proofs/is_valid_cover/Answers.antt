-- 1 to 16 years from 2000 to 2099: the years are the definition's first two tests, and where they hold, the first year's last one is 2100 less the years.
use Rattle.std.proofs.Common.{rules, tests, ◌≡◌, ◌&&◌, ◌∙◌}
use lib.Dec.{leb}
use borrow.Author.Tests.{leb-true, le-leb}
use mathlib.Core.Bool.{Bool, and_assoc}
use mathlib.Core.Path.{sym, ap}
use Prim.Native.Nat.{◌+◌, ◌-◌, ◌≤◌}
use native.Mathlib.Omega.{arith}
use Rattle.questions.proofs.Bools.{both, same_test}
use Rattle.calendar.specs.Trading.{valid_cover}
use Rattle.calendar.proofs.is_valid_cover.Goals as goal

pub returns-then-contains : goal.returns-then-contains
unfolding valid_cover
returns-then-contains c =
    let f = c.args.cover.first_year in
    let y = c.args.cover.years in
    let few : c.contains.result ≡ (leb 1 y && leb y 16) = search (rules, tests) in
    let (one, most) = both (leb 1 y) (leb y 16) (sym few ∙ c.if-contains.true) in
    let m : y ≤ 16 = leb-true y 16 most in
    let first : c.contains-then-contains.result ≡ (leb 2000 f && leb f (2100 - y)) = search (rules, tests) in
    let last : leb f (2100 - y) ≡ leb (f + y) 2100 =
    same_test _ _
    (λ e. let l : f ≤ 2100 - y = leb-true f (2100 - y) e in le-leb (f + y) 2100 (omega (arith, l, m)))
    (λ e. let l : f + y ≤ 2100 = leb-true (f + y) 2100 e in le-leb f (2100 - y) (omega (arith, l, m))) in
    rw (one, most, ← last) first

pub returns-else-contains : goal.returns-else-contains
unfolding valid_cover
returns-else-contains c =
    let f = c.args.cover.first_year in
    let y = c.args.cover.years in
    let rest = leb 2000 f && leb (f + y) 2100 in
    let few : c.contains.result ≡ (leb 1 y && leb y 16) = search (rules, tests) in
    c.if-contains.false ∙ sym (ap (λ (b : Bool). b && rest) (sym few ∙ c.if-contains.false)) ∙ and_assoc (leb 1 y) (leb y 16) rest
