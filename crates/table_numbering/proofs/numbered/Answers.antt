-- A month that was there keeps its number and the count given; one that enters takes the next number, and the count is that
-- number (`found-listed`, `none-listed`).
use Rattle.std.proofs.Common.{rules, tests, nat_eq}
use Rattle.std.proofs.lemmas.Iterator.{YieldsList-from_slice}
use Rattle.std.proofs.lemmas.Iterator.Search.{find_from_yields_List}
use Rattle.table_numbering.proofs.FirstMaturities.{found-listed, none-listed}
use mathlib.Core.Path.{refl, sym}
use Rattle.table_numbering.proofs.numbered.Goals as goal

pub returns-in-Some : goal.returns-in-Some
returns-in-Some c =
    let e =
    find_from_yields_List (λ o. nat_eq o.key c.args.m.key) _ _ c.find.result c.find.ensures.ran (YieldsList-from_slice c.args.old.now c.iter.ensures.rest)
    (λ x b q k. search (rules, tests)) in
    let f = found-listed c.args.m.key c.args.old.now c.in-Some.same.now (sym (rw c.in-Some.is at e)) in
    (rw (f.0, f.1) refl, rw f.0 refl)

pub returns-in-None : goal.returns-in-None
returns-in-None c =
    let e =
    find_from_yields_List (λ o. nat_eq o.key c.args.m.key) _ _ c.find.result c.find.ensures.ran (YieldsList-from_slice c.args.old.now c.iter.ensures.rest)
    (λ x b q k. search (rules, tests)) in
    let f = none-listed c.args.m.key c.args.old.now (sym (rw c.in-None.is at e)) in
    (rw f refl, rw f refl)
