-- `delivered_of` gives the first row with a key and whether there are more. Without a first row there is none (`none-stands`); the row at the
-- first place is the first with the key (`row_is`), and a place after it with the key is a row more (`counted`).
use Prim.Native.Nat.{◌+◌, ◌-◌}
use mathlib.Core.Path.{◌≡◌, ◌∙◌, sym}
use native.Mathlib.Omega.{arith}
use lib.ListN.{length, take, drop, length-drop}
use lib.Seq.{take_all}
use Rattle.delivery_differences.proofs.KeyRows.{none-stands, row_is, counted}
use Rattle.delivery_differences.proofs.delivered_of.Goals as goal

pub returns-in_err-first : goal.returns-in_err-first
returns-in_err-first c =
    let a = c.args in
    rw c.from_residual.ensures (none-stands a.keys.now a.days.now a.fulls.now a.numbers.now a.backs.now a.places.now a.key (sym c.in_err-first.ensures.found))

pub returns : goal.returns
returns c =
    let a = c.args in
    let places = a.places.now in
    let after = c.in_ok-first.first + 1 in
    let e = sym c.in_ok-first.ensures.found in
    let rest : take (length places - after) (drop after places) ≡ drop after places =
    take_all (length places - after) (drop after places) (omega (arith, length-drop after places)) in (
      rw c.is_some-again.ensures (counted a.keys.now a.days.now a.fulls.now a.numbers.now a.backs.now places a.key _ e _
          (rw rest at c.place_of-2.ensures.found)),
      (rw c.from.ensures at c.row_at-row.ensures) ∙ row_is a.keys.now a.days.now a.fulls.now a.numbers.now a.backs.now places a.key _ e,
    )
