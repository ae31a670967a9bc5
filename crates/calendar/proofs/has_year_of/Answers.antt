-- Whether a day is in the cover, by its year: no day after 2099 is (`covers-past`), nor one whose year is before the first (`covers-early`);
-- of the others the number of years since the first decides (`covers-is`).
use Rattle.calendar.proofs.Covered.{covers-past, covers-early, covers-is}
use lib.Dec.{ltb}
use Prim.Native.Nat.{ℕ, ◌-◌}
use native.Mathlib.Omega.{arith}
use mathlib.Core.Path.{◌∙◌, sym, ap}
use Rattle.calendar.proofs.has_year_of.Goals as goal

pub returns-then-day-ge36525 : goal.returns-then-day-ge36525
returns-then-day-ge36525 c = sym (covers-past _ _ c.if-day-ge36525.true)

pub returns-in-Some : goal.returns-in-Some
returns-in-Some c =
    let e = c.in-Some.ensures in
    let v = c.args.cover in
    ap (λ (y : ℕ). ltb y v.years) (e.1 ∙ ap (λ (y : ℕ). y - v.first_year) c.year_of.ensures) ∙
    covers-is _ _ c.if-day-ge36525.false (rw c.year_of.ensures at e.0)

pub returns-in-None : goal.returns-in-None
returns-in-None c = sym (covers-early _ _ (omega (arith, c.in-None.ensures, c.year_of.ensures)))
