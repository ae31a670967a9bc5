-- Question 23, of a date: the answers of the three ranges, each the definition's two comparisons (`at-most`), joined in its order.
use Rattle.std.specs.Prelude.{ℕ, Bool, true, false, ◌≡◌, eqb, leb, ltb, ◌≤◌}
use Rattle.std.specs.Ordering.{is_le, nat_cmp}
use mathlib.Core.Path.{refl}
use mathlib.Core.Bool.{and_assoc}
use borrow.Author.Tests.{lt-leb, le-leb, eqb-true, eqb-false, ltb-true, ltb-false}
use native.Mathlib.Omega.{arith}
use Rattle.days.specs.Dates.{valid_date}
use Rattle.days.proofs.is_date.Goals as goal

-- a number is at most another in the order of numbers where the test says so
at-most : (a b : ℕ) → is_le (nat_cmp a b) ≡ leb a b
at-most a b = go (ltb a b) refl (eqb a b) refl
  where
    go : (x : Bool) → ltb a b ≡ x → (y : Bool) → eqb a b ≡ y → is_le (nat_cmp a b) ≡ leb a b
    go true e y f =
        let h : a ≤ b = omega (arith, ltb-true a b e) in
        rw (e, le-leb a b h)
    go false e true f =
        let h : a ≤ b = omega (arith, eqb-true a b f) in
        rw (e, f, le-leb a b h)
    go false e false f =
        let z = eqb-false a b f in
        let w = ltb-false a b e in
        rw (e, f, lt-leb a b (omega arith))

pub returns : goal.returns
unfolding valid_date
returns c = simp (
  c.contains.ensures.value,
  c.contains-2.ensures.value,
  c.contains-3.ensures.value,
  c.new.ensures.start,
  c.new.ensures.end,
  c.new.ensures.exhausted,
  c.new-2.ensures.start,
  c.new-2.ensures.end,
  c.new-2.ensures.exhausted,
  c.new-3.ensures.start,
  c.new-3.ensures.end,
  c.new-3.ensures.exhausted,
  at-most,
  c.month_length.ensures,
  and_assoc,
)
