-- The cover that words k and m of a line are, where both are numbers: the answers of `number_in`, put together, are `cover_at`.
-- No number passes its most (at_most), so both years fit 16 bits.
use native.Mathlib.Omega.{arith}
use Prim.Native.Nat.{◌≤◌}
use mathlib.Core.Path.{refl}
use Rattle.file_text_lines.specs.Entries.{cover_at}
use Rattle.file_text_lines.proofs.NumberWords.{at_most}
use Rattle.file_text_lines.proofs.cover_at.Goals as goal

pub overflow_cast-result : goal.overflow_cast-result
overflow_cast-result c =
    let h : c.number_in-first.result.value ≤ 65535 = at_most _ _ _ c.number_in-first.ensures in
    omega (arith, h)

pub overflow_cast-result-2 : goal.overflow_cast-result-2
overflow_cast-result-2 c =
    let h : c.number_in-years.result.value ≤ 65535 = at_most _ _ _ c.number_in-years.ensures in
    omega (arith, h)

pub returns-then-not-first-years : goal.returns-then-not-first-years
unfolding cover_at
returns-then-not-first-years c = rw (← c.number_in-years.ensures, ← c.number_in-first.ensures, c.if-not-first-years.true) refl

pub returns : goal.returns
unfolding cover_at
returns c = rw (← c.number_in-years.ensures, ← c.number_in-first.ensures, c.if-not-first-years.false) refl
