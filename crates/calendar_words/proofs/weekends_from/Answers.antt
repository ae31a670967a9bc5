-- The Saturdays and Sundays of the 64 days from a day on: those from its weekday on, since p days later the weekday is (weekday + p) mod 7.
use Rattle.calendar_words.specs.DayWords.{day_word, weekends_from}
use Rattle.days.specs.Gregorian.{weekday_of}
use mathlib.Core.Path.{◌≡◌, ◌∙◌, ap, fun_ext}
use mathlib.Core.Bool.{not}
use lib.Dec.{ltb}
use Prim.Native.Nat.{ℕ, ◌+◌, ◌%◌}
use native.Mathlib.Omega.{arith}
use Rattle.calendar_words.proofs.weekends_from.Goals as goal

pub weekends_on-requires : goal.weekends_on-requires
weekends_on-requires c = omega (arith, c.weekday.ensures)

pub returns : goal.returns
unfolding weekends_from
returns c =
    let v = c.weekday.result in
    let day = c.args.day in
    let e : (p : ℕ) → (v + p) % 7 ≡ weekday_of (day + p) = λ p. omega (arith, c.weekday.ensures) in
    c.weekends_on.ensures ∙ ap (day_word 64) (fun_ext (λ p. ap (λ (n : ℕ). not (ltb n 5)) (e p)))
