-- Eight weeks of the map of year k, a word of 56 days; 0 for a year after the 16 maps, or a j from 6 on (`no-weeks`). Else the seven bytes at
-- 46 · k + 7 · j show the slots from 368 · k + 56 · j on (`bytes-show`), which makes them the definition's word (`weeks-is`).
use Rattle.calendar_words.proofs.DayWords.{bytes-show}
use Rattle.calendar_words.proofs.Equations.{no-weeks, weeks-is}
use Rattle.calendar.specs.Bits.{bit_at}
use mathlib.Core.Path.{◌≡◌, ◌∙◌, ap}
use mathlib.Core.Logic.{inl, inr}
use Prim.Native.Nat.{ℕ, ◌+◌, ◌*◌}
use native.Mathlib.Omega.{arith}
use Rattle.calendar_words.proofs.weeks_of.Goals as goal

pub returns-then-k-ge16 : goal.returns-then-k-ge16
returns-then-k-ge16 c = no-weeks _ _ _ (inl c.if-k-ge16.true)

pub returns-then-j-ge6 : goal.returns-then-j-ge6
returns-then-j-ge6 c = no-weeks _ _ _ (inr c.if-j-ge6.true)

pub returns : goal.returns
returns c =
    let start = c in
    let b = start.args.maps.now in
    let at = 46 * start.args.k + 7 * start.args.j in
    let e : 8 * at ≡ 368 * start.args.k + 56 * start.args.j = omega arith in
    weeks-is b start.args.k start.args.j _ (omega arith) (omega arith) (omega arith)
    (λ p q. rw c.seven_at.ensures.0 (bytes-show b at 7 p q ∙ ap (λ (s : ℕ). bit_at b (s + p)) e))
