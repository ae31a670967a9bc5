-- The rest of the map of year k, a word of 32 days; 0 for a year after the 16 maps (`no-year`). Else the four bytes at 46 · k + 42 show the slots
-- from 368 · k + 336 on (`bytes-show`), which makes them the definition's word (`rest-is`).
use Rattle.calendar_words.proofs.DayWords.{bytes-show}
use Rattle.calendar_words.proofs.Equations.{no-year, rest-is}
use Rattle.calendar.specs.Bits.{bit_at}
use mathlib.Core.Path.{◌≡◌, ◌∙◌, ap}
use Prim.Native.Nat.{ℕ, ◌+◌, ◌*◌}
use native.Mathlib.Omega.{arith}
use Rattle.calendar_words.proofs.rest_of.Goals as goal

pub returns-then-k-ge16 : goal.returns-then-k-ge16
returns-then-k-ge16 c = no-year _ _ c.if-k-ge16.true

pub returns : goal.returns
returns c =
    let start = c in
    let b = start.args.maps.now in
    let at = 46 * start.args.k + 42 in
    let e : 8 * at ≡ 368 * start.args.k + 336 = omega arith in
    rest-is b start.args.k _ (omega arith) (omega arith) (λ p q. rw c.four_at.ensures.0 (bytes-show b at 4 p q ∙ ap (λ (s : ℕ). bit_at b (s + p)) e))
