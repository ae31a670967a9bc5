-- Whether a map has no day after its first k years. From 16 years on no slot is left, so yes; else `none_after`: no byte from 46 · k on has a day
-- just where no slot from 368 · k on has its bit.
use Rattle.calendar_words.proofs.MapBytes.{none_after}
use Rattle.questions.proofs.Search.{every-none}
use mathlib.Core.Path.{◌≡◌, ◌∙◌, sym}
use Prim.Native.Nat.{◌-◌, ◌*◌}
use native.Mathlib.Omega.{arith}
use Rattle.calendar_words.proofs.is_empty_after.Goals as goal

pub returns-then-k-ge16 : goal.returns-then-k-ge16
returns-then-k-ge16 c =
    let e : 5888 - 368 * c.args.k ≡ 0 = omega (arith, c.if-k-ge16.true) in
    rw e (sym (every-none _))

pub returns : goal.returns
returns c = c.days_from.ensures ∙ none_after _ _ (omega (arith, c.if-k-ge16.false))
