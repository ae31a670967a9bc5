-- The last of the five digits are the number in decimal.
use mathlib.Core.Path.{◌≡◌, refl, ap, ◌∙◌}
use mathlib.Core.List.{List}
use Prim.Native.Nat.{ℕ, ◌+◌, ◌-◌}
use native.Mathlib.Omega.{arith}
use lib.ListN.{length, take, drop, length-drop}
use lib.Seq.{take_all}
use Rattle.session_text.specs.TermsText.{in_two_digits, in_four_digits, decimal}
use Rattle.file_intake_text.specs.GatewayTexts.{five_digits, digit_count}
use Rattle.file_intake_text.proofs.Digits.{digits_are}
use Rattle.gateway_run.proofs.output.write_number.Goals as goal

slice_is : (n k : ℕ) (digits : List ℕ) → digits ≡ five_digits n → k ≡ digit_count n → take (5 - (5 - k)) (drop (5 - k) digits) ≡ decimal n
unfolding five_digits in_four_digits in_two_digits
slice_is n k digits e q =
    let l : length (five_digits n) ≡ 5 = refl in
    rw e (take_all (5 - (5 - k)) (drop (5 - k) (five_digits n)) (omega (arith, length-drop (5 - k) (five_digits n))) ∙ digits_are n k q)

pub write_piece-requires : goal.write_piece-requires
write_piece-requires c =
    rw (slice_is _ _ _ c.five_digits-digits.ensures c.digit_count-from.ensures.0) c.requires

pub returns : goal.returns
returns c =
    c.write_piece.ensures.0
    ∙ ap (λ (l : List ℕ). c.args.sent.bytes + length l)
    (slice_is _ _ _ c.five_digits-digits.ensures c.digit_count-from.ensures.0)
