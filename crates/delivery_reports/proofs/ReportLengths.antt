-- No line has 64 bytes.
-- Assumes nothing.
use mathlib.Core.Path.{◌≡◌, refl}
use mathlib.Core.Bool.{Bool, true, false, cond}
use mathlib.Core.List.{List, [], ◌∷◌, ◌++◌}
use Prim.Native.Nat.{ℕ, ◌≤◌, ◌<◌}
use native.Mathlib.Omega.{arith}
use lib.ListN.{length, length-append}
use Rattle.product.specs.declared.Kind.{Kind}
use Rattle.product.specs.Fields.{is_weekly}
use Rattle.listing.specs.declared.Maturity.{Maturity}
use Rattle.session_text.specs.TermsText.{day_text, month_text, year_month, in_four_digits, in_two_digits, name_text}
use Rattle.file_text_print.specs.Contents.{id_text}
use Rattle.file_text_print.proofs.TextLengths.{decimal-short, day-long, id-short}
use Rattle.delivery_differences.specs.declared.Why.{Why}
use Rattle.delivery_differences.specs.declared.Why.TheVariants.{Same, Missing, Extra, Twice, Day, Number, DaysBack}
use Rattle.delivery_differences.specs.declared.DeliveredRow.{DeliveredRow}
use Rattle.delivery_differences.specs.declared.Difference.{Difference}
use Rattle.delivery_reports.specs.Reports.{why_text, delivered_text, right_text, difference_text}

month-long : (k : ℕ) → length (month_text k) ≡ 7
unfolding month_text year_month in_four_digits in_two_digits
month-long k = refl

name-short : (kind : Kind) (k : ℕ) → length (name_text kind k) ≤ 10
unfolding name_text
name-short kind k = go (is_weekly kind)
  where
    go : (b : Bool) → length (cond b (day_text k) (month_text k)) ≤ 10
    go true = omega (arith, day-long k)
    go false = omega (arith, month-long k)

why-short : (why : Why) → length (why_text why) ≤ 9
unfolding why_text
why-short Same = omega arith
why-short Missing = omega arith
why-short Extra = omega arith
why-short Twice = omega arith
why-short Day = omega arith
why-short Number = omega arith
why-short DaysBack = omega arith

delivered-short : (why : Why) (row : DeliveredRow) → length (delivered_text why row) ≤ 10
unfolding delivered_text
delivered-short Same row = omega arith
delivered-short Missing row = omega arith
delivered-short Extra row = omega (arith, day-long row.day)
delivered-short Twice row = omega (arith, day-long row.day)
delivered-short Day row = omega (arith, day-long row.day)
delivered-short Number row = omega (arith, decimal-short row.number)
delivered-short DaysBack row = omega (arith, decimal-short row.back)

right-short : (why : Why) (m : Maturity) → length (right_text why m) ≤ 10
unfolding right_text
right-short Same m = omega arith
right-short Missing m = omega (arith, day-long m.day)
right-short Extra m = omega arith
right-short Twice m = omega (arith, day-long m.day)
right-short Day m = omega (arith, day-long m.day)
right-short Number m = omega (arith, decimal-short m.number)
right-short DaysBack m = omega (arith, decimal-short m.back)

-- the line of a key that differs has fewer than 64 bytes where the id has at most four
pub difference-short : (kind : Kind) (id : List ℕ) (k : ℕ) (d : Difference) → length id ≤ 4 → length (difference_text kind id k d) < 64
unfolding difference_text
difference-short kind id k d h =
    omega (
      arith,
      length-append (id_text id) ((44 ∷ []) ++
          (name_text kind k ++ ((44 ∷ []) ++ (why_text d.why
          ++ ((44 ∷ []) ++ (delivered_text d.why d.delivered ++ ((44 ∷ []) ++ (right_text d.why d.right ++ (10 ∷ []))))))))),
      length-append (name_text kind k) ((44 ∷ [])
          ++ (why_text d.why ++ ((44 ∷ []) ++ (delivered_text d.why d.delivered ++ ((44 ∷ []) ++ (right_text d.why d.right ++ (10 ∷ []))))))),
      length-append (why_text d.why) ((44 ∷ []) ++ (delivered_text d.why d.delivered ++ ((44 ∷ []) ++ (right_text d.why d.right ++ (10 ∷ []))))),
      length-append (delivered_text d.why d.delivered) ((44 ∷ []) ++ (right_text d.why d.right ++ (10 ∷ []))),
      length-append (right_text d.why d.right) (10 ∷ []),
      id-short id,
      name-short kind k,
      why-short d.why,
      delivered-short d.why d.delivered,
      right-short d.why d.right,
    )
