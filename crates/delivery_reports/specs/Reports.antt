-- The lines that `reconcile` prints of one product, and of an id that is not in the file (docs/DELIVERY.md, `reconcile`, from which the quotations are).
-- Assumes nothing.
use Rattle.std.specs.Prelude.{ℕ, ◌+◌, ◌-◌, ◌≤◌, ◌<◌, ◌≡◌, Bool, ◌&&◌, List, [], ◌∷◌, ◌++◌, leb, ltb, length, take, drop}
use Rattle.product.specs.declared.Kind.{Kind}
use Rattle.listing.specs.declared.Maturity.{Maturity}
use Rattle.session_text.specs.TermsText.{decimal, day_text, name_text}
use Rattle.file_text_print.specs.Contents.{id_text}
use Rattle.delivery_differences.specs.declared.Why.{Why}
use Rattle.delivery_differences.specs.declared.Why.TheVariants.{Same, Missing, Extra, Twice, Day, Number, DaysBack}
use Rattle.delivery_differences.specs.declared.DeliveredRow.{DeliveredRow}
use Rattle.delivery_differences.specs.declared.Difference.{Difference}
use Rattle.delivery_differences.specs.Differences.{difference_of, differing}
use Rattle.delivery_reports.specs.declared.ReportProgress.{ReportProgress}

-- `missing`, `extra`, `twice`, `day`, `number`, `days_back`
unfoldable pub why_text : Why → List ℕ
why_text Same = []
why_text Missing = 109 ∷ 105 ∷ 115 ∷ 115 ∷ 105 ∷ 110 ∷ 103 ∷ []
why_text Extra = 101 ∷ 120 ∷ 116 ∷ 114 ∷ 97 ∷ []
why_text Twice = 116 ∷ 119 ∷ 105 ∷ 99 ∷ 101 ∷ []
why_text Day = 100 ∷ 97 ∷ 121 ∷ []
why_text Number = 110 ∷ 117 ∷ 109 ∷ 98 ∷ 101 ∷ 114 ∷ []
why_text DaysBack = 100 ∷ 97 ∷ 121 ∷ 115 ∷ 95 ∷ 98 ∷ 97 ∷ 99 ∷ 107 ∷ []

-- `delivered`: the last trading day of the first row with the key, nothing where it is missing; of `number` and `days_back` its number
unfoldable pub delivered_text : Why → DeliveredRow → List ℕ
delivered_text Same row = []
delivered_text Missing row = []
delivered_text Extra row = day_text row.day
delivered_text Twice row = day_text row.day
delivered_text Day row = day_text row.day
delivered_text Number row = decimal row.number
delivered_text DaysBack row = decimal row.back

-- `right`: the last trading day of the listed maturity, nothing where it is extra; of `number` and `days_back` its number
unfoldable pub right_text : Why → Maturity → List ℕ
right_text Same m = []
right_text Missing m = day_text m.day
right_text Extra m = []
right_text Twice m = day_text m.day
right_text Day m = day_text m.day
right_text Number m = decimal m.number
right_text DaysBack m = decimal m.back

-- 'product,maturity,why,delivered,right',
-- with commas, 44, and a line feed, 10
unfoldable pub difference_text : Kind → List ℕ → ℕ → Difference → List ℕ
difference_text kind id k d =
    id_text id
    ++ ((44 ∷ [])
    ++ (name_text kind k
    ++ ((44 ∷ [])
    ++ (why_text d.why
    ++ ((44 ∷ []) ++ (delivered_text d.why d.delivered ++ ((44 ∷ []) ++ (right_text d.why d.right ++ (10 ∷ [])))))))))

-- 'XXXX,,product,,':
-- an id that is not in the file
unfoldable pub unknown_text : List ℕ → List ℕ
unknown_text id = id_text id ++ (44 ∷ 44 ∷ 112 ∷ 114 ∷ 111 ∷ 100 ∷ 117 ∷ 99 ∷ 116 ∷ 44 ∷ 44 ∷ 10 ∷ [])

-- 'product,maturity,why,delivered,right',
-- the heading
unfoldable pub differences_heading : List ℕ
differences_heading =
    (112 ∷ 114 ∷ 111 ∷ 100 ∷ 117 ∷ 99 ∷ 116 ∷ 44 ∷ [])
    ++ ((109 ∷ 97 ∷ 116 ∷ 117 ∷ 114 ∷ 105 ∷ 116 ∷ 121 ∷ 44 ∷ [])
    ++ ((119 ∷ 104 ∷ 121 ∷ 44 ∷ [])
    ++ ((100 ∷ 101 ∷ 108 ∷ 105 ∷ 118 ∷ 101 ∷ 114 ∷ 101 ∷ 100 ∷ 44 ∷ []) ++ (114 ∷ 105 ∷ 103 ∷ 104 ∷ 116 ∷ 10 ∷ []))))

-- the lines of some keys
unfoldable pub keys_text : Kind → List ℕ → List Maturity → List DeliveredRow → List ℕ → List ℕ
keys_text kind id listed rows [] = []
keys_text kind id listed rows (k ∷ ks) =
    difference_text kind id k (difference_of listed rows k) ++ keys_text kind id listed rows ks

-- the keys that differ, from one on
abbrev pub differing_from : List Maturity → List DeliveredRow → ℕ → List ℕ
differing_from listed rows from = differing listed rows (65536 - from) from

-- 'One line for a key that differs', 'keys rising':
-- the lines of a product, of the keys from one on
unfoldable pub report_from : Kind → List ℕ → List Maturity → List DeliveredRow → ℕ → List ℕ
report_from kind id listed rows from = keys_text kind id listed rows (differing_from listed rows from)

-- only the code needs it: there is a key more, and room for its line: none has 64 bytes
unfoldable pub another_key : ℕ → List ℕ → ℕ → Bool
another_key next out length' = ltb next 65536 && leb (length' + 64) (length out)

-- of a buffer before and after: the lines of the keys from one on, up to the next, stand at its start
pub record ReportLinesIn (kind : Kind) (id : List ℕ) (listed : List Maturity) (rows : List DeliveredRow) (from : ℕ) (before after : List ℕ)
    (r : ReportProgress) : Type 0 where
  -- what was written and the lines that are left are all
  pub is : report_from kind id listed rows from ≡ take r.length after ++ report_from kind id listed rows r.next
  -- how many were written
  pub lines : length (differing_from listed rows from) ≡ r.lines + length (differing_from listed rows r.next)
  -- it stands at the buffer's start, and nothing else is changed
  pub fits : r.length ≤ length after
  pub unchanged : drop r.length after ≡ drop r.length before
  pub long : length after ≡ length before
  -- with room for a line it goes on, and not past the last key
  pub moves : 64 ≤ length before → from < 65536 → from < r.next
  pub within : r.next ≤ 65536
