-- The lines that tell what was refused, case by case.
-- Assumes nothing.
use mathlib.Core.Path.{◌≡◌, refl, ◌∙◌, sym}
use mathlib.Core.Bool.{Bool, true, false}
use mathlib.Core.List.{List, [], ◌∷◌}
use Prim.Native.Nat.{ℕ, suc, ◌+◌, ◌*◌, ◌-◌, ◌/◌, ◌%◌, ◌≤◌}
use native.Mathlib.Omega.{arith}
use lib.Dec.{eqb}
use lib.ListN.{get_or}
use borrow.Author.Tests.{eq-eqb, ne_eqb}
use Rattle.file_load.specs.Load.{found}
use Rattle.session_lines.specs.declared.Line.{Line}
use Rattle.session_lines.specs.CommandLines.{empty_line}
use Rattle.session_text.specs.TermsText.{last_digit, in_four_digits, decimal}
use Rattle.session_text.proofs.TermsTexts.{decimal-5}
use Rattle.file_text_print.specs.Contents.{LineWith}
use Rattle.file_text_print.proofs.Building.{then, nothing}
use Rattle.delivery_notices.specs.NoticeLists.{notice_at}
use Rattle.delivery_tables.specs.Tables.{is_measure}
use Rattle.delivery_tables.proofs.NoticesOnTable.{measure-is}
use Rattle.delivery_refusals.specs.Refusals.{refused_notice_text, refusal_told, unknown_refusal, refusal_line, unknown_line}

-- five digits
five-digits : (n : ℕ) → 10000 ≤ n → last_digit (n / 10000 % 10) ∷ in_four_digits (n % 10000) ≡ decimal n
five-digits n h =
    let e : last_digit (n / 10000 % 10) ≡ last_digit (n / 10000) = omega arith in
    rw (decimal-5 n (omega arith) (omega arith) (omega arith) h, e) refl

-- a line with the last digit of the ten thousands and then four digits has the number of 10000 or more
pub number-large : (l m r : Line) (n : ℕ) → 10000 ≤ n → LineWith l (last_digit (n / 10000 % 10) ∷ []) m → LineWith m (in_four_digits (n % 10000)) r
    → LineWith l (decimal n) r
number-large l m r n h a b = rw (← five-digits n h) (then a b)

-- a refusal that is 0, and one that is not
module _ (line refusal : ℕ) (id : List ℕ) (r : Line) where
  -- without a refusal the line is empty
  pub refusal-none : refusal ≡ 0 → r ≡ empty_line → LineWith empty_line (refusal_told line refusal id) r
  unfolding refusal_told
  refusal-none e q = rw (eq-eqb refusal 0 e) (nothing r q)

  -- a refusal is told by the text of a refused notice
  pub refusal-some : (refusal ≡ 0 → ⊥) → LineWith empty_line (refused_notice_text line refusal id) r → LineWith empty_line (refusal_told line refusal id) r
  unfolding refusal_told
  refusal-some e q = rw (ne_eqb refusal 0 e) q

-- line i of a product's refused calls
module _ (id : List ℕ) (opened refusal : ℕ) (calls refusals : List ℕ) (i : ℕ) (r : Line) where
  -- the first line of a product tells the refusal of its opening
  pub line-opening : i ≡ 0 → LineWith empty_line (refusal_told opened refusal id) r → LineWith empty_line (refusal_line id opened refusal calls refusals i) r
  unfolding refusal_line
  line-opening e q = rw e q

  module _ (n : i ≡ 0 → ⊥) where
    next : i ≡ suc (i - 1)
    next = omega arith

    -- after a refused opening the product's further lines are empty
    pub line-none : (refusal ≡ 0 → ⊥) → r ≡ empty_line → LineWith empty_line (refusal_line id opened refusal calls refusals i) r
    unfolding refusal_line
    line-none e q = rw (next, ne_eqb refusal 0 e) (nothing r q)

    -- after an accepted opening the line of a notice tells the refusal of that notice, with its line number
    pub line-notice : refusal ≡ 0 → (line of : ℕ) → line ≡ get_or calls (5 * (i - 1)) 0 → of ≡ get_or refusals (i - 1) 0
        → LineWith empty_line (refusal_told line of id) r → LineWith empty_line (refusal_line id opened refusal calls refusals i) r
    unfolding refusal_line
    line-notice e line of a b q = rw (next, eq-eqb refusal 0 e, ← a, ← b) q

-- a measure of an unknown id
module _ (f calls ids : List ℕ) (i kind : ℕ) (k : kind ≡ get_or calls (5 * i + 1) 0) where
  is-measure : is_measure (notice_at calls ids i).call ≡ eqb kind 3
  is-measure = rw k (measure-is (get_or calls (5 * i + 1) 0) (get_or calls (5 * i + 2) 0) (get_or calls (5 * i + 3) 0) (get_or calls (5 * i + 4) 0))

  -- a notice that is no measure has no refusal for an unknown id
  pub unknown-other : (kind ≡ 3 → ⊥) → 0 ≡ unknown_refusal f (notice_at calls ids i)
  unfolding unknown_refusal
  unknown-other n = rw (is-measure, ne_eqb kind 3 n) refl

  module _ (m : kind ≡ 3) (id : List ℕ) (e : id ≡ (notice_at calls ids i).id) (b : Bool) (q : b ≡ found f id) where
    there : found f (notice_at calls ids i).id ≡ b
    there = rw (← e) (sym q)

    -- a measure whose id is in the file has no refusal for an unknown id
    pub unknown-there : b ≡ true → 0 ≡ unknown_refusal f (notice_at calls ids i)
    unfolding unknown_refusal
    unknown-there t = rw (is-measure, eq-eqb kind 3 m, there ∙ t) refl

    -- a measure whose id is not in the file is refused with 9
    pub unknown-not : b ≡ false → 9 ≡ unknown_refusal f (notice_at calls ids i)
    unfolding unknown_refusal
    unknown-not t = rw (is-measure, eq-eqb kind 3 m, there ∙ t) refl

-- the line for a notice with an unknown id tells the refusal with the line number and the id of the notice
pub unknown-told : (f calls ids : List ℕ) (i refusal line : ℕ) (id : List ℕ) (r : Line) → refusal ≡ unknown_refusal f (notice_at calls ids i)
    → line ≡ get_or calls (5 * i) 0
    → id ≡ (notice_at calls ids i).id → LineWith empty_line (refusal_told line refusal id) r → LineWith empty_line (unknown_line f calls ids i) r
unfolding unknown_line
unknown-told f calls ids i refusal line id r a b c q = rw (← a, ← b, ← c) q
