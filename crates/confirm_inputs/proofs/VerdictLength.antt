-- The line that is printed has fewer than 64 bytes, so a line of the code holds all of it.
-- Assumes nothing.
use mathlib.Core.Path.{◌≡◌, refl}
use mathlib.Core.Bool.{Bool, true, false, ◌&&◌, ◌||◌, cond}
use mathlib.Core.List.{List, [], ◌∷◌, ◌++◌}
use Prim.Native.Nat.{ℕ, suc, ◌≤◌, ◌<◌}
use native.Mathlib.Omega.{arith}
use lib.Dec.{eqb, ltb}
use lib.ListN.{length, take, length-append}
use Rattle.questions.specs.Questions.{Answer}
use Rattle.product.specs.declared.Kind.{Kind}
use Rattle.product.specs.Fields.{is_weekly}
use Rattle.session_text.specs.TermsText.{in_two_digits, in_four_digits, decimal, year_month, month_text, day_text, name_text}
use Rattle.session_lines.specs.declared.Line.{Line}
use Rattle.session_lines.specs.CommandLines.{empty_line, fed, lines_from}
use Rattle.session_lines.proofs.LineFeeding.{fed-holds, fed-is}
use Rattle.file_text_print.specs.Contents.{LineWith}
use Rattle.file_text_print.proofs.TextLengths.{decimal-short, day-long}
use Rattle.table_vendor.specs.Vendor.{Judgement, vendor_call}
use Rattle.confirm_lines.specs.declared.ListingSoFar.{ListingSoFar}
use Rattle.confirm_lines.specs.ListingLines.{no_listing, read_listing_line}
use Rattle.confirm_inputs.specs.ConfirmInputs.{yes_text, differs_text, refused_text, bad_input_text, judged_text, end_text, entry_numbers, after_line}
use Rattle.confirm_inputs.specs.ConfirmInputs.{input_lines_text, confirm_text}
use Rattle.confirm_inputs.specs.InputReading.{said_in}
use Rattle.confirm_inputs.proofs.VerdictTexts.{said_all}

month-long : (key : ℕ) → length (month_text key) ≡ 7
unfolding month_text year_month in_four_digits in_two_digits
month-long key = refl

name-short : (kind : Kind) (key : ℕ) → length (name_text kind key) ≤ 10
unfolding name_text
name-short kind key = go (is_weekly kind)
  where
    go : (b : Bool) → length (cond b (day_text key) (month_text key)) ≤ 10
    go true = omega (arith, day-long key)
    go false = omega (arith, month-long key)

differs-short : (kind : Kind) (key : ℕ) → length (differs_text kind key) < 64
unfolding differs_text
differs-short kind key = omega (arith, length-append (name_text kind key) (10 ∷ []), name-short kind key)

refused-short : (n : ℕ) → length (refused_text n) < 64
unfolding refused_text
refused-short n = omega (arith, length-append (decimal n) (10 ∷ []), decimal-short n)

bad-short : (n : ℕ) → length (bad_input_text n) < 64
unfolding bad_input_text
bad-short n = omega (arith, length-append (decimal n) (10 ∷ []), decimal-short n)

judged-short : (kind : Kind) (a : Answer Judgement) → length (judged_text kind a) < 64
unfolding judged_text
judged-short kind a = go (eqb a.refusal 0) a.value.same
  where
    go : (b s : Bool) → length (cond b (cond s yes_text (differs_text kind a.value.key)) (refused_text a.refusal)) < 64
    go true true = omega arith
    go true false = differs-short kind a.value.key
    go false s = refused-short a.refusal

end_short : (s : ListingSoFar) (list : List ℕ) → length (end_text s list) < 64
unfolding end_text
end_short s list = go s.opened
  where
    go : (b : Bool) → length (cond b (judged_text s.table.product.kind (vendor_call s.table list)) (bad_input_text 1)) < 64
    go true = judged-short s.table.product.kind (vendor_call s.table list)
    go false = bad-short 1

after-short : (s : ListingSoFar) (cut : Bool) (n : ℕ) (rest : List ℕ) → length rest < 64 → length (after_line s cut n rest) < 64
unfolding after_line
after-short s cut n rest h = go (s.bad || cut) (eqb s.refusal 0)
  where
    go : (b z : Bool) → length (cond b (bad_input_text n) (cond z rest (refused_text s.refusal))) < 64
    go true z = bad-short n
    go false true = h
    go false false = refused-short s.refusal

lines-short : (long : Bool) (file : List ℕ) (n : ℕ) (s : ListingSoFar) (list : List ℕ) (lines : List (List ℕ))
    → length (input_lines_text long file n s list lines) < 64
unfolding input_lines_text
lines-short long file n s list [] = end_short s list
lines-short long file n s list (line ∷ lines) =
    after-short (read_listing_line file s line) (long && eqb (length lines) 0) (suc n)
    (input_lines_text long file (suc n) (read_listing_line file s line) (list ++ entry_numbers (read_listing_line file s line).entry) lines)
    (lines-short long file (suc n) (read_listing_line file s line) (list ++ entry_numbers (read_listing_line file s line).entry) lines)

-- the verdict is shorter than 64 bytes
pub confirm-short : (file input : List ℕ) → length (confirm_text file input) < 64
unfolding confirm_text
confirm-short file input = lines-short (ltb 65536 (length input)) file 0 no_listing [] (lines_from [] (take 65537 input))

-- a line with what is said, with room for the listing
module _ (file input : List ℕ) (places : ℕ) (h : 6900 ≤ places) (l : Line) (made : LineWith empty_line (said_in places file input) l) where
  e : l ≡ fed empty_line (confirm_text file input)
  e = rw (← said_all places file input h) at made.is

  -- the line that holds the verdict has room for 64 bytes
  pub line-room : length l.bytes ≡ 64
  line-room = rw e (fed-holds (confirm_text file input)).room

  -- the line's length is the length of the verdict
  pub line-length : l.length ≡ length (confirm_text file input)
  line-length = rw e (fed-is (confirm_text file input) (confirm-short file input)).0

  -- the line's length is at most 64
  pub line-fits : l.length ≤ 64
  line-fits = omega (arith, line-length, confirm-short file input)

  -- the line's bytes are the verdict
  pub line-is : take l.length l.bytes ≡ confirm_text file input
  line-is = rw e (fed-is (confirm_text file input) (confirm-short file input)).1
