-- The lines that are printed, case by case.
-- Assumes nothing.
use mathlib.Core.Path.{◌≡◌, refl, sym, ap, ◌∙◌}
use mathlib.Core.Bool.{Bool, true, false, ◌||◌}
use mathlib.Core.List.{List, []}
use mathlib.Core.Logic.{◌⊎◌, inl, inr}
use Prim.Native.Nat.{ℕ, ◌≤◌, ◌<◌}
use native.Mathlib.Omega.{arith}
use lib.Dec.{ltb}
use lib.ListN.{length, take}
use lib.Seq.{take_all, length-take-le}
use borrow.Author.Tests.{ne_eqb, le-leb, lt-leb}
use Rattle.questions.proofs.Bools.{lt-or-ge}
use Rattle.questions.specs.Questions.{Answer}
use Rattle.session_lines.specs.declared.Line.{Line}
use Rattle.session_lines.specs.CommandLines.{empty_line, fed, lines_from}
use Rattle.table_vendor.specs.Vendor.{Judgement, vendor_call}
use Rattle.confirm_lines.specs.declared.ListingSoFar.{ListingSoFar}
use Rattle.confirm_lines.specs.ListingLines.{no_listing}
use Rattle.file_text_print.specs.Contents.{LineWith}
use Rattle.delivery_notices.specs.NoticeReading.{read_length}
use Rattle.delivery_notices.proofs.NoticesSoFar.{read_all, read-most, read-within}
use Rattle.confirm_inputs.specs.ConfirmInputs.{bad_input_text, refused_text, judged_text, end_text, after_line, input_lines_text, confirm_text}
use Rattle.confirm_inputs.specs.InputReading.{said_in}

-- a line with a text that is another's
pub said : {r : Line} {t u : List ℕ} → LineWith empty_line t r → t ≡ u → LineWith empty_line u r
said {r} {t} {u} e q = record { is = e.is ∙ ap (fed empty_line) q }

-- the bytes of a slice
pub bytes : {l r : Line} {t : List ℕ} → r ≡ fed l t → LineWith l t r
bytes e = record { is = e }

module _ (s : ListingSoFar) (cut : Bool) (n : ℕ) (rest : List ℕ) where
  -- after a line that is bad or cut off comes the text of a bad line with its number
  pub after-bad : (s.bad || cut) ≡ true → after_line s cut n rest ≡ bad_input_text n
  unfolding after_line
  after-bad e = rw e refl

  -- after a good line whose call is refused comes the text of the refusal
  pub after-refused : (s.bad || cut) ≡ false → (s.refusal ≡ 0 → ⊥) → after_line s cut n rest ≡ refused_text s.refusal
  unfolding after_line
  after-refused e h = rw (e, ne_eqb s.refusal 0 h) refl

  -- after a good line whose call is not refused comes the text for the lines left
  pub after-good : (s.bad || cut) ≡ false → s.refusal ≡ 0 → after_line s cut n rest ≡ rest
  unfolding after_line
  after-good e h = rw (e, h) refl

module _ (s : ListingSoFar) (list : List ℕ) where
  -- an input that opens nothing ends as one with a bad first line
  pub end-unopened : s.opened ≡ false → bad_input_text 1 ≡ end_text s list
  unfolding end_text
  end-unopened e = rw e refl

  -- an input that opens a table ends with the judgement of its list
  pub end-judged : s.opened ≡ true → (a : Answer Judgement) → a ≡ vendor_call s.table list → judged_text s.table.product.kind a ≡ end_text s list
  unfolding end_text
  end-judged e a q = rw (e, q) refl

module _ (places : ℕ) (file input : List ℕ) where
  -- with fewer than 6900 places nothing is said
  pub said-none : places < 6900 → [] ≡ said_in places file input
  unfolding said_in
  said-none h = rw (lt-leb 6900 places h) refl

  -- with 6900 places or more the verdict is said
  pub said_all : 6900 ≤ places → confirm_text file input ≡ said_in places file input
  unfolding said_in
  said_all h = rw (le-leb 6900 places h) refl

-- the bytes that are read
module _ (input : List ℕ) (n : ℕ) (e : n ≡ read_length (length input)) where
  -- no more bytes are read than the input has, and at most 65537
  pub read-few : (n ≤ length input) × (n ≤ 65537)
  read-few = (omega (arith, (read-within (length input)).0), omega (arith, (read-within (length input)).1))

  -- the part of the input that is read has at most 65537 bytes
  pub part-long : length (take n input) ≤ 65537
  part-long = omega (arith, length-take-le n input read-few.0, read-few.1)

  -- the part of the input that is read is its first 65537 bytes
  pub read-part : take n input ≡ take 65537 input
  read-part = go (lt-or-ge 65537 (length input))
    where
      go : (65537 < length input) ⊎ (length input ≤ 65537) → take n input ≡ take 65537 input
      go (inl h) =
          let q : n ≡ 65537 = omega (arith, read-most (length input) h) in
          rw q refl
      go (inr h) = take_all n input (omega (arith, read_all (length input) h)) ∙ sym (take_all 65537 input h)

  -- with 6900 places or more, what is said is the text for the lines of the part that is read
  pub said-part : (places : ℕ) (file : List ℕ) → 6900 ≤ places
      → input_lines_text (ltb 65536 (length input)) file 0 no_listing [] (lines_from [] (take n input)) ≡ said_in places file input
  unfolding confirm_text
  said-part places file h = rw read-part (said_all places file input h)
