-- What is told of a text has fewer than 64 bytes, so a line of the code holds all of it.
-- Assumes nothing.
use mathlib.Core.Path.{◌≡◌, refl}
use mathlib.Core.Bool.{Bool, true, false, ◌||◌, cond}
use mathlib.Core.List.{List, [], ◌∷◌, ◌++◌}
use Prim.Native.Nat.{ℕ, ◌≤◌, ◌<◌}
use native.Mathlib.Omega.{arith}
use lib.Dec.{eqb}
use lib.ListN.{length, length-append}
use Rattle.file_records.specs.Records.{four_bytes}
use Rattle.session_text.specs.TermsText.{spaced}
use Rattle.file_text_print.specs.Contents.{id_text}
use Rattle.file_text_print.proofs.TextLengths.{decimal-short, day-long, id-short}
use Rattle.delivery_answers.specs.Numbers.{number_text}
use Rattle.delivery_answers.proofs.ReplyLengths.{number-most}
use Rattle.file_text_faults.specs.declared.Fault.{Fault}
use Rattle.file_text_faults.specs.Faults.{at_fault, id_after, Numbered, fault_from, first_fault, first_idle}
use Rattle.file_text_read.specs.Lists.{numbered_lines}
use Rattle.file_text_told.specs.ComposeTexts.{bad_entry_text, at_line_text, from_text, at_product_text, where_text, refused_file_text}
use Rattle.file_text_told.specs.Whole.{text_content, text_refusal, compose_told}

-- the id of a line at fault
id-four : (question : ℕ) (before : List ℕ) (ls : List Numbered) → length (fault_from question before ls).id ≡ 4
unfolding fault_from four_bytes
id-four question before [] = refl
id-four question before (l ∷ ls) = go (at_fault question before l.entry) (id-four question (id_after before l.entry) ls)
  where
    go : (b : Bool) → length (fault_from question (id_after before l.entry) ls).id ≡ 4
        → length (cond b (record { line = l.line; id = four_bytes l.entry.«record» 0 }) (fault_from question (id_after before l.entry) ls)).id ≡ 4
    go true h = refl
    go false h = h

first-four : (question : ℕ) (ls : List Numbered) → length (first_fault question ls).id ≡ 4
unfolding first_fault
first-four question ls = id-four question _ ls

spaced-short : (n : ℕ) → length (spaced n) ≤ 6
unfolding spaced
spaced-short n = omega (arith, decimal-short n)

bad-short : (n : ℕ) → length (bad_entry_text n) < 64
unfolding bad_entry_text
bad-short n = omega (arith, length-append (number_text n) (10 ∷ []), number-most n)

module _ (refusal : ℕ) (fault : Fault) (day : ℕ) (four : length fault.id ≡ 4) where
  product-short : length (at_product_text refusal fault.id) ≤ 5
  unfolding at_product_text
  product-short = go (eqb refusal 5)
    where
      go : (b : Bool) → length (cond b [] ((32 ∷ []) ++ id_text fault.id)) ≤ 5
      go true = omega arith
      go false = omega (arith, id-short fault.id, four)

  where-short : length (where_text refusal fault day) ≤ 36
  unfolding where_text from_text at_line_text
  where-short = go (eqb refusal 6) (eqb refusal 5 || (eqb refusal 7 || eqb refusal 8))
    where
      go : (b d : Bool) → length (cond b (from_text day) (cond d (at_line_text fault.line ++ at_product_text refusal fault.id) [])) ≤ 36
      go true d = omega (arith, day-long day)
      go false true = omega (arith, length-append (number_text fault.line) (at_product_text refusal fault.id), number-most fault.line, product-short)
      go false false = omega arith

  no_short : length (refused_file_text refusal fault day) < 64
  unfolding refused_file_text
  no_short =
      omega (
        arith,
        length-append (spaced refusal) (where_text refusal fault day ++ (10 ∷ [])),
        length-append (where_text refusal fault day) (10 ∷ []),
        spaced-short refusal,
        where-short,
      )

-- what is told of a text has fewer than 64 bytes
pub told-short : (input : List ℕ) → length (compose_told input) < 64
unfolding compose_told
told-short input = go (eqb (text_content input).bad 0) (eqb (text_refusal input) 0)
  where
    fault : Fault
    fault = first_fault (text_refusal input) (numbered_lines input)

    day : ℕ
    day = first_idle (text_content input).calendar

    go : (b d : Bool) → length (cond b (cond d [] (refused_file_text (text_refusal input) fault day)) (bad_entry_text (text_content input).bad)) < 64
    go true true = omega arith
    go true false = no_short (text_refusal input) fault day (first-four (text_refusal input) (numbered_lines input))
    go false d = bad-short (text_content input).bad
