-- What is said, case by case.
-- Assumes nothing.
use mathlib.Core.Path.{◌≡◌, refl}
use mathlib.Core.Bool.{true, false, ◌||◌}
use mathlib.Core.List.{List, [], ◌∷◌, ◌++◌}
use Prim.Native.Nat.{ℕ}
use lib.Dec.{eqb}
use borrow.Author.Tests.{eq-eqb, ne_eqb}
use Rattle.session_lines.specs.declared.Line.{Line}
use Rattle.session_lines.specs.CommandLines.{empty_line, fed}
use Rattle.file_text_print.specs.Contents.{LineWith, id_text}
use Rattle.file_text_print.proofs.Building.{nothing}
use Rattle.file_text_faults.specs.declared.Fault.{Fault}
use Rattle.file_text_read.specs.declared.Composed.{Composed}
use Rattle.file_text_told.specs.ComposeTexts.{bad_entry_text, at_line_text, from_text, at_product_text, where_text, refused_file_text, said_text}

-- nothing more
unchanged : (l : Line) → LineWith l [] l
unfolding fed
unchanged l = record { is = refl }

module _ (l : Line) (refusal : ℕ) (id : List ℕ) where
  -- with refusal 5 no product is named, and the line stays as it is
  pub product-none : refusal ≡ 5 → LineWith l (at_product_text refusal id) l
  unfolding at_product_text
  product-none e = rw (eq-eqb refusal 5 e) (unchanged l)

  -- with any refusal but 5 a space and the id of the product are added to the line
  pub product-some : (refusal ≡ 5 → ⊥) → (r : Line) → LineWith l ((32 ∷ []) ++ id_text id) r → LineWith l (at_product_text refusal id) r
  unfolding at_product_text
  product-some e r g = rw (ne_eqb refusal 5 e) g

module _ (l : Line) (refusal : ℕ) (fault : Fault) (day : ℕ) where
  -- with refusal 6 the place that is told is the day
  pub where-day : refusal ≡ 6 → (r : Line) → LineWith l (from_text day) r → LineWith l (where_text refusal fault day) r
  unfolding where_text
  where-day e r g = rw (eq-eqb refusal 6 e) g

  module _ (n : refusal ≡ 6 → ⊥) where
    -- with a refusal other than 5, 6, 7 and 8 no place is told
    pub where-none : (eqb refusal 5 || (eqb refusal 7 || eqb refusal 8)) ≡ false → LineWith l (where_text refusal fault day) l
    unfolding where_text
    where-none e = rw (ne_eqb refusal 6 n, e) (unchanged l)

    -- with refusal 5, 7 or 8 the place that is told is the line at fault, with its product for 7 and 8
    pub where-line : (eqb refusal 5 || (eqb refusal 7 || eqb refusal 8)) ≡ true → (r : Line)
        → LineWith l (at_line_text fault.line ++ at_product_text refusal fault.id) r → LineWith l (where_text refusal fault day) r
    unfolding where_text
    where-line e r g = rw (ne_eqb refusal 6 n, e) g

module _ (c : Composed) (r : Line) where
  -- where a line is bad, the text names that line
  pub said-bad : (c.bad ≡ 0 → ⊥) → LineWith empty_line (bad_entry_text c.bad) r → LineWith empty_line (said_text c) r
  unfolding said_text
  said-bad n g = rw (ne_eqb c.bad 0 n) g

  -- where no line is bad and the file is refused, the text is that of the refusal
  pub said-no : c.bad ≡ 0 → (c.refusal ≡ 0 → ⊥) → LineWith empty_line (refused_file_text c.refusal c.fault c.day) r → LineWith empty_line (said_text c) r
  unfolding said_text
  said-no e n g = rw (eq-eqb c.bad 0 e, ne_eqb c.refusal 0 n) g

  -- where no line is bad and the file is accepted, nothing is said
  pub said-nothing : c.bad ≡ 0 → c.refusal ≡ 0 → r ≡ empty_line → LineWith empty_line (said_text c) r
  unfolding said_text
  said-nothing e n g = rw (eq-eqb c.bad 0 e, eq-eqb c.refusal 0 n) (nothing r g)
