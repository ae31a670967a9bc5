-- What `compose` says on standard error (docs/OPERATIONS.md, The text of a master file, from which the quotations are).
-- Assumes nothing.
use Rattle.std.specs.Prelude.{ℕ, ◌||◌, cond, List, [], ◌∷◌, ◌++◌, eqb}
use Rattle.session_text.specs.TermsText.{day_text, spaced}
use Rattle.file_text_print.specs.Contents.{id_text}
use Rattle.delivery_answers.specs.Numbers.{number_text}
use Rattle.file_text_faults.specs.declared.Fault.{Fault}
use Rattle.file_text_read.specs.declared.Composed.{Composed}

-- '`BAD k`', and a line feed, 10
unfoldable pub bad_entry_text : ℕ → List ℕ
bad_entry_text line = (66 ∷ 65 ∷ 68 ∷ 32 ∷ []) ++ (number_text line ++ (10 ∷ []))

-- ' line 555'
unfoldable pub at_line_text : ℕ → List ℕ
at_line_text line = (32 ∷ 108 ∷ 105 ∷ 110 ∷ 101 ∷ 32 ∷ []) ++ number_text line

-- ' from 2008-03-15'
unfoldable pub from_text : ℕ → List ℕ
from_text day = (32 ∷ 102 ∷ 114 ∷ 111 ∷ 109 ∷ 32 ∷ []) ++ day_text day

-- 'and, for a product, its id':
-- after a space
unfoldable pub at_product_text : ℕ → List ℕ → List ℕ
at_product_text refusal id = cond (eqb refusal 5) [] ((32 ∷ []) ++ id_text id)

-- 'with 5, 7 and 8 the number of the first line at fault and, for a product, its id; with 6 the first day of a run without trading';
-- with another number nothing
unfoldable pub where_text : ℕ → Fault → ℕ → List ℕ
where_text refusal fault day =
    cond (eqb refusal 6) (from_text day)
    (cond (eqb refusal 5 || (eqb refusal 7 || eqb refusal 8)) (at_line_text fault.line ++ at_product_text refusal fault.id) [])

-- '`NO n`' and where
unfoldable pub refused_file_text : ℕ → Fault → ℕ → List ℕ
refused_file_text refusal fault day = (78 ∷ 79 ∷ []) ++ (spaced refusal ++ (where_text refusal fault day ++ (10 ∷ [])))

-- what is said; nothing where there is a file
unfoldable pub said_text : Composed → List ℕ
said_text c =
    cond (eqb c.bad 0) (cond (eqb c.refusal 0) [] (refused_file_text c.refusal c.fault c.day)) (bad_entry_text c.bad)
