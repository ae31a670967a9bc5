-- What is printed part by part is what the definition prints for the whole input.
-- Assumes nothing.
use mathlib.Core.Path.{◌≡◌, refl, sym, ap, ◌∙◌}
use mathlib.Core.Bool.{Bool, true, false, cond}
use mathlib.Core.List.{List, [], ◌∷◌, ◌++◌, append-nil, append_assoc}
use Prim.Native.Nat.{ℕ, suc, ◌<◌}
use native.Mathlib.Omega.{arith}
use lib.Dec.{eqb}
use lib.ListN.{length, get_or}
use borrow.Author.Tests.{eq-eqb, ne_eqb}
use Rattle.table.specs.declared.Outcome.{Outcome}
use Rattle.table.specs.Table.{open_call}
use Rattle.session_lines.specs.declared.Line.{Line}
use Rattle.session_lines.specs.CommandLines.{command_of, line_command, empty_line, extended, fed, lines_from}
use Rattle.session_lines.specs.InputRest.{rest_over}
use Rattle.session_lines.proofs.LineFeeding.{any-length, any-empty, fed-more}
use Rattle.session_command.specs.declared.Kept.{Kept}
use Rattle.session_command.specs.Sessions.{answer_text, kept_after, nothing_kept, session_text, kept_run, terms_text, terms_refused, rest_text, rest_kept}

-- the line that the program holds is the line that has begun
rest-is : (opening : List ℕ → ℕ → Outcome) (h : Kept) (begun input : List ℕ)
    → rest_text opening h (fed empty_line begun) input ≡ session_text opening h (lines_from begun input)
unfolding rest_text rest_over session_text lines_from fed
rest-is opening h begun [] = rw (any-empty begun, any-length begun) (go (eqb (length begun) 0))
  where
    text : List ℕ
    text = answer_text opening h (command_of begun)

    go : (b : Bool) → cond b [] (text ++ []) ≡ session_text opening h (cond b [] (begun ∷ []))
    go true = refl
    go false = refl
rest-is opening h begun (byte ∷ rest) = go (eqb byte 10) (rest-is opening (kept_after opening h (command_of begun)) [] rest)
    (rest-is opening h (begun ++ (byte ∷ [])) rest)
  where
    l : Line
    l = fed empty_line begun

    go : (b : Bool)
        → rest_text opening (kept_after opening h (command_of begun)) (fed empty_line []) rest
        ≡ session_text opening (kept_after opening h (command_of begun)) (lines_from [] rest)
        → rest_text opening h (fed empty_line (begun ++ (byte ∷ []))) rest ≡ session_text opening h (lines_from (begun ++ (byte ∷ [])) rest)
        → cond b (answer_text opening h (line_command l) ++ rest_text opening (kept_after opening h (line_command l)) empty_line rest)
        (rest_text opening h (extended l byte) rest)
        ≡ session_text opening h (cond b (begun ∷ lines_from [] rest) (lines_from (begun ++ (byte ∷ [])) rest))
    go true e d = rw (any-length begun) (ap (λ (t : List ℕ). answer_text opening h (command_of begun) ++ t) e)
    go false e d = rw (fed-more empty_line begun byte) at d

-- from nothing kept and an empty line, what is printed part by part is the whole text
pub whole-text : (file input : List ℕ) → rest_text (open_call file) nothing_kept empty_line input ≡ terms_text file input
unfolding terms_text fed
whole-text file input = rest-is (open_call file) nothing_kept [] input

-- and so is what is kept
kept-is : (opening : List ℕ → ℕ → Outcome) (h : Kept) (begun input : List ℕ)
    → rest_kept opening h (fed empty_line begun) input ≡ kept_run opening h (lines_from begun input)
unfolding rest_kept rest_over kept_run lines_from fed
kept-is opening h begun [] = rw (any-empty begun, any-length begun) (go (eqb (length begun) 0))
  where
    go : (b : Bool) → cond b h (kept_after opening h (command_of begun)) ≡ kept_run opening h (cond b [] (begun ∷ []))
    go true = refl
    go false = refl
kept-is opening h begun (byte ∷ rest) = go (eqb byte 10) (kept-is opening (kept_after opening h (command_of begun)) [] rest)
    (kept-is opening h (begun ++ (byte ∷ [])) rest)
  where
    l : Line
    l = fed empty_line begun

    go : (b : Bool)
        → rest_kept opening (kept_after opening h (command_of begun)) (fed empty_line []) rest
        ≡ kept_run opening (kept_after opening h (command_of begun)) (lines_from [] rest)
        → rest_kept opening h (fed empty_line (begun ++ (byte ∷ []))) rest ≡ kept_run opening h (lines_from (begun ++ (byte ∷ [])) rest)
        → cond b (rest_kept opening (kept_after opening h (line_command l)) empty_line rest) (rest_kept opening h (extended l byte) rest)
        ≡ kept_run opening h (cond b (begun ∷ lines_from [] rest) (lines_from (begun ++ (byte ∷ [])) rest))
    go true e d = rw (any-length begun) e
    go false e d = rw (fed-more empty_line begun byte) at d

-- what is kept after a whole input is what its lines leave one after the other
pub whole-kept : (opening : List ℕ → ℕ → Outcome) (input : List ℕ)
    → rest_kept opening nothing_kept empty_line input ≡ kept_run opening nothing_kept (lines_from [] input)
unfolding fed
whole-kept opening input = kept-is opening nothing_kept [] input

-- whether an answer to an input was `NO n` or `BAD`
pub whole-refused : (file input : List ℕ) → (rest_kept (open_call file) nothing_kept empty_line input).refused ≡ terms_refused file input
unfolding terms_refused
whole-refused file input = ap (λ (h : Kept). h.refused) (whole-kept (open_call file) input)

-- lines after others
pub text-append : (opening : List ℕ → ℕ → Outcome) (h : Kept) (first later : List (List ℕ))
    → session_text opening h (first ++ later) ≡ session_text opening h first ++ session_text opening (kept_run opening h first) later
unfolding session_text kept_run
text-append opening h [] later = refl
text-append opening h (line ∷ first) later =
    ap (λ (t : List ℕ). answer_text opening h (command_of line) ++ t) (text-append opening (kept_after opening h (command_of line)) first later)
    ∙ sym (append_assoc (answer_text opening h (command_of line)) (session_text opening (kept_after opening h (command_of line)) first)
    (session_text opening (kept_run opening (kept_after opening h (command_of line)) first) later))

-- what is kept after more lines is what the later lines leave after the first
pub kept_append : (opening : List ℕ → ℕ → Outcome) (h : Kept) (first later : List (List ℕ))
    → kept_run opening h (first ++ later) ≡ kept_run opening (kept_run opening h first) later
unfolding kept_run
kept_append opening h [] later = refl
kept_append opening h (line ∷ first) later = kept_append opening (kept_after opening h (command_of line)) first later

-- what makes the line longer at each byte that is no line feed does so at bytes with no line feed among them
pub passed-bytes : {X : Type 0} (g : Line → List ℕ → X)
    → ((l : Line) (byte : ℕ) (rest : List ℕ) → (byte ≡ 10 → ⊥) → g l (byte ∷ rest) ≡ g (extended l byte) rest)
    → (l : Line) (bytes rest : List ℕ) → ((i : ℕ) → i < length bytes → get_or bytes i 0 ≡ 10 → ⊥) → g l (bytes ++ rest) ≡ g (fed l bytes) rest
unfolding fed
passed-bytes g step l [] rest none = refl
passed-bytes g step l (byte ∷ bytes) rest none =
    step l byte (bytes ++ rest) (none 0 (omega arith))
    ∙ passed-bytes g step (extended l byte) bytes rest (λ i s. none (suc i) (omega arith))

module _ (opening : List ℕ → ℕ → Outcome) (h : Kept) (l : Line) where
  -- a byte that ends no line joins the line, and the text of the rest follows
  pub text-byte : (byte : ℕ) (rest : List ℕ) → (byte ≡ 10 → ⊥) → rest_text opening h l (byte ∷ rest) ≡ rest_text opening h (extended l byte) rest
  unfolding rest_text rest_over
  text-byte byte rest n = rw (ne_eqb byte 10 n) refl

  -- a byte that ends no line joins the line, and what the rest leaves is kept
  pub kept_byte : (byte : ℕ) (rest : List ℕ) → (byte ≡ 10 → ⊥) → rest_kept opening h l (byte ∷ rest) ≡ rest_kept opening h (extended l byte) rest
  unfolding rest_kept rest_over
  kept_byte byte rest n = rw (ne_eqb byte 10 n) refl

  -- a line feed ends a line
  pub text-line : (byte : ℕ) (rest : List ℕ) → byte ≡ 10
      → rest_text opening h l (byte ∷ rest) ≡ answer_text opening h (line_command l) ++ rest_text opening (kept_after opening h (line_command l)) empty_line rest
  unfolding rest_text rest_over
  text-line byte rest e = rw (eq-eqb byte 10 e) refl

  -- a line feed ends the line, and what its command leaves is kept for the rest
  pub kept_line : (byte : ℕ) (rest : List ℕ) → byte ≡ 10
      → rest_kept opening h l (byte ∷ rest) ≡ rest_kept opening (kept_after opening h (line_command l)) empty_line rest
  unfolding rest_kept rest_over
  kept_line byte rest e = rw (eq-eqb byte 10 e) refl

  -- the end of the input leaves what a line that has bytes leaves
  pub kept-end : rest_kept opening h l [] ≡ cond (eqb l.length 0) h (kept_after opening h (line_command l))
  unfolding rest_kept rest_over
  kept-end = refl

  -- the end of the input ends a line that has bytes
  pub text-end : rest_text opening h l [] ≡ cond (eqb l.length 0) [] (answer_text opening h (line_command l))
  unfolding rest_text rest_over
  text-end = ap (cond (eqb l.length 0) []) (append-nil (answer_text opening h (line_command l)))
