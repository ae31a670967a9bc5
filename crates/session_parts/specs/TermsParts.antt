-- The text of the program `terms`, part by part of its input (01, March 2008 and its neighbours, 'The program `terms`').
-- Assumes nothing.
use Rattle.std.specs.Prelude.{ℕ, ◌+◌, ◌-◌, ◌%◌, ◌^◌, ◌≤◌, ◌<◌, ◌≡◌, Bool, ◌&&◌, cond, List, [], ◌∷◌, ◌++◌, ◌⊎◌, leb, ltb, eqb, length, take, drop}
use Rattle.session_lines.specs.declared.Line.{Line}
use Rattle.session_lines.specs.CommandLines.{line_command, empty_line, extended}
use Rattle.session_text.specs.Buffer.{roomy}
use Rattle.file_calendar.specs.declared.FileCalendar.{FileCalendar}
use Rattle.table.specs.declared.Outcome.{Outcome}
use Rattle.session_command.specs.declared.Kept.{Kept}
use Rattle.session_command.specs.Sessions.{nothing_kept, answer_text, kept_after, rest_text, rest_kept, Known}
use Rattle.session_apart.specs.Apart.{table_with, kept_with}
use Rattle.session_parts.specs.declared.TermsProgress.{TermsProgress}
use Rattle.session_parts.specs.declared.Step.{Step}
use Rattle.session_parts.specs.declared.LastLine.{LastLine}

-- the part goes on at a place, and the buffer has room for another answer
unfoldable pub another : List ℕ → ℕ → List ℕ → ℕ → Bool
another part at out n = ltb at (length part) && roomy out n

-- only the code needs these: how far a part was answered, with the table put together again from its maps
abbrev pub progress_with : Step → List ℕ → List ℕ → TermsProgress
progress_with s closed exchange =
    record {
      kept = kept_with s.replied.opened s.replied.rest closed exchange s.replied.refused;
      line = s.line;
      at = s.at;
      length = s.replied.at;
    }

-- and what is known of it beforehand
abbrev pub KnownStep : FileCalendar → Bool → Step → List ℕ → List ℕ → Type 0
KnownStep judged right s closed exchange = Known judged right (table_with s.replied.rest closed exchange) s.replied.ten

-- how far the bytes of a part are answered: what is kept, the line so far, the text that was written, and the bytes that are left
pub record Passed : Type 0 where
  pub kept : Kept
  pub line : Line
  pub text : List ℕ
  pub left : List ℕ

-- some bytes, with a table kept, a line begun and a text that stands in a buffer of so many bytes:
-- a line that ends is answered, and after it the next one is looked at as long as 512 bytes are free
unfoldable pub passed : (List ℕ → ℕ → Outcome) → ℕ → Kept → Line → List ℕ → List ℕ → Passed
passed opening size h l text [] = record { kept = h; line = l; text = text; left = [] }
passed opening size h l text (byte ∷ rest) =
    let written = text ++ answer_text opening h (line_command l) in
    let after = kept_after opening h (line_command l) in
    cond (eqb byte 10)
    (cond (leb (length written + 512) size) (passed opening size after empty_line written rest)
    (record { kept = after; line = empty_line; text = written; left = rest }))
    (passed opening size h (extended l byte) text rest)

-- the same where the first line, too, is looked at only where 512 bytes are free
unfoldable pub passed_on : (List ℕ → ℕ → Outcome) → ℕ → Kept → Line → List ℕ → List ℕ → Passed
passed_on opening size h l text bytes =
    cond (leb (length text + 512) size) (passed opening size h l text bytes) (record { kept = h; line = l; text = text; left = bytes })

-- the place in a part, from a place on, and the count of bytes in the buffer
abbrev pub progress_of : List ℕ → ℕ → Passed → TermsProgress
progress_of part from p = record { kept = p.kept; line = p.line; at = from + (length (drop from part) - length p.left); length = length p.text }

-- one line, or the rest of the part: a piece of text stands after what stood in the buffer, and for every rest of the input it is what comes next
pub record Next (opening : List ℕ → ℕ → Outcome) (part before after : List ℕ) (s r : TermsProgress) : Type 0 where
  pub piece : List ℕ
  pub text : (rest : List ℕ) → rest_text opening s.kept s.line (drop s.at part ++ rest)
      ≡ piece ++ rest_text opening r.kept r.line (drop r.at part ++ rest)
  pub state : (rest : List ℕ) → rest_kept opening s.kept s.line (drop s.at part ++ rest)
      ≡ rest_kept opening r.kept r.line (drop r.at part ++ rest)
  pub is : take r.length after ≡ take s.length before ++ piece
  pub unchanged : drop r.length after ≡ drop r.length before
  pub long : length after ≡ length before
  pub fits : (s.length ≤ r.length) × (r.length ≤ length after)
  pub on : (s.at < r.at) × (r.at ≤ length part)
  pub ahead : passed opening (length before) s.kept s.line (take s.length before) (drop s.at part)
      ≡ passed_on opening (length before) r.kept r.line (take r.length after) (drop r.at part)

-- the answers to the lines that end in a part from a place on
pub record Answers (opening : List ℕ → ℕ → Outcome) (h : Kept) (l : Line) (part : List ℕ) (from : ℕ) (before after : List ℕ) (r : TermsProgress) : Type 0 where
  -- for every rest of the input, what was written followed by the text of what remains is the text of the whole
  pub text : (rest : List ℕ) → rest_text opening h l (drop from part ++ rest)
      ≡ take r.length after ++ rest_text opening r.kept r.line (drop r.at part ++ rest)
  -- and what is kept after the whole is what is kept after what remains
  pub state : (rest : List ℕ) → rest_kept opening h l (drop from part ++ rest) ≡ rest_kept opening r.kept r.line (drop r.at part ++ rest)
  -- it stands at the buffer's start, and nothing else is changed
  pub fits : r.length ≤ length after
  pub unchanged : drop r.length after ≡ drop r.length before
  pub long : length after ≡ length before
  -- with room for an answer and a place inside the part the place moves on, and stays in the part
  pub moves : 512 ≤ length before → from < length part → from < r.at
  pub within : from ≤ length part → r.at ≤ length part
  -- where the part is not used up, the buffer has no room for another answer
  pub full : r.at < length part → length before < r.length + 512
  -- without room for an answer, or at a place past the part, all stays as it is
  pub idle : (length before < 512) ⊎ (length part ≤ from) → (r ≡ record { kept = h; line = l; at = from; length = 0 }) × (after ≡ before)
  -- so on every input the place, the line, what is kept and the text are those of the lines that are answered as long as 512 bytes are free
  pub is : r ≡ progress_of part from (passed_on opening (length before) h l [] (drop from part))
  pub bytes : take r.length after ≡ (passed_on opening (length before) h l [] (drop from part)).text

-- the answer to a last line that no line feed ends: where there is room, what is printed for an input that has ended,
-- and whether an answer was `NO n` or `BAD`
pub record LastAnswer (opening : List ℕ → ℕ → Outcome) (h : Kept) (l : Line) (before after : List ℕ) (r : LastLine) : Type 0 where
  pub text : 512 ≤ length before → rest_text opening h l [] ≡ take r.length after
  pub refused : r.refused ≡ (rest_kept opening h l []).refused
  pub fits : r.length ≤ length after
  pub unchanged : drop r.length after ≡ drop r.length before
  pub long : length after ≡ length before
  pub idle : length before < 512 → (r.length ≡ 0) × (after ≡ before)

-- so many bytes more, counted modulo 2^64
abbrev pub counted : ℕ → ℕ → ℕ
counted n more = (n + more) % 2 ^ 64

-- at a write, the bytes that stand in the lent buffer are what comes next of the session's text from the state s:
-- the answers to the lines that end in the part between the places of s and r; or the answer to the line of s as the last one;
-- that s is the state which the session has reached, and that `last` is used where the input has ended, is seen where it is used, not said here
pub data ComesNext (opening : List ℕ → ℕ → Outcome) (part : List ℕ) (s r : TermsProgress) (bytes : List ℕ) : Type 0 where
  answers : ((rest : List ℕ) → rest_text opening s.kept s.line (drop s.at part ++ rest)
      ≡ bytes ++ rest_text opening r.kept r.line (drop r.at part ++ rest))
      → ComesNext opening part s r bytes
  last : rest_text opening s.kept s.line [] ≡ bytes → ComesNext opening part s r bytes

-- a part of the input is used up but for what is left of it:
-- there is a text which for every rest of the input is what comes next, and the count that the writing function gave back grew by its length;
-- that these bytes went out is said at each write (`ComesNext`), not here
pub record Handed (opening : List ℕ → ℕ → Outcome) (h : Kept) (l : Line) (part : List ℕ) (n : ℕ) (h' : Kept) (l' : Line) (left : List ℕ) (n' : ℕ) : Type 0 where
  pub text : List ℕ
  pub is : (rest : List ℕ) → rest_text opening h l (part ++ rest) ≡ text ++ rest_text opening h' l' (left ++ rest)
  pub state : (rest : List ℕ) → rest_kept opening h l (part ++ rest) ≡ rest_kept opening h' l' (left ++ rest)
  pub count : n' ≡ counted n (length text)

-- the parts in which an input arrives, joined
unfoldable pub in_one : List (List ℕ) → List ℕ
in_one [] = []
in_one (part ∷ parts) = part ++ in_one parts

-- a run of the program from what is kept, a line begun and a count of bytes:
-- one part of the input after the other, then the last line; all that it writes, and the count at its end
pub data Run (opening : List ℕ → ℕ → Outcome) : Kept → Line → ℕ → List (List ℕ) → List ℕ → ℕ → Type 0 where
  ended : {h : Kept} {l : Line} {n n' : ℕ} → n' ≡ counted n (length (rest_text opening h l [])) → Run opening h l n [] (rest_text opening h l []) n'
  goes_on : {h h' : Kept} {l l' : Line} {n m n' : ℕ} {part : List ℕ} {parts : List (List ℕ)} {text : List ℕ}
      → (d : Handed opening h l part n h' l' [] m)
      → Run opening h' l' m parts text n'
      → Run opening h l n (part ∷ parts) (d.text ++ text) n'

-- there are parts of an input whose whole run, from the first command on, writes so many bytes, modulo 2^64; that they are the parts that were read is not said
pub record Ran (opening : List ℕ → ℕ → Outcome) (n : ℕ) : Type 0 where
  pub parts : List (List ℕ)
  pub text : List ℕ
  pub run : Run opening nothing_kept empty_line 0 parts text n
