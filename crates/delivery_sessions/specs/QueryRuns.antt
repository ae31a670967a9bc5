-- A run of `query`: what it writes, and how many bytes that is (docs/DELIVERY.md, `query`).
-- Assumes nothing.
use Rattle.std.specs.Prelude.{ℕ, ◌%◌, ◌^◌, ◌≡◌, Bool, false, List, [], ◌∷◌, ◌++◌, length, drop}
use Rattle.questions.specs.Questions.{first_no}
use Rattle.file_load.specs.Load.{load_asks}
use Rattle.session_parts.specs.TermsParts.{counted, in_one}
use Rattle.delivery_lines.specs.NoticeLines.{unmarked}
use Rattle.delivery_notices.specs.Notices.{text_told}
use Rattle.delivery_items.specs.declared.LongLine.{LongLine}
use Rattle.delivery_items.specs.Items.{empty_long}
use Rattle.delivery_answers.specs.declared.Standing.{Standing}
use Rattle.delivery_queries.specs.Queries.{standing_of}
use Rattle.delivery_sessions.specs.declared.QueryProgress.{QueryProgress}
use Rattle.delivery_sessions.specs.QueryParts.{query_rest, refused_rest}

-- at a write, the bytes that stand in the lent buffer are what comes next of the answers from the state s:
-- those to the lines that end in the part between the places of s and r; or the answer to the line of s as the last one;
-- that s is the state which the run has reached, and that `last` is used where the input has ended, is seen where it is used, not said here
pub data QueryComesNext (of : List ℕ → Standing) (part : List ℕ) (s r : QueryProgress) (bytes : List ℕ) : Type 0 where
  answers : ((rest : List ℕ) → query_rest of s.number s.line (drop s.at part ++ rest)
      ≡ bytes ++ query_rest of r.number r.line (drop r.at part ++ rest))
      → QueryComesNext of part s r bytes
  last : query_rest of s.number s.line [] ≡ bytes → QueryComesNext of part s r bytes

-- a part of the input is used up but for what is left of it:
-- there is a text which for every rest of the input is what comes next, and the count that the writing function gave back grew by its length;
-- that these bytes went out is said at each write (`QueryComesNext`), not here; whether an answer was refused is kept
pub record QueryHanded (of : List ℕ → Standing) (k : ℕ) (b : Bool) (l : LongLine) (part : List ℕ) (n k' : ℕ) (b' : Bool) (l' : LongLine) (left : List ℕ)
    (n' : ℕ) : Type 0 where
  pub text : List ℕ
  pub is : (rest : List ℕ) → query_rest of k l (part ++ rest) ≡ text ++ query_rest of k' l' (left ++ rest)
  pub count : n' ≡ counted n (length text)
  pub refused : (rest : List ℕ) → refused_rest of b l (part ++ rest) ≡ refused_rest of b' l' (left ++ rest)

-- a run of the program from a line begun, its number, whether an answer was refused and a count of bytes:
-- one part of the input after the other, then the last line; all that it writes, the count at its end, and whether an answer was refused
pub data QueryRun (of : List ℕ → Standing) : ℕ → Bool → LongLine → ℕ → List (List ℕ) → List ℕ → ℕ → Bool → Type 0 where
  ended : {k : ℕ} {b b' : Bool} {l : LongLine} {n n' : ℕ} → n' ≡ counted n (length (query_rest of k l [])) → refused_rest of b l [] ≡ b'
      → QueryRun of k b l n [] (query_rest of k l []) n' b'
  goes_on : {k k' : ℕ} {b b' b'' : Bool} {l l' : LongLine} {n m n' : ℕ} {part : List ℕ} {parts : List (List ℕ)} {text : List ℕ}
      → (d : QueryHanded of k b l part n k' b' l' [] m)
      → QueryRun of k' b' l' m parts text n' b''
      → QueryRun of k b l n (part ∷ parts) (d.text ++ text) n' b''

-- there is an input of m bytes, which is in parts without its mark, whose whole run, from line 1 on, writes n bytes, both modulo 2^64,
-- and has refused an answer, or not;
-- that it is the input that was read is not said
pub record QueryRan (of : List ℕ → Standing) (n : ℕ) (b : Bool) (m : ℕ) : Type 0 where
  pub input : List ℕ
  pub long : m ≡ length input % 2 ^ 64
  pub parts : List (List ℕ)
  pub cut : in_one parts ≡ unmarked input
  pub text : List ℕ
  pub run : QueryRun of 1 false empty_long 0 parts text n b

-- only the code needs it: between two reads, m bytes having come, modulo 2^64:
-- whatever a run from here writes, it is the rest of a run from the first line on
pub record Came (of : List ℕ → Standing) (k : ℕ) (b : Bool) (l : LongLine) (n m : ℕ) : Type 0 where
  pub input : List ℕ
  pub long : m ≡ length input % 2 ^ 64
  pub parts : List (List ℕ)
  pub cut : (later : List (List ℕ)) → in_one (parts ++ later) ≡ unmarked (input ++ in_one later)
  pub text : List ℕ
  pub on : (later : List (List ℕ)) (t : List ℕ) (n' : ℕ) (b' : Bool) → QueryRun of k b l n later t n' b'
      → QueryRun of 1 false empty_long 0 (parts ++ later) (text ++ t) n' b'

-- a run on a file and a text of notices: the file is accepted, no notice is bad, and n bytes were written for an input of m bytes, both modulo 2^64;
-- by `query-text` and `query-count` they are then as many as `query_text` of the three has, and by `query-refused` the truth value is `query_refused`
pub record RanOn (f notices : List ℕ) (n : ℕ) (b : Bool) (m : ℕ) : Type 0 where
  pub accepted : first_no (load_asks f) ≡ 0
  pub good : (text_told notices).bad ≡ 0
  pub ran : QueryRan (standing_of f (text_told notices).date (text_told notices).notices) n b m
