-- The text of `query`, part by part of its input (docs/DELIVERY.md, `query`, from which the quotations are).
-- Assumes nothing.
use Rattle.std.specs.Prelude.{ℕ, ◌+◌, ◌≤◌, ◌<◌, ◌≡◌, Bool, ◌||◌, List, [], ◌++◌, ◌⊎◌, length, take, drop}
use Rattle.session_lines.specs.InputRest.{rest_over}
use Rattle.delivery_items.specs.declared.LongLine.{LongLine}
use Rattle.delivery_items.specs.Items.{empty_long, lengthened}
use Rattle.delivery_answers.specs.declared.Standing.{Standing}
use Rattle.delivery_queries.specs.Queries.{next_number, long_text, long_refused}
use Rattle.delivery_sessions.specs.declared.QueryProgress.{QueryProgress}

-- what is still answered for the rest of an input, with the number of the line that is begun, and its bytes so far;
-- from an empty line with the number 1 this is `replies_text` (proofs, QueryLinesFed: `whole-input`)
unfoldable pub query_rest : (List ℕ → Standing) → ℕ → LongLine → List ℕ → List ℕ
query_rest of = rest_over empty_long lengthened (λ l. l.length) (λ k. []) (λ k l next. long_text of k l ++ next (next_number k))

-- whether an answer is '`NO n`' or '`BAD K`': one so far, or one to the rest of an input, with the bytes so far of the line that is begun
unfoldable pub refused_rest : (List ℕ → Standing) → Bool → LongLine → List ℕ → Bool
refused_rest of = rest_over empty_long lengthened (λ l. l.length) (λ b. b) (λ b l next. next (b || long_refused of l))

-- one line, or the rest of the part: a piece of text stands after what stood in the buffer, and for every rest of the input it is what comes next
pub record QueryNext (of : List ℕ → Standing) (part before after : List ℕ) (s r : QueryProgress) : Type 0 where
  pub piece : List ℕ
  pub text : (rest : List ℕ) → query_rest of s.number s.line (drop s.at part ++ rest)
      ≡ piece ++ query_rest of r.number r.line (drop r.at part ++ rest)
  -- what is refused so far or will be is the same before and after
  pub refused : (rest : List ℕ) → refused_rest of s.refused s.line (drop s.at part ++ rest)
      ≡ refused_rest of r.refused r.line (drop r.at part ++ rest)
  pub is : take r.length after ≡ take s.length before ++ piece
  pub unchanged : drop r.length after ≡ drop r.length before
  pub long : length after ≡ length before
  pub fits : (s.length ≤ r.length) × (r.length ≤ length after)
  pub on : (s.at < r.at) × (r.at ≤ length part)

-- the answers to the lines that end in a part from a place on
pub record QueryAnswers (of : List ℕ → Standing) (k : ℕ) (b : Bool) (l : LongLine) (part : List ℕ) (from : ℕ) (before after : List ℕ) (r : QueryProgress)
    : Type 0 where
  -- for every rest of the input, what was written followed by the text of what remains is the text of the whole
  pub text : (rest : List ℕ) → query_rest of k l (drop from part ++ rest)
      ≡ take r.length after ++ query_rest of r.number r.line (drop r.at part ++ rest)
  -- for every rest of the input, what is refused so far or will be is the same before and after
  pub refused : (rest : List ℕ) → refused_rest of b l (drop from part ++ rest) ≡ refused_rest of r.refused r.line (drop r.at part ++ rest)
  -- it stands at the buffer's start, and nothing else is changed
  pub fits : r.length ≤ length after
  pub unchanged : drop r.length after ≡ drop r.length before
  pub long : length after ≡ length before
  -- with room for an answer and a place inside the part the place moves on, and stays in the part
  pub moves : 512 ≤ length before → from < length part → from < r.at
  pub within : from ≤ length part → r.at ≤ length part
  -- where the part is not used up, the buffer has no room for another answer
  pub full : r.at < length part → length before < r.length + 512
  -- without room for an answer, or at a place past the part, all stays as it is
  pub idle : (length before < 512) ⊎ (length part ≤ from) → (r ≡ record { number = k; line = l; at = from; length = 0; refused = b }) × (after ≡ before)

-- the answer to a last line that no line feed ends: where there is room, what is answered for an input that has ended,
-- and whether this answer or one so far is refused
pub record QueryLastAnswer (of : List ℕ → Standing) (k : ℕ) (b : Bool) (l : LongLine) (before after : List ℕ) (r : ℕ) (b' : Bool) : Type 0 where
  pub text : 512 ≤ length before → query_rest of k l [] ≡ take r after
  pub refused : 512 ≤ length before → refused_rest of b l [] ≡ b'
  pub fits : r ≤ length after
  pub unchanged : drop r after ≡ drop r before
  pub long : length after ≡ length before
  pub idle : length before < 512 → (r ≡ 0) × (b' ≡ b) × (after ≡ before)
