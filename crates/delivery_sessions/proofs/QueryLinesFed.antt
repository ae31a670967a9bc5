-- The lines of an input, byte by byte.
-- Assumes nothing.
use mathlib.Core.Path.{◌≡◌, refl, ◌∙◌, sym, ap}
use mathlib.Core.Bool.{Bool, true, false, ◌||◌, cond}
use mathlib.Core.List.{List, [], ◌∷◌, ◌++◌}
use Prim.Native.Nat.{ℕ}
use lib.Dec.{eqb}
use lib.ListN.{length, drop, drop_of_length-le}
use Rattle.session_lines.specs.CommandLines.{lines_from}
use Rattle.session_lines.specs.InputRest.{rest_over}
use Rattle.delivery_items.specs.declared.LongLine.{LongLine}
use Rattle.delivery_items.specs.declared.LineEnd.{LineEnd}
use Rattle.delivery_items.specs.Items.{empty_long, lengthened, fed_long}
use Rattle.delivery_items.specs.LineEnds.{line_end}
use Rattle.delivery_items.proofs.LongItems.{any-empty, fed-more}
use Rattle.delivery_items.proofs.LineEnds.{end-used, rest_ended, rest-begun}
use Rattle.delivery_answers.specs.declared.Standing.{Standing}
use Rattle.delivery_answers.specs.Replies.{question_answer, asked_refused}
use Rattle.delivery_questions.specs.QuestionLines.{asked_by}
use Rattle.delivery_queries.specs.Queries.{next_number, replies_text, long_text, some_refused, long_refused}
use Rattle.delivery_queries.proofs.LongQuestions.{any-length, any-refused}
use Rattle.delivery_sessions.specs.QueryParts.{query_rest, refused_rest}

-- a line from a place of a part on
module _ (of : List ℕ → Standing) (l : LongLine) (part : List ℕ) (from : ℕ) (e : LineEnd) (is : e ≡ line_end l (drop from part) from)
    (k : ℕ) (rest : List ℕ) where
  -- one that ends is answered, and the next begins after it
  pub query-ended : e.ended ≡ true → query_rest of k l (drop from part ++ rest)
      ≡ long_text of k e.line ++ query_rest of (next_number k) empty_long (drop e.next part ++ rest)
  unfolding query_rest
  query-ended y = rest_ended l part from e is _ _ k rest y

  -- one that does not end goes on after the part
  pub query-begun : e.ended ≡ false → query_rest of k l (drop from part ++ rest) ≡ query_rest of k e.line (drop e.next part ++ rest)
  unfolding query_rest
  query-begun n = rw (drop_of_length-le part (end-used l part from e is n)) (rest-begun l part from e is _ _ k rest n)

-- the same of what is refused
module _ (of : List ℕ → Standing) (l : LongLine) (part : List ℕ) (from : ℕ) (e : LineEnd) (is : e ≡ line_end l (drop from part) from)
    (b : Bool) (rest : List ℕ) where
  -- a line that ends is refused or not
  pub refused-ended : e.ended ≡ true
      → refused_rest of b l (drop from part ++ rest) ≡ refused_rest of (b || long_refused of e.line) empty_long (drop e.next part ++ rest)
  unfolding refused_rest
  refused-ended y = rest_ended l part from e is _ _ b rest y

  -- of one that does not end nothing is known yet
  pub refused-begun : e.ended ≡ false → refused_rest of b l (drop from part ++ rest) ≡ refused_rest of b e.line (drop e.next part ++ rest)
  unfolding refused_rest
  refused-begun n = rw (drop_of_length-le part (end-used l part from e is n)) (rest-begun l part from e is _ _ b rest n)

-- ---- the whole input

no_bytes : fed_long empty_long [] ≡ empty_long
unfolding fed_long
no_bytes = refl

whole : (of : List ℕ → Standing) (k : ℕ) (begun input : List ℕ) → query_rest of k (fed_long empty_long begun) input ≡ replies_text of k (lines_from begun input)
unfolding query_rest rest_over replies_text lines_from
whole of k begun [] = rw (any-empty begun, any-length of k begun) (go (eqb (length begun) 0))
  where
    go : (b : Bool) → cond b [] (question_answer of k begun ++ []) ≡ replies_text of k (cond b [] (begun ∷ []))
    go true = refl
    go false = refl
whole of k begun (byte ∷ rest) = rw (any-length of k begun) (go (eqb byte 10) (ap (λ (x : LongLine). query_rest of (next_number k) x rest)
    (sym no_bytes) ∙ whole of (next_number k) [] rest) (ap (λ (x : LongLine). query_rest of k x rest) (sym (fed-more empty_long begun byte))
    ∙ whole of k (begun ++ (byte ∷ [])) rest))
  where
    go : (b : Bool) → query_rest of (next_number k) empty_long rest ≡ replies_text of (next_number k) (lines_from [] rest)
        → query_rest of k (lengthened (fed_long empty_long begun) byte) rest ≡ replies_text of k (lines_from (begun ++ (byte ∷ [])) rest)
        → cond b (question_answer of k begun ++ query_rest of (next_number k) empty_long rest) (query_rest of k (lengthened (fed_long empty_long begun) byte) rest)
        ≡ replies_text of k (cond b (begun ∷ lines_from [] rest) (lines_from (begun ++ (byte ∷ [])) rest))
    go true p q = ap (λ (x : List ℕ). question_answer of k begun ++ x) p
    go false p q = q

-- the answers to all lines of an input
pub whole-input : (of : List ℕ → Standing) (input : List ℕ) → query_rest of 1 empty_long input ≡ replies_text of 1 (lines_from [] input)
whole-input of input = ap (λ (x : LongLine). query_rest of 1 x input) (sym no_bytes) ∙ whole of 1 [] input

or-none : (b : Bool) → b ≡ (b || false)
or-none true = refl
or-none false = refl

or-next : (a b c : Bool) → ((a || b) || c) ≡ (a || (b || c))
or-next true b c = refl
or-next false b c = refl

whole_from : (of : List ℕ → Standing) (b : Bool) (begun input : List ℕ)
    → refused_rest of b (fed_long empty_long begun) input ≡ (b || some_refused of (lines_from begun input))
unfolding refused_rest rest_over some_refused lines_from
whole_from of b begun [] = rw (any-empty begun, any-refused of begun) (go (eqb (length begun) 0))
  where
    go : (c : Bool) → cond c b (b || asked_refused of (asked_by begun)) ≡ (b || some_refused of (cond c [] (begun ∷ [])))
    go true = or-none b
    go false = ap (λ (x : Bool). b || x) (or-none (asked_refused of (asked_by begun)))
whole_from of b begun (byte ∷ rest) =
    rw (any-refused of begun) (go (eqb byte 10) (ap (λ (x : LongLine). refused_rest of (b || asked_refused of (asked_by begun)) x rest)
    (sym no_bytes) ∙ whole_from of (b || asked_refused of (asked_by begun)) [] rest ∙ or-next b (asked_refused of (asked_by begun)) (some_refused of
    (lines_from [] rest)))
    (ap (λ (x : LongLine). refused_rest of b x rest) (sym (fed-more empty_long begun byte)) ∙ whole_from of b (begun ++ (byte ∷ [])) rest))
  where
    go : (c : Bool)
        → refused_rest of (b || asked_refused of (asked_by begun)) empty_long rest ≡ (b || (asked_refused of (asked_by begun) || some_refused of (lines_from [] rest)))
        → refused_rest of b (lengthened (fed_long empty_long begun) byte) rest ≡ (b || some_refused of (lines_from (begun ++ (byte ∷ [])) rest))
        → cond c (refused_rest of (b || asked_refused of (asked_by begun)) empty_long rest) (refused_rest of b (lengthened (fed_long empty_long begun) byte) rest)
        ≡ (b || some_refused of (cond c (begun ∷ lines_from [] rest) (lines_from (begun ++ (byte ∷ [])) rest)))
    go true p q = p
    go false p q = q

-- whether the answer to some line of an input is refused
pub whole-refused : (of : List ℕ → Standing) (input : List ℕ) → refused_rest of false empty_long input ≡ some_refused of (lines_from [] input)
whole-refused of input = ap (λ (x : LongLine). refused_rest of false x input) (sym no_bytes) ∙ whole_from of false [] input
