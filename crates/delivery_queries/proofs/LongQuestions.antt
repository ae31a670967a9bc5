-- A line of any length gets the answer of the definition: its first 255 bytes, and whether a byte after them is no blank, tell all that is asked.
-- Assumes nothing.
use mathlib.Core.Path.{◌≡◌, refl, ◌∙◌, sym, ap}
use mathlib.Core.Bool.{Bool, true, false, cond}
use mathlib.Core.Logic.{◌⊎◌, inl, inr}
use mathlib.Core.List.{List, []}
use Prim.Native.Nat.{ℕ, ◌≤◌, ◌<◌}
use native.Mathlib.Omega.{arith}
use lib.Dec.{eqb}
use lib.ListN.{length, get_or, take, length-take}
use lib.Seq.{get_or-take, length-take-le}
use borrow.Author.Tests.{lt-leb, ne_eqb}
use Rattle.questions.proofs.Bools.{lt-or-ge}
use Rattle.delivery_lines.specs.NoticeLines.{trimmed}
use Rattle.delivery_items.specs.declared.LongLine.{LongLine}
use Rattle.delivery_items.specs.Items.{empty_long, fed_long}
use Rattle.delivery_items.proofs.LongItems.{Holds, all, none}
use Rattle.delivery_questions.specs.QuestionLines.{nothing, bad, trimmed_asked, asked_by}
use Rattle.delivery_answers.specs.declared.Standing.{Standing}
use Rattle.delivery_answers.specs.Replies.{asked_text, question_answer, asked_refused}
use Rattle.delivery_queries.specs.Queries.{long_asked, long_text, long_refused}

-- a line of more than 255 bytes is a comment, or bad
long-asked : (line : List ℕ) → 255 < length (trimmed line) → asked_by line ≡ cond (eqb (get_or (trimmed line) 0 0) 35) nothing bad
unfolding trimmed_asked
long-asked line h = rw (ne_eqb (length (trimmed line)) 0 (λ e. omega arith), lt-leb (length (trimmed line)) 255 h) refl

-- its first byte is held
first_byte : (l : LongLine) (line : List ℕ) → Holds l line → l.over ≡ true → get_or l.bytes 0 0 ≡ get_or (trimmed line) 0 0
first_byte l line h o =
    sym (get_or-take l.length l.bytes 0 0 (some (lt-or-ge 0 l.length)))
    ∙ ap (λ (x : List ℕ). get_or x 0 0) (h.bytes ∙ sym (h.past o).1)
    ∙ get_or-take 255 (trimmed line) 0 0 (omega arith)
  where
    full : length (take 255 line) ≡ 255
    full = sym (ap length (h.past o).1) ∙ length-take-le 255 (trimmed line) (omega (arith, (h.past o).0))

    some : (0 < l.length) ⊎ (l.length ≤ 0) → 0 < l.length
    some (inl k) = k
    some (inr k) = absurd (omega (arith, full, length-take 255 line, h.count (omega arith)))

-- such a line is no part of its answer
no_line : (of : List ℕ → Standing) (k : ℕ) (x y : List ℕ) (b : Bool) → asked_text of k x (cond b nothing bad) ≡ asked_text of k y (cond b nothing bad)
unfolding asked_text
no_line of k x y true = refl
no_line of k x y false = refl

held-is : (of : List ℕ → Standing) (k : ℕ) (l : LongLine) (line : List ℕ) → Holds l line → long_text of k l ≡ question_answer of k line
unfolding long_text long_asked question_answer
held-is of k l line h = go l.over refl
  where
    go : (b : Bool) → l.over ≡ b
        → asked_text of k (trimmed (take l.length l.bytes)) (cond b (cond (eqb (get_or l.bytes 0 0) 35) nothing bad) (asked_by (take l.length
        l.bytes))) ≡ asked_text of k (trimmed line) (asked_by line)
    go true o =
        ap (λ (n : ℕ). asked_text of k (trimmed (take l.length l.bytes)) (cond (eqb n 35) nothing bad)) (first_byte l line h o)
        ∙ no_line of k (trimmed (take l.length l.bytes)) (trimmed line) (eqb (get_or (trimmed line) 0 0) 35)
        ∙ ap (asked_text of k (trimmed line)) (sym (long-asked line (h.past o).0))
    go false o = ap (λ (x : List ℕ). asked_text of k x (trimmed_asked x)) (ap trimmed h.bytes ∙ h.whole o)

-- a line of any length, fed byte by byte to an empty line, is answered as the definition says
pub any-length : (of : List ℕ → Standing) (k : ℕ) (line : List ℕ) → long_text of k (fed_long empty_long line) ≡ question_answer of k line
any-length of k line = held-is of k (fed_long empty_long line) line (all empty_long [] line none)

-- what a line as it is held asks is what the line asks
asked_is : (l : LongLine) (line : List ℕ) → Holds l line → long_asked l ≡ asked_by line
unfolding long_asked
asked_is l line h = go l.over refl
  where
    go : (b : Bool) → l.over ≡ b → cond b (cond (eqb (get_or l.bytes 0 0) 35) nothing bad) (asked_by (take l.length l.bytes)) ≡ asked_by line
    go true o = ap (λ (n : ℕ). cond (eqb n 35) nothing bad) (first_byte l line h o) ∙ sym (long-asked line (h.past o).0)
    go false o = ap trimmed_asked (ap trimmed h.bytes ∙ h.whole o)

-- a line of any length, fed byte by byte to an empty line, is refused as the definition says
pub any-refused : (of : List ℕ → Standing) (line : List ℕ) → long_refused of (fed_long empty_long line) ≡ asked_refused of (asked_by line)
unfolding long_refused
any-refused of line = ap (asked_refused of) (asked_is (fed_long empty_long line) line (all empty_long [] line none))
