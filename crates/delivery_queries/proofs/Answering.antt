-- The answer to a line by what it asks, as the code writes it into a lent buffer.
-- Assumes nothing.
use mathlib.Core.Path.{◌≡◌, refl, ◌∙◌, sym, ap}
use mathlib.Core.Bool.{Bool, true, false, ◌&&◌}
use mathlib.Core.List.{List, [], ◌∷◌, ◌++◌}
use Prim.Native.Nat.{ℕ, ◌+◌, ◌≤◌, ◌<◌}
use native.Mathlib.Omega.{arith}
use lib.Dec.{eqb}
use lib.ListN.{length, get_or, take, drop, length-append}
use lib.Seq.{take-take, take_all, length-take-le, get_or-take, paste, length-paste, sets-eq}
use borrow.Author.Tests.{eq-eqb, ne_eqb}
use Rattle.session_lines.specs.declared.Line.{Line}
use Rattle.session_lines.specs.CommandLines.{empty_line}
use Rattle.session_lines.proofs.LineFeeding.{fed-is}
use Rattle.session_text.specs.Buffer.{Written, roomy, Printed}
use Rattle.session_text.proofs.TextsInBuffer.{then, printed, room-long}
use Rattle.file_text_print.specs.Contents.{LineWith}
use Rattle.delivery_lines.specs.NoticeLines.{trimmed}
use Rattle.delivery_items.specs.declared.LongLine.{LongLine}
use Rattle.delivery_questions.specs.declared.QuestionLine.{QuestionLine}
use Rattle.delivery_questions.specs.QuestionLines.{Question, last, due, tick, cash, size, Asked, nothing, bad, asks, asked_by, bare_held, asked_held}
use Rattle.delivery_answers.specs.declared.Standing.{Standing}
use Rattle.delivery_answers.specs.Replies.{bad_question_text, held_reply, reply_line, held_misfits, asked_text, asked_refused}
use Rattle.delivery_answers.proofs.QuestionHeld.{reply-text, misfit-text}
use Rattle.delivery_answers.proofs.ReplyLengths.{reply-short}
use Rattle.delivery_answers.proofs.ReplyRefusals.{reply-refused}
use Rattle.delivery_queries.specs.Queries.{long_asked, long_text, held_answer, long_refused, held_refused}

-- ---- what a line asks

-- more than 255 bytes, a comment or not
module _ (l : LongLine) where
  -- a line of more than 255 bytes that begins with # is held as one that asks nothing
  pub asks-comment : l.over ≡ true → get_or l.bytes 0 0 ≡ 35 → bare_held 35 ≡ asked_held (long_asked l)
  unfolding long_asked asked_held
  asks-comment o e = rw (o, eq-eqb (get_or l.bytes 0 0) 35 e) refl

  -- a line of more than 255 bytes that is no comment is held as a bad line
  pub asks-long : l.over ≡ true → (get_or l.bytes 0 0 ≡ 35 → ⊥) → bare_held 0 ≡ asked_held (long_asked l)
  unfolding long_asked asked_held
  asks-long o e = rw (o, ne_eqb (get_or l.bytes 0 0) 35 e) refl

  -- a line of at most 255 bytes asks what its bytes ask
  pub asks-short : l.over ≡ false → (n : ℕ) → take n l.bytes ≡ take l.length l.bytes → asked_held (asked_by (take n l.bytes))
      ≡ asked_held (long_asked l)
  unfolding long_asked
  asks-short o n e = rw (o, e) refl

held-id : (id : List ℕ) (q : Question) → (asked_held (asks id q)).id ≡ id
unfolding asked_held
held-id id (last friday key) = refl
held-id id (due day) = refl
held-id id (tick price) = refl
held-id id (cash contracts agreed final) = refl
held-id id size = refl

-- ---- what is answered

module _ (of : List ℕ → Standing) (k : ℕ) (line : List ℕ) where
  text-nothing : (a : Asked) → (asked_held a).letter ≡ 35 → [] ≡ asked_text of k line a
  unfolding asked_held asked_text
  text-nothing nothing e = refl
  text-nothing bad e = absurd (omega (arith, e))
  text-nothing (asks id (last friday key)) e = absurd (omega (arith, e))
  text-nothing (asks id (due day)) e = absurd (omega (arith, e))
  text-nothing (asks id (tick price)) e = absurd (omega (arith, e))
  text-nothing (asks id (cash contracts agreed final)) e = absurd (omega (arith, e))
  text-nothing (asks id size) e = absurd (omega (arith, e))

  text-bad : (a : Asked) → (asked_held a).letter ≡ 0 → bad_question_text k ≡ asked_text of k line a
  unfolding asked_held asked_text
  text-bad nothing e = absurd (omega (arith, e))
  text-bad bad e = refl
  text-bad (asks id (last friday key)) e = absurd (omega (arith, e))
  text-bad (asks id (due day)) e = absurd (omega (arith, e))
  text-bad (asks id (tick price)) e = absurd (omega (arith, e))
  text-bad (asks id (cash contracts agreed final)) e = absurd (omega (arith, e))
  text-bad (asks id size) e = absurd (omega (arith, e))

  text-asks : (id : List ℕ) (q : Question) → held_answer (of id) k line (asked_held (asks id q)) ≡ asked_text of k line (asks id q)
  unfolding asked_text held_answer
  text-asks id q = rw (misfit-text (of id) id q, reply-text (of id) id q) refl

  text-answer : (a : Asked) → ((asked_held a).letter ≡ 35 → ⊥) → ((asked_held a).letter ≡ 0 → ⊥) → held_answer (of (asked_held a).id) k line (asked_held a)
      ≡ asked_text of k line a
  unfolding asked_held
  text-answer nothing m n = absurd (m refl)
  text-answer bad m n = absurd (n refl)
  text-answer (asks id q) m n = ap (λ (x : List ℕ). held_answer (of x) k line (asked_held (asks id q))) (held-id id q) ∙ text-asks id q

-- ---- whether it is `NO n` or `BAD K`

module _ (of : List ℕ → Standing) where
  refused-nothing : (a : Asked) → (asked_held a).letter ≡ 35 → false ≡ asked_refused of a
  unfolding asked_held asked_refused
  refused-nothing nothing e = refl
  refused-nothing bad e = absurd (omega (arith, e))
  refused-nothing (asks id (last friday key)) e = absurd (omega (arith, e))
  refused-nothing (asks id (due day)) e = absurd (omega (arith, e))
  refused-nothing (asks id (tick price)) e = absurd (omega (arith, e))
  refused-nothing (asks id (cash contracts agreed final)) e = absurd (omega (arith, e))
  refused-nothing (asks id size) e = absurd (omega (arith, e))

  refused-bad : (a : Asked) → (asked_held a).letter ≡ 0 → true ≡ asked_refused of a
  unfolding asked_held asked_refused
  refused-bad nothing e = absurd (omega (arith, e))
  refused-bad bad e = refl
  refused-bad (asks id (last friday key)) e = absurd (omega (arith, e))
  refused-bad (asks id (due day)) e = absurd (omega (arith, e))
  refused-bad (asks id (tick price)) e = absurd (omega (arith, e))
  refused-bad (asks id (cash contracts agreed final)) e = absurd (omega (arith, e))
  refused-bad (asks id size) e = absurd (omega (arith, e))

  refused-asks : (id : List ℕ) (q : Question) → held_refused (of id) (asked_held (asks id q)) ≡ asked_refused of (asks id q)
  unfolding held_refused asked_refused
  refused-asks id q = rw (misfit-text (of id) id q, reply-refused (of id) id q) refl

  refused-answer : (a : Asked) → ((asked_held a).letter ≡ 35 → ⊥) → ((asked_held a).letter ≡ 0 → ⊥)
      → held_refused (of (asked_held a).id) (asked_held a) ≡ asked_refused of a
  unfolding asked_held
  refused-answer nothing m n = absurd (m refl)
  refused-answer bad m n = absurd (n refl)
  refused-answer (asks id q) m n = ap (λ (x : List ℕ). held_refused (of x) (asked_held (asks id q))) (held-id id q) ∙ refused-asks id q

-- ---- in a buffer

-- nothing
nothing_written : (out : List ℕ) (at : ℕ) → Written out out at at []
nothing_written out at = record { is = refl; to = omega arith; long = refl }

module _ (of : List ℕ → Standing) (k : ℕ) (l : LongLine) (q : QuestionLine) (is : q ≡ asked_held (long_asked l)) (out : List ℕ) (at : ℕ)
    (room : roomy out at ≡ true) where
  -- to a line that asks nothing nothing is printed
  pub printed-nothing : q.letter ≡ 35 → Printed out out at at (long_text of k l)
  unfolding long_text
  printed-nothing e =
      rw (← text-nothing of k (trimmed (take l.length l.bytes)) (long_asked l) (rw is at e)) (printed room (nothing_written out at) (omega arith))

  -- to a bad line the line of a bad question is printed
  pub printed-bad : q.letter ≡ 0 → (after : List ℕ) (next : ℕ) → Written out after at next (bad_question_text k) → next ≤ at + 64
      → Printed out after at next (long_text of k l)
  unfolding long_text
  printed-bad e after next w h =
      rw (← text-bad of k (trimmed (take l.length l.bytes)) (long_asked l) (rw is at e)) (printed room w (omega arith))

  -- to a line with a question the answer by what is known of its product is printed
  pub printed-answer : (q.letter ≡ 35 → ⊥) → (q.letter ≡ 0 → ⊥) → (s : Standing) → s ≡ of q.id
      → (after : List ℕ) (next : ℕ) → Written out after at next (held_answer s k (trimmed (take l.length l.bytes)) q) → next ≤ at + 512
      → Printed out after at next (long_text of k l)
  unfolding long_text
  printed-answer m n s e after next w h =
      rw (← text-answer of k (trimmed (take l.length l.bytes)) (long_asked l) (λ z. m (rw is z)) (λ z. n (rw is z))) (printed room (rw (e, is) at w) h)

-- whether it is `NO n` or `BAD K`
module _ (of : List ℕ → Standing) (l : LongLine) (q : QuestionLine) (is : q ≡ asked_held (long_asked l)) (out : List ℕ) (at : ℕ)
    (room : roomy out at ≡ true) where
  -- a line that asks nothing is not refused
  pub said-nothing : q.letter ≡ 35 → false ≡ (roomy out at && long_refused of l)
  unfolding long_refused
  said-nothing e = rw room (refused-nothing of (long_asked l) (rw is at e))

  -- a bad line is refused
  pub said-bad : q.letter ≡ 0 → true ≡ (roomy out at && long_refused of l)
  unfolding long_refused
  said-bad e = rw room (refused-bad of (long_asked l) (rw is at e))

  -- a line with a question is refused where its answer is
  pub said-answer : (q.letter ≡ 35 → ⊥) → (q.letter ≡ 0 → ⊥) → (s : Standing) → s ≡ of q.id → (r : Bool) → r ≡ held_refused s q
      → r ≡ (roomy out at && long_refused of l)
  unfolding long_refused
  said-answer m n s e r h =
      h ∙ rw (room, e, is) (refused-answer of (long_asked l) (λ z. m (rw is z)) (λ z. n (rw is z)))

-- without room nothing is refused
pub said-none : (out : List ℕ) (at : ℕ) (b : Bool) → roomy out at ≡ false → false ≡ (roomy out at && b)
said-none out at b e = rw e refl

-- a buffer with room for an answer has room for 64 bytes
pub room-64 : (out : List ℕ) (at : ℕ) → roomy out at ≡ true → at + 64 ≤ length out
room-64 out at r = omega (arith, room-long out at r)

-- a line that was made of a short text
module _ (text : List ℕ) (l : Line) (made : LineWith empty_line text l) (h : length text < 64) where
  -- a line made of a text of fewer than 64 bytes has at most 64 bytes
  pub short-line : l.length ≤ 64
  short-line =
      let c : l.length ≡ length text = rw made.is (fed-is text h).0 in
      omega (arith, c)

  -- writing a line made of a text of fewer than 64 bytes writes that text, and at most 64 bytes
  pub put-short : (out after : List ℕ) (at next : ℕ) → Written out after at next (take l.length l.bytes)
      → Written out after at next text × (next ≤ at + 64)
  put-short out after at next w =
      let e : take l.length l.bytes ≡ text = rw made.is (fed-is text h).1 in
      let v : Written out after at next text = rw e at w in
      (v, omega (arith, v.to))

-- a line as it is held, without its blanks
module _ (l : LongLine) (n e : ℕ) (room : length l.bytes ≡ 255) (h : n ≤ 255) (g : take n l.bytes ≡ take l.length l.bytes)
    (t : take e (take n l.bytes) ≡ trimmed (take n l.bytes)) (m : e ≤ length (take n l.bytes)) where
  -- a line without its blanks is not longer than the line
  pub trim-few : e ≤ n
  trim-few = omega (arith, length-take-le n l.bytes (omega (arith, room)))

  -- writing the bytes before a line's blanks writes the line without blanks at its end, and at most 255 bytes
  pub put-trimmed : (out after : List ℕ) (at next : ℕ) → Written out after at next (take e l.bytes)
      → Written out after at next (trimmed (take l.length l.bytes)) × (next ≤ at + 255)
  put-trimmed out after at next w =
      let q : take e l.bytes ≡ trimmed (take l.length l.bytes) = sym (take-take e n l.bytes trim-few) ∙ t ∙ ap trimmed g in
      (rw (← q) w, omega (arith, w.to, trim-few, length-take-le e l.bytes (omega (arith, room, trim-few))))

-- the two answers to a question
module _ (s : Standing) (k : ℕ) (line : List ℕ) (q : QuestionLine) (out after : List ℕ) (at next : ℕ) where
  -- where `last` has the form of the other sort of maturity, the answer is the line of a bad question
  pub answer-bad : held_misfits s q ≡ true → Written out after at next (bad_question_text k) × (next ≤ at + 64)
      → Written out after at next (held_answer s k line q) × (next ≤ at + 512)
  unfolding held_answer
  answer-bad e w = (rw e w.0, omega (arith, w.1))

  -- where the form of the question fits, the answer is the line and its reply, and at most 512 bytes
  pub answer-reply : held_misfits s q ≡ false → (middle : List ℕ) (from : ℕ) → Written out middle at from line × (from ≤ at + 255)
      → (l : Line) → LineWith empty_line (reply_line s q) l → Written middle after from next (take l.length l.bytes)
      → Written out after at next (held_answer s k line q) × (next ≤ at + 512)
  unfolding held_answer
  answer-reply e middle from w l made v =
      let p = put-short (reply_line s q) l made (reply-short s q) middle after from next v in
      (rw e (then w.0 p.0), omega (arith, w.1, p.1))

-- whether the answer to a question as it is held is `NO n` or `BAD K`
module _ (s : Standing) (q : QuestionLine) where
  -- a question of the wrong form is refused
  pub refused-misfit : held_misfits s q ≡ true → true ≡ held_refused s q
  unfolding held_refused
  refused-misfit e = rw e refl

  two_bytes : 2 ≤ length (reply_line s q)
  unfolding reply_line
  two_bytes = omega (arith, length-append (held_reply s q) (10 ∷ []))

  -- any other where the second byte of its reply is an N
  pub refused-reply : held_misfits s q ≡ false → (l : Line) → LineWith empty_line (reply_line s q) l → eqb (get_or l.bytes 1 0) 78 ≡ held_refused s q
  unfolding held_refused
  refused-reply e l made =
      let c : l.length ≡ length (reply_line s q) = rw made.is (fed-is (reply_line s q) (reply-short s q)).0 in
      let t : take l.length l.bytes ≡ reply_line s q = rw made.is (fed-is (reply_line s q) (reply-short s q)).1 in
      let b : get_or l.bytes 1 0 ≡ get_or (reply_line s q) 1 0 = sym (get_or-take l.length l.bytes 1 0 (omega (arith, c, two_bytes)))
      ∙ ap (λ (x : List ℕ). get_or x 1 0) t in
      rw (e, b) refl

-- ---- byte by byte

-- bytes pasted into a buffer stand there byte by byte
pub put-whole : (out after bytes : List ℕ) (at : ℕ) → at + length bytes ≤ length out → after ≡ paste out at bytes (length bytes)
    → Written out after at (at + length bytes) bytes
put-whole out after bytes at h e =
    let w : take (length bytes) bytes ≡ bytes = take_all (length bytes) bytes (omega arith) in
    record {
      is = e ∙ ap (λ (b : List ℕ). take at out ++ b ++ drop (at + length bytes) out) w ∙ sym (sets-eq bytes out at h);
      to = refl;
      long = ap length e ∙ length-paste out at bytes (length bytes) h (omega arith);
    }
