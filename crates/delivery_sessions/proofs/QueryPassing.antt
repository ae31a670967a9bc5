-- The answers part by part: one line after the other, as long as the buffer has room.
-- Assumes nothing.
use mathlib.Core.Path.{◌≡◌, refl, sym, ap, ◌∙◌}
use mathlib.Core.Bool.{Bool, true, false, ◌&&◌, ◌||◌, cond}
use mathlib.Core.List.{List, [], ◌++◌, append-nil, append_assoc}
use mathlib.Core.Logic.{◌⊎◌, inl, inr}
use Prim.Native.Nat.{ℕ, ◌+◌, ◌-◌, ◌≤◌, ◌<◌}
use native.Mathlib.Omega.{arith}
use lib.Dec.{eqb}
use lib.ListN.{length, take, drop, length-append, length-drop}
use lib.Seq.{length-take-le, drop-drop, take_at, drop_at}
use borrow.Author.Tests.{le-leb, lt-ltb, le-ltb, eq-eqb, ne_eqb}
use Rattle.questions.proofs.Bools.{clash, lt-or-ge}
use Rattle.session_text.specs.Buffer.{roomy, Printed}
use Rattle.session_text.proofs.TextsInBuffer.{no_room, room-long}
use Rattle.session_parts.specs.TermsParts.{another}
use Rattle.session_parts.proofs.TermsPassing.{next-is, has-next}
use Rattle.session_lines.specs.InputRest.{rest_over}
use Rattle.delivery_items.specs.declared.LongLine.{LongLine}
use Rattle.delivery_items.specs.declared.LineEnd.{LineEnd}
use Rattle.delivery_items.specs.Items.{empty_long}
use Rattle.delivery_items.specs.LineEnds.{line_end}
use Rattle.delivery_items.proofs.LineEnds.{end_on, end-within}
use Rattle.delivery_answers.specs.declared.Standing.{Standing}
use Rattle.delivery_queries.specs.Queries.{next_number, long_text, long_refused}
use Rattle.delivery_sessions.specs.declared.QueryProgress.{QueryProgress}
use Rattle.delivery_sessions.specs.QueryParts.{query_rest, refused_rest, QueryNext, QueryAnswers, QueryLastAnswer}
use Rattle.delivery_sessions.proofs.QueryLinesFed.{query-ended, query-begun, refused-ended, refused-begun}

-- ---- the number of the next line

module _ (k : ℕ) where
  -- below the largest number of 64 bits the next line has the number after it
  pub number_more : k < 18446744073709551615 → k + 1 ≡ next_number k
  unfolding next_number
  number_more h = rw (lt-ltb k 18446744073709551615 h) refl

  -- at the largest number of 64 bits the number of the line stays
  pub number-most : 18446744073709551615 ≤ k → k ≡ next_number k
  unfolding next_number
  number-most h = rw (le-ltb k 18446744073709551615 h) refl

-- ---- an answer in a buffer

-- what a printed text leaves of a buffer with room
record Put (before after : List ℕ) (at next : ℕ) (text : List ℕ) : Type 0 where
  head : take next after ≡ take at before ++ text
  tail : drop next after ≡ drop next before
  to : next ≡ at + length text
  fits : next ≤ length after

put : (before after : List ℕ) (at next : ℕ) (text : List ℕ) → roomy before at ≡ true → Printed before after at next text → Put before after at next text
put before after at next text r p =
    record {
      head = ap (take next) is ∙ take_at (take at before ++ text) (drop (at + length text) before) next size;
      tail = ap (drop next) is ∙ drop_at (take at before ++ text) (drop (at + length text) before) next size ∙ ap (λ (k : ℕ). drop k before) (sym to);
      to = to;
      fits = omega (arith, sizes, p.long, to, length-drop (at + length text) before);
    }
  where
    to : next ≡ at + length text
    to = rw r at p.to

    is : after ≡ (take at before ++ text) ++ drop (at + length text) before
    is = (rw r at p.is) ∙ sym (append_assoc (take at before) text (drop (at + length text) before))

    size : length (take at before ++ text) ≡ next
    size = length-append (take at before) text ∙ ap (λ (k : ℕ). k + length text) (length-take-le at before (omega (arith, room-long before at r))) ∙ sym to

    sizes : length after ≡ next + length (drop (at + length text) before)
    sizes = ap length is ∙ length-append (take at before ++ text) (drop (at + length text) before)
        ∙ ap (λ (k : ℕ). k + length (drop (at + length text) before)) size

-- ---- one line

module _ (of : List ℕ → Standing) (part before : List ℕ) (s : QueryProgress) (inside : s.at < length part) (room : roomy before s.length ≡ true)
    (e : LineEnd) (f : e ≡ line_end s.line (drop s.at part) s.at) where
  -- the line does not end in the part
  pub goes-past : e.ended ≡ false → QueryNext of part before before s (record {
    number = s.number;
    line = e.line;
    at = e.next;
    length = s.length;
    refused = s.refused;
  })
  goes-past h =
      record {
        piece = [];
        text = λ rest. query-begun of s.line part s.at e f s.number rest h;
        refused = λ rest. refused-begun of s.line part s.at e f s.refused rest h;
        is = sym (append-nil (take s.length before));
        unchanged = refl;
        long = refl;
        fits = (omega arith, omega (arith, room-long before s.length room));
        on = (end_on s.line part s.at e f inside, end-within s.line part s.at e f (omega arith));
      }

  -- a line feed ends it
  pub is-answered : e.ended ≡ true → (after : List ℕ) (k n : ℕ) (empty : LongLine) (x : Bool) → k ≡ next_number s.number → empty ≡ empty_long
      → Printed before after s.length n (long_text of s.number e.line) × (x ≡ (roomy before s.length && long_refused of e.line))
      → QueryNext of part before after s (record { number = k; line = empty; at = e.next; length = n; refused = s.refused || x })
  is-answered h after k n empty x q z (p, g) =
      record {
        piece = long_text of s.number e.line;
        text = λ rest. rw (q, z) (query-ended of s.line part s.at e f s.number rest h);
        refused = λ rest. rw (z, g, room) (refused-ended of s.line part s.at e f s.refused rest h);
        is = w.head;
        unchanged = w.tail;
        long = p.long;
        fits = (omega (arith, w.to), w.fits);
        on = (end_on s.line part s.at e f inside, end-within s.line part s.at e f (omega arith));
      }
    where
      w : Put before after s.length n (long_text of s.number e.line)
      w = put before after s.length n (long_text of s.number e.line) room p

-- ---- all lines of a part

-- where the test says no inside the part, there is no room
no-next : (part : List ℕ) (at : ℕ) (out : List ℕ) (n : ℕ) {r : Bool} → r ≡ another part at out n → r ≡ false → at < length part → length out < n + 512
no-next part at out n e t h = go (lt-or-ge (length out) (n + 512))
  where
    go : (length out < n + 512) ⊎ (n + 512 ≤ length out) → length out < n + 512
    go (inl k) = k
    go (inr k) = clash (le-leb n (length out - 512) (omega arith)) (next-is part at out n h (omega arith) ∙ sym e ∙ t)

-- on the way: nothing has been done yet, or the place has moved on
pub record Going (of : List ℕ → Standing) (k : ℕ) (b : Bool) (l : LongLine) (part : List ℕ) (from : ℕ) (before after : List ℕ) (r : QueryProgress)
    : Type 0 where
  -- for every rest of the input, what was written followed by the answers that remain is all that is answered
  pub text : (rest : List ℕ) → query_rest of k l (drop from part ++ rest)
      ≡ take r.length after ++ query_rest of r.number r.line (drop r.at part ++ rest)
  -- what is refused so far or will be is the same
  pub refused : (rest : List ℕ) → refused_rest of b l (drop from part ++ rest) ≡ refused_rest of r.refused r.line (drop r.at part ++ rest)
  -- what was written fits the buffer
  pub fits : r.length ≤ length after
  -- after what was written the buffer is unchanged
  pub unchanged : drop r.length after ≡ drop r.length before
  -- the buffer keeps its length
  pub long : length after ≡ length before
  -- a place that begins in the part stays in the part
  pub within : from ≤ length part → r.at ≤ length part
  -- nothing has been done yet, or the buffer has 512 bytes and the place has moved on from one inside the part
  pub on : ((r ≡ record { number = k; line = l; at = from; length = 0; refused = b }) × (after ≡ before))
      ⊎ ((512 ≤ length before) × (from < length part) × (from < r.at))

module _ (of : List ℕ → Standing) (h : ℕ) (b : Bool) (l : LongLine) (part : List ℕ) (from : ℕ) (before : List ℕ) where
  -- before the first line nothing is written and the place is the first
  pub begins : Going of h b l part from before before (record { number = h; line = l; at = from; length = 0; refused = b })
  begins = record { text = λ rest. refl; refused = λ rest. refl; fits = omega arith; unchanged = refl; long = refl; within = λ k. k; on = inl (refl, refl) }

  module _ (out : List ℕ) (s : QueryProgress) (g : Going of h b l part from before out s) where
    -- where another line is taken, its answer is written after those before it
    pub goes : (after : List ℕ) (r : QueryProgress) {x : Bool} → x ≡ another part s.at out s.length → x ≡ true → QueryNext of part out after s r
        → Going of h b l part from before after r
    goes after r e t n =
        record {
          text = λ rest. g.text rest ∙ joined rest;
          refused = λ rest. g.refused rest ∙ n.refused rest;
          fits = n.fits.1;
          unchanged = n.unchanged ∙ cut;
          long = n.long ∙ g.long;
          within = λ k. n.on.1;
          on = inr (omega (arith, room-long out s.length room.1, g.long), came g.on, later g.on);
        }
      where
        room : (s.at < length part) × (roomy out s.length ≡ true)
        room = has-next part s.at out s.length e t

        in-part : s.at < length part
        in-part = room.0

        joined : (rest : List ℕ) → take s.length out ++ query_rest of s.number s.line (drop s.at part ++ rest)
            ≡ take r.length after ++ query_rest of r.number r.line (drop r.at part ++ rest)
        joined rest =
            rw (n.text rest, n.is)
            (sym (append_assoc (take s.length out) n.piece (query_rest of r.number r.line (drop r.at part ++ rest))))

        further : s.length + (r.length - s.length) ≡ r.length
        further = omega (arith, n.fits.0)

        far : (a : List ℕ) → drop r.length a ≡ drop (r.length - s.length) (drop s.length a)
        far a = sym (drop-drop (r.length - s.length) s.length a ∙ ap (λ (k : ℕ). drop k a) further)

        cut : drop r.length out ≡ drop r.length before
        cut = far out ∙ ap (drop (r.length - s.length)) g.unchanged ∙ sym (far before)

        same_place : s ≡ record { number = h; line = l; at = from; length = 0; refused = b } → s.at ≡ from
        same_place e = ap (λ (q : QueryProgress). q.at) e

        came : ((s ≡ record { number = h; line = l; at = from; length = 0; refused = b }) × (out ≡ before)) ⊎ ((512 ≤ length before) × (from < length part) ×
            (from < s.at)) → from < length part
        came (inl e) = omega (arith, same_place e.0, in-part)
        came (inr e) = e.1

        later : ((s ≡ record { number = h; line = l; at = from; length = 0; refused = b }) × (out ≡ before)) ⊎ ((512 ≤ length before) × (from < length part) ×
            (from < s.at)) → from < r.at
        later (inl e) = omega (arith, same_place e.0, n.on.0)
        later (inr e) = omega (arith, e.2, n.on.0)

    -- where no other line is taken, the answers to the lines passed are written, and the part is used up or no room is left
    pub finishes : {x : Bool} → x ≡ another part s.at out s.length → x ≡ false → QueryAnswers of h b l part from before out s
    finishes e t =
        record {
          text = g.text;
          refused = g.refused;
          fits = g.fits;
          unchanged = g.unchanged;
          long = g.long;
          moves = λ m i. moved m i g.on;
          within = g.within;
          full = λ i. omega (arith, no_more i, g.long);
          idle = λ e. stays e g.on;
        }
      where
        no_more : s.at < length part → length out < s.length + 512
        no_more = no-next part s.at out s.length e t

        Start : Type 0
        Start = (s ≡ record { number = h; line = l; at = from; length = 0; refused = b }) × (out ≡ before)

        Moved : Type 0
        Moved = (512 ≤ length before) × (from < length part) × (from < s.at)

        moved : 512 ≤ length before → from < length part → Start ⊎ Moved → from < s.at
        moved m i (inl e) =
            let a : s.at ≡ from = ap (λ (q : QueryProgress). q.at) e.0 in
            let n : s.length ≡ 0 = ap (λ (q : QueryProgress). q.length) e.0 in
            let k : length out < s.length + 512 = no_more (omega arith) in
            omega (arith, g.long)
        moved m i (inr e) = e.2

        stays : (length before < 512) ⊎ (length part ≤ from) → Start ⊎ Moved → Start
        stays e (inl d) = d
        stays (inl e) (inr d) = absurd (omega (arith, d.0))
        stays (inr e) (inr d) = absurd (omega (arith, d.1))

-- ---- the last line

roomed : (out : List ℕ) → 512 ≤ length out → roomy out 0 ≡ true
unfolding roomy
roomed out h = le-leb 512 (length out) h

module _ (of : List ℕ → Standing) (k : ℕ) (b : Bool) (l : LongLine) (before : List ℕ) where
  text-end : query_rest of k l [] ≡ cond (eqb l.length 0) [] (long_text of k l)
  unfolding query_rest rest_over
  text-end = ap (cond (eqb l.length 0) []) (append-nil (long_text of k l))

  refused_end : refused_rest of b l [] ≡ cond (eqb l.length 0) b (b || long_refused of l)
  unfolding refused_rest rest_over
  refused_end = refl

  -- without a byte of a last line nothing is answered, and the buffer stays as it is
  pub no_last : l.length ≡ 0 → QueryLastAnswer of k b l before before 0 b
  no_last e =
      record {
        text = λ r. text-end ∙ rw (eq-eqb l.length 0 e) refl;
        refused = λ r. refused_end ∙ rw (eq-eqb l.length 0 e) refl;
        fits = omega arith;
        unchanged = refl;
        long = refl;
        idle = λ r. (refl, refl, refl);
      }

  or-none : (a : Bool) → (a || false) ≡ a
  or-none true = refl
  or-none false = refl

  -- a last line that no line feed ends has its answer printed at the start of the buffer
  pub last_line : (after : List ℕ) (next : ℕ) (x : Bool) → (l.length ≡ 0 → ⊥)
      → Printed before after 0 next (long_text of k l) × (x ≡ (roomy before 0 && long_refused of l)) → QueryLastAnswer of k b l before after next (b || x)
  last_line after next x e (p, g) = go (lt-or-ge (length before) 512)
    where
      go : (length before < 512) ⊎ (512 ≤ length before) → QueryLastAnswer of k b l before after next (b || x)
      go (inl h) =
          let n : next ≡ 0 = rw (no_room before 0 h) at p.to in
          let a : after ≡ before = rw (no_room before 0 h) at p.is in
          let f : x ≡ false = rw (no_room before 0 h) at g in
          record {
            text = λ r. absurd (omega arith);
            refused = λ r. absurd (omega arith);
            fits = omega arith;
            unchanged = ap (drop next) a;
            long = p.long;
            idle = λ r. (n, ap (λ (y : Bool). b || y) f ∙ or-none b, a);
          }
      go (inr h) =
          let w : Put before after 0 next (long_text of k l) = put before after 0 next (long_text of k l) (roomed before h) p in
          let f : x ≡ long_refused of l = rw (roomed before h) at g in
          record {
            text = λ r. text-end ∙ rw (ne_eqb l.length 0 e) (sym w.head);
            refused = λ r. refused_end ∙ rw (ne_eqb l.length 0 e, f) refl;
            fits = w.fits;
            unchanged = w.tail;
            long = p.long;
            idle = λ r. absurd (omega arith);
          }
