-- The next line of a text of rows: with its line feed, without one at the text's end, or none.
-- Assumes nothing.
use mathlib.Core.Path.{◌≡◌, refl, ◌∙◌, sym, ap}
use mathlib.Core.Bool.{Bool, true, false, not, ◌&&◌, cond}
use mathlib.Core.List.{List, [], ◌++◌, append-nil}
use mathlib.Core.Logic.{◌⊎◌, inl, inr}
use Prim.Native.Nat.{ℕ, zero, suc, ◌≤◌, ◌<◌}
use native.Mathlib.Omega.{arith}
use lib.Dec.{eqb}
use lib.ListN.{length, drop, drop_of_length-le}
use borrow.Author.Tests.{eq-eqb, ne_eqb, eqb-true, eqb-false}
use Rattle.questions.proofs.Bools.{clash}
use Rattle.delivery_lines.specs.NoticeLines.{mark_length}
use Rattle.delivery_items.specs.declared.LongLine.{LongLine}
use Rattle.delivery_items.specs.declared.LineEnd.{LineEnd}
use Rattle.delivery_items.specs.Items.{empty_long, held_read}
use Rattle.delivery_items.specs.LineEnds.{line_end}
use Rattle.delivery_items.proofs.LineEnds.{end_on, end-within}
use Rattle.delivery_receipts.specs.declared.Receiving.{Receiving}
use Rattle.session_lines.specs.InputRest.{rest_over}
use Rattle.delivery_receipts.specs.Receipts.{Receipt, line_received, rest_received}
use Rattle.delivery_receipts.specs.Receiving.{Lists, room_in, receipt_in, told_of, SameLengths, RowLineIn}
use Rattle.delivery_receipts.proofs.RowLinesFed.{received-ended, received-begun}
use Rattle.c_differences.specs.declared.FlatReceipt.{FlatReceipt}
use Rattle.c_differences.specs.Found.{line_start, receiving_of, receipt_from, ReceivedIn}

module _ (text : List ℕ) (next : ℕ) where
  -- any line but the first begins at its place
  pub start-later : (next ≡ 0 → ⊥) → next ≡ line_start text next
  unfolding line_start
  start-later h = rw (ne_eqb next 0 h) refl

  -- the first line begins after the byte order mark, where there is one
  pub start_first : next ≡ 0 → mark_length text ≡ line_start text next
  unfolding line_start
  start_first z = rw (eq-eqb next 0 z) refl

-- nothing is left of a text
pub no_line : (room : ℕ) (f : List ℕ) (s : Receipt) → rest_received room f s empty_long [] ≡ s
unfolding rest_received rest_over empty_long
no_line room f s = refl

-- at the end of a text nothing is left, also of one that is empty
pub at-end : (text : List ℕ) (next : ℕ) → length text ≤ next → drop (line_start text next) text ≡ []
at-end text next h = go (eq-or-ne next)
  where
    eq-or-ne : (n : ℕ) → (n ≡ 0) ⊎ (n ≡ 0 → ⊥)
    eq-or-ne zero = inl refl
    eq-or-ne (suc n) = inr (λ e. absurd (omega arith))

    go : (next ≡ 0) ⊎ (next ≡ 0 → ⊥) → drop (line_start text next) text ≡ []
    go (inl z) = drop_of_length-le text {i = line_start text next} (omega arith)
    go (inr n) = drop_of_length-le text {i = line_start text next} (rw (← start-later text next n) h)

-- a line begun at the end of a text
module _ (room : ℕ) (f : List ℕ) (s : Receipt) (l : LongLine) where
  ends-empty : l.length ≡ 0 → rest_received room f s l [] ≡ s
  unfolding rest_received rest_over
  ends-empty z = rw (eq-eqb l.length 0 z) refl

  ends-line : (l.length ≡ 0 → ⊥) → rest_received room f s l [] ≡ line_received room f s (held_read l)
  unfolding rest_received rest_over
  ends-line n = rw (ne_eqb l.length 0 n) refl

same-lengths : (a : Lists) → SameLengths a a
same-lengths a = record { ids = refl; keys = refl; days = refl; fulls = refl; numbers = refl; backs = refl }

none_told : (bads : List ℕ) → bads ++ told_of 0 ≡ bads
none_told bads = append-nil bads

module _ (f text : List ℕ) (s : FlatReceipt) (before : Lists) (from : ℕ) (start : from ≡ line_start text s.next) (more : from < length text)
    (e : LineEnd) (fed : e ≡ line_end empty_long (drop from text) from) where
  abbrev room : ℕ
  room = room_in before

  abbrev so_far : List ℕ → Receipt
  so_far bads = receipt_in (receiving_of s) before bads

  whole : (bads : List ℕ) → rest_received room f (so_far bads) empty_long (drop from text) ≡ rest_received room f (so_far bads) empty_long (drop from text ++ [])
  whole bads = ap (rest_received room f (so_far bads) empty_long) (sym (append-nil (drop from text)))

  ended_at : drop (line_start text (length text)) text ≡ []
  ended_at = at-end text (length text) (omega arith)

  -- where what is left has no line feed and the line is empty, nothing is received and the text is at its end
  pub nothing_left : e.ended ≡ false → e.line.length ≡ 0 → ReceivedIn f s text before before (receipt_from (receiving_of s) (length text))
  nothing_left h z =
      record {
        is = λ bads. rw (← start)
            (whole bads ∙ received-begun empty_long text from e fed room f (so_far bads) [] h ∙ ends-empty room f (so_far bads) e.line z
            ∙ sym (ap (rest_received room f (receipt_in (receiving_of s) before (bads ++ told_of 0)) empty_long) ended_at
            ∙ no_line room f (receipt_in (receiving_of s) before (bads ++ told_of 0))
            ∙ ap (receipt_in (receiving_of s) before) (none_told bads)));
        on = λ l. l;
        within = omega arith;
        lengths = same-lengths before;
      }

  module _ (after : Lists) (r : Receiving) (x : RowLineIn f (receiving_of s) e.line before after r) where
    abbrev then : List ℕ → Receipt
    then bads = receipt_in r after (bads ++ told_of r.bad)

    later : e.next ≡ line_start text e.next
    later = start-later text e.next (λ z. absurd (omega (arith, end_on empty_long text from e fed more)))

    -- a line that a line feed ended is received, and the next one begins after it
    pub line-feed : e.ended ≡ true → ReceivedIn f s text before after (receipt_from r e.next)
    line-feed h =
        record {
          is = λ bads. rw (← start, ← later)
              (whole bads ∙ received-ended empty_long text from e fed room f (so_far bads) [] h
              ∙ ap (rest_received room f (line_received room f (so_far bads) (held_read e.line)) empty_long) (append-nil (drop e.next text))
              ∙ ap (λ (c : Receipt). rest_received room f c empty_long (drop e.next text)) (sym (x.is bads)));
          on = rw (← start) (end_on empty_long text from e fed);
          within = end-within empty_long text from e fed (omega arith);
          lengths = x.lengths;
        }

    -- a last line with bytes but no line feed is received, and the text is at its end
    pub last_line : e.ended ≡ false → (e.line.length ≡ 0 → ⊥) → ReceivedIn f s text before after (receipt_from r (length text))
    last_line h n =
        record {
          is = λ bads. rw (← start)
              (whole bads ∙ received-begun empty_long text from e fed room f (so_far bads) [] h ∙ ends-line room f (so_far bads) e.line n
              ∙ sym (x.is bads)
              ∙ sym (ap (rest_received room f (then bads) empty_long) ended_at ∙ no_line room f (then bads)));
          on = λ l. l;
          within = omega arith;
          lengths = x.lengths;
        }

  taken : (after : Lists) (r : Receiving) → RowLineIn f (receiving_of s) e.line before after r → (next : ℕ) → next ≡ cond e.ended e.next (length text)
      → (not e.ended && eqb e.line.length 0) ≡ false → ReceivedIn f s text before after (receipt_from r next)
  taken after r x next q h = go e.ended refl
    where
      go : (b : Bool) → e.ended ≡ b → ReceivedIn f s text before after (receipt_from r next)
      go true y =
          let k : next ≡ e.next = q ∙ ap (λ (b : Bool). cond b e.next (length text)) y in
          rw k (line-feed after r x y)
      go false y =
          let k : next ≡ length text = q ∙ ap (λ (b : Bool). cond b e.next (length text)) y in
          let m : eqb e.line.length 0 ≡ false = sym (ap (λ (b : Bool). not b && eqb e.line.length 0) y) ∙ h in
          rw k (last_line after r x y (eqb-false e.line.length 0 m))

  left : (next : ℕ) → next ≡ cond e.ended e.next (length text) → (not e.ended && eqb e.line.length 0) ≡ true
      → ReceivedIn f s text before before (receipt_from (receiving_of s) next)
  left next q h = go e.ended refl
    where
      go : (b : Bool) → e.ended ≡ b → ReceivedIn f s text before before (receipt_from (receiving_of s) next)
      go true y = clash h (ap (λ (b : Bool). not b && eqb e.line.length 0) y)
      go false y =
          let k : next ≡ length text = q ∙ ap (λ (b : Bool). cond b e.next (length text)) y in
          let m : eqb e.line.length 0 ≡ true = sym (ap (λ (b : Bool). not b && eqb e.line.length 0) y) ∙ h in
          rw k (nothing_left y (eqb-true e.line.length 0 m))

  module _ (held : Receiving) (is : held ≡ receiving_of s) (next : ℕ) (q : next ≡ cond e.ended e.next (length text)) where
    -- where the code finds no line feed and an empty line, nothing is received and the lists are untouched
    pub none_left : (not e.ended && eqb e.line.length 0) ≡ true → (r : FlatReceipt) → r ≡ receipt_from held next → ReceivedIn f s text before before r
    none_left h r w = rw (w, is) (left next q h)

    -- where the code finds a line feed or a line that is not empty, the line is received
    pub line_taken : (not e.ended && eqb e.line.length 0) ≡ false → (after : Lists) (m : Receiving) → RowLineIn f held e.line before after m
        → (r : FlatReceipt) → r ≡ receipt_from m next → ReceivedIn f s text before after r
    line_taken h after m x r w = rw w (taken after m (rw is at x) next q h)

-- the text has ended before
pub text-ended : (f text : List ℕ) (s : FlatReceipt) (before : Lists) (from : ℕ) → from ≡ line_start text s.next → length text ≤ from
    → (held : Receiving) → held ≡ receiving_of s → (r : FlatReceipt) → r ≡ receipt_from held (length text) → ReceivedIn f s text before before r
text-ended f text s before from start h held is r w = rw (w, is) went
  where
    none : drop (line_start text s.next) text ≡ []
    none = drop_of_length-le text {i = line_start text s.next} (rw (← start) h)

    went : ReceivedIn f s text before before (receipt_from (receiving_of s) (length text))
    went =
        record {
          is = λ bads.
              ap (rest_received (room_in before) f (receipt_in (receiving_of s) before bads) empty_long) none
              ∙ no_line (room_in before) f (receipt_in (receiving_of s) before bads)
              ∙ sym (ap (rest_received (room_in before) f (receipt_in (receiving_of s) before (bads ++ told_of 0)) empty_long)
              (at-end text (length text) (omega arith))
              ∙ no_line (room_in before) f (receipt_in (receiving_of s) before (bads ++ told_of 0))
              ∙ ap (receipt_in (receiving_of s) before) (none_told bads));
          on = λ l. l;
          within = omega arith;
          lengths = same-lengths before;
        }
