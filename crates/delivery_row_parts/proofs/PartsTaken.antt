-- Part after part: the lines of a part brought what the lists hold and the line begun, and their bad lines were told.
-- Assumes nothing.
use mathlib.Core.Path.{◌≡◌, refl, sym, ap, ◌∙◌}
use mathlib.Core.Bool.{Bool, true, false}
use mathlib.Core.List.{List, [], ◌++◌, append-nil, append_assoc}
use mathlib.Core.Logic.{◌⊎◌, inl, inr}
use Prim.Native.Nat.{ℕ, ◌+◌, ◌-◌, ◌≤◌, ◌<◌}
use native.Mathlib.Omega.{arith}
use lib.ListN.{length, take, drop, drop_of_length-le, length-drop, length-append}
use lib.Seq.{take_all}
use borrow.Author.Tests.{eq-eqb, ne_eqb}
use Rattle.questions.proofs.Bools.{lt-or-ge}
use Rattle.session_lines.specs.declared.Line.{Line}
use Rattle.session_lines.specs.CommandLines.{empty_line}
use Rattle.session_lines.specs.InputRest.{rest_over}
use Rattle.file_text_print.specs.Contents.{LineWith}
use Rattle.streams.specs.Transfers.{Grew}
use Rattle.streams.specs.declared.output.Told.{Told}
use Rattle.delivery_lines.specs.NoticeLines.{mark_length, unmarked}
use Rattle.delivery_lines.proofs.Marks.{unmarked-more}
use Rattle.delivery_items.specs.declared.LongLine.{LongLine}
use Rattle.delivery_items.specs.declared.LineEnd.{LineEnd}
use Rattle.delivery_items.specs.Items.{empty_long, held_read}
use Rattle.delivery_items.specs.LineEnds.{line_end}
use Rattle.delivery_items.proofs.LineEnds.{end-used}
use Rattle.delivery_receipts.specs.Receipts.{Receipt, no_receipt, line_received, receipt_of, rest_received}
use Rattle.delivery_receipts.specs.Receiving.{Lists, received_to, room_in, told_of, receipt_in, SameLengths}
use Rattle.delivery_receipts.proofs.RowLinesFed.{received-ended, received-begun, whole-input}
use Rattle.delivery_inputs.specs.declared.RowTaken.{RowTaken}
use Rattle.delivery_inputs.specs.ReconcileInputs.{bad_rows_text, bads_counted, RowIn}
use Rattle.delivery_inputs.proofs.ShortLines.{line-room, line-fits, line-long}
use Rattle.delivery_inputs.proofs.BadLinesTold.{told-short, rows_append}
use Rattle.delivery_row_parts.specs.declared.RowsKept.{RowsKept}
use Rattle.delivery_row_parts.specs.declared.LinesRead.{LinesRead}
use Rattle.delivery_row_parts.specs.RowParts.{BadsTold, RowTold, EndTold, PartTold, LastTold, AllBadsTold, FirstTold, Nothing}

-- ---- one line

-- the line that tells a bad line has room in its bytes, and is as long as that text
pub row_fits : (n : ℕ) (l : Line) → LineWith empty_line (bad_rows_text (told_of n)) l
    → (l.length ≤ length l.bytes) × (l.length ≡ length (bad_rows_text (told_of n)))
row_fits n l made =
    let room : length l.bytes ≡ 64 = line-room (bad_rows_text (told_of n)) (told-short n) l made in
    (omega (arith, room, line-fits (bad_rows_text (told_of n)) (told-short n) l made), line-long (bad_rows_text (told_of n)) (told-short n) l made)

-- a line that is taken as a row is told and counted where the state and the count are those, and so many bytes more were told
pub row_told : (f : List ℕ) (k : RowsKept) (l : LongLine) (before after : Lists) (t : RowTaken) → RowIn f k.state k.bad l before after t
    → (r : RowsKept) → r.state ≡ t.state → r.bad ≡ t.bad → Grew k.told.bytes (length (bad_rows_text (told_of t.state.bad))) r.told.bytes
    → RowTold f k l before after r
row_told f k l before after t x r s b w =
    record {
      is = λ told. rw s (x.is told);
      tells = record { text = rw s w; count = λ n e. b ∙ rw s (x.count n e) };
      lengths = x.lengths;
    }

-- ---- the lists stay as long as they are

-- lists are as long as they are
pub same_lists : (a : Lists) → SameLengths a a
same_lists a = record { ids = refl; keys = refl; days = refl; fulls = refl; numbers = refl; backs = refl }

-- lists as long as lists that are as long as the first are as long as the first
pub then-lists : (a b c : Lists) → SameLengths a b → SameLengths b c → SameLengths a c
then-lists a b c x y =
    record {
      ids = y.ids ∙ x.ids;
      keys = y.keys ∙ x.keys;
      days = y.days ∙ x.days;
      fulls = y.fulls ∙ x.fulls;
      numbers = y.numbers ∙ x.numbers;
      backs = y.backs ∙ x.backs;
    }

-- lists of the same lengths have the same room
pub room-same : (a b : Lists) → SameLengths a b → room_in b ≡ room_in a
unfolding room_in
room-same a b x = rw (x.ids, x.keys, x.days, x.fulls, x.numbers, x.backs) refl

-- ---- bad lines

none-text : length (bad_rows_text []) ≡ 0
unfolding bad_rows_text
none-text = refl

none-counted : 0 ≡ bads_counted 0
unfolding bads_counted
none-counted = refl

bads-none : (k : RowsKept) → BadsTold [] k k
bads-none k =
    record {
      text = omega (arith, none-text);
      count = λ n e. let z : n ≡ n + length {A = ℕ} [] = omega arith in e ∙ ap bads_counted z;
    }

bads-more : (x y : List ℕ) (k s r : RowsKept) → BadsTold x k s → BadsTold y s r → BadsTold (x ++ y) k r
bads-more x y k s r a b =
    record {
      text = omega (arith, a.text, b.text, length-append (bad_rows_text x) (bad_rows_text y), ap length (rows_append x y));
      count = λ n e.
          let z : n + length x + length y ≡ n + length (x ++ y) = omega (arith, length-append x y) in
          b.count (n + length x) (a.count n e) ∙ ap bads_counted z;
    }

-- bad lines after those that were told
pub told_more : (told : ℕ) (x y : List ℕ) (k r : RowsKept) → AllBadsTold told x k → BadsTold y k r → AllBadsTold told (x ++ y) r
told_more told x y k r t b =
    record {
      text = omega (arith, t.text, b.text, length-append (bad_rows_text x) (bad_rows_text y), ap length (rows_append x y));
      count = b.count (length x) t.count ∙ ap bads_counted (sym (length-append x y));
    }

-- ---- a part

module _ (f : List ℕ) (k : LinesRead) (a : Lists) (part : List ℕ) where
  -- before its first byte all of a part is left
  pub part_none : PartTold f k a part k a (drop 0 part)
  part_none =
      record {
        bads = [];
        is = λ told rest. ap (λ (x : List ℕ). rest_received (room_in a) f (receipt_in k.kept.state a x) k.line (part ++ rest)) (sym (append-nil told));
        tells = bads-none k.kept;
        lengths = same_lists a;
      }

  module _ (s : LinesRead) (b : Lists) (at : ℕ) (d : PartTold f k a part s b (drop at part)) where
    -- past its last byte nothing is left of a part
    pub part-all : length part ≤ at → PartTold f k a part s b []
    part-all h = rw (drop_of_length-le part h) at d

    module _ (e : LineEnd) (fed : e ≡ line_end s.line (drop at part) at) (c : Lists) (r : LinesRead) (t : EndTold f s.kept e b c r) where
      one_more : (y : e.ended ≡ true) (told rest : List ℕ)
          → rest_received (room_in a) f (receipt_in s.kept.state b (told ++ d.bads)) s.line (drop at part ++ rest)
          ≡ rest_received (room_in a) f (receipt_in r.kept.state c (told ++ (d.bads ++ told_of r.kept.state.bad))) r.line (drop e.next part ++
          rest)
      one_more y told rest =
          received-ended s.line part at e fed (room_in a) f (receipt_in s.kept.state b (told ++ d.bads)) rest y
          ∙ ap (λ (n : ℕ). rest_received (room_in a) f (line_received n f (receipt_in s.kept.state b (told ++ d.bads)) (held_read e.line)) empty_long
          (drop e.next part ++ rest))
          (sym (room-same a b d.lengths))
          ∙ ap (λ (x : Receipt). rest_received (room_in a) f x empty_long (drop e.next part ++ rest)) (sym ((t.ended y).0.is (told ++ d.bads)))
          ∙ ap (λ (x : List ℕ). rest_received (room_in a) f (receipt_in r.kept.state c x) empty_long (drop e.next part ++ rest))
          (append_assoc told d.bads (told_of r.kept.state.bad))
          ∙ ap (λ (x : LongLine). rest_received (room_in a) f (receipt_in r.kept.state c (told ++ (d.bads ++ told_of r.kept.state.bad))) x
          (drop e.next part ++ rest))
          (sym (t.ended y).1)

      more-ended : e.ended ≡ true → PartTold f k a part r c (drop e.next part)
      more-ended y =
          record {
            bads = d.bads ++ told_of r.kept.state.bad;
            is = λ told rest. d.is told rest ∙ one_more y told rest;
            tells = bads-more d.bads (told_of r.kept.state.bad) k.kept s.kept r.kept d.tells (t.ended y).0.tells;
            lengths = then-lists a b c d.lengths (t.ended y).0.lengths;
          }

      more-begun : e.ended ≡ false → PartTold f k a part r c (drop e.next part)
      more-begun n =
          rw (drop_of_length-le part (end-used s.line part at e fed n), (t.begun n).0, (t.begun n).1.0, (t.begun n).1.1)
          (record {
            bads = d.bads;
            is = λ told rest. d.is told rest ∙ received-begun s.line part at e fed (room_in a) f (receipt_in s.kept.state b (told ++ d.bads)) rest n;
            tells = d.tells;
            lengths = d.lengths;
          })

      -- a line of a part more, up to its line feed or to the end of the part
      pub part-more : PartTold f k a part r c (drop e.next part)
      part-more = go e.ended refl
        where
          go : (y : Bool) → e.ended ≡ y → PartTold f k a part r c (drop e.next part)
          go true y = more-ended y
          go false n = more-begun n

-- ---- the last line

-- a last line with no bytes brings nothing
pub last_none : (f : List ℕ) (k : LinesRead) (a : Lists) → k.line.length ≡ 0 → LastTold f k a a k.kept
unfolding rest_received rest_over
last_none f k a z =
    record {
      bads = [];
      is = λ told. rw (append-nil told, eq-eqb k.line.length 0 z) refl;
      tells = bads-none k.kept;
      lengths = same_lists a;
    }

-- a last line with bytes brings what it brings as a line
pub last_some : (f : List ℕ) (k : LinesRead) (a b : Lists) (r : RowsKept) → (k.line.length ≡ 0 → ⊥) → RowTold f k.kept k.line a b r → LastTold f k a b
    r
unfolding rest_received rest_over
last_some f k a b r n t =
    record {
      bads = told_of r.state.bad;
      is = λ told. t.is told ∙ rw (ne_eqb k.line.length 0 n) refl;
      tells = t.tells;
      lengths = t.lengths;
    }

-- ---- the first part

none-held : (a : Lists) (s : RowsKept) → Nothing s → no_receipt ≡ receipt_in s.state a []
unfolding received_to
none-held a s n = rw (n.rows, n.begun, n.lines, n.over) refl

unmarked-all : (part rest : List ℕ) → (length part < 3 → rest ≡ []) → unmarked (part ++ rest) ≡ unmarked part ++ rest
unmarked-all part rest z = go (lt-or-ge (length part) 3)
  where
    go : (length part < 3) ⊎ (3 ≤ length part) → unmarked (part ++ rest) ≡ unmarked part ++ rest
    go (inl l) = rw (z l) (ap unmarked (append-nil part) ∙ sym (append-nil (unmarked part)))
    go (inr l) = sym (unmarked-more part rest l)

without-mark : (part : List ℕ) (mark : ℕ) → mark ≡ mark_length part → unmarked part ≡ take (length part - mark) (drop mark part)
unfolding unmarked
without-mark part mark m =
    ap (λ (n : ℕ). drop n part) (sym m) ∙ sym (take_all (length part - mark) (drop mark part) (omega (arith, length-drop mark part)))

module _ (f : List ℕ) (t : Told) (k : LinesRead) (own : k.kept.told ≡ t) (empty : k.line ≡ empty_long) (nothing : Nothing k.kept)
    (part : List ℕ) (mark : ℕ) (m : mark ≡ mark_length part) (a b : Lists) (r : LinesRead)
    (d : PartTold f k a (take (length part - mark) (drop mark part)) r b []) where
  first-is : room_in a ≡ 65536 → (rest : List ℕ) → (length part < 3 → rest ≡ [])
      → receipt_of f (part ++ rest) ≡ rest_received 65536 f (receipt_in r.kept.state b d.bads) r.line rest
  first-is room rest z =
      sym (whole-input f (part ++ rest))
      ∙ ap (rest_received 65536 f no_receipt empty_long) (unmarked-all part rest z ∙ ap (λ (x : List ℕ). x ++ rest) (without-mark part mark m))
      ∙ ap (λ (x : Receipt). rest_received 65536 f x empty_long (take (length part - mark) (drop mark part) ++ rest)) (none-held a k.kept nothing)
      ∙ ap (λ (x : LongLine). rest_received 65536 f (receipt_in k.kept.state a []) x (take (length part - mark) (drop mark part) ++ rest)) (sym empty)
      ∙ ap (λ (n : ℕ). rest_received n f (receipt_in k.kept.state a []) k.line (take (length part - mark) (drop mark part) ++ rest)) (sym room)
      ∙ d.is [] rest
      ∙ ap (λ (n : ℕ). rest_received n f (receipt_in r.kept.state b d.bads) r.line rest) room

  first-tells : AllBadsTold t.bytes d.bads r.kept
  first-tells =
      let z : 0 + length d.bads ≡ length d.bads = omega arith in
      rw (← own)
      (record { text = d.tells.text; count = d.tells.count 0 (nothing.bad ∙ none-counted) ∙ ap bads_counted z })

  -- the first part, without its mark, brought what is kept after it
  pub first-told : FirstTold f t.bytes a part r b
  first-told =
      record {
        came = λ room left z. record { bads = d.bads; is = λ rest e. first-is room rest (λ l. e (z l)); tells = first-tells };
        lengths = d.lengths;
      }
