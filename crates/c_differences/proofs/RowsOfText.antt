-- The rows of a whole text: calls from the first line to the end of the text bring what the definition says, the bad lines included.
-- Assumes nothing.
use mathlib.Core.Path.{◌≡◌, refl, ◌∙◌, sym, ap}
use mathlib.Core.List.{List, []}
use Prim.Native.Nat.{ℕ, ◌≤◌}
use lib.ListN.{length, drop}
use Rattle.delivery_lines.specs.NoticeLines.{unmarked}
use Rattle.delivery_items.specs.Items.{empty_long}
use Rattle.delivery_receipts.specs.Receipts.{Receipt, receipt_of, rest_received}
use Rattle.delivery_receipts.specs.Receipts as receipts
use Rattle.delivery_receipts.specs.Receiving.{Lists, room_in, received_to, receipt_in, SameLengths}
use Rattle.delivery_receipts.proofs.RowLinesFed.{whole-input}
use Rattle.c_differences.specs.declared.FlatReceipt.{FlatReceipt}
use Rattle.c_differences.specs.Found.{line_start, receiving_of, no_flat_receipt, Readings, first, next}
use Rattle.c_differences.proofs.NextRow.{no_line, start_first, at-end}

same-room : (a b : Lists) → SameLengths a b → room_in b ≡ room_in a
unfolding room_in
same-room a b s = rw (s.ids, s.keys, s.days, s.fulls, s.numbers, s.backs) refl

none_yet : (a : Lists) → receipt_in (receiving_of no_flat_receipt) a [] ≡ receipts.no_receipt
unfolding received_to
none_yet a = refl

begins : (text : List ℕ) → unmarked text ≡ drop (line_start text 0) text
unfolding unmarked
begins text = ap (λ (n : ℕ). drop n text) (start_first text 0 refl)

-- what was received so far, with the rest of the text
record SoFar (f text : List ℕ) (lists : Lists) (s : FlatReceipt) (a : Lists) (bads : List ℕ) : Type 0 where
  -- the lists have the room that they had before the first line
  pub room : room_in a ≡ room_in lists
  -- what was received so far and the rest of the text bring what the whole text brings
  pub is : rest_received (room_in lists) f receipts.no_receipt empty_long (unmarked text)
      ≡ rest_received (room_in lists) f (receipt_in (receiving_of s) a bads) empty_long (drop (line_start text s.next) text)

so_far : (f text : List ℕ) (lists : Lists) (s : FlatReceipt) (a : Lists) (bads : List ℕ) → Readings f text lists s a bads → SoFar f text lists s a bads
so_far f text lists s a bads first =
    record {
      room = refl;
      is =
          ap (λ (r : Receipt). rest_received (room_in lists) f r empty_long (unmarked text)) (sym (none_yet lists))
          ∙ ap (rest_received (room_in lists) f (receipt_in (receiving_of no_flat_receipt) lists []) empty_long) (begins text);
    }
so_far f text lists r after bads (next {s = s} {before = before} {bads = told} before-it x) =
    let h : SoFar f text lists s before told = so_far f text lists s before told before-it in
    record {
      room = same-room before after x.lengths ∙ h.room;
      is = h.is ∙ (rw h.room at (x.is told));
    }

-- after the last line
pub whole-text : (f text : List ℕ) (lists : Lists) (s : FlatReceipt) (a : Lists) (bads : List ℕ) → Readings f text lists s a bads → room_in lists ≡ 65536
    → length text ≤ s.next → receipt_in (receiving_of s) a bads ≡ receipt_of f text
whole-text f text lists s a bads x room end =
    let h : SoFar f text lists s a bads = so_far f text lists s a bads x in
    let w : rest_received 65536 f receipts.no_receipt empty_long (unmarked text) ≡ rest_received 65536 f (receipt_in (receiving_of s) a bads) empty_long
    (drop (line_start text s.next) text) = rw room at h.is in
    sym (no_line 65536 f (receipt_in (receiving_of s) a bads))
    ∙ ap (rest_received 65536 f (receipt_in (receiving_of s) a bads) empty_long) (sym (at-end text s.next end))
    ∙ sym w
    ∙ whole-input f text
