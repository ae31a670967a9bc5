-- What the lines of standard input brought: line by line and part by part.
-- That bad lines are told is said by the count of their bytes, modulo 2^64; which bytes these are is required where they are told.
-- Assumes nothing.
use Rattle.std.specs.Prelude.{ℕ, ◌+◌, ◌<◌, ◌≡◌, true, false, List, [], ◌++◌, length}
use Rattle.streams.specs.Transfers.{Grew}
use Rattle.delivery_items.specs.declared.LongLine.{LongLine}
use Rattle.delivery_items.specs.Items.{empty_long, held_read}
use Rattle.delivery_items.specs.declared.LineEnd.{LineEnd}
use Rattle.delivery_receipts.specs.Receipts.{line_received, receipt_of, rest_received}
use Rattle.delivery_receipts.specs.Receiving.{Lists, room_in, told_of, receipt_in, SameLengths}
use Rattle.delivery_inputs.specs.ReconcileInputs.{bad_rows_text, bads_counted}
use Rattle.delivery_row_parts.specs.declared.RowsKept.{RowsKept}
use Rattle.delivery_row_parts.specs.declared.LinesRead.{LinesRead}

-- some bad lines were told after what was told before, and counted
pub record BadsTold (bads : List ℕ) (k r : RowsKept) : Type 0 where
  pub text : Grew k.told.bytes (length (bad_rows_text bads)) r.told.bytes
  pub count : (n : ℕ) → k.bad ≡ bads_counted n → r.bad ≡ bads_counted (n + length bads)

-- of what is kept before and after a line:
-- the rows are those of the definition, and so is the line where it is bad, whichever were told before; it is told, and counted;
-- the lists are as long as they were
pub record RowTold (f : List ℕ) (k : RowsKept) (l : LongLine) (before after : Lists) (r : RowsKept) : Type 0 where
  pub is : (told : List ℕ)
      → receipt_in r.state after (told ++ told_of r.state.bad) ≡ line_received (room_in before) f (receipt_in k.state before told) (held_read l)
  pub tells : BadsTold (told_of r.state.bad) k r
  pub lengths : SameLengths before after

-- of a line up to its line feed, or to the end of a part: where a line feed ended it, it was taken, and the next has no bytes yet; else it is kept
pub record EndTold (f : List ℕ) (k : RowsKept) (e : LineEnd) (before after : Lists) (r : LinesRead) : Type 0 where
  pub ended : e.ended ≡ true → RowTold f k e.line before after r.kept × (r.line ≡ empty_long)
  pub begun : e.ended ≡ false → (r.kept ≡ k) × ((after ≡ before) × (r.line ≡ e.line))

-- of the bytes of a part, of which some are left: whatever was told before and whatever follows,
-- they bring from what was kept before what those left bring from what is kept after, with some bad lines, which are told and counted;
-- the lists are as long as they were
pub record PartTold (f : List ℕ) (k : LinesRead) (before : Lists) (part : List ℕ) (r : LinesRead) (after : Lists) (left : List ℕ) : Type 0 where
  pub bads : List ℕ
  pub is : (told rest : List ℕ)
      → rest_received (room_in before) f (receipt_in k.kept.state before told) k.line (part ++ rest)
      ≡ rest_received (room_in before) f (receipt_in r.kept.state after (told ++ bads)) r.line (left ++ rest)
  pub tells : BadsTold bads k.kept r.kept
  pub lengths : SameLengths before after

-- of the end of the input: what is kept and the line begun bring what the lists hold then, with some bad lines, which are told and counted;
-- the lists are as long as they were
pub record LastTold (f : List ℕ) (k : LinesRead) (before after : Lists) (r : RowsKept) : Type 0 where
  pub bads : List ℕ
  pub is : (told : List ℕ)
      → receipt_in r.state after (told ++ bads) ≡ rest_received (room_in before) f (receipt_in k.kept.state before told) k.line []
  pub tells : BadsTold bads k.kept r
  pub lengths : SameLengths before after

-- as many bytes as the lines of these bad ones have were told after so many, and the bad ones were counted
pub record AllBadsTold (told : ℕ) (bads : List ℕ) (s : RowsKept) : Type 0 where
  pub text : Grew told (length (bad_rows_text bads)) s.told.bytes
  pub count : s.bad ≡ bads_counted (length bads)

-- after the first bytes of an input, whatever follows where reads are left, what is received is what the lists hold and what the rest brings;
-- the bad lines so far were told, and counted
pub record RowsCame (f : List ℕ) (told : ℕ) (a : Lists) (input : List ℕ) (left : ℕ) (k : LinesRead) : Type 0 where
  pub bads : List ℕ
  pub is : (rest : List ℕ) → (left ≡ 0 → rest ≡ [])
      → receipt_of f (input ++ rest) ≡ rest_received 65536 f (receipt_in k.kept.state a bads) k.line rest
  pub tells : AllBadsTold told bads k.kept

-- after the first part of an input, for every number of reads left that is 0 where the part has fewer than three bytes:
-- with lists that have room for 65,536 rows its bytes have come; the lists are as long as they were
pub record FirstTold (f : List ℕ) (told : ℕ) (before : Lists) (part : List ℕ) (r : LinesRead) (after : Lists) : Type 0 where
  pub came : room_in before ≡ 65536 → (left : ℕ) → (length part < 3 → left ≡ 0) → RowsCame f told after part left r
  pub lengths : SameLengths before after

-- before the first line: no bad line, no row and no line is counted, no line with bytes was seen, and no row was too many
pub record Nothing (s : RowsKept) : Type 0 where
  pub bad : s.bad ≡ 0
  pub rows : s.state.rows ≡ 0
  pub begun : s.state.begun ≡ false
  pub lines : s.state.lines ≡ 0
  pub over : s.state.over ≡ false
