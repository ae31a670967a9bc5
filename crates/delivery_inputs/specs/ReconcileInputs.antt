-- The lines of standard input of `reconcile`, and the bad ones that are told
-- (docs/DELIVERY.md, `reconcile`, from which the quotations are; docs/DECISIONS.md, The delivery and The program `reconcile`).
-- Assumes nothing.
use Rattle.std.specs.Prelude.{ℕ, ◌+◌, ◌≡◌, cond, List, [], ◌∷◌, ◌++◌, eqb, ltb, length}
use Rattle.session_lines.specs.CommandLines.{empty_line}
use Rattle.file_text_read.specs.Lists.{next_line}
use Rattle.file_text_print.specs.Contents.{LineWith}
use Rattle.delivery_answers.specs.Numbers.{number_text}
use Rattle.delivery_items.specs.declared.LongLine.{LongLine}
use Rattle.delivery_items.specs.Items.{held_read}
use Rattle.delivery_receipts.specs.declared.Receiving.{Receiving}
use Rattle.delivery_receipts.specs.Receipts.{line_received}
use Rattle.delivery_receipts.specs.Receiving.{Lists, room_in, told_of, receipt_in, SameLengths}
use Rattle.delivery_inputs.specs.declared.RowTaken.{RowTaken}

-- 'Told as `standard input:K: BAD`',
-- with a line feed
unfoldable pub bad_row_text : ℕ → List ℕ
bad_row_text line =
    (115 ∷ 116 ∷ 97 ∷ 110 ∷ 100 ∷ 97 ∷ 114 ∷ 100 ∷ 32 ∷ 105 ∷ 110 ∷ 112 ∷ 117 ∷ 116 ∷ 58 ∷ [])
    ++ (number_text line ++ (58 ∷ 32 ∷ 66 ∷ 65 ∷ 68 ∷ 10 ∷ []))

-- 'bad lines by number'
unfoldable pub bad_rows_text : List ℕ → List ℕ
bad_rows_text [] = []
bad_rows_text (k ∷ ks) = bad_row_text k ++ bad_rows_text ks

-- how many bad lines there were, at most 999,999,999, as the numbers of the lines
unfoldable pub bads_counted : ℕ → ℕ
bads_counted n = cond (ltb n 999999999) n 999999999

-- only the code needs it: one bad line more, where a line is bad and so has a number
unfoldable pub bad_count : ℕ → ℕ → ℕ
bad_count bad number = cond (eqb number 0) bad (next_line bad)

-- of what was received before and after a line:
-- the rows are those of the definition, and so is the line where it is bad, whichever were told before; its text is in told, and it is counted
pub record RowIn (f : List ℕ) (s : Receiving) (bad : ℕ) (l : LongLine) (before after : Lists) (r : RowTaken) : Type 0 where
  pub is : (told : List ℕ)
      → receipt_in r.state after (told ++ told_of r.state.bad) ≡ line_received (room_in before) f (receipt_in s before told) (held_read l)
  pub text : LineWith empty_line (bad_rows_text (told_of r.state.bad)) r.told
  pub count : (n : ℕ) → bad ≡ bads_counted n → r.bad ≡ bads_counted (n + length (told_of r.state.bad))
  pub lengths : SameLengths before after
