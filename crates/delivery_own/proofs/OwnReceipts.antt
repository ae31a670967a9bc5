-- The heading is passed over, and each line of a row brings the row: so some rows under a heading are received as they were printed.
-- Assumes nothing.
use mathlib.Core.Path.{◌≡◌, refl, sym, ap, ◌∙◌}
use mathlib.Core.List.{List, [], ◌∷◌, ◌++◌, append-nil}
use mathlib.Core.Bool.{true, false}
use Prim.Native.Nat.{ℕ, ◌+◌, ◌≤◌, ◌<◌}
use native.Mathlib.Omega.{arith}
use lib.Dec.{eqb}
use lib.ListN.{length, length-append}
use lib.Seq.{append_snoc}
use borrow.Author.Tests.{lt-ltb}
use Rattle.questions.specs.Search.{every}
use Rattle.session_lines.specs.CommandLines.{lines_from}
use Rattle.delivery_lines.specs.NoticeLines.{trimmed, mark_length, unmarked}
use Rattle.delivery_items.specs.Items.{fields_from, unquoted, raw_field, field_at, is_product_word, headed, line_read}
use Rattle.delivery_rows.specs.Delivery.{Row, rows_text, delivery_heading}
use Rattle.delivery_receipts.specs.Receipts.{Receipt, received_of, no_receipt, passed_over, one_more, sort_of, line_brought, line_received, lines_received, receipt_of}
use Rattle.delivery_own.specs.Own.{row_line, item_back, received, ReadBack, EachBack, none, more, under_heading}
use Rattle.delivery_own.proofs.RowBytes.{all_of, in_row, one_line}

-- ---- the heading

-- its line: 'product,number,maturity,last_trading_day,days_back'
unfoldable heading_line : List ℕ
heading_line =
    112 ∷ 114 ∷ 111 ∷ 100 ∷ 117 ∷ 99 ∷ 116 ∷ 44 ∷ 110 ∷ 117 ∷ 109 ∷ 98 ∷ 101 ∷ 114 ∷ 44 ∷ 109 ∷ 97 ∷ 116 ∷ 117 ∷ 114 ∷ 105 ∷ 116 ∷ 121 ∷ 44
    ∷ 108 ∷ 97 ∷ 115 ∷ 116 ∷ 95 ∷ 116 ∷ 114 ∷ 97 ∷ 100 ∷ 105 ∷ 110 ∷ 103 ∷ 95 ∷ 100 ∷ 97 ∷ 121 ∷ 44
    ∷ 100 ∷ 97 ∷ 121 ∷ 115 ∷ 95 ∷ 98 ∷ 97 ∷ 99 ∷ 107 ∷ []

heading-in : all_of in_row heading_line ≡ true
unfolding all_of in_row heading_line
heading-in = refl

heading-whole : (rest : List ℕ) → delivery_heading ++ rest ≡ heading_line ++ (10 ∷ rest)
unfolding delivery_heading heading_line
heading-whole rest = refl

heading-line : (rest : List ℕ) → lines_from [] (delivery_heading ++ rest) ≡ heading_line ∷ lines_from [] rest
heading-line rest = ap (lines_from []) (heading-whole rest) ∙ one_line heading_line rest heading-in

no-mark : (rest : List ℕ) → unmarked (delivery_heading ++ rest) ≡ delivery_heading ++ rest
unfolding unmarked mark_length delivery_heading
no-mark rest = refl

heading-headed : headed (trimmed heading_line) ≡ true
unfolding headed field_at raw_field fields_from unquoted is_product_word every trimmed heading_line
heading-headed = refl

heading-there : eqb (length (trimmed heading_line)) 0 ≡ false
unfolding trimmed heading_line
heading-there = refl

heading-passed : (f : List ℕ) → line_received 65536 f no_receipt (line_read heading_line) ≡ passed_over true no_receipt
unfolding line_received sort_of line_brought line_read
heading-passed f = rw (heading-there, heading-headed) refl

-- ---- the rows

module _ (f : List ℕ) where
  row-received : (s : Receipt) (r : Row) → s.over ≡ false → s.begun ≡ true → length s.rows < 65536 → ReadBack f r
      → line_received 65536 f s (line_read (row_line r)) ≡ one_more s (item_back r)
  unfolding line_received sort_of line_brought
  row-received s r o b l k = rw (k.says, o, b, k.fits, lt-ltb (length s.rows) 65536 l) refl

  -- of what was received before and after some rows
  record Brought (s : Receipt) (rows : List Row) (r : Receipt) : Type 0 where
    all : r.rows ≡ s.rows ++ received rows
    bads : r.bads ≡ s.bads
    over : r.over ≡ false

  no_line : lines_from [] (rows_text []) ≡ []
  unfolding lines_from rows_text
  no_line = refl

  next-line : (r : Row) (rs : List Row) → ReadBack f r → lines_from [] (rows_text (r ∷ rs)) ≡ row_line r ∷ lines_from [] (rows_text rs)
  unfolding rows_text
  next-line r rs k = k.line (rows_text rs)

  lines_none : (s : Receipt) → lines_received 65536 f s [] ≡ s
  unfolding lines_received
  lines_none s = refl

  lines_more : (s : Receipt) (line : List ℕ) (lines : List (List ℕ))
      → lines_received 65536 f s (line ∷ lines) ≡ lines_received 65536 f (line_received 65536 f s (line_read line)) lines
  unfolding lines_received
  lines_more s line lines = refl

  rows-brought : (s : Receipt) (rows : List Row) → s.over ≡ false → s.begun ≡ true → length s.rows + length rows ≤ 65536 → EachBack f rows
      → Brought s rows (lines_received 65536 f s (lines_from [] (rows_text rows)))
  rows-brought s [] o b l none =
      rw (no_line, lines_none s) (record { all = sym (append-nil s.rows); bads = refl; over = o })
  rows-brought s (r ∷ rs) o b l (more k e) =
      let h : length s.rows < 65536 = omega arith in
      let n : length (s.rows ++ (received_of (item_back r) ∷ [])) ≡ length s.rows + 1 = length-append s.rows (received_of (item_back r) ∷ []) in
      let i = rows-brought (one_more s (item_back r)) rs refl refl (omega (arith, n)) e in
      rw (next-line r rs k, lines_more s (row_line r) (lines_from [] (rows_text rs)), row-received s r o b h k)
      (record { all = i.all ∙ append_snoc s.rows (received_of (item_back r)) (received rs); bads = i.bads; over = i.over })

  module _ (rows : List Row) where
    receipt-is : receipt_of f (under_heading rows) ≡ lines_received 65536 f (passed_over true no_receipt) (lines_from [] (rows_text rows))
    unfolding receipt_of
    receipt-is =
        rw (no-mark (rows_text rows), heading-line (rows_text rows), lines_more no_receipt heading_line (lines_from [] (rows_text rows)), heading-passed f) refl

    -- at most 65,536 rows that are each read back are all received under their heading, with none bad and none too many
    pub all-received : length rows ≤ 65536 → EachBack f rows
        → ((receipt_of f (under_heading rows)).rows ≡ received rows) × ((receipt_of f (under_heading rows)).bads ≡ [])
        × ((receipt_of f (under_heading rows)).over ≡ false)
    all-received l e =
        let i = rows-brought (passed_over true no_receipt) rows refl refl (omega arith) e in
        rw receipt-is (i.all, i.bads, i.over)
