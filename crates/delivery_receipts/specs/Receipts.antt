-- The rows that `reconcile` reads: the good ones in their order, and the numbers of the bad lines
-- (docs/DELIVERY.md, `reconcile`, from which the quotations are; docs/DECISIONS.md, The delivery).
-- Assumes nothing.
use Rattle.std.specs.Prelude.{ℕ, Bool, true, false, not, ◌&&◌, ◌||◌, cond, List, [], ◌∷◌, ◌++◌, ltb, length}
use Rattle.product.specs.Fields.{is_weekly}
use Rattle.file_load.specs.Load.{found, product_of}
use Rattle.session_lines.specs.CommandLines.{lines_from}
use Rattle.session_lines.specs.InputRest.{rest_over}
use Rattle.file_text_read.specs.Lists.{next_line}
use Rattle.delivery_lines.specs.NoticeLines.{unmarked}
use Rattle.delivery_items.specs.declared.ItemRead.{ItemRead}
use Rattle.delivery_items.specs.declared.LineRead.{LineRead}
use Rattle.delivery_items.specs.declared.LongLine.{LongLine}
use Rattle.delivery_items.specs.Items.{line_read, empty_long, lengthened, held_read}
use Rattle.delivery_differences.specs.declared.DeliveredRow.{DeliveredRow}

-- a good row: the id of its product, and what it says of it
pub record Received : Type 0 where
  pub id : List ℕ
  pub row : DeliveredRow

-- what a line with a row brought
abbrev pub received_of : ItemRead → Received
received_of i =
    record { id = i.id; row = record { key = i.key; day = i.day; full = i.full; number = i.number; back = i.back } }

-- 'a maturity of the form that its product's kind does not have (of an id that is not in the file both are taken)':
-- such a row is bad
unfoldable pub form_fits : List ℕ → ItemRead → Bool
form_fits f i = not (found f i.id) || cond (is_weekly (product_of f i.id).kind) i.weekly (not i.weekly)

-- what the lines so far brought: the good rows, whether a line was there that is not empty,
-- how many lines there were, at most 999,999,999, the numbers of the bad ones, and whether there was a good row too many
pub record Receipt : Type 0 where
  pub rows : List Received
  pub begun : Bool
  pub lines : ℕ
  pub bads : List ℕ
  pub over : Bool

-- before the first line
abbrev pub no_receipt : Receipt
no_receipt = record { rows = []; begun = false; lines = 0; bads = []; over = false }

-- 'empty lines are passed over, and so is the first line that is not empty where its first field is `product`'
abbrev pub passed_over : Bool → Receipt → Receipt
passed_over begun s = record { rows = s.rows; begun = begun; lines = next_line s.lines; bads = s.bads; over = false }

-- 'Told as `standard input:K: BAD`; the others are judged all the same'
abbrev pub bad_line : Bool → Receipt → Receipt
bad_line over s =
    record { rows = s.rows; begun = true; lines = next_line s.lines; bads = s.bads ++ (next_line s.lines ∷ []); over = over }

-- one good row more
abbrev pub one_more : Receipt → ItemRead → Receipt
one_more s i = record { rows = s.rows ++ (received_of i ∷ []); begun = true; lines = next_line s.lines; bads = s.bads; over = false }

-- the sorts of lines: after the end of reading; empty; the heading; bad; a good row too many; a good row
pub data Sort : Type 0 where
  ended empty heading bad too_many good : Sort

-- 'More than 65,536 good rows: the first one too many is told as bad, reading ends':
-- the sort of a line, where reading has ended or not, a line was there that is not empty or not,
-- and so many good rows were there, with room for so many
unfoldable pub sort_of : ℕ → List ℕ → Bool → Bool → ℕ → LineRead → Sort
sort_of room f over begun count r =
    cond over ended
    (cond r.empty empty
    (cond (not begun && r.heading) heading
    (cond (r.item.there && form_fits f r.item) (cond (ltb count room) good too_many) bad)))

-- after a line of a sort, with its row
unfoldable pub line_brought : Sort → Receipt → ItemRead → Receipt
line_brought ended s i = s
line_brought empty s i = passed_over s.begun s
line_brought heading s i = passed_over true s
line_brought bad s i = bad_line false s
line_brought too_many s i = bad_line true s
line_brought good s i = one_more s i

-- after one line more
unfoldable pub line_received : ℕ → List ℕ → Receipt → LineRead → Receipt
line_received room f s r = line_brought (sort_of room f s.over s.begun (length s.rows) r) s r.item

-- after some lines
unfoldable pub lines_received : ℕ → List ℕ → Receipt → List (List ℕ) → Receipt
lines_received room f s [] = s
lines_received room f s (line ∷ lines) = lines_received room f (line_received room f s (line_read line)) lines

-- 'Line ends and the mark as above':
-- what standard input brought
unfoldable pub receipt_of : List ℕ → List ℕ → Receipt
receipt_of f input = lines_received 65536 f no_receipt (lines_from [] (unmarked input))

-- after the rest of an input, with a line begun; from `no_receipt` and an empty line this is `receipt_of` (proofs, RowLinesFed: `whole-input`)
unfoldable pub rest_received : ℕ → List ℕ → Receipt → LongLine → List ℕ → Receipt
rest_received room f = rest_over empty_long lengthened (λ l. l.length) (λ s. s) (λ s l next. next (line_received room f s (held_read l)))
