-- The two texts of the program `reconcile`: what it writes to standard output and what it tells on standard error
-- (docs/DELIVERY.md, `reconcile`, from which the quotations are; docs/DECISIONS.md, The delivery, The reconciliation and The program `reconcile`).
-- Assumes nothing.
use Rattle.std.specs.Prelude.{ℕ, zero, suc, ◌+◌, ◌/◌, ◌%◌, Bool, not, ◌&&◌, ◌||◌, cond, List, [], ◌∷◌, ◌++◌, eqb, ltb, length, get_or}
use Rattle.questions.specs.Questions.{first_no}
use Rattle.questions.specs.Search.{every, some}
use Rattle.product.specs.declared.Kind.{Kind}
use Rattle.listing.specs.declared.Maturity.{Maturity}
use Rattle.file_ids.specs.Ids.{place_count, is_record, record_count, id_at}
use Rattle.file_load.specs.Products.{product_at, same_id}
use Rattle.file_load.specs.Load.{load_asks, found}
use Rattle.table.specs.declared.Outcome.{Outcome}
use Rattle.table.specs.Table.{listed_in, open_call}
use Rattle.history.specs.History.{table_run}
use Rattle.delivery_notices.specs.Notices.{NoticesTold, text_told}
use Rattle.delivery_tables.specs.Tables.{calls_for}
use Rattle.delivery_refusals.specs.Refusals.{master_text, bad_notice_text, refusal_told}
use Rattle.delivery_parts.specs.PlaceParts.{parts_text}
use Rattle.delivery_answers.specs.Numbers.{number_text}
use Rattle.delivery_differences.specs.Differences.{differing, no_row}
use Rattle.delivery_reports.specs.Reports.{differences_heading, keys_text, unknown_text}
use Rattle.delivery_receipts.specs.Receipts.{Received, Receipt, receipt_of}
use Rattle.delivery_receipts.specs.Receiving.{rows_for}
use Rattle.delivery_inputs.specs.ReconcileInputs.{bad_rows_text, bads_counted}

-- the sum of the first n numbers
unfoldable pub sum_to : (ℕ → ℕ) → ℕ → ℕ
sum_to number zero = 0
sum_to number (suc n) = sum_to number n + number n

-- the kind of the product at a place, by which its maturities are named
abbrev pub kind_at : List ℕ → ℕ → Kind
kind_at f p = (product_at f (p / 15) (p % 15)).kind

-- 'Rows of a product without a table are `extra`':
-- the maturities that the table of the product at a place lists after the notices; none without a table
unfoldable pub listed_at : (List ℕ → ℕ → Outcome) → List ℕ → NoticesTold → ℕ → List Maturity
listed_at opening f t p =
    cond (eqb (opening (id_at f p) t.date).refusal 0)
    (listed_in (table_run (opening (id_at f p) t.date).table (calls_for (id_at f p) t.notices))) []

-- 'One line for a key that differs', 'keys rising':
-- the keys of the product at a place, by the rows with its id
unfoldable pub keys_at : (List ℕ → ℕ → Outcome) → List ℕ → NoticesTold → List Received → ℕ → List ℕ
keys_at opening f t rows p = cond (is_record f p) (differing (listed_at opening f t p) (rows_for (id_at f p) rows) 65536 0) []

-- their lines
unfoldable pub place_text : (List ℕ → ℕ → Outcome) → List ℕ → NoticesTold → List Received → ℕ → List ℕ
place_text opening f t rows p =
    keys_text (kind_at f p) (id_at f p) (listed_at opening f t p) (rows_for (id_at f p) rows) (keys_at opening f t rows p)

-- the id of row i
abbrev pub id_of : List Received → ℕ → List ℕ
id_of rows i = (get_or rows i (record { id = []; row = no_row })).id

-- 'then `product`, once for each id that is not in the file, in the order of their first rows':
-- row i is such a first row
unfoldable pub is_stranger : List ℕ → List Received → ℕ → Bool
is_stranger f rows i = not (found f (id_of rows i)) && every i (λ j. not (same_id (id_of rows j) (id_of rows i)))

-- its line
unfoldable pub stranger_text : List ℕ → List Received → ℕ → List ℕ
stranger_text f rows i = cond (is_stranger f rows i) (unknown_text (id_of rows i)) []

-- 'Products in the file's order':
-- the lines of all products, and of all ids that are not in the file, under the heading
unfoldable pub differences_text : (List ℕ → ℕ → Outcome) → List ℕ → NoticesTold → List Received → List ℕ
differences_text opening f t rows =
    differences_heading ++ (parts_text (place_text opening f t rows) (place_count f) ++ parts_text (stranger_text f rows) (length rows))

-- '3 differ': 'lines under the heading'
unfoldable pub differ_count : (List ℕ → ℕ → Outcome) → List ℕ → NoticesTold → List Received → ℕ
differ_count opening f t rows =
    sum_to (λ p. length (keys_at opening f t rows p)) (place_count f) + sum_to (λ i. cond (is_stranger f rows i) 1 0) (length rows)

-- 'More than 65,536 good rows: .. standard output stays empty':
-- standard output; of a file that is refused and of notices with a bad line nothing either
unfoldable pub reconcile_text : List ℕ → List ℕ → List ℕ → List ℕ
reconcile_text f notices input =
    let t = text_told notices in
    let r = receipt_of f input in
    cond (eqb (first_no (load_asks f)) 0 && (eqb t.bad 0 && not r.over)) (differences_text (open_call f) f t r.rows) []

-- 'refused openings as above', 'by the line of the `O`':
-- `notices.txt:K: NO n ID`, of the product at a place
unfoldable pub opening_text : (List ℕ → ℕ → Outcome) → List ℕ → ℕ → ℕ → ℕ → List ℕ
opening_text opening f opened date p =
    cond (is_record f p) (refusal_told opened (opening (id_at f p) date).refusal (id_at f p)) []

-- '`788 products, 10676 rows, 3 differ, 0 bad`',
-- with a line feed
unfoldable pub summary_text : ℕ → ℕ → ℕ → ℕ → List ℕ
summary_text products rows differ bad =
    number_text products
    ++ ((32 ∷ 112 ∷ 114 ∷ 111 ∷ 100 ∷ 117 ∷ 99 ∷ 116 ∷ 115 ∷ 44 ∷ 32 ∷ [])
    ++ (number_text rows
    ++ ((32 ∷ 114 ∷ 111 ∷ 119 ∷ 115 ∷ 44 ∷ 32 ∷ [])
    ++ (number_text differ
    ++ ((32 ∷ 100 ∷ 105 ∷ 102 ∷ 102 ∷ 101 ∷ 114 ∷ 44 ∷ 32 ∷ []) ++ (number_text bad ++ (32 ∷ 98 ∷ 97 ∷ 100 ∷ 10 ∷ [])))))))

-- 'products of the file; good rows; lines under the heading; bad lines. Not there where there were too many rows'
unfoldable pub last_text : (List ℕ → ℕ → Outcome) → List ℕ → NoticesTold → Receipt → List ℕ
last_text opening f t r =
    cond r.over []
    (summary_text (record_count f) (length r.rows) (differ_count opening f t r.rows) (bads_counted (length r.bads)))

-- 'Standard error: refused openings .., bad lines by number, and last' the counts
unfoldable pub told_text : (List ℕ → ℕ → Outcome) → List ℕ → NoticesTold → Receipt → List ℕ
told_text opening f t r =
    parts_text (opening_text opening f t.opened t.date) (place_count f) ++ (bad_rows_text r.bads ++ last_text opening f t r)

-- standard error: `master.bin: NO n`, or the first bad line of the notices, or what is told of the rows
unfoldable pub reconcile_told : List ℕ → List ℕ → List ℕ → List ℕ
reconcile_told f notices input =
    let t = text_told notices in
    cond (eqb (first_no (load_asks f)) 0)
    (cond (eqb t.bad 0) (told_text (open_call f) f t (receipt_of f input)) (bad_notice_text t.bad))
    (master_text (first_no (load_asks f)))

-- the opening of the product at a place is refused
unfoldable pub opening_refused : (List ℕ → ℕ → Outcome) → List ℕ → ℕ → ℕ → Bool
opening_refused opening f date p = is_record f p && not (eqb (opening (id_at f p) date).refusal 0)

-- 'something was refused, bad or differs' (docs/OPERATIONS.md, 'The status'):
-- the file, a line of the notices or an opening; a good row is too many or a line of the input bad; a line stands under the heading
unfoldable pub reconcile_refused : List ℕ → List ℕ → List ℕ → Bool
reconcile_refused f notices input =
    let t = text_told notices in
    let r = receipt_of f input in
    not (eqb (first_no (load_asks f)) 0)
    || (not (eqb t.bad 0)
    || (some (place_count f) (opening_refused (open_call f) f t.date)
    || (r.over || (ltb 0 (length r.bads) || ltb 0 (differ_count (open_call f) f t r.rows)))))
