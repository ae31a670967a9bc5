-- What `query` answers to the questions of its input (docs/DELIVERY.md, `query`, from which the quotations are; docs/DECISIONS.md, The delivery).
-- Assumes nothing.
use Rattle.std.specs.Prelude.{ℕ, ◌+◌, Bool, true, false, ◌&&◌, ◌||◌, cond, List, [], ◌∷◌, ◌++◌, eqb, leb, ltb, get_or, take}
use Rattle.questions.specs.Questions.{first_no}
use Rattle.product.specs.Fields.{is_weekly}
use Rattle.file_calendar.specs.declared.FileCalendar.{FileCalendar}
use Rattle.file_calendar.specs.Calendars.{calendar_answer}
use Rattle.file_load.specs.Load.{load_asks, found, product_of}
use Rattle.table.specs.declared.Outcome.{Outcome}
use Rattle.table.specs.Table.{open_call, open_in}
use Rattle.history.specs.History.{table_run}
use Rattle.session_lines.specs.CommandLines.{lines_from}
use Rattle.delivery_lines.specs.NoticeLines.{trimmed, unmarked}
use Rattle.delivery_notices.specs.declared.NoticesTaken.{NoticesTaken}
use Rattle.delivery_notices.specs.Notices.{Notice, text_told}
use Rattle.delivery_notices.specs.NoticeLists.{notices_to}
use Rattle.delivery_tables.specs.Tables.{calls_for, table_after}
use Rattle.delivery_refusals.specs.Refusals.{master_text, bad_notice_text}
use Rattle.delivery_items.specs.declared.LongLine.{LongLine}
use Rattle.delivery_questions.specs.declared.QuestionLine.{QuestionLine}
use Rattle.delivery_questions.specs.QuestionLines.{Asked, nothing, bad, asked_by}
use Rattle.delivery_answers.specs.declared.Standing.{Standing}
use Rattle.delivery_answers.specs.Replies as replies

-- what is known of the product with an id: whether 'an id .. is not in the file',
-- the sort of its maturities, 'the opening's number', and its table after the notices
unfoldable pub standing_of : List ℕ → ℕ → List Notice → List ℕ → Standing
standing_of f date ns id =
    record {
      known = found f id;
      weekly = found f id && is_weekly (product_of f id).kind;
      refusal = (open_call f id date).refusal;
      table = table_after f id date ns;
    }

-- the number of the line after a line; it stays 18,446,744,073,709,551,615
unfoldable pub next_number : ℕ → ℕ
next_number k = cond (ltb k 18446744073709551615) (k + 1) k

-- 'A question a line':
-- the answers to some lines, of which the first has the number k, one after the other
unfoldable pub replies_text : (List ℕ → Standing) → ℕ → List (List ℕ) → List ℕ
replies_text of k [] = []
replies_text of k (line ∷ lines) = replies.question_answer of k line ++ replies_text of (next_number k) lines

-- standard output: the answers to the lines of the input, numbered from 1, 'one byte order mark before the first line' left out;
-- nothing of a file that is refused, or of notices with a bad line
unfoldable pub query_text : List ℕ → List ℕ → List ℕ → List ℕ
query_text f notices input =
    let t = text_told notices in
    cond (eqb (first_no (load_asks f)) 0 && eqb t.bad 0) (replies_text (standing_of f t.date t.notices) 1 (lines_from [] (unmarked input))) []

-- whether the answer to some of these lines is '`NO n`' or '`BAD K`'
unfoldable pub some_refused : (List ℕ → Standing) → List (List ℕ) → Bool
some_refused of [] = false
some_refused of (line ∷ lines) = replies.asked_refused of (asked_by line) || some_refused of lines

-- something is refused or bad: the file, a notice, or a line of the input
unfoldable pub query_refused : List ℕ → List ℕ → List ℕ → Bool
query_refused f notices input =
    let t = text_told notices in
    cond (eqb (first_no (load_asks f)) 0 && eqb t.bad 0) (some_refused (standing_of f t.date t.notices) (lines_from [] (unmarked input))) true

-- 'A `master.bin` that is refused: .. it is judged before the notices are read'; 'Refused notices are not told here':
-- standard error, `master.bin: NO n`, or the first bad line
unfoldable pub query_told : List ℕ → List ℕ → List ℕ
query_told f notices =
    let t = text_told notices in
    cond (eqb (first_no (load_asks f)) 0) (cond (eqb t.bad 0) [] (bad_notice_text t.bad)) (master_text (first_no (load_asks f)))

-- only the code needs it: the same of a product by what an id and a date open; by what the file opens it is `standing_of`
unfoldable pub standing_by : (List ℕ → ℕ → Outcome) → List ℕ → ℕ → List Notice → List ℕ → Standing
standing_by opening f date ns id =
    record {
      known = found f id;
      weekly = found f id && is_weekly (product_of f id).kind;
      refusal = (opening id date).refusal;
      table = table_run (opening id date).table (calls_for id ns);
    }

-- only the code needs it: the same by a verdict and by the notices in two lists, none of which is taken where a buffer has no room for their refusals
unfoldable pub standing_in : FileCalendar → List ℕ → NoticesTaken → List ℕ → List ℕ → ℕ → List ℕ → Standing
standing_in judged f t calls ids room id =
    standing_by (open_in (calendar_answer judged) f) f t.date (cond (leb t.count room) (notices_to calls ids t.count) []) id

-- only the code needs it: what a line asks, as it is held. Of a line of 'more than 255 bytes' the first is looked at, as comments 'are passed over'
unfoldable pub long_asked : LongLine → Asked
long_asked l = cond l.over (cond (eqb (get_or l.bytes 0 0) 35) nothing bad) (asked_by (take l.length l.bytes))

-- only the code needs it: what is answered to a line, as it is held;
-- from an empty line fed with a line of any length this is `question_answer` (proofs, LongQuestions: `any-length`)
unfoldable pub long_text : (List ℕ → Standing) → ℕ → LongLine → List ℕ
long_text of k l = replies.asked_text of k (trimmed (take l.length l.bytes)) (long_asked l)

-- only the code needs it: the answer to a line with a question as it is held
unfoldable pub held_answer : Standing → ℕ → List ℕ → QuestionLine → List ℕ
held_answer s k line q = cond (replies.held_misfits s q) (replies.bad_question_text k) (line ++ replies.reply_line s q)

-- only the code needs it: whether the answer to a line, as it is held, is '`NO n`' or '`BAD K`'
unfoldable pub long_refused : (List ℕ → Standing) → LongLine → Bool
long_refused of l = replies.asked_refused of (long_asked l)

-- only the code needs it: the same of a question as it is held. After the line stand a space and the answer, which begins with an N, 78, where it is '`NO n`'
unfoldable pub held_refused : Standing → QuestionLine → Bool
held_refused s q = cond (replies.held_misfits s q) true (eqb (get_or (replies.reply_line s q) 1 0) 78)
