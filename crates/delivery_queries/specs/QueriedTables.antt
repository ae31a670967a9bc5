-- What `query` answers is of the tables for which demand 3 holds
-- (docs/DELIVERY.md, `query` and What is proved, from which the quotations are; 01, Demands; 02, notes 9 and 11).
-- Assumes nothing.
use Rattle.std.specs.Prelude.{ℕ, ◌≡◌, true, false, List, [], ◌∷◌, ◌++◌}
use Rattle.file_load.specs.Load.{found, product_of}
use Rattle.table.specs.Table.{open_call}
use Rattle.history.specs.Book.{Call}
use Rattle.history.specs.History.{FromFile}
use Rattle.delivery_lines.specs.NoticeLines.{trimmed}
use Rattle.delivery_notices.specs.Notices.{Notice}
use Rattle.delivery_tables.specs.Tables.{calls_for, table_after}
use Rattle.delivery_questions.specs.QuestionLines.{Question}
use Rattle.delivery_answers.specs.Replies.{no_text, question_text, misfits, question_answer, bad_question_text}
use Rattle.delivery_queries.specs.Queries.{standing_of}

-- 'The answer is the line, without blanks at its end, a space and ..':
-- a line with what stands after it
abbrev pub with_reply : List ℕ → List ℕ → List ℕ
with_reply line said = trimmed line ++ ((32 ∷ []) ++ (said ++ (10 ∷ [])))

-- 'last trading day, due, tick, cash, size of that table':
-- of a line that asks something of a product that opened;
-- and demand 3 of the table, with the product's calls among the notices as its list, and of any more calls
pub record AnswerOfTable (f : List ℕ) (date : ℕ) (ns : List Notice) (k : ℕ) (line id : List ℕ) (q : Question) : Type 0 where
  pub there : found f id ≡ true
  pub answer : question_answer (standing_of f date ns) k line ≡ with_reply line (question_text (table_after f id date ns) q)
  pub kind : (table_after f id date ns).product.kind ≡ (product_of f id).kind
  pub history : (ds : List Call) → FromFile f id date (calls_for id ns) ds

-- '9 of an id that is not in the file, the opening's number of a product without a table';
-- bad is '`last` in the form of the other sort of maturity':
-- of a line that asks something of the product with an id; else the answer is of its table
pub record EveryAnswer (f : List ℕ) (date : ℕ) (ns : List Notice) (k : ℕ) (line id : List ℕ) (q : Question) : Type 0 where
  pub unknown : found f id ≡ false → question_answer (standing_of f date ns) k line ≡ with_reply line (no_text 9)
  pub other-sort : misfits (standing_of f date ns id) q ≡ true → question_answer (standing_of f date ns) k line ≡ bad_question_text k
  pub no_table : found f id ≡ true → misfits (standing_of f date ns id) q ≡ false → ((open_call f id date).refusal ≡ 0 → ⊥)
      → question_answer (standing_of f date ns) k line ≡ with_reply line (no_text (open_call f id date).refusal)
  pub of-table : (open_call f id date).refusal ≡ 0 → misfits (standing_of f date ns id) q ≡ false → AnswerOfTable f date ns k line id q
