-- What is answered to a question is of the product's table after the notices, of which demand 3 holds.
-- Assumes nothing.
use mathlib.Core.Path.{◌≡◌, refl, ◌∙◌, ap}
use mathlib.Core.Bool.{true, false}
use mathlib.Core.List.{List, []}
use Prim.Native.Nat.{ℕ}
use borrow.Author.Tests.{eq-eqb, ne_eqb}
use Rattle.product.specs.declared.Product.{Product}
use Rattle.file_load.specs.Load.{found}
use Rattle.table.specs.declared.Table.{Table}
use Rattle.table.specs.Table.{open_call}
use Rattle.table.proofs.Opens.{accepted-from}
use Rattle.history.specs.History.{table_run}
use Rattle.history.proofs.FromFile.{from-file}
use Rattle.delivery_notices.specs.Notices.{Notice}
use Rattle.delivery_tables.specs.Tables.{calls_for, table_after}
use Rattle.delivery_questions.specs.QuestionLines.{Question, last, due, tick, cash, size, asks, asked_by}
use Rattle.delivery_answers.specs.declared.Standing.{Standing}
use Rattle.delivery_answers.specs.Replies.{no_text, question_text, reply_text, misfits, bad_question_text, asked_text, question_answer}
use Rattle.delivery_queries.specs.Queries.{standing_of}
use Rattle.delivery_queries.specs.QueriedTables.{with_reply, AnswerOfTable, EveryAnswer}

-- of an id that is not in the file both forms of a maturity are taken
unknown-fits : (s : Standing) (q : Question) → s.known ≡ false → misfits s q ≡ false
unfolding misfits
unknown-fits s (last friday key) e = rw e refl
unknown-fits s (due day) e = refl
unknown-fits s (tick price) e = refl
unknown-fits s (cash contracts agreed final) e = refl
unknown-fits s size e = refl

module _ (of : List ℕ → Standing) (k : ℕ) (line id : List ℕ) (q : Question) (a : asked_by line ≡ asks id q) where
  misfit : misfits (of id) q ≡ true → question_answer of k line ≡ bad_question_text k
  unfolding question_answer asked_text
  misfit m = rw (a, m) refl

  replied : misfits (of id) q ≡ false → question_answer of k line ≡ with_reply line (reply_text (of id) q)
  unfolding question_answer asked_text
  replied m = rw (a, m) refl

module _ (f : List ℕ) (date : ℕ) (ns : List Notice) (id : List ℕ) (q : Question) where
  no-product : found f id ≡ false → reply_text (standing_of f date ns id) q ≡ no_text 9
  unfolding reply_text standing_of
  no-product e = rw e refl

  no-opening : found f id ≡ true → ((open_call f id date).refusal ≡ 0 → ⊥) → reply_text (standing_of f date ns id) q ≡ no_text (open_call f id date).refusal
  unfolding reply_text standing_of
  no-opening e n = rw (e, ne_eqb (open_call f id date).refusal 0 n) refl

  opened : found f id ≡ true → (open_call f id date).refusal ≡ 0 → reply_text (standing_of f date ns id) q ≡ question_text (table_after f id date ns) q
  unfolding reply_text standing_of
  opened e z = rw (e, eq-eqb (open_call f id date).refusal 0 z) refl

  known_is : (standing_of f date ns id).known ≡ found f id
  unfolding standing_of
  known_is = refl

module _ (f : List ℕ) (date : ℕ) (ns : List Notice) (k : ℕ) (line id : List ℕ) (q : Question) (a : asked_by line ≡ asks id q) where
  of-that-table : (open_call f id date).refusal ≡ 0 → misfits (standing_of f date ns id) q ≡ false → AnswerOfTable f date ns k line id q
  of-that-table z m =
      let t = (accepted-from f id date z).there in
      let h = from-file f id date z (calls_for id ns) [] in
      record {
        there = t;
        answer = replied (standing_of f date ns) k line id q a m ∙ ap (with_reply line) (opened f date ns id q t z);
        kind = ap (λ (x : Table). (table_run x (calls_for id ns)).product.kind) h.opened ∙ ap (λ (p : Product). p.kind) h.demand.product;
        history = from-file f id date z (calls_for id ns);
      }

  -- the answer to a question is of an unknown id, of a wrong form, of a refused opening or of the product's table
  pub every-answer : EveryAnswer f date ns k line id q
  every-answer =
      record {
        unknown = λ e.
            replied (standing_of f date ns) k line id q a (unknown-fits (standing_of f date ns id) q (known_is f date ns id q ∙ e))
            ∙ ap (with_reply line) (no-product f date ns id q e);
        other-sort = misfit (standing_of f date ns) k line id q a;
        no_table = λ e m n. replied (standing_of f date ns) k line id q a m ∙ ap (with_reply line) (no-opening f date ns id q e n);
        of-table = of-that-table;
      }
