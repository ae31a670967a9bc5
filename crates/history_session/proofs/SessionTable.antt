-- What is kept after a session is the table of demand 3.
-- Assumes nothing.
use Prim.Native.Nat.{ℕ, ◌+◌, ◌-◌}
use mathlib.Core.Path.{◌≡◌, refl, sym, ap, ◌∙◌, subst}
use mathlib.Core.Bool.{Bool, true, false, cond, not, ◌&&◌, ◌||◌}
use mathlib.Core.List.{List, [], ◌∷◌, ◌++◌}
use mathlib.Core.Logic.{◌⊎◌, inl, inr}
use lib.Dec.{eqb}
use lib.ListN.{length, get_or, replicate}
use borrow.Author.Tests.{eqb-true, eqb-false, not-true}
use Rattle.questions.specs.Questions.{Ask, first_no}
use Rattle.questions.proofs.Bools.{both, and-fst, and-snd, or-either}
use Rattle.table.specs.declared.Table.{Table}
use Rattle.table.specs.declared.Outcome.{Outcome}
use Rattle.table.specs.Table.{moved, answered, roll_asks, roll_call, close_asks, close_call, open_call}
use Rattle.calendar.specs.Trading.{close_day}
use Rattle.session_lines.specs.declared.Command.{Command}
use Rattle.session_lines.specs.CommandLines.{date_at, move_form, move_command, id_in_line, open_form, open_command, other_line, command_at, command_of, empty_line}
use Rattle.session_lines.specs.CommandLines.{lines_from}
use Rattle.session_command.specs.declared.Kept.{Kept}
use Rattle.session_command.specs.Sessions.{nothing_kept, outcome_of, kept_after, kept_run, rest_kept}
use Rattle.session_command.proofs.Session.{kept_append, whole-kept}
use Rattle.history.specs.Book.{Call}
use Rattle.history.specs.History.{table_call, table_run, FromFile}
use Rattle.history.proofs.FromFile.{from-file}
use Rattle.history_session.specs.SessionCalls.{is_opening, no_opening, is_move, move_of, moves_of, KeptHistory}

abbrev with_table : Bool → Table → Kept
with_table b t = record { opened = true; table = t; refused = b }

-- a table is kept; what was refused before plays no part
abbrev Keeps : Kept → Table → Type 0
Keeps h t = (h.opened ≡ true) × (h.table ≡ t)

kept-as : (a : Bool) (t t' : Table) (b : Bool) → a ≡ true → t ≡ t' → record { opened = a; table = t; refused = b } ≡ with_table b t'
kept-as a t t' b e d = rw (e, d) refl

-- ---- the letters of a line's command

data Letter (n : ℕ) : Type 0 where
  none : n ≡ 0 → Letter n
  O : n ≡ 79 → Letter n
  R : n ≡ 82 → Letter n
  C : n ≡ 67 → Letter n

open-letter : (f : ℕ → ℕ) (n : ℕ) → Letter (open_command f n).letter
unfolding open_command
open-letter f n = go (open_form f (n - 13) && (date_at f (3 + (n - 13))).there)
  where
    go : (b : Bool) → Letter (cond b (record { letter = 79; id = id_in_line f (n - 13); day = (date_at f (3 + (n - 13))).day }) other_line).letter
    go true = O refl
    go false = none refl

move-letter : (f : ℕ → ℕ) (n : ℕ) → Letter (move_command f n).letter
unfolding move_command move_form
move-letter f n = go (move_form f n && (date_at f 2).there) refl
  where
    found : (eqb (f 0) 82 ≡ true) ⊎ (eqb (f 0) 67 ≡ true) → Letter (f 0)
    found (inl e) = R (eqb-true (f 0) 82 e)
    found (inr e) = C (eqb-true (f 0) 67 e)

    go : (b : Bool) → (move_form f n && (date_at f 2).there) ≡ b
        → Letter (cond b (record { letter = f 0; id = replicate 4 0; day = (date_at f 2).day }) other_line).letter
    go true e =
        let form : move_form f n ≡ true = and-fst (move_form f n) (date_at f 2).there e in
        let letters : ((eqb (f 0) 82 || eqb (f 0) 67) && eqb (f 1) 32) ≡ true = and-snd (eqb n 12) ((eqb (f 0) 82 || eqb (f 0) 67) && eqb (f 1) 32) form in
        found (or-either (eqb (f 0) 82) (eqb (f 0) 67) (and-fst (eqb (f 0) 82 || eqb (f 0) 67) (eqb (f 1) 32) letters))
    go false e = none refl

letter-of : (line : List ℕ) → Letter (command_of line).letter
unfolding command_of command_at
letter-of line = go (eqb (get_or line 0 0) 79)
  where
    f : ℕ → ℕ
    f i = get_or line i 0

    go : (b : Bool) → Letter (cond b (open_command f (length line)) (move_command f (length line))).letter
    go true = open-letter f (length line)
    go false = move-letter f (length line)

-- ---- one line

-- a refused roll or close gives the same table back
refused-keeps : (t : Table) (asks : List Ask) (o : Outcome) → o.refusal ≡ 0 → ((answered t asks o).refusal ≡ 0 → ⊥) → (answered t asks o).table ≡ t
unfolding answered
refused-keeps t asks o z = go (eqb (first_no asks) 0)
  where
    go : (b : Bool) → ((cond b o (record { refusal = first_no asks; table = t; entered = 0; left = 0 })).refusal ≡ 0 → ⊥)
        → (cond b o (record { refusal = first_no asks; table = t; entered = 0; left = 0 })).table ≡ t
    go true n = absurd (n z)
    go false n = refl

-- so a call's table is kept, accepted or refused
call_kept : (r : Bool) (t : Table) (o : Outcome) → ((o.refusal ≡ 0 → ⊥) → o.table ≡ t)
    → Keeps (cond (eqb o.refusal 0) (with_table r o.table) (with_table true t)) o.table
call_kept r t o k = go (eqb o.refusal 0) refl
  where
    go : (b : Bool) → eqb o.refusal 0 ≡ b → Keeps (cond b (with_table r o.table) (with_table true t)) o.table
    go true e = (refl, refl)
    go false e = (refl, sym (k (eqb-false o.refusal 0 e)))

-- the table after a line that is no accepted O
abbrev next : Table → Command → Table
next t c = cond (is_move c) (table_call t (move_of c)).table t

module _ (file : List ℕ) (b : Bool) (t : Table) (c : Command) where
  after-other : c.letter ≡ 0 → Keeps (kept_after (open_call file) (with_table b t) c) (next t c)
  unfolding kept_after is_move
  after-other e = rw e (refl, refl)

  after-refused : c.letter ≡ 79 → is_opening file c ≡ false → Keeps (kept_after (open_call file) (with_table b t) c) (next t c)
  unfolding kept_after outcome_of is_move is_opening
  after-refused e n =
      let r : eqb (open_call file c.id c.day).refusal 0 ≡ false = rw e at n in
      rw (e, r) (refl, refl)

  after-roll : c.letter ≡ 82 → Keeps (kept_after (open_call file) (with_table b t) c) (next t c)
  unfolding kept_after outcome_of is_move move_of roll_call moved
  after-roll e = rw e (call_kept b t (roll_call t c.day) (refused-keeps t (roll_asks t c.day) (moved t t.calendar c.day) refl))

  after-close : c.letter ≡ 67 → Keeps (kept_after (open_call file) (with_table b t) c) (next t c)
  unfolding kept_after outcome_of is_move move_of close_call moved
  after-close e =
      rw e (call_kept b t (close_call t c.day) (refused-keeps t (close_asks t c.day) (moved t (close_day t.calendar c.day) t.date) refl))

  after_line : Letter c.letter → is_opening file c ≡ false → Keeps (kept_after (open_call file) (with_table b t) c) (next t c)
  after_line (none e) n = after-other e
  after_line (O e) n = after-refused e n
  after_line (R e) n = after-roll e
  after_line (C e) n = after-close e

-- an accepted O, whatever was kept before
module _ (file : List ℕ) (h : Kept) (c : Command) where
  after-accepted : c.letter ≡ 79 → eqb (open_call file c.id c.day).refusal 0 ≡ true
      → Keeps (kept_after (open_call file) h c) (open_call file c.id c.day).table
  unfolding kept_after outcome_of
  after-accepted e r = rw (e, r) (refl, refl)

  after-opening : is_opening file c ≡ true
      → ((open_call file c.id c.day).refusal ≡ 0) × Keeps (kept_after (open_call file) h c) (open_call file c.id c.day).table
  unfolding is_opening
  after-opening m =
      let b : (eqb c.letter 79 ≡ true) × (eqb (open_call file c.id c.day).refusal 0 ≡ true) =
      both (eqb c.letter 79) (eqb (open_call file c.id c.day).refusal 0) m in
      (eqb-true (open_call file c.id c.day).refusal 0 b.1, after-accepted (eqb-true c.letter 79 b.0) b.1)

-- ---- all lines

-- one call, or none
run-next : (t : Table) (b : Bool) (m : Call) (ms : List Call) → table_run (cond b (table_call t m).table t) ms ≡ table_run t (cond b (m ∷ ms) ms)
unfolding table_run
run-next t true m ms = refl
run-next t false m ms = refl

-- lines with no accepted O among them, on a table
after-lines : (file : List ℕ) (h : Kept) (t : Table) (lines : List (List ℕ)) → Keeps h t → no_opening file lines ≡ true
    → Keeps (kept_run (open_call file) h lines) (table_run t (moves_of lines))
unfolding kept_run no_opening moves_of table_run
after-lines file h t [] k m = k
after-lines file h t (line ∷ lines) k m =
    go (both (not (is_opening file c)) (no_opening file lines) m) (after-lines file (kept_after (open_call file) h c) (next t c) lines)
  where
    c : Command
    c = command_of line

    whole : h ≡ with_table h.refused t
    whole = kept-as h.opened h.table t h.refused k.0 k.1

    go : (not (is_opening file c) ≡ true) × (no_opening file lines ≡ true)
        → (Keeps (kept_after (open_call file) h c) (next t c) → no_opening file lines ≡ true
        → Keeps (kept_run (open_call file) (kept_after (open_call file) h c) lines) (table_run (next t c) (moves_of lines)))
        → Keeps (kept_run (open_call file) (kept_after (open_call file) h c) lines) (table_run t (cond (is_move c) (move_of c ∷ moves_of lines) (moves_of lines)))
    go b more =
        let one : Keeps (kept_after (open_call file) (with_table h.refused t) c) (next t c) =
        after_line file h.refused t c (letter-of line) (not-true (is_opening file c) b.0) in
        let all = more (subst (λ (x : Kept). Keeps (kept_after (open_call file) x c) (next t c)) (sym whole) one) b.1 in
        (all.0, all.1 ∙ run-next t (is_move c) (move_of c) (moves_of lines))

-- what is kept after a session, from its last accepted O on: the table of demand 3, for the R and C after it
pub session-history : (file : List ℕ) (h : Kept) (earlier : List (List ℕ)) (line : List ℕ) (lines : List (List ℕ)) → is_opening file (command_of line) ≡ true
    → no_opening file lines ≡ true
    → KeptHistory file (command_of line) (moves_of lines) (kept_run (open_call file) h (earlier ++ (line ∷ lines)))
unfolding kept_run
session-history file h earlier line lines o m =
    rw (kept_append (open_call file) h earlier (line ∷ lines))
    (record { opened = is.0; table = is.1 ∙ ap (λ (t : Table). table_run t (moves_of lines)) (all []).opened; demand = all })
  where
    c : Command
    c = command_of line

    a : ((open_call file c.id c.day).refusal ≡ 0)
        × Keeps (kept_after (open_call file) (kept_run (open_call file) h earlier) c) (open_call file c.id c.day).table
    a = after-opening file (kept_run (open_call file) h earlier) c o

    is : Keeps (kept_run (open_call file) (kept_after (open_call file) (kept_run (open_call file) h earlier) c) lines)
        (table_run (open_call file c.id c.day).table (moves_of lines))
    is = after-lines file (kept_after (open_call file) (kept_run (open_call file) h earlier) c) (open_call file c.id c.day).table lines a.1 m

    all : (more : List Call) → FromFile file c.id c.day (moves_of lines) more
    all more = from-file file c.id c.day a.0 (moves_of lines) more

-- the same of an input that the program is given: what it holds at the end, in the form that the contract of a part speaks of
pub input-history : (file input : List ℕ) (earlier : List (List ℕ)) (line : List ℕ) (lines : List (List ℕ)) → lines_from [] input ≡ earlier ++ (line ∷ lines)
    → is_opening file (command_of line) ≡ true → no_opening file lines ≡ true
    → KeptHistory file (command_of line) (moves_of lines) (rest_kept (open_call file) nothing_kept empty_line input)
input-history file input earlier line lines e o m = rw (whole-kept (open_call file) input, e) (session-history file nothing_kept earlier line lines o m)
