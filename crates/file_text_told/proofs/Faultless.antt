-- Of a text with no line at fault for a question, what each line keeps is kept to the end.
-- Assumes nothing.
use mathlib.Core.Path.{◌≡◌, refl, sym, ap, ◌∙◌}
use mathlib.Core.Bool.{Bool, true, false, ◌||◌, cond}
use mathlib.Core.List.{List, [], ◌∷◌}
use Prim.Native.Nat.{ℕ}
use lib.Dec.{eqb}
use lib.ListN.{length}
use borrow.Author.Tests.{eq-eqb, ne_eqb, eqb-true, eqb-false}
use Rattle.questions.proofs.Bools.{clash}
use Rattle.calendar.specs.declared.Calendar.{Calendar}
use Rattle.file_records.specs.Records.{four_bytes}
use Rattle.file_text_lines.specs.declared.Entry.{Entry}
use Rattle.file_text_stripped.specs.Said.{line_said}
use Rattle.file_text_faults.specs.Faults.{at_fault, id_after, Numbered, fault_from, faults_after}
use Rattle.file_text_read.specs.Lists.{Content, entry_fits, calendar_after_entry, records_after, next_line, line_counted, entry_taken, line_taken, lines_taken}
use Rattle.file_text_read.specs.Lists.{numbered_from}
use Rattle.file_text_read.proofs.ListLines.{next-some}
use Rattle.file_text_told.proofs.RecordBytes.{said-long}

-- after a bad line nothing more is taken
bad-stays : (room : ℕ) (c : Content) (ls : List Numbered) → (c.bad ≡ 0 → ⊥) → lines_taken room c ls ≡ c
unfolding lines_taken line_taken
bad-stays room c [] n = refl
bad-stays room c (l ∷ ls) n = rw (ne_eqb c.bad 0 n) (bad-stays room c ls n)

same_id : (before : List ℕ) (e : Entry) → e.letter ≡ 35 → id_after before e ≡ before
unfolding id_after
same_id before e q = rw q refl

-- what a line that fits and is not at fault keeps: of the id of the last product, the calendar, whether it was a seed's, and the records
abbrev pub Keeps : ℕ → ℕ → (List ℕ → Calendar → Bool → List ℕ → Type 0) → Type 0
Keeps room question P =
    (begun : Bool) (before : List ℕ) (cal : Calendar) (seeded : Bool) (records : List ℕ) (e : Entry) → length e.«record» ≡ 32
    → entry_fits begun cal.cover seeded e ≡ true → at_fault question before e ≡ false → P before cal seeded records
    → P (id_after before e) (calendar_after_entry cal e) (seeded || eqb e.letter 83) (records_after room records e)

module _ (room question : ℕ) (P : List ℕ → Calendar → Bool → List ℕ → Type 0) (step : Keeps room question P) where
  abbrev Of : List ℕ → Content → Type 0
  Of before c = P before c.calendar c.seeded c.records

  -- after the last line
  pub record KeptToEnd (c : Content) : Type 0 where
    -- the id of the last product before the end
    pub before : List ℕ
    -- of that id and of what is then said, the property holds
    pub holds : P before c.calendar c.seeded c.records

  module _ (before : List ℕ) (c : Content) (e : Entry) (l : length e.«record» ≡ 32) (a : at_fault question before e ≡ false) (p : Of before c) where
    entry-keeps : (entry_taken room c e).bad ≡ 0 → Of (id_after before e) (entry_taken room c e)
    unfolding entry_taken
    entry-keeps = go (entry_fits c.begun c.calendar.cover c.seeded e) refl
      where
        good : Content
        good =
            record {
              begun = true;
              calendar = calendar_after_entry c.calendar e;
              seeded = c.seeded || eqb e.letter 83;
              records = records_after room c.records e;
              faults = faults_after c.faults (next_line c.lines) e;
              lines = next_line c.lines;
              bad = 0;
            }

        go : (b : Bool) → entry_fits c.begun c.calendar.cover c.seeded e ≡ b → (cond b good (line_counted c (next_line c.lines))).bad ≡ 0
            → Of (id_after before e) (cond b good (line_counted c (next_line c.lines)))
        go true f h = step c.begun before c.calendar c.seeded c.records e l f a p
        go false f h = clash (eq-eqb (next_line c.lines) 0 h) (next-some c.lines)

    line-keeps : c.bad ≡ 0 → (line_taken room c e).bad ≡ 0 → Of (id_after before e) (line_taken room c e)
    unfolding line_taken
    line-keeps z = rw (eq-eqb c.bad 0 z) (go (eqb e.letter 35) refl)
      where
        go : (b : Bool) → eqb e.letter 35 ≡ b → (cond b (line_counted c 0) (entry_taken room c e)).bad ≡ 0
            → Of (id_after before e) (cond b (line_counted c 0) (entry_taken room c e))
        go true q h = rw (same_id before e (eqb-true e.letter 35 q)) p
        go false q h = entry-keeps h

  -- what each line keeps holds after all lines, where none is bad and none is at fault for the question
  pub lines_keep : (before : List ℕ) (c : Content) (lines : List (List ℕ)) (n : ℕ) → Of before c → c.bad ≡ 0
      → (lines_taken room c (numbered_from n lines)).bad ≡ 0 → (fault_from question before (numbered_from n lines)).line ≡ 0
      → KeptToEnd (lines_taken room c (numbered_from n lines))
  unfolding lines_taken numbered_from fault_from
  lines_keep before c [] n p z h f = record { before = before; holds = p }
  lines_keep before c (line ∷ lines) n p z h f =
      go (at_fault question before e) refl f (λ b o m g. lines_keep b next lines (next_line n) o m h g)
    where
      e : Entry
      e = line_said (eqb n 0) line

      next : Content
      next = line_taken room c e

      rest : List Numbered
      rest = numbered_from (next_line n) lines

      stays-good : next.bad ≡ 0
      stays-good = at-bad (eqb next.bad 0) refl
        where
          at-bad : (b : Bool) → eqb next.bad 0 ≡ b → next.bad ≡ 0
          at-bad true m = eqb-true next.bad 0 m
          at-bad false m =
              absurd (eqb-false next.bad 0 m (sym (ap (λ (x : Content). x.bad) (bad-stays room next rest (eqb-false next.bad 0 m))) ∙ h))

      go : (b : Bool) → at_fault question before e ≡ b
          → (cond b (record { line = next_line n; id = four_bytes e.«record» 0 }) (fault_from question (id_after before e) rest)).line ≡ 0
          → ((b : List ℕ) → Of b next → next.bad ≡ 0 → (fault_from question b rest).line ≡ 0 → KeptToEnd (lines_taken room next rest))
          → KeptToEnd (lines_taken room next rest)
      go true a f ih = clash (eq-eqb (next_line n) 0 f) (next-some n)
      go false a f ih = ih (id_after before e) (line-keeps before c e (said-long (eqb n 0) line) a p z stays-good) stays-good f
