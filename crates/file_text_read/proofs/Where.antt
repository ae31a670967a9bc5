-- Of a text whose lines are all those of a list, the faults that are kept are those of its first lines at fault.
-- Assumes nothing.
use mathlib.Core.Path.{◌≡◌, refl, sym, ap, ◌∙◌}
use mathlib.Core.Bool.{Bool, true, false, ◌||◌, cond}
use mathlib.Core.List.{List, [], ◌∷◌}
use Prim.Native.Nat.{ℕ}
use lib.Dec.{eqb}
use borrow.Author.Tests.{eq-eqb, ne_eqb, eqb-true, eqb-false}
use Rattle.questions.proofs.Bools.{clash}
use Rattle.session_lines.specs.CommandLines.{lines_from}
use Rattle.file_text_lines.specs.declared.Entry.{Entry}
use Rattle.file_text_stripped.specs.Said.{line_said}
use Rattle.file_text_faults.specs.declared.Faults.{Faults}
use Rattle.file_text_faults.specs.Faults.{no_faults, faults_after, faults_over, fault_kept, Numbered}
use Rattle.file_text_faults.proofs.First.{comment-stays, all_numbered, first-5, first-7, first-8}
use Rattle.file_text_read.specs.Lists.{Content, no_content, entry_fits, calendar_after_entry, records_after, next_line, line_counted, entry_taken, line_taken}
use Rattle.file_text_read.specs.Lists.{lines_taken, numbered_from, numbered_lines, content_of, SaysWhere}
use Rattle.file_text_read.proofs.ListLines.{next-some}

-- each line of a text has a number
numbered-all : (n : ℕ) (lines : List (List ℕ)) → all_numbered (numbered_from n lines)
unfolding all_numbered numbered_from
numbered-all n [] = tt
numbered-all n (line ∷ lines) = ((λ e. clash (eq-eqb (next_line n) 0 e) (next-some n)), numbered-all (next_line n) lines)

-- after a bad line nothing more is taken
bad-stays : (room : ℕ) (c : Content) (ls : List Numbered) → (c.bad ≡ 0 → ⊥) → lines_taken room c ls ≡ c
unfolding lines_taken line_taken
bad-stays room c [] n = refl
bad-stays room c (l ∷ ls) n = rw (ne_eqb c.bad 0 n) (bad-stays room c ls n)

-- what one line changes where it is one of a list's
record OneMore (c next : Content) (e : Entry) : Type 0 where
  lines : next.lines ≡ next_line c.lines
  faults : next.faults ≡ faults_after c.faults (next_line c.lines) e

entry_more : (room : ℕ) (c : Content) (e : Entry) → (entry_taken room c e).bad ≡ 0 → OneMore c (entry_taken room c e) e
unfolding entry_taken
entry_more room c e = go (entry_fits c.begun c.calendar.cover c.seeded e)
  where
    good : Content
    good =
        record {
          begun = true;
          calendar = calendar_after_entry c.calendar e;
          seeded = c.seeded || eqb e.letter 83;
          records = records_after room c.records e;
          faults = faults_after c.faults (next_line c.lines) e;
          lines = next_line c.lines;
          bad = 0;
        }

    go : (b : Bool) → (cond b good (line_counted c (next_line c.lines))).bad ≡ 0 → OneMore c (cond b good (line_counted c (next_line c.lines))) e
    go true h = record { lines = refl; faults = refl }
    go false h = clash (eq-eqb (next_line c.lines) 0 h) (next-some c.lines)

line-more : (room : ℕ) (c : Content) (e : Entry) → c.bad ≡ 0 → (line_taken room c e).bad ≡ 0 → OneMore c (line_taken room c e) e
unfolding line_taken
line-more room c e z = rw (eq-eqb c.bad 0 z) (go (eqb e.letter 35) refl)
  where
    go : (b : Bool) → eqb e.letter 35 ≡ b → (cond b (line_counted c 0) (entry_taken room c e)).bad ≡ 0
        → OneMore c (cond b (line_counted c 0) (entry_taken room c e)) e
    go true q h = record { lines = refl; faults = sym (comment-stays e (eqb-true e.letter 35 q) c.faults (next_line c.lines)) }
    go false q h = entry_more room c e h

-- the faults that are kept after some lines
over : (room : ℕ) (c : Content) (lines : List (List ℕ)) (n : ℕ) → c.lines ≡ n → c.bad ≡ 0 → (lines_taken room c (numbered_from n lines)).bad ≡ 0
    → (lines_taken room c (numbered_from n lines)).faults ≡ faults_over c.faults (numbered_from n lines)
unfolding lines_taken numbered_from faults_over
over room c [] n q z h = refl
over room c (line ∷ lines) n q z h = go (eqb next.bad 0) refl (λ k m. over room next lines (next_line n) k m h)
  where
    e : Entry
    e = line_said (eqb n 0) line

    next : Content
    next = line_taken room c e

    rest : List Numbered
    rest = numbered_from (next_line n) lines

    go : (b : Bool) → eqb next.bad 0 ≡ b
        → (next.lines ≡ next_line n → next.bad ≡ 0 → (lines_taken room next rest).faults ≡ faults_over next.faults rest)
        → (lines_taken room next rest).faults ≡ faults_over (faults_after c.faults (next_line n) e) rest
    go true m ih =
        let o : OneMore c next e = line-more room c e z (eqb-true next.bad 0 m) in
        ih (o.lines ∙ ap next_line q) (eqb-true next.bad 0 m) ∙
        ap (λ (s : Faults). faults_over s rest) (o.faults ∙ ap (λ (k : ℕ). faults_after c.faults (next_line k) e) q)
    go false m ih = absurd (eqb-false next.bad 0 m (sym (ap (λ (x : Content). x.bad) (bad-stays room next rest (eqb-false next.bad 0 m))) ∙ h))

kept-is : (room : ℕ) (input : List ℕ) → (content_of room input).bad ≡ 0 → (content_of room input).faults ≡ faults_over no_faults (numbered_lines input)
unfolding content_of numbered_lines no_content
kept-is room input h = over room no_content (lines_from [] input) 0 refl refl h

all-numbered : (input : List ℕ) → all_numbered (numbered_lines input)
unfolding numbered_lines
all-numbered input = numbered-all 0 (lines_from [] input)

-- the rule for 'first'
pub says-where : (room : ℕ) (input : List ℕ) → (content_of room input).bad ≡ 0 → SaysWhere room input
says-where room input h =
    record {
      line5 = ap (λ (s : Faults). fault_kept s 5) (kept-is room input h) ∙ first-5 (numbered_lines input) (all-numbered input);
      line7 = ap (λ (s : Faults). fault_kept s 7) (kept-is room input h) ∙ first-7 (numbered_lines input) (all-numbered input);
      line8 = ap (λ (s : Faults). fault_kept s 8) (kept-is room input h) ∙ first-8 (numbered_lines input) (all-numbered input);
    }
