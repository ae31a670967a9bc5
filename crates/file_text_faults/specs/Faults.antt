-- Where a master file's text is at fault: with 5, 7 and 8 the first line, with 6 the first day
-- (docs/OPERATIONS.md, The text of a master file, from which the quotations are).
-- Assumes nothing.
use Rattle.std.specs.Prelude.{ℕ, ◌-◌, Bool, not, ◌&&◌, ◌||◌, cond, List, [], ◌∷◌, eqb, leb}
use Rattle.questions.specs.Search.{first_from}
use Rattle.days.specs.Gregorian.{weekday_of}
use Rattle.calendar.specs.declared.Calendar.{Calendar}
use Rattle.calendar.specs.Trading.{cover_start, cover_end, some_trades}
use Rattle.file_records.specs.Records.{four_bytes, record_right}
use Rattle.file_ids.specs.Ids.{id_rises}
use Rattle.session_lines.specs.CommandLines.{no_id}
use Rattle.file_text_lines.specs.declared.Entry.{Entry}
use Rattle.file_text_faults.specs.declared.Fault.{Fault}
use Rattle.file_text_faults.specs.declared.Faults.{Faults}

-- 'with 5 .. a `C` or `X` whose day is a Saturday or a Sunday':
-- the letters are 67 and 88, the weekdays 5 and 6
unfoldable pub names_weekend : Entry → Bool
names_weekend e = (eqb e.letter 67 || eqb e.letter 88) && leb 5 (weekday_of e.day)

-- 'with 7 a product that is not as stated':
-- a `P`, 80
unfoldable pub names_wrong : Entry → Bool
names_wrong e = eqb e.letter 80 && not (record_right e.«record»)

-- 'with 8 a product whose id is not greater than that of the product before it'
unfoldable pub names_earlier : List ℕ → Entry → Bool
names_earlier before e = eqb e.letter 80 && not (id_rises before (four_bytes e.«record» 0))

-- whether a line is at fault for a question, after a product with an id
unfoldable pub at_fault : ℕ → List ℕ → Entry → Bool
at_fault question before e =
    cond (eqb question 5) (names_weekend e) (cond (eqb question 7) (names_wrong e) (eqb question 8 && names_earlier before e))

-- the id of the last product so far
unfoldable pub id_after : List ℕ → Entry → List ℕ
id_after before e = cond (eqb e.letter 80) (four_bytes e.«record» 0) before

-- no line
abbrev pub no_fault : Fault
no_fault = record { line = 0; id = no_id }

-- a line by its number and what it says
pub record Numbered : Type 0 where
  pub line : ℕ
  pub entry : Entry

-- 'the number of the first line at fault and, for a product, its id':
-- of some lines after a product with an id
unfoldable pub fault_from : ℕ → List ℕ → List Numbered → Fault
fault_from question before [] = no_fault
fault_from question before (l ∷ ls) =
    cond (at_fault question before l.entry) (record { line = l.line; id = four_bytes l.entry.«record» 0 })
    (fault_from question (id_after before l.entry) ls)

-- of all lines
unfoldable pub first_fault : ℕ → List Numbered → Fault
first_fault question ls = fault_from question no_id ls

-- only the code needs it: the fault that is kept for a question after a line more
unfoldable pub fault_after : ℕ → Fault → List ℕ → ℕ → Entry → Fault
fault_after question f before line e =
    cond (eqb f.line 0 && at_fault question before e) (record { line = line; id = four_bytes e.«record» 0 }) f

-- only the code needs it: before the first line
unfoldable pub no_faults : Faults
no_faults = record { last = no_id; five = no_fault; seven = no_fault; eight = no_fault }

-- only the code needs it: the faults that are kept after a line more
unfoldable pub faults_after : Faults → ℕ → Entry → Faults
faults_after s line e =
    record {
      last = id_after s.last e;
      five = fault_after 5 s.five s.last line e;
      seven = fault_after 7 s.seven s.last line e;
      eight = fault_after 8 s.eight s.last line e;
    }

-- only the code needs it: after some lines more
unfoldable pub faults_over : Faults → List Numbered → Faults
faults_over s [] = s
faults_over s (l ∷ ls) = faults_over (faults_after s l.line l.entry) ls

-- only the code needs it: the fault that is kept for a question; none for another than 5, 7 and 8
unfoldable pub fault_kept : Faults → ℕ → Fault
fault_kept s question =
    cond (eqb question 5) s.five (cond (eqb question 7) s.seven (cond (eqb question 8) s.eight no_fault))

-- 'with 6 the first day of a run without trading':
-- of seven days in the cover; 36,525 where each run of them holds a trading day
unfoldable pub first_idle : Calendar → ℕ
first_idle cal =
    first_from (λ d. not (some_trades cal d 7)) 36525 (cover_end cal.cover - 6 - cover_start cal.cover) (cover_start cal.cover)
