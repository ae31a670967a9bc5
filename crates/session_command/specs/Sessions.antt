-- What is answered to a command, and the table that is kept (01, March 2008 and its neighbours, 'The program `terms`').
-- Assumes nothing.
use Rattle.std.specs.Prelude.{ℕ, ◌≡◌, Bool, true, false, not, ◌&&◌, ◌||◌, cond, List, [], ◌∷◌, ◌++◌, eqb}
use Rattle.table.specs.declared.Table.{Table}
use Rattle.table.specs.declared.Outcome.{Outcome}
use Rattle.file_calendar.specs.declared.FileCalendar.{FileCalendar}
use Rattle.table.specs.Table.{sound, calendar_sound, roll_call, close_call, zero_table, open_call}
use Rattle.session_text.specs.TermsText.{outcome_text, refusal_text, bad_text}
use Rattle.session_lines.specs.declared.Command.{Command}
use Rattle.session_lines.specs.declared.Line.{Line}
use Rattle.session_lines.specs.CommandLines.{command_of, line_command, empty_line, extended, lines_from}
use Rattle.session_lines.specs.InputRest.{rest_over}
use Rattle.session_command.specs.declared.Kept.{Kept}

-- before an accepted O there is no table
unfoldable pub nothing_kept : Kept
nothing_kept = record { opened = false; table = zero_table; refused = false }

-- '`BAD` for another line, or R or C before an accepted O'
abbrev pub bad : Bool → ℕ → Bool
bad opened letter = eqb letter 0 || (not (eqb letter 79) && not opened)

-- the call of a command: O, 79, opens by what an id and a date give, R, 82, rolls, C closes
unfoldable pub outcome_of : (List ℕ → ℕ → Outcome) → Table → Command → Outcome
outcome_of opening t c =
    cond (eqb c.letter 79) (opening c.id c.day)
    (cond (eqb c.letter 82) (roll_call t c.day) (close_call t c.day))

-- 'It prints the call's letter ..; or `NO` and the number ..; or `BAD`'
unfoldable pub answer_text : (List ℕ → ℕ → Outcome) → Kept → Command → List ℕ
answer_text opening h c =
    let o = outcome_of opening h.table c in
    cond (bad h.opened c.letter) bad_text (cond (eqb o.refusal 0) (outcome_text c.letter o) (refusal_text o.refusal))

-- what is kept after an answer `NO n` or `BAD`
abbrev pub refused_kept : Kept → Kept
refused_kept h = record { opened = h.opened; table = h.table; refused = true }

-- '.. keeping the table of the last accepted call', and whether an answer was `NO n` or `BAD`
unfoldable pub kept_after : (List ℕ → ℕ → Outcome) → Kept → Command → Kept
kept_after opening h c =
    let o = outcome_of opening h.table c in
    cond (bad h.opened c.letter) (refused_kept h)
    (cond (eqb o.refusal 0) (record { opened = true; table = o.table; refused = h.refused }) (refused_kept h))

-- what is printed for some lines, one after the other
unfoldable pub session_text : (List ℕ → ℕ → Outcome) → Kept → List (List ℕ) → List ℕ
session_text opening h [] = []
session_text opening h (line ∷ lines) =
    answer_text opening h (command_of line) ++ session_text opening (kept_after opening h (command_of line)) lines

-- what is kept after some lines, one after the other
unfoldable pub kept_run : (List ℕ → ℕ → Outcome) → Kept → List (List ℕ) → Kept
kept_run opening h [] = h
kept_run opening h (line ∷ lines) = kept_run opening (kept_after opening h (command_of line)) lines

-- 'The program `terms` reads `master.bin` and commands from standard input':
-- all that it prints, its tables opened from the file
unfoldable pub terms_text : List ℕ → List ℕ → List ℕ
terms_text master input = session_text (open_call master) nothing_kept (lines_from [] input)

-- '1 something was refused, bad or differs': whether an answer is `NO n` or `BAD`
unfoldable pub terms_refused : List ℕ → List ℕ → Bool
terms_refused master input = (kept_run (open_call master) nothing_kept (lines_from [] input)).refused

-- what is still printed for the rest of an input, with a table kept and a line begun
unfoldable pub rest_text : (List ℕ → ℕ → Outcome) → Kept → Line → List ℕ → List ℕ
rest_text opening =
    rest_over empty_line extended (λ l. l.length) (λ h. [])
    (λ h l next. answer_text opening h (line_command l) ++ next (kept_after opening h (line_command l)))

-- what is kept after the rest of an input, with a table kept and a line begun
unfoldable pub rest_kept : (List ℕ → ℕ → Outcome) → Kept → Line → List ℕ → Kept
rest_kept opening = rest_over empty_line extended (λ l. l.length) (λ h. h) (λ h l next. next (kept_after opening h (line_command l)))

-- what is known beforehand, so that it need not be asked again: the answer to question 10 of a table, and what it says of the calendar of a verdict
pub record Known (judged : FileCalendar) (right : Bool) (t : Table) (ten : Bool) : Type 0 where
  pub calendar : right ≡ calendar_sound judged.calendar
  pub tenth : ten ≡ sound t
