-- The input of the program `confirm`, line by line: an open, any rolls and closes, then the lines of a vendor's listing,
-- each the name of a maturity, a space and its last trading day (02, note 12; docs/DECISIONS.md, Listings from elsewhere).
-- Assumes nothing.
use Rattle.std.specs.Prelude.{ℕ, true, false, not, ◌||◌, ◌&&◌, cond, List, [], ◌∷◌, ◌++◌, eqb, length, get_or, take, drop, Option, Some, None, is_none}
use Rattle.days.specs.Dates.{month_of}
use Rattle.session_lines.specs.declared.Command.{Command}
use Rattle.session_lines.specs.declared.Line.{Line}
use Rattle.session_lines.specs.CommandLines.{command_of, empty_line, extended}
use Rattle.product.specs.declared.Kind.{Kind}
use Rattle.product.specs.Fields.{is_weekly}
use Rattle.table.specs.declared.Outcome.{Outcome}
use Rattle.table.specs.Table.{zero_table, open_call, roll_call, close_call}
use Rattle.confirm_lines.specs.declared.ListingEntry.{ListingEntry}
use Rattle.confirm_lines.specs.declared.ListingSoFar.{ListingSoFar}

-- only the code needs it: a line of `R` and a space, 82 and 32
unfoldable pub roll_begun : Line
roll_begun = extended (extended empty_line 82) 32

-- 'a date is year, month, day in 4, 2 and 2 digits joined by hyphens' (01):
-- what makes a roll of `R` and a space, 82 and 32, before it; without a date there is no letter
unfoldable pub date_in : List ℕ → Command
date_in bytes = command_of (82 ∷ 32 ∷ bytes)

-- a month as `terms` prints it, `2008-03`: what makes a date of `-01` after it
unfoldable pub month_in : List ℕ → Command
month_in bytes = date_in (bytes ++ (45 ∷ 48 ∷ 49 ∷ []))

-- another line has no entry
abbrev pub no_entry : Option ListingEntry
no_entry = None

-- the key of a name, by the letter of its date, and the last trading day after it; both dates must be there
unfoldable pub entry_from : ℕ → ℕ → Command → Option ListingEntry
entry_from name key last =
    cond (eqb name 0 || eqb last.letter 0) no_entry (Some (record { key = key; day = last.day }))

-- '2008-03 2008-03-20':
-- a month, a space and a day, 18 characters
unfoldable pub month_entry : List ℕ → Option ListingEntry
month_entry line =
    cond (eqb (length line) 18 && eqb (get_or line 7 0) 32)
    (entry_from (month_in (take 7 line)).letter (month_of (month_in (take 7 line)).day) (date_in (take 10 (drop 8 line)))) no_entry

-- '2008-03-07 2008-03-07':
-- a weekly maturity's Friday by its date, a space and a day, 21 characters
unfoldable pub friday_entry : List ℕ → Option ListingEntry
friday_entry line =
    cond (eqb (length line) 21 && eqb (get_or line 10 0) 32)
    (entry_from (date_in (take 10 line)).letter (date_in (take 10 line)).day (date_in (take 10 (drop 11 line)))) no_entry

-- the entry of a line, with a month; for kind 5 with a Friday
unfoldable pub entry_in : Kind → List ℕ → Option ListingEntry
entry_in kind line = cond (is_weekly kind) (friday_entry line) (month_entry line)

-- before the first line of an input
unfoldable pub no_listing : ListingSoFar
no_listing = record { bad = false; refusal = 0; opened = false; begun = false; table = zero_table; entry = no_entry }

-- after a call, with its refusal, 0 where it is accepted
unfoldable pub after_call : Outcome → ListingSoFar
after_call o = record { bad = false; refusal = o.refusal; opened = true; begun = false; table = o.table; entry = no_entry }

-- after a line of the listing; another line is bad
unfoldable pub after_entry : ListingSoFar → Option ListingEntry → ListingSoFar
after_entry s entry =
    record { bad = is_none entry; refusal = s.refusal; opened = s.opened; begun = true; table = s.table; entry = entry }

-- the first line opens the table: O, 79; any other is bad
unfoldable pub read_first : List ℕ → ListingSoFar → Command → ListingSoFar
read_first file s c = cond (eqb c.letter 79) (after_call (open_call file c.id c.day)) (after_entry s no_entry)

-- then come any rolls, R, 82, and closes, C, 67, then the lines of the listing
unfoldable pub read_listing_line : List ℕ → ListingSoFar → List ℕ → ListingSoFar
read_listing_line file s line =
    let c = command_of line in
    cond s.opened
    (cond (not s.begun && eqb c.letter 82) (after_call (roll_call s.table c.day))
    (cond (not s.begun && eqb c.letter 67) (after_call (close_call s.table c.day))
    (after_entry s (entry_in s.table.product.kind line))))
    (read_first file s c)
