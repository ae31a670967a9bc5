-- A line of a master file's text as it stands there, and what it says (docs/OPERATIONS.md, The text of a master file, from which the quotations are).
-- Assumes nothing.
use Rattle.std.specs.Prelude.{ℕ, Bool, cond, List, take, replicate}
use Rattle.file_text_lines.specs.declared.Entry.{Entry}
use Rattle.file_text_lines.specs.Entries.{entry_of}
use Rattle.delivery_lines.specs.NoticeLines.{trimmed, unmarked, says_nothing}
use Rattle.delivery_items.specs.declared.LongLine.{LongLine}

-- a line that says nothing: its letter is #, 35
abbrev pub nothing_entry : Entry
nothing_entry =
    record { letter = 35; cover = record { first_year = 0; years = 0 }; seed = 0; day = 0; «record» = replicate 32 0 }

-- 'A line that is then empty, or whose first byte is `#`, says nothing'
unfoldable pub text_said : List ℕ → Entry
text_said text = cond (says_nothing text) nothing_entry (entry_of text)

-- 'nor does one byte order mark before the first line'
unfoldable pub bare_text : Bool → List ℕ → List ℕ
bare_text first text = cond first (unmarked text) text

-- 'Spaces, tabs and carriage returns at a line's end play no part':
-- what a line says, which is the text's first or another
unfoldable pub line_said : Bool → List ℕ → Entry
line_said first line = text_said (bare_text first (trimmed line))

-- a line as the program holds it, without the blanks at its end: all of its first 255 bytes where a byte after them is no blank
unfoldable pub shown_text : LongLine → List ℕ
shown_text l = cond l.over (take l.length l.bytes) (trimmed (take l.length l.bytes))

-- what it says; of an empty line that was fed a line of any length this is `line_said` (proofs, Held: `any-length`)
unfoldable pub held_said : Bool → LongLine → Entry
held_said first l = text_said (bare_text first (shown_text l))
