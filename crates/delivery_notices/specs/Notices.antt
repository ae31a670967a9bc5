-- A text of notices, `notices.txt`: the opening and the calls that it says, each with the number of its line
-- (docs/DELIVERY.md, The state, Form, from which the quotations are).
-- Assumes nothing.
use Rattle.std.specs.Prelude.{ℕ, ◌+◌, Bool, ◌&&◌, cond, List, [], ◌∷◌, ◌++◌, eqb, ltb, length, take}
use Rattle.history.specs.Book.{Call}
use Rattle.session_lines.specs.CommandLines.{lines_from}
use Rattle.delivery_lines.specs.NoticeLines.{Said, nothing, bad, opening, notice, said_by, unmarked}

-- 'what the exchange and the calendar brought since',
-- a notice: the number of its line from 1, its call, and the id of a measure's product
pub record Notice : Type 0 where
  pub line : ℕ
  pub call : Call
  pub id : List ℕ

-- what the lines so far say: the number of the line of the `O`, 0 before it, and its date; the notices, 'oldest first';
-- how many lines there were up to the first bad one; and the number of that one, 0 where there is none
pub record NoticesTold : Type 0 where
  pub opened : ℕ
  pub date : ℕ
  pub notices : List Notice
  pub lines : ℕ
  pub bad : ℕ

-- before the first line
unfoldable pub nothing_told : NoticesTold
nothing_told = record { opened = 0; date = 0; notices = []; lines = 0; bad = 0 }

-- 'The first bad line is told .. K its number from 1':
-- after a bad line
unfoldable pub bad_told : NoticesTold → NoticesTold
bad_told t = record { opened = t.opened; date = t.date; notices = t.notices; lines = t.lines + 1; bad = t.lines + 1 }

-- after a line that is not bad
abbrev pub good_told : NoticesTold → ℕ → ℕ → List Notice → NoticesTold
good_told t opened date notices = record { opened = opened; date = date; notices = notices; lines = t.lines + 1; bad = 0 }

-- 'The first line that says something is the only `O`':
-- after a line that says something or nothing
unfoldable pub said_told : NoticesTold → Said → NoticesTold
said_told t nothing = good_told t t.opened t.date t.notices
said_told t bad = bad_told t
said_told t (opening day) = cond (eqb t.opened 0) (good_told t (t.lines + 1) day t.notices) (bad_told t)
said_told t (notice call id) =
    cond (eqb t.opened 0) (bad_told t)
    (good_told t t.opened t.date (t.notices ++ (record { line = t.lines + 1; call = call; id = id } ∷ [])))

-- after a bad line nothing more is taken
unfoldable pub next_told : NoticesTold → Said → NoticesTold
next_told t said = cond (eqb t.bad 0) (said_told t said) t

-- after some lines, of which the last is bad whatever it says where the text is too long
unfoldable pub lines_told : Bool → NoticesTold → List (List ℕ) → NoticesTold
lines_told long t [] = t
lines_told long t (line ∷ lines) =
    lines_told long (next_told t (cond (long && eqb (length lines) 0) bad (said_by line))) lines

-- 'where no line says anything, K is the number after the last line (1 of an empty file)'
unfoldable pub whole_told : NoticesTold → NoticesTold
whole_told t = cond (eqb t.opened 0) (next_told t bad) t

-- 'A line ends with a line feed or with the text';
-- 'At most 65,536 bytes, the mark included; beyond that the line that holds byte 65,537 is bad':
-- it is the last of the lines of the first 65,537 bytes
unfoldable pub text_told : List ℕ → NoticesTold
text_told text = whole_told (lines_told (ltb 65536 (length text)) nothing_told (lines_from [] (unmarked (take 65537 text))))
