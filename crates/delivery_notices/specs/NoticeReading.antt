-- A text of notices as the code reads it, line by line. Only the code needs these.
-- Assumes nothing.
use Rattle.std.specs.Prelude.{ℕ, ◌+◌, ◌≤◌, ◌≡◌, Bool, true, not, cond, List, [], ◌∷◌, ◌⊎◌, eqb, ltb, length, get_or}
use Rattle.session_lines.specs.CommandLines.{lines_from}
use Rattle.delivery_lines.specs.declared.NoticeLine.{NoticeLine}
use Rattle.delivery_lines.specs.NoticeLines.{Said, bad, said_by, line_held}
use Rattle.delivery_notices.specs.declared.NoticesTaken.{NoticesTaken}
use Rattle.delivery_notices.specs.Notices.{NoticesTold, nothing_told, said_told, next_told, lines_told}
use Rattle.delivery_notices.specs.NoticeLists.{told_in, told_held}

-- before the first line, with room or without
abbrev pub no_notices_taken : Bool → NoticesTaken
no_notices_taken fits = record { fits = fits; opened = 0; date = 0; count = 0; lines = 0; bad = 0 }

-- after a bad line
abbrev pub bad_taken : NoticesTaken → NoticesTaken
bad_taken t = record { fits = t.fits; opened = t.opened; date = t.date; count = t.count; lines = t.lines + 1; bad = t.lines + 1 }

-- an O, 79, is the first line that says something, and every other line comes after it
abbrev pub may_stand : ℕ → ℕ → Bool
may_stand letter opened = cond (eqb letter 79) (eqb opened 0) (not (eqb opened 0))

-- the end of a text: without an O a line is missing
abbrev pub whole_taken : NoticesTaken → NoticesTaken
whole_taken t = cond (eqb t.opened 0) (cond (eqb t.bad 0) (bad_taken t) t) t

-- how many bytes of a text are read: all, or 65,537
unfoldable pub read_length : ℕ → ℕ
read_length n = cond (ltb 65537 n) 65537 n

-- of what is held before and after a line, by what it says: where it stands for what the lines so far say, it does so after this one
pub record SaidIn (t : NoticesTaken) (n : NoticeLine) (calls calls' ids ids' : List ℕ) (r : NoticesTaken) : Type 0 where
  pub is : (told : NoticesTold) (said : Said) → n ≡ line_held said → n.id ≡ get_or n.id 0 0 ∷ get_or n.id 1 0 ∷ get_or n.id 2 0 ∷ get_or n.id 3 0 ∷ []
      → told_in t calls ids ≡ told_held told → told_in r calls' ids' ≡ told_held (said_told told said)
  pub grows : (r.count ≡ t.count) ⊎ ((r.count ≡ t.count + 1) × ((n.letter ≡ 35 → ⊥) × (n.letter ≡ 0 → ⊥)))
  pub lines : r.lines ≡ t.lines + 1
  pub fits : r.fits ≡ t.fits
  pub calls-long : length calls' ≡ length calls
  pub ids-long : length ids' ≡ length ids

-- the same of a line by its bytes; one that is cut is bad
pub record LineTaken (t : NoticesTaken) (line : List ℕ) (cut : Bool) (calls calls' ids ids' : List ℕ) (r : NoticesTaken) : Type 0 where
  pub is : (told : NoticesTold) → told_in t calls ids ≡ told_held told → told_in r calls' ids' ≡ told_held (next_told told (cond cut bad (said_by line)))
  pub grows : (r.count ≡ t.count) ⊎ ((r.count ≡ t.count + 1) × (9 ≤ length line))
  pub lines : r.lines ≤ t.lines + 1
  pub fits : r.fits ≡ t.fits
  pub calls-long : length calls' ≡ length calls
  pub ids-long : length ids' ≡ length ids

-- after all lines of a text
pub record NoticeLinesIn (text : List ℕ) (long : Bool) (calls calls' ids ids' : List ℕ) (r : NoticesTaken) : Type 0 where
  pub is : told_in r calls' ids' ≡ told_held (lines_told long nothing_told (lines_from [] text))
  pub lines : r.lines ≤ 65538
  pub fits : r.fits ≡ true
  pub calls-long : length calls' ≡ length calls
  pub ids-long : length ids' ≡ length ids
