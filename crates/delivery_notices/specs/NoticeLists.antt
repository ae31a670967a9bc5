-- The notices of two lent lists, and the lists after a text of notices was read into them. Only the code needs these.
-- Assumes nothing.
use Rattle.std.specs.Prelude.{ℕ, zero, suc, ◌+◌, ◌*◌, ◌≡◌, Bool, true, false, ◌&&◌, cond, List, [], ◌∷◌, ◌++◌, map, eqb, leb, length, get_or}
use Rattle.history.specs.Book.{Call, roll, close, reopen, measure}
use Rattle.history_replay.specs.Replay.{short_in, call_of}
use Rattle.delivery_lines.specs.declared.NoticeLine.{NoticeLine}
use Rattle.delivery_lines.specs.NoticeLines.{held}
use Rattle.delivery_notices.specs.declared.NoticesTaken.{NoticesTaken}
use Rattle.delivery_notices.specs.Notices.{Notice, NoticesTold, text_told}

-- notice i of two lists: the number of its line and its call, five numbers, and the four bytes of its id;
-- a kind number other than 0 to 3, which no text gives, is a call that every table refuses (`call_of`)
abbrev pub notice_at : List ℕ → List ℕ → ℕ → Notice
notice_at calls ids i =
    record {
      line = get_or calls (5 * i) 0;
      call = call_of (get_or calls (5 * i + 1) 0) (get_or calls (5 * i + 2) 0) (get_or calls (5 * i + 3) 0) (get_or calls (5 * i + 4) 0);
      id = get_or ids (4 * i) 0 ∷ get_or ids (4 * i + 1) 0 ∷ get_or ids (4 * i + 2) 0 ∷ get_or ids (4 * i + 3) 0 ∷ [];
    }

-- the first n notices of two lists
unfoldable pub notices_to : List ℕ → List ℕ → ℕ → List Notice
notices_to calls ids zero = []
notices_to calls ids (suc n) = notices_to calls ids n ++ (notice_at calls ids n ∷ [])

-- a call as it is held: a number of 16 bits that does not fit is 65,535, and a price is at most 1,000,000,000.
-- Its answer is that of the call itself (`delivery_tables` CallsHeld)
abbrev pub call_held : Call → Call
call_held (roll day) = roll (short_in day)
call_held (close day) = close (short_in day)
call_held (reopen day) = reopen (short_in day)
call_held (measure p q price) = measure (short_in (held p)) (short_in (held q)) (held price)

-- a notice with its call as it is held
abbrev pub notice_held : Notice → Notice
notice_held n = record { line = n.line; call = call_held n.call; id = n.id }

-- what a text says with its calls as they are held
abbrev pub told_held : NoticesTold → NoticesTold
told_held t = record { opened = t.opened; date = t.date; notices = map notice_held t.notices; lines = t.lines; bad = t.bad }

-- what the code holds of a text
abbrev pub told_in : NoticesTaken → List ℕ → List ℕ → NoticesTold
told_in t calls ids =
    record { opened = t.opened; date = t.date; notices = notices_to calls ids t.count; lines = t.lines; bad = t.bad }

-- R, 82, is a roll, E, 69, a reopening, M, 77, a measure, and C a close, by the numbers of `replay`
unfoldable pub kind_in : ℕ → ℕ
kind_in letter = cond (eqb letter 82) 0 (cond (eqb letter 69) 2 (cond (eqb letter 77) 3 1))

-- the first number of a call: the p of a measure, 77, or the day
unfoldable pub first_in : ℕ → ℕ → ℕ → ℕ
first_in letter day p = cond (eqb letter 77) p day

-- the notice of a line with a number
unfoldable pub line_notice : ℕ → NoticeLine → Notice
line_notice line n =
    record {
      line = line;
      call = call_of (kind_in n.letter) (first_in n.letter n.day n.p) n.q n.price;
      id = get_or n.id 0 0 ∷ get_or n.id 1 0 ∷ get_or n.id 2 0 ∷ get_or n.id 3 0 ∷ [];
    }

-- of two lists before and after: one notice more stands after the first i
pub record StoredIn (line : ℕ) (n : NoticeLine) (i : ℕ) (calls calls' ids ids' : List ℕ) : Type 0 where
  pub is : notices_to calls' ids' (i + 1) ≡ notices_to calls ids i ++ (line_notice line n ∷ [])
  pub calls-long : length calls' ≡ length calls
  pub ids-long : length ids' ≡ length ids

-- there is room for 6,554 notices, more than 65,537 bytes can say: a line of 9 bytes and its line feed are the fewest
abbrev pub lists_fit : ℕ → ℕ → Bool
lists_fit calls ids = leb 32770 calls && leb 26216 ids

-- of a text and two lists before and after: with room the lists hold what the text says; without it nothing is written
pub record TextIn (text calls calls' ids ids' : List ℕ) (r : NoticesTaken) : Type 0 where
  pub fits : r.fits ≡ lists_fit (length calls) (length ids)
  pub is : r.fits ≡ true → told_in r calls' ids' ≡ told_held (text_told text)
  pub idle : r.fits ≡ false → (calls' ≡ calls) × (ids' ≡ ids)
  pub calls-long : length calls' ≡ length calls
  pub ids-long : length ids' ≡ length ids
