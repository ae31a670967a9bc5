-- A text says at most as many notices as it has lines, so that a buffer of 65,538 bytes has room for their refusals; then what is known by its
-- lists is what is known of the file and the text.
-- Assumes nothing.
use mathlib.Core.Path.{◌≡◌, refl, ◌∙◌, sym, ap}
use mathlib.Core.Bool.{Bool, true, false, ◌&&◌, cond}
use mathlib.Core.List.{List, [], ◌∷◌, ◌++◌, map}
use Prim.Native.Nat.{ℕ, suc, ◌+◌, ◌≤◌}
use native.Mathlib.Omega.{arith}
use lib.Dec.{eqb, ltb}
use lib.ListN.{length, take, length-append, length-map, length-take, length-drop}
use borrow.Author.Tests.{eq-eqb, ne_eqb}
use Rattle.questions.specs.Questions.{first_no}
use Rattle.file_calendar.specs.declared.FileCalendar.{FileCalendar}
use Rattle.file_calendar.specs.Calendars.{calendar_answer}
use Rattle.file_load.specs.Load.{load_asks, judge_call}
use Rattle.session_lines.specs.CommandLines.{lines_from}
use Rattle.delivery_lines.specs.NoticeLines.{Said, nothing, bad, opening, notice, said_by, mark_length, unmarked}
use Rattle.delivery_notices.specs.declared.NoticesTaken.{NoticesTaken}
use Rattle.delivery_notices.specs.Notices.{Notice, NoticesTold, nothing_told, bad_told, said_told, next_told, lines_told, whole_told, text_told}
use Rattle.delivery_notices.specs.NoticeLists.{notices_to, notice_held, TextIn}
use Rattle.delivery_refusals.specs.Refusals.{master_text, bad_notice_text}
use Rattle.delivery_parts.proofs.Wholes.{notices-length}
use Rattle.delivery_queries.specs.Queries.{standing_of, standing_in, query_told}
use Rattle.delivery_queries.proofs.QueryStandings.{standing-own}

-- ---- how many notices

bad-same : (t : NoticesTold) → (bad_told t).notices ≡ t.notices
unfolding bad_told
bad-same t = refl

said_more : (t : NoticesTold) (said : Said) → length (said_told t said).notices ≤ length t.notices + 1
unfolding said_told
said_more t nothing = omega arith
said_more t bad = omega (arith, ap length (bad-same t))
said_more t (opening day) = go (eqb t.opened 0)
  where
    go : (b : Bool)
        → length (cond b (record { opened = t.lines + 1; date = day; notices = t.notices; lines = t.lines + 1; bad = 0 })
        (bad_told t)).notices ≤ length t.notices + 1
    go true = omega arith
    go false = omega (arith, ap length (bad-same t))
said_more t (notice call id) = go (eqb t.opened 0)
  where
    one : Notice
    one = record { line = t.lines + 1; call = call; id = id }

    go : (b : Bool)
        → length (cond b (bad_told t) (record {
          opened = t.opened;
          date = t.date;
          notices = t.notices ++
              (one ∷ []);
          lines = t.lines + 1;
          bad = 0;
        })).notices ≤ length t.notices + 1
    go true = omega (arith, ap length (bad-same t))
    go false = omega (arith, length-append t.notices (one ∷ []))

next_more : (t : NoticesTold) (said : Said) → length (next_told t said).notices ≤ length t.notices + 1
unfolding next_told
next_more t said = go (eqb t.bad 0)
  where
    go : (b : Bool) → length (cond b (said_told t said) t).notices ≤ length t.notices + 1
    go true = said_more t said
    go false = omega arith

lines_more : (long : Bool) (t : NoticesTold) (lines : List (List ℕ)) → length (lines_told long t lines).notices ≤ length t.notices + length lines
unfolding lines_told
lines_more long t [] = omega arith
lines_more long t (line ∷ lines) =
    let said : Said = cond (long && eqb (length lines) 0) bad (said_by line) in
    omega (arith, lines_more long (next_told t said) lines, next_more t said)

lines-most : (begun text : List ℕ) → length (lines_from begun text) ≤ length text + 1
unfolding lines_from
lines-most begun [] = go (eqb (length begun) 0)
  where
    go : (b : Bool) → length (cond b [] (begun ∷ [])) ≤ 1
    go true = omega arith
    go false = omega arith
lines-most begun (byte ∷ rest) = go (eqb byte 10) (lines-most [] rest) (lines-most (begun ++ (byte ∷ [])) rest)
  where
    go : (b : Bool) → length (lines_from [] rest) ≤ length rest + 1 → length (lines_from (begun ++ (byte ∷ [])) rest) ≤ length rest + 1
        → length (cond b (begun ∷ lines_from [] rest) (lines_from (begun ++ (byte ∷ [])) rest)) ≤ suc (length rest) + 1
    go true p q = omega arith
    go false p q = omega arith

whole_same : (t : NoticesTold) → length (whole_told t).notices ≤ length t.notices
unfolding whole_told next_told said_told
whole_same t = go (eqb t.opened 0) (eqb t.bad 0)
  where
    go : (b c : Bool) → length (cond b (cond c (bad_told t) t) t).notices ≤ length t.notices
    go true true = omega (arith, ap length (bad-same t))
    go true false = omega arith
    go false c = omega arith

unmarked_most : (text : List ℕ) → length (unmarked text) ≤ length text
unfolding unmarked
unmarked_most text = omega (arith, length-drop (mark_length text) text)

none_told : nothing_told.notices ≡ []
unfolding nothing_told
none_told = refl

notices-few : (text : List ℕ) → length (text_told text).notices ≤ 65538
unfolding text_told
notices-few text =
    let part : List ℕ = unmarked (take 65537 text) in
    let t : NoticesTold = lines_told (ltb 65536 (length text)) nothing_told (lines_from [] part) in
    omega (
      arith,
      whole_same t,
      lines_more (ltb 65536 (length text)) nothing_told (lines_from [] part),
      ap length none_told,
      lines-most [] part,
      unmarked_most (take 65537 text),
      length-take 65537 text,
    )

-- ---- the lists of a text

module _ (judged : FileCalendar) (f text calls calls' ids ids' : List ℕ) (t : NoticesTaken) (m : TextIn text calls calls' ids ids' t)
    (fits : t.fits ≡ true) where
  held : notices_to calls' ids' t.count ≡ map notice_held (text_told text).notices
  held = ap (λ (x : NoticesTold). x.notices) (m.is fits)

  few : t.count ≤ 65538
  few =
      let n : t.count ≡ length (text_told text).notices = sym (notices-length calls' ids' t.count) ∙ ap length held
      ∙ length-map (text_told text).notices notice_held in
      omega (arith, n, notices-few text)

  -- by the file's own verdict and with room, what is known by a text's lists is what is known of the file and the text
  pub told-own : calendar_answer judged ≡ judge_call f → (room : ℕ) → 65538 ≤ room
      → (id : List ℕ) → standing_in judged f t calls' ids' room id ≡ standing_of f (text_told text).date (text_told text).notices id
  told-own v room h = standing-own judged f t calls' ids' room (text_told text) v (omega (arith, few)) (ap (λ (x : NoticesTold). x.date) (m.is fits)) held

  -- the bad line held of a text is the text's own
  pub told-bad : t.bad ≡ (text_told text).bad
  told-bad = ap (λ (x : NoticesTold). x.bad) (m.is fits)

-- ---- standard error

-- of a file that is refused `query` tells its refusal
pub told-master : (f text : List ℕ) → (first_no (load_asks f) ≡ 0 → ⊥) → master_text (first_no (load_asks f)) ≡ query_told f text
unfolding query_told
told-master f text n = rw (ne_eqb (first_no (load_asks f)) 0 n) refl

-- of an accepted file and notices with a bad line `query` tells that line
pub told_line : (f text : List ℕ) → first_no (load_asks f) ≡ 0 → ((text_told text).bad ≡ 0 → ⊥) → bad_notice_text (text_told text).bad ≡ query_told f text
unfolding query_told
told_line f text a n = rw (eq-eqb (first_no (load_asks f)) 0 a, ne_eqb (text_told text).bad 0 n) refl

-- of an accepted file and notices without a bad line `query` tells nothing
pub told-nothing : (f text : List ℕ) → first_no (load_asks f) ≡ 0 → (text_told text).bad ≡ 0 → [] ≡ query_told f text
unfolding query_told
told-nothing f text a n = rw (eq-eqb (first_no (load_asks f)) 0 a, eq-eqb (text_told text).bad 0 n) refl
