-- A text of notices says at most 6,553 of them: a line with a call has nine bytes and a line feed or the text's end.
-- Assumes nothing.
use mathlib.Core.Path.{◌≡◌, refl, ap}
use mathlib.Core.Bool.{Bool, true, false, ◌&&◌, cond}
use mathlib.Core.List.{List, [], ◌∷◌, ◌++◌}
use Prim.Native.Nat.{ℕ, suc, ◌+◌, ◌*◌, ◌≤◌}
use native.Mathlib.Omega.{arith}
use lib.Dec.{eqb, ltb}
use lib.ListN.{length, take, length-append, length-take, length-drop}
use Rattle.history.specs.Book.{Call, roll, close, reopen, measure}
use Rattle.session_lines.specs.CommandLines.{lines_from}
use Rattle.delivery_lines.specs.NoticeLines.{Said, nothing, bad, opening, notice, said_by, line_held, mark_length, unmarked}
use Rattle.delivery_lines.proofs.NoticeLengths.{said-long}
use Rattle.delivery_notices.specs.Notices.{NoticesTold, nothing_told, bad_told, said_told, next_told, lines_told, whole_told, text_told}

-- the bytes of some lines, each with its line feed
unfoldable size : List (List ℕ) → ℕ
size [] = 0
size (line ∷ lines) = length line + 1 + size lines

lines-size : (begun text : List ℕ) → size (lines_from begun text) ≤ length begun + length text + 1
unfolding lines_from size
lines-size begun [] = go (eqb (length begun) 0)
  where
    go : (b : Bool) → size (cond b [] (begun ∷ [])) ≤ length begun + 0 + 1
    go true = omega arith
    go false = omega arith
lines-size begun (byte ∷ rest) = go (eqb byte 10) (lines-size [] rest) (lines-size (begun ++ (byte ∷ [])) rest)
  where
    go : (b : Bool) → size (lines_from [] rest) ≤ 0 + length rest + 1
        → size (lines_from (begun ++ (byte ∷ [])) rest) ≤ length (begun ++ (byte ∷ [])) + length rest + 1
        → size (cond b (begun ∷ lines_from [] rest) (lines_from (begun ++ (byte ∷ [])) rest)) ≤ length begun + suc (length rest) + 1
    go true e k = omega arith
    go false e k = omega (arith, k, length-append begun (byte ∷ []))

-- a line with a call is long
call_long : (line : List ℕ) (call : Call) (id : List ℕ) → notice call id ≡ said_by line → 9 ≤ length line
unfolding line_held
call_long line (roll day) id e = said-long line 82 (ap (λ (s : Said). (line_held s).letter) e) (λ z. omega (arith, z)) (λ z. omega (arith, z))
call_long line (close day) id e = said-long line 67 (ap (λ (s : Said). (line_held s).letter) e) (λ z. omega (arith, z)) (λ z. omega (arith, z))
call_long line (reopen day) id e = said-long line 69 (ap (λ (s : Said). (line_held s).letter) e) (λ z. omega (arith, z)) (λ z. omega (arith, z))
call_long line (measure p q price) id e = said-long line 77 (ap (λ (s : Said). (line_held s).letter) e) (λ z. omega (arith, z)) (λ z. omega (arith, z))

bad-few : (t : NoticesTold) → length (bad_told t).notices ≡ length t.notices
unfolding bad_told
bad-few t = refl

said-few : (t : NoticesTold) (line : List ℕ) (said : Said) → said ≡ said_by line
    → 10 * length (said_told t said).notices ≤ 10 * length t.notices + length line + 1
unfolding said_told
said-few t line nothing e = omega arith
said-few t line bad e = omega (arith, bad-few t)
said-few t line (opening day) e = go (eqb t.opened 0)
  where
    first : NoticesTold
    first = record { opened = t.lines + 1; date = day; notices = t.notices; lines = t.lines + 1; bad = 0 }

    go : (b : Bool) → 10 * length (cond b first (bad_told t)).notices ≤ 10 * length t.notices + length line + 1
    go true = omega arith
    go false = omega (arith, bad-few t)
said-few t line (notice call id) e = go (eqb t.opened 0)
  where
    more : NoticesTold
    more =
        record {
          opened = t.opened;
          date = t.date;
          notices = t.notices ++ (record { line = t.lines + 1; call = call; id = id } ∷ []);
          lines = t.lines + 1;
          bad = 0;
        }

    go : (b : Bool) → 10 * length (cond b (bad_told t) more).notices ≤ 10 * length t.notices + length line + 1
    go true = omega (arith, bad-few t)
    go false = omega (arith, call_long line call id e, length-append t.notices (record { line = t.lines + 1; call = call; id = id } ∷ []))

bad-line : (t : NoticesTold) (line : List ℕ) → 10 * length (said_told t bad).notices ≤ 10 * length t.notices + length line + 1
unfolding said_told
bad-line t line = omega (arith, bad-few t)

next-few : (t : NoticesTold) (line : List ℕ) (cut : Bool)
    → 10 * length (next_told t (cond cut bad (said_by line))).notices ≤ 10 * length t.notices + length line + 1
unfolding next_told
next-few t line cut = go (eqb t.bad 0) cut
  where
    go : (b cut : Bool) → 10 * length (cond b (said_told t (cond cut bad (said_by line))) t).notices ≤ 10 * length t.notices + length line + 1
    go false cut = omega arith
    go true true = bad-line t line
    go true false = said-few t line (said_by line) refl

added : (a b c d e : ℕ) → 10 * a ≤ 10 * b + c → 10 * b ≤ 10 * d + e + 1 → 10 * a ≤ 10 * d + (e + 1 + c)
added a b c d e h k = omega arith

lines-few : (long : Bool) (t : NoticesTold) (lines : List (List ℕ)) → 10 * length (lines_told long t lines).notices ≤ 10 * length t.notices + size lines
unfolding lines_told size
lines-few long t [] = omega arith
lines-few long t (line ∷ lines) =
    let cut = long && eqb (length lines) 0 in
    let next = next_told t (cond cut bad (said_by line)) in
    added (length (lines_told long next lines).notices) (length next.notices) (size lines) (length t.notices) (length line)
    (lines-few long next lines) (next-few t line cut)

whole-few : (t : NoticesTold) → length (whole_told t).notices ≡ length t.notices
unfolding whole_told next_told said_told bad_told
whole-few t = go (eqb t.opened 0) (eqb t.bad 0)
  where
    go : (a b : Bool) → length (cond a (cond b (bad_told t) t) t).notices ≡ length t.notices
    go false b = refl
    go true false = refl
    go true true = bad-few t

none_said : length nothing_told.notices ≡ 0
unfolding nothing_told
none_said = refl

unmarked-few : (text : List ℕ) → length (unmarked text) ≤ length text
unfolding unmarked
unmarked-few text = omega (arith, length-drop (mark_length text) text)

-- a text says at most 6,553 notices
pub notices-few : (text : List ℕ) → length (text_told text).notices ≤ 6553
unfolding text_told
notices-few text =
    let part = unmarked (take 65537 text) in
    let t = lines_told (ltb 65536 (length text)) nothing_told (lines_from [] part) in
    omega (
      arith,
      whole-few t,
      lines-few (ltb 65536 (length text)) nothing_told (lines_from [] part),
      none_said,
      lines-size [] part,
      unmarked-few (take 65537 text),
      length-take 65537 text,
    )
