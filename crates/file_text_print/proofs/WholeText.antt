-- The lines of an accepted file come one after the other and make up the file's text; a refused file's text is one line. How long a text is.
-- Assumes nothing.
use mathlib.Core.Path.{◌≡◌, refl, sym, ap, ◌∙◌}
use mathlib.Core.Bool.{Bool, true, false, cond}
use mathlib.Core.List.{List, [], ◌++◌, append-nil, append_assoc}
use mathlib.Core.Logic.{◌⊎◌, inl, inr}
use Prim.Native.Nat.{ℕ, zero, suc, ◌+◌, ◌*◌, ◌≤◌, ◌<◌}
use native.Mathlib.Omega.{arith}
use lib.Dec.{eqb}
use lib.ListN.{length, take, drop, length-append}
use lib.Seq.{length-take-le, take-length, take-append_seam, drop-append_seam}
use borrow.Author.Tests.{ne_eqb, le-leb}
use Rattle.questions.proofs.Bools.{lt-or-ge}
use Rattle.days.proofs.Years.{year-start-most}
use Rattle.calendar.specs.declared.Cover.{Cover}
use Rattle.calendar.specs.declared.Calendar.{Calendar}
use Rattle.calendar.specs.Trading.{cover_end}
use Rattle.file_calendar.specs.Calendars.{calendar_of}
use Rattle.file_load.specs.Load.{load_call}
use Rattle.session_text.specs.TermsText.{refusal_text}
use Rattle.session_text.specs.Buffer.{roomy, Printed}
use Rattle.file_text_print.specs.declared.PrintProgress.{PrintProgress}
use Rattle.file_text_print.specs.Contents.{cover_days, line_text, line_count, lines_text, LinesIn}
use Rattle.file_text_print.specs.WholeText.{decompose_text, NextOf}
use Rattle.file_text_print.proofs.TextLengths.{line-short, refusal-short}

-- what stands between a beginning of a text and its rest comes next
next-in : (text a b rest : List ℕ) (at : ℕ) → text ≡ (a ++ b) ++ rest → at ≡ length a → NextOf text at b
next-in text a b rest at e p =
    record {
      is = rw (p, e, append_assoc a b rest, drop-append_seam a (b ++ rest)) (take-append_seam b rest);
      within = omega (arith, p, ap length e, length-append (a ++ b) rest, length-append a b);
    }

-- ---- the lines, one after the other

module _ (cal : Calendar) (f : List ℕ) where
  -- the lines up to one are those up to an earlier one and some more
  record More (m n : ℕ) : Type 0 where
    rest : List ℕ
    is : lines_text cal f n ≡ lines_text cal f m ++ rest

  more : (m n : ℕ) → m ≤ n → More m n
  unfolding lines_text
  more m zero h =
      let e : m ≡ 0 = omega arith in
      record { rest = []; is = rw e refl }
  more m (suc n) h = go (lt-or-ge n m) (λ l. more m n l)
    where
      go : (n < m) ⊎ (m ≤ n) → (m ≤ n → More m n) → More m (suc n)
      go (inl l) earlier =
          let e : m ≡ suc n = omega arith in
          record { rest = []; is = rw e (sym (append-nil (lines_text cal f (suc n)))) }
      go (inr l) earlier =
          let r : More m n = earlier l in
          record {
            rest = r.rest ++ line_text cal f n;
            is = ap (λ (t : List ℕ). t ++ line_text cal f n) r.is ∙ append_assoc (lines_text cal f m) r.rest (line_text cal f n);
          }

  lines-short : (n : ℕ) → length (lines_text cal f n) ≤ 64 * n
  unfolding lines_text
  lines-short zero = omega arith
  lines-short (suc n) =
      omega (arith, lines-short n, line-short cal f n, length-append (lines_text cal f n) (line_text cal f n))

  -- the text of no lines has no bytes
  pub no_lines : length (lines_text cal f 0) ≡ 0
  unfolding lines_text
  no_lines = refl

days-most : (c : Cover) → cover_days c ≤ 36525
unfolding cover_days cover_end
days-most c = omega (arith, year-start-most (c.first_year + c.years))

count_most : (cal : Calendar) (f : List ℕ) → length f ≤ 65537 → line_count cal f ≤ 38446
unfolding line_count
count_most cal f h = omega (arith, days-most cal.cover)

-- the lines in a buffer, added to those before them
pub lines_more : (cal : Calendar) (f : List ℕ) (from : ℕ) (before after : List ℕ) (p : PrintProgress) → LinesIn cal f from before after p
    → length (lines_text cal f p.next) ≡ length (lines_text cal f from) + p.length
lines_more cal f from before after p l =
    rw l.is
    (length-append (lines_text cal f from) (take p.length after)
    ∙ ap (λ (n : ℕ). length (lines_text cal f from) + n) (length-take-le p.length after l.fits))

-- ---- a file that is accepted

module _ (f : List ℕ) (e : (load_call f).refusal ≡ 0) where
  -- the text of a file that load accepts is all its lines
  pub accepted-text : decompose_text f ≡ lines_text (calendar_of f) f (line_count (calendar_of f) f)
  unfolding decompose_text
  accepted-text = rw e refl

  -- all lines are the text
  pub all_lines : (cal : Calendar) → cal ≡ calendar_of f → (n : ℕ) → n ≡ line_count cal f → length (lines_text cal f n) ≡ length (decompose_text f)
  all_lines cal q n s = rw (s, q) (ap length (sym accepted-text))

  module _ (cal : Calendar) (q : cal ≡ calendar_of f) (from : ℕ) (before after : List ℕ) (p : PrintProgress) (l : LinesIn cal f from before after p) where
    -- the lines in a buffer come next after those before them
    pub next-lines : from ≤ line_count cal f → (at : ℕ) → at ≡ length (lines_text cal f from) → NextOf (decompose_text f) at (take p.length after)
    next-lines h at s =
        let m : More cal f p.next (line_count cal f) = more cal f p.next (line_count cal f) (l.within h) in
        let t : decompose_text f ≡ lines_text cal f (line_count cal f) = accepted-text ∙ ap (λ (c : Calendar). lines_text c f (line_count c f)) (sym q) in
        next-in (decompose_text f) (lines_text cal f from) (take p.length after) m.rest at
        (t ∙ m.is ∙ ap (λ (x : List ℕ). x ++ m.rest) l.is) s

-- ---- a file that is refused

module _ (f : List ℕ) (n : ℕ) (q : (load_call f).refusal ≡ n) (e : n ≡ 0 → ⊥) where
  -- the text of a file that load refuses is that of the refusal
  pub refused-text : decompose_text f ≡ refusal_text n
  unfolding decompose_text
  refused-text = rw (q, ne_eqb n 0 e) refl

  module _ (before after : List ℕ) (next : ℕ) (p : Printed before after 0 next (refusal_text n)) (h : 512 ≤ length before) where
    room : roomy before 0 ≡ true
    unfolding roomy
    room = le-leb 512 (length before) h

    to : next ≡ length (refusal_text n)
    to = p.to ∙ rw room (omega arith)

    -- the text of a refused file is as long as what is printed of it in a buffer of at least 512 bytes
    pub refused-length : next ≡ length (decompose_text f)
    refused-length = to ∙ ap length (sym refused-text)

    is : take next after ≡ refusal_text n
    is = rw (to, p.is, room) (take-append_seam (refusal_text n) (drop (0 + length (refusal_text n)) before))

    -- what is printed of a refused file in a buffer of at least 512 bytes is its text from the start
    pub next-refused : NextOf (decompose_text f) 0 (take next after)
    next-refused = rw (refused-text, is) record { is = take-length (refusal_text n); within = omega arith }

-- ---- how long it is

-- the text of a file of at most 65,537 bytes has at most 2,500,000 bytes
pub text-short : (f : List ℕ) → length f ≤ 65537 → length (decompose_text f) ≤ 2500000
unfolding decompose_text
text-short f h = go (eqb (load_call f).refusal 0)
  where
    go : (b : Bool) → length (cond b (lines_text (calendar_of f) f (line_count (calendar_of f) f)) (refusal_text (load_call f).refusal)) ≤ 2500000
    go true = omega (arith, lines-short (calendar_of f) f (line_count (calendar_of f) f), count_most (calendar_of f) f h)
    go false = omega (arith, refusal-short (load_call f).refusal)
