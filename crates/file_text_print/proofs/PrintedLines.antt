-- One line after the other in a lent buffer.
-- Assumes nothing.
use mathlib.Core.Path.{◌≡◌, refl, sym, ap, ◌∙◌}
use mathlib.Core.Bool.{Bool, true, false, and-false}
use mathlib.Core.List.{List, ◌++◌, append-nil, append_assoc}
use mathlib.Core.Logic.{◌⊎◌, inl, inr}
use Prim.Native.Nat.{ℕ, zero, suc, ◌+◌, ◌-◌, ◌≤◌, ◌<◌}
use native.Mathlib.Numerals.{add-one}
use native.Mathlib.Omega.{arith}
use lib.Dec.{leb, ltb}
use lib.ListN.{length, take, drop}
use lib.Seq.{drop-drop, paste, length-paste, take-paste, drop-paste}
use borrow.Author.Tests.{lt-ltb, le-ltb, ltb-true, le-leb, lt-leb, leb-true}
use Rattle.questions.proofs.Bools.{both, and_both, clash, lt-or-ge}
use Rattle.calendar.specs.declared.Calendar.{Calendar}
use Rattle.session_lines.specs.declared.Line.{Line}
use Rattle.session_lines.specs.CommandLines.{empty_line, fed}
use Rattle.session_lines.proofs.LineFeeding.{fed-holds, fed-is}
use Rattle.file_text_print.specs.Contents.{LineWith, line_text, line_count, lines_text, another_line, printed_from, LinesIn}
use Rattle.file_text_print.proofs.TextLengths.{line-short}

-- ---- whether there is another

module _ (n count : ℕ) (out : List ℕ) (k : ℕ) where
  -- after the last line there is no other line
  pub no_more : count ≤ n → false ≡ another_line n count out k
  unfolding another_line
  no_more h = rw (le-ltb n count h) refl

  -- a buffer of fewer than 64 bytes has no room for a line
  pub too_short : length out < 64 → false ≡ another_line n count out k
  unfolding another_line
  too_short h = rw (lt-leb (k + 64) (length out) (omega arith)) (sym (and-false (ltb n count)))

  -- with a line to come, there is room for it exactly where at least 64 bytes are left in the buffer
  pub room-is : n < count → 64 ≤ length out → leb k (length out - 64) ≡ another_line n count out k
  unfolding another_line
  room-is h g = rw (lt-ltb n count h) (go (lt-or-ge (length out) (k + 64)))
    where
      go : (length out < k + 64) ⊎ (k + 64 ≤ length out) → leb k (length out - 64) ≡ leb (k + 64) (length out)
      go (inl l) = lt-leb k (length out - 64) (omega arith) ∙ sym (lt-leb (k + 64) (length out) l)
      go (inr l) = le-leb k (length out - 64) (omega arith) ∙ sym (le-leb (k + 64) (length out) l)

  -- where there is another line, it is one of the lines to come and at least 64 bytes are left for it
  pub has_more : {r : Bool} → r ≡ another_line n count out k → r ≡ true → (n < count) × (k + 64 ≤ length out)
  unfolding another_line
  has_more e t =
      let b : (ltb n count ≡ true) × (leb (k + 64) (length out) ≡ true) = both (ltb n count) (leb (k + 64) (length out)) (sym e ∙ t) in
      (ltb-true n count b.0, leb-true (k + 64) (length out) b.1)

  more : n < count → k + 64 ≤ length out → another_line n count out k ≡ true
  unfolding another_line
  more h g = and_both (lt-ltb n count h) (le-leb (k + 64) (length out) g)

-- ---- a line that was made

module _ (cal : Calendar) (f : List ℕ) (n : ℕ) (l : Line) (made : LineWith empty_line (line_text cal f n) l) where
  e : l ≡ fed empty_line (line_text cal f n)
  e = made.is

  line-room : length l.bytes ≡ 64
  line-room = rw e (fed-holds (line_text cal f n)).room

  line-long : l.length ≡ length (line_text cal f n)
  line-long = rw e (fed-is (line_text cal f n) (line-short cal f n)).0

  -- a line of the text, as the program holds it, has at most 64 bytes
  pub line-fits : l.length ≤ 64
  line-fits = omega (arith, line-long, line-short cal f n)

  line-is : take l.length l.bytes ≡ line_text cal f n
  line-is = rw e (fed-is (line_text cal f n) (line-short cal f n)).1

-- ---- how far they come

module _ (cal : Calendar) (f : List ℕ) (room n k : ℕ) where
  far-on : (left : ℕ) → k + 64 ≤ room → printed_from cal f room (suc left) n k ≡ printed_from cal f room left (suc n) (k + length (line_text cal f n))
  unfolding printed_from
  far-on left h = rw (le-leb (k + 64) room h) refl

  far-full : (left : ℕ) → room < k + 64 → printed_from cal f room left n k ≡ record { next = n; length = k }
  unfolding printed_from
  far-full zero h = refl
  far-full (suc left) h = rw (lt-leb (k + 64) room h) refl

  far-last : (left : ℕ) → left ≡ 0 → printed_from cal f room left n k ≡ record { next = n; length = k }
  unfolding printed_from
  far-last left e = rw e refl

-- ---- line by line

pub record Printing (cal : Calendar) (f : List ℕ) (from : ℕ) (before : List ℕ) (next n : ℕ) (out : List ℕ) : Type 0 where
  -- the lines before and the bytes written are all lines up to the next
  pub is : lines_text cal f next ≡ lines_text cal f from ++ take n out
  -- the bytes written are no more than the buffer has
  pub fits : n ≤ length out
  -- after the bytes written the buffer is as before
  pub unchanged : drop n out ≡ drop n before
  -- the buffer is as long as before
  pub long : length out ≡ length before
  -- no line is written yet, or the next line is later than the one printed from
  pub on : ((next ≡ from) × (n ≡ 0)) ⊎ (from < next)
  -- no line after the last is written
  pub within : from ≤ line_count cal f → next ≤ line_count cal f
  -- the lines come as far from the next line on, after the bytes written, as from the first on
  pub far : printed_from cal f (length before) (line_count cal f - from) from 0 ≡ printed_from cal f (length before) (line_count cal f - next) next n

module _ (cal : Calendar) (f : List ℕ) (from : ℕ) (before : List ℕ) where
  -- before the first line nothing is written and the buffer is as before
  pub begins : Printing cal f from before from 0 before
  begins = record {
    is = sym (append-nil (lines_text cal f from));
    fits = omega arith;
    unchanged = refl;
    long = refl;
    on = inl (refl, refl);
    within =
        λ h. h;
    far = refl;
  }

  module _ (next n : ℕ) (out : List ℕ) (g : Printing cal f from before next n out) (count : ℕ) (q : count ≡ line_count cal f) {b : Bool}
      (s : b ≡ another_line next count out n) where
    -- with another line to come and room for it, the line is written after those before it
    pub goes : b ≡ true → (l : Line) → LineWith empty_line (line_text cal f next) l → (r : ℕ) (after : List ℕ)
        → r ≡ n + l.length → after ≡ paste out n l.bytes l.length → Printing cal f from before (next + 1) r after
    unfolding lines_text
    goes t l e r after p a =
        let m : (next < count) × (n + 64 ≤ length out) = has_more next count out n s t in
        let k : length l.bytes ≡ 64 = line-room cal f next l e in
        let w : l.length ≤ 64 = line-fits cal f next l e in
        let written : take r after ≡ take n out ++ line_text cal f next =
        rw (p, a) (take-paste out n l.bytes l.length g.fits (omega (arith, k, w)) ∙
        ap (λ (t : List ℕ). take n out ++ t) (line-is cal f next l e)) in
        let len : length after ≡ length out = rw a (length-paste out n l.bytes l.length (omega (arith, w, m.1)) (omega (arith, k, w))) in
        record {
          is = rw (add-one next, written, g.is) (append_assoc (lines_text cal f from) (take n out) (line_text cal f next));
          fits = omega (arith, p, w, m.1, len);
          unchanged = rw (p, a)
              (drop-paste out n l.bytes l.length g.fits (omega (arith, k, w))
              ∙ sym (drop-drop l.length n out) ∙ ap (drop l.length) g.unchanged ∙ drop-drop l.length n before);
          long = len ∙ g.long;
          on = inr (later g.on);
          within = λ h. omega (arith, m.0, q);
          far =
              let left : line_count cal f - next ≡ suc (line_count cal f - (next + 1)) = omega (arith, m.0, q) in
              let more : n + length (line_text cal f next) ≡ r = omega (arith, p, line-long cal f next l e) in
              g.far ∙ ap (λ (x : ℕ). printed_from cal f (length before) x next n) left
              ∙ far-on cal f (length before) next n (line_count cal f - (next + 1)) (omega (arith, m.1, g.long))
              ∙ rw (more, add-one next) refl;
        }
      where
        later : ((next ≡ from) × (n ≡ 0)) ⊎ (from < next) → from < next + 1
        later (inl h) = omega (arith, h.0)
        later (inr h) = omega arith

    -- without another line or room for it, the lines in the buffer come as far as there is room
    pub ends : b ≡ false → LinesIn cal f from before out (record { next = next; length = n })
    ends t =
        record {
          is = g.is;
          far = sym (g.far ∙ stops (lt-or-ge next count) (lt-or-ge (length out) (n + 64)));
          fits = g.fits;
          unchanged = g.unchanged;
          long = g.long;
          moves = λ h l. moved g.on h l;
          within = g.within;
        }
      where
        stops : (next < count) ⊎ (count ≤ next) → (length out < n + 64) ⊎ (n + 64 ≤ length out)
            → printed_from cal f (length before) (line_count cal f - next) next n ≡ record { next = next; length = n }
        stops (inr h) d = far-last cal f (length before) next n (line_count cal f - next) (omega (arith, q, h))
        stops (inl h) (inl d) = far-full cal f (length before) next n (line_count cal f - next) (omega (arith, g.long, d))
        stops (inl h) (inr d) = clash (s ∙ more next count out n h d) t

        moved : ((next ≡ from) × (n ≡ 0)) ⊎ (from < next) → 64 ≤ length before → from < line_count cal f → from < next
        moved (inl d) h l = clash (s ∙ more next count out n (omega (arith, q, d.0)) (omega (arith, d.1, g.long))) t
        moved (inr d) h l = d
