-- The text part by part: a line's end, its bytes, one line after the other.
-- Assumes nothing.
use mathlib.Core.Path.{◌≡◌, refl, sym, ap, ◌∙◌}
use mathlib.Core.Bool.{Bool, true, false, and-false, cond}
use mathlib.Core.List.{List, [], ◌∷◌, ◌++◌, append-nil, append_assoc}
use mathlib.Core.Logic.{◌⊎◌, inl, inr}
use Prim.Native.Nat.{ℕ, ◌+◌, ◌-◌, ◌≤◌, ◌<◌}
use native.Mathlib.Numerals.{add-one}
use native.Mathlib.Omega.{arith}
use lib.Dec.{leb, ltb}
use lib.ListN.{length, get_or, take, drop, drop_of_length-le, length-append, length-drop, take-append-drop}
use lib.Seq.{length-take-le, drop-cons, drop-drop, take_at, drop_at, get_or-take, get_or-drop}
use borrow.Author.Tests.{lt-ltb, le-ltb, ltb-true, le-leb, lt-leb, eq-eqb, ne_eqb}
use Rattle.questions.proofs.Bools.{clash, both, and_both, lt-or-ge}
use Rattle.table.specs.declared.Outcome.{Outcome}
use Rattle.session_lines.specs.declared.Line.{Line}
use Rattle.session_lines.specs.CommandLines.{line_command, empty_line, extended, fed}
use Rattle.session_lines.specs.BytePlaces.{ByteFrom}
use Rattle.session_text.specs.Buffer.{roomy, Printed}
use Rattle.session_text.proofs.TextsInBuffer.{no_room, room-is, room-long}
use Rattle.session_command.specs.declared.Kept.{Kept}
use Rattle.session_command.specs.Sessions.{answer_text, kept_after, rest_text, rest_kept}
use Rattle.session_command.proofs.Session.{passed-bytes, text-byte, kept_byte, text-line, kept_line, kept-end, text-end}
use Rattle.session_parts.specs.declared.TermsProgress.{TermsProgress}
use Rattle.session_parts.specs.TermsParts.{another, Passed, passed, passed_on, progress_of, Next, Answers, LastAnswer}

-- ---- whether there is a next

roomed : (out : List ℕ) (n : ℕ) → n + 512 ≤ length out → roomy out n ≡ true
unfolding roomy
roomed out n h = le-leb (n + 512) (length out) h

module _ (part : List ℕ) (at : ℕ) (out : List ℕ) (n : ℕ) where
  -- there is no next line when the part is used up
  pub used-up : length part ≤ at → false ≡ another part at out n
  unfolding another
  used-up h = rw (le-ltb at (length part) h) refl

  -- there is no next line when the output is shorter than 512
  pub too_short : length out < 512 → false ≡ another part at out n
  unfolding another
  too_short h = rw (no_room out n h) (sym (and-false (ltb at (length part))))

  -- with bytes left and an output of 512 or more, the code's comparison tells whether there is a next line
  pub next-is : at < length part → 512 ≤ length out → leb n (length out - 512) ≡ another part at out n
  unfolding another
  next-is h g = rw (lt-ltb at (length part) h) (room-is out n g)

  -- where there is a next line, bytes are left and the output has room
  pub has-next : {r : Bool} → r ≡ another part at out n → r ≡ true → (at < length part) × (roomy out n ≡ true)
  unfolding another
  has-next e t =
      let b : (ltb at (length part) ≡ true) × (roomy out n ≡ true) = both (ltb at (length part)) (roomy out n) (sym e ∙ t) in
      (ltb-true at (length part) b.0, b.1)

  no-next : {r : Bool} → r ≡ another part at out n → r ≡ false → at < length part → length out < n + 512
  unfolding another
  no-next e t h = go (lt-or-ge (length out) (n + 512))
    where
      go : (length out < n + 512) ⊎ (n + 512 ≤ length out) → length out < n + 512
      go (inl k) = k
      go (inr k) = clash (and_both (lt-ltb at (length part) h) (roomed out n k)) (sym e ∙ t)

-- ---- an answer in a buffer

-- what a printed text leaves of a buffer with room
record Put (before after : List ℕ) (at next : ℕ) (text : List ℕ) : Type 0 where
  head : take next after ≡ take at before ++ text
  tail : drop next after ≡ drop next before
  to : next ≡ at + length text
  fits : next ≤ length after

put : (before after : List ℕ) (at next : ℕ) (text : List ℕ) → roomy before at ≡ true → Printed before after at next text → Put before after at next text
put before after at next text r p =
    record {
      head = ap (take next) is ∙ take_at (take at before ++ text) (drop (at + length text) before) next size;
      tail = ap (drop next) is ∙ drop_at (take at before ++ text) (drop (at + length text) before) next size ∙ ap (λ (k : ℕ). drop k before) (sym to);
      to = to;
      fits = omega (arith, sizes, p.long, to, length-drop (at + length text) before);
    }
  where
    to : next ≡ at + length text
    to = rw r at p.to

    is : after ≡ (take at before ++ text) ++ drop (at + length text) before
    is = (rw r at p.is) ∙ sym (append_assoc (take at before) text (drop (at + length text) before))

    size : length (take at before ++ text) ≡ next
    size = length-append (take at before) text ∙ ap (λ (k : ℕ). k + length text) (length-take-le at before (omega (arith, room-long before at r))) ∙ sym to

    sizes : length after ≡ next + length (drop (at + length text) before)
    sizes = ap length is ∙ length-append (take at before ++ text) (drop (at + length text) before) ∙
        ap (λ (k : ℕ). k + length (drop (at + length text) before)) size

-- ---- the bytes of a part, as long as 512 bytes are free

module _ (opening : List ℕ → ℕ → Outcome) (size : ℕ) (h : Kept) where
  passed-byte : (text : List ℕ) (l : Line) (byte : ℕ) (rest : List ℕ) → (byte ≡ 10 → ⊥)
      → passed opening size h l text (byte ∷ rest) ≡ passed opening size h (extended l byte) text rest
  unfolding passed
  passed-byte text l byte rest n = rw (ne_eqb byte 10 n) refl

  passed-line : (text : List ℕ) (l : Line) (byte : ℕ) (rest : List ℕ) → byte ≡ 10
      → passed opening size h l text (byte ∷ rest)
      ≡ passed_on opening size (kept_after opening h (line_command l)) empty_line (text ++ answer_text opening h (line_command l)) rest
  unfolding passed passed_on
  passed-line text l byte rest e = rw (eq-eqb byte 10 e) refl

  module _ (l : Line) (text : List ℕ) where
    passed_none : passed opening size h l text [] ≡ record { kept = h; line = l; text = text; left = [] }
    unfolding passed
    passed_none = refl

    -- with no bytes all stays, with room or without it
    on_none : passed_on opening size h l text [] ≡ record { kept = h; line = l; text = text; left = [] }
    unfolding passed_on
    on_none = go (leb (length text + 512) size)
      where
        go : (b : Bool) → cond b (passed opening size h l text []) (record { kept = h; line = l; text = text; left = [] })
            ≡ record { kept = h; line = l; text = text; left = [] }
        go true = passed_none
        go false = refl

    on_room : (bytes : List ℕ) → length text + 512 ≤ size → passed_on opening size h l text bytes ≡ passed opening size h l text bytes
    unfolding passed_on
    on_room bytes r = rw (le-leb (length text + 512) size r) refl

    on-full : (bytes : List ℕ) → size < length text + 512 → passed_on opening size h l text bytes ≡ record { kept = h; line = l; text = text; left = bytes }
    unfolding passed_on
    on-full bytes r = rw (lt-leb (length text + 512) size r) refl

-- ---- one line

-- up to a line's end the line grows
module _ (part : List ℕ) (at end : ℕ) (e : ByteFrom 10 part at end) where
  -- the bytes from one place up to another
  abbrev up_to : List ℕ
  up_to = take (end - at) (drop at part)

  parted : drop at part ≡ up_to ++ drop end part
  parted =
      let q : at + (end - at) ≡ end = omega (arith, e.on) in
      sym (take-append-drop (end - at) (drop at part)) ∙ ap (λ (rest : List ℕ). up_to ++ rest) (drop-drop (end - at) at part ∙ ap (λ (n : ℕ). drop n part) q)

  none_in : (i : ℕ) → i < length up_to → get_or up_to i 0 ≡ 10 → ⊥
  none_in i h d =
      let n : length up_to ≡ end - at = length-take-le (end - at) (drop at part) (omega (arith, length-drop at part, e.within)) in
      let q : get_or up_to i 0 ≡ get_or part (at + i) 0 = get_or-take (end - at) (drop at part) i 0 (omega arith) ∙ get_or-drop at part i 0 in
      e.none (at + i) (omega arith) (omega arith) (sym q ∙ d)

  to_end : {X : Type 0} (g : Line → List ℕ → X) → ((l : Line) (byte : ℕ) (rest : List ℕ) → (byte ≡ 10 → ⊥) → g l (byte ∷ rest) ≡ g (extended l byte) rest)
      → (l : Line) (rest : List ℕ) → g l (drop at part ++ rest) ≡ g (fed l up_to) (drop end part ++ rest)
  to_end g step l rest =
      ap (λ (t : List ℕ). g l (t ++ rest)) parted
      ∙ ap (g l) (append_assoc up_to (drop end part) rest)
      ∙ passed-bytes g step l up_to (drop end part ++ rest) none_in

module _ (opening : List ℕ → ℕ → Outcome) (part before : List ℕ) (s : TermsProgress) (inside : s.at < length part) (room : roomy before s.length ≡ true)
    (end : ℕ) (e : ByteFrom 10 part s.at end) (l : Line) (f : l ≡ fed s.line (take (end - s.at) (drop s.at part))) where
  -- the text and what is kept, from the line's end on
  text-on : (rest : List ℕ) → rest_text opening s.kept s.line (drop s.at part ++ rest) ≡ rest_text opening s.kept l (drop end part ++ rest)
  text-on rest = to_end part s.at end e (rest_text opening s.kept) (text-byte opening s.kept) s.line rest ∙
      ap (λ (k : Line). rest_text opening s.kept k (drop end part ++ rest)) (sym f)

  kept_on : (rest : List ℕ) → rest_kept opening s.kept s.line (drop s.at part ++ rest) ≡ rest_kept opening s.kept l (drop end part ++ rest)
  kept_on rest = to_end part s.at end e (rest_kept opening s.kept) (kept_byte opening s.kept) s.line rest ∙
      ap (λ (k : Line). rest_kept opening s.kept k (drop end part ++ rest)) (sym f)

  -- the bytes of the part, from the line's end on
  ahead-on : (text : List ℕ) → passed opening (length before) s.kept s.line text (drop s.at part)
      ≡ passed opening (length before) s.kept l text (drop end part)
  ahead-on text =
      ap (passed opening (length before) s.kept s.line text) (sym (append-nil (drop s.at part)))
      ∙ to_end part s.at end e (λ (k : Line) (bytes : List ℕ). passed opening (length before) s.kept k text bytes)
      (passed-byte opening (length before) s.kept text) s.line []
      ∙ ap (passed opening (length before) s.kept (fed s.line (take (end - s.at) (drop s.at part))) text) (append-nil (drop end part))
      ∙ ap (λ (k : Line). passed opening (length before) s.kept k text (drop end part)) (sym f)

  -- the line does not end in the part
  pub goes-past : length part ≤ end → Next opening part before before s (record { kept = s.kept; line = l; at = end; length = s.length })
  goes-past h =
      record {
        piece = [];
        text = text-on;
        state = kept_on;
        is = sym (append-nil (take s.length before));
        unchanged = refl;
        long = refl;
        fits = (omega arith, omega (arith, room-long before s.length room));
        on = (omega arith, e.within);
        ahead = ahead-on (take s.length before) ∙ none_left;
      }
    where
      none_left : passed opening (length before) s.kept l (take s.length before) (drop end part)
          ≡ passed_on opening (length before) s.kept l (take s.length before) (drop end part)
      none_left =
          rw (drop_of_length-le part h)
          (passed_none opening (length before) s.kept l (take s.length before)
          ∙ sym (on_none opening (length before) s.kept l (take s.length before)))

  -- a line feed ends it
  pub is-answered : (after : List ℕ) (kept : Kept) (next : ℕ) (empty : Line) → end < length part → empty ≡ empty_line
      → kept ≡ kept_after opening s.kept (line_command l)
      → Printed before after s.length (next) (answer_text opening s.kept (line_command l))
      → Next opening part before after s (record { kept = kept; line = empty; at = end + 1; length = next })
  is-answered after kept next empty h n k p =
      record {
        piece = answer;
        text = λ rest. text-on rest ∙ text-ends rest;
        state = λ rest. kept_on rest ∙ kept-ends rest;
        is = w.head;
        unchanged = w.tail;
        long = p.long;
        fits = (omega (arith, w.to), w.fits);
        on = (omega (arith, e.on), omega arith);
        ahead = ahead-on (take s.length before) ∙ ahead-ends;
      }
    where
      answer : List ℕ
      answer = answer_text opening s.kept (line_command l)

      w : Put before after s.length (next) answer
      w = put before after s.length (next) answer room p

      cut : drop end part ≡ get_or part end 0 ∷ drop (end + 1) part
      cut = drop-cons part end 0 h ∙ ap (λ (k : ℕ). get_or part end 0 ∷ drop k part) (sym (add-one end))

      ahead-ends : passed opening (length before) s.kept l (take s.length before) (drop end part)
          ≡ passed_on opening (length before) kept empty (take next after) (drop (end + 1) part)
      ahead-ends =
          rw (cut, k, n, w.head)
          (passed-line opening (length before) s.kept (take s.length before) l (get_or part end 0) (drop (end + 1) part) (e.found h))

      text-ends : (rest : List ℕ) → rest_text opening s.kept l (drop end part ++ rest) ≡ answer ++ rest_text opening (kept) empty (drop (end + 1) part ++ rest)
      text-ends rest = rw (cut, k, n) (text-line opening s.kept l (get_or part end 0) (drop (end + 1) part ++ rest) (e.found h))

      kept-ends : (rest : List ℕ) → rest_kept opening s.kept l (drop end part ++ rest) ≡ rest_kept opening (kept) empty (drop (end + 1) part ++ rest)
      kept-ends rest = rw (cut, k, n) (kept_line opening s.kept l (get_or part end 0) (drop (end + 1) part ++ rest) (e.found h))

-- ---- all lines of a part

same-progress : (s : TermsProgress) (at n : ℕ) → at ≡ s.at → n ≡ s.length → s ≡ record { kept = s.kept; line = s.line; at = at; length = n }
same-progress s at n e d = rw (e, d) refl

-- on the way: nothing has been done yet, or the place has moved on
pub record Going (opening : List ℕ → ℕ → Outcome) (h : Kept) (l : Line) (part : List ℕ) (from : ℕ) (before after : List ℕ) (r : TermsProgress) : Type 0 where
  -- the text written so far and the text of what is left are the whole text
  pub text : (rest : List ℕ) → rest_text opening h l (drop from part ++ rest)
      ≡ take r.length after ++ rest_text opening r.kept r.line (drop r.at part ++ rest)
  -- what is left leads to what the whole leaves
  pub state : (rest : List ℕ) → rest_kept opening h l (drop from part ++ rest) ≡ rest_kept opening r.kept r.line (drop r.at part ++ rest)
  -- the text written is no longer than the output
  pub fits : r.length ≤ length after
  -- the output after the text written is as before
  pub unchanged : drop r.length after ≡ drop r.length before
  -- the output keeps its length
  pub long : length after ≡ length before
  -- the place does not pass the end of the part
  pub within : from ≤ length part → r.at ≤ length part
  -- nothing has been done yet, or there was room and a byte and the place has moved on
  pub on : ((r ≡ record { kept = h; line = l; at = from; length = 0 }) × (after ≡ before)) ⊎ ((512 ≤ length before) × (from < length part) × (from < r.at))
  -- passing on the whole is passing on what is left after the text written so far
  pub ahead : passed_on opening (length before) h l [] (drop from part)
      ≡ passed_on opening (length before) r.kept r.line (take r.length after) (drop r.at part)

module _ (opening : List ℕ → ℕ → Outcome) (h : Kept) (l : Line) (part : List ℕ) (from : ℕ) (before : List ℕ) where
  -- the state before the first line of a part
  pub begins : Going opening h l part from before before (record { kept = h; line = l; at = from; length = 0 })
  begins =
      record {
        text = λ rest. refl;
        state = λ rest. refl;
        fits = omega arith;
        unchanged = refl;
        long = refl;
        within = λ k. k;
        on = inl (refl, refl);
        ahead = refl;
      }

  module _ (out : List ℕ) (s : TermsProgress) (g : Going opening h l part from before out s) where
    -- the state after one more step of a part
    pub goes : (after : List ℕ) (r : TermsProgress) {b : Bool} → b ≡ another part s.at out s.length → b ≡ true → Next opening part out after s r
        → Going opening h l part from before after r
    goes after r e t n =
        record {
          text = λ rest. g.text rest ∙ joined rest;
          state = λ rest. g.state rest ∙ n.state rest;
          fits = n.fits.1;
          unchanged = n.unchanged ∙ cut;
          long = n.long ∙ g.long;
          within = λ k. n.on.1;
          on = inr (omega (arith, room-long out s.length room.1, g.long), came g.on, later g.on);
          ahead = g.ahead ∙ on_room opening (length before) s.kept s.line (take s.length out) (drop s.at part) free ∙ rw g.long at n.ahead;
        }
      where
        room : (s.at < length part) × (roomy out s.length ≡ true)
        room = has-next part s.at out s.length e t

        in-part : s.at < length part
        in-part = room.0

        free : length (take s.length out) + 512 ≤ length before
        free = omega (arith, length-take-le s.length out g.fits, room-long out s.length room.1, g.long)

        joined : (rest : List ℕ) → take s.length out ++ rest_text opening s.kept s.line (drop s.at part ++ rest)
            ≡ take r.length after ++ rest_text opening r.kept r.line (drop r.at part ++ rest)
        joined rest =
            rw (n.text rest, n.is)
            (sym (append_assoc (take s.length out) n.piece (rest_text opening r.kept r.line (drop r.at part ++ rest))))

        further : s.length + (r.length - s.length) ≡ r.length
        further = omega (arith, n.fits.0)

        far : (a : List ℕ) → drop r.length a ≡ drop (r.length - s.length) (drop s.length a)
        far a = sym (drop-drop (r.length - s.length) s.length a ∙ ap (λ (k : ℕ). drop k a) further)

        cut : drop r.length out ≡ drop r.length before
        cut = far out ∙ ap (drop (r.length - s.length)) g.unchanged ∙ sym (far before)

        same_place : s ≡ record { kept = h; line = l; at = from; length = 0 } → s.at ≡ from
        same_place e = ap (λ (q : TermsProgress). q.at) e

        came : ((s ≡ record { kept = h; line = l; at = from; length = 0 }) × (out ≡ before)) ⊎ ((512 ≤ length before) × (from < length part) × (from < s.at))
            → from < length part
        came (inl e) = omega (arith, same_place e.0, in-part)
        came (inr e) = e.1

        later : ((s ≡ record { kept = h; line = l; at = from; length = 0 }) × (out ≡ before)) ⊎ ((512 ≤ length before) × (from < length part) × (from < s.at))
            → from < r.at
        later (inl e) = omega (arith, same_place e.0, n.on.0)
        later (inr e) = omega (arith, e.2, n.on.0)

    -- when there is no next line the part is answered
    pub finishes : {b : Bool} → b ≡ another part s.at out s.length → b ≡ false → Answers opening h l part from before out s
    finishes e t =
        record {
          text = g.text;
          state = g.state;
          fits = g.fits;
          unchanged = g.unchanged;
          long = g.long;
          moves = λ m i. moved m i g.on;
          within = g.within;
          full = λ i. omega (arith, no_more i, g.long);
          idle = λ e. stays e g.on;
          is = same-progress s _ _ (place g.on) count ∙ ap (progress_of part from) (sym (g.ahead ∙ stopped (lt-or-ge s.at (length part))));
          bytes = sym (ap (λ (p : Passed). p.text) (g.ahead ∙ stopped (lt-or-ge s.at (length part))));
        }
      where
        no_more : s.at < length part → length out < s.length + 512
        no_more = no-next part s.at out s.length e t

        Start : Type 0
        Start = (s ≡ record { kept = h; line = l; at = from; length = 0 }) × (out ≡ before)

        Moved : Type 0
        Moved = (512 ≤ length before) × (from < length part) × (from < s.at)

        moved : 512 ≤ length before → from < length part → Start ⊎ Moved → from < s.at
        moved m i (inl e) =
            let a : s.at ≡ from = ap (λ (q : TermsProgress). q.at) e.0 in
            let n : s.length ≡ 0 = ap (λ (q : TermsProgress). q.length) e.0 in
            let k : length out < s.length + 512 = no_more (omega arith) in
            omega (arith, g.long)
        moved m i (inr e) = e.2

        count : length (take s.length out) ≡ s.length
        count = length-take-le s.length out g.fits

        place : Start ⊎ Moved → from + (length (drop from part) - length (drop s.at part)) ≡ s.at
        place (inl e) =
            let a : s.at ≡ from = ap (λ (q : TermsProgress). q.at) e.0 in
            omega (arith, ap (λ (k : ℕ). length (drop k part)) a)
        place (inr e) =
            let w : s.at ≤ length part = g.within (omega (arith, e.1)) in
            omega (arith, length-drop from part, length-drop s.at part, e.1, e.2)

        stopped : (s.at < length part) ⊎ (length part ≤ s.at)
            → passed_on opening (length before) s.kept s.line (take s.length out) (drop s.at part)
            ≡ record { kept = s.kept; line = s.line; text = take s.length out; left = drop s.at part }
        stopped (inl i) =
            on-full opening (length before) s.kept s.line (take s.length out) (drop s.at part) (omega (arith, count, no_more i, g.long))
        stopped (inr i) = rw (drop_of_length-le part i) (on_none opening (length before) s.kept s.line (take s.length out))

        stays : (length before < 512) ⊎ (length part ≤ from) → Start ⊎ Moved → Start
        stays e (inl d) = d
        stays (inl e) (inr d) = absurd (omega (arith, d.0))
        stays (inr e) (inr d) = absurd (omega (arith, d.1))

-- ---- the last line

module _ (opening : List ℕ → ℕ → Outcome) (h : Kept) (l : Line) (before : List ℕ) where
  kept-none : l.length ≡ 0 → rest_kept opening h l [] ≡ h
  kept-none e = kept-end opening h l ∙ rw (eq-eqb l.length 0 e) refl

  kept-last : (l.length ≡ 0 → ⊥) → rest_kept opening h l [] ≡ kept_after opening h (line_command l)
  kept-last e = kept-end opening h l ∙ rw (ne_eqb l.length 0 e) refl

  -- without a begun line the last answer is empty
  pub no_last : l.length ≡ 0 → LastAnswer opening h l before before (record { length = 0; refused = h.refused })
  no_last e =
      record {
        text = λ r. text-end opening h l ∙ rw (eq-eqb l.length 0 e) refl;
        refused = ap (λ (k : Kept). k.refused) (sym (kept-none e));
        fits = omega arith;
        unchanged = refl;
        long = refl;
        idle = λ r. (refl, refl);
      }

  -- a begun line gets its answer as the last one
  pub last : (after : List ℕ) (next : ℕ) (kept : Kept) → (l.length ≡ 0 → ⊥) → kept ≡ kept_after opening h (line_command l)
      → Printed before after 0 next (answer_text opening h (line_command l))
      → LastAnswer opening h l before after (record { length = next; refused = kept.refused })
  last after next kept e s p = go (lt-or-ge (length before) 512)
    where
      told : kept.refused ≡ (rest_kept opening h l []).refused
      told = ap (λ (k : Kept). k.refused) (s ∙ sym (kept-last e))

      answer : List ℕ
      answer = answer_text opening h (line_command l)

      go : (length before < 512) ⊎ (512 ≤ length before) → LastAnswer opening h l before after (record { length = next; refused = kept.refused })
      go (inl k) =
          let n : next ≡ 0 = rw (no_room before 0 k) at p.to in
          let a : after ≡ before = rw (no_room before 0 k) at p.is in
          record { text = λ r. absurd (omega arith); refused = told; fits = omega arith; unchanged = ap (drop next) a; long = p.long; idle = λ r. (n, a) }
      go (inr k) =
          let w : Put before after 0 next answer = put before after 0 next answer (roomed before 0 k) p in
          record {
            text = λ r. text-end opening h l ∙ rw (ne_eqb l.length 0 e) (sym w.head);
            refused = told;
            fits = w.fits;
            unchanged = w.tail;
            long = p.long;
            idle = λ r. absurd (omega arith);
          }
