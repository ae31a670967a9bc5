-- The lines of a text, line feed by line feed.
-- Assumes nothing.
use mathlib.Core.Path.{◌≡◌, refl, ap, ◌∙◌}
use mathlib.Core.List.{List, [], ◌∷◌, ◌++◌, append-nil}
use mathlib.Core.Bool.{Bool, true, false, cond}
use mathlib.Core.Logic.{◌⊎◌, inl, inr}
use Prim.Native.Nat.{ℕ, zero, suc, ◌+◌, ◌-◌, ◌≤◌, ◌<◌}
use native.Mathlib.Numerals.{add-one}
use native.Mathlib.Omega.{arith}
use lib.Dec.{eqb, leb}
use lib.ListN.{length, get_or, take, drop, length-drop, length-append}
use lib.Seq.{drop-cons, append_snoc, length-take-le}
use borrow.Author.Tests.{ne_eqb, le-leb, lt-leb}
use Rattle.questions.proofs.Bools.{lt-or-ge}
use Rattle.session_lines.specs.CommandLines.{lines_from}
use Rattle.session_lines.specs.BytePlaces.{ByteFrom}

-- bytes that are no line feeds belong to the line that has begun
pass : (m : ℕ) (text begun : List ℕ) (from to : ℕ) → from + m ≡ to → to ≤ length text → ((i : ℕ) → from ≤ i → i < to → get_or text i 0 ≡ 10 → ⊥)
    → lines_from begun (drop from text) ≡ lines_from (begun ++ take m (drop from text)) (drop to text)
unfolding lines_from
pass zero text begun from to e h none =
    let q : from ≡ to = omega arith in
    rw (q, append-nil begun) refl
pass (suc m) text begun from to e h none =
    let l : from < to = omega arith in
    let g : from < length text = omega arith in
    rw (drop-cons text from 0 g, ne_eqb (get_or text from 0) 10 (none from (omega arith) l))
    (pass m text (begun ++ (get_or text from 0 ∷ [])) (suc from) to (omega arith) h (λ i a b. none i (omega arith) b)
    ∙ ap (λ (w : List ℕ). lines_from w (drop to text)) (append_snoc begun (get_or text from 0) (take m (drop (suc from) text))))

past : (n : ℕ) (text : List ℕ) → length text ≤ n → drop n text ≡ []
past zero [] h = refl
past (suc n) [] h = refl
past zero (x ∷ xs) h = absurd (omega arith)
past (suc n) (x ∷ xs) h = past n xs (omega arith)

-- from the end of a text on there are no lines
pub lines_none : (n : ℕ) (text : List ℕ) → length text ≤ n → lines_from [] (drop n text) ≡ []
unfolding lines_from
lines_none n text h = rw (past n text h) refl

module _ (text : List ℕ) (from r : ℕ) (f : from < length text) (s : ByteFrom 10 text from r) where
  passed : lines_from [] (drop from text) ≡ lines_from (take (r - from) (drop from text)) (drop r text)
  passed = pass (r - from) text [] from r (omega (arith, s.on)) s.within s.none

  ended : r < length text → lines_from [] (drop from text) ≡ take (r - from) (drop from text) ∷ lines_from [] (drop (r + 1) text)
  unfolding lines_from
  ended h = passed ∙ rw (drop-cons text r 0 h, s.found h, add-one r) refl

  last : length text ≤ r → lines_from [] (drop from text) ≡ take (r - from) (drop from text) ∷ lines_from [] (drop (r + 1) text)
  unfolding lines_from
  last h =
      let e : length (take (r - from) (drop from text)) ≡ r - from =
      length-take-le (r - from) (drop from text) (omega (arith, length-drop from text, s.within)) in
      passed ∙ rw (past r text h, past (r + 1) text (omega arith), ne_eqb (length (take (r - from) (drop from text))) 0 (λ z. omega arith)) refl

  -- the line that begins at a place inside the text, and the lines after it
  pub line-more : lines_from [] (drop from text) ≡ take (r - from) (drop from text) ∷ lines_from [] (drop (r + 1) text)
  line-more = go (lt-or-ge r (length text))
    where
      go : (r < length text) ⊎ (length text ≤ r) → lines_from [] (drop from text) ≡ take (r - from) (drop from text) ∷ lines_from [] (drop (r + 1) text)
      go (inl h) = ended h
      go (inr h) = last h

  -- the line is as long as its end is from its start
  pub line-length : length (take (r - from) (drop from text)) ≡ r - from
  line-length = length-take-le (r - from) (drop from text) (omega (arith, length-drop from text, s.within))

-- some lines begin at a place inside the text
some-lines : (begun text : List ℕ) → 0 < length begun + length text → 0 < length (lines_from begun text)
unfolding lines_from
some-lines begun [] h = rw (ne_eqb (length begun) 0 (λ z. omega arith)) (omega arith)
some-lines begun (byte ∷ rest) h = go (eqb byte 10) (some-lines (begun ++ (byte ∷ [])) rest)
  where
    go : (b : Bool) → (0 < length (begun ++ (byte ∷ [])) + length rest → 0 < length (lines_from (begun ++ (byte ∷ [])) rest))
        → 0 < length (cond b (begun ∷ lines_from [] rest) (lines_from (begun ++ (byte ∷ [])) rest))
    go true e = omega arith
    go false e = e (omega (arith, length-append begun (byte ∷ [])))

-- the line that ends at a place is the last where nothing follows it
pub is_last : (text : List ℕ) (n : ℕ) → leb (length text) n ≡ eqb (length (lines_from [] (drop n text))) 0
is_last text n = go (lt-or-ge n (length text))
  where
    go : (n < length text) ⊎ (length text ≤ n) → leb (length text) n ≡ eqb (length (lines_from [] (drop n text))) 0
    go (inl h) =
        let p : 0 < length (lines_from [] (drop n text)) = some-lines [] (drop n text) (omega (arith, length-drop n text)) in
        rw (lt-leb (length text) n h, ne_eqb (length (lines_from [] (drop n text))) 0 (λ z. omega arith)) refl
    go (inr h) = rw (le-leb (length text) n h, lines_none n text h) refl
