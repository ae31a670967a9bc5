-- The words of a line, space by space.
-- Assumes nothing.
use mathlib.Core.Path.{◌≡◌, refl, sym, ap, ◌∙◌}
use mathlib.Core.List.{List, [], ◌∷◌, ◌++◌, append-nil}
use mathlib.Core.Bool.{Bool, true, false, cond}
use Rattle.std.specs.Prelude.{◌==◌, count_by}
use mathlib.Core.Logic.{◌⊎◌, inl, inr}
use Prim.Native.Nat.{ℕ, zero, suc, ◌+◌, ◌-◌, ◌≤◌, ◌<◌}
use native.Mathlib.Numerals.{add-one}
use native.Mathlib.Omega.{arith}
use lib.Dec.{eqb}
use lib.ListN.{length, get_or, take, drop}
use lib.Seq.{drop-cons, drop-drop, drop-length, append_snoc, get_or-drop}
use borrow.Author.Tests.{ne_eqb}
use Rattle.std.proofs.lemmas.List.Sums.{sum_by-cons}
use Rattle.questions.proofs.Bools.{lt-or-ge}
use Rattle.session_lines.specs.BytePlaces.{ByteFrom}
use Rattle.file_text_lines.specs.Entries.{words_from, words_of, word_at}

-- bytes that are no spaces belong to the word that has begun
pass : (m : ℕ) (line begun : List ℕ) (from to : ℕ) → from + m ≡ to → to ≤ length line → ((i : ℕ) → from ≤ i → i < to → get_or line i 0 ≡ 32 → ⊥)
    → words_from begun (drop from line) ≡ words_from (begun ++ take m (drop from line)) (drop to line)
unfolding words_from
pass zero line begun from to e h none =
    let q : from ≡ to = omega arith in
    rw (q, append-nil begun) refl
pass (suc m) line begun from to e h none =
    let l : from < to = omega arith in
    let g : from < length line = omega arith in
    rw (drop-cons line from 0 g, ne_eqb (get_or line from 0) 32 (none from (omega arith) l))
    (pass m line (begun ++ (get_or line from 0 ∷ [])) (suc from) to (omega arith) h (λ i a b. none i (omega arith) b)
    ∙ ap (λ (w : List ℕ). words_from w (drop to line)) (append_snoc begun (get_or line from 0) (take m (drop (suc from) line))))

module _ (line : List ℕ) (from r : ℕ) (s : ByteFrom 32 line from r) where
  passed : words_of (drop from line) ≡ words_from (take (r - from) (drop from line)) (drop r line)
  passed = pass (r - from) line [] from r (omega (arith, s.on)) s.within s.none

  -- a word that a space ends, and one that the line ends
  pub word_more : r < length line → words_of (drop from line) ≡ take (r - from) (drop from line) ∷ words_of (drop (r + 1) line)
  unfolding words_from
  word_more h = passed ∙ rw (drop-cons line r 0 h, s.found h, add-one r) refl

  -- where a word ends with the line, it is the only word from its start on
  pub word-last : length line ≤ r → words_of (drop from line) ≡ take (r - from) (drop from line) ∷ []
  unfolding words_from
  word-last h =
      let e : r ≡ length line = omega (arith, s.within) in
      passed ∙ ap (words_from (take (r - from) (drop from line))) (ap (λ (n : ℕ). drop n line) e ∙ drop-length line)

-- a line has one word more than spaces, whatever its first word has begun with
pub words-of-spaces : (begun line : List ℕ) → length (words_from begun line) ≡ 1 + count_by (λ b. b == 32) line
unfolding words_from
words-of-spaces begun [] = refl
words-of-spaces begun (byte ∷ rest) = go (eqb byte 32) refl (words-of-spaces [] rest) (words-of-spaces (begun ++ (byte ∷ [])) rest)
  where
    go : (b : Bool) → eqb byte 32 ≡ b → length (words_from [] rest) ≡ 1 + count_by (λ b. b == 32) rest
        → length (words_from (begun ++ (byte ∷ [])) rest) ≡ 1 + count_by (λ b. b == 32) rest
        → length (words_from begun (byte ∷ rest)) ≡ 1 + count_by (λ b. b == 32) (byte ∷ rest)
    go true e ended longer =
        let one : length (words_from begun (byte ∷ rest)) ≡ 1 + length (words_from [] rest) = rw e (omega arith) in
        let more : count_by (λ b. b == 32) (byte ∷ rest) ≡ 1 + count_by (λ b. b == 32) rest = sum_by-cons (λ x. cond (x == 32) 1 0) byte rest ∙ rw e refl in
        one ∙ ap (λ n. 1 + n) (ended ∙ sym more)
    go false e ended longer =
        let same : length (words_from begun (byte ∷ rest)) ≡ length (words_from (begun ++ (byte ∷ [])) rest) = rw e refl in
        let more : count_by (λ b. b == 32) (byte ∷ rest) ≡ count_by (λ b. b == 32) rest = sum_by-cons (λ x. cond (x == 32) 1 0) byte rest ∙ rw e (omega arith) in
        same ∙ longer ∙ ap (λ n. 1 + n) (sym more)

-- the words from word i on are those of the line from a place on
module _ (line : List ℕ) (i from r : ℕ) (e : drop i (words_of line) ≡ words_of (drop from line)) (s : ByteFrom 32 line from r) where
  -- where a word ends before the line does, the words after it are those of the line after the space
  pub words-next : r < length line → drop (i + 1) (words_of line) ≡ words_of (drop (r + 1) line)
  words-next h = sym (drop-drop 1 i (words_of line)) ∙ ap (drop 1) (e ∙ word_more line from r s h)

  -- word i itself
  pub word-here : take (r - from) (drop from line) ≡ word_at line i
  unfolding word_at
  word-here = go (lt-or-ge r (length line))
    where
      at : get_or (drop i (words_of line)) 0 [] ≡ get_or (words_of line) i []
      at = get_or-drop i (words_of line) 0 [] ∙ ap (λ (n : ℕ). get_or (words_of line) n []) (omega arith)

      go : (r < length line) ⊎ (length line ≤ r) → take (r - from) (drop from line) ≡ get_or (words_of line) i []
      go (inl h) = sym (ap (λ (ws : List (List ℕ)). get_or ws 0 []) (e ∙ word_more line from r s h)) ∙ at
      go (inr h) = sym (ap (λ (ws : List (List ℕ)). get_or ws 0 []) (e ∙ word-last line from r s h)) ∙ at

  -- no word after the last
  pub word-beyond : length line ≤ r → (k : ℕ) → i < k → [] ≡ word_at line k
  unfolding word_at
  word-beyond h k l =
      let j : ℕ = k - i - 1 in
      let q : i + suc j ≡ k = omega arith in
      sym (ap (λ (ws : List (List ℕ)). get_or ws (suc j) []) (e ∙ word-last line from r s h)) ∙ get_or-drop i (words_of line) (suc j) [] ∙
      ap (λ (n : ℕ). get_or (words_of line) n []) q

-- within a list the default plays no part
pub same-default : (l : List ℕ) (i d e : ℕ) → i < length l → get_or l i d ≡ get_or l i e
same-default [] i d e h = absurd (omega arith)
same-default (x ∷ l) zero d e h = refl
same-default (x ∷ l) (suc i) d e h = same-default l i d e (omega arith)
