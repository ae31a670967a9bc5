-- A line without the blanks at its end is what is left when the last byte is taken off as long as it is a blank.
-- Assumes nothing.
use mathlib.Core.Path.{◌≡◌, refl, ◌∙◌, sym, ap}
use mathlib.Core.Bool.{true, false, and-false}
use mathlib.Core.Logic.{◌⊎◌, inl, inr}
use mathlib.Core.List.{List, [], ◌∷◌, ◌++◌}
use Prim.Native.Nat.{ℕ, suc, ◌+◌, ◌-◌, ◌≤◌, ◌<◌}
use native.Mathlib.Omega.{arith}
use lib.Dec.{eqb}
use lib.ListN.{length, get_or, take, length-append, get_or-eq_default}
use lib.Seq.{take-suc}
use borrow.Author.Tests.{ne_eqb}
use Rattle.questions.proofs.Bools.{lt-or-ge}
use Rattle.delivery_lines.specs.NoticeLines.{blank, trimmed, mark_length}

-- a blank more at the end plays no part
pub trimmed-blank : (xs : List ℕ) (b : ℕ) → blank b ≡ true → trimmed (xs ++ (b ∷ [])) ≡ trimmed xs
unfolding trimmed
trimmed-blank [] b e = rw e refl
trimmed-blank (x ∷ xs) b e = rw (trimmed-blank xs b e) refl

-- after any other byte nothing is taken off
pub trimmed-solid : (xs : List ℕ) (b : ℕ) → blank b ≡ false → trimmed (xs ++ (b ∷ [])) ≡ xs ++ (b ∷ [])
unfolding trimmed
trimmed-solid [] b e = rw e refl
trimmed-solid (x ∷ xs) b e =
    let n : length (xs ++ (b ∷ [])) ≡ length xs + 1 = length-append xs (b ∷ []) in
    rw (trimmed-solid xs b e, ne_eqb (length (xs ++ (b ∷ []))) 0 (λ z. omega arith), and-false (blank x)) refl

last_byte : (line : List ℕ) (n : ℕ) → 0 < n → n ≤ length line → take n line ≡ take (n - 1) line ++ (get_or line (n - 1) 0 ∷ [])
last_byte line n h l =
    let e : n ≡ suc (n - 1) = omega arith in
    ap (λ (k : ℕ). take k line) e ∙ take-suc line (n - 1) 0 (omega arith)

nothing-trimmed : (line : List ℕ) (n : ℕ) → n ≤ 0 → trimmed (take n line) ≡ take n line
unfolding trimmed
nothing-trimmed line n h = let z : n ≡ 0 = omega arith in rw z refl

-- leaving out a blank at the end does not change the trimmed line
pub trim-more : (line : List ℕ) (n : ℕ) → n ≤ length line → 0 < n → blank (get_or line (n - 1) 0) ≡ true → trimmed (take n line) ≡ trimmed line
    → trimmed (take (n - 1) line) ≡ trimmed line
trim-more line n l h b t =
    sym (trimmed-blank (take (n - 1) line) (get_or line (n - 1) 0) b) ∙ ap trimmed (sym (last_byte line n h l)) ∙ t

-- a part that does not end with a blank is the trimmed line: none of its bytes are left, or its last is another byte
pub trim-done : (line : List ℕ) (n : ℕ) → n ≤ length line → (0 < n → blank (get_or line (n - 1) 0) ≡ false) → trimmed (take n line) ≡ trimmed line
    → take n line ≡ trimmed line
trim-done line n l e t = sym (go (lt-or-ge 0 n)) ∙ t
  where
    go : (0 < n) ⊎ (n ≤ 0) → trimmed (take n line) ≡ take n line
    go (inl h) = rw (last_byte line n h l) (trimmed-solid (take (n - 1) line) (get_or line (n - 1) 0) (e h))
    go (inr h) = nothing-trimmed line n h

-- a line of blanks alone has nothing that is left
pub trim-none : (line : List ℕ) (n : ℕ) → n ≤ 0 → trimmed (take n line) ≡ trimmed line → [] ≡ trimmed line
unfolding trimmed
trim-none line n h t = let z : n ≡ 0 = omega arith in rw z at t

-- the byte order mark, byte by byte
module _ (text : List ℕ) where
  -- a text of fewer than three bytes has no mark
  pub mark-short : length text < 3 → 0 ≡ mark_length text
  unfolding mark_length
  mark-short h =
      let z : get_or text 2 0 ≡ 0 = get_or-eq_default text 0 (omega arith) in
      rw (z, and-false (eqb (get_or text 1 0) 187), and-false (eqb (get_or text 0 0) 239)) refl

  -- a text without the first byte of the mark has no mark
  pub mark-first : (get_or text 0 0 ≡ 239 → ⊥) → 0 ≡ mark_length text
  unfolding mark_length
  mark-first e = rw (ne_eqb (get_or text 0 0) 239 e) refl

  -- a text without the second byte of the mark has no mark
  pub mark-second : (get_or text 1 0 ≡ 187 → ⊥) → 0 ≡ mark_length text
  unfolding mark_length
  mark-second e = rw (ne_eqb (get_or text 1 0) 187 e, and-false (eqb (get_or text 0 0) 239)) refl

  -- a text without the third byte of the mark has no mark
  pub mark-third : (get_or text 2 0 ≡ 191 → ⊥) → 0 ≡ mark_length text
  unfolding mark_length
  mark-third e = rw (ne_eqb (get_or text 2 0) 191 e, and-false (eqb (get_or text 1 0) 187), and-false (eqb (get_or text 0 0) 239)) refl

  -- a text that begins with the three bytes of the mark has a mark of length 3
  pub mark-whole : get_or text 0 0 ≡ 239 → get_or text 1 0 ≡ 187 → get_or text 2 0 ≡ 191 → 3 ≡ mark_length text
  unfolding mark_length
  mark-whole a b c = rw (a, b, c) refl
