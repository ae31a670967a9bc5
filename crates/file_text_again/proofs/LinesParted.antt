-- The lines of a printed text are the lines that were printed, and the words of a line its words: no word has a space, and no line a line feed or a
-- blank at its end.
-- Assumes nothing.
use mathlib.Core.Path.{◌≡◌, refl, sym, ap, ◌∙◌}
use mathlib.Core.List.{List, [], ◌∷◌, ◌++◌, append-nil}
use mathlib.Core.Bool.{Bool, true, false, not, ◌||◌, and-false}
use mathlib.Core.Logic.{◌⊎◌, inl, inr}
use Prim.Native.Nat.{ℕ, ◌≤◌}
use native.Mathlib.Omega.{arith}
use lib.Dec.{eqb, leb}
use lib.ListN.{length, length-append}
use lib.Seq.{append_snoc}
use borrow.Author.Tests.{leb-true, eqb-true, ne_eqb}
use Rattle.questions.proofs.Bools.{both, and_both, or-either, or_left}
use Rattle.session_lines.specs.CommandLines.{lines_from}
use Rattle.file_text_lines.specs.Entries.{words_from, entry_of}
use Rattle.delivery_lines.specs.NoticeLines.{blank, trimmed, mark_length, unmarked}
use Rattle.delivery_own.proofs.RowBytes.{all_of, plain, field_in, no-blanks}
use Rattle.file_text_stripped.specs.Said.{text_said, bare_text, line_said}

-- ---- words

plain-least : (byte : ℕ) → plain byte ≡ true → 45 ≤ byte
unfolding plain
plain-least byte e = leb-true 45 byte (both (leb 45 byte) (not (eqb byte 59)) e).0

no-space : (byte : ℕ) → plain byte ≡ true → eqb byte 32 ≡ false
no-space byte e = let a : 45 ≤ byte = plain-least byte e in ne_eqb byte 32 (λ q. omega arith)

words-pass : (begun xs rest : List ℕ) → all_of plain xs ≡ true → words_from begun (xs ++ rest) ≡ words_from (begun ++ xs) rest
unfolding words_from all_of
words-pass begun [] rest e = ap (λ (w : List ℕ). words_from w rest) (sym (append-nil begun))
words-pass begun (x ∷ xs) rest e =
    let s = both (plain x) (all_of plain xs) e in
    rw (no-space x s.0)
    (words-pass (begun ++ (x ∷ [])) xs rest s.1 ∙ ap (λ (w : List ℕ). words_from w rest) (append_snoc begun x xs))

-- a word with a space after it is the first word, and the rest is parted after the space
pub word_next : (xs rest : List ℕ) → all_of plain xs ≡ true → words_from [] (xs ++ (32 ∷ rest)) ≡ xs ∷ words_from [] rest
unfolding words_from
word_next xs rest e = words-pass [] xs (32 ∷ rest) e

-- a word with nothing after it is the only word
pub word-last : (xs : List ℕ) → all_of plain xs ≡ true → words_from [] xs ≡ xs ∷ []
unfolding words_from
word-last xs e = ap (words_from []) (sym (append-nil xs)) ∙ words-pass [] xs [] e

-- ---- lines

-- a byte of a line: that of a word, or a space
unfoldable pub in_line : ℕ → Bool
in_line byte = plain byte || eqb byte 32

-- the bytes of a word are bytes of a line
pub word_in : (xs : List ℕ) → all_of plain xs ≡ true → all_of in_line xs ≡ true
unfolding all_of in_line
word_in [] e = refl
word_in (x ∷ xs) e =
    let s = both (plain x) (all_of plain xs) e in
    and_both (or_left (eqb x 32) s.0) (word_in xs s.1)

no-feed : (byte : ℕ) → in_line byte ≡ true → eqb byte 10 ≡ false
unfolding in_line
no-feed byte e = ne_eqb byte 10 (λ q. go (or-either (plain byte) (eqb byte 32) e) q)
  where
    go : (plain byte ≡ true) ⊎ (eqb byte 32 ≡ true) → byte ≡ 10 → ⊥
    go (inl p) q = omega (arith, plain-least byte p)
    go (inr p) q = omega (arith, eqb-true byte 32 p)

lines-pass : (begun xs rest : List ℕ) → all_of in_line xs ≡ true → lines_from begun (xs ++ rest) ≡ lines_from (begun ++ xs) rest
unfolding lines_from all_of
lines-pass begun [] rest e = ap (λ (w : List ℕ). lines_from w rest) (sym (append-nil begun))
lines-pass begun (x ∷ xs) rest e =
    let s = both (in_line x) (all_of in_line xs) e in
    rw (no-feed x s.0)
    (lines-pass (begun ++ (x ∷ [])) xs rest s.1 ∙ ap (λ (w : List ℕ). lines_from w rest) (append_snoc begun x xs))

-- the bytes before a line feed are one line, and the rest is parted after it
pub one_line : (xs rest : List ℕ) → all_of in_line xs ≡ true → lines_from [] (xs ++ (10 ∷ rest)) ≡ xs ∷ lines_from [] rest
unfolding lines_from
one_line xs rest e = lines-pass [] xs (10 ∷ rest) e

-- ---- what a printed line says

-- no blank stands at the end of a line that ends with a word
pub no_end : (xs ys : List ℕ) → all_of plain ys ≡ true → 1 ≤ length ys → trimmed (xs ++ ys) ≡ xs ++ ys
unfolding trimmed
no_end [] ys e h = no-blanks ys (field_in ys e)
no_end (x ∷ xs) ys e h =
    rw (no_end xs ys e h, ne_eqb (length (xs ++ ys)) 0 (λ q. omega (arith, length-append xs ys)), and-false (blank x)) refl

-- one that begins with a letter says its entry, the first of the text or another
pub said-letter : (first : Bool) (c : ℕ) (rest : List ℕ) → trimmed (c ∷ rest) ≡ c ∷ rest → (c ≡ 35 → ⊥) → (c ≡ 239 → ⊥)
    → line_said first (c ∷ rest) ≡ entry_of (c ∷ rest)
unfolding line_said text_said bare_text unmarked mark_length
said-letter true c rest t n m = rw (t, ne_eqb c 239 m, ne_eqb (length (c ∷ rest)) 0 (λ e. omega arith), ne_eqb c 35 n) refl
said-letter false c rest t n m = rw (t, ne_eqb (length (c ∷ rest)) 0 (λ e. omega arith), ne_eqb c 35 n) refl
