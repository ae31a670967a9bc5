-- A text is what comes next of itself, what comes next comes in its parts one after the other, and so do the parts of a numbered row of parts.
-- Assumes nothing.
use mathlib.Core.Path.{◌≡◌, refl, ◌∙◌, sym, ap}
use mathlib.Core.List.{List, ◌++◌}
use mathlib.Core.Logic.{◌⊎◌, inl, inr}
use Prim.Native.Nat.{ℕ, zero, suc, ◌+◌, ◌≤◌, ◌<◌}
use native.Mathlib.Numerals.{add-one}
use native.Mathlib.Omega.{arith}
use lib.ListN.{length, take, drop, length-append}
use lib.Seq.{take-length, take-take, take-add, take-append_seam, drop-append_seam, drop-drop}
use Rattle.questions.proofs.Bools.{lt-or-ge}
use Rattle.delivery_parts.specs.PlaceParts.{parts_text}
use Rattle.file_text_print.specs.WholeText.{NextOf}

-- a text comes next of itself, from its start
pub next-whole : (text : List ℕ) → NextOf text 0 text
next-whole text = record { is = take-length text; within = omega arith }

module _ (text : List ℕ) (at : ℕ) (a b : List ℕ) (n : NextOf text at (a ++ b)) where
  both : take (length a + length b) (drop at text) ≡ a ++ b
  both = ap (λ (k : ℕ). take k (drop at text)) (sym (length-append a b)) ∙ n.is

  first-is : take (length a) (drop at text) ≡ a
  first-is = sym (take-take (length a) (length a + length b) (drop at text) (omega arith)) ∙ ap (take (length a)) both ∙ take-append_seam a b

  -- the first of two parts comes next
  pub next-first : NextOf text at a
  next-first = record { is = first-is; within = omega (arith, n.within, length-append a b) }

  abbrev after : List ℕ
  after = take (length b) (drop (length a) (drop at text))

  split : a ++ after ≡ a ++ b
  split = ap (λ (l : List ℕ). l ++ after) (sym first-is) ∙ sym (take-add (length a) (length b) (drop at text)) ∙ both

  -- and after it the second
  pub next-rest : NextOf text (at + length a) b
  next-rest =
      record {
        is =
            ap (take (length b)) (sym (drop-drop (length a) at text))
            ∙ sym (drop-append_seam a after) ∙ ap (drop (length a)) split ∙ drop-append_seam a b;
        within = omega (arith, n.within, length-append a b);
      }

-- ---- numbered parts

-- the first 0 of some numbered parts have no bytes
pub parts_none : (part : ℕ → List ℕ) → length (parts_text part 0) ≡ 0
unfolding parts_text
parts_none part = refl

-- one more numbered part adds its own length
pub parts_more : (part : ℕ → List ℕ) (n : ℕ) → length (parts_text part (n + 1)) ≡ length (parts_text part n) + length (part n)
unfolding parts_text
parts_more part n = rw (add-one n) (length-append (parts_text part n) (part n))

-- each numbered part comes next after the parts before it
pub next-part : (text : List ℕ) (at : ℕ) (part : ℕ → List ℕ) (p n : ℕ) → p < n → NextOf text at (parts_text part n)
    → NextOf text (at + length (parts_text part p)) (part p)
unfolding parts_text
next-part text at part p zero h x = absurd (omega arith)
next-part text at part p (suc n) h x =
    go (lt-or-ge p n) (λ l. next-part text at part p n l (next-first text at (parts_text part n) (part n) x))
  where
    go : (p < n) ⊎ (n ≤ p) → (p < n → NextOf text (at + length (parts_text part p)) (part p)) → NextOf text (at + length (parts_text part p)) (part p)
    go (inl l) earlier = earlier l
    go (inr l) earlier =
        let e : p ≡ n = omega arith in
        rw e (next-rest text at (parts_text part n) (part n) x)
