-- A line up to its line feed or to the end of a part: the place after it, and what is given for the rest of an input by it, over any state.
-- Assumes nothing.
use mathlib.Core.Path.{◌≡◌, refl, ◌∙◌, sym, ap}
use mathlib.Core.Bool.{Bool, true, false, cond}
use mathlib.Core.List.{List, [], ◌∷◌, ◌++◌}
use Prim.Native.Nat.{ℕ, suc, ◌+◌, ◌≤◌, ◌<◌}
use native.Mathlib.Numerals.{add-one}
use native.Mathlib.Omega.{arith}
use lib.Dec.{eqb}
use lib.ListN.{length, get_or, drop, drop_of_length-le, length-drop}
use lib.Seq.{drop-cons, drop-drop}
use borrow.Author.Tests.{eq-eqb, ne_eqb}
use Rattle.questions.proofs.Bools.{clash}
use Rattle.session_lines.specs.InputRest.{rest_over}
use Rattle.delivery_items.specs.declared.LongLine.{LongLine}
use Rattle.delivery_items.specs.declared.LineEnd.{LineEnd}
use Rattle.delivery_items.specs.Items.{empty_long, lengthened}
use Rattle.delivery_items.specs.LineEnds.{line_end}

-- ---- the loop

module _ (l : LongLine) (part : List ℕ) (i : ℕ) where
  -- a byte that is no line feed is one byte more of the line
  pub line_on : i < length part → (get_or part i 0 ≡ 10 → ⊥) → (m : LongLine) → m ≡ lengthened l (get_or part i 0)
      → line_end m (drop (i + 1) part) (i + 1) ≡ line_end l (drop i part) i
  unfolding line_end
  line_on h n m q = rw (q, drop-cons part i 0 h, ne_eqb (get_or part i 0) 10 n, add-one i) refl

  -- a line feed ends the line
  pub line-ends : i < length part → get_or part i 0 ≡ 10 → record { line = l; next = i + 1; ended = true } ≡ line_end l (drop i part) i
  unfolding line_end
  line-ends h e = rw (drop-cons part i 0 h, eq-eqb (get_or part i 0) 10 e) refl

  -- past the last byte the part ends
  pub part-ends : length part ≤ i → record { line = l; next = i; ended = false } ≡ line_end l (drop i part) i
  unfolding line_end
  part-ends h = rw (drop_of_length-le part {i = i} h) refl

-- ---- the place after the line

-- the place does not go back
stays : (l : LongLine) (xs : List ℕ) (at : ℕ) → at ≤ (line_end l xs at).next
unfolding line_end
stays l [] at = omega arith
stays l (byte ∷ rest) at = go (eqb byte 10) (stays (lengthened l byte) rest (at + 1))
  where
    go : (b : Bool) → at + 1 ≤ (line_end (lengthened l byte) rest (at + 1)).next
        → at ≤ (cond b (record { line = l; next = at + 1; ended = true }) (line_end (lengthened l byte) rest (at + 1))).next
    go true h = omega arith
    go false h = omega arith

-- with a byte it moves on
moves : (l : LongLine) (byte : ℕ) (rest : List ℕ) (at : ℕ) → at < (line_end l (byte ∷ rest) at).next
unfolding line_end
moves l byte rest at = go (eqb byte 10) (stays (lengthened l byte) rest (at + 1))
  where
    go : (b : Bool) → at + 1 ≤ (line_end (lengthened l byte) rest (at + 1)).next
        → at < (cond b (record { line = l; next = at + 1; ended = true }) (line_end (lengthened l byte) rest (at + 1))).next
    go true h = omega arith
    go false h = omega arith

-- it does not go past the bytes
most : (l : LongLine) (xs : List ℕ) (at : ℕ) → (line_end l xs at).next ≤ at + length xs
unfolding line_end
most l [] at = omega arith
most l (byte ∷ rest) at = go (eqb byte 10) (most (lengthened l byte) rest (at + 1))
  where
    go : (b : Bool) → (line_end (lengthened l byte) rest (at + 1)).next ≤ at + 1 + length rest
        → (cond b (record { line = l; next = at + 1; ended = true }) (line_end (lengthened l byte) rest (at + 1))).next ≤ at + suc (length rest)
    go true h = omega arith
    go false h = omega arith

-- without a line feed it is the place after them
all : (l : LongLine) (xs : List ℕ) (at : ℕ) → (line_end l xs at).ended ≡ false → (line_end l xs at).next ≡ at + length xs
unfolding line_end
all l [] at e = omega arith
all l (byte ∷ rest) at e = go (eqb byte 10) (all (lengthened l byte) rest (at + 1)) e
  where
    go : (b : Bool) → ((line_end (lengthened l byte) rest (at + 1)).ended ≡ false → (line_end (lengthened l byte) rest (at + 1)).next ≡ at + 1 + length rest)
        → (cond b (record { line = l; next = at + 1; ended = true }) (line_end (lengthened l byte) rest (at + 1))).ended ≡ false
        → (cond b (record { line = l; next = at + 1; ended = true }) (line_end (lengthened l byte) rest (at + 1))).next ≡ at + suc (length rest)
    go true h f = clash refl f
    go false h f = omega (arith, h f)

-- ---- the rest of an input

-- what is given for the rest of an input, over any state
module _ {S R : Type 0} (done : S → R) (taken : S → LongLine → (S → R) → R) where
  rest : S → LongLine → List ℕ → R
  rest = rest_over empty_long lengthened (λ l. l.length) done taken

  -- a line that ends is taken
  ended-in : (s : S) (l : LongLine) (part : List ℕ) (at : ℕ) (xs later : List ℕ) → drop at part ≡ xs → (line_end l xs at).ended ≡ true
      → rest s l (xs ++ later) ≡ taken s (line_end l xs at).line (λ after. rest after empty_long (drop (line_end l xs at).next part ++ later))
  unfolding line_end rest_over rest
  ended-in s l part at [] later q e = clash e refl
  ended-in s l part at (byte ∷ xs) later q e =
      let z : drop (at + 1) part ≡ xs = sym (drop-drop 1 at part) ∙ ap (drop 1) q in
      go (eqb byte 10) z (ended-in s (lengthened l byte) part (at + 1) xs later z) e
    where
      go : (b : Bool) → drop (at + 1) part ≡ xs
          → ((line_end (lengthened l byte) xs (at + 1)).ended ≡ true → rest s (lengthened l byte) (xs ++ later)
          ≡ taken s (line_end (lengthened l byte) xs (at + 1)).line
          (λ after. rest after empty_long (drop (line_end (lengthened l byte) xs (at + 1)).next part ++ later)))
          → (cond b (record { line = l; next = at + 1; ended = true }) (line_end (lengthened l byte) xs (at + 1))).ended ≡ true
          → cond b (taken s l (λ after. rest after empty_long (xs ++ later))) (rest s (lengthened l byte) (xs ++ later))
          ≡ taken s (cond b (record { line = l; next = at + 1; ended = true }) (line_end (lengthened l byte) xs (at + 1))).line
          (λ after. rest after empty_long (drop (cond b (record { line = l; next = at + 1; ended = true }) (line_end (lengthened l byte) xs (at + 1))).next part
          ++ later))
      go true z h f = rw z refl
      go false z h f = h f

  -- one that does not end goes on with what is later
  begun-in : (s : S) (l : LongLine) (at : ℕ) (xs later : List ℕ) → (line_end l xs at).ended ≡ false
      → rest s l (xs ++ later) ≡ rest s (line_end l xs at).line later
  unfolding line_end rest_over rest
  begun-in s l at [] later e = refl
  begun-in s l at (byte ∷ xs) later e = go (eqb byte 10) (begun-in s (lengthened l byte) (at + 1) xs later) e
    where
      go : (b : Bool) → ((line_end (lengthened l byte) xs (at + 1)).ended ≡ false → rest s (lengthened l byte) (xs ++ later)
          ≡ rest s (line_end (lengthened l byte) xs (at + 1)).line later)
          → (cond b (record { line = l; next = at + 1; ended = true }) (line_end (lengthened l byte) xs (at + 1))).ended ≡ false
          → cond b (taken s l (λ after. rest after empty_long (xs ++ later))) (rest s (lengthened l byte) (xs ++ later))
          ≡ rest s (cond b (record { line = l; next = at + 1; ended = true }) (line_end (lengthened l byte) xs (at + 1))).line later
      go true h f = clash refl f
      go false h f = h f

-- ---- a line from a place of a part on

module _ (l : LongLine) (part : List ℕ) (from : ℕ) (e : LineEnd) (is : e ≡ line_end l (drop from part) from) where
  -- inside the part the place moves on
  pub end_on : from < length part → from < e.next
  end_on h = rw (is, drop-cons part from 0 h) (moves l (get_or part from 0) (drop (suc from) part) from)

  -- a place that begins in the part stays in the part
  pub end-within : from ≤ length part → e.next ≤ length part
  end-within h = rw is (omega (arith, most l (drop from part) from, length-drop from part))

  -- where the line does not end, the part is used up
  pub end-used : e.ended ≡ false → length part ≤ e.next
  end-used n = rw is (omega (arith, all l (drop from part) from (sym (ap (λ (x : LineEnd). x.ended) is) ∙ n), length-drop from part))

  module _ {S R : Type 0} (done : S → R) (taken : S → LongLine → (S → R) → R) (s : S) (later : List ℕ) where
    -- a line that ends is taken, and the next begins after it
    pub rest_ended : e.ended ≡ true → rest_over empty_long lengthened (λ x. x.length) done taken s l (drop from part ++ later)
        ≡ taken s e.line (λ after. rest_over empty_long lengthened (λ x. x.length) done taken after empty_long (drop e.next part ++ later))
    unfolding rest
    rest_ended y = rw is (ended-in done taken s l part from (drop from part) later refl (sym (ap (λ (x : LineEnd). x.ended) is) ∙ y))

    -- one that does not end goes on with what is later
    pub rest-begun : e.ended ≡ false → rest_over empty_long lengthened (λ x. x.length) done taken s l (drop from part ++ later)
        ≡ rest_over empty_long lengthened (λ x. x.length) done taken s e.line later
    unfolding rest
    rest-begun n = rw is (begun-in done taken s l from (drop from part) later (sym (ap (λ (x : LineEnd). x.ended) is) ∙ n))
