-- The lowest refusal of all blocks is the first question that some block answers no.
-- Assumes nothing.
use Prim.Native.Nat.{ℕ, zero, suc, ◌≤◌, ◌<◌}
use mathlib.Core.Path.{◌≡◌, refl, ◌∙◌, sym, ap, ap₂}
use mathlib.Core.Bool.{Bool, true, false, not, ◌&&◌, ◌||◌, cond}
use mathlib.Core.Logic.{◌⊎◌, inl, inr}
use mathlib.Core.List.{List, [], ◌∷◌}
use native.Mathlib.Omega.{arith}
use lib.ListN.{length}
use borrow.Author.Tests.{ne_eqb}
use Rattle.questions.specs.Questions.{Ask, ask, first_no}
use Rattle.questions.specs.Search.{every}
use Rattle.questions.proofs.Asks.{no-asks, first-yes, first-no}
use Rattle.file_blocks.specs.Blocks.{is_calendar, is_products, check_right, header_right, block_of}
use Rattle.file_calendar.specs.Calendars.{block_clean}
use Rattle.file_records.specs.Records.{records_right}
use Rattle.file_intake.specs.declared.Intake.{Intake}
use Rattle.file_intake.specs.Intake.{lower, in_turn, weeks_go_on, ids_go_on, block_asks, with_block, state_after}

-- questions with numbers one after the other
abbrev pub numbered : ℕ → List Bool → List Ask
numbered q [] = []
numbered q (p ∷ ps) = ask q p ∷ numbered (suc q) ps

-- the answers that are yes in both
abbrev pub each : List Bool → List Bool → List Bool
each [] ys = []
each (x ∷ xs) [] = []
each (x ∷ xs) (y ∷ ys) = (x && y) ∷ each xs ys

lower-none : (b : ℕ) → lower 0 b ≡ b
unfolding lower
lower-none b = refl

lower-left : (a b : ℕ) → 0 < a → (b ≡ 0) ⊎ (a ≤ b) → lower a b ≡ a
unfolding lower
lower-left a b h (inl e) = rw (ne_eqb a 0 (λ z. omega arith), e)
lower-left a b h (inr l) = rw (ne_eqb a 0 (λ z. omega arith), ne_eqb b 0 (λ z. omega arith)) (omega arith)

lower-right : (a b : ℕ) → 0 < b → (a ≡ 0) ⊎ (b ≤ a) → lower a b ≡ b
unfolding lower
lower-right a b h (inl e) = rw e
lower-right a b h (inr l) = rw (ne_eqb a 0 (λ z. omega arith), ne_eqb b 0 (λ z. omega arith)) (omega arith)

-- what follows a question is refused with a greater number
above : (q : ℕ) (ps : List Bool) → (first_no (numbered (suc q) ps) ≡ 0) ⊎ (q < first_no (numbered (suc q) ps))
above q [] = inl no-asks
above q (true ∷ ps) = side (above (suc q) ps)
  where
    side : (first_no (numbered (suc (suc q)) ps) ≡ 0) ⊎ (suc q < first_no (numbered (suc (suc q)) ps))
        → (first_no (numbered (suc q) (true ∷ ps)) ≡ 0) ⊎ (q < first_no (numbered (suc q) (true ∷ ps)))
    side (inl e) = inl (first-yes (suc q) (numbered (suc (suc q)) ps) refl ∙ e)
    side (inr h) = inr (omega (arith, first-yes (suc q) {b = true} (numbered (suc (suc q)) ps) refl))
above q (false ∷ ps) = inr (omega (arith, first-no (suc q) {b = false} (numbered (suc (suc q)) ps) refl))

weak : {q x : ℕ} → (x ≡ 0) ⊎ (q < x) → (x ≡ 0) ⊎ (q ≤ x)
weak (inl e) = inl e
weak (inr h) = inr (omega arith)

lower-ask : (q : ℕ) (a b : Bool) (x y z : ℕ) → 0 < q → (x ≡ 0) ⊎ (q < x) → (y ≡ 0) ⊎ (q < y) → lower x y ≡ z
    → lower (cond a x q) (cond b y q) ≡ cond (a && b) z q
lower-ask q true true x y z h l r e = e
lower-ask q true false x y z h l r e = lower-right x q h (weak l)
lower-ask q false true x y z h l r e = lower-left q y h (weak r)
lower-ask q false false x y z h l r e = lower-left q q h (inr (omega arith))

-- the lower of the refusals of two lists of answers is the first question that either list answers no
pub lower-each : (q : ℕ) (xs ys : List Bool) → length xs ≡ length ys
    → lower (first_no (numbered (suc q) xs)) (first_no (numbered (suc q) ys)) ≡ first_no (numbered (suc q) (each xs ys))
unfolding first_no
lower-each q [] [] e = lower-none 0
lower-each q [] (y ∷ ys) e = absurd (omega arith)
lower-each q (x ∷ xs) [] e = absurd (omega arith)
lower-each q (x ∷ xs) (y ∷ ys) e =
    lower-ask (suc q) x y (first_no (numbered (suc (suc q)) xs)) (first_no (numbered (suc (suc q)) ys)) _ (omega arith) (above (suc q) xs) (above (suc q) ys)
    (lower-each (suc q) xs ys (omega arith))

-- the answers of the block after the first k, and of all blocks before k
module _ (f : List ℕ) (n : ℕ) where
  -- the state after the first k blocks
  abbrev pub state : ℕ → Intake
  state k = state_after f n k

  -- question 2 of block k: its check is right
  abbrev pub yes2 : ℕ → Bool
  yes2 k = check_right (block_of f k)

  -- question 3 of block k: its header is right, with the count of blocks taken as its index
  abbrev pub yes3 : ℕ → Bool
  yes3 k = header_right (block_of f k) (state k).taken

  -- question 4 of block k: it is in turn after the blocks before it
  abbrev pub yes4 : ℕ → Bool
  yes4 k = in_turn (state k) (block_of f k)

  -- question 5 of block k: it is clean where it is a calendar block
  abbrev pub yes5 : ℕ → Bool
  yes5 k = not (is_calendar (block_of f k)) || block_clean (block_of f k)

  -- question 6 of block k: where it is a calendar block, no seven days without trading end in its year
  abbrev pub yes6 : ℕ → Bool
  yes6 k = not (is_calendar (block_of f k)) || weeks_go_on (state k).idle (block_of f k)

  -- question 7 of block k: its records are as stated where it is a product block
  abbrev pub yes7 : ℕ → Bool
  yes7 k = not (is_products (block_of f k)) || records_right (block_of f k)

  -- question 8 of block k: its ids rise from the last id before it
  abbrev pub yes8 : ℕ → Bool
  yes8 k = ids_go_on (state k) (block_of f k)

  -- the answers of block k to questions 2 to 8
  abbrev pub answers : ℕ → List Bool
  answers k = yes2 k ∷ yes3 k ∷ yes4 k ∷ yes5 k ∷ yes6 k ∷ yes7 k ∷ yes8 k ∷ []

  -- the answers to questions 2 to 8 over the first k blocks together
  abbrev pub answers_below : ℕ → List Bool
  answers_below k = every k yes2 ∷ every k yes3 ∷ every k yes4 ∷ every k yes5 ∷ every k yes6 ∷ every k yes7 ∷ every k yes8 ∷ []

  asks-are : (k : ℕ) → first_no (block_asks (state k) (block_of f k)) ≡ first_no (numbered 2 (answers k))
  unfolding block_asks
  asks-are k = refl

  next-lowest : (k : ℕ) → (state (suc k)).lowest ≡ lower (state k).lowest (first_no (block_asks (state k) (block_of f k)))
  unfolding state_after with_block
  next-lowest k = refl

  all-each : (k : ℕ) → answers_below (suc k) ≡ each (answers_below k) (answers k)
  unfolding every
  all-each k = refl

  none-lowest : (state 0).lowest ≡ first_no (numbered 2 (answers_below 0))
  unfolding state_after every first_no
  none-lowest = refl

  -- the lowest refusal after k blocks
  pub lowest-is : (k : ℕ) → (state k).lowest ≡ first_no (numbered 2 (answers_below k))
  lowest-is zero = none-lowest
  lowest-is (suc k) =
      next-lowest k ∙ ap₂ lower (lowest-is k) (asks-are k)
      ∙ lower-each 1 (answers_below k) (answers k) refl
      ∙ ap (λ (l : List Bool). first_no (numbered 2 l)) (sym (all-each k))
