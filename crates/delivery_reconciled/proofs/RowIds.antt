-- The ids of the rows in lent lists are those of the rows, so the lines of the ids that are not in the file are the definition's.
-- Assumes nothing.
use mathlib.Core.Path.{◌≡◌, refl, ap, ◌∙◌}
use mathlib.Core.Bool.{Bool, not, ◌&&◌, cond}
use mathlib.Core.List.{List, [], ◌∷◌, ◌++◌}
use mathlib.Core.Logic.{◌⊎◌, inl, inr}
use Prim.Native.Nat.{ℕ, zero, suc, ◌+◌, ◌≤◌, ◌<◌}
use native.Mathlib.Omega.{arith}
use lib.ListN.{length, get_or, length-append, get_or-append}
use lib.Seq.{get_or-append-add}
use Rattle.questions.specs.Search.{every}
use Rattle.questions.proofs.Bools.{lt-or-ge}
use Rattle.file_load.specs.Products.{same_id}
use Rattle.file_load.specs.Load.{found}
use Rattle.delivery_differences.specs.Differences.{no_row}
use Rattle.delivery_parts.specs.PlaceParts.{parts_text}
use Rattle.delivery_reports.specs.Reports.{unknown_text}
use Rattle.delivery_receipts.specs.Receipts.{Received}
use Rattle.delivery_products.specs.IdList.{id_in}
use Rattle.delivery_receipts.specs.Receiving.{Lists, received_at, received_to, first_unknown}
use Rattle.delivery_reconciled.specs.Reconciled.{sum_to, id_of, is_stranger, stranger_text}
use Rattle.delivery_reconciled.specs.Standings.{id_row_text, row_count}

-- the first n rows of six lists are n rows
pub received-count : (a : Lists) (n : ℕ) → length (received_to a n) ≡ n
unfolding received_to
received-count a zero = refl
received-count a (suc n) = length-append (received_to a n) (received_at a n ∷ []) ∙ omega (arith, received-count a n)

abbrev none : Received
none = record { id = []; row = no_row }

row_here : (a : Lists) (n i : ℕ) → i < n → get_or (received_to a n) i none ≡ received_at a i
unfolding received_to
row_here a zero i h = absurd (omega arith)
row_here a (suc n) i h = go (lt-or-ge i n) (row_here a n i)
  where
    go : (i < n) ⊎ (n ≤ i) → (i < n → get_or (received_to a n) i none ≡ received_at a i) → get_or (received_to a n ++ (received_at a n ∷ [])) i none ≡ received_at a i
    go (inl l) earlier = get_or-append (received_to a n) (received_at a n ∷ []) none i (omega (arith, received-count a n)) ∙ earlier l
    go (inr l) earlier =
        let e : i ≡ length (received_to a n) + 0 = omega (arith, received-count a n) in
        let z : n ≡ i = omega arith in
        ap (λ (k : ℕ). get_or (received_to a n ++ (received_at a n ∷ [])) k none) e
        ∙ get_or-append-add (received_to a n) (received_at a n ∷ []) 0 none ∙ ap (received_at a) z

id-here : (a : Lists) (n i : ℕ) → i < n → id_of (received_to a n) i ≡ id_in a.ids i
id-here a n i h = ap (λ (r : Received). r.id) (row_here a n i h)

every-same : (n : ℕ) (f g : ℕ → Bool) → ((j : ℕ) → j < n → f j ≡ g j) → every n f ≡ every n g
unfolding every
every-same zero f g h = refl
every-same (suc n) f g h = rw (every-same n f g (λ j l. h j (omega arith)), h n (omega arith)) refl

module _ (f : List ℕ) (a : Lists) (n : ℕ) where
  stranger-here : (i : ℕ) → i < n → is_stranger f (received_to a n) i ≡ first_unknown f a.ids i
  unfolding is_stranger first_unknown
  stranger-here i h =
      let s : every i (λ j. not (same_id (id_of (received_to a n) j) (id_of (received_to a n) i)))
      ≡ every i (λ j. not (same_id (id_in a.ids j) (id_in a.ids i))) =
      every-same i (λ j. not (same_id (id_of (received_to a n) j) (id_of (received_to a n) i))) (λ j. not (same_id (id_in a.ids j) (id_in a.ids i)))
      (λ j l. ap (λ (x : List ℕ). not (same_id x (id_of (received_to a n) i))) (id-here a n j (omega arith))
      ∙ ap (λ (x : List ℕ). not (same_id (id_in a.ids j) x)) (id-here a n i h)) in
      ap (λ (x : Bool). not (found f (id_of (received_to a n) i)) && x) s
      ∙ ap (λ (x : List ℕ). not (found f x) && every i (λ j. not (same_id (id_in a.ids j) (id_in a.ids i)))) (id-here a n i h)

  text-here : (i : ℕ) → i < n → stranger_text f (received_to a n) i ≡ id_row_text f a.ids i
  unfolding stranger_text id_row_text
  text-here i h =
      ap (λ (b : Bool). cond b (unknown_text (id_of (received_to a n) i)) []) (stranger-here i h)
      ∙ ap (λ (x : List ℕ). cond (first_unknown f a.ids i) (unknown_text x) []) (id-here a n i h)

  count-here : (i : ℕ) → i < n → cond (is_stranger f (received_to a n) i) 1 0 ≡ row_count f a.ids i
  unfolding row_count
  count-here i h = ap (λ (b : Bool). cond b 1 0) (stranger-here i h)

-- parts that are equal one by one make up the same text
pub parts_same : (part other : ℕ → List ℕ) (n : ℕ) → ((i : ℕ) → i < n → part i ≡ other i) → parts_text part n ≡ parts_text other n
unfolding parts_text
parts_same part other zero h = refl
parts_same part other (suc n) h = rw (parts_same part other n (λ i l. h i (omega arith)), h n (omega arith)) refl

-- numbers that are equal one by one have the same sum
pub sums_same : (number other : ℕ → ℕ) (n : ℕ) → ((i : ℕ) → i < n → number i ≡ other i) → sum_to number n ≡ sum_to other n
unfolding sum_to
sums_same number other zero h = refl
sums_same number other (suc n) h = rw (sums_same number other n (λ i l. h i (omega arith)), h n (omega arith)) refl

module _ (f : List ℕ) (a : Lists) (n : ℕ) where
  -- the lines of all rows, and how many
  pub strangers-are : parts_text (stranger_text f (received_to a n)) (length (received_to a n)) ≡ parts_text (id_row_text f a.ids) n
  strangers-are =
      ap (parts_text (stranger_text f (received_to a n))) (received-count a n)
      ∙ parts_same (stranger_text f (received_to a n)) (id_row_text f a.ids) n (text-here f a n)

  -- the first rows of ids that are not in the file are as many by the rows as by the list of ids
  pub strangers-counted : sum_to (λ i. cond (is_stranger f (received_to a n) i) 1 0) (length (received_to a n)) ≡ sum_to (row_count f a.ids) n
  strangers-counted =
      ap (sum_to (λ i. cond (is_stranger f (received_to a n) i) 1 0)) (received-count a n)
      ∙ sums_same (λ i. cond (is_stranger f (received_to a n) i) 1 0) (row_count f a.ids) n (count-here f a n)
