-- What the answer of `find` says of an id: it is there, of which product, or it is not.
-- Assumes nothing.
use mathlib.Core.Path.{◌≡◌, refl, ◌∙◌, sym, ap}
use mathlib.Core.Bool.{Bool, true, false, cond}
use mathlib.Core.List.{List, []}
use Prim.Native.Nat.{ℕ, ◌/◌, ◌%◌}
use native.Mathlib.Omega.{arith}
use Rattle.questions.specs.Questions.{first_no, Answer, answer}
use Rattle.questions.proofs.Asks.{none-no, no-asks, first-yes, accepted}
use Rattle.file_load.specs.Products.{product_at}
use Rattle.file_load.specs.Load.{found, place_from, place_of, find_asks, find_call, find_answer, product_of}
use Rattle.file_load.specs.declared.Found.{Found}
use Rattle.file_load.specs.declared.Found.TheVariants.{At, Nothing}
use Rattle.file_load.specs.declared.Place.{Place}

-- an id is there, and where it is
find-refusal : (f id : List ℕ) (r : Found) → find_answer r ≡ find_call f id → (find_answer r).refusal ≡ first_no (find_asks f id)
unfolding find_call answer
find-refusal f id r e = ap (λ (a : Answer Place). a.refusal) e

-- an id for which the search gives a place is in the file
pub find-there : (f id : List ℕ) (block place : ℕ) → find_answer (At block place) ≡ find_call f id → found f id ≡ true
find-there f id block place e = (none-no 8 (found f id) [] (sym (find-refusal f id (At block place) e))).0

-- the product at the place that the search gives is the product of the id
pub find-product : (f id : List ℕ) (block place : ℕ) → find_answer (At block place) ≡ find_call f id → product_at f block place ≡ product_of f id
unfolding product_of find_call
find-product f id block place e =
    let t = find-there f id block place e in
    let q = ap (λ (a : Answer Place). a.value) (e ∙ accepted (find_asks f id) _ (place_of (place_from f id 0)) (first-yes 9 {b = found f id} [] t ∙ no-asks)) in
    let x : block ≡ place_from f id 0 / 15 = ap (λ (p : Place). p.block) q in
    let y : place ≡ place_from f id 0 % 15 = ap (λ (p : Place). p.«record») q in
    rw (x, y)

-- an id for which the search gives no place is not in the file
pub find_none : (f id : List ℕ) → find_answer Nothing ≡ find_call f id → found f id ≡ false
unfolding first_no
find_none f id e = go (found f id) refl (find-refusal f id Nothing e)
  where
    go : (b : Bool) → found f id ≡ b → ◌≡◌ {A = ℕ} 9 (cond (found f id) 0 9) → found f id ≡ false
    go true q r = let z : ◌≡◌ {A = ℕ} 9 0 = rw q at r in absurd (omega arith)
    go false q r = q
