-- What does not depend on the order of rows: how many there are, what each of them is, and which are a product's.
-- Assumes nothing.
use mathlib.Core.Path.{◌≡◌, refl, ap, ◌∙◌}
use mathlib.Core.List.{List, [], ◌∷◌, ◌++◌, map}
use mathlib.Core.Bool.{Bool, true, false, cond}
use Prim.Native.Nat.{ℕ, suc}
use lib.ListN.{length}
use Rattle.file_load.specs.Products.{same_id}
use Rattle.delivery_rows.specs.Delivery.{Row}
use Rattle.delivery_differences.specs.declared.DeliveredRow.{DeliveredRow}
use Rattle.delivery_differences.specs.Differences.{AnyOrder, empty, kept, swapped, again}
use Rattle.delivery_receipts.specs.Receipts.{Received}
use Rattle.delivery_receipts.specs.Receiving.{rows_for}
use Rattle.delivery_own.specs.Own.{EachBack, none, more}

-- a list is an order of itself
pub order_same : {A : Type 0} (xs : List A) → AnyOrder xs xs
order_same [] = empty
order_same (x ∷ xs) = kept (order_same xs)

-- any order of a list is as long as the list
pub order-length : {A : Type 0} {xs ys : List A} → AnyOrder xs ys → length xs ≡ length ys
order-length empty = refl
order-length (kept o) = ap suc (order-length o)
order-length swapped = refl
order-length (again o p) = order-length o ∙ order-length p

-- a function over a list and over another order of it gives an order of the same elements
pub order-map : {A B : Type 0} (g : A → B) {xs ys : List A} → AnyOrder xs ys → AnyOrder (map g xs) (map g ys)
order-map g empty = empty
order-map g (kept o) = kept (order-map g o)
order-map g swapped = swapped
order-map g (again o p) = again (order-map g o) (order-map g p)

-- where each of some rows is read back, so is each in any other order
pub order-each : (f : List ℕ) {xs ys : List Row} → AnyOrder xs ys → EachBack f xs → EachBack f ys
order-each f empty e = e
order-each f (kept o) (more b e) = more b (order-each f o e)
order-each f swapped (more a (more b e)) = more b (more a e)
order-each f (again o p) e = order-each f p (order-each f o e)

one_kept : (b : Bool) (x : DeliveredRow) {xs ys : List DeliveredRow} → AnyOrder xs ys → AnyOrder (cond b (x ∷ xs) xs) (cond b (x ∷ ys) ys)
one_kept true x o = kept o
one_kept false x o = o

two-swapped : (a b : Bool) (x y : DeliveredRow) (xs : List DeliveredRow)
    → AnyOrder (cond a (x ∷ cond b (y ∷ xs) xs) (cond b (y ∷ xs) xs)) (cond b (y ∷ cond a (x ∷ xs) xs) (cond a (x ∷ xs) xs))
two-swapped true true x y xs = swapped
two-swapped true false x y xs = order_same (x ∷ xs)
two-swapped false true x y xs = order_same (y ∷ xs)
two-swapped false false x y xs = order_same xs

-- the rows of a product among some rows in another order are its rows in another order
pub order-for : (id : List ℕ) {xs ys : List Received} → AnyOrder xs ys → AnyOrder (rows_for id xs) (rows_for id ys)
unfolding rows_for
order-for id empty = empty
order-for id (kept {x = x} o) = one_kept (same_id x.id id) x.row (order-for id o)
order-for id (swapped {x = x} {y = y} {xs = xs}) = two-swapped (same_id x.id id) (same_id y.id id) x.row y.row (rows_for id xs)
order-for id (again o p) = again (order-for id o) (order-for id p)

-- where each row of two lists is read back, so is each of the one followed by the other
pub each_append : (f : List ℕ) {xs ys : List Row} → EachBack f xs → EachBack f ys → EachBack f (xs ++ ys)
each_append f none e = e
each_append f (more b d) e = more b (each_append f d e)
