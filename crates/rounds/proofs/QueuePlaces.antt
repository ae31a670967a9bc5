-- The first n numbers of an array, one by one, and places filled one after another.
-- Assumes nothing.
use mathlib.Core.Path.{◌≡◌, refl, ◌∙◌, sym, ap}
use mathlib.Core.List.{List, [], ◌∷◌, ◌++◌}
use Prim.Native.Nat.{ℕ, suc, ◌+◌, ◌-◌, ◌≤◌, ◌<◌}
use native.Mathlib.Numerals.{one-add}
use native.Mathlib.Omega.{arith}
use mathlib.Core.Bool.{Bool, true, false, cond}
use lib.Dec.{ltb, eqb}
use lib.ListN.{length, set, take, drop, replicate, length-append}
use Rattle.std.specs.List.{position_or_len, list_any}
use Rattle.std.specs.Option.{MatchOption}
use Rattle.std.proofs.Common.{Option, Some, None}
use Rattle.questions.proofs.Bools.{same_test}
use Rattle.std.proofs.lemmas.List.Recursion.{is_position_or_len}
use Rattle.std.proofs.lemmas.List.{drop_at, drop-replicate, drop-take, append_assoc}
use borrow.Rule.Slice.PartMut.{put_mid}
use lib.Seq.{length-take-le, take_at, set_at, append_snoc, length-slice}
use borrow.Author.Tests.{eq-eqb, eqb-true, ltb-false, ltb-true}
use Rattle.questions.specs.Search.{one_of}
use Rattle.rounds.specs.Rounds.{places200, index_of}

eqb-turned : (x y : ℕ) → eqb x y ≡ eqb y x
eqb-turned x y = same_test _ _ (λ h. eq-eqb y x (sym (eqb-true x y h))) (λ h. eq-eqb x y (sym (eqb-true y x h)))

-- how many numbers stand before a number is how many fail the search for it before one passes
index-first : (x : ℕ) (xs : List ℕ) → index_of xs x ≡ position_or_len (λ y. eqb y x) xs
unfolding index_of
index-first x xs = is_position_or_len (λ ys. index_of ys x) (λ y. eqb y x) refl (λ y ys. rw (eqb-turned x y, one-add) refl) xs

-- the place that the search gives is that many, below all of them; where it gives none, all of them stand before the number
pub index-found : (xs : List ℕ) (x n : ℕ) (r : Option ℕ) → length xs ≡ n
    → r ≡ cond (ltb (position_or_len (λ y. eqb y x) xs) (length xs)) (Some (position_or_len (λ y. eqb y x) xs)) None
    → MatchOption r (n ≤ index_of xs x) (λ i. (i < n) × (i ≡ index_of xs x))
index-found xs x n r l e = rw (e, index-first x xs) (go (ltb first (length xs)) refl)
  where
    first : ℕ
    first = position_or_len (λ y. eqb y x) xs

    go : (b : Bool) → ltb first (length xs) ≡ b → MatchOption (cond b (Some first) None) (n ≤ first) (λ i. (i < n) × (i ≡ first))
    go true q = (omega (arith, ltb-true first (length xs) q), refl)
    go false q = omega (arith, ltb-false first (length xs) q)

-- a number is one of a list where the library's search finds one that is equal
pub one-any : (x : ℕ) (xs : List ℕ) → list_any (λ y. eqb y x) xs ≡ one_of xs x
unfolding one_of
one-any x [] = refl
one-any x (y ∷ xs) = rw (eqb-turned x y, one-any x xs)

-- a store to the first place that is unused
pub put-place : (done : List ℕ) (x : ℕ) (out : List ℕ) (i : ℕ) → length done ≡ i → i < 200 → out ≡ places200 done → set out i x ≡ places200 (done ++ (x ∷ []))
unfolding places200
put-place done x out i e l q =
    let r : 200 - length done ≡ suc (200 - suc i) = omega arith in
    let t : 200 - length (done ++ (x ∷ [])) ≡ 200 - suc i = omega (arith, length-append done (x ∷ [])) in
    rw (q, r, t) (set_at done 0 (replicate (200 - suc i) 0) x i e ∙ sym (append_snoc done x (replicate (200 - suc i) 0)))

-- the numbers that stand in filled places
pub take_places : (xs : List ℕ) (n : ℕ) → length xs ≡ n → take n (places200 xs) ≡ xs
unfolding places200
take_places xs n e = take_at xs (replicate (200 - length xs) 0) n e

-- the numbers from first to end, copied to the places from n on, stand after the first n numbers
pub put_slice : (other tables : List ℕ) (n first end : ℕ) (copied : List ℕ) → n ≤ length other → end ≤ length tables → first ≤ end → n + (end - first) ≤ 200
    → other ≡ places200 (take n other) → copied ≡ take (end - first) (drop first tables)
    → put_mid n (n + (end - first) - n) other copied ≡ places200 (take n other ++ drop first (take end tables))
unfolding places200
put_slice other tables n first end copied l fits within room e q = rw (many, copies) (rest ∙ sym (append_assoc (take n other) part _))
  where
    part : List ℕ
    part = drop first (take end tables)

    many : n + (end - first) - n ≡ end - first
    many = omega arith

    copies : copied ≡ part
    copies =
        let h : end ≡ first + (end - first) = omega arith in
        q ∙ sym (drop-take first (end - first) tables) ∙ ap (λ (m : ℕ). drop first (take m tables)) (sym h)

    free : drop n other ≡ replicate (200 - n) 0
    free =
        let k : 200 - length (take n other) ≡ 200 - n = omega (arith, length-take-le n other l) in
        ap (drop n) e ∙ (rw (drop_at (take n other) (replicate (200 - length (take n other)) 0) n (length-take-le n other l), k) refl)

    rest : take n other ++ (part ++ drop (end - first) (drop n other)) ≡ take n other ++ (part ++ replicate (200 - length (take n other ++ part)) 0)
    rest =
        let m : 200 - n - (end - first) ≡ 200 - length (take n other ++ part) =
        omega (arith, length-append (take n other) part, length-take-le n other l, length-slice first end tables fits) in
        ap (λ (zs : List ℕ). take n other ++ (part ++ zs)) (ap (drop (end - first)) free ∙ (rw (drop-replicate {X = ℕ} (end - first) (200 - n) 0, m) refl))
