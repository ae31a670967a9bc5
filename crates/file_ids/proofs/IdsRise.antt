-- Question 8 in one walk over the places: each record's id is compared with the id of the record before it.
-- Assumes nothing.
use mathlib.Core.Path.{◌≡◌, refl, ◌∙◌, sym, ap, ap₂}
use mathlib.Core.Bool.{Bool, true, false, not, ◌&&◌, ◌||◌, cond}
use mathlib.Core.Logic.{◌⊎◌, inl, inr}
use mathlib.Core.List.{List, [], ◌∷◌}
use Prim.Native.Nat.{ℕ, ◌+◌, ◌≤◌, ◌<◌}
use native.Mathlib.Omega.{arith}
use lib.ListN.{length, get_or}
use lib.Dec.{eqb, ltb}
use borrow.Author.Tests.{ltb-true, lt-ltb, eqb-true, eq-eqb}
use Rattle.std.proofs.Common.{Option, Some, None, Ordering, Less, Equal, Greater}
use Rattle.std.specs.Option.{MatchOption, unwrap_or}
use Rattle.std.specs.Ordering.{nat_cmp, partial_ordering_then, partial_lt, is_lt, is_some_and}
use Rattle.std.specs.Cmp.Lexicographic.{slice_partial_cmp}
use Rattle.std.proofs.lemmas.Option.{none-some}
use Rattle.questions.specs.Search.{every}
use Rattle.questions.proofs.Search.{every-none, every_more, every-not, every-all}
use Rattle.questions.proofs.Bools.{clash, both, and_both, or_left, or_right, or-either, lt-or-ge}
use Rattle.file_ids.specs.Ids.{is_record, id_at, byte_rises, id_rises, pair_rises, place_rises}

byte-trans : (x y z : ℕ) {r s t : Bool} → (r ≡ true → s ≡ true → t ≡ true) → byte_rises x y r ≡ true → byte_rises y z s ≡ true → byte_rises x z t ≡ true
unfolding byte_rises
byte-trans x y z {r} {s} {t} rest a b = go (or-either (ltb x y) (eqb x y && r) a) (or-either (ltb y z) (eqb y z && s) b)
  where
    go : (ltb x y ≡ true) ⊎ ((eqb x y && r) ≡ true) → (ltb y z ≡ true) ⊎ ((eqb y z && s) ≡ true) → byte_rises x z t ≡ true
    go (inl p) (inl q) = or_left (eqb x z && t) (lt-ltb x z (omega (arith, ltb-true x y p, ltb-true y z q)))
    go (inl p) (inr q) =
        or_left (eqb x z && t) (lt-ltb x z (omega (arith, ltb-true x y p, eqb-true y z (both (eqb y z) s q).0)))
    go (inr p) (inl q) =
        or_left (eqb x z && t) (lt-ltb x z (omega (arith, eqb-true x y (both (eqb x y) r p).0, ltb-true y z q)))
    go (inr p) (inr q) =
        or_right (ltb x z)
        (and_both (eq-eqb x z (eqb-true x y (both (eqb x y) r p).0 ∙ eqb-true y z (both (eqb y z) s q).0))
        (rest (both (eqb x y) r p).1 (both (eqb y z) s q).1))

less-trans : (x y z : ℕ) → ltb x y ≡ true → ltb y z ≡ true → ltb x z ≡ true
less-trans x y z p q = lt-ltb x z (omega (arith, ltb-true x y p, ltb-true y z q))

-- an id that is greater than a second, which is greater than a third, is greater than the third
pub id-trans : (a b c : List ℕ) → id_rises a b ≡ true → id_rises b c ≡ true → id_rises a c ≡ true
unfolding id_rises
id-trans a b c = byte-trans _ _ _ (byte-trans _ _ _ (byte-trans _ _ _ (less-trans (get_or a 3 0) (get_or b 3 0) (get_or c 3 0))))

byte-order : (x y : ℕ) (o : Option Ordering) → is_some_and is_lt (partial_ordering_then (Some (nat_cmp x y)) o) ≡ byte_rises x y (is_some_and is_lt o)
unfolding byte_rises
byte-order x y o = go (ltb x y) (eqb x y)
  where
    go : (a b : Bool) → is_some_and is_lt (partial_ordering_then (Some (cond a Less (cond b Equal Greater))) o) ≡ (a || b && is_some_and is_lt o)
    go true b = refl
    go false true = refl
    go false false = refl

last-order : (x y : ℕ) → byte_rises x y false ≡ ltb x y
unfolding byte_rises
last-order x y = go (ltb x y) (eqb x y)
  where
    go : (a b : Bool) → (a || b && false) ≡ a
    go true b = refl
    go false true = refl
    go false false = refl

spelled : (a : List ℕ) → length a ≡ 4 → a ≡ get_or a 0 0 ∷ get_or a 1 0 ∷ get_or a 2 0 ∷ get_or a 3 0 ∷ []
spelled [] h = absurd (omega arith)
spelled (x ∷ []) h = absurd (omega arith)
spelled (x ∷ y ∷ []) h = absurd (omega arith)
spelled (x ∷ y ∷ z ∷ []) h = absurd (omega arith)
spelled (x ∷ y ∷ z ∷ w ∷ []) h = refl
spelled (x ∷ y ∷ z ∷ w ∷ v ∷ l) h = absurd (omega arith)

-- of two ids, the order of arrays is the order byte by byte
pub ids-order : (a b : List ℕ) → length a ≡ 4 → length b ≡ 4 → partial_lt (slice_partial_cmp (λ x y. Some (nat_cmp x y))) a b ≡ id_rises a b
unfolding id_rises
ids-order a b h k =
    ap₂ (λ (x y : List ℕ). partial_lt (slice_partial_cmp (λ x y. Some (nat_cmp x y))) x y) (spelled a h) (spelled b k)
    ∙ byte-order (get_or a 0 0) (get_or b 0 0) _
    ∙ ap (byte_rises (get_or a 0 0) (get_or b 0 0)) (byte-order (get_or a 1 0) (get_or b 1 0) _
    ∙ ap (byte_rises (get_or a 1 0) (get_or b 1 0)) (byte-order (get_or a 2 0) (get_or b 2 0) _
    ∙ ap (byte_rises (get_or a 2 0) (get_or b 2 0)) (byte-order (get_or a 3 0) (get_or b 3 0) (Some Equal) ∙ last-order (get_or a 3 0) (get_or b 3 0))))

-- the places before p have been walked; `last` is the last that holds a record, if one does
pub record Walked (f : List ℕ) (p : ℕ) (last : Option ℕ) : Type 0 where
  -- the places walked answer question 8 yes
  pub risen : every p (place_rises f) ≡ true
  -- each record walked is the last one kept, or has a lesser id than it
  pub highest : (q : ℕ) → q < p → is_record f q ≡ true → (r : ℕ) × (last ≡ Some r) × ((q ≡ r) ⊎ (id_rises (id_at f q) (id_at f r) ≡ true))
  -- where a last record is kept, it is a record among the places walked
  pub holds : (r : ℕ) → last ≡ Some r → (r < p) × (is_record f r ≡ true)

-- the id at p is greater than that of the last record, where there is one
abbrev pub Follows : List ℕ → Option ℕ → ℕ → Type 0
Follows f last p = (r : ℕ) → last ≡ Some r → id_rises (id_at f r) (id_at f p) ≡ true

no_record : (f : List ℕ) (p : ℕ) → is_record f p ≡ false → place_rises f p ≡ true
unfolding place_rises
no_record f p e = rw e

module _ (f : List ℕ) where
  -- a walk that has not begun keeps no last record
  pub walk_start : Walked f 0 None
  walk_start =
      record {
        risen = every-none (place_rises f);
        highest = λ q h e. absurd (omega arith);
        holds = λ r e. absurd (none-some r e);
      }

  module _ (p : ℕ) (last : Option ℕ) (w : Walked f p last) where
    -- the id at p is greater than every id before it
    above : Follows f last p → (q : ℕ) → q < p → is_record f q ≡ true → id_rises (id_at f q) (id_at f p) ≡ true
    above t q h eq = go (w.highest q h eq)
      where
        go : (r : ℕ) × (last ≡ Some r) × ((q ≡ r) ⊎ (id_rises (id_at f q) (id_at f r) ≡ true)) → id_rises (id_at f q) (id_at f p) ≡ true
        go (r, s, inl e) = rw e (t r s)
        go (r, s, inr k) = id-trans (id_at f q) (id_at f r) (id_at f p) k (t r s)

    pair : Follows f last p → (q : ℕ) → q < p → pair_rises f p q ≡ true
    pair t q h = go (is_record f q) refl
      where
        go : (b : Bool) → is_record f q ≡ b → (not b || id_rises (id_at f q) (id_at f p)) ≡ true
        go true s = above t q h s
        go false s = refl

    rises : Follows f last p → place_rises f p ≡ true
    unfolding place_rises
    rises t = or_right (not (is_record f p)) (every-all (pair_rises f p) p (pair t))

    -- where the next place holds a record that follows, the walk goes one place on, and that record is the last one kept
    pub walk_record : is_record f p ≡ true → Follows f last p → Walked f (p + 1) (Some p)
    walk_record e t =
        record {
          risen = every_more (place_rises f) p w.risen (rises t);
          highest = λ q h s. (p, refl, side q s (lt-or-ge q p) h);
          holds = λ r s. let z : p ≡ r = ap (λ (o : Option ℕ). unwrap_or o 0) s in (omega arith, ap (is_record f) (sym z) ∙ e);
        }
      where
        side : (q : ℕ) → is_record f q ≡ true → (q < p) ⊎ (p ≤ q) → q < p + 1 → (q ≡ p) ⊎ (id_rises (id_at f q) (id_at f p) ≡ true)
        side q s (inl k) h = inr (above t q k s)
        side q s (inr k) h = inl (omega arith)

    -- where it holds none, the walk goes one place on with the last record that it has
    pub walk_on : is_record f p ≡ false → Walked f (p + 1) last
    walk_on e =
        record {
          risen = every_more (place_rises f) p w.risen (no_record f p e);
          highest = λ q h s. side q s (lt-or-ge q p) h;
          holds = λ r s. let (a, b) = w.holds r s in (omega arith, b);
        }
      where
        side : (q : ℕ) → is_record f q ≡ true → (q < p) ⊎ (p ≤ q) → q < p + 1 → (r : ℕ) × (last ≡ Some r) × ((q ≡ r) ⊎ (id_rises (id_at f q) (id_at f r) ≡ true))
        side q s (inl k) h = w.highest q k s
        side q s (inr k) h =
            let z : q ≡ p = omega arith in
            clash s (ap (is_record f) z ∙ e)

    -- where a record does not follow the last one, question 8 is answered no
    pub walk-fails : (n r : ℕ) → p < n → is_record f p ≡ true → last ≡ Some r → id_rises (id_at f r) (id_at f p) ≡ false → every n (place_rises f) ≡ false
    unfolding place_rises
    walk-fails n r l e s t =
        let k = w.holds r s in
        every-not (place_rises f) n p (rw (e, every-not (pair_rises f p) p r (rw (k.1, t)) k.0)) l

-- what a test of the last record's id says, if there is one: that the id follows, or a last record that it does not follow
module _ (test : ℕ → Bool) where
  pub follows-yes : (last : Option ℕ) (t : Bool) → MatchOption last (t ≡ true) (λ q. t ≡ test q) → t ≡ true → (r : ℕ) → last ≡ Some r → test r ≡ true
  follows-yes None t m e r s = absurd (none-some r s)
  follows-yes (Some q) t m e r s =
      let z : q ≡ r = ap (λ (o : Option ℕ). unwrap_or o 0) s in
      ap test (sym z) ∙ sym m ∙ e

  pub follows-no : (last : Option ℕ) (t : Bool) → MatchOption last (t ≡ true) (λ q. t ≡ test q) → t ≡ false → (r : ℕ) × (last ≡ Some r) × (test r ≡ false)
  follows-no None t m e = clash m e
  follows-no (Some q) t m e = (q, refl, sym m ∙ e)
