-- Nothing else than `renumbered` and `missing` has what their laws say.
-- Assumes nothing.
use mathlib.Core.Path.{◌≡◌, refl, sym, ap, ap₂, ◌∙◌}
use mathlib.Core.Bool.{Bool, true, false}
use mathlib.Core.List.{List, [], ◌∷◌, map}
use mathlib.Core.Logic.{◌⊎◌, inl, inr}
use Prim.Native.Nat.{ℕ, zero, suc, ◌≤◌}
use native.Mathlib.Omega.{arith}
use lib.Dec.{eqb}
use lib.ListN.{length, get_or, drop, length-map}
use borrow.Author.Tests.{eqb-true, eq-eqb, ne_eqb}
use Rattle.questions.proofs.Bools.{clash, or_left, or_right, or-either}
use Rattle.listing.specs.declared.Maturity.{Maturity}
use Rattle.listing.specs.Rules.{unused}
use Rattle.table_numbering.specs.Numbering.{is_listed, number_of, missing, with_number, unnumbered, renumbered}
use Rattle.table_numbering.specs.NumberingLaws.{Rising, RenumberedLaw, MissingLaw}
use Rattle.table_numbering.proofs.MonthsRise.{rising-tail, rising-above, rising-once}
use Rattle.table_numbering.proofs.Renumbering.{renumbered-law, missing-law}

-- a maturity is its month, day, days stepped back and number
pub same-maturity : (m n : Maturity) → m.key ≡ n.key → m.day ≡ n.day → m.back ≡ n.back → m.number ≡ n.number → m ≡ n
same-maturity m n a b c d = rw (← a, ← b, ← c, ← d)

-- the first of rising months is the least
least : (m : Maturity) (ms : List Maturity) → Rising (m ∷ ms) → (k : ℕ) → is_listed (m ∷ ms) k ≡ true → m.key ≤ k
unfolding is_listed
least m ms rises k t = go (or-either (eqb m.key k) (is_listed ms k) t)
  where
    go : (eqb m.key k ≡ true) ⊎ (is_listed ms k ≡ true) → m.key ≤ k
    go (inl e) = omega (arith, eqb-true m.key k e)
    go (inr e) = omega (arith, rising-above m ms rises k e)

here : (m : Maturity) (ms : List Maturity) → is_listed (m ∷ ms) m.key ≡ true
unfolding is_listed
here m ms = or_left (is_listed ms m.key) (eq-eqb m.key m.key refl)

-- rising lists that have the same months
same-months : (ms ns : List Maturity) → Rising ms → Rising ns → ((k : ℕ) → is_listed ms k ≡ is_listed ns k) → map (λ m. m.key) ms ≡ map (λ m. m.key) ns
unfolding is_listed
same-months [] [] r s h = refl
same-months [] (n ∷ ns) r s h = clash (here n ns) (sym (h n.key))
same-months (m ∷ ms) [] r s h = clash (here m ms) (h m.key)
same-months (m ∷ ms) (n ∷ ns) r s h = ap₂ ◌∷◌ same (same-months ms ns (rising-tail m ms r) (rising-tail n ns s) rest)
  where
    same : m.key ≡ n.key
    same = omega (arith, least m ms r n.key (h n.key ∙ here n ns), least n ns s m.key (sym (h m.key) ∙ here m ms))

    rest : (k : ℕ) → is_listed ms k ≡ is_listed ns k
    rest k = go (eqb n.key k) refl
      where
        go : (b : Bool) → eqb n.key k ≡ b → is_listed ms k ≡ is_listed ns k
        go true e =
            let q : k ≡ n.key = sym (eqb-true n.key k e) in
            ap (is_listed ms) (q ∙ sym same) ∙ rising-once m ms r ∙ sym (ap (is_listed ns) q ∙ rising-once n ns s)
        go false e = rw (same, e) at (h k)

-- a list with what the law of the missing says has the months of the missing ones
pub missing-only : (ms others result : List Maturity) → Rising ms → MissingLaw ms others result
    → map (λ m. m.key) result ≡ map (λ m. m.key) (missing ms others)
missing-only ms others result rises l =
    let s = missing-law others ms rises in
    same-months result (missing ms others) l.rising s.rising (λ k. l.holds k ∙ sym (s.holds k))

-- the months are those of the list without its numbers
key-at : (ms : List Maturity) (i : ℕ) → (get_or (unnumbered ms) i unused).key ≡ (get_or ms i unused).key
key-at [] i = refl
key-at (m ∷ ms) zero = refl
key-at (m ∷ ms) (suc i) = key-at ms i

rising-same : (ms ns : List Maturity) → unnumbered ms ≡ unnumbered ns → Rising ns → Rising ms
rising-same ms ns e rises i j l h =
    omega (
      arith,
      key-at ms i,
      key-at ms j,
      key-at ns i,
      key-at ns j,
      ap (λ (ls : List Maturity). (get_or ls i unused).key) e,
      ap (λ (ls : List Maturity). (get_or ls j unused).key) e,
      rises i j l (omega (arith, ap length e, length-map ms (λ m. with_number m 0), length-map ns (λ m. with_number m 0))),
    )

listed-unnumbered : (ms : List Maturity) (k : ℕ) → is_listed (unnumbered ms) k ≡ is_listed ms k
unfolding is_listed
listed-unnumbered [] k = refl
listed-unnumbered (m ∷ ms) k = rw (listed-unnumbered ms k)

-- lists with the same months, days and numbers
same_numbers : (ms ns : List Maturity) → Rising ns → unnumbered ms ≡ unnumbered ns → ((k : ℕ) → is_listed ns k ≡ true → number_of ms k ≡ number_of ns k) → ms ≡ ns
unfolding is_listed number_of
same_numbers [] [] r e h = refl
same_numbers [] (n ∷ ns) r e h = absurd (omega (arith, ap length e))
same_numbers (m ∷ ms) [] r e h = absurd (omega (arith, ap length e))
same_numbers (m ∷ ms) (n ∷ ns) r e h =
    ap₂ ◌∷◌ (same-maturity m n a (ap (λ (ls : List Maturity). (get_or ls 0 unused).day) e) (ap (λ (ls : List Maturity). (get_or ls 0 unused).back) e)
    (rw (eq-eqb m.key n.key a, eq-eqb n.key n.key refl) at (h n.key (here n ns))))
    (same_numbers ms ns (rising-tail n ns r) (ap (drop 1) e) rest)
  where
    a : m.key ≡ n.key
    a = ap (λ (ls : List Maturity). (get_or ls 0 unused).key) e

    rest : (k : ℕ) → is_listed ns k ≡ true → number_of ms k ≡ number_of ns k
    rest k t = rw (a, ne_eqb n.key k (λ q. absurd (omega (arith, rising-above n ns r k t)))) at (h k (or_right (eqb n.key k) t))

-- a list with what the law of renumbering says is the renumbered fresh listing
pub renumbered-only : (old : List Maturity) (given : ℕ) (fresh result : List Maturity) → Rising fresh → RenumberedLaw old given fresh result
    → result ≡ renumbered old given fresh
renumbered-only old given fresh result rises l =
    same_numbers result (renumbered old given fresh) (rising-same (renumbered old given fresh) fresh s.replaces rises) (l.replaces ∙ sym s.replaces)
    (λ k t. go k (sym (listed_same k) ∙ t) (is_listed old k) refl)
  where
    s : RenumberedLaw old given fresh (renumbered old given fresh)
    s = renumbered-law old given fresh rises

    listed_same : (k : ℕ) → is_listed (renumbered old given fresh) k ≡ is_listed fresh k
    listed_same k = sym (listed-unnumbered (renumbered old given fresh) k) ∙ ap (λ (ms : List Maturity). is_listed ms k) s.replaces ∙
        listed-unnumbered fresh k

    go : (k : ℕ) → is_listed fresh k ≡ true → (b : Bool) → is_listed old k ≡ b → number_of result k ≡ number_of (renumbered old given fresh) k
    go k t true e = l.keeps k t e ∙ sym (s.keeps k t e)
    go k t false e = l.takes k t e ∙ sym (s.takes k t e)
