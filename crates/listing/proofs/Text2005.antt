-- The months of the 2005 text are the next seven months of its names: each name stands once in any twelve months.
-- Assumes nothing.
use mathlib.Core.Path.{◌≡◌, refl, sym, ap, ap₂, ◌∙◌}
use mathlib.Core.Bool.{Bool, true, false, ◌&&◌, ◌||◌, cond}
use mathlib.Core.List.{List, [], ◌∷◌, ◌++◌}
use mathlib.Core.Logic.{◌⊎◌, inl, inr}
use Prim.Native.Nat.{ℕ, zero, suc, ◌+◌, ◌-◌, ◌%◌, ◌≤◌, ◌<◌}
use native.Mathlib.Nat.{add-zero}
use native.Mathlib.Numerals.{add-one}
use native.Mathlib.Omega.{arith}
use lib.Dec.{eqb, leb, ltb}
use lib.ListN.{length, replicate, length-append}
use borrow.Author.Tests.{eqb-true, eqb-false, le-leb, lt-leb, lt-ltb, le-ltb}
use Rattle.questions.specs.Search.{every, one_of, first_from}
use Rattle.questions.proofs.Bools.{lt-or-ge}
use Rattle.questions.proofs.Search.{every-at, search-none, search-next}
use Rattle.days.specs.Dates.{month_of}
use Rattle.calendar.specs.declared.Calendar.{Calendar}
use Rattle.calendar.specs.Trading.{cover_end}
use Rattle.product.specs.declared.Kind.TheVariants.{Future}
use Rattle.product.specs.declared.ListingText.TheVariants.{Of2005}
use Rattle.expiry.specs.LastDays.{key_of, last_trading_day}
use Rattle.listing.specs.Rules.{Rule, front, count_from, taken, fresh_keys, complete}
use Rattle.listing.specs.Months.{quarters, names2005, in_set, places_of, cover_rule, rule_of, all_in_cover}
use Rattle.listing.specs.Text2005.{next_months, of2005, front2005, months2005, SameMonths, Listed2005}
use Rattle.listing.proofs.Walks.{bit}
use Rattle.listing.proofs.OpenPlaces.{taken_none, taken_here, taken_next}
use Rattle.listing.proofs.Lawful.{Lawful, day-anchor}
use Rattle.listing.proofs.OfKinds.{rule-lawful}

-- a month of the window of n months from k on, in the cover
abbrev window : ℕ → ℕ → ℕ → ℕ → Bool
window e n k m = leb k m && (ltb m (k + n) && ltb m e)

module _ (e : ℕ) where
  window-none : (n k m : ℕ) → e ≤ k → (b : Bool) → (b && window e n k m) ≡ false
  window-none n k m h b = go b (lt-or-ge m k)
    where
      last : (c : Bool) → (c && false) ≡ false
      last true = refl
      last false = refl

      go : (b : Bool) → (m < k) ⊎ (k ≤ m) → (b && (leb k m && (ltb m (k + n) && ltb m e))) ≡ false
      go false s = refl
      go true (inl l) = rw (lt-leb k m l)
      go true (inr l) = rw (le-leb k m l, le-ltb m e (omega arith)) (last (ltb m (k + n)))

  window-empty : (k m : ℕ) (b : Bool) → (b && window e 0 k m) ≡ false
  window-empty k m b = go b (lt-or-ge m k)
    where
      go : (b : Bool) → (m < k) ⊎ (k ≤ m) → (b && (leb k m && (ltb m (k + 0) && ltb m e))) ≡ false
      go false s = refl
      go true (inl l) = rw (lt-leb k m l)
      go true (inr l) = rw (le-leb k m l, le-ltb m (k + 0) (omega arith))

  -- without its first month
  window-shift : (n k m : ℕ) → (m ≡ k → ⊥) → window e n (suc k) m ≡ window e (suc n) k m
  window-shift n k m ne =
      let i : suc k + n ≡ k + suc n = omega arith in
      rw i (ap (λ (b : Bool). b && (ltb m (k + suc n) && ltb m e)) (go (lt-or-ge m k)))
    where
      go : (m < k) ⊎ (k ≤ m) → leb (suc k) m ≡ leb k m
      go (inl l) = lt-leb (suc k) m (omega arith) ∙ sym (lt-leb k m l)
      go (inr l) = le-leb (suc k) m (omega arith) ∙ sym (le-leb k m l)

  -- a month that is not of the set is passed over
  passed : (p : ℕ → Bool) (c k : ℕ) → k < e → p k ≡ false → taken e (replicate c p) k ≡ taken e (replicate c p) (suc k)
  unfolding taken
  passed p zero k h t = refl
  passed p (suc c) k h t = taken_next e p (replicate c p) k h t

  -- where the n months from k on hold c of a set, the next c months of the set are those of the n months
  module _ (p : ℕ → Bool) (m : ℕ) where
    window-taken : (n c k : ℕ) → count_from p n k ≡ c → one_of (taken e (replicate c p) k) m ≡ (p m && window e n k m)
    unfolding one_of taken count_from
    window-taken zero zero k q = sym (window-empty k m (p m))
    window-taken zero (suc c) k q = absurd (omega arith)
    window-taken (suc n) c k q = go (lt-or-ge k e) (p k) refl c q (λ d. window-taken n d (suc k))
      where
        pass : (d : Bool) → eqb m k ≡ d → p k ≡ true → k < e → (d || (p m && window e n (suc k) m)) ≡ (p m && window e (suc n) k m)
        pass true f t l =
            let i : m ≡ k = eqb-true m k f in
            rw (i, t, le-leb k k (omega arith), lt-ltb k (k + suc n) (omega arith), lt-ltb k e l)
        pass false f t l = ap (λ (b : Bool). p m && b) (window-shift n k m (eqb-false m k f))

        fail : (d : Bool) → eqb m k ≡ d → p k ≡ false → (p m && window e n (suc k) m) ≡ (p m && window e (suc n) k m)
        fail true f t = let i : m ≡ k = eqb-true m k f in rw (i, t)
        fail false f t = ap (λ (b : Bool). p m && b) (window-shift n k m (eqb-false m k f))

        go : (k < e) ⊎ (e ≤ k) → (b : Bool) → p k ≡ b → (c : ℕ) → cond b 1 0 + count_from p n (suc k) ≡ c
            → ((d : ℕ) → count_from p n (suc k) ≡ d → one_of (taken e (replicate d p) (suc k)) m ≡ (p m && window e n (suc k) m))
            → one_of (taken e (replicate c p) k) m ≡ (p m && window e (suc n) k m)
        go (inr h) b t c q ih = ap (λ (l : List ℕ). one_of l m) (taken_none e (replicate c p) k h) ∙ sym (window-none (suc n) k m h (p m))
        go (inl h) true t zero q ih = absurd (omega arith)
        go (inl h) true t (suc c) q ih =
            ap (λ (l : List ℕ). one_of l m) (taken_here e p (replicate c p) k h t)
            ∙ ap (λ (b : Bool). eqb m k || b) (ih c (omega arith))
            ∙ pass (eqb m k) refl t h
        go (inl h) false t c q ih = ap (λ (l : List ℕ). one_of l m) (passed p c k h t) ∙ ih c (omega arith) ∙ fail (eqb m k) refl t

  -- and as many of them are taken as are in the cover
  none_inside : (p : ℕ → Bool) (n k : ℕ) → e ≤ k → count_from (λ m. p m && ltb m e) n k ≡ 0
  unfolding count_from
  none_inside p zero k h = refl
  none_inside p (suc n) k h = omega (arith, none_inside p n (suc k) (omega arith), go (p k))
    where
      go : (b : Bool) → bit (b && ltb k e) ≡ 0
      go true = rw (le-ltb k e h)
      go false = refl

  window-length : (p : ℕ → Bool) (n c k : ℕ) → count_from p n k ≡ c → length (taken e (replicate c p) k) ≡ count_from (λ m. p m && ltb m e) n k
  unfolding taken count_from
  window-length p zero zero k q = refl
  window-length p zero (suc c) k q = absurd (omega arith)
  window-length p (suc n) c k q = go (lt-or-ge k e) (p k) refl c q (λ d. window-length p n d (suc k))
    where
      go : (k < e) ⊎ (e ≤ k) → (b : Bool) → p k ≡ b → (c : ℕ) → cond b 1 0 + count_from p n (suc k) ≡ c
          → ((d : ℕ) → count_from p n (suc k) ≡ d → length (taken e (replicate d p) (suc k)) ≡ count_from (λ m. p m && ltb m e) n (suc k))
          → length (taken e (replicate c p) k) ≡ cond (p k && ltb k e) 1 0 + count_from (λ m. p m && ltb m e) n (suc k)
      go (inr h) b t c q ih = ap length (taken_none e (replicate c p) k h) ∙ sym (none_inside p (suc n) k h)
      go (inl h) true t zero q ih = absurd (omega arith)
      go (inl h) true t (suc c) q ih =
          rw (taken_here e p (replicate c p) k h t, t, lt-ltb k e h) (omega (arith, ih c (omega arith)))
      go (inl h) false t c q ih = rw (passed p c k h t, t) (omega (arith, ih c (omega arith)))

-- two tests that agree on the months of a window count the same
count_same : (p q : ℕ → Bool) (n k a : ℕ) → ((j : ℕ) → p (k + j) ≡ q j) → count_from p n (k + a) ≡ count_from q n a
unfolding count_from
count_same p q zero k a h = refl
count_same p q (suc n) k a h =
    let i : suc (k + a) ≡ k + suc a = omega arith in
    rw (h a, i) (ap (λ (x : ℕ). cond (q a) 1 0 + x) (count_same p q n k (suc a) h))

-- the names, from the name of a month on
abbrev from-name : List ℕ → ℕ → ℕ → Bool
from-name names r j = one_of names ((r + j) % 12 + 1)

-- a computed test: in twelve months from any name on there are so many of the names
abbrev in-year : List ℕ → ℕ → ℕ → Bool
in-year names c r = eqb (count_from (from-name names r) 12 0) c

module _ (names : List ℕ) (c : ℕ) (right : every 12 (in-year names c) ≡ true) where
  each-year : (k : ℕ) → count_from (in_set names) 12 k ≡ c
  unfolding in_set
  each-year k =
      ap (count_from (λ m. one_of names (m % 12 + 1)) 12) (sym (add-zero k))
      ∙ count_same (λ m. one_of names (m % 12 + 1)) (from-name names (k % 12)) 12 k 0 (λ j. ap (λ (x : ℕ). one_of names (x + 1)) (turns j))
      ∙ eqb-true (count_from (from-name names (k % 12)) 12 0) c (every-at (in-year names c) 12 (k % 12) right (omega arith))
    where
      turns : (j : ℕ) → (k + j) % 12 ≡ (k % 12 + j) % 12
      turns j = omega arith

  -- so the next ones from a month on are those of the next twelve months
  next-year : (e k m : ℕ) → one_of (next_months e c names k) m ≡ (in_set names m && window e 12 k m)
  next-year e k m = window-taken e (in_set names) m 12 c k (each-year k)

  next-length : (e k : ℕ) → length (next_months e c names k) ≡ count_from (λ m. in_set names m && ltb m e) 12 k
  next-length e k = window-length e (in_set names) 12 c k (each-year k)

-- the computed tests
year-7 : every 12 (in-year names2005 7) ≡ true
unfolding every one_of count_from
year-7 = refl

year-4 : every 12 (in-year quarters 4) ≡ true
unfolding every one_of count_from
year-4 = refl

year-april : every 12 (in-year (4 ∷ []) 1) ≡ true
unfolding every one_of count_from
year-april = refl

year-may : every 12 (in-year (5 ∷ []) 1) ≡ true
unfolding every one_of count_from
year-may = refl

year-july : every 12 (in-year (7 ∷ []) 1) ≡ true
unfolding every one_of count_from
year-july = refl

-- a month of the seven names is one of the four, or an April, May or July, and only one of these
abbrev parts : Bool → Bool → Bool → Bool → ℕ
parts a b c d = bit a + (bit b + (bit c + bit d))

abbrev one-part : ℕ → Bool
one-part j =
    eqb (bit (one_of names2005 (j + 1))) (parts (one_of quarters (j + 1)) (one_of (4 ∷ []) (j + 1)) (one_of (5 ∷ []) (j + 1)) (one_of (7 ∷ []) (j + 1)))

seven : (m : ℕ) → bit (in_set names2005 m) ≡ parts (in_set quarters m) (in_set (4 ∷ []) m) (in_set (5 ∷ []) m) (in_set (7 ∷ []) m)
unfolding in_set one_of every
seven m = eqb-true _ _ (every-at one-part 12 (m % 12) refl (omega arith))

-- what is so of the parts is so of those that pass a test
bit_or : (s a b c d : Bool) → bit s ≡ parts a b c d → s ≡ (a || (b || (c || d)))
bit_or true true b c d q = refl
bit_or true false true c d q = refl
bit_or true false false true d q = refl
bit_or true false false false true q = refl
bit_or true false false false false q = absurd (omega arith)
bit_or false true b c d q = absurd (omega arith)
bit_or false false true c d q = absurd (omega arith)
bit_or false false false true d q = absurd (omega arith)
bit_or false false false false true q = absurd (omega arith)
bit_or false false false false false q = refl

and-true : (b : Bool) → (b && true) ≡ b
and-true true = refl
and-true false = refl

and-false : (b : Bool) → (b && false) ≡ false
and-false true = refl
and-false false = refl

and-bit : (s a b c d w : Bool) → bit s ≡ parts a b c d → bit (s && w) ≡ parts (a && w) (b && w) (c && w) (d && w)
and-bit s a b c d true q = rw (and-true s, and-true a, and-true b, and-true c, and-true d) q
and-bit s a b c d false q = rw (and-false s, and-false a, and-false b, and-false c, and-false d)

module _ (p a b c d : ℕ → Bool) (h : (m : ℕ) → bit (p m) ≡ parts (a m) (b m) (c m) (d m)) where
  count-parts : (n k : ℕ) → count_from p n k ≡ count_from a n k + (count_from b n k + (count_from c n k + count_from d n k))
  unfolding count_from
  count-parts zero k = refl
  count-parts (suc n) k = omega (arith, h k, count-parts n (suc k))

one-append : (xs ys : List ℕ) (m : ℕ) → one_of (xs ++ ys) m ≡ (one_of xs m || one_of ys m)
unfolding one_of
one-append [] ys m = refl
one-append (x ∷ xs) ys m = go (eqb m x) (one-append xs ys m)
  where
    go : (b : Bool) → one_of (xs ++ ys) m ≡ (one_of xs m || one_of ys m) → (b || one_of (xs ++ ys) m) ≡ ((b || one_of xs m) || one_of ys m)
    go true ih = refl
    go false ih = ih

module _ (e front : ℕ) where
  abbrev four : List ℕ
  four = next_months e 4 quarters front

  abbrev april : List ℕ
  april = next_months e 1 (4 ∷ []) front

  abbrev may : List ℕ
  may = next_months e 1 (5 ∷ []) front

  abbrev july : List ℕ
  july = next_months e 1 (7 ∷ []) front

  one-of-parts : (m : ℕ) → one_of (of2005 e front) m ≡ (one_of four m || (one_of april m || (one_of may m || one_of july m)))
  unfolding of2005
  one-of-parts m =
      one-append four (april ++ (may ++ july)) m
      ∙ ap (λ (b : Bool). one_of four m || b) (one-append april (may ++ july) m ∙ ap (λ (b : Bool). one_of april m || b) (one-append may july m))

  -- the same months, in any cover
  same-months : (m : ℕ) → one_of (of2005 e front) m ≡ one_of (next_months e 7 names2005 front) m
  same-months m =
      let w = window e 12 front m in
      one-of-parts m
      ∙ ap₂ ◌||◌ (next-year quarters 4 year-4 e front m)
      (ap₂ ◌||◌ (next-year (4 ∷ []) 1 year-april e front m)
      (ap₂ ◌||◌ (next-year (5 ∷ []) 1 year-may e front m) (next-year (7 ∷ []) 1 year-july e front m)))
      ∙ sym
      (bit_or (in_set names2005 m && w) (in_set quarters m && w) (in_set (4 ∷ []) m && w) (in_set (5 ∷ []) m && w) (in_set (7 ∷ []) m && w)
      (and-bit (in_set names2005 m) (in_set quarters m) (in_set (4 ∷ []) m) (in_set (5 ∷ []) m) (in_set (7 ∷ []) m) w (seven m)))
      ∙ sym (next-year names2005 7 year-7 e front m)

  length-parts : length (of2005 e front) ≡ length four + (length april + (length may + length july))
  unfolding of2005
  length-parts = simp length-append

  -- and as many of them in the cover
  as_many : length (of2005 e front) ≡ length (next_months e 7 names2005 front)
  as_many =
      omega (
        arith,
        length-parts,
        next-length quarters 4 year-4 e front,
        next-length (4 ∷ []) 1 year-april e front,
        next-length (5 ∷ []) 1 year-may e front,
        next-length (7 ∷ []) 1 year-july e front,
        next-length names2005 7 year-7 e front,
        count-parts (λ m. in_set names2005 m && ltb m e) (λ m. in_set quarters m && ltb m e) (λ m. in_set (4 ∷ []) m && ltb m e) (λ m. in_set (5 ∷ []) m && ltb m e)
            (λ m. in_set (7 ∷ []) m && ltb m e)
            (λ m. and-bit (in_set names2005 m) (in_set quarters m) (in_set (4 ∷ []) m) (in_set (5 ∷ []) m) (in_set (7 ∷ []) m) (ltb m e) (seven m)) 12 front,
      )

-- a search from 0 on passes over numbers that fail
skip : (f : ℕ → Bool) (none e s : ℕ) → s ≤ e → ((k : ℕ) → k < s → f k ≡ false) → first_from f none (e - s) s ≡ first_from f none e 0
skip f none e zero h t = let z : e - 0 ≡ e = omega arith in ap (λ (n : ℕ). first_from f none n 0) z
skip f none e (suc s) h t =
    ap (λ (x : ℕ). first_from f none (e - x) x) (sym (add-one s)) ∙
    search-next f none e s (omega arith) (t s (omega arith)) ∙ skip f none e s (omega arith) (λ k l. t k (omega arith))

module _ (cal : Calendar) (group : List ℕ) (date : ℕ) where
  abbrev r : Rule
  r = rule_of cal (Future Of2005) group

  abbrev test : ℕ → Bool
  test m = in_set names2005 m && leb date (last_trading_day cal (Future Of2005) group m)

  -- a month before the date's own has ended
  ended : (k : ℕ) → k < month_of date → test k ≡ false
  unfolding cover_rule key_of last_trading_day
  ended k l =
      let w : Lawful r = rule-lawful cal.cover (Future Of2005) group in
      none (in_set names2005 k) (lt-leb date (last_trading_day cal (Future Of2005) group k) (omega (arith, w.own k date l, day-anchor r w cal k)))
    where
      none : (b : Bool) {c : Bool} → c ≡ false → (b && c) ≡ false
      none true e = e
      none false e = refl

  -- the front of the rule is the front of the sentence
  front-2005 : front r cal date ≡ front2005 cal group date
  unfolding front front2005 cover_rule key_of places_of last_trading_day
  front-2005 = go (lt-or-ge (month_of (cover_end cal.cover)) (month_of date))
    where
      e : ℕ
      e = month_of (cover_end cal.cover)

      go : (e < month_of date) ⊎ (month_of date ≤ e) → first_from test e (e - month_of date) (month_of date) ≡ first_from test e e 0
      go (inl l) = search-none test e e (month_of date) (omega arith) ∙ sym (search-none test e e e (omega arith)) ∙
          skip test e e e (omega arith) (λ k h. ended k (omega arith))
      go (inr l) = skip test e e (month_of date) l (λ k h. ended k h)

  -- the fresh listing of a future of 2005
  abbrev keys2005 : List ℕ
  keys2005 = fresh_keys r cal date

  next-seven : keys2005 ≡ next_months (month_of (cover_end cal.cover)) 7 names2005 (front2005 cal group date)
  unfolding fresh_keys cover_rule key_of places_of
  next-seven = rw front-2005 refl

  -- its months are those of the sentence
  listed-2005 : (m : ℕ) → one_of (months2005 cal group date) m ≡ one_of keys2005 m
  listed-2005 m = same-months _ _ m ∙ ap (λ (l : List ℕ). one_of l m) (sym next-seven)

  -- it has as many
  listed-as-many : length (months2005 cal group date) ≡ length keys2005
  listed-as-many = as_many _ _ ∙ sym (ap length next-seven)

  -- and 16 is answered yes where all seven of the sentence are in the cover
  complete-2005 : all_in_cover cal (Future Of2005) group date ≡ eqb (length (months2005 cal group date)) 7
  unfolding complete cover_rule places_of
  complete-2005 = ap (λ (n : ℕ). eqb n 7) (sym listed-as-many)

-- the two claims
pub same : (beyond from : ℕ) → SameMonths beyond from
same beyond from = record { each = same-months beyond from; as_many = as_many beyond from }

-- the listed months of a future of 2005 are those of the sentence of the request
pub listed : (cal : Calendar) (group : List ℕ) (date : ℕ) → Listed2005 cal group date
listed cal group date =
    record {
      from = front-2005 cal group date;
      each = listed-2005 cal group date;
      as_many = listed-as-many cal group date;
      all = complete-2005 cal group date;
    }
