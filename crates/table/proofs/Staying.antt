-- A roll whose front stays keeps its listing.
-- Assumes nothing.
use mathlib.Core.Path.{◌≡◌, refl, ◌∙◌, sym, ap}
use mathlib.Core.Bool.{Bool, true, false, ◌&&◌, ◌||◌, cond}
use mathlib.Core.Logic.{◌⊎◌, inl, inr}
use mathlib.Core.List.{List, [], ◌∷◌, ◌++◌, map}
use Prim.Native.Nat.{ℕ, zero, suc, ◌+◌, ◌-◌, ◌≤◌, ◌<◌}
use native.Mathlib.Omega.{arith}
use native.Mathlib.Nat.{add-zero}
use lib.Dec.{eqb, ltb}
use lib.ListN.{length, get_or, replicate, length-map, length-append, length-replicate, get_or-replicate, get_or-map, get_or-append}
use lib.Seq.{ext_get_or, get_or-take, length-take-le, get_or-append-add}
use borrow.Author.Tests.{eqb-true, eq-eqb, ne_eqb, ltb-true, le-ltb}
use Rattle.questions.specs.Search.{first_from}
use Rattle.questions.proofs.Bools.{both, or_left, or_right, lt-or-ge}
use Rattle.questions.proofs.Search.{every-at, search-none}
use Rattle.calendar.specs.declared.Calendar.{Calendar}
use Rattle.listing.specs.declared.Maturity.{Maturity}
use Rattle.listing.specs.Rules.{Rule, front, next_of, taken, fresh_keys, complete, maturity, unused, places15}
use Rattle.listing.specs.Months.{places_of_kind, cover_rule}
use Rattle.listing.proofs.Fresh.{places-most}
use Rattle.table_numbering.specs.Numbering.{is_listed, number_of, missing, with_number, unnumbered, renumbered, place_right}
use Rattle.table_numbering.proofs.Unique.{same-maturity}
use Rattle.table.specs.declared.Table.{Table}
use Rattle.table.specs.Table.{listed_in, lists_fresh, sound, moved, refused_with, kept_in, rule_in, fresh_in, covered_in}
use Rattle.table.proofs.TableQuestions.{sound-parts}
use Rattle.table.proofs.FirstPlace.{first-front}

-- a list of keys rises from k on
abbrev Rises : ℕ → List ℕ → Type 0
Rises k [] = 0 ≤ k
Rises k (x ∷ xs) = (k ≤ x) × Rises (suc x) xs

first-low : (f : ℕ → Bool) (none n d : ℕ) → d + n ≤ none → d ≤ first_from f none n d
unfolding first_from
first-low f none zero d h = omega arith
first-low f none (suc n) d h = go (f d) (first-low f none n (suc d) (omega arith))
  where
    go : (b : Bool) → suc d ≤ first_from f none n (suc d) → d ≤ cond b d (first_from f none n (suc d))
    go true i = omega arith
    go false i = omega arith

taken-rises : (e : ℕ) (ps : List (ℕ → Bool)) (k : ℕ) → Rises k (taken e ps k)
unfolding taken
taken-rises e [] k = omega arith
taken-rises e (set ∷ rest) k = go (ltb (next_of e set k) e) refl (taken-rises e rest (suc (next_of e set k)))
  where
    low : next_of e set k < e → (k < e) ⊎ (e ≤ k) → k ≤ next_of e set k
    low h (inl l) = first-low set e (e - k) k (omega arith)
    low h (inr l) = absurd (omega (arith, h, search-none set e e k l))

    go : (b : Bool) → ltb (next_of e set k) e ≡ b → Rises (suc (next_of e set k)) (taken e rest (suc (next_of e set k)))
        → Rises k (cond b (next_of e set k ∷ taken e rest (suc (next_of e set k))) [])
    go true q i = (low (ltb-true _ _ q) (lt-or-ge k e), i)
    go false q i = omega arith

-- the months of a list
abbrev months : List Maturity → List ℕ
months ms = map (λ m. m.key) ms

-- a maturity without its number
abbrev pub blank : Maturity → Maturity
blank m = with_number m 0

-- each maturity of a list is found in another, with its number
abbrev pub Known : List Maturity → List Maturity → Type 0
Known old [] = ◌≡◌ {A = ℕ} 0 0
Known old (m ∷ ms) = (is_listed old m.key ≡ true) × (number_of old m.key ≡ m.number) × Known old ms

known_more : (m : Maturity) (old ms : List Maturity) (k : ℕ) → m.key < k → Rises k (months ms) → Known old ms → Known (m ∷ old) ms
unfolding is_listed number_of
known_more m old [] k l r h = refl
known_more m old (x ∷ xs) k l r h = (
  or_right (eqb m.key x.key) h.0,
  rw (ne_eqb m.key x.key (λ q. omega (arith, r.0, l, q))) h.1,
  known_more m old xs (suc x.key) (omega (arith, r.0)) r.1 h.2,
)

known-all : (ms : List Maturity) (k : ℕ) → Rises k (months ms) → Known ms ms
unfolding is_listed number_of
known-all [] k r = refl
known-all (m ∷ ms) k r = (
  or_left (is_listed ms m.key) (eq-eqb m.key m.key refl),
  rw (eq-eqb m.key m.key refl),
  known_more m ms ms (suc m.key) (omega arith) r.1 (known-all ms (suc m.key) r.1),
)

-- known maturities, without their numbers and then renumbered, have their numbers again
pub known-numbers : (old ms : List Maturity) (given : ℕ) → Known old ms → renumbered old given (map blank ms) ≡ ms
unfolding renumbered
known-numbers old [] given h = refl
known-numbers old (m ∷ ms) given h = rw (h.0, h.1) (ap (λ (l : List Maturity). m ∷ l) (known-numbers old ms given h.2))

-- no known maturity, without its number, is missing in the old listing
pub none-missing : (old ms : List Maturity) → Known old ms → missing (map blank ms) old ≡ []
unfolding missing
none-missing old [] h = refl
none-missing old (m ∷ ms) h = rw h.0 (none-missing old ms h.2)

blank-listed : (ms : List Maturity) (x : ℕ) → is_listed (map blank ms) x ≡ is_listed ms x
unfolding is_listed
blank-listed [] x = refl
blank-listed (m ∷ ms) x = ap (λ (b : Bool). eqb m.key x || b) (blank-listed ms x)

-- no known maturity is missing in the old listing without its numbers
pub none_left : (old ms : List Maturity) → Known old ms → missing ms (map blank old) ≡ []
unfolding missing
none_left old [] h = refl
none_left old (m ∷ ms) h = rw (blank-listed old m.key ∙ h.0) (none_left old ms h.2)

places-long : (xs : List Maturity) → length xs ≤ 15 → length (places15 xs) ≡ 15
unfolding places15
places-long xs l = length-append xs (replicate (15 - length xs) unused) ∙ ap (λ (k : ℕ). length xs + k) (length-replicate (15 - length xs) unused) ∙ omega arith

-- the months of a fresh listing are its keys
keys-are : (r : Rule) (cal : Calendar) (ks : List ℕ) → months (map (maturity r cal (λ k. 0)) ks) ≡ ks
keys-are r cal [] = refl
keys-are r cal (k ∷ ks) = ap (λ (l : List ℕ). k ∷ l) (keys-are r cal ks)

blank-months : (ms : List Maturity) → months (map blank ms) ≡ months ms
blank-months [] = refl
blank-months (m ∷ ms) = ap (λ (l : List ℕ). m.key ∷ l) (blank-months ms)

-- what a sound table lists, and its unused places
module _ (t : Table) (s : sound t ≡ true) (len : length t.maturities ≡ 15) where
  abbrev n : ℕ
  n = places_of_kind t.product.kind

  abbrev fresh : List Maturity
  fresh = fresh_in t t.calendar t.date

  -- the fresh listing of a sound table has as many maturities as its kind has places
  pub fresh-long : length fresh ≡ n
  unfolding complete cover_rule
  fresh-long = length-map (fresh_keys (rule_in t t.calendar) t.calendar t.date) _ ∙ eqb-true _ _ (sound-parts t s).whole

  old-long : length (listed_in t) ≡ n
  old-long = length-take-le n t.maturities (omega (arith, len, places-most t.product.kind))

  right : (i : ℕ) → i < 15 → place_right t.maturities (places15 fresh) n i ≡ true
  unfolding lists_fresh
  right i h = every-at (place_right t.maturities (places15 fresh) n) 15 i (sound-parts t s).listed h

  -- the place's parts
  pub record Place (i : ℕ) : Type 0 where
    -- the place holds the key of the fresh listing's place
    pub key : (get_or t.maturities i unused).key ≡ (get_or (places15 fresh) i unused).key
    -- the place holds the last day of the fresh listing's place
    pub day : (get_or t.maturities i unused).day ≡ (get_or (places15 fresh) i unused).day
    -- the place holds the days stepped back of the fresh listing's place
    pub back : (get_or t.maturities i unused).back ≡ (get_or (places15 fresh) i unused).back
    -- an unused place has number 0
    pub zero_number : n ≤ i → (get_or t.maturities i unused).number ≡ 0

  -- each of the fifteen places of a sound table holds the key, day and days stepped back of the fresh listing
  pub place : (i : ℕ) → i < 15 → Place i
  place i h =
      let m = get_or t.maturities i unused in
      let f = get_or (places15 fresh) i unused in
      let (a, b) = both (eqb m.key f.key && (eqb m.day f.day && eqb m.back f.back)) (ltb i n || eqb m.number 0) (right i h) in
      let (c, e) = both (eqb m.key f.key) (eqb m.day f.day && eqb m.back f.back) a in
      let (d, g) = both (eqb m.day f.day) (eqb m.back f.back) e in
      record { key = eqb-true _ _ c; day = eqb-true _ _ d; back = eqb-true _ _ g; zero_number = λ l. eqb-true _ _ (rw (le-ltb i n l) at b) }

  -- the used places of the fresh listing hold its maturities
  pub in-places : (i : ℕ) → i < n → get_or (places15 fresh) i unused ≡ get_or fresh i unused
  unfolding places15
  in-places i h = get_or-append fresh (replicate (15 - length fresh) unused) unused i (omega (arith, fresh-long))

  after-places : (xs : List Maturity) (i : ℕ) → length xs ≤ i → i < 15 → get_or (places15 xs) i unused ≡ unused
  unfolding places15
  after-places xs i h l =
      let e : length xs + (i - length xs) ≡ i = omega arith in
      ap (λ (j : ℕ). get_or (xs ++ replicate (15 - length xs) unused) j unused) (sym e) ∙
      get_or-append-add xs (replicate (15 - length xs) unused) (i - length xs) unused ∙
      get_or-replicate (15 - length xs) (i - length xs) unused unused (omega arith)

  -- a fresh maturity has no number
  fresh-number : (i : ℕ) → (get_or fresh i unused).number ≡ 0
  fresh-number i = numberless (fresh_keys (rule_in t t.calendar) t.calendar t.date) i
    where
      numberless : (ks : List ℕ) (i : ℕ) → (get_or (map (maturity (rule_in t t.calendar) t.calendar (λ k. 0)) ks) i unused).number ≡ 0
      numberless [] i = refl
      numberless (k ∷ ks) zero = refl
      numberless (k ∷ ks) (suc i) = numberless ks i

  -- the fresh listing is what the table lists, without the numbers
  pub blank-is : fresh ≡ map blank (listed_in t)
  blank-is =
      ext_get_or unused fresh (map blank (listed_in t)) (fresh-long ∙ sym old-long ∙ sym (length-map (listed_in t) blank))
      (λ i h.
      let l : i < n = omega (arith, fresh-long) in
      let p = place i (omega (arith, places-most t.product.kind)) in
      let q = get_or-take n t.maturities i unused l in
      sym
      (get_or-map blank (listed_in t) i unused ∙ ap blank q ∙
      same-maturity (blank (get_or t.maturities i unused)) (get_or fresh i unused) (p.key ∙ ap (λ (m : Maturity). m.key) (in-places i l))
      (p.day ∙ ap (λ (m : Maturity). m.day) (in-places i l)) (p.back ∙ ap (λ (m : Maturity). m.back) (in-places i l)) (sym (fresh-number i))))

  -- the fresh listing of a sound table is what the table lists, without the numbers
  pub listed-fresh : fresh_in t t.calendar t.date ≡ unnumbered (listed_in t)
  listed-fresh = blank-is

  in-old : (i : ℕ) → i < n → get_or (places15 (listed_in t)) i unused ≡ get_or t.maturities i unused
  unfolding places15
  in-old i l = get_or-append (listed_in t) (replicate (15 - length (listed_in t)) unused) unused i (omega (arith, old-long)) ∙
      get_or-take n t.maturities i unused l

  -- the places are what the table lists, then zeros
  pub places-are : places15 (listed_in t) ≡ t.maturities
  places-are =
      ext_get_or unused (places15 (listed_in t)) t.maturities (long (listed_in t) (omega (arith, old-long, places-most t.product.kind)) ∙ sym len)
      (λ i h. go i (omega (arith, h, long (listed_in t) (omega (arith, old-long, places-most t.product.kind)))) (lt-or-ge i n))
    where
      long : (xs : List Maturity) → length xs ≤ 15 → length (places15 xs) ≡ 15
      long xs l = places-long xs l

      go : (i : ℕ) → i < 15 → (i < n) ⊎ (n ≤ i) → get_or (places15 (listed_in t)) i unused ≡ get_or t.maturities i unused
      go i h (inl l) = in-old i l
      go i h (inr l) =
          let p = place i h in
          let z = after-places fresh i (omega (arith, fresh-long)) h in
          after-places (listed_in t) i (omega (arith, old-long)) h ∙
          sym (same-maturity (get_or t.maturities i unused) unused (p.key ∙ ap (λ (m : Maturity). m.key) z) (p.day ∙ ap (λ (m : Maturity). m.day) z)
          (p.back ∙ ap (λ (m : Maturity). m.back) z) (p.zero_number l))

  abbrev rule : Rule
  rule = rule_in t t.calendar

  -- each maturity that a sound table lists is found in its listing with its number
  pub known : Known (listed_in t) (listed_in t)
  unfolding fresh_keys
  known =
      let e : months (listed_in t) ≡ fresh_keys rule t.calendar t.date =
      sym (blank-months (listed_in t)) ∙ ap months (sym blank-is) ∙ keys-are rule t.calendar (fresh_keys rule t.calendar t.date) in
      known-all (listed_in t) (front rule t.calendar t.date) (rw e (taken-rises rule.beyond rule.places (front rule t.calendar t.date)))

  same_keys : (date : ℕ) → front rule t.calendar t.date ≡ front rule t.calendar date
      → fresh_keys rule t.calendar date ≡ fresh_keys rule t.calendar t.date
  unfolding fresh_keys
  same_keys date e = ap (taken rule.beyond rule.places) (sym e)

  -- a roll to a date whose front is the key in the first place is accepted and keeps the listing
  pub stays : (date : ℕ) → eqb (get_or t.maturities 0 unused).key (front rule t.calendar date) ≡ true
      → cond (covered_in t t.calendar date) (moved t t.calendar date) (refused_with t 16) ≡ kept_in t t.calendar date
  unfolding moved complete
  stays date e =
      let k = same_keys date (sym (first-front t (sound-parts t s).whole (sound-parts t s).listed) ∙ eqb-true _ _ e) in
      rw (k, (sound-parts t s).whole) (rw (
        blank-is,
        none-missing (listed_in t) (listed_in t) known,
        none_left (listed_in t) (listed_in t) known,
        known-numbers (listed_in t) (listed_in t) t.given known,
        places-are,
        add-zero t.given,
      ))
