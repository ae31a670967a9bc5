-- The numbers that the code makes are the words of the definitions: the word of a test has the days that pass it, and no other word of w days has.
-- Assumes nothing.
use mathlib.Core.Path.{◌≡◌, refl, ◌∙◌, sym, ap}
use mathlib.Core.Bool.{Bool, true, false, not, ◌&&◌, cond, and-false}
use mathlib.Core.Logic.{◌⊎◌, inl, inr}
use mathlib.Core.List.{List}
use Prim.Native.Nat.{ℕ, zero, suc, ◌+◌, ◌-◌, ◌*◌, ◌/◌, ◌%◌, ◌^◌, ◌≤◌, ◌<◌}
use native.Mathlib.Nat.{add-zero, mod-lt, div-eq_of_lt}
use native.Mathlib.Omega.{arith}
use lib.Bits.{bit_or, bit_and, and_le_l, and_le_r, or_lt}
use lib.Dec.{eqb, ltb}
use lib.Pow.{split, pow_pos, pow_mono, pow-lt, shr-shr}
use borrow.Author.Tests.{eqb-true, eq-eqb, ne_eqb, lt-ltb, le-ltb, not-true}
use Rattle.questions.specs.Search.{every, some}
use Rattle.questions.proofs.Bools.{clash, is_false, same_test, lt-or-ge}
use Rattle.questions.proofs.Search.{every-at, every-all, some_at, some_one}
use Rattle.days.specs.Gregorian.{weekday_of}
use Rattle.calendar.specs.Bits.{bit_at}
use Rattle.calendar_words.specs.DayWords.{day_bit, day_word, weeks_of, rest_of, weekends_from, moved_on, no_seven, Shows, Weekends}
use Rattle.calendar_words.proofs.DayWords.{same_bits, all-zero, low-two, and-bit, twos, fours, seven-free, moved-kept, moved_new}

-- words of w days with the same days are equal
same-digit : (a b : ℕ) → a < 2 → b < 2 → eqb a 1 ≡ eqb b 1 → a ≡ b
same-digit a b l m e = go (low-two a l) (low-two b m)
  where
    go : (a ≡ 0) ⊎ (a ≡ 1) → (b ≡ 0) ⊎ (b ≡ 1) → a ≡ b
    go (inl p) (inl q) = p ∙ sym q
    go (inr p) (inr q) = p ∙ sym q
    go (inl p) (inr q) = clash {b = false} (rw (p, q) at e) refl
    go (inr p) (inl q) = clash {b = false} (sym (rw (p, q) at e)) refl

same-days : (w x y : ℕ) → x < 2 ^ w → y < 2 ^ w → ((p : ℕ) → p < w → day_bit w x p ≡ day_bit w y p) → x ≡ y
same-days w x y l m h =
    same_bits w x y l m
    (λ j k.
    let e : w - 1 - (w - 1 - j) ≡ j = omega arith in
    same-digit (x / 2 ^ j % 2) (y / 2 ^ j % 2) (omega arith) (omega arith) (rw e at (h (w - 1 - j) (omega arith))))

-- one day more at a word's end
day-half : (y : ℕ) (b : Bool) → (2 * y + cond b 1 0) / 2 ≡ y
day-half y true = omega arith
day-half y false = omega arith

day-more : (w y p : ℕ) (b : Bool) → p < w → day_bit (suc w) (2 * y + cond b 1 0) p ≡ day_bit w y p
day-more w y p b h =
    let e : suc w - 1 - p ≡ 1 + (w - 1 - p) = omega arith in
    ap (λ (k : ℕ). eqb ((2 * y + cond b 1 0) / 2 ^ k % 2) 1) e ∙
    ap (λ (n : ℕ). eqb (n % 2) 1) (sym (shr-shr (2 * y + cond b 1 0) 1 (w - 1 - p)) ∙ ap (λ (n : ℕ). n / 2 ^ (w - 1 - p)) (day-half y b))

day-last : (w y : ℕ) (b : Bool) → day_bit (suc w) (2 * y + cond b 1 0) w ≡ b
day-last w y b =
    let e : suc w - 1 - w ≡ 0 = omega arith in
    ap (λ (k : ℕ). eqb ((2 * y + cond b 1 0) / 2 ^ k % 2) 1) e ∙ go b
  where
    go : (b : Bool) → eqb ((2 * y + cond b 1 0) / 2 ^ 0 % 2) 1 ≡ b
    go true = eq-eqb ((2 * y + 1) / 2 ^ 0 % 2) 1 (omega arith)
    go false = ne_eqb ((2 * y + 0) / 2 ^ 0 % 2) 1 (omega arith)

word-step : (test : ℕ → Bool) (w y p : ℕ) → p < suc w → (p < w) ⊎ (w ≤ p) → (p < w → day_bit w y p ≡ test p)
    → day_bit (suc w) (2 * y + cond (test w) 1 0) p ≡ test p
word-step test w y p h (inl l) ih = day-more w y p (test w) l ∙ ih l
word-step test w y p h (inr l) ih =
    let e : p ≡ w = omega arith in
    ap (λ (k : ℕ). day_bit (suc w) (2 * y + cond (test w) 1 0) k) e ∙ day-last w y (test w) ∙ ap test (sym e)

below_step : (w y : ℕ) (b : Bool) → y < 2 ^ w → 2 * y + cond b 1 0 < 2 ^ suc w
below_step w y true l = omega (arith, l)
below_step w y false l = omega (arith, l)

-- the word of a test has the days that pass it, and no other word of w days has
module _ (test : ℕ → Bool) where
  -- the word of a test has no bit beyond its w days
  pub word_below : (w : ℕ) → day_word w test < 2 ^ w
  unfolding day_word
  word_below zero = omega arith
  word_below (suc w) = below_step w (day_word w test) (test w) (word_below w)

  -- day p of the word of a test has its bit exactly where p passes the test
  pub word-day : (w p : ℕ) → p < w → day_bit w (day_word w test) p ≡ test p
  unfolding day_word
  word-day zero p h = absurd (omega arith)
  word-day (suc w) p h = word-step test w (day_word w test) p h (lt-or-ge p w) (word-day w p)

  -- a word of w days that has the days that pass a test is the word of that test
  pub word-is : (w x : ℕ) → x < 2 ^ w → ((p : ℕ) → p < w → day_bit w x p ≡ test p) → x ≡ day_word w test
  word-is w x l h = same-days w x (day_word w test) l (word_below w) (λ p k. h p k ∙ sym (word-day w p k))

-- the words of year k: 0 outside their range, else the map's bits, and below 2^w always
module _ (map : List ℕ) (k : ℕ) where
  -- a year after the 16 maps has 0 for the rest of its map
  pub no-year : 16 ≤ k → 0 ≡ rest_of map k
  unfolding rest_of
  no-year h = rw (le-ltb k 16 h)

  -- a word of 32 days that shows the rest of a year's map is the rest of that map
  pub rest-is : (x : ℕ) → k < 16 → x < 2 ^ 32 → Shows map (368 * k + 336) 32 x → x ≡ rest_of map k
  unfolding rest_of
  rest-is x h l s = word-is (λ p. bit_at map (368 * k + 336 + p)) 32 x l s ∙ rw (lt-ltb k 16 h)

  -- the rest of the map of one of the 16 years shows the map's last 32 bits of that year
  pub rest-shows : (x : ℕ) → x ≡ rest_of map k → k < 16 → Shows map (368 * k + 336) 32 x
  unfolding rest_of
  rest-shows x e h p l = rw (e, lt-ltb k 16 h) (word-day (λ p. bit_at map (368 * k + 336 + p)) 32 p l)

  -- the rest of a year's map has no bit beyond its 32 days
  pub rest_below : (x : ℕ) → x ≡ rest_of map k → x < 2 ^ 32
  unfolding rest_of
  rest_below x e = rw e (go (ltb k 16))
    where
      go : (b : Bool) → cond b (day_word 32 (λ p. bit_at map (368 * k + 336 + p))) 0 < 2 ^ 32
      go true = word_below (λ p. bit_at map (368 * k + 336 + p)) 32
      go false = omega arith

  module _ (j : ℕ) where
    -- a year after the 16 maps, or eight weeks after the sixth, has the word 0
    pub no-weeks : (16 ≤ k) ⊎ (6 ≤ j) → 0 ≡ weeks_of map k j
    unfolding weeks_of
    no-weeks (inl h) = rw (le-ltb k 16 h)
    no-weeks (inr h) = rw (le-ltb j 6 h, and-false (ltb k 16))

    -- a word of 56 days that shows eight weeks of a year's map is the word of those weeks
    pub weeks-is : (x : ℕ) → k < 16 → j < 6 → x < 2 ^ 56 → Shows map (368 * k + 56 * j) 56 x → x ≡ weeks_of map k j
    unfolding weeks_of
    weeks-is x h g l s = word-is (λ p. bit_at map (368 * k + 56 * j + p)) 56 x l s ∙ rw (lt-ltb k 16 h, lt-ltb j 6 g)

    -- the word of eight weeks of one of the 16 years shows the map's 56 bits of those weeks
    pub weeks-shows : (x : ℕ) → x ≡ weeks_of map k j → k < 16 → j < 6 → Shows map (368 * k + 56 * j) 56 x
    unfolding weeks_of
    weeks-shows x e h g p l = rw (e, lt-ltb k 16 h, lt-ltb j 6 g) (word-day (λ p. bit_at map (368 * k + 56 * j + p)) 56 p l)

    -- the word of eight weeks has no bit beyond its 56 days
    pub weeks-below : (x : ℕ) → x ≡ weeks_of map k j → x < 2 ^ 56
    unfolding weeks_of
    weeks-below x e = rw e (go (ltb k 16 && ltb j 6))
      where
        go : (b : Bool) → cond b (day_word 56 (λ p. bit_at map (368 * k + 56 * j + p))) 0 < 2 ^ 56
        go true = word_below (λ p. bit_at map (368 * k + 56 * j + p)) 56
        go false = omega arith

-- the Saturdays and Sundays
pub weekends-are : (day x : ℕ) → x ≡ weekends_from day → Weekends day x
unfolding weekends_from
weekends-are day x e p h = rw e (word-day (λ p. not (ltb (weekday_of (day + p)) 5)) 64 p h)

-- a bit that is left comes from seven
unpair : (x k j : ℕ) → bit_and x (x / 2 ^ k) / 2 ^ j % 2 ≡ 1 → (x / 2 ^ j % 2 ≡ 1) × (x / 2 ^ (j + k) % 2 ≡ 1)
unpair x k j h =
    let e : k + j ≡ j + k = omega arith in
    let s : x / 2 ^ (j + k) % 2 ≡ x / 2 ^ k / 2 ^ j % 2 = sym (ap (λ (n : ℕ). n % 2) (shr-shr x k j) ∙ ap (λ (n : ℕ). x / 2 ^ n % 2) e) in
    let t : bit_and (x / 2 ^ j % 2) (x / 2 ^ k / 2 ^ j % 2) ≡ 1 = sym (and-bit x (x / 2 ^ k) j) ∙ h in
    (omega (arith, t, and_le_l (x / 2 ^ j % 2) (x / 2 ^ k / 2 ^ j % 2)), omega (arith, s, t, and_le_r (x / 2 ^ j % 2) (x / 2 ^ k / 2 ^ j % 2)))

left-bits : (x j : ℕ) → bit_and (fours x) (fours x / 2 ^ 3) / 2 ^ j % 2 ≡ 1 → (i : ℕ) → i < 7 → x / 2 ^ (j + i) % 2 ≡ 1
left-bits x j h i l = go (lt-or-ge i 3)
  where
    of_two : (m : ℕ) → twos x / 2 ^ m % 2 ≡ 1 → (c : ℕ) → c < 2 → x / 2 ^ (m + c) % 2 ≡ 1
    of_two m t zero l = ap (λ (n : ℕ). x / 2 ^ n % 2) (add-zero m) ∙ (unpair x 1 m t).0
    of_two m t (suc zero) l = (unpair x 1 m t).1
    of_two m t (suc (suc c)) l = absurd (omega arith)

    of_four : (m : ℕ) → fours x / 2 ^ m % 2 ≡ 1 → (c : ℕ) → c < 4 → (c < 2) ⊎ (2 ≤ c) → x / 2 ^ (m + c) % 2 ≡ 1
    of_four m t c l (inl h) = of_two m (unpair (twos x) 2 m t).0 c h
    of_four m t c l (inr h) =
        let e : m + c ≡ m + 2 + (c - 2) = omega arith in
        ap (λ (n : ℕ). x / 2 ^ n % 2) e ∙ of_two (m + 2) (unpair (twos x) 2 m t).1 (c - 2) (omega arith)

    go : (i < 3) ⊎ (3 ≤ i) → x / 2 ^ (j + i) % 2 ≡ 1
    go (inl k) = of_four j (unpair (fours x) 3 j h).0 i (omega arith) (lt-or-ge i 2)
    go (inr k) =
        let e : j + i ≡ j + 3 + (i - 3) = omega arith in
        ap (λ (n : ℕ). x / 2 ^ n % 2) e ∙ of_four (j + 3) (unpair (fours x) 3 j h).1 (i - 3) (omega arith) (lt-or-ge (i - 3) 2)

-- no word of 64 days has a bit above
no_above : (x j : ℕ) → x < 2 ^ 64 → 64 ≤ j → x / 2 ^ j % 2 ≡ 1 → ⊥
no_above x j l h e = let z : x / 2 ^ j ≡ 0 = div-eq_of_lt (omega (arith, l, pow_mono h)) in omega arith

abbrev seven_from : ℕ → ℕ → Bool
seven_from x p = every 7 (λ i. day_bit 64 x (p + i))

-- a word that passes the test has no seven days in a row with their bit
pub never-seven : (x : ℕ) → no_seven x ≡ true → (p : ℕ) → p + 7 ≤ 64 → ((i : ℕ) → i < 7 → day_bit 64 x (p + i) ≡ true) → ⊥
unfolding no_seven
never-seven x e p l h = clash (some_at (seven_from x) 58 p (every-all (λ i. day_bit 64 x (p + i)) 7 h) (omega arith)) (not-true (some 58 (seven_from x)) e)

-- a bit is left exactly where seven days in a row have theirs
pub seven_is : (x : ℕ) → x < 2 ^ 64 → eqb
    (bit_and (bit_and (bit_and x (x / 2 ^ 1)) (bit_and x (x / 2 ^ 1) / 2 ^ 2)) (bit_and (bit_and x (x / 2 ^ 1)) (bit_and x (x / 2 ^ 1) / 2 ^ 2) / 2 ^ 3)) 0 ≡ no_seven x
unfolding no_seven
seven_is x l = same_test (eqb left 0) (not (some 58 (seven_from x))) (λ z. ap not (is_false _ (λ s. there (eqb-true left 0 z) s))) (λ e. eq-eqb left 0 (none e))
  where
    left : ℕ
    left = bit_and (fours x) (fours x / 2 ^ 3)

    there : left ≡ 0 → some 58 (seven_from x) ≡ true → ⊥
    there z s =
        let f = some_one (seven_from x) 58 s in
        seven-free x z f.at (omega (arith, f.below)) (λ i k. every-at (λ i. day_bit 64 x (f.at + i)) 7 i f.passes k)

    bit-of : not (some 58 (seven_from x)) ≡ true → (j : ℕ) → left / 2 ^ j % 2 ≡ 1 → ⊥
    bit-of e j h = go (lt-or-ge j 58)
      where
        go : (j < 58) ⊎ (58 ≤ j) → ⊥
        go (inl k) =
            never-seven x e (57 - j) (omega arith)
            (λ i m.
            let q : 64 - 1 - (57 - j + i) ≡ j + (6 - i) = omega arith in
            eq-eqb _ 1 (ap (λ (n : ℕ). x / 2 ^ n % 2) q ∙ left-bits x j h (6 - i) (omega arith)))
        go (inr k) = no_above x (j + 6) l (omega arith) (left-bits x j h 6 (omega arith))

    none : not (some 58 (seven_from x)) ≡ true → left ≡ 0
    none e =
        all-zero 64 left (omega (arith, l, and_le_l (fours x) (fours x / 2 ^ 3), and_le_l (twos x) (twos x / 2 ^ 2), and_le_l x (x / 2 ^ 1)))
        (λ j k. zero_of (low-two (left / 2 ^ j % 2) (omega arith)) (bit-of e j))
      where
        zero_of : {n : ℕ} → (n ≡ 0) ⊎ (n ≡ 1) → (n ≡ 1 → ⊥) → n ≡ 0
        zero_of (inl p) q = p
        zero_of (inr p) q = absurd (q p)

-- the same of a word r, day by day
pub record WordMoved (x next w r : ℕ) : Type 0 where
  -- the first 64 − w days of r are the days of x from day w on
  pub kept : (p : ℕ) → p < 64 - w → day_bit 64 r p ≡ day_bit 64 x (w + p)
  -- the last w days of r are the days of `next`
  pub new : (p : ℕ) → p < w → day_bit 64 r (64 - w + p) ≡ day_bit w next p

-- the code's test whether a number is a word of w days
pub no_word : (next w : ℕ) → 0 < next / 2 ^ w → 2 ^ w ≤ next
no_word next w h = go (lt-or-ge next (2 ^ w))
  where
    go : (next < 2 ^ w) ⊎ (2 ^ w ≤ next) → 2 ^ w ≤ next
    go (inl l) = let z : next / 2 ^ w ≡ 0 = div-eq_of_lt l in absurd (omega arith)
    go (inr l) = l

-- a number that leaves nothing above w bits is a word of w days
pub is_word : (next w : ℕ) → next / 2 ^ w ≤ 0 → next < 2 ^ w
is_word next w h = let z : next / 2 ^ w ≡ 0 = omega arith in omega (arith, ap (λ (q : ℕ). q * 2 ^ w) z, split next w, mod-lt next (pow_pos w))

module _ (x next w : ℕ) where
  -- day p of that word
  abbrev day_moved : ℕ → Bool
  day_moved p = cond (ltb p (64 - w)) (day_bit 64 x (w + p)) (day_bit w next (p - (64 - w)))

  -- the moved word is 0 where w is 64 or more, or `next` has more than w days
  pub not-moved : (64 ≤ w) ⊎ (2 ^ w ≤ next) → 0 ≡ moved_on x next w
  unfolding moved_on
  not-moved (inl h) = rw (le-ltb w 64 h)
  not-moved (inr h) = rw (le-ltb next (2 ^ w) h, and-false (ltb w 64))

  module _ (b : w < 64) (l : next < 2 ^ w) where
    moved_word : moved_on x next w ≡ day_word 64 day_moved
    unfolding moved_on
    moved_word = rw (lt-ltb w 64 b, lt-ltb next (2 ^ w) l)

    -- the code's shift and or give the moved word
    pub moved-is : bit_or (x * 2 ^ w % 2 ^ 64) next ≡ moved_on x next w
    moved-is = word-is day_moved 64 (bit_or (x * 2 ^ w % 2 ^ 64) next) (or_lt 64 (x * 2 ^ w % 2 ^ 64) next (omega arith) (omega (arith, l, pow-lt b)))
        (λ p h. go p h (lt-or-ge p (64 - w))) ∙ sym moved_word
      where
        go : (p : ℕ) → p < 64 → (p < 64 - w) ⊎ (64 - w ≤ p) → day_bit 64 (bit_or (x * 2 ^ w % 2 ^ 64) next) p ≡ day_moved p
        go p h (inl k) = moved-kept x next w b l p k ∙ rw (lt-ltb p (64 - w) k)
        go p h (inr k) =
            let e : p ≡ 64 - w + (p - (64 - w)) = omega arith in
            ap (λ (n : ℕ). day_bit 64 (bit_or (x * 2 ^ w % 2 ^ 64) next) n) e ∙ moved_new x next w b l (p - (64 - w)) (omega arith) ∙ rw (le-ltb p (64 - w) k)

    -- a number equal to the moved word has its days, day by day
    pub moved : (r : ℕ) → r ≡ moved_on x next w → WordMoved x next w r
    moved r e =
        let q : r ≡ bit_or (x * 2 ^ w % 2 ^ 64) next = e ∙ sym moved-is in
        record {
          kept = λ p h. ap (λ (n : ℕ). day_bit 64 n p) q ∙ moved-kept x next w b l p h;
          new = λ p h. ap (λ (n : ℕ). day_bit 64 n (64 - w + p)) q ∙ moved_new x next w b l p h;
        }
