-- A window of 64 days that moves over the closed days of a calendar: where it has no seven idle days in a row, every run of seven days in it trades
-- (`passes`). It moves on by the days of the next word (`moves`): in a year of the cover six times by eight weeks (`next-weeks`), then by the 29 or 30
-- days that are left (`next-year`). What is known after each move is `Next`: the window's last eight days, and the runs that end before it.
-- Assumes nothing.
use mathlib.Core.Path.{◌≡◌, refl, ◌∙◌, sym, ap}
use mathlib.Core.Bool.{Bool, true, false, not, ◌||◌}
use mathlib.Core.Logic.{◌⊎◌, inl, inr}
use Prim.Native.Nat.{ℕ, ◌+◌, ◌-◌, ◌*◌, ◌/◌, ◌^◌, ◌≤◌, ◌<◌}
use native.Mathlib.Omega.{arith}
use lib.Bits.{bit_or}
use lib.Dec.{ltb}
use lib.Pow.{shr_lt}
use borrow.Author.Tests.{le-leb, lt-ltb}
use Rattle.questions.proofs.Bools.{clash, is_false, and_both, lt-or-ge}
use Rattle.questions.proofs.Search.{some_at, every-all}
use Rattle.days.specs.Gregorian.{weekday_of}
use Rattle.days.specs.Dates.{year_of, year_start, day_in_year}
use Rattle.days.proofs.Years.{year-from, year-until, year-start-is, year-start-le, year-start-most}
use Rattle.calendar.specs.declared.Cover.{Cover}
use Rattle.calendar.specs.declared.Calendar.{Calendar}
use Rattle.calendar.specs.Bits.{bit_at}
use Rattle.calendar.specs.Trading.{valid_cover, cover_start, cover_end, in_cover, slot_of, closed_on, trading_day, some_trades, every_week}
use Rattle.calendar.proofs.Covered.{years, cover-facts}
use Rattle.calendar_words.specs.DayWords.{day_bit, Shows, Weekends, no_seven}
use Rattle.calendar_words.proofs.DayWords.{or-day, shr-day, wider-day}
use Rattle.calendar_words.proofs.Equations.{never-seven, WordMoved}

-- ---- what a window shows, and what is shown by it
-- the bit of a day in the first map
abbrev pub closed_bit : Calendar → ℕ → Bool
closed_bit cal d = bit_at cal.closed (slot_of cal.cover d)

-- the last m days of a window, those before day e: a day of the cover has the bit of its slot
abbrev pub Ends : Calendar → ℕ → ℕ → ℕ → Type 0
Ends cal e m x = (d : ℕ) → d < e → e ≤ d + m → in_cover cal.cover d ≡ true → day_bit 64 x (64 + d - e) ≡ closed_bit cal d

-- fewer of its days
fewer : (cal : Calendar) (e m n x : ℕ) → n ≤ m → Ends cal e m x → Ends cal e n x
fewer cal e m n x l f d a b i = f d a (omega arith) i

-- the runs of seven days in the cover that end before day e hold a trading day
abbrev pub TradesUntil : Calendar → ℕ → Type 0
TradesUntil cal e = (s : ℕ) → cover_start cal.cover ≤ s → s + 7 ≤ e → some_trades cal s 7 ≡ true

-- up to the cover's end those are all runs
pub all-trade : (cal : Calendar) → TradesUntil cal (cover_end cal.cover) → every_week cal ≡ true
unfolding every_week
all-trade cal u = every-all (λ k. some_trades cal (cover_start cal.cover + k) 7) _ (λ k l. u (cover_start cal.cover + k) (omega arith) (omega arith))

-- ---- a window without seven idle days in a row
in-cover : (c : Cover) (d : ℕ) → cover_start c ≤ d → d < cover_end c → in_cover c d ≡ true
unfolding in_cover
in-cover c d a b = and_both (le-leb _ _ a) (lt-ltb _ _ b)

-- a day of the cover that does not trade is closed, or a Saturday or Sunday
not-trading : (cal : Calendar) (d : ℕ) → in_cover cal.cover d ≡ true → trading_day cal d ≡ false → (closed_bit cal d || not (ltb (weekday_of d) 5)) ≡ true
unfolding trading_day closed_on
not-trading cal d i t = go (ltb (weekday_of d) 5) refl (closed_bit cal d) refl
  where
    go : (p : Bool) → ltb (weekday_of d) 5 ≡ p → (q : Bool) → closed_bit cal d ≡ q → (q || not p) ≡ true
    go p e true f = refl
    go false e false f = refl
    go true e false f = clash (simp (i, e, f) refl) t

module _ (cal : Calendar) (e m x idle : ℕ) (l : m ≤ 64) (w : Ends cal e m x) (v : Weekends (e + 6) idle) where
  -- a day of the window that does not trade has its bit in the window with the weekends
  idle-bit : (d : ℕ) → d < e → e ≤ d + m → in_cover cal.cover d ≡ true → trading_day cal d ≡ false → day_bit 64 (bit_or x idle) (64 + d - e) ≡ true
  idle-bit d a b i t =
      let q : e + 6 + (64 + d - e) ≡ d + 70 = omega arith in
      let r : weekday_of (d + 70) ≡ weekday_of d = omega arith in
      or-day 64 x idle (64 + d - e) ∙ rw (w d a b i, v (64 + d - e) (omega arith), q, r) (not-trading cal d i t)

  -- so the window tells of the runs that end in its last m days; those before day t are known
  passes : (t : ℕ) → e + 6 ≤ t + m → e ≤ cover_end cal.cover → no_seven (bit_or x idle) ≡ true → TradesUntil cal t → TradesUntil cal e
  passes t a b free u s g h = go (lt-or-ge t (s + 7))
    where
      -- seven idle days from day s on would be seven bits in a row
      run : t < s + 7 → (b : Bool) → some_trades cal s 7 ≡ b → some_trades cal s 7 ≡ true
      run k true f = f
      run k false f = absurd (never-seven (bit_or x idle) free (64 + s - e) (omega arith) (λ i j.
          let p : 64 + s - e + i ≡ 64 + (s + i) - e = omega arith in
          let closed = is_false (trading_day cal (s + i)) (λ y. clash (some_at (λ j. trading_day cal (s + j)) 7 i y j) f) in
          ap (λ (n : ℕ). day_bit 64 (bit_or x idle) n) p ∙
          idle-bit (s + i) (omega arith) (omega arith) (in-cover cal.cover (s + i) (omega arith) (omega arith)) closed))

      go : (t < s + 7) ⊎ (s + 7 ≤ t) → some_trades cal s 7 ≡ true
      go (inl k) = run k (some_trades cal s 7) refl
      go (inr k) = u s g k

-- ---- a window that moves on by w days, those of the next word
moves : (cal : Calendar) (e m w x next r : ℕ) → m + w ≤ 64 → Ends cal e m x → WordMoved x next w r
    → ((q : ℕ) → q < w → in_cover cal.cover (e + q) ≡ true → day_bit w next q ≡ closed_bit cal (e + q)) → Ends cal (e + w) (m + w) r
moves cal e m w x next r l f v n d a b i = go (lt-or-ge d e)
  where
    go : (d < e) ⊎ (e ≤ d) → day_bit 64 r (64 + d - (e + w)) ≡ closed_bit cal d
    go (inl h) =
        let p : w + (64 + d - (e + w)) ≡ 64 + d - e = omega arith in
        v.kept (64 + d - (e + w)) (omega arith) ∙ ap (λ (k : ℕ). day_bit 64 x k) p ∙ f d h (omega arith) i
    go (inr h) =
        let p : 64 + d - (e + w) ≡ 64 - w + (d - e) = omega arith in
        let q : e + (d - e) ≡ d = omega arith in
        ap (λ (k : ℕ). day_bit 64 r k) p ∙ v.new (d - e) (omega arith) ∙ n (d - e) (omega arith) (ap (λ (k : ℕ). in_cover cal.cover k) q ∙ i)
        ∙ ap (λ (k : ℕ). closed_bit cal k) q

-- ---- the years of the cover
-- the first day of year k, and the day after its last
abbrev pub year_first : Cover → ℕ → ℕ
year_first c k = year_start (c.first_year + k)

abbrev pub year_end : Cover → ℕ → ℕ
year_end c k = year_start (c.first_year + k + 1)

-- a year of a valid cover
pub record InCover (c : Cover) (k : ℕ) : Type 0 where
  -- year k of the cover is 2000 or later
  pub low : 2000 ≤ c.first_year + k
  -- year k of the cover is 2099 or earlier
  pub high : c.first_year + k < 2100
  -- year k of the cover has at least 365 days
  pub long : year_first c k + 365 ≤ year_end c k
  -- year k of the cover ends by the cover's end
  pub within : year_end c k ≤ cover_end c

-- in a valid cover each of its years lies in 2000 to 2099, has at least 365 days and ends by the cover's end
pub year-in-cover : (c : Cover) (k : ℕ) → valid_cover c ≡ true → k < c.years → InCover c k
unfolding cover_end
year-in-cover c k v h =
    let t = years c v in
    let y = c.first_year + k in
    let s = year-start-is y (omega (arith, t)) (omega (arith, t)) in
    let e = year-start-is (y + 1) (omega (arith, t)) (omega (arith, t)) in
    record {
      low = omega (arith, t);
      high = omega (arith, t);
      long = omega arith;
      within = year-start-le (y + 1) (c.first_year + c.years) (omega arith);
    }

-- the slot of a day of year k of the cover
year-slot : (c : Cover) (k n : ℕ) → year_first c k + n < year_end c k → slot_of c (year_first c k + n) ≡ 368 * k + n
unfolding slot_of day_in_year
year-slot c k n l =
    let y = c.first_year + k in
    let d = year_first c k + n in
    let u : d < 36525 = omega (arith, year-start-most (y + 1)) in
    let a : y ≤ year_of d = year-from y d u (omega arith) in
    let b : year_of d < y + 1 = year-until (y + 1) d l in
    let f : year_of d ≡ y = omega arith in
    let s : year_start (year_of d) ≡ year_start y = ap year_start f in
    omega arith

-- a word of the maps shows days of year k
shows-days : (cal : Calendar) (k n w next : ℕ) → Shows cal.closed (368 * k + n) w next → year_first cal.cover k + n + w ≤ year_end cal.cover k
    → (q : ℕ) → q < w → day_bit w next q ≡ closed_bit cal (year_first cal.cover k + n + q)
shows-days cal k n w next s l q h =
    let S = year_first cal.cover k in
    let a : S + n + q ≡ S + (n + q) = omega arith in
    let b : 368 * k + n + q ≡ 368 * k + (n + q) = omega arith in
    s q h ∙ ap (λ (i : ℕ). bit_at cal.closed i) (b ∙ sym (year-slot cal.cover k (n + q) (omega arith)) ∙ ap (λ (i : ℕ). slot_of cal.cover i) (sym a))

-- a word of the last w days of year k is a window that ends with the year
year-ends : (cal : Calendar) (k n w x : ℕ) → w ≤ 64 → Shows cal.closed (368 * k + n) w x → year_end cal.cover k ≡ year_first cal.cover k + n + w
    → Ends cal (year_end cal.cover k) w x
year-ends cal k n w x l s f d a b i =
    let S = year_first cal.cover k in
    let q = d - (S + n) in
    let p : 64 + d - year_end cal.cover k ≡ 64 - w + q = omega arith in
    let z : 64 - w + w ≡ 64 = omega arith in
    let y : S + n + q ≡ d = omega arith in
    ap (λ (j : ℕ). day_bit 64 x j) p ∙ ap (λ (j : ℕ). day_bit j x (64 - w + q)) (sym z) ∙ wider-day (64 - w) w x q (omega arith) ∙
    shows-days cal k n w x s (omega arith) q (omega arith) ∙ ap (λ (j : ℕ). closed_bit cal j) y

-- the first w days of a word of 32 days, and that they are a word of w days
pub shows-part : (map : _) (slot w x : ℕ) → w ≤ 32 → Shows map slot 32 x → Shows map slot w (x / 2 ^ (32 - w))
shows-part map slot w x l s p h =
    let e : w + (32 - w) ≡ 32 = omega arith in
    shr-day w (32 - w) x p h ∙ ap (λ (n : ℕ). day_bit n x p) e ∙ s p (omega arith)

pub part-below : (w x : ℕ) → w ≤ 32 → x < 2 ^ 32 → x / 2 ^ (32 - w) < 2 ^ w
part-below w x l h = let e : w + (32 - w) ≡ 32 = omega arith in shr_lt w (32 - w) (rw e h)

-- ---- a year of the cover, from the eight days before it
-- before the cover's first year any word shows the last eight days, as none of them is in the cover
pub first-before : (cal : Calendar) (k x : ℕ) → k ≡ 0 → Ends cal (year_first cal.cover k) 8 x
unfolding cover_start
first-before cal k x z d a b i =
    let e : cal.cover.first_year + k ≡ cal.cover.first_year = omega arith in
    absurd (omega (arith, ap year_start e, cover-facts cal.cover d i))

-- and no run ends before it
pub none_yet : (cal : Calendar) → TradesUntil cal (year_first cal.cover 0)
unfolding cover_start
none_yet cal s a b = let e : cal.cover.first_year + 0 ≡ cal.cover.first_year = omega arith in absurd (omega (arith, ap year_start e))

-- the weekends are the same after weeks
weekends-later : (d n x : ℕ) → Weekends d x → Weekends (d + 7 * n) x
weekends-later d n x v p h =
    let e : weekday_of (d + p) ≡ weekday_of (d + 7 * n + p) = omega arith in
    v p h ∙ ap (λ (i : ℕ). not (ltb i 5)) e

-- what is known of year k after j times eight weeks
pub record Next (cal : Calendar) (k j x : ℕ) : Type 0 where
  -- the last eight days of the window have the closed days of the cover just before the next eight weeks of year k
  pub ends : Ends cal (year_first cal.cover k + 56 * j) 8 x
  -- where the runs of seven days that end before year k hold a trading day, so do those that end before the next eight weeks
  pub trades : TradesUntil cal (year_first cal.cover k) → TradesUntil cal (year_first cal.cover k + 56 * j)

-- a window that shows the eight days before year k is what is known of the year after no weeks
pub next-first : (cal : Calendar) (k x : ℕ) → Ends cal (year_first cal.cover k) 8 x → Next cal k 0 x
next-first cal k x f =
    let e : year_first cal.cover k + 56 * 0 ≡ year_first cal.cover k = omega arith in
    record { ends = rw e f; trades = λ u. rw e u }

module _ (cal : Calendar) (k : ℕ) (v : valid_cover cal.cover ≡ true) (h : k < cal.cover.years) where
  -- the year's first day, and the day after its last
  abbrev start : ℕ
  start = year_first cal.cover k

  abbrev end : ℕ
  end = year_end cal.cover k

  -- eight weeks on
  pub next-weeks : (j x next r idle : ℕ) → j < 6 → Next cal k j x → Shows cal.closed (368 * k + 56 * j) 56 next → WordMoved x next 56 r
      → Weekends (start + 6) idle → no_seven (bit_or r idle) ≡ true → Next cal k (j + 1) r
  next-weeks j x next r idle l w s m i free =
      let t = year-in-cover cal.cover k v h in
      let e : start + 56 * j + 56 ≡ start + 56 * (j + 1) = omega arith in
      let g : start + 6 + 7 * (8 * (j + 1)) ≡ start + 56 * (j + 1) + 6 = omega arith in
      let a : Ends cal (start + 56 * (j + 1)) 64 r =
      rw (← e) (moves cal (start + 56 * j) 8 56 x next r (omega arith) w.ends m (λ q b c. shows-days cal k (56 * j) 56 next s (omega (arith, t)) q b)) in
      let z : Weekends (start + 56 * (j + 1) + 6) idle = rw (← g) (weekends-later (start + 6) (8 * (j + 1)) idle i) in
      record {
        ends = fewer cal (start + 56 * (j + 1)) 64 8 r (omega arith) a;
        trades = λ u. passes cal (start + 56 * (j + 1)) 64 r idle (omega arith) a z (start + 56 * j) (omega arith) (omega (arith, t)) free (w.trades u);
      }

  -- the window moved on to the year's end
  pub next-year : (w x next r idle : ℕ) → end ≡ start + 336 + w → w ≤ 30 → Ends cal (start + 336) 8 x → Shows cal.closed (368 * k + 336) w next
      → WordMoved x next w r → Weekends (end + 6) idle → no_seven (bit_or r idle) ≡ true → TradesUntil cal (start + 336) → TradesUntil cal end
  next-year w x next r idle e l f s m i free u =
      let t = year-in-cover cal.cover k v h in
      let a : Ends cal end (8 + w) r =
      rw e (moves cal (start + 336) 8 w x next r (omega arith) f m (λ q b c. shows-days cal k 336 w next s (omega arith) q b)) in
      passes cal end (8 + w) r idle (omega arith) a i (start + 336) (omega arith) (omega (arith, t)) free u

  -- the days before the next year
  pub last-eight : (w x : ℕ) → end ≡ start + 336 + w → 29 ≤ w → w ≤ 30 → Shows cal.closed (368 * k + 336) w x → Ends cal end 8 x
  last-eight w x e l b s = fewer cal end w 8 x (omega arith) (year-ends cal k 336 w x (omega arith) s e)
