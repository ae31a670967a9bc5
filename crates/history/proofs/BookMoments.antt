-- What holds of the book at every moment of a history, and of two moments of it.
-- Assumes nothing.
use mathlib.Core.Path.{◌≡◌, refl, ◌∙◌}
use mathlib.Core.Bool.{Bool, true, false, not, ◌&&◌, ◌||◌, cond}
use mathlib.Core.List.{List, [], ◌∷◌, ◌++◌, map}
use mathlib.Core.Logic.{◌⊎◌, inl, inr}
use Prim.Native.Nat.{ℕ, ◌+◌, ◌≤◌, ◌<◌}
use native.Mathlib.Omega.{arith}
use lib.Dec.{eqb}
use lib.ListN.{length, length-append, length-map}
use borrow.Author.Tests.{eqb-true}
use Rattle.questions.specs.Questions.{first_no}
use Rattle.questions.specs.Search.{one_of}
use Rattle.questions.proofs.Bools.{clash, or-either}
use Rattle.calendar.specs.declared.Calendar.{Calendar}
use Rattle.product.specs.declared.Product.{Product}
use Rattle.listing.specs.declared.Maturity.{Maturity}
use Rattle.listing.specs.Rules.{Rule, front}
use Rattle.listing.specs.Months.{rule_of}
use Rattle.listing.proofs.Lawful.{Lawful}
use Rattle.listing.proofs.OfKinds.{rule-lawful, rule-begins}
use Rattle.table_numbering.specs.Numbering.{is_listed, missing}
use Rattle.amounts.specs.Prices.{new_size}
use Rattle.table_measures.specs.Measures.{with_size}
use Rattle.history.specs.Book.{Call, roll, close, reopen, measure, Book, calendar_after, date_after, book_opened, book_asks, book_moved, book_resized}
use Rattle.history.specs.Book.{book_accepted, book_after, book_run}
use Rattle.history.proofs.ListingNumbers.{one-append, listed-one}
use Rattle.history.proofs.Gone.{once, once-append, once-months}
use Rattle.history.proofs.Moves.{fresh, Numbered, numbers_next, numbers_first, ListingReplaced, moves, first-length, first-numbered}
use Rattle.history.proofs.Soundness.{Opened}
use Rattle.history.proofs.AcceptedCalls.{Accepted, rule-stays, after-opened, size-opened, forward}

-- the rule of a book
abbrev pub rule_in : Product → Book → Rule
rule_in p b = rule_of b.calendar p.kind p.group

-- the product of a book: the opened one with the book's size
abbrev pub product_in : Product → Book → Product
product_in p b = with_size p b.size

-- the front of its calendar and date
abbrev pub front_in : Product → Book → ℕ
front_in p b = front (rule_in p b) b.calendar b.date

-- a month that was listed up to now: it is listed, or it left
abbrev pub known : Book → ℕ → Bool
known b k = is_listed b.maturities k || one_of b.gone k

-- what holds of the book at every moment, with nu k the number that the key k ever had, or 0
pub record Inv (p : Product) (b : Book) (nu : ℕ → ℕ) : Type 0 where
  -- the questions of an accepted open are answered yes of its product, calendar and date
  pub opened : Opened (product_in p b) b.calendar b.date
  -- its maturities are a numbered listing
  pub numbered : Numbered (rule_in p b) b.calendar b.date b.maturities b.given nu
  -- as many numbers are given as months are listed or have left
  pub total : b.given ≡ length b.maturities + length b.gone
  -- each month that left is before the front
  pub past : (k : ℕ) → one_of b.gone k ≡ true → k < front_in p b
  -- each month left at most once
  pub apart : once b.gone ≡ true

-- a later moment: the rule is the same, numbers once given stay, the front has not gone back, and a month that was listed is listed or left
pub record Later (p : Product) (b : Book) (nu : ℕ → ℕ) (b' : Book) : Type 0 where
  -- the number that each key ever had at the later moment, or 0
  pub nu' : ℕ → ℕ
  -- what holds at every moment holds at the later one
  pub inv : Inv p b' nu'
  -- the rule is the same at both moments
  pub rule : rule_in p b' ≡ rule_in p b
  -- a number once given stays
  pub grows : (k : ℕ) → 1 ≤ nu k → nu' k ≡ nu k
  -- the front has not gone back
  pub on : front_in p b ≤ front_in p b'
  -- a month that was listed up to the first moment is listed at the later one or has left
  pub stays : (k : ℕ) → known b k ≡ true → known b' k ≡ true

module _ (p : Product) where
  abbrev lawful : (b : Book) → Lawful (rule_in p b)
  lawful b = rule-lawful b.calendar.cover p.kind p.group

  -- the opened book
  pub starts : (cal : Calendar) (date : ℕ) → Opened p cal date
      → Inv p (book_opened p.kind p.group p.size cal date) (numbers_first (rule_of cal p.kind p.group) cal date)
  unfolding book_opened one_of
  starts cal date o =
      let r = rule_of cal p.kind p.group in
      let w = rule-lawful cal.cover p.kind p.group in
      let b = rule-begins cal.cover p.kind p.group cal date o.covered in
      let s : r.first ≤ front r cal date = omega (arith, b) in
      record {
        opened = o;
        numbered = first-numbered r w cal date s;
        total = omega (arith, first-length r w cal date s);
        past = λ k e. clash e refl;
        apart =
            refl;
      }

  module _ (b : Book) (nu : ℕ → ℕ) (I : Inv p b nu) where
    -- a listing of a later front replaces the book's
    module _ (cal : Calendar) (date : ℕ) (o : Opened (product_in p b) cal date) (same : rule_of cal p.kind p.group ≡ rule_in p b)
        (later : front_in p b ≤ front (rule_in p b) cal date) where
      abbrev moved-book : Book
      moved-book = book_moved p.kind p.group b cal date

      abbrev left : List Maturity
      left = missing b.maturities (fresh (rule_in p b) cal date)

      moved_on : ListingReplaced (rule_in p b) b.calendar b.date b.maturities b.given nu cal date
      moved_on = moves (rule_in p b) (lawful b) b.calendar b.date b.maturities b.given nu I.numbered cal date later

      -- 'Numbers given = months listed + months that left'
      moved-total : moved-book.given ≡ length moved-book.maturities + length moved-book.gone
      unfolding book_moved
      moved-total = rw same (omega (arith, I.total, moved_on.balance, length-append b.gone (map (λ m. m.key) left), length-map left (λ m. m.key)))

      -- every month that was listed is listed or has left
      moved-stays : (k : ℕ) → known b k ≡ true → known moved-book k ≡ true
      unfolding book_moved
      moved-stays k e =
          rw (
            same,
            moved_on.listed k,
            one-append b.gone (map (λ m. m.key) left) k,
            ← listed-one left k,
            moved_on.left.holds k,
          )
          (go (is_listed b.maturities k) (one_of b.gone k) (is_listed (fresh (rule_in p b) cal date) k) e)
        where
          go : (a g f : Bool) → (a || g) ≡ true → (f || (g || (a && not f))) ≡ true
          go a g true e = refl
          go a true false e = refl
          go true false false e = refl
          go false false false e = e

      -- a month that left
      left_one : (k : ℕ) → one_of (map (λ m. m.key) left) k ≡ true → (front_in p b ≤ k) × (k < front (rule_in p b) cal date)
      left_one k e = moved_on.between k (listed-one left k ∙ e)

      moved-past : (k : ℕ) → one_of moved-book.gone k ≡ true → k < front_in p moved-book
      unfolding book_moved
      moved-past k e =
          rw same (side (or-either (one_of b.gone k) (one_of (map (λ m. m.key) left) k) (rw (same, one-append b.gone (map (λ m. m.key) left) k) at e)))
        where
          side : (one_of b.gone k ≡ true) ⊎ (one_of (map (λ m. m.key) left) k ≡ true) → k < front (rule_in p b) cal date
          side (inl t) = omega (arith, I.past k t)
          side (inr t) = (left_one k t).1

      moved_apart : once moved-book.gone ≡ true
      unfolding book_moved
      moved_apart =
          rw same (once-append b.gone (map (λ m. m.key) left) I.apart (once-months left moved_on.left.rising)
          (λ k e t. omega (arith, I.past k e, (left_one k t).0)))

      book-moved : Later p b nu moved-book
      unfolding book_moved
      book-moved = record {
        nu' = numbers_next (rule_in p b) b.calendar b.date b.given nu cal date;
        inv = record { opened = o; numbered = rw same moved_on.numbered; total = moved-total; past = moved-past; apart = moved_apart };
        rule = same;
        grows = moved_on.grows;
        on = rw same later;
        stays = moved-stays;
      }

    -- nothing has changed
    still : Later p b nu b
    still = record { nu' = nu; inv = I; rule = refl; grows = λ k h. refl; on = omega arith; stays = λ k h. h }

    -- a call's calendar and date, where the fresh listing replaces the old
    call-moved : (c : Call) → Accepted p.kind p.group b c
        → Later p b nu (book_moved p.kind p.group b (calendar_after b.calendar c) (date_after b.date c))
    call-moved c y =
        book-moved (calendar_after b.calendar c) (date_after b.date c) (after-opened (product_in p b) b I.opened c y)
        (rule-stays b.calendar p.kind p.group c) (forward p.kind p.group b (lawful b) c y)

    -- a measure changes only the size
    book-resized : (u v price : ℕ) → Accepted p.kind p.group b (measure u v price) → Later p b nu (book_resized b (new_size b.size u v))
    unfolding book_resized
    book-resized u v price y = record {
      nu' = nu;
      inv = record {
        opened = size-opened (product_in p b) b b.calendar b.date I.opened u v price y;
        numbered = I.numbered;
        total = I.total;
        past = I.past;
        apart = I.apart;
      };
      rule = refl;
      grows = λ k h. refl;
      on = omega arith;
      stays = λ k h. h;
    }

    accepted-later : (c : Call) → Accepted p.kind p.group b c → Later p b nu (book_accepted p.kind p.group b c)
    accepted-later (roll date) y = call-moved (roll date) y
    accepted-later (close day) y = call-moved (close day) y
    accepted-later (reopen day) y = call-moved (reopen day) y
    accepted-later (measure u v price) y = book-resized u v price y

    -- one call
    pub turn-later : (c : Call) → Later p b nu (book_after p.kind p.group b c)
    unfolding book_after
    turn-later c = go (eqb (first_no (book_asks p.kind p.group b c)) 0) refl
      where
        go : (t : Bool) → eqb (first_no (book_asks p.kind p.group b c)) 0 ≡ t → Later p b nu (cond t (book_accepted p.kind p.group b c) b)
        go true e = accepted-later c (eqb-true (first_no (book_asks p.kind p.group b c)) 0 e)
        go false e = still

  -- of three moments the first and the last
  then : (b : Book) (nu : ℕ → ℕ) (b' : Book) (s : Later p b nu b') (b'' : Book) → Later p b' s.nu' b'' → Later p b nu b''
  then b nu b' s b'' t = record {
    nu' = t.nu';
    inv = t.inv;
    rule = t.rule ∙ s.rule;
    grows = λ k h. t.grows k (omega (arith, s.grows k h)) ∙ s.grows k h;
    on = omega (arith, s.on, t.on);
    stays = λ k h. t.stays k (s.stays k h);
  }

  -- a list of calls
  pub run-later : (cs : List Call) (b : Book) (nu : ℕ → ℕ) → Inv p b nu → Later p b nu (book_run p.kind p.group b cs)
  unfolding book_run
  run-later [] b nu I = still b nu I
  run-later (c ∷ cs) b nu I =
      let s = turn-later b nu I c in
      then b nu (book_after p.kind p.group b c) s (book_run p.kind p.group (book_after p.kind p.group b c) cs)
      (run-later cs (book_after p.kind p.group b c) s.nu' s.inv)

  -- two lists of calls, one after the other, leave what the second leaves after the first
  pub run-append : (cs ds : List Call) (b : Book)
      → book_run p.kind p.group b (cs ++ ds) ≡ book_run p.kind p.group (book_run p.kind p.group b cs) ds
  unfolding book_run
  run-append [] ds b = refl
  run-append (c ∷ cs) ds b = run-append cs ds (book_after p.kind p.group b c)
