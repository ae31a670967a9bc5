-- A month among those that left was listed after some beginning of the list of calls: a call puts only months there that the book listed before it.
-- Assumes nothing.
use mathlib.Core.Path.{◌≡◌, refl, ap, ◌∙◌}
use mathlib.Core.Bool.{Bool, true, false, cond}
use mathlib.Core.List.{List, [], ◌∷◌, ◌++◌, map}
use mathlib.Core.Logic.{◌⊎◌, inl, inr}
use Prim.Native.Nat.{ℕ}
use lib.Dec.{eqb}
use Rattle.questions.specs.Questions.{first_no}
use Rattle.questions.specs.Search.{one_of}
use Rattle.questions.proofs.Bools.{clash, or_left, or_right, or-either}
use Rattle.calendar.specs.declared.Calendar.{Calendar}
use Rattle.calendar.specs.Trading.{close_day, reopen_day}
use Rattle.product.specs.declared.Kind.{Kind}
use Rattle.listing.specs.declared.Maturity.{Maturity}
use Rattle.listing.specs.Months.{fresh_of}
use Rattle.table_numbering.specs.Numbering.{is_listed, missing}
use Rattle.history.specs.Book.{Call, roll, close, reopen, measure, Book, book_opened, book_asks, book_moved, book_resized, book_accepted, book_after, book_run}
use Rattle.history.proofs.ListingNumbers.{one-append, listed-one}
use Rattle.history.proofs.Gone.{none_left}
use Rattle.history.proofs.BookMoments.{known}

-- a month that is missing elsewhere is listed here
missing-listed : (ms others : List Maturity) (k : ℕ) → is_listed (missing ms others) k ≡ true → is_listed ms k ≡ true
unfolding missing is_listed
missing-listed [] others k e = clash e refl
missing-listed (m ∷ ms) others k e = go (is_listed others m.key) (λ t. or_right (eqb m.key k) (missing-listed ms others k t)) e
  where
    go : (b : Bool) → (is_listed (missing ms others) k ≡ true → is_listed (m ∷ ms) k ≡ true)
        → is_listed (cond b (missing ms others) (m ∷ missing ms others)) k ≡ true → is_listed (m ∷ ms) k ≡ true
    go true ih t = ih t
    go false ih t = side (or-either (eqb m.key k) (is_listed (missing ms others) k) t)
      where
        side : (eqb m.key k ≡ true) ⊎ (is_listed (missing ms others) k ≡ true) → is_listed (m ∷ ms) k ≡ true
        side (inl q) = or_left (is_listed ms k) q
        side (inr q) = ih q

module _ (kind : Kind) (group : List ℕ) where
  -- a month that has left after a call was listed before it, or had left
  moved-left : (b : Book) (cal : Calendar) (date k : ℕ) → one_of (book_moved kind group b cal date).gone k ≡ true → known b k ≡ true
  unfolding book_moved
  moved-left b cal date k e = side (or-either (one_of b.gone k) (one_of (map (λ m. m.key) left) k)
      (rw (one-append b.gone (map (λ m. m.key) left) k) at e))
    where
      left : List Maturity
      left = missing b.maturities (fresh_of cal kind group date)

      side : (one_of b.gone k ≡ true) ⊎ (one_of (map (λ m. m.key) left) k ≡ true) → known b k ≡ true
      side (inl t) = or_right (is_listed b.maturities k) t
      side (inr t) = or_left (one_of b.gone k) (missing-listed b.maturities (fresh_of cal kind group date) k (listed-one left k ∙ t))

  accepted-left : (b : Book) (c : Call) (k : ℕ) → one_of (book_accepted kind group b c).gone k ≡ true → known b k ≡ true
  unfolding book_resized
  accepted-left b (roll date) k e = moved-left b b.calendar date k e
  accepted-left b (close day) k e = moved-left b (close_day b.calendar day) b.date k e
  accepted-left b (reopen day) k e = moved-left b (reopen_day b.calendar day) b.date k e
  accepted-left b (measure p q price) k e = or_right (is_listed b.maturities k) e

  turn-left : (b : Book) (c : Call) (k : ℕ) → one_of (book_after kind group b c).gone k ≡ true → known b k ≡ true
  unfolding book_after
  turn-left b c k e = go (eqb (first_no (book_asks kind group b c)) 0) e
    where
      go : (t : Bool) → one_of (cond t (book_accepted kind group b c) b).gone k ≡ true → known b k ≡ true
      go true e = accepted-left b c k e
      go false e = or_right (is_listed b.maturities k) e

  -- after some beginning of the calls the book listed the month
  pub record BookListed (b : Book) (cs : List Call) (k : ℕ) : Type 0 where
    -- a beginning of the list of calls
    pub beginning : List Call
    -- the calls after the beginning
    pub rest : List Call
    -- the beginning and the rest are all the calls
    pub whole : cs ≡ beginning ++ rest
    -- after the beginning the book lists the month
    pub listed : is_listed (book_run kind group b beginning).maturities k ≡ true

  -- a list of calls: the month had left before it, or was listed in it
  run-left : (cs : List Call) (b : Book) (k : ℕ) → one_of (book_run kind group b cs).gone k ≡ true → (one_of b.gone k ≡ true) ⊎ BookListed b cs k
  unfolding book_run
  run-left [] b k e = inl e
  run-left (c ∷ cs) b k e = go (run-left cs (book_after kind group b c) k e)
    where
      side : (is_listed b.maturities k ≡ true) ⊎ (one_of b.gone k ≡ true) → (one_of b.gone k ≡ true) ⊎ BookListed b (c ∷ cs) k
      side (inl t) = inr (record { beginning = []; rest = c ∷ cs; whole = refl; listed = t })
      side (inr t) = inl t

      go : (one_of (book_after kind group b c).gone k ≡ true) ⊎ BookListed (book_after kind group b c) cs k → (one_of b.gone k ≡ true) ⊎ BookListed b (c ∷ cs) k
      go (inl t) = side (or-either (is_listed b.maturities k) (one_of b.gone k) (turn-left b c k t))
      go (inr s) = inr (record { beginning = c ∷ s.beginning; rest = s.rest; whole = ap (◌∷◌ c) s.whole; listed = s.listed })

  -- none has left at the opening, so it was listed in the list
  pub left-listed : (size : ℕ) (cal : Calendar) (date : ℕ) (cs : List Call) (k : ℕ)
      → one_of (book_run kind group (book_opened kind group size cal date) cs).gone k ≡ true
      → BookListed (book_opened kind group size cal date) cs k
  left-listed size cal date cs k e = side (run-left cs (book_opened kind group size cal date) k e)
    where
      side : (one_of (book_opened kind group size cal date).gone k ≡ true) ⊎ BookListed (book_opened kind group size cal date) cs k
          → BookListed (book_opened kind group size cal date) cs k
      side (inl t) = clash t (none_left kind group size cal date k)
      side (inr s) = s
