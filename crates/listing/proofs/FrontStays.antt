-- Where the front stays (27), so does the listing.
-- Assumes nothing.
use mathlib.Core.Path.{◌≡◌, sym, ap}
use mathlib.Core.Bool.{true}
use Prim.Native.Nat.{ℕ}
use borrow.Author.Tests.{eqb-true}
use Rattle.calendar.specs.declared.Calendar.{Calendar}
use Rattle.listing.specs.Rules.{Rule, front, front_stays, taken, fresh_keys, complete}

module _ (r : Rule) (cal reopened : Calendar) (date : ℕ) (stays : front_stays r cal reopened date ≡ true) where
  -- where the front stays, the front after the reopening is the front before it
  pub same-front : front r reopened date ≡ front r cal date
  unfolding front_stays
  same-front = sym (eqb-true (front r cal date) (front r reopened date) stays)

  -- where the front stays, the fresh listing has the same keys after the reopening as before it
  pub same_keys : fresh_keys r reopened date ≡ fresh_keys r cal date
  unfolding fresh_keys
  same_keys = ap (taken r.beyond r.places) same-front

  -- and question 16 is still answered yes
  pub still-complete : complete r cal date ≡ true → complete r reopened date ≡ true
  unfolding complete
  still-complete e = rw same_keys e
