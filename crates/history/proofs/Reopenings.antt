-- An accepted reopening has counts 0 and 0 (02, note 9): 27 keeps the keys of the listing.
-- Assumes nothing.
use mathlib.Core.Path.{◌≡◌, refl, sym, ap, ◌∙◌}
use mathlib.Core.Bool.{true}
use mathlib.Core.List.{List, [], ◌∷◌, map}
use Prim.Native.Nat.{ℕ}
use lib.Dec.{eqb}
use lib.ListN.{length}
use borrow.Author.Tests.{eq-eqb}
use Rattle.questions.specs.Search.{one_of}
use Rattle.questions.proofs.Bools.{or_left, or_right}
use Rattle.questions.proofs.Asks.{none-no}
use Rattle.calendar.specs.declared.Calendar.{Calendar}
use Rattle.calendar.specs.Trading.{in_cover, reopen_day, closed_weekday}
use Rattle.listing.specs.declared.Maturity.{Maturity}
use Rattle.listing.specs.Rules.{Rule, front_stays, fresh_keys, maturity}
use Rattle.listing.proofs.FrontStays.{same_keys}
use Rattle.table_numbering.specs.Numbering.{is_listed, number_of, missing}
use Rattle.table.specs.declared.Table.{Table}
use Rattle.table.specs.declared.Outcome.{Outcome}
use Rattle.table.specs.Table.{listed_in, sound, moved, reopen_asks, reopen_call, rule_in, fresh_in}
use Rattle.table.proofs.TableQuestions.{answered-yes}
use Rattle.table.proofs.Opens.{refusal_is}
use Rattle.history.proofs.ListingNumbers.{listed-one, months-of}
use Rattle.history.proofs.SoundTables.{sound-numbered}

-- maturities that are all listed among others: none is missing there
none-missing : (ms others : List Maturity) → ((k : ℕ) → is_listed ms k ≡ true → is_listed others k ≡ true) → missing ms others ≡ []
unfolding missing is_listed
none-missing [] others h = refl
none-missing (m ∷ ms) others h =
    rw (h m.key (or_left (is_listed ms m.key) (eq-eqb m.key m.key refl)))
    (none-missing ms others (λ k t. h k (or_right (eqb m.key k) t)))

-- the keys of a list of maturities
listed-keys : (r : Rule) (cal : Calendar) (nu : ℕ → ℕ) (ks : List ℕ) (k : ℕ) → is_listed (map (maturity r cal nu) ks) k ≡ one_of ks k
listed-keys r cal nu ks k = listed-one (map (maturity r cal nu) ks) k ∙ ap (λ (l : List ℕ). one_of l k) (months-of _ nu ks)

module _ (t : Table) (day : ℕ) where
  abbrev reopened : Calendar
  reopened = reopen_day t.calendar day

  abbrev fresh : List Maturity
  fresh = fresh_in t reopened t.date

  module _ (s : sound t ≡ true) (stays : front_stays (rule_in t t.calendar) t.calendar reopened t.date ≡ true) where
    abbrev r : Rule
    r = rule_in t t.calendar

    keys-are : fresh_keys (rule_in t reopened) reopened t.date ≡ fresh_keys r t.calendar t.date
    unfolding reopen_day
    keys-are = same_keys r t.calendar reopened t.date stays

    listed_same : (k : ℕ) → is_listed fresh k ≡ is_listed (listed_in t) k
    listed_same k =
        listed-keys (rule_in t reopened) reopened (λ k. 0) (fresh_keys (rule_in t reopened) reopened t.date) k
        ∙ ap (λ (ks : List ℕ). one_of ks k) keys-are
        ∙ sym (listed-keys r t.calendar (number_of (listed_in t)) (fresh_keys r t.calendar t.date) k)
        ∙ ap (λ (ms : List Maturity). is_listed ms k) (sym (sound-numbered t s).listing)

    moved-counts : ((moved t reopened t.date).entered ≡ 0) × ((moved t reopened t.date).left ≡ 0)
    unfolding moved
    moved-counts =
        (ap length (none-missing fresh (listed_in t) (λ k e. sym (listed_same k) ∙ e)), ap length (none-missing (listed_in t) fresh (λ k e. listed_same k ∙ e)))

  -- 'The call's two counts are the months that entered and that left in it': of an accepted reopening none
  pub reopen-counts : (reopen_call t day).refusal ≡ 0 → ((reopen_call t day).entered ≡ 0) × ((reopen_call t day).left ≡ 0)
  unfolding reopen_call
  reopen-counts e =
      let z = refusal_is t (reopen_asks t day) (moved t reopened t.date) e in
      let (a, e1) = none-no 9 (sound t) _ z in
      let (b, e2) = none-no 10 (in_cover t.calendar.cover day) _ e1 in
      let (c, e3) = none-no 12 _ _ e2 in
      let (d, e4) = none-no 25 (closed_weekday t.calendar day) _ e3 in
      let (f, e5) = none-no 26 _ [] e4 in
      let m = moved-counts a f in
      let q = answered-yes t (reopen_asks t day) (moved t reopened t.date) z in
      (ap (λ (o : Outcome). o.entered) q ∙ m.0, ap (λ (o : Outcome). o.left) q ∙ m.1)
