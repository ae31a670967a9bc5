-- The call that reopens a day, question by question.
-- Assumes nothing.
use mathlib.Core.Path.{◌≡◌, refl, ◌∙◌, sym, ap}
use mathlib.Core.Bool.{Bool, true, false}
use mathlib.Core.List.{List, ◌∷◌}
use Prim.Native.Nat.{ℕ, suc}
use lib.Dec.{eqb}
use lib.ListN.{get_or, drop}
use Rattle.questions.specs.Questions.{Ask, ask, first_no}
use Rattle.questions.proofs.Asks.{no-asks, first-yes, first-no}
use Rattle.calendar.specs.Trading.{reopen_day}
use Rattle.listing.specs.Rules.{Rule, front, front_stays, unused}
use Rattle.listing.proofs.FrontStays.{still-complete}
use Rattle.table.specs.declared.Table.{Table}
use Rattle.table.specs.Table.{sound, refused_with, reopen_asks, reopen_call, rule_in, covered_in}
use Rattle.table.proofs.TableQuestions.{sound-parts, answered-no, answered-yes, moved_or16}
use Rattle.table.proofs.FirstPlace.{first-front}

module _ (t : Table) (day : ℕ) where
  -- the listing's rule before the day is opened, and after
  abbrev rule : Rule
  rule = rule_in t t.calendar

  abbrev rule' : Rule
  rule' = rule_in t (reopen_day t.calendar day)

  -- question 27
  abbrev pub stays : Bool
  stays = front_stays rule t.calendar (reopen_day t.calendar day) t.date

  -- where the first of the questions left is answered no, its number is the refusal
  pub reopen-no : (n : ℕ) {b : Bool} (rest : List Ask) → first_no (reopen_asks t day) ≡ first_no (ask (suc n) b ∷ rest) → b ≡ false
      → refused_with t (suc n) ≡ reopen_call t day
  unfolding reopen_call
  reopen-no n rest e f = sym (answered-no t (reopen_asks t day) _ n (e ∙ first-no (suc n) rest f))

  -- reopening a day of an unsound table gives refusal 10
  pub reopen-10 : sound t ≡ false → reopen_call t day ≡ refused_with t 10
  reopen-10 a = sym (reopen-no 9 _ refl a)

  module _ (a : sound t ≡ true) where
    -- the code compares the key in the first place, which is the front
    pub stays-is : (b : Bool) → b ≡ eqb (get_or t.maturities 0 unused).key (front rule' (reopen_day t.calendar day) t.date) → b ≡ stays
    unfolding front_stays reopen_day
    stays-is b e =
        e ∙ ap (λ (k : ℕ). eqb k (front rule (reopen_day t.calendar day) t.date)) (first-front t (sound-parts t a).whole (sound-parts t a).listed)

    -- accepted: question 16, which is not asked, would be answered yes
    full : stays ≡ true → covered_in t (reopen_day t.calendar day) t.date ≡ true
    unfolding reopen_day
    full g = still-complete rule t.calendar (reopen_day t.calendar day) t.date g (sound-parts t a).whole

    -- a reopening with only 27 left, where the front stays, gives the table moved to the new calendar
    pub reopen-yes : stays ≡ true → first_no (reopen_asks t day) ≡ first_no (drop 4 (reopen_asks t day))
        → moved_or16 t (reopen_day t.calendar day) t.date ≡ reopen_call t day
    unfolding reopen_call
    reopen-yes g e = rw (full g) (sym (answered-yes t (reopen_asks t day) _ (e ∙ first-yes 27 _ g ∙ no-asks)))
