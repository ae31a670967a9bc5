-- What is answered to a command, and what is kept, case by case.
-- Assumes nothing.
use mathlib.Core.Path.{◌≡◌, refl, sym, ap, ◌∙◌}
use mathlib.Core.Bool.{Bool, true, false, ◌&&◌, cond}
use mathlib.Core.List.{List}
use Prim.Native.Nat.{ℕ}
use native.Mathlib.Omega.{arith}
use lib.Dec.{eqb}
use borrow.Author.Tests.{eq-eqb, ne_eqb}
use Rattle.questions.specs.Questions.{Answer}
use Rattle.questions.proofs.Bools.{clash, both}
use Rattle.calendar.specs.declared.Calendar.{Calendar}
use Rattle.calendar.specs.Trading.{valid_cover, clean, every_week, in_cover}
use Rattle.product.specs.declared.Product.{Product}
use Rattle.product.specs.Fields.{product_right}
use Rattle.listing.specs.Months.{all_in_cover, week_into_cover}
use Rattle.file_load.specs.Halves.{product_by_halves}
use Rattle.table.specs.declared.Table.{Table}
use Rattle.table.specs.declared.Outcome.{Outcome}
use Rattle.table.specs.Table.{sound, calendar_sound, refused_with, opened_table, roll_call, close_call, open_in}
use Rattle.table.proofs.TableQuestions.{roll-10, close-10}
use Rattle.table.proofs.Opens.{accepted-in, opened-table-in}
use Rattle.history.specs.History.{opens}
use Rattle.history.proofs.Demand.{opened-sound}
use Rattle.history.proofs.SoundTables.{roll-sound, close-sound}
use Rattle.session_text.specs.TermsText.{outcome_text, refusal_text, bad_text}
use Rattle.session_lines.specs.declared.Command.{Command}
use Rattle.session_command.specs.declared.Kept.{Kept}
use Rattle.session_command.specs.Sessions.{bad, outcome_of, answer_text, refused_kept, kept_after}

-- the call of a command by its letter
module _ (opening : List ℕ → ℕ → Outcome) (t : Table) (c : Command) where
  -- a command with O opens
  pub opens_by : c.letter ≡ 79 → opening c.id c.day ≡ outcome_of opening t c
  unfolding outcome_of
  opens_by e = rw (eq-eqb c.letter 79 e) refl

  -- a command with R rolls the table to its day
  pub rolls : (c.letter ≡ 79 → ⊥) → c.letter ≡ 82 → roll_call t c.day ≡ outcome_of opening t c
  unfolding outcome_of
  rolls n e = rw (ne_eqb c.letter 79 n, eq-eqb c.letter 82 e) refl

  -- a command with neither O nor R closes its day
  pub closes : (c.letter ≡ 79 → ⊥) → (c.letter ≡ 82 → ⊥) → close_call t c.day ≡ outcome_of opening t c
  unfolding outcome_of
  closes n m = rw (ne_eqb c.letter 79 n, ne_eqb c.letter 82 m) refl

  -- a table that is not sound gets 10, from a roll and from a close
  pub unsound : (c.letter ≡ 79 → ⊥) → sound t ≡ false → refused_with t 10 ≡ outcome_of opening t c
  unfolding outcome_of
  unsound n e = rw (ne_eqb c.letter 79 n, roll-10 t c.day e, close-10 t c.day e) (go (eqb c.letter 82))
    where
      go : (b : Bool) → refused_with t 10 ≡ cond b (refused_with t 10) (refused_with t 10)
      go true = refl
      go false = refl

-- ---- question 10 of the table that an accepted call leaves

-- one of three is no, and so are all four
three-no : (a b c d : Bool) → (a && (b && c)) ≡ false → (a && (b && (c && d))) ≡ false
three-no true true true d e = clash refl e
three-no true true false d e = refl
three-no true false c d e = refl
three-no false b c d e = refl

module _ (p : Product) (cal : Calendar) (date : ℕ)
    (dated : in_cover cal.cover date ≡ true) (week : week_into_cover p.kind cal.cover date ≡ true)
    (whole : all_in_cover cal p.kind p.group date ≡ true) where
  opens-is : calendar_sound cal ≡ true → product_right p ≡ true → opens p cal date ≡ true
  unfolding opens
  opens-is e r =
      let (a, d) = both (valid_cover cal.cover) (clean cal && every_week cal) e in
      let (b, g) = both (clean cal) (every_week cal) d in
      rw (r, a, b, g, dated, week, whole) refl

  -- the table of an accepted open is sound where its calendar and its product are right
  opened-is : (a b : Bool) → calendar_sound cal ≡ a → product_right p ≡ b → sound (opened_table p cal date) ≡ (a && b)
  unfolding sound opened_table
  opened-is true true e r = opened-sound p cal date (opens-is e r)
  opened-is true false e r = rw r refl
  opened-is false true e r = rw r (three-no (valid_cover cal.cover) (clean cal) (every_week cal) _ e)
  opened-is false false e r = rw r refl

product_is : (p : Product) (cal : Calendar) (date : ℕ)
    → (calendar_sound cal && product_right p) ≡ (calendar_sound cal && product_right (opened_table p cal date).product)
unfolding opened_table
product_is p cal date = refl

open-leaves : (verdict : Answer Calendar) (f id : List ℕ) (date : ℕ) → (open_in verdict f id date).refusal ≡ 0
    → sound (open_in verdict f id date).table ≡ (calendar_sound verdict.value && product_right (open_in verdict f id date).table.product)
open-leaves verdict f id date e =
    let w = accepted-in verdict f id date e in
    rw (opened-table-in verdict f id date e) (opened_of (product_by_halves f id) verdict.value date w.dated w.week w.whole)
  where
    opened_of : (p : Product) (cal : Calendar) (date : ℕ) → in_cover cal.cover date ≡ true → week_into_cover p.kind cal.cover date ≡ true
        → all_in_cover cal p.kind p.group date ≡ true
        → sound (opened_table p cal date) ≡ (calendar_sound cal && product_right (opened_table p cal date).product)
    opened_of p cal date d w h = opened-is p cal date d w h (calendar_sound cal) (product_right p) refl refl ∙ product_is p cal date

roll-leaves : (t : Table) (date : ℕ) → (roll_call t date).refusal ≡ 0 → sound (roll_call t date).table ≡ true
roll-leaves t date e = go (sound t) refl
  where
    go : (b : Bool) → sound t ≡ b → sound (roll_call t date).table ≡ true
    go true q = roll-sound t q date
    go false q = absurd (omega (arith, e, ap (λ (o : Outcome). o.refusal) (roll-10 t date q)))

close-leaves : (t : Table) (day : ℕ) → (close_call t day).refusal ≡ 0 → sound (close_call t day).table ≡ true
close-leaves t day e = go (sound t) refl
  where
    go : (b : Bool) → sound t ≡ b → sound (close_call t day).table ≡ true
    go true q = close-sound t q day
    go false q = absurd (omega (arith, e, ap (λ (o : Outcome). o.refusal) (close-10 t day q)))

-- the table after an accepted command is sound, after an opening if its calendar is sound and its product right
pub leaves-sound : (verdict : Answer Calendar) (f : List ℕ) (t : Table) (c : Command) (o : Outcome) → o ≡ outcome_of (open_in verdict f) t c → o.refusal ≡ 0
    → sound o.table ≡ cond (eqb c.letter 79) (calendar_sound verdict.value && product_right o.table.product) true
unfolding outcome_of
leaves-sound verdict f t c o e z =
    rw e (go (eqb c.letter 79) (eqb c.letter 82) (sym (ap (λ (x : Outcome). x.refusal) e) ∙ z))
  where
    open_by : Outcome
    open_by = open_in verdict f c.id c.day

    go : (a b : Bool) → (cond a open_by (cond b (roll_call t c.day) (close_call t c.day))).refusal ≡ 0
        → sound (cond a open_by (cond b (roll_call t c.day) (close_call t c.day))).table
        ≡ cond a (calendar_sound verdict.value && product_right (cond a open_by (cond b (roll_call t c.day) (close_call t c.day))).table.product) true
    go true b y = open-leaves verdict f c.id c.day y
    go false true y = roll-leaves t c.day y
    go false false y = close-leaves t c.day y

module _ (opening : List ℕ → ℕ → Outcome) (h : Kept) (c : Command) where
  -- after a bad line the table kept is the one before
  pub bad-kept : bad h.opened c.letter ≡ true → refused_kept h ≡ kept_after opening h c
  unfolding kept_after
  bad-kept b = rw b refl

  -- the answer to a bad line is the text of a bad line
  pub bad-text : bad h.opened c.letter ≡ true → bad_text ≡ answer_text opening h c
  unfolding answer_text
  bad-text b = rw b refl

  module _ (b : bad h.opened c.letter ≡ false) (o : Outcome) (e : o ≡ outcome_of opening h.table c) where
    -- after a refused command the table kept is the one before
    pub no-kept : (o.refusal ≡ 0 → ⊥) → refused_kept h ≡ kept_after opening h c
    unfolding kept_after
    no-kept n = rw (b, ← e, ne_eqb o.refusal 0 n) refl

    -- the answer to a refused command is the text of its refusal
    pub no_text : (o.refusal ≡ 0 → ⊥) → refusal_text o.refusal ≡ answer_text opening h c
    unfolding answer_text
    no_text n = rw (b, ← e, ne_eqb o.refusal 0 n) refl

    -- after an accepted command its table is kept
    pub yes-kept : o.refusal ≡ 0 → record { opened = true; table = o.table; refused = h.refused } ≡ kept_after opening h c
    unfolding kept_after
    yes-kept n = rw (b, ← e, eq-eqb o.refusal 0 n) refl

    -- the answer to an accepted command is the text of its outcome
    pub yes-text : o.refusal ≡ 0 → outcome_text c.letter o ≡ answer_text opening h c
    unfolding answer_text
    yes-text n = rw (b, ← e, eq-eqb o.refusal 0 n) refl
