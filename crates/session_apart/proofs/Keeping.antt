-- A roll whose front stays, and a close on which no listed maturity ends, on a table apart from its maps; a table put together and taken apart again;
-- the answer to a line.
-- Assumes nothing.
use mathlib.Core.Path.{◌≡◌, refl, sym, ap, ◌∙◌}
use mathlib.Core.Bool.{Bool, true, false, ◌&&◌, cond}
use mathlib.Core.List.{List}
use Prim.Native.Nat.{ℕ, ◌*◌, ◌-◌, ◌/◌, ◌%◌, ◌^◌, ◌<◌}
use native.Mathlib.Omega.{arith}
use lib.Dec.{leb, ltb, eqb}
use lib.Bits.{bit_or}
use lib.ListN.{length, get_or, set, take}
use Rattle.calendar.specs.Trading.{calendar_with, in_cover, slot_of, trading_day, every_week, close_day}
use Rattle.calendar.specs.declared.Cover.{Cover}
use Rattle.calendar.proofs.Closing.{close-cover, close-store}
use Rattle.calendar.proofs.SecondMap.{trading-second}
use Rattle.expiry.proofs.Fridays.{last-but}
use Rattle.listing.specs.Rules.{front, unused}
use Rattle.listing.specs.Months.{rule_of, places_of_kind}
use Rattle.listing.proofs.SecondMap.{front-second}
use Rattle.questions.specs.Questions.{Answer}
use Rattle.calendar.specs.declared.Calendar.{Calendar}
use Rattle.product.specs.Fields.{product_right}
use Rattle.session_text.specs.TermsText.{call_text, outcome_text, refusal_text}
use Rattle.session_lines.specs.declared.Command.{Command}
use Rattle.table.specs.declared.Table.{Table}
use Rattle.table.specs.declared.Outcome.{Outcome}
use Rattle.std.specs.Prelude.{Ok, Err}
use Rattle.table_opening.specs.declared.ListedFindings.{ListedFindings}
use Rattle.table_opening.specs.Opening.{Listed, refused_opening, listing_in, listed_result}
use Rattle.table_opening.proofs.Opened.{refused-listed, accepted-listed, result-err, result-ok}
use Rattle.table.specs.Table.{sound, calendar_sound, kept_in, roll_call, close_call, opened_with, open_in, trades_around, none_ends_on}
use Rattle.table.proofs.TableQuestions.{roll-16, close-16, sound-parts}
use Rattle.table.proofs.Opens.{in-refused, in-accepted}
use Rattle.table.proofs.Staying.{stays}
use Rattle.table.proofs.Around.{around-of, trades-second}
use Rattle.table.proofs.Unmoved.{unmoved, none_of}
use Rattle.session_command.specs.declared.Kept.{Kept}
use Rattle.session_command.specs.Sessions.{bad, outcome_of, answer_text, kept_after}
use Rattle.session_command.proofs.CommandAnswers.{rolls, closes, opens_by, no-kept, no_text, yes-kept, yes-text, leaves-sound}
use Rattle.session_apart.specs.declared.Rest.{Rest}
use Rattle.session_apart.specs.declared.Moved.{Moved}
use Rattle.session_apart.specs.Apart.{table_with, table_rest, kept_with, dated_rest, Moves}

module _ (rest : Rest) (closed : List ℕ) (len : length rest.maturities ≡ 15) where
  -- a roll to a covered day, not before the date, that leaves the first maturity in front changes only the date
  pub rolls-kept : (date : ℕ) → in_cover rest.cover date ≡ true → leb rest.date date ≡ true
      → eqb (get_or rest.maturities 0 unused).key
      (front (rule_of (calendar_with rest.cover closed) rest.product.kind rest.product.group) (calendar_with rest.cover closed) date) ≡ true
      → (exchange : List ℕ) → sound (table_with rest closed exchange) ≡ true
      → roll_call (table_with rest closed exchange) date ≡ kept_in (table_with rest closed exchange) (table_with rest closed exchange).calendar date
  rolls-kept date c d e exchange s =
      let t = table_with rest closed exchange in
      let r = rule_of t.calendar rest.product.kind rest.product.group in
      let f : eqb (get_or rest.maturities 0 unused).key (front r t.calendar date) ≡ true =
      ap (eqb (get_or rest.maturities 0 unused).key) (front-second (calendar_with rest.cover closed) exchange r date) ∙ e in
      roll-16 t date s c d ∙ stays t s len date f

  -- closing a covered trading day after the date, on which no maturity ends, with trading left around it, changes only the calendar
  pub closes_kept : (day : ℕ) → in_cover rest.cover day ≡ true → rest.date < day → ltb rest.date day ≡ true
      → trading_day (calendar_with rest.cover closed) day ≡ true
      → trades_around (calendar_with rest.cover closed) day ≡ true → none_ends_on rest.maturities day ≡ true
      → (exchange : List ℕ) → sound (table_with rest closed exchange) ≡ true
      → close_call (table_with rest closed exchange) day
      ≡ kept_in (table_with rest closed exchange) (close_day (table_with rest closed exchange).calendar day) rest.date
  closes_kept day c d l w a n exchange s =
      let t = table_with rest closed exchange in
      let x : trading_day t.calendar day ≡ true = trading-second (calendar_with rest.cover closed) exchange day ∙ w in
      let y : every_week (close_day t.calendar day) ≡ true =
      around-of t.calendar day (trades-second (calendar_with rest.cover closed) exchange day ∙ a) (sound-parts t s).weeks in
      close-16 t day s c l x y ∙ unmoved t s len day d (none_of rest.maturities day n) (close_day t.calendar day) (close-cover t.calendar day)
      (last-but t.calendar day)

-- a table that is kept as it was but for its date and its first map
moves-kept : (t : Table) (o : Outcome) (rest : Rest) (date : ℕ) (closed exchange : List ℕ)
    → o ≡ record { refusal = 0; table = table_with (dated_rest rest date).rest closed exchange; entered = 0; left = 0 }
    → Moves t o (dated_rest rest date) closed exchange
moves-kept t o rest date closed exchange e =
    record {
      refusal = sym (ap (λ (x : Outcome). x.refusal) e);
      accepted = λ z. sym e;
      refused = λ n. absurd (n (ap (λ (x : Outcome). x.refusal) e));
      counts = λ n. absurd (n (ap (λ (x : Outcome). x.refusal) e));
    }

module _ (opening : List ℕ → ℕ → Outcome) (rest : Rest) (closed exchange : List ℕ) (c : Command) where
  -- an R whose roll changes only the date gives the rest on the new date, the maps unchanged
  pub rolled : c.letter ≡ 82 → roll_call (table_with rest closed exchange) c.day
      ≡ kept_in (table_with rest closed exchange) (table_with rest closed exchange).calendar c.day
      → Moves (table_with rest closed exchange) (outcome_of opening (table_with rest closed exchange) c) (dated_rest rest c.day) closed exchange
  rolled l e =
      moves-kept (table_with rest closed exchange) (outcome_of opening (table_with rest closed exchange) c) rest c.day closed exchange
      (sym (rolls opening (table_with rest closed exchange) c (λ q. omega (arith, q, l)) l) ∙ e)

  -- a C whose closing changes only the calendar gives the rest as it is and the map with the day closed
  pub closed-aside : (map : List ℕ) → c.letter ≡ 67 → map ≡ (close_day (calendar_with rest.cover closed) c.day).closed
      → close_call (table_with rest closed exchange) c.day
      ≡ kept_in (table_with rest closed exchange) (close_day (table_with rest closed exchange).calendar c.day) rest.date
      → Moves (table_with rest closed exchange) (outcome_of opening (table_with rest closed exchange) c) (dated_rest rest rest.date) map exchange
  unfolding close_day
  closed-aside map l m e =
      moves-kept (table_with rest closed exchange) (outcome_of opening (table_with rest closed exchange) c) rest rest.date map exchange
      (sym (closes opening (table_with rest closed exchange) c (λ q. omega (arith, q, l)) (λ q. omega (arith, q, l))) ∙ e ∙ kept-is map m)
    where
      kept-is : (map : List ℕ) → map ≡ (close_day (calendar_with rest.cover closed) c.day).closed
          → kept_in (table_with rest closed exchange) (close_day (table_with rest closed exchange).calendar c.day) rest.date
          ≡ record { refusal = 0; table = table_with (dated_rest rest rest.date).rest map exchange; entered = 0; left = 0 }
      kept-is map m = rw m refl

-- ---- one day closed in a map

module _ (cover : Cover) (map : List ℕ) (day : ℕ) where
  -- the code's store of one bit in the map is the closing of the covered day
  pub map-store : (slot : ℕ) → slot ≡ slot_of cover day → in_cover cover day ≡ true
      → set map (slot / 8) (bit_or (get_or map (slot / 8) 0) (1 * 2 ^ (7 - slot % 8) % 256)) ≡ (close_day (calendar_with cover map) day).closed
  map-store slot q e = ap (λ (c : Calendar). c.closed) (close-store (calendar_with cover map) day slot q e)

-- ---- a table that is put together and taken apart again

module _ (t : Table) (o : Outcome) (closed exchange : List ℕ) where
  -- a refused command leaves the rest and the maps as they are, nothing entered or left
  pub whole-refused : (rest : Rest) (q : ℕ) → q ≡ o.refusal → (q ≡ 0 → ⊥) → t ≡ table_with rest closed exchange
      → Moves t o (record { refusal = q; rest = rest; entered = 0; left = 0 }) closed exchange
  whole-refused rest q e n i =
      record {
        refusal = e;
        accepted = λ z. absurd (n (e ∙ z));
        refused = λ x. sym i;
        counts = λ x. (refl, refl);
      }

-- an accepted command gives the rest and the maps of its outcome
pub whole-accepted : (t : Table) (o p : Outcome) → p ≡ o → p.refusal ≡ 0
    → Moves t o (record { refusal = 0; rest = table_rest p.table; entered = p.entered; left = p.left }) p.table.calendar.closed
    p.table.calendar.exchange
whole-accepted t o p e z =
    record {
      refusal = sym z ∙ ap (λ (x : Outcome). x.refusal) e;
      accepted = λ y. rw (sym z) (own p) ∙ e;
      refused = λ n. absurd (n (sym (ap (λ (x : Outcome). x.refusal) e) ∙ z));
      counts = λ n. absurd (n (sym (ap (λ (x : Outcome). x.refusal) e) ∙ z));
    }
  where
    own : (p : Outcome) → record {
      refusal = p.refusal;
      table =
          table_with (table_rest p.table) p.table.calendar.closed p.table.calendar.exchange;
      entered = p.entered;
      left = p.left;
    } ≡ p
    own p = refl

-- ---- an open without a whole table: what is listed, and the verdict's calendar

module _ (verdict : Answer Calendar) (f id : List ℕ) (date : ℕ) (l : Listed) (is : l ≡ listing_in verdict f id date) where
  -- an opening that the listing refuses has the listing's refusal
  pub open-refused : (l.refusal ≡ 0 → ⊥) → l.refusal ≡ (open_in verdict f id date).refusal
  open-refused n =
      ap (λ (x : Outcome). x.refusal)
      (in-refused verdict f id date (refused_opening l.refusal) (refused-listed verdict f id date l is n) n)

  -- an opening that the listing accepts has the product, the verdict's calendar and the fresh listing
  pub open-accepted : l.refusal ≡ 0
      → opened_with l.product verdict.value date (take (places_of_kind l.product.kind) l.fresh) ≡ open_in verdict f id date
  open-accepted z =
      in-accepted verdict f id date
      (record { refusal = 0; product = l.product; calendar = verdict.value; fresh = l.fresh })
      (accepted-listed verdict f id date l is z)
      refl

-- the same of a result
module _ (verdict : Answer Calendar) (f id : List ℕ) (date : ℕ) where
  -- an opening that the listing refuses has its number, which is not 0
  pub result-refused : (n : ℕ) → listed_result (listing_in verdict f id date) ≡ Err n → (n ≡ (open_in verdict f id date).refusal) × (n ≡ 0 → ⊥)
  result-refused n e =
      let (q, h) = result-err (listing_in verdict f id date).refusal n _ e in
      (sym q ∙ open-refused verdict f id date (listing_in verdict f id date) refl (λ z. h (sym q ∙ z)), h)

  -- an opening that the listing accepts has the product, the verdict's calendar and the fresh listing
  pub result-accepted : (r : ListedFindings) → listed_result (listing_in verdict f id date) ≡ Ok r
      → opened_with r.product verdict.value date (take (places_of_kind r.product.kind) r.fresh) ≡ open_in verdict f id date
  result-accepted r e =
      let (z, q) = result-ok (listing_in verdict f id date).refusal _ r e in
      ap (λ (x : ListedFindings). opened_with x.product verdict.value date (take (places_of_kind x.product.kind) x.fresh)) (sym q)
      ∙ open-accepted verdict f id date (listing_in verdict f id date) refl z

-- an open, whatever the table was
pub opened-apart : (opening : List ℕ → ℕ → Outcome) (t : Table) (c : Command) (m : Moved) (closed exchange : List ℕ) → c.letter ≡ 79
    → Moves t (opening c.id c.day) m closed exchange → Moves t (outcome_of opening t c) m closed exchange
opened-apart opening t c m closed exchange e v = rw (opens_by opening t c e) at v

-- ---- the answer to a line

module _ (verdict : Answer Calendar) (f : List ℕ) (opened refused : Bool) (rest : Rest) (first second : List ℕ) (c : Command) (m : Moved)
    (closed exchange : List ℕ) where
  abbrev opening : List ℕ → ℕ → Outcome
  opening = open_in verdict f

  abbrev before : Table
  before = table_with rest first second

  abbrev h : Kept
  h = record { opened = opened; table = before; refused = refused }

  module _ (b : bad opened c.letter ≡ false) (v : Moves before (outcome_of opening before c) m closed exchange) where
    -- after a refused command what is kept is as before
    pub no-kept-apart : (m.refusal ≡ 0 → ⊥) → kept_with opened m.rest closed exchange true ≡ kept_after opening h c
    no-kept-apart n =
        ap (λ (t : Table). record { opened = opened; table = t; refused = true }) (v.refused (λ z. n (v.refusal ∙ z)))
        ∙ no-kept opening h c b (outcome_of opening before c) refl (λ z. n (v.refusal ∙ z))

    -- the answer to a refused command is the text of the refusal that comes with the rest
    pub no-text-apart : (m.refusal ≡ 0 → ⊥) → refusal_text m.refusal ≡ answer_text opening h c
    no-text-apart n = ap refusal_text v.refusal ∙ no_text opening h c b (outcome_of opening before c) refl (λ z. n (v.refusal ∙ z))

    -- the rest and the maps after a refused command are the table before
    pub no-table-apart : (m.refusal ≡ 0 → ⊥) → table_with m.rest closed exchange ≡ before
    no-table-apart n = v.refused (λ z. n (v.refusal ∙ z))

    is-out : m.refusal ≡ 0 → record { refusal = 0; table = table_with m.rest closed exchange; entered = m.entered; left = m.left }
        ≡ outcome_of opening before c
    is-out z = v.accepted (sym v.refusal ∙ z)

    -- after an accepted command its rest and maps are kept, as opened
    pub yes-kept-apart : m.refusal ≡ 0 → kept_with true m.rest closed exchange refused ≡ kept_after opening h c
    yes-kept-apart z = yes-kept opening h c b (record { refusal = 0; table = table_with m.rest closed exchange; entered = m.entered; left = m.left })
        (is-out z) refl

    -- the maps take no part in what is printed
    pub yes-text-apart : m.refusal ≡ 0
        → call_text c.letter m.rest.product.kind m.rest.date m.entered m.left m.rest.given m.rest.maturities ≡ answer_text opening h c
    unfolding outcome_text
    yes-text-apart z =
        yes-text opening h c b (record { refusal = 0; table = table_with m.rest closed exchange; entered = m.entered; left = m.left }) (is-out z) refl

    -- the table after an accepted command is sound, after an O exactly if its calendar is sound and its product right
    pub yes-sound-apart : m.refusal ≡ 0 → sound (table_with m.rest closed exchange)
        ≡ cond (eqb c.letter 79) (calendar_sound verdict.value && product_right m.rest.product) true
    yes-sound-apart z = leaves-sound verdict f before c
        (record { refusal = 0; table = table_with m.rest closed exchange; entered = m.entered; left = m.left }) (is-out z) refl
