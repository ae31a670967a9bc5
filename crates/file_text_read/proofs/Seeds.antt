-- A list whose first line says a seed: the calendar stays that of the seed, its file passes 3 to 6 where the cover is right, and gets 4 where it is not.
-- Assumes nothing.
use mathlib.Core.Path.{◌≡◌, refl, sym, ap, ◌∙◌}
use mathlib.Core.Bool.{Bool, true, false, ◌||◌, cond, or-true}
use mathlib.Core.List.{List, [], ◌∷◌}
use mathlib.Core.Logic.{inl, inr}
use Prim.Native.Nat.{ℕ, ◌-◌, ◌≤◌}
use native.Mathlib.Omega.{arith}
use lib.Dec.{eqb}
use lib.ListN.{length}
use borrow.Author.Tests.{le-leb, eq-eqb, ne_eqb, eqb-true}
use Rattle.questions.specs.Questions.{Answer}
use Rattle.questions.proofs.Asks.{first-no, refused}
use Rattle.questions.proofs.Bools.{and_both, clash}
use Rattle.calendar.specs.declared.Cover.{Cover}
use Rattle.calendar.specs.declared.Calendar.{Calendar}
use Rattle.calendar.specs.Trading.{valid_cover, open_calendar, zero_calendar}
use Rattle.calendar.proofs.Covered.{Years, years}
use Rattle.calendar_synthetic.specs.Generated.{made_asks, made_from, made_call, Passes}
use Rattle.calendar_synthetic.proofs.CleanCalendars.{passes}
use Rattle.file_calendar.specs.Calendars.{order_right}
use Rattle.file_draft.specs.Drafts.{file_of, write_asks, years_right, counts_right}
use Rattle.file_draft.proofs.Headers.{headers-written}
use Rattle.file_draft.proofs.Cover.{years-none, years-most}
use Rattle.file_draft.proofs.DraftCalendars.{order-written, clean-written, weeks-written}
use Rattle.file_draft.proofs.DraftQuestions.{no-4}
use Rattle.file_write.specs.Writing.{write_call}
use Rattle.file_write.proofs.Holding.{within-clean, within-weeks}
use Rattle.file_text_lines.specs.declared.Entry.{Entry}
use Rattle.file_text_faults.specs.declared.Faults.{Faults}
use Rattle.file_text_faults.specs.Faults.{no_fault, faults_after, fault_kept, Numbered}
use Rattle.file_text_read.specs.declared.Composed.{Composed}
use Rattle.file_text_read.specs.Lists.{Content, no_content, entry_fits, calendar_after_entry, records_after, next_line, line_counted, entry_taken, line_taken}
use Rattle.file_text_read.specs.Lists.{lines_taken, numbered_lines, content_of, idle_day, composed, CalendarPasses, say_seed, OfSeed}

-- after a seed only a product fits
product-only : (cover : Cover) (e : Entry) → entry_fits true cover true e ≡ true → e.letter ≡ 80
unfolding entry_fits
product-only cover e = go (eqb e.letter 0) (eqb e.letter 89 || eqb e.letter 83) (eqb e.letter 80) refl
  where
    go : (a b d : Bool) → eqb e.letter 80 ≡ d → cond a false (cond b false (d || false)) ≡ true → e.letter ≡ 80
    go true b d q h = clash h refl
    go false true d q h = clash h refl
    go false false true q h = eqb-true e.letter 80 q
    go false false false q h = clash h refl

-- which leaves the calendar as it is
product-kept : (cal : Calendar) (e : Entry) → e.letter ≡ 80 → calendar_after_entry cal e ≡ cal
unfolding calendar_after_entry
product-kept cal e p = rw p refl

-- what is said after a seed, and after each line that follows
record Seeded (cal : Calendar) (c : Content) : Type 0 where
  calendar : c.calendar ≡ cal
  seeded : c.seeded ≡ true
  begun : c.begun ≡ true

module _ (room : ℕ) (cal : Calendar) where
  seeded-entry : (c : Content) (e : Entry) → Seeded cal c → Seeded cal (entry_taken room c e)
  unfolding entry_taken
  seeded-entry c e s = go (entry_fits c.begun c.calendar.cover c.seeded e) refl
    where
      go : (b : Bool) → entry_fits c.begun c.calendar.cover c.seeded e ≡ b
          → Seeded cal
          (cond b
          (record {
            begun = true;
            calendar = calendar_after_entry c.calendar e;
            seeded = c.seeded || eqb e.letter 83;
            records = records_after room c.records e;
            faults = faults_after c.faults (next_line c.lines) e;
            lines = next_line c.lines;
            bad = 0;
          })
          (line_counted c (next_line c.lines)))
      go false q = record { calendar = s.calendar; seeded = s.seeded; begun = s.begun }
      go true q =
          record {
            calendar = product-kept c.calendar e (product-only c.calendar.cover e (rw (s.begun, s.seeded) at q)) ∙ s.calendar;
            seeded = rw s.seeded refl;
            begun = refl;
          }

  seeded-line : (c : Content) (e : Entry) → Seeded cal c → Seeded cal (line_taken room c e)
  unfolding line_taken
  seeded-line c e s = go (eqb c.bad 0) (eqb e.letter 35) (seeded-entry c e s)
    where
      go : (a b : Bool) → Seeded cal (entry_taken room c e) → Seeded cal (cond a (cond b (line_counted c 0) (entry_taken room c e)) c)
      go false b h = s
      go true true h = record { calendar = s.calendar; seeded = s.seeded; begun = s.begun }
      go true false h = h

  seeded-lines : (c : Content) (ls : List Numbered) → Seeded cal c → Seeded cal (lines_taken room c ls)
  unfolding lines_taken
  seeded-lines c [] s = s
  seeded-lines c (l ∷ ls) s = seeded-lines (line_taken room c l.entry) ls (seeded-line c l.entry s)

-- nothing is said yet
record Quiet (c : Content) : Type 0 where
  begun : c.begun ≡ false
  seeded : c.seeded ≡ false
  good : c.bad ≡ 0

-- a line that says nothing
quiet_line : (room : ℕ) (c : Content) (e : Entry) → Quiet c → e.letter ≡ 35 → Quiet (line_taken room c e)
unfolding line_taken
quiet_line room c e h p = rw (h.good, p) (record { begun = h.begun; seeded = h.seeded; good = refl })

-- the first line that says something says a seed
module _ (room : ℕ) (e : Entry) (p : e.letter ≡ 83) where
  seed-entry : (c : Content) → c.begun ≡ false → Seeded (made_call e.seed e.cover).value (entry_taken room c e)
  unfolding entry_taken entry_fits calendar_after_entry
  seed-entry c h = rw (p, h) (record { calendar = refl; seeded = or-true c.seeded; begun = refl })

  seed-first : (c : Content) → Quiet c → Seeded (made_call e.seed e.cover).value (line_taken room c e)
  unfolding line_taken
  seed-first c h = rw (eq-eqb c.bad 0 h.good, ne_eqb e.letter 35 (λ z. omega (arith, p))) (seed-entry c h.begun)

-- the lines before it say nothing
seed-lines : (room : ℕ) (c : Content) (ls : List Numbered) (first : Entry) → Quiet c → say_seed ls first
    → Seeded (made_call first.seed first.cover).value (lines_taken room c ls)
unfolding lines_taken say_seed
seed-lines room c [] first h s = absurd s
seed-lines room c (l ∷ ls) first h (inl s) = seed-lines room (line_taken room c l.entry) ls first (quiet_line room c l.entry h s.0) s.1
seed-lines room c (l ∷ ls) first h (inr s) =
    rw s.0 (seeded-lines room (made_call first.seed first.cover).value (line_taken room c first) ls (seed-first room first s.1 c h))

-- a calendar of zeros has no year that could be wrong, and no calendar block
no-year : years_right zero_calendar.cover ≡ true
unfolding zero_calendar open_calendar
no-year = years-none zero_calendar.cover refl

no_block : (records : List ℕ) → counts_right zero_calendar.cover records ≡ false
unfolding zero_calendar open_calendar
no_block records = refl

-- a cover that is not right
module _ (seed : ℕ) (cover : Cover) (wrong : valid_cover cover ≡ false) where
  zeros : (made_call seed cover).value ≡ zero_calendar
  unfolding made_call
  zeros = ap (λ (a : Answer Calendar). a.value) (refused (made_asks cover) zero_calendar (made_from seed cover) 3 (first-no 4 [] wrong))

  gets-4 : (records : List ℕ) (space : ℕ) → write_call (made_call seed cover).value records space ≡ record { refusal = 4; value = 0 }
  unfolding write_call
  gets-4 records space = rw zeros (refused (write_asks zero_calendar records space) 0 (length (file_of zero_calendar records)) 3
      (sym (no-4 zero_calendar records space no-year (no_block records))))

-- a cover that is right
module _ (seed : ℕ) (cover : Cover) (right : valid_cover cover ≡ true) (records : List ℕ) (some : 1 ≤ length records) where
  abbrev cal : Calendar
  cal = (made_call seed cover).value

  good : Passes seed cover
  good = passes seed cover right

  span : Years cover
  span = years cover right

  few : cal.cover.years ≤ 16
  few = rw good.cover-kept span.most

  ordered : order_right (file_of cal records) ≡ true
  ordered =
      order-written cal records
      ∙ rw good.cover-kept
      (and_both (le-leb 1 cover.years span.some) (and_both (le-leb cover.years 16 span.most) (le-leb 1 (length records) some)))

  calendar-passes : CalendarPasses (file_of cal records)
  calendar-passes =
      record {
        yes3 =
            headers-written cal records
            ∙ rw good.cover-kept
            (years-most cover span.some span.low (omega (arith, span.some, span.high))
            ∙ le-leb cover.years (2100 - cover.first_year) (omega (arith, span.high)));
        yes4 = ordered;
        yes5 = clean-written cal records ordered ∙ within-clean cal few good.closures;
        yes6 = weeks-written cal records ordered ∙ within-weeks cal few ∙ good.weeks;
      }

-- with 4 no place is said
no_place : (s : Faults) (of : Calendar) → ◌≡◌ {A = Composed} (record { bad = 0; refusal = 4; fault = fault_kept s 4; day = idle_day 4 of; length = 0 })
    (record { bad = 0; refusal = 4; fault = no_fault; day = 0; length = 0 })
unfolding fault_kept idle_day
no_place s of = refl

quiet : Quiet no_content
unfolding no_content
quiet = record { begun = refl; seeded = refl; good = refl }

-- a list whose first line that says something is an S has the calendar of its seed and cover
pub of-seed : (room : ℕ) (input : List ℕ) (first : Entry) → say_seed (numbered_lines input) first → OfSeed room input first
unfolding content_of composed
of-seed room input first q =
    record {
      calendar = s.calendar;
      right-cover = λ right some. rw s.calendar (calendar-passes first.seed first.cover right (content_of room input).records some);
      wrong-cover = λ wrong good space. rw (good, s.calendar, gets-4 first.seed first.cover wrong (content_of room input).records space)
          (no_place (content_of room input).faults (made_call first.seed first.cover).value);
    }
  where
    s : Seeded (made_call first.seed first.cover).value (content_of room input)
    s = seed-lines room no_content (numbered_lines input) first quiet q
