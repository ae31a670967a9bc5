-- Every call on the table gives the book's answer and leaves what the book then holds.
-- Assumes nothing.
use mathlib.Core.Path.{◌≡◌, refl, ap, ◌∙◌}
use mathlib.Core.Bool.{Bool, true, false, cond}
use mathlib.Core.List.{List, [], ◌∷◌}
use Prim.Native.Nat.{ℕ}
use lib.Dec.{eqb}
use Rattle.questions.specs.Questions.{Ask, first_no}
use Rattle.questions.proofs.Asks.{first-yes}
use Rattle.calendar.specs.declared.Calendar.{Calendar}
use Rattle.calendar.specs.Trading.{close_day, reopen_day}
use Rattle.product.specs.declared.Product.{Product}
use Rattle.table.specs.declared.Table.{Table}
use Rattle.table.specs.declared.Outcome.{Outcome}
use Rattle.table.specs.Table.{listed_in, sound, moved, refused_with, answered, roll_call, close_call, reopen_call, opened_table}
use Rattle.table_measures.specs.declared.Measured.{Measured}
use Rattle.table_measures.specs.Measures.{measured_by, unmeasured, measure_asks, measure_call}
use Rattle.history.specs.declared.Called.{Called}
use Rattle.history.specs.Book.{Call, roll, close, reopen, measure, Reply, Book, calendar_after, date_after, book_opened, book_asks, book_moved, book_resized}
use Rattle.history.specs.Book.{book_counts, book_accepted, accepted_reply, book_after, book_reply, book_run, book_replies}
use Rattle.history.specs.History.{unpriced, uncounted, table_call, table_run, reply_of, table_replies, calendar_of_calls, date_of_calls}
use Rattle.history.proofs.Soundness.{table_of, holds, is-sound}
use Rattle.history.proofs.BookMoments.{product_in, Inv, turn-later}

-- what an accepted call gives back
abbrev pub accepted_call : Table → Call → Called
accepted_call t (roll date) = unpriced (moved t t.calendar date)
accepted_call t (close day) = unpriced (moved t (close_day t.calendar day) t.date)
accepted_call t (reopen day) = unpriced (moved t (reopen_day t.calendar day) t.date)
accepted_call t (measure u v price) = uncounted (measured_by t u v price)

-- and a refused one
abbrev pub refused_call : Table → ℕ → Called
refused_call t number = record { refusal = number; table = t; entered = 0; left = 0; price = 0 }

-- by whether it is accepted
abbrev pub either_call : Bool → Table → Call → ℕ → Called
either_call accepted t c number = cond accepted (accepted_call t c) (refused_call t number)

answered-either : (t : Table) (asks : List Ask) (o : Outcome)
    → unpriced (answered t asks o) ≡ cond (eqb (first_no asks) 0) (unpriced o) (refused_call t (first_no asks))
unfolding answered
answered-either t asks o = go (eqb (first_no asks) 0)
  where
    go : (b : Bool) → unpriced (cond b o (refused_with t (first_no asks))) ≡ cond b (unpriced o) (refused_call t (first_no asks))
    go true = refl
    go false = refl

measured-either : (b : Bool) (t : Table) (m : Measured) (number : ℕ) → uncounted (cond b m (unmeasured t number)) ≡ cond b (uncounted m) (refused_call t number)
measured-either true t m number = refl
measured-either false t m number = refl

-- a sound table's call: the questions are those of a book with its calendar, date and size
module _ (t : Table) (b : Book) (same-calendar : b.calendar ≡ t.calendar) (same-date : b.date ≡ t.date) (same_size : b.size ≡ t.product.size)
    (s : sound t ≡ true) where
  abbrev asks : Call → List Ask
  asks c = book_asks t.product.kind t.product.group b c

  rolled : (date : ℕ) → roll_call t date ≡ answered t (asks (roll date)) (moved t t.calendar date)
  unfolding roll_call answered
  rolled date = rw (same-calendar, same-date, first-yes 10 _ s)

  closed : (day : ℕ) → close_call t day ≡ answered t (asks (close day)) (moved t (close_day t.calendar day) t.date)
  unfolding close_call answered
  closed day = rw (same-calendar, same-date, first-yes 10 _ s)

  reopened : (day : ℕ) → reopen_call t day ≡ answered t (asks (reopen day)) (moved t (reopen_day t.calendar day) t.date)
  unfolding reopen_call answered
  reopened day = rw (same-calendar, same-date, first-yes 10 _ s)

  measured : (u v price : ℕ) → measure_call t u v price
      ≡ cond (eqb (first_no (asks (measure u v price))) 0) (measured_by t u v price) (unmeasured t (first_no (asks (measure u v price))))
  unfolding measure_call measure_asks
  measured u v price = rw (same_size, first-yes 10 _ s)

  -- each call on a sound table is accepted or refused by the questions of a book with its calendar, date and size
  pub table-answer : (c : Call) → table_call t c ≡ either_call (eqb (first_no (asks c)) 0) t c (first_no (asks c))
  table-answer (roll date) = ap unpriced (rolled date) ∙ answered-either t (asks (roll date)) (moved t t.calendar date)
  table-answer (close day) = ap unpriced (closed day) ∙ answered-either t (asks (close day)) (moved t (close_day t.calendar day) t.date)
  table-answer (reopen day) = ap unpriced (reopened day) ∙ answered-either t (asks (reopen day)) (moved t (reopen_day t.calendar day) t.date)
  table-answer (measure u v price) =
      ap uncounted (measured u v price)
      ∙ measured-either (eqb (first_no (asks (measure u v price))) 0) t (measured_by t u v price) (first_no (asks (measure u v price)))

-- the table that holds what a book holds
abbrev pub table_in : Product → Book → Table
table_in p b = table_of (product_in p b) b.calendar b.date b.maturities b.given

-- a reply with a table
abbrev called : Reply → Table → Called
called r t = record { refusal = r.refusal; table = t; entered = r.entered; left = r.left; price = r.price }

module _ (p : Product) where
  -- the first question that the book answers no, or 0, and what an accepted call leaves and counts
  abbrev refusal : Book → Call → ℕ
  refusal b c = first_no (book_asks p.kind p.group b c)

  abbrev reply : Bool → Book → Call → Reply
  reply accepted b c = cond accepted (accepted_reply p.kind p.group b c) (record { refusal = refusal b c; entered = 0; left = 0; price = 0 })

  -- the table holds the book's maturities
  pub table-lists : (b : Book) (nu : ℕ → ℕ) → Inv p b nu → listed_in (table_in p b) ≡ b.maturities
  table-lists b nu I = holds (product_in p b) b.calendar b.date b.maturities b.given nu I.opened I.numbered

  -- the table of a book is sound at every moment of its history
  pub sound-in : (b : Book) (nu : ℕ → ℕ) → Inv p b nu → sound (table_in p b) ≡ true
  sound-in b nu I = is-sound (product_in p b) b.calendar b.date b.maturities b.given nu I.opened I.numbered

  -- an accepted call
  moved_in : (b : Book) (nu : ℕ → ℕ) → Inv p b nu → (cal : Calendar) (date : ℕ)
      → unpriced (moved (table_in p b) cal date) ≡ called (book_counts p.kind p.group b cal date) (table_in p (book_moved p.kind p.group b cal date))
  unfolding moved book_counts book_moved
  moved_in b nu I cal date = rw (table-lists b nu I)

  accepted-in : (b : Book) (nu : ℕ → ℕ) → Inv p b nu → (c : Call)
      → accepted_call (table_in p b) c ≡ called (accepted_reply p.kind p.group b c) (table_in p (book_accepted p.kind p.group b c))
  unfolding book_resized
  accepted-in b nu I (roll date) = moved_in b nu I b.calendar date
  accepted-in b nu I (close day) = moved_in b nu I (close_day b.calendar day) b.date
  accepted-in b nu I (reopen day) = moved_in b nu I (reopen_day b.calendar day) b.date
  accepted-in b nu I (measure u v price) = refl

  -- any call
  pub turn : (b : Book) (nu : ℕ → ℕ) → Inv p b nu → (c : Call)
      → table_call (table_in p b) c ≡ called (book_reply p.kind p.group b c) (table_in p (book_after p.kind p.group b c))
  unfolding book_after book_reply
  turn b nu I c = table-answer (table_in p b) b refl refl refl (sound-in b nu I) c ∙ go (eqb (refusal b c) 0)
    where
      go : (t : Bool) → either_call t (table_in p b) c (refusal b c) ≡ called (reply t b c) (table_in p (cond t (book_accepted p.kind p.group b c) b))
      go true = accepted-in b nu I c
      go false = refl

  -- a list of calls
  pub table-run : (cs : List Call) (b : Book) (nu : ℕ → ℕ) → Inv p b nu → table_run (table_in p b) cs ≡ table_in p (book_run p.kind p.group b cs)
  unfolding table_run book_run
  table-run [] b nu I = refl
  table-run (c ∷ cs) b nu I =
      let s = turn-later p b nu I c in
      ap (λ (o : Called). table_run o.table cs) (turn b nu I c) ∙ table-run cs (book_after p.kind p.group b c) s.nu' s.inv

  -- a list of calls on the table gives the replies of the book
  pub reply-run : (cs : List Call) (b : Book) (nu : ℕ → ℕ) → Inv p b nu → table_replies (table_in p b) cs ≡ book_replies p.kind p.group b cs
  unfolding table_replies book_replies
  reply-run [] b nu I = refl
  reply-run (c ∷ cs) b nu I =
      let s = turn-later p b nu I c in
      ap (λ (o : Called). reply_of o ∷ table_replies o.table cs) (turn b nu I c)
      ∙ ap (◌∷◌ (book_reply p.kind p.group b c)) (reply-run cs (book_after p.kind p.group b c) s.nu' s.inv)

  -- a call that the book answers with 0 sets the calendar and the date, any other leaves them
  abbrev Settled : Book → Call → Reply → Book → Type 0
  Settled b c r b' =
      (b'.calendar ≡ cond (eqb r.refusal 0) (calendar_after b.calendar c) b.calendar)
      × (b'.date ≡ cond (eqb r.refusal 0) (date_after b.date c) b.date)

  accepted-settles : (b : Book) (c : Call)
      → ((book_accepted p.kind p.group b c).calendar ≡ calendar_after b.calendar c)
      × ((book_accepted p.kind p.group b c).date ≡ date_after b.date c) × ((accepted_reply p.kind p.group b c).refusal ≡ 0)
  unfolding book_moved book_resized book_counts
  accepted-settles b (roll date) = (refl, refl, refl)
  accepted-settles b (close day) = (refl, refl, refl)
  accepted-settles b (reopen day) = (refl, refl, refl)
  accepted-settles b (measure u v price) = (refl, refl, refl)

  settles : (b : Book) (c : Call) → Settled b c (book_reply p.kind p.group b c) (book_after p.kind p.group b c)
  unfolding book_after book_reply
  settles b c = go (eqb (refusal b c) 0) refl
    where
      go : (t : Bool) → eqb (refusal b c) 0 ≡ t → Settled b c (reply t b c) (cond t (book_accepted p.kind p.group b c) b)
      go true e = let s = accepted-settles b c in (rw s.2 s.0, rw s.2 s.1)
      go false e = (rw e, rw e)

  -- the book's calendar after a list of calls is the first one with the accepted closures and reopenings
  pub calendar-run : (cs : List Call) (b : Book)
      → (book_run p.kind p.group b cs).calendar ≡ calendar_of_calls b.calendar cs (book_replies p.kind p.group b cs)
  unfolding book_run book_replies calendar_of_calls
  calendar-run [] b = refl
  calendar-run (c ∷ cs) b =
      calendar-run cs (book_after p.kind p.group b c)
      ∙ ap (λ (x : Calendar). calendar_of_calls x cs (book_replies p.kind p.group (book_after p.kind p.group b c) cs)) (settles b c).0

  -- the book's date after a list of calls is that of the last accepted roll, or the first one
  pub date-run : (cs : List Call) (b : Book) → (book_run p.kind p.group b cs).date ≡ date_of_calls b.date cs (book_replies p.kind p.group b cs)
  unfolding book_run book_replies date_of_calls
  date-run [] b = refl
  date-run (c ∷ cs) b =
      date-run cs (book_after p.kind p.group b c)
      ∙ ap (λ (x : ℕ). date_of_calls x cs (book_replies p.kind p.group (book_after p.kind p.group b c) cs)) (settles b c).1

  -- the opened table holds what the opened book holds
  pub opened_in : (cal : Calendar) (date : ℕ) → opened_table p cal date ≡ table_in p (book_opened p.kind p.group p.size cal date)
  unfolding opened_table book_opened
  opened_in cal date = refl
