-- What the answers of load and of the search by id say of a file.
-- Assumes nothing.
use mathlib.Core.Path.{◌≡◌, refl, ◌∙◌, sym, ap}
use mathlib.Core.Bool.{Bool, true, false, ◌&&◌}
use mathlib.Core.Logic.{◌⊎◌, inl, inr}
use mathlib.Core.List.{List, [], ◌∷◌}
use Prim.Native.Nat.{ℕ, zero, suc, ◌/◌, ◌%◌, ◌≤◌, ◌<◌}
use native.Mathlib.Omega.{arith}
use lib.Dec.{eqb, leb, ltb}
use lib.ListN.{length, drop}
use borrow.Author.Tests.{leb-true, lt-ltb, le-ltb}
use Rattle.questions.specs.Questions.{Ask, ask, first_no, Answer, answer}
use Rattle.questions.proofs.Asks.{no-asks, first-yes, first-no, none-no, accepted, refused}
use Rattle.questions.proofs.Bools.{and-snd, is_false, lt-or-ge}
use Rattle.questions.specs.Search.{every}
use Rattle.file_blocks.specs.Blocks.{block_count, block_of, zeros, length_right, checks_right, headers_right}
use Rattle.calendar.specs.Trading.{zero_calendar}
use Rattle.calendar.specs.declared.Calendar.{Calendar}
use Rattle.file_calendar.specs.Calendars.{year_count, order_right, calendars_clean, calendar_of, calendar_answer, order_call, weeks_right}
use Rattle.file_calendar.specs.declared.FileCalendar.{FileCalendar}
use Rattle.file_calendar.proofs.CalendarBlocks.{ordered, calendar-is}
use Rattle.file_records.specs.Records.{products_right}
use Rattle.file_ids.specs.Ids.{place_count, record_count, ids_rise}
use Rattle.file_load.specs.Load.{load_asks, judge_call, load_call, place_from, found, place_of, found_at, find_call, find_answer}
use Rattle.file_load.specs.Halves.{find_from}
use Rattle.file_load.specs.declared.Counts.{Counts}

-- each of the questions 1 to 8 is answered yes
pub record AllYes (f : List ℕ) : Type 0 where
  -- question 1 is answered yes: the length is right
  pub yes1 : length_right f ≡ true
  -- question 2 is answered yes: the checks are right
  pub yes2 : checks_right f ≡ true
  -- question 3 is answered yes: the headers are right
  pub yes3 : headers_right f ≡ true
  -- question 4 is answered yes: the blocks are in order
  pub yes4 : order_right f ≡ true
  -- question 5 is answered yes: the calendar blocks are clean
  pub yes5 : calendars_clean f ≡ true
  -- question 6 is answered yes: every run of seven days in the cover holds a trading day
  pub yes6 : weeks_right f ≡ true
  -- question 7 is answered yes: the records are as stated
  pub yes7 : products_right f ≡ true
  -- question 8 is answered yes: the ids rise
  pub yes8 : ids_rise f ≡ true

-- a file that load does not refuse has questions 1 to 8 answered yes
pub all_yes : (f : List ℕ) → first_no (load_asks f) ≡ 0 → AllYes f
unfolding load_asks
all_yes f e =
    let (a1, e1) = none-no 0 (length_right f) _ e in
    let (a2, e2) = none-no 1 (checks_right f) _ e1 in
    let (a3, e3) = none-no 2 (headers_right f) _ e2 in
    let (a4, e4) = none-no 3 (order_right f) _ e3 in
    let (a5, e5) = none-no 4 (calendars_clean f) _ e4 in
    let (a6, e6) = none-no 5 (weeks_right f) _ e5 in
    let (a7, e7) = none-no 6 (products_right f) _ e6 in
    let (a8, e8) = none-no 7 (ids_rise f) _ e7 in
    record { yes1 = a1; yes2 = a2; yes3 = a3; yes4 = a4; yes5 = a5; yes6 = a6; yes7 = a7; yes8 = a8 }

-- a file whose length is right has at most 65,536 bytes
pub length_most : (f : List ℕ) → length_right f ≡ true → length f ≤ 65536
unfolding length_right
length_most f e = leb-true (length f) 65536 (and-snd (eqb (length f % 512) 0 && leb 1024 (length f)) (leb (length f) 65536) e)

-- the zero bytes after the maps, of as many blocks as there are years
pub tails-are : (f : List ℕ) (r : Bool) (n : ℕ) → r ≡ every n (λ k. zeros (block_of f k) 108 402) → n ≡ year_count f
    → r ≡ every (year_count f) (λ k. zeros (block_of f k) 108 402)
tails-are f r n e y = e ∙ ap (λ (m : ℕ). every m (λ k. zeros (block_of f k) 108 402)) y

-- what question 4 says of the calendar given with its answer
module _ (f : List ℕ) (r : Answer Calendar) (e : r ≡ order_call f) where
  order-refusal : r.refusal ≡ first_no (ask 4 (order_right f) ∷ [])
  unfolding order_call answer
  order-refusal = ap (λ (a : Answer Calendar). a.refusal) e

  -- an answer to question 4 without a refusal says that the blocks are in order
  pub order-yes : r.refusal ≡ 0 → order_right f ≡ true
  order-yes z = (none-no 3 (order_right f) [] (sym order-refusal ∙ z)).0

  -- an answer to question 4 with a refusal says that the blocks are not in order
  pub order-no : (r.refusal ≡ 0 → ⊥) → order_right f ≡ false
  order-no h = is_false _ (λ t. h (order-refusal ∙ first-yes 4 [] t ∙ no-asks))

  -- an answer to question 4 without a refusal has the file's calendar
  pub order-calendar : r.refusal ≡ 0 → r.value ≡ calendar_of f
  unfolding order_call
  order-calendar z =
      ap (λ (a : Answer Calendar). a.value)
      (e ∙ accepted (ask 4 (order_right f) ∷ []) zero_calendar (calendar_of f) (sym order-refusal ∙ z))

-- where the first of the questions left is answered no, the file is answered with its number and no calendar
pub judge-refused : (f : List ℕ) (n : ℕ) {b : Bool} (rest : List Ask) → first_no (load_asks f) ≡ first_no (ask (suc n) b ∷ rest) → b ≡ false
    → judge_call f ≡ record { refusal = suc n; value = zero_calendar }
unfolding judge_call
judge-refused f n rest e h = refused (load_asks f) zero_calendar (calendar_of f) n (e ∙ first-no (suc n) rest h)

-- a refusal by question 4, where the three before it are answered yes, is the file's
pub order-stops : (f : List ℕ) (r : Answer Calendar) → r ≡ order_call f → (r.refusal ≡ 0 → ⊥) → first_no (load_asks f) ≡ first_no (drop 3 (load_asks f)) → r ≡ judge_call f
unfolding order_call load_asks
order-stops f r e h p =
    let no = order-no f r e h in
    e ∙ refused (ask 4 (order_right f) ∷ []) zero_calendar (calendar_of f) 3 (first-no 4 [] no) ∙ sym (judge-refused f 3 _ p no)

-- a file that load accepts is answered with refusal 0 and the file's calendar
pub judge-accepted : (f : List ℕ) → first_no (load_asks f) ≡ 0 → judge_call f ≡ record { refusal = 0; value = calendar_of f }
unfolding judge_call
judge-accepted f e = accepted (load_asks f) zero_calendar (calendar_of f) e

-- the refusal of a file that is judged, and its calendar where there is none
module _ (f : List ℕ) (r : FileCalendar) (e : calendar_answer r ≡ judge_call f) where
  -- the refusal of the answer with the calendar is the first question of load that is answered no
  pub judged-refusal : r.refusal ≡ first_no (load_asks f)
  unfolding judge_call answer
  judged-refusal = ap (λ (a : Answer Calendar). a.refusal) e

  -- an answer without a refusal has the file's calendar
  pub judged-calendar : r.refusal ≡ 0 → r.calendar ≡ calendar_of f
  judged-calendar z = ap (λ (a : Answer Calendar). a.value) (e ∙ judge-accepted f (sym judged-refusal ∙ z))

  -- an answer without a refusal has a calendar with as many years as the file has calendar blocks
  pub judged-years : r.refusal ≡ 0 → r.calendar.cover.years ≡ year_count f
  judged-years z =
      ap (λ (x : Calendar). x.cover.years)
      (judged-calendar z ∙ calendar-is f (ordered f (all_yes f (sym judged-refusal ∙ z)).yes4))

-- the counts of a refused file: no years and no records
abbrev pub no_counts : Counts
no_counts = record { years = 0; records = 0 }

-- the counts of an accepted file: its years and its records
abbrev pub counts_of : List ℕ → Counts
counts_of f = record { years = year_count f; records = record_count f }

-- a file that load refuses is answered with the number of the refusal and counts of 0
pub load-refused : (f : List ℕ) (r : ℕ) → r ≡ first_no (load_asks f) → (r ≡ 0 → ⊥)
    → ◌≡◌ {A = Answer Counts} (record { refusal = r; value = no_counts }) (load_call f)
unfolding load_call
load-refused f zero e h = absurd (h refl)
load-refused f (suc r) e h = sym (refused (load_asks f) no_counts (counts_of f) r (sym e))

-- a file that load accepts is answered with refusal 0 and its counts
pub load-accepted : (f : List ℕ) → first_no (load_asks f) ≡ 0 → load_call f ≡ record { refusal = 0; value = counts_of f }
unfolding load_call
load-accepted f e = accepted (load_asks f) no_counts (counts_of f) e

module _ (f id : List ℕ) (p : ℕ) where
  abbrev place : ℕ
  place = place_from f id p

  at_place : place < place_count f → find_from f id p ≡ record { refusal = 0; value = place_of place }
  unfolding find_from
  at_place h =
      accepted (ask 9 (ltb place (place_count f)) ∷ []) (record { block = 0; «record» = 0 }) (place_of place)
      (first-yes 9 [] (lt-ltb _ _ h) ∙ no-asks)

  no_place : place_count f ≤ place → find_from f id p ≡ record { refusal = 9; value = record { block = 0; «record» = 0 } }
  unfolding find_from
  no_place h =
      refused (ask 9 (ltb place (place_count f)) ∷ []) (record { block = 0; «record» = 0 }) (place_of place) 8
      (first-no 9 [] (le-ltb _ _ h))

  -- what the search ends with is its answer
  pub found-answer : find_answer (found_at f (place / 15) (place % 15)) ≡ find_from f id p
  unfolding found_at
  found-answer = go (lt-or-ge place (place_count f))
    where
      go : (place < place_count f) ⊎ (place_count f ≤ place) → find_answer (found_at f (place / 15) (place % 15)) ≡ find_from f id p
      go (inl h) = rw (lt-ltb (place / 15) (block_count f) (omega arith)) (sym (at_place h))
      go (inr h) = rw (le-ltb (place / 15) (block_count f) (omega arith)) (sym (no_place h))

-- a search from the first place on
pub find-whole : (f id : List ℕ) → find_from f id 0 ≡ find_call f id
unfolding find_from find_call found
find-whole f id = refl
