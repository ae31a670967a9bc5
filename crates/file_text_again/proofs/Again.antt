-- The text of an accepted file says that file's calendar and records again, and `compose` makes that file of it;
-- what is printed of a file that a text gave says what the text says.
-- Assumes nothing.
use mathlib.Core.Path.{◌≡◌, refl, sym, ap, ◌∙◌}
use mathlib.Core.List.{List}
use mathlib.Core.Bool.{true}
use Prim.Native.Nat.{ℕ, ◌+◌, ◌-◌, ◌≤◌, ◌<◌}
use native.Mathlib.Omega.{arith}
use lib.Dec.{eqb}
use lib.ListN.{length}
use borrow.Author.Tests.{eq-eqb}
use Rattle.questions.specs.Questions.{first_no, Answer, answer}
use Rattle.questions.proofs.Search.{every-all}
use Rattle.calendar.specs.declared.Calendar.{Calendar}
use Rattle.calendar.specs.Trading.{closed_on, in_second_map}
use Rattle.file_blocks.specs.Blocks.{block_count, block_of, records_of_block}
use Rattle.file_ids.specs.Ids.{place_count}
use Rattle.file_calendar.specs.Calendars.{year_count, calendar_of}
use Rattle.file_load.specs.declared.Counts.{Counts}
use Rattle.file_load.specs.Load.{load_asks, load_call}
use Rattle.file_load.proofs.LoadAnswers.{load-accepted}
use Rattle.file_load.proofs.Accepting.{accepted-file}
use Rattle.file_draft.specs.Drafts.{records_within, file_of, write_asks}
use Rattle.file_draft.proofs.DraftBlocks.{file-blocks}
use Rattle.file_draft.proofs.DraftCalendars.{years-written}
use Rattle.file_draft.proofs.DraftRecords.{count-is}
use Rattle.file_draft.proofs.DraftQuestions.{Counted, counted, writable}
use Rattle.file_write.specs.Writing.{write_call, buffer_after}
use Rattle.file_write.specs.FilesWritten.{are_bytes, records_of, all_full, Holds, SameFile}
use Rattle.file_write.proofs.Holding.{holds}
use Rattle.file_write.proofs.Same.{same-file}
use Rattle.file_text_print.specs.Contents.{cover_days, line_count, lines_text}
use Rattle.file_text_print.specs.WholeText.{decompose_text}
use Rattle.file_text_faults.specs.Faults.{no_fault, fault_kept}
use Rattle.file_text_read.specs.Lists.{Content, content_of, idle_day, composed, composed_file}
use Rattle.file_text_again.specs.Again.{SaysAgain, FileAgain}
use Rattle.file_text_again.proofs.LinesSaid.{Says}
use Rattle.file_text_again.proofs.FileText.{calendar_told, records_told, told-cover, told_text}
use Rattle.file_text_again.proofs.PlacedRecords.{records-told}
use Rattle.file_text_again.proofs.Days.{days-told, second-told}
use Rattle.file_text_again.proofs.CalendarAgain.{file-calendar-told}
use Rattle.file_text_again.proofs.TextBytes.{text-file-bytes}

-- what is printed of an accepted file is its text
text-is : (f : List ℕ) → first_no (load_asks f) ≡ 0 → decompose_text f ≡ lines_text (calendar_of f) f (line_count (calendar_of f) f)
unfolding decompose_text
text-is f e = rw (load-accepted f e) refl

-- what is said by days and records
from-says : (room : ℕ) (text : List ℕ) (told cal : Calendar) (records : List ℕ) → Says (content_of room text) told records → told.cover ≡ cal.cover
    → ((d : ℕ) → closed_on told d ≡ closed_on cal d) → ((d : ℕ) → in_second_map told d ≡ in_second_map cal d) → SaysAgain room text cal records
from-says room text told cal records s c days second =
    record {
      good = s.good;
      cover = ap (λ (x : Calendar). x.cover) s.calendar ∙ c;
      closed-days = λ d. ap (λ (x : Calendar). closed_on x d) s.calendar ∙ days d;
      second-days = λ d. ap (λ (x : Calendar). in_second_map x d) s.calendar ∙ second d;
      records-said = s.records-are;
    }

-- the text of an accepted file of bytes says that file's calendar and records
pub file-again : (room : ℕ) → 61440 ≤ room → (f : List ℕ) → are_bytes f ≡ true → first_no (load_asks f) ≡ 0
    → SaysAgain room (decompose_text f) (calendar_of f) (records_of f)
file-again room enough f bytes e =
    let a = accepted-file f e in
    rw (text-is f e, ← records-told f e)
    (from-says room (lines_text (calendar_of f) f (line_count (calendar_of f) f)) (calendar_told (calendar_of f) (cover_days (calendar_of f).cover)) (calendar_of f)
    (records_told f (place_count f))
    (told_text f bytes e room enough) (told-cover (calendar_of f) (cover_days (calendar_of f).cover))
    (days-told (calendar_of f) a.cover a.closures) (second-told (calendar_of f) a.cover a.closures))

-- what `compose` makes of a text that says a calendar and records
module _ (c : Content) (cal : Calendar) (records : List ℕ) (s : Says c cal records) where
  composed-says : (space n : ℕ) → write_call cal records space ≡ record { refusal = 0; value = n }
      → composed c space ≡ record { bad = 0; refusal = 0; fault = no_fault; day = 0; length = n }
  unfolding composed fault_kept idle_day
  composed-says space n w = rw (s.good, s.calendar, s.records-are, w) refl

  file-says : (before : List ℕ) → composed_file c before ≡ buffer_after cal records before
  unfolding composed_file
  file-says before = rw (s.good, s.calendar, s.records-are) refl

-- the text of an accepted file of bytes says that file's calendar, and its records
file-says-all : (room : ℕ) → 61440 ≤ room → (f : List ℕ) → are_bytes f ≡ true → first_no (load_asks f) ≡ 0
    → Says (content_of room (decompose_text f)) (calendar_of f) (records_of f)
file-says-all room enough f bytes e =
    let s = told_text f bytes e room enough in
    rw (text-is f e)
    (record {
      begun = s.begun;
      seeded = s.seeded;
      good = s.good;
      calendar = s.calendar ∙ file-calendar-told f bytes e;
      records-are = s.records-are ∙ records-told f e;
    })

-- of an accepted file of bytes whose product blocks but the last are full: composed, what is printed of it is that file
pub file-composed : (room : ℕ) → 61440 ≤ room → (f : List ℕ) → are_bytes f ≡ true → first_no (load_asks f) ≡ 0 → all_full f ≡ true → FileAgain room f
file-composed room enough f bytes e full =
    let s = file-says-all room enough f bytes e in
    let w : SameFile f = same-file f bytes e full in
    let c = content_of room (decompose_text f) in
    record {
      answer = λ space h. composed-says c (calendar_of f) (records_of f) s space (length f) (w.accepted space h);
      file = λ before h. file-says c (calendar_of f) (records_of f) s before ∙ w.buffer before h;
    }

-- a file that was written is accepted
asked : (f : List ℕ) → (load_call f).refusal ≡ first_no (load_asks f)
unfolding load_call answer
asked f = refl

-- 'for every text that `compose` accepts, what `decompose` prints of it says the same calendar and records': of the file that it makes
pub text-again : (room : ℕ) → 61440 ≤ room → (text : List ℕ) → are_bytes text ≡ true → (space : ℕ)
    → first_no (write_asks (content_of room text).calendar (content_of room text).records space) ≡ 0
    → SaysAgain room (decompose_text (file_of (content_of room text).calendar (content_of room text).records)) (content_of room text).calendar
    (content_of room text).records
text-again room enough text bytes space e =
    let cal = (content_of room text).calendar in
    let records = (content_of room text).records in
    let h : Holds cal records = holds cal records space e in
    let n : first_no (load_asks (file_of cal records)) ≡ 0 = sym (asked (file_of cal records)) ∙ ap (λ (x : Answer Counts). x.refusal) h.loads in
    let s = file-again room enough (file_of cal records) (text-file-bytes room text space bytes e) n in
    record {
      good = s.good;
      cover = s.cover ∙ h.cover;
      closed-days = λ d. s.closed-days d ∙ h.closed-days d;
      second-days = λ d. s.second-days d ∙ h.second-days d;
      records-said = s.records-said ∙ h.records-held;
    }

-- 'as those that it makes are': the product blocks but the last of a file that was written are full
module _ (cal : Calendar) (records : List ℕ) (space : ℕ) (e : first_no (write_asks cal records space) ≡ 0) where
  abbrev made : List ℕ
  made = file_of cal records

  k : Counted cal records space
  k = counted cal records space (writable cal records space e)

  full_block : (n : ℕ) → n < block_count made - 1 - year_count made → records_of_block (block_of made (year_count made + n)) ≡ 15
  full_block n h =
      let y : year_count made ≡ cal.cover.years = years-written cal records in
      let b = file-blocks cal records in
      let i : cal.cover.years + n - cal.cover.years ≡ n = omega arith in
      ap (λ (x : ℕ). records_of_block (block_of made (x + n))) y
      ∙ count-is cal records k.records-whole (cal.cover.years + n) (omega arith) (omega arith)
      ∙ ap (records_within records) i
      ∙ omega arith

  written-full : all_full made ≡ true
  unfolding all_full
  written-full =
      every-all (λ n. eqb (records_of_block (block_of made (year_count made + n))) 15) (block_count made - 1 - year_count made)
      (λ n h. eq-eqb (records_of_block (block_of made (year_count made + n))) 15 (full_block n h))

-- so `compose` makes its own file again of what is printed of it
pub text-composed : (room : ℕ) → 61440 ≤ room → (text : List ℕ) → are_bytes text ≡ true → (space : ℕ)
    → first_no (write_asks (content_of room text).calendar (content_of room text).records space) ≡ 0
    → FileAgain room (file_of (content_of room text).calendar (content_of room text).records)
text-composed room enough text bytes space e =
    let cal = (content_of room text).calendar in
    let records = (content_of room text).records in
    let n : first_no (load_asks (file_of cal records)) ≡ 0 =
    sym (asked (file_of cal records)) ∙ ap (λ (x : Answer Counts). x.refusal) (holds cal records space e).loads in
    file-composed room enough (file_of cal records) (text-file-bytes room text space bytes e) n (written-full cal records space e)
