-- The line that is told of a file or of notices, and the run as a whole: without answers, and with all of them.
-- Assumes nothing.
use mathlib.Core.Path.{◌≡◌, ◌∙◌, refl, sym, ap}
use mathlib.Core.Bool.{Bool, true, false, not, ◌||◌, cond}
use mathlib.Core.Logic.{◌⊎◌, inl, inr}
use mathlib.Core.List.{List, [], ◌++◌, append-nil}
use Prim.Native.Nat.{ℕ, ◌≤◌, ◌<◌}
use native.Mathlib.Omega.{arith}
use lib.Dec.{eqb}
use lib.ListN.{length, take}
use lib.Seq.{length-take-le}
use Rattle.questions.specs.Questions.{Answer, answer, first_no}
use Rattle.questions.proofs.Bools.{clash, and_both}
use Rattle.calendar.specs.declared.Calendar.{Calendar}
use Rattle.file_calendar.specs.declared.FileCalendar.{FileCalendar}
use Rattle.file_calendar.specs.Calendars.{calendar_answer}
use Rattle.file_load.specs.Load.{load_asks, judge_call}
use Rattle.session_lines.specs.declared.Line.{Line}
use Rattle.session_lines.specs.CommandLines.{empty_line}
use Rattle.session_lines.proofs.LineFeeding.{fed-holds}
use Rattle.file_text_print.specs.Contents.{LineWith}
use Rattle.delivery_notices.specs.declared.NoticesTaken.{NoticesTaken}
use Rattle.delivery_notices.specs.Notices.{text_told}
use Rattle.delivery_notices.specs.NoticeLists.{TextIn}
use Rattle.delivery_refusals.specs.Refusals.{master_text, bad_notice_text}
use Rattle.delivery_parts.proofs.Handing.{master-short, bad-short, line-long}
use Rattle.session_parts.specs.TermsParts.{counted}
use Rattle.program_status.specs.Statuses.{status_of}
use Rattle.streams.specs.declared.calls.Transfer.{Transfer}
use Rattle.streams.specs.declared.output.Sent.{Sent}
use Rattle.streams.specs.declared.output.Told.{Told}
use Rattle.streams.specs.declared.reads.Input.{Input}
use Rattle.streams.specs.Inputs.{ForInput}
use Rattle.delivery_queries.specs.Queries.{standing_in, standing_of, query_text, query_refused, query_told}
use Rattle.delivery_queries.proofs.NoticeCounts.{told-own, told-bad, told-master, told_line, told-nothing}
use Rattle.delivery_sessions.specs.QueryRuns.{QueryRan, RanOn}
use Rattle.delivery_sessions.proofs.QueryRuns.{ran-own, query-count, query-refused, master-none, no-answers}
use Rattle.query_input.specs.declared.QueryEnded.{QueryEnded}
use Rattle.query_run.specs.declared.QuestionsAnswered.{QuestionsAnswered}
use Rattle.query_run.specs.declared.QueryOutcome.{QueryOutcome}
use Rattle.query_run.specs.QueryOutcomes.{NothingAnswered, QueryAnswered, run_failed, query_outcome, QueryRunEnds}
use borrow.Author.Tests.{le-leb}

-- ---- what is told

told-short : (f text : List ℕ) → length (query_told f text) < 64
unfolding query_told
told-short f text = go (eqb (first_no (load_asks f)) 0) (eqb (text_told text).bad 0)
  where
    go : (a b : Bool) → length (cond a (cond b [] (bad_notice_text (text_told text).bad)) (master_text (first_no (load_asks f)))) < 64
    go true true = omega arith
    go true false = bad-short (text_told text).bad
    go false b = master-short (first_no (load_asks f))

-- the line that is told has the length of the text, and fits into its bytes
pub told-fits : (f text : List ℕ) (l : Line) → LineWith empty_line (query_told f text) l
    → (l.length ≡ length (query_told f text)) × (l.length < 64) × (length l.bytes ≡ 64)
told-fits f text l made =
    let n : l.length ≡ length (query_told f text) = line-long made (told-short f text) in
    (n, omega (arith, n, told-short f text), rw made.is (fed-holds (query_told f text)).room)

number_is : (judged : FileCalendar) (f : List ℕ) → calendar_answer judged ≡ judge_call f → judged.refusal ≡ first_no (load_asks f)
unfolding judge_call answer
number_is judged f e = ap (λ (a : Answer Calendar). a.refusal) e

-- ---- nothing is answered

module _ (f text : List ℕ) (r : QuestionsAnswered) (told : Told) (d : NothingAnswered r × (r.told ≡ told) × (r.refused ≡ true))
    (q : told.bytes ≡ length (query_told f text)) where
  n : NothingAnswered r
  n = d.0

  -- where the text is empty for every input, and the run a refused one
  no_text : ((input : List ℕ) → (query_text f text input ≡ []) × (query_refused f text input ≡ true)) → QueryAnswered f text r
  no_text none =
      record {
        told = ap (λ (x : Told). x.bytes) d.1 ∙ q;
        refused = λ h. n;
        text = λ o g.
            record {
              input = [];
              count = omega (arith, n.unread.1);
              is = λ rest w. (n.unsent.1 ∙ ap (λ (x : List ℕ). counted 0 (length x)) (sym (none rest).0), d.2 ∙ sym (none rest).1);
            };
      }

-- a file that is refused
module _ (judged : FileCalendar) (f text : List ℕ) (e : calendar_answer judged ≡ judge_call f) (n : judged.refusal ≡ 0 → ⊥) where
  not-accepted : first_no (load_asks f) ≡ 0 → ⊥
  not-accepted q = n (number_is judged f e ∙ q)

  -- its line is what is told
  pub master-told : (l : Line) → LineWith empty_line (master_text judged.refusal) l → LineWith empty_line (query_told f text) l
  master-told l made = rw (← told-master f text not-accepted, ← number_is judged f e) made

  -- nothing is answered
  pub master-refused : (r : QuestionsAnswered) (told : Told) → NothingAnswered r × (r.told ≡ told) × (r.refused ≡ true)
      → told.bytes ≡ length (query_told f text) → QueryAnswered f text r
  master-refused r told d q = no_text f text r told d q (λ input. master-none f text input not-accepted)

-- ---- the notices

module _ (judged : FileCalendar) (f text calls calls' ids ids' : List ℕ) (t : NoticesTaken) (m : TextIn text calls calls' ids ids' t)
    (e : calendar_answer judged ≡ judge_call f) (z : judged.refusal ≡ 0) (a : 32770 ≤ length calls) (b : 26216 ≤ length ids) where
  fits : t.fits ≡ true
  fits = m.fits ∙ and_both (le-leb 32770 (length calls) a) (le-leb 26216 (length ids) b)

  accepted : first_no (load_asks f) ≡ 0
  accepted = sym (number_is judged f e) ∙ z

  bad-is : t.bad ≡ (text_told text).bad
  bad-is = told-bad judged f text calls calls' ids ids' t m fits

  -- the first bad line is what is told
  pub line-told : (l : Line) → (t.bad ≡ 0 → ⊥) → LineWith empty_line (bad_notice_text t.bad) l → LineWith empty_line (query_told f text) l
  line-told l n made = rw (← told_line f text accepted (λ q. n (bad-is ∙ q)), ← bad-is) made

  -- of notices with a bad line nothing is answered
  pub line_refused : (t.bad ≡ 0 → ⊥) → (r : QuestionsAnswered) (told : Told) → NothingAnswered r × (r.told ≡ told) × (r.refused ≡ true)
      → told.bytes ≡ length (query_told f text) → QueryAnswered f text r
  line_refused n r told d q = no_text f text r told d q (λ input. no-answers f text input accepted (λ x. n (bad-is ∙ x)))

  -- a run on the lists is one on the file and the notices
  on-file : t.bad ≡ 0 → (room n : ℕ) (x : Bool) (q : ℕ) → 65538 ≤ room → QueryRan (standing_in judged f t calls' ids' room) n x q → RanOn f text n x q
  on-file g room n x q h r =
      record {
        accepted = accepted;
        good = sym bad-is ∙ g;
        ran =
            ran-own (standing_in judged f t calls' ids' room) (standing_of f (text_told text).date (text_told text).notices) n x q
            (told-own judged f text calls calls' ids ids' t m fits e room h) r;
      }

  -- after the last read, for an input with as many bytes as were read
  for-input : t.bad ≡ 0 → (room n : ℕ) (x : Bool) (i : Input) → 65538 ≤ room
      → (i.left ≡ 0) × QueryRan (standing_in judged f t calls' ids' room) n x i.bytes
      → ForInput i (λ input. (n ≡ counted 0 (length (query_text f text input))) × (x ≡ query_refused f text input))
  for-input g room n x i h r =
      let o : RanOn f text n x i.bytes = on-file g room n x i.bytes h r.1 in
      let all : o.ran.input ++ [] ≡ o.ran.input = append-nil o.ran.input in
      record {
        input = o.ran.input;
        count = o.ran.long;
        is = λ rest w. rw (w r.0, all) (query-count f text n x i.bytes o, query-refused f text n x i.bytes o);
      }

  -- without a bad line the questions are answered
  pub all-answered : t.bad ≡ 0 → (room : ℕ) → 65538 ≤ room → (d : QueryEnded)
      → (d.sent.open ≡ true → d.input.failed ≡ false → (d.input.left ≡ 0) × QueryRan (standing_in judged f t calls' ids' room) d.sent.bytes
      d.refused d.input.bytes)
      → (r : QuestionsAnswered) → (r.input ≡ d.input) × (r.sent ≡ d.sent) × (r.told.bytes ≡ 0) × (r.refused ≡ d.refused) → QueryAnswered f text r
  all-answered g room h d w r q =
      record {
        told = q.2 ∙ ap length (told-nothing f text accepted (sym bad-is ∙ g));
        refused = λ x. absurd (x accepted (sym bad-is ∙ g));
        text = λ o k.
            rw (q.0, q.1, q.3)
            (for-input g room d.sent.bytes d.refused d.input h
            (w (ap (λ (s : Sent). s.open) (sym q.1) ∙ o) (ap (λ (i : Input). i.failed) (sym q.0) ∙ k)));
      }

-- ---- the whole run

module _ (file notices : Transfer) (a : QuestionsAnswered) (r : QueryOutcome) (o : r ≡ query_outcome file notices a) where
  -- a file that cannot be read ends the run
  pub file-failed : file.failed ≡ true → notices.length ≡ 0 → NothingAnswered a → a.told.bytes ≡ 0 → QueryRunEnds r
  file-failed e z n t =
      rw o (record {
        master = [];
        master-long = λ f. clash e f;
        notices = [];
        notices-long = λ f. sym z;
        failed = λ f. (n, t);
        answered = λ f g. clash e f;
        status = refl;
      })

  -- a file that was read, and notices that were read or not
  pub file-read : (f text : List ℕ) → file.failed ≡ false → file.length ≤ length f → notices.length ≤ length text
      → (notices.failed ≡ true → NothingAnswered a × (a.told.bytes ≡ 0))
      → (notices.failed ≡ false → QueryAnswered (take file.length f) (take notices.length text) a)
      → QueryRunEnds r
  file-read f text e x y none all =
      rw o (record {
        master = take file.length f;
        master-long = λ g. length-take-le file.length f x;
        notices = take notices.length text;
        notices-long = λ g. length-take-le notices.length text y;
        failed = ends;
        answered = λ g. all;
        status = refl;
      })
    where
      ends : (file.failed ≡ true) ⊎ (notices.failed ≡ true) → NothingAnswered a × (a.told.bytes ≡ 0)
      ends (inl t) = clash t e
      ends (inr t) = none t

-- ---- the status

none-failed : (a b c d : Bool) → (a || (b || (c || not d))) ≡ false → (a ≡ false) × (b ≡ false) × (c ≡ false) × (d ≡ true)
none-failed true b c d e = clash refl e
none-failed false true c d e = clash refl e
none-failed false false true d e = clash refl e
none-failed false false false true e = (refl, refl, refl, refl)
none-failed false false false false e = clash refl e

-- of a run that did not fail, by the definition, for the same input as the text
pub whole-status : (r : QueryOutcome) (e : QueryRunEnds r) → run_failed r.file r.notices r.answered ≡ false
    → ForInput r.answered.input (λ input. r.status ≡ status_of false (query_refused e.master e.notices input))
unfolding run_failed
whole-status r e f =
    let p = none-failed r.file.failed r.notices.failed r.answered.input.failed r.answered.sent.open f in
    let q = (e.answered p.0 p.1).text p.3 p.2 in
    record {
      input = q.input;
      count = q.count;
      is = λ rest w. e.status ∙ ap (λ (x : Bool). status_of x r.answered.refused) f ∙ ap (status_of false) (q.is rest w).1;
    }
