-- The lines that the program tells have fewer than 64 bytes, and are those of the definition; what a run gives, case by case.
-- Assumes nothing.
use mathlib.Core.Path.{◌≡◌, refl, sym, ap, ◌∙◌}
use mathlib.Core.Bool.{Bool, true, false, not, ◌&&◌, ◌||◌, cond}
use mathlib.Core.List.{List, []}
use Prim.Native.Nat.{ℕ, ◌≤◌, ◌<◌}
use native.Mathlib.Omega.{arith}
use lib.Dec.{eqb}
use lib.ListN.{length, take}
use lib.Seq.{length-take-le}
use borrow.Author.Tests.{eq-eqb, ne_eqb}
use Rattle.questions.specs.Questions.{Answer, answer, first_no}
use Rattle.questions.proofs.Bools.{clash}
use Rattle.calendar.specs.declared.Calendar.{Calendar}
use Rattle.session_lines.specs.declared.Line.{Line}
use Rattle.session_lines.specs.CommandLines.{empty_line}
use Rattle.program_status.specs.Statuses.{status_of}
use Rattle.streams.specs.declared.output.Told.{Told}
use Rattle.streams.specs.Transfers.{Grew}
use Rattle.file_text_print.specs.Contents.{LineWith}
use Rattle.file_load.specs.Load.{load_asks, judge_call}
use Rattle.table.specs.Table.{open_call}
use Rattle.delivery_notices.specs.declared.NoticesTaken.{NoticesTaken}
use Rattle.delivery_notices.specs.Notices.{NoticesTold, text_told}
use Rattle.delivery_notices.specs.NoticeLists.{told_in, told_held, TextIn}
use Rattle.delivery_refusals.specs.Refusals.{master_text, bad_notice_text}
use Rattle.delivery_parts.proofs.Handing.{master-short, bad-short, lists-fit}
use Rattle.delivery_receipts.specs.Receipts.{receipt_of}
use Rattle.delivery_reconciled.specs.Reconciled.{differences_text, told_text, reconcile_text, reconcile_told, reconcile_refused}
use Rattle.delivery_reconciling.specs.ReconcileRuns.{ReconciledOn}
use Rattle.reconcile_rows.specs.declared.Reconciled.{Reconciled}
use Rattle.reconcile_rows.specs.RowsRuns.{NoRows}
use Rattle.reconcile_rows.proofs.RowsRan.{other}
use Rattle.reconcile_run.specs.declared.FileRun.{FileRun}
use Rattle.reconcile_run.specs.declared.ReconcileEnded.{ReconcileEnded}
use Rattle.reconcile_run.specs.WholeRun.{reads_rows, RowsRun, Unread, OnFile, OnFiles}

-- lists of these lengths hold the notices of a text that was read
pub notices-held : (text calls calls' ids ids' : List ℕ) (t : NoticesTaken) → TextIn text calls calls' ids ids' t → length calls ≡ 32770 → length ids ≡ 26216
    → told_in t calls' ids' ≡ told_held (text_told text)
notices-held text calls calls' ids ids' t x c i = x.is (x.fits ∙ lists-fit (length calls) (length ids) (omega arith) (omega arith))

first-is : (f : List ℕ) (verdict : Answer Calendar) → verdict ≡ judge_call f → verdict.refusal ≡ first_no (load_asks f)
unfolding judge_call answer
first-is f verdict e = ap (λ (a : Answer Calendar). a.refusal) e

module _ (f notices : List ℕ) (verdict : Answer Calendar) (own : verdict ≡ judge_call f) where
  refused-is : (verdict.refusal ≡ 0 → ⊥) → master_text verdict.refusal ≡ reconcile_told f notices []
  unfolding reconcile_told
  refused-is some = rw (ne_eqb (first_no (load_asks f)) 0 (λ e. some (first-is f verdict own ∙ e)), first-is f verdict own) refl

  -- of a file that is refused its refusal is all that is told
  pub refused-line : (verdict.refusal ≡ 0 → ⊥) → (l : Line) → LineWith empty_line (master_text verdict.refusal) l
      → (length (reconcile_told f notices []) < 64) × LineWith empty_line (reconcile_told f notices []) l
  refused-line some l made = rw (← refused-is some) (master-short verdict.refusal, made)

  module _ (yes : verdict.refusal ≡ 0) (calls ids : List ℕ) (t : NoticesTaken) (held : told_in t calls ids ≡ told_held (text_told notices))
      (some : t.bad ≡ 0 → ⊥) where
    bad-own : t.bad ≡ (text_told notices).bad
    bad-own = ap (λ (x : NoticesTold). x.bad) held

    bad-is : bad_notice_text t.bad ≡ reconcile_told f notices []
    unfolding reconcile_told
    bad-is =
        rw (eq-eqb (first_no (load_asks f)) 0 (sym (first-is f verdict own) ∙ yes), ne_eqb (text_told notices).bad 0 (λ e. some (bad-own ∙ e)), bad-own) refl

    -- of notices with a bad line its number is all that is told
    pub bad-line : (l : Line) → LineWith empty_line (bad_notice_text t.bad) l
        → (length (reconcile_told f notices []) < 64) × LineWith empty_line (reconcile_told f notices []) l
    bad-line l made = rw (← bad-is) (bad-short t.bad, made)

-- ---- a run that reads none

none_of : (a b c : Bool) (x : List ℕ) → (a && b) ≡ false → cond (a && (b && c)) x [] ≡ []
none_of false b c x e = refl
none_of true false c x e = refl
none_of true true c x e = clash refl e

same_of : (a b : Bool) (x y z w : List ℕ) → (a && b) ≡ false → cond a (cond b x z) w ≡ cond a (cond b y z) w
same_of false b x y z w e = refl
same_of true false x y z w e = refl
same_of true true x y z w e = clash refl e

either-of : (a b c : Bool) → (a && b) ≡ false → (not a || (not b || c)) ≡ true
either-of false b c e = refl
either-of true false c e = refl
either-of true true c e = clash refl e

module _ (f notices : List ℕ) (e : reads_rows f notices ≡ false) (input : List ℕ) where
  none_written : reconcile_text f notices input ≡ []
  unfolding reads_rows reconcile_text
  none_written =
      none_of (eqb (first_no (load_asks f)) 0) (eqb (text_told notices).bad 0) (not (receipt_of f input).over)
      (differences_text (open_call f) f (text_told notices) (receipt_of f input).rows) e

  same-told : reconcile_told f notices input ≡ reconcile_told f notices []
  unfolding reads_rows reconcile_told
  same-told =
      same_of (eqb (first_no (load_asks f)) 0) (eqb (text_told notices).bad 0) (told_text (open_call f) f (text_told notices) (receipt_of f input))
      (told_text (open_call f) f (text_told notices) (receipt_of f [])) (bad_notice_text (text_told notices).bad) (master_text (first_no (load_asks f))) e

  is-refused : reconcile_refused f notices input ≡ true
  unfolding reads_rows reconcile_refused
  is-refused = either-of (eqb (first_no (load_asks f)) 0) (eqb (text_told notices).bad 0) _ e

-- where a file is refused, or a notice bad, its line is told and nothing read
pub refused-ran : (f notices : List ℕ) → reads_rows f notices ≡ false → (told : Told) → Grew 0 (length (reconcile_told f notices [])) told.bytes
    → (r : Reconciled) → NoRows told false r → RowsRun f notices r
refused-ran f notices e told w r n =
    record {
      ran =
          record {
            ran = λ _. record { input = []; count = n.unread.1; is = λ rest h. on rest };
            failed = λ y. clash y n.unread.2;
          };
      unread = λ _. (n.unread.0, n.unread.1, n.unread.2, n.taken);
    }
  where
    on : (input : List ℕ) → ReconciledOn f notices r.sent r.told.bytes r.status input
    on input =
        record {
          text = λ _. omega (arith, n.none, ap length (none_written f notices e input));
          said = λ _. omega (arith, w, ap length (same-told f notices e input), ap (λ (x : Told). x.bytes) n.said);
          ends = n.ends ∙ rw (n.taken, is-refused f notices e input) refl;
        }

-- where a file cannot be read nothing is read of the rows, written or told
pub unread-ran : (told : Told) → told.bytes ≡ 0 → (r : Reconciled) → NoRows told true r → Unread r
unfolding status_of
unread-ran told z r n =
    record {
      unread = (n.unread.0, n.unread.1);
      none = n.none;
      untold = ap (λ (x : Told). x.bytes) n.said ∙ z;
      status = n.ends;
    }

-- ---- what a verdict and notices say of it

module _ (f : List ℕ) (verdict : Answer Calendar) (own : verdict ≡ judge_call f) where
  -- a file that is refused
  pub refused-first : (verdict.refusal ≡ 0 → ⊥) → eqb (first_no (load_asks f)) 0 ≡ false
  refused-first some = ne_eqb (first_no (load_asks f)) 0 (λ e. some (first-is f verdict own ∙ e))

  pub refused-reads : (notices : List ℕ) → (verdict.refusal ≡ 0 → ⊥) → reads_rows f notices ≡ false
  unfolding reads_rows
  refused-reads notices some = rw (refused-first some) refl

  module _ (yes : verdict.refusal ≡ 0) where
    -- a file that is accepted
    pub accepted-first : eqb (first_no (load_asks f)) 0 ≡ true
    accepted-first = eq-eqb (first_no (load_asks f)) 0 (sym (first-is f verdict own) ∙ yes)

    module _ (notices calls ids : List ℕ) (t : NoticesTaken) (held : told_in t calls ids ≡ told_held (text_told notices)) where
      bad-same : t.bad ≡ (text_told notices).bad
      bad-same = ap (λ (x : NoticesTold). x.bad) held

      -- with a bad notice
      pub bad-reads : (t.bad ≡ 0 → ⊥) → reads_rows f notices ≡ false
      unfolding reads_rows
      bad-reads some = rw (accepted-first, ne_eqb (text_told notices).bad 0 (λ e. some (bad-same ∙ e))) refl

      -- with none
      pub good-reads : t.bad ≡ 0 → reads_rows f notices ≡ true
      unfolding reads_rows
      good-reads z = rw (accepted-first, eq-eqb (text_told notices).bad 0 (sym bad-same ∙ z)) refl

-- ---- the files

-- the first bytes of a buffer of 65,537
pub take-few : (n m : ℕ) (buffer : List ℕ) → n ≡ m → m ≤ length buffer → length buffer ≡ 65537 → length (take n buffer) ≤ 65537
take-few n m buffer e fits long = let h : n ≤ length buffer = omega arith in omega (arith, length-take-le n buffer h)

-- a file that is refused: the notices are not read
pub file-refused : (f buffer : List ℕ) → eqb (first_no (load_asks f)) 0 ≡ false → (r : FileRun)
    → (r.notices.tried ≡ false) × (r.notices.failed ≡ false) × (r.notices.length ≡ 0) → RowsRun f [] r.rows → OnFile f buffer r
file-refused f buffer e r n x =
    record {
      tried = n.0 ∙ sym e;
      fits = omega (arith, n.2);
      failed = λ y. clash y n.1;
      ran = λ _. rw n.2 x;
    }

-- notices that were tried to be read
pub file-accepted : (f buffer : List ℕ) → eqb (first_no (load_asks f)) 0 ≡ true → (r : FileRun)
    → (r.notices.tried ≡ true) × (r.notices.length ≤ length buffer) → (r.notices.failed ≡ true → Unread r.rows)
    → (r.notices.failed ≡ false → RowsRun f (take r.notices.length buffer) r.rows) → OnFile f buffer r
file-accepted f buffer e r n y x = record { tried = n.0 ∙ sym e; fits = n.1; failed = y; ran = x }

-- where master.bin cannot be read nothing else is
pub master-unread : (r : ReconcileEnded) → r.master.tried ≡ true → r.master.failed ≡ true → r.notices.tried ≡ false → Unread r.rows → OnFiles r
master-unread r t y n u = record { tried = t; first = λ _. n; failed = λ _. u; ran = λ z. clash y z }

-- else the notices say what there is
pub master-read : (r : ReconcileEnded) → r.master.tried ≡ true → r.master.failed ≡ false → (buffer : List ℕ) → r.master.length ≤ length buffer
    → (text : List ℕ) → OnFile (take r.master.length buffer) text (record { notices = r.notices; rows = r.rows }) → OnFiles r
master-read r t z buffer fits text x =
    record {
      tried = t;
      first = λ y. clash y z;
      failed = λ y. x.failed (other r.master.failed r.notices.failed y z);
      ran = λ _ n.
          record {
            file = take r.master.length buffer;
            notices = take r.notices.length text;
            size = sym (length-take-le r.master.length buffer fits);
            long = sym (length-take-le r.notices.length text x.fits);
            tried = x.tried;
            ran = x.ran n;
          };
    }
