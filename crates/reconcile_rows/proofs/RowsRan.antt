-- The line of the counts has fewer than 64 bytes; what a run gives of the rows, printed or not.
-- Assumes nothing.
use mathlib.Core.Path.{◌≡◌, refl, ap, ◌∙◌}
use mathlib.Core.Bool.{Bool, true, false, ◌||◌}
use mathlib.Core.List.{List}
use Prim.Native.Nat.{ℕ, ◌≤◌, ◌<◌}
use native.Mathlib.Omega.{arith}
use lib.ListN.{length}
use Rattle.questions.specs.Questions.{Answer}
use Rattle.questions.specs.Search.{some}
use Rattle.questions.proofs.Bools.{clash}
use Rattle.calendar.specs.declared.Calendar.{Calendar}
use Rattle.session_lines.specs.declared.Line.{Line}
use Rattle.session_lines.specs.CommandLines.{empty_line}
use Rattle.program_status.specs.Statuses.{status_of}
use Rattle.streams.specs.declared.output.Told.{Told}
use Rattle.streams.specs.Transfers.{Grew}
use Rattle.file_text_print.specs.Contents.{LineWith}
use Rattle.file_ids.specs.Ids.{place_count, record_count}
use Rattle.table.specs.Table.{open_in}
use Rattle.delivery_notices.specs.declared.NoticesTaken.{NoticesTaken}
use Rattle.delivery_parts.specs.PlaceParts.{parts_text}
use Rattle.delivery_parts.specs.Handing.{Runs}
use Rattle.delivery_receipts.specs.Receiving.{Lists, room_in}
use Rattle.delivery_reconciled.specs.Reconciled.{opening_text, summary_text, opening_refused}
use Rattle.delivery_reading.specs.declared.RowsRead.{RowsRead}
use Rattle.delivery_reading.specs.Reading.{RowsOfInput}
use Rattle.delivery_judging.specs.declared.LinesPrinted.{LinesPrinted}
use Rattle.delivery_reconciling.specs.ReconcileRuns.{DifferencesOut, ReconcileRan}
use Rattle.delivery_reconciling.proofs.Counts.{summary-short}
use Rattle.delivery_reconciling.proofs.ReconcileRuns.{ran_over, ran-all, ran-failed}
use Rattle.reconcile_rows.specs.declared.Reconciled.{Reconciled}
use Rattle.reconcile_rows.specs.RowsRuns.{Stopped, Finished}

-- the line of the counts has fewer than 64 bytes, and its first count is that of the file's products
pub counts-line : (f : List ℕ) (n rows differ bad : ℕ) → n ≡ record_count f → n ≤ place_count f → length f ≤ 65537 → rows ≤ 65536 → differ < 1000000000
    → bad < 1000000000
    → (l : Line) → LineWith empty_line (summary_text n rows differ bad) l
    → (length (summary_text (record_count f) rows differ bad) < 64) × LineWith empty_line (summary_text (record_count f) rows differ bad) l
counts-line f n rows differ bad e most size few some bads l made =
    let own : n < 100000 = omega arith in
    rw (← e) (summary-short n rows differ bad own (omega arith) some bads, made)

-- where one of two is not so, neither is
pub neither : (a b : Bool) → (a || b) ≡ false → (a ≡ false) × (b ≡ false)
neither false false e = (refl, refl)
neither false true e = clash refl e
neither true b e = clash refl e

-- where one of two is so and the first is not, the second is
pub other : (a b : Bool) → (a || b) ≡ true → a ≡ false → b ≡ true
other false b e z = e
other true b e z = clash refl z

-- lists of these lengths have room for 65,536 rows
pub room-enough : (a : Lists) → length a.ids ≡ 262144 → length a.keys ≡ 65536 → length a.days ≡ 65536 → length a.fulls ≡ 65536
    → length a.numbers ≡ 65536 → length a.backs ≡ 65536 → room_in a ≡ 65536
unfolding room_in
room-enough a i k d f n b = rw (i, k, d, f, n, b) refl

-- and so has a list of places
pub at_least : (places : List ℕ) → length places ≡ 65536 → 65536 ≤ length places
at_least places e = omega arith

-- ---- a run that reads rows

module _ (f notices : List ℕ) (verdict : Answer Calendar) (t : NoticesTaken) (calls ids : List ℕ) (g : Runs f notices verdict t calls ids)
    (opened : ℕ) (o : Grew 0 (length (parts_text (opening_text (open_in verdict f) f t.opened t.date) (place_count f))) opened)
    (a : Lists) (read : RowsRead) (x : read.input.failed ≡ false → RowsOfInput f opened a read.input read.kept) where
  -- one that prints nothing of what was read
  pub stopped-ran : (read.input.failed || read.kept.state.over) ≡ true → (r : Reconciled) → Stopped read r
      → ReconcileRan f notices r.input r.sent r.told.bytes r.status
  stopped-ran e r s = rw (s.input, s.told) (go read.input.failed refl)
    where
      go : (b : Bool) → read.input.failed ≡ b → ReconcileRan f notices read.input r.sent read.kept.told.bytes r.status
      go true y =
          ran-failed f notices read.input y r.sent s.none read.kept.told.bytes r.status (s.status ∙ ap (λ (b : Bool). status_of b true) y)
      go false z =
          ran_over f notices verdict t calls ids g opened o a read.input read.kept (x z) z
          (other read.input.failed read.kept.state.over e z) r.sent s.taken s.none r.status
          (s.status ∙ ap (λ (b : Bool). status_of b true) z)

  -- any other one
  pub finished-ran : (read.input.failed || read.kept.state.over) ≡ false → (p : LinesPrinted) → DifferencesOut f notices a read.kept.state.rows p
      → (told : Told)
      → (p.sent.open ≡ true
      → Grew read.kept.told.bytes (length (summary_text (record_count f) read.kept.state.rows p.lines read.kept.bad)) told.bytes)
      → (refused : Bool) → refused ≡ some (place_count f) (opening_refused (open_in verdict f) f t.date)
      → (r : Reconciled) → Finished read refused p told r → ReconcileRan f notices r.input r.sent r.told.bytes r.status
  finished-ran e p d told w refused q r s =
      let n = neither read.input.failed read.kept.state.over e in
      rw (s.input, s.sent, s.last)
      (ran-all f notices verdict t calls ids g opened o a read.input read.kept (x n.0) n.0 n.1 p d told.bytes w refused q r.status
      s.ends)
