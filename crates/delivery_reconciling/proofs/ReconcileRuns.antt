-- The pieces that a run writes and tells, in their order, make up the two texts of the definition.
-- Assumes nothing.
use mathlib.Core.Path.{◌≡◌, refl, sym, ap, ◌∙◌, fun_ext}
use mathlib.Core.Bool.{Bool, true, false, not, ◌||◌, cond}
use mathlib.Core.List.{List, [], ◌∷◌, ◌++◌}
use mathlib.Core.Logic.{◌⊎◌, inl, inr}
use Prim.Native.Nat.{ℕ, zero, suc, ◌+◌, ◌≤◌, ◌<◌}
use native.Mathlib.Omega.{arith}
use lib.Dec.{eqb, ltb}
use lib.ListN.{length, length-append}
use borrow.Author.Tests.{eq-eqb, lt-ltb, le-ltb}
use Rattle.questions.specs.Questions.{Answer, answer, first_no}
use Rattle.questions.specs.Search.{some}
use Rattle.questions.proofs.Bools.{clash, lt-or-ge}
use Rattle.calendar.specs.declared.Calendar.{Calendar}
use Rattle.streams.specs.Transfers.{Grew}
use Rattle.streams.specs.declared.output.Sent.{Sent}
use Rattle.streams.specs.declared.reads.Input.{Input}
use Rattle.program_status.specs.Statuses.{status_of}
use Rattle.file_ids.specs.Ids.{place_count, record_count}
use Rattle.file_load.specs.Load.{load_asks, judge_call}
use Rattle.table.specs.declared.Outcome.{Outcome}
use Rattle.table.specs.Table.{open_in, open_call}
use Rattle.table.proofs.Opens.{open_is}
use Rattle.session_lines.specs.CommandLines.{lines_from}
use Rattle.delivery_lines.specs.NoticeLines.{unmarked}
use Rattle.delivery_notices.specs.declared.NoticesTaken.{NoticesTaken}
use Rattle.delivery_notices.specs.Notices.{NoticesTold, text_told}
use Rattle.delivery_parts.specs.PlaceParts.{parts_text}
use Rattle.delivery_parts.specs.Handing.{Runs}
use Rattle.delivery_parts.proofs.Handing.{count-few}
use Rattle.delivery_reports.specs.Reports.{differences_heading}
use Rattle.delivery_items.specs.declared.ItemRead.{ItemRead}
use Rattle.delivery_items.specs.Items.{line_read}
use Rattle.delivery_receipts.specs.Receipts.{Receipt, Sort, ended, empty, heading, bad, too_many, good, received_of, sort_of, line_brought, line_received}
use Rattle.delivery_receipts.specs.Receipts.{lines_received, no_receipt, receipt_of}
use Rattle.delivery_receipts.specs.Receiving.{Lists, received_to, receipt_in, first_unknown}
use Rattle.delivery_receipts.proofs.RowsSoFar.{good-room}
use Rattle.delivery_inputs.specs.ReconcileInputs.{bad_rows_text, bads_counted}
use Rattle.delivery_reconciled.specs.Reconciled.{sum_to, keys_at, place_text, stranger_text, differences_text, differ_count, opening_text, summary_text}
use Rattle.delivery_reconciled.specs.Reconciled.{last_text, told_text, reconcile_text, reconcile_told, opening_refused, reconcile_refused}
use Rattle.delivery_reconciled.specs.Standings.{id_row_text, row_count}
use Rattle.delivery_reconciled.proofs.RowIds.{received-count, strangers-are, strangers-counted}
use Rattle.delivery_row_parts.specs.declared.RowsKept.{RowsKept}
use Rattle.delivery_row_parts.specs.RowParts.{AllBadsTold}
use Rattle.delivery_reading.specs.Reading.{RowsOfInput}
use Rattle.delivery_judging.specs.declared.LinesPrinted.{LinesPrinted}
use Rattle.delivery_judging.specs.LinesOut.{Held, PlacesOut, StrangersOut}
use Rattle.delivery_reconciling.specs.ReconcileRuns.{ProductsOut, DifferencesOut, ReconciledOn, ReconcileRan}

-- ---- no more than 65,536 rows are received

brought-few : (room : ℕ) (k : Sort) (s : Receipt) (i : ItemRead) → length s.rows ≤ room → (k ≡ good → length s.rows < room)
    → length (line_brought k s i).rows ≤ room
unfolding line_brought
brought-few room ended s i h g = h
brought-few room empty s i h g = h
brought-few room heading s i h g = h
brought-few room bad s i h g = h
brought-few room too_many s i h g = h
brought-few room good s i h g = omega (arith, g refl, length-append s.rows (received_of i ∷ []))

lines-few : (room : ℕ) (f : List ℕ) (s : Receipt) (lines : List (List ℕ)) → length s.rows ≤ room → length (lines_received room f s lines).rows ≤ room
unfolding lines_received line_received
lines-few room f s [] h = h
lines-few room f s (line ∷ lines) h =
    lines-few room f (line_received room f s (line_read line)) lines
    (brought-few room (sort_of room f s.over s.begun (length s.rows) (line_read line)) s (line_read line).item h
    (good-room room f s.over s.begun (length s.rows) (line_read line)))

received-few : (f input : List ℕ) → length (receipt_of f input).rows ≤ 65536
unfolding receipt_of
received-few f input = lines-few 65536 f no_receipt (lines_from [] (unmarked input)) (omega arith)

module _ (f : List ℕ) (told : ℕ) (a : Lists) (i : Input) (s : RowsKept) (x : RowsOfInput f told a i s) where
  own_is : receipt_in s.state a x.bads ≡ receipt_of f (x.is.input ++ [])
  own_is = x.is.is [] (λ z. refl)

  -- there are at most 65,536 good rows
  pub rows_few : s.state.rows ≤ 65536
  rows_few =
      omega (
        arith,
        received-few f (x.is.input ++ []),
        ap (λ (r : Receipt). length r.rows) own_is,
        received-count a s.state.rows,
      )

counted-few : (n : ℕ) → bads_counted n < 1000000000
unfolding bads_counted
counted-few n = go (lt-or-ge n 999999999)
  where
    go : (n < 999999999) ⊎ (999999999 ≤ n) → cond (ltb n 999999999) n 999999999 < 1000000000
    go (inl l) = rw (lt-ltb n 999999999 l) (omega arith)
    go (inr l) = rw (le-ltb n 999999999 l) (omega arith)

-- the count of bad lines has at most nine digits
pub bads-few : (f : List ℕ) (told : ℕ) (a : Lists) (i : Input) (s : RowsKept) → RowsOfInput f told a i s → s.bad < 1000000000
bads-few f told a i s x = omega (arith, x.tells.count, counted-few (length x.bads))

-- ---- the lines of the ids that are not in the file

count-one : (f ids : List ℕ) (i : ℕ) → row_count f ids i ≤ 1
unfolding row_count
count-one f ids i = go (first_unknown f ids i)
  where
    go : (b : Bool) → cond b 1 0 ≤ 1
    go true = omega arith
    go false = omega arith

sum-few : (f ids : List ℕ) (n : ℕ) → sum_to (row_count f ids) n ≤ n
unfolding sum_to
sum-few f ids zero = omega arith
sum-few f ids (suc n) = omega (arith, sum-few f ids n, count-one f ids n)

-- they are no more than the rows
pub strangers-few : (f ids : List ℕ) (n : ℕ) (s : Sent) (r : LinesPrinted) → StrangersOut f ids n s r → r.lines ≤ n
strangers-few f ids n s r x = omega (arith, x.lines, sum-few f ids n)

-- ---- what is written

module _ (f notices : List ℕ) (verdict : Answer Calendar) (t : NoticesTaken) (calls ids : List ℕ) (g : Runs f notices verdict t calls ids) where
  own-opening : open_in verdict f ≡ open_call f
  own-opening = ap (λ (v : Answer Calendar). open_in v f) g.own ∙ fun_ext (λ id. fun_ext (λ date. open_is f id date))

  module _ (a : Lists) (rows places : ℕ) (most : rows ≤ 65536) (room : rows ≤ places) where
    held : Held t.date t.count calls ids rows places (text_told notices)
    held =
        record {
          few = omega (arith, count-few notices calls ids t g.held);
          most = most;
          room = room;
          dated = ap (λ (x : NoticesTold). x.date) g.held;
          notices = ap (λ (x : NoticesTold). x.notices) g.held;
        }

    -- the lines of all products after the heading
    pub products-out : (headed : Sent) → (headed.open ≡ true → Grew 0 (length differences_heading) headed.bytes)
        → (r : LinesPrinted) → PlacesOut (open_in verdict f) f t.date t.count calls ids a rows places (place_count f) headed r
        → ProductsOut f notices a rows r
    products-out headed h r y =
        let x : PlacesOut (open_call f) f t.date t.count calls ids a rows places (place_count f) headed r = rw own-opening at y in
        record {
          text = λ o.
              let w = x.text (text_told notices) held o in
              omega (
                arith,
                w.1,
                h w.0,
                length-append differences_heading
                    (parts_text (place_text (open_call f) f (text_told notices) (received_to a rows)) (place_count f)),
              );
          lines = x.lines (text_told notices) held;
          few = x.few;
        }

module _ (f notices : List ℕ) (a : Lists) (rows : ℕ) where
  whole-text : length (differences_text (open_call f) f (text_told notices) (received_to a rows))
      ≡ length (differences_heading ++ parts_text (place_text (open_call f) f (text_told notices) (received_to a rows)) (place_count f)) + length
      (parts_text (id_row_text f a.ids) rows)
  unfolding differences_text
  whole-text =
      let places = parts_text (place_text (open_call f) f (text_told notices) (received_to a rows)) (place_count f) in
      let others = parts_text (stranger_text f (received_to a rows)) (length (received_to a rows)) in
      omega (
        arith,
        length-append differences_heading (places ++ others),
        length-append places others,
        length-append differences_heading places,
        ap length (strangers-are f a rows),
      )

  whole-count : sum_to (λ p. length (keys_at (open_call f) f (text_told notices) (received_to a rows) p)) (place_count f) + sum_to (row_count f a.ids) rows
      ≡ differ_count (open_call f) f (text_told notices) (received_to a rows)
  unfolding differ_count
  whole-count =
      ap (λ (n : ℕ). sum_to (λ p. length (keys_at (open_call f) f (text_told notices) (received_to a rows) p)) (place_count f) + n) (sym (strangers-counted f a
      rows))

  -- the lines of the ids that are not in the file, after those of the products
  pub differences-out : (p : LinesPrinted) → ProductsOut f notices a rows p → (o : LinesPrinted) → StrangersOut f a.ids rows p.sent o
      → DifferencesOut f notices a rows (record { sent = o.sent; lines = p.lines + o.lines })
  differences-out p x o y =
      record {
        text = λ e. let w = y.text e in omega (arith, w.1, x.text w.0, whole-text);
        lines = ap (λ (n : ℕ). n + o.lines) x.lines
            ∙ ap (λ (n : ℕ). sum_to (λ q. length (keys_at (open_call f) f (text_told notices) (received_to a rows) q)) (place_count f) + n) y.lines
            ∙ whole-count;
        few = omega (arith, x.few, strangers-few f a.ids rows p.sent o y);
      }

-- ---- the whole run

grew_then : (n m k a b : ℕ) → Grew n a m → Grew m b k → Grew n (a + b) k
grew_then n m k a b x y = omega (arith, x, y)

last_none : (opening : List ℕ → ℕ → Outcome) (f : List ℕ) (t : NoticesTold) (r : Receipt) → r.over ≡ true → last_text opening f t r ≡ []
unfolding last_text
last_none opening f t r e = rw e refl

last_some : (opening : List ℕ → ℕ → Outcome) (f : List ℕ) (t : NoticesTold) (r : Receipt) → r.over ≡ false
    → last_text opening f t r ≡ summary_text (record_count f) (length r.rows) (differ_count opening f t r.rows) (bads_counted (length r.bads))
unfolding last_text
last_some opening f t r e = rw e refl

-- where the second of two is so, one of them is
or-true : (a : Bool) → (a || true) ≡ true
or-true true = refl
or-true false = refl

some-counted : (n : ℕ) → ltb 0 (bads_counted n) ≡ ltb 0 n
unfolding bads_counted
some-counted n = go (lt-or-ge n 999999999)
  where
    go : (n < 999999999) ⊎ (999999999 ≤ n) → ltb 0 (cond (ltb n 999999999) n 999999999) ≡ ltb 0 n
    go (inl l) = rw (lt-ltb n 999999999 l) refl
    go (inr l) = let z : 0 < n = omega arith in rw (le-ltb n 999999999 l, lt-ltb 0 n z) refl

first-is : (f : List ℕ) (verdict : Answer Calendar) → verdict ≡ judge_call f → verdict.refusal ≡ first_no (load_asks f)
unfolding judge_call answer
first-is f verdict e = ap (λ (a : Answer Calendar). a.refusal) e

module _ (f notices : List ℕ) (verdict : Answer Calendar) (t : NoticesTaken) (calls ids : List ℕ) (g : Runs f notices verdict t calls ids) where
  accepted : eqb (first_no (load_asks f)) 0 ≡ true
  accepted = eq-eqb (first_no (load_asks f)) 0 (sym (first-is f verdict g.own) ∙ g.accepted)

  none-bad : eqb (text_told notices).bad 0 ≡ true
  none-bad = eq-eqb (text_told notices).bad 0 (sym (ap (λ (x : NoticesTold). x.bad) g.held) ∙ g.good)

  text_of : (input : List ℕ) → reconcile_text f notices input
      ≡ cond (not (receipt_of f input).over) (differences_text (open_call f) f (text_told notices) (receipt_of f input).rows) []
  unfolding reconcile_text
  text_of input = rw (accepted, none-bad) refl

  told_of : (input : List ℕ) → reconcile_told f notices input ≡ told_text (open_call f) f (text_told notices) (receipt_of f input)
  unfolding reconcile_told
  told_of input = rw (accepted, none-bad) refl

  refused-of : (input : List ℕ) → reconcile_refused f notices input
      ≡ (some (place_count f) (opening_refused (open_call f) f (text_told notices).date)
      || ((receipt_of f input).over
      || (ltb 0 (length (receipt_of f input).bads) || ltb 0 (differ_count (open_call f) f (text_told notices) (receipt_of f input).rows))))
  unfolding reconcile_refused
  refused-of input = rw (accepted, none-bad) refl

  openings-same : some (place_count f) (opening_refused (open_in verdict f) f t.date) ≡ some (place_count f) (opening_refused (open_call f) f (text_told notices
      ).date)
  openings-same = rw (own-opening f notices verdict t calls ids g, ap (λ (x : NoticesTold). x.date) g.held) refl

  openings-own : parts_text (opening_text (open_in verdict f) f t.opened t.date) (place_count f)
      ≡ parts_text (opening_text (open_call f) f (text_told notices).opened (text_told notices).date) (place_count f)
  openings-own =
      rw (own-opening f notices verdict t calls ids g, ap (λ (x : NoticesTold). x.opened) g.held, ap (λ (x : NoticesTold). x.date) g.held) refl

  module _ (opened : ℕ) (o : Grew 0 (length (parts_text (opening_text (open_in verdict f) f t.opened t.date) (place_count f))) opened)
      (a : Lists) (bads : List ℕ) (s : RowsKept) (tells : AllBadsTold opened bads s) (input : List ℕ)
      (e : receipt_in s.state a bads ≡ receipt_of f input) where
    told-long : length (reconcile_told f notices input)
        ≡ length (parts_text (opening_text (open_in verdict f) f t.opened t.date) (place_count f))
        + (length (bad_rows_text bads) + length (last_text (open_call f) f (text_told notices) (receipt_in s.state a bads)))
    unfolding told_text
    told-long =
        let openings = parts_text (opening_text (open_call f) f (text_told notices).opened (text_told notices).date) (place_count f) in
        let last = last_text (open_call f) f (text_told notices) (receipt_in s.state a bads) in
        let whole : reconcile_told f notices input ≡ openings ++ (bad_rows_text bads ++ last) = told_of input ∙ rw (← e) refl in
        omega (
          arith,
          ap length whole,
          length-append openings (bad_rows_text bads ++ last),
          length-append (bad_rows_text bads) last,
          ap length openings-own,
        )

    -- where there were too many rows nothing is written, and no counts are told
    over-on : s.state.over ≡ true → (sent : Sent) → sent.open ≡ true → sent.bytes ≡ 0 → (status : ℕ) → status ≡ status_of false true
        → ReconciledOn f notices sent s.told.bytes status input
    over-on y sent taken z status w =
        record {
          text = λ _. omega (arith, z, ap length none_written);
          said = λ _. omega (arith, o, tells.text, told-long, ap length none_last);
          ends = w ∙ rw (taken, refused-of input, ← e, y, or-true (some (place_count f) (opening_refused (open_call f) f (text_told notices).date))) refl;
        }
      where
        none_written : reconcile_text f notices input ≡ []
        none_written = text_of input ∙ rw (← e, y) refl

        none_last : last_text (open_call f) f (text_told notices) (receipt_in s.state a bads) ≡ []
        none_last = last_none (open_call f) f (text_told notices) (receipt_in s.state a bads) y

    -- else the differences are written, and the counts told last
    all-on : s.state.over ≡ false → (p : LinesPrinted) → DifferencesOut f notices a s.state.rows p → (told : ℕ)
        → (p.sent.open ≡ true → Grew s.told.bytes (length (summary_text (record_count f) s.state.rows p.lines s.bad)) told)
        → (refused : Bool) → refused ≡ some (place_count f) (opening_refused (open_in verdict f) f t.date)
        → (status : ℕ) → status ≡ status_of (not p.sent.open) (refused || (ltb 0 s.bad || ltb 0 p.lines))
        → ReconciledOn f notices p.sent told status input
    all-on n p d told w refused q status v =
        record {
          text = λ y. omega (arith, d.text y, ap length all-written);
          said = λ y. rw (told-long, ap length the-counts) (grew_then 0 opened told _ _ o (grew_then opened s.told.bytes told _ _ tells.text (w y)));
          ends = v ∙ ap (status_of (not p.sent.open)) the-status;
        }
      where
        all-written : reconcile_text f notices input ≡ differences_text (open_call f) f (text_told notices) (received_to a s.state.rows)
        all-written = text_of input ∙ rw (← e, n) refl

        the-counts : last_text (open_call f) f (text_told notices) (receipt_in s.state a bads)
            ≡ summary_text (record_count f) s.state.rows p.lines s.bad
        the-counts =
            last_some (open_call f) f (text_told notices) (receipt_in s.state a bads) n
            ∙ rw (received-count a s.state.rows, d.lines, tells.count) refl

        the-status : (refused || (ltb 0 s.bad || ltb 0 p.lines)) ≡ reconcile_refused f notices input
        the-status = rw (q, openings-same, tells.count, some-counted (length bads), d.lines, refused-of input, ← e, n) refl

  module _ (opened : ℕ) (o : Grew 0 (length (parts_text (opening_text (open_in verdict f) f t.opened t.date) (place_count f))) opened)
      (a : Lists) (i : Input) (s : RowsKept) (x : RowsOfInput f opened a i s) (z : i.failed ≡ false) where
    -- a run with too many rows
    pub ran_over : s.state.over ≡ true → (sent : Sent) → sent.open ≡ true → sent.bytes ≡ 0 → (status : ℕ) → status ≡ status_of false true
        → ReconcileRan f notices i sent s.told.bytes status
    ran_over y sent taken none status w =
        record {
          ran = λ _.
              record {
                input = x.is.input;
                count = x.is.count;
                is = λ rest h. over-on opened o a x.bads s x.tells (x.is.input ++ rest) (x.is.is rest h) y sent taken none status w;
              };
          failed = λ y. clash y z;
        }

    -- any other run
    pub ran-all : s.state.over ≡ false → (p : LinesPrinted) → DifferencesOut f notices a s.state.rows p → (told : ℕ)
        → (p.sent.open ≡ true → Grew s.told.bytes (length (summary_text (record_count f) s.state.rows p.lines s.bad)) told)
        → (refused : Bool) → refused ≡ some (place_count f) (opening_refused (open_in verdict f) f t.date)
        → (status : ℕ) → status ≡ status_of (not p.sent.open) (refused || (ltb 0 s.bad || ltb 0 p.lines))
        → ReconcileRan f notices i p.sent told status
    ran-all n p d told w refused q status v =
        record {
          ran = λ _.
              record {
                input = x.is.input;
                count = x.is.count;
                is = λ rest h. all-on opened o a x.bads s x.tells (x.is.input ++ rest) (x.is.is rest h) n p d told w refused q status v;
              };
          failed = λ y. clash y z;
        }

-- a run whose input could not be read
pub ran-failed : (f notices : List ℕ) (i : Input) → i.failed ≡ true → (sent : Sent) → sent.bytes ≡ 0 → (told status : ℕ) → status ≡ status_of true true
    → ReconcileRan f notices i sent told status
unfolding status_of
ran-failed f notices i y sent none told status w = record { ran = λ z. clash y z; failed = λ _. (none, w) }
