-- What a run of `deliver` hands out comes next of its two texts, place by place and line by line, and at the end it is all of them.
-- Assumes nothing.
use mathlib.Core.Path.{◌≡◌, refl, ◌∙◌, sym, ap}
use mathlib.Core.Bool.{Bool, true, false, cond}
use mathlib.Core.List.{List, [], ◌∷◌, ◌++◌, map}
use Prim.Native.Nat.{ℕ, zero, suc, ◌+◌, ◌*◌, ◌≤◌, ◌<◌}
use native.Mathlib.Omega.{arith}
use lib.Dec.{eqb}
use lib.ListN.{length, get_or, take, length-append, length-map}
use lib.Seq.{length-take-le}
use borrow.Author.Tests.{eq-eqb, ne_eqb, le-leb}
use Rattle.questions.specs.Questions.{Answer, answer, first_no}
use Rattle.questions.proofs.Bools.{and_both}
use Rattle.calendar.specs.declared.Calendar.{Calendar}
use Rattle.file_ids.specs.Ids.{place_count}
use Rattle.file_load.specs.Load.{load_asks, judge_call}
use Rattle.table.specs.Table.{open_in}
use Rattle.session_lines.specs.declared.Line.{Line}
use Rattle.session_lines.specs.CommandLines.{empty_line}
use Rattle.session_lines.proofs.LineFeeding.{fed-is}
use Rattle.session_text.specs.TermsText.{decimal}
use Rattle.file_text_print.specs.Contents.{LineWith, id_text}
use Rattle.file_text_print.proofs.TextLengths.{decimal-short, id-short}
use Rattle.delivery_notices.specs.declared.NoticesTaken.{NoticesTaken}
use Rattle.delivery_notices.specs.Notices.{NoticesTold, text_told}
use Rattle.delivery_notices.specs.NoticeLists.{notices_to, notice_at, notice_held, lists_fit, told_in, told_held}
use Rattle.delivery_rows.specs.Delivery.{delivery_heading, rows_text}
use Rattle.delivery_refusals.specs.Refusals.{notices_name, master_text, bad_notice_text, refused_notice_text, refusal_told, place_refusals, refusal_line, refusal_lines}
use Rattle.delivery_refusals.specs.Refusals.{unknown_refusal, unknown_measures, unknown_line, unknown_lines}
use Rattle.delivery_parts.specs.declared.PlacePart.{PlacePart}
use Rattle.delivery_parts.specs.PlaceParts.{deliver_text, deliver_refusals, parts_text, PlaceIn}
use Rattle.file_text_print.specs.WholeText.{NextOf}
use Rattle.delivery_parts.specs.Handing.{place_rows_text, Runs, HandedTo}
use Rattle.delivery_parts.proofs.PlaceParts.{rows-own, refusals-own}
use Rattle.delivery_parts.proofs.Wholes.{whole, notices-length, unknown-told}
use Rattle.delivery_parts.proofs.Next.{next-whole, next-first, next-rest, next-part, parts_none, parts_more}
use Rattle.delivery_parts.proofs.Few.{notices-few}

-- ---- how long a line is

name-long : length notices_name ≡ 12
unfolding notices_name
name-long = refl

-- the heading of a delivery has 51 bytes
pub heading-long : length delivery_heading ≡ 51
unfolding delivery_heading
heading-long = refl

-- the line that tells the refusal of a master file has fewer than 64 bytes
pub master-short : (n : ℕ) → length (master_text n) < 64
unfolding master_text
master-short n = omega (arith, length-append (decimal n) (10 ∷ []), decimal-short n)

-- the line that tells a bad line of the notices has fewer than 64 bytes
pub bad-short : (n : ℕ) → length (bad_notice_text n) < 64
unfolding bad_notice_text
bad-short n =
    omega (
      arith,
      length-append (notices_name ++ decimal n) (58 ∷ 32 ∷ 66 ∷ 65 ∷ 68 ∷ 10 ∷ []),
      length-append notices_name (decimal n),
      name-long,
      decimal-short n,
    )

refused-short : (line refusal : ℕ) (id : List ℕ) → length id ≡ 4 → length (refused_notice_text line refusal id) < 64
unfolding refused_notice_text
refused-short line refusal id e =
    omega (
      arith,
      e,
      length-append (notices_name ++ decimal line) (58 ∷ 32 ∷ 78 ∷ 79 ∷ 32 ∷ (decimal refusal ++ (32 ∷ (id_text id ++ (10 ∷ []))))),
      length-append notices_name (decimal line),
      length-append (decimal refusal) (32 ∷ (id_text id ++ (10 ∷ []))),
      length-append (id_text id) (10 ∷ []),
      name-long,
      decimal-short line,
      decimal-short refusal,
      id-short id,
    )

refusal-short : (line refusal : ℕ) (id : List ℕ) → length id ≡ 4 → length (refusal_told line refusal id) < 64
unfolding refusal_told
refusal-short line refusal id e = go (eqb refusal 0)
  where
    go : (b : Bool) → length (cond b [] (refused_notice_text line refusal id)) < 64
    go true = omega arith
    go false = refused-short line refusal id e

-- ---- a line that comes next

module _ {text : List ℕ} {l : Line} (made : LineWith empty_line text l) (h : length text < 64) where
  -- a line made of a text of fewer than 64 bytes has the length of the text
  pub line-long : l.length ≡ length text
  line-long = rw made.is (fed-is text h).0

  -- a line made of a text of fewer than 64 bytes has at most 64 bytes
  pub line-few : l.length ≤ 64
  line-few = omega (arith, line-long, h)

  -- where such a text comes next, the bytes of the line made of it come next
  pub line-next : {all : List ℕ} {at : ℕ} → NextOf all at text → NextOf all at (take l.length l.bytes)
  line-next n =
      let e : take l.length l.bytes ≡ text = rw made.is (fed-is text h).1 in
      rw e n

from_zero : (text : List ℕ) (n : ℕ) (bytes : List ℕ) → NextOf text (0 + n) bytes → NextOf text n bytes
from_zero text n bytes x =
    let e : 0 + n ≡ n = omega arith in
    rw e at x

-- ---- numbered lines

parts-few : (part : ℕ → List ℕ) → ((i : ℕ) → length (part i) < 64) → (n : ℕ) → length (parts_text part n) ≤ 64 * n
unfolding parts_text
parts-few part short zero = omega arith
parts-few part short (suc n) = omega (arith, parts-few part short n, short n, length-append (parts_text part n) (part n))

module _ (id : List ℕ) (opened refusal : ℕ) (calls refusals : List ℕ) where
  refusals-are : (n : ℕ) → refusal_lines id opened refusal calls refusals n ≡ parts_text (refusal_line id opened refusal calls refusals) n
  unfolding refusal_lines parts_text
  refusals-are zero = refl
  refusals-are (suc n) = ap (λ (t : List ℕ). t ++ refusal_line id opened refusal calls refusals n) (refusals-are n)

  -- the first 0 lines of a product's refused calls have no bytes
  pub no-refusals : length (refusal_lines id opened refusal calls refusals 0) ≡ 0
  no-refusals = ap length (refusals-are 0) ∙ parts_none (refusal_line id opened refusal calls refusals)

  -- one more line of a product's refused calls adds its own length
  pub more-refusals : (i : ℕ)
      → length (refusal_lines id opened refusal calls refusals (i + 1))
      ≡ length (refusal_lines id opened refusal calls refusals i) + length (refusal_line id opened refusal calls refusals i)
  more-refusals i = rw (refusals-are (i + 1), refusals-are i) (parts_more (refusal_line id opened refusal calls refusals) i)

  -- each line of a product's refused calls comes next after those before it
  pub next-refusal : (all : List ℕ) (at n i : ℕ) → i < n → NextOf all at (refusal_lines id opened refusal calls refusals n)
      → NextOf all (at + length (refusal_lines id opened refusal calls refusals i)) (refusal_line id opened refusal calls refusals i)
  next-refusal all at n i h x =
      rw (refusals-are i) (next-part all at (refusal_line id opened refusal calls refusals) i n h (rw (refusals-are n) at x))

  module _ (four : length id ≡ 4) where
    -- a line of a product's refused calls has fewer than 64 bytes where the id has four
    pub refusal-line-short : (i : ℕ) → length (refusal_line id opened refusal calls refusals i) < 64
    unfolding refusal_line
    refusal-line-short zero = refusal-short opened refusal id four
    refusal-line-short (suc i) = go (eqb refusal 0)
      where
        go : (b : Bool) → length (cond b (refusal_told (get_or calls (5 * i) 0) (get_or refusals i 0) id) []) < 64
        go true = refusal-short (get_or calls (5 * i) 0) (get_or refusals i 0) id four
        go false = omega arith

    -- the first n lines of a product's refused calls have at most 64 bytes each
    pub few-refusals : (n : ℕ) → length (refusal_lines id opened refusal calls refusals n) ≤ 64 * n
    few-refusals n = rw (refusals-are n) (parts-few (refusal_line id opened refusal calls refusals) refusal-line-short n)

module _ (f calls ids : List ℕ) where
  unknown-are : (n : ℕ) → unknown_lines f calls ids n ≡ parts_text (unknown_line f calls ids) n
  unfolding unknown_lines parts_text
  unknown-are zero = refl
  unknown-are (suc n) = ap (λ (t : List ℕ). t ++ unknown_line f calls ids n) (unknown-are n)

  -- the first 0 lines of the measures of unknown ids have no bytes
  pub no-unknown : length (unknown_lines f calls ids 0) ≡ 0
  no-unknown = ap length (unknown-are 0) ∙ parts_none (unknown_line f calls ids)

  -- one more line of the measures of unknown ids adds its own length
  pub more-unknown : (i : ℕ) → length (unknown_lines f calls ids (i + 1)) ≡ length (unknown_lines f calls ids i) + length (unknown_line f calls ids i)
  more-unknown i = rw (unknown-are (i + 1), unknown-are i) (parts_more (unknown_line f calls ids) i)

  -- each line of the measures of unknown ids comes next after those before it
  pub next-unknown : (all : List ℕ) (at n i : ℕ) → i < n → NextOf all at (unknown_lines f calls ids n)
      → NextOf all (at + length (unknown_lines f calls ids i)) (unknown_line f calls ids i)
  next-unknown all at n i h x = rw (unknown-are i) (next-part all at (unknown_line f calls ids) i n h (rw (unknown-are n) at x))

  -- a line of a measure of an unknown id has fewer than 64 bytes
  pub unknown-short : (i : ℕ) → length (unknown_line f calls ids i) < 64
  unfolding unknown_line
  unknown-short i = refusal-short (notice_at calls ids i).line (unknown_refusal f (notice_at calls ids i)) (notice_at calls ids i).id refl

  -- the first n lines of the measures of unknown ids have at most 64 bytes each
  pub few-unknown : (n : ℕ) → length (unknown_lines f calls ids n) ≤ 64 * n
  few-unknown n = rw (unknown-are n) (parts-few (unknown_line f calls ids) unknown-short n)

-- ---- what is read of the notices

-- lists of at least 32,770 and 26,216 numbers have room for the notices of a text
pub lists-fit : (calls ids : ℕ) → 32770 ≤ calls → 26216 ≤ ids → lists_fit calls ids ≡ true
lists-fit calls ids h k = and_both (le-leb 32770 calls h) (le-leb 26216 ids k)

module _ (notices calls ids : List ℕ) (t : NoticesTaken) (held : told_in t calls ids ≡ told_held (text_told notices)) where
  bad-is : t.bad ≡ (text_told notices).bad
  bad-is = ap (λ (x : NoticesTold). x.bad) held

  date-is : t.date ≡ (text_told notices).date
  date-is = ap (λ (x : NoticesTold). x.date) held

  opened-is : t.opened ≡ (text_told notices).opened
  opened-is = ap (λ (x : NoticesTold). x.opened) held

  notices-are : notices_to calls ids t.count ≡ map notice_held (text_told notices).notices
  notices-are = ap (λ (x : NoticesTold). x.notices) held

  -- the count of notices held of a text is at most 6,553
  pub count-few : t.count ≤ 6553
  count-few =
      omega (
        arith,
        notices-few notices,
        notices-length calls ids t.count,
        ap length notices-are,
        length-map (text_told notices).notices notice_held,
      )

-- ---- a file that is refused, and notices with a bad line

first-is : (f : List ℕ) (verdict : Answer Calendar) → verdict ≡ judge_call f → verdict.refusal ≡ first_no (load_asks f)
unfolding judge_call answer
first-is f verdict e = ap (λ (a : Answer Calendar). a.refusal) e

module _ (f notices : List ℕ) (verdict : Answer Calendar) (own : verdict ≡ judge_call f) where
  module _ (no : verdict.refusal ≡ 0 → ⊥) where
    closed : eqb (first_no (load_asks f)) 0 ≡ false
    closed = ne_eqb (first_no (load_asks f)) 0 (λ e. no (first-is f verdict own ∙ e))

    -- of a file that is refused no rows are printed, no heading either
    pub refused-rows : deliver_text f notices ≡ []
    unfolding deliver_text
    refused-rows = rw closed refl

    -- of a file that is refused its refusal is all that is told
    pub refused-told : deliver_refusals f notices ≡ master_text verdict.refusal
    unfolding deliver_refusals
    refused-told = rw (closed, first-is f verdict own) refl

    -- of a file that is refused its refusal comes next, from the start of what is told
    pub next-refused : NextOf (deliver_refusals f notices) 0 (master_text verdict.refusal)
    next-refused = rw refused-told (next-whole (master_text verdict.refusal))

  module _ (yes : verdict.refusal ≡ 0) where
    open-file : eqb (first_no (load_asks f)) 0 ≡ true
    open-file = eq-eqb (first_no (load_asks f)) 0 (sym (first-is f verdict own) ∙ yes)

    module _ (calls ids : List ℕ) (t : NoticesTaken) (held : told_in t calls ids ≡ told_held (text_told notices)) (no : t.bad ≡ 0 → ⊥) where
      bad-line : eqb (text_told notices).bad 0 ≡ false
      bad-line = ne_eqb (text_told notices).bad 0 (λ e. no (bad-is notices calls ids t held ∙ e))

      -- of an accepted file and notices with a bad line no rows are printed, no heading either
      pub bad-rows : deliver_text f notices ≡ []
      unfolding deliver_text
      bad-rows = rw (open-file, bad-line) refl

      -- of an accepted file and notices with a bad line the bad line is all that is told
      pub bad-told : deliver_refusals f notices ≡ bad_notice_text t.bad
      unfolding deliver_refusals
      bad-told = rw (open-file, bad-line, bad-is notices calls ids t held) refl

      -- of an accepted file and notices with a bad line that line comes next, from the start of what is told
      pub next-bad : NextOf (deliver_refusals f notices) 0 (bad_notice_text t.bad)
      next-bad = rw bad-told (next-whole (bad_notice_text t.bad))

-- ---- place by place

module _ (f notices : List ℕ) (verdict : Answer Calendar) (t : NoticesTaken) (calls ids : List ℕ) (g : Runs f notices verdict t calls ids) where
  abbrev told : NoticesTold
  told = text_told notices

  abbrev row_parts : ℕ → List ℕ
  row_parts = parts_text (place_rows_text f told)

  abbrev told_parts : ℕ → List ℕ
  told_parts = parts_text (place_refusals f told)

  good-line : eqb (text_told notices).bad 0 ≡ true
  good-line = eq-eqb (text_told notices).bad 0 (sym (bad-is notices calls ids t g.held) ∙ g.good)

  rows_whole : deliver_text f notices ≡ delivery_heading ++ row_parts (place_count f)
  unfolding place_rows_text
  rows_whole = (whole f notices).rows ∙ rw (open-file f notices verdict g.own g.accepted, good-line) refl

  told-whole : deliver_refusals f notices ≡ told_parts (place_count f) ++ unknown_measures f told.notices
  told-whole = (whole f notices).refusals ∙ rw (open-file f notices verdict g.own g.accepted, good-line) refl

  rows_next : NextOf (deliver_text f notices) 0 (delivery_heading ++ row_parts (place_count f))
  rows_next = rw rows_whole (next-whole (delivery_heading ++ row_parts (place_count f)))

  told-next : NextOf (deliver_refusals f notices) 0 (told_parts (place_count f) ++ unknown_measures f told.notices)
  told-next = rw told-whole (next-whole (told_parts (place_count f) ++ unknown_measures f told.notices))

  rows-rest : NextOf (deliver_text f notices) (length delivery_heading) (row_parts (place_count f))
  rows-rest =
      from_zero (deliver_text f notices) (length delivery_heading) (row_parts (place_count f))
      (next-rest (deliver_text f notices) 0 delivery_heading (row_parts (place_count f)) rows_next)

  -- where rows are printed, the heading comes next at the start
  pub next-heading : NextOf (deliver_text f notices) 0 delivery_heading
  next-heading = next-first (deliver_text f notices) 0 delivery_heading (row_parts (place_count f)) rows_next

  -- before the first place the heading alone is handed out, and no refused call
  pub no_place : (n m : ℕ) → n ≡ length delivery_heading → m ≡ 0 → HandedTo f notices 0 n m
  no_place n m e z =
      record {
        rows = omega (arith, e, parts_none (place_rows_text f told));
        told = omega (arith, z, parts_none (place_refusals f told));
        rows_few = omega (arith, e, heading-long);
        told-few = omega (arith, z);
      }

  module _ (p : ℕ) (refusals refusals' out out' : List ℕ) (r : PlacePart)
      (x : PlaceIn (open_in verdict f) f p t.date t.count calls ids refusals refusals' out out' r)
      (room : 6554 ≤ length refusals) (long : length out ≡ 1024) where
    place-fits : r.fits ≡ true
    place-fits =
        x.fits ∙ and_both (le-leb t.count (length refusals) (omega (arith, count-few notices calls ids t g.held)))
        (le-leb 1024 (length out) (omega arith))

    rows_are : take r.length out' ≡ place_rows_text f told p
    unfolding place_rows_text
    rows_are =
        x.rows place-fits told (date-is notices calls ids t g.held) (notices-are notices calls ids t g.held)
        ∙ ap rows_text (rows-own verdict f told p g.own)

    abbrev lines : List ℕ
    lines = cond r.holds (refusal_lines r.id t.opened r.refusal calls refusals' (t.count + 1)) []

    lines_are : lines ≡ place_refusals f told p
    lines_are =
        rw (opened-is notices calls ids t g.held)
        (x.told place-fits told (date-is notices calls ids t g.held) (notices-are notices calls ids t g.held) ∙ refusals-own verdict f told p g.own)

    -- the rows of a place lie within the buffer
    pub place-within : r.length ≤ length out'
    place-within = x.within

    module _ (n m : ℕ) (w : HandedTo f notices p n m) (h : p < place_count f) where
      -- the rows of the next place come next of the rows printed
      pub next-rows : NextOf (deliver_text f notices) n (take r.length out')
      next-rows =
          rw (rows_are, w.rows)
          (next-part (deliver_text f notices) (length delivery_heading) (place_rows_text f told) p (place_count f) h rows-rest)

      -- the lines of the refused calls of the next place come next of what is told
      pub next-lines : NextOf (deliver_refusals f notices) m lines
      next-lines =
          rw (lines_are, w.told)
          (from_zero (deliver_refusals f notices) (length (told_parts p)) (place_refusals f told p)
          (next-part (deliver_refusals f notices) 0 (place_refusals f told) p (place_count f) h
          (next-first (deliver_refusals f notices) 0 (told_parts (place_count f)) (unknown_measures f told.notices) told-next)))

      -- after the rows and the refused calls of one more place, the first p + 1 places are handed out
      pub one_place : (n' m' : ℕ) → n' ≡ n + r.length → m' ≡ m + length lines → m' ≤ m + 419520 → HandedTo f notices (p + 1) n' m'
      one_place n' m' e k few =
          let long-rows : length (place_rows_text f told p) ≡ r.length = ap length (sym rows_are) ∙ length-take-le r.length out' x.within in
          record {
            rows = omega (arith, e, w.rows, parts_more (place_rows_text f told) p, long-rows);
            told = omega (arith, k, w.told, parts_more (place_refusals f told) p, ap length lines_are);
            rows_few = omega (arith, e, w.rows_few, x.within, x.out-long, long);
            told-few = omega (arith, few, w.told-few);
          }

  module _ (n m : ℕ) (w : HandedTo f notices (place_count f) n m) where
    -- after the last place all rows are handed out
    pub all-rows : n ≡ length (deliver_text f notices)
    all-rows = w.rows ∙ sym (length-append delivery_heading (row_parts (place_count f))) ∙ ap length (sym rows_whole)

    unknown-is : unknown_lines f calls ids t.count ≡ unknown_measures f told.notices
    unknown-is = unknown-told f calls ids t.count told.notices (notices-are notices calls ids t g.held)

    -- after the last place the measures of unknown ids come next of what is told
    pub next-unknowns : NextOf (deliver_refusals f notices) m (unknown_lines f calls ids t.count)
    next-unknowns =
        rw (unknown-is, w.told)
        (from_zero (deliver_refusals f notices) (length (told_parts (place_count f))) (unknown_measures f told.notices)
        (next-rest (deliver_refusals f notices) 0 (told_parts (place_count f)) (unknown_measures f told.notices) told-next))

    -- after the measures of unknown ids all that is told is handed out
    pub all_told : m + length (unknown_lines f calls ids t.count) ≡ length (deliver_refusals f notices)
    all_told =
        rw (unknown-is, w.told)
        (sym (length-append (told_parts (place_count f)) (unknown_measures f told.notices)) ∙ ap length (sym told-whole))
