-- The lines of a place are those of its product's keys, and place after place they are those of all products.
-- Assumes nothing.
use mathlib.Core.Path.{◌≡◌, refl, sym, ap, ◌∙◌}
use mathlib.Core.Bool.{true, false}
use mathlib.Core.List.{List, []}
use Prim.Native.Nat.{ℕ, ◌+◌, ◌≤◌}
use native.Mathlib.Numerals.{add-one}
use native.Mathlib.Omega.{arith}
use lib.ListN.{length, take, length-append}
use borrow.Author.Tests.{le-leb}
use Rattle.streams.specs.declared.output.Sent.{Sent}
use Rattle.file_ids.specs.Ids.{is_record, id_at}
use Rattle.table.specs.declared.Outcome.{Outcome}
use Rattle.delivery_notices.specs.Notices.{NoticesTold}
use Rattle.delivery_parts.specs.PlaceParts.{parts_text}
use Rattle.delivery_differences.specs.Differences.{differing, rows_at}
use Rattle.delivery_reports.specs.Reports.{keys_text, differing_from, report_from}
use Rattle.delivery_receipts.specs.Receipts.{Received}
use Rattle.delivery_receipts.specs.Receiving.{Lists, received_to, rows_for, PlacesIn}
use Rattle.delivery_receipts.proofs.Gathering.{rows_are}
use Rattle.delivery_reconciled.specs.declared.PlaceListed.{PlaceListed}
use Rattle.delivery_reconciled.specs.Reconciled.{sum_to, kind_at, listed_at, keys_at, place_text}
use Rattle.delivery_reconciled.specs.Standings.{ListedIn}
use Rattle.delivery_judging.specs.declared.LinesPrinted.{LinesPrinted}
use Rattle.delivery_judging.specs.LinesOut.{KeysOut, PlaceLists, Held, PlaceOut, PlacesOut}
use Rattle.delivery_judging.proofs.KeysWritten.{keys-few}

-- a buffer of 6,554 bytes has room for the refusals
pub listed-is : (opening : List ℕ → ℕ → Outcome) (f : List ℕ) (p date count : ℕ) (calls ids refusals refusals' : List ℕ) (r : PlaceListed)
    → length refusals ≡ 6554
    → ListedIn opening f p date count calls ids refusals refusals' r → PlaceLists opening f p date count calls ids r
listed-is opening f p date count calls ids refusals refusals' r n x =
    record {
      holds = λ h. x.holds (fits h);
      id = x.id;
      kind = x.kind;
      listed = λ h y t d e. x.listed (fits h) y t d e;
    }
  where
    fits : count ≤ 6554 → r.fits ≡ true
    fits h = x.fits ∙ le-leb count (length refusals) (omega arith)

module _ (opening : List ℕ → ℕ → Outcome) (f : List ℕ) (t : NoticesTold) (rows : List Received) (p : ℕ) where
  no_keys : is_record f p ≡ false → keys_at opening f t rows p ≡ []
  unfolding keys_at
  no_keys e = rw e refl

  no_text : is_record f p ≡ false → place_text opening f t rows p ≡ []
  unfolding place_text keys_text
  no_text e = rw (no_keys e) refl

  all-keys : is_record f p ≡ true → keys_at opening f t rows p ≡ differing (listed_at opening f t p) (rows_for (id_at f p) rows) 65536 0
  unfolding keys_at
  all-keys e = rw e refl

  all-text : is_record f p ≡ true → place_text opening f t rows p ≡ report_from (kind_at f p) (id_at f p) (listed_at opening f t p) (rows_for (id_at f p) rows) 0
  unfolding place_text report_from
  all-text e = ap (keys_text (kind_at f p) (id_at f p) (listed_at opening f t p) (rows_for (id_at f p) rows)) (all-keys e)

module _ (opening : List ℕ → ℕ → Outcome) (f : List ℕ) (date count : ℕ) (calls ids : List ℕ) (a : Lists) (rows places p : ℕ) (s : Sent)
    (l : PlaceListed) (x : PlaceLists opening f p date count calls ids l) where
  -- a place that holds no record
  pub place_none : l.holds ≡ false → PlaceOut opening f date count calls ids a rows places p s (record { sent = s; lines = 0 })
  place_none n =
      record {
        text = λ t h o. (o, omega (arith, ap length (no_text opening f t (received_to a rows) p (sym (x.holds h.few) ∙ n))));
        lines = λ t h. ap length (sym (no_keys opening f t (received_to a rows) p (sym (x.holds h.few) ∙ n)));
        few = omega arith;
      }

  -- a place that holds one
  module _ (y : l.holds ≡ true) (before after : List ℕ) (b : length before ≡ places) (size : ℕ) (q : PlacesIn l.id a.ids rows before after size)
      (r : LinesPrinted)
      (k : KeysOut l.kind l.id (take l.listed l.maturities)
      (rows_at a.keys a.days a.fulls a.numbers a.backs (take size after)) s r) where
    module _ (t : NoticesTold) (h : Held date count calls ids rows places t) where
      own : rows_at a.keys a.days a.fulls a.numbers a.backs (take size after) ≡ rows_for (id_at f p) (received_to a rows)
      own =
          ap (rows_at a.keys a.days a.fulls a.numbers a.backs) (q.is h.most (omega (arith, h.room)))
          ∙ rows_are l.id a rows ∙ ap (λ (i : List ℕ). rows_for i (received_to a rows)) x.id

      listed : take l.listed l.maturities ≡ listed_at opening f t p
      listed = x.listed h.few y t h.dated h.notices

      there : is_record f p ≡ true
      there = sym (x.holds h.few) ∙ y

      text-is : report_from l.kind l.id (take l.listed l.maturities)
          (rows_at a.keys a.days a.fulls a.numbers a.backs (take size after)) 0
          ≡ place_text opening f t (received_to a rows) p
      text-is = rw (own, listed, x.kind, x.id) (sym (all-text opening f t (received_to a rows) p there))

      keys-are : differing_from (take l.listed l.maturities) (rows_at a.keys a.days a.fulls a.numbers a.backs (take size after)) 0
          ≡ keys_at opening f t (received_to a rows) p
      keys-are = rw (own, listed) (sym (all-keys opening f t (received_to a rows) p there))

    -- the lines of the product at a place that holds a record are those of its table and its rows
    pub place-some : PlaceOut opening f date count calls ids a rows places p s r
    place-some =
        record {
          text = λ t h o. ((k.text o).0, omega (arith, (k.text o).1, ap length (text-is t h)));
          lines = λ t h. k.lines ∙ ap length (keys-are t h);
          few = omega (
            arith,
            k.lines,
            keys-few (take l.listed l.maturities)
                (rows_at a.keys a.days a.fulls a.numbers a.backs (take size after)) 65536 0,
          );
        }

-- ---- place after place

parts_more : (part : ℕ → List ℕ) (n : ℕ) → length (parts_text part (n + 1)) ≡ length (parts_text part n) + length (part n)
unfolding parts_text
parts_more part n = rw (add-one n) (length-append (parts_text part n) (part n))

sum_more : (number : ℕ → ℕ) (n : ℕ) → sum_to number (n + 1) ≡ sum_to number n + number n
unfolding sum_to
sum_more number n = rw (add-one n) refl

no-parts : (part : ℕ → List ℕ) → length (parts_text part 0) ≡ 0
unfolding parts_text
no-parts part = refl

no-sum : (number : ℕ → ℕ) → 0 ≡ sum_to number 0
unfolding sum_to
no-sum number = refl

module _ (opening : List ℕ → ℕ → Outcome) (f : List ℕ) (date count : ℕ) (calls ids : List ℕ) (a : Lists) (rows places : ℕ) (s : Sent) where
  -- of no places nothing is written
  pub places-none : PlacesOut opening f date count calls ids a rows places 0 s (record { sent = s; lines = 0 })
  places-none =
      record {
        text = λ t h o. (o, omega (arith, no-parts (place_text opening f t (received_to a rows))));
        lines = λ t h. no-sum (λ p. length (keys_at opening f t (received_to a rows) p));
        few = omega arith;
      }

  -- the lines of the first places and those of the next place are the lines of one place more
  pub places-more : (p : ℕ) (so_far : Sent) (lines : ℕ) → PlacesOut opening f date count calls ids a rows places p s (record { sent = so_far; lines = lines })
      → (r : LinesPrinted) → PlaceOut opening f date count calls ids a rows places p so_far r
      → PlacesOut opening f date count calls ids a rows places (p + 1) s (record { sent = r.sent; lines = lines + r.lines })
  places-more p so_far lines g r x =
      record {
        text = λ t h o.
            let w = x.text t h o in
            let v = g.text t h w.0 in
            (v.0, omega (arith, w.1, v.1, parts_more (place_text opening f t (received_to a rows)) p));
        lines = λ t h.
            let e : lines ≡ sum_to (λ q. length (keys_at opening f t (received_to a rows) q)) p = g.lines t h in
            let n : r.lines ≡ length (keys_at opening f t (received_to a rows) p) = x.lines t h in
            rw (e, n) (sym (sum_more (λ q. length (keys_at opening f t (received_to a rows) q)) p));
        few = omega (arith, g.few, x.few);
      }

  -- what is said of the first p places is said of the first n where p is n
  pub places-at : (p n : ℕ) → p ≡ n → (r : LinesPrinted) → PlacesOut opening f date count calls ids a rows places p s r
      → PlacesOut opening f date count calls ids a rows places n s r
  places-at p n e r x = rw (← e) x

-- what is said of a place with room for m row places is said with room for n where m is n
pub place_at : (opening : List ℕ → ℕ → Outcome) (f : List ℕ) (date count : ℕ) (calls ids : List ℕ) (a : Lists) (rows m n : ℕ) → m ≡ n
    → (p : ℕ) (s : Sent) (r : LinesPrinted)
    → PlaceOut opening f date count calls ids a rows m p s r → PlaceOut opening f date count calls ids a rows n p s r
place_at opening f date count calls ids a rows m n e p s r x = rw (← e) x
