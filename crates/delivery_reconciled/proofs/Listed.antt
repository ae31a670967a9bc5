-- What a place lists is the definition's: nothing without a record or a table, else what its table lists.
-- Assumes nothing.
use mathlib.Core.Path.{◌≡◌, refl, ◌∙◌, sym, ap}
use mathlib.Core.Bool.{true, false}
use mathlib.Core.List.{List, [], map}
use Prim.Native.Nat.{ℕ, ◌≤◌, ◌<◌}
use lib.ListN.{length, take}
use borrow.Author.Tests.{eq-eqb, ne_eqb, le-leb, lt-leb}
use Rattle.questions.proofs.Bools.{clash}
use Rattle.product.specs.declared.Kind.{Kind}
use Rattle.listing.specs.Months.{places_of_kind}
use Rattle.file_ids.specs.Ids.{is_record, id_at}
use Rattle.table.specs.declared.Outcome.{Outcome}
use Rattle.table.specs.Table.{listed_in}
use Rattle.history.specs.History.{table_run}
use Rattle.delivery_notices.specs.Notices.{NoticesTold}
use Rattle.delivery_notices.specs.NoticeLists.{notices_to, notice_held}
use Rattle.delivery_tables.specs.declared.Delivered.{Delivered}
use Rattle.delivery_tables.specs.Tables.{calls_for, NoticesMade, Delivers}
use Rattle.delivery_tables.proofs.CallsHeld.{run-same}
use Rattle.delivery_parts.proofs.Wholes.{notices-length}
use Rattle.delivery_refusals.specs.Refusals.{refusal_told}
use Rattle.session_lines.specs.declared.Line.{Line}
use Rattle.session_lines.specs.CommandLines.{empty_line}
use Rattle.file_text_print.specs.Contents.{LineWith}
use Rattle.file_text_print.proofs.Building.{nothing}
use Rattle.delivery_reconciled.specs.declared.PlaceListed.{PlaceListed}
use Rattle.delivery_reconciled.specs.Reconciled.{kind_at, listed_at, opening_text}
use Rattle.delivery_reconciled.specs.Standings.{nothing_listed, ListedIn}

module _ (opening : List ℕ → ℕ → Outcome) (f : List ℕ) (t : NoticesTold) (p : ℕ) where
  lists-none : ((opening (id_at f p) t.date).refusal ≡ 0 → ⊥) → [] ≡ listed_at opening f t p
  unfolding listed_at
  lists-none n = rw (ne_eqb (opening (id_at f p) t.date).refusal 0 n) refl

  lists-some : (opening (id_at f p) t.date).refusal ≡ 0
      → listed_in (table_run (opening (id_at f p) t.date).table (calls_for (id_at f p) t.notices)) ≡ listed_at opening f t p
  unfolding listed_at
  lists-some z = rw (eq-eqb (opening (id_at f p) t.date).refusal 0 z) refl

module _ (opening : List ℕ → ℕ → Outcome) (f : List ℕ) (p date count : ℕ) (calls ids refusals : List ℕ)
    (id : List ℕ) (i : id ≡ id_at f p) (kind : Kind) (k : kind ≡ kind_at f p) where
  -- without room for the refusals a place lists nothing
  pub listed-idle : length refusals < count → (r : PlaceListed) → r ≡ nothing_listed false false id kind
      → ListedIn opening f p date count calls ids refusals refusals r
  listed-idle h r e =
      record {
        fits = rw e (sym (lt-leb count (length refusals) h));
        holds = λ y. clash y (rw e refl);
        id = rw e i;
        kind = rw e k;
        listed = λ y. clash y (rw e refl);
        long = refl;
      }

  module _ (h : count ≤ length refusals) where
    -- a place without a record lists nothing
    pub listed-empty : is_record f p ≡ false → (r : PlaceListed) → r ≡ nothing_listed true false id kind
        → ListedIn opening f p date count calls ids refusals refusals r
    listed-empty n r e =
        record {
          fits = rw e (sym (le-leb count (length refusals) h));
          holds = λ y. rw e (sym n);
          id = rw e i;
          kind = rw e k;
          listed = λ y z. clash z (rw e refl);
          long = refl;
        }

    module _ (y : is_record f p ≡ true) (refusals' : List ℕ) (d : Delivered)
        (m : Delivers opening id date (notices_to calls ids count) refusals refusals' d) where
      number : (t : NoticesTold) → date ≡ t.date → d.refusal ≡ (opening (id_at f p) t.date).refusal
      number t e = m.refusal ∙ rw (i, e) refl

      -- a place whose product has a refused opening lists nothing
      pub listed-refused : (d.refusal ≡ 0 → ⊥) → (r : PlaceListed) → r ≡ nothing_listed true true id kind
          → ListedIn opening f p date count calls ids refusals refusals' r
      listed-refused n r e =
          record {
            fits = rw e (sym (le-leb count (length refusals) h));
            holds = λ z. rw e (sym y);
            id = rw e i;
            kind = rw e k;
            listed = λ z w t g s. rw e (lists-none opening f t p (λ q. n (number t g ∙ q)));
            long = m.long;
          }

      -- a place whose product is opened lists the maturities of its table
      pub listed-table : d.refusal ≡ 0 → (n : ℕ) → n ≡ places_of_kind d.table.product.kind
          → ListedIn opening f p date count calls ids refusals refusals'
          (record { fits = true; holds = true; id = id; kind = kind; listed = n; maturities = d.table.maturities })
      listed-table z n e =
          record {
            fits = sym (le-leb count (length refusals) h);
            holds = λ w. sym y;
            id = i;
            kind = k;
            listed = λ w v t g s.
                ap (λ (x : ℕ). take x d.table.maturities) e ∙ ap listed_in (table_is t g s)
                ∙ lists-some opening f t p (sym (number t g) ∙ z);
            long = m.long;
          }
        where
          made : NoticesMade (opening id date).table id (notices_to calls ids count) refusals refusals' d.table
          made = m.made (m.fits ∙ rw (notices-length calls ids count) (le-leb count (length refusals) h))

          table_is : (t : NoticesTold) → date ≡ t.date → notices_to calls ids count ≡ map notice_held t.notices
              → d.table ≡ table_run (opening (id_at f p) t.date).table (calls_for (id_at f p) t.notices)
          table_is t g s = made.table ∙ rw (s, i, g) (run-same (id_at f p) (opening (id_at f p) t.date).table t.notices)

-- ---- a refused opening

module _ (opening : List ℕ → ℕ → Outcome) (f : List ℕ) (opened date p : ℕ) (r : Line) where
  -- of a place without a record no refused opening is told
  pub opening-none : is_record f p ≡ false → r ≡ empty_line → LineWith empty_line (opening_text opening f opened date p) r
  unfolding opening_text
  opening-none n e = rw n (nothing r e)

  -- of a place with a record the refusal of its opening is told, where there is one
  pub opening-some : is_record f p ≡ true → (id : List ℕ) → id ≡ id_at f p → (o : Outcome) → o ≡ opening id date
      → LineWith empty_line (refusal_told opened o.refusal id) r → LineWith empty_line (opening_text opening f opened date p) r
  unfolding opening_text
  opening-some y id i o q l = rw (y, ← i, ← q) l
