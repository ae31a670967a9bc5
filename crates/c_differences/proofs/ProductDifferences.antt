-- The differences of a product: its rows are those at its places, and where its kind or table is not right, or there is no room, nothing is looked for.
-- Assumes nothing.
use mathlib.Core.Path.{◌≡◌, refl, ◌∙◌, sym, ap}
use mathlib.Core.Bool.{Bool, true, false, ◌&&◌, cond}
use mathlib.Core.List.{List, []}
use Prim.Native.Nat.{ℕ, ◌≤◌}
use lib.Dec.{eqb, leb}
use lib.ListN.{length, take}
use borrow.Author.Tests.{eq-eqb, ne_eqb, leb-true}
use Rattle.questions.proofs.Bools.{both, clash}
use Rattle.product.specs.declared.Kind.{Kind}
use Rattle.product.specs.declared.Product.{Product}
use Rattle.product.specs.Fields.{kind_right}
use Rattle.listing.specs.declared.Maturity.{Maturity}
use Rattle.listing.specs.Months.{places_of_kind}
use Rattle.table.specs.declared.Table.{Table}
use Rattle.table.specs.Table.{sound}
use Rattle.session_lines.specs.declared.Line.{Line}
use Rattle.session_lines.specs.CommandLines.{empty_line, fed}
use Rattle.delivery_differences.specs.Differences.{rows_at}
use Rattle.delivery_receipts.specs.Receipts.{Received}
use Rattle.delivery_products.specs.IdList.{id_in}
use Rattle.delivery_receipts.specs.Receiving.{Lists, received_to, rows_for, PlacesIn, first_unknown}
use Rattle.delivery_receipts.proofs.Gathering.{rows_are}
use Rattle.delivery_reports.specs.declared.ReportProgress.{ReportProgress}
use Rattle.delivery_reports.specs.Reports.{ReportLinesIn, unknown_text}
use Rattle.c_types.specs.declared.FlatProduct.{FlatProduct}
use Rattle.c_types.specs.Flat.{unflat_product, unflat_table}
use Rattle.c_delivery.specs.declared.FlatDelivered.{FlatDelivered}
use Rattle.c_differences.specs.declared.FoundLines.{FoundLines}
use Rattle.c_differences.specs.Found.{judgeable, listed_of, listed_count, room_for, no_lines, DifferencesIn}

-- the rows at a product's places are its own
pub own-rows : (kind : Kind) (id : List ℕ) (listed : List Maturity) (a : Lists) (rows : ℕ) (places after : List ℕ) (size from : ℕ)
    (out out' : List ℕ) (r : ReportProgress)
    → PlacesIn id a.ids rows places after size → rows ≤ 65536 → rows ≤ length places
    → ReportLinesIn kind id listed (rows_at a.keys a.days a.fulls a.numbers a.backs (take size after)) from out out' r
    → ReportLinesIn kind id listed (rows_for id (received_to a rows)) from out out' r
own-rows kind id listed a rows places after size from out out' r x s l y = rw (← rows_are id a rows, ← x.is s l) y

-- ---- what is asked before

module _ (p : FlatProduct) (d : FlatDelivered) where
  -- a product without a kind cannot be judged
  pub no_kind : kind_right p.kind ≡ false → false ≡ judgeable p d
  unfolding judgeable
  no_kind e = rw e refl

  -- a product with a kind and without a table can be judged
  pub no_table : kind_right p.kind ≡ true → (d.refusal ≡ 0 → ⊥) → true ≡ judgeable p d
  unfolding judgeable
  no_table e n = rw (e, ne_eqb d.refusal 0 n) refl

  -- a product with a kind and a table can be judged where the table is sound
  pub sound-table : kind_right p.kind ≡ true → d.refusal ≡ 0 → (t : Table) → t ≡ unflat_table d.table → (b : Bool) → b ≡ sound t → b ≡ judgeable p d
  unfolding judgeable
  sound-table e z t q b w = w ∙ ap sound q ∙ rw (e, eq-eqb d.refusal 0 z) refl

module _ (d : FlatDelivered) where
  -- a product without a table lists no maturity
  pub none-listed : (d.refusal ≡ 0 → ⊥) → 0 ≡ listed_count d
  unfolding listed_count
  none-listed n = rw (ne_eqb d.refusal 0 n) refl

  -- a product with a table lists as many maturities as its kind has places
  pub some-listed : d.refusal ≡ 0 → (q : Product) → q ≡ unflat_product d.table.product → (n : ℕ) → n ≡ places_of_kind q.kind → n ≡ listed_count d
  unfolding listed_count
  some-listed z q w n e = e ∙ ap (λ (x : Product). places_of_kind x.kind) w ∙ rw (eq-eqb d.refusal 0 z) refl

  listed-are : take (listed_count d) d.table.maturities ≡ listed_of d
  unfolding listed_count listed_of
  listed-are = go (eqb d.refusal 0)
    where
      go : (b : Bool) → take (cond b (places_of_kind (unflat_product d.table.product).kind) 0) d.table.maturities ≡ cond b
          (take (places_of_kind (unflat_product d.table.product).kind) d.table.maturities) []
      go true = refl
      go false = refl

-- where there is room for the places of the rows, the rows are at most 65,536 and at most as many as the list is long
pub room-parts : (rows places : ℕ) → room_for rows places ≡ true → (rows ≤ 65536) × (rows ≤ places)
unfolding room_for
room-parts rows places e =
    let a : (leb rows 65536 ≡ true) × (leb rows places ≡ true) = both (leb rows 65536) (leb rows places) e in
    (leb-true rows 65536 a.0, leb-true rows places a.1)

-- ---- the whole call

module _ (p : FlatProduct) (d : FlatDelivered) (received : List Received) (rows from : ℕ) (places before : List ℕ) where
  -- where the product cannot be judged, the answer is 10 and the buffer is untouched
  pub not-judged : judgeable p d ≡ false → (r : FoundLines) → r ≡ no_lines 10 → DifferencesIn p d received rows from places places before before r
  not-judged e r q =
      record {
        refusal = ap (λ (x : FoundLines). x.refusal) q ∙ sym (ap (λ (b : Bool). cond b 0 10) e);
        fits = ap (λ (x : FoundLines). x.fits) q ∙ sym (ap (λ (b : Bool). b && room_for rows (length places)) e);
        found = λ f. clash f (ap (λ (x : FoundLines). x.fits) q);
        idle = λ f. (rw q refl, refl);
        places-long = refl;
        out-long = refl;
      }

  module _ (y : judgeable p d ≡ true) where
    -- where there is no room for the places of the rows, nothing is looked for and the buffer is untouched
    pub not-fits : room_for rows (length places) ≡ false → (r : FoundLines) → r ≡ no_lines 0
        → DifferencesIn p d received rows from places places before before r
    not-fits e r q =
        record {
          refusal = ap (λ (x : FoundLines). x.refusal) q ∙ sym (ap (λ (b : Bool). cond b 0 10) y);
          fits = ap (λ (x : FoundLines). x.fits) q ∙ sym (ap (λ (b : Bool). b && room_for rows (length places)) y ∙ e);
          found = λ f. clash f (ap (λ (x : FoundLines). x.fits) q);
          idle = λ f. (rw q refl, refl);
          places-long = refl;
          out-long = refl;
        }

    -- where the product can be judged and there is room, the lines of its differences stand in the buffer
    pub all_found : room_for rows (length places) ≡ true → (q : Product) → q ≡ unflat_product p → (n : ℕ) → n ≡ listed_count d
        → (r : ReportProgress) (places' after : List ℕ)
        → ReportLinesIn q.kind q.id (take n d.table.maturities) (rows_for q.id received) from before after r → length places' ≡ length places
        → DifferencesIn p d received rows from places places' before after
        (record { refusal = 0; fits = true; next = r.next; lines = r.lines; length = r.length })
    all_found e q w n k r places' after x l =
        record {
          refusal = sym (ap (λ (b : Bool). cond b 0 10) y);
          fits = sym (ap (λ (b : Bool). b && room_for rows (length places)) y ∙ e);
          found = λ f. rw (← listed-are d, ← k, ← w) x;
          idle = λ f. clash refl f;
          places-long = l;
          out-long = x.long;
        }

-- ---- ids that are not in the file

module _ (f ids : List ℕ) (i : ℕ) where
  -- a row that is not the first of an unknown id has no line
  pub none-unknown : first_unknown f ids i ≡ false → empty_line ≡ fed empty_line (cond (first_unknown f ids i) (unknown_text (id_in ids i)) [])
  unfolding fed
  none-unknown e = rw e refl

  -- a row that is the first of an unknown id has the line of that id
  pub one-unknown : first_unknown f ids i ≡ true → (id : List ℕ) → id ≡ id_in ids i → (l : Line) → l ≡ fed empty_line (unknown_text id)
      → l ≡ fed empty_line (cond (first_unknown f ids i) (unknown_text (id_in ids i)) [])
  one-unknown e id q l w = w ∙ ap (λ (x : List ℕ). fed empty_line (unknown_text x)) q ∙ rw e refl
