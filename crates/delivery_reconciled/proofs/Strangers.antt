-- The lines of ids that are not in the file, one row after the other in a lent buffer.
-- Assumes nothing.
use mathlib.Core.Path.{◌≡◌, refl, sym, ap, ◌∙◌}
use mathlib.Core.Bool.{Bool, true, false, cond, and-false}
use mathlib.Core.List.{List, [], ◌∷◌, ◌++◌, append-nil, append_assoc}
use mathlib.Core.Logic.{◌⊎◌, inl, inr}
use Prim.Native.Nat.{ℕ, ◌+◌, ◌-◌, ◌≤◌, ◌<◌}
use native.Mathlib.Numerals.{add-one}
use native.Mathlib.Omega.{arith}
use lib.Dec.{eqb, leb, ltb}
use lib.ListN.{length, take, drop, length-append}
use lib.Seq.{drop-drop, paste, length-paste, take-paste, drop-paste}
use borrow.Author.Tests.{lt-ltb, le-ltb, ltb-true, le-leb, lt-leb, leb-true, ne_eqb}
use Rattle.questions.proofs.Bools.{both, and_both, clash, lt-or-ge}
use Rattle.session_lines.specs.declared.Line.{Line}
use Rattle.session_lines.specs.CommandLines.{empty_line}
use Rattle.file_text_print.specs.Contents.{LineWith, id_text}
use Rattle.file_text_print.proofs.TextLengths.{id-short}
use Rattle.file_text_print.proofs.Building.{nothing}
use Rattle.delivery_parts.specs.PlaceParts.{parts_text}
use Rattle.delivery_reports.specs.declared.ReportProgress.{ReportProgress}
use Rattle.delivery_reports.specs.Reports.{unknown_text}
use Rattle.delivery_products.specs.IdList.{id_in}
use Rattle.delivery_receipts.specs.Receiving.{first_unknown}
use Rattle.delivery_inputs.proofs.ShortLines.{line-room, line-long, line-fits, line-is}
use Rattle.delivery_reconciled.specs.Reconciled.{sum_to}
use Rattle.delivery_reconciled.specs.Standings.{id_row_text, row_count, another_stranger, StrangersIn}

-- ---- the line of a row

unknown-long : (id : List ℕ) → length (unknown_text id) ≡ length (id_text id) + 12
unfolding unknown_text
unknown-long id = length-append (id_text id) (44 ∷ 44 ∷ 112 ∷ 114 ∷ 111 ∷ 100 ∷ 117 ∷ 99 ∷ 116 ∷ 44 ∷ 44 ∷ 10 ∷ [])

module _ (f ids : List ℕ) (i : ℕ) where
  -- the line of a row whose id is not in the file has fewer than 64 bytes
  pub row-short : length (id_row_text f ids i) < 64
  unfolding id_row_text
  row-short = go (first_unknown f ids i)
    where
      go : (b : Bool) → length (cond b (unknown_text (id_in ids i)) []) < 64
      go true = omega (arith, unknown-long (id_in ids i), id-short (id_in ids i))
      go false = omega arith

  row-counted : ◌≡◌ {A = ℕ} (cond (eqb (length (id_row_text f ids i)) 0) 0 1) (row_count f ids i)
  unfolding id_row_text row_count
  row-counted = go (first_unknown f ids i)
    where
      go : (b : Bool) → ◌≡◌ {A = ℕ} (cond (eqb (length (cond b (unknown_text (id_in ids i)) [])) 0) 0 1) (cond b 1 0)
      go true = rw (ne_eqb (length (unknown_text (id_in ids i))) 0 (λ z. omega (arith, unknown-long (id_in ids i)))) refl
      go false = refl

  module _ (r : Line) where
    -- a row that is not the first of an unknown id has no line
    pub row-none : first_unknown f ids i ≡ false → r ≡ empty_line → LineWith empty_line (id_row_text f ids i) r
    unfolding id_row_text
    row-none n e = rw n (nothing r e)

    -- the first row of an id that is not in the file has the line of that id
    pub row-some : first_unknown f ids i ≡ true → (id : List ℕ) → id ≡ id_in ids i → LineWith empty_line (unknown_text id) r
        → LineWith empty_line (id_row_text f ids i) r
    unfolding id_row_text
    row-some y id e l = rw (y, ← e) l

-- ---- whether there is another

module _ (next n : ℕ) (out : List ℕ) (k : ℕ) where
  -- there is no other row to print where no row is left
  pub no_more : n ≤ next → false ≡ another_stranger next n out k
  unfolding another_stranger
  no_more h = rw (le-ltb next n h) refl

  -- there is no other row to print in a buffer of fewer than 64 bytes
  pub too_short : length out < 64 → false ≡ another_stranger next n out k
  unfolding another_stranger
  too_short h = rw (lt-leb (k + 64) (length out) (omega arith)) (sym (and-false (ltb next n)))

  -- where a row is left and the buffer has 64 bytes, there is another row to print exactly where 64 bytes are free
  pub room-is : next < n → 64 ≤ length out → leb k (length out - 64) ≡ another_stranger next n out k
  unfolding another_stranger
  room-is h g = rw (lt-ltb next n h) (go (lt-or-ge (length out) (k + 64)))
    where
      go : (length out < k + 64) ⊎ (k + 64 ≤ length out) → leb k (length out - 64) ≡ leb (k + 64) (length out)
      go (inl l) = lt-leb k (length out - 64) (omega arith) ∙ sym (lt-leb (k + 64) (length out) l)
      go (inr l) = le-leb k (length out - 64) (omega arith) ∙ sym (le-leb (k + 64) (length out) l)

  -- where there is another row to print, a row is left and 64 bytes are free
  pub has_more : {r : Bool} → r ≡ another_stranger next n out k → r ≡ true → (next < n) × (k + 64 ≤ length out)
  unfolding another_stranger
  has_more e t =
      let b : (ltb next n ≡ true) × (leb (k + 64) (length out) ≡ true) = both (ltb next n) (leb (k + 64) (length out)) (sym e ∙ t) in
      (ltb-true next n b.0, leb-true (k + 64) (length out) b.1)

  more-is : next < n → k + 64 ≤ length out → another_stranger next n out k ≡ true
  unfolding another_stranger
  more-is h g = and_both (lt-ltb next n h) (le-leb (k + 64) (length out) g)

-- ---- row by row

part-more : (part : ℕ → List ℕ) (n : ℕ) → parts_text part (n + 1) ≡ parts_text part n ++ part n
unfolding parts_text
part-more part n = rw (add-one n) refl

sum_more : (number : ℕ → ℕ) (n : ℕ) → sum_to number (n + 1) ≡ sum_to number n + number n
unfolding sum_to
sum_more number n = rw (add-one n) refl

pub record Printing (f ids : List ℕ) (n from : ℕ) (before : List ℕ) (next k lines : ℕ) (out : List ℕ) : Type 0 where
  -- the lines of the rows before the first and what was written are the lines of the rows before the next
  pub is : parts_text (id_row_text f ids) next ≡ parts_text (id_row_text f ids) from ++ take k out
  -- the lines of the rows before the next are as many as those before the first and those written
  pub counted : sum_to (row_count f ids) next ≡ sum_to (row_count f ids) from + lines
  -- what was written fits the buffer
  pub fits : k ≤ length out
  -- after what was written the buffer is unchanged
  pub unchanged : drop k out ≡ drop k before
  -- the buffer keeps its length
  pub long : length out ≡ length before
  -- the lines written are at most as many as the rows passed
  pub few : lines + from ≤ next
  -- nothing has been done yet, or the next row is past the first and not past the last
  pub on : ((next ≡ from) × ((k ≡ 0) × ((lines ≡ 0) × (out ≡ before)))) ⊎ ((from < next) × (next ≤ n))

module _ (f ids : List ℕ) (n from : ℕ) (before : List ℕ) where
  -- before the first row nothing is written
  pub begins : Printing f ids n from before from 0 0 before
  begins =
      record {
        is = sym (append-nil (parts_text (id_row_text f ids) from));
        counted = omega arith;
        fits = omega arith;
        unchanged = refl;
        long = refl;
        few = omega arith;
        on = inl (refl, (refl, (refl, refl)));
      }

  module _ (next k lines : ℕ) (out : List ℕ) (g : Printing f ids n from before next k lines out) {b : Bool} (s : b ≡ another_stranger next n out k) where
    -- where there is another row to print, its line, if any, is written after those before it
    pub goes : b ≡ true → (l : Line) → LineWith empty_line (id_row_text f ids next) l → (r : ℕ) (after : List ℕ)
        → r ≡ k + l.length → after ≡ paste out k l.bytes l.length → (c : ℕ) → c ≡ cond (eqb l.length 0) 0 1
        → Printing f ids n from before (next + 1) r (lines + c) after
    goes t l e r after p a c q =
        let m : (next < n) × (k + 64 ≤ length out) = has_more next n out k s t in
        let room : length l.bytes ≡ 64 = line-room (id_row_text f ids next) (row-short f ids next) l e in
        let w : l.length ≤ 64 = line-fits (id_row_text f ids next) (row-short f ids next) l e in
        let x : take r after ≡ take k out ++ id_row_text f ids next =
        rw (p, a) (take-paste out k l.bytes l.length g.fits (omega (arith, room, w))
        ∙ ap (λ (y : List ℕ). take k out ++ y) (line-is (id_row_text f ids next) (row-short f ids next) l e)) in
        let len : length after ≡ length out = rw a (length-paste out k l.bytes l.length (omega (arith, w, m.1)) (omega (arith, room, w))) in
        let one : c ≡ row_count f ids next =
        q ∙ ap (λ (y : ℕ). cond (eqb y 0) 0 1) (line-long (id_row_text f ids next) (row-short f ids next) l e) ∙ row-counted f ids next in
        let small : c ≤ 1 = rw q (bit (eqb l.length 0)) in
        record {
          is = part-more (id_row_text f ids) next ∙ ap (λ (y : List ℕ). y ++ id_row_text f ids next) g.is
              ∙ append_assoc (parts_text (id_row_text f ids) from) (take k out) (id_row_text f ids next)
              ∙ ap (λ (y : List ℕ). parts_text (id_row_text f ids) from ++ y) (sym x);
          counted = sum_more (row_count f ids) next ∙ omega (arith, g.counted, one);
          fits = omega (arith, p, w, m.1, len);
          unchanged = rw (p, a)
              (drop-paste out k l.bytes l.length g.fits (omega (arith, room, w))
              ∙ sym (drop-drop l.length k out) ∙ ap (drop l.length) g.unchanged ∙ drop-drop l.length k before);
          long = len ∙ g.long;
          few = omega (arith, g.few, small);
          on = inr (omega (arith, g.few), omega (arith, m.0));
        }
      where
        bit : (b : Bool) → cond b 0 1 ≤ 1
        bit true = omega arith
        bit false = omega arith

    -- where there is no other row to print, the lines of the rows from the first to the next stand in the buffer
    pub ends : b ≡ false → StrangersIn f ids n from before out (record { next = next; length = k; lines = lines })
    ends t =
        record {
          is = g.is;
          lines = g.counted;
          fits = g.fits;
          unchanged = g.unchanged;
          long = g.long;
          moves = λ h l. moved g.on h l;
          within = λ h. inside g.on h;
          idle = λ h. idled g.on h;
        }
      where
        moved : ((next ≡ from) × ((k ≡ 0) × ((lines ≡ 0) × (out ≡ before)))) ⊎ ((from < next) × (next ≤ n)) → 64 ≤ length before → from < n → from < next
        moved (inl d) h l = clash (s ∙ more-is next n out k (omega (arith, d.0)) (omega (arith, d.1.0, g.long))) t
        moved (inr d) h l = d.0

        inside : ((next ≡ from) × ((k ≡ 0) × ((lines ≡ 0) × (out ≡ before)))) ⊎ ((from < next) × (next ≤ n)) → from ≤ n → next ≤ n
        inside (inl d) h = omega (arith, d.0)
        inside (inr d) h = d.1

        idled : ((next ≡ from) × ((k ≡ 0) × ((lines ≡ 0) × (out ≡ before)))) ⊎ ((from < next) × (next ≤ n)) → n ≤ from
            → (◌≡◌ {A = ReportProgress} (record { next = next; length = k; lines = lines }) (record { next = from; length = 0; lines = 0 })) × (out ≡ before)
        idled (inl d) h = (rw (d.0, d.1.0, d.1.1.0) refl, d.1.1.1)
        idled (inr d) h = absurd (omega (arith, d.0, d.1))
