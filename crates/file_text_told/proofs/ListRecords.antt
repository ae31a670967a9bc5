-- A product that is not at fault for 7 or 8 keeps the records right, or their ids rising.
-- Assumes nothing.
use mathlib.Core.Path.{◌≡◌, refl, ap, ◌∙◌}
use mathlib.Core.Bool.{Bool, true, false, ◌||◌, cond}
use mathlib.Core.List.{List, ◌++◌}
use mathlib.Core.Logic.{◌⊎◌, inl, inr}
use Prim.Native.Nat.{ℕ, ◌+◌, ◌-◌, ◌*◌, ◌/◌, ◌%◌, ◌≤◌, ◌<◌}
use native.Mathlib.Omega.{arith}
use lib.Dec.{eqb, leb}
use lib.ListN.{length, take, drop, length-append, length-drop}
use lib.Seq.{take_all, take-append-le, drop-append-le, drop-append_seam}
use borrow.Author.Tests.{eqb-true, leb-true, leb-false, not-false}
use Rattle.questions.proofs.Bools.{lt-or-ge}
use Rattle.questions.proofs.Search.{every_more, every-at, every-all}
use Rattle.calendar.specs.declared.Calendar.{Calendar}
use Rattle.file_records.specs.Records.{four_bytes, record_right}
use Rattle.file_ids.specs.Ids.{id_rises}
use Rattle.file_draft.specs.Drafts.{list_record, list_right, list_id, list_rises}
use Rattle.file_text_lines.specs.declared.Entry.{Entry}
use Rattle.file_text_faults.specs.Faults.{names_wrong, names_earlier, at_fault, id_after}
use Rattle.file_text_read.specs.Lists.{calendar_after_entry, with_record, records_after}
use Rattle.file_text_told.proofs.Faultless.{Keeps}

module _ (records one : List ℕ) (whole : length records % 32 ≡ 0) (l : length one ≡ 32) where
  more-whole : length (records ++ one) % 32 ≡ 0
  more-whole = omega (arith, length-append records one, l, whole)

  more-count : length (records ++ one) / 32 ≡ length records / 32 + 1
  more-count = omega (arith, length-append records one, l, whole)

  earlier : (i : ℕ) → i < length records / 32 → list_record (records ++ one) i ≡ list_record records i
  unfolding list_record
  earlier i h =
      ap (take 32) (drop-append-le (32 * i) records one (omega arith))
      ∙ take-append-le 32 (drop (32 * i) records) one (omega (arith, length-drop (32 * i) records))

  latest : list_record (records ++ one) (length records / 32) ≡ one
  unfolding list_record
  latest =
      let e : 32 * (length records / 32) ≡ length records = omega arith in
      rw (e, drop-append_seam records one) (take_all 32 one (omega (arith, l)))

  right-more : list_right records ≡ true → record_right one ≡ true → list_right (records ++ one) ≡ true
  unfolding list_right
  right-more r o =
      rw more-count
      (every_more (λ i. record_right (list_record (records ++ one) i)) (length records / 32)
      (every-all (λ i. record_right (list_record (records ++ one) i)) (length records / 32)
      (λ i h. ap record_right (earlier i h) ∙ every-at (λ k. record_right (list_record records k)) (length records / 32) i r h))
      (ap record_right latest ∙ o))

  id-latest : list_id (records ++ one) (length records / 32) ≡ four_bytes one 0
  unfolding list_id
  id-latest = ap (λ (r : List ℕ). four_bytes r 0) latest

  id-earlier : (i : ℕ) → i < length records / 32 → list_id (records ++ one) i ≡ list_id records i
  unfolding list_id
  id-earlier i h = ap (λ (r : List ℕ). four_bytes r 0) (earlier i h)

  -- the id of a record is less than the next one's
  abbrev pair_at : ℕ → Bool
  pair_at i = id_rises (list_id (records ++ one) i) (list_id (records ++ one) (i + 1))

  rises-more : list_rises records ≡ true → (1 ≤ length records / 32 → id_rises (list_id records (length records / 32 - 1)) (four_bytes one 0) ≡ true)
      → list_rises (records ++ one) ≡ true
  unfolding list_rises
  rises-more r o =
      let q : length (records ++ one) / 32 - 1 ≡ length records / 32 = omega (arith, more-count) in
      rw q (every-all (λ i. pair_at i) (length records / 32) (λ i h. each i h (lt-or-ge (i + 1) (length records / 32))))
    where
      each : (i : ℕ) → i < length records / 32 → (i + 1 < length records / 32) ⊎ (length records / 32 ≤ i + 1) → pair_at i ≡ true
      each i h (inl k) =
          rw (id-earlier i h, id-earlier (i + 1) k)
          (every-at (λ j. id_rises (list_id records j) (list_id records (j + 1))) (length records / 32 - 1) i r (omega arith))
      each i h (inr k) =
          let e : i + 1 ≡ length records / 32 = omega arith in
          let d : i ≡ length records / 32 - 1 = omega arith in
          rw (id-earlier i h, e, id-latest, d) (o (omega arith))

-- a product that is not at fault
module _ (before : List ℕ) (e : Entry) (p : e.letter ≡ 80) where
  right-record : at_fault 7 before e ≡ false → record_right e.«record» ≡ true
  unfolding at_fault names_wrong
  right-record a = not-false (record_right e.«record») (rw p at a)

  rising-id : at_fault 8 before e ≡ false → id_rises before (four_bytes e.«record» 0) ≡ true
  unfolding at_fault names_earlier
  rising-id a = not-false (id_rises before (four_bytes e.«record» 0)) (rw p at a)

-- all records are right
abbrev pub RightOf : List ℕ → Calendar → Bool → List ℕ → Type 0
RightOf before cal seeded records = (length records % 32 ≡ 0) × (list_right records ≡ true)

-- a line that fits and is not at fault for 7 keeps the records whole and right
pub keeps-right : (room : ℕ) → Keeps room 7 RightOf
unfolding records_after with_record
keeps-right room begun before cal seeded records e l f a p = go (eqb e.letter 80) refl (leb (length records + 32) room)
  where
    go : (b : Bool) → eqb e.letter 80 ≡ b → (d : Bool)
        → RightOf (id_after before e) (calendar_after_entry cal e) (seeded || eqb e.letter 83) (cond b (cond d (records ++ e.«record») records) records)
    go false q d = p
    go true q false = p
    go true q true = (
      more-whole records e.«record» p.0 l,
      right-more records e.«record» p.0 l p.1 (right-record before e (eqb-true e.letter 80 q) a),
    )

-- the ids rise, and the last of them is that of the last product, as long as there is room
pub record RisesOf (room : ℕ) (before : List ℕ) (records : List ℕ) : Type 0 where
  -- the records are whole: their bytes are a multiple of 32
  pub whole : length records % 32 ≡ 0
  -- the ids of the records rise
  pub rises : list_rises records ≡ true
  -- while there is room for another record, the id of the last record is that of the last product
  pub last : 1 ≤ length records / 32 → length records + 32 ≤ room → list_id records (length records / 32 - 1) ≡ before

-- a line that fits and is not at fault for 8 keeps the ids of the records rising
pub keeps-rising : (room : ℕ) → Keeps room 8 (λ before cal seeded records. RisesOf room before records)
unfolding records_after with_record id_after
keeps-rising room begun before cal seeded records e l f a p = go (eqb e.letter 80) refl (leb (length records + 32) room) refl
  where
    one : List ℕ
    one = e.«record»

    go : (b : Bool) → eqb e.letter 80 ≡ b → (d : Bool) → leb (length records + 32) room ≡ d
        → RisesOf room (cond b (four_bytes e.«record» 0) before) (cond b (cond d (records ++ e.«record») records) records)
    go false q d r = p
    go true q false r =
        record { whole = p.whole; rises = p.rises; last = λ s h. absurd (omega (arith, h, leb-false (length records + 32) room r)) }
    go true q true r =
        record {
          whole = more-whole records one p.whole l;
          rises =
              rises-more records one p.whole l p.rises
              (λ s.
              ap (λ (i : List ℕ). id_rises i (four_bytes one 0)) (p.last s (leb-true (length records + 32) room r))
              ∙ rising-id before e (eqb-true e.letter 80 q) a);
          last = λ s h.
              let k : length (records ++ one) / 32 - 1 ≡ length records / 32 = omega (arith, more-count records one p.whole l) in
              ap (list_id (records ++ one)) k ∙ id-latest records one p.whole l;
        }
