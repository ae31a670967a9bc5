-- What an accepted file gives: its calendar is valid, clean and trades every week, and its products are right.
-- Assumes nothing.
use mathlib.Core.Path.{◌≡◌, ◌∙◌}
use mathlib.Core.Bool.{Bool, true, not, ◌&&◌, ◌||◌}
use mathlib.Core.Logic.{◌⊎◌, inl, inr}
use mathlib.Core.List.{List}
use Prim.Native.Nat.{ℕ, ◌+◌, ◌-◌, ◌/◌, ◌%◌, ◌≤◌, ◌<◌}
use native.Mathlib.Omega.{arith}
use lib.Dec.{leb, ltb}
use lib.ListN.{get_or}
use borrow.Author.Tests.{leb-true, ltb-true, eqb-true, le-leb}
use Rattle.questions.specs.Questions.{first_no}
use Rattle.questions.specs.Search.{every}
use Rattle.questions.proofs.Bools.{both, and-fst, and-snd, and_both, or-either}
use Rattle.questions.proofs.Search.{every-at}
use Rattle.calendar.specs.Trading.{valid_cover}
use Rattle.product.specs.Fields.{product_right}
use Rattle.product.proofs.KindNumbers.{number-back, product-read}
use Rattle.product.proofs.RightFields.{kind-of-fields}
use Rattle.file_blocks.specs.Blocks.{block_count, block_of, zeros, is_calendar, is_products, year_of_block, records_of_block, block_kind_right, header_right, headers_right}
use Rattle.file_calendar.specs.Calendars.{year_count, calendar_blocks, weeks_right}
use Rattle.file_records.specs.Records.{record_of, record_right, record_place_right, records_right, products_right}
use Rattle.file_records.proofs.RecordParts.{record-parts, share-at-least}
use Rattle.file_ids.specs.Ids.{place_count, is_record, id_at}
use Rattle.file_load.specs.Products.{same_id, product_from, product_at}
use Rattle.file_load.specs.Load.{load_asks, has_id, place_from, found, product_of, Accepted}
use Rattle.file_calendar.proofs.CalendarBlocks.{Ordered, ordered, calendar-is, calendar-block, block-year, maps-long, closed_is, second_is, blocks-clean}
use Rattle.file_load.proofs.Seeking.{found-has}
use Rattle.file_load.proofs.RisingIds.{record-inside, only-place}
use Rattle.file_load.proofs.LoadAnswers.{AllYes, all_yes}

-- 'year 2000–2099'
abbrev year_stated : List ℕ → Bool
year_stated b = is_calendar b && leb 2000 (year_of_block b) && leb (year_of_block b) 2099

abbrev count_stated : List ℕ → Bool
count_stated b = is_products b && leb 1 (records_of_block b) && leb (records_of_block b) 15

year-stated : (b : List ℕ) → is_calendar b ≡ true → (year_stated b ≡ true) ⊎ (count_stated b ≡ true) → (2000 ≤ year_of_block b) × (year_of_block b ≤ 2099)
year-stated b c (inl t) =
    let (low, high) = both (is_calendar b && leb 2000 (year_of_block b)) (leb (year_of_block b) 2099) t in
    (leb-true _ _ (and-snd (is_calendar b) (leb 2000 (year_of_block b)) low), leb-true _ _ high)
year-stated b c (inr t) =
    let count = and-fst (is_products b && leb 1 (records_of_block b)) (leb (records_of_block b) 15) t in
    let two : get_or b 0 0 ≡ 2 = eqb-true _ _ (and-fst (is_products b) (leb 1 (records_of_block b)) count) in
    let one : get_or b 0 0 ≡ 1 = eqb-true _ _ c in
    absurd (omega arith)

-- the year of a calendar block whose header is right is from 2000 to 2099
pub year-right : (b : List ℕ) (k : ℕ) → header_right b k ≡ true → is_calendar b ≡ true → (2000 ≤ year_of_block b) × (year_of_block b ≤ 2099)
unfolding header_right block_kind_right
year-right b k e c =
    year-stated b c (or-either (year_stated b) (count_stated b) (and-fst _ _ (and-fst _ _ (and-fst _ _ e))))

count-stated : (b : List ℕ) → is_products b ≡ true → (year_stated b ≡ true) ⊎ (count_stated b ≡ true) → (1 ≤ records_of_block b) × (records_of_block b ≤ 15)
count-stated b c (inl t) =
    let year = and-fst (is_calendar b && leb 2000 (year_of_block b)) (leb (year_of_block b) 2099) t in
    let one : get_or b 0 0 ≡ 1 = eqb-true _ _ (and-fst (is_calendar b) (leb 2000 (year_of_block b)) year) in
    let two : get_or b 0 0 ≡ 2 = eqb-true _ _ c in
    absurd (omega arith)
count-stated b c (inr t) =
    let (low, high) = both (is_products b && leb 1 (records_of_block b)) (leb (records_of_block b) 15) t in
    (leb-true _ _ (and-snd (is_products b) (leb 1 (records_of_block b)) low), leb-true _ _ high)

-- a product block counts 1 to 15 records
pub count-right : (b : List ℕ) (k : ℕ) → header_right b k ≡ true → is_products b ≡ true → (1 ≤ records_of_block b) × (records_of_block b ≤ 15)
unfolding header_right block_kind_right
count-right b k e c =
    count-stated b c (or-either (year_stated b) (count_stated b) (and-fst _ _ (and-fst _ _ (and-fst _ _ e))))

module _ (f : List ℕ) (y : AllYes f) (o : Ordered f) where
  block-right : (k : ℕ) → k < year_count f → (2000 ≤ year_of_block (block_of f k)) × (year_of_block (block_of f k) ≤ 2099)
  unfolding headers_right
  block-right k h =
      year-right (block_of f k) k
      (every-at (λ n. header_right (block_of f n) n) (block_count f) k y.yes3 (omega (arith, o.fewer)))
      (calendar-block f o k h)

  cover-right : valid_cover (calendar_blocks f).cover ≡ true
  unfolding valid_cover
  cover-right =
      let first = block-right 0 (omega (arith, o.some)) in
      let last = block-right (year_count f - 1) (omega (arith, o.some)) in
      and_both (le-leb _ _ o.some)
      (and_both (le-leb _ _ o.most)
      (and_both (le-leb _ _ first.0)
      (le-leb (year_of_block (block_of f 0) + year_count f) 2100 (omega (arith, last.1, block-year f o (year_count f - 1) (omega (arith, o.some)), o.some)))))

-- the fields of a product are those of its record
product-right : (r : List ℕ) → record_right r ≡ true → product_right (product_from r) ≡ true
unfolding product_from
product-right r e =
    let fields = (record-parts r e).fields in
    product-read (get_or r 12 0) (product_from r) (number-back (get_or r 12 0) (kind-of-fields _ _ _ _ _ _ _ fields)) ∙ fields

module _ (f : List ℕ) (p : ℕ) (t : is_record f p ≡ true) where
  inside : p < place_count f
  inside = record-inside f p t

  abbrev block : List ℕ
  block = block_of f (p / 15)

  place-right : products_right f ≡ true → record_right (record_of block (p % 15)) ≡ true
  unfolding products_right records_right record_place_right is_record
  place-right e =
      let (products, counted) = both (is_products block) (ltb (p % 15) (records_of_block block)) t in
      let b = every-at (λ k. not (is_products (block_of f k)) || records_right (block_of f k)) (block_count f) (p / 15) e (omega (arith, inside)) in
      let r = and-fst (every 15 (record_place_right block)) (zeros block 496 14) (rw products at b) in
      rw counted at (every-at (record_place_right block) 15 (p % 15) r (omega arith))

  -- where question 7 is answered yes, the product of each record is right
  pub record-product : products_right f ≡ true → product_right (product_at f (p / 15) (p % 15)) ≡ true
  unfolding product_at
  record-product e = product-right (record_of block (p % 15)) (place-right e)

  -- where question 7 is answered yes, the size of each record is at least one share
  pub record-size : products_right f ≡ true → 10000 ≤ (product_at f (p / 15) (p % 15)).size
  unfolding product_at product_from
  record-size e = share-at-least (record_of block (p % 15)) (place-right e)

-- a place that is found holds the record with the id
pub found-place : (f id : List ℕ) → found f id ≡ true → (is_record f (place_from f id 0) ≡ true) × (same_id (id_at f (place_from f id 0)) id ≡ true)
unfolding found has_id
found-place f id e =
    both (is_record f (place_from f id 0)) (same_id (id_at f (place_from f id 0)) id)
    (found-has f id (ltb-true (place_from f id 0) (place_count f) e))

-- so the product that is found has the id
pub found-id : (f id : List ℕ) → found f id ≡ true → same_id (product_of f id).id id ≡ true
unfolding id_at product_of product_at product_from
found-id f id e = (found-place f id e).1

-- a file that load accepts has a valid calendar, right products, and each id once
pub accepted-file : (f : List ℕ) → first_no (load_asks f) ≡ 0 → Accepted f
unfolding weeks_right product_of
accepted-file f e =
    let y = all_yes f e in
    let o = ordered f y.yes4 in
    record {
      cover = rw (calendar-is f o) (cover-right f y o);
      closures = rw (calendar-is f o) (blocks-clean f o y.yes5);
      weeks = y.yes6;
      days = rw (calendar-is f o) (closed_is f o);
      second-days = rw (calendar-is f o) (second_is f o);
      maps = rw (calendar-is f o) (maps-long f o 16);
      exchange-maps = rw (calendar-is f o) (maps-long f o 62);
      products = λ p t. record-product f p t y.yes7;
      sizes = λ p t. record-size f p t y.yes7;
      product = λ id t. record-product f (place_from f id 0) (found-place f id t).0 y.yes7;
      unique = λ id p t. only-place f id p t y.yes8;
    }
