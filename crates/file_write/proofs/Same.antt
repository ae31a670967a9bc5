-- The file that is written from what an accepted file holds is that file, block by block.
-- Assumes nothing.
use Prim.Native.Nat.{ℕ, zero, suc, ◌+◌, ◌-◌, ◌*◌, ◌/◌, ◌%◌, ◌≤◌, ◌<◌}
use mathlib.Core.Path.{◌≡◌, refl, ◌∙◌, sym, ap, ap₂}
use mathlib.Core.Bool.{true, not, ◌&&◌, ◌||◌}
use mathlib.Core.Logic.{◌⊎◌, inl, inr}
use mathlib.Core.List.{List, [], ◌∷◌, ◌++◌}
use native.Mathlib.Nat.{le_refl, eq-or-lt_of_le}
use native.Mathlib.Omega.{arith}
use lib.Dec.{eqb, leb}
use lib.ListN.{length, take, drop, get_or, length-append, length-drop, get_or-append, get_or-eq_default}
use lib.Seq.{ext_get_or, length-take-le, take-add, take_all, get_or-take, get_or-drop, get_or-append-add}
use borrow.Author.Tests.{eqb-true, eq-eqb, ne_eqb, lt-ltb, le-ltb, le-leb}
use Rattle.questions.specs.Questions.{first_no}
use Rattle.questions.specs.Search.{every}
use Rattle.questions.proofs.Bools.{both, and-fst, and_both, lt-or-ge}
use Rattle.questions.proofs.Asks.{accepted}
use Rattle.questions.proofs.Search.{every-at}
use Rattle.calendar.specs.declared.Calendar.{Calendar}
use Rattle.file_blocks.specs.Blocks.{block_count, block_of, number_at, zeros, weighted_sum, check_right, checks_right, is_products, year_of_block, records_of_block}
use Rattle.file_blocks.specs.Blocks.{block_kind_right, header_right, headers_right, length_right}
use Rattle.file_blocks.proofs.Files.{block_in, block-byte}
use Rattle.file_records.specs.Records.{record_of, record_place_right, records_right, products_right}
use Rattle.file_calendar.specs.Calendars.{listed, day_clean, block_clean, calendar_blocks, calendar_of, year_count}
use Rattle.file_calendar.proofs.Filling.{listed-length, listed_at}
use Rattle.file_calendar.proofs.CalendarBlocks.{Ordered, ordered, calendar-is, calendar-block, block-year, product-block, map-in, block-clean}
use Rattle.file_load.specs.Load.{load_asks}
use Rattle.file_load.proofs.LoadAnswers.{AllYes, all_yes, length_most}
use Rattle.file_load.proofs.Accepting.{count-right}
use Rattle.file_draft.specs.Drafts.{high_byte, low_byte, header_byte, calendar_byte, records_in, product_blocks, records_within, product_byte, block_byte, checked}
use Rattle.file_draft.specs.Drafts.{block_for, blocks_for, file_of, records_written, fits, write_asks}
use Rattle.file_draft.proofs.DraftBlocks.{sum_same, blocks-none, blocks_more}
use Rattle.file_draft.proofs.Headers.{Header}
use Rattle.file_draft.proofs.DraftQuestions.{asks_none}
use Rattle.file_write.specs.Writing.{write_call, buffer_after}
use Rattle.file_write.specs.FilesWritten.{are_bytes, records_of, all_full, SameFile}
use Rattle.file_write.proofs.ZeroBytes.{byte-below, zero-at}
use Rattle.file_write.proofs.Shapes.{Shape, records-long, records-at}

-- a block that ends with its right check is its first 510 bytes with the check written
module _ (b : List ℕ) (long : length b ≡ 512) (bytes : (j : ℕ) → get_or b j 0 < 256) (right : check_right b ≡ true) where
  stored : 256 * get_or b 510 0 + get_or b 511 0 ≡ weighted_sum b 510 % 65521
  unfolding check_right number_at
  stored = sym (eqb-true _ _ right)

  checked-again : (body : List ℕ) → length body ≡ 510 → ((j : ℕ) → j < 510 → get_or body j 0 ≡ get_or b j 0) → checked body ≡ b
  unfolding checked
  checked-again body l h =
      ext_get_or 0 (body ++ check) b (length-append body check ∙ omega arith) (λ j g. at j (omega (arith, length-append body check)))
    where
      c : ℕ
      c = weighted_sum body 510 % 65521

      check : List ℕ
      check = high_byte c ∷ low_byte c ∷ []

      c-is : c ≡ 256 * get_or b 510 0 + get_or b 511 0
      c-is = ap (λ (x : ℕ). x % 65521) (sum_same body b 510 h) ∙ sym stored

      tail : (i : ℕ) → get_or (body ++ check) (510 + i) 0 ≡ get_or check i 0
      tail i = ap (λ (n : ℕ). get_or (body ++ check) (n + i) 0) (sym l) ∙ get_or-append-add body check i 0

      last : (i : ℕ) → i < 2 → get_or check i 0 ≡ get_or b (510 + i) 0
      last zero m = omega (arith, c-is, bytes 511)
      last (suc zero) m = omega (arith, c-is, bytes 511)
      last (suc (suc i)) m = absurd (omega arith)

      side : (j : ℕ) → j < 512 → (j < 510) ⊎ (510 ≤ j) → get_or (body ++ check) j 0 ≡ get_or b j 0
      side j g (inl m) = get_or-append body check 0 j (omega arith) ∙ h j m
      side j g (inr m) =
          let e : 510 + (j - 510) ≡ j = omega arith in
          ap (λ (n : ℕ). get_or (body ++ check) n 0) (sym e) ∙ tail (j - 510) ∙ last (j - 510) (omega arith) ∙ ap (λ (n : ℕ). get_or b n 0) e

      at : (j : ℕ) → j < 512 → get_or (body ++ check) j 0 ≡ get_or b j 0
      at j g = side j g (lt-or-ge j 510)

-- the bytes of a block's header are the ones that are written
header-again : (b : List ℕ) (kind number index : ℕ) → ((j : ℕ) → get_or b j 0 < 256) → Header b kind number index → (j : ℕ) → j < 16
    → header_byte kind number index j ≡ get_or b j 0
unfolding header_byte number_at
header-again b kind number index bytes h zero l = sym h.kind-is
header-again b kind number index bytes h (suc zero) l = sym h.version
header-again b kind number index bytes h (suc (suc zero)) l = omega (arith, h.number_is, bytes 3)
header-again b kind number index bytes h (suc (suc (suc zero))) l = omega (arith, h.number_is, bytes 3)
header-again b kind number index bytes h (suc (suc (suc (suc zero)))) l = omega (arith, h.index_is, bytes 5)
header-again b kind number index bytes h (suc (suc (suc (suc (suc zero))))) l = omega (arith, h.index_is, bytes 5)
header-again b kind number index bytes h (suc (suc (suc (suc (suc (suc i)))))) l =
    rw (
      ne_eqb (suc (suc (suc (suc (suc (suc i)))))) 0 (λ z. omega arith),
      ne_eqb (suc (suc (suc (suc (suc (suc i)))))) 1 (λ z. omega arith),
      ne_eqb (suc (suc (suc (suc (suc (suc i)))))) 2 (λ z. omega arith),
      ne_eqb (suc (suc (suc (suc (suc (suc i)))))) 3 (λ z. omega arith),
      ne_eqb (suc (suc (suc (suc (suc (suc i)))))) 4 (λ z. omega arith),
      ne_eqb (suc (suc (suc (suc (suc (suc i)))))) 5 (λ z. omega arith),
    ) (sym (zero-at b 6 10 (suc (suc (suc (suc (suc (suc i)))))) h.rest (omega arith) l))

header_of : (b : List ℕ) (k : ℕ) → header_right b k ≡ true → Header b (get_or b 0 0) (number_at b 2) k
unfolding header_right
header_of b k e =
    let (abc, d) = both (block_kind_right b && eqb (get_or b 1 0) 1 && eqb (number_at b 4) k) (zeros b 6 10) e in
    let (ab, c) = both (block_kind_right b && eqb (get_or b 1 0) 1) (eqb (number_at b 4) k) abc in
    let (a, v) = both (block_kind_right b) (eqb (get_or b 1 0) 1) ab in
    record { kind-is = refl; version = eqb-true _ _ v; number_is = refl; index_is = eqb-true _ _ c; rest = d }

-- an accepted file of bytes whose product blocks but the last are full
module _ (f : List ℕ) (bytes : are_bytes f ≡ true) (a : AllYes f) (full : all_full f ≡ true) where
  o : Ordered f
  o = ordered f a.yes4

  abbrev n : ℕ
  n = block_count f

  abbrev y : ℕ
  y = year_count f

  abbrev m : ℕ
  m = n - 1 - y

  abbrev c : ℕ
  c = records_of_block (block_of f (y + m))

  whole : length f ≡ 512 * n
  unfolding length_right
  whole =
      let e : length f % 512 ≡ 0 = eqb-true _ _ (and-fst (eqb (length f % 512) 0) (leb 1024 (length f)) (and-fst _ _ a.yes1)) in
      omega arith

  long-at : (k : ℕ) → k < n → length (block_of f k) ≡ 512
  long-at k h =
      rw (block_in f k h) (length-take-le 512 (drop (512 * k) f) (omega (arith, length-drop (512 * k) f, whole)))

  byte-in : (k : ℕ) → k < n → (j : ℕ) → get_or (block_of f k) j 0 < 256
  byte-in k h j = go (lt-or-ge j 512)
    where
      go : (j < 512) ⊎ (512 ≤ j) → get_or (block_of f k) j 0 < 256
      go (inl l) = omega (arith, block-byte f k j h l, byte-below f bytes (512 * k + j))
      go (inr l) = omega (arith, get_or-eq_default (block_of f k) 0 {n = j} (omega (arith, long-at k h)))

  header_at : (k : ℕ) → k < n → header_right (block_of f k) k ≡ true
  unfolding headers_right
  header_at k h = every-at (λ k. header_right (block_of f k) k) n k a.yes3 h

  check-at : (k : ℕ) → k < n → check_right (block_of f k) ≡ true
  unfolding checks_right
  check-at k h = every-at (λ k. check_right (block_of f k)) n k a.yes2 h

  right-at : (k : ℕ) → y ≤ k → k < n → records_right (block_of f k) ≡ true
  unfolding products_right
  right-at k h l =
      rw (product-block f o k h l) at (every-at (λ k. not (is_products (block_of f k)) || records_right (block_of f k)) n k a.yes7 l)

  tail_at : (k : ℕ) → k < y → zeros (block_of f k) 108 402 ≡ true
  unfolding block_clean
  tail_at k h = (both (every 368 (day_clean (block_of f k))) (zeros (block_of f k) 108 402) (block-clean f o k h a.yes5)).1

  abbrev cal : Calendar
  cal = calendar_blocks f

  -- the bytes of a calendar block
  calendar-header : (k : ℕ) → k < y → Header (block_of f k) 1 (year_of_block (block_of f 0) + k) k
  calendar-header k h =
      let d = header_of (block_of f k) k (header_at k (omega (arith, o.fewer))) in
      record {
        kind-is = eqb-true _ _ (calendar-block f o k h);
        version = d.version;
        number_is = block-year f o k h;
        index_is = d.index_is;
        rest = d.rest;
      }

  calendar-again : (k j : ℕ) → k < y → j < 510 → calendar_byte cal k j ≡ get_or (block_of f k) j 0
  unfolding calendar_byte
  calendar-again k j h l = go (lt-or-ge j 16) (lt-or-ge j 62) (lt-or-ge j 108)
    where
      from : (at : ℕ) → at ≤ j → at + (j - at) ≡ j
      from at p = omega arith

      go : (j < 16) ⊎ (16 ≤ j) → (j < 62) ⊎ (62 ≤ j) → (j < 108) ⊎ (108 ≤ j) → calendar_byte cal k j ≡ get_or (block_of f k) j 0
      go (inl p) q r =
          rw (lt-ltb j 16 p)
          (header-again (block_of f k) 1 (year_of_block (block_of f 0) + k) k (byte-in k (omega (arith, o.fewer))) (calendar-header k h) j p)
      go (inr p) (inl q) r =
          rw (le-ltb j 16 p, lt-ltb j 62 q)
          (map-in f o 16 k (j - 16) h (omega arith) ∙ ap (λ (i : ℕ). get_or (block_of f k) i 0) (from 16 p))
      go (inr p) (inr q) (inl r) =
          rw (le-ltb j 16 p, le-ltb j 62 q, lt-ltb j 108 r)
          (map-in f o 62 k (j - 62) h (omega arith) ∙ ap (λ (i : ℕ). get_or (block_of f k) i 0) (from 62 q))
      go (inr p) (inr q) (inr r) =
          rw (le-ltb j 16 p, le-ltb j 62 q, le-ltb j 108 r) (sym (zero-at (block_of f k) 108 402 j (tail_at k h) r (omega arith)))

  last-in : y + m < n
  last-in = omega (arith, o.fewer)

  two_at : (k : ℕ) → y ≤ k → k < n → get_or (block_of f k) 0 0 ≡ 2
  two_at k h l = eqb-true _ _ (product-block f o k h l)

  count_at : (k : ℕ) → y ≤ k → k < n → (1 ≤ records_of_block (block_of f k)) × (records_of_block (block_of f k) ≤ 15)
  count_at k h l = count-right (block_of f k) k (header_at k l) (product-block f o k h l)

  full_at : (i : ℕ) → i < m → records_of_block (block_of f (y + i)) ≡ 15
  unfolding all_full
  full_at i h = eqb-true _ _ (every-at (λ n. eqb (records_of_block (block_of f (year_count f + n))) 15) m i full h)

  shape : Shape f y m c
  shape =
      record {
        blocks = omega (arith, o.fewer);
        long = long-at;
        others = λ k h.
            let one : get_or (block_of f k) 0 0 ≡ 1 = eqb-true _ _ (calendar-block f o k h) in
            ne_eqb (get_or (block_of f k) 0 0) 2 (λ z. omega arith);
        products = product-block f o;
        full = full_at;
        last = refl;
        most = (count_at (y + m) (omega arith) last-in).1;
      }

  places-at : (k : ℕ) → y ≤ k → k < n → (every 15 (record_place_right (block_of f k)) ≡ true) × (zeros (block_of f k) 496 14 ≡ true)
  unfolding records_right
  places-at k h l = both (every 15 (record_place_right (block_of f k))) (zeros (block_of f k) 496 14) (right-at k h l)

  unused-record : (b : List ℕ) (p : ℕ) → records_of_block b ≤ p → p < 15 → record_place_right b p ≡ true → (x : ℕ) → x < 32 → get_or b (16 + 32 * p + x) 0 ≡ 0
  unfolding record_place_right record_of
  unused-record b p h l e x g =
      let z = rw (le-ltb p (records_of_block b) h, lt-ltb p 15 l) at e in
      sym (get_or-take 32 (drop (16 + 32 * p) b) x 0 g ∙ get_or-drop (16 + 32 * p) b x 0)
      ∙ zero-at (take 32 (drop (16 + 32 * p) b)) 0 32 x z (omega arith) (omega arith)

  unused : (x : ℕ) → 32 * c ≤ x → x < 480 → get_or (block_of f (y + m)) (16 + x) 0 ≡ 0
  unused x h l =
      let e : 16 + 32 * (x / 32) + x % 32 ≡ 16 + x = omega arith in
      ap (λ (i : ℕ). get_or (block_of f (y + m)) i 0) (sym e)
      ∙ unused-record (block_of f (y + m)) (x / 32) (omega arith) (omega arith)
      (every-at (record_place_right (block_of f (y + m))) 15 (x / 32) (places-at (y + m) (omega arith) last-in).0 (omega arith)) (x % 32) (omega arith)

  records-are : records_in (records_of f) ≡ 15 * m + c
  records-are = omega (arith, records-long f y m c shape)

  within-is : (i : ℕ) → i ≤ m → records_within (records_of f) i ≡ records_of_block (block_of f (y + i))
  within-is i h = go (eq-or-lt_of_le h)
    where
      go : (i ≡ m) ⊎ (i < m) → records_within (records_of f) i ≡ records_of_block (block_of f (y + i))
      go (inl q) = rw (records-are, q) (omega (arith, shape.most))
      go (inr p) = rw (records-are, full_at i p) (omega arith)

  -- the bytes of a product block
  product-again : (i j : ℕ) → i ≤ m → j < 510 → product_byte (records_of f) i (y + i) j ≡ get_or (block_of f (y + i)) j 0
  unfolding product_byte
  product-again i j h l = go (lt-or-ge j 16) (lt-or-ge j 496)
    where
      inside : y + i < n
      inside = omega (arith, last-in)

      head : Header (block_of f (y + i)) 2 (records_of_block (block_of f (y + i))) (y + i)
      head =
          let d = header_of (block_of f (y + i)) (y + i) (header_at (y + i) inside) in
          record {
            kind-is = two_at (y + i) (omega arith) inside;
            version = d.version;
            number_is = refl;
            index_is = d.index_is;
            rest = d.rest;
          }

      go : (j < 16) ⊎ (16 ≤ j) → (j < 496) ⊎ (496 ≤ j) → product_byte (records_of f) i (y + i) j ≡ get_or (block_of f (y + i)) j 0
      go (inl p) s =
          rw (lt-ltb j 16 p, within-is i h)
          (header-again (block_of f (y + i)) 2 (records_of_block (block_of f (y + i))) (y + i) (byte-in (y + i) inside) head j p)
      go (inr p) (inl q) =
          let e : 16 + (j - 16) ≡ j = omega arith in
          rw (le-ltb j 16 p, lt-ltb j 496 q)
          (records-at f y m c shape unused i (j - 16) h (omega arith) ∙ ap (λ (x : ℕ). get_or (block_of f (y + i)) x 0) e)
      go (inr p) (inr q) =
          rw (le-ltb j 16 p, le-ltb j 496 q)
          (sym (zero-at (block_of f (y + i)) 496 14 j (places-at (y + i) (omega arith) inside).1 q (omega arith)))

  byte-again : (k j : ℕ) → k < n → j < 510 → block_byte cal (records_of f) k j ≡ get_or (block_of f k) j 0
  unfolding block_byte
  byte-again k j h l = go (lt-or-ge k y)
    where
      go : (k < y) ⊎ (y ≤ k) → block_byte cal (records_of f) k j ≡ get_or (block_of f k) j 0
      go (inl p) = rw (lt-ltb k y p) (calendar-again k j p l)
      go (inr p) =
          let e : y + (k - y) ≡ k = omega arith in
          rw (le-ltb k y p)
          (ap (λ (x : ℕ). product_byte (records_of f) (k - y) x j) (sym e) ∙ product-again (k - y) j (omega arith) l ∙ ap (λ (x : ℕ). get_or (block_of f x) j 0) e)

  block-again : (k : ℕ) → k < n → block_for cal (records_of f) k ≡ block_of f k
  block-again k h =
      checked-again (block_of f k) (long-at k h) (byte-in k h) (check-at k h) (listed 0 510 (block_byte cal (records_of f) k))
      (listed-length 0 510 (block_byte cal (records_of f) k))
      (λ j l. listed_at 510 (block_byte cal (records_of f) k) j l ∙ byte-again k j h l)

  blocks-again : (k : ℕ) → k ≤ n → blocks_for cal (records_of f) k ≡ take (512 * k) f
  blocks-again zero h = blocks-none cal (records_of f)
  blocks-again (suc k) h =
      let e : 512 * k + 512 ≡ 512 * suc k = omega arith in
      blocks_more cal (records_of f) k
      ∙ ap₂ ◌++◌ (blocks-again k (omega arith)) (block-again k h ∙ block_in f k h)
      ∙ sym (take-add (512 * k) 512 f)
      ∙ ap (λ (x : ℕ). take x f) e

  same : file_of (calendar_of f) (records_of f) ≡ f
  unfolding file_of
  same =
      let t : y + product_blocks (records_of f) ≡ n = omega (arith, records-are, (count_at (y + m) (omega arith) last-in).0, shape.most, o.fewer) in
      rw (calendar-is f o)
      (ap (blocks_for cal (records_of f)) t ∙ blocks-again n (le_refl n) ∙ take_all (512 * n) f (omega (arith, whole)))

  whole-records : length (records_of f) % 32 ≡ 0
  whole-records = omega (arith, records-long f y m c shape)

  records-right : records_written (calendar_of f) (records_of f) ≡ true
  unfolding records_written
  records-right = rw (same) (and_both (eq-eqb _ _ whole-records) a.yes7)

  fits-there : (room : ℕ) → length f ≤ room → fits (calendar_of f) (records_of f) room ≡ true
  unfolding fits
  fits-there room h = rw (same) (and_both (le-leb _ _ h) (le-leb _ _ (length_most f a.yes1)))

  none-asked : (room : ℕ) → length f ≤ room → first_no (write_asks (calendar_of f) (records_of f) room) ≡ 0
  none-asked room h =
      asks_none (calendar_of f) (records_of f) room
      (record {
        yes3 = rw same a.yes3;
        yes4 = rw same a.yes4;
        yes5 = rw same a.yes5;
        yes6 = rw same a.yes6;
        yes7 = records-right;
        yes8 = rw same a.yes8;
        yes25 = fits-there room h;
      })

  answer-is : (room : ℕ) → length f ≤ room → write_call (calendar_of f) (records_of f) room ≡ record { refusal = 0; value = length f }
  unfolding write_call
  answer-is room h =
      accepted (write_asks (calendar_of f) (records_of f) room) 0 (length (file_of (calendar_of f) (records_of f))) (none-asked room h) ∙ rw same

  buffer-is : (before : List ℕ) → length f ≤ length before → buffer_after (calendar_of f) (records_of f) before ≡ f ++ drop (length f) before
  unfolding buffer_after
  buffer-is before h = rw (none-asked (length before) h, same)

-- 'Writing out what an accepted file holds gives that same file wherever all its product blocks but the last are full'
pub same-file : (f : List ℕ) → are_bytes f ≡ true → first_no (load_asks f) ≡ 0 → all_full f ≡ true → SameFile f
same-file f bytes e full =
    let a = all_yes f e in
    record { file = same f bytes a full; accepted = answer-is f bytes a full; buffer = buffer-is f bytes a full }
