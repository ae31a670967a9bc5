-- The questions of a file that is to be written, one after the other, by what was handed in.
-- Assumes nothing.
use Prim.Native.Nat.{ℕ, ◌+◌, ◌-◌, ◌*◌, ◌%◌, ◌≤◌}
use mathlib.Core.Path.{◌≡◌, ◌∙◌, sym}
use mathlib.Core.Bool.{true, false, ◌&&◌}
use mathlib.Core.List.{List}
use native.Mathlib.Omega.{arith}
use lib.Dec.{eqb, leb}
use lib.ListN.{length}
use borrow.Author.Tests.{ne_eqb, eqb-true, leb-true}
use Rattle.questions.specs.Questions.{first_no}
use Rattle.questions.proofs.Asks.{first-yes, first-no, none-no}
use Rattle.questions.proofs.Bools.{both}
use Rattle.questions.proofs.Search.{every-at}
use Rattle.calendar.specs.declared.Cover.{Cover}
use Rattle.calendar.specs.declared.Calendar.{Calendar}
use Rattle.file_blocks.specs.Blocks.{headers_right}
use Rattle.file_records.specs.Records.{products_right}
use Rattle.file_ids.specs.Ids.{ids_rise}
use Rattle.file_calendar.specs.Calendars.{order_right, calendars_clean, weeks_right}
use Rattle.file_draft.specs.Drafts.{blocks_in, file_of, records_written, fits, write_asks, years_right, counts_right, list_right}
use Rattle.file_draft.proofs.DraftBlocks.{file-length}
use Rattle.file_draft.proofs.Headers.{headers-written}
use Rattle.file_draft.proofs.DraftCalendars.{order-written}
use Rattle.file_draft.proofs.DraftRecords.{products-written}

-- a cover whose counts question 4 passes has at most 16 years
pub years-few : (c : Cover) (records : List ℕ) → counts_right c records ≡ true → c.years ≤ 16
years-few c records e =
    let (a, r) = both (leb 1 c.years) (leb c.years 16 && leb 1 (length records)) e in
    leb-true c.years 16 (both (leb c.years 16) (leb 1 (length records)) r).0

module _ (cal : Calendar) (records : List ℕ) where
  -- 7 by the list, where it ends with a whole record
  pub whole-written : length records % 32 ≡ 0 → records_written cal records ≡ list_right records
  unfolding records_written
  whole-written w = rw (w, products-written cal records w)

  -- a list that ends within a record does not pass 7
  pub part-written : (length records % 32 ≡ 0 → ⊥) → records_written cal records ≡ false
  unfolding records_written
  part-written h = rw (ne_eqb (length records % 32) 0 h)

  -- 25 by the count of blocks
  pub fits-is : (room : ℕ) → fits cal records room ≡ (leb (512 * blocks_in cal records) room && leb (512 * blocks_in cal records) 65536)
  unfolding fits
  fits-is room = rw (file-length cal records)

  -- a count of years that is not 1 to 16, or an empty list of records, gets refusal 4 where 3 is passed
  pub no-4 : (room : ℕ) → years_right cal.cover ≡ true → counts_right cal.cover records ≡ false → 4 ≡ first_no (write_asks cal records room)
  unfolding write_asks
  no-4 room y e = sym (first-yes 3 _ (headers-written cal records ∙ y) ∙ first-no 4 _ (order-written cal records ∙ e))

-- each question is answered yes
pub record Writable (cal : Calendar) (records : List ℕ) (room : ℕ) : Type 0 where
  -- question 3 of the file is answered yes
  pub yes3 : headers_right (file_of cal records) ≡ true
  -- question 4 of the file is answered yes
  pub yes4 : order_right (file_of cal records) ≡ true
  -- question 5 of the file is answered yes
  pub yes5 : calendars_clean (file_of cal records) ≡ true
  -- question 6 of the file is answered yes
  pub yes6 : weeks_right (file_of cal records) ≡ true
  -- question 7 of the file is answered yes, and the list ends with a whole record
  pub yes7 : records_written cal records ≡ true
  -- question 8 of the file is answered yes
  pub yes8 : ids_rise (file_of cal records) ≡ true
  -- question 25 of the file is answered yes
  pub yes25 : fits cal records room ≡ true

-- where no question refuses the writing, each is answered yes
pub writable : (cal : Calendar) (records : List ℕ) (room : ℕ) → first_no (write_asks cal records room) ≡ 0 → Writable cal records room
unfolding write_asks
writable cal records room e =
    let f = file_of cal records in
    let (a3, e3) = none-no 2 (headers_right f) _ e in
    let (a4, e4) = none-no 3 (order_right f) _ e3 in
    let (a5, e5) = none-no 4 (calendars_clean f) _ e4 in
    let (a6, e6) = none-no 5 (weeks_right f) _ e5 in
    let (a7, e7) = none-no 6 (records_written cal records) _ e6 in
    let (a8, e8) = none-no 7 (ids_rise f) _ e7 in
    let (a25, e25) = none-no 24 (fits cal records room) _ e8 in
    record { yes3 = a3; yes4 = a4; yes5 = a5; yes6 = a6; yes7 = a7; yes8 = a8; yes25 = a25 }

-- where each question is answered yes, no question refuses the writing
pub asks_none : (cal : Calendar) (records : List ℕ) (room : ℕ) → Writable cal records room → first_no (write_asks cal records room) ≡ 0
unfolding write_asks first_no
asks_none cal records room w = rw (w.yes3, w.yes4, w.yes5, w.yes6, w.yes7, w.yes8, w.yes25)

-- what that says of the counts
pub record Counted (cal : Calendar) (records : List ℕ) (room : ℕ) : Type 0 where
  -- the cover has at least one year
  pub years-some : 1 ≤ cal.cover.years
  -- the cover has at most 16 years
  pub years-most : cal.cover.years ≤ 16
  -- the cover's last year is at most 2099
  pub last-year : cal.cover.first_year + cal.cover.years ≤ 2100
  -- the list of records is not empty
  pub records-some : 1 ≤ length records
  -- the list of records ends with a whole record
  pub records-whole : length records % 32 ≡ 0
  -- the buffer has room for all blocks of the file
  pub enough : 512 * blocks_in cal records ≤ room
  -- the file has at most 128 blocks
  pub blocks-most : blocks_in cal records ≤ 128

-- a calendar and a list whose file is accepted have counts within these bounds
pub counted : (cal : Calendar) (records : List ℕ) (room : ℕ) → Writable cal records room → Counted cal records room
unfolding records_written years_right
counted cal records room w =
    let years = cal.cover.years in
    let first = cal.cover.first_year in
    let (a, r) = both (leb 1 years) (leb years 16 && leb 1 (length records)) (sym (order-written cal records) ∙ w.yes4) in
    let (b, c) = both (leb years 16) (leb 1 (length records)) r in
    let (d, e) = both (leb (512 * blocks_in cal records) room) (leb (512 * blocks_in cal records) 65536) (sym (fits-is cal records room) ∙ w.yes25) in
    let (g, h) = both (eqb (length records % 32) 0) (products_right (file_of cal records)) w.yes7 in
    let s : 1 ≤ years = leb-true 1 years a in
    let y : years_right cal.cover ≡ true = sym (headers-written cal records) ∙ w.yes3 in
    let z = every-at (λ k. leb 2000 (first + k) && leb (first + k) 2099) years (years - 1) y (omega arith) in
    let l : first + (years - 1) ≤ 2099 = leb-true (first + (years - 1)) 2099 (both (leb 2000 (first + (years - 1))) (leb (first + (years - 1)) 2099) z).1 in
    record {
      years-some = s;
      years-most = leb-true years 16 b;
      last-year = omega arith;
      records-some = leb-true 1 (length records) c;
      records-whole = eqb-true (length records % 32) 0 g;
      enough = leb-true (512 * blocks_in cal records) room d;
      blocks-most = omega (arith, leb-true (512 * blocks_in cal records) 65536 e);
    }
