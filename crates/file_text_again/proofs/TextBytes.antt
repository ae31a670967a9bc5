-- What a text of bytes says is made of bytes: its two maps and its records; and so is the file that is written of them.
-- Assumes nothing.
use mathlib.Core.Path.{◌≡◌, refl}
use mathlib.Core.List.{List, [], ◌∷◌, ◌++◌}
use mathlib.Core.Bool.{Bool, true, false, ◌&&◌, cond}
use mathlib.Core.Logic.{◌⊎◌, inl, inr}
use Prim.Native.Nat.{ℕ, zero, suc, ◌+◌, ◌-◌, ◌*◌, ◌/◌, ◌%◌, ◌^◌, ◌≤◌, ◌<◌}
use native.Mathlib.Omega.{arith}
use lib.Bits.{bit_or, or_lt}
use lib.Dec.{eqb, leb, ltb}
use lib.ListN.{length, get_or, set, take, drop, replicate, get_or-eq_default}
use lib.Pow.{pow-lt}
use lib.Seq.{get_or-drop, get_or-set_same, get_or-set_other, set_out}
use borrow.Author.Tests.{eqb-true, eqb-false, ltb-true}
use Rattle.questions.specs.Questions.{first_no, answer}
use Rattle.questions.proofs.Bools.{lt-or-ge}
use Rattle.calendar.specs.Bits.{set_bit}
use Rattle.calendar.specs.declared.Cover.{Cover}
use Rattle.calendar.specs.declared.Calendar.{Calendar}
use Rattle.calendar.specs.Trading.{calendar_with, cover_start, cover_end, in_cover, slot_of, open_calendar, zero_calendar, close_day}
use Rattle.calendar.proofs.Closing.{close-exchange}
use Rattle.calendar_synthetic.specs.Generated.{value_at, closes_at, calendar_at, made, made_from, made_asks, made_call}
use Rattle.file_blocks.specs.Blocks.{weighted_sum}
use Rattle.file_records.specs.Records.{three_bytes, four_bytes}
use Rattle.file_calendar.specs.Calendars.{listed}
use Rattle.file_calendar.proofs.Filling.{listed-length, listed_at}
use Rattle.file_draft.specs.Drafts.{header_byte, calendar_byte, records_within, product_byte, block_byte, checked, block_for, blocks_for, blocks_in, file_of, write_asks}
use Rattle.file_draft.proofs.DraftQuestions.{Counted, counted, writable}
use Rattle.file_write.specs.Writing.{field_bytes}
use Rattle.file_write.specs.FilesWritten.{are_bytes}
use Rattle.file_write.proofs.ZeroBytes.{byte-below}
use Rattle.session_lines.specs.CommandLines.{lines_from, date_at}
use Rattle.file_text_lines.specs.declared.Entry.{Entry}
use Rattle.file_text_lines.specs.declared.NumberRead.{NumberRead}
use Rattle.file_text_lines.specs.Entries.{words_from, word_at, word_number, pointed, shares_read, part_read, other_entry, letter_form, cover_at, cover_entry, seed_entry}
use Rattle.file_text_lines.specs.Entries.{day_form, day_entry, product_form, id_bytes, line_record, product_entry, entry_at, entry_of}
use Rattle.file_text_lines.proofs.NumberWords.{at_most}
use Rattle.delivery_lines.specs.NoticeLines.{blank, trimmed, mark_length, unmarked, says_nothing}
use Rattle.file_text_stripped.specs.Said.{nothing_entry, text_said, bare_text, line_said}
use Rattle.file_text_read.specs.Lists.{Content, no_content, close_exchange_day, entry_fits, calendar_after_entry, with_record, records_after, next_line, line_counted}
use Rattle.file_text_read.specs.Lists.{entry_taken, line_taken, lines_taken, numbered_from, numbered_lines, content_of}
use Rattle.file_text_again.proofs.FileText.{are-bytes}

-- ---- lists of bytes

pub record OfBytes (l : List ℕ) : Type 0 where
  -- the number in each place is below 256
  pub at : (i : ℕ) → get_or l i 0 < 256

no_bytes : OfBytes []
no_bytes = record { at = λ i. omega arith }

one_more : (x : ℕ) (l : List ℕ) → x < 256 → OfBytes l → OfBytes (x ∷ l)
one_more x l h p = record { at = each }
  where
    each : (i : ℕ) → get_or (x ∷ l) i 0 < 256
    each zero = h
    each (suc i) = p.at i

rest-bytes : (x : ℕ) (l : List ℕ) → OfBytes (x ∷ l) → OfBytes l
rest-bytes x l p = record { at = λ i. p.at (suc i) }

append-bytes : (a b : List ℕ) → OfBytes a → OfBytes b → OfBytes (a ++ b)
append-bytes [] b p q = q
append-bytes (x ∷ a) b p q = one_more x (a ++ b) (p.at 0) (append-bytes a b (rest-bytes x a p) q)

drop-bytes : (n : ℕ) (l : List ℕ) → OfBytes l → OfBytes (drop n l)
drop-bytes n l p = record { at = λ i. rw (get_or-drop n l i 0) (p.at (n + i)) }

take-bytes : (n : ℕ) (l : List ℕ) → OfBytes l → OfBytes (take n l)
take-bytes zero l p = no_bytes
take-bytes (suc n) [] p = no_bytes
take-bytes (suc n) (x ∷ l) p = one_more x (take n l) (p.at 0) (take-bytes n l (rest-bytes x l p))

-- a list of zeros is a list of bytes
pub zero-bytes : (n : ℕ) → OfBytes (replicate n 0)
zero-bytes zero = no_bytes
zero-bytes (suc n) = one_more 0 (replicate n 0) (omega arith) (zero-bytes n)

-- with a space for none
or-space : (l : List ℕ) → OfBytes l → (i : ℕ) → get_or l i 32 < 256
or-space [] p i = omega arith
or-space (x ∷ l) p zero = p.at 0
or-space (x ∷ l) p (suc i) = or-space l (rest-bytes x l p) i

set-bytes : (l : List ℕ) (n v : ℕ) → v < 256 → OfBytes l → OfBytes (set l n v)
set-bytes l n v h p = record { at = λ i. go i (eqb i n) refl (lt-or-ge n (length l)) }
  where
    go : (i : ℕ) (b : Bool) → eqb i n ≡ b → (n < length l) ⊎ (length l ≤ n) → get_or (set l n v) i 0 < 256
    go i b q (inr g) = rw (set_out l n v g) (p.at i)
    go i true q (inl g) = rw (eqb-true i n q, get_or-set_same l n v 0 g) h
    go i false q (inl g) = rw (get_or-set_other l n i v 0 (eqb-false i n q)) (p.at i)

-- a map of bytes in which a bit is set is a map of bytes
pub bit-bytes : (map : List ℕ) (s : ℕ) → OfBytes map → OfBytes (set_bit map s)
unfolding set_bit
bit-bytes map s p =
    let l : 7 - s % 8 < 8 = omega arith in
    set-bytes map (s / 8) (bit_or (get_or map (s / 8) 0) (2 ^ (7 - s % 8))) (or_lt 8 (get_or map (s / 8) 0) (2 ^ (7 - s % 8)) (p.at (s / 8)) (pow-lt l)) p

-- ---- a line

trimmed-bytes : (l : List ℕ) → OfBytes l → OfBytes (trimmed l)
unfolding trimmed
trimmed-bytes [] p = p
trimmed-bytes (x ∷ l) p = go (blank x && eqb (length (trimmed l)) 0) (trimmed-bytes l (rest-bytes x l p))
  where
    go : (b : Bool) → OfBytes (trimmed l) → OfBytes (cond b [] (x ∷ trimmed l))
    go true q = no_bytes
    go false q = one_more x (trimmed l) (p.at 0) q

bare-bytes : (first : Bool) (l : List ℕ) → OfBytes l → OfBytes (bare_text first l)
unfolding bare_text unmarked
bare-bytes true l p = drop-bytes (mark_length l) l p
bare-bytes false l p = p

words-bytes : (begun l : List ℕ) → OfBytes begun → OfBytes l → (k : ℕ) → OfBytes (get_or (words_from begun l) k [])
unfolding words_from
words-bytes begun [] p q zero = p
words-bytes begun [] p q (suc k) = no_bytes
words-bytes begun (x ∷ l) p q k =
    go (eqb x 32) k (λ n. words-bytes [] l no_bytes (rest-bytes x l q) n)
    (λ n. words-bytes (begun ++ (x ∷ [])) l (append-bytes begun (x ∷ []) p (one_more x [] (q.at 0) no_bytes)) (rest-bytes x l q) n)
  where
    go : (b : Bool) (k : ℕ) → ((n : ℕ) → OfBytes (get_or (words_from [] l) n [])) → ((n : ℕ) → OfBytes (get_or (words_from (begun ++ (x ∷ [])) l) n []))
        → OfBytes (get_or (cond b (begun ∷ words_from [] l) (words_from (begun ++ (x ∷ [])) l)) k [])
    go true zero anew on = p
    go true (suc k) anew on = anew k
    go false k anew on = on k

word_bytes : (l : List ℕ) → OfBytes l → (k : ℕ) → OfBytes (word_at l k)
unfolding word_at
word_bytes l p k = words-bytes [] l no_bytes p k

four-bytes : (l : List ℕ) (at : ℕ) → OfBytes l → OfBytes (four_bytes l at)
unfolding four_bytes
four-bytes l at p =
    one_more _ _ (p.at at) (one_more _ _ (p.at (at + 1)) (one_more _ _ (p.at (at + 2)) (one_more _ _ (p.at (at + 3)) no_bytes)))

three-bytes : (l : List ℕ) (at : ℕ) → OfBytes l → OfBytes (three_bytes l at)
unfolding three_bytes
three-bytes l at p = one_more _ _ (p.at at) (one_more _ _ (p.at (at + 1)) (one_more _ _ (p.at (at + 2)) no_bytes))

id-bytes : (l : List ℕ) → OfBytes l → OfBytes (id_bytes l)
unfolding id_bytes
id-bytes l p =
    one_more _ _ (or-space l p 0) (one_more _ _ (or-space l p 1) (one_more _ _ (or-space l p 2) (one_more _ _ (or-space l p 3) no_bytes)))

two_bytes : (n : ℕ) (l : List ℕ) → n ≤ 65535 → OfBytes l → OfBytes (n / 256 ∷ n % 256 ∷ l)
two_bytes n l h p = one_more (n / 256) (n % 256 ∷ l) (omega arith) (one_more (n % 256) l (omega arith) p)

field-bytes : (id group market : List ℕ) (kind shares tick : ℕ) (currency : List ℕ) (part : ℕ) → OfBytes id → OfBytes group → OfBytes market → kind ≤ 255
    → shares ≤ 65535 → tick ≤ 65535 → OfBytes currency → part ≤ 65535 → OfBytes (field_bytes id group market kind shares tick currency part)
unfolding field_bytes four_bytes three_bytes
field-bytes id group market kind shares tick currency part a b c k s t d p =
    append-bytes (four_bytes id 0) _ (four-bytes id 0 a)
    (append-bytes (four_bytes group 0) _ (four-bytes group 0 b)
    (append-bytes (four_bytes market 0) _ (four-bytes market 0 c)
    (append-bytes (kind ∷ shares / 256 ∷ shares % 256 ∷ tick / 256 ∷ tick % 256 ∷ []) _
    (one_more kind _ (omega arith) (two_bytes shares _ s (two_bytes tick [] t no_bytes)))
    (append-bytes (three_bytes currency 0) _ (three-bytes currency 0 d)
    (append-bytes (part / 256 ∷ part % 256 ∷ []) _ (two_bytes part [] p no_bytes) (zero-bytes 10))))))

shares-most : (w : List ℕ) → (shares_read w).value ≤ 65535
unfolding shares_read
shares-most w = at_most (cond (pointed w) (take (length w - 5) w) w) 65535 _ refl

part-most : (w : List ℕ) → (part_read w).value ≤ 65535
unfolding part_read
part-most w = go (pointed w)
  where
    go : (b : Bool) → (cond b (word_number (drop (length w - 4) w) 9999) (record { there = true; value = 0 })).value ≤ 65535
    go true = omega (arith, at_most (drop (length w - 4) w) 9999 _ refl)
    go false = omega arith

-- an entry whose record is one of bytes
record Fit (e : Entry) : Type 0 where
  bytes : OfBytes e.«record»

either-fit : (b : Bool) (x y : Entry) → Fit x → Fit y → Fit (cond b x y)
either-fit true x y p q = p
either-fit false x y p q = q

other-fit : Fit other_entry
other-fit = record { bytes = zero-bytes 32 }

module _ (l : List ℕ) where
  cover-fit : Fit (cover_entry l)
  unfolding cover_entry
  cover-fit = either-fit (letter_form l 3 && (cover_at l 1 2).there) _ other_entry (record { bytes = zero-bytes 32 }) other-fit

  seed-fit : Fit (seed_entry l)
  unfolding seed_entry
  seed-fit =
      either-fit (letter_form l 4 && ((word_number (word_at l 1) 4294967295).there && (cover_at l 2 3).there)) _ other_entry
      (record { bytes = zero-bytes 32 }) other-fit

  module _ (p : OfBytes l) where
    abbrev kind : NumberRead
    kind = word_number (word_at l 4) 255

    abbrev shares : NumberRead
    shares = shares_read (word_at l 5)

    abbrev part : NumberRead
    part = part_read (word_at l 5)

    abbrev tick : NumberRead
    tick = word_number (word_at l 6) 65535

    line-bytes : OfBytes (line_record l kind.value shares.value part.value tick.value)
    unfolding line_record
    line-bytes =
        field-bytes (id_bytes (word_at l 1)) (word_at l 2) (word_at l 3) kind.value shares.value tick.value (word_at l 7) part.value
        (id-bytes (word_at l 1) (word_bytes l p 1)) (word_bytes l p 2) (word_bytes l p 3) (at_most (word_at l 4) 255 kind refl) (shares-most (word_at l 5))
        (at_most (word_at l 6) 65535 tick refl) (word_bytes l p 7) (part-most (word_at l 5))

    product-fit : Fit (product_entry l)
    unfolding product_entry
    product-fit =
        either-fit (product_form l && (kind.there && (shares.there && (part.there && tick.there)))) _ other_entry (record { bytes = line-bytes }) other-fit

day-fit : (l : ℕ → ℕ) (n : ℕ) → Fit (day_entry l n)
unfolding day_entry
day-fit l n = either-fit (day_form l n && (date_at l 2).there) _ other_entry (record { bytes = zero-bytes 32 }) other-fit

entry-fit : (l : List ℕ) → OfBytes l → Fit (entry_of l)
unfolding entry_of entry_at
entry-fit l p =
    let whole : List ℕ = take (length l) l in
    either-fit (ltb (length l) 64) _ other_entry
    (either-fit (eqb (get_or l 0 0) 89) (cover_entry whole) _ (cover-fit whole)
    (either-fit (eqb (get_or l 0 0) 83) (seed_entry whole) _ (seed-fit whole)
    (either-fit (eqb (get_or l 0 0) 80) (product_entry whole) _ (product-fit whole (take-bytes (length l) l p)) (day-fit (λ i. get_or l i 0) (length l)))))
    other-fit

said-fit : (first : Bool) (l : List ℕ) → OfBytes l → Fit (line_said first l)
unfolding line_said text_said
said-fit first l p =
    either-fit (says_nothing (bare_text first (trimmed l))) nothing_entry (entry_of (bare_text first (trimmed l))) (record { bytes = zero-bytes 32 })
    (entry-fit (bare_text first (trimmed l)) (bare-bytes first (trimmed l) (trimmed-bytes l p)))

-- ---- a calendar

-- both maps are bytes
record MapBytes (cal : Calendar) : Type 0 where
  first : OfBytes cal.closed
  second : OfBytes cal.exchange

open-maps : (c : Cover) → MapBytes (open_calendar c)
unfolding open_calendar
open-maps c = record { first = zero-bytes 736; second = zero-bytes 736 }

zero-maps : MapBytes zero_calendar
unfolding zero_calendar
zero-maps = open-maps _

close-first : (cal : Calendar) (d : ℕ) → OfBytes cal.closed → OfBytes (close_day cal d).closed
unfolding close_day
close-first cal d p = go (in_cover cal.cover d)
  where
    go : (b : Bool) → OfBytes (cond b (set_bit cal.closed (slot_of cal.cover d)) cal.closed)
    go true = bit-bytes cal.closed (slot_of cal.cover d) p
    go false = p

close-maps : (cal : Calendar) (d : ℕ) → MapBytes cal → MapBytes (close_day cal d)
close-maps cal d m = record { first = close-first cal d m.first; second = kept }
  where
    same : (close_day cal d).exchange ≡ cal.exchange
    same = close-exchange cal d

    kept : OfBytes (close_day cal d).exchange
    kept = rw same m.second

exchange-maps : (cal : Calendar) (d : ℕ) → MapBytes cal → MapBytes (close_exchange_day cal d)
unfolding close_exchange_day
exchange-maps cal d m =
    record { first = close-first cal d m.first; second = close-first (calendar_with cal.cover cal.exchange) d m.second }

either-maps : (b : Bool) (x y : Calendar) → MapBytes x → MapBytes y → MapBytes (cond b x y)
either-maps true x y p q = p
either-maps false x y p q = q

made-maps : (n day value : ℕ) (cal : Calendar) → MapBytes cal → MapBytes (made n day value cal)
unfolding made calendar_at
made-maps zero day value cal m = m
made-maps (suc n) day value cal m =
    made-maps n (suc day) (value_at day value) _
    (either-maps (closes_at cal day (value_at day value)) (close_day cal day) cal (close-maps cal day m) m)

seed-maps : (seed : ℕ) (c : Cover) → MapBytes (made_call seed c).value
unfolding made_call answer
seed-maps seed c =
    either-maps (eqb (first_no (made_asks c)) 0) (made_from seed c) zero_calendar
    (made-maps (cover_end c - cover_start c) (cover_start c) seed (open_calendar c) (open-maps c)) zero-maps

after-maps : (cal : Calendar) (e : Entry) → MapBytes cal → MapBytes (calendar_after_entry cal e)
unfolding calendar_after_entry
after-maps cal e m =
    either-maps (eqb e.letter 89) _ _ (open-maps e.cover)
    (either-maps (eqb e.letter 83) _ _ (seed-maps e.seed e.cover)
    (either-maps (eqb e.letter 67) _ _ (close-maps cal e.day m) (either-maps (eqb e.letter 88) _ _ (exchange-maps cal e.day m) m)))

-- ---- a text

-- what is said is made of bytes
record Small (c : Content) : Type 0 where
  maps : MapBytes c.calendar
  records : OfBytes c.records

either-small : (b : Bool) (x y : Content) → Small x → Small y → Small (cond b x y)
either-small true x y p q = p
either-small false x y p q = q

after-records : (room : ℕ) (records : List ℕ) (e : Entry) → OfBytes records → Fit e → OfBytes (records_after room records e)
unfolding records_after with_record
after-records room records e p q = go (eqb e.letter 80) (leb (length records + 32) room)
  where
    go : (a b : Bool) → OfBytes (cond a (cond b (records ++ e.«record») records) records)
    go true true = append-bytes records e.«record» p q.bytes
    go true false = p
    go false b = p

counted-small : (c : Content) (bad : ℕ) → Small c → Small (line_counted c bad)
counted-small c bad s = record { maps = s.maps; records = s.records }

line_small : (room : ℕ) (c : Content) (e : Entry) → Small c → Fit e → Small (line_taken room c e)
unfolding line_taken entry_taken
line_small room c e s q =
    either-small (eqb c.bad 0) _ c
    (either-small (eqb e.letter 35) (line_counted c 0) _ (counted-small c 0 s)
    (either-small (entry_fits c.begun c.calendar.cover c.seeded e) _ (line_counted c (next_line c.lines))
    (record { maps = after-maps c.calendar e s.maps; records = after-records room c.records e s.records q })
    (counted-small c (next_line c.lines) s)))
    s

lines-small : (room : ℕ) (c : Content) (n : ℕ) (begun text : List ℕ) → Small c → OfBytes begun → OfBytes text
    → Small (lines_taken room c (numbered_from n (lines_from begun text)))
unfolding lines_from lines_taken numbered_from
lines-small room c n begun [] s p q = go (eqb (length begun) 0)
  where
    go : (b : Bool) → Small (lines_taken room c (numbered_from n (cond b [] (begun ∷ []))))
    go true = s
    go false = line_small room c (line_said (eqb n 0) begun) s (said-fit (eqb n 0) begun p)
lines-small room c n begun (x ∷ rest) s p q =
    go (eqb x 10)
    (lines-small room (line_taken room c (line_said (eqb n 0) begun)) (next_line n) [] rest
    (line_small room c (line_said (eqb n 0) begun) s (said-fit (eqb n 0) begun p)) no_bytes (rest-bytes x rest q))
    (lines-small room c n (begun ++ (x ∷ [])) rest s (append-bytes begun (x ∷ []) p (one_more x [] (q.at 0) no_bytes)) (rest-bytes x rest q))
  where
    go : (b : Bool) → Small (lines_taken room (line_taken room c (line_said (eqb n 0) begun)) (numbered_from (next_line n) (lines_from [] rest)))
        → Small (lines_taken room c (numbered_from n (lines_from (begun ++ (x ∷ [])) rest)))
        → Small (lines_taken room c (numbered_from n (cond b (begun ∷ lines_from [] rest) (lines_from (begun ++ (x ∷ [])) rest))))
    go true ended on = ended
    go false ended on = on

none-small : Small no_content
unfolding no_content
none-small = record { maps = zero-maps; records = no_bytes }

text-small : (room : ℕ) (text : List ℕ) → are_bytes text ≡ true → Small (content_of room text)
unfolding content_of numbered_lines
text-small room text e = lines-small room no_content 0 [] text none-small no_bytes (record { at = byte-below text e })

-- ---- the file

module _ (cal : Calendar) (records : List ℕ) (m : MapBytes cal) (r : OfBytes records) (space : ℕ) (k : Counted cal records space) where
  header-byte : (kind number index j : ℕ) → kind < 256 → number < 65536 → index < 65536 → header_byte kind number index j < 256
  unfolding header_byte
  header-byte kind number index j a b c = go (eqb j 0) (eqb j 1) (eqb j 2) (eqb j 3) (eqb j 4) (eqb j 5)
    where
      go : (u v w x y z : Bool) → cond u kind (cond v 1 (cond w (number / 256) (cond x (number % 256) (cond y (index / 256) (cond z (index % 256) 0))))) < 256
      go true v w x y z = a
      go false true w x y z = omega arith
      go false false true x y z = omega arith
      go false false false true y z = omega arith
      go false false false false true z = omega arith
      go false false false false false true = omega arith
      go false false false false false false = omega arith

  calendar-byte : (n j : ℕ) → n < cal.cover.years → calendar_byte cal n j < 256
  unfolding calendar_byte
  calendar-byte n j h = go (ltb j 16) (ltb j 62) (ltb j 108)
    where
      go : (a b c : Bool)
          → cond a (header_byte 1 (cal.cover.first_year + n) n j)
          (cond b (get_or cal.closed (46 * n + (j - 16)) 0) (cond c (get_or cal.exchange (46 * n + (j - 62)) 0) 0)) < 256
      go true b c = header-byte 1 (cal.cover.first_year + n) n j (omega arith) (omega (arith, k.last-year)) (omega (arith, k.years-most))
      go false true c = m.first.at (46 * n + (j - 16))
      go false false true = m.second.at (46 * n + (j - 62))
      go false false false = omega arith

  product-byte : (n i j : ℕ) → i < 128 → product_byte records n i j < 256
  unfolding product_byte
  product-byte n i j h = go (ltb j 16) (ltb j 496)
    where
      go : (a b : Bool) → cond a (header_byte 2 (records_within records n) i j) (cond b (get_or records (480 * n + (j - 16)) 0) 0) < 256
      go true b = header-byte 2 (records_within records n) i j (omega arith) (omega arith) (omega arith)
      go false true = r.at (480 * n + (j - 16))
      go false false = omega arith

  block-byte : (i j : ℕ) → i < 128 → block_byte cal records i j < 256
  unfolding block_byte
  block-byte i j h = go (ltb i cal.cover.years) refl
    where
      go : (b : Bool) → ltb i cal.cover.years ≡ b → cond b (calendar_byte cal i j) (product_byte records (i - cal.cover.years) i j) < 256
      go true q = calendar-byte i j (ltb-true i cal.cover.years q)
      go false q = product-byte (i - cal.cover.years) i j h

  body_bytes : (i : ℕ) → i < 128 → OfBytes (listed 0 510 (block_byte cal records i))
  body_bytes i h = record { at = λ j. go j (lt-or-ge j 510) }
    where
      go : (j : ℕ) → (j < 510) ⊎ (510 ≤ j) → get_or (listed 0 510 (block_byte cal records i)) j 0 < 256
      go j (inl l) = rw (listed_at 510 (block_byte cal records i) j l) (block-byte i j h)
      go j (inr l) =
          omega (arith, get_or-eq_default (listed 0 510 (block_byte cal records i)) 0 {n = j} (omega (arith, listed-length 0 510 (block_byte cal records i))))

  checked-bytes : (body : List ℕ) → OfBytes body → OfBytes (checked body)
  unfolding checked
  checked-bytes body p = append-bytes body _ p (two_bytes (weighted_sum body 510 % 65521) [] (omega arith) no_bytes)

  blocks-bytes : (n : ℕ) → n ≤ 128 → OfBytes (blocks_for cal records n)
  unfolding blocks_for
  blocks-bytes zero h = no_bytes
  blocks-bytes (suc n) h =
      append-bytes (blocks_for cal records n) (block_for cal records n) (blocks-bytes n (omega arith))
      (checked-bytes (listed 0 510 (block_byte cal records n)) (body_bytes n (omega arith)))

  file-bytes : are_bytes (file_of cal records) ≡ true
  unfolding file_of
  file-bytes = are-bytes (blocks_for cal records (blocks_in cal records)) (blocks-bytes (blocks_in cal records) k.blocks-most).at

-- the file that `compose` makes of a text of bytes is one of bytes
pub text-file-bytes : (room : ℕ) (text : List ℕ) (space : ℕ) → are_bytes text ≡ true
    → first_no (write_asks (content_of room text).calendar (content_of room text).records space) ≡ 0
    → are_bytes (file_of (content_of room text).calendar (content_of room text).records) ≡ true
text-file-bytes room text space b e =
    let s = text-small room text b in
    let cal = (content_of room text).calendar in
    let records = (content_of room text).records in
    file-bytes cal records s.maps s.records space (counted cal records space (writable cal records space e))
