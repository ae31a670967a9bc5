-- The rows of an opened product can be printed and read back: its id is right, and the keys, days, numbers and days back of a sound table are within
-- the bounds of dates and of 16 bits.
-- Assumes nothing.
use mathlib.Core.Path.{◌≡◌, refl, ap, ◌∙◌}
use mathlib.Core.List.{List}
use mathlib.Core.Bool.{Bool, true, false, not, ◌&&◌, cond}
use Prim.Native.Nat.{ℕ, ◌+◌, ◌-◌, ◌/◌, ◌%◌, ◌≤◌, ◌<◌}
use native.Mathlib.Omega.{arith}
use lib.ListN.{length, get_or}
use lib.Seq.{get_or-take}
use Rattle.questions.specs.Questions.{first_no}
use Rattle.questions.proofs.Bools.{or_right}
use Rattle.days.proofs.MonthOfDay.{month-most}
use Rattle.days.proofs.Years.{year-start-most}
use Rattle.calendar.specs.declared.Cover.{Cover}
use Rattle.calendar.specs.Trading.{cover_end}
use Rattle.product.specs.declared.Kind.{Kind}
use Rattle.product.specs.declared.Product.{Product}
use Rattle.product.specs.Fields.{is_weekly, id_right, group_right, market_right, kind_right, size_right, tick_right, currency_right, fields_right, product_right}
use Rattle.product.specs.Fields.{kind_number}
use Rattle.expiry.specs.declared.LastDay.{LastDay}
use Rattle.expiry.specs.LastDays.{key_of, anchor_of, last_day, last_trading_day, worked_out}
use Rattle.listing.specs.declared.Maturity.{Maturity}
use Rattle.listing.specs.Rules.{Rule, fresh_keys, unused}
use Rattle.listing.specs.Months.{places_of_kind, cover_rule, keys_of}
use Rattle.listing.proofs.KeyCounts.{count_most}
use Rattle.listing.proofs.Lawful.{Lawful, complete-length, day-anchor, key-at}
use Rattle.listing.proofs.OfKinds.{rule-lawful, rule-places, rule-beyond, rule-keys, rule-begins, rule-deep}
use Rattle.file_records.specs.Records.{record_of, four_bytes}
use Rattle.file_ids.specs.Ids.{is_record, id_at}
use Rattle.file_load.specs.Products.{product_from, product_at}
use Rattle.file_load.specs.Load.{load_asks, found, product_of}
use Rattle.file_load.proofs.Accepting.{accepted-file}
use Rattle.table.specs.declared.Table.{Table}
use Rattle.table.specs.Table.{listed_in, sound, rule_in}
use Rattle.history.proofs.SoundTables.{listed-length, sound-numbered, given-bound, last-right, back-most, sound-opened, key_right, number-right}
use Rattle.delivery_rows.specs.Delivery.{Row, delivery_row}
use Rattle.delivery_receipts.specs.Receipts.{form_fits}
use Rattle.delivery_own.specs.Own.{item_back, ReadBack}
use Rattle.delivery_own.proofs.WordsReadBack.{IdBack, id-back}
use Rattle.delivery_own.proofs.DatesReadBack.{NameBack, friday-back, month-name-back}
use Rattle.delivery_own.proofs.RowsReadBack.{Printable, line_of, line-says}

-- ---- the id

first-of-seven : (a b c d e f g : Bool) → (a && b && c && d && e && f && g) ≡ true → a ≡ true
first-of-seven true b c d e f g q = refl
first-of-seven false b c d e f g q = q

product-id : (p : Product) → product_right p ≡ true → id_right p.id ≡ true
unfolding product_right fields_right
product-id p e =
    first-of-seven (id_right p.id) (group_right p.group (kind_number p.kind)) (market_right p.market)
    (kind_right (kind_number p.kind)) (size_right p.size) (tick_right p.tick)
    (currency_right p.currency) e

module _ (f : List ℕ) (p : ℕ) (a : first_no (load_asks f) ≡ 0) (h : is_record f p ≡ true) where
  place-right : id_right (id_at f p) ≡ true
  unfolding id_at product_at product_from
  place-right = product-id (product_at f (p / 15) (p % 15)) ((accepted-file f a).products p h)

  place-back : IdBack (id_at f p)
  unfolding id_at four_bytes
  place-back =
      let r : List ℕ = record_of _ (p % 15) in
      id-back (get_or r 0 0) (get_or r 1 0) (get_or r 2 0) (get_or r 3 0) place-right

id-four : (f : List ℕ) (p : ℕ) → length (id_at f p) ≡ 4
unfolding id_at four_bytes
id-four f p = refl

-- ---- the maturities

cover-end-most : (c : Cover) → cover_end c ≤ 36525
unfolding cover_end
cover-end-most c = year-start-most (c.first_year + c.years)

keys-most : (c : Cover) (kind : Kind) (group : List ℕ) → keys_of c kind ≤ 36525
keys-most c kind group =
    let r : Rule = cover_rule c kind group in
    omega (arith, rule-keys c kind group, count_most r.counted (r.beyond - r.first) r.first, rule-beyond c kind group)

beyond-months : (c : Cover) (kind : Kind) (group : List ℕ) → is_weekly kind ≡ false → (cover_rule c kind group).beyond ≤ 1200
unfolding cover_rule key_of
beyond-months c kind group e = rw e (month-most (cover_end c))

module _ (t : Table) (e : sound t ≡ true) (i : ℕ) (h : i < places_of_kind t.product.kind) where
  abbrev r : Rule
  r = rule_in t t.calendar

  abbrev w : Lawful (rule_in t t.calendar)
  w = rule-lawful t.calendar.cover t.product.kind t.product.group

  abbrev m : Maturity
  m = get_or t.maturities i unused

  abbrev key : ℕ
  key = get_or (fresh_keys (rule_in t t.calendar) t.calendar t.date) i 0

  as_many : length (fresh_keys r t.calendar t.date) ≡ places_of_kind t.product.kind
  as_many = complete-length r w t.calendar t.date (sound-opened t e).full ∙ rule-places t.calendar.cover t.product.kind t.product.group

  key_below : m.key < r.beyond
  key_below = omega (arith, key_right t e i h, (key-at r w t.calendar t.date i (omega (arith, as_many))).below)

  name_back : NameBack t.product.kind m.key
  name_back = go (is_weekly t.product.kind) refl
    where
      go : (b : Bool) → is_weekly t.product.kind ≡ b → NameBack t.product.kind m.key
      go true q =
          friday-back t.product.kind m.key q (omega (arith, key_below, rule-beyond t.calendar.cover t.product.kind t.product.group))
      go false q =
          month-name-back t.product.kind m.key q (omega (arith, key_below, beyond-months t.calendar.cover t.product.kind t.product.group q))

  day-is : m.day ≡ last_day t.calendar (anchor_of t.product.kind t.product.group key)
  unfolding worked_out last_trading_day
  day-is =
      ap (λ (x : LastDay). x.day) (last-right t e i h)
      ∙ ap (λ (k : ℕ). last_day t.calendar (anchor_of t.product.kind t.product.group k)) (key_right t e i h)

  day-below : m.day < 36525
  unfolding cover_rule
  day-below =
      let o = sound-opened t e in
      let k = key-at r w t.calendar t.date i (omega (arith, as_many)) in
      let b = rule-begins t.calendar.cover t.product.kind t.product.group t.calendar t.date o.covered in
      let d = rule-deep t.calendar.cover t.product.kind t.product.group o.valid t.date o.covered o.week key
      (omega (arith, k.from, b)) k.below in
      omega (arith, day-is, day-anchor r w t.calendar key, d.1, cover-end-most t.calendar.cover)

  number-below : m.number ≤ 65535
  number-below =
      omega (
        arith,
        number-right t e i h,
        (sound-numbered t e).numbers.small m.key,
        given-bound t e,
        keys-most t.calendar.cover t.product.kind t.product.group,
      )

  -- the row of a listed maturity of a sound table can be printed and read back, with any id of four bytes that is read back
  pub row-prints : (id : List ℕ) → IdBack id → length id ≡ 4 → Printable (delivery_row id t.product.kind m)
  row-prints id b four =
      record {
        id = b;
        four = four;
        name = name_back;
        day = day-below;
        number = number-below;
        back = omega (arith, back-most t e i h);
      }

-- ---- the rows of a table

-- a maturity has the form of its product's kind
form-fits : (f : List ℕ) (r : Row) → r.kind ≡ (product_of f r.id).kind → form_fits f (item_back r) ≡ true
unfolding form_fits
form-fits f r q = or_right (not (found f r.id)) (rw (← q) (go (is_weekly r.kind)))
  where
    go : (b : Bool) → cond b b (not b) ≡ true
    go true = refl
    go false = refl

module _ (f : List ℕ) (p : ℕ) (a : first_no (load_asks f) ≡ 0) (h : is_record f p ≡ true) (there : found f (id_at f p) ≡ true)
    (t : Table) (e : sound t ≡ true) (q : t.product.kind ≡ (product_of f (id_at f p)).kind) where
  -- the row of each maturity that a sound table of the kind of a place's product lists is read back
  pub row_back : (i : ℕ) → i < length (listed_in t) → ReadBack f (delivery_row (id_at f p) t.product.kind (get_or (listed_in t) i unused))
  row_back i l =
      let k : i < places_of_kind t.product.kind = omega (arith, listed-length t e) in
      let s : get_or (listed_in t) i unused ≡ get_or t.maturities i unused = get_or-take (places_of_kind t.product.kind) t.maturities i unused k in
      let x : Row = delivery_row (id_at f p) t.product.kind (get_or t.maturities i unused) in
      let b : Printable x = row-prints t e i k (id_at f p) (place-back f p a h) (id-four f p) in
      rw s (record { line = line_of x b; says = line-says x b; fits = form-fits f x q; known = there })
