-- The line of a row says the row again: its five fields are the words that were printed, and each word is read back.
-- Assumes nothing.
use mathlib.Core.Path.{◌≡◌, refl, sym, ap, ◌∙◌}
use mathlib.Core.List.{List, [], ◌∷◌, ◌++◌, append_assoc}
use mathlib.Core.Bool.{Bool, true, false, not}
use Prim.Native.Nat.{ℕ, ◌+◌, ◌≤◌, ◌<◌}
use native.Mathlib.Omega.{arith}
use lib.Dec.{eqb}
use lib.ListN.{length, length-append}
use borrow.Author.Tests.{le-leb, ne_eqb}
use Rattle.product.specs.Fields.{is_weekly}
use Rattle.listing.specs.declared.Maturity.{Maturity}
use Rattle.session_lines.specs.CommandLines.{lines_from}
use Rattle.session_text.specs.TermsText.{decimal, day_text, name_text}
use Rattle.file_text_print.specs.Contents.{id_text}
use Rattle.file_text_print.proofs.TextLengths.{decimal-short, day-long, id-short}
use Rattle.file_text_lines.specs.declared.NumberRead.{NumberRead}
use Rattle.file_text_lines.specs.Entries.{word_number, id_bytes}
use Rattle.confirm_lines.specs.ListingLines.{date_in}
use Rattle.delivery_lines.specs.NoticeLines.{is_id}
use Rattle.delivery_items.specs.declared.ItemRead.{ItemRead}
use Rattle.delivery_items.specs.Items.{fields_of, raw_field, field_at, maturity_read, key_read, short_item, full_item, fields_item, item_of, is_product_word, headed}
use Rattle.delivery_items.specs.Items.{line_read}
use Rattle.delivery_rows.specs.Delivery.{Row, row_text}
use Rattle.delivery_own.specs.Own.{row_line, item_back}
use Rattle.delivery_own.proofs.RowBytes.{all_of, plain, in_row, comma-in, all_append, all_more, field_in, field_next, field-last, no-quotes, no-blanks}
use Rattle.delivery_own.proofs.RowBytes.{one_line}
use Rattle.delivery_own.proofs.WordsReadBack.{IdBack, number-back, number-plain}
use Rattle.delivery_own.proofs.DatesReadBack.{NameBack, day_read, day-back, day-plain}

-- ---- five words with commas between them

module _ (a b c d e : List ℕ) where
  abbrev joined : List ℕ
  joined = a ++ (44 ∷ (b ++ (44 ∷ (c ++ (44 ∷ (d ++ (44 ∷ e)))))))

  module _ (pa : all_of plain a ≡ true) (pb : all_of plain b ≡ true) (pc : all_of plain c ≡ true) (pd : all_of plain d ≡ true) (pe : all_of plain e ≡ true) where
    five : fields_of joined ≡ a ∷ b ∷ c ∷ d ∷ e ∷ []
    five =
        field_next a (b ++ (44 ∷ (c ++ (44 ∷ (d ++ (44 ∷ e)))))) pa
        ∙ ap (λ (ws : List (List ℕ)). a ∷ ws)
        (field_next b (c ++ (44 ∷ (d ++ (44 ∷ e)))) pb
        ∙ ap (λ (ws : List (List ℕ)). b ∷ ws)
        (field_next c (d ++ (44 ∷ e)) pc
        ∙ ap (λ (ws : List (List ℕ)). c ∷ ws) (field_next d e pd ∙ ap (λ (ws : List (List ℕ)). d ∷ ws) (field-last e pe))))

    after : (x y : List ℕ) → all_of plain x ≡ true → all_of in_row y ≡ true → all_of in_row (x ++ (44 ∷ y)) ≡ true
    after x y p q = all_append in_row x (44 ∷ y) (field_in x p) (all_more in_row 44 y comma-in q)

    all_in : all_of in_row joined ≡ true
    all_in =
        after a (b ++ (44 ∷ (c ++ (44 ∷ (d ++ (44 ∷ e)))))) pa
        (after b (c ++ (44 ∷ (d ++ (44 ∷ e)))) pb (after c (d ++ (44 ∷ e)) pc (after d e pd (field_in e pe))))

    item-is : fields_item joined ≡ full_item (short_item a c d) (word_number b 65535) (word_number e 65535)
    unfolding fields_item field_at raw_field
    item-is = rw (five, no-quotes a pa, no-quotes b pb, no-quotes c pc, no-quotes d pd, no-quotes e pe) refl

    heading-is : headed joined ≡ is_product_word a
    unfolding headed field_at raw_field
    heading-is = rw (five, no-quotes a pa) refl

  joined_length : length joined ≡ length a + (1 + (length b + (1 + (length c + (1 + (length d + (1 + length e)))))))
  joined_length =
      omega (
        arith,
        length-append a (44 ∷ (b ++ (44 ∷ (c ++ (44 ∷ (d ++ (44 ∷ e))))))),
        length-append b (44 ∷ (c ++ (44 ∷ (d ++ (44 ∷ e))))),
        length-append c (44 ∷ (d ++ (44 ∷ e))),
        length-append d (44 ∷ e),
      )

-- ---- what the words say

short-is : (id name last four : List ℕ) (w : Bool) (k d : ℕ) → is_id id ≡ true → id_bytes id ≡ four → eqb (maturity_read name).letter 0 ≡ false
    → not (eqb (length name) 7) ≡ w → key_read name (maturity_read name).day ≡ k → date_in last ≡ day_read d
    → short_item id name last ≡ record { there = true; id = four; weekly = w; key = k; day = d; full = false; number = 0; back = 0 }
unfolding short_item
short-is id name last four w k d i f t q r l = rw (i, f, t, q, r, l) refl

full_is : (item : ItemRead) (n b : ℕ) (number back : NumberRead) → item.there ≡ true
    → number ≡ record { there = true; value = n } → back ≡ record { there = true; value = b }
    → full_item item number back
    ≡ record { there = true; id = item.id; weekly = item.weekly; key = item.key; day = item.day; full = true; number = n; back = b }
unfolding full_item
full_is item n b number back t p q = rw (t, p, q) refl

no_word : (field : List ℕ) → length field ≤ 4 → is_product_word field ≡ false
unfolding is_product_word
no_word field h = rw (ne_eqb (length field) 7 (λ e. omega arith)) refl

-- ---- a row

-- what is needed of a row: an id of a file, and numbers that can be printed
pub record Printable (r : Row) : Type 0 where
  -- its id is read back
  pub id : IdBack r.id
  -- its id has four bytes
  pub four : length r.id ≡ 4
  -- the name of its maturity is read back
  pub name : NameBack r.kind r.maturity.key
  -- its last trading day is before 2100
  pub day : r.maturity.day < 36525
  -- its listing number has 16 bits
  pub number : r.maturity.number ≤ 65535
  -- its days back have 16 bits
  pub back : r.maturity.back ≤ 65535

module _ (r : Row) (p : Printable r) where
  abbrev m : Maturity
  m = r.maturity

  abbrev a : List ℕ
  a = id_text r.id

  abbrev b : List ℕ
  b = decimal r.maturity.number

  abbrev c : List ℕ
  c = name_text r.kind r.maturity.key

  abbrev d : List ℕ
  d = day_text r.maturity.day

  abbrev e : List ℕ
  e = decimal r.maturity.back

  pa : all_of plain (id_text r.id) ≡ true
  pa = p.id.fields

  pb : all_of plain (decimal r.maturity.number) ≡ true
  pb = number-plain r.maturity.number p.number

  pc : all_of plain (name_text r.kind r.maturity.key) ≡ true
  pc = p.name.fields

  pd : all_of plain (day_text r.maturity.day) ≡ true
  pd = day-plain r.maturity.day

  pe : all_of plain (decimal r.maturity.back) ≡ true
  pe = number-plain r.maturity.back p.back

  few : length a ≤ 4
  few = omega (arith, id-short r.id, p.four)

  line-in : all_of in_row (row_line r) ≡ true
  unfolding row_line
  line-in = all_in a b c d e pa pb pc pd pe

  line-short : (length (row_line r) ≤ 255) × (1 ≤ length (row_line r))
  unfolding row_line
  line-short =
      let n : length (joined a b c d e) ≡ length a + (1 + (length b + (1 + (length c + (1 + (length d + (1 + length e))))))) = joined_length a b c d e in
      (omega (arith, n, few, decimal-short m.number, p.name.short, day-long m.day, decimal-short m.back), omega (arith, n))

  -- its text is its line and a line feed
  text-is : row_text r ≡ row_line r ++ (10 ∷ [])
  unfolding row_text row_line
  text-is =
      sym (append_assoc a (44 ∷ (b ++ (44 ∷ (c ++ (44 ∷ (d ++ (44 ∷ e))))))) (10 ∷ [])
      ∙ ap (λ (w : List ℕ). a ++ (44 ∷ w))
      (append_assoc b (44 ∷ (c ++ (44 ∷ (d ++ (44 ∷ e))))) (10 ∷ [])
      ∙ ap (λ (w : List ℕ). b ++ (44 ∷ w))
      (append_assoc c (44 ∷ (d ++ (44 ∷ e))) (10 ∷ [])
      ∙ ap (λ (w : List ℕ). c ++ (44 ∷ w)) (append_assoc d (44 ∷ e) (10 ∷ [])))))

  -- the text of such a row is one line before the lines of any rest
  pub line_of : (rest : List ℕ) → lines_from [] (row_text r ++ rest) ≡ row_line r ∷ lines_from [] rest
  line_of rest =
      ap (λ (w : List ℕ). lines_from [] (w ++ rest)) text-is
      ∙ ap (lines_from []) (append_assoc (row_line r) (10 ∷ []) rest)
      ∙ one_line (row_line r) rest line-in

  item-of : fields_item (row_line r) ≡ item_back r
  unfolding row_line
  item-of =
      item-is a b c d e pa pb pc pd pe
      ∙ ap (λ (i : ItemRead). full_item i (word_number b 65535) (word_number e 65535))
      (short-is a c d r.id (is_weekly r.kind) m.key m.day p.id.right p.id.bytes p.name.there p.name.weekly p.name.key
      (day-back m.day p.day))
      ∙ full_is _ m.number m.back (word_number b 65535) (word_number e 65535) refl (number-back m.number p.number) (number-back m.back p.back)

  no-heading : headed (row_line r) ≡ false
  unfolding row_line
  no-heading = heading-is a b c d e pa pb pc pd pe ∙ no_word a few

  -- its line is read as a good row of five fields, with all that was printed
  pub line-says : line_read (row_line r) ≡ record { empty = false; heading = false; item = item_back r }
  unfolding line_read item_of
  line-says =
      let s : (length (row_line r) ≤ 255) × (1 ≤ length (row_line r)) = line-short in
      let n : 1 ≤ length (row_line r) = s.1 in
      rw (no-blanks (row_line r) line-in, ne_eqb (length (row_line r)) 0 (λ q. omega arith), no-heading, le-leb (length (row_line r)) 255 s.0, item-of) refl
