-- The line of a product is its record again.
-- Assumes nothing.
use mathlib.Core.Path.{◌≡◌, sym, ap, ap₂, ◌∙◌}
use mathlib.Core.List.{List, [], ◌∷◌, ◌++◌, append_assoc}
use mathlib.Core.Bool.{true, false, ◌&&◌, ◌||◌}
use mathlib.Core.Logic.{◌⊎◌, inl, inr}
use Prim.Native.Nat.{ℕ, ◌+◌, ◌/◌, ◌%◌, ◌≤◌, ◌<◌}
use native.Mathlib.Omega.{arith}
use lib.Dec.{eqb, leb}
use lib.ListN.{length, get_or, take, drop, replicate, length-drop, get_or-replicate, take-append-drop}
use lib.Seq.{ext_get_or, length-take-le, get_or-take, get_or-drop, take-length}
use borrow.Author.Tests.{leb-true, lt-ltb, eqb-true}
use Rattle.questions.proofs.Bools.{both, or-either}
use Rattle.questions.proofs.Search.{every-at}
use Rattle.product.specs.Fields.{letter, digit, id_right, first_digit, group_right, market_right, kind_right, size_right, tick_right, is_code, one_of_codes}
use Rattle.product.specs.Fields.{currency_right, fields_right, EUR, CHF, USD, GBP, GBX}
use Rattle.file_blocks.specs.Blocks.{number_at}
use Rattle.file_records.specs.Records.{three_bytes, four_bytes, size_at, record_right}
use Rattle.file_records.proofs.RecordParts.{RecordParts, record-parts}
use Rattle.file_calendar.specs.Calendars.{listed}
use Rattle.file_calendar.proofs.Filling.{listed-length, listed_at}
use Rattle.file_write.specs.Writing.{field_bytes}
use Rattle.file_write.specs.FilesWritten.{are_bytes}
use Rattle.file_write.proofs.ZeroBytes.{byte-below, zero-at}
use Rattle.session_text.specs.TermsText.{decimal, spaced}
use Rattle.file_text_print.specs.Contents.{id_text, part_text, product_text}
use Rattle.file_text_lines.specs.declared.Entry.{Entry}
use Rattle.file_text_lines.specs.Entries.{words_from, word_at, letter_form, product_form, line_record, product_entry, entry_at, entry_of}
use Rattle.delivery_lines.specs.NoticeLines.{is_id}
use Rattle.delivery_own.proofs.RowBytes.{all_of, plain, plain-is, all_more, all_none}
use Rattle.delivery_own.proofs.WordsReadBack.{IdBack, id-back, number-back, number-plain}
use Rattle.file_text_again.proofs.LinesParted.{word_next, word-last}
use Rattle.file_text_again.proofs.RecordAgain.{letter-plain, digit-plain, kind-back, SizeBack, size_back}

-- ---- eight words with spaces between them

module _ (a b c d e f g h : List ℕ) where
  -- eight words with a space between each and the next
  abbrev pub joined : List ℕ
  joined = a ++ (32 ∷ (b ++ (32 ∷ (c ++ (32 ∷ (d ++ (32 ∷ (e ++ (32 ∷ (f ++ (32 ∷ (g ++ (32 ∷ h)))))))))))))

  eight : all_of plain a ≡ true → all_of plain b ≡ true → all_of plain c ≡ true → all_of plain d ≡ true → all_of plain e ≡ true → all_of plain f ≡ true
      → all_of plain g ≡ true → all_of plain h ≡ true
      → words_from [] joined ≡ a ∷ b ∷ c ∷ d ∷ e ∷ f ∷ g ∷ h ∷ []
  eight pa pb pc pd pe pf pg ph =
      word_next a (b ++ (32 ∷ (c ++ (32 ∷ (d ++ (32 ∷ (e ++ (32 ∷ (f ++ (32 ∷ (g ++ (32 ∷ h)))))))))))) pa
      ∙ ap (λ (ws : List (List ℕ)). a ∷ ws)
      (word_next b (c ++ (32 ∷ (d ++ (32 ∷ (e ++ (32 ∷ (f ++ (32 ∷ (g ++ (32 ∷ h)))))))))) pb
      ∙ ap (λ (ws : List (List ℕ)). b ∷ ws)
      (word_next c (d ++ (32 ∷ (e ++ (32 ∷ (f ++ (32 ∷ (g ++ (32 ∷ h)))))))) pc
      ∙ ap (λ (ws : List (List ℕ)). c ∷ ws)
      (word_next d (e ++ (32 ∷ (f ++ (32 ∷ (g ++ (32 ∷ h)))))) pd
      ∙ ap (λ (ws : List (List ℕ)). d ∷ ws)
      (word_next e (f ++ (32 ∷ (g ++ (32 ∷ h)))) pe
      ∙ ap (λ (ws : List (List ℕ)). e ∷ ws)
      (word_next f (g ++ (32 ∷ h)) pf
      ∙ ap (λ (ws : List (List ℕ)). f ∷ ws)
      (word_next g h pg ∙ ap (λ (ws : List (List ℕ)). g ∷ ws) (word-last h ph)))))))

-- ---- the line of a record

abbrev size_word : List ℕ → List ℕ
size_word r = decimal (number_at r 13) ++ part_text (number_at r 20)

-- the line of a product, without its line feed: P and seven words of its record
abbrev pub product_line : List ℕ → List ℕ
product_line r =
    joined (80 ∷ []) (id_text (four_bytes r 0)) (four_bytes r 4) (four_bytes r 8) (decimal (get_or r 12 0)) (size_word r) (decimal (number_at r 15)) (three_bytes r 17)

-- the text of a product is its line and a line feed
pub product-text : (r : List ℕ) → product_text r ≡ product_line r ++ (10 ∷ [])
unfolding product_text spaced
product-text r = simp append_assoc

-- what the line of a product says: the letter P and its record
abbrev pub product_read : List ℕ → Entry
product_read r = record { letter = 80; cover = record { first_year = 0; years = 0 }; seed = 0; day = 0; «record» = r }

-- ---- the bytes of a right record's words

four-plain : (w : List ℕ) → plain (get_or w 0 0) ≡ true → plain (get_or w 1 0) ≡ true → plain (get_or w 2 0) ≡ true → plain (get_or w 3 0) ≡ true
    → all_of plain (four_bytes w 0) ≡ true
unfolding four_bytes
four-plain w a b c d =
    all_more plain (get_or w 0 0) (get_or w 1 0 ∷ get_or w 2 0 ∷ get_or w 3 0 ∷ []) a
    (all_more plain (get_or w 1 0) (get_or w 2 0 ∷ get_or w 3 0 ∷ []) b
    (all_more plain (get_or w 2 0) (get_or w 3 0 ∷ []) c (all_more plain (get_or w 3 0) [] d (all_none plain))))

group-plain : (x y z w kind : ℕ) → group_right (x ∷ y ∷ z ∷ w ∷ []) kind ≡ true → all_of plain (x ∷ y ∷ z ∷ w ∷ []) ≡ true
unfolding group_right
group-plain x y z w kind e =
    let s = both (letter x && letter y && digit z && digit w) (eqb z (first_digit kind)) e in
    let t = both (letter x && letter y && digit z) (digit w) s.0 in
    let u = both (letter x && letter y) (digit z) t.0 in
    let v = both (letter x) (letter y) u.0 in
    all_more plain x (y ∷ z ∷ w ∷ []) (letter-plain x v.0)
    (all_more plain y (z ∷ w ∷ []) (letter-plain y v.1)
    (all_more plain z (w ∷ []) (digit-plain z u.1) (all_more plain w [] (digit-plain w t.1) (all_none plain))))

market-plain : (x y z w : ℕ) → market_right (x ∷ y ∷ z ∷ w ∷ []) ≡ true → all_of plain (x ∷ y ∷ z ∷ w ∷ []) ≡ true
unfolding market_right
market-plain x y z w e =
    let at = every-at (λ i. letter (get_or (x ∷ y ∷ z ∷ w ∷ []) i 0)) 4 in
    all_more plain x (y ∷ z ∷ w ∷ []) (letter-plain x (at 0 e (omega arith)))
    (all_more plain y (z ∷ w ∷ []) (letter-plain y (at 1 e (omega arith)))
    (all_more plain z (w ∷ []) (letter-plain z (at 2 e (omega arith))) (all_more plain w [] (letter-plain w (at 3 e (omega arith))) (all_none plain))))

-- three bytes that are a code of letters
code-plain : (a b c x y z : ℕ) → 65 ≤ a → 65 ≤ b → 65 ≤ c → is_code (a ∷ b ∷ c ∷ []) (x ∷ y ∷ z ∷ []) ≡ true → all_of plain (x ∷ y ∷ z ∷ []) ≡ true
unfolding is_code
code-plain a b c x y z ha hb hc e =
    let at = every-at (λ i. eqb (get_or (x ∷ y ∷ z ∷ []) i 0) (get_or (a ∷ b ∷ c ∷ []) i 0)) 3 in
    let p : x ≡ a = eqb-true x a (at 0 e (omega arith)) in
    let q : y ≡ b = eqb-true y b (at 1 e (omega arith)) in
    let s : z ≡ c = eqb-true z c (at 2 e (omega arith)) in
    all_more plain x (y ∷ z ∷ []) (plain-is x (omega arith) (λ k. omega arith))
    (all_more plain y (z ∷ []) (plain-is y (omega arith) (λ k. omega arith))
    (all_more plain z [] (plain-is z (omega arith) (λ k. omega arith)) (all_none plain)))

currency-plain : (x y z : ℕ) → currency_right (x ∷ y ∷ z ∷ []) ≡ true → all_of plain (x ∷ y ∷ z ∷ []) ≡ true
unfolding currency_right one_of_codes
currency-plain x y z e = one (or-either (is_code EUR w) (is_code CHF w || (is_code USD w || (is_code GBP w || (is_code GBX w || false)))) e)
  where
    w : List ℕ
    w = x ∷ y ∷ z ∷ []

    five : (is_code GBX w ≡ true) ⊎ (false ≡ true) → all_of plain w ≡ true
    five (inl q) = code-plain 71 66 88 x y z (omega arith) (omega arith) (omega arith) q
    five (inr q) = let k : false ≡ true = q in cc

    four : (is_code GBP w ≡ true) ⊎ ((is_code GBX w || false) ≡ true) → all_of plain w ≡ true
    four (inl q) = code-plain 71 66 80 x y z (omega arith) (omega arith) (omega arith) q
    four (inr q) = five (or-either (is_code GBX w) false q)

    three : (is_code USD w ≡ true) ⊎ ((is_code GBP w || (is_code GBX w || false)) ≡ true) → all_of plain w ≡ true
    three (inl q) = code-plain 85 83 68 x y z (omega arith) (omega arith) (omega arith) q
    three (inr q) = four (or-either (is_code GBP w) (is_code GBX w || false) q)

    two : (is_code CHF w ≡ true) ⊎ ((is_code USD w || (is_code GBP w || (is_code GBX w || false))) ≡ true) → all_of plain w ≡ true
    two (inl q) = code-plain 67 72 70 x y z (omega arith) (omega arith) (omega arith) q
    two (inr q) = three (or-either (is_code USD w) (is_code GBP w || (is_code GBX w || false)) q)

    one : (is_code EUR w ≡ true) ⊎ ((is_code CHF w || (is_code USD w || (is_code GBP w || (is_code GBX w || false)))) ≡ true) → all_of plain w ≡ true
    one (inl q) = code-plain 69 85 82 x y z (omega arith) (omega arith) (omega arith) q
    one (inr q) = two (or-either (is_code CHF w) (is_code USD w || (is_code GBP w || (is_code GBX w || false))) q)

-- ---- a right record of 32 bytes

pub record Fields (r : List ℕ) : Type 0 where
  -- the id is read back
  pub id : IdBack (four_bytes r 0)
  -- the bytes of the group are those of a word
  pub group : all_of plain (four_bytes r 4) ≡ true
  -- the bytes of the market are those of a word
  pub market : all_of plain (four_bytes r 8) ≡ true
  -- the kind's number is at most 5
  pub kind : get_or r 12 0 ≤ 5
  -- the bytes of the currency are those of a word
  pub currency : all_of plain (three_bytes r 17) ≡ true

module _ (r : List ℕ) (right : record_right r ≡ true) where
  -- the fields of a right record: an id that is read back, words for group, market and currency, a kind up to 5
  pub fields : Fields r
  unfolding fields_right four_bytes three_bytes
  fields =
      let e = (record-parts r right).fields in
      let s6 = both _ (currency_right (three_bytes r 17)) e in
      let s5 = both _ (tick_right (number_at r 15)) s6.0 in
      let s4 = both _ (size_right (size_at r)) s5.0 in
      let s3 = both _ (kind_right (get_or r 12 0)) s4.0 in
      let s2 = both _ (market_right (four_bytes r 8)) s3.0 in
      let s1 = both (id_right (four_bytes r 0)) (group_right (four_bytes r 4) (get_or r 12 0)) s2.0 in
      record {
        id = id-back (get_or r 0 0) (get_or r 1 0) (get_or r 2 0) (get_or r 3 0) s1.0;
        group = group-plain (get_or r 4 0) (get_or r 5 0) (get_or r 6 0) (get_or r 7 0) (get_or r 12 0) s1.1;
        market = market-plain (get_or r 8 0) (get_or r 9 0) (get_or r 10 0) (get_or r 11 0) s2.1;
        kind = leb-true (get_or r 12 0) 5 s3.1;
        currency = currency-plain (get_or r 17 0) (get_or r 18 0) (get_or r 19 0) s6.1;
      }

module _ (r : List ℕ) (long : length r ≡ 32) (bytes : are_bytes r ≡ true) (right : record_right r ≡ true) where
  parts : RecordParts r
  parts = record-parts r right

  high-again : (i : ℕ) → number_at r i / 256 ≡ get_or r i 0
  unfolding number_at
  high-again i = omega (arith, byte-below r bytes (i + 1))

  low_again : (i : ℕ) → number_at r i % 256 ≡ get_or r (i + 1) 0
  unfolding number_at
  low_again i = omega (arith, byte-below r bytes (i + 1))

  number-most : (i : ℕ) → number_at r i ≤ 65535
  unfolding number_at
  number-most i = omega (arith, byte-below r bytes i, byte-below r bytes (i + 1))

  front : take 22 r ≡ listed 0 22 (λ i. get_or r i 0)
  front =
      ext_get_or 0 (take 22 r) (listed 0 22 (λ i. get_or r i 0)) (length-take-le 22 r (omega arith) ∙ sym (listed-length 0 22 (λ i. get_or r i 0)))
      (λ j h.
      let l : j < 22 = omega (arith, length-take-le 22 r (omega arith)) in
      get_or-take 22 r j 0 l ∙ sym (listed_at 22 (λ i. get_or r i 0) j l))

  back : drop 22 r ≡ replicate 10 0
  back =
      ext_get_or 0 (drop 22 r) (replicate 10 0) (length-drop 22 r ∙ omega arith)
      (λ j h.
      let l : j < 10 = omega (arith, length-drop 22 r) in
      get_or-drop 22 r j 0 ∙ zero-at r 22 10 (22 + j) parts.rest (omega arith) (omega arith) ∙ sym (get_or-replicate 10 j 0 0 l))

  -- the fields of the record, written again, are the record
  fields-again : field_bytes (four_bytes r 0) (four_bytes r 4) (four_bytes r 8) (get_or r 12 0) (number_at r 13) (number_at r 15) (three_bytes r 17) (number_at r 20) ≡ r
  unfolding field_bytes four_bytes three_bytes listed
  fields-again =
      rw (high-again 13, low_again 13, high-again 15, low_again 15, high-again 20, low_again 20) (ap₂ ◌++◌ (sym front) (sym back) ∙ take-append-drop 22 r)

  -- the size of a right record is read back
  pub size : SizeBack (number_at r 13) (number_at r 20)
  size = size_back (number_at r 13) (number_at r 20) (number-most 13) parts.part-most

  kind-most : get_or r 12 0 ≤ 65535
  kind-most = omega (arith, (fields r right).kind)

  -- the digits of the kind are bytes of a word
  pub kind-plain : all_of plain (decimal (get_or r 12 0)) ≡ true
  kind-plain = number-plain (get_or r 12 0) kind-most

  -- the digits of the tick are bytes of a word
  pub tick-plain : all_of plain (decimal (number_at r 15)) ≡ true
  tick-plain = number-plain (number_at r 15) (number-most 15)

  words : words_from [] (product_line r)
      ≡ (80 ∷ []) ∷ id_text (four_bytes r 0) ∷ four_bytes r 4 ∷ four_bytes r 8 ∷ decimal (get_or r 12 0) ∷ size_word r ∷ decimal (number_at r 15) ∷ three_bytes r 17 ∷ []
  words =
      let f = fields r right in
      eight (80 ∷ []) (id_text (four_bytes r 0)) (four_bytes r 4) (four_bytes r 8) (decimal (get_or r 12 0)) (size_word r) (decimal (number_at r 15)) (three_bytes r 17)
      (all_more plain 80 [] (plain-is 80 (omega arith) (λ q. omega arith)) (all_none plain))
      f.id.fields f.group f.market (number-plain (get_or r 12 0) kind-most) size.bytes (number-plain (number_at r 15) (number-most 15)) f.currency

  id-lengths : (leb 1 (length (id_text (four_bytes r 0))) ≡ true) × (leb (length (id_text (four_bytes r 0))) 4 ≡ true)
  unfolding is_id
  id-lengths =
      let s = both (leb 1 (length (id_text (four_bytes r 0)))) _ (fields r right).id.right in
      (s.0, (both (leb (length (id_text (four_bytes r 0))) 4) _ s.1).0)

  product-entry : product_entry (product_line r) ≡ product_read r
  unfolding product_entry product_form letter_form word_at line_record four_bytes three_bytes
  product-entry =
      let n = id-lengths in
      rw (
        words,
        n.0,
        n.1,
        kind-back (get_or r 12 0) (fields r right).kind,
        size.shares-back,
        size.part-is,
        number-back (number_at r 15)
            (number-most 15),
        (fields r right).id.bytes,
      )
      (ap product_read fields-again)

  -- the line of a right record, if shorter than 64 bytes, read again says that record
  pub product-back : length (product_line r) < 64 → entry_of (product_line r) ≡ product_read r
  unfolding entry_of entry_at
  product-back h = rw (lt-ltb (length (product_line r)) 64 h) (ap product_entry (take-length (product_line r)) ∙ product-entry)
