-- The kinds, and what question 7 says of each field of a product record (01, Listed months; Master file; Questions, 7; 02, notes 1, 3 and 11).
-- Assumes nothing.
use Rattle.std.specs.Prelude.{ℕ, Bool, true, false, ◌&&◌, ◌||◌, cond, List, [], ◌∷◌, Result, length, get_or, replicate, eqb, leb, ltb}
use Rattle.questions.specs.Questions.{Ask, ask, Answer, answer}
use Rattle.questions.specs.Refusals.{result_answer}
use Rattle.questions.specs.declared.Refusal.{Refusal}
use Rattle.questions.specs.Search.{every, one_of}
use Rattle.product.specs.declared.ListingText.{ListingText}
use Rattle.product.specs.declared.ListingText.TheVariants.{Of2008, Of2005}
use Rattle.product.specs.declared.Term.{Term}
use Rattle.product.specs.declared.Term.TheVariants.{Months12, Months24, Months60, Weeks5}
use Rattle.product.specs.declared.Kind.{Kind}
use Rattle.product.specs.declared.Kind.TheVariants.{Future, Option}
use Rattle.product.specs.declared.Product.{Product}

-- '0 future', of the text of 2008; 'kind 4, a future of 2005' (02, note 1)
abbrev pub text_number : ListingText → ℕ
text_number Of2008 = 0
text_number Of2005 = 4

-- 'an option with one of three terms': '1 option, 12 months', '2 option, 24 months', '3 option, 60 months'; 'a five-week term', 'under kind 5' (02, note 3)
abbrev pub term_number : Term → ℕ
term_number Months12 = 1
term_number Months24 = 2
term_number Months60 = 3
term_number Weeks5 = 5

-- 'A product's kind is either a future or an option with one of three terms', and since note 3 of document 02 a fourth:
-- the number of its text or of its term
abbrev pub kind_number : Kind → ℕ
kind_number (Future text) = text_number text
kind_number (Option term) = term_number term

-- '0 future', '1 option, 12 months', '2 option, 24 months', '3 option, 60 months'; 'kind 4, a future of 2005' (02, note 1);
-- weekly tables 'under kind 5' (02, note 3):
-- the kind with a number; for any other number, which 7 refuses, the kind of number 0
unfoldable pub kind_of : ℕ → Kind
kind_of number =
    cond (eqb number 1) (Option Months12)
    (cond (eqb number 2) (Option Months24)
    (cond (eqb number 3) (Option Months60)
    (cond (eqb number 4) (Future Of2005)
    (cond (eqb number 5) (Option Weeks5) (Future Of2008)))))

-- 'kind 0–3'; 'question 7 now admits 4' (02, note 1), 'question 7 now admits 5' (02, note 3)
abbrev pub kind_right : ℕ → Bool
kind_right kind = leb kind 5

-- 7, of a kind's number alone
abbrev pub kind_asks : ℕ → List Ask
kind_asks number = ask 7 (kind_right number) ∷ []

-- the kind with a number, where there is one; with a refusal the kind of number 0, a zero value
unfoldable pub kind_call : ℕ → Answer Kind
kind_call number = answer (kind_asks number) (Future Of2008) (kind_of number)

-- the number and the value that the result for a kind stands for
abbrev pub kind_answer : Result Kind Refusal → Answer Kind
kind_answer result = result_answer (Future Of2008) result

-- 21 'Is it a future?'; of either text: 'The due day, cash .. of kind 4 are those of a future' (02, note 1)
abbrev pub is_future : Kind → Bool
is_future (Future text) = true
is_future (Option term) = false

-- 'Weekly tables .. under kind 5' (02, note 3):
-- its maturities are weekly; those of every other kind are months
abbrev pub is_weekly : Kind → Bool
is_weekly (Future text) = false
is_weekly (Option Months12) = false
is_weekly (Option Months24) = false
is_weekly (Option Months60) = false
is_weekly (Option Weeks5) = true

-- 'A–Z', in ASCII
abbrev pub letter : ℕ → Bool
letter byte = leb 65 byte && leb byte 90

-- '0–9', in ASCII
abbrev pub digit : ℕ → Bool
digit byte = leb 48 byte && leb byte 57

-- 'A–Z and 0–9'
abbrev pub id_character : ℕ → Bool
id_character byte = letter byte || digit byte

-- a byte of an id: one of 'A–Z and 0–9' within its characters, a space, 32, after them
abbrev pub id_byte : Bool → ℕ → Bool
id_byte true byte = id_character byte
id_byte false byte = eqb byte 32

-- '.. of A–Z and 0–9, then spaces', for a given count of characters
unfoldable pub id_of_length : List ℕ → ℕ → Bool
id_of_length id count = every 4 (λ i. id_byte (ltb i count) (get_or id i 0))

-- 'product id, 1 to 4 of A–Z and 0–9, then spaces'
unfoldable pub id_right : List ℕ → Bool
id_right id = id_of_length id 1 || id_of_length id 2 || id_of_length id 3 || id_of_length id 4

-- 'the first digit 0 for futures and 1 for options';
-- 'the .. group digit of kind 4 [is that] of a future' (02, note 1), 'kind 5 and the option groups' (02, note 3):
-- in ASCII, by the kind's number
abbrev pub first_digit : ℕ → ℕ
first_digit kind = cond (eqb kind 0 || eqb kind 4) 48 49

-- 'group, two letters A–Z and two digits, the first digit 0 for futures and 1 for options'
unfoldable pub group_right : List ℕ → ℕ → Bool
group_right group kind =
    letter (get_or group 0 0)
    && letter (get_or group 1 0)
    && digit (get_or group 2 0)
    && digit (get_or group 3 0)
    && eqb (get_or group 2 0) (first_digit kind)

-- 'cash market, four letters A–Z'
unfoldable pub market_right : List ℕ → Bool
market_right market = every 4 (λ i. letter (get_or market i 0))

-- 'a table's size may fall as low as one ten-thousandth', and reaches 65,535.9999 shares (02, note 11);
-- in ten-thousandths of a share
abbrev pub size_right : ℕ → Bool
size_right size = leb 1 size && leb size 655359999

-- 'contract size in shares, 1–65,535'; 'record bytes 20–21 hold 0 to 9,999 .. and question 7 says so; .. a file's [size] not below one share' (02, note 11)
abbrev pub file_size_right : ℕ → ℕ → Bool
file_size_right shares part = leb 1 shares && leb shares 65535 && leb part 9999

-- 'tick in 1/10,000 of the currency, one of 1, 5, 10, 100'
unfoldable pub tick_right : ℕ → Bool
tick_right tick = one_of (1 ∷ 5 ∷ 10 ∷ 100 ∷ []) tick

-- the bytes are, one by one, the characters of a code, as 'EUR' or 'IT01'
unfoldable pub is_code : List ℕ → List ℕ → Bool
is_code code bytes = every (length code) (λ i. eqb (get_or bytes i 0) (get_or code i 0))

-- the bytes are one of some codes, as 'EUR, CHF, USD, GBP or GBX'
unfoldable pub one_of_codes : List (List ℕ) → List ℕ → Bool
one_of_codes [] bytes = false
one_of_codes (code ∷ codes) bytes = is_code code bytes || one_of_codes codes bytes

-- 'EUR', in ASCII
abbrev pub EUR : List ℕ
EUR = 69 ∷ 85 ∷ 82 ∷ []

-- 'CHF', in ASCII
abbrev pub CHF : List ℕ
CHF = 67 ∷ 72 ∷ 70 ∷ []

-- 'USD', in ASCII
abbrev pub USD : List ℕ
USD = 85 ∷ 83 ∷ 68 ∷ []

-- 'GBP', in ASCII
abbrev pub GBP : List ℕ
GBP = 71 ∷ 66 ∷ 80 ∷ []

-- 'GBX', in ASCII
abbrev pub GBX : List ℕ
GBX = 71 ∷ 66 ∷ 88 ∷ []

-- 'EUR, CHF, USD, GBP or GBX'
unfoldable pub currency_right : List ℕ → Bool
currency_right currency = one_of_codes (EUR ∷ CHF ∷ USD ∷ GBP ∷ GBX ∷ []) currency

-- 7 'Is every record .. as stated?',
-- of the fields in the record's order: id, group, cash market, kind, contract size, tick, currency;
-- the size in ten-thousandths and as a table may have it: of a file's there is `file_size_right` besides (02, note 11)
unfoldable pub fields_right : List ℕ → List ℕ → List ℕ → ℕ → ℕ → ℕ → List ℕ → Bool
fields_right id group market kind size tick currency =
    id_right id
    && group_right group kind
    && market_right market
    && kind_right kind
    && size_right size
    && tick_right tick
    && currency_right currency

-- 'product fields .. satisfy question .. 7',
-- of a product, whose size may be below one share (02, note 11)
unfoldable pub product_right : Product → Bool
product_right p =
    fields_right p.id p.group p.market (kind_number p.kind) p.size p.tick p.currency

-- a product of zeros; kind 0 is a future
unfoldable pub zero_product : Product
zero_product =
    record {
      id = replicate 4 0;
      group = replicate 4 0;
      market = replicate 4 0;
      kind = Future Of2008;
      size = 0;
      tick = 0;
      currency = replicate 3 0;
    }
