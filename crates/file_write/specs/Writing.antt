-- Writing a master file into a lent buffer, and the bytes of a product's record (02, notes 7 and 11).
-- Assumes nothing.
use Rattle.std.specs.Prelude.{ℕ, ◌/◌, ◌%◌, cond, List, [], ◌∷◌, ◌++◌, eqb, leb, length, drop, replicate, Result}
use Rattle.questions.specs.Questions.{first_no, Answer, answer}
use Rattle.questions.specs.Refusals.{result_answer}
use Rattle.questions.specs.declared.Refusal.{Refusal}
use Rattle.calendar.specs.declared.Calendar.{Calendar}
use Rattle.product.specs.Fields.{kind_number}
use Rattle.product.specs.declared.Product.{Product}
use Rattle.file_records.specs.Records.{three_bytes, four_bytes}
use Rattle.file_draft.specs.Drafts.{high_byte, low_byte, file_of, write_asks}

-- 'Write a file into a lent buffer from a calendar and a list of records .. and return its length';
-- with a refusal 'other calls return zero values' (01, Questions)
unfoldable pub write_call : Calendar → List ℕ → ℕ → Answer ℕ
write_call cal records room = answer (write_asks cal records room) 0 (length (file_of cal records))

-- the number and the value that a result of write stands for
abbrev pub write_answer : Result ℕ Refusal → Answer ℕ
write_answer = result_answer 0

-- 'Bytes after the file's end in the buffer remain'; 'No refusal writes anything':
-- the buffer afterwards: the file, and those bytes
unfoldable pub buffer_after : Calendar → List ℕ → List ℕ → List ℕ
buffer_after cal records before =
    cond (eqb (first_no (write_asks cal records (length before))) 0)
    (file_of cal records ++ drop (length (file_of cal records)) before)
    before

-- 'Record bytes: 0–3 product id .. 4–7 group .. 8–11 cash market .. 12 kind .. 13–14 contract size in shares .. 15–16 tick ..
-- 17–19 EUR, CHF, USD, GBP or GBX'; ten-thousandths of a share in 'bytes 20–21' (02, note 11); zeros after them:
-- of these fields
unfoldable pub field_bytes : List ℕ → List ℕ → List ℕ → ℕ → ℕ → ℕ → List ℕ → ℕ → List ℕ
field_bytes id group market kind shares tick currency part =
    four_bytes id 0
    ++ four_bytes group 0
    ++ four_bytes market 0
    ++ (kind ∷ high_byte shares ∷ low_byte shares ∷ high_byte tick ∷ low_byte tick ∷ [])
    ++ three_bytes currency 0
    ++ (high_byte part ∷ low_byte part ∷ [])
    ++ replicate 10 0

-- the whole shares of a size in ten-thousandths; above 65,535.9999 shares there is no record, and 0 shares stand for that, which 7 refuses
unfoldable pub shares_of : ℕ → ℕ
shares_of size = cond (leb size 655359999) (size / 10000) 0

-- the record of fields with a kind's number and a size in ten-thousandths
abbrev pub sized_bytes : List ℕ → List ℕ → List ℕ → ℕ → ℕ → ℕ → List ℕ → List ℕ
sized_bytes id group market kind size tick currency = field_bytes id group market kind (shares_of size) tick currency (size % 10000)

-- the record of a product
unfoldable pub record_bytes : Product → List ℕ
record_bytes p = sized_bytes p.id p.group p.market (kind_number p.kind) p.size p.tick p.currency
