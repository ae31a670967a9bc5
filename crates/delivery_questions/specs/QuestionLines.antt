-- A line of what `query` reads, and what it asks (docs/DELIVERY.md, `query`, from which the quotations are; docs/DECISIONS.md, The delivery).
-- Assumes nothing.
use Rattle.std.specs.Prelude.{ℕ, Bool, true, false, ◌&&◌, cond, List, [], ◌∷◌, leb, eqb, get_or, length, replicate}
use Rattle.questions.specs.Search.{every}
use Rattle.days.specs.Dates.{month_of}
use Rattle.session_lines.specs.declared.Command.{Command}
use Rattle.file_text_lines.specs.Entries.{words_of, word_at, id_bytes}
use Rattle.confirm_lines.specs.ListingLines.{date_in, month_in}
use Rattle.delivery_lines.specs.NoticeLines.{trimmed, is_number, value_of, is_price, price_of, is_id, says_nothing, held}
use Rattle.delivery_questions.specs.declared.QuestionLine.{QuestionLine}

-- what is asked of a product: the last trading day of a maturity, which is named by its month or by the date of its Friday, and by its key;
-- the due day of a day; whether a price passes; the cash of 'contracts, agreed, final'; the size
pub data Question : Type 0 where
  last : Bool → ℕ → Question
  due tick : ℕ → Question
  cash : ℕ → ℕ → ℕ → Question
  size : Question

-- what a line asks: nothing; something of the product with an id; or it is bad
pub data Asked : Type 0 where
  nothing bad : Asked
  asks : List ℕ → Question → Asked

-- 'AXA last 2008-06':
-- the word `last`
abbrev pub last_word : List ℕ
last_word = 108 ∷ 97 ∷ 115 ∷ 116 ∷ []

-- 'AXA due 2008-03-22':
-- the word `due`
abbrev pub due_word : List ℕ
due_word = 100 ∷ 117 ∷ 101 ∷ []

-- 'AXA tick 12.3400':
-- the word `tick`
abbrev pub tick_word : List ℕ
tick_word = 116 ∷ 105 ∷ 99 ∷ 107 ∷ []

-- 'AXA cash 3 12.3400 12.5000':
-- the word `cash`
abbrev pub cash_word : List ℕ
cash_word = 99 ∷ 97 ∷ 115 ∷ 104 ∷ []

-- 'AXA size':
-- the word `size`
abbrev pub size_word : List ℕ
size_word = 115 ∷ 105 ∷ 122 ∷ 101 ∷ []

-- a word is a name, byte by byte
unfoldable pub is_word : List ℕ → List ℕ → Bool
is_word name word = eqb (length word) (length name) && every (length name) (λ i. eqb (get_or word i 0) (get_or name i 0))

-- `AXA last 2008-06`: a month of 7 characters; any other word is the date of a Friday
unfoldable pub last_asked : List ℕ → List ℕ → Asked
last_asked id word =
    cond (eqb (length word) 7)
    (cond (eqb (month_in word).letter 0) bad (asks id (last false (month_of (month_in word).day))))
    (cond (eqb (date_in word).letter 0) bad (asks id (last true (date_in word).day)))

-- `AXA due 2008-03-22`
unfoldable pub due_asked : List ℕ → List ℕ → Asked
due_asked id word = cond (eqb (date_in word).letter 0) bad (asks id (due (date_in word).day))

-- `AXA tick 12.3400`
unfoldable pub tick_asked : List ℕ → List ℕ → Asked
tick_asked id word = cond (is_price word) (asks id (tick (price_of word))) bad

-- the questions of three words: an id, a name and what is asked about
unfoldable pub three_asked : List ℕ → List ℕ → List ℕ → Asked
three_asked id name word =
    cond (is_word last_word name) (last_asked id word)
    (cond (is_word due_word name) (due_asked id word)
    (cond (is_word tick_word name) (tick_asked id word) bad))

-- `AXA cash 3 12.3400 12.5000` '(contracts, agreed, final)'
unfoldable pub cash_asked : List ℕ → List ℕ → List ℕ → List ℕ → List ℕ → Asked
cash_asked id name contracts agreed final =
    cond (is_word cash_word name && (is_number contracts && (is_price agreed && is_price final)))
    (asks id (cash (value_of contracts) (price_of agreed) (price_of final)))
    bad

-- `AXA size`
unfoldable pub size_asked : List ℕ → List ℕ → Asked
size_asked id name = cond (is_word size_word name) (asks id size) bad

-- what the words of a line ask, by their number, which single spaces part; the first is an id
unfoldable pub words_asked : List ℕ → Asked
words_asked line =
    cond (is_id (word_at line 0))
    (cond (eqb (length (words_of line)) 2) (size_asked (id_bytes (word_at line 0)) (word_at line 1))
    (cond (eqb (length (words_of line)) 3) (three_asked (id_bytes (word_at line 0)) (word_at line 1) (word_at line 2))
    (cond (eqb (length (words_of line)) 5) (cash_asked (id_bytes (word_at line 0)) (word_at line 1) (word_at line 2) (word_at line 3) (word_at line 4))
    bad)))
    bad

-- 'Empty lines and comments are passed over', 'one of more than 255 bytes' is bad:
-- what a line without blanks at its end asks
unfoldable pub trimmed_asked : List ℕ → Asked
trimmed_asked line = cond (says_nothing line) nothing (cond (leb (length line) 255) (words_asked line) bad)

-- what a line asks
abbrev pub asked_by : List ℕ → Asked
asked_by line = trimmed_asked (trimmed line)

-- only the code needs it: a line with a letter and nothing else
abbrev pub bare_held : ℕ → QuestionLine
bare_held letter = record { letter = letter; id = replicate 4 0; friday = false; day = 0; number = 0; agreed = 0; final_price = 0 }

-- only the code needs it: a question with a day, or the key of a month, and a number
abbrev pub one_held : ℕ → List ℕ → Bool → ℕ → ℕ → QuestionLine
one_held letter id friday day number = record { letter = letter; id = id; friday = friday; day = day; number = number; agreed = 0; final_price = 0 }

-- only the code needs it: a question with the day of a date, or a bad line
unfoldable pub day_question_held : ℕ → List ℕ → Bool → Command → QuestionLine
day_question_held letter id friday date = cond (eqb date.letter 0) (bare_held 0) (one_held letter id friday date.day 0)

-- only the code needs it: what a line asks, as it is held: the first letter of its question, # of one that asks nothing and 0 of a bad one, with its numbers
unfoldable pub asked_held : Asked → QuestionLine
asked_held nothing = bare_held 35
asked_held bad = bare_held 0
asked_held (asks id (last friday key)) = one_held 108 id friday key 0
asked_held (asks id (due day)) = one_held 100 id false day 0
asked_held (asks id (tick price)) = one_held 116 id false 0 (held price)
asked_held (asks id (cash contracts agreed final)) =
    record { letter = 99; id = id; friday = false; day = 0; number = held contracts; agreed = held agreed; final_price = held final }
asked_held (asks id size) = one_held 115 id false 0 0
