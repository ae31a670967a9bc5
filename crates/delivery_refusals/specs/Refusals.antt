-- What is told of a delivery on standard error: a file that is refused, the first bad line of the notices, the refused calls
-- (docs/DELIVERY.md, Form, Meaning and `deliver`, from which the quotations are; 01, Questions).
-- Assumes nothing.
use Rattle.std.specs.Prelude.{ℕ, zero, suc, ◌*◌, not, ◌&&◌, cond, List, [], ◌∷◌, ◌++◌, eqb, get_or}
use Rattle.file_ids.specs.Ids.{is_record, id_at}
use Rattle.file_load.specs.Load.{found}
use Rattle.table.specs.Table.{open_call}
use Rattle.session_text.specs.TermsText.{decimal}
use Rattle.file_text_print.specs.Contents.{id_text}
use Rattle.delivery_notices.specs.Notices.{Notice, NoticesTold}
use Rattle.delivery_notices.specs.NoticeLists.{notice_at}
use Rattle.delivery_tables.specs.Tables.{is_measure, refusals_for}

-- 'notices.txt:'
unfoldable pub notices_name : List ℕ
notices_name = 110 ∷ 111 ∷ 116 ∷ 105 ∷ 99 ∷ 101 ∷ 115 ∷ 46 ∷ 116 ∷ 120 ∷ 116 ∷ 58 ∷ []

-- the beginning of what is told of a line
abbrev pub notices_at : ℕ → List ℕ
notices_at line = notices_name ++ decimal line

-- 'A `master.bin` that is refused: `master.bin: NO n`'
unfoldable pub master_text : ℕ → List ℕ
master_text refusal =
    (109 ∷ 97 ∷ 115 ∷ 116 ∷ 101 ∷ 114 ∷ 46 ∷ 98 ∷ 105 ∷ 110 ∷ 58 ∷ 32 ∷ 78 ∷ 79 ∷ 32 ∷ []) ++ (decimal refusal ++ (10 ∷ []))

-- 'The first bad line is told: `notices.txt:K: BAD`'
unfoldable pub bad_notice_text : ℕ → List ℕ
bad_notice_text line = notices_at line ++ (58 ∷ 32 ∷ 66 ∷ 65 ∷ 68 ∷ 10 ∷ [])

-- 'A refused call is told as `notices.txt:K: NO n ID`':
-- the number of its line, the number of the refusal and the id, with a line feed
unfoldable pub refused_notice_text : ℕ → ℕ → List ℕ → List ℕ
refused_notice_text line refusal id =
    notices_at line ++ ((58 ∷ 32 ∷ 78 ∷ 79 ∷ 32 ∷ []) ++ (decimal refusal ++ ((32 ∷ []) ++ (id_text id ++ (10 ∷ [])))))

-- a refusal that is 0 is not told
unfoldable pub refusal_told : ℕ → ℕ → List ℕ → List ℕ
refusal_told line refusal id = cond (eqb refusal 0) [] (refused_notice_text line refusal id)

-- 'of each by line':
-- the refused calls of a product with an id, from the numbers of the notices' refusals
unfoldable pub refusals_text : List ℕ → List Notice → List ℕ → List ℕ
refusals_text id [] rs = []
refusals_text id (n ∷ ns) [] = []
refusals_text id (n ∷ ns) (r ∷ rs) = refusal_told n.line r id ++ refusals_text id ns rs

-- 'a refused opening by the line of the `O` and nothing else of that product':
-- the refused calls of a product; where its opening is refused no call is made on it
unfoldable pub product_refusals : List ℕ → NoticesTold → List ℕ → List ℕ
product_refusals f t id =
    cond (eqb (open_call f id t.date).refusal 0)
    (refusals_text id t.notices (refusals_for id (open_call f id t.date).table t.notices))
    (refused_notice_text t.opened (open_call f id t.date).refusal id)

-- those of the product at a place
unfoldable pub place_refusals : List ℕ → NoticesTold → ℕ → List ℕ
place_refusals f t p = cond (is_record f p) (product_refusals f t (id_at f p)) []

-- 'refused calls by product':
-- those of the first n places
unfoldable pub refusals_to : List ℕ → NoticesTold → ℕ → List ℕ
refusals_to f t zero = []
refusals_to f t (suc n) = refusals_to f t n ++ place_refusals f t n

-- 'of a measure whose id is not in the file n is 9, for each such line':
-- 9, or 0 of another notice
unfoldable pub unknown_refusal : List ℕ → Notice → ℕ
unknown_refusal f n = cond (is_measure n.call && not (found f n.id)) 9 0

-- 'then the measures of unknown ids by line'
unfoldable pub unknown_measures : List ℕ → List Notice → List ℕ
unknown_measures f [] = []
unknown_measures f (n ∷ ns) = refusal_told n.line (unknown_refusal f n) n.id ++ unknown_measures f ns

-- line i of a product's refused calls: of the opening, 0, alone, or of notice i − 1
unfoldable pub refusal_line : List ℕ → ℕ → ℕ → List ℕ → List ℕ → ℕ → List ℕ
refusal_line id opened refusal calls refusals zero = refusal_told opened refusal id
refusal_line id opened refusal calls refusals (suc i) =
    cond (eqb refusal 0) (refusal_told (get_or calls (5 * i) 0) (get_or refusals i 0) id) []

-- the first n of these lines
unfoldable pub refusal_lines : List ℕ → ℕ → ℕ → List ℕ → List ℕ → ℕ → List ℕ
refusal_lines id opened refusal calls refusals zero = []
refusal_lines id opened refusal calls refusals (suc n) =
    refusal_lines id opened refusal calls refusals n ++ refusal_line id opened refusal calls refusals n

-- line i of the measures of unknown ids
unfoldable pub unknown_line : List ℕ → List ℕ → List ℕ → ℕ → List ℕ
unknown_line f calls ids i = refusal_told (notice_at calls ids i).line (unknown_refusal f (notice_at calls ids i)) (notice_at calls ids i).id

-- the first n of these lines
unfoldable pub unknown_lines : List ℕ → List ℕ → List ℕ → ℕ → List ℕ
unknown_lines f calls ids zero = []
unknown_lines f calls ids (suc n) = unknown_lines f calls ids n ++ unknown_line f calls ids n
