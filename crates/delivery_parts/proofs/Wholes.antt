-- The parts of a delivery make up the whole: the rows place by place, the refused calls place by place and line by line, and the measures of unknown
-- ids line by line.
-- Assumes nothing.
use mathlib.Core.Path.{◌≡◌, refl, ◌∙◌, sym, ap}
use mathlib.Core.Bool.{false, cond}
use mathlib.Core.List.{List, [], ◌∷◌, ◌++◌, map, append_assoc, append-nil}
use Prim.Native.Nat.{ℕ, zero, suc, ◌+◌, ◌*◌, ◌≤◌}
use native.Mathlib.Numerals.{add-one}
use native.Mathlib.Omega.{arith}
use lib.Dec.{eqb}
use lib.ListN.{length, get_or, take, length-append}
use lib.Seq.{take-suc, length-take-le}
use Rattle.file_ids.specs.Ids.{place_count}
use Rattle.history.specs.Book.{Call, roll, close, reopen, measure}
use Rattle.delivery_notices.specs.Notices.{Notice, NoticesTold, text_told}
use Rattle.delivery_notices.specs.NoticeLists.{notice_at, notices_to, call_held, notice_held}
use Rattle.delivery_tables.specs.Tables.{is_measure}
use Rattle.delivery_rows.specs.Delivery.{Row, row_text, rows_text, place_rows, rows_to}
use Rattle.delivery_refusals.specs.Refusals.{refusal_told, refusals_text, refusal_line, refusal_lines, place_refusals, refusals_to, unknown_refusal, unknown_measures}
use Rattle.delivery_refusals.specs.Refusals.{unknown_line, unknown_lines}
use Rattle.delivery_parts.specs.PlaceParts.{parts_text, deliver_text, deliver_refusals, WholeDelivery}

-- ---- rows

rows_append : (rs ss : List Row) → rows_text (rs ++ ss) ≡ rows_text rs ++ rows_text ss
unfolding rows_text
rows_append [] ss = refl
rows_append (r ∷ rs) ss = ap (λ (t : List ℕ). row_text r ++ t) (rows_append rs ss) ∙ sym (append_assoc (row_text r) (rows_text rs) (rows_text ss))

row-parts : (f : List ℕ) (date : ℕ) (ns : List Notice) (n : ℕ) → rows_text (rows_to f date ns n) ≡ parts_text (λ p. rows_text (place_rows f date ns p)) n
unfolding rows_to parts_text rows_text
row-parts f date ns zero = refl
row-parts f date ns (suc n) =
    rows_append (rows_to f date ns n) (place_rows f date ns n)
    ∙ ap (λ (t : List ℕ). t ++ rows_text (place_rows f date ns n)) (row-parts f date ns n)

-- ---- refused calls

refusal-parts : (f : List ℕ) (t : NoticesTold) (n : ℕ) → refusals_to f t n ≡ parts_text (place_refusals f t) n
unfolding refusals_to parts_text
refusal-parts f t zero = refl
refusal-parts f t (suc n) = ap (λ (l : List ℕ). l ++ place_refusals f t n) (refusal-parts f t n)

-- of an accepted file and notices without a bad line the two texts of a delivery are made up place by place
pub whole : (f notices : List ℕ) → WholeDelivery f notices (text_told notices)
unfolding deliver_text deliver_refusals
whole f notices =
    let t = text_told notices in
    record {
      rows = rw (row-parts f t.date t.notices (place_count f)) refl;
      refusals = rw (refusal-parts f t (place_count f)) refl;
    }

-- one notice more
refusals-snoc : (id : List ℕ) (ns : List Notice) (n : Notice) (rs : List ℕ) (r : ℕ) → length rs ≡ length ns
    → refusals_text id (ns ++ (n ∷ [])) (rs ++ (r ∷ [])) ≡ refusals_text id ns rs ++ refusal_told n.line r id
unfolding refusals_text
refusals-snoc id [] n [] r e = append-nil (refusal_told n.line r id)
refusals-snoc id [] n (s ∷ rs) r e = absurd (omega arith)
refusals-snoc id (m ∷ ns) n [] r e = absurd (omega arith)
refusals-snoc id (m ∷ ns) n (s ∷ rs) r e =
    ap (λ (t : List ℕ). refusal_told m.line s id ++ t) (refusals-snoc id ns n rs r (omega arith))
    ∙ sym (append_assoc (refusal_told m.line s id) (refusals_text id ns rs) (refusal_told n.line r id))

-- the first n notices of two lists are n notices
pub notices-length : (calls ids : List ℕ) (n : ℕ) → length (notices_to calls ids n) ≡ n
unfolding notices_to
notices-length calls ids zero = refl
notices-length calls ids (suc n) = length-append (notices_to calls ids n) (notice_at calls ids n ∷ []) ∙ omega (arith, notices-length calls ids n)

no-opening : (id : List ℕ) (opened : ℕ) (calls refusals : List ℕ) → refusal_lines id opened 0 calls refusals 1 ≡ []
unfolding refusal_lines refusal_line refusal_told
no-opening id opened calls refusals = refl

one_line : (id : List ℕ) (opened refusal : ℕ) (calls refusals : List ℕ) (n : ℕ)
    → refusal_lines id opened refusal calls refusals (suc (suc n))
    ≡ refusal_lines id opened refusal calls refusals (suc n) ++ cond (eqb refusal 0) (refusal_told (get_or calls (5 * n) 0) (get_or refusals n 0) id) []
unfolding refusal_lines refusal_line
one_line id opened refusal calls refusals n = refl

one-notice : (calls ids : List ℕ) (n : ℕ) → notices_to calls ids (suc n) ≡ notices_to calls ids n ++ (notice_at calls ids n ∷ [])
unfolding notices_to
one-notice calls ids n = refl

none_told : (id : List ℕ) (calls ids refusals : List ℕ) → refusals_text id (notices_to calls ids 0) (take 0 refusals) ≡ []
unfolding notices_to refusals_text
none_told id calls ids refusals = refl

-- the lines of the refusals in a buffer are those of the notices
lines-told : (id : List ℕ) (opened : ℕ) (calls ids refusals : List ℕ) (n : ℕ) → n ≤ length refusals
    → refusal_lines id opened 0 calls refusals (suc n) ≡ refusals_text id (notices_to calls ids n) (take n refusals)
lines-told id opened calls ids refusals zero h = no-opening id opened calls refusals ∙ sym (none_told id calls ids refusals)
lines-told id opened calls ids refusals (suc n) h =
    one_line id opened 0 calls refusals n
    ∙ rw (one-notice calls ids n, take-suc refusals n 0 (omega arith))
    (ap (λ (t : List ℕ). t ++ refusal_told (get_or calls (5 * n) 0) (get_or refusals n 0) id) (lines-told id opened calls ids refusals n (omega arith))
    ∙ sym (refusals-snoc id (notices_to calls ids n) (notice_at calls ids n) (take n refusals) (get_or refusals n 0)
    (length-take-le n refusals (omega arith) ∙ sym (notices-length calls ids n))))

held-told : (id : List ℕ) (ns : List Notice) (rs : List ℕ) → refusals_text id (map notice_held ns) rs ≡ refusals_text id ns rs
unfolding refusals_text
held-told id [] rs = refl
held-told id (n ∷ ns) [] = refl
held-told id (n ∷ ns) (r ∷ rs) = ap (λ (t : List ℕ). refusal_told n.line r id ++ t) (held-told id ns rs)

-- of an accepted opening
pub notices-told : (id : List ℕ) (opened : ℕ) (calls ids refusals : List ℕ) (count : ℕ) (ns : List Notice) (rs : List ℕ) → count ≤ length refusals
    → notices_to calls ids count ≡ map notice_held ns → take (length (notices_to calls ids count)) refusals ≡ rs
    → refusal_lines id opened 0 calls refusals (count + 1) ≡ refusals_text id ns rs
notices-told id opened calls ids refusals count ns rs h e q =
    let k : take count refusals ≡ rs = ap (λ (n : ℕ). take n refusals) (sym (notices-length calls ids count)) ∙ q in
    let s : refusal_lines id opened 0 calls refusals (count + 1) ≡ refusals_text id (notices_to calls ids count) (take count refusals) =
    rw (add-one count) (lines-told id opened calls ids refusals count h) in
    s ∙ rw (e, k) (held-told id ns rs)

first-line : (id : List ℕ) (opened refusal : ℕ) (calls refusals : List ℕ) → refusal_lines id opened refusal calls refusals 1 ≡ refusal_told opened refusal id
unfolding refusal_lines refusal_line
first-line id opened refusal calls refusals = refl

-- of a refused one
refused-lines : (id : List ℕ) (opened refusal : ℕ) (calls refusals : List ℕ) (n : ℕ) → eqb refusal 0 ≡ false
    → refusal_lines id opened refusal calls refusals (suc n) ≡ refusal_told opened refusal id
refused-lines id opened refusal calls refusals zero e = first-line id opened refusal calls refusals
refused-lines id opened refusal calls refusals (suc n) e =
    one_line id opened refusal calls refusals n ∙
    rw e (append-nil (refusal_lines id opened refusal calls refusals (suc n)) ∙ refused-lines id opened refusal calls refusals n e)

-- of a refused opening the lines of a product's refused calls are the line of the opening alone
pub opening-told : (id : List ℕ) (opened refusal : ℕ) (calls refusals : List ℕ) (count : ℕ) → eqb refusal 0 ≡ false
    → refusal_lines id opened refusal calls refusals (count + 1) ≡ refusal_told opened refusal id
opening-told id opened refusal calls refusals count e = rw (add-one count) (refused-lines id opened refusal calls refusals count e)

-- ---- measures of unknown ids

measure-held : (c : Call) → is_measure (call_held c) ≡ is_measure c
measure-held (roll day) = refl
measure-held (close day) = refl
measure-held (reopen day) = refl
measure-held (measure p q price) = refl

unknown-held : (f : List ℕ) (n : Notice) → unknown_refusal f (notice_held n) ≡ unknown_refusal f n
unfolding unknown_refusal
unknown-held f n = rw (measure-held n.call) refl

unknown-snoc : (f : List ℕ) (ns : List Notice) (n : Notice)
    → unknown_measures f (ns ++ (n ∷ [])) ≡ unknown_measures f ns ++ refusal_told n.line (unknown_refusal f n) n.id
unfolding unknown_measures
unknown-snoc f [] n = append-nil (refusal_told n.line (unknown_refusal f n) n.id)
unknown-snoc f (m ∷ ns) n =
    ap (λ (t : List ℕ). refusal_told m.line (unknown_refusal f m) m.id ++ t) (unknown-snoc f ns n)
    ∙ sym (append_assoc (refusal_told m.line (unknown_refusal f m) m.id) (unknown_measures f ns) (refusal_told n.line (unknown_refusal f n) n.id))

unknown-lists : (f calls ids : List ℕ) (n : ℕ) → unknown_lines f calls ids n ≡ unknown_measures f (notices_to calls ids n)
unfolding unknown_lines notices_to unknown_measures unknown_line
unknown-lists f calls ids zero = refl
unknown-lists f calls ids (suc n) =
    rw (unknown-lists f calls ids n) (sym (unknown-snoc f (notices_to calls ids n) (notice_at calls ids n)))

unknown-same : (f : List ℕ) (ns : List Notice) → unknown_measures f (map notice_held ns) ≡ unknown_measures f ns
unfolding unknown_measures
unknown-same f [] = refl
unknown-same f (n ∷ ns) = rw (unknown-held f n) (ap (λ (t : List ℕ). refusal_told n.line (unknown_refusal f n) n.id ++ t) (unknown-same f ns))

-- the lines of the notices in two lists are those of the text
pub unknown-told : (f calls ids : List ℕ) (count : ℕ) (ns : List Notice) → notices_to calls ids count ≡ map notice_held ns
    → unknown_lines f calls ids count ≡ unknown_measures f ns
unknown-told f calls ids count ns e = unknown-lists f calls ids count ∙ rw e (unknown-same f ns)
