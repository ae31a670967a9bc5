-- What opening a table comes to, question by question.
-- Assumes nothing.
use mathlib.Core.Path.{◌≡◌, refl, ◌∙◌, sym, ap}
use mathlib.Core.Bool.{Bool, true, false, ◌&&◌, cond}
use mathlib.Core.List.{List, [], ◌∷◌, ◌++◌}
use Prim.Native.Nat.{ℕ, zero, suc, ◌*◌, ◌/◌, ◌%◌}
use native.Mathlib.Omega.{arith}
use lib.Dec.{ltb, eqb, eqb-suc-zero}
use borrow.Author.Tests.{ltb-true, ne_eqb}
use Rattle.std.specs.Prelude.{Result, Ok, Err}
use Rattle.std.specs.Result.{is_ok, IsErr, IsErrAnd}
use Rattle.std.proofs.lemmas.Bool.{false≢true}
use Rattle.questions.specs.Questions.{Ask, ask, first_no, Answer, answer}
use Rattle.questions.proofs.Bools.{and-fst, and-snd}
use Rattle.questions.proofs.Asks.{none-no, no-asks, first-yes, accepted}
use Rattle.calendar.specs.declared.Calendar.{Calendar}
use Rattle.calendar.specs.Trading.{in_cover}
use Rattle.listing.specs.Months.{listing_of, all_in_cover, week_into_cover}
use Rattle.file_calendar.specs.Calendars.{calendar_of}
use Rattle.file_load.specs.Products.{product_at}
use Rattle.file_load.specs.Load.{load_asks, judge_call, found, place_of, find_answer, product_of}
use Rattle.file_load.specs.Halves.{find_from, block_by_halves, place_by_halves, found_by_halves, product_by_halves}
use Rattle.file_load.specs.declared.Found.{Found}
use Rattle.file_load.specs.declared.Found.TheVariants.{At, Nothing}
use Rattle.file_load.specs.declared.Place.{Place}
use Rattle.file_load.proofs.LoadAnswers.{judge-accepted}
use Rattle.file_load.proofs.Halving.{halves-found, halves_product}
use Rattle.table_opening.specs.declared.ListedFindings.{ListedFindings}
use Rattle.table_opening.specs.Opening.{Listed, opening_result, listed_result, opening_asks, open_asks, refused_opening, opening_of, asks_in, opening_in, listing_in}

-- of two lists of questions, one after the other
append-no : (qs rs : List Ask) (n : ℕ) → first_no qs ≡ suc n → first_no (qs ++ rs) ≡ suc n
unfolding first_no
append-no [] rs n e = absurd (omega arith)
append-no (ask k true ∷ qs) rs n e = append-no qs rs n e
append-no (ask k false ∷ qs) rs n e = e

-- the numbers of questions are not 0
abbrev numbers : List Ask → Bool
numbers [] = true
numbers (ask k b ∷ qs) = ltb 0 k && numbers qs

append-yes : (qs rs : List Ask) → numbers qs ≡ true → first_no qs ≡ 0 → first_no (qs ++ rs) ≡ first_no rs
unfolding first_no
append-yes [] rs p e = refl
append-yes (ask k true ∷ qs) rs p e = append-yes qs rs (and-snd (ltb 0 k) (numbers qs) p) e
append-yes (ask k false ∷ qs) rs p e = absurd (omega (arith, ltb-true 0 k (and-fst (ltb 0 k) (numbers qs) p)))

load-numbers : (f : List ℕ) → numbers (load_asks f) ≡ true
unfolding load_asks
load-numbers f = refl

-- an id is there, and where it is, by halves
abbrev Finds : List ℕ → List ℕ → Found → Type 0
Finds f id r = find_answer r ≡ find_from f id (15 * block_by_halves f id)

find-refusal : (f id : List ℕ) (r : Found) → Finds f id r → (find_answer r).refusal ≡ first_no (ask 9 (found_by_halves f id) ∷ [])
unfolding find_from answer found_by_halves place_by_halves
find-refusal f id r e = ap (λ (a : Answer Place). a.refusal) e

-- an id for which the search gives a block and a place is found by halves
pub find-there : (f id : List ℕ) (block place : ℕ) → Finds f id (At block place) → found_by_halves f id ≡ true
find-there f id block place e = (none-no 8 (found_by_halves f id) [] (sym (find-refusal f id (At block place) e))).0

-- the product in the block and place that the search gives is the product found by halves
pub find-product : (f id : List ℕ) (block place : ℕ) → Finds f id (At block place) → product_at f block place ≡ product_by_halves f id
unfolding product_by_halves find_from found_by_halves place_by_halves
find-product f id block place e =
    let t = find-there f id block place e in
    let p = place_by_halves f id in
    let q = ap (λ (a : Answer Place). a.value)
    (e ∙ accepted (ask 9 (found_by_halves f id) ∷ []) _ (place_of p) (first-yes 9 {b = found_by_halves f id} [] t ∙ no-asks)) in
    let x : block ≡ p / 15 = ap (λ (p : Place). p.block) q in
    let y : place ≡ p % 15 = ap (λ (p : Place). p.«record») q in
    rw (x, y)

-- an id for which the search gives nothing is not found by halves
pub find_none : (f id : List ℕ) → Finds f id Nothing → found_by_halves f id ≡ false
unfolding first_no
find_none f id e = go (found_by_halves f id) refl (find-refusal f id Nothing e)
  where
    go : (b : Bool) → found_by_halves f id ≡ b → ◌≡◌ {A = ℕ} 9 (cond (found_by_halves f id) 0 9) → found_by_halves f id ≡ false
    go true q r = let z : ◌≡◌ {A = ℕ} 9 0 = rw q at r in absurd (omega arith)
    go false q r = q

-- ---- a number of a refusal and a value, as a result

-- the number of a refusal; 0 where there is none
abbrev number_of : {A : Type 0} → Result A ℕ → ℕ
number_of (Ok v) = 0
number_of (Err n) = n

-- the value; another where there is none
abbrev value_or : {A : Type 0} → A → Result A ℕ → A
value_or d (Ok v) = v
value_or d (Err n) = d

-- a refusal that is handed on
pub err-is : {A : Type 0} (r : Result A ℕ) (n : ℕ) → IsErr r × IsErrAnd r (λ m. m ≡ n) → r ≡ Err n
err-is (Ok v) n h = absurd (false≢true h.0)
err-is (Err m) n h = ap Err h.1

-- a refused one has the number of the refusal, which is not 0
pub result-err : {A : Type 0} (n m : ℕ) (v : A) → cond (eqb n 0) (Ok v) (Err n) ≡ Err m → (n ≡ m) × (m ≡ 0 → ⊥)
result-err zero m v e = absurd (false≢true (sym (ap is_ok e)))
result-err (suc n) m v e =
    let q : suc n ≡ m = ap number_of (rw (eqb-suc-zero n) at e) in
    (q, λ z. omega (arith, q, z))

-- an accepted one has the value
pub result-ok : {A : Type 0} (n : ℕ) (v r : A) → cond (eqb n 0) (Ok v) (Err n) ≡ Ok r → (n ≡ 0) × (v ≡ r)
result-ok zero v r e = (refl, ap (value_or v) e)
result-ok (suc n) v r e = absurd (false≢true (ap is_ok (rw (eqb-suc-zero n) at e)))

-- an opening by a verdict, question by question
module _ (verdict : Answer Calendar) (f id : List ℕ) (date : ℕ) where
  in-no : (n : ℕ) → first_no (asks_in verdict f id date) ≡ suc n → opening_in verdict f id date ≡ refused_opening (suc n)
  unfolding opening_in
  in-no n e = rw (e, eqb-suc-zero n)

  -- 1 to 8
  first-in : (n : ℕ) → verdict.refusal ≡ suc n → first_no (asks_in verdict f id date) ≡ suc n
  unfolding asks_in first_no
  first-in n e = rw (e, eqb-suc-zero n) refl

  module _ (a : verdict.refusal ≡ 0) where
    -- the questions after those of load
    rest_in : first_no (asks_in verdict f id date)
        ≡ first_no (ask 9 (found_by_halves f id) ∷ ask 11 (in_cover verdict.value.cover date)
        ∷ ask 24 (week_into_cover (product_by_halves f id).kind verdict.value.cover date)
        ∷ ask 16 (all_in_cover verdict.value (product_by_halves f id).kind (product_by_halves f id).group date) ∷ [])
    unfolding asks_in first_no
    rest_in = rw a refl

  -- what is listed is the opening but for its calendar: refused with the number of the first question answered no
  pub listed-no : (n : ℕ) → first_no (asks_in verdict f id date) ≡ suc n → Err (suc n) ≡ listed_result (listing_in verdict f id date)
  unfolding listing_in
  listed-no n e = rw (in-no n e, eqb-suc-zero n) refl

  -- a refused verdict gives its number
  pub listed-refused : (q : ℕ) → verdict.refusal ≡ q → (q ≡ 0 → ⊥) → Err q ≡ listed_result (listing_in verdict f id date)
  listed-refused zero e h = absurd (h refl)
  listed-refused (suc n) e h = listed-no n (first-in n e)

  -- where no question refuses, the product and the fresh listing are listed
  pub listed-yes : first_no (asks_in verdict f id date) ≡ 0
      → (let p = product_by_halves f id in Ok (record { product = p; fresh = (listing_of verdict.value p.kind p.group date).maturities }))
      ≡ listed_result (listing_in verdict f id date)
  unfolding listing_in opening_in listing_of
  listed-yes e = rw e

  -- and with the verdict's calendar it is the opening
  module _ (l : Listed) (is : l ≡ listing_in verdict f id date) where
    -- what is listed with a refusal gives the opening refused with that number
    pub refused-listed : (l.refusal ≡ 0 → ⊥) → refused_opening l.refusal ≡ opening_in verdict f id date
    unfolding listing_in opening_in
    refused-listed h = go (first_no (asks_in verdict f id date)) refl
      where
        go : (n : ℕ) → first_no (asks_in verdict f id date) ≡ n → refused_opening l.refusal ≡ opening_in verdict f id date
        go zero q = absurd (h (ap (λ (x : Listed). x.refusal) is ∙ rw q))
        go (suc n) q =
            let r : l.refusal ≡ suc n = ap (λ (x : Listed). x.refusal) is ∙ rw (q, eqb-suc-zero n) in
            rw r (sym (in-no n q))

    -- what is listed without a refusal, with the verdict's calendar, is the opening
    pub accepted-listed : l.refusal ≡ 0
        → record { refusal = 0; product = l.product; calendar = verdict.value; fresh = l.fresh } ≡ opening_in verdict f id date
    unfolding listing_in opening_in
    accepted-listed h = go (first_no (asks_in verdict f id date)) refl
      where
        go : (n : ℕ) → first_no (asks_in verdict f id date) ≡ n
            → record { refusal = 0; product = l.product; calendar = verdict.value; fresh = l.fresh } ≡ opening_in verdict f id date
        go zero q = rw (is, q) refl
        go (suc n) q =
            let r : l.refusal ≡ suc n = ap (λ (x : Listed). x.refusal) is ∙ rw (q, eqb-suc-zero n) in
            absurd (omega (arith, h))

  -- a refused listing refuses the opening with its number
  pub refused-opens : (n : ℕ) → listed_result (listing_in verdict f id date) ≡ Err n → Err n ≡ opening_result (opening_in verdict f id date)
  unfolding listing_in
  refused-opens n e =
      let (q, h) = result-err (opening_in verdict f id date).refusal n _ e in
      rw (q, ne_eqb n 0 h) refl

  -- a listing that is accepted, with the verdict's calendar, is the opening
  pub accepted-opens : (r : ListedFindings) → listed_result (listing_in verdict f id date) ≡ Ok r
      → Ok (record { product = r.product; calendar = verdict.value; fresh = r.fresh }) ≡ opening_result (opening_in verdict f id date)
  accepted-opens r e =
      let (z, q) = result-ok (listing_in verdict f id date).refusal _ r e in
      ap (λ (x : ListedFindings). Ok (record { product = x.product; calendar = verdict.value; fresh = x.fresh })) (sym q)
      ∙ ap opening_result (accepted-listed (listing_in verdict f id date) refl z)

-- the questions after load's
module _ (f id : List ℕ) (date : ℕ) where
  rest-is : first_no (load_asks f) ≡ 0 → first_no (open_asks f id date) ≡ first_no (opening_asks f id date)
  unfolding open_asks
  rest-is a = append-yes (load_asks f) _ (load-numbers f) a

  -- a file that is refused, and an accepted one, by its own verdict
  pub verdict-no : (n : ℕ) → first_no (load_asks f) ≡ suc n → (first_no (asks_in (judge_call f) f id date) ≡ suc n) × (first_no (open_asks f id date) ≡ suc n)
  unfolding open_asks asks_in first_no judge_call answer
  verdict-no n e = (rw (e, eqb-suc-zero n) refl, append-no (load_asks f) _ n e)

  -- an accepted file's verdict is its calendar, and the first question answered no by it is that of open
  pub verdict-yes : first_no (load_asks f) ≡ 0
      → (judge_call f ≡ record { refusal = 0; value = calendar_of f })
      × (first_no (asks_in (record { refusal = 0; value = calendar_of f }) f id date) ≡ first_no (open_asks f id date))
  verdict-yes e = (
    judge-accepted f e,
    rest_in (record { refusal = 0; value = calendar_of f }) f id date refl ∙
        rw (halves-found f id e, halves_product f id e) (sym (rest-is e)),
  )

  -- an opening by the file's own verdict
  pub opening-is : opening_in (judge_call f) f id date ≡ opening_of f id date
  unfolding opening_in opening_of
  opening-is = go (first_no (load_asks f)) refl
    where
      go : (n : ℕ) → first_no (load_asks f) ≡ n → opening_in (judge_call f) f id date ≡ opening_of f id date
      go zero e = rw (verdict-yes e).0 (rw ((verdict-yes e).1, halves_product f id e) refl)
      go (suc n) e = rw ((verdict-no n e).0, (verdict-no n e).1, eqb-suc-zero n) refl

-- what the questions of an accepted open leave
pub record OpenedFrom (f id : List ℕ) (date : ℕ) : Type 0 where
  -- the file passes the questions of load
  pub loaded : first_no (load_asks f) ≡ 0
  -- the id is in the file
  pub there : found f id ≡ true
  -- the date is in the cover of the file's calendar
  pub dated : in_cover (calendar_of f).cover date ≡ true
  -- the date passes question 24 with the file's calendar
  pub week : week_into_cover (product_of f id).kind (calendar_of f).cover date ≡ true
  -- the fresh listing of the file's calendar is all in the cover
  pub whole : all_in_cover (calendar_of f) (product_of f id).kind (product_of f id).group date ≡ true

load-first : (f : List ℕ) (rs : List Ask) → first_no (load_asks f ++ rs) ≡ 0 → first_no (load_asks f) ≡ 0
load-first f rs e = go (first_no (load_asks f)) refl
  where
    go : (n : ℕ) → first_no (load_asks f) ≡ n → first_no (load_asks f) ≡ 0
    go zero q = q
    go (suc n) q = absurd (omega (arith, e, append-no (load_asks f) rs n q))

-- an open that no question refuses passes each of them, asked of the file
pub opened-from : (f id : List ℕ) (date : ℕ) → first_no (open_asks f id date) ≡ 0 → OpenedFrom f id date
unfolding open_asks
opened-from f id date q =
    let l = load-first f _ q in
    let (a, r1) = none-no 8 (found f id) _ (sym (rest-is f id date l) ∙ q) in
    let (b, r2) = none-no 10 (in_cover (calendar_of f).cover date) _ r1 in
    let (w, r3) = none-no 23 (week_into_cover (product_of f id).kind (calendar_of f).cover date) _ r2 in
    let (c, r4) = none-no 15 (all_in_cover (calendar_of f) (product_of f id).kind (product_of f id).group date) [] r3 in
    record { loaded = l; there = a; dated = b; week = w; whole = c }

-- and those of an accepted open by a verdict
pub record OpenedIn (verdict : Answer Calendar) (f id : List ℕ) (date : ℕ) : Type 0 where
  -- the verdict is not a refusal
  pub loaded : verdict.refusal ≡ 0
  -- the id is found by halves
  pub there : found_by_halves f id ≡ true
  -- the date is in the cover of the verdict's calendar
  pub dated : in_cover verdict.value.cover date ≡ true
  -- the date passes question 24 with the verdict's calendar
  pub week : week_into_cover (product_by_halves f id).kind verdict.value.cover date ≡ true
  -- the fresh listing of the verdict's calendar is all in the cover
  pub whole : all_in_cover verdict.value (product_by_halves f id).kind (product_by_halves f id).group date ≡ true

verdict-first : (verdict : Answer Calendar) (f id : List ℕ) (date : ℕ) → first_no (asks_in verdict f id date) ≡ 0 → verdict.refusal ≡ 0
verdict-first verdict f id date q = go verdict.refusal refl
  where
    go : (n : ℕ) → verdict.refusal ≡ n → verdict.refusal ≡ 0
    go zero e = e
    go (suc n) e = absurd (omega (arith, q, first-in verdict f id date n e))

-- an open that no question refuses passes each of them, asked by the verdict
pub opened_in : (verdict : Answer Calendar) (f id : List ℕ) (date : ℕ) → first_no (asks_in verdict f id date) ≡ 0 → OpenedIn verdict f id date
opened_in verdict f id date q =
    let l = verdict-first verdict f id date q in
    let (a, r1) = none-no 8 (found_by_halves f id) _ (sym (rest_in verdict f id date l) ∙ q) in
    let (b, r2) = none-no 10 (in_cover verdict.value.cover date) _ r1 in
    let (w, r3) = none-no 23 (week_into_cover (product_by_halves f id).kind verdict.value.cover date) _ r2 in
    let (c, r4) = none-no 15 (all_in_cover verdict.value (product_by_halves f id).kind (product_by_halves f id).group date) [] r3 in
    record { loaded = l; there = a; dated = b; week = w; whole = c }
