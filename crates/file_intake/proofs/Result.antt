-- The final call gives the result of the whole-file load.
-- Assumes nothing.
use Prim.Native.Nat.{ℕ, zero, suc, ◌+◌, ◌-◌, ◌*◌, ◌%◌, ◌≤◌, ◌<◌}
use mathlib.Core.Path.{◌≡◌, refl, ◌∙◌, sym, ap}
use mathlib.Core.Bool.{Bool, true, false, cond, and-false}
use mathlib.Core.List.{List, [], ◌∷◌}
use native.Mathlib.Nat.{le_refl}
use native.Mathlib.Omega.{arith}
use lib.Dec.{eqb, ltb}
use lib.ListN.{length}
use borrow.Author.Tests.{eq-eqb, ne_eqb, le-leb, lt-ltb, le-ltb, ltb-true}
use Rattle.questions.specs.Questions.{Ask, ask, first_no, answer}
use Rattle.questions.specs.Search.{every}
use Rattle.questions.proofs.Asks.{first-yes}
use Rattle.questions.proofs.Bools.{and_both}
use Rattle.questions.proofs.Search.{every-at}
use Rattle.calendar_words.proofs.DayWords.{every-same}
use Rattle.file_blocks.specs.Blocks.{block_count, block_of, is_calendar, year_of_block, length_right, checks_right, header_right, headers_right}
use Rattle.file_calendar.specs.Calendars.{year_count, order_right, calendars_clean, weeks_right}
use Rattle.file_calendar.proofs.CalendarBlocks.{Ordered, ordered, calendar-block, block-year}
use Rattle.file_records.specs.Records.{products_right}
use Rattle.file_ids.specs.Ids.{is_record, record_count, ids_rise}
use Rattle.file_load.specs.Load.{load_asks, load_call}
use Rattle.file_load.specs.declared.Counts.{Counts}
use Rattle.file_load.proofs.Accepting.{year-right}
use Rattle.file_intake.specs.declared.Intake.{Intake}
use Rattle.file_intake.specs.Intake.{day_trades, days_of, idle_through, with_block, announce_call, plausible, take_call, all_taken, finish_call, state_after}
use Rattle.file_intake.specs.Intake.{refused_state, too_early}
use Rattle.file_intake.specs.OneBlock.{OneBlock}
use Rattle.file_intake.proofs.Steps.{finish-early}
use Rattle.file_intake.proofs.Lowest.{numbered, answers_below, lowest-is, yes2, yes3, yes4, yes5, yes6, yes7, yes8}
use Rattle.file_intake.proofs.Order.{count_most, announced-is, taken_is, years-is, order_same}
use Rattle.file_intake.proofs.WeeksByBlock.{weeks-right}
use Rattle.file_intake.proofs.BlockRecords.{records_is, block-long}
use Rattle.file_intake.proofs.IdsByBlock.{ids-right}

-- two lists of questions with the same first no: the answers after a no do not matter
same_first : (q : ℕ) (a b : Bool) (xs ys : List Ask) → a ≡ b → (b ≡ true → first_no xs ≡ first_no ys) → first_no (ask q a ∷ xs) ≡ first_no (ask q b ∷ ys)
unfolding first_no
same_first q a true xs ys e h = rw e (h refl)
same_first q a false xs ys e h = rw e

-- asking for the lowest refusal gives it
asked : (r : ℕ) → first_no (ask r (eqb r 0) ∷ []) ≡ r
unfolding first_no
asked zero = refl
asked (suc r) = rw (ne_eqb (suc r) 0 (λ z. omega arith))

-- no question of a list has a number above its last
numbered-most : (q : ℕ) (ps : List Bool) → first_no (numbered (suc q) ps) ≤ q + length ps
unfolding first_no
numbered-most q [] = omega arith
numbered-most q (p ∷ ps) = go p (numbered-most (suc q) ps)
  where
    go : (b : Bool) → first_no (numbered (suc (suc q)) ps) ≤ suc q + length ps → cond b (first_no (numbered (suc (suc q)) ps)) (suc q) ≤ q + suc (length ps)
    go true h = omega arith
    go false h = omega arith

-- days without trading are counted up to seven
through-most : (b : List ℕ) (idle n : ℕ) → idle ≤ 7 → idle_through b idle n ≤ 7
unfolding idle_through
through-most b idle zero h = h
through-most b idle (suc n) h = go (day_trades b n) (ltb (idle_through b idle n) 7) refl (through-most b idle n h)
  where
    go : (t c : Bool) → ltb (idle_through b idle n) 7 ≡ c → idle_through b idle n ≤ 7 → cond t 0 (cond c (suc (idle_through b idle n)) (idle_through b idle n)) ≤ 7
    go true c e l = omega arith
    go false true e l = omega (arith, ltb-true (idle_through b idle n) 7 e)
    go false false e l = l

-- answers with the same first no and the same value
same_answer : {A : Type 0} (xs ys : List Ask) (zeros v w : A) → first_no xs ≡ first_no ys → v ≡ w → answer xs zeros v ≡ answer ys zeros w
unfolding answer
same_answer xs ys zeros v w e q = rw (e, q)

module _ (f : List ℕ) (whole : length f ≡ 512 * block_count f) (low : 2 ≤ block_count f) (high : block_count f ≤ 128) where
  abbrev n : ℕ
  n = block_count f

  abbrev last : Intake
  last = state_after f n n

  length-right : length_right f ≡ true
  unfolding length_right
  length-right = and_both (and_both (eq-eqb (length f % 512) 0 (omega arith)) (le-leb 1024 (length f) (omega arith))) (le-leb (length f) 65536 (omega arith))

  checks : every n (yes2 f n) ≡ checks_right f
  unfolding checks_right
  checks = refl

  headers : every n (yes3 f n) ≡ headers_right f
  unfolding headers_right
  headers = every-same (yes3 f n) (λ k. header_right (block_of f k) k) n (λ k h. ap (header_right (block_of f k)) (taken_is f n k))

  clean-blocks : every n (yes5 f n) ≡ calendars_clean f
  unfolding calendars_clean
  clean-blocks = refl

  products : every n (yes7 f n) ≡ products_right f
  unfolding products_right
  products = refl

  -- 3 and 4 give the years of the cover
  first-year : headers_right f ≡ true → (o : Ordered f) → (k : ℕ) → k < year_count f → (2000 ≤ year_of_block (block_of f k)) × (year_of_block (block_of f k) ≤ 2099)
  unfolding headers_right
  first-year e o k h =
      year-right (block_of f k) k (every-at (λ k. header_right (block_of f k) k) n k e (omega (arith, o.fewer))) (calendar-block f o k h)

  weeks : headers_right f ≡ true → order_right f ≡ true → every n (yes6 f n) ≡ weeks_right f
  weeks e3 e4 =
      let o = ordered f e4 in
      let a = first-year e3 o 0 (omega (arith, o.some)) in
      let b = first-year e3 o (year_count f - 1) (omega (arith, o.some)) in
      weeks-right f o a.0 (omega (arith, b.1, block-year f o (year_count f - 1) (omega (arith, o.some)), o.some))

  -- the lowest refusal of the blocks is the first of questions 1 to 8 that is answered no
  lowest-right : last.lowest ≡ first_no (load_asks f)
  unfolding load_asks
  lowest-right =
      lowest-is f n n
      ∙ same_first 2 (every n (yes2 f n)) (checks_right f) _ _ checks
      (λ e2. same_first 3 (every n (yes3 f n)) (headers_right f) _ _ headers
      (λ e3. same_first 4 (every n (yes4 f n)) (order_right f) _ _ (order_same f (omega arith))
      (λ e4. same_first 5 (every n (yes5 f n)) (calendars_clean f) _ _ clean-blocks
      (λ e5. same_first 6 (every n (yes6 f n)) (weeks_right f) _ _ (weeks e3 e4)
      (λ e6. same_first 7 (every n (yes7 f n)) (products_right f) _ _ products
      (λ e7. same_first 8 (every n (yes8 f n)) (ids_rise f) _ _ (ids-right f whole) (λ e8. refl)))))))
      ∙ sym (first-yes 1 _ length-right)

  counts-right : ◌≡◌ {A = Counts} (record { years = last.years; records = last.records }) (record { years = year_count f; records = record_count f })
  unfolding year_count record_count
  counts-right = rw (years-is f n n, records_is f whole n (le_refl n))

  -- the state of every moment is plausible
  lowest-most : (k : ℕ) → (state_after f n k).lowest ≤ 8
  lowest-most k = omega (arith, lowest-is f n k, numbered-most 1 (answers_below f n k))

  idle-most : (k : ℕ) → (state_after f n k).idle ≤ 7
  unfolding state_after with_block
  idle-most zero = omega arith
  idle-most (suc k) = go (is_calendar (block_of f k)) (idle-most k)
    where
      go : (b : Bool) → (state_after f n k).idle ≤ 7
          → cond b (idle_through (block_of f k) (state_after f n k).idle (days_of (block_of f k))) (state_after f n k).idle ≤ 7
      go true h = through-most (block_of f k) (state_after f n k).idle (days_of (block_of f k)) h
      go false h = h

  state-plausible : (k : ℕ) → k ≤ n → plausible (state_after f n k) ≡ true
  unfolding plausible
  state-plausible k h =
      rw (announced-is f n k, taken_is f n k)
      (and_both (le-leb 2 n low)
      (and_both (le-leb n 128 high)
      (and_both (le-leb k n h)
      (and_both (le-leb _ 8 (lowest-most k))
      (and_both (le-leb (state_after f n k).years k (omega (arith, years-is f n k, count_most (λ j. is_calendar (block_of f j)) k)))
      (and_both (le-leb _ 7 (idle-most k)) (le-leb (state_after f n k).records (15 * k)
      (omega (arith, records_is f whole k h, count_most (is_record f) (15 * k))))))))))

  asks-right : first_no (ask 1 (all_taken last) ∷ ask last.lowest (eqb last.lowest 0) ∷ []) ≡ first_no (load_asks f)
  asks-right =
      first-yes 1 _ (and_both (state-plausible n (le_refl n)) (eq-eqb last.taken last.announced (taken_is f n n ∙ sym (announced-is f n n))))
      ∙ asked last.lowest ∙ lowest-right

  announce-right : announce_call n ≡ record { refusal = 0; state = state_after f n 0 }
  unfolding announce_call state_after
  announce-right = rw (le-leb 2 n low, le-leb n 128 high)

  take-right : (k : ℕ) → k < n → take_call (state_after f n k) (block_of f k) ≡ record { refusal = 0; state = state_after f n (suc k) }
  unfolding take_call state_after
  take-right k h =
      rw (and_both (state-plausible k (omega arith))
      (and_both (lt-ltb (state_after f n k).taken (state_after f n k).announced (omega (arith, taken_is f n k, announced-is f n k)))
      (eq-eqb (length (block_of f k)) 512 (block-long f whole k h))))

  length-refused : (k : ℕ) (b : List ℕ) → (length b ≡ 512 → ⊥) → take_call (state_after f n k) b ≡ refused_state (state_after f n k)
  unfolding take_call
  length-refused k b h =
      rw (ne_eqb (length b) 512 h, and-false (ltb (state_after f n k).taken (state_after f n k).announced), and-false (plausible (state_after f n k)))

  too-many-refused : (b : List ℕ) → take_call last b ≡ refused_state last
  unfolding take_call
  too-many-refused b =
      rw (le-ltb last.taken last.announced (omega (arith, taken_is f n n, announced-is f n n)), and-false (plausible last))

  early-refused : (k : ℕ) → k < n → finish_call (state_after f n k) ≡ too_early
  early-refused k h =
      finish-early (state_after f n k)
      (rw (ne_eqb (state_after f n k).taken (state_after f n k).announced (λ z. omega (arith, taken_is f n k, announced-is f n k)))
      (and-false (plausible (state_after f n k))))

  -- for every file of 2 to 128 whole blocks
  pub one-block-load : OneBlock f
  unfolding finish_call load_call
  one-block-load =
      record {
        announced = announce-right;
        taken = take-right;
        result =
            same_answer (ask 1 (all_taken last) ∷ ask last.lowest (eqb last.lowest 0) ∷ []) (load_asks f)
            (record { years = 0; records = 0 }) (record { years = last.years; records = last.records })
            (record { years = year_count f; records = record_count f })
            asks-right counts-right;
        not-a-block = length-refused;
        too_many = too-many-refused;
        early = early-refused;
      }
