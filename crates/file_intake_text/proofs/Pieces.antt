-- The pieces of an input that are handed over one after the other leave the state of the definition, and the calls print its text.
-- Assumes nothing.
use mathlib.Core.Path.{◌≡◌, refl, sym, ap, ◌∙◌}
use mathlib.Core.Bool.{Bool, true, false, ◌&&◌, true≢false}
use mathlib.Core.List.{List, [], ◌∷◌, ◌++◌, append-nil, append_assoc}
use mathlib.Core.Logic.{◌⊎◌, inl, inr}
use Prim.Native.Nat.{ℕ, zero, suc, ◌+◌, ◌*◌, ◌/◌, ◌≤◌, ◌<◌}
use native.Mathlib.Omega.{arith}
use lib.Dec.{eqb, leb, ltb}
use lib.ListN.{length, take, drop, length-append, length-drop}
use lib.Seq.{take_all, take-append-le, take-append_seam, drop-append-le, drop-append_seam}
use borrow.Author.Tests.{ne_eqb, leb-true, ltb-true, eqb-true}
use Rattle.questions.specs.Questions.{Answer}
use Rattle.questions.proofs.Bools.{both, lt-or-ge}
use Rattle.file_load.specs.declared.Counts.{Counts}
use Rattle.session_text.specs.TermsText.{decimal, spaced, refusal_text}
use Rattle.file_intake.specs.declared.Intake.{Intake}
use Rattle.file_intake.specs.declared.Taken.{Taken}
use Rattle.file_intake.specs.Intake.{announced_state, announce_call, refused_state, may_take, plausible, take_call, with_block, finish_call}
use Rattle.file_text_print.specs.WholeText.{NextOf}
use Rattle.streams.specs.declared.reads.Input.{Input}
use Rattle.streams.specs.Inputs.{ForInput}
use Rattle.file_intake_text.specs.declared.Ended.{Ended}
use Rattle.file_intake_text.specs.GatewayTexts.{piece_of, handed_over, counts_text, result_text, taken_text, gateway_text, GatewaySays, GatewayRan, refused_end}
use Rattle.file_intake_text.specs.GatewayTexts.{ended_answer, ended_text, IntakeReached}

-- ---- pieces

module _ (input b : List ℕ) (k : ℕ) (e : length input ≡ 512 * k) where
  -- an earlier piece stays
  piece-stays : (j : ℕ) → j < k → piece_of (input ++ b) j ≡ piece_of input j
  unfolding piece_of
  piece-stays j h =
      let l : 512 * j ≤ length input = omega arith in
      let m : 512 ≤ length (drop (512 * j) input) = omega (arith, length-drop (512 * j) input) in
      ap (take 512) (drop-append-le (512 * j) input b l) ∙ take-append-le 512 (drop (512 * j) input) b m

  -- and the next is what was added
  piece-next : length b ≤ 512 → piece_of (input ++ b) k ≡ b
  unfolding piece_of
  piece-next h = rw (← e) (ap (take 512) (drop-append_seam input b) ∙ take_all 512 b h)

  stays : (n j : ℕ) → j ≤ k → handed_over n (input ++ b) j ≡ handed_over n input j
  unfolding handed_over
  stays n zero h = refl
  stays n (suc j) h = rw (stays n j (omega arith), piece-stays j (omega arith)) refl

-- ---- the calls, one by one

one_more : (n : ℕ) (input : List ℕ) (k : ℕ) (s : Intake) → handed_over n input k ≡ record { refusal = 0; state = s }
    → handed_over n input (suc k) ≡ take_call s (piece_of input k)
unfolding handed_over
one_more n input k s e = rw e refl

-- a block that is taken has 512 bytes and is not one too many
record May (s : Intake) (b : List ℕ) : Type 0 where
  whole : length b ≡ 512
  more : s.taken < s.announced

may : (s : Intake) (b : List ℕ) → may_take s b ≡ true → May s b
may s b e =
    let (p, q) = both (plausible s) (ltb s.taken s.announced && eqb (length b) 512) e in
    let r : (ltb s.taken s.announced ≡ true) × (eqb (length b) 512 ≡ true) = both (ltb s.taken s.announced) (eqb (length b) 512) q in
    record { whole = eqb-true (length b) 512 r.1; more = ltb-true s.taken s.announced r.0 }

record Accepted (s : Intake) (b : List ℕ) (t : Taken) : Type 0 where
  ready : May s b
  taken : t.state.taken ≡ suc s.taken
  announced : t.state.announced ≡ s.announced

accepted : (s : Intake) (b : List ℕ) (t : Taken) → t ≡ take_call s b → t.refusal ≡ 0 → Accepted s b t
unfolding take_call with_block
accepted s b t e z = go (may_take s b) refl
  where
    go : (x : Bool) → may_take s b ≡ x → Accepted s b t
    go true y =
        let q : t ≡ record { refusal = 0; state = with_block s b } = e ∙ rw y refl in
        record {
          ready = may s b y;
          taken = ap (λ (u : Taken). u.state.taken) q;
          announced = ap (λ (u : Taken). u.state.announced) q;
        }
    go false y =
        let q : t ≡ refused_state s = e ∙ rw y refl in
        let o : ◌≡◌ {A = ℕ} 1 0 = sym (ap (λ (u : Taken). u.refusal) q) ∙ z in
        absurd (omega arith)

-- ---- the text after some calls

text-refused : (t : Taken) → (t.refusal ≡ 0 → ⊥) → refusal_text t.refusal ≡ taken_text t
unfolding taken_text
text-refused t h = rw (ne_eqb t.refusal 0 h) refl

text-finished : (s : Intake) → result_text (finish_call s) ≡ taken_text (record { refusal = 0; state = s })
unfolding taken_text
text-finished s = refl

-- ---- a refused announcement: no input changes it

module _ (n : ℕ) (t : Taken) (e : t ≡ announce_call n) where
  refused-stays : (t.refusal ≡ 0 → ⊥) → (input : List ℕ) (k : ℕ) → handed_over n input k ≡ t
  unfolding handed_over
  refused-stays h input zero = sym e
  refused-stays h input (suc k) = rw (refused-stays h input k, ne_eqb t.refusal 0 h) refl

  -- where the announced number of blocks is refused, that refusal's text is the gateway's text, whatever the input
  pub announced-refused : (t.refusal ≡ 0 → ⊥) → (input : List ℕ) → refusal_text t.refusal ≡ gateway_text n input
  unfolding gateway_text
  announced-refused h input = text-refused t h ∙ ap taken_text (sym (refused-stays h input ((length input + 511) / 512)))

  -- an accepted announcement leaves a state with no block taken, which is reached
  pub begins : t.refusal ≡ 0 → (s : Intake) → s ≡ t.state → (IntakeReached n s) × (s.taken ≡ 0)
  unfolding announce_call handed_over
  begins z s q = go (leb 2 n && leb n 128) refl
    where
      go : (b : Bool) → (leb 2 n && leb n 128) ≡ b → (IntakeReached n s) × (s.taken ≡ 0)
      go true y =
          let a : t ≡ record { refusal = 0; state = announced_state n } = e ∙ rw y refl in
          let m : s ≡ announced_state n = q ∙ ap (λ (u : Taken). u.state) a in
          let w : n ≤ 128 = leb-true n 128 (both (leb 2 n) (leb n 128) y).1 in
          (rw m record { input = []; blocks = refl; state = rw y refl; few = (omega arith, w) }, rw m refl)
      go false y =
          let a : t ≡ refused_state (announced_state 0) = e ∙ rw y refl in
          let o : ◌≡◌ {A = ℕ} 1 0 = sym (ap (λ (u : Taken). u.refusal) a) ∙ z in
          absurd (omega arith)

-- after a refused call the others change nothing
refused-on : (n : ℕ) (input : List ℕ) (k : ℕ) (t : Taken) → handed_over n input k ≡ t → (t.refusal ≡ 0 → ⊥) → (j m : ℕ) → m ≡ j + k → handed_over n input m ≡ t
unfolding handed_over
refused-on n input k t e h zero m p = let q : m ≡ k = omega (arith, p) in ap (handed_over n input) q ∙ e
refused-on n input k t e h (suc j) m p =
    let q : m ≡ suc (j + k) = omega (arith, p) in
    let s : handed_over n input (suc (j + k)) ≡ t = rw (refused-on n input k t e h j (j + k) refl, ne_eqb t.refusal 0 h) refl in
    ap (handed_over n input) q ∙ s

-- ---- from block to block

module _ (n : ℕ) (s : Intake) (g : IntakeReached n s) where
  -- the input has ended
  ends : result_text (finish_call s) ≡ gateway_text n g.input
  unfolding gateway_text
  ends =
      let c : (length g.input + 511) / 512 ≡ s.taken = omega (arith, g.blocks) in
      text-finished s ∙ ap taken_text (sym (ap (handed_over n g.input) c ∙ g.state))

  module _ (b : List ℕ) (some : 0 < length b) (most : length b ≤ 512) (t : Taken) (q : t ≡ take_call s b) where
    handed : handed_over n (g.input ++ b) (suc s.taken) ≡ t
    handed =
        one_more n (g.input ++ b) s.taken s (stays g.input b s.taken g.blocks n s.taken (omega arith) ∙ g.state)
        ∙ ap (take_call s) (piece-next g.input b s.taken g.blocks most)
        ∙ sym q

    count : (length (g.input ++ b) + 511) / 512 ≡ suc s.taken
    count = omega (arith, length-append g.input b, g.blocks)

    -- the block is refused, and the input has ended; or more of it may follow a whole block
    refused-last : (t.refusal ≡ 0 → ⊥) → refusal_text t.refusal ≡ gateway_text n (g.input ++ b)
    unfolding gateway_text
    refused-last h = text-refused t h ∙ ap taken_text (sym (ap (handed_over n (g.input ++ b)) count ∙ handed))

    refused-whole : (t.refusal ≡ 0 → ⊥) → length b ≡ 512 → (rest : List ℕ) → refusal_text t.refusal ≡ gateway_text n ((g.input ++ b) ++ rest)
    unfolding gateway_text
    refused-whole h w rest =
        let k : length (g.input ++ b) ≡ 512 * suc s.taken = omega (arith, length-append g.input b, g.blocks, w) in
        let e : handed_over n ((g.input ++ b) ++ rest) (suc s.taken) ≡ t =
        stays (g.input ++ b) rest (suc s.taken) k n (suc s.taken) (omega arith) ∙ handed in
        let c : (length ((g.input ++ b) ++ rest) + 511) / 512 ≡ (length rest + 511) / 512 + suc s.taken =
        omega (arith, length-append (g.input ++ b) rest, k) in
        text-refused t h ∙ ap taken_text (sym (refused-on n ((g.input ++ b) ++ rest) (suc s.taken) t e h ((length rest + 511) / 512)
        ((length ((g.input ++ b) ++ rest) + 511) / 512) c))

    -- or it is taken, as it is a whole one
    pub goes_on : t.refusal ≡ 0 → (r : Intake) → r ≡ t.state → (IntakeReached n r) × (r.taken ≡ s.taken + 1) × (length b ≡ 512)
    goes_on z r p =
        let a : Accepted s b t = accepted s b t q z in
        let w : r.taken ≡ suc s.taken = ap (λ (x : Intake). x.taken) p ∙ a.taken in
        let v : r.announced ≡ s.announced = ap (λ (x : Intake). x.announced) p ∙ a.announced in (
          record {
            input = g.input ++ b;
            blocks = omega (arith, w, length-append g.input b, g.blocks, a.ready.whole);
            state =
                ap (handed_over n (g.input ++ b)) w ∙ handed ∙ as-record t z
                ∙ ap (λ (x : Intake). record { refusal = 0; state = x }) (sym p);
            few = (omega (arith, w, v, a.ready.more), omega (arith, v, g.few.1));
          },
          omega (arith, w),
          a.ready.whole,
        )
      where
        as-record : (u : Taken) → u.refusal ≡ 0 → u ≡ record { refusal = 0; state = u.state }
        as-record u y = ap (λ (x : ℕ). record { refusal = x; state = u.state }) y

-- ---- what a run ends with

-- what is said where no read failed
said : (n : ℕ) (i : Input) (text : List ℕ) → i.failed ≡ false → ForInput i (λ input. text ≡ gateway_text n input) → GatewaySays n i text
said n i text f s = (λ e. absurd (true≢false (sym e ∙ f)), λ _. s)

refused-text : (r : Ended) (number : ℕ) → r ≡ refused_end number → (number ≡ 0 → ⊥) → ended_text r ≡ refusal_text number
unfolding ended_text result_text
refused-text r number e h = rw (e, ne_eqb number 0 h) refl

finished-text : (r : Ended) (a b : Answer Counts) → ended_answer r ≡ a → a ≡ b → ended_text r ≡ result_text b
unfolding ended_text
finished-text r a b e q = rw (e, q) refl

-- a read that failed gets 1
pub says-unread : (n : ℕ) (i : Input) (r : Ended) → i.failed ≡ true → r ≡ refused_end 1 → GatewaySays n i (ended_text r)
says-unread n i r f e = (λ _. refused-text r 1 e (λ z. omega arith), λ x. absurd (true≢false (sym f ∙ x)))

-- a refused announcement is said before any read
pub says-announced : (n : ℕ) (t : Taken) (i : Input) (r : Ended) → t ≡ announce_call n → (t.refusal ≡ 0 → ⊥) → r ≡ refused_end t.refusal → i.bytes ≡ 0
    → i.failed ≡ false → GatewaySays n i (ended_text r)
says-announced n t i r e h q b f =
    said n i (ended_text r) f
    record { input = []; count = omega (arith, b); is = λ rest _. refused-text r t.refusal q h ∙ announced-refused n t e h rest }

module _ (n : ℕ) (s : Intake) (g : IntakeReached n s) (i : Input) (f : i.failed ≡ false) (r : Ended) where
  -- the input ended after whole blocks
  pub says-finished : i.bytes ≡ 512 * s.taken → i.left ≡ 0 → (a : Answer Counts) → ended_answer r ≡ a → a ≡ finish_call s → GatewaySays n i (ended_text r)
  says-finished c z a e q =
      said n i (ended_text r) f
      record {
        input = g.input;
        count = omega (arith, c, g.blocks, g.few.0, g.few.1);
        is = λ rest h. rw (h z) (finished-text r a (finish_call s) e q ∙ ends n s g ∙ ap (gateway_text n) (sym (append-nil g.input)));
      }

  -- a block was refused: a short one is the last
  pub says-refused : (b : List ℕ) → 0 < length b → length b ≤ 512 → (t : Taken) → t ≡ take_call s b → (t.refusal ≡ 0 → ⊥) → r ≡ refused_end t.refusal
      → i.bytes ≡ 512 * s.taken + length b → (length b < 512 → i.left ≡ 0) → GatewaySays n i (ended_text r)
  says-refused b some most t q h e c short =
      said n i (ended_text r) f
      record {
        input = g.input ++ b;
        count = omega (arith, c, g.blocks, g.few.0, g.few.1, length-append g.input b, most);
        is = λ rest w. refused-text r t.refusal e h ∙ text rest w (lt-or-ge (length b) 512);
      }
    where
      text : (rest : List ℕ) → (i.left ≡ 0 → rest ≡ []) → (length b < 512) ⊎ (512 ≤ length b)
          → refusal_text t.refusal ≡ gateway_text n ((g.input ++ b) ++ rest)
      text rest w (inl x) = rw (w (short x)) (refused-last n s g b some most t q h ∙ ap (gateway_text n) (sym (append-nil (g.input ++ b))))
      text rest w (inr x) = refused-whole n s g b some most t q h (omega arith) rest

-- the count of what was handed out
pub gateway-ran : (n : ℕ) (i : Input) (text : List ℕ) (bytes : ℕ) → GatewaySays n i text → bytes ≡ length text → GatewayRan n i bytes
gateway-ran n i text bytes s e = record { text = text; says = s; count = e }

-- ---- its line, piece by piece

-- what stands between a beginning of a text and its rest comes next
next-in : (text a b rest : List ℕ) (at : ℕ) → text ≡ a ++ (b ++ rest) → at ≡ length a → NextOf text at b
next-in text a b rest at e p =
    record {
      is = rw (p, e, drop-append_seam a (b ++ rest)) (take-append_seam b rest);
      within = omega (arith, p, ap length e, length-append a (b ++ rest), length-append b rest);
    }

module _ (e : Ended) (h : e.refusal ≡ 0 → ⊥) where
  no_text : ended_text e ≡ (78 ∷ 79 ∷ 32 ∷ []) ++ (decimal e.refusal ++ (10 ∷ []))
  unfolding ended_text result_text refusal_text spaced
  no_text = rw (ne_eqb e.refusal 0 h) refl

  -- the line of a refusal begins with NO and a space
  pub no_word : NextOf (ended_text e) 0 (78 ∷ 79 ∷ 32 ∷ [])
  no_word = next-in (ended_text e) [] (78 ∷ 79 ∷ 32 ∷ []) (decimal e.refusal ++ (10 ∷ [])) 0 no_text refl

  -- after NO and the space the line has the number of the refusal
  pub no_number : (at : ℕ) → at ≡ 3 → NextOf (ended_text e) at (decimal e.refusal)
  no_number at p = next-in (ended_text e) (78 ∷ 79 ∷ 32 ∷ []) (decimal e.refusal) (10 ∷ []) at no_text p

  -- after the number of the refusal the line has a line feed
  pub no-feed : (at : ℕ) → at ≡ 3 + length (decimal e.refusal) → NextOf (ended_text e) at (10 ∷ [])
  no-feed at p =
      next-in (ended_text e) ((78 ∷ 79 ∷ 32 ∷ []) ++ decimal e.refusal) (10 ∷ []) [] at
      (no_text ∙ sym (append_assoc (78 ∷ 79 ∷ 32 ∷ []) (decimal e.refusal) (10 ∷ []))) (p ∙ sym (length-append (78 ∷ 79 ∷ 32 ∷ []) (decimal e.refusal)))

  -- the line of a refusal has no further bytes
  pub no_all : length (ended_text e) ≡ 3 + length (decimal e.refusal) + 1
  no_all = omega (arith, ap length no_text, length-append (decimal e.refusal) (10 ∷ []))

module _ (e : Ended) (h : e.refusal ≡ 0) where
  abbrev y : List ℕ
  y = decimal e.years

  abbrev r : List ℕ
  r = decimal e.records

  ok-text : ended_text e ≡ (79 ∷ 75 ∷ 32 ∷ []) ++ (y ++ ((32 ∷ []) ++ (r ++ (10 ∷ []))))
  unfolding ended_text result_text counts_text spaced
  ok-text = rw h refl

  -- the line of an accepted file begins with OK and a space
  pub ok-word : NextOf (ended_text e) 0 (79 ∷ 75 ∷ 32 ∷ [])
  ok-word = next-in (ended_text e) [] (79 ∷ 75 ∷ 32 ∷ []) (y ++ ((32 ∷ []) ++ (r ++ (10 ∷ [])))) 0 ok-text refl

  -- after OK and the space the line has the number of years
  pub ok-years : (at : ℕ) → at ≡ 3 → NextOf (ended_text e) at (decimal e.years)
  ok-years at p = next-in (ended_text e) (79 ∷ 75 ∷ 32 ∷ []) y ((32 ∷ []) ++ (r ++ (10 ∷ []))) at ok-text p

  abbrev two : List ℕ
  two = (79 ∷ 75 ∷ 32 ∷ []) ++ y

  two-text : ended_text e ≡ two ++ ((32 ∷ []) ++ (r ++ (10 ∷ [])))
  two-text = ok-text ∙ sym (append_assoc (79 ∷ 75 ∷ 32 ∷ []) y ((32 ∷ []) ++ (r ++ (10 ∷ []))))

  two-long : length two ≡ 3 + length y
  two-long = length-append (79 ∷ 75 ∷ 32 ∷ []) y

  -- after the number of years the line has a space
  pub ok-space : (at : ℕ) → at ≡ 3 + length (decimal e.years) → NextOf (ended_text e) at (32 ∷ [])
  ok-space at p = next-in (ended_text e) two (32 ∷ []) (r ++ (10 ∷ [])) at two-text (p ∙ sym two-long)

  abbrev three : List ℕ
  three = two ++ (32 ∷ [])

  three-text : ended_text e ≡ three ++ (r ++ (10 ∷ []))
  three-text = two-text ∙ sym (append_assoc two (32 ∷ []) (r ++ (10 ∷ [])))

  three-long : length three ≡ 3 + length y + 1
  three-long = length-append two (32 ∷ []) ∙ ap (λ (n : ℕ). n + 1) two-long

  -- after the second space the line has the number of records
  pub ok-records : (at : ℕ) → at ≡ 3 + length (decimal e.years) + 1 → NextOf (ended_text e) at (decimal e.records)
  ok-records at p = next-in (ended_text e) three r (10 ∷ []) at three-text (p ∙ sym three-long)

  -- after the number of records the line has a line feed
  pub ok-feed : (at : ℕ) → at ≡ 3 + length (decimal e.years) + 1 + length (decimal e.records) → NextOf (ended_text e) at (10 ∷ [])
  ok-feed at p =
      next-in (ended_text e) (three ++ r) (10 ∷ []) [] at (three-text ∙ sym (append_assoc three r (10 ∷ [])))
      (p ∙ ap (λ (n : ℕ). n + length r) (sym three-long) ∙ sym (length-append three r))

  -- the line of an accepted file has no further bytes
  pub ok-all : length (ended_text e) ≡ 3 + length (decimal e.years) + 1 + length (decimal e.records) + 1
  ok-all = omega (arith, ap length three-text, length-append three (r ++ (10 ∷ [])), length-append r (10 ∷ []), three-long)
