-- What `gateway` prints of an input (02, note 8; docs/OPERATIONS.md, `gateway`,
-- and docs/DECISIONS.md, Loading with one block of memory, from which the quotations are).
-- Assumes nothing.
use Rattle.std.specs.Prelude.{ℕ, zero, suc, ◌+◌, ◌*◌, ◌/◌, ◌%◌, ◌≤◌, ◌≡◌, true, false, cond, List, [], ◌∷◌, ◌++◌, eqb, ltb, length, take, drop}
use Rattle.questions.specs.Questions.{Answer}
use Rattle.session_text.specs.TermsText.{last_digit, in_four_digits, spaced, refusal_text}
use Rattle.file_load.specs.declared.Counts.{Counts}
use Rattle.file_intake.specs.declared.Intake.{Intake}
use Rattle.file_intake.specs.declared.Taken.{Taken}
use Rattle.file_intake.specs.Intake.{announce_call, take_call, finish_call}
use Rattle.streams.specs.declared.reads.Input.{Input}
use Rattle.streams.specs.Inputs.{ForInput}
use Rattle.file_intake_text.specs.declared.Ended.{Ended}

-- 'It reads 512 bytes at a time':
-- piece k of an input
unfoldable pub piece_of : List ℕ → ℕ → List ℕ
piece_of input k = take 512 (drop (512 * k) input)

-- how many there are, the last perhaps a short one
abbrev pub piece_count : List ℕ → ℕ
piece_count input = (length input + 511) / 512

-- 'It stops at the first call that is refused':
-- the calls: the number of blocks is announced, then the first k pieces are handed over
unfoldable pub handed_over : ℕ → List ℕ → ℕ → Taken
handed_over n input zero = announce_call n
handed_over n input (suc k) =
    cond (eqb (handed_over n input k).refusal 0) (take_call (handed_over n input k).state (piece_of input k)) (handed_over n input k)

-- '`OK` and the counts of years and of records', and a line feed, 10
unfoldable pub counts_text : Counts → List ℕ
counts_text c = (79 ∷ (75 ∷ [])) ++ (spaced c.years ++ (spaced c.records ++ (10 ∷ [])))

-- 'or `NO` and the refusal':
-- the result of a call
unfoldable pub result_text : Answer Counts → List ℕ
result_text a = cond (eqb a.refusal 0) (counts_text a.value) (refusal_text a.refusal)

-- what is printed after some calls: the final call is made where none was refused
unfoldable pub taken_text : Taken → List ℕ
taken_text t = cond (eqb t.refusal 0) (result_text (finish_call t.state)) (refusal_text t.refusal)

-- '`gateway N < master.bin` judges a file where there is no room for it':
-- what is printed after N blocks were announced and all pieces of the input handed over
unfoldable pub gateway_text : ℕ → List ℕ → List ℕ
gateway_text n input = taken_text (handed_over n input (piece_count input))

-- 'A read that fails gets 1';
-- else this is the text of every input that begins with some bytes, as many as were read; where no read is left, of them alone
abbrev pub GatewaySays : ℕ → Input → List ℕ → Type 0
GatewaySays n i text = (i.failed ≡ true → text ≡ refusal_text 1) × (i.failed ≡ false → ForInput i (λ input. text ≡ gateway_text n input))

-- the end of a run: as many bytes were handed out as such a text has
-- which bytes these were is not said here: the function that hands them out requires it (`NextOf`)
pub record GatewayRan (n : ℕ) (i : Input) (bytes : ℕ) : Type 0 where
  pub text : List ℕ
  pub says : GatewaySays n i text
  pub count : bytes ≡ length text

-- what a run ended with, as an answer of the final call
abbrev pub ended_answer : Ended → Answer Counts
ended_answer e = record { refusal = e.refusal; value = record { years = e.years; records = e.records } }

-- the end at a refused call
abbrev pub refused_end : ℕ → Ended
refused_end n = record { refusal = n; years = 0; records = 0 }

-- the line of such an end
unfoldable pub ended_text : Ended → List ℕ
ended_text e = result_text (ended_answer e)

-- only the code needs it: a number of 16 bits in five digits
unfoldable pub five_digits : ℕ → List ℕ
five_digits n = last_digit (n / 10000) ∷ in_four_digits (n % 10000)

-- only the code needs it: how many of the five digits are left without the zeros before the number
unfoldable pub digit_count : ℕ → ℕ
digit_count n = cond (ltb n 10) 1 (cond (ltb n 100) 2 (cond (ltb n 1000) 3 (cond (ltb n 10000) 4 5)))

-- a state that some blocks leave: there is an input of as many whole blocks as were taken, of which none is refused;
-- at most 128 are announced
pub record IntakeReached (n : ℕ) (s : Intake) : Type 0 where
  pub input : List ℕ
  pub blocks : length input ≡ 512 * s.taken
  pub state : handed_over n input s.taken ≡ record { refusal = 0; state = s }
  pub few : (s.taken ≤ s.announced) × (s.announced ≤ 128)
