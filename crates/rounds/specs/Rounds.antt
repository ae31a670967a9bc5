-- The morning round: a queue of table numbers and its calls (02, Note 13; questions 10, 30 and 31).
-- Assumes nothing.
use Rattle.std.specs.Prelude.{ℕ, suc, ◌-◌, Bool, not, ◌&&◌, cond, List, [], ◌∷◌, ◌++◌, leb, eqb, length, take, drop, get_or, replicate, Result, Ok, Err}
use Rattle.questions.specs.Questions.{Ask, ask, first_no}
use Rattle.questions.specs.Search.{every, one_of}
use Rattle.rounds.specs.declared.Queue.{Queue}
use Rattle.questions.specs.declared.Refusal.{Refusal}
use Rattle.questions.specs.Refusals.{refusal_number}
use Rattle.rounds.specs.declared.RoundCalled.{RoundCalled}
use Rattle.rounds.specs.declared.Handled.{Handled}
use Rattle.rounds.specs.declared.Changed.{Changed}

-- the numbers that are queued, the first one first
abbrev pub queued : Queue → List ℕ
queued q = take q.count q.tables

-- 'table numbers 0 to 199, each at most once', of place i
abbrev pub queue_place_right : List ℕ → ℕ → Bool
queue_place_right tables i = leb (get_or tables i 0) 199 && every i (λ j. not (eqb (get_or tables j 0) (get_or tables i 0)))

-- 'Up to 200 tables .. a queue of table numbers 0 to 199, each at most once'; 10 'A queue that breaks this gets 10'
unfoldable pub queue_right : Queue → Bool
queue_right q = leb q.count 200 && every q.count (queue_place_right q.tables)

-- 200 places that hold these numbers; the places after them are zero
unfoldable pub places200 : List ℕ → List ℕ
places200 tables = tables ++ replicate (200 - length tables) 0

-- a queue of these numbers
abbrev pub queue_of : List ℕ → Queue
queue_of tables = record { tables = places200 tables; count = length tables }

-- how many numbers stand before a number; all of them where it is not there; only the code needs it
unfoldable pub index_of : List ℕ → ℕ → ℕ
index_of [] x = 0
index_of (y ∷ ys) x = cond (eqb x y) 0 (suc (index_of ys x))

-- 30 'is b from 1 to 200 ..'
abbrev pub round_right : ℕ → Bool
round_right b = leb 1 b && leb b 200

-- 30 '.. and the table number 0 to 199?'
abbrev pub table_number_right : ℕ → Bool
table_number_right table = leb table 199

-- 'A queue that breaks this gets 10, first', then 30:
-- a call of the round
abbrev pub handle_asks : Queue → ℕ → List Ask
handle_asks q b = ask 10 (queue_right q) ∷ ask 30 (round_right b) ∷ []

-- 'A call takes the first b, or all if fewer, returns their numbers in that order, and puts them at the end in the same order'
abbrev pub handled : List ℕ → ℕ → Handled
handled tables b = record { refusal = 0; taken = queue_of (take b tables); queue = queue_of (drop b tables ++ take b tables) }

-- what the answer of a call of the round stands for: 0, the numbers taken and the queue;
-- refused, it 'takes none and returns the queue as it came'
abbrev pub handled_of : Queue → Result RoundCalled Refusal → Handled
handled_of q (Ok round) = record { refusal = 0; taken = round.taken; queue = round.queue }
handled_of q (Err refusal) = record { refusal = refusal_number refusal; taken = queue_of []; queue = q }

-- 'A refused call takes none and returns the queue as it came'
unfoldable pub handle_call : Queue → ℕ → Handled
handle_call q b =
    cond (eqb (first_no (handle_asks q b)) 0) (handled (queued q) b)
    (record { refusal = first_no (handle_asks q b); taken = queue_of []; queue = q })

-- a joining or leaving: accepted, it leaves a queue of these numbers; refused, it 'returns the queue as it came'
unfoldable pub changed : Queue → List Ask → List ℕ → Changed
changed q asks tables =
    cond (eqb (first_no asks) 0) (record { refusal = 0; queue = queue_of tables }) (record { refusal = first_no asks; queue = q })

-- what the answer of a joining or leaving stands for: 0 and the queue; refused, it 'returns the queue as it came'
abbrev pub changed_of : Queue → Result Queue Refusal → Changed
changed_of q (Ok queue) = record { refusal = 0; queue = queue }
changed_of q (Err refusal) = record { refusal = refusal_number refusal; queue = q }

-- a joining or leaving: 10, 30, then 31, which asks each its own way
abbrev pub change_asks : Queue → ℕ → Bool → List Ask
change_asks q table holds = ask 10 (queue_right q) ∷ ask 30 (table_number_right table) ∷ ask 31 holds ∷ []

-- 31 'for joining, is it not yet queued ..'
abbrev pub join_asks : Queue → ℕ → List Ask
join_asks q table = change_asks q table (not (one_of (queued q) table))

-- 'Tables join at the end'
unfoldable pub join_call : Queue → ℕ → Changed
join_call q table = changed q (join_asks q table) (queued q ++ (table ∷ []))

-- 31 '.. and for leaving, is it queued?'
abbrev pub leave_asks : Queue → ℕ → List Ask
leave_asks q table = change_asks q table (one_of (queued q) table)

-- '.. and leave from anywhere, the rest keeping their order'
unfoldable pub without : ℕ → List ℕ → List ℕ
without table [] = []
without table (x ∷ xs) = cond (eqb x table) (without table xs) (x ∷ without table xs)

-- a leaving: the queue without the table
unfoldable pub leave_call : Queue → ℕ → Changed
leave_call q table = changed q (leave_asks q table) (without table (queued q))
