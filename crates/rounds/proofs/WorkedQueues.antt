-- Calls worked by hand.
-- Assumes nothing.
use mathlib.Core.Path.{◌≡◌, refl}
use mathlib.Core.Bool.{true, false}
use mathlib.Core.List.{[], ◌∷◌}
use Rattle.questions.specs.Questions.{first_no}
use Rattle.questions.specs.Search.{every, one_of}
use Rattle.rounds.specs.declared.Queue.{Queue}
use Rattle.rounds.specs.Rounds.{queue_right, places200, queue_of, handle_call, changed, join_call, without, leave_call}
use Rattle.rounds.specs.Waiting.{handle, join, leave, stays_same, taken_within}

abbrev four : Queue
four = queue_of (5 ∷ 7 ∷ 9 ∷ 2 ∷ [])

three-taken : handle_call four 3 ≡ record { refusal = 0; taken = queue_of (5 ∷ 7 ∷ 9 ∷ []); queue = queue_of (2 ∷ 5 ∷ 7 ∷ 9 ∷ []) }
unfolding handle_call first_no queue_right places200 every
three-taken = refl

-- '.. or all if fewer'
all-taken : handle_call four 200 ≡ record { refusal = 0; taken = four; queue = four }
unfolding handle_call first_no queue_right places200 every
all-taken = refl

none-there : handle_call (queue_of []) 1 ≡ record { refusal = 0; taken = queue_of []; queue = queue_of [] }
unfolding handle_call first_no queue_right places200 every
none-there = refl

-- 'A queue that breaks this gets 10, first', b = 0 or not
twice : handle_call (queue_of (7 ∷ 7 ∷ [])) 0 ≡ record { refusal = 10; taken = queue_of []; queue = queue_of (7 ∷ 7 ∷ []) }
unfolding handle_call first_no queue_right places200 every
twice = refl

joins : join_call four 0 ≡ record { refusal = 0; queue = queue_of (5 ∷ 7 ∷ 9 ∷ 2 ∷ 0 ∷ []) }
unfolding join_call changed first_no queue_right places200 every one_of
joins = refl

leaves-from-the-middle : leave_call four 7 ≡ record { refusal = 0; queue = queue_of (5 ∷ 9 ∷ 2 ∷ []) }
unfolding leave_call changed first_no queue_right places200 every one_of without
leaves-from-the-middle = refl

-- 30 before 31, which would say no too
no-such-table : leave_call four 200 ≡ record { refusal = 30; queue = four }
unfolding leave_call changed first_no queue_right places200 every one_of without
no-such-table = refl

-- table 2 at place 4 is not taken within one call of three, and is within two
not-in-one : taken_within 1 four (handle 3 ∷ handle 3 ∷ []) 2 ≡ false
unfolding taken_within handle_call first_no queue_right places200 every one_of
not-in-one = refl

in_two : taken_within 2 four (handle 3 ∷ join 0 ∷ handle 3 ∷ []) 2 ≡ true
unfolding taken_within handle_call join_call changed first_no queue_right places200 every one_of
in_two = refl

-- the same with refused calls between them, of 0 and of 250 tables: b stays the same, and they don't count
refused-between : (stays_same 3 four (handle 3 ∷ handle 0 ∷ handle 250 ∷ handle 3 ∷ []) ≡ true)
    × (taken_within 2 four (handle 3 ∷ handle 0 ∷ handle 250 ∷ handle 3 ∷ []) 2 ≡ true)
unfolding stays_same taken_within handle_call first_no queue_right places200 every one_of
refused-between = (refl, refl)

-- an accepted call of two is another b
another-between : stays_same 3 four (handle 3 ∷ handle 2 ∷ []) ≡ false
unfolding stays_same handle_call first_no queue_right places200 every one_of
another-between = refl

-- where 5, 7 and 9 leave first, it is taken within one
in_one : taken_within 1 four (leave 5 ∷ leave 7 ∷ leave 9 ∷ handle 3 ∷ []) 2 ≡ true
unfolding taken_within handle_call leave_call changed without first_no queue_right places200 every one_of
in_one = refl
