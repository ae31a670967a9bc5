-- How long a table waits for its turn (02, Note 13, 'A table at place p ..').
-- Assumes nothing.
use Rattle.std.specs.Prelude.{ℕ, ◌+◌, ◌-◌, ◌/◌, ◌≤◌, ◌<◌, ◌≡◌, Bool, true, false, not, ◌&&◌, ◌||◌, cond, List, [], ◌∷◌, ltb, eqb, length, get_or}
use Rattle.questions.specs.Questions.{first_no}
use Rattle.questions.specs.Search.{one_of}
use Rattle.rounds.specs.declared.Queue.{Queue}
use Rattle.rounds.specs.Rounds.{queued, queue_right, handle_call, join_asks, join_call, leave_call}

-- what a host does with its queue: a call of the round with its b, a joining, a leaving
pub data Event : Type 0 where
  handle join leave : ℕ → Event

-- 'each call gets the queue that the last one gave back':
-- the queue that an event gives back
abbrev pub queue_after : Queue → Event → Queue
queue_after q (handle b) = (handle_call q b).queue
queue_after q (join table) = (join_call q table).queue
queue_after q (leave table) = (leave_call q table).queue

-- the queue after a list of events
unfoldable pub queue_run : Queue → List Event → Queue
queue_run q [] = q
queue_run q (e ∷ es) = queue_run (queue_after q e) es

-- 'accepted calls of the round .. (joining and leaving don't count)':
-- 1 for such a call; a refused one does not count
abbrev pub call_count : Queue → Event → ℕ
call_count q (handle b) = cond (eqb (handle_call q b).refusal 0) 1 0
call_count q (join table) = 0
call_count q (leave table) = 0

-- how many of them a list of events has
unfoldable pub calls_in : Queue → List Event → ℕ
calls_in q [] = 0
calls_in q (e ∷ es) = call_count q e + calls_in (queue_after q e) es

-- the event is no accepted call of the round with another b
abbrev pub same_at : ℕ → Queue → Event → Bool
same_at b q (handle other) = not (eqb (handle_call q other).refusal 0) || eqb other b
same_at b q (join table) = true
same_at b q (leave table) = true

-- 'as long as b stays the same':
-- every accepted call of the round has this b; a refused one may have any
unfoldable pub stays_same : ℕ → Queue → List Event → Bool
stays_same b q [] = true
stays_same b q (e ∷ es) = same_at b q e && stays_same b (queue_after q e) es

-- the event takes the table
abbrev pub takes : Queue → Event → ℕ → Bool
takes q (handle b) x = one_of (queued (handle_call q b).taken) x
takes q (join table) x = false
takes q (leave table) x = false

-- 'is taken within .. accepted calls of the round':
-- one of the first n accepted calls among the events takes the table
unfoldable pub taken_within : ℕ → Queue → List Event → ℕ → Bool
taken_within n q [] x = false
taken_within n q (e ∷ es) x = ltb 0 n && (takes q e x || taken_within (n - call_count q e) (queue_after q e) es x)

-- the event is an accepted leaving of the table
abbrev pub leaves_at : Queue → Event → ℕ → Bool
leaves_at q (handle b) x = false
leaves_at q (join table) x = false
leaves_at q (leave table) x = eqb table x && eqb (leave_call q table).refusal 0

-- the table leaves in one of the events
unfoldable pub leaves_in : Queue → List Event → ℕ → Bool
leaves_in q [] x = false
leaves_in q (e ∷ es) x = leaves_at q e x || leaves_in (queue_after q e) es x

-- 'p / b .. rounded up', for b from 1 on
abbrev pub rounded_up : ℕ → ℕ → ℕ
rounded_up p b = (p + b - 1) / b

-- of every b, every queue, and every list of calls, joinings and leavings, refused ones among them
pub record Waiting (b : ℕ) (q : Queue) (es : List Event) : Type 0 where
  -- 'A table at place p (first is 1) that doesn't leave is taken within p / b accepted calls of the round, rounded up ..
  -- whoever joins or leaves meanwhile, as long as b stays the same'
  pub within : (p : ℕ) → 1 ≤ p → p ≤ length (queued q) → 1 ≤ b
      → stays_same b q es ≡ true
      → leaves_in q es (get_or (queued q) (p - 1) 0) ≡ false
      → rounded_up p b ≤ calls_in q es
      → taken_within (rounded_up p b) q es (get_or (queued q) (p - 1) 0) ≡ true
  -- a right queue stays right, whatever b each call has: 10 never comes to a host that starts from one
  pub right : queue_right q ≡ true → queue_right (queue_run q es) ≡ true
  -- 'Up to 200 tables':
  -- every accepted joining finds a place
  pub room : (table : ℕ) → first_no (join_asks (queue_run q es) table) ≡ 0 → length (queued (queue_run q es)) < 200
