-- The answer is that of call i of the list: `call` is given its four numbers. Four times i and four more are within the
-- list by what is required, so each of the four reads is found by search.
use Rattle.history_replay.proofs.call_at.Goals as goal

-- ---- the answer
pub returns : goal.returns
returns c = c.call.ensures
