-- What is answered is the last call's answer, which lies within the buffer.
use Rattle.streams.proofs.TransferAnswers.{answer-within}
use Rattle.streams.proofs.calls.read_some.Goals as goal

pub returns-then-not-interrupted : goal.returns-then-not-interrupted
returns-then-not-interrupted g c = answer-within _ _ _ c.transfer_of-moved.ensures
