-- The reply is the answer: a date with refusal 0, or a refusal by its number. In each case of the answer both sides compute to the same.
use Rattle.c_types.proofs.reply_of_date.Goals as goal

pub returns-in-Ok : goal.returns-in-Ok
returns-in-Ok c = rw c.in-Ok.is

pub returns-in-Err : goal.returns-in-Err
returns-in-Err c = rw (c.in-Err.is, c.number.ensures)
