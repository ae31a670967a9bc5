-- The last decimal digit is written, 1 byte, by the contract of `put`: 48 and the remainder by 10 fit a byte.
use Rattle.session_text.proofs.put_digit.Goals as goal

pub returns : goal.returns
returns c = c.put.ensures
