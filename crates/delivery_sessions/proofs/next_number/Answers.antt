-- The last number of 64 bits stays.
use Rattle.delivery_sessions.proofs.QueryPassing.{number_more, number-most}
use Rattle.delivery_sessions.proofs.next_number.Goals as goal

pub returns-then-k-lt18446744073709551615 : goal.returns-then-k-lt18446744073709551615
returns-then-k-lt18446744073709551615 c = number_more _ c.if-k-lt18446744073709551615.true

pub returns : goal.returns
returns c = number-most _ c.if-k-lt18446744073709551615.false
