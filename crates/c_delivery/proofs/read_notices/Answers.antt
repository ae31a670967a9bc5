-- The library's promise on the lists, said of the answer: what was read is the text's date, opening and count, or its bad line.
use Rattle.c_delivery.proofs.NoticesSaid.{read-in}
use Rattle.c_delivery.proofs.read_notices.Goals as goal

pub returns : goal.returns
returns c = read-in _ _ _ _ _ _ c.read_notices.ensures _ c.notices_of.ensures
