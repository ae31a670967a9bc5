-- `read_length` says how many bytes of a text are read: 65,537 of a longer one (`read-most`), all of another (`read_all`).
use Rattle.delivery_notices.proofs.NoticesSoFar.{read_all, read-most}
use Rattle.delivery_notices.proofs.read_length.Goals as goal

pub returns-then-n-gt65537 : goal.returns-then-n-gt65537
returns-then-n-gt65537 c = read-most _ c.if-n-gt65537.true

pub returns : goal.returns
returns c = read_all _ c.if-n-gt65537.false
