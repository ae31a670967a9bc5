-- The status is that of whether a read or a write failed, and of what was refused.
use mathlib.Core.Path.{refl}
use Rattle.terms_run.proofs.ended.Goals as goal

pub returns : goal.returns
returns c = rw (c.status-status.ensures, c.is_open-open.ensures, c.has_failed-unread.ensures) refl
