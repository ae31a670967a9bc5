-- The status is by what was told and written.
use mathlib.Core.Path.{refl, ◌∙◌}
use Rattle.reconcile_rows.proofs.finished.Goals as goal

pub returns : goal.returns
returns c =
    record {
      input = refl;
      sent = refl;
      last = refl;
      ends = c.status-status.ensures ∙ rw c.is_open.ensures refl;
    }
