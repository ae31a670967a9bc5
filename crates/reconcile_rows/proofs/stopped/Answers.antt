-- Nothing is written, and the status is that of a run that failed or had too many rows.
use mathlib.Core.Path.{refl, ap, ◌∙◌}
use mathlib.Core.Bool.{Bool, true}
use Rattle.program_status.specs.Statuses.{status_of}
use Rattle.reconcile_rows.proofs.stopped.Goals as goal

pub returns : goal.returns
returns c =
    record {
      input = refl;
      taken = c.nothing_sent-sent.ensures.0;
      none = c.nothing_sent-sent.ensures.1;
      told = refl;
      status = c.status-status.ensures ∙ ap (λ (b : Bool). status_of b true) c.has_failed.ensures;
    }
