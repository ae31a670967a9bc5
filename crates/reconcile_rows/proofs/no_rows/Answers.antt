-- Nothing is read or written.
use mathlib.Core.Path.{refl}
use Rattle.reconcile_rows.proofs.no_rows.Goals as goal

pub returns : goal.returns
returns c =
    record {
      unread = c.nothing_read-input.ensures;
      taken = c.nothing_sent-sent.ensures.0;
      none = c.nothing_sent-sent.ensures.1;
      said = refl;
      ends = c.status-status.ensures;
    }
