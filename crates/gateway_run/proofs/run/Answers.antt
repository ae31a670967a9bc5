-- The line that is written is what is said after the reads, and its bytes are counted; the status is by the same end.
use Rattle.gateway_run.proofs.GatewayStatus.{gateway-ended}
use Rattle.gateway_run.proofs.run.Goals as goal

pub write_line-sent-requires : goal.write_line-sent-requires
write_line-sent-requires c = c.load-r.ensures

pub returns : goal.returns
returns c =
    gateway-ended _ _ _ c.load-r.ensures c.write_line-sent.ensures
    (rw (← c.is_open.ensures, ← c.has_failed.ensures) c.status-status.ensures)
