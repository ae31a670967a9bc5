-- What stands in the buffer is the answer to the last line, the count grows by it, and it may be refused.
use mathlib.Core.Path.{refl}
use native.Mathlib.Omega.{arith}
use Rattle.delivery_sessions.specs.QueryRuns.{last}
use Rattle.delivery_sessions.proofs.QueryRuns.{last-count}
use Rattle.query_input.proofs.write_last.Goals as goal

pub write_out-sent-requires : goal.write_out-sent-requires
write_out-sent-requires c =
    let a = c.answer_last-a.ensures in
    (omega (arith, a.fits), last (a.text c.requires.0))

pub returns : goal.returns
returns c =
    let a = c.answer_last-a.ensures in
    (refl, (λ e. last-count _ _ _ _ _ _ _ _ _ _ c.requires.0 a (c.write_out-sent.ensures e)), a.refused c.requires.0)
