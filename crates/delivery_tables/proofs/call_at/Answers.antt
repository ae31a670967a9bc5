-- The four numbers of call i are those at 5 i + 1 and on, so what `call_apart` promises is the promise.
use Rattle.delivery_tables.proofs.call_at.Goals as goal

pub returns : goal.returns
returns c = λ k.
    rw (← c.call_number.ensures, ← c.call_number-2.ensures, ← c.call_number-3.ensures, ← c.call_number-4.ensures)
    (c.call_apart.ensures k)
