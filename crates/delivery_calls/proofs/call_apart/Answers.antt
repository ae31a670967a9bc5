-- A roll and a close with a number of 16 bits are made apart; every other call is made on the whole table.
use mathlib.Core.Path.{refl}
use Rattle.delivery_calls.proofs.Making.{kind_0, kind_1}
use Rattle.delivery_calls.proofs.call_apart.Goals as goal

pub returns-then-kind-eq0 : goal.returns-then-kind-eq0
returns-then-kind-eq0 c = λ k.
    rw (← kind_0 _ _ _ c.if-first-gt65535.false _ c.if-kind-eq0.true) ((c.command_apart.ensures k).rolls refl)

pub returns-then-kind-eq1 : goal.returns-then-kind-eq1
returns-then-kind-eq1 c = λ k.
    rw (← kind_1 _ _ _ c.if-first-gt65535.false _ c.if-kind-eq1.true) ((c.command_apart-then-kind-eq1.ensures k).closes refl)
