-- The loop keeps: going on from this day, value and calendar makes what the start makes. A turn is `made-next`; at
-- the end `walked` gives the definition's calendar.
use Prim.Native.Nat.{◌-◌}
use mathlib.Core.Path.{◌≡◌}
use Rattle.calendar_synthetic.specs.Generated.{made}
use Rattle.calendar_synthetic.proofs.make.Given as goal

abbrev pub invariant-loop-day : goal.invariant-loop-day
invariant-loop-day l = made (l.day-end - l.day) l.day l.value l.cal ≡ made (l.day-end - l.initial.day) l.initial.day l.initial.value l.initial.cal
