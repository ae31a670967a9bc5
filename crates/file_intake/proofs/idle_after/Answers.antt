-- The days without trading at the end of a calendar block's year, counted up to seven; a block of another kind leaves the count.
-- The loop keeps: `run` is the count after the first n days of the year and at most 7. One day more is `through-more`.
use mathlib.Core.Path.{◌≡◌, sym, ◌∙◌}
use native.Mathlib.Omega.{arith}
use borrow.Author.Tests.{eq-eqb, ne_eqb}
use Rattle.file_intake.specs.Intake.{days_of}
use Rattle.file_intake.proofs.Steps.{through-none, through-more}
use Rattle.file_intake.proofs.idle_after.Goals as goal

-- ---- a block that is no calendar block
pub returns-then-byte_at-ne1 : goal.returns-then-byte_at-ne1
returns-then-byte_at-ne1 c = simp (ne_eqb _ _ (λ h. c.if-byte_at-ne1.true (c.byte_at.ensures ∙ h)))

-- ---- the loop over the days of the year
pub loop-n-init : goal.loop-n-init
loop-n-init c = (through-none _ _, c.requires)

pub day_trades-requires : goal.day_trades-requires
day_trades-requires c = omega (arith, rw c.field_at.ensures at c.days_in-days.ensures.1)

pub idle_next-run-requires : goal.idle_next-run-requires
idle_next-run-requires c = c.loop-n.invariant.1

pub loop-n-preserved : goal.loop-n-preserved
loop-n-preserved c = (
  through-more _ _ _ _ _ _ c.day_trades.ensures c.loop-n.invariant.0 c.idle_next-run.ensures.0,
  c.idle_next-run.ensures.1,
)

-- ---- after the last day
pub returns : goal.returns
returns c =
    let l = c.loop-n in
    let e : l.n ≡ days_of c.args.b.now =
    omega (arith, rw c.field_at.ensures at c.days_in-days.ensures.0) in
    simp (eq-eqb _ _ (sym c.byte_at.ensures ∙ c.if-byte_at-ne1.false)) (rw e at l.invariant.0)
