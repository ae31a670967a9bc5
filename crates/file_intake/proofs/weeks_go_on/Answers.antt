-- Question 6 of the next block: no seven days without trading end in its year; yes for a block that is no calendar block.
-- The loop keeps: `run` is the count after n days, at most 7, and it came to seven on none of them.
-- A run of seven refutes the question (week-ends); after the last day it is answered yes.
use mathlib.Core.Path.{◌≡◌, sym, ◌∙◌}
use native.Mathlib.Omega.{arith}
use borrow.Author.Tests.{eq-eqb, ne_eqb}
use Rattle.questions.proofs.Search.{every-none, every_more, every-not}
use Rattle.file_intake.specs.Intake.{days_of, weeks_go_on}
use Rattle.file_intake.proofs.Steps.{through-none, through-more, week-goes-on, week-ends}
use Rattle.file_intake.proofs.weeks_go_on.Goals as goal

-- ---- a block that is no calendar block
pub returns-then-byte_at-ne1 : goal.returns-then-byte_at-ne1
returns-then-byte_at-ne1 c = simp (ne_eqb _ _ (λ h. c.if-byte_at-ne1.true (c.byte_at.ensures ∙ h)))

-- ---- the loop over the days of the year: seven without trading say no
pub loop-n-init : goal.loop-n-init
loop-n-init c = (through-none _ _, c.requires, every-none _)

pub day_trades-requires : goal.day_trades-requires
day_trades-requires c = omega (arith, rw c.field_at.ensures at c.days_in-days.ensures.1)

pub idle_next-run-requires : goal.idle_next-run-requires
idle_next-run-requires c = c.loop-n.invariant.1

pub returns-then-run-ge7 : goal.returns-then-run-ge7
unfolding weeks_go_on
returns-then-run-ge7 c =
    let e : c.days_in-days.result ≡ days_of c.args.b.now =
    rw c.field_at.ensures at c.days_in-days.ensures.0 in
    let r = through-more _ _ _ _ _ _ c.day_trades.ensures c.loop-n.invariant.0 c.idle_next-run.ensures.0 in
    simp (eq-eqb _ _ (sym c.byte_at.ensures ∙ c.if-byte_at-ne1.false))
    (sym (every-not _ _ _ (week-ends _ _ _ _ r c.if-run-ge7.true) (omega (arith, e, c.loop-n-test.true))))

-- ---- the turn that goes on
pub loop-n-preserved : goal.loop-n-preserved
loop-n-preserved c =
    let r = through-more _ _ _ _ _ _ c.day_trades.ensures c.loop-n.invariant.0 c.idle_next-run.ensures.0 in
    (r, c.idle_next-run.ensures.1, every_more _ _ c.loop-n.invariant.2 (week-goes-on _ _ _ _ r c.if-run-ge7.false))

-- ---- after the last day: yes
pub returns : goal.returns
unfolding weeks_go_on
returns c =
    let l = c.loop-n in
    let e : l.n ≡ days_of c.args.b.now =
    omega (arith, rw c.field_at.ensures at c.days_in-days.ensures.0) in
    simp (eq-eqb _ _ (sym c.byte_at.ensures ∙ c.if-byte_at-ne1.false)) (sym (rw e at l.invariant.2))
