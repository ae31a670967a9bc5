-- Shown: the answer is that of the call which the kind and the three numbers name. One `return` for each kind, after the
-- tests for the kinds before it: a roll, a reopening, a measure, a close; any other number is a roll to 65,535.
use Rattle.history_replay.proofs.ReplayBuffer.{rolls, reopens, measures, closes, others}
use Rattle.history_replay.proofs.call.Goals as goal

-- ---- kinds 0, 2, 3 and 1
pub returns-then-kind-eq0 : goal.returns-then-kind-eq0
returns-then-kind-eq0 c =
    let given = c.args in
    rolls _ _ given.first given.second given.third _ _ c.short_in-number.ensures _ c.if-kind-eq0.true (cc)
    c.without_price.ensures

pub returns-then-kind-eq2 : goal.returns-then-kind-eq2
returns-then-kind-eq2 c =
    let given = c.args in
    reopens _ _ given.first given.second given.third _ _ c.short_in-number.ensures c.if-kind-eq0.false _ c.if-kind-eq2.true
    (cc) c.without_price-then-kind-eq2.ensures

pub returns-then-kind-eq3 : goal.returns-then-kind-eq3
returns-then-kind-eq3 c =
    let given = c.args in
    measures _ _ given.first given.second given.third _ _ c.short_in-number.ensures c.if-kind-eq0.false c.if-kind-eq2.false _ _
    c.short_in.ensures c.if-kind-eq3.true c.measure.ensures c.without_counts.ensures

pub returns-then-kind-eq1 : goal.returns-then-kind-eq1
returns-then-kind-eq1 c =
    let given = c.args in
    closes _ _ given.first given.second given.third _ _ c.short_in-number.ensures c.if-kind-eq0.false c.if-kind-eq2.false
    c.if-kind-eq3.false _ c.if-kind-eq1.true (cc) c.without_price-then-kind-eq1.ensures

-- ---- any other number
pub returns : goal.returns
returns c =
    let given = c.args in
    others _ _ given.first given.second given.third _ _ c.short_in-number.ensures c.if-kind-eq0.false c.if-kind-eq2.false
    c.if-kind-eq3.false _ c.if-kind-eq1.false (cc) c.without_price-2.ensures
