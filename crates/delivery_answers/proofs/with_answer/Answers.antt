-- `with_answer` adds the table's answer by the question's letter: a last trading day, a due day, a price's tick, cash, else the size.
-- Each return cites the tests before it, what the table's function answers and what its text adds (`held-last` to `held-size`).
use Rattle.delivery_answers.proofs.ReplyTexts.{held-last, held-due, held-tick, held-cash, held-size}
use Rattle.delivery_answers.proofs.with_answer.Goals as goal

pub returns-then-q-eq108 : goal.returns-then-q-eq108
returns-then-q-eq108 c = held-last _ _ _ _ c.if-q-eq108.true _ c.last_trading_day.ensures c.with_last.ensures

pub returns-then-q-eq100 : goal.returns-then-q-eq100
returns-then-q-eq100 c = held-due _ _ _ _ c.if-q-eq108.false c.if-q-eq100.true _ c.due.ensures c.with_due.ensures

pub returns-then-q-eq116 : goal.returns-then-q-eq116
returns-then-q-eq116 c = held-tick _ _ _ _ c.if-q-eq108.false c.if-q-eq100.false
    c.if-q-eq116.true _ c.tick.ensures c.with_tick.ensures

pub returns-then-q-eq99 : goal.returns-then-q-eq99
returns-then-q-eq99 c = held-cash _ _ _ _ c.if-q-eq108.false
    c.if-q-eq100.false c.if-q-eq116.false c.if-q-eq99.true _
    c.cash.ensures c.with_cash.ensures

pub returns : goal.returns
returns c = held-size _ _ _ _ c.if-q-eq108.false
    c.if-q-eq100.false c.if-q-eq116.false c.if-q-eq99.false
    c.with_size.ensures
