-- The line goes on past the part, or its answer stands after the others.
use borrow.Author.Tests.{not-true, not-false}
use Rattle.delivery_sessions.proofs.QueryPassing.{goes-past, is-answered}
use Rattle.delivery_sessions.proofs.answer_next.Goals as goal

pub returns-then-not-e : goal.returns-then-not-e
returns-then-not-e c =
    goes-past _ _ _ c.args.s c.requires.0 c.requires.1 _ c.line_from-e.ensures (not-true _ c.if-not-e.true)

pub returns : goal.returns
returns c =
    is-answered _ _ _ c.args.s c.requires.0 c.requires.1 _ c.line_from-e.ensures (not-false _ c.if-not-e.false) _ _
    _ _ _ c.next_number-next.ensures c.empty_long_line-empty.ensures c.answer_line-a.ensures
