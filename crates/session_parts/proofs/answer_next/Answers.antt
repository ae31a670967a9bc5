-- `answer_next` takes the part up to the line's end. Where that is the part's end the line holds all the
-- rest (`goes-past`) and what was known stays known; else the line is answered by `session_apart::reply`,
-- the next begins empty after the line feed (`is-answered`), and `reply` says what is known after it.
use native.Mathlib.Omega.{arith}
use Rattle.session_apart.specs.Apart.{kept_with}
use Rattle.session_parts.specs.TermsParts.{progress_with}
use Rattle.session_parts.proofs.TermsPassing.{goes-past, is-answered}
use Rattle.session_parts.proofs.answer_next.Goals as goal

pub slice_bounds-feed-count : goal.slice_bounds-feed-count
slice_bounds-feed-count c = omega (arith, (c.byte_from-end.ensures.0 (omega arith)).on)

pub slice_bounds-feed-start : goal.slice_bounds-feed-start
slice_bounds-feed-start c = (c.byte_from-end.ensures.0 (omega arith)).on

pub slice_bounds-feed-end : goal.slice_bounds-feed-end
slice_bounds-feed-end c = (c.byte_from-end.ensures.0 (omega arith)).within

-- ---- the line goes on past the part
pub returns-then-part-end : goal.returns-then-part-end
returns-then-part-end c =
    let s = progress_with c.args.s c.args.closed.now c.args.exchange.now in (
      goes-past _ _ _ s c.requires.0 c.requires.1 _ (c.byte_from-end.ensures.0 (omega (arith, c.requires.0))) _ c.feed-line.ensures
          c.if-part-end.true,
      c.requires.2,
    )

-- ---- a line that ends in the part: its answer and the place after it
pub overflow_add-next : goal.overflow_add-next
overflow_add-next c =
    omega (arith, c.if-part-end.false, c.well_formed.1.1.1.1.1.1.0.0)

pub returns : goal.returns
returns c =
    let s = progress_with c.args.s c.args.closed.now c.args.exchange.now in
    let r = c.reply-after.result in
    let a = c.reply-after.ensures c.requires.2 in (
      is-answered _ _ _ s c.requires.0 c.requires.1 _ (c.byte_from-end.ensures.0 (omega (arith, c.requires.0))) _ c.feed-line.ensures _
          (kept_with r.opened r.rest _ _ r.refused) r.at _ c.if-part-end.false c.empty_line-empty.ensures a.kept a.text,
      a.known,
    )
