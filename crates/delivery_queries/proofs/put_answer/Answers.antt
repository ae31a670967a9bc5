-- A misfit is bad; any other question is answered after its line, and refused where its reply begins with an N.
use mathlib.Core.Path.{sym, ◌∙◌}
use native.Mathlib.Omega.{arith}
use Rattle.delivery_answers.proofs.ReplyLengths.{reply-short}
use Rattle.delivery_queries.proofs.Answering.{short-line, answer-bad, answer-reply, refused-misfit, refused-reply}
use Rattle.delivery_queries.proofs.put_answer.Goals as goal

pub put_bad-next-requires : goal.put_bad-next-requires
put_bad-next-requires c = omega (arith, c.requires)

pub returns-then-is_misfit : goal.returns-then-is_misfit
returns-then-is_misfit c =
    let m = sym c.is_misfit.ensures ∙ c.if-is_misfit.true in
    let w = answer-bad _ _ _ _ _ _ _ _ m c.put_bad-next.ensures in
    (w.0, w.1, refused-misfit _ _ m)

pub put_held-held-requires : goal.put_held-held-requires
put_held-held-requires c = omega (arith, c.requires)

pub put_line-next-requires : goal.put_line-next-requires
put_line-next-requires c =
    (short-line _ _ c.reply_line-reply.ensures (reply-short _ _), omega (arith, c.put_held-held.ensures.1, c.requires))

pub returns : goal.returns
returns c =
    let m = sym c.is_misfit.ensures ∙ c.if-is_misfit.false in
    let made = c.reply_line-reply.ensures in
    let w = answer-reply _ _ _ _ _ _ _ _ m _ _ c.put_held-held.ensures _ made c.put_line-next.ensures in
    (w.0, w.1, refused-reply _ _ m _ made)
