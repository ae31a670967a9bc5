-- The rows of the place come next of the rows, and its lines next of what is told: after both, one place more was handed out.
use Rattle.std.proofs.Common.{sym, ap, ◌∙◌, true≢false, arith}
use Rattle.questions.proofs.Bools.{said-no, said-yes}
use Rattle.streams.specs.declared.output.Sent.{Sent}
use Rattle.delivery_parts.proofs.Handing.{count-few, next-rows, next-lines, one_place}
use Rattle.delivery_handing.proofs.print_place.Goals as goal

pub shape_of-refusals-then-not-is_open : goal.shape_of-refusals-then-not-is_open
shape_of-refusals-then-not-is_open c =
    c.deliver_place-part.ensures.refusals-long

pub shape_of-out-then-not-is_open : goal.shape_of-out-then-not-is_open
shape_of-out-then-not-is_open c =
    c.deliver_place-part.ensures.out-long

pub returns-then-not-is_open : goal.returns-then-not-is_open
returns-then-not-is_open c = λ g w h room long e. absurd (true≢false (sym e ∙ said-no c.is_open.ensures c.if-not-is_open.true))

pub shape_of-refusals : goal.shape_of-refusals
shape_of-refusals c =
    c.deliver_place-part.ensures.refusals-long

pub shape_of-out : goal.shape_of-out
shape_of-out c =
    c.deliver_place-part.ensures.out-long

pub returns : goal.returns
returns c = λ g w h room long e.
    let x = c.deliver_place-part.ensures in
    let wrote = c.write_out-written.ensures in
    let rows = wrote.0 x.within (omega (arith, w.rows_few, h, g.size, x.within, x.out-long, long))
    (next-rows _ _ _ _ _ _ g _ _ _ _ _ _ x room long _ _ w h) (said-yes c.is_open.ensures c.if-not-is_open.false) in
    let u = c.tell_place.ensures in
    let lines = u.1 (count-few _ _ _ c.args.t g.held) (omega (arith, wrote.1, w.told-few, h, g.size))
    (rw wrote.1 (next-lines _ _ _ _ _ _ g _ _ _ _ _ _ x room long _ _ w h)) in
    one_place _ _ _ _ _ _ g _ _ _ _ _ _ x room long _ _ w h _ _
    (ap (λ (s : Sent). s.bytes) u.0 ∙ rows)
    (omega (arith, lines.0, wrote.1)) (omega (arith, lines.1, wrote.1))
