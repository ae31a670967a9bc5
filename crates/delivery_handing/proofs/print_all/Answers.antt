-- The heading comes first of the rows; after all places the rows are whole, and after the measures of unknown ids what is told.
use Rattle.std.proofs.Common.{◌<◌, length, sym, ap, ◌∙◌, true≢false, arith}
use Rattle.questions.proofs.Bools.{said-no, said-yes}
use Rattle.streams.specs.declared.output.Sent.{Sent}
use Rattle.delivery_rows.specs.Delivery.{delivery_heading}
use Rattle.delivery_parts.proofs.Handing.{heading-long, line-long, line-few, line-next, next-heading, no_place, count-few, next-unknowns, all-rows, all_told}
use Rattle.delivery_handing.proofs.print_all.Goals as goal

short : length delivery_heading < 64
short = omega (arith, heading-long)

pub returns-then-not-is_open : goal.returns-then-not-is_open
returns-then-not-is_open c = λ g e. absurd (true≢false (sym e ∙ said-no c.is_open.ensures c.if-not-is_open.true))

pub returns-then-not-is_open-2 : goal.returns-then-not-is_open-2
returns-then-not-is_open-2 c = λ g e. absurd (true≢false (sym e ∙ said-no c.is_open-2.ensures c.if-not-is_open-2.true))

pub returns : goal.returns
returns c = λ g e.
    let made = c.delivery_heading_line.ensures in
    let none = c.nothing_handed.ensures in
    let head = c.write_line-headed.ensures in
    let headed = head.0 (line-few made short) (omega (arith, none.1)) (rw none.1 (line-next made short (next-heading _ _ _ _ _ _ g)))
    (said-yes c.is_open.ensures c.if-not-is_open.false) in
    let w = c.print_places-printed.ensures g
    (no_place _ _ _ _ _ _ g _ _ (omega (arith, headed, none.1, line-long made short)) (omega (arith, head.1, none.2)))
    (said-yes c.is_open-2.ensures c.if-not-is_open-2.false) in
    let u = c.tell_unknown.ensures in
    let told = u.1 (count-few _ _ _ c.args.t g.held) (omega (arith, w.told-few, g.size)) (next-unknowns _ _ _ _ _ _ g _ _ w) in
    (ap (λ (s : Sent). s.bytes) u.0 ∙ all-rows _ _ _ _ _ _ g _ _ w, told ∙ all_told _ _ _ _ _ _ g _ _ w)
