-- `measure_line` reads a measure: the letter M, an id, two numbers and a price. Each return cites the tests before it: another letter
-- (`measure-letterless`), no id (`measure-idless`), a number or the price missing (`measure-none`), or a measure with them (`measure-is`).
use mathlib.Core.Path.{◌∙◌, sym}
use Rattle.delivery_lines.proofs.NoticeForms.{measure-letterless, measure-idless, measure-none, measure-is}
use Rattle.questions.proofs.Bools.{said-no, said-yes}
use Rattle.delivery_lines.proofs.measure_line.Goals as goal

pub returns-then-byte_at-ne77 : goal.returns-then-byte_at-ne77
returns-then-byte_at-ne77 c = c.notice_day_held.ensures ∙ measure-letterless _ (λ z. c.if-byte_at-ne77.true (c.byte_at.ensures ∙ z))

pub returns-then-not-is_id_in : goal.returns-then-not-is_id_in
returns-then-not-is_id_in c =
    c.notice_day_held-then-not-is_id_in.ensures ∙ measure-idless _ (sym c.byte_at.ensures ∙ c.if-byte_at-ne77.false)
    (said-no c.is_id_in.ensures c.if-not-is_id_in.true)

pub returns-then-not-p-q : goal.returns-then-not-p-q
returns-then-not-p-q c =
    c.notice_day_held-then-not-p-q.ensures ∙ measure-none _
    (sym c.byte_at.ensures ∙
    c.if-byte_at-ne77.false)
    (said-yes c.is_id_in.ensures
    c.if-not-is_id_in.false) _ _ _
    c.number_in-p.ensures c.number_in-q.ensures
    c.price_in-price.ensures c.if-not-p-q.true

pub returns : goal.returns
returns c =
    measure-is _ (sym c.byte_at.ensures ∙
    c.if-byte_at-ne77.false)
    (said-yes c.is_id_in.ensures
    c.if-not-is_id_in.false) _ _ _
    c.number_in-p.ensures c.number_in-q.ensures
    c.price_in-price.ensures c.if-not-p-q.false _ c.id_word-id.ensures
