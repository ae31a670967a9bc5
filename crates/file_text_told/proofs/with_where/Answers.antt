-- With 6 the day, with 5, 7 and 8 the line, with another number nothing.
use Rattle.file_text_print.proofs.Building.{then}
use Rattle.file_text_told.proofs.ToldTexts.{where-day, where-none, where-line}
use Rattle.file_text_told.proofs.with_where.Goals as goal

pub returns-then-refusal-eq6 : goal.returns-then-refusal-eq6
returns-then-refusal-eq6 c = where-day _ _ _ _ c.if-refusal-eq6.true _ c.with_from.ensures

pub returns-then-not-refusal : goal.returns-then-not-refusal
returns-then-not-refusal c = where-none _ _ _ _ c.if-refusal-eq6.false c.if-not-refusal.true

pub returns : goal.returns
returns c =
    where-line _ _ _ _ c.if-refusal-eq6.false c.if-not-refusal.false _ (then c.with_line.ensures c.with_product.ensures)
