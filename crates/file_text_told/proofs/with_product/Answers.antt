-- With 5 no id, else a space and the id.
use Rattle.file_text_print.proofs.Building.{then, one}
use Rattle.file_text_told.proofs.ToldTexts.{product-none, product-some}
use Rattle.file_text_told.proofs.with_product.Goals as goal

pub returns-then-refusal-eq5 : goal.returns-then-refusal-eq5
returns-then-refusal-eq5 c = product-none _ _ _ c.if-refusal-eq5.true

pub returns : goal.returns
returns c = product-some _ _ _ c.if-refusal-eq5.false _ (then (one _ _ _ c.extend.ensures) c.with_id.ensures)
