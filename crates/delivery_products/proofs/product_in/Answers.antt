-- `product_in` gives the product at a place. The refusal of the file's verdict comes first (`place-refused`), then 9
-- where the place holds no record (`place-empty`), else the product that `product_at` reads there (`place-holds`).
use mathlib.Core.Path.{◌∙◌, sym}
use Rattle.questions.proofs.Bools.{said-no, said-yes}
use Rattle.file_load.proofs.LoadAnswers.{judged-refusal}
use Rattle.delivery_products.proofs.ProductPlaces.{place-refused, place-empty, place-holds}
use Rattle.delivery_products.proofs.product_in.Goals as goal

pub returns-then-refusal-ne0 : goal.returns-then-refusal-ne0
returns-then-refusal-ne0 c = place-refused _ _ _ _ (judged-refusal _ _ c.judge-judged.ensures) c.if-refusal-ne0.true c.no_product.ensures

pub returns-then-not-is_record : goal.returns-then-not-is_record
returns-then-not-is_record c =
    place-empty _ _ (sym (judged-refusal _ _ c.judge-judged.ensures) ∙ c.if-refusal-ne0.false) _
    (said-no c.is_record.ensures c.if-not-is_record.true) c.no_product-then-not-is_record.ensures

pub returns : goal.returns
returns c =
    rw c.product_at-product.ensures (sym (place-holds _ _ (sym (judged-refusal _ _ c.judge-judged.ensures) ∙ c.if-refusal-ne0.false)
    (said-yes c.is_record.ensures c.if-not-is_record.false)))
