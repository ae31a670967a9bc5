-- Question 7: `all` asks each block, of which others than product blocks pass.
use Rattle.std.proofs.Common.{rules, not, ◌||◌, ◌∙◌}
use Rattle.std.proofs.lemmas.Iterator.{YieldsList-from_slice}
use Rattle.std.proofs.lemmas.Iterator.Search.{all_from_yields_List}
use Rattle.file_blocks.specs.Blocks.{is_products}
use Rattle.file_blocks.proofs.Ranges.{blocks-every}
use Rattle.file_records.specs.Records.{records_right, products_right}
use Rattle.file_records.proofs.products_right.Goals as goal

pub returns : goal.returns
unfolding products_right
returns c =
    all_from_yields_List (λ b. not (is_products b) || records_right b) _ _ _ c.all.ensures.ran
    (YieldsList-from_slice _ (c.iter.ensures.rest ∙ c.blocks-2.ensures.0)) (λ x b q k. search rules)
    ∙ blocks-every (λ b. not (is_products b) || records_right b) _
