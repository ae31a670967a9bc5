-- Question 2: `all` asks the check of each block.
use Rattle.std.proofs.Common.{rules, ◌∙◌}
use Rattle.std.proofs.lemmas.Iterator.{YieldsList-from_slice}
use Rattle.std.proofs.lemmas.Iterator.Search.{all_from_yields_List}
use Rattle.file_blocks.specs.Blocks.{check_right, checks_right}
use Rattle.file_blocks.proofs.Ranges.{blocks-every}
use Rattle.file_blocks.proofs.checks_right.Goals as goal

pub returns : goal.returns
unfolding checks_right
returns c =
    all_from_yields_List check_right _ _ _ c.all.ensures.ran (YieldsList-from_slice _ (c.iter.ensures.rest ∙ c.blocks-2.ensures.0)) (λ x b q k. search rules)
    ∙ blocks-every check_right _
