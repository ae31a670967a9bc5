-- Question 3: `all` asks the header of each block, with its index.
use Rattle.std.proofs.Common.{rules, ◌≡◌, ◌∙◌, ap}
use Rattle.std.specs.Slice.Iter.{iter_rest}
use Rattle.std.specs.Iterator.Adapters.{enumerate_source}
use Rattle.std.proofs.lemmas.Iterator.{YieldsList-from_slice}
use Rattle.std.proofs.lemmas.Iterator.Consumers.{YieldsList-from_enumerate}
use Rattle.std.proofs.lemmas.Iterator.Search.{all_from_yields_List}
use Rattle.file_blocks.specs.Blocks.{blocks_of, header_right, headers_right}
use Rattle.file_blocks.proofs.Ranges.{numbered-every}
use Rattle.file_blocks.proofs.headers_right.Goals as goal

pub returns : goal.returns
unfolding headers_right
returns c =
    let rest : iter_rest (enumerate_source c.enumerate.result) ≡ blocks_of c.args.file.now =
    ap iter_rest c.enumerate.ensures.source ∙ c.iter.ensures.rest ∙ c.blocks-2.ensures.0 in
    all_from_yields_List (λ p. header_right p.1 p.0) _ _ _ c.all.ensures.ran
    (YieldsList-from_enumerate (YieldsList-from_slice _ rest) c.enumerate.ensures.count) (λ x b q k. search rules)
    ∙ numbered-every (λ p. header_right p.1 p.0) _
