-- The count of the file's calendar blocks, which is at most the count of its blocks: `count` of those that `filter` keeps (`counted-blocks`).
use Rattle.std.proofs.Common.{rules, ◌≡◌, ap, ◌∙◌}
use Rattle.std.specs.Slice.Iter.{iter_rest}
use Rattle.std.specs.Iterator.Adapters.{filter_source}
use Rattle.std.proofs.lemmas.Iterator.{YieldsList-from_slice}
use Rattle.std.proofs.lemmas.Iterator.Consumers.{YieldsList-from_filter, count_from_yields_List}
use Rattle.file_blocks.specs.Blocks.{blocks_of, block_of, is_calendar}
use Rattle.file_blocks.proofs.TestCounts.{counted-blocks, count-most}
use Rattle.file_calendar.specs.Calendars.{year_count}
use Rattle.file_calendar.proofs.year_count.Goals as goal

pub returns : goal.returns
unfolding year_count
returns c =
    let f = c.args.file.now in
    let rest : iter_rest (filter_source c.filter.result) ≡ blocks_of f = ap iter_rest c.filter.ensures.source ∙ c.iter.ensures.rest ∙ c.blocks-2.ensures.0 in
    let is =
    count_from_yields_List _ _ c.count.ensures.ran
    (YieldsList-from_filter _ is_calendar (YieldsList-from_slice _ rest) c.filter.ensures.closure (λ x b q k. search rules)) ∙ counted-blocks is_calendar f in
    (is, rw is (count-most (λ k. is_calendar (block_of f k)) _))
