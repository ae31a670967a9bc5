-- The count of the file's records, which is at most the count of its places: `count` of the places that `filter` keeps (`counted-numbers`).
use Rattle.std.proofs.Common.{rules, ◌∙◌}
use native.Mathlib.Omega.{arith}
use Rattle.std.proofs.lemmas.Iterator.{YieldsList-from_range}
use Rattle.std.proofs.lemmas.Iterator.Consumers.{YieldsList-from_filter, count_from_yields_List}
use Rattle.file_blocks.proofs.TestCounts.{counted-numbers, count-most}
use Rattle.file_ids.specs.Ids.{place_count, is_record, record_count}
use Rattle.file_ids.proofs.record_count.Goals as goal

pub returns : goal.returns
unfolding record_count
returns c =
    let f = c.args.file.now in
    let places = YieldsList-from_range 0 (place_count f) (place_count f) c.filter.ensures.source (omega arith) in
    let is =
    count_from_yields_List _ _ c.count.ensures.ran (YieldsList-from_filter _ (is_record f) places c.filter.ensures.closure (λ x b q k. search rules))
    ∙ counted-numbers (is_record f) (place_count f) in
    (is, rw is (count-most (is_record f) (place_count f)))
