-- Whether every block is of the kind, and of the year, that its place asks for: `all` asks each block with its index, and the requirement and the first
-- block say that the years and the first year are the file's.
use Rattle.std.proofs.Common.{rules, ◌≡◌, ◌&&◌, ◌+◌, cond, eqb, ap, ◌∙◌, List}
use lib.Dec.{ltb}
use Prim.Native.Nat.{ℕ}
use mathlib.Core.Bool.{Bool}
use Rattle.std.specs.Slice.Iter.{iter_rest}
use Rattle.std.specs.Iterator.Adapters.{enumerate_source}
use Rattle.std.proofs.lemmas.Iterator.{YieldsList-from_slice}
use Rattle.std.proofs.lemmas.Iterator.Consumers.{YieldsList-from_enumerate}
use Rattle.std.proofs.lemmas.Iterator.Search.{all_from_yields_List}
use Rattle.file_blocks.specs.Blocks.{blocks_of, number_at, is_calendar, is_products}
use Rattle.file_blocks.proofs.Ranges.{numbered-every}
use Rattle.file_calendar.specs.Calendars.{in_order}
use Rattle.file_calendar.proofs.all_in_order.Goals as goal

pub returns : goal.returns
unfolding in_order
returns c =
    let test : ℕ × List ℕ → Bool =
    λ p. cond (ltb p.0 c.args.years) (is_calendar p.1 && eqb (number_at p.1 2) (c.number_at-first.result + p.0)) (is_products p.1) in
    let rest : iter_rest (enumerate_source c.enumerate.result) ≡ blocks_of c.args.file.now =
    ap iter_rest c.enumerate.ensures.source ∙ c.iter.ensures.rest ∙ c.blocks-2.ensures.0 in
    let all =
    all_from_yields_List test _ _ _ c.all.ensures.ran (YieldsList-from_enumerate (YieldsList-from_slice _ rest) c.enumerate.ensures.count) (λ x b q k. search rules)
    ∙ numbered-every test _ in
    rw (c.requires.0, c.number_at-first.ensures.0, c.block_at.ensures.0) at all
