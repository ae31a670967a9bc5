-- Whether bytes 108 to 509 of the first `years` blocks are zero: `all` asks each of them.
use Rattle.std.proofs.Common.{rules}
use Rattle.file_blocks.specs.Blocks.{block_of, zeros}
use Rattle.file_blocks.proofs.Ranges.{every_from_all}
use Rattle.file_calendar.proofs.tails_zero.Goals as goal

pub returns : goal.returns
returns c = every_from_all (λ k. zeros (block_of c.args.file.now k) 108 402) c.args.years _ _ _ c.all.ensures.ran (λ x b q k. search rules)
