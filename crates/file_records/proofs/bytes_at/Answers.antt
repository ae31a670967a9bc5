-- N bytes from a place on: `from_fn` makes each by `byte_at`.
use Rattle.std.proofs.Common.{rules}
use Rattle.file_blocks.proofs.Arrays.{made-from_fn}
use Rattle.file_records.specs.Records.{bytes_at}
use Rattle.file_records.proofs.bytes_at.Goals as goal

pub returns : goal.returns
unfolding bytes_at
returns g c = made-from_fn _ _ (λ i y q k. search rules) _ _ c.from_fn.ensures.items
