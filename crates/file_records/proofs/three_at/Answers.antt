-- Three bytes from a place on: those of `bytes_at`, the first at the place itself.
use native.Mathlib.Nat.{add-zero}
use Rattle.file_records.specs.Records.{bytes_at, three_bytes}
use Rattle.file_records.proofs.three_at.Goals as goal

pub returns : goal.returns
unfolding bytes_at three_bytes
returns c = rw (c.bytes_at.ensures, add-zero c.args.at)
