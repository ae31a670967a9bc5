-- The bytes are copied to their part of the buffer, and stand there byte by byte (`put-whole`).
use native.Mathlib.Omega.{arith}
use mathlib.Core.Path.{refl}
use Rattle.std.proofs.lemmas.Slice.{put_mid-paste}
use Rattle.delivery_queries.proofs.Answering.{put-whole}
use Rattle.delivery_queries.proofs.put_bytes.Goals as goal

pub returns : goal.returns
returns c =
    put-whole c.args.out.now _ c.args.bytes.now c.args.at (omega (arith, c.requires))
    (put_mid-paste _ _ _ _ _ _ c.copy_from_slice.ensures.after (omega arith) refl)
