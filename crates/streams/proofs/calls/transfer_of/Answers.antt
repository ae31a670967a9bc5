-- The test is on the number that the machine reads back from the answer's bits, which is the answer.
use Rattle.std.proofs.Common.{length, ℤ, ap, ◌∙◌, to_z-of_z}
use Rattle.streams.specs.Transfers.{moved_bytes, transfer_of}
use Rattle.streams.proofs.TransferAnswers.{of_negative, of-moved}
use Rattle.streams.proofs.calls.transfer_of.Goals as goal

pub returns-then-got-lt0 : goal.returns-then-got-lt0
returns-then-got-lt0 c =
    let e = to_z-of_z c.ranges.got in
    c.failure.ensures ∙ of_negative _ _ c.if-got-lt0.true ∙ ap (λ (z : ℤ). transfer_of z (length c.args.buffer.now)) e

pub returns : goal.returns
returns c =
    let e = to_z-of_z c.ranges.got in
    ap moved_bytes c.count-length.ensures.value ∙ of-moved _ _ c.if-got-lt0.false ∙ ap (λ (z : ℤ). transfer_of z (length c.args.buffer.now)) e
