-- `unknown_measure_line` tells the measure of an id that the file has not: `refusal_text`
-- of the notice's line, its unknown refusal and its id, joined by `unknown-told`.
use Rattle.delivery_refusals.proofs.RefusalsTold.{unknown-told}
use Rattle.delivery_refusals.proofs.unknown_measure_line.Goals as goal

pub returns : goal.returns
returns c =
    let args = c.args in
    unknown-told args.file.now args.calls.now args.ids.now args.i _ _ _ _ c.unknown_refusal-refusal.ensures
    c.call_number-line.ensures c.id_in.ensures c.refusal_text.ensures
