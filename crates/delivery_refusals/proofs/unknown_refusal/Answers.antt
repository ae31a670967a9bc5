-- `unknown_refusal` gives 0 for a notice that is no measure (`unknown-other`) and for
-- one whose id the file has (`unknown-there`), and 9 for another (`unknown-not`).
use Rattle.delivery_refusals.proofs.RefusalsTold.{unknown-other, unknown-there, unknown-not}
use Rattle.delivery_refusals.proofs.unknown_refusal.Goals as goal

pub returns-then-call_number-ne3 : goal.returns-then-call_number-ne3
returns-then-call_number-ne3 c =
    let args = c.args in
    unknown-other args.file.now args.calls.now args.ids.now args.i _ c.call_number.ensures c.if-call_number-ne3.true

pub returns-then-is_found : goal.returns-then-is_found
returns-then-is_found c =
    let args = c.args in
    unknown-there args.file.now args.calls.now args.ids.now args.i _ c.call_number.ensures
    c.if-call_number-ne3.false _ c.id_in.ensures _ c.is_found.ensures c.if-is_found.true

pub returns : goal.returns
returns c =
    let args = c.args in
    unknown-not args.file.now args.calls.now args.ids.now args.i _ c.call_number.ensures
    c.if-call_number-ne3.false _ c.id_in.ensures _ c.is_found.ensures c.if-is_found.false
