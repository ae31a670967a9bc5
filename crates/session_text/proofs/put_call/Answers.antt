-- The first line, then the lines of the places that the kind uses, which fit into 465 bytes.
use mathlib.Core.Path.{◌∙◌}
use Rattle.session_text.proofs.TextsInBuffer.{then}
use Rattle.session_text.proofs.TermsTexts.{lines-most}
use native.Mathlib.Omega.{arith}
use Rattle.session_text.proofs.put_call.Goals as goal

pub put_maturities-requires : goal.put_maturities-requires
put_maturities-requires c =
    let h = c.put_heading-next.ensures in
    let kind = c.args.kind in
    (c.places_of_kind-n.ensures.1, rw c.places_of_kind-n.ensures.0 (lines-most kind), omega (arith, h.1, h.0.long))

pub shape_of-out : goal.shape_of-out
shape_of-out c =
    c.put_maturities.ensures.0.long ∙ c.put_heading-next.ensures.0.long

pub returns : goal.returns
returns c =
    let h = c.put_heading-next.ensures in
    let m = c.put_maturities.ensures in
    (rw (← c.places_of_kind-n.ensures.0) (then h.0 m.0), omega (arith, h.1, m.1))
