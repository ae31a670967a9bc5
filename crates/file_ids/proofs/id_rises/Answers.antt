-- Whether the second of two ids is greater: the order of arrays is the definition's, byte by byte (`ids-order`).
use Rattle.std.proofs.Common.{rules, ◌≡◌, length, ◌∙◌}
use Rattle.file_ids.proofs.IdsRise.{ids-order}
use Rattle.file_ids.proofs.id_rises.Goals as goal

pub returns : goal.returns
returns c =
    let a : length c.args.a ≡ 4 = search rules in
    let b : length c.args.b ≡ 4 = search rules in
    c.lt.ensures ∙ ids-order _ _ a b
