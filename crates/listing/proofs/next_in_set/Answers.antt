-- For the future of 2005 and the weekly option the search of the keys from `from` to the end finds what the definition's finds (`first-found`); for
-- the others the next month by arithmetic.
use Rattle.std.proofs.Common.{true, false, rules}
use Rattle.std.proofs.lemmas.Iterator.{first_from_Range}
use Rattle.questions.proofs.Chains.{first-found}
use Rattle.product.specs.Fields.{kind_number}
use Rattle.listing.specs.Months.{set_at}
use mathlib.Core.Path.{◌≡◌, ◌∙◌}
use Rattle.listing.proofs.next_in_set.Goals as goal

pub returns-in-Future-Of2005 : goal.returns-in-Future-Of2005
returns-in-Future-Of2005 c =
    let f = set_at (kind_number c.args.kind) c.args.step in
    c.unwrap_or.ensures
    ∙ first-found f c.args.from c.args.end c.find.result
    (first_from_Range _ _ _ c.find.result (λ k. f k ≡ true) (λ k. f k ≡ false) c.find.ensures.ran (λ x q k. search rules) (λ x q k. search rules))
