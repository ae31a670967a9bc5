-- The front of a kind on a date; the first key beyond the cover where it has none: the search of the keys from the date's to the end finds what the
-- definition's finds (`first-found`, `front-is`).
use Rattle.std.proofs.Common.{true, false, rules}
use Rattle.std.proofs.lemmas.Iterator.{first_from_Range}
use Rattle.questions.proofs.Chains.{first-found}
use Rattle.calendar.specs.Trading.{calendar_with}
use Rattle.listing.proofs.Front.{may_be_front, front-is}
use mathlib.Core.Path.{◌≡◌, ◌∙◌, sym}
use Rattle.listing.proofs.front_key_in.Goals as goal

pub returns : goal.returns
returns c =
    let f = may_be_front (calendar_with c.args.cover c.args.closed.now) c.args.kind c.args.group c.args.date in
    let e =
    c.unwrap_or.ensures
    ∙ first-found f c.key_of-start.result c.end_key-end.result c.find.result
    (first_from_Range _ _ _ c.find.result (λ k. f k ≡ true) (λ k. f k ≡ false) c.find.ensures.ran (λ x q k. search rules) (λ x q k. search rules)) in
    (rw (c.end_key-end.ensures.0, c.key_of-start.ensures) at e) ∙ sym (front-is _ c.args.kind c.args.group c.args.date)
