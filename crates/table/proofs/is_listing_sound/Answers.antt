-- Shown: the answer is what question 10 says of the maturities. A `return` with no cites the yeses before it and its own no:
-- the fresh listing, the numbers, given at least the months listed. In a fresh listing the first place has the front, so
-- the keys before the first place are those before the front (`keys-there`), and the last test is the definition's.
use Rattle.table.proofs.TableQuestions.{listing-unlike, listing-numbers, listing-few, listing-rest}
use Rattle.table.specs.Table.{lists_fresh, covered_in}
use Rattle.table.proofs.FirstPlace.{keys-there}
use Rattle.questions.proofs.Bools.{both, said-no, said-yes}
use mathlib.Core.Path.{sym}
use Rattle.table.proofs.is_listing_sound.Goals as goal

-- ---- the answers no
pub returns-then-not-is_fresh : goal.returns-then-not-is_fresh
returns-then-not-is_fresh c = sym (listing-unlike _ (said-no c.is_fresh.ensures c.if-not-is_fresh.true))

pub returns-then-not-are_numbers_right : goal.returns-then-not-are_numbers_right
returns-then-not-are_numbers_right c =
    let yes-is-fresh = said-yes c.is_fresh.ensures c.if-not-is_fresh.false in
    let t = c.args.t in
    sym (listing-numbers t yes-is-fresh (said-no c.are_numbers_right.ensures c.if-not-are_numbers_right.true))

pub returns-then-t-n : goal.returns-then-t-n
returns-then-t-n c =
    let yes-is-fresh = said-yes c.is_fresh.ensures c.if-not-is_fresh.false in
    let t = c.args.t in
    sym (listing-few t yes-is-fresh (said-yes c.are_numbers_right.ensures c.if-not-are_numbers_right.false) _
    c.places_of_kind-n.ensures.0 c.if-t-n.true)

-- ---- the keys of the cover before the front
pub returns : goal.returns
returns c =
    let yes-is-fresh = said-yes c.is_fresh.ensures c.if-not-is_fresh.false in
    let t = c.args.t in
    let fresh = both (covered_in t t.calendar t.date) (lists_fresh t) yes-is-fresh in
    listing-rest t yes-is-fresh (said-yes c.are_numbers_right.ensures c.if-not-are_numbers_right.false) _
    c.places_of_kind-n.ensures.0 _ c.if-t-n.false
    (keys-there t fresh.0 fresh.1 _ c.keys_before.ensures)
