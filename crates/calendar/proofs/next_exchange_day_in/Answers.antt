-- The first exchange day after a day; 36,525 where the cover has none. `find` over the days from the next one on gives what the definition's search
-- gives (`first-found`), which starts with the next day (`next_from`).
use Rattle.std.proofs.Common.{rules, ◌≡◌, ◌∙◌}
use Rattle.std.proofs.lemmas.Iterator.{first_from_Range}
use Rattle.calendar.proofs.NextExchangeDay.{first-found, next_from}
use Rattle.calendar.specs.Trading.{calendar_of_maps, exchange_day}
use mathlib.Core.Bool.{true, false}
use Rattle.calendar.proofs.next_exchange_day_in.Goals as goal

pub returns : goal.returns
returns c =
    let cal = calendar_of_maps c.args.cover c.args.closed.now c.args.exchange.now in
    let test = exchange_day cal in
    let found = first_from_Range _ _ _ _ (λ i. test i ≡ true) (λ i. test i ≡ false) c.find.ensures.ran
    (λ x q k. search rules) (λ x q k. (search rules, search rules)) in
    c.unwrap_or.ensures ∙ first-found test 36525 c.saturating_add.result c.cover_end.result _ found ∙ next_from cal c.args.day _ _ c.saturating_add.ensures c.cover_end.ensures
