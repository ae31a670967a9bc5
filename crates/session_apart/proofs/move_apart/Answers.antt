-- Shown: where `ten` is the answer to question 10, the rest and its maps move as the command's call on the whole table. A
-- roll or close that keeps the listing changes the date (`rolled`) or one bit of the first map (`closed-aside`); an O is
-- opened apart (`opened-apart`); any other call is made on the table put together.
use mathlib.Core.Path.{sym, ◌∙◌}
use Rattle.session_apart.proofs.Keeping.{rolled, closed-aside, opened-apart}
use Rattle.session_apart.proofs.move_apart.Goals as goal

pub returns-then-rolls_on : goal.returns-then-rolls_on
returns-then-rolls_on c = λ k.
    let on = c.rolls_on.ensures c.if-rolls_on.true in
    rw c.dated.ensures (rolled _ _ _ _ _ on.0 (on.2 _ (sym k ∙ on.1)))

pub close_in-requires : goal.close_in-requires
close_in-requires c =
    let aside = c.closes_aside.ensures c.if-closes_aside.true in
    (aside.2, aside.3)

pub returns-then-closes_aside : goal.returns-then-closes_aside
returns-then-closes_aside c = λ k.
    let aside = c.closes_aside.ensures c.if-closes_aside.true in
    rw c.dated-then-closes_aside.ensures (closed-aside _ _ _ _ _ _ aside.0 c.close_in.ensures (aside.4 _ (sym k ∙ aside.1)))

pub returns-then-letter-eq79 : goal.returns-then-letter-eq79
returns-then-letter-eq79 c = λ k. opened-apart _ _ _ _ _ _ c.if-letter-eq79.true c.open_apart.ensures

pub returns : goal.returns
returns c = c.move_whole.ensures
