-- A refused open leaves the rest and the maps; an accepted one leaves the numbered listing and the maps of the verdict's calendar.
use mathlib.Core.Path.{refl, ◌∙◌, sym}
use Rattle.session_apart.proofs.Keeping.{whole-refused, whole-accepted, result-refused, result-accepted}
use Rattle.session_apart.proofs.open_apart.Goals as goal

pub returns-in-Err : goal.returns-in-Err
returns-in-Err c =
    let e = sym c.listed_in.ensures ∙ c.in-Err.is in
    whole-refused _ _ _ _ _ _ (result-refused _ _ _ _ _ e).0 (result-refused _ _ _ _ _ e).1 refl

pub returns : goal.returns
returns c =
    rw c.opened_rest.ensures (whole-accepted _ _ _ (result-accepted _ _ _ _ _ (sym c.listed_in.ensures ∙ c.in-Ok.is)) refl)
