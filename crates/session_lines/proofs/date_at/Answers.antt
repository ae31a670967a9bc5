-- Shown: the answer is the date from the place on, as the definition reads it. Without the form there is none
-- (`date-formless`). With it, year, month and day are the two-digit numbers, each at most 99, so the year fits; a day of
-- `day_of_date` is the date (`date-there`), its no is none (`date-refused`).
use mathlib.Core.Path.{ap₂}
use Prim.Native.Nat.{ℕ, ◌+◌, ◌*◌}
use Rattle.questions.proofs.Bools.{said-no, said-yes}
use Rattle.session_lines.proofs.CommandForms.{date-formless, date-there, date-refused}
use native.Mathlib.Omega.{arith}
use Rattle.session_lines.proofs.date_at.Goals as goal

-- ---- not the form of a date
pub returns-then-not-is_date_form : goal.returns-then-not-is_date_form
returns-then-not-is_date_form c = date-formless _ _ (said-no c.is_date_form.ensures c.if-not-is_date_form.true)

-- ---- the numbers fit, and the bytes are within the line
pub overflow_mul-year : goal.overflow_mul-year
overflow_mul-year c = omega (arith, c.two_value.ensures.1)

pub overflow_add-year : goal.overflow_add-year
overflow_add-year c = omega (arith, c.two_value.ensures.1, c.two_value-2.ensures.1)

-- ---- a day
pub returns-in-Ok : goal.returns-in-Ok
returns-in-Ok c =
    let yes-is-date-form = said-yes c.is_date_form.ensures c.if-not-is_date_form.false in
    date-there _ _ yes-is-date-form _ _ _
    (ap₂ (λ (a b : ℕ). 100 * a + b) c.two_value.ensures.0 c.two_value-2.ensures.0) c.two_value-3.ensures.0
    c.two_value-4.ensures.0
    _ c.day_of_date.ensures _ c.in-Ok.is

-- ---- not a date
pub returns-in-Err : goal.returns-in-Err
returns-in-Err c =
    let yes-is-date-form = said-yes c.is_date_form.ensures c.if-not-is_date_form.false in
    date-refused _ _ yes-is-date-form _ _ _
    (ap₂ (λ (a b : ℕ). 100 * a + b) c.two_value.ensures.0 c.two_value-2.ensures.0) c.two_value-3.ensures.0
    c.two_value-4.ensures.0
    _ c.day_of_date.ensures _ c.in-Err.is
