-- Question 5, of the first map. `slots-year`: the slots of a year's map are the days that `year_is_clean` looks at; those of the maps used are the first
-- 368 for each year (`every-blocks`). After these no bit may be set (`slots-after`).
use Rattle.std.proofs.Common.{rules, ◌≡◌, ◌∙◌, sym, ℕ, Bool, true, false, ◌&&◌, ◌*◌, ◌+◌}
use Rattle.std.proofs.lemmas.Iterator.{cases_from_all, YieldsList-from_range}
use Rattle.questions.specs.Search.{every}
use Rattle.calendar_checks.proofs.Maps.{map_day, slot_day, slots-year, slots-after}
use Rattle.calendar_words.proofs.DayWords.{every-same}
use Rattle.calendar_checks.proofs.Ranges.{all-every, every-blocks}
use mathlib.Core.Path.{refl, ap₂}
use native.Mathlib.Omega.{arith}
use Rattle.calendar_checks.proofs.first_is_clean.Goals as goal

pub returns : goal.returns
returns c =
    let map = c.args.closed.now in
    let cover = c.args.cover in
    let used = c.maps_used-used.result in
    let u = c.maps_used-used.ensures in
    let slot = slot_day map cover in
    -- the test of the k-th year
    let year : ℕ → Bool = (λ k. every 368 (map_day map k (cover.first_year + k))) in
    let found = cases_from_all _ _ c.all.result (λ k. year k ≡ true) (λ k. year k ≡ false) c.all.ensures.ran (YieldsList-from_range 0 used used refl (omega arith))
    (λ x q h. search rules) (λ x q h. search rules) in
    let years : c.all.result ≡ every (368 * used) slot =
    all-every used year c.all.result found ∙
    every-same year (λ k. every 368 (λ p. slot (368 * k + p))) used (λ k l. sym (slots-year map cover used u k l)) ∙
    every-blocks slot 368 used in
    ap₂ ◌&&◌ years c.is_empty_after.ensures ∙ slots-after map cover used u
