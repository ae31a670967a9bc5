-- Question 5, of the map of year k. A word is apart from the barred days just where its days pass (`word-clean`), for each eight weeks (`weeks-clean`),
-- which are the first 336 days (`every-blocks`), and for the 32 days after them.
use Rattle.std.proofs.Common.{rules, ◌≡◌, ◌∙◌, ℕ, Bool, true, false, ◌&&◌, ◌/◌, ◌*◌, ◌+◌, ◌^◌, eqb}
use Rattle.std.specs.Int.Bits.{bit_and}
use Rattle.std.proofs.lemmas.Iterator.{cases_from_all, YieldsList-from_range}
use Rattle.calendar_words.specs.DayWords.{weeks_of}
use Rattle.calendar_words.proofs.DayWords.{every-same, word-clean}
use Rattle.calendar_words.proofs.Equations.{rest-shows, rest_below, weeks-shows, weeks-below}
use Rattle.calendar_checks.proofs.Maps.{map_day, weeks-barred}
use Rattle.calendar_checks.proofs.Ranges.{all-every, every-blocks, every-sum}
use Rattle.questions.specs.Search.{every}
use Rattle.calendar.specs.Trading.{may_close}
use mathlib.Core.Path.{refl, ap₂}
use Rattle.calendar_checks.proofs.year_is_clean.Goals as goal

pub returns : goal.returns
returns c =
    let map = c.args.closed.now in
    let k = c.args.k in
    let y = c.args.year in
    let barred = c.year_barred-barred.result in
    let day = map_day map k y in
    -- the test of the j-th eight weeks
    let apart : ℕ → Bool = (λ j. eqb (bit_and (weeks_of map k j) (barred / 2 ^ 8)) 0) in
    let found = cases_from_all _ _ c.all.result (λ j. apart j ≡ true) (λ j. apart j ≡ false) c.all.ensures.ran (YieldsList-from_range 0 6 6 refl refl)
    (λ x q h. search rules) (λ x q h. search rules) in
    let weeks : c.all.result ≡ every 336 day =
    all-every 6 apart c.all.result found ∙
    every-same apart (λ j. every 56 (λ p. day (56 * j + p))) 6 (λ j l.
    word-clean map (may_close y) (368 * k) (56 * j) 56 (weeks_of map k j) (barred / 2 ^ 8) (weeks-below map k j (weeks_of map k j) refl)
    (weeks-shows map k j (weeks_of map k j) refl c.requires.0 l) (λ p h. weeks-barred y barred c.year_barred-barred.ensures j p l h)) ∙
    every-blocks day 56 6 in
    let rest : c.is_apart.result ≡ every 32 (λ p. day (336 + p)) =
    c.is_apart.ensures ∙
    word-clean map (may_close y) (368 * k) 336 32 c.rest_of.result c.rest_barred.result (rest_below _ _ _ c.rest_of.ensures)
    (rest-shows _ _ _ c.rest_of.ensures c.requires.0) c.rest_barred.ensures in
    ap₂ ◌&&◌ weeks rest ∙ every-sum day 336 32
