-- 0 just where no byte from `at` on has a day: what `fold` gives is the or of these bytes, which is 0 just where each of them is (`together`), and a
-- byte is 0 just where it has no day (`byte-none`).
use Rattle.std.proofs.Common.{rules, ◌≡◌, ◌∙◌, ◌+◌, ◌-◌, ◌<◌, ℕ, length, bit_or, slice_range, arith, ap}
use Rattle.std.specs.List.{fold}
use Rattle.calendar_words.proofs.MapBytes.{none_in, byte-none, together}
use Rattle.questions.specs.Search.{every}
use lib.Dec.{eqb}
use lib.ListN.{get_or}
use Rattle.std.proofs.lemmas.List.{get_or-take, get_or-drop}
use lib.ListN.{drop}
use Rattle.calendar_words.proofs.days_from.Goals as goal

pub returns : goal.returns
returns c =
    let map = c.args.map.now in
    let at = c.args.at in
    let e : c.fold.result ≡ fold bit_or 0 (slice_range map at 736) = search rules in
    let n : length (slice_range map at 736) ≡ 736 - at = search rules in
    let each : (k : ℕ) → k < length (slice_range map at 736) → eqb (get_or (slice_range map at 736) k 0) 0 ≡ none_in map at k =
    (λ k l.
    let m : k < 736 - at = omega (arith, l, n) in
    ap (λ (x : ℕ). eqb x 0) (get_or-take (736 - at) (drop at map) k 0 m ∙ get_or-drop at map k 0) ∙ byte-none (get_or map (at + k) 0) (search rules)) in
    ap (λ (x : ℕ). eqb x 0) e ∙ together (λ x. x) 0 (none_in map at) (slice_range map at 736) 0 each ∙ ap (λ (m : ℕ). every m (none_in map at)) n
