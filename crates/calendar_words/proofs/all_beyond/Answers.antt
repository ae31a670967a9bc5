-- 0 just where every byte of the second map has only days of the first: what `fold` gives is the or of the days beyond (`together`), byte by byte of
-- the two maps, which are as long as one another; these are none just where the bytes pass (`byte-within`).
use Rattle.std.proofs.Common.{rules, ◌≡◌, ◌-◌, ℕ, length, bit_or, arith, ◌∙◌, ◌<◌, ap, min}
use mathlib.Core.Path.{ap₂}
use Rattle.calendar_words.proofs.MapBytes.{within_in, byte-within, together}
use Rattle.questions.specs.Search.{every}
use Rattle.std.proofs.lemmas.Slice.Zip.{get_or-zip, length-zip}
use lib.Dec.{eqb}
use lib.ListN.{get_or}
use Rattle.std.specs.List.{fold, zip}
use Rattle.std.proofs.lemmas.Iterator.{YieldsList-from_slice, YieldsList-from_zip}
use Rattle.std.proofs.lemmas.Iterator.Consumers.{fold_from_yields_List}
use Rattle.calendar_words.proofs.all_beyond.Goals as goal

-- the days of the second of two bytes that the first has not
abbrev beyond : ℕ × ℕ → ℕ
beyond p = bit_or p.0 p.1 - p.0

pub returns : goal.returns
returns c =
    let first = c.args.first.now in
    let second = c.args.second.now in
    let n : length (zip first second) ≡ 736 = length-zip first second ∙ ap₂ min c.told-first c.told-second in
    let e : c.fold.result ≡ fold (λ d p. bit_or d (beyond p)) 0 (zip first second) =
    fold_from_yields_List _ (λ d p. bit_or d (beyond p)) 0 c.fold.result c.fold.ensures.ran
    (YieldsList-from_zip (YieldsList-from_slice first (search rules)) (YieldsList-from_slice second (search rules)))
    (λ a x b q k. (search rules, search rules)) in
    let each : (k : ℕ) → k < length (zip first second) → eqb (beyond (get_or (zip first second) k (0, 0))) 0 ≡ within_in first second k =
    (λ k l.
    let i : k < length first = omega (arith, l, n, c.told-first) in
    let j : k < length second = omega (arith, l, n, c.told-second) in
    ap (λ (p : ℕ × ℕ). eqb (beyond p) 0) (get_or-zip first second k (0, 0) i j) ∙
    byte-within (get_or first k 0) (get_or second k 0) (search rules) (search rules)) in
    ap (λ (x : ℕ). eqb x 0) e ∙ together beyond (0, 0) (within_in first second) (zip first second) 0 each ∙
    ap (λ (m : ℕ). every m (within_in first second)) n
