-- Shown: yes exactly where the k bytes after the letter and its space are characters of an id (`each`: one of them after the other).
use Rattle.std.proofs.Common.{◌≡◌, ℕ, zero, suc, ◌+◌, ◌≤◌, Bool, ◌&&◌, List, length, get_or, take, drop, refl, sym, ◌∙◌, ap, arith, add-one, length-drop}
use Rattle.std.specs.List.{list_all}
use Rattle.std.proofs.lemmas.List.{get_or-drop}
use Rattle.std.proofs.lemmas.List.Folds.{list_all_more}
use Rattle.product.specs.Fields.{id_character}
use Rattle.questions.specs.Search.{every}
use Rattle.session_lines.specs.CommandLines.{id_form}
use Rattle.session_lines.proofs.is_id_form.Goals as goal

-- the first k of what follows two bytes, one after the other
each : (p : ℕ → Bool) (xs : List ℕ) (k : ℕ) → 2 + k ≤ length xs → list_all p (take k (drop 2 xs)) ≡ every k (λ i. p (get_or xs (2 + i) 0))
unfolding every
each p xs zero h = refl
each p xs (suc k) h =
    ap (λ n. list_all p (take n (drop 2 xs))) (sym (add-one k)) ∙ list_all_more p (drop 2 xs) k 0 (omega (arith, length-drop 2 xs)) ∙
    ap (λ b. b && p (get_or (drop 2 xs) k 0)) (each p xs k (omega arith)) ∙
    ap (λ x. every k (λ i. p (get_or xs (2 + i) 0)) && p x) (get_or-drop 2 xs k 0)

pub returns : goal.returns
unfolding id_form
returns c =
    c.are_id_characters.ensures ∙ ap (λ n. list_all id_character (take n (drop 2 c.args.bytes))) (omega arith) ∙ each id_character c.args.bytes c.args.k (omega arith)
