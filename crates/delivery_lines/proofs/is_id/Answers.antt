-- `is_id` says whether a word is an id: one to four bytes, all of them characters of an id.
use mathlib.Core.Bool.{and-false}
use mathlib.Core.Path.{refl, ◌∙◌}
use native.Mathlib.Omega.{arith}
use lib.Dec.{leb}
use lib.ListN.{length}
use borrow.Author.Tests.{lt-leb}
use Rattle.std.proofs.Common.{rules, tests}
use Rattle.std.proofs.lemmas.Iterator.Search.{all_from_yields_List}
use Rattle.std.proofs.lemmas.Iterator.{YieldsList-from_slice}
use Rattle.product.specs.Fields.{id_character}
use Rattle.delivery_lines.proofs.NoticeForms.{id-all}
use Rattle.delivery_lines.specs.NoticeLines.{is_id}
use Rattle.delivery_lines.proofs.is_id.Goals as goal

-- ---- a word that is too short or too long
pub returns-then-word-lt1 : goal.returns-then-word-lt1
unfolding is_id
returns-then-word-lt1 c = rw (lt-leb 1 (length c.args.word.now) (omega arith)) refl

pub returns-then-word-gt4 : goal.returns-then-word-gt4
unfolding is_id
returns-then-word-gt4 c =
    let args = c.args in
    rw (lt-leb (length args.word.now) 4 (omega arith), and-false (leb 1 (length args.word.now))) refl

-- ---- any other
pub returns : goal.returns
returns c =
    let all = all_from_yields_List id_character _ _ c.all.result c.all.ensures.ran (YieldsList-from_slice c.args.word.now cc)
    (λ x b q k. search (rules, tests)) in
    all ∙ id-all _ (omega arith) (omega arith)
