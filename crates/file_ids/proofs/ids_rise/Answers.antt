-- Question 8: the answer is whether the ids strictly rise over the file, though each id is compared only with the one before it.
-- The loop keeps `Walked`: before p every id is above all before it, and `last` is the last record's place, with the highest id, if there is one.
-- A no of `follows` refutes question 8 (walk-fails); after the last place the walk has answered it yes.
use mathlib.Core.Path.{◌≡◌, sym, ap, ◌∙◌}
use Prim.Native.Nat.{ℕ}
use native.Mathlib.Omega.{arith}
use Rattle.questions.specs.Search.{every}
use Rattle.questions.proofs.Bools.{said-no, said-yes}
use Rattle.file_ids.specs.Ids.{place_count, id_at, id_rises, place_rises, ids_rise}
use Rattle.file_ids.proofs.IdsRise.{walk_start, walk_record, walk_on, walk-fails, follows-yes, follows-no}
use Rattle.file_ids.proofs.ids_rise.Goals as goal
use Rattle.file_ids.proofs.ids_rise.Goals.{then-is_record+else-not-follows, else-is_record}

pub loop-p-init : goal.loop-p-init
loop-p-init c = walk_start _

-- ---- a record that does not follow: no
pub returns-then-not-follows : goal.returns-then-not-follows
unfolding ids_rise
returns-then-not-follows c =
    let f = c.args.file.now in
    let (r, is, less) = follows-no (λ q. id_rises (id_at f q) (id_at f c.loop-p.p)) _ _ c.follows.ensures c.if-not-follows.true in
    sym (walk-fails f _ _ c.loop-p.invariant _ r (omega arith) (said-yes c.is_record.ensures c.if-is_record.true) is less)

-- ---- the turn that goes on, by whether the place holds a record
pub loop-p-preserved : goal.loop-p-preserved
loop-p-preserved c =
    let f = c.args.file.now in
    elim c.if-is_record.branch [
      | then-is_record+else-not-follows w ↦ rw w.last-is (walk_record f _ _ c.loop-p.invariant (said-yes c.is_record.ensures w.if-is_record.true)
          (follows-yes (λ q. id_rises (id_at f q) (id_at f c.loop-p.p)) _ _ w.follows.ensures w.if-not-follows.false))
      | else-is_record w ↦ rw w.last-is (walk_on f _ _ c.loop-p.invariant (said-no c.is_record.ensures w.if-is_record.false))
    ]

-- ---- after the last place: yes
pub returns : goal.returns
unfolding ids_rise
returns c =
    let e : c.loop-p.p ≡ place_count c.args.file.now = omega arith in
    sym (ap (λ (n : ℕ). every n (place_rises c.args.file.now)) (sym e) ∙ c.loop-p.invariant.risen)
