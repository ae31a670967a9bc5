-- `take_said` counts a line and takes what it says. Each return cites the tests before it: a line that says nothing, a bad one, one that
-- may not stand here, the O with its date, or a notice that `store_notice` puts into the lists, which have room by what is required.
use native.Mathlib.Omega.{arith}
use Rattle.delivery_notices.proofs.NoticesSoFar.{said-comment, said-bad, said-strayed, said-open, said-call}
use Rattle.questions.proofs.Bools.{said-no, said-yes}
use Rattle.delivery_notices.proofs.take_said.Goals as goal

-- ---- a line that says nothing
pub returns-then-letter-eq35 : goal.returns-then-letter-eq35
returns-then-letter-eq35 c = said-comment _ _ _ _ c.requires.2 c.if-letter-eq35.true

-- ---- the bad lines
pub bad_taken-requires : goal.bad_taken-requires
bad_taken-requires c = c.requires.0

pub returns-then-letter-eq0 : goal.returns-then-letter-eq0
returns-then-letter-eq0 c =
    rw c.bad_taken.ensures (said-bad _ _ _ _ c.requires.2 c.if-letter-eq35.false
    c.if-letter-eq0.true)

pub bad_taken-requires-then-not-may_stand : goal.bad_taken-requires-then-not-may_stand
bad_taken-requires-then-not-may_stand c = c.requires.0

pub returns-then-not-may_stand : goal.returns-then-not-may_stand
returns-then-not-may_stand c =
    rw c.bad_taken-then-not-may_stand.ensures (said-strayed _ _ _ _ c.requires.2
    c.if-letter-eq35.false c.if-letter-eq0.false
    (said-no c.may_stand.ensures c.if-not-may_stand.true))

-- ---- the O
pub returns-then-letter-eq79 : goal.returns-then-letter-eq79
returns-then-letter-eq79 c =
    said-open _ _ _ _ c.requires.2 c.if-letter-eq35.false
    c.if-letter-eq0.false (said-yes c.may_stand.ensures c.if-not-may_stand.false)
    c.if-letter-eq79.true

-- ---- a notice
pub store_notice-requires : goal.store_notice-requires
store_notice-requires c =
    (c.requires.3, c.requires.4)

pub overflow_add-r-2 : goal.overflow_add-r-2
overflow_add-r-2 c =
    omega (
      arith,
      c.requires.1,
    )

pub shape_of-calls : goal.shape_of-calls
shape_of-calls c = c.store_notice.ensures.calls-long

pub shape_of-ids : goal.shape_of-ids
shape_of-ids c = c.store_notice.ensures.ids-long

pub returns : goal.returns
returns c =
    said-call _ _ _ _
    c.requires.2 c.if-letter-eq35.false
    c.if-letter-eq0.false
    (said-yes c.may_stand.ensures
    c.if-not-may_stand.false)
    c.if-letter-eq79.false _ _
    c.store_notice.ensures
