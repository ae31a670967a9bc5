-- The number of the cover's months or weekly Fridays before a key: none where the key is before the cover's first (`counted_none`), for a weekly kind
-- the difference of two counts (`counted-weekly`), which rise (`counted-less`), else the difference of the keys (`counted-months`).
use Rattle.listing.proofs.Weekly.{counted_none, counted-weekly, counted-months, counted-less}
use Rattle.expiry.specs.LastDays.{key_of}
use mathlib.Core.Path.{◌∙◌, sym, ap}
use native.Mathlib.Omega.{arith}
use Rattle.listing.proofs.keys_before.Goals as goal

pub returns-then-key-first : goal.returns-then-key-first
returns-then-key-first c =
    let k = c.args.kind in
    rw (sym (c.key_of-first.ensures ∙ ap (key_of k) c.cover_start.ensures.0)) (counted_none k _ _ c.if-key-first.true)

pub overflow_sub-result : goal.overflow_sub-result
overflow_sub-result c =
    omega (arith, c.weekly_before-then-is_weekly.ensures, c.weekly_before.ensures, counted-less _ _ c.if-key-first.false)

pub returns-then-is_weekly : goal.returns-then-is_weekly
returns-then-is_weekly c =
    let k = c.args.kind in
    rw (
      sym (c.key_of-first.ensures ∙ ap (key_of k) c.cover_start.ensures.0),
      c.weekly_before-then-is_weekly.ensures,
      c.weekly_before.ensures,
    )
    (counted-weekly k _ _ (sym c.is_weekly.ensures ∙ c.if-is_weekly.true) c.if-key-first.false)

pub returns : goal.returns
returns c =
    let k = c.args.kind in
    rw (sym (c.key_of-first.ensures ∙ ap (key_of k) c.cover_start.ensures.0))
    (counted-months k _ _ (sym c.is_weekly.ensures ∙ c.if-is_weekly.false))
