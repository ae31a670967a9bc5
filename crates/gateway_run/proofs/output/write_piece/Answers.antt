-- The count goes on by the piece, and fits as a line is short; after a failure it stays closed.
use mathlib.Core.Path.{refl, sym}
use mathlib.Core.Bool.{true≢false}
use native.Mathlib.Omega.{arith}
use borrow.Author.Tests.{not-false}
use Rattle.file_intake_text.proofs.Digits.{ended-short}
use Rattle.gateway_run.proofs.output.write_piece.Goals as goal

pub overflow_add-bytes : goal.overflow_add-bytes
overflow_add-bytes c = omega (arith, c.requires.within, ended-short c.args.e)

pub returns-then-not-sent : goal.returns-then-not-sent
returns-then-not-sent c = (refl, λ e. absurd (true≢false (sym e)))

pub returns : goal.returns
returns c = (refl, λ e. not-false _ c.if-not-sent.false)
