-- Each piece is the next of the line, and the last ends it.
use native.Mathlib.Omega.{arith}
use Rattle.file_intake_text.proofs.Pieces.{no_word, no_number, no-feed, no_all, ok-word, ok-years, ok-space, ok-records, ok-feed, ok-all}
use Rattle.gateway_run.proofs.output.write_line.Goals as goal

pub write_piece-word-requires : goal.write_piece-word-requires
write_piece-word-requires c = rw c.nothing_sent-none.ensures (no_word _ c.if-e-ne0.true)

pub write_number-number-requires : goal.write_number-number-requires
write_number-number-requires c =
    no_number _ c.if-e-ne0.true _
    (omega (arith, c.write_piece-word.ensures.0, c.nothing_sent-none.ensures))

pub write_piece-requires : goal.write_piece-requires
write_piece-requires c =
    no-feed _ c.if-e-ne0.true _
    (omega (
      arith,
      c.write_number-number.ensures,
      c.write_piece-word.ensures.0,
      c.nothing_sent-none.ensures,
    ))

pub returns-then-e-ne0 : goal.returns-then-e-ne0
returns-then-e-ne0 c =
    omega (
      arith,
      c.write_piece.ensures.0,
      c.write_number-number.ensures,
      c.write_piece-word.ensures.0,
      c.nothing_sent-none.ensures,
      no_all c.args.e
          c.if-e-ne0.true,
    )

pub write_piece-word-requires-2 : goal.write_piece-word-requires-2
write_piece-word-requires-2 c = rw c.nothing_sent-none.ensures (ok-word _ c.if-e-ne0.false)

pub write_number-years-requires : goal.write_number-years-requires
write_number-years-requires c =
    ok-years _ c.if-e-ne0.false _ (omega (arith, c.write_piece-word-2.ensures.0, c.nothing_sent-none.ensures))

pub write_piece-space-requires : goal.write_piece-space-requires
write_piece-space-requires c =
    ok-space _ c.if-e-ne0.false _
    (omega (
      arith,
      c.write_number-years.ensures,
      c.write_piece-word-2.ensures.0,
      c.nothing_sent-none.ensures,
    ))

pub write_number-records-requires : goal.write_number-records-requires
write_number-records-requires c =
    ok-records _ c.if-e-ne0.false _
    (omega (
      arith,
      c.write_piece-space.ensures.0,
      c.write_number-years.ensures,
      c.write_piece-word-2.ensures.0,
      c.nothing_sent-none.ensures,
    ))

pub write_piece-requires-2 : goal.write_piece-requires-2
write_piece-requires-2 c =
    ok-feed _ c.if-e-ne0.false _
    (omega (
      arith,
      c.write_number-records.ensures,
      c.write_piece-space.ensures.0,
      c.write_number-years.ensures,
      c.write_piece-word-2.ensures.0,
      c.nothing_sent-none.ensures,
    ))

pub returns : goal.returns
returns c =
    omega (
      arith,
      c.write_piece-2.ensures.0,
      c.write_number-records.ensures,
      c.write_piece-space.ensures.0,
      c.write_number-years.ensures,
      c.write_piece-word-2.ensures.0,
      c.nothing_sent-none.ensures,
      ok-all c.args.e
          c.if-e-ne0.false,
    )
