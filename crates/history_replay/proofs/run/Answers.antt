-- Shown: with a list that fits, the table is the one that the calls leave and the buffer begins with their answers; else no
-- call is made and nothing is written (`not-run`). The yes says that the calls are whole and that the buffer has room, which
-- `run_calls` requires (`fit_parts`); its contract is the rest (`run-done`).
use Rattle.questions.proofs.Bools.{said-no, said-yes}
use Rattle.history_replay.proofs.ReplayBuffer.{not-run, run-done, fit_parts, made-long}
use Rattle.history_replay.proofs.run.Goals as goal

pub returns-then-not-replay_fits : goal.returns-then-not-replay_fits
returns-then-not-replay_fits c = not-run _ _ _ _ _ _ c.open_table-opened.ensures (said-no c.replay_fits.ensures c.if-not-replay_fits.true)

pub run_calls-after-requires : goal.run_calls-after-requires
run_calls-after-requires c = fit_parts _ _ (said-yes c.replay_fits.ensures c.if-not-replay_fits.false)

pub shape_of-buffer : goal.shape_of-buffer
shape_of-buffer c =
    let fits = fit_parts _ _ (said-yes c.replay_fits.ensures c.if-not-replay_fits.false) in
    made-long _ _ _ _ _ fits.0 fits.1 c.run_calls-after.ensures

pub returns : goal.returns
returns c =
    run-done _ _ _ _ _ _ _ _ c.open_table-opened.ensures (said-yes c.replay_fits.ensures c.if-not-replay_fits.false)
    c.run_calls-after.ensures
