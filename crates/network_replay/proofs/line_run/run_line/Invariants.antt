use Rattle.network_replay.proofs.line_run.run_line.Given as goal

abbrev pub ghost-step : goal.ghost-step
ghost-step g a = a.context.now.names.now

abbrev pub ghost-rounds : goal.ghost-rounds
ghost-rounds g a = a.context.now.names.now
