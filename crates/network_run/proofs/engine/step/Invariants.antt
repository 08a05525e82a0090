use Rattle.network_run.proofs.engine.step.Given as goal

abbrev pub ghost-step : goal.ghost-step
ghost-step g a = g.topology
