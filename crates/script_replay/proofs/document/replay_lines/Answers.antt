use Rattle.std.proofs.Common.{refl}
use Rattle.network_replay.proofs.Metered.{as_before}
use Rattle.script_replay.specs.DocumentLines.{script_behind_rules}
use Rattle.script_replay.proofs.document.replay_lines.Goals as goal

pub returns-in_err-writer-clause-metered : goal.returns-in_err-writer-clause-metered
returns-in_err-writer-clause-metered g c = as_before (g.N.PolicyChoice.chosen c.args.choice.now) c.args.meter.now c.args.meter.now (script_behind_rules c.args.lines.now) refl

pub returns-in_err-replay-clause-metered : goal.returns-in_err-replay-clause-metered
returns-in_err-replay-clause-metered g c = as_before (g.N.PolicyChoice.chosen c.args.choice.now) c.args.meter.now c.args.meter.now (script_behind_rules c.args.lines.now) refl
