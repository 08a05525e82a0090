use Rattle.std.proofs.Common.{refl}
use Rattle.script_model.specs.Documents.{document_of, document_rules, document_script, policy_with}
use Rattle.script_replay.specs.network_replay.Ending.{EndsAs}
use Rattle.script_replay.specs.DocumentLines.{report_by}
use Rattle.network_replay.specs.Along.{IsMetered}
use Rattle.network_replay.proofs.Metered.{as_before}
use Rattle.script_replay.proofs.Ruled.{of_read}
use Rattle.script_replay.proofs.named_whole.replay_document.Goals as goal

pub returns-in-Ok-clause-written : goal.returns-in-Ok-clause-written
returns-in-Ok-clause-written g c =
    of_read (λ choice script. EndsAs c.replay_of_lines.result (g.K.Sink.written c.args.sink.now) (g.K.Sink.written c.replay_of_lines.new.sink) (report_by choice script)) (document_of c.args.octets.now)
    c.in-Ok.lines c.in-Ok.ensures.read c.replay_of_lines.ensures.written

pub returns-in-Ok-clause-metered : goal.returns-in-Ok-clause-metered
returns-in-Ok-clause-metered g c =
    of_read (λ choice script. IsMetered choice c.args.meter.now script c.replay_of_lines.new.meter) (document_of c.args.octets.now)
    c.in-Ok.lines c.in-Ok.ensures.read c.replay_of_lines.ensures.metered

pub returns-in-Err-Refused-clause-metered : goal.returns-in-Err-Refused-clause-metered
returns-in-Err-Refused-clause-metered g c = as_before (policy_with (document_rules c.args.octets.now)) c.args.meter.now c.args.meter.now (document_script c.args.octets.now) refl

pub returns-in-Err-OutOfMemory-clause-metered : goal.returns-in-Err-OutOfMemory-clause-metered
returns-in-Err-OutOfMemory-clause-metered g c = as_before (policy_with (document_rules c.args.octets.now)) c.args.meter.now c.args.meter.now (document_script c.args.octets.now) refl
