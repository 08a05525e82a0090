use Rattle.std.proofs.Common.{◌≡◌, ◌∙◌, None, Ok, refl, sym, ap}
use Rattle.script_model.specs.Documents.{policy_with, rules_in, rules_read, rule_refused, script_in}
use Rattle.rule_model.specs.Lines.{RuleLines}
use Rattle.script_replay.specs.network_replay.Ending.{EndsAs}
use Rattle.script_replay.specs.DocumentLines.{report_by}
use Rattle.network_replay.specs.Along.{IsMetered}
use Rattle.network_replay.proofs.Metered.{as_before}
use Rattle.script_replay.proofs.Ruled.{by_name, by_rules}
use Rattle.script_replay.proofs.named_whole.replay_read.Goals as goal

pub returns-in-None-clause-written : goal.returns-in-None-clause-written
returns-in-None-clause-written g c =
    let accepted : rule_refused (rules_read c.args.lines.now) ≡ None = ap rule_refused (sym c.requires) ∙ (sym c.refused.ensures ∙ cc) in
    by_name (λ choice script. EndsAs c.replay_lines.result (g.K.Sink.written c.args.sink.now) (g.K.Sink.written c.replay_lines.new.sink) (report_by choice script)) c.args.lines.now accepted (cc) c.replay_lines.ensures.written

pub returns-in-None-clause-metered : goal.returns-in-None-clause-metered
returns-in-None-clause-metered g c =
    let accepted : rule_refused (rules_read c.args.lines.now) ≡ None = ap rule_refused (sym c.requires) ∙ (sym c.refused.ensures ∙ cc) in
    by_name (λ choice script. IsMetered choice c.args.meter.now script c.replay_lines.new.meter) c.args.lines.now accepted (cc) c.replay_lines.ensures.metered

pub returns-in-Some-rules-clause-written : goal.returns-in-Some-rules-clause-written
returns-in-Some-rules-clause-written g c =
    let accepted : rule_refused (rules_read c.args.lines.now) ≡ None = ap rule_refused (sym c.requires) ∙ (sym c.refused.ensures ∙ cc) in
    by_rules (λ choice script. EndsAs c.replay_lines-in-Some-rules.result (g.K.Sink.written c.args.sink.now) (g.K.Sink.written c.replay_lines-in-Some-rules.new.sink) (report_by choice script))
    c.args.lines.now c.in-Some-rules.field-0 c.rules-in-Some-rules.result.now accepted (cc)
    (c.rules-in-Some-rules.ensures ∙ ap (λ (read : RuleLines). read.rules) c.requires) c.replay_lines-in-Some-rules.ensures.written

pub returns-in-Some-rules-clause-metered : goal.returns-in-Some-rules-clause-metered
returns-in-Some-rules-clause-metered g c =
    let accepted : rule_refused (rules_read c.args.lines.now) ≡ None = ap rule_refused (sym c.requires) ∙ (sym c.refused.ensures ∙ cc) in
    by_rules (λ choice script. IsMetered choice c.args.meter.now script c.replay_lines-in-Some-rules.new.meter)
    c.args.lines.now c.in-Some-rules.field-0 c.rules-in-Some-rules.result.now accepted (cc)
    (c.rules-in-Some-rules.ensures ∙ ap (λ (read : RuleLines). read.rules) c.requires) c.replay_lines-in-Some-rules.ensures.metered

pub returns-in-Some-clause-metered : goal.returns-in-Some-clause-metered
returns-in-Some-clause-metered g c = as_before (policy_with (rules_in (Ok c.args.lines.now))) c.args.meter.now c.args.meter.now (script_in (Ok c.args.lines.now)) refl
