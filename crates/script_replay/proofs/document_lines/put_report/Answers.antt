use Rattle.std.proofs.Common.{◌≡◌, ◌∙◌, ℕ, Option, Result, option_map, sym, ap, subst}
use Rattle.script_model.specs.declared.refusal.Refused.{Refused}
use Rattle.script_model.specs.Documents.{Lines, numbered_behind, rule_count, script_texts}
use Rattle.lab_io.specs.declared.stop.Stop.{Stop}
use Rattle.lab_io.specs.declared.stop.Stop.TheVariants.{OutOfMemory as NoMemory}
use Rattle.lab_io.specs.Puts.{Puts}
use Rattle.lab_io.proofs.Stops.{none_of}
use Rattle.network_replay.specs.Along.{last_told}
use Rattle.network_replay.proofs.Metered.{all_metered}
use Rattle.tell_report.specs.Report.{report_tale}
use Rattle.script_replay.specs.DocumentLines.{placed_of_lines, report_by, script_behind_rules, script_of_lines}
use Rattle.script_replay.proofs.DocumentTakings.{report_put, report_cut, last_cut, whole_behind, err_is}
use Rattle.script_replay.proofs.document_lines.put_report.Goals as goal

-- so many lines are rules
behind_is : (lines : Lines) (count : ℕ) (found refused : Option Refused) → count ≡ rule_count lines → refused ≡ option_map (numbered_behind count) found
    → refused ≡ option_map (numbered_behind (rule_count lines)) found
behind_is lines count found refused same is = is ∙ ap (λ (n : ℕ). option_map (numbered_behind n) found) same

pub returns-in_err-found-clause-put : goal.returns-in_err-found-clause-put
returns-in_err-found-clause-put g c =
    subst (λ (r : Result (Option Refused) Stop). Puts r c.args.told.now.writer c.take_lines.new.told.writer (g.K.Sink.written c.args.sink.now) (g.K.Sink.written c.take_lines.new.sink) (report_by (g.N.PolicyChoice.chosen c.args.choice.now) (script_behind_rules c.args.lines.now)))
    (sym (err_is c.from_residual.result _ c.from_residual.ensures.1))
    (report_cut (g.N.PolicyChoice.chosen c.args.choice.now) c.args.lines.now c.in_err-found.field-0.0 c.args.told.now.writer c.take_lines.new.told.writer (g.K.Sink.written c.args.sink.now) (g.K.Sink.written c.take_lines.new.sink)
    c.in_err-found.ensures.comes)

pub returns-in_err-refused-clause-put : goal.returns-in_err-refused-clause-put
returns-in_err-refused-clause-put g c =
    let script = script_behind_rules c.args.lines.now in
    let placed = placed_of_lines (script_texts c.args.lines.now) in
    let choice = g.N.PolicyChoice.chosen c.args.choice.now in
    subst (λ (r : Result (Option Refused) Stop). Puts r c.args.told.now.writer c.take_lines.new.told.writer (g.K.Sink.written c.args.sink.now) (g.K.Sink.written c.take_lines.new.sink) (report_by choice script))
    (sym (err_is c.from_residual-in_err-refused.result _ c.from_residual-in_err-refused.ensures.1))
    (last_cut choice c.args.lines.now (NoMemory c.in_err-refused.field-0.0) c.args.told.now.writer c.take_lines.new.told.writer c.take_lines.new.told.writer (g.K.Sink.written c.args.sink.now) (g.K.Sink.written c.take_lines.new.sink) (g.K.Sink.written c.take_lines.new.sink)
    c.in_ok-found.ensures.comes.put (none_of c.take_lines.new.told.writer (g.K.Sink.written c.take_lines.new.sink) (last_told report_tale (choice script.topology) script placed)))

pub returns-in_err-end-clause-put : goal.returns-in_err-end-clause-put
returns-in_err-end-clause-put g c =
    let script = script_behind_rules c.args.lines.now in
    let placed = placed_of_lines (script_texts c.args.lines.now) in
    let choice = g.N.PolicyChoice.chosen c.args.choice.now in
    subst (λ (r : Result (Option Refused) Stop). Puts r c.args.told.now.writer c.end.new.told.writer (g.K.Sink.written c.args.sink.now) (g.K.Sink.written c.end.new.sink) (report_by choice script))
    (sym (err_is c.from_residual-in_err-end.result _ c.from_residual-in_err-end.ensures.1))
    (last_cut choice c.args.lines.now c.in_err-end.field-0.0 c.args.told.now.writer c.take_lines.new.told.writer c.end.new.told.writer (g.K.Sink.written c.args.sink.now) (g.K.Sink.written c.take_lines.new.sink) (g.K.Sink.written c.end.new.sink)
    c.in_ok-found.ensures.comes.put
    (c.in_err-end.ensures.put script placed
    (whole_behind g.C.NodeController.seen choice (rule_count c.args.lines.now) (script_of_lines (script_texts c.args.lines.now)) placed c.in_ok-found.found c.in_ok-refused.refused c.take_lines.new.replay (behind_is c.args.lines.now c.rule_len.result c.in_ok-found.found c.in_ok-refused.refused c.rule_len.ensures c.in_ok-refused.ensures) c.in_ok-found.ensures.comes.whole)))

pub returns-clause-put : goal.returns-clause-put
returns-clause-put g c =
    let script = script_behind_rules c.args.lines.now in
    let placed = placed_of_lines (script_texts c.args.lines.now) in
    let choice = g.N.PolicyChoice.chosen c.args.choice.now in
    report_put choice c.args.lines.now c.args.told.now.writer c.take_lines.new.told.writer c.end.new.told.writer (g.K.Sink.written c.args.sink.now) (g.K.Sink.written c.take_lines.new.sink) (g.K.Sink.written c.end.new.sink)
    c.in_ok-found.ensures.comes.put
    (c.in_ok-end.ensures.put script placed
    (whole_behind g.C.NodeController.seen choice (rule_count c.args.lines.now) (script_of_lines (script_texts c.args.lines.now)) placed c.in_ok-found.found c.in_ok-refused.refused c.take_lines.new.replay (behind_is c.args.lines.now c.rule_len.result c.in_ok-found.found c.in_ok-refused.refused c.rule_len.ensures c.in_ok-refused.ensures) c.in_ok-found.ensures.comes.whole))

pub returns-in_err-refused-clause-metered : goal.returns-in_err-refused-clause-metered
returns-in_err-refused-clause-metered g c = all_metered (g.N.PolicyChoice.chosen c.args.choice.now) c.args.meter.now c.take_lines.new.meter (script_behind_rules c.args.lines.now) c.in_ok-found.ensures.comes.meter_is

pub returns-in_err-end-clause-metered : goal.returns-in_err-end-clause-metered
returns-in_err-end-clause-metered g c = all_metered (g.N.PolicyChoice.chosen c.args.choice.now) c.args.meter.now c.take_lines.new.meter (script_behind_rules c.args.lines.now) c.in_ok-found.ensures.comes.meter_is

pub returns-clause-metered : goal.returns-clause-metered
returns-clause-metered g c = all_metered (g.N.PolicyChoice.chosen c.args.choice.now) c.args.meter.now c.take_lines.new.meter (script_behind_rules c.args.lines.now) c.in_ok-found.ensures.comes.meter_is
