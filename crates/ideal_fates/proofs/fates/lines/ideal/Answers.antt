use Rattle.std.proofs.Common.{◌++◌, ◌∙◌, is_some, ap}
use Rattle.lab_text.specs.Lines.{lines_of}
use Rattle.script_model.specs.Reading.{line_says}
use Rattle.script_model.specs.Script.{Script, script_from}
use Rattle.script_model.specs.State.{ScriptState}
use Rattle.ideal_fates.specs.Told.{rest_of}
use Rattle.ideal_fates.proofs.Reading.{whole_said, whole_told}
use Rattle.ideal_fates.proofs.fates.lines.ideal.Goals as goal

pub returns-clause-report : goal.returns-clause-report
returns-clause-report c =
    let octets = c.args.octets.now in
    c.into_octets.ensures
    ∙ (c.in_ok-write_last.ensures
    ∙ (c.in_ok-refused.ensures.report
    ∙ ((λ i. c.new-out.ensures i ++ rest_of (c.new-fates.ensures i) (script_from line_says (c.in_ok-state.ensures i) (lines_of octets)))
    ∙ whole_told octets c.requires)))

pub returns-clause-refused : goal.returns-clause-refused
returns-clause-refused c =
    let octets = c.args.octets.now in
    c.is_some-is_refused.ensures
    ∙ ap is_some
    (c.in_ok-refused.ensures.refused
    ∙ (ap (λ (s : ScriptState). (script_from line_says s (lines_of octets)).refused) c.in_ok-state.ensures
    ∙ ap (λ (s : Script). s.refused) (whole_said octets c.requires)))
