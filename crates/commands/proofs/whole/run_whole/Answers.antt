use Rattle.commands.proofs.Inputs.{complete}
use Rattle.commands.proofs.whole.run_whole.Goals as goal

pub returns-in-Ok-clause-complete : goal.returns-in-Ok-clause-complete
returns-in-Ok-clause-complete g c = λ input told.
    complete c.args.whole _ _ input c.in_ok-input.input.items c.as_slice.result.now c.in_ok-report.report.is_refused told
    c.in_ok-input.ensures.octets c.in_ok-input.ensures.bound c.in_ok-input.ensures.whole c.as_slice.ensures.value c.in_ok-report.ensures.refused c.ending_by.result c.ending_by.ensures
