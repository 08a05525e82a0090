use Rattle.commands.specs.declared.task.Task.TheVariants.{Document}
use Rattle.commands.proofs.Inputs.{document_complete, document_metered, still}
use Rattle.commands.proofs.networks.run_document.Goals as goal

pub returns-clause-complete : goal.returns-clause-complete
returns-clause-complete g c = λ input told.
    document_complete _ _ input c.in_ok-input.input.items c.as_slice.result.now c.in_ok-refused.refused told
    c.in_ok-input.ensures.octets c.in_ok-input.ensures.bound c.in_ok-input.ensures.whole c.as_slice.ensures.value c.in_ok-refused.ensures.refused c.ending_by.result c.ending_by.ensures

pub returns-in_err-input-clause-metered : goal.returns-in_err-input-clause-metered
returns-in_err-input-clause-metered g c = still Document _ c.args.meter.now

pub returns-in_err-refused-clause-metered : goal.returns-in_err-refused-clause-metered
returns-in_err-refused-clause-metered g c = λ input told.
    document_metered c.args.meter.now c.replay_document.new.meter _ _ input c.in_ok-input.input.items c.as_slice.result.now told
    c.in_ok-input.ensures.octets c.in_ok-input.ensures.bound c.in_ok-input.ensures.whole c.as_slice.ensures.value c.replay_document.ensures.metered

pub returns-clause-metered : goal.returns-clause-metered
returns-clause-metered g c = λ input told.
    document_metered c.args.meter.now c.replay_document.new.meter _ _ input c.in_ok-input.input.items c.as_slice.result.now told
    c.in_ok-input.ensures.octets c.in_ok-input.ensures.bound c.in_ok-input.ensures.whole c.as_slice.ensures.value c.replay_document.ensures.metered
