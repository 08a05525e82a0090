use Rattle.std.proofs.Common.{◌∙◌, false, List, subst, sym}
use Rattle.port_actions.specs.Outlook.{Foresees}
use Rattle.port_model.specs.declared.action.Action.{Action}
use Rattle.port_labels.specs.Read.{label_of}
use Rattle.port_model.specs.Labels.{Recalled}
use Rattle.port_state.specs.port_session.Session.{reclaim_number}
use Rattle.port_hearing.proofs.Reclaims.{reclaimed_numbers}
use Rattle.port_hearing.proofs.reclaiming.recall.Goals as goal

pub returns-in_err-say_reclaim-clause-numbers : goal.returns-in_err-say_reclaim-clause-numbers
returns-in_err-say_reclaim-clause-numbers g c =
    c.say_reclaim.ensures.numbers
    ∙ reclaimed_numbers c.args.state.now.port c.recall.new.self.port c.args.label.now.number (label_of c.args.label.now) (λ l s. record l { state = Recalled (reclaim_number s) false }) c.requires.held c.recall.ensures.port

pub returns-in_err-unjoin-clause-numbers : goal.returns-in_err-unjoin-clause-numbers
returns-in_err-unjoin-clause-numbers g c =
    c.say_reclaim.ensures.numbers
    ∙ reclaimed_numbers c.args.state.now.port c.recall.new.self.port c.args.label.now.number (label_of c.args.label.now) (λ l s. record l { state = Recalled (reclaim_number s) false }) c.requires.held c.recall.ensures.port

pub returns-clause-numbers : goal.returns-clause-numbers
returns-clause-numbers g c =
    c.say_reclaim.ensures.numbers
    ∙ reclaimed_numbers c.args.state.now.port c.recall.new.self.port c.args.label.now.number (label_of c.args.label.now) (λ l s. record l { state = Recalled (reclaim_number s) false }) c.requires.held c.recall.ensures.port

pub returns-clause-quiet : goal.returns-clause-quiet
returns-clause-quiet g c = λ o d unjoined h.
    subst (λ (actions : List Action). Foresees o d actions) (sym (c.unjoin.ensures.none unjoined)) (c.in_ok-say_reclaim.ensures.quiet o d h)
