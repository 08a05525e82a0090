use Rattle.std.proofs.Common.{◌∙◌}
use Rattle.port_labels.specs.Book.{reclaimed}
use Rattle.port_labels.specs.Read.{label_of}
use Rattle.port_state.specs.port_session.Session.{reclaim_number}
use Rattle.port_hearing.proofs.Reclaims.{reclaimed_numbers}
use Rattle.port_hearing.proofs.reclaiming.reclaim_again.Goals as goal

pub returns-clause-numbers : goal.returns-clause-numbers
returns-clause-numbers g c =
    c.say_reclaim.ensures.numbers
    ∙ reclaimed_numbers c.args.state.now.port c.reclaim_again.new.self.port c.args.label.now.number (label_of c.args.label.now) (λ l s. record l { state = reclaimed (reclaim_number s) l.state }) c.requires.held c.reclaim_again.ensures.port
