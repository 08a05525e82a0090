use Rattle.std.proofs.Common.{sym}
use Rattle.port_labels.specs.Read.{label_of}
use Rattle.port_model.specs.Port.{label_at}
use Rattle.port_saying.proofs.Sessions.{quit_numbers}
use Rattle.port_saying.proofs.quitting.quit.Goals as goal

pub returns-in_err-push-clause-numbers : goal.returns-in_err-push-clause-numbers
returns-in_err-push-clause-numbers g c =
    quit_numbers c.args.state.now.port c.quit.new.self.port (label_at c.args.state.now.port c.args.label) (label_of c.in-Some.held) c.quit.result (sym c.in-Some.ensures.label) c.quit.ensures.port

pub returns-clause-numbers : goal.returns-clause-numbers
returns-clause-numbers g c =
    quit_numbers c.args.state.now.port c.quit.new.self.port (label_at c.args.state.now.port c.args.label) (label_of c.in-Some.held) c.quit.result (sym c.in-Some.ensures.label) c.quit.ensures.port
