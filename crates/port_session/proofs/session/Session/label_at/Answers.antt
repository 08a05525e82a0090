use Rattle.port_session.proofs.Changed.{read_number}
use Rattle.port_session.proofs.session.Session.label_at.Goals as goal

pub returns-clause-number : goal.returns-clause-number
returns-clause-number c = read_number c.self.inside.book.labels c.args.label c.get.result c.get.ensures.label
