use Rattle.network_replay.specs.Lines.{says_by}
use Rattle.network_replay.proofs.Course.{can_take}
use Rattle.network_replay.proofs.Taking.{forms_are_read, has_counted, is_read}
use Rattle.network_replay.proofs.replay.Replay.line.Goals as goal

pub take-requires : goal.take-requires
take-requires g c = record {
  ready =
      can_take g.C.NodeController.seen (g.N.PolicyChoice.chosen c.args.choice.now) c.args.self.now c.read_by-read.new.state c.args.line.now (says_by c.args.form c.args.self.now.state c.args.line.now) c.read_by-read.result
      c.requires.going c.read_by-read.ensures.said (c.read_by-read.ensures.after c.requires.room) c.read_by-read.ensures.sayable;
}

pub returns-clause-along : goal.returns-clause-along
returns-clause-along g c = λ first start before lines along.
    c.take.ensures.along (says_by c.args.form) c.args.self.now.state first start before lines c.args.line.now (forms_are_read c.args.form) along
    (is_read (says_by c.args.form) c.args.self.now.state c.read_by-read.new.state c.args.line.now c.read_by-read.result c.read_by-read.ensures.said (c.read_by-read.ensures.after c.requires.room))

pub returns-clause-counted : goal.returns-clause-counted
returns-clause-counted g c = λ none.
    has_counted c.args.self.now.state c.read_by-read.new.state c.take.new.self.state c.args.line.now c.read_by-read.result (c.read_by-read.ensures.after c.requires.room) c.take.ensures.state (c.take.ensures.said none)

pub returns-clause-kept : goal.returns-clause-kept
returns-clause-kept g c = λ first start before lines along.
    c.take.ensures.kept (says_by c.args.form) c.args.self.now.state first start before lines c.args.line.now (forms_are_read c.args.form) along
    (is_read (says_by c.args.form) c.args.self.now.state c.read_by-read.new.state c.args.line.now c.read_by-read.result c.read_by-read.ensures.said (c.read_by-read.ensures.after c.requires.room))
