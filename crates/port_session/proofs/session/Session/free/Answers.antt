use Rattle.std.proofs.Common.{◌≡◌, ◌≤◌, ◌∙◌, ap, is_some, true}
use Rattle.label_pool.specs.Tag.{Tag}
use Rattle.label_pool.specs.declared.label.Spare.{Spare}
use Rattle.keyed_lists.specs.Keyed.{at}
use Rattle.branch_desk.specs.port_model.Labels.{Wired, label_number}
use Rattle.port_session.proofs.Spares.{between, held_absent, held_in_state, tied_given_back}
use Rattle.port_session.proofs.session.Session.free.Goals as goal

pub put-requires : goal.put-requires
put-requires c =
    let number : c.free-spare.result.number ≡ c.args.label = ap (λ (l : Tag Spare). l.number) c.free-spare.ensures.label in
    let held : is_some (at label_number c.args.label c.self.inside.book.labels) ≡ true = held_in_state c.self.inside.book.labels c.args.label Wired (rw (← c.self.view_is) at c.requires.state) in
    record {
      own = record {
        instance = ap (λ (l : Tag Spare). l.instance) c.free-spare.ensures.label ∙ c.self.invariant.tied.instance;
        least = rw (number, ← c.self.invariant.tied.least) c.free-spare.ensures.range.0;
        greatest = rw (number, ← c.self.invariant.tied.greatest) c.free-spare.ensures.range.1;
      };
      absent = rw number (held_absent c.self.inside.pool c.self.inside.book c.args.label c.self.invariant.tied held);
    }

pub invariant_of-self : goal.invariant_of-self
invariant_of-self c =
    let number : c.free-spare.result.number ≡ c.args.label = ap (λ (l : Tag Spare). l.number) c.free-spare.ensures.label in
    let held : is_some (at label_number c.args.label c.self.inside.book.labels) ≡ true = held_in_state c.self.inside.book.labels c.args.label Wired (rw (← c.self.view_is) at c.requires.state) in
    let low : c.self.inside.pool.least ≤ c.args.label = rw (← c.self.invariant.tied.least) c.free-spare.ensures.range.0 in
    let high : c.args.label ≤ c.self.inside.pool.greatest = rw (← c.self.invariant.tied.greatest) c.free-spare.ensures.range.1 in
    let label = rw (c.number-number.ensures.number, number) at c.number-number.ensures.label in
    record {
      number = c.self.invariant.number;
      tied = rw (c.put.ensures, number, c.free-spare.ensures.book) (tied_given_back c.self.inside.pool c.self.inside.book c.args.label c.self.invariant.tied held (between c.self.inside.pool c.args.label label low high) low high);
    }
