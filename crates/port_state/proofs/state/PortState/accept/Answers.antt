use Rattle.std.proofs.Common.{◌≡◌, ◌∙◌, false, ap, is_ok, sym, Some}
use Rattle.grant_table.specs.Table.{Table, acceptance_in, told}
use Rattle.port_model.specs.Grants.{acceptance_of}
use Rattle.port_state.specs.Engine.{Engine, setup_of}
use Rattle.port_state.proofs.Labelled.{accepted_range, refused_port, refused_table, same_acceptance}
use Rattle.port_state.proofs.state.PortState.accept.Goals as goal

pub invariant_of-self : goal.invariant_of-self
invariant_of-self g c = record {
  port = c.self.invariant.port;
  least = c.self.invariant.least;
  greatest = c.self.invariant.greatest;
  order = c.self.invariant.order;
  times = c.self.invariant.times;
  grants =
      let kept = accepted_range c.self.inside.grants c.args.flow c.args.lifetime (acceptance_in c.self.inside.grants c.args.label c.args.flow) in
      (ap (λ (t : Table). t.least) c.accept-accepted.ensures.grants ∙ kept.0 ∙ c.self.invariant.grants.0, ap (λ (t : Table). t.greatest) c.accept-accepted.ensures.grants ∙ kept.1 ∙ c.self.invariant.grants.1);
  range = c.self.invariant.range;
  window = c.self.invariant.window;
  instance = c.self.invariant.instance;
}

pub invariant_of-self-else-is_ok : goal.invariant_of-self-else-is_ok
invariant_of-self-else-is_ok g c = record {
  port = c.self.invariant.port;
  least = c.self.invariant.least;
  greatest = c.self.invariant.greatest;
  order = c.self.invariant.order;
  times = c.self.invariant.times;
  grants =
      let kept = accepted_range c.self.inside.grants c.args.flow c.args.lifetime (acceptance_in c.self.inside.grants c.args.label c.args.flow) in
      (ap (λ (t : Table). t.least) c.accept-accepted.ensures.grants ∙ kept.0 ∙ c.self.invariant.grants.0, ap (λ (t : Table). t.greatest) c.accept-accepted.ensures.grants ∙ kept.1 ∙ c.self.invariant.grants.1);
  range = c.self.invariant.range;
  window = c.self.invariant.window;
  instance = c.self.invariant.instance;
}

pub returns-else-is_ok-clause-port : goal.returns-else-is_ok-clause-port
returns-else-is_ok-clause-port g c = λ meaning.
    let no : is_ok (told (acceptance_in c.self.inside.grants c.args.label c.args.flow)) ≡ false = ap is_ok (sym c.accept-accepted.ensures.answer) ∙ (sym c.is_ok.ensures.value ∙ c.if-is_ok.false) in
    let left = ap (λ (t : Table). t.grants) (c.accept-accepted.ensures.grants ∙ refused_table c.self.inside.grants c.args.flow c.args.lifetime (acceptance_in c.self.inside.grants c.args.label c.args.flow) no) in
    let least = c.self.invariant.grants.0 ∙ ap (λ (e : Engine _). e.fixed.least) c.self.view_is in
    let greatest = c.self.invariant.grants.1 ∙ ap (λ (e : Engine _). e.fixed.greatest) c.self.view_is in
    let same = same_acceptance c.self.inside.grants (setup_of meaning c.args.self.now.fixed) c.args.flow c.args.label least greatest ∙ ap (λ (e : Engine _). acceptance_of (setup_of meaning c.args.self.now.fixed) e.port.grants c.args.flow (Some c.args.label)) c.self.view_is in
    rw left (ap (λ (e : Engine _). e.port) c.self.view_is ∙ sym (refused_port c.args.self.now.port c.args.flow c.args.lifetime (acceptance_of (setup_of meaning c.args.self.now.fixed) c.args.self.now.port.grants c.args.flow (Some c.args.label)) (rw same at no)))
