use Rattle.std.proofs.Common.{◌≡◌, ◌∙◌, Some, ap, option_map, sym}
use Rattle.keyed_lists.specs.Keyed.{entered, key_le}
use Rattle.port_labels.specs.Book.{wiring}
use Rattle.port_model.specs.Labels.{label_number}
use Rattle.port_session.specs.Session.{Opened}
use Rattle.port_state.specs.Engine.{Engine, setup_of}
use Rattle.port_state.proofs.Labelled.{IsSameRange, of_some, wired_range}
use Rattle.port_state.proofs.state.PortState.take_label.Goals as goal

pub invariant_of-self-2 : goal.invariant_of-self-2
invariant_of-self-2 g c =
    let was : c.self.inside.session ≡ Some c.in-Some.session = sym c.replace.ensures.value ∙ c.in-Some.is in
    let range = of_some c.self.inside.session c.in-Some.session (λ s. (s.least ≡ c.self.inside.setup.least) × (s.greatest ≡ c.self.inside.setup.greatest)) was c.self.invariant.range in
    let window = of_some c.self.inside.session c.in-Some.session (λ s. s.window ≡ c.self.inside.setup.timers.window) was c.self.invariant.window in
    let instance = of_some c.self.inside.session c.in-Some.session (λ s. s.instance ≡ c.self.inside.adjacency.own.instance) was c.self.invariant.instance in
    let kept : IsSameRange c.in-Some.session c.in_ok-session.session = wired_range c.in-Some.session c.in_ok-session.session c.in_ok-session.number (λ n. entered (key_le label_number) (wiring n c.args.flow) c.in-Some.session.session.labels) c.in_ok-session.ensures.none c.in_ok-session.ensures.some in
    record {
      port = c.self.invariant.port;
      least = c.self.invariant.least;
      greatest = c.self.invariant.greatest;
      order = c.self.invariant.order;
      times = c.self.invariant.times;
      grants = c.self.invariant.grants;
      range = rw c.replace-2.ensures.after (kept.least ∙ range.0, kept.greatest ∙ range.1);
      window = rw c.replace-2.ensures.after (kept.window ∙ window);
      instance = rw c.replace-2.ensures.after (kept.instance ∙ instance);
    }

pub returns-clause-number : goal.returns-clause-number
returns-clause-number g c =
    let was : c.self.inside.session ≡ Some c.in-Some.session = sym c.replace.ensures.value ∙ c.in-Some.is in
    let range = of_some c.self.inside.session c.in-Some.session (λ s. (s.least ≡ c.self.inside.setup.least) × (s.greatest ≡ c.self.inside.setup.greatest)) was c.self.invariant.range in
    λ s e.
    let same : c.in-Some.session.session ≡ s = cc (sym (ap (option_map (λ (o : Opened). o.session)) was) ∙ ap (λ (x : Engine _). x.port.session) c.self.view_is ∙ e) in
    rw (← same) (c.in_ok-session.ensures.number (setup_of g.P.Policy.meaning c.args.self.now.fixed) (sym (range.0 ∙ ap (λ (x : Engine _). x.fixed.least) c.self.view_is)) (sym (range.1 ∙ ap (λ (x : Engine _). x.fixed.greatest) c.self.view_is)))
