-- desk and ports of a controller that stay as they are, are tied still

use Rattle.std.proofs.Common.{◌≡◌, List, Some, sym, ◌∙◌, ap, subst}
use Rattle.world_model.specs.Words.{Request, Desk, Standing, Label, Wiring, labels_of, Grant, Idle, Controller, Linked, port_key, linked_at, at}
use Rattle.law_live_journeys.specs.law_running_worlds.ordered_lists.Ordered.{Every}
use Rattle.law_live_journeys.proofs.law_running_worlds.law_port_facts.ordered_lists.Every.{every_map}
use Rattle.law_live_journeys.specs.law_live_bindings.Law.{label_branch, grant_branch}
use Rattle.law_live_ease.specs.Law.{IsTied, wires, starts, joins, IsAsked, AreTied}

module _ (c d : Controller) (desk : d.desk ≡ c.desk) (ports : d.ports ≡ c.ports) where
  there : (linked : Linked) → linked_at c linked.setup.port ≡ Some linked → linked_at d linked.setup.port ≡ Some linked
  there linked found = ap (λ (x : List Linked). at port_key linked.setup.port.0 x) ports ∙ found

  tied : (request : Request) → IsTied c request → IsTied d request
  tied request (wires linked label found held wiring) = wires linked label (there linked found) held wiring
  tied request (starts linked grant found held idle) = starts linked grant (there linked found) held idle
  tied request (joins input from to link) = joins input from to link

  pub tied_still : AreTied c → AreTied d
  tied_still t = record {
    standing = subst (λ (x : Desk). Every (λ (s : Standing). IsTied d s.request) x.standing) (sym desk)
        (every_map (λ (s : Standing). IsTied c s.request) (λ (s : Standing). IsTied d s.request) c.desk.standing (λ s is. tied s.request is) t.standing);
    wiring = subst (λ (x : Desk). Every (λ (linked : Linked). Every (λ (label : Label). label.state ≡ Wiring → IsAsked x (label_branch linked.setup label.number)) (labels_of linked.port)) d.ports) (sym desk)
        (subst (Every (λ (linked : Linked). Every (λ (label : Label). label.state ≡ Wiring → IsAsked c.desk (label_branch linked.setup label.number)) (labels_of linked.port))) (sym ports) t.wiring);
    idle = subst (λ (x : Desk). Every (λ (linked : Linked). Every (λ (grant : Grant). grant.state ≡ Idle → IsAsked x (grant_branch linked.setup grant.label)) linked.port.grants) d.ports) (sym desk)
        (subst (Every (λ (linked : Linked). Every (λ (grant : Grant). grant.state ≡ Idle → IsAsked c.desk (grant_branch linked.setup grant.label)) linked.port.grants)) (sym ports) t.idle);
  }
