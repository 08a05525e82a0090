-- what an answer leaves of grants, by what was so before it

use Rattle.std.proofs.Common.{◌≡◌, ℕ, Option, None, Some, refl, ap, subst}
use Rattle.std.specs.Option.{option_and_then}
use Rattle.world_model.specs.Words.{PortNo, End, FlowId, flow_destination, Request, at, Grant, grant_label, Linked, port_key, linked_at, releases, causes, clears}
use Rattle.world_model.specs.port_model.Grants as grants
use Rattle.law_frame_readings.proofs.law_port_facts.Keyed.{at_every, at_key}
use Rattle.world_model.specs.Controller.{Acted, ports_of}
use Rattle.law_run_facts.specs.law_controller.Match.{lent_in, lent_at}
use Rattle.law_run_facts.proofs.law_controller.Ordering.{same_number}
use Rattle.law_port_words.specs.Words.{Terms, IsGranted, IsSteady, IsSteadily}
use Rattle.law_port_words.proofs.Sending.{found_h}
use Rattle.law_port_words.proofs.Joining.{releases_h, clears_h}
use Rattle.law_port_words.proofs.Events.{later_h, caused_h}
use Rattle.law_told_worlds.proofs.Routing.{IsLent}

abbrev pub any : PortNo → ℕ → Type 0
any port instance = Unit {0}

module _ (t : Terms) (speaks : (port : PortNo) (instance : ℕ) → t.own port instance → t.told port instance)
    (holds : (port : PortNo) (label : ℕ) (flow : FlowId) → t.wired port label flow → t.held port label flow)
    (binds : (port : PortNo) (label : ℕ) (flow : FlowId) → t.wired port label flow → t.bindable port label flow) where
  pub answered_h : (a : Acted) (request : Request) → IsSteadily t a → IsSteadily (record t { own = any }) (clears (causes (releases a request) request))
  answered_h a request h =
      let caused : Acted = causes (releases a request) request in
      clears_h (record t { own = any }) (ports_of caused.controller) caused (λ b port linked on found may. tt)
      (later_h t speaks holds binds any (λ port instance own. tt) caused (caused_h t speaks holds binds any (λ port instance own. tt) (releases a request) request (releases_h t speaks a request h)))

-- *A grant that is lent*, and of one flow alone
pub lent_flow : (t : Terms) (a : Acted) (port : PortNo) (m : ℕ) (input : End) (flow : FlowId) → IsSteadily t a → ((other : FlowId) → t.granted port m other → other ≡ flow)
    → lent_at a.controller.ports port.0 m ≡ Some input → IsLent a.controller.ports port.0 m (flow_destination flow)
lent_flow t a port m input flow h one lent = by (linked_at a.controller port) refl lent
  where
    by_grant : (linked : Linked) → linked_at a.controller port ≡ Some linked → (o : Option Grant) → at grant_label m linked.port.grants ≡ o → option_and_then (λ (g : Grant). grants.lent_input g.state) o ≡ Some input
        → IsLent a.controller.ports port.0 m (flow_destination flow)
    by_grant linked found None is k = absurd (cc k)
    by_grant linked found (Some grant) is k =
        let steady : IsSteady t linked.setup linked.port = (found_h t a port linked found h).0 in
        let granted : t.granted linked.setup.port grant.label grant.flow = at_every grant_label (IsGranted t linked.setup.port) m linked.port.grants grant steady.grants is in
        let there : t.granted port grant.label grant.flow = subst (λ (p : PortNo). t.granted p grant.label grant.flow) (same_number linked.setup.port port (at_key port_key port.0 a.controller.ports linked found)) granted in
        let here : t.granted port m grant.flow = subst (λ (n : ℕ). t.granted port n grant.flow) (at_key grant_label m linked.port.grants grant is) there in
        record { linked = linked; found = found; grant = grant; granted = is; input = input; lent = k; is = ap flow_destination (one grant.flow here) }

    by : (o : Option Linked) → linked_at a.controller port ≡ o → option_and_then (λ (linked : Linked). lent_in linked.port.grants m) o ≡ Some input → IsLent a.controller.ports port.0 m (flow_destination flow)
    by None found k = absurd (cc k)
    by (Some linked) found k = by_grant linked found (at grant_label m linked.port.grants) refl k
