-- a tick of a controller: the adjacency with its switch, the requests that stand, each port, and joins

use Rattle.std.proofs.Common.{◌≡◌, ℕ, ◌≤◌, ◌<◌, List, [], ◌∷◌, Option, None, Some, refl, sym, ◌∙◌, subst, arith, fold}
use Rattle.std.specs.Prelude.{◌^◌, ◌&&◌, flat_map}
use Rattle.std.specs.Option.{option_map}
use Rattle.law_arrival_views.specs.world_model.Words.{PortNo, End, Party, number_of_channel, best, FlowId, next_hop_of, flow_destination, same_flow, Answer, Quiet, Send, Open, Said, ticked, MoveBranch, at, Setup, home_of, Label, Grant, grant_label, grant_for, is_by_controller, ByController, label_at, Linked, linked_at, begins, at_port, port_by, join_through, join_by, join_for, may_join, enters_grant, enters_label, joins, tries_label, label_on, tries_join, inputs_at, tries_joins, sends_again, ticks_port, ticks_ports, ticks_by}
use Rattle.law_arrival_views.specs.world_model.adjacency_table.declared.message.Answer.TheVariants.{Reset}
use Rattle.law_arrival_views.specs.world_model.adjacency_table.Side as sides
use Rattle.law_label_steps.specs.ordered_lists.Ordered.{Every}
use Rattle.law_label_steps.specs.law_port_facts.Port.{IsLabelEnd, IsPort}
use Rattle.law_label_steps.proofs.law_port_facts.Keyed.{on_both, apart_at}
use Rattle.law_label_steps.proofs.law_port_facts.Found.{find_passes}
use Rattle.law_label_steps.proofs.law_port_facts.Rules.{and_first}
use Rattle.law_label_steps.proofs.law_port_facts.Instances.{goes_gave, joined_gave, lent_gave}
use Rattle.law_label_steps.proofs.law_port_facts.Hearings.{ticks_goes}
use Rattle.law_label_steps.specs.law_label_line.Cells.{Role}
use Rattle.law_arrival_views.specs.world_model.port_model.Port.{Port}
use Rattle.law_arrival_views.specs.world_model.port_model.Joins as port_joins
use Rattle.law_arrival_views.specs.world_model.port_model.Ticks as port_ticks
use Rattle.law_label_steps.specs.law_port_views.Link.{LinkLabel}
use Rattle.law_label_steps.proofs.law_port_views.Answering.{joined_leads, lent_leads}
use Rattle.law_arrival_views.specs.world_model.Controller.{Acted, ports_of}
use Rattle.law_arrival_views.specs.world_model.Joins.{Join, output_joined}
use Rattle.law_arrival_views.specs.world_model.Gsmp.{steps}
use Rattle.law_arrival_views.specs.world_model.Ticks.{ticks}
use Rattle.law_arrival_views.proofs.law_controller_facts.Moves.{ages, Found, HasPorts, found_at_own, found_port, moves_ports, further}
use Rattle.law_arrival_views.proofs.law_controller_facts.Laws.{has_ports}
use Rattle.law_arrival_views.proofs.law_controller_facts.Joining.{every_flat_map, each_there}
use Rattle.law_arrival_views.proofs.law_controller_facts.Entering.{by_controller, tries_join_goes, tries_joins_goes, inputs_of_port}
use Rattle.law_arrival_views.proofs.law_controller_facts.Events.{steps_goes, sends_again_goes, ticks_ports_goes}
use Rattle.law_arrival_views.proofs.law_controller_facts.Numbers.{moves_never_fall}
use Rattle.law_arrival_views.specs.law_controller_views.Ends.{EndLeads}
use Rattle.law_arrival_views.specs.law_controller_views.Lifted.{IsProper, IsLifted, Growing}
use Rattle.law_arrival_views.proofs.law_controller_views.Parts.{end_stays, end_then}
use Rattle.law_arrival_views.proofs.law_controller_views.AtPort.{at_port_leads}
use Rattle.law_arrival_views.proofs.law_controller_views.Growing.{at_port_grow}
use Rattle.law_arrival_views.specs.law_controller_views.Ready.{IsReady, FitsLink}
use Rattle.law_controller_lifts.proofs.Lifts.{joined_says, lent_says, ticks_lifted}
use Rattle.law_controller_lifts.proofs.Kept.{IsClosed, Goes}
use Rattle.law_controller_lifts.proofs.Unspent.{Unspent, unspent_closed}
use Rattle.law_controller_lifts.proofs.Ready.{Fits, fits_closed, Readies, readies_fold, moves_ready, ticks_ready, ticks_ports_ready}
use Rattle.law_controller_lifts.proofs.Follow.{IsFollowed, on_fold, steps_follow, sends_again_follow}
use Rattle.law_controller_lifts.proofs.Ways.{leads_followed, growing_followed, kept_followed, SameNode, node_followed, same_at_port}

-- *Joins*, for each way in which a controller follows another, where it follows what its ports enter
pub record Enters (R : Acted → Acted → Type 0) : Type 0 where
  pub grant : (a : Acted) (linked : Linked) (grant : Grant) (input : End) → linked_at a.controller linked.setup.port ≡ Some linked → at grant_label grant.label linked.port.grants ≡ Some grant → grant.state ≡ ByController
      → R a (at_port a linked.setup.port (λ setup desk w. port_joins.lent w grant input))
  pub label : (a : Acted) (q : PortNo) (number : ℕ) (output : End) → R a (at_port a q (λ setup desk w. port_joins.joined w number output))

module _ (setups : List Setup) (R : Acted → Acted → Type 0) (f : IsFollowed R) (e : Enters R) where
  joins_follow : (a : Acted) (input : End) (linked : Linked) (grant : Grant) → linked_at a.controller linked.setup.port ≡ Some linked → at grant_label grant.label linked.port.grants ≡ Some grant
      → grant.state ≡ ByController → R a (joins a (Some (record { input = input; port = linked.setup.port; grant = grant })))
  joins_follow a input linked grant found granted sending =
      let join : Join = record { input = input; port = linked.setup.port; grant = grant } in
      let lends : Acted = enters_grant a join in
      f.further a lends (joins a (Some join)) (e.grant a linked grant input found granted sending)
      (f.further lends (enters_label lends join) (joins a (Some join)) (e.label lends input.port (number_of_channel input.channel) (output_joined join))
      (f.asked (enters_label lends join) (MoveBranch input (home_of input) (output_joined join))))

  joins_for_follow : (a : Acted) (input : End) → HasPorts setups a → (o : Option PortNo) (next : Option FlowId) → R a (joins a (join_by a.controller input o next))
  joins_for_follow a input h None next = f.itself a
  joins_for_follow a input h (Some port) None = f.itself a
  joins_for_follow a input h (Some port) (Some next) = by_found (linked_at a.controller port) refl
    where
      by_grant : (linked : Linked) → linked_at a.controller port ≡ Some linked → (o : Option Grant) → grant_for linked.port.grants next ≡ o
          → R a (joins a (option_map (λ grant. record { input = input; port = linked.setup.port; grant = grant }) o))
      by_grant linked found None is = f.itself a
      by_grant linked found (Some grant) is =
          let passes = find_passes (λ (g : Grant). is_by_controller g.state && same_flow g.flow next) linked.port.grants grant is in
          joins_follow a input linked grant (found_at_own setups a linked port found)
          (apart_at grant_label (λ (g : Grant). is_by_controller g.state && same_flow g.flow next) linked.port.grants grant (found_port setups a linked port h found).apart is)
          (by_controller grant.state (and_first (is_by_controller grant.state) (same_flow grant.flow next) passes))

      by_found : (o : Option Linked) → linked_at a.controller port ≡ o → R a (joins a (join_through input next o))
      by_found None found = f.itself a
      by_found (Some linked) found = by_grant linked found (grant_for linked.port.grants next) refl

  tries_follow : (a : Acted) (input : End) (o : Option Label) → HasPorts setups a → R a (tries_label a input o)
  tries_follow a input None h = f.itself a
  tries_follow a input (Some label) h = on_both (R a) (may_join a.controller input label) (joins a (join_for a.controller input label.flow)) a
      (joins_for_follow a input h (port_by (best a.controller.table (flow_destination label.flow))) (next_hop_of label.flow)) (f.itself a)

  tries_each : (inputs : List End) → Every (IsLabelEnd setups) inputs → (a : Acted) → HasPorts setups a → R a (fold tries_join a inputs)
  tries_each [] ends a h = f.itself a
  tries_each (input ∷ inputs) ends a h = f.further a (tries_join a input) (fold tries_join (tries_join a input) inputs) (tries_follow a input (label_on a.controller input) h)
      (tries_each inputs ends.1 (tries_join a input) (moves_ports setups (tries_join_goes setups a input h ends.0) h))

  pub joins_all_follow : (a : Acted) → HasPorts setups a → R a (tries_joins a)
  joins_all_follow a h = tries_each (flat_map inputs_at a.controller.ports)
      (every_flat_map (λ (linked : Linked). Found setups a linked × IsPort setups linked.setup linked.port) (IsLabelEnd setups) inputs_at (λ linked p. inputs_of_port setups a linked h p.0 p.1) a.controller.ports (each_there setups a h)) a h

-- what is entered is moves of the line, frames made and numbers given out, and the node's own
module _ (link : LinkLabel) (proper : IsProper link) (like : Type 0) (role : Role) where
  lent_lifted : (a : Acted) (linked : Linked) (grant : Grant) (input : End) → linked_at a.controller linked.setup.port ≡ Some linked → at grant_label grant.label linked.port.grants ≡ Some grant
      → grant.state ≡ ByController → IsLifted link like role a linked.setup.port (λ setup desk w. port_joins.lent w grant input)
  lent_lifted a linked grant input found granted sending = record {
    drawn = λ other there. (let same = lent_gave a.numbers.instances (begins a other) grant input refl in omega (arith, same));
    reads = λ other there same. lent_says (link.address role) (begins a other) grant input tt;
    leads = λ other there same queued.
        (let is : other ≡ linked = cc (sym there ∙ found) in
        lent_leads link like queued role (begins a other) grant input (subst (λ (x : Linked). at grant_label grant.label x.port.grants ≡ Some grant) (sym is) granted) sending);
  }

  plain_joined : (a : Acted) (q : PortNo) (number : ℕ) (output : End) → IsLifted link like role a q (λ setup desk w. port_joins.joined w number output)
  plain_joined a q number output = record {
    drawn = λ linked found. (let same = joined_gave a.numbers.instances (begins a linked) number output refl in omega (arith, same));
    reads = λ linked found same. joined_says (link.address role) (begins a linked) (Some output) (label_at linked.port number) tt;
    leads = λ linked found same queued. joined_leads link like queued role (begins a linked) number output;
  }

  leads_enters : Enters (λ a b. EndLeads link like role a [] b [])
  leads_enters = record {
    grant = λ a linked grant input found granted sending. at_port_leads link proper like role a linked.setup.port (λ setup desk w. port_joins.lent w grant input) (lent_lifted a linked grant input found granted sending);
    label = λ a q number output. at_port_leads link proper like role a q (λ setup desk w. port_joins.joined w number output) (plain_joined a q number output);
  }

growing_enters : Enters Growing
growing_enters = record {
  grant = λ a linked grant input found granted sending. at_port_grow a linked.setup.port (λ setup desk w. port_joins.lent w grant input) (λ other there. (let same = lent_gave a.numbers.instances (begins a other) grant input refl in omega (arith, same)));
  label = λ a q number output. at_port_grow a q (λ setup desk w. port_joins.joined w number output) (λ linked found. (let same = joined_gave a.numbers.instances (begins a linked) number output refl in omega (arith, same)));
}

node_enters : Enters SameNode
node_enters = record {
  grant = λ a linked grant input found granted sending. same_at_port a linked.setup.port (λ setup desk w. port_joins.lent w grant input);
  label = λ a q number output. same_at_port a q (λ setup desk w. port_joins.joined w number output);
}

-- *The whole tick*, where ports follow
module _ (setups : List Setup) (R : Acted → Acted → Type 0) (f : IsFollowed R) (e : Enters R) (Fine : Acted → Type 0)
    (ports : (a : Acted) → Fine a → HasPorts setups a → R a (ticks_ports a)) (a : Acted) (h : HasPorts setups a)
    (fine : Fine (sends_again (steps a (ticked a.controller.adjacency)))) (ported : (b : Acted) → HasPorts setups b → HasPorts setups (ticks_ports b)) where
  ticks_on : R a (tries_joins (ticks_ports (sends_again (steps a (ticked a.controller.adjacency)))))
  ticks_on =
      let step : sides.Step Party = ticked a.controller.adjacency in
      let stepped : Acted = steps a step in
      let again : Acted = sends_again stepped in
      let k : HasPorts setups stepped = moves_ports setups (steps_goes setups a step ages h) h in
      let l : HasPorts setups again = moves_ports setups (sends_again_goes setups stepped k) k in
      f.further a stepped (tries_joins (ticks_ports again)) (steps_follow R f a step) (f.further stepped again (tries_joins (ticks_ports again)) (sends_again_follow R f stepped)
      (f.further again (ticks_ports again) (tries_joins (ticks_ports again)) (ports again fine l) (joins_all_follow setups R f e (ticks_ports again) (ported again l))))

  ticks_by_follow : (answer : Answer (Said Party) Party) → R a (ticks_by a (ticked a.controller.adjacency) answer)
  ticks_by_follow Quiet = ticks_on
  ticks_by_follow (Send message) = ticks_on
  ticks_by_follow (Open message own) = ticks_on
  ticks_by_follow Reset = f.resets a

  pub ticks_follow : R a (ticks a)
  ticks_follow = ticks_by_follow (ticked a.controller.adjacency).answer

module _ (setups : List Setup) where
  ported : (b : Acted) → HasPorts setups b → HasPorts setups (ticks_ports b)
  ported b k = moves_ports setups (ticks_ports_goes setups b k) k

  ticked_grows : (a : Acted) (q : PortNo) → Growing a (ticks_port a q)
  ticked_grows a q = at_port_grow a q port_ticks.ticks
      (λ linked found. (let same = goes_gave a.numbers.instances linked.setup a.controller.desk (begins a linked) (port_ticks.ticks linked.setup a.controller.desk (begins a linked)) (ticks_goes linked.setup a.controller.desk (begins a linked) refl) refl in omega (arith, same)))

  -- elsewhere frames are made, and the node is its own
  pub ticks_grow : (a : Acted) → HasPorts setups a → Growing a (ticks a)
  ticks_grow a h = ticks_follow setups Growing growing_followed growing_enters (λ b. Unit {0}) (λ b fine k. on_fold Growing growing_followed ticks_port ticked_grows (ports_of b.controller) b) a h tt ported

  pub ticks_node : (a : Acted) → HasPorts setups a → SameNode a (ticks a)
  ticks_node a h = ticks_follow setups SameNode node_followed node_enters (λ b. Unit {0}) (λ b fine k. on_fold SameNode node_followed ticks_port (λ c q. same_at_port c q port_ticks.ticks) (ports_of b.controller) b) a h tt ported

  -- *The line at an end*, where the controller is ready and the instances that the tick draws fit
  module _ (link : LinkLabel) (proper : IsProper link) (fit : FitsLink link) (like : Type 0) (role : Role) where
    ports_lead : (qs : List PortNo) (a : Acted) → IsReady setups a.controller → (fold ticks_port a qs).numbers.instances < 2 ^ 32 → EndLeads link like role a [] (fold ticks_port a qs) []
    ports_lead [] a ready f = end_stays link like role a []
    ports_lead (q ∷ qs) a ready f =
        let next : Acted = ticks_port a q in
        let rest : Readies setups next (fold ticks_port next qs) = readies_fold setups ticks_port (ticks_ready setups) qs next in
        end_then link like role a next (fold ticks_port next qs) [] [] [] (at_port_leads link proper like role a q port_ticks.ticks (ticks_lifted setups a ready link proper fit like role q))
        (ports_lead qs next ((ticks_ready setups a q).ready (omega (arith, f, rest.rises)) ready) f)

    record IsFine (a : Acted) : Type 0 where
      ready : IsReady setups a.controller
      fits : (ticks_ports a).numbers.instances < 2 ^ 32

    again_ready : (a : Acted) → IsReady setups a.controller → Readies setups a (sends_again (steps a (ticked a.controller.adjacency)))
    again_ready a ready =
        let step : sides.Step Party = ticked a.controller.adjacency in
        let stepped : Acted = steps a step in
        moves_ready setups a (sends_again stepped) (λ h. further (steps_goes setups a step ages h) (sends_again_goes setups stepped (moves_ports setups (steps_goes setups a step ages h) h)))
        (both_goes Unspent unspent_closed a step) (both_goes Fits fits_closed a step)
      where
        both_goes : (P : Setup → Port → Type 0) (closed : IsClosed P) (b : Acted) (step : sides.Step Party) → Goes P b (sends_again (steps b step))
        both_goes P closed b step = (kept_followed P closed).further b (steps b step) (sends_again (steps b step)) (steps_follow (Goes P) (kept_followed P closed) b step) (sends_again_follow (Goes P) (kept_followed P closed) (steps b step))

    pub ticks_lead : (a : Acted) → IsReady setups a.controller → (tries_joins (ticks_ports (sends_again (steps a (ticked a.controller.adjacency))))).numbers.instances < 2 ^ 32 → EndLeads link like role a [] (ticks a) []
    ticks_lead a ready f =
        let again : Acted = sends_again (steps a (ticked a.controller.adjacency)) in
        let h : HasPorts setups a = has_ports setups a ready.sound in
        let k : HasPorts setups (steps a (ticked a.controller.adjacency)) = moves_ports setups (steps_goes setups a (ticked a.controller.adjacency) ages h) h in
        let l : HasPorts setups again = moves_ports setups (sends_again_goes setups (steps a (ticked a.controller.adjacency)) k) k in
        let joining : (ticks_ports again).numbers.instances ≤ (tries_joins (ticks_ports again)).numbers.instances =
        (moves_never_fall setups (ticks_ports again) (tries_joins (ticks_ports again)) (tries_joins_goes setups (ticks_ports again) (ported again l))).instances in
        let ticking : again.numbers.instances ≤ (ticks_ports again).numbers.instances = (ticks_ports_ready setups again).rises in
        ticks_follow setups (λ x y. EndLeads link like role x [] y []) (leads_followed link proper like role) (leads_enters link proper like role) IsFine
        (λ b fine hb. ports_lead (ports_of b.controller) b fine.ready fine.fits) a h
        (record { ready = (again_ready a ready).ready (omega (arith, f, joining, ticking)) ready; fits = omega (arith, f, joining) }) ported
