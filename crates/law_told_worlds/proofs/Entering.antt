-- the hop of each join that a tick enters, by what was so before it

use Rattle.world_model.specs.port_model.Ticks as port_ticks
use Rattle.std.proofs.Common.{◌≡◌, ℕ, Bool, true, false, List, Option, None, Some, refl, sym, ◌∙◌, subst, if◌then◌else◌, ap, length}
use Rattle.std.specs.Prelude.{◌&&◌, not, nat_lt, is_none}
use Rattle.std.specs.Option.{option_map, option_and_then}
use Rattle.world_model.specs.Words.{PortNo, End, number_of_channel, ticked, best, FlowId, next_hop_of, flow_destination, same_flow, on_input, most_asked, label_end, Label, Offered, label_number, Grant, is_by_controller, grant_for, label_at, labels_of, Linked, port_key, linked_at, begins, port_by, join_through, join_by, join_for, may_join, label_on, tries_join, is_offered, sends_again, ticks_port, Next, Local, Via, route_stays}
use Rattle.law_frame_readings.proofs.law_port_facts.Keyed.{at_key, at_every}
use Rattle.law_frame_readings.proofs.law_port_facts.Found.{find_passes}
use Rattle.law_frame_readings.proofs.law_port_facts.Rules.{and_first, and_second}
use Rattle.world_model.specs.Controller.{Acted, ports_of}
use Rattle.world_model.specs.Joins.{Join, output_joined}
use Rattle.law_port_words.specs.Words.{Terms, IsGranted, IsSteady, IsSteadily, Stands, StandsAs}
use Rattle.law_port_words.proofs.Rules.{ticks_v}
use Rattle.law_port_words.proofs.Sending.{found_h, fold_h}
use Rattle.law_port_words.proofs.Performing.{at_port_h}
use Rattle.world_model.specs.Gsmp.{steps}
use Rattle.world_model.specs.ipv4_forward.declared.table.Route.{Route}
use Rattle.law_frame_readings.proofs.law_controller_facts.Entering.{is_offered_by}
use Rattle.law_run_facts.proofs.law_controller_bindings.Flows.{one_flow}
use Rattle.law_lasting_joins.specs.law_quiet_controllers.Quiet.{Enters, here, later, entered, entered_for}
use Rattle.law_lasting_joins.specs.law_quiet_controllers.Law.{before_joins}
use Rattle.law_run_facts.proofs.law_actor_pace.Controllers.{tries_label_paces}
use Rattle.law_port_words.proofs.Joining.{grant_for_there, tries_label_h}
use Rattle.law_port_words.proofs.Events.{steps_h, again_h}
use Rattle.law_run_facts.proofs.law_controller.Ordering.{same_number}

-- *One hop*: an input's label that is held for a flow, the route of its destination, and a grant of the next hop's flow
pub record IsHop (t : Terms) (table : List Route) (input output : End) : Type 0 where
  pub flow : FlowId
  pub held : t.held input.port (number_of_channel input.channel) flow
  pub port : PortNo
  pub route : best table (flow_destination flow) ≡ Some (Via port)
  pub next : FlowId
  pub next_is : next_hop_of flow ≡ Some next
  pub label : ℕ
  pub granted : t.granted port label next
  pub is : output ≡ label_end port label

module _ (t : Terms) (speaks : (port : PortNo) (instance : ℕ) → t.own port instance → t.told port instance) where
  pub tried : (a : Acted) (input : End) → IsSteadily t a → IsSteadily t (tries_join a input)
  tried a input h = tries_label_h t speaks a input (label_on a.controller input) h

  -- *A tick*, before joins
  pub mid_steady : ((port : PortNo) (label : ℕ) (flow : FlowId) → t.held port label flow → t.offered port label flow) → (a : Acted) → IsSteadily t a → IsSteadily t (before_joins a)
  mid_steady offers a h =
      let again : Acted = sends_again (steps a (ticked a.controller.adjacency)) in
      fold_h t ticks_port (λ b port k. at_port_h t b port port_ticks.ticks (λ linked found v. ticks_v t linked.setup (speaks linked.setup.port) (offers linked.setup.port) b.controller.desk (begins b linked) v) k) (ports_of again.controller) again
      (again_h t (steps a (ticked a.controller.adjacency)) (steps_h t a (ticked a.controller.adjacency) h))

  -- *A join that is entered*
  held_there : (a : Acted) (input : End) (label : Label) → IsSteadily t a → label_on a.controller input ≡ Some label → label.state ≡ Offered → t.held input.port (number_of_channel input.channel) label.flow
  held_there a input label h on offered = by (linked_at a.controller input.port) refl on
    where
      by : (o : Option Linked) → linked_at a.controller input.port ≡ o → option_and_then (λ (linked : Linked). label_at linked.port (number_of_channel input.channel)) o ≡ Some label → t.held input.port (number_of_channel input.channel) label.flow
      by None found k = absurd (cc k)
      by (Some linked) found k =
          let steady : IsSteady t linked.setup linked.port = (found_h t a input.port linked found h).0 in
          let stands : StandsAs t linked.setup.port label.number label.flow label.state = at_every label_number (Stands t linked.setup.port) (number_of_channel input.channel) (labels_of linked.port) label steady.labels k in
          let here : t.held linked.setup.port label.number label.flow = subst (StandsAs t linked.setup.port label.number label.flow) offered stands in
          subst (λ (n : ℕ). t.held input.port n label.flow) (at_key label_number (number_of_channel input.channel) (labels_of linked.port) label k)
          (subst (λ (p : PortNo). t.held p label.number label.flow) (same_number linked.setup.port input.port (at_key port_key input.port.0 a.controller.ports linked found)) here)

  entered_hop : (a : Acted) (input : End) (join : Join) → IsSteadily t a → entered a.controller input ≡ Some join → IsHop t a.controller.table input (output_joined join)
  entered_hop a input join h e = by_label (label_on a.controller input) refl e
    where
      by_grant : (label : Label) → t.held input.port (number_of_channel input.channel) label.flow → (port : PortNo) → best a.controller.table (flow_destination label.flow) ≡ Some (Via port) → (next : FlowId) → next_hop_of label.flow ≡ Some next
          → (linked : Linked) → linked_at a.controller port ≡ Some linked → (g : Option Grant) → grant_for linked.port.grants next ≡ g → option_map (λ grant. record { input = input; port = linked.setup.port; grant = grant }) g ≡ Some join → IsHop t a.controller.table input (output_joined join)
      by_grant label held port route next next_is linked found None is k = absurd (cc k)
      by_grant label held port route next next_is linked found (Some grant) is k =
          let same_port : linked.setup.port ≡ port = same_number linked.setup.port port (at_key port_key port.0 a.controller.ports linked found) in
          let passes : (is_by_controller grant.state && same_flow grant.flow next) ≡ true = find_passes (λ (g : Grant). is_by_controller g.state && same_flow g.flow next) linked.port.grants grant is in
          let flow_is : grant.flow ≡ next = one_flow grant.flow next (and_second (is_by_controller grant.state) (same_flow grant.flow next) passes) in
          let granted : t.granted linked.setup.port grant.label grant.flow = grant_for_there (IsGranted t linked.setup.port) linked.port.grants next grant (found_h t a port linked found h).0.grants is in
          let made : Join = record { input = input; port = linked.setup.port; grant = grant } in
          let both : Some made ≡ Some join = k in
          let one : made ≡ join = cc in
          subst (λ (j : Join). IsHop t a.controller.table input (output_joined j)) one (record {
            flow = label.flow;
            held = held;
            port = linked.setup.port;
            route = route ∙ ap (λ (p : PortNo). Some (Via p)) (sym same_port);
            next = next;
            next_is = next_is;
            label = grant.label;
            granted = subst (t.granted linked.setup.port grant.label) flow_is granted;
            is = refl;
          })

      by_through : (label : Label) → t.held input.port (number_of_channel input.channel) label.flow → (port : PortNo) → best a.controller.table (flow_destination label.flow) ≡ Some (Via port) → (next : FlowId) → next_hop_of label.flow ≡ Some next
          → (o : Option Linked) → linked_at a.controller port ≡ o → join_through input next o ≡ Some join → IsHop t a.controller.table input (output_joined join)
      by_through label held port route next next_is None found k = absurd (cc k)
      by_through label held port route next next_is (Some linked) found k = by_grant label held port route next next_is linked found (grant_for linked.port.grants next) refl k

      by_next : (label : Label) → t.held input.port (number_of_channel input.channel) label.flow → (port : PortNo) → best a.controller.table (flow_destination label.flow) ≡ Some (Via port) → (o : Option FlowId) → next_hop_of label.flow ≡ o
          → join_by a.controller input (Some port) o ≡ Some join → IsHop t a.controller.table input (output_joined join)
      by_next label held port route None is k = absurd (cc k)
      by_next label held port route (Some next) is k = by_through label held port route next is (linked_at a.controller port) refl k

      by_route : (label : Label) → t.held input.port (number_of_channel input.channel) label.flow → (o : Option Next) → best a.controller.table (flow_destination label.flow) ≡ o → join_by a.controller input (port_by o) (next_hop_of label.flow) ≡ Some join
          → IsHop t a.controller.table input (output_joined join)
      by_route label held None is k = absurd (cc k)
      by_route label held (Some Local) is k = absurd (cc k)
      by_route label held (Some (Via port)) is k = by_next label held port is (next_hop_of label.flow) refl k

      by_label : (o : Option Label) → label_on a.controller input ≡ o → entered_for a.controller input o ≡ Some join → IsHop t a.controller.table input (output_joined join)
      by_label None on k = absurd (cc k)
      by_label (Some label) on k = by_test (may_join a.controller input label) refl k
        where
          by_test : (b : Bool) → may_join a.controller input label ≡ b → (if b then join_for a.controller input label.flow else None) ≡ Some join → IsHop t a.controller.table input (output_joined join)
          by_test true may l = by_route label (held_there a input label h on (is_offered_by label.state (and_first (is_offered label.state) (is_none label.join) (and_first (is_offered label.state && is_none label.join)
              (not (on_input a.controller.desk input) && (nat_lt (length a.controller.desk.standing) most_asked && route_stays a.controller (flow_destination label.flow))) may))))
              (best a.controller.table (flow_destination label.flow)) refl l
          by_test false may l = absurd (cc l)

  pub enters_hop : (input output : End) (inputs : List End) (a : Acted) → IsSteadily t a → Enters input output a inputs → IsHop t a.controller.table input output
  enters_hop input output _ a h (here _ inputs join e out) = subst (IsHop t a.controller.table input) out (entered_hop a input join h e)
  enters_hop input output _ a h (later _ other inputs rest) =
      subst (λ (table : List Route). IsHop t table input output) (tries_label_paces 0 a other (label_on a.controller other)).table (enters_hop input output inputs (tries_join a other) (tried a other h) rest)
