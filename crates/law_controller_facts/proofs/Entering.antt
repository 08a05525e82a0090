-- joins are tried, and entered, by the moves of a controller

use Rattle.std.proofs.Common.{◌≡◌, ℕ, true, List, [], ◌∷◌, Option, None, Some, refl, sym, ◌∙◌, ap, subst, map}
use Rattle.std.specs.Prelude.{not, nat_lt, ◌&&◌, is_none, flat_map, length}
use Rattle.std.specs.Option.{option_map, option_and_then}
use Rattle.claims_model.specs.world_model.Words.{PortNo, End, number_of_channel, best, FlowId, next_hop_of, same_flow, flow_destination, MoveBranch, at, on_input, most_asked, Setup, home_of, label_end, Label, LabelState, Wiring, Offered, Recalled, Wired, label_number, Grant, GrantState, Idle, ByController, ByInput, Leaving, grant_label, grant_for, is_by_controller, label_at, labels_of, Controller, Linked, linked_at, begins, works, route_stays, port_by, join_through, join_by, join_for, is_offered, may_join, enters_grant, enters_label, joins, tries_label, label_on, tries_join, inputs_at, tries_joins}
use Rattle.law_port_facts.specs.ordered_lists.Ordered.{Every}
use Rattle.claims_model.specs.world_model.port_model.Joins as port_joins
use Rattle.law_port_facts.specs.Port.{IsLabelEnd, IsLabel, IsGrant, IsPort, joins_label}
use Rattle.law_port_facts.proofs.Keyed.{on_each, at_every, apart_at}
use Rattle.law_port_facts.proofs.Found.{find_passes}
use Rattle.law_port_facts.proofs.Rules.{and_first}
use Rattle.claims_model.specs.world_model.Controller.{Acted}
use Rattle.claims_model.specs.world_model.Joins.{Join, output_joined}
use Rattle.law_controller_facts.proofs.Moves.{by_joining, by_lending, Found, stays, HasPorts, found_setup, found_at_own, found_port, moves_fold, goes_on}
use Rattle.law_controller_facts.proofs.Performing.{To, asks_goes, at_port_goes}
use Rattle.law_controller_facts.proofs.Joining.{every_flat_map, labels_at, same_image, image_is, each_there}

pub is_offered_by : (state : LabelState) → is_offered state ≡ true → state ≡ Offered
is_offered_by Wiring e = absurd (cc e)
is_offered_by Offered e = refl
is_offered_by (Recalled last acknowledged) e = absurd (cc e)
is_offered_by Wired e = absurd (cc e)

pub by_controller : (state : GrantState) → is_by_controller state ≡ true → state ≡ ByController
by_controller Idle e = absurd (cc e)
by_controller ByController e = refl
by_controller (ByInput input) e = absurd (cc e)
by_controller (Leaving input owed) e = absurd (cc e)

-- a label on an input, by the labels of its port
pub record OnPort (ports : List Linked) (input : End) (label : Label) : Type 0 where
  pub labels : List Label
  pub there : labels_at ports input.port.0 ≡ Some labels
  pub found : at label_number (number_of_channel input.channel) labels ≡ Some label

pub on_port : (c : Controller) (input : End) (label : Label) → label_on c input ≡ Some label → OnPort c.ports input label
on_port c input label e = by_found (linked_at c input.port) refl e
  where
    by_found : (o : Option Linked) → linked_at c input.port ≡ o → option_and_then (λ (linked : Linked). label_at linked.port (number_of_channel input.channel)) o ≡ Some label → OnPort c.ports input label
    by_found None found e = absurd (cc e)
    by_found (Some linked) found e = record { labels = labels_of linked.port; there = ap (option_map (λ (x : Linked). labels_of x.port)) found; found = e }

module _ (setups : List Setup) where
  -- *A join* under a grant that is found for it
  pub record IsFor (a : Acted) (input : End) (join : Join) : Type 0 where
    pub linked : Linked
    pub grant : Grant
    pub own : Found setups a linked
    pub granted : at grant_label grant.label linked.port.grants ≡ Some grant
    pub sending : grant.state ≡ ByController
    pub is : join ≡ record { input = input; port = linked.setup.port; grant = grant }

  by_grant : (a : Acted) (input : End) (next : FlowId) (linked : Linked) → Found setups a linked → IsPort setups linked.setup linked.port → (o : Option Grant) → grant_for linked.port.grants next ≡ o
      → (join : Join) → option_map (λ grant. record { input = input; port = linked.setup.port; grant = grant }) o ≡ Some join → IsFor a input join
  by_grant a input next linked own port None found join e = absurd (cc e)
  by_grant a input next linked own port (Some grant) found join e =
      let passes = find_passes (λ (g : Grant). is_by_controller g.state && same_flow g.flow next) linked.port.grants grant found in
      record {
        linked = linked;
        grant = grant;
        own = own;
        granted = apart_at grant_label (λ (g : Grant). is_by_controller g.state && same_flow g.flow next) linked.port.grants grant port.apart found;
        sending = by_controller grant.state (and_first (is_by_controller grant.state) (same_flow grant.flow next) passes);
        is = cc;
      }

  by_port : (a : Acted) (input : End) (o : Option PortNo) (next : Option FlowId) → HasPorts setups a → (join : Join) → join_by a.controller input o next ≡ Some join → IsFor a input join
  by_port a input None next h join e = absurd (cc e)
  by_port a input (Some port) None h join e = absurd (cc e)
  by_port a input (Some port) (Some next) h join e = by_found (linked_at a.controller port) refl e
    where
      by_found : (o : Option Linked) → linked_at a.controller port ≡ o → join_through input next o ≡ Some join → IsFor a input join
      by_found None found e = absurd (cc e)
      by_found (Some linked) found e = by_grant a input next linked (found_at_own setups a linked port found) (found_port setups a linked port h found) (grant_for linked.port.grants next) refl join e

  pub found_for : (a : Acted) (input : End) (flow : FlowId) → HasPorts setups a → (join : Join) → join_for a.controller input flow ≡ Some join → IsFor a input join
  found_for a input flow h join e = by_port a input (port_by (best a.controller.table (flow_destination flow))) (next_hop_of flow) h join e

  -- a grant is lent, and every port has the labels that it had
  pub lends_labels : (a : Acted) (join : Join) (k : ℕ) → labels_at (enters_grant a join).controller.ports k ≡ labels_at a.controller.ports k
  lends_labels a join k = by_found (linked_at a.controller join.port) refl
    where
      by_found : (o : Option Linked) → linked_at a.controller join.port ≡ o → labels_at (works a (λ setup desk w. port_joins.lent w join.grant join.input) o).controller.ports k ≡ labels_at a.controller.ports k
      by_found None found = refl
      by_found (Some linked) found = same_image (λ (x : Linked). labels_of x.port) a.controller.ports linked (record linked { port = (port_joins.lent (begins a linked) join.grant join.input).port }) k
          (found_at_own setups a linked join.port found) refl refl

  -- the output of a grant of a port is one of its labels' channels
  pub granted_end : (a : Acted) (linked : Linked) (grant : Grant) → HasPorts setups a → Found setups a linked → at grant_label grant.label linked.port.grants ≡ Some grant → IsLabelEnd setups (label_end linked.setup.port grant.label)
  granted_end a linked grant h found granted = record {
    setup = linked.setup;
    number = grant.label;
    linked = found_setup setups a linked linked.setup.port h found;
    in_range = (at_every grant_label (IsGrant setups linked.setup) grant.label linked.port.grants grant (found_port setups a linked linked.setup.port h found).grants granted).in_range;
    is = refl;
  }

  -- a join of an offered label to a grant under which the controller sends
  joins_goes : (a : Acted) (input : End) (label : Label) (linked : Linked) (grant : Grant) → HasPorts setups a → IsLabelEnd setups input → label_on a.controller input ≡ Some label → label.state ≡ Offered
      → Found setups a linked → at grant_label grant.label linked.port.grants ≡ Some grant → grant.state ≡ ByController
      → To setups a (joins a (Some (record { input = input; port = linked.setup.port; grant = grant })))
  joins_goes a input label linked grant h end on offered found granted sending =
      let join : Join = record { input = input; port = linked.setup.port; grant = grant } in
      let output : IsLabelEnd setups (output_joined join) = granted_end a linked grant h found granted in
      let lends : Acted = enters_grant a join in
      let before : OnPort a.controller.ports input label = on_port a.controller input label on in
      goes_on setups h (at_port_goes setups a linked.setup.port (λ setup desk w. port_joins.lent w grant input) h
      (λ other there. (let both : Some other ≡ Some linked = sym there ∙ found in let same : other ≡ linked = cc in
      by_lending grant input (subst (λ (x : Linked). at grant_label grant.label x.port.grants ≡ Some grant) (sym same) granted) sending end)))
      (λ k. goes_on setups k (at_port_goes setups lends input.port (λ setup desk w. port_joins.joined w (number_of_channel input.channel) (output_joined join)) k
      (λ other there. by_joining (number_of_channel input.channel) (output_joined join) output
      (λ held held_is. (let labels : labels_of other.port ≡ before.labels = image_is (λ (x : Linked). labels_of x.port) (linked_at lends.controller input.port) other before.labels (lends_labels a join input.port.0 ∙ before.there) there in
      let both : Some held ≡ Some label = sym held_is ∙ ap (at label_number (number_of_channel input.channel)) labels ∙ before.found in
      let same : held ≡ label = cc in
      subst (λ (x : Label). x.state ≡ Offered) (sym same) offered))))
      (λ l. asks_goes setups (enters_label lends join) (MoveBranch input (home_of input) (output_joined join)) l (joins_label input (output_joined join) end output)))

  joins_for_goes : (a : Acted) (input : End) (label : Label) → HasPorts setups a → IsLabelEnd setups input → label_on a.controller input ≡ Some label → label.state ≡ Offered
      → To setups a (joins a (join_for a.controller input label.flow))
  joins_for_goes a input label h end on offered = by (join_for a.controller input label.flow) refl
    where
      by : (o : Option Join) → join_for a.controller input label.flow ≡ o → To setups a (joins a o)
      by None found = stays a
      by (Some join) found =
          let f : IsFor a input join = found_for a input label.flow h join found in
          subst (λ (x : Join). To setups a (joins a (Some x))) (sym f.is) (joins_goes a input label f.linked f.grant h end on offered f.own f.granted f.sending)

  tries_label_goes : (a : Acted) (input : End) (o : Option Label) → HasPorts setups a → IsLabelEnd setups input → label_on a.controller input ≡ o → To setups a (tries_label a input o)
  tries_label_goes a input None h end on = stays a
  tries_label_goes a input (Some label) h end on = on_each (To setups a) (may_join a.controller input label) (joins a (join_for a.controller input label.flow)) a
      (λ may. joins_for_goes a input label h end on (is_offered_by label.state (and_first (is_offered label.state) (is_none label.join) (and_first (is_offered label.state && is_none label.join)
      (not (on_input a.controller.desk input) && (nat_lt (length a.controller.desk.standing) most_asked && route_stays a.controller (flow_destination label.flow))) may))))
      (λ t. stays a)

  pub tries_join_goes : (a : Acted) (input : End) → HasPorts setups a → IsLabelEnd setups input → To setups a (tries_join a input)
  tries_join_goes a input h end = tries_label_goes a input (label_on a.controller input) h end refl

  pub inputs_of_port : (a : Acted) (linked : Linked) → HasPorts setups a → Found setups a linked → IsPort setups linked.setup linked.port → Every (IsLabelEnd setups) (inputs_at linked)
  inputs_of_port a linked h found fits = by_labels (labels_of linked.port) fits.labels
    where
      by_labels : (labels : List Label) → Every (IsLabel setups linked.setup) labels → Every (IsLabelEnd setups) (map (λ (label : Label). label_end linked.setup.port label.number) labels)
      by_labels [] e = tt
      by_labels (label ∷ labels) e = (record { setup = linked.setup; number = label.number; linked = found_setup setups a linked linked.setup.port h found; in_range = e.0.in_range; is = refl }, by_labels labels e.1)

  pub tries_joins_goes : (a : Acted) → HasPorts setups a → To setups a (tries_joins a)
  tries_joins_goes a h = moves_fold setups (IsLabelEnd setups) tries_join (λ b input k end. tries_join_goes b input k end) (flat_map inputs_at a.controller.ports)
      (every_flat_map (λ (linked : Linked). Found setups a linked × IsPort setups linked.setup linked.port) (IsLabelEnd setups) inputs_at (λ linked p. inputs_of_port a linked h p.0 p.1) a.controller.ports (each_there setups a h)) a h
