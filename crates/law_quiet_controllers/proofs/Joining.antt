-- releases, changes of routes and joins are quiet, where the joins that are entered may be

use Rattle.std.proofs.Common.{◌≡◌, ℕ, ◌<◌, Bool, true, false, List, [], ◌∷◌, ◌++◌, length, Option, None, Some, refl, sym, ◌∙◌, ap, subst, fold, if◌then◌else◌}
use Rattle.std.specs.Prelude.{◌&&◌, not, nat_lt, is_none, flat_map}
use Rattle.std.specs.Option.{option_map}
use Rattle.law_controller_facts.specs.world_model.Words.{End, PortNo, number_of_channel, Cell, best, RouteChange, FlowId, next_hop_of, same_flow, flow_destination, Request, MoveBranch, same_end, Frame, Part, at, on_input, most_asked, Setup, home_of, label_end, Label, Offered, label_number, Grant, ByController, grant_label, grant_for, is_by_controller, labels_of, halts_if_spent, Linked, linked_at, route_stays, joins_of, join_of, parts, releases_join, releases_input, released_inputs, resets_spent, releases, join_through, join_by, port_by, join_for, is_offered, may_join, enters_grant, enters_label, joins, tries_label, label_on, tries_join, inputs_at, tries_joins, is_changed, changed_joins, takes_join_back, begins_change, takes_change, may_take, takes_each, takes_changes, change_comes}
use Rattle.law_controller_facts.specs.ordered_lists.Ordered.{Every}
use Rattle.law_controller_facts.proofs.ordered_lists.Every.{every_map}
use Rattle.law_controller_facts.specs.world_model.port_model.Joins as port_joins
use Rattle.law_controller_facts.specs.law_port_facts.Port.{IsLabelEnd, parts_label, joins_label}
use Rattle.law_controller_facts.proofs.law_port_facts.Keyed.{on_both, apart_at}
use Rattle.law_controller_facts.proofs.law_port_facts.Found.{find_every, find_passes}
use Rattle.law_controller_facts.proofs.law_port_facts.Rules.{and_first}
use Rattle.law_controller_facts.specs.world_model.Controller.{Acted, ports_of, note}
use Rattle.law_controller_facts.specs.world_model.Joins.{Join, output_joined}
use Rattle.law_controller_facts.proofs.Moves.{HasPorts, Found, by_closing, by_parting, by_giving_back, by_joining, by_lending, found_at_own, found_port}
use Rattle.law_controller_facts.proofs.Joining.{every_flat_map, every_filter, IsJoin, joins_are, join_input, join_output, each_there, granted_there, parts_grants, AnyEnd, any_ends, image_is}
use Rattle.law_controller_facts.proofs.Performing.{Any, any_ports}
use Rattle.law_controller_facts.proofs.Entering.{granted_end, OnPort, on_port, lends_labels, is_offered_by, by_controller, inputs_of_port}
use Rattle.law_quiet_controllers.specs.Quiet.{May, Enters, here, later, entered, entered_for}
use Rattle.law_quiet_controllers.proofs.Sending.{Holds, On, ports_of_quiet, same_on}
use Rattle.law_quiet_controllers.proofs.Asking.{quiet_fold, asks_on, takes_back_on, at_port_on}

module _ (setups : List Setup) (Allowed : End → End → Type 0) (controls : ℕ) (frames : List Frame) (queue : List Cell) where
  abbrev Still : Acted → Type 0
  Still a = Holds setups Allowed controls frames queue a

  abbrev Goes : Acted → Acted → Type 0
  Goes a b = On setups Allowed controls frames queue a b

  abbrev ports_in : (a : Acted) → Still a → HasPorts setups a
  ports_in = ports_of_quiet setups Allowed controls frames queue

  same : (a b : Acted) → b.controller.desk ≡ a.controller.desk → b.controller.queue ≡ a.controller.queue → b.notes.frames ≡ a.notes.frames → b.numbers.controls ≡ a.numbers.controls → HasPorts setups b → Goes a b
  same = same_on setups Allowed controls frames queue

  -- *Changes of routes*
  abbrev HasEnds : Join → Type 0
  HasEnds join = IsLabelEnd setups join.input × IsLabelEnd setups (output_joined join)

  begins_on : (a : Acted) (change : RouteChange) → Goes a (begins_change a change)
  begins_on a change h =
      let begun : Acted = record a { controller = record a.controller { is_begun = true } } in
      on_both Still a.controller.is_begun a (fold takes_join_back begun (changed_joins a.controller change)) h
      (quiet_fold setups Allowed controls frames queue HasEnds takes_join_back
      (λ b join ends. takes_back_on setups Allowed controls frames queue b join.input (output_joined join) (parts_label join.input (output_joined join) ends.0 ends.1)) (changed_joins a.controller change)
      (every_filter HasEnds (is_changed a.controller.table change) (joins_of a.controller)
      (every_map (IsJoin setups a) HasEnds (joins_of a.controller) (λ join is. (join_input setups a join (ports_in a h) is, join_output setups a join (ports_in a h) is)) (joins_are setups a (ports_in a h)))) begun
      (same a begun refl refl refl refl (record { ports = h.ports; shaped = h.shaped }) h))

  takes_on : (a : Acted) (change : RouteChange) (rest : List RouteChange) → Goes a (takes_change a change rest)
  takes_on a change rest h = same a (takes_change a change rest) refl refl refl refl (record { ports = h.ports; shaped = h.shaped }) h

  each_on : (changes : List RouteChange) (a : Acted) → Goes a (takes_each a changes)
  each_on [] a h = h
  each_on (change ∷ rest) a h =
      let begun : Acted = begins_change a change in
      let k : Still begun = begins_on a change h in
      on_both Still (may_take begun.controller change) (takes_each (takes_change begun change rest) rest) begun (each_on rest (takes_change begun change rest) (takes_on begun change rest k)) k

  pub changes_on : (a : Acted) → Goes a (takes_changes a)
  changes_on a h = on_both Still a.controller.has_met (takes_each a a.controller.waiting) a (each_on a.controller.waiting a h) h

  pub change_comes_on : (a : Acted) (change : RouteChange) → Goes a (change_comes a change)
  change_comes_on a change h =
      let waits : Acted = record a { controller = record a.controller { waiting = a.controller.waiting ++ change ∷ [] } } in
      changes_on waits (same a waits refl refl refl refl (record { ports = h.ports; shaped = h.shaped }) h)

  -- *Releases*
  parts_on : (a : Acted) (input : End) → Goes a (parts a input)
  parts_on a input h =
      let noted : Acted = note a (Part a.controller.node input.port (number_of_channel input.channel)) in
      at_port_on setups Allowed controls frames queue noted input.port (λ setup desk w. port_joins.parted w (number_of_channel input.channel)) (λ k linked found. by_parting (number_of_channel input.channel))
      (same a noted refl refl refl refl (record { ports = h.ports; shaped = h.shaped }) h)

  releases_join_on : (a : Acted) (o : Option Join) → (Still a → (join : Join) → o ≡ Some join → IsJoin setups a join) → Goes a (releases_join a o)
  releases_join_on a None is h = h
  releases_join_on a (Some join) is h = at_port_on setups Allowed controls frames queue (parts a join.input) join.port (λ setup desk w. port_joins.given_back w join.grant)
      (λ k linked found. by_giving_back join.grant (granted_there setups a (parts a join.input) join linked (is h join refl) (parts_grants setups a join.input join.port.0 (ports_in a h)) found))
      (parts_on a join.input h)

  releases_input_on : (a : Acted) (input : End) → Goes a (releases_input a input)
  releases_input_on a input h = releases_join_on a (join_of a.controller input)
      (λ k join e. find_every (IsJoin setups a) (λ (join : Join). same_end join.input input) (joins_of a.controller) join (joins_are setups a (ports_in a k)) e) h

  pub releases_on : (a : Acted) (request : Request) → Goes a (releases a request)
  releases_on a request h =
      let released : Acted = fold releases_input a (released_inputs a.controller request) in
      quiet_fold setups Allowed controls frames queue (Any setups) resets_spent
      (λ b port any. at_port_on setups Allowed controls frames queue b port (λ setup desk w. halts_if_spent w) (λ k linked found. by_closing)) (ports_of released.controller) (any_ports setups (ports_of released.controller)) released
      (quiet_fold setups Allowed controls frames queue (AnyEnd setups) releases_input (λ b input any. releases_input_on b input) (released_inputs a.controller request) (any_ends setups (released_inputs a.controller request)) a h)

  -- *Joins*, of an offered label to a grant under which the controller sends
  joins_on : (a : Acted) (input : End) (label : Label) (linked : Linked) (grant : Grant) → IsLabelEnd setups input → label_on a.controller input ≡ Some label → label.state ≡ Offered
      → Found setups a linked → at grant_label grant.label linked.port.grants ≡ Some grant → grant.state ≡ ByController
      → May Allowed (MoveBranch input (home_of input) (label_end linked.setup.port grant.label))
      → Goes a (joins a (Some (record { input = input; port = linked.setup.port; grant = grant })))
  joins_on a input label linked grant end on offered found granted sending may h =
      let join : Join = record { input = input; port = linked.setup.port; grant = grant } in
      let output : IsLabelEnd setups (output_joined join) = granted_end setups a linked grant (ports_in a h) found granted in
      let lends : Acted = enters_grant a join in
      let before : OnPort a.controller.ports input label = on_port a.controller input label on in
      asks_on setups Allowed controls frames queue (enters_label lends join) (MoveBranch input (home_of input) (output_joined join)) (joins_label input (output_joined join) end output) may
      (at_port_on setups Allowed controls frames queue lends input.port (λ setup desk w. port_joins.joined w (number_of_channel input.channel) (output_joined join))
      (λ k other there. by_joining (number_of_channel input.channel) (output_joined join) output
      (λ held held_is. (let labels : labels_of other.port ≡ before.labels = image_is (λ (x : Linked). labels_of x.port) (linked_at lends.controller input.port) other before.labels (lends_labels setups a join input.port.0 ∙ before.there) there in
      let both : Some held ≡ Some label = sym held_is ∙ ap (at label_number (number_of_channel input.channel)) labels ∙ before.found in
      let is : held ≡ label = cc in
      subst (λ (x : Label). x.state ≡ Offered) (sym is) offered)))
      (at_port_on setups Allowed controls frames queue a linked.setup.port (λ setup desk w. port_joins.lent w grant input)
      (λ k other there. (let both : Some other ≡ Some linked = sym there ∙ found in let is : other ≡ linked = cc in
      by_lending grant input (subst (λ (x : Linked). at grant_label grant.label x.port.grants ≡ Some grant) (sym is) granted) sending end)) h))

  joins_by_on : (a : Acted) (input : End) (label : Label) → IsLabelEnd setups input → label_on a.controller input ≡ Some label → label.state ≡ Offered
      → (o : Option PortNo) (next : Option FlowId) → ((join : Join) → join_by a.controller input o next ≡ Some join → May Allowed (MoveBranch join.input (home_of join.input) (output_joined join))) → Goes a (joins a (join_by a.controller input o next))
  joins_by_on a input label end on offered None next may h = h
  joins_by_on a input label end on offered (Some port) None may h = h
  joins_by_on a input label end on offered (Some port) (Some next) may h = by_found (linked_at a.controller port) refl may
    where
      by_grant : (linked : Linked) → linked_at a.controller port ≡ Some linked → (o : Option Grant) → grant_for linked.port.grants next ≡ o
          → ((join : Join) → option_map (λ grant. record { input = input; port = linked.setup.port; grant = grant }) o ≡ Some join → May Allowed (MoveBranch join.input (home_of join.input) (output_joined join)))
          → Still (joins a (option_map (λ grant. record { input = input; port = linked.setup.port; grant = grant }) o))
      by_grant linked found None is can = h
      by_grant linked found (Some grant) is can =
          let passes = find_passes (λ (g : Grant). is_by_controller g.state && same_flow g.flow next) linked.port.grants grant is in
          joins_on a input label linked grant end on offered (found_at_own setups a linked port found)
          (apart_at grant_label (λ (g : Grant). is_by_controller g.state && same_flow g.flow next) linked.port.grants grant (found_port setups a linked port (ports_in a h) found).apart is)
          (by_controller grant.state (and_first (is_by_controller grant.state) (same_flow grant.flow next) passes))
          (can (record { input = input; port = linked.setup.port; grant = grant }) refl) h

      by_found : (o : Option Linked) → linked_at a.controller port ≡ o → ((join : Join) → join_through input next o ≡ Some join → May Allowed (MoveBranch join.input (home_of join.input) (output_joined join))) → Still (joins a (join_through input next o))
      by_found None found can = h
      by_found (Some linked) found can = by_grant linked found (grant_for linked.port.grants next) refl can

  tries_label_on : (a : Acted) (input : End) (o : Option Label) → IsLabelEnd setups input → label_on a.controller input ≡ o
      → ((join : Join) → entered_for a.controller input o ≡ Some join → May Allowed (MoveBranch join.input (home_of join.input) (output_joined join))) → Goes a (tries_label a input o)
  tries_label_on a input None end on may h = h
  tries_label_on a input (Some label) end on may h = by (may_join a.controller input label) refl may
    where
      by : (t : Bool) → may_join a.controller input label ≡ t
          → ((join : Join) → (if t then join_for a.controller input label.flow else None) ≡ Some join → May Allowed (MoveBranch join.input (home_of join.input) (output_joined join)))
          → Still (if t then joins a (join_for a.controller input label.flow) else a)
      by true is can = joins_by_on a input label end on (is_offered_by label.state (and_first (is_offered label.state) (is_none label.join) (and_first (is_offered label.state && is_none label.join)
          (not (on_input a.controller.desk input) && (nat_lt (length a.controller.desk.standing) most_asked && route_stays a.controller (flow_destination label.flow))) is)))
          (port_by (best a.controller.table (flow_destination label.flow))) (next_hop_of label.flow) can h
      by false is can = h

  -- *Each input in turn*
  abbrev pub Fits : Acted → List End → Type 0
  Fits a inputs = (input output : End) → 0 < input.port.0 → 0 < output.port.0 → Enters input output a inputs → Allowed input output

  first_may : (a : Acted) (input : End) (inputs : List End) → Fits a (input ∷ inputs) → (join : Join) → entered a.controller input ≡ Some join → join.input ≡ input → May Allowed (MoveBranch join.input (home_of join.input) (output_joined join))
  first_may a input inputs fits join e is i o above below k =
      let both : ◌≡◌ {A = End × End} (join.input, output_joined join) (i, o) = cc k in
      fits i o above below (subst (λ (x : End). Enters x o a (input ∷ inputs)) (sym is ∙ ap (λ (p : End × End). p.0) both) (here a inputs join e (ap (λ (p : End × End). p.1) both)))

  -- the input of a join is the one that was tried
  through_input : (input : End) (next : FlowId) (o : Option Linked) (join : Join) → join_through input next o ≡ Some join → join.input ≡ input
  through_input input next None join e = absurd (cc e)
  through_input input next (Some linked) join e = by (grant_for linked.port.grants next) e
    where
      by : (o : Option Grant) → option_map (λ grant. record { input = input; port = linked.setup.port; grant = grant }) o ≡ Some join → join.input ≡ input
      by None e = absurd (cc e)
      by (Some grant) e = (let is : ◌≡◌ {A = Join} (record { input = input; port = linked.setup.port; grant = grant }) join = cc e in sym (ap (λ (j : Join). j.input) is))

  by_input : (a : Acted) (input : End) (o : Option PortNo) (next : Option FlowId) (join : Join) → join_by a.controller input o next ≡ Some join → join.input ≡ input
  by_input a input None next join e = absurd (cc e)
  by_input a input (Some port) None join e = absurd (cc e)
  by_input a input (Some port) (Some next) join e = through_input input next (linked_at a.controller port) join e

  pub entered_input : (a : Acted) (input : End) (o : Option Label) (join : Join) → entered_for a.controller input o ≡ Some join → join.input ≡ input
  entered_input a input None join e = absurd (cc e)
  entered_input a input (Some label) join e = by (may_join a.controller input label) e
    where
      by : (t : Bool) → (if t then join_for a.controller input label.flow else None) ≡ Some join → join.input ≡ input
      by true e = by_input a input (port_by (best a.controller.table (flow_destination label.flow))) (next_hop_of label.flow) join e
      by false e = absurd (cc e)

  pub tries_on : (inputs : List End) (a : Acted) → Every (IsLabelEnd setups) inputs → Fits a inputs → Goes a (fold tries_join a inputs)
  tries_on [] a ends fits h = h
  tries_on (input ∷ inputs) a ends fits h = tries_on inputs (tries_join a input) ends.1 (λ i o above below e. fits i o above below (later a input inputs e))
      (tries_label_on a input (label_on a.controller input) ends.0 refl (λ join e. first_may a input inputs fits join e (entered_input a input (label_on a.controller input) join e)) h)

  pub tries_joins_on : (a : Acted) → Fits a (flat_map inputs_at a.controller.ports) → Goes a (tries_joins a)
  tries_joins_on a fits h = tries_on (flat_map inputs_at a.controller.ports) a
      (every_flat_map (λ (linked : Linked). Found setups a linked × _) (IsLabelEnd setups) inputs_at (λ linked p. inputs_of_port setups a linked (ports_in a h) p.0 p.1) a.controller.ports (each_there setups a (ports_in a h))) fits h
