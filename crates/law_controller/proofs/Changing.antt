-- joins that are taken back and tried, and changes of routes, keep all that holds of requests and joins

use Rattle.std.proofs.Common.{◌≡◌, ℕ, Bool, true, false, List, [], ◌∷◌, ◌++◌, length, Option, None, Some, refl, sym, subst, fold}
use Rattle.std.specs.Prelude.{◌+◌, ◌&&◌, not, is_none, nat_lt, flat_map}
use Rattle.std.specs.Option.{option_map}
use Rattle.law_controller_facts.specs.world_model.Words.{PortNo, End, FlowId, next_hop_of, flow_destination, same_flow, best, changed, RouteChange, is_estab, Routes, on_input, most_asked, Setup, Label, Offered, Grant, grant_label, grant_for, is_by_controller, Linked, linked_at, joins_of, port_by, join_through, join_by, join_for, is_offered, may_join, joins, tries_label, label_on, tries_join, inputs_at, tries_joins, route_stays, is_changed, changed_joins, takes_join_back, begins_change, takes_change, may_take, takes_each, takes_changes, change_comes}
use Rattle.law_controller_facts.specs.world_model.ipv4_forward.declared.table.Route.{Route}
use Rattle.law_controller_facts.specs.ordered_lists.Ordered.{Every}
use Rattle.law_controller_facts.proofs.ordered_lists.Every.{every_map}
use Rattle.law_controller_facts.specs.law_port_facts.Port.{IsLabelEnd, IsPort, parts_label}
use Rattle.law_controller_facts.proofs.law_port_facts.Keyed.{on_both, on_each, apart_at}
use Rattle.law_controller_facts.proofs.law_port_facts.Found.{find_passes}
use Rattle.law_controller_facts.proofs.law_port_facts.Rules.{and_first, and_second}
use Rattle.law_controller_facts.specs.world_model.Controller.{Acted, note}
use Rattle.law_controller_facts.specs.world_model.Joins.{Join, output_joined}
use Rattle.law_controller_facts.proofs.Moves.{Found, routing, moves_to, HasPorts, found_at_own, found_port}
use Rattle.law_controller_facts.proofs.Joining.{IsJoin, joins_are, join_input, join_output, every_filter, every_flat_map, each_there}
use Rattle.law_controller_facts.proofs.Entering.{is_offered_by, by_controller, inputs_of_port}
use Rattle.law_controller_facts.proofs.Laws.{has_ports, moves_sound}
use Rattle.law_controller.specs.Order.{is_lent}
use Rattle.law_controller.proofs.Whole.{Whole, numbered_whole, takes_back_whole, joins_whole}
use Rattle.law_controller.proofs.Entering.{Keeps, takes_back_keeps, join_lent}

none_of : (o : Option End) → is_none o ≡ true → o ≡ None
none_of None e = refl
none_of (Some x) e = absurd (cc e)

module _ (setups : List Setup) where
  -- *Joins that are taken back*
  record IsTaken (join : Join) : Type 0 where
    input : IsLabelEnd setups join.input
    output : IsLabelEnd setups (output_joined join)

  taken_each : (joins : List Join) (a : Acted) → Every IsTaken joins → (is_estab a.controller.adjacency.state ≡ true → Every (λ (join : Join). is_lent a.controller.ports join.input ≡ true) joins) → Whole setups a
      → Whole setups (fold takes_join_back a joins)
  taken_each [] a ends lent h = h
  taken_each (join ∷ joins) a ends lent h =
      let next : Acted = takes_join_back a join in
      let keeps : Keeps setups a next = takes_back_keeps setups a join.input (output_joined join) in
      taken_each joins next ends.1 (λ e. subst (λ (ports : List Linked). Every (λ (x : Join). is_lent ports x.input ≡ true) joins) (sym (keeps.ports e)) (lent (keeps.before e)).1)
      (takes_back_whole setups a join.input (output_joined join) (parts_label join.input (output_joined join) ends.0.input ends.0.output) (λ e. (lent e).0) h)

  routed_holds : (a : Acted) (table : List Route) (waiting : List RouteChange) (begun : Bool) (changes : ℕ) → Whole setups a
      → Whole setups (record a { controller = record a.controller { table = table; waiting = waiting; is_begun = begun; changes = changes } })
  routed_holds a table waiting begun changes h = record { sound = moves_sound setups a _ (moves_to (routing a table waiting begun changes)) h.sound; order = h.order; fits = h.fits }

  begins_change_holds : (a : Acted) (change : RouteChange) → Whole setups a → Whole setups (begins_change a change)
  begins_change_holds a change h =
      let begun : Acted = record a { controller = record a.controller { is_begun = true } } in
      let has : HasPorts setups a = has_ports setups a h.sound in
      let are : Every (IsJoin setups a) (changed_joins a.controller change) = every_filter (IsJoin setups a) (is_changed a.controller.table change) (joins_of a.controller) (joins_are setups a has) in
      on_both (Whole setups) a.controller.is_begun a (fold takes_join_back begun (changed_joins a.controller change)) h
      (taken_each (changed_joins a.controller change) begun (every_map (IsJoin setups a) IsTaken (changed_joins a.controller change) (λ join is. record { input = join_input setups a join has is; output = join_output setups a join has is }) are)
      (λ e. every_map (IsJoin setups a) (λ (join : Join). is_lent a.controller.ports join.input ≡ true) (changed_joins a.controller change) (λ join is. join_lent setups a join is) are)
      (routed_holds a a.controller.table a.controller.waiting true a.controller.changes h))

  takes_change_holds : (a : Acted) (change : RouteChange) (later : List RouteChange) → Whole setups a → Whole setups (takes_change a change later)
  takes_change_holds a change later h =
      let taken : Acted = record a { controller = record a.controller { table = changed a.controller.table change; waiting = later; is_begun = false; changes = a.controller.changes + 1 } } in
      numbered_whole setups taken (note taken (Routes a.controller.node (a.controller.changes + 1))).notes (routed_holds a (changed a.controller.table change) later false (a.controller.changes + 1) h)

  takes_each_holds : (changes : List RouteChange) (a : Acted) → Whole setups a → Whole setups (takes_each a changes)
  takes_each_holds [] a h = h
  takes_each_holds (change ∷ later) a h =
      let begun : Acted = begins_change a change in
      let k : Whole setups begun = begins_change_holds a change h in
      on_both (Whole setups) (may_take begun.controller change) (takes_each (takes_change begun change later) later) begun
      (takes_each_holds later (takes_change begun change later) (takes_change_holds begun change later k)) k

  pub takes_changes_holds : (a : Acted) → Whole setups a → Whole setups (takes_changes a)
  takes_changes_holds a h = on_both (Whole setups) a.controller.has_met (takes_each a a.controller.waiting) a (takes_each_holds a.controller.waiting a h) h

  pub change_comes_holds : (a : Acted) (change : RouteChange) → Whole setups a → Whole setups (change_comes a change)
  change_comes_holds a change h = takes_changes_holds (record a { controller = record a.controller { waiting = a.controller.waiting ++ change ∷ [] } })
      (routed_holds a a.controller.table (a.controller.waiting ++ change ∷ []) a.controller.is_begun a.controller.changes h)

  joins_for_holds : (a : Acted) (input : End) (label : Label) → IsLabelEnd setups input → label_on a.controller input ≡ Some label → label.state ≡ Offered → label.join ≡ None → Whole setups a
      → (o : Option PortNo) (next : Option FlowId) → Whole setups (joins a (join_by a.controller input o next))
  joins_for_holds a input label end on offered free h None next = h
  joins_for_holds a input label end on offered free h (Some port) None = h
  joins_for_holds a input label end on offered free h (Some port) (Some next) = by_found (linked_at a.controller port) refl
    where
      has : HasPorts setups a
      has = has_ports setups a h.sound

      by_grant : (linked : Linked) → linked_at a.controller port ≡ Some linked → (o : Option Grant) → grant_for linked.port.grants next ≡ o
          → Whole setups (joins a (option_map (λ grant. record { input = input; port = linked.setup.port; grant = grant }) o))
      by_grant linked found None is = h
      by_grant linked found (Some grant) is =
          let passes = find_passes (λ (g : Grant). is_by_controller g.state && same_flow g.flow next) linked.port.grants grant is in
          joins_whole setups a input label linked grant end on offered free (found_at_own setups a linked port found)
          (apart_at grant_label (λ (g : Grant). is_by_controller g.state && same_flow g.flow next) linked.port.grants grant (found_port setups a linked port has found).apart is)
          (by_controller grant.state (and_first (is_by_controller grant.state) (same_flow grant.flow next) passes)) h

      by_found : (o : Option Linked) → linked_at a.controller port ≡ o → Whole setups (joins a (join_through input next o))
      by_found None found = h
      by_found (Some linked) found = by_grant linked found (grant_for linked.port.grants next) refl

  tries_label_holds : (a : Acted) (input : End) (o : Option Label) → IsLabelEnd setups input → label_on a.controller input ≡ o → Whole setups a → Whole setups (tries_label a input o)
  tries_label_holds a input None end on h = h
  tries_label_holds a input (Some label) end on h = on_each (Whole setups) (may_join a.controller input label) (joins a (join_for a.controller input label.flow)) a
      (λ may. (let both : (is_offered label.state && is_none label.join) ≡ true = and_first (is_offered label.state && is_none label.join)
      (not (on_input a.controller.desk input) && (nat_lt (length a.controller.desk.standing) most_asked && route_stays a.controller (flow_destination label.flow))) may in
      joins_for_holds a input label end on (is_offered_by label.state (and_first (is_offered label.state) (is_none label.join) both)) (none_of label.join (and_second (is_offered label.state) (is_none label.join) both)) h
      (port_by (best a.controller.table (flow_destination label.flow))) (next_hop_of label.flow)))
      (λ t. h)

  tries_each : (inputs : List End) (a : Acted) → Every (IsLabelEnd setups) inputs → Whole setups a → Whole setups (fold tries_join a inputs)
  tries_each [] a ends h = h
  tries_each (input ∷ inputs) a ends h = tries_each inputs (tries_join a input) ends.1 (tries_label_holds a input (label_on a.controller input) ends.0 refl h)

  pub tries_joins_holds : (a : Acted) → Whole setups a → Whole setups (tries_joins a)
  tries_joins_holds a h = (let has : HasPorts setups a = has_ports setups a h.sound in
      tries_each (flat_map inputs_at a.controller.ports) a (every_flat_map (λ (linked : Linked). Found setups a linked × IsPort setups linked.setup linked.port) (IsLabelEnd setups) inputs_at
      (λ linked p. inputs_of_port setups a linked has p.0 p.1) a.controller.ports (each_there setups a has)) h)
