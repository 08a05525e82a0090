-- joins, their releases, and changes of routes keep the widths, and what is made is a message's

use Rattle.std.proofs.Common.{◌≡◌, true, false, List, [], ◌∷◌, ◌++◌, Option, None, Some, refl, sym, ◌∙◌, ap, subst, fold}
use Rattle.std.specs.Prelude.{not, nat_lt, ◌+◌, ◌&&◌, is_none, flat_map, length}
use Rattle.std.specs.Option.{option_map}
use Rattle.law_branch_shapes.specs.world_model.Words.{PortNo, End, number_of_channel, best, changed, RouteChange, FlowId, next_hop_of, same_flow, flow_destination, Request, MoveBranch, Part, Routes, same_end, at, on_input, most_asked, Setup, home_of, Label, Offered, label_number, Grant, ByController, grant_label, grant_for, is_by_controller, labels_of, Linked, linked_at, route_stays, joins_of, join_of, parts, releases_join, releases_input, released_inputs, resets_spent, releases, port_by, join_through, join_by, join_for, is_offered, may_join, enters_grant, enters_label, joins, tries_label, label_on, tries_join, inputs_at, tries_joins, is_changed, changed_joins, takes_join_back, begins_change, takes_change, may_take, takes_each, takes_changes, change_comes}
use Rattle.law_frame_readings.proofs.ordered_lists.Every.{every_map}
use Rattle.law_frame_readings.specs.law_port_facts.Port.{IsLabelEnd, IsPort, parts_label, joins_label}
use Rattle.law_frame_readings.proofs.law_port_facts.Keyed.{on_both, on_each, apart_at}
use Rattle.law_frame_readings.proofs.law_port_facts.Found.{find_every, find_passes}
use Rattle.law_frame_readings.proofs.law_port_facts.Rules.{and_first}
use Rattle.law_branch_shapes.specs.world_model.Controller.{Acted, ports_of, note}
use Rattle.law_branch_shapes.specs.world_model.Joins.{Join, output_joined}
use Rattle.law_frame_readings.proofs.law_controller_facts.Moves.{Found, routing, moves_to, HasPorts, found_at_own, found_port}
use Rattle.law_frame_readings.proofs.law_controller_facts.Joining.{every_filter, every_flat_map, IsJoin, each_there, joins_are, join_input, join_output, parts_grants, granted_there, image_is}
use Rattle.law_frame_readings.proofs.law_controller_facts.Entering.{granted_end, OnPort, on_port, is_offered_by, by_controller, lends_labels, inputs_of_port}
use Rattle.law_frame_readings.proofs.law_controller_facts.Laws.{moves_sound}
use Rattle.law_running_worlds.proofs.Walk.{Loose, To, loosely, stays, goes_on, goes_loose, to_fold, loose_fold, alike_to, note_to}
use Rattle.law_running_worlds.proofs.Performed.{asks_to, takes_back_to}
use Rattle.law_running_worlds.proofs.Rules.{joined_to, parted_to, lent_to, given_back_loose, closes_loose}
use Rattle.law_running_worlds.proofs.Spent.{spent_reset}

module _ (setups : List Setup) where
  -- *Changes of routes*
  abbrev IsEnded : Join → Type 0
  IsEnded join = IsLabelEnd setups join.input × IsLabelEnd setups (output_joined join)

  takes_join_back_to : (a : Acted) (join : Join) → HasPorts setups a → IsEnded join → To setups a (takes_join_back a join)
  takes_join_back_to a join h ends = takes_back_to setups a join.input (output_joined join) h (parts_label join.input (output_joined join) ends.0 ends.1)

  pub begins_change_to : (a : Acted) (change : RouteChange) → HasPorts setups a → To setups a (begins_change a change)
  begins_change_to a change h =
      let begun : Acted = record a { controller = record a.controller { is_begun = true } } in
      on_both (To setups a) a.controller.is_begun a (fold takes_join_back begun (changed_joins a.controller change)) (stays setups a)
      (goes_on setups h (alike_to setups a begun (moves_to (routing a a.controller.table a.controller.waiting true a.controller.changes)) refl refl refl refl)
      (λ k. to_fold setups IsEnded takes_join_back (λ b join kb ends. takes_join_back_to b join kb ends) (changed_joins a.controller change)
      (every_filter IsEnded (is_changed a.controller.table change) (joins_of a.controller)
      (every_map (IsJoin setups a) IsEnded (joins_of a.controller) (λ join is. (join_input setups a join h is, join_output setups a join h is)) (joins_are setups a h))) begun k))

  takes_change_to : (a : Acted) (change : RouteChange) (later : List RouteChange) → HasPorts setups a → To setups a (takes_change a change later)
  takes_change_to a change later h =
      let taken : Acted = record a { controller = record a.controller { table = changed a.controller.table change; waiting = later; is_begun = false; changes = a.controller.changes + 1 } } in
      goes_on setups h (alike_to setups a taken (moves_to (routing a (changed a.controller.table change) later false (a.controller.changes + 1))) refl refl refl refl)
      (λ k. note_to setups taken (Routes a.controller.node (a.controller.changes + 1)))

  takes_each_to : (changes : List RouteChange) (a : Acted) → HasPorts setups a → To setups a (takes_each a changes)
  takes_each_to [] a h = stays setups a
  takes_each_to (change ∷ later) a h =
      let begun : Acted = begins_change a change in
      goes_on setups h (begins_change_to a change h)
      (λ k. on_both (To setups begun) (may_take begun.controller change) (takes_each (takes_change begun change later) later) begun
      (goes_on setups k (takes_change_to begun change later k) (λ l. takes_each_to later (takes_change begun change later) l)) (stays setups begun))

  pub takes_changes_to : (a : Acted) → HasPorts setups a → To setups a (takes_changes a)
  takes_changes_to a h = on_both (To setups a) a.controller.has_met (takes_each a a.controller.waiting) a (takes_each_to a.controller.waiting a h) (stays setups a)

  pub change_comes_to : (a : Acted) (change : RouteChange) → HasPorts setups a → To setups a (change_comes a change)
  change_comes_to a change h =
      let waits : Acted = record a { controller = record a.controller { waiting = a.controller.waiting ++ change ∷ [] } } in
      goes_on setups h (alike_to setups a waits (moves_to (routing a a.controller.table (a.controller.waiting ++ change ∷ []) a.controller.is_begun a.controller.changes)) refl refl refl refl) (λ k. takes_changes_to waits k)

  -- *Release*
  parts_to : (a : Acted) (input : End) → HasPorts setups a → To setups a (parts a input)
  parts_to a input h =
      let noted : Acted = note a (Part a.controller.node input.port (number_of_channel input.channel)) in
      goes_on setups h (note_to setups a (Part a.controller.node input.port (number_of_channel input.channel))) (λ k. parted_to setups noted input.port (number_of_channel input.channel) k)

  releases_join_loose : (a : Acted) (o : Option Join) → ((join : Join) → o ≡ Some join → IsJoin setups a join) → HasPorts setups a → Loose setups a (releases_join a o)
  releases_join_loose a None is h = loosely setups (stays setups a)
  releases_join_loose a (Some join) is h = goes_loose setups h (loosely setups (parts_to a join.input h))
      (λ k. given_back_loose setups (parts a join.input) join.port join.grant k
      (λ linked found. granted_there setups a (parts a join.input) join linked (is join refl) (parts_grants setups a join.input join.port.0 h) found))

  releases_input_loose : (a : Acted) (input : End) → HasPorts setups a → Loose setups a (releases_input a input)
  releases_input_loose a input h = releases_join_loose a (join_of a.controller input)
      (λ join e. find_every (IsJoin setups a) (λ (join : Join). same_end join.input input) (joins_of a.controller) join (joins_are setups a h) e) h

  pub releases_to : (a : Acted) (request : Request) → HasPorts setups a → To setups a (releases a request)
  releases_to a request h =
      let released : Acted = fold releases_input a (released_inputs a.controller request) in
      let first : Loose setups a released = loose_fold setups releases_input (λ b input k. releases_input_loose b input k) (released_inputs a.controller request) a h in
      let whole : Loose setups a (releases a request) = goes_loose setups h first (λ k. loose_fold setups resets_spent (λ b port kb. closes_loose setups b port kb) (ports_of released.controller) released k) in
      record {
        moves = whole.moves;
        carried = whole.carried;
        unspent = λ small sound u. spent_reset setups released (moves_sound setups a released first.moves sound) small;
      }

  -- *Joining*
  joins_to : (a : Acted) (input : End) (label : Label) (linked : Linked) (grant : Grant) → HasPorts setups a → IsLabelEnd setups input → label_on a.controller input ≡ Some label → label.state ≡ Offered
      → Found setups a linked → at grant_label grant.label linked.port.grants ≡ Some grant → grant.state ≡ ByController
      → To setups a (joins a (Some (record { input = input; port = linked.setup.port; grant = grant })))
  joins_to a input label linked grant h end on offered found granted sending =
      let join : Join = record { input = input; port = linked.setup.port; grant = grant } in
      let output : IsLabelEnd setups (output_joined join) = granted_end setups a linked grant h found granted in
      let lends : Acted = enters_grant a join in
      let before : OnPort a.controller.ports input label = on_port a.controller input label on in
      goes_on setups h (lent_to setups a linked.setup.port grant input h end sending
      (λ other there. (let both : Some other ≡ Some linked = sym there ∙ found in let same : other ≡ linked = cc in
      subst (λ (x : Linked). at grant_label grant.label x.port.grants ≡ Some grant) (sym same) granted)))
      (λ k. goes_on setups k (joined_to setups lends input.port (number_of_channel input.channel) (output_joined join) k output
      (λ other held there held_is. (let labels : labels_of other.port ≡ before.labels = image_is (λ (x : Linked). labels_of x.port) (linked_at lends.controller input.port) other before.labels (lends_labels setups a join input.port.0 ∙ before.there) there in
      let both : Some held ≡ Some label = sym held_is ∙ ap (at label_number (number_of_channel input.channel)) labels ∙ before.found in
      let same : held ≡ label = cc in
      subst (λ (x : Label). x.state ≡ Offered) (sym same) offered)))
      (λ l. asks_to setups (enters_label lends join) (MoveBranch input (home_of input) (output_joined join)) l (joins_label input (output_joined join) end output)))

  joins_for_to : (a : Acted) (input : End) (label : Label) → HasPorts setups a → IsLabelEnd setups input → label_on a.controller input ≡ Some label → label.state ≡ Offered
      → (o : Option PortNo) (next : Option FlowId) → To setups a (joins a (join_by a.controller input o next))
  joins_for_to a input label h end on offered None next = stays setups a
  joins_for_to a input label h end on offered (Some port) None = stays setups a
  joins_for_to a input label h end on offered (Some port) (Some next) = by_found (linked_at a.controller port) refl
    where
      by_grant : (linked : Linked) → linked_at a.controller port ≡ Some linked → (o : Option Grant) → grant_for linked.port.grants next ≡ o
          → To setups a (joins a (option_map (λ grant. record { input = input; port = linked.setup.port; grant = grant }) o))
      by_grant linked found None is = stays setups a
      by_grant linked found (Some grant) is =
          let passes = find_passes (λ (g : Grant). is_by_controller g.state && same_flow g.flow next) linked.port.grants grant is in
          joins_to a input label linked grant h end on offered (found_at_own setups a linked port found)
          (apart_at grant_label (λ (g : Grant). is_by_controller g.state && same_flow g.flow next) linked.port.grants grant (found_port setups a linked port h found).apart is)
          (by_controller grant.state (and_first (is_by_controller grant.state) (same_flow grant.flow next) passes))

      by_found : (o : Option Linked) → linked_at a.controller port ≡ o → To setups a (joins a (join_through input next o))
      by_found None found = stays setups a
      by_found (Some linked) found = by_grant linked found (grant_for linked.port.grants next) refl

  tries_label_to : (a : Acted) (input : End) (o : Option Label) → HasPorts setups a → IsLabelEnd setups input → label_on a.controller input ≡ o → To setups a (tries_label a input o)
  tries_label_to a input None h end on = stays setups a
  tries_label_to a input (Some label) h end on = on_each (To setups a) (may_join a.controller input label) (joins a (join_for a.controller input label.flow)) a
      (λ may. joins_for_to a input label h end on (is_offered_by label.state (and_first (is_offered label.state) (is_none label.join) (and_first (is_offered label.state && is_none label.join)
      (not (on_input a.controller.desk input) && (nat_lt (length a.controller.desk.standing) most_asked && route_stays a.controller (flow_destination label.flow))) may)))
      (port_by (best a.controller.table (flow_destination label.flow))) (next_hop_of label.flow))
      (λ t. stays setups a)

  tries_join_to : (a : Acted) (input : End) → HasPorts setups a → IsLabelEnd setups input → To setups a (tries_join a input)
  tries_join_to a input h end = tries_label_to a input (label_on a.controller input) h end refl

  pub tries_joins_to : (a : Acted) → HasPorts setups a → To setups a (tries_joins a)
  tries_joins_to a h = to_fold setups (IsLabelEnd setups) tries_join (λ b input k end. tries_join_to b input k end) (flat_map inputs_at a.controller.ports)
      (every_flat_map (λ (linked : Linked). Found setups a linked × IsPort setups linked.setup linked.port) (IsLabelEnd setups) inputs_at (λ linked p. inputs_of_port setups a linked h p.0 p.1) a.controller.ports (each_there setups a h)) a h
