-- joins can be tried: no grant is lent to the label's channel, and Move Branch can be asked

use Rattle.std.proofs.Common.{◌≡◌, ◌≤◌, Bool, true, false, List, [], ◌∷◌, length, Option, None, Some, refl, sym, ◌∙◌, ap, subst, if◌then◌else◌, fold, arith}
use Rattle.std.specs.Prelude.{◌&&◌, not, is_none, nat_lt, flat_map}
use Rattle.std.specs.List.{list_any}
use Rattle.std.specs.Option.{option_map_or}
use Rattle.std.proofs.lemmas.Bool.Decides.{nat_tests}
use Rattle.std.proofs.lemmas.List.{length-map}
use Rattle.controller_joining.specs.world_model.Words.{End, number_of_channel, flow_destination, same_end, MoveBranch, at, on_input, most_asked, Setup, home_of, label_end, Label, Offered, label_number, Grant, ByController, grant_label, label_at, labels_of, Linked, linked_at, joins_of, join_for, is_offered, may_join, enters_grant, joins, tries_label, label_on, tries_join, inputs_at, tries_joins, route_stays}
use Rattle.law_controller_conditions.specs.ordered_lists.Ordered.{Every}
use Rattle.law_controller_conditions.proofs.ordered_lists.Every.{every_map}
use Rattle.controller_joining.specs.world_model.port_model.Joins as port_joins
use Rattle.law_controller_conditions.specs.law_port_facts.Port.{IsLabelEnd, IsPort, joins_label}
use Rattle.law_controller_conditions.proofs.law_port_facts.Keyed.{on_each}
use Rattle.law_controller_conditions.proofs.law_port_facts.Rules.{and_first, and_second}
use Rattle.law_controller_conditions.proofs.law_port_facts.Weighed.{labels_count}
use Rattle.controller_joining.specs.world_model.Controller.{Acted}
use Rattle.controller_joining.specs.world_model.Joins.{Join, output_joined}
use Rattle.law_controller_conditions.proofs.law_controller_facts.Moves.{by_lending, by_joining, Found, Moves, stays, further, moves_ports, HasPorts, found_setup, found_at_own, found_port}
use Rattle.law_controller_conditions.proofs.law_controller_facts.Performing.{at_port_goes}
use Rattle.law_controller_conditions.proofs.law_controller_facts.Joining.{image_is, every_flat_map, each_there}
use Rattle.law_controller_conditions.proofs.law_controller_facts.Entering.{granted_end, is_offered_by, OnPort, on_port, lends_labels, inputs_of_port, tries_join_goes, IsFor, found_for}
use Rattle.law_controller_conditions.proofs.law_controller_facts.Laws.{has_ports}
use Rattle.law_controller_conditions.proofs.law_controller.Lists.{each_any}
use Rattle.law_controller_conditions.proofs.law_controller.Holding.{Holds}
use Rattle.law_controller_conditions.proofs.law_controller.Entering.{IsLentNow, lent_at_port, enters_label_lent}
use Rattle.law_controller_conditions.proofs.law_controller.Whole.{Whole, holds_of, joins_whole}
use Rattle.law_controller_conditions.proofs.law_controller.Laws.{held_joins}
use Rattle.controller_joining.specs.Conditions.{entered, CanJoin, CanTryJoin, EachCanBeTried, HoldFew, CanTryJoins}
use Rattle.law_controller_conditions.specs.Kept.{AreLinks, AreIn}
use Rattle.law_controller_conditions.proofs.Ready.{in_before}
use Rattle.law_controller_conditions.proofs.Asking.{can_ask}
use Rattle.law_joining_conditions.proofs.Granting.{grant_of}
use Rattle.law_controller_conditions.specs.law_controller_facts.Said.{HasFlowsAt}
use Rattle.law_controller_conditions.proofs.law_controller_facts.Flows.{moves_flow}

none_of : (o : Option End) → is_none o ≡ true → o ≡ None
none_of None e = refl
none_of (Some x) e = absurd (cc e)

-- *A label that may be joined* is offered, and isn't joined
record IsFreeLabel (label : Label) : Type 0 where
  offered : label.state ≡ Offered
  unjoined : label.join ≡ None

free_label : (a : Acted) (input : End) (label : Label) → may_join a.controller input label ≡ true → IsFreeLabel label
free_label a input label may =
    let both : (is_offered label.state && is_none label.join) ≡ true = and_first (is_offered label.state && is_none label.join)
    (not (on_input a.controller.desk input) && (nat_lt (length a.controller.desk.standing) most_asked && route_stays a.controller (flow_destination label.flow))) may in
    record { offered = is_offered_by label.state (and_first (is_offered label.state) (is_none label.join) both); unjoined = none_of label.join (and_second (is_offered label.state) (is_none label.join) both) }

module _ (setups : List Setup) (links : AreLinks setups) where
  -- *Nothing is lent* to a label that isn't joined
  same_end_is : (a b : End) → same_end a b ≡ true → a ≡ b
  same_end_is a b e = grind (arith, nat_tests)

  none_lent : (a : Acted) (input : End) (label : Label) → label_on a.controller input ≡ Some label → label.join ≡ None → Whole setups a
      → list_any (λ (other : Join). same_end other.input input) (joins_of a.controller) ≡ false
  none_lent a input label on unjoined h = each_any (λ (other : Join). same_end other.input input) (joins_of a.controller)
      (every_map _ (λ (other : Join). same_end other.input input ≡ false) (joins_of a.controller) (λ other joined. by_same other joined (same_end other.input input) refl) (held_joins setups a h))
    where
      by_same : (other : Join) → ((l : Label) → label_on a.controller other.input ≡ Some l → l.join ≡ Some (output_joined other)) → (b : Bool) → same_end other.input input ≡ b → same_end other.input input ≡ false
      by_same other joined true e = absurd (cc (sym unjoined ∙ joined label (ap (label_on a.controller) (same_end_is other.input input e) ∙ on)))
      by_same other joined false e = e

  -- *A join is entered*
  module _ (a : Acted) (input : End) (label : Label) (linked : Linked) (grant : Grant) (end : IsLabelEnd setups input) (on : label_on a.controller input ≡ Some label) (offered : label.state ≡ Offered)
      (own : Found setups a linked) (granted : at grant_label grant.label linked.port.grants ≡ Some grant) (sending : grant.state ≡ ByController) (h : Holds setups a) where
    abbrev join : Join
    join = record { input = input; port = linked.setup.port; grant = grant }

    has : HasPorts setups a
    has = has_ports setups a h.sound

    out : IsLabelEnd setups (output_joined join)
    out = granted_end setups a linked grant has own granted

    before : OnPort a.controller.ports input label
    before = on_port a.controller input label on

    first : IsLentNow setups a (enters_grant a join) input
    first = lent_at_port setups a linked grant input end own granted sending h

    there : (x : Linked) → linked_at (enters_grant a join).controller input.port ≡ Some x → (held : Label) → label_at x.port (number_of_channel input.channel) ≡ Some held → held.state ≡ Offered
    there x found held is =
        let labels : labels_of x.port ≡ before.labels = image_is (λ (y : Linked). labels_of y.port) (linked_at (enters_grant a join).controller input.port) x before.labels (lends_labels setups a join input.port.0 ∙ before.there) found in
        let both : Some held ≡ Some label = sym is ∙ ap (at label_number (number_of_channel input.channel)) labels ∙ before.found in
        let same : held ≡ label = cc in
        ap (λ (y : Label). y.state) same ∙ offered

    second : IsLentNow setups (enters_grant a join) (entered a join) input
    second = enters_label_lent setups (enters_grant a join) join end out there first.lent first.holds

    grant_moves : Moves setups a (enters_grant a join)
    grant_moves = at_port_goes setups a join.port (λ setup desk w. port_joins.lent w grant input) has (λ x found. (let both : Some x ≡ Some linked = sym found ∙ own in let same : linked ≡ x = cc in
        by_lending grant input (subst (λ (y : Linked). at grant_label grant.label y.port.grants ≡ Some grant) same granted) sending end))

    label_moves : Moves setups (enters_grant a join) (entered a join)
    label_moves = at_port_goes setups (enters_grant a join) input.port (λ setup desk w. port_joins.joined w (number_of_channel input.channel) (output_joined join)) (moves_ports setups grant_moves has) (λ x found. by_joining (number_of_channel input.channel) (output_joined join) out (there x found))

    join_can : Every HasFlowsAt a.controller.ports → AreIn (joins a (Some join)).numbers → list_any (λ (other : Join). same_end other.input input) (joins_of a.controller) ≡ false → CanJoin a join
    join_can flows n free = record {
      free = free;
      grant = grant_of setups a join linked has own granted;
      asks = can_ask setups links (entered a join) (MoveBranch input (home_of input) (output_joined join))
          (record { holds = second.holds; flows = moves_flow setups a (entered a join) (further grant_moves label_moves) flows }) (joins_label input (output_joined join) end out) n;
    }

  -- *A join is tried*
  can_try : (a : Acted) (input : End) → IsLabelEnd setups input → Whole setups a → Every HasFlowsAt a.controller.ports → AreIn (tries_join a input).numbers → CanTryJoin a input
  can_try a input end h flows n label on may join found =
      let free : IsFreeLabel label = free_label a input label may in
      let f : IsFor setups a input join = found_for setups a input label.flow (has_ports setups a h.sound) join found in
      subst (CanJoin a) (sym f.is) (join_can a input label f.linked f.grant end on free.offered f.own f.granted f.sending (holds_of setups a h) flows
      (subst (λ (x : Join). AreIn (joins a (Some x)).numbers) f.is
      (subst (λ (o : Option Join). AreIn (joins a o).numbers) found
      (subst (λ (b : Bool). AreIn (if b then joins a (join_for a.controller input label.flow) else a).numbers) may
      (subst (λ (o : Option Label). AreIn (tries_label a input o).numbers) on n))))
      (none_lent a input label on free.unjoined h))

  tried_whole : (a : Acted) (input : End) → IsLabelEnd setups input → Whole setups a → Whole setups (tries_join a input)
  tried_whole a input end h = by_label (label_on a.controller input) refl
    where
      by_join : (label : Label) → label_on a.controller input ≡ Some label → IsFreeLabel label → (o : Option Join) → join_for a.controller input label.flow ≡ o → Whole setups (joins a o)
      by_join label on free None found = h
      by_join label on free (Some join) found =
          let f : IsFor setups a input join = found_for setups a input label.flow (has_ports setups a h.sound) join found in
          subst (λ (x : Join). Whole setups (joins a (Some x))) (sym f.is) (joins_whole setups a input label f.linked f.grant end on free.offered free.unjoined f.own f.granted f.sending h)

      by_label : (o : Option Label) → label_on a.controller input ≡ o → Whole setups (tries_label a input o)
      by_label None on = h
      by_label (Some label) on = on_each (Whole setups) (may_join a.controller input label) (joins a (join_for a.controller input label.flow)) a
          (λ may. by_join label on (free_label a input label may) (join_for a.controller input label.flow) refl) (λ t. h)

  tried_move : (inputs : List End) (a : Acted) → Every (IsLabelEnd setups) inputs → HasPorts setups a → Moves setups a (fold tries_join a inputs)
  tried_move [] a ends h = stays a
  tried_move (input ∷ inputs) a ends h = (let m : Moves setups a (tries_join a input) = tries_join_goes setups a input h ends.0 in further m (tried_move inputs (tries_join a input) ends.1 (moves_ports setups m h)))

  each_tried : (inputs : List End) (a : Acted) → Every (IsLabelEnd setups) inputs → Whole setups a → Every HasFlowsAt a.controller.ports → AreIn (fold tries_join a inputs).numbers → EachCanBeTried a inputs
  each_tried [] a ends h flows n = tt
  each_tried (input ∷ inputs) a ends h flows n =
      let next : Acted = tries_join a input in
      let k : Whole setups next = tried_whole a input ends.0 h in (
        can_try a input ends.0 h flows (in_before setups next (fold tries_join next inputs) (tried_move inputs next ends.1 (has_ports setups next k.sound)) n),
        each_tried inputs next ends.1 k (moves_flow setups a next (tries_join_goes setups a input (has_ports setups a h.sound) ends.0) flows) n,
      )

  -- *Labels* are few
  hold_few : (a : Acted) → HasPorts setups a → HoldFew a.controller
  hold_few a h port = by (linked_at a.controller port) refl
    where
      by : (o : Option Linked) → linked_at a.controller port ≡ o → length (option_map_or inputs_at o []) ≤ 16384
      by None found = omega arith
      by (Some linked) found =
          let own : Found setups a linked = found_at_own setups a linked port found in
          omega (
            arith,
            length-map (labels_of linked.port) (λ (label : Label). label_end linked.setup.port label.number),
            labels_count setups linked.setup (found_setup setups a linked linked.setup.port h own) linked.port (found_port setups a linked linked.setup.port h own),
          )

  pub can_try_joins : (a : Acted) → Whole setups a → Every HasFlowsAt a.controller.ports → AreIn (tries_joins a).numbers → CanTryJoins a
  can_try_joins a h flows n = (let has : HasPorts setups a = has_ports setups a h.sound in
      record {
        few = hold_few a has;
        each = each_tried (flat_map inputs_at a.controller.ports) a (every_flat_map (λ (linked : Linked). Found setups a linked × IsPort setups linked.setup linked.port) (IsLabelEnd setups) inputs_at
            (λ linked p. inputs_of_port setups a linked has p.0 p.1) a.controller.ports (each_there setups a has)) h flows n;
      })
