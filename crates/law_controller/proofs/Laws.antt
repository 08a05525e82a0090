-- after every list of inputs requests and joins are in order, and few requests stand

use Rattle.std.proofs.Common.{◌≡◌, ℕ, Bool, true, subst, ◌≤◌, List, [], ◌∷◌, length, inl, inr, refl, ap, arith, Option, None, Some, false, sym, ◌∙◌}
use Rattle.std.specs.Prelude.{◌+◌}
use Rattle.std.proofs.lemmas.List.{length-map}
use Rattle.law_controller_facts.specs.world_model.Words.{Request, AddBranch, MoveBranch, DeleteTree, VerifyTree, PortManagement, IsLinkPort, is_delete_all, Desk, Standing, all_on, Setup, Controller, Linked, port_key, linked_at, setup_of, opens_ports, number_of_channel, End, PortNo, at, Label, Grant, label_at, labels_of, is_clearing, joins_of, label_on}
use Rattle.law_controller_facts.specs.world_model.gsmp_wire.declared.request.Request.TheVariants.{DeleteAll, AllPorts}
use Rattle.law_controller_facts.specs.world_model.port_model.Requests.{request_input}
use Rattle.law_controller_facts.specs.ordered_lists.Ordered.{Every}
use Rattle.law_controller_facts.proofs.ordered_lists.Every.{every_mapped, every_map}
use Rattle.law_controller_facts.specs.world_model.controller_model.declared.range.PortRange.{PortRange}
use Rattle.law_controller_facts.specs.world_model.Controller.{Acted}
use Rattle.law_controller_facts.specs.Inputs.{Input, takes_inputs}
use Rattle.law_controller_facts.specs.Sound.{linked_setup, IsLinkedPort, Opening, opened_by, setups_by}
use Rattle.law_controller_facts.proofs.Moves.{found_setup, found_at_own}
use Rattle.law_controller_facts.proofs.Laws.{has_ports, always_sound}
use Rattle.law_controller.specs.Order.{HasLentLabels, IsDeleting, IsMeeting, listing, emptying, IsClearingAt, IsOfClearing, IsApart, IsOrderly}
use Rattle.law_controller.specs.Law.{IsOpening, Always, StandsInMeeting, DeletesOfClearing, StandsApart, HasLentGrants, MovesOfLent, AreMatched, HasHeldJoins, StandsFew}
use Rattle.law_controller.proofs.Holding.{Holds}
use Rattle.law_controller.proofs.Matched.{But, Never, shut_but}
use Rattle.law_controller.proofs.Whole.{Whole, holds_of, estab_open}
use Rattle.law_controller.specs.Match.{MovesJoined, IsOfJoin, joined_in, lent_in, lent_at, IsMatched}
use Rattle.law_controller.proofs.Entering.{IsHeldAt, held_at}
use Rattle.std.specs.Option.{option_map_or, option_and_then}
use Rattle.law_controller_facts.specs.law_port_facts.Port.{setup_port}
use Rattle.law_controller_facts.proofs.law_port_facts.Keyed.{by_eq, at_key, at_every}
use Rattle.law_controller.proofs.Lists.{each_any}
use Rattle.law_controller_facts.specs.world_model.port_model.Grants as grants
use Rattle.law_controller_facts.specs.world_model.Joins.{Join, output_joined}
use Rattle.law_controller_facts.proofs.Joining.{IsJoin, joins_are}
use Rattle.law_controller.proofs.Ordering.{empty_order}
use Rattle.law_controller.proofs.Events.{inputs_hold}
use Rattle.law_controller.proofs.Counting.{HasFewGrants, count_needed}

-- *The opening*
open_joined : (setup : PortRange → Setup) (now : List Linked) (ranges : List PortRange) (n : ℕ) → Every (HasLentLabels now) (opens_ports setup n ranges)
open_joined setup now [] n = tt
open_joined setup now (range ∷ ranges) n = (tt, open_joined setup now ranges (n + 1))

pub links_by : (o : Opening) → IsOpening o → Every (λ (setup : Setup). IsLinkPort setup.port) (setups_by o)
links_by o is = every_mapped (setup_of o.node o.address o.timers o.policy) (λ (setup : Setup). IsLinkPort setup.port) o.ranges is.links

opening_holds : (o : Opening) → IsOpening o → Whole (setups_by o) (opened_by o)
opening_holds o is = record {
  sound = always_sound o [] is.differ;
  order = empty_order (opened_by o).controller.ports (opened_by o).controller.has_met (opened_by o).controller.desk refl
      (open_joined (setup_of o.node o.address o.timers o.policy) (opened_by o).controller.ports o.ranges (o.numbers.instances + 1));
  fits = shut_but Never (opened_by o).controller.ports false (opened_by o).controller.desk refl ((always_sound o [] is.differ).unmet refl);
}

pub always_holds : (o : Opening) (inputs : List Input) → IsOpening o → Whole (setups_by o) (takes_inputs (opened_by o) inputs)
always_holds o inputs is = inputs_hold (setups_by o) (links_by o is) inputs (opened_by o) (opening_holds o is)

-- *How many stand*, also in the midst of an event
pub few_stand : (setups : List Setup) (a : Acted) → length setups ≤ 8 → Holds setups a → StandsFew a.controller
few_stand setups a few h =
    let needed = count_needed setups a.controller.ports a.controller.desk.standing few
    (omega (arith, few, length-map a.controller.ports linked_setup, ap (λ (xs : List Setup). length xs) h.sound.ports.same))
    (every_map (IsLinkedPort setups) HasFewGrants a.controller.ports (λ x fits. fits.few) h.sound.ports.each) h.sound.requests h.sound.desk.own_inputs h.sound.desk.own_ports h.order.one in
    record { unlent = h.order.unlent; others = needed; few = omega (arith, needed, h.order.unlent) }

-- *The laws*
pub always_meeting : Always StandsInMeeting
always_meeting o inputs is = (let h : Whole (setups_by o) (takes_inputs (opened_by o) inputs) = always_holds o inputs is in record { meeting = h.order.meeting; met = h.order.met })

pub always_clearing : Always DeletesOfClearing
always_clearing o inputs is = (always_holds o inputs is).order.clearing

-- nothing stands beside a Delete All of the control link's port: while the switch is met no request is on an input,
-- and afterwards no such Delete All stands
abbrev Alone : Desk → Standing → Type 0
Alone desk s = (input : End) → request_input s.request ≡ Some input → all_on desk input.port ≡ false

no_input : (desk : Desk) (s : Standing) (request : Request) → s.request ≡ request → request_input request ≡ None → Alone desk s
no_input desk s request is none input on = absurd (cc (sym on ∙ ap request_input is ∙ none))

deleting_alone : (desk : Desk) (s : Standing) (request : Request) → s.request ≡ request → IsDeleting request → Alone desk s
deleting_alone desk s (DeleteAll port) is d = no_input desk s (DeleteAll port) is refl
deleting_alone desk s (AddBranch input output) is d = absurd d
deleting_alone desk s (MoveBranch input from to) is d = absurd d
deleting_alone desk s (DeleteTree input) is d = absurd d
deleting_alone desk s (VerifyTree input) is d = absurd d
deleting_alone desk s (PortManagement port function) is d = absurd d
deleting_alone desk s AllPorts is d = absurd d

unmet_alone : (desk : Desk) (standing : List Standing) → IsMeeting standing → Every (Alone desk) standing
unmet_alone desk standing (listing s is) = (no_input desk s AllPorts is refl, tt)
unmet_alone desk standing (emptying all deleting) = every_map (λ (s : Standing). IsDeleting s.request) (Alone desk) standing (λ s d. deleting_alone desk s s.request refl d) deleting

stands_alone : (setups : List Setup) → Every (λ (setup : Setup). IsLinkPort setup.port) setups → (a : Acted) → Holds setups a → (met : Bool) → a.controller.has_met ≡ met → Every (Alone a.controller.desk) a.controller.desk.standing
stands_alone setups links a h false met = unmet_alone a.controller.desk a.controller.desk.standing (h.order.meeting met)
stands_alone setups links a h true met = every_map (IsApart a.controller.desk) (Alone a.controller.desk) a.controller.desk.standing
    (λ s apart input on. by_eq input.port.0 0 (λ zero t. none_of input.port zero) (λ other t. apart input on other)) h.order.apart
  where
    never : (port : PortNo) → port.0 ≡ 0 → IsClearingAt a.controller.ports port → ⊥
    never port zero there =
        let found : at setup_port there.linked.setup.port.0 setups ≡ Some there.linked.setup = found_setup setups a there.linked there.linked.setup.port (has_ports setups a h.sound) (found_at_own setups a there.linked port there.found) in
        let link : IsLinkPort there.linked.setup.port = at_every setup_port (λ (setup : Setup). IsLinkPort setup.port) there.linked.setup.port.0 setups there.linked.setup links found in
        let key : there.linked.setup.port.0 ≡ port.0 = at_key port_key port.0 a.controller.ports there.linked there.found in
        omega (arith, link.0, key, zero)

    none_of : (port : PortNo) → port.0 ≡ 0 → all_on a.controller.desk port ≡ false
    none_of port zero = each_any (λ (s : Standing). is_delete_all port s.request) a.controller.desk.standing
        (every_map (IsOfClearing a.controller.ports) (λ (s : Standing). is_delete_all port s.request ≡ false) a.controller.desk.standing (λ s clearing. other s clearing (is_delete_all port s.request) refl) (h.order.clearing met))
      where
        other : (s : Standing) → IsOfClearing a.controller.ports s → (b : Bool) → is_delete_all port s.request ≡ b → is_delete_all port s.request ≡ false
        other s clearing true is = absurd (never port zero (clearing port is))
        other s clearing false is = is

pub always_apart : Always StandsApart
always_apart o inputs is = (let a : Acted = takes_inputs (opened_by o) inputs in stands_alone (setups_by o) (links_by o is) a (holds_of (setups_by o) a (always_holds o inputs is)) a.controller.has_met refl)

pub always_lent : Always HasLentGrants
always_lent o inputs is = (always_holds o inputs is).order.joined

pub always_moves : Always MovesOfLent
always_moves o inputs is = (always_holds o inputs is).order.moves

-- while the switch isn't met nothing that stands moves a branch
no_move : (ports : List Linked) (request : Request) → IsDeleting request → MovesJoined ports request
no_move ports (DeleteAll port) d = tt
no_move ports (AddBranch input output) d = absurd d
no_move ports (MoveBranch input from to) d = absurd d
no_move ports (DeleteTree input) d = absurd d
no_move ports (VerifyTree input) d = absurd d
no_move ports (PortManagement port function) d = absurd d
no_move ports AllPorts d = absurd d

unmet_moving : (ports : List Linked) (standing : List Standing) → IsMeeting standing → Every (IsOfJoin ports) standing
unmet_moving ports standing (listing s is) = (subst (MovesJoined ports) (sym is) tt, tt)
unmet_moving ports standing (emptying all deleting) = every_map (λ (s : Standing). IsDeleting s.request) (IsOfJoin ports) standing (λ s d. no_move ports s.request d) deleting

moving_of : (c : Controller) (met : Bool) → c.has_met ≡ met → (c.has_met ≡ true → Every (IsOfJoin c.ports) c.desk.standing) → (c.has_met ≡ false → IsMeeting c.desk.standing) → Every (IsOfJoin c.ports) c.desk.standing
moving_of c true is moving meeting = moving is
moving_of c false is moving meeting = unmet_moving c.ports c.desk.standing (meeting is)

pub matched_of : (c : Controller) → IsOrderly c → But Never c.ports c.has_met c.desk → IsMatched c.ports c.desk
matched_of c order h = record {
  granted = h.granted;
  joined = h.joined;
  deleting = λ q m input e t. elim (h.deleting q m input e t) [ inl never ↦ absurd never | inr on ↦ on ];
  once = h.once;
  moving = moving_of c c.has_met refl h.moving order.meeting;
}

pub always_matched : Always AreMatched
always_matched o inputs is = (let h : Whole (setups_by o) (takes_inputs (opened_by o) inputs) = always_holds o inputs is in matched_of (takes_inputs (opened_by o) inputs).controller h.order h.fits)

-- *A join's label* that is held is joined to its output; also in the midst of an event
pub held_joins : (setups : List Setup) (a : Acted) → Whole setups a → HasHeldJoins a.controller
held_joins setups a h = every_map (IsJoin setups a) _ (joins_of a.controller) (λ join is label on. joined_to join is label on) (joins_are setups a (has_ports setups a h.sound))
  where
    some_same : (x y : End) → Some x ≡ Some y → x ≡ y
    some_same x y e = cc

    joined_to : (join : Join) → IsJoin setups a join → (label : Label) → label_on a.controller join.input ≡ Some label → label.join ≡ Some (output_joined join)
    joined_to join is label on =
        let lent : lent_at a.controller.ports join.port.0 join.grant.label ≡ Some join.input = ap (option_and_then (λ (x : Linked). lent_in x.port.grants join.grant.label)) is.found ∙ ap (option_and_then (λ (g : Grant). grants.lent_input g.state)) is.granted ∙ is.input in
        let held : IsHeldAt setups a join.input = held_at setups a join.input label on (holds_of setups a h) in
        elim (h.fits.joined join.port.0 join.grant.label join.input lent) [
          | inl clearing ↦ absurd (cc (sym (ap (λ (o : Option Linked). option_map_or (λ (x : Linked). is_clearing x.port.adjacency.state) o false) held.found ∙ estab_open setups held.linked.port.adjacency.state held.estab) ∙ clearing))
          | inr joined ↦ sym (by_port (linked_at a.controller join.input.port) on) ∙ joined
        ]
      where
        by_port : (o : Option Linked) → option_and_then (λ (x : Linked). label_at x.port (number_of_channel join.input.channel)) o ≡ Some label → option_and_then (λ (x : Linked). joined_in (labels_of x.port) (number_of_channel join.input.channel)) o ≡ label.join
        by_port None e = absurd (cc e)
        by_port (Some x) e = ap (option_and_then (λ (y : Label). y.join)) e

pub always_held : Always HasHeldJoins
always_held o inputs is = held_joins (setups_by o) (takes_inputs (opened_by o) inputs) (always_holds o inputs is)

pub always_few : Always StandsFew
always_few o inputs is = few_stand (setups_by o) (takes_inputs (opened_by o) inputs) (omega (arith, length-map o.ranges (setup_of o.node o.address o.timers o.policy), is.few)) (holds_of (setups_by o) (takes_inputs (opened_by o) inputs) (always_holds o inputs is))
