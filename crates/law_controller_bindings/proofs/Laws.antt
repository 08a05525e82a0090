-- after every list of inputs labels are bound, joins led and chains of bound labels

use Rattle.std.proofs.Common.{◌≡◌, ℕ, List, [], ◌∷◌, Option, None, Some, refl, sym, ◌∙◌, ap, subst, inl, inr}
use Rattle.std.specs.Prelude.{◌+◌}
use Rattle.std.specs.Option.{option_and_then}
use Rattle.law_controller.specs.world_model.Words.{NodeId, PortNo, number_of_channel, FlowId, Via, Setup, Label, label_number, grant_label, label_at, labels_of, Linked, LabelChain, port_key, linked_at, joins_of, label_on, setup_of, opens_ports, last_bound, Record}
use Rattle.law_controller.specs.ordered_lists.Ordered.{Every}
use Rattle.law_controller.proofs.ordered_lists.Every.{every_all, every_map, every_map2, every_mapped, every_unmapped}
use Rattle.law_controller.specs.law_port_facts.Port.{IsLabel}
use Rattle.law_controller.proofs.law_port_facts.Keyed.{at_key, at_every}
use Rattle.law_controller.specs.world_model.controller_model.declared.range.PortRange.{PortRange}
use Rattle.law_controller.specs.world_model.Controller.{Acted}
use Rattle.law_controller.specs.world_model.Joins.{Join, output_joined}
use Rattle.law_controller.specs.law_controller_facts.Inputs.{Input, takes_inputs}
use Rattle.law_controller.specs.law_controller_facts.Sound.{linked_setup, Opening, opened_by, setups_by}
use Rattle.law_controller.proofs.law_controller_facts.Moves.{HasPorts, found_port}
use Rattle.law_controller.proofs.law_controller_facts.Joining.{IsJoin, joins_are}
use Rattle.law_controller.proofs.law_controller_facts.Unmet.{ports_apart}
use Rattle.law_controller.proofs.law_controller_facts.Laws.{has_ports, always_sound}
use Rattle.law_controller.specs.Law.{IsOpening}
use Rattle.law_controller.proofs.Ordering.{same_number}
use Rattle.law_controller.proofs.Whole.{Whole}
use Rattle.law_controller.proofs.Laws.{always_holds, held_joins, links_by}
use Rattle.law_controller_bindings.specs.Bindings.{site, IsBoundLast, HasBoundLabels, IsLed, HasLedJoins, IsOfBound, GathersForBound, noted_by_all, JournalsGrow, NotesOwn, Always}
use Rattle.law_controller_bindings.proofs.Lasts.{some_same}
use Rattle.law_controller_bindings.proofs.Working.{Lends, Remains}
use Rattle.law_controller_bindings.proofs.Anew.{IsNew}
use Rattle.law_controller_bindings.proofs.Tied.{Led, Tied, NoCut, anew_tied}
use Rattle.law_controller_bindings.proofs.Flows.{next_lives}
use Rattle.law_controller_bindings.proofs.Events.{IsTiedTo, inputs_told, input_grows, input_own}

-- *The opening*
pub opened_new : (f : PortRange → Setup) (ranges : List PortRange) (instances : ℕ) → Every IsNew (opens_ports f instances ranges)
opened_new f [] instances = tt
opened_new f (range ∷ ranges) instances = (record { labels = refl; grants = refl; chains = refl }, opened_new f ranges (instances + 1))

pub opened_at : (node : NodeId) (f : PortRange → Setup) (ranges : List PortRange) (instances : ℕ) → ((range : PortRange) → (f range).node ≡ node) → Every (λ (x : Linked). x.setup.node ≡ node) (opens_ports f instances ranges)
opened_at node f [] instances own = tt
opened_at node f (range ∷ ranges) instances own = (own range, opened_at node f ranges (instances + 1) own)

nodes_by : (o : Opening) → Every (λ (setup : Setup). setup.node ≡ o.node) (setups_by o)
nodes_by o = every_mapped (setup_of o.node o.address o.timers o.policy) (λ (setup : Setup). setup.node ≡ o.node) o.ranges (every_all (λ (range : PortRange). o.node ≡ o.node) o.ranges (λ range. refl))

opening_bound : (o : Opening) → IsOpening o → IsTiedTo o.node [] (opened_by o)
opening_bound o is = record {
  tied = anew_tied o.node [] (opened_by o).controller.table NoCut (opened_by o).controller.ports (record {
    apart = ports_apart (setups_by o) (opened_by o) (has_ports (setups_by o) (opened_by o) (always_sound o [] is.differ));
    each = opened_new (setup_of o.node o.address o.timers o.policy) o.ranges (o.numbers.instances + 1);
  });
  here = record { own = refl; each = opened_at o.node (setup_of o.node o.address o.timers o.policy) o.ranges (o.numbers.instances + 1) (λ range. refl) };
}

always_tied : (o : Opening) (inputs : List Input) → IsOpening o → IsTiedTo o.node (noted_by_all (opened_by o) inputs) (takes_inputs (opened_by o) inputs)
always_tied o inputs is = inputs_told o.node (setups_by o) (links_by o is) (nodes_by o) inputs [] (opened_by o) (always_holds o [] is) (opening_bound o is)

-- *Labels*
ports_of_node : (o : Opening) (a : Acted) → Whole (setups_by o) a → Every (λ (x : Linked). x.setup.node ≡ o.node) a.controller.ports
ports_of_node o a h = every_unmapped linked_setup (λ (setup : Setup). setup.node ≡ o.node) a.controller.ports (subst (Every (λ (setup : Setup). setup.node ≡ o.node)) (sym h.sound.ports.same) (nodes_by o))

pub bound_of : (o : Opening) (records : List Record) (a : Acted) → Whole (setups_by o) a → Tied o.node records a.controller.table NoCut a.controller.ports → HasBoundLabels o.node records a
bound_of o records a h k = every_map2 (λ (x : Linked). x.setup.node ≡ o.node) (λ (x : Linked). Every (IsBoundLast x.setup.node records x.setup.port) (labels_of x.port)) (λ (x : Linked). Every (IsBoundLast o.node records x.setup.port) (labels_of x.port)) a.controller.ports
    (λ x is all. subst (λ (m : NodeId). Every (IsBoundLast m records x.setup.port) (labels_of x.port)) is all) (ports_of_node o a h) k.flows

pub always_bound : Always HasBoundLabels
always_bound o inputs is = bound_of o (noted_by_all (opened_by o) inputs) (takes_inputs (opened_by o) inputs) (always_holds o inputs is) (always_tied o inputs is).tied

-- *Joins*
pub led_joins : (o : Opening) (records : List Record) (a : Acted) → Whole (setups_by o) a → Tied o.node records a.controller.table NoCut a.controller.ports → HasLedJoins o.node records a
led_joins o records a h k = every_map2 (IsJoin (setups_by o) a) (λ (join : Join). (label : Label) → label_on a.controller join.input ≡ Some label → label.join ≡ Some (output_joined join)) (IsLed o.node records a) (joins_of a.controller) (λ join is held. led join is held)
    (joins_are (setups_by o) a has) (held_joins (setups_by o) a h)
  where
    has : HasPorts (setups_by o) a
    has = has_ports (setups_by o) a h.sound

    bound : HasBoundLabels o.node records a
    bound = bound_of o records a h k

    -- the flow of a label that is joined
    label_flow : (join : Join) (label : Label) (from : FlowId) → last_bound records (site o.node join.input.port) (number_of_channel join.input.channel) ≡ Some from → label_on a.controller join.input ≡ Some label → label.join ≡ Some (output_joined join) → label.flow ≡ from
    label_flow join label from last on joined = by_port (linked_at a.controller join.input.port) refl on
      where
        by_port : (x : Option Linked) → linked_at a.controller join.input.port ≡ x → option_and_then (λ (y : Linked). label_at y.port (number_of_channel join.input.channel)) x ≡ Some label → label.flow ≡ from
        by_port None found e = absurd (cc e)
        by_port (Some x) found e =
            let number : label.number ≡ number_of_channel join.input.channel = at_key label_number (number_of_channel join.input.channel) (labels_of x.port) label e in
            let port : x.setup.port ≡ join.input.port = same_number x.setup.port join.input.port (at_key port_key join.input.port.0 a.controller.ports x found) in
            let fits : IsLabel (setups_by o) x.setup label = at_every label_number (IsLabel (setups_by o) x.setup) (number_of_channel join.input.channel) (labels_of x.port) label (found_port (setups_by o) a x join.input.port has found).labels e in
            let is : IsBoundLast o.node records x.setup.port label = at_every label_number (IsBoundLast o.node records x.setup.port) (number_of_channel join.input.channel) (labels_of x.port) label
            (at_every port_key (λ (y : Linked). Every (IsBoundLast o.node records y.setup.port) (labels_of y.port)) join.input.port.0 a.controller.ports x bound found) e in
            some_same label.flow from (sym (is (λ wiring. absurd (cc (sym (fits.unjoined wiring) ∙ joined)))) ∙ ap (λ (p : PortNo). last_bound records (site o.node p) label.number) port
            ∙ ap (λ (n : ℕ). last_bound records (site o.node join.input.port) n) number ∙ last)

    led : (join : Join) → IsJoin (setups_by o) a join → ((label : Label) → label_on a.controller join.input ≡ Some label → label.join ≡ Some (output_joined join)) → IsLed o.node records a join
    led join is held =
        let leads : Lends (Led o.node records a.controller.table is.linked.setup.port) join.grant =
        at_every grant_label (Lends (Led o.node records a.controller.table is.linked.setup.port)) join.grant.label is.linked.port.grants join.grant
        (at_every port_key (λ (x : Linked). Every (Lends (Led o.node records a.controller.table x.setup.port)) x.port.grants) join.port.0 a.controller.ports is.linked k.leads is.found) is.granted in
        let l : Led o.node records a.controller.table is.linked.setup.port join.input join.grant.flow = leads join.input is.input in
        let port : is.linked.setup.port ≡ join.port = same_number is.linked.setup.port join.port (at_key port_key join.port.0 a.controller.ports is.linked is.found) in
        record {
          flow = l.from;
          bound = l.bound;
          held = λ label on. label_flow join label l.from l.bound on (held label on);
          lives = next_lives l.from join.grant.flow l.next;
          route = l.route ∙ ap (λ (p : PortNo). Some (Via p)) port;
          next = l.next;
        }

pub always_led : Always HasLedJoins
always_led o inputs is = led_joins o (noted_by_all (opened_by o) inputs) (takes_inputs (opened_by o) inputs) (always_holds o inputs is) (always_tied o inputs is).tied

-- *Chains*
pub always_gathers : Always GathersForBound
always_gathers o inputs is =
    let a : Acted = takes_inputs (opened_by o) inputs in
    every_map (λ (x : Linked). Every (λ (chain : LabelChain). Remains (labels_of x.port) (NoCut x) chain.label) x.chains) (λ (x : Linked). Every (IsOfBound x) x.chains) a.controller.ports
    (λ x all. every_map (λ (chain : LabelChain). Remains (labels_of x.port) (NoCut x) chain.label) (IsOfBound x) x.chains
    (λ chain r. record { label = r.label; found = r.found; bound = elim r.live [ inl b ↦ b | inr cut ↦ absurd cut ] }) all) (always_tied o inputs is).tied.chains

-- *The journal*, and whose its records are
pub journals_grow : JournalsGrow
journals_grow o inputs input is own = input_grows o.node (setups_by o) (links_by o is) (nodes_by o) (noted_by_all (opened_by o) inputs) (takes_inputs (opened_by o) inputs) input own (always_holds o inputs is) (always_tied o inputs is)

pub notes_own : NotesOwn
notes_own o inputs input is = input_own o.node (setups_by o) (links_by o is) (nodes_by o) (noted_by_all (opened_by o) inputs) (takes_inputs (opened_by o) inputs) input (always_holds o inputs is) (always_tied o inputs is)
