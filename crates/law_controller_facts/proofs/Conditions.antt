-- what stands moves labels alone, each join's grant is found, and a label's channel of a link shows on the control link

use Rattle.std.proofs.Common.{◌≡◌, ◌<◌, Bool, true, false, List, refl, sym, ◌∙◌, subst, arith}
use Rattle.std.specs.Prelude.{◌&&◌, nat_le, IsTrue}
use Rattle.std.proofs.lemmas.Bool.Decides.{nat_tests}
use Rattle.claims_model.specs.world_model.Words.{Channel, End, is_label_channel, is_label_number, label_channel_of, Request, IsLinkPort, Standing, Setup, Controller, joins_of}
use Rattle.law_port_facts.specs.ordered_lists.Ordered.{Every}
use Rattle.law_port_facts.proofs.ordered_lists.Every.{every_map}
use Rattle.law_port_facts.specs.Port.{setup_port, IsLabelEnd, IsShaped, asks_ports, empties_control, empties_port, opens_input, opens_output, leads_label, leads_grant, joins_label, parts_label, frees_label}
use Rattle.law_port_facts.proofs.Keyed.{at_every}
use Rattle.law_port_facts.proofs.Rules.{and_first}
use Rattle.claims_model.specs.world_model.Controller.{Acted}
use Rattle.law_controller_facts.specs.Sound.{IsSound, Always}
use Rattle.law_controller_facts.specs.Conditions.{MovesLabels, HasMovingRequests, IsGranted, HasGrantedJoins, HasHome}
use Rattle.law_controller_facts.proofs.Moves.{HasPorts}
use Rattle.law_controller_facts.proofs.Joining.{IsJoin, joins_are, join_input, join_output}
use Rattle.law_controller_facts.proofs.Laws.{has_ports, always_sound}
use Rattle.law_controller_facts.specs.Sound.{opened_by, setups_by}
use Rattle.law_controller_facts.specs.Inputs.{takes_inputs}

-- a label's channel is one
pub of_label : (setups : List Setup) (end : End) → IsLabelEnd setups end → IsTrue (is_label_channel end.channel)
of_label setups end e = subst (λ (x : End). IsTrue (is_label_channel x.channel)) (sym e.is)
    (and_first (is_label_number e.number) (nat_le e.setup.least e.number && nat_le e.number e.setup.greatest) e.in_range)

has_vpi : (channel : Channel) → IsTrue (is_label_channel channel) → channel.vpi < 16
has_vpi channel label = grind (arith, nat_tests)

pub label_has_home : (setups : List Setup) (end : End) → Every (λ (setup : Setup). IsLinkPort setup.port) setups → IsLabelEnd setups end → HasHome end
label_has_home setups end links e =
    let link : IsLinkPort e.setup.port = at_every setup_port (λ (setup : Setup). IsLinkPort setup.port) e.setup.port.0 setups e.setup links e.linked in
    subst HasHome (sym e.is) (record { least = link.0; most = link.1; vpi = has_vpi (label_channel_of e.number) (and_first (is_label_number e.number) (nat_le e.setup.least e.number && nat_le e.number e.setup.greatest) e.in_range) })

-- *Requests*
not_zero : (b : Bool) → b ≡ true → b ≡ false → ⊥
not_zero b t f = absurd (cc (sym t ∙ f))

pub shaped_moves : (setups : List Setup) (request : Request) → IsShaped setups request → MovesLabels request
shaped_moves setups request asks_ports = tt
shaped_moves setups request (empties_control port e) = tt
shaped_moves setups request (empties_port port e) = tt
shaped_moves setups request (opens_input end e) = tt
shaped_moves setups request (opens_output end e) = tt
shaped_moves setups request (leads_label end e) = tt
shaped_moves setups request (leads_grant end e) = tt
shaped_moves setups request (joins_label input output i o) = (of_label setups input i, λ other. of_label setups output o)
shaped_moves setups request (parts_label input output i o) = (of_label setups input i, λ other. absurd (not_zero true refl other))
shaped_moves setups request (frees_label end e) = tt

pub sound_moves : (setups : List Setup) (c : Controller) → IsSound setups c → HasMovingRequests setups c
sound_moves setups c s = every_map _ (λ (x : Standing). MovesLabels x.request) c.desk.standing (λ x shaped. shaped_moves setups x.request shaped) s.requests

-- *Joins*
pub joins_granted : (setups : List Setup) (a : Acted) → HasPorts setups a → HasGrantedJoins setups a.controller
joins_granted setups a h = every_map (IsJoin setups a) (IsGranted setups a.controller) (joins_of a.controller)
    (λ join is. record {
      linked = is.linked;
      found = is.found;
      granted = is.granted;
      lent = is.input;
      input = join_input setups a join h is;
      output = join_output setups a join h is;
    }) (joins_are setups a h)

pub sound_granted : (setups : List Setup) (a : Acted) → IsSound setups a.controller → HasGrantedJoins setups a.controller
sound_granted setups a s = joins_granted setups a (has_ports setups a s)

-- *The laws*
pub always_moves : Always HasMovingRequests
always_moves o inputs differ = sound_moves (setups_by o) _ (always_sound o inputs differ)

pub always_granted : Always HasGrantedJoins
always_granted o inputs differ = sound_granted (setups_by o) (takes_inputs (opened_by o) inputs) (always_sound o inputs differ)
