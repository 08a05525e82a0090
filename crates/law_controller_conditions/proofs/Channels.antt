-- a label in the range of a linked port has a channel of the control link

use Rattle.std.proofs.Common.{◌≡◌, ℕ, true, false, List, [], ◌∷◌, Option, Some, refl, ◌∙◌, ap, map, is_some}
use Rattle.std.specs.Prelude.{◌&&◌, nat_le}
use Rattle.std.specs.Option.{option_map, option_map_or}
use Rattle.law_controller.specs.world_model.Words.{PortNo, is_label_number, at, Setup, is_in_range, Linked, port_key}
use Rattle.law_controller.specs.law_port_facts.Port.{setup_port}
use Rattle.law_controller.proofs.law_port_facts.Keyed.{at_map}
use Rattle.law_controller.proofs.law_port_facts.Rules.{and_second}
use Rattle.law_controller.specs.world_model.controller_model.declared.range.PortRange.{PortRange}
use Rattle.law_controller.specs.law_controller_facts.Sound.{linked_setup}
use Rattle.controller_router.specs.controller_link.Cells.{range_key, is_label_of, is_channel}
use Rattle.controller_router.specs.controller_link.declared.taker.Taker.TheVariants.{Default, Label}
use Rattle.controller_router.specs.Node.{linked_range}

abbrev setup_range : Setup → PortRange
setup_range setup = record { port = setup.port; lo = setup.least; hi = setup.greatest }

ranges_by : (ports : List Linked) → map linked_range ports ≡ map setup_range (map linked_setup ports)
ranges_by [] = refl
ranges_by (linked ∷ ports) = ap (λ (rest : List PortRange). linked_range linked ∷ rest) (ranges_by ports)

pub label_channel : (setups : List Setup) (ports : List Linked) (port : PortNo) (setup : Setup) (label : ℕ) → map linked_setup ports ≡ setups → at setup_port port.0 setups ≡ Some setup → is_in_range setup label ≡ true
    → is_channel (map linked_range ports) (Label port label) ≡ true
label_channel setups ports port setup label same found inside =
    ap (λ (ranges : List PortRange). is_channel ranges (Label port label)) (ranges_by ports ∙ ap (map setup_range) same)
    ∙ ap (λ (o : Option PortRange). option_map_or (λ (range : PortRange). is_label_of range label) o false) (at_map setup_port range_key setup_range (λ x. refl) port.0 setups ∙ ap (option_map setup_range) found)
    ∙ and_second (is_label_number label) (nat_le setup.least label && nat_le label setup.greatest) inside

-- so has the default channel of a linked port
pub default_is_channel : (ports : List Linked) (port : PortNo) (linked : Linked) → at port_key port.0 ports ≡ Some linked → is_channel (map linked_range ports) (Default port) ≡ true
default_is_channel ports port linked found = ap is_some (at_map port_key range_key linked_range (λ x. refl) port.0 ports ∙ ap (option_map linked_range) found)
