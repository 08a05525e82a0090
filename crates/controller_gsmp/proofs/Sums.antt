-- A controller has the free slots of its control link.

use Rattle.std.proofs.Common.{◌≡◌, ◌+◌, ◌-◌, List, [], ◌∷◌, length, map, refl, ap, sym, ◌∙◌}
use Rattle.std.specs.List.{sum_by}
use Rattle.std.proofs.lemmas.List.Sums.{sum_by-cons}
use Rattle.net_types.specs.declared.node.PortNo.{PortNo}
use Rattle.world_model.specs.Controller as model
use Rattle.controller_link.specs.Cells as cells
use Rattle.controller_link.specs.Cells.{PortCells, ranges_of}
use Rattle.controller_gsmp.specs.Client.{AreOneNode, Client, PortEnd, Router, controller_of, end_port, linked_of, linked_ports}

-- the ports of each part of a region
abbrev pub ports_in : List PortCells → List PortNo
ports_in ports = map (λ range. range.port) (map (λ (port : PortCells). port.range) ports)

pub tails : {A : Type 0} (x y : A) (xs ys : List A) → x ∷ xs ≡ y ∷ ys → xs ≡ ys
tails x y xs ys e = cc e

pub heads : {A : Type 0} (x y : A) (xs ys : List A) → x ∷ xs ≡ y ∷ ys → x ≡ y
heads x y xs ys e = cc e

slots_are : (ends : List PortEnd) (ports : List PortCells) → ports_in ports ≡ map end_port ends → sum_by model.port_slots (linked_ports ends ports) ≡ sum_by cells.port_slots ports
slots_are [] [] e = refl
slots_are [] (port ∷ ports) e = absurd (cc e)
slots_are (end ∷ ends) [] e = absurd (cc e)
slots_are (end ∷ ends) (port ∷ ports) e =
    sum_by-cons model.port_slots (linked_of end port) (linked_ports ends ports)
    ∙ ap (λ n. cells.port_slots port + n) (slots_are ends ports (tails _ _ _ _ e))
    ∙ sym (sum_by-cons cells.port_slots port ports)

pub free_is : (r : Router) (x : Client) → AreOneNode r x → model.free_slots (controller_of r x) ≡ cells.free_slots x.control
free_is r x node =
    ap (λ n. x.control.cells - (length x.control.queue + (model.chain_slots x.control.reassembly + n))) (slots_are r.ports x.control.ports node.ports)
