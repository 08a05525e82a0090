-- The nodes of a network in a run

use Rattle.std.proofs.Common.{◌≡◌, ℕ, zero, suc, ◌+◌, ◌<◌, ◌≤◌, Bool, true, false, List, [], ◌∷◌, ◌++◌, append_assoc, length, map, min, filter, slice_get, Option, None, Some, refl, sym, ◌∙◌, ap, subst, arith, flat_map, cond}
use Rattle.std.specs.List.{range_with_len, sum_by}
use Rattle.std.specs.Prelude.{is_some}
use Rattle.std.specs.Option.{option_map, option_map_or}
use Rattle.std.proofs.lemmas.List.Concat.{flat_map-cons}
use Rattle.std.proofs.lemmas.List.Folds.{flat_map-map}
use Rattle.net_types.specs.declared.node.NodeId.{NodeId}
use Rattle.net_types.specs.declared.node.PortNo.{PortNo}
use Rattle.net_types.specs.declared.node.Place.{Place}
use Rattle.net_types.specs.declared.node.Place.TheVariants.{Down, Up, Out}
use Rattle.atm_cells.specs.declared.cell.Cell.{Cell}
use Rattle.world_model.specs.Controller.{Controller, Linked, ports_of}
use Rattle.port_model.specs.Port.{labels_of}
use Rattle.port_model.specs.Redirection.{greatest_tally}
use Rattle.world_model.specs.Conditions.{IsNode, IsPlace}
use Rattle.world_model.specs.Places.{place_node, queue_at, queue_in, queue_number}
use Rattle.world_model.specs.Switch.{Switch}
use Rattle.world_model.specs.Topology as topologies
use Rattle.world_model.specs.Topology.{Topology, peer_of}
use Rattle.world_model.specs.World.{World, Site, site_at}
use Rattle.world.specs.declared.world.World.{World as Network}
use Rattle.world.specs.Network.{IsNodeIn, no_notes, sites_of, world_of}
use Rattle.world.specs.Running.{Runs}
use Rattle.world.proofs.Acting.{at_numbered}
use Rattle.world.proofs.Conditions.{place_in, queue_low}
use Rattle.world.proofs.Places.{place_is}
use Rattle.law_world_pace.specs.Running.{IsRunningSite, numbered}
use Rattle.law_world_pace.proofs.Running.{are_numbered, site_runs}
use Rattle.show_text.specs.Shown.{controller_lines, grants_in, labels_in, queue_line, queue_lines, site_lines}
use Rattle.show_text.specs.Switch.{switch_lines}
use Rattle.tell_show.specs.Held.{port_queue_line}

length_mapped : {A B : Type 0} (f : A → B) (xs : List A) → length (map f xs) ≡ length xs
length_mapped f [] = refl
length_mapped f (x ∷ xs) = ap suc (length_mapped f xs)

-- *A node* by its place among the others
module _ {C : Type 0} (seen : C → Controller) (t : Topology) (n : Network C) (runs : Runs seen t n) where
  abbrev pub shown_world : World
  shown_world = world_of seen n no_notes

  pub nodes_are : length shown_world.sites ≡ length t.nodes
  nodes_are = runs.world.nodes

  pub node_in : (place : ℕ) → place < length t.nodes → IsNodeIn n (record { 0 = place + 1 })
  node_in place low =
      let sites : length (sites_of seen n.sites.items) ≡ length n.sites.items = length_mapped _ n.sites.items in
      let nodes : length (sites_of seen n.sites.items) ≡ length t.nodes = runs.world.nodes in
      (omega arith, omega (arith, low, sites, nodes))

  pub is_node : (node : NodeId) → IsNodeIn n node → IsNode t node
  is_node node within =
      let sites : length (sites_of seen n.sites.items) ≡ length n.sites.items = length_mapped _ n.sites.items in
      let nodes : length (sites_of seen n.sites.items) ≡ length t.nodes = runs.world.nodes in
      (within.0, omega (arith, within.1, sites, nodes))

  pub site_found : (place : ℕ) (site : Site) → slice_get shown_world.sites place ≡ Some site → site_at shown_world (record { 0 = place + 1 }) ≡ Some site
  site_found place site is = at_numbered 1 place (place + 1) shown_world.sites (omega arith) (are_numbered t n.events 1 shown_world.sites runs.world.sites) ∙ is

  pub site_is : (node : NodeId) (site : Site) → site_at shown_world node ≡ Some site → IsRunningSite t n.events node.0 site
  site_is node site found = site_runs t n.events 1 node.0 shown_world.sites site runs.world.sites found

same_node : (a b : NodeId) → a.0 ≡ b.0 → a ≡ b
same_node a b e = ap numbered e

pub node_is : (t : Topology) (events : ℕ) (node : NodeId) (site : Site) → IsRunningSite t events node.0 site → site.controller.node ≡ node
node_is t events node site is = same_node site.controller.node node is.node

-- *Ports of links* are 1 to 8
abbrev AreLow : List PortNo → Type 0
AreLow [] = Unit {0}
AreLow (port ∷ ports) = (port.0 ≤ 8) × AreLow ports

filter_low : (test : PortNo → Bool) (ports : List PortNo) → AreLow ports → AreLow (filter test ports)
filter_low test [] low = tt
filter_low test (port ∷ ports) low = elim (test port) as (λ b. AreLow (cond b (port ∷ filter test ports) (filter test ports))) [
  | true ↦ (low.0, filter_low test ports low.1)
  | false ↦ filter_low test ports low.1
]

low_at : (ports : List PortNo) (place : ℕ) (port : PortNo) → AreLow ports → slice_get ports place ≡ Some port → port.0 ≤ 8
low_at [] place port low is = absurd (cc is)
low_at (first ∷ ports) zero port low is = (let same : first ≡ port = cc in subst (λ (p : PortNo). p.0 ≤ 8) same low.0)
low_at (first ∷ ports) (suc place) port low is = low_at ports place port low.1 is

all_low : AreLow (map (λ n. record { 0 = n }) (range_with_len 1 8))
all_low = (omega arith, (omega arith, (omega arith, (omega arith, (omega arith, (omega arith, (omega arith, (omega arith, tt))))))))

pub port_low : (t : Topology) (events : ℕ) (node : NodeId) (site : Site) (place : ℕ) (port : PortNo) → IsRunningSite t events node.0 site
    → slice_get (ports_of site.controller) place ≡ Some port → port.0 ≤ 8
port_low t events node site place port is found =
    low_at (topologies.linked_ports t (numbered node.0)) place port
    (filter_low (λ p. is_some (peer_of t (numbered node.0) p)) (map (λ n. record { 0 = n }) (range_with_len 1 8)) all_low)
    (ap (λ (ps : List PortNo). slice_get ps place) (sym is.ports) ∙ found)

-- *Queues* of a node
pub queues_are : (t : Topology) (site : Site) (node : NodeId) → site.controller.node ≡ node
    → queue_line t (Down node) (length (queue_in site (Down node))) ++ (queue_line t (Up node) (length (queue_in site (Up node)))
    ++ flat_map (port_queue_line t site node) (ports_of site.controller)) ≡ queue_lines t site
queues_are t site node is =
    let own = site.controller.node in
    let line : Place → List ℕ = λ place. queue_line t place (length (queue_in site place)) in
    let ports : List Place = map (λ port. Out own port) (ports_of site.controller) in
    ap (λ (n : NodeId). line (Down n) ++ (line (Up n) ++ flat_map (port_queue_line t site n) (ports_of site.controller))) (sym is)
    ∙ ap (λ rest. line (Down own) ++ (line (Up own) ++ rest)) (sym (flat_map-map line (λ port. Out own port) (ports_of site.controller)))
    ∙ ap (λ rest. line (Down own) ++ rest) (sym (flat_map-cons line (Up own) ports))
    ∙ sym (flat_map-cons line (Down own) (Up own ∷ ports))

-- *What is read of a node* is of its site
pub record IsSiteOf (o : Option Site) (c : Controller) : Type 0 where
  pub site : Site
  pub found : o ≡ Some site
  pub is : site.controller ≡ c

pub site_of_controller : (o : Option Site) (c : Controller) → option_map (λ site. site.controller) o ≡ Some c → IsSiteOf o c
site_of_controller None c e = absurd (cc e)
site_of_controller (Some site) c e = record { site = site; found = refl; is = cc e }

pub its_controller : (o : Option Site) (site : Site) (c : Controller) → o ≡ Some site → option_map (λ site. site.controller) o ≡ Some c → site.controller ≡ c
its_controller o site c found e = (let same : ◌≡◌ {A = Option Controller} (Some site.controller) (Some c) = ap (option_map (λ (s : Site). s.controller)) (sym found) ∙ e in cc)

pub its_switch : (o : Option Site) (site : Site) (s : Switch) → o ≡ Some site → option_map (λ site. site.switch) o ≡ Some s → site.switch ≡ s
its_switch o site s found e = (let same : ◌≡◌ {A = Option Switch} (Some site.switch) (Some s) = ap (option_map (λ (s : Site). s.switch)) (sym found) ∙ e in cc)

-- *A queue of its* is the network's
pub queue_found : (w : World) (place : Place) (site : Site) → site_at w (place_node place) ≡ Some site → queue_at w place ≡ queue_in site place
queue_found w place site found = ap (λ (o : Option Site). option_map_or (λ (s : Site). queue_in s place) o []) found

-- *A node's lines*, part by part
pub queues_written : (t : Topology) (site : Site) (node : NodeId) → site.controller.node ≡ node → (old one two new : List ℕ) (down up : List Cell)
    → down ≡ queue_in site (Down node) → up ≡ queue_in site (Up node)
    → one ≡ old ++ queue_line t (Down node) (length down) → two ≡ one ++ queue_line t (Up node) (length up)
    → new ≡ two ++ flat_map (port_queue_line t site node) (ports_of site.controller) → new ≡ old ++ queue_lines t site
queues_written t site node is old one two new down up down_is up_is first second third =
    let downs : List ℕ = queue_line t (Down node) (length (queue_in site (Down node))) in
    let ups : List ℕ = queue_line t (Up node) (length (queue_in site (Up node))) in
    let ports : List ℕ = flat_map (port_queue_line t site node) (ports_of site.controller) in
    let one_is : one ≡ old ++ downs = first ∙ ap (λ (cells : List Cell). old ++ queue_line t (Down node) (length cells)) down_is in
    let two_is : two ≡ one ++ ups = second ∙ ap (λ (cells : List Cell). one ++ queue_line t (Up node) (length cells)) up_is in
    third ∙ ap (λ xs. xs ++ ports) (two_is ∙ ap (λ xs. xs ++ ups) one_is) ∙ append_assoc (old ++ downs) ups ports ∙ append_assoc old downs (ups ++ ports)
    ∙ ap (λ xs. old ++ xs) (queues_are t site node is)

pub site_written : (t : Topology) (site : Site) (node : NodeId) (c : Controller) (s : Switch) → site.controller.node ≡ node → site.controller ≡ c → site.switch ≡ s
    → (old one two new : List ℕ) → one ≡ old ++ controller_lines t c → two ≡ one ++ switch_lines t node s → new ≡ two ++ queue_lines t site → new ≡ old ++ site_lines t site
site_written t site node c s node_is controller_is switch_is old one two new first second third =
    let controllers : List ℕ = controller_lines t site.controller in
    let switches : List ℕ = switch_lines t site.controller.node site.switch in
    let one_is : one ≡ old ++ controllers = first ∙ ap (λ (x : Controller). old ++ controller_lines t x) (sym controller_is) in
    let two_is : two ≡ one ++ switches = second ∙ (λ i. one ++ switch_lines t (sym node_is i) (sym switch_is i)) in
    third ∙ ap (λ xs. xs ++ queue_lines t site) (two_is ∙ ap (λ xs. xs ++ switches) one_is)
    ∙ append_assoc (old ++ controllers) switches (queue_lines t site) ∙ append_assoc old controllers (switches ++ queue_lines t site)

-- *Its labels and grants* are those of its controller
pub labels_read : (site : Site) (c : Controller) → site.controller ≡ c → min greatest_tally (sum_by (λ (linked : Linked). length (labels_of linked.port)) c.ports) ≡ min greatest_tally (labels_in site)
labels_read site c is = ap (λ (x : Controller). min greatest_tally (sum_by (λ (linked : Linked). length (labels_of linked.port)) x.ports)) (sym is)

pub grants_read : (site : Site) (c : Controller) → site.controller ≡ c → min greatest_tally (sum_by (λ (linked : Linked). length linked.port.grants) c.ports) ≡ min greatest_tally (grants_in site)
grants_read site c is = ap (λ (x : Controller). min greatest_tally (sum_by (λ (linked : Linked). length linked.port.grants) x.ports)) (sym is)

-- *Each queue of a round* is one of the network's
pub record IsKnown {C : Type 0} (n : Network C) (place : Place) : Type 0 where
  pub node : IsNodeIn n (place_node place)
  pub port : queue_number place ≤ 9

pub place_known : {C : Type 0} (seen : C → Controller) (t : Topology) (n : Network C) → Runs seen t n → (i : ℕ) (place : Place) → slice_get n.round.items i ≡ Some place → IsKnown n place
place_known seen t n runs i place is =
    let sites : length (sites_of seen n.sites.items) ≡ length n.sites.items = length_mapped _ n.sites.items in
    let nodes : length (sites_of seen n.sites.items) ≡ length t.nodes = runs.world.nodes in
    let whole : IsPlace t place = place_is t n.events 1 (sites_of seen n.sites.items) runs.world.sites (omega arith) (omega (arith, nodes)) i place
    (ap (λ (ps : List Place). slice_get ps i) (sym runs.round) ∙ is) in
    record { node = place_in seen t n runs place whole; port = queue_low seen t n runs place whole }
