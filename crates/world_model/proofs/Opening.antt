-- the opening of every topology has the shape of a world: its ports ascend, and its nodes are numbered in order

use Rattle.std.proofs.Common.{◌≡◌, ℕ, zero, suc, ◌<◌, ◌≤◌, ◌+◌, ◌==◌, Bool, true, false, cond, List, [], ◌∷◌, ◌++◌, length, length-append, map, filter, find, reverse, slice_index, slice_index_or, is_some, Some, refl, sym, ◌∙◌, ap, subst, arith}
use Rattle.std.specs.List.{range_with_len}
use Rattle.std.specs.List.Sorted.{IsStrictlyIncreasing}
use Rattle.std.specs.Option.{option_map_or}
use Rattle.std.proofs.lemmas.Bool.Decides.{nat_tests}
use Rattle.network_model.specs.net_types.declared.node.NodeId.{NodeId}
use Rattle.network_model.specs.net_types.declared.node.PortNo.{PortNo}
use Rattle.network_model.specs.net_types.Number.{GivenOut}
use Rattle.network_model.specs.crossbar_model.Channels.{IsLinkPort, ArePorts}
use Rattle.network_model.specs.port_model.Setup.{Policy, Setup}
use Rattle.world_model.specs.controller_model.declared.range.PortRange.{PortRange}
use Rattle.world_model.specs.Controller.{Linked, ports_of}
use Rattle.world_model.specs.Opening.{opens_ports}
use Rattle.world_model.specs.Topology as topologies
use Rattle.world_model.specs.Topology.{Topology, Node, peer_of, default_range, range_among, ranges_of}
use Rattle.world_model.specs.World.{World, Site, empty_world, opened, opened_site, with_opened, opens_each}
use Rattle.world_model.specs.Places.{IsShapedSite, AreShaped, IsShaped}

-- ports ascend from above a number, up to 8
abbrev Rises : ℕ → List PortNo → Type 0
Rises below [] = Unit {0}
Rises below (port ∷ ports) = (below < port.0) × ((port.0 ≤ 8) × Rises port.0 ports)

rises_less : (less below : ℕ) (ports : List PortNo) → less ≤ below → Rises below ports → Rises less ports
rises_less less below [] low r = tt
rises_less less below (port ∷ ports) low r = (omega (arith, low, r.0), r.1)

rises_filter : (test : PortNo → Bool) (below : ℕ) (ports : List PortNo) → Rises below ports → Rises below (filter test ports)
rises_filter test below [] r = tt
rises_filter test below (port ∷ ports) r = elim (test port) as (λ t. Rises below (cond t (port ∷ filter test ports) (filter test ports))) [
  | true ↦ (r.0, (r.1.0, rises_filter test port.0 ports r.1.1))
  | false ↦ rises_less below port.0 (filter test ports) (omega (arith, r.0)) (rises_filter test port.0 ports r.1.1)
]

each_port : (below : ℕ) (ports : List PortNo) → Rises below ports → (k : ℕ) (d : PortNo) → k < length ports → IsLinkPort (slice_index_or ports k d)
each_port below [] r k d low = absurd (omega (arith, low))
each_port below (port ∷ ports) r zero d low = (omega (arith, r.0), r.1.0)
each_port below (port ∷ ports) r (suc k) d low = each_port port.0 ports r.1.1 k d (omega (arith, low))

ascends : (below : ℕ) (ports : List PortNo) → Rises below ports → IsStrictlyIncreasing (map (λ (p : PortNo). p.0) ports)
ascends below [] r k low = absurd (omega (arith, low))
ascends below (port ∷ []) r k low = absurd (omega (arith, low))
ascends below (port ∷ next ∷ ports) r zero low = r.1.1.0
ascends below (port ∷ next ∷ ports) r (suc k) low =
    let up : suc (k + 1) ≡ suc k + 1 = omega arith in
    subst (λ j. slice_index (map (λ (p : PortNo). p.0) (next ∷ ports)) k < slice_index (map (λ (p : PortNo). p.0) (port ∷ next ∷ ports)) j) up
    (ascends port.0 (next ∷ ports) r.1.1 k (omega (arith, low)))

abbrev port_number : ℕ → PortNo
port_number n = record { 0 = n }

all_ports : Rises 0 (map port_number (range_with_len 1 8))
all_ports = (
  omega arith,
  (
    omega arith,
    (
      omega arith,
      (
        omega arith,
        (
          omega arith,
          (
            omega arith,
            (
              omega arith,
              (
                omega arith,
                (omega arith, (omega arith, (omega arith, (omega arith, (omega arith, (omega arith, (omega arith, (omega arith, tt)))))))),
              ),
            ),
          ),
        ),
      ),
    ),
  ),
)

pub ports_are : (t : Topology) (node : NodeId) → ArePorts (topologies.linked_ports t node)
ports_are t node =
    let r = rises_filter (λ port. is_some (peer_of t node port)) 0 (map port_number (range_with_len 1 8)) all_ports in
    record {
      of_links = each_port 0 (topologies.linked_ports t node) r;
      ascending = ascends 0 (topologies.linked_ports t node) r;
    }

-- *The ranges of a node* are of its ports
found_range : (port : PortNo) (ranges : List PortRange) → (option_map_or (λ range. range) (find (λ range. range.port.0 == port.0) ranges) (default_range port)).port ≡ port
found_range port [] = refl
found_range port (range ∷ ranges) = elim (range.port.0 == port.0) as (λ t. (range.port.0 == port.0) ≡ t
    → (option_map_or (λ range. range) (cond t (Some range) (find (λ range. range.port.0 == port.0) ranges)) (default_range port)).port ≡ port) [
      | true ↦ λ e. (let same : range.port.0 ≡ port.0 = grind (arith, nat_tests, e) in ap port_number same)
      | false ↦ λ e. found_range port ranges
    ] refl

range_ports : (ranges : List PortRange) (ports : List PortNo) → map (λ (range : PortRange). range.port) (map (range_among ranges) ports) ≡ ports
range_ports ranges [] = refl
range_ports ranges (port ∷ ports) =
    ap (λ p. p ∷ map (λ (range : PortRange). range.port) (map (range_among ranges) ports)) (found_range port (reverse ranges))
    ∙ ap (λ ps. port ∷ ps) (range_ports ranges ports)

opened_ports : (setup : PortRange → Setup) (instances : ℕ) (ranges : List PortRange) → ((range : PortRange) → (setup range).port ≡ range.port)
    → map (λ (linked : Linked). linked.setup.port) (opens_ports setup instances ranges) ≡ map (λ (range : PortRange). range.port) ranges
opened_ports setup instances [] same = refl
opened_ports setup instances (range ∷ ranges) same =
    ap (λ p. p ∷ map (λ (linked : Linked). linked.setup.port) (opens_ports setup (instances + 1) ranges)) (same range)
    ∙ ap (λ ps. range.port ∷ ps) (opened_ports setup (instances + 1) ranges same)

-- a controller has the linked ports of its node
pub site_ports : (policy : Policy) (t : Topology) (number : NodeId) (node : Node) (numbers : GivenOut)
    → ports_of (opened_site policy t number node numbers).controller ≡ topologies.linked_ports t number
site_ports policy t number node numbers =
    opened_ports _ (numbers.instances + 1) (ranges_of t number node) (λ range. refl) ∙ range_ports node.ranges (topologies.linked_ports t number)

-- *Nodes are numbered in order*
shaped_more : (number : ℕ) (sites : List Site) (site : Site) → AreShaped number sites → IsShapedSite (number + length sites) site → AreShaped number (sites ++ site ∷ [])
shaped_more number [] site s new = (subst (λ n. IsShapedSite n site) (omega arith) new, tt)
shaped_more number (x ∷ sites) site s new = (s.0, shaped_more (suc number) sites site s.1 (subst (λ n. IsShapedSite n site) (omega arith) new))

shaped_each : (policy : Policy) (t : Topology) (w : World) (place : ℕ) (nodes : List Node) → IsShaped w → 1 + length w.sites ≡ place
    → IsShaped (opens_each policy t w place nodes)
shaped_each policy t w place [] s at = s
shaped_each policy t w place (node ∷ nodes) s at =
    let number : NodeId = record { 0 = place } in
    let site = opened_site policy t number node w.numbers in
    shaped_each policy t (with_opened policy t w place node) (suc place) nodes
    (shaped_more 1 w.sites site s (record {
      node = sym at;
      queues = refl;
      ports = subst ArePorts (sym (site_ports policy t number node w.numbers)) (ports_are t number);
    }))
    (omega (arith, length-append w.sites (site ∷ []), at))

pub opened_is_shaped : (policy : Policy) (t : Topology) → IsShaped (opened policy t)
opened_is_shaped policy t = shaped_each policy t empty_world 1 t.nodes tt refl
