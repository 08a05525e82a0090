-- the controllers of a run are opened with ports of links, of different numbers, and at most 8

use Rattle.std.proofs.Common.{◌≡◌, ◌≢◌, ℕ, suc, ◌≤◌, ◌<◌, Bool, true, false, List, [], ◌∷◌, length, Some, refl, sym, ap, subst, arith, map, cond}
use Rattle.std.specs.Prelude.{◌+◌, ◌==◌, filter, find, is_some, reverse}
use Rattle.std.specs.List.{range_with_len}
use Rattle.std.specs.Option.{option_map_or}
use Rattle.std.proofs.lemmas.Bool.Decides.{nat_tests}
use Rattle.law_controller.specs.world_model.Words.{NodeId, PortNo, GivenOut, Journal, IsLinkPort, Policy, Topology, Node, default_range, range_among, ranges_of, timers_of, World, Site, opened_site, with_opened, opens_each, empty_world}
use Rattle.law_controller.specs.ordered_lists.Ordered.{Every, InOrder}
use Rattle.law_controller.proofs.law_port_facts.Keyed.{every_more}
use Rattle.law_controller.specs.world_model.controller_model.declared.range.PortRange.{PortRange}
use Rattle.law_controller.specs.law_controller_facts.Inputs.{Input, takes_inputs}
use Rattle.law_controller.specs.law_controller_facts.Sound.{Opening, DifferInPort, opened_by}
use Rattle.law_controller.specs.Law.{IsOpening}
use Rattle.law_controller.specs.world_model.Topology.{peer_of, linked_ports}
use Rattle.law_controller.specs.world_model.World.{opened}

abbrev port_number : ℕ → PortNo
port_number n = record { 0 = n }

-- *The ports of a node* ascend up to 8
abbrev Rises : ℕ → List PortNo → Type 0
Rises below [] = Unit {0}
Rises below (port ∷ ports) = (below < port.0) × ((port.0 ≤ 8) × Rises port.0 ports)

rises_less : (less below : ℕ) (ports : List PortNo) → less ≤ below → Rises below ports → Rises less ports
rises_less less below [] low r = tt
rises_less less below (port ∷ ports) low r = (omega (arith, low, r.0), r.1)

rises_filter : (test : PortNo → Bool) (below : ℕ) (ports : List PortNo) → Rises below ports → Rises below (filter test ports)
rises_filter test below [] r = tt
rises_filter test below (port ∷ ports) r = elim (test port) as (λ t. Rises below (cond t (port ∷ filter test ports) (filter test ports))) [
  | true ↦ (r.0, (r.1.0, rises_filter test port.0 ports r.1.1))
  | false ↦ rises_less below port.0 (filter test ports) (omega (arith, r.0)) (rises_filter test port.0 ports r.1.1)
]

-- *Ranges* of such ports
abbrev RisesRanges : ℕ → List PortRange → Type 0
RisesRanges below [] = Unit {0}
RisesRanges below (range ∷ ranges) = (below < range.port.0) × ((range.port.0 ≤ 8) × RisesRanges range.port.0 ranges)

found_range : (port : PortNo) (ranges : List PortRange) → (option_map_or (λ range. range) (find (λ range. range.port.0 == port.0) ranges) (default_range port)).port ≡ port
found_range port [] = refl
found_range port (range ∷ ranges) = elim (range.port.0 == port.0) as (λ t. (range.port.0 == port.0) ≡ t
    → (option_map_or (λ range. range) (cond t (Some range) (find (λ range. range.port.0 == port.0) ranges)) (default_range port)).port ≡ port) [
      | true ↦ λ e. (let same : range.port.0 ≡ port.0 = grind (arith, nat_tests, e) in ap port_number same)
      | false ↦ λ e. found_range port ranges
    ] refl

ranges_rise : (ranges : List PortRange) (below : ℕ) (ports : List PortNo) → Rises below ports → RisesRanges below (map (range_among ranges) ports)
ranges_rise ranges below [] r = tt
ranges_rise ranges below (port ∷ ports) r = (let same : (range_among ranges port).port.0 ≡ port.0 = ap (λ (p : PortNo). p.0) (found_range port (reverse ranges)) in
    (subst (λ n. below < n) (sym same) r.0, (subst (λ n. n ≤ 8) (sym same) r.1.0, subst (λ n. RisesRanges n (map (range_among ranges) ports)) (sym same) (ranges_rise ranges port.0 ports r.1.1))))

all_links : (below : ℕ) (ranges : List PortRange) → RisesRanges below ranges → Every (λ (range : PortRange). IsLinkPort range.port) ranges
all_links below [] r = tt
all_links below (range ∷ ranges) r = ((omega (arith, r.0), r.1.0), all_links range.port.0 ranges r.1.1)

above : (below : ℕ) (ranges : List PortRange) → RisesRanges below ranges → Every (λ (range : PortRange). below < range.port.0) ranges
above below [] r = tt
above below (range ∷ ranges) r = (r.0, each_above below range.port.0 ranges r.0 (above range.port.0 ranges r.1.1))
  where
    each_above : (low high : ℕ) (xs : List PortRange) → low < high → Every (λ (range : PortRange). high < range.port.0) xs → Every (λ (range : PortRange). low < range.port.0) xs
    each_above low high [] up h = tt
    each_above low high (x ∷ xs) up h = (omega (arith, up, h.0), each_above low high xs up h.1)

all_differ : (below : ℕ) (ranges : List PortRange) → RisesRanges below ranges → InOrder DifferInPort ranges
all_differ below [] r = tt
all_differ below (range ∷ ranges) r = (each_differs range ranges (above range.port.0 ranges r.1.1), all_differ range.port.0 ranges r.1.1)
  where
    less : (a b : ℕ) → a < b → a ≢ b
    less a b up e = omega (arith, up, e)

    each_differs : (range : PortRange) (xs : List PortRange) → Every (λ (x : PortRange). range.port.0 < x.port.0) xs → Every (DifferInPort range) xs
    each_differs range [] h = tt
    each_differs range (x ∷ xs) h = (less range.port.0 x.port.0 h.0, each_differs range xs h.1)

all_few : (below : ℕ) (ranges : List PortRange) → RisesRanges below ranges → below ≤ 8 → length ranges + below ≤ 8
all_few below [] r low = omega (arith, low)
all_few below (range ∷ ranges) r low = (let rest : length ranges + range.port.0 ≤ 8 = all_few range.port.0 ranges r.1.1 r.1.0 in omega (arith, rest, r.0))

eight : Rises 0 (map port_number (range_with_len 1 8))
eight = (omega arith, (omega arith, (omega arith, (omega arith, (omega arith, (omega arith, (omega arith, (omega arith, (omega arith, (omega arith, (omega arith, (omega arith, (omega arith, (omega arith, (omega arith, (omega arith, tt))))))))))))))))

node_rises : (topology : Topology) (number : NodeId) (node : Node) → RisesRanges 0 (ranges_of topology number node)
node_rises topology number node = ranges_rise node.ranges 0 (linked_ports topology number) (rises_filter (λ port. is_some (peer_of topology number port)) 0 (map port_number (range_with_len 1 8)) eight)

-- *The opening of a node's controller*
abbrev pub opening_of : Policy → Topology → NodeId → Node → GivenOut → Journal → Opening
opening_of policy topology number node numbers notes = record {
  node = number;
  address = node.address;
  table = node.routes;
  ranges = ranges_of topology number node;
  cells = node.cells;
  timers = timers_of topology;
  policy = policy;
  notes = notes;
  numbers = numbers;
}

pub is_opening : (policy : Policy) (topology : Topology) (number : NodeId) (node : Node) (numbers : GivenOut) (notes : Journal) → IsOpening (opening_of policy topology number node numbers notes)
is_opening policy topology number node numbers notes = (let rises : RisesRanges 0 (ranges_of topology number node) = node_rises topology number node in record {
  differ = all_differ 0 (ranges_of topology number node) rises;
  links = all_links 0 (ranges_of topology number node) rises;
  few = few (length (ranges_of topology number node)) (all_few 0 (ranges_of topology number node) rises (omega arith));
})
  where
    few : (n : ℕ) → n + 0 ≤ 8 → n ≤ 8
    few n h = omega (arith, h)

-- *A site has been fed*: its controller was opened, and took inputs
pub record IsFed (site : Site) : Type 0 where
  pub o : Opening
  pub is : IsOpening o
  pub inputs : List Input
  pub now : (takes_inputs (opened_by o) inputs).controller ≡ site.controller

-- as each is at the opening
site_opened : (policy : Policy) (topology : Topology) (number : NodeId) (node : Node) (numbers : GivenOut) (notes : Journal) → IsFed (opened_site policy topology number node numbers)
site_opened policy topology number node numbers notes = record {
  o = opening_of policy topology number node numbers notes;
  is = is_opening policy topology number node numbers notes;
  inputs = [];
  now = refl;
}

each_opened : (policy : Policy) (topology : Topology) (nodes : List Node) (w : World) (place : ℕ) → Every IsFed w.sites → Every IsFed (opens_each policy topology w place nodes).sites
each_opened policy topology [] w place h = h
each_opened policy topology (node ∷ nodes) w place h = each_opened policy topology nodes (with_opened policy topology w place node) (suc place)
    (every_more IsFed w.sites (opened_site policy topology (record { 0 = place }) node w.numbers) h (site_opened policy topology (record { 0 = place }) node w.numbers w.notes))

pub opening_fed : (policy : Policy) (topology : Topology) → Every IsFed (opened policy topology).sites
opening_fed policy topology = each_opened policy topology topology.nodes empty_world 1 tt
