-- the world that is opened, whatever the policy: its nodes are the topology's, and so are the events that its lines
-- stand for

use Rattle.std.proofs.Common.{◌≡◌, ℕ, zero, suc, ◌+◌, ◌*◌, ◌≤◌, List, [], ◌∷◌, ◌++◌, length, length-append, map, flat_map, refl, sym, ◌∙◌, ap, subst, arith}
use Rattle.std.specs.List.{repeat}
use Rattle.std.proofs.lemmas.List.Concat.{flat_map-cons}
use Rattle.net_types.specs.declared.node.NodeId.{NodeId}
use Rattle.net_types.specs.declared.node.PortNo.{PortNo}
use Rattle.net_types.specs.declared.node.Place.{Place}
use Rattle.net_types.specs.declared.node.Place.TheVariants.{Out}
use Rattle.port_model.specs.Setup.{Policy}
use Rattle.script_model.specs.world_model.controller_model.declared.range.PortRange.{PortRange}
use Rattle.script_model.specs.world_model.network_model.declared.event.Event.{Event}
use Rattle.script_model.specs.world_model.network_model.declared.event.Event.TheVariants.{Carry, Tick, TickSwitch}
use Rattle.script_model.specs.world_model.Places.{places_of}
use Rattle.script_model.specs.world_model.Run.{round, switch_tick_of, tick_of, tick_of_all}
use Rattle.script_model.specs.world_model.Topology as topologies
use Rattle.script_model.specs.world_model.Topology.{Topology, Node, new_node, policy_of, ranges_of}
use Rattle.script_model.specs.world_model.World.{World, Site, empty_world, opened, opened_site, opens_each, with_opened}
use Rattle.world.specs.law_world_pace.Running.{AreRunning, IsRunning, IsRunningSite, numbered}
use Rattle.script_model.specs.declared.line.Line.TheVariants.{TickAll, Run}
use Rattle.script_model.specs.Script.{events_of, opened_of}
use Rattle.world.proofs.Opened.{few_ranges, ports_of_ranges, runs_more, site_runs}
use Rattle.network_run.proofs.Turns.{map_length}
use Rattle.world.proofs.Places.{same_places, site_places}

opens_run : (policy : Policy) (t : Topology) (w : World) (place : ℕ) (nodes : List Node) → place ≡ suc (length w.sites) → AreRunning t 0 1 w.sites
    → AreRunning t 0 1 (opens_each policy t w place nodes).sites × (length (opens_each policy t w place nodes).sites ≡ length w.sites + length nodes)
opens_run policy t w place [] at h = (h, omega arith)
opens_run policy t w place (node ∷ nodes) at h =
    let site : Site = opened_site policy t (numbered place) node w.numbers in
    let size : length (w.sites ++ site ∷ []) ≡ length w.sites + 1 = length-append w.sites (site ∷ []) in
    let here : place ≡ 1 + length w.sites = omega (arith, at) in
    let r = opens_run policy t (with_opened policy t w place node) (suc place) nodes (omega (arith, at, size))
    (runs_more t 1 w.sites site h (subst (λ n. IsRunningSite t 0 n site) here (site_runs policy t (numbered place) node w.numbers))) in
    (r.0, omega (arith, r.1, size))

pub opened_runs : (policy : Policy) (t : Topology) → AreRunning t 0 1 (opened policy t).sites
opened_runs policy t = (opens_run policy t empty_world 1 t.nodes refl tt).0

pub opened_size : (policy : Policy) (t : Topology) → length (opened policy t).sites ≡ length t.nodes
opened_size policy t = (let all = (opens_run policy t empty_world 1 t.nodes refl tt).1 in omega (arith, all))

opens_events : (policy : Policy) (t : Topology) (w : World) (place : ℕ) (nodes : List Node) → (opens_each policy t w place nodes).events ≡ w.events
opens_events policy t w place [] = refl
opens_events policy t w place (node ∷ nodes) = opens_events policy t (with_opened policy t w place node) (suc place) nodes

pub opened_events : (policy : Policy) (t : Topology) → (opened policy t).events ≡ 0
opened_events policy t = opens_events policy t empty_world 1 t.nodes

-- *The ticks of all and the rounds* of two worlds of a topology are the same
same_nodes : (f : NodeId → Event) (t : Topology) (events later number : ℕ) (sites after : List Site) → AreRunning t events number sites → AreRunning t later number after → length sites ≡ length after
    → map (λ (site : Site). f site.controller.node) sites ≡ map (λ (site : Site). f site.controller.node) after
same_nodes f t events later number [] [] h k e = refl
same_nodes f t events later number [] (y ∷ after) h k e = absurd (omega (arith, e))
same_nodes f t events later number (x ∷ sites) [] h k e = absurd (omega (arith, e))
same_nodes f t events later number (x ∷ sites) (y ∷ after) h k e =
    let one : x.controller.node.0 ≡ y.controller.node.0 = h.0.node ∙ sym k.0.node in
    let rest : map (λ (site : Site). f site.controller.node) sites ≡ map (λ (site : Site). f site.controller.node) after = same_nodes f t events later (suc number) sites after h.1 k.1 (omega (arith, e)) in
    λ i. f (record { 0 = one i }) ∷ rest i

pub same_ticks : (t : Topology) (w v : World) (events later : ℕ) → AreRunning t events 1 w.sites → AreRunning t later 1 v.sites → length w.sites ≡ length v.sites → tick_of_all w ≡ tick_of_all v
same_ticks t w v events later h k e =
    let one : map tick_of w.sites ≡ map tick_of v.sites = same_nodes Tick t events later 1 w.sites v.sites h k e in
    let other : map switch_tick_of w.sites ≡ map switch_tick_of v.sites = same_nodes TickSwitch t events later 1 w.sites v.sites h k e in
    λ i. one i ++ other i

pub same_rounds : (t : Topology) (w v : World) (events later : ℕ) → AreRunning t events 1 w.sites → AreRunning t later 1 v.sites → length w.sites ≡ length v.sites → round w ≡ round v
same_rounds t w v events later h k e = ap (λ (ps : List Place). map Carry ps) (same_places t events later 1 w.sites v.sites h k e)

-- *How many they are*
few_ports : (t : Topology) (node : NodeId) → length (topologies.linked_ports t node) ≤ 8
few_ports t node =
    let any : Node = new_node [] (record { 0 = 0 }) in
    let all : length (map (λ (range : PortRange). range.port) (ranges_of t node any)) ≡ length (topologies.linked_ports t node) = ap length (ports_of_ranges t node any) in
    let size : length (map (λ (range : PortRange). range.port) (ranges_of t node any)) ≡ length (ranges_of t node any) = map_length (λ (range : PortRange). range.port) (ranges_of t node any) in
    let few : length (ranges_of t node any) ≤ 8 = few_ranges t node any in
    omega (arith, all, size, few)

few_at : (t : Topology) (events number : ℕ) (site : Site) → IsRunningSite t events number site → length (places_of site) ≤ 10
few_at t events number site h =
    let same : length (places_of site) ≡ 2 + length (map (λ (port : PortNo). Out (numbered number) port) (topologies.linked_ports t (numbered number))) = ap length (site_places t events number site h) ∙ omega arith in
    let size : length (map (λ (port : PortNo). Out (numbered number) port) (topologies.linked_ports t (numbered number))) ≡ length (topologies.linked_ports t (numbered number)) = map_length (λ (port : PortNo). Out (numbered number) port) (topologies.linked_ports t (numbered number)) in
    let few : length (topologies.linked_ports t (numbered number)) ≤ 8 = few_ports t (numbered number) in
    omega (arith, same, size, few)

few_places : (t : Topology) (events number : ℕ) (sites : List Site) → AreRunning t events number sites → length (flat_map places_of sites) ≤ 10 * length sites
few_places t events number [] h = omega arith
few_places t events number (site ∷ sites) h =
    let one : length (places_of site) ≤ 10 = few_at t events number site h.0 in
    let rest : length (flat_map places_of sites) ≤ 10 * length sites = few_places t events (suc number) sites h.1 in
    let both : length (flat_map places_of (site ∷ sites)) ≡ length (places_of site) + length (flat_map places_of sites) = ap length (flat_map-cons places_of site sites) ∙ length-append (places_of site) (flat_map places_of sites) in
    omega (arith, one, rest, both)

pub few_carries : (t : Topology) (w : World) (events : ℕ) → AreRunning t events 1 w.sites → length w.sites ≤ 64 → length (round w) ≤ 640
few_carries t w events h few =
    let size : length (round w) ≡ length (flat_map places_of w.sites) = map_length Carry (flat_map places_of w.sites) in
    let most : length (flat_map places_of w.sites) ≤ 10 * length w.sites = few_places t events 1 w.sites h in
    omega (arith, size, most, few)

pub few_repeated : (n : ℕ) (xs : List Event) → length xs ≤ 640 → length (repeat n xs) ≤ 640 * n
few_repeated zero xs few = omega arith
few_repeated (suc n) xs few =
    let both : length (xs ++ repeat n xs) ≡ length xs + length (repeat n xs) = length-append xs (repeat n xs) in
    let rest : length (repeat n xs) ≤ 640 * n = few_repeated n xs few in
    omega (arith, both, rest, few)

pub all_ticks : (w : World) → length (tick_of_all w) ≡ 2 * length w.sites
all_ticks w =
    let both : length (map tick_of w.sites ++ map switch_tick_of w.sites) ≡ length (map tick_of w.sites) + length (map switch_tick_of w.sites) = length-append (map tick_of w.sites) (map switch_tick_of w.sites) in
    omega (arith, both, map_length tick_of w.sites, map_length switch_tick_of w.sites)

-- *The events of a line* are those of the network that runs
pub ticks_are : (t : Topology) (w : World) → IsRunning t w → events_of t TickAll ≡ tick_of_all w
ticks_are t w runs = same_ticks t (opened_of t) w 0 w.events (opened_runs (policy_of t) t) runs.sites (opened_size (policy_of t) t ∙ sym runs.nodes)

pub rounds_are : (t : Topology) (w : World) (count : ℕ) → IsRunning t w → events_of t (Run count) ≡ repeat count (round w)
rounds_are t w count runs = ap (repeat count) (same_rounds t (opened_of t) w 0 w.events (opened_runs (policy_of t) t) runs.sites (opened_size (policy_of t) t ∙ sym runs.nodes))
