-- at the opening nothing was made, and all numbers fit

use Rattle.std.proofs.Common.{◌≡◌, ℕ, zero, suc, ◌+◌, ◌≤◌, ◌<◌, false, List, [], ◌∷◌, ◌++◌, length, map, Some, refl, ap, subst, arith}
use Rattle.std.specs.Prelude.{◌^◌, All}
use Rattle.law_branch_shapes.specs.world_model.Words.{NodeId, PortNo, Instance, GivenOut, Bits, FitsRows, Frame, payload_of, IsLinkPort, control_port, numbers_of, Policy, Setup, is_spent, Linked, setup_of, opens_ports, Topology, Node, ranges_of, timers_of, World, Site, site_key, opened_site, opens_each, with_opened, empty_world, past_of, IsRun}
use Rattle.law_frame_readings.specs.ordered_lists.Ordered.{Every}
use Rattle.law_branch_shapes.specs.world_model.switch_model.declared.port.PortState.{PortState}
use Rattle.law_branch_shapes.specs.world_model.Switch.{begun}
use Rattle.law_branch_shapes.specs.world_model.Answers.{port_row}
use Rattle.law_frame_readings.proofs.law_port_facts.Keyed.{at_every, every_more}
use Rattle.law_frame_readings.specs.law_port_widths.Widths.{FitsPort, FitsSetup}
use Rattle.law_branch_shapes.specs.world_model.controller_model.declared.range.PortRange.{PortRange}
use Rattle.law_branch_shapes.specs.world_model.Controller.{ports_of}
use Rattle.law_frame_readings.specs.law_controller_views.Ready.{IsReadyPort}
use Rattle.law_branch_shapes.specs.world_model.network_model.declared.event.Event.{Event}
use Rattle.law_branch_shapes.specs.world_model.Topology as topologies
use Rattle.law_branch_shapes.specs.world_model.World.{opened}
use Rattle.law_frame_readings.specs.law_world_views.Made.{AreMade}
use Rattle.law_frame_readings.specs.law_world_views.Ready.{FitsSide}
use Rattle.law_frame_readings.specs.law_world_views.Between.{HasAllMade, HasAllReady}
use Rattle.law_frame_readings.specs.law_world_views.Kept.{Begins}
use Rattle.law_run_facts.specs.Nodes.{IsNodeOfRun, RunsHaveNodes, RunsHaveRoom}

-- *Nothing was made*
none_made : (w : World) → w.notes.frames ≡ [] → AreMade w.notes.frames
none_made w fresh mark payload e = absurd (never (subst (λ (fs : List Frame). payload_of fs mark ≡ Some payload) fresh e))
  where
    never : payload_of [] mark ≡ Some payload → ⊥
    never e = cc e

opens_nothing : (policy : Policy) (topology : Topology) (nodes : List Node) (place : ℕ) (w : World) → w.notes.frames ≡ [] → (opens_each policy topology w place nodes).notes.frames ≡ []
opens_nothing policy topology [] place w fresh = fresh
opens_nothing policy topology (node ∷ nodes) place w fresh = opens_nothing policy topology nodes (suc place) (with_opened policy topology w place node) fresh

pub made_begins : Begins HasAllMade
made_begins policy topology is addresses = none_made (opened policy topology) (opens_nothing policy topology topology.nodes 1 empty_world refl)

-- *A site that was just opened*
record IsFreshPort (linked : Linked) : Type 0 where
  unspent : is_spent linked.port.session ≡ false
  fits : FitsSetup linked.setup → FitsPort linked.port

record IsFresh (site : Site) : Type 0 where
  ports : Every IsFreshPort site.controller.ports
  rows : FitsRows site.controller.desk.rows
  side : site.controller.node.0 < 256 → FitsSide site.controller.adjacency
  switch_side : site.controller.node.0 < 256 → FitsSide site.switch.adjacency
  sessions : Every (λ (state : PortState). state.session < 2 ^ 32) site.switch.ports

fresh_ports : (setup : PortRange → Setup) (ranges : List PortRange) (n : ℕ) → n + length ranges < 2 ^ 32 → Every IsFreshPort (opens_ports setup n ranges)
fresh_ports setup [] n less = tt
fresh_ports setup (range ∷ ranges) n less = (
  record { unspent = refl; fits = λ fixed. record { own = (omega (arith, less), fixed.address); stored = tt; expected = omega arith; labels = tt; grants = tt } },
  fresh_ports setup ranges (n + 1) (omega (arith, less)),
)

fresh_sessions : (own : Instance) (ports : List PortNo) → own.0 < 2 ^ 32 → Every (λ (state : PortState). state.session < 2 ^ 32) (map (begun own) ports)
fresh_sessions own [] less = tt
fresh_sessions own (port ∷ ports) less = (less, fresh_sessions own ports less)

-- the parties of a node
name_fits : (kind number : ℕ) → kind < 256 → number < 256 → All (Bits 8) (2 ∷ 0 ∷ 0 ∷ 0 ∷ kind ∷ number ∷ [])
name_fits kind number k n zero z less = omega arith
name_fits kind number k n (suc zero) z less = omega arith
name_fits kind number k n (suc (suc zero)) z less = omega arith
name_fits kind number k n (suc (suc (suc zero))) z less = omega arith
name_fits kind number k n (suc (suc (suc (suc zero)))) z less = k
name_fits kind number k n (suc (suc (suc (suc (suc zero))))) z less = n
name_fits kind number k n (suc (suc (suc (suc (suc (suc place)))))) z less = absurd (omega (arith, less))

fresh_site : (policy : Policy) (topology : Topology) (number : NodeId) (node : Node) (numbers : GivenOut) → numbers.instances + (2 + length (ranges_of topology number node)) < 2 ^ 32
    → IsFresh (opened_site policy topology number node numbers)
fresh_site policy topology number node numbers less = record {
  ports = fresh_ports (setup_of number node.address (timers_of topology) policy) (ranges_of topology number node) (numbers.instances + 1) (omega (arith, less));
  rows = tt;
  side = λ few. record { own = record { name = name_fits 0 number.0 (omega arith) few; name_length = refl; port = omega arith; instance = omega (arith, less) }; stored = tt };
  switch_side = λ few. record { own = record { name = name_fits 1 number.0 (omega arith) few; name_length = refl; port = omega arith; instance = omega (arith, less) }; stored = tt };
  sessions = fresh_sessions _ (control_port ∷ topologies.linked_ports topology number) (omega (arith, less));
}

-- *All of them*, where the instances that were given out fit
opens_more : (policy : Policy) (topology : Topology) (nodes : List Node) (place : ℕ) (w : World) → w.numbers.instances ≤ (opens_each policy topology w place nodes).numbers.instances
opens_more policy topology [] place w = omega arith
opens_more policy topology (node ∷ nodes) place w = omega (arith, opens_more policy topology nodes (suc place) (with_opened policy topology w place node))

all_fresh : (policy : Policy) (topology : Topology) (nodes : List Node) (place : ℕ) (w : World) → (opens_each policy topology w place nodes).numbers.instances < 2 ^ 32 → Every IsFresh w.sites
    → Every IsFresh (opens_each policy topology w place nodes).sites
all_fresh policy topology [] place w less h = h
all_fresh policy topology (node ∷ nodes) place w less h = all_fresh policy topology nodes (suc place) (with_opened policy topology w place node) less
    (every_more IsFresh w.sites (opened_site policy topology (record { 0 = place }) node w.numbers) h
    (fresh_site policy topology (record { 0 = place }) node w.numbers (omega (arith, opens_more policy topology nodes (suc place) (with_opened policy topology w place node), less))))

-- *so they are ready*
ready_ports : (xs : List Linked) → Every IsFreshPort xs → Every FitsSetup (map (λ (linked : Linked). linked.setup) xs) → Every IsReadyPort xs
ready_ports [] h k = tt
ready_ports (x ∷ xs) h k = (record { unspent = h.0.unspent; setup = k.0; fits = h.0.fits k.0 }, ready_ports xs h.1 k.1)

numbers_fit : (xs : List Linked) → Every (λ (setup : Setup). IsLinkPort setup.port) (map (λ (linked : Linked). linked.setup) xs) → Every (λ (port : PortNo). port.0 ≤ 8) (map (λ (linked : Linked). linked.setup.port) xs)
numbers_fit [] h = tt
numbers_fit (x ∷ xs) h = (h.0.1, numbers_fit xs h.1)

rows_fit : (ports : List PortState) (numbers : List PortNo) → numbers_of ports ≡ numbers → Every (λ (port : PortNo). port.0 ≤ 8) numbers → Every (λ (state : PortState). state.session < 2 ^ 32) ports → FitsRows (map port_row ports)
rows_fit [] numbers is few less = tt
rows_fit (state ∷ ports) [] is few less = absurd (cc is)
rows_fit (state ∷ ports) (number ∷ numbers) is few less =
    let same : state.number ≡ number = cc in
    let rest : numbers_of ports ≡ numbers = cc in
    (record { port = omega (arith, ap (λ (p : PortNo). p.0) same, few.0); session = less.0; least = omega arith; greatest = omega arith }, rows_fit ports numbers rest few.1 less.1)

no_event : (before after : List Event) (event : Event) → [] ≡ before ++ event ∷ after → ⊥
no_event [] after event e = cc e
no_event (x ∷ before) after event e = cc e

pub ready_begins : RunsHaveNodes → RunsHaveRoom → Begins HasAllReady
ready_begins nodes room policy topology is addresses node site found = record {
  controller = record { sound = of.conduct.sound; flows = of.conduct.flows; ranged = of.ports.ranged; ports = ready_ports site.controller.ports fresh.ports of.ports.fits };
  rows = fresh.rows;
  side = fresh.side few;
  switch_side = fresh.switch_side few;
  ports = rows_fit site.switch.ports (control_port ∷ ports_of site.controller) of.is_node.switch_ports (omega arith, numbers_fit site.controller.ports of.ports.links) fresh.sessions;
}
  where
    run : IsRun policy topology []
    run = record { topology_is = is; each = λ before after event e. absurd (no_event before after event e) }

    of : IsNodeOfRun policy (past_of policy topology []) node site
    of = nodes policy topology [] addresses run node site found

    fresh : IsFresh site
    fresh = at_every site_key IsFresh node.0 (opened policy topology).sites site
        (all_fresh policy topology topology.nodes 1 empty_world (left (opened policy topology).numbers.instances (room policy topology [] run).left.instances) tt) found
      where
        left : (n : ℕ) → n + 20 < 2 ^ 32 → n < 2 ^ 32
        left n less = omega (arith, less)

    few : site.controller.node.0 < 256
    few = omega (arith, ap (λ (n : NodeId). n.0) of.is_node.own, of.is_node.few)
