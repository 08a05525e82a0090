-- the nodes of a run, their ports and queues, and how many numbers are left

use Rattle.std.proofs.Common.{◌≡◌, ℕ, zero, suc, ◌<◌, ◌≤◌, ◌+◌, ◌*◌, Bool, true, false, List, [], ◌∷◌, ◌++◌, length, length-append, map, slice_index_or, Some, refl, sym, ◌∙◌, ap, subst, arith}
use Rattle.std.specs.Prelude.{is_some, filter}
use Rattle.std.specs.List.{range_with_len}
use Rattle.std.proofs.Common.{cond, append-nil, append_assoc, if◌then◌else◌}
use Rattle.law_world_pace.specs.world_model.Step.{acts}
use Rattle.law_world_pace.specs.world_model.Words.{NodeId, PortNo, Instance, GivenOut, next_instance, at, control_port, numbers_of, Policy, after_opening, Topology, Node, ranges_of, World, Site, site_key, opened_site, with_opened, opens_each, empty_world, queue_at, IsTopology, put_away, next, world_after, IsRun}
use Rattle.law_controller_bindings.specs.ordered_lists.Ordered.{Every}
use Rattle.law_controller_bindings.proofs.law_port_facts.Keyed.{by_eq}
use Rattle.law_world_pace.specs.world_model.Switch.{begun}
use Rattle.law_world_pace.specs.law_actor_pace.Pace.{IsUpTo}
use Rattle.law_world_pace.specs.world_model.network_model.declared.event.Event.{Event}
use Rattle.law_world_pace.specs.world_model.Topology as topologies
use Rattle.law_world_pace.specs.world_model.World.{opened}
use Rattle.law_world_pace.proofs.world_model.Opening.{site_ports}
use Rattle.law_world_pace.specs.Running.{AreRunning, IsRunningSite, most_frame}
use Rattle.law_world_pace.proofs.Running.{queue_up}
use Rattle.law_world_pace.proofs.Events.{Goes, acts_go}
use Rattle.law_run_facts.proofs.Runs.{any_left}
use Rattle.law_run_facts.specs.Nodes.{HasSite, RunsKeepNodes, RunsHaveRoom}
use Rattle.law_run_facts.proofs.Steps.{after_one, pasts_are_whole}

-- *What is so of every world*
pub record IsGoing (t : Topology) (w : World) : Type 0 where
  pub sites : AreRunning t w.events 1 w.sites
  pub size : length w.sites ≡ length t.nodes
  pub controls : w.numbers.controls ≤ 1000000 * w.events
  pub instances : w.numbers.instances ≤ 20 * w.events + 1000
  pub sent : w.sent ≤ w.events

-- *The opening*
begun_ports : (own : Instance) (ports : List PortNo) → numbers_of (map (begun own) ports) ≡ ports
begun_ports own [] = refl
begun_ports own (port ∷ ports) = ap (λ (rest : List PortNo). port ∷ rest) (begun_ports own ports)

module _ (policy : Policy) (t : Topology) where
  new_runs : (place : ℕ) (node : Node) (numbers : GivenOut) → IsRunningSite t 0 place (opened_site policy t (record { 0 = place }) node numbers)
  new_runs place node numbers = record {
    node = refl;
    ports = site_ports policy t (record { 0 = place }) node numbers;
    switch_ports = ap (λ (rest : List PortNo). control_port ∷ rest) (begun_ports (next_instance (after_opening (ranges_of t (record { 0 = place }) node) numbers)) (topologies.linked_ports t (record { 0 = place })));
    size = refl;
    queue = tt;
    queues = (tt, (tt, (tt, (tt, (tt, (tt, (tt, (tt, (tt, tt)))))))));
    changes = omega arith;
  }

  runs_more : (number : ℕ) (sites : List Site) (site : Site) → AreRunning t 0 number sites → IsRunningSite t 0 (number + length sites) site → AreRunning t 0 number (sites ++ site ∷ [])
  runs_more number [] site h new = (subst (λ n. IsRunningSite t 0 n site) (omega arith) new, tt)
  runs_more number (x ∷ sites) site h new = (h.0, runs_more (suc number) sites site h.1 (subst (λ n. IsRunningSite t 0 n site) (omega arith) new))

  -- so many ports has a node
  few_ports : (node : NodeId) → length (topologies.linked_ports t node) ≤ 8
  few_ports node = few (λ port. is_some (topologies.peer_of t node port)) (map (λ n. record { 0 = n }) (range_with_len 1 8))
    where
      few : (test : PortNo → Bool) (ports : List PortNo) → length (filter test ports) ≤ length ports
      few test [] = omega arith
      few test (port ∷ ports) = by (test port) (few test ports)
        where
          by : (b : Bool) → length (filter test ports) ≤ length ports → length (cond b (port ∷ filter test ports) (filter test ports)) ≤ suc (length ports)
          by true low = omega (arith, low)
          by false low = omega (arith, low)

  mapped : {A B : Type 0} (f : A → B) (xs : List A) → length (map f xs) ≡ length xs
  mapped f [] = refl
  mapped f (x ∷ xs) = ap suc (mapped f xs)

  record IsOpening (w : World) (left : ℕ) : Type 0 where
    sites : AreRunning t 0 1 w.sites
    size : length w.sites + left ≡ length t.nodes
    controls : w.numbers.controls ≡ 0
    instances : w.numbers.instances ≤ 10 * length w.sites
    sent : w.sent ≡ 0
    events : w.events ≡ 0

  opens_go : (nodes : List Node) (w : World) (place : ℕ) → 1 + length w.sites ≡ place → IsOpening w (length nodes) → IsOpening (opens_each policy t w place nodes) 0
  opens_go [] w place at h = h
  opens_go (node ∷ nodes) w place at h =
      let number : NodeId = record { 0 = place } in
      let site : Site = opened_site policy t number node w.numbers in
      opens_go nodes (with_opened policy t w place node) (suc place) (omega (arith, length-append w.sites (site ∷ []), at)) (record {
        sites = runs_more 1 w.sites site h.sites (subst (λ n. IsRunningSite t 0 n site) (sym at) (new_runs place node w.numbers));
        size = omega (arith, h.size, length-append w.sites (site ∷ []));
        controls = h.controls;
        instances = omega (arith, h.instances, length-append w.sites (site ∷ []), few_ports number, mapped (topologies.range_among node.ranges) (topologies.linked_ports t number));
        sent = h.sent;
        events = h.events;
      })

  opened_goes : IsTopology t → IsGoing t (opened policy t)
  opened_goes is =
      let o = opens_go t.nodes empty_world 1 refl (record { sites = tt; size = omega arith; controls = refl; instances = omega arith; sent = refl; events = refl }) in
      record {
        sites = subst (λ n. AreRunning t n 1 (opened policy t).sites) (sym o.events) o.sites;
        size = omega (arith, o.size);
        controls = omega (arith, o.controls);
        instances = omega (arith, o.instances, o.size, is.few_nodes);
        sent = omega (arith, o.sent);
      }

  -- *An event more*
  next_goes : (before : List Event) (event : Event) → IsGoing t (world_after t (opened policy t) before) → IsGoing t (next t (world_after t (opened policy t) before) event)
  next_goes before event h =
      let w : World = world_after t (opened policy t) before in
      let l = any_left policy t before event in
      let g : Goes t (put_away w) (acts t (put_away w) event) = acts_go t (put_away w) h.sites event (omega (arith, l.controls.1, h.controls)) in
      record {
        sites = g.sites;
        size = g.size ∙ h.size;
        controls = omega (arith, l.controls.1, h.controls);
        instances = omega (arith, l.few, h.instances);
        sent = omega (arith, g.sent, h.sent);
      }

  goes_from : (before after : List Event) → IsGoing t (world_after t (opened policy t) before) → IsGoing t (world_after t (opened policy t) (before ++ after))
  goes_from before [] h = subst (λ es. IsGoing t (world_after t (opened policy t) es)) (sym (append-nil before)) h
  goes_from before (event ∷ after) h = subst (λ es. IsGoing t (world_after t (opened policy t) es)) (append_assoc before (event ∷ []) after)
      (goes_from (before ++ event ∷ []) after (subst (IsGoing t) (sym (after_one t (opened policy t) before event)) (next_goes before event h)))

  pub run_goes : IsTopology t → (events : List Event) → IsGoing t (world_after t (opened policy t) events)
  run_goes is events = goes_from [] events (opened_goes is)

-- *Sites are found* by the numbers of the nodes
pub found_within : (t : Topology) (events number k : ℕ) (sites : List Site) (site : Site) → AreRunning t events number sites → at site_key k sites ≡ Some site → (number ≤ k) × (k < number + length sites)
found_within t events number k [] site h e = absurd (cc e)
found_within t events number k (x ∷ sites) site h e = by_eq (site_key x) k
    (λ same is. (omega (arith, same, h.0.node), omega (arith, same, h.0.node)))
    (λ n is. (let r = found_within t events (suc number) k sites site h.1 (subst (λ (b : Bool). (if b then Some x else at site_key k sites) ≡ Some site) is e) in (omega (arith, r.0), omega (arith, r.1))))

record IsFound (sites : List Site) (k : ℕ) : Type 0 where
  site : Site
  is : at site_key k sites ≡ Some site

within_found : (t : Topology) (events number k : ℕ) (sites : List Site) → AreRunning t events number sites → number ≤ k → k < number + length sites → IsFound sites k
within_found t events number k [] h low high = absurd (omega (arith, low, high))
within_found t events number k (x ∷ sites) h low high = by_eq (site_key x) k
    (λ same is. record { site = x; is = ap (λ (b : Bool). if b then Some x else at site_key k sites) is })
    (λ n is. (let r = within_found t events (suc number) k sites h.1 (apart n) (omega (arith, high)) in record { site = r.site; is = ap (λ (b : Bool). if b then Some x else at site_key k sites) is ∙ r.is }))
  where
    apart : (site_key x ≡ k → ⊥) → suc number ≤ k
    apart n = omega (arith, low, h.0.node, λ (e : number ≡ k). n (h.0.node ∙ e))

pub runs_have_site : (t : Topology) (w : World) → IsGoing t w → (node : NodeId) → (1 ≤ node.0) × (node.0 ≤ length w.sites) → HasSite w node
runs_have_site t w g node is = (let f = within_found t w.events 1 node.0 w.sites g.sites is.0 (omega (arith, is.1)) in record { site = f.site; is = f.is })

pub runs_keep_nodes : RunsKeepNodes
runs_keep_nodes policy topology events r node is =
    let g = run_goes policy topology r.topology_is events in
    runs_have_site topology (world_after topology (opened policy topology) events) g node (is.0, omega (arith, is.1, g.size))

-- *Numbers are left*
some_of : {A : Type 0} (P : A → Type 0) (xs : List A) (x : A) → Every P xs → (k : ℕ) → k < length xs → slice_index_or xs k x ≡ x → P x
some_of P [] x all k low e = absurd (omega (arith, low))
some_of P (y ∷ xs) x all zero low e = subst P e all.0
some_of P (y ∷ xs) x all (suc k) low e = some_of P xs x all.1 k (omega (arith, low)) e

-- the events of a run are few
few_events : (policy : Policy) (topology : Topology) (events : List Event) → IsRun policy topology events → (world_after topology (opened policy topology) events).events ≤ 100000000
few_events policy topology events r = by events [] refl (omega (arith, (pasts_are_whole policy topology []).events))
  where
    at_most : (before : List Event) → Type 0
    at_most before = (world_after topology (opened policy topology) before).events ≤ 100000000

    by : (after before : List Event) → events ≡ before ++ after → at_most before → (world_after topology (opened policy topology) events).events ≤ 100000000
    by [] before whole low = subst at_most (sym (whole ∙ append-nil before)) low
    by (event ∷ after) before whole low = by after (before ++ event ∷ []) (whole ∙ sym (append_assoc before (event ∷ []) after))
        (omega (arith, (r.each before after event whole).few, ap (λ (w : World). w.events) (after_one topology (opened policy topology) before event)))

pub runs_have_room : RunsHaveRoom
runs_have_room policy topology events r =
    let w : World = world_after topology (opened policy topology) events in
    let g = run_goes policy topology r.topology_is events in
    let few = few_events policy topology events r in
    record {
      left = record { instances = omega (arith, g.instances, few); controls = omega (arith, g.controls, few) };
      frames = λ place cell c. some_of (IsUpTo (most_frame w.events)) (queue_at w place) cell (queue_up topology w.events w place g.sites) c.0 c.1 c.2;
      sent = g.sent;
    }
