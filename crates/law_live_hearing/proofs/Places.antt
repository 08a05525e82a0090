-- the nodes and queues of a world of a run, and that these are empty where links are

use Rattle.std.proofs.Common.{◌≡◌, ℕ, suc, ◌==◌, ◌&&◌, ◌||◌, Bool, true, false, List, [], ◌∷◌, Some, refl, sym, ◌∙◌, ap, subst, arith, map}
use Rattle.std.specs.List.{list_any}
use Rattle.std.proofs.lemmas.Bool.Decides.{nat_tests}
use Rattle.world_model.specs.Words.{NodeId, PortNo, Place, Down, Up, Out, Policy, Topology, World, Site, site_at, place_node, places_of, queue_at, same_queue, is_linked, is_empty, IsNode, IsTopology, IsPlaceOf, IsPlaceIn}
use Rattle.world_model.specs.Controller.{ports_of}
use Rattle.world_model.specs.network_model.declared.event.Event.{Event}
use Rattle.law_run_facts.proofs.Rooms.{IsGoing, run_goes, runs_have_site}
use Rattle.law_run_facts.specs.Nodes.{HasSite}
use Rattle.law_run_facts.specs.law_world_pace.Running.{IsRunningSite}
use Rattle.law_live_carries.proofs.law_world_pace.Running.{site_runs}
use Rattle.law_live_carries.proofs.law_world_pace.Ports.{is_port_of}
use Rattle.law_live_carries.proofs.Names.{empty_queues_are_empty}
use Rattle.law_live_hearing.specs.Law.{world_at}

pub number_same : (m n : ℕ) → m ≡ n → (m == n) ≡ true
number_same m n e = grind (arith, nat_tests, e)

pub both : (x y : Bool) → x ≡ true → y ≡ true → (x && y) ≡ true
both true y p q = q
both false y p q = absurd (cc p)

either : (x y : Bool) → y ≡ true → (x || y) ≡ true
either true y e = refl
either false y e = e

at_once : (x y : Bool) → x ≡ true → (x || y) ≡ true
at_once true y e = refl
at_once false y e = absurd (cc e)

-- a node's two queues of its control link are among its places
down_there : (node own : NodeId) (outs : List Place) → (node.0 == own.0) ≡ true → list_any (same_queue (Down node)) (Down own ∷ Up own ∷ outs) ≡ true
down_there node own outs same = at_once (same_queue (Down node) (Down own)) (list_any (same_queue (Down node)) (Up own ∷ outs)) (both (node.0 == own.0) true same refl)

up_there : (node own : NodeId) (outs : List Place) → (node.0 == own.0) ≡ true → list_any (same_queue (Up node)) (Down own ∷ Up own ∷ outs) ≡ true
up_there node own outs same = either (same_queue (Up node) (Down own)) (list_any (same_queue (Up node)) (Up own ∷ outs))
    (at_once (same_queue (Up node) (Up own)) (list_any (same_queue (Up node)) outs) (both (node.0 == own.0) true same refl))

-- and so are those of its ports
out_there : (node own : NodeId) (port : PortNo) (outs : List Place) → list_any (same_queue (Out node port)) outs ≡ true
    → list_any (same_queue (Out node port)) (Down own ∷ Up own ∷ outs) ≡ true
out_there node own port outs e = either (same_queue (Out node port) (Down own)) (list_any (same_queue (Out node port)) (Up own ∷ outs))
    (either (same_queue (Out node port) (Up own)) (list_any (same_queue (Out node port)) outs) e)

port_there : (node own : NodeId) (port : PortNo) (ports : List PortNo) → (node.0 == own.0) ≡ true → list_any (λ (p : PortNo). p.0 == port.0) ports ≡ true
    → list_any (same_queue (Out node port)) (map (λ (p : PortNo). Out own p) ports) ≡ true
port_there node own port [] same e = absurd (cc e)
port_there node own port (p ∷ ports) same e = by (p.0 == port.0) refl e (port_there node own port ports same)
  where
    equal : (m n : ℕ) → (m == n) ≡ true → (suc n == suc m) ≡ true
    equal m n e = grind (arith, nat_tests, e)

    by : (b : Bool) → (p.0 == port.0) ≡ b → (b || list_any (λ (p : PortNo). p.0 == port.0) ports) ≡ true
        → (list_any (λ (p : PortNo). p.0 == port.0) ports ≡ true → list_any (same_queue (Out node port)) (map (λ (p : PortNo). Out own p) ports) ≡ true)
        → list_any (same_queue (Out node port)) (map (λ (p : PortNo). Out own p) (p ∷ ports)) ≡ true
    by true t e later = at_once (same_queue (Out node port) (Out own p)) (list_any (same_queue (Out node port)) (map (λ (p : PortNo). Out own p) ports))
        (both (node.0 == own.0) (suc port.0 == suc p.0) same (equal p.0 port.0 t))
    by false t e later = either (same_queue (Out node port) (Out own p)) (list_any (same_queue (Out node port)) (map (λ (p : PortNo). Out own p) ports)) (later e)

module _ (policy : Policy) (topology : Topology) (is : IsTopology topology) (events : List Event) where
  abbrev w : World
  w = world_at policy topology events

  goes : IsGoing topology w
  goes = run_goes policy topology is events

  pub has_site : (node : NodeId) → IsNode topology node → HasSite w node
  has_site node within = runs_have_site topology w goes node (within.0, omega (arith, within.1, goes.size))

  pub running : (node : NodeId) (site : Site) → site_at w node ≡ Some site → IsRunningSite topology w.events node.0 site
  running node site found = site_runs topology w.events 1 node.0 w.sites site goes.sites found

  -- *Its queues* are places of the world
  place_there : (place : Place) (site : Site) → site_at w (place_node place) ≡ Some site → list_any (same_queue place) (places_of site) ≡ true → IsPlaceIn w place
  place_there place site found e = subst (IsPlaceOf place) (sym found) e

  own_key : (node : NodeId) (site : Site) → site_at w node ≡ Some site → (node.0 == site.controller.node.0) ≡ true
  own_key node site found = number_same node.0 site.controller.node.0 (sym (running node site found).node)

  abbrev outs_of : Site → List Place
  outs_of site = map (λ (port : PortNo). Out site.controller.node port) (ports_of site.controller)

  pub down_empty : (node : NodeId) → IsNode topology node → is_empty w ≡ true → queue_at w (Down node) ≡ []
  down_empty node within empty =
      let h : HasSite w node = has_site node within in
      empty_queues_are_empty w (Down node) empty (place_there (Down node) h.site h.is (down_there node h.site.controller.node (outs_of h.site) (own_key node h.site h.is)))

  pub up_empty : (node : NodeId) → IsNode topology node → is_empty w ≡ true → queue_at w (Up node) ≡ []
  up_empty node within empty =
      let h : HasSite w node = has_site node within in
      empty_queues_are_empty w (Up node) empty (place_there (Up node) h.site h.is (up_there node h.site.controller.node (outs_of h.site) (own_key node h.site h.is)))

  pub out_empty : (node : NodeId) (port : PortNo) → IsNode topology node → is_linked topology node port ≡ true → is_empty w ≡ true → queue_at w (Out node port) ≡ []
  out_empty node port within linked empty =
      let h : HasSite w node = has_site node within in
      let named : list_any (λ (p : PortNo). p.0 == port.0) (ports_of h.site.controller) ≡ true =
      ap (list_any (λ (p : PortNo). p.0 == port.0)) (running node h.site h.is).ports ∙ is_port_of topology node port is linked in
      empty_queues_are_empty w (Out node port) empty (place_there (Out node port) h.site h.is
      (out_there node h.site.controller.node port (outs_of h.site) (port_there node h.site.controller.node port (ports_of h.site.controller) (own_key node h.site h.is) named)))
