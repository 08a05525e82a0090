-- the nodes of a topology are opened one by one

use Rattle.std.proofs.Common.{◌≡◌, ℕ, zero, suc, ◌+◌, ◌≤◌, List, [], ◌∷◌, ◌++◌, append_assoc, length, length-append, map, drop, slice_get, slice_index_or, slice_set, true, true≢false, Option, Some, refl, sym, ◌∙◌, ap, subst, arith, sum_by}
use Rattle.std.specs.Prelude.{◌<◌}
use Rattle.std.specs.Option.{option_map}
use Rattle.std.proofs.lemmas.List.Sums.{sum_by-append}
use Rattle.net_types.specs.declared.node.NodeId.{NodeId}
use Rattle.net_types.specs.declared.node.PortNo.{PortNo}
use Rattle.net_types.specs.declared.node.Place.{Place}
use Rattle.net_types.specs.declared.node.Place.TheVariants.{Down, Up, Out}
use Rattle.net_types.specs.Number.{GivenOut}
use Rattle.port_model.specs.Setup.{Policy}
use Rattle.world_model.specs.controller_model.declared.range.PortRange.{PortRange}
use Rattle.world_model.specs.Controller.{Controller}
use Rattle.world_model.specs.network_model.declared.link.LinkEnd.{LinkEnd}
use Rattle.world_model.specs.Conditions.{IsNode, IsTopology}
use Rattle.world_model.specs.Topology.{Topology, Node, node_at, node_in, ranges_of}
use Rattle.world_model.specs.World.{Site, no_tally, numbers_after, opened, opened_site, opens_each, redirects_at, switched_count}
use Rattle.world.specs.declared.site.Site.{Site as Held}
use Rattle.world.specs.declared.world.World.{World as Network}
use Rattle.world.specs.Network.{no_notes, peers_in, site_of, sites_of, world_of}
use Rattle.world.specs.Opening.{HasOpened, IsNew, IsNext, IsOpening, places_of}
use Rattle.law_world_pace.specs.Running.{ArePeersOf, AreRunning, HavePeers, numbered}
use Rattle.world.specs.Running.{Runs}
use Rattle.world.specs.NodeSet.{IsInserted, is_in}
use Rattle.world.specs.Waiting.{HaveStarts, node_place}
use Rattle.world_model.specs.Places.{place_node}
use Rattle.world_model.proofs.Lists.{by_eq}
use Rattle.world.proofs.Starts.{have_more, have_same}
use Rattle.law_world_pace.proofs.Running.{places_are, places_at, places_from}
use Rattle.world.proofs.Opened.{HasNode, few_ranges, has_node, no_redirects_at, ports_of_ranges, read_of, runs_more, site_runs}

map_push : {A B : Type 0} (f : A → B) (xs : List A) (y : A) → map f (xs ++ y ∷ []) ≡ map f xs ++ f y ∷ []
map_push f [] y = refl
map_push f (x ∷ xs) y = ap (λ ys. f x ∷ ys) (map_push f xs y)

map_length : {A B : Type 0} (f : A → B) (xs : List A) → length (map f xs) ≡ length xs
map_length f [] = refl
map_length f (x ∷ xs) = ap suc (map_length f xs)

peers_push : (t : Topology) (number : ℕ) (ps : List (List (Option LinkEnd))) (p : List (Option LinkEnd)) → HavePeers t number ps → ArePeersOf t (number + length ps) p → HavePeers t number (ps ++ p ∷ [])
peers_push t number [] p h new = (subst (λ n. ArePeersOf t n p) (omega arith) new, tt)
peers_push t number (q ∷ ps) p h new = (h.0, peers_push t (suc number) ps p h.1 (subst (λ n. ArePeersOf t n p) (omega arith) new))

-- *The places of a node*
out_ports : (node : NodeId) (ranges : List PortRange) → map (λ (range : PortRange). Out node range.port) ranges ≡ map (λ (port : PortNo). Out node port) (map (λ (range : PortRange). range.port) ranges)
out_ports node [] = refl
out_ports node (range ∷ ranges) = ap (λ ps. Out node range.port ∷ ps) (out_ports node ranges)

places_of_node : (t : Topology) (number : ℕ) (d : Node) → places_of (numbered number) (ranges_of t (numbered number) d) ≡ places_at t number
places_of_node t number d = ap (λ ps. Down (numbered number) ∷ Up (numbered number) ∷ ps)
    (out_ports (numbered number) (ranges_of t (numbered number) d) ∙ ap (map (λ (port : PortNo). Out (numbered number) port)) (ports_of_ranges t (numbered number) d))

places_push : (t : Topology) (number count : ℕ) → places_from t number (suc count) ≡ places_from t number count ++ places_at t (number + count)
unfolding places_from
places_push t number zero = append_nil (places_at t number) ∙ ap (places_at t) (omega arith)
  where
    append_nil : (xs : List Place) → xs ++ [] ≡ xs
    append_nil [] = refl
    append_nil (x ∷ xs) = ap (λ ys. x ∷ ys) (append_nil xs)
places_push t number (suc count) =
    ap (λ ps. places_at t number ++ ps) (places_push t (suc number) count)
    ∙ sym (append_assoc (places_at t number) (places_from t (suc number) count) (places_at t (suc number + count)))
    ∙ ap (λ n. (places_at t number ++ places_from t (suc number) count) ++ places_at t n) (omega arith)

drop_at : (nodes : List Node) (k : ℕ) (d : Node) → node_in nodes (suc k) ≡ Some d → drop k nodes ≡ d ∷ drop (suc k) nodes
drop_at [] k d e = absurd (cc e)
drop_at (x ∷ nodes) zero d e = (let same : x ≡ d = cc in ap (λ y. y ∷ nodes) same)
drop_at (x ∷ nodes) (suc k) d e = drop_at nodes k d e

drop_all : (nodes : List Node) (k : ℕ) → k ≡ length nodes → drop k nodes ≡ []
drop_all [] zero e = refl
drop_all [] (suc k) e = refl
drop_all (x ∷ nodes) zero e = absurd (omega (arith, e))
drop_all (x ∷ nodes) (suc k) e = drop_all nodes k (omega (arith, e))

-- all are the node's
outs_own : (node : NodeId) (ranges : List PortRange) (j : ℕ) (p : Place) → slice_get (map (λ (range : PortRange). Out node range.port) ranges) j ≡ Some p → place_node p ≡ node
outs_own node [] j p e = absurd (cc e)
outs_own node (range ∷ ranges) zero p e = (let same : p ≡ Out node range.port = cc in ap place_node same)
outs_own node (range ∷ ranges) (suc j) p e = outs_own node ranges j p e

places_own : (node : NodeId) (ranges : List PortRange) (j : ℕ) (p : Place) → slice_get (places_of node ranges) j ≡ Some p → place_node p ≡ node
places_own node ranges zero p e = (let same : p ≡ Down node = cc in ap place_node same)
places_own node ranges (suc zero) p e = (let same : p ≡ Up node = cc in ap place_node same)
places_own node ranges (suc (suc j)) p e = outs_own node ranges j p e

-- no queue yet
no_place : (i : ℕ) (p : Place) → slice_get [] i ≡ Some p → ⊥
no_place i p e = absurd (cc e)

have_none : (round : List Place) (starts : List ℕ) → round ≡ [] → length starts ≡ 65 → slice_index_or starts 0 0 ≡ 0 → HaveStarts round starts 0
have_none round starts is size first = record {
  size = size;
  last = first ∙ sym (ap length is);
  order = λ one other le few. (let same : slice_index_or starts one 0 ≡ slice_index_or starts other 0 = ap (λ (k : ℕ). slice_index_or starts k 0) (omega (arith, le, few)) in omega (arith, same));
  stand = λ i p e. absurd (no_place i p (ap (λ (ps : List Place). slice_get ps i) (sym is) ∙ e));
}

module _ {C : Type 0} (seen : C → Controller) (policy : Policy) (t : Topology) where
  -- *One node*
  pub opened_next : (old new : Network C) (node : NodeId) (site : Held C) (ranges : List PortRange) → IsOpening t old → node ≡ numbered (length old.sites.items + 1) → length old.sites.items + 1 ≤ length t.nodes
      → option_map (ranges_of t node) (node_at t node) ≡ Some ranges
      → option_map (λ d. opened_site policy t node d old.numbers) (node_at t node) ≡ Some (site_of seen site)
      → ArePeersOf t node.0 site.peers
      → option_map (λ d. numbers_after t node d old.numbers) (node_at t node) ≡ Some new.numbers
      → new.sites.items ≡ old.sites.items ++ site ∷ [] → new.round.items ≡ old.round.items ++ places_of node ranges
      → new.events ≡ old.events → new.sent ≡ old.sent → new.tally ≡ old.tally → new.redirects ≡ old.redirects → new.switched ≡ old.switched
      → new.starts ≡ slice_set old.starts (length old.sites.items + 1) (length new.round.items) → IsInserted old.waiting new.waiting (length old.sites.items)
      → HasOpened seen policy t old new
  opened_next old new node site ranges o is few er es peers en items round events sent tally redirects switched starts mark =
      let of : IsNode t node = subst (IsNode t) (sym is) (omega arith, few) in
      let h : HasNode t node = has_node t node o.topology_is of in
      let rs : ranges_of t node h.d ≡ ranges = read_of (ranges_of t node) (node_at t node) h.d ranges h.is er in
      let opened_one : opened_site policy t node h.d old.numbers ≡ site_of seen site = read_of (λ d. opened_site policy t node d old.numbers) (node_at t node) h.d (site_of seen site) h.is es in
      let given : numbers_after t node h.d old.numbers ≡ new.numbers = read_of (λ d. numbers_after t node d old.numbers) (node_at t node) h.d new.numbers h.is en in
      let next : IsNext seen policy t old new node h.d = record {
        sites = ap (sites_of seen) items ∙ map_push (site_of seen) old.sites.items site ∙ ap (λ (s : Site). sites_of seen old.sites.items ++ s ∷ []) (sym opened_one);
        numbers = sym given;
        round = round ∙ ap (λ rs. old.round.items ++ places_of node rs) (sym rs);
        starts = starts;
        waiting = mark;
      } in
      record {
        node = h.d;
        few = omega (arith, few, o.topology_is.few_nodes);
        is = subst (λ (n : NodeId). node_at t n ≡ Some h.d) is h.is;
        next = subst (λ (n : NodeId). IsNext seen policy t old new n h.d) is next;
        peers = λ p. subst (HavePeers t 1) (sym (ap (map peers_in) items ∙ map_push peers_in old.sites.items site))
            (peers_push t 1 (map peers_in old.sites.items) site.peers p (subst (λ n. ArePeersOf t n site.peers) (ap (λ (n : NodeId). n.0) is ∙ omega (arith, map_length peers_in old.sites.items)) peers));
        events = events;
        sent = sent;
        tally = tally;
        redirects = redirects;
        switched = switched;
        opening = record {
          topology_is = o.topology_is;
          instances = omega (arith, ap (λ (n : GivenOut). n.instances) given, o.instances, few_ranges t node h.d, ap length items, length-append old.sites.items (site ∷ []));
          controls = omega (arith, ap (λ (n : GivenOut). n.controls) given, o.controls);
        };
      }

  -- *So many nodes are opened*
  pub record IsAt (place : ℕ) (n : Network C) : Type 0 where
    pub opening : IsOpening t n
    pub size : length n.sites.items ≡ place
    pub rest : opens_each policy t (world_of seen n no_notes) (suc place) (drop place t.nodes) ≡ opened policy t
    pub running : AreRunning t 0 1 (sites_of seen n.sites.items)
    pub round : n.round.items ≡ places_from t 1 place
    pub starts : HaveStarts n.round.items n.starts place
    pub marks : (k : ℕ) → k < place → is_in n.waiting k ≡ true
    pub peers : HavePeers t 1 (map peers_in n.sites.items)
    pub events : n.events ≡ 0
    pub sent : n.sent ≡ 0
    pub tally : n.tally ≡ no_tally
    pub redirects : n.redirects ≡ 0
    pub switched : n.switched ≡ 0
    pub no_redirects : sum_by redirects_at (sites_of seen n.sites.items) ≡ 0
    pub no_switched : sum_by switched_count (sites_of seen n.sites.items) ≡ 0

  pub at_start : (n : Network C) → IsTopology t → IsNew n → IsAt 0 n
  unfolding places_from
  at_start n is new = record {
    opening = record { topology_is = is; instances = omega (arith, new.instances); controls = new.controls };
    size = ap length new.sites;
    rest = (λ i. opens_each policy t (record { sites = sites_of seen (new.sites i); notes = no_notes; numbers = record { instances = new.instances i; controls = new.controls i }; sent = new.sent i; events = new.events i; tally = new.tally i }) 1 t.nodes);
    running = subst (λ (xs : List (Held C)). AreRunning t 0 1 (sites_of seen xs)) (sym new.sites) tt;
    round = new.round;
    starts = have_none n.round.items n.starts new.round new.starts new.first;
    marks = λ k low. absurd (omega (arith, low));
    peers = subst (λ (xs : List (Held C)). HavePeers t 1 (map peers_in xs)) (sym new.sites) tt;
    events = new.events;
    sent = new.sent;
    tally = new.tally;
    redirects = new.redirects;
    switched = new.switched;
    no_redirects = ap (λ (xs : List (Held C)). sum_by redirects_at (sites_of seen xs)) new.sites;
    no_switched = ap (λ (xs : List (Held C)). sum_by switched_count (sites_of seen xs)) new.sites;
  }

  pub at_next : (place : ℕ) (old new : Network C) → IsAt place old → HasOpened seen policy t old new → IsAt (place + 1) new
  at_next place old new a h =
      let up : length old.sites.items + 1 ≡ suc place = omega (arith, a.size) in
      let node : NodeId = numbered (suc place) in
      let is : node_at t node ≡ Some h.node = subst (λ n. node_at t (numbered n) ≡ Some h.node) up h.is in
      let next : IsNext seen policy t old new node h.node = subst (λ n. IsNext seen policy t old new (numbered n) h.node) up h.next in
      let site : Site = opened_site policy t node h.node old.numbers in
      let ps : List Place = places_of node (ranges_of t node h.node) in
      let sites_size : length (sites_of seen old.sites.items) ≡ place = map_length (site_of seen) old.sites.items ∙ a.size in
      let running : AreRunning t 0 1 (sites_of seen new.sites.items) = subst (AreRunning t 0 1) (sym next.sites)
      (runs_more t 1 (sites_of seen old.sites.items) site a.running (subst (λ n. Rattle.law_world_pace.specs.Running.IsRunningSite t 0 n site) (omega (arith, sites_size)) (site_runs policy t node h.node old.numbers))) in
      let one : place + 1 ≡ suc place = omega arith in
      record {
        opening = h.opening;
        size = omega (arith, a.size, sym (map_length (site_of seen) new.sites.items) ∙ ap length next.sites ∙ length-append (sites_of seen old.sites.items) (site ∷ []), sites_size);
        rest = subst (λ k. opens_each policy t (world_of seen new no_notes) (suc k) (drop k t.nodes) ≡ opened policy t) (sym one)
            ((λ i. opens_each policy t (record { sites = next.sites i; notes = no_notes; numbers = next.numbers i; sent = h.sent i; events = h.events i; tally = h.tally i }) (suc (suc place)) (drop (suc place) t.nodes))
            ∙ ap (opens_each policy t (world_of seen old no_notes) (suc place)) (sym (drop_at t.nodes place h.node is)) ∙ a.rest);
        running = running;
        round = next.round ∙ ap (λ ps. ps ++ places_of node (ranges_of t node h.node)) a.round ∙ ap (λ ps. places_from t 1 place ++ ps) (places_of_node t (suc place) h.node)
            ∙ ap (λ n. places_from t 1 place ++ places_at t n) (omega arith) ∙ sym (places_push t 1 place) ∙ ap (places_from t 1) (sym one);
        starts = have_same (old.round.items ++ ps) new.round.items (slice_set old.starts (place + 1) (length (old.round.items ++ ps))) new.starts (place + 1) (place + 1)
            (have_more old.round.items ps old.starts place a.starts (omega (arith, h.few, a.size)) (λ j p there. (let own : place_node p ≡ node = places_own node (ranges_of t node h.node) j p there in omega (arith, ap (λ (m : NodeId). m.0) own))))
            next.round (next.starts ∙ (λ i. slice_set old.starts (a.size i + 1) (length (next.round i)))) refl;
        marks = λ k low. by_eq k place
            (λ is t. ap (is_in new.waiting) (is ∙ sym a.size) ∙ next.waiting.here)
            (λ away t. next.waiting.others k (λ e. away (e ∙ a.size)) ∙ a.marks k (omega (arith, low, away)));
        peers = h.peers a.peers;
        events = h.events ∙ a.events;
        sent = h.sent ∙ a.sent;
        tally = h.tally ∙ a.tally;
        redirects = h.redirects ∙ a.redirects;
        switched = h.switched ∙ a.switched;
        no_redirects = ap (sum_by redirects_at) next.sites ∙ sum_by-append redirects_at (sites_of seen old.sites.items) (site ∷ []) ∙ omega (arith, a.no_redirects, no_redirects_at policy t node h.node old.numbers, Rattle.std.proofs.lemmas.List.Sums.sum_by-cons redirects_at site []);
        no_switched = ap (sum_by switched_count) next.sites ∙ sum_by-append switched_count (sites_of seen old.sites.items) (site ∷ []) ∙ omega (arith, a.no_switched, Rattle.std.proofs.lemmas.List.Sums.sum_by-cons switched_count site []);
      }

  -- *All are*
  pub at_end : (place : ℕ) (n : Network C) → place ≡ length t.nodes → IsAt place n → world_of seen n no_notes ≡ opened policy t
  at_end place n is a = ap (opens_each policy t (world_of seen n no_notes) (suc place)) (sym (drop_all t.nodes place is)) ∙ a.rest

  pub runs_at_end : (place : ℕ) (n : Network C) → place ≡ length t.nodes → IsAt place n → Runs seen t n
  runs_at_end place n is a =
      let size : length (sites_of seen n.sites.items) ≡ place = map_length (site_of seen) n.sites.items ∙ a.size in
      record {
        world = record {
          topology_is = a.opening.topology_is;
          nodes = size ∙ is;
          sites = subst (λ e. AreRunning t e 1 (sites_of seen n.sites.items)) (sym a.events) a.running;
          instances = omega (arith, a.opening.instances, a.size, is, a.opening.topology_is.few_nodes);
          controls = omega (arith, a.opening.controls);
          sent = omega (arith, a.sent);
        };
        peers = a.peers;
        starts = subst (λ (k : ℕ). HaveStarts n.round.items n.starts k) (sym a.size) a.starts;
        marked = λ i p e no. absurd (true≢false (sym (a.marks (node_place p) (a.starts.stand i p e).node) ∙ no));
        round = a.round ∙ ap (places_from t 1) (sym size) ∙ sym (places_are t 0 1 (sites_of seen n.sites.items) a.running);
        redirects = a.redirects ∙ sym a.no_redirects;
        switched = a.switched ∙ sym a.no_switched;
        few_redirects = omega (arith, a.redirects);
        few_switched = omega (arith, a.switched);
      }
