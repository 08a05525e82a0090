-- each line that isn't refused makes a topology of a topology

use Rattle.std.proofs.Common.{◌≡◌, ℕ, suc, ◌<◌, ◌≤◌, ◌-◌, ◌==◌, ◌&&◌, ◌||◌, Bool, true, false, true≢false, List, [], ◌∷◌, ◌++◌, length, length-append, slice_get, slice_set, slice_index_or, is_some, is_none, option_map, position, Option, None, Some, refl, sym, ◌∙◌, ap, subst, arith, nat_le, if◌then◌else◌}
use Rattle.std.specs.Option.{option_or, option_map_or}
use Rattle.std.proofs.lemmas.Bool.Decides.{nat_tests}
use Rattle.std.proofs.lemmas.List.Elements.{All-push}
use Rattle.std.proofs.lemmas.Option.{slice_get-get_or}
use Rattle.network_model.specs.net_types.declared.node.NodeId.{NodeId}
use Rattle.network_model.specs.net_types.declared.node.PortNo.{PortNo}
use Rattle.network_model.specs.net_types.declared.prefix.Addr.{Addr}
use Rattle.network_model.specs.net_types.Prefix.{Network}
use Rattle.network_model.specs.ipv4_forward.Best.{has_prefix}
use Rattle.network_model.specs.ipv4_forward.declared.table.Next.{Next}
use Rattle.network_model.specs.ipv4_forward.declared.table.Next.TheVariants.{Local, Via}
use Rattle.network_model.specs.ipv4_forward.declared.table.Route.{Route}
use Rattle.network_model.proofs.ipv4_forward.Passing.{distinct_push}
use Rattle.world_model.specs.controller_model.declared.range.PortRange.{PortRange}
use Rattle.world_model.specs.network_model.declared.link.LinkEnd.{LinkEnd}
use Rattle.world_model.specs.network_model.declared.line.TopologyLine.{TopologyLine}
use Rattle.world_model.specs.network_model.declared.line.TopologyLine.TheVariants as lines
use Rattle.world_model.specs.network_model.declared.refusal.TopologyRefusal.{TopologyRefusal}
use Rattle.world_model.specs.network_model.declared.refusal.TopologyRefusal.TheVariants.{DuplicateName, TooMany, SelfLink, PortTaken, NoLink, Duplicate, TableFull}
use Rattle.world_model.specs.Topology.{Topology, Node, Link, peer_of, peer_among, peer_on, same_link_end, empty_topology, node_in}
use Rattle.world_model.specs.Lines.{is_named, node_named, is_linked, routes_of, first_of, of_named, line_refusal, with_line, with_changed, changed_at, changes_named, with_route, with_link, via_refusal, local_refusal, route_refusal, link_refusal, node_refusal}
use Rattle.world_model.specs.Conditions.{IsTopology, IsNodeOf, IsLink, IsNode, IsPort, IsLinkedNext, IsRange, ArePolicyNumbers, AreTimes, HasItsNumbers}
use Rattle.world_model.proofs.Made.{number_at, found_at, node_more, node_changed, next_stays, node_stays, links_stay}

-- *Refusals*: where none applies, each test fails
passes : (b : Bool) (refusal : TopologyRefusal) (tests : List (Bool × TopologyRefusal)) → first_of ((b, refusal) ∷ tests) ≡ None
    → (b ≡ false) × (first_of tests ≡ None)
passes true refusal tests e = absurd (cc e)
passes false refusal tests e = (refl, e)

not_some : {A : Type 0} (o : Option A) → is_some o ≡ false → o ≡ None
not_some None e = refl
not_some (Some x) e = absurd (true≢false e)

not_none : {A : Type 0} (o : Option A) → is_none o ≡ false → is_some o ≡ true
not_none None e = absurd (true≢false e)
not_none (Some x) e = refl

neither : (a b : Bool) → (a || b) ≡ false → (a ≡ false) × (b ≡ false)
neither true b e = absurd (true≢false e)
neither false b e = (refl, e)

-- *A link more*
peer_kept : (end : LinkEnd) (link : Link) (far : LinkEnd) (links : List Link) → peer_among end links ≡ Some far → peer_among end (links ++ link ∷ []) ≡ Some far
peer_kept end link far [] e = absurd (cc e)
peer_kept end link far (x ∷ links) e = by_first (λ h. peer_kept end link far links h) (peer_on end x) e
  where
    by_first : (peer_among end links ≡ Some far → peer_among end (links ++ link ∷ []) ≡ Some far) → (o : Option LinkEnd) → option_or o (peer_among end links) ≡ Some far → option_or o (peer_among end (links ++ link ∷ [])) ≡ Some far
    by_first later None h = later h
    by_first later (Some f) h = h

peer_new : (end : LinkEnd) (link : Link) (far : LinkEnd) (links : List Link) → peer_among end links ≡ None → peer_on end link ≡ Some far
    → peer_among end (links ++ link ∷ []) ≡ Some far
peer_new end link far [] none on = ap (λ o. option_or o None) on
peer_new end link far (x ∷ links) none on = by_first (λ h. peer_new end link far links h on) (peer_on end x) none
  where
    by_first : (peer_among end links ≡ None → peer_among end (links ++ link ∷ []) ≡ Some far) → (o : Option LinkEnd) → option_or o (peer_among end links) ≡ None → option_or o (peer_among end (links ++ link ∷ [])) ≡ Some far
    by_first later None h = later h
    by_first later (Some f) h = absurd (cc h)

still_linked : (end : LinkEnd) (link : Link) (links : List Link) → is_some (peer_among end links) ≡ true → is_some (peer_among end (links ++ link ∷ [])) ≡ true
still_linked end link links e = by_peer (peer_among end links) refl e
  where
    by_peer : (o : Option LinkEnd) → peer_among end links ≡ o → is_some o ≡ true → is_some (peer_among end (links ++ link ∷ [])) ≡ true
    by_peer None is h = absurd (true≢false (sym h))
    by_peer (Some far) is h = ap is_some (peer_kept end link far links is)

same_self : (end : LinkEnd) → same_link_end end end ≡ true
same_self end = grind (arith, nat_tests)

apart_ends : (one other : LinkEnd) → (one.node.0 == other.node.0) ≡ false → same_link_end one other ≡ false
apart_ends one other apart = ap (λ (b : Bool). b && (one.port.0 == other.port.0)) apart

on_first : (link : Link) → peer_on link.first link ≡ Some link.second
on_first link = ap (λ (b : Bool). if b then Some link.second else (if same_link_end link.second link.first then Some link.first else None)) (same_self link.first)

on_second : (link : Link) → (link.first.node.0 == link.second.node.0) ≡ false → peer_on link.second link ≡ Some link.first
on_second link apart =
    ap (λ (b : Bool). if b then Some link.second else (if same_link_end link.second link.second then Some link.first else None)) (apart_ends link.first link.second apart)
    ∙ ap (λ (b : Bool). if b then Some link.first else None) (same_self link.second)

abbrev with_one_more : Topology → Link → Topology
with_one_more t link = record t { links = t.links ++ link ∷ [] }

link_more : (t : Topology) (link : Link) → IsTopology t → (IsNode t link.first.node × IsPort link.first.port) → (IsNode t link.second.node × IsPort link.second.port)
    → (link.first.node.0 == link.second.node.0) ≡ false → peer_of t link.first.node link.first.port ≡ None → peer_of t link.second.node link.second.port ≡ None
    → length t.links < 256 → IsTopology (record t { links = t.links ++ link ∷ [] })
link_more t link is first second apart free_first free_second few = record {
  few_nodes = is.few_nodes;
  few_links = omega (arith, length-append t.links (link ∷ []), few);
  links = All-push (IsLink (with_one_more t link)) t.links link (λ k d low. old (slice_index_or t.links k d) (is.links k d low)) (record {
    first = first;
    second = second;
    apart = apart;
    there = peer_new link.first link link.second t.links free_first (on_first link);
    back = peer_new link.second link link.first t.links free_second (on_second link apart);
  });
  nodes = λ place node e. node_linked place node (is.nodes place node e);
  policy = is.policy;
  times = is.times;
  version = is.version;
}
  where
    old : (x : Link) → IsLink t x → IsLink (with_one_more t link) x
    old x l = record {
      first = l.first;
      second = l.second;
      apart = l.apart;
      there = peer_kept x.first link x.second t.links l.there;
      back = peer_kept x.second link x.first t.links l.back;
    }

    next_linked : (number : NodeId) (next : Next) → IsLinkedNext t number next → IsLinkedNext (with_one_more t link) number next
    next_linked number Local l = tt
    next_linked number (Via port) l = still_linked (record { node = number; port = port }) link t.links l

    node_linked : (place : ℕ) (node : Node) → IsNodeOf t (number_at place) node → IsNodeOf (with_one_more t link) (number_at place) node
    node_linked place node n = record {
      named = n.named;
      cells = n.cells;
      ranges = n.ranges;
      room = n.room;
      distinct = n.distinct;
      linked = λ k d low. next_linked (number_at place) (slice_index_or node.routes k d).next (n.linked k d low);
    }

-- *A node that a line names is changed*
there_is : (t : Topology) (name : List ℕ) (number : NodeId) → node_named t name ≡ Some number → IsNode t number
there_is t name number e = (let f = found_at t name number e in
    (omega (arith, ap (λ (n : NodeId). n.0) f.is), omega (arith, ap (λ (n : NodeId). n.0) f.is, f.low)))

changes_keep : (t : Topology) (name : List ℕ) (number : NodeId) (change : Node → Node) → IsTopology t → node_named t name ≡ Some number
    → ((node : Node) → (change node).name ≡ node.name)
    → ((u : Topology) (place : ℕ) (node : Node) → number ≡ number_at place → u.links ≡ t.links → slice_get t.nodes place ≡ Some node → IsNodeOf t (number_at place) node
    → node_named u (change node).name ≡ Some (number_at place) → IsNodeOf u (number_at place) (change node))
    → IsTopology (with_changed t change (Some number))
changes_keep t name number change is e same keeps =
    let f = found_at t name number e in
    let old : Node = slice_index_or t.nodes f.place (record { name = []; address = record { 0 = 0 }; cells = 0; ranges = []; routes = [] }) in
    let got : slice_get t.nodes f.place ≡ Some old = slice_get-get_or t.nodes f.place (record { name = []; address = record { 0 = 0 }; cells = 0; ranges = []; routes = [] }) f.low in
    let back : number.0 - 1 ≡ f.place = omega (arith, ap (λ (n : NodeId). n.0) f.is) in
    subst (λ (nodes : List Node). IsTopology (record t { nodes = nodes }))
    (sym (ap (λ (k : ℕ). changed_at change t.nodes k (slice_get t.nodes k)) back ∙ ap (λ (o : Option Node). changed_at change t.nodes f.place o) got))
    (node_changed t f.place old (change old) is got (same old) (λ n named. keeps (record t { nodes = slice_set t.nodes f.place (change old) }) f.place old f.is refl got n named))

-- *Lines about the whole network*
whole_keeps : (t u : Topology) → u.nodes ≡ t.nodes → u.links ≡ t.links → ArePolicyNumbers u.policy → AreTimes u.times
    → (1 ≤ u.version) × (u.version ≤ 2) → IsTopology t → IsTopology u
whole_keeps t u nodes links policy times version is = record {
  few_nodes = omega (arith, ap length nodes, is.few_nodes);
  few_links = omega (arith, ap length links, is.few_links);
  links = links_stay t u links (omega (arith, ap length nodes)) is.links;
  nodes = λ place node e. (let n : IsNodeOf t (number_at place) node = is.nodes place node (ap (λ ns. slice_get ns place) (sym nodes) ∙ e) in
      node_stays t u (number_at place) node links (ap (λ ns. option_map number_at (position (is_named node.name) ns)) nodes ∙ n.named) n);
  policy = policy;
  times = times;
  version = version;
}

-- the routes of a node by its number
routes_are : (t : Topology) (number : NodeId) (place : ℕ) (node : Node) → number ≡ number_at place → slice_get t.nodes place ≡ Some node
    → routes_of t number ≡ node.routes
routes_are t number place node is got =
    let up : number.0 ≡ suc place = omega (arith, ap (λ (n : NodeId). n.0) is) in
    ap (λ (k : ℕ). option_map_or (λ (n : Node). n.routes) (node_in t.nodes k) []) up
    ∙ ap (λ (o : Option Node). option_map_or (λ (n : Node). n.routes) o []) got

module _ (t : Topology) (is : IsTopology t) where
  node_keeps : (name : List ℕ) (address : Addr) → node_refusal t name ≡ None → IsTopology (with_line t (lines.Node name address))
  node_keeps name address e =
      let first = passes (is_some (node_named t name)) DuplicateName ((nat_le 64 (length t.nodes), TooMany) ∷ []) e in
      let second = passes (nat_le 64 (length t.nodes)) TooMany [] first.1 in
      node_more t name address is (not_some (node_named t name) first.0) (grind (arith, nat_tests, second.0))

  -- a line that changes the node that it names
  named_keeps : (name : List ℕ) (change : Node → Node) (refusal : NodeId → Option TopologyRefusal) → of_named refusal (node_named t name) ≡ None
      → ((number : NodeId) → node_named t name ≡ Some number → refusal number ≡ None → IsTopology (with_changed t change (Some number)))
      → IsTopology (changes_named t name change)
  named_keeps name change refusal e keeps = by_name (node_named t name) refl e
    where
      by_name : (o : Option NodeId) → node_named t name ≡ o → of_named refusal o ≡ None → IsTopology (with_changed t change o)
      by_name None is h = absurd (cc h)
      by_name (Some number) is h = keeps number is h

  cells_keep : (name : List ℕ) (cells : ℕ) → (1 ≤ cells) × (cells ≤ 16384) → of_named (λ node. None) (node_named t name) ≡ None
      → IsTopology (with_line t (lines.Cells name cells))
  cells_keep name cells some e = named_keeps name (λ node. record node { cells = cells }) (λ node. None) e
      (λ number found h. changes_keep t name number (λ node. record node { cells = cells }) is found (λ node. refl)
      (λ u place node at same got n named. record {
        named = named;
        cells = some;
        ranges = n.ranges;
        room = n.room;
        distinct = n.distinct;
        linked = λ k d low. next_stays t u (number_at place) (slice_index_or node.routes k d).next same (n.linked k d low);
      }))

  labels_keep : (name : List ℕ) (range : PortRange) → IsRange range → of_named (λ node. None) (node_named t name) ≡ None
      → IsTopology (changes_named t name (λ node. record node { ranges = node.ranges ++ range ∷ [] }))
  labels_keep name range fine e = named_keeps name (λ node. record node { ranges = node.ranges ++ range ∷ [] }) (λ node. None) e
      (λ number found h. changes_keep t name number (λ node. record node { ranges = node.ranges ++ range ∷ [] }) is found (λ node. refl)
      (λ u place node at same got n named. record {
        named = named;
        cells = n.cells;
        ranges = All-push IsRange node.ranges range n.ranges fine;
        room = n.room;
        distinct = n.distinct;
        linked = λ k d low. next_stays t u (number_at place) (slice_index_or node.routes k d).next same (n.linked k d low);
      }))

  -- a route that no other has the prefix of, to a port that is linked
  route_keeps : (name : List ℕ) (number : NodeId) (prefix : Network) (next : Next) → node_named t name ≡ Some number → IsLinkedNext t number next
      → first_of (route_refusal (routes_of t number) prefix) ≡ None → IsTopology (with_changed t (with_route prefix next) (Some number))
  route_keeps name number prefix next found linked e =
      let first = passes (has_prefix (routes_of t number) prefix) Duplicate ((nat_le 256 (length (routes_of t number)), TableFull) ∷ []) e in
      let second = passes (nat_le 256 (length (routes_of t number))) TableFull [] first.1 in
      changes_keep t name number (with_route prefix next) is found (λ node. refl)
      (λ u place node at same got n named. (
      let routes : routes_of t number ≡ node.routes = routes_are t number place node at got in
      let new : Route = record { prefix = prefix; next = next } in
      let few : length (routes_of t number) < 256 = grind (arith, nat_tests, second.0) in
      record {
        named = named;
        cells = n.cells;
        ranges = n.ranges;
        room = omega (arith, length-append node.routes (new ∷ []), ap length routes, few);
        distinct = distinct_push node.routes new n.distinct (ap (λ rs. has_prefix rs prefix) (sym routes) ∙ first.0);
        linked = All-push (λ (route : Route). IsLinkedNext u (number_at place) route.next) node.routes new
            (λ k d low. next_stays t u (number_at place) (slice_index_or node.routes k d).next same (n.linked k d low))
            (subst (λ m. IsLinkedNext u m next) at (next_stays t u number next same linked));
      }))

  via_keeps : (name : List ℕ) (prefix : Network) (port : PortNo) → of_named (via_refusal t prefix port) (node_named t name) ≡ None
      → IsTopology (with_line t (lines.RouteVia name prefix port))
  via_keeps name prefix port e = named_keeps name (with_route prefix (Via port)) (via_refusal t prefix port) e
      (λ number found h. (
      let first = passes (is_none (peer_of t number port)) NoLink (route_refusal (routes_of t number) prefix) h in
      route_keeps name number prefix (Via port) found (not_none (peer_of t number port) first.0) first.1))

  local_keeps : (name : List ℕ) (prefix : Network) → of_named (local_refusal t prefix) (node_named t name) ≡ None
      → IsTopology (with_line t (lines.RouteLocal name prefix))
  local_keeps name prefix e = named_keeps name (with_route prefix Local) (local_refusal t prefix) e
      (λ number found h. route_keeps name number prefix Local found tt h)

  link_keeps : (first second : List ℕ × PortNo) → IsPort first.1 × IsPort second.1 → line_refusal t (lines.Link first second) ≡ None
      → IsTopology (with_line t (lines.Link first second))
  link_keeps first second ports e = by_names (node_named t first.0) (node_named t second.0) refl refl e
    where
      by_names : (one other : Option NodeId) → node_named t first.0 ≡ one → node_named t second.0 ≡ other
          → of_named (λ n. of_named (link_refusal t first.1 second.1 n) other) one ≡ None → IsTopology (with_link t first.1 second.1 one other)
      by_names None other a b h = absurd (cc h)
      by_names (Some one) None a b h = absurd (cc h)
      by_names (Some one) (Some other) a b h =
          let apart = passes (one.0 == other.0) SelfLink ((is_linked t one first.1 || is_linked t other second.1, PortTaken) ∷ (nat_le 256 (length t.links), TooMany) ∷ []) h in
          let free = passes (is_linked t one first.1 || is_linked t other second.1) PortTaken ((nat_le 256 (length t.links), TooMany) ∷ []) apart.1 in
          let few = passes (nat_le 256 (length t.links)) TooMany [] free.1 in
          let both = neither (is_linked t one first.1) (is_linked t other second.1) free.0 in
          link_more t (record { first = record { node = one; port = first.1 }; second = record { node = other; port = second.1 } }) is
          (there_is t first.0 one a, ports.0) (there_is t second.0 other b, ports.1) apart.0
          (not_some (peer_of t one first.1) both.0) (not_some (peer_of t other second.1) both.1) (grind (arith, nat_tests, few.0))

-- *Every line* whose numbers are within their limits
pub line_keeps : (t : Topology) (line : TopologyLine) → IsTopology t → HasItsNumbers line → line_refusal t line ≡ None → IsTopology (with_line t line)
line_keeps t (lines.Node name address) is fine e = node_keeps t is name address e
line_keeps t (lines.Cells name cells) is fine e = cells_keep t is name cells fine e
line_keeps t (lines.Labels name port lo hi) is fine e = labels_keep t is name (record { port = port; lo = lo; hi = hi }) fine e
line_keeps t (lines.Link first second) is fine e = link_keeps t is first second fine e
line_keeps t (lines.RouteVia name prefix port) is fine e = via_keeps t is name prefix port e
line_keeps t (lines.RouteLocal name prefix) is fine e = local_keeps t is name prefix e
line_keeps t (lines.PolicyXy x y) is fine e = whole_keeps t (with_line t (lines.PolicyXy x y)) refl refl fine is.times is.version is
line_keeps t lines.PolicyNever is fine e = whole_keeps t (with_line t lines.PolicyNever) refl refl tt is.times is.version is
line_keeps t (lines.Timers lifetime refresh idle) is fine e =
    whole_keeps t (with_line t (lines.Timers lifetime refresh idle)) refl refl is.policy fine is.version is
line_keeps t (lines.Version version) is fine e = whole_keeps t (with_line t (lines.Version version)) refl refl is.policy is.times fine is

-- and the topology before the first line is one
pub empty_is : IsTopology empty_topology
empty_is = record {
  few_nodes = omega arith;
  few_links = omega arith;
  links = λ k d low. absurd (omega (arith, low));
  nodes = λ place node e. absurd (cc e);
  policy = ((omega arith, omega arith), (omega arith, omega arith));
  times = ((omega arith, omega arith), (omega arith, omega arith), (omega arith, omega arith));
  version = (omega arith, omega arith);
}
