-- the opening of a network of a topology that lines make

use Rattle.std.proofs.Common.{◌≡◌, ℕ, zero, suc, ◌+◌, ◌-◌, ◌≤◌, ◌<◌, ◌==◌, Bool, true, false, cond, List, [], ◌∷◌, ◌++◌, length, map, filter, find, reverse, slice_get, slice_index_or, is_some, All, Option, None, Some, refl, sym, ◌∙◌, ap, subst, arith, min, sum_by}
use mathlib.Core.List.{reverse_aux}
use Rattle.std.specs.List.{list_any, range_with_len}
use Rattle.std.specs.Option.{option_map, option_map_or}
use Rattle.std.proofs.lemmas.Bool.Decides.{nat_tests}
use Rattle.net_types.specs.declared.node.NodeId.{NodeId}
use Rattle.net_types.specs.declared.node.PortNo.{PortNo}
use Rattle.net_types.specs.declared.prefix.Addr.{Addr}
use Rattle.net_types.specs.declared.number.Instance.{Instance}
use Rattle.net_types.specs.Number.{GivenOut, next_instance}
use Rattle.ipv4_forward.specs.declared.table.Next.{Next}
use Rattle.ipv4_forward.specs.declared.table.Next.TheVariants.{Local, Via}
use Rattle.ipv4_forward.specs.declared.table.Route.{Route}
use Rattle.ordered_lists.specs.Ordered.{Every}
use Rattle.port_model.specs.declared.timers.Timers.{Timers}
use Rattle.port_model.specs.Setup.{Policy, Setup}
use Rattle.port_model.specs.Redirection.{greatest_tally}
use Rattle.world_model.specs.Switch as switches
use Rattle.world_model.specs.Switch.{Switch, begun, control_port, numbers_of}
use Rattle.world_model.specs.controller_model.declared.range.PortRange.{PortRange}
use Rattle.world_model.specs.Controller.{Controller, Linked}
use Rattle.world_model.specs.Opening.{after_opening, opened as opened_controller, opens_port, opens_ports}
use Rattle.world_model.specs.Conditions.{ArePolicyNumbers, IsLinkedNext, IsNode, IsNodeOf, IsRange, IsTopology}
use Rattle.world_model.specs.Topology as topologies
use Rattle.world_model.specs.Topology.{Topology, Node, PolicyLine, Xy, Never, default_range, node_at, node_in, peer_of, range_among, ranges_of, timers_of, vpis_of, window_of}
use Rattle.world_model.specs.World.{Site, numbers_after, opened_site, redirects_at}
use Rattle.world_model.proofs.Opening.{site_ports}
use Rattle.node_controller.specs.Nodes.{AreRoutesOf, AreTimes, IsLabelRange, NamesOneOf}
use Rattle.law_world_pace.specs.Running.{AreRunning, IsRunningSite, numbered}
use Rattle.law_world_pace.proofs.Ports.{is_port_of}

-- *The ranges of a node* are of its ports
found_range : (port : PortNo) (ranges : List PortRange) → (option_map_or (λ range. range) (find (λ range. range.port.0 == port.0) ranges) (default_range port)).port ≡ port
found_range port [] = refl
found_range port (range ∷ ranges) = elim (range.port.0 == port.0) as (λ t. (range.port.0 == port.0) ≡ t
    → (option_map_or (λ range. range) (cond t (Some range) (find (λ range. range.port.0 == port.0) ranges)) (default_range port)).port ≡ port) [
      | true ↦ λ e. (let same : range.port.0 ≡ port.0 = grind (arith, nat_tests, e) in ap (λ (n : ℕ). record { 0 = n }) same)
      | false ↦ λ e. found_range port ranges
    ] refl

range_ports : (ranges : List PortRange) (ports : List PortNo) → map (λ (range : PortRange). range.port) (map (range_among ranges) ports) ≡ ports
range_ports ranges [] = refl
range_ports ranges (port ∷ ports) =
    ap (λ p. p ∷ map (λ (range : PortRange). range.port) (map (range_among ranges) ports)) (found_range port (reverse ranges))
    ∙ ap (λ ps. port ∷ ps) (range_ports ranges ports)

pub ports_of_ranges : (t : Topology) (node : NodeId) (d : Node) → map (λ (range : PortRange). range.port) (ranges_of t node d) ≡ topologies.linked_ports t node
ports_of_ranges t node d = range_ports d.ranges (topologies.linked_ports t node)

-- and within their limits
module _ {A : Type 0} (P : A → Type 0) where
  all_every : (xs : List A) → All P xs → Every P xs
  all_every [] h = tt
  all_every (x ∷ xs) h = (h 0 x (omega arith), all_every xs (λ k d low. h (suc k) d (omega (arith, low))))

  every_all : (xs : List A) → Every P xs → (k : ℕ) (d : A) → k < length xs → P (slice_index_or xs k d)
  every_all [] h k d low = absurd (omega (arith, low))
  every_all (x ∷ xs) h zero d low = h.0
  every_all (x ∷ xs) h (suc k) d low = every_all xs h.1 k d (omega (arith, low))

  every_aux : (xs ys : List A) → Every P xs → Every P ys → Every P (reverse_aux xs ys)
  every_aux [] ys h g = g
  every_aux (x ∷ xs) ys h g = every_aux xs (x ∷ ys) h.1 (h.0, g)

  every_reverse : (xs : List A) → Every P xs → Every P (reverse xs)
  every_reverse xs h = every_aux xs [] h tt

label_range : (range : PortRange) → IsRange range → IsLabelRange range
label_range range r = record { least = r.least; greatest = r.greatest; order = r.ascends }

found_fine : (port : PortNo) (ranges : List PortRange) → Every IsRange ranges → IsLabelRange (option_map_or (λ range. range) (find (λ range. range.port.0 == port.0) ranges) (default_range port))
found_fine port [] h = record { least = refl; greatest = refl; order = omega arith }
found_fine port (range ∷ ranges) h = elim (range.port.0 == port.0) as (λ t. IsLabelRange (option_map_or (λ range. range) (cond t (Some range) (find (λ range. range.port.0 == port.0) ranges)) (default_range port))) [
  | true ↦ label_range range h.0
  | false ↦ found_fine port ranges h.1
]

ranges_fine : (ranges : List PortRange) (ports : List PortNo) → Every IsRange ranges → Every IsLabelRange (map (range_among ranges) ports)
ranges_fine ranges [] h = tt
ranges_fine ranges (port ∷ ports) h = (found_fine port (reverse ranges) (every_reverse IsRange ranges h), ranges_fine ranges ports h)

pub are_label_ranges : (t : Topology) (node : NodeId) (d : Node) → IsNodeOf t node d → All IsLabelRange (ranges_of t node d)
are_label_ranges t node d is = every_all IsLabelRange (ranges_of t node d) (ranges_fine d.ranges (topologies.linked_ports t node) (all_every IsRange d.ranges is.ranges))

-- *Its routes* lead to its ports
next_named : (t : Topology) (node : NodeId) (ps : List PortNo) (next : Next) → IsTopology t → ps ≡ topologies.linked_ports t node → IsLinkedNext t node next → NamesOneOf ps next
next_named t node ps Local is same h = tt
next_named t node ps (Via port) is same h = ap (list_any (λ (p : PortNo). p.0 == port.0)) same ∙ is_port_of t node port is h

pub are_routes : (t : Topology) (node : NodeId) (d : Node) → IsTopology t → IsNodeOf t node d → AreRoutesOf d.routes (ranges_of t node d)
are_routes t node d is of = λ k r low. next_named t node (map (λ (range : PortRange). range.port) (ranges_of t node d)) (slice_index_or d.routes k r).next is (ports_of_ranges t node d) (of.linked k r low)

-- *The times*
window_low : (line : PolicyLine) → ArePolicyNumbers line → (1 ≤ window_of line) × (window_of line ≤ 64)
window_low (Xy x y) h = h.1
window_low Never h = (omega arith, omega arith)

pub are_times : (t : Topology) → IsTopology t → AreTimes (timers_of t)
are_times t is = (let w = window_low t.policy is.policy in record { lifetime = is.times.0.0; refresh = is.times.1.0; window_least = w.0; window_most = w.1 })

pub vpis_low : (t : Topology) → (1 ≤ vpis_of t) × (vpis_of t ≤ 16)
vpis_low t = elim (t.version == 2) as (λ b. (1 ≤ cond b 16 1) × (cond b 16 1 ≤ 16)) [
  | true ↦ (omega arith, omega arith)
  | false ↦ (omega arith, omega arith)
]

-- *The node of a number*
pub record HasNode (t : Topology) (node : NodeId) : Type 0 where
  pub d : Node
  pub is : node_at t node ≡ Some d
  pub fine : IsNodeOf t node d

nodes_at : (nodes : List Node) (k : ℕ) → k < length nodes → (d : Node) × (slice_get nodes k ≡ Some d)
nodes_at [] k low = absurd (omega (arith, low))
nodes_at (x ∷ nodes) zero low = (x, refl)
nodes_at (x ∷ nodes) (suc k) low = nodes_at nodes k (omega (arith, low))

pub has_node : (t : Topology) (node : NodeId) → IsTopology t → IsNode t node → HasNode t node
has_node t node is h =
    let r = nodes_at t.nodes (node.0 - 1) (omega (arith, h.0, h.1)) in
    let up : suc (node.0 - 1) ≡ node.0 = omega (arith, h.0) in
    let number : numbered (node.0 - 1 + 1) ≡ node = ap numbered (omega (arith, h.0)) in
    record {
      d = r.0;
      is = subst (λ n. node_in t.nodes n ≡ Some r.0) up r.1;
      fine = subst (λ (n : NodeId). IsNodeOf t n r.0) number (is.nodes (node.0 - 1) r.0 r.1);
    }

-- what is read of it
pub read_of : {A : Type 0} (f : Node → A) (o : Option Node) (d : Node) (x : A) → o ≡ Some d → option_map f o ≡ Some x → f d ≡ x
read_of f o d x is e = (let both : Some (f d) ≡ Some x = ap (option_map f) (sym is) ∙ e in cc)

-- *What a node draws*
filter_length : {A : Type 0} (test : A → Bool) (xs : List A) → length (filter test xs) ≤ length xs
filter_length test [] = omega arith
filter_length test (x ∷ xs) = elim (test x) as (λ b. length (cond b (x ∷ filter test xs) (filter test xs)) ≤ length (x ∷ xs)) [
  | true ↦ omega (arith, filter_length test xs)
  | false ↦ omega (arith, filter_length test xs)
]

map_length : {A B : Type 0} (f : A → B) (xs : List A) → length (map f xs) ≡ length xs
map_length f [] = refl
map_length f (x ∷ xs) = ap suc (map_length f xs)

pub few_ranges : (t : Topology) (node : NodeId) (d : Node) → length (ranges_of t node d) ≤ 8
few_ranges t node d = omega (
  arith,
  map_length (range_among d.ranges) (topologies.linked_ports t node),
  filter_length (λ (port : PortNo). is_some (peer_of t node port)) (map (λ (n : ℕ). record { 0 = n }) (range_with_len 1 8)),
)

-- *A site is opened*
pub site_opened : (policy : Policy) (t : Topology) (node : NodeId) (numbers : GivenOut) (o : Option Node) (c : Controller) (s : Switch) (address : Addr) (table : List Route) (ranges : List PortRange) (cells : ℕ) (timers : Timers) (ports : List PortNo) (vpis : ℕ)
    → option_map (λ (d : Node). d.address) o ≡ Some address → table ≡ option_map_or (λ (d : Node). d.routes) o [] → option_map (ranges_of t node) o ≡ Some ranges → option_map (λ (d : Node). d.cells) o ≡ Some cells
    → timers ≡ timers_of t → ports ≡ map (λ (range : PortRange). range.port) ranges → vpis ≡ vpis_of t
    → c ≡ opened_controller node address table ranges cells timers policy numbers → s ≡ switches.opened node ports cells vpis (next_instance (after_opening ranges numbers))
    → option_map (λ d. opened_site policy t node d numbers) o ≡ Some (record { controller = c; switch = s })
site_opened policy t node numbers None c s address table ranges cells timers ports vpis ea et er ec em ep ev is_c is_s = absurd (cc ea)
site_opened policy t node numbers (Some d) c s address table ranges cells timers ports vpis ea et er ec em ep ev is_c is_s =
    let a : d.address ≡ address = cc in
    let r : ranges_of t node d ≡ ranges = cc in
    let n : d.cells ≡ cells = cc in
    let p : topologies.linked_ports t node ≡ ports = sym (ports_of_ranges t node d) ∙ ap (map (λ (range : PortRange). range.port)) r ∙ sym ep in
    (λ i. Some (record {
      controller = opened_controller node (a i) (sym et i) (r i) (n i) (sym em i) policy numbers;
      switch = switches.opened node (p i) (n i) (sym ev i) (next_instance (after_opening (r i) numbers));
    })) ∙ (λ i. Some (record { controller = sym is_c i; switch = sym is_s i }))

pub numbers_opened : (t : Topology) (node : NodeId) (numbers middle after : GivenOut) (o : Option Node) (ranges : List PortRange) → option_map (ranges_of t node) o ≡ Some ranges
    → middle ≡ after_opening ranges numbers → after ≡ Rattle.net_types.specs.Number.with_instance middle → option_map (λ d. numbers_after t node d numbers) o ≡ Some after
numbers_opened t node numbers middle after None ranges er em ea = absurd (cc er)
numbers_opened t node numbers middle after (Some d) ranges er em ea =
    let r : ranges_of t node d ≡ ranges = cc in
    ap (λ rs. Some (Rattle.net_types.specs.Number.with_instance (after_opening rs numbers))) r ∙ ap (λ m. Some (Rattle.net_types.specs.Number.with_instance m)) (sym em) ∙ ap Some (sym ea)

-- *The world that is opened* runs
begun_numbers : (own : Instance) (ports : List PortNo) → numbers_of (map (begun own) ports) ≡ ports
begun_numbers own [] = refl
begun_numbers own (port ∷ ports) = ap (λ ps. port ∷ ps) (begun_numbers own ports)

pub site_runs : (policy : Policy) (t : Topology) (number : NodeId) (d : Node) (numbers : GivenOut) → IsRunningSite t 0 number.0 (opened_site policy t number d numbers)
site_runs policy t number d numbers = record {
  node = refl;
  ports = site_ports policy t number d numbers;
  switch_ports = ap (λ ps. control_port ∷ ps) (begun_numbers (next_instance (after_opening (ranges_of t number d) numbers)) (topologies.linked_ports t number));
  size = refl;
  queue = tt;
  queues = (tt, (tt, (tt, (tt, (tt, (tt, (tt, (tt, (tt, tt)))))))));
  changes = omega arith;
}

pub runs_more : (t : Topology) (number : ℕ) (sites : List Site) (site : Site) → AreRunning t 0 number sites → IsRunningSite t 0 (number + length sites) site → AreRunning t 0 number (sites ++ site ∷ [])
runs_more t number [] site h new = (subst (λ n. IsRunningSite t 0 n site) (omega arith) new, tt)
runs_more t number (x ∷ sites) site h new = (h.0, runs_more t (suc number) sites site h.1 (subst (λ n. IsRunningSite t 0 n site) (omega arith) new))

-- nothing was accepted or switched
no_redirects : (setup : PortRange → Setup) (instances : ℕ) (ranges : List PortRange) → sum_by (λ (linked : Linked). linked.port.redirects) (opens_ports setup instances ranges) ≡ 0
no_redirects setup instances [] = refl
no_redirects setup instances (range ∷ ranges) = omega (arith, Rattle.std.proofs.lemmas.List.Sums.sum_by-cons (λ (linked : Linked). linked.port.redirects) (opens_port (setup range) instances) (opens_ports setup (instances + 1) ranges), no_redirects setup (instances + 1) ranges)

pub no_redirects_at : (policy : Policy) (t : Topology) (number : NodeId) (d : Node) (numbers : GivenOut) → redirects_at (opened_site policy t number d numbers) ≡ 0
no_redirects_at policy t number d numbers = ap (min greatest_tally) (no_redirects _ (numbers.instances + 1) (ranges_of t number d))

-- *What the opening of one node needs*, where these are the ranges that are read
module _ (t : Topology) (node : NodeId) (ranges : List PortRange) (is : IsTopology t) (of : IsNode t node) (read : option_map (ranges_of t node) (node_at t node) ≡ Some ranges) where
  here : HasNode t node
  here = has_node t node is of

  are_ranges : ranges_of t node (has_node t node is of).d ≡ ranges
  are_ranges = read_of (ranges_of t node) (node_at t node) (has_node t node is of).d ranges (has_node t node is of).is read

  pub ports_given : map (λ (range : PortRange). range.port) ranges ≡ topologies.linked_ports t node
  ports_given = ap (map (λ (range : PortRange). range.port)) (sym are_ranges) ∙ ports_of_ranges t node (has_node t node is of).d

  pub ranges_given : (k : ℕ) (d : PortRange) → k < length ranges → IsLabelRange (slice_index_or ranges k d)
  ranges_given = subst (λ (rs : List PortRange). (k : ℕ) (d : PortRange) → k < length rs → IsLabelRange (slice_index_or rs k d)) are_ranges
      (are_label_ranges t node (has_node t node is of).d (has_node t node is of).fine)

  pub few_given : length ranges ≤ 8
  few_given = omega (arith, ap length are_ranges, few_ranges t node (has_node t node is of).d)

  pub cells_given : (cells : ℕ) → option_map (λ (d : Node). d.cells) (node_at t node) ≡ Some cells → (1 ≤ cells) × (cells ≤ 16384)
  cells_given cells e =
      let same : (has_node t node is of).d.cells ≡ cells = read_of (λ (d : Node). d.cells) (node_at t node) (has_node t node is of).d cells (has_node t node is of).is e in
      (omega (arith, same, (has_node t node is of).fine.cells.0), omega (arith, same, (has_node t node is of).fine.cells.1))

  pub table_given : (table : List Route) → table ≡ option_map_or (λ (d : Node). d.routes) (node_at t node) []
      → (k : ℕ) (d : Route) → k < length table → NamesOneOf (map (λ (range : PortRange). range.port) ranges) (slice_index_or table k d).next
  table_given table e =
      let h : HasNode t node = has_node t node is of in
      let routes : h.d.routes ≡ table = sym (e ∙ ap (λ (o : Option Node). option_map_or (λ (d : Node). d.routes) o []) h.is) in
      subst (λ (rs : List PortRange). (k : ℕ) (d : Route) → k < length table → NamesOneOf (map (λ (range : PortRange). range.port) rs) (slice_index_or table k d).next) are_ranges
      (subst (λ (tb : List Route). (k : ℕ) (d : Route) → k < length tb → NamesOneOf (map (λ (range : PortRange). range.port) (ranges_of t node h.d)) (slice_index_or tb k d).next) routes (are_routes t node h.d is h.fine))
