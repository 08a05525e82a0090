-- the cells that an event puts into the queues of links fit the flows of their labels, and what it binds is unused

use Rattle.std.proofs.Common.{◌≡◌, ◌≢◌, ℕ, ◌≤◌, ◌==◌, ◌&&◌, Bool, true, nat_lt, nat_le, List, [], ◌∷◌, ◌++◌, map, flat_map, drop, Option, None, Some, refl, sym, ◌∙◌, ap, subst, arith, append-nil, eqb-true}
use Rattle.std.specs.Prelude.{Contains, filter}
use Rattle.std.specs.List.{range_with_len}
use Rattle.std.specs.Option.{option_and_then, option_map}
use Rattle.std.proofs.lemmas.Bool.{and_parts}
use Rattle.std.proofs.lemmas.Bool.Decides.{nat_tests}
use Rattle.std.proofs.lemmas.List.Concat.{flat_map-cons}
use Rattle.world_model.specs.Words.{Channel, NodeId, PortNo, Place, Down, Up, Out, Mark, is_label_channel, number_of_channel, label_channel_of, Cell, FlowId, Frame, Record, Policy, Session, same_channel, Controller, Linked, default_channel, linked_at, IsTopology, IsNode, is_linked, Past, frames_of, bound_by, last_bound, queue_at, same_queue, places, places_of, next, Topology, Way, IsWay, IsUnused, ByCell, on_the_link, session_at, World, Site, site_at}
use Rattle.world_model.proofs.flow_encaps.CarryLemmas.{unwrap_fault-carried}
use Rattle.world_model.specs.link_model.declared.record.Record.TheVariants as kinds
use Rattle.law_passing.specs.ordered_lists.Ordered.{Every}
use Rattle.law_passing.proofs.ordered_lists.Every.{every_right}
use Rattle.law_run_facts.proofs.law_port_facts.Keyed.{on_both, on_each}
use Rattle.law_label_worlds.proofs.law_quiet_controllers.Beginning.{every_contained, contained}
use Rattle.law_true_runs.proofs.law_quiet_rounds.Sites.{all_found}
use Rattle.law_packet_worlds.proofs.law_way_words.Switching.{BindsNone}
use Rattle.law_packet_worlds.proofs.Bound.{bound_stays, none_own}
use Rattle.law_packet_worlds.proofs.Worlds.{IsNet, port_above}
use Rattle.law_running_worlds.proofs.law_causes.Shown.{peer_back}
use Rattle.law_run_facts.specs.Nodes.{IsNodeOfRun}
use Rattle.law_told_worlds.specs.Before.{end_at, IsWiringAt}
use Rattle.world_model.specs.Controller.{ports_of}
use Rattle.world_model.specs.network_model.declared.event.Event.{Event}
use Rattle.world_model.specs.network_model.declared.link.LinkEnd.{LinkEnd}
use Rattle.world_model.specs.Topology as topologies
use Rattle.world_model.specs.Topology.{peer_of}
use Rattle.law_run_facts.specs.law_world_views.Between.{EachSite, HasMeanings}
use Rattle.law_run_facts.specs.law_world_views.Marks.{Means, heading_at, early, control, local, plain, labelled}
use Rattle.law_passing.specs.telling_model.declared.standing.Standing.{Standing}
use Rattle.law_passing.specs.telling_model.Passing.{standing, left, left_from, source_of, cells_put_at}
use Rattle.law_passing.specs.Law.{QueuesChangeByPassing}
use Rattle.tell_trace.specs.Trace.{port_end}
use Rattle.law_trace_truth.specs.Law.{HasNames}
use Rattle.law_trace_truth.proofs.Knows.{IsPortEnd}
use Rattle.law_trace_truth.proofs.Puts.{Carried, IsCarried, IsGoodPut}
use Rattle.law_trace_truth.proofs.Binds.{AreOff, IsGoodBind}
use Rattle.law_trace_truth.proofs.Crossing.{PutsOn, still, crosses}
use Rattle.law_trace_truth.proofs.Taking.{queues_of}

-- *Lists*
pub every_flat : {A B : Type 0} (Q : B → Type 0) (f : A → List B) (xs : List A) → Every (λ (x : A). Every Q (f x)) xs → Every Q (flat_map f xs)
every_flat Q f [] all = tt
every_flat Q f (x ∷ xs) all = subst (Every Q) (sym (flat_map-cons f x xs)) (joined (f x) all.0 (every_flat Q f xs all.1))
  where
    joined : (ys : List _) → Every Q ys → Every Q (flat_map f xs) → Every Q (ys ++ flat_map f xs)
    joined [] e rest = rest
    joined (y ∷ ys) e rest = (e.0, joined ys e.1 rest)

every_passes : {A : Type 0} (test : A → Bool) (xs : List A) → Every (λ (x : A). test x ≡ true) (filter test xs)
every_passes test [] = tt
every_passes {A} test (x ∷ xs) = on_each (Every (λ (x : A). test x ≡ true)) (test x) (x ∷ filter test xs) (filter test xs) (λ e. (e, every_passes test xs)) (λ e. every_passes test xs)

pub every_to : {A B : Type 0} (P : A → Type 0) (Q : B → Type 0) (f : A → B) (xs : List A) → ((x : A) → P x → Q (f x)) → Every P xs → Every Q (map f xs)
every_to P Q f [] to all = tt
every_to P Q f (x ∷ xs) to all = (to x all.0, every_to P Q f xs to all.1)

-- a label's channel is no default one
pub not_default : (channel : Channel) → is_label_channel channel ≡ true → same_channel channel default_channel ≡ true → ⊥
not_default channel label default =
    let low = (and_parts (nat_le 32 channel.vci) (nat_lt channel.vci 1024) (and_parts (nat_lt channel.vpi 16) (nat_le 32 channel.vci && nat_lt channel.vci 1024) label).1).0 in
    let vci = eqb-true channel.vci 15 (and_parts (channel.vpi == 0) (channel.vci == 15) default).1 in
    differs channel.vci low vci
  where
    differs : (n : ℕ) → nat_le 32 n ≡ true → n ≡ 15 → ⊥
    differs n low e = (let more : 32 ≤ n = grind (arith, nat_tests, low) in absurd (omega (arith, more, e)))

-- *The places of a network* are those of its topology
abbrev pub IsOutPlace : Topology → Place → Type 0
IsOutPlace topology (Out node port) = IsPortEnd topology (port_end node port)
IsOutPlace topology place = Unit {0}

module _ (policy : Policy) (topology : Topology) (is : IsTopology topology) (past : Past) (same_topology : past.topology ≡ topology)
    (net : IsNet topology past.now) (nodes : EachSite past.now (IsNodeOfRun policy past)) where
  site_places : (site : Site) → site_at past.now site.controller.node ≡ Some site → Every (IsOutPlace topology) (places_of site)
  site_places site found =
      let n = (nodes site.controller.node site found).is_node in
      let number : IsNode topology site.controller.node = subst (λ (t : Topology). IsNode t site.controller.node) same_topology n.number in
      let ports : ports_of site.controller ≡ topologies.linked_ports topology site.controller.node = n.ports ∙ ap (λ (t : Topology). topologies.linked_ports t site.controller.node) same_topology in (
        tt,
        (
          tt,
          every_to (λ (port : PortNo). is_linked topology site.controller.node port ≡ true) (IsOutPlace topology) (λ port. Out site.controller.node port) (ports_of site.controller)
              (λ port linked. (number, linked))
              (subst (Every (λ (port : PortNo). is_linked topology site.controller.node port ≡ true)) (sym ports) (every_passes (is_linked topology site.controller.node) (map (λ (n : ℕ). (let p : PortNo = record { 0 = n } in p)) (range_with_len 1 8)))),
        ),
      )

  pub all_places : Every (IsOutPlace topology) (places past.now)
  all_places = every_flat (IsOutPlace topology) places_of past.now.sites
      (each past.now.sites (all_found past.now net.shaped))
    where
      each : (sites : List Site) → Every (λ (s : Site). site_at past.now s.controller.node ≡ Some s) sites → Every (λ (s : Site). Every (IsOutPlace topology) (places_of s)) sites
      each [] all = tt
      each (s ∷ sites) all = (site_places s all.0, each sites all.1)

-- what a record binds
unbound : (items : List Record) (end : LinkEnd) (label : ℕ) → Every BindsNone items → Every (λ (item : Record). bound_by end label item ≡ None) items
unbound items end label none = none_own items end label (λ item flow has e. subst BindsNone e (contained BindsNone items item none has))

module _ (topology : Topology) (is : IsTopology topology) (names : HasNames topology) (change : QueuesChangeByPassing)
    (past later : Past) (event : Event) (of_topology : later.topology ≡ topology)
    (now : later.now ≡ next topology past.now event) (records : later.records ≡ past.records ++ (next topology past.now event).notes.records)
    (on : PutsOn topology past.now event) where
  abbrev w : World
  w = past.now

  abbrev behind : World
  behind = next topology past.now event

  -- *A cell that stands in a queue of a link* then
  module _ (meanings : HasMeanings later) where
    carried : Every BindsNone behind.notes.records → (node : NodeId) (port : PortNo) → IsPortEnd topology (port_end node port) → (cell : Cell) → Contains (queue_at later.now (Out node port)) cell
        → IsCarried topology past.records (frames_of later) (port_end node port) cell
    carried none node port there cell has label =
        by cell.header.last (meanings (Out node port) cell (subst (λ (t : Topology). IsNode t node × (is_linked t node port ≡ true)) (sym of_topology) there) has)
      where
        by : (last : Bool) → Means later (heading_at later.topology (Out node port) cell.header.channel) last cell.mark → Carried topology past.records (frames_of later) (port_end node port) cell
        by last (early default no_last some) = absurd (not_default cell.header.channel label default)
        by last (control default none_counted source message made) = absurd (not_default cell.header.channel label default)
        by last (local default nowhere none_counted) = absurd (not_default cell.header.channel label default)
        by last (plain default is_last far to packet made come newest) = absurd (not_default cell.header.channel label default)
        by last (labelled other far to flow bound payload packet made carries come newest) = record {
          far = far;
          peer = ap (λ (t : Topology). peer_of t node port) (sym of_topology) ∙ to;
          flow = flow;
          bound = sym (bound_stays past.records behind.notes.records far (number_of_channel cell.header.channel) (unbound behind.notes.records far (number_of_channel cell.header.channel) none))
              ∙ ap (λ (rs : List Record). last_bound rs far (number_of_channel cell.header.channel)) (sym records) ∙ bound;
          payload = payload;
          made = made;
          fits = unwrap_fault-carried flow packet payload carries;
        }

    good_at : (place : Place) → IsOutPlace topology place → Every (IsGoodPut topology past.records (frames_of later) place) (cells_put_at topology w event place)
    good_at (Down node) there = all_fine (cells_put_at topology w event (Down node))
      where
        all_fine : (cells : List Cell) → Every (IsGoodPut topology past.records (frames_of later) (Down node)) cells
        all_fine [] = tt
        all_fine (cell ∷ cells) = (tt, all_fine cells)
    good_at (Up node) there = all_fine (cells_put_at topology w event (Up node))
      where
        all_fine : (cells : List Cell) → Every (IsGoodPut topology past.records (frames_of later) (Up node)) cells
        all_fine [] = tt
        all_fine (cell ∷ cells) = (tt, all_fine cells)
    good_at (Out node port) there = by on
      where
        some : 1 ≤ port.0
        some = (port_above topology is node port there.1).0

        by : PutsOn topology w event → Every (IsGoodPut topology past.records (frames_of later) (Out node port)) (cells_put_at topology w event (Out node port))
        by (still nothing) = subst (Every (IsGoodPut topology past.records (frames_of later) (Out node port))) (sym (nothing (port_end node port) some)) tt
        by (crosses c) =
            every_right (IsGoodPut topology past.records (frames_of later) (Out node port)) (left w event (Out node port)) (cells_put_at topology w event (Out node port))
            (subst (Every (IsGoodPut topology past.records (frames_of later) (Out node port))) (ap (λ (v : World). queue_at v (Out node port)) now ∙ change topology w event (Out node port))
            (every_contained (IsGoodPut topology past.records (frames_of later) (Out node port)) (queue_at later.now (Out node port)) (λ cell has. (there, carried c.binds node port there cell has))))

    pub good_puts : (ps : List Place) → Every (IsOutPlace topology) ps
        → Every (λ (s : Standing). IsGoodPut topology past.records (frames_of later) s.place s.cell) (flat_map (λ place. map (standing place) (cells_put_at topology w event place)) ps)
    good_puts ps all = every_flat (λ (s : Standing). IsGoodPut topology past.records (frames_of later) s.place s.cell) (λ place. map (standing place) (cells_put_at topology w event place)) ps (each ps all)
      where
        each : (ps : List Place) → Every (IsOutPlace topology) ps
            → Every (λ (place : Place). Every (λ (s : Standing). IsGoodPut topology past.records (frames_of later) s.place s.cell) (map (standing place) (cells_put_at topology w event place))) ps
        each [] all = tt
        each (place ∷ ps) all = (
          every_to (IsGoodPut topology past.records (frames_of later) place) (λ (s : Standing). IsGoodPut topology past.records (frames_of later) s.place s.cell) (standing place) (cells_put_at topology w event place) (λ cell h. h) (good_at place all.0),
          each ps all.1,
        )

  -- *A binding* is of a label that nobody uses
  pub left_every : (P : Cell → Type 0) (place : Place) → Every P (queue_at w place) → Every P (left w event place)
  left_every P place all = by (source_of event)
    where
      less : (cells : List Cell) → Every P cells → Every P (drop 1 cells)
      less [] all = tt
      less (cell ∷ cells) all = all.1

      by : (o : Option Place) → Every P (left_from w o place)
      by None = all
      by (Some source) = on_both (Every P) (same_queue source place) (drop 1 (queue_at w place)) (queue_at w place) (less (queue_at w place) all) all

  module _ (policy : Policy) (nodes : EachSite w (IsNodeOfRun policy past)) (same_topology : past.topology ≡ topology)
      (unused : (way : Way) (label : ℕ) (flow : FlowId) → Contains later.now.notes.records (kinds.Bind way.down.node way.down.port label flow) → IsWay topology way → IsUnused w way label)
      (wired : (node : NodeId) (port : PortNo) (label : ℕ) (flow : FlowId) → Contains later.now.notes.records (kinds.Bind node port label flow) → IsWiringAt w (end_at node port) label flow)
      (frames : List Frame) (marks : List Mark) where
    abbrev G : Record → Type 0
    G = IsGoodBind topology is names (queues_of behind) frames marks

    linked_here : (node : NodeId) (port : PortNo) (session : Session) → session_at w (end_at node port) ≡ Some session → IsPortEnd topology (port_end node port)
    linked_here node port session e = by_site (site_at w node) refl e
      where
        by_linked : (site : Site) → site_at w node ≡ Some site → (o : Option Linked) → linked_at site.controller port ≡ o → option_and_then (λ (l : Linked). l.port.session) o ≡ Some session → IsPortEnd topology (port_end node port)
        by_linked site found None l f = absurd (cc f)
        by_linked site found (Some linked) l f =
            let n = nodes node site found in (
              subst (λ (t : Topology). IsNode t node) same_topology n.is_node.number,
              subst (λ (t : Topology). is_linked t node port ≡ true) same_topology (n.ports.linked port linked l),
            )

        by_site : (o : Option Site) → site_at w node ≡ o
            → option_and_then (λ (l : Linked). l.port.session) (option_and_then (λ (c : Controller). linked_at c port) (option_map (λ (s : Site). s.controller) o)) ≡ Some session → IsPortEnd topology (port_end node port)
        by_site None found f = absurd (cc f)
        by_site (Some site) found f = by_linked site found (linked_at site.controller port) refl f

    off : (nothing : (end : LinkEnd) → 1 ≤ end.port.0 → cells_put_at topology w event (Out end.node end.port) ≡ []) (node : NodeId) (port : PortNo) (label : ℕ) (flow : FlowId)
        → Contains behind.notes.records (kinds.Bind node port label flow) → (far : LinkEnd) → peer_of topology node port ≡ Some far → AreOff (label_channel_of label) (queues_of behind far)
    off nothing node port label flow has far peer =
        let back = peer_back topology is (port_end node port) far peer in
        let way : Way = record { down = port_end node port; up = far } in
        let on_way : IsWay topology way = record { downstream = back.back; upstream = peer } in
        let none : IsUnused w way label = unused way label flow (subst (λ (v : World). Contains v.notes.records (kinds.Bind node port label flow)) (sym now) has) on_way in
        let before : AreOff (label_channel_of label) (queue_at w (Out far.node far.port)) =
        every_contained (λ (c : Cell). c.header.channel ≢ label_channel_of label) (queue_at w (Out far.node far.port)) (λ c there e. none (ByCell c) (on_the_link c there e)) in
        subst (AreOff (label_channel_of label))
        (sym (change topology w event (Out far.node far.port) ∙ ap (λ (l : List Cell). left w event (Out far.node far.port) ++ l) (nothing far back.port.0) ∙ append-nil (left w event (Out far.node far.port))))
        (left_every (λ (c : Cell). c.header.channel ≢ label_channel_of label) (Out far.node far.port) before)

    good_bind : PutsOn topology w event → (item : Record) → Contains behind.notes.records item → G item
    good_bind (crosses c) (kinds.Bind node port label flow) has = absurd (contained BindsNone behind.notes.records (kinds.Bind node port label flow) c.binds has)
    good_bind (still nothing) (kinds.Bind node port label flow) has =
        let wiring = wired node port label flow (subst (λ (v : World). Contains v.notes.records (kinds.Bind node port label flow)) (sym now) has) in
        (linked_here node port wiring.session wiring.is_open, off nothing node port label flow has)
    good_bind p (kinds.Delivered node packet octets) has = tt
    good_bind p (kinds.Dropped node packet cause) has = tt
    good_bind p (kinds.Refused node packet name) has = tt
    good_bind p (kinds.Loss mark cause) has = tt
    good_bind p (kinds.Chance mark) has = tt
    good_bind p (kinds.Bad node layer name) has = tt
    good_bind p (kinds.Opened node port) has = tt
    good_bind p (kinds.Closed node port) has = tt
    good_bind p (kinds.Free node port vci) has = tt
    good_bind p (kinds.Join node port vci to_port to_vci) has = tt
    good_bind p (kinds.Part node port vci) has = tt
    good_bind p (kinds.Routes node changes) has = tt
    good_bind p (kinds.Forged place) has = tt

    pub good_binds : Every G behind.notes.records
    good_binds = every_contained G behind.notes.records (good_bind on)
