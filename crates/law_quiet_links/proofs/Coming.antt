-- what comes to a controller in a run, as the measure asks it

use Rattle.std.proofs.Common.{◌≡◌, ◌≢◌, ℕ, zero, suc, ◌+◌, Bool, true, false, List, [], ◌∷◌, ◌++◌, length, Option, None, Some, Result, Ok, refl, sym, ◌∙◌, ap, subst, arith, if◌then◌else◌}
use Rattle.std.specs.Prelude.{nat_lt, nat_le, Contains, is_some, find, map}
use Rattle.std.specs.Option.{option_map_or, option_map, option_and_then}
use Rattle.world_model.specs.Words.{Addr, NodeId, PortNo, Up, Channel, Mark, number_of_channel, is_label_number, is_label_channel, label_number_of, ttl_of, destination_of, flow_ttl, kind_of, FlowId, best, is_best, hop_by, On, Next, Local, Via, unwrapped, Cell, Frame, payload_of, Journal, GivenOut, payload_in, next_mark, last_mark, Reassembly, Policy, Setup, Label, LabelState, Wiring, label_number, is_bound, Grant, label_at, labels_of, IsLinkPort, EncapsFault, Controller, Linked, port_key, linked_at, default_channel, ForGsmp, ForDefault, ForLabel, same_channel, on_link, port_on, label_taker, taker_at, taker_of, reassembly_of, Topology, IsTopology, IsLinkedNext, Site, site_at, queue_at, grants_at, Past, frames_of, last_bound, Way, IsWay, ByGrant, granted}
use Rattle.world_model.specs.ipv4_forward.declared.outcome.Hop.TheVariants.{Expired}
use Rattle.world_model.specs.ipv4_forward.declared.table.Route.{Route}
use Rattle.world_model.specs.frame_model.Frame.{octets_of}
use Rattle.law_running_worlds.specs.ordered_lists.Ordered.{Every, InOrder}
use Rattle.law_running_worlds.specs.law_port_facts.Port.{IsGrant, setup_port}
use Rattle.law_running_worlds.proofs.law_port_facts.Keyed.{at_key, at_every, each_found}
use Rattle.law_running_worlds.proofs.law_port_facts.Found.{find_every}
use Rattle.law_running_worlds.proofs.law_port_facts.Rules.{and_first}
use Rattle.law_running_worlds.specs.law_controller_facts.Sound.{IsLinkedPort}
use Rattle.law_running_worlds.specs.law_controller_bindings.Bindings.{IsBoundLast}
use Rattle.world_model.specs.network_model.declared.event.Event.TheVariants.{Carry}
use Rattle.world_model.specs.Controller.{free_slots}
use Rattle.world_model.specs.network_model.declared.link.LinkEnd.{LinkEnd}
use Rattle.world_model.specs.Topology.{peer_of}
use Rattle.law_running_worlds.specs.law_world_views.Marks.{Heading, own_end, heading_at, Means, early, control, local, plain, labelled}
use Rattle.law_running_worlds.specs.law_world_views.Between.{IsWorld, setups_of}
use Rattle.law_running_worlds.specs.Running.{ChainsAreTrue}
use Rattle.law_running_worlds.proofs.MadeTame.{whole_chain}
use Rattle.law_running_worlds.proofs.law_shown_cells.Tested.{frame_is, last_is}
use Rattle.law_ownership.proofs.law_unused_labels.Links as links
use Rattle.law_running_worlds.proofs.law_causes.Shown.{IsPeer, peer_back}
use Rattle.law_running_worlds.specs.law_run_facts.Nodes.{IsNodeOfRun}
use Rattle.law_quiet_rounds.proofs.law_packet_worlds.Behind.{IsUser}
use Rattle.law_quiet_rounds.proofs.law_packet_worlds.Hops as laws
use Rattle.law_quiet_rounds.proofs.law_packet_worlds.Worlds.{port_above}
use Rattle.law_controller_weights.specs.claims_model.Weights.{Bound, hops_at}
use Rattle.law_controller_weights.specs.law_action_weights.Fine.{HaveOwnNumbers, IsOfLink, IsFine}
use Rattle.law_controller_weights.specs.Coming.{IsToldGrant, HasToldGrants, Brings}

-- a list of which each element is known
every_contained : {A : Type 0} (P : A → Type 0) (xs : List A) → ((x : A) → Contains xs x → P x) → Every P xs
every_contained P [] each = tt
every_contained P (x ∷ xs) each = (each x (0, omega arith, refl), every_contained P xs (λ y c. each y (suc c.0, omega (arith, c.1), c.2)))

contained : {A : Type 0} (P : A → Type 0) (xs : List A) (x : A) → Every P xs → Contains xs x → P x
contained P [] x all (i, low, e) = absurd (omega (arith, low))
contained P (y ∷ xs) x all (zero, low, e) = subst P e all.0
contained P (y ∷ xs) x all (suc i, low, e) = contained P xs x all.1 (i, omega (arith, low), e)

-- a packet goes on to the port of a route
via_of : (ttl : ℕ) (o : Option Next) (port : PortNo) → hop_by ttl o ≡ On port → o ≡ Some (Via port)
via_of ttl None port e = absurd (cc e)
via_of ttl (Some Local) port e = absurd (cc e)
via_of ttl (Some (Via other)) port e = by (nat_le ttl 1) e
  where
    by : (b : Bool) → (if b then Expired else On other) ≡ On port → Some (Via other) ≡ Some (Via port)
    by true e = absurd (cc e)
    by false e = cc

best_every : (P : Next → Type 0) (routes : List Route) (addr : Addr) (next : Next) → Every (λ (route : Route). P route.next) routes → best routes addr ≡ Some next → P next
best_every P routes addr next each e = by (find (is_best routes addr) routes) refl e
  where
    by : (o : Option Route) → find (is_best routes addr) routes ≡ o → option_map (λ (route : Route). route.next) o ≡ Some next → P next
    by None is f = absurd (cc f)
    by (Some route) is f = (let same : route.next ≡ next = cc in subst P same (find_every (λ (r : Route). P r.next) (is_best routes addr) routes route each is))

-- *The label of a cell* that a controller takes on a label's channel
record OfLabel (c : Controller) (channel : Channel) (linked : Linked) (label : Label) : Type 0 where
  found : linked_at c (port_on channel) ≡ Some linked
  held : label_at linked.port label.number ≡ Some label
  number : number_of_channel (on_link channel) ≡ label.number
  bound : is_bound label.state ≡ true
  other : same_channel (on_link channel) default_channel ≡ false

of_label : (c : Controller) (channel : Channel) (linked : Linked) (label : Label) → taker_of c channel ≡ Some (ForLabel linked label) → OfLabel c channel linked label
of_label c channel linked label e = by_gsmp (same_channel channel default_channel) e
  where
    number_same : (n : ℕ) → label_number_of (on_link channel) ≡ Some n → number_of_channel (on_link channel) ≡ n
    number_same n e = by (is_label_channel (on_link channel)) e
      where
        by : (b : Bool) → (if b then Some (number_of_channel (on_link channel)) else None) ≡ Some n → number_of_channel (on_link channel) ≡ n
        by true f = cc
        by false f = absurd (cc f)

    by_number : (other : Linked) → linked_at c (port_on channel) ≡ Some other → same_channel (on_link channel) default_channel ≡ false → (n : Option ℕ) → label_number_of (on_link channel) ≡ n
        → (o : Option Label) → option_and_then (label_at other.port) n ≡ o → label_taker other o ≡ Some (ForLabel linked label) → OfLabel c channel linked label
    by_number other found u None is o l e = absurd (cc (ap (label_taker other) l ∙ e))
    by_number other found u (Some n) is None l e = absurd (cc e)
    by_number other found u (Some n) is (Some one) l e = bound_or_not (is_bound one.state) refl e
      where
        bound_or_not : (b : Bool) → is_bound one.state ≡ b → (if b then Some (ForLabel other one) else None) ≡ Some (ForLabel linked label) → OfLabel c channel linked label
        bound_or_not false t e = absurd (cc e)
        bound_or_not true t e =
            let first : other ≡ linked = cc in
            let second : one ≡ label = cc in
            let own : one.number ≡ n = at_key label_number n (labels_of other.port) one l in
            let held : label_at other.port one.number ≡ Some one = ap (label_at other.port) own ∙ l in
            record {
              found = subst (λ (x : Linked). linked_at c (port_on channel) ≡ Some x) first found;
              held = subst (λ (x : Linked). label_at x.port label.number ≡ Some label) first (subst (λ (x : Label). label_at other.port x.number ≡ Some x) second held);
              number = number_same n is ∙ sym own ∙ ap (λ (x : Label). x.number) second;
              bound = subst (λ (x : Label). is_bound x.state ≡ true) second t;
              other = u;
            }

    by_link : (other : Linked) → linked_at c (port_on channel) ≡ Some other → (b : Bool) → same_channel (on_link channel) default_channel ≡ b
        → (if b then Some (ForDefault other) else label_taker other (option_and_then (label_at other.port) (label_number_of (on_link channel)))) ≡ Some (ForLabel linked label) → OfLabel c channel linked label
    by_link other found true u e = absurd (cc e)
    by_link other found false u e = by_number other found u (label_number_of (on_link channel)) refl (option_and_then (label_at other.port) (label_number_of (on_link channel))) refl e

    by_port : (o : Option Linked) → linked_at c (port_on channel) ≡ o → taker_at o (on_link channel) ≡ Some (ForLabel linked label) → OfLabel c channel linked label
    by_port None found e = absurd (cc e)
    by_port (Some other) found e = by_link other found (same_channel (on_link channel) default_channel) refl e

    by_gsmp : (b : Bool) → (if b then Some ForGsmp else taker_at (linked_at c (port_on channel)) (on_link channel)) ≡ Some (ForLabel linked label) → OfLabel c channel linked label
    by_gsmp true e = absurd (cc e)
    by_gsmp false e = by_port (linked_at c (port_on channel)) refl e

not_wiring : (state : LabelState) → is_bound state ≡ true → state ≡ Wiring → ⊥
not_wiring state t e = (let clash : false ≡ true = ap is_bound (sym e) ∙ t in absurd (cc clash))

module _ (policy : Policy) (past : Past) (topology_is : IsTopology past.topology) (node : NodeId) (site : Site) (found : site_at past.now node ≡ Some site)
    (run : IsNodeOfRun policy past node site) (is : IsWorld past) (bound : Bound)
    (kept : (far : LinkEnd) (label : ℕ) → IsUser past.topology past.now far label → bound far label ≡ last_bound past.records far label) where
  abbrev topology : Topology
  topology = past.topology

  -- *Its ports*
  order_back : (ports : List Linked) → InOrder (λ (x y : Setup). setup_port x ≢ setup_port y) (map (λ (l : Linked). l.setup) ports) → InOrder HaveOwnNumbers ports
  order_back [] h = tt
  order_back (x ∷ ports) h = (later ports h.0, order_back ports h.1)
    where
      later : (ys : List Linked) → Every (λ (y : Setup). setup_port x.setup ≢ setup_port y) (map (λ (l : Linked). l.setup) ys) → Every (HaveOwnNumbers x) ys
      later [] k = tt
      later (y ∷ ys) k = (k.0, later ys k.1)

  links_back : (ports : List Linked) → Every (λ (s : Setup). IsLinkPort s.port) (map (λ (l : Linked). l.setup) ports) → Every IsOfLink ports
  links_back [] h = tt
  links_back (x ∷ ports) h = (h.0.0, links_back ports h.1)

  count_back : (ports : List Linked) → length (map (λ (l : Linked). l.setup) ports) ≡ length ports
  count_back [] = refl
  count_back (x ∷ ports) = omega (arith, count_back ports)

  apart : InOrder HaveOwnNumbers site.controller.ports
  apart = order_back site.controller.ports (subst (InOrder (λ (x y : Setup). setup_port x ≢ setup_port y)) (sym run.conduct.sound.ports.same) run.conduct.sound.ports.apart)

  pub fine : (notes : Journal) (numbers : GivenOut) → notes.frames ≡ frames_of past → numbers.controls ≡ past.now.numbers.controls → IsFine (record { controller = site.controller; notes = notes; numbers = numbers })
  fine notes numbers frames controls = record {
    unmade = λ k less. ap (λ (f : List Frame). payload_of f (record { packet = 0; frame = k })) frames ∙ is.numbers.unmade k (omega (arith, less, controls));
    apart = apart;
    links = links_back site.controller.ports run.ports.links;
    few = omega (arith, run.ports.few, count_back site.controller.ports);
  }

  each_own : Every (λ (l : Linked). linked_at site.controller l.setup.port ≡ Some l) site.controller.ports
  each_own = each_found port_key site.controller.ports apart

  -- *Its grants*
  grants_of : (linked : Linked) → linked_at site.controller linked.setup.port ≡ Some linked → grants_at past.now (record { node = node; port = linked.setup.port }) ≡ linked.port.grants
  grants_of linked own =
      ap (λ (o : Option Site). option_map_or (λ (l : Linked). l.port.grants) (option_and_then (λ c. linked_at c linked.setup.port) (option_map (λ s. s.controller) o)) []) found
      ∙ ap (λ (o : Option Linked). option_map_or (λ (l : Linked). l.port.grants) o []) own

  told_of : (linked : Linked) → linked_at site.controller linked.setup.port ≡ Some linked → IsLinkedPort (setups_of site.controller) linked → HasToldGrants topology node bound linked
  told_of linked own port = every_contained (IsToldGrant topology node bound linked.setup.port) linked.port.grants (λ grant there. told grant there)
    where
      peer : (o : Option LinkEnd) → peer_of topology node linked.setup.port ≡ o → is_some o ≡ true → (far : LinkEnd) × (peer_of topology node linked.setup.port ≡ Some far)
      peer None e t = absurd (cc t)
      peer (Some far) e t = (far, e)

      told : (grant : Grant) → Contains linked.port.grants grant → IsToldGrant topology node bound linked.setup.port grant
      told grant there =
          let fits : IsGrant (setups_of site.controller) linked.setup grant = contained (IsGrant (setups_of site.controller) linked.setup) linked.port.grants grant port.grants there in
          let number : is_label_number grant.label ≡ true = and_first (is_label_number grant.label) _ fits.in_range in
          let to = peer (peer_of topology node linked.setup.port) refl (run.ports.linked linked.setup.port linked own) in
          let p : IsPeer topology (record { node = node; port = linked.setup.port }) to.0 = peer_back topology topology_is (record { node = node; port = linked.setup.port }) to.0 to.1 in
          let way : Way = record { down = to.0; up = record { node = node; port = linked.setup.port } } in
          let on : IsWay topology way = record { downstream = to.1; upstream = p.back } in
          let in_past : Contains (grants_at past.now way.up) grant = subst (λ (gs : List Grant). Contains gs grant) (sym (grants_of linked own)) there in
          let last : last_bound past.records to.0 grant.label ≡ Some grant.flow = (is.users (links.link_of topology way grant.label) (links.link_is topology topology_is way on grant.label number)).grants grant in_past refl in
          let now : bound to.0 grant.label ≡ Some grant.flow = kept to.0 grant.label (record { way = way; down = refl; on = on; user = ByGrant grant; uses = granted grant in_past refl }) ∙ last in
          (number, ap (λ (o : Option LinkEnd). hops_at bound o grant.label) to.1 ∙ ap (λ (o : Option FlowId). option_map_or flow_ttl o 0) now)

  all_told : (ports : List Linked) → Every (λ (l : Linked). linked_at site.controller l.setup.port ≡ Some l) ports → Every (IsLinkedPort (setups_of site.controller)) ports → Every (HasToldGrants topology node bound) ports
  all_told [] own each = tt
  all_told (l ∷ ports) own each = (told_of l own.0 each.0, all_told ports own.1 each.1)

  -- *The cell*
  module _ (chains : ChainsAreTrue past.now (Carry (Up node))) (cell : Cell) (cells : List Cell) (queue : queue_at past.now (Up node) ≡ cell ∷ cells)
      (means : Means past (heading_at past.topology (Up node) cell.header.channel) cell.header.last cell.mark)
      (user : (far : LinkEnd) → own_end node (port_on cell.header.channel) ≡ Some far → same_channel (on_link cell.header.channel) default_channel ≡ false → IsUser topology past.now far (number_of_channel (on_link cell.header.channel)))
      (above : (linked : Linked) → linked_at site.controller (port_on cell.header.channel) ≡ Some linked → own_end node (port_on cell.header.channel) ≡ Some (record { node = node; port = linked.setup.port })) where
    there : Contains (queue_at past.now (Up node)) cell
    there = subst (λ (cs : List Cell). Contains cs cell) (sym queue) (0, omega arith, refl)

    last_of : (linked : Linked) (label : Label) → OfLabel site.controller cell.header.channel linked label → last_bound past.records (record { node = node; port = linked.setup.port }) label.number ≡ Some label.flow
    last_of linked label o =
        at_every label_number (IsBoundLast node past.records linked.setup.port) label.number (labels_of linked.port) label
        (at_every port_key (λ (l : Linked). Every (IsBoundLast node past.records l.setup.port) (labels_of l.port)) (port_on cell.header.channel).0 site.controller.ports linked run.conduct.bound o.found) o.held (not_wiring label.state o.bound)

    frame_newest : cell.header.last ≡ true → cell.mark.packet ≢ 0 → payload_of (frames_of past) (next_mark cell.mark) ≡ None
    frame_newest last other = by (heading_at past.topology (Up node) cell.header.channel) cell.header.last cell.mark means last other
      where
        by : (to : Heading) (l : Bool) (mark : Mark) → Means past to l mark → l ≡ true → mark.packet ≢ 0 → payload_of (frames_of past) (next_mark mark) ≡ None
        by to l mark (early d e n) t o = absurd (cc (sym e ∙ t))
        by to l mark (control d z source message made) t o = absurd (o z)
        by to l mark (local d e z) t o = absurd (o z)
        by to l mark (plain d e far led packet made come newest) t o = newest (mark.frame + 1) (omega arith)
        by to l mark (labelled d far led flow b payload packet made carried come newest) t o = newest t (mark.frame + 1) (omega arith)

    carried_ttl : (linked : Linked) (label : Label) (payload packet : List ℕ) → OfLabel site.controller cell.header.channel linked label → payload_of (frames_of past) cell.mark ≡ Some payload → unwrapped label.flow payload ≡ Ok packet
        → ttl_of packet ≡ flow_ttl label.flow
    carried_ttl linked label payload packet o made opened = by (heading_at past.topology (Up node) cell.header.channel) cell.header.last cell.mark means o.other (above linked o.found) refl made
      where
        same_payload : (x y : List ℕ) (m : Option (List ℕ)) → m ≡ Some x → m ≡ Some y → x ≡ y
        same_payload x y m e f = (let both : Some x ≡ Some y = sym e ∙ f in cc)

        same_flow_of : (x y : FlowId) (m : Option FlowId) → m ≡ Some x → m ≡ Some y → x ≡ y
        same_flow_of x y m e f = (let both : Some x ≡ Some y = sym e ∙ f in cc)

        same_end : (x y : LinkEnd) (m : Option LinkEnd) → m ≡ Some x → m ≡ Some y → x ≡ y
        same_end x y m e f = (let both : Some x ≡ Some y = sym e ∙ f in cc)

        same_packet : (x y : List ℕ) (r : Result (List ℕ) EncapsFault) → r ≡ Ok x → r ≡ Ok y → x ≡ y
        same_packet x y r e f = (let both : Ok x ≡ Ok y = sym e ∙ f in cc)

        by : (to : Heading) (l : Bool) (mark : Mark) → Means past to l mark → same_channel to.channel default_channel ≡ false → to.end ≡ Some (record { node = node; port = linked.setup.port }) → to.channel ≡ on_link cell.header.channel
            → payload_of (frames_of past) mark ≡ Some payload → ttl_of packet ≡ flow_ttl label.flow
        by to l mark (early d e n) t own ch m = absurd (cc (sym d ∙ t))
        by to l mark (control d z source message is_made) t own ch m = absurd (cc (sym d ∙ t))
        by to l mark (local d e z) t own ch m = absurd (cc (sym d ∙ t))
        by to l mark (plain d e far led other is_made come newest) t own ch m = absurd (cc (sym d ∙ t))
        by to l mark (labelled d far led flow b payload2 packet2 is_made carried come newest) t own ch m =
            let far_is : far ≡ record { node = node; port = linked.setup.port } = same_end far (record { node = node; port = linked.setup.port }) to.end led own in
            let flow_is : flow ≡ label.flow = same_flow_of flow label.flow (last_bound past.records (record { node = node; port = linked.setup.port }) label.number)
            (ap (λ (n : ℕ). last_bound past.records (record { node = node; port = linked.setup.port }) n) (sym (ap number_of_channel ch ∙ o.number)) ∙ ap (λ (f : LinkEnd). last_bound past.records f (number_of_channel to.channel)) (sym far_is) ∙ b)
            (last_of linked label o) in
            let payload_is : payload2 ≡ payload = same_payload payload2 payload (payload_of (frames_of past) mark) is_made m in
            let opens : unwrapped label.flow payload ≡ Ok packet2 = ap (λ (p : List ℕ). unwrapped label.flow p) (sym payload_is) ∙ ap (λ (f : FlowId). unwrapped f payload2) (sym flow_is) ∙ laws.opens flow packet2 payload2 carried in
            let packet_is : packet2 ≡ packet = same_packet packet2 packet (unwrapped label.flow payload) opens opened in
            let ttl : flow_ttl flow ≡ ttl_of packet2 = (laws.flow_tells (kind_of flow) flow packet2 carried.of_flow).0 in
            ap ttl_of (sym packet_is) ∙ sym ttl ∙ ap flow_ttl flow_is

    pub brings : (notes : Journal) (numbers : GivenOut) → notes.frames ≡ frames_of past → Brings topology node bound (record { controller = site.controller; notes = notes; numbers = numbers }) cell
    brings notes numbers frames = record {
      passes = λ taker first rest payload taken_by ended e. (
          let r : Reassembly = reassembly_of site.controller taker in
          let whole = whole_chain notes (nat_lt 0 (free_slots site.controller)) r cell first rest ended in
          let passed = chains.at_controller node site taker cell cells refl queue found taken_by whole.is_ended payload (ap (λ (cs : List Cell). payload_in (octets_of cs)) (sym whole.whole) ∙ e) in
          ap (λ (f : List Frame). payload_of f cell.mark) frames ∙ ap (payload_of (frames_of past)) (sym (last_is r.chain cell)) ∙ frame_is (frames_of past) (last_mark (r.chain ++ cell ∷ [])) payload passed);
      labels = λ linked label taken_by. (
          let o = of_label site.controller cell.header.channel linked label taken_by in
          let own = above linked o.found in
          let now : bound (record { node = node; port = linked.setup.port }) label.number ≡ Some label.flow =
          ap (bound (record { node = node; port = linked.setup.port })) (sym o.number) ∙ kept (record { node = node; port = linked.setup.port }) (number_of_channel (on_link cell.header.channel)) (user (record { node = node; port = linked.setup.port }) own o.other)
          ∙ ap (last_bound past.records (record { node = node; port = linked.setup.port })) o.number ∙ last_of linked label o in
          ap (λ (x : Option FlowId). option_map_or flow_ttl x 0) now);
      carries = λ linked label payload packet taken_by made opened. carried_ttl linked label payload packet (of_label site.controller cell.header.channel linked label taken_by)
          (ap (λ (f : List Frame). payload_of f cell.mark) (sym frames) ∙ made) opened;
      grants = all_told site.controller.ports each_own run.conduct.sound.ports.each;
      onward = λ packet port e. (
          let via = via_of (ttl_of packet) (best site.controller.table (destination_of packet)) port e in
          let linked = best_every (IsLinkedNext topology node) site.controller.table (destination_of packet) (Via port) run.conduct.routes via in
          (port_above topology topology_is node port linked).0);
      newest = λ last other. ap (λ (f : List Frame). payload_of f (next_mark cell.mark)) frames ∙ frame_newest last other;
      counted = λ nil. is.numbers.counted (Up node) cell there nil;
    }
