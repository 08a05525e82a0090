-- what a world of a run tells of each node before an event

use Rattle.std.proofs.Common.{◌≡◌, ◌≢◌, ℕ, suc, ◌<◌, ◌==◌, Bool, true, false, cond, List, [], ◌∷◌, length, Option, None, Some, refl, sym, ◌∙◌, ap, subst, arith, map, if◌then◌else◌}
use Rattle.std.specs.Prelude.{Contains, is_some, ◌&&◌, nat_le, find}
use Rattle.std.specs.Option.{option_map, option_and_then, option_map_or}
use Rattle.std.proofs.lemmas.Bool.Decides.{nat_tests}
use Rattle.law_arrival_views.specs.world_model.Words.{Addr, NodeId, PortNo, Place, Down, Up, Out, Channel, End, Mark, label_channel_of, number_of_channel, label_number_of, is_label_channel, is_label_number, destination_of, best, is_best, onward, Next, Via, FlowId, Carries, Record, Frame, Setup, label_end, home_of, is_in_range, Label, LabelState, Wiring, is_bound, label_number, Grant, labels_of, label_at, Linked, port_key, linked_at, default_channel, same_channel, Topology, is_linked, IsTopology, IsNode, IsPlace, IsLinkedNext, Site, site_at, place_node, queue_number, hops, table_in, grants_at, output_at, Past, last_bound, Way, IsWay, ByBranch, LeadsOn as LeadsFlow, StandsForLast, Policy}
use Rattle.law_arrival_views.proofs.world_model.net_types.Labels.{number_of_channel-label_channel_of}
use Rattle.law_arrival_views.specs.world_model.ipv4_forward.declared.table.Route.{Route}
use Rattle.law_arrival_views.specs.ordered_lists.Ordered.{Every, InOrder}
use Rattle.law_arrival_views.proofs.ordered_lists.Every.{every_map, every_map2}
use Rattle.law_arrival_views.specs.world_model.crossbar_model.Crossbar.{output_of}
use Rattle.law_arrival_views.specs.law_port_facts.Port.{setup_port, IsLinked, IsLabelEnd, IsGrant}
use Rattle.law_arrival_views.proofs.law_port_facts.Keyed.{at_key, at_every, at_map, each_found}
use Rattle.law_arrival_views.proofs.law_port_facts.Found.{find_every}
use Rattle.law_arrival_views.specs.law_controller_facts.Sound.{linked_setup, IsLinkedPort, AreApart}
use Rattle.law_run_facts.specs.law_controller_bindings.Bindings.{IsBoundLast}
use Rattle.law_arrival_views.specs.world_model.network_model.declared.link.LinkEnd.{LinkEnd}
use Rattle.law_arrival_views.specs.world_model.Topology.{peer_of}
use Rattle.law_run_facts.specs.law_world_views.Marks.{Heading, heading_at, HasCome, Means, early, control, local, plain, labelled}
use Rattle.law_run_facts.specs.law_world_views.Pairs.{by_branch}
use Rattle.law_run_facts.specs.law_world_views.Between.{setups_of, default, label, IsShapedBranch, home, out, joined, HasShapes, HasAllUsers, HasAllHops}
use Rattle.law_unused_labels.proofs.law_causes.Shown.{IsPeer, peer_back}
use Rattle.law_run_facts.specs.Nodes.{IsNodeOfRun}
use Rattle.law_run_facts.proofs.Numbers.{some_of}
use Rattle.law_arrival_views.proofs.law_controller_facts.Onward.{octets_onward}
use Rattle.law_packet_worlds.proofs.Hops as laws
use Rattle.law_packet_worlds.proofs.Meant.{in_frames, IsProper}
use Rattle.law_packet_worlds.proofs.Headings.{leads_down, leads_up, own_there, label_is, no_default}
use Rattle.law_packet_worlds.proofs.Sends.{HasGrants}
use Rattle.law_packet_worlds.proofs.Takes.{HasLabels, some_flow}
use Rattle.law_unused_labels.proofs.Links.{link_of, link_is}
use Rattle.law_packet_worlds.proofs.Turns.{arrives_as, LeadsOn, IsKnown}
use Rattle.law_packet_worlds.proofs.Ledger.{and_left}

range_label : (setup : Setup) (number : ℕ) → is_in_range setup number ≡ true → is_label_number number ≡ true
range_label setup number e = and_left (is_label_number number) (nat_le setup.least number && nat_le number setup.greatest) e

not_wiring : (state : LabelState) → is_bound state ≡ true → state ≢ Wiring
not_wiring state bound e = (let clash : false ≡ true = ap is_bound (sym e) ∙ bound in cc clash)

pub number_same : (channel : Channel) (number : ℕ) → label_number_of channel ≡ Some number → number_of_channel channel ≡ number
number_same channel number e = by (is_label_channel channel) e
  where
    by : (b : Bool) → (if b then Some (number_of_channel channel) else None) ≡ Some number → number_of_channel channel ≡ number
    by true f = cc
    by false f = absurd (cc f)

every_of_grants : (P : Grant → Type 0) (xs : List Grant) → ((x : Grant) → Contains xs x → P x) → Every P xs
every_of_grants P [] each = tt
every_of_grants P (x ∷ xs) each = (each x (0, omega arith, refl), every_of_grants P xs (λ y c. each y (suc c.0, omega (arith, c.1), c.2)))

label_low : {setups : List Setup} (end : End) → IsLabelEnd setups end → end.channel.vpi < 16
label_low end is = subst (λ (c : Channel). c.vpi < 16) (sym (ap (λ (e : End). e.channel) is.is)) (label_is (label_channel_of is.number) (range_label is.setup is.number is.in_range)).vpi

-- a route of a table is of each best one
best_every : (P : Next → Type 0) (routes : List Route) (addr : Addr) (next : Next) → Every (λ (route : Route). P route.next) routes → best routes addr ≡ Some next → P next
best_every P routes addr next each e = by (find (is_best routes addr) routes) refl e
  where
    by : (o : Option Route) → find (is_best routes addr) routes ≡ o → option_map (λ (route : Route). route.next) o ≡ Some next → P next
    by None is f = absurd (cc f)
    by (Some route) is f = (let same : route.next ≡ next = cc in subst P same (find_every (λ (r : Route). P r.next) (is_best routes addr) routes route each is))

peer_some : (topology : Topology) (node : NodeId) (port : PortNo) → is_linked topology node port ≡ true → (far : LinkEnd) × (peer_of topology node port ≡ Some far)
peer_some topology node port e = by (peer_of topology node port) refl e
  where
    by : (o : Option LinkEnd) → peer_of topology node port ≡ o → is_some o ≡ true → (far : LinkEnd) × (peer_of topology node port ≡ Some far)
    by None is f = absurd (cc f)
    by (Some far) is f = (far, is)

-- *The run before the event*, and the run behind it, but for its records, which are those before
pub record IsBase (past base : Past) (time : ℕ) : Type 0 where
  pub topology : base.topology ≡ past.topology
  pub records : base.records ≡ past.records
  pub timed : length base.events ≡ suc time
  pub held : (node : NodeId) → base.history.held node time ≡ table_in node past.now

module _ (policy : Policy) (past : Past) (topology_is : IsTopology past.topology) (node : NodeId) (site : Site) (found : site_at past.now node ≡ Some site) (of_run : IsNodeOfRun policy past node site)
    (users : HasAllUsers past) (hops_are : HasAllHops past) (shapes : HasShapes past.now node site) where
  abbrev t : Topology
  t = past.topology

  -- *Ports*
  each_own : Every (λ (linked : Linked). linked_at site.controller linked.setup.port ≡ Some linked) site.controller.ports
  each_own = each_found port_key site.controller.ports (apart_ports site.controller.ports of_run.conduct.sound.ports.same)
    where
      apart_by : (ports : List Linked) → InOrder AreApart (map linked_setup ports) → InOrder (λ (a b : Linked). port_key a ≢ port_key b) ports
      apart_by [] h = tt
      apart_by (x ∷ xs) h = (later x xs h.0, apart_by xs h.1)
        where
          later : (x : Linked) (ys : List Linked) → Every (AreApart x.setup) (map linked_setup ys) → Every (λ (b : Linked). port_key x ≢ port_key b) ys
          later x [] k = tt
          later x (y ∷ ys) k = (k.0, later x ys k.1)

      apart_ports : (ports : List Linked) → map linked_setup ports ≡ setups_of site.controller → InOrder (λ (a b : Linked). port_key a ≢ port_key b) ports
      apart_ports ports same = apart_by ports (subst (InOrder AreApart) (sym same) of_run.conduct.sound.ports.apart)

  linked_port : (port : PortNo) → IsLinked (setups_of site.controller) port → is_linked t node port ≡ true
  linked_port port is = by (linked_at site.controller port) refl
      (subst (λ (o : Option Setup). is_some o ≡ true) (at_map port_key setup_port linked_setup (λ x. refl) port.0 site.controller.ports) is)
    where
      by : (o : Option Linked) → linked_at site.controller port ≡ o → is_some (option_map linked_setup o) ≡ true → is_linked t node port ≡ true
      by None e f = absurd (cc f)
      by (Some linked) e f = of_run.ports.linked port linked e

  label_port : (end : End) → IsLabelEnd (setups_of site.controller) end → is_linked t node end.port ≡ true
  label_port end is = subst (λ (p : PortNo). is_linked t node p ≡ true) (sym (ap (λ (e : End). e.port) is.is)) (linked_port is.setup.port (ap is_some is.linked))

  above : (port : PortNo) → is_linked t node port ≡ true → 0 < port.0
  above port e = (let to = peer_some t node port e in let own = (peer_back t topology_is (record { node = node; port = port }) to.0 to.1).own in omega (arith, own.0))

  -- *Grants* are of the flows that their labels were bound to last
  grants_of : (linked : Linked) → linked_at site.controller linked.setup.port ≡ Some linked → grants_at past.now (record { node = node; port = linked.setup.port }) ≡ linked.port.grants
  grants_of linked is =
      ap (λ (o : Option Site). option_map_or (λ (l : Linked). l.port.grants) (option_and_then (λ c. linked_at c linked.setup.port) (option_map (λ s. s.controller) o)) []) found
      ∙ ap (λ (o : Option Linked). option_map_or (λ (l : Linked). l.port.grants) o []) is

  flows_of : (linked : Linked) → linked_at site.controller linked.setup.port ≡ Some linked → IsLinkedPort (setups_of site.controller) linked → (far : LinkEnd) → peer_of t node linked.setup.port ≡ Some far
      → Every (λ (grant : Grant). (is_label_number grant.label ≡ true) × (last_bound past.records far grant.label ≡ Some grant.flow)) linked.port.grants
  flows_of linked is port far led = every_of_grants (λ (grant : Grant). (is_label_number grant.label ≡ true) × (last_bound past.records far grant.label ≡ Some grant.flow)) linked.port.grants (λ grant there. (range_label linked.setup grant.label (among grant there).in_range, bound grant there))
    where
      among : (grant : Grant) → Contains linked.port.grants grant → IsGrant (setups_of site.controller) linked.setup grant
      among grant there = some_of (IsGrant (setups_of site.controller) linked.setup) linked.port.grants grant port.grants there

      bound : (grant : Grant) → Contains linked.port.grants grant → last_bound past.records far grant.label ≡ Some grant.flow
      bound grant there =
          let own : IsPeer t (record { node = node; port = linked.setup.port }) far = peer_back t topology_is (record { node = node; port = linked.setup.port }) far led in
          let way : Way = record { down = far; up = record { node = node; port = linked.setup.port } } in
          let on : IsWay t way = record { downstream = led; upstream = own.back } in
          let label_is_one : is_label_number grant.label ≡ true = range_label linked.setup grant.label (among grant there).in_range in
          (users (link_of t way grant.label) (link_is t topology_is way on grant.label label_is_one)).grants grant
          (subst (λ (gs : List Grant). Contains gs grant) (sym (grants_of linked is)) there) refl

  -- *Labels* that are bound have the flow of their last binding
  flow_of_label : (linked : Linked) → Every (IsBoundLast node past.records linked.setup.port) (labels_of linked.port) → (number : ℕ) (one : Label) → label_at linked.port number ≡ Some one → is_bound one.state ≡ true
      → last_bound past.records (record { node = node; port = linked.setup.port }) number ≡ Some one.flow
  flow_of_label linked each number one is bound =
      let same : one.number ≡ number = at_key label_number number (labels_of linked.port) one is in
      subst (λ (n : ℕ). last_bound past.records (record { node = node; port = linked.setup.port }) n ≡ Some one.flow) same
      (at_every label_number (IsBoundLast node past.records linked.setup.port) number (labels_of linked.port) one each is (not_wiring one.state bound))

  module _ (base : Past) (time : ℕ) (is : IsBase past base time) where
    -- a link has two ends
    beyond : (here far : LinkEnd) → peer_of t here.node here.port ≡ Some far → is_linked base.topology far.node far.port ≡ true
    beyond here far e = subst (λ (u : Topology). is_linked u far.node far.port ≡ true) (sym is.topology) (ap is_some (peer_back t topology_is here far e).back)

    -- *Where branches lead*
    module _ (input output : End) where
      same_heading : (place : Place) → IsPlace base.topology place → (place_node place).0 ≡ node.0 → queue_number place ≡ suc output.port.0
          → arrives_as base.topology node input ≡ heading_at base.topology place output.channel → LeadsOn base node input output
      same_heading place there of_node of_port same = record {
        place = place;
        is_place = there;
        of_node = of_node;
        of_port = of_port;
        means = λ frames last mark m. subst (λ (h : Heading). Means (in_frames base frames) h last mark) same m;
        proper = λ p. subst (IsProper base.topology) same p;
      }

    from_port : (input : End) → 0 < input.port.0 → arrives_as base.topology node input ≡ record { end = Some (record { node = node; port = input.port }); channel = input.channel }
    from_port input some =
        (let far : (input.port.0 == 0) ≡ false = grind (arith, nat_tests, some) in
        ap (λ (b : Bool). cond b (heading_at base.topology (Down node) input.channel) (record { end = Some (record { node = node; port = input.port }); channel = input.channel })) far)

    number : IsNode base.topology node
    number = subst (λ (u : Topology). IsNode u node) (sym is.topology) of_run.is_node.number

    leads_home : (end : End) → 0 < end.port.0 → end.channel.vpi < 16 → LeadsOn base node end (home_of end)
    leads_home end some low = same_heading end (home_of end) (Up node) number refl refl
        (from_port end some ∙ (ap (λ (o : Option LinkEnd). let h : Heading = record { end = o; channel = end.channel } in h) (sym (own_there node end.port some)) ∙ sym (leads_up base.topology node end.port end.channel low)))

    leads_out : (end : End) → is_linked t node end.port ≡ true → end.channel.vpi < 16 → LeadsOn base node (home_of end) end
    leads_out end linked low = same_heading (home_of end) end (Out node end.port) (number, subst (λ (u : Topology). is_linked u node end.port ≡ true) (sym is.topology) linked) refl refl
        (leads_down base.topology node end.port end.channel low)

    -- a join leads the flow that its input's label was bound to last to the next hop
    leads_joined : (input output : End) → IsLabelEnd (setups_of site.controller) input → IsLabelEnd (setups_of site.controller) output → output_of site.switch.crossbar.branches input ≡ Some output → LeadsOn base node input output
    leads_joined input output from to branch = record {
      place = Out node output.port;
      is_place = (number, subst (λ (u : Topology). is_linked u node output.port ≡ true) (sym is.topology) (label_port output to));
      of_node = refl;
      of_port = refl;
      means = λ frames last mark m. joins frames last mark (subst (λ (h : Heading). Means (in_frames base frames) h last mark) (from_port input (above input.port (label_port input from))) m);
      proper = λ p other. (
        subst (λ (c : Channel). is_label_channel c ≡ true) (sym (ap (λ (e : End). e.channel) to.is)) (range_label to.setup to.number to.in_range),
        λ end e. beyond (record { node = node; port = output.port }) end (sym (ap (λ (u : Topology). peer_of u node output.port) is.topology) ∙ e),
      );
    }
      where
        far_is : (far : LinkEnd) × (peer_of t node output.port ≡ Some far)
        far_is = peer_some t node output.port (label_port output to)

        way : Way
        way = record { down = far_is.0; up = record { node = node; port = output.port } }

        is_label_one : is_label_number to.number ≡ true
        is_label_one = range_label to.setup to.number to.in_range

        output_is : output ≡ label_end output.port to.number
        output_is = to.is ∙ ap (λ (p : PortNo). label_end p to.number) (sym (ap (λ (e : End). e.port) to.is))

        led_to : output_at past.now node input ≡ Some (label_end output.port to.number)
        led_to = ap (λ (o : Option Site). option_and_then (λ s. output_of s.switch.crossbar.branches input) o) found ∙ (branch ∙ ap (λ (e : End). Some e) output_is)

        stands : StandsForLast past way to.number (ByBranch input)
        stands =
            let own : IsPeer t (record { node = node; port = output.port }) far_is.0 = peer_back t topology_is (record { node = node; port = output.port }) far_is.0 far_is.1 in
            let on : IsWay t way = record { downstream = far_is.1; upstream = own.back } in
            hops_are (link_of t way to.number) (link_is t topology_is way on to.number is_label_one) input (above input.port (label_port input from)) (by_branch led_to)

        input_default : same_channel input.channel default_channel ≡ false
        input_default = subst (λ (c : Channel). same_channel c default_channel ≡ false) (sym (ap (λ (e : End). e.channel) from.is))
            (no_default (label_channel_of from.number) (label_is (label_channel_of from.number) (range_label from.setup from.number from.in_range)))

        output_default : same_channel output.channel default_channel ≡ false
        output_default = subst (λ (c : Channel). same_channel c default_channel ≡ false) (sym (ap (λ (e : End). e.channel) to.is))
            (no_default (label_channel_of to.number) (label_is (label_channel_of to.number) is_label_one))

        output_number : number_of_channel output.channel ≡ to.number
        output_number = ap (λ (e : End). number_of_channel e.channel) to.is ∙ number_of_channel-label_channel_of to.number

        led_out : (heading_at base.topology (Out node output.port) output.channel).end ≡ Some far_is.0
        led_out = ap (λ (u : Topology). peer_of u node output.port) is.topology ∙ far_is.1

        clash : (b : Bool) → b ≡ true → b ≡ false → ⊥
        clash b e f = (let no : true ≡ false = sym e ∙ f in cc no)

        joins : (frames : List Frame) (last : Bool) (mark : Mark) → Means (in_frames base frames) (record { end = Some (record { node = node; port = input.port }); channel = input.channel }) last mark
            → Means (in_frames base frames) (heading_at base.topology (Out node output.port) output.channel) last mark
        joins frames last mark (early d e other) = absurd (clash _ d input_default)
        joins frames last mark (control d z source message made) = absurd (clash _ d input_default)
        joins frames last mark (local d e z) = absurd (clash _ d input_default)
        joins frames last mark (plain d e far led packet made come newest) = absurd (clash _ d input_default)
        joins frames last mark (labelled d far led flow bound payload packet made carried come newest) =
            let s : LeadsFlow past way input stands.flow = stands.stands in
            let here : record { node = node; port = input.port } ≡ far = cc in
            let in_number : number_of_channel input.channel ≡ s.label = number_same input.channel s.label s.numbered in
            let bound_here : last_bound past.records (record { node = node; port = input.port }) s.label ≡ Some flow =
            ap (λ (n : ℕ). last_bound past.records (record { node = node; port = input.port }) n) (sym in_number)
            ∙ (ap (λ (f : LinkEnd). last_bound past.records f (number_of_channel input.channel)) here ∙ (ap (λ (rs : List Record). last_bound rs far (number_of_channel input.channel)) (sym is.records) ∙ bound)) in
            let same : flow ≡ s.joined = some_flow flow s.joined (last_bound past.records (record { node = node; port = input.port }) s.label) bound_here s.bound in
            let on : laws.GoesOn (table_in node past.now) stands.flow packet payload output.port =
            laws.carried_on (table_in node past.now) s.joined stands.flow packet payload output.port (subst (λ (f : FlowId). Carries f packet payload) same carried) s.routed s.onward in
            let at_node : HasCome (in_frames base frames) mark.packet node packet = subst (λ (n : NodeId). HasCome (in_frames base frames) mark.packet n packet) (ap (λ (f : LinkEnd). f.node) (sym here)) come in
            labelled output_default far_is.0 led_out stands.flow
            (ap (λ (rs : List Record). last_bound rs far_is.0 (number_of_channel output.channel)) is.records ∙ (ap (λ (n : ℕ). last_bound past.records far_is.0 n) output_number ∙ stands.bound))
            payload (onward packet) made on.carried
            (record {
              counted = come.counted;
              fit = record { accepted = laws.accepted_onward packet come.fit.accepted; octets = octets_onward packet come.fit.octets };
              time = time;
              so_far = omega (arith, is.timed);
              reached = hops mark.packet node packet at_node.time time output.port far_is.0 at_node.reached (omega (arith, at_node.so_far, is.timed)) on.hop.lives
                  (ap (λ (routes : List Route). best routes (destination_of packet)) (is.held node) ∙ on.hop.routed) led_out;
            }) newest

    leads_by : (input output : End) → IsShapedBranch (setups_of site.controller) input output → output_of site.switch.crossbar.branches input ≡ Some output → LeadsOn base node input output
    leads_by _ _ (home _ (default port linked)) branch = leads_home (record { port = port; channel = default_channel }) (above port (linked_port port linked)) (omega arith)
    leads_by _ _ (home _ (label end is_end)) branch = leads_home end (above end.port (label_port end is_end)) (label_low end is_end)
    leads_by _ _ (out _ (default port linked)) branch = leads_out (record { port = port; channel = default_channel }) (linked_port port linked) (omega arith)
    leads_by _ _ (out _ (label end is_end)) branch = leads_out end (label_port end is_end) (label_low end is_end)
    leads_by _ _ (joined input output from to) branch = leads_joined input output from to branch

    pub known : IsKnown base time node site
    known = record {
      number = number;
      held = is.held node ∙ ap (λ (o : Option Site). option_map_or (λ s. s.controller.table) o []) found;
      linked = λ packet port e. (
          let to = peer_some t node port (best_every (IsLinkedNext t node) site.controller.table (destination_of packet) (Via port) of_run.conduct.routes e) in
          (to.0, ap (λ (u : Topology). peer_of u node port) is.topology ∙ to.1, beyond (record { node = node; port = port }) to.0 to.1));
      granted = λ turn same. every_map2 (λ (linked : Linked). linked_at site.controller linked.setup.port ≡ Some linked) (IsLinkedPort (setups_of site.controller)) (HasGrants turn node) site.controller.ports
          (λ linked own port far led. (
          let led_here : peer_of t node linked.setup.port ≡ Some far = sym (ap (λ (b : Past). peer_of b.topology node linked.setup.port) same ∙ ap (λ (u : Topology). peer_of u node linked.setup.port) is.topology) ∙ led in
          subst (λ (rs : List Record). Every (λ (grant : Grant). (is_label_number grant.label ≡ true) × (last_bound rs far grant.label ≡ Some grant.flow)) linked.port.grants)
          (sym is.records ∙ ap (λ (b : Past). b.records) (sym same)) (flows_of linked own port far led_here))) each_own of_run.conduct.sound.ports.each;
      labels = λ turn same. every_map (λ (linked : Linked). Every (IsBoundLast node past.records linked.setup.port) (labels_of linked.port)) (HasLabels turn node) site.controller.ports
          (λ linked each number one found_one bound. ap (λ (rs : List Record). last_bound rs (record { node = node; port = linked.setup.port }) number) (ap (λ (b : Past). b.records) same ∙ is.records)
          ∙ flow_of_label linked each number one found_one bound) of_run.conduct.bound;
      leads = λ input output e. leads_by input output (shapes.branches input output e) e;
      queues = of_run.is_node.queues;
    }
