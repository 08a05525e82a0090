-- a packet of a flow whose way stands is switched, from its first controller to the last

use Rattle.std.proofs.Common.{◌≡◌, ◌∙◌, ℕ, ◌+◌, ◌<◌, ◌&&◌, Bool, true, false, List, [], ◌∷◌, ◌++◌, append_assoc, length, Option, None, Some, sym, ap, subst, arith}
use Rattle.std.specs.Prelude.{Contains}
use Rattle.std.specs.Option.{option_map_or}
use Rattle.world_model.specs.Words.{NodeId, Policy, Up, Delivered, Mark, Channel, FlowId, flow_ttl, flow_destination, packet_flow, onward, destination_of, best, Here, hop_of, next_mark, label_end, control_end, same_channel, kind_of, labelled_payload, is_bound, inject_refusal, ByController, Grant, payload_of, queue_at, Topology, World, Site, next, world_after, table_in, IsRun}
use Rattle.world_model.specs.World.{opened}
use Rattle.world_model.specs.network_model.declared.link.LinkEnd.{LinkEnd}
use Rattle.world_model.specs.network_model.declared.event.Event.{Event}
use Rattle.world_model.specs.network_model.declared.event.Event.TheVariants.{Inject, Carry}
use Rattle.live_model.specs.Beats.{settling, settled}
use Rattle.calm_model.specs.Ways.{one_hop, last_node}
use Rattle.calm_model.specs.CutThrough.{IsSwitched}
use Rattle.law_live_ease.proofs.law_causes.Shown.{IsPeer, peer_back}
use Rattle.law_live_ease.proofs.law_packet_worlds.Hops.{flow_tells}
use Rattle.law_live_ease.specs.law_run_facts.Nodes.{HasSite}
use Rattle.law_live_ease.proofs.law_run_facts.Rooms.{runs_keep_nodes}
use Rattle.law_live_ease.specs.law_true_runs.Runs.{HoldsInRuns, IsWhole}
use Rattle.law_live_ease.proofs.law_true_runs.Fronts.{front_run}
use Rattle.law_live_ease.specs.law_live_hearing.Law.{world_at}
use Rattle.law_live_ease.proofs.law_live_hearing.Going.{after_all}
use Rattle.law_live_ease.proofs.law_live_orders.Marks.{channel_self}
use Rattle.law_live_ease.proofs.law_live_journeys.Runs.{counts}
use Rattle.law_live_ease.proofs.law_live_journeys.Ways.{ends_here}
use Rattle.law_live_cut_through.specs.Law.{HoldsLabel, AreJoinedOn, WayStands}
use Rattle.law_live_cut_through.specs.Led.{Leads, LeadsAlong, last_end, last_label, ComesUnder}
use Rattle.law_live_cut_through.specs.Under.{IsBroughtUnder}
use Rattle.law_live_cut_through.specs.Later.{PacketsAreSwitched}
use Rattle.law_live_cut_through.proofs.SwitchedGiven.{Given}
use Rattle.law_live_cut_through.proofs.SwitchedStanding.{own_label}
use Rattle.law_live_cut_through.proofs.SwitchedPackets.{less_ttl}
use Rattle.law_live_cut_through.proofs.SwitchedNumbered.{at_port, numbered}
use Rattle.law_live_cut_through.proofs.SwitchedStretches.{IsBoundStretch, behind_front, binds_first, table_stays, settled_is, bound_sending}
use Rattle.law_live_cut_through.proofs.SwitchedEntering as entering
use Rattle.law_live_cut_through.proofs.SwitchedLeading.{at_last_node, later_bound, label_then, grant_leads, along_of, EndsAt, ends_at}

both : (x y : Bool) → x ≡ true → y ≡ true → (x && y) ≡ true
both true y p q = q
both false y p q = absurd (cc p)

-- *A frame comes to the last end*, on the channel of a label that is held there, which isn't joined, and the route is local
module _ (given : Given) (whole : HoldsInRuns IsWhole) (policy : Policy) (topology : Topology) (past rest : List Event) (event : Event) (b : IsBoundStretch policy topology past (event ∷ rest))
    (number : ℕ) (payload : List ℕ) (last : LinkEnd) (label : ℕ) where
  abbrev w : World
  w = world_at policy topology past

  abbrev then : List Event
  then = past ++ event ∷ []

  abbrev mark : Mark
  mark = record { packet = number; frame = 1 }

  module _ (c : ComesUnder policy topology then rest last label mark) (at : EndsAt given policy topology past rest event b last label payload)
      (made : payload_of (world_at policy topology (then ++ c.front)).notes.frames mark ≡ Some payload) (some : 0 < number) where
    abbrev x : World
    x = world_at policy topology (then ++ c.front)

    abbrev carry : Event
    carry = Carry (Up last.node)

    bound : IsBoundStretch policy topology then rest
    bound = later_bound given policy topology past rest event b

    split : then ++ rest ≡ (then ++ c.front) ++ carry ∷ c.rest
    split = ap (λ (es : List Event). then ++ es) c.are ∙ sym (append_assoc then c.front (carry ∷ c.rest))

    so_far : IsRun policy topology (then ++ c.front)
    so_far = front_run policy topology (then ++ c.front) (carry ∷ c.rest) (subst (IsRun policy topology) split bound.stretch.run)

    peer : IsPeer topology at.one last
    peer = peer_back topology bound.stretch.run.topology_is at.one last at.linked

    h : HasSite x last.node
    h = runs_keep_nodes policy topology (then ++ c.front) so_far last.node peer.node

    held : HoldsLabel x last label at.flow None
    held = label_then given policy topology past rest event b c.front (carry ∷ c.rest) c.are last label at.flow None at.label

    brought : IsBroughtUnder topology x last label mark at.flow at.packet
    brought =
        let linked_there = at_port x last h.site held.linked h.is held.shown in
        record {
          link = (peer.port.0, peer.port.1);
          numbered = numbered policy topology (then ++ c.front) last h.site held.linked label held.label so_far bound.stretch.addresses h.is linked_there held.held;
          site = h.site;
          there = h.is;
          linked = held.linked;
          of_port = linked_there;
          label = held.label;
          held = held.held;
          bound = ap is_bound held.offered;
          of_flow = held.of_flow;
          cell = c.cell;
          cells = c.cells;
          queue = c.queue;
          last = both c.cell.header.last (same_channel c.cell.header.channel (control_end last.port label).channel) c.last
              (ap (λ (d : Channel). same_channel d (control_end last.port label).channel) c.on ∙ channel_self (control_end last.port label).channel);
          own = c.own;
          payload = payload;
          made = made;
          carries = at.carries;
          counts = counts whole policy topology then rest bound.stretch (then ++ c.front) c.rest carry split;
          unlost = c.unlost;
        }

    -- its route is local
    table_there : table_in last.node x ≡ table_in last.node w
    table_there = ap (λ (es : List Event). table_in last.node (world_at policy topology es)) (append_assoc past (event ∷ []) c.front)
        ∙ table_stays policy topology past (event ∷ rest) b (event ∷ c.front) (carry ∷ c.rest) (ap (λ (es : List Event). event ∷ es) c.are) last.node

    same_destination : flow_destination at.flow ≡ destination_of at.packet
    same_destination = (flow_tells (kind_of at.flow) at.flow at.packet at.carries.of_flow).1

    here : hop_of h.site.controller.table at.packet ≡ Here
    here = ends_here h.site.controller.table at.packet
        (ap (best h.site.controller.table) (sym same_destination)
        ∙ (ap (λ (o : Option Site). best (option_map_or (λ (s : Site). s.controller.table) o []) (flow_destination at.flow)) (sym h.is)
        ∙ (ap (λ table. best table (flow_destination at.flow)) table_there ∙ at.route)))

    delivered : Contains (next topology x carry).notes.records (Delivered last.node number at.packet)
    unfolding brought
    delivered = given.delivered topology x last label mark at.flow at.packet brought here

    by_cell : Contains (next topology x carry).notes.records (Delivered last.node c.cell.mark.packet at.packet)
    by_cell = subst (λ (m : Mark). Contains (next topology x carry).notes.records (Delivered last.node m.packet at.packet)) (sym c.own) delivered

    no_second : payload_of (world_at policy topology (then ++ rest)).notes.frames (record { packet = number; frame = 2 }) ≡ None
    no_second = subst (λ (m : Mark). payload_of (world_at policy topology (then ++ rest)).notes.frames (next_mark m) ≡ None) c.own
        (given.alone policy topology then rest c.front c.rest last.node c.cell c.cells at.packet bound.stretch c.are c.queue c.last
        (subst (λ (m : Mark). 0 < m.packet) (sym c.own) some) by_cell)

    front_is : (front : List Event) → world_at policy topology (then ++ front) ≡ world_after topology (world_at policy topology then) front
    front_is front = after_all topology (opened policy topology) then front

    pub is_switched : IsSwitched topology (world_at policy topology then) rest number last.node
    is_switched = record {
      front = c.front;
      rest = c.rest;
      are = c.are;
      cell = c.cell;
      cells = c.cells;
      queue = ap (λ (v : World). queue_at v (Up last.node)) (sym (front_is c.front)) ∙ c.queue;
      ends_it = c.last;
      of_first = c.own;
      packet = at.packet;
      delivered = subst (λ (v : World). Contains (next topology v carry).notes.records (Delivered last.node number at.packet)) (front_is c.front) delivered;
      no_second = ap (λ (v : World). payload_of v.notes.frames (record { packet = number; frame = 2 })) (sym (front_is rest)) ∙ no_second;
    }

-- *A packet that enters*
module _ (given : Given) (whole : HoldsInRuns IsWhole) (policy : Policy) (topology : Topology) (past rest : List Event) (node : NodeId) (packet : List ℕ)
    (b : IsBoundStretch policy topology past (Inject node packet ∷ rest)) (accepted : inject_refusal packet ≡ None)
    (flow : FlowId) (far : LinkEnd) (ends : List LinkEnd) (of_flow : packet_flow packet ≡ Some flow) (lives : length (far ∷ ends) < flow_ttl flow)
    (s : WayStands topology (world_at policy topology past) node flow far ends) where
  abbrev enters : Event
  enters = Inject node packet

  abbrev begun : World
  begun = world_at policy topology past

  abbrev from : LinkEnd
  from = record { node = node; port = s.port }

  abbrev grant : Grant
  grant = s.grant.grant

  abbrev frame : List ℕ
  frame = labelled_payload (kind_of grant.flow) (onward packet)

  more : 1 < flow_ttl flow
  more = omega (arith, lives)

  same : s.number ≡ grant.label
  same = sym (own_label begun from s.number (one_hop flow) s.grant)

  joined : AreJoinedOn topology begun far grant.label (one_hop flow) ends
  joined = subst (λ (n : ℕ). AreJoinedOn topology begun far n (one_hop flow) ends) same s.joined

  along : LeadsAlong policy topology (past ++ enters ∷ []) rest far grant.label ends
  along = along_of given policy topology past rest enters b from far grant.label (one_hop flow) ends s.linked joined

  leads : Leads policy topology (past ++ enters ∷ []) rest node (control_end s.port grant.label) (label_end s.port grant.label)
  leads = subst (λ (n : ℕ). Leads policy topology (past ++ enters ∷ []) rest node (control_end s.port n) (label_end s.port n)) same
      (grant_leads given policy topology past rest enters b from far s.linked s.number (one_hop flow) ByController s.grant)

  abbrev mark_of : Mark
  mark_of = record { packet = begun.sent + 1; frame = 1 }

  led : ComesUnder policy topology (past ++ enters ∷ []) rest (last_end far ends) (last_label policy topology (past ++ enters ∷ []) rest far grant.label ends along) mark_of
      × ((front after : List Event) → rest ≡ front ++ after → payload_of (world_at policy topology ((past ++ enters ∷ []) ++ front)).notes.frames mark_of ≡ Some frame)
  led = given.led policy topology past rest enters from far (record { packet = begun.sent + 1; frame = 0 }) grant packet ends b.stretch
      (entering.within given policy topology past rest node packet b accepted flow far ends of_flow more s) s.linked
      (entering.under given policy topology past rest node packet b accepted flow far ends of_flow more s)
      (entering.unlost_mark given policy topology past rest node packet b accepted flow far ends of_flow more s)
      leads along

  ended : EndsAt given policy topology past rest enters b (last_end far ends) (last_label policy topology (past ++ enters ∷ []) rest far grant.label ends along) frame
  unfolding along
  ended =
      let less = less_ttl flow in
      ends_at given policy topology past rest enters b from far grant.label (one_hop flow) ends (onward packet) frame s.linked joined (omega (arith, lives, less))
      (entering.carried given policy topology past rest node packet b accepted flow far ends of_flow more s)

  pub switched : IsSwitched topology (world_at policy topology (past ++ enters ∷ [])) rest (begun.sent + 1) (last_node far.node ends)
  switched = subst (IsSwitched topology (world_at policy topology (past ++ enters ∷ [])) rest (begun.sent + 1)) (at_last_node far ends)
      (is_switched given whole policy topology past rest enters b (begun.sent + 1) frame (last_end far ends)
      (last_label policy topology (past ++ enters ∷ []) rest far grant.label ends along) led.0 ended (led.1 led.0.front (Carry (Up (last_end far ends).node) ∷ led.0.rest) led.0.are) (omega arith))

-- *In a calm beat*
pub are_switched : HoldsInRuns IsWhole → Given → PacketsAreSwitched
are_switched whole given policy topology before beat node flow far ends ease c lives stands front rest packet e accepted of_flow =
    let enter : List Event = Inject node packet ∷ [] in
    let w : World = world_at policy topology before in
    let v : World = settled topology w beat in
    let past : List Event = before ++ settling w beat in
    let all : IsBoundStretch policy topology past beat.sending = bound_sending given policy topology before beat ease c in
    let past_is : world_at policy topology past ≡ v = settled_is given policy topology before beat ease c in
    let b : IsBoundStretch policy topology (past ++ front) (Inject node packet ∷ rest) =
    behind_front policy topology past front (Inject node packet ∷ rest) (subst (IsBoundStretch policy topology past) e all) in
    let begun : WayStands topology (world_at policy topology past) node flow far ends = subst (λ (x : World). WayStands topology x node flow far ends) (sym past_is) stands in
    let s : WayStands topology (world_at policy topology (past ++ front)) node flow far ends =
    subst (λ (x : World). WayStands topology x node flow far ends) (sym (after_all topology (opened policy topology) past front))
    (given.ways_stand policy topology past beat.sending node flow far ends all.calm (binds_first policy topology past beat.sending all).binds begun front (Inject node packet ∷ rest) e) in
    let here : world_at policy topology (past ++ front) ≡ world_after topology v front =
    after_all topology (opened policy topology) past front ∙ ap (λ (x : World). world_after topology x front) past_is in
    let then : world_at policy topology ((past ++ front) ++ enter) ≡ world_after topology v (front ++ enter) =
    ap (world_at policy topology) (append_assoc past front enter)
    ∙ (after_all topology (opened policy topology) past (front ++ enter) ∙ ap (λ (x : World). world_after topology x (front ++ enter)) past_is) in
    subst (λ (x : World). IsSwitched topology x rest ((world_after topology v front).sent + 1) (last_node far.node ends)) then
    (subst (λ (x : World). IsSwitched topology (world_at policy topology ((past ++ front) ++ enter)) rest (x.sent + 1) (last_node far.node ends)) here
    (switched given whole policy topology (past ++ front) rest node packet b accepted flow far ends of_flow lives s))
