-- a packet that stands at a controller comes to the next one, on the default channel or under a grant

use Rattle.std.proofs.Common.{◌≡◌, ℕ, ◌<◌, ◌&&◌, Bool, false, List, [], ◌∷◌, ◌++◌, append_assoc, append-nil, Contains, Option, None, Some, ◌⊎◌, inl, inr, refl, sym, ◌∙◌, ap, subst, arith}
use Rattle.std.specs.Option.{option_and_then}
use Rattle.std.proofs.lemmas.List.Elements.{Contains-append_right}
use Rattle.world_model.specs.Words.{NodeId, PortNo, Down, Up, Channel, Policy, Mark, Cell, FlowId, kind_of, packet_flow, has_entry, payload_of, labelled_payload, Carries, frame_cells, next_mark, default_home, default_payload, same_channel, hop_of, onward, On, is_bound, label_end, control_end, inject_refusal, Grant, ByController, grant_for, grant_by, grants_at, Topology, World, Site, site_at, queue_at, output_at, next, IsNode, AreOctets}
use Rattle.world_model.specs.Topology.{peer_of}
use Rattle.world_model.specs.network_model.declared.link.LinkEnd.{LinkEnd}
use Rattle.world_model.specs.network_model.declared.event.Event.{Event}
use Rattle.world_model.specs.network_model.declared.event.Event.TheVariants.{Inject, Carry}
use Rattle.calm_model.specs.Served.{hosts_of, IsNewLink}
use Rattle.law_live_ease.proofs.law_packet_worlds.Hops.{accepted_parts, wraps}
use Rattle.law_live_ease.proofs.law_causes.Shown.{IsPeer, peer_back}
use Rattle.law_live_ease.proofs.law_run_facts.law_controller_facts.Onward.{octets_onward, packet_of}
use Rattle.law_live_ease.specs.law_run_facts.Nodes.{HasSite}
use Rattle.law_live_ease.specs.law_live_hearing.Law.{world_at, Waits, Hears}
use Rattle.law_live_ease.proofs.law_live_hearing.Waiting.{frames_wait}
use Rattle.law_live_ease.proofs.law_live_orders.Marks.{channel_self}
use Rattle.law_live_ease.specs.law_live_bound.Law.{HoldsPacket}
use Rattle.law_live_ease.proofs.law_passing.Worlds.{change_by_passing}
use Rattle.law_live_ease.specs.law_passing.telling_model.Passing.{left}
use Rattle.law_live_ease.specs.law_live_saying.Law.{Puts}
use Rattle.law_live_ease.specs.law_live_journeys.Law.{GoesOn, IsRouted, IsBrought, entering}
use Rattle.law_live_ease.specs.law_live_journeys.Hops.{ComesTo}
use Rattle.law_live_ease.proofs.law_live_journeys.Runs.{counts}
use Rattle.law_live_cut_through.specs.Law.{HoldsLabel, HoldsGrant}
use Rattle.law_live_cut_through.specs.Led.{Leads, ComesUnder}
use Rattle.law_live_cut_through.specs.Under.{GoesUnder, IsGranted, EntersNothing, IsBroughtUnder}
use Rattle.law_live_cut_through.proofs.FirstGiven.{Given}
use Rattle.law_live_cut_through.proofs.FirstFlows.{of_kind}
use Rattle.law_live_cut_through.proofs.FirstShown.{IsThere, is_there}
use Rattle.law_live_cut_through.proofs.FirstGrants.{IsUsedLink, granted_link}
use Rattle.law_live_cut_through.proofs.FirstStretches.{Laws, IsSending, next_is, enters_nothing, split, stretch_on, binds_at, alone_at, unjoined, label_stays, grant_stays}

-- *It stands at a controller* in an event, and goes on by its route where nothing is entered then
pub record Stands (topology : Topology) (w : World) (event : Event) (node : NodeId) (came : Mark) (packet : List ℕ) : Type 0 where
  pub site : Site
  pub there : site_at w node ≡ Some site
  pub on : (port : PortNo) → IsRouted site.controller port packet → EntersNothing topology w event
      → GoesOn topology w event (record { node = node; port = port }) came packet
  pub under : (port : PortNo) (grant : Grant) → IsGranted site.controller port packet grant → EntersNothing topology w event
      → GoesUnder topology w event (record { node = node; port = port }) came grant packet

pub stands_entering : Given → (topology : Topology) (w : World) (node : NodeId) (packet : List ℕ) → HasSite w node → inject_refusal packet ≡ None
    → Stands topology w (Inject node packet) node (entering w) packet
stands_entering given topology w node packet h accepted = record {
  site = h.site;
  there = h.is;
  on = λ port routed nothing. given.entries_on topology w (record { node = node; port = port }) h.site packet h.is accepted routed nothing;
  under = λ port grant granted nothing. given.entries_under topology w (record { node = node; port = port }) h.site packet grant h.is accepted granted nothing;
}

stands_brought : Given → (topology : Topology) (w : World) (far : LinkEnd) (came : Mark) (packet : List ℕ) → 0 < came.packet → IsBrought topology w far came packet
    → Stands topology w (Carry (Up far.node)) far.node came packet
stands_brought given topology w far came packet some b = record {
  site = b.site;
  there = b.there;
  on = λ port routed nothing. given.brought_on topology w far port came packet b some routed nothing;
  under = λ port grant granted nothing. given.brought_under topology w far port came packet grant b some granted nothing;
}

stands_labelled : Given → (topology : Topology) (w : World) (far : LinkEnd) (number : ℕ) (mark : Mark) (flow : FlowId) (packet : List ℕ) → 0 < mark.packet
    → IsBroughtUnder topology w far number mark flow packet → Stands topology w (Carry (Up far.node)) far.node mark packet
stands_labelled given topology w far number mark flow packet some b = record {
  site = b.site;
  there = b.there;
  on = λ port routed nothing. given.labelled_on topology w far number port mark flow packet b some routed nothing;
  under = λ port grant granted nothing. given.labelled_under topology w far number port mark flow packet grant b some granted nothing;
}

module _ (policy : Policy) (topology : Topology) (past events : List Event) where
  -- *The flow has a label* at an end of a link behind the stretch, and it isn't joined
  pub record HoldsIn (far : LinkEnd) (flow : FlowId) : Type 0 where
    pub number : ℕ
    pub label : HoldsLabel (world_at policy topology (past ++ events)) far number flow None

  -- *A packet is heard* at an end, on the default channel of the port
  pub record IsHeardAt (far : LinkEnd) (mark : Mark) (packet : List ℕ) : Type 0 where
    pub front : List Event
    pub rest : List Event
    pub are : events ≡ front ++ Carry (Up far.node) ∷ rest
    pub hears : Hears topology (world_at policy topology (past ++ front)) far.node (default_home far.port).channel mark (default_payload packet)
    pub holds : HoldsPacket (default_payload packet) packet

  -- *It comes to an end*: it stands there at a carry, and is heard on the default channel, or the flow has a label
  pub record Reaches (far : LinkEnd) (flow : FlowId) (mark : Mark) (packet : List ℕ) : Type 0 where
    pub front : List Event
    pub rest : List Event
    pub are : events ≡ front ++ Carry (Up far.node) ∷ rest
    pub stands : Stands topology (world_at policy topology (past ++ front)) (Carry (Up far.node)) far.node mark packet
    pub found : IsHeardAt far mark packet ⊎ HoldsIn far flow

module _ (laws : Laws) (policy : Policy) (topology : Topology) (past events : List Event) (s : IsSending policy topology past events) where
  abbrev at : List Event → World
  at front = world_at policy topology (past ++ front)

  abbrev Comes : (far : LinkEnd) → FlowId → Mark → (packet : List ℕ) → Type 0
  Comes far flow mark packet = Reaches policy topology past events far flow mark packet

  -- *From an event of the stretch on*
  module _ (first rest : List Event) (event : Event) (are : events ≡ first ++ event ∷ rest) where
    behind : events ≡ (first ++ event ∷ []) ++ rest
    behind = are ∙ sym (append_assoc first (event ∷ []) rest)

    here : (front : List Event) → ((past ++ first) ++ event ∷ []) ++ front ≡ past ++ (first ++ event ∷ front)
    here front = append_assoc (past ++ first) (event ∷ []) front ∙ append_assoc past first (event ∷ front)

    split_at : (front later : List Event) → rest ≡ front ++ later → events ≡ (first ++ event ∷ front) ++ later
    split_at front later e = are ∙ (ap (λ (es : List Event). first ++ event ∷ es) e ∙ sym (append_assoc first (event ∷ front) later))

    -- *What is put* isn't lost
    unlost : (node : NodeId) (channel : Channel) (mark : Mark) (payload : List ℕ) → IsNode topology node
        → Puts topology (at first) event (Down node) (frame_cells channel mark payload)
        → has_entry (world_at policy topology ((past ++ first) ++ event ∷ rest)).notes.entries mark ≡ false
    unlost node channel mark payload within put =
        subst (λ (es : List Event). has_entry (world_at policy topology es).notes.entries mark ≡ false) (split laws policy topology past events s first (event ∷ rest) are)
        (subst (λ (m : Mark). has_entry (at events).notes.entries m ≡ false) waits.own
        (laws.given.unlost policy topology past events s.calm s.stretch.empties (first ++ event ∷ []) rest events [] behind (sym (append-nil events)) (Down node) waits.cell within there))
      where
        waits : Waits (next topology (at first) event) (Down node) channel mark
        waits = frames_wait (next topology (at first) event) (Down node) channel mark payload (left (at first) event (Down node) ++ put.front) put.after
            (change_by_passing topology (at first) event (Down node)
            ∙ (ap (λ (cells : List Cell). left (at first) event (Down node) ++ cells) put.is
            ∙ sym (append_assoc (left (at first) event (Down node)) put.front (frame_cells channel mark payload ++ put.after))))

        queue : queue_at (at (first ++ event ∷ [])) (Down node) ≡ waits.before ++ waits.cell ∷ waits.after
        queue = ap (λ (w : World). queue_at w (Down node)) (next_is laws policy topology past events s first event) ∙ waits.is

        among : (cell : Cell) (cells : List Cell) → Contains (cell ∷ cells) cell
        among cell cells = (0, omega arith, refl)

        there : Contains (queue_at (at (first ++ event ∷ [])) (Down node)) waits.cell
        there = subst (λ (cells : List Cell). Contains cells waits.cell) (sym queue)
            (Contains-append_right waits.before (waits.cell ∷ waits.after) waits.cell (among waits.cell waits.after))

    -- *A hop* over a link
    module _ (one far : LinkEnd) (led : peer_of topology one.node one.port ≡ Some far) (within : IsNode topology one.node) (came : Mark) (packet : List ℕ) (flow : FlowId)
        (stands : Stands topology (at first) event one.node came packet) (some : 0 < came.packet) (accepted : inject_refusal packet ≡ None) (octets : AreOctets packet)
        (of_flow : packet_flow (onward packet) ≡ Some flow) (routed : hop_of stands.site.controller.table packet ≡ On one.port)
        (none : option_and_then (grant_for (grants_at (at first) one)) (hosts_of flow) ≡ None) (new : IsNewLink (world_at policy topology past) one far flow) where
      abbrev mark : Mark
      mark = next_mark came

      peer : IsPeer topology one far
      peer = peer_back topology s.stretch.run.topology_is one far led

      -- *on the default channel*
      by_default : grant_by stands.site.controller one.port (onward packet) ≡ None → Comes far flow mark (onward packet)
      by_default ungranted = record {
        front = first ++ event ∷ c.front;
        rest = c.rest;
        are = split_at c.front (Carry (Up far.node) ∷ c.rest) c.are;
        stands = stands_brought laws.given topology (at (first ++ event ∷ c.front)) far mark (onward packet) some
            (subst (λ (es : List Event). IsBrought topology (world_at policy topology es) far mark (onward packet)) (here c.front) c.brought);
        found = inl (record {
          front = first ++ event ∷ c.front;
          rest = c.rest;
          are = split_at c.front (Carry (Up far.node) ∷ c.rest) c.are;
          hears = subst (λ (es : List Event). Hears topology (world_at policy topology es) far.node (default_home far.port).channel mark (default_payload (onward packet))) (here c.front) c.heard;
          holds = c.holds;
        });
      }
        where
          on : GoesOn topology (at first) event one came packet
          on = stands.on one.port (record { route = routed; ungranted = ungranted }) (enters_nothing laws policy topology past events s first rest event are)

          c : ComesTo policy topology ((past ++ first) ++ event ∷ []) rest far mark (onward packet)
          c = laws.hops policy topology (past ++ first) rest event one far came packet (stretch_on laws policy topology past events s first (event ∷ rest) are) within led accepted on
              (unlost one.node (default_home one.port).channel mark (default_payload (onward packet)) within on.put)

      -- *under a grant*
      module _ (grant : Grant) (granted : grant_by stands.site.controller one.port (onward packet) ≡ Some grant) where
        used : IsUsedLink (at first) one far flow grant
        used = granted_link topology (at first) (binds_at laws policy topology past events s first (event ∷ rest) are) one far led stands.site (onward packet) flow grant stands.there of_flow none granted

        label_here : HoldsLabel (at first) far grant.label flow None
        label_here = subst (HoldsLabel (at first) far grant.label flow) (unjoined laws policy topology past events s first (event ∷ rest) are one far flow new grant.label used.join used.label) used.label

        -- the label and the grant stay
        label_then : (front later : List Event) → rest ≡ front ++ later → HoldsLabel (at (first ++ event ∷ front)) far grant.label flow None
        label_then front later e = label_stays laws policy topology past events s first (event ∷ rest) are (event ∷ front) later (ap (λ (es : List Event). event ∷ es) e)
            far grant.label flow None label_here

        grant_then : (front later : List Event) → rest ≡ front ++ later → HoldsGrant (at (first ++ event ∷ front)) one grant.label flow ByController
        grant_then front later e = grant_stays laws policy topology past events s first (event ∷ rest) are (event ∷ front) later (ap (λ (es : List Event). event ∷ es) e)
            one grant.label flow ByController used.grants

        leads_out : Leads policy topology ((past ++ first) ++ event ∷ []) rest one.node (control_end one.port grant.label) (label_end one.port grant.label)
        leads_out front later e output is = laws.given.grants_lead policy topology (past ++ (first ++ event ∷ front)) later
            (stretch_on laws policy topology past events s (first ++ event ∷ front) later (split_at front later e))
            (alone_at laws policy topology past events s (first ++ event ∷ front) later (split_at front later e)) one far led grant.label flow ByController (grant_then front later e)
            output (sym (ap (λ (es : List Event). output_at (world_at policy topology es) one.node (control_end one.port grant.label)) (here front)) ∙ is)

        leads_home : Leads policy topology ((past ++ first) ++ event ∷ []) rest far.node (label_end far.port grant.label) (control_end far.port grant.label)
        leads_home front later e output is = laws.given.labels_lead policy topology (past ++ (first ++ event ∷ front)) later
            (stretch_on laws policy topology past events s (first ++ event ∷ front) later (split_at front later e))
            (alone_at laws policy topology past events s (first ++ event ∷ front) later (split_at front later e)) one far led grant.label flow None (label_then front later e)
            output (sym (ap (λ (es : List Event). output_at (world_at policy topology es) far.node (label_end far.port grant.label)) (here front)) ∙ is)

        under : GoesUnder topology (at first) event one came grant packet
        under = stands.under one.port grant (record { route = routed; granted = granted }) (enters_nothing laws policy topology past events s first rest event are)

        abbrev payload : List ℕ
        payload = labelled_payload (kind_of grant.flow) (onward packet)

        comes : ComesUnder policy topology ((past ++ first) ++ event ∷ []) rest far grant.label mark
            × ((front later : List Event) → rest ≡ front ++ later → payload_of (world_at policy topology (((past ++ first) ++ event ∷ []) ++ front)).notes.frames mark ≡ Some payload)
        comes = laws.given.led policy topology (past ++ first) rest event one far came grant packet [] (stretch_on laws policy topology past events s first (event ∷ rest) are) within led under
            (unlost one.node (control_end one.port grant.label).channel mark payload within under.put) leads_out leads_home

        c : ComesUnder policy topology ((past ++ first) ++ event ∷ []) rest far grant.label mark
        c = comes.0

        abbrev then : List Event
        then = first ++ event ∷ c.front

        then_are : events ≡ then ++ Carry (Up far.node) ∷ c.rest
        then_are = split_at c.front (Carry (Up far.node) ∷ c.rest) c.are

        held : HoldsLabel (at then) far grant.label flow None
        held = label_then c.front (Carry (Up far.node) ∷ c.rest) c.are

        shown : IsThere (at then) far held.linked
        shown = is_there (at then) far held.linked held.shown

        abbrev up : Channel
        up = (control_end far.port grant.label).channel

        carries : Carries flow (onward packet) payload
        carries = subst (λ (f : FlowId). Carries flow (onward packet) (labelled_payload (kind_of f) (onward packet))) (sym used.of_flow)
            (wraps flow packet (packet_of packet (accepted_parts packet accepted).0) (octets_onward packet octets) (of_kind (onward packet) flow of_flow))

        brought : IsBroughtUnder topology (at then) far grant.label mark flow (onward packet)
        brought = record {
          link = peer.port;
          numbered = used.numbered;
          site = shown.site;
          there = shown.there;
          linked = held.linked;
          of_port = shown.of_port;
          label = held.label;
          held = held.held;
          bound = ap is_bound held.offered;
          of_flow = held.of_flow;
          cell = c.cell;
          cells = c.cells;
          queue = subst (λ (es : List Event). queue_at (world_at policy topology es) (Up far.node) ≡ c.cell ∷ c.cells) (here c.front) c.queue;
          last = ap (λ (b : Bool). b && same_channel c.cell.header.channel up) c.last ∙ (ap (λ (ch : Channel). same_channel ch up) c.on ∙ channel_self up);
          own = c.own;
          payload = payload;
          made = subst (λ (es : List Event). payload_of (world_at policy topology es).notes.frames mark ≡ Some payload) (here c.front)
              (comes.1 c.front (Carry (Up far.node) ∷ c.rest) c.are);
          carries = carries;
          counts = counts laws.whole policy topology past events s.stretch (past ++ then) c.rest (Carry (Up far.node))
              (split laws policy topology past events s then (Carry (Up far.node) ∷ c.rest) then_are);
          unlost = subst (λ (es : List Event). has_entry (next topology (world_at policy topology es) (Carry (Up far.node))).notes.entries mark ≡ false) (here c.front) c.unlost;
        }

        in_the_end : HoldsLabel (at events) far grant.label flow None
        in_the_end = subst (λ (es : List Event). HoldsLabel (at es) far grant.label flow None) (sym are)
            (label_then rest [] (sym (append-nil rest)))

        by_grant : Comes far flow mark (onward packet)
        by_grant = record {
          front = then;
          rest = c.rest;
          are = then_are;
          stands = stands_labelled laws.given topology (at then) far grant.label mark flow (onward packet) some brought;
          found = inr (record { number = grant.label; label = in_the_end });
        }

      -- *either way*
      pub hop : Comes far flow mark (onward packet)
      hop = by (grant_by stands.site.controller one.port (onward packet)) refl
        where
          by : (o : Option Grant) → grant_by stands.site.controller one.port (onward packet) ≡ o → Comes far flow mark (onward packet)
          by None t = by_default t
          by (Some grant) t = by_grant grant t
