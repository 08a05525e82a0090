-- instances under which ports were cleared, and users of labels, behind each event

use Rattle.std.proofs.Common.{◌≡◌, ℕ, suc, ◌<◌, ◌^◌, Bool, true, false, List, [], ◌∷◌, length, Option, None, Some, refl, sym, ◌∙◌, ap, subst, arith, inl, inr}
use Rattle.std.specs.Prelude.{Contains, ◌&&◌, ◌==◌, not, nat_lt, nat_le, slice_get}
use Rattle.std.specs.Option.{option_map, option_map_or, option_or}
use Rattle.std.proofs.lemmas.Bool.Decides.{nat_tests}
use Rattle.world_model.specs.Words.{NodeId, PortNo, Down, Addr, Channel, Mark, Instance, Peer, HelloKind, Syn, Synack, Rstack, Ack, is_label_number, label_channel_of, number_of_channel, Clearing, Side, Cell, FlowId, Redirect, Reclaim, ReclaimAck, LabelRange, Error, names_of, op_code, hello_code, FitsMessage, InRange, Frame, Record, Bind, payload_of, Policy, Grant, Label, Session, Linked, default_home, same_channel, Topology, IsTopology, World, Site, queue_at, linked_end, side_at, grants_at, ifmp_under, on_default_channel, Past, past_of, last_bound, Way, IsWay, WasCleared, WaitsAs, IsClearedAs, IsSpareOrWired, IsWired as IsWiredLabel, held}
use Rattle.world_model.proofs.net_types.Labels.{number_of_channel-label_channel_of}
use Rattle.world_model.specs.ifmp_wire.declared.message.Message.{Message}
use Rattle.world_model.specs.ifmp_wire.declared.message.Message.TheVariants.{Adjacency}
use Rattle.world_model.specs.ifmp_wire.Message.{octets_of}
use Rattle.law_run_facts.proofs.law_controller_bindings.Lasts.{last_more, some_same}
use Rattle.law_frame_readings.specs.law_controller_views.Lifted.{payload_by, IsProper}
use Rattle.law_label_line.specs.Cells.{Role, Downstream, Upstream}
use Rattle.law_label_line.specs.Law.{Always, SpareIsUnused}
use Rattle.world_model.specs.network_model.declared.link.LinkEnd.{LinkEnd}
use Rattle.world_model.specs.network_model.declared.event.Event.{Event}
use Rattle.world_model.specs.Topology.{peer_of}
use Rattle.law_frame_readings.specs.law_port_views.Link.{LinkLabel}
use Rattle.law_frame_readings.specs.law_world_views.Shown.{end_of}
use Rattle.law_frame_readings.specs.law_world_views.Tied.{HasUsersOfLast, HasClearedInstances, HasClearedEnds, tells_its_own, is_rstack}
use Rattle.law_frame_readings.specs.law_world_views.Made.{AreMade}
use Rattle.law_frame_readings.specs.law_world_views.Between.{IsWorld, IsLinkLabel, HasAllMade, HasAllCleared, HasAllUsers}
use Rattle.law_frame_readings.specs.law_world_views.Kept.{Comes, behind, Keeps}
use Rattle.law_frame_readings.specs.law_shown_cells.Seen.{Extends}
use Rattle.law_frame_readings.proofs.law_shown_cells.Frames.{same_is}
use Rattle.law_running_worlds.proofs.law_causes.Shown.{IsPeer, peer_back}
use Rattle.law_frame_readings.specs.Reading.{FramesAreRead, MarksAreRead, HasTold}
use Rattle.law_run_facts.specs.Nodes.{RunsHaveNodes}
use Rattle.law_run_facts.specs.Steps.{EventsAreSteps, RunsHaveFronts, PastsAreWhole, PastsStay, FramesStay, Stays}
use Rattle.law_running_worlds.specs.Running.{TameEventsAreTrue}
use Rattle.law_port_words.specs.Words.{IsSent, waited, of_packet, away, said, bound, IsWord, IsNoted, IsGranted, IsRedirected}
use Rattle.law_unused_labels.proofs.Links.{link_of, link_is}
use Rattle.law_unused_labels.proofs.Reading.{no_grant, no_redirected}
use Rattle.law_unused_labels.proofs.Seen.{every_contained}
use Rattle.law_told_worlds.specs.Before.{end_at, IsWiringAt, WasOwn, IsBindable, OfPeer}
use Rattle.law_told_worlds.proofs.Wired.{binds_wired}
use Rattle.law_told_worlds.proofs.Octets.{same_octets, op_same, sender_same, sender_fits, IsRedirectMessage, redirect_is, redirect_same, SameRedirect}
use Rattle.law_told_worlds.proofs.Ways.{OnWay, in_down, on_way, way_on}
use Rattle.law_told_worlds.proofs.Behind.{event_terms, HasActed, EndSo, still, acted, CellSo, was, sent, IsBehind}
use Rattle.law_told_worlds.proofs.Events.{then_behind}
use Rattle.law_told_worlds.proofs.Known.{IsKnown, known_way, said_before, get_front, get_last, last_among, none_among}

-- *An RSTACK's code* tells it apart
own_code : ℕ → Bool
own_code k = not (k == 2)

code_tells : (m : Message) → tells_its_own m ≡ own_code (op_code m)
unfolding own_code
code_tells (Adjacency hello) = kind hello.kind
  where
    kind : (k : HelloKind) → not (is_rstack k) ≡ own_code (hello_code k)
    kind Syn = refl
    kind Synack = refl
    kind Rstack = refl
    kind Ack = refl
code_tells (Redirect sender peer number lifetime channel flow) = refl
code_tells (Reclaim sender peer number channel flow) = refl
code_tells (ReclaimAck sender peer number channel flow) = refl
code_tells (LabelRange sender peer number least greatest) = refl
code_tells (Error sender peer number code channel) = refl

-- *A message of a frame*, and what is read in it
module _ (marks : MarksAreRead) (frames : List Frame) (made : AreMade frames) where
  read_as : (address : Addr) (m : Message) (mark : Mark) (heard : Message) → payload_of frames mark ≡ Some (payload_by address m) → ifmp_under frames mark ≡ Some heard → octets_of m ≡ octets_of heard
  read_as address m mark heard is says =
      let told : HasTold frames mark heard = marks.ifmp frames mark heard made says in
      same_octets address told.item.source m heard (some_same (payload_by address m) (payload_by told.item.source heard) (sym is ∙ (told.made ∙ ap (λ (p : List ℕ). Some p) (told.told.filled ∙ ap (payload_by told.item.source) told.is))))

label_fits : (label : ℕ) → is_label_number label ≡ true → ((label_channel_of label).vpi < 2 ^ 8) × ((label_channel_of label).vci < 2 ^ 16)
label_fits label e = by (label_channel_of label).vpi (label_channel_of label).vci e
  where
    by : (p v : ℕ) → (nat_lt p 16 && (nat_le 32 v && nat_lt v 1024)) ≡ true → (p < 2 ^ 8) × (v < 2 ^ 16)
    by p v t = (low p v t, high p v t)
      where
        low : (p v : ℕ) → (nat_lt p 16 && (nat_le 32 v && nat_lt v 1024)) ≡ true → p < 2 ^ 8
        low p v t = grind (arith, nat_tests, t)

        high : (p v : ℕ) → (nat_lt p 16 && (nat_le 32 v && nat_lt v 1024)) ≡ true → v < 2 ^ 16
        high p v t = grind (arith, nat_tests, t)

module _ (law : Always SpareIsUnused) (nodes : RunsHaveNodes) (fronts : RunsHaveFronts) (steps : EventsAreSteps) (wholes : PastsAreWhole) (stay : PastsStay) (extend : FramesStay) (kept_made : Keeps HasAllMade)
    (read : FramesAreRead) (marks : MarksAreRead) (chains : TameEventsAreTrue)
    (policy : Policy) (topology : Topology) (before : List Event) (event : Event) (coming : Comes policy topology before event) (world : IsWorld (past_of policy topology before)) where
  abbrev past : Past
  past = past_of policy topology before

  abbrev next_past : Past
  next_past = behind policy topology before event

  abbrev w : World
  w = past.now

  abbrev afterwards : World
  afterwards = next_past.now

  is_topology : IsTopology topology
  is_topology = coming.run.topology_is

  so : IsBehind past afterwards
  so = then_behind nodes fronts steps read chains policy topology before event coming world

  stays : Stays past next_past
  stays = stay policy topology before event

  made_then : AreMade afterwards.notes.frames
  made_then = kept_made policy topology before event coming world

  extends : Extends w.notes.frames afterwards.notes.frames
  extends = extend policy topology before event coming world

  -- *Between two ends*
  module _ (from to : LinkEnd) (peer : IsPeer topology from to) (there : peer_of topology from.node from.port ≡ Some to) (known : (c : Cell) → OnWay w from to c → IsKnown w.notes.frames c.mark) where
    port_is : (port : PortNo) (cell : Cell) → cell.header.channel ≡ (default_home port).channel → same_channel cell.header.channel (default_home from.port).channel ≡ true → port ≡ from.port
    port_is port cell on same = ap (λ (n : ℕ). record { 0 = n }) (omega (arith, ap (λ (x : Channel). x.vpi) (sym on ∙ same_is cell.header.channel (default_home from.port).channel same)))

    -- a cell of a message: it was there and said so before, or was said as this message, or of a label that was bound
    pub data IsFrom (cell : Cell) (message : Message) : Type 0 where
      before_it : (d : Cell) → OnWay w from to d → ifmp_under w.notes.frames d.mark ≡ Some message → IsFrom cell message
      as_said : (gsmp : Bool) (h : HasActed past afterwards gsmp from.node) (m : Message) → octets_of m ≡ octets_of message → IsWord (event_terms gsmp past from.node h.site) from.port m → IsFrom cell message
      as_bound : (sender peer : Instance) (number lifetime label : ℕ) (flow : FlowId) → octets_of (Redirect sender peer number lifetime (label_channel_of label) flow) ≡ octets_of message
          → WasOwn past from sender.0 → Contains afterwards.notes.records (Bind from.node from.port label flow) → IsFrom cell message

    sent_from : (gsmp : Bool) (h : HasActed past afterwards gsmp from.node) (cell : Cell) (message : Message) → IsSent (event_terms gsmp past from.node h.site) afterwards.notes.records afterwards.notes.frames afterwards.numbers.controls cell
        → same_channel cell.header.channel (default_home from.port).channel ≡ true → ifmp_under afterwards.notes.frames cell.mark ≡ Some message → IsFrom cell message
    sent_from gsmp h cell message (waited has) on says = before_it cell (in_down (here gsmp has) on) (said_before w.notes.frames afterwards.notes.frames extends cell.mark cell.mark refl (known cell (in_down (here gsmp has) on)) message says)
      where
        here : (b : Bool) → (event_terms b past from.node h.site).waited cell → Contains (queue_at w (Down from.node)) cell
        here true x = x
        here false x = x
    sent_from gsmp h cell message (of_packet some) on says = absurd (cc (sym (marks.no_ifmp afterwards.notes.frames cell.mark made_then some) ∙ says))
    sent_from gsmp h cell message (away none) on says = absurd (cc (sym (none from.port (omega (arith, peer.own.0))) ∙ on))
    sent_from gsmp h cell message (said port m frame word) on says = as_said gsmp h m (read_as marks afterwards.notes.frames made_then (event_terms gsmp past from.node h.site).address m cell.mark message frame.made says)
        (subst (λ (p : PortNo). IsWord (event_terms gsmp past from.node h.site) p m) (port_is port cell frame.channel on) word)
    sent_from gsmp h cell message (bound port sender other number lifetime label flow frame told has) on says =
        as_bound sender other number lifetime label flow (read_as marks afterwards.notes.frames made_then (event_terms gsmp past from.node h.site).address (Redirect sender other number lifetime (label_channel_of label) flow) cell.mark message frame.made says)
        (subst (λ (p : PortNo). WasOwn past (end_at from.node p) sender.0) (port_is port cell frame.channel on) (own gsmp told))
        (subst (λ (p : PortNo). Contains afterwards.notes.records (Bind from.node p label flow)) (port_is port cell frame.channel on) (here gsmp has))
      where
        own : (b : Bool) → (event_terms b past from.node h.site).told port sender.0 → WasOwn past (end_at from.node port) sender.0
        own true x = x
        own false x = x

        here : (b : Bool) → Contains afterwards.notes.records (Bind (event_terms b past from.node h.site).node port label flow) → Contains afterwards.notes.records (Bind from.node port label flow)
        here true x = x
        here false x = x

    pub comes_from : (cell : Cell) (message : Message) → Contains (on_default_channel afterwards from to) cell → ifmp_under afterwards.notes.frames cell.mark ≡ Some message → IsFrom cell message
    comes_from cell message has says = by (so.cells from to peer there cell (on_way afterwards from to cell has))
      where
        by : CellSo past afterwards from to cell → IsFrom cell message
        by (was d way mark) = before_it d way (said_before w.notes.frames afterwards.notes.frames extends d.mark cell.mark mark (known d way) message says)
        by (sent gsmp h s on) = sent_from gsmp h cell message s on says

    -- *Instances*
    module _ (old : HasClearedInstances past from to) where
      -- a port that waited and waits no more was cleared in the event
      now_cleared : (instance : ℕ) → WaitsAs instance (side_at w from) → IsClearedAs instance (side_at afterwards from) → WasCleared next_past from instance
      now_cleared instance waits cleared =
          let step = steps policy topology before event in
          let whole = wholes policy topology before in
          record {
            place = length past.events;
            before = past.now;
            is_before = subst (λ (ws : List World). slice_get ws (length past.events) ≡ Some past.now) (sym step.worlds) (get_front past.worlds (next_past.now ∷ []) (length past.events) past.now whole.last);
            after = next_past.now;
            is_after = subst (λ (ws : List World). slice_get ws (suc (length past.events)) ≡ Some next_past.now) (sym step.worlds) (get_last past.worlds next_past.now (suc (length past.events)) whole.worlds);
            waits = waits;
            cleared = cleared;
          }

      own_cleared : (gsmp : Bool) (h : HasActed past afterwards gsmp from.node) (instance : ℕ) → IsClearedAs instance (side_at afterwards from) → (event_terms gsmp past from.node h.site).own from.port instance → WasCleared next_past from instance
      own_cleared true h instance now x = elim x.0 [ inl cleared ↦ stays.cleared from instance cleared | inr waits ↦ now_cleared instance waits now ]
      own_cleared false h instance now x = stays.cleared from instance x.0

      opened_then : (side : Side Peer) → side_at afterwards from ≡ Some side → (side.state ≡ Clearing → ⊥) → WasCleared next_past from side.own.instance.0
      opened_then side e live = by (linked_end afterwards from) refl e
        where
          by : (o : Option Linked) → linked_end afterwards from ≡ o → option_map (λ (x : Linked). x.port.adjacency) o ≡ Some side → WasCleared next_past from side.own.instance.0
          by None is f = absurd (cc f)
          by (Some linked) is f = (let same : linked.port.adjacency ≡ side = some_same linked.port.adjacency side f in
              subst (λ (x : Side Peer). WasCleared next_past from x.own.instance.0) same (by_end linked (so.ends from linked is) (λ g. live (sym (ap (λ (x : Side Peer). x.state) same) ∙ g)) is))
            where
              by_end : (linked : Linked) → EndSo past afterwards from linked → (linked.port.adjacency.state ≡ Clearing → ⊥) → linked_end afterwards from ≡ Some linked → WasCleared next_past from linked.port.adjacency.own.instance.0
              by_end linked (still e) live is = stays.cleared from linked.port.adjacency.own.instance.0 (old.opened linked.port.adjacency (ap (option_map (λ (x : Linked). x.port.adjacency)) e) live)
              by_end linked (acted gsmp h steady port) live is = own_cleared gsmp h linked.port.adjacency.own.instance.0
                  (subst (λ (o : Option Linked). IsClearedAs linked.port.adjacency.own.instance.0 (option_map (λ (x : Linked). x.port.adjacency) o)) (sym is) (live, refl))
                  (subst (λ (p : PortNo). (event_terms gsmp past from.node h.site).own p linked.port.adjacency.own.instance.0) port (steady.0.own live))

      -- a message tells an instance under which its port was cleared
      told_own : (gsmp : Bool) (site : Site) (instance : ℕ) → (event_terms gsmp past from.node site).told from.port instance → WasOwn past from instance
      told_own true site instance x = x
      told_own false site instance x = x

      said_then : (cell : Cell) (message : Message) → Contains (on_default_channel afterwards from to) cell → ifmp_under afterwards.notes.frames cell.mark ≡ Some message → tells_its_own message ≡ true
          → WasCleared next_past from (names_of message).sender.0
      said_then cell message has says tells = by (comes_from cell message has says)
        where
          fits : (names_of message).sender.0 < 2 ^ 32
          fits = (let told : HasTold afterwards.notes.frames cell.mark message = marks.ifmp afterwards.notes.frames cell.mark message made_then says in
              subst (λ (m : Message). (names_of m).sender.0 < 2 ^ 32) told.is (sender_fits told.item.message told.told.fits))

          same : (m : Message) → octets_of m ≡ octets_of message → WasOwn past from (names_of m).sender.0 → WasCleared next_past from (names_of message).sender.0
          same m octets own = stays.cleared from (names_of message).sender.0 (subst (WasCleared past from) (sender_same m message octets own.1 fits) own.0)

          by : IsFrom cell message → WasCleared next_past from (names_of message).sender.0
          by (before_it d way is) = stays.cleared from (names_of message).sender.0 (old.said d message (way_on w from to d way) is tells)
          by (as_said gsmp h m octets word) = same m octets (told_own gsmp h.site (names_of m).sender.0 (word.own (code_tells m ∙ (ap own_code (op_same m message octets) ∙ (sym (code_tells message) ∙ tells)))))
          by (as_bound sender other number lifetime label flow octets own bound_here) = same (Redirect sender other number lifetime (label_channel_of label) flow) octets own

      stored_then : (side : Side Peer) (other : Peer) → side_at afterwards to ≡ Some side → side.stored ≡ Some other → WasCleared next_past from other.instance.0
      stored_then side other e stored = by (linked_end afterwards to) refl e
        where
          known_by : (gsmp : Bool) (site : Site) (instance : ℕ) → (event_terms gsmp past to.node site).known to.port instance → WasCleared past from instance
          known_by true site instance x = x from peer.back
          known_by false site instance x = x from peer.back

          by_end : (linked : Linked) → EndSo past afterwards to linked → linked.port.adjacency.stored ≡ Some other → WasCleared next_past from other.instance.0
          by_end linked (still f) is = stays.cleared from other.instance.0 (old.stored linked.port.adjacency other (ap (option_map (λ (x : Linked). x.port.adjacency)) f) is)
          by_end linked (acted gsmp h steady port) is = stays.cleared from other.instance.0 (known_by gsmp h.site other.instance.0
              (subst (λ (p : PortNo). (event_terms gsmp past to.node h.site).known p other.instance.0) port (steady.0.stored other is)))

          by : (o : Option Linked) → linked_end afterwards to ≡ o → option_map (λ (x : Linked). x.port.adjacency) o ≡ Some side → WasCleared next_past from other.instance.0
          by None is f = absurd (cc f)
          by (Some linked) is f = by_end linked (so.ends to linked is) (ap (λ (x : Side Peer). x.stored) (some_same linked.port.adjacency side f) ∙ stored)

      pub cleared_then : HasClearedInstances next_past from to
      cleared_then = record { opened = opened_then; said = said_then; stored = stored_then }

  -- *Both ways* of a link
  module _ (way : Way) (on : IsWay topology way) where
    abbrev link : LinkLabel
    link = link_of topology way 32

    link_so : IsLinkLabel topology link
    link_so = link_is topology is_topology way on 32 refl

    pub ends_cleared : HasClearedEnds next_past way
    ends_cleared = (
      cleared_then way.down way.up (peer_back topology is_topology way.down way.up on.upstream) on.upstream (known_way past world link link_so Downstream Upstream) (world.cleared way on).0,
      cleared_then way.up way.down (peer_back topology is_topology way.up way.down on.downstream) on.downstream (known_way past world link link_so Upstream Downstream) (world.cleared way on).1,
    )

  -- *Users of a label*
  module _ (link : LinkLabel) (of : IsLinkLabel topology link) where
    abbrev down : LinkEnd
    down = end_of Downstream link

    abbrev up : LinkEnd
    up = end_of Upstream link

    peer_down : IsPeer topology down up
    peer_down = peer_back topology is_topology down up of.way.upstream

    old_users : HasUsersOfLast past link
    old_users = world.users link of

    last_then : last_bound next_past.records down link.label ≡ option_or (last_bound afterwards.notes.records down link.label) (last_bound past.records down link.label)
    last_then = ap (λ (rs : List Record). last_bound rs down link.label) (steps policy topology before event).records ∙ last_more down link.label past.records afterwards.notes.records

    kept_last : last_bound afterwards.notes.records down link.label ≡ None → (flow : FlowId) → last_bound past.records down link.label ≡ Some flow → last_bound next_past.records down link.label ≡ Some flow
    kept_last none flow e = last_then ∙ (ap (λ (o : Option FlowId). option_or o (last_bound past.records down link.label)) none ∙ e)

    wiring : (flow : FlowId) → Contains afterwards.notes.records (Bind down.node down.port link.label flow) → IsWiringAt w down link.label flow
    wiring flow has = binds_wired nodes fronts steps read chains policy topology before event coming world down.node down.port link.label flow has

    proper : IsProper link
    proper = record { above = above; label = of.label }
      where
        above : (role : Role) → 0 < (link.port role).0
        above Downstream = omega (arith, peer_down.own.0)
        above Upstream = omega (arith, peer_down.port.0)

    spare : (flow : FlowId) (wired : IsWiringAt w down link.label flow) → IsSpareOrWired (held wired.session link.label)
    spare flow wired = subst IsSpareOrWired (sym wired.is_held) (subst IsWiredLabel (sym wired.wiring) tt)

    -- where the label is bound nobody had used it
    unbound : (P : Type 0) → ((flow : FlowId) → last_bound afterwards.notes.records down link.label ≡ Some flow → IsWiringAt w down link.label flow → P) → (last_bound afterwards.notes.records down link.label ≡ None → P) → P
    unbound P bound_so none_so = by (last_bound afterwards.notes.records down link.label) refl
      where
        by : (o : Option FlowId) → last_bound afterwards.notes.records down link.label ≡ o → P
        by None e = none_so e
        by (Some flow) e = bound_so flow e (wiring flow (last_among down link.label afterwards.notes.records flow e))

    not_granted : (flow : FlowId) → IsWiringAt w down link.label flow → (grant : Grant) → Contains (grants_at w up) grant → grant.label ≡ link.label → ⊥
    not_granted flow wired grant has same = no_grant law past world link of proper wired.session wired.is_open (spare flow wired) grant has same

    not_redirected : (bound_flow : FlowId) → IsWiringAt w down link.label bound_flow → (cell : Cell) (sender other : Instance) (number lifetime : ℕ) (flow : FlowId)
        → ifmp_under w.notes.frames cell.mark ≡ Some (Redirect sender other number lifetime (label_channel_of link.label) flow) → OnWay w down up cell → ⊥
    not_redirected bound_flow wired cell sender other number lifetime flow says way =
        no_redirected law past world link of proper wired.session wired.is_open (spare bound_flow wired) cell sender other number lifetime flow says (way_on w down up cell way)

    -- *Grants*
    at_grants : (linked : Linked) (grant : Grant) → EndSo past afterwards up linked → Contains linked.port.grants grant → grant.label ≡ link.label → last_bound next_past.records down link.label ≡ Some grant.flow
    at_grants linked grant (still e) has same = (let there : Contains (grants_at w up) grant = subst (λ (o : Option Linked). Contains (option_map_or (λ (x : Linked). x.port.grants) o []) grant) (sym e) has in
        unbound (last_bound next_past.records down link.label ≡ Some grant.flow) (λ flow is wired. absurd (not_granted flow wired grant there same)) (λ none. kept_last none grant.flow (old_users.grants grant there same)))
    at_grants linked grant (acted gsmp h steady port) has same =
        unbound (last_bound next_past.records down link.label ≡ Some grant.flow)
        (λ flow is wired. absurd (elsewhere gsmp h flow (every_contained (IsNoted (event_terms gsmp past up.node h.site)) afterwards.notes.records (Bind down.node down.port link.label flow) h.noted (last_among down link.label afterwards.notes.records flow is))))
        (λ none. kept_last none grant.flow (subst (λ (n : ℕ). last_bound past.records down n ≡ Some grant.flow) same (granted_by gsmp h.site (every_contained (IsGranted (event_terms gsmp past up.node h.site) linked.setup.port) linked.port.grants grant steady.0.grants has) port)))
      where
        elsewhere : (b : Bool) (k : HasActed past afterwards b up.node) (flow : FlowId) → IsNoted (event_terms b past up.node k.site) (Bind down.node down.port link.label flow) → ⊥
        elsewhere true k flow x = peer_down.apart (sym (ap (λ (n : NodeId). n.0) x.0))
        elsewhere false k flow x = x.1

        granted_by : (b : Bool) (site : Site) → (event_terms b past up.node site).granted linked.setup.port grant.label grant.flow → linked.setup.port ≡ up.port → last_bound past.records down grant.label ≡ Some grant.flow
        granted_by true site x port = subst (λ (p : PortNo). OfPeer past (end_at up.node p) (λ far. last_bound past.records far grant.label ≡ Some grant.flow)) port x down of.way.downstream
        granted_by false site x port = subst (λ (p : PortNo). OfPeer past (end_at up.node p) (λ far. last_bound past.records far grant.label ≡ Some grant.flow)) port x down of.way.downstream

    grants_then : (grant : Grant) → Contains (grants_at afterwards up) grant → grant.label ≡ link.label → last_bound next_past.records down link.label ≡ Some grant.flow
    grants_then grant has same = by (linked_end afterwards up) refl has
      where
        by : (o : Option Linked) → linked_end afterwards up ≡ o → Contains (option_map_or (λ (x : Linked). x.port.grants) o []) grant → last_bound next_past.records down link.label ≡ Some grant.flow
        by None e h = absurd (omega (arith, h.1))
        by (Some linked) e h = at_grants linked grant (so.ends up linked e) h same

    -- *REDIRECTs*
    module _ (cell : Cell) (sender other : Instance) (number lifetime : ℕ) (flow : FlowId) (says : ifmp_under afterwards.notes.frames cell.mark ≡ Some (Redirect sender other number lifetime (label_channel_of link.label) flow)) where
      abbrev message : Message
      message = Redirect sender other number lifetime (label_channel_of link.label) flow

      told : HasTold afterwards.notes.frames cell.mark message
      told = marks.ifmp afterwards.notes.frames cell.mark message made_then says

      fits : FitsMessage message
      fits = subst FitsMessage told.is told.told.fits

      in_range : InRange message
      in_range = subst InRange told.is told.told.in_range

      same_redirect : (s p : Instance) (n l label : ℕ) (sent_flow : FlowId) → octets_of (Redirect s p n l (label_channel_of label) sent_flow) ≡ octets_of message → IsBindable label sent_flow → (label ≡ link.label) × (sent_flow ≡ flow)
      same_redirect s p n l label sent_flow octets ok =
          let r : SameRedirect (label_channel_of label) (label_channel_of link.label) sent_flow flow =
          redirect_same read told.item.source s p n l (label_channel_of label) sent_flow sender other number lifetime (label_channel_of link.label) flow told.told.source octets
          (label_fits label ok.number_is).0 (label_fits label ok.number_is).1 ok.fits ok.is_flow fits in_range in
          (sym (number_of_channel-label_channel_of label) ∙ (ap number_of_channel r.channel_is ∙ number_of_channel-label_channel_of link.label), r.flow_is)

      by_message : (gsmp : Bool) (h : HasActed past afterwards gsmp down.node) (m : Message) → octets_of m ≡ octets_of message → IsRedirectMessage m → IsWord (event_terms gsmp past down.node h.site) down.port m → last_bound next_past.records down link.label ≡ Some flow
      by_message gsmp h (Redirect s p n l channel sent_flow) octets is word = offered_so gsmp h word.held
        where
          offered_so : (b : Bool) (k : HasActed past afterwards b down.node) → IsRedirected (event_terms b past down.node k.site) down.port channel sent_flow → last_bound next_past.records down link.label ≡ Some flow
          offered_so true k held_so = absurd held_so.offered
          offered_so false k held_so =
              let same : (held_so.number ≡ link.label) × (sent_flow ≡ flow) = same_redirect s p n l held_so.number sent_flow (sym (ap (λ (x : Channel). octets_of (Redirect s p n l x sent_flow)) held_so.is) ∙ octets) held_so.offered.1 in
              unbound (last_bound next_past.records down link.label ≡ Some flow)
              (λ f e wired. absurd ((every_contained (IsNoted (event_terms false past down.node k.site)) afterwards.notes.records (Bind down.node down.port link.label f) k.noted (last_among down link.label afterwards.notes.records f e)).1))
              (λ none. kept_last none flow (subst (λ (f : FlowId). last_bound past.records down link.label ≡ Some f) same.1 (subst (λ (x : ℕ). last_bound past.records down x ≡ Some sent_flow) same.0 held_so.offered.0)))
      by_message gsmp h (Adjacency hello) octets is word = absurd is
      by_message gsmp h (Reclaim s p n channel sent_flow) octets is word = absurd is
      by_message gsmp h (ReclaimAck s p n channel sent_flow) octets is word = absurd is
      by_message gsmp h (LabelRange s p n least greatest) octets is word = absurd is
      by_message gsmp h (Error s p n code channel) octets is word = absurd is

      -- two wirings of a label are for one flow
      one_flow : (f g : FlowId) → IsWiringAt w down link.label f → IsWiringAt w down link.label g → f ≡ g
      one_flow f g a b =
          let session : a.session ≡ b.session = some_same a.session b.session (sym a.is_open ∙ b.is_open) in
          let label : a.label ≡ b.label = some_same a.label b.label (sym a.is_held ∙ (ap (λ (s : Session). held s link.label) session ∙ b.is_held)) in
          sym a.flow_is ∙ (ap (λ (x : Label). x.flow) label ∙ b.flow_is)

      from_bound : Contains afterwards.notes.records (Bind down.node down.port link.label flow) → last_bound next_past.records down link.label ≡ Some flow
      from_bound has = unbound (last_bound next_past.records down link.label ≡ Some flow)
          (λ f e wired. last_then ∙ (ap (λ (o : Option FlowId). option_or o (last_bound past.records down link.label)) e ∙ ap (λ (x : FlowId). Some x) (one_flow f flow wired (wiring flow has))))
          (λ none. absurd (none_among down link.label afterwards.notes.records flow none has))

      redirect_then : Contains (on_default_channel afterwards down up) cell → last_bound next_past.records down link.label ≡ Some flow
      redirect_then has = by (comes_from down up peer_down of.way.upstream (known_way past world link of Downstream Upstream) cell message has says)
        where
          by : IsFrom down up peer_down of.way.upstream (known_way past world link of Downstream Upstream) cell message → last_bound next_past.records down link.label ≡ Some flow
          by (before_it d way is) = unbound (last_bound next_past.records down link.label ≡ Some flow)
              (λ f e wired. absurd (not_redirected f wired d sender other number lifetime flow is way))
              (λ none. kept_last none flow (old_users.redirects d sender other number lifetime flow (way_on w down up d way) is))
          by (as_said gsmp h m octets word) = by_message gsmp h m octets (redirect_is m (op_same m message octets)) word
          by (as_bound s p n l label sent_flow octets own has_bound) =
              let ok : IsBindable label sent_flow = (binds_wired nodes fronts steps read chains policy topology before event coming world down.node down.port label sent_flow has_bound).bindable in
              let same : (label ≡ link.label) × (sent_flow ≡ flow) = same_redirect s p n l label sent_flow octets ok in
              from_bound (subst (λ (f : FlowId). Contains afterwards.notes.records (Bind down.node down.port link.label f)) same.1 (subst (λ (x : ℕ). Contains afterwards.notes.records (Bind down.node down.port x sent_flow)) same.0 has_bound))

    pub users_then : HasUsersOfLast next_past link
    users_then = record {
      grants = grants_then;
      redirects = λ cell sender other number lifetime flow has says. redirect_then cell sender other number lifetime flow says has;
    }

module _ (law : Always SpareIsUnused) (nodes : RunsHaveNodes) (fronts : RunsHaveFronts) (steps : EventsAreSteps) (wholes : PastsAreWhole) (stay : PastsStay) (extend : FramesStay) (kept_made : Keeps HasAllMade)
    (read : FramesAreRead) (marks : MarksAreRead) (chains : TameEventsAreTrue) where
  pub cleared_are_kept : Keeps HasAllCleared
  cleared_are_kept policy topology before event coming world way on = ends_cleared law nodes fronts steps wholes stay extend kept_made read marks chains policy topology before event coming world way on

  pub users_are_kept : Keeps HasAllUsers
  users_are_kept policy topology before event coming world link of = users_then law nodes fronts steps wholes stay extend kept_made read marks chains policy topology before event coming world link of
