-- what a controller sends, and what it does with a packet at its node

use Rattle.std.proofs.Common.{◌≡◌, ℕ, ◌<◌, ◌+◌, ◌==◌, ◌&&◌, Bool, true, false, List, length, Option, None, Some, refl, sym, ◌∙◌, ap, subst, arith, if◌then◌else◌}
use Rattle.std.specs.Prelude.{nat_lt, nat_le}
use Rattle.std.specs.Option.{option_and_then}
use Rattle.std.proofs.lemmas.Bool.Decides.{nat_tests}
use Rattle.law_arrival_views.specs.world_model.Words.{NodeId, PortNo, Place, Down, Channel, Mark, next_control, with_control, label_channel_of, is_label_number, destination_of, best, hop_of, onward, Via, Hop, Here, On, Cell, FlowId, kind_of, flow_of, default_payload, labelled_payload, Carries, Delivered, Dropped, Loss, PoolFull, Frame, payload_of, noted, made, next_mark, frame_cells, control_end, Grant, grant_matching, Controller, Linked, linked_at, port_key, default_channel, default_home, sends_control, says_gsmp, says_ifmp, is_control, sends_next, goes_by, grant_by, forwards_packet, is_linked, Reaches, hops, HasReached, delivered, without_route, expired, Past, last_bound, WasAccepted}
use Rattle.law_arrival_views.proofs.world_model.net_types.Labels.{number_of_channel-label_channel_of}
use Rattle.law_arrival_views.specs.world_model.ipv4_forward.declared.table.Route.{Route}
use Rattle.law_arrival_views.specs.world_model.ipv4_forward.declared.outcome.Hop.TheVariants.{NoRoute, Expired}
use Rattle.law_arrival_views.specs.ordered_lists.Ordered.{Every}
use Rattle.law_arrival_views.specs.world_model.gsmp_wire.Layout.{octets_of as gsmp_octets}
use Rattle.law_arrival_views.specs.world_model.gsmp_wire.declared.message.Message.{Message as GsmpMessage}
use Rattle.law_arrival_views.specs.world_model.ifmp_wire.declared.message.Message.{Message as IfmpMessage}
use Rattle.law_arrival_views.specs.world_model.link_model.declared.record.DropCause.TheVariants as drop_causes
use Rattle.law_arrival_views.specs.world_model.frame_model.Sending.{Sender}
use Rattle.law_arrival_views.proofs.law_port_facts.Keyed.{at_key, at_every, on_each}
use Rattle.law_arrival_views.specs.world_model.Controller.{Acted, free_slots}
use Rattle.law_arrival_views.specs.world_model.Sending.{with_cells, sends}
use Rattle.law_arrival_views.specs.world_model.Packets.{forwarded}
use Rattle.law_arrival_views.specs.law_controller_views.Lifted.{payload_by}
use Rattle.law_arrival_views.specs.world_model.network_model.declared.link.LinkEnd.{LinkEnd}
use Rattle.law_arrival_views.specs.world_model.Topology.{peer_of}
use Rattle.law_arrival_views.specs.world_model.Reached.{sent_here}
use Rattle.law_run_facts.specs.law_world_views.Marks.{Heading, heading_at, HasCome, IsNewest, Means, control, local, plain, labelled}
use Rattle.law_arrival_views.proofs.law_controller_facts.Onward.{octets_onward, packet_of}
use Rattle.law_packet_worlds.proofs.Hops as laws
use Rattle.law_packet_worlds.proofs.Ledger.{payload_new}
use Rattle.law_packet_worlds.proofs.Cut.{one}
use Rattle.law_packet_worlds.proofs.Meant.{in_frames, IsProper, default_proper, still_come}
use Rattle.law_packet_worlds.proofs.Good.{Turn, Now, IsTurn, IsGood, nothing, good_noted}
use Rattle.law_packet_worlds.proofs.Frames.{IsNewFrame, good_put, good_full, good_controls, new_control, own_control, new_next}
use Rattle.law_packet_worlds.proofs.Headings.{leads_down, IsLabel, label_is, no_default, matching_flow}
use Rattle.law_arrival_views.proofs.Routes.{matching_every}

abbrev pub now_of : Acted → Now
now_of a = record { cells = a.controller.queue; notes = a.notes; controls = a.numbers.controls }

one_far : (a b : LinkEnd) (o : Option LinkEnd) → o ≡ Some a → o ≡ Some b → a ≡ b
one_far a b o e f = let both : Some a ≡ Some b = sym e ∙ f in cc

-- a packet that has come was accepted
pub was_sent : (past : Past) (k : ℕ) (node : NodeId) (packet : List ℕ) (time : ℕ) → Reaches past.topology past.history k node packet time → WasAccepted past k
was_sent past k node packet time (sent_here place s is accepted) = record { place = place; numbered = refl; sent = s; is_sent = is; accepted = accepted }
was_sent past k node packet time (hops j from before earlier later port far reached le lives routed linked) = was_sent past j from before earlier reached

-- what is known of a controller that is to forward a packet: the table that it holds, and its grants, whose flows are
-- those that their labels were bound to last
abbrev pub IsGrantOf : Turn → LinkEnd → Grant → Type 0
IsGrantOf t far grant = (is_label_number grant.label ≡ true) × (last_bound t.base.records far grant.label ≡ Some grant.flow)

abbrev pub HasGrants : Turn → NodeId → Linked → Type 0
HasGrants t node linked = (far : LinkEnd) → peer_of t.base.topology node linked.setup.port ≡ Some far → Every (IsGrantOf t far) linked.port.grants

pub record IsReady (t : Turn) (a : Acted) : Type 0 where
  pub place : t.place ≡ Down a.controller.node
  pub held : t.base.history.held a.controller.node t.time ≡ a.controller.table
  pub linked : (packet : List ℕ) (port : PortNo) → best a.controller.table (destination_of packet) ≡ Some (Via port)
      → (far : LinkEnd) × (peer_of t.base.topology a.controller.node port ≡ Some far) × (is_linked t.base.topology far.node far.port ≡ true)
  pub granted : Every (HasGrants t a.controller.node) a.controller.ports

granted_is : (t : Turn) (a : Acted) (packet : List ℕ) (port : PortNo) (grant : Grant) (far : LinkEnd) → IsReady t a → grant_by a.controller port packet ≡ Some grant
    → peer_of t.base.topology a.controller.node port ≡ Some far → IsGrantOf t far grant
granted_is t a packet port grant far ready is led = by (linked_at a.controller port) refl is
  where
    by : (o : Option Linked) → linked_at a.controller port ≡ o → option_and_then (λ linked. grant_matching linked.port.grants packet) o ≡ Some grant → IsGrantOf t far grant
    by None found f = absurd (cc f)
    by (Some linked) found f =
        let key : linked.setup.port.0 ≡ port.0 = at_key port_key port.0 a.controller.ports linked found in
        let same : linked.setup.port ≡ port = ap (λ (n : ℕ). let p : PortNo = record { 0 = n } in p) key in
        matching_every (IsGrantOf t far) linked.port.grants packet grant
        (at_every port_key (HasGrants t a.controller.node) port.0 a.controller.ports linked ready.granted found far (ap (λ (p : PortNo). peer_of t.base.topology a.controller.node p) same ∙ led)) f

module _ (t : Turn) where
  -- *A frame is sent*
  pub good_sends : (hand other : ℕ → ℕ) (a : Acted) (channel : Channel) (mark : Mark) (payload : List ℕ) → IsNewFrame t (now_of a) channel mark payload
      → ((k : ℕ) → 0 < k → hand k ≡ one mark.packet k + other k) → IsGood t hand (now_of a) → IsGood t other (now_of (sends a channel mark payload))
  good_sends hand other a channel mark payload new own good =
      let cells : List Cell = frame_cells channel mark payload in
      on_each (λ (s : Sender Controller). IsGood t other (record { cells = s.queues.queue; notes = s.notes; controls = a.numbers.controls })) (nat_le (length cells) (free_slots a.controller))
      (record { queues = with_cells a.controller cells; notes = made a.notes mark payload })
      (record { queues = a.controller; notes = noted (made a.notes mark payload) (Loss mark PoolFull) })
      (λ room. good_put t hand other (now_of a) channel mark payload new own good)
      (λ full. good_full t hand other (now_of a) channel mark payload new own good)

  -- *A control message*
  good_control : (hand : ℕ → ℕ) (a : Acted) (channel : Channel) (payload : List ℕ)
      → Means (in_frames t.base (made a.notes (next_control a.numbers) payload).frames) (heading_at t.base.topology t.place channel) true (next_control a.numbers)
      → IsProper t.base.topology (heading_at t.base.topology t.place channel)
      → IsGood t hand (now_of a) → IsGood t hand (now_of (sends_control a channel payload))
  good_control hand a channel payload m proper good =
      let given : Acted = record a { numbers = with_control a.numbers } in
      good_sends hand hand given channel (next_control a.numbers) payload (new_control t hand (now_of a) channel payload good m proper)
      (own_control t (next_control a.numbers) hand refl) (good_controls t hand (now_of a) good)

  module _ (node : NodeId) (here : t.place ≡ Down node) where
    -- to the switch
    pub good_told : peer_of t.base.topology node (record { 0 = 0 }) ≡ None → (hand : ℕ → ℕ) (a : Acted) (message : GsmpMessage) → IsGood t hand (now_of a) → IsGood t hand (now_of (says_gsmp a message))
    good_told apart hand a message good =
        let payload : List ℕ = gsmp_octets message in
        let now : Past = in_frames t.base (made a.notes (next_control a.numbers) payload).frames in
        let own : Means now (heading_at t.base.topology (Down node) default_channel) true (next_control a.numbers) = local refl apart refl in
        good_control hand a default_channel payload (subst (λ (p : Place). Means now (heading_at t.base.topology p default_channel) true (next_control a.numbers)) (sym here) own)
        (subst (λ (p : Place). IsProper t.base.topology (heading_at t.base.topology p default_channel)) (sym here) (default_proper t.base.topology (heading_at t.base.topology (Down node) default_channel) refl)) good

    -- to the other end of a link
    pub good_said : (hand : ℕ → ℕ) (port : PortNo) (a : Acted) (message : IfmpMessage) → IsGood t hand (now_of a) → IsGood t hand (now_of (says_ifmp port a message))
    good_said hand port a message good =
        let payload : List ℕ = payload_by a.controller.address message in
        let mark : Mark = next_control a.numbers in
        let frame : Frame = record { mark = mark; payload = payload } in
        let now : Past = in_frames t.base (made a.notes mark payload).frames in
        let to : Heading = record { end = peer_of t.base.topology node port; channel = default_channel } in
        let own : Means now to true mark = control refl refl a.controller.address message (payload_new a.notes.frames frame) in
        let there : Means now (heading_at t.base.topology (Down node) (default_home port).channel) true mark =
        subst (λ (h : Heading). Means now h true mark) (sym (leads_down t.base.topology node port default_channel (omega arith))) own in
        good_control hand a (default_home port).channel payload (subst (λ (p : Place). Means now (heading_at t.base.topology p (default_home port).channel) true mark) (sym here) there)
        (subst (λ (p : Place). IsProper t.base.topology (heading_at t.base.topology p (default_home port).channel)) (sym here)
        (subst (IsProper t.base.topology) (sym (leads_down t.base.topology node port default_channel (omega arith))) (default_proper t.base.topology to refl))) good

  -- *A packet goes on*: its next frame
  plain_mark : (mark : Mark) → 0 < mark.packet → is_control mark ≡ false
  plain_mark mark some = (let other : (mark.packet == 0) ≡ false = grind (arith, nat_tests, some) in ap (λ (b : Bool). b && nat_lt 0 mark.frame) other)

  module _ (turn : IsTurn t) where
    good_next : (a : Acted) (came : Mark) (channel : Channel) (payload : List ℕ) → 0 < came.packet → IsNewest a.notes.frames came
        → (IsNewest (made a.notes (next_mark came) payload).frames (next_mark came) → payload_of (made a.notes (next_mark came) payload).frames (next_mark came) ≡ Some payload
        → Means (in_frames t.base (made a.notes (next_mark came) payload).frames) (heading_at t.base.topology t.place channel) true (next_mark came))
        → IsProper t.base.topology (heading_at t.base.topology t.place channel)
        → IsGood t (one came.packet) (now_of a) → IsGood t nothing (now_of (sends_next a came channel payload))
    good_next a came channel payload some newest m proper good =
        subst (λ (b : Bool). IsGood t nothing (now_of (if b then sends_control a channel payload else sends a channel (next_mark came) payload))) (sym (plain_mark came some))
        (good_sends (one came.packet) nothing a channel (next_mark came) payload (new_next t turn (now_of a) channel came payload some newest good m proper) (λ k more. omega arith) good)

    -- how a packet stands behind a hop
    come_on : (a : Acted) (came : Mark) (packet : List ℕ) (port : PortNo) (far : LinkEnd) → IsReady t a → HasCome (in_frames t.base a.notes.frames) came.packet a.controller.node packet
        → hop_of a.controller.table packet ≡ On port → peer_of t.base.topology a.controller.node port ≡ Some far
        → HasCome (in_frames t.base a.notes.frames) came.packet far.node (onward packet)
    come_on a came packet port far ready come on linked =
        let hop : laws.IsHop a.controller.table packet port = laws.goes_on a.controller.table packet port on in
        record {
          counted = come.counted;
          fit = record { accepted = laws.accepted_onward packet come.fit.accepted; octets = octets_onward packet come.fit.octets };
          time = t.time;
          so_far = omega (arith, turn.timed);
          reached = hops came.packet a.controller.node packet come.time t.time port far come.reached (omega (arith, come.so_far, turn.timed)) hop.lives
              (ap (λ (routes : List Route). best routes (destination_of packet)) ready.held ∙ hop.routed) linked;
        }

    good_goes : (a : Acted) (came : Mark) (packet : List ℕ) (port : PortNo) (far : LinkEnd) (o : Option Grant) → IsReady t a → grant_by a.controller port packet ≡ o
        → peer_of t.base.topology a.controller.node port ≡ Some far → is_linked t.base.topology far.node far.port ≡ true
        → ((flow : FlowId) → flow_of (kind_of flow) packet ≡ Some flow → Carries flow packet (labelled_payload (kind_of flow) packet))
        → HasCome (in_frames t.base a.notes.frames) came.packet far.node packet → IsNewest a.notes.frames came
        → IsGood t (one came.packet) (now_of a) → IsGood t nothing (now_of (goes_by a came port packet o))
    good_goes a came packet port far None ready is linked beyond wraps come newest good =
        let node : NodeId = a.controller.node in
        let payload : List ℕ = default_payload packet in
        let next : Mark = next_mark came in
        let frames : List Frame = (made a.notes next payload).frames in
        let now : Past = in_frames t.base frames in
        good_next a came (default_home port).channel payload come.counted newest
        (λ new is_made. (
        let own : Means now (record { end = peer_of t.base.topology node port; channel = default_channel }) true next =
        plain refl refl far linked packet is_made (still_come t.base a.notes.frames frames came.packet far.node packet come) new in
        subst (λ (p : Place). Means now (heading_at t.base.topology p (default_home port).channel) true next) (sym ready.place)
        (subst (λ (h : Heading). Means now h true next) (sym (leads_down t.base.topology node port default_channel (omega arith))) own)))
        (subst (λ (p : Place). IsProper t.base.topology (heading_at t.base.topology p (default_home port).channel)) (sym ready.place)
        (subst (IsProper t.base.topology) (sym (leads_down t.base.topology node port default_channel (omega arith))) (default_proper t.base.topology (record { end = peer_of t.base.topology node port; channel = default_channel }) refl))) good
    good_goes a came packet port far (Some grant) ready is linked beyond wraps come newest good =
        let node : NodeId = a.controller.node in
        let channel : Channel = label_channel_of grant.label in
        let payload : List ℕ = labelled_payload (kind_of grant.flow) packet in
        let next : Mark = next_mark came in
        let frames : List Frame = (made a.notes next payload).frames in
        let now : Past = in_frames t.base frames in
        let known = granted_is t a packet port grant far ready is linked in
        let there_linked : (end : LinkEnd) → peer_of t.base.topology node port ≡ Some end → is_linked t.base.topology end.node end.port ≡ true = λ end e.
        (let same : far ≡ end = one_far far end (peer_of t.base.topology node port) linked e in subst (λ (f : LinkEnd). is_linked t.base.topology f.node f.port ≡ true) same beyond) in
        let label : IsLabel channel = label_is channel known.0 in
        good_next a came (control_end port grant.label).channel payload come.counted newest
        (λ new is_made. (
        let own : Means now (record { end = peer_of t.base.topology node port; channel = channel }) true next =
        labelled (no_default channel label) far linked grant.flow (ap (λ (n : ℕ). last_bound t.base.records far n) (number_of_channel-label_channel_of grant.label) ∙ known.1) payload packet is_made
        (wraps grant.flow (granted_flow a.controller port packet grant is))
        (still_come t.base a.notes.frames frames came.packet far.node packet come) (λ e. new) in
        subst (λ (p : Place). Means now (heading_at t.base.topology p (control_end port grant.label).channel) true next) (sym ready.place)
        (subst (λ (h : Heading). Means now h true next) (sym (leads_down t.base.topology node port channel label.vpi)) own)))
        (subst (λ (p : Place). IsProper t.base.topology (heading_at t.base.topology p (control_end port grant.label).channel)) (sym ready.place)
        (subst (IsProper t.base.topology) (sym (leads_down t.base.topology node port channel label.vpi)) (λ other. (known.0, there_linked)))) good
      where
        granted_flow : (c : Controller) (port : PortNo) (packet : List ℕ) (g : Grant) → grant_by c port packet ≡ Some g → flow_of (kind_of g.flow) packet ≡ Some g.flow
        granted_flow c port packet g e = by (linked_at c port) e
          where
            by : (o : Option Linked) → option_and_then (λ linked. grant_matching linked.port.grants packet) o ≡ Some g → flow_of (kind_of g.flow) packet ≡ Some g.flow
            by None f = absurd (cc f)
            by (Some linked) f = matching_flow linked.port.grants packet g f

    -- a fate
    reached_by : (a : Acted) (k : ℕ) (packet : List ℕ) → HasCome (in_frames t.base a.notes.frames) k a.controller.node packet
        → HasReached t.base.topology t.base.history k a.controller.node packet t.time
    reached_by a k packet come = record { time = come.time; in_time = omega (arith, come.so_far, turn.timed); reaches = come.reached }

    pub good_forwarded : (a : Acted) (came : Mark) (packet : List ℕ) (hop : Hop) → IsReady t a → hop_of a.controller.table packet ≡ hop
        → HasCome (in_frames t.base a.notes.frames) came.packet a.controller.node packet → IsNewest a.notes.frames came
        → IsGood t (one came.packet) (now_of a) → IsGood t nothing (now_of (forwarded a came packet hop))
    good_forwarded a came packet Here ready is come newest good =
        good_noted t (one came.packet) nothing (now_of a) (Delivered a.controller.node came.packet packet)
        (record {
          was_accepted = was_sent t.base came.packet a.controller.node packet come.time come.reached;
          is_fate = delivered a.controller.node packet (reached_by a came.packet packet come)
              (ap (λ (routes : List Route). best routes (destination_of packet)) ready.held ∙ laws.stays_here a.controller.table packet is);
        }) (λ k some. omega arith) good
    good_forwarded a came packet NoRoute ready is come newest good =
        good_noted t (one came.packet) nothing (now_of a) (Dropped a.controller.node came.packet drop_causes.NoRoute)
        (record {
          was_accepted = was_sent t.base came.packet a.controller.node packet come.time come.reached;
          is_fate = without_route a.controller.node packet (reached_by a came.packet packet come)
              (ap (λ (routes : List Route). best routes (destination_of packet)) ready.held ∙ laws.goes_nowhere a.controller.table packet is);
        }) (λ k some. omega arith) good
    good_forwarded a came packet Expired ready is come newest good =
        let x : laws.Expires a.controller.table packet = laws.expires a.controller.table packet is in
        good_noted t (one came.packet) nothing (now_of a) (Dropped a.controller.node came.packet drop_causes.Expired)
        (record {
          was_accepted = was_sent t.base came.packet a.controller.node packet come.time come.reached;
          is_fate = expired a.controller.node packet x.port (reached_by a came.packet packet come)
              (ap (λ (routes : List Route). best routes (destination_of packet)) ready.held ∙ x.routed) x.ended;
        }) (λ k some. omega arith) good
    good_forwarded a came packet (On port) ready is come newest good =
        let hop : laws.IsHop a.controller.table packet port = laws.goes_on a.controller.table packet port is in
        let to = ready.linked packet port hop.routed in
        let p = packet_of packet (laws.accepted_parts packet come.fit.accepted).0 in
        good_goes a came (onward packet) port to.0 (grant_by a.controller port (onward packet)) ready refl to.1 to.2
        (λ flow of. laws.wraps flow packet p (octets_onward packet come.fit.octets) of)
        (come_on a came packet port to.0 ready come is to.1) newest good

    -- *It stands at the node*
    pub good_routes : (a : Acted) (came : Mark) (packet : List ℕ) → IsReady t a → HasCome (in_frames t.base a.notes.frames) came.packet a.controller.node packet → IsNewest a.notes.frames came
        → IsGood t (one came.packet) (now_of a) → IsGood t nothing (now_of (forwards_packet a came packet))
    good_routes a came packet ready come newest good = good_forwarded a came packet (hop_of a.controller.table packet) ready refl come newest good
