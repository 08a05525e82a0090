-- from the good world that an event leaves: what is so of packets behind it

use Rattle.std.proofs.Common.{◌≡◌, ◌⊎◌, inl, inr, ℕ, zero, suc, ◌+◌, ◌*◌, ◌/◌, ◌%◌, Bool, true, false, List, [], ◌∷◌, length, Option, None, Some, refl, sym, ◌∙◌, ap, subst, arith, count_by}
use Rattle.std.specs.Prelude.{Contains, slice_get, is_some}
use Rattle.law_arrival_views.specs.world_model.Words.{NodeId, PortNo, Place, Down, Up, Out, Channel, Mark, channel_on_control, number_of_channel, label_channel_of, Cell, FlowId, Frame, payload_of, Record, Delivered, Dropped, Bind, Policy, Fate, IsDelivered, IsDropped, is_fate_of, has_loss_of, default_channel, port_on, on_link, same_channel, Topology, is_linked, IsTopology, IsPlace, World, queue_at, tallied, put_away, IsFateAt, Past, past_of, frames_of, bound_by, last_bound, Way, IsWay, User, ByCell, Uses, on_the_link, off_the_link, from_controller, IsUnused, WasAccepted, fates_of, IsTrueFate}
use Rattle.law_arrival_views.specs.ordered_lists.Ordered.{Every}
use Rattle.law_packet_worlds.proofs.Lists.{count_by-append}
use Rattle.law_arrival_views.specs.world_model.network_model.declared.event.Event.{Event}
use Rattle.law_arrival_views.specs.world_model.network_model.declared.link.LinkEnd.{LinkEnd}
use Rattle.law_arrival_views.specs.world_model.Topology.{peer_of}
use Rattle.law_run_facts.specs.law_world_views.Marks.{Heading, heading_at, HasCome, Means, early, control, local, plain, labelled, last_cells}
use Rattle.law_run_facts.specs.law_world_views.Between.{IsWorld}
use Rattle.law_run_facts.specs.law_world_views.Kept.{behind}
use Rattle.law_unused_labels.proofs.law_causes.Shown.{IsPeer, peer_back}
use Rattle.law_run_facts.specs.Steps.{IsPast, IsStep, Stays}
use Rattle.law_run_facts.proofs.Numbers.{some_of}
use Rattle.law_packet_worlds.proofs.Meant.{in_frames, IsProper, MeansAt}
use Rattle.law_packet_worlds.proofs.Good.{IsTrueRecord}
use Rattle.law_packet_worlds.proofs.Headings.{own_is, label_is, channel_is}
use Rattle.law_packet_worlds.proofs.Quietly.{BindsNone}
use Rattle.law_packet_worlds.specs.Channels.{HasChannels}
use Rattle.law_packet_worlds.specs.Law.{HasPackets}
use Rattle.law_packet_worlds.proofs.Bound.{bound_stays, none_binds, none_own, got_split, got_within}
use Rattle.law_packet_worlds.proofs.Turns.{IsOld, IsUnlabelled, Ends}

-- a channel of the control link is that of its port
whole_channel : (channel : Channel) → channel_on_control (port_on channel) (on_link channel) ≡ channel
whole_channel channel = (let vpi : 16 * (channel.vpi / 16) + channel.vpi % 16 ≡ channel.vpi = omega arith in ap (λ (v : ℕ). let c : Channel = record { vpi = v; vci = channel.vci } in c) vpi)

some_end : (topology : Topology) (end : LinkEnd) → is_linked topology end.node end.port ≡ true → (far : LinkEnd) × (peer_of topology end.node end.port ≡ Some far)
some_end topology end e = by (peer_of topology end.node end.port) refl e
  where
    by : (o : Option LinkEnd) → peer_of topology end.node end.port ≡ o → is_some o ≡ true → (far : LinkEnd) × (peer_of topology end.node end.port ≡ Some far)
    by None is f = absurd (cc f)
    by (Some far) is f = (far, is)

-- *A cell on a label uses it*
pub record IsUser (topology : Topology) (w : World) (end : LinkEnd) (label : ℕ) : Type 0 where
  pub way : Way
  pub down : way.down ≡ end
  pub on : IsWay topology way
  pub user : User
  pub uses : Uses w way label user

module _ (topology : Topology) (topology_is : IsTopology topology) (w : World) where
  pub cell_uses : (place : Place) (cell : Cell) → IsPlace topology place → Contains (queue_at w place) cell → (far : LinkEnd) → (heading_at topology place cell.header.channel).end ≡ Some far
      → same_channel (heading_at topology place cell.header.channel).channel default_channel ≡ false → IsProper topology (heading_at topology place cell.header.channel)
      → IsUser topology w far (number_of_channel (heading_at topology place cell.header.channel).channel)
  cell_uses (Down n) cell is there far led other proper =
      let channel : Channel = cell.header.channel in
      let peer : IsPeer topology (record { node = n; port = port_on channel }) far = peer_back topology topology_is (record { node = n; port = port_on channel }) far led in
      let back : label_channel_of (number_of_channel (on_link channel)) ≡ on_link channel = channel_is (on_link channel) (label_is (on_link channel) (proper other).0) in
      record {
        way = record { down = far; up = record { node = n; port = port_on channel } };
        down = refl;
        on = record { downstream = led; upstream = peer.back };
        user = ByCell cell;
        uses = from_controller cell there (sym (ap (channel_on_control (port_on channel)) back ∙ whole_channel channel));
      }
  cell_uses (Up n) cell is there far led other proper =
      let channel : Channel = cell.header.channel in
      let own : record { node = n; port = port_on channel } ≡ far = own_is n (port_on channel) far led in
      let up = some_end topology far ((proper other).1 far led) in
      let peer : IsPeer topology far up.0 = peer_back topology topology_is far up.0 up.1 in
      let back : label_channel_of (number_of_channel (on_link channel)) ≡ on_link channel = channel_is (on_link channel) (label_is (on_link channel) (proper other).0) in
      let at_node : n ≡ far.node = ap (λ (e : LinkEnd). e.node) own in
      let at_port : port_on channel ≡ far.port = ap (λ (e : LinkEnd). e.port) own in
      record {
        way = record { down = far; up = up.0 };
        down = refl;
        on = record { downstream = peer.back; upstream = up.1 };
        user = ByCell cell;
        uses = off_the_link cell (subst (λ (m : NodeId). Contains (queue_at w (Up m)) cell) at_node there)
            (sym (ap (λ (p : PortNo). channel_on_control p (label_channel_of (number_of_channel (on_link channel)))) (sym at_port) ∙ (ap (channel_on_control (port_on channel)) back ∙ whole_channel channel)));
      }
  cell_uses (Out n q) cell is there far led other proper =
      let channel : Channel = cell.header.channel in
      let peer : IsPeer topology (record { node = n; port = q }) far = peer_back topology topology_is (record { node = n; port = q }) far led in
      record {
        way = record { down = far; up = record { node = n; port = q } };
        down = refl;
        on = record { downstream = led; upstream = peer.back };
        user = ByCell cell;
        uses = on_the_link cell there (sym (channel_is channel (label_is channel (proper other).0)));
      }

module _ (policy : Policy) (topology : Topology) (topology_is : IsTopology topology) (before : List Event) (event : Event) (is : IsWorld (past_of policy topology before)) (channels : HasChannels (past_of policy topology before))
    (whole : IsPast (past_of policy topology before)) (steps : IsStep (past_of policy topology before) (behind policy topology before event) event)
    (stay : Stays (past_of policy topology before) (behind policy topology before event))
    (unused : (way : Way) (label : ℕ) (flow : FlowId) → Contains (behind policy topology before event).now.notes.records (Bind way.down.node way.down.port label flow) → IsWay topology way → IsUnused (past_of policy topology before).now way label) where
  abbrev P : Past
  P = past_of policy topology before

  abbrev Q : Past
  Q = behind policy topology before event

  abbrev B : Past
  B = record (behind policy topology before event) { records = (past_of policy topology before).records }

  abbrev w : World
  w = put_away (past_of policy topology before).now

  module _ (v : World) (now_is : Q.now ≡ tallied w v) (ends : Ends B (length before) w v) where
    frames_are : frames_of Q ≡ v.notes.frames
    frames_are = ap (λ (z : World). z.notes.frames) now_is

    records_are : Q.now.notes.records ≡ v.notes.records
    records_are = ap (λ (z : World). z.notes.records) now_is

    -- *No binding of a label that a cell is on* was noted
    still_bound : (place : Place) (cell : Cell) → IsPlace topology place → Contains (queue_at v place) cell → (far : LinkEnd) → (heading_at topology place cell.header.channel).end ≡ Some far
        → same_channel (heading_at topology place cell.header.channel).channel default_channel ≡ false
        → last_bound Q.records far (number_of_channel (heading_at topology place cell.header.channel).channel) ≡ last_bound P.records far (number_of_channel (heading_at topology place cell.header.channel).channel)
    still_bound place cell there c far led other =
        ap (λ (rs : List Record). last_bound rs far label) steps.records ∙ bound_stays P.records Q.now.notes.records far label (by ends.binds)
      where
        label : ℕ
        label = number_of_channel (heading_at topology place cell.header.channel).channel

        was_there : IsOld topology w place cell → Contains (queue_at P.now place) cell
        was_there (inl d) = (let clash : true ≡ false = sym d ∙ other in absurd (cc clash))
        was_there (inr old) = old

        by : BindsNone v.notes.records ⊎ IsUnlabelled topology w v → Every (λ (item : Record). bound_by far label item ≡ None) Q.now.notes.records
        by (inl none) = none_binds Q.now.notes.records far label (subst BindsNone (sym records_are) none)
        by (inr old) =
            let cell_old : IsOld topology w place cell = some_of (IsOld topology w place) (queue_at v place) cell (old place there) c in
            let found : IsUser topology P.now far label = cell_uses topology topology_is P.now place cell there (was_there cell_old) far led other (channels place cell there (was_there cell_old)) in
            none_own Q.now.notes.records far label (λ item flow in_now e. (
            let bind_is : item ≡ Bind found.way.down.node found.way.down.port label flow = e ∙ ap (λ (x : LinkEnd). Bind x.node x.port label flow) (sym found.down) in
            unused found.way label flow (subst (λ (r : Record). Contains Q.now.notes.records r) bind_is in_now) found.on found.user found.uses))

    -- *Meanings*
    come_on : (k : ℕ) (node : NodeId) (packet : List ℕ) → HasCome (in_frames B v.notes.frames) k node packet → HasCome Q k node packet
    come_on k node packet c = record { counted = c.counted; fit = c.fit; time = c.time; so_far = c.so_far; reached = c.reached }

    means_on : (to : Heading) (last : Bool) (mark : Mark)
        → ((far : LinkEnd) → to.end ≡ Some far → same_channel to.channel default_channel ≡ false → last_bound Q.records far (number_of_channel to.channel) ≡ last_bound P.records far (number_of_channel to.channel))
        → Means (in_frames B v.notes.frames) to last mark → Means Q to last mark
    means_on to last mark same (early d e other) = early d e other
    means_on to last mark same (control d z source message made) = control d z source message (ap (λ (fs : List Frame). payload_of fs mark) frames_are ∙ made)
    means_on to last mark same (local d e z) = local d e z
    means_on to last mark same (plain d e far led packet made come newest) =
        plain d e far led packet (ap (λ (fs : List Frame). payload_of fs mark) frames_are ∙ made) (come_on mark.packet far.node packet come)
        (λ k later. ap (λ (fs : List Frame). payload_of fs (record { packet = mark.packet; frame = k })) frames_are ∙ newest k later)
    means_on to last mark same (labelled d far led flow bound payload packet made carried come newest) =
        labelled d far led flow (same far led d ∙ bound) payload packet (ap (λ (fs : List Frame). payload_of fs mark) frames_are ∙ made) carried (come_on mark.packet far.node packet come)
        (λ e k later. ap (λ (fs : List Frame). payload_of fs (record { packet = mark.packet; frame = k })) frames_are ∙ newest e k later)

    cell_at : (place : Place) (cell : Cell) → IsPlace topology place → Contains (queue_at Q.now place) cell → Contains (queue_at v place) cell
    cell_at place cell there c = subst (λ (z : World). Contains (queue_at z place) cell) now_is c

    meaning : (place : Place) (cell : Cell) → IsPlace topology place → Contains (queue_at Q.now place) cell → MeansAt B v.notes.frames place cell
    meaning place cell there c = some_of (MeansAt B v.notes.frames place) (queue_at v place) cell (ends.good.meant place there) (cell_at place cell there c)

    -- *Fates*
    fates_are : (k : ℕ) → fates_of Q k ≡ count_by (is_fate_of k) P.records + count_by (is_fate_of k) v.notes.records
    fates_are k =
        ap (λ (rs : List Record). count_by (is_fate_of k) rs) steps.records
        ∙ (count_by-append (is_fate_of k) P.records Q.now.notes.records ∙ ap (λ (rs : List Record). count_by (is_fate_of k) P.records + count_by (is_fate_of k) rs) records_are)

    cells_are : (k : ℕ) → last_cells Q.now k ≡ last_cells v k
    cells_are k = ap (λ (z : World). last_cells z k) now_is

    sent_is : Q.now.sent ≡ v.sent
    sent_is = ap (λ (z : World). z.sent) now_is

    accepted_in : (k : ℕ) → WasAccepted B k → WasAccepted Q k
    accepted_in k was = record { place = was.place; numbered = was.numbered; sent = was.sent; is_sent = was.is_sent; accepted = was.accepted }

    accepted_out : (k : ℕ) → WasAccepted Q k → WasAccepted B k
    accepted_out k was = record { place = was.place; numbered = was.numbered; sent = was.sent; is_sent = was.is_sent; accepted = was.accepted }

    -- of an earlier event, or of this one
    fate_of : (at : ℕ) (x : World) (item : Record) (number : ℕ) (fate : Fate) → slice_get Q.worlds (suc at) ≡ Some x → Contains x.notes.records item
        → (slice_get P.worlds (suc at) ≡ Some x → IsTrueFate P at number fate) → (Contains v.notes.records item → IsTrueFate B (length before) number fate) → IsTrueFate Q at number fate
    fate_of at x item number fate there c old new = by (got_split P.worlds (Q.now ∷ []) (suc at) x (sym (ap (λ (ws : List World). slice_get ws (suc at)) steps.worlds) ∙ there))
      where
        by : (slice_get P.worlds (suc at) ≡ Some x) ⊎ ((j : ℕ) × (suc at ≡ length P.worlds + j) × (slice_get (Q.now ∷ []) j ≡ Some x)) → IsTrueFate Q at number fate
        by (inl was) = stay.fates at number fate (omega (arith, got_within P.worlds (suc at) x was)) (old was)
        by (inr (zero, here, is_now)) =
            let same : Q.now ≡ x = cc in
            let in_v : Contains v.notes.records item = subst (λ (rs : List Record). Contains rs item) records_are (subst (λ (z : World). Contains z.notes.records item) (sym same) c) in
            let f : IsTrueFate B (length before) number fate = new in_v in
            let time_is : length before ≡ at = omega (arith, here, whole.worlds) in
            record { was_accepted = accepted_in number f.was_accepted; is_fate = subst (λ t. IsFateAt topology Q.history t number fate) time_is f.is_fate }
        by (inr (suc j, here, is_now)) = absurd (cc is_now)

    pub packets_behind : HasPackets Q
    packets_behind = record {
      meanings = λ place cell there c. means_on (heading_at topology place cell.header.channel) cell.header.last cell.mark
          (λ far led other. still_bound place cell there (cell_at place cell there c) far led other) (meaning place cell there c).0;
      packets = record {
        once = λ k some. omega (arith, ends.good.once k some, fates_are k, cells_are k);
        kept = λ k was free. (
            let none : has_loss_of k v.notes.entries ≡ false = sym (ap (λ (z : World). has_loss_of k z.notes.entries) now_is) ∙ free in
            omega (arith, ends.good.kept k (accepted_out k was) none, ends.good.once k (omega (arith, was.numbered)), fates_are k, cells_are k));
        unsent = λ k i above. ap (λ (fs : List Frame). payload_of fs (record { packet = k; frame = i })) frames_are ∙ ends.good.unmade k i (omega (arith, above, sent_is));
        later = λ k above. omega (arith, ends.good.later k (omega (arith, above, sent_is)), cells_are k);
        true_fates = record {
          delivered = λ at x node number packet there c. fate_of at x (Delivered node number packet) number (IsDelivered node packet) there c
              (λ was. is.packets.true_fates.delivered at x node number packet was c)
              (λ in_v. some_of (IsTrueRecord B (length before)) v.notes.records (Delivered node number packet) ends.good.truths in_v);
          dropped = λ at x node number cause there c. fate_of at x (Dropped node number cause) number (IsDropped node cause) there c
              (λ was. is.packets.true_fates.dropped at x node number cause was c)
              (λ in_v. some_of (IsTrueRecord B (length before)) v.notes.records (Dropped node number cause) ends.good.truths in_v);
        };
      };
      channels = λ place cell there c. (meaning place cell there c).1;
    }
