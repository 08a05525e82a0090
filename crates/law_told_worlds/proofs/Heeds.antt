-- what comes to a controller from its switch is what its ports take up

use Rattle.std.proofs.Common.{◌≡◌, ◌≢◌, ℕ, zero, Bool, true, false, List, ◌∷◌, Option, None, Some, Ok, refl, sym, ◌∙◌, ap, subst, arith, inl, inr, if◌then◌else◌}
use Rattle.std.specs.Prelude.{Contains, not, nat_lt, ◌&&◌, ◌==◌, drop}
use Rattle.std.proofs.lemmas.Bool.Decides.{nat_tests}
use Rattle.std.specs.Prelude.{◌*◌, ◌+◌, ◌/◌, ◌%◌}
use Rattle.std.specs.Option.{option_and_then}
use Rattle.std.proofs.lemmas.List.Elements.{Contains-append_left, Contains-append_right}
use Rattle.world_model.specs.Words.{NodeId, PortNo, Up, Channel, Mark, label_number_of, label_channel_of, number_of_channel, is_label_channel, is_label_number, Cell, FlowId, default_unwrapped, protocol_of, Redirect, Reclaim, ReclaimAck, LabelRange, Error, payload_of, is_frame, payload_in, Policy, same_flow, at, is_in_range, Grant, grant_label, grant_on, Linked, linked_at, default_home, ForGsmp, ForDefault, ForLabel, port_on, same_channel, taker_of, reassembly_of, control_protocol, Topology, IsTopology, World, Site, site_at, queue_at, linked_end, ifmp_in, ifmp_of, ifmp_under, chain_at, on_channel, on_default_channel, Past, past_of, last_bound, frames_of, WasCleared, Way}
use Rattle.world_model.specs.ifmp_wire.declared.message.Message.{Message}
use Rattle.world_model.specs.ifmp_wire.declared.message.Message.TheVariants.{Adjacency}
use Rattle.world_model.specs.ifmp_wire.Fields.{decoded}
use Rattle.world_model.specs.frame_model.Frame.{octets_of}
use Rattle.law_frame_readings.proofs.law_port_facts.Keyed.{on_each, at_key, at_every}
use Rattle.law_frame_readings.specs.law_port_facts.Port.{IsPort, IsGrant}
use Rattle.world_model.specs.Controller.{Acted, free_slots}
use Rattle.world_model.specs.Cells.{Taker}
use Rattle.law_frame_readings.proofs.law_controller_facts.Moves.{found_port, found_at_own}
use Rattle.law_run_facts.proofs.law_lifetimes.Events.{taker_belongs}
use Rattle.law_run_facts.proofs.Takers.{default_of}
use Rattle.law_frame_readings.proofs.law_shown_cells.Tested.{last_is}
use Rattle.law_running_worlds.proofs.law_input_steps.SwitchCells.{frame_is}
use Rattle.world_model.specs.network_model.declared.link.LinkEnd.{LinkEnd}
use Rattle.world_model.specs.network_model.declared.event.Event.{Event}
use Rattle.world_model.specs.network_model.declared.event.Event.TheVariants.{Carry}
use Rattle.world_model.specs.Ways.{ok_of}
use Rattle.law_frame_readings.specs.law_port_views.Link.{LinkLabel}
use Rattle.law_frame_readings.specs.law_world_views.Made.{IsFit}
use Rattle.law_frame_readings.specs.law_world_views.Between.{IsWorld, IsLinkLabel}
use Rattle.law_frame_readings.specs.law_world_views.Ready.{setups_of}
use Rattle.law_frame_readings.specs.law_world_views.Shown.{acting}
use Rattle.law_frame_readings.specs.Reading.{FramesAreRead, Holds, sent, told as told_frame}
use Rattle.law_run_facts.specs.Nodes.{IsNodeOfRun}
use Rattle.law_running_worlds.specs.Running.{ChainsAreTrue}
use Rattle.law_running_worlds.proofs.Labels.{of_label, label_read}
use Rattle.law_unused_labels.proofs.Links.{link_of, link_is}
use Rattle.law_unused_labels.proofs.Reading.{filtered_back}
use Rattle.law_port_words.proofs.Hearing.{Agrees}
use Rattle.law_port_words.proofs.Events.{Ends, HoldsPacket, IsHeeded}
use Rattle.law_told_worlds.specs.Before.{end_at, OfPeer, terms}
use Rattle.law_running_worlds.proofs.MadeTame.{IsWhole, whole_chain}
use Rattle.law_told_worlds.proofs.Start.{Peered, peered, to_is, way_to, from_is, way_from, linked_is, started}
use Rattle.law_told_worlds.proofs.Agreed.{redirect_agrees, reclaim_agrees, IsTaken, taken_is}
use Rattle.law_run_facts.proofs.law_controller_bindings.Lasts.{some_same}

first_true : (a b : Bool) → (a && b) ≡ true → a ≡ true
first_true true b e = refl
first_true false b e = absurd (cc e)

-- *The channel of a label's number*
channel_back : (channel : Channel) (label : ℕ) → label_number_of channel ≡ Some label → channel ≡ label_channel_of label
channel_back channel label e = on_each (λ (o : Option ℕ). o ≡ Some label → channel ≡ label_channel_of label) (is_label_channel channel) (Some (number_of_channel channel)) None
    (λ is f. (let same : number_of_channel channel ≡ label = some_same (number_of_channel channel) label f in subst (λ (n : ℕ). channel ≡ label_channel_of n) same (back is))) (λ is f. absurd (cc f)) e
  where
    back : is_label_channel channel ≡ true → channel ≡ label_channel_of (number_of_channel channel)
    back is = λ i. record { vpi = vpi i; vci = vci i }
      where
        vpi : channel.vpi ≡ (channel.vpi * 1024 + channel.vci) / 1024
        vpi = grind (arith, nat_tests, is)

        vci : channel.vci ≡ (channel.vpi * 1024 + channel.vci) % 1024
        vci = grind (arith, nat_tests, is)

module _ (policy : Policy) (topology : Topology) (before : List Event) (is_topology : IsTopology topology) (world : IsWorld (past_of policy topology before))
    (node : NodeId) (site : Site) (found : site_at (past_of policy topology before).now node ≡ Some site) (run : IsNodeOfRun policy (past_of policy topology before) node site)
    (read : FramesAreRead) (chains : ChainsAreTrue (past_of policy topology before).now (Carry (Up node))) (cell : Cell) (cells : List Cell) (queue : queue_at (past_of policy topology before).now (Up node) ≡ cell ∷ cells) where
  abbrev past : Past
  past = past_of policy topology before

  abbrev w : World
  w = past.now

  abbrev a : Acted
  a = started policy topology before is_topology world node site found run

  among : Contains (queue_at w (Up node)) cell
  among = subst (λ (q : List Cell). Contains q cell) (sym queue) (zero, omega arith, refl)

  -- *What it ends* is the frame of its mark
  frame : (taker : Taker) (payload : List ℕ) → Ends a cell taker payload → payload_of w.notes.frames cell.mark ≡ Some payload
  frame taker payload ends =
      let whole : IsWhole (nat_lt 0 (free_slots site.controller)) (reassembly_of site.controller taker) cell (ends.first ∷ ends.cells) =
      whole_chain a.notes (nat_lt 0 (free_slots site.controller)) (reassembly_of site.controller taker) cell ends.first ends.cells ends.ended in
      frame_is w.notes.frames cell.mark payload (subst (λ (m : Mark). is_frame w.notes.frames m payload ≡ true) (last_is (reassembly_of site.controller taker).chain cell)
      (chains.at_controller node site taker cell cells refl queue found ends.taker_is whole.is_ended payload (ap (λ (cs : List Cell). payload_in (octets_of cs)) (sym whole.whole) ∙ ends.passes)))

  sent_on : (taker : Taker) (payload packet : List ℕ) → Ends a cell taker payload → HoldsPacket taker payload packet → (cell.mark.packet ≢ 0) × IsFit packet
  sent_on ForGsmp payload packet ends holds = absurd holds
  sent_on (ForLabel linked held) payload packet ends holds = label_read past node (acting w site) cell.header.channel cell.header.last cell.mark linked held payload run.conduct.bound
      (of_label site.controller cell.header.channel linked held ends.taker_is) (world.meanings (Up node) cell run.is_node.number among) (frame (ForLabel linked held) payload ends) packet holds
  sent_on (ForDefault linked) payload packet ends (unwrapped, other) = by (read.default cell.mark payload packet (world.made cell.mark payload (frame (ForDefault linked) payload ends)) unwrapped)
    where
      by : Holds cell.mark payload packet → (cell.mark.packet ≢ 0) × IsFit packet
      by (sent some fit is) = (some, fit)
      by (told_frame item is same) = absurd (cc (sym (ap (λ (p : List ℕ). protocol_of p == control_protocol) same ∙ (read.heard cell.mark payload item is).control), other))

  -- *A message*
  module _ (linked : Linked) (takes : taker_of site.controller cell.header.channel ≡ Some (ForDefault linked)) where
    at_own : linked_at site.controller linked.setup.port ≡ Some linked
    at_own = found_at_own (setups_of site.controller) (acting w site) linked (port_on cell.header.channel) (taker_belongs site.controller cell.header.channel (ForDefault linked) takes)

    port_is : IsPort (setups_of site.controller) linked.setup linked.port
    port_is = found_port (setups_of site.controller) (acting w site) linked linked.setup.port (record { ports = run.conduct.sound.ports; shaped = run.conduct.sound.requests }) at_own

    far : Peered topology (end_at node linked.setup.port)
    far = peered policy topology before is_topology world node site found run linked at_own port_is

    waits : Contains (on_channel (default_home linked.setup.port).channel (queue_at w (Up node))) cell
    waits = filtered_back (λ c. same_channel c.header.channel (default_home linked.setup.port).channel) (queue_at w (Up node)) cell among (default_of site.controller cell.header.channel linked takes)

    on_way : Contains (on_default_channel w far.far (end_at node linked.setup.port)) cell
    on_way = Contains-append_right (chain_at w (end_at node linked.setup.port)) _ cell (Contains-append_left (on_channel (default_home linked.setup.port).channel (queue_at w (Up node))) _ cell waits)

    abbrev way_of_far : Way
    way_of_far = way_to policy topology before is_topology world node site found run linked at_own port_is

    known_far : (P : LinkEnd → Type 0) → P far.far → OfPeer past (end_at node linked.setup.port) P
    known_far P h x is = subst P (some_same far.far x (sym far.there ∙ is)) h

    -- the link of a label that the port may be granted
    there : linked_end w (end_at node linked.setup.port) ≡ Some linked
    there = linked_is policy topology before is_topology world node site found run linked at_own port_is

    default_so : same_channel cell.header.channel (default_home linked.setup.port).channel ≡ true
    default_so = default_of site.controller cell.header.channel linked takes

    abbrev link : (label : ℕ) → LinkLabel
    link label = link_of topology way_of_far label

    link_so : (label : ℕ) → is_in_range linked.setup label ≡ true → IsLinkLabel topology (link label)
    link_so label in_range = link_is topology is_topology way_of_far (to_is policy topology before is_topology world node site found run linked at_own port_is) label (first_true (is_label_number label) _ in_range)

    granted_range : (label : ℕ) (grant : Grant) → at grant_label label linked.port.grants ≡ Some grant → is_in_range linked.setup label ≡ true
    granted_range label grant has = subst (λ (n : ℕ). is_in_range linked.setup n ≡ true) (at_key grant_label label linked.port.grants grant has)
        (at_every grant_label (IsGrant (setups_of site.controller) linked.setup) label linked.port.grants grant port_is.grants has).in_range

    module _ (wired held offered bindable : PortNo → ℕ → FlowId → Type 0) (payload packet : List ℕ) (message : Message) (ends : Ends a cell (ForDefault linked) payload) (unwrapped : default_unwrapped payload ≡ Ok packet)
        (protocol : (protocol_of packet == control_protocol) ≡ true) (reads : decoded (drop 20 packet) ≡ Ok message) where
      says : ifmp_under (frames_of past) cell.mark ≡ Some message
      says = ap (option_and_then ifmp_of) (frame (ForDefault linked) payload ends) ∙ (ap (λ (r : _). option_and_then ifmp_in (ok_of r)) unwrapped
          ∙ (ap (λ (b : Bool). if b then ok_of (decoded (drop 20 packet)) else None) protocol ∙ ap ok_of reads))

      agrees : (m : Message) → ifmp_under (frames_of past) cell.mark ≡ Some m → Agrees (terms past node site.controller.address wired held offered bindable) linked.setup linked.port m
      unfolding far
      agrees (Redirect sender peer number lifetime channel flow) is = (
        (λ label named in_range. known_far (λ x. last_bound past.records x label ≡ Some flow)
            ((world.users (link label) (link_so label in_range)).redirects cell sender peer number lifetime flow on_way (redirect_of label named))),
        (λ e. untaken (taken_is linked.setup linked.port.grants flow (label_number_of channel) e)),
      )
        where
          redirect_of : (label : ℕ) → label_number_of channel ≡ Some label → ifmp_under (frames_of past) cell.mark ≡ Some (Redirect sender peer number lifetime (label_channel_of label) flow)
          redirect_of label named = is ∙ ap (λ (x : Channel). Some (Redirect sender peer number lifetime x flow)) (channel_back channel label named)

          untaken : IsTaken linked.setup linked.port.grants flow (label_number_of channel) → ⊥
          untaken t = cc (sym t.other ∙ redirect_agrees past world (link t.label) (link_so t.label t.in_range) linked there cell among default_so sender peer number flow t.grant t.found lifetime (redirect_of t.label t.is))
      agrees (Reclaim sender peer number channel flow) is = λ grant e. inl (by (label_number_of channel) refl grant e)
        where
          by : (o : Option ℕ) → label_number_of channel ≡ o → (grant : Grant) → grant_on linked.port.grants o ≡ Some grant → same_flow grant.flow flow ≡ true
          by None named grant e = absurd (cc e)
          by (Some label) named grant e = reclaim_agrees past world (link label) (link_so label (granted_range label grant e)) linked there cell among default_so sender peer number flow grant e
              (is ∙ ap (λ (x : Channel). Some (Reclaim sender peer number x flow)) (channel_back channel label named))
      agrees (Adjacency hello) is = λ other. known_far (λ x. WasCleared past x hello.sender.0)
          ((world.cleared (way_from policy topology before is_topology world node site found run linked at_own port_is) (from_is policy topology before is_topology world node site found run linked at_own port_is)).1.said cell (Adjacency hello) on_way is (ap not other))
      agrees (ReclaimAck sender peer number channel flow) is = tt
      agrees (LabelRange sender peer number least greatest) is = tt
      agrees (Error sender peer number code channel) is = tt

  -- *The whole*
  pub heeded : (wired held offered bindable : PortNo → ℕ → FlowId → Type 0) → IsHeeded (terms past node site.controller.address wired held offered bindable) a cell
  heeded wired held offered bindable = record {
    heard = λ linked payload packet message ends unwrapped protocol reads. agrees linked ends.taker_is wired held offered bindable payload packet message ends unwrapped protocol reads message
        (says linked ends.taker_is wired held offered bindable payload packet message ends unwrapped protocol reads);
    sent_on = sent_on;
    gathers = λ linked takes. inr (waits linked takes);
  }
