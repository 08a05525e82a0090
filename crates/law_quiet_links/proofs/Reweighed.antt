-- the cells of a world weigh no more by what an event leaves: frames that were made stay, and no label that a cell is on was
-- bound anew

use Rattle.std.proofs.Common.{◌≡◌, ◌⊎◌, inl, inr, ℕ, ◌≤◌, Bool, true, false, List, Option, None, Some, refl, sym, ◌∙◌, ap, subst, arith, if◌then◌else◌}
use Rattle.std.specs.Prelude.{Contains, is_some}
use Rattle.std.specs.Option.{option_map_or}
use Rattle.world_model.specs.Words.{NodeId, PortNo, Place, Down, Up, Out, Mark, HelloKind, Syn, Synack, Ack, Rstack, number_of_channel, FlowId, flow_ttl, Cell, Frame, payload_of, default_channel, same_channel, on_link, port_on, Topology, is_linked, IsTopology, IsPlace, IsNode, queue_at, Past, frames_of, last_bound}
use Rattle.world_model.specs.gsmp_wire.declared.message.Message.{Message}
use Rattle.world_model.specs.gsmp_wire.declared.message.Message.TheVariants as messages
use Rattle.world_model.specs.gsmp_wire.declared.fault.Fault.{Fault}
use Rattle.world_model.specs.gsmp_wire.Fields.{decoded}
use Rattle.std.specs.Prelude.{Result, Ok, Err}
use Rattle.world_model.specs.network_model.declared.link.LinkEnd.{LinkEnd}
use Rattle.world_model.specs.Topology.{peer_of}
use Rattle.law_running_worlds.specs.law_shown_cells.Seen.{Extends}
use Rattle.law_running_worlds.specs.law_world_views.Marks.{Heading, own_end, heading_at, Means, early, control, local, plain, labelled}
use Rattle.law_running_worlds.specs.law_world_views.Between.{HasMeanings}
use Rattle.law_ownership.specs.Places.{IsPlaced, of_gsmp, of_link, HasPlaces}
use Rattle.law_quiet_rounds.specs.law_packet_worlds.Channels.{HasChannels}
use Rattle.law_quiet_rounds.proofs.law_packet_worlds.Behind.{IsUser, cell_uses}
use Rattle.law_quiet_rounds.proofs.law_packet_worlds.Meant.{IsProper}
use Rattle.law_quiet_rounds.proofs.law_packet_worlds.Headings.{own_is, own_there}
use Rattle.law_quiet_rounds.proofs.law_packet_worlds.Worlds.{port_above}
use Rattle.law_controller_weights.specs.claims_model.Costs.{greeting_weight, asking_cost, answering_cost, if_said, switch_cost, controller_cost, default_cost, forwarding}
use Rattle.law_controller_weights.specs.claims_model.Weights.{Bearing, ToSwitch, ToController, Plain, Labelled, Bound, bearing_on, bearing_out, bearing_of, hops_at, hops_of, cost_of, cell_weight}

-- *A frame of GSMP* weighs as a SYN at most
kind_less : (kind : HelloKind) → greeting_weight kind ≤ greeting_weight Syn
kind_less Syn = omega arith
kind_less Synack = omega arith
kind_less Ack = omega arith
kind_less Rstack = omega arith

asking_less : (r : Result Message Fault) → if_said asking_cost r ≤ greeting_weight Syn
asking_less (Err fault) = omega arith
asking_less (Ok (messages.Adjacency greeting)) = kind_less greeting.kind
asking_less (Ok (messages.Branch kind result code transaction session input_port input output_port output branches priority)) = omega arith
asking_less (Ok (messages.Move result code transaction session input_port input output_port output target_port target branches priority)) = omega arith
asking_less (Ok (messages.Port result code transaction port session function)) = omega arith
asking_less (Ok (messages.AllPorts result code transaction rows)) = omega arith

answering_less : (r : Result Message Fault) → if_said answering_cost r ≤ greeting_weight Syn
answering_less (Err fault) = omega arith
answering_less (Ok (messages.Adjacency greeting)) = kind_less greeting.kind
answering_less (Ok (messages.Branch kind result code transaction session input_port input output_port output branches priority)) = omega arith
answering_less (Ok (messages.Move result code transaction session input_port input output_port output target_port target branches priority)) = omega arith
answering_less (Ok (messages.Port result code transaction port session function)) = omega arith
answering_less (Ok (messages.AllPorts result code transaction rows)) = omega arith

gsmp_less : (cost : List ℕ → ℕ) → ((payload : List ℕ) → cost payload ≤ greeting_weight Syn) → (o n : Option (List ℕ)) → ((payload : List ℕ) → o ≡ Some payload → n ≡ Some payload)
    → option_map_or cost n (greeting_weight Syn) ≤ option_map_or cost o (greeting_weight Syn)
gsmp_less cost low None None kept = omega arith
gsmp_less cost low None (Some payload) kept = low payload
gsmp_less cost low (Some payload) n kept = (let h = ap (λ (x : Option (List ℕ)). option_map_or cost x (greeting_weight Syn)) (kept payload refl) in omega (arith, h))

module _ (topology : Topology) (topology_is : IsTopology topology) (past : Past) (same : past.topology ≡ topology) (final : List Frame) (bound : Bound) (extends : Extends (frames_of past) final)
    (meanings : HasMeanings past) (places : HasPlaces past) (channels : HasChannels past)
    (kept : (far : LinkEnd) (label : ℕ) → IsUser topology past.now far label → bound far label ≡ last_bound past.records far label) where
  -- a cell of this bearing, last or not, is lighter
  record Lighter (bearing : Bearing) (last : Bool) (mark : Mark) : Type 0 where
    hops : hops_of bound bearing ≤ hops_of (last_bound past.records) bearing
    cost : last ≡ true → cost_of bound (payload_of final mark) bearing ≤ cost_of (last_bound past.records) (payload_of (frames_of past) mark) bearing

  lighter_weight : (place : Place) (cell : Cell) → Lighter (bearing_of topology place cell.header.channel) cell.header.last cell.mark
      → cell_weight topology final bound place cell ≤ cell_weight topology (frames_of past) (last_bound past.records) place cell
  lighter_weight place cell l = (let h = by cell.header.last l.cost in omega (arith, l.hops, h))
    where
      by : (last : Bool) → (last ≡ true → cost_of bound (payload_of final cell.mark) (bearing_of topology place cell.header.channel) ≤ cost_of (last_bound past.records) (payload_of (frames_of past) cell.mark) (bearing_of topology place cell.header.channel))
          → (if last then cost_of bound (payload_of final cell.mark) (bearing_of topology place cell.header.channel) else 0)
          ≤ (if last then cost_of (last_bound past.records) (payload_of (frames_of past) cell.mark) (bearing_of topology place cell.header.channel) else 0)
      by true le = le refl
      by false le = omega arith

  to_switch : (last : Bool) (mark : Mark) → Lighter ToSwitch last mark
  to_switch last mark = record { hops = omega arith; cost = λ t. gsmp_less switch_cost (λ payload. asking_less (decoded payload)) (payload_of (frames_of past) mark) (payload_of final mark) (extends.kept mark) }

  to_controller : (last : Bool) (mark : Mark) → Lighter ToController last mark
  to_controller last mark = record { hops = omega arith; cost = λ t. gsmp_less controller_cost (λ payload. answering_less (decoded payload)) (payload_of (frames_of past) mark) (payload_of final mark) (extends.kept mark) }

  to_nobody : (label : ℕ) (last : Bool) (mark : Mark) → Lighter (Labelled None label) last mark
  to_nobody label last mark = record { hops = omega arith; cost = λ t. omega arith }

  -- *On a default channel* the frame of a last cell was made
  record IsMade (mark : Mark) : Type 0 where
    payload : List ℕ
    made : payload_of (frames_of past) mark ≡ Some payload

  made_of : (to : Heading) (last : Bool) (mark : Mark) → Means past to last mark → same_channel to.channel default_channel ≡ true → last ≡ true → (to.end ≡ None → mark.packet ≡ 0 → ⊥) → IsMade mark
  made_of to last mark (early d e n) on t nobody = absurd (cc (sym e ∙ t))
  made_of to last mark (control d z source message is) on t nobody = record { payload = _; made = is }
  made_of to last mark (local d none z) on t nobody = absurd (nobody none z)
  made_of to last mark (plain d l far led packet is come newest) on t nobody = record { payload = _; made = is }
  made_of to last mark (labelled other far led flow b payload packet is carried come newest) on t nobody = absurd (cc (sym other ∙ on))

  to_plain : (last : Bool) (mark : Mark) → (last ≡ true → IsMade mark) → Lighter Plain last mark
  to_plain last mark made = record {
    hops = omega arith;
    cost = λ t. (let m : IsMade mark = made t in let old = ap (λ (o : Option (List ℕ)). option_map_or default_cost o 0) m.made in
        let new = ap (λ (o : Option (List ℕ)). option_map_or default_cost o 0) (extends.kept mark m.payload m.made) in omega (arith, old, new));
  }

  -- *On a label* nothing changes
  to_label : (far : LinkEnd) (label : ℕ) (last : Bool) (mark : Mark) → bound far label ≡ last_bound past.records far label → Lighter (Labelled (Some far) label) last mark
  to_label far label last mark is = (let hops : hops_at bound (Some far) label ≡ hops_at (last_bound past.records) (Some far) label = ap (λ (o : Option FlowId). option_map_or flow_ttl o 0) is in
      record { hops = omega (arith, hops); cost = λ t. (let f = ap forwarding hops in omega (arith, f)) })

  record IsLed (to : Heading) : Type 0 where
    far : LinkEnd
    led : to.end ≡ Some far

  led_of : (to : Heading) (last : Bool) (mark : Mark) → Means past to last mark → same_channel to.channel default_channel ≡ false → IsLed to
  led_of to last mark (early d e n) other = absurd (cc (sym d ∙ other))
  led_of to last mark (control d z source message is) other = absurd (cc (sym d ∙ other))
  led_of to last mark (local d none z) other = absurd (cc (sym d ∙ other))
  led_of to last mark (plain d l far led packet is come newest) other = absurd (cc (sym d ∙ other))
  led_of to last mark (labelled o far led flow b payload packet is carried come newest) other = record { far = far; led = led }

  module _ (place : Place) (is : IsPlace topology place) (cell : Cell) (there : Contains (queue_at past.now place) cell) where
    is_past : IsPlace past.topology place
    is_past = subst (λ (t : Topology). IsPlace t place) (sym same) is

    means : Means past (heading_at topology place cell.header.channel) cell.header.last cell.mark
    means = subst (λ (t : Topology). Means past (heading_at t place cell.header.channel) cell.header.last cell.mark) same (meanings place cell is_past there)

    user : same_channel (heading_at topology place cell.header.channel).channel default_channel ≡ false → (far : LinkEnd) → (heading_at topology place cell.header.channel).end ≡ Some far
        → IsUser topology past.now far (number_of_channel (heading_at topology place cell.header.channel).channel)
    user other far led = cell_uses topology topology_is past.now place cell is there far led other
        (subst (λ (t : Topology). IsProper t (heading_at t place cell.header.channel)) same (λ o. channels place cell is_past there o))

  -- what is said between a controller and its switch is of a linked port
  peers : (node : NodeId) (port : PortNo) → is_linked topology node port ≡ true → peer_of topology node port ≡ None → ⊥
  peers node port linked none = (let h : false ≡ true = sym (ap is_some none) ∙ linked in absurd (cc h))

  placed : (node : NodeId) (cell : Cell) → IsNode topology node → Contains (queue_at past.now (Down node)) cell ⊎ Contains (queue_at past.now (Up node)) cell → cell.mark.packet ≡ 0
      → same_channel cell.header.channel default_channel ≡ false → is_linked topology node (port_on cell.header.channel) ≡ true
  placed node cell is there nil other = by (places node (subst (λ (t : Topology). IsNode t node) (sym same) is) cell there nil)
    where
      by : IsPlaced past node cell → is_linked topology node (port_on cell.header.channel) ≡ true
      by (of_gsmp on message m) = absurd (cc (sym other ∙ on))
      by (of_link linked) = subst (λ (t : Topology). is_linked t node (port_on cell.header.channel) ≡ true) same linked

  pub cell_less : (place : Place) → IsPlace topology place → (cell : Cell) → Contains (queue_at past.now place) cell
      → cell_weight topology final bound place cell ≤ cell_weight topology (frames_of past) (last_bound past.records) place cell
  cell_less place is cell there = lighter_weight place cell (by place is there)
    where
      by : (place : Place) → IsPlace topology place → Contains (queue_at past.now place) cell → Lighter (bearing_of topology place cell.header.channel) cell.header.last cell.mark
      by (Down n) is there = gsmp (same_channel cell.header.channel default_channel) refl
        where
          link : (b : Bool) → same_channel (on_link cell.header.channel) default_channel ≡ b → same_channel cell.header.channel default_channel ≡ false
              → Lighter (if b then Plain else Labelled (peer_of topology n (port_on cell.header.channel)) (number_of_channel (on_link cell.header.channel))) cell.header.last cell.mark
          link true u t = to_plain cell.header.last cell.mark (λ l. made_of (heading_at topology (Down n) cell.header.channel) cell.header.last cell.mark (means (Down n) is cell there) u l
              (λ none nil. peers n (port_on cell.header.channel) (placed n cell is (inl there) nil t) none))
          link false u t = (let l = led_of (heading_at topology (Down n) cell.header.channel) cell.header.last cell.mark (means (Down n) is cell there) u in
              subst (λ (o : Option LinkEnd). Lighter (Labelled o (number_of_channel (on_link cell.header.channel))) cell.header.last cell.mark) (sym l.led)
              (to_label l.far (number_of_channel (on_link cell.header.channel)) cell.header.last cell.mark (kept l.far (number_of_channel (on_link cell.header.channel)) (user (Down n) is cell there u l.far l.led))))

          gsmp : (b : Bool) → same_channel cell.header.channel default_channel ≡ b
              → Lighter (if b then ToSwitch else bearing_on (on_link cell.header.channel) (peer_of topology n (port_on cell.header.channel))) cell.header.last cell.mark
          gsmp true t = to_switch cell.header.last cell.mark
          gsmp false t = link (same_channel (on_link cell.header.channel) default_channel) refl t
      by (Up n) is there = gsmp (same_channel cell.header.channel default_channel) refl
        where
          zero_port : own_end n (port_on cell.header.channel) ≡ None → is_linked topology n (port_on cell.header.channel) ≡ true → ⊥
          zero_port none linked = (let above = port_above topology topology_is n (port_on cell.header.channel) linked in
              let some = own_there n (port_on cell.header.channel) (omega (arith, above.0)) in absurd (cc (sym some ∙ none)))

          link : (b : Bool) → same_channel (on_link cell.header.channel) default_channel ≡ b → same_channel cell.header.channel default_channel ≡ false
              → Lighter (if b then Plain else Labelled (Some (record { node = n; port = port_on cell.header.channel })) (number_of_channel (on_link cell.header.channel))) cell.header.last cell.mark
          link true u t = to_plain cell.header.last cell.mark (λ l. made_of (heading_at topology (Up n) cell.header.channel) cell.header.last cell.mark (means (Up n) is cell there) u l
              (λ none nil. zero_port none (placed n cell is (inr there) nil t)))
          link false u t = (let l = led_of (heading_at topology (Up n) cell.header.channel) cell.header.last cell.mark (means (Up n) is cell there) u in
              subst (λ (e : LinkEnd). Lighter (Labelled (Some e) (number_of_channel (on_link cell.header.channel))) cell.header.last cell.mark) (sym (own_is n (port_on cell.header.channel) l.far l.led))
              (to_label l.far (number_of_channel (on_link cell.header.channel)) cell.header.last cell.mark (kept l.far (number_of_channel (on_link cell.header.channel)) (user (Up n) is cell there u l.far l.led))))

          gsmp : (b : Bool) → same_channel cell.header.channel default_channel ≡ b
              → Lighter (if b then ToController else bearing_on (on_link cell.header.channel) (Some (record { node = n; port = port_on cell.header.channel }))) cell.header.last cell.mark
          gsmp true t = to_controller cell.header.last cell.mark
          gsmp false t = link (same_channel (on_link cell.header.channel) default_channel) refl t
      by (Out n q) is there = peer (peer_of topology n q) refl
        where
          link : (far : LinkEnd) → peer_of topology n q ≡ Some far → (b : Bool) → same_channel cell.header.channel default_channel ≡ b
              → Lighter (if b then Plain else Labelled (Some far) (number_of_channel cell.header.channel)) cell.header.last cell.mark
          link far led true u = to_plain cell.header.last cell.mark (λ l. made_of (heading_at topology (Out n q) cell.header.channel) cell.header.last cell.mark (means (Out n q) is cell there) u l
              (λ none nil. absurd (cc (sym led ∙ none))))
          link far led false u = to_label far (number_of_channel cell.header.channel) cell.header.last cell.mark (kept far (number_of_channel cell.header.channel) (user (Out n q) is cell there u far led))

          peer : (o : Option LinkEnd) → peer_of topology n q ≡ o → Lighter (bearing_out cell.header.channel o) cell.header.last cell.mark
          peer None e = to_nobody 0 cell.header.last cell.mark
          peer (Some far) e = link far e (same_channel cell.header.channel default_channel) refl

  -- from a port that isn't linked nothing leads on
  pub nobody_less : (n : NodeId) (q : PortNo) → peer_of topology n q ≡ None → (cell : Cell)
      → cell_weight topology final bound (Out n q) cell ≤ cell_weight topology (frames_of past) (last_bound past.records) (Out n q) cell
  nobody_less n q none cell = lighter_weight (Out n q) cell (subst (λ (o : Option LinkEnd). Lighter (bearing_out cell.header.channel o) cell.header.last cell.mark) (sym none) (to_nobody 0 cell.header.last cell.mark))
