-- what a step of a controller costs: so much heavier it is behind it at most, with the cells that it has sent. Cells are weighed
-- by the frames that the event leaves, in which those of each step stand

use Rattle.std.proofs.Common.{◌≡◌, ◌≢◌, ℕ, ◌≤◌, ◌+◌, ◌*◌, Bool, true, false, List, [], ◌∷◌, ◌++◌, length, Option, None, Some, refl, sym, ◌∙◌, ap, subst, arith, if◌then◌else◌, fold}
use Rattle.std.specs.Prelude.{◌==◌, ◌&&◌, ◌%◌, nat_le}
use Rattle.std.proofs.lemmas.Bool.Decides.{nat_tests}
use Rattle.world_model.specs.Words.{NodeId, PortNo, Down, Channel, Mark, GivenOut, next_control, with_control, ifmp_packet_of, Cell, default_payload, Frame, Loss, PoolFull, payload_of, noted, frame_cells, made, Controller, Linked, port_key, linked_at, with_linked, default_channel, default_home, on_link, port_on, sends_control, says_gsmp, says_ifmp, Topology}
use Rattle.world_model.specs.ifmp_wire.declared.message.Message.{Message as IfmpMessage}
use Rattle.world_model.specs.ifmp_wire.Message.{octets_of as ifmp_octets}
use Rattle.world_model.specs.gsmp_wire.declared.message.Message.{Message as GsmpMessage}
use Rattle.world_model.specs.gsmp_wire.Layout.{octets_of as gsmp_octets}
use Rattle.world_model.specs.frame_model.Sending.{Sender}
use Rattle.law_controller_facts.specs.ordered_lists.Ordered.{Every, InOrder}
use Rattle.law_controller_facts.proofs.law_port_facts.Keyed.{put_every, put_order, put_length, at_every, on_both}
use Rattle.world_model.specs.Controller.{Acted, free_slots}
use Rattle.world_model.specs.Sending.{with_cells, sends}
use Rattle.world_model.specs.Topology.{peer_of}
use Rattle.law_shown_cells.specs.Seen.{Extends, IsUnmade}
use Rattle.law_shown_cells.proofs.Made.{extends_self, extends_on, extends_made, made_is, unmade_next}
use Rattle.law_frame_weights.specs.claims_model.Costs.{total_weight, frame_weight, asking_cost, message_cost}
use Rattle.law_frame_weights.specs.claims_model.Weights.{Bearing, ToSwitch, Plain, Bound, bearing_of, bearing_on, hops_of, cost_of, cell_weight, port_weight, changes_left, controller_weight}
use Rattle.law_frame_weights.proofs.law_port_weights.Sums.{total_join, total_put}
pub use Rattle.law_action_weights.specs.Fine.{HaveOwnNumbers, IsOfLink, IsFine}
use Rattle.law_frame_weights.proofs.Frames.{frame_total}
use Rattle.law_frame_weights.proofs.Readings.{switch_reads, ifmp_reads}

-- a port in a node where so many changes wait
abbrev pub linked_weight : ℕ → Linked → ℕ
linked_weight changes linked = port_weight changes linked.port

module _ (topology : Topology) (node : NodeId) (bound : Bound) (final : List Frame) (short : (mark : Mark) (payload : List ℕ) → payload_of final mark ≡ Some payload → length payload ≤ 1528) where
  abbrev pub down : Cell → ℕ
  down cell = cell_weight topology final bound (Down node) cell

  abbrev pub W : Acted → ℕ
  W a = controller_weight a.controller + total_weight down a.controller.queue

  pub record Weighs (count : ℕ) (a b : Acted) : Type 0 where
    pub fine : IsFine a → IsFine b
    pub extends : IsFine a → Extends a.notes.frames b.notes.frames
    pub cost : IsFine a → Extends b.notes.frames final → W b ≤ W a + count

  pub weighs_then : (j k : ℕ) (a b c : Acted) → Weighs j a b → Weighs k b c → Weighs (j + k) a c
  weighs_then j k a b c p q = record {
    fine = λ f. q.fine (p.fine f);
    extends = λ f. extends_on (p.extends f) (q.extends (p.fine f));
    cost = λ f e. (let one = p.cost f (extends_on (q.extends (p.fine f)) e) in let two = q.cost (p.fine f) e in omega (arith, one, two));
  }

  pub more : (j k : ℕ) (a b : Acted) → j ≤ k → Weighs j a b → Weighs k a b
  more j k a b le p = record { fine = p.fine; extends = p.extends; cost = λ f e. (let one = p.cost f e in omega (arith, one, le)) }

  pub none_then : (k : ℕ) (a b c : Acted) → Weighs 0 a b → Weighs k b c → Weighs k a c
  none_then k a b c p q = more (0 + k) k a c (omega arith) (weighs_then 0 k a b c p q)

  pub then_none : (k : ℕ) (a b c : Acted) → Weighs k a b → Weighs 0 b c → Weighs k a c
  then_none k a b c p q = more (k + 0) k a c (omega arith) (weighs_then k 0 a b c p q)

  -- nothing is sent, and the ports stay
  pub still : (count : ℕ) (a b : Acted) → b.notes.frames ≡ a.notes.frames → b.numbers.controls ≡ a.numbers.controls → b.controller.ports ≡ a.controller.ports → W b ≤ W a + count → Weighs count a b
  still count a b frames controls ports le = record {
    fine = λ f. record {
      unmade = subst (λ n. IsUnmade n b.notes.frames) (sym controls) (subst (IsUnmade a.numbers.controls) (sym frames) f.unmade);
      apart = subst (InOrder HaveOwnNumbers) (sym ports) f.apart;
      links = subst (Every IsOfLink) (sym ports) f.links;
      few = subst (λ (ps : List Linked). length ps ≤ 8) (sym ports) f.few;
    };
    extends = λ f. subst (Extends a.notes.frames) (sym frames) (extends_self a.notes.frames);
    cost = λ f e. le;
  }

  pub itself : (count : ℕ) (a : Acted) → Weighs count a a
  itself count a = still count a a refl refl refl (omega arith)

  pub weighs_fold : {A : Type 0} (f : Acted → A → Acted) → ((a : Acted) (x : A) → Weighs 0 a (f a x)) → (xs : List A) (a : Acted) → Weighs 0 a (fold f a xs)
  weighs_fold f each [] a = itself 0 a
  weighs_fold f each (x ∷ xs) a = none_then 0 a (f a x) (fold f (f a x) xs) (each a x) (weighs_fold f each xs (f a x))

  pub costs_fold : {A : Type 0} (count : ℕ) (f : Acted → A → Acted) → ((a : Acted) (x : A) → Weighs count a (f a x)) → (xs : List A) (a : Acted) → Weighs (length xs * count) a (fold f a xs)
  costs_fold count f each [] a = itself (0 * count) a
  costs_fold count f each (x ∷ xs) a = more (count + length xs * count) (length (x ∷ xs) * count) a (fold f (f a x) xs) (omega arith)
      (weighs_then count (length xs * count) a (f a x) (fold f (f a x) xs) (each a x) (costs_fold count f each xs (f a x)))

  -- *A port is put back*
  pub placed : (count : ℕ) (a : Acted) (linked new : Linked) → linked_at a.controller new.setup.port ≡ Some linked → new.setup ≡ linked.setup
      → linked_weight (changes_left a.controller) new ≤ linked_weight (changes_left a.controller) linked + count → Weighs count a (with_linked a new)
  placed count a linked new found same le = record {
    fine = λ f. record {
      unmade = f.unmade;
      apart = put_order port_key (λ x y. x ≢ y) new a.controller.ports f.apart;
      links = put_every port_key IsOfLink new a.controller.ports (subst (λ (s : _). 1 ≤ s.port.0) (sym same) (at_every port_key IsOfLink new.setup.port.0 a.controller.ports linked f.links found)) f.links;
      few = omega (arith, put_length port_key new a.controller.ports, f.few);
    };
    extends = λ f. extends_self a.notes.frames;
    cost = λ f e. (let sum = total_put (linked_weight (changes_left a.controller)) port_key new a.controller.ports linked found in omega (arith, sum, le));
  }

  -- *A frame is sent*
  abbrev pub frame_cost : Bearing → (payload : List ℕ) → ℕ
  frame_cost bearing payload = 32 * (3 + hops_of bound bearing) + cost_of bound (Some payload) bearing

  abbrev weigh_on : Channel → (last : Bool) → Mark → ℕ
  weigh_on channel last mark =
      (3 + hops_of bound (bearing_of topology (Down node) channel)) + (if last then cost_of bound (payload_of final mark) (bearing_of topology (Down node) channel) else 0)

  down_on : (cell : Cell) (channel : Channel) → cell.header.channel ≡ channel → down cell ≡ weigh_on channel cell.header.last cell.mark
  down_on cell channel e = ap (λ (c : Channel). weigh_on c cell.header.last cell.mark) e

  pub sent_cost : (a : Acted) (numbers : GivenOut) (channel : Channel) (mark : Mark) (payload : List ℕ) → (IsFine a → payload_of a.notes.frames mark ≡ None)
      → (IsFine a → IsUnmade numbers.controls (a.notes.frames ++ record { mark = mark; payload = payload } ∷ []))
      → Weighs (frame_cost (bearing_of topology (Down node) channel) payload) a (sends (record a { numbers = numbers }) channel mark payload)
  sent_cost a numbers channel mark payload free later =
      on_both (λ (s : Sender Controller). Weighs count a (record a { controller = s.queues; notes = s.notes; numbers = numbers })) (nat_le (length cells) (free_slots a.controller))
      (record { queues = with_cells a.controller cells; notes = made a.notes mark payload })
      (record { queues = a.controller; notes = noted (made a.notes mark payload) (Loss mark PoolFull) })
      (record {
        fine = λ f. record { unmade = later f; apart = f.apart; links = f.links; few = f.few };
        extends = λ f. extends_made a.notes.frames mark payload (free f);
        cost = λ f e. (let sum = total_join down a.controller.queue cells in let all = frame (e.kept mark payload (made_is a.notes.frames mark payload)) in omega (arith, sum, all));
      })
      (record {
        fine = λ f. record { unmade = later f; apart = f.apart; links = f.links; few = f.few };
        extends = λ f. extends_made a.notes.frames mark payload (free f);
        cost = λ f e. omega arith;
      })
    where
      cells : List Cell
      cells = frame_cells channel mark payload

      bearing : Bearing
      bearing = bearing_of topology (Down node) channel

      count : ℕ
      count = frame_cost (bearing_of topology (Down node) channel) payload

      last_or_not : (b : Bool) (n : ℕ) → (if b then n else 0) ≤ n
      last_or_not true n = omega arith
      last_or_not false n = omega arith

      early : (b : Bool) (n : ℕ) → b ≡ false → (if b then n else 0) ≡ 0
      early true n e = absurd (cc e)
      early false n e = refl

      frame : payload_of final mark ≡ Some payload → total_weight down (frame_cells channel mark payload) ≤ frame_cost (bearing_of topology (Down node) channel) payload
      frame is = frame_total down (3 + hops_of bound (bearing_of topology (Down node) channel)) (cost_of bound (Some payload) (bearing_of topology (Down node) channel)) channel mark payload (short mark payload is)
          (λ cell on not_last. (let w = down_on cell channel on in let n = early cell.header.last (cost_of bound (payload_of final cell.mark) (bearing_of topology (Down node) channel)) not_last in omega (arith, w, n)))
          (λ cell on marked. (let w = down_on cell channel on in
          let n = last_or_not cell.header.last (cost_of bound (payload_of final cell.mark) (bearing_of topology (Down node) channel)) in
          let p : payload_of final cell.mark ≡ Some payload = ap (payload_of final) marked ∙ is in
          let c = ap (λ (o : Option (List ℕ)). cost_of bound o (bearing_of topology (Down node) channel)) p in omega (arith, w, n, c)))

  -- under the next control mark
  pub control_cost : (a : Acted) (channel : Channel) (payload : List ℕ) → Weighs (frame_cost (bearing_of topology (Down node) channel) payload) a (sends_control a channel payload)
  control_cost a channel payload = sent_cost a (with_control a.numbers) channel (next_control a.numbers) payload
      (λ f. f.unmade (a.numbers.controls + 1) (omega arith)) (λ f. unmade_next a.numbers.controls a.notes.frames payload f.unmade)

  pub gsmp_cost : (a : Acted) (message : GsmpMessage) → Weighs (frame_weight + asking_cost message) a (says_gsmp a message)
  gsmp_cost a message = more (frame_cost ToSwitch (gsmp_octets message)) (frame_weight + asking_cost message) a (says_gsmp a message) (omega (arith, switch_reads message)) (control_cost a default_channel (gsmp_octets message))

  pub bearing_home : (port : PortNo) → 1 ≤ port.0 → bearing_of topology (Down node) (default_home port).channel ≡ Plain
  bearing_home port some = first ∙ second
    where
      far : (n : ℕ) → 1 ≤ n → (16 * n + 0 == 0 && 15 == 15) ≡ false
      far n some = grind (arith, nat_tests)

      own : (n : ℕ) → (16 * n + 0) % 16 ≡ 0
      own n = omega arith

      link : Bearing
      link = bearing_on (on_link (default_home port).channel) (peer_of topology node (port_on (default_home port).channel))

      first : bearing_of topology (Down node) (default_home port).channel ≡ link
      first = ap (λ (b : Bool). if b then ToSwitch else link) (far port.0 some)

      second : link ≡ Plain
      second = ap (λ (v : ℕ). bearing_on (record { vpi = v; vci = 15 }) (peer_of topology node (port_on (default_home port).channel))) (own port.0)

  pub ifmp_cost : (a : Acted) (port : PortNo) (message : IfmpMessage) → 1 ≤ port.0 → Weighs (frame_weight + message_cost message) a (says_ifmp port a message)
  ifmp_cost a port message some =
      let payload : List ℕ = default_payload (ifmp_packet_of a.controller.address (ifmp_octets message)) in
      let is : frame_cost (bearing_of topology (Down node) (default_home port).channel) payload ≡ frame_cost Plain payload = ap (λ (b : Bearing). frame_cost b payload) (bearing_home port some) in
      more (frame_cost (bearing_of topology (Down node) (default_home port).channel) payload) (frame_weight + message_cost message) a (says_ifmp port a message)
      (omega (arith, is, ifmp_reads a.controller.address message)) (control_cost a (default_home port).channel payload)
