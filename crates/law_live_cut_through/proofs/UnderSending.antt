-- a packet that is sent on by its route is one frame, whose cells are all in the queue where nothing is entered

use Rattle.std.proofs.Common.{◌≡◌, ℕ, ◌+◌, ◌<◌, ◌==◌, ◌&&◌, Bool, true, false, List, [], ◌∷◌, ◌++◌, append_assoc, length, None, Some, refl, sym, ◌∙◌, ap, arith, if◌then◌else◌}
use Rattle.std.specs.Prelude.{nat_le, nat_lt}
use Rattle.std.proofs.lemmas.Bool.Decides.{nat_tests}
use Rattle.std.proofs.lemmas.List.{length-append, append_cancel_left}
use Rattle.world_model.specs.Words.{NodeId, PortNo, Down, Channel, Mark, Cell, Loss, PoolFull, Journal, noted, made, payload_of, frame_cells, next_mark, default_payload, labelled_payload, kind_of, onward, hop_of, On, Grant, control_end, Controller, default_home, sends_control, is_control, grant_by, goes_by, forwards_packet, Topology, World, queue_at, next}
use Rattle.world_model.specs.frame_model.Sending.{Sender}
use Rattle.world_model.specs.Controller.{Acted, free_slots}
use Rattle.world_model.specs.Sending.{with_cells, sends}
use Rattle.world_model.specs.Packets.{forwarded}
use Rattle.world_model.specs.network_model.declared.event.Event.{Event}
use Rattle.law_live_ease.proofs.law_shown_cells.Made.{made_is}
use Rattle.law_live_ease.specs.law_passing.telling_model.Passing.{cells_put_at, left}
use Rattle.law_live_ease.proofs.law_passing.Worlds.{change_by_passing}
use Rattle.law_live_ease.specs.law_live_saying.Law.{Puts}
use Rattle.law_live_cut_through.proofs.UnderGrowing.{Follows}

-- a packet's mark is none of control
plain : (mark : Mark) → 0 < mark.packet → is_control mark ≡ false
plain mark some = (let other : (mark.packet == 0) ≡ false = grind (arith, nat_tests, some) in ap (λ (b : Bool). b && nat_lt 0 mark.frame) other)

-- *It is one frame*: on the default channel of the port, or on that of the grant
module _ (a : Acted) (came : Mark) (packet : List ℕ) (some : 0 < came.packet) (port : PortNo) (route : hop_of a.controller.table packet ≡ On port) where
  by_next : (channel : Channel) (payload : List ℕ) → (if is_control came then sends_control a channel payload else sends a channel (next_mark came) payload) ≡ sends a channel (next_mark came) payload
  by_next channel payload = ap (λ (b : Bool). if b then sends_control a channel payload else sends a channel (next_mark came) payload) (plain came some)

  pub by_default : grant_by a.controller port (onward packet) ≡ None → forwards_packet a came packet ≡ sends a (default_home port).channel (next_mark came) (default_payload (onward packet))
  by_default none = ap (forwarded a came packet) route ∙ (ap (goes_by a came port (onward packet)) none ∙ by_next (default_home port).channel (default_payload (onward packet)))

  pub by_grant : (grant : Grant) → grant_by a.controller port (onward packet) ≡ Some grant
      → forwards_packet a came packet ≡ sends a (control_end port grant.label).channel (next_mark came) (labelled_payload (kind_of grant.flow) (onward packet))
  by_grant grant held = ap (forwarded a came packet) route
      ∙ (ap (goes_by a came port (onward packet)) held ∙ by_next (control_end port grant.label).channel (labelled_payload (kind_of grant.flow) (onward packet)))

-- *A frame is sent*: its cells are in the queue behind it, and the payload was made
pub record IsSent (a : Acted) (channel : Channel) (mark : Mark) (payload : List ℕ) (b : Acted) : Type 0 where
  pub after : List Cell
  pub queue : b.controller.queue ≡ a.controller.queue ++ (frame_cells channel mark payload ++ after)
  pub made_so : payload_of b.notes.frames mark ≡ Some payload

module _ (a : Acted) (channel : Channel) (mark : Mark) (payload : List ℕ) (some : 0 < mark.packet) (b : Acted) where
  abbrev cells : List Cell
  cells = frame_cells channel mark payload

  abbrev room : Bool
  room = nat_le (length cells) (free_slots a.controller)

  -- as slots are free for it or not
  abbrev by : Bool → Acted
  by t =
      let s : Sender Controller = if t then record { queues = with_cells a.controller cells; notes = made a.notes mark payload }
      else record { queues = a.controller; notes = noted (made a.notes mark payload) (Loss mark PoolFull) } in
      record a { controller = s.queues; notes = s.notes }

  is_by : sends a channel mark payload ≡ by room
  is_by = refl

  pub is_sent : Follows (sends a channel mark payload) b → b.notes.entries ≡ a.notes.entries → IsSent a channel mark payload b
  is_sent follows none = cases room refl
    where
      cases : (t : Bool) → room ≡ t → IsSent a channel mark payload b
      cases true e =
          let whole : sends a channel mark payload ≡ by true = is_by ∙ ap by e in
          record {
            after = follows.adds.queue.more;
            queue = follows.adds.queue.is ∙ (ap (λ (x : Acted). x.controller.queue ++ follows.adds.queue.more) whole ∙ append_assoc a.controller.queue cells follows.adds.queue.more);
            made_so = follows.later.frames mark payload some (ap (λ (x : Acted). payload_of x.notes.frames mark) whole ∙ made_is a.notes.frames mark payload);
          }
      cases false e =
          let more : length (sends a channel mark payload).notes.entries ≡ length a.notes.entries + 1 = ap (λ (t : Bool). length (by t).notes.entries) e
          ∙ length-append a.notes.entries (record { mark = mark; cause = PoolFull } ∷ []) in
          let same : length b.notes.entries ≡ length a.notes.entries = ap length none in
          absurd (omega (arith, more, same, follows.more.entries))

-- *A frame goes out* of a controller in an event
pub record GoesOut (topology : Topology) (w : World) (event : Event) (node : NodeId) (channel : Channel) (mark : Mark) (payload : List ℕ) : Type 0 where
  pub put : Puts topology w event (Down node) (frame_cells channel mark payload)
  pub made : payload_of (next topology w event).notes.frames mark ≡ Some payload

-- what is put are the cells that the controller sends
pub goes_out : (topology : Topology) (w : World) (event : Event) (node : NodeId) (channel : Channel) (mark : Mark) (payload : List ℕ) (a b : Acted)
    → (next topology w event).notes ≡ b.notes → queue_at (next topology w event) (Down node) ≡ b.controller.queue → left w event (Down node) ≡ a.controller.queue
    → IsSent a channel mark payload b → GoesOut topology w event node channel mark payload
goes_out topology w event node channel mark payload a b notes_are queue_is stays s =
    let put : List Cell = frame_cells channel mark payload ++ s.after in
    let put_is : cells_put_at topology w event (Down node) ≡ put = append_cancel_left (left w event (Down node)) (cells_put_at topology w event (Down node)) put
    (sym (change_by_passing topology w event (Down node)) ∙ (queue_is ∙ (s.queue ∙ ap (λ (cs : List Cell). cs ++ put) (sym stays)))) in
    record {
      put = record { front = []; after = s.after; is = put_is };
      made = ap (λ (n : Journal). payload_of n.frames mark) notes_are ∙ s.made_so;
    }
