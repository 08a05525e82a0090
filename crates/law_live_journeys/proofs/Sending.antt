-- a packet that is sent on by its route, ungranted, is one frame, whose cells are all in the queue unless its mark is entered

use Rattle.std.proofs.Common.{◌≡◌, ℕ, ◌<◌, ◌==◌, ◌&&◌, Bool, true, false, true≢false, List, ◌++◌, append_assoc, length, Some, refl, sym, ◌∙◌, ap, arith, if◌then◌else◌}
use Rattle.std.specs.Prelude.{nat_le, nat_lt}
use Rattle.std.proofs.lemmas.Bool.Decides.{nat_tests}
use Rattle.world_model.specs.Words.{PortNo, Delivered, Mark, Cell, Loss, PoolFull, noted, made, payload_of, has_entry, next_mark, default_payload, onward, hop_of, Here, Controller, default_home, sends_control, is_control, goes_by, forwards_packet}
use Rattle.world_model.specs.frame_model.Sending.{Sender}
use Rattle.world_model.specs.Controller.{Acted, free_slots, note}
use Rattle.world_model.specs.Sending.{with_cells, sends}
use Rattle.world_model.specs.Packets.{forwarded}
use Rattle.law_live_carried_out.proofs.law_shown_cells.Made.{made_is}
use Rattle.law_live_carried_out.proofs.law_passing.Rules.{Adds}
use Rattle.law_live_carried_out.proofs.law_live_hearing.Switching.{last_entry}
use Rattle.law_live_journeys.specs.Law.{frame_on, IsRouted}
use Rattle.law_live_journeys.proofs.Later.{Later}

-- a packet's mark is none of control
plain : (mark : Mark) → 0 < mark.packet → is_control mark ≡ false
plain mark some = (let other : (mark.packet == 0) ≡ false = grind (arith, nat_tests, some) in ap (λ (b : Bool). b && nat_lt 0 mark.frame) other)

module _ (a : Acted) (came : Mark) (packet : List ℕ) where
  -- *It is for the node itself*
  pub delivers : hop_of a.controller.table packet ≡ Here → forwards_packet a came packet ≡ note a (Delivered a.controller.node came.packet packet)
  delivers here = ap (forwarded a came packet) here

  module _ (port : PortNo) (some : 0 < came.packet) (routed : IsRouted a.controller port packet) where
    abbrev payload : List ℕ
    payload = default_payload (onward packet)

    abbrev cells : List Cell
    cells = frame_on port came packet

    abbrev room : Bool
    room = nat_le (length cells) (free_slots a.controller)

    abbrev sent : Acted
    sent = sends a (default_home port).channel (next_mark came) payload

    -- *It is one frame*
    pub goes : forwards_packet a came packet ≡ sent
    goes = ap (forwarded a came packet) routed.route
        ∙ (ap (goes_by a came port (onward packet)) routed.ungranted
        ∙ ap (λ (b : Bool). if b then sends_control a (default_home port).channel payload else sent) (plain came some))

    -- as slots are free for it or not
    abbrev by : Bool → Acted
    by b =
        let s : Sender Controller = if b then record { queues = with_cells a.controller cells; notes = made a.notes (next_mark came) payload }
        else record { queues = a.controller; notes = noted (made a.notes (next_mark came) payload) (Loss (next_mark came) PoolFull) } in
        record a { controller = s.queues; notes = s.notes }

    is_by : sent ≡ by room
    is_by = refl

    -- *What is there* behind it
    pub record IsSent (b : Acted) : Type 0 where
      pub after : List Cell
      pub queue : b.controller.queue ≡ a.controller.queue ++ (cells ++ after)
      pub made_so : payload_of b.notes.frames (next_mark came) ≡ Some payload

    module _ (b : Acted) (adds : Adds (forwards_packet a came packet) b) (later : Later (forwards_packet a came packet).notes b.notes) where
      found : room ≡ true → IsSent b
      found free =
          let whole : forwards_packet a came packet ≡ by true = goes ∙ (is_by ∙ ap by free) in
          record {
            after = adds.queue.more;
            queue = adds.queue.is ∙ (ap (λ (x : Acted). x.controller.queue ++ adds.queue.more) whole ∙ append_assoc a.controller.queue cells adds.queue.more);
            made_so = later.frames (next_mark came) payload some
                (ap (λ (x : Acted). payload_of x.notes.frames (next_mark came)) whole ∙ made_is a.notes.frames (next_mark came) payload);
          }

      pub free_is_sent : room ≡ true → IsSent b
      free_is_sent free = found free

      pub unlost_is_sent : has_entry b.notes.entries (next_mark came) ≡ false → IsSent b
      unlost_is_sent none = cases room refl
        where
          cases : (r : Bool) → room ≡ r → IsSent b
          cases true e = found e
          cases false e =
              let lost : forwards_packet a came packet ≡ by false = goes ∙ (is_by ∙ ap by e) in
              absurd (true≢false (sym (later.entries (next_mark came)
              (ap (λ (x : Acted). has_entry x.notes.entries (next_mark came)) lost
              ∙ last_entry a.notes.entries (record { mark = next_mark came; cause = PoolFull }))) ∙ none))

    -- where slots are free nothing is entered
    pub enters_nothing : room ≡ true → (forwards_packet a came packet).notes.entries ≡ a.notes.entries
    enters_nothing free = ap (λ (x : Acted). x.notes.entries) (goes ∙ (is_by ∙ ap by free))
