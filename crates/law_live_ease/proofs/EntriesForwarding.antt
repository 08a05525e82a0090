-- a packet that is sent on puts cells into the queue to the switch, none of them on the GSMP channel, and leaves all else of its controller

use Rattle.std.proofs.Common.{◌≡◌, ◌≢◌, ℕ, ◌≤◌, false, List, [], append-nil, length, Option, None, Some, refl, sym, ◌∙◌, ap}
use Rattle.std.specs.Prelude.{nat_le}
use Rattle.world_model.specs.Words.{PortNo, Channel, Mark, Cell, Loss, PoolFull, noted, made, frame_cells, same_channel, next_control, next_mark, with_control, hop_of, onward, Hop, Here, On, kind_of, default_payload, labelled_payload, Grant, control_end, Controller, default_channel, default_home, is_control, sends_control, sends_next, goes_by, grant_by, forwards_packet}
use Rattle.world_model.specs.ipv4_forward.declared.outcome.Hop.TheVariants.{NoRoute, Expired}
use Rattle.world_model.specs.frame_model.Sending.{Sender}
use Rattle.world_model.specs.Controller.{Acted, free_slots}
use Rattle.world_model.specs.Packets.{forwarded}
use Rattle.world_model.specs.Sending.{with_cells, sends}
use Rattle.law_live_journeys.specs.law_run_facts.ordered_lists.Ordered.{Every}
use Rattle.law_live_journeys.proofs.law_run_facts.ordered_lists.Every.{every_map}
use Rattle.law_live_journeys.proofs.law_run_facts.law_port_facts.Keyed.{on_both}
use Rattle.law_live_journeys.proofs.law_run_facts.law_shown_cells.Frames.{differ}
use Rattle.law_live_journeys.specs.law_live_control.Calm.{HasLinks}
use Rattle.law_live_journeys.proofs.law_live_control.Since.{IsFrom, frame_from, apart_home, apart_label}

-- *A cell of another channel* than that of GSMP
abbrev pub IsAway : Cell → Type 0
IsAway cell = same_channel cell.header.channel default_channel ≡ false

-- *Such cells are put* into the queue to the switch, and all else stays
pub record PutsAway (before after : Controller) : Type 0 where
  pub put : List Cell
  pub is : after ≡ with_cells before put
  pub away : Every IsAway put

pub no_cells : (c : Controller) → with_cells c [] ≡ c
no_cells c = λ i. record c { queue = append-nil c.queue i }

puts_none : (c : Controller) → PutsAway c c
puts_none c = record { put = []; is = sym (no_cells c); away = tt }

-- *A frame on another channel*
frame_away : (channel : Channel) (mark : Mark) (payload : List ℕ) → channel ≢ default_channel → Every IsAway (frame_cells channel mark payload)
frame_away channel mark payload apart = every_map (IsFrom channel mark) IsAway (frame_cells channel mark payload)
    (λ cell is. ap (λ (c : Channel). same_channel c default_channel) is.0 ∙ differ channel default_channel apart) (frame_from channel mark payload)

sent_away : (a : Acted) (channel : Channel) (mark : Mark) (payload : List ℕ) → channel ≢ default_channel → PutsAway a.controller (sends a channel mark payload).controller
sent_away a channel mark payload apart = on_both (λ (s : Sender Controller). PutsAway a.controller s.queues) (nat_le (length (frame_cells channel mark payload)) (free_slots a.controller))
    (record { queues = with_cells a.controller (frame_cells channel mark payload); notes = made a.notes mark payload })
    (record { queues = a.controller; notes = noted (made a.notes mark payload) (Loss mark PoolFull) })
    (record { put = frame_cells channel mark payload; is = refl; away = frame_away channel mark payload apart })
    (puts_none a.controller)

-- *A packet is sent on*
module _ (a : Acted) (came : Mark) where
  next_away : (channel : Channel) (payload : List ℕ) → channel ≢ default_channel → PutsAway a.controller (sends_next a came channel payload).controller
  next_away channel payload apart = on_both (λ (b : Acted). PutsAway a.controller b.controller) (is_control came) (sends_control a channel payload) (sends a channel (next_mark came) payload)
      (sent_away (record a { numbers = with_control a.numbers }) channel (next_control a.numbers) payload apart) (sent_away a channel (next_mark came) payload apart)

  granted_away : (port : PortNo) (packet : List ℕ) (o : Option Grant) → 1 ≤ port.0 → PutsAway a.controller (goes_by a came port packet o).controller
  granted_away port packet None link = next_away (default_home port).channel (default_payload packet) (apart_home port link)
  granted_away port packet (Some grant) link = next_away (control_end port grant.label).channel (labelled_payload (kind_of grant.flow) packet) (apart_label port grant.label link)

  hop_away : (packet : List ℕ) (hop : Hop) → ((port : PortNo) → hop ≡ On port → 1 ≤ port.0) → PutsAway a.controller (forwarded a came packet hop).controller
  hop_away packet Here links = puts_none a.controller
  hop_away packet NoRoute links = puts_none a.controller
  hop_away packet Expired links = puts_none a.controller
  hop_away packet (On port) links = granted_away port (onward packet) (grant_by a.controller port (onward packet)) (links port refl)

  pub forwards_away : HasLinks a.controller → (packet : List ℕ) → PutsAway a.controller (forwards_packet a came packet).controller
  forwards_away links packet = hop_away packet (hop_of a.controller.table packet) (links.routes packet)
