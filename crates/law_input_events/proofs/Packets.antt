-- a packet at a node is delivered, dropped or sent on: nothing to the line of an input, but a frame that is made

use Rattle.std.proofs.Common.{◌≡◌, ◌≢◌, ℕ, ◌≤◌, List, [], ◌∷◌, ◌++◌, length, Option, None, Some, refl, ap, arith}
use Rattle.std.specs.Prelude.{nat_le}
use Rattle.law_input_premises.specs.world_model.Words.{Channel, End, NodeId, PortNo, Mark, hop_of, onward, Hop, Here, On, kind_of, default_payload, labelled_payload, Delivered, Dropped, Loss, PoolFull, Frame, payload_of, noted, frame_cells, made, next_mark, control_end, Grant, Switch, Controller, default_channel, default_home, sends_control, is_control, sends_next, goes_by, grant_by, forwards_packet}
use Rattle.law_input_premises.specs.world_model.ipv4_forward.declared.outcome.Hop.TheVariants.{NoRoute, Expired}
use Rattle.law_input_premises.specs.world_model.link_model.declared.record.DropCause.TheVariants.{NoRoute as NoRouteCause, Expired as ExpiredCause}
use Rattle.law_input_premises.specs.world_model.frame_model.Sending.{Sender}
use Rattle.law_input_premises.proofs.law_port_facts.Keyed.{on_both, on_each}
use Rattle.law_input_premises.specs.law_branch_line.Line.{Line}
use Rattle.law_input_premises.specs.world_model.Controller.{Acted, free_slots}
use Rattle.law_input_premises.specs.world_model.Sending.{with_cells, sends}
use Rattle.law_input_premises.specs.world_model.Packets.{forwarded}
use Rattle.law_input_premises.proofs.law_shown_cells.Shows.{shows_behind}
use Rattle.law_input_premises.proofs.law_shown_cells.Made.{extends_made, unmade_packet}
use Rattle.law_input_premises.specs.law_input_views.Words.{erased, seen_request}
use Rattle.law_input_premises.specs.law_input_views.Shown.{controller_of, switch_of}
use Rattle.law_input_premises.proofs.law_input_views.Cells.{frame_elsewhere}
use Rattle.law_input_premises.specs.law_input_steps.Part.{Part, part_at, Stands, Reaches, AnyLine, Leads}
use Rattle.law_input_premises.proofs.law_input_steps.Reach.{reaches_self, stands_later}
use Rattle.law_input_premises.proofs.law_input_steps.Resets.{note_still, still_leads}
use Rattle.law_input_premises.proofs.law_input_steps.Sent.{control_sent, sent_elsewhere}
use Rattle.law_input_premises.proofs.Rows.{KeepsRows, sends_rows, sends_control_rows}
use Rattle.law_input_events.specs.Coming.{IsNext, GoesByLinks}

-- *Channels* of a port's link on the control link
pub home_apart : (port : PortNo) → 1 ≤ port.0 → (default_home port).channel ≢ default_channel
home_apart port above e = apart (ap (λ (c : Channel). c.vpi) e)
  where
    apart : (default_home port).channel.vpi ≡ 0 → ⊥
    apart e = absurd (omega (arith, e, above))

pub control_apart : (port : PortNo) (label : ℕ) → 1 ≤ port.0 → (control_end port label).channel ≢ default_channel
control_apart port label above e = apart (ap (λ (c : Channel). c.vpi) e)
  where
    apart : (control_end port label).channel.vpi ≡ 0 → ⊥
    apart e = absurd (omega (arith, e, above))

module _ (node : NodeId) (input : End) (switch : Switch) where
  abbrev From : Acted → Acted → Type 0
  From a b = Leads node input (part_at input switch a) (part_at input switch b)

  -- *A frame of a packet* goes on another channel than GSMP's
  with_cells_stands : (a : Acted) (channel : Channel) (mark : Mark) (payload : List ℕ) → channel ≢ default_channel → mark.packet ≢ 0 → payload_of a.notes.frames mark ≡ None → (line : Line)
      → Stands node input (part_at input switch a) line
      → Stands node input (part_at input switch (record a { controller = with_cells a.controller (frame_cells channel mark payload); notes = made a.notes mark payload })) line
  with_cells_stands a channel mark payload apart packet free line h =
      let p : Part = part_at input switch a in
      let frames : List Frame = a.notes.frames ++ record { mark = mark; payload = payload } ∷ [] in
      let later : Stands node input (record p { frames = frames; numbers = a.numbers }) line = stands_later node input p frames a.numbers line
      (extends_made a.notes.frames mark payload free) (unmade_packet a.numbers.controls mark.packet mark.frame a.notes.frames payload packet h.unmade) (omega arith) h in
      record {
        own = h.own;
        far = h.far;
        to_switch = shows_behind later.to_switch (frame_elsewhere (seen_request (controller_of node) (switch_of node) input) erased frames channel mark payload apart);
        at_switch = later.at_switch;
        to_controller = later.to_controller;
        gathered = later.gathered;
        at_controller = h.at_controller;
        drawn = h.drawn;
        before = h.before;
        behind = h.behind;
        unmade = later.unmade;
        numbered = h.numbered;
      }

  without_cells_stands : (a : Acted) (mark : Mark) (payload : List ℕ) → mark.packet ≢ 0 → payload_of a.notes.frames mark ≡ None → (line : Line) → Stands node input (part_at input switch a) line
      → Stands node input (part_at input switch (record a { notes = noted (made a.notes mark payload) (Loss mark PoolFull) })) line
  without_cells_stands a mark payload packet free line h = stands_later node input (part_at input switch a) (a.notes.frames ++ record { mark = mark; payload = payload } ∷ []) a.numbers line
      (extends_made a.notes.frames mark payload free) (unmade_packet a.numbers.controls mark.packet mark.frame a.notes.frames payload packet h.unmade) (omega arith) h

  sent_leads : (a : Acted) (channel : Channel) (mark : Mark) (payload : List ℕ) → channel ≢ default_channel → mark.packet ≢ 0 → payload_of a.notes.frames mark ≡ None → From a (sends a channel mark payload)
  sent_leads a channel mark payload apart packet free line h = on_both (λ (s : Sender Controller). Reaches node input (part_at input switch (record a { controller = s.queues; notes = s.notes })) AnyLine line)
      (nat_le (length (frame_cells channel mark payload)) (free_slots a.controller))
      (record { queues = with_cells a.controller (frame_cells channel mark payload); notes = made a.notes mark payload })
      (record { queues = a.controller; notes = noted (made a.notes mark payload) (Loss mark PoolFull) })
      (reaches_self node input _ line (with_cells_stands a channel mark payload apart packet free line h))
      (reaches_self node input _ line (without_cells_stands a mark payload packet free line h))

  control_leads : (a : Acted) (channel : Channel) (payload : List ℕ) → channel ≢ default_channel → From a (sends_control a channel payload)
  control_leads a channel payload apart = control_sent input switch (λ (q : Part). Leads node input (part_at input switch a) q) a channel payload (λ fits. sent_elsewhere node input (part_at input switch a) channel payload fits apart)

  next_leads : (a : Acted) (came : Mark) (channel : Channel) (payload : List ℕ) → channel ≢ default_channel → IsNext a.notes.frames came → From a (sends_next a came channel payload)
  next_leads a came channel payload apart next = on_each (From a) (is_control came) (sends_control a channel payload) (sends a channel (next_mark came) payload)
      (λ t. control_leads a channel payload apart) (λ other. sent_leads a channel (next_mark came) payload apart (next other).0 (next other).1)

  goes_leads : (a : Acted) (came : Mark) (port : PortNo) (packet : List ℕ) (o : Option Grant) → 1 ≤ port.0 → IsNext a.notes.frames came → From a (goes_by a came port packet o)
  goes_leads a came port packet None above next = next_leads a came (default_home port).channel (default_payload packet) (home_apart port above) next
  goes_leads a came port packet (Some grant) above next = next_leads a came (control_end port grant.label).channel (labelled_payload (kind_of grant.flow) packet) (control_apart port grant.label above) next

  forwarded_leads : (a : Acted) (came : Mark) (packet : List ℕ) (hop : Hop) → ((port : PortNo) → hop ≡ On port → 1 ≤ port.0) → IsNext a.notes.frames came → From a (forwarded a came packet hop)
  forwarded_leads a came packet Here above next = still_leads node input switch a (forwarded a came packet Here) (note_still a (Delivered a.controller.node came.packet packet))
  forwarded_leads a came packet NoRoute above next = still_leads node input switch a (forwarded a came packet NoRoute) (note_still a (Dropped a.controller.node came.packet NoRouteCause))
  forwarded_leads a came packet Expired above next = still_leads node input switch a (forwarded a came packet Expired) (note_still a (Dropped a.controller.node came.packet ExpiredCause))
  forwarded_leads a came packet (On port) above next = goes_leads a came port (onward packet) (grant_by a.controller port (onward packet)) (above port refl) next

  pub routes_leads : (a : Acted) (came : Mark) (packet : List ℕ) → GoesByLinks a.controller → IsNext a.notes.frames came → From a (forwards_packet a came packet)
  routes_leads a came packet links next = forwarded_leads a came packet (hop_of a.controller.table packet) (λ port is. links packet port is) next

-- *The records of the switch's ports* stay
next_rows : (a : Acted) (came : Mark) (channel : Channel) (payload : List ℕ) → KeepsRows a (sends_next a came channel payload)
next_rows a came channel payload = on_both (KeepsRows a) (is_control came) (sends_control a channel payload) (sends a channel (next_mark came) payload) (sends_control_rows a channel payload) (sends_rows a channel (next_mark came) payload)

goes_rows : (a : Acted) (came : Mark) (port : PortNo) (packet : List ℕ) (o : Option Grant) → KeepsRows a (goes_by a came port packet o)
goes_rows a came port packet None = next_rows a came (default_home port).channel (default_payload packet)
goes_rows a came port packet (Some grant) = next_rows a came (control_end port grant.label).channel (labelled_payload (kind_of grant.flow) packet)

forwarded_rows : (a : Acted) (came : Mark) (packet : List ℕ) (hop : Hop) → KeepsRows a (forwarded a came packet hop)
forwarded_rows a came packet Here = refl
forwarded_rows a came packet NoRoute = refl
forwarded_rows a came packet Expired = refl
forwarded_rows a came packet (On port) = goes_rows a came port (onward packet) (grant_by a.controller port (onward packet))

pub routes_rows : (a : Acted) (came : Mark) (packet : List ℕ) → KeepsRows a (forwards_packet a came packet)
routes_rows a came packet = forwarded_rows a came packet (hop_of a.controller.table packet)
