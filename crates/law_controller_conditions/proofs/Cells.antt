-- whoever takes a cell is found, and has a channel; what is gathered and sent on changes no port

use Rattle.std.proofs.Common.{◌≡◌, ℕ, Bool, true, false, List, length, Option, None, Some, refl, sym, subst, if◌then◌else◌, map}
use Rattle.std.specs.Prelude.{nat_le}
use Rattle.std.specs.Option.{option_and_then}
use Rattle.law_controller.specs.world_model.Words.{PortNo, Channel, Mark, label_number_of, next_control, with_control, hop_of, onward, Hop, Here, On, kind_of, default_payload, labelled_payload, Loss, PoolFull, Journal, noted, frame_cells, made, next_mark, Reassembly, Setup, control_end, Label, label_number, is_bound, Grant, label_at, labels_of, Controller, Linked, linked_at, chains_with, default_channel, default_home, sends_control, is_control, sends_next, goes_by, grant_by, forwards_packet, ForGsmp, ForDefault, ForLabel, port_on, on_link, same_channel, label_taker, taker_at, taker_of, with_reassembly}
use Rattle.law_controller.specs.world_model.ipv4_forward.declared.outcome.Hop.TheVariants.{NoRoute, Expired}
use Rattle.law_controller.specs.world_model.frame_model.Sending.{Sender}
use Rattle.controller_router.specs.controller_link.Cells.{is_channel}
use Rattle.law_controller.specs.law_port_facts.Port.{IsLabel}
use Rattle.law_controller.proofs.law_port_facts.Keyed.{on_both, at_key, at_every}
use Rattle.law_controller.specs.world_model.Controller.{Acted, free_slots}
use Rattle.law_controller.specs.world_model.Sending.{with_cells, sends}
use Rattle.law_controller.specs.world_model.Packets.{forwarded}
use Rattle.law_controller.specs.world_model.Cells.{Taker}
use Rattle.law_controller.proofs.law_controller_facts.Moves.{gathering, chaining, Moves, moves_to, HasPorts, found_setup, found_at_own, found_port}
use Rattle.law_controller.proofs.law_controller_facts.Events.{routes_goes}
use Rattle.law_controller.proofs.law_controller_facts.Flows.{moves_flow}
use Rattle.law_controller.proofs.law_controller_facts.Laws.{has_ports, moves_sound}
use Rattle.law_controller.proofs.Whole.{Whole, chained_whole, numbered_whole}
use Rattle.law_controller.proofs.Events.{routes_holds}
use Rattle.controller_router.specs.Node.{linked_range}
use Rattle.controller_router.specs.Cells.{IsFound, channel_of}
use Rattle.law_controller_conditions.specs.Kept.{IsKept}
use Rattle.law_controller_conditions.specs.Cells.{CellsCanCome}
use Rattle.law_controller_conditions.proofs.Channels.{label_channel, default_is_channel}
use Rattle.law_controller_conditions.proofs.Kept.{whole_kept, kept_whole}
use Rattle.law_controller_conditions.proofs.Receiving.{cell_acts}

-- *Who takes a cell*
some_taker : (t u : Taker) → Some t ≡ Some u → t ≡ u
some_taker t u e = cc

module _ (setups : List Setup) (a : Acted) (h : HasPorts setups a) where
  by_label : (linked : Linked) → linked_at a.controller linked.setup.port ≡ Some linked → (n : ℕ) (o : Option Label) → label_at linked.port n ≡ o → (taker : Taker) → label_taker linked o ≡ Some taker → IsFound a.controller taker
  by_label linked own n None held taker e = absurd (cc e)
  by_label linked own n (Some label) held taker e = by_bound (is_bound label.state) refl e
    where
      by_bound : (b : Bool) → is_bound label.state ≡ b → (if b then Some (ForLabel linked label) else None) ≡ Some taker → IsFound a.controller taker
      by_bound true bound e = subst (IsFound a.controller) (some_taker (ForLabel linked label) taker e)
          (record { found = own; held = subst (λ (k : ℕ). label_at linked.port k ≡ Some label) (sym (at_key label_number n (labels_of linked.port) label held)) held; bound = bound })
      by_bound false bound e = absurd (cc e)

  by_number : (linked : Linked) → linked_at a.controller linked.setup.port ≡ Some linked → (o : Option ℕ) (taker : Taker) → label_taker linked (option_and_then (label_at linked.port) o) ≡ Some taker → IsFound a.controller taker
  by_number linked own None taker e = absurd (cc e)
  by_number linked own (Some n) taker e = by_label linked own n (label_at linked.port n) refl taker e

  by_linked : (port : PortNo) (link : Channel) (o : Option Linked) → linked_at a.controller port ≡ o → (taker : Taker) → taker_at o link ≡ Some taker → IsFound a.controller taker
  by_linked port link None found taker e = absurd (cc e)
  by_linked port link (Some linked) found taker e = by_default (same_channel link default_channel) e
    where
      own : linked_at a.controller linked.setup.port ≡ Some linked
      own = found_at_own setups a linked port found

      by_default : (b : Bool) → (if b then Some (ForDefault linked) else label_taker linked (option_and_then (label_at linked.port) (label_number_of link))) ≡ Some taker → IsFound a.controller taker
      by_default true e = subst (IsFound a.controller) (some_taker (ForDefault linked) taker e) own
      by_default false e = by_number linked own (label_number_of link) taker e

  taker_found : (channel : Channel) (taker : Taker) → taker_of a.controller channel ≡ Some taker → IsFound a.controller taker
  taker_found channel taker e = by_gsmp (same_channel channel default_channel) e
    where
      by_gsmp : (b : Bool) → (if b then Some ForGsmp else taker_at (linked_at a.controller (port_on channel)) (on_link channel)) ≡ Some taker → IsFound a.controller taker
      by_gsmp true e = subst (IsFound a.controller) (some_taker ForGsmp taker e) tt
      by_gsmp false e = by_linked (port_on channel) (on_link channel) (linked_at a.controller (port_on channel)) refl taker e

  -- it has a channel
  taker_channel : (taker : Taker) → IsFound a.controller taker → is_channel (map linked_range a.controller.ports) (channel_of taker) ≡ true
  taker_channel ForGsmp is = refl
  taker_channel (ForDefault linked) is = default_is_channel a.controller.ports linked.setup.port linked is
  taker_channel (ForLabel linked label) is = label_channel setups a.controller.ports linked.setup.port linked.setup label.number h.ports.same (found_setup setups a linked linked.setup.port h is.found)
      (at_every label_number (IsLabel setups linked.setup) label.number (labels_of linked.port) label (found_port setups a linked linked.setup.port h is.found).labels is.held).in_range

-- *What it gathers*
module _ (setups : List Setup) where
  gathers_whole : (a : Acted) (taker : Taker) (r : Reassembly) → IsFound a.controller taker → Whole setups a → Whole setups (with_reassembly a taker r)
  gathers_whole a ForGsmp r is h = record { sound = moves_sound setups a (with_reassembly a ForGsmp r) (moves_to (gathering a r)) h.sound; order = h.order; fits = h.fits }
  gathers_whole a (ForDefault linked) r is h = chained_whole setups a linked (record linked { reassembly = r }) is refl refl h
  gathers_whole a (ForLabel linked label) r is h = chained_whole setups a linked (record linked { chains = chains_with linked.chains label.number r }) is.found refl refl h

  gathers_move : (a : Acted) (taker : Taker) (r : Reassembly) → IsFound a.controller taker → Moves setups a (with_reassembly a taker r)
  gathers_move a ForGsmp r is = moves_to (gathering a r)
  gathers_move a (ForDefault linked) r is = moves_to (chaining a linked (record linked { reassembly = r }) is refl refl)
  gathers_move a (ForLabel linked label) r is = moves_to (chaining a linked (record linked { chains = chains_with linked.chains label.number r }) is.found refl refl)

gathers_kept : (a : Acted) (channel : Channel) (taker : Taker) (notes : Journal) (r : Reassembly) → IsKept a.controller → taker_of a.controller channel ≡ Some taker
    → IsKept (with_reassembly (record a { notes = notes }) taker r).controller
gathers_kept a channel taker notes r h e =
    let noted_now : Acted = record a { notes = notes } in
    let is : IsFound a.controller taker = taker_found h.setups a (has_ports h.setups a h.sound) channel taker e in
    kept_whole h.setups h.links (with_reassembly noted_now taker r) (gathers_whole h.setups noted_now taker r is (numbered_whole h.setups a notes (whole_kept a h)))
    (moves_flow h.setups noted_now (with_reassembly noted_now taker r) (gathers_move h.setups noted_now taker r is) h.flows)

-- *What is sent on*
sent_ports : (a : Acted) (channel : Channel) (mark : Mark) (payload : List ℕ) → (sends a channel mark payload).controller.ports ≡ a.controller.ports
sent_ports a channel mark payload = on_both (λ (s : Sender Controller). s.queues.ports ≡ a.controller.ports) (nat_le (length (frame_cells channel mark payload)) (free_slots a.controller))
    (record { queues = with_cells a.controller (frame_cells channel mark payload); notes = made a.notes mark payload })
    (record { queues = a.controller; notes = noted (made a.notes mark payload) (Loss mark PoolFull) }) refl refl

next_ports : (a : Acted) (came : Mark) (channel : Channel) (payload : List ℕ) → (sends_next a came channel payload).controller.ports ≡ a.controller.ports
next_ports a came channel payload = on_both (λ (b : Acted). b.controller.ports ≡ a.controller.ports) (is_control came) (sends_control a channel payload) (sends a channel (next_mark came) payload)
    (sent_ports (record a { numbers = with_control a.numbers }) channel (next_control a.numbers) payload) (sent_ports a channel (next_mark came) payload)

by_ports : (a : Acted) (came : Mark) (port : PortNo) (packet : List ℕ) (o : Option Grant) → (goes_by a came port packet o).controller.ports ≡ a.controller.ports
by_ports a came port packet None = next_ports a came (default_home port).channel (default_payload packet)
by_ports a came port packet (Some grant) = next_ports a came (control_end port grant.label).channel (labelled_payload (kind_of grant.flow) packet)

forwarded_ports : (a : Acted) (came : Mark) (packet : List ℕ) (hop : Hop) → (forwarded a came packet hop).controller.ports ≡ a.controller.ports
forwarded_ports a came packet Here = refl
forwarded_ports a came packet NoRoute = refl
forwarded_ports a came packet Expired = refl
forwarded_ports a came packet (On port) = by_ports a came port (onward packet) (grant_by a.controller port (onward packet))

pub routes_kept : (a : Acted) (came : Mark) (packet : List ℕ) → IsKept a.controller → IsKept (forwards_packet a came packet).controller
routes_kept a came packet h = kept_whole h.setups h.links (forwards_packet a came packet) (routes_holds h.setups h.links.links a came packet (whole_kept a h))
    (moves_flow h.setups a (forwards_packet a came packet) (routes_goes h.setups a came packet) h.flows)

pub cells_can_come : CellsCanCome
cells_can_come = record {
  found = λ a channel taker h. taker_found h.setups a (has_ports h.setups a h.sound) channel taker;
  channels = λ a channel taker h e. taker_channel h.setups a (has_ports h.setups a h.sound) taker (taker_found h.setups a (has_ports h.setups a h.sound) channel taker e);
  gathers = gathers_kept;
  acts = cell_acts;
  sent_on = routes_kept;
  same_ports = λ a came packet. forwarded_ports a came packet (hop_of a.controller.table packet);
}
