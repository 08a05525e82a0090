-- a switch records nothing of a change of routes

use Rattle.std.proofs.Common.{ℕ, List, length, refl, sym, subst}
use Rattle.std.specs.Prelude.{nat_le}
use Rattle.world_model.specs.Words.{PortNo, Channel, Mark, next_control, with_control, Cell, Routed, routed, Record, Loss, PoolFull, Unconnected, noted, frame_cells, made, Switch, control_port, gsmp_channel, gsmp_cell, switched_cell, is_gsmp, tick_comes, restarted}
use Rattle.world_model.specs.gsmp_wire.Layout.{octets_of}
use Rattle.world_model.specs.crossbar_model.declared.routed.Routed.TheVariants as routes
use Rattle.world_model.specs.frame_model.Sending.{Sender}
use Rattle.law_causes.proofs.law_port_facts.Keyed.{on_both}
use Rattle.world_model.specs.Switch.{ActedSwitch, free_slots}
use Rattle.world_model.specs.Conduct.{with_cells, sends, cell_routed, cell_comes}
use Rattle.law_way_words.proofs.Switching.{IsNoted, is_lost, is_bad, is_chance, Kept, gsmp_kept, tick_kept, restarted_kept}
use Rattle.law_told_tables.proofs.Notes.{IsOther, TellsAlike, alike_then, noted_alike, full_alike}

-- *A switch that tells what it told at first*
abbrev pub Tells : (first : ActedSwitch) → ActedSwitch → Type 0
Tells first a = TellsAlike first.notes a.notes

noted_other : (item : Record) → IsNoted item → IsOther item
noted_other _ (is_lost mark cause) node = refl
noted_other _ (is_bad at layer name) node = refl
noted_other _ (is_chance mark) node = refl

pub sent_alike : (a : ActedSwitch) (port : PortNo) (channel : Channel) (mark : Mark) (payload : List ℕ) → Tells a (sends a port channel mark payload)
sent_alike a port channel mark payload = on_both (λ (s : Sender Switch). TellsAlike a.notes s.notes) (nat_le (length (frame_cells channel mark payload)) (free_slots a.switch))
    (record { queues = with_cells a.switch port (frame_cells channel mark payload); notes = made a.notes mark payload })
    (record { queues = a.switch; notes = noted (made a.notes mark payload) (Loss mark PoolFull) })
    (λ node. refl) (full_alike a.notes mark payload)

module _ (first : ActedSwitch) where
  tells_kept : Kept (Tells first)
  tells_kept = record {
    alike = λ a b queues notes controls h. subst (TellsAlike first.notes) (sym notes) h;
    noted = λ a item is h. alike_then first.notes a.notes (noted a.notes item) h (noted_alike a.notes item (noted_other item is));
    said = λ a message h.
        let given : ActedSwitch = record a { numbers = with_control a.numbers } in
        alike_then first.notes a.notes (sends given control_port gsmp_channel (next_control a.numbers) (octets_of message)).notes h
        (sent_alike given control_port gsmp_channel (next_control a.numbers) (octets_of message));
  }

-- *What comes to it*
passed_alike : (a : ActedSwitch) (port : PortNo) (cell : Cell) (r : Routed) → Tells a (cell_routed a port cell r)
passed_alike a port cell (routes.Out output) = λ node. refl
passed_alike a port cell routes.Unconnected = noted_alike a.notes (Loss cell.mark Unconnected) (λ node. refl)
passed_alike a port cell routes.PoolFull = noted_alike a.notes (Loss cell.mark PoolFull) (λ node. refl)

pub cell_alike : (a : ActedSwitch) (port : PortNo) (cell : Cell) → Tells a (cell_comes a port cell)
cell_alike a port cell = on_both (Tells a) (is_gsmp port cell.header.channel) (gsmp_cell a cell) (switched_cell a port cell)
    (gsmp_kept (Tells a) (tells_kept a) a cell (λ node. refl)) (passed_alike a port cell (routed a.switch.crossbar (free_slots a.switch) port cell))

pub tick_alike : (a : ActedSwitch) → Tells a (tick_comes a)
tick_alike a = tick_kept (Tells a) (tells_kept a) a (λ node. refl)

pub restart_alike : (a : ActedSwitch) → Tells a (restarted a)
restart_alike a = restarted_kept (Tells a) (tells_kept a) a (λ node. refl)
