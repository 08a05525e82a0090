-- what stays so while table, changes and what is recorded of them stay, every rule of a controller keeps but those that
-- take a change

use Rattle.std.proofs.Common.{◌≡◌, ℕ, List, length, refl}
use Rattle.std.specs.Prelude.{nat_le}
use Rattle.world_model.specs.Words.{Channel, Mark, number_of_channel, next_control, with_control, Record, Loss, Part, PoolFull, noted, frame_cells, made, Setup, Controller, chain_of, sends_control, node_restarts, forwards_packet, ticked}
use Rattle.world_model.specs.frame_model.Sending.{Sender}
use Rattle.law_causes.proofs.law_port_facts.Keyed.{on_both}
use Rattle.world_model.specs.Controller.{Acted, free_slots, note}
use Rattle.world_model.specs.Sending.{with_cells, sends}
use Rattle.world_model.specs.Ticks.{ticks}
use Rattle.law_rule_walks.proofs.Ports.{IsNoted, is_opened, is_closed, is_bound, is_freed, is_joined, IsAsked}
use Rattle.law_rule_walks.proofs.Controllers.{Keeps, AsksOnlyAt, asks_only_works}
use Rattle.law_rule_walks.proofs.Controllers as controllers
use Rattle.law_rule_walks.proofs.Cells.{IsEnd, is_delivered, is_dropped, is_bad, Forwards}
use Rattle.law_rule_walks.proofs.Cells as cells
use Rattle.law_told_tables.proofs.Notes.{IsOther, TellsAlike, noted_alike, cut_alike, full_alike}

-- *The same* table and changes, in the controller and in what is recorded
pub record IsAlike (a b : Acted) : Type 0 where
  pub node : b.controller.node ≡ a.controller.node
  pub table : b.controller.table ≡ a.controller.table
  pub waiting : b.controller.waiting ≡ a.controller.waiting
  pub changes : b.controller.changes ≡ a.controller.changes
  pub told : TellsAlike a.notes b.notes

-- what a port notes is no change, nor what is noted of a packet
port_notes : (setup : Setup) (item : Record) → IsNoted (Unit {0}) setup item → IsOther item
port_notes setup _ is_opened = λ node. refl
port_notes setup _ is_closed = λ node. refl
port_notes setup _ (is_bound binds label flow) = λ node. refl
port_notes setup _ (is_freed label) = λ node. refl
port_notes setup _ (is_joined label to_port to_label) = λ node. refl

ends : (item : Record) → IsEnd item → IsOther item
ends _ (is_delivered at packet octets) = λ node. refl
ends _ (is_dropped at packet cause) = λ node. refl
ends _ (is_bad at layer refusal) = λ node. refl

module _ (P : Acted → Type 0) (alike : (a b : Acted) → IsAlike a b → P a → P b) where
  pub same : (a b : Acted) → b.controller.node ≡ a.controller.node → b.controller.table ≡ a.controller.table → b.controller.waiting ≡ a.controller.waiting → b.controller.changes ≡ a.controller.changes
      → TellsAlike a.notes b.notes → P a → P b
  same a b node table waiting changes told h = alike a b (record { node = node; table = table; waiting = waiting; changes = changes; told = told }) h

  pub noted_kept : (a : Acted) (item : Record) → IsOther item → P a → P (note a item)
  noted_kept a item other h = same a (note a item) refl refl refl refl (noted_alike a.notes item other) h

  -- *Sending*
  pub sends_kept : (a : Acted) (channel : Channel) (mark : Mark) (payload : List ℕ) → P a → P (sends a channel mark payload)
  sends_kept a channel mark payload h = on_both (λ (s : Sender Controller). P (record a { controller = s.queues; notes = s.notes })) (nat_le (length (frame_cells channel mark payload)) (free_slots a.controller))
      (record { queues = with_cells a.controller (frame_cells channel mark payload); notes = made a.notes mark payload })
      (record { queues = a.controller; notes = noted (made a.notes mark payload) (Loss mark PoolFull) })
      (same a _ refl refl refl refl (λ node. refl) h) (same a _ refl refl refl refl (full_alike a.notes mark payload) h)

  control_kept : (a : Acted) (channel : Channel) (payload : List ℕ) → P a → P (sends_control a channel payload)
  control_kept a channel payload h = (let given : Acted = record a { numbers = with_control a.numbers } in
      sends_kept given channel (next_control a.numbers) payload (same a given refl refl refl refl (λ node. refl) h))

  -- *Each change* of a controller
  pub keeps : Keeps (Unit {0}) P (AsksOnlyAt (Unit {0})) (IsAsked (Unit {0}))
  keeps = record {
    beginning = λ a linked found h. tt;
    working = asks_only_works;
    asking = λ setup desk w asks. asks;
    placing = λ a linked w found asks h. same a _ refl refl refl refl (λ node. refl) h;
    clearing = λ a linked found may h. same a _ refl refl refl refl (λ node. refl) h;
    saying = λ setup a message is h. control_kept a _ _ h;
    noting = λ setup a item is h. noted_kept a item (port_notes setup item is) h;
    withdrawing = λ setup a input is h. same a _ refl refl refl refl (λ node. refl) h;
    parting = λ a input h. noted_kept a (Part a.controller.node input.port (number_of_channel input.channel)) (λ node. refl) h;
    telling = λ a message h. control_kept a _ _ h;
    requesting = λ a request estab room h. same a _ refl refl refl refl (λ node. refl) h;
    resetting = λ a h. same a _ refl refl refl refl (λ node. refl) h;
    emptying = λ a h. same a _ refl refl refl refl (λ node. refl) h;
    meeting = λ a h. same a _ refl refl refl refl (λ node. refl) h;
    cutting_label = λ a linked label found h. same a _ refl refl refl refl (cut_alike a.notes (chain_of linked.chains label)) h;
    cutting_default = λ a linked found h. same a _ refl refl refl refl (cut_alike a.notes linked.reassembly) h;
    cutting_gsmp = λ a h. same a _ refl refl refl refl (cut_alike a.notes a.controller.reassembly) h;
    changing = λ a h. same a _ refl refl refl refl (λ node. refl) h;
  }

  -- *Packets*
  pub forwards : Forwards P
  forwards = record {
    sending = sends_kept;
    sending_control = control_kept;
    ending = λ a item is h. noted_kept a item (ends item is) h;
  }

  pub routes_kept : (a : Acted) (came : Mark) (packet : List ℕ) → P a → P (forwards_packet a came packet)
  routes_kept a came packet h = cells.routes_kept forwards a came packet h

  -- *A restart*, and a tick
  pub node_restarts_kept : (a : Acted) → P a → P (node_restarts a)
  node_restarts_kept a h = controllers.node_restarts_kept keeps a h

  pub ticks_kept : (a : Acted) → P a → P (ticks a)
  ticks_kept a h = controllers.ticks_kept keeps tt a (same a (record a { controller = record a.controller { adjacency = (ticked a.controller.adjacency).side } }) refl refl refl refl (λ node. refl) h) h
