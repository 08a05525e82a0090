-- the rules of a controller send frames, and enter no loss of a cell on its way, but that by which a cell comes

use Rattle.std.proofs.Common.{ℕ, List, refl}
use Rattle.world_model.specs.Words.{Channel, Mark, number_of_channel, next_control, with_control, Record, Part, Setup, sends_control, node_restarts, forwards_packet, Entry}
use Rattle.world_model.specs.port_model.Resets.{cleared}
use Rattle.world_model.specs.Controller.{Acted}
use Rattle.world_model.specs.Ticks.{ticks}
use Rattle.law_rule_walks.proofs.Ports.{IsNoted, is_opened, is_closed, is_bound, is_freed, is_joined, IsAsked}
use Rattle.law_rule_walks.proofs.Controllers.{Keeps, AsksOnlyAt, asks_only_works}
use Rattle.law_rule_walks.proofs.Controllers as controllers
use Rattle.law_rule_walks.proofs.Cells.{IsEnd, is_delivered, is_dropped, is_bad, Forwards}
use Rattle.law_rule_walks.proofs.Cells as cells
use Rattle.law_true_losses.proofs.Notes.{IsOther}
use Rattle.law_true_losses.proofs.Steps.{Base, Sent, noted_kept, placed_kept, sends_kept, label_cut, default_cut, cut_gsmp}

-- what a port notes is no loss, nor what is noted of a packet
port_notes : (setup : Setup) (item : Record) → IsNoted (Unit {0}) setup item → IsOther item
port_notes setup _ is_opened = refl
port_notes setup _ is_closed = refl
port_notes setup _ (is_bound binds label flow) = refl
port_notes setup _ (is_freed label) = refl
port_notes setup _ (is_joined label to_port to_label) = refl

ends : (item : Record) → IsEnd item → IsOther item
ends _ (is_delivered node packet octets) = refl
ends _ (is_dropped node packet cause) = refl
ends _ (is_bad node layer refusal) = refl

module _ (e x : List Entry) (base : Base) where
  abbrev P : Acted → Type 0
  P a = Sent e x base a

  control_kept : (a : Acted) (channel : Channel) (payload : List ℕ) → P a → P (sends_control a channel payload)
  control_kept a channel payload h = sends_kept e x base (record a { numbers = with_control a.numbers }) channel (next_control a.numbers) payload h

  -- *Each change* of a controller
  pub keeps : Keeps (Unit {0}) P (AsksOnlyAt (Unit {0})) (IsAsked (Unit {0}))
  keeps = record {
    beginning = λ a linked found h. tt;
    working = asks_only_works;
    asking = λ setup desk w asks. asks;
    placing = λ a linked w found asks h. placed_kept e x base (record a { numbers = record a.numbers { instances = w.instances } }) linked w.port found h;
    clearing = λ a linked found may h. placed_kept e x base a linked (cleared linked.port) found h;
    saying = λ setup a message is h. control_kept a _ _ h;
    noting = λ setup a item is h. noted_kept e x base a item (port_notes setup item is) h;
    withdrawing = λ setup a input is h. h;
    parting = λ a input h. noted_kept e x base a (Part a.controller.node input.port (number_of_channel input.channel)) refl h;
    telling = λ a message h. control_kept a _ _ h;
    requesting = λ a request estab room h. h;
    resetting = λ a h. h;
    emptying = λ a h. h;
    meeting = λ a h. h;
    cutting_label = λ a linked label found h. label_cut e x base a linked label found h;
    cutting_default = λ a linked found h. default_cut e x base a linked found h;
    cutting_gsmp = λ a h. cut_gsmp e x base a h;
    changing = λ a h. h;
  }

  -- *Packets*
  pub forwards : Forwards P
  forwards = record {
    sending = sends_kept e x base;
    sending_control = control_kept;
    ending = λ a item is h. noted_kept e x base a item (ends item is) h;
  }

  pub routes_kept : (a : Acted) (came : Mark) (packet : List ℕ) → P a → P (forwards_packet a came packet)
  routes_kept a came packet h = cells.routes_kept forwards a came packet h

  -- *A restart*, and a tick
  pub node_restarts_kept : (a : Acted) → P a → P (node_restarts a)
  node_restarts_kept a h = controllers.node_restarts_kept keeps a h

  pub ticks_kept : (a : Acted) → P a → P (ticks a)
  ticks_kept a h = controllers.ticks_kept keeps tt a h h
