-- a controller notes no `Bad`, whatever it does but for what it reads in a frame

use Rattle.std.proofs.Common.{◌≡◌, length, List, ◌∷◌, ℕ, ◌+◌, refl}
use Rattle.std.specs.Prelude.{nat_le}
use Rattle.world_model.specs.Words.{Channel, Mark, number_of_channel, next_control, with_control, RouteChange, Record, Loss, Part, Routes, PoolFull, noted, frame_cells, made, Setup, Controller, chain_of, sends_control, takes_change}
use Rattle.world_model.specs.frame_model.Sending.{Sender}
use Rattle.law_frame_readings.proofs.law_port_facts.Keyed.{on_both}
use Rattle.world_model.specs.Controller.{Acted, free_slots}
use Rattle.world_model.specs.Sending.{with_cells, sends}
use Rattle.law_rule_walks.proofs.Ports.{IsNoted, is_opened, is_closed, is_bound, is_freed, is_joined, IsAsked}
use Rattle.law_rule_walks.proofs.Controllers.{Keeps, AsksOnlyAt, asks_only_works}
use Rattle.law_control_places.proofs.Notes.{IsFair, AreFair, note_fair, cut_fair}

-- *No record is `Bad`* of a controller at work
abbrev pub Has : Acted → Type 0
Has a = AreFair a.notes

-- *Sending*
pub sends_fair : (a : Acted) (channel : Channel) (mark : Mark) (payload : List ℕ) → Has a → Has (sends a channel mark payload)
sends_fair a channel mark payload h = on_both (λ (s : Sender Controller). AreFair s.notes) (nat_le (length (frame_cells channel mark payload)) (free_slots a.controller))
    (record { queues = with_cells a.controller (frame_cells channel mark payload); notes = made a.notes mark payload })
    (record { queues = a.controller; notes = noted (made a.notes mark payload) (Loss mark PoolFull) })
    h (note_fair (made a.notes mark payload) (Loss mark PoolFull) refl h)

pub control_fair : (a : Acted) (channel : Channel) (payload : List ℕ) → Has a → Has (sends_control a channel payload)
control_fair a channel payload h = sends_fair (record a { numbers = with_control a.numbers }) channel (next_control a.numbers) payload h

-- *What a port notes*
noted_fair : (setup : Setup) (item : Record) → IsNoted (Unit {0}) setup item → IsFair item
noted_fair setup _ is_opened = refl
noted_fair setup _ is_closed = refl
noted_fair setup _ (is_bound binds label flow) = refl
noted_fair setup _ (is_freed label) = refl
noted_fair setup _ (is_joined label to_port to_label) = refl

-- *Each change* of a controller
pub fair : Keeps (Unit {0}) Has (AsksOnlyAt (Unit {0})) (IsAsked (Unit {0}))
fair = record {
  beginning = λ a linked found h. tt;
  working = asks_only_works;
  asking = λ setup desk w asks. asks;
  placing = λ a linked w found asks h. h;
  clearing = λ a linked found may h. h;
  saying = λ setup a message is h. control_fair a _ _ h;
  noting = λ setup a item is h. note_fair a.notes item (noted_fair setup item is) h;
  withdrawing = λ setup a input is h. h;
  parting = λ a input h. note_fair a.notes (Part a.controller.node input.port (number_of_channel input.channel)) refl h;
  telling = λ a message h. control_fair a _ _ h;
  requesting = λ a request estab room h. h;
  resetting = λ a h. h;
  emptying = λ a h. h;
  meeting = λ a h. h;
  cutting_label = λ a linked label found h. cut_fair a.notes (chain_of linked.chains label) h;
  cutting_default = λ a linked found h. cut_fair a.notes linked.reassembly h;
  cutting_gsmp = λ a h. cut_fair a.notes a.controller.reassembly h;
  changing = λ a h. h;
}

pub takes_fair : (a : Acted) (change : RouteChange) (later : List RouteChange) → a.controller.waiting ≡ change ∷ later → Has a → Has (takes_change a change later)
takes_fair a change later waits h = note_fair a.notes (Routes a.controller.node (a.controller.changes + 1)) refl h
