-- whatever comes to a controller, its side of the adjacency with its switch is such a side still

use Rattle.std.proofs.Common.{◌≡◌, ℕ, List, [], ◌∷◌, length}
use Rattle.std.specs.Prelude.{nat_le}
use Rattle.world_model.specs.Words.{Channel, Mark, Cell, RouteChange, Action, Setup, Desk, Work, Loss, PoolFull, noted, frame_cells, made, next_control, with_control, Controller, Journal, Reassembly, sends_control, node_restarts, injected, change_comes, takes_change, ForGsmp, ForDefault, ForLabel, with_reassembly}
use Rattle.world_model.specs.gsmp_wire.declared.message.Message.{Message}
use Rattle.world_model.specs.frame_model.Sending.{Sender}
use Rattle.world_model.specs.Controller.{Acted, free_slots}
use Rattle.world_model.specs.Sending.{with_cells, sends}
use Rattle.world_model.specs.Gsmp.{message_comes}
use Rattle.world_model.specs.Cells.{Taker, cell_comes}
use Rattle.world_model.specs.Ticks.{ticks}
use Rattle.law_live_woken.specs.law_controller_facts.ordered_lists.Ordered.{Every}
use Rattle.law_live_woken.proofs.law_controller_facts.law_port_facts.Keyed.{on_both}
use Rattle.law_live_woken.proofs.law_controller_facts.Lifetimes.{decoded_lives}
use Rattle.law_live_woken.proofs.law_rule_walks.Controllers.{Keeps}
use Rattle.law_live_woken.proofs.law_rule_walks.Controllers as controllers
use Rattle.law_live_woken.proofs.law_rule_walks.Changes as route_changes
use Rattle.law_live_woken.proofs.law_rule_walks.Cells.{Forwards}
use Rattle.law_live_woken.proofs.law_rule_walks.Cells as cells
use Rattle.law_live_woken.specs.law_live_waking.Beats.{IsSuchSide}
use Rattle.law_live_rested.proofs.Sides.{heard_such, ticked_such, begun_such}

abbrev pub HasSide : Acted → Type 0
HasSide a = IsSuchSide a.controller.adjacency

-- of its ports at work, and of what they ask, nothing is asked
abbrev AnyWork : Setup → Desk → Work → Type 0
AnyWork setup desk w = Unit {0}

abbrev AnyAction : Setup → Action → Type 0
AnyAction setup action = Unit {0}

any_actions : (setup : Setup) (actions : List Action) → Every (AnyAction setup) actions
any_actions setup [] = tt
any_actions setup (action ∷ actions) = (tt, any_actions setup actions)

-- *Sending*
pub sends_has : (a : Acted) (channel : Channel) (mark : Mark) (payload : List ℕ) → HasSide a → HasSide (sends a channel mark payload)
sends_has a channel mark payload h = on_both (λ (s : Sender Controller). IsSuchSide s.queues.adjacency) (nat_le (length (frame_cells channel mark payload)) (free_slots a.controller))
    (record { queues = with_cells a.controller (frame_cells channel mark payload); notes = made a.notes mark payload })
    (record { queues = a.controller; notes = noted (made a.notes mark payload) (Loss mark PoolFull) }) h h

control_has : (a : Acted) (channel : Channel) (payload : List ℕ) → HasSide a → HasSide (sends_control a channel payload)
control_has a channel payload h = sends_has (record a { numbers = with_control a.numbers }) channel (next_control a.numbers) payload h

-- *Each change* of a controller
keeps : Keeps (Unit {0}) HasSide AnyWork AnyAction
keeps = record {
  beginning = λ a linked found h. tt;
  working = λ setup desk w v worked h. tt;
  asking = λ setup desk w h. any_actions setup w.actions;
  placing = λ a linked w found works h. h;
  clearing = λ a linked found may h. h;
  saying = λ setup a message is h. control_has a _ _ h;
  noting = λ setup a item is h. h;
  withdrawing = λ setup a input is h. h;
  parting = λ a input h. h;
  telling = λ a message h. control_has a _ _ h;
  requesting = λ a request estab room h. h;
  resetting = λ a h. begun_such _;
  emptying = λ a h. h;
  meeting = λ a h. h;
  cutting_label = λ a linked label found h. h;
  cutting_default = λ a linked found h. h;
  cutting_gsmp = λ a h. h;
  changing = λ a h. h;
}

forwards : Forwards HasSide
forwards = record {
  sending = sends_has;
  sending_control = control_has;
  ending = λ a item is h. h;
}

takes_has : (a : Acted) (change : RouteChange) (later : List RouteChange) → a.controller.waiting ≡ change ∷ later → HasSide a → HasSide (takes_change a change later)
takes_has a change later waits h = h

-- *A message of the switch*
told_has : (a : Acted) (message : Message) → HasSide a → HasSide (message_comes a message)
told_has a message h = route_changes.told_kept keeps takes_has tt (λ b answer k. k) a message (λ greeting is. heard_such a.controller.adjacency greeting h) h

gathered_has : (a : Acted) (taker : Taker) (notes : Journal) (r : Reassembly) → HasSide a → HasSide (with_reassembly (record a { notes = notes }) taker r)
gathered_has a ForGsmp notes r h = h
gathered_has a (ForDefault linked) notes r h = h
gathered_has a (ForLabel linked label) notes r h = h

-- *What comes*: a cell, a packet, a tick, a restart, a change of routes
pub cell_has : (a : Acted) (cell : Cell) → HasSide a → HasSide (cell_comes a cell)
cell_has a cell h = cells.cell_kept forwards keeps tt decoded_lives told_has (λ b ended k. k) (λ b mark k. k) (λ b taker one found k. gathered_has b taker _ _ k) a cell h

pub injected_has : (a : Acted) (number : ℕ) (packet : List ℕ) → HasSide a → HasSide (injected a number packet)
injected_has a number packet h = cells.routes_kept forwards a (record { packet = number; frame = 0 }) packet h

pub ticks_has : (a : Acted) → HasSide a → HasSide (ticks a)
ticks_has a h = controllers.ticks_kept keeps tt a (ticked_such a.controller.adjacency h) h

pub restarts_has : (a : Acted) → HasSide a → HasSide (node_restarts a)
restarts_has a h = controllers.node_restarts_kept keeps a h

pub change_has : (a : Acted) (change : RouteChange) → HasSide a → HasSide (change_comes a change)
change_has a change h = route_changes.change_comes_kept keeps takes_has a change h
