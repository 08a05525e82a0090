-- what a controller reads, sends and keeps, without marks

use Rattle.std.proofs.Common.{◌≡◌, ℕ, ◌+◌, ◌-◌, Bool, true, false, ◌||◌, List, ◌++◌, length, map, Option, None, Some, refl, sym, ◌∙◌, ap, if◌then◌else◌}
use Rattle.std.specs.Prelude.{nat_le, nat_lt, flat_map}
use Rattle.std.specs.Option.{option_map, option_and_then, option_map_or}
use Rattle.std.proofs.lemmas.List.Folds.{flat_map-map}
use Rattle.world_model.specs.Words.{PortNo, Channel, End, Mark, FlowId, number_of_channel, next_control, with_control, Cell, noted, Loss, PoolFull, frame_cells, made, Reassembly, nothing_taken, label_at, Controller, Linked, LabelChain, chain_slots, port_slots, port_key, chain_key, linked_at, chain_of, chains_with, with_linked, sends_control, joins_of, joins_at, end_le, join_by, join_through, label_on, inputs_at, at, without, entered, key_le, in_order}
use Rattle.world_model.specs.frame_model.Sending.{Sender}
use Rattle.world_model.specs.Controller.{Acted, free_slots, ports_of}
use Rattle.world_model.specs.Sending.{with_cells, sends}
use Rattle.world_model.specs.Joins.{Join}
use Rattle.law_unmarked_controllers.specs.Unmarked.{no_mark, unmarked_cell, unmarked_cells, unmarked_numbers, unmarked_reassembly, unmarked_chain, unmarked_linked, unmarked_controller, shown, bare}
use Rattle.law_unmarked_controllers.proofs.Lists.{length_same, map_join, map_then, sum_same, at_same, put_same, without_same, entered_same}
use Rattle.law_unmarked_controllers.proofs.Notes.{shown_twice, entered_shown}
use Rattle.law_unmarked_controllers.proofs.Cells.{cells_twice, gathered_twice, frame_same, frame_length}

-- *Taken twice*
pub chains_twice : (chains : List LabelChain) → map unmarked_chain (map unmarked_chain chains) ≡ map unmarked_chain chains
chains_twice chains = map_then unmarked_chain unmarked_chain unmarked_chain (λ c. (λ i. record c { reassembly = gathered_twice c.reassembly i })) chains

pub linked_twice : (linked : Linked) → unmarked_linked (unmarked_linked linked) ≡ unmarked_linked linked
linked_twice linked = λ i. record linked { reassembly = gathered_twice linked.reassembly i; chains = chains_twice linked.chains i }

pub controller_twice : (c : Controller) → unmarked_controller (unmarked_controller c) ≡ unmarked_controller c
controller_twice c = λ i. record c {
  reassembly = gathered_twice c.reassembly i;
  ports = map_then unmarked_linked unmarked_linked unmarked_linked linked_twice c.ports i;
  queue = cells_twice c.queue i;
}

pub bare_twice : (a : Acted) → bare (bare a) ≡ bare a
bare_twice a = λ i. record { controller = controller_twice a.controller i; notes = shown_twice a.notes i; numbers = unmarked_numbers a.numbers }

-- *What is read of it*
pub chain_slots_same : (r : Reassembly) → chain_slots (unmarked_reassembly r) ≡ chain_slots r
chain_slots_same r = length_same unmarked_cell r.chain

port_slots_same : (linked : Linked) → port_slots (unmarked_linked linked) ≡ port_slots linked
port_slots_same linked = λ i. chain_slots_same linked.reassembly i + sum_same unmarked_chain (λ c. chain_slots c.reassembly) (λ c. chain_slots_same c.reassembly) linked.chains i

pub free_same : (c : Controller) → free_slots (unmarked_controller c) ≡ free_slots c
free_same c = λ i. c.cells - (length_same unmarked_cell c.queue i + (chain_slots_same c.reassembly i + sum_same unmarked_linked port_slots port_slots_same c.ports i))

pub linked_same : (c : Controller) (port : PortNo) → linked_at (unmarked_controller c) port ≡ option_map unmarked_linked (linked_at c port)
linked_same c port = at_same port_key unmarked_linked (λ linked. refl) port.0 c.ports

pub ports_same : (c : Controller) → ports_of (unmarked_controller c) ≡ ports_of c
ports_same c = map_then unmarked_linked (λ linked. linked.setup.port) (λ linked. linked.setup.port) (λ linked. refl) c.ports

pub joins_same : (c : Controller) → joins_of (unmarked_controller c) ≡ joins_of c
joins_same c = ap (in_order (λ (a b : Join). end_le a.input b.input)) (flat_map-map joins_at unmarked_linked c.ports)

pub inputs_same : (c : Controller) → flat_map inputs_at (unmarked_controller c).ports ≡ flat_map inputs_at c.ports
inputs_same c = flat_map-map inputs_at unmarked_linked c.ports

-- what is read of a port, and not of its chains
pub at_port_read : {X : Type 0} (read : Option Linked → X) → read (option_map unmarked_linked None) ≡ read None
    → ((linked : Linked) → read (Some (unmarked_linked linked)) ≡ read (Some linked)) → (c : Controller) (port : PortNo) → read (linked_at (unmarked_controller c) port) ≡ read (linked_at c port)
at_port_read {X} read none some c port = ap read (linked_same c port) ∙ by (linked_at c port)
  where
    by : (o : Option Linked) → read (option_map unmarked_linked o) ≡ read o
    by None = none
    by (Some linked) = some linked

pub label_same : (c : Controller) (input : End) → label_on (unmarked_controller c) input ≡ label_on c input
label_same c input = at_port_read (option_and_then (λ linked. label_at linked.port (number_of_channel input.channel))) refl (λ linked. refl) c input.port

pub join_for_same : (c : Controller) (input : End) (port : Option PortNo) (next : Option FlowId) → join_by (unmarked_controller c) input port next ≡ join_by c input port next
join_for_same c input None next = refl
join_for_same c input (Some port) None = refl
join_for_same c input (Some port) (Some next) = at_port_read (join_through input next) refl (λ linked. refl) c port

-- *A chain of a label* is kept, or found
pub chain_same : (chains : List LabelChain) (label : ℕ) → chain_of (map unmarked_chain chains) label ≡ unmarked_reassembly (chain_of chains label)
chain_same chains label = ap (λ o. option_map_or (λ (chain : LabelChain). chain.reassembly) o nothing_taken) (at_same chain_key unmarked_chain (λ c. refl) label chains) ∙ by (at chain_key label chains)
  where
    by : (o : Option LabelChain) → option_map_or (λ (chain : LabelChain). chain.reassembly) (option_map unmarked_chain o) nothing_taken ≡ unmarked_reassembly (option_map_or (λ (chain : LabelChain). chain.reassembly) o nothing_taken)
    by None = refl
    by (Some chain) = refl

pub chains_same : (chains : List LabelChain) (label : ℕ) (r : Reassembly) → chains_with (map unmarked_chain chains) label (unmarked_reassembly r) ≡ map unmarked_chain (chains_with chains label r)
chains_same chains label r = by (r.is_skipping || nat_lt 0 (chain_slots r)) (r.is_skipping || nat_lt 0 (chain_slots (unmarked_reassembly r))) (λ i. r.is_skipping || nat_lt 0 (chain_slots_same r i))
  where
    others : List LabelChain
    others = without chain_key label chains

    is_without : without chain_key label (map unmarked_chain chains) ≡ map unmarked_chain others
    is_without = without_same chain_key unmarked_chain (λ c. refl) label chains

    own : LabelChain
    own = record { label = label; reassembly = r }

    by : (kept other : Bool) → other ≡ kept
        → (if other then entered (key_le chain_key) (unmarked_chain own) (without chain_key label (map unmarked_chain chains)) else without chain_key label (map unmarked_chain chains))
        ≡ map unmarked_chain (if kept then entered (key_le chain_key) own others else others)
    by true other e = ap (λ (t : Bool). if t then entered (key_le chain_key) (unmarked_chain own) (without chain_key label (map unmarked_chain chains)) else without chain_key label (map unmarked_chain chains)) e
        ∙ ap (entered (key_le chain_key) (unmarked_chain own)) is_without ∙ entered_same chain_key unmarked_chain (λ c. refl) own others
    by false other e = ap (λ (t : Bool). if t then entered (key_le chain_key) (unmarked_chain own) (without chain_key label (map unmarked_chain chains)) else without chain_key label (map unmarked_chain chains)) e
        ∙ is_without

-- *A port is put back*
pub put_bare : (a : Acted) (linked : Linked) → bare (with_linked a linked) ≡ with_linked (bare a) (unmarked_linked linked)
put_bare a linked = λ i. record {
  controller = record (unmarked_controller a.controller) { ports = sym (put_same port_key unmarked_linked (λ l. refl) linked a.controller.ports) i };
  notes = shown a.notes;
  numbers = unmarked_numbers a.numbers;
}

pub placed : (a b : Acted) → bare a ≡ bare b → (one other : Linked) → unmarked_linked one ≡ unmarked_linked other → bare (with_linked a one) ≡ bare (with_linked b other)
placed a b e one other same = put_bare a one ∙ (λ i. with_linked (e i) (same i)) ∙ sym (put_bare b other)

-- *A frame is sent*: which cells join the queue hangs on slots alone
abbrev pub sent_bare : Acted → Channel → (payload : List ℕ) → Acted
sent_bare a channel payload = record a {
  controller =
      if nat_le (length (frame_cells channel no_mark payload)) (free_slots a.controller)
      then with_cells a.controller (frame_cells channel no_mark payload) else a.controller;
}

pub sends_bare : (a : Acted) (channel : Channel) (mark : Mark) (payload : List ℕ) → bare (sends a channel mark payload) ≡ sent_bare (bare a) channel payload
sends_bare a channel mark payload =
    by (nat_le (length cells) (free_slots a.controller))
    ∙ (λ i. record (bare a) { controller = if nat_le (frame_length channel mark payload i) (sym (free_same a.controller) i) then with_cells (unmarked_controller a.controller) (frame_cells channel no_mark payload) else unmarked_controller a.controller })
  where
    cells : List Cell
    cells = frame_cells channel mark payload

    full : Sender Controller
    full = record { queues = a.controller; notes = noted (made a.notes mark payload) (Loss mark PoolFull) }

    fits : Sender Controller
    fits = record { queues = with_cells a.controller cells; notes = made a.notes mark payload }

    by : (t : Bool) → bare (record a { controller = (if t then fits else full).queues; notes = (if t then fits else full).notes })
        ≡ record (bare a) { controller = if t then with_cells (unmarked_controller a.controller) (frame_cells channel no_mark payload) else unmarked_controller a.controller }
    by true = λ i. record (bare a) { controller = record (unmarked_controller a.controller) { queue = (map_join unmarked_cell a.controller.queue cells ∙ ap (λ (more : List Cell). unmarked_cells a.controller.queue ++ more) (frame_same channel mark payload)) i } }
    by false = λ i. record (bare a) { notes = entered_shown a.notes (Loss mark PoolFull) refl i }

-- under any two marks
pub sends_same : (a b : Acted) → bare a ≡ bare b → (channel : Channel) (mark other : Mark) (payload : List ℕ) → bare (sends a channel mark payload) ≡ bare (sends b channel other payload)
sends_same a b e channel mark other payload = sends_bare a channel mark payload ∙ ap (λ (x : Acted). sent_bare x channel payload) e ∙ sym (sends_bare b channel other payload)

pub control_same : (a b : Acted) → bare a ≡ bare b → (channel : Channel) (payload : List ℕ) → bare (sends_control a channel payload) ≡ bare (sends_control b channel payload)
control_same a b e channel payload =
    sends_same (record a { numbers = with_control a.numbers }) (record b { numbers = with_control b.numbers }) e channel (next_control a.numbers) (next_control b.numbers) payload
