-- a controller and a switch gather cells of GSMP's channel alone in its chain

use Rattle.std.proofs.Common.{◌≡◌, ℕ, Bool, true, List, [], ◌∷◌, ◌++◌, length, Option, None, Some, Result, Ok, Err, refl, sym, ◌∙◌, subst}
use Rattle.std.specs.Prelude.{◌==◌, ◌&&◌, nat_le, nat_lt}
use Rattle.law_world_pace.specs.world_model.Words.{PortNo, Channel, Mark, Party, next_control, with_control, Said, Answer, Quiet, Send, Open, Step, is_estab, ticked, greeting_of, gsmp_answer, gsmp_received, Cell, RouteChange, Frame, Loss, PoolFull, Refusal, noted, frame_cells, made, next_mark, Tested, tested, Routed, routed, Switch, control_port, gsmp_channel, asked_in, is_request, failure_of, handled, handled_asked, handled_by, Controller, Linked, default_channel, same_channel, inject_refusal, sends_control}
use Rattle.law_world_pace.specs.world_model.adjacency_table.declared.message.Answer.TheVariants.{Reset}
use Rattle.law_world_pace.specs.world_model.gsmp_wire.declared.fault.Fault.{Fault}
use Rattle.law_world_pace.specs.world_model.gsmp_wire.declared.message.Message.{Message}
use Rattle.law_world_pace.specs.world_model.gsmp_wire.declared.message.Message.TheVariants as messages
use Rattle.law_world_pace.specs.world_model.gsmp_wire.Layout.{octets_of}
use Rattle.law_world_pace.specs.world_model.gsmp_wire.Fields.{decoded}
use Rattle.law_world_pace.specs.world_model.ipv4_forward.declared.table.Route.{Route}
use Rattle.law_world_pace.specs.world_model.frame_model.Sending.{Sender}
use Rattle.law_world_pace.specs.world_model.frame_model.Reassembly.{Taken, taken}
use Rattle.law_controller_bindings.specs.ordered_lists.Ordered.{Every}
use Rattle.law_controller_bindings.proofs.ordered_lists.Every.{every_join, every_all}
use Rattle.law_controller_bindings.proofs.law_port_facts.Keyed.{on_both, on_each}
use Rattle.law_controller_bindings.proofs.law_port_facts.Rules.{and_second}
use Rattle.law_world_pace.specs.world_model.crossbar_model.declared.routed.Routed.TheVariants as routes_of
use Rattle.law_world_pace.specs.world_model.switch_model.declared.request.Asked.{Asked}
use Rattle.law_world_pace.specs.world_model.gsmp_wire.declared.failure.Failure.{Failure}
use Rattle.law_world_pace.specs.world_model.Switch as switches
use Rattle.law_world_pace.specs.world_model.Conduct as switch
use Rattle.law_world_pace.specs.world_model.Controller.{Acted, free_slots}
use Rattle.law_world_pace.specs.world_model.Sending.{with_cells, sends}
use Rattle.law_controller_bindings.specs.law_controller_facts.Inputs.{Input, CellComes, PacketEnters, Ticks, Restarts, ChangeComes, FrameIsForged, CellLeaves, Meanwhile, enters_unless, takes_input}
use Rattle.law_run_facts.specs.Inputs as turns
use Rattle.law_run_facts.specs.Inputs.{SwitchInput, switch_takes}
use Rattle.law_run_facts.proofs.Taking.{taken_chain}
use Rattle.law_run_facts.proofs.Walks.{Has}
use Rattle.law_run_facts.proofs.Sending.{change_walk, tick_walk, restart_walk}
use Rattle.law_run_facts.proofs.Coming.{routed_walk, cell_walk}

abbrev pub IsOwn : Cell → Type 0
IsOwn cell = same_channel cell.header.channel default_channel ≡ true

-- *A controller*
abbrev HasChain : (queue chain : List Cell) → List Frame → (controls : ℕ) → Type 0
HasChain queue chain frames controls = Every IsOwn chain

abbrev AnyTable : List Route → Type 0
AnyTable table = Unit {0}

abbrev AnyChange : RouteChange → Type 0
AnyChange change = Unit {0}

abbrev AnyChain : (controls : ℕ) → PortNo → (chain : List Cell) → Type 0
AnyChain controls port chain = Unit {0}

sent : (a : Acted) (channel : Channel) (mark : Mark) (payload : List ℕ) → Every IsOwn a.controller.reassembly.chain → Every IsOwn (sends a channel mark payload).controller.reassembly.chain
sent a channel mark payload h = on_both (λ (s : Sender Controller). Every IsOwn s.queues.reassembly.chain) (nat_le (length (frame_cells channel mark payload)) (free_slots a.controller))
    (record { queues = with_cells a.controller (frame_cells channel mark payload); notes = made a.notes mark payload })
    (record { queues = a.controller; notes = noted (made a.notes mark payload) (Loss mark PoolFull) }) h h

controls : (a : Acted) (channel : Channel) (payload : List ℕ) → Every IsOwn a.controller.reassembly.chain → Every IsOwn (sends_control a channel payload).controller.reassembly.chain
controls a channel payload h = sent (record a { numbers = with_control a.numbers }) channel (next_control a.numbers) payload h

begin : (a : Acted) → Every IsOwn a.controller.reassembly.chain → Has HasChain AnyTable AnyChange AnyChain a
begin a h = (h, tt, every_all AnyChange a.controller.waiting (λ change. tt), every_all (λ (linked : Linked). Unit {0}) a.controller.ports (λ linked. tt))

enters : (a : Acted) (number : ℕ) (octets : List ℕ) (o : Option Refusal) → Every IsOwn a.controller.reassembly.chain → Every IsOwn (enters_unless a number octets o).controller.reassembly.chain
enters a number octets (Some refusal) h = h
enters a number octets None h = (routed_walk HasChain AnyTable AnyChange AnyChain controls (λ queue chain frames n k. tt) (λ n port chain k. tt) (λ n port. tt) (λ table change k l. tt)
    (record { packet = number; frame = 0 }) (Unit {0}) (λ queue chain frames n cell e own k. every_join IsOwn chain (cell ∷ []) k (own, tt)) (λ b linked cell e found k d. tt)
    (λ last b channel payload off k. sent b channel (next_mark (record { packet = number; frame = 0 })) payload k) tt a octets (begin a h)).0

pub input_chain : (a : Acted) (input : Input) → Every IsOwn a.controller.reassembly.chain → Every IsOwn (takes_input a input).controller.reassembly.chain
input_chain a (CellComes cell) h = (cell_walk HasChain AnyTable AnyChange AnyChain controls (λ queue chain frames n k. tt) (λ n port chain k. tt) (λ n port. tt) (λ table change k l. tt)
    cell.mark (Unit {0}) (λ queue chain frames n c e own k. every_join IsOwn chain (c ∷ []) k (own, tt)) (λ b linked c e found k d. tt)
    (λ last b channel payload off k. sent b channel (next_mark cell.mark) payload k) a cell refl (λ e. tt) (begin a h)).0
input_chain a (PacketEnters number octets) h = enters a number octets (inject_refusal octets) h
input_chain a Ticks h = (tick_walk HasChain AnyTable AnyChange AnyChain controls (λ queue chain frames n k. tt) (λ n port chain k. tt) (λ n port. tt) (λ table change k l. tt) a (begin a h)).0
input_chain a Restarts h = (restart_walk HasChain AnyTable AnyChange AnyChain controls (λ queue chain frames n k. tt) (λ n port chain k. tt) (λ n port. tt) (λ table change k l. tt) a (begin a h)).0
input_chain a (ChangeComes change) h = (change_walk HasChain AnyTable AnyChange AnyChain controls (λ queue chain frames n k. tt) (λ n port chain k. tt) (λ n port. tt) (λ table change k l. tt) a change tt
    (begin (record a { controller = record a.controller { waiting = a.controller.waiting ++ change ∷ [] } }) h)).0
input_chain a (FrameIsForged channel mark payload) h = sent a channel mark payload h
input_chain a CellLeaves h = h
input_chain a (Meanwhile notes numbers) h = h

-- *A switch*: its chain stays but as a cell of GSMP's channel comes, and as it restarts
abbrev Same : switches.ActedSwitch → switches.ActedSwitch → Type 0
Same a b = b.switch.reassembly ≡ a.switch.reassembly

pub sends_same : (a : switches.ActedSwitch) (port : PortNo) (channel : Channel) (mark : Mark) (payload : List ℕ) → Same a (switch.sends a port channel mark payload)
sends_same a port channel mark payload = on_both (λ (s : Sender Switch). s.queues.reassembly ≡ a.switch.reassembly) (nat_le (length (frame_cells channel mark payload)) (switches.free_slots a.switch))
    (record { queues = switch.with_cells a.switch port (frame_cells channel mark payload); notes = made a.notes mark payload })
    (record { queues = a.switch; notes = noted (made a.notes mark payload) (Loss mark PoolFull) }) refl refl

says_same : (a : switches.ActedSwitch) (message : Message) → Same a (switch.says a message)
says_same a message = sends_same (record a { numbers = with_control a.numbers }) control_port gsmp_channel (next_control a.numbers) (octets_of message)

answers_same : (a : switches.ActedSwitch) (answer : Answer (Said Party) Party) → Same a (switch.answers a (gsmp_answer answer))
answers_same a Quiet = refl
answers_same a (Send message) = says_same a (messages.Adjacency (greeting_of message))
answers_same a (Open None own) = refl
answers_same a (Open (Some message) own) = says_same a (messages.Adjacency (greeting_of message))
answers_same a Reset = refl

steps_same : (a : switches.ActedSwitch) (step : Step Party) → Same a (switch.steps a step)
steps_same a step = answers_same (record a { switch = record a.switch { adjacency = step.side } }) step.answer

handled_same : (a : switches.ActedSwitch) (m : Message) (o : Option Asked) → (handled_asked a.switch a.notes m o).switch.reassembly ≡ a.switch.reassembly
handled_same a m None = refl
handled_same a m (Some asked) = by (failure_of a.switch.ports a.switch.vpis a.switch.crossbar.branches asked)
  where
    by : (o : Option Failure) → (handled_by a.switch a.notes m asked.request o).switch.reassembly ≡ a.switch.reassembly
    by (Some failure) = refl
    by None = refl

requested_same : (a : switches.ActedSwitch) (m : Message) → Same a (switch.requested a m)
requested_same a m = on_both (Same a) (is_request m && is_estab a.switch.adjacency.state) (switch.replied a (handled a.switch a.notes m)) a
    (says_same (record a { switch = (handled a.switch a.notes m).switch; notes = (handled a.switch a.notes m).notes }) (handled a.switch a.notes m).answer ∙ handled_same a m (asked_in m)) refl

told_same : (a : switches.ActedSwitch) (m : Message) → Same a (switch.message_heard a m)
told_same a (messages.Adjacency greeting) = steps_same a (gsmp_received a.switch.adjacency greeting)
told_same a (messages.Branch kind result code number session input_port input output_port output branches priority) =
    requested_same a (messages.Branch kind result code number session input_port input output_port output branches priority)
told_same a (messages.Move result code number session input_port input output_port output target_port target branches priority) =
    requested_same a (messages.Move result code number session input_port input output_port output target_port target branches priority)
told_same a (messages.Port result code number port session function) = requested_same a (messages.Port result code number port session function)
told_same a (messages.AllPorts result code number rows) = requested_same a (messages.AllPorts result code number rows)

read_same : (a : switches.ActedSwitch) (r : Result Message Fault) → Same a (switch.frame_read a r)
read_same a (Ok m) = told_same a m
read_same a (Err fault) = refl

opened_same : (a : switches.ActedSwitch) (o : Option (List ℕ)) → Same a (switch.opened_frame a o)
opened_same a None = refl
opened_same a (Some payload) = read_same a (decoded payload)

ends_same : (a : switches.ActedSwitch) (cells : List Cell) → Same a (switch.ends_frame a cells)
ends_same a [] = refl
ends_same a (cell ∷ cells) = (let test : Tested = tested a.notes (cell ∷ cells) in opened_same (record a { notes = test.notes }) test.payload)

gsmp_chain : (a : switches.ActedSwitch) (cell : Cell) → IsOwn cell → Every IsOwn a.switch.reassembly.chain → Every IsOwn (switch.gsmp_cell a cell).switch.reassembly.chain
gsmp_chain a cell own h =
    let slot : Bool = nat_lt 0 (switches.free_slots a.switch) in
    let t : Taken = taken a.notes slot a.switch.reassembly cell in
    let b : switches.ActedSwitch = record a { switch = record a.switch { reassembly = t.reassembly }; notes = t.notes } in
    subst (λ r. Every IsOwn r.chain) (sym (ends_same b t.ended))
    (taken_chain (Every IsOwn) a.notes slot a.switch.reassembly cell h tt (every_join IsOwn a.switch.reassembly.chain (cell ∷ []) h (own, tt)))

passed_same : (a : switches.ActedSwitch) (port : PortNo) (cell : Cell) (r : Routed) → Same a (switch.cell_routed a port cell r)
passed_same a port cell (routes_of.Out output) = refl
passed_same a port cell routes_of.Unconnected = refl
passed_same a port cell routes_of.PoolFull = refl

pub switch_chain : (a : switches.ActedSwitch) (input : SwitchInput) → Every IsOwn a.switch.reassembly.chain → Every IsOwn (switch_takes a input).switch.reassembly.chain
switch_chain a (turns.CellComes port cell) h = on_each (λ (b : switches.ActedSwitch). Every IsOwn b.switch.reassembly.chain) (switch.is_gsmp port cell.header.channel) (switch.gsmp_cell a cell) (switch.switched_cell a port cell)
    (λ own. gsmp_chain a cell (and_second (port.0 == 0) ((cell.header.channel.vpi == 0) && (cell.header.channel.vci == 15)) own) h)
    (λ other. subst (λ r. Every IsOwn r.chain) (sym (passed_same a port cell (routed a.switch.crossbar (switches.free_slots a.switch) port cell))) h)
switch_chain a turns.Ticks h = subst (λ r. Every IsOwn r.chain) (sym (steps_same a (ticked a.switch.adjacency))) h
switch_chain a turns.Restarts h = tt
