-- what each input of a switch leaves of marks, frames, records and instances

use Rattle.std.proofs.Common.{◌≡◌, ℕ, zero, suc, ◌<◌, ◌≤◌, ◌+◌, Bool, List, [], ◌∷◌, ◌++◌, length, Option, None, Some, Result, Ok, Err, refl, sym, ◌∙◌, ap, subst, arith, map, ◌⊎◌, inl, inr}
use Rattle.std.specs.Prelude.{◌==◌, ◌&&◌, nat_le, nat_lt}
use Rattle.std.specs.FinMap.{get, keys}
use Rattle.std.specs.List.{range_with_len}
use Rattle.std.specs.Prelude.{◌/◌}
use Rattle.law_world_pace.specs.world_model.Words.{PortNo, Channel, End, Mark, Party, with_control, Cell, Said, Answer, Quiet, Send, Open, Side, Step, is_estab, ticked, followed_tick, Reply, Silent, Says, Resets, tick_reply, greeting_of, gsmp_answer, gsmp_received, Request, AddBranch, MoveBranch, DeleteTree, VerifyTree, PortManagement, Journal, noted, Loss, Bad, PoolFull, Cut, Unconnected, Gsmp, gsmp_refusal, frame_cells, made, Tested, tested, cut, Routed, Crossbar, queue_of, sent, switched_on, on_channel_of, routed, cut_by_move, Switch, control_port, gsmp_channel, Changed, asked_in, is_request, noted_cut, moved_by, ended_by, all_ended, inputs_on, branches_after, failure_of, Handled, handled, handled_asked, handled_by, reset, replied, requested, frame_read, gsmp_cell, switched_cell, is_gsmp, restarted}
use Rattle.law_lifetimes.specs.aal5_frames.Frame.{cells_with, cell_of, pdu_of}
use Rattle.law_world_pace.specs.world_model.adjacency_table.declared.message.Answer.TheVariants.{Reset}
use Rattle.law_world_pace.specs.world_model.adjacency_table.Side.{counted}
use Rattle.law_world_pace.specs.world_model.gsmp_wire.declared.fault.Fault.{Fault}
use Rattle.law_world_pace.specs.world_model.gsmp_wire.declared.message.Message.{Message}
use Rattle.law_world_pace.specs.world_model.gsmp_wire.declared.message.Message.TheVariants as messages
use Rattle.law_world_pace.specs.world_model.gsmp_wire.declared.request.Request.TheVariants.{DeleteAll, AllPorts}
use Rattle.law_world_pace.specs.world_model.gsmp_wire.Layout.{octets_of}
use Rattle.law_world_pace.specs.world_model.gsmp_wire.Fields.{decoded}
use Rattle.law_world_pace.specs.world_model.frame_model.Sending.{Sender}
use Rattle.law_world_pace.specs.world_model.frame_model.Reassembly.{Taken, taken}
use Rattle.law_controller_bindings.specs.ordered_lists.Ordered.{Every}
use Rattle.law_controller_bindings.proofs.ordered_lists.Every.{every_join, every_map}
use Rattle.law_controller_bindings.proofs.law_port_facts.Keyed.{on_both}
use Rattle.law_world_pace.specs.world_model.crossbar_model.declared.branch.Branch.{Branch}
use Rattle.law_world_pace.specs.world_model.crossbar_model.declared.routed.Routed.TheVariants as routes
use Rattle.law_world_pace.specs.world_model.crossbar_model.Crossbar.{input_of}
use Rattle.law_world_pace.specs.world_model.switch_model.declared.request.Asked.{Asked}
use Rattle.law_world_pace.specs.world_model.gsmp_wire.declared.failure.Failure.{Failure}
use Rattle.law_world_pace.specs.world_model.Switch.{ActedSwitch, free_slots}
use Rattle.law_world_pace.specs.world_model.Requests.{branch_ended}
use Rattle.law_world_pace.specs.world_model.Conduct.{with_cells, sends, says, answers, steps, message_heard, opened_frame, ends_frame, cell_routed, cell_comes}
use Rattle.law_world_pace.proofs.law_actor_pace.Cells.{every_set, every_at}
use Rattle.law_run_facts.specs.Inputs.{IsMark, IsMarked, SwitchInput, CellComes, Ticks, Restarts, switch_takes}
use Rattle.law_run_facts.specs.Frames.{IsFree, Stay, BindsNone}
use Rattle.law_run_facts.proofs.Taking.{cut_frames, taken_frames, tested_frames, taken_chain}
use Rattle.law_run_facts.proofs.Frames.{free_next, stay_more, noted_binds, binds_then, cut_binds, taken_binds, tested_binds}

-- *Cells under marks that were given out*
abbrev pub AreMarked : (controls : ℕ) → List Cell → Type 0
AreMarked controls cells = Every (IsMarked controls) cells

every_mapped : {A B : Type 0} (P : B → Type 0) (f : A → B) (xs : List A) → ((x : A) → P (f x)) → Every P (map f xs)
every_mapped P f [] each = tt
every_mapped P f (x ∷ xs) each = (each x, every_mapped P f xs each)

pub mark_later : (less more : ℕ) → less ≤ more → (mark : Mark) → IsMark less mark → IsMark more mark
mark_later less more le mark h none = (let k = h none in (k.0, omega (arith, k.1, le)))

pub marked_later : (less more : ℕ) → less ≤ more → (cells : List Cell) → AreMarked less cells → AreMarked more cells
marked_later less more le cells h = every_map (IsMarked less) (IsMarked more) cells (λ cell. mark_later less more le cell.mark) h

pub queues_later : (less more : ℕ) → less ≤ more → (queues : List (List Cell)) → Every (AreMarked less) queues → Every (AreMarked more) queues
queues_later less more le queues h = every_map (AreMarked less) (AreMarked more) queues (marked_later less more le) h

pub frame_marked : (controls : ℕ) (channel : Channel) (mark : Mark) (payload : List ℕ) → IsMark controls mark → AreMarked controls (frame_cells channel mark payload)
unfolding cells_with
frame_marked controls channel mark payload is =
    every_mapped (IsMarked controls) (cell_of channel mark (pdu_of payload)) (range_with_len 0 (length (pdu_of payload) / 48)) (λ k. is)

-- the next control mark is one, once it is given out
pub next_is_mark : (controls : ℕ) → IsMark (controls + 1) (record { packet = 0; frame = controls + 1 })
next_is_mark controls none = (omega arith, omega arith)

-- *What a switch leaves*: its own instance is as it was, or new; at most so many numbers are drawn
abbrev pub own_of : ActedSwitch → ℕ
own_of a = a.switch.adjacency.own.instance.0

pub record Leaves (n : ℕ) (a b : ActedSwitch) : Type 0 where
  pub queues : Every (AreMarked a.numbers.controls) a.switch.crossbar.queues → Every (AreMarked b.numbers.controls) b.switch.crossbar.queues
  pub chain : AreMarked a.numbers.controls a.switch.reassembly.chain → AreMarked b.numbers.controls b.switch.reassembly.chain
  pub free : IsFree a.numbers.controls a.notes.frames → IsFree b.numbers.controls b.notes.frames
  pub stay : IsFree a.numbers.controls a.notes.frames → Stay a.notes.frames b.notes.frames
  pub controls : (a.numbers.controls ≤ b.numbers.controls) × (b.numbers.controls ≤ a.numbers.controls + n)
  pub instances : (a.numbers.instances ≤ b.numbers.instances) × (b.numbers.instances ≤ a.numbers.instances + n)
  pub own : (own_of b ≡ own_of a) ⊎ ((a.numbers.instances < own_of b) × (own_of b ≤ b.numbers.instances))
  pub binds : BindsNone a.notes.records b.notes.records

pub itself : (a : ActedSwitch) → Leaves 0 a a
itself a = record { queues = λ h. h; chain = λ h. h; free = λ h. h; stay = λ h mark payload e. e; controls = (omega arith, omega arith); instances = (omega arith, omega arith); own = inl refl; binds = λ end label. refl }

pub leaves_then : (n m : ℕ) (a b c : ActedSwitch) → Leaves n a b → Leaves m b c → Leaves (n + m) a c
leaves_then n m a b c p q = record {
  queues = λ h. q.queues (p.queues h);
  chain = λ h. q.chain (p.chain h);
  free = λ h. q.free (p.free h);
  stay = λ h mark payload e. q.stay (p.free h) mark payload (p.stay h mark payload e);
  controls = (omega (arith, p.controls, q.controls), omega (arith, p.controls, q.controls));
  instances = (omega (arith, p.instances, q.instances), omega (arith, p.instances, q.instances));
  own = elim q.own [
    | inl same ↦ elim p.own [
      | inl too ↦ inl (same ∙ too)
      | inr new ↦ inr (omega (arith, same, new.0), omega (arith, same, new.1, q.instances))
    ]
    | inr new ↦ inr (omega (arith, new.0, p.instances), new.1)
  ];
  binds = binds_then a.notes.records b.notes.records c.notes.records p.binds q.binds;
}

pub more : (n m : ℕ) (a b : ActedSwitch) → n ≤ m → Leaves n a b → Leaves m a b
more n m a b le p = record { queues = p.queues; chain = p.chain; free = p.free; stay = p.stay; controls = (p.controls.0, omega (arith, p.controls.1, le)); instances = (p.instances.0, omega (arith, p.instances.1, le)); own = p.own; binds = p.binds }

-- nothing that is looked at changes
same : (a b : ActedSwitch) → b.numbers ≡ a.numbers → b.switch.crossbar.queues ≡ a.switch.crossbar.queues → b.switch.reassembly.chain ≡ a.switch.reassembly.chain → b.notes.frames ≡ a.notes.frames
    → own_of b ≡ own_of a → BindsNone a.notes.records b.notes.records → Leaves 0 a b
same a b numbers queues chain frames own binds = record {
  queues = λ h. subst (Every (AreMarked b.numbers.controls)) (sym queues) (subst (λ g. Every (AreMarked g.controls) a.switch.crossbar.queues) (sym numbers) h);
  chain = λ h. subst (AreMarked b.numbers.controls) (sym chain) (subst (λ g. AreMarked g.controls a.switch.reassembly.chain) (sym numbers) h);
  free = λ h. subst (IsFree b.numbers.controls) (sym frames) (subst (λ g. IsFree g.controls a.notes.frames) (sym numbers) h);
  stay = λ h. subst (Stay a.notes.frames) (sym frames) (λ mark payload e. e);
  controls = (omega (arith, ap (λ g. g.controls) numbers), omega (arith, ap (λ g. g.controls) numbers));
  instances = (omega (arith, ap (λ g. g.instances) numbers), omega (arith, ap (λ g. g.instances) numbers));
  own = inl own;
  binds = binds;
}

-- *Sending*
put_marked : (controls : ℕ) (x : Crossbar) (port : PortNo) (cells : List Cell) → AreMarked controls cells → Every (AreMarked controls) x.queues → Every (AreMarked controls) (sent x port cells).queues
put_marked controls x port cells is h = every_set (AreMarked controls) x.queues port.0 (queue_of x port ++ cells) h
    (every_join (IsMarked controls) (queue_of x port) cells (every_at (AreMarked controls) x.queues port.0 [] h tt) is)

-- a frame under a mark that was given out just now
module _ (a : ActedSwitch) (port : PortNo) (channel : Channel) (payload : List ℕ) where
  abbrev given : ActedSwitch
  given = record a { numbers = with_control a.numbers }

  abbrev marked_next : Mark
  marked_next = record { packet = 0; frame = a.numbers.controls + 1 }

  pub sends_leave : Leaves 1 a (sends (record a { numbers = with_control a.numbers }) port channel (record { packet = 0; frame = a.numbers.controls + 1 }) payload)
  sends_leave = on_both (λ (s : Sender Switch). Leaves 1 a (record a { switch = s.queues; notes = s.notes; numbers = with_control a.numbers })) (nat_le (length (frame_cells channel marked_next payload)) (free_slots a.switch))
      (record { queues = with_cells a.switch port (frame_cells channel marked_next payload); notes = made a.notes marked_next payload })
      (record { queues = a.switch; notes = noted (made a.notes marked_next payload) (Loss marked_next PoolFull) })
      (record {
        queues = λ h. put_marked (a.numbers.controls + 1) a.switch.crossbar port (frame_cells channel marked_next payload) (frame_marked (a.numbers.controls + 1) channel marked_next payload (next_is_mark a.numbers.controls))
            (queues_later a.numbers.controls (a.numbers.controls + 1) (omega arith) a.switch.crossbar.queues h);
        chain = marked_later a.numbers.controls (a.numbers.controls + 1) (omega arith) a.switch.reassembly.chain;
        free = free_next a.numbers.controls a.notes.frames payload;
        stay = λ h. stay_more a.notes.frames a.notes.frames marked_next payload (h (a.numbers.controls + 1) (omega arith)) (λ mark octets e. e);
        controls = (omega arith, omega arith);
        instances = (omega arith, omega arith);
        own = inl refl;
        binds = λ end label. refl;
      })
      (record {
        queues = queues_later a.numbers.controls (a.numbers.controls + 1) (omega arith) a.switch.crossbar.queues;
        chain = marked_later a.numbers.controls (a.numbers.controls + 1) (omega arith) a.switch.reassembly.chain;
        free = free_next a.numbers.controls a.notes.frames payload;
        stay = λ h. stay_more a.notes.frames a.notes.frames marked_next payload (h (a.numbers.controls + 1) (omega arith)) (λ mark octets e. e);
        controls = (omega arith, omega arith);
        instances = (omega arith, omega arith);
        own = inl refl;
        binds = noted_binds (made a.notes marked_next payload) (Loss marked_next PoolFull) (λ end label. refl);
      })

says_leave : (a : ActedSwitch) (message : Message) → Leaves 1 a (says a message)
says_leave a message = sends_leave a control_port gsmp_channel (octets_of message)

-- *Adjacency*: a message or a tick leaves the own party
pub tick_own : {P : Type 0} (side : Side P) → (ticked side).side.own ≡ side.own
tick_own {P} side = by (tick_reply side.state (counted side.state side.silence))
  where
    by : (reply : Reply) → (followed_tick side reply).side.own ≡ side.own
    by Silent = refl
    by (Says kind) = refl
    by Resets = refl

reset_leaves : (a : ActedSwitch) → Leaves 1 a (reset a)
reset_leaves a = record { queues = λ h. h; chain = λ h. h; free = λ h. h; stay = λ h mark payload e. e; controls = (omega arith, omega arith); instances = (omega arith, omega arith); own = inr (omega arith, omega arith); binds = λ end label. refl }

answers_leave : (a : ActedSwitch) (answer : Answer (Said Party) Party) → Leaves 1 a (answers a (gsmp_answer answer))
answers_leave a Quiet = more 0 1 a a (omega arith) (itself a)
answers_leave a (Send message) = says_leave a (messages.Adjacency (greeting_of message))
answers_leave a (Open None own) = more 0 1 a a (omega arith) (itself a)
answers_leave a (Open (Some message) own) = says_leave a (messages.Adjacency (greeting_of message))
answers_leave a Reset = reset_leaves a

steps_leave : (a : ActedSwitch) (step : Step Party) → step.side.own ≡ a.switch.adjacency.own → Leaves 1 a (steps a step)
steps_leave a step is =
    let turned : ActedSwitch = record a { switch = record a.switch { adjacency = step.side } } in
    leaves_then 0 1 a turned (steps a step) (same a turned refl refl refl refl (ap (λ (p : Party). p.instance.0) is) (λ end label. refl)) (answers_leave turned step.answer)

-- *Requests*
record IsQuiet (c d : Changed) : Type 0 where
  frames : d.notes.frames ≡ c.notes.frames
  binds : BindsNone c.notes.records d.notes.records

quiet_then : (c d e : Changed) → IsQuiet c d → IsQuiet d e → IsQuiet c e
quiet_then c d e p q = record { frames = q.frames ∙ p.frames; binds = binds_then c.notes.records d.notes.records e.notes.records p.binds q.binds }

quiet_self : (c : Changed) → IsQuiet c c
quiet_self c = record { frames = refl; binds = λ end label. refl }

cut_quiet : (c d : Changed) (o : Option Mark) → d.notes ≡ noted_cut c.notes o → IsQuiet c d
cut_quiet c d None is = record { frames = ap (λ (n : Journal). n.frames) is; binds = subst (λ (n : Journal). BindsNone c.notes.records n.records) (sym is) (λ end label. refl) }
cut_quiet c d (Some mark) is = record {
  frames = ap (λ (n : Journal). n.frames) is;
  binds = subst (λ (n : Journal). BindsNone c.notes.records n.records) (sym is) (noted_binds c.notes (Loss mark Cut) (λ end label. refl));
}

ended_quiet : (c : Changed) (input : End) (o : Option Branch) → IsQuiet c (ended_by c input o)
ended_quiet c input None = quiet_self c
ended_quiet c input (Some b) = cut_quiet c (ended_by c input (Some b)) b.unfinished refl

all_quiet : (inputs : List End) (c : Changed) → IsQuiet c (all_ended c inputs)
all_quiet [] c = quiet_self c
all_quiet (input ∷ inputs) c = quiet_then c (branch_ended c input) (all_ended (branch_ended c input) inputs) (ended_quiet c input (get c.branches input)) (all_quiet inputs (branch_ended c input))

moved_quiet : (c : Changed) (input to : End) (o : Option Branch) → IsQuiet c (moved_by c input to o)
moved_quiet c input to None = quiet_self c
moved_quiet c input to (Some b) = cut_quiet c (moved_by c input to (Some b)) (cut_by_move b to) refl

after_quiet : (c : Changed) (request : Request) → IsQuiet c (branches_after c request)
after_quiet c (AddBranch input output) = record { frames = refl; binds = λ end label. refl }
after_quiet c (MoveBranch input from to) = moved_quiet c input to (get c.branches input)
after_quiet c (DeleteTree input) = ended_quiet c input (get c.branches input)
after_quiet c (VerifyTree input) = quiet_self c
after_quiet c (DeleteAll port) = all_quiet (inputs_on c.branches port) c
after_quiet c (PortManagement port function) = on_both (IsQuiet c) (function == 2) (all_ended c (inputs_on c.branches port)) c (all_quiet (inputs_on c.branches port) c) (quiet_self c)
after_quiet c AllPorts = quiet_self c

abbrev pub handled_as : ActedSwitch → Handled → ActedSwitch
handled_as a h = record a { switch = h.switch; notes = h.notes }

handled_leaves : (a : ActedSwitch) (m : Message) (o : Option Asked) → Leaves 0 a (handled_as a (handled_asked a.switch a.notes m o))
handled_leaves a m None = itself a
handled_leaves a m (Some asked) = by (failure_of a.switch.ports a.switch.vpis a.switch.crossbar.branches asked)
  where
    by : (o : Option Failure) → Leaves 0 a (handled_as a (handled_by a.switch a.notes m asked.request o))
    by (Some failure) = itself a
    by None = (let q = after_quiet (record { branches = a.switch.crossbar.branches; notes = a.notes }) asked.request in
        same a (handled_as a (handled_by a.switch a.notes m asked.request None)) refl refl refl q.frames refl q.binds)

requested_leaves : (a : ActedSwitch) (m : Message) → Leaves 1 a (requested a m)
requested_leaves a m = on_both (Leaves 1 a) (is_request m && is_estab a.switch.adjacency.state) (replied a (handled a.switch a.notes m)) a
    (leaves_then 0 1 a (handled_as a (handled a.switch a.notes m)) (replied a (handled a.switch a.notes m)) (handled_leaves a m (asked_in m))
    (says_leave (handled_as a (handled a.switch a.notes m)) (handled a.switch a.notes m).answer))
    (more 0 1 a a (omega arith) (itself a))

told_leaves : (a : ActedSwitch) (m : Message) → Leaves 1 a (message_heard a m)
told_leaves a (messages.Adjacency greeting) = steps_leave a (gsmp_received a.switch.adjacency greeting) refl
told_leaves a (messages.Branch kind result code number session input_port input output_port output branches priority) =
    requested_leaves a (messages.Branch kind result code number session input_port input output_port output branches priority)
told_leaves a (messages.Move result code number session input_port input output_port output target_port target branches priority) =
    requested_leaves a (messages.Move result code number session input_port input output_port output target_port target branches priority)
told_leaves a (messages.Port result code number port session function) = requested_leaves a (messages.Port result code number port session function)
told_leaves a (messages.AllPorts result code number rows) = requested_leaves a (messages.AllPorts result code number rows)

-- *Frames*
read_leaves : (a : ActedSwitch) (r : Result Message Fault) → Leaves 1 a (frame_read a r)
read_leaves a (Ok m) = told_leaves a m
read_leaves a (Err fault) = more 0 1 a (frame_read a (Err fault)) (omega arith) (same a (frame_read a (Err fault)) refl refl refl refl refl (noted_binds a.notes (Bad a.switch.node Gsmp (gsmp_refusal fault)) (λ end label. refl)))

opened_leaves : (a : ActedSwitch) (o : Option (List ℕ)) → Leaves 1 a (opened_frame a o)
opened_leaves a None = more 0 1 a a (omega arith) (itself a)
opened_leaves a (Some payload) = read_leaves a (decoded payload)

ends_leave : (a : ActedSwitch) (cells : List Cell) → Leaves 1 a (ends_frame a cells)
ends_leave a [] = more 0 1 a a (omega arith) (itself a)
ends_leave a (cell ∷ cells) =
    let test : Tested = tested a.notes (cell ∷ cells) in
    let b : ActedSwitch = record a { notes = test.notes } in
    leaves_then 0 1 a b (ends_frame a (cell ∷ cells)) (same a b refl refl refl (tested_frames a.notes (cell ∷ cells)) refl (tested_binds a.notes (cell ∷ cells))) (opened_leaves b test.payload)

-- a cell under a mark that was given out joins the chain
gathered_leaves : (a : ActedSwitch) (cell : Cell) (slot : Bool) → IsMarked a.numbers.controls cell
    → Leaves 0 a (record a { switch = record a.switch { reassembly = (taken a.notes slot a.switch.reassembly cell).reassembly }; notes = (taken a.notes slot a.switch.reassembly cell).notes })
gathered_leaves a cell slot is = record {
  queues = λ h. h;
  chain = λ h. taken_chain (AreMarked a.numbers.controls) a.notes slot a.switch.reassembly cell h tt (every_join (IsMarked a.numbers.controls) a.switch.reassembly.chain (cell ∷ []) h (is, tt));
  free = λ h. subst (IsFree a.numbers.controls) (sym (taken_frames a.notes slot a.switch.reassembly cell)) h;
  stay = λ h. subst (Stay a.notes.frames) (sym (taken_frames a.notes slot a.switch.reassembly cell)) (λ mark payload e. e);
  controls = (omega arith, omega arith);
  instances = (omega arith, omega arith);
  own = inl refl;
  binds = taken_binds a.notes slot a.switch.reassembly cell;
}

gsmp_leaves : (a : ActedSwitch) (cell : Cell) → IsMarked a.numbers.controls cell → Leaves 1 a (gsmp_cell a cell)
gsmp_leaves a cell is =
    let slot : Bool = nat_lt 0 (free_slots a.switch) in
    let t : Taken = taken a.notes slot a.switch.reassembly cell in
    let b : ActedSwitch = record a { switch = record a.switch { reassembly = t.reassembly }; notes = t.notes } in
    leaves_then 0 1 a b (gsmp_cell a cell) (gathered_leaves a cell slot is) (ends_leave b t.ended)

-- *Cells* that go on keep their mark
switched_marked : (controls : ℕ) (x : Crossbar) (input : End) (o : Option Branch) (free : ℕ) (cell : Cell) → IsMarked controls cell → Every (AreMarked controls) x.queues → Every (AreMarked controls) (switched_on x input o free cell).queues
switched_marked controls x input None free cell is h = h
switched_marked controls x input (Some b) zero cell is h = h
switched_marked controls x input (Some b) (suc n) cell is h = put_marked controls x b.output.port (on_channel_of cell b.output ∷ []) (is, tt) h

passed_leaves : (a : ActedSwitch) (port : PortNo) (cell : Cell) (r : Routed) → IsMarked a.numbers.controls cell → Leaves 0 a (cell_routed a port cell r)
passed_leaves a port cell (routes.Out output) is = record {
  queues = switched_marked a.numbers.controls a.switch.crossbar (input_of port cell) (get a.switch.crossbar.branches (input_of port cell)) (free_slots a.switch) cell is;
  chain = λ h. h;
  free = λ h. h;
  stay = λ h mark payload e. e;
  controls = (omega arith, omega arith);
  instances = (omega arith, omega arith);
  own = inl refl;
  binds = λ end label. refl;
}
passed_leaves a port cell routes.Unconnected is = same a (cell_routed a port cell routes.Unconnected) refl refl refl refl refl (noted_binds a.notes (Loss cell.mark Unconnected) (λ end label. refl))
passed_leaves a port cell routes.PoolFull is = same a (cell_routed a port cell routes.PoolFull) refl refl refl refl refl (noted_binds a.notes (Loss cell.mark PoolFull) (λ end label. refl))

cell_leaves : (a : ActedSwitch) (port : PortNo) (cell : Cell) → IsMarked a.numbers.controls cell → Leaves 1 a (cell_comes a port cell)
cell_leaves a port cell is = on_both (Leaves 1 a) (is_gsmp port cell.header.channel) (gsmp_cell a cell) (switched_cell a port cell) (gsmp_leaves a cell is)
    (more 0 1 a (switched_cell a port cell) (omega arith) (passed_leaves a port cell (routed a.switch.crossbar (free_slots a.switch) port cell) is))

-- *A restart*
restart_leaves : (a : ActedSwitch) → Leaves 1 a (restarted a)
restart_leaves a =
    let c : Changed = record { branches = a.switch.crossbar.branches; notes = a.notes } in
    let d : Changed = all_ended c (keys a.switch.crossbar.branches) in
    let q : IsQuiet c d = all_quiet (keys a.switch.crossbar.branches) c in
    let frames : (restarted a).notes.frames ≡ a.notes.frames = cut_frames d.notes a.switch.reassembly ∙ q.frames in
    record {
      queues = λ h. h;
      chain = λ h. tt;
      free = λ h. subst (IsFree a.numbers.controls) (sym frames) h;
      stay = λ h. subst (Stay a.notes.frames) (sym frames) (λ mark payload e. e);
      controls = (omega arith, omega arith);
      instances = (omega arith, omega arith);
      own = inr (omega arith, omega arith);
      binds = binds_then a.notes.records d.notes.records (cut d.notes a.switch.reassembly).records q.binds (cut_binds d.notes a.switch.reassembly);
    }

-- *Each input*
abbrev pub IsFair : (controls : ℕ) → SwitchInput → Type 0
IsFair controls (CellComes port cell) = IsMarked controls cell
IsFair controls input = Unit {0}

pub switch_leaves : (a : ActedSwitch) (input : SwitchInput) → IsFair a.numbers.controls input → Leaves 1 a (switch_takes a input)
switch_leaves a (CellComes port cell) is = cell_leaves a port cell is
switch_leaves a Ticks is = steps_leave a (ticked a.switch.adjacency) (tick_own a.switch.adjacency)
switch_leaves a Restarts is = restart_leaves a
