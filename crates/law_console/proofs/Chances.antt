-- a chance stays among the records of its event

use Rattle.std.proofs.Common.{◌≡◌, ℕ, Bool, true, false, ◌||◌, List, [], ◌∷◌, ◌++◌, length, Option, None, Some, Result, Ok, Err, refl, nat_le}
use Rattle.std.specs.Prelude.{◌&&◌, ◌==◌}
use Rattle.std.specs.List.{list_any}
use Rattle.std.specs.FinMap.{get}
use Rattle.world_model.specs.Words.{End, Mark, Greeting, Party, next_control, Answer, Quiet, Send, Open, Step, is_estab, gsmp_answer, gsmp_received, Request, AddBranch, MoveBranch, DeleteTree, VerifyTree, PortManagement, Record, Loss, Chance, Bad, PoolFull, Cut, Gsmp, Journal, noted, gsmp_refusal, frame_cells, made, cut_by_move, emptied, Answered, Unknown, Done, Ports, Failed, answered, after_answer, Switch, control_port, gsmp_channel, Changed, noted_cut, moved_by, ended_by, all_ended, inputs_on, branches_after, asked_in, is_request, failure_of, handled_by, handled_asked, handled}
use Rattle.world_model.specs.adjacency_table.declared.message.Answer.TheVariants.{Reset}
use Rattle.world_model.specs.gsmp_wire.declared.fault.Fault.{Fault}
use Rattle.world_model.specs.gsmp_wire.declared.message.Message.{Message}
use Rattle.world_model.specs.gsmp_wire.declared.message.Message.TheVariants as messages
use Rattle.world_model.specs.gsmp_wire.declared.request.Request.TheVariants.{DeleteAll, AllPorts}
use Rattle.world_model.specs.gsmp_wire.Layout.{octets_of}
use Rattle.world_model.specs.frame_model.Sending.{Sender}
use Rattle.world_model.specs.crossbar_model.declared.branch.Branch.{Branch}
use Rattle.world_model.specs.port_model.Desk.{asked, message_at}
use Rattle.world_model.specs.switch_model.declared.request.Asked.{Asked}
use Rattle.world_model.specs.gsmp_wire.declared.failure.Failure.{Failure}
use Rattle.world_model.specs.Switch.{ActedSwitch, free_slots as switch_slots}
use Rattle.world_model.specs.Requests.{branch_ended, deleted_all}
use Rattle.world_model.specs.Conduct as switch
use Rattle.console_model.specs.declared.reply.Reply.{Reply}
use Rattle.console_model.specs.declared.reply.Reply.TheVariants as replies
use Rattle.console_model.specs.Lab.{Console, Lab, free_slots, the_node, with_desk, with_side}
use Rattle.console_model.specs.Asking.{with_cells, says, asks, meets, asks_by, asks_next, may_ask, next_command}
use Rattle.console_model.specs.Hearing.{reply_in, follows, answers, fails, answers_by, takes_answer, answer_comes, told, holds}
use Rattle.console_model.specs.Law.{is_chance}
use Rattle.law_console.proofs.Views.{on_both}

abbrev pub HasChance : Journal → Type 0
HasChance notes = list_any is_chance notes.records ≡ true

abbrev pub IsFree : Journal → Type 0
IsFree notes = list_any is_chance notes.records ≡ false

either_left : (a b : Bool) → a ≡ true → (a || b) ≡ true
either_left true b e = refl
either_left false b e = absurd (cc e)

either_right : (a b : Bool) → b ≡ true → (a || b) ≡ true
either_right true b e = refl
either_right false b e = e

pub any_front : (xs more : List Record) → list_any is_chance xs ≡ true → list_any is_chance (xs ++ more) ≡ true
any_front [] more h = absurd (cc h)
any_front (x ∷ xs) more h = by (is_chance x) h (any_front xs more)
  where
    by : (b : Bool) → (b || list_any is_chance xs) ≡ true → (list_any is_chance xs ≡ true → list_any is_chance (xs ++ more) ≡ true) → (b || list_any is_chance (xs ++ more)) ≡ true
    by true h later = refl
    by false h later = later h

pub any_back : (xs more : List Record) → list_any is_chance more ≡ true → list_any is_chance (xs ++ more) ≡ true
any_back [] more h = h
any_back (x ∷ xs) more h = either_right (is_chance x) (list_any is_chance (xs ++ more)) (any_back xs more h)

noted_stays : (notes : Journal) (item : Record) → HasChance notes → HasChance (noted notes item)
noted_stays notes item h = any_front notes.records (item ∷ []) h

pub chance_noted : (notes : Journal) (mark : Mark) → HasChance (noted notes (Chance mark))
chance_noted notes mark = any_back notes.records (Chance mark ∷ []) refl

-- *The switch*
abbrev Told : ActedSwitch → Type 0
Told a = HasChance a.notes

switch_says : (a : ActedSwitch) (message : Message) → Told a → Told (switch.says a message)
switch_says a message h = on_both (λ (s : Sender Switch). HasChance s.notes) (nat_le (length (frame_cells gsmp_channel (next_control a.numbers) (octets_of message))) (switch_slots a.switch))
    (record { queues = switch.with_cells a.switch control_port (frame_cells gsmp_channel (next_control a.numbers) (octets_of message)); notes = made a.notes (next_control a.numbers) (octets_of message) })
    (record { queues = a.switch; notes = noted (made a.notes (next_control a.numbers) (octets_of message)) (Loss (next_control a.numbers) PoolFull) })
    h (noted_stays (made a.notes (next_control a.numbers) (octets_of message)) (Loss (next_control a.numbers) PoolFull) h)

switch_answers : (a : ActedSwitch) (answer : Answer Greeting Party) → Told a → Told (switch.answers a answer)
switch_answers a Quiet h = h
switch_answers a (Send greeting) h = switch_says a (messages.Adjacency greeting) h
switch_answers a (Open None key) h = h
switch_answers a (Open (Some greeting) key) h = switch_says a (messages.Adjacency greeting) h
switch_answers a Reset h = h

cut_stays : (notes : Journal) (o : Option Mark) → HasChance notes → HasChance (noted_cut notes o)
cut_stays notes None h = h
cut_stays notes (Some mark) h = noted_stays notes (Loss mark Cut) h

ended_stays : (c : Changed) (input : End) (o : Option Branch) → HasChance c.notes → HasChance (ended_by c input o).notes
ended_stays c input None h = h
ended_stays c input (Some b) h = cut_stays c.notes b.unfinished h

all_stay : (inputs : List End) (c : Changed) → HasChance c.notes → HasChance (all_ended c inputs).notes
all_stay [] c h = h
all_stay (input ∷ inputs) c h = all_stay inputs (branch_ended c input) (ended_stays c input (get c.branches input) h)

moved_stays : (c : Changed) (input to : End) (o : Option Branch) → HasChance c.notes → HasChance (moved_by c input to o).notes
moved_stays c input to None h = h
moved_stays c input to (Some b) h = cut_stays c.notes (cut_by_move b to) h

branches_stay : (c : Changed) (q : Request) → HasChance c.notes → HasChance (branches_after c q).notes
branches_stay c (AddBranch input output) h = h
branches_stay c (MoveBranch input from to) h = moved_stays c input to (get c.branches input) h
branches_stay c (DeleteTree input) h = ended_stays c input (get c.branches input) h
branches_stay c (VerifyTree input) h = h
branches_stay c (DeleteAll port) h = all_stay (inputs_on c.branches port) c h
branches_stay c (PortManagement port function) h = on_both (λ (d : Changed). HasChance d.notes) (function == 2) (deleted_all c port) c (all_stay (inputs_on c.branches port) c h) h
branches_stay c AllPorts h = h

handled_stays : (s : Switch) (notes : Journal) (message : Message) → HasChance notes → HasChance (handled s notes message).notes
handled_stays s notes message h = by (asked_in message)
  where
    by_failure : (asked : Asked) (o : Option Failure) → HasChance (handled_by s notes message asked.request o).notes
    by_failure asked (Some failure) = h
    by_failure asked None = branches_stay (record { branches = s.crossbar.branches; notes = notes }) asked.request h

    by : (o : Option Asked) → HasChance (handled_asked s notes message o).notes
    by None = h
    by (Some asked) = by_failure asked (failure_of s.ports s.vpis s.crossbar.branches asked)

requested_stays : (a : ActedSwitch) (message : Message) → Told a → Told (switch.requested a message)
requested_stays a message h = on_both Told (is_request message && is_estab a.switch.adjacency.state) (switch.replied a (handled a.switch a.notes message)) a
    (switch_says (record a { switch = (handled a.switch a.notes message).switch; notes = (handled a.switch a.notes message).notes }) (handled a.switch a.notes message).answer
    (handled_stays a.switch a.notes message h)) h

switch_told : (a : ActedSwitch) (message : Message) → Told a → Told (switch.message_heard a message)
switch_told a (messages.Adjacency greeting) h =
    let step : Step Party = gsmp_received a.switch.adjacency greeting in
    switch_answers (record a { switch = record a.switch { adjacency = step.side } }) (gsmp_answer step.answer) h
switch_told a (messages.Branch kind result code number session input_port input output_port output branches priority) h =
    requested_stays a (messages.Branch kind result code number session input_port input output_port output branches priority) h
switch_told a (messages.Move result code number session input_port input output_port output target_port target branches priority) h =
    requested_stays a (messages.Move result code number session input_port input output_port output target_port target branches priority) h
switch_told a (messages.Port result code number port session function) h = requested_stays a (messages.Port result code number port session function) h
switch_told a (messages.AllPorts result code number rows) h = requested_stays a (messages.AllPorts result code number rows) h

pub switch_reads : (a : ActedSwitch) (r : Result Message Fault) → Told a → Told (switch.frame_read a r)
switch_reads a (Ok message) h = switch_told a message h
switch_reads a (Err fault) h = noted_stays a.notes (Bad a.switch.node Gsmp (gsmp_refusal fault)) h

-- *The console*
abbrev Has : Lab → Type 0
Has lab = HasChance lab.notes

says_stays : (lab : Lab) (message : Message) → Has lab → Has (says lab message)
says_stays lab message h = on_both (λ (s : Sender Console). HasChance s.notes) (nat_le (length (frame_cells gsmp_channel (next_control lab.numbers) (octets_of message))) (free_slots lab.console))
    (record { queues = with_cells lab.console (frame_cells gsmp_channel (next_control lab.numbers) (octets_of message)); notes = made lab.notes (next_control lab.numbers) (octets_of message) })
    (record { queues = lab.console; notes = noted (made lab.notes (next_control lab.numbers) (octets_of message)) (Loss (next_control lab.numbers) PoolFull) })
    h (noted_stays (made lab.notes (next_control lab.numbers) (octets_of message)) (Loss (next_control lab.numbers) PoolFull) h)

asks_stay : (lab : Lab) (q : Request) → Has lab → Has (asks lab q)
asks_stay lab q h = says_stays (with_desk lab (asked lab.console.desk q)) (message_at (asked lab.console.desk q) (record { number = lab.console.desk.next; request = q })) h

meets_stay : (lab : Lab) → Has lab → Has (meets lab)
meets_stay lab h = asks_stay (with_desk lab (emptied lab.console.desk)) AllPorts h

next_stays : (lab : Lab) → Has lab → Has (asks_next lab)
next_stays lab h = on_both Has (may_ask lab.console) (asks_by lab (next_command lab)) lab (by (next_command lab)) h
  where
    by : (o : Option Request) → Has (asks_by lab o)
    by None = h
    by (Some command) = asks_stay lab command h

follows_stays : (lab : Lab) (answer : Answer Greeting Party) → Has lab → Has (follows lab answer)
follows_stays lab Quiet h = h
follows_stays lab (Send greeting) h = says_stays lab (messages.Adjacency greeting) h
follows_stays lab (Open None own) h = meets_stay lab h
follows_stays lab (Open (Some greeting) own) h = meets_stay (says lab (messages.Adjacency greeting)) (says_stays lab (messages.Adjacency greeting) h)
follows_stays lab Reset h = h

answers_stay : (lab : Lab) (reply : Reply) → Has lab → Has (answers lab reply)
answers_stay lab reply h = next_stays (record lab { answers = lab.answers ++ reply ∷ [] }) h

fails_stay : (lab : Lab) (q : Request) (code : ℕ) → Has lab → Has (fails lab q code)
fails_stay lab (AddBranch input output) code h = answers_stay lab (replies.Failed code) h
fails_stay lab (MoveBranch input from to) code h = answers_stay lab (replies.Failed code) h
fails_stay lab (DeleteTree input) code h = answers_stay lab (replies.Failed code) h
fails_stay lab (VerifyTree input) code h = answers_stay lab (replies.Failed code) h
fails_stay lab (DeleteAll port) code h = answers_stay lab (replies.Failed code) h
fails_stay lab (PortManagement port function) code h = answers_stay lab (replies.Failed code) h
fails_stay lab AllPorts code h = h

by_stays : (lab : Lab) (message : Message) (answer : Answered) → Has lab → Has (answers_by lab message answer)
by_stays lab message Unknown h = h
by_stays lab message (Done s) h = answers_stay lab (reply_in message) h
by_stays lab message (Ports s rows) h = next_stays lab h
by_stays lab message (Failed s code) h = fails_stay lab s.request code h

comes_stay : (lab : Lab) (message : Message) → Has lab → Has (answer_comes lab message)
comes_stay lab message h = on_both Has (is_estab lab.console.adjacency.state) (takes_answer lab message (answered lab.console.desk message)) lab
    (by_stays (with_desk lab (after_answer lab.console.desk (answered lab.console.desk message))) message (answered lab.console.desk message) h) h

told_stays : (lab : Lab) (message : Message) → Has lab → Has (told lab message)
told_stays lab (messages.Adjacency greeting) h =
    let step : Step Party = gsmp_received lab.console.adjacency greeting in
    follows_stays (with_side lab step.side) (gsmp_answer step.answer) h
told_stays lab (messages.Branch kind result code number session input_port input output_port output branches priority) h =
    comes_stay lab (messages.Branch kind result code number session input_port input output_port output branches priority) h
told_stays lab (messages.Move result code number session input_port input output_port output target_port target branches priority) h =
    comes_stay lab (messages.Move result code number session input_port input output_port output target_port target branches priority) h
told_stays lab (messages.Port result code number port session function) h = comes_stay lab (messages.Port result code number port session function) h
told_stays lab (messages.AllPorts result code number rows) h = comes_stay lab (messages.AllPorts result code number rows) h

pub console_reads : (lab : Lab) (r : Result Message Fault) → Has lab → Has (holds lab r)
console_reads lab (Ok message) h = told_stays lab message h
console_reads lab (Err fault) h = noted_stays lab.notes (Bad the_node Gsmp (gsmp_refusal fault)) h
