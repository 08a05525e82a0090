-- a switch hears an ACK or a request, and ticks

use Rattle.std.proofs.Common.{◌≡◌, Bool, true, false, List, [], ◌∷◌, Option, None, Some, refl, sym, ◌∙◌, ap, subst, if◌then◌else◌}
use Rattle.std.specs.Prelude.{◌&&◌, ◌==◌}
use Rattle.std.specs.FinMap.{get}
use Rattle.live_model.specs.world_model.Words.{Party, End, Mark, State, Side, Step, is_estab, gsmp_answer, Journal, Request, Branches, Changed, ended_by, moved_by, moved_to, cut_by_move, all_ended, inputs_on, noted_cut, branches_after, asked_in, is_request, failure_of, handled, handled_asked, handled_by, success_answer, replied, requested, Handled}
use Rattle.live_model.specs.world_model.gsmp_wire.declared.message.Message.{Message}
use Rattle.live_model.specs.world_model.gsmp_wire.declared.message.Message.TheVariants.{Adjacency, Branch, Move, Port, AllPorts}
use Rattle.live_model.specs.world_model.gsmp_wire.declared.request.Request.TheVariants as requests
use Rattle.live_model.specs.world_model.crossbar_model.declared.branch.Branch.{Branch as BranchOf}
use Rattle.live_model.specs.world_model.switch_model.declared.port.PortState.{PortState}
use Rattle.live_model.specs.world_model.switch_model.declared.request.Asked.{Asked}
use Rattle.live_model.specs.world_model.gsmp_wire.declared.failure.Failure.{Failure}
use Rattle.live_model.specs.world_model.switch_model.Requests.{branch_ended, deleted_all, result_of}
use Rattle.live_model.specs.world_model.Switch.{ActedSwitch}
use Rattle.live_model.specs.world_model.Conduct.{answers, message_heard}
use Rattle.law_port_facts.proofs.Keyed.{on_both}
use Rattle.law_live_control.specs.Calm.{greets_switch, asks_switch, IsCalmUp, answers_controller, IsCarriedOut, SwitchGoesOn, nothing, one}
use Rattle.law_live_control.specs.Law.{SwitchesHearCalmly, SwitchesTickCalmly}
use Rattle.law_live_control.proofs.Sides.{ack_heard, tick_acked, stays_so, hears_again}

-- *Branches* change, and no frame is made
cut_frames : (notes : Journal) (o : Option Mark) → (noted_cut notes o).frames ≡ notes.frames
cut_frames notes None = refl
cut_frames notes (Some mark) = refl

ended_frames : (c : Changed) (input : End) → (branch_ended c input).notes.frames ≡ c.notes.frames
ended_frames c input = by (get c.branches input)
  where
    by : (o : Option BranchOf) → (ended_by c input o).notes.frames ≡ c.notes.frames
    by None = refl
    by (Some b) = cut_frames c.notes b.unfinished

all_frames : (inputs : List End) (c : Changed) → (all_ended c inputs).notes.frames ≡ c.notes.frames
all_frames [] c = refl
all_frames (input ∷ inputs) c = all_frames inputs (branch_ended c input) ∙ ended_frames c input

moved_frames : (c : Changed) (input to : End) → (moved_to c input to).notes.frames ≡ c.notes.frames
moved_frames c input to = by (get c.branches input)
  where
    by : (o : Option BranchOf) → (moved_by c input to o).notes.frames ≡ c.notes.frames
    by None = refl
    by (Some b) = cut_frames c.notes (cut_by_move b to)

same_frames : (c : Changed) (request : Request) → (branches_after c request).notes.frames ≡ c.notes.frames
same_frames c (requests.AddBranch input output) = refl
same_frames c (requests.MoveBranch input from to) = moved_frames c input to
same_frames c (requests.DeleteTree input) = ended_frames c input
same_frames c (requests.DeleteAll port) = all_frames (inputs_on c.branches port) c
same_frames c (requests.PortManagement port function) = on_both (λ (d : Changed). d.notes.frames ≡ c.notes.frames) (function == 2) (deleted_all c port) c (all_frames (inputs_on c.branches port) c) refl
same_frames c (requests.VerifyTree input) = refl
same_frames c requests.AllPorts = refl

-- *A success*, of whatever was asked
success : (ports : List PortState) (branches : Branches) (request : Request) (message : Message) → is_request message ≡ true
    → result_of (success_answer ports branches request message) ≡ 3
success ports branches request (Adjacency greeting) is = absurd (cc is)
success ports branches request (Branch kind result code transaction session input_port input output_port output count priority) is = refl
success ports branches request (Move result code transaction session input_port input output_port output target_port target count priority) is = refl
success ports branches request (Port result code transaction port session function) is = refl
success ports branches request (AllPorts result code transaction rows) is = refl

asks_something : (message : Message) → is_request message ≡ true → asked_in message ≡ None → ⊥
asks_something (Adjacency greeting) is none = cc is
asks_something (Branch kind result code transaction session input_port input output_port output count priority) is none = cc none
asks_something (Move result code transaction session input_port input output_port output target_port target count priority) is none = cc none
asks_something (Port result code transaction port session function) is none = cc none
asks_something (AllPorts result code transaction rows) is none = cc none

-- *A request* is carried out, and answered
module _ (controller switch : Party) (a : ActedSwitch) (message : Message) (request : is_request message ≡ true) where
  abbrev Goes : ActedSwitch → Type 0
  Goes after = SwitchGoesOn (IsCalmUp controller switch) a after

  goes_by : (asked : Asked) (o : Option Failure) → o ≡ None → Goes (replied a (handled_by a.switch a.notes message asked.request o))
  goes_by asked (Some failure) none = absurd (cc none)
  goes_by asked None none =
      let h : Handled = handled_by a.switch a.notes message asked.request None in
      record {
        heard = record a { switch = h.switch; notes = h.notes };
        side = stays_so a.switch.adjacency;
        queues = refl;
        frames = same_frames (record { branches = a.switch.crossbar.branches; notes = a.notes }) asked.request;
        numbers = refl;
        says = one h.answer (answers_controller h.answer (success _ _ asked.request message request));
      }

  goes_asked : (o : Option Asked) → asked_in message ≡ o → IsCarriedOut a.switch message → Goes (replied a (handled_asked a.switch a.notes message o))
  goes_asked None is carried = absurd (asks_something message request is)
  goes_asked (Some asked) is carried = goes_by asked (failure_of a.switch.ports a.switch.vpis a.switch.crossbar.branches asked) (carried asked is)

  goes_requested : is_estab a.switch.adjacency.state ≡ true → IsCarriedOut a.switch message → Goes (requested a message)
  goes_requested up carried = subst (λ (b : Bool). Goes (if b then replied a (handled a.switch a.notes message) else a)) (sym (both (is_request message) (is_estab a.switch.adjacency.state) request up))
      (goes_asked (asked_in message) refl carried)
    where
      both : (x y : Bool) → x ≡ true → y ≡ true → (x && y) ≡ true
      both true y p q = q
      both false y p q = absurd (cc p)

goes_heard : (controller switch : Party) (a : ActedSwitch) (message : Message) → is_request message ≡ true → is_estab a.switch.adjacency.state ≡ true
    → IsCarriedOut a.switch message → SwitchGoesOn (IsCalmUp controller switch) a (message_heard a message)
goes_heard controller switch a (Adjacency greeting) is up carried = absurd (cc is)
goes_heard controller switch a (Branch kind result code transaction session input_port input output_port output count priority) is up carried =
    goes_requested controller switch a (Branch kind result code transaction session input_port input output_port output count priority) is up carried
goes_heard controller switch a (Move result code transaction session input_port input output_port output target_port target count priority) is up carried =
    goes_requested controller switch a (Move result code transaction session input_port input output_port output target_port target count priority) is up carried
goes_heard controller switch a (Port result code transaction port session function) is up carried = goes_requested controller switch a (Port result code transaction port session function) is up carried
goes_heard controller switch a (AllPorts result code transaction rows) is up carried = goes_requested controller switch a (AllPorts result code transaction rows) is up carried

-- *The table's step* is done
abbrev stepped : ActedSwitch → Step Party → ActedSwitch
stepped a step = answers (record a { switch = record a.switch { adjacency = step.side } }) (gsmp_answer step.answer)

pub switches_hear_calmly : SwitchesHearCalmly
switches_hear_calmly controller a message met greets_switch carried =
    let aside : Side Party = record a.switch.adjacency { silence = 0 } in
    subst (SwitchGoesOn (IsCalmUp controller.own a.switch.adjacency.own) a)
    (sym (ap (stepped a) (ack_heard a.switch.adjacency controller.own met.other_is_up met.other_knows)))
    (record {
      heard = record a { switch = record a.switch { adjacency = aside } };
      side = hears_again a.switch.adjacency;
      queues = refl;
      frames = refl;
      numbers = refl;
      says = nothing;
    })
switches_hear_calmly controller a message met (asks_switch asked request) carried =
    goes_heard controller.own a.switch.adjacency.own a asked request (ap (λ (s : State). is_estab s) met.other_is_up) (carried request)

pub switches_tick_calmly : SwitchesTickCalmly
switches_tick_calmly controller a met low = ap (stepped a) (tick_acked a.switch.adjacency controller.own met.other_is_up met.other_knows low)
