-- a controller does what the table answers towards its switch

use Rattle.std.proofs.Common.{◌≡◌, ℕ, true, List, [], ◌∷◌, ◌++◌, Option, None, Some, fold, refl, sym, subst, ap, ◌∙◌, append_assoc, append-nil}
use Rattle.std.specs.Prelude.{nat_le, length}
use Rattle.world_model.specs.Words.{PortNo, Party, Work, restarts, Said, Answer, Quiet, Send, Open, Side, Step, gsmp_received, greeting_of, is_estab, Cell, default_channel, frame_cells, next_control}
use Rattle.world_model.specs.adjacency_table.declared.message.Answer.TheVariants.{Reset}
use Rattle.world_model.specs.gsmp_wire.declared.message.Message.{Message}
use Rattle.world_model.specs.gsmp_wire.declared.message.Message.TheVariants.{Adjacency}
use Rattle.world_model.specs.gsmp_wire.declared.request.Request.TheVariants.{AllPorts}
use Rattle.world_model.specs.gsmp_wire.Layout.{octets_of}
use Rattle.world_model.specs.frame_model.Sending.{Sender}
use Rattle.world_model.specs.frame_model.Frame.{made}
use Rattle.world_model.specs.port_model.declared.action.Action.{Action}
use Rattle.world_model.specs.port_model.declared.action.Action.TheVariants as actions
use Rattle.world_model.specs.port_model.Desk.{Standing, asked, empty_desk, message_at}
use Rattle.world_model.specs.controller_model.Asking.{asks_next}
use Rattle.world_model.specs.controller_model.Controller.{Controller, Acted, Linked, free_slots, linked_at, ports_of, with_desk}
use Rattle.world_model.specs.controller_model.Gsmp.{steps}
use Rattle.world_model.specs.controller_model.Meeting.{meets}
use Rattle.world_model.specs.controller_model.Resets.{begins, with_work, closes_by, cuts_of, port_restarts, port_restarts_of, resets_gsmp}
use Rattle.world_model.specs.controller_model.Sending.{says_gsmp, with_cells}
use Rattle.law_port_facts.proofs.Keyed.{on_both}
use Rattle.law_live_turns.proofs.Switches.{fits, either_way, one_message}
use Rattle.law_live_turns.specs.Law.{PutsDown, HasAnswered, ControllersHear}

-- *A message is said*: its cells are put, or none, and the side stays
module _ (a : Acted) (message : Message) where
  abbrev cells_of : List Cell
  cells_of = frame_cells default_channel (next_control a.numbers) (octets_of message)

  abbrev sender : Sender Controller
  sender = record { queues = a.controller; notes = made a.notes (next_control a.numbers) (octets_of message) }

  said_either : (H : Controller → Type 0) → H a.controller → H (with_cells a.controller cells_of) → H (says_gsmp a message).controller
  said_either H none all = either_way (free_slots a.controller) (with_cells a.controller) sender (next_control a.numbers) cells_of H none all

  said_whole : nat_le (length cells_of) (free_slots a.controller) ≡ true → (says_gsmp a message).controller ≡ with_cells a.controller cells_of
  said_whole room = fits (free_slots a.controller) (with_cells a.controller) sender (next_control a.numbers) cells_of room

-- *A meeting begins*, and a queue grows
record Grows (before after : Controller) : Type 0 where
  side : after.adjacency ≡ before.adjacency
  later : List Cell
  queue : after.queue ≡ before.queue ++ later

grows_none : (c : Controller) → Grows c c
grows_none c = record { side = refl; later = []; queue = sym (append-nil c.queue) }

grows_by : (a : Acted) (message : Message) → Grows a.controller (says_gsmp a message).controller
grows_by a message = said_either a message (λ c. Grows a.controller c) (grows_none a.controller) (record { side = refl; later = cells_of a message; queue = refl })

meeting_grows : (a : Acted) → Grows a.controller (meets a).controller
meeting_grows a =
    let empty : Acted = with_desk a empty_desk in
    let desk : Acted = with_desk empty (asked empty.controller.desk AllPorts) in
    let first : Standing = record { number = empty.controller.desk.next; request = AllPorts } in
    let g : Grows desk.controller (says_gsmp desk (message_at desk.controller.desk first)).controller = grows_by desk (message_at desk.controller.desk first) in
    on_both (λ (b : Acted). Grows a.controller b.controller) (is_estab a.controller.adjacency.state) (asks_next empty AllPorts) empty
    (record { side = g.side; later = g.later; queue = g.queue }) (record { side = refl; later = []; queue = sym (append-nil a.controller.queue) })

-- *A node reset* begins the side anew, and no port's part of it touches it
cutting : (a : Acted) (label : ℕ) (o : Option Linked) → (cuts_of a label o).controller.adjacency ≡ a.controller.adjacency
cutting a label None = refl
cutting a label (Some linked) = refl

closing : (port : PortNo) (a : Acted) (action : Action) → (closes_by port a action).controller.adjacency ≡ a.controller.adjacency
closing port a (actions.Note item) = refl
closing port a (actions.CutChain label) = cutting a label (linked_at a.controller port)
closing port a (actions.Say message) = refl
closing port a (actions.Ask request needed) = refl
closing port a (actions.TakeBack input output) = refl
closing port a (actions.Withdraw input) = refl
closing port a actions.Reset = refl

each_stays : {A : Type 0} (f : Acted → A → Acted) → ((a : Acted) (x : A) → (f a x).controller.adjacency ≡ a.controller.adjacency)
    → (xs : List A) (a : Acted) → (fold f a xs).controller.adjacency ≡ a.controller.adjacency
each_stays f stays [] a = refl
each_stays f stays (x ∷ xs) a = each_stays f stays xs (f a x) ∙ stays a x

restarting : (a : Acted) (port : PortNo) → (port_restarts a port).controller.adjacency ≡ a.controller.adjacency
restarting a port = by (linked_at a.controller port)
  where
    by : (o : Option Linked) → (port_restarts_of a o).controller.adjacency ≡ a.controller.adjacency
    by None = refl
    by (Some linked) =
        let w : Work = restarts linked.setup (begins a linked) in
        each_stays (closes_by linked.setup.port) (closing linked.setup.port) w.actions (with_work a linked w)

module _ (a : Acted) (side : Side Party) where
  abbrev turned : Acted
  turned = record { controller = record a.controller { adjacency = side }; notes = a.notes; numbers = a.numbers }

  abbrev told : Said Party → Message
  told m = Adjacency (greeting_of m)

  puts_down : (after : Acted) (m n : Said Party) → m ∷ [] ≡ n ∷ [] → PutsDown a after m → PutsDown a after n
  puts_down after m n e h = subst (λ (x : Said Party). PutsDown a after x) (one_message m n e) h

  sent : (m : Said Party) → PutsDown a (says_gsmp turned (told m)) m
  sent m room = record { later = []; queue = ap (λ (c : Controller). c.queue) (said_whole turned (told m) room) ∙ ap (λ (cells : List Cell). a.controller.queue ++ cells) (sym (append-nil (cells_of turned (told m)))) }

  sent_and_meets : (m : Said Party) → PutsDown a (meets (says_gsmp turned (told m))) m
  sent_and_meets m room =
      let g : Grows (says_gsmp turned (told m)).controller (meets (says_gsmp turned (told m))).controller = meeting_grows (says_gsmp turned (told m)) in
      record {
        later = g.later;
        queue = g.queue ∙ (ap (λ (c : Controller). c.queue ++ g.later) (said_whole turned (told m) room) ∙ append_assoc a.controller.queue (cells_of turned (told m)) g.later);
      }

  answered : (answer : Answer (Said Party) Party) → HasAnswered a (steps a (record { side = side; answer = answer })) (record { side = side; answer = answer })
  answered Quiet = record { side = refl; says = λ m e. absurd (cc e) }
  answered (Send m) = record { side = (grows_by turned (told m)).side; says = λ n e. puts_down (says_gsmp turned (told m)) m n e (sent m) }
  answered (Open None own) = record { side = (meeting_grows turned).side; says = λ m e. absurd (cc e) }
  answered (Open (Some m) own) = record {
    side = (meeting_grows (says_gsmp turned (told m))).side ∙ (grows_by turned (told m)).side;
    says = λ n e. puts_down (meets (says_gsmp turned (told m))) m n e (sent_and_meets m);
  }
  answered Reset = record { side = each_stays port_restarts restarting (ports_of a.controller) (resets_gsmp turned); says = λ m e. absurd (cc e) }

pub controllers_hear : ControllersHear
controllers_hear a message =
    let step : Step Party = gsmp_received a.controller.adjacency (greeting_of message) in
    answered a step.side step.answer
