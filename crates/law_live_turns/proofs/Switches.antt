-- a switch does what the table answers

use Rattle.std.proofs.Common.{◌≡◌, ℕ, Bool, true, List, [], ◌∷◌, None, Some, refl, subst, ap, if◌then◌else◌}
use Rattle.std.specs.Prelude.{nat_le, length}
use Rattle.world_model.specs.Words.{Mark, Party, Said, Answer, Quiet, Send, Open, Side, Step, ticked, gsmp_received, greeting_of, Cell, frame_cells, next_control}
use Rattle.world_model.specs.adjacency_table.declared.message.Answer.TheVariants.{Reset}
use Rattle.world_model.specs.gsmp_wire.declared.message.Message.TheVariants.{Adjacency}
use Rattle.world_model.specs.gsmp_wire.Layout.{octets_of}
use Rattle.world_model.specs.link_model.Notes.{noted}
use Rattle.world_model.specs.link_model.declared.record.Record.TheVariants.{Loss}
use Rattle.world_model.specs.link_model.declared.record.Cause.TheVariants.{PoolFull}
use Rattle.world_model.specs.frame_model.Sending.{Sender, queued}
use Rattle.world_model.specs.frame_model.Frame.{made}
use Rattle.world_model.specs.Switch.{Switch, ActedSwitch, control_port, free_slots, gsmp_channel}
use Rattle.world_model.specs.switch_model.Conduct.{says, steps, with_cells}
use Rattle.law_port_facts.proofs.Keyed.{on_both}
use Rattle.law_live_turns.specs.Law.{PutsInto, HasTurned, SwitchesTick, SwitchesHear}

-- *Queues* behind a frame that fits, and behind any
module _ {Q : Type 0} (free : ℕ) (put : List Cell → Q) (s : Sender Q) (mark : Mark) (cells : List Cell) where
  pub fits : nat_le (length cells) free ≡ true → (queued free put s mark cells).queues ≡ put cells
  fits e = ap (λ (b : Bool). (if b then record s { queues = put cells } else record s { notes = noted s.notes (Loss mark PoolFull) }).queues) e

  pub either_way : (H : Q → Type 0) → H s.queues → H (put cells) → H (queued free put s mark cells).queues
  either_way H none all = on_both (λ (t : Sender Q). H t.queues) (nat_le (length cells) free) (record s { queues = put cells }) (record s { notes = noted s.notes (Loss mark PoolFull) }) all none

pub one_message : (m n : Said Party) → m ∷ [] ≡ n ∷ [] → m ≡ n
one_message m n e = cc

module _ (a : ActedSwitch) (side : Side Party) where
  abbrev turned : ActedSwitch
  turned = record { switch = record a.switch { adjacency = side }; notes = a.notes; numbers = a.numbers }

  abbrev payload : Said Party → List ℕ
  payload m = octets_of (Adjacency (greeting_of m))

  abbrev cells_of : Said Party → List Cell
  cells_of m = frame_cells gsmp_channel (next_control a.numbers) (payload m)

  abbrev sender : Said Party → Sender Switch
  sender m = record { queues = turned.switch; notes = made a.notes (next_control a.numbers) (payload m) }

  said_side : (m : Said Party) → (says turned (Adjacency (greeting_of m))).switch.adjacency ≡ side
  said_side m = either_way (free_slots a.switch) (with_cells turned.switch control_port) (sender m) (next_control a.numbers) (cells_of m) (λ (s : Switch). s.adjacency ≡ side) refl refl

  said_cells : (m : Said Party) → PutsInto a (says turned (Adjacency (greeting_of m))) m
  said_cells m room = ap (λ (s : Switch). s.crossbar) (fits (free_slots a.switch) (with_cells turned.switch control_port) (sender m) (next_control a.numbers) (cells_of m) room)

  said : (m n : Said Party) → m ∷ [] ≡ n ∷ [] → PutsInto a (says turned (Adjacency (greeting_of m))) n
  said m n e = subst (λ (x : Said Party). PutsInto a (says turned (Adjacency (greeting_of m))) x) (one_message m n e) (said_cells m)

  turned_by : (answer : Answer (Said Party) Party) → HasTurned a (steps a (record { side = side; answer = answer })) (record { side = side; answer = answer })
  turned_by Quiet = record { side = refl; says = λ m e. absurd (cc e) }
  turned_by (Send m) = record { side = said_side m; says = said m }
  turned_by (Open None own) = record { side = refl; says = λ m e. absurd (cc e) }
  turned_by (Open (Some m) own) = record { side = said_side m; says = said m }
  turned_by Reset = record { side = refl; says = λ m e. absurd (cc e) }

pub switches_tick : SwitchesTick
switches_tick a = turned_by a (ticked a.switch.adjacency).side (ticked a.switch.adjacency).answer

pub switches_hear : SwitchesHear
switches_hear a message =
    let step : Step Party = gsmp_received a.switch.adjacency (greeting_of message) in
    turned_by a step.side step.answer
