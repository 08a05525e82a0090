-- What a switch makes of a command that is asked with the right session: what the plain machine makes of it

use Rattle.std.specs.Prelude.{◌≡◌, ℕ, ◌<◌, ◌^◌, Some}
use Rattle.std.specs.FinMap.{get}
use Rattle.world_model.specs.Words.{End, Request, Journal, message_of, Switch, Handled, handled}
use Rattle.console_model.specs.Law.{IsEnd, IsMap}
use Rattle.console_model.specs.Plain.{Links, answer, after}
use Rattle.law_console.specs.Words.{first_ports, first_rows, IsCommand, Tells}

-- inputs lead to ends that lines can say
abbrev pub LeadToEnds : Links → Type 0
LeadToEnds m = (input output : End) → get m input ≡ Some output → IsEnd output

-- *A switch of this map*, with ports that never changed
pub record IsPlain (ports : ℕ) (m : Links) (s : Switch) : Type 0 where
  pub has_ports : s.ports ≡ first_ports ports
  pub paths : s.vpis ≡ 1
  pub map : IsMap s m
  pub ends : LeadToEnds m

-- *It answers* as the plain machine does, and has its map then; ports, queues and the frames that were made stay
pub record IsHandled (ports number : ℕ) (m : Links) (command : Request) (s : Switch) (notes : Journal) (h : Handled) : Type 0 where
  pub frames : h.notes.frames ≡ notes.frames
  pub has_ports : h.switch.ports ≡ s.ports
  pub paths : h.switch.vpis ≡ s.vpis
  pub queues : h.switch.crossbar.queues ≡ s.crossbar.queues
  pub map : IsMap h.switch (after ports m command)
  pub tells : Tells command number (answer ports m command) h.answer

abbrev pub SwitchesArePlain : Type 0
SwitchesArePlain = (ports number : ℕ) (m : Links) (command : Request) (s : Switch) (notes : Journal) → number < 2 ^ 32 → IsCommand command → IsPlain ports m s
    → IsHandled ports number m command s notes (handled s notes (message_of (first_rows ports) number command))
