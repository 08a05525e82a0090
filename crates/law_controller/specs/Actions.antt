-- What a port asks of its controller can be done

use Rattle.std.specs.Prelude.{◌≡◌, ℕ, true, List, [], Some}
use Rattle.law_controller_facts.specs.world_model.Words.{Addr, IsLinkPort, Request, InRange, at, Desk, Action, Say, Ask, CutChain, TakeBack, Setup, is_in_range, Grant, grant_label, Work, hears, counts, given_back, resets, restarts}
use Rattle.law_controller_facts.specs.world_model.ifmp_wire.declared.message.Message.{Message}
use Rattle.law_controller_facts.specs.ordered_lists.Ordered.{Every}
use Rattle.law_controller_facts.specs.world_model.port_model.Ticks.{ticks}
use Rattle.law_controller_facts.specs.world_model.port_model.Answers.{done}
use Rattle.law_controller_facts.specs.law_port_facts.Port.{IsShaped}
use Rattle.law_controller_facts.specs.Conditions.{HasHome}
use Rattle.law_controller_facts.specs.Said.{IsAtWork}

-- a message is in range, a request has one of the shapes, a chain that is cut is of a label in the port's range,
-- and an input whose join is taken back shows on the control link
abbrev pub CanDo : List Setup → Setup → Action → Type 0
CanDo setups setup (Say message) = InRange message
CanDo setups setup (Ask request needed) = IsShaped setups request
CanDo setups setup (CutChain label) = is_in_range setup label ≡ true
CanDo setups setup (TakeBack input output) = HasHome input
CanDo setups setup action = Unit {0}

abbrev pub CanAllBeDone : List Setup → Setup → Work → Type 0
CanAllBeDone setups setup w = Every (CanDo setups setup) w.actions

-- *A port at work* that has asked nothing yet, at a node all of whose ports are links'
pub record IsFresh (setups : List Setup) (setup : Setup) (w : Work) : Type 0 where
  pub work : IsAtWork setups setup w
  pub links : Every (λ (other : Setup). IsLinkPort other.port) setups
  pub nothing : w.actions ≡ []

-- *Each rule*
pub record AsksWhatCanBeDone : Type 0 where
  pub hears : (setups : List Setup) (setup : Setup) (desk : Desk) (w : Work) (source : Addr) (message : Message) → IsFresh setups setup w → InRange message
      → CanAllBeDone setups setup (hears setup desk w source message)
  pub ticks : (setups : List Setup) (setup : Setup) (desk : Desk) (w : Work) → IsFresh setups setup w → CanAllBeDone setups setup (ticks setup desk w)
  pub counts : (setups : List Setup) (setup : Setup) (desk : Desk) (w : Work) (packet : List ℕ) → IsFresh setups setup w → CanAllBeDone setups setup (counts setup desk w packet)
  pub done : (setups : List Setup) (setup : Setup) (w : Work) (request : Request) → IsFresh setups setup w → CanAllBeDone setups setup (done setup w request)
  pub given_back : (setups : List Setup) (setup : Setup) (w : Work) (grant : Grant) → at grant_label grant.label w.port.grants ≡ Some grant → IsFresh setups setup w
      → CanAllBeDone setups setup (given_back w grant)
  pub resets : (setups : List Setup) (setup : Setup) (w : Work) → IsFresh setups setup w → CanAllBeDone setups setup (resets setup w)
  pub restarts : (setups : List Setup) (setup : Setup) (w : Work) → IsFresh setups setup w → CanAllBeDone setups setup (restarts setup w)
