-- What a port says is in the range of IFMP's messages, and its flows are flows that packets can have

use Rattle.std.specs.Prelude.{◌≡◌, ℕ, false, List, Some}
use Rattle.claims_model.specs.world_model.Words.{Addr, Request, InRange, at, Desk, Setup, Grant, grant_label, Work, hears, counts, given_back, Controller, Linked}
use Rattle.claims_model.specs.world_model.ifmp_wire.declared.message.Message.{Message}
use Rattle.law_port_facts.specs.ordered_lists.Ordered.{Every}
use Rattle.claims_model.specs.world_model.port_model.Ticks.{ticks}
use Rattle.claims_model.specs.world_model.port_model.Answers.{done}
use Rattle.law_port_facts.specs.Port.{setup_port, IsWork, HasFlows, IsSayable, IsRanged}

-- *Flows* of the labels and grants of each port
abbrev pub HasFlowsAt : Linked → Type 0
HasFlowsAt linked = HasFlows linked.port

abbrev pub HasFlowingPorts : List Setup → Controller → Type 0
HasFlowingPorts setups c = Every HasFlowsAt c.ports

-- *A port at work* that is linked, and was opened with a lifetime and a range
pub record IsAtWork (setups : List Setup) (setup : Setup) (w : Work) : Type 0 where
  pub linked : at setup_port setup.port.0 setups ≡ Some setup
  pub ranged : IsRanged setup
  pub kept : IsWork setups setup w
  pub flows : HasFlows w.port
  pub live : w.halted ≡ false
  pub said : Every IsSayable w.actions

-- *Each rule*: what it says is in range, where a message that is heard is
pub record SaysInRange : Type 0 where
  pub hears : (setups : List Setup) (setup : Setup) (desk : Desk) (w : Work) (source : Addr) (message : Message) → IsAtWork setups setup w → InRange message
      → Every IsSayable (hears setup desk w source message).actions
  pub ticks : (setups : List Setup) (setup : Setup) (desk : Desk) (w : Work) → IsAtWork setups setup w → Every IsSayable (ticks setup desk w).actions
  pub counts : (setups : List Setup) (setup : Setup) (desk : Desk) (w : Work) (packet : List ℕ) → IsAtWork setups setup w → Every IsSayable (counts setup desk w packet).actions
  pub done : (setups : List Setup) (setup : Setup) (w : Work) (request : Request) → IsAtWork setups setup w → Every IsSayable (done setup w request).actions
  pub given_back : (setups : List Setup) (setup : Setup) (w : Work) (grant : Grant) → at grant_label grant.label w.port.grants ≡ Some grant → IsAtWork setups setup w
      → Every IsSayable (given_back w grant).actions
