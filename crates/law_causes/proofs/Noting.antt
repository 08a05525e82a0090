-- what a port asks to be noted is as Q says, where Q holds of what a port notes

use Rattle.std.proofs.Common.{ℕ}
use Rattle.law_cell_lists.specs.world_model.Words.{NodeId, PortNo, FlowId, Record, Opened, Closed, Bind, Free, Desk, Action, Setup, Work}
use Rattle.law_cell_lists.specs.world_model.link_model.declared.record.Record.TheVariants.{Join}
use Rattle.law_controller_bindings.specs.ordered_lists.Ordered.{Every}
use Rattle.law_cell_lists.specs.world_model.port_model.declared.action.Action.TheVariants as actions
use Rattle.law_controller_bindings.proofs.law_port_facts.Keyed.{every_more}
use Rattle.law_lifetimes.proofs.law_rule_walks.Ports.{IsNoted, is_opened, is_closed, is_bound, is_freed, is_joined, IsAsked, Keeps, Worked, worked_kept}

-- *What a port notes*: that its adjacency opens or closes, that an input is joined, and that a label is free
pub record AllowsNotes (Q : Record → Type 0) : Type 0 where
  pub opened : (node : NodeId) (port : PortNo) → Q (Opened node port)
  pub closed : (node : NodeId) (port : PortNo) → Q (Closed node port)
  pub joined : (node : NodeId) (port : PortNo) (label : ℕ) (to_port : PortNo) (to_label : ℕ) → Q (Join node port label to_port to_label)
  pub freed : (node : NodeId) (port : PortNo) (label : ℕ) → Q (Free node port label)

-- and, behind an answer of the switch, that a label is bound
abbrev pub AllowsBinding : (Record → Type 0) → Type 0
AllowsBinding Q = (node : NodeId) (port : PortNo) (label : ℕ) (flow : FlowId) → Q (Bind node port label flow)

module _ (Q : Record → Type 0) where
  abbrev pub IsCalmAction : Action → Type 0
  IsCalmAction (actions.Note item) = Q item
  IsCalmAction action = Unit {0}

  abbrev pub Calm : Work → Type 0
  Calm w = Every IsCalmAction w.actions

  module _ (may : AllowsNotes Q) (setup : Setup) where
    pub notes_calm : (item : Record) → IsNoted (AllowsBinding Q) setup item → Q item
    notes_calm _ is_opened = may.opened setup.node setup.port
    notes_calm _ is_closed = may.closed setup.node setup.port
    notes_calm _ (is_bound binds label flow) = binds setup.node setup.port label flow
    notes_calm _ (is_freed label) = may.freed setup.node setup.port label
    notes_calm _ (is_joined label to_port to_label) = may.joined setup.node setup.port label to_port to_label

    asked_calm : (action : Action) → IsAsked (AllowsBinding Q) setup action → IsCalmAction action
    asked_calm (actions.Say message) is = tt
    asked_calm (actions.Ask request needed) is = tt
    asked_calm (actions.Note item) is = notes_calm item is
    asked_calm (actions.CutChain label) is = tt
    asked_calm (actions.TakeBack input output) is = tt
    asked_calm (actions.Withdraw input) is = tt
    asked_calm actions.Reset is = tt

    keeps : Keeps (AllowsBinding Q) setup Calm
    keeps = record {
      asked = λ w action is other h. every_more IsCalmAction w.actions action h (asked_calm action is);
      halting = λ w live h. every_more IsCalmAction w.actions actions.Reset h tt;
      turned = λ w step live turn h. h;
      heard = λ w h. h;
      session = λ w o h. h;
      granted = λ w grants h. h;
      accepted = λ w h. h;
    }

    -- *Each rule of a port*
    pub worked_calm : (desk : Desk) (w : Work) {v : Work} → Worked (AllowsBinding Q) setup desk w v → Calm w → Calm v
    worked_calm desk w worked h = worked_kept keeps (λ u k. k) worked h
