-- what a few changes of a controller keep, all that it does keeps, but for what it does with a packet

use Rattle.std.proofs.Common.{◌≡◌, ℕ, List, [], ◌∷◌, map, ◌+◌, ◌++◌, false, Some, Result, refl}
use Rattle.std.specs.Prelude.{Ok, Err}
use Rattle.law_arrival_views.specs.world_model.Words.{PortNo, Mark, number_of_channel, changed, RouteChange, ticked, gsmp_received, Record, Bad, Loss, Part, Routes, Cut, ifmp_refusal, gsmp_refusal, Reassembly, cut, noted_all, distinct, marks_of, after_answer, Setup, used, with_desk, chain_of, says_gsmp, says_ifmp, cuts_of, cuts_default_of, cuts_gsmp, node_restarts, at_port, takes_change, change_comes, gsmp_holds, ifmp_holds, counted_at}
use Rattle.law_arrival_views.specs.world_model.ifmp_wire.declared.message.Message.{Message as IfmpMessage}
use Rattle.law_arrival_views.specs.world_model.ifmp_wire.declared.reader.Fault.{Fault as IfmpFault}
use Rattle.law_arrival_views.specs.world_model.ifmp_wire.Fields.{decoded as ifmp_decoded}
use Rattle.law_arrival_views.specs.world_model.gsmp_wire.declared.fault.Fault.{Fault as GsmpFault}
use Rattle.law_arrival_views.specs.world_model.gsmp_wire.declared.message.Message.{Message}
use Rattle.law_arrival_views.specs.world_model.link_model.declared.record.Layer.TheVariants as layers
use Rattle.law_arrival_views.proofs.law_controller_facts.Lifetimes.{decoded_lives}
use Rattle.law_arrival_views.specs.world_model.Controller.{Acted, note}
use Rattle.law_arrival_views.specs.world_model.Ticks.{ticks}
use Rattle.law_arrival_views.proofs.law_rule_walks.Ports.{IsNoted, is_opened, is_closed, is_bound, is_freed, is_joined, IsAsked}
use Rattle.law_arrival_views.proofs.law_rule_walks.Controllers.{Keeps, AsksOnlyAt, asks_only_works, ifmp_kept}
use Rattle.law_arrival_views.proofs.law_rule_walks.Controllers as controllers
use Rattle.law_arrival_views.proofs.law_rule_walks.Changes as route_changes
use Rattle.law_packet_worlds.proofs.Quiet.{Allows}
use Rattle.law_unused_labels.proofs.law_causes.Noting.{AllowsBinding}

-- what bears on frames, queues and notes is the same
pub record IsAlike (a b : Acted) : Type 0 where
  pub queue : b.controller.queue ≡ a.controller.queue
  pub notes : b.notes ≡ a.notes
  pub controls : b.numbers.controls ≡ a.numbers.controls

-- *What a few changes keep*
pub record Kept (Q : Record → Type 0) (P : Acted → Type 0) : Type 0 where
  pub alike : (a b : Acted) → IsAlike a b → P a → P b
  pub noted : (a : Acted) (item : Record) → Q item → P a → P (note a item)
  pub told : (a : Acted) (message : Message) → P a → P (says_gsmp a message)
  pub said : (port : PortNo) (a : Acted) (message : IfmpMessage) → P a → P (says_ifmp port a message)

module _ (Q : Record → Type 0) (may : Allows Q) (P : Acted → Type 0) (k : Kept Q P) where
  port_notes : (setup : Setup) (item : Record) → IsNoted (AllowsBinding Q) setup item → Q item
  port_notes setup _ is_opened = may _ refl refl
  port_notes setup _ is_closed = may _ refl refl
  port_notes setup _ (is_bound binds label flow) = binds setup.node setup.port label flow
  port_notes setup _ (is_freed label) = may _ refl refl
  port_notes setup _ (is_joined label to_port to_label) = may _ refl refl

  same : (a b : Acted) → b.controller.queue ≡ a.controller.queue → b.notes ≡ a.notes → b.numbers.controls ≡ a.numbers.controls → P a → P b
  same a b q n c h = k.alike a b (record { queue = q; notes = n; controls = c }) h

  -- *A chain is cut*
  marks_kept : (a : Acted) (marks : List Mark) → P a → P (record a { notes = noted_all a.notes (map (λ mark. Loss mark Cut) marks) })
  marks_kept a [] h = h
  marks_kept a (mark ∷ marks) h = marks_kept (note a (Loss mark Cut)) marks (k.noted a (Loss mark Cut) (may (Loss mark Cut) refl refl) h)

  cut_kept : (a : Acted) (r : Reassembly) → P a → P (record a { notes = cut a.notes r })
  cut_kept a r h = marks_kept a (distinct (marks_of r.chain)) h

  -- *Each change* of a controller
  keeps : Keeps (AllowsBinding Q) P (AsksOnlyAt (AllowsBinding Q)) (IsAsked (AllowsBinding Q))
  keeps = record {
    beginning = λ a linked found h. tt;
    working = asks_only_works;
    asking = λ setup desk w asks. asks;
    placing = λ a linked w found asks h. same a _ refl refl refl h;
    clearing = λ a linked found may_clear h. same a _ refl refl refl h;
    saying = λ setup a message is h. k.said setup.port a message h;
    noting = λ setup a item is h. k.noted a item (port_notes setup item is) h;
    withdrawing = λ setup a input is h. same a _ refl refl refl h;
    parting = λ a input h. k.noted a (Part a.controller.node input.port (number_of_channel input.channel)) (may _ refl refl) h;
    telling = k.told;
    requesting = λ a request estab room h. same a _ refl refl refl h;
    resetting = λ a h. same a _ refl refl refl h;
    emptying = λ a h. same a _ refl refl refl h;
    meeting = λ a h. same a _ refl refl refl h;
    cutting_label = λ a linked label found h. same (record a { notes = cut a.notes (chain_of linked.chains label) }) (cuts_of a label (Some linked)) refl refl refl (cut_kept a (chain_of linked.chains label) h);
    cutting_default = λ a linked found h. same (record a { notes = cut a.notes linked.reassembly }) (cuts_default_of a (Some linked)) refl refl refl (cut_kept a linked.reassembly h);
    cutting_gsmp = λ a h. same (record a { notes = cut a.notes a.controller.reassembly }) (cuts_gsmp a) refl refl refl (cut_kept a a.controller.reassembly h);
    changing = λ a h. same a _ refl refl refl h;
  }

  pub node_restarts_kept : (a : Acted) → P a → P (node_restarts a)
  node_restarts_kept a h = controllers.node_restarts_kept keeps a h

  -- *Changes of routes*
  takes_change_kept : (a : Acted) (change : RouteChange) (later : List RouteChange) → a.controller.waiting ≡ change ∷ later → P a → P (takes_change a change later)
  takes_change_kept a change later waits h =
      let taken : Acted = record a { controller = record a.controller { table = changed a.controller.table change; waiting = later; is_begun = false; changes = a.controller.changes + 1 } } in
      k.noted taken (Routes a.controller.node (a.controller.changes + 1)) (may _ refl refl) (same a taken refl refl refl h)

  pub change_comes_kept : (a : Acted) (change : RouteChange) → P a → P (change_comes a change)
  change_comes_kept a change h = route_changes.change_comes_kept keeps takes_change_kept a change
      (same a (record a { controller = record a.controller { waiting = a.controller.waiting ++ change ∷ [] } }) refl refl refl h)

  -- *Packets*: those of a label's channel are counted as its use, and others by their flows
  pub used_kept : (a : Acted) (port : PortNo) (label : ℕ) → P a → P (at_port a port (λ setup desk w. used w label))
  used_kept a port label h = controllers.used_kept keeps a port label h

  pub counted_kept : (a : Acted) (port : PortNo) (packet : List ℕ) → P a → P (counted_at a port packet)
  counted_kept a port packet h = controllers.counted_kept keeps a port packet h

  -- *Where labels are bound*
  module _ (binds : AllowsBinding Q) where
    pub ifmp_holds_kept : (a : Acted) (port : PortNo) (packet octets : List ℕ) (r : Result IfmpMessage IfmpFault) → ifmp_decoded octets ≡ r → P a → P (ifmp_holds a port packet r)
    ifmp_holds_kept a port packet octets (Err fault) is h = k.noted a (Bad a.controller.node layers.Ifmp (ifmp_refusal fault)) (may _ refl refl) h
    ifmp_holds_kept a port packet octets (Ok message) is h = ifmp_kept keeps binds a port packet message (decoded_lives octets message is) h

    pub gsmp_holds_kept : (a : Acted) (r : Result Message GsmpFault) → P a → P (gsmp_holds a r)
    gsmp_holds_kept a (Err fault) h = k.noted a (Bad a.controller.node layers.Gsmp (gsmp_refusal fault)) (may _ refl refl) h
    gsmp_holds_kept a (Ok message) h = route_changes.told_kept keeps takes_change_kept binds (λ b answer kept. same b (with_desk b (after_answer b.controller.desk answer)) refl refl refl kept) a message
        (λ greeting is. same a (record a { controller = record a.controller { adjacency = (gsmp_received a.controller.adjacency greeting).side } }) refl refl refl h) h

    -- *Tick*
    pub ticks_kept : (a : Acted) → P a → P (ticks a)
    ticks_kept a h = controllers.ticks_kept keeps binds a (same a (record a { controller = record a.controller { adjacency = (ticked a.controller.adjacency).side } }) refl refl refl h) h
