-- what a rule of a port asks before its switch is met: neither a reset of the port nor Delete All

use Rattle.std.proofs.Common.{◌≡◌, false, List, [], ◌∷◌, Some, refl}
use Rattle.law_branch_shapes.specs.world_model.Words.{End, PortNo, AddBranch, MoveBranch, DeleteTree, VerifyTree, PortManagement, Desk, Action, Say, Ask, Note, CutChain, TakeBack, Withdraw, Setup, Work, labels_of, desk_with, Linked, linked_at, port_key, begins}
use Rattle.law_branch_shapes.specs.world_model.gsmp_wire.declared.request.Request.TheVariants.{DeleteAll, AllPorts}
use Rattle.law_frame_readings.specs.ordered_lists.Ordered.{Every}
use Rattle.law_frame_readings.proofs.ordered_lists.Every.{every_all}
use Rattle.law_branch_shapes.specs.world_model.port_model.declared.action.Action.TheVariants as actions
use Rattle.law_frame_readings.proofs.law_port_facts.Keyed.{at_every}
use Rattle.law_frame_readings.proofs.law_port_facts.Steps.{Goes}
use Rattle.law_branch_shapes.specs.world_model.Controller.{Acted}
use Rattle.law_frame_readings.specs.law_controller_facts.Sound.{IsShutLinked}
use Rattle.law_frame_readings.proofs.law_controller_facts.Moves.{HasPorts, found_at_own, found_setup, begun}
use Rattle.law_frame_readings.proofs.law_controller_facts.Laws.{has_ports}
use Rattle.law_input_events.proofs.law_controller.Asked.{MayAct, MayActs, IsNoReset, IsTo, Both, goes_asks}
use Rattle.law_input_events.proofs.law_controller.Resetting.{goes_silent}
use Rattle.law_input_events.proofs.law_controller.Whole.{Whole}
use Rattle.law_input_events.proofs.law_controller.Matched.{Never}
use Rattle.law_running_worlds.specs.Mode.{Mode, Told, Untold}
use Rattle.law_running_worlds.proofs.Asking.{AllowsAction, told_allows}

abbrev AnyEnd : End → Type 0
AnyEnd input = Unit {0}

module _ (setup : Setup) where
  mild_one : (d : Desk) (x : Action) → MayAct setup AnyEnd Never d x → IsNoReset setup AnyEnd Never x → AllowsAction Untold x
  mild_one d (Say message) may other = tt
  mild_one d (Ask (AddBranch i o) needed) may other = tt
  mild_one d (Ask (MoveBranch i from to) needed) may other = tt
  mild_one d (Ask (DeleteTree i) needed) may other = tt
  mild_one d (Ask (VerifyTree i) needed) may other = tt
  mild_one d (Ask (DeleteAll port) needed) may other = may
  mild_one d (Ask (PortManagement port function) needed) may other = tt
  mild_one d (Ask AllPorts needed) may other = tt
  mild_one d (Note item) may other = tt
  mild_one d (CutChain label) may other = tt
  mild_one d (TakeBack i o) may other = tt
  mild_one d (Withdraw i) may other = tt
  mild_one d actions.Reset may other = other

  mild_each : (xs : List Action) (d : Desk) → MayActs setup AnyEnd Never d xs → Every (IsNoReset setup AnyEnd Never) xs → Every (AllowsAction Untold) xs
  mild_each [] d may other = tt
  mild_each (x ∷ xs) d may other = (mild_one d x may.0 other.0, mild_each xs (desk_with d x) may.2 other.1)

module _ (setups : List Setup) (a : Acted) (whole : Whole setups a) where
  mild_rule : a.controller.has_met ≡ false → (port : PortNo) (linked : Linked) (w : Work) → linked_at a.controller port ≡ Some linked → Goes linked.setup a.controller.desk (begins a linked) w → Every (AllowsAction Untold) w.actions
  mild_rule unmet port linked w found goes =
      let has : HasPorts setups a = has_ports setups a whole.sound in
      let there = found_setup setups a linked linked.setup.port has (found_at_own setups a linked port found) in
      let both : Both setups linked.setup there a.controller.desk AnyEnd Never linked.port (λ input some. tt) w =
      goes_asks setups linked.setup there a.controller.desk AnyEnd Never linked.port (λ input some. tt) (begins a linked) w goes (record {
        kept = begun setups a linked port has found;
        asks = record {
          labels = every_all (IsTo setups linked.setup there a.controller.desk AnyEnd Never linked.port (λ input some. tt)) (labels_of linked.port) (λ label output e. tt);
          lent = λ input. refl;
          clearing = λ e. e;
          acts = tt;
          last = λ e. tt;
          idle = λ e. tt;
        };
      }) in
      mild_each linked.setup w.actions a.controller.desk both.asks.acts
      (goes_silent linked.setup AnyEnd Never a.controller.desk (begins a linked) w goes (at_every port_key IsShutLinked port.0 a.controller.ports linked (whole.sound.unmet unmet) found) tt)

  pub rule_allowed : (m : Mode) → (m ≡ Untold → a.controller.has_met ≡ false) → (port : PortNo) (linked : Linked) (w : Work) → linked_at a.controller port ≡ Some linked → Goes linked.setup a.controller.desk (begins a linked) w
      → Every (AllowsAction m) w.actions
  rule_allowed Told unmet port linked w found goes = told_allows w.actions
  rule_allowed Untold unmet port linked w found goes = mild_rule (unmet refl) port linked w found goes
