-- a node can be reset: an instance is left for it and for each of its ports, and each port cuts chains of its labels

use Rattle.std.proofs.Common.{◌≡◌, ℕ, ◌<◌, true, List, [], ◌∷◌, Option, None, Some, refl, sym, ◌∙◌, ap, subst, arith, map, fold, is_some}
use Rattle.std.specs.Prelude.{◌+◌}
use Rattle.std.specs.Option.{option_map}
use Rattle.law_controller.specs.world_model.Words.{PortNo, GivenOut, at, Action, Say, Ask, Note, CutChain, TakeBack, Withdraw, Setup, restarts, Linked, port_key, linked_at, begins, with_work, cuts_of, closes_by, port_restarts_of, port_restarts, resets_gsmp, node_resets}
use Rattle.law_controller.specs.ordered_lists.Ordered.{Every}
use Rattle.law_controller.specs.world_model.port_model.declared.action.Action.TheVariants as actions
use Rattle.law_controller.specs.law_port_facts.Port.{setup_port, IsLinked}
use Rattle.law_controller.proofs.law_port_facts.Keyed.{at_map}
use Rattle.law_controller.specs.world_model.Controller.{Acted, ports_of}
use Rattle.law_controller.specs.law_controller_facts.Sound.{linked_setup}
use Rattle.law_controller.proofs.law_controller_facts.Moves.{Fine, fine_moves, fine_fold, fine_ports, HasPorts, found_setup, reset_ports}
use Rattle.law_controller.proofs.law_controller_facts.Performing.{Any, any_ports, ports_linked, port_restarts_of_fine}
use Rattle.law_controller.proofs.law_controller_facts.Flows.{moves_flow}
use Rattle.law_controller.specs.Actions.{CanDo}
use Rattle.law_controller.proofs.Actions.{asks_what_can_be_done}
use Rattle.law_controller.specs.law_controller_facts.Said.{HasFlowsAt}
use Rattle.controller_router.specs.Node.{linked_range}
use Rattle.controller_router.specs.Conditions.{CanClose, AllCanClose, CanRestart, EachCanRestart, CanResetNode}
use Rattle.law_controller_conditions.specs.Kept.{AreLinks, AreIn}
use Rattle.law_controller_conditions.proofs.Ready.{in_before, Ready, ready_ports, fresh_port}
use Rattle.law_controller_conditions.proofs.Channels.{label_channel}

-- *A port restarts*: it draws one instance
closes_numbers : (port : PortNo) (a : Acted) (x : Action) → (closes_by port a x).numbers ≡ a.numbers
closes_numbers port a (Say message) = refl
closes_numbers port a (Ask request needed) = refl
closes_numbers port a (Note item) = refl
closes_numbers port a (CutChain label) = by_found (linked_at a.controller port)
  where
    by_found : (o : Option Linked) → (cuts_of a label o).numbers ≡ a.numbers
    by_found None = refl
    by_found (Some linked) = refl
closes_numbers port a (TakeBack input output) = refl
closes_numbers port a (Withdraw input) = refl
closes_numbers port a actions.Reset = refl

fold_numbers : (port : PortNo) (xs : List Action) (a : Acted) → (fold (closes_by port) a xs).numbers ≡ a.numbers
fold_numbers port [] a = refl
fold_numbers port (x ∷ xs) a = fold_numbers port xs (closes_by port a x) ∙ closes_numbers port a x

restart_draws : (a : Acted) (port : PortNo) (linked : Linked) → linked_at a.controller port ≡ Some linked → (port_restarts a port).numbers.instances ≡ a.numbers.instances + 1
restart_draws a port linked found = ap (λ (o : Option Linked). (port_restarts_of a o).numbers.instances) found
    ∙ ap (λ (n : GivenOut). n.instances) (fold_numbers linked.setup.port (restarts linked.setup (begins a linked)).actions (with_work a linked (restarts linked.setup (begins a linked))))

-- what is cut is a label's of the port
closes_each : (setups : List Setup) (setup : Setup) (port : PortNo) (ports : List Linked) → map linked_setup ports ≡ setups → at setup_port port.0 setups ≡ Some setup
    → (xs : List Action) → Every (CanDo setups setup) xs → AllCanClose (map linked_range ports) port xs
closes_each setups setup port ports same there [] all = tt
closes_each setups setup port ports same there (x ∷ xs) all = (close_one x all.0, closes_each setups setup port ports same there xs all.1)
  where
    close_one : (x : Action) → CanDo setups setup x → CanClose (map linked_range ports) port x
    close_one (Say message) can = tt
    close_one (Ask request needed) can = tt
    close_one (Note item) can = tt
    close_one (CutChain label) can = label_channel setups ports port setup label same there can
    close_one (TakeBack input output) can = tt
    close_one (Withdraw input) can = tt
    close_one actions.Reset can = tt

-- *A linked port* is found
pub record IsFoundAt (a : Acted) (port : PortNo) : Type 0 where
  pub linked : Linked
  pub found : linked_at a.controller port ≡ Some linked

module _ (setups : List Setup) (links : AreLinks setups) where
  pub found_there : (a : Acted) (port : PortNo) → HasPorts setups a → IsLinked setups port → IsFoundAt a port
  found_there a port h linked = by_found (linked_at a.controller port) refl
      (subst (λ (s : List Setup). is_some (at setup_port port.0 s) ≡ true) (sym h.ports.same) linked)
    where
      by_found : (o : Option Linked) → linked_at a.controller port ≡ o → is_some (at setup_port port.0 (map linked_setup a.controller.ports)) ≡ true → IsFoundAt a port
      by_found None found is = absurd (cc (sym is ∙ ap is_some (at_map port_key setup_port linked_setup (λ x. refl) port.0 a.controller.ports ∙ ap (option_map linked_setup) found)))
      by_found (Some linked) found is = record { linked = linked; found = found }

  one_more : (m n k : ℕ) → n ≡ m + 1 → n < k → m + 1 < k
  one_more m n k e less = omega (arith, e, less)

  can_restart : (a : Acted) (port : PortNo) → HasPorts setups a → Every HasFlowsAt a.controller.ports → IsLinked setups port → AreIn (port_restarts a port).numbers → CanRestart a port
  can_restart a port h flows linked n =
      let there : IsFoundAt a port = found_there a port h linked in
      record {
        instance = one_more a.numbers.instances (port_restarts a port).numbers.instances _ (restart_draws a port there.linked there.found) n.instances;
        cuts = λ x found. closes_each setups x.setup port a.controller.ports h.ports.same (found_setup setups a x port h found) (restarts x.setup (begins a x)).actions
            (asks_what_can_be_done.restarts setups x.setup (begins a x) (fresh_port setups links a x port found h flows));
      }

  restarts_fine : (ports : List PortNo) (a : Acted) → HasPorts setups a → Fine setups a (fold port_restarts a ports)
  restarts_fine ports a h = fine_fold setups (Any setups) port_restarts (λ b port kb any. port_restarts_of_fine setups b port (linked_at b.controller port) kb refl) ports (any_ports setups ports) a h

  each_restarts : (ports : List PortNo) (a : Acted) → HasPorts setups a → Every HasFlowsAt a.controller.ports → Every (IsLinked setups) ports → AreIn (fold port_restarts a ports).numbers → EachCanRestart a ports
  each_restarts [] a h flows linked n = tt
  each_restarts (port ∷ ports) a h flows linked n =
      let next : Acted = port_restarts a port in
      let fine : Fine setups a next = port_restarts_of_fine setups a port (linked_at a.controller port) h refl in
      let k : HasPorts setups next = fine_ports setups fine h in (
        can_restart a port h flows linked.0 (in_before setups next (fold port_restarts next ports) (fine_moves setups (restarts_fine ports next k)) n),
        each_restarts ports next k (moves_flow setups a next (fine_moves setups fine) flows) linked.1 n,
      )

  -- *A node reset*
  pub can_reset_node : (a : Acted) → Ready setups a → AreIn (node_resets a).numbers → CanResetNode a
  can_reset_node a r n =
      let h : HasPorts setups a = ready_ports setups a r in
      let k : HasPorts setups (resets_gsmp a) = reset_ports setups a h in
      let ports : List PortNo = ports_of a.controller in
      record {
        instance = (in_before setups (resets_gsmp a) (node_resets a) (fine_moves setups (restarts_fine ports (resets_gsmp a) k)) n).instances;
        ports = each_restarts ports (resets_gsmp a) k r.flows (ports_linked setups a h) n;
      }
