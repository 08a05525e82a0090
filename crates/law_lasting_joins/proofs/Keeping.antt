-- a grant that is lent stays so while an answer is taken, until changes of routes are

use Rattle.std.proofs.Common.{◌≡◌, ℕ, Bool, true, List, [], ◌∷◌, sym, subst, fold, if◌then◌else◌}
use Rattle.std.specs.Prelude.{map, filter}
use Rattle.law_controller.specs.world_model.Words.{End, PortNo, is_estab, Request, AddBranch, MoveBranch, DeleteTree, VerifyTree, PortManagement, leads_home, Setup, home_of, asks, joins_of, releases_input, released_inputs, resets_spent, releases, ends_meeting, has_emptied, causes_in_estab, causes, clears_port, clears, port_of_input, default_end, default_home}
use Rattle.law_controller.specs.world_model.gsmp_wire.declared.request.Request.TheVariants.{DeleteAll, AllPorts}
use Rattle.law_controller.specs.ordered_lists.Ordered.{Every}
use Rattle.law_controller.proofs.law_port_facts.Keyed.{on_each}
use Rattle.law_controller.specs.world_model.Controller.{Acted, ports_of}
use Rattle.law_controller.specs.world_model.Joins.{Join}
use Rattle.law_controller.proofs.law_controller_facts.Moves.{HasPorts, moves_ports}
use Rattle.law_controller.proofs.law_controller_facts.Joining.{releases_input_goes, resets_spent_goes, releases_goes}
use Rattle.law_lasting_joins.proofs.Lent.{Keeps, itself, keeps_on, keeps_fold, asks_keep, tells_keep, spent_keeps, input_keeps, clears_keep}

module _ (setups : List Setup) (q m : ℕ) (Unled : End → Type 0) where
  abbrev K : Acted → Acted → Type 0
  K a b = Keeps setups q m Unled a b

  inputs_keep : (inputs : List End) (a : Acted) → Every (λ (e : End). Unled e → ⊥) inputs → HasPorts setups a → K a (fold releases_input a inputs)
  inputs_keep [] a all h = itself setups q m Unled a
  inputs_keep (e ∷ inputs) a all h = keeps_on setups q m Unled a (releases_input a e) (fold releases_input (releases_input a e) inputs) (input_keeps setups q m Unled a e all.0 h)
      (inputs_keep inputs (releases_input a e) all.1 (moves_ports setups (releases_input_goes setups a e h) h))

  inputs_ports : (inputs : List End) (a : Acted) → HasPorts setups a → HasPorts setups (fold releases_input a inputs)
  inputs_ports [] a h = h
  inputs_ports (e ∷ inputs) a h = inputs_ports inputs (releases_input a e) (moves_ports setups (releases_input_goes setups a e h) h)

  spent_keep : (ports : List PortNo) (a : Acted) → HasPorts setups a → K a (fold resets_spent a ports)
  spent_keep [] a h = itself setups q m Unled a
  spent_keep (port ∷ ports) a h = keeps_on setups q m Unled a (resets_spent a port) (fold resets_spent (resets_spent a port) ports) (spent_keeps setups q m Unled a port h)
      (spent_keep ports (resets_spent a port) (moves_ports setups (resets_spent_goes setups a port h) h))

  passing : {A : Type 0} (P : A → Type 0) (test : A → Bool) → ((x : A) → test x ≡ true → P x) → (xs : List A) → Every P (filter test xs)
  passing P test each [] = tt
  passing P test each (x ∷ xs) = on_each (Every P) (test x) (x ∷ filter test xs) (filter test xs) (λ t. (each x t, passing P test each xs)) (λ t. passing P test each xs)

  abbrev pub Releasing : Request → Type 0
  Releasing request = (input : End) → leads_home input (home_of input) request ≡ true → Unled input → ⊥

  pub releases_keep : (a : Acted) (request : Request) → Releasing request → HasPorts setups a → K a (releases a request)
  releases_keep a request led h =
      let inputs : List End = released_inputs a.controller request in
      let released : Acted = fold releases_input a inputs in
      keeps_on setups q m Unled a released (releases a request)
      (inputs_keep inputs a (passing (λ (e : End). Unled e → ⊥) (λ (input : End). leads_home input (home_of input) request) led (map (λ (join : Join). join.input) (joins_of a.controller))) h)
      (spent_keep (ports_of released.controller) released (inputs_ports inputs a h))

  causes_in_keep : (a : Acted) (request : Request) → a.controller.has_met ≡ true → HasPorts setups a → K a (causes_in_estab a request)
  causes_in_keep a (AddBranch input output) met h = tells_keep setups q m Unled a (AddBranch input output) (port_of_input input output) h
  causes_in_keep a (MoveBranch input from to) met h = tells_keep setups q m Unled a (MoveBranch input from to) (port_of_input input to) h
  causes_in_keep a (DeleteTree input) met h = tells_keep setups q m Unled a (DeleteTree input) input.port h
  causes_in_keep a (VerifyTree input) met h = tells_keep setups q m Unled a (VerifyTree input) input.port h
  causes_in_keep a (DeleteAll port) met h = subst (λ (t : Bool). K a (if t then asks a (AddBranch (default_end port) (default_home port)) else (if has_emptied a.controller then ends_meeting a else a))) (sym met)
      (asks_keep setups q m Unled a (AddBranch (default_end port) (default_home port)))
  causes_in_keep a (PortManagement port function) met h = tells_keep setups q m Unled a (PortManagement port function) port h
  causes_in_keep a AllPorts met h = itself setups q m Unled a

  pub clears_last : (ports : List PortNo) (a : Acted) → K a (fold clears_port a ports)
  clears_last ports a = keeps_fold setups q m Unled clears_port (λ b port. clears_keep setups q m Unled b port) ports a

  -- all that an answer does before that
  pub answered_keeps : (a : Acted) (request : Request) → Releasing request → a.controller.has_met ≡ true → HasPorts setups a → K a (clears (causes (releases a request) request))
  answered_keeps a request led met h =
      let released : Acted = releases a request in
      let caused : Acted = causes released request in
      let k : K a released = releases_keep a request led h in
      let c : K released caused = on_each (K released) (is_estab released.controller.adjacency.state) (causes_in_estab released request) released
      (λ estab. causes_in_keep released request (k.stays_met estab met) (moves_ports setups (releases_goes setups a request h) h)) (λ t. itself setups q m Unled released) in
      keeps_on setups q m Unled a released (clears caused) k (keeps_on setups q m Unled released caused (clears caused) c (clears_last (ports_of caused.controller) caused))
