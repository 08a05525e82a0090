-- a change of routes leaves the route of each join's flow

use Rattle.std.proofs.Common.{◌≡◌, ℕ, Bool, true, false, List, [], ◌∷◌, Option, Some, refl, sym, ◌∙◌, ap, subst, inl, inr}
use Rattle.std.specs.Prelude.{not}
use Rattle.std.specs.List.{list_any}
use Rattle.world_model.specs.Words.{PortNo, End, flow_destination, best, changed, RouteChange, Next, Via, Grant, grant_label, Linked, port_key, Controller, joins_of, same_next, differs, is_changed, begins_change, takes_change, may_take, takes_each, takes_changes, Addr, at}
use Rattle.world_model.specs.ipv4_forward.declared.table.Route.{Route}
use Rattle.law_frame_readings.specs.ordered_lists.Ordered.{Every}
use Rattle.world_model.specs.port_model.Grants.{lent_input}
use Rattle.law_frame_readings.proofs.law_port_facts.Keyed.{on_each, at_every}
use Rattle.law_frame_readings.proofs.law_port_facts.Rules.{and_second, and_first}
use Rattle.world_model.specs.Controller.{Acted}
use Rattle.world_model.specs.Joins.{Join}
use Rattle.law_frame_readings.proofs.law_controller_facts.TakenBack.{Stays, begins_stay}
use Rattle.law_frame_readings.proofs.law_controller_facts.Moves.{begun}
use Rattle.law_run_facts.proofs.law_controller_bindings.Flows.{same_via}
use Rattle.law_run_facts.proofs.law_controller_bindings.Joining.{by_grants}
use Rattle.law_run_facts.proofs.law_controller.Lists.{any_each}
use Rattle.law_run_facts.proofs.law_actor_pace.Controllers.{begins_change_paces}

-- *A grant that is lent*, of a destination
pub record IsLent (ports : List Linked) (q m : ℕ) (destination : Addr) : Type 0 where
  pub linked : Linked
  pub found : at port_key q ports ≡ Some linked
  pub grant : Grant
  pub granted : at grant_label m linked.port.grants ≡ Some grant
  pub input : End
  pub lent : lent_input grant.state ≡ Some input
  pub is : flow_destination grant.flow ≡ destination

not_true : (b : Bool) → not b ≡ true → b ≡ false
not_true true e = absurd (cc e)
not_true false e = refl

not_false : (b : Bool) → not b ≡ false → b ≡ true
not_false true e = refl
not_false false e = absurd (cc e)

-- which a change that may be taken leaves its route
kept_route : (c : Controller) (change : RouteChange) (q m : ℕ) (d : Addr) (port : PortNo) → may_take c change ≡ true → IsLent c.ports q m d → best c.table d ≡ Some (Via port) → best (changed c.table change) d ≡ Some (Via port)
kept_route c change q m d port may lent route =
    let none : list_any (is_changed c.table change) (joins_of c) ≡ false = not_true (list_any (is_changed c.table change) (joins_of c)) (and_second c.has_met (not (list_any (is_changed c.table change) (joins_of c))) may) in
    let each : Every (λ (x : Linked). Every (λ (g : Grant). (input : End) → lent_input g.state ≡ Some input → is_changed c.table change (record { input = input; port = x.setup.port; grant = g }) ≡ false) x.port.grants) c.ports =
    by_grants (λ (join : Join). is_changed c.table change join ≡ false) c.ports (any_each (is_changed c.table change) (joins_of c) none) in
    let here : Every (λ (g : Grant). (input : End) → lent_input g.state ≡ Some input → is_changed c.table change (record { input = input; port = lent.linked.setup.port; grant = g }) ≡ false) lent.linked.port.grants =
    at_every port_key (λ (x : Linked). Every (λ (g : Grant). (input : End) → lent_input g.state ≡ Some input → is_changed c.table change (record { input = input; port = x.setup.port; grant = g }) ≡ false) x.port.grants) q c.ports lent.linked each lent.found in
    let same : differs c.table change (flow_destination lent.grant.flow) ≡ false = at_every grant_label (λ (g : Grant). (input : End) → lent_input g.state ≡ Some input → is_changed c.table change (record { input = input; port = lent.linked.setup.port; grant = g }) ≡ false) m lent.linked.port.grants lent.grant here lent.granted lent.input lent.lent in
    let alike : same_next (best c.table d) (best (changed c.table change) d) ≡ true = not_false (same_next (best c.table d) (best (changed c.table change) d)) (ap (differs c.table change) (sym lent.is) ∙ same) in
    same_via port (best (changed c.table change) d) (ap (λ (o : Option Next). same_next o (best (changed c.table change) d)) (sym route) ∙ alike)

by_stays : (q m : ℕ) (d : Addr) (port : PortNo) (a begun : Acted) (change : RouteChange) → may_take begun.controller change ≡ true → (after : Acted) → IsLent a.controller.ports q m d → best begun.controller.table d ≡ Some (Via port) → Stays a begun
    → (IsLent begun.controller.ports q m d → best (changed begun.controller.table change) d ≡ Some (Via port) → best after.controller.table d ≡ Some (Via port)) → best after.controller.table d ≡ Some (Via port)
by_stays q m d port a begun change may after lent still (inl unmet) next = absurd (cc (sym (and_first begun.controller.has_met (not (list_any (is_changed begun.controller.table change) (joins_of begun.controller))) may) ∙ unmet))
by_stays q m d port a begun change may after lent still (inr same) next =
    let there : IsLent begun.controller.ports q m d = subst (λ (ports : List Linked). IsLent ports q m d) (sym same.0) lent in
    next there (kept_route begun.controller change q m d port may there still)

-- *So do all changes* that are taken one behind the other
each_keeps : (q m : ℕ) (d : Addr) (port : PortNo) (changes : List RouteChange) (a : Acted) → IsLent a.controller.ports q m d → best a.controller.table d ≡ Some (Via port) → best (takes_each a changes).controller.table d ≡ Some (Via port)
each_keeps q m d port [] a lent route = route
each_keeps q m d port (change ∷ later) a lent route =
    let begun : Acted = begins_change a change in
    let still : best begun.controller.table d ≡ Some (Via port) = ap (λ (table : List Route). best table d) (begins_change_paces 0 a change).table ∙ route in
    on_each (λ (b : Acted). best b.controller.table d ≡ Some (Via port)) (may_take begun.controller change) (takes_each (takes_change begun change later) later) begun
    (λ may. by_stays q m d port a begun change may (takes_each (takes_change begun change later) later) lent still (begins_stay a change)
    (λ there next. each_keeps q m d port later (takes_change begun change later) there next)) (λ t. still)

pub changes_keep : (q m : ℕ) (d : Addr) (port : PortNo) (a : Acted) → (a.controller.has_met ≡ true → IsLent a.controller.ports q m d) → best a.controller.table d ≡ Some (Via port) → best (takes_changes a).controller.table d ≡ Some (Via port)
changes_keep q m d port a lent route = on_each (λ (b : Acted). best b.controller.table d ≡ Some (Via port)) a.controller.has_met (takes_each a a.controller.waiting) a
    (λ met. each_keeps q m d port a.controller.waiting a (lent met) route) (λ t. route)
