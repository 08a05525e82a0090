-- changes of routes that wait may be begun and taken: each join whose flow's route changes may be taken back

use Rattle.std.proofs.Common.{◌≡◌, ℕ, ◌≤◌, Bool, true, false, List, [], ◌∷◌, sym, subst, fold}
use Rattle.std.specs.Prelude.{◌+◌}
use Rattle.law_controller.specs.world_model.Words.{End, changed, RouteChange, is_estab, Routes, Setup, Linked, joins_of, is_changed, changed_joins, takes_join_back, begins_change, takes_change}
use Rattle.law_controller.specs.world_model.ipv4_forward.declared.table.Route.{Route}
use Rattle.law_controller.specs.ordered_lists.Ordered.{Every}
use Rattle.law_controller.proofs.ordered_lists.Every.{every_map}
use Rattle.law_controller.specs.law_port_facts.Port.{IsLabelEnd, parts_label}
use Rattle.law_controller.proofs.law_port_facts.Keyed.{on_both}
use Rattle.law_controller.specs.world_model.Controller.{Acted, note}
use Rattle.law_controller.specs.world_model.Joins.{Join, output_joined}
use Rattle.law_controller.proofs.law_controller_facts.Moves.{routing, moves_to, HasPorts}
use Rattle.law_controller.proofs.law_controller_facts.Joining.{IsJoin, joins_are, join_input, join_output, every_filter}
use Rattle.law_controller.proofs.law_controller_facts.Laws.{has_ports, moves_sound}
use Rattle.law_controller.specs.Order.{is_lent}
use Rattle.law_controller.proofs.Performing.{takes_back_holds}
use Rattle.law_controller.proofs.Holding.{Holds, numbered_holds, lent_met}
use Rattle.law_controller.proofs.Entering.{Keeps, takes_back_keeps, join_lent}
use Rattle.law_input_steps.specs.Asking.{CanEach}
use Rattle.law_input_steps.specs.Done.{CanTakeBack, begun, CanBegin, CanTakeEach}
use Rattle.law_input_premises.specs.Read.{AreRead}
use Rattle.law_input_premises.proofs.Rows.{takes_back_rows, begins_change_rows}
use Rattle.law_input_premises.proofs.Asking.{takes_can}
use Rattle.law_input_premises.proofs.Releasing.{read_on}

module _ (setups : List Setup) (input : End) (above : 1 ≤ input.port.0) where
  record IsTaken (join : Join) : Type 0 where
    from : IsLabelEnd setups join.input
    to : IsLabelEnd setups (output_joined join)

  abbrev AreLent : Acted → List Join → Type 0
  AreLent a joins = is_estab a.controller.adjacency.state ≡ true → Every (λ (join : Join). is_lent a.controller.ports join.input ≡ true) joins

  lent_later : (a : Acted) (join : Join) (joins : List Join) → AreLent a (join ∷ joins) → AreLent (takes_join_back a join) joins
  lent_later a join joins lent e = (let keeps : Keeps setups a (takes_join_back a join) = takes_back_keeps setups a join.input (output_joined join) in
      subst (λ (ports : List Linked). Every (λ (x : Join). is_lent ports x.input ≡ true) joins) (sym (keeps.ports e)) (lent (keeps.before e)).1)

  taken_holds : (a : Acted) (join : Join) (joins : List Join) → IsTaken join → AreLent a (join ∷ joins) → Holds setups a → Holds setups (takes_join_back a join)
  taken_holds a join joins ends lent h = takes_back_holds setups a join.input (output_joined join) (parts_label join.input (output_joined join) ends.from ends.to) (λ e. (lent e).0) h

  each_taken : (joins : List Join) (a : Acted) → Every IsTaken joins → AreLent a joins → Holds setups a → AreRead setups a.controller.desk.rows → CanEach takes_join_back (CanTakeBack input) a joins
  each_taken [] a ends lent h reads = tt
  each_taken (join ∷ joins) a ends lent h reads = (
    takes_can setups input above a join.input (output_joined join) (parts_label join.input (output_joined join) ends.0.from ends.0.to) reads (λ e. lent_met setups a join.input (lent e).0 h) h (taken_holds a join joins ends.0 lent h),
    each_taken joins (takes_join_back a join) ends.1 (lent_later a join joins lent) (taken_holds a join joins ends.0 lent h)
        (read_on setups a (takes_join_back a join) (takes_back_rows a join.input (output_joined join)) reads),
  )

  all_taken : (joins : List Join) (a : Acted) → Every IsTaken joins → AreLent a joins → Holds setups a → Holds setups (fold takes_join_back a joins)
  all_taken [] a ends lent h = h
  all_taken (join ∷ joins) a ends lent h = all_taken joins (takes_join_back a join) ends.1 (lent_later a join joins lent) (taken_holds a join joins ends.0 lent h)

  -- *A change* is begun
  routed_holds : (a : Acted) (table : List Route) (waiting : List RouteChange) (is_begun : Bool) (changes : ℕ) → Holds setups a
      → Holds setups (record a { controller = record a.controller { table = table; waiting = waiting; is_begun = is_begun; changes = changes } })
  routed_holds a table waiting is_begun changes h = record { sound = moves_sound setups a _ (moves_to (routing a table waiting is_begun changes)) h.sound; order = h.order }

  begun_holds : (a : Acted) → Holds setups a → Holds setups (begun a)
  begun_holds a h = routed_holds a a.controller.table a.controller.waiting true a.controller.changes h

  are_joins : (a : Acted) (change : RouteChange) → HasPorts setups a → Every (IsJoin setups a) (changed_joins a.controller change)
  are_joins a change h = every_filter (IsJoin setups a) (is_changed a.controller.table change) (joins_of a.controller) (joins_are setups a h)

  are_taken : (a : Acted) (change : RouteChange) → HasPorts setups a → Every IsTaken (changed_joins a.controller change)
  are_taken a change h = every_map (IsJoin setups a) IsTaken (changed_joins a.controller change) (λ join is. record { from = join_input setups a join h is; to = join_output setups a join h is }) (are_joins a change h)

  are_lent : (a : Acted) (change : RouteChange) → HasPorts setups a → AreLent (begun a) (changed_joins a.controller change)
  are_lent a change h e = every_map (IsJoin setups a) (λ (join : Join). is_lent a.controller.ports join.input ≡ true) (changed_joins a.controller change) (λ join is. join_lent setups a join is) (are_joins a change h)

  can_begin : (a : Acted) (change : RouteChange) → Holds setups a → AreRead setups a.controller.desk.rows → CanBegin input a change
  can_begin a change h reads not_begun = (let has : HasPorts setups a = has_ports setups a h.sound in
      each_taken (changed_joins a.controller change) (begun a) (are_taken a change has) (are_lent a change has) (begun_holds a h) reads)

  begins_holds : (a : Acted) (change : RouteChange) → Holds setups a → Holds setups (begins_change a change)
  begins_holds a change h = (let has : HasPorts setups a = has_ports setups a h.sound in
      on_both (Holds setups) a.controller.is_begun a (fold takes_join_back (begun a) (changed_joins a.controller change)) h
      (all_taken (changed_joins a.controller change) (begun a) (are_taken a change has) (are_lent a change has) (begun_holds a h)))

  takes_holds : (a : Acted) (change : RouteChange) (later : List RouteChange) → Holds setups a → Holds setups (takes_change a change later)
  takes_holds a change later h =
      let taken : Acted = record a { controller = record a.controller { table = changed a.controller.table change; waiting = later; is_begun = false; changes = a.controller.changes + 1 } } in
      numbered_holds setups taken (note taken (Routes a.controller.node (a.controller.changes + 1))).notes (routed_holds a (changed a.controller.table change) later false (a.controller.changes + 1) h)

  -- *Each of them*
  pub can_take_each : (changes : List RouteChange) (a : Acted) → Holds setups a → AreRead setups a.controller.desk.rows → CanTakeEach input a changes
  can_take_each [] a h reads = tt
  can_take_each (change ∷ later) a h reads = (
    can_begin a change h reads,
    λ may. can_take_each later (takes_change (begins_change a change) change later) (takes_holds (begins_change a change) change later (begins_holds a change h))
        (read_on setups a (begins_change a change) (begins_change_rows a change) reads),
  )

  pub waiting_holds : (a : Acted) (waiting : List RouteChange) → Holds setups a → Holds setups (record a { controller = record a.controller { waiting = waiting } })
  waiting_holds a waiting h = routed_holds a a.controller.table waiting a.controller.is_begun a.controller.changes h
