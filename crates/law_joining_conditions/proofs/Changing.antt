-- the changes of routes that wait can be begun and taken: each join whose flow's route changes can be taken back

use Rattle.std.proofs.Common.{◌≡◌, ℕ, Bool, true, false, List, [], ◌∷◌, sym, subst, if◌then◌else◌, fold}
use Rattle.std.specs.Prelude.{◌+◌}
use Rattle.controller_joining.specs.world_model.Words.{changed, RouteChange, is_estab, Routes, Setup, Linked, joins_of, is_changed, changed_joins, takes_join_back, begins_change, takes_change, may_take, takes_each, takes_changes}
use Rattle.controller_joining.specs.world_model.ipv4_forward.declared.table.Route.{Route}
use Rattle.law_controller_conditions.specs.ordered_lists.Ordered.{Every}
use Rattle.law_controller_conditions.proofs.ordered_lists.Every.{every_map}
use Rattle.law_controller_conditions.specs.law_port_facts.Port.{IsLabelEnd, parts_label}
use Rattle.law_controller_conditions.proofs.law_port_facts.Keyed.{on_both}
use Rattle.controller_joining.specs.world_model.Controller.{Acted, note}
use Rattle.controller_joining.specs.world_model.Joins.{Join, output_joined}
use Rattle.law_controller_conditions.proofs.law_controller_facts.Moves.{routing, Moves, moves_to, stays, further, moves_ports, HasPorts}
use Rattle.law_controller_conditions.proofs.law_controller_facts.Performing.{takes_back_goes}
use Rattle.law_controller_conditions.proofs.law_controller_facts.Joining.{IsJoin, joins_are, join_input, join_output, begins_change_goes, takes_change_goes, every_filter}
use Rattle.law_controller_conditions.proofs.law_controller_facts.Laws.{moves_sound}
use Rattle.law_controller_conditions.specs.law_controller.Order.{is_lent}
use Rattle.law_controller_conditions.proofs.law_controller.Performing.{takes_back_holds}
use Rattle.law_controller_conditions.proofs.law_controller.Holding.{numbered_holds}
use Rattle.law_controller_conditions.proofs.law_controller.Entering.{Keeps, takes_back_keeps, join_lent}
use Rattle.law_controller_conditions.specs.controller_router.Meeting.{with_begun}
use Rattle.controller_joining.specs.Conditions.{EachCanBeTakenBack, CanBeginChange, EachCanBeTaken, CanTakeChanges}
use Rattle.law_controller_conditions.specs.Kept.{AreLinks, AreIn}
use Rattle.law_controller_conditions.proofs.Ready.{in_before, Ready, ready_by, ready_ports}
use Rattle.law_controller_conditions.proofs.Asking.{can_take_back}
use Rattle.law_joining_conditions.proofs.Granting.{has_grants}

module _ (setups : List Setup) (links : AreLinks setups) where
  -- *Joins that are taken back*
  record IsTaken (join : Join) : Type 0 where
    input : IsLabelEnd setups join.input
    output : IsLabelEnd setups (output_joined join)

  abbrev AreLent : Acted → List Join → Type 0
  AreLent a joins = is_estab a.controller.adjacency.state ≡ true → Every (λ (join : Join). is_lent a.controller.ports join.input ≡ true) joins

  lent_later : (a : Acted) (join : Join) (joins : List Join) → AreLent a (join ∷ joins) → AreLent (takes_join_back a join) joins
  lent_later a join joins lent e = (let keeps : Keeps setups a (takes_join_back a join) = takes_back_keeps setups a join.input (output_joined join) in
      subst (λ (ports : List Linked). Every (λ (x : Join). is_lent ports x.input ≡ true) joins) (sym (keeps.ports e)) (lent (keeps.before e)).1)

  taken_goes : (a : Acted) (join : Join) → IsTaken join → HasPorts setups a → Moves setups a (takes_join_back a join)
  taken_goes a join ends h = takes_back_goes setups a join.input (output_joined join) h (parts_label join.input (output_joined join) ends.input ends.output)

  ready_taken : (a : Acted) (join : Join) (joins : List Join) → IsTaken join → AreLent a (join ∷ joins) → Ready setups a → Ready setups (takes_join_back a join)
  ready_taken a join joins ends lent r = ready_by setups a (takes_join_back a join) (taken_goes a join ends (ready_ports setups a r))
      (takes_back_holds setups a join.input (output_joined join) (parts_label join.input (output_joined join) ends.input ends.output) (λ e. (lent e).0) r.holds) r

  taken_move : (joins : List Join) (a : Acted) → Every IsTaken joins → HasPorts setups a → Moves setups a (fold takes_join_back a joins)
  taken_move [] a ends h = stays a
  taken_move (join ∷ joins) a ends h = (let m : Moves setups a (takes_join_back a join) = taken_goes a join ends.0 h in further m (taken_move joins (takes_join_back a join) ends.1 (moves_ports setups m h)))

  each_taken : (joins : List Join) (a : Acted) → Every IsTaken joins → AreLent a joins → Ready setups a → AreIn (fold takes_join_back a joins).numbers → EachCanBeTakenBack a joins
  each_taken [] a ends lent r n = tt
  each_taken (join ∷ joins) a ends lent r n =
      let next : Acted = takes_join_back a join in
      let k : Ready setups next = ready_taken a join joins ends.0 lent r in (
        can_take_back setups links a join.input (output_joined join) r ends.0.input ends.0.output (in_before setups next (fold takes_join_back next joins) (taken_move joins next ends.1 (ready_ports setups next k)) n),
        each_taken joins next ends.1 (lent_later a join joins lent) k n,
      )

  ready_all : (joins : List Join) (a : Acted) → Every IsTaken joins → AreLent a joins → Ready setups a → Ready setups (fold takes_join_back a joins)
  ready_all [] a ends lent r = r
  ready_all (join ∷ joins) a ends lent r = ready_all joins (takes_join_back a join) ends.1 (lent_later a join joins lent) (ready_taken a join joins ends.0 lent r)

  -- *A change* is begun
  ready_routed : (a : Acted) (table : List Route) (waiting : List RouteChange) (is_begun : Bool) (changes : ℕ) → Ready setups a
      → Ready setups (record a { controller = record a.controller { table = table; waiting = waiting; is_begun = is_begun; changes = changes } })
  ready_routed a table waiting is_begun changes r = ready_by setups a _ (moves_to (routing a table waiting is_begun changes)) (record {
    sound = moves_sound setups a _ (moves_to (routing a table waiting is_begun changes)) r.holds.sound;
    order = r.holds.order;
  }) r

  ready_begun : (a : Acted) → Ready setups a → Ready setups (with_begun a)
  ready_begun a r = ready_routed a a.controller.table a.controller.waiting true a.controller.changes r

  are_joins : (a : Acted) (change : RouteChange) → HasPorts setups a → Every (IsJoin setups a) (changed_joins a.controller change)
  are_joins a change h = every_filter (IsJoin setups a) (is_changed a.controller.table change) (joins_of a.controller) (joins_are setups a h)

  are_taken : (a : Acted) (change : RouteChange) → HasPorts setups a → Every IsTaken (changed_joins a.controller change)
  are_taken a change h = every_map (IsJoin setups a) IsTaken (changed_joins a.controller change) (λ join is. record { input = join_input setups a join h is; output = join_output setups a join h is }) (are_joins a change h)

  are_lent : (a : Acted) (change : RouteChange) → HasPorts setups a → AreLent (with_begun a) (changed_joins a.controller change)
  are_lent a change h e = every_map (IsJoin setups a) (λ (join : Join). is_lent a.controller.ports join.input ≡ true) (changed_joins a.controller change) (λ join is. join_lent setups a join is) (are_joins a change h)

  can_begin : (a : Acted) (change : RouteChange) → Ready setups a → AreIn (begins_change a change).numbers → CanBeginChange a change
  can_begin a change r n not_begun = each_taken (changed_joins a.controller change) (with_begun a) (are_taken a change (ready_ports setups a r)) (are_lent a change (ready_ports setups a r)) (ready_begun a r)
      (subst (λ (b : Bool). AreIn (if b then a else fold takes_join_back (with_begun a) (changed_joins a.controller change)).numbers) not_begun n)

  ready_begins : (a : Acted) (change : RouteChange) → Ready setups a → Ready setups (begins_change a change)
  ready_begins a change r = on_both (Ready setups) a.controller.is_begun a (fold takes_join_back (with_begun a) (changed_joins a.controller change)) r
      (ready_all (changed_joins a.controller change) (with_begun a) (are_taken a change (ready_ports setups a r)) (are_lent a change (ready_ports setups a r)) (ready_begun a r))

  -- and taken
  ready_takes : (a : Acted) (change : RouteChange) (later : List RouteChange) → Ready setups a → Ready setups (takes_change a change later)
  ready_takes a change later r =
      let taken : Acted = record a { controller = record a.controller { table = changed a.controller.table change; waiting = later; is_begun = false; changes = a.controller.changes + 1 } } in
      let k : Ready setups taken = ready_routed a (changed a.controller.table change) later false (a.controller.changes + 1) r in
      record { holds = numbered_holds setups taken (note taken (Routes a.controller.node (a.controller.changes + 1))).notes k.holds; flows = k.flows }

  takes_move : (changes : List RouteChange) (a : Acted) → HasPorts setups a → Moves setups a (takes_each a changes)
  takes_move [] a h = stays a
  takes_move (change ∷ later) a h =
      let next : Acted = begins_change a change in
      let m : Moves setups a next = begins_change_goes setups a change h in
      let t : Moves setups next (takes_change next change later) = takes_change_goes setups next change later in
      on_both (Moves setups a) (may_take next.controller change) (takes_each (takes_change next change later) later) next
      (further m (further t (takes_move later (takes_change next change later) (moves_ports setups t (moves_ports setups m h))))) m

  -- the beginning of a change comes before what follows
  begins_in : (a : Acted) (change : RouteChange) (later : List RouteChange) → Ready setups a → AreIn (takes_each a (change ∷ later)).numbers → AreIn (begins_change a change).numbers
  begins_in a change later r n =
      let next : Acted = begins_change a change in
      let k : HasPorts setups next = moves_ports setups (begins_change_goes setups a change (ready_ports setups a r)) (ready_ports setups a r) in
      let t : Moves setups next (takes_change next change later) = takes_change_goes setups next change later in
      in_before setups next (takes_each a (change ∷ later))
      (on_both (Moves setups next) (may_take next.controller change) (takes_each (takes_change next change later) later) next (further t (takes_move later (takes_change next change later) (moves_ports setups t k))) (stays next)) n

  each_change : (changes : List RouteChange) (a : Acted) → Ready setups a → AreIn (takes_each a changes).numbers → EachCanBeTaken a changes
  each_change [] a r n = tt
  each_change (change ∷ later) a r n =
      let next : Acted = begins_change a change in (
        has_grants setups a (ready_ports setups a r),
        can_begin a change r (begins_in a change later r n),
        λ may. each_change later (takes_change next change later) (ready_takes next change later (ready_begins a change r))
            (subst (λ (b : Bool). AreIn (if b then takes_each (takes_change next change later) later else next).numbers) may n),
      )

  pub can_take_changes : (a : Acted) → Ready setups a → AreIn (takes_changes a).numbers → CanTakeChanges a
  can_take_changes a r n met = each_change a.controller.waiting a r (subst (λ (b : Bool). AreIn (if b then takes_each a a.controller.waiting else a).numbers) met n)

  pub ready_changed : (a : Acted) (waiting : List RouteChange) → Ready setups a → Ready setups (record a { controller = record a.controller { waiting = waiting } })
  ready_changed a waiting r = ready_routed a a.controller.table waiting a.controller.is_begun a.controller.changes r
