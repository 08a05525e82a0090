-- what the events of a line need of a network, and make of it

use Rattle.std.proofs.Common.{◌≡◌, ℕ, suc, ◌+◌, ◌-◌, ◌≤◌, ◌<◌, Bool, true, false, List, [], ◌∷◌, length, map, slice_get, Option, None, Some, refl, sym, ◌∙◌, ap, subst, arith, if◌then◌else◌}
use Rattle.std.specs.Prelude.{nat_eq}
use Rattle.std.specs.List.{position}
use Rattle.std.specs.Option.{option_map, option_map_or}
use Rattle.std.proofs.lemmas.Bool.Decides.{nat_tests}
use Rattle.std.proofs.lemmas.List.Quantifiers.{position-Some}
use Rattle.net_types.specs.declared.node.NodeId.{NodeId}
use Rattle.net_types.specs.declared.node.PortNo.{PortNo}
use Rattle.net_types.specs.declared.node.Place.{Place}
use Rattle.net_types.specs.declared.node.Place.TheVariants.{Down, Up, Out}
use Rattle.ipv4_forward.specs.Change.{change_fault}
use Rattle.ipv4_forward.specs.declared.change.ChangeFault.{ChangeFault}
use Rattle.ipv4_forward.specs.declared.change.ChangeFault.TheVariants.{TableFull, NoPrefix}
use Rattle.ipv4_forward.specs.declared.change.RouteChange.{RouteChange}
use Rattle.ipv4_forward.specs.declared.table.Next.{Next}
use Rattle.ipv4_forward.specs.declared.table.Next.TheVariants.{Local, Via}
use Rattle.ipv4_forward.specs.declared.table.Route.{Route}
use Rattle.keyed_lists.specs.Keyed.{at}
use Rattle.script_model.specs.world_model.network_model.declared.event.Event.{Event}
use Rattle.script_model.specs.world_model.network_model.declared.event.Event.TheVariants.{Inject, Carry, Lose, Tick, TickSwitch, Restart, RestartSwitch, Forge, Route as RouteComes}
use Rattle.script_model.specs.world_model.network_model.declared.refusal.EventRefusal.{EventRefusal}
use Rattle.script_model.specs.world_model.Conditions.{IsAccepted, IsEvent, IsLinkedChange, IsNode, IsPlace}
use Rattle.script_model.specs.world_model.Events.{change_refusal, if_linked, next_refusal, or_else, place_refusal}
use Rattle.script_model.specs.world_model.Lines.{is_linked, is_named, node_named}
use Rattle.script_model.specs.world_model.Topology.{Topology, new_node}
use Rattle.script_model.specs.world_model.World.{World, Site, controller_at, site_key}
use Rattle.script_model.proofs.world_model.Lists.{by_eq}
use Rattle.script_model.specs.declared.line.Line.TheVariants.{Event as EventComes}
use Rattle.script_model.specs.Sayable.{IsQueue, IsSayable}
use Rattle.script_model.specs.State.{ScriptState, table_among}
use Rattle.script_model.specs.Texts.{name_of}
use Rattle.world.specs.law_world_pace.Running.{AreNumbered}
use Rattle.network_replay.proofs.Tables.{site_table, tables_of}

-- *A name* is a node's
node_there : (topology : Topology) (name : List ℕ) (node : NodeId) → node_named topology name ≡ Some node → IsNode topology node
node_there topology name node e = by (position (is_named name) topology.nodes) refl e
  where
    by : (found : Option ℕ) → position (is_named name) topology.nodes ≡ found → option_map (λ place. record { 0 = place + 1 }) found ≡ Some node
        → IsNode topology node
    by None at e = absurd (cc)
    by (Some place) at e =
        let within = (position-Some (is_named name) topology.nodes place (new_node [] (record { 0 = 0 })) at).0 in
        let same : ◌≡◌ {A = NodeId} (record { 0 = place + 1 }) node = cc in
        subst (IsNode topology) same (omega arith, omega arith)

linked : (topology : Topology) (node : NodeId) (port : PortNo) → if_linked topology node port ≡ None → is_linked topology node port ≡ true
linked topology node port e = by (is_linked topology node port) e
  where
    by : (b : Bool) → (if b then None else Some Rattle.script_model.specs.world_model.network_model.declared.refusal.EventRefusal.TheVariants.NoLink) ≡ None → b ≡ true
    by true h = refl
    by false h = absurd (cc h)

place_there : (topology : Topology) (place : Place) → IsQueue topology place → place_refusal topology place ≡ None → IsPlace topology place
place_there topology (Down node) is e = node_there topology (name_of topology node) node is.1
place_there topology (Up node) is e = node_there topology (name_of topology node) node is.1
place_there topology (Out node port) is e = (node_there topology (name_of topology node) node is.0.1, linked topology node port e)

-- *A change of a route*
first_none : (a b : Option EventRefusal) → or_else a b ≡ None → a ≡ None
first_none None b e = refl
first_none (Some refusal) b e = absurd (cc e)

second_none : (a b : Option EventRefusal) → or_else a b ≡ None → b ≡ None
second_none None b e = e
second_none (Some refusal) b e = absurd (cc e)

no_fault : (fault : Option ChangeFault) → change_refusal fault ≡ None → fault ≡ None
no_fault None e = refl
no_fault (Some TableFull) e = absurd (cc e)
no_fault (Some NoPrefix) e = absurd (cc e)

linked_change : (topology : Topology) (node : NodeId) (next : Option Next) → next_refusal topology node next ≡ None → IsLinkedChange topology node next
linked_change topology node None e = tt
linked_change topology node (Some Local) e = tt
linked_change topology node (Some (Via port)) e = linked topology node port e

-- *The node of a number* and its table
pub record IsAt (sites : List Site) (tables : List (List Route)) (key place : ℕ) : Type 0 where
  pub site : Site
  pub found : at site_key key sites ≡ Some site
  pub table : slice_get tables place ≡ Some (site_table site)

pub site_is : (number key : ℕ) (sites : List Site) → AreNumbered number sites → number ≤ key → key < number + length sites → IsAt sites (map site_table sites) key (key - number)
site_is number key [] h least most = absurd (omega (arith, least, most))
site_is number key (x ∷ sites) h least most = by_eq (site_key x) key
    (λ same is. (let none : 0 ≡ key - number = omega (arith, same, h.0) in
    record {
      site = x;
      found = ap (λ (b : Bool). if b then Some x else at site_key key sites) is;
      table = subst (λ k. slice_get (map site_table (x ∷ sites)) k ≡ Some (site_table x)) none refl;
    }))
    (λ n is. (let above : suc number ≤ key = later n in
    let r : IsAt sites (map site_table sites) key (key - suc number) = site_is (suc number) key sites h.1 above (omega (arith, most)) in
    let some : suc (key - suc number) ≡ key - number = omega (arith, above) in
    record {
      site = r.site;
      found = ap (λ (b : Bool). if b then Some x else at site_key key sites) is ∙ r.found;
      table = subst (λ k. slice_get (map site_table (x ∷ sites)) k ≡ Some (site_table r.site)) some r.table;
    }))
  where
    later : (site_key x ≡ key → ⊥) → suc number ≤ key
    later n = either (nat_eq number key) refl
      where
        either : (b : Bool) → nat_eq number key ≡ b → suc number ≤ key
        either true e = (let same : number ≡ key = grind (arith, nat_tests, e) in absurd (n (h.0 ∙ same)))
        either false e = grind (arith, nat_tests, e, least)

module _ (state : ScriptState) (w : World) (numbered : AreNumbered 1 w.sites) (same : tables_of w ≡ state.tables) (size : length w.sites ≡ length state.topology.nodes) where
  pub node_at : (node : NodeId) → IsNode state.topology node → IsAt w.sites state.tables node.0 (node.0 - 1)
  node_at node is = subst (λ (ts : List (List Route)). IsAt w.sites ts node.0 (node.0 - 1)) same (site_is 1 node.0 w.sites numbered is.0 (omega (arith, is.1, size)))

  pub table_is : (node : NodeId) (is : IsNode state.topology node) → table_among state.tables node ≡ site_table (node_at node is).site
  table_is node is = ap (λ (o : Option (List Route)). option_map_or (λ table. table) o []) (node_at node is).table

  accepted : (node : NodeId) (change : RouteChange) → IsNode state.topology node → change_fault (table_among state.tables node) change ≡ None → IsAccepted change (controller_at w node)
  accepted node change is fine =
      subst (λ (o : Option Site). IsAccepted change (option_map (λ site. site.controller) o)) (sym (node_at node is).found)
      (subst (λ (table : List Route). change_fault table change ≡ None) (table_is node is) fine)

  -- *An event that is said can come*
  pub event_meant : (event : Event) → IsSayable state (EventComes event) → IsEvent state.topology w event
  event_meant (Inject node packet) can = (node_there state.topology (name_of state.topology node) node can.0.0.1, can.0.2)
  event_meant (Carry place) can = place_there state.topology place can.0 can.1
  event_meant (Lose place) can = place_there state.topology place can.0 can.1
  event_meant (Tick node) can = node_there state.topology (name_of state.topology node) node can.0.1
  event_meant (TickSwitch node) can = node_there state.topology (name_of state.topology node) node can.0.1
  event_meant (Restart node) can = node_there state.topology (name_of state.topology node) node can.0.1
  event_meant (RestartSwitch node) can = node_there state.topology (name_of state.topology node) node can.0.1
  event_meant (Forge place channel payload) can = record { queue = place_there state.topology place can.0.0 can.1; vpi = can.0.1; size = can.0.3; octets = can.0.4 }
  event_meant (RouteComes node change) can =
      let there : IsNode state.topology node = node_there state.topology (name_of state.topology node) node can.0.0.1 in
      let fault : Option EventRefusal = change_refusal (change_fault (table_among state.tables node) change) in
      record {
        there = there;
        linked = linked_change state.topology node change.next (first_none (next_refusal state.topology node change.next) fault can.1);
        accepted = accepted node change there (no_fault (change_fault (table_among state.tables node) change) (second_none (next_refusal state.topology node change.next) fault can.1));
      }
