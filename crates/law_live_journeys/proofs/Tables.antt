-- in a stretch of events in which no route changes each node holds its table

use Rattle.std.proofs.Common.{◌≡◌, ℕ, zero, suc, ◌≤◌, Bool, true, false, List, [], ◌∷◌, ◌++◌, append_assoc, append-nil, length, take, drop, fold, Option, None, Some, refl, sym, ◌∙◌, ap, subst, arith}
use Rattle.std.specs.Prelude.{◌||◌}
use Rattle.std.specs.List.{list_any}
use Rattle.std.specs.Option.{option_map, option_map_or}
use Rattle.std.proofs.lemmas.List.{take_all}
use Rattle.world_model.specs.Words.{NodeId, Policy, RouteChange, changed, Controller, Topology, Node, node_at, routes_of, changes_of, World, Site, site_at, controller_at, next, table_in}
use Rattle.world_model.specs.World.{opened}
use Rattle.world_model.specs.ipv4_forward.declared.table.Route.{Route}
use Rattle.world_model.specs.network_model.declared.event.Event.{Event}
use Rattle.world_model.specs.network_model.declared.event.Event.TheVariants as kinds
use Rattle.law_live_carried_out.proofs.law_run_facts.Steps.{after_one}
use Rattle.law_told_tables.specs.Tables.{HoldsTold, IsToldNode, changes_taken, changes_route, ChangesNoRoute}
use Rattle.law_told_tables.proofs.Lists.{changes_split}
use Rattle.law_told_tables.proofs.Runs.{tables_are_told}
use Rattle.law_live_carried_out.proofs.law_true_runs.Fronts.{none_in_front}
use Rattle.law_live_carried_out.specs.law_live_hearing.Law.{world_at}
use Rattle.law_live_journeys.specs.Journeys.{TablesStay}

-- *Changes* that come to a node
module _ (node : NodeId) where
  one_none : (event : Event) → changes_route event ≡ false → changes_of node (event ∷ []) ≡ []
  one_none (kinds.Inject at octets) e = refl
  one_none (kinds.Carry place) e = refl
  one_none (kinds.Lose place) e = refl
  one_none (kinds.Tick at) e = refl
  one_none (kinds.TickSwitch at) e = refl
  one_none (kinds.Restart at) e = refl
  one_none (kinds.RestartSwitch at) e = refl
  one_none (kinds.Forge place channel payload) e = refl
  one_none (kinds.Route at change) e = absurd (cc e)

  either : (a b : Bool) → (a || b) ≡ false → (a ≡ false) × (b ≡ false)
  either true b e = absurd (cc e)
  either false b e = (refl, e)

  none_come : (front : List Event) → ChangesNoRoute front → changes_of node front ≡ []
  none_come [] e = refl
  none_come (event ∷ front) e =
      let parts = either (changes_route event) (list_any changes_route front) e in
      changes_split node event front ∙ (ap (λ (cs : List RouteChange). cs ++ changes_of node front) (one_none event parts.0) ∙ none_come front parts.1)

  join : (before front : List Event) → changes_of node (before ++ front) ≡ changes_of node before ++ changes_of node front
  join [] front = refl
  join (event ∷ before) front = changes_split node event (before ++ front)
      ∙ (ap (λ (cs : List RouteChange). changes_of node (event ∷ []) ++ cs) (join before front)
      ∙ (sym (append_assoc (changes_of node (event ∷ [])) (changes_of node before) (changes_of node front))
      ∙ ap (λ (cs : List RouteChange). cs ++ changes_of node front) (sym (changes_split node event before))))

  same_changes : (before front : List Event) → ChangesNoRoute front → changes_of node (before ++ front) ≡ changes_of node before
  same_changes before front none = join before front ∙ (ap (λ (cs : List RouteChange). changes_of node before ++ cs) (none_come front none) ∙ append-nil (changes_of node before))

all_dropped : {A : Type 0} (n : ℕ) (xs : List A) → drop n xs ≡ [] → length xs ≤ n
all_dropped zero [] e = omega arith
all_dropped zero (x ∷ xs) e = absurd (cc e)
all_dropped (suc n) [] e = omega arith
all_dropped (suc n) (x ∷ xs) e = omega (arith, all_dropped n xs e)

table_of : (o : Option Site) → option_map_or (λ (s : Site). s.controller.table) o [] ≡ option_map_or (λ (c : Controller). c.table) (option_map (λ (s : Site). s.controller) o) []
table_of None = refl
table_of (Some site) = refl

module _ (policy : Policy) (topology : Topology) (node : NodeId) where
  abbrev at : List Event → Option Controller
  at before = controller_at (world_at policy topology before) node

  told : (before : List Event) → IsToldNode topology before node (node_at topology node) (at before)
  told before = (tables_are_told policy topology before).tables before [] (sym (append-nil before)) node

  -- *It takes no change back*
  abbrev taken_by : List Event → ℕ
  taken_by before = changes_taken (world_at policy topology before) node

  rises : (front before : List Event) → taken_by before ≤ taken_by (before ++ front)
  rises [] before = (let same : taken_by (before ++ []) ≡ taken_by before = ap taken_by (append-nil before) in omega (arith, same))
  rises (event ∷ front) before =
      let one : taken_by before ≤ changes_taken (next topology (world_at policy topology before) event) node =
      ((tables_are_told policy topology (before ++ event ∷ [])).records before [] event refl node).rises in
      let more : taken_by (before ++ event ∷ []) ≤ taken_by ((before ++ event ∷ []) ++ front) = rises front (before ++ event ∷ []) in
      let now : taken_by (before ++ event ∷ []) ≡ changes_taken (next topology (world_at policy topology before) event) node =
      ap (λ (v : World). changes_taken v node) (after_one topology (opened policy topology) before event) in
      let joined : taken_by ((before ++ event ∷ []) ++ front) ≡ taken_by (before ++ event ∷ front) = ap taken_by (append_assoc before (event ∷ []) front) in
      omega (arith, one, more, now, joined)

  -- *Its controller* holds what it was told
  holds : (before : List Event) (c : Controller) → at before ≡ Some c → HoldsTold topology before node c
  holds before c e = by (node_at topology node) (subst (IsToldNode topology before node (node_at topology node)) e (told before))
    where
      by : (own : Option Node) → IsToldNode topology before node own (Some c) → HoldsTold topology before node c
      by None h = absurd h
      by (Some own) h = h

  still_none : (before after : List Event) → at before ≡ None → at after ≡ None
  still_none before after e = by (node_at topology node) refl (subst (IsToldNode topology before node (node_at topology node)) e (told before))
    where
      now : (own : Option Node) (o : Option Controller) → own ≡ None → IsToldNode topology after node own o → o ≡ None
      now None None is h = refl
      now None (Some c) is h = absurd h
      now (Some own) o is h = absurd (cc is)

      by : (own : Option Node) → node_at topology node ≡ own → IsToldNode topology before node own None → at after ≡ None
      by None is h = now (node_at topology node) (at after) is (told after)
      by (Some own) is h = absurd h

  abbrev table_by : Option Controller → List Route
  table_by o = option_map_or (λ (c : Controller). c.table) o []

  abbrev tables : List Event → List Route
  tables before = table_in node (world_at policy topology before)

  by_controller : (before : List Event) → tables before ≡ option_map_or (λ (c : Controller). c.table) (at before) []
  by_controller before = table_of (site_at (world_at policy topology before) node)

  module _ (past front : List Event) (none : ChangesNoRoute front) (waits : (c : Controller) → at past ≡ Some c → c.waiting ≡ []) where
    stays : (c d : Controller) → at past ≡ Some c → at (past ++ front) ≡ Some d → d.table ≡ c.table
    stays c d e f =
        let old : HoldsTold topology past node c = holds past c e in
        let new : HoldsTold topology (past ++ front) node d = holds (past ++ front) d f in
        let all : length (changes_of node past) ≤ c.changes = all_dropped c.changes (changes_of node past) (sym old.waiting ∙ waits c e) in
        let more : taken_by past ≤ taken_by (past ++ front) = rises front past in
        let had : taken_by past ≡ c.changes = ap (λ (o : Option Controller). option_map_or (λ (x : Controller). x.changes) o 0) e in
        let has : taken_by (past ++ front) ≡ d.changes = ap (λ (o : Option Controller). option_map_or (λ (x : Controller). x.changes) o 0) f in
        let all_now : length (changes_of node past) ≤ d.changes = omega (arith, all, more, had, has) in
        new.table
        ∙ (ap (λ (cs : List RouteChange). fold changed (routes_of topology node) (take d.changes cs)) (same_changes node past front none)
        ∙ (ap (fold changed (routes_of topology node)) (take_all d.changes (changes_of node past) all_now)
        ∙ (ap (fold changed (routes_of topology node)) (sym (take_all c.changes (changes_of node past) all)) ∙ sym old.table)))

    pub table_stays : tables (past ++ front) ≡ tables past
    table_stays = by (at past) refl (at (past ++ front)) refl
      where
        by : (o : Option Controller) → at past ≡ o → (p : Option Controller) → at (past ++ front) ≡ p → tables (past ++ front) ≡ tables past
        by (Some c) e (Some d) f = by_controller (past ++ front) ∙ (ap table_by f ∙ (stays c d e f ∙ (sym (ap table_by e) ∙ sym (by_controller past))))
        by (Some c) e None f = absurd (cc (sym (still_none (past ++ front) past f) ∙ e))
        by None e p f = by_controller (past ++ front) ∙ (ap table_by (still_none past (past ++ front) e) ∙ (sym (ap table_by e) ∙ sym (by_controller past)))

pub tables_stay : TablesStay
tables_stay policy topology past events keeps front rest e node = table_stays policy topology node past front
    (none_in_front changes_route front rest (subst ChangesNoRoute e keeps.none_comes)) (keeps.none_waits node)
