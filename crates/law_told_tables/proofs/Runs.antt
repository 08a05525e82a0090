-- in every world of a run each node holds what it was told, and each event records what was taken in it

use Rattle.std.proofs.Common.{◌≡◌, ℕ, ◌+◌, ◌-◌, ◌≤◌, List, [], ◌∷◌, ◌++◌, length, length-append, fold, take, drop, take_at, drop_at, slice_get, append_assoc, append-nil, Option, None, Some, refl, sym, ◌∙◌, ap, subst, arith}
use Rattle.std.specs.List.{range_with_len}
use Rattle.std.specs.Option.{option_map, option_map_or}
use Rattle.std.proofs.lemmas.List.Sums.{fold-append}
use Rattle.world_model.specs.Words.{NodeId, changed, RouteChange, at, put, Policy, Controller, change_comes, changes_of, Topology, Node, node_at, routes_of, World, Site, site_key, site_at, controller_acts, controller_at, put_away, next, worlds_from, world_after, table_in}
use Rattle.world_model.specs.ipv4_forward.declared.table.Route.{Route as RouteOf}
use Rattle.world_model.specs.Controller.{Acted}
use Rattle.world_model.specs.network_model.declared.event.Event.{Event}
use Rattle.world_model.specs.World.{opened}
use Rattle.world_model.proofs.Lists.{at_key, at_put_same}
use Rattle.law_told_tables.specs.Law.{TablesAreTold}
use Rattle.law_told_tables.specs.Tables.{HoldsTold, IsToldNode, changes_taken, numbers_told, IsBrought, AreToldTables}
use Rattle.law_told_tables.specs.Fronts.{world_at}
use Rattle.law_told_tables.proofs.Lists.{changes_split}
use Rattle.law_told_tables.proofs.Taking.{change_node}
use Rattle.law_told_tables.proofs.Nodes.{Holds}
use Rattle.law_told_tables.proofs.Worlds.{IsSo, AreSo, event_so}
use Rattle.law_told_tables.proofs.Opening.{opening_so}
use Rattle.law_told_tables.proofs.Coming.{is_brought}

-- *What has been taken*
abbrev taken_by : Option Site → ℕ
taken_by found = option_map_or (λ (c : Controller). c.changes) (option_map (λ (site : Site). site.controller) found) 0

-- as the next event begins, nothing was taken in it yet
anew : (routes : List RouteOf) (told : List RouteChange) (already : ℕ) (own : Option Node) (found : Option Site) (numbers : List ℕ) → IsSo routes told already own found numbers
    → IsSo routes told (taken_by found) own found []
anew routes told already None None numbers h = (refl, refl)
anew routes told already None (Some site) numbers h = absurd h
anew routes told already (Some own) None numbers h = absurd h
anew routes told already (Some own) (Some site) numbers h =
    record { front = h.front; splits = h.splits; table = h.table; changes = h.changes; since = 0; count = omega arith; recorded = refl }

-- *A node that holds what it was told*, in the words of the law
told_by_front : (front later told : List RouteChange) (n : ℕ) → told ≡ front ++ later → n ≡ length front → take n told ≡ front
told_by_front front later told n splits size = ap (take n) splits ∙ take_at front later n (sym size)

waits_behind : (front later told : List RouteChange) (n : ℕ) → told ≡ front ++ later → n ≡ length front → later ≡ drop n told
waits_behind front later told n splits size = sym (ap (drop n) splits ∙ drop_at front later n (sym size))

holds_told : (t : Topology) (before : List Event) (node : NodeId) (already : ℕ) (c : Controller) (numbers : List ℕ) → Holds (routes_of t node) (changes_of node before) already c numbers → HoldsTold t before node c
holds_told t before node already c numbers h = record {
  taken = omega (arith, h.changes, ap length h.splits, length-append h.front c.waiting);
  table = h.table ∙ ap (fold changed (routes_of t node)) (sym (told_by_front h.front c.waiting (changes_of node before) c.changes h.splits h.changes));
  waiting = waits_behind h.front c.waiting (changes_of node before) c.changes h.splits h.changes;
  to_be = ap (λ (table : List RouteOf). fold changed table c.waiting) h.table ∙ sym (fold-append changed (routes_of t node) h.front c.waiting) ∙ ap (fold changed (routes_of t node)) (sym h.splits);
}

told_node : (t : Topology) (before : List Event) (node : NodeId) (already : ℕ) (own : Option Node) (found : Option Site) (numbers : List ℕ)
    → IsSo (routes_of t node) (changes_of node before) already own found numbers → IsToldNode t before node own (option_map (λ (site : Site). site.controller) found)
told_node t before node already None None numbers h = tt
told_node t before node already None (Some site) numbers h = absurd h
told_node t before node already (Some own) None numbers h = absurd h
told_node t before node already (Some own) (Some site) numbers h = holds_told t before node already site.controller numbers h

-- the table by which fates are judged
held_in : (t : Topology) (before : List Event) (node : NodeId) (already : ℕ) (own : Option Node) (found : Option Site) (numbers : List ℕ) → node_at t node ≡ own
    → IsSo (routes_of t node) (changes_of node before) already own found numbers
    → option_map_or (λ (site : Site). site.controller.table) found [] ≡ fold changed (routes_of t node) (take (taken_by found) (changes_of node before))
held_in t before node already None None numbers is h = sym (ap (λ (o : Option Node). option_map_or (λ (x : Node). x.routes) o []) is)
held_in t before node already None (Some site) numbers is h = absurd h
held_in t before node already (Some own) None numbers is h = absurd h
held_in t before node already (Some own) (Some site) numbers is h = (holds_told t before node already site.controller numbers h).table

-- the numbers that are recorded
tells : (routes : List RouteOf) (told : List RouteChange) (already : ℕ) (own : Option Node) (found : Option Site) (numbers : List ℕ) → IsSo routes told already own found numbers
    → (already ≤ taken_by found) × (numbers ≡ range_with_len (already + 1) (taken_by found - already))
tells routes told already None None numbers h = (omega (arith, h.1), h.0 ∙ ap (range_with_len (already + 1)) (let none : 0 ≡ 0 - already = omega arith in none))
tells routes told already None (Some site) numbers h = absurd h
tells routes told already (Some own) None numbers h = absurd h
tells routes told already (Some own) (Some site) numbers h =
    (omega (arith, h.count), h.recorded ∙ ap (range_with_len (already + 1)) (let since : h.since ≡ site.controller.changes - already = omega (arith, h.count) in since))

some_same : (x y : Controller) → Some x ≡ Some y → x ≡ y
some_same x y e = cc e

module _ (t : Topology) where
  -- *A world* between two events
  abbrev AreTold : (told : NodeId → List RouteChange) → World → Type 0
  AreTold told w = AreSo t (changes_taken w) told (put_away w)

  -- an event that comes, with what it records
  comes : (told : NodeId → List RouteChange) (w : World) (event : Event) → AreTold told w → AreSo t (changes_taken w) (λ n. told n ++ changes_of n (event ∷ [])) (next t w event)
  comes told w event so = event_so t (changes_taken w) told (put_away w) so event

  then_anew : (told : NodeId → List RouteChange) (already : NodeId → ℕ) (w : World) → AreSo t already told w → AreTold told w
  then_anew told already w so n = anew (routes_of t n) (told n) (already n) (node_at t n) (site_at w n) (numbers_told n w.notes.records) (so n)

  -- a run goes on
  goes_on : (told : NodeId → List RouteChange) (w : World) (events : List Event) → AreTold told w → AreTold (λ n. told n ++ changes_of n events) (world_after t w events)
  goes_on told w [] so n = subst (λ (changes : List RouteChange). IsSo (routes_of t n) changes (changes_taken w n) (node_at t n) (site_at w n) []) (sym (append-nil (told n))) (so n)
  goes_on told w (event ∷ events) so n =
      let more : NodeId → List RouteChange = λ m. told m ++ changes_of m (event ∷ []) in
      let rest = goes_on more (next t w event) events (then_anew more (changes_taken w) (next t w event) (comes told w event so)) n in
      let v : World = world_after t (next t w event) events in
      subst (λ (changes : List RouteChange). IsSo (routes_of t n) changes (changes_taken v n) (node_at t n) (site_at v n) [])
      (append_assoc (told n) (changes_of n (event ∷ [])) (changes_of n events) ∙ ap (λ (changes : List RouteChange). told n ++ changes) (sym (changes_split n event events))) rest

  -- a world of a run by its place
  world_there : (w : World) (before after : List Event) → slice_get (worlds_from t w (before ++ after)) (length before) ≡ Some (world_after t w before)
  world_there w [] [] = refl
  world_there w [] (event ∷ after) = refl
  world_there w (event ∷ before) after = world_there (next t w event) before after

  -- the controller after a change that came
  brought_in : (w : World) (node : NodeId) (change : RouteChange) (found : Option Site) → site_at w node ≡ found → (c d : Controller)
      → option_map (λ (site : Site). site.controller) found ≡ Some c → controller_at (controller_acts w found (λ a. change_comes a change)) node ≡ Some d → IsBrought change c d
  brought_in w node change None found c d before after = absurd (none before)
    where
      none : None ≡ Some c → ⊥
      none e = cc e
  brought_in w node change (Some site) found c d before after =
      let a : Acted = record { controller = site.controller; notes = w.notes; numbers = w.numbers } in
      let new : Site = record site { controller = (change_comes a change).controller } in
      let key : site_key new ≡ node.0 = ap (λ (n : NodeId). n.0) (change_node a change) ∙ at_key site_key node.0 w.sites site found in
      let there : at site_key node.0 (put site_key new w.sites) ≡ Some new =
      subst (λ (k : ℕ). at site_key k (put site_key new w.sites) ≡ Some new) key
      (at_put_same site_key new w.sites site (subst (λ (k : ℕ). at site_key k w.sites ≡ Some site) (sym key) found)) in
      let was : site.controller ≡ c = some_same site.controller c before in
      let is : new.controller ≡ d = some_same new.controller d (sym (ap (option_map (λ (x : Site). x.controller)) there) ∙ after) in
      subst (λ (x : Controller). IsBrought change x d) was (subst (IsBrought change site.controller) is (is_brought a change))

module _ (policy : Policy) (t : Topology) where
  told_at : (before : List Event) → AreTold t (λ n. changes_of n before) (world_at policy t before)
  told_at before = goes_on t (λ n. []) (opened policy t) before (then_anew t (λ n. []) (λ n. 0) (put_away (opened policy t)) (opening_so policy t))

  pub tables_told : (events : List Event) → AreToldTables policy t events
  tables_told events = record {
    tables = λ before after split node.
        let w : World = world_at policy t before in
        told_node t before node (changes_taken w node) (node_at t node) (site_at w node) [] (told_at before node);
    held = λ before after split node.
        let w : World = world_at policy t before in
        ap (λ (es : List Event). option_map_or (table_in node) (slice_get (worlds_from t (opened policy t) es) (length before)) []) split
        ∙ ap (λ (o : Option World). option_map_or (table_in node) o []) (world_there t (opened policy t) before after)
        ∙ held_in t before node (changes_taken w node) (node_at t node) (site_at w node) [] refl (told_at before node);
    records = λ before after event split node.
        let w : World = world_at policy t before in
        let v : World = next t w event in
        let told = tells (routes_of t node) (changes_of node before ++ changes_of node (event ∷ [])) (changes_taken w node) (node_at t node) (site_at v node) (numbers_told node v.notes.records)
        (comes t (λ n. changes_of n before) w event (told_at before) node) in
        record { rises = told.0; numbers = told.1 };
    brought = λ before after node change split c d was is.
        let w : World = put_away (world_at policy t before) in
        brought_in t w node change (site_at w node) refl c d was is;
  }

pub tables_are_told : TablesAreTold
tables_are_told policy topology events = tables_told policy topology events
