-- each controller of a run was opened as its node says, and took what came; and its node's labels were bound last as it noted

use Rattle.std.proofs.Common.{◌≡◌, ℕ, zero, suc, ◌+◌, ◌≤◌, List, [], ◌∷◌, ◌++◌, length, slice_get, Option, None, Some, refl, sym, ◌∙◌, ap, subst, arith, append-nil, append_assoc, inl, inr}
use Rattle.std.specs.Option.{option_map, option_or}
use Rattle.law_world_pace.specs.world_model.Words.{NodeId, PortNo, GivenOut, Record, Journal, at, Policy, Controller, Topology, Node, node_at, World, Site, site_key, site_at, controller_at, opened_site, with_opened, opens_each, empty_world, IsTopology, put_away, next, world_after, past_of, last_bound}
use Rattle.law_controller_bindings.specs.ordered_lists.Ordered.{Every}
use Rattle.law_world_pace.specs.world_model.Controller.{Acted}
use Rattle.law_controller_bindings.specs.law_controller_facts.Inputs.{Input, Meanwhile, takes_input, takes_inputs}
use Rattle.law_controller_bindings.specs.law_controller_facts.Sound.{IsOwn, Opening, opened_by}
use Rattle.law_controller_bindings.specs.Bindings as bindings
use Rattle.law_controller_bindings.specs.Bindings.{noted_by, noted_by_all}
use Rattle.law_run_facts.proofs.Frames.{bound_then}
use Rattle.law_lifetimes.specs.Lifetimes.{acted_in, comes_to}
use Rattle.law_lifetimes.proofs.Opened.{opening_of, IsFed, opening_fed}
use Rattle.law_lifetimes.proofs.Feeding.{after_of, inputs_join}
use Rattle.law_lifetimes.proofs.Runs.{next_there, run_fed}
use Rattle.law_world_pace.specs.world_model.network_model.declared.event.Event.{Event}
use Rattle.law_world_pace.specs.world_model.World.{opened}
use Rattle.law_run_facts.proofs.Marked.{WorldMarked}
use Rattle.law_run_facts.proofs.Opening.{found_more}
use Rattle.law_run_facts.proofs.Runs.{Any, any_marked}
use Rattle.law_run_facts.proofs.Steps.{after_one, events_are_steps}
use Rattle.law_run_facts.proofs.Rooms.{IsGoing, run_goes, found_within, runs_have_site}
use Rattle.law_run_facts.proofs.Comes.{comes_own}
use Rattle.law_run_facts.proofs.Telling.{told_by, noted_is, event_tells}

module _ (policy : Policy) (t : Topology) where
  -- *A site was fed*, and these are the records of the run
  pub record FedBy (records : List Record) (node : NodeId) (site : Site) : Type 0 where
    pub there : Node
    pub is_there : node_at t node ≡ Some there
    pub numbers : GivenOut
    pub notes : Journal
    pub inputs : List Input
    pub now : (takes_inputs (opened_by (opening_of policy t node there numbers notes)) inputs).controller ≡ site.controller
    pub bound : (port : PortNo) (label : ℕ) → last_bound (noted_by_all (opened_by (opening_of policy t node there numbers notes)) inputs) (bindings.site node port) label ≡ last_bound records (bindings.site node port) label

  abbrev pub AllFed : List Record → List Site → Type 0
  AllFed records sites = (node : NodeId) (site : Site) → at site_key node.0 sites ≡ Some site → FedBy records node site

  -- *The opening*
  new_fed : (node : NodeId) (there : Node) (numbers : GivenOut) (notes : Journal) → node_at t node ≡ Some there → FedBy [] node (opened_site policy t node there numbers)
  new_fed node there numbers notes is = record { there = there; is_there = is; numbers = numbers; notes = notes; inputs = []; now = refl; bound = λ port label. refl }

  each_fed : (nodes : List Node) (w : World) (place : ℕ) → ((k : ℕ) (node : Node) → slice_get nodes k ≡ Some node → node_at t (record { 0 = place + k }) ≡ Some node) → AllFed [] w.sites → AllFed [] (opens_each policy t w place nodes).sites
  each_fed [] w place is all = all
  each_fed (node ∷ nodes) w place is all = each_fed nodes (with_opened policy t w place node) (suc place) (λ k x e. subst (λ n. node_at t (record { 0 = n }) ≡ Some x) (omega arith) (is (suc k) x e)) more
    where
      new : Site
      new = opened_site policy t (record { 0 = place }) node w.numbers

      own : node_at t (record { 0 = place }) ≡ Some node
      own = subst (λ n. node_at t (record { 0 = n }) ≡ Some node) (omega arith) (is zero node refl)

      some_site : (x y : Site) → Some x ≡ Some y → x ≡ y
      some_site x y e = cc e

      more : AllFed [] (w.sites ++ new ∷ [])
      more n site e = elim (found_more w.sites new n.0) [
        | inl same ↦ all n site (sym same ∙ e)
        | inr is_new ↦ subst (λ (x : Site). FedBy [] n x) (some_site new site (sym is_new.0 ∙ e))
            (subst (λ (k : ℕ). FedBy [] (record { 0 = k }) new) is_new.1 (new_fed (record { 0 = place }) node w.numbers w.notes own))
      ]

  opened_fed : AllFed [] (opened policy t).sites
  opened_fed = each_fed t.nodes empty_world 1 (λ k node e. subst (λ n. node_at t (record { 0 = n }) ≡ Some node) (shift k) e) (λ n site e. absurd (cc e))
    where
      shift : (k : ℕ) → suc k ≡ 1 + k
      shift k = omega arith

  opens_records : (nodes : List Node) (w : World) (place : ℕ) → (opens_each policy t w place nodes).notes.records ≡ w.notes.records
  opens_records [] w place = refl
  opens_records (node ∷ nodes) w place = opens_records nodes (with_opened policy t w place node) (suc place)

  opening_records : (past_of policy t []).records ≡ []
  opening_records = append-nil (opened policy t).notes.records ∙ opens_records t.nodes empty_world 1

-- *What was noted*, with one input more
noted_join : (xs ys : List Input) (a : Acted) → noted_by_all a (xs ++ ys) ≡ noted_by_all a xs ++ noted_by_all (takes_inputs a xs) ys
noted_join [] ys a = refl
noted_join (x ∷ xs) ys a = ap (λ items. noted_by a x ++ items) (noted_join xs ys (takes_input a x)) ∙ sym (append_assoc (noted_by a x) (noted_by_all (takes_input a x) xs) (noted_by_all (takes_inputs (takes_input a x) xs) ys))

module _ (policy : Policy) (t : Topology) where
  -- *An event more*
  module _ (w : World) (event : Event) (h : WorldMarked Any w) (fed : Every IsFed w.sites) (records : List Record) (node : NodeId) (old : Site) (was : site_at w node ≡ Some old) (f : FedBy policy t records node old) where
    abbrev o : Opening
    o = opening_of policy t node f.there f.numbers f.notes

    abbrev records_now : List Record
    records_now = (next t w event).notes.records

    c_there : controller_at w node ≡ Some old.controller
    c_there = ap (option_map (λ (x : Site). x.controller)) was

    tells : (port : PortNo) (label : ℕ) → last_bound (next t w event).notes.records (bindings.site node port) label ≡ told_by node (acted_in w old.controller) (comes_to w node event) port label
    tells = event_tells t w h fed node old.controller c_there event

    fed_more : (comes : Option Input) → comes_to w node event ≡ comes → (new : Site) → new.controller ≡ after_of (put_away w).notes w.numbers old.controller comes
        → ((input : Input) → comes ≡ Some input → IsOwn input) → FedBy policy t (records ++ (next t w event).notes.records) node new
    fed_more None comes new is own = record {
      there = f.there;
      is_there = f.is_there;
      numbers = f.numbers;
      notes = f.notes;
      inputs = f.inputs;
      now = f.now ∙ sym is;
      bound = λ port label. f.bound port label
          ∙ sym (bound_then records (next t w event).notes.records (bindings.site node port) label
          ∙ ap (λ x. option_or x (last_bound records (bindings.site node port) label)) (tells port label ∙ ap (λ i. told_by node (acted_in w old.controller) i port label) comes));
    }
    fed_more (Some input) comes new is own =
        let before : Acted = takes_inputs (opened_by (opening_of policy t node f.there f.numbers f.notes)) f.inputs in
        let a : Acted = record before { notes = (put_away w).notes; numbers = w.numbers } in
        let acted : a ≡ acted_in w old.controller = ap (λ (c : Controller). acted_in w c) f.now in
        let two : List Input = Meanwhile (put_away w).notes w.numbers ∷ input ∷ [] in
        record {
          there = f.there;
          is_there = f.is_there;
          numbers = f.numbers;
          notes = f.notes;
          inputs = f.inputs ++ Meanwhile (put_away w).notes w.numbers ∷ input ∷ [];
          now = ap (λ (b : Acted). b.controller) (inputs_join f.inputs two (opened_by (opening_of policy t node f.there f.numbers f.notes)))
              ∙ ap (λ (b : Acted). (takes_input b input).controller) acted ∙ sym is;
          bound = λ port label.
              ap (λ items. last_bound items (bindings.site node port) label) (noted_join f.inputs two (opened_by (opening_of policy t node f.there f.numbers f.notes)))
              ∙ bound_then (noted_by_all (opened_by (opening_of policy t node f.there f.numbers f.notes)) f.inputs) (noted_by_all before two) (bindings.site node port) label
              ∙ (λ i. option_or (new_ones a acted port label (own input refl) i) (f.bound port label i))
              ∙ sym (bound_then records (next t w event).notes.records (bindings.site node port) label);
        }
      where
        new_ones : (a : Acted) → a ≡ acted_in w old.controller → (port : PortNo) (label : ℕ) → IsOwn input
            → last_bound (noted_by a input ++ []) (bindings.site node port) label ≡ last_bound (next t w event).notes.records (bindings.site node port) label
        new_ones a acted port label is_own =
            ap (λ items. last_bound items (bindings.site node port) label) (append-nil (noted_by a input) ∙ ap (λ (b : Acted). noted_by b input) acted ∙ noted_is (acted_in w old.controller) input is_own)
            ∙ sym (tells port label ∙ ap (λ i. told_by node (acted_in w old.controller) i port label) comes)

  some_controller : (x y : Controller) → Some x ≡ Some y → x ≡ y
  some_controller x y e = cc e

  -- a run with one event more
  one_more : (before : List Event) (event : Event) → IsTopology t → AllFed policy t (past_of policy t before).records (world_after t (opened policy t) before).sites
      → AllFed policy t (past_of policy t (before ++ event ∷ [])).records (world_after t (opened policy t) (before ++ event ∷ [])).sites
  one_more before event is all node new found = by (site_at w node) refl
    where
      w : World
      w = world_after t (opened policy t) before

      later : World
      later = next t w event

      after : world_after t (opened policy t) (before ++ event ∷ []) ≡ later
      after = after_one t (opened policy t) before event

      found_later : site_at later node ≡ Some new
      found_later = subst (λ (x : World). site_at x node ≡ Some new) after found

      goes : IsGoing t w
      goes = run_goes policy t is before

      goes_later : IsGoing t later
      goes_later = subst (IsGoing t) after (run_goes policy t is (before ++ event ∷ []))

      records : (past_of policy t (before ++ event ∷ [])).records ≡ (past_of policy t before).records ++ later.notes.records
      records = (events_are_steps policy t before event).records ∙ ap (λ (x : World). (past_of policy t before).records ++ x.notes.records) after

      by : (o : Option Site) → site_at w node ≡ o → FedBy policy t (past_of policy t (before ++ event ∷ [])).records node new
      by None gone = absurd (cc (sym gone ∙ (runs_have_site t w goes node (runs_within t later goes_later node new found_later (goes_later.size ∙ sym goes.size))).is))
        where
          runs_within : (t : Topology) (v : World) → IsGoing t v → (node : NodeId) (x : Site) → site_at v node ≡ Some x → {n : ℕ} → length v.sites ≡ n → (1 ≤ node.0) × (node.0 ≤ n)
          runs_within t v g node x e same = (let r = found_within t v.events 1 node.0 v.sites x g.sites e in (r.0, omega (arith, r.1, same)))
      by (Some old) was =
          let marked = any_marked policy t before in
          let fed = run_fed t before (opened policy t) (opening_fed policy t) in
          let there = next_there t w event node old.controller fed (ap (option_map (λ (x : Site). x.controller)) was) in
          let is_now : new.controller ≡ after_of (put_away w).notes w.numbers old.controller (comes_to w node event) =
          some_controller new.controller (after_of (put_away w).notes w.numbers old.controller (comes_to w node event)) (sym (ap (option_map (λ (x : Site). x.controller)) found_later) ∙ there) in
          subst (λ items. FedBy policy t items node new) (sym records)
          (fed_more w event marked fed (past_of policy t before).records node old was (all node old was) (comes_to w node event) refl new is_now (λ input e. comes_own w node event input e))

  from_front : (before after : List Event) → IsTopology t → AllFed policy t (past_of policy t before).records (world_after t (opened policy t) before).sites
      → AllFed policy t (past_of policy t (before ++ after)).records (world_after t (opened policy t) (before ++ after)).sites
  from_front before [] is all = subst (λ es. AllFed policy t (past_of policy t es).records (world_after t (opened policy t) es).sites) (sym (append-nil before)) all
  from_front before (event ∷ after) is all = subst (λ es. AllFed policy t (past_of policy t es).records (world_after t (opened policy t) es).sites) (append_assoc before (event ∷ []) after)
      (from_front (before ++ event ∷ []) after is (one_more before event is all))

  pub run_fed_by : (events : List Event) → IsTopology t → AllFed policy t (past_of policy t events).records (world_after t (opened policy t) events).sites
  run_fed_by events is = from_front [] events is (subst (λ items. AllFed policy t items (opened policy t).sites) (sym (opening_records policy t)) (opened_fed policy t))
