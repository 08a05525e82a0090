-- what an answer releases may be released, and ports whose numbers are spent are reset

use Rattle.std.proofs.Common.{◌≡◌, ◌≤◌, ℕ, true, false, List, [], ◌∷◌, Option, None, Some, refl, sym, ◌∙◌, ap, subst, arith, map, fold}
use Rattle.std.specs.Option.{option_map}
use Rattle.law_controller.specs.world_model.Words.{PortNo, End, number_of_channel, IsLinkPort, Request, Part, leads_home, Desk, on_input, Action, Say, Ask, Note, CutChain, TakeBack, Withdraw, Setup, home_of, Label, label_number, Grant, GrantState, Idle, ByController, ByInput, Leaving, grant_label, Session, Work, label_at, with_grants, without_grant, halts_if_spent, reclaim_ack, label_channel_of, put, without, Linked, linked_at, begins, with_work, performs_in_estab, joins_of, join_of, parts, releases_input, released_inputs, resets_spent}
use Rattle.law_controller.specs.ordered_lists.Ordered.{Every}
use Rattle.law_controller.proofs.ordered_lists.Every.{every_map, every_map2, every_mapped}
use Rattle.law_controller.specs.world_model.port_model.declared.action.Action.TheVariants as actions
use Rattle.law_controller.specs.world_model.port_model.Joins as port_joins
use Rattle.law_controller.specs.law_port_facts.Port.{IsLabelEnd}
use Rattle.law_controller.proofs.law_port_facts.Keyed.{on_both}
use Rattle.law_controller.proofs.law_port_facts.Found.{filter_passes}
use Rattle.law_controller.proofs.law_port_facts.Instances.{parted_gave, given_back_gave}
use Rattle.law_controller.proofs.law_port_facts.Steps as steps_of
use Rattle.law_controller.proofs.law_port_facts.Steps.{steps_to}
use Rattle.law_controller.specs.world_model.Controller.{Acted, ports_of, note}
use Rattle.law_controller.specs.world_model.Joins.{Join}
use Rattle.law_controller.proofs.law_controller_facts.Moves.{HasPorts, found_setup, found_at_own}
use Rattle.law_controller.proofs.law_controller_facts.Joining.{IsJoin, joins_are, join_input, every_filter}
use Rattle.law_controller.proofs.law_controller_facts.Laws.{has_ports}
use Rattle.law_controller.proofs.Holding.{Holds}
use Rattle.law_controller.proofs.Saying.{IsSay}
use Rattle.law_controller.proofs.Releasing.{IsFree, parts_holds, tells_parts, releases_input_holds, spent_holds}
use Rattle.law_input_steps.specs.Asking.{CanEach, CanPerformInEstab, CanApply}
use Rattle.law_input_steps.specs.Done.{CanPart, CanRelease, CanReleaseInput, released, CanSpend}
use Rattle.law_input_premises.specs.Read.{AreRead}
use Rattle.law_input_premises.proofs.Rows.{KeepsRows, releases_input_rows, spent_rows}
use Rattle.law_input_premises.proofs.Resetting.{link_above}
use Rattle.law_input_premises.proofs.Working.{can_work}

pub read_on : (setups : List Setup) (a b : Acted) → KeepsRows a b → AreRead setups a.controller.desk.rows → AreRead setups b.controller.desk.rows
read_on setups a b same reads = subst (AreRead setups) (sym same) reads

-- *Nothing is asked* where a label isn't joined any more, and a grant that is given back says its acknowledgement at most
pub parted_asks : (w : Work) (join : Option End) (o : Option Label) → (port_joins.joins_label w join o).actions ≡ w.actions
parted_asks w join None = refl
parted_asks w join (Some label) = on_both (λ (v : Work). v.actions ≡ w.actions) w.halted w
    (record w { port = record w.port { session = option_map (λ (s : Session). record s { labels = put label_number (record label { join = join }) s.labels }) w.port.session } }) refl refl

pub none_asked : {A : Type 0} (f : Acted → A → Acted) (Can : Acted → A → Type 0) (a : Acted) (xs : List A) → xs ≡ [] → CanEach f Can a xs
none_asked f Can a xs none = subst (CanEach f Can a) (sym none) tt

grants_say : (w : Work) (grants : List Grant) → Every IsSay w.actions → Every IsSay (with_grants w grants).actions
grants_say w grants says = on_both (λ (v : Work). Every IsSay v.actions) w.halted w (record w { port = record w.port { grants = grants } }) says says

given_says : (setups : List Setup) (w : Work) (grant : Grant) (state : GrantState) → Every IsSay w.actions → Every IsSay (port_joins.given_back_in w grant state).actions
given_says setups w grant Idle says = says
given_says setups w grant ByController says = says
given_says setups w grant (ByInput input) says = grants_say w (put grant_label (record grant { state = ByController }) w.port.grants) says
given_says setups w grant (Leaving input true) says = (tells_parts setups (without_grant w grant.label) (reclaim_ack (label_channel_of grant.label) grant.flow)).2 (grants_say w (without grant_label grant.label w.port.grants) says)
given_says setups w grant (Leaving input false) says = grants_say w (without grant_label grant.label w.port.grants) says

can_say : (input : End) (port : PortNo) → 1 ≤ port.0 → (b : Acted) (x : Action) → IsSay x → CanPerformInEstab input port b x
can_say input port link b (Say message) is estab = link
can_say input port link b (Ask request needed) is estab = absurd is
can_say input port link b (Note item) is estab = absurd is
can_say input port link b (CutChain label) is estab = absurd is
can_say input port link b (TakeBack i o) is estab = absurd is
can_say input port link b (Withdraw i) is estab = absurd is
can_say input port link b actions.Reset is estab = absurd is

says_can : (input : End) (port : PortNo) → 1 ≤ port.0 → (xs : List Action) (b : Acted) → Every IsSay xs → CanEach (performs_in_estab port) (CanPerformInEstab input port) b xs
says_can input port link [] b says = tt
says_can input port link (x ∷ xs) b says = (can_say input port link b x says.0, says_can input port link xs (performs_in_estab port b x) says.1)

module _ (setups : List Setup) (links : Every (λ (setup : Setup). IsLinkPort setup.port) setups) (input : End) (above : 1 ≤ input.port.0) where
  -- *A release*
  can_part : (a : Acted) (join : Join) → Holds setups a → CanPart input a join
  can_part a join h = record { label = by_label (linked_at a.controller join.input.port); grant = by_grant (linked_at (parts a join.input).controller join.port) refl }
    where
      by_label : (o : Option Linked) → CanApply input (note a (Part a.controller.node join.input.port (number_of_channel join.input.channel))) (λ setup desk w. port_joins.parted w (number_of_channel join.input.channel)) o
      by_label None = tt
      by_label (Some linked) =
          let b : Acted = note a (Part a.controller.node join.input.port (number_of_channel join.input.channel)) in
          let w : Work = port_joins.parted (begins b linked) (number_of_channel join.input.channel) in
          record {
            instances = subst (λ (n : ℕ). a.numbers.instances ≤ n) (sym (parted_gave a.numbers.instances (begins b linked) (number_of_channel join.input.channel) refl)) (omega arith);
            each = none_asked (performs_in_estab linked.setup.port) (CanPerformInEstab input linked.setup.port) (with_work b linked w) w.actions
                (parted_asks (begins b linked) None (label_at linked.port (number_of_channel join.input.channel)));
          }

      by_grant : (o : Option Linked) → linked_at (parts a join.input).controller join.port ≡ o → CanApply input (parts a join.input) (λ setup desk w. port_joins.given_back w join.grant) o
      by_grant None found = tt
      by_grant (Some linked) found =
          let b : Acted = parts a join.input in
          let w : Work = port_joins.given_back (begins b linked) join.grant in
          let has : HasPorts setups b = has_ports setups b (parts_holds setups a join.input h).sound in
          record {
            instances = subst (λ (n : ℕ). b.numbers.instances ≤ n) (sym (given_back_gave b.numbers.instances (begins b linked) join.grant refl)) (omega arith);
            each = says_can input linked.setup.port (link_above setups links input above linked.setup.port linked.setup (found_setup setups b linked linked.setup.port has (found_at_own setups b linked join.port found)))
                w.actions (with_work b linked w) (given_says setups (begins b linked) join.grant join.grant.state tt);
          }

  can_release_input : (a : Acted) (joined : End) → Holds setups a → CanReleaseInput input a joined
  can_release_input a joined h = by_join (join_of a.controller joined)
    where
      by_join : (o : Option Join) → CanRelease input a o
      by_join None = tt
      by_join (Some join) = can_part a join h

  abbrev AreFree : Acted → List End → Type 0
  AreFree a inputs = Every (λ (i : End). on_input a.controller.desk i ≡ false) inputs

  free_later : (a : Acted) (i : End) (inputs : List End) → on_input a.controller.desk i ≡ false → AreFree a inputs → Holds setups a → AreFree (releases_input a i) inputs
  free_later a i inputs free all h = every_map (λ (x : End). on_input a.controller.desk x ≡ false) (λ (x : End). on_input (releases_input a i).controller.desk x ≡ false) inputs
      (λ x e. ap (λ (d : Desk). on_input d x) (releases_input_holds setups a i free h).desk ∙ e) all

  each_released : (inputs : List End) (a : Acted) → AreFree a inputs → Holds setups a → CanEach releases_input (CanReleaseInput input) a inputs
  each_released [] a free h = tt
  each_released (i ∷ inputs) a free h =
      (can_release_input a i h, each_released inputs (releases_input a i) (free_later a i inputs free.0 free.1 h) (releases_input_holds setups a i free.0 h).holds)

  all_released : (inputs : List End) (a : Acted) → AreFree a inputs → Holds setups a → AreRead setups a.controller.desk.rows → Holds setups (fold releases_input a inputs) × AreRead setups (fold releases_input a inputs).controller.desk.rows
  all_released [] a free h reads = (h, reads)
  all_released (i ∷ inputs) a free h reads = all_released inputs (releases_input a i) (free_later a i inputs free.0 free.1 h) (releases_input_holds setups a i free.0 h).holds
      (read_on setups a (releases_input a i) (releases_input_rows a i) reads)

  are_free : (a : Acted) (request : Request) → IsFree setups a request → HasPorts setups a → AreFree a (released_inputs a.controller request)
  are_free a request free has =
      let inputs : List End = released_inputs a.controller request in
      let ends : Every (IsLabelEnd setups) inputs = every_filter (IsLabelEnd setups) (λ (i : End). leads_home i (home_of i) request) (map (λ (join : Join). join.input) (joins_of a.controller))
      (every_mapped (λ (join : Join). join.input) (IsLabelEnd setups) (joins_of a.controller) (every_map (IsJoin setups a) (λ (join : Join). IsLabelEnd setups join.input) (joins_of a.controller) (λ join is. join_input setups a join has is) (joins_are setups a has))) in
      every_map2 (λ (i : End). leads_home i (home_of i) request ≡ true) (IsLabelEnd setups) (λ (i : End). on_input a.controller.desk i ≡ false) inputs (λ i led end. free i end led)
      (filter_passes (λ (i : End). leads_home i (home_of i) request) (map (λ (join : Join). join.input) (joins_of a.controller))) ends

  pub can_release : (a : Acted) (request : Request) → IsFree setups a request → Holds setups a → CanEach releases_input (CanReleaseInput input) a (released_inputs a.controller request)
  can_release a request free h = each_released (released_inputs a.controller request) a (are_free a request free (has_ports setups a h.sound)) h

  -- *Spent numbers*
  can_spend : (a : Acted) (port : PortNo) → Holds setups a → AreRead setups a.controller.desk.rows → CanSpend input a port
  can_spend a port h reads = can_work setups links input above a port (λ setup desk w. halts_if_spent w) (λ linked found. steps_to (steps_of.closing (begins a linked))) reads h

  each_spent : (ports : List PortNo) (a : Acted) → Holds setups a → AreRead setups a.controller.desk.rows → CanEach resets_spent (CanSpend input) a ports
  each_spent [] a h reads = tt
  each_spent (port ∷ ports) a h reads = (can_spend a port h reads, each_spent ports (resets_spent a port) (spent_holds setups a port h) (read_on setups a (resets_spent a port) (spent_rows a port) reads))

  pub can_spend_each : (a : Acted) (request : Request) → IsFree setups a request → Holds setups a → AreRead setups a.controller.desk.rows
      → CanEach resets_spent (CanSpend input) (released a request) (ports_of (released a request).controller)
  can_spend_each a request free h reads =
      let k = all_released (released_inputs a.controller request) a (are_free a request free (has_ports setups a h.sound)) h reads in
      each_spent (ports_of (released a request).controller) (released a request) k.0 k.1
