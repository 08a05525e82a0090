-- what an answer releases can be released: a grant that is given back says one acknowledgement at most

use Rattle.std.proofs.Common.{◌≡◌, Bool, true, false, List, [], ◌∷◌, Option, None, Some, refl, sym, ◌∙◌, ap, subst, if◌then◌else◌, map, fold, arith}
use Rattle.std.specs.Option.{option_map}
use Rattle.std.proofs.lemmas.Bool.Decides.{nat_tests}
use Rattle.controller_joining.specs.world_model.Words.{PortNo, End, same_end, Request, at, leads_home, Desk, on_input, Action, Say, Ask, Note, CutChain, TakeBack, Withdraw, Setup, home_of, grant_label, Work, given_back, Linked, port_key, linked_at, begins, with_work, performs, performs_in_estab, works, joins_of, join_of, parts, gives_back, releases_join, releases_input, released_inputs, releases}
use Rattle.law_controller_conditions.specs.ordered_lists.Ordered.{Every}
use Rattle.law_controller_conditions.proofs.ordered_lists.Every.{every_map, every_map2, every_mapped}
use Rattle.controller_joining.specs.world_model.port_model.declared.action.Action.TheVariants as actions
use Rattle.controller_joining.specs.world_model.port_model.Grants as grants
use Rattle.law_controller_conditions.specs.law_port_facts.Port.{setup_port, IsLabelEnd, IsAction}
use Rattle.law_controller_conditions.proofs.law_port_facts.Found.{filter_passes, find_every}
use Rattle.law_controller_conditions.proofs.law_port_facts.Keyed.{at_key}
use Rattle.controller_joining.specs.world_model.Controller.{Acted, ports_of}
use Rattle.controller_joining.specs.world_model.Joins.{Join}
use Rattle.law_controller_conditions.proofs.law_controller_facts.Moves.{by_giving_back, Found, placing, Moves, moves_to, stays, further, moves_fold, moves_ports, HasPorts, found_setup, found_at_own, found_port}
use Rattle.law_controller_conditions.proofs.law_controller_facts.Performing.{performs_in_estab_goes}
use Rattle.law_controller_conditions.proofs.law_controller_facts.Conditions.{of_label}
use Rattle.law_controller_conditions.proofs.law_controller_facts.Joining.{IsJoin, joins_are, join_input, parts_goes, parts_grants, granted_there, releases_input_goes, every_filter}
use Rattle.law_controller_conditions.specs.law_controller.Actions as law
use Rattle.law_controller_conditions.proofs.law_controller.Actions.{asks_what_can_be_done}
use Rattle.law_controller_conditions.proofs.law_controller.Ordering.{same_number}
use Rattle.law_controller_conditions.proofs.law_controller.Saying.{IsSay}
use Rattle.law_controller_conditions.proofs.law_controller.Releasing.{IsFree, given_back_parts, parts_holds, releases_input_holds}
use Rattle.law_controller_conditions.specs.controller_router.Conditions.{CanPerform, EachCanBePerformed}
use Rattle.controller_joining.specs.Conditions.{IsGrantOf, CanReleaseInput, EachCanBeReleased, released, CanRelease}
use Rattle.law_controller_conditions.specs.Kept.{AreLinks, AreIn}
use Rattle.law_controller_conditions.proofs.Ready.{in_before, Ready, ready_by, ready_ports, fresh_port}
use Rattle.law_controller_conditions.proofs.Doing.{link_port}
use Rattle.law_controller_conditions.proofs.Rules.{each_spent, spent_move}
use Rattle.law_joining_conditions.proofs.Granting.{grant_of}

says_actions : (setups : List Setup) (xs : List Action) → Every IsSay xs → Every (IsAction setups) xs
says_actions setups xs all = every_map IsSay (IsAction setups) xs says_action all
  where
    says_action : (x : Action) → IsSay x → IsAction setups x
    says_action (Say message) is = tt
    says_action (Ask request needed) is = absurd is
    says_action (Note item) is = tt
    says_action (CutChain label) is = tt
    says_action (TakeBack input output) is = absurd is
    says_action (Withdraw input) is = tt
    says_action actions.Reset is = tt

module _ (setups : List Setup) (links : AreLinks setups) where
  -- *Saying* alone
  can_say : (b : Acted) (port : PortNo) (setup : Setup) (x : Action) → IsSay x → at setup_port port.0 setups ≡ Some setup → law.CanDo setups setup x → AreIn (performs port b x).numbers → CanPerform b port x
  can_say b port setup (Say message) is there can n = (let link = link_port setups links port setup there in (can, record { least = link.0; most = link.1; mark = n.controls }))
  can_say b port setup (Ask request needed) is there can n = absurd is
  can_say b port setup (Note item) is there can n = absurd is
  can_say b port setup (CutChain label) is there can n = absurd is
  can_say b port setup (TakeBack input output) is there can n = absurd is
  can_say b port setup (Withdraw input) is there can n = absurd is
  can_say b port setup actions.Reset is there can n = absurd is

  says_move : (port : PortNo) (xs : List Action) (b : Acted) → Every IsSay xs → HasPorts setups b → Moves setups b (fold (performs_in_estab port) b xs)
  says_move port xs b all h = moves_fold setups (IsAction setups) (performs_in_estab port) (λ c x k f. performs_in_estab_goes setups port c x k f) xs (says_actions setups xs all) b h

  says_can : (port : PortNo) (setup : Setup) → at setup_port port.0 setups ≡ Some setup → (xs : List Action) (b : Acted) → Every IsSay xs → Every (law.CanDo setups setup) xs → HasPorts setups b
      → AreIn (fold (performs_in_estab port) b xs).numbers → EachCanBePerformed port b xs
  says_can port setup there [] b says can h n = tt
  says_can port setup there (x ∷ xs) b says can h n =
      let next : Acted = performs_in_estab port b x in
      let k : HasPorts setups next = moves_ports setups (says_move port (x ∷ []) b (says.0, tt) h) h in (
        λ estab. can_say b port setup x says.0 there can.0 (subst (λ (t : Bool). AreIn (if t then performs port b x else b).numbers) estab (in_before setups next (fold (performs_in_estab port) next xs) (says_move port xs next says.1 k) n)),
        says_can port setup there xs next says.1 can.1 k n,
      )

  -- *A grant is given back*
  gives_can : (b : Acted) (join : Join) (linked : Linked) → linked_at b.controller join.port ≡ Some linked → at grant_label join.grant.label linked.port.grants ≡ Some join.grant → grants.lent_input join.grant.state ≡ Some join.input
      → Ready setups b → AreIn (gives_back b join).numbers
      → EachCanBePerformed join.port (with_work b linked (given_back (begins b linked) join.grant)) (given_back (begins b linked) join.grant).actions
  gives_can b join linked found granted lent r n =
      let w : Work = given_back (begins b linked) join.grant in
      let h : HasPorts setups b = ready_ports setups b r in
      let own : Found setups b linked = found_at_own setups b linked join.port found in
      subst (λ (p : PortNo). EachCanBePerformed p (with_work b linked w) w.actions) (same_number linked.setup.port join.port (at_key port_key join.port.0 b.controller.ports linked found))
      (says_can linked.setup.port linked.setup (found_setup setups b linked linked.setup.port h own) w.actions (with_work b linked w)
      (given_back_parts setups b linked join.grant join.input join.grant.state granted (found_port setups b linked join.port h found).apart refl lent).says
      (asks_what_can_be_done.given_back setups linked.setup (begins b linked) join.grant granted (fresh_port setups links b linked join.port found h r.flows))
      (moves_ports setups (moves_to (placing b linked w own (by_giving_back join.grant granted))) h)
      (subst (λ (o : Option Linked). AreIn (works b (λ setup desk v. given_back v join.grant) o).numbers) found n))

  -- *A join is released*
  same_end_is : (a b : End) → same_end a b ≡ true → a ≡ b
  same_end_is a b e = grind (arith, nat_tests)

  join_is : (a : Acted) (input : End) (join : Join) → HasPorts setups a → join_of a.controller input ≡ Some join → IsJoin setups a join
  join_is a input join h e = find_every (IsJoin setups a) (λ (x : Join). same_end x.input input) (joins_of a.controller) join (joins_are setups a h) e

  -- its grant stays while its label is parted
  parted_grant : (a : Acted) (join : Join) → HasPorts setups a → IsJoin setups a join → HasPorts setups (parts a join.input) → IsGrantOf (parts a join.input).controller join
  parted_grant a join h is k = by_found (linked_at (parts a join.input).controller join.port) refl
    where
      by_found : (o : Option Linked) → linked_at (parts a join.input).controller join.port ≡ o → IsGrantOf (parts a join.input).controller join
      by_found None found = (let nothing : None ≡ Some is.linked.port.grants = sym (ap (option_map (λ (x : Linked). x.port.grants)) found) ∙ parts_grants setups a join.input join.port.0 h ∙ ap (option_map (λ (x : Linked). x.port.grants)) is.found in
          absurd (cc nothing))
      by_found (Some linked) found = grant_of setups (parts a join.input) join linked k found (granted_there setups a (parts a join.input) join linked is (parts_grants setups a join.input join.port.0 h) found)

  can_release_input : (a : Acted) (input : End) → Ready setups a → AreIn (releases_input a input).numbers → CanReleaseInput a input
  can_release_input a input r n join found =
      let h : HasPorts setups a = ready_ports setups a r in
      let is : IsJoin setups a join = join_is a input join h found in
      let parted : Acted = parts a join.input in
      let k : Ready setups parted = ready_by setups a parted (parts_goes setups a join.input h) (parts_holds setups a join.input r.holds) r in
      record {
        label = of_label setups join.input (join_input setups a join h is);
        grant = parted_grant a join h is (ready_ports setups parted k);
        work = λ linked there. gives_can parted join linked there (granted_there setups a parted join linked is (parts_grants setups a join.input join.port.0 h) there) is.input k
            (subst (λ (o : Option Join). AreIn (releases_join a o).numbers) found n);
      }

  ready_released : (a : Acted) (input : End) → on_input a.controller.desk input ≡ false → Ready setups a → Ready setups (releases_input a input)
  ready_released a input free r = ready_by setups a (releases_input a input) (releases_input_goes setups a input (ready_ports setups a r)) (releases_input_holds setups a input free r.holds).holds r

  released_move : (inputs : List End) (a : Acted) → HasPorts setups a → Moves setups a (fold releases_input a inputs)
  released_move [] a h = stays a
  released_move (input ∷ inputs) a h = (let m : Moves setups a (releases_input a input) = releases_input_goes setups a input h in further m (released_move inputs (releases_input a input) (moves_ports setups m h)))

  -- all that is free
  abbrev AreFree : Acted → List End → Type 0
  AreFree a inputs = Every (λ (input : End). on_input a.controller.desk input ≡ false) inputs

  free_later : (a : Acted) (input : End) (inputs : List End) → on_input a.controller.desk input ≡ false → AreFree a inputs → Ready setups a → AreFree (releases_input a input) inputs
  free_later a input inputs free all r = every_map (λ (x : End). on_input a.controller.desk x ≡ false) (λ (x : End). on_input (releases_input a input).controller.desk x ≡ false) inputs
      (λ x e. ap (λ (d : Desk). on_input d x) (releases_input_holds setups a input free r.holds).desk ∙ e) all

  each_released : (inputs : List End) (a : Acted) → AreFree a inputs → Ready setups a → AreIn (fold releases_input a inputs).numbers → EachCanBeReleased a inputs
  each_released [] a free r n = tt
  each_released (input ∷ inputs) a free r n =
      let next : Acted = releases_input a input in
      let k : Ready setups next = ready_released a input free.0 r in (
        can_release_input a input r (in_before setups next (fold releases_input next inputs) (released_move inputs next (ready_ports setups next k)) n),
        each_released inputs next (free_later a input inputs free.0 free.1 r) k n,
      )

  ready_all : (inputs : List End) (a : Acted) → AreFree a inputs → Ready setups a → Ready setups (fold releases_input a inputs)
  ready_all [] a free r = r
  ready_all (input ∷ inputs) a free r = ready_all inputs (releases_input a input) (free_later a input inputs free.0 free.1 r) (ready_released a input free.0 r)

  -- *Releases* of an answer that has freed their inputs
  are_free : (a : Acted) (request : Request) → IsFree setups a request → HasPorts setups a → AreFree a (released_inputs a.controller request)
  are_free a request free has =
      let inputs : List End = released_inputs a.controller request in
      let ends : Every (IsLabelEnd setups) inputs = every_filter (IsLabelEnd setups) (λ (input : End). leads_home input (home_of input) request) (map (λ (join : Join). join.input) (joins_of a.controller))
      (every_mapped (λ (join : Join). join.input) (IsLabelEnd setups) (joins_of a.controller) (every_map (IsJoin setups a) (λ (join : Join). IsLabelEnd setups join.input) (joins_of a.controller) (λ join is. join_input setups a join has is) (joins_are setups a has))) in
      every_map2 (λ (input : End). leads_home input (home_of input) request ≡ true) (IsLabelEnd setups) (λ (input : End). on_input a.controller.desk input ≡ false) inputs (λ input led end. free input end led)
      (filter_passes (λ (input : End). leads_home input (home_of input) request) (map (λ (join : Join). join.input) (joins_of a.controller))) ends

  pub can_release : (a : Acted) (request : Request) → IsFree setups a request → Ready setups a → AreIn (releases a request).numbers → CanRelease a request
  can_release a request free r n =
      let inputs : List End = released_inputs a.controller request in
      let all : AreFree a inputs = are_free a request free (ready_ports setups a r) in
      let k : Ready setups (released a request) = ready_all inputs a all r in
      record {
        inputs = each_released inputs a all r (in_before setups (released a request) (releases a request) (spent_move setups links (ports_of (released a request).controller) (released a request) (ready_ports setups (released a request) k)) n);
        spent = each_spent setups links (ports_of (released a request).controller) (released a request) k n;
      }
