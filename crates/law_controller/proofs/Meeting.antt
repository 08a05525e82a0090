-- meeting the switch and its answers keep requests and joins in order

use Rattle.std.proofs.Common.{◌≡◌, ◌≢◌, ℕ, Bool, true, false, List, [], ◌∷◌, ◌++◌, Option, None, Some, refl, sym, ◌∙◌, ap, subst, arith, ◌≤◌, if◌then◌else◌, inl, inr, map, fold}
use Rattle.std.specs.Prelude.{◌⊎◌, ◌==◌, ◌&&◌, not, find, filter, flat_map}
use Rattle.std.specs.List.{filter_map}
use Rattle.std.specs.Option.{option_map_or}
use Rattle.std.proofs.lemmas.Bool.Decides.{nat_tests}
use Rattle.law_controller_facts.specs.world_model.Words.{PortNo, End, Request, AddBranch, MoveBranch, DeleteTree, VerifyTree, PortManagement, same_end, in_order, is_on, is_delete_all, leads_home, Desk, Standing, on_input, all_on, Done, after_answer, without_request, Setup, home_of, Grant, Session, is_spent, halts_if_spent, Work, halts, Linked, port_key, linked_at, with_desk, begins, works, works_as, join_to, joins_at, end_le, released_inputs, releases_input, resets_spent, releases, IsLinkPort}
use Rattle.law_controller_facts.specs.world_model.gsmp_wire.declared.request.Request.TheVariants.{DeleteAll, AllPorts}
use Rattle.law_controller_facts.specs.ordered_lists.Ordered.{Every, InOrder}
use Rattle.law_controller_facts.proofs.ordered_lists.Every.{every_map, every_map2}
use Rattle.law_controller_facts.proofs.ordered_lists.Parts.{every_part, part_filtered}
use Rattle.law_controller_facts.specs.world_model.port_model.Requests.{request_input}
use Rattle.law_controller_facts.specs.law_port_facts.Port.{IsLabelEnd}
use Rattle.law_controller_facts.proofs.law_port_facts.Keyed.{at_every}
use Rattle.law_controller_facts.proofs.law_port_facts.Found.{find_every, filter_passes}
use Rattle.law_controller_facts.specs.world_model.Controller.{Acted, ports_of}
use Rattle.law_controller_facts.specs.world_model.Joins.{Join}
use Rattle.law_controller_facts.specs.Sound.{IsShutLinked, HaveOwnInputs, HaveOwnPorts}
use Rattle.law_controller_facts.proofs.Conditions.{label_has_home}
use Rattle.law_controller.specs.Order.{IsDeleting, IsMeeting, listing, emptying, IsLinkInput, IsApart}
use Rattle.law_controller.proofs.Lists.{each_any, found_any}
use Rattle.law_controller.proofs.Holding.{Holds}
use Rattle.law_controller.proofs.Releasing.{IsFree}
use Rattle.law_controller.proofs.Saying.{SameDesk}
use Rattle.law_controller.proofs.Entering.{both_not}

is_end : (a b : End) → same_end a b ≡ true → a ≡ b
is_end a b e = grind (arith, nat_tests)

-- *What was answered* stands no longer
module _ (s : Standing) (test : Standing → Bool) where
  abbrev IsAnswered : Standing → Bool
  IsAnswered other = other.number == s.number

  same_itself : (n : ℕ) → (n == n) ≡ true
  same_itself n = grind (arith, nat_tests)

  found_first : (x : Standing) (xs : List Standing) → find test (x ∷ xs) ≡ Some s → (x ≡ s) ⊎ (find test xs ≡ Some s)
  found_first x xs e = by_test (test x) e
    where
      by_test : (b : Bool) → (if b then Some x else find test xs) ≡ Some s → (x ≡ s) ⊎ (find test xs ≡ Some s)
      by_test true e = inl (cc)
      by_test false e = inr e

  -- nothing else is on its input
  off_others : (i : End) (x y : Standing) → HaveOwnInputs x y → request_input x.request ≡ Some i → is_on i y.request ≡ false
  off_others i x y own on = by_input (request_input y.request) refl
    where
      by_input : (o : Option End) → request_input y.request ≡ o → option_map_or (same_end i) o false ≡ false
      by_input None is = refl
      by_input (Some j) is = by_same (same_end i j) refl
        where
          by_same : (b : Bool) → same_end i j ≡ b → same_end i j ≡ false
          by_same true e = absurd (own i on (is ∙ ap (λ (x : End). Some x) (sym (is_end i j e))))
          by_same false e = e

  off_earlier : (i : End) (x y : Standing) → HaveOwnInputs x y → request_input y.request ≡ Some i → is_on i x.request ≡ false
  off_earlier i x y own on = by_input (request_input x.request) refl
    where
      by_input : (o : Option End) → request_input x.request ≡ o → option_map_or (same_end i) o false ≡ false
      by_input None is = refl
      by_input (Some j) is = by_same (same_end i j) refl
        where
          by_same : (b : Bool) → same_end i j ≡ b → same_end i j ≡ false
          by_same true e = absurd (own i (is ∙ ap (λ (x : End). Some x) (sym (is_end i j e))) on)
          by_same false e = e

  own_free : (i : End) → request_input s.request ≡ Some i → (standing : List Standing) → InOrder HaveOwnInputs standing → find test standing ≡ Some s
      → Every (λ (t : Standing). not (IsAnswered t) ≡ true → is_on i t.request ≡ false) standing
  own_free i on [] order found = tt
  own_free i on (x ∷ xs) order found = by_first (found_first x xs found) (λ later. own_free i on xs order.1 later)
    where
      passed : x ≡ s → not (IsAnswered x) ≡ true → ⊥
      passed same e = absurd (cc (sym (ap not (ap (λ (y : Standing). y.number == s.number) same ∙ same_itself s.number)) ∙ e))

      by_first : (x ≡ s) ⊎ (find test xs ≡ Some s) → (find test xs ≡ Some s → Every (λ (t : Standing). not (IsAnswered t) ≡ true → is_on i t.request ≡ false) xs)
          → Every (λ (t : Standing). not (IsAnswered t) ≡ true → is_on i t.request ≡ false) (x ∷ xs)
      by_first (inl same) rest = (
        (λ e. absurd (passed same e)),
        every_map (HaveOwnInputs x) (λ (t : Standing). not (IsAnswered t) ≡ true → is_on i t.request ≡ false) xs
            (λ t own e. off_others i x t own (ap (λ (y : Standing). request_input y.request) same ∙ on)) order.0,
      )
      by_first (inr later) rest = ((λ e. off_earlier i x s (find_every (HaveOwnInputs x) test xs s order.0 later) on), rest later)

  -- no other Delete All of its port stands
  own_port : (port : PortNo) → is_delete_all port s.request ≡ true → (standing : List Standing) → InOrder HaveOwnPorts standing → find test standing ≡ Some s
      → Every (λ (t : Standing). not (IsAnswered t) ≡ true → is_delete_all port t.request ≡ false) standing
  own_port port deletes [] order found = tt
  own_port port deletes (x ∷ xs) order found = by_first (found_first x xs found) (λ later. own_port port deletes xs order.1 later)
    where
      passed : x ≡ s → not (IsAnswered x) ≡ true → ⊥
      passed same e = absurd (cc (sym (ap not (ap (λ (y : Standing). y.number == s.number) same ∙ same_itself s.number)) ∙ e))

      earlier : (b : Bool) → is_delete_all port x.request ≡ b → find test xs ≡ Some s → is_delete_all port x.request ≡ false
      earlier true is later = absurd (both_not (is_delete_all port s.request) deletes (find_every (HaveOwnPorts x) test xs s order.0 later port is))
      earlier false is later = is

      by_first : (x ≡ s) ⊎ (find test xs ≡ Some s) → (find test xs ≡ Some s → Every (λ (t : Standing). not (IsAnswered t) ≡ true → is_delete_all port t.request ≡ false) xs)
          → Every (λ (t : Standing). not (IsAnswered t) ≡ true → is_delete_all port t.request ≡ false) (x ∷ xs)
      by_first (inl same) rest = (
        (λ e. absurd (passed same e)),
        every_map (HaveOwnPorts x) (λ (t : Standing). not (IsAnswered t) ≡ true → is_delete_all port t.request ≡ false) xs
            (λ t own e. own port (ap (λ (y : Standing). is_delete_all port y.request) same ∙ deletes)) order.0,
      )
      by_first (inr later) rest = ((λ e. earlier (is_delete_all port x.request) refl later), rest later)

  pub answered_none : (port : PortNo) → is_delete_all port s.request ≡ true → (desk : Desk) → InOrder HaveOwnPorts desk.standing → find test desk.standing ≡ Some s → all_on (without_request desk s) port ≡ false
  answered_none port deletes desk order found = each_any (λ (t : Standing). is_delete_all port t.request) (filter (λ (t : Standing). not (IsAnswered t)) desk.standing)
      (every_map2 (λ (t : Standing). not (IsAnswered t) ≡ true) (λ (t : Standing). not (IsAnswered t) ≡ true → is_delete_all port t.request ≡ false) (λ (t : Standing). is_delete_all port t.request ≡ false)
      (filter (λ (t : Standing). not (IsAnswered t)) desk.standing) (λ t e none. none e) (filter_passes (λ (t : Standing). not (IsAnswered t)) desk.standing)
      (every_part (λ (t : Standing). not (IsAnswered t) ≡ true → is_delete_all port t.request ≡ false) (part_filtered (λ (t : Standing). not (IsAnswered t)) desk.standing) (own_port port deletes desk.standing order found)))

  -- what stands while the switch is met is Delete All, once All Ports is answered
  pub left_deleting : (standing : List Standing) → IsMeeting standing → find test standing ≡ Some s → Every (λ (t : Standing). IsDeleting t.request) (filter (λ (t : Standing). not (IsAnswered t)) standing)
  left_deleting _ (listing x is) found = by_first (found_first x [] found)
    where
      by_first : (x ≡ s) ⊎ (find test [] ≡ Some s) → Every (λ (t : Standing). IsDeleting t.request) (filter (λ (t : Standing). not (IsAnswered t)) (x ∷ []))
      by_first (inl same) = subst (λ (b : Bool). Every (λ (t : Standing). IsDeleting t.request) (if not b then x ∷ [] else [])) (sym (ap (λ (y : Standing). y.number == s.number) same ∙ same_itself s.number)) tt
      by_first (inr later) = absurd (cc later)
  left_deleting standing (emptying _ all) found = every_part (λ (t : Standing). IsDeleting t.request) (part_filtered (λ (t : Standing). not (IsAnswered t)) standing) all

-- *Shut ports*: nothing is joined
shut_joins : (ports : List Linked) → Every IsShutLinked ports → flat_map joins_at ports ≡ []
shut_joins [] all = refl
shut_joins (x ∷ ports) all = ap (λ (gs : List Grant). filter_map (join_to x.setup.port) gs ++ flat_map joins_at ports) all.0.grants ∙ shut_joins ports all.1

module _ (setups : List Setup) (links : Every (λ (setup : Setup). IsLinkPort setup.port) setups) where
  label_input : (input : End) → IsLabelEnd setups input → IsLinkInput input
  label_input input end = not_zero input.port.0 (label_has_home setups input links end).least
    where
      not_zero : (n : ℕ) → 1 ≤ n → n ≢ 0
      not_zero n least e = omega (arith, least, e)

  -- *An answer frees* the inputs that its request led to the control link
  pub freed_by : (a : Acted) (s : Standing) (test : Standing → Bool) → find test a.controller.desk.standing ≡ Some s → Holds setups a → IsFree setups (with_desk a (after_answer a.controller.desk (Done s))) s.request
  freed_by a s test found h input end led = by_request s.request refl led
    where
      off_own : (i : End) → request_input s.request ≡ Some i → i ≡ input → on_input (without_request a.controller.desk s) input ≡ false
      off_own i on same = each_any (λ (t : Standing). is_on input t.request) (filter (λ (t : Standing). not (t.number == s.number)) a.controller.desk.standing)
          (every_map2 (λ (t : Standing). not (t.number == s.number) ≡ true) (λ (t : Standing). not (t.number == s.number) ≡ true → is_on i t.request ≡ false) (λ (t : Standing). is_on input t.request ≡ false)
          (filter (λ (t : Standing). not (t.number == s.number)) a.controller.desk.standing)
          (λ t e off. ap (λ (x : End). is_on x t.request) (sym same) ∙ off e)
          (filter_passes (λ (t : Standing). not (t.number == s.number)) a.controller.desk.standing)
          (every_part (λ (t : Standing). not (t.number == s.number) ≡ true → is_on i t.request ≡ false) (part_filtered (λ (t : Standing). not (t.number == s.number)) a.controller.desk.standing)
          (own_free s test i on a.controller.desk.standing h.sound.desk.own_inputs found)))

      off_all : is_delete_all input.port s.request ≡ true → on_input (without_request a.controller.desk s) input ≡ false
      off_all deletes = each_any (λ (t : Standing). is_on input t.request) (filter (λ (t : Standing). not (t.number == s.number)) a.controller.desk.standing)
          (every_part (λ (t : Standing). is_on input t.request ≡ false) (part_filtered (λ (t : Standing). not (t.number == s.number)) a.controller.desk.standing)
          (every_map (IsApart a.controller.desk) (λ (t : Standing). is_on input t.request ≡ false) a.controller.desk.standing (λ t apart. off t apart (request_input t.request) refl) h.order.apart))
        where
          some : all_on a.controller.desk input.port ≡ true
          some = found_any (λ (t : Standing). is_delete_all input.port t.request) test s deletes a.controller.desk.standing found

          off : (t : Standing) → IsApart a.controller.desk t → (o : Option End) → request_input t.request ≡ o → option_map_or (same_end input) o false ≡ false
          off t apart None on = refl
          off t apart (Some i) on = by_same (same_end input i) refl
            where
              by_same : (b : Bool) → same_end input i ≡ b → same_end input i ≡ false
              by_same true e = absurd (both_not (all_on a.controller.desk input.port) some (apart input (on ∙ ap (λ (x : End). Some x) (sym (is_end input i e))) (label_input input end)))
              by_same false e = e

      both_first : (p q : Bool) → (p && q) ≡ true → p ≡ true
      both_first true q e = refl
      both_first false q e = absurd (cc e)

      by_request : (r : Request) → s.request ≡ r → leads_home input (home_of input) r ≡ true → on_input (without_request a.controller.desk s) input ≡ false
      by_request (AddBranch i output) is e = absurd (cc e)
      by_request (MoveBranch moved from to) is e = off_own moved (ap request_input is) (is_end moved input (both_first (same_end moved input) (same_end to (home_of input)) e))
      by_request (DeleteTree deleted) is e = off_own deleted (ap request_input is) (is_end deleted input e)
      by_request (VerifyTree i) is e = absurd (cc e)
      by_request (DeleteAll port) is e = off_all (ap (is_delete_all input.port) is ∙ e)
      by_request (PortManagement port function) is e = absurd (cc e)
      by_request AllPorts is e = absurd (cc e)

  -- *While the switch is met nothing is released*
  record Unmoved (a b : Acted) : Type 0 where
    holds : Holds setups b
    unmet : b.controller.has_met ≡ false
    desk : SameDesk setups a b

  spent_unmoved : (a : Acted) (port : PortNo) → a.controller.has_met ≡ false → Holds setups a → (o : Option Linked) → linked_at a.controller port ≡ o
      → ((works a (λ setup desk w. halts_if_spent w) o).controller.desk ≡ a.controller.desk) × ((works a (λ setup desk w. halts_if_spent w) o).controller.has_met ≡ a.controller.has_met)
  spent_unmoved a port unmet h None found = (refl, refl)
  spent_unmoved a port unmet h (Some linked) found =
      let shut = at_every port_key IsShutLinked port.0 a.controller.ports linked (h.sound.unmet unmet) found in
      let w : Work = begins a linked in
      subst (λ (o : Option Session). ((works_as a linked (if is_spent o then halts w else w)).controller.desk ≡ a.controller.desk) × ((works_as a linked (if is_spent o then halts w else w)).controller.has_met ≡ a.controller.has_met)) (sym shut.session) (refl, refl)

  spent_each_unmoved : (ports : List PortNo) (a b : Acted) → Unmoved a b → ((c : Acted) (port : PortNo) → Holds setups c → Holds setups (resets_spent c port)) → SameDesk setups a (fold resets_spent b ports)
  spent_each_unmoved [] a b u spends = u.desk
  spent_each_unmoved (port ∷ ports) a b u spends =
      let same = spent_unmoved b port u.unmet u.holds (linked_at b.controller port) refl in
      spent_each_unmoved ports a (resets_spent b port) (record { holds = spends b port u.holds; unmet = same.1 ∙ u.unmet; desk = same.0 ∙ u.desk }) spends

  pub releases_unmoved : (a : Acted) (request : Request) → a.controller.has_met ≡ false → Holds setups a → ((c : Acted) (port : PortNo) → Holds setups c → Holds setups (resets_spent c port)) → SameDesk setups a (releases a request)
  releases_unmoved a request unmet h spends =
      let none : released_inputs a.controller request ≡ [] = ap (λ (js : List Join). filter (λ (input : End). leads_home input (home_of input) request) (map (λ (join : Join). join.input) (in_order (λ (x : Join) (y : Join). end_le x.input y.input) js))) (shut_joins a.controller.ports (h.sound.unmet unmet)) in
      subst (λ (inputs : List End). SameDesk setups a (fold resets_spent (fold releases_input a inputs) (ports_of (fold releases_input a inputs).controller))) (sym none)
      (spent_each_unmoved (ports_of a.controller) a a (record { holds = h; unmet = unmet; desk = refl }) spends)
