-- a request that is answered stands alone

use Rattle.std.proofs.Common.{◌≡◌, ◌≢◌, ℕ, ◌<◌, Bool, true, false, true≢false, List, [], ◌∷◌, Option, None, Some, refl, sym, ◌∙◌, ap, subst, arith, find, if◌then◌else◌}
use Rattle.std.specs.Prelude.{◌==◌, ◌&&◌, ◌||◌}
use Rattle.std.specs.List.{list_any}
use Rattle.std.proofs.lemmas.Bool.Decides.{nat_tests}
use Rattle.world_model.specs.Words.{PortNo, End, is_delete_all, all_on, Request, AddBranch, MoveBranch, DeleteTree, VerifyTree, PortManagement, Head, head_of, Desk, Standing, Unknown, Done, Failed, answered, answered_with, outcome, succeeded, is_of_type, Controller, Linked, port_key}
use Rattle.world_model.specs.gsmp_wire.declared.message.Message.{Message}
use Rattle.world_model.specs.gsmp_wire.declared.message.Message.TheVariants.{Adjacency, Branch, Move, Port, AllPorts}
use Rattle.world_model.specs.gsmp_wire.declared.request.Request.TheVariants as requests
use Rattle.world_model.specs.port_model.Requests.{request_input}
use Rattle.law_port_facts.specs.ordered_lists.Ordered.{Every, InOrder}
use Rattle.law_port_facts.proofs.ordered_lists.Every.{every_map, every_map2}
use Rattle.law_port_facts.proofs.ordered_lists.InOrder.{order_map}
use Rattle.law_port_facts.proofs.Keyed.{at_key, at_every}
use Rattle.law_port_facts.proofs.Found.{find_every}
use Rattle.law_input_steps.specs.Asking.{concerns}
use Rattle.law_input_steps.proofs.Ends.{same_is}
use Rattle.law_controller.specs.law_controller_facts.Sound.{IsEarlier, HaveOwnInputs, HaveOwnPorts, IsDesk}
use Rattle.law_controller.specs.Order.{IsApart, IsClearingAt, IsOfClearing, IsOrderly}
use Rattle.law_live_mirrors.specs.Standing.{StandsAlone}
use Rattle.law_live_mirrors.specs.Runs.{DesksStandAlone}

-- *What is answered* is found by a test
record IsFound (standing : List Standing) (s : Standing) : Type 0 where
  test : Standing → Bool
  found : find test standing ≡ Some s

done_is : (x s : Standing) → Done x ≡ Done s → x ≡ s
done_is x s e = cc

success_is : (message : Message) (x s : Standing) → succeeded message x ≡ Done s → x ≡ s
success_is (Adjacency greeting) x s e = done_is x s e
success_is (Branch kind result code transaction session input_port input output_port output count priority) x s e = done_is x s e
success_is (Move result code transaction session input_port input output_port output target_port target count priority) x s e = done_is x s e
success_is (Port result code transaction port session function) x s e = done_is x s e
success_is (AllPorts result code transaction rows) x s e = absurd (cc e)

answered_found : (desk : Desk) (message : Message) (s : Standing) → answered desk message ≡ Done s → IsFound desk.standing s
answered_found desk message s e = by (head_of message) e
  where
    with_head : (head : Head) (o : Option Standing) → find (λ (x : Standing). (x.number == head.number) && is_of_type message x.request) desk.standing ≡ o → outcome message head o ≡ Done s → IsFound desk.standing s
    with_head head None is e = absurd (cc e)
    with_head head (Some x) is e = record {
      test = λ (y : Standing). (y.number == head.number) && is_of_type message y.request;
      found = is ∙ ap (λ (y : Standing). Some y) (by_result (head.result == 3) (head.result == 4) e);
    }
      where
        by_result : (three four : Bool) → (if three then succeeded message x else (if four then Failed x head.code else Unknown)) ≡ Done s → x ≡ s
        by_result true four e = success_is message x s e
        by_result false true e = absurd (cc e)
        by_result false false e = absurd (cc e)

    by : (o : Option Head) → answered_with desk.standing message o ≡ Done s → IsFound desk.standing s
    by None e = absurd (cc e)
    by (Some head) e = with_head head (find (λ (x : Standing). (x.number == head.number) && is_of_type message x.request) desk.standing) refl e

-- *What clashes with none* of a list stands alone in it
module _ (s : Standing) (P : Standing → Type 0) (own : P s) where
  alone_in : (xs : List Standing) (test : Standing → Bool) → find test xs ≡ Some s → InOrder (λ x y. P x → P y → ⊥) xs → Every (λ x. P x → x ≡ s) xs
  alone_in [] test e order = tt
  alone_in (x ∷ xs) test e order = elim (test x) as (λ t. (if t then Some x else find test xs) ≡ Some s → (P x → x ≡ s) × Every (λ y. P y → y ≡ s) xs) [
    | true ↦ λ e. (let same : x ≡ s = cc in ((λ p. same), every_map (λ y. P x → P y → ⊥) (λ y. P y → y ≡ s) xs (λ y clash p. absurd (clash (subst P (sym same) own) p)) order.0))
    | false ↦ λ e. ((λ p. absurd (find_every (λ y. P x → P y → ⊥) test xs s order.0 e p own)), alone_in xs test e order.1)
  ] e

-- and is found by its number
by_number : (s : Standing) (xs : List Standing) (test : Standing → Bool) → find test xs ≡ Some s → Every (λ (x : Standing). x.number ≡ s.number → x ≡ s) xs
    → find (λ (x : Standing). x.number == s.number) xs ≡ Some s
by_number s [] test e alone = absurd (cc e)
by_number s (x ∷ xs) test e alone = elim (x.number == s.number) as (λ t. (x.number == s.number) ≡ t → (if t then Some x else find (λ (y : Standing). y.number == s.number) xs) ≡ Some s) [
  | true ↦ λ t. ap (λ (y : Standing). Some y) (alone.0 (equal x.number s.number t))
  | false ↦ λ t. elim (test x) as (λ u. (if u then Some x else find test xs) ≡ Some s → find (λ (y : Standing). y.number == s.number) xs ≡ Some s) [
    | true ↦ λ e. (let same : x ≡ s = cc in absurd (true≢false (sym (itself x.number s.number (ap (λ (y : Standing). y.number) same)) ∙ t)))
    | false ↦ λ e. by_number s xs test e alone.1
  ] e
] refl
  where
    equal : (a b : ℕ) → (a == b) ≡ true → a ≡ b
    equal a b e = grind (arith, nat_tests)

    itself : (a b : ℕ) → a ≡ b → (a == b) ≡ true
    itself a b e = grind (arith, nat_tests)

-- *Two that concern one input* clash
data Concerned (input : End) : Request → Type 0 where
  is_on_it : (request : Request) → request_input request ≡ Some input → Concerned input request
  empties_it : (port : PortNo) → port.0 ≡ input.port.0 → Concerned input (requests.DeleteAll port)

concerned : (input : End) (request : Request) → concerns input request ≡ true → Concerned input request
concerned input (AddBranch i output) on = is_on_it (AddBranch i output) (ap (λ (e : End). Some e) (sym (same_is input i on)))
concerned input (MoveBranch i from to) on = is_on_it (MoveBranch i from to) (ap (λ (e : End). Some e) (sym (same_is input i on)))
concerned input (DeleteTree i) on = is_on_it (DeleteTree i) (ap (λ (e : End). Some e) (sym (same_is input i on)))
concerned input (VerifyTree i) on = absurd (cc on)
concerned input (requests.DeleteAll port) on = empties_it port (equal port.0 input.port.0 on)
  where
    equal : (a b : ℕ) → (a == b) ≡ true → a ≡ b
    equal a b e = grind (arith, nat_tests)
concerned input (PortManagement port function) on = absurd (cc on)
concerned input requests.AllPorts on = absurd (cc on)

module _ (c : Controller) (desk : IsDesk c) (order : IsOrderly c) (met : c.has_met ≡ true) (links : Every (λ (linked : Linked). linked.setup.port.0 ≢ 0) c.ports) where
  -- no Delete All stands of the control port
  record Stands (x : Standing) : Type 0 where
    apart : IsApart c.desk x
    clearing : IsOfClearing c.ports x
    counted : (port : PortNo) → is_delete_all port x.request ≡ true → all_on c.desk port ≡ true

  each_stands : Every Stands c.desk.standing
  each_stands = every_map2 (IsApart c.desk) (λ x. IsOfClearing c.ports x × ((port : PortNo) → is_delete_all port x.request ≡ true → all_on c.desk port ≡ true)) Stands c.desk.standing
      (λ x p q. record { apart = p; clearing = q.0; counted = q.1 }) order.apart
      (every_map2 (IsOfClearing c.ports) (λ x. (port : PortNo) → is_delete_all port x.request ≡ true → all_on c.desk port ≡ true)
      (λ x. IsOfClearing c.ports x × ((port : PortNo) → is_delete_all port x.request ≡ true → all_on c.desk port ≡ true)) c.desk.standing (λ x p q. (p, q)) (order.clearing met) (each_counted c.desk.standing))
    where
      here : (b : Bool) (d : Bool) → b ≡ true → (b || d) ≡ true
      here true d e = refl
      here false d e = absurd (cc e)

      later : (b : Bool) {d : Bool} → d ≡ true → (b || d) ≡ true
      later true e = refl
      later false e = e

      each_counted : (xs : List Standing) → Every (λ x. (port : PortNo) → is_delete_all port x.request ≡ true → list_any (λ (y : Standing). is_delete_all port y.request) xs ≡ true) xs
      each_counted [] = tt
      each_counted (x ∷ xs) = (
        (λ port is. here (is_delete_all port x.request) (list_any (λ (y : Standing). is_delete_all port y.request) xs) is),
        every_map (λ z. (port : PortNo) → is_delete_all port z.request ≡ true → list_any (λ (y : Standing). is_delete_all port y.request) xs ≡ true)
            (λ z. (port : PortNo) → is_delete_all port z.request ≡ true → list_any (λ (y : Standing). is_delete_all port y.request) (x ∷ xs) ≡ true) xs
            (λ z f port is. later (is_delete_all port x.request) (f port is)) (each_counted xs),
      )

  of_link : (x : Standing) → Stands x → (port : PortNo) → is_delete_all port x.request ≡ true → port.0 ≢ 0
  of_link x stands port is zero = at_every port_key (λ (linked : Linked). linked.setup.port.0 ≢ 0) port.0 c.ports place.linked links place.found (at_key port_key port.0 c.ports place.linked place.found ∙ zero)
    where
      place : IsClearingAt c.ports port
      place = stands.clearing port is

  itself : (port : PortNo) (n : ℕ) → port.0 ≡ n → (port.0 == n) ≡ true
  itself port n e = grind (arith, nat_tests)

  beside : (input : End) (x y : Standing) → Stands x → Stands y → (port : PortNo) → port.0 ≡ input.port.0 → y.request ≡ requests.DeleteAll port → request_input x.request ≡ Some input → ⊥
  beside input x y p q port same is on =
      let empties : is_delete_all input.port y.request ≡ true = ap (is_delete_all input.port) is ∙ itself port input.port.0 same in
      true≢false (sym (q.counted input.port empties) ∙ p.apart input on (of_link y q input.port empties))

  clash : (input : End) (x y : Standing) → Stands x → Stands y → (HaveOwnInputs x y × HaveOwnPorts x y) → (rx ry : Request) → x.request ≡ rx → y.request ≡ ry
      → Concerned input rx → Concerned input ry → ⊥
  clash input x y p q own rx ry ex ey (is_on_it _ on) (is_on_it _ at_it) = own.0 input (ap request_input ex ∙ on) (ap request_input ey ∙ at_it)
  clash input x y p q own rx _ ex ey (is_on_it _ on) (empties_it port same) = beside input x y p q port same ey (ap request_input ex ∙ on)
  clash input x y p q own _ ry ex ey (empties_it port same) (is_on_it _ at_it) = beside input y x q p port same ex (ap request_input ey ∙ at_it)
  clash input x y p q own _ _ ex ey (empties_it port same) (empties_it other also) = true≢false
      (sym (ap (is_delete_all input.port) ey ∙ itself other input.port.0 also) ∙ own.1 input.port (ap (is_delete_all input.port) ex ∙ itself port input.port.0 same))

  both_ways : (xs : List Standing) → InOrder HaveOwnInputs xs → InOrder HaveOwnPorts xs → InOrder (λ x y. HaveOwnInputs x y × HaveOwnPorts x y) xs
  both_ways [] p q = tt
  both_ways (x ∷ xs) p q = (every_map2 (HaveOwnInputs x) (HaveOwnPorts x) (λ y. HaveOwnInputs x y × HaveOwnPorts x y) xs (λ y a b. (a, b)) p.0 q.0, both_ways xs p.1 q.1)

  stands_alone : (s : Standing) → IsFound c.desk.standing s → StandsAlone c.desk s
  stands_alone s found =
      let numbers : Every (λ (x : Standing). x.number ≡ s.number → x ≡ s) c.desk.standing = alone_in s (λ x. x.number ≡ s.number) refl c.desk.standing found.test found.found
      (order_map IsEarlier (λ x y. x.number ≡ s.number → y.number ≡ s.number → ⊥) (λ x. Unit {0}) c.desk.standing (λ x y p q less e f. apart_by x.number y.number s.number less e f)
      (every_map Stands (λ x. Unit {0}) c.desk.standing (λ x p. tt) each_stands) desk.earlier) in
      record {
        stands = by_number s c.desk.standing found.test found.found numbers;
        number = numbers;
        inputs = λ input on. alone_in s (λ (x : Standing). concerns input x.request ≡ true) on c.desk.standing found.test found.found
            (order_map (λ x y. HaveOwnInputs x y × HaveOwnPorts x y) (λ x y. concerns input x.request ≡ true → concerns input y.request ≡ true → ⊥) Stands c.desk.standing
            (λ x y p q own ox oy. clash input x y p q own x.request y.request refl refl (concerned input x.request ox) (concerned input y.request oy))
            each_stands (both_ways c.desk.standing desk.own_inputs desk.own_ports));
      }
    where
      apart_by : (m n k : ℕ) → m < n → m ≡ k → n ≡ k → ⊥
      apart_by m n k less e f = absurd (omega (arith, less, e, f))

pub desks_stand_alone : DesksStandAlone
desks_stand_alone c message s desk order met links is = stands_alone c desk order met links s (answered_found c.desk message s is)
