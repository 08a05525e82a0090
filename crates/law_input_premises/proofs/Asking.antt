-- a request that a controller asks may be asked, as the line of an input tells: what holds behind it says that no Delete All
-- of its port stands

use Rattle.std.proofs.Common.{◌≡◌, ℕ, ◌≤◌, ◌<◌, Bool, true, false, not, List, [], ◌∷◌, Some, refl, sym, ◌∙◌, ap, subst, arith, if◌then◌else◌, filter}
use Rattle.std.specs.Prelude.{◌==◌}
use Rattle.std.proofs.lemmas.Bool.Decides.{nat_tests}
use Rattle.law_controller.specs.world_model.Words.{End, PortNo, next_control, with_control, is_estab, Request, AddBranch, MoveBranch, DeleteTree, VerifyTree, PortManagement, same_end, is_delete_all, withdraws, Desk, Standing, all_on, is_led_home, last_transaction, Setup, home_of, with_desk, default_channel, asks_next, asks, takes_back, node_resets}
use Rattle.law_controller.specs.world_model.gsmp_wire.Layout.{octets_of as gsmp_octets}
use Rattle.law_controller.specs.world_model.gsmp_wire.declared.request.Request.TheVariants.{DeleteAll, AllPorts}
use Rattle.law_controller.specs.ordered_lists.Ordered.{Every}
use Rattle.law_controller.proofs.ordered_lists.Every.{every_map, every_right}
use Rattle.law_controller.specs.world_model.port_model.Requests.{request_input}
use Rattle.law_controller.specs.world_model.port_model.Desk.{asked, message_at}
use Rattle.law_controller.specs.law_port_facts.Port.{IsShaped, asks_ports, empties_control, empties_port, opens_input, opens_output, leads_label, leads_grant, joins_label, parts_label, frees_label}
use Rattle.law_controller.specs.world_model.Controller.{Acted}
use Rattle.law_controller.specs.Order.{IsApart, IsLinkInput}
use Rattle.law_controller.proofs.Lists.{any_each}
use Rattle.law_controller.proofs.Desk.{asked_all}
use Rattle.law_controller.proofs.Holding.{Holds}
use Rattle.law_controller.proofs.Saying.{sent_desk}
use Rattle.law_input_steps.specs.Asking.{IsAsked, concerns, deletes_port, NoDeleteAll, CanAsk, MayAsk}
use Rattle.law_input_premises.specs.Read.{AreRead}

same_is : (a b : End) → same_end a b ≡ true → a ≡ b
same_is a b e = grind (arith, nat_tests)

-- in Estab, where a number is left
pub asks_is : (a : Acted) (request : Request) → is_estab a.controller.adjacency.state ≡ true → (a.controller.desk.next == last_transaction) ≡ false → asks a request ≡ asks_next a request
asks_is a request estab room = ap (λ (b : Bool). if b then (if a.controller.desk.next == last_transaction then node_resets a else asks_next a request) else a) estab
    ∙ ap (λ (b : Bool). if b then node_resets a else asks_next a request) room

pub shaped_asked : (setups : List Setup) (request : Request) → IsShaped setups request → IsAsked request
shaped_asked setups request asks_ports = tt
shaped_asked setups request (empties_control port zero) = tt
shaped_asked setups request (empties_port port linked) = tt
shaped_asked setups request (opens_input end d) = tt
shaped_asked setups request (opens_output end d) = tt
shaped_asked setups request (leads_label end e) = tt
shaped_asked setups request (leads_grant end e) = tt
shaped_asked setups request (joins_label input output i o) = tt
shaped_asked setups request (parts_label input output i o) = tt
shaped_asked setups request (frees_label end e) = tt

deletes_is : (e : End) (r : Request) → deletes_port e r ≡ is_delete_all e.port r
deletes_is e (AddBranch i o) = refl
deletes_is e (MoveBranch i from to) = refl
deletes_is e (DeleteTree i) = refl
deletes_is e (VerifyTree i) = refl
deletes_is e (DeleteAll p) = refl
deletes_is e (PortManagement p function) = refl
deletes_is e AllPorts = refl

pub none_deletes : (e : End) (desk : Desk) → all_on desk e.port ≡ false → NoDeleteAll e desk.standing
none_deletes e desk none = every_map (λ (s : Standing). is_delete_all e.port s.request ≡ false) (λ (s : Standing). deletes_port e s.request ≡ false) desk.standing
    (λ s off. deletes_is e s.request ∙ off) (any_each (λ (s : Standing). is_delete_all e.port s.request) desk.standing none)

-- a request on an input concerns that input alone
own_input : (e : End) (r : Request) (i : End) → request_input r ≡ Some i → concerns e r ≡ true → e ≡ i
own_input e (AddBranch j o) i on c = same_is e j c ∙ (let inside : j ≡ i = cc on in inside)
own_input e (MoveBranch j from to) i on c = same_is e j c ∙ (let inside : j ≡ i = cc on in inside)
own_input e (DeleteTree j) i on c = same_is e j c ∙ (let inside : j ≡ i = cc on in inside)
own_input e (VerifyTree j) i on c = absurd (cc c)
own_input e (DeleteAll p) i on c = absurd (cc on)
own_input e (PortManagement p function) i on c = absurd (cc on)
own_input e AllPorts i on c = absurd (cc on)

not_spent : (n : ℕ) → n ≤ last_transaction → (n == last_transaction) ≡ false → n < last_transaction
not_spent n le e = grind (arith, nat_tests)

above_zero : (n : ℕ) → 1 ≤ n → n ≡ 0 → ⊥
above_zero n above e = omega (arith, above, e)

module _ (setups : List Setup) (input : End) (above : 1 ≤ input.port.0) where
  can_ask : (a : Acted) (r : Request) → IsShaped setups r → AreRead setups a.controller.desk.rows → a.controller.has_met ≡ true → Holds setups a
      → (concerns input r ≡ true → NoDeleteAll input a.controller.desk.standing) → (a.controller.desk.next == last_transaction) ≡ false → CanAsk input a r
  can_ask a r shaped reads met h away room = record {
    met = met;
    shape = shaped_asked setups r shaped;
    reads = reads a.controller.desk.next r (not_spent a.controller.desk.next h.sound.desk.room room) shaped;
    away = away;
  }

  -- *On an input*: what holds behind it
  asked_behind : (a : Acted) (r : Request) → is_estab a.controller.adjacency.state ≡ true → (a.controller.desk.next == last_transaction) ≡ false → (asks a r).controller.desk ≡ asked a.controller.desk r
  asked_behind a r estab room = ap (λ (b : Acted). b.controller.desk) (asks_is a r estab room)
      ∙ sent_desk setups (record (with_desk a (asked a.controller.desk r)) { numbers = with_control a.numbers }) default_channel (next_control a.numbers)
      (gsmp_octets (message_at (asked a.controller.desk r) (record { number = a.controller.desk.next; request = r })))

  apart_behind : (desk : Desk) (r : Request) (i : End) → request_input r ≡ Some i → IsLinkInput i → Every (IsApart (asked desk r)) (asked desk r).standing → all_on desk i.port ≡ false
  apart_behind desk r i on link all =
      let last : Every (IsApart (asked desk r)) (record { number = desk.next; request = r } ∷ []) = every_right (IsApart (asked desk r)) (filter (λ (s : Standing). not (withdraws r s.request)) desk.standing) (record { number = desk.next; request = r } ∷ []) all in
      by_test (all_on desk i.port) refl (last.0 i on link)
    where
      by_test : (b : Bool) → all_on desk i.port ≡ b → all_on (asked desk r) i.port ≡ false → all_on desk i.port ≡ false
      by_test true is none = absurd (cc (sym (asked_all desk r i.port is) ∙ none))
      by_test false is none = is

  pub asks_can : (a : Acted) (r : Request) (i : End) → request_input r ≡ Some i → IsShaped setups r → AreRead setups a.controller.desk.rows → (is_estab a.controller.adjacency.state ≡ true → a.controller.has_met ≡ true)
      → Holds setups a → Holds setups (asks a r) → MayAsk input a r
  asks_can a r i on shaped reads met h behind estab room = can_ask a r shaped reads (met estab) h
      (λ c. (let same : input ≡ i = own_input input r i on c in none_deletes input a.controller.desk
      (apart_behind a.controller.desk r input (on ∙ ap (λ (e : End). Some e) (sym same)) (above_zero input.port.0 above) (subst (λ (d : Desk). Every (IsApart d) d.standing) (asked_behind a r estab room) behind.order.apart)))) room

  -- *Delete All* of a port, where none of it stands
  same_port : (p : PortNo) → (p.0 == input.port.0) ≡ true → p ≡ input.port
  same_port p e = (let is : p.0 ≡ input.port.0 = grind (arith, nat_tests) in ap (λ (n : ℕ). record { 0 = n }) is)

  pub deletes_can : (a : Acted) (p : PortNo) → IsShaped setups (DeleteAll p) → AreRead setups a.controller.desk.rows → (is_estab a.controller.adjacency.state ≡ true → a.controller.has_met ≡ true)
      → (is_estab a.controller.adjacency.state ≡ true → all_on a.controller.desk p ≡ false) → Holds setups a → MayAsk input a (DeleteAll p)
  deletes_can a p shaped reads met none h estab room = can_ask a (DeleteAll p) shaped reads (met estab) h
      (λ c. none_deletes input a.controller.desk (ap (all_on a.controller.desk) (sym (same_port p c)) ∙ none estab)) room

  -- *A join is taken back*
  pub takes_can : (a : Acted) (i o : End) → IsShaped setups (MoveBranch i o (home_of i)) → AreRead setups a.controller.desk.rows → (is_estab a.controller.adjacency.state ≡ true → a.controller.has_met ≡ true)
      → Holds setups a → Holds setups (takes_back a i o) → is_led_home a.controller.desk i (home_of i) ≡ false → MayAsk input a (MoveBranch i o (home_of i))
  takes_can a i o shaped reads met h behind led = asks_can a (MoveBranch i o (home_of i)) i refl shaped reads met h
      (subst (λ (b : Bool). Holds setups (if b then a else asks a (MoveBranch i o (home_of i)))) led behind)
