-- each rule of a port can be done where its controller comes to it: ticks, what is heard, counted and answered, and the
-- reset of a port whose numbers are spent

use Rattle.std.proofs.Common.{◌≡◌, ℕ, Bool, true, false, List, [], ◌∷◌, Some, refl, sym, ◌∙◌, ap, subst, if◌then◌else◌, fold}
use Rattle.std.specs.Prelude.{nat_eq}
use Rattle.law_controller.specs.world_model.Words.{PortNo, Addr, is_estab, Request, InRange, at, put, Setup, is_spent, halts_if_spent, hears, counts, Linked, port_key, linked_at, with_linked, begins, Rule, resets_port, works, at_port, resets_spent, ticks_port}
use Rattle.law_controller.specs.world_model.ifmp_wire.declared.message.Message.{Message}
use Rattle.law_controller.specs.world_model.port_model.Ticks as port_ticks
use Rattle.law_controller.specs.world_model.port_model.Answers as port_answers
use Rattle.law_controller.specs.law_port_facts.Port.{IsShut}
use Rattle.law_controller.proofs.law_port_facts.Rules.{counts_goes, done_goes}
use Rattle.law_controller.proofs.law_port_facts.Hearings.{hears_goes, ticks_goes}
use Rattle.law_controller.proofs.law_port_facts.Steps as steps_of
use Rattle.law_controller.proofs.law_port_facts.Steps.{Goes, steps_to}
use Rattle.law_controller.proofs.law_port_facts.Keyed.{at_key}
use Rattle.law_controller.specs.world_model.Controller.{Acted}
use Rattle.law_controller.proofs.law_controller_facts.Moves.{by_rule, Moves, stays, further, moves_ports, HasPorts, found_at_own, found_port}
use Rattle.law_controller.proofs.law_controller_facts.Performing.{at_port_goes}
use Rattle.law_controller.proofs.Actions.{asks_what_can_be_done, heard_anyway}
use Rattle.law_controller.proofs.Holding.{live_met}
use Rattle.law_controller.proofs.Performing.{at_port_holds}
use Rattle.law_controller.proofs.Ordering.{same_number}
use Rattle.controller_router.specs.Conditions.{CanResetPort, CanWork, EachCanTick}
use Rattle.controller_router.specs.Meeting.{CanResetSpent, EachCanResetSpent}
use Rattle.law_controller_conditions.specs.Kept.{AreLinks, AreIn}
use Rattle.law_controller_conditions.proofs.Ready.{in_before, Ready, ready_by, ready_ports, fresh_port}
use Rattle.law_controller_conditions.proofs.Doing.{can_reset_port}
use Rattle.law_controller_conditions.proofs.Working.{can_work}

-- *A port that is put back as it stands* changes nothing
put_itself : {A : Type 0} (key : A → ℕ) (x : A) (xs : List A) → at key (key x) xs ≡ Some x → put key x xs ≡ xs
put_itself key x [] e = refl
put_itself key x (y ∷ ys) e = by_test (nat_eq (key y) (key x)) e (put_itself key x ys)
  where
    by_test : (b : Bool) → (if b then Some y else at key (key x) ys) ≡ Some x → (at key (key x) ys ≡ Some x → put key x ys ≡ ys) → (if b then x ∷ ys else y ∷ put key x ys) ≡ y ∷ ys
    by_test true is others = (let same : y ≡ x = cc in ap (λ z. z ∷ ys) (sym same))
    by_test false is others = ap (λ zs. y ∷ zs) (others is)

unchanged : (a : Acted) (linked : Linked) → linked_at a.controller linked.setup.port ≡ Some linked → with_linked a linked ≡ a
unchanged a linked found = λ i. record a { controller = record a.controller { ports = put_itself port_key linked a.controller.ports found i } }

-- so a port whose numbers are spent is reset
spent_is : (a : Acted) (linked : Linked) → linked_at a.controller linked.setup.port ≡ Some linked → is_spent linked.port.session ≡ true → is_estab a.controller.adjacency.state ≡ true
    → resets_port a linked.setup.port ≡ works a (λ setup desk w. halts_if_spent w) (Some linked)
spent_is a linked found spent estab = (let same = unchanged a linked found in rw (spent, estab) (ap (λ (b : Acted). resets_port b linked.setup.port) (sym same)))

not_shut : (linked : Linked) → is_spent linked.port.session ≡ true → IsShut linked.port → ⊥
not_shut linked spent shut = absurd (cc (sym spent ∙ ap is_spent shut.session))

module _ (setups : List Setup) (links : AreLinks setups) where
  -- *After a rule of a port* all of it still holds
  pub ready_at_port : (a : Acted) (port : PortNo) (rule : Rule)
      → ((linked : Linked) → linked_at a.controller port ≡ Some linked → Goes linked.setup a.controller.desk (begins a linked) (rule linked.setup a.controller.desk (begins a linked)))
      → Ready setups a → Ready setups (at_port a port rule)
  ready_at_port a port rule goes r = ready_by setups a (at_port a port rule)
      (at_port_goes setups a port rule (ready_ports setups a r) (λ linked found. by_rule (rule linked.setup a.controller.desk (begins a linked)) (goes linked found))) (at_port_holds setups a port rule goes r.holds) r

  -- *Each rule*
  pub can_hear : (a : Acted) (port : PortNo) (source : Addr) (message : Message) → InRange message → Ready setups a
      → AreIn (at_port a port (λ setup desk w. hears setup desk w source message)).numbers → CanWork a port (λ setup desk w. hears setup desk w source message)
  can_hear a port source message range r n = can_work setups links a port (λ setup desk w. hears setup desk w source message)
      (λ linked found. hears_goes linked.setup a.controller.desk (begins a linked) source message refl (heard_anyway message range))
      (λ linked found. asks_what_can_be_done.hears setups linked.setup a.controller.desk (begins a linked) source message (fresh_port setups links a linked port found (ready_ports setups a r) r.flows) range) r n

  pub can_tick : (a : Acted) (port : PortNo) → Ready setups a → AreIn (ticks_port a port).numbers → CanWork a port port_ticks.ticks
  can_tick a port r n = can_work setups links a port port_ticks.ticks
      (λ linked found. ticks_goes linked.setup a.controller.desk (begins a linked) refl)
      (λ linked found. asks_what_can_be_done.ticks setups linked.setup a.controller.desk (begins a linked) (fresh_port setups links a linked port found (ready_ports setups a r) r.flows)) r n

  pub can_count : (a : Acted) (port : PortNo) (packet : List ℕ) → Ready setups a → AreIn (at_port a port (λ setup desk w. counts setup desk w packet)).numbers → CanWork a port (λ setup desk w. counts setup desk w packet)
  can_count a port packet r n = can_work setups links a port (λ setup desk w. counts setup desk w packet)
      (λ linked found. counts_goes linked.setup a.controller.desk (begins a linked) packet (found_port setups a linked port (ready_ports setups a r) found).ascend)
      (λ linked found. asks_what_can_be_done.counts setups linked.setup a.controller.desk (begins a linked) packet (fresh_port setups links a linked port found (ready_ports setups a r) r.flows)) r n

  pub can_tell : (a : Acted) (port : PortNo) (request : Request) → Ready setups a → AreIn (at_port a port (λ setup desk w. port_answers.done setup w request)).numbers → CanWork a port (λ setup desk w. port_answers.done setup w request)
  can_tell a port request r n = can_work setups links a port (λ setup desk w. port_answers.done setup w request)
      (λ linked found. done_goes linked.setup a.controller.desk (begins a linked) request (λ t. tt))
      (λ linked found. asks_what_can_be_done.done setups linked.setup (begins a linked) request (fresh_port setups links a linked port found (ready_ports setups a r) r.flows)) r n

  -- *A tick* of each port in turn
  pub ready_tick : (a : Acted) (port : PortNo) → Ready setups a → Ready setups (ticks_port a port)
  ready_tick a port r = ready_at_port a port port_ticks.ticks (λ linked found. ticks_goes linked.setup a.controller.desk (begins a linked) refl) r

  pub ticks_move : (ports : List PortNo) (a : Acted) → HasPorts setups a → Moves setups a (fold ticks_port a ports)
  ticks_move [] a h = stays a
  ticks_move (port ∷ ports) a h =
      let m : Moves setups a (ticks_port a port) = at_port_goes setups a port port_ticks.ticks h (λ linked found. by_rule (port_ticks.ticks linked.setup a.controller.desk (begins a linked)) (ticks_goes linked.setup a.controller.desk (begins a linked) refl)) in
      further m (ticks_move ports (ticks_port a port) (moves_ports setups m h))

  pub each_ticks : (ports : List PortNo) (a : Acted) → Ready setups a → AreIn (fold ticks_port a ports).numbers → EachCanTick a ports
  each_ticks [] a r n = tt
  each_ticks (port ∷ ports) a r n =
      let next : Acted = ticks_port a port in
      let k : Ready setups next = ready_tick a port r in
      (can_tick a port r (in_before setups next (fold ticks_port next ports) (ticks_move ports next (ready_ports setups next k)) n), each_ticks ports next k n)

  pub ready_ticks : (ports : List PortNo) (a : Acted) → Ready setups a → Ready setups (fold ticks_port a ports)
  ready_ticks [] a r = r
  ready_ticks (port ∷ ports) a r = ready_ticks ports (ticks_port a port) (ready_tick a port r)

  -- *Spent numbers*
  closing_goes : (a : Acted) (linked : Linked) → Goes linked.setup a.controller.desk (begins a linked) (halts_if_spent (begins a linked))
  closing_goes a linked = steps_to (steps_of.closing (begins a linked))

  pub ready_spent : (a : Acted) (port : PortNo) → Ready setups a → Ready setups (resets_spent a port)
  ready_spent a port r = ready_at_port a port (λ setup desk w. halts_if_spent w) (λ linked found. closing_goes a linked) r

  pub can_reset_spent : (a : Acted) (port : PortNo) → Ready setups a → AreIn (resets_spent a port).numbers → CanResetSpent a port
  can_reset_spent a port r n linked found spent estab =
      let key : linked.setup.port ≡ port = same_number linked.setup.port port (at_key port_key port.0 a.controller.ports linked found) in
      subst (CanResetPort a) key (can_reset_port setups links a linked.setup.port (live_met setups a linked port found (not_shut linked spent) r.holds) r
      (subst (λ (b : Acted). AreIn b.numbers) (ap (works a (λ setup desk w. halts_if_spent w)) found ∙ sym (spent_is a linked (found_at_own setups a linked port found) spent estab)) n))

  pub spent_move : (ports : List PortNo) (a : Acted) → HasPorts setups a → Moves setups a (fold resets_spent a ports)
  spent_move [] a h = stays a
  spent_move (port ∷ ports) a h =
      let m : Moves setups a (resets_spent a port) = at_port_goes setups a port (λ setup desk w. halts_if_spent w) h (λ linked found. by_rule (halts_if_spent (begins a linked)) (closing_goes a linked)) in
      further m (spent_move ports (resets_spent a port) (moves_ports setups m h))

  pub each_spent : (ports : List PortNo) (a : Acted) → Ready setups a → AreIn (fold resets_spent a ports).numbers → EachCanResetSpent a ports
  each_spent [] a r n = tt
  each_spent (port ∷ ports) a r n =
      let next : Acted = resets_spent a port in
      let k : Ready setups next = ready_spent a port r in
      (can_reset_spent a port r (in_before setups next (fold resets_spent next ports) (spent_move ports next (ready_ports setups next k)) n), each_spent ports next k n)
