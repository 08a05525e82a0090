-- while the switch isn't met, every port is shut

use Rattle.std.proofs.Common.{◌≡◌, ◌≢◌, ℕ, Bool, true, false, List, [], ◌∷◌, length, Option, None, Some, refl, sym, ◌∙◌, ap, subst, arith, if◌then◌else◌, map, fold, ◌⊎◌, inl, inr}
use Rattle.std.specs.Prelude.{nat_eq, nat_le, ◌||◌, ◌&&◌, ◌==◌}
use Rattle.std.specs.List.{list_any}
use Rattle.std.proofs.lemmas.Bool.Decides.{nat_tests}
use Rattle.claims_model.specs.world_model.Words.{PortNo, Channel, Mark, next_control, with_control, Loss, PoolFull, noted, frame_cells, made, nothing_taken, at, put, Desk, Action, Say, Ask, Note, CutChain, TakeBack, Withdraw, Setup, Work, restarts, Controller, Linked, port_key, linked_at, chains_with, may_clear, is_clearing, awaits_nothing, cuts_of, begins, with_work, closes_by, port_restarts_of, port_restarts, resets_gsmp, node_resets}
use Rattle.claims_model.specs.world_model.frame_model.Sending.{Sender}
use Rattle.law_port_facts.specs.ordered_lists.Ordered.{Every, InOrder}
use Rattle.law_port_facts.proofs.ordered_lists.Every.{every_map}
use Rattle.law_port_facts.proofs.ordered_lists.InOrder.{order_unmapped}
use Rattle.claims_model.specs.world_model.port_model.Messages.{is_up}
use Rattle.claims_model.specs.world_model.port_model.declared.action.Action.TheVariants.{Reset}
use Rattle.claims_model.specs.world_model.port_model.Port.{Port}
use Rattle.law_port_facts.specs.Port.{IsShut}
use Rattle.law_port_facts.proofs.Keyed.{on_both, by_eq, at_key, at_every, put_every}
use Rattle.law_port_facts.proofs.Shut.{goes_shut, closes_shut, resets_shut, restarts_shut, parted_shut, joined_shut, no_grant}
use Rattle.claims_model.specs.world_model.Controller.{Acted, free_slots, ports_of}
use Rattle.claims_model.specs.world_model.Sending.{with_cells, sends}
use Rattle.law_controller_facts.specs.Sound.{linked_setup, AreApart, IsShutLinked}
use Rattle.law_controller_facts.proofs.Moves.{Worked, by_rule, by_closing, by_reset, by_restart, by_parting, by_joining, by_lending, by_giving_back, Move, noting, taking_notes, sending, sending_control, asking, withdrawing, answering, meeting, ending_meeting, turning, placing, clearing, gathering, chaining, routing, popping, fine_ports, Moves, moves_keep_whole, HasPorts, move_ports, moves_ports, reset_ports}
use Rattle.law_controller_facts.proofs.Performing.{node_resets_goes, port_restarts_of_fine}

worked_shut : (setups : List Setup) (setup : Setup) (desk : Desk) (w v : Work) → Worked setups setup desk w v → IsShut w.port → IsShut v.port
worked_shut setups setup desk w v (by_rule u goes) h = goes_shut setup desk w u goes h
worked_shut setups setup desk w v by_closing h = closes_shut w h
worked_shut setups setup desk w v by_reset h = resets_shut setup w h
worked_shut setups setup desk w v by_restart h = restarts_shut setup w
worked_shut setups setup desk w v (by_parting number) h = parted_shut w number h
worked_shut setups setup desk w v (by_joining number output end offered) h = joined_shut w number output h
worked_shut setups setup desk w v (by_lending grant input found is end) h = absurd (no_grant w.port grant.label grant h found)
worked_shut setups setup desk w v (by_giving_back grant found) h = absurd (no_grant w.port grant.label grant h found)

-- while the switch isn't met
abbrev pub IsUnmet : Acted → Type 0
IsUnmet a = a.controller.has_met ≡ false → Every IsShutLinked a.controller.ports

-- a test of four parts
met_part : (state grants met up nothing : Bool) → ((state && grants) && ((met && up) && nothing)) ≡ true → met ≡ true
met_part true true true up nothing e = refl
met_part true true false up nothing e = absurd (cc e)
met_part true false met up nothing e = absurd (cc e)
met_part false grants met up nothing e = absurd (cc e)

clear_is_met : (c : Controller) (linked : Linked) → may_clear c linked ≡ true → c.has_met ≡ true
clear_is_met c linked may = met_part (is_clearing linked.port.adjacency.state) (length linked.port.grants == 0) c.has_met (is_up c.desk.rows linked.setup.port) (awaits_nothing c linked.setup.port) may

-- one is put in the place of the one with its key, and no other has that key
pub put_each : {A : Type 0} (key : A → ℕ) (P Q : A → Type 0) (y : A) → Q y → ((x : A) → key x ≢ key y → P x → Q x) → (xs : List A) → InOrder (λ a b. key a ≢ key b) xs → Every P xs
    → Every Q (put key y xs)
put_each key P Q y q each [] order all = tt
put_each {A} key P Q y q each (x ∷ xs) order all = by_eq (key x) (key y)
    (λ same t. subst (λ b. Every Q (if b then y ∷ xs else x ∷ put key y xs)) (sym t) (q, behind same xs order.0 all.1))
    (λ other t. subst (λ b. Every Q (if b then y ∷ xs else x ∷ put key y xs)) (sym t) (each x other all.0, put_each key P Q y q each xs order.1 all.1))
  where
    behind : key x ≡ key y → (zs : List A) → Every (λ z. key x ≢ key z) zs → Every P zs → Every Q zs
    behind same [] apart all = tt
    behind same (z ∷ zs) apart all = (each z (λ e. apart.0 (same ∙ sym e)) all.0, behind same zs apart.1 all.1)

-- none has a key that isn't found
pub none_with : {A : Type 0} (key : A → ℕ) (k : ℕ) (xs : List A) → at key k xs ≡ None → Every (λ x. key x ≢ k) xs
none_with key k [] e = tt
none_with {A} key k (x ∷ xs) e = by_eq (key x) k
    (λ same t. absurd (no_some (sym (ap (λ (b : Bool). if b then Some x else at key k xs) t) ∙ e)))
    (λ other t. (other, none_with key k xs (sym (ap (λ (b : Bool). if b then Some x else at key k xs) t) ∙ e)))
  where
    no_some : Some x ≡ None → ⊥
    no_some e = absurd (cc e)

-- *A node reset*: each port is still to be reset, or is shut
abbrev Among : List PortNo → Linked → Type 0
Among rest linked = list_any (λ (port : PortNo). nat_eq port.0 (port_key linked)) rest ≡ true

abbrev LeftOrShut : List PortNo → Linked → Type 0
LeftOrShut rest linked = Among rest linked ⊎ IsShutLinked linked

behind_one : (port : PortNo) (rest : List PortNo) (linked : Linked) → port_key linked ≢ port.0 → LeftOrShut (port ∷ rest) linked → LeftOrShut rest linked
behind_one port rest linked other (inl among) = (let differs : nat_eq port.0 (port_key linked) ≡ false = grind (arith, nat_tests, other) in
    inl (sym (ap (λ (b : Bool). b || list_any (λ (p : PortNo). nat_eq p.0 (port_key linked)) rest) differs) ∙ among))
behind_one port rest linked other (inr shut) = inr shut

module _ (setups : List Setup) where
  pub ports_apart : (a : Acted) → HasPorts setups a → InOrder (λ (x : Linked) (y : Linked). port_key x ≢ port_key y) a.controller.ports
  ports_apart a h = order_unmapped linked_setup AreApart a.controller.ports (subst (InOrder AreApart) (sym h.ports.same) h.ports.apart)

  -- a chain that is cut leaves the ports as they are
  cuts_left : (rest : List PortNo) (a : Acted) (label : ℕ) (port : PortNo) (o : Option Linked) → linked_at a.controller port ≡ o → Every (LeftOrShut rest) a.controller.ports → Every (LeftOrShut rest) (cuts_of a label o).controller.ports
  cuts_left rest a label port None found all = all
  cuts_left rest a label port (Some linked) found all = put_every port_key (LeftOrShut rest) (record linked { chains = chains_with linked.chains label nothing_taken }) a.controller.ports
      (at_every port_key (LeftOrShut rest) port.0 a.controller.ports linked all found) all

  closes_left : (rest : List PortNo) (port : PortNo) (a : Acted) (action : Action) → Every (LeftOrShut rest) a.controller.ports → Every (LeftOrShut rest) (closes_by port a action).controller.ports
  closes_left rest port a (Say message) all = all
  closes_left rest port a (Ask request needed) all = all
  closes_left rest port a (Note item) all = all
  closes_left rest port a (CutChain label) all = cuts_left rest a label port (linked_at a.controller port) refl all
  closes_left rest port a (TakeBack input output) all = all
  closes_left rest port a (Withdraw input) all = all
  closes_left rest port a Reset all = all

  actions_left : (rest : List PortNo) (port : PortNo) (actions : List Action) (a : Acted) → Every (LeftOrShut rest) a.controller.ports → Every (LeftOrShut rest) (fold (closes_by port) a actions).controller.ports
  actions_left rest port [] a all = all
  actions_left rest port (action ∷ actions) a all = actions_left rest port actions (closes_by port a action) (closes_left rest port a action all)

  restarts_left : (port : PortNo) (rest : List PortNo) (a : Acted) (o : Option Linked) → HasPorts setups a → linked_at a.controller port ≡ o → Every (LeftOrShut (port ∷ rest)) a.controller.ports
      → Every (LeftOrShut rest) (port_restarts_of a o).controller.ports
  restarts_left port rest a None h found all = both a.controller.ports (none_with port_key port.0 a.controller.ports found) all
    where
      both : (ports : List Linked) → Every (λ (x : Linked). port_key x ≢ port.0) ports → Every (LeftOrShut (port ∷ rest)) ports → Every (LeftOrShut rest) ports
      both [] others all = tt
      both (x ∷ ports) others all = (behind_one port rest x others.0 all.0, both ports others.1 all.1)
  restarts_left port rest a (Some linked) h found all =
      let w : Work = restarts linked.setup (begins a linked) in
      let key : port_key linked ≡ port.0 = at_key port_key port.0 a.controller.ports linked found in
      actions_left rest linked.setup.port w.actions (with_work a linked w)
      (put_each port_key (LeftOrShut (port ∷ rest)) (LeftOrShut rest) (record linked { port = w.port }) (inr (restarts_shut linked.setup (begins a linked)))
      (λ x other. behind_one port rest x (λ e. other (e ∙ sym key))) a.controller.ports (ports_apart a h) all)

  all_left : (rest : List PortNo) (a : Acted) → HasPorts setups a → Every (LeftOrShut rest) a.controller.ports → Every IsShutLinked (fold port_restarts a rest).controller.ports
  all_left [] a h all = every_map (LeftOrShut []) IsShutLinked a.controller.ports (λ x left. elim left [ inl among ↦ absurd (no_one among) | inr shut ↦ shut ]) all
    where
      no_one : false ≡ true → ⊥
      no_one e = absurd (cc e)
  all_left (port ∷ rest) a h all = all_left rest (port_restarts a port) (fine_ports setups (port_restarts_of_fine setups a port (linked_at a.controller port) h refl) h)
      (restarts_left port rest a (linked_at a.controller port) h refl all)

  -- each is among them
  each_among : (ports : List Linked) → Every (λ (linked : Linked). Among (map (λ (x : Linked). x.setup.port) ports) linked) ports
  each_among [] = tt
  each_among (linked ∷ ports) = (here (port_key linked) (list_any (λ (p : PortNo). nat_eq p.0 (port_key linked)) (map (λ (x : Linked). x.setup.port) ports)), later ports (each_among ports))
    where
      here : (n : ℕ) (b : Bool) → (nat_eq n n || b) ≡ true
      here n b = (let same : nat_eq n n ≡ true = grind (arith, nat_tests) in ap (λ (t : Bool). t || b) same)

      more : (b c : Bool) → c ≡ true → (b || c) ≡ true
      more true c e = refl
      more false c e = e

      later : (ys : List Linked) → Every (λ (y : Linked). Among (map (λ (x : Linked). x.setup.port) ports) y) ys → Every (λ (y : Linked). Among (map (λ (x : Linked). x.setup.port) (linked ∷ ports)) y) ys
      later [] all = tt
      later (y ∷ ys) all = (more (nat_eq (port_key linked) (port_key y)) (list_any (λ (p : PortNo). nat_eq p.0 (port_key y)) (map (λ (x : Linked). x.setup.port) ports)) all.0, later ys all.1)

  node_shut : (a : Acted) → HasPorts setups a → Every IsShutLinked (node_resets a).controller.ports
  node_shut a h = all_left (ports_of a.controller) (resets_gsmp a) (reset_ports setups a h)
      (every_map (Among (ports_of a.controller)) (LeftOrShut (ports_of a.controller)) a.controller.ports (λ x among. inl among) (each_among a.controller.ports))

  -- *Moves*
  sent_unmet : (a : Acted) (channel : Channel) (mark : Mark) (payload : List ℕ) → IsUnmet a → IsUnmet (sends a channel mark payload)
  sent_unmet a channel mark payload q = on_both (λ (s : Sender Controller). IsUnmet (record a { controller = s.queues; notes = s.notes })) (nat_le (length (frame_cells channel mark payload)) (free_slots a.controller))
      (record { queues = with_cells a.controller (frame_cells channel mark payload); notes = made a.notes mark payload })
      (record { queues = a.controller; notes = noted (made a.notes mark payload) (Loss mark PoolFull) }) q q

  move_unmet : (a b : Acted) → Move setups a b → IsUnmet a → IsUnmet b
  move_unmet a b (noting x item) q = q
  move_unmet a b (taking_notes x notes) q = q
  move_unmet a b (sending x channel mark payload) q = sent_unmet x channel mark payload q
  move_unmet a b (sending_control x channel payload) q = sent_unmet (record x { numbers = with_control x.numbers }) channel (next_control x.numbers) payload q
  move_unmet a b (asking x request estab room shaped) q = q
  move_unmet a b (withdrawing x input) q = q
  move_unmet a b (answering x answer) q = q
  move_unmet a b (meeting x) q = q
  move_unmet a b (ending_meeting x estab) q = λ e. absurd (cc e)
  move_unmet a b (turning x step turn) q = q
  move_unmet a b (placing x linked w found worked) q = λ e. put_every port_key IsShutLinked (record linked { port = w.port }) x.controller.ports
      (worked_shut setups linked.setup x.controller.desk (begins x linked) w worked (at_every port_key IsShutLinked linked.setup.port.0 x.controller.ports linked (q e) found)) (q e)
  move_unmet a b (clearing x linked found may) q = λ e. absurd (cc (sym (clear_is_met x.controller linked may) ∙ e))
  move_unmet a b (gathering x r) q = q
  move_unmet a b (chaining x linked after found same port) q = λ e. put_every port_key IsShutLinked after x.controller.ports
      (subst (λ (p : Port). IsShut p) (sym port) (at_every port_key IsShutLinked linked.setup.port.0 x.controller.ports linked (q e) found)) (q e)
  move_unmet a b (routing x table waiting is_begun changes) q = q
  move_unmet a b (popping x queue) q = q

  record Both (a : Acted) : Type 0 where
    has : HasPorts setups a
    unmet : IsUnmet a

  move_both : (a b : Acted) → Move setups a b → Both a → Both b
  move_both a b m p = record { has = move_ports setups a b m p.has; unmet = move_unmet a b m p.unmet }

  node_both : (a : Acted) → Both a → Both (node_resets a)
  node_both a p = record { has = moves_ports setups (node_resets_goes setups a p.has) p.has; unmet = λ e. node_shut a p.has }

  pub moves_unmet : {a b : Acted} → Moves setups a b → HasPorts setups a → IsUnmet a → IsUnmet b
  moves_unmet {a} {b} moves h q = (let p : Both b = moves_keep_whole setups Both move_both node_both moves (record { has = h; unmet = q }) in p.unmet)
