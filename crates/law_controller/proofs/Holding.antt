-- what each smallest change of a controller keeps, and a node reset

use Rattle.std.proofs.Common.{◌≡◌, ℕ, Bool, true, false, List, [], ◌∷◌, length, Option, None, Some, refl, sym, ◌∙◌, ap, subst, inl, inr, fold}
use Rattle.std.specs.Prelude.{not, ◌==◌, ◌&&◌, nat_le, ◌⊎◌}
use Rattle.std.specs.List.{list_any}
use Rattle.std.specs.Option.{option_map_or}
use Rattle.law_controller_facts.specs.world_model.Words.{PortNo, Channel, End, Mark, next_control, with_control, Clearing, is_estab, Loss, PoolFull, Journal, noted, frame_cells, made, Request, at, put, is_on, is_delete_all, Desk, Standing, empty_desk, last_transaction, all_on, Answered, after_answer, Action, Say, Ask, Note, CutChain, TakeBack, Withdraw, Setup, label_end, Label, Session, Work, labels_of, restarts, Controller, Linked, port_key, linked_at, with_linked, with_desk, chain_of, chains_with, cut, nothing_taken, Grant, sends_control, withdraws_input, begins, with_work, cuts_of, closes_by, port_restarts_of, port_restarts, resets_gsmp, node_resets, awaits_nothing, may_clear}
use Rattle.law_controller_facts.specs.world_model.frame_model.Sending.{Sender}
use Rattle.law_controller_facts.specs.ordered_lists.Ordered.{Every}
use Rattle.law_controller_facts.proofs.ordered_lists.Every.{every_all, every_map}
use Rattle.law_controller_facts.specs.world_model.port_model.Desk.{asked}
use Rattle.law_controller_facts.specs.world_model.port_model.declared.action.Action.TheVariants as actions
use Rattle.law_controller_facts.specs.world_model.port_model.Port.{Port}
use Rattle.law_controller_facts.specs.world_model.port_model.Resets.{cleared}
use Rattle.law_controller_facts.specs.law_port_facts.Port.{IsShaped, IsShut}
use Rattle.law_controller_facts.proofs.law_port_facts.Keyed.{on_both, at_every}
use Rattle.law_controller_facts.specs.world_model.Controller.{Acted, free_slots, ports_of}
use Rattle.law_controller_facts.specs.world_model.Sending.{with_cells, sends}
use Rattle.law_controller_facts.specs.Sound.{IsSound, IsShutLinked}
use Rattle.law_controller_facts.proofs.Moves.{Worked, Found, sending, asking, withdrawing, answering, meeting, placing, clearing, chaining, moves_to}
use Rattle.law_controller_facts.proofs.Laws.{moves_sound}
use Rattle.law_controller_facts.proofs.Each.{node_resets_keeps}
use Rattle.law_controller.specs.Order.{lends, lends_at, is_lent, IsLentTo, HasLentLabels, IsClearingAt, IsOrder, IsOrderly}
use Rattle.law_controller.proofs.Lists.{any_put_leads, each_any}
use Rattle.law_controller.proofs.Ordering.{MayAsk, asked_order, fewer_order, answered_order, empty_order, HasKeptLabels, IsKeptStanding, placed_order}

-- *Any input is kept*
abbrev pub AnyInput : End → Type 0
AnyInput input = Unit {0}

-- a port changes, and whatever was lent is still lent
pub mono_order : (ports : List Linked) (has_met : Bool) (desk : Desk) (linked after : Linked) → at port_key (port_key linked) ports ≡ Some linked → port_key after ≡ port_key linked
    → ((input : End) → lends_at input linked ≡ true → lends_at input after ≡ true) → HasLentLabels ports after
    → ((linked.port.adjacency.state ≡ Clearing → after.port.adjacency.state ≡ Clearing) ⊎ (all_on desk after.setup.port ≡ false))
    → IsOrder ports has_met desk → IsOrder (put port_key after ports) has_met desk
mono_order ports has_met desk linked after found same keeps own clears h = placed_order ports has_met desk linked after found same AnyInput (λ input any is. still input is)
    (every_map (IsLentTo ports after) (IsLentTo (put port_key after ports) after) (labels_of after.port) (λ label lent output joined. still (label_end after.setup.port label.number) (lent output joined)) own)
    (every_all (HasKeptLabels ports has_met desk linked after found same AnyInput) ports (λ x. every_all _ (labels_of x.port) (λ label output joined. tt)))
    (every_all (IsKeptStanding ports has_met desk linked after found same AnyInput) desk.standing (λ s input on. tt)) clears h
  where
    at_after : at port_key (port_key after) ports ≡ Some linked
    at_after = subst (λ n. at port_key n ports ≡ Some linked) (sym same) found

    still : (input : End) → is_lent ports input ≡ true → is_lent (put port_key after ports) input ≡ true
    still input is = any_put_leads (lends_at input) port_key after ports linked at_after (keeps input) is

-- *While every port is shut* nothing is lent, and no label is joined
pub shut_unlent : (ports : List Linked) (input : End) → Every IsShutLinked ports → is_lent ports input ≡ false
shut_unlent ports input all = each_any (lends_at input) ports (every_map IsShutLinked (λ x. lends_at input x ≡ false) ports (λ x shut. ap (λ (gs : List Grant). list_any (lends input) gs) shut.grants) all)

pub shut_joined : (ports : List Linked) → Every IsShutLinked ports → Every (HasLentLabels ports) ports
shut_joined ports all = every_map IsShutLinked (HasLentLabels ports) ports
    (λ x shut. subst (λ (o : Option Session). Every (IsLentTo ports x) (option_map_or (λ (s : Session). s.labels) o [])) (sym shut.session) tt) all

module _ (setups : List Setup) where
  pub record Holds (a : Acted) : Type 0 where
    pub sound : IsSound setups a.controller
    pub order : IsOrderly a.controller

  -- *The notes, and what is sent*
  pub sends_holds : (a : Acted) (channel : Channel) (mark : Mark) (payload : List ℕ) → Holds a → Holds (sends a channel mark payload)
  sends_holds a channel mark payload h = record {
    sound = moves_sound setups a (sends a channel mark payload) (moves_to (sending a channel mark payload)) h.sound;
    order = on_both (λ (s : Sender Controller). IsOrderly s.queues) (nat_le (length (frame_cells channel mark payload)) (free_slots a.controller))
        (record { queues = with_cells a.controller (frame_cells channel mark payload); notes = made a.notes mark payload })
        (record { queues = a.controller; notes = noted (made a.notes mark payload) (Loss mark PoolFull) }) h.order h.order;
  }

  pub numbered_holds : (a : Acted) (notes : Journal) → Holds a → Holds (record a { notes = notes })
  numbered_holds a notes h = record { sound = h.sound; order = h.order }

  pub sends_control_holds : (a : Acted) (channel : Channel) (payload : List ℕ) → Holds a → Holds (sends_control a channel payload)
  sends_control_holds a channel payload h = sends_holds (record a { numbers = with_control a.numbers }) channel (next_control a.numbers) payload (record { sound = h.sound; order = h.order })

  -- *The desk*
  pub asked_holds : (a : Acted) (request : Request) → is_estab a.controller.adjacency.state ≡ true → (a.controller.desk.next == last_transaction) ≡ false → IsShaped setups request
      → MayAsk a.controller.ports a.controller.has_met a.controller.desk request → Holds a → Holds (with_desk a (asked a.controller.desk request))
  asked_holds a request estab room shaped may h = record {
    sound = moves_sound setups a (with_desk a (asked a.controller.desk request)) (moves_to (asking a request estab room shaped)) h.sound;
    order = asked_order a.controller.ports a.controller.has_met a.controller.desk request may h.order;
  }

  pub withdraws_holds : (a : Acted) (input : End) → Holds a → Holds (withdraws_input a input)
  withdraws_holds a input h = record {
    sound = moves_sound setups a (withdraws_input a input) (moves_to (withdrawing a input)) h.sound;
    order = fewer_order a.controller.ports a.controller.has_met a.controller.desk (λ (s : Standing). not (is_on input s.request)) h.order;
  }

  pub answered_holds : (a : Acted) (answer : Answered) → Holds a → Holds (with_desk a (after_answer a.controller.desk answer))
  answered_holds a answer h = record {
    sound = moves_sound setups a (with_desk a (after_answer a.controller.desk answer)) (moves_to (answering a answer)) h.sound;
    order = answered_order a.controller.ports a.controller.has_met a.controller.desk answer h.order;
  }

  pub emptied_holds : (a : Acted) → Holds a → Holds (with_desk a empty_desk)
  emptied_holds a h = record {
    sound = moves_sound setups a (with_desk a empty_desk) (moves_to (meeting a)) h.sound;
    order = empty_order a.controller.ports a.controller.has_met empty_desk refl h.order.joined;
  }

  -- *A port*: of the same setup
  pub placed_holds : (a : Acted) (linked : Linked) (w : Work) → Found setups a linked → Worked setups linked.setup a.controller.desk (begins a linked) w
      → ((input : End) → lends_at input linked ≡ true → lends_at input (record linked { port = w.port }) ≡ true) → HasLentLabels a.controller.ports (record linked { port = w.port })
      → (linked.port.adjacency.state ≡ Clearing → w.port.adjacency.state ≡ Clearing) → Holds a → Holds (with_work a linked w)
  placed_holds a linked w found worked keeps own clears h = record {
    sound = moves_sound setups a (with_work a linked w) (moves_to (placing a linked w found worked)) h.sound;
    order = mono_order a.controller.ports a.controller.has_met a.controller.desk linked (record linked { port = w.port }) found refl keeps own (inl clears) h.order;
  }

  pub joined_at : (a : Acted) (linked : Linked) → Found setups a linked → Holds a → HasLentLabels a.controller.ports linked
  joined_at a linked found h = at_every port_key (HasLentLabels a.controller.ports) (port_key linked) a.controller.ports linked h.order.joined found

  pub chained_holds : (a : Acted) (linked after : Linked) → Found setups a linked → after.setup ≡ linked.setup → after.port ≡ linked.port → Holds a → Holds (with_linked a after)
  chained_holds a linked after found same port h = record {
    sound = moves_sound setups a (with_linked a after) (moves_to (chaining a linked after found same port)) h.sound;
    order = mono_order a.controller.ports a.controller.has_met a.controller.desk linked after found (ap (λ (s : Setup). s.port.0) same)
        (λ input is. subst (λ (p : Port). list_any (lends input) p.grants ≡ true) (sym port) is)
        (subst (λ (s : Setup). Every (λ (label : Label). (output : End) → label.join ≡ Some output → is_lent a.controller.ports (label_end s.port label.number) ≡ true) (labels_of after.port)) (sym same)
        (subst (λ (p : Port). Every (λ (label : Label). (output : End) → label.join ≡ Some output → is_lent a.controller.ports (label_end linked.setup.port label.number) ≡ true) (labels_of p)) (sym port) (joined_at a linked found h)))
        (inl (λ e. ap (λ (p : Port). p.adjacency.state) port ∙ e)) h.order;
  }

  cleared_parts : (clears met nothing : Bool) → (clears && (met && nothing)) ≡ true → nothing ≡ true
  cleared_parts true true nothing e = e
  cleared_parts true false nothing e = absurd (cc e)
  cleared_parts false met nothing e = absurd (cc e)

  first_not : (a b : Bool) → (not a && b) ≡ true → a ≡ false
  first_not true b e = absurd (cc e)
  first_not false b e = refl

  pub cleared_holds : (a : Acted) (linked : Linked) → Found setups a linked → may_clear a.controller linked ≡ true → Holds a → Holds (with_linked a (record linked { port = cleared linked.port }))
  cleared_holds a linked found may h =
      let nothing : awaits_nothing a.controller linked.setup.port ≡ true = cleared_parts _ _ (awaits_nothing a.controller linked.setup.port) may in
      record {
        sound = moves_sound setups a (with_linked a (record linked { port = cleared linked.port })) (moves_to (clearing a linked found may)) h.sound;
        order = mono_order a.controller.ports a.controller.has_met a.controller.desk linked (record linked { port = cleared linked.port }) found refl (λ input is. is) (joined_at a linked found h)
            (inr (first_not (all_on a.controller.desk linked.setup.port) _ nothing)) h.order;
      }

  -- *A chain is cut*
  pub cut_holds : (a : Acted) (label : ℕ) (o : Option Linked) → ((linked : Linked) → o ≡ Some linked → Found setups a linked) → Holds a → Holds (cuts_of a label o)
  cut_holds a label None found h = h
  cut_holds a label (Some linked) found h = chained_holds (record a { notes = cut a.notes (chain_of linked.chains label) }) linked (record linked { chains = chains_with linked.chains label nothing_taken }) (found linked refl) refl refl (numbered_holds a (cut a.notes (chain_of linked.chains label)) h)

  -- *A node reset*: nothing stands, and every port is shut
  record IsAnew (a : Acted) : Type 0 where
    unmet : a.controller.has_met ≡ false
    closed : is_estab a.controller.adjacency.state ≡ false

  cut_anew : (a : Acted) (label : ℕ) (o : Option Linked) → IsAnew a → IsAnew (cuts_of a label o)
  cut_anew a label None h = h
  cut_anew a label (Some linked) h = record { unmet = h.unmet; closed = h.closed }

  closes_anew : (port : PortNo) (a : Acted) (action : Action) → IsAnew a → IsAnew (closes_by port a action)
  closes_anew port a (Say message) h = h
  closes_anew port a (Ask request needed) h = h
  closes_anew port a (Note item) h = record { unmet = h.unmet; closed = h.closed }
  closes_anew port a (CutChain label) h = cut_anew a label (linked_at a.controller port) h
  closes_anew port a (TakeBack input output) h = h
  closes_anew port a (Withdraw input) h = h
  closes_anew port a actions.Reset h = h

  fold_anew : {A : Type 0} (f : Acted → A → Acted) → ((a : Acted) (x : A) → IsAnew a → IsAnew (f a x)) → (xs : List A) (a : Acted) → IsAnew a → IsAnew (fold f a xs)
  fold_anew f each [] a h = h
  fold_anew f each (x ∷ xs) a h = fold_anew f each xs (f a x) (each a x h)

  restarts_anew : (a : Acted) (o : Option Linked) → IsAnew a → IsAnew (port_restarts_of a o)
  restarts_anew a None h = h
  restarts_anew a (Some linked) h = (let w : Work = restarts linked.setup (begins a linked) in fold_anew (closes_by linked.setup.port) (closes_anew linked.setup.port) w.actions (with_work a linked w) (record { unmet = h.unmet; closed = h.closed }))

  node_anew : (a : Acted) → IsAnew (node_resets a)
  node_anew a = fold_anew port_restarts (λ b port h. restarts_anew b (linked_at b.controller port) h) (ports_of a.controller) (resets_gsmp a) (record { unmet = refl; closed = refl })

  pub node_closed : (a : Acted) → is_estab (node_resets a).controller.adjacency.state ≡ false
  node_closed a = (node_anew a).closed

  pub node_unmet : (a : Acted) → (node_resets a).controller.has_met ≡ false
  node_unmet a = (node_anew a).unmet

  pub node_holds : (a : Acted) → Holds a → Holds (node_resets a)
  node_holds a h =
      let s : IsSound setups (node_resets a).controller = (node_resets_keeps setups a h.sound).sound in
      record {
        sound = s;
        order = empty_order (node_resets a).controller.ports (node_resets a).controller.has_met (node_resets a).controller.desk (s.desk.waits (node_closed a)) (shut_joined (node_resets a).controller.ports (s.unmet (node_unmet a)));
      }

  -- *Once something is lent, or a port isn't shut*, the switch is met
  pub lent_met : (a : Acted) (input : End) → is_lent a.controller.ports input ≡ true → Holds a → a.controller.has_met ≡ true
  lent_met a input lent h = by_met a.controller.has_met refl
    where
      by_met : (b : Bool) → a.controller.has_met ≡ b → a.controller.has_met ≡ true
      by_met true is = is
      by_met false is = absurd (cc (sym lent ∙ shut_unlent a.controller.ports input (h.sound.unmet is)))

  pub live_met : (a : Acted) (linked : Linked) (port : PortNo) → linked_at a.controller port ≡ Some linked → (IsShut linked.port → ⊥) → Holds a → a.controller.has_met ≡ true
  live_met a linked port found live h = by_met a.controller.has_met refl
    where
      by_met : (b : Bool) → a.controller.has_met ≡ b → a.controller.has_met ≡ true
      by_met true is = is
      by_met false is = absurd (live (at_every port_key IsShutLinked port.0 a.controller.ports linked (h.sound.unmet is) found))

  -- *Beside a port in Estab* stands no Delete All of it
  pub none_deleting : (a : Acted) (linked : Linked) (port : PortNo) → linked_at a.controller port ≡ Some linked → is_estab linked.port.adjacency.state ≡ true → Holds a → all_on a.controller.desk port ≡ false
  none_deleting a linked port found estab h =
      let met : a.controller.has_met ≡ true = live_met a linked port found (λ shut. closed (ap is_estab shut.clearing)) h in
      each_any (λ (s : Standing). is_delete_all port s.request) a.controller.desk.standing
      (every_map _ (λ (s : Standing). is_delete_all port s.request ≡ false) a.controller.desk.standing (λ s c. by_test s c (is_delete_all port s.request) refl) (h.order.clearing met))
    where
      closed : is_estab linked.port.adjacency.state ≡ false → ⊥
      closed e = absurd (cc (sym estab ∙ e))

      by_test : (s : Standing) → ((p : PortNo) → is_delete_all p s.request ≡ true → IsClearingAt a.controller.ports p) → (b : Bool) → is_delete_all port s.request ≡ b → is_delete_all port s.request ≡ false
      by_test s c true is = (let k : IsClearingAt a.controller.ports port = c port is in let both : Some k.linked ≡ Some linked = sym k.found ∙ found in let same : k.linked ≡ linked = cc in
          absurd (closed (ap (λ (x : Linked). is_estab x.port.adjacency.state) (sym same) ∙ ap is_estab k.clearing)))
      by_test s c false is = is
