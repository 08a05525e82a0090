-- what a controller leaves of its own instances: each is as it was, or new, and no two new ones are the same

use Rattle.std.proofs.Common.{◌≡◌, ◌≢◌, ℕ, ◌<◌, ◌≤◌, ◌+◌, List, length, Option, Some, refl, sym, ◌∙◌, ap, subst, arith, ◌⊎◌, inl, inr}
use Rattle.std.specs.Prelude.{nat_le}
use Rattle.std.specs.Option.{option_map}
use Rattle.law_world_pace.specs.world_model.Words.{Party, Channel, Mark, next_control, with_control, Side, Loss, PoolFull, noted, frame_cells, made, at, put, Desk, Setup, Work, Controller, Linked, port_key, begins, with_work, resets_gsmp}
use Rattle.law_world_pace.specs.world_model.adjacency_table.Side as sides
use Rattle.law_world_pace.specs.world_model.frame_model.Sending.{Sender}
use Rattle.law_world_pace.specs.world_model.port_model.Resets.{cleared}
use Rattle.law_controller_bindings.proofs.law_port_facts.Keyed.{on_both, by_eq, at_put_same, at_put_other}
use Rattle.law_world_pace.specs.world_model.Controller.{Acted, free_slots}
use Rattle.law_world_pace.specs.world_model.Sending.{with_cells, sends}
use Rattle.law_controller_bindings.specs.law_controller_facts.Inputs.{Input, takes_input}
use Rattle.law_controller_bindings.specs.law_controller_facts.Sound.{IsSound, IsOwn}
use Rattle.law_controller_bindings.proofs.law_controller_facts.Moves.{IsGsmpTurn, hears, ages, Worked, by_rule, by_closing, by_reset, by_restart, by_parting, by_joining, by_lending, by_giving_back, Move, noting, taking_notes, sending, sending_control, asking, withdrawing, answering, meeting, ending_meeting, turning, placing, clearing, gathering, chaining, routing, popping, moves_keep}
use Rattle.law_controller_bindings.proofs.law_controller_facts.Laws.{input_goes}
use Rattle.law_run_facts.proofs.Switches.{tick_own}
use Rattle.law_lifetimes.proofs.law_rule_walks.Ports as rules
use Rattle.law_run_facts.proofs.PortOwns.{rule_owns}

-- the own instance of a linked port, and of the port with a key
abbrev pub port_own : Linked → ℕ
port_own linked = linked.port.adjacency.own.instance.0

abbrev pub own_in : List Linked → (key : ℕ) → Option ℕ
own_in ports key = option_map port_own (at port_key key ports)

abbrev pub own_of : Controller → ℕ
own_of c = c.adjacency.own.instance.0

-- *A new instance*: more than were given out before
pub data IsDrawn (before behind : ℕ) (drawn : Option ℕ) : Type 0 where
  is_drawn : (n : ℕ) → drawn ≡ Some n → before < n → n ≤ behind → IsDrawn before behind drawn

-- *What a port at work draws*: it keeps its instance, or has the next one
pub worked_owns : (setups : List Setup) (setup : Setup) (desk : Desk) (w v : Work) → Worked setups setup desk w v
    → ((v.port.adjacency.own.instance.0 ≡ w.port.adjacency.own.instance.0) × (v.instances ≡ w.instances)) ⊎ ((v.port.adjacency.own.instance.0 ≡ w.instances + 1) × (v.instances ≡ w.instances + 1))
worked_owns setups setup desk w v (by_rule u goes) = inl (rule_owns setup desk w (rules.by_steps tt u goes))
worked_owns setups setup desk w v by_closing = inl (rule_owns setup desk w rules.by_closing)
worked_owns setups setup desk w v by_reset = inr (refl, refl)
worked_owns setups setup desk w v by_restart = inr (refl, refl)
worked_owns setups setup desk w v (by_parting number) = inl (rule_owns setup desk w (rules.by_parting number))
worked_owns setups setup desk w v (by_joining number output end offered) = inl (rule_owns setup desk w (rules.by_joining number output))
worked_owns setups setup desk w v (by_lending grant input found is end) = inl (rule_owns setup desk w (rules.by_lending grant input))
worked_owns setups setup desk w v (by_giving_back grant found) = inl (rule_owns setup desk w (rules.by_giving_back grant))

turned_own : (side : Side Party) (step : sides.Step Party) → IsGsmpTurn side step → step.side.own ≡ side.own
turned_own side step (hears greeting) = refl
turned_own side step ages = tick_own side

-- *What was there first*: a controller, and how many instances were given out
module _ (setups : List Setup) (first : Controller) (given : ℕ) where
  pub record Owns (a : Acted) : Type 0 where
    pub node : a.controller.node ≡ first.node
    pub least : given ≤ a.numbers.instances
    pub own : (own_of a.controller ≡ own_of first) ⊎ (given < own_of a.controller)
    pub most : own_of a.controller ≤ a.numbers.instances
    pub ports : (key : ℕ) → (own_in a.controller.ports key ≡ own_in first.ports key) ⊎ IsDrawn given a.numbers.instances (own_in a.controller.ports key)
    pub each_most : (key n : ℕ) → own_in a.controller.ports key ≡ Some n → n ≤ a.numbers.instances
    pub apart : (key other n : ℕ) → own_in a.controller.ports key ≡ Some n → own_in a.controller.ports other ≡ Some n → given < n → key ≡ other
    pub apart_own : (key n : ℕ) → own_in a.controller.ports key ≡ Some n → own_of a.controller ≡ n → given < n → ⊥

  -- nothing that is looked at changes
  same : (a b : Acted) → b.controller.node ≡ a.controller.node → b.numbers.instances ≡ a.numbers.instances → own_of b.controller ≡ own_of a.controller
      → ((key : ℕ) → own_in b.controller.ports key ≡ own_in a.controller.ports key) → Owns a → Owns b
  same a b node instances own ports h = record {
    node = node ∙ h.node;
    least = omega (arith, instances, h.least);
    own = elim h.own [ inl is ↦ inl (own ∙ is) | inr new ↦ inr (omega (arith, own, new)) ];
    most = omega (arith, own, instances, h.most);
    ports = λ key. elim (h.ports key) [ inl is ↦ inl (ports key ∙ is) | inr new ↦ inr (still key new) ];
    each_most = λ key n e. omega (arith, instances, h.each_most key n (sym (ports key) ∙ e));
    apart = λ key other n e f new. h.apart key other n (sym (ports key) ∙ e) (sym (ports other) ∙ f) new;
    apart_own = λ key n e f new. h.apart_own key n (sym (ports key) ∙ e) (sym own ∙ f) new;
  }
    where
      still : (key : ℕ) → IsDrawn given a.numbers.instances (own_in a.controller.ports key) → IsDrawn given b.numbers.instances (own_in b.controller.ports key)
      still key (is_drawn n e new few) = is_drawn n (ports key ∙ e) new (omega (arith, few, instances))

  -- a port that is put, with its own instance
  put_same : (ports : List Linked) (old new : Linked) → at port_key (port_key new) ports ≡ Some old → port_own new ≡ port_own old → (key : ℕ) → own_in (put port_key new ports) key ≡ own_in ports key
  put_same ports old new found own key = by_eq (port_key new) key
      (λ e t. subst (λ k. own_in (put port_key new ports) k ≡ own_in ports k) e
      (ap (option_map port_own) (at_put_same port_key new ports old found) ∙ ap Some own ∙ sym (ap (option_map port_own) found)))
      (λ n t. ap (option_map port_own) (at_put_other port_key new key ports n))

  -- or with the next one
  put_new : (a : Acted) (old new : Linked) (b : Acted) → b.controller.ports ≡ put port_key new a.controller.ports → b.controller.node ≡ a.controller.node → own_of b.controller ≡ own_of a.controller
      → b.numbers.instances ≡ a.numbers.instances + 1 → at port_key (port_key new) a.controller.ports ≡ Some old → port_own new ≡ a.numbers.instances + 1 → Owns a → Owns b
  put_new a old new b is node own instances found drawn h = record {
    node = node ∙ h.node;
    least = omega (arith, instances, h.least);
    own = elim h.own [ inl e ↦ inl (own ∙ e) | inr more ↦ inr (omega (arith, own, more)) ];
    most = omega (arith, own, instances, h.most);
    ports = λ key. by_key key (λ e. inr (is_drawn (a.numbers.instances + 1) (here key e) (omega (arith, h.least)) (omega (arith, instances))))
        (λ n. elim (h.ports key) [ inl e ↦ inl (there key n ∙ e) | inr more ↦ inr (still key n more) ]);
    each_most = λ key n e. by_key key (λ s. omega (arith, instances, value key n s e)) (λ d. omega (arith, instances, h.each_most key n (sym (there key d) ∙ e)));
    apart = λ key other n e f more. by_key key
        (λ s. by_key other (λ t. sym s ∙ t) (λ d. absurd (omega (arith, value key n s e, h.each_most other n (sym (there other d) ∙ f)))))
        (λ d. by_key other (λ t. absurd (omega (arith, value other n t f, h.each_most key n (sym (there key d) ∙ e)))) (λ c. h.apart key other n (sym (there key d) ∙ e) (sym (there other c) ∙ f) more));
    apart_own = λ key n e f more. by_key key (λ s. absurd (omega (arith, value key n s e, own, f, h.most))) (λ d. h.apart_own key n (sym (there key d) ∙ e) (sym own ∙ f) more);
  }
    where
      by_key : {P : Type 0} (key : ℕ) → (port_key new ≡ key → P) → (port_key new ≢ key → P) → P
      by_key key same_key other_key = by_eq (port_key new) key (λ e t. same_key e) (λ n t. other_key n)

      here : (key : ℕ) → port_key new ≡ key → own_in b.controller.ports key ≡ Some (a.numbers.instances + 1)
      here key e = ap (λ (xs : List Linked). own_in xs key) is
          ∙ subst (λ k. own_in (put port_key new a.controller.ports) k ≡ Some (a.numbers.instances + 1)) e (ap (option_map port_own) (at_put_same port_key new a.controller.ports old found) ∙ ap Some drawn)

      there : (key : ℕ) → port_key new ≢ key → own_in b.controller.ports key ≡ own_in a.controller.ports key
      there key n = ap (λ (xs : List Linked). own_in xs key) is ∙ ap (option_map port_own) (at_put_other port_key new key a.controller.ports n)

      value : (key n : ℕ) → port_key new ≡ key → own_in b.controller.ports key ≡ Some n → n ≡ a.numbers.instances + 1
      value key n e f = some_same n (a.numbers.instances + 1) (sym f ∙ here key e)
        where
          some_same : (x y : ℕ) → Some x ≡ Some y → x ≡ y
          some_same x y e = cc e

      still : (key : ℕ) → port_key new ≢ key → IsDrawn given a.numbers.instances (own_in a.controller.ports key) → IsDrawn given b.numbers.instances (own_in b.controller.ports key)
      still key d (is_drawn n e more few) = is_drawn n (there key d ∙ e) more (omega (arith, few, instances))

  sent_owns : (a : Acted) (channel : Channel) (mark : Mark) (payload : List ℕ) → Owns a → Owns (sends a channel mark payload)
  sent_owns a channel mark payload h = on_both (λ (s : Sender Controller). Owns (record a { controller = s.queues; notes = s.notes })) (nat_le (length (frame_cells channel mark payload)) (free_slots a.controller))
      (record { queues = with_cells a.controller (frame_cells channel mark payload); notes = made a.notes mark payload })
      (record { queues = a.controller; notes = noted (made a.notes mark payload) (Loss mark PoolFull) })
      (same a (record a { controller = with_cells a.controller (frame_cells channel mark payload); notes = made a.notes mark payload }) refl refl refl (λ key. refl) h)
      (same a (record a { notes = noted (made a.notes mark payload) (Loss mark PoolFull) }) refl refl refl (λ key. refl) h)

  move_owns : (a b : Acted) → Move setups a b → Owns a → Owns b
  move_owns a b (noting x item) h = same x b refl refl refl (λ key. refl) h
  move_owns a b (taking_notes x notes) h = same x b refl refl refl (λ key. refl) h
  move_owns a b (sending x channel mark payload) h = sent_owns x channel mark payload h
  move_owns a b (sending_control x channel payload) h = sent_owns (record x { numbers = with_control x.numbers }) channel (next_control x.numbers) payload
      (same x (record x { numbers = with_control x.numbers }) refl refl refl (λ key. refl) h)
  move_owns a b (asking x request estab room shaped) h = same x b refl refl refl (λ key. refl) h
  move_owns a b (withdrawing x input) h = same x b refl refl refl (λ key. refl) h
  move_owns a b (answering x answer) h = same x b refl refl refl (λ key. refl) h
  move_owns a b (meeting x) h = same x b refl refl refl (λ key. refl) h
  move_owns a b (ending_meeting x estab) h = same x b refl refl refl (λ key. refl) h
  move_owns a b (turning x step turn) h = same x b refl refl (ap (λ (p : Party). p.instance.0) (turned_own x.controller.adjacency step turn)) (λ key. refl) h
  move_owns a b (placing x linked w found worked) h = elim (worked_owns setups linked.setup x.controller.desk (begins x linked) w worked) [
    | inl kept ↦ same x (with_work x linked w) refl kept.1 refl (put_same x.controller.ports linked (record linked { port = w.port }) found kept.0) h
    | inr new ↦ put_new x linked (record linked { port = w.port }) (with_work x linked w) refl refl refl new.1 found new.0 h
  ]
  move_owns a b (clearing x linked found may) h = same x b refl refl refl (put_same x.controller.ports linked (record linked { port = cleared linked.port }) found refl) h
  move_owns a b (gathering x r) h = same x b refl refl refl (λ key. refl) h
  move_owns a b (chaining x linked after found setup port) h = same x b refl refl refl
      (put_same x.controller.ports linked after (subst (λ (s : Setup). at port_key s.port.0 x.controller.ports ≡ Some linked) (sym setup) found) (ap (λ p. p.adjacency.own.instance.0) port)) h
  move_owns a b (routing x table waiting is_begun changes) h = same x b refl refl refl (λ key. refl) h
  move_owns a b (popping x queue) h = same x b refl refl refl (λ key. refl) h

  reset_owns : (a : Acted) → Owns a → Owns (resets_gsmp a)
  reset_owns a h = record {
    node = h.node;
    least = omega (arith, h.least);
    own = inr (omega (arith, h.least));
    most = omega arith;
    ports = λ key. elim (h.ports key) [ inl is ↦ inl is | inr new ↦ inr (still key new) ];
    each_most = λ key n e. omega (arith, h.each_most key n e);
    apart = h.apart;
    apart_own = λ key n e f new. absurd (omega (arith, f, h.each_most key n e));
  }
    where
      still : (key : ℕ) → IsDrawn given a.numbers.instances (own_in a.controller.ports key) → IsDrawn given (a.numbers.instances + 1) (own_in a.controller.ports key)
      still key (is_drawn n e new few) = is_drawn n e new (omega (arith, few))

-- *Each input* of a controller that has no instance yet that wasn't given out
pub input_owns : (setups : List Setup) (a : Acted) (input : Input) → IsOwn input → IsSound setups a.controller → own_of a.controller ≤ a.numbers.instances
    → ((key n : ℕ) → own_in a.controller.ports key ≡ Some n → n ≤ a.numbers.instances) → Owns setups a.controller a.numbers.instances (takes_input a input)
input_owns setups a input own sound most each =
    moves_keep setups (Owns setups a.controller a.numbers.instances) (move_owns setups a.controller a.numbers.instances) (reset_owns setups a.controller a.numbers.instances) (input_goes setups a input own sound)
    (record {
      node = refl;
      least = omega arith;
      own = inl refl;
      most = most;
      ports = λ key. inl refl;
      each_most = each;
      apart = λ key other n e f new. absurd (omega (arith, each key n e, new));
      apart_own = λ key n e f new. absurd (omega (arith, each key n e, new));
    })
