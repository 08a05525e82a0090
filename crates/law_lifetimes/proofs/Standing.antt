-- in a tick the session with the switch ends by a node reset alone, which draws a new instance for the node

use Rattle.std.proofs.Common.{◌≡◌, ℕ, ◌≤◌, ◌+◌, Bool, true, false, List, length, Option, None, Some, refl, sym, ◌∙◌, ap, arith, inl, inr}
use Rattle.std.specs.Prelude.{◌⊎◌, ◌<◌, ◌&&◌, not, nat_le, is_some}
use Rattle.std.specs.Option.{option_map_or}
use Rattle.law_controller.specs.world_model.Words.{PortNo, Channel, Mark, next_control, with_control, Reply, Silent, Says, Resets, tick_reply, is_estab, followed_tick, ticked, Loss, PoolFull, noted, frame_cells, made, Action, Setup, Controller, Linked, port_key, linked_at, sends_control, performs_in_estab}
use Rattle.law_controller.specs.world_model.adjacency_table.Side.{counted}
use Rattle.law_controller.specs.world_model.frame_model.Sending.{Sender}
use Rattle.law_controller.proofs.law_port_facts.Keyed.{on_both, at_every}
use Rattle.law_controller.specs.world_model.Controller.{Acted, free_slots}
use Rattle.law_controller.specs.world_model.Sending.{with_cells, sends}
use Rattle.law_controller.specs.world_model.Ticks.{ticks}
use Rattle.law_rule_walks.proofs.Controllers.{Keeps, DrawsAt, draws_works}
use Rattle.law_rule_walks.proofs.Controllers as controllers
use Rattle.law_controller.proofs.ordered_lists.Every.{every_all}
use Rattle.law_controller.specs.law_controller_facts.Sound.{IsSound, IsShutLinked}
use Rattle.law_lifetimes.specs.Expiry.{is_reset_answer, reaches, reaches_at, has_switch}
use Rattle.law_lifetimes.specs.Expiry.{IsReset}

-- *The session stands*, or the node has an instance above that which was the last
module _ (n : ℕ) where
  abbrev pub UpOrNew : Acted → Type 0
  UpOrNew a = (n ≤ a.numbers.instances) × ((is_estab a.controller.adjacency.state ≡ true) ⊎ (n < a.controller.adjacency.own.instance.0))

  one_more : (m : ℕ) → n ≤ m → n ≤ m + 1
  one_more m h = omega (arith, h)

  above : (m : ℕ) → n ≤ m → n < m + 1
  above m h = omega (arith, h)

  sends_up : (a : Acted) (channel : Channel) (mark : Mark) (payload : List ℕ) → UpOrNew a → UpOrNew (sends a channel mark payload)
  sends_up a channel mark payload h = on_both (λ (s : Sender Controller). UpOrNew (record a { controller = s.queues; notes = s.notes })) (nat_le (length (frame_cells channel mark payload)) (free_slots a.controller))
      (record { queues = with_cells a.controller (frame_cells channel mark payload); notes = made a.notes mark payload })
      (record { queues = a.controller; notes = noted (made a.notes mark payload) (Loss mark PoolFull) }) h h

  sends_control_up : (a : Acted) (channel : Channel) (payload : List ℕ) → UpOrNew a → UpOrNew (sends_control a channel payload)
  sends_control_up a channel payload h = sends_up (record a { numbers = with_control a.numbers }) channel (next_control a.numbers) payload h

  -- *Each change* of a controller: a node reset alone ends the session, and draws an instance
  keeps : Keeps (Unit {0}) UpOrNew (DrawsAt n) (λ (setup : Setup) (action : Action). Unit {0})
  keeps = record {
    beginning = λ a linked found h. h.0;
    working = draws_works n;
    asking = λ setup desk w h. every_all (λ (action : Action). Unit {0}) w.actions (λ action. tt);
    placing = λ a linked w found least h. (least, h.1);
    clearing = λ a linked found may h. h;
    saying = λ setup a message is h. sends_control_up a _ _ h;
    noting = λ setup a item is h. h;
    withdrawing = λ setup a input is h. h;
    parting = λ a input h. h;
    telling = λ a message h. sends_control_up a _ _ h;
    requesting = λ a request estab room h. h;
    resetting = λ a h. (one_more a.numbers.instances h.0, inr (above a.numbers.instances h.0));
    emptying = λ a h. h;
    meeting = λ a h. h;
    cutting_label = λ a linked label found h. h;
    cutting_default = λ a linked found h. h;
    cutting_gsmp = λ a h. h;
    changing = λ a h. h;
  }

  pub performed_up : (setup : Setup) (a : Acted) (action : Action) → UpOrNew a → UpOrNew (performs_in_estab setup.port a action)
  performed_up setup a action h = controllers.performs_in_kept keeps setup a action tt h

  ticks_up : (a : Acted) → UpOrNew a → UpOrNew (ticks a)
  ticks_up a h = controllers.ticks_kept keeps tt a (h.0, turned (tick_reply a.controller.adjacency.state (counted a.controller.adjacency.state a.controller.adjacency.silence))) h
    where
      turned : (r : Reply) → (is_estab (followed_tick a.controller.adjacency r).side.state ≡ true) ⊎ (n < (followed_tick a.controller.adjacency r).side.own.instance.0)
      turned Silent = h.1
      turned (Says kind) = h.1
      turned Resets = h.1

-- *In a session of a port* the node has one with the switch
pub in_session : (setups : List Setup) (a : Acted) (port : PortNo) (x : Linked) → IsSound setups a.controller → linked_at a.controller port ≡ Some x → is_some x.port.session ≡ true → has_switch a.controller ≡ true
in_session setups a port x s found session = by_met a.controller.has_met refl
  where
    by_met : (b : Bool) → a.controller.has_met ≡ b → has_switch a.controller ≡ true
    by_met true e = s.desk.met e
    by_met false e = absurd (cc (sym (ap is_some (at_every port_key IsShutLinked port.0 a.controller.ports x (s.unmet e) found).session) ∙ session))

-- so it stood, and where it doesn't any more the node was reset
pub stood : (a : Acted) → has_switch a.controller ≡ true → UpOrNew a.numbers.instances a
stood a up = (omega arith, inl up)

pub reset_by : (a b : Acted) → UpOrNew a.numbers.instances b → has_switch b.controller ≡ false → IsReset a b
reset_by a b (given, inl up) ended = absurd (cc (sym up ∙ ended))
reset_by a b (given, inr new) ended = new

pub tick_resets : (setups : List Setup) (a : Acted) (port : PortNo) → IsSound setups a.controller → reaches_at a.controller port ≡ true → has_switch (ticks a).controller ≡ false → IsReset a (ticks a)
tick_resets setups a port s reach ended = reset_by a (ticks a) (ticks_up a.numbers.instances a (stood a (by_found (linked_at a.controller port) refl reach))) ended
  where
    session_of : (b c d : Bool) → (not b && (c && not d)) ≡ true → c ≡ true
    session_of true c d t = absurd (cc t)
    session_of false true d t = refl
    session_of false false d t = absurd (cc t)

    by_found : (o : Option Linked) → linked_at a.controller port ≡ o → option_map_or (reaches a.controller) o false ≡ true → has_switch a.controller ≡ true
    by_found None found r = absurd (cc r)
    by_found (Some x) found r = in_session setups a port x s found (session_of (is_reset_answer (ticked a.controller.adjacency).answer) (is_some x.port.session) (is_reset_answer (ticked x.port.adjacency).answer) r)
