-- the numbers of no port are spent once a rule of a port is done: where they are spent the port is reset, or its node is

use Rattle.std.proofs.Common.{◌≡◌, ◌≢◌, ◌≤◌, ◌<◌, Bool, true, false, List, [], ◌∷◌, Option, None, Some, refl, sym, ◌∙◌, ap, subst, arith, fold, ◌⊎◌, inl, inr}
use Rattle.std.specs.Prelude.{◌^◌}
use Rattle.law_arrival_views.specs.world_model.Words.{PortNo, is_estab, Action, Say, Ask, Note, CutChain, TakeBack, Withdraw, Setup, Session, Work, is_spent, resets, Linked, port_key, linked_at, begins, with_work, does_in_estab, resets_as, resets_of, resets_port, performs_in_estab, works_as}
use Rattle.law_label_steps.specs.ordered_lists.Ordered.{Every}
use Rattle.law_label_steps.specs.law_port_facts.Port.{IsAction, IsWork}
use Rattle.law_label_steps.proofs.law_port_facts.Keyed.{on_each, at_key}
use Rattle.law_label_steps.proofs.law_port_facts.Halting.{resets_among}
use Rattle.law_arrival_views.specs.world_model.port_model.declared.action.Action.TheVariants.{Reset}
use Rattle.law_arrival_views.specs.world_model.port_model.Port.{Port}
use Rattle.law_arrival_views.specs.world_model.Controller.{Acted}
use Rattle.law_arrival_views.specs.law_controller_facts.Sound.{IsSound, IsShutLinked}
use Rattle.law_arrival_views.proofs.law_controller_facts.Moves.{Worked, Found, moves_to, placing, found_setup, found_at_own, begun, worked_kept}
use Rattle.law_arrival_views.proofs.law_controller_facts.Laws.{has_ports, moves_sound}
use Rattle.law_arrival_views.proofs.law_controller_facts.Performing.{performs_in_estab_goes}
use Rattle.law_arrival_views.proofs.law_controller_facts.Unmet.{put_each, none_with, ports_apart}
use Rattle.law_label_steps.specs.Follows.{IsUnspent}
use Rattle.law_controller_lifts.proofs.Halted.{HasReset}
use Rattle.law_controller_lifts.proofs.Kept.{IsClosed, Of, Each, Goes, goes_fold, done_goes, performed_goes}

abbrev pub Unspent : Setup → Port → Type 0
Unspent setup port = is_spent port.session ≡ false

-- but for this port
abbrev pub UnspentBut : PortNo → Setup → Port → Type 0
UnspentBut q setup port = (is_spent port.session ≡ false) ⊎ (setup.port.0 ≡ q.0)

pub unspent_closed : IsClosed Unspent
unspent_closed = record { reset = λ setup port n f h. refl; restart = λ setup port n f h. refl }

but_closed : (q : PortNo) → IsClosed (UnspentBut q)
but_closed q = record { reset = λ setup port n f h. inl refl; restart = λ setup port n f h. inl refl }

pub each_more : (P Q : Linked → Type 0) → ((x : Linked) → P x → Q x) → (xs : List Linked) → Every P xs → Every Q xs
each_more P Q f [] h = tt
each_more P Q f (x ∷ xs) h = (f x h.0, each_more P Q f xs h.1)

-- a port that is shut has no session
shut_unspent : (xs : List Linked) → Every IsShutLinked xs → Every (Of Unspent) xs
shut_unspent xs h = each_more IsShutLinked (Of Unspent) (λ x shut. ap (λ (o : Option Session). is_spent o) shut.session ∙ refl) xs h

-- where the adjacency with the switch isn't in Estab every port is shut
pub down_unspent : (setups : List Setup) (a : Acted) → IsSound setups a.controller → is_estab a.controller.adjacency.state ≡ false → Each Unspent a
down_unspent setups a sound down = by a.controller.has_met refl
  where
    by : (b : Bool) → a.controller.has_met ≡ b → Each Unspent a
    by true e = absurd (cc (sound.desk.met e, down))
    by false e = shut_unspent a.controller.ports (sound.unmet e)

-- *A port is reset*
others : (q : PortNo) (x : Linked) → port_key x ≢ q.0 → Of (UnspentBut q) x → Of Unspent x
others q x n (inl h) = h
others q x n (inr is) = absurd (n is)

without_port : (q : PortNo) (xs : List Linked) → Every (λ (x : Linked). port_key x ≢ q.0) xs → Every (Of (UnspentBut q)) xs → Every (Of Unspent) xs
without_port q [] n h = tt
without_port q (x ∷ xs) n h = (others q x n.0 h.0, without_port q xs n.1 h.1)

module _ (setups : List Setup) where
  reset_unspent : (a : Acted) (q : PortNo) → IsSound setups a.controller → (resets_port a q).numbers.instances < 2 ^ 32 → Each (UnspentBut q) a → Each Unspent (resets_port a q)
  reset_unspent a q sound = by (linked_at a.controller q) refl
    where
      by : (o : Option Linked) → linked_at a.controller q ≡ o → (resets_of a o).numbers.instances < 2 ^ 32 → Each (UnspentBut q) a → Each Unspent (resets_of a o)
      by None found f h = without_port q a.controller.ports (none_with port_key q.0 a.controller.ports found) h
      by (Some linked) found f h =
          let w : Work = resets linked.setup (begins a linked) in
          let key : port_key linked ≡ q.0 = at_key port_key q.0 a.controller.ports linked found in
          let goes : Goes Unspent (with_work a linked w) (resets_as a linked w) =
          goes_fold Unspent unspent_closed (does_in_estab linked.setup.port) (done_goes Unspent unspent_closed linked.setup.port) w.actions (with_work a linked w) in
          goes.keeps f (put_each port_key (Of (UnspentBut q)) (Of Unspent) (record linked { port = w.port }) refl (λ x n. others q x (λ e. n (e ∙ sym key))) a.controller.ports
          (ports_apart setups a (has_ports setups a sound)) h)

  -- *What a port asked is done*: nothing is spent, or the port's numbers are and its reset is still asked
  record Pending (q : PortNo) (rest : List Action) (a : Acted) : Type 0 where
    asked : 1 ≤ resets_among rest
    but : Each (UnspentBut q) a

  abbrev Waits : PortNo → List Action → Acted → Type 0
  Waits q rest a = Each Unspent a ⊎ Pending q rest a

  one_step : (q : PortNo) (a : Acted) (action : Action) (rest : List Action) → IsSound setups a.controller → (performs_in_estab q a action).numbers.instances < 2 ^ 32
      → Waits q (action ∷ rest) a → Waits q rest (performs_in_estab q a action)
  one_step q a action rest sound f (inl h) = inl ((performed_goes Unspent unspent_closed q a action).keeps f h)
  one_step q a action rest sound f (inr h) = by_action action refl
    where
      later : 1 ≤ resets_among rest → Waits q rest (performs_in_estab q a action)
      later asked = inr (record { asked = asked; but = (performed_goes (UnspentBut q) (but_closed q) q a action).keeps f h.but })

      by_action : (x : Action) → action ≡ x → Waits q rest (performs_in_estab q a action)
      by_action (Say message) is = later (subst (λ (z : Action). 1 ≤ resets_among (z ∷ rest)) is h.asked)
      by_action (Ask request needed) is = later (subst (λ (z : Action). 1 ≤ resets_among (z ∷ rest)) is h.asked)
      by_action (Note item) is = later (subst (λ (z : Action). 1 ≤ resets_among (z ∷ rest)) is h.asked)
      by_action (CutChain label) is = later (subst (λ (z : Action). 1 ≤ resets_among (z ∷ rest)) is h.asked)
      by_action (TakeBack input output) is = later (subst (λ (z : Action). 1 ≤ resets_among (z ∷ rest)) is h.asked)
      by_action (Withdraw input) is = later (subst (λ (z : Action). 1 ≤ resets_among (z ∷ rest)) is h.asked)
      by_action Reset is = subst (λ (z : Action). Waits q rest (performs_in_estab q a z)) (sym is) (by_state is_reset_bound)
        where
          is_reset_bound : (performs_in_estab q a Reset).numbers.instances < 2 ^ 32
          is_reset_bound = subst (λ (z : Action). (performs_in_estab q a z).numbers.instances < 2 ^ 32) is f

          by_state : (performs_in_estab q a Reset).numbers.instances < 2 ^ 32 → Waits q rest (performs_in_estab q a Reset)
          by_state g = on_each (λ (b : Acted). b.numbers.instances < 2 ^ 32 → Waits q rest b) (is_estab a.controller.adjacency.state) (resets_port a q) a
              (λ up k. inl (reset_unspent a q sound k h.but)) (λ down k. inl (down_unspent setups a sound down)) g

  performed_unspent : (q : PortNo) (actions : List Action) (a : Acted) → IsSound setups a.controller → Every (IsAction setups) actions
      → (fold (performs_in_estab q) a actions).numbers.instances < 2 ^ 32 → Waits q actions a → Each Unspent (fold (performs_in_estab q) a actions)
  performed_unspent q [] a sound fit f (inl h) = h
  performed_unspent q [] a sound fit f (inr h) = absurd (omega (arith, h.asked))
  performed_unspent q (action ∷ actions) a sound fit f h =
      let next : Acted = performs_in_estab q a action in
      let rest : Goes Unspent next (fold (performs_in_estab q) next actions) = goes_fold Unspent unspent_closed (performs_in_estab q) (performed_goes Unspent unspent_closed q) actions next in
      let small : next.numbers.instances < 2 ^ 32 = omega (arith, f, rest.rises) in
      performed_unspent q actions next (moves_sound setups a next (performs_in_estab_goes setups q a action (has_ports setups a sound) fit.0) sound) fit.1 f (one_step q a action actions sound small h)

  -- *A port at work* is put back, and what it asked is done
  pub works_unspent : (a : Acted) (q : PortNo) (linked : Linked) (w : Work) → IsSound setups a.controller → linked_at a.controller q ≡ Some linked
      → Worked setups linked.setup a.controller.desk (begins a linked) w → IsUnspent w → HasReset w
      → (works_as a linked w).numbers.instances < 2 ^ 32 → Each Unspent a → Each Unspent (works_as a linked w)
  works_unspent a q linked w sound found worked unspent asked f h =
      let own : Found setups a linked = found_at_own setups a linked q found in
      let kept : IsWork setups linked.setup w = worked_kept setups linked.setup a.controller.desk (found_setup setups a linked linked.setup.port (has_ports setups a sound) own) (begins a linked) w worked
      (begun setups a linked q (has_ports setups a sound) found) in
      performed_unspent linked.setup.port w.actions (with_work a linked w) (moves_sound setups a (with_work a linked w) (moves_to (placing a linked w own worked)) sound) kept.actions f (by w.halted refl)
    where
      by : (b : Bool) → w.halted ≡ b → Waits linked.setup.port w.actions (with_work a linked w)
      by true e = inr (record {
        asked = asked.asked e;
        but = put_each port_key (Of Unspent) (Of (UnspentBut linked.setup.port)) (record linked { port = w.port }) (inr refl) (λ x n k. inl k) a.controller.ports (ports_apart setups a (has_ports setups a sound)) h;
      })
      by false e = inl (put_each port_key (Of Unspent) (Of Unspent) (record linked { port = w.port }) (unspent e) (λ x n k. k) a.controller.ports (ports_apart setups a (has_ports setups a sound)) h)
