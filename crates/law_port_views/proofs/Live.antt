-- what a port at work does while it isn't halted, and that it does nothing once it is

use Rattle.std.proofs.Common.{◌≡◌, Bool, true, false, List, [], ◌∷◌, ◌++◌, Option, None, Some, refl, sym, ◌∙◌, ap, subst, if◌then◌else◌}
use Rattle.std.specs.Prelude.{◌+◌, nat_lt}
use Rattle.std.specs.Option.{option_map}
use Rattle.law_port_facts.proofs.Keyed.{on_each}
use Rattle.law_port_facts.specs.port_model.declared.action.Action.{Action}
use Rattle.law_port_facts.specs.port_model.declared.action.Action.TheVariants.{Say, Reset}
use Rattle.law_port_facts.specs.port_model.Words.{Grant, Session, Work, halts, with_session, with_grants, Unnumbered, own_instance, tells_in, tells, halts_if_spent, spent_number, last_number, is_spent}
use Rattle.law_port_facts.specs.port_model.Port.{with_action}
use Rattle.law_port_facts.specs.port_model.Saying.{peer_instance, with_number, says}

module _ (P : Work → Type 0) where
  pub live_acts : (w : Work) (action : Action) → w.halted ≡ false → P (record w { actions = w.actions ++ action ∷ [] }) → P (with_action w action)
  live_acts w action live p = on_each P w.halted w (record w { actions = w.actions ++ action ∷ [] }) (λ t. absurd (cc (live, t))) (λ f. p)

  pub live_session : (w : Work) (s : Session) (change : Session → Session) → w.halted ≡ false → w.port.session ≡ Some s
      → P (record w { port = record w.port { session = Some (change s) } }) → P (with_session w change)
  live_session w s change live opened p = on_each P w.halted w (record w { port = record w.port { session = option_map change w.port.session } })
      (λ t. absurd (cc (live, t)))
      (λ f. subst (λ (o : Option Session). P (record w { port = record w.port { session = option_map change o } })) (sym opened) p)

  pub live_grants : (w : Work) (grants : List Grant) → w.halted ≡ false → P (record w { port = record w.port { grants = grants } }) → P (with_grants w grants)
  live_grants w grants live p = on_each P w.halted w (record w { port = record w.port { grants = grants } }) (λ t. absurd (cc (live, t))) (λ f. p)

-- *Halted*
if_true : {A : Type 0} (b : Bool) (x y : A) → b ≡ true → (if b then x else y) ≡ x
if_true b x y e = ap (λ (t : Bool). if t then x else y) e

pub idle_acts : (w : Work) (action : Action) → w.halted ≡ true → with_action w action ≡ w
idle_acts w action h = if_true w.halted w (record w { actions = w.actions ++ action ∷ [] }) h

pub idle_session : (w : Work) (change : Session → Session) → w.halted ≡ true → with_session w change ≡ w
idle_session w change h = if_true w.halted w (record w { port = record w.port { session = option_map change w.port.session } }) h

pub idle_grants : (w : Work) (grants : List Grant) → w.halted ≡ true → with_grants w grants ≡ w
idle_grants w grants h = if_true w.halted w (record w { port = record w.port { grants = grants } }) h

set_halted : (w : Work) → w.halted ≡ true → record w { halted = true } ≡ w
set_halted w h = ap (λ (b : Bool). record w { halted = b }) (sym h)

pub idle_halts : (w : Work) → w.halted ≡ true → halts w ≡ w
idle_halts w h = ap (λ (v : Work). record v { halted = true }) (idle_acts w Reset h) ∙ set_halted w h

pub idle_tells : (w : Work) (message : Unnumbered) → w.halted ≡ true → tells w message ≡ w
idle_tells w message h = told w.port.session
  where
    told : (o : Option Session) → tells_in w message o ≡ w
    told None = refl
    told (Some s) = on_each (λ (v : Work). v ≡ w) (nat_lt s.number last_number)
        (with_action (with_number (s.number + 1) w) (Say (message (own_instance w.port.adjacency) (peer_instance w.port.adjacency) s.number))) (with_number spent_number w)
        (λ t. ap (λ (v : Work). with_action v (Say (message (own_instance w.port.adjacency) (peer_instance w.port.adjacency) s.number))) (idle_session w (λ session. record session { number = s.number + 1 }) h)
        ∙ idle_acts w (Say (message (own_instance w.port.adjacency) (peer_instance w.port.adjacency) s.number)) h)
        (λ f. idle_session w (λ session. record session { number = spent_number }) h)

pub idle_closes : (w : Work) → w.halted ≡ true → halts_if_spent w ≡ w
idle_closes w h = on_each (λ (v : Work). v ≡ w) (is_spent w.port.session) (halts w) w (λ t. idle_halts w h) (λ f. refl)

pub idle_says : (w : Work) (message : Unnumbered) → w.halted ≡ true → says w message ≡ w
idle_says w message h = ap halts_if_spent (idle_tells w message h) ∙ idle_closes w h
