-- two ends that agree bind, and agree again at rest

use Rattle.std.proofs.Common.{◌≡◌, ℕ, ◌<◌, true, List, [], subst, arith, ◌⊎◌, inl, inr}
use Rattle.live_model.specs.world_model.Words.{Timers, Setup, is_in_range, Label, Wiring, Offered, label_number, labels_of, Grant}
use Rattle.live_model.specs.world_model.ifmp_wire.declared.message.Message.{Message}
use Rattle.law_port_facts.specs.ordered_lists.Ordered.{InOrder}
use Rattle.law_port_facts.proofs.ordered_lists.Every.{every_all, every_map, every_map2}
use Rattle.law_port_facts.proofs.ordered_lists.InOrder.{order_map}
use Rattle.law_live_links.specs.Law.{EndOfLink, IsToldAnew, IsHeld, Agree}
use Rattle.law_live_bindings.specs.Law.{IsHeldOrNew, AgreeBinding, AreBinding, NoneIsWiring, AgreedEndsBind, BindingsAreAgreed}

-- *A label that is held or new* is in the other end's range, and labels that ascend differ
pub in_range_of : {timers : Timers} {taker : Setup} {grants : List Grant} {said : List Message} (label : Label) → IsHeldOrNew timers taker grants said label
    → is_in_range taker label.number ≡ true
in_range_of label (inl held) = held.in_range
in_range_of label (inr new) = new.in_range

pub labels_differ : (labels : List Label) → InOrder (λ (a b : Label). label_number a < label_number b) labels → InOrder (λ (a b : Label). label_number a ≡ label_number b → ⊥) labels
labels_differ labels ascending =
    order_map (λ (a b : Label). label_number a < label_number b) (λ (a b : Label). label_number a ≡ label_number b → ⊥) (λ (a : Label). Unit {0}) labels
    (λ a b p q below same. differ (label_number a) (label_number b) below same) (every_all (λ (a : Label). Unit {0}) labels (λ a. tt)) ascending
  where
    differ : (m n : ℕ) → m < n → m ≡ n → ⊥
    differ m n below same = omega (arith, below, same)

binds : (giver taker : EndOfLink) → Agree giver taker → AgreeBinding giver taker
binds giver taker agree = record {
  numbers = agree.numbers;
  labels = every_map (IsHeld giver.setup.timers taker.setup taker.port.grants giver.said) (IsHeldOrNew giver.setup.timers taker.setup taker.port.grants giver.said)
      (labels_of giver.port) (λ label held. inl held) agree.labels;
  grants = agree.grants;
  heard = agree.heard;
}

pub agreed_ends_bind : AgreedEndsBind
agreed_ends_bind one other agreed = record {
  met = agreed.met;
  one_end = agreed.one_end;
  other_end = agreed.other_end;
  there = binds one other agreed.there;
  back = binds other one agreed.back;
}

agrees : (giver taker : EndOfLink) → giver.said ≡ [] → NoneIsWiring giver → AgreeBinding giver taker → Agree giver taker
agrees giver taker quiet done bind = record {
  numbers = bind.numbers;
  labels = every_map2 (IsHeldOrNew giver.setup.timers taker.setup taker.port.grants giver.said) (λ (label : Label). label.state ≡ Wiring → ⊥)
      (IsHeld giver.setup.timers taker.setup taker.port.grants giver.said) (labels_of giver.port) both_hold bind.labels done;
  grants = bind.grants;
  heard = bind.heard;
}
  where
    both_hold : (label : Label) → IsHeldOrNew giver.setup.timers taker.setup taker.port.grants giver.said label → (label.state ≡ Wiring → ⊥)
        → IsHeld giver.setup.timers taker.setup taker.port.grants giver.said label
    both_hold label (inl held) made = held
    both_hold label (inr new) made = absurd (by new.comes)
      where
        by : ((label.state ≡ Wiring) × (IsToldAnew label.number giver.said → ⊥)) ⊎ ((label.state ≡ Offered) × IsToldAnew label.number giver.said) → ⊥
        by (inl wires) = made wires.0
        by (inr tells) = subst (IsToldAnew label.number) quiet tells.1

pub bindings_are_agreed : BindingsAreAgreed
bindings_are_agreed one other binding one_quiet other_quiet one_done other_done = record {
  agreed = record {
    met = binding.met;
    one_end = binding.one_end;
    other_end = binding.other_end;
    there = agrees one other one_quiet one_done binding.there;
    back = agrees other one other_quiet other_done binding.back;
  };
  one_is_heard = one_quiet;
  other_is_heard = other_quiet;
}

-- *Either way*
pub swapped : {one other : EndOfLink} → AreBinding one other → AreBinding other one
swapped b = record {
  met = record { one_is_up = b.met.other_is_up; other_is_up = b.met.one_is_up; one_knows = b.met.other_knows; other_knows = b.met.one_knows };
  one_end = b.other_end;
  other_end = b.one_end;
  there = b.back;
  back = b.there;
}
