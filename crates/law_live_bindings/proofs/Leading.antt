-- what is on its way, once labels change or one message more is said

use Rattle.std.proofs.Common.{◌≡◌, ℕ, ◌+◌, List, [], ◌∷◌, ◌++◌, None, Some, sym, ◌∙◌, ap, subst, inl, inr}
use Rattle.live_model.specs.world_model.Words.{Peer, Timers, label_channel_of, label_number_of, at, Redirect, Label, label_number}
use Rattle.live_model.specs.world_model.ifmp_wire.declared.message.Message.{Message}
use Rattle.law_port_facts.proofs.Keyed.{at_key}
use Rattle.law_live_links.specs.Law.{IsGreeting, IsRefresh, LeadOn, IsOf, IsToldAnew}

-- *A label of the same number and flow* is found
pub record FindsSame (after : List Label) (label : Label) : Type 0 where
  pub found : Label
  pub there : at label_number label.number after ≡ Some found
  pub same_flow : found.flow ≡ label.flow

module _ (from to : Peer) (timers : Timers) where
  -- with other labels, among which each is found that was held
  pub lead_found : (labels after : List Label) → ((label : Label) → at label_number label.number labels ≡ Some label → FindsSame after label)
      → (number next : ℕ) (said : List Message) → LeadOn from to timers labels number next said → LeadOn from to timers after number next said
  lead_found labels after finds number next [] leads = leads
  lead_found labels after finds number next (message ∷ said) (inl greets) = inl (greets.0, lead_found labels after finds number next said greets.1)
  lead_found labels after finds number next (message ∷ said) (inr tells) = inr (refresh, lead_found labels after finds (number + 1) next said tells.1)
    where
      old : IsRefresh from to timers labels number message
      old = tells.0

      now : FindsSame after old.label
      now = finds old.label old.held

      same_number : now.found.number ≡ old.label.number
      same_number = at_key label_number old.label.number after now.found now.there

      refresh : IsRefresh from to timers after number message
      refresh = record {
        label = now.found;
        held = ap (λ k. at label_number k after) same_number ∙ now.there;
        number_left = old.number_left;
        is = old.is ∙ (ap (λ n. Redirect from.instance to.instance number timers.lifetime (label_channel_of n) old.label.flow) (sym same_number)
            ∙ ap (λ f. Redirect from.instance to.instance number timers.lifetime (label_channel_of now.found.number) f) (sym now.same_flow));
      }

  -- with a REDIRECT more behind it
  pub lead_more : (labels : List Label) (number next : ℕ) (said : List Message) (message : Message) → LeadOn from to timers labels number next said
      → IsRefresh from to timers labels next message → LeadOn from to timers labels number (next + 1) (said ++ message ∷ [])
  lead_more labels number next [] message leads refresh = inr (subst (λ n. IsRefresh from to timers labels n message) (sym leads) refresh, ap (λ n. n + 1) leads)
  lead_more labels number next (first ∷ said) message (inl greets) refresh = inl (greets.0, lead_more labels number next said message greets.1 refresh)
  lead_more labels number next (first ∷ said) message (inr tells) refresh = inr (tells.0, lead_more labels (number + 1) next said message tells.1 refresh)

  -- of a label that isn't held nothing is on its way, where each that is held is known by its channel
  module _ (labels : List Label) (known : (label : Label) → at label_number label.number labels ≡ Some label → label_number_of (label_channel_of label.number) ≡ Some label.number)
      (k : ℕ) (none : at label_number k labels ≡ None) where
    pub none_told : (number next : ℕ) (said : List Message) → LeadOn from to timers labels number next said → IsToldAnew k said → ⊥
    none_told number next [] leads told = told
    none_told number next (message ∷ said) (inl greets) (inl of_it) = of_none greets.0
      where
        of_none : IsGreeting from to message → ⊥
        of_none greeting = subst (IsOf k) greeting.is of_it
    none_told number next (message ∷ said) (inl greets) (inr told) = none_told number next said greets.1 told
    none_told number next (message ∷ said) (inr tells) (inl of_it) = of_none tells.0
      where
        one_number : (m n : ℕ) → Some m ≡ Some n → m ≡ n
        one_number m n e = cc

        of_none : IsRefresh from to timers labels number message → ⊥
        of_none refresh = absurd (cc (sym none ∙ (ap (λ n. at label_number n labels) (sym same) ∙ refresh.held)))
          where
            same : refresh.label.number ≡ k
            same = one_number refresh.label.number k (sym (known refresh.label refresh.held) ∙ subst (IsOf k) refresh.is of_it)
    none_told number next (message ∷ said) (inr tells) (inr told) = none_told (number + 1) next said tells.1 told

-- *Of this label* a REDIRECT is on its way, with more behind it, and with one message more
module _ (k : ℕ) where
  pub told_more : (said more : List Message) → IsToldAnew k said → IsToldAnew k (said ++ more)
  told_more [] more told = absurd told
  told_more (message ∷ said) more (inl of_it) = inl of_it
  told_more (message ∷ said) more (inr told) = inr (told_more said more told)

  pub told_last : (said : List Message) (last : Message) → IsOf k last → IsToldAnew k (said ++ last ∷ [])
  told_last [] last of_it = inl of_it
  told_last (message ∷ said) last of_it = inr (told_last said last of_it)

  pub told_before : (said : List Message) (last : Message) → (IsOf k last → ⊥) → IsToldAnew k (said ++ last ∷ []) → IsToldAnew k said
  told_before [] last other (inl of_it) = other of_it
  told_before [] last other (inr told) = told
  told_before (message ∷ said) last other (inl of_it) = inl of_it
  told_before (message ∷ said) last other (inr told) = inr (told_before said last other told)
