-- what is found after a step: a label or a grant that was there, and the session

use Rattle.std.proofs.Common.{◌≡◌, ℕ, Bool, true, false, List, [], ◌∷◌, ◌++◌, Option, None, Some, refl, sym, ◌∙◌, ap, subst, if◌then◌else◌}
use Rattle.std.specs.Prelude.{find, filter, nat_lt, ◌+◌}
use Rattle.std.specs.Option.{option_map, option_map_or}
use Rattle.port_model.specs.Words.{End, at, put, Label, label_number, Grant, grant_label, Session, Work, halts, with_session, with_label, with_grant, label_at, labels_of, Unnumbered, last_number, own_instance, tells_in, tells, halts_if_spent, is_spent, spent_number}
use Rattle.ordered_lists.specs.Ordered.{Every}
use Rattle.port_model.specs.declared.action.Action.{Action}
use Rattle.port_model.specs.declared.action.Action.TheVariants.{Say, Reset}
use Rattle.port_model.specs.Grants.{lent_input}
use Rattle.port_model.specs.Port.{Port, with_action}
use Rattle.port_model.specs.Saying.{peer_instance, says}
use Rattle.law_port_facts.proofs.Steps.{HeldFlow}
use Rattle.law_port_facts.proofs.Keyed.{on_both, at_key, at_put_same}

-- the first that passes a test does, and is in the list
pub find_passes : {A : Type 0} (test : A → Bool) (xs : List A) (x : A) → find test xs ≡ Some x → test x ≡ true
find_passes test [] x e = absurd (cc e)
find_passes test (z ∷ xs) x e = elim (test z) as (λ t. test z ≡ t → (if t then Some z else find test xs) ≡ Some x → test x ≡ true) [
  | true ↦ λ t h. (let same : z ≡ x = cc in subst (λ y. test y ≡ true) same t)
  | false ↦ λ t h. find_passes test xs x h
] refl e

pub find_every : {A : Type 0} (P : A → Type 0) (test : A → Bool) (xs : List A) (x : A) → Every P xs → find test xs ≡ Some x → P x
find_every P test [] x h e = absurd (cc e)
find_every P test (z ∷ xs) x h e = elim (test z) as (λ t. (if t then Some z else find test xs) ≡ Some x → P x) [
  | true ↦ λ e. (let same : z ≡ x = cc in subst P same h.0)
  | false ↦ λ e. find_every P test xs x h.1 e
] e

pub filter_passes : {A : Type 0} (test : A → Bool) (xs : List A) → Every (λ x. test x ≡ true) (filter test xs)
filter_passes test [] = tt
filter_passes test (x ∷ xs) = elim (test x) as (λ t. test x ≡ t → Every (λ x. test x ≡ true) (if t then x ∷ filter test xs else filter test xs)) [
  | true ↦ λ t. (t, filter_passes test xs)
  | false ↦ λ t. filter_passes test xs
] refl

-- a label by its own number, a grant by its own label
pub by_number : (port : Port) (number : ℕ) (label : Label) → label_at port number ≡ Some label → label_at port label.number ≡ Some label
by_number port number label e = subst (λ n. label_at port n ≡ Some label) (sym (at_key label_number number (labels_of port) label e)) e

pub by_label : (grants : List Grant) (k : ℕ) (grant : Grant) → at grant_label k grants ≡ Some grant → at grant_label grant.label grants ≡ Some grant
by_label grants k grant e = subst (λ n. at grant_label n grants ≡ Some grant) (sym (at_key grant_label k grants grant e)) e

-- *A label that is put in the place of another*: one with its join is found
pub record Held (port : Port) (number : ℕ) (join : Option End) : Type 0 where
  pub label : Label
  pub found : label_at port number ≡ Some label
  pub same : label.join ≡ join

pub still_held : (w : Work) (before after : Label) → label_at w.port after.number ≡ Some before → before.join ≡ after.join
    → Held (with_label w after).port after.number after.join
still_held w before after e same = on_both (λ (v : Work). Held v.port after.number after.join) w.halted w
    (record w { port = record w.port { session = option_map (λ (s : Session). record s { labels = put label_number after s.labels }) w.port.session } })
    (record { label = before; found = e; same = same })
    (record { label = after; found = placed w.port.session e; same = refl })
  where
    placed : (o : Option Session) → label_at (record w.port { session = o }) after.number ≡ Some before
        → label_at (record w.port { session = option_map (λ (s : Session). record s { labels = put label_number after s.labels }) o }) after.number ≡ Some after
    placed None e = absurd (cc e)
    placed (Some s) e = at_put_same label_number after s.labels before e

-- and one with its flow
pub still_flow : (w : Work) (before after : Label) → label_at w.port after.number ≡ Some before → before.flow ≡ after.flow → HeldFlow (with_label w after).port after.number after.flow
still_flow w before after e same = on_both (λ (v : Work). HeldFlow v.port after.number after.flow) w.halted w
    (record w { port = record w.port { session = option_map (λ (s : Session). record s { labels = put label_number after s.labels }) w.port.session } })
    (record { held = before; found = e; same = same })
    (record { held = after; found = placed w.port.session e; same = refl })
  where
    placed : (o : Option Session) → label_at (record w.port { session = o }) after.number ≡ Some before
        → label_at (record w.port { session = option_map (λ (s : Session). record s { labels = put label_number after s.labels }) o }) after.number ≡ Some after
    placed None e = absurd (cc e)
    placed (Some s) e = at_put_same label_number after s.labels before e

-- *What is done to a port that acts, says or is halted*
pub acts_port : (w : Work) (action : Action) → (with_action w action).port ≡ w.port
acts_port w action = on_both (λ (v : Work). v.port ≡ w.port) w.halted w (record w { actions = w.actions ++ action ∷ [] }) refl refl

pub halts_port : (w : Work) → (halts w).port ≡ w.port
halts_port w = acts_port w Reset

pub closes_port : (w : Work) → (halts_if_spent w).port ≡ w.port
closes_port w = on_both (λ (v : Work). v.port ≡ w.port) (is_spent w.port.session) (halts w) w (halts_port w) refl

-- a change of the session that keeps its labels
pub session_labels : (w : Work) (change : Session → Session) → ((s : Session) → (change s).labels ≡ s.labels) → labels_of (with_session w change).port ≡ labels_of w.port
session_labels w change same = on_both (λ (v : Work). labels_of v.port ≡ labels_of w.port) w.halted w
    (record w { port = record w.port { session = option_map change w.port.session } }) refl (changed w.port.session)
  where
    changed : (o : Option Session) → option_map_or (λ (s : Session). s.labels) (option_map change o) [] ≡ option_map_or (λ (s : Session). s.labels) o []
    changed None = refl
    changed (Some s) = same s

pub session_grants : (w : Work) (change : Session → Session) → (with_session w change).port.grants ≡ w.port.grants
session_grants w change = on_both (λ (v : Work). v.port.grants ≡ w.port.grants) w.halted w
    (record w { port = record w.port { session = option_map change w.port.session } }) refl refl

pub tells_labels : (w : Work) (message : Unnumbered) → labels_of (tells w message).port ≡ labels_of w.port
tells_labels w message = told w.port.session
  where
    told : (o : Option Session) → labels_of (tells_in w message o).port ≡ labels_of w.port
    told None = refl
    told (Some s) =
        let next : Work = with_session w (λ session. record session { number = s.number + 1 }) in
        let spent : Work = with_session w (λ session. record session { number = spent_number }) in
        on_both (λ (v : Work). labels_of v.port ≡ labels_of w.port) (nat_lt s.number last_number) (with_action next (Say (message (own_instance w.port.adjacency) (peer_instance w.port.adjacency) s.number))) spent
        (ap labels_of (acts_port next (Say (message (own_instance w.port.adjacency) (peer_instance w.port.adjacency) s.number))) ∙ session_labels w (λ session. record session { number = s.number + 1 }) (λ s. refl))
        (session_labels w (λ session. record session { number = spent_number }) (λ s. refl))

pub says_labels : (w : Work) (message : Unnumbered) → labels_of (says w message).port ≡ labels_of w.port
says_labels w message = ap labels_of (closes_port (tells w message)) ∙ tells_labels w message

-- a label that was held is held with its join once something is said
pub said_held : (w : Work) (message : Unnumbered) (number : ℕ) (join : Option End) → Held w.port number join → Held (says w message).port number join
said_held w message number join h = record {
  label = h.label;
  found = subst (λ (ls : List Label). at label_number number ls ≡ Some h.label) (sym (says_labels w message)) h.found;
  same = h.same;
}

-- *A grant that is put in the place of another*: one with its input is found
pub record Granted (grants : List Grant) (label : ℕ) (input : Option End) : Type 0 where
  pub grant : Grant
  pub found : at grant_label label grants ≡ Some grant
  pub same : lent_input grant.state ≡ input

pub still_granted : (w : Work) (before after : Grant) → at grant_label after.label w.port.grants ≡ Some before → lent_input before.state ≡ lent_input after.state
    → Granted (with_grant w after).port.grants after.label (lent_input after.state)
still_granted w before after e same = on_both (λ (v : Work). Granted v.port.grants after.label (lent_input after.state)) w.halted w
    (record w { port = record w.port { grants = put grant_label after w.port.grants } })
    (record { grant = before; found = e; same = same })
    (record { grant = after; found = at_put_same grant_label after w.port.grants before e; same = refl })
