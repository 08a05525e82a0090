-- What a tick leaves of a port that hears its peer, and whose labels and grants are all in use

use Rattle.std.specs.Prelude.{◌≡◌, ℕ, ◌+◌, ◌-◌, ◌≤◌, ◌<◌, Bool, false, true, not, ◌||◌, nat_le, List, [], ◌∷◌, ◌++◌, length, map, is_none, Some, if◌then◌else◌}
use Rattle.port_model.specs.Words.{Instance, Ack, Estab, hello_of, said, silence_limit, Desk, Setup, Grant, grant_label, is_leaving, Label, Offered, label_number, Session, Work, last_number, own_instance, redirect, one_idler, one_older}
use Rattle.port_model.specs.declared.action.Action.{Action}
use Rattle.port_model.specs.declared.action.Action.TheVariants.{Say}
use Rattle.port_model.specs.ifmp_wire.declared.message.Message.TheVariants.{Adjacency}
use Rattle.port_model.specs.Counts.{window_moved}
use Rattle.port_model.specs.Port.{Port}
use Rattle.port_model.specs.Saying.{peer_instance}
use Rattle.port_model.specs.Ticks.{ticks}
use Rattle.law_port_facts.specs.ordered_lists.Ordered.{Every, InOrder}

-- *A label is kept*: it is offered, and joined or in use as the policy wants
abbrev pub is_kept : Setup → Label → Bool
is_kept setup label = not (is_none label.join) || setup.policy.keeps label.flow (one_idler label).idle

pub record IsKept (setup : Setup) (label : Label) : Type 0 where
  pub offered : label.state ≡ Offered
  pub kept : is_kept setup label ≡ true

-- *A grant lasts*: it isn't leaving, and has two ticks left at least
pub record Lasts (grant : Grant) : Type 0 where
  pub stays : is_leaving grant.state ≡ false
  pub left : 2 ≤ grant.lifetime

-- *A port at peace*, at work in this session
pub record IsAtPeace (setup : Setup) (w : Work) (s : Session) : Type 0 where
  pub going : w.halted ≡ false
  pub up : w.port.adjacency.state ≡ Estab
  pub heard : w.port.adjacency.silence < silence_limit
  pub is_open : w.port.session ≡ Some s
  pub labels : Every (IsKept setup) s.labels
  pub labels_apart : InOrder (λ (a b : Label). label_number a < label_number b) s.labels
  pub grants : Every Lasts w.port.grants
  pub grants_apart : InOrder (λ (a b : Grant). grant_label a ≡ grant_label b → ⊥) w.port.grants
  pub numbers : s.number + length s.labels ≤ last_number

-- *What a tick leaves*: of a grant one tick less; a label is older, and idler where it isn't joined; one whose REDIRECT is due is
-- told anew
abbrev pub shorter : Grant → Grant
shorter grant = record grant { lifetime = grant.lifetime - 1 }

abbrev pub aged : Label → Label
aged label = one_older (if is_none label.join then one_idler label else label)

abbrev pub is_due : Setup → Label → Bool
is_due setup label = nat_le setup.timers.refresh (aged label).ticks

abbrev pub told_anew : Setup → Label → Label
told_anew setup label = if is_due setup label then record (aged label) { ticks = 0 } else aged label

-- the REDIRECTs that are due, in the order of the labels, under numbers from this one on
abbrev pub redirects : Setup → (own peer : Instance) → (number : ℕ) → List Label → List Action
redirects setup own peer number [] = []
redirects setup own peer number (label ∷ labels) =
    if is_due setup label
    then Say (redirect setup label own peer number) ∷ redirects setup own peer (number + 1) labels
    else redirects setup own peer number labels

abbrev pub redirects_of : Setup → Work → Session → List Action
redirects_of setup w s = redirects setup (own_instance w.port.adjacency) (peer_instance w.port.adjacency) s.number s.labels

-- the session
abbrev pub next_session : Setup → Work → Session → Session
next_session setup w s = record s {
  number = s.number + length (redirects_of setup w s);
  labels = map (told_anew setup) s.labels;
  counted = window_moved setup.timers.window s.counted;
}

abbrev pub next_port : Setup → Work → Session → Port
next_port setup w s = record w.port {
  adjacency = record w.port.adjacency { silence = w.port.adjacency.silence + 1 };
  session = Some (next_session setup w s);
  grants = map shorter w.port.grants;
}

-- the whole: it greets its peer first
abbrev pub ticked_on : Setup → Work → Session → Work
ticked_on setup w s = record w {
  port = next_port setup w s;
  actions = w.actions ++ Say (Adjacency (hello_of s.expected (said w.port.adjacency Ack))) ∷ redirects_of setup w s;
}

abbrev pub PortsTickOn : Type 0
PortsTickOn = (setup : Setup) (desk : Desk) (w : Work) (s : Session) → IsAtPeace setup w s → ticks setup desk w ≡ ticked_on setup w s
