-- a message of the other end of a link, in agreement, at a port

use Rattle.std.proofs.Common.{◌≡◌, ◌⊎◌, inl, inr, ℕ, ◌<◌, ◌+◌, Bool, true, false, List, [], ◌∷◌, Some, refl, sym, ◌∙◌, ap, subst, arith}
use Rattle.std.specs.Prelude.{◌&&◌, ◌==◌, max, nat_eq, nat_le, nat_lt}
use Rattle.std.specs.Option.{option_map_or}
use Rattle.std.proofs.lemmas.Bool.{eq-eqb}
use Rattle.std.proofs.lemmas.Bool.Decides.{nat_tests}
use Rattle.live_model.specs.world_model.Words.{Addr, Ack, Peer, Side, hello_of, Redirect, label_channel_of, same_peer, at, put, Desk, Setup, is_in_range, Label, label_number, labels_of, Grant, grant_label, Session, Work, last_number, takes, hears}
use Rattle.live_model.specs.world_model.ifmp_wire.declared.message.Message.{Message}
use Rattle.live_model.specs.world_model.ifmp_wire.declared.message.Message.TheVariants.{Adjacency}
use Rattle.live_model.specs.world_model.port_model.Port.{Port}
use Rattle.live_model.specs.Met.{HaveMet}
use Rattle.law_port_facts.specs.ordered_lists.Ordered.{Every}
use Rattle.law_port_facts.proofs.ordered_lists.Every.{every_map}
use Rattle.law_port_facts.proofs.Keyed.{at_key, at_every}
use Rattle.law_live_labels.specs.Law.{IsTaken, accepted}
use Rattle.law_live_labels.proofs.Agreed.{grants_are_refreshed}
use Rattle.law_live_greetings.specs.Law.{WaitsForNone}
use Rattle.law_live_greetings.proofs.Heard.{ports_hear_acks}
use Rattle.law_live_links.specs.Law.{EndOfLink, number_of, IsGreeting, IsRefresh, LeadOn, IsHeld, AreAgreed, working, hearing}
use Rattle.law_live_links.proofs.Resting.{end_in, by_session}
use Rattle.law_live_joining.proofs.Keeping.{KeepsPort}
use Rattle.law_live_joining.proofs.Ports.{regranted, IsKind}

number : (n : ℕ) → nat_eq n n ≡ true
number n = eq-eqb n n refl

both : (x y : Bool) → x ≡ true → y ≡ true → (x && y) ≡ true
both true y p q = q
both false y p q = absurd (cc p)

module _ (desk : Desk) (instances : ℕ) (setup : Setup) (side : Side Peer) (tally : ℕ) (s : Session) (grants : List Grant) (said : List Message)
    (far_setup : Setup) (far_port : Port) (message : Message) (rest : List Message) where
  abbrev one : EndOfLink
  one = end_in setup side tally s grants said

  abbrev other : EndOfLink
  other = record { setup = far_setup; port = far_port; said = message ∷ rest }

  abbrev source : Addr
  source = far_port.adjacency.own.address

  abbrev far_labels : List Label
  far_labels = labels_of far_port

  abbrev quiet_work : Port → Work
  quiet_work port = record { port = port; actions = []; halted = false; instances = instances }

  abbrev IsHeardKindly : Type 0
  IsHeardKindly = IsKind one.port (hearing desk instances source one message)

  kindly : (port : Port) → hearing desk instances source one message ≡ quiet_work port → KeepsPort one.port port → IsHeardKindly
  kindly port is keeps = subst (IsKind one.port) (sym is) (record { plain = tt; keeps = keeps })

  module _ (agreed : AreAgreed one other) where
    abbrev met : HaveMet side far_port.adjacency
    met = agreed.met

    -- *A greeting*
    greeting_kind : IsGreeting far_port.adjacency.own side.own message → IsHeardKindly
    greeting_kind greeting = kindly greeted_port greeted (record { joined = λ k what h. h; lent = λ k what h. h })
      where
        greeted_port : Port
        greeted_port = record { adjacency = record side { silence = 0 }; session = Some (record s { known = max s.known greeting.expected }); grants = grants; redirects = tally }

        waits : Every (λ (label : Label). WaitsForNone label.state) s.labels
        waits = every_map (IsHeld setup.timers far_setup far_port.grants said) (λ (label : Label). WaitsForNone label.state) s.labels
            (λ label held. subst WaitsForNone (sym held.offered) tt) agreed.there.labels

        greeted : hearing desk instances source one message ≡ quiet_work greeted_port
        greeted = ap (λ m. hears setup desk (working instances one) source m)
            (greeting.is ∙ ap (λ stored. Adjacency (hello_of greeting.expected (record { kind = Ack; sender = far_port.adjacency.own; receiver = stored }))) (sym met.other_knows))
            ∙ ports_hear_acks setup desk (working instances one) s far_port.adjacency greeting.expected refl refl met waits

    -- *A REDIRECT*
    module _ (refresh : IsRefresh far_port.adjacency.own side.own far_setup.timers far_labels s.expected message) where
      abbrev lifetime : ℕ
      lifetime = far_setup.timers.lifetime

      held_here : IsHeld far_setup.timers setup grants (message ∷ rest) refresh.label
      held_here = at_every label_number (IsHeld far_setup.timers setup grants (message ∷ rest)) refresh.label.number far_labels refresh.label agreed.back.labels refresh.held

      abbrev grant : Grant
      grant = held_here.grant

      same_label : grant.label ≡ refresh.label.number
      same_label = at_key grant_label refresh.label.number grants grant held_here.granted

      granted : at grant_label grant.label grants ≡ Some grant
      granted = ap (λ k. at grant_label k grants) same_label ∙ held_here.granted

      abbrev renewed : Grant
      renewed = record grant { lifetime = lifetime }

      peer_itself : (x : Peer) → same_peer x x ≡ true
      peer_itself x = both (x.instance.0 == x.instance.0) (x.address.0 == x.address.0) (number x.instance.0) (number x.address.0)

      taken : takes one.port source far_port.adjacency.own.instance side.own.instance s.expected ≡ true
      taken = both (option_map_or (same_peer far_port.adjacency.own) side.stored false && (side.own.instance.0 == side.own.instance.0)) (nat_le s.expected s.expected && nat_lt s.expected last_number)
          (both (option_map_or (same_peer far_port.adjacency.own) side.stored false) (side.own.instance.0 == side.own.instance.0)
          (ap (λ stored. option_map_or (same_peer far_port.adjacency.own) stored false) met.one_knows ∙ peer_itself far_port.adjacency.own) (number side.own.instance.0))
          (both (nat_le s.expected s.expected) (nat_lt s.expected last_number) (at_most s.expected) (below s.expected last_number refresh.number_left))
        where
          at_most : (n : ℕ) → nat_le n n ≡ true
          at_most n = grind (arith, nat_tests)

          below : (m n : ℕ) → m < n → nat_lt m n ≡ true
          below m n h = grind (arith, nat_tests)

      is_taken : IsTaken setup (working instances one) s source far_port.adjacency.own.instance side.own.instance s.expected grant.label
      is_taken = record {
        working = record { of_link = agreed.one_end.of_link; going = refl; is_open = refl };
        taken = taken;
        in_range = ap (is_in_range setup) same_label ∙ held_here.in_range;
      }

      abbrev renewed_port : Port
      renewed_port = accepted (working instances one) s s.expected (put grant_label renewed grants)

      refreshed : hearing desk instances source one message ≡ quiet_work renewed_port
      refreshed = ap (λ m. hears setup desk (working instances one) source m)
          (refresh.is ∙ (ap (λ n. Redirect far_port.adjacency.own.instance side.own.instance s.expected lifetime (label_channel_of n) refresh.label.flow) (sym same_label)
          ∙ ap (λ f. Redirect far_port.adjacency.own.instance side.own.instance s.expected lifetime (label_channel_of grant.label) f) (sym held_here.same_flow)))
          ∙ grants_are_refreshed setup desk (working instances one) s source far_port.adjacency.own.instance side.own.instance s.expected lifetime grant is_taken granted held_here.stays

      refresh_kind : IsHeardKindly
      refresh_kind = kindly renewed_port refreshed (record { joined = λ k what h. h; lent = λ k what h. regranted one.port grant renewed granted refl k what h })

    pub first_kind : IsHeardKindly
    first_kind = by agreed.back.numbers
      where
        by : (IsGreeting far_port.adjacency.own side.own message × LeadOn far_port.adjacency.own side.own far_setup.timers far_labels s.expected (number_of far_port) rest)
            ⊎ (IsRefresh far_port.adjacency.own side.own far_setup.timers far_labels s.expected message × LeadOn far_port.adjacency.own side.own far_setup.timers far_labels (s.expected + 1) (number_of far_port) rest)
            → IsHeardKindly
        by (inl greets) = greeting_kind greets.0
        by (inr tells) = refresh_kind tells.0

-- *What it hears first* of the other end
pub hearing_kind : (desk : Desk) (instances : ℕ) (one other : EndOfLink) (message : Message) (rest : List Message) → AreAgreed one other → other.said ≡ message ∷ rest
    → IsKind one.port (hearing desk instances other.port.adjacency.own.address one message)
hearing_kind desk instances one other message rest agreed first =
    by_session (λ (x : EndOfLink). AreAgreed x other → IsKind x.port (hearing desk instances other.port.adjacency.own.address x message)) each one agreed.one_end.in_session agreed
  where
    each : (setup : Setup) (side : Side Peer) (tally : ℕ) (s : Session) (grants : List Grant) (said : List Message)
        → AreAgreed (end_in setup side tally s grants said) other → IsKind (end_in setup side tally s grants said).port (hearing desk instances other.port.adjacency.own.address (end_in setup side tally s grants said) message)
    each setup side tally s grants said = subst (λ (y : EndOfLink). AreAgreed (end_in setup side tally s grants said) y → IsKind (end_in setup side tally s grants said).port (hearing desk instances y.port.adjacency.own.address (end_in setup side tally s grants said) message))
        (λ i. record { setup = other.setup; port = other.port; said = sym first i })
        (first_kind desk instances setup side tally s grants said other.setup other.port message rest)
