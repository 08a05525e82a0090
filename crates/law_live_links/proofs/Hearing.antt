-- what is on its way to an end is heard

use Rattle.std.proofs.Common.{◌≡◌, ℕ, ◌≤◌, ◌<◌, ◌+◌, Bool, true, false, List, [], ◌∷◌, append-nil, Some, refl, sym, ◌∙◌, ap, subst, arith, ◌⊎◌, inl, inr}
use Rattle.std.specs.Prelude.{◌&&◌, ◌==◌, max, nat_eq, nat_le, nat_lt, is_some}
use Rattle.std.specs.Option.{option_map_or}
use Rattle.std.proofs.lemmas.Bool.{eq-eqb}
use Rattle.std.proofs.lemmas.Bool.Decides.{nat_tests}
use Rattle.live_model.specs.world_model.Words.{Addr, Ack, Peer, Side, same_peer, hello_of, label_channel_of, at, put, Redirect, Desk, Setup, is_in_range, Label, label_number, labels_of, Grant, grant_label, Session, Work, last_number, takes, hears}
use Rattle.live_model.specs.world_model.ifmp_wire.declared.message.Message.{Message}
use Rattle.live_model.specs.world_model.ifmp_wire.declared.message.Message.TheVariants.{Adjacency}
use Rattle.live_model.specs.world_model.port_model.Port.{Port}
use Rattle.live_model.specs.Met.{HaveMet}
use Rattle.law_port_facts.specs.ordered_lists.Ordered.{Every}
use Rattle.law_port_facts.proofs.ordered_lists.Every.{every_map}
use Rattle.law_port_facts.proofs.Keyed.{at_key, at_every, at_put_same, at_put_other, by_eq, put_every, put_order}
use Rattle.law_live_labels.specs.Law.{IsTaken, accepted}
use Rattle.law_live_labels.proofs.Agreed.{in_range_number, grants_are_refreshed}
use Rattle.law_live_greetings.specs.Law.{WaitsForNone}
use Rattle.law_live_greetings.proofs.Heard.{ports_hear_acks}
use Rattle.law_live_links.specs.Law.{EndOfLink, number_of, IsGreeting, IsRefresh, LeadOn, IsOf, IsToldAnew, IsHeld, IsEnd, AreAgreed, working, left_by, hearing, HearsOn, HearingKeepsAgreement}
use Rattle.law_live_links.proofs.Resting.{end_in, by_session}

number : (n : ℕ) → nat_eq n n ≡ true
number n = eq-eqb n n refl

both : (x y : Bool) → x ≡ true → y ≡ true → (x && y) ≡ true
both true y p q = q
both false y p q = absurd (cc p)

module _ (desk : Desk) (instances : ℕ) (setup : Setup) (side : Side Peer) (tally : ℕ) (s : Session) (grants : List Grant) (said : List Message)
    (far_setup : Setup) (far_port : Port) (message : Message) (rest : List Message) where
  abbrev one : EndOfLink
  one = end_in setup side tally s grants said

  abbrev other : EndOfLink
  other = record { setup = far_setup; port = far_port; said = message ∷ rest }

  abbrev other_then : EndOfLink
  other_then = record { setup = far_setup; port = far_port; said = rest }

  abbrev source : Addr
  source = far_port.adjacency.own.address

  abbrev far_labels : List Label
  far_labels = labels_of far_port

  -- *What is left of a port* that asks and says nothing
  abbrev quiet_work : Port → Work
  quiet_work port = record { port = port; actions = []; halted = false; instances = instances }

  abbrev one_then : Port → EndOfLink
  one_then port = record { setup = setup; port = port; said = said }

  hears_on : (port : Port) → hearing desk instances source one message ≡ quiet_work port → AreAgreed (one_then port) other_then → HearsOn desk instances one other message rest
  hears_on port is agreed = record {
    quiet = ap (λ (w : Work). w.actions) is;
    going = ap (λ (w : Work). w.halted) is;
    agreed = subst (λ (w : Work). AreAgreed (left_by one w) other_then) (sym is)
        (subst (λ (messages : List Message). AreAgreed (record { setup = setup; port = port; said = messages }) other_then) (sym (append-nil said)) agreed);
  }

  module _ (agreed : AreAgreed one other) where
    abbrev met : HaveMet side far_port.adjacency
    met = agreed.met

    abbrev calm : Side Peer
    calm = record side { silence = 0 }

    -- the same ends, of which one heard something
    met_then : HaveMet calm far_port.adjacency
    met_then = record { one_is_up = met.one_is_up; other_is_up = met.other_is_up; one_knows = met.one_knows; other_knows = met.other_knows }

    other_end_then : IsEnd other_then
    other_end_then = record {
      of_link = agreed.other_end.of_link;
      in_session = agreed.other_end.in_session;
      labels_apart = agreed.other_end.labels_apart;
      grants_apart = agreed.other_end.grants_apart;
      refreshes = agreed.other_end.refreshes;
      in_time = agreed.other_end.in_time;
      counted = agreed.other_end.counted;
    }

    -- *A greeting*
    module _ (greeting : IsGreeting far_port.adjacency.own side.own message) (leads : LeadOn far_port.adjacency.own side.own far_setup.timers far_labels s.expected (number_of far_port) rest) where
      abbrev knowing : Session
      knowing = record s { known = max s.known greeting.expected }

      abbrev greeted_port : Port
      greeted_port = record { adjacency = calm; session = Some knowing; grants = grants; redirects = tally }

      waits : Every (λ (label : Label). WaitsForNone label.state) s.labels
      waits = every_map (IsHeld setup.timers far_setup far_port.grants said) (λ (label : Label). WaitsForNone label.state) s.labels
          (λ label held. subst WaitsForNone (sym held.offered) tt) agreed.there.labels

      greeted : hearing desk instances source one message ≡ quiet_work greeted_port
      greeted = ap (λ m. hears setup desk (working instances one) source m)
          (greeting.is ∙ ap (λ stored. Adjacency (hello_of greeting.expected (record { kind = Ack; sender = far_port.adjacency.own; receiver = stored }))) (sym met.other_knows))
          ∙ ports_hear_acks setup desk (working instances one) s far_port.adjacency greeting.expected refl refl met waits

      still_held : (label : Label) → IsHeld far_setup.timers setup grants (message ∷ rest) label → IsHeld far_setup.timers setup grants rest label
      still_held label held = record {
        offered = held.offered;
        told = held.told;
        in_range = held.in_range;
        grant = held.grant;
        granted = held.granted;
        same_flow = held.same_flow;
        stays = held.stays;
        lives = by held.lives;
      }
        where
          by : (far_setup.timers.lifetime ≤ held.grant.lifetime + label.ticks) ⊎ IsToldAnew label.number (message ∷ rest)
              → (far_setup.timers.lifetime ≤ held.grant.lifetime + label.ticks) ⊎ IsToldAnew label.number rest
          by (inl lives) = inl lives
          by (inr (inl of_it)) = absurd (subst (IsOf label.number) greeting.is of_it)
          by (inr (inr told)) = inr told

      pub greeting_heard : HearsOn desk instances one other message rest
      greeting_heard = hears_on greeted_port greeted (record {
        met = met_then;
        one_end = record {
          of_link = agreed.one_end.of_link;
          in_session = refl;
          labels_apart = agreed.one_end.labels_apart;
          grants_apart = agreed.one_end.grants_apart;
          refreshes = agreed.one_end.refreshes;
          in_time = agreed.one_end.in_time;
          counted = agreed.one_end.counted;
        };
        other_end = other_end_then;
        there = record { numbers = agreed.there.numbers; labels = agreed.there.labels; grants = agreed.there.grants; heard = agreed.there.heard };
        back = record {
          numbers = leads;
          labels = every_map (IsHeld far_setup.timers setup grants (message ∷ rest)) (IsHeld far_setup.timers setup grants rest) far_labels still_held agreed.back.labels;
          grants = agreed.back.grants;
          heard = inl refl;
        };
      })

    -- *A REDIRECT*
    module _ (refresh : IsRefresh far_port.adjacency.own side.own far_setup.timers far_labels s.expected message)
        (leads : LeadOn far_port.adjacency.own side.own far_setup.timers far_labels (s.expected + 1) (number_of far_port) rest) where
      abbrev lifetime : ℕ
      lifetime = far_setup.timers.lifetime

      held_here : IsHeld far_setup.timers setup grants (message ∷ rest) refresh.label
      held_here = at_every label_number (IsHeld far_setup.timers setup grants (message ∷ rest)) refresh.label.number far_labels refresh.label agreed.back.labels refresh.held

      abbrev grant : Grant
      grant = held_here.grant

      same_label : grant.label ≡ refresh.label.number
      same_label = at_key grant_label refresh.label.number grants grant held_here.granted

      granted : at grant_label grant.label grants ≡ Some grant
      granted = ap (λ k. at grant_label k grants) same_label ∙ held_here.granted

      abbrev renewed : Grant
      renewed = record grant { lifetime = lifetime }

      abbrev renewed_grants : List Grant
      renewed_grants = put grant_label renewed grants

      peer_itself : (x : Peer) → same_peer x x ≡ true
      peer_itself x = both (x.instance.0 == x.instance.0) (x.address.0 == x.address.0) (number x.instance.0) (number x.address.0)

      taken : takes one.port source far_port.adjacency.own.instance side.own.instance s.expected ≡ true
      taken = both (option_map_or (same_peer far_port.adjacency.own) side.stored false && (side.own.instance.0 == side.own.instance.0)) (nat_le s.expected s.expected && nat_lt s.expected last_number)
          (both (option_map_or (same_peer far_port.adjacency.own) side.stored false) (side.own.instance.0 == side.own.instance.0)
          (ap (λ stored. option_map_or (same_peer far_port.adjacency.own) stored false) met.one_knows ∙ peer_itself far_port.adjacency.own) (number side.own.instance.0))
          (both (nat_le s.expected s.expected) (nat_lt s.expected last_number) (at_most s.expected) (below s.expected last_number refresh.number_left))
        where
          at_most : (n : ℕ) → nat_le n n ≡ true
          at_most n = grind (arith, nat_tests)

          below : (m n : ℕ) → m < n → nat_lt m n ≡ true
          below m n h = grind (arith, nat_tests)

      is_taken : IsTaken setup (working instances one) s source far_port.adjacency.own.instance side.own.instance s.expected grant.label
      is_taken = record {
        working = record { of_link = agreed.one_end.of_link; going = refl; is_open = refl };
        taken = taken;
        in_range = ap (is_in_range setup) same_label ∙ held_here.in_range;
      }

      abbrev renewed_port : Port
      renewed_port = accepted (working instances one) s s.expected renewed_grants

      refreshed : hearing desk instances source one message ≡ quiet_work renewed_port
      refreshed = ap (λ m. hears setup desk (working instances one) source m)
          (refresh.is ∙ (ap (λ n. Redirect far_port.adjacency.own.instance side.own.instance s.expected lifetime (label_channel_of n) refresh.label.flow) (sym same_label)
          ∙ ap (λ f. Redirect far_port.adjacency.own.instance side.own.instance s.expected lifetime (label_channel_of grant.label) f) (sym held_here.same_flow)))
          ∙ grants_are_refreshed setup desk (working instances one) s source far_port.adjacency.own.instance side.own.instance s.expected lifetime grant is_taken granted held_here.stays

      -- each label is held by the renewed grants
      held_then : (label : Label) → IsHeld far_setup.timers setup grants (message ∷ rest) label → IsHeld far_setup.timers setup renewed_grants rest label
      held_then label held = by_eq grant.label label.number renews keeps
        where
          one_grant : (x y : Grant) → Some x ≡ Some y → x ≡ y
          one_grant x y e = cc

          renews : grant.label ≡ label.number → nat_eq grant.label label.number ≡ true → IsHeld far_setup.timers setup renewed_grants rest label
          renews same t = record {
            offered = held.offered;
            told = held.told;
            in_range = held.in_range;
            grant = renewed;
            granted = ap (λ k. at grant_label k renewed_grants) (sym same) ∙ at_put_same grant_label renewed grants grant granted;
            same_flow = ap (λ (g : Grant). g.flow) (one_grant grant held.grant (sym granted ∙ (ap (λ k. at grant_label k grants) same ∙ held.granted))) ∙ held.same_flow;
            stays = held_here.stays;
            lives = inl (whole lifetime label.ticks);
          }
            where
              whole : (n m : ℕ) → n ≤ n + m
              whole n m = omega arith

          keeps : (grant.label ≡ label.number → ⊥) → nat_eq grant.label label.number ≡ false → IsHeld far_setup.timers setup renewed_grants rest label
          keeps differs t = record {
            offered = held.offered;
            told = held.told;
            in_range = held.in_range;
            grant = held.grant;
            granted = at_put_other grant_label renewed label.number grants differs ∙ held.granted;
            same_flow = held.same_flow;
            stays = held.stays;
            lives = by held.lives;
          }
            where
              one_number : (m n : ℕ) → Some m ≡ Some n → m ≡ n
              one_number m n e = cc

              of_another : IsOf label.number message → ⊥
              of_another of_it = differs (same_label ∙ one_number refresh.label.number label.number
                  (sym (in_range_number setup refresh.label.number held_here.in_range) ∙ subst (IsOf label.number) refresh.is of_it))

              by : (lifetime ≤ held.grant.lifetime + label.ticks) ⊎ IsToldAnew label.number (message ∷ rest) → (lifetime ≤ held.grant.lifetime + label.ticks) ⊎ IsToldAnew label.number rest
              by (inl lives) = inl lives
              by (inr (inl of_it)) = absurd (of_another of_it)
              by (inr (inr told)) = inr told

      pub refresh_heard : HearsOn desk instances one other message rest
      refresh_heard = hears_on renewed_port refreshed (record {
        met = met_then;
        one_end = record {
          of_link = agreed.one_end.of_link;
          in_session = refl;
          labels_apart = agreed.one_end.labels_apart;
          grants_apart = put_order grant_label (λ m n. m ≡ n → ⊥) renewed grants agreed.one_end.grants_apart;
          refreshes = agreed.one_end.refreshes;
          in_time = agreed.one_end.in_time;
          counted = agreed.one_end.counted;
        };
        other_end = other_end_then;
        there = record { numbers = agreed.there.numbers; labels = agreed.there.labels; grants = agreed.there.grants; heard = agreed.there.heard };
        back = record {
          numbers = leads;
          labels = every_map (IsHeld far_setup.timers setup grants (message ∷ rest)) (IsHeld far_setup.timers setup renewed_grants rest) far_labels held_then agreed.back.labels;
          grants = put_every grant_label (λ (g : Grant). is_some (at label_number g.label far_labels) ≡ true) renewed grants
              (at_every grant_label (λ (g : Grant). is_some (at label_number g.label far_labels) ≡ true) grant.label grants grant agreed.back.grants granted) agreed.back.grants;
          heard = inl refl;
        };
      })

    pub first_heard : HearsOn desk instances one other message rest
    first_heard = by agreed.back.numbers
      where
        by : (IsGreeting far_port.adjacency.own side.own message × LeadOn far_port.adjacency.own side.own far_setup.timers far_labels s.expected (number_of far_port) rest)
            ⊎ (IsRefresh far_port.adjacency.own side.own far_setup.timers far_labels s.expected message × LeadOn far_port.adjacency.own side.own far_setup.timers far_labels (s.expected + 1) (number_of far_port) rest)
            → HearsOn desk instances one other message rest
        by (inl greets) = greeting_heard greets.0 greets.1
        by (inr tells) = refresh_heard tells.0 tells.1

pub hearing_keeps_agreement : HearingKeepsAgreement
hearing_keeps_agreement desk instances one other message rest agreed first =
    by_session (λ (x : EndOfLink). AreAgreed x other → HearsOn desk instances x other message rest) each one agreed.one_end.in_session agreed
  where
    each : (setup : Setup) (side : Side Peer) (tally : ℕ) (s : Session) (grants : List Grant) (said : List Message)
        → AreAgreed (end_in setup side tally s grants said) other → HearsOn desk instances (end_in setup side tally s grants said) other message rest
    each setup side tally s grants said = subst (λ (y : EndOfLink). AreAgreed (end_in setup side tally s grants said) y → HearsOn desk instances (end_in setup side tally s grants said) y message rest)
        (λ i. record { setup = other.setup; port = other.port; said = sym first i })
        (first_heard desk instances setup side tally s grants said other.setup other.port message rest)
