-- two ends of a link without a label, once each has heard the other

use Rattle.std.proofs.Common.{◌≡◌, ◌≢◌, ℕ, ◌<◌, true, true≢false, List, [], Option, None, Some, refl, sym, ◌∙◌, ap, inl}
use Rattle.std.specs.Prelude.{is_some}
use Rattle.std.specs.Option.{option_map}
use Rattle.live_model.specs.world_model.Words.{Channel, Peer, Side, at, without, Setup, Label, label_number, Grant, grant_label, Session}
use Rattle.live_model.specs.world_model.ifmp_wire.declared.message.Message.{Message}
use Rattle.law_port_facts.proofs.Keyed.{without_order}
use Rattle.law_live_links.specs.Law.{EndOfLink, number_of, IsHeld, AreAtRest}
use Rattle.law_live_links.proofs.Resting.{end_in, by_session}
use Rattle.law_live_recalls.specs.Law.{IsReturning}
use Rattle.law_live_recalls.proofs.Places.{without_each, at_without_other}

abbrev pub calm : Side Peer → Side Peer
calm side = record side { silence = 0 }

-- *The two ends at rest*, in their parts, and with other numbers that fit
module _ (setup : Setup) (side : Side Peer) (tally : ℕ) (s : Session) (grants : List Grant) (far_setup : Setup) (far_side : Side Peer) (far_tally : ℕ) (t : Session) (far_grants : List Grant)
    (rest : AreAtRest (end_in setup side tally s grants []) (end_in far_setup far_side far_tally t far_grants [])) where
  pub numbered : (number far_number known far_known : ℕ)
      → AreAtRest (end_in setup side tally (record s { number = number; expected = far_number; known = known }) grants [])
      (end_in far_setup far_side far_tally (record t { number = far_number; expected = number; known = far_known }) far_grants [])
  numbered number far_number known far_known = record {
    agreed = record {
      met = rest.agreed.met;
      one_end = record {
        of_link = rest.agreed.one_end.of_link;
        in_session = refl;
        labels_apart = rest.agreed.one_end.labels_apart;
        grants_apart = rest.agreed.one_end.grants_apart;
        refreshes = rest.agreed.one_end.refreshes;
        in_time = rest.agreed.one_end.in_time;
        counted = rest.agreed.one_end.counted;
      };
      other_end = record {
        of_link = rest.agreed.other_end.of_link;
        in_session = refl;
        labels_apart = rest.agreed.other_end.labels_apart;
        grants_apart = rest.agreed.other_end.grants_apart;
        refreshes = rest.agreed.other_end.refreshes;
        in_time = rest.agreed.other_end.in_time;
        counted = rest.agreed.other_end.counted;
      };
      there = record { numbers = refl; labels = rest.agreed.there.labels; grants = rest.agreed.there.grants; heard = rest.agreed.there.heard };
      back = record { numbers = refl; labels = rest.agreed.back.labels; grants = rest.agreed.back.grants; heard = rest.agreed.back.heard };
    };
    one_is_heard = refl;
    other_is_heard = refl;
  }

  -- with another range of the session at one of them
  pub ranged_so : (least greatest : Channel) → AreAtRest (end_in setup side tally s grants []) (end_in far_setup far_side far_tally (record t { least = least; greatest = greatest }) far_grants [])
  ranged_so least greatest = record {
    agreed = record {
      met = rest.agreed.met;
      one_end = rest.agreed.one_end;
      other_end = record {
        of_link = rest.agreed.other_end.of_link;
        in_session = refl;
        labels_apart = rest.agreed.other_end.labels_apart;
        grants_apart = rest.agreed.other_end.grants_apart;
        refreshes = rest.agreed.other_end.refreshes;
        in_time = rest.agreed.other_end.in_time;
        counted = rest.agreed.other_end.counted;
      };
      there = record { numbers = rest.agreed.there.numbers; labels = rest.agreed.there.labels; grants = rest.agreed.there.grants; heard = rest.agreed.there.heard };
      back = record { numbers = rest.agreed.back.numbers; labels = rest.agreed.back.labels; grants = rest.agreed.back.grants; heard = rest.agreed.back.heard };
    };
    one_is_heard = refl;
    other_is_heard = refl;
  }

  -- *Without a label*
  module _ (k : ℕ) where
    abbrev fewer : List Label
    fewer = without label_number k s.labels

    abbrev fewer_grants : List Grant
    fewer_grants = without grant_label k far_grants

    still_held : (label : Label) → k ≢ label.number → IsHeld setup.timers far_setup far_grants [] label → IsHeld setup.timers far_setup fewer_grants [] label
    still_held label differs held = record {
      offered = held.offered;
      told = held.told;
      in_range = held.in_range;
      grant = held.grant;
      granted = at_without_other grant_label k label.number far_grants differs ∙ held.granted;
      same_flow = held.same_flow;
      stays = held.stays;
      lives = held.lives;
    }

    pub beside_rest : AreAtRest (end_in setup (calm side) tally (record s { labels = fewer; expected = t.number }) grants [])
        (end_in far_setup (calm far_side) far_tally (record t { expected = s.number }) fewer_grants [])
    beside_rest = record {
      agreed = record {
        met = record { one_is_up = rest.agreed.met.one_is_up; other_is_up = rest.agreed.met.other_is_up; one_knows = rest.agreed.met.one_knows; other_knows = rest.agreed.met.other_knows };
        one_end = record {
          of_link = rest.agreed.one_end.of_link;
          in_session = refl;
          labels_apart = without_order label_number (λ m n. m < n) k s.labels rest.agreed.one_end.labels_apart;
          grants_apart = rest.agreed.one_end.grants_apart;
          refreshes = rest.agreed.one_end.refreshes;
          in_time = rest.agreed.one_end.in_time;
          counted = rest.agreed.one_end.counted;
        };
        other_end = record {
          of_link = rest.agreed.other_end.of_link;
          in_session = refl;
          labels_apart = rest.agreed.other_end.labels_apart;
          grants_apart = without_order grant_label (λ m n. m ≡ n → ⊥) k far_grants rest.agreed.other_end.grants_apart;
          refreshes = rest.agreed.other_end.refreshes;
          in_time = rest.agreed.other_end.in_time;
          counted = rest.agreed.other_end.counted;
        };
        there = record {
          numbers = refl;
          labels = without_each label_number (IsHeld setup.timers far_setup far_grants []) (IsHeld setup.timers far_setup fewer_grants []) k s.labels still_held rest.agreed.there.labels;
          grants = without_each grant_label (λ (g : Grant). is_some (at label_number g.label s.labels) ≡ true) (λ (g : Grant). is_some (at label_number g.label fewer) ≡ true) k far_grants
              (λ g differs given. ap (λ (o : Option Label). is_some o) (at_without_other label_number k g.label s.labels differs) ∙ given) rest.agreed.there.grants;
          heard = inl refl;
        };
        back = record { numbers = refl; labels = rest.agreed.back.labels; grants = rest.agreed.back.grants; heard = inl refl };
      };
      one_is_heard = refl;
      other_is_heard = refl;
    }

-- *Both ends of a returning label* are in session: what holds of all such in their parts holds of them
mapped : (f : Session → Session) (o : Option Session) → is_some (option_map f o) ≡ true → is_some o ≡ true
mapped f None is = absurd (true≢false (sym is))
mapped f (Some s) is = refl

pub by_ends : (P : EndOfLink → EndOfLink → Type 0)
    → ((setup : Setup) (side : Side Peer) (tally : ℕ) (s : Session) (grants : List Grant) (said : List Message)
    (far_setup : Setup) (far_side : Side Peer) (far_tally : ℕ) (t : Session) (far_grants : List Grant) (far_said : List Message)
    → P (end_in setup side tally s grants said) (end_in far_setup far_side far_tally t far_grants far_said))
    → (giver taker : EndOfLink) (label : Label) → IsReturning giver taker label → P giver taker
by_ends P each giver taker label r =
    by_session (λ (x : EndOfLink). P x taker)
    (λ setup side tally s grants said. by_session (λ (y : EndOfLink). P (end_in setup side tally s grants said) y)
    (λ far_setup far_side far_tally t far_grants far_said. each setup side tally s grants said far_setup far_side far_tally t far_grants far_said)
    taker taker_in)
    giver giver_in
  where
    taker_in : is_some taker.port.session ≡ true
    taker_in = mapped (λ (s : Session). record s { expected = number_of giver.port }) taker.port.session r.beside.agreed.other_end.in_session

    giver_in : is_some giver.port.session ≡ true
    giver_in = mapped (λ (s : Session). record s { labels = without label_number label.number s.labels }) giver.port.session
        (mapped (λ (s : Session). record s { expected = number_of taker.port })
        (option_map (λ (s : Session). record s { labels = without label_number label.number s.labels }) giver.port.session) r.beside.agreed.one_end.in_session)
