-- the whole way of a label, from rest to rest

use Rattle.std.proofs.Common.{◌≡◌, ℕ, ◌≤◌, ◌<◌, ◌+◌, false, true, List, [], ◌∷◌, None, refl, sym, subst, arith}
use Rattle.std.specs.Prelude.{max}
use Rattle.live_model.specs.world_model.Words.{Peer, Side, put, without, Desk, Setup, Label, Offered, Recalled, Wired, label_number, Grant, grant_label, Session, Work}
use Rattle.live_model.specs.world_model.ifmp_wire.declared.message.Message.{Message}
use Rattle.live_model.specs.world_model.port_model.Grants.{lent_input}
use Rattle.live_model.specs.world_model.port_model.declared.action.Action.TheVariants.{Say}
use Rattle.law_port_facts.proofs.Keyed.{at_every}
use Rattle.law_live_links.specs.Law.{EndOfLink, IsHeld, AreAtRest, left_by, hearing}
use Rattle.law_live_links.proofs.Resting.{end_in, by_rest}
use Rattle.law_live_recalls.specs.Law.{reclaim_of, ack_of, IsRecalled, IsAnswered, IsAcknowledged, IsQuit, HasRoomToQuit, AreAtRestWithout, MayReturn, told, acknowledged, quit, freed, recalled, ComesBack, LabelsReturn}
use Rattle.law_live_recalls.proofs.Beside.{calm}
use Rattle.law_live_recalls.proofs.Rules.{label_recalled}
use Rattle.law_live_recalls.proofs.Steps.{is_recalled, reclaim_heard, is_answered, is_kept, is_acknowledged, it_quits, is_quit, it_is_freed, is_spare}

module _ (desk far_desk later : Desk) (instances far_instances : ℕ) (setup : Setup) (side : Side Peer) (tally : ℕ) (s : Session) (grants : List Grant)
    (far_setup : Setup) (far_side : Side Peer) (far_tally : ℕ) (t : Session) (far_grants : List Grant) (label : Label) where
  abbrev one : EndOfLink
  one = end_in setup side tally s grants []

  abbrev other : EndOfLink
  other = end_in far_setup far_side far_tally t far_grants []

  module _ (rest : AreAtRest one other) (may : MayReturn later instances one other label) where
    abbrev k : ℕ
    k = label.number

    -- *It is recalled*
    abbrev first : Label
    first = recalled one label

    abbrev telling_session : Session
    telling_session = record s { labels = put label_number first s.labels; number = s.number + 1 }

    abbrev telling : List Message → EndOfLink
    telling said = end_in setup side tally telling_session grants said

    abbrev message : Message
    message = reclaim_of one other label t.expected

    is_first : IsRecalled (telling (reclaim_of one other label s.number ∷ [])) other first
    is_first = is_recalled desk instances setup side tally s grants far_setup far_side far_tally t far_grants label rest may.unused

    is_not_lent : lent_input is_first.grant.state ≡ None
    is_not_lent = may.not_lent is_first.grant is_first.granted

    -- *The taker answers*
    abbrev fewer : List Grant
    fewer = without grant_label k far_grants

    abbrev far_session : Session
    far_session = record t { expected = t.expected + 1; number = t.number + 1 }

    abbrev answering : List Message → EndOfLink
    answering said = end_in far_setup (calm far_side) far_tally far_session fewer said

    abbrev said_first : List Message
    said_first = reclaim_of one other label s.number ∷ []

    is_second : IsAnswered (telling []) (answering (ack_of one other label t.number ∷ [])) first t.expected
    is_second = is_answered far_desk far_instances first setup side tally telling_session grants said_first far_setup far_side far_tally t far_grants [] is_first is_not_lent may.number_left

    abbrev answer : Message
    answer = ack_of one other label s.expected

    -- *That is kept*
    abbrev acked : Label
    acked = record first { state = Recalled t.expected true }

    abbrev keeping : Session
    keeping = record telling_session { expected = s.expected + 1; labels = put label_number acked telling_session.labels }

    unpassed : s.known ≤ t.expected
    unpassed = subst (λ n. s.known ≤ n) (sym rest.agreed.there.numbers) may.known

    is_third : IsAcknowledged (end_in setup (calm side) tally keeping grants []) (answering []) acked t.expected
    is_third = is_acknowledged desk instances first setup side tally telling_session grants [] far_setup (calm far_side) far_tally far_session fewer (ack_of one other label t.number ∷ [])
        t.expected is_second unpassed

    -- *It is quit*
    abbrev wired : Label
    wired = record acked { state = Wired }

    abbrev quitting : Session
    quitting = record keeping { known = max s.known (t.expected + 1); labels = put label_number wired keeping.labels }

    below : (n : ℕ) → n < n + 1
    below n = omega arith

    has_room_now : HasRoomToQuit later instances (end_in setup (calm side) tally keeping grants []) k
    has_room_now = record { unasked = may.room.unasked; room = may.room.room }

    is_fourth : IsQuit (end_in setup (calm side) tally quitting grants []) (answering []) wired
    is_fourth = is_quit later instances acked setup (calm side) tally keeping grants [] far_setup (calm far_side) far_tally far_session fewer []
        t.expected (t.expected + 1) is_third (below t.expected) has_room_now

    -- *It is spare*
    in_the_end : AreAtRestWithout (end_in setup (calm side) tally (record quitting { labels = without label_number k quitting.labels }) grants []) (answering []) k
    in_the_end = is_spare later instances wired setup (calm side) tally quitting grants [] far_setup (calm far_side) far_tally far_session fewer [] is_fourth refl refl

    freed_so : AreAtRestWithout (freed instances (end_in setup (calm side) tally quitting grants []) k) (answering []) k
    freed_so = subst (λ (w : Work). AreAtRestWithout (left_by (end_in setup (calm side) tally quitting grants []) w) (answering []) k)
        (sym (it_is_freed later instances wired setup (calm side) tally quitting grants [] far_setup (calm far_side) far_tally far_session fewer [] is_fourth refl refl)) in_the_end

    quit_so : AreAtRestWithout (freed instances (quit later instances (end_in setup (calm side) tally keeping grants []) (answering (answer ∷ []))) k) (answering []) k
    quit_so = subst (λ (w : Work). AreAtRestWithout (freed instances (left_by (end_in setup (calm side) tally keeping grants []) w) k) (answering []) k)
        (sym (it_quits later instances acked setup (calm side) tally keeping grants [] far_setup (calm far_side) far_tally far_session fewer []
        t.expected (t.expected + 1) is_third (below t.expected) has_room_now)) freed_so

    kept_so : AreAtRestWithout (freed instances (quit later instances (acknowledged desk instances (telling said_first) (answering (answer ∷ [])) answer) (answering (answer ∷ []))) k) (answering []) k
    kept_so = subst (λ (w : Work). AreAtRestWithout (freed instances (quit later instances (left_by (telling []) w) (answering (answer ∷ []))) k) (answering []) k)
        (sym (is_kept desk instances first setup side tally telling_session grants [] far_setup (calm far_side) far_tally far_session fewer (ack_of one other label t.number ∷ [])
        t.expected is_second unpassed)) quit_so

    comes_back : ComesBack desk far_desk later instances far_instances (telling said_first) other k
    comes_back = record {
      message = message;
      said = is_first.said;
      answer = answer;
      given_back = subst (λ (w : Work). (left_by other w).said ≡ answer ∷ []) (sym heard_so) is_second.said;
      rests = subst (λ (w : Work). AreAtRestWithout (freed instances (quit later instances (acknowledged desk instances (telling said_first) (left_by other w) answer) (left_by other w)) k)
          (record (left_by other w) { said = [] }) k) (sym heard_so) kept_with_ack;
    }
      where
        heard_so : hearing far_desk far_instances side.own.address other message
            ≡ record { port = (answering []).port; actions = Say (ack_of one other label t.number) ∷ []; halted = false; instances = far_instances }
        heard_so = reclaim_heard far_desk far_instances first setup side tally telling_session grants said_first far_setup far_side far_tally t far_grants [] is_first is_not_lent may.number_left

        -- the number that the taker said it under doesn't matter any more
        kept_with_ack : AreAtRestWithout (freed instances (quit later instances (acknowledged desk instances (telling said_first) (answering (ack_of one other label t.number ∷ [])) answer)
            (answering (ack_of one other label t.number ∷ []))) k) (answering []) k
        kept_with_ack = kept_so

    pub label_returns : ComesBack desk far_desk later instances far_instances (told desk instances one label) other k
    label_returns = subst (λ (w : Work). ComesBack desk far_desk later instances far_instances (left_by one w) other k)
        (sym (label_recalled setup desk side tally instances grants far_side rest.agreed.met s label may.unused.held offered may.unused.unjoined may.unused.not_kept may.unused.number_left)) comes_back
      where
        offered : label.state ≡ Offered
        offered = (at_every label_number (IsHeld setup.timers far_setup far_grants []) k s.labels label rest.agreed.there.labels may.unused.held).offered

pub labels_return : LabelsReturn
labels_return desk far_desk later instances far_instances giver taker label rest may =
    by_rest (λ (x : EndOfLink). AreAtRest x taker → MayReturn later instances x taker label
    → ComesBack desk far_desk later instances far_instances (told desk instances x label) taker label.number)
    (λ setup side tally s grants. by_rest
    (λ (y : EndOfLink). AreAtRest (end_in setup side tally s grants []) y → MayReturn later instances (end_in setup side tally s grants []) y label
    → ComesBack desk far_desk later instances far_instances (told desk instances (end_in setup side tally s grants []) label) y label.number)
    (λ far_setup far_side far_tally t far_grants r m. label_returns desk far_desk later instances far_instances setup side tally s grants far_setup far_side far_tally t far_grants label r m)
    taker rest.agreed.other_end.in_session rest.other_is_heard)
    giver rest.agreed.one_end.in_session rest.one_is_heard rest may
