-- each step of a label's way back, as both ends of its link see it

use Rattle.std.proofs.Common.{◌≡◌, ℕ, ◌≤◌, ◌<◌, ◌+◌, Bool, false, true, List, [], ◌∷◌, ◌++◌, length, None, Some, refl, sym, ◌∙◌, ap, subst, arith}
use Rattle.std.specs.Prelude.{max}
use Rattle.live_model.specs.world_model.Words.{End, FlowId, Free, Peer, Reclaim, Side, label_channel_of, at, put, without, Desk, empty_desk, Setup, label_end, Label, Recalled, Wired, label_number, Grant, ByInput, Leaving, grant_label, Session, Work, known_of, last_number, nudges, reclaim_ack, ticks_label, hears}
use Rattle.live_model.specs.world_model.ifmp_wire.declared.message.Message.{Message}
use Rattle.live_model.specs.world_model.port_model.Ticks.{is_unpassed}
use Rattle.live_model.specs.world_model.port_model.declared.action.Action.{Action}
use Rattle.live_model.specs.world_model.port_model.declared.action.Action.TheVariants.{Ask, CutChain, Note, Say, TakeBack}
use Rattle.live_model.specs.world_model.port_model.Answers.{done}
use Rattle.live_model.specs.world_model.port_model.Grants.{lent_input}
use Rattle.live_model.specs.world_model.port_model.Joins.{given_back}
use Rattle.live_model.specs.Met.{HaveMet}
use Rattle.law_port_facts.specs.ordered_lists.Ordered.{Every}
use Rattle.law_port_facts.proofs.ordered_lists.Every.{every_map}
use Rattle.law_port_facts.proofs.Keyed.{at_every, at_key, at_put_same, by_eq}
use Rattle.law_live_labels.proofs.Agreed.{at_work, in_range_number}
use Rattle.law_live_greetings.specs.Law.{WaitsForNone}
use Rattle.law_live_links.specs.Law.{EndOfLink, number_of, expected_of, IsHeld, AreAtRest, working, hearing}
use Rattle.law_live_links.proofs.Resting.{end_in, by_rest}
use Rattle.law_live_recalls.specs.Law.{IsReturning, reclaim_of, ack_of, IsRecalled, IsOwed, IsAnswered, IsAcknowledged, IsQuit, IsLeft, IsUnused, recalled, UnusedAreRecalled, RecalledAreAnswered, RecalledAreOwed, OwedAreAnswered, OwedAreToldAgain, LeavingStayOwed, StaysOwed, OwedAreGreeted, AnsweredAreKept, AnsweredAreQuit, range_of, IsNudged, AcknowledgedAreNudged, narrowed_by, AreInside, NudgedAreAcknowledged, label_tree, ack_from, HasRoomToQuit, AcknowledgedAreQuit, AreAtRestWithout, QuitAreFreed}
use Rattle.law_live_recalls.proofs.Places.{without_put, without_none, without_back, at_without_same, at_any}
use Rattle.law_live_recalls.proofs.Beside.{calm, numbered, ranged_so, beside_rest, by_ends}
use Rattle.law_live_recalls.proofs.Rules.{label_recalled, label_told_again, grant_ended, grant_owed, grant_owed_still, owed_ended, ack_passed, ack_kept, ack_quits, range_said, range_heard, at_most, label_quit, label_freed}

-- *How much is on its way*
none_said : (n m : ℕ) (said : List Message) → said ≡ [] → n + length said ≡ m → n ≡ m
none_said n m said none e = omega (arith, e, ap (λ (messages : List Message). length messages) none)

one_said : (n m : ℕ) (said : List Message) (message : Message) → said ≡ message ∷ [] → n + length said ≡ m → n + 1 ≡ m
one_said n m said message one e = omega (arith, e, ap (λ (messages : List Message). length messages) one)

now_none : (n m : ℕ) (said : List Message) → said ≡ [] → n ≡ m → n + length said ≡ m
now_none n m said none e = omega (arith, e, ap (λ (messages : List Message). length messages) none)

now_one : (n m : ℕ) (said : List Message) (message : Message) → said ≡ message ∷ [] → n + 1 ≡ m → n + length said ≡ m
now_one n m said message one e = omega (arith, e, ap (λ (messages : List Message). length messages) one)

met_back : (one other : Side Peer) → HaveMet (calm one) (calm other) → HaveMet other one
met_back one other met = record { one_is_up = met.other_is_up; other_is_up = met.one_is_up; one_knows = met.other_knows; other_knows = met.one_knows }

met_there : (one other : Side Peer) → HaveMet (calm one) (calm other) → HaveMet one other
met_there one other met = record { one_is_up = met.one_is_up; other_is_up = met.other_is_up; one_knows = met.one_knows; other_knows = met.other_knows }

-- *From rest*
module _ (desk : Desk) (instances : ℕ) (setup : Setup) (side : Side Peer) (tally : ℕ) (s : Session) (grants : List Grant)
    (far_setup : Setup) (far_side : Side Peer) (far_tally : ℕ) (t : Session) (far_grants : List Grant) (label : Label) where
  abbrev resting : EndOfLink
  resting = end_in setup side tally s grants []

  abbrev far_resting : EndOfLink
  far_resting = end_in far_setup far_side far_tally t far_grants []

  module _ (rest : AreAtRest resting far_resting) (unused : IsUnused resting label) where
    agreed : IsHeld setup.timers far_setup far_grants [] label
    agreed = at_every label_number (IsHeld setup.timers far_setup far_grants []) label.number s.labels label rest.agreed.there.labels unused.held

    same_number : t.expected ≡ s.number
    same_number = rest.agreed.there.numbers

    abbrev recalled_label : Label
    recalled_label = recalled resting label

    abbrev recalling : Session
    recalling = record s { labels = put label_number recalled_label s.labels; number = s.number + 1 }

    abbrev telling : EndOfLink
    telling = end_in setup side tally recalling grants (reclaim_of resting far_resting label s.number ∷ [])

    pub is_recalled : IsRecalled telling far_resting recalled_label
    is_recalled = record {
      returning = record {
        held = at_put_same label_number recalled_label s.labels label unused.held;
        known = in_range_number far_setup label.number agreed.in_range;
        there = ap (λ n. n + 1) same_number;
        back = now_none s.expected t.number [] refl rest.agreed.back.numbers;
        beside = subst (λ (labels : List Label). AreAtRest (end_in setup (calm side) tally (record s { labels = labels; number = s.number + 1; expected = t.number }) grants [])
            (end_in far_setup (calm far_side) far_tally (record t { expected = s.number + 1 }) (without grant_label label.number far_grants) []))
            (sym (without_put label_number recalled_label s.labels))
            (numbered setup (calm side) tally (record s { labels = without label_number label.number s.labels; expected = t.number }) grants far_setup (calm far_side) far_tally
            (record t { expected = s.number }) (without grant_label label.number far_grants)
            (beside_rest setup side tally s grants far_setup far_side far_tally t far_grants rest label.number) (s.number + 1) t.number s.known t.known);
      };
      state = ap (λ n. Recalled n false) (sym same_number);
      number_left = subst (λ n. n < last_number) (sym same_number) unused.number_left;
      said = ap (λ n. reclaim_of resting far_resting label n ∷ []) (sym same_number);
      silent = refl;
      grant = agreed.grant;
      granted = agreed.granted;
      same_flow = agreed.same_flow;
    }

    pub unused_recalled : IsLeft resting (ticks_label setup desk (working instances resting) label.number) (Say (reclaim_of resting far_resting label s.number) ∷ [])
        (λ e. IsRecalled e far_resting recalled_label)
    unused_recalled = subst (λ (w : Work). IsLeft resting w (Say (reclaim_of resting far_resting label s.number) ∷ []) (λ e. IsRecalled e far_resting recalled_label))
        (sym (label_recalled setup desk side tally instances grants far_side rest.agreed.met s label unused.held agreed.offered unused.unjoined unused.not_kept unused.number_left))
        (record { going = refl; acts = refl; is_so = is_recalled })

pub unused_are_recalled : UnusedAreRecalled
unused_are_recalled desk instances giver taker label rest unused =
    by_rest (λ (x : EndOfLink). AreAtRest x taker → IsUnused x label
    → IsLeft x (ticks_label x.setup desk (working instances x) label.number) (Say (reclaim_of x taker label (number_of x.port)) ∷ []) (λ e. IsRecalled e taker (recalled x label)))
    (λ setup side tally s grants. by_rest
    (λ (y : EndOfLink). AreAtRest (end_in setup side tally s grants []) y → IsUnused (end_in setup side tally s grants []) label
    → IsLeft (end_in setup side tally s grants []) (ticks_label setup desk (working instances (end_in setup side tally s grants [])) label.number)
    (Say (reclaim_of (end_in setup side tally s grants []) y label s.number) ∷ []) (λ e. IsRecalled e y (recalled (end_in setup side tally s grants []) label)))
    (λ far_setup far_side far_tally t far_grants r u. unused_recalled desk instances setup side tally s grants far_setup far_side far_tally t far_grants label r u)
    taker rest.agreed.other_end.in_session rest.other_is_heard)
    giver rest.agreed.one_end.in_session rest.one_is_heard rest unused

-- *On its way*
module _ (desk : Desk) (instances : ℕ) (label : Label) (setup : Setup) (side : Side Peer) (tally : ℕ) (s : Session) (grants : List Grant) (said : List Message)
    (far_setup : Setup) (far_side : Side Peer) (far_tally : ℕ) (t : Session) (far_grants : List Grant) (far_said : List Message) where
  abbrev one : EndOfLink
  one = end_in setup side tally s grants said

  abbrev other : EndOfLink
  other = end_in far_setup far_side far_tally t far_grants far_said

  abbrev k : ℕ
  k = label.number

  -- both, without the label, by what is left of it, and by the numbers
  abbrev Beside : (labels : List Label) → (number far_number known : ℕ) → List Grant → Type 0
  Beside labels number far_number known held =
      AreAtRest (end_in setup (calm side) tally (record s { number = number; expected = far_number; known = known; labels = without label_number k labels }) grants [])
      (end_in far_setup (calm far_side) far_tally (record t { number = far_number; expected = number }) (without grant_label k held) [])

  module _ (r : IsReturning one other label) where
    met : HaveMet side far_side
    met = met_there side far_side r.beside.agreed.met

    beside_then : (number far_number known : ℕ) → Beside s.labels number far_number known far_grants
    beside_then number far_number known = numbered setup (calm side) tally (record s { labels = without label_number k s.labels; expected = t.number }) grants far_setup (calm far_side) far_tally
        (record t { expected = s.number }) (without grant_label k far_grants) r.beside number far_number known t.known

    beside_put : (now : Label) → now.number ≡ k → (number far_number known : ℕ) → Beside (put label_number now s.labels) number far_number known far_grants
    beside_put now is number far_number known = subst (λ (labels : List Label). AreAtRest (end_in setup (calm side) tally (record s { number = number; expected = far_number; known = known; labels = labels }) grants [])
        (end_in far_setup (calm far_side) far_tally (record t { number = far_number; expected = number }) (without grant_label k far_grants) []))
        (sym (subst (λ n. without label_number n (put label_number now s.labels) ≡ without label_number n s.labels) is (without_put label_number now s.labels)))
        (beside_then number far_number known)

    -- the other labels are offered, and wait for no ACK
    others_wait : Every (λ (l : Label). (l.number ≡ k → ⊥) → WaitsForNone l.state) s.labels
    others_wait = without_back label_number (λ (l : Label). WaitsForNone l.state) k s.labels
        (every_map (IsHeld setup.timers far_setup (without grant_label k far_grants) []) (λ (l : Label). WaitsForNone l.state) (without label_number k s.labels)
        (λ l held. subst WaitsForNone (sym held.offered) tt) r.beside.agreed.there.labels)

  -- *The RECLAIM is heard*
  module _ (r : IsRecalled one other label) (not_lent : lent_input r.grant.state ≡ None) (left : t.number < last_number) where
    abbrev fewer : List Grant
    fewer = without grant_label k far_grants

    abbrev ack : Message
    ack = ack_of one other label t.number

    abbrev answering : Work
    answering = at_work (calm far_side) far_tally instances (record t { expected = t.expected + 1; number = t.number + 1 }) fewer (Say ack ∷ [])

    abbrev comes : FlowId → Work
    comes flow = hears far_setup desk (working instances other) side.own.address (Reclaim side.own.instance far_side.own.instance t.expected (label_channel_of k) flow)

    pub reclaim_heard : comes label.flow ≡ answering
    reclaim_heard = ap comes (sym r.same_flow)
        ∙ (grant_ended far_setup desk far_side far_tally instances far_grants side (met_back side far_side r.returning.beside.agreed.met) t r.number_left k r.returning.known r.grant r.granted not_lent left
        ∙ ap (λ flow. at_work (calm far_side) far_tally instances (record t { expected = t.expected + 1; number = t.number + 1 }) fewer
        (Say (reclaim_ack (label_channel_of k) flow far_side.own.instance side.own.instance t.number) ∷ [])) r.same_flow)

    all_heard : s.expected ≡ t.number
    all_heard = none_said s.expected t.number far_said r.silent r.returning.back

    told : t.expected + 1 ≡ s.number
    told = one_said t.expected s.number said (reclaim_of one other label t.expected) r.said r.returning.there

    its_ack : far_said ++ ack ∷ [] ≡ ack ∷ []
    its_ack = ap (λ (messages : List Message). messages ++ ack ∷ []) r.silent

    pub is_answered : IsAnswered (record one { said = [] }) (end_in far_setup (calm far_side) far_tally (record t { expected = t.expected + 1; number = t.number + 1 }) fewer (far_said ++ ack ∷ [])) label t.expected
    is_answered = record {
      given_back = record {
        returning = record {
          held = r.returning.held;
          known = r.returning.known;
          there = now_none (t.expected + 1) s.number [] refl told;
          back = now_one s.expected (t.number + 1) (far_said ++ ack ∷ []) ack its_ack (ap (λ n. n + 1) all_heard);
          beside = subst (λ (held : List Grant). AreAtRest (end_in setup (calm side) tally (record s { expected = t.number + 1; labels = without label_number k s.labels }) grants [])
              (end_in far_setup (calm far_side) far_tally (record t { number = t.number + 1; expected = s.number }) held []))
              (sym (without_none grant_label k fewer (at_without_same grant_label k far_grants)))
              (beside_then r.returning s.number (t.number + 1) s.known);
        };
        state_is = r.state;
        ungranted = at_without_same grant_label k far_grants;
        heard = refl;
      };
      passed = below t.expected s.number told;
      number_left = subst (λ n. n < last_number) (sym all_heard) left;
      said = its_ack ∙ ap (λ n. ack_of one other label n ∷ []) (sym all_heard);
    }
      where
        below : (n m : ℕ) → n + 1 ≡ m → n < m
        below n m e = omega (arith, e)

    pub recalled_answered : IsLeft other (hearing desk instances side.own.address other (reclaim_of one other label t.expected)) (Say ack ∷ [])
        (λ e. IsAnswered (record one { said = [] }) e label t.expected)
    recalled_answered = subst (λ (w : Work). IsLeft other w (Say ack ∷ []) (λ e. IsAnswered (record one { said = [] }) e label t.expected)) (sym reclaim_heard)
        (record { going = refl; acts = refl; is_so = is_answered })

  -- *The RECLAIM is heard* of a grant that is lent, or is leaving
  module _ (r : IsRecalled one other label) (input : End) where
    abbrev leaving : Grant
    leaving = record r.grant { state = Leaving input true }

    abbrev owing_grants : List Grant
    owing_grants = put grant_label leaving far_grants

    abbrev owing : List Action → Work
    owing actions = at_work (calm far_side) far_tally instances (record t { expected = t.expected + 1 }) owing_grants actions

    abbrev comes_lent : FlowId → Work
    comes_lent flow = hears far_setup desk (working instances other) side.own.address (Reclaim side.own.instance far_side.own.instance t.expected (label_channel_of k) flow)

    its_label : r.grant.label ≡ k
    its_label = at_key grant_label k far_grants r.grant r.granted

    there : t.expected + 1 ≡ s.number
    there = one_said t.expected s.number said (reclaim_of one other label t.expected) r.said r.returning.there

    nothing_more : far_said ++ [] ≡ []
    nothing_more = ap (λ (messages : List Message). messages ++ []) r.silent

    is_owed : IsOwed (record one { said = [] }) (end_in far_setup (calm far_side) far_tally (record t { expected = t.expected + 1 }) owing_grants (far_said ++ [])) label t.expected
    is_owed = record {
      returning = record {
        held = r.returning.held;
        known = r.returning.known;
        there = now_none (t.expected + 1) s.number [] refl there;
        back = now_none s.expected t.number (far_said ++ []) nothing_more (none_said s.expected t.number far_said r.silent r.returning.back);
        beside = subst (λ (held : List Grant). AreAtRest (end_in setup (calm side) tally (record s { expected = t.number; labels = without label_number k s.labels }) grants [])
            (end_in far_setup (calm far_side) far_tally (record t { expected = s.number }) held []))
            (sym (subst (λ n. without grant_label n owing_grants ≡ without grant_label n far_grants) its_label (without_put grant_label leaving far_grants)))
            r.returning.beside;
      };
      state = r.state;
      passed = omega (arith, there);
      heard = refl;
      silent = nothing_more;
      grant = leaving;
      granted = subst (λ n. at grant_label n owing_grants ≡ Some leaving) its_label
          (at_put_same grant_label leaving far_grants r.grant (ap (λ n. at grant_label n far_grants) its_label ∙ r.granted));
      same_flow = r.same_flow;
      input = input;
      leaving = refl;
    }

    pub recalled_owed : r.grant.state ≡ ByInput input
        → IsLeft other (hearing desk instances side.own.address other (reclaim_of one other label t.expected)) (TakeBack input (label_end far_setup.port k) ∷ [])
        (λ e. IsOwed (record one { said = [] }) e label t.expected)
    recalled_owed is_lent = subst (λ (w : Work). IsLeft other w (TakeBack input (label_end far_setup.port k) ∷ []) (λ e. IsOwed (record one { said = [] }) e label t.expected)) (sym heard_so)
        (record { going = refl; acts = refl; is_so = is_owed })
      where
        heard_so : comes_lent label.flow ≡ owing (TakeBack input (label_end far_setup.port k) ∷ [])
        heard_so = ap comes_lent (sym r.same_flow)
            ∙ grant_owed far_setup desk far_side far_tally instances far_grants side (met_back side far_side r.returning.beside.agreed.met) t r.number_left k r.returning.known r.grant r.granted input is_lent

    pub leaving_owed : (owed : Bool) → r.grant.state ≡ Leaving input owed
        → IsLeft other (hearing desk instances side.own.address other (reclaim_of one other label t.expected)) [] (λ e. IsOwed (record one { said = [] }) e label t.expected)
    leaving_owed owed is_leaving_now = subst (λ (w : Work). IsLeft other w [] (λ e. IsOwed (record one { said = [] }) e label t.expected)) (sym heard_so)
        (record { going = refl; acts = refl; is_so = is_owed })
      where
        heard_so : comes_lent label.flow ≡ owing []
        heard_so = ap comes_lent (sym r.same_flow)
            ∙ grant_owed_still far_setup desk far_side far_tally instances far_grants side (met_back side far_side r.returning.beside.agreed.met) t r.number_left k r.returning.known r.grant r.granted input owed is_leaving_now

  -- *A tick* says the RECLAIM again
  module _ (last : ℕ) (o : IsOwed one other label last) (left : s.number < last_number) where
    abbrev again : Label
    again = record label { state = Recalled s.number false }

    abbrev again_message : Message
    again_message = reclaim_of one other label s.number

    abbrev telling_again : Session
    telling_again = record s { labels = put label_number again s.labels; number = s.number + 1 }

    its_number : t.expected ≡ s.number
    its_number = none_said t.expected s.number said o.heard o.returning.there

    one_more : said ++ again_message ∷ [] ≡ again_message ∷ []
    one_more = ap (λ (messages : List Message). messages ++ again_message ∷ []) o.heard

    is_recalled_again : IsRecalled (end_in setup side tally telling_again grants (said ++ again_message ∷ [])) other again
    is_recalled_again = record {
      returning = record {
        held = at_put_same label_number again s.labels label o.returning.held;
        known = o.returning.known;
        there = now_one t.expected (s.number + 1) (said ++ again_message ∷ []) again_message one_more (ap (λ n. n + 1) its_number);
        back = o.returning.back;
        beside = beside_put o.returning again refl (s.number + 1) t.number s.known;
      };
      state = ap (λ n. Recalled n false) (sym its_number);
      number_left = subst (λ n. n < last_number) (sym its_number) left;
      said = one_more ∙ ap (λ n. reclaim_of one other label n ∷ []) (sym its_number);
      silent = o.silent;
      grant = o.grant;
      granted = o.granted;
      same_flow = o.same_flow;
    }

    pub owed_told_again : IsLeft one (ticks_label setup desk (working instances one) k) (Say again_message ∷ []) (λ e. IsRecalled e other again)
    owed_told_again = subst (λ (w : Work). IsLeft one w (Say again_message ∷ []) (λ e. IsRecalled e other again))
        (sym (label_told_again setup desk side tally instances grants far_side (met o.returning) s label o.returning.held last o.state left))
        (record { going = refl; acts = refl; is_so = is_recalled_again })

  -- and its input is released
  module _ (last : ℕ) (o : IsOwed one other label last) (left : t.number < last_number) where
    abbrev owed_ack : Message
    owed_ack = ack_of one other label t.number

    abbrev ended_grants : List Grant
    ended_grants = without grant_label k far_grants

    abbrev ended_work : FlowId → Work
    ended_work flow = at_work far_side far_tally instances (record t { number = t.number + 1 }) ended_grants
        (Say (reclaim_ack (label_channel_of k) flow far_side.own.instance side.own.instance t.number) ∷ [])

    it_ends : given_back (working instances other) o.grant ≡ ended_work label.flow
    it_ends = owed_ended far_setup desk far_side far_tally instances far_grants side (met_back side far_side o.returning.beside.agreed.met) t k o.grant o.granted o.input o.leaving left
        ∙ ap ended_work o.same_flow

    all_there : s.expected ≡ t.number
    all_there = none_said s.expected t.number far_said o.silent o.returning.back

    one_ack : far_said ++ owed_ack ∷ [] ≡ owed_ack ∷ []
    one_ack = ap (λ (messages : List Message). messages ++ owed_ack ∷ []) o.silent

    owed_is_answered : IsAnswered one (end_in far_setup far_side far_tally (record t { number = t.number + 1 }) ended_grants (far_said ++ owed_ack ∷ [])) label last
    owed_is_answered = record {
      given_back = record {
        returning = record {
          held = o.returning.held;
          known = o.returning.known;
          there = o.returning.there;
          back = now_one s.expected (t.number + 1) (far_said ++ owed_ack ∷ []) owed_ack one_ack (ap (λ n. n + 1) all_there);
          beside = subst (λ (held : List Grant). AreAtRest (end_in setup (calm side) tally (record s { expected = t.number + 1; labels = without label_number k s.labels }) grants [])
              (end_in far_setup (calm far_side) far_tally (record t { number = t.number + 1; expected = s.number }) held []))
              (sym (without_none grant_label k ended_grants (at_without_same grant_label k far_grants)))
              (beside_then o.returning s.number (t.number + 1) s.known);
        };
        state_is = o.state;
        ungranted = at_without_same grant_label k far_grants;
        heard = o.heard;
      };
      passed = o.passed;
      number_left = subst (λ n. n < last_number) (sym all_there) left;
      said = one_ack ∙ ap (λ n. ack_of one other label n ∷ []) (sym all_there);
    }

    pub owed_answered : IsLeft other (given_back (working instances other) o.grant) (Say owed_ack ∷ []) (λ e. IsAnswered one e label last)
    owed_answered = subst (λ (w : Work). IsLeft other w (Say owed_ack ∷ []) (λ e. IsAnswered one e label last)) (sym it_ends)
        (record { going = refl; acts = refl; is_so = owed_is_answered })

  -- *ACKs are heard* meanwhile
  module _ (last next : ℕ) (o : IsOwed one other label last) where
    one_label : (x y : Label) → Some x ≡ Some y → x ≡ y
    one_label x y e = cc

    waits_here : (n : ℕ) (l : Label) → at label_number n s.labels ≡ Some l → WaitsForNone l.state
    waits_here n l found = by_eq k n
        (λ is t. subst (λ (x : Label). WaitsForNone x.state) (one_label label l (sym o.returning.held ∙ (ap (λ m. at label_number m s.labels) is ∙ found)))
        (subst WaitsForNone (sym o.state) refl))
        (λ differs t. at_every label_number (λ (x : Label). (x.number ≡ k → ⊥) → WaitsForNone x.state) n s.labels l (others_wait o.returning) found
        (λ same_number. differs (sym same_number ∙ at_key label_number n s.labels l found)))

    waits_there : (n : ℕ) (l : Label) → at label_number n t.labels ≡ Some l → WaitsForNone l.state
    waits_there n l found = subst WaitsForNone (sym (at_every label_number (IsHeld far_setup.timers setup grants []) n t.labels l o.returning.beside.agreed.back.labels found).offered) tt

    quiet_here : said ++ [] ≡ []
    quiet_here = ap (λ (messages : List Message). messages ++ []) o.heard

    quiet_far : far_said ++ [] ≡ []
    quiet_far = ap (λ (messages : List Message). messages ++ []) o.silent

    owed_here : IsOwed (end_in setup (calm side) tally (record s { known = max s.known next }) grants (said ++ [])) other label last
    owed_here = record {
      returning = record {
        held = o.returning.held;
        known = o.returning.known;
        there = now_none t.expected s.number (said ++ []) quiet_here (none_said t.expected s.number said o.heard o.returning.there);
        back = o.returning.back;
        beside = beside_then o.returning s.number t.number (max s.known next);
      };
      state = o.state;
      passed = o.passed;
      heard = quiet_here;
      silent = o.silent;
      grant = o.grant;
      granted = o.granted;
      same_flow = o.same_flow;
      input = o.input;
      leaving = o.leaving;
    }

    owed_there : IsOwed one (end_in far_setup (calm far_side) far_tally (record t { known = max t.known next }) far_grants (far_said ++ [])) label last
    owed_there = record {
      returning = record {
        held = o.returning.held;
        known = o.returning.known;
        there = o.returning.there;
        back = now_none s.expected t.number (far_said ++ []) quiet_far (none_said s.expected t.number far_said o.silent o.returning.back);
        beside = numbered setup (calm side) tally (record s { labels = without label_number k s.labels; expected = t.number }) grants far_setup (calm far_side) far_tally
            (record t { expected = s.number }) (without grant_label k far_grants) o.returning.beside s.number t.number s.known (max t.known next);
      };
      state = o.state;
      passed = o.passed;
      heard = o.heard;
      silent = quiet_far;
      grant = o.grant;
      granted = o.granted;
      same_flow = o.same_flow;
      input = o.input;
      leaving = o.leaving;
    }

    pub owed_greeted : StaysOwed desk instances one other label last next
    owed_greeted = record {
      by_giver = subst (λ (w : Work). IsLeft one w [] (λ e. IsOwed e other label last)) (sym (ack_passed setup desk side tally instances grants far_side (met o.returning) s next waits_here))
          (record { going = refl; acts = refl; is_so = owed_here });
      by_taker = subst (λ (w : Work). IsLeft other w [] (λ e. IsOwed one e label last))
          (sym (ack_passed far_setup desk far_side far_tally instances far_grants side (met_back side far_side o.returning.beside.agreed.met) t next waits_there))
          (record { going = refl; acts = refl; is_so = owed_there });
    }

  -- *The RECLAIM ACK is heard*, and kept
  module _ (last : ℕ) (a : IsAnswered one other label last) (unpassed : s.known ≤ last) where
    abbrev acked : Label
    acked = record label { state = Recalled last true }

    abbrev keeping : Session
    keeping = record s { expected = s.expected + 1; labels = put label_number acked s.labels }

    abbrev kept_work : Work
    kept_work = at_work (calm side) tally instances keeping grants []

    pub is_kept : hearing desk instances far_side.own.address one (ack_of one other label s.expected) ≡ kept_work
    is_kept = ack_kept setup desk side tally instances grants far_side (met a.given_back.returning) s a.number_left label a.given_back.returning.known a.given_back.returning.held last a.given_back.state_is unpassed

    none_there : said ++ [] ≡ []
    none_there = ap (λ (messages : List Message). messages ++ []) a.given_back.heard

    pub is_acknowledged : IsAcknowledged (end_in setup (calm side) tally keeping grants (said ++ [])) (record other { said = [] }) acked last
    is_acknowledged = record {
      given_back = record {
        returning = record {
          held = at_put_same label_number acked s.labels label a.given_back.returning.held;
          known = a.given_back.returning.known;
          there = now_none t.expected s.number (said ++ []) none_there (none_said t.expected s.number said a.given_back.heard a.given_back.returning.there);
          back = now_none (s.expected + 1) t.number [] refl (one_said s.expected t.number far_said (ack_of one other label s.expected) a.said a.given_back.returning.back);
          beside = beside_put a.given_back.returning acked refl s.number t.number s.known;
        };
        state_is = refl;
        ungranted = a.given_back.ungranted;
        heard = none_there;
      };
      passed = a.passed;
      silent = refl;
    }

    pub answered_kept : IsLeft one (hearing desk instances far_side.own.address one (ack_of one other label s.expected)) []
        (λ e. IsAcknowledged e (record other { said = [] }) acked last)
    answered_kept = subst (λ (w : Work). IsLeft one w [] (λ e. IsAcknowledged e (record other { said = [] }) acked last)) (sym is_kept)
        (record { going = refl; acts = refl; is_so = is_acknowledged })

  -- or the label is quit
  module _ (last : ℕ) (a : IsAnswered one other label last) (passed : last < s.known) (room : HasRoomToQuit desk instances one label.number) where
    abbrev acked_first : Label
    acked_first = record label { state = Recalled last true }

    abbrev wired_then : Label
    wired_then = record label { state = Wired }

    abbrev acked_labels : List Label
    acked_labels = put label_number acked_first s.labels

    abbrev quit_then : Session
    quit_then = record s { expected = s.expected + 1; labels = put label_number wired_then acked_labels }

    abbrev quits_at_once : Work
    quits_at_once = at_work (calm side) tally instances quit_then grants (CutChain label.number ∷ Ask (label_tree setup label.number) false ∷ [])

    is_quit_then : hearing desk instances far_side.own.address one (ack_of one other label s.expected) ≡ quits_at_once
    is_quit_then = ack_quits setup desk side tally instances grants far_side (met a.given_back.returning) s a.number_left label a.given_back.returning.known a.given_back.returning.held
        last a.given_back.state_is passed room.unasked room.room

    quiet_there : said ++ [] ≡ []
    quiet_there = ap (λ (messages : List Message). messages ++ []) a.given_back.heard

    is_quit_so : IsQuit (end_in setup (calm side) tally quit_then grants (said ++ [])) (record other { said = [] }) wired_then
    is_quit_so = record {
      given_back = record {
        returning = record {
          held = at_put_same label_number wired_then acked_labels acked_first (at_put_same label_number acked_first s.labels label a.given_back.returning.held);
          known = a.given_back.returning.known;
          there = now_none t.expected s.number (said ++ []) quiet_there (none_said t.expected s.number said a.given_back.heard a.given_back.returning.there);
          back = now_none (s.expected + 1) t.number [] refl (one_said s.expected t.number far_said (ack_of one other label s.expected) a.said a.given_back.returning.back);
          beside = subst (λ (labels : List Label). AreAtRest (end_in setup (calm side) tally (record s { expected = t.number; labels = labels }) grants [])
              (end_in far_setup (calm far_side) far_tally (record t { expected = s.number }) (without grant_label k far_grants) []))
              (sym (without_put label_number wired_then acked_labels))
              (beside_put a.given_back.returning acked_first refl s.number t.number s.known);
        };
        state_is = refl;
        ungranted = a.given_back.ungranted;
        heard = quiet_there;
      };
      silent = refl;
    }

    pub answered_quit : IsLeft one (hearing desk instances far_side.own.address one (ack_of one other label s.expected)) (CutChain label.number ∷ Ask (label_tree setup label.number) false ∷ [])
        (λ e. IsQuit e (record other { said = [] }) wired_then)
    answered_quit = subst (λ (w : Work). IsLeft one w (CutChain label.number ∷ Ask (label_tree setup label.number) false ∷ []) (λ e. IsQuit e (record other { said = [] }) wired_then)) (sym is_quit_then)
        (record { going = refl; acts = refl; is_so = is_quit_so })

  -- *A tick says LABEL RANGE*
  module _ (last : ℕ) (a : IsAcknowledged one other label last) (unpassed : s.known ≤ last) (left : s.number < last_number) where
    abbrev range : Message
    range = range_of one other s.number

    it_is_last : t.expected ≡ s.number
    it_is_last = none_said t.expected s.number said a.given_back.heard a.given_back.returning.there

    one_range : said ++ range ∷ [] ≡ range ∷ []
    one_range = ap (λ (messages : List Message). messages ++ range ∷ []) a.given_back.heard

    is_nudged : IsNudged (end_in setup side tally (record s { number = s.number + 1 }) grants (said ++ range ∷ [])) other label last
    is_nudged = record {
      returning = record {
        held = a.given_back.returning.held;
        known = a.given_back.returning.known;
        there = now_one t.expected (s.number + 1) (said ++ range ∷ []) range one_range (ap (λ n. n + 1) it_is_last);
        back = a.given_back.returning.back;
        beside = beside_then a.given_back.returning (s.number + 1) t.number s.known;
      };
      state = a.given_back.state_is;
      ungranted = a.given_back.ungranted;
      passed = omega (arith, a.passed);
      number_left = subst (λ n. n < last_number) (sym it_is_last) left;
      said = one_range ∙ ap (λ n. range_of one other n ∷ []) (sym it_is_last);
      silent = a.silent;
    }

    pub acknowledged_nudged : IsLeft one (nudges setup (working instances one)) (Say range ∷ []) (λ e. IsNudged e other label last)
    acknowledged_nudged = subst (λ (w : Work). IsLeft one w (Say range ∷ []) (λ e. IsNudged e other label last))
        (sym (range_said setup desk side tally instances grants far_side (met a.given_back.returning) s
        (at_any label_number (λ (l : Label). is_unpassed s.known l.state) k s.labels label a.given_back.returning.held (ap (is_unpassed s.known) a.given_back.state_is ∙ at_most s.known last unpassed)) left))
        (record { going = refl; acts = refl; is_so = is_nudged })

  -- and that is heard
  module _ (last : ℕ) (n : IsNudged one other label last) (inside : AreInside one other) where
    abbrev narrow : Session
    narrow = record (narrowed_by setup t) { expected = t.expected + 1 }

    now_expected : t.expected + 1 ≡ s.number
    now_expected = one_said t.expected s.number said (range_of one other t.expected) n.said n.returning.there

    none_more : far_said ++ [] ≡ []
    none_more = ap (λ (messages : List Message). messages ++ []) n.silent

    acknowledged_still : IsAcknowledged (record one { said = [] }) (end_in far_setup (calm far_side) far_tally narrow far_grants (far_said ++ [])) label last
    acknowledged_still = record {
      given_back = record {
        returning = record {
          held = n.returning.held;
          known = n.returning.known;
          there = now_none (t.expected + 1) s.number [] refl now_expected;
          back = now_none s.expected t.number (far_said ++ []) none_more (none_said s.expected t.number far_said n.silent n.returning.back);
          beside = ranged_so setup (calm side) tally (record s { labels = without label_number k s.labels; expected = t.number }) grants far_setup (calm far_side) far_tally
              (record t { expected = s.number }) (without grant_label k far_grants) n.returning.beside (narrowed_by setup t).least (narrowed_by setup t).greatest;
        };
        state_is = n.state;
        ungranted = n.ungranted;
        heard = refl;
      };
      passed = n.passed;
      silent = none_more;
    }

    pub nudged_acknowledged : IsLeft other (hearing desk instances side.own.address other (range_of one other t.expected)) [] (λ e. IsAcknowledged (record one { said = [] }) e label last)
    nudged_acknowledged = subst (λ (w : Work). IsLeft other w [] (λ e. IsAcknowledged (record one { said = [] }) e label last))
        (sym (range_heard far_setup desk far_side far_tally instances far_grants side (met_back side far_side n.returning.beside.agreed.met) t n.number_left
        (label_channel_of setup.least) (label_channel_of setup.greatest) (inside t refl)))
        (record { going = refl; acts = refl; is_so = acknowledged_still })

  -- *An ACK is heard*, and the label is quit
  module _ (last next : ℕ) (a : IsAcknowledged one other label last) (passed : last < next) (room : HasRoomToQuit desk instances one label.number) where
    abbrev wired : Label
    wired = record label { state = Wired }

    abbrev quitting : Session
    quitting = record s { known = max s.known next; labels = put label_number wired s.labels }

    abbrev quit_work : Work
    quit_work = at_work (calm side) tally instances quitting grants (CutChain label.number ∷ Ask (label_tree setup label.number) false ∷ [])

    pub it_quits : hearing desk instances far_side.own.address one (ack_from other one next) ≡ quit_work
    it_quits = label_quit setup desk side tally instances grants far_side (met a.given_back.returning) s next label a.given_back.returning.held last a.given_back.state_is passed (others_wait a.given_back.returning) room.unasked room.room

    still_none : said ++ [] ≡ []
    still_none = ap (λ (messages : List Message). messages ++ []) a.given_back.heard

    pub is_quit : IsQuit (end_in setup (calm side) tally quitting grants (said ++ [])) other wired
    is_quit = record {
      given_back = record {
        returning = record {
          held = at_put_same label_number wired s.labels label a.given_back.returning.held;
          known = a.given_back.returning.known;
          there = now_none t.expected s.number (said ++ []) still_none (none_said t.expected s.number said a.given_back.heard a.given_back.returning.there);
          back = a.given_back.returning.back;
          beside = beside_put a.given_back.returning wired refl s.number t.number (max s.known next);
        };
        state_is = refl;
        ungranted = a.given_back.ungranted;
        heard = still_none;
      };
      silent = a.silent;
    }

    pub acknowledged_quit : IsLeft one (hearing desk instances far_side.own.address one (ack_from other one next)) (CutChain label.number ∷ Ask (label_tree setup label.number) false ∷ [])
        (λ e. IsQuit e other wired)
    acknowledged_quit = subst (λ (w : Work). IsLeft one w (CutChain label.number ∷ Ask (label_tree setup label.number) false ∷ []) (λ e. IsQuit e other wired)) (sym it_quits)
        (record { going = refl; acts = refl; is_so = is_quit })

  -- *Its branch is deleted*
  module _ (q : IsQuit one other label) (calm_here : side.silence ≡ 0) (calm_there : far_side.silence ≡ 0) where
    abbrev spare : Session
    spare = record s { labels = without label_number k s.labels }

    abbrev freed_work : Work
    freed_work = at_work side tally instances spare grants (Note (Free setup.node setup.port k) ∷ [])

    pub it_is_freed : done setup (working instances one) (label_tree setup k) ≡ freed_work
    it_is_freed = label_freed setup empty_desk side tally instances grants far_side (met q.given_back.returning) s label q.given_back.returning.known q.given_back.returning.held q.given_back.state_is

    at_rest : AreAtRest (end_in setup side tally spare grants (said ++ [])) other
    at_rest = subst (λ (messages : List Message). AreAtRest (end_in setup side tally spare grants messages) other) (sym (ap (λ (messages : List Message). messages ++ []) q.given_back.heard))
        (subst (λ (messages : List Message). AreAtRest (end_in setup side tally spare grants []) (end_in far_setup far_side far_tally t far_grants messages)) (sym q.silent)
        (subst (λ n. AreAtRest (end_in setup (record side { silence = n }) tally spare grants []) (end_in far_setup far_side far_tally t far_grants [])) (sym calm_here)
        (subst (λ n. AreAtRest (end_in setup (calm side) tally spare grants []) (end_in far_setup (record far_side { silence = n }) far_tally t far_grants [])) (sym calm_there)
        (subst (λ n. AreAtRest (end_in setup (calm side) tally (record spare { expected = n }) grants []) (end_in far_setup (calm far_side) far_tally t far_grants []))
        (sym (none_said s.expected t.number far_said q.silent q.given_back.returning.back))
        (subst (λ n. AreAtRest (end_in setup (calm side) tally (record spare { expected = t.number }) grants []) (end_in far_setup (calm far_side) far_tally (record t { expected = n }) far_grants []))
        (sym (none_said t.expected s.number said q.given_back.heard q.given_back.returning.there))
        (subst (λ (held : List Grant). AreAtRest (end_in setup (calm side) tally (record spare { expected = t.number }) grants []) (end_in far_setup (calm far_side) far_tally (record t { expected = s.number }) held []))
        (without_none grant_label k far_grants q.given_back.ungranted) q.given_back.returning.beside))))))

    pub is_spare : AreAtRestWithout (end_in setup side tally spare grants (said ++ [])) other k
    is_spare = record { at_rest = at_rest; spare = at_without_same label_number k s.labels; ungranted = q.given_back.ungranted }

    pub quit_freed : IsLeft one (done setup (working instances one) (label_tree setup k)) (Note (Free setup.node setup.port k) ∷ []) (λ e. AreAtRestWithout e other k)
    quit_freed = subst (λ (w : Work). IsLeft one w (Note (Free setup.node setup.port k) ∷ []) (λ e. AreAtRestWithout e other k)) (sym it_is_freed)
        (record {
          going = refl;
          acts = refl;
          is_so = is_spare;
        })

pub recalled_are_answered : RecalledAreAnswered
recalled_are_answered desk instances giver taker label r not_lent left =
    by_ends (λ (x y : EndOfLink). (q : IsRecalled x y label) → lent_input q.grant.state ≡ None → number_of y.port < last_number
    → IsLeft y (hearing desk instances x.port.adjacency.own.address y (reclaim_of x y label (expected_of y.port))) (Say (ack_of x y label (number_of y.port)) ∷ [])
    (λ e. IsAnswered (record x { said = [] }) e label (expected_of y.port)))
    (recalled_answered desk instances label) giver taker label r.returning r not_lent left

pub recalled_are_owed : RecalledAreOwed
recalled_are_owed desk instances giver taker label r input is_lent =
    by_ends (λ (x y : EndOfLink). (q : IsRecalled x y label) → q.grant.state ≡ ByInput input
    → IsLeft y (hearing desk instances x.port.adjacency.own.address y (reclaim_of x y label (expected_of y.port))) (TakeBack input (label_end y.setup.port label.number) ∷ [])
    (λ e. IsOwed (record x { said = [] }) e label (expected_of y.port)))
    (λ setup side tally s grants said far_setup far_side far_tally t far_grants far_said q.
    recalled_owed desk instances label setup side tally s grants said far_setup far_side far_tally t far_grants far_said q input)
    giver taker label r.returning r is_lent

pub owed_are_told_again : OwedAreToldAgain
owed_are_told_again desk instances giver taker label last o left =
    by_ends (λ (x y : EndOfLink). IsOwed x y label last → number_of x.port < last_number
    → IsLeft x (ticks_label x.setup desk (working instances x) label.number) (Say (reclaim_of x y label (number_of x.port)) ∷ [])
    (λ e. IsRecalled e y (record label { state = Recalled (number_of x.port) false })))
    (λ setup side tally s grants said far_setup far_side far_tally t far_grants far_said.
    owed_told_again desk instances label setup side tally s grants said far_setup far_side far_tally t far_grants far_said last)
    giver taker label o.returning o left

pub leaving_stay_owed : LeavingStayOwed
leaving_stay_owed desk instances giver taker label r input owed is_leaving_now =
    by_ends (λ (x y : EndOfLink). (q : IsRecalled x y label) → q.grant.state ≡ Leaving input owed
    → IsLeft y (hearing desk instances x.port.adjacency.own.address y (reclaim_of x y label (expected_of y.port))) []
    (λ e. IsOwed (record x { said = [] }) e label (expected_of y.port)))
    (λ setup side tally s grants said far_setup far_side far_tally t far_grants far_said q.
    leaving_owed desk instances label setup side tally s grants said far_setup far_side far_tally t far_grants far_said q input owed)
    giver taker label r.returning r is_leaving_now

pub owed_are_answered : OwedAreAnswered
owed_are_answered instances giver taker label last o left =
    by_ends (λ (x y : EndOfLink). (q : IsOwed x y label last) → number_of y.port < last_number
    → IsLeft y (given_back (working instances y) q.grant) (Say (ack_of x y label (number_of y.port)) ∷ []) (λ e. IsAnswered x e label last))
    (λ setup side tally s grants said far_setup far_side far_tally t far_grants far_said.
    owed_answered empty_desk instances label setup side tally s grants said far_setup far_side far_tally t far_grants far_said last)
    giver taker label o.returning o left

pub answered_are_kept : AnsweredAreKept
answered_are_kept desk instances giver taker label last a unpassed =
    by_ends (λ (x y : EndOfLink). IsAnswered x y label last → known_of x.port ≤ last
    → IsLeft x (hearing desk instances y.port.adjacency.own.address x (ack_of x y label (expected_of x.port))) []
    (λ e. IsAcknowledged e (record y { said = [] }) (record label { state = Recalled last true }) last))
    (λ setup side tally s grants said far_setup far_side far_tally t far_grants far_said.
    answered_kept desk instances label setup side tally s grants said far_setup far_side far_tally t far_grants far_said last)
    giver taker label a.given_back.returning a unpassed

pub owed_are_greeted : OwedAreGreeted
owed_are_greeted desk instances giver taker label last next o =
    by_ends (λ (x y : EndOfLink). IsOwed x y label last → StaysOwed desk instances x y label last next)
    (λ setup side tally s grants said far_setup far_side far_tally t far_grants far_said.
    owed_greeted desk instances label setup side tally s grants said far_setup far_side far_tally t far_grants far_said last next)
    giver taker label o.returning o

pub answered_are_quit : AnsweredAreQuit
answered_are_quit desk instances giver taker label last a passed room =
    by_ends (λ (x y : EndOfLink). IsAnswered x y label last → last < known_of x.port → HasRoomToQuit desk instances x label.number
    → IsLeft x (hearing desk instances y.port.adjacency.own.address x (ack_of x y label (expected_of x.port))) (CutChain label.number ∷ Ask (label_tree x.setup label.number) false ∷ [])
    (λ e. IsQuit e (record y { said = [] }) (record label { state = Wired })))
    (λ setup side tally s grants said far_setup far_side far_tally t far_grants far_said.
    answered_quit desk instances label setup side tally s grants said far_setup far_side far_tally t far_grants far_said last)
    giver taker label a.given_back.returning a passed room

pub acknowledged_are_nudged : AcknowledgedAreNudged
acknowledged_are_nudged instances giver taker label last a unpassed left =
    by_ends (λ (x y : EndOfLink). IsAcknowledged x y label last → known_of x.port ≤ last → number_of x.port < last_number
    → IsLeft x (nudges x.setup (working instances x)) (Say (range_of x y (number_of x.port)) ∷ []) (λ e. IsNudged e y label last))
    (λ setup side tally s grants said far_setup far_side far_tally t far_grants far_said.
    acknowledged_nudged empty_desk instances label setup side tally s grants said far_setup far_side far_tally t far_grants far_said last)
    giver taker label a.given_back.returning a unpassed left

pub nudged_are_acknowledged : NudgedAreAcknowledged
nudged_are_acknowledged desk instances giver taker label last n inside =
    by_ends (λ (x y : EndOfLink). IsNudged x y label last → AreInside x y
    → IsLeft y (hearing desk instances x.port.adjacency.own.address y (range_of x y (expected_of y.port))) [] (λ e. IsAcknowledged (record x { said = [] }) e label last))
    (λ setup side tally s grants said far_setup far_side far_tally t far_grants far_said.
    nudged_acknowledged desk instances label setup side tally s grants said far_setup far_side far_tally t far_grants far_said last)
    giver taker label n.returning n inside

pub acknowledged_are_quit : AcknowledgedAreQuit
acknowledged_are_quit desk instances giver taker label last next a passed room =
    by_ends (λ (x y : EndOfLink). IsAcknowledged x y label last → HasRoomToQuit desk instances x label.number
    → IsLeft x (hearing desk instances y.port.adjacency.own.address x (ack_from y x next)) (CutChain label.number ∷ Ask (label_tree x.setup label.number) false ∷ [])
    (λ e. IsQuit e y (record label { state = Wired })))
    (λ setup side tally s grants said far_setup far_side far_tally t far_grants far_said b.
    acknowledged_quit desk instances label setup side tally s grants said far_setup far_side far_tally t far_grants far_said last next b passed)
    giver taker label a.given_back.returning a room

pub quit_are_freed : QuitAreFreed
quit_are_freed instances giver taker label q calm_here calm_there =
    by_ends (λ (x y : EndOfLink). IsQuit x y label → x.port.adjacency.silence ≡ 0 → y.port.adjacency.silence ≡ 0
    → IsLeft x (done x.setup (working instances x) (label_tree x.setup label.number)) (Note (Free x.setup.node x.setup.port label.number) ∷ [])
    (λ e. AreAtRestWithout e y label.number))
    (quit_freed empty_desk instances label) giver taker label q.given_back.returning q calm_here calm_there
