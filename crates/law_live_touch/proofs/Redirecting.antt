-- a REDIRECT is heard, and a LABEL RANGE

use Rattle.std.proofs.Common.{◌≡◌, ◌≢◌, ℕ, ◌≤◌, ◌<◌, ◌+◌, false, true, List, [], ◌∷◌, ◌++◌, None, Some, length, refl, sym, ◌∙◌, ap, subst, arith, ◌⊎◌, inl, inr}
use Rattle.std.specs.Prelude.{not}
use Rattle.live_model.specs.world_model.Words.{FlowId, LabelRange, Peer, Side, Redirect, label_channel_of, label_number_of, at, put, Desk, Setup, is_in_range, Label, label_number, labels_of, label_at, Grant, Idle, grant_label, is_leaving, most_grants, Session, known_of, last_number, has_room, narrowed, hears}
use Rattle.live_model.specs.world_model.ifmp_wire.declared.message.Message.{Message}
use Rattle.live_model.specs.world_model.port_model.Port.{Port}
use Rattle.live_model.specs.world_model.port_model.Setup.{is_between}
use Rattle.live_model.specs.world_model.port_model.declared.action.Action.TheVariants.{Ask}
use Rattle.law_port_facts.specs.ordered_lists.Ordered.{InOrder}
use Rattle.law_port_facts.proofs.ordered_lists.Every.{every_map}
use Rattle.law_port_facts.proofs.Keyed.{at_key, at_every, at_put_same, at_put_other, put_order, apart_more}
use Rattle.law_live_labels.specs.Law.{IsTaken, accepted}
use Rattle.law_live_labels.proofs.Agreed.{grants_are_made, grants_are_refreshed}
use Rattle.law_live_links.specs.Law.{EndOfLink, number_of, IsToldAnew, working, hearing}
use Rattle.law_live_links.proofs.Resting.{end_in}
use Rattle.law_live_bindings.specs.Law.{grant_branch, HasRoomFor}
use Rattle.law_live_bindings.proofs.Places.{at_more_same, at_more_other}
use Rattle.law_live_recalls.proofs.Rules.{taken, range_heard}
use Rattle.law_live_touch.specs.Touch.{LeadFrom, Between, between, IsGranted, IsInState, IsOffered, Stands, IsInRanges, AreInTouch}
use Rattle.law_live_touch.specs.Law.{makes_grant, TouchOn}
use Rattle.law_live_touch.proofs.Heard.{IsTold, redirected, is_granted}
use Rattle.law_live_touch.proofs.Ends.{changed, of_another, on_hearing_silent}
use Rattle.law_live_touch.proofs.Rules.{narrower}
use Rattle.law_live_touch.proofs.Hearing.{heard, ours_stand, theirs_stand, same_ranges}

-- *A REDIRECT*
module _ (desk : Desk) (instances : ℕ) (setup : Setup) (side : Side Peer) (tally : ℕ) (s : Session) (grants : List Grant) (said : List Message)
    (far_setup : Setup) (far_port : Port) (label : ℕ) (flow : FlowId) (known : label_number_of (label_channel_of label) ≡ Some label) (rest : List Message) where
  abbrev lifetime : ℕ
  lifetime = far_setup.timers.lifetime

  abbrev telling : (label : ℕ) → FlowId → Message
  telling label flow = Redirect far_port.adjacency.own.instance side.own.instance s.expected lifetime (label_channel_of label) flow

  abbrev message : Message
  message = telling label flow

  abbrev one : EndOfLink
  one = end_in setup side tally s grants said

  abbrev other : EndOfLink
  other = record { setup = far_setup; port = far_port; said = message ∷ rest }

  abbrev other_then : EndOfLink
  other_then = record { setup = far_setup; port = far_port; said = rest }

  abbrev calm : Side Peer
  calm = record side { silence = 0 }

  module _ (t : AreInTouch one other) (due : s.expected < last_number) (leads : LeadFrom far_port.adjacency.own side.own far_setup (s.expected + 1) (number_of far_port) rest) where
    abbrev first_there : Between
    first_there = between other one label

    its : IsTold far_setup.timers label flow first_there (label_at far_port label)
    its = redirected far_setup.timers label (at grant_label label grants) message rest said s.expected (known_of far_port) flow (λ says. says known) (λ its tells. tells known) (λ its last reclaims. reclaims known)
        (label_at far_port label) (t.back.labels label)

    in_range : is_in_range setup label ≡ true
    in_range = subst (λ n. is_in_range setup n ≡ true) (at_key label_number label (labels_of far_port) its.held its.is)
        (at_every label_number (IsInRanges setup far_port.session) label (labels_of far_port) its.held t.back.ranges its.is).in_range

    is_taken : IsTaken setup (working instances one) s far_port.adjacency.own.address far_port.adjacency.own.instance side.own.instance s.expected label
    is_taken = record {
      working = record { of_link = t.one_end.of_link; going = refl; is_open = refl };
      taken = taken setup desk side tally instances grants far_port.adjacency t.met s due;
      in_range = in_range;
    }

    abbrev tally_then : ℕ
    tally_then = (accepted (working instances one) s s.expected grants).redirects

    abbrev heard_session : Session
    heard_session = record s { expected = s.expected + 1 }

    -- a grant of it is held then, and the others as before
    module _ (held : List Grant) (grant : Grant) (found : at grant_label label held ≡ Some grant) (others : (k : ℕ) → label ≢ k → at grant_label k held ≡ at grant_label k grants)
        (same_flow : grant.flow ≡ its.held.flow) (stays : is_leaving grant.state ≡ false) (lives : grant.lifetime ≡ lifetime)
        (apart : InOrder (λ (a b : Grant). grant_label a ≡ grant_label b → ⊥) held) where
      abbrev then_between : (k : ℕ) → Between
      then_between k = record { granted = at grant_label k held; there = rest; back = said; expected = s.expected + 1; known = known_of far_port }

      lasts : (life left ticks : ℕ) → left ≡ life → life ≤ left + ticks
      lasts life left ticks e = omega (arith, e)

      its_own : Stands far_setup.timers label (then_between label) (label_at far_port label)
      its_own = subst (Stands far_setup.timers label (then_between label)) (sym its.is)
          (subst (IsInState far_setup.timers label its.held.flow its.held.ticks (then_between label)) (sym its.offered)
          (subst (λ o. IsOffered far_setup.timers label its.held.flow its.held.ticks (record (then_between label) { granted = o })) (sym found)
          (is_granted far_setup.timers label (at grant_label label grants) message rest said s.expected (known_of far_port) its.held.flow its.held.ticks (s.expected + 1) grant same_flow stays
          (lasts lifetime grant.lifetime its.held.ticks lives) its.stands)))

      held_touch : AreInTouch (end_in setup calm tally_then heard_session held said) other_then
      held_touch = heard desk instances setup side tally s grants said far_setup far_port message rest t leads tally_then heard_session held said refl refl t.one_end.labels_apart apart t.there.numbers t.back.named
          (same_ranges desk instances setup side tally s grants said far_setup far_port message rest t leads heard_session refl refl s.labels t.there.ranges)
          (λ k. ours_stand desk instances setup side tally s grants said far_setup far_port message rest t leads k tt)
          (changed (λ k. Stands far_setup.timers k (then_between k) (label_at far_port k)) label its_own
          (λ k differs. subst (λ o. Stands far_setup.timers k (record (then_between k) { granted = o }) (label_at far_port k)) (sym (others k differs))
          (theirs_stand desk instances setup side tally s grants said far_setup far_port message rest t leads k (of_another label k known differs))))

    -- *that isn't granted yet*
    module _ (none : at grant_label label grants ≡ None) (few : length grants < most_grants) (room : has_room desk (working instances one) ≡ true) where
      abbrev grant : Grant
      grant = record { label = label; flow = flow; lifetime = lifetime; state = Idle }

      abbrev more_grants : List Grant
      more_grants = grants ++ grant ∷ []

      grant_on : TouchOn one other_then (hearing desk instances far_port.adjacency.own.address one message)
      grant_on = subst (TouchOn one other_then)
          (sym (grants_are_made setup desk (working instances one) s far_port.adjacency.own.address far_port.adjacency.own.instance side.own.instance s.expected label lifetime flow is_taken none few room))
          (on_hearing_silent setup side tally s grants said other t calm tally_then instances heard_session more_grants (Ask (grant_branch setup label) false ∷ []) rest (makes_grant label, tt) refl
          (held_touch more_grants grant (at_more_same grant_label grants grant none) (λ k differs. at_more_other grant_label k grants grant differs) its.same_flow refl refl
          (apart_more grant_label grants grant none t.one_end.grants_apart)))

    -- *that is*
    module _ (g : IsGranted far_setup.timers label its.held.flow its.held.ticks first_there) where
      same_label : g.grant.label ≡ label
      same_label = at_key grant_label label grants g.grant g.granted

      there_now : at grant_label g.grant.label grants ≡ Some g.grant
      there_now = ap (λ k. at grant_label k grants) same_label ∙ g.granted

      abbrev renewed : Grant
      renewed = record g.grant { lifetime = lifetime }

      abbrev renewed_grants : List Grant
      renewed_grants = put grant_label renewed grants

      refresh_on : TouchOn one other_then (hearing desk instances far_port.adjacency.own.address one message)
      refresh_on = subst (TouchOn one other_then)
          (sym (ap (λ f. hears setup desk (working instances one) far_port.adjacency.own.address (telling label f)) (its.same_flow ∙ sym g.same_flow)
          ∙ (ap (λ n. hears setup desk (working instances one) far_port.adjacency.own.address (telling n g.grant.flow)) (sym same_label)
          ∙ grants_are_refreshed setup desk (working instances one) s far_port.adjacency.own.address far_port.adjacency.own.instance side.own.instance s.expected lifetime g.grant
          (subst (λ n. IsTaken setup (working instances one) s far_port.adjacency.own.address far_port.adjacency.own.instance side.own.instance s.expected n) (sym same_label) is_taken) there_now g.stays)))
          (on_hearing_silent setup side tally s grants said other t calm tally_then instances heard_session renewed_grants [] rest tt refl
          (held_touch renewed_grants renewed (ap (λ k. at grant_label k renewed_grants) (sym same_label) ∙ at_put_same grant_label renewed grants g.grant there_now)
          (λ k differs. at_put_other grant_label renewed k grants (λ e. differs (sym same_label ∙ e))) g.same_flow g.stays refl
          (put_order grant_label (λ m n. m ≡ n → ⊥) renewed grants t.one_end.grants_apart)))

    pub redirect_heard : HasRoomFor desk instances one message → TouchOn one other_then (hearing desk instances far_port.adjacency.own.address one message)
    redirect_heard room = by its.stands.held_or_new
      where
        by : IsGranted far_setup.timers label its.held.flow its.held.ticks first_there ⊎ ((at grant_label label grants ≡ None) × IsToldAnew label (message ∷ rest))
            → TouchOn one other_then (hearing desk instances far_port.adjacency.own.address one message)
        by (inl g) = refresh_on g
        by (inr new) = (let here = room label known new.0 in grant_on new.0 here.0 here.1)

-- *LABEL RANGE*, by which no label is recalled
module _ (desk : Desk) (instances : ℕ) (setup : Setup) (side : Side Peer) (tally : ℕ) (s : Session) (grants : List Grant) (said : List Message)
    (far_setup : Setup) (far_port : Port) (rest : List Message) where
  abbrev range : Message
  range = LabelRange far_port.adjacency.own.instance side.own.instance s.expected (label_channel_of far_setup.least) (label_channel_of far_setup.greatest)

  module _ (t : AreInTouch (end_in setup side tally s grants said) (record { setup = far_setup; port = far_port; said = range ∷ rest })) (due : s.expected < last_number)
      (leads : LeadFrom far_port.adjacency.own side.own far_setup (s.expected + 1) (number_of far_port) rest) where
    abbrev narrow : Session
    narrow = record (narrowed (label_channel_of far_setup.least) (label_channel_of far_setup.greatest) s) { expected = s.expected + 1 }

    inside : (label : Label) → IsInRanges far_setup (Some s) label → is_between narrow.least narrow.greatest (label_channel_of label.number) ≡ true
    inside label r = narrower s.least s.greatest far_setup label.number r.inside r.in_range

    pub range_on : TouchOn (end_in setup side tally s grants said) (record { setup = far_setup; port = far_port; said = rest })
        (hearing desk instances far_port.adjacency.own.address (end_in setup side tally s grants said) range)
    range_on = subst (TouchOn (end_in setup side tally s grants said) (record { setup = far_setup; port = far_port; said = rest }))
        (sym (range_heard setup desk side tally instances grants far_port.adjacency t.met s due (label_channel_of far_setup.least) (label_channel_of far_setup.greatest)
        (every_map (IsInRanges far_setup (Some s)) (λ (l : Label). is_between narrow.least narrow.greatest (label_channel_of l.number) ≡ true) s.labels inside t.there.ranges)))
        (on_hearing_silent setup side tally s grants said (record { setup = far_setup; port = far_port; said = range ∷ rest }) t (record side { silence = 0 }) tally instances narrow grants [] rest tt refl
        (heard desk instances setup side tally s grants said far_setup far_port range rest t leads tally narrow grants said refl refl t.one_end.labels_apart t.one_end.grants_apart t.there.numbers t.back.named
        (every_map (IsInRanges far_setup (Some s)) (IsInRanges far_setup (Some narrow)) s.labels (λ label r. record { in_range = r.in_range; inside = ap not (inside label r) }) t.there.ranges)
        (λ k. ours_stand desk instances setup side tally s grants said far_setup far_port range rest t leads k tt)
        (λ k. theirs_stand desk instances setup side tally s grants said far_setup far_port range rest t leads k tt)))
