-- a RECLAIM is heard, and a RECLAIM ACK

use Rattle.std.proofs.Common.{◌≡◌, ◌≢◌, ℕ, ◌≤◌, ◌<◌, ◌+◌, true, List, [], ◌∷◌, ◌++◌, Option, None, Some, refl, sym, ◌∙◌, ap, subst, ◌⊎◌, inl, inr}
use Rattle.std.specs.Prelude.{nat_lt}
use Rattle.live_model.specs.world_model.Words.{End, FlowId, Peer, Side, Reclaim, ReclaimAck, label_channel_of, label_number_of, at, put, without, Desk, Setup, label_end, DeleteTree, Label, Recalled, Wired, label_number, label_at, Grant, GrantState, Idle, ByController, ByInput, Leaving, grant_label, Session, Work, known_of, last_number, quits_label, reclaim_ack}
use Rattle.live_model.specs.world_model.ifmp_wire.declared.message.Message.{Message}
use Rattle.live_model.specs.world_model.port_model.Grants.{lent_input}
use Rattle.live_model.specs.world_model.port_model.Port.{Port}
use Rattle.live_model.specs.world_model.port_model.declared.action.Action.{Action}
use Rattle.live_model.specs.world_model.port_model.declared.action.Action.TheVariants.{Ask, CutChain, Say, TakeBack}
use Rattle.law_port_facts.specs.ordered_lists.Ordered.{Every, InOrder}
use Rattle.law_port_facts.proofs.Keyed.{on_each, at_key, at_every, at_put_same, at_put_other, put_every, put_order, without_order, every_more}
use Rattle.law_live_labels.proofs.Agreed.{at_work}
use Rattle.law_live_nodes.specs.Law.{told_by}
use Rattle.law_live_links.specs.Law.{EndOfLink, number_of, expected_of, hearing}
use Rattle.law_live_links.proofs.Resting.{end_in}
use Rattle.law_live_recalls.proofs.Places.{at_without_same, at_without_other}
use Rattle.law_live_recalls.proofs.Rules.{grant_ended, grant_owed, grant_owed_still}
use Rattle.law_live_touch.specs.Touch.{an_answer, LeadFrom, NamesAtMost, Between, between, IsEnding, IsLate, IsAnswered, IsReturning, IsInState, Stands, IsInRanges, AreInTouch}
use Rattle.law_live_touch.specs.Law.{MayDo, cuts, deletes, takes_back, TouchOn}
use Rattle.law_live_touch.specs.Law as law
use Rattle.law_live_touch.proofs.Lists.{lead_numbered, one_grant}
use Rattle.law_live_touch.proofs.Heard.{IsReclaimed, reclaimed, is_answered, is_owed, IsGivenBack, answered, is_acknowledged, is_quit}
use Rattle.law_live_touch.proofs.Ends.{changed, of_another, on_hearing, on_hearing_silent}
use Rattle.law_live_touch.proofs.Rules.{reclaim_answered, answer_comes}
use Rattle.law_live_touch.proofs.Quitting.{unwired_either, below, above}
use Rattle.law_live_touch.proofs.Hearing.{heard, ours_stand, ours_saying, theirs_stand, theirs_saying, same_ranges}

module _ (desk : Desk) (instances : ℕ) (setup : Setup) (side : Side Peer) (tally : ℕ) (s : Session) (grants : List Grant) (said : List Message)
    (far_setup : Setup) (far_port : Port) (label : ℕ) (flow : FlowId) (known : label_number_of (label_channel_of label) ≡ Some label) (rest : List Message) where
  abbrev one : EndOfLink
  one = end_in setup side tally s grants said

  abbrev other_then : EndOfLink
  other_then = record { setup = far_setup; port = far_port; said = rest }

  abbrev calm : Side Peer
  calm = record side { silence = 0 }

  -- *A RECLAIM*
  abbrev telling : FlowId → Message
  telling its = Reclaim far_port.adjacency.own.instance side.own.instance s.expected (label_channel_of label) its

  module _ (t : AreInTouch one (record other_then { said = telling flow ∷ rest })) (due : s.expected < last_number) (left : s.number < last_number)
      (leads : LeadFrom far_port.adjacency.own side.own far_setup (s.expected + 1) (number_of far_port) rest) where
    abbrev other : EndOfLink
    other = record other_then { said = telling flow ∷ rest }

    abbrev its_then : (held : List Grant) → (messages : List Message) → (k : ℕ) → Between
    its_then held messages k = record { granted = at grant_label k held; there = rest; back = messages; expected = s.expected + 1; known = known_of far_port }

    its : IsReclaimed far_setup.timers label (at grant_label label grants) (telling flow) rest said s.expected (known_of far_port) flow (between other one label) (label_at far_port label)
    its = reclaimed far_setup.timers label (at grant_label label grants) (telling flow) rest said s.expected (known_of far_port) flow (λ says. says known) (λ its tells. tells known) (λ its last reclaims. reclaims known)
        (label_at far_port label) (t.back.labels label)

    returning : IsReturning label flow its.last its.acknowledged (between other one label)
    returning = subst (λ f. IsReturning label f its.last its.acknowledged (between other one label)) (sym its.same_flow) its.stands

    by_itself : (held : List Grant) (messages : List Message) (o : Option Grant) → at grant_label label held ≡ o
        → IsReturning label flow its.last its.acknowledged (record (its_then held messages label) { granted = o }) → Stands far_setup.timers label (its_then held messages label) (label_at far_port label)
    by_itself held messages o is stands = subst (Stands far_setup.timers label (its_then held messages label)) (sym its.is)
        (subst (IsInState far_setup.timers label its.held.flow its.held.ticks (its_then held messages label)) (sym its.recalled)
        (subst (λ f. IsReturning label f its.last its.acknowledged (its_then held messages label)) its.same_flow
        (subst (λ o. IsReturning label flow its.last its.acknowledged (record (its_then held messages label) { granted = o })) (sym is) stands)))

    abbrev answer : FlowId → Message
    answer f = reclaim_ack (label_channel_of label) f side.own.instance far_port.adjacency.own.instance s.number

    abbrev said_then : List Message
    said_then = said ++ answer flow ∷ []

    abbrev answering : Session
    answering = record s { expected = s.expected + 1; number = s.number + 1 }

    -- no grant of it is left, and it is answered
    answer_on : (held : List Grant) → at grant_label label held ≡ None → ((k : ℕ) → label ≢ k → at grant_label k held ≡ at grant_label k grants)
        → InOrder (λ (a b : Grant). grant_label a ≡ grant_label b → ⊥) held → TouchOn one other_then (at_work calm tally instances answering held (Say (answer flow) ∷ []))
    answer_on held none others apart = on_hearing setup side tally s grants said other t calm tally instances answering held (Say (answer flow) ∷ []) (answer flow ∷ []) rest (law.says (answer flow), tt) refl
        (heard desk instances setup side tally s grants said far_setup far_port (telling flow) rest t leads tally answering held said_then refl refl t.one_end.labels_apart apart
        (lead_numbered side.own far_port.adjacency.own setup (expected_of far_port) s.number said (answer flow) t.there.numbers (an_answer label flow known) left)
        (every_more (NamesAtMost s.expected) said (answer flow) t.back.named tt)
        (same_ranges desk instances setup side tally s grants said far_setup far_port (telling flow) rest t leads answering refl refl s.labels t.there.ranges)
        (λ k. ours_saying desk instances setup side tally s grants said far_setup far_port (telling flow) rest t leads (answer flow) k tt tt)
        (changed (λ k. Stands far_setup.timers k (its_then held said_then k) (label_at far_port k)) label
        (by_itself held said_then None none (is_answered far_setup.timers label (at grant_label label grants) (telling flow) rest said s.expected (known_of far_port) flow its.last its.acknowledged (λ is. is.1) returning
        (answer flow) known (λ of_it. refl) tt its.below t.back.known t.back.named))
        (λ k differs. subst (λ o. Stands far_setup.timers k (record (its_then held said_then k) { granted = o }) (label_at far_port k)) (sym (others k differs))
        (theirs_saying desk instances setup side tally s grants said far_setup far_port (telling flow) rest t leads (answer flow) k (of_another label k known differs) (of_another label k known differs)))))

    -- or its grant is leaving
    module _ (grant : Grant) (found : at grant_label label grants ≡ Some grant) where
      its_flow : flow ≡ grant.flow
      its_flow = by returning.stands
        where
          by : IsEnding label flow its.last its.acknowledged (between other one label) ⊎ (IsLate label its.last its.acknowledged (between other one label) ⊎ IsAnswered label its.last its.acknowledged (between other one label)) → flow ≡ grant.flow
          by (inl e) = sym (ap (λ (g : Grant). g.flow) (one_grant grant e.grant (sym found ∙ e.granted)) ∙ e.same_flow)
          by (inr (inl l)) = absurd (cc (sym found ∙ l.ungranted))
          by (inr (inr a)) = absurd (cc (sym found ∙ a.ungranted))

      abbrev comes : FlowId → Work
      comes f = hearing desk instances far_port.adjacency.own.address one (telling f)

      abbrev heard_session : Session
      heard_session = record s { expected = s.expected + 1 }

      same_label : grant.label ≡ label
      same_label = at_key grant_label label grants grant found

      there_now : at grant_label grant.label grants ≡ Some grant
      there_now = ap (λ k. at grant_label k grants) same_label ∙ found

      owed_on : (input : End) (actions : List Action) → Every (MayDo setup) actions → told_by actions ≡ []
          → TouchOn one other_then (at_work calm tally instances heard_session (put grant_label (record grant { state = Leaving input true }) grants) actions)
      owed_on input actions may silent = on_hearing_silent setup side tally s grants said other t calm tally instances heard_session held actions rest may silent
          (heard desk instances setup side tally s grants said far_setup far_port (telling flow) rest t leads tally heard_session held said refl refl t.one_end.labels_apart
          (put_order grant_label (λ m n. m ≡ n → ⊥) (record grant { state = Leaving input true }) grants t.one_end.grants_apart) t.there.numbers t.back.named
          (same_ranges desk instances setup side tally s grants said far_setup far_port (telling flow) rest t leads heard_session refl refl s.labels t.there.ranges)
          (λ k. ours_stand desk instances setup side tally s grants said far_setup far_port (telling flow) rest t leads k tt)
          (changed (λ k. Stands far_setup.timers k (its_then held said k) (label_at far_port k)) label
          (by_itself held said (Some (record grant { state = Leaving input true })) (ap (λ k. at grant_label k held) (sym same_label) ∙ at_put_same grant_label (record grant { state = Leaving input true }) grants grant there_now)
          (is_owed far_setup.timers label (at grant_label label grants) (telling flow) rest said s.expected (known_of far_port) flow its.last its.acknowledged (λ is. is.1) returning grant found input))
          (λ k differs. subst (λ o. Stands far_setup.timers k (record (its_then held said k) { granted = o }) (label_at far_port k))
          (sym (at_put_other grant_label (record grant { state = Leaving input true }) k grants (λ e. differs (sym same_label ∙ e))))
          (theirs_stand desk instances setup side tally s grants said far_setup far_port (telling flow) rest t leads k (of_another label k known differs)))))
        where
          held : List Grant
          held = put grant_label (record grant { state = Leaving input true }) grants

      by_rule : (w : Work) → comes grant.flow ≡ w → TouchOn one other_then w → TouchOn one other_then (comes flow)
      by_rule w is on = subst (TouchOn one other_then) (sym (ap comes its_flow ∙ is)) on

      ended : lent_input grant.state ≡ None → TouchOn one other_then (comes flow)
      ended not_lent = by_rule (at_work calm tally instances answering (without grant_label label grants) (Say (answer grant.flow) ∷ []))
          (grant_ended setup desk side tally instances grants far_port.adjacency t.met s due label known grant found not_lent left)
          (subst (λ f. TouchOn one other_then (at_work calm tally instances answering (without grant_label label grants) (Say (answer f) ∷ []))) its_flow
          (answer_on (without grant_label label grants) (at_without_same grant_label label grants) (λ k differs. at_without_other grant_label label k grants differs)
          (without_order grant_label (λ m n. m ≡ n → ⊥) label grants t.one_end.grants_apart)))

      by_state : (state : GrantState) → grant.state ≡ state → TouchOn one other_then (comes flow)
      by_state Idle is = ended (ap lent_input is)
      by_state ByController is = ended (ap lent_input is)
      by_state (ByInput input) is = by_rule (at_work calm tally instances heard_session (put grant_label (record grant { state = Leaving input true }) grants) (TakeBack input (label_end setup.port label) ∷ []))
          (grant_owed setup desk side tally instances grants far_port.adjacency t.met s due label known grant found input is)
          (owed_on input (TakeBack input (label_end setup.port label) ∷ []) (takes_back input label, tt) refl)
      by_state (Leaving input owed) is = by_rule (at_work calm tally instances heard_session (put grant_label (record grant { state = Leaving input true }) grants) [])
          (grant_owed_still setup desk side tally instances grants far_port.adjacency t.met s due label known grant found input owed is)
          (owed_on input [] tt refl)

    pub reclaim_heard : TouchOn one other_then (hearing desk instances far_port.adjacency.own.address one (telling flow))
    reclaim_heard = by (at grant_label label grants) refl
      where
        by : (o : Option Grant) → at grant_label label grants ≡ o → TouchOn one other_then (hearing desk instances far_port.adjacency.own.address one (telling flow))
        by None none = subst (TouchOn one other_then) (sym (reclaim_answered setup desk side tally instances grants far_port.adjacency t.met s due label flow known none left))
            (answer_on grants none (λ k differs. refl) t.one_end.grants_apart)
        by (Some grant) found = by_state grant found grant.state refl

  -- *A RECLAIM ACK*
  abbrev answers : (label : ℕ) → FlowId → Message
  answers number its = ReclaimAck far_port.adjacency.own.instance side.own.instance s.expected (label_channel_of number) its

  module _ (t : AreInTouch one (record other_then { said = answers label flow ∷ rest })) (due : s.expected < last_number)
      (leads : LeadFrom far_port.adjacency.own side.own far_setup (s.expected + 1) (number_of far_port) rest) where
    abbrev from : EndOfLink
    from = record other_then { said = answers label flow ∷ rest }

    back : IsGivenBack setup.timers label (at grant_label label far_port.grants) said (answers label flow) rest (expected_of far_port) s.known side.own far_port.adjacency.own setup s.number t.there.numbers t.there.known
        flow (at label_number label s.labels)
    back = answered setup.timers label (at grant_label label far_port.grants) said (answers label flow) rest (expected_of far_port) s.known side.own far_port.adjacency.own setup s.number t.there.numbers t.there.known
        flow (λ says. says known) (λ its answers. answers known) (at label_number label s.labels) (t.there.labels label)

    abbrev its_label : Label
    its_label = back.held

    number : its_label.number ≡ label
    number = at_key label_number label s.labels its_label back.is

    held : at label_number its_label.number s.labels ≡ Some its_label
    held = ap (λ k. at label_number k s.labels) number ∙ back.is

    abbrev acked_label : Label
    acked_label = record its_label { state = Recalled back.last true }

    -- *It is another now*
    module _ (now : Label) (same : now.number ≡ label) (labels : List Label) (here : at label_number label labels ≡ Some now) (others : (k : ℕ) → label ≢ k → at label_number k labels ≡ at label_number k s.labels)
        (apart : InOrder (λ (a b : Label). label_number a < label_number b) labels) (ranges : Every (IsInRanges far_setup (Some s)) labels)
        (stands : IsInState setup.timers label now.flow now.ticks (record (between one from label) { back = rest }) now.state) where
      abbrev session : Session
      session = record s { expected = s.expected + 1; labels = labels }

      now_on : (actions : List Action) → Every (MayDo setup) actions → told_by actions ≡ [] → TouchOn one other_then (at_work calm tally instances session grants actions)
      now_on actions may silent = on_hearing_silent setup side tally s grants said from t calm tally instances session grants actions rest may silent
          (heard desk instances setup side tally s grants said far_setup far_port (answers label flow) rest t leads tally session grants said refl refl apart t.one_end.grants_apart t.there.numbers t.back.named
          (same_ranges desk instances setup side tally s grants said far_setup far_port (answers label flow) rest t leads session refl refl labels ranges)
          (changed (λ k. Stands setup.timers k (record (between one from k) { back = rest }) (at label_number k labels)) label
          (subst (Stands setup.timers label (record (between one from label) { back = rest })) (sym here) stands)
          (λ k differs. subst (Stands setup.timers k (record (between one from k) { back = rest })) (sym (others k differs))
          (ours_stand desk instances setup side tally s grants said far_setup far_port (answers label flow) rest t leads k (of_another label k known differs))))
          (λ k. theirs_stand desk instances setup side tally s grants said far_setup far_port (answers label flow) rest t leads k tt))

    abbrev acked_labels : List Label
    acked_labels = put label_number acked_label s.labels

    old_ranges : IsInRanges far_setup (Some s) its_label
    old_ranges = at_every label_number (IsInRanges far_setup (Some s)) label s.labels its_label t.there.ranges back.is

    acked_here : at label_number its_label.number acked_labels ≡ Some acked_label
    acked_here = at_put_same label_number acked_label s.labels its_label held

    acked_others : (k : ℕ) → label ≢ k → at label_number k acked_labels ≡ at label_number k s.labels
    acked_others k differs = at_put_other label_number acked_label k s.labels (λ e. differs (sym number ∙ e))

    acked_apart : InOrder (λ (a b : Label). label_number a < label_number b) acked_labels
    acked_apart = put_order label_number (λ a b. a < b) acked_label s.labels t.one_end.labels_apart

    acked_ranges : Every (IsInRanges far_setup (Some s)) acked_labels
    acked_ranges = put_every label_number (IsInRanges far_setup (Some s)) acked_label s.labels (record { in_range = old_ranges.in_range; inside = old_ranges.inside }) t.there.ranges

    -- its RECLAIM isn't known to be passed
    keeps_on : s.known ≤ back.last → TouchOn one other_then (at_work calm tally instances (record s { expected = s.expected + 1; labels = acked_labels }) grants [])
    keeps_on unpassed = now_on acked_label number acked_labels (ap (λ k. at label_number k acked_labels) (sym number) ∙ acked_here) acked_others acked_apart acked_ranges
        (is_acknowledged setup.timers label (at grant_label label far_port.grants) said (answers label flow) rest (expected_of far_port) s.known side.own far_port.adjacency.own setup s.number t.there.numbers t.there.known
        its_label.flow back.last back.acknowledged (λ says. says known) known back.stands unpassed) [] tt refl

    -- or it is
    abbrev wired_label : Label
    wired_label = record acked_label { state = Wired }

    abbrev wired_labels : List Label
    wired_labels = put label_number wired_label acked_labels

    abbrev quitting : List Action → Work
    quitting actions = at_work calm tally instances (record s { expected = s.expected + 1; labels = wired_labels }) grants actions

    wired_on : back.last < s.known → (actions : List Action) → Every (MayDo setup) actions → told_by actions ≡ [] → TouchOn one other_then (quitting actions)
    wired_on passed = now_on wired_label number wired_labels
        (ap (λ k. at label_number k wired_labels) (sym number) ∙ at_put_same label_number wired_label acked_labels acked_label acked_here)
        (λ k differs. at_put_other label_number wired_label k acked_labels (λ e. differs (sym number ∙ e)) ∙ acked_others k differs)
        (put_order label_number (λ a b. a < b) wired_label acked_labels acked_apart)
        (put_every label_number (IsInRanges far_setup (Some s)) wired_label acked_labels (record { in_range = old_ranges.in_range; inside = old_ranges.inside }) acked_ranges)
        (is_quit setup.timers label (at grant_label label far_port.grants) said (answers label flow) rest (expected_of far_port) s.known side.own far_port.adjacency.own setup s.number t.there.numbers t.there.known
        its_label.flow back.last back.acknowledged (λ says. says known) known back.stands passed)

    quits_on : back.last < s.known → TouchOn one other_then (quits_label setup desk (at_work calm tally instances (record s { expected = s.expected + 1; labels = acked_labels }) grants []) acked_label)
    quits_on passed = unwired_either setup desk (TouchOn one other_then) (quitting (CutChain its_label.number ∷ [])) its_label.number
        (λ in_place. wired_on passed (CutChain its_label.number ∷ Ask (DeleteTree (label_end setup.port its_label.number)) in_place ∷ []) (cuts its_label.number, (deletes its_label.number in_place, tt)) refl)
        (wired_on passed (CutChain its_label.number ∷ []) (cuts its_label.number, tt) refl)

    pub answer_heard : TouchOn one other_then (hearing desk instances far_port.adjacency.own.address one (answers label flow))
    answer_heard = subst (TouchOn one other_then)
        (sym (ap (λ f. hearing desk instances far_port.adjacency.own.address one (answers label f)) back.same_flow
        ∙ (ap (λ n. hearing desk instances far_port.adjacency.own.address one (answers n its_label.flow)) (sym number)
        ∙ answer_comes setup desk side tally instances grants far_port.adjacency t.met s due its_label held back.last back.acknowledged back.recalled
        (subst (λ n. label_number_of (label_channel_of n) ≡ Some n) (sym number) known))))
        (on_each (TouchOn one other_then) (nat_lt back.last s.known)
        (quits_label setup desk (at_work calm tally instances (record s { expected = s.expected + 1; labels = acked_labels }) grants []) acked_label)
        (at_work calm tally instances (record s { expected = s.expected + 1; labels = acked_labels }) grants [])
        (λ passed. quits_on (below back.last s.known passed)) (λ not. keeps_on (above back.last s.known not)))
