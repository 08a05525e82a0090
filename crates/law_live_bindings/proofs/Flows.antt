-- the whole way of one flow, from its packets to the grant that the other end sends under

use Rattle.std.proofs.Common.{◌≡◌, ◌≢◌, ℕ, ◌≤◌, ◌<◌, ◌+◌, false, List, [], ◌∷◌, ◌++◌, length, None, Some, refl, sym, ◌∙◌, ap, subst, arith, ◌⊎◌, inl, inr}
use Rattle.live_model.specs.world_model.Words.{Peer, Side, FlowId, label_channel_of, at, put, entered, key_le, Redirect, Desk, Setup, Label, Wiring, Offered, label_number, Grant, Idle, ByController, grant_label, Session, Work, last_number}
use Rattle.live_model.specs.world_model.ifmp_wire.declared.message.Message.{Message}
use Rattle.live_model.specs.world_model.port_model.Answers.{done}
use Rattle.live_model.specs.world_model.port_model.declared.action.Action.TheVariants.{Ask}
use Rattle.law_port_facts.proofs.ordered_lists.Every.{every_map}
use Rattle.law_port_facts.proofs.Keyed.{at_put_same, entered_every, map_put}
use Rattle.law_live_labels.proofs.Agreed.{grants_are_started}
use Rattle.law_live_counts.specs.Law.{AreOf, counts_each, wiring_for, takes_label, HasAsked}
use Rattle.law_live_counts.proofs.Asking.{spare_at, flows_ask_once}
use Rattle.law_live_links.specs.Law.{EndOfLink, number_of, LeadOn, IsRefresh, IsHeld, AreAtRest, working, left_by, hearing}
use Rattle.law_live_links.proofs.Resting.{end_in, by_rest, ends_agree_at_rest}
use Rattle.law_live_unseen.specs.Law.{seen_grant, AreAlike}
use Rattle.law_live_bindings.specs.Law.{IsNew, AreBinding, NoneIsWiring, label_branch, grant_branch, told_of, MayBind, counted, answered, AreBound, HearsAndBinds, FlowsAreBound}
use Rattle.law_live_bindings.proofs.Places.{at_more_same, at_entered_same, put_each}
use Rattle.law_live_bindings.proofs.Resting.{agreed_ends_bind, bindings_are_agreed, labels_differ, swapped}
use Rattle.law_live_bindings.proofs.Alike.{port_binds}
use Rattle.law_live_bindings.proofs.Counting.{taken_binding}
use Rattle.law_live_bindings.proofs.Offering.{its_own, offer_made, offered_binding}
use Rattle.law_live_bindings.proofs.Hearing.{grant_made, granted_binding, next_tally}

one_session : (x y : Session) → Some x ≡ Some y → x ≡ y
one_session x y e = cc

module _ (desk far_desk : Desk) (instances far_instances : ℕ) (setup : Setup) (side : Side Peer) (tally : ℕ) (s : Session) (grants : List Grant)
    (far_setup : Setup) (far_side : Side Peer) (far_tally : ℕ) (t : Session) (far_grants : List Grant) (flow : FlowId) (wanted number : ℕ) (packets : List (List ℕ)) where
  abbrev one : EndOfLink
  one = end_in setup side tally s grants []

  abbrev other : EndOfLink
  other = end_in far_setup far_side far_tally t far_grants []

  module _ (rest : AreAtRest one other) (may : MayBind desk far_desk instances far_instances one other flow wanted number) (are : AreOf flow packets) (enough : wanted ≤ length packets) where
    -- *Packets are counted*: the label is taken
    asked : HasAsked setup (working instances one) (counts_each setup desk (working instances one) packets) may.ready.session flow number
    asked = (flows_ask_once setup desk (working instances one) flow wanted number may.policy may.ready).enough packets are enough

    same_session : may.ready.session ≡ s
    same_session = one_session may.ready.session s (sym may.ready.is_open)

    spare : at label_number number s.labels ≡ None
    spare = subst (λ (x : Session). at label_number number x.labels ≡ None) same_session
        (spare_at setup may.ready.session.least may.ready.session.greatest may.ready.session.labels number may.ready.spare)

    abbrev wiring : Label
    wiring = wiring_for flow number

    abbrev taking : Session
    taking = record s { counted = asked.counts; labels = entered (key_le label_number) wiring s.labels }

    abbrev taken : EndOfLink
    taken = end_in setup side tally taking grants []

    is_taken : counts_each setup desk (working instances one) packets ≡ takes_label setup (working instances one) s flow number asked.counts
    is_taken = asked.left ∙ ap (λ (x : Session). takes_label setup (working instances one) x flow number asked.counts) same_session

    taken_binds : AreBinding taken other
    taken_binds = taken_binding setup side tally s grants [] other (agreed_ends_bind one other rest.agreed) flow number asked.counts spare may.in_range

    held : at label_number number taking.labels ≡ Some wiring
    held = at_entered_same label_number (key_le label_number) wiring s.labels spare

    -- *Its branch is made*: it is offered, and told
    abbrev offered : Label
    offered = record wiring { state = Offered }

    abbrev offering : Session
    offering = record taking { labels = put label_number offered taking.labels; number = s.number + 1 }

    abbrev message : Message
    message = told_of taken other wiring

    abbrev telling : EndOfLink
    telling = end_in setup side tally offering grants (message ∷ [])

    abbrev quieted : EndOfLink
    quieted = end_in setup side tally offering grants []

    telling_binds : AreBinding telling other
    telling_binds = offered_binding instances setup side tally taking grants [] other taken_binds wiring held refl may.number_left

    there : at label_number number offering.labels ≡ Some offered
    there = at_put_same label_number offered taking.labels wiring held

    -- *The other end hears it*: a grant is made
    same_number : t.expected ≡ s.number
    same_number = (ends_agree_at_rest one other rest).1

    abbrev refresh : IsRefresh side.own far_side.own setup.timers offering.labels t.expected message
    refresh = record {
      label = offered;
      held = there;
      number_left = subst (λ n. n < last_number) (sym same_number) may.number_left;
      is = ap (λ n. Redirect side.own.instance far_side.own.instance n setup.timers.lifetime (label_channel_of number) flow) (sym same_number);
    }

    leads : LeadOn side.own far_side.own setup.timers offering.labels (t.expected + 1) (number_of telling.port) []
    leads = ap (λ n. n + 1) same_number

    abbrev grant : Grant
    grant = record { label = number; flow = flow; lifetime = setup.timers.lifetime; state = Idle }

    abbrev calm : Side Peer
    calm = record far_side { silence = 0 }

    abbrev hearing_session : Session
    hearing_session = record t { expected = t.expected + 1 }

    abbrev granted : List Grant → EndOfLink
    granted held = end_in far_setup calm (next_tally far_desk far_instances far_setup far_side far_tally t far_grants [] setup telling.port message [] (swapped telling_binds) refresh leads) hearing_session held []

    abbrev heard : EndOfLink
    heard = granted (far_grants ++ grant ∷ [])

    new_one : IsNew setup.timers far_setup far_grants (message ∷ []) offered
    new_one = its_own instances setup side tally taking grants [] other taken_binds wiring held refl may.number_left

    is_heard : hearing far_desk far_instances side.own.address other message
        ≡ record { port = heard.port; actions = Ask (grant_branch far_setup number) false ∷ []; halted = false; instances = far_instances }
    is_heard = grant_made far_desk far_instances far_setup far_side far_tally t far_grants [] setup telling.port message [] (swapped telling_binds) refresh leads new_one may.few may.room

    heard_binds : AreBinding heard quieted
    heard_binds = granted_binding far_desk far_instances far_setup far_side far_tally t far_grants [] setup telling.port message [] (swapped telling_binds) refresh leads new_one may.few may.room

    -- *The branch of the grant is made*: the other end sends under it
    abbrev sending : Grant
    sending = record grant { state = ByController }

    abbrev sending_end : EndOfLink
    sending_end = granted (put grant_label sending (far_grants ++ grant ∷ []))

    grant_there : at grant_label number heard.port.grants ≡ Some grant
    grant_there = at_more_same grant_label far_grants grant new_one.ungranted

    is_started : done far_setup (working far_instances heard) (grant_branch far_setup number)
        ≡ record { port = sending_end.port; actions = []; halted = false; instances = far_instances }
    is_started = grants_are_started far_setup (working far_instances heard) hearing_session grant (record { of_link = rest.agreed.other_end.of_link; going = refl; is_open = refl }) may.in_range grant_there refl

    alike : AreAlike heard.port sending_end.port
    alike = record { adjacency = refl; in_session = refl; number = refl; expected = refl; labels = refl; grants = map_put grant_label seen_grant sending heard.port.grants grant grant_there refl }

    -- *At rest*: no branch of a label is being made
    done_here : NoneIsWiring quieted
    done_here = put_each label_number IsSo (λ (l : Label). l.state ≡ Wiring → ⊥) offered taking.labels (λ e. absurd (cc e)) others
        (labels_differ taking.labels taken_binds.one_end.labels_apart)
        (entered_every label_number IsSo (key_le label_number) wiring s.labels (inr refl)
        (every_map (IsHeld setup.timers far_setup far_grants []) IsSo s.labels (λ label h. inl h.offered) rest.agreed.there.labels))
      where
        IsSo : Label → Type 0
        IsSo l = (l.state ≡ Offered) ⊎ (l.number ≡ number)

        others : (l : Label) → label_number l ≢ label_number offered → IsSo l → l.state ≡ Wiring → ⊥
        others l differs (inl is) e = absurd (cc (sym is ∙ e))
        others l differs (inr same) e = differs same

    done_there : NoneIsWiring sending_end
    done_there = every_map (IsHeld far_setup.timers setup grants []) (λ (l : Label). l.state ≡ Wiring → ⊥) t.labels (λ label h e. absurd (cc (sym h.offered ∙ e))) rest.agreed.back.labels

    at_rest : AreAtRest quieted sending_end
    at_rest = bindings_are_agreed quieted sending_end (swapped (port_binds heard quieted sending_end.port heard_binds alike)) refl refl done_here done_there

    bound : AreBound quieted sending_end flow number
    bound = record {
      at_rest = at_rest;
      label = offered;
      held = there;
      same_flow = refl;
      agreed = record {
        offered = refl;
        grant = sending;
        granted = at_put_same grant_label sending heard.port.grants grant grant_there;
        same_flow = refl;
        stays = refl;
        lives = whole setup.timers.lifetime;
      };
      by_controller = refl;
    }
      where
        whole : (n : ℕ) → n ≤ n + 0
        whole n = omega arith

    hears_and_binds : HearsAndBinds far_desk far_instances telling other flow number
    hears_and_binds = record {
      message = message;
      said = refl;
      bound = subst (λ (w : Work). AreBound quieted (answered far_instances (left_by other w) (grant_branch far_setup number)) flow number) (sym is_heard)
          (subst (λ (w : Work). AreBound quieted (left_by heard w) flow number) (sym is_started) bound);
    }

    pub flow_bound : HearsAndBinds far_desk far_instances (answered instances (counted desk instances one packets) (label_branch setup number)) other flow number
    flow_bound = subst (λ (w : Work). HearsAndBinds far_desk far_instances (answered instances (left_by one w) (label_branch setup number)) other flow number) (sym is_taken)
        (subst (λ (w : Work). HearsAndBinds far_desk far_instances (left_by taken w) other flow number)
        (sym (offer_made instances setup side tally taking grants [] other taken_binds wiring held refl may.number_left)) hears_and_binds)

pub flows_are_bound : FlowsAreBound
flows_are_bound desk far_desk instances far_instances one other flow wanted number packets rest may are enough =
    by_rest (λ (x : EndOfLink). AreAtRest x other → MayBind desk far_desk instances far_instances x other flow wanted number
    → HearsAndBinds far_desk far_instances (answered instances (counted desk instances x packets) (label_branch x.setup number)) other flow number)
    (λ setup side tally s grants. by_rest
    (λ (y : EndOfLink). AreAtRest (end_in setup side tally s grants []) y → MayBind desk far_desk instances far_instances (end_in setup side tally s grants []) y flow wanted number
    → HearsAndBinds far_desk far_instances (answered instances (counted desk instances (end_in setup side tally s grants []) packets) (label_branch setup number)) y flow number)
    (λ far_setup far_side far_tally t far_grants r m. flow_bound desk far_desk instances far_instances setup side tally s grants far_setup far_side far_tally t far_grants flow wanted number packets r m are enough)
    other rest.agreed.other_end.in_session rest.other_is_heard)
    one rest.agreed.one_end.in_session rest.one_is_heard rest may
