-- a grant is given back, a label freed, and what a tick says of no label

use Rattle.std.proofs.Common.{◌≡◌, ℕ, ◌≤◌, ◌<◌, ◌+◌, Bool, false, true, true≢false, List, [], ◌∷◌, ◌++◌, Option, None, Some, refl, sym, ◌∙◌, ap, subst, arith, ◌⊎◌, inl, inr}
use Rattle.live_model.specs.world_model.Words.{End, Free, Peer, Side, label_channel_of, label_number_of, at, without, empty_desk, Setup, Label, LabelState, Wiring, Offered, Recalled, Wired, label_number, labels_of, label_at, Grant, GrantState, Idle, ByController, ByInput, Leaving, grant_label, is_leaving, Session, Timers, Work, known_of, last_number, label_range, nudges, put, is_in_range, reclaim_ack}
use Rattle.live_model.specs.world_model.ifmp_wire.declared.message.Message.{Message}
use Rattle.live_model.specs.world_model.port_model.Answers.{done}
use Rattle.live_model.specs.world_model.port_model.Joins.{given_back, given_back_in}
use Rattle.live_model.specs.world_model.port_model.Saying.{says}
use Rattle.live_model.specs.world_model.port_model.Ticks.{asks_for_ack}
use Rattle.live_model.specs.world_model.port_model.declared.action.Action.TheVariants.{Note, Say}
use Rattle.law_port_facts.proofs.Keyed.{on_each, at_key, at_every, every_more, without_every, without_order}
use Rattle.law_port_facts.proofs.ordered_lists.Every.{every_map}
use Rattle.law_live_labels.proofs.Agreed.{at_work, in_range_number}
use Rattle.law_live_links.specs.Law.{EndOfLink, number_of, expected_of, IsToldAnew}
use Rattle.law_live_links.proofs.Resting.{end_in}
use Rattle.law_live_recalls.specs.Law.{label_tree, ack_from}
use Rattle.law_live_recalls.proofs.Places.{at_without_same, at_without_other}
use Rattle.law_live_recalls.proofs.Rules.{says_it, owed_ended, label_freed}
use Rattle.law_live_touch.specs.Touch.{an_answer, a_range, NamesAtMost, Between, between, IsGone, IsGranted, OwesAnswer, Comes, IsReclaim, IsEnding, IsLate, IsAnswered, IsReturning, IsInState, Stands, IsInRanges, AreInTouch}
use Rattle.law_live_touch.specs.Law.{notes, TouchOn}
use Rattle.law_live_touch.specs.Law as law
use Rattle.law_live_touch.proofs.Lists.{lead_greeting, one_grant}
use Rattle.law_live_touch.proofs.Moves.{is_given_back}
use Rattle.law_live_touch.proofs.Ends.{changed, of_another, touches, known_channel, stood, on_silent, on_saying}
use Rattle.law_live_touch.proofs.Saying.{with_labels, as_before, stands_saying, stands_back, says_with, regrants}

whole : (n : ℕ) → n ≤ n
whole n = omega arith

-- *A label whose grant is leaving* is returning, and owed
pub record IsOwing (label : ℕ) (grant : Grant) (b : Between) (o : Option Label) : Type 0 where
  pub held : Label
  pub last : ℕ
  pub acknowledged : Bool
  pub is : o ≡ Some held
  pub recalled : held.state ≡ Recalled last acknowledged
  pub same_flow : grant.flow ≡ held.flow
  pub owes : OwesAnswer grant.state
  pub stands : IsReturning label held.flow last acknowledged b

module _ (timers : Timers) (label : ℕ) (grant : Grant) (leaves : is_leaving grant.state ≡ true) (b : Between) (granted : b.granted ≡ Some grant) where
  no_grant : b.granted ≡ None → ⊥
  no_grant none = absurd (cc (sym granted ∙ none))

  not_staying : (x : Grant) → b.granted ≡ Some x → is_leaving x.state ≡ false → ⊥
  not_staying x is stays = true≢false (sym leaves ∙ (ap (λ (g : Grant). is_leaving g.state) (one_grant grant x (sym granted ∙ is)) ∙ stays))

  pub is_owing : (o : Option Label) → Stands timers label b o → IsOwing label grant b o
  is_owing None gone = absurd (no_grant gone.ungranted)
  is_owing (Some held) stands = by held.state refl stands
    where
      by : (state : LabelState) → held.state ≡ state → IsInState timers label held.flow held.ticks b state → IsOwing label grant b (Some held)
      by Wiring is s = absurd (no_grant s.1.ungranted)
      by Wired is s = absurd (no_grant s.ungranted)
      by Offered is o = by_grant o.held_or_new
        where
          by_grant : IsGranted timers label held.flow held.ticks b ⊎ ((b.granted ≡ None) × IsToldAnew label b.there) → IsOwing label grant b (Some held)
          by_grant (inl g) = absurd (not_staying g.grant g.granted g.stays)
          by_grant (inr new) = absurd (no_grant new.0)
      by (Recalled last acknowledged) is r = by_stage r.stands
        where
          by_stage : IsEnding label held.flow last acknowledged b ⊎ (IsLate label last acknowledged b ⊎ IsAnswered label last acknowledged b) → IsOwing label grant b (Some held)
          by_stage (inl e) = record {
            held = held;
            last = last;
            acknowledged = acknowledged;
            is = refl;
            recalled = is;
            same_flow = ap (λ (g : Grant). g.flow) (one_grant grant e.grant (sym granted ∙ e.granted)) ∙ e.same_flow;
            owes = owed e.ends;
            stands = r;
          }
            where
              owed : OwesAnswer e.grant.state ⊎ ((is_leaving e.grant.state ≡ false) × Comes (IsReclaim label last) b.there) → OwesAnswer grant.state
              owed (inl owes) = subst (λ (g : Grant). OwesAnswer g.state) (sym (one_grant grant e.grant (sym granted ∙ e.granted))) owes
              owed (inr waits) = absurd (not_staying e.grant e.granted waits.0)
          by_stage (inr (inl l)) = absurd (no_grant l.ungranted)
          by_stage (inr (inr a)) = absurd (no_grant a.ungranted)

module _ (setup : Setup) (side : Side Peer) (tally : ℕ) (s : Session) (grants : List Grant) (said : List Message) (other : EndOfLink)
    (t : AreInTouch (end_in setup side tally s grants said) other) where
  abbrev one : EndOfLink
  one = end_in setup side tally s grants said

  abbrev now_at : (instances : ℕ) → Work
  now_at instances = at_work side tally instances s grants []

  -- *A label of the other end* goes by its channel
  pub their_channel : (label : ℕ) (held : Label) → label_at other.port label ≡ Some held → label_number_of (label_channel_of label) ≡ Some label
  their_channel label held is = in_range_number setup label
      (subst (λ n. is_in_range setup n ≡ true) (at_key label_number label (labels_of other.port) held is)
      (at_every label_number (IsInRanges setup other.port.session) label (labels_of other.port) held t.back.ranges is).in_range)

  -- *A grant is given back*
  module _ (instances : ℕ) (grant : Grant) (found : at grant_label grant.label grants ≡ Some grant) (left : s.number < last_number) where
    module _ (input : End) (is : grant.state ≡ Leaving input true) where
      abbrev k : ℕ
      k = grant.label

      owing : IsOwing k grant (between other one k) (label_at other.port k)
      owing = is_owing other.setup.timers k grant (ap is_leaving is) (between other one k) found (label_at other.port k) (t.back.labels k)

      known : label_number_of (label_channel_of k) ≡ Some k
      known = their_channel k owing.held owing.is

      abbrev answer : Message
      answer = reclaim_ack (label_channel_of k) grant.flow side.own.instance other.port.adjacency.own.instance s.number

      abbrev fewer : List Grant
      fewer = without grant_label k grants

      abbrev b : (number : ℕ) → Between
      b number = record (between other one number) { granted = at grant_label number fewer; back = said ++ answer ∷ [] }

      returning : IsReturning k owing.held.flow owing.last owing.acknowledged (record (between other one k) { granted = None; back = said ++ answer ∷ [] })
      returning = is_given_back other.setup.timers k other.said said s.expected (known_of other.port) other.port.adjacency.own side.own other.setup (number_of other.port) t.back.numbers t.back.named t.back.known
          owing.held.flow owing.last owing.acknowledged answer known (λ of_it. owing.same_flow) grant (ap is_leaving is) tt
          (subst (λ o. IsReturning k owing.held.flow owing.last owing.acknowledged (record (between other one k) { granted = o })) found owing.stands)

      its_own : Stands other.setup.timers k (b k) (label_at other.port k)
      its_own = subst (Stands other.setup.timers k (b k)) (sym owing.is)
          (subst (IsInState other.setup.timers k owing.held.flow owing.held.ticks (b k)) (sym owing.recalled)
          (subst (λ o. IsReturning k owing.held.flow owing.last owing.acknowledged (record (between other one k) { granted = o; back = said ++ answer ∷ [] })) (sym (at_without_same grant_label k grants)) returning))

      given_back_on : TouchOn one other (given_back (now_at instances) grant)
      given_back_on = subst (TouchOn one other)
          (sym (owed_ended setup empty_desk side tally instances grants other.port.adjacency t.met s k grant found input is left))
          (on_saying setup side tally s grants said other t instances (record s { number = s.number + 1 }) fewer (Say answer ∷ []) answer (law.says answer, tt) refl
          (says_with setup side tally s grants said other t answer (an_answer k grant.flow known) left s.labels fewer tt t.one_end.labels_apart
          (without_order grant_label (λ m n. m ≡ n → ⊥) k grants t.one_end.grants_apart) t.there.ranges
          (λ n. stands_saying setup side tally s grants said other t answer n tt)
          (changed (λ n. Stands other.setup.timers n (b n) (label_at other.port n)) k its_own
          (λ n differs. subst (λ o. Stands other.setup.timers n (record (between other one n) { granted = o; back = said ++ answer ∷ [] }) (label_at other.port n)) (sym (at_without_other grant_label k n grants differs))
          (stands_back setup side tally s grants said other t answer n (of_another k n known differs))))))

    pub return_on : TouchOn one other (given_back (now_at instances) grant)
    return_on = by grant.state refl
      where
        by : (state : GrantState) → grant.state ≡ state → TouchOn one other (given_back_in (now_at instances) grant state)
        by Idle is = as_before setup side tally s grants said other t instances
        by ByController is = as_before setup side tally s grants said other t instances
        by (ByInput input) is = on_silent setup side tally s grants said other t instances s (put grant_label (record grant { state = ByController }) grants) [] tt refl
            (regrants setup side tally s grants said other t grant ByController found (ap is_leaving is) refl)
        by (Leaving input owed) is = subst (TouchOn one other) (ap (given_back_in (now_at instances) grant) is) (given_back_on input (is ∙ ap (Leaving input) owes))
          where
            owes : owed ≡ true
            owes = subst OwesAnswer is (is_owing other.setup.timers grant.label grant (ap is_leaving is) (between other one grant.label) found (label_at other.port grant.label) (t.back.labels grant.label)).owes

  -- *A label is freed*
  module _ (instances : ℕ) (label : Label) (held : at label_number label.number s.labels ≡ Some label) (quit : label.state ≡ Wired) where
    abbrev freeing : Session
    freeing = record s { labels = without label_number label.number s.labels }

    gone : IsGone label.number (between one other label.number)
    gone = subst (IsInState setup.timers label.number label.flow label.ticks (between one other label.number)) quit (stood setup side tally s grants said other t label label held refl)

    pub free_on : TouchOn one other (done setup (now_at instances) (label_tree setup label.number))
    free_on = subst (TouchOn one other)
        (sym (label_freed setup empty_desk side tally instances grants other.port.adjacency t.met s label (known_channel setup side tally s grants said other t label held) held quit))
        (on_silent setup side tally s grants said other t instances freeing grants (Note (Free setup.node setup.port label.number) ∷ []) (notes (Free setup.node setup.port label.number), tt) refl
        (with_labels setup side tally s grants said other t freeing refl refl refl (without_order label_number (λ m n. m < n) label.number s.labels t.one_end.labels_apart)
        (every_map (IsInRanges other.setup (Some s)) (IsInRanges other.setup (Some freeing)) freeing.labels (λ l r. record { in_range = r.in_range; inside = r.inside })
        (without_every label_number (IsInRanges other.setup (Some s)) label.number s.labels t.there.ranges))
        (changed (λ k. Stands setup.timers k (between one other k) (at label_number k freeing.labels)) label.number
        (subst (Stands setup.timers label.number (between one other label.number)) (sym (at_without_same label_number label.number s.labels)) gone)
        (λ k differs. subst (Stands setup.timers k (between one other k)) (sym (at_without_other label_number label.number k s.labels differs)) (t.there.labels k)))))

  -- *LABEL RANGE is said*, or nothing
  pub nudge_on : (instances : ℕ) → s.number < last_number → TouchOn one other (nudges setup (now_at instances))
  nudge_on instances left = on_each (TouchOn one other) (asks_for_ack (Some s)) (says (now_at instances) (label_range setup)) (now_at instances)
      (λ waits. subst (TouchOn one other) (sym (says_it setup empty_desk side tally instances grants other.port.adjacency t.met s grants (label_range setup) left side t.met.one_knows)) telling)
      (λ none. as_before setup side tally s grants said other t instances)
    where
      range : Message
      range = label_range setup side.own.instance other.port.adjacency.own.instance s.number

      telling : TouchOn one other (at_work side tally instances (record s { number = s.number + 1 }) grants (Say range ∷ []))
      telling = on_saying setup side tally s grants said other t instances (record s { number = s.number + 1 }) grants (Say range ∷ []) range (law.says range, tt) refl
          (says_with setup side tally s grants said other t range a_range left s.labels grants tt t.one_end.labels_apart t.one_end.grants_apart t.there.ranges
          (λ k. stands_saying setup side tally s grants said other t range k tt) (λ k. stands_back setup side tally s grants said other t range k tt))

  -- *An ACK is said*
  pub greeting_said : AreInTouch (record one { said = said ++ ack_from one other s.expected ∷ [] }) other
  greeting_said = touches setup side tally s grants said other t side tally s grants (said ++ ack_from one other s.expected ∷ []) other.said t.met t.one_end.labels_apart t.one_end.grants_apart
      (record {
        numbers = lead_greeting side.own other.port.adjacency.own setup (expected_of other.port) s.number said (ack_from one other s.expected) t.there.numbers (record { expected = s.expected; is = refl });
        named = t.there.named;
        known = t.there.known;
        ranges = t.there.ranges;
        labels = λ k. stands_saying setup side tally s grants said other t (ack_from one other s.expected) k tt;
      })
      (record {
        numbers = t.back.numbers;
        named = every_more (NamesAtMost s.expected) said (ack_from one other s.expected) t.back.named (whole s.expected);
        known = t.back.known;
        ranges = t.back.ranges;
        labels = λ k. stands_back setup side tally s grants said other t (ack_from one other s.expected) k tt;
      })
