-- two ends in touch, of which one is taken to its parts

use Rattle.std.proofs.Common.{◌≡◌, ◌≢◌, ℕ, ◌<◌, true, List, [], ◌∷◌, ◌++◌, append-nil, Some, refl, sym, ◌∙◌, ap, subst}
use Rattle.live_model.specs.world_model.Words.{Peer, Side, label_channel_of, label_number_of, at, put, Setup, is_in_range, Label, label_number, Grant, grant_label, Session}
use Rattle.live_model.specs.world_model.ifmp_wire.declared.message.Message.{Message}
use Rattle.live_model.specs.world_model.port_model.declared.action.Action.{Action}
use Rattle.live_model.specs.world_model.port_model.Reclaiming.{is_outside}
use Rattle.live_model.specs.Met.{HaveMet}
use Rattle.law_port_facts.specs.ordered_lists.Ordered.{Every, InOrder}
use Rattle.law_port_facts.proofs.Keyed.{at_every, at_put_same, at_put_other, by_eq, put_every, put_order}
use Rattle.law_live_labels.proofs.Agreed.{at_work, in_range_number}
use Rattle.law_live_nodes.specs.Law.{told_by}
use Rattle.law_live_links.specs.Law.{EndOfLink}
use Rattle.law_live_links.proofs.Resting.{end_in}
use Rattle.law_live_touch.specs.Touch.{Between, between, Stands, IsInRanges, TouchOneWay, AreInTouch}
use Rattle.law_live_touch.specs.Law.{MayDo, TouchOn}

-- what is so of one number, and of each other, is so of all
pub changed : (P : ℕ → Type 0) (j : ℕ) → P j → ((k : ℕ) → j ≢ k → P k) → (k : ℕ) → P k
changed P j here others k = by_eq j k (λ same t. subst P same here) (λ differs t. others k differs)

pub one_number : (m n : ℕ) → Some m ≡ Some n → m ≡ n
one_number m n e = cc

pub one_label : (x y : Label) → Some x ≡ Some y → x ≡ y
one_label x y e = cc

-- a channel of one label is that of no other
pub of_another : (j k : ℕ) → label_number_of (label_channel_of j) ≡ Some j → j ≢ k → label_number_of (label_channel_of j) ≡ Some k → ⊥
of_another j k known differs is = differs (one_number j k (sym known ∙ is))

pub swapped : (one other : EndOfLink) → AreInTouch one other → AreInTouch other one
swapped one other t = record {
  met = record { one_is_up = t.met.other_is_up; other_is_up = t.met.one_is_up; one_knows = t.met.other_knows; other_knows = t.met.one_knows };
  one_end = t.other_end;
  other_end = t.one_end;
  there = t.back;
  back = t.there;
}

module _ (setup : Setup) (side : Side Peer) (tally : ℕ) (s : Session) (grants : List Grant) (said : List Message) (other : EndOfLink) where
  abbrev pub one : EndOfLink
  one = end_in setup side tally s grants said

  module _ (t : AreInTouch one other) where
    -- *It is left so*
    pub touches : (now : Side Peer) (tally_then : ℕ) (session : Session) (held : List Grant) (messages heard : List Message) → HaveMet now other.port.adjacency
        → InOrder (λ (a b : Label). label_number a < label_number b) session.labels → InOrder (λ (a b : Grant). grant_label a ≡ grant_label b → ⊥) held
        → TouchOneWay (end_in setup now tally_then session held messages) (record other { said = heard })
        → TouchOneWay (record other { said = heard }) (end_in setup now tally_then session held messages)
        → AreInTouch (end_in setup now tally_then session held messages) (record other { said = heard })
    touches now tally_then session held messages heard met labels_apart grants_apart there back = record {
      met = record { one_is_up = met.one_is_up; other_is_up = met.other_is_up; one_knows = met.one_knows; other_knows = met.other_knows };
      one_end = record {
        of_link = t.one_end.of_link;
        in_session = refl;
        labels_apart = labels_apart;
        grants_apart = grants_apart;
        refreshes = t.one_end.refreshes;
        in_time = t.one_end.in_time;
        counted = t.one_end.counted;
      };
      other_end = record {
        of_link = t.other_end.of_link;
        in_session = t.other_end.in_session;
        labels_apart = t.other_end.labels_apart;
        grants_apart = t.other_end.grants_apart;
        refreshes = t.other_end.refreshes;
        in_time = t.other_end.in_time;
        counted = t.other_end.counted;
      };
      there = there;
      back = back;
    }

    pub still_met : HaveMet (record side { silence = 0 }) other.port.adjacency
    still_met = record { one_is_up = t.met.one_is_up; other_is_up = t.met.other_is_up; one_knows = t.met.one_knows; other_knows = t.met.other_knows }

    -- a label that is held goes by its channel
    pub in_its_range : (label : Label) → at label_number label.number s.labels ≡ Some label → is_in_range other.setup label.number ≡ true
    in_its_range label held = (at_every label_number (IsInRanges other.setup (Some s)) label.number s.labels label t.there.ranges held).in_range

    pub known_channel : (label : Label) → at label_number label.number s.labels ≡ Some label → label_number_of (label_channel_of label.number) ≡ Some label.number
    known_channel label held = in_range_number other.setup label.number (in_its_range label held)

    -- *A label is another now*
    module _ (label now : Label) (held : at label_number label.number s.labels ≡ Some label) (same : now.number ≡ label.number) where
      pub held_now : at label_number now.number s.labels ≡ Some label
      held_now = ap (λ n. at label_number n s.labels) same ∙ held

      pub apart_now : InOrder (λ (a b : Label). label_number a < label_number b) (put label_number now s.labels)
      apart_now = put_order label_number (λ m n. m < n) now s.labels t.one_end.labels_apart

      pub ranges_now : Every (IsInRanges other.setup (Some s)) (put label_number now s.labels)
      ranges_now = put_every label_number (IsInRanges other.setup (Some s)) now s.labels its_ranges t.there.ranges
        where
          old : IsInRanges other.setup (Some s) label
          old = at_every label_number (IsInRanges other.setup (Some s)) label.number s.labels label t.there.ranges held

          its_ranges : IsInRanges other.setup (Some s) now
          its_ranges = record {
            in_range = ap (is_in_range other.setup) same ∙ old.in_range;
            inside = ap (is_outside (Some s)) same ∙ old.inside;
          }

      -- of each number
      pub all_now : (b : ℕ → Between) → Stands setup.timers now.number (b now.number) (Some now)
          → ((k : ℕ) → now.number ≢ k → Stands setup.timers k (b k) (at label_number k s.labels))
          → (k : ℕ) → Stands setup.timers k (b k) (at label_number k (put label_number now s.labels))
      all_now b here others = changed (λ k. Stands setup.timers k (b k) (at label_number k (put label_number now s.labels))) now.number
          (subst (Stands setup.timers now.number (b now.number)) (sym (at_put_same label_number now s.labels label held_now)) here)
          (λ k differs. subst (Stands setup.timers k (b k)) (sym (at_put_other label_number now k s.labels differs)) (others k differs))

      pub stood : Stands setup.timers label.number (between one other label.number) (Some label)
      stood = subst (Stands setup.timers label.number (between one other label.number)) held (t.there.labels label.number)

    -- *Of a port that says nothing*, and of one that says one message
    pub on_silent : (instances : ℕ) (session : Session) (held : List Grant) (actions : List Action) → Every (MayDo setup) actions → told_by actions ≡ []
        → AreInTouch (end_in setup side tally session held said) other → TouchOn one other (at_work side tally instances session held actions)
    on_silent instances session held actions may silent touch = record {
      going = refl;
      acts = may;
      touch = subst (λ (messages : List Message). AreInTouch (end_in setup side tally session held messages) other) (sym (ap (λ messages. said ++ messages) silent ∙ append-nil said)) touch;
    }

    pub on_saying : (instances : ℕ) (session : Session) (held : List Grant) (actions : List Action) (message : Message) → Every (MayDo setup) actions → told_by actions ≡ message ∷ []
        → AreInTouch (end_in setup side tally session held (said ++ message ∷ [])) other → TouchOn one other (at_work side tally instances session held actions)
    on_saying instances session held actions message may tells touch = record {
      going = refl;
      acts = may;
      touch = subst (λ (messages : List Message). AreInTouch (end_in setup side tally session held messages) other) (sym (ap (λ messages. said ++ messages) tells)) touch;
    }

    -- *Of one that hears*, and says this
    pub on_hearing : (now : Side Peer) (tally_then instances : ℕ) (session : Session) (held : List Grant) (actions : List Action) (messages heard : List Message) → Every (MayDo setup) actions → told_by actions ≡ messages
        → AreInTouch (end_in setup now tally_then session held (said ++ messages)) (record other { said = heard }) → TouchOn one (record other { said = heard }) (at_work now tally_then instances session held actions)
    on_hearing now tally_then instances session held actions messages heard may tells touch = record {
      going = refl;
      acts = may;
      touch = subst (λ (more : List Message). AreInTouch (end_in setup now tally_then session held (said ++ more)) (record other { said = heard })) (sym tells) touch;
    }

    pub on_hearing_silent : (now : Side Peer) (tally_then instances : ℕ) (session : Session) (held : List Grant) (actions : List Action) (heard : List Message) → Every (MayDo setup) actions → told_by actions ≡ []
        → AreInTouch (end_in setup now tally_then session held said) (record other { said = heard }) → TouchOn one (record other { said = heard }) (at_work now tally_then instances session held actions)
    on_hearing_silent now tally_then instances session held actions heard may silent touch = on_hearing now tally_then instances session held actions [] heard may silent
        (subst (λ (messages : List Message). AreInTouch (end_in setup now tally_then session held messages) (record other { said = heard })) (sym (append-nil said)) touch)
