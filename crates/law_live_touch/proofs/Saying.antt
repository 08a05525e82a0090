-- labels are taken, made, and freed; grants are started and given back; and what a tick says besides

use Rattle.std.proofs.Common.{◌≡◌, ℕ, ◌≤◌, ◌<◌, ◌+◌, Bool, false, true, List, [], ◌∷◌, ◌++◌, Option, None, Some, refl, sym, ◌∙◌, ap, subst, arith, if◌then◌else◌}
use Rattle.std.specs.Prelude.{◌&&◌, not}
use Rattle.live_model.specs.world_model.Words.{Bind, End, FlowId, Instance, Peer, Side, label_channel_of, label_number_of, at, put, entered, key_le, same_flow, Desk, Setup, is_in_range, Label, Wiring, Offered, label_number, label_at, label_for, with_label, lowest_spare, is_spare, serves, counted_once, packets_in, Grant, GrantState, Idle, ByController, ByInput, Leaving, grant_label, grant_on, is_leaving, Session, Work, known_of, last_number, has_room, redirect, started, started_in, wires, counts_flow, counts_by, counts, packet_flow}
use Rattle.live_model.specs.world_model.ifmp_wire.declared.message.Message.{Message}
use Rattle.live_model.specs.world_model.port_model.Answers.{done}
use Rattle.live_model.specs.world_model.port_model.Counts.{Counted}
use Rattle.live_model.specs.world_model.port_model.Reclaiming.{is_outside}
use Rattle.live_model.specs.world_model.port_model.Saying.{peer_instance}
use Rattle.live_model.specs.world_model.port_model.Setup.{is_between, label_numbers}
use Rattle.live_model.specs.world_model.port_model.declared.action.Action.TheVariants.{Ask, Note, Say}
use Rattle.law_port_facts.specs.ordered_lists.Ordered.{Every, InOrder}
use Rattle.law_port_facts.proofs.Found.{find_passes}
use Rattle.law_port_facts.proofs.Keyed.{at_key, at_put_same, at_put_other, find_at, entered_every, entered_order, every_more, put_order}
use Rattle.law_port_facts.proofs.ordered_lists.Every.{every_map}
use Rattle.law_live_labels.proofs.Agreed.{at_work, labels_are_offered}
use Rattle.law_live_counts.specs.Law.{wiring_for}
use Rattle.law_live_counts.proofs.Asking.{spare_at}
use Rattle.law_live_links.specs.Law.{EndOfLink, number_of, expected_of}
use Rattle.law_live_links.proofs.Resting.{end_in}
use Rattle.law_live_bindings.specs.Law.{TakesInRange, label_branch, grant_branch}
use Rattle.law_live_bindings.proofs.Places.{at_entered_same, at_entered_other}
use Rattle.law_live_touch.specs.Touch.{IsNumbered, a_redirect, LeadFrom, SaysNothing, AnswersNothing, NamesAtMost, between, IsGone, IsInState, Stands, IsInRanges, AreInTouch}
use Rattle.law_live_touch.specs.Law.{says, notes, makes_label, TouchOn}
use Rattle.law_live_touch.proofs.Lists.{lead_numbered}
use Rattle.law_live_touch.proofs.Labels.{there_same, there_said, back_same, back_said, stands_on}
use Rattle.law_live_touch.proofs.Moves.{is_offered, is_regranted}
use Rattle.law_live_touch.proofs.Ends.{changed, of_another, touches, in_its_range, known_channel, apart_now, ranges_now, all_now, stood, on_silent, on_saying}

whole : (n : ℕ) → n ≤ n
whole n = omega arith

module _ (setup : Setup) (side : Side Peer) (tally : ℕ) (s : Session) (grants : List Grant) (said : List Message) (other : EndOfLink)
    (t : AreInTouch (end_in setup side tally s grants said) other) where
  abbrev one : EndOfLink
  one = end_in setup side tally s grants said

  abbrev now_at : (instances : ℕ) → Work
  now_at instances = at_work side tally instances s grants []

  -- *Labels stand as before* where a message is said more that says nothing of them
  pub stands_saying : (message : Message) (k : ℕ) → SaysNothing k message → Stands setup.timers k (record (between one other k) { there = said ++ message ∷ [] }) (at label_number k s.labels)
  stands_saying message k silent = stands_on setup.timers k (at grant_label k other.port.grants) s.known said (said ++ message ∷ []) other.said other.said (expected_of other.port) (expected_of other.port)
      (there_said k said message silent) (back_same k other.said) (whole (expected_of other.port)) (at label_number k s.labels) (t.there.labels k)

  -- *A label is used*, or flows are counted
  pub with_labels : (session : Session) → session.number ≡ s.number → session.expected ≡ s.expected → session.known ≡ s.known
      → InOrder (λ (a b : Label). label_number a < label_number b) session.labels → Every (IsInRanges other.setup (Some session)) session.labels
      → ((k : ℕ) → Stands setup.timers k (record (between one other k) { known = session.known }) (at label_number k session.labels))
      → AreInTouch (end_in setup side tally session grants said) other
  with_labels session same_number same_expected same_known apart ranges stand =
      touches setup side tally s grants said other t side tally session grants said other.said t.met apart t.one_end.grants_apart
      (record {
        numbers = subst (λ n. LeadFrom side.own other.port.adjacency.own setup (expected_of other.port) n said) (sym same_number) t.there.numbers;
        named = t.there.named;
        known = subst (λ n. n ≤ expected_of other.port) (sym same_known) t.there.known;
        ranges = ranges;
        labels = stand;
      })
      (record {
        numbers = subst (λ n. LeadFrom other.port.adjacency.own side.own other.setup n (number_of other.port) other.said) (sym same_expected) t.back.numbers;
        named = subst (λ n. Every (NamesAtMost n) said) (sym same_expected) t.back.named;
        known = subst (λ n. known_of other.port ≤ n) (sym same_expected) t.back.known;
        ranges = t.back.ranges;
        labels = λ k. subst (λ n. Stands other.setup.timers k (record (between other one k) { expected = n }) (label_at other.port k)) (sym same_expected) (t.back.labels k);
      })

  -- *A packet is counted*
  module _ (desk : Desk) (instances : ℕ) where
    abbrev counting : FlowId → Session
    counting flow = record s { counted = counted_once s.counted flow }

    pub counted_with : (counted_now : List Counted) → TouchOn one other (at_work side tally instances (record s { counted = counted_now }) grants [])
    counted_with counted_now = on_silent setup side tally s grants said other t instances session grants [] tt refl
        (with_labels session refl refl refl t.one_end.labels_apart (same_ranges t.there.ranges) t.there.labels)
      where
        session : Session
        session = record s { counted = counted_now }

        same_ranges : Every (IsInRanges other.setup (Some s)) s.labels → Every (IsInRanges other.setup (Some (record s { counted = counted_now }))) s.labels
        same_ranges h = every_map (IsInRanges other.setup (Some s)) (IsInRanges other.setup (Some (record s { counted = counted_now }))) s.labels (λ label r. record { in_range = r.in_range; inside = r.inside }) h

    counted_on : (flow : FlowId) → TouchOn one other (at_work side tally instances (counting flow) grants [])
    counted_on flow = counted_with (counted_once s.counted flow)

    module _ (flow : FlowId) (number : ℕ) (is : lowest_spare setup s.least s.greatest s.labels ≡ Some number) (in_range : is_in_range other.setup number ≡ true) where
      abbrev wiring : Label
      wiring = wiring_for flow number

      abbrev taking : Session
      taking = record (counting flow) { labels = entered (key_le label_number) wiring s.labels }

      spare : at label_number number s.labels ≡ None
      spare = spare_at setup s.least s.greatest s.labels number is

      inside : is_outside (Some s) number ≡ false
      inside = ap not (first (is_between s.least s.greatest (label_channel_of number)) (is_spare s.labels number)
          (find_passes (λ n. is_between s.least s.greatest (label_channel_of n) && is_spare s.labels n) (label_numbers setup) number is))
        where
          first : (a b : Bool) → (a && b) ≡ true → a ≡ true
          first true b h = refl
          first false b h = absurd (cc h)

      some_ticks : (n : ℕ) → 1 ≤ n → 0 < n
      some_ticks n h = omega (arith, h)

      taken_on : TouchOn one other (wires setup (at_work side tally instances (counting flow) grants []) flow (Some number))
      taken_on = on_silent setup side tally s grants said other t instances taking grants (Ask (label_branch setup number) false ∷ []) (makes_label number, tt) refl
          (with_labels taking refl refl refl (entered_order label_number wiring s.labels spare t.one_end.labels_apart)
          (every_map (IsInRanges other.setup (Some s)) (IsInRanges other.setup (Some taking)) taking.labels (λ label r. record { in_range = r.in_range; inside = r.inside })
          (entered_every label_number (IsInRanges other.setup (Some s)) (key_le label_number) wiring s.labels (record { in_range = in_range; inside = inside }) t.there.ranges))
          (changed (λ k. Stands setup.timers k (between one other k) (at label_number k taking.labels)) number
          (subst (Stands setup.timers number (between one other number)) (sym (at_entered_same label_number (key_le label_number) wiring s.labels spare))
          (some_ticks setup.timers.refresh t.one_end.refreshes, subst (Stands setup.timers number (between one other number)) spare (t.there.labels number)))
          (λ k differs. subst (Stands setup.timers k (between one other k)) (sym (at_entered_other label_number (key_le label_number) wiring k s.labels differs)) (t.there.labels k))))

    -- the other end doesn't see for how long a label is idle, and where it is joined to
    pub unseen_on : (label : Label) (idle : ℕ) (join : Option End) → at label_number label.number s.labels ≡ Some label
        → TouchOn one other (with_label (now_at instances) (record label { idle = idle; join = join }))
    unseen_on label idle join held = on_silent setup side tally s grants said other t instances session grants [] tt refl
        (with_labels session refl refl refl (apart_now setup side tally s grants said other t label now held refl)
        (every_map (IsInRanges other.setup (Some s)) (IsInRanges other.setup (Some session)) session.labels (λ label r. record { in_range = r.in_range; inside = r.inside })
        (ranges_now setup side tally s grants said other t label now held refl))
        (all_now setup side tally s grants said other t label now held refl (between one other) (stood setup side tally s grants said other t label now held refl)
        (λ k differs. t.there.labels k)))
      where
        now : Label
        now = record label { idle = idle; join = join }

        session : Session
        session = record s { labels = put label_number (record label { idle = idle; join = join }) s.labels }

    served_on : (flow : FlowId) (label : Label) → label_for s.labels flow ≡ Some label → TouchOn one other (counts_flow setup desk (now_at instances) s flow (Some label))
    served_on flow label found = unseen_on label 0 label.join
        (find_at label_number (λ (l : Label). serves l.state && same_flow l.flow flow) s.labels label t.one_end.labels_apart found)

    module _ (in_range : TakesInRange one other.setup) where
      offered_on : (flow : FlowId) (b : Bool) → TouchOn one other (if b then wires setup (at_work side tally instances (counting flow) grants []) flow (lowest_spare setup s.least s.greatest s.labels)
          else at_work side tally instances (counting flow) grants [])
      offered_on flow false = counted_on flow
      offered_on flow true = by (lowest_spare setup s.least s.greatest s.labels) refl
        where
          by : (o : Option ℕ) → lowest_spare setup s.least s.greatest s.labels ≡ o → TouchOn one other (wires setup (at_work side tally instances (counting flow) grants []) flow o)
          by None is = counted_on flow
          by (Some number) is = taken_on flow number is (in_range s number refl is)

      flow_on : (flow : FlowId) (o : Option Label) → label_for s.labels flow ≡ o → TouchOn one other (counts_flow setup desk (now_at instances) s flow o)
      flow_on flow None found = offered_on flow (setup.policy.offers flow (packets_in (counting flow).counted flow) && has_room desk (at_work side tally instances (counting flow) grants []))
      flow_on flow (Some label) found = served_on flow label found

      pub packet_on : (packet : List ℕ) → TouchOn one other (counts setup desk (now_at instances) packet)
      packet_on packet = by (packet_flow packet)
        where
          by : (o : Option FlowId) → TouchOn one other (counts_by setup desk (now_at instances) (Some s) o)
          by None = on_silent setup side tally s grants said other t instances s grants [] tt refl t
          by (Some flow) = flow_on flow (label_for s.labels flow) refl

  -- *A message more is said* under the next number, which says nothing of the labels that the other end gives
  module _ (message : Message) (is : IsNumbered side.own other.port.adjacency.own setup s.number message) (left : s.number < last_number) where
    abbrev said_then : List Message
    said_then = said ++ message ∷ []

    numbers_then : LeadFrom side.own other.port.adjacency.own setup (expected_of other.port) (s.number + 1) said_then
    numbers_then = lead_numbered side.own other.port.adjacency.own setup (expected_of other.port) s.number said message t.there.numbers is left

    -- a session with these labels, and these grants, as this is said
    pub says_with : (labels : List Label) (held : List Grant) → NamesAtMost s.expected message
        → InOrder (λ (a b : Label). label_number a < label_number b) labels → InOrder (λ (a b : Grant). grant_label a ≡ grant_label b → ⊥) held
        → Every (IsInRanges other.setup (Some s)) labels
        → ((k : ℕ) → Stands setup.timers k (record (between one other k) { there = said_then }) (at label_number k labels))
        → ((k : ℕ) → Stands other.setup.timers k (record (between other one k) { granted = at grant_label k held; back = said_then }) (label_at other.port k))
        → AreInTouch (end_in setup side tally (record s { labels = labels; number = s.number + 1 }) held said_then) other
    says_with labels held names apart grants_apart ranges stand stand_back =
        touches setup side tally s grants said other t side tally (record s { labels = labels; number = s.number + 1 }) held said_then other.said t.met apart grants_apart
        (record {
          numbers = numbers_then;
          named = t.there.named;
          known = t.there.known;
          ranges = every_map (IsInRanges other.setup (Some s)) (IsInRanges other.setup (Some (record s { labels = labels; number = s.number + 1 }))) labels
              (λ label r. record { in_range = r.in_range; inside = r.inside }) ranges;
          labels = stand;
        })
        (record {
          numbers = t.back.numbers;
          named = every_more (NamesAtMost s.expected) said message t.back.named names;
          known = t.back.known;
          ranges = t.back.ranges;
          labels = stand_back;
        })

  -- *The labels of the other end* stand as before, where a message is said more that answers nothing of them
  pub stands_back : (message : Message) (k : ℕ) → AnswersNothing k message → Stands other.setup.timers k (record (between other one k) { back = said ++ message ∷ [] }) (label_at other.port k)
  stands_back message k silent = stands_on other.setup.timers k (at grant_label k grants) (known_of other.port) other.said other.said said (said ++ message ∷ []) s.expected s.expected
      (there_same k other.said) (back_said k said message silent) (whole s.expected) (label_at other.port k) (t.back.labels k)

  -- *The branch of a label is made*
  module _ (instances : ℕ) (label : Label) (held : at label_number label.number s.labels ≡ Some label) (wiring : label.state ≡ Wiring) (left : s.number < last_number) where
    abbrev offered : Label
    offered = record label { state = Offered }

    abbrev told : Message
    told = redirect setup label side.own.instance other.port.adjacency.own.instance s.number

    abbrev offering : Session
    offering = record s { labels = put label_number offered s.labels; number = s.number + 1 }

    abbrev offering_work : Instance → Work
    offering_work peer = at_work side tally instances offering grants (Note (Bind setup.node setup.port label.number label.flow) ∷ Say (redirect setup label side.own.instance peer s.number) ∷ [])

    known : label_number_of (label_channel_of label.number) ≡ Some label.number
    known = known_channel setup side tally s grants said other t label held

    -- what is done doesn't turn on the port's range
    offer_made : done setup (now_at instances) (label_branch setup label.number) ≡ offering_work other.port.adjacency.own.instance
    offer_made = labels_are_offered (record setup { least = other.setup.least; greatest = other.setup.greatest }) (now_at instances) s label (record {
      working = record { of_link = t.one_end.of_link; going = refl; is_open = refl };
      in_range = in_its_range setup side tally s grants said other t label held;
      held = held;
      wiring = wiring;
      number_left = left;
    }) ∙ ap (λ stored. offering_work (peer_instance (record side { stored = stored }))) t.met.one_knows

    was : (label.ticks < setup.timers.refresh) × IsGone label.number (between one other label.number)
    was = subst (IsInState setup.timers label.number label.flow label.ticks (between one other label.number)) wiring (stood setup side tally s grants said other t label offered held refl)

    pub offer_on : TouchOn one other (done setup (now_at instances) (label_branch setup label.number))
    offer_on = subst (TouchOn one other) (sym offer_made)
        (on_saying setup side tally s grants said other t instances offering grants
        (Note (Bind setup.node setup.port label.number label.flow) ∷ Say told ∷ []) told (notes (Bind setup.node setup.port label.number label.flow), (says told, tt)) refl
        (says_with told (a_redirect label.number label.flow known) left offering.labels grants tt (apart_now setup side tally s grants said other t label offered held refl) t.one_end.grants_apart
        (ranges_now setup side tally s grants said other t label offered held refl)
        (all_now setup side tally s grants said other t label offered held refl (λ k. record (between one other k) { there = said ++ told ∷ [] })
        (is_offered setup.timers label.number said other.said (expected_of other.port) s.known label.flow label.ticks told was.0 known (λ of_it. refl)
        (at grant_label label.number other.port.grants) was.1)
        (λ k differs. stands_saying told k (of_another label.number k known differs)))
        (λ k. stands_back told k tt)))

  -- *Grants are others now*
  with_grants : (held : List Grant) → InOrder (λ (a b : Grant). grant_label a ≡ grant_label b → ⊥) held
      → ((k : ℕ) → Stands other.setup.timers k (record (between other one k) { granted = at grant_label k held }) (label_at other.port k)) → AreInTouch (end_in setup side tally s held said) other
  with_grants held apart stand = touches setup side tally s grants said other t side tally s held said other.said t.met t.one_end.labels_apart apart
      (record { numbers = t.there.numbers; named = t.there.named; known = t.there.known; ranges = t.there.ranges; labels = t.there.labels })
      (record { numbers = t.back.numbers; named = t.back.named; known = t.back.known; ranges = t.back.ranges; labels = stand })

  -- one is, which isn't leaving before or after
  pub regrants : (grant : Grant) (state : GrantState) → at grant_label grant.label grants ≡ Some grant → is_leaving grant.state ≡ false → is_leaving state ≡ false
      → AreInTouch (end_in setup side tally s (put grant_label (record grant { state = state }) grants) said) other
  regrants grant state found stays still = with_grants held (put_order grant_label (λ m n. m ≡ n → ⊥) (record grant { state = state }) grants t.one_end.grants_apart)
      (changed (λ k. Stands other.setup.timers k (record (between other one k) { granted = at grant_label k held }) (label_at other.port k)) grant.label
      (subst (λ o. Stands other.setup.timers grant.label (record (between other one grant.label) { granted = o }) (label_at other.port grant.label)) (sym (at_put_same grant_label (record grant { state = state }) grants grant found))
      (by (label_at other.port grant.label)
      (subst (λ o. Stands other.setup.timers grant.label (record (between other one grant.label) { granted = o }) (label_at other.port grant.label)) found (t.back.labels grant.label))))
      (λ k differs. subst (λ o. Stands other.setup.timers k (record (between other one k) { granted = o }) (label_at other.port k)) (sym (at_put_other grant_label (record grant { state = state }) k grants differs)) (t.back.labels k)))
    where
      held : List Grant
      held = put grant_label (record grant { state = state }) grants

      by : (o : Option Label) → Stands other.setup.timers grant.label (record (between other one grant.label) { granted = Some grant }) o
          → Stands other.setup.timers grant.label (record (between other one grant.label) { granted = Some (record grant { state = state }) }) o
      by None gone = absurd (cc gone.ungranted)
      by (Some l) stands = is_regranted other.setup.timers grant.label other.said said s.expected (known_of other.port) l.flow l.ticks l.state grant state stays still stands

  pub as_before : (instances : ℕ) → TouchOn one other (now_at instances)
  as_before instances = on_silent setup side tally s grants said other t instances s grants [] tt refl t

  -- *The branch of a grant is made*
  pub start_on : (instances label : ℕ) → TouchOn one other (done setup (now_at instances) (grant_branch setup label))
  start_on instances label = by (label_number_of (label_channel_of label))
    where
      by_state : (grant : Grant) (state : GrantState) → grant.state ≡ state → at grant_label grant.label grants ≡ Some grant → TouchOn one other (started_in (now_at instances) grant state)
      by_state grant Idle is found = on_silent setup side tally s grants said other t instances s (put grant_label (record grant { state = ByController }) grants) [] tt refl
          (regrants grant ByController found (ap is_leaving is) refl)
      by_state grant ByController is found = as_before instances
      by_state grant (ByInput input) is found = as_before instances
      by_state grant (Leaving input owed) is found = as_before instances

      by_grant : (n : ℕ) (o : Option Grant) → at grant_label n grants ≡ o → TouchOn one other (started (now_at instances) o)
      by_grant n None is = as_before instances
      by_grant n (Some grant) is = by_state grant grant.state refl (ap (λ k. at grant_label k grants) (at_key grant_label n grants grant is) ∙ is)

      by : (o : Option ℕ) → TouchOn one other (started (now_at instances) (grant_on grants o))
      by None = as_before instances
      by (Some n) = by_grant n (at grant_label n grants) refl
