-- each rule that brings a label back, of a port in its parts that holds others too

use Rattle.std.proofs.Common.{◌≡◌, ℕ, ◌≤◌, ◌<◌, ◌+◌, ◌&&◌, ◌||◌, Bool, true, false, not, List, [], ◌∷◌, Option, None, Some, refl, sym, ◌∙◌, ap, subst, arith, if◌then◌else◌, map, fold}
use Rattle.std.specs.Prelude.{◌==◌, nat_le, nat_lt, min, max, is_none}
use Rattle.std.specs.List.{list_any}
use Rattle.std.specs.Option.{option_map_or}
use Rattle.std.proofs.lemmas.Bool.Decides.{nat_tests}
use Rattle.live_model.specs.world_model.Words.{Ack, Channel, DeleteTree, End, FlowId, Free, Heard, LabelRange, Peer, Reclaim, ReclaimAck, Side, Step, hello_of, heard_from, is_estab, is_good, label_channel_of, label_number_of, same_flow, same_peer, at, put, without, Desk, on_input, Setup, label_end, Label, LabelState, Wiring, Offered, Recalled, Wired, label_number, label_at, Grant, GrantState, Idle, ByController, ByInput, Leaving, grant_label, grant_on, Session, Work, Unnumbered, has_room, last_number, spent_number, own_instance, error, label_range, narrowed, nudges, ranged, recalls_offered, recalls_outside, reclaim, reclaim_ack, halts, halts_if_spent, one_idler, one_older, idles, refreshes, recalls, reclaims, unjoins, ticks_label, ticks_found, ticks_in, takes, expects, reclaimed, reclaimed_in, acknowledged, acknowledged_in, learns, quits, quits_found, quits_in, quits_label, freed, freed_in, label_by, with_label, without_grant, hears}
use Rattle.live_model.specs.world_model.ifmp_wire.declared.message.Message.TheVariants.{Adjacency}
use Rattle.live_model.specs.world_model.link_model.ipv4_packet.declared.flow.FlowId.TheVariants.{One, Two}
use Rattle.live_model.specs.world_model.port_model.Adjacency.{steps}
use Rattle.live_model.specs.world_model.port_model.Answers.{done}
use Rattle.live_model.specs.world_model.port_model.Grants.{lent_input}
use Rattle.live_model.specs.world_model.port_model.Joins.{given_back, given_back_in}
use Rattle.live_model.specs.world_model.port_model.Port.{with_action}
use Rattle.live_model.specs.world_model.port_model.Saying.{peer_instance, says, with_number}
use Rattle.live_model.specs.world_model.port_model.Setup.{is_between}
use Rattle.live_model.specs.world_model.port_model.Ticks.{is_unpassed}
use Rattle.live_model.specs.world_model.port_model.declared.action.Action.{Action}
use Rattle.live_model.specs.world_model.port_model.declared.action.Action.TheVariants.{Ask, CutChain, Note, Say, TakeBack}
use Rattle.live_model.specs.Met.{HaveMet}
use Rattle.law_port_facts.specs.ordered_lists.Ordered.{Every}
use Rattle.law_port_facts.proofs.Keyed.{at_every, at_key, at_put_same, at_put_other, by_eq}
use Rattle.law_live_labels.proofs.Agreed.{at_work, same}
use Rattle.law_live_greetings.specs.Law.{WaitsForNone}
use Rattle.law_live_greetings.proofs.Heard.{neighbours_are_heard}

both : (x y : Bool) → x ≡ true → y ≡ true → (x && y) ≡ true
both true y p q = q
both false y p q = absurd (cc p)

peer_itself : (x : Peer) → same_peer x x ≡ true
peer_itself x = both (x.instance.0 == x.instance.0) (x.address.0 == x.address.0) (same x.instance.0) (same x.address.0)

same_itself : (f : FlowId) → same_flow f f ≡ true
same_itself (One tos ttl protocol source destination from to) =
    rw (same tos, same ttl, same protocol, same source.0, same destination.0, same from, same to) refl
same_itself (Two ttl source destination) = rw (same ttl, same source.0, same destination.0) refl

below : (n m : ℕ) → n < m → nat_lt n m ≡ true
below n m h = grind (arith, nat_tests)

pub at_most : (n m : ℕ) → n ≤ m → nat_le n m ≡ true
at_most n m h = grind (arith, nat_tests)

not_below : (n m : ℕ) → m ≤ n → nat_lt n m ≡ false
not_below n m h = grind (arith, nat_tests)

module _ (setup : Setup) (desk : Desk) (side : Side Peer) (tally instances : ℕ) (grants : List Grant) (far_side : Side Peer) (met : HaveMet side far_side) where
  abbrev calm : Side Peer
  calm = record side { silence = 0 }

  -- *A numbered message* is said to the peer while numbers are left
  module _ (s : Session) (held : List Grant) (message : Unnumbered) (left : s.number < last_number) where
    abbrev before_it : Side Peer → Work
    before_it now = at_work now tally instances s held []

    abbrev said_by : Side Peer → Peer → Work
    said_by now to = at_work now tally instances (record s { number = s.number + 1 }) held (Say (message (own_instance now) to.instance s.number) ∷ [])

    abbrev after_it : Side Peer → Work
    after_it now = at_work now tally instances (record s { number = s.number + 1 }) held (Say (message (own_instance now) (peer_instance now) s.number) ∷ [])

    -- whatever its silence is
    module _ (now : Side Peer) (knows : now.stored ≡ Some far_side.own) where
      pub says_it : says (before_it now) message ≡ said_by now far_side.own
      says_it = ap (λ (b : Bool). halts_if_spent (if b then with_action (with_number (s.number + 1) (before_it now)) (Say (message (own_instance now) (peer_instance now) s.number)) else with_number spent_number (before_it now)))
          (below s.number last_number left)
          ∙ ap (λ (b : Bool). if b then halts (after_it now) else after_it now) (unspent s.number last_number left)
          ∙ ap (λ stored. at_work now tally instances (record s { number = s.number + 1 }) held
          (Say (message (own_instance now) (option_map_or (λ (peer : Peer). peer.instance) stored (record { 0 = 0 })) s.number) ∷ [])) knows
        where
          unspent : (n m : ℕ) → n < m → nat_lt m (n + 1) ≡ false
          unspent n m h = grind (arith, nat_tests)

  module _ (s : Session) where
    abbrev now_at_work : Work
    now_at_work = at_work side tally instances s grants []

    -- *A tick comes to a label* that isn't used
    module _ (label : Label) (held : at label_number label.number s.labels ≡ Some label) (offered : label.state ≡ Offered) (unjoined : label.join ≡ None)
        (idle : setup.policy.keeps label.flow (one_idler label).idle ≡ false) (left : s.number < last_number) where
      abbrev recalled_so : (number : ℕ) → Label
      recalled_so number = record (one_idler label) { state = Recalled number false }

      pub label_recalled : ticks_label setup desk now_at_work label.number
          ≡ at_work side tally instances (record s { labels = put label_number (recalled_so s.number) s.labels; number = s.number + 1 }) grants
          (Say (reclaim label (own_instance side) far_side.own.instance s.number) ∷ [])
      label_recalled = ap (ticks_found setup desk now_at_work) held
          ∙ ap (ticks_in setup desk now_at_work label) offered
          ∙ ap (λ (o : Option End). if is_none o then idles setup now_at_work (one_idler label) else refreshes setup now_at_work (one_older label)) unjoined
          ∙ ap (λ (b : Bool). if b then refreshes setup now_at_work (one_older (one_idler label)) else recalls setup now_at_work (one_idler label)) idle
          ∙ ap (unjoins setup (reclaims now_at_work (one_idler label)) label.number) unjoined
          ∙ ap (λ (n : ℕ). says (with_label now_at_work (recalled_so n)) (reclaim label)) (lower s.number last_number left)
          ∙ says_it (record s { labels = put label_number (recalled_so s.number) s.labels }) grants (reclaim label) left side met.one_knows
        where
          lower : (n m : ℕ) → n < m → min m n ≡ n
          lower n m h = omega (arith, h)

    -- and to one that is recalled already, and isn't acknowledged
    module _ (label : Label) (held : at label_number label.number s.labels ≡ Some label) (last : ℕ) (waits : label.state ≡ Recalled last false) (left : s.number < last_number) where
      abbrev again : (number : ℕ) → Label
      again number = record label { state = Recalled number false }

      pub label_told_again : ticks_label setup desk now_at_work label.number
          ≡ at_work side tally instances (record s { labels = put label_number (again s.number) s.labels; number = s.number + 1 }) grants
          (Say (reclaim label (own_instance side) far_side.own.instance s.number) ∷ [])
      label_told_again = ap (ticks_found setup desk now_at_work) held
          ∙ ap (ticks_in setup desk now_at_work label) waits
          ∙ ap (λ (n : ℕ). says (with_label now_at_work (again n)) (reclaim label)) (lowest s.number last_number left)
          ∙ says_it (record s { labels = put label_number (again s.number) s.labels }) grants (reclaim label) left side met.one_knows
        where
          lowest : (n m : ℕ) → n < m → min m n ≡ n
          lowest n m h = omega (arith, h)

    -- *A numbered message comes* under the number that is expected
    module _ (due : s.expected < last_number) where
      abbrev expecting : Session
      expecting = record s { expected = s.expected + 1 }

      pub taken : takes now_at_work.port far_side.own.address far_side.own.instance side.own.instance s.expected ≡ true
      taken = both (option_map_or (same_peer far_side.own) side.stored false && (side.own.instance.0 == side.own.instance.0)) (nat_le s.expected s.expected && nat_lt s.expected last_number)
          (both (option_map_or (same_peer far_side.own) side.stored false) (side.own.instance.0 == side.own.instance.0)
          (ap (λ stored. option_map_or (same_peer far_side.own) stored false) met.one_knows ∙ peer_itself far_side.own) (same side.own.instance.0))
          (both (nat_le s.expected s.expected) (nat_lt s.expected last_number) (at_most s.expected s.expected (whole s.expected)) (below s.expected last_number due))
        where
          whole : (n : ℕ) → n ≤ n
          whole n = omega arith

      abbrev heard_now : Work
      heard_now = at_work calm tally instances expecting grants []

      -- a RECLAIM, of a label that is granted and isn't lent
      module _ (number : ℕ) (known : label_number_of (label_channel_of number) ≡ Some number) (grant : Grant) (granted : at grant_label number grants ≡ Some grant)
          (not_lent : lent_input grant.state ≡ None) (left : s.number < last_number) where
        by_state : (state : GrantState) → lent_input state ≡ None
            → reclaimed_in setup heard_now (label_channel_of number) grant state ≡ says (without_grant heard_now grant.label) (reclaim_ack (label_channel_of number) grant.flow)
        by_state Idle none = refl
        by_state ByController none = refl
        by_state (ByInput input) none = absurd (cc none)
        by_state (Leaving input owed) none = absurd (cc none)

        pub grant_ended : hears setup desk now_at_work far_side.own.address (Reclaim far_side.own.instance side.own.instance s.expected (label_channel_of number) grant.flow)
            ≡ at_work calm tally instances (record s { expected = s.expected + 1; number = s.number + 1 }) (without grant_label number grants)
            (Say (reclaim_ack (label_channel_of number) grant.flow (own_instance side) far_side.own.instance s.number) ∷ [])
        grant_ended = ap (λ (b : Bool). if b then reclaimed setup (expects now_at_work s.expected) (label_channel_of number) grant.flow (grant_on grants (label_number_of (label_channel_of number))) else now_at_work) taken
            ∙ ap (λ o. reclaimed setup heard_now (label_channel_of number) grant.flow (grant_on grants o)) known
            ∙ ap (reclaimed setup heard_now (label_channel_of number) grant.flow) granted
            ∙ ap (λ (b : Bool). if b then reclaimed_in setup heard_now (label_channel_of number) grant grant.state else says heard_now (error 4 (label_channel_of number))) (same_itself grant.flow)
            ∙ by_state grant.state not_lent
            ∙ ap (λ n. says (at_work calm tally instances expecting (without grant_label n grants) []) (reclaim_ack (label_channel_of number) grant.flow)) (at_key grant_label number grants grant granted)
            ∙ says_it expecting (without grant_label number grants) (reclaim_ack (label_channel_of number) grant.flow) left calm met.one_knows

      -- a RECLAIM, of a label whose grant is lent, or is leaving
      module _ (number : ℕ) (known : label_number_of (label_channel_of number) ≡ Some number) (grant : Grant) (granted : at grant_label number grants ≡ Some grant) (input : End) where
        abbrev leaving : Grant
        leaving = record grant { state = Leaving input true }

        abbrev owing : List Action → Work
        owing actions = at_work calm tally instances expecting (put grant_label leaving grants) actions

        grant_reclaimed : hears setup desk now_at_work far_side.own.address (Reclaim far_side.own.instance side.own.instance s.expected (label_channel_of number) grant.flow)
            ≡ reclaimed_in setup heard_now (label_channel_of number) grant grant.state
        grant_reclaimed = ap (λ (b : Bool). if b then reclaimed setup (expects now_at_work s.expected) (label_channel_of number) grant.flow (grant_on grants (label_number_of (label_channel_of number))) else now_at_work) taken
            ∙ ap (λ o. reclaimed setup heard_now (label_channel_of number) grant.flow (grant_on grants o)) known
            ∙ ap (reclaimed setup heard_now (label_channel_of number) grant.flow) granted
            ∙ ap (λ (b : Bool). if b then reclaimed_in setup heard_now (label_channel_of number) grant grant.state else says heard_now (error 4 (label_channel_of number))) (same_itself grant.flow)

        pub grant_owed : grant.state ≡ ByInput input
            → hears setup desk now_at_work far_side.own.address (Reclaim far_side.own.instance side.own.instance s.expected (label_channel_of number) grant.flow)
            ≡ owing (TakeBack input (label_end setup.port number) ∷ [])
        grant_owed is_lent = grant_reclaimed
            ∙ ap (reclaimed_in setup heard_now (label_channel_of number) grant) is_lent
            ∙ ap (λ n. owing (TakeBack input (label_end setup.port n) ∷ [])) (at_key grant_label number grants grant granted)

        pub grant_owed_still : (owed : Bool) → grant.state ≡ Leaving input owed
            → hears setup desk now_at_work far_side.own.address (Reclaim far_side.own.instance side.own.instance s.expected (label_channel_of number) grant.flow) ≡ owing []
        grant_owed_still owed is_leaving_now = grant_reclaimed ∙ ap (reclaimed_in setup heard_now (label_channel_of number) grant) is_leaving_now

      -- a RECLAIM ACK, of a label that waits for it: it is kept where the RECLAIM isn't known to be passed, else the label is quit
      module _ (label : Label) (known : label_number_of (label_channel_of label.number) ≡ Some label.number) (held : at label_number label.number s.labels ≡ Some label)
          (last : ℕ) (waits : label.state ≡ Recalled last false) where
        abbrev acked : Label
        acked = record label { state = Recalled last true }

        abbrev acked_labels : List Label
        acked_labels = put label_number acked s.labels

        abbrev keeping : Work
        keeping = at_work calm tally instances (record s { expected = s.expected + 1; labels = acked_labels }) grants []

        abbrev leaving_it : List Action → Work
        leaving_it actions = at_work calm tally instances (record s { expected = s.expected + 1; labels = put label_number (record label { state = Wired }) acked_labels }) grants actions

        abbrev left_quit : Work
        left_quit = leaving_it (CutChain label.number ∷ Ask (DeleteTree (label_end setup.port label.number)) false ∷ [])

        ack_comes : hears setup desk now_at_work far_side.own.address (ReclaimAck far_side.own.instance side.own.instance s.expected (label_channel_of label.number) label.flow)
            ≡ (if nat_lt last s.known then quits_label setup desk keeping acked else keeping)
        ack_comes = ap (λ (b : Bool). if b then acknowledged setup desk (expects now_at_work s.expected) label.flow (label_by now_at_work.port (label_number_of (label_channel_of label.number))) else now_at_work) taken
            ∙ ap (λ o. acknowledged setup desk heard_now label.flow (label_by now_at_work.port o)) known
            ∙ ap (acknowledged setup desk heard_now label.flow) held
            ∙ ap (λ (b : Bool). if b then acknowledged_in setup desk heard_now label label.state else heard_now) (same_itself label.flow)
            ∙ ap (acknowledged_in setup desk heard_now label) waits
            ∙ ap (quits_found setup desk keeping) (at_put_same label_number acked s.labels label held)

        pub ack_kept : s.known ≤ last
            → hears setup desk now_at_work far_side.own.address (ReclaimAck far_side.own.instance side.own.instance s.expected (label_channel_of label.number) label.flow) ≡ keeping
        ack_kept unpassed = ack_comes ∙ ap (λ (b : Bool). if b then quits_label setup desk keeping acked else keeping) (not_below last s.known unpassed)

        pub ack_quits : last < s.known → on_input desk (label_end setup.port label.number) ≡ false → has_room desk now_at_work ≡ true
            → hears setup desk now_at_work far_side.own.address (ReclaimAck far_side.own.instance side.own.instance s.expected (label_channel_of label.number) label.flow) ≡ left_quit
        ack_quits passed free room = ack_comes
            ∙ ap (λ (b : Bool). if b then quits_label setup desk keeping acked else keeping) (below last s.known passed)
            ∙ ap (λ (b : Bool). if b || has_room desk (leaving_it (CutChain label.number ∷ [])) then with_action (leaving_it (CutChain label.number ∷ [])) (Ask (DeleteTree (label_end setup.port label.number)) b) else leaving_it (CutChain label.number ∷ [])) free
            ∙ ap (λ (b : Bool). if b then left_quit else leaving_it (CutChain label.number ∷ [])) room

    -- *A grant is given back*, whose acknowledgement is owed
    module _ (number : ℕ) (grant : Grant) (granted : at grant_label number grants ≡ Some grant) (input : End) (is_owed : grant.state ≡ Leaving input true) (left : s.number < last_number) where
      abbrev ending : ℕ → Work
      ending n = at_work side tally instances (record s { number = s.number + 1 }) (without grant_label n grants)
          (Say (reclaim_ack (label_channel_of n) grant.flow (own_instance side) far_side.own.instance s.number) ∷ [])

      abbrev told_after : Work
      told_after = at_work side tally instances (record s { number = s.number + 1 }) (without grant_label grant.label grants)
          (Say (reclaim_ack (label_channel_of grant.label) grant.flow (own_instance side) (peer_instance side) s.number) ∷ [])

      abbrev ended_first : Work
      ended_first = at_work side tally instances s (without grant_label grant.label grants) []

      pub owed_ended : given_back now_at_work grant ≡ ending number
      owed_ended = ap (given_back_in now_at_work grant) is_owed
          ∙ ap (λ (b : Bool). if b then told_after else with_number spent_number ended_first) (below s.number last_number left)
          ∙ ap (λ stored. at_work side tally instances (record s { number = s.number + 1 }) (without grant_label grant.label grants)
          (Say (reclaim_ack (label_channel_of grant.label) grant.flow (own_instance side) (option_map_or (λ (peer : Peer). peer.instance) stored (record { 0 = 0 })) s.number) ∷ [])) met.one_knows
          ∙ ap ending (at_key grant_label number grants grant granted)

    -- *A tick* says LABEL RANGE while a label waits so
    module _ (waits : list_any (λ (l : Label). is_unpassed s.known l.state) s.labels ≡ true) (left : s.number < last_number) where
      pub range_said : nudges setup now_at_work
          ≡ at_work side tally instances (record s { number = s.number + 1 }) grants (Say (label_range setup (own_instance side) far_side.own.instance s.number) ∷ [])
      range_said = ap (λ (b : Bool). if b then says now_at_work (label_range setup) else now_at_work) waits ∙ says_it s grants (label_range setup) left side met.one_knows

    -- and it comes, where no label lies outside
    module _ (due : s.expected < last_number) (least greatest : Channel)
        (inside : Every (λ (l : Label). is_between (narrowed least greatest s).least (narrowed least greatest s).greatest (label_channel_of l.number) ≡ true) s.labels) where
      abbrev narrow : Work
      narrow = at_work calm tally instances (record (narrowed least greatest s) { expected = s.expected + 1 }) grants []

      none_outside : (labels : List Label)
          → Every (λ (l : Label). is_between (narrowed least greatest s).least (narrowed least greatest s).greatest (label_channel_of l.number) ≡ true) labels
          → fold (recalls_outside setup) narrow (map label_number labels) ≡ narrow
      none_outside [] h = refl
      none_outside (l ∷ labels) h = ap (λ (u : Work). fold (recalls_outside setup) u (map label_number labels))
          (ap (λ (b : Bool). if not b then recalls_offered setup narrow (label_at narrow.port l.number) else narrow) h.0) ∙ none_outside labels h.1

      pub range_heard : hears setup desk now_at_work far_side.own.address (LabelRange far_side.own.instance side.own.instance s.expected least greatest) ≡ narrow
      range_heard = ap (λ (b : Bool). if b then ranged setup (expects now_at_work s.expected) least greatest else now_at_work) (taken due) ∙ none_outside s.labels inside

    -- *An ACK comes*
    module _ (next : ℕ) where
      abbrev told : Session
      told = record s { known = max s.known next }

      abbrev before : Work
      before = at_work calm tally instances told grants []

      -- it is a good one
      abbrev heard_ack : Option Peer → Heard Peer
      heard_ack stored = heard_from far_side.own.address (hello_of next (record { kind = Ack; sender = far_side.own; receiver = stored }))

      good : is_good side calm (heard_ack (Some side.own)) ≡ true
      good = both (is_estab side.state) (same_peer side.own side.own && option_map_or (same_peer far_side.own) side.stored false)
          (ap is_estab met.one_is_up)
          (both (same_peer side.own side.own) (option_map_or (same_peer far_side.own) side.stored false) (peer_itself side.own)
          (ap (λ stored. option_map_or (same_peer far_side.own) stored false) met.one_knows ∙ peer_itself far_side.own))

      abbrev hello : (stored : Option Peer) → Work
      hello stored = hears setup desk now_at_work far_side.own.address (Adjacency (hello_of next (record { kind = Ack; sender = far_side.own; receiver = stored })))

      pub hello_learns : hello (Some side.own) ≡ fold (quits setup desk) before (map label_number s.labels)
      hello_learns = ap (λ stored. hello stored) (sym met.other_knows)
          ∙ (ap (λ (step : Step Peer). if is_good side step.side (heard_ack far_side.stored) then learns setup desk (steps setup now_at_work step) next else steps setup now_at_work step)
          (neighbours_are_heard side far_side next met)
          ∙ (ap (λ stored. if is_good side calm (heard_ack stored) then learns setup desk (at_work calm tally instances s grants []) next else at_work calm tally instances s grants []) met.other_knows
          ∙ ap (λ (b : Bool). if b then learns setup desk (at_work calm tally instances s grants []) next else at_work calm tally instances s grants []) good))

      -- labels that wait for none
      none_quits : (v : Work) (l : Label) (state : LabelState) → WaitsForNone state → quits_in setup desk v l state ≡ v
      none_quits v l Wiring waits = refl
      none_quits v l Offered waits = refl
      none_quits v l Wired waits = refl
      none_quits v l (Recalled n false) waits = refl
      none_quits v l (Recalled n true) waits = absurd (cc waits)

      stays_so : (v : Work) (n : ℕ) → ((l : Label) → label_at v.port n ≡ Some l → WaitsForNone l.state) → quits setup desk v n ≡ v
      stays_so v n waits = by (label_at v.port n) refl
        where
          by : (o : Option Label) → label_at v.port n ≡ o → quits_found setup desk v o ≡ v
          by None found = refl
          by (Some l) found = none_quits v l l.state (waits l found)

      all_stay : (v : Work) → ((n : ℕ) → quits setup desk v n ≡ v) → (numbers : List ℕ) → fold (quits setup desk) v numbers ≡ v
      all_stay v stays [] = refl
      all_stay v stays (n ∷ numbers) = ap (λ (u : Work). fold (quits setup desk) u numbers) (stays n) ∙ all_stay v stays numbers

      pub ack_passed : ((n : ℕ) (l : Label) → at label_number n s.labels ≡ Some l → WaitsForNone l.state) → hello (Some side.own) ≡ before
      ack_passed waits = hello_learns ∙ all_stay before (λ n. stays_so before n (waits n)) (map label_number s.labels)

      -- *by which one label is quit*
      module _ (label : Label) (held : at label_number label.number s.labels ≡ Some label) (last : ℕ) (returned : label.state ≡ Recalled last true) (passed : last < next)
          (others : Every (λ (l : Label). (l.number ≡ label.number → ⊥) → WaitsForNone l.state) s.labels)
          (free : on_input desk (label_end setup.port label.number) ≡ false) (room : has_room desk now_at_work ≡ true) where
        abbrev wired : Label
        wired = record label { state = Wired }

        abbrev tree : Action
        tree = Ask (DeleteTree (label_end setup.port label.number)) false

        abbrev quitting : List Action → Work
        quitting actions = at_work calm tally instances (record told { labels = put label_number wired s.labels }) grants actions

        abbrev after : Work
        after = quitting (CutChain label.number ∷ tree ∷ [])

        it_quits : quits setup desk before label.number ≡ after
        it_quits = ap (quits_found setup desk before) held
            ∙ ap (quits_in setup desk before label) returned
            ∙ ap (λ (b : Bool). if b then quits_label setup desk before label else before) (below last (max s.known next) (above last s.known next passed))
            ∙ ap (λ (b : Bool). if b || has_room desk (quitting (CutChain label.number ∷ [])) then with_action (quitting (CutChain label.number ∷ [])) (Ask (DeleteTree (label_end setup.port label.number)) b) else quitting (CutChain label.number ∷ [])) free
            ∙ ap (λ (b : Bool). if b then after else quitting (CutChain label.number ∷ [])) room
          where
            above : (n k m : ℕ) → n < m → n < max k m
            above n k m h = omega (arith, h)

        before_waits : (n : ℕ) → (n ≡ label.number → ⊥) → quits setup desk before n ≡ before
        before_waits n differs = stays_so before n waits
          where
            waits : (l : Label) → at label_number n s.labels ≡ Some l → WaitsForNone l.state
            waits l found = at_every label_number (λ (x : Label). (x.number ≡ label.number → ⊥) → WaitsForNone x.state) n s.labels l others found
                (λ same_number. differs (sym (at_key label_number n s.labels l found) ∙ same_number))

        after_waits : (n : ℕ) → quits setup desk after n ≡ after
        after_waits n = stays_so after n waits
          where
            one_label : (x y : Label) → Some x ≡ Some y → x ≡ y
            one_label x y e = cc

            waits : (l : Label) → at label_number n (put label_number wired s.labels) ≡ Some l → WaitsForNone l.state
            waits l found = by_eq label.number n
                (λ is t. subst (λ (x : Label). WaitsForNone x.state)
                (one_label wired l (sym (at_put_same label_number wired s.labels label held) ∙ (ap (λ k. at label_number k (put label_number wired s.labels)) is ∙ found))) tt)
                (λ differs t. at_every label_number (λ (x : Label). (x.number ≡ label.number → ⊥) → WaitsForNone x.state) n s.labels l others
                (sym (at_put_other label_number wired n s.labels differs) ∙ found)
                (λ same_number. differs (sym same_number ∙ at_key label_number n (put label_number wired s.labels) l found)))

        all_quit : (labels : List Label) → at label_number label.number labels ≡ Some label → fold (quits setup desk) before (map label_number labels) ≡ after
        all_quit [] found = absurd (cc found)
        all_quit (l ∷ labels) found = by_eq l.number label.number
            (λ is t. ap (λ n. fold (quits setup desk) (quits setup desk before n) (map label_number labels)) is
            ∙ (ap (λ (u : Work). fold (quits setup desk) u (map label_number labels)) it_quits ∙ all_stay after after_waits (map label_number labels)))
            (λ differs t. ap (λ (u : Work). fold (quits setup desk) u (map label_number labels)) (before_waits l.number differs)
            ∙ all_quit labels (sym (ap (λ (b : Bool). if b then Some l else at label_number label.number labels) t) ∙ found))

        pub label_quit : hello (Some side.own) ≡ after
        label_quit = hello_learns ∙ all_quit s.labels held

    -- *Its branch is deleted*
    module _ (label : Label) (known : label_number_of (label_channel_of label.number) ≡ Some label.number) (held : at label_number label.number s.labels ≡ Some label) (quit : label.state ≡ Wired) where
      pub label_freed : done setup now_at_work (DeleteTree (label_end setup.port label.number))
          ≡ at_work side tally instances (record s { labels = without label_number label.number s.labels }) grants (Note (Free setup.node setup.port label.number) ∷ [])
      label_freed = ap (λ o. freed setup now_at_work (label_by now_at_work.port o)) known
          ∙ ap (freed setup now_at_work) held
          ∙ ap (freed_in setup now_at_work label) quit
