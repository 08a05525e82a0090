-- a port that has room for what it may say yet isn't reset by what it says: its adjacency, its labels and its grants

use Rattle.std.proofs.Common.{◌≡◌, ◌≢◌, ℕ, suc, ◌≤◌, Bool, true, false, List, [], ◌∷◌, ◌++◌, map, fold, length, Option, None, Some, refl, sym, ap, ◌∙◌, subst, arith, if◌then◌else◌}
use Rattle.std.proofs.lemmas.List.{length-map}
use Rattle.std.specs.Prelude.{◌+◌, ◌==◌, ◌-◌, ◌||◌, is_none, max, min, nat_le, nat_lt}
use Rattle.std.specs.Option.{option_map, option_map_or}
use Rattle.std.proofs.lemmas.Bool.Decides.{nat_tests}
use Rattle.world_model.specs.Words.{Addr, Hello, Peer, Said, Side, Step, Reply, Silent, Says, Resets, Answer, Quiet, Send, Open, End, Opened, DeleteTree, ticked, followed_tick, tick_reply, ifmp_answer, ifmp_received, heard_from, at, put, without, Desk, on_input, Setup, label_end, Grant, GrantState, Idle, ByController, ByInput, Leaving, grant_label, Label, LabelState, Wiring, Offered, Recalled, Wired, label_number, Session, Work, halts, with_session, with_label, with_grants, with_grant, without_grant, label_at, labels_of, known_of, desk_after, has_room, learns, quits, quits_found, quits_in, quits_label, Unnumbered, last_number, spent_number, own_instance, is_spent, tells_in, tells, redirect, reclaim, label_range, unwires, halts_if_spent, accepts, greets, first_session, opens, reclaims_in, reclaims, unjoins, recalls, recalls_in, recalls_offered, used_label, joins_label}
use Rattle.world_model.specs.adjacency_table.Side.{counted}
use Rattle.world_model.specs.adjacency_table.declared.message.Answer.TheVariants.{Reset}
use Rattle.world_model.specs.ifmp_wire.declared.message.Message.TheVariants.{Adjacency}
use Rattle.world_model.specs.port_model.declared.action.Action.{Action}
use Rattle.world_model.specs.port_model.declared.action.Action.TheVariants as actions
use Rattle.world_model.specs.port_model.Adjacency.{answers, steps, is_good, greeted}
use Rattle.world_model.specs.port_model.Port.{Port, with_action}
use Rattle.world_model.specs.port_model.Saying.{says, peer_instance, with_number}
use Rattle.world_model.specs.port_model.Counts.{window_moved}
use Rattle.world_model.specs.port_model.Ticks.{expires, ages_in, ages_found, ages, refreshes, one_older, one_idler, idles, ticks_in, ticks_found, ticks_label, asks_for_ack, nudges, moves_windows, ticks_session, ticks_next}
use Rattle.world_model.specs.port_model.Ticks as port_ticks
use Rattle.law_port_facts.specs.ordered_lists.Ordered.{Every}
use Rattle.law_port_facts.proofs.Keyed.{on_both, every_more}
use Rattle.law_live_links.specs.Law.{number_of}
use Rattle.law_live_others.proofs.Working.{IsAct}

-- *A port at work has room* for so many messages more: it hasn't asked to be reset, and has this party
pub record Room (own : Peer) (k : ℕ) (w : Work) : Type 0 where
  pub live : w.halted ≡ false
  pub own_party : w.port.adjacency.own ≡ own
  pub room : number_of w.port + k ≤ last_number
  pub acts : Every IsAct w.actions

abbrev pub number_in : Option Session → ℕ
number_in o = option_map_or (λ (s : Session). s.number) o 0

number_mapped : (change : Session → Session) → ((s : Session) → (change s).number ≡ s.number) → (o : Option Session) → number_in (option_map change o) ≡ number_in o
number_mapped change keeps None = refl
number_mapped change keeps (Some s) = keeps s

unspent_in : (k : ℕ) (o : Option Session) → number_in o + k ≤ last_number → is_spent o ≡ false
unspent_in k None room = refl
unspent_in k (Some s) room = low s.number room
  where
    low : (n : ℕ) → n + k ≤ last_number → nat_lt last_number n ≡ false
    low n room = grind (arith, nat_tests)

-- *Labels stay*
labels_mapped : (change : Session → Session) → ((s : Session) → (change s).labels ≡ s.labels) → (o : Option Session)
    → option_map_or (λ (s : Session). s.labels) (option_map change o) [] ≡ option_map_or (λ (s : Session). s.labels) o []
labels_mapped change keeps None = refl
labels_mapped change keeps (Some s) = keeps s

pub labels_same : (w : Work) (change : Session → Session) → ((s : Session) → (change s).labels ≡ s.labels) → labels_of (with_session w change).port ≡ labels_of w.port
labels_same w change keeps = on_both (λ (v : Work). labels_of v.port ≡ labels_of w.port) w.halted w (record w { port = record w.port { session = option_map change w.port.session } })
    refl (labels_mapped change keeps w.port.session)

pub acts_port : (w : Work) (action : Action) → (with_action w action).port ≡ w.port
acts_port w action = on_both (λ (v : Work). v.port ≡ w.port) w.halted w (record w { actions = w.actions ++ action ∷ [] }) refl refl

grants_session : (w : Work) (grants : List Grant) → (with_grants w grants).port.session ≡ w.port.session
grants_session w grants = on_both (λ (v : Work). v.port.session ≡ w.port.session) w.halted w (record w { port = record w.port { grants = grants } }) refl refl

pub ages_session : (setup : Setup) (w : Work) (label : ℕ) → (ages setup w label).port.session ≡ w.port.session
ages_session setup w label = by (at grant_label label w.port.grants)
  where
    Same : Work → Type 0
    Same v = v.port.session ≡ w.port.session

    left_out : (grant : Grant) → Same (without_grant w grant.label)
    left_out grant = grants_session w (without grant_label grant.label w.port.grants)

    put_in : (grant : Grant) → Same (with_grant w grant)
    put_in grant = grants_session w (put grant_label grant w.port.grants)

    older : (grant : Grant) → Same (with_grant w (record grant { lifetime = grant.lifetime - 1 }))
    older grant = put_in (record grant { lifetime = grant.lifetime - 1 })

    ends : (grant : Grant) (input : End) → Same (expires setup w grant (ByInput input))
    ends grant input =
        let leaving : Grant = record grant { lifetime = 0; state = Leaving input false } in
        ap (λ (p : Port). p.session) (acts_port (with_grant w leaving) (actions.TakeBack input (label_end setup.port grant.label))) ∙ put_in leaving

    by_state : (grant : Grant) (state : GrantState) → Same (ages_in setup w grant state)
    by_state grant Idle = on_both Same (grant.lifetime == 1) (expires setup w grant Idle) (with_grant w (record grant { lifetime = grant.lifetime - 1 })) (left_out grant) (older grant)
    by_state grant ByController = on_both Same (grant.lifetime == 1) (expires setup w grant ByController) (with_grant w (record grant { lifetime = grant.lifetime - 1 })) (left_out grant) (older grant)
    by_state grant (ByInput input) = on_both Same (grant.lifetime == 1) (expires setup w grant (ByInput input)) (with_grant w (record grant { lifetime = grant.lifetime - 1 })) (ends grant input) (older grant)
    by_state grant (Leaving input owed) = refl

    by : (o : Option Grant) → Same (ages_found setup w o)
    by None = refl
    by (Some grant) = by_state grant grant.state

aged_session : (setup : Setup) (xs : List ℕ) (w : Work) → (fold (ages setup) w xs).port.session ≡ w.port.session
aged_session setup [] w = refl
aged_session setup (x ∷ xs) w = aged_session setup xs (ages setup w x) ∙ ages_session setup w x

-- *What the table does* leaves the party, and no more labels than there were
ticked_own : (side : Side Peer) → (ticked side).side.own ≡ side.own
ticked_own side = by (tick_reply side.state (counted side.state side.silence))
  where
    by : (reply : Reply) → (followed_tick side reply).side.own ≡ side.own
    by Silent = refl
    by (Says kind) = refl
    by Resets = refl

module _ (own : Peer) where
  pub fewer : {m n : ℕ} (w : Work) → n ≤ m → Room own m w → Room own n w
  fewer {m} {n} w low h = record { live = h.live; own_party = h.own_party; room = on (number_of w.port) h.room; acts = h.acts }
    where
      on : (x : ℕ) → x + m ≤ last_number → x + n ≤ last_number
      on x room = omega (arith, low, room)

  pub less : {k : ℕ} (w : Work) → Room own (suc k) w → Room own k w
  less {k} w h = fewer w (one_up k) h
    where
      one_up : (n : ℕ) → n ≤ suc n
      one_up n = omega arith

  pub acting : {k : ℕ} (w : Work) (action : Action) → IsAct action → Room own k w → Room own k (with_action w action)
  acting {k} w action is h = on_both (Room own k) w.halted w (record w { actions = w.actions ++ action ∷ [] }) h
      (record { live = h.live; own_party = h.own_party; room = h.room; acts = every_more IsAct w.actions action h.acts is })

  pub in_session : {k : ℕ} (w : Work) (change : Session → Session) → ((s : Session) → (change s).number ≡ s.number) → Room own k w → Room own k (with_session w change)
  in_session {k} w change keeps h = on_both (Room own k) w.halted w (record w { port = record w.port { session = option_map change w.port.session } }) h
      (record { live = h.live; own_party = h.own_party; room = subst (λ (n : ℕ). n + k ≤ last_number) (sym (number_mapped change keeps w.port.session)) h.room; acts = h.acts })

  pub labelled : {k : ℕ} (w : Work) (label : Label) → Room own k w → Room own k (with_label w label)
  labelled w label h = in_session w (λ s. record s { labels = put label_number label s.labels }) (λ s. refl) h

  pub granted : {k : ℕ} (w : Work) (grants : List Grant) → Room own k w → Room own k (with_grants w grants)
  granted {k} w grants h = on_both (Room own k) w.halted w (record w { port = record w.port { grants = grants } }) h
      (record { live = h.live; own_party = h.own_party; room = h.room; acts = h.acts })

  pub with_one : {k : ℕ} (w : Work) (grant : Grant) → Room own k w → Room own k (with_grant w grant)
  with_one w grant h = granted w (put grant_label grant w.port.grants) h

  pub without_one : {k : ℕ} (w : Work) (label : ℕ) → Room own k w → Room own k (without_grant w label)
  without_one w label h = granted w (without grant_label label w.port.grants) h

  pub accepting : {k : ℕ} (w : Work) → Room own k w → Room own k (accepts w)
  accepting w h = record { live = h.live; own_party = h.own_party; room = h.room; acts = h.acts }

  pub each : {A : Type 0} (k : ℕ) (f : Work → A → Work) → ((w : Work) (x : A) → Room own k w → Room own k (f w x)) → (xs : List A) (w : Work) → Room own k w → Room own k (fold f w xs)
  each k f keeps [] w h = h
  each k f keeps (x ∷ xs) w h = each k f keeps xs (f w x) (keeps w x h)

  -- where each says one message at most
  pub each_says : {A : Type 0} (k : ℕ) (f : Work → A → Work) → ((n : ℕ) (w : Work) (x : A) → Room own (suc n) w → Room own n (f w x)) → (xs : List A) (w : Work)
      → Room own (length xs + k) w → Room own k (fold f w xs)
  each_says k f says_one [] w h = fewer w (none_yet k) h
    where
      none_yet : (n : ℕ) → n ≤ 0 + n
      none_yet n = omega arith
  each_says k f says_one (x ∷ xs) w h = each_says k f says_one xs (f w x) (says_one (length xs + k) w x (fewer w (same (length xs)) h))
    where
      same : (n : ℕ) → suc (n + k) ≤ suc n + k
      same n = omega arith

  -- *What is said* takes one number
  numbered : {k : ℕ} (w : Work) (s : Session) → w.port.session ≡ Some s → Room own (suc k) w → Room own k (with_number (s.number + 1) w)
  numbered {k} w s e h = on_both (Room own k) w.halted w (record w { port = record w.port { session = option_map (λ (session : Session). record session { number = s.number + 1 }) w.port.session } }) (less w h) (record {
    live = h.live;
    own_party = h.own_party;
    room = subst (λ (o : Option Session). number_in (option_map (λ (session : Session). record session { number = s.number + 1 }) o) + k ≤ last_number) (sym e)
        (on s.number (subst (λ (o : Option Session). number_in o + suc k ≤ last_number) e h.room));
    acts = h.acts;
  })
    where
      on : (n : ℕ) → n + suc k ≤ last_number → n + 1 + k ≤ last_number
      on n room = omega (arith, room)

  pub telling : {k : ℕ} (w : Work) (message : Unnumbered) → Room own (suc k) w → Room own k (tells w message)
  telling {k} w message h = by w.port.session refl
    where
      may : (n : ℕ) → n + suc k ≤ last_number → nat_lt n last_number ≡ true
      may n room = grind (arith, nat_tests)

      by : (o : Option Session) → w.port.session ≡ o → Room own k (tells_in w message o)
      by None e = less w h
      by (Some s) e =
          let said : Action = actions.Say (message (own_instance w.port.adjacency) (peer_instance w.port.adjacency) s.number) in
          subst (λ (b : Bool). Room own k (if b then with_action (with_number (s.number + 1) w) said else with_number spent_number w))
          (sym (may s.number (subst (λ (o : Option Session). number_in o + suc k ≤ last_number) e h.room)))
          (acting (with_number (s.number + 1) w) said tt (numbered w s e h))

  pub closing : {k : ℕ} (w : Work) → Room own k w → Room own k (halts_if_spent w)
  closing {k} w h = subst (λ (b : Bool). Room own k (if b then halts w else w)) (sym (unspent_in k w.port.session h.room)) h

  pub saying : {k : ℕ} (w : Work) (message : Unnumbered) → Room own (suc k) w → Room own k (says w message)
  saying w message h = closing (tells w message) (telling w message h)

  pub using_label : {k : ℕ} (w : Work) (o : Option Label) → Room own k w → Room own k (used_label w o)
  using_label w None h = h
  using_label w (Some label) h = labelled w (record label { idle = 0 }) h

  pub joining_label : {k : ℕ} (w : Work) (join : Option End) (o : Option Label) → Room own k w → Room own k (joins_label w join o)
  joining_label w join None h = h
  joining_label w join (Some label) h = labelled w (record label { join = join }) h

  module _ (setup : Setup) (desk : Desk) where
    pub unwiring : {k : ℕ} (w : Work) (number : ℕ) → Room own k w → Room own k (unwires setup desk w number)
    unwiring {k} w number h =
        let takes_place : Bool = on_input (desk_after desk w) (label_end setup.port number) in
        let asking : Action = actions.Ask (DeleteTree (label_end setup.port number)) takes_place in
        on_both (Room own k) (takes_place || has_room desk w) (with_action w asking) w (acting w asking tt h) h

    pub reclaiming : {k : ℕ} (w : Work) (label : Label) → Room own (suc k) w → Room own k (reclaims w label)
    reclaiming {k} w label h = by w.port.session
      where
        by : (o : Option Session) → Room own k (reclaims_in w label o)
        by None = less w h
        by (Some s) =
            let again : Label = record label { state = Recalled (min last_number s.number) false } in
            saying (with_label w again) (reclaim label) (labelled w again h)

    unjoining : {k : ℕ} (w : Work) (number : ℕ) (join : Option End) → Room own k w → Room own k (unjoins setup w number join)
    unjoining w number None h = h
    unjoining w number (Some output) h = acting w (actions.TakeBack (label_end setup.port number) output) tt h

    recalling : {k : ℕ} (w : Work) (label : Label) → Room own (suc k) w → Room own k (recalls setup w label)
    recalling w label h = unjoining (reclaims w label) label.number label.join (reclaiming w label h)

    recalling_in : {k : ℕ} (w : Work) (label : Label) (state : LabelState) → Room own (suc k) w → Room own k (recalls_in setup w label state)
    recalling_in w label Offered h = recalling w label h
    recalling_in w label Wiring h = less w h
    recalling_in w label (Recalled last acknowledged) h = less w h
    recalling_in w label Wired h = less w h

    pub recalling_offered : {k : ℕ} (w : Work) (o : Option Label) → Room own (suc k) w → Room own k (recalls_offered setup w o)
    recalling_offered w None h = less w h
    recalling_offered w (Some label) h = recalling_in w label label.state h

    -- *The rest of a tick*
    expiring : {k : ℕ} (w : Work) (grant : Grant) (state : GrantState) → Room own k w → Room own k (expires setup w grant state)
    expiring w grant Idle h = without_one w grant.label h
    expiring w grant ByController h = without_one w grant.label h
    expiring w grant (ByInput input) h =
        let leaving : Grant = record grant { lifetime = 0; state = Leaving input false } in
        acting (with_grant w leaving) (actions.TakeBack input (label_end setup.port grant.label)) tt (with_one w leaving h)
    expiring w grant (Leaving input owed) h = without_one w grant.label h

    abbrev older_grant : Grant → Grant
    older_grant grant = record grant { lifetime = grant.lifetime - 1 }

    ageing_in : {k : ℕ} (w : Work) (grant : Grant) (state : GrantState) → Room own k w → Room own k (ages_in setup w grant state)
    ageing_in {k} w grant Idle h = on_both (Room own k) (grant.lifetime == 1) (expires setup w grant Idle) (with_grant w (older_grant grant)) (expiring w grant Idle h) (with_one w (older_grant grant) h)
    ageing_in {k} w grant ByController h = on_both (Room own k) (grant.lifetime == 1) (expires setup w grant ByController) (with_grant w (older_grant grant)) (expiring w grant ByController h) (with_one w (older_grant grant) h)
    ageing_in {k} w grant (ByInput input) h = on_both (Room own k) (grant.lifetime == 1) (expires setup w grant (ByInput input)) (with_grant w (older_grant grant)) (expiring w grant (ByInput input) h) (with_one w (older_grant grant) h)
    ageing_in {k} w grant (Leaving input owed) h = h

    ageing : (k : ℕ) (w : Work) (label : ℕ) → Room own k w → Room own k (ages setup w label)
    ageing k w label h = by (at grant_label label w.port.grants)
      where
        by : (o : Option Grant) → Room own k (ages_found setup w o)
        by None = h
        by (Some grant) = ageing_in w grant grant.state h

    refreshing : {k : ℕ} (w : Work) (label : Label) → Room own (suc k) w → Room own k (refreshes setup w label)
    refreshing {k} w label h = on_both (Room own k) (nat_le setup.timers.refresh label.ticks) (says (with_label w (record label { ticks = 0 })) (redirect setup label)) (with_label w label)
        (saying (with_label w (record label { ticks = 0 })) (redirect setup label) (labelled w (record label { ticks = 0 }) h)) (labelled w label (less w h))

    idling : {k : ℕ} (w : Work) (label : Label) → Room own (suc k) w → Room own k (idles setup w label)
    idling {k} w label h = on_both (Room own k) (setup.policy.keeps label.flow label.idle) (refreshes setup w (one_older label)) (recalls setup w label)
        (refreshing w (one_older label) h) (recalling w label h)

    ticking_in : {k : ℕ} (w : Work) (label : Label) (state : LabelState) → Room own (suc k) w → Room own k (ticks_in setup desk w label state)
    ticking_in {k} w label Wiring h = less w h
    ticking_in {k} w label Offered h = on_both (Room own k) (is_none label.join) (idles setup w (one_idler label)) (refreshes setup w (one_older label))
        (idling w (one_idler label) h) (refreshing w (one_older label) h)
    ticking_in {k} w label (Recalled last true) h = less w h
    ticking_in {k} w label (Recalled last false) h = reclaiming w label h
    ticking_in {k} w label Wired h = on_both (Room own k) (on_input (desk_after desk w) (label_end setup.port label.number)) w (unwires setup desk w label.number)
        (less w h) (unwiring w label.number (less w h))

    ticking_label : (k : ℕ) (w : Work) (number : ℕ) → Room own (suc k) w → Room own k (ticks_label setup desk w number)
    ticking_label k w number h = by (label_at w.port number)
      where
        by : (o : Option Label) → Room own k (ticks_found setup desk w o)
        by None = less w h
        by (Some label) = ticking_in w label label.state h

    nudging : {k : ℕ} (w : Work) → Room own (suc k) w → Room own k (nudges setup w)
    nudging {k} w h = on_both (Room own k) (asks_for_ack w.port.session) (says w (label_range setup)) w (saying w (label_range setup) h) (less w h)

    moving : {k : ℕ} (w : Work) → Room own k w → Room own k (moves_windows setup w)
    moving w h = in_session w (λ s. record s { counted = window_moved setup.timers.window s.counted }) (λ s. refl) h

    -- so a tick says one message for each label, and one more
    ticking_on : (k : ℕ) (w : Work) → Room own (length (labels_of w.port) + suc k) w → Room own k (ticks_next setup desk w)
    ticking_on k w h = by w.port.session
      where
        by : (o : Option Session) → Room own k (ticks_session setup desk w o)
        by None = fewer w (low (length (labels_of w.port))) h
          where
            low : (n : ℕ) → k ≤ n + suc k
            low n = omega arith
        by (Some s) =
            let aged : Work = fold (ages setup) w (map grant_label w.port.grants) in
            let ticked_labels : Work = fold (ticks_label setup desk) aged (map label_number (labels_of aged.port)) in
            let same : length (map label_number (labels_of aged.port)) ≡ length (labels_of w.port) = length-map (labels_of aged.port) label_number
            ∙ ap (λ (o : Option Session). length (option_map_or (λ (t : Session). t.labels) o [])) (aged_session setup (map grant_label w.port.grants) w) in
            moving (nudges setup ticked_labels) (nudging ticked_labels
            (each_says (suc k) (ticks_label setup desk) ticking_label (map label_number (labels_of aged.port)) aged
            (subst (λ (n : ℕ). Room own (n + suc k) aged) (sym same)
            (each (length (labels_of w.port) + suc k) (ages setup) (ageing (length (labels_of w.port) + suc k)) (map grant_label w.port.grants) w h))))

    -- *An answer of the table*, but a reset; a session that begins takes one number
    opening : {k : ℕ} (w : Work) → Room own (suc k) w → Room own k (opens setup w)
    opening {k} w h = acting (record w { port = record w.port { session = Some (first_session setup) } }) (actions.Note (Opened setup.node setup.port)) tt
        (record { live = h.live; own_party = h.own_party; room = on (number_of w.port) h.room; acts = h.acts })
      where
        on : (n : ℕ) → n + suc k ≤ last_number → 1 + k ≤ last_number
        on n room = omega (arith, room)

    greeting : {k : ℕ} (w : Work) (hello : Hello) → Room own k w → Room own k (greets w hello)
    greeting w hello h = acting w (actions.Say (Adjacency hello)) tt h

    answering : {k : ℕ} (w : Work) (next : ℕ) (answer : Answer (Said Peer) Peer) → answer ≢ Reset → Room own (suc k) w → Room own k (answers setup w (ifmp_answer next answer))
    answering w next Quiet spared h = less w h
    answering w next (Send m) spared h = greeting w _ (less w h)
    answering w next (Open None key_of) spared h = opening w h
    answering w next (Open (Some m) key_of) spared h = opening (greets w _) (greeting w _ h)
    answering w next Reset spared h = absurd (spared refl)

    pub stepping : {k : ℕ} (w : Work) (step : Step Peer) → step.side.own ≡ w.port.adjacency.own → step.answer ≢ Reset → Room own (suc k) w → Room own k (steps setup w step)
    stepping w step same spared h = answering (record w { port = record w.port { adjacency = step.side } }) (option_map_or (λ (s : Session). s.expected) w.port.session 1) step.answer spared
        (record { live = h.live; own_party = same ∙ h.own_party; room = h.room; acts = h.acts })

    no_more : (n : ℕ) → n ≤ n
    no_more n = omega arith

    answer_labels : (w : Work) (next : ℕ) (answer : Answer (Said Peer) Peer) → length (labels_of (answers setup w (ifmp_answer next answer)).port) ≤ length (labels_of w.port)
    answer_labels w next Quiet = no_more (length (labels_of w.port))
    answer_labels w next (Send m) = subst (λ (p : Port). length (labels_of p) ≤ length (labels_of w.port)) (sym (acts_port w _)) (no_more (length (labels_of w.port)))
    answer_labels w next (Open None key_of) = subst (λ (p : Port). length (labels_of p) ≤ length (labels_of w.port))
        (sym (acts_port (record w { port = record w.port { session = Some (first_session setup) } }) (actions.Note (Opened setup.node setup.port)))) (none_at_all (length (labels_of w.port)))
      where
        none_at_all : (n : ℕ) → 0 ≤ n
        none_at_all n = omega arith
    answer_labels w next (Open (Some m) key_of) = subst (λ (p : Port). length (labels_of p) ≤ length (labels_of w.port))
        (sym (acts_port (record (greets w _) { port = record (greets w _).port { session = Some (first_session setup) } }) (actions.Note (Opened setup.node setup.port)))) (none_at_all (length (labels_of w.port)))
      where
        none_at_all : (n : ℕ) → 0 ≤ n
        none_at_all n = omega arith
    answer_labels w next Reset = subst (λ (p : Port). length (labels_of p) ≤ length (labels_of w.port)) (sym (acts_port w actions.Reset)) (no_more (length (labels_of w.port)))

    -- *A tick*
    pub ticking : (k : ℕ) (w : Work) → (ticked w.port.adjacency).answer ≢ Reset → Room own (length (labels_of w.port) + suc (suc k)) w → Room own k (port_ticks.ticks setup desk w)
    ticking k w spared h =
        let step : Step Peer = ticked w.port.adjacency in
        let next : Work = steps setup w step in
        let few : length (labels_of next.port) ≤ length (labels_of w.port) = answer_labels (record w { port = record w.port { adjacency = step.side } }) (option_map_or (λ (s : Session). s.expected) w.port.session 1) step.answer in
        ticking_on k next (fewer next (on (length (labels_of next.port)) (length (labels_of w.port)) few)
        (stepping w step (ticked_own w.port.adjacency) spared (fewer w (back (length (labels_of w.port))) h)))
      where
        on : (m n : ℕ) → m ≤ n → m + suc k ≤ n + suc k
        on m n few = omega (arith, few)

        back : (n : ℕ) → suc (n + suc k) ≤ n + suc (suc k)
        back n = omega arith

    -- *A greeting*
    quitting : {k : ℕ} (w : Work) (label : Label) → Room own k w → Room own k (quits_label setup desk w label)
    quitting w label h =
        let quit : Work = with_label w (record label { state = Wired }) in
        unwiring (with_action quit (actions.CutChain label.number)) label.number (acting quit (actions.CutChain label.number) tt (labelled w (record label { state = Wired }) h))

    quitting_in : {k : ℕ} (w : Work) (label : Label) (state : LabelState) → Room own k w → Room own k (quits_in setup desk w label state)
    quitting_in {k} w label Wiring h = h
    quitting_in {k} w label Offered h = h
    quitting_in {k} w label (Recalled last true) h = on_both (Room own k) (nat_lt last (known_of w.port)) (quits_label setup desk w label) w (quitting w label h) h
    quitting_in {k} w label (Recalled last false) h = h
    quitting_in {k} w label Wired h = h

    pub quitting_each : (k : ℕ) (w : Work) (number : ℕ) → Room own k w → Room own k (quits setup desk w number)
    quitting_each k w number h = by (label_at w.port number)
      where
        by : (o : Option Label) → Room own k (quits_found setup desk w o)
        by None = h
        by (Some label) = quitting_in w label label.state h

    learning : (k : ℕ) (w : Work) (next : ℕ) → Room own k w → Room own k (learns setup desk w next)
    learning k w next h =
        let told : Work = with_session w (λ s. record s { known = max s.known next }) in
        each k (quits setup desk) (quitting_each k) (map label_number (labels_of told.port)) told (in_session w (λ s. record s { known = max s.known next }) (λ s. refl) h)

    pub being_greeted : (k : ℕ) (w : Work) (source : Addr) (hello : Hello) → (ifmp_received w.port.adjacency source hello).answer ≢ Reset → Room own (suc k) w → Room own k (greeted setup desk w source hello)
    being_greeted k w source hello spared h =
        let step : Step Peer = ifmp_received w.port.adjacency source hello in
        let next : Work = steps setup w step in
        let stepped : Room own k next = stepping w step refl spared h in
        on_both (Room own k) (is_good w.port.adjacency step.side (heard_from source hello)) (learns setup desk next hello.next) next (learning k next hello.next stepped) stepped
