-- a port that has room for what it may say yet isn't reset by what it hears, by what the switch has done, or by joins and their ends

use Rattle.std.proofs.Common.{◌≡◌, ◌≢◌, ℕ, suc, ◌≤◌, Bool, true, false, List, [], ◌∷◌, ◌++◌, map, length, Option, None, Some, refl, sym, ap, ◌∙◌, subst, arith}
use Rattle.std.proofs.lemmas.List.{length-map}
use Rattle.std.specs.Prelude.{◌+◌, ◌==◌, ◌&&◌}
use Rattle.std.specs.Option.{option_map}
use Rattle.world_model.specs.Words.{Addr, Channel, Peer, End, Request, AddBranch, MoveBranch, DeleteTree, VerifyTree, PortManagement, Redirect, Reclaim, ReclaimAck, LabelRange, Error, FlowId, same_flow, label_channel_of, label_number_of, number_of_channel, entered, without, key_le, Desk, Setup, label_end, control_end, Acceptance, New, Refreshed, IsLeaving, GrantsFull, acceptance, Grant, GrantState, Idle, ByController, ByInput, Leaving, grant_on, Label, LabelState, Wiring, Offered, Recalled, Wired, label_number, label_by, Session, Work, with_session, with_label, with_new_label, without_label, with_grants, with_grant, without_grant, label_at, labels_of, has_room, hears, redirect, reclaim_ack, label_range, error, takes, expects, accepts, grants_label, recalls_offered, reclaimed_in, reclaimed, acknowledged_in, acknowledged, narrowed, is_outside, recalls_outside, ranged, error_comes, counts, counts_by, counts_flow, packet_flow, packets_in, counted_once, lowest_spare, label_for, wires, parted, lent, given_back, given_back_in, bound, bound_in, freed, freed_in, started, started_in, ifmp_received, last_number}
use Rattle.world_model.specs.adjacency_table.declared.message.Answer.TheVariants.{Reset}
use Rattle.world_model.specs.ifmp_wire.declared.message.Message.{Message}
use Rattle.world_model.specs.ifmp_wire.declared.message.Message.TheVariants.{Adjacency}
use Rattle.world_model.specs.gsmp_wire.declared.request.Request.TheVariants.{DeleteAll, AllPorts}
use Rattle.world_model.specs.link_model.declared.record.Record.TheVariants as records
use Rattle.world_model.specs.port_model.declared.action.Action.{Action}
use Rattle.world_model.specs.port_model.declared.action.Action.TheVariants as actions
use Rattle.world_model.specs.port_model.Port.{with_action}
use Rattle.world_model.specs.port_model.Saying.{says}
use Rattle.world_model.specs.port_model.Grants.{OutOfRange, Taken}
use Rattle.world_model.specs.port_model.Redirection.{redirected}
use Rattle.world_model.specs.port_model.Joins.{joined, ended}
use Rattle.world_model.specs.port_model.Answers.{done}
use Rattle.law_port_facts.proofs.Keyed.{on_both}
use Rattle.law_link_numbers.proofs.Room.{Room, number_in, labels_same, fewer, less, acting, in_session, labelled, granted, with_one, without_one, accepting, each_says, telling, saying, using_label, joining_label, recalling_offered, quitting_each, being_greeted}

module _ (own : Peer) where
  module _ (setup : Setup) (desk : Desk) where
    -- *A message* that is no greeting
    expecting : {k : ℕ} (w : Work) (number : ℕ) → Room own k w → Room own k (expects w number)
    expecting {k} w number h =
        let next : Work = with_session w (λ s. record s { expected = number + 1 }) in
        let n : Room own k next = in_session own w (λ s. record s { expected = number + 1 }) (λ s. refl) h in
        record { live = n.live; own_party = n.own_party; room = n.room; acts = n.acts }

    redirecting : {k : ℕ} (w : Work) (channel : Channel) (flow : FlowId) (lifetime : ℕ) (a : Acceptance) → Room own (suc k) w → Room own k (redirected setup desk w channel flow lifetime a)
    redirecting {k} w channel flow lifetime (New label) h =
        let grants : List Grant = w.port.grants ++ record { label = label; flow = flow; lifetime = lifetime; state = Idle } ∷ [] in
        on_both (Room own k) (has_room desk w) (grants_label setup w label flow lifetime) w
        (acting own (with_grants (accepts w) grants) (actions.Ask (AddBranch (control_end setup.port label) (label_end setup.port label)) false) tt
        (granted own (accepts w) grants (accepting own w (less own w h)))) (less own w h)
    redirecting {k} w channel flow lifetime (Refreshed grant) h = with_one own (accepts w) (record grant { lifetime = lifetime }) (accepting own w (less own w h))
    redirecting {k} w channel flow lifetime OutOfRange h = saying own w (label_range setup) h
    redirecting {k} w channel flow lifetime Taken h = saying own w (error 1 channel) h
    redirecting {k} w channel flow lifetime IsLeaving h = saying own w (error 2 channel) h
    redirecting {k} w channel flow lifetime GrantsFull h = saying own w (error 3 channel) h

    giving_up : {k : ℕ} (w : Work) (channel : Channel) (grant : Grant) (state : GrantState) → Room own (suc k) w → Room own k (reclaimed_in setup w channel grant state)
    giving_up w channel grant Idle h = saying own (without_grant w grant.label) (reclaim_ack channel grant.flow) (without_one own w grant.label h)
    giving_up w channel grant ByController h = saying own (without_grant w grant.label) (reclaim_ack channel grant.flow) (without_one own w grant.label h)
    giving_up w channel grant (ByInput input) h =
        let leaving : Grant = record grant { state = Leaving input true } in
        acting own (with_grant w leaving) (actions.TakeBack input (label_end setup.port grant.label)) tt (with_one own w leaving (less own w h))
    giving_up w channel grant (Leaving input owed) h = with_one own w (record grant { state = Leaving input true }) (less own w h)

    being_reclaimed : {k : ℕ} (w : Work) (channel : Channel) (flow : FlowId) (o : Option Grant) → Room own (suc k) w → Room own k (reclaimed setup w channel flow o)
    being_reclaimed {k} w channel flow None h = saying own w (reclaim_ack channel flow) h
    being_reclaimed {k} w channel flow (Some grant) h = on_both (Room own k) (same_flow grant.flow flow) (reclaimed_in setup w channel grant grant.state) (says w (error 4 channel))
        (giving_up w channel grant grant.state h) (saying own w (error 4 channel) h)

    acknowledging_in : {k : ℕ} (w : Work) (label : Label) (state : LabelState) → Room own k w → Room own k (acknowledged_in setup desk w label state)
    acknowledging_in {k} w label (Recalled last acknowledged) h = quitting_each own setup desk k (with_label w (record label { state = Recalled last true })) label.number (labelled own w (record label { state = Recalled last true }) h)
    acknowledging_in {k} w label Wiring h = h
    acknowledging_in {k} w label Offered h = h
    acknowledging_in {k} w label Wired h = h

    acknowledging : {k : ℕ} (w : Work) (flow : FlowId) (o : Option Label) → Room own k w → Room own k (acknowledged setup desk w flow o)
    acknowledging {k} w flow None h = h
    acknowledging {k} w flow (Some label) h = on_both (Room own k) (same_flow label.flow flow) (acknowledged_in setup desk w label label.state) w (acknowledging_in w label label.state h) h

    recalling_outside : (k : ℕ) (w : Work) (number : ℕ) → Room own (suc k) w → Room own k (recalls_outside setup w number)
    recalling_outside k w number h = on_both (Room own k) (is_outside w.port.session number) (recalls_offered setup w (label_at w.port number)) w
        (recalling_offered own setup desk w (label_at w.port number) h) (less own w h)

    ranging : (k : ℕ) (w : Work) (least greatest : Channel) → Room own (length (labels_of w.port) + k) w → Room own k (ranged setup w least greatest)
    ranging k w least greatest h =
        let next : Work = with_session w (narrowed least greatest) in
        let same : length (map label_number (labels_of next.port)) ≡ length (labels_of w.port) = length-map (labels_of next.port) label_number ∙ ap length (labels_same w (narrowed least greatest) (λ s. refl)) in
        each_says own k (recalls_outside setup) recalling_outside (map label_number (labels_of next.port)) next
        (subst (λ (n : ℕ). Room own (n + k) next) (sym same) (in_session own w (narrowed least greatest) (λ s. refl) h))

    refusing : {k : ℕ} (w : Work) (code : ℕ) (o : Option Label) → Room own (suc k) w → Room own k (error_comes setup w code o)
    refusing {k} w code o h = on_both (Room own k) (code == 2) w (recalls_offered setup w o) (less own w h) (recalling_offered own setup desk w o h)

    -- *Whatever is heard*, but a greeting at which the table resets it
    abbrev pub Spares : Work → Addr → Message → Type 0
    Spares w source (Adjacency hello) = (ifmp_received w.port.adjacency source hello).answer ≢ Reset
    Spares w source message = Unit {0}

    pub hearing : (k : ℕ) (w : Work) (source : Addr) (message : Message) → Spares w source message → Room own (length (labels_of w.port) + suc k) w → Room own k (hears setup desk w source message)
    hearing k w source message spares h = by message spares
      where
        one_less : (n : ℕ) → suc k ≤ n + suc k
        one_less n = omega arith

        none_less : (n : ℕ) → k ≤ n + suc k
        none_less n = omega arith

        next_less : (n : ℕ) → n + k ≤ n + suc k
        next_less n = omega arith

        one : Room own (suc k) w
        one = fewer own w (one_less (length (labels_of w.port))) h

        none : Room own k w
        none = less own w one

        same : (number : ℕ) → labels_of (expects w number).port ≡ labels_of w.port
        same number = labels_same w (λ s. record s { expected = number + 1 }) (λ s. refl)

        by : (m : Message) → Spares w source m → Room own k (hears setup desk w source m)
        by (Adjacency hello) spared = being_greeted own setup desk k w source hello spared one
        by (Redirect sender peer number lifetime channel flow) spared = on_both (Room own k) (takes w.port source sender peer number)
            (redirected setup desk (expects w number) channel flow lifetime (acceptance setup w.port.grants channel flow)) w
            (redirecting (expects w number) channel flow lifetime (acceptance setup w.port.grants channel flow) (expecting w number one)) none
        by (Reclaim sender peer number channel flow) spared = on_both (Room own k) (takes w.port source sender peer number)
            (reclaimed setup (expects w number) channel flow (grant_on w.port.grants (label_number_of channel))) w
            (being_reclaimed (expects w number) channel flow (grant_on w.port.grants (label_number_of channel)) (expecting w number one)) none
        by (ReclaimAck sender peer number channel flow) spared = on_both (Room own k) (takes w.port source sender peer number)
            (acknowledged setup desk (expects w number) flow (label_by w.port (label_number_of channel))) w
            (acknowledging (expects w number) flow (label_by w.port (label_number_of channel)) (expecting w number none)) none
        by (LabelRange sender peer number least greatest) spared = on_both (Room own k) (takes w.port source sender peer number)
            (ranged setup (expects w number) least greatest) w
            (ranging k (expects w number) least greatest (subst (λ (ls : List Label). Room own (length ls + k) (expects w number)) (sym (same number))
            (expecting w number (fewer own w (next_less (length (labels_of w.port))) h)))) none
        by (Error sender peer number code channel) spared = on_both (Room own k) (takes w.port source sender peer number)
            (error_comes setup (expects w number) code (label_by w.port (label_number_of channel))) w
            (refusing (expects w number) code (label_by w.port (label_number_of channel)) (expecting w number one)) none

    -- *A packet* is counted
    wiring : {k : ℕ} (w : Work) (flow : FlowId) (o : Option ℕ) → Room own k w → Room own k (wires setup w flow o)
    wiring w flow None h = h
    wiring w flow (Some number) h =
        let label : Label = record { number = number; state = Wiring; flow = flow; idle = 0; ticks = 0; join = None } in
        acting own (with_new_label w label) (actions.Ask (AddBranch (label_end setup.port number) (control_end setup.port number)) false) tt
        (in_session own w (λ s. record s { labels = entered (key_le label_number) label s.labels }) (λ s. refl) h)

    pub counting : (k : ℕ) (w : Work) (packet : List ℕ) → Room own k w → Room own k (counts setup desk w packet)
    counting k w packet h = by_session w.port.session refl (packet_flow packet)
      where
        by_label : (s : Session) → w.port.session ≡ Some s → (flow : FlowId) (o : Option Label) → Room own k (counts_flow setup desk w s flow o)
        by_label s e flow (Some label) = using_label own w (Some label) h
        by_label s e flow None =
            let next : Session = record s { counted = counted_once s.counted flow } in
            let held : Work = with_session w (λ old. next) in
            on_both (Room own k) (setup.policy.offers flow (packets_in next.counted flow) && has_room desk held) (wires setup held flow (lowest_spare setup next.least next.greatest next.labels)) held
            (wiring held flow (lowest_spare setup next.least next.greatest next.labels) is_held) is_held
          where
            is_held : Room own k (with_session w (λ old. record s { counted = counted_once s.counted flow }))
            is_held = on_both (Room own k) w.halted w (record w { port = record w.port { session = option_map (λ (old : Session). record s { counted = counted_once s.counted flow }) w.port.session } }) h
                (subst (λ (o : Option Session). Room own k (record w { port = record w.port { session = option_map (λ (old : Session). record s { counted = counted_once s.counted flow }) o } })) (sym e)
                (record { live = h.live; own_party = h.own_party; room = subst (λ (o : Option Session). number_in o + k ≤ last_number) e h.room; acts = h.acts }))

        by_session : (o : Option Session) → w.port.session ≡ o → (flow : Option FlowId) → Room own k (counts_by setup desk w o flow)
        by_session None e flow = h
        by_session (Some s) e None = h
        by_session (Some s) e (Some flow) = by_label s e flow (label_for s.labels flow)

    -- *A success* of the switch
    binding : {k : ℕ} (w : Work) (label : Label) (state : LabelState) → Room own (suc k) w → Room own k (bound_in setup w label state)
    binding w label Wiring h =
        let offered : Work = with_label w (record label { state = Offered }) in
        let note : Action = actions.Note (records.Bind setup.node setup.port label.number label.flow) in
        saying own (with_action offered note) (redirect setup label) (acting own offered note tt (labelled own w (record label { state = Offered }) h))
    binding w label Offered h = less own w h
    binding w label (Recalled last acknowledged) h = less own w h
    binding w label Wired h = less own w h

    freeing : {k : ℕ} (w : Work) (label : Label) (state : LabelState) → Room own k w → Room own k (freed_in setup w label state)
    freeing w label Wired h = acting own (without_label w label.number) (actions.Note (records.Free setup.node setup.port label.number)) tt
        (in_session own w (λ s. record s { labels = without label_number label.number s.labels }) (λ s. refl) h)
    freeing w label Wiring h = h
    freeing w label Offered h = h
    freeing w label (Recalled last acknowledged) h = h

    starting : {k : ℕ} (w : Work) (grant : Grant) (state : GrantState) → Room own k w → Room own k (started_in w grant state)
    starting w grant Idle h = with_one own w (record grant { state = ByController }) h
    starting w grant ByController h = h
    starting w grant (ByInput input) h = h
    starting w grant (Leaving input owed) h = h

    bound_so : {k : ℕ} (w : Work) (o : Option Label) → Room own (suc k) w → Room own k (bound setup w o)
    bound_so w None h = less own w h
    bound_so w (Some label) h = binding w label label.state h

    freed_so : {k : ℕ} (w : Work) (o : Option Label) → Room own k w → Room own k (freed setup w o)
    freed_so w None h = h
    freed_so w (Some label) h = freeing w label label.state h

    started_so : {k : ℕ} (w : Work) (o : Option Grant) → Room own k w → Room own k (started w o)
    started_so w None h = h
    started_so w (Some grant) h = starting w grant grant.state h

    pub doing : {k : ℕ} (w : Work) (request : Request) → Room own (suc k) w → Room own k (done setup w request)
    doing {k} w (AddBranch input output) h = on_both (Room own k) (input.port.0 == 0) (started w (grant_on w.port.grants (label_number_of output.channel))) (bound setup w (label_by w.port (label_number_of input.channel)))
        (started_so w (grant_on w.port.grants (label_number_of output.channel)) (less own w h)) (bound_so w (label_by w.port (label_number_of input.channel)) h)
    doing {k} w (MoveBranch input from to) h = on_both (Room own k) (to.port.0 == 0) w
        (with_action w (actions.Note (records.Join setup.node setup.port (number_of_channel input.channel) to.port (number_of_channel to.channel)))) (less own w h)
        (acting own w (actions.Note (records.Join setup.node setup.port (number_of_channel input.channel) to.port (number_of_channel to.channel))) tt (less own w h))
    doing {k} w (DeleteTree input) h = freed_so w (label_by w.port (label_number_of input.channel)) (less own w h)
    doing {k} w (VerifyTree input) h = less own w h
    doing {k} w (DeleteAll port) h = less own w h
    doing {k} w (PortManagement port function) h = less own w h
    doing {k} w AllPorts h = less own w h

  -- *Joins and their ends*
  pub parting : {k : ℕ} (w : Work) (number : ℕ) → Room own k w → Room own k (parted w number)
  parting w number h = joining_label own w None (label_at w.port number) h

  pub joining : {k : ℕ} (w : Work) (number : ℕ) (output : End) → Room own k w → Room own k (joined w number output)
  joining w number output h = joining_label own w (Some output) (label_at w.port number) h

  pub lending : {k : ℕ} (w : Work) (grant : Grant) (input : End) → Room own k w → Room own k (lent w grant input)
  lending w grant input h = with_one own w (record grant { state = ByInput input }) h

  ending : {k : ℕ} (w : Work) (grant : Grant) (owed : Bool) → Room own (suc k) w → Room own k (ended w grant owed)
  ending w grant true h = telling own (without_grant w grant.label) (reclaim_ack (label_channel_of grant.label) grant.flow) (without_one own w grant.label h)
  ending w grant false h = without_one own w grant.label (less own w h)

  pub giving_back : {k : ℕ} (w : Work) (grant : Grant) → Room own (suc k) w → Room own k (given_back w grant)
  giving_back {k} w grant h = by grant.state
    where
      by : (state : GrantState) → Room own k (given_back_in w grant state)
      by Idle = less own w h
      by ByController = less own w h
      by (ByInput input) = with_one own w (record grant { state = ByController }) (less own w h)
      by (Leaving input owed) = ending w grant owed h
