-- what each rule of a port costs

use Rattle.std.proofs.Common.{◌≡◌, ℕ, ◌≤◌, ◌+◌, Bool, true, false, List, [], ◌∷◌, ◌++◌, length, Option, None, Some, refl, sym, ◌∙◌, ap, subst, arith, if◌then◌else◌, map}
use Rattle.std.specs.Prelude.{nat_lt, not, ◌==◌, ◌&&◌, ◌||◌, max, min}
use Rattle.std.specs.Option.{option_map_or, option_map}
use Rattle.claims_model.specs.world_model.Words.{Addr, Instance, Channel, End, Hello, HelloKind, Peer, label_number_of, Said, Answer, Quiet, Send, Open, same_peer, hello_of, ifmp_answer, ifmp_received, heard_from, FlowId, same_flow, Redirect, Reclaim, ReclaimAck, LabelRange, Error, AddBranch, DeleteTree, Opened, at, Desk, on_input, Say, Ask, Note, CutChain, TakeBack, Setup, label_end, control_end, is_in_range, Label, LabelState, Wiring, Offered, Recalled, Wired, label_number, lowest_spare, Grant, GrantState, Idle, ByController, ByInput, Leaving, grant_label, grant_on, is_leaving, most_grants, Acceptance, New, Refreshed, IsLeaving, GrantsFull, acceptance_beside, acceptance_of, acceptance, packets_in, Session, Work, halts, with_session, with_label, with_new_label, with_grants, with_grant, without_grant, label_at, labels_of, known_of, desk_after, has_room, Unnumbered, last_number, greets, reclaim, reclaim_ack, label_range, error, first_session, opens, unwires, quits_label, quits_in, quits_found, quits, is_good, learns, wires, offers, used_label, used, takes, expects, accepts, grants_label, reclaims_in, unjoins, recalls, recalls_in, recalls_offered, reclaimed_in, reclaimed, acknowledged_in, acknowledged, narrowed, is_outside, recalls_outside, ranged, error_comes, label_by, hears}
use Rattle.claims_model.specs.world_model.adjacency_table.declared.message.Answer.TheVariants.{Reset}
use Rattle.claims_model.specs.world_model.adjacency_table.Side as sides
use Rattle.claims_model.specs.world_model.ifmp_wire.declared.message.Message.{Message}
use Rattle.claims_model.specs.world_model.ifmp_wire.declared.message.Message.TheVariants.{Adjacency}
use Rattle.claims_model.specs.world_model.port_model.Grants.{OutOfRange, Taken}
use Rattle.claims_model.specs.world_model.port_model.Port.{Port, with_action}
use Rattle.claims_model.specs.world_model.port_model.Saying.{says}
use Rattle.claims_model.specs.world_model.port_model.Adjacency.{answers, steps, greeted}
use Rattle.claims_model.specs.world_model.port_model.Redirection.{redirected}
use Rattle.claims_model.specs.Costs.{frame_weight, request_weight, reset_weight, spending_weight, words_weight, redirection_weight, naming_weight, offer_weight, hello_weight, message_cost, label_cost}
use Rattle.claims_model.specs.Weights.{state_cost}
use Rattle.law_port_facts.proofs.Keyed.{on_both, at_key}
use Rattle.law_port_weights.proofs.Sums.{total_more}
use Rattle.law_port_weights.proofs.Below.{IsBelow, received_below}
use Rattle.law_port_weights.proofs.Works.{live_or_halted, labels_in, cost_of_label, cost_of_grant, Costs, costs_none, at_most, one_after, after_none, none_after, trade_then, trade, costs_fold, acts_cost, halts_cost, turned_cost, kept_cost, label_trade, new_label_cost, grants_cost, grant_trade, gone_cost, says_cost}

-- a label that the port holds
abbrev pub IsHeld : Work → Label → Type 0
IsHeld w label = label_at w.port label.number ≡ Some label

pub held_own : (port : Port) (number : ℕ) (label : Label) → label_at port number ≡ Some label → label_at port label.number ≡ Some label
held_own port number label e = ap (label_at port) (at_key label_number number (labels_of port) label e) ∙ e

abbrev pub IsGranted : Work → Grant → Type 0
IsGranted w grant = at grant_label grant.label w.port.grants ≡ Some grant

pub granted_own : (grants : List Grant) (number : ℕ) (grant : Grant) → at grant_label number grants ≡ Some grant → at grant_label grant.label grants ≡ Some grant
granted_own grants number grant e = ap (λ (n : ℕ). at grant_label n grants) (at_key grant_label number grants grant e) ∙ e

module _ (changes : ℕ) where
  abbrev IsFree : Work → Work → Type 0
  IsFree w v = Costs changes 0 w v

  -- *What is said*: words that nothing answers, and a REDIRECT or a RECLAIM
  words_cost : (w : Work) (message : Unnumbered) → ((own peer : Instance) (number : ℕ) → message_cost (message own peer number) ≤ 0) → Costs changes words_weight w (says w message)
  words_cost w message none = says_cost changes message 0 none w

  pub naming_cost : (w : Work) (message : Unnumbered) → ((own peer : Instance) (number : ℕ) → message_cost (message own peer number) ≤ redirection_weight) → Costs changes naming_weight w (says w message)
  naming_cost w message some = at_most changes (frame_weight + (redirection_weight + spending_weight)) naming_weight w (says w message) (omega arith) (says_cost changes message redirection_weight some w)

  -- *The adjacency*
  opens_free : (setup : Setup) (w : Work) → IsFree w (opens setup w)
  opens_free setup w =
      let fresh : Work = record w { port = record w.port { session = Some (first_session setup) } } in
      after_none changes 0 w fresh (opens setup w) (record { cost = omega arith; stays = λ k. omega arith }) (acts_cost changes fresh (Note (Opened setup.node setup.port)))

  answers_cost : (setup : Setup) (kind : HelloKind) (w : Work) (next : ℕ) (answer : Answer (Said Peer) Peer) → IsBelow kind answer
      → Costs changes (hello_weight kind) w (answers setup w (ifmp_answer next answer))
  answers_cost setup kind w next Quiet below = costs_none changes (hello_weight kind) w
  answers_cost setup kind w next (Send message) below = at_most changes (frame_weight + hello_weight message.kind) (hello_weight kind) w (greets w (hello_of next message)) (omega (arith, below))
      (acts_cost changes w (Say (Adjacency (hello_of next message))))
  answers_cost setup kind w next (Open None own) below = at_most changes 0 (hello_weight kind) w (opens setup w) (omega arith) (opens_free setup w)
  answers_cost setup kind w next (Open (Some message) own) below = at_most changes (frame_weight + hello_weight message.kind) (hello_weight kind) w (opens setup (greets w (hello_of next message))) (omega (arith, below))
      (none_after changes (frame_weight + hello_weight message.kind) w (greets w (hello_of next message)) (opens setup (greets w (hello_of next message)))
      (acts_cost changes w (Say (Adjacency (hello_of next message)))) (opens_free setup (greets w (hello_of next message))))
  answers_cost setup kind w next Reset below = at_most changes reset_weight (hello_weight kind) w (halts w) (omega arith) (halts_cost changes w)

  steps_cost : (setup : Setup) (kind : HelloKind) (w : Work) (step : sides.Step Peer) → IsBelow kind step.answer → Costs changes (hello_weight kind) w (steps setup w step)
  steps_cost setup kind w step below =
      let turned : Work = record w { port = record w.port { adjacency = step.side } } in
      after_none changes (hello_weight kind) w turned (steps setup w step) (turned_cost changes w step.side)
      (answers_cost setup kind turned (option_map_or (λ (s : Session). s.expected) w.port.session 1) step.answer below)

  -- *A packet* of a label's channel
  pub used_label_free : (w : Work) (o : Option Label) → ((label : Label) → o ≡ Some label → IsHeld w label) → IsFree w (used_label w o)
  used_label_free w None held = costs_none changes 0 w
  used_label_free w (Some label) held = trade changes (cost_of_label label) (cost_of_label label) 0 w (with_label w (record label { idle = 0 })) (omega arith) (label_trade changes w label (record label { idle = 0 }) (held label refl))

  pub used_free : (w : Work) (number : ℕ) → IsFree w (used w number)
  used_free w number = used_label_free w (label_at w.port number) (λ label e. held_own w.port number label e)

  module _ (setup : Setup) (desk : Desk) where
    -- *Labels*
    unwires_cost : (w : Work) (number : ℕ) → Costs changes request_weight w (unwires setup desk w number)
    unwires_cost w number =
        let input : End = label_end setup.port number in
        on_both (Costs changes request_weight w) (on_input (desk_after desk w) input || has_room desk w) (with_action w (Ask (DeleteTree input) (on_input (desk_after desk w) input))) w
        (acts_cost changes w (Ask (DeleteTree input) (on_input (desk_after desk w) input))) (costs_none changes request_weight w)

    quits_label_free : (w : Work) (label : Label) → IsHeld w label → cost_of_label label ≡ request_weight → IsFree w (quits_label setup desk w label)
    quits_label_free w label held is =
        let next : Work = with_label w (record label { state = Wired }) in
        let cut : Work = with_action next (CutChain label.number) in
        trade_then changes (cost_of_label label) 0 request_weight 0 w next (quits_label setup desk w label) (omega (arith, is)) (label_trade changes w label (record label { state = Wired }) held)
        (after_none changes request_weight next cut (quits_label setup desk w label) (acts_cost changes next (CutChain label.number)) (unwires_cost cut label.number))

    quits_in_free : (w : Work) (label : Label) (state : LabelState) → IsHeld w label → label.state ≡ state → IsFree w (quits_in setup desk w label state)
    quits_in_free w label Wiring held is = costs_none changes 0 w
    quits_in_free w label Offered held is = costs_none changes 0 w
    quits_in_free w label (Recalled last true) held is = on_both (IsFree w) (nat_lt last (known_of w.port)) (quits_label setup desk w label) w (quits_label_free w label held (ap label_cost is)) (costs_none changes 0 w)
    quits_in_free w label (Recalled last false) held is = costs_none changes 0 w
    quits_in_free w label Wired held is = costs_none changes 0 w

    quits_free : (w : Work) (number : ℕ) → IsFree w (quits setup desk w number)
    quits_free w number = by (label_at w.port number) refl
      where
        by : (o : Option Label) → label_at w.port number ≡ o → IsFree w (quits_found setup desk w o)
        by None e = costs_none changes 0 w
        by (Some label) e = quits_in_free w label label.state (held_own w.port number label e) refl

    unjoins_cost : (w : Work) (number : ℕ) (join : Option End) → Costs changes request_weight w (unjoins setup w number join)
    unjoins_cost w number None = costs_none changes request_weight w
    unjoins_cost w number (Some output) = acts_cost changes w (TakeBack (label_end setup.port number) output)

    recalls_free : (w : Work) (label : Label) → IsHeld w label → label.state ≡ Offered → IsFree w (recalls setup w label)
    recalls_free w label held is = by w.port.session refl
      where
        by : (o : Option Session) → w.port.session ≡ o → IsFree w (unjoins setup (reclaims_in w label o) label.number label.join)
        by None e = (let none : None ≡ Some label = sym (ap (λ (o : Option Session). at label_number label.number (labels_in o)) e) ∙ held in absurd (cc none))
        by (Some s) e =
            let next : Work = with_label w (record label { state = Recalled (min last_number s.number) false }) in
            let said : Work = says next (reclaim label) in
            trade_then changes (cost_of_label label) request_weight (naming_weight + request_weight) 0 w next (unjoins setup said label.number label.join) (omega (arith, ap label_cost is))
            (label_trade changes w label (record label { state = Recalled (min last_number s.number) false }) held)
            (one_after changes naming_weight request_weight next said (unjoins setup said label.number label.join)
            (naming_cost next (reclaim label) (λ own peer number. omega arith)) (unjoins_cost said label.number label.join))

    recalls_in_free : (w : Work) (label : Label) (state : LabelState) → IsHeld w label → label.state ≡ state → IsFree w (recalls_in setup w label state)
    recalls_in_free w label Wiring held is = costs_none changes 0 w
    recalls_in_free w label Offered held is = recalls_free w label held is
    recalls_in_free w label (Recalled last acknowledged) held is = costs_none changes 0 w
    recalls_in_free w label Wired held is = costs_none changes 0 w

    recalls_offered_free : (w : Work) (o : Option Label) → ((label : Label) → o ≡ Some label → IsHeld w label) → IsFree w (recalls_offered setup w o)
    recalls_offered_free w None held = costs_none changes 0 w
    recalls_offered_free w (Some label) held = recalls_in_free w label label.state (held label refl) refl

    recalls_outside_free : (w : Work) (number : ℕ) → IsFree w (recalls_outside setup w number)
    recalls_outside_free w number = on_both (IsFree w) (is_outside w.port.session number) (recalls_offered setup w (label_at w.port number)) w
        (recalls_offered_free w (label_at w.port number) (λ label e. held_own w.port number label e)) (costs_none changes 0 w)

    acknowledged_in_free : (w : Work) (label : Label) (state : LabelState) → IsHeld w label → label.state ≡ state → IsFree w (acknowledged_in setup desk w label state)
    acknowledged_in_free w label Wiring held is = costs_none changes 0 w
    acknowledged_in_free w label Offered held is = costs_none changes 0 w
    acknowledged_in_free w label (Recalled last acknowledged) held is =
        let next : Work = with_label w (record label { state = Recalled last true }) in
        trade_then changes (cost_of_label label) request_weight 0 0 w next (quits setup desk next label.number) (omega (arith, ap label_cost is))
        (label_trade changes w label (record label { state = Recalled last true }) held) (quits_free next label.number)
    acknowledged_in_free w label Wired held is = costs_none changes 0 w

    acknowledged_free : (w : Work) (flow : FlowId) (o : Option Label) → ((label : Label) → o ≡ Some label → IsHeld w label) → IsFree w (acknowledged setup desk w flow o)
    acknowledged_free w flow None held = costs_none changes 0 w
    acknowledged_free w flow (Some label) held = on_both (IsFree w) (same_flow label.flow flow) (acknowledged_in setup desk w label label.state) w
        (acknowledged_in_free w label label.state (held label refl) refl) (costs_none changes 0 w)

    learns_free : (w : Work) (next : ℕ) → IsFree w (learns setup desk w next)
    learns_free w next =
        let told : Work = with_session w (λ s. record s { known = max s.known next }) in
        after_none changes 0 w told (learns setup desk w next) (kept_cost changes w (λ s. record s { known = max s.known next }) (λ s. refl) (λ s. refl))
        (costs_fold changes (quits setup desk) quits_free (map label_number (labels_of told.port)) told)

    greeted_cost : (w : Work) (source : Addr) (hello : Hello) → Costs changes (hello_weight hello.kind) w (greeted setup desk w source hello)
    greeted_cost w source hello =
        let step : sides.Step Peer = ifmp_received w.port.adjacency source hello in
        let next : Work = steps setup w step in
        let first : Costs changes (hello_weight hello.kind) w next = steps_cost setup hello.kind w step (received_below same_peer w.port.adjacency (heard_from source hello)) in
        on_both (Costs changes (hello_weight hello.kind) w) (is_good w.port.adjacency step.side (heard_from source hello)) (learns setup desk next hello.next) next
        (none_after changes (hello_weight hello.kind) w next (learns setup desk next hello.next) first (learns_free next hello.next)) first

    -- *Redirect* and *Reclaim*
    accepts_free : (w : Work) → IsFree w (accepts w)
    accepts_free w = record { cost = omega arith; stays = λ k. omega arith }

    module _ (w : Work) (channel : Channel) (flow : FlowId) (lifetime : ℕ) where
      abbrev Redirected : Acceptance → Type 0
      Redirected a = Costs changes redirection_weight w (redirected setup desk w channel flow lifetime a)

      refuses : (message : Unnumbered) → ((own peer : Instance) (number : ℕ) → message_cost (message own peer number) ≤ 0) → Costs changes redirection_weight w (says w message)
      refuses message none = at_most changes words_weight redirection_weight w (says w message) (omega arith) (words_cost w message none)

      new_grant : (label : ℕ) → Redirected (New label)
      new_grant label =
          let idle : Grant = record { label = label; flow = flow; lifetime = lifetime; state = Idle } in
          let granted : Work = with_grants (accepts w) (w.port.grants ++ idle ∷ []) in
          on_both (Costs changes redirection_weight w) (has_room desk w) (grants_label setup w label flow lifetime) w
          (at_most changes request_weight redirection_weight w (grants_label setup w label flow lifetime) (omega arith)
          (after_none changes request_weight w granted (grants_label setup w label flow lifetime)
          (after_none changes 0 w (accepts w) granted (accepts_free w) (grants_cost changes (accepts w) (w.port.grants ++ idle ∷ []) 0 (omega (arith, total_more (cost_of_grant changes) w.port.grants idle))))
          (acts_cost changes granted (Ask (AddBranch (control_end setup.port label) (label_end setup.port label)) false))))
          (costs_none changes redirection_weight w)

      by_grant : (label : ℕ) (o : Option Grant) → at grant_label label w.port.grants ≡ o → Redirected (acceptance_beside w.port.grants label flow o)
      by_grant label None e = on_both Redirected (nat_lt (length w.port.grants) most_grants) (New label) GrantsFull (new_grant label) (refuses (error 3 channel) (λ own peer number. omega arith))
      by_grant label (Some grant) e = on_both Redirected (not (same_flow grant.flow flow)) Taken (if is_leaving grant.state then IsLeaving else Refreshed grant)
          (refuses (error 1 channel) (λ own peer number. omega arith))
          (on_both Redirected (is_leaving grant.state) IsLeaving (Refreshed grant) (refuses (error 2 channel) (λ own peer number. omega arith))
          (at_most changes 0 redirection_weight w (with_grant (accepts w) (record grant { lifetime = lifetime })) (omega arith)
          (after_none changes 0 w (accepts w) (with_grant (accepts w) (record grant { lifetime = lifetime })) (accepts_free w)
          (trade changes (cost_of_grant changes grant) (cost_of_grant changes grant) 0 (accepts w) (with_grant (accepts w) (record grant { lifetime = lifetime })) (omega arith)
          (grant_trade changes (accepts w) grant (record grant { lifetime = lifetime }) (granted_own w.port.grants label grant e))))))

      by_label : (o : Option ℕ) → Redirected (acceptance_of setup w.port.grants flow o)
      by_label None = refuses (label_range setup) (λ own peer number. omega arith)
      by_label (Some label) = on_both Redirected (is_in_range setup label) (acceptance_beside w.port.grants label flow (at grant_label label w.port.grants)) OutOfRange
          (by_grant label (at grant_label label w.port.grants) refl) (refuses (label_range setup) (λ own peer number. omega arith))

      redirected_cost : Redirected (acceptance setup w.port.grants channel flow)
      redirected_cost = by_label (label_number_of channel)

    reclaimed_in_cost : (w : Work) (channel : Channel) (grant : Grant) (state : GrantState) → IsGranted w grant → grant.state ≡ state → Costs changes words_weight w (reclaimed_in setup w channel grant state)
    reclaimed_in_cost w channel grant Idle granted is = after_none changes words_weight w (without_grant w grant.label) (reclaimed_in setup w channel grant Idle) (gone_cost changes w grant.label)
        (words_cost (without_grant w grant.label) (reclaim_ack channel grant.flow) (λ own peer number. omega arith))
    reclaimed_in_cost w channel grant ByController granted is = after_none changes words_weight w (without_grant w grant.label) (reclaimed_in setup w channel grant ByController) (gone_cost changes w grant.label)
        (words_cost (without_grant w grant.label) (reclaim_ack channel grant.flow) (λ own peer number. omega arith))
    reclaimed_in_cost w channel grant (ByInput input) granted is =
        let leaving : Grant = record grant { state = Leaving input true } in
        let after : Work = with_grant w leaving in
        trade_then changes (cost_of_grant changes grant) (cost_of_grant changes leaving) request_weight words_weight w after (reclaimed_in setup w channel grant (ByInput input)) (omega (arith, ap (state_cost changes) is))
        (grant_trade changes w grant leaving granted) (acts_cost changes after (TakeBack input (label_end setup.port grant.label)))
    reclaimed_in_cost w channel grant (Leaving input owed) granted is =
        let leaving : Grant = record grant { state = Leaving input true } in
        trade changes (cost_of_grant changes grant) (cost_of_grant changes leaving) words_weight w (with_grant w leaving) (omega (arith, ap (state_cost changes) is, owes owed)) (grant_trade changes w grant leaving granted)
      where
        owes : (b : Bool) → 0 ≤ (if b then words_weight else 0)
        owes true = omega arith
        owes false = omega arith

    reclaimed_cost : (w : Work) (channel : Channel) (flow : FlowId) (o : Option Grant) → ((grant : Grant) → o ≡ Some grant → IsGranted w grant) → Costs changes words_weight w (reclaimed setup w channel flow o)
    reclaimed_cost w channel flow None granted = words_cost w (reclaim_ack channel flow) (λ own peer number. omega arith)
    reclaimed_cost w channel flow (Some grant) granted = on_both (Costs changes words_weight w) (same_flow grant.flow flow) (reclaimed_in setup w channel grant grant.state) (says w (error 4 channel))
        (reclaimed_in_cost w channel grant grant.state (granted grant refl) refl) (words_cost w (error 4 channel) (λ own peer number. omega arith))

    ranged_free : (w : Work) (least greatest : Channel) → IsFree w (ranged setup w least greatest)
    ranged_free w least greatest =
        let next : Work = with_session w (narrowed least greatest) in
        after_none changes 0 w next (ranged setup w least greatest) (kept_cost changes w (narrowed least greatest) (λ s. refl) (λ s. refl))
        (costs_fold changes (recalls_outside setup) recalls_outside_free (map label_number (labels_of next.port)) next)

    -- *Hearing*
    expects_free : (w : Work) (number : ℕ) → IsFree w (expects w number)
    expects_free w number =
        let next : Work = with_session w (λ s. record s { expected = number + 1 }) in
        after_none changes 0 w next (expects w number) (kept_cost changes w (λ s. record s { expected = number + 1 }) (λ s. refl) (λ s. refl)) (record { cost = omega arith; stays = λ k. omega arith })

    expects_labels : (w : Work) (number : ℕ) → labels_of (expects w number).port ≡ labels_of w.port
    expects_labels w number = live_or_halted (λ w. labels_of (expects w number).port ≡ labels_of w.port) (λ port done instances. refl) (λ port done instances. by port.session) w
      where
        by : (o : Option Session) → option_map_or (λ (s : Session). s.labels) (option_map (λ (s : Session). record s { expected = number + 1 }) o) [] ≡ option_map_or (λ (s : Session). s.labels) o []
        by None = refl
        by (Some s) = refl

    expects_grants : (w : Work) (number : ℕ) → (expects w number).port.grants ≡ w.port.grants
    expects_grants w number = live_or_halted (λ w. (expects w number).port.grants ≡ w.port.grants) (λ port done instances. refl) (λ port done instances. refl) w

    held_by : (w : Work) (number : ℕ) (o : Option ℕ) (label : Label) → label_by w.port o ≡ Some label → IsHeld (expects w number) label
    held_by w number None label e = absurd (cc e)
    held_by w number (Some l) label e = ap (at label_number label.number) (expects_labels w number) ∙ held_own w.port l label e

    granted_by : (w : Work) (number : ℕ) (o : Option ℕ) (grant : Grant) → grant_on w.port.grants o ≡ Some grant → IsGranted (expects w number) grant
    granted_by w number None grant e = absurd (cc e)
    granted_by w number (Some l) grant e = ap (at grant_label grant.label) (expects_grants w number) ∙ granted_own w.port.grants l grant e

    taken_cost : (k : ℕ) (w v : Work) (source : Addr) (sender peer : Instance) (number : ℕ) → Costs changes k (expects w number) v → Costs changes k w (if takes w.port source sender peer number then v else w)
    taken_cost k w v source sender peer number c = on_both (Costs changes k w) (takes w.port source sender peer number) v w (after_none changes k w (expects w number) v (expects_free w number) c) (costs_none changes k w)

    pub hears_cost : (w : Work) (source : Addr) (message : Message) → Costs changes (message_cost message) w (hears setup desk w source message)
    hears_cost w source (Adjacency hello) = greeted_cost w source hello
    hears_cost w source (Redirect sender peer number lifetime channel flow) = taken_cost redirection_weight w (redirected setup desk (expects w number) channel flow lifetime (acceptance setup w.port.grants channel flow)) source sender peer number
        (subst (λ (grants : List Grant). Costs changes redirection_weight (expects w number) (redirected setup desk (expects w number) channel flow lifetime (acceptance setup grants channel flow))) (expects_grants w number)
        (redirected_cost (expects w number) channel flow lifetime))
    hears_cost w source (Reclaim sender peer number channel flow) = taken_cost redirection_weight w (reclaimed setup (expects w number) channel flow (grant_on w.port.grants (label_number_of channel))) source sender peer number
        (at_most changes words_weight redirection_weight (expects w number) (reclaimed setup (expects w number) channel flow (grant_on w.port.grants (label_number_of channel))) (omega arith)
        (reclaimed_cost (expects w number) channel flow (grant_on w.port.grants (label_number_of channel)) (granted_by w number (label_number_of channel))))
    hears_cost w source (ReclaimAck sender peer number channel flow) = taken_cost 0 w (acknowledged setup desk (expects w number) flow (label_by w.port (label_number_of channel))) source sender peer number
        (acknowledged_free (expects w number) flow (label_by w.port (label_number_of channel)) (held_by w number (label_number_of channel)))
    hears_cost w source (LabelRange sender peer number least greatest) = taken_cost 0 w (ranged setup (expects w number) least greatest) source sender peer number (ranged_free (expects w number) least greatest)
    hears_cost w source (Error sender peer number code channel) = taken_cost 0 w (error_comes setup (expects w number) code (label_by w.port (label_number_of channel))) source sender peer number
        (on_both (IsFree (expects w number)) (code == 2) (expects w number) (recalls_offered setup (expects w number) (label_by w.port (label_number_of channel))) (costs_none changes 0 (expects w number))
        (recalls_offered_free (expects w number) (label_by w.port (label_number_of channel)) (held_by w number (label_number_of channel))))

    -- *A packet* of the default channel
    wires_cost : (w : Work) (flow : FlowId) (o : Option ℕ) → Costs changes offer_weight w (wires setup w flow o)
    wires_cost w flow None = costs_none changes offer_weight w
    wires_cost w flow (Some number) =
        let label : Label = record { number = number; state = Wiring; flow = flow; idle = 0; ticks = 0; join = None } in
        let taken : Work = with_new_label w label in
        at_most changes (label_cost Wiring + request_weight) offer_weight w (wires setup w flow (Some number)) (omega arith)
        (one_after changes (label_cost Wiring) request_weight w taken (wires setup w flow (Some number)) (new_label_cost changes w label) (acts_cost changes taken (Ask (AddBranch (label_end setup.port number) (control_end setup.port number)) false)))

    pub offers_cost : (w : Work) (s : Session) (flow : FlowId) → Costs changes offer_weight w (offers setup desk w s flow)
    offers_cost w s flow = on_both (Costs changes offer_weight w) (setup.policy.offers flow (packets_in s.counted flow) && has_room desk w) (wires setup w flow (lowest_spare setup s.least s.greatest s.labels)) w
        (wires_cost w flow (lowest_spare setup s.least s.greatest s.labels)) (costs_none changes offer_weight w)
