-- how many control marks what a port asks at a message or a tick may draw

use Rattle.std.proofs.Common.{◌≡◌, ℕ, ◌≤◌, ◌<◌, ◌+◌, ◌*◌, true, false, List, [], ◌∷◌, ◌++◌, length, Option, None, Some, refl, ap, arith, if◌then◌else◌, map, fold}
use Rattle.std.specs.Prelude.{nat_lt, ◌==◌, ◌/◌, max, flat_map}
use Rattle.std.proofs.lemmas.List.{length-map}
use Rattle.std.proofs.lemmas.Bool.Decides.{nat_tests}
use Rattle.port_model.specs.Words.{Addr, Instance, Channel, Hello, Peer, label_number_of, is_label_number, ticked, ifmp_received, heard_from, Redirect, Reclaim, ReclaimAck, LabelRange, Error, at, Desk, Setup, is_in_range, Label, label_number, Grant, GrantState, Idle, ByController, ByInput, Leaving, grant_label, grant_on, acceptance, Session, Work, with_session, labels_of, label_range, quits, is_good, learns, takes, expects, narrowed, recalls_outside, recalls_offered, reclaimed, acknowledged, ranged, error_comes, label_by, hears, ages, ticks_label, asks_for_ack, nudges, moves_windows, ticks_session, closing, taking_back_in, taking_back, withdrawing, resets, withdrawing_in, withdrawing_of}
use Rattle.port_model.specs.adjacency_table.Side as sides
use Rattle.port_model.specs.ifmp_wire.declared.message.Message.{Message}
use Rattle.port_model.specs.ifmp_wire.declared.message.Message.TheVariants.{Adjacency}
use Rattle.ordered_lists.specs.Ordered.{Every, InOrder}
use Rattle.ordered_lists.proofs.Every.{every_map}
use Rattle.port_model.specs.gsmp_wire.declared.request.Request.TheVariants.{DeleteAll}
use Rattle.port_model.specs.declared.action.Action.{Action}
use Rattle.port_model.specs.declared.action.Action.TheVariants.{Ask, CutChain}
use Rattle.port_model.specs.Counts.{window_moved}
use Rattle.port_model.specs.Port.{Port}
use Rattle.port_model.specs.Saying.{says}
use Rattle.port_model.specs.Adjacency.{steps, greeted}
use Rattle.port_model.specs.Redirection.{redirected}
use Rattle.port_model.specs.Ticks.{ticks}
use Rattle.law_port_facts.specs.Port.{setup_port, IsLabel, IsBefore, IsPort, IsWork}
use Rattle.law_port_facts.proofs.Keyed.{on_both}
use Rattle.law_port_facts.proofs.Found.{session_labels}
use Rattle.law_port_facts.proofs.Steps.{Goes, steps_to, turning, minding}
use Rattle.law_port_facts.proofs.Steps as steps_of
use Rattle.law_port_facts.proofs.Rules.{and_first, goes_fold}
use Rattle.law_port_facts.proofs.Hearings.{expects_goes, ages_goes}
use Rattle.law_port_facts.proofs.Kept.{goes_kept}
use Rattle.law_port_facts.proofs.Weights.{weigh, weigh_join, Costs, at_most, one_after, after_none, none_after, costs_fold, says_cost, steps_cost, session_cost, alike, quits_cost, acknowledged_cost, recalls_outside_cost, recalls_offered_cost, redirected_cost, reclaimed_cost, ages_cost, ticks_label_cost, nothing}

-- *How many labels there are*
abbrev pub most_labels : ℕ
most_labels = 16384

-- what a tick costs a port in Estab: its grants, its labels, and LABEL RANGE
abbrev pub tick_cost : ℕ
tick_cost = 256 + (2 * most_labels + 1)

below_most : (n : ℕ) → nat_lt (n / 1024) 16 ≡ true → n < most_labels
below_most n e = (let h : n / 1024 < 16 = grind (arith, nat_tests) in omega (arith, h))

in_range_below : (setup : Setup) (number : ℕ) → is_in_range setup number ≡ true → number < most_labels
in_range_below setup number e = below_most number (and_first (nat_lt (number / 1024) 16) _ (and_first (is_label_number number) _ e))

counted_from : (a : ℕ) (labels : List Label) → Every (λ (l : Label). a ≤ l.number) labels → Every (λ (l : Label). l.number < most_labels) labels → InOrder IsBefore labels → a ≤ most_labels
    → a + length labels ≤ most_labels
counted_from a [] low high order le = omega (arith, le)
counted_from a (l ∷ ls) low high order le =
    let rest : (l.number + 1) + length ls ≤ most_labels =
    counted_from (l.number + 1) ls (every_map (IsBefore l) (λ (x : Label). l.number + 1 ≤ x.number) ls (λ x before. omega (arith, before)) order.0) high.1 order.1 (omega (arith, high.0)) in
    omega (arith, rest, low.0)

all_above_zero : (labels : List Label) → Every (λ (l : Label). 0 ≤ l.number) labels
all_above_zero [] = tt
all_above_zero (l ∷ ls) = (omega arith, all_above_zero ls)

module _ (setups : List Setup) (setup : Setup) (linked : at setup_port setup.port.0 setups ≡ Some setup) where
  pub labels_count : (port : Port) → IsPort setups setup port → length (labels_of port) ≤ most_labels
  labels_count port h =
      let all : 0 + length (labels_of port) ≤ most_labels = counted_from 0 (labels_of port) (all_above_zero (labels_of port))
      (every_map (IsLabel setups setup) (λ (l : Label). l.number < most_labels) (labels_of port) (λ l fits. in_range_below setup l.number fits.in_range) h.labels) h.ascend (omega arith) in
      omega (arith, all)

  module _ (desk : Desk) where
    -- *Hearing*
    learns_cost : (w : Work) (next : ℕ) → IsWork setups setup w → Costs most_labels w (learns setup desk w next)
    learns_cost w next h =
        let told : Work = with_session w (λ s. record s { known = max s.known next }) in
        let same : labels_of told.port ≡ labels_of w.port = session_labels w (λ s. record s { known = max s.known next }) (λ s. refl) in
        let count : ℕ = length (map label_number (labels_of told.port)) in
        let few : 1 * length (map label_number (labels_of told.port)) ≤ most_labels = omega (arith, length-map (labels_of told.port) label_number, ap (λ (ls : List Label). length ls) same, labels_count w.port h.port) in
        at_most (1 * length (map label_number (labels_of told.port))) most_labels w (learns setup desk w next) few
        (after_none (1 * length (map label_number (labels_of told.port))) w told (learns setup desk w next) (session_cost w (λ s. record s { known = max s.known next }))
        (costs_fold 1 (quits setup desk) (quits_cost setup desk) (map label_number (labels_of told.port)) told))

    greeted_cost : (w : Work) (source : Addr) (hello : Hello) → w.halted ≡ false → IsWork setups setup w → Costs (1 + most_labels) w (greeted setup desk w source hello)
    greeted_cost w source hello live h =
        let step : sides.Step Peer = ifmp_received w.port.adjacency source hello in
        let next : Work = steps setup w step in
        let kept : IsWork setups setup next = goes_kept setups setup linked desk w next (steps_to (turning w step live (steps_of.hears source hello))) h in
        let first : Costs 1 w next = steps_cost setup w step in
        on_both (Costs (1 + most_labels) w) (is_good w.port.adjacency step.side (heard_from source hello)) (learns setup desk next hello.next) next
        (one_after 1 most_labels w next (learns setup desk next hello.next) first (learns_cost next hello.next kept)) (at_most 1 (1 + most_labels) w next (omega arith) first)

    ranged_cost : (w : Work) (least greatest : Channel) → IsWork setups setup w → Costs (2 * most_labels) w (ranged setup w least greatest)
    ranged_cost w least greatest h =
        let next : Work = with_session w (narrowed least greatest) in
        let same : labels_of next.port ≡ labels_of w.port = session_labels w (narrowed least greatest) (λ s. refl) in
        let few : 2 * length (map label_number (labels_of next.port)) ≤ 2 * most_labels = omega (arith, length-map (labels_of next.port) label_number, ap (λ (ls : List Label). length ls) same, labels_count w.port h.port) in
        at_most (2 * length (map label_number (labels_of next.port))) (2 * most_labels) w (ranged setup w least greatest) few
        (after_none (2 * length (map label_number (labels_of next.port))) w next (ranged setup w least greatest) (session_cost w (narrowed least greatest))
        (costs_fold 2 (recalls_outside setup) (recalls_outside_cost setup desk) (map label_number (labels_of next.port)) next))

    expects_cost : (w : Work) (number : ℕ) → Costs 0 w (expects w number)
    expects_cost w number =
        let next : Work = with_session w (λ s. record s { expected = number + 1 }) in
        after_none 0 w next (expects w number) (session_cost w (λ s. record s { expected = number + 1 })) (alike next (expects w number) refl refl)

    taken_cost : (k : ℕ) (w v : Work) (source : Addr) (sender peer : Instance) (number : ℕ) → Costs k (expects w number) v → Costs k w (if takes w.port source sender peer number then v else w)
    taken_cost k w v source sender peer number c = on_both (Costs k w) (takes w.port source sender peer number) v w (after_none k w (expects w number) v (expects_cost w number) c) (nothing setup desk k w)

    -- at a message
    pub hears_cost : (w : Work) (source : Addr) (message : Message) → w.halted ≡ false → IsWork setups setup w → Costs (2 + 2 * most_labels) w (hears setup desk w source message)
    hears_cost w source (Adjacency hello) live h = at_most (1 + most_labels) (2 + 2 * most_labels) w (greeted setup desk w source hello) (omega arith) (greeted_cost w source hello live h)
    hears_cost w source (Redirect sender peer number lifetime channel flow) live h = taken_cost (2 + 2 * most_labels) w (redirected setup desk (expects w number) channel flow lifetime (acceptance setup w.port.grants channel flow)) source sender peer number
        (at_most 1 (2 + 2 * most_labels) (expects w number) (redirected setup desk (expects w number) channel flow lifetime (acceptance setup w.port.grants channel flow)) (omega arith) (redirected_cost setup desk (expects w number) channel flow lifetime (acceptance setup w.port.grants channel flow)))
    hears_cost w source (Reclaim sender peer number channel flow) live h = taken_cost (2 + 2 * most_labels) w (reclaimed setup (expects w number) channel flow (grant_on w.port.grants (label_number_of channel))) source sender peer number
        (at_most 1 (2 + 2 * most_labels) (expects w number) (reclaimed setup (expects w number) channel flow (grant_on w.port.grants (label_number_of channel))) (omega arith) (reclaimed_cost setup desk (expects w number) channel flow (grant_on w.port.grants (label_number_of channel))))
    hears_cost w source (ReclaimAck sender peer number channel flow) live h = taken_cost (2 + 2 * most_labels) w (acknowledged setup desk (expects w number) flow (label_by w.port (label_number_of channel))) source sender peer number
        (at_most 1 (2 + 2 * most_labels) (expects w number) (acknowledged setup desk (expects w number) flow (label_by w.port (label_number_of channel))) (omega arith) (acknowledged_cost setup desk (expects w number) flow (label_by w.port (label_number_of channel))))
    hears_cost w source (LabelRange sender peer number least greatest) live h = taken_cost (2 + 2 * most_labels) w (ranged setup (expects w number) least greatest) source sender peer number
        (at_most (2 * most_labels) (2 + 2 * most_labels) (expects w number) (ranged setup (expects w number) least greatest) (omega arith)
        (ranged_cost (expects w number) least greatest (goes_kept setups setup linked desk w (expects w number) (expects_goes setup desk w number) h)))
    hears_cost w source (Error sender peer number code channel) live h = taken_cost (2 + 2 * most_labels) w (error_comes setup (expects w number) code (label_by w.port (label_number_of channel))) source sender peer number
        (on_both (Costs (2 + 2 * most_labels) (expects w number)) (code == 2) (expects w number) (recalls_offered setup (expects w number) (label_by w.port (label_number_of channel))) (nothing setup desk (2 + 2 * most_labels) (expects w number))
        (at_most 2 (2 + 2 * most_labels) (expects w number) (recalls_offered setup (expects w number) (label_by w.port (label_number_of channel))) (omega arith) (recalls_offered_cost setup desk (expects w number) (label_by w.port (label_number_of channel)))))

    -- at a tick
    nudges_cost : (w : Work) → Costs 1 w (nudges setup w)
    nudges_cost w = on_both (Costs 1 w) (asks_for_ack w.port.session) (says w (label_range setup)) w (says_cost w (label_range setup)) (nothing setup desk 1 w)

    ticks_session_cost : (w : Work) (o : Option Session) → IsWork setups setup w → Costs tick_cost w (ticks_session setup desk w o)
    ticks_session_cost w None h = nothing setup desk tick_cost w
    ticks_session_cost w (Some s) h =
        let aged : Work = fold (ages setup) w (map grant_label w.port.grants) in
        let kept : IsWork setups setup aged = goes_kept setups setup linked desk w aged (goes_fold setup desk (ages setup) (ages_goes setup desk) (map grant_label w.port.grants) w) h in
        let labelled : Work = fold (ticks_label setup desk) aged (map label_number (labels_of aged.port)) in
        let nudged : Work = nudges setup labelled in
        let first : Costs 256 w aged = at_most (1 * length (map grant_label w.port.grants)) 256 w aged (omega (arith, length-map w.port.grants grant_label, h.port.few)) (costs_fold 1 (ages setup) (ages_cost setup desk) (map grant_label w.port.grants) w) in
        let second : Costs (2 * most_labels) aged labelled = at_most (2 * length (map label_number (labels_of aged.port))) (2 * most_labels) aged labelled (omega (arith, length-map (labels_of aged.port) label_number, labels_count aged.port kept.port))
        (costs_fold 2 (ticks_label setup desk) (ticks_label_cost setup desk) (map label_number (labels_of aged.port)) aged) in
        none_after tick_cost w nudged (moves_windows setup nudged)
        (one_after 256 (2 * most_labels + 1) w aged nudged first (one_after (2 * most_labels) 1 aged labelled nudged second (nudges_cost labelled)))
        (session_cost nudged (λ s. record s { counted = window_moved setup.timers.window s.counted }))

    pub ticks_cost : (w : Work) → w.halted ≡ false → IsWork setups setup w → Costs (1 + tick_cost) w (ticks setup desk w)
    ticks_cost w live h =
        let next : Work = steps setup w (ticked w.port.adjacency) in
        let kept : IsWork setups setup next = goes_kept setups setup linked desk w next (steps_to (turning w (ticked w.port.adjacency) live steps_of.ages)) h in
        one_after 1 tick_cost w next (ticks setup desk w) (steps_cost setup w (ticked w.port.adjacency)) (ticks_session_cost next next.port.session kept)

-- *A reset*
closing_weight : (setup : Setup) (o : Option Session) → weigh (closing setup o) ≡ 0
closing_weight setup None = refl
closing_weight setup (Some s) = omega (arith, cuts s.labels)
  where
    cuts : (labels : List Label) → weigh (map (λ (label : Label). CutChain label.number) labels) ≡ 0
    cuts [] = refl
    cuts (label ∷ labels) = omega (arith, cuts labels)

withdrawing_in_weight : (setup : Setup) (label : ℕ) (state : GrantState) → weigh (withdrawing_in setup label state) ≡ 0
withdrawing_in_weight setup label Idle = omega arith
withdrawing_in_weight setup label ByController = omega arith
withdrawing_in_weight setup label (ByInput input) = omega arith
withdrawing_in_weight setup label (Leaving input owed) = omega arith

withdrawing_weight : (setup : Setup) (grants : List Grant) → weigh (withdrawing setup grants) ≡ 0
withdrawing_weight setup [] = refl
withdrawing_weight setup (grant ∷ grants) = omega (arith, weigh_join (withdrawing_of setup grant) (withdrawing setup grants), withdrawing_in_weight setup grant.label grant.state, withdrawing_weight setup grants)

taking_in_weight : (setup : Setup) (grant : Grant) (state : GrantState) → weigh (taking_back_in setup grant state) ≤ 1
taking_in_weight setup grant Idle = omega arith
taking_in_weight setup grant ByController = omega arith
taking_in_weight setup grant (ByInput input) = omega arith
taking_in_weight setup grant (Leaving input owed) = omega arith

taking_weight : (setup : Setup) (grants : List Grant) → weigh (flat_map (taking_back setup) grants) ≤ length grants
taking_weight setup [] = omega arith
taking_weight setup (grant ∷ grants) = omega (arith, weigh_join (taking_back setup grant) (flat_map (taking_back setup) grants), taking_in_weight setup grant grant.state, taking_weight setup grants)

pub resets_weight : (setup : Setup) (w : Work) → w.actions ≡ [] → length w.port.grants ≤ 256 → weigh (resets setup w).actions ≤ 257
resets_weight setup w none few =
    let asks : List Action = Ask (DeleteAll setup.port) true ∷ [] in
    let back : List Action = flat_map (taking_back setup) w.port.grants in
    omega (
      arith,
      weigh_join w.actions (closing setup w.port.session ++ (withdrawing setup w.port.grants ++ (back ++ asks))),
      ap weigh none,
      weigh_join (closing setup w.port.session) (withdrawing setup w.port.grants ++ (back ++ asks)),
      closing_weight setup w.port.session,
      weigh_join (withdrawing setup w.port.grants) (back ++ asks),
      withdrawing_weight setup w.port.grants,
      weigh_join back asks,
      taking_weight setup w.port.grants,
      few,
    )
