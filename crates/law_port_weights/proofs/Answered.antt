-- what a packet of the default channel, an answer of the switch, and a join that is released cost a port

use Rattle.std.proofs.Common.{◌≡◌, ℕ, ◌≤◌, ◌+◌, Bool, true, false, List, Option, None, Some, refl, ap, arith}
use Rattle.std.specs.Prelude.{◌==◌}
use Rattle.claims_model.specs.world_model.Words.{End, label_number_of, number_of_channel, label_channel_of, FlowId, Request, AddBranch, MoveBranch, DeleteTree, VerifyTree, PortManagement, Bind, Free, Desk, Note, Setup, Label, LabelState, Wiring, Offered, Recalled, Wired, label_for, Grant, GrantState, Idle, ByController, ByInput, Leaving, grant_on, counted_once, Session, Work, with_session, with_label, without_label, without_grant, label_at, redirect, reclaim_ack, packet_flow, counts_flow, counts_by, counts, label_by, bound_in, bound, freed_in, freed, started_in, started, joins_label, parted, given_back_in, given_back}
use Rattle.claims_model.specs.world_model.gsmp_wire.declared.request.Request.TheVariants.{DeleteAll, AllPorts}
use Rattle.claims_model.specs.world_model.link_model.declared.record.Record.TheVariants.{Join}
use Rattle.claims_model.specs.world_model.port_model.Port.{with_action}
use Rattle.claims_model.specs.world_model.port_model.Answers.{done}
use Rattle.claims_model.specs.world_model.port_model.Joins.{ended}
use Rattle.claims_model.specs.Costs.{frame_weight, reset_weight, words_weight, naming_weight, offer_weight, label_cost}
use Rattle.claims_model.specs.Weights.{state_cost}
use Rattle.law_port_weights.specs.Law.{ServesOnce}
use Rattle.law_port_facts.proofs.Keyed.{on_both}
use Rattle.law_port_weights.proofs.Works.{cost_of_label, cost_of_grant, Costs, costs_none, at_most, after_none, trade_then, trade, acts_cost, session_put, label_trade, freed_trade, ended_trade, free_grant, gone_cost, tells_cost}
use Rattle.law_port_weights.proofs.Rules.{IsHeld, IsGranted, held_own, naming_cost, used_label_free, offers_cost}

module _ (changes : ℕ) where
  abbrev IsFree : Work → Work → Type 0
  IsFree w v = Costs changes 0 w v

  module _ (setup : Setup) (desk : Desk) where
    -- *Counting*, where the label that serves a flow is the one of its number
    counts_flow_cost : (w : Work) (s : Session) (flow : FlowId) (o : Option Label) → w.port.session ≡ Some s → ((label : Label) → o ≡ Some label → IsHeld w label)
        → Costs changes offer_weight w (counts_flow setup desk w s flow o)
    counts_flow_cost w s flow (Some label) is held = at_most changes 0 offer_weight w (counts_flow setup desk w s flow (Some label)) (omega arith) (used_label_free changes w (Some label) held)
    counts_flow_cost w s flow None is held =
        let counted : Session = record s { counted = counted_once s.counted flow } in
        after_none changes offer_weight w (with_session w (λ old. counted)) (counts_flow setup desk w s flow None) (session_put changes w s counted is refl refl)
        (offers_cost changes setup desk (with_session w (λ old. counted)) counted flow)

    counts_by_cost : (w : Work) (o : Option Session) (flow : Option FlowId) → w.port.session ≡ o → ServesOnce w → Costs changes offer_weight w (counts_by setup desk w o flow)
    counts_by_cost w None flow is once = costs_none changes offer_weight w
    counts_by_cost w (Some s) None is once = costs_none changes offer_weight w
    counts_by_cost w (Some s) (Some flow) is once = counts_flow_cost w s flow (label_for s.labels flow) is (λ label e. once s flow label is e)

    pub counts_cost : (w : Work) (packet : List ℕ) → ServesOnce w → Costs changes offer_weight w (counts setup desk w packet)
    counts_cost w packet once = counts_by_cost w w.port.session (packet_flow packet) refl once

    -- *Answers*
    bound_in_free : (w : Work) (label : Label) (state : LabelState) → IsHeld w label → label.state ≡ state → IsFree w (bound_in setup w label state)
    bound_in_free w label Wiring held is =
        let offered : Label = record label { state = Offered } in
        let next : Work = with_label w offered in
        let bind : Work = with_action next (Note (Bind setup.node setup.port label.number label.flow)) in
        trade_then changes (cost_of_label label) (label_cost Offered) naming_weight 0 w next (bound_in setup w label Wiring) (omega (arith, ap label_cost is)) (label_trade changes w label offered held)
        (after_none changes naming_weight next bind (bound_in setup w label Wiring) (acts_cost changes next (Note (Bind setup.node setup.port label.number label.flow)))
        (naming_cost changes bind (redirect setup label) (λ own peer number. omega arith)))
    bound_in_free w label Offered held is = costs_none changes 0 w
    bound_in_free w label (Recalled last acknowledged) held is = costs_none changes 0 w
    bound_in_free w label Wired held is = costs_none changes 0 w

    freed_in_free : (w : Work) (label : Label) (state : LabelState) → IsHeld w label → IsFree w (freed_in setup w label state)
    freed_in_free w label Wiring held = costs_none changes 0 w
    freed_in_free w label Offered held = costs_none changes 0 w
    freed_in_free w label (Recalled last acknowledged) held = costs_none changes 0 w
    freed_in_free w label Wired held =
        let gone : Work = without_label w label.number in
        trade_then changes (cost_of_label label) 0 0 0 w gone (freed_in setup w label Wired) (omega arith) (freed_trade changes w label label.number held)
        (acts_cost changes gone (Note (Free setup.node setup.port label.number)))

    started_in_free : (w : Work) (grant : Grant) (state : GrantState) → IsFree w (started_in w grant state)
    started_in_free w grant Idle = free_grant changes w (record grant { state = ByController }) refl
    started_in_free w grant ByController = costs_none changes 0 w
    started_in_free w grant (ByInput input) = costs_none changes 0 w
    started_in_free w grant (Leaving input owed) = costs_none changes 0 w

    bound_free : (w : Work) (o : Option Label) → ((label : Label) → o ≡ Some label → IsHeld w label) → IsFree w (bound setup w o)
    bound_free w None held = costs_none changes 0 w
    bound_free w (Some label) held = bound_in_free w label label.state (held label refl) refl

    freed_free : (w : Work) (o : Option Label) → ((label : Label) → o ≡ Some label → IsHeld w label) → IsFree w (freed setup w o)
    freed_free w None held = costs_none changes 0 w
    freed_free w (Some label) held = freed_in_free w label label.state (held label refl)

    started_free : (w : Work) (o : Option Grant) → IsFree w (started w o)
    started_free w None = costs_none changes 0 w
    started_free w (Some grant) = started_in_free w grant grant.state

    held_by : (w : Work) (o : Option ℕ) (label : Label) → label_by w.port o ≡ Some label → IsHeld w label
    held_by w None label e = absurd (cc e)
    held_by w (Some l) label e = held_own w.port l label e

    pub done_free : (w : Work) (request : Request) → IsFree w (done setup w request)
    done_free w (AddBranch input output) = on_both (IsFree w) (input.port.0 == 0) (started w (grant_on w.port.grants (label_number_of output.channel))) (bound setup w (label_by w.port (label_number_of input.channel)))
        (started_free w (grant_on w.port.grants (label_number_of output.channel))) (bound_free w (label_by w.port (label_number_of input.channel)) (held_by w (label_number_of input.channel)))
    done_free w (MoveBranch input from to) = on_both (IsFree w) (to.port.0 == 0) w (with_action w (Note (Join setup.node setup.port (number_of_channel input.channel) to.port (number_of_channel to.channel)))) (costs_none changes 0 w)
        (acts_cost changes w (Note (Join setup.node setup.port (number_of_channel input.channel) to.port (number_of_channel to.channel))))
    done_free w (DeleteTree input) = freed_free w (label_by w.port (label_number_of input.channel)) (held_by w (label_number_of input.channel))
    done_free w (VerifyTree input) = costs_none changes 0 w
    done_free w (DeleteAll port) = costs_none changes 0 w
    done_free w (PortManagement port function) = costs_none changes 0 w
    done_free w AllPorts = costs_none changes 0 w

  -- *A join is released*: at the label's port, and at the grant's
  joins_label_free : (w : Work) (join : Option End) (o : Option Label) → ((label : Label) → o ≡ Some label → IsHeld w label) → IsFree w (joins_label w join o)
  joins_label_free w join None held = costs_none changes 0 w
  joins_label_free w join (Some label) held = trade changes (cost_of_label label) (cost_of_label label) 0 w (with_label w (record label { join = join })) (omega arith) (label_trade changes w label (record label { join = join }) (held label refl))

  pub parted_free : (w : Work) (number : ℕ) → IsFree w (parted w number)
  parted_free w number = joins_label_free w None (label_at w.port number) (λ label e. held_own w.port number label e)

  pub given_back_free : (w : Work) (grant : Grant) → IsGranted w grant → IsFree w (given_back w grant)
  given_back_free w grant granted = by grant.state refl
    where
      ends : (owed : Bool) → words_weight ≤ cost_of_grant changes grant → IsFree w (ended w grant owed)
      ends true some =
          let gone : Work = without_grant w grant.label in
          trade_then changes (cost_of_grant changes grant) 0 words_weight 0 w gone (ended w grant true) (omega (arith, some)) (ended_trade changes w grant grant.label granted)
          (at_most changes (frame_weight + (0 + reset_weight)) words_weight gone (ended w grant true) (omega arith)
          (tells_cost changes (reclaim_ack (label_channel_of grant.label) grant.flow) 0 (λ own peer number. omega arith) gone))
      ends false some = gone_cost changes w grant.label

      by : (state : GrantState) → grant.state ≡ state → IsFree w (given_back_in w grant state)
      by Idle is = costs_none changes 0 w
      by ByController is = costs_none changes 0 w
      by (ByInput input) is = free_grant changes w (record grant { state = ByController }) refl
      by (Leaving input true) is = ends true (omega (arith, ap (state_cost changes) is))
      by (Leaving input false) is = gone_cost changes w grant.label
