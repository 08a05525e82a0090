-- a session that serves a flow, or of which something is so by what it counts, stays so at the rules of its port

use Rattle.std.proofs.Common.{◌≡◌, ℕ, ◌+◌, Bool, true, false, List, [], ◌∷◌, ◌++◌, Option, None, Some, refl, sym, ◌∙◌, ap, ◌⊎◌, inl, inr}
use Rattle.std.specs.Prelude.{◌==◌, nat_lt}
use Rattle.std.specs.Option.{option_map, option_map_or}
use Rattle.world_model.specs.Words.{FlowId, label_number_of, number_of_channel, AddBranch, MoveBranch, DeleteTree, VerifyTree, PortManagement, Request, at, put, without, Action, Say, Note, Setup, Label, LabelState, Wiring, Offered, Recalled, Wired, label_number, label_at, label_by, labels_of, serves, Grant, GrantState, Idle, ByController, ByInput, Leaving, grant_label, grant_on, Session, Work, halts, with_session, with_label, without_label, with_grants, with_grant, without_grant, Unnumbered, last_number, spent_number, own_instance, tells_in, tells, is_spent, halts_if_spent, redirect, reclaim_ack, label_channel_of, used_label, used, joins_label, parted, given_back_in, given_back, bound_in, bound, freed_in, freed, started_in, started}
use Rattle.world_model.specs.gsmp_wire.declared.request.Request.TheVariants.{DeleteAll, AllPorts}
use Rattle.world_model.specs.link_model.declared.record.Record.TheVariants.{Bind, Free, Join}
use Rattle.world_model.specs.port_model.Answers.{done}
use Rattle.world_model.specs.port_model.Counts.{Counted}
use Rattle.world_model.specs.port_model.Joins.{ended}
use Rattle.world_model.specs.port_model.Port.{with_action}
use Rattle.world_model.specs.port_model.Saying.{says, peer_instance, with_number}
use Rattle.world_model.specs.port_model.declared.action.Action.TheVariants as actions
use Rattle.law_live_journeys.proofs.law_run_facts.law_port_facts.Keyed.{on_both, at_key}
use Rattle.law_live_ease.proofs.ServedLists.{Serves, put_serves, without_serves}

module _ (flow : FlowId) (Q : List Counted → Type 0) where
  -- *A session* serves the flow, or what it counts is so
  abbrev pub Good : Session → Type 0
  Good s = Serves flow s.labels ⊎ Q s.counted

  abbrev pub In : Option Session → Type 0
  In None = Unit {0}
  In (Some s) = Good s

  abbrev pub G : Work → Type 0
  G w = In w.port.session

  -- *Changes*
  pub session_g : (w : Work) (change : Session → Session) → ((s : Session) → w.port.session ≡ Some s → Good s → Good (change s)) → G w → G (with_session w change)
  session_g w change each h = on_both G w.halted w (record w { port = record w.port { session = option_map change w.port.session } }) h (by w.port.session refl h)
    where
      by : (o : Option Session) → w.port.session ≡ o → In o → In (option_map change o)
      by None is k = tt
      by (Some s) is k = each s is k

  pub acts_g : (w : Work) (action : Action) → G w → G (with_action w action)
  acts_g w action h = on_both G w.halted w (record w { actions = w.actions ++ action ∷ [] }) h h

  pub halts_g : (w : Work) → G w → G (halts w)
  halts_g w h = acts_g w actions.Reset h

  grants_g : (w : Work) (grants : List Grant) → G w → G (with_grants w grants)
  grants_g w grants h = on_both G w.halted w (record w { port = record w.port { grants = grants } }) h h

  pub grant_g : (w : Work) (grant : Grant) → G w → G (with_grant w grant)
  grant_g w grant h = grants_g w (put grant_label grant w.port.grants) h

  pub gone_g : (w : Work) (label : ℕ) → G w → G (without_grant w label)
  gone_g w label h = grants_g w (without grant_label label w.port.grants) h

  pub more_grants_g : (w : Work) (grant : Grant) → G w → G (with_grants w (w.port.grants ++ grant ∷ []))
  more_grants_g w grant h = grants_g w (w.port.grants ++ grant ∷ []) h

  in_labels : (w : Work) (n : ℕ) (label : Label) (s : Session) → w.port.session ≡ Some s → label_at w.port n ≡ Some label → at label_number n s.labels ≡ Some label
  in_labels w n label s is found = sym (ap (λ (o : Option Session). at label_number n (option_map_or (λ (x : Session). x.labels) o [])) is) ∙ found

  pub label_g : (w : Work) (before after : Label) → label_at w.port after.number ≡ Some before → after.flow ≡ before.flow → (serves before.state ≡ true → serves after.state ≡ true)
      → G w → G (with_label w after)
  label_g w before after found same keeps h = session_g w (λ s. record s { labels = put label_number after s.labels }) each h
    where
      each : (s : Session) → w.port.session ≡ Some s → Good s → Good (record s { labels = put label_number after s.labels })
      each s is (inl serve) = inl (put_serves flow before after s.labels (in_labels w after.number before s is found) same keeps serve)
      each s is (inr q) = inr q

  spare_g : (w : Work) (label : Label) → label_at w.port label.number ≡ Some label → serves label.state ≡ false → G w → G (without_label w label.number)
  spare_g w label found idle h = session_g w (λ s. record s { labels = without label_number label.number s.labels }) each h
    where
      each : (s : Session) → w.port.session ≡ Some s → Good s → Good (record s { labels = without label_number label.number s.labels })
      each s is (inl serve) = inl (without_serves flow label s.labels (in_labels w label.number label s is found) idle serve)
      each s is (inr q) = inr q

  -- *What is said*
  number_g : (w : Work) (n : ℕ) → G w → G (with_number n w)
  number_g w n h = session_g w (λ s. record s { number = n }) (λ s is g. g) h

  pub tells_g : (w : Work) (message : Unnumbered) → G w → G (tells w message)
  tells_g w message h = by w.port.session
    where
      by : (o : Option Session) → G (tells_in w message o)
      by None = h
      by (Some s) =
          let said : Action = Say (message (own_instance w.port.adjacency) (peer_instance w.port.adjacency) s.number) in
          on_both G (nat_lt s.number last_number) (with_action (with_number (s.number + 1) w) said) (with_number spent_number w)
          (acts_g (with_number (s.number + 1) w) said (number_g w (s.number + 1) h)) (number_g w spent_number h)

  pub closes_g : (w : Work) → G w → G (halts_if_spent w)
  closes_g w h = on_both G (is_spent w.port.session) (halts w) w (halts_g w h) h

  pub says_g : (w : Work) (message : Unnumbered) → G w → G (says w message)
  says_g w message h = closes_g (tells w message) (tells_g w message h)

  -- *A label that is found* by a number
  pub own_found : (w : Work) (number : ℕ) (label : Label) → label_at w.port number ≡ Some label → label_at w.port label.number ≡ Some label
  own_found w number label found = ap (λ n. label_at w.port n) (at_key label_number number (labels_of w.port) label found) ∙ found

  pub used_g : (w : Work) (number : ℕ) → G w → G (used w number)
  used_g w number h = by (label_at w.port number) refl
    where
      by : (o : Option Label) → label_at w.port number ≡ o → G (used_label w o)
      by None found = h
      by (Some label) found = label_g w label (record label { idle = 0 }) (own_found w number label found) refl (λ s. s) h

  pub parted_g : (w : Work) (number : ℕ) → G w → G (parted w number)
  parted_g w number h = by (label_at w.port number) refl
    where
      by : (o : Option Label) → label_at w.port number ≡ o → G (joins_label w None o)
      by None found = h
      by (Some label) found = label_g w label (record label { join = None }) (own_found w number label found) refl (λ s. s) h

  pub given_back_g : (w : Work) (grant : Grant) → G w → G (given_back w grant)
  given_back_g w grant h = by grant.state
    where
      ends : (owed : Bool) → G (ended w grant owed)
      ends true = tells_g (without_grant w grant.label) (reclaim_ack (label_channel_of grant.label) grant.flow) (gone_g w grant.label h)
      ends false = gone_g w grant.label h

      by : (state : GrantState) → G (given_back_in w grant state)
      by Idle = h
      by ByController = h
      by (ByInput input) = grant_g w (record grant { state = ByController }) h
      by (Leaving input owed) = ends owed

  -- *A success of the switch*
  module _ (setup : Setup) (w : Work) (h : G w) where
    starts_g : (o : Option Grant) → G (started w o)
    starts_g None = h
    starts_g (Some grant) = by grant.state
      where
        by : (state : GrantState) → G (started_in w grant state)
        by Idle = grant_g w (record grant { state = ByController }) h
        by ByController = h
        by (ByInput input) = h
        by (Leaving input owed) = h

    binds_g : (label : Label) → label_at w.port label.number ≡ Some label → G (bound_in setup w label label.state)
    binds_g label found = by label.state
      where
        offered : Label
        offered = record label { state = Offered }

        by : (state : LabelState) → G (bound_in setup w label state)
        by Wiring = says_g (with_action (with_label w offered) (Note (Bind setup.node setup.port label.number label.flow))) (redirect setup label)
            (acts_g (with_label w offered) (Note (Bind setup.node setup.port label.number label.flow)) (label_g w label offered found refl (λ s. refl) h))
        by Offered = h
        by (Recalled last acknowledged) = h
        by Wired = h

    frees_g : (label : Label) → label_at w.port label.number ≡ Some label → G (freed_in setup w label label.state)
    frees_g label found = by label.state refl
      where
        by : (state : LabelState) → label.state ≡ state → G (freed_in setup w label state)
        by Wiring is = h
        by Offered is = h
        by (Recalled last acknowledged) is = h
        by Wired is = acts_g (without_label w label.number) (Note (Free setup.node setup.port label.number)) (spare_g w label found (ap serves is) h)

    -- of the label that a channel names
    module _ (f : Option Label → Work) (none : G (f None)) (some : (label : Label) → label_at w.port label.number ≡ Some label → G (f (Some label))) where
      pub named_g : (number : Option ℕ) → G (f (label_by w.port number))
      named_g None = none
      named_g (Some number) = by (label_at w.port number) refl
        where
          by : (o : Option Label) → label_at w.port number ≡ o → G (f o)
          by None found = none
          by (Some label) found = some label (own_found w number label found)

    pub done_g : (request : Request) → G (done setup w request)
    done_g (AddBranch input output) = on_both G (input.port.0 == 0) (started w (grant_on w.port.grants (label_number_of output.channel))) (bound setup w (label_by w.port (label_number_of input.channel)))
        (starts_g (grant_on w.port.grants (label_number_of output.channel))) (named_g (bound setup w) h binds_g (label_number_of input.channel))
    done_g (MoveBranch input from to) = on_both G (to.port.0 == 0) w (with_action w joined_now) h (acts_g w joined_now h)
      where
        joined_now : Action
        joined_now = Note (Join setup.node setup.port (number_of_channel input.channel) to.port (number_of_channel to.channel))
    done_g (DeleteTree input) = named_g (freed setup w) h frees_g (label_number_of input.channel)
    done_g (VerifyTree input) = h
    done_g (DeleteAll port) = h
    done_g (PortManagement port function) = h
    done_g AllPorts = h
