-- at the end that may send under the label: a redirection message that isn't of the label is heard, and changes but
-- the number that is expected

use Rattle.std.proofs.Common.{◌≡◌, ◌≢◌, ℕ, Bool, true, false, List, [], ◌∷◌, ◌++◌, length, Option, None, Some, refl, sym, ◌∙◌, ap, subst, arith, map, if◌then◌else◌}
use Rattle.std.specs.Prelude.{◌==◌, is_some, not, nat_eq, nat_lt, min}
use Rattle.std.specs.Option.{option_map_or}
use Rattle.std.proofs.lemmas.Bool.Decides.{nat_tests}
use Rattle.law_port_facts.specs.port_model.Words.{Addr, Instance, Channel, End, label_number_of, FlowId, same_flow, Redirect, Reclaim, ReclaimAck, LabelRange, Error, AddBranch, Desk, at, Setup, label_end, control_end, is_in_range, Label, LabelState, Wiring, Offered, Recalled, Wired, label_number, Grant, GrantState, Idle, ByController, ByInput, Leaving, grant_label, grant_on, is_leaving, Acceptance, New, Refreshed, IsLeaving, GrantsFull, most_grants, acceptance_beside, acceptance_of, acceptance, Session, Work, with_session, with_label, with_grants, with_grant, without_grant, label_at, labels_of, has_room, Unnumbered, last_number, label_range, error, reclaim, reclaim_ack, quits, takes, expects, accepts, grants_label, reclaims_in, unjoins, recalls, recalls_in, recalls_offered, reclaimed_in, reclaimed, acknowledged_in, acknowledged, narrowed, is_outside, recalls_outside, ranged, error_comes, label_by, hears}
use Rattle.law_port_facts.specs.port_model.ifmp_wire.declared.message.Message.{Message}
use Rattle.law_port_facts.proofs.Keyed.{on_both, on_each, at_key}
use Rattle.law_label_line.specs.Cells as lines
use Rattle.law_label_line.specs.Cells.{Role, Downstream, Upstream, Cell}
use Rattle.law_label_line.specs.Line.{Line}
use Rattle.law_label_line.specs.Upstream as up
use Rattle.law_port_facts.specs.port_model.declared.action.Action.TheVariants.{Ask, TakeBack}
use Rattle.law_port_facts.specs.port_model.Grants.{OutOfRange, Taken}
use Rattle.law_port_facts.specs.port_model.Port.{with_action}
use Rattle.law_port_facts.specs.port_model.Saying.{says}
use Rattle.law_port_facts.specs.port_model.Redirection.{redirected}
use Rattle.law_port_views.specs.Link.{LinkLabel}
use Rattle.law_port_views.specs.Flows.{flow_number}
use Rattle.law_port_views.specs.Heard.{heard_by, names, IsSaid}
use Rattle.law_port_views.specs.Shown.{Shown}
use Rattle.law_port_views.specs.Reaching.{ReachesFrom, Leads, Comes, heard, unheard, hears_at}
use Rattle.law_port_views.proofs.Reach.{stays, aside, leads_on, leads_if, leads_fold}
use Rattle.law_port_views.proofs.Says.{acts_quiet}
use Rattle.law_port_views.proofs.Tells.{session_minded, says_unheard}
use Rattle.law_port_views.proofs.Labels.{label_up}
use Rattle.law_port_views.proofs.Grants.{other_grant, other_granted, other_ended}
use Rattle.law_port_views.proofs.Learns.{quits_lead}
use Rattle.law_port_views.proofs.Taken.{taken_open, taken_up, expects_up}

module _ (link : LinkLabel) (like : Type 0) (queued : List Cell) where
  -- it shows the line still
  still : (v w : Work) → ((line : Line) → Shown Upstream link like queued v line → Shown Upstream link like queued w line) → Leads Upstream link like queued v w
  still v w f line h = stays Upstream link like queued w line (f line h)

  -- *What it says* that isn't of the label
  pub tells_still : (w : Work) (message : Unnumbered) → ((own peer : Instance) (n : ℕ) → heard_by Upstream link.label (message own peer n) ≡ None)
      → IsSaid (link.address Downstream) message → Leads Upstream link like queued w (says w message)
  tells_still w message e own = still w (says w message) (λ line h. says_unheard link like queued w message line e own h)

  pub refuses : (w : Work) (code : ℕ) (channel : Channel) → Leads Upstream link like queued w (says w (error code channel))
  refuses w code channel = tells_still w (error code channel) (λ own peer n. refl) (λ own peer n e. e)

  pub ranges : (setup : Setup) (w : Work) → Leads Upstream link like queued w (says w (label_range setup))
  ranges setup w = tells_still w (label_range setup) (λ own peer n. refl) (λ own peer n e. e)

  -- *Labels of its port*
  pub reclaims_up : (w : Work) (x : Label) (o : Option Session) → Leads Upstream link like queued w (reclaims_in w x o)
  reclaims_up w x None = still w w (λ line h. h)
  reclaims_up w x (Some s) =
      let v : Work = with_label w (record x { state = Recalled (min last_number s.number) false }) in
      leads_on Upstream link like queued w v (says v (reclaim x))
      (still w v (λ line h. label_up link like queued w (record x { state = Recalled (min last_number s.number) false }) line h))
      (tells_still v (reclaim x) (λ own peer n. refl) (λ own peer n e. e))

  pub unjoins_up : (setup : Setup) (w : Work) (number : ℕ) (o : Option End) → Leads Upstream link like queued w (unjoins setup w number o)
  unjoins_up setup w number None = still w w (λ line h. h)
  unjoins_up setup w number (Some output) = still w (with_action w (TakeBack (label_end setup.port number) output))
      (λ line h. acts_quiet link like queued Upstream w (TakeBack (label_end setup.port number) output) line (record { none = refl; own = tt }) h)

  recalls_state : (setup : Setup) (w : Work) (x : Label) (state : LabelState) → Leads Upstream link like queued w (recalls_in setup w x state)
  recalls_state setup w x Wiring = still w w (λ line h. h)
  recalls_state setup w x Offered = leads_on Upstream link like queued w (reclaims_in w x w.port.session) (recalls setup w x)
      (reclaims_up w x w.port.session) (unjoins_up setup (reclaims_in w x w.port.session) x.number x.join)
  recalls_state setup w x (Recalled last acknowledged) = still w w (λ line h. h)
  recalls_state setup w x Wired = still w w (λ line h. h)

  recalls_up : (setup : Setup) (w : Work) (o : Option Label) → Leads Upstream link like queued w (recalls_offered setup w o)
  recalls_up setup w None = still w w (λ line h. h)
  recalls_up setup w (Some x) = recalls_state setup w x x.state

  outside_up : (setup : Setup) (w : Work) (number : ℕ) → Leads Upstream link like queued w (recalls_outside setup w number)
  outside_up setup w number = leads_if Upstream link like queued w (recalls_offered setup w (label_at w.port number)) w (is_outside w.port.session number)
      (λ t. recalls_up setup w (label_at w.port number)) (λ f. still w w (λ line h. h))

  ranged_up : (setup : Setup) (w : Work) (least greatest : Channel) → Leads Upstream link like queued w (ranged setup w least greatest)
  ranged_up setup w least greatest =
      let v : Work = with_session w (narrowed least greatest) in
      leads_on Upstream link like queued w v (ranged setup w least greatest)
      (still w v (λ line h. session_minded link like queued w (narrowed least greatest) line (λ z. refl) h))
      (leads_fold Upstream link like queued (recalls_outside setup) (outside_up setup) (map label_number (labels_of v.port)) v)

  error_up : (setup : Setup) (w : Work) (code : ℕ) (o : Option Label) → Leads Upstream link like queued w (error_comes setup w code o)
  error_up setup w code o = leads_if Upstream link like queued w w (recalls_offered setup w o) (code == 2) (λ t. still w w (λ line h. h)) (λ f. recalls_up setup w o)

  acknowledged_state : (setup : Setup) (desk : Desk) (w : Work) (x : Label) (state : LabelState) → Leads Upstream link like queued w (acknowledged_in setup desk w x state)
  acknowledged_state setup desk w x Wiring = still w w (λ line h. h)
  acknowledged_state setup desk w x Offered = still w w (λ line h. h)
  acknowledged_state setup desk w x (Recalled last acknowledged) =
      let v : Work = with_label w (record x { state = Recalled last true }) in
      leads_on Upstream link like queued w v (quits setup desk v x.number)
      (still w v (λ line h. label_up link like queued w (record x { state = Recalled last true }) line h)) (quits_lead link like queued Upstream setup desk v x.number)
  acknowledged_state setup desk w x Wired = still w w (λ line h. h)

  acknowledged_up : (setup : Setup) (desk : Desk) (w : Work) (flow : FlowId) (o : Option Label) → Leads Upstream link like queued w (acknowledged setup desk w flow o)
  acknowledged_up setup desk w flow None = still w w (λ line h. h)
  acknowledged_up setup desk w flow (Some x) = leads_if Upstream link like queued w (acknowledged_in setup desk w x x.state) w (same_flow x.flow flow)
      (λ t. acknowledged_state setup desk w x x.state) (λ f. still w w (λ line h. h))

  -- *Grants of other labels*
  pub accepted : (w : Work) (line : Line) → Shown Upstream link like queued w line → Shown Upstream link like queued (accepts w) line
  accepted w line h = record {
    side = h.side;
    session = h.session;
    grant = h.grant;
    once = h.once;
    lent = h.lent;
    expected = h.expected;
    drawn = h.drawn;
    own = h.own;
    sent = h.sent;
  }

  abbrev Away : Acceptance → Type 0
  Away (New label) = label ≢ link.label
  Away (Refreshed grant) = grant.label ≢ link.label
  Away refused = Unit {0}

  beside_away : (grants : List Grant) (k : ℕ) (flow : FlowId) (o : Option Grant) → k ≢ link.label → at grant_label k grants ≡ o → Away (acceptance_beside grants k flow o)
  beside_away grants k flow None n e = on_both Away (nat_lt (length grants) most_grants) (New k) GrantsFull n tt
  beside_away grants k flow (Some grant) n e = on_both Away (not (same_flow grant.flow flow)) Taken (if is_leaving grant.state then IsLeaving else Refreshed grant) tt
      (on_both Away (is_leaving grant.state) IsLeaving (Refreshed grant) tt (λ (same : grant.label ≡ link.label). n (sym (at_key grant_label k grants grant e) ∙ same)))

  apart : (k : ℕ) → nat_eq k link.label ≡ false → k ≢ link.label
  apart k e = grind (arith, nat_tests, e)

  acceptance_away : (setup : Setup) (grants : List Grant) (flow : FlowId) (o : Option ℕ) → option_map_or (λ (k : ℕ). nat_eq k link.label) o false ≡ false
      → Away (acceptance_of setup grants flow o)
  acceptance_away setup grants flow None e = tt
  acceptance_away setup grants flow (Some k) e = on_both Away (is_in_range setup k) (acceptance_beside grants k flow (at grant_label k grants)) OutOfRange
      (beside_away grants k flow (at grant_label k grants) (apart k e) refl) tt

  redirected_away : (setup : Setup) (desk : Desk) (w : Work) (channel : Channel) (flow : FlowId) (lifetime : ℕ) (a : Acceptance) → Away a
      → Leads Upstream link like queued w (redirected setup desk w channel flow lifetime a)
  redirected_away setup desk w channel flow lifetime (New label) n =
      let x : Grant = record { label = label; flow = flow; lifetime = lifetime; state = Idle } in
      let v : Work = with_grants (accepts w) (w.port.grants ++ x ∷ []) in
      leads_if Upstream link like queued w (grants_label setup w label flow lifetime) w (has_room desk w)
      (λ t. still w (grants_label setup w label flow lifetime) (λ line h. acts_quiet link like queued Upstream v (Ask (AddBranch (control_end setup.port label) (label_end setup.port label)) false) line
      (record { none = refl; own = tt }) (other_granted link like queued (accepts w) x line n (accepted w line h))))
      (λ f. still w w (λ line h. h))
  redirected_away setup desk w channel flow lifetime (Refreshed grant) n = still w (with_grant (accepts w) (record grant { lifetime = lifetime }))
      (λ line h. other_grant link like queued (accepts w) (record grant { lifetime = lifetime }) line n (accepted w line h))
  redirected_away setup desk w channel flow lifetime OutOfRange n = ranges setup w
  redirected_away setup desk w channel flow lifetime Taken n = refuses w 1 channel
  redirected_away setup desk w channel flow lifetime IsLeaving n = refuses w 2 channel
  redirected_away setup desk w channel flow lifetime GrantsFull n = refuses w 3 channel

  acks_away : (w : Work) (channel : Channel) (flow : FlowId) → names link.label channel ≡ false → Leads Upstream link like queued w (says w (reclaim_ack channel flow))
  acks_away w channel flow n = tells_still w (reclaim_ack channel flow)
      (λ own peer k. ap (λ (b : Bool). if b then Some (lines.ReclaimAck own.0 peer.0 (flow_number flow)) else None) n) (λ own peer k e. e)

  reclaimed_away : (setup : Setup) (w : Work) (channel : Channel) (grant : Grant) (state : GrantState) → names link.label channel ≡ false → grant.label ≢ link.label
      → Leads Upstream link like queued w (reclaimed_in setup w channel grant state)
  reclaimed_away setup w channel grant Idle n away = leads_on Upstream link like queued w (without_grant w grant.label) (reclaimed_in setup w channel grant Idle)
      (still w (without_grant w grant.label) (λ line h. other_ended link like queued w grant.label line away h)) (acks_away (without_grant w grant.label) channel grant.flow n)
  reclaimed_away setup w channel grant ByController n away = leads_on Upstream link like queued w (without_grant w grant.label) (reclaimed_in setup w channel grant ByController)
      (still w (without_grant w grant.label) (λ line h. other_ended link like queued w grant.label line away h)) (acks_away (without_grant w grant.label) channel grant.flow n)
  reclaimed_away setup w channel grant (ByInput input) n away =
      let v : Work = with_grant w (record grant { state = Leaving input true }) in
      still w (reclaimed_in setup w channel grant (ByInput input)) (λ line h. acts_quiet link like queued Upstream v (TakeBack input (label_end setup.port grant.label)) line
      (record { none = refl; own = tt }) (other_grant link like queued w (record grant { state = Leaving input true }) line away h))
  reclaimed_away setup w channel grant (Leaving input owed) n away = still w (reclaimed_in setup w channel grant (Leaving input owed))
      (λ line h. other_grant link like queued w (record grant { state = Leaving input true }) line away h)

  reclaims_away : (setup : Setup) (w : Work) (grants : List Grant) (channel : Channel) (flow : FlowId) (k : Option ℕ) (o : Option Grant) → names link.label channel ≡ false
      → option_map_or (λ (j : ℕ). nat_eq j link.label) k false ≡ false → grant_on grants k ≡ o
      → Leads Upstream link like queued w (reclaimed setup w channel flow o)
  reclaims_away setup w grants channel flow k None n away e = acks_away w channel flow n
  reclaims_away setup w grants channel flow None (Some grant) n away e = absurd (cc e)
  reclaims_away setup w grants channel flow (Some k) (Some grant) n away e =
      leads_if Upstream link like queued w (reclaimed_in setup w channel grant grant.state) (says w (error 4 channel)) (same_flow grant.flow flow)
      (λ t. reclaimed_away setup w channel grant grant.state n (λ (same : grant.label ≡ link.label). apart k away (sym (at_key grant_label k grants grant e) ∙ same)))
      (λ f. refuses w 4 channel)

  -- *The message is heard*
  pub heard_said : (v : Work) (message : Message) (line start : Line) (said : lines.Message) (room : Bool) → heard_by Downstream link.label message ≡ Some said
      → hears_at Upstream line said room 0 ≡ start → ReachesFrom Upstream link like queued v start line → Comes Upstream link like queued v message line
  heard_said v message line start said room e is r = heard said room 0 e (subst (λ (z : Line). ReachesFrom Upstream link like queued v z line) (sym is) r)

  heard_in : (w v : Work) (message : Message) (source : Addr) (sender peer : Instance) (number : ℕ) (line : Line) (o : Option Session) → w.halted ≡ false → w.port.session ≡ o
      → takes w.port source sender peer number ≡ true → heard_by Downstream link.label message ≡ Some (lines.Other sender.0 peer.0 number)
      → Leads Upstream link like queued (expects w number) v → Shown Upstream link like queued w line → Comes Upstream link like queued v message line
  heard_in w v message source sender peer number line None live opened t e f h =
      absurd (cc (taken_open link like queued w source sender peer number t, ap (λ (z : Option Session). is_some z) opened))
  heard_in w v message source sender peer number line (Some s) live opened t e f h =
      let start : Line = up.expects line number in
      heard_said v message line start (lines.Other sender.0 peer.0 number) true e
      (ap (λ (b : Bool). if b then start else line) (taken_up link like queued w source sender peer number line t h))
      (aside Upstream link like queued v start start line refl (f start (expects_up link like queued w s number line live opened h)))

  pub heard_other : (w v : Work) (message : Message) (source : Addr) (sender peer : Instance) (number : ℕ) (line : Line) → w.halted ≡ false
      → heard_by Downstream link.label message ≡ Some (lines.Other sender.0 peer.0 number)
      → Leads Upstream link like queued (expects w number) v → Shown Upstream link like queued w line
      → Comes Upstream link like queued (if takes w.port source sender peer number then v else w) message line
  heard_other w v message source sender peer number line live e f h =
      on_each (λ (z : Work). Comes Upstream link like queued z message line) (takes w.port source sender peer number) v w
      (λ t. heard_in w v message source sender peer number line w.port.session live refl t e f h) (λ n. unheard (stays Upstream link like queued w line h))

  -- one that names another label, or none
  other_redirect : (n : Bool) (label a b number f : ℕ) → n ≡ false → ◌≡◌ {A = Option lines.Message} (Some (if n then lines.Redirect a b number f else lines.Other a b number)) (Some (lines.Other a b number))
  other_redirect n label a b number f e = ap (λ (t : Bool). Some (if t then lines.Redirect a b number f else lines.Other a b number)) e

  other_reclaim : (n : Bool) (label a b number f : ℕ) → n ≡ false → ◌≡◌ {A = Option lines.Message} (Some (if n then lines.Reclaim a b number f else lines.Other a b number)) (Some (lines.Other a b number))
  other_reclaim n label a b number f e = ap (λ (t : Bool). Some (if t then lines.Reclaim a b number f else lines.Other a b number)) e

  pub redirect_away : (setup : Setup) (desk : Desk) (w : Work) (source : Addr) (sender peer : Instance) (number lifetime : ℕ) (channel : Channel) (flow : FlowId) (line : Line)
      → w.halted ≡ false → names link.label channel ≡ false → Shown Upstream link like queued w line
      → Comes Upstream link like queued (hears setup desk w source (Redirect sender peer number lifetime channel flow)) (Redirect sender peer number lifetime channel flow) line
  redirect_away setup desk w source sender peer number lifetime channel flow line live n h =
      heard_other w (redirected setup desk (expects w number) channel flow lifetime (acceptance setup w.port.grants channel flow)) (Redirect sender peer number lifetime channel flow)
      source sender peer number line live (other_redirect (names link.label channel) link.label sender.0 peer.0 number (flow_number flow) n)
      (redirected_away setup desk (expects w number) channel flow lifetime (acceptance setup w.port.grants channel flow)
      (acceptance_away setup w.port.grants flow (label_number_of channel) n)) h

  pub reclaim_away : (setup : Setup) (desk : Desk) (w : Work) (source : Addr) (sender peer : Instance) (number : ℕ) (channel : Channel) (flow : FlowId) (line : Line)
      → w.halted ≡ false → names link.label channel ≡ false → Shown Upstream link like queued w line
      → Comes Upstream link like queued (hears setup desk w source (Reclaim sender peer number channel flow)) (Reclaim sender peer number channel flow) line
  reclaim_away setup desk w source sender peer number channel flow line live n h =
      heard_other w (reclaimed setup (expects w number) channel flow (grant_on w.port.grants (label_number_of channel))) (Reclaim sender peer number channel flow)
      source sender peer number line live (other_reclaim (names link.label channel) link.label sender.0 peer.0 number (flow_number flow) n)
      (reclaims_away setup (expects w number) w.port.grants channel flow (label_number_of channel) (grant_on w.port.grants (label_number_of channel)) n n refl) h

  pub ack_away : (setup : Setup) (desk : Desk) (w : Work) (source : Addr) (sender peer : Instance) (number : ℕ) (channel : Channel) (flow : FlowId) (line : Line)
      → w.halted ≡ false → Shown Upstream link like queued w line
      → Comes Upstream link like queued (hears setup desk w source (ReclaimAck sender peer number channel flow)) (ReclaimAck sender peer number channel flow) line
  ack_away setup desk w source sender peer number channel flow line live h =
      heard_other w (acknowledged setup desk (expects w number) flow (label_by w.port (label_number_of channel))) (ReclaimAck sender peer number channel flow)
      source sender peer number line live refl (acknowledged_up setup desk (expects w number) flow (label_by w.port (label_number_of channel))) h

  pub range_away : (setup : Setup) (desk : Desk) (w : Work) (source : Addr) (sender peer : Instance) (number : ℕ) (least greatest : Channel) (line : Line)
      → w.halted ≡ false → Shown Upstream link like queued w line
      → Comes Upstream link like queued (hears setup desk w source (LabelRange sender peer number least greatest)) (LabelRange sender peer number least greatest) line
  range_away setup desk w source sender peer number least greatest line live h =
      heard_other w (ranged setup (expects w number) least greatest) (LabelRange sender peer number least greatest)
      source sender peer number line live refl (ranged_up setup (expects w number) least greatest) h

  pub error_away : (setup : Setup) (desk : Desk) (w : Work) (source : Addr) (sender peer : Instance) (number code : ℕ) (channel : Channel) (line : Line)
      → w.halted ≡ false → Shown Upstream link like queued w line
      → Comes Upstream link like queued (hears setup desk w source (Error sender peer number code channel)) (Error sender peer number code channel) line
  error_away setup desk w source sender peer number code channel line live h =
      heard_other w (error_comes setup (expects w number) code (label_by w.port (label_number_of channel))) (Error sender peer number code channel)
      source sender peer number line live refl (error_up setup (expects w number) code (label_by w.port (label_number_of channel))) h
