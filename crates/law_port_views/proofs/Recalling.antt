-- at the end that hands the label out: redirection messages of the other end are heard

use Rattle.std.proofs.Common.{◌≡◌, ◌≢◌, ℕ, ◌≤◌, Bool, true, false, List, [], ◌∷◌, ◌++◌, Option, None, Some, refl, sym, ◌∙◌, ap, subst, arith, if◌then◌else◌}
use Rattle.std.specs.Prelude.{◌+◌, nat_eq, nat_lt}
use Rattle.std.specs.Option.{option_map, option_map_or}
use Rattle.std.proofs.lemmas.Bool.Decides.{nat_tests}
use Rattle.law_port_facts.specs.port_model.Words.{Addr, Instance, Channel, label_channel_of, label_number_of, number_of_channel, is_label_channel, is_label_number, FlowId, same_flow, Redirect, Reclaim, AddBranch, Desk, at, Setup, label_end, control_end, label_number, Grant, GrantState, Idle, ByController, ByInput, Leaving, grant_on, Acceptance, New, Refreshed, IsLeaving, GrantsFull, acceptance, Session, Work, halts, with_session, with_grants, with_grant, without_grant, label_at, has_room, Unnumbered, last_number, tells_in, tells, is_spent, halts_if_spent, label_range, error, reclaim_ack, takes, expects, accepts, grants_label, reclaimed_in, reclaimed, hears}
use Rattle.law_port_facts.proofs.port_model.net_types.Labels.{number_of_channel-label_channel_of}
use Rattle.law_port_facts.specs.port_model.ifmp_wire.declared.message.Message.{Message}
use Rattle.law_port_facts.proofs.Keyed.{on_both, on_each}
use Rattle.law_label_line.specs.Cells as lines
use Rattle.law_label_line.specs.Cells.{Role, Downstream, Upstream, Cell}
use Rattle.law_label_line.specs.Line.{Line}
use Rattle.law_port_facts.specs.port_model.declared.action.Action.{Action}
use Rattle.law_port_facts.specs.port_model.declared.action.Action.TheVariants.{Ask, TakeBack}
use Rattle.law_port_facts.specs.port_model.Grants.{OutOfRange, Taken}
use Rattle.law_port_facts.specs.port_model.Port.{with_action}
use Rattle.law_port_facts.specs.port_model.Saying.{says}
use Rattle.law_port_facts.specs.port_model.Redirection.{redirected}
use Rattle.law_port_views.specs.Link.{LinkLabel}
use Rattle.law_port_views.specs.Heard.{heard_by, names, IsSaid}
use Rattle.law_port_views.specs.Shown.{Shown}
use Rattle.law_port_views.specs.Reaching.{Reaches, Leads, Comes, unheard}
use Rattle.law_port_views.proofs.Reach.{stays, leads_on, leads_if}
use Rattle.law_port_views.proofs.Says.{acts_quiet}
use Rattle.law_port_views.proofs.Live.{idle_says}
use Rattle.law_port_views.proofs.Tells.{says_other}
use Rattle.law_port_views.proofs.Grants.{grants_down}
use Rattle.law_port_views.proofs.Taken.{expects_down}

-- *Numbers aren't spent*, but where the port is to be reset
abbrev pub HasRoom : Work → Type 0
HasRoom w = w.halted ≡ false → is_spent w.port.session ≡ false

pub room_says : (w : Work) (message : Unnumbered) → HasRoom (says w message)
room_says w message = on_each HasRoom (is_spent (tells w message).port.session) (halts (tells w message)) (tells w message) (λ t live. absurd (cc live)) (λ f live. f)

pub room_session : (w : Work) (change : Session → Session) → ((z : Session) → (change z).number ≡ z.number) → HasRoom w → HasRoom (with_session w change)
room_session w change keeps room = on_each HasRoom w.halted w (record w { port = record w.port { session = option_map change w.port.session } })
    (λ t. room) (λ f live. same w.port.session ∙ room f)
  where
    same : (o : Option Session) → is_spent (option_map change o) ≡ is_spent o
    same None = refl
    same (Some s) = ap (nat_lt last_number) (keeps s)

pub room_acts : (w : Work) (action : Action) → HasRoom w → HasRoom (with_action w action)
room_acts w action room = on_both HasRoom w.halted w (record w { actions = w.actions ++ action ∷ [] }) room room

pub room_grants : (w : Work) (grants : List Grant) → HasRoom w → HasRoom (with_grants w grants)
room_grants w grants room = on_both HasRoom w.halted w (record w { port = record w.port { grants = grants } }) room room

pub room_expects : (w : Work) (number : ℕ) → HasRoom w → HasRoom (expects w number)
room_expects w number room = room_session w (λ s. record s { expected = number + 1 }) (λ z. refl) room

room_below : (n : ℕ) → nat_lt last_number n ≡ false → n ≤ last_number
room_below n e = grind (arith, nat_tests, e)

pub session_room : (o : Option Session) (s : Session) → o ≡ Some s → is_spent o ≡ false → s.number ≤ last_number
session_room o s opened e = room_below s.number (ap is_spent (sym opened) ∙ e)

-- *A label's channel* names the label alone
pub names_own : (label number : ℕ) → is_label_number label ≡ true → number ≡ label → names label (label_channel_of number) ≡ true
names_own label number in_range e =
    ap (λ (n : ℕ). names label (label_channel_of n)) e
    ∙ (ap (λ (b : Bool). option_map_or (λ (n : ℕ). nat_eq n label) (if b then Some (number_of_channel (label_channel_of label)) else None) false) in_range
    ∙ same (number_of_channel (label_channel_of label)) (number_of_channel-label_channel_of label))
  where
    same : (n : ℕ) → n ≡ label → nat_eq n label ≡ true
    same n e = grind (arith, nat_tests, e)

pub names_other : (label number : ℕ) → number ≢ label → names label (label_channel_of number) ≡ false
names_other label number apart = by (is_label_channel (label_channel_of number))
  where
    other : (n : ℕ) → n ≡ number → nat_eq n label ≡ false
    other n e = grind (arith, nat_tests, e, apart)

    by : (b : Bool) → option_map_or (λ (n : ℕ). nat_eq n label) (if b then Some (number_of_channel (label_channel_of number)) else None) false ≡ false
    by true = other (number_of_channel (label_channel_of number)) (number_of_channel-label_channel_of number)
    by false = refl

-- *A port that expects the next number* has the same labels
abbrev expecting : ℕ → Session → Session
expecting number s = record s { expected = number + 1 }

pub expects_label : (w : Work) (number n : ℕ) → label_at (expects w number).port n ≡ label_at w.port n
expects_label w number n = on_both (λ (v : Work). label_at v.port n ≡ label_at w.port n) w.halted w
    (record w { port = record w.port { session = option_map (expecting number) w.port.session } }) refl (same w.port.session)
  where
    same : (o : Option Session) → at label_number n (option_map_or (λ (z : Session). z.labels) (option_map (expecting number) o) [])
        ≡ at label_number n (option_map_or (λ (z : Session). z.labels) o [])
    same None = refl
    same (Some s) = refl

module _ (link : LinkLabel) (like : Type 0) (queued : List Cell) where
  pub still : (v w : Work) → ((line : Line) → Shown Downstream link like queued v line → Shown Downstream link like queued w line) → Leads Downstream link like queued v w
  still v w f line h = stays Downstream link like queued w line (f line h)

  pub self : (w : Work) → Leads Downstream link like queued w w
  self w line h = stays Downstream link like queued w line h

  -- *What it says* that isn't of the label
  none_says : (w : Work) (message : Unnumbered) → w.port.session ≡ None → says w message ≡ w
  none_says w message e = ap halts_if_spent (ap (tells_in w message) e) ∙ ap (λ (o : Option Session). if is_spent o then halts w else w) e

  tells_in_session : (w : Work) (message : Unnumbered) (o : Option Session) → w.halted ≡ false → w.port.session ≡ o → is_spent w.port.session ≡ false
      → ((own peer : Instance) (n : ℕ) → heard_by Downstream link.label (message own peer n) ≡ Some (lines.Other own.0 peer.0 n))
      → IsSaid (link.address Upstream) message → Leads Downstream link like queued w (says w message)
  tells_in_session w message None live opened room e own = λ line h. subst (λ (v : Work). Reaches Downstream link like queued v line) (sym (none_says w message opened)) (self w line h)
  tells_in_session w message (Some s) live opened room e own = λ line h. says_other link like queued w s message line live opened (session_room w.port.session s opened room) e own h

  tells_in_state : (w : Work) (message : Unnumbered) (b : Bool) → w.halted ≡ b → HasRoom w
      → ((own peer : Instance) (n : ℕ) → heard_by Downstream link.label (message own peer n) ≡ Some (lines.Other own.0 peer.0 n))
      → IsSaid (link.address Upstream) message → Leads Downstream link like queued w (says w message)
  tells_in_state w message true halted room e own = λ line h. subst (λ (v : Work). Reaches Downstream link like queued v line) (sym (idle_says w message halted)) (self w line h)
  tells_in_state w message false live room e own = tells_in_session w message w.port.session live refl (room live) e own

  pub tells_others : (w : Work) (message : Unnumbered) → HasRoom w
      → ((own peer : Instance) (n : ℕ) → heard_by Downstream link.label (message own peer n) ≡ Some (lines.Other own.0 peer.0 n))
      → IsSaid (link.address Upstream) message → Leads Downstream link like queued w (says w message)
  tells_others w message room e own = tells_in_state w message w.halted refl room e own

  refuses : (w : Work) (code : ℕ) (channel : Channel) → HasRoom w → Leads Downstream link like queued w (says w (error code channel))
  refuses w code channel room = tells_others w (error code channel) room (λ own peer n. refl) (λ own peer n e. e)

  pub ranges : (setup : Setup) (w : Work) → HasRoom w → Leads Downstream link like queued w (says w (label_range setup))
  ranges setup w room = tells_others w (label_range setup) room (λ own peer n. refl) (λ own peer n e. e)

  acks : (w : Work) (channel : Channel) (flow : FlowId) → HasRoom w → Leads Downstream link like queued w (says w (reclaim_ack channel flow))
  acks w channel flow room = tells_others w (reclaim_ack channel flow) room (λ own peer n. refl) (λ own peer n e. e)

  -- *Grants* of its port
  accepted_down : (w : Work) (line : Line) → Shown Downstream link like queued w line → Shown Downstream link like queued (accepts w) line
  accepted_down w line h = record {
    side = h.side;
    session = h.session;
    label = h.label;
    flow = h.flow;
    number = h.number;
    unspent = h.unspent;
    known = h.known;
    reassembled = h.reassembled;
    drawn = h.drawn;
    own = h.own;
    sent = h.sent;
  }

  redirected_down : (setup : Setup) (desk : Desk) (w : Work) (channel : Channel) (flow : FlowId) (lifetime : ℕ) (a : Acceptance) → HasRoom w
      → Leads Downstream link like queued w (redirected setup desk w channel flow lifetime a)
  redirected_down setup desk w channel flow lifetime (New label) room =
      let v : Work = with_grants (accepts w) (w.port.grants ++ record { label = label; flow = flow; lifetime = lifetime; state = Idle } ∷ []) in
      leads_if Downstream link like queued w (grants_label setup w label flow lifetime) w (has_room desk w)
      (λ t. still w (grants_label setup w label flow lifetime) (λ line h. acts_quiet link like queued Downstream v (Ask (AddBranch (control_end setup.port label) (label_end setup.port label)) false) line
      (record { none = refl; own = tt })
      (grants_down link like queued (accepts w) (w.port.grants ++ record { label = label; flow = flow; lifetime = lifetime; state = Idle } ∷ []) line (accepted_down w line h))))
      (λ f. self w)
  redirected_down setup desk w channel flow lifetime (Refreshed grant) room = still w (with_grant (accepts w) (record grant { lifetime = lifetime }))
      (λ line h. grants_down link like queued (accepts w) _ line (accepted_down w line h))
  redirected_down setup desk w channel flow lifetime OutOfRange room = ranges setup w room
  redirected_down setup desk w channel flow lifetime Taken room = refuses w 1 channel room
  redirected_down setup desk w channel flow lifetime IsLeaving room = refuses w 2 channel room
  redirected_down setup desk w channel flow lifetime GrantsFull room = refuses w 3 channel room

  ended_down : (w : Work) (channel : Channel) (flow : FlowId) (k : ℕ) → HasRoom w → Leads Downstream link like queued w (says (without_grant w k) (reclaim_ack channel flow))
  ended_down w channel flow k room = leads_on Downstream link like queued w (without_grant w k) (says (without_grant w k) (reclaim_ack channel flow))
      (still w (without_grant w k) (λ line h. grants_down link like queued w _ line h)) (acks (without_grant w k) channel flow (room_grants w _ room))

  reclaimed_state : (setup : Setup) (w : Work) (channel : Channel) (grant : Grant) (state : GrantState) → HasRoom w
      → Leads Downstream link like queued w (reclaimed_in setup w channel grant state)
  reclaimed_state setup w channel grant Idle room = ended_down w channel grant.flow grant.label room
  reclaimed_state setup w channel grant ByController room = ended_down w channel grant.flow grant.label room
  reclaimed_state setup w channel grant (ByInput input) room =
      let v : Work = with_grant w (record grant { state = Leaving input true }) in
      still w (reclaimed_in setup w channel grant (ByInput input)) (λ line h. acts_quiet link like queued Downstream v (TakeBack input (label_end setup.port grant.label)) line
      (record { none = refl; own = tt }) (grants_down link like queued w _ line h))
  reclaimed_state setup w channel grant (Leaving input owed) room = still w (reclaimed_in setup w channel grant (Leaving input owed))
      (λ line h. grants_down link like queued w _ line h)

  reclaimed_down : (setup : Setup) (w : Work) (channel : Channel) (flow : FlowId) (o : Option Grant) → HasRoom w → Leads Downstream link like queued w (reclaimed setup w channel flow o)
  reclaimed_down setup w channel flow None room = acks w channel flow room
  reclaimed_down setup w channel flow (Some grant) room = leads_if Downstream link like queued w (reclaimed_in setup w channel grant grant.state) (says w (error 4 channel)) (same_flow grant.flow flow)
      (λ t. reclaimed_state setup w channel grant grant.state room) (λ f. refuses w 4 channel room)

  -- *It is lost* in the line where nothing of the label changes by it
  pub unheard_by : (w v : Work) (message : Message) (source : Addr) (sender peer : Instance) (number : ℕ) (line : Line)
      → Leads Downstream link like queued (expects w number) v → Shown Downstream link like queued w line
      → Comes Downstream link like queued (if takes w.port source sender peer number then v else w) message line
  unheard_by w v message source sender peer number line f h =
      on_both (λ (z : Work). Comes Downstream link like queued z message line) (takes w.port source sender peer number) v w
      (unheard (f line (expects_down link like queued w number line h))) (unheard (self w line h))

  pub redirect_down : (setup : Setup) (desk : Desk) (w : Work) (source : Addr) (sender peer : Instance) (number lifetime : ℕ) (channel : Channel) (flow : FlowId) (line : Line)
      → HasRoom w → Shown Downstream link like queued w line
      → Comes Downstream link like queued (hears setup desk w source (Redirect sender peer number lifetime channel flow)) (Redirect sender peer number lifetime channel flow) line
  redirect_down setup desk w source sender peer number lifetime channel flow line room h =
      unheard_by w (redirected setup desk (expects w number) channel flow lifetime (acceptance setup w.port.grants channel flow)) (Redirect sender peer number lifetime channel flow)
      source sender peer number line
      (redirected_down setup desk (expects w number) channel flow lifetime (acceptance setup w.port.grants channel flow) (room_expects w number room)) h

  pub reclaim_down : (setup : Setup) (desk : Desk) (w : Work) (source : Addr) (sender peer : Instance) (number : ℕ) (channel : Channel) (flow : FlowId) (line : Line)
      → HasRoom w → Shown Downstream link like queued w line
      → Comes Downstream link like queued (hears setup desk w source (Reclaim sender peer number channel flow)) (Reclaim sender peer number channel flow) line
  reclaim_down setup desk w source sender peer number channel flow line room h =
      unheard_by w (reclaimed setup (expects w number) channel flow (grant_on w.port.grants (label_number_of channel))) (Reclaim sender peer number channel flow)
      source sender peer number line
      (reclaimed_down setup (expects w number) channel flow (grant_on w.port.grants (label_number_of channel)) (room_expects w number room)) h
