-- what each rule of a port makes of its grants, where it sets no lifetime of a certain one

use Rattle.std.proofs.Common.{◌≡◌, ℕ, ◌≤◌, Bool, true, false, List, [], ◌∷◌, ◌++◌, length, Option, None, Some, refl, sym, ap, subst, arith, if◌then◌else◌, map, fold}
use Rattle.std.specs.Prelude.{◌-◌, ◌==◌, not, nat_lt}
use Rattle.law_controller.specs.world_model.Words.{Addr, Channel, End, Instance, label_channel_of, label_number_of, is_label_number, FlowId, same_flow, Request, AddBranch, MoveBranch, DeleteTree, VerifyTree, PortManagement, Redirect, Reclaim, ReclaimAck, LabelRange, Error, at, put, without, Desk, empty_desk, most_asked, ticked, Action, TakeBack, Setup, is_in_range, label_end, Grant, GrantState, Idle, ByController, ByInput, Leaving, grant_label, grant_on, is_leaving, most_grants, Acceptance, New, Refreshed, IsLeaving, GrantsFull, acceptance_beside, acceptance_of, acceptance, Session, Work, with_grants, with_grant, without_grant, has_room, Unnumbered, halts_if_spent, reclaim_ack, label_range, error, counts, used, takes, expects, accepts, grants_label, reclaimed_in, reclaimed, acknowledged, ranged, error_comes, label_by, hears, bound, freed, started_in, started, joined_to, lent, given_back_in, given_back, parted, expires, ages_in, ages_found, ages, ticks_session, left_in, left_of, resets, restarts}
use Rattle.law_controller.specs.world_model.gsmp_wire.declared.request.Request.TheVariants.{DeleteAll, AllPorts}
use Rattle.law_controller.specs.world_model.ifmp_wire.declared.message.Message.{Message}
use Rattle.law_controller.specs.world_model.ifmp_wire.declared.message.Message.TheVariants.{Adjacency}
use Rattle.law_controller.specs.ordered_lists.Ordered.{Every}
use Rattle.law_controller.specs.world_model.port_model.Grants.{OutOfRange, Taken}
use Rattle.law_controller.specs.world_model.port_model.Port.{Port, with_action}
use Rattle.law_controller.specs.world_model.port_model.Saying.{says}
use Rattle.law_controller.specs.world_model.port_model.Adjacency.{steps, greeted}
use Rattle.law_controller.specs.world_model.port_model.Redirection.{redirected}
use Rattle.law_controller.specs.world_model.port_model.Answers.{done}
use Rattle.law_controller.specs.world_model.port_model.Joins.{ended, joined}
use Rattle.law_controller.specs.world_model.port_model.Ticks.{ticks}
use Rattle.law_controller.proofs.law_port_facts.Keyed.{on_both, on_each, at_every, put_every, without_every, every_more}
use Rattle.law_controller.proofs.law_port_facts.Rules.{and_first}
use Rattle.law_controller.proofs.law_controller_facts.Joining.{every_flat_map}
use Rattle.law_lifetimes.proofs.Calm.{IsTame, Calm, says_calm, tells_calm, closes_calm, steps_calm, greeted_calm, acknowledged_calm, ranged_calm, error_calm, bound_calm, freed_calm, joined_to_calm, joined_calm, parted_calm, used_calm, counts_keeps, rest_calm}

-- *Acceptance*: a new grant is of a label in range, and one that is refreshed is there
pub accepted_new : (setup : Setup) (grants : List Grant) (flow : FlowId) (o : Option ℕ) (new : ℕ) → acceptance_of setup grants flow o ≡ New new → is_in_range setup new ≡ true
accepted_new setup grants flow None new e = absurd (cc e)
accepted_new setup grants flow (Some label) new e = on_each (λ (a : Acceptance). a ≡ New new → is_in_range setup new ≡ true) (is_in_range setup label) (acceptance_beside grants label flow (at grant_label label grants)) OutOfRange
    (λ inside. beside inside (at grant_label label grants)) (λ outside e. absurd (cc e)) e
  where
    beside : is_in_range setup label ≡ true → (o : Option Grant) → acceptance_beside grants label flow o ≡ New new → is_in_range setup new ≡ true
    beside inside None e = on_each (λ (a : Acceptance). a ≡ New new → is_in_range setup new ≡ true) (nat_lt (length grants) most_grants) (New label) GrantsFull
        (λ few e. (let same : label ≡ new = cc in subst (λ k. is_in_range setup k ≡ true) same inside)) (λ full e. absurd (cc e)) e
    beside inside (Some grant) e = on_each (λ (a : Acceptance). a ≡ New new → is_in_range setup new ≡ true) (not (same_flow grant.flow flow)) Taken (if is_leaving grant.state then IsLeaving else Refreshed grant)
        (λ t e. absurd (cc e)) (λ t. on_each (λ (a : Acceptance). a ≡ New new → is_in_range setup new ≡ true) (is_leaving grant.state) IsLeaving (Refreshed grant) (λ t e. absurd (cc e)) (λ t e. absurd (cc e))) e

pub accepted_again : (P : Grant → Type 0) (setup : Setup) (grants : List Grant) (flow : FlowId) (o : Option ℕ) (old : Grant) → Every P grants → acceptance_of setup grants flow o ≡ Refreshed old → P old
accepted_again P setup grants flow None old all e = absurd (cc e)
accepted_again P setup grants flow (Some label) old all e = on_each (λ (a : Acceptance). a ≡ Refreshed old → P old) (is_in_range setup label) (acceptance_beside grants label flow (at grant_label label grants)) OutOfRange
    (λ inside. beside (at grant_label label grants) refl) (λ outside e. absurd (cc e)) e
  where
    beside : (o : Option Grant) → at grant_label label grants ≡ o → acceptance_beside grants label flow o ≡ Refreshed old → P old
    beside None found e = on_each (λ (a : Acceptance). a ≡ Refreshed old → P old) (nat_lt (length grants) most_grants) (New label) GrantsFull (λ few e. absurd (cc e)) (λ full e. absurd (cc e)) e
    beside (Some grant) found e = on_each (λ (a : Acceptance). a ≡ Refreshed old → P old) (not (same_flow grant.flow flow)) Taken (if is_leaving grant.state then IsLeaving else Refreshed grant)
        (λ t e. absurd (cc e)) (λ t. on_each (λ (a : Acceptance). a ≡ Refreshed old → P old) (is_leaving grant.state) IsLeaving (Refreshed grant) (λ t e. absurd (cc e))
        (λ t e. (let same : grant ≡ old = cc in subst P same (at_every grant_label P label grants grant all found)))) e

pub in_range_label : (setup : Setup) (label : ℕ) → is_in_range setup label ≡ true → is_label_number label ≡ true
in_range_label setup label e = and_first (is_label_number label) _ e

-- *A message* that a port hears sets no lifetime of this grant
pub record Unset (port label q : ℕ) (setup : Setup) (desk : Desk) (p : Port) (source : Addr) (message : Message) : Type 0 where
  pub anew : (sender peer : Instance) (number lifetime : ℕ) (channel : Channel) (flow : FlowId) (new : ℕ) → message ≡ Redirect sender peer number lifetime channel flow
      → takes p source sender peer number ≡ true → nat_lt (length desk.standing) most_asked ≡ true → acceptance setup p.grants channel flow ≡ New new → q ≡ port → new ≡ label → ⊥
  pub again : (sender peer : Instance) (number lifetime : ℕ) (channel : Channel) (flow : FlowId) (grant : Grant) → message ≡ Redirect sender peer number lifetime channel flow
      → takes p source sender peer number ≡ true → acceptance setup p.grants channel flow ≡ Refreshed grant → q ≡ port → grant.label ≡ label → ⊥

-- *What stays of a grant* of a port, but for settings of the lifetime of this one
pub record IsFate (port label : ℕ) (G : ℕ → Grant → Type 0) : Type 0 where
  pub leaves : (q : ℕ) (grant : Grant) (state : GrantState) → is_leaving state ≡ true → G q grant → G q (record grant { state = state })
  pub moves : (q : ℕ) (grant : Grant) (state : GrantState) → is_leaving grant.state ≡ false → G q grant → G q (record grant { state = state })
  pub shortens : (q : ℕ) (grant : Grant) (lifetime : ℕ) → lifetime ≤ grant.lifetime → G q grant → G q (record grant { lifetime = lifetime })
  pub begins : (q : ℕ) (new : ℕ) (flow : FlowId) (lifetime : ℕ) → is_label_number new ≡ true → (q ≡ port → new ≡ label → ⊥)
      → G q (record { label = new; flow = flow; lifetime = lifetime; state = Idle })
  pub renews : (q : ℕ) (grant : Grant) (lifetime : ℕ) → (q ≡ port → grant.label ≡ label → ⊥) → G q grant → G q (record grant { lifetime = lifetime })

-- whatever was asked
abbrev pub AnyActions : List Action → Type 0
AnyActions actions = Unit {0}

pub any_more : (actions : List Action) (action : Action) → IsTame action → AnyActions actions → AnyActions (actions ++ action ∷ [])
any_more actions action tame h = tt

pub calm_now : (w : Work) → Calm w.port.grants AnyActions any_more w
calm_now w = record { same = refl; asked = tt }

module _ (port label : ℕ) (G : ℕ → Grant → Type 0) (fate : IsFate port label G) (q : ℕ) where
  abbrev pub All : Work → Type 0
  All w = Every (G q) w.port.grants

  pub calm_all : (w v : Work) → Calm w.port.grants AnyActions any_more v → All w → All v
  calm_all w v k h = subst (Every (G q)) (sym k.same) h

  with_grants_all : (w : Work) (grants : List Grant) → Every (G q) grants → All w → All (with_grants w grants)
  with_grants_all w grants all h = on_both All w.halted w (record w { port = record w.port { grants = grants } }) h all

  with_grant_all : (w : Work) (grant : Grant) → G q grant → All w → All (with_grant w grant)
  with_grant_all w grant g h = with_grants_all w (put grant_label grant w.port.grants) (put_every grant_label (G q) grant w.port.grants g h) h

  without_all : (w : Work) (number : ℕ) → All w → All (without_grant w number)
  without_all w number h = with_grants_all w (without grant_label number w.port.grants) (without_every grant_label (G q) number w.port.grants h) h

  acts_all : (w : Work) (action : Action) → All w → All (with_action w action)
  acts_all w action h = on_both All w.halted w (record w { actions = w.actions ++ action ∷ [] }) h h

  -- *Answers*
  started_in_all : (w : Work) (grant : Grant) (state : GrantState) → grant.state ≡ state → G q grant → All w → All (started_in w grant state)
  started_in_all w grant Idle is g h = with_grant_all w (record grant { state = ByController }) (fate.moves q grant ByController (ap is_leaving is) g) h
  started_in_all w grant ByController is g h = h
  started_in_all w grant (ByInput input) is g h = h
  started_in_all w grant (Leaving input owed) is g h = h

  started_all : (w : Work) (number : Option ℕ) → All w → All (started w (grant_on w.port.grants number))
  started_all w None h = h
  started_all w (Some number) h = by_found (at grant_label number w.port.grants) refl
    where
      by_found : (o : Option Grant) → at grant_label number w.port.grants ≡ o → All (started w o)
      by_found None found = h
      by_found (Some grant) found = started_in_all w grant grant.state refl (at_every grant_label (G q) number w.port.grants grant h found) h

  -- *Joins*
  pub lent_all : (w : Work) (grant : Grant) (input : End) → is_leaving grant.state ≡ false → G q grant → All w → All (lent w grant input)
  lent_all w grant input live g h = with_grant_all w (record grant { state = ByInput input }) (fate.moves q grant (ByInput input) live g) h

  -- *Lifetimes*
  expires_all : (setup : Setup) (w : Work) (grant : Grant) (state : GrantState) → G q grant → All w → All (expires setup w grant state)
  expires_all setup w grant (ByInput input) g h =
      let gone : Grant = record grant { lifetime = 0; state = Leaving input false } in
      acts_all (with_grant w gone) (TakeBack input (label_end setup.port grant.label))
      (with_grant_all w gone (fate.leaves q (record grant { lifetime = 0 }) (Leaving input false) refl (fate.shortens q grant 0 (omega arith) g)) h)
  expires_all setup w grant Idle g h = without_all w grant.label h
  expires_all setup w grant ByController g h = without_all w grant.label h
  expires_all setup w grant (Leaving input owed) g h = without_all w grant.label h

  shortened_all : (setup : Setup) (w : Work) (grant : Grant) (state : GrantState) → G q grant → All w → All (if grant.lifetime == 1 then expires setup w grant state else with_grant w (record grant { lifetime = grant.lifetime - 1 }))
  shortened_all setup w grant state g h = on_both All (grant.lifetime == 1) (expires setup w grant state) (with_grant w (record grant { lifetime = grant.lifetime - 1 })) (expires_all setup w grant state g h)
      (with_grant_all w (record grant { lifetime = grant.lifetime - 1 }) (fate.shortens q grant (grant.lifetime - 1) (omega arith) g) h)

  ages_in_all : (setup : Setup) (w : Work) (grant : Grant) (state : GrantState) → G q grant → All w → All (ages_in setup w grant state)
  ages_in_all setup w grant (Leaving input owed) g h = h
  ages_in_all setup w grant Idle g h = shortened_all setup w grant Idle g h
  ages_in_all setup w grant ByController g h = shortened_all setup w grant ByController g h
  ages_in_all setup w grant (ByInput input) g h = shortened_all setup w grant (ByInput input) g h

  ages_all : (setup : Setup) (w : Work) (number : ℕ) → All w → All (ages setup w number)
  ages_all setup w number h = by_found (at grant_label number w.port.grants) refl
    where
      by_found : (o : Option Grant) → at grant_label number w.port.grants ≡ o → All (ages_found setup w o)
      by_found None found = h
      by_found (Some grant) found = ages_in_all setup w grant grant.state (at_every grant_label (G q) number w.port.grants grant h found) h

  ages_each : (setup : Setup) (numbers : List ℕ) (w : Work) → All w → All (fold (ages setup) w numbers)
  ages_each setup [] w h = h
  ages_each setup (number ∷ numbers) w h = ages_each setup numbers (ages setup w number) (ages_all setup w number h)

  -- *Tick*
  ticks_session_all : (setup : Setup) (desk : Desk) (w : Work) (o : Option Session) → All w → All (ticks_session setup desk w o)
  ticks_session_all setup desk w None h = h
  ticks_session_all setup desk w (Some s) h =
      let aged : Work = fold (ages setup) w (map grant_label w.port.grants) in
      calm_all aged (ticks_session setup desk w (Some s)) (rest_calm aged.port.grants AnyActions any_more setup desk aged (calm_now aged)) (ages_each setup (map grant_label w.port.grants) w h)

  pub ticks_all : (setup : Setup) (desk : Desk) (w : Work) → All w → All (ticks setup desk w)
  ticks_all setup desk w h =
      let stepped : Work = steps setup w (ticked w.port.adjacency) in
      ticks_session_all setup desk stepped stepped.port.session (calm_all w stepped (steps_calm w.port.grants AnyActions any_more setup w (ticked w.port.adjacency) (calm_now w)) h)

  -- *What an answer causes*
  pub done_all : (setup : Setup) (w : Work) (request : Request) → All w → All (done setup w request)
  done_all setup w (AddBranch input output) h = on_both All (input.port.0 == 0) (started w (grant_on w.port.grants (label_number_of output.channel))) (bound setup w (label_by w.port (label_number_of input.channel)))
      (started_all w (label_number_of output.channel) h)
      (calm_all w (bound setup w (label_by w.port (label_number_of input.channel))) (bound_calm w.port.grants AnyActions any_more setup empty_desk w (label_by w.port (label_number_of input.channel)) (calm_now w)) h)
  done_all setup w (MoveBranch input from to) h = calm_all w (joined_to setup w input to) (joined_to_calm w.port.grants AnyActions any_more setup empty_desk w input to (calm_now w)) h
  done_all setup w (DeleteTree input) h = calm_all w (freed setup w (label_by w.port (label_number_of input.channel))) (freed_calm w.port.grants AnyActions any_more setup empty_desk w (label_by w.port (label_number_of input.channel)) (calm_now w)) h
  done_all setup w (VerifyTree input) h = h
  done_all setup w (DeleteAll port) h = h
  done_all setup w (PortManagement port function) h = h
  done_all setup w AllPorts h = h

  -- *A grant is given back*
  ended_all : (w : Work) (grant : Grant) (owed : Bool) → All w → All (ended w grant owed)
  ended_all w grant true h = (let ends : Work = without_grant w grant.label in
      calm_all ends (ended w grant true) (tells_calm ends.port.grants AnyActions any_more ends (reclaim_ack (label_channel_of grant.label) grant.flow) (calm_now ends)) (without_all w grant.label h))
  ended_all w grant false h = without_all w grant.label h

  given_back_in_all : (w : Work) (grant : Grant) (state : GrantState) → grant.state ≡ state → G q grant → All w → All (given_back_in w grant state)
  given_back_in_all w grant Idle is g h = h
  given_back_in_all w grant ByController is g h = h
  given_back_in_all w grant (ByInput input) is g h = with_grant_all w (record grant { state = ByController }) (fate.moves q grant ByController (ap is_leaving is) g) h
  given_back_in_all w grant (Leaving input owed) is g h = ended_all w grant owed h

  pub given_back_all : (w : Work) (grant : Grant) → G q grant → All w → All (given_back w grant)
  given_back_all w grant g h = given_back_in_all w grant grant.state refl g h

  -- *Counting*, labels in use, joins at the label's port, spent numbers
  pub counts_all : (setup : Setup) (desk : Desk) (w : Work) (packet : List ℕ) → All w → All (counts setup desk w packet)
  counts_all setup desk w packet h = subst (Every (G q)) (sym (counts_keeps w.port.grants AnyActions any_more setup desk w packet refl)) h

  pub used_all : (w : Work) (number : ℕ) → All w → All (used w number)
  used_all w number h = calm_all w (used w number) (used_calm w.port.grants AnyActions any_more w number (calm_now w)) h

  pub joined_all : (w : Work) (number : ℕ) (output : End) → All w → All (joined w number output)
  joined_all w number output h = calm_all w (joined w number output) (joined_calm w.port.grants AnyActions any_more w number output (calm_now w)) h

  pub parted_all : (w : Work) (number : ℕ) → All w → All (parted w number)
  parted_all w number h = calm_all w (parted w number) (parted_calm w.port.grants AnyActions any_more w number (calm_now w)) h

  pub closes_all : (w : Work) → All w → All (halts_if_spent w)
  closes_all w h = calm_all w (halts_if_spent w) (closes_calm w.port.grants AnyActions any_more w (calm_now w)) h

  -- *Resets*
  left_in_all : (grant : Grant) (state : GrantState) → G q grant → Every (G q) (left_in grant state)
  left_in_all grant Idle g = tt
  left_in_all grant ByController g = tt
  left_in_all grant (ByInput input) g = (fate.leaves q grant (Leaving input false) refl g, tt)
  left_in_all grant (Leaving input owed) g = (fate.leaves q grant (Leaving input false) refl g, tt)

  pub resets_all : (setup : Setup) (w : Work) → All w → All (resets setup w)
  resets_all setup w h = every_flat_map (G q) (G q) left_of (λ grant g. left_in_all grant grant.state g) w.port.grants h

  pub restarts_all : (setup : Setup) (w : Work) → All (restarts setup w)
  restarts_all setup w = tt

  -- *Reclaim*
  says_all : (w : Work) (message : Unnumbered) → All w → All (says w message)
  says_all w message h = calm_all w (says w message) (says_calm w.port.grants AnyActions any_more w message (calm_now w)) h

  ends_all : (w : Work) (channel : Channel) (grant : Grant) → All w → All (says (without_grant w grant.label) (reclaim_ack channel grant.flow))
  ends_all w channel grant h = says_all (without_grant w grant.label) (reclaim_ack channel grant.flow) (without_all w grant.label h)

  reclaimed_in_all : (setup : Setup) (w : Work) (channel : Channel) (grant : Grant) (state : GrantState) → G q grant → All w → All (reclaimed_in setup w channel grant state)
  reclaimed_in_all setup w channel grant Idle g h = ends_all w channel grant h
  reclaimed_in_all setup w channel grant ByController g h = ends_all w channel grant h
  reclaimed_in_all setup w channel grant (ByInput input) g h =
      acts_all (with_grant w (record grant { state = Leaving input true })) (TakeBack input (label_end setup.port grant.label)) (with_grant_all w (record grant { state = Leaving input true }) (fate.leaves q grant (Leaving input true) refl g) h)
  reclaimed_in_all setup w channel grant (Leaving input owed) g h = with_grant_all w (record grant { state = Leaving input true }) (fate.leaves q grant (Leaving input true) refl g) h

  reclaimed_all : (setup : Setup) (w : Work) (channel : Channel) (flow : FlowId) (o : Option Grant) → ((grant : Grant) → o ≡ Some grant → G q grant) → All w → All (reclaimed setup w channel flow o)
  reclaimed_all setup w channel flow None there h = says_all w (reclaim_ack channel flow) h
  reclaimed_all setup w channel flow (Some grant) there h = on_both All (same_flow grant.flow flow) (reclaimed_in setup w channel grant grant.state) (says w (error 4 channel))
      (reclaimed_in_all setup w channel grant grant.state (there grant refl) h) (says_all w (error 4 channel) h)

  granted_there : (w : Work) (number : Option ℕ) (grant : Grant) → All w → grant_on w.port.grants number ≡ Some grant → G q grant
  granted_there w None grant h e = absurd (cc e)
  granted_there w (Some number) grant h e = at_every grant_label (G q) number w.port.grants grant h e

  -- a port that begins its work
  abbrev pub begun : Port → (instances : ℕ) → Work
  begun p instances = record { port = p; actions = []; halted = false; instances = instances }

  redirected_all : (setup : Setup) (desk : Desk) (p : Port) (instances number : ℕ) (channel : Channel) (flow : FlowId) (lifetime : ℕ)
      → (nat_lt (length desk.standing) most_asked ≡ true → (new : ℕ) → acceptance setup p.grants channel flow ≡ New new → q ≡ port → new ≡ label → ⊥)
      → ((grant : Grant) → acceptance setup p.grants channel flow ≡ Refreshed grant → q ≡ port → grant.label ≡ label → ⊥)
      → Every (G q) p.grants → (a : Acceptance) → acceptance setup p.grants channel flow ≡ a → All (redirected setup desk (expects (begun p instances) number) channel flow lifetime a)
  redirected_all setup desk p instances number channel flow lifetime anew again h (New new) e =
      let w : Work = expects (begun p instances) number in
      on_each All (has_room desk w) (grants_label setup w new flow lifetime) w
      (λ room. every_more (G q) p.grants (record { label = new; flow = flow; lifetime = lifetime; state = Idle }) h
      (fate.begins q new flow lifetime (in_range_label setup new (accepted_new setup p.grants flow (label_number_of channel) new e)) (λ here is. anew room new e here is))) (λ full. h)
  redirected_all setup desk p instances number channel flow lifetime anew again h (Refreshed grant) e =
      let w : Work = expects (begun p instances) number in
      with_grant_all (accepts w) (record grant { lifetime = lifetime }) (fate.renews q grant lifetime (again grant e) (accepted_again (G q) setup p.grants flow (label_number_of channel) grant h e)) h
  redirected_all setup desk p instances number channel flow lifetime anew again h OutOfRange e = says_all (expects (begun p instances) number) (label_range setup) h
  redirected_all setup desk p instances number channel flow lifetime anew again h Taken e = says_all (expects (begun p instances) number) (error 1 channel) h
  redirected_all setup desk p instances number channel flow lifetime anew again h IsLeaving e = says_all (expects (begun p instances) number) (error 2 channel) h
  redirected_all setup desk p instances number channel flow lifetime anew again h GrantsFull e = says_all (expects (begun p instances) number) (error 3 channel) h

  pub hears_all : (setup : Setup) (desk : Desk) (p : Port) (instances : ℕ) (source : Addr) (message : Message) → Unset port label q setup desk p source message → Every (G q) p.grants
      → All (hears setup desk (begun p instances) source message)
  hears_all setup desk p instances source (Adjacency hello) unset h = (let w : Work = begun p instances in
      calm_all w (greeted setup desk w source hello) (greeted_calm p.grants AnyActions any_more setup desk w source hello (calm_now w)) h)
  hears_all setup desk p instances source (Redirect sender peer number lifetime channel flow) unset h = (let w : Work = begun p instances in
      on_each All (takes p source sender peer number) (redirected setup desk (expects w number) channel flow lifetime (acceptance setup p.grants channel flow)) w
      (λ due. redirected_all setup desk p instances number channel flow lifetime (λ room new e. unset.anew sender peer number lifetime channel flow new refl due room e)
      (λ grant e. unset.again sender peer number lifetime channel flow grant refl due e) h (acceptance setup p.grants channel flow) refl) (λ t. h))
  hears_all setup desk p instances source (Reclaim sender peer number channel flow) unset h = (let w : Work = begun p instances in
      on_both All (takes p source sender peer number) (reclaimed setup (expects w number) channel flow (grant_on p.grants (label_number_of channel))) w
      (reclaimed_all setup (expects w number) channel flow (grant_on p.grants (label_number_of channel)) (λ grant e. granted_there w (label_number_of channel) grant h e) h) h)
  hears_all setup desk p instances source (ReclaimAck sender peer number channel flow) unset h = (let w : Work = begun p instances in
      on_both All (takes p source sender peer number) (acknowledged setup desk (expects w number) flow (label_by p (label_number_of channel))) w
      (calm_all (expects w number) _ (acknowledged_calm p.grants AnyActions any_more setup desk (expects w number) flow (label_by p (label_number_of channel)) (calm_now (expects w number))) h) h)
  hears_all setup desk p instances source (LabelRange sender peer number least greatest) unset h = (let w : Work = begun p instances in
      on_both All (takes p source sender peer number) (ranged setup (expects w number) least greatest) w
      (calm_all (expects w number) _ (ranged_calm p.grants AnyActions any_more setup desk (expects w number) least greatest (calm_now (expects w number))) h) h)
  hears_all setup desk p instances source (Error sender peer number code channel) unset h = (let w : Work = begun p instances in
      on_both All (takes p source sender peer number) (error_comes setup (expects w number) code (label_by p (label_number_of channel))) w
      (calm_all (expects w number) _ (error_calm p.grants AnyActions any_more setup desk (expects w number) code (label_by p (label_number_of channel)) (calm_now (expects w number))) h) h)
