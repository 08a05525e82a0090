-- what a port makes of a message that it hears, of a packet, of an answer of the switch and of its resets

use Rattle.std.proofs.Common.{◌≡◌, ℕ, true, false, List, [], ◌∷◌, ◌++◌, length, Option, None, Some, refl, sym, ◌∙◌, ap, subst, if◌then◌else◌, inl, inr}
use Rattle.std.specs.Prelude.{◌⊎◌, not, ◌+◌, ◌==◌, ◌&&◌, nat_lt, flat_map}
use Rattle.std.specs.Option.{option_map_or}
use Rattle.law_controller_bindings.specs.world_model.Words.{Addr, Channel, label_number_of, number_of_channel, FlowId, same_flow, Request, AddBranch, MoveBranch, DeleteTree, VerifyTree, PortManagement, Redirect, Reclaim, ReclaimAck, LabelRange, Error, Free, at, without, entered, key_le, Desk, Action, Ask, Note, CutChain, TakeBack, Setup, label_end, control_end, is_in_range, Label, LabelState, Wiring, Offered, Recalled, Wired, label_number, label_for, lowest_spare, Grant, GrantState, Idle, ByController, ByInput, Leaving, grant_label, grant_on, Acceptance, New, Refreshed, IsLeaving, GrantsFull, acceptance, acceptance_of, acceptance_beside, is_leaving, most_grants, counted_once, packets_in, Session, Work, with_session, with_label, with_new_label, without_label, with_grants, with_grant, without_grant, label_at, has_room, reclaim_ack, label_range, error, packet_flow, wires, counts_flow, counts_by, counts, takes, accepts, expects, grants_label, reclaimed_in, reclaimed, acknowledged_in, acknowledged, ranged, error_comes, label_by, hears, freed_in, freed, started_in, started, closing, left_in, left_of, taking_back_in, taking_back, withdrawing_in, withdrawing_of, withdrawing, resets, restarts}
use Rattle.law_controller_bindings.specs.world_model.gsmp_wire.declared.request.Request.TheVariants.{DeleteAll, AllPorts}
use Rattle.law_controller_bindings.specs.world_model.ifmp_wire.declared.message.Message.{Message}
use Rattle.law_controller_bindings.specs.world_model.ifmp_wire.declared.message.Message.TheVariants.{Adjacency}
use Rattle.law_controller_bindings.specs.world_model.link_model.declared.record.Record.TheVariants.{Join}
use Rattle.law_controller_bindings.specs.ordered_lists.Ordered.{Every}
use Rattle.law_controller_bindings.proofs.ordered_lists.Every.{every_join, every_mapped, every_all}
use Rattle.law_controller_bindings.specs.world_model.port_model.Grants.{OutOfRange, Taken}
use Rattle.law_controller_bindings.specs.world_model.port_model.Port.{Port}
use Rattle.law_controller_bindings.specs.world_model.port_model.Saying.{says}
use Rattle.law_controller_bindings.specs.world_model.port_model.Redirection.{redirected}
use Rattle.law_controller_bindings.specs.world_model.port_model.Answers.{done}
use Rattle.law_controller_bindings.specs.world_model.port_model.Resets.{cleared}
use Rattle.law_controller_bindings.proofs.law_port_facts.Keyed.{on_both, on_each, entered_every, without_every, every_more}
use Rattle.law_controller_bindings.proofs.law_port_facts.Found.{find_every, session_labels}
use Rattle.law_lifetimes.proofs.Grants.{accepted_new, accepted_again}
use Rattle.law_world_views.specs.Tied.{is_rstack}
use Rattle.law_port_words.specs.Words.{Terms, StandsAs, Stands, IsGranted, IsSteady, IsFair}
use Rattle.law_port_words.proofs.Voices.{Voiced, acts_v, session_v, label_v, found_v, grants_v, grant_v, gone_v, granted_v, says_v, expects_v, accepts_v}
use Rattle.law_port_words.proofs.Rules.{acks_word, range_word, error_word, quits_v, greeted_v, recalls_offered_v, ranged_v}

-- a new grant is of the label that is named
accepted_named : (setup : Setup) (grants : List Grant) (flow : FlowId) (o : Option ℕ) (new : ℕ) → acceptance_of setup grants flow o ≡ New new → o ≡ Some new
accepted_named setup grants flow None new e = absurd (cc e)
accepted_named setup grants flow (Some label) new e = on_both (λ (a : Acceptance). a ≡ New new → Some label ≡ Some new) (is_in_range setup label) (acceptance_beside grants label flow (at grant_label label grants)) OutOfRange
    (beside (at grant_label label grants)) (λ e. absurd (cc e)) e
  where
    beside : (o : Option Grant) → acceptance_beside grants label flow o ≡ New new → Some label ≡ Some new
    beside None e = on_both (λ (a : Acceptance). a ≡ New new → Some label ≡ Some new) (nat_lt (length grants) most_grants) (New label) GrantsFull (λ e. (let same : label ≡ new = cc in ap (λ n. Some n) same)) (λ e. absurd (cc e)) e
    beside (Some grant) e = on_both (λ (a : Acceptance). a ≡ New new → Some label ≡ Some new) (not (same_flow grant.flow flow)) Taken (if is_leaving grant.state then IsLeaving else Refreshed grant)
        (λ e. absurd (cc e)) (on_both (λ (a : Acceptance). a ≡ New new → Some label ≡ Some new) (is_leaving grant.state) IsLeaving (Refreshed grant) (λ e. absurd (cc e)) (λ e. absurd (cc e))) e

-- *A message that comes* to a port: its sender's instance is known, and it agrees with what is granted
module _ (t : Terms) (setup : Setup) where
  abbrev pub Agrees : Port → Message → Type 0
  Agrees port (Redirect sender peer number lifetime channel flow) = ((label : ℕ) → label_number_of channel ≡ Some label → is_in_range setup label ≡ true → t.granted setup.port label flow)
      × (acceptance setup port.grants channel flow ≡ Taken → t.refused 1)
  Agrees port (Reclaim sender peer number channel flow) = (grant : Grant) → grant_on port.grants (label_number_of channel) ≡ Some grant → (same_flow grant.flow flow ≡ true) ⊎ t.refused 4
  Agrees port (Adjacency hello) = is_rstack hello.kind ≡ false → t.known setup.port hello.sender.0
  Agrees port message = Unit {0}

-- a request that makes no branch of a label to the control link
abbrev pub BindsAny : Request → Type 0
BindsAny (AddBranch input output) = (input.port.0 == 0) ≡ true
BindsAny request = Unit {0}

module _ (t : Terms) (setup : Setup) (speaks : (instance : ℕ) → t.own setup.port instance → t.told setup.port instance) where
  abbrev V : Work → Type 0
  V w = Voiced t setup w

  abbrev pub begun : Port → (instances : ℕ) → Work
  begun port instances = record { port = port; actions = []; halted = false; instances = instances }

  -- *Redirect*
  redirected_v : (desk : Desk) (port : Port) (instances number : ℕ) (channel : Channel) (flow : FlowId) (lifetime : ℕ)
      → ((label : ℕ) → label_number_of channel ≡ Some label → is_in_range setup label ≡ true → t.granted setup.port label flow) → (acceptance setup port.grants channel flow ≡ Taken → t.refused 1)
      → V (expects (begun port instances) number) → Every (IsGranted t setup.port) port.grants → (a : Acceptance) → acceptance setup port.grants channel flow ≡ a
      → V (redirected setup desk (expects (begun port instances) number) channel flow lifetime a)
  redirected_v desk port instances number channel flow lifetime granted untaken h all (New label) e =
      let w : Work = expects (begun port instances) number in
      let gs : List Grant = port.grants ++ record { label = label; flow = flow; lifetime = lifetime; state = Idle } ∷ [] in
      on_both V (has_room desk w) (grants_label setup w label flow lifetime) w
      (acts_v t setup speaks (with_grants (accepts w) gs) (Ask (AddBranch (control_end setup.port label) (label_end setup.port label)) false) tt
      (grants_v t setup speaks (accepts w) gs (every_more (IsGranted t setup.port) port.grants (record { label = label; flow = flow; lifetime = lifetime; state = Idle }) all
      (granted label (accepted_named setup port.grants flow (label_number_of channel) label e) (accepted_new setup port.grants flow (label_number_of channel) label e))) (accepts_v t setup speaks w h))) h
  redirected_v desk port instances number channel flow lifetime granted untaken h all (Refreshed grant) e =
      let w : Work = expects (begun port instances) number in
      grant_v t setup speaks (accepts w) (record grant { lifetime = lifetime }) (accepted_again (IsGranted t setup.port) setup port.grants flow (label_number_of channel) grant all e) (accepts_v t setup speaks w h)
  redirected_v desk port instances number channel flow lifetime granted untaken h all OutOfRange e = says_v t setup speaks (expects (begun port instances) number) (label_range setup) (range_word t setup speaks) h
  redirected_v desk port instances number channel flow lifetime granted untaken h all Taken e = says_v t setup speaks (expects (begun port instances) number) (error 1 channel) (error_word t setup speaks 1 channel (inl (untaken e))) h
  redirected_v desk port instances number channel flow lifetime granted untaken h all IsLeaving e = says_v t setup speaks (expects (begun port instances) number) (error 2 channel) (error_word t setup speaks 2 channel (inr ((λ e. absurd (cc e)), (λ e. absurd (cc e))))) h
  redirected_v desk port instances number channel flow lifetime granted untaken h all GrantsFull e = says_v t setup speaks (expects (begun port instances) number) (error 3 channel) (error_word t setup speaks 3 channel (inr ((λ e. absurd (cc e)), (λ e. absurd (cc e))))) h

  -- *Reclaim*
  reclaimed_in_v : (w : Work) (channel : Channel) (grant : Grant) (state : GrantState) → IsGranted t setup.port grant → V w → V (reclaimed_in setup w channel grant state)
  reclaimed_in_v w channel grant Idle g h = says_v t setup speaks (without_grant w grant.label) (reclaim_ack channel grant.flow) (acks_word t setup speaks channel grant.flow) (gone_v t setup speaks w grant.label h)
  reclaimed_in_v w channel grant ByController g h = says_v t setup speaks (without_grant w grant.label) (reclaim_ack channel grant.flow) (acks_word t setup speaks channel grant.flow) (gone_v t setup speaks w grant.label h)
  reclaimed_in_v w channel grant (ByInput input) g h = acts_v t setup speaks (with_grant w (record grant { state = Leaving input true })) (TakeBack input (label_end setup.port grant.label)) tt (grant_v t setup speaks w (record grant { state = Leaving input true }) g h)
  reclaimed_in_v w channel grant (Leaving input owed) g h = grant_v t setup speaks w (record grant { state = Leaving input true }) g h

  reclaimed_v : (w : Work) (channel : Channel) (flow : FlowId) (o : Option Grant) → ((grant : Grant) → o ≡ Some grant → IsGranted t setup.port grant × ((same_flow grant.flow flow ≡ true) ⊎ t.refused 4)) → V w → V (reclaimed setup w channel flow o)
  reclaimed_v w channel flow None there h = says_v t setup speaks w (reclaim_ack channel flow) (acks_word t setup speaks channel flow) h
  reclaimed_v w channel flow (Some grant) there h = on_each V (same_flow grant.flow flow) (reclaimed_in setup w channel grant grant.state) (says w (error 4 channel))
      (λ same. reclaimed_in_v w channel grant grant.state (there grant refl).0 h) (λ other. elim (there grant refl).1 [
        | inl same ↦ absurd (cc (sym same ∙ other))
        | inr refused ↦ says_v t setup speaks w (error 4 channel) (error_word t setup speaks 4 channel (inl refused)) h
      ])

  granted_on : (w : Work) (number : Option ℕ) (grant : Grant) → V w → grant_on w.port.grants number ≡ Some grant → IsGranted t setup.port grant
  granted_on w None grant h e = absurd (cc e)
  granted_on w (Some number) grant h e = granted_v t setup speaks w number grant e h

  -- *Reclaim Ack* and *Error*
  acknowledged_in_v : (desk : Desk) (w : Work) (label : Label) (state : LabelState) → StandsAs t setup.port label.number label.flow state → V w → V (acknowledged_in setup desk w label state)
  acknowledged_in_v desk w label (Recalled last acknowledged) held h = quits_v t setup speaks desk (with_label w (record label { state = Recalled last true })) label.number (label_v t setup speaks w (record label { state = Recalled last true }) held h)
  acknowledged_in_v desk w label Wiring held h = h
  acknowledged_in_v desk w label Offered held h = h
  acknowledged_in_v desk w label Wired held h = h

  acknowledged_v : (desk : Desk) (w : Work) (flow : FlowId) (number : ℕ) (o : Option Label) → label_at w.port number ≡ o → V w → V (acknowledged setup desk w flow o)
  acknowledged_v desk w flow number None found h = h
  acknowledged_v desk w flow number (Some label) found h = on_both V (same_flow label.flow flow) (acknowledged_in setup desk w label label.state) w (acknowledged_in_v desk w label label.state (found_v t setup speaks w number label found h) h) h

  acknowledged_by : (desk : Desk) (w : Work) (flow : FlowId) (number : Option ℕ) → V w → V (acknowledged setup desk w flow (label_by w.port number))
  acknowledged_by desk w flow None h = h
  acknowledged_by desk w flow (Some number) h = acknowledged_v desk w flow number (label_at w.port number) refl h

  error_by : (w : Work) (code : ℕ) (number : Option ℕ) → V w → V (error_comes setup w code (label_by w.port number))
  error_by w code None h = on_both V (code == 2) w w h h
  error_by w code (Some number) h = on_both V (code == 2) w _ h (recalls_offered_v t setup speaks w number (label_at w.port number) refl h)

  expected_label : (w : Work) (number : ℕ) (named : Option ℕ) → label_by (expects w number).port named ≡ label_by w.port named
  expected_label w number None = refl
  expected_label w number (Some label) = ap (at label_number label) (session_labels w (λ s. record s { expected = number + 1 }) (λ s. refl))

  -- *Each message*
  pub hears_v : (desk : Desk) (port : Port) (instances : ℕ) (source : Addr) (message : Message) → Agrees t setup port message → IsSteady t setup port → V (hears setup desk (begun port instances) source message)
  hears_v desk port instances source (Adjacency hello) agrees k = greeted_v t setup speaks desk (begun port instances) source hello agrees (record { port = k; said = tt })
  hears_v desk port instances source (Redirect sender peer number lifetime channel flow) agrees k =
      let w : Work = begun port instances in
      let h : V w = record { port = k; said = tt } in
      on_both V (takes port source sender peer number) (redirected setup desk (expects w number) channel flow lifetime (acceptance setup port.grants channel flow)) w
      (redirected_v desk port instances number channel flow lifetime agrees.0 agrees.1 (expects_v t setup speaks w number h) k.grants (acceptance setup port.grants channel flow) refl) h
  hears_v desk port instances source (Reclaim sender peer number channel flow) agrees k =
      let w : Work = begun port instances in
      let h : V w = record { port = k; said = tt } in
      on_both V (takes port source sender peer number) (reclaimed setup (expects w number) channel flow (grant_on port.grants (label_number_of channel))) w
      (reclaimed_v (expects w number) channel flow (grant_on port.grants (label_number_of channel)) (λ grant e. (granted_on w (label_number_of channel) grant h e, agrees grant e)) (expects_v t setup speaks w number h)) h
  hears_v desk port instances source (ReclaimAck sender peer number channel flow) agrees k =
      let w : Work = begun port instances in
      let h : V w = record { port = k; said = tt } in
      on_both V (takes port source sender peer number) (acknowledged setup desk (expects w number) flow (label_by port (label_number_of channel))) w
      (subst (λ (o : Option Label). V (acknowledged setup desk (expects w number) flow o)) (expected_label w number (label_number_of channel))
      (acknowledged_by desk (expects w number) flow (label_number_of channel) (expects_v t setup speaks w number h))) h
  hears_v desk port instances source (LabelRange sender peer number least greatest) agrees k =
      let w : Work = begun port instances in
      let h : V w = record { port = k; said = tt } in
      on_both V (takes port source sender peer number) (ranged setup (expects w number) least greatest) w (ranged_v t setup speaks (expects w number) least greatest (expects_v t setup speaks w number h)) h
  hears_v desk port instances source (Error sender peer number code channel) agrees k =
      let w : Work = begun port instances in
      let h : V w = record { port = k; said = tt } in
      on_both V (takes port source sender peer number) (error_comes setup (expects w number) code (label_by port (label_number_of channel))) w
      (subst (λ (o : Option Label). V (error_comes setup (expects w number) code o)) (expected_label w number (label_number_of channel))
      (error_by (expects w number) code (label_number_of channel) (expects_v t setup speaks w number h))) h

  -- *A packet* is counted: the label that it wires is one that may be
  wires_v : (w : Work) (flow : FlowId) (o : Option ℕ) → ((number : ℕ) → t.wired setup.port number flow) → V w → V (wires setup w flow o)
  wires_v w flow None wired h = h
  wires_v w flow (Some number) wired h =
      let label : Label = record { number = number; state = Wiring; flow = flow; idle = 0; ticks = 0; join = None } in
      acts_v t setup speaks (with_new_label w label) (Ask (AddBranch (label_end setup.port number) (control_end setup.port number)) false) tt
      (session_v t setup speaks w (λ s. record s { labels = entered (key_le label_number) label s.labels })
      (λ s e all. entered_every label_number (Stands t setup.port) (key_le label_number) label s.labels (wired number) all) h)

  same_labels : (w : Work) (s now : Session) → w.port.session ≡ Some s → now.labels ≡ s.labels → V w → V (with_session w (λ old. now))
  same_labels w s now is same h = session_v t setup speaks w (λ old. now) (λ old e all. subst (Every (Stands t setup.port)) (sym same) (subst (Every (Stands t setup.port)) (old_is old e) all)) h
    where
      old_is : (old : Session) → w.port.session ≡ Some old → old.labels ≡ s.labels
      old_is old e = (let one : old ≡ s = cc in ap (λ (x : Session). x.labels) one)

  counts_flow_v : (desk : Desk) (w : Work) (s : Session) (flow : FlowId) (o : Option Label) → w.port.session ≡ Some s → ((label : Label) → o ≡ Some label → Stands t setup.port label)
      → ((number : ℕ) (flow : FlowId) → t.wired setup.port number flow) → V w → V (counts_flow setup desk w s flow o)
  counts_flow_v desk w s flow (Some label) is found wired h = label_v t setup speaks w (record label { idle = 0 }) (found label refl) h
  counts_flow_v desk w s flow None is found wired h =
      let now : Session = record s { counted = counted_once s.counted flow } in
      let counted : Work = with_session w (λ old. now) in
      let k : V counted = same_labels w s now is refl h in
      on_both V (setup.policy.offers flow (packets_in now.counted flow) && has_room desk counted) (wires setup counted flow (lowest_spare setup now.least now.greatest now.labels)) counted
      (wires_v counted flow (lowest_spare setup now.least now.greatest now.labels) (λ number. wired number flow) k) k

  pub counts_v : (desk : Desk) (w : Work) (packet : List ℕ) → ((number : ℕ) (flow : FlowId) → t.wired setup.port number flow) → V w → V (counts setup desk w packet)
  counts_v desk w packet wired h = by w.port.session refl (packet_flow packet)
    where
      by : (o : Option Session) → w.port.session ≡ o → (flow : Option FlowId) → V (counts_by setup desk w o flow)
      by None is flow = h
      by (Some s) is None = h
      by (Some s) is (Some flow) = counts_flow_v desk w s flow (label_for s.labels flow) is
          (λ label e. find_every (Stands t setup.port) _ s.labels label (subst (λ (o : Option Session). Every (Stands t setup.port) (option_map_or (λ (s : Session). s.labels) o [])) is h.port.labels) e) wired h

  -- *Answers*, but for the binding of a label
  freed_v : (w : Work) (o : Option Label) → V w → V (freed setup w o)
  freed_v w None h = h
  freed_v w (Some label) h = by label.state
    where
      by : (state : LabelState) → V (freed_in setup w label state)
      by Wired = acts_v t setup speaks (without_label w label.number) (Note (Free setup.node setup.port label.number)) tt
          (session_v t setup speaks w (λ s. record s { labels = without label_number label.number s.labels }) (λ s e all. without_every label_number (Stands t setup.port) label.number s.labels all) h)
      by Wiring = h
      by Offered = h
      by (Recalled last acknowledged) = h

  started_v : (w : Work) (number : Option ℕ) → V w → V (started w (grant_on w.port.grants number))
  started_v w None h = h
  started_v w (Some number) h = by (at grant_label number w.port.grants) refl
    where
      by_state : (grant : Grant) (state : GrantState) → IsGranted t setup.port grant → V (started_in w grant state)
      by_state grant Idle g = grant_v t setup speaks w (record grant { state = ByController }) g h
      by_state grant ByController g = h
      by_state grant (ByInput input) g = h
      by_state grant (Leaving input owed) g = h

      by : (o : Option Grant) → at grant_label number w.port.grants ≡ o → V (started w o)
      by None found = h
      by (Some grant) found = by_state grant grant.state (granted_v t setup speaks w number grant found h)

  pub done_v : (w : Work) (request : Request) → BindsAny request → V w → V (done setup w request)
  done_v w (AddBranch input output) home h = on_each V (input.port.0 == 0) (started w (grant_on w.port.grants (label_number_of output.channel))) _
      (λ t. started_v w (label_number_of output.channel) h) (λ f. absurd (cc (sym home ∙ f)))
  done_v w (MoveBranch input from to) home h = on_both V (to.port.0 == 0) w _ h
      (acts_v t setup speaks w (Note (Join setup.node setup.port (number_of_channel input.channel) to.port (number_of_channel to.channel))) tt h)
  done_v w (DeleteTree input) home h = freed_v w (label_by w.port (label_number_of input.channel)) h
  done_v w (VerifyTree input) home h = h
  done_v w (DeleteAll port) home h = h
  done_v w (PortManagement port function) home h = h
  done_v w AllPorts home h = h

-- *Resets*
module _ (t : Terms) (setup : Setup) where
  closing_fair : (o : Option Session) → Every (IsFair t setup.port) (closing setup o)
  closing_fair None = tt
  closing_fair (Some s) = (tt, every_mapped (λ (label : Label). CutChain label.number) (IsFair t setup.port) s.labels (every_all (λ (label : Label). IsFair t setup.port (CutChain label.number)) s.labels (λ label. tt)))

  each_fair : {A : Type 0} (f : A → List Action) → ((x : A) → Every (IsFair t setup.port) (f x)) → (xs : List A) → Every (IsFair t setup.port) (flat_map f xs)
  each_fair f each [] = tt
  each_fair f each (x ∷ xs) = every_join (IsFair t setup.port) (f x) (flat_map f xs) (each x) (each_fair f each xs)

  withdrawing_fair : (grant : Grant) → Every (IsFair t setup.port) (withdrawing_of setup grant)
  withdrawing_fair grant = by grant.state
    where
      by : (state : GrantState) → Every (IsFair t setup.port) (withdrawing_in setup grant.label state)
      by Idle = (tt, tt)
      by ByController = (tt, tt)
      by (ByInput input) = tt
      by (Leaving input owed) = tt

  taking_fair : (grant : Grant) → Every (IsFair t setup.port) (taking_back setup grant)
  taking_fair grant = by grant.state
    where
      by : (state : GrantState) → Every (IsFair t setup.port) (taking_back_in setup grant state)
      by Idle = tt
      by ByController = tt
      by (ByInput input) = (tt, tt)
      by (Leaving input owed) = tt

  left_granted : (grants : List Grant) → Every (IsGranted t setup.port) grants → Every (IsGranted t setup.port) (flat_map left_of grants)
  left_granted [] h = tt
  left_granted (grant ∷ grants) h = every_join (IsGranted t setup.port) (left_of grant) (flat_map left_of grants) (by grant.state) (left_granted grants h.1)
    where
      by : (state : GrantState) → Every (IsGranted t setup.port) (left_in grant state)
      by Idle = tt
      by ByController = tt
      by (ByInput input) = (h.0, tt)
      by (Leaving input owed) = (h.0, tt)

  pub resets_v : (w : Work) → Voiced t setup w → Voiced t setup (resets setup w)
  resets_v w h = record {
    port = record {
      node = h.port.node;
      own = λ live. absurd (live refl);
      stored = λ peer e. absurd (cc e);
      lives = λ s e. absurd (cc e);
      labels = tt;
      grants = left_granted w.port.grants h.port.grants;
    };
    said = every_join (IsFair t setup.port) w.actions _ h.said (every_join (IsFair t setup.port) (closing setup w.port.session) _ (closing_fair w.port.session)
        (every_join (IsFair t setup.port) (withdrawing setup w.port.grants) _ (each_fair (withdrawing_of setup) withdrawing_fair w.port.grants)
        (every_join (IsFair t setup.port) (flat_map (taking_back setup) w.port.grants) (Ask (DeleteAll setup.port) true ∷ []) (each_fair (taking_back setup) taking_fair w.port.grants) (tt, tt))));
  }

  pub restarts_v : (w : Work) → Voiced t setup w → Voiced t setup (restarts setup w)
  restarts_v w h = record {
    port = record { node = h.port.node; own = λ live. absurd (live refl); stored = λ peer e. absurd (cc e); lives = λ s e. absurd (cc e); labels = tt; grants = tt };
    said = every_join (IsFair t setup.port) w.actions (closing setup w.port.session) h.said (closing_fair w.port.session);
  }

  -- *A port is cleared* under an instance that it may tell
  pub cleared_steady : (port : Port) → t.own setup.port port.adjacency.own.instance.0 → IsSteady t setup port → port.session ≡ None → IsSteady t setup (cleared port)
  cleared_steady port own k none = record {
    node = k.node;
    own = λ live. own;
    stored = k.stored;
    lives = λ s e. absurd (cc (sym none ∙ e));
    labels = k.labels;
    grants = k.grants;
  }
