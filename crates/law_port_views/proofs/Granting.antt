-- at the end that may send under the label: REDIRECT and RECLAIM of the label are heard

use Rattle.std.proofs.Common.{◌≡◌, ℕ, Bool, true, false, List, [], ◌∷◌, ◌++◌, length, Option, None, Some, inl, inr, refl, sym, ◌∙◌, ap, subst, arith, if◌then◌else◌}
use Rattle.std.specs.Prelude.{is_some, not, nat_eq, nat_lt}
use Rattle.std.specs.Option.{option_map_or}
use Rattle.std.proofs.lemmas.Bool.Decides.{nat_tests}
use Rattle.law_port_facts.specs.port_model.Words.{Addr, Instance, Channel, label_number_of, State, Clearing, is_estab, FlowId, same_flow, Redirect, Reclaim, AddBranch, Desk, at, Setup, label_end, control_end, is_in_range, Grant, GrantState, Idle, ByController, ByInput, Leaving, grant_label, grant_on, is_leaving, Acceptance, New, Refreshed, IsLeaving, GrantsFull, most_grants, acceptance_beside, acceptance_of, acceptance, Session, Work, with_grants, with_grant, without_grant, has_room, error, reclaim_ack, own_instance, takes, expects, accepts, grants_label, reclaimed_in, reclaimed, hears}
use Rattle.law_port_facts.proofs.Keyed.{on_both, on_each, at_key}
use Rattle.law_label_line.specs.Cells as lines
use Rattle.law_label_line.specs.Cells.{Role, Downstream, Upstream, Cell}
use Rattle.law_label_line.specs.Line as states
use Rattle.law_label_line.specs.Line.{Line}
use Rattle.law_label_line.specs.Upstream as up
use Rattle.law_port_facts.specs.port_model.declared.action.Action.TheVariants.{Ask, TakeBack}
use Rattle.law_port_facts.specs.port_model.Grants.{OutOfRange, Taken}
use Rattle.law_port_facts.specs.port_model.Saying.{says, peer_instance}
use Rattle.law_port_facts.specs.port_model.Redirection.{redirected}
use Rattle.law_port_views.specs.Link.{LinkLabel}
use Rattle.law_port_views.specs.Flows.{flow_number}
use Rattle.law_port_views.specs.Heard.{names}
use Rattle.law_port_views.specs.Shown.{grant_in, granted, GrantShows, IsLent, Shown, rest_of}
use Rattle.law_port_views.specs.Reaching.{ReachesFrom, Leads, Comes, unheard}
use Rattle.law_port_views.proofs.Reach.{stays, begins, aside}
use Rattle.law_port_views.proofs.Says.{acts_quiet}
use Rattle.law_port_views.proofs.Tells.{says_up}
use Rattle.law_port_views.proofs.Flows.{flow_is, same_numbers}
use Rattle.law_port_views.proofs.Grants.{own_grant, own_granted, own_ended}
use Rattle.law_port_views.proofs.Taken.{taken_open, taken_up, expects_up, own_up, peer_up}
use Rattle.law_port_views.proofs.Others.{accepted, refuses, ranges, heard_said}

-- *A port that expects the next number* is as it was in all else
pub expects_live : (w : Work) (number : ℕ) → w.halted ≡ false → (expects w number).halted ≡ false
expects_live w number live = on_both (λ (v : Work). v.halted ≡ false) w.halted w _ live live

pub expects_grants : (w : Work) (number : ℕ) → (expects w number).port.grants ≡ w.port.grants
expects_grants w number = on_both (λ (v : Work). v.port.grants ≡ w.port.grants) w.halted w _ refl refl

-- *Flows* by their numbers, the other way round
pub flow_told : (a b : FlowId) (t : Bool) → same_flow a b ≡ t → nat_eq (flow_number b) (flow_number a) ≡ t
flow_told a b t e = turned (flow_number a) (flow_number b) t (same_numbers a b ∙ e)
  where
    turned : (m n : ℕ) (t : Bool) → nat_eq m n ≡ t → nat_eq n m ≡ t
    turned m n true e = grind (arith, nat_tests, e)
    turned m n false e = grind (arith, nat_tests, e)

-- where the flow isn't the grant's, or there is no room, the line's grant stays
redirected_stays : (line : Line) (k : states.Grant) (f : ℕ) → up.redirected line k false f ≡ line
redirected_stays line states.NoGrant f = refl
redirected_stays line (states.Idle g) f = refl
redirected_stays line (states.ByController g) f = refl
redirected_stays line (states.ByInput g) f = refl
redirected_stays line (states.Leaving g owed) f = refl

reclaimed_stays : (line : Line) (g f : ℕ) (state : GrantState) → nat_eq f g ≡ false → up.reclaimed line (grant_in g state) f ≡ line
reclaimed_stays line g f Idle e = ap (λ (b : Bool). if b then up.acknowledges (record line { grant = states.NoGrant }) f else line) e
reclaimed_stays line g f ByController e = ap (λ (b : Bool). if b then up.acknowledges (record line { grant = states.NoGrant }) f else line) e
reclaimed_stays line g f (ByInput input) e = ap (λ (b : Bool). if b then record line { grant = states.Leaving g true } else line) e
reclaimed_stays line g f (Leaving input owed) e = ap (λ (b : Bool). if b then record line { grant = states.Leaving g true } else line) e

none_shown : (state : State) (k : states.Grant) → is_estab state ≡ true → GrantShows state None k → k ≡ states.NoGrant
none_shown state k estab (inl none) = none
none_shown state k estab (inr left) = absurd (no state left.1 estab)
  where
    no : (state : State) → state ≡ Clearing → is_estab state ≡ true → ⊥
    no state e f = cc (ap is_estab e, f)

module _ (link : LinkLabel) (like : Type 0) (queued : List Cell) where
  pub some_shown : (w : Work) (line : Line) (g : Grant) → at grant_label link.label w.port.grants ≡ Some g → Shown Upstream link like queued w line → line.grant ≡ granted g
  some_shown w line g found h = subst (λ (o : Option Grant). GrantShows line.upstream.state o line.grant) found h.grant

  -- *REDIRECT*: whether there is room is told by what the port does
  record Redirects (w : Work) (line : Line) (f : ℕ) : Type 0 where
    room : Bool
    reach : ReachesFrom Upstream link like queued w (up.redirected line line.grant room f) line

  stays_so : (v w : Work) (line : Line) (f : ℕ) → Leads Upstream link like queued v w → Shown Upstream link like queued v line → Redirects w line f
  stays_so v w line f lead h = record {
    room = false;
    reach = subst (λ (z : Line). ReachesFrom Upstream link like queued w z line) (sym (redirected_stays line line.grant f)) (lead line h);
  }

  granted_new : (setup : Setup) (w : Work) (flow : FlowId) (lifetime : ℕ) (line : Line) → w.halted ≡ false → at grant_label link.label w.port.grants ≡ None
      → line.grant ≡ states.NoGrant → Shown Upstream link like queued w line → Redirects (grants_label setup w link.label flow lifetime) line (flow_number flow)
  granted_new setup w flow lifetime line live none bare h =
      let x : Grant = record { label = link.label; flow = flow; lifetime = lifetime; state = Idle } in
      let v : Work = with_grants (accepts w) (w.port.grants ++ x ∷ []) in
      let after : Line = record line { grant = states.Idle (flow_number flow) } in
      record {
        room = true;
        reach = begins Upstream link like queued (grants_label setup w link.label flow lifetime) (up.redirected line line.grant true (flow_number flow)) line
            (subst (λ (z : Line). Shown Upstream link like queued (grants_label setup w link.label flow lifetime) z) (sym (ap (λ (k : states.Grant). up.redirected line k true (flow_number flow)) bare))
            (acts_quiet link like queued Upstream v (Ask (AddBranch (control_end setup.port link.label) (label_end setup.port link.label)) false) after
            (record { none = refl; own = tt })
            (own_granted link like queued (accepts w) x line (states.Idle (flow_number flow)) live none refl refl
            (λ l. absurd (subst (λ (k : states.Grant). IsLent k) bare (h.lent l))) (accepted link like queued w line h))))
            (ap (λ (k : states.Grant). rest_of_grant k) bare);
      }
    where
      rest_of_grant : (k : states.Grant) → Line
      rest_of_grant k = rest_of Upstream (up.redirected line k true (flow_number flow))

  none_redirects : (setup : Setup) (desk : Desk) (w : Work) (grants : List Grant) (channel : Channel) (flow : FlowId) (lifetime : ℕ) (line : Line) → w.halted ≡ false
      → at grant_label link.label w.port.grants ≡ None → line.grant ≡ states.NoGrant → Shown Upstream link like queued w line
      → Redirects (redirected setup desk w channel flow lifetime (if is_in_range setup link.label then acceptance_beside grants link.label flow None else OutOfRange)) line (flow_number flow)
  none_redirects setup desk w grants channel flow lifetime line live none bare h =
      on_both (λ (a : Acceptance). Redirects (redirected setup desk w channel flow lifetime a) line (flow_number flow)) (is_in_range setup link.label)
      (acceptance_beside grants link.label flow None) OutOfRange
      (on_both (λ (a : Acceptance). Redirects (redirected setup desk w channel flow lifetime a) line (flow_number flow)) (nat_lt (length grants) most_grants)
      (New link.label) GrantsFull
      (on_both (λ (v : Work). Redirects v line (flow_number flow)) (has_room desk w) (grants_label setup w link.label flow lifetime) w
      (granted_new setup w flow lifetime line live none bare h)
      (stays_so w w line (flow_number flow) (λ z k. stays Upstream link like queued w z k) h))
      (stays_so w (says w (error 3 channel)) line (flow_number flow) (refuses link like queued w 3 channel) h))
      (stays_so w (redirected setup desk w channel flow lifetime OutOfRange) line (flow_number flow) (ranges link like queued setup w) h)

  refreshes : (w : Work) (g : Grant) (lifetime : ℕ) (line : Line) (f : ℕ) → w.halted ≡ false → at grant_label link.label w.port.grants ≡ Some g
      → Shown Upstream link like queued w line → Redirects (with_grant (accepts w) (record g { lifetime = lifetime })) line f
  refreshes w g lifetime line f live found h =
      let v : Work = with_grant (accepts w) (record g { lifetime = lifetime }) in
      stays_so w v line f
      (λ z k. stays Upstream link like queued v z
      (own_grant link like queued (accepts w) g (record g { lifetime = lifetime }) z z.grant live found (at_key grant_label link.label w.port.grants g found)
      (some_shown w z g found k) k.lent (accepted link like queued w z k))) h

  some_redirects : (setup : Setup) (desk : Desk) (w : Work) (grants : List Grant) (channel : Channel) (flow : FlowId) (lifetime : ℕ) (g : Grant) (line : Line) → w.halted ≡ false
      → at grant_label link.label w.port.grants ≡ Some g → Shown Upstream link like queued w line
      → Redirects (redirected setup desk w channel flow lifetime (if is_in_range setup link.label then acceptance_beside grants link.label flow (Some g) else OutOfRange)) line (flow_number flow)
  some_redirects setup desk w grants channel flow lifetime g line live found h =
      on_both (λ (a : Acceptance). Redirects (redirected setup desk w channel flow lifetime a) line (flow_number flow)) (is_in_range setup link.label)
      (acceptance_beside grants link.label flow (Some g)) OutOfRange
      (on_both (λ (a : Acceptance). Redirects (redirected setup desk w channel flow lifetime a) line (flow_number flow)) (not (same_flow g.flow flow))
      Taken (if is_leaving g.state then IsLeaving else Refreshed g)
      (stays_so w (says w (error 1 channel)) line (flow_number flow) (refuses link like queued w 1 channel) h)
      (on_both (λ (a : Acceptance). Redirects (redirected setup desk w channel flow lifetime a) line (flow_number flow)) (is_leaving g.state) IsLeaving (Refreshed g)
      (stays_so w (says w (error 2 channel)) line (flow_number flow) (refuses link like queued w 2 channel) h)
      (refreshes w g lifetime line (flow_number flow) live found h)))
      (stays_so w (redirected setup desk w channel flow lifetime OutOfRange) line (flow_number flow) (ranges link like queued setup w) h)

  redirects_own : (setup : Setup) (desk : Desk) (w : Work) (grants : List Grant) (channel : Channel) (flow : FlowId) (lifetime : ℕ) (o : Option Grant) (line : Line) → w.halted ≡ false
      → at grant_label link.label w.port.grants ≡ o → is_estab line.upstream.state ≡ true → Shown Upstream link like queued w line
      → Redirects (redirected setup desk w channel flow lifetime (if is_in_range setup link.label then acceptance_beside grants link.label flow o else OutOfRange)) line (flow_number flow)
  redirects_own setup desk w grants channel flow lifetime None line live found estab h =
      none_redirects setup desk w grants channel flow lifetime line live found
      (none_shown line.upstream.state line.grant estab (subst (λ (o : Option Grant). GrantShows line.upstream.state o line.grant) found h.grant)) h
  redirects_own setup desk w grants channel flow lifetime (Some g) line live found estab h = some_redirects setup desk w grants channel flow lifetime g line live found h

  -- *RECLAIM* ends the grant, or it is leaving
  acks_own : (w : Work) (channel : Channel) (flow : FlowId) (line : Line) → names link.label channel ≡ true → is_estab line.upstream.state ≡ true
      → Shown Upstream link like queued w line → ReachesFrom Upstream link like queued (says w (reclaim_ack channel flow)) (up.acknowledges line (flow_number flow)) line
  acks_own w channel flow line n estab h =
      says_up link like queued w (reclaim_ack channel flow) (lines.ReclaimAck line.upstream.own line.upstream.stored (flow_number flow)) line
      (λ s opened. ap (λ (b : Bool). if b then Some (lines.ReclaimAck (own_instance w.port.adjacency).0 (peer_instance w.port.adjacency).0 (flow_number flow)) else None) n
      ∙ (λ i. Some (lines.ReclaimAck (own_up link like queued w line h i).0 (peer_up link like queued w line line.upstream.state refl estab h i).0 (flow_number flow))))
      (λ own peer k e. e) h

  ended_ack : (w : Work) (channel : Channel) (g : Grant) (flow : FlowId) (line : Line) → w.halted ≡ false → names link.label channel ≡ true → is_estab line.upstream.state ≡ true
      → g.label ≡ link.label → g.flow ≡ flow → (like → ⊥) → Shown Upstream link like queued w line
      → ReachesFrom Upstream link like queued (says (without_grant w g.label) (reclaim_ack channel g.flow))
      (up.acknowledges (record line { grant = states.NoGrant }) (flow_number flow)) line
  ended_ack w channel g flow line live n estab label same none h =
      let bare : Line = record line { grant = states.NoGrant } in
      let v : Work = says (without_grant w g.label) (reclaim_ack channel g.flow) in
      subst (λ (f : ℕ). ReachesFrom Upstream link like queued v (up.acknowledges bare f) line) (ap flow_number same)
      (aside Upstream link like queued v (up.acknowledges bare (flow_number g.flow)) bare line refl
      (acks_own (without_grant w g.label) channel g.flow bare n estab (own_ended link like queued w g.label line live label none h)))

  reclaimed_own : (setup : Setup) (w : Work) (channel : Channel) (flow : FlowId) (g : Grant) (line : Line) (state : GrantState) → w.halted ≡ false
      → names link.label channel ≡ true → is_estab line.upstream.state ≡ true → at grant_label link.label w.port.grants ≡ Some g → same_flow g.flow flow ≡ true
      → line.grant ≡ grant_in (flow_number g.flow) state → Shown Upstream link like queued w line
      → ReachesFrom Upstream link like queued (reclaimed_in setup w channel g state) (up.reclaimed line line.grant (flow_number flow)) line
  reclaimed_own setup w channel flow g line Idle live n estab found t is h =
      let bare : Line = record line { grant = states.NoGrant } in
      subst (λ (z : Line). ReachesFrom Upstream link like queued (reclaimed_in setup w channel g Idle) z line)
      (sym (ap (λ (k : states.Grant). up.reclaimed line k (flow_number flow)) is
      ∙ ap (λ (b : Bool). if b then up.acknowledges bare (flow_number flow) else line) (flow_told g.flow flow true t)))
      (ended_ack w channel g flow line live n estab (at_key grant_label link.label w.port.grants g found) (flow_is g.flow flow t)
      (λ l. subst (λ (k : states.Grant). IsLent k) is (h.lent l)) h)
  reclaimed_own setup w channel flow g line ByController live n estab found t is h =
      let bare : Line = record line { grant = states.NoGrant } in
      subst (λ (z : Line). ReachesFrom Upstream link like queued (reclaimed_in setup w channel g ByController) z line)
      (sym (ap (λ (k : states.Grant). up.reclaimed line k (flow_number flow)) is
      ∙ ap (λ (b : Bool). if b then up.acknowledges bare (flow_number flow) else line) (flow_told g.flow flow true t)))
      (ended_ack w channel g flow line live n estab (at_key grant_label link.label w.port.grants g found) (flow_is g.flow flow t)
      (λ l. subst (λ (k : states.Grant). IsLent k) is (h.lent l)) h)
  reclaimed_own setup w channel flow g line (ByInput input) live n estab found t is h =
      let k : states.Grant = states.Leaving (flow_number g.flow) true in
      let v : Work = with_grant w (record g { state = Leaving input true }) in
      subst (λ (z : Line). ReachesFrom Upstream link like queued (reclaimed_in setup w channel g (ByInput input)) z line)
      (sym (ap (λ (k : states.Grant). up.reclaimed line k (flow_number flow)) is
      ∙ ap (λ (b : Bool). if b then record line { grant = k } else line) (flow_told g.flow flow true t)))
      (begins Upstream link like queued (reclaimed_in setup w channel g (ByInput input)) (record line { grant = k }) line
      (acts_quiet link like queued Upstream v (TakeBack input (label_end setup.port g.label)) (record line { grant = k }) (record { none = refl; own = tt })
      (own_grant link like queued w g (record g { state = Leaving input true }) line k live found (at_key grant_label link.label w.port.grants g found) refl (λ l. tt) h)) refl)
  reclaimed_own setup w channel flow g line (Leaving input owed) live n estab found t is h =
      let k : states.Grant = states.Leaving (flow_number g.flow) true in
      subst (λ (z : Line). ReachesFrom Upstream link like queued (reclaimed_in setup w channel g (Leaving input owed)) z line)
      (sym (ap (λ (k : states.Grant). up.reclaimed line k (flow_number flow)) is
      ∙ ap (λ (b : Bool). if b then record line { grant = k } else line) (flow_told g.flow flow true t)))
      (begins Upstream link like queued (reclaimed_in setup w channel g (Leaving input owed)) (record line { grant = k }) line
      (own_grant link like queued w g (record g { state = Leaving input true }) line k live found (at_key grant_label link.label w.port.grants g found) refl (λ l. tt) h) refl)

  reclaims_own : (setup : Setup) (w : Work) (channel : Channel) (flow : FlowId) (o : Option Grant) (line : Line) → w.halted ≡ false
      → names link.label channel ≡ true → is_estab line.upstream.state ≡ true → at grant_label link.label w.port.grants ≡ o → Shown Upstream link like queued w line
      → ReachesFrom Upstream link like queued (reclaimed setup w channel flow o) (up.reclaimed line line.grant (flow_number flow)) line
  reclaims_own setup w channel flow None line live n estab found h =
      subst (λ (z : Line). ReachesFrom Upstream link like queued (says w (reclaim_ack channel flow)) z line)
      (sym (ap (λ (k : states.Grant). up.reclaimed line k (flow_number flow))
      (none_shown line.upstream.state line.grant estab (subst (λ (o : Option Grant). GrantShows line.upstream.state o line.grant) found h.grant))))
      (acks_own w channel flow line n estab h)
  reclaims_own setup w channel flow (Some g) line live n estab found h =
      let is : line.grant ≡ granted g = some_shown w line g found h in
      on_each (λ (v : Work). ReachesFrom Upstream link like queued v (up.reclaimed line line.grant (flow_number flow)) line) (same_flow g.flow flow)
      (reclaimed_in setup w channel g g.state) (says w (error 4 channel))
      (λ t. reclaimed_own setup w channel flow g line g.state live n estab found t is h)
      (λ t. subst (λ (z : Line). ReachesFrom Upstream link like queued (says w (error 4 channel)) z line)
      (sym (ap (λ (k : states.Grant). up.reclaimed line k (flow_number flow)) is ∙ reclaimed_stays line (flow_number g.flow) (flow_number flow) g.state (flow_told g.flow flow false t)))
      (refuses link like queued w 4 channel line h))

  -- *They are heard*
  pub named : (k : Option ℕ) → option_map_or (λ (j : ℕ). nat_eq j link.label) k false ≡ true → k ≡ Some link.label
  named None e = absurd (cc e)
  named (Some j) e = ap Some (same j e)
    where
      same : (j : ℕ) → nat_eq j link.label ≡ true → j ≡ link.label
      same j e = grind (arith, nat_tests, e)

  redirect_in : (setup : Setup) (desk : Desk) (w : Work) (source : Addr) (sender peer : Instance) (number lifetime : ℕ) (channel : Channel) (flow : FlowId) (line : Line) (o : Option Session)
      → w.halted ≡ false → w.port.session ≡ o → names link.label channel ≡ true → takes w.port source sender peer number ≡ true → Shown Upstream link like queued w line
      → Comes Upstream link like queued (redirected setup desk (expects w number) channel flow lifetime (acceptance setup w.port.grants channel flow)) (Redirect sender peer number lifetime channel flow) line
  redirect_in setup desk w source sender peer number lifetime channel flow line None live opened n t h =
      absurd (cc (taken_open link like queued w source sender peer number t, ap (λ (z : Option Session). is_some z) opened))
  redirect_in setup desk w source sender peer number lifetime channel flow line (Some s) live opened n t h =
      let v : Work = expects w number in
      let next : Line = up.expects line number in
      let r : Redirects (redirected setup desk v channel flow lifetime (acceptance setup w.port.grants channel flow)) next (flow_number flow)
      = subst (λ (k : Option ℕ). Redirects (redirected setup desk v channel flow lifetime (acceptance_of setup w.port.grants flow k)) next (flow_number flow))
      (sym (named (label_number_of channel) n))
      (redirects_own setup desk v w.port.grants channel flow lifetime (at grant_label link.label w.port.grants) next (expects_live w number live)
      (ap (at grant_label link.label) (expects_grants w number)) (sym h.session ∙ taken_open link like queued w source sender peer number t)
      (expects_up link like queued w s number line live opened h)) in
      let start : Line = up.redirected next line.grant r.room (flow_number flow) in
      heard_said link like queued (redirected setup desk v channel flow lifetime (acceptance setup w.port.grants channel flow)) (Redirect sender peer number lifetime channel flow) line start
      (lines.Redirect sender.0 peer.0 number (flow_number flow)) r.room
      (ap (λ (b : Bool). Some (if b then lines.Redirect sender.0 peer.0 number (flow_number flow) else lines.Other sender.0 peer.0 number)) n)
      (ap (λ (b : Bool). if b then start else line) (taken_up link like queued w source sender peer number line t h))
      (aside Upstream link like queued (redirected setup desk v channel flow lifetime (acceptance setup w.port.grants channel flow)) start next line refl r.reach)

  pub redirect_own : (setup : Setup) (desk : Desk) (w : Work) (source : Addr) (sender peer : Instance) (number lifetime : ℕ) (channel : Channel) (flow : FlowId) (line : Line)
      → w.halted ≡ false → names link.label channel ≡ true → Shown Upstream link like queued w line
      → Comes Upstream link like queued (hears setup desk w source (Redirect sender peer number lifetime channel flow)) (Redirect sender peer number lifetime channel flow) line
  redirect_own setup desk w source sender peer number lifetime channel flow line live n h =
      on_each (λ (z : Work). Comes Upstream link like queued z (Redirect sender peer number lifetime channel flow) line) (takes w.port source sender peer number)
      (redirected setup desk (expects w number) channel flow lifetime (acceptance setup w.port.grants channel flow)) w
      (λ t. redirect_in setup desk w source sender peer number lifetime channel flow line w.port.session live refl n t h)
      (λ f. unheard (stays Upstream link like queued w line h))

  reclaim_in : (setup : Setup) (w : Work) (source : Addr) (sender peer : Instance) (number : ℕ) (channel : Channel) (flow : FlowId) (line : Line) (o : Option Session)
      → w.halted ≡ false → w.port.session ≡ o → names link.label channel ≡ true → takes w.port source sender peer number ≡ true → Shown Upstream link like queued w line
      → Comes Upstream link like queued (reclaimed setup (expects w number) channel flow (grant_on w.port.grants (label_number_of channel))) (Reclaim sender peer number channel flow) line
  reclaim_in setup w source sender peer number channel flow line None live opened n t h =
      absurd (cc (taken_open link like queued w source sender peer number t, ap (λ (z : Option Session). is_some z) opened))
  reclaim_in setup w source sender peer number channel flow line (Some s) live opened n t h =
      let v : Work = expects w number in
      let next : Line = up.expects line number in
      let after : Work = reclaimed setup v channel flow (grant_on w.port.grants (label_number_of channel)) in
      let start : Line = up.reclaimed next line.grant (flow_number flow) in
      let r : ReachesFrom Upstream link like queued after start next
      = subst (λ (k : Option ℕ). ReachesFrom Upstream link like queued (reclaimed setup v channel flow (grant_on w.port.grants k)) start next)
      (sym (named (label_number_of channel) n))
      (reclaims_own setup v channel flow (at grant_label link.label w.port.grants) next (expects_live w number live) n
      (sym h.session ∙ taken_open link like queued w source sender peer number t) (ap (at grant_label link.label) (expects_grants w number))
      (expects_up link like queued w s number line live opened h)) in
      heard_said link like queued after (Reclaim sender peer number channel flow) line start (lines.Reclaim sender.0 peer.0 number (flow_number flow)) true
      (ap (λ (b : Bool). Some (if b then lines.Reclaim sender.0 peer.0 number (flow_number flow) else lines.Other sender.0 peer.0 number)) n)
      (ap (λ (b : Bool). if b then start else line) (taken_up link like queued w source sender peer number line t h))
      (aside Upstream link like queued after start next line refl r)

  pub reclaim_own : (setup : Setup) (desk : Desk) (w : Work) (source : Addr) (sender peer : Instance) (number : ℕ) (channel : Channel) (flow : FlowId) (line : Line)
      → w.halted ≡ false → names link.label channel ≡ true → Shown Upstream link like queued w line
      → Comes Upstream link like queued (hears setup desk w source (Reclaim sender peer number channel flow)) (Reclaim sender peer number channel flow) line
  reclaim_own setup desk w source sender peer number channel flow line live n h =
      on_each (λ (z : Work). Comes Upstream link like queued z (Reclaim sender peer number channel flow) line) (takes w.port source sender peer number)
      (reclaimed setup (expects w number) channel flow (grant_on w.port.grants (label_number_of channel))) w
      (λ t. reclaim_in setup w source sender peer number channel flow line w.port.session live refl n t h)
      (λ f. unheard (stays Upstream link like queued w line h))
