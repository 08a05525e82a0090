-- a port is reset, or restarts with its node, or is cleared

use Rattle.std.proofs.Common.{◌≡◌, ◌≢◌, ℕ, ◌+◌, ◌-◌, ◌≤◌, Bool, true, false, List, [], ◌∷◌, ◌++◌, Option, None, Some, inl, inr, refl, sym, ◌∙◌, ap, subst, arith, map, append_assoc, append-nil, if◌then◌else◌}
use Rattle.std.specs.Prelude.{is_some}
use Rattle.std.specs.List.{flat_map}
use Rattle.std.proofs.lemmas.Bool.Decides.{nat_tests}
use Rattle.law_port_facts.specs.port_model.Words.{Addr, Peer, State, Clearing, SynSent, Side, fresh, is_estab, SideByInstances, router, side_of, at, Setup, Label, Grant, GrantState, Idle, ByController, ByInput, Leaving, grant_label, Session, Work, next_side, closing, left_in, left_of, taking_back_in, taking_back, withdrawing_in, withdrawing_of, withdrawing, resets, restarts}
use Rattle.law_port_facts.specs.port_model.adjacency_table.Instances.{begun}
use Rattle.law_port_facts.specs.port_model.gsmp_wire.declared.request.Request.TheVariants.{DeleteAll}
use Rattle.law_port_facts.specs.ordered_lists.Ordered.{Every}
use Rattle.law_port_facts.proofs.ordered_lists.Every.{every_join}
use Rattle.law_port_facts.proofs.Keyed.{by_eq}
use Rattle.law_label_line.specs.Cells.{Role, Downstream, Upstream, Cell}
use Rattle.law_label_line.specs.Line as lines
use Rattle.law_label_line.specs.Line.{Line}
use Rattle.law_label_line.specs.Downstream as down
use Rattle.law_label_line.specs.Upstream as up
use Rattle.law_label_line.specs.Moves.{Restart, Release, Clear}
use Rattle.law_port_facts.specs.port_model.declared.action.Action.{Action}
use Rattle.law_port_facts.specs.port_model.declared.action.Action.TheVariants.{Say, Ask, Note, CutChain, TakeBack, Withdraw, Reset}
use Rattle.law_port_facts.specs.port_model.Port.{Port}
use Rattle.law_port_views.specs.Link.{LinkLabel}
use Rattle.law_port_views.specs.Flows.{flow_number}
use Rattle.law_port_views.specs.Heard.{IsOwn, asked, asked_all}
use Rattle.law_port_views.specs.Shown.{grant_in, GrantShows, IsLeft, IsLent, IsOfOther, Once, Shown}
use Rattle.law_port_views.specs.Reaching.{Reaches, clears_work}
use Rattle.law_port_views.proofs.Reach.{by_move, begins_by, aside}

-- *What is asked* but said
abbrev pub IsUnsaid : Action → Type 0
IsUnsaid (Say message) = ⊥
IsUnsaid action = Unit {0}

module _ (role : Role) (label : ℕ) where
  unsaid_none : (action : Action) → IsUnsaid action → asked role label action ≡ []
  unsaid_none (Say message) h = absurd h
  unsaid_none (Ask request needed) h = refl
  unsaid_none (Note item) h = refl
  unsaid_none (CutChain number) h = refl
  unsaid_none (TakeBack input output) h = refl
  unsaid_none (Withdraw input) h = refl
  unsaid_none Reset h = refl

  pub unsaid_all : (actions : List Action) → Every IsUnsaid actions → asked_all role label actions ≡ []
  unsaid_all [] h = refl
  unsaid_all (action ∷ actions) h = ap (λ (z : List Cell). z ++ asked_all role label actions) (unsaid_none action h.0) ∙ unsaid_all actions h.1

  pub asked_join : (xs ys : List Action) → asked_all role label (xs ++ ys) ≡ asked_all role label xs ++ asked_all role label ys
  asked_join [] ys = refl
  asked_join (x ∷ xs) ys = ap (λ (z : List Cell). asked role label x ++ z) (asked_join xs ys) ∙ sym (append_assoc (asked role label x) (asked_all role label xs) (asked_all role label ys))

  pub sent_unsaid : (queued sent : List Cell) (xs ys : List Action) → Every IsUnsaid ys → sent ≡ queued ++ asked_all role label xs
      → sent ≡ queued ++ asked_all role label (xs ++ ys)
  sent_unsaid queued sent xs ys h s = s ∙ ap (λ (z : List Cell). queued ++ z)
      (sym (asked_join xs ys ∙ (ap (λ (z : List Cell). asked_all role label xs ++ z) (unsaid_all ys h) ∙ append-nil (asked_all role label xs))))

own_unsaid : (far : Addr) (action : Action) → IsUnsaid action → IsOwn far action
own_unsaid far (Say message) h = absurd h
own_unsaid far (Ask request needed) h = tt
own_unsaid far (Note item) h = tt
own_unsaid far (CutChain number) h = tt
own_unsaid far (TakeBack input output) h = tt
own_unsaid far (Withdraw input) h = tt
own_unsaid far Reset h = tt

own_all : (far : Addr) (actions : List Action) → Every IsUnsaid actions → Every (IsOwn far) actions
own_all far [] h = tt
own_all far (action ∷ actions) h = (own_unsaid far action h.0, own_all far actions h.1)

-- *What a reset asks*
pub closing_unsaid : (setup : Setup) (o : Option Session) → Every IsUnsaid (closing setup o)
closing_unsaid setup None = tt
closing_unsaid setup (Some s) = (tt, each s.labels)
  where
    each : (labels : List Label) → Every IsUnsaid (map (λ label. CutChain label.number) labels)
    each [] = tt
    each (label ∷ labels) = (tt, each labels)

withdrawing_unsaid : (setup : Setup) (grants : List Grant) → Every IsUnsaid (withdrawing setup grants)
withdrawing_unsaid setup [] = tt
withdrawing_unsaid setup (grant ∷ grants) = every_join IsUnsaid (withdrawing_of setup grant) (withdrawing setup grants) (one grant.state) (withdrawing_unsaid setup grants)
  where
    one : (state : GrantState) → Every IsUnsaid (withdrawing_in setup grant.label state)
    one Idle = (tt, tt)
    one ByController = (tt, tt)
    one (ByInput input) = tt
    one (Leaving input owed) = tt

taking_unsaid : (setup : Setup) (grants : List Grant) → Every IsUnsaid (flat_map (taking_back setup) grants)
taking_unsaid setup [] = tt
taking_unsaid setup (grant ∷ grants) = every_join IsUnsaid (taking_back setup grant) (flat_map (taking_back setup) grants) (one grant.state) (taking_unsaid setup grants)
  where
    one : (state : GrantState) → Every IsUnsaid (taking_back_in setup grant state)
    one Idle = tt
    one ByController = tt
    one (ByInput input) = (tt, tt)
    one (Leaving input owed) = tt

abbrev pub resetting : Setup → Port → List Action
resetting setup port = closing setup port.session ++ (withdrawing setup port.grants
    ++ (flat_map (taking_back setup) port.grants ++ Ask (DeleteAll setup.port) true ∷ []))

pub resetting_unsaid : (setup : Setup) (port : Port) → Every IsUnsaid (resetting setup port)
resetting_unsaid setup port =
    every_join IsUnsaid (closing setup port.session) _ (closing_unsaid setup port.session)
    (every_join IsUnsaid (withdrawing setup port.grants) _ (withdrawing_unsaid setup port.grants)
    (every_join IsUnsaid (flat_map (taking_back setup) port.grants) _ (taking_unsaid setup port.grants) (tt, tt)))

pub reset_side : (setup : Setup) (own far : Addr) (instances n : ℕ) → setup.address ≡ own → n ≡ instances + 1
    → next_side setup instances ≡ side_of (router own) (router far) (begun Clearing n) 0
reset_side setup own far instances n address e =
    λ i. fresh Clearing (record { instance = record { 0 = sym e i }; address = address i })

-- how many instances were drawn elsewhere since the line last saw one
abbrev pub drawn_for : Work → Line → ℕ
drawn_for w line = w.instances + 1 - line.fresh

drawn_is : (w : Work) (line : Line) → line.fresh ≤ w.instances + 1 → line.fresh + drawn_for w line ≡ w.instances + 1
drawn_is w line h = omega (arith, h)

-- *Grants that a reset leaves*
left_lent : (k : lines.Grant) → IsLent k → IsLent (up.left_of k)
left_lent lines.NoGrant h = h
left_lent (lines.Idle flow) h = h
left_lent (lines.ByController flow) h = h
left_lent (lines.ByInput flow) h = tt
left_lent (lines.Leaving flow owed) h = tt

left_left : (k : lines.Grant) → IsLeft k → IsLeft (up.left_of k)
left_left lines.NoGrant h = h
left_left (lines.Idle flow) h = absurd h
left_left (lines.ByController flow) h = absurd h
left_left (lines.ByInput flow) h = absurd h
left_left (lines.Leaving flow owed) h = tt

left_any : (k : lines.Grant) → GrantShows Clearing None (up.left_of k)
left_any lines.NoGrant = inl refl
left_any (lines.Idle flow) = inl refl
left_any (lines.ByController flow) = inl refl
left_any (lines.ByInput flow) = inr (tt, refl)
left_any (lines.Leaving flow owed) = inr (tt, refl)

module _ (label : ℕ) where
  others_left : (grant : Grant) (state : GrantState) → grant.label ≢ label → Every (IsOfOther label) (left_in grant state)
  others_left grant Idle n = tt
  others_left grant ByController n = tt
  others_left grant (ByInput input) n = (n, tt)
  others_left grant (Leaving input owed) n = (n, tt)

  others_kept : (grants : List Grant) → Every (IsOfOther label) grants → Every (IsOfOther label) (flat_map left_of grants)
  others_kept [] h = tt
  others_kept (g ∷ grants) h = every_join (IsOfOther label) (left_of g) (flat_map left_of grants) (others_left g g.state h.0) (others_kept grants h.1)

  once_front : (grant : Grant) (state : GrantState) (rest : List Grant) → (grant.label ≡ label → Every (IsOfOther label) rest) → Once label rest
      → Once label (left_in grant state ++ rest)
  once_front grant Idle rest f h = h
  once_front grant ByController rest f h = h
  once_front grant (ByInput input) rest f h = (f, h)
  once_front grant (Leaving input owed) rest f h = (f, h)

  pub once_left : (grants : List Grant) → Once label grants → Once label (flat_map left_of grants)
  once_left [] h = tt
  once_left (g ∷ grants) h = once_front g g.state (flat_map left_of grants) (λ (e : g.label ≡ label). others_kept grants (h.0 e)) (once_left grants h.1)

  none_of_others : (grants : List Grant) → Every (IsOfOther label) grants → at grant_label label grants ≡ None
  none_of_others [] h = refl
  none_of_others (g ∷ grants) h = by_eq g.label label (λ e t. absurd (h.0 e))
      (λ n t. ap (λ (b : Bool). if b then Some g else at grant_label label grants) t ∙ none_of_others grants h.1)

  passed_over : (grant : Grant) (state : GrantState) (rest : List Grant) → grant.label ≢ label
      → at grant_label label (left_in grant state ++ rest) ≡ at grant_label label rest
  passed_over grant Idle rest n = refl
  passed_over grant ByController rest n = refl
  passed_over grant (ByInput input) rest n = grind (arith, nat_tests, n)
  passed_over grant (Leaving input owed) rest n = grind (arith, nat_tests, n)

  here_is : (grant : Grant) (rest : List Grant) → grant.label ≡ label → at grant_label label (grant ∷ rest) ≡ Some grant
  here_is grant rest e = grind (arith, nat_tests, e)

  kept_first : (grant : Grant) (s : GrantState) (rest : List Grant) (k : lines.Grant) → grant.label ≡ label → at grant_label label rest ≡ None
      → k ≡ grant_in (flow_number grant.flow) s → GrantShows Clearing (at grant_label label (left_in grant s ++ rest)) (up.left_of k)
  kept_first grant Idle rest k same none e = subst (λ (o : Option Grant). GrantShows Clearing o (up.left_of k)) (sym none) (left_any k)
  kept_first grant ByController rest k same none e = subst (λ (o : Option Grant). GrantShows Clearing o (up.left_of k)) (sym none) (left_any k)
  kept_first grant (ByInput input) rest k same none e = subst (λ (o : Option Grant). GrantShows Clearing o (up.left_of k))
      (sym (here_is (record grant { state = Leaving input false }) rest same)) (ap up.left_of e)
  kept_first grant (Leaving input owed) rest k same none e = subst (λ (o : Option Grant). GrantShows Clearing o (up.left_of k))
      (sym (here_is (record grant { state = Leaving input false }) rest same)) (ap up.left_of e)

  pub left_shows : (state : State) (grants : List Grant) (k : lines.Grant) → Once label grants → GrantShows state (at grant_label label grants) k
      → GrantShows Clearing (at grant_label label (flat_map left_of grants)) (up.left_of k)
  left_shows state [] k once h = left_any k
  left_shows state (g ∷ grants) k once h = by_eq g.label label
      (λ e t. kept_first g g.state (flat_map left_of grants) k e (none_of_others (flat_map left_of grants) (others_kept grants (once.0 e)))
      (subst (λ (o : Option Grant). GrantShows state o k) (here_is g grants e) h))
      (λ n t. subst (λ (o : Option Grant). GrantShows Clearing o (up.left_of k)) (sym (passed_over g g.state (flat_map left_of grants) n))
      (left_shows state grants k once.1 (subst (λ (b : Bool). GrantShows state (if b then Some g else at grant_label label grants) k) t h)))

module _ (link : LinkLabel) (like : Type 0) (queued : List Cell) where
  -- *A reset*, and the port's part of a restart of the node
  pub resets_down : (setup : Setup) (w : Work) (line : Line) → setup.address ≡ link.address Downstream → Shown Downstream link like queued w line
      → Shown Downstream link like queued (resets setup w) (down.resets_downstream line (drawn_for w line))
  resets_down setup w line address h =
      let more : List Action = resetting setup w.port in
      let is : line.fresh + drawn_for w line ≡ w.instances + 1 = drawn_is w line h.drawn in
      record {
        side = reset_side setup (link.address Downstream) (link.address Upstream) w.instances (line.fresh + drawn_for w line) address is;
        session = refl;
        label = refl;
        flow = refl;
        number = refl;
        unspent = omega arith;
        known = refl;
        reassembled = refl;
        drawn = omega (arith, is);
        own = every_join (IsOwn (link.address Upstream)) w.actions more h.own (own_all (link.address Upstream) more (resetting_unsaid setup w.port));
        sent = sent_unsaid Downstream link.label queued line.to_upstream.to_switch w.actions more (resetting_unsaid setup w.port) h.sent;
      }

  pub resets_up : (setup : Setup) (w : Work) (line : Line) → setup.address ≡ link.address Upstream → Shown Upstream link like queued w line
      → Shown Upstream link like queued (resets setup w) (up.resets_upstream line (drawn_for w line))
  resets_up setup w line address h =
      let more : List Action = resetting setup w.port in
      let is : line.fresh + drawn_for w line ≡ w.instances + 1 = drawn_is w line h.drawn in
      record {
        side = reset_side setup (link.address Upstream) (link.address Downstream) w.instances (line.fresh + drawn_for w line) address is;
        session = refl;
        grant = left_shows link.label line.upstream.state w.port.grants line.grant h.once h.grant;
        once = once_left link.label w.port.grants h.once;
        lent = λ l. left_lent line.grant (h.lent l);
        expected = refl;
        drawn = omega (arith, is);
        own = every_join (IsOwn (link.address Downstream)) w.actions more h.own (own_all (link.address Downstream) more (resetting_unsaid setup w.port));
        sent = sent_unsaid Upstream link.label queued line.to_downstream.to_switch w.actions more (resetting_unsaid setup w.port) h.sent;
      }

  pub restarts_down : (setup : Setup) (w : Work) (line : Line) → setup.address ≡ link.address Downstream → Shown Downstream link like queued w line
      → Shown Downstream link like queued (restarts setup w) (down.resets_downstream line (drawn_for w line))
  restarts_down setup w line address h =
      let more : List Action = closing setup w.port.session in
      let is : line.fresh + drawn_for w line ≡ w.instances + 1 = drawn_is w line h.drawn in
      record {
        side = reset_side setup (link.address Downstream) (link.address Upstream) w.instances (line.fresh + drawn_for w line) address is;
        session = refl;
        label = refl;
        flow = refl;
        number = refl;
        unspent = omega arith;
        known = refl;
        reassembled = refl;
        drawn = omega (arith, is);
        own = every_join (IsOwn (link.address Upstream)) w.actions more h.own (own_all (link.address Upstream) more (closing_unsaid setup w.port.session));
        sent = sent_unsaid Downstream link.label queued line.to_upstream.to_switch w.actions more (closing_unsaid setup w.port.session) h.sent;
      }

  pub restarts_up : (setup : Setup) (w : Work) (line : Line) → setup.address ≡ link.address Upstream → Shown Upstream link like queued w line
      → Shown Upstream link like queued (restarts setup w) (up.resets_upstream line (drawn_for w line))
  restarts_up setup w line address h =
      let more : List Action = closing setup w.port.session in
      let is : line.fresh + drawn_for w line ≡ w.instances + 1 = drawn_is w line h.drawn in
      record {
        side = reset_side setup (link.address Upstream) (link.address Downstream) w.instances (line.fresh + drawn_for w line) address is;
        session = refl;
        grant = left_any line.grant;
        once = tt;
        lent = λ l. left_lent line.grant (h.lent l);
        expected = refl;
        drawn = omega (arith, is);
        own = every_join (IsOwn (link.address Downstream)) w.actions more h.own (own_all (link.address Downstream) more (closing_unsaid setup w.port.session));
        sent = sent_unsaid Upstream link.label queued line.to_downstream.to_switch w.actions more (closing_unsaid setup w.port.session) h.sent;
      }

  -- for both ends
  pub resets_reach : (role : Role) (setup : Setup) (w : Work) (line : Line) → setup.address ≡ link.address role → Shown role link like queued w line
      → Reaches role link like queued (resets setup w) line
  resets_reach Downstream setup w line address h = by_move Downstream link like queued (resets setup w) line (down.resets_downstream line (drawn_for w line))
      (Restart Downstream (drawn_for w line)) refl (resets_down setup w line address h) refl
  resets_reach Upstream setup w line address h = by_move Upstream link like queued (resets setup w) line (up.resets_upstream line (drawn_for w line))
      (Restart Upstream (drawn_for w line)) refl (resets_up setup w line address h) refl

  pub restarts_reach : (role : Role) (setup : Setup) (w : Work) (line : Line) → setup.address ≡ link.address role → Shown role link like queued w line
      → Reaches role link like queued (restarts setup w) line
  restarts_reach Downstream setup w line address h = by_move Downstream link like queued (restarts setup w) line (down.resets_downstream line (drawn_for w line))
      (Restart Downstream (drawn_for w line)) refl (restarts_down setup w line address h) refl
  restarts_reach Upstream setup w line address h = by_move Upstream link like queued (restarts setup w) line (up.resets_upstream line (drawn_for w line))
      (Restart Upstream (drawn_for w line)) refl (restarts_up setup w line address h) refl

-- *Cleared*: by then no grant is left, and no join to the label
cleared_side : (own far : ℕ → Peer) (side : SideByInstances) (a : Side Peer) → side.state ≡ Clearing → a ≡ side_of own far side a.silence
    → record a { state = SynSent } ≡ side_of own far (record side { state = SynSent }) a.silence
cleared_side own far side a clearing e =
    ap (λ (z : Side Peer). record z { state = SynSent }) (e ∙ ap (λ (state : State). side_of own far (record side { state = state }) a.silence) clearing)

module _ (link : LinkLabel) (like : Type 0) (queued : List Cell) where
  shut : (o : Option Session) (state : State) → state ≡ Clearing → is_some o ≡ is_estab state → is_some o ≡ false
  shut o state clearing e = e ∙ ap is_estab clearing

  clears_down : (w : Work) (line : Line) → line.downstream.state ≡ Clearing → Shown Downstream link like queued w line
      → Reaches Downstream link like queued (clears_work w) line
  clears_down w line clearing h =
      let after : Line = record line {
        downstream = record (line.downstream) { state = SynSent };
        downstream_cleared = lines.also_under line.downstream.own line.downstream_cleared;
      } in
      by_move Downstream link like queued (clears_work w) line after (Clear Downstream)
      (ap (λ (state : State). if lines.is_clearing state then after else line) clearing)
      (record {
        side = cleared_side (router (link.address Downstream)) (router (link.address Upstream)) line.downstream w.port.adjacency clearing h.side;
        session = shut w.port.session line.downstream.state clearing h.session;
        label = h.label;
        flow = h.flow;
        number = h.number;
        unspent = h.unspent;
        known = h.known;
        reassembled = h.reassembled;
        drawn = h.drawn;
        own = h.own;
        sent = h.sent;
      }) refl

  cleared_up : (w : Work) (line : Line) → (like → ⊥) → w.port.grants ≡ [] → line.upstream.state ≡ Clearing → line.grant ≡ lines.NoGrant
      → Shown Upstream link like queued w line → Reaches Upstream link like queued (clears_work w) line
  cleared_up w line unlike none clearing no_grant h =
      let after : Line = record line {
        upstream = record (line.upstream) { state = SynSent };
        upstream_cleared = lines.also_under line.upstream.own line.upstream_cleared;
      } in
      by_move Upstream link like queued (clears_work w) line after (Clear Upstream)
      (ap (λ (k : lines.Grant). up.clears_upstream line k) no_grant ∙ ap (λ (state : State). if lines.is_clearing state then after else line) clearing)
      (record {
        side = cleared_side (router (link.address Upstream)) (router (link.address Downstream)) line.upstream w.port.adjacency clearing h.side;
        session = shut w.port.session line.upstream.state clearing h.session;
        grant = subst (λ (grants : List Grant). GrantShows SynSent (at grant_label link.label grants) line.grant) (sym none) (inl no_grant);
        once = h.once;
        lent = h.lent;
        expected = h.expected;
        drawn = h.drawn;
        own = h.own;
        sent = h.sent;
      }) refl

  released_left : (line : Line) (k : lines.Grant) → IsLeft k → line.grant ≡ k → up.released line line.grant ≡ record line { grant = lines.NoGrant }
  released_left line lines.NoGrant h e = absurd h
  released_left line (lines.Idle flow) h e = absurd h
  released_left line (lines.ByController flow) h e = absurd h
  released_left line (lines.ByInput flow) h e = absurd h
  released_left line (lines.Leaving flow true) h e = absurd h
  released_left line (lines.Leaving flow false) h e = ap (up.released line) e

  clears_up : (w : Work) (line : Line) → (like → ⊥) → w.port.grants ≡ [] → line.upstream.state ≡ Clearing → Shown Upstream link like queued w line
      → Reaches Upstream link like queued (clears_work w) line
  clears_up w line unlike none clearing h = by (subst (λ (grants : List Grant). GrantShows line.upstream.state (at grant_label link.label grants) line.grant) none h.grant)
    where
      bare : Line
      bare = record line { grant = lines.NoGrant }

      by : GrantShows line.upstream.state None line.grant → Reaches Upstream link like queued (clears_work w) line
      by (inl no_grant) = cleared_up w line unlike none clearing no_grant h
      by (inr left) = begins_by Upstream link like queued (clears_work w) line bare line Release (released_left line line.grant left.0 refl)
          (aside Upstream link like queued (clears_work w) bare bare line refl
          (cleared_up w bare unlike none clearing refl (record {
            side = h.side;
            session = h.session;
            grant = subst (λ (grants : List Grant). GrantShows line.upstream.state (at grant_label link.label grants) lines.NoGrant) (sym none) (inl refl);
            once = h.once;
            lent = λ l. absurd (unlike l);
            expected = h.expected;
            drawn = h.drawn;
            own = h.own;
            sent = h.sent;
          })))

  pub clears_reach : (role : Role) (w : Work) (line : Line) → (like → ⊥) → w.port.grants ≡ [] → w.port.adjacency.state ≡ Clearing → Shown role link like queued w line
      → Reaches role link like queued (clears_work w) line
  clears_reach Downstream w line unlike none clearing h = clears_down w line (sym (ap (λ (a : Side Peer). a.state) h.side) ∙ clearing) h
  clears_reach Upstream w line unlike none clearing h = clears_up w line unlike none (sym (ap (λ (a : Side Peer). a.state) h.side) ∙ clearing) h
