-- a success of the switch is answered: a label is bound or free, or a grant can be used; and a label is used, joined or
-- parted

use Rattle.std.proofs.Common.{◌≡◌, ◌≢◌, ℕ, ◌≤◌, Bool, true, false, List, [], Option, None, Some, refl, sym, ◌∙◌, ap, subst, if◌then◌else◌}
use Rattle.std.specs.Prelude.{◌==◌}
use Rattle.std.specs.Option.{option_map_or}
use Rattle.law_port_facts.specs.port_model.Words.{End, label_number_of, number_of_channel, is_label_number, Request, AddBranch, MoveBranch, DeleteTree, VerifyTree, PortManagement, Bind, Free, at, put, Setup, Label, LabelState, Wiring, Offered, Recalled, Wired, label_number, Grant, GrantState, Idle, ByController, ByInput, Leaving, grant_label, grant_on, Session, Work, with_label, without_label, with_grant, label_at, labels_of, last_number, own_instance, redirect, used_label, used, joins_label, parted, lent, label_by, bound_in, bound, freed_in, freed, started_in, started, joined_to}
use Rattle.law_port_facts.specs.port_model.gsmp_wire.declared.request.Request.TheVariants.{DeleteAll, AllPorts}
use Rattle.law_port_facts.specs.port_model.link_model.declared.record.Record.TheVariants.{Join}
use Rattle.law_port_facts.proofs.Keyed.{on_both, by_eq, at_key}
use Rattle.law_label_line.specs.Cells as lines
use Rattle.law_label_line.specs.Cells.{Role, Downstream, Upstream, Cell}
use Rattle.law_label_line.specs.Line as states
use Rattle.law_label_line.specs.Line.{Line}
use Rattle.law_label_line.specs.Downstream as down
use Rattle.law_label_line.specs.Upstream as up
use Rattle.law_label_line.specs.Moves as moves
use Rattle.law_port_facts.specs.port_model.declared.action.Action.TheVariants.{Note}
use Rattle.law_port_facts.specs.port_model.Port.{with_action}
use Rattle.law_port_facts.specs.port_model.Saying.{peer_instance, says}
use Rattle.law_port_facts.specs.port_model.Joins.{joined}
use Rattle.law_port_facts.specs.port_model.Answers.{done}
use Rattle.law_port_views.specs.Link.{LinkLabel}
use Rattle.law_port_views.specs.Flows.{flow_number}
use Rattle.law_port_views.specs.Shown.{label_of, flow_of, number_of, grant_in, IsLent, Shown}
use Rattle.law_port_views.specs.Reaching.{Reaches, Leads}
use Rattle.law_port_views.proofs.Reach.{stays, by_move, begins_by, aside, leads_on}
use Rattle.law_port_views.proofs.Says.{acts_quiet}
use Rattle.law_port_views.proofs.Live.{live_session, live_acts, idle_acts, idle_session, idle_says, idle_grants}
use Rattle.law_port_views.proofs.Tells.{estab_down, own_down, peer_down, says_down, says_unheard}
use Rattle.law_port_views.proofs.Labels.{labelled, own_label, other_label, own_freed, other_freed, label_up, freed_up}
use Rattle.law_port_views.proofs.Grants.{grants_down, own_grant, other_grant}
use Rattle.law_port_views.proofs.Granting.{some_shown as shown_as}
use Rattle.law_port_views.proofs.Recalling.{HasRoom, room_session, room_acts, session_room, names_own, names_other, still, self, tells_others}

module _ (link : LinkLabel) (like : Type 0) (queued : List Cell) where
  -- *A label of the port is another* now: one that the line doesn't follow, or its own
  relabels : (w : Work) (x after : Label) (o : Option Session) (b : Bool) → w.halted ≡ b → w.port.session ≡ o → label_at w.port x.number ≡ Some x → after.number ≡ x.number
      → ((s : Session) → w.halted ≡ false → w.port.session ≡ Some s → label_at w.port link.label ≡ Some x → after.number ≡ link.label → Leads Downstream link like queued w (with_label w after))
      → Leads Downstream link like queued w (with_label w after)
  relabels w x after o true halted opened found number own =
      λ line h. subst (λ (v : Work). Reaches Downstream link like queued v line) (sym (idle_session w (λ z. record z { labels = put label_number after z.labels }) halted)) (self link like queued w line h)
  relabels w x after None false live opened found number own =
      let none : label_at w.port x.number ≡ None = ap (λ (o : Option Session). at label_number x.number (option_map_or (λ (z : Session). z.labels) o [])) opened in
      absurd (cc (none, found))
  relabels w x after (Some s) false live opened found number own =
      by_eq x.number link.label
      (λ e t. own s live opened (subst (λ (n : ℕ). label_at w.port n ≡ Some x) e found) (number ∙ e))
      (λ apart t. still link like queued w (with_label w after) (λ line h. other_label link like queued w s after line live opened (λ (i : after.number ≡ link.label). apart (sym number ∙ i)) h))

  -- its state and its flow stay
  pub keeps : (w : Work) (x after : Label) → label_at w.port x.number ≡ Some x → after.number ≡ x.number → label_of (Some after) ≡ label_of (Some x)
      → ((f : ℕ) → flow_of f (Some after) ≡ flow_of f (Some x)) → Leads Downstream link like queued w (with_label w after)
  keeps w x after found number label flow = relabels w x after w.port.session w.halted refl refl found number
      (λ s live opened own e. still link like queued w (with_label w after) (λ line h. own_label link like queued w s x after line line.label line.flow live opened own e
      (h.label ∙ (ap label_of own ∙ sym label)) (h.flow ∙ (ap (flow_of line.flow) own ∙ sym (flow line.flow))) h))

  at_own : (w : Work) (n : ℕ) (x : Label) → label_at w.port n ≡ Some x → label_at w.port x.number ≡ Some x
  at_own w n x found = subst (λ (k : ℕ). label_at w.port k ≡ Some x) (sym (at_key label_number n (labels_of w.port) x found)) found

  -- *It is used, joined, or parted*
  used_by : (role : Role) (w : Work) (n : ℕ) (o : Option Label) → label_at w.port n ≡ o → Leads role link like queued w (used_label w o)
  used_by role w n None found = λ line h. stays role link like queued w line h
  used_by Downstream w n (Some x) found = keeps w x (record x { idle = 0 }) (at_own w n x found) refl refl (λ f. refl)
  used_by Upstream w n (Some x) found = λ line h. stays Upstream link like queued (with_label w (record x { idle = 0 })) line (label_up link like queued w (record x { idle = 0 }) line h)

  joins_by : (role : Role) (w : Work) (join : Option End) (n : ℕ) (o : Option Label) → label_at w.port n ≡ o → Leads role link like queued w (joins_label w join o)
  joins_by role w join n None found = λ line h. stays role link like queued w line h
  joins_by Downstream w join n (Some x) found = keeps w x (record x { join = join }) (at_own w n x found) refl refl (λ f. refl)
  joins_by Upstream w join n (Some x) found = λ line h. stays Upstream link like queued (with_label w (record x { join = join })) line (label_up link like queued w (record x { join = join }) line h)

  pub used_leads : (role : Role) (w : Work) (n : ℕ) → Leads role link like queued w (used w n)
  used_leads role w n = used_by role w n (label_at w.port n) refl

  pub joined_leads : (role : Role) (w : Work) (n : ℕ) (output : End) → Leads role link like queued w (joined w n output)
  joined_leads role w n output = joins_by role w (Some output) n (label_at w.port n) refl

  pub parted_leads : (role : Role) (w : Work) (n : ℕ) → Leads role link like queued w (parted w n)
  parted_leads role w n = joins_by role w None n (label_at w.port n) refl

  -- *The branch of a label is made*: it is bound, and REDIRECT is said
  bound_own : (setup : Setup) (w : Work) (s : Session) (x : Label) → w.halted ≡ false → w.port.session ≡ Some s → s.number ≤ last_number → label_at w.port link.label ≡ Some x
      → x.number ≡ link.label → is_label_number link.label ≡ true → x.state ≡ Wiring → Leads Downstream link like queued w (bound_in setup w x Wiring)
  bound_own setup w s x live opened room found number in_range wiring line h =
      let after : Label = record x { state = Offered } in
      let v : Work = with_label w after in
      let u : Work = with_action v (Note (Bind setup.node setup.port x.number x.flow)) in
      let t : Session = record s { labels = put label_number after s.labels } in
      let f : ℕ = flow_number x.flow in
      let at_v : Line = labelled line states.Offered f in
      let said : lines.Message = lines.Redirect line.downstream.own line.downstream.stored line.number f in
      let count : line.number ≡ s.number = h.number ∙ ap number_of opened in
      let shown : Shown Downstream link like queued u at_v
      = acts_quiet link like queued Downstream v (Note (Bind setup.node setup.port x.number x.flow)) at_v (record { none = refl; own = tt })
      (own_label link like queued w s x after line states.Offered f live opened found number refl refl h) in
      let live_v : v.halted ≡ false = live_session (λ (z : Work). z.halted ≡ false) w s (λ z. record z { labels = put label_number after z.labels }) live opened live in
      let opened_v : v.port.session ≡ Some t = live_session (λ (z : Work). z.port.session ≡ Some t) w s (λ z. record z { labels = put label_number after z.labels }) live opened refl in
      let live_u : u.halted ≡ false = live_acts (λ (z : Work). z.halted ≡ false) v (Note (Bind setup.node setup.port x.number x.flow)) live_v live_v in
      let opened_u : u.port.session ≡ Some t = live_acts (λ (z : Work). z.port.session ≡ Some t) v (Note (Bind setup.node setup.port x.number x.flow)) live_v opened_v in
      begins_by Downstream link like queued (says u (redirect setup x)) line (down.sends_numbered at_v said) line moves.Bind
      (ap (down.bind line) (h.label ∙ (ap label_of found ∙ wiring_is x wiring)))
      (aside Downstream link like queued (says u (redirect setup x)) (down.sends_numbered at_v said) at_v line refl
      (says_down link like queued u t (redirect setup x) said at_v live_u opened_u room
      (ap (λ (b : Bool). Some (if b then lines.Redirect (own_instance u.port.adjacency).0 (peer_instance u.port.adjacency).0 s.number f
      else lines.Other (own_instance u.port.adjacency).0 (peer_instance u.port.adjacency).0 s.number)) (names_own link.label x.number in_range number)
      ∙ (λ i. Some (lines.Redirect (own_down link like queued u at_v shown i).0 (peer_down link like queued u at_v (estab_down link like queued u t at_v opened_u shown) shown i).0
      (sym count i) f)))
      (λ own peer n e. e) shown))
    where
      wiring_is : (x : Label) → x.state ≡ Wiring → label_of (Some x) ≡ states.Wiring (flow_number x.flow)
      wiring_is x e = ap (λ (z : LabelState). label_of (Some (record x { state = z }))) e

  bound_other : (setup : Setup) (w : Work) (s : Session) (x : Label) → w.halted ≡ false → w.port.session ≡ Some s → HasRoom w → x.number ≢ link.label
      → Leads Downstream link like queued w (bound_in setup w x Wiring)
  bound_other setup w s x live opened room apart =
      let after : Label = record x { state = Offered } in
      let v : Work = with_label w after in
      let u : Work = with_action v (Note (Bind setup.node setup.port x.number x.flow)) in
      leads_on Downstream link like queued w u (says u (redirect setup x))
      (still link like queued w u (λ line h. acts_quiet link like queued Downstream v (Note (Bind setup.node setup.port x.number x.flow)) line (record { none = refl; own = tt })
      (other_label link like queued w s after line live opened apart h)))
      (tells_others link like queued u (redirect setup x)
      (room_acts v (Note (Bind setup.node setup.port x.number x.flow)) (room_session w (λ z. record z { labels = put label_number after z.labels }) (λ z. refl) room))
      (λ own peer n. ap (λ (b : Bool). Some (if b then lines.Redirect own.0 peer.0 n (flow_number x.flow) else lines.Other own.0 peer.0 n)) (names_other link.label x.number apart))
      (λ own peer n e. e))

  idle_bound : (setup : Setup) (w : Work) (x : Label) → w.halted ≡ true → bound_in setup w x Wiring ≡ w
  idle_bound setup w x halted =
      let after : Label = record x { state = Offered } in
      ap (λ (z : Work). says (with_action z (Note (Bind setup.node setup.port x.number x.flow))) (redirect setup x))
      (idle_session w (λ z. record z { labels = put label_number after z.labels }) halted)
      ∙ (ap (λ (z : Work). says z (redirect setup x)) (idle_acts w (Note (Bind setup.node setup.port x.number x.flow)) halted) ∙ idle_says w (redirect setup x) halted)

  bound_wiring : (setup : Setup) (w : Work) (x : Label) (o : Option Session) (b : Bool) → w.halted ≡ b → w.port.session ≡ o → HasRoom w → label_at w.port x.number ≡ Some x
      → is_label_number link.label ≡ true → x.state ≡ Wiring → Leads Downstream link like queued w (bound_in setup w x Wiring)
  bound_wiring setup w x o true halted opened room found in_range wiring =
      λ line h. subst (λ (v : Work). Reaches Downstream link like queued v line) (sym (idle_bound setup w x halted)) (self link like queued w line h)
  bound_wiring setup w x None false live opened room found in_range wiring =
      let none : label_at w.port x.number ≡ None = ap (λ (o : Option Session). at label_number x.number (option_map_or (λ (z : Session). z.labels) o [])) opened in
      absurd (cc (none, found))
  bound_wiring setup w x (Some s) false live opened room found in_range wiring =
      by_eq x.number link.label
      (λ e t. bound_own setup w s x live opened (session_room w.port.session s opened (room live)) (subst (λ (n : ℕ). label_at w.port n ≡ Some x) e found) e in_range wiring)
      (λ apart t. bound_other setup w s x live opened room apart)

  bound_down : (setup : Setup) (w : Work) (x : Label) (state : LabelState) → HasRoom w → label_at w.port x.number ≡ Some x → is_label_number link.label ≡ true → x.state ≡ state
      → Leads Downstream link like queued w (bound_in setup w x state)
  bound_down setup w x Wiring room found in_range e = bound_wiring setup w x w.port.session w.halted refl refl room found in_range e
  bound_down setup w x Offered room found in_range e = self link like queued w
  bound_down setup w x (Recalled last acknowledged) room found in_range e = self link like queued w
  bound_down setup w x Wired room found in_range e = self link like queued w

  bound_up : (setup : Setup) (w : Work) (x : Label) (state : LabelState) → Leads Upstream link like queued w (bound_in setup w x state)
  bound_up setup w x Wiring = λ line h. stays Upstream link like queued (bound_in setup w x Wiring) line
      (says_unheard link like queued (with_action (with_label w (record x { state = Offered })) (Note (Bind setup.node setup.port x.number x.flow))) (redirect setup x) line
      (λ own peer n. refl) (λ own peer n e. e)
      (acts_quiet link like queued Upstream (with_label w (record x { state = Offered })) (Note (Bind setup.node setup.port x.number x.flow)) line (record { none = refl; own = tt })
      (label_up link like queued w (record x { state = Offered }) line h)))
  bound_up setup w x Offered = λ line h. stays Upstream link like queued w line h
  bound_up setup w x (Recalled last acknowledged) = λ line h. stays Upstream link like queued w line h
  bound_up setup w x Wired = λ line h. stays Upstream link like queued w line h

  bound_by : (role : Role) (setup : Setup) (w : Work) (k : Option ℕ) (o : Option Label) → HasRoom w → is_label_number link.label ≡ true → label_by w.port k ≡ o
      → Leads role link like queued w (bound setup w o)
  bound_by role setup w k None room in_range found = λ line h. stays role link like queued w line h
  bound_by Downstream setup w None (Some x) room in_range found = absurd (cc found)
  bound_by Downstream setup w (Some n) (Some x) room in_range found = bound_down setup w x x.state room (at_own w n x found) in_range refl
  bound_by Upstream setup w k (Some x) room in_range found = bound_up setup w x x.state

  -- *The branch of a label is deleted*: it is spare
  freed_of : (setup : Setup) (w : Work) (x : Label) (o : Option Session) (b : Bool) → w.halted ≡ b → w.port.session ≡ o → label_at w.port x.number ≡ Some x → x.state ≡ Wired
      → Leads Downstream link like queued w (without_label w x.number)
  freed_of setup w x o true halted opened found wired =
      λ line h. subst (λ (v : Work). Reaches Downstream link like queued v line) (sym (idle_session w _ halted)) (self link like queued w line h)
  freed_of setup w x None false live opened found wired =
      let none : label_at w.port x.number ≡ None = ap (λ (o : Option Session). at label_number x.number (option_map_or (λ (z : Session). z.labels) o [])) opened in
      absurd (cc (none, found))
  freed_of setup w x (Some s) false live opened found wired =
      by_eq x.number link.label
      (λ e t line h. by_move Downstream link like queued (without_label w x.number) line (labelled line states.Spare line.flow) moves.Free
      (ap (down.free line) (h.label ∙ (ap label_of (subst (λ (n : ℕ). label_at w.port n ≡ Some x) e found) ∙ wired_is x wired)))
      (own_freed link like queued w s x.number line live opened e h) refl)
      (λ apart t. still link like queued w (without_label w x.number) (λ line h. other_freed link like queued w s x.number line live opened apart h))
    where
      wired_is : (x : Label) → x.state ≡ Wired → label_of (Some x) ≡ states.Wired
      wired_is x e = ap (λ (z : LabelState). label_of (Some (record x { state = z }))) e

  notes_free : (role : Role) (setup : Setup) (w : Work) (n : ℕ) → Leads role link like queued w (with_action w (Note (Free setup.node setup.port n)))
  notes_free role setup w n = λ line h. stays role link like queued (with_action w (Note (Free setup.node setup.port n))) line
      (acts_quiet link like queued role w (Note (Free setup.node setup.port n)) line (record { none = refl; own = tt }) h)

  freed_down : (setup : Setup) (w : Work) (x : Label) (state : LabelState) → label_at w.port x.number ≡ Some x → x.state ≡ state → Leads Downstream link like queued w (freed_in setup w x state)
  freed_down setup w x Wired found e = leads_on Downstream link like queued w (without_label w x.number) (freed_in setup w x Wired)
      (freed_of setup w x w.port.session w.halted refl refl found e) (notes_free Downstream setup (without_label w x.number) x.number)
  freed_down setup w x Wiring found e = self link like queued w
  freed_down setup w x Offered found e = self link like queued w
  freed_down setup w x (Recalled last acknowledged) found e = self link like queued w

  free_up : (setup : Setup) (w : Work) (x : Label) (state : LabelState) → Leads Upstream link like queued w (freed_in setup w x state)
  free_up setup w x Wired = leads_on Upstream link like queued w (without_label w x.number) (freed_in setup w x Wired)
      (λ line h. stays Upstream link like queued (without_label w x.number) line (freed_up link like queued w x.number line h)) (notes_free Upstream setup (without_label w x.number) x.number)
  free_up setup w x Wiring = λ line h. stays Upstream link like queued w line h
  free_up setup w x Offered = λ line h. stays Upstream link like queued w line h
  free_up setup w x (Recalled last acknowledged) = λ line h. stays Upstream link like queued w line h

  freed_by : (role : Role) (setup : Setup) (w : Work) (k : Option ℕ) (o : Option Label) → label_by w.port k ≡ o → Leads role link like queued w (freed setup w o)
  freed_by role setup w k None found = λ line h. stays role link like queued w line h
  freed_by Downstream setup w None (Some x) found = absurd (cc found)
  freed_by Downstream setup w (Some n) (Some x) found = freed_down setup w x x.state (at_own w n x found) refl
  freed_by Upstream setup w k (Some x) found = free_up setup w x x.state

  -- *The branch of a grant is made*: the controller may send under it
  started_of : (w : Work) (g : Grant) (b : Bool) → w.halted ≡ b → at grant_label g.label w.port.grants ≡ Some g → g.state ≡ Idle
      → Leads Upstream link like queued w (with_grant w (record g { state = ByController }))
  started_of w g true halted found idle =
      λ line h. subst (λ (v : Work). Reaches Upstream link like queued v line) (sym (idle_grants w _ halted)) (stays Upstream link like queued w line h)
  started_of w g false live found idle =
      by_eq g.label link.label
      (λ e t line h.
      let at_it : at grant_label link.label w.port.grants ≡ Some g = subst (λ (n : ℕ). at grant_label n w.port.grants ≡ Some g) e found in
      let is : line.grant ≡ states.Idle (flow_number g.flow) = is_idle w line g at_it idle h in
      by_move Upstream link like queued (with_grant w (record g { state = ByController })) line (record line { grant = states.ByController (flow_number g.flow) }) moves.Start
      (ap (up.started line) is)
      (own_grant link like queued w g (record g { state = ByController }) line (states.ByController (flow_number g.flow)) live at_it e refl
      (λ l. absurd (subst (λ (k : states.Grant). IsLent k) is (h.lent l))) h) refl)
      (λ apart t line h. stays Upstream link like queued (with_grant w (record g { state = ByController })) line
      (other_grant link like queued w (record g { state = ByController }) line apart h))
    where
      is_idle : (w : Work) (line : Line) (g : Grant) → at grant_label link.label w.port.grants ≡ Some g → g.state ≡ Idle → Shown Upstream link like queued w line
          → line.grant ≡ states.Idle (flow_number g.flow)
      is_idle w line g found idle h = shown_as link like queued w line g found h ∙ ap (grant_in (flow_number g.flow)) idle

  started_up : (w : Work) (g : Grant) (state : GrantState) → at grant_label g.label w.port.grants ≡ Some g → g.state ≡ state → Leads Upstream link like queued w (started_in w g state)
  started_up w g Idle found e = started_of w g w.halted refl found e
  started_up w g ByController found e = λ line h. stays Upstream link like queued w line h
  started_up w g (ByInput input) found e = λ line h. stays Upstream link like queued w line h
  started_up w g (Leaving input owed) found e = λ line h. stays Upstream link like queued w line h

  started_down : (w : Work) (g : Grant) (state : GrantState) → Leads Downstream link like queued w (started_in w g state)
  started_down w g Idle = still link like queued w (with_grant w (record g { state = ByController })) (λ line h. grants_down link like queued w _ line h)
  started_down w g ByController = self link like queued w
  started_down w g (ByInput input) = self link like queued w
  started_down w g (Leaving input owed) = self link like queued w

  started_by : (role : Role) (w : Work) (k : Option ℕ) (o : Option Grant) → grant_on w.port.grants k ≡ o → Leads role link like queued w (started w o)
  started_by role w k None found = λ line h. stays role link like queued w line h
  started_by Downstream w k (Some g) found = started_down w g g.state
  started_by Upstream w None (Some g) found = absurd (cc found)
  started_by Upstream w (Some n) (Some g) found =
      started_up w g g.state (subst (λ (j : ℕ). at grant_label j w.port.grants ≡ Some g) (sym (at_key grant_label n w.port.grants g found)) found) refl

  joins_noted : (role : Role) (setup : Setup) (w : Work) (input output : End) → Leads role link like queued w (joined_to setup w input output)
  joins_noted role setup w input output = λ line h. stays role link like queued (joined_to setup w input output) line
      (on_both (λ (v : Work). Shown role link like queued v line) (output.port.0 == 0) w
      (with_action w (Note (Join setup.node setup.port (number_of_channel input.channel) output.port (number_of_channel output.channel)))) h
      (acts_quiet link like queued role w (Note (Join setup.node setup.port (number_of_channel input.channel) output.port (number_of_channel output.channel))) line
      (record { none = refl; own = tt }) h))

  -- *What a success means*
  pub done_leads : (role : Role) (setup : Setup) (w : Work) (request : Request) → HasRoom w → is_label_number link.label ≡ true → Leads role link like queued w (done setup w request)
  done_leads role setup w (AddBranch input output) room in_range =
      on_both (λ (v : Work). Leads role link like queued w v) (input.port.0 == 0)
      (started w (grant_on w.port.grants (label_number_of output.channel))) (bound setup w (label_by w.port (label_number_of input.channel)))
      (started_by role w (label_number_of output.channel) (grant_on w.port.grants (label_number_of output.channel)) refl)
      (bound_by role setup w (label_number_of input.channel) (label_by w.port (label_number_of input.channel)) room in_range refl)
  done_leads role setup w (MoveBranch input from to) room in_range = joins_noted role setup w input to
  done_leads role setup w (DeleteTree input) room in_range = freed_by role setup w (label_number_of input.channel) (label_by w.port (label_number_of input.channel)) refl
  done_leads role setup w (VerifyTree input) room in_range = λ line h. stays role link like queued w line h
  done_leads role setup w (DeleteAll port) room in_range = λ line h. stays role link like queued w line h
  done_leads role setup w (PortManagement port function) room in_range = λ line h. stays role link like queued w line h
  done_leads role setup w AllPorts room in_range = λ line h. stays role link like queued w line h

  -- *A grant is lent* to an input
  lent_of : (w : Work) (g : Grant) (input : End) (b : Bool) → w.halted ≡ b → at grant_label g.label w.port.grants ≡ Some g → g.state ≡ ByController
      → Leads Upstream link like queued w (with_grant w (record g { state = ByInput input }))
  lent_of w g input true halted found by =
      λ line h. subst (λ (v : Work). Reaches Upstream link like queued v line) (sym (idle_grants w _ halted)) (stays Upstream link like queued w line h)
  lent_of w g input false live found by =
      by_eq g.label link.label
      (λ e t line h.
      let at_it : at grant_label link.label w.port.grants ≡ Some g = subst (λ (n : ℕ). at grant_label n w.port.grants ≡ Some g) e found in
      by_move Upstream link like queued (with_grant w (record g { state = ByInput input })) line (record line { grant = states.ByInput (flow_number g.flow) }) moves.Lend
      (ap (up.lent line) (shown_as link like queued w line g at_it h ∙ ap (grant_in (flow_number g.flow)) by))
      (own_grant link like queued w g (record g { state = ByInput input }) line (states.ByInput (flow_number g.flow)) live at_it e refl (λ l. tt) h) refl)
      (λ apart t line h. stays Upstream link like queued (with_grant w (record g { state = ByInput input })) line
      (other_grant link like queued w (record g { state = ByInput input }) line apart h))

  pub lent_leads : (role : Role) (w : Work) (g : Grant) (input : End) → at grant_label g.label w.port.grants ≡ Some g → g.state ≡ ByController
      → Leads role link like queued w (lent w g input)
  lent_leads Downstream w g input found by = still link like queued w (lent w g input) (λ line h. grants_down link like queued w _ line h)
  lent_leads Upstream w g input found by = lent_of w g input w.halted refl found by
