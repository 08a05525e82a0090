-- at the end that hands the label out: RECLAIM ACK, LABEL RANGE and ERROR of the other end are heard, and labels are
-- recalled or quit

use Rattle.std.proofs.Common.{◌≡◌, ◌≢◌, ℕ, ◌≤◌, Bool, true, false, List, Option, None, Some, refl, sym, ◌∙◌, ap, subst, arith, map, if◌then◌else◌}
use Rattle.std.specs.Prelude.{◌+◌, ◌==◌, is_some, min, nat_eq}
use Rattle.std.specs.Option.{option_map_or}
use Rattle.law_port_facts.specs.port_model.Words.{Addr, Instance, Channel, End, label_number_of, is_label_number, FlowId, same_flow, ReclaimAck, LabelRange, Error, Desk, put, Setup, label_end, Label, LabelState, Wiring, Offered, Recalled, Wired, label_number, Session, Work, with_session, with_label, label_at, labels_of, last_number, own_instance, reclaim, quits, takes, expects, reclaims_in, unjoins, recalls, recalls_in, recalls_offered, acknowledged_in, acknowledged, narrowed, is_outside, recalls_outside, ranged, error_comes, label_by, hears}
use Rattle.law_port_facts.proofs.Keyed.{on_both, on_each, by_eq, at_key}
use Rattle.law_label_line.specs.Cells as lines
use Rattle.law_label_line.specs.Cells.{Role, Downstream, Upstream, Cell}
use Rattle.law_label_line.specs.Line as states
use Rattle.law_label_line.specs.Line.{Line}
use Rattle.law_label_line.specs.Downstream as down
use Rattle.law_label_line.specs.Moves.{Recall}
use Rattle.law_port_facts.specs.port_model.declared.action.Action.TheVariants.{TakeBack}
use Rattle.law_port_facts.specs.port_model.Port.{with_action}
use Rattle.law_port_facts.specs.port_model.Saying.{peer_instance, says}
use Rattle.law_port_views.specs.Link.{LinkLabel}
use Rattle.law_port_views.specs.Flows.{flow_number}
use Rattle.law_port_views.specs.Shown.{label_of, flow_of, number_of, Shown}
use Rattle.law_port_views.specs.Reaching.{ReachesFrom, Reaches, Leads, Comes, heard, unheard}
use Rattle.law_port_views.proofs.Reach.{begins_by, aside, leads_on, leads_if, leads_fold_with}
use Rattle.law_port_views.proofs.Says.{acts_quiet}
use Rattle.law_port_views.proofs.Live.{live_session, idle_session, idle_says}
use Rattle.law_port_views.proofs.Tells.{estab_down, own_down, peer_down, says_down}
use Rattle.law_port_views.proofs.Labels.{own_label, other_label}
use Rattle.law_port_views.proofs.Learns.{quits_lead}
use Rattle.law_port_views.proofs.Taken.{taken_open, taken_down, session_kept, expects_down}
use Rattle.law_port_views.proofs.Granting.{expects_live, flow_told}
use Rattle.law_port_views.proofs.Recalling.{HasRoom, room_says, room_session, room_acts, room_expects, session_room, names_own, names_other, expects_label, still, self, tells_others, unheard_by}

pub recalled_as : (n m : ℕ) → m ≡ n → n ≤ last_number → states.Recalled m false ≡ states.Recalled (min last_number n) false
recalled_as n m e room = ap (λ (k : ℕ). states.Recalled k false) (least n m e room)
  where
    least : (n m : ℕ) → m ≡ n → n ≤ last_number → m ≡ min last_number n
    least n m e room = grind (arith, e, room)

-- *Numbers aren't spent* by recalls
pub room_reclaims : (w : Work) (x : Label) (o : Option Session) → HasRoom w → HasRoom (reclaims_in w x o)
room_reclaims w x None room = room
room_reclaims w x (Some s) room = room_says (with_label w (record x { state = Recalled (min last_number s.number) false })) (reclaim x)

pub room_unjoins : (setup : Setup) (w : Work) (number : ℕ) (o : Option End) → HasRoom w → HasRoom (unjoins setup w number o)
room_unjoins setup w number None room = room
room_unjoins setup w number (Some output) room = room_acts w (TakeBack (label_end setup.port number) output) room

room_state : (setup : Setup) (w : Work) (x : Label) (state : LabelState) → HasRoom w → HasRoom (recalls_in setup w x state)
room_state setup w x Wiring room = room
room_state setup w x Offered room = room_unjoins setup (reclaims_in w x w.port.session) x.number x.join (room_reclaims w x w.port.session room)
room_state setup w x (Recalled last acknowledged) room = room
room_state setup w x Wired room = room

pub room_recalls : (setup : Setup) (w : Work) (o : Option Label) → HasRoom w → HasRoom (recalls_offered setup w o)
room_recalls setup w None room = room
room_recalls setup w (Some x) room = room_state setup w x x.state room

pub room_outside : (setup : Setup) (w : Work) (n : ℕ) → HasRoom w → HasRoom (recalls_outside setup w n)
room_outside setup w n room = on_both HasRoom (is_outside w.port.session n) (recalls_offered setup w (label_at w.port n)) w (room_recalls setup w (label_at w.port n) room) room

module _ (link : LinkLabel) (like : Type 0) (queued : List Cell) where
  -- what the label of the port is to the line
  pub label_is : (w : Work) (x : Label) (line : Line) → label_at w.port link.label ≡ Some x → Shown Downstream link like queued w line → line.label ≡ label_of (Some x)
  label_is w x line found h = h.label ∙ ap label_of found

  pub flow_is : (w : Work) (x : Label) (line : Line) (state : LabelState) → label_at w.port link.label ≡ Some x → x.state ≡ state → Shown Downstream link like queued w line
      → line.flow ≡ flow_of line.flow (Some (record x { state = state }))
  flow_is w x line state found e h = h.flow ∙ (ap (flow_of line.flow) found ∙ ap (λ (z : LabelState). flow_of line.flow (Some (record x { state = z }))) e)

  -- *The label of the line is recalled*
  recalled_own : (w : Work) (s : Session) (x : Label) → w.halted ≡ false → w.port.session ≡ Some s → s.number ≤ last_number → label_at w.port link.label ≡ Some x
      → x.number ≡ link.label → is_label_number link.label ≡ true → x.state ≡ Offered → Leads Downstream link like queued w (reclaims_in w x (Some s))
  recalled_own w s x live opened room found number in_range offered line h =
      let after : Label = record x { state = Recalled (min last_number s.number) false } in
      let v : Work = with_label w after in
      let t : Session = record s { labels = put label_number after s.labels } in
      let at_v : Line = record line { label = states.Recalled line.number false } in
      let said : lines.Message = lines.Reclaim line.downstream.own line.downstream.stored line.number line.flow in
      let count : line.number ≡ s.number = h.number ∙ ap number_of opened in
      let flow : line.flow ≡ flow_number x.flow = flow_is w x line Offered found offered h in
      let shown : Shown Downstream link like queued v at_v
      = own_label link like queued w s x after line (states.Recalled line.number false) line.flow live opened found number (recalled_as s.number line.number count room) flow h in
      let live_v : v.halted ≡ false = live_session (λ (u : Work). u.halted ≡ false) w s (λ z. record z { labels = put label_number after z.labels }) live opened live in
      let opened_v : v.port.session ≡ Some t = live_session (λ (u : Work). u.port.session ≡ Some t) w s (λ z. record z { labels = put label_number after z.labels }) live opened refl in
      begins_by Downstream link like queued (says v (reclaim x)) line (down.sends_numbered at_v said) line Recall
      (ap (down.recall line) (label_is w x line found h ∙ offered_is x offered))
      (aside Downstream link like queued (says v (reclaim x)) (down.sends_numbered at_v said) at_v line refl
      (says_down link like queued v t (reclaim x) said at_v live_v opened_v room
      (ap (λ (b : Bool). Some (if b then lines.Reclaim (own_instance v.port.adjacency).0 (peer_instance v.port.adjacency).0 s.number (flow_number x.flow)
      else lines.Other (own_instance v.port.adjacency).0 (peer_instance v.port.adjacency).0 s.number)) (names_own link.label x.number in_range number)
      ∙ (λ i. Some (lines.Reclaim (own_down link like queued v at_v shown i).0 (peer_down link like queued v at_v (estab_down link like queued v t at_v opened_v shown) shown i).0
      (sym count i) (sym flow i))))
      (λ own peer n e. e) shown))
    where
      offered_is : (x : Label) → x.state ≡ Offered → label_of (Some x) ≡ states.Offered
      offered_is x e = ap (λ (z : LabelState). label_of (Some (record x { state = z }))) e

  pub recalled_other : (w : Work) (s : Session) (x : Label) → w.halted ≡ false → w.port.session ≡ Some s → HasRoom w → x.number ≢ link.label
      → Leads Downstream link like queued w (reclaims_in w x (Some s))
  recalled_other w s x live opened room apart =
      let after : Label = record x { state = Recalled (min last_number s.number) false } in
      let v : Work = with_label w after in
      leads_on Downstream link like queued w v (says v (reclaim x))
      (still link like queued w v (λ line h. other_label link like queued w s after line live opened apart h))
      (tells_others link like queued v (reclaim x) (room_session w (λ z. record z { labels = put label_number after z.labels }) (λ z. refl) room)
      (λ own peer n. ap (λ (b : Bool). Some (if b then lines.Reclaim own.0 peer.0 n (flow_number x.flow) else lines.Other own.0 peer.0 n)) (names_other link.label x.number apart))
      (λ own peer n e. e))

  -- whichever it is, and where the port is to be reset nothing is done
  pub idle_reclaims : (w : Work) (x : Label) (o : Option Session) → w.halted ≡ true → HasRoom w → w.port.session ≡ o → Leads Downstream link like queued w (reclaims_in w x o)
  idle_reclaims w x None halted room opened = self link like queued w
  idle_reclaims w x (Some s) halted room opened =
      let after : Label = record x { state = Recalled (min last_number s.number) false } in
      let v : Work = with_label w after in
      let same : v ≡ w = idle_session w (λ z. record z { labels = put label_number after z.labels }) halted in
      subst (λ (u : Work). Leads Downstream link like queued w (says u (reclaim x))) (sym same)
      (λ line h. subst (λ (u : Work). Reaches Downstream link like queued u line) (sym (idle_says w (reclaim x) halted)) (self link like queued w line h))

  reclaims_live : (w : Work) (x : Label) (o : Option Session) → w.halted ≡ false → w.port.session ≡ o → HasRoom w → label_at w.port x.number ≡ Some x
      → is_label_number link.label ≡ true → x.state ≡ Offered → Leads Downstream link like queued w (reclaims_in w x o)
  reclaims_live w x None live opened room found in_range offered = self link like queued w
  reclaims_live w x (Some s) live opened room found in_range offered =
      by_eq x.number link.label
      (λ e t. recalled_own w s x live opened (session_room w.port.session s opened (room live)) (subst (λ (n : ℕ). label_at w.port n ≡ Some x) e found) e in_range offered)
      (λ apart t. recalled_other w s x live opened room apart)

  pub reclaims_lead : (w : Work) (x : Label) (b : Bool) → w.halted ≡ b → HasRoom w → label_at w.port x.number ≡ Some x → is_label_number link.label ≡ true → x.state ≡ Offered
      → Leads Downstream link like queued w (reclaims_in w x w.port.session)
  reclaims_lead w x true halted room found in_range offered = idle_reclaims w x w.port.session halted room refl
  reclaims_lead w x false live room found in_range offered = reclaims_live w x w.port.session live refl room found in_range offered

  pub unjoins_down : (setup : Setup) (w : Work) (number : ℕ) (o : Option End) → Leads Downstream link like queued w (unjoins setup w number o)
  unjoins_down setup w number None = self link like queued w
  unjoins_down setup w number (Some output) = still link like queued w (with_action w (TakeBack (label_end setup.port number) output))
      (λ line h. acts_quiet link like queued Downstream w (TakeBack (label_end setup.port number) output) line (record { none = refl; own = tt }) h)

  recalls_state : (setup : Setup) (w : Work) (x : Label) (state : LabelState) → HasRoom w → label_at w.port x.number ≡ Some x → is_label_number link.label ≡ true → x.state ≡ state
      → Leads Downstream link like queued w (recalls_in setup w x state)
  recalls_state setup w x Wiring room found in_range e = self link like queued w
  recalls_state setup w x Offered room found in_range e = leads_on Downstream link like queued w (reclaims_in w x w.port.session) (recalls setup w x)
      (reclaims_lead w x w.halted refl room found in_range e) (unjoins_down setup (reclaims_in w x w.port.session) x.number x.join)
  recalls_state setup w x (Recalled last acknowledged) room found in_range e = self link like queued w
  recalls_state setup w x Wired room found in_range e = self link like queued w

  recalls_down : (setup : Setup) (w : Work) (o : Option Label) (n : ℕ) → HasRoom w → label_at w.port n ≡ o → is_label_number link.label ≡ true
      → Leads Downstream link like queued w (recalls_offered setup w o)
  recalls_down setup w None n room found in_range = self link like queued w
  recalls_down setup w (Some x) n room found in_range = recalls_state setup w x x.state room
      (subst (λ (k : ℕ). label_at w.port k ≡ Some x) (sym (at_key label_number n (labels_of w.port) x found)) found) in_range refl

  -- *LABEL RANGE* and *ERROR*
  outside_down : is_label_number link.label ≡ true → (setup : Setup) (w : Work) (n : ℕ) → HasRoom w → Leads Downstream link like queued w (recalls_outside setup w n)
  outside_down in_range setup w n room = leads_if Downstream link like queued w (recalls_offered setup w (label_at w.port n)) w (is_outside w.port.session n)
      (λ t. recalls_down setup w (label_at w.port n) n room refl in_range) (λ f. self link like queued w)

  ranged_down : is_label_number link.label ≡ true → (setup : Setup) (w : Work) (least greatest : Channel) → HasRoom w → Leads Downstream link like queued w (ranged setup w least greatest)
  ranged_down in_range setup w least greatest room =
      let v : Work = with_session w (narrowed least greatest) in
      leads_on Downstream link like queued w v (ranged setup w least greatest)
      (still link like queued w v (λ line h. session_kept link like queued w (narrowed least greatest) line (λ z. refl) (λ z. refl) (λ z. refl) h))
      (leads_fold_with Downstream link like queued HasRoom (recalls_outside setup) (room_outside setup) (outside_down in_range setup) (map label_number (labels_of v.port)) v
      (room_session w (narrowed least greatest) (λ z. refl) room))

  label_in : (w : Work) (number : ℕ) (k : Option ℕ) (o : Option Label) → label_by w.port k ≡ o → is_label_number link.label ≡ true → HasRoom (expects w number) → (setup : Setup)
      → Leads Downstream link like queued (expects w number) (recalls_offered setup (expects w number) o)
  label_in w number None None e in_range room setup = self link like queued (expects w number)
  label_in w number None (Some x) e in_range room setup = absurd (cc e)
  label_in w number (Some n) o e in_range room setup = recalls_down setup (expects w number) o n room (expects_label w number n ∙ e) in_range

  error_down : is_label_number link.label ≡ true → (setup : Setup) (w : Work) (number code : ℕ) (channel : Channel) → HasRoom (expects w number)
      → Leads Downstream link like queued (expects w number) (error_comes setup (expects w number) code (label_by w.port (label_number_of channel)))
  error_down in_range setup w number code channel room =
      leads_if Downstream link like queued (expects w number) (expects w number) (recalls_offered setup (expects w number) (label_by w.port (label_number_of channel))) (code == 2)
      (λ t. self link like queued (expects w number))
      (λ f. label_in w number (label_number_of channel) (label_by w.port (label_number_of channel)) refl in_range room setup)

  pub range_down : (setup : Setup) (desk : Desk) (w : Work) (source : Addr) (sender peer : Instance) (number : ℕ) (least greatest : Channel) (line : Line)
      → is_label_number link.label ≡ true → HasRoom w → Shown Downstream link like queued w line
      → Comes Downstream link like queued (hears setup desk w source (LabelRange sender peer number least greatest)) (LabelRange sender peer number least greatest) line
  range_down setup desk w source sender peer number least greatest line in_range room h =
      unheard_by link like queued w (ranged setup (expects w number) least greatest) (LabelRange sender peer number least greatest) source sender peer number line
      (ranged_down in_range setup (expects w number) least greatest (room_expects w number room)) h

  pub fault_down : (setup : Setup) (desk : Desk) (w : Work) (source : Addr) (sender peer : Instance) (number code : ℕ) (channel : Channel) (line : Line)
      → is_label_number link.label ≡ true → HasRoom w → Shown Downstream link like queued w line
      → Comes Downstream link like queued (hears setup desk w source (Error sender peer number code channel)) (Error sender peer number code channel) line
  fault_down setup desk w source sender peer number code channel line in_range room h =
      unheard_by link like queued w (error_comes setup (expects w number) code (label_by w.port (label_number_of channel))) (Error sender peer number code channel) source sender peer number line
      (error_down in_range setup w number code channel (room_expects w number room)) h

  -- *RECLAIM ACK*: the line takes it where the label is recalled and bound to its flow, and the label is quit behind that
  ack_is : (line : Line) (k : states.Label) (f bound last : ℕ) (acknowledged : Bool) → k ≡ states.Recalled last acknowledged → line.flow ≡ bound → nat_eq f bound ≡ true
      → down.acknowledge line k f ≡ record line { label = states.Recalled last true }
  ack_is line k f bound last acknowledged is flow same =
      ap (λ (z : states.Label). down.acknowledge line z f) is
      ∙ ap (λ (b : Bool). if b then record line { label = states.Recalled last true } else line) (ap (nat_eq f) flow ∙ same)

  acked_own : (setup : Setup) (desk : Desk) (w : Work) (s : Session) (x : Label) (flow : FlowId) (line : Line) (last : ℕ) (acknowledged : Bool) → w.halted ≡ false
      → w.port.session ≡ Some s → label_at w.port link.label ≡ Some x → x.number ≡ link.label → x.state ≡ Recalled last acknowledged → same_flow x.flow flow ≡ true
      → Shown Downstream link like queued w line
      → ReachesFrom Downstream link like queued (acknowledged_in setup desk w x (Recalled last acknowledged)) (down.acknowledge line line.label (flow_number flow)) line
  acked_own setup desk w s x flow line last acknowledged live opened found number state same h =
      let after : Label = record x { state = Recalled last true } in
      let v : Work = with_label w after in
      let start : Line = record line { label = states.Recalled last true } in
      let bound : line.flow ≡ flow_number x.flow = flow_is w x line (Recalled last acknowledged) found state h in
      subst (λ (z : Line). ReachesFrom Downstream link like queued (quits setup desk v x.number) z line)
      (sym (ack_is line line.label (flow_number flow) (flow_number x.flow) last acknowledged (label_is w x line found h ∙ recalled_is x state) bound (flow_told x.flow flow true same)))
      (aside Downstream link like queued (quits setup desk v x.number) start start line refl
      (quits_lead link like queued Downstream setup desk v x.number start
      (own_label link like queued w s x after line (states.Recalled last true) line.flow live opened found number refl bound h)))
    where
      recalled_is : (x : Label) → x.state ≡ Recalled last acknowledged → label_of (Some x) ≡ states.Recalled last acknowledged
      recalled_is x e = ap (λ (z : LabelState). label_of (Some (record x { state = z }))) e

  acked_other : (setup : Setup) (desk : Desk) (w : Work) (s : Session) (x : Label) (last : ℕ) (acknowledged : Bool) → w.halted ≡ false → w.port.session ≡ Some s
      → x.number ≢ link.label → Leads Downstream link like queued w (acknowledged_in setup desk w x (Recalled last acknowledged))
  acked_other setup desk w s x last acknowledged live opened apart =
      let after : Label = record x { state = Recalled last true } in
      let v : Work = with_label w after in
      leads_on Downstream link like queued w v (quits setup desk v x.number)
      (still link like queued w v (λ line h. other_label link like queued w s after line live opened apart h)) (quits_lead link like queued Downstream setup desk v x.number)

  acked_state : (setup : Setup) (desk : Desk) (u : Work) (s : Session) (x : Label) (n : ℕ) (state : LabelState) (sender peer : Instance) (number : ℕ) (channel : Channel) (flow : FlowId) (line : Line)
      → u.halted ≡ false → u.port.session ≡ Some s → label_at u.port n ≡ Some x → label_number_of channel ≡ Some n → x.state ≡ state → same_flow x.flow flow ≡ true
      → states.is_from_peer line.downstream sender.0 peer.0 ≡ true → Shown Downstream link like queued u line
      → Comes Downstream link like queued (acknowledged_in setup desk u x state) (ReclaimAck sender peer number channel flow) line
  acked_state setup desk u s x n Wiring sender peer number channel flow line live opened found on e same from h = unheard (self link like queued u line h)
  acked_state setup desk u s x n Offered sender peer number channel flow line live opened found on e same from h = unheard (self link like queued u line h)
  acked_state setup desk u s x n (Recalled last acknowledged) sender peer number channel flow line live opened found on e same from h =
      let at_n : x.number ≡ n = at_key label_number n (labels_of u.port) x found in
      by_eq n link.label
      (λ is t. heard (lines.ReclaimAck sender.0 peer.0 (flow_number flow)) true 0
      (ap (λ (k : Option ℕ). if option_map_or (λ (j : ℕ). nat_eq j link.label) k false then Some (lines.ReclaimAck sender.0 peer.0 (flow_number flow)) else None) on
      ∙ ap (λ (b : Bool). if b then Some (lines.ReclaimAck sender.0 peer.0 (flow_number flow)) else None) t)
      (subst (λ (b : Bool). ReachesFrom Downstream link like queued (acknowledged_in setup desk u x (Recalled last acknowledged))
      (if b then down.acknowledge line line.label (flow_number flow) else line) line) (sym from)
      (acked_own setup desk u s x flow line last acknowledged live opened (subst (λ (k : ℕ). label_at u.port k ≡ Some x) is found) (at_n ∙ is) e same h)))
      (λ apart t. unheard (acked_other setup desk u s x last acknowledged live opened (λ (i : x.number ≡ link.label). apart (sym at_n ∙ i)) line h))
  acked_state setup desk u s x n Wired sender peer number channel flow line live opened found on e same from h = unheard (self link like queued u line h)

  acked_found : (setup : Setup) (desk : Desk) (w u : Work) (s : Session) (k : Option ℕ) (o : Option Label) (sender peer : Instance) (number : ℕ) (channel : Channel) (flow : FlowId) (line : Line)
      → u.halted ≡ false → u.port.session ≡ Some s → ((n : ℕ) → label_at u.port n ≡ label_at w.port n) → label_number_of channel ≡ k → label_by w.port k ≡ o
      → states.is_from_peer line.downstream sender.0 peer.0 ≡ true → Shown Downstream link like queued u line
      → Comes Downstream link like queued (acknowledged setup desk u flow o) (ReclaimAck sender peer number channel flow) line
  acked_found setup desk w u s k None sender peer number channel flow line live opened same on found from h = unheard (self link like queued u line h)
  acked_found setup desk w u s None (Some x) sender peer number channel flow line live opened same on found from h = absurd (cc found)
  acked_found setup desk w u s (Some n) (Some x) sender peer number channel flow line live opened same on found from h =
      on_each (λ (v : Work). Comes Downstream link like queued v (ReclaimAck sender peer number channel flow) line) (same_flow x.flow flow) (acknowledged_in setup desk u x x.state) u
      (λ t. acked_state setup desk u s x n x.state sender peer number channel flow line live opened (same n ∙ found) on refl t from h)
      (λ f. unheard (self link like queued u line h))

  acked_in : (setup : Setup) (desk : Desk) (w : Work) (source : Addr) (sender peer : Instance) (number : ℕ) (channel : Channel) (flow : FlowId) (line : Line) (o : Option Session)
      → w.halted ≡ false → w.port.session ≡ o → takes w.port source sender peer number ≡ true → Shown Downstream link like queued w line
      → Comes Downstream link like queued (acknowledged setup desk (expects w number) flow (label_by w.port (label_number_of channel))) (ReclaimAck sender peer number channel flow) line
  acked_in setup desk w source sender peer number channel flow line None live opened t h =
      absurd (cc (taken_open link like queued w source sender peer number t, ap (λ (z : Option Session). is_some z) opened))
  acked_in setup desk w source sender peer number channel flow line (Some s) live opened t h =
      acked_found setup desk w (expects w number) (record s { expected = number + 1 }) (label_number_of channel) (label_by w.port (label_number_of channel)) sender peer number channel flow line
      (expects_live w number live)
      (live_session (λ (v : Work). v.port.session ≡ Some (record s { expected = number + 1 })) w s (λ z. record z { expected = number + 1 }) live opened refl)
      (expects_label w number) refl refl (taken_down link like queued w source sender peer number line t h) (expects_down link like queued w number line h)

  pub ack_down : (setup : Setup) (desk : Desk) (w : Work) (source : Addr) (sender peer : Instance) (number : ℕ) (channel : Channel) (flow : FlowId) (line : Line)
      → w.halted ≡ false → Shown Downstream link like queued w line
      → Comes Downstream link like queued (hears setup desk w source (ReclaimAck sender peer number channel flow)) (ReclaimAck sender peer number channel flow) line
  ack_down setup desk w source sender peer number channel flow line live h =
      on_each (λ (v : Work). Comes Downstream link like queued v (ReclaimAck sender peer number channel flow) line) (takes w.port source sender peer number)
      (acknowledged setup desk (expects w number) flow (label_by w.port (label_number_of channel))) w
      (λ t. acked_in setup desk w source sender peer number channel flow line w.port.session live refl t h) (λ f. unheard (self link like queued w line h))
