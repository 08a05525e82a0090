-- a tick of a port: its labels are refreshed, recalled, reclaimed again or unwired; and the whole of a tick

use Rattle.std.proofs.Common.{◌≡◌, ℕ, ◌≤◌, Bool, true, false, List, [], ◌∷◌, Option, None, Some, refl, sym, ◌∙◌, ap, subst, map, fold, if◌then◌else◌}
use Rattle.std.specs.Prelude.{◌||◌, min, nat_le, is_none}
use Rattle.std.specs.Option.{option_map_or}
use Rattle.law_port_facts.specs.port_model.Words.{is_label_number, ticked, Desk, on_input, at, put, DeleteTree, Setup, label_end, grant_label, Label, LabelState, Wiring, Offered, Recalled, Wired, label_number, Session, Work, with_label, label_at, labels_of, desk_after, has_room, last_number, own_instance, redirect, label_range, reclaim, unwires, reclaims_in, recalls, ages, refreshes, one_older, one_idler, idles, ticks_in, ticks_found, ticks_label, asks_for_ack, nudges, moves_windows, ticks_session}
use Rattle.law_port_facts.proofs.Keyed.{on_both, by_eq, at_key}
use Rattle.law_label_line.specs.Cells as lines
use Rattle.law_label_line.specs.Cells.{Role, Downstream, Upstream, Cell}
use Rattle.law_label_line.specs.Line as states
use Rattle.law_label_line.specs.Line.{Line}
use Rattle.law_label_line.specs.Downstream as down
use Rattle.law_label_line.specs.Moves as moves
use Rattle.law_label_line.specs.Moves.{Move}
use Rattle.law_port_facts.specs.port_model.declared.action.Action.TheVariants.{Ask}
use Rattle.law_port_facts.specs.port_model.Counts.{window_moved}
use Rattle.law_port_facts.specs.port_model.Port.{with_action}
use Rattle.law_port_facts.specs.port_model.Saying.{peer_instance, says}
use Rattle.law_port_facts.specs.port_model.Adjacency.{steps}
use Rattle.law_port_facts.specs.port_model.Ticks.{ticks}
use Rattle.law_port_views.specs.Link.{LinkLabel}
use Rattle.law_port_views.specs.Flows.{flow_number}
use Rattle.law_port_views.specs.Shown.{label_of, flow_of, number_of, label_in, Shown}
use Rattle.law_port_views.specs.Reaching.{Reaches, Leads}
use Rattle.law_port_views.proofs.Reach.{stays, begins_by, aside, leads_on, leads_if, leads_fold_with}
use Rattle.law_port_views.proofs.Live.{live_session, idle_session, idle_says}
use Rattle.law_port_views.proofs.Tells.{estab_down, own_down, peer_down, says_down, session_minded}
use Rattle.law_port_views.proofs.Labels.{own_label, other_label, label_up}
use Rattle.law_port_views.proofs.Learns.{deletes}
use Rattle.law_port_views.proofs.Taken.{session_kept}
use Rattle.law_port_views.proofs.Others as others
use Rattle.law_port_views.proofs.Others.{tells_still, reclaims_up, unjoins_up}
use Rattle.law_port_views.proofs.Recalling.{HasRoom, room_says, room_session, room_acts, session_room, names_own, names_other, still, self, tells_others, ranges}
use Rattle.law_port_views.proofs.Recalls.{recalled_as, label_is, flow_is, recalled_other, idle_reclaims, unjoins_down, room_reclaims, room_unjoins}
use Rattle.law_port_views.proofs.Answering.{keeps}
use Rattle.law_port_views.proofs.Ticking.{tick_leads, room_steps, ages_lead, room_ages}

module _ (link : LinkLabel) (like : Type 0) (queued : List Cell) where
  -- *The end that may send under the label* has nothing of the labels of its port
  relabels_up : (w : Work) (x : Label) → Leads Upstream link like queued w (with_label w x)
  relabels_up w x = λ line h. stays Upstream link like queued (with_label w x) line (label_up link like queued w x line h)

  refreshes_up : (setup : Setup) (w : Work) (x : Label) → Leads Upstream link like queued w (refreshes setup w x)
  refreshes_up setup w x =
      let v : Work = with_label w (record x { ticks = 0 }) in
      leads_if Upstream link like queued w (says v (redirect setup x)) (with_label w x) (nat_le setup.timers.refresh x.ticks)
      (λ t. leads_on Upstream link like queued w v (says v (redirect setup x)) (relabels_up w (record x { ticks = 0 }))
      (tells_still link like queued v (redirect setup x) (λ own peer n. refl) (λ own peer n e. e)))
      (λ f. relabels_up w x)

  recalls_up : (setup : Setup) (w : Work) (x : Label) → Leads Upstream link like queued w (recalls setup w x)
  recalls_up setup w x = leads_on Upstream link like queued w (reclaims_in w x w.port.session) (recalls setup w x)
      (reclaims_up link like queued w x w.port.session) (unjoins_up link like queued setup (reclaims_in w x w.port.session) x.number x.join)

  idles_up : (setup : Setup) (w : Work) (x : Label) → Leads Upstream link like queued w (idles setup w x)
  idles_up setup w x = leads_if Upstream link like queued w (refreshes setup w (one_older x)) (recalls setup w x) (setup.policy.keeps x.flow x.idle)
      (λ t. refreshes_up setup w (one_older x)) (λ f. recalls_up setup w x)

  rests : (role : Role) (w : Work) → Leads role link like queued w w
  rests role w = λ line h. stays role link like queued w line h

  unwires_lead : (role : Role) (setup : Setup) (desk : Desk) (w : Work) (x : Label) → Leads role link like queued w (ticks_in setup desk w x Wired)
  unwires_lead role setup desk w x = leads_if role link like queued w w (unwires setup desk w x.number) (on_input (desk_after desk w) (label_end setup.port x.number))
      (λ t. rests role w) (λ f. deletes link like queued role setup desk w x.number)

  ticks_up : (setup : Setup) (desk : Desk) (w : Work) (x : Label) (state : LabelState) → Leads Upstream link like queued w (ticks_in setup desk w x state)
  ticks_up setup desk w x Wiring = rests Upstream w
  ticks_up setup desk w x Offered = leads_if Upstream link like queued w (idles setup w (one_idler x)) (refreshes setup w (one_older x)) (is_none x.join)
      (λ t. idles_up setup w (one_idler x)) (λ f. refreshes_up setup w (one_older x))
  ticks_up setup desk w x (Recalled last true) = rests Upstream w
  ticks_up setup desk w x (Recalled last false) = reclaims_up link like queued w x w.port.session
  ticks_up setup desk w x Wired = unwires_lead Upstream setup desk w x

  -- *The end that hands it out* refreshes it: REDIRECT is said again
  refresh_own : (setup : Setup) (w : Work) (s : Session) (x : Label) (i t : ℕ) → w.halted ≡ false → w.port.session ≡ Some s → s.number ≤ last_number
      → label_at w.port link.label ≡ Some x → x.number ≡ link.label → is_label_number link.label ≡ true → x.state ≡ Offered
      → Leads Downstream link like queued w (says (with_label w (record x { idle = i; ticks = 0 })) (redirect setup (record x { idle = i; ticks = t })))
  refresh_own setup w s x i t live opened room found number in_range offered line h =
      let after : Label = record x { idle = i; ticks = 0 } in
      let v : Work = with_label w after in
      let next : Session = record s { labels = put label_number after s.labels } in
      let said : lines.Message = lines.Redirect line.downstream.own line.downstream.stored line.number line.flow in
      let count : line.number ≡ s.number = h.number ∙ ap number_of opened in
      let flow : line.flow ≡ flow_number x.flow = flow_is link like queued w x line Offered found offered h in
      let shown : Shown Downstream link like queued v line
      = own_label link like queued w s x after line line.label line.flow live opened found number (h.label ∙ ap label_of found) (h.flow ∙ ap (flow_of line.flow) found) h in
      let live_v : v.halted ≡ false = live_session (λ (u : Work). u.halted ≡ false) w s (λ z. record z { labels = put label_number after z.labels }) live opened live in
      let opened_v : v.port.session ≡ Some next = live_session (λ (u : Work). u.port.session ≡ Some next) w s (λ z. record z { labels = put label_number after z.labels }) live opened refl in
      begins_by Downstream link like queued (says v (redirect setup (record x { idle = i; ticks = t }))) line (down.sends_numbered line said) line moves.Refresh
      (ap (down.refresh line) (label_is link like queued w x line found h ∙ ap (label_in (flow_number x.flow)) offered))
      (says_down link like queued v next (redirect setup (record x { idle = i; ticks = t })) said line live_v opened_v room
      (ap (λ (b : Bool). Some (if b then lines.Redirect (own_instance v.port.adjacency).0 (peer_instance v.port.adjacency).0 s.number (flow_number x.flow)
      else lines.Other (own_instance v.port.adjacency).0 (peer_instance v.port.adjacency).0 s.number)) (names_own link.label x.number in_range number)
      ∙ (λ j. Some (lines.Redirect (own_down link like queued v line shown j).0 (peer_down link like queued v line (estab_down link like queued v next line opened_v shown) shown j).0
      (sym count j) (sym flow j))))
      (λ own peer n e. e) shown)

  refresh_due : (setup : Setup) (w : Work) (x : Label) (i t : ℕ) (o : Option Session) (b : Bool) → w.halted ≡ b → w.port.session ≡ o → HasRoom w
      → label_at w.port x.number ≡ Some x → is_label_number link.label ≡ true → x.state ≡ Offered
      → Leads Downstream link like queued w (says (with_label w (record x { idle = i; ticks = 0 })) (redirect setup (record x { idle = i; ticks = t })))
  refresh_due setup w x i t o true halted opened room found in_range offered =
      let after : Label = record x { idle = i; ticks = 0 } in
      λ line h. subst (λ (u : Work). Reaches Downstream link like queued u line)
      (sym (ap (λ (u : Work). says u (redirect setup (record x { idle = i; ticks = t }))) (idle_session w (λ z. record z { labels = put label_number after z.labels }) halted)
      ∙ idle_says w (redirect setup (record x { idle = i; ticks = t })) halted)) (self link like queued w line h)
  refresh_due setup w x i t None false live opened room found in_range offered =
      let none : label_at w.port x.number ≡ None = ap (λ (o : Option Session). at label_number x.number (option_map_or (λ (z : Session). z.labels) o [])) opened in
      absurd (cc (none, found))
  refresh_due setup w x i t (Some s) false live opened room found in_range offered =
      let after : Label = record x { idle = i; ticks = 0 } in
      let v : Work = with_label w after in
      by_eq x.number link.label
      (λ e k. refresh_own setup w s x i t live opened (session_room w.port.session s opened (room live)) (subst (λ (n : ℕ). label_at w.port n ≡ Some x) e found) e in_range offered)
      (λ apart k. leads_on Downstream link like queued w v (says v (redirect setup (record x { idle = i; ticks = t })))
      (still link like queued w v (λ line h. other_label link like queued w s after line live opened apart h))
      (tells_others link like queued v (redirect setup (record x { idle = i; ticks = t })) (room_session w (λ z. record z { labels = put label_number after z.labels }) (λ z. refl) room)
      (λ own peer n. ap (λ (b : Bool). Some (if b then lines.Redirect own.0 peer.0 n (flow_number x.flow) else lines.Other own.0 peer.0 n)) (names_other link.label x.number apart))
      (λ own peer n e. e)))

  refreshes_down : (setup : Setup) (w : Work) (x : Label) (i t : ℕ) → HasRoom w → label_at w.port x.number ≡ Some x → is_label_number link.label ≡ true → x.state ≡ Offered
      → Leads Downstream link like queued w (refreshes setup w (record x { idle = i; ticks = t }))
  refreshes_down setup w x i t room found in_range offered =
      leads_if Downstream link like queued w (says (with_label w (record x { idle = i; ticks = 0 })) (redirect setup (record x { idle = i; ticks = t })))
      (with_label w (record x { idle = i; ticks = t })) (nat_le setup.timers.refresh t)
      (λ k. refresh_due setup w x i t w.port.session w.halted refl refl room found in_range offered)
      (λ f. keeps link like queued w x (record x { idle = i; ticks = t }) found refl refl (λ n. refl))

  -- RECLAIM is said, or said again
  reclaim_own : (w : Work) (s : Session) (x : Label) (i : ℕ) (move : Move) → w.halted ≡ false → w.port.session ≡ Some s → s.number ≤ last_number
      → label_at w.port link.label ≡ Some x → x.number ≡ link.label → is_label_number link.label ≡ true
      → ((line : Line) → Shown Downstream link like queued w line → line.flow ≡ flow_number x.flow)
      → ((line : Line) → Shown Downstream link like queued w line → moves.step line move ≡ down.sends_reclaim (record line { label = states.Recalled line.number false }))
      → Leads Downstream link like queued w (reclaims_in w (record x { idle = i }) (Some s))
  reclaim_own w s x i move live opened room found number in_range bound step line h =
      let after : Label = record x { idle = i; state = Recalled (min last_number s.number) false } in
      let v : Work = with_label w after in
      let next : Session = record s { labels = put label_number after s.labels } in
      let at_v : Line = record line { label = states.Recalled line.number false } in
      let said : lines.Message = lines.Reclaim line.downstream.own line.downstream.stored line.number line.flow in
      let count : line.number ≡ s.number = h.number ∙ ap number_of opened in
      let flow : line.flow ≡ flow_number x.flow = bound line h in
      let shown : Shown Downstream link like queued v at_v
      = own_label link like queued w s x after line (states.Recalled line.number false) line.flow live opened found number (recalled_as s.number line.number count room) flow h in
      let live_v : v.halted ≡ false = live_session (λ (u : Work). u.halted ≡ false) w s (λ z. record z { labels = put label_number after z.labels }) live opened live in
      let opened_v : v.port.session ≡ Some next = live_session (λ (u : Work). u.port.session ≡ Some next) w s (λ z. record z { labels = put label_number after z.labels }) live opened refl in
      begins_by Downstream link like queued (says v (reclaim (record x { idle = i }))) line (down.sends_numbered at_v said) line move (step line h)
      (aside Downstream link like queued (says v (reclaim (record x { idle = i }))) (down.sends_numbered at_v said) at_v line refl
      (says_down link like queued v next (reclaim (record x { idle = i })) said at_v live_v opened_v room
      (ap (λ (b : Bool). Some (if b then lines.Reclaim (own_instance v.port.adjacency).0 (peer_instance v.port.adjacency).0 s.number (flow_number x.flow)
      else lines.Other (own_instance v.port.adjacency).0 (peer_instance v.port.adjacency).0 s.number)) (names_own link.label x.number in_range number)
      ∙ (λ j. Some (lines.Reclaim (own_down link like queued v at_v shown j).0 (peer_down link like queued v at_v (estab_down link like queued v next at_v opened_v shown) shown j).0
      (sym count j) (sym flow j))))
      (λ own peer n e. e) shown))

  reclaims_of : (w : Work) (x : Label) (i : ℕ) (move : Move) (o : Option Session) (b : Bool) → w.halted ≡ b → w.port.session ≡ o → HasRoom w
      → label_at w.port x.number ≡ Some x → is_label_number link.label ≡ true
      → (label_at w.port link.label ≡ Some x → (line : Line) → Shown Downstream link like queued w line → line.flow ≡ flow_number x.flow)
      → (label_at w.port link.label ≡ Some x → (line : Line) → Shown Downstream link like queued w line
      → moves.step line move ≡ down.sends_reclaim (record line { label = states.Recalled line.number false }))
      → Leads Downstream link like queued w (reclaims_in w (record x { idle = i }) o)
  reclaims_of w x i move o true halted opened room found in_range bound step = idle_reclaims link like queued w (record x { idle = i }) o halted room opened
  reclaims_of w x i move None false live opened room found in_range bound step = self link like queued w
  reclaims_of w x i move (Some s) false live opened room found in_range bound step =
      by_eq x.number link.label
      (λ e t. (let own : label_at w.port link.label ≡ Some x = subst (λ (n : ℕ). label_at w.port n ≡ Some x) e found in
      reclaim_own w s x i move live opened (session_room w.port.session s opened (room live)) own e in_range (bound own) (step own)))
      (λ apart t. recalled_other link like queued w s (record x { idle = i }) live opened room apart)

  reclaims_offered : (w : Work) (x : Label) (i : ℕ) → HasRoom w → label_at w.port x.number ≡ Some x → is_label_number link.label ≡ true → x.state ≡ Offered
      → Leads Downstream link like queued w (reclaims_in w (record x { idle = i }) w.port.session)
  reclaims_offered w x i room found in_range offered = reclaims_of w x i moves.Recall w.port.session w.halted refl refl room found in_range
      (λ own line h. flow_is link like queued w x line Offered own offered h)
      (λ own line h. ap (down.recall line) (label_is link like queued w x line own h ∙ ap (label_in (flow_number x.flow)) offered))

  reclaims_again : (w : Work) (x : Label) (last : ℕ) → HasRoom w → label_at w.port x.number ≡ Some x → is_label_number link.label ≡ true → x.state ≡ Recalled last false
      → Leads Downstream link like queued w (reclaims_in w x w.port.session)
  reclaims_again w x last room found in_range recalled = reclaims_of w x x.idle moves.RecallAgain w.port.session w.halted refl refl room found in_range
      (λ own line h. flow_is link like queued w x line (Recalled last false) own recalled h)
      (λ own line h. ap (down.recall_again line) (label_is link like queued w x line own h ∙ ap (label_in (flow_number x.flow)) recalled))

  idles_down : (setup : Setup) (w : Work) (x : Label) → HasRoom w → label_at w.port x.number ≡ Some x → is_label_number link.label ≡ true → x.state ≡ Offered
      → Leads Downstream link like queued w (idles setup w (one_idler x))
  idles_down setup w x room found in_range offered =
      let y : Label = one_idler x in
      leads_if Downstream link like queued w (refreshes setup w (one_older y)) (recalls setup w y) (setup.policy.keeps x.flow y.idle)
      (λ t. refreshes_down setup w x y.idle (one_older x).ticks room found in_range offered)
      (λ f. leads_on Downstream link like queued w (reclaims_in w y w.port.session) (recalls setup w y) (reclaims_offered w x y.idle room found in_range offered)
      (unjoins_down link like queued setup (reclaims_in w y w.port.session) x.number x.join))

  ticks_down : (setup : Setup) (desk : Desk) (w : Work) (x : Label) (state : LabelState) → HasRoom w → label_at w.port x.number ≡ Some x → is_label_number link.label ≡ true → x.state ≡ state
      → Leads Downstream link like queued w (ticks_in setup desk w x state)
  ticks_down setup desk w x Wiring room found in_range e = rests Downstream w
  ticks_down setup desk w x Offered room found in_range e = leads_if Downstream link like queued w (idles setup w (one_idler x)) (refreshes setup w (one_older x)) (is_none x.join)
      (λ t. idles_down setup w x room found in_range e) (λ f. refreshes_down setup w x x.idle (one_older x).ticks room found in_range e)
  ticks_down setup desk w x (Recalled last true) room found in_range e = rests Downstream w
  ticks_down setup desk w x (Recalled last false) room found in_range e = reclaims_again w x last room found in_range e
  ticks_down setup desk w x Wired room found in_range e = unwires_lead Downstream setup desk w x

  -- *Either end*
  label_ticks : (role : Role) (setup : Setup) (desk : Desk) (w : Work) (n : ℕ) (o : Option Label) → HasRoom w → label_at w.port n ≡ o → is_label_number link.label ≡ true
      → Leads role link like queued w (ticks_found setup desk w o)
  label_ticks role setup desk w n None room found in_range = rests role w
  label_ticks Downstream setup desk w n (Some x) room found in_range =
      ticks_down setup desk w x x.state room (subst (λ (k : ℕ). label_at w.port k ≡ Some x) (sym (at_key label_number n (labels_of w.port) x found)) found) in_range refl
  label_ticks Upstream setup desk w n (Some x) room found in_range = ticks_up setup desk w x x.state

  nudges_lead : (role : Role) (setup : Setup) (w : Work) → HasRoom w → Leads role link like queued w (nudges setup w)
  nudges_lead Downstream setup w room = leads_if Downstream link like queued w (says w (label_range setup)) w (asks_for_ack w.port.session) (λ t. ranges link like queued setup w room) (λ f. rests Downstream w)
  nudges_lead Upstream setup w room = leads_if Upstream link like queued w (says w (label_range setup)) w (asks_for_ack w.port.session) (λ t. others.ranges link like queued setup w) (λ f. rests Upstream w)

  windows_lead : (role : Role) (setup : Setup) (w : Work) → Leads role link like queued w (moves_windows setup w)
  windows_lead Downstream setup w = λ line h. stays Downstream link like queued (moves_windows setup w) line
      (session_kept link like queued w (λ s. record s { counted = window_moved setup.timers.window s.counted }) line (λ z. refl) (λ z. refl) (λ z. refl) h)
  windows_lead Upstream setup w = λ line h. stays Upstream link like queued (moves_windows setup w) line
      (session_minded link like queued w (λ s. record s { counted = window_moved setup.timers.window s.counted }) line (λ z. refl) h)

-- *Numbers aren't spent*
room_refreshes : (setup : Setup) (w : Work) (x : Label) → HasRoom w → HasRoom (refreshes setup w x)
room_refreshes setup w x room = on_both HasRoom (nat_le setup.timers.refresh x.ticks) (says (with_label w (record x { ticks = 0 })) (redirect setup x)) (with_label w x)
    (room_says (with_label w (record x { ticks = 0 })) (redirect setup x)) (room_session w (λ z. record z { labels = put label_number x z.labels }) (λ z. refl) room)

room_recalls : (setup : Setup) (w : Work) (x : Label) → HasRoom w → HasRoom (recalls setup w x)
room_recalls setup w x room = room_unjoins setup (reclaims_in w x w.port.session) x.number x.join (room_reclaims w x w.port.session room)

room_idles : (setup : Setup) (w : Work) (x : Label) → HasRoom w → HasRoom (idles setup w x)
room_idles setup w x room = on_both HasRoom (setup.policy.keeps x.flow x.idle) (refreshes setup w (one_older x)) (recalls setup w x)
    (room_refreshes setup w (one_older x) room) (room_recalls setup w x room)

pub room_unwires : (setup : Setup) (desk : Desk) (w : Work) (n : ℕ) → HasRoom w → HasRoom (unwires setup desk w n)
room_unwires setup desk w n room = on_both HasRoom (on_input (desk_after desk w) (label_end setup.port n) || has_room desk w)
    (with_action w (Ask (DeleteTree (label_end setup.port n)) (on_input (desk_after desk w) (label_end setup.port n)))) w
    (room_acts w (Ask (DeleteTree (label_end setup.port n)) (on_input (desk_after desk w) (label_end setup.port n))) room) room

room_ticks_in : (setup : Setup) (desk : Desk) (w : Work) (x : Label) (state : LabelState) → HasRoom w → HasRoom (ticks_in setup desk w x state)
room_ticks_in setup desk w x Wiring room = room
room_ticks_in setup desk w x Offered room = on_both HasRoom (is_none x.join) (idles setup w (one_idler x)) (refreshes setup w (one_older x))
    (room_idles setup w (one_idler x) room) (room_refreshes setup w (one_older x) room)
room_ticks_in setup desk w x (Recalled last true) room = room
room_ticks_in setup desk w x (Recalled last false) room = room_reclaims w x w.port.session room
room_ticks_in setup desk w x Wired room = on_both HasRoom (on_input (desk_after desk w) (label_end setup.port x.number)) w (unwires setup desk w x.number) room
    (room_unwires setup desk w x.number room)

room_found : (setup : Setup) (desk : Desk) (w : Work) (o : Option Label) → HasRoom w → HasRoom (ticks_found setup desk w o)
room_found setup desk w None room = room
room_found setup desk w (Some x) room = room_ticks_in setup desk w x x.state room

room_label : (setup : Setup) (desk : Desk) (w : Work) (n : ℕ) → HasRoom w → HasRoom (ticks_label setup desk w n)
room_label setup desk w n room = room_found setup desk w (label_at w.port n) room

pub room_fold : {A : Type 0} (f : Work → A → Work) → ((v : Work) (x : A) → HasRoom v → HasRoom (f v x)) → (xs : List A) (w : Work) → HasRoom w → HasRoom (fold f w xs)
room_fold f keep [] w room = room
room_fold f keep (x ∷ xs) w room = room_fold f keep xs (f w x) (keep w x room)

room_nudges : (setup : Setup) (w : Work) → HasRoom w → HasRoom (nudges setup w)
room_nudges setup w room = on_both HasRoom (asks_for_ack w.port.session) (says w (label_range setup)) w (room_says w (label_range setup)) room

room_session_ticks : (setup : Setup) (desk : Desk) (w : Work) (o : Option Session) → HasRoom w → HasRoom (ticks_session setup desk w o)
room_session_ticks setup desk w None room = room
room_session_ticks setup desk w (Some s) room =
    let grants : List ℕ = map grant_label w.port.grants in
    let aged : Work = fold (ages setup) w grants in
    let labels : List ℕ = map label_number (labels_of aged.port) in
    let ticked_all : Work = fold (ticks_label setup desk) aged labels in
    room_session (nudges setup ticked_all) (λ z. record z { counted = window_moved setup.timers.window z.counted }) (λ z. refl)
    (room_nudges setup ticked_all (room_fold (ticks_label setup desk) (room_label setup desk) labels aged (room_fold (ages setup) (room_ages setup) grants w room)))

pub room_ticks : (setup : Setup) (desk : Desk) (w : Work) → HasRoom w → HasRoom (ticks setup desk w)
room_ticks setup desk w room =
    let v : Work = steps setup w (ticked w.port.adjacency) in
    room_session_ticks setup desk v v.port.session (room_steps setup w (ticked w.port.adjacency) room)

module _ (link : LinkLabel) (like : Type 0) (queued : List Cell) where
  -- *The whole of a tick*
  session_ticks : (role : Role) (setup : Setup) (desk : Desk) (w : Work) (o : Option Session) → HasRoom w → is_label_number link.label ≡ true
      → Leads role link like queued w (ticks_session setup desk w o)
  session_ticks role setup desk w None room in_range = rests link like queued role w
  session_ticks role setup desk w (Some s) room in_range =
      let grants : List ℕ = map grant_label w.port.grants in
      let aged : Work = fold (ages setup) w grants in
      let labels : List ℕ = map label_number (labels_of aged.port) in
      let labelled_all : Work = fold (ticks_label setup desk) aged labels in
      let room_aged : HasRoom aged = room_fold (ages setup) (room_ages setup) grants w room in
      leads_on role link like queued w aged (moves_windows setup (nudges setup labelled_all))
      (leads_fold_with role link like queued HasRoom (ages setup) (room_ages setup) (λ v n r. ages_lead link like queued role setup v n) grants w room)
      (leads_on role link like queued aged labelled_all (moves_windows setup (nudges setup labelled_all))
      (leads_fold_with role link like queued HasRoom (ticks_label setup desk) (room_label setup desk)
      (λ v n r. label_ticks link like queued role setup desk v n (label_at v.port n) r refl in_range) labels aged room_aged)
      (leads_on role link like queued labelled_all (nudges setup labelled_all) (moves_windows setup (nudges setup labelled_all))
      (nudges_lead link like queued role setup labelled_all (room_fold (ticks_label setup desk) (room_label setup desk) labels aged room_aged))
      (windows_lead link like queued role setup (nudges setup labelled_all))))

  pub ticks_lead : (role : Role) (setup : Setup) (desk : Desk) (w : Work) → HasRoom w → is_label_number link.label ≡ true → Leads role link like queued w (ticks setup desk w)
  ticks_lead role setup desk w room in_range =
      let v : Work = steps setup w (ticked w.port.adjacency) in
      leads_on role link like queued w v (ticks setup desk w) (tick_leads link like queued role setup w)
      (session_ticks role setup desk v v.port.session (room_steps setup w (ticked w.port.adjacency) room) in_range)
