-- the branch of a label is made at an end that binds: its REDIRECT is put into the queue, and nothing else is said

use Rattle.std.proofs.Common.{◌≡◌, ◌≤◌, ◌<◌, ◌==◌, ◌&&◌, Bool, true, false, List, [], ◌∷◌, append-nil, None, Some, refl, sym, ◌∙◌, ap, subst, if◌then◌else◌}
use Rattle.std.proofs.lemmas.List.{append_cancel_left}
use Rattle.world_model.specs.Words.{NodeId, PortNo, Up, Cell, Journal, IsLinkPort, Request, last_number, payload_of, payload_in, nothing_taken, default_channel, default_home, same_channel, taker_of, ForGsmp, with_reassembly, gsmp_holds, label_end, control_end, Label, Wiring, label_at, Linked, linked_at, port_key, begins, OfController, arrival, cell_for, reassembly_at, Topology, World, Site, site_at, queue_at, next}
use Rattle.world_model.specs.Controller.{Acted}
use Rattle.world_model.specs.Cells.{cell_comes}
use Rattle.world_model.specs.Gsmp.{message_comes}
use Rattle.world_model.specs.Meeting.{takes_success}
use Rattle.world_model.specs.Stretches.{Reassembler, ended_at, controller_arrival}
use Rattle.world_model.specs.frame_model.Frame.{octets_of}
use Rattle.world_model.specs.gsmp_wire.declared.message.Message.{Message as GsmpMessage}
use Rattle.world_model.specs.ifmp_wire.declared.message.Message.{Message}
use Rattle.world_model.specs.network_model.declared.link.LinkEnd.{LinkEnd}
use Rattle.world_model.specs.network_model.declared.event.Event.TheVariants.{Carry}
use Rattle.world_model.specs.port_model.Answers.{done}
use Rattle.law_live_binding_beats.proofs.law_port_facts.Keyed.{at_key, at_every}
use Rattle.law_live_binding_beats.specs.law_live_nodes.Law.{told_by}
use Rattle.law_live_binding_beats.specs.law_live_hearing.Law.{acting}
use Rattle.law_live_binding_beats.proofs.law_live_hearing.Sites.{up_notes}
use Rattle.law_live_binding_beats.specs.law_live_links.Law.{EndOfLink, number_of}
use Rattle.law_live_binding_beats.specs.law_live_worlds.Law.{end_of}
use Rattle.law_live_binding_beats.specs.law_live_others.Law.{IsAlikeAt}
use Rattle.law_live_binding_beats.specs.law_live_orders.Law.{last_marks, sent_at}
use Rattle.law_live_binding_beats.specs.law_live_orders.Messages.{AreSaid}
use Rattle.law_live_binding_beats.proofs.law_live_orders.Marks.{channel_is}
use Rattle.law_live_sending.proofs.Going.{Sends}
use Rattle.law_live_binding_beats.proofs.law_live_control_links.Heard.{Ended, ended_cell, IsHead}
use Rattle.law_live_binding_beats.specs.law_live_bindings.Law.{BindOn, label_branch, told_of}
use Rattle.law_live_binding_beats.proofs.law_live_bindings.Offering.{offers_keep_binding}
use Rattle.law_live_binding_beats.specs.law_live_bound.Law.{BindsAt, IsSuccess}
use Rattle.law_live_binding_beats.proofs.law_live_bound.Ports.{alike_binds}
use Rattle.law_live_binding_beats.proofs.law_live_bound.Successes.{spent_left, told_success, still, still_held, same_state, same_branch, same_message}
use Rattle.law_live_brought.specs.Law.{IsQuietNode, IsBranchOrJoin, branch, LosesNothing, OffersAreSaid}
use Rattle.law_live_brought.proofs.Saying.{Runs, runs_then, runs_same, runs_as}
use Rattle.law_live_brought.proofs.Successes.{ready, now, own_caused, success_runs, behind, quiet_behind}
use Rattle.law_live_brought.proofs.Whole.{is_last, acted, put_is}

-- *At its controller*
module _ (a : Acted) (port : PortNo) (link : IsLinkPort port) (message : GsmpMessage) (label : Label) (said : List Message) (other : EndOfLink) (bind : BindsAt a port said other)
    (success : IsSuccess a message (label_branch bind.linked.setup label.number)) (held : label_at bind.linked.port label.number ≡ Some label) (wiring : label.state ≡ Wiring)
    (quiet : IsQuietNode a) where
  abbrev request : Request
  request = label_branch bind.linked.setup label.number

  abbrev is : IsBranchOrJoin request
  is = branch (label_end bind.linked.setup.port label.number) (control_end bind.linked.setup.port label.number)

  abbrev b : Acted
  b = behind a message request success

  abbrev r : Acted
  r = ready b request is (quiet_behind a message request success quiet)

  abbrev told : Message
  told = told_of (end_of bind.linked said) other label

  found : linked_at b.controller port ≡ Some bind.linked
  found = bind.of_port

  abbrev there : IsAlikeAt bind.linked (linked_at r.controller port)
  there = now b request is (quiet_behind a message request success quiet) port link bind.linked found

  abbrev here : BindsAt r port said other
  here = alike_binds bind.linked r port said other bind.binding (bind.address ∙ sym (spent_left port (default_home port) (default_home port) b).address) there

  abbrev found_now : Label
  found_now = (still bind.linked there.after there.setup there.alike label held).found

  on : BindOn (end_of there.after said) other (done there.after.setup (begins r there.after) (label_branch there.after.setup found_now.number))
      (λ actions. told_by actions ≡ told_of (end_of there.after said) other found_now ∷ [])
  on = offers_keep_binding r.numbers.instances (end_of there.after said) other found_now here.binding (still_held bind.linked there.after there.setup there.alike label held)
      (same_state bind.linked there.after there.setup there.alike label held ∙ wiring)
      (subst (λ n. n < last_number) (sym there.alike.number) (at_every port_key (λ (l : Linked). number_of l.port < last_number) port.0 a.controller.ports bind.linked quiet.numbers bind.of_port))

  says_it : told_by (done there.after.setup (begins r there.after) request).actions ≡ told ∷ []
  says_it = ap (λ (q : Request). told_by (done there.after.setup (begins r there.after) q).actions) (sym (same_branch bind.linked there.after there.setup there.alike label held))
      ∙ (on.acts ∙ ap (λ (m : Message). m ∷ []) (same_message bind.linked there.after there.setup there.alike label held said other))

  own : (if bind.linked.setup.port.0 == 0 then (control_end bind.linked.setup.port label.number).port else bind.linked.setup.port).0 ≡ port.0
  own = ap (λ (x : Bool). (if x then (control_end bind.linked.setup.port label.number).port else bind.linked.setup.port).0) bind.binding.one_end.of_link
      ∙ at_key port_key port.0 a.controller.ports bind.linked bind.of_port

  pub offer_runs : Runs port link.0 a (message_comes a message) (told ∷ [])
  offer_runs = subst (λ (c : Acted). Runs port link.0 a c (told ∷ [])) (sym (told_success a message request success))
      (runs_then port link.0 a b (takes_success b request) [] (told ∷ []) (runs_same port link.0 a b refl refl refl refl refl (record { state = refl; waiting = refl }))
      (success_runs b request is (quiet_behind a message request success quiet) port link (told ∷ [])
      (runs_as port link.0 r _ (told_by (done there.after.setup (begins r there.after) request).actions) (told ∷ []) says_it
      (own_caused b request is (quiet_behind a message request success quiet) port link bind.linked found own))))

-- *What a carry puts* into the queue of a controller is what this sends, where nothing is lost
module _ (topology : Topology) (w : World) (one : LinkEnd) (some : 1 ≤ one.port.0) (site : Site) (there : site_at w one.node ≡ Some site) (cell : Cell) (cells : List Cell)
    (queue : queue_at w (Up one.node) ≡ cell ∷ cells) (same : LosesNothing topology w one) where
  pub said_at : (messages : List Message) → Runs one.port some (acting w site) (cell_comes (acting w site) cell) messages
      → AreSaid site.controller.address (next topology w (Carry (Up one.node))).notes.frames (sent_at topology w (Carry (Up one.node)) one) messages
  said_at messages runs =
      let notes : (next topology w (Carry (Up one.node))).notes ≡ (cell_comes (acting w site) cell).notes = up_notes topology w one.node site there cell cells queue in
      let unlost : runs.goes.entries ≡ [] = append_cancel_left w.notes.entries runs.goes.entries []
      (sym runs.goes.grown ∙ (sym (ap (λ (n : Journal). n.entries) notes) ∙ (same ∙ sym (append-nil w.notes.entries)))) in
      let sends : Sends (default_home one.port).channel (acting w site) (cell_comes (acting w site) cell) messages = runs.goes.sends unlost in
      subst (λ (n : Journal). AreSaid site.controller.address n.frames (sent_at topology w (Carry (Up one.node)) one) messages) (sym notes)
      (subst (λ (cs : List Cell). AreSaid site.controller.address (cell_comes (acting w site) cell).notes.frames (last_marks (default_home one.port).channel cs) messages)
      (sym (put_is topology w one.node site there cell cells queue sends.more sends.queue)) sends.said)

-- *What was heard on the GSMP channel* came at the head of the queue
one_cell : (x y : Cell) → Some x ≡ Some y → x ≡ y
one_cell x y e = cc e

second : (x y : Bool) → (x && y) ≡ true → y ≡ true
second true y e = e
second false y e = absurd (cc e)

module _ (node : NodeId) (cell : Cell) where
  head_by : (x : Cell) (xs : List Cell) (b : Bool) → (b ≡ true → same_channel x.header.channel default_channel ≡ true) → (if b then Some x else None) ≡ Some cell → IsHead (x ∷ xs) cell
  head_by x xs true on e = subst (IsHead (x ∷ xs)) (one_cell x cell e) (record { later = xs; is = refl; on = on refl })
  head_by x xs false on e = absurd (cc e)

  up_head : (queue : List Cell) → cell_for (OfController node default_channel) (controller_arrival node queue) ≡ Some cell → IsHead queue cell
  up_head [] e = absurd (cc e)
  up_head (x ∷ xs) e = head_by x xs ((node.0 == node.0) && same_channel x.header.channel default_channel) (second (node.0 == node.0) (same_channel x.header.channel default_channel)) e

pub offers_are_said : OffersAreSaid
offers_are_said topology w one far label said far_said link bind quiet says held wiring counts unlost same =
    said_at topology w one link.0 site bind.shows.there cell head.later head.is same (told ∷ [])
    (subst (λ (c : Acted). Runs one.port link.0 (acting w site) c (told ∷ [])) (sym comes)
    (runs_then one.port link.0 (acting w site) before (message_comes before says.message) [] (told ∷ [])
    (runs_same one.port link.0 (acting w site) before refl refl refl refl refl (record { state = refl; waiting = refl }))
    (offer_runs before one.port link says.message label said (end_of bind.far_linked far_said)
    (record { linked = bind.linked; of_port = bind.shows.of_port; address = bind.shows.address; binding = bind.binding })
    (record { standing = says.success.standing; is = says.success.is; of_request = says.success.of_request }) held wiring
    (record { up = quiet.up; none_waits = quiet.none_waits; numbers = quiet.numbers }))))
  where
    site : Site
    site = bind.shows.site

    told : Message
    told = told_of (end_of bind.linked said) (end_of bind.far_linked far_said) label

    before : Acted
    before = with_reassembly (acting w site) ForGsmp nothing_taken

    taker : Reassembler
    taker = OfController one.node default_channel

    e : Ended (ended_at w (Carry (Up one.node)) taker) (cell_for taker (arrival w (Carry (Up one.node))))
    e = ended_cell w taker says.payload (reassembly_at w taker) (cell_for taker (arrival w (Carry (Up one.node)))) says.hears.whole

    cell : Cell
    cell = e.cell

    head : IsHead (queue_at w (Up one.node)) cell
    head = up_head one.node cell (queue_at w (Up one.node)) e.is

    on : cell.header.channel ≡ default_channel
    on = channel_is cell.header.channel default_channel head.on

    last : cell.header.last ≡ true
    last = is_last topology w one.node site bind.shows.there cell head.later head.is says.payload
        (subst (λ channel. payload_in (octets_of (ended_at w (Carry (Up one.node)) (OfController one.node channel))) ≡ Some says.payload) (sym on) says.hears.whole)

    made : payload_of w.notes.frames cell.mark ≡ Some says.payload
    made = ap (payload_of w.notes.frames) (sym e.last) ∙ counts taker says.payload says.hears.whole

    comes : cell_comes (acting w site) cell ≡ message_comes before says.message
    comes = acted topology w one.node site bind.shows.there cell head.later head.is last says.payload made counts (unlost cell head.later head.is) ForGsmp (ap (taker_of site.controller) on)
        ∙ ap (gsmp_holds before) says.holds
