-- what is brought on a default channel or on that of a label, and all that may be brought

use Rattle.std.proofs.Common.{◌≡◌, ◌≢◌, ◌⊎◌, inl, inr, ℕ, Bool, true, false, List, [], ◌∷◌, Some, refl, sym, ◌∙◌, ap, subst}
use Rattle.world_model.specs.Words.{PortNo, Policy, Up, Channel, Cell, at, payload_of, nothing_taken, default_home, default_unwrapped, ifmp_of, same_channel, Label, Linked, port_key, ForGsmp, ForDefault, ForLabel, taker_of, with_reassembly, Topology, World, Site, queue_at, next}
use Rattle.world_model.specs.Controller.{Acted}
use Rattle.world_model.specs.Cells.{Taker}
use Rattle.world_model.specs.network_model.declared.link.LinkEnd.{LinkEnd}
use Rattle.world_model.specs.network_model.declared.event.Event.{Event}
use Rattle.world_model.specs.network_model.declared.event.Event.TheVariants.{Carry}
use Rattle.world_model.proofs.Lists.{by_eq}
use Rattle.law_live_binding_beats.specs.law_port_facts.ordered_lists.Ordered.{Every}
use Rattle.law_live_binding_beats.proofs.law_port_facts.Keyed.{at_key, at_put_same}
use Rattle.law_live_binding_beats.proofs.law_run_facts.Takers.{default_of}
use Rattle.law_live_binding_beats.specs.law_live_hearing.Law.{world_at, acting, Hears}
use Rattle.law_live_binding_beats.specs.law_live_links.Law.{EndOfLink}
use Rattle.law_live_binding_beats.specs.law_live_worlds.Law.{end_of}
use Rattle.law_live_binding_beats.proofs.law_live_elsewhere.Elsewhere.{taker_is_of}
use Rattle.law_live_binding_beats.specs.law_live_others.Law.{IsUnheard}
use Rattle.law_live_binding_beats.proofs.law_live_others.Framing.{frames_for_others}
use Rattle.law_live_binding_beats.specs.law_live_orders.Law.{is_last_on}
use Rattle.law_live_binding_beats.specs.law_live_orders.Messages.{HoldsNone, IsFirst, IsPassed}
use Rattle.law_live_binding_beats.proofs.law_live_orders.Coming.{first_messages_are_heard}
use Rattle.law_live_binding_beats.proofs.law_live_orders.Marks.{channel_is}
use Rattle.law_live_binding_beats.specs.law_live_passed_by.Law.{HoldNone}
use Rattle.law_live_binding_beats.specs.law_live_unsaid.Law.{IsUnanswered}
use Rattle.law_live_binding_beats.proofs.law_live_unsaid.Unanswered.{others_are_unanswered}
use Rattle.law_live_binding_beats.specs.law_live_going.Law.{IsWritten}
use Rattle.law_live_binding_beats.specs.law_live_bindings.Law.{HasRoomFor}
use Rattle.law_live_binding_beats.specs.law_live_bound.Law.{BindsAt}
use Rattle.law_live_binding_beats.specs.Law.{BindByQueues, counts, IsBroughtOn}
use Rattle.law_live_binding_beats.proofs.Saying.{counted_are_unanswered, heard_are_unanswered}
use Rattle.law_live_binding_beats.proofs.law_live_peace.Others.{labels_hold}
use Rattle.law_live_brought.proofs.Whole.{one_payload}
use Rattle.law_live_brought.proofs.Heard.{Packet, unheard_or_packet}
use Rattle.law_live_brought.proofs.Moment.{no_end, Brings, found, of_port, is, within, stays_up, stay, SaysNow, DoesNow, Outcome, brought_by, quietly, no_cell, one_linked, both_true}
use Rattle.law_live_brought.proofs.Ending.{LastCell, its_payload, its_made, its_hearing, its_taking, up_behind, alike_now, none_said}
use Rattle.law_live_brought.proofs.Told.{gsmp_comes}

module _ {policy : Policy} {topology : Topology} {before : List Event} {one far : LinkEnd} {ends : BindByQueues (world_at policy topology before) one far}
    {moment : Brings policy topology before ends} (c : LastCell moment) where
  abbrev w : World
  w = world_at policy topology before

  abbrev v : World
  v = next topology w (Carry (Up one.node))

  abbrev site : Site
  site = ends.bind.shows.site

  abbrev linked : Linked
  linked = ends.bind.linked

  abbrev other : EndOfLink
  other = end_of ends.bind.far_linked ends.far_said

  abbrev cell : Cell
  cell = c.cell

  abbrev cells : List Cell
  cells = c.cells

  queue : queue_at w (Up one.node) ≡ cell ∷ cells
  queue = c.queue

  last : cell.header.last ≡ true
  last = c.last

  abbrev payload : List ℕ
  payload = its_payload c

  made : payload_of w.notes.frames cell.mark ≡ Some payload
  made = its_made c

  heard : Hears topology w one.node cell.header.channel cell.mark payload
  heard = its_hearing c

  -- *On the channel of a label*
  label_comes : (q : Linked) (label : Label) → taker_of site.controller cell.header.channel ≡ Some (ForLabel q label) → Outcome moment
  label_comes q label takes = quietly moment
      (none_said c (ForLabel q label) takes (labels_hold policy topology before (Up one.node) moment.comes moment.world one (within moment) refl site cell cells (ForLabel q label) payload (found moment) queue
      (record { takes = takes; whole = heard.whole }) q label refl))
      (λ none. alike_now c (ForLabel q label) takes (frames_for_others one.port (with_reassembly (acting w site) (ForLabel q label) nothing_taken) (ForLabel q label) cell.mark payload tt (up_behind c (ForLabel q label) takes)))

  -- *On the default channel of another port*
  other_comes : (q : Linked) → taker_of site.controller cell.header.channel ≡ Some (ForDefault q) → q.setup.port.0 ≢ one.port.0 → Outcome moment
  other_comes q takes differs = quietly moment
      (none_said c (ForDefault q) takes (λ again. absurd (differs again)))
      (λ none. alike_now c (ForDefault q) takes (frames_for_others one.port (with_reassembly (acting w site) (ForDefault q) nothing_taken) (ForDefault q) cell.mark payload (inl differs) (up_behind c (ForDefault q) takes)))

  -- *On the port's own*
  module _ (takes : taker_of site.controller cell.header.channel ≡ Some (ForDefault linked)) where
    abbrev d : Acted
    d = with_reassembly (acting w site) (ForDefault linked) nothing_taken

    own_key : port_key linked ≡ one.port.0
    own_key = at_key port_key one.port.0 site.controller.ports linked (of_port moment)

    own_port : linked.setup.port ≡ one.port
    own_port = λ i. record { 0 = own_key i }

    on_default : same_channel cell.header.channel (default_home one.port).channel ≡ true
    on_default = subst (λ (p : PortNo). same_channel cell.header.channel (default_home p).channel ≡ true) own_port (default_of site.controller cell.header.channel linked takes)

    last_on : is_last_on (default_home one.port).channel cell ≡ true
    last_on = both_true cell.header.last (same_channel cell.header.channel (default_home one.port).channel) last on_default

    abbrev binds_there : BindsAt d linked.setup.port ends.said other
    binds_there = record {
      linked = record linked { reassembly = nothing_taken };
      of_port = at_put_same port_key (record linked { reassembly = nothing_taken }) site.controller.ports linked (ap (λ k. at port_key k site.controller.ports) own_key ∙ of_port moment);
      address = ends.bind.shows.address;
      binding = ends.bind.binding;
    }

    abbrev Either : Type 0
    Either = IsUnheard d linked.setup.port (default_unwrapped payload) ⊎ Packet payload

    either : HoldsNone w.notes.frames cell.mark → Either
    either holds = unheard_or_packet d linked.setup.port payload (ap ifmp_of (one_payload payload holds.payload (sym made ∙ holds.made)) ∙ holds.no_message)

    -- a packet is counted, and all else isn't heard
    either_does : Either → DoesNow moment []
    either_does (inl unheard) = alike_now c (ForDefault linked) takes (frames_for_others one.port d (ForDefault linked) cell.mark payload (inr unheard) (up_behind c (ForDefault linked) takes))
    either_does (inr p) = counts (record {
      mark = cell.mark;
      payload = payload;
      packet = p.packet;
      hears = subst (λ (c : Channel). Hears topology w one.node c cell.mark payload) (channel_is cell.header.channel (default_home one.port).channel on_default) heard;
      holds = p.holds;
      range = moment.may.range;
      up = stays_up moment;
    })

    either_none : Either → SaysNow moment []
    either_none (inl unheard) = none_said c (ForDefault linked) takes (others_are_unanswered one.port d (ForDefault linked) payload (inr unheard) (λ q label e. absurd (cc e)))
    either_none (inr p) = none_said c (ForDefault linked) takes (λ again.
        counted_are_unanswered d linked payload p.packet ends.said other binds_there p.holds moment.may.range refl)

    -- a message of the other end
    first_none : IsFirst ends.bind.far_shows.site.controller.address w v far one cell.mark ends.far_said → SaysNow moment []
    first_none f = none_said c (ForDefault linked) takes (λ again.
        subst (λ (x : List ℕ). IsUnanswered linked.setup.port d (ForDefault linked) x) (one_payload _ payload (sym f.says ∙ made))
        (heard_are_unanswered d linked ends.bind.far_shows.site.controller.address f.message f.rest ends.said other binds_there f.are ends.bind.far_shows.address ends.far_low
        can.range can.fits room) refl)
      where
        can : IsWritten f.message
        can = (subst (Every IsWritten) f.are ends.far_written).0

        room : HasRoomFor d.controller.desk d.numbers.instances (end_of binds_there.linked ends.said) f.message
        room = (subst (Every (HasRoomFor site.controller.desk w.numbers.instances (end_of linked []))) f.are moment.may.room).0

    by_first : IsFirst ends.bind.far_shows.site.controller.address w v far one cell.mark ends.far_said
        ⊎ IsPassed ends.bind.far_shows.site.controller.address w v far one cell.mark ends.far_said → SaysNow moment []
    by_first (inl f) = first_none f
    by_first (inr passed) = either_none (either passed.holds_none)

    own_comes : Outcome moment
    own_comes = quietly moment
        (by_first (first_messages_are_heard topology w far one cell cells ends.bind.far_shows.site.controller.address ends.far_said (is moment) moment.back queue last_on ends.back (stay moment)))
        (λ none. either_does (either (subst (HoldNone w one) queue (none refl) last_on)))

  default_comes : (q : Linked) → taker_of site.controller cell.header.channel ≡ Some (ForDefault q) → Outcome moment
  default_comes q takes = by_eq q.setup.port.0 one.port.0
      (λ same_number t. own_comes (takes ∙ ap (λ (l : Linked). Some (ForDefault l)) (one_linked q linked
      (sym (taker_is_of site.controller cell.header.channel (ForDefault q) takes) ∙ (ap (λ k. at port_key k site.controller.ports) same_number ∙ of_port moment)))))
      (λ differs t. other_comes q takes differs)

  by_taker : (t : Taker) → taker_of site.controller cell.header.channel ≡ Some t → Outcome moment
  by_taker ForGsmp takes = gsmp_comes c takes
  by_taker (ForDefault q) takes = default_comes q takes
  by_taker (ForLabel q label) takes = label_comes q label takes

  last_comes : Outcome moment
  last_comes = by_taker (its_hearing c).taker (its_taking c)

-- *All that it may bring*
module _ {policy : Policy} {topology : Topology} {before : List Event} {one far : LinkEnd} {ends : BindByQueues (world_at policy topology before) one far}
    (moment : Brings policy topology before ends) where
  cell_outcome : (cell : Cell) (cells : List Cell) → queue_at (world_at policy topology before) (Up one.node) ≡ cell ∷ cells → (b : Bool) → cell.header.last ≡ b → Outcome moment
  cell_outcome cell cells queue true last = last_comes {moment = moment} (record { cell = cell; cells = cells; queue = queue; last = last })
  cell_outcome cell cells queue false part = no_end moment cell cells queue part

  outcome : (queue : List Cell) → queue_at (world_at policy topology before) (Up one.node) ≡ queue → Outcome moment
  outcome [] e = no_cell moment e
  outcome (cell ∷ cells) e = cell_outcome cell cells e cell.header.last refl

  pub brought_on : IsBroughtOn topology (world_at policy topology before) one ends.bind.shows (end_of ends.bind.far_linked ends.far_said)
  brought_on = brought_by moment (outcome (queue_at (world_at policy topology before) (Up one.node)) refl)
