-- a packet that enters is sent on or delivered

use Rattle.std.proofs.Common.{◌≡◌, ℕ, ◌+◌, ◌<◌, true, false, List, [], ◌∷◌, ◌++◌, length, Option, None, Some, refl, sym, ◌∙◌, ap, subst, arith}
use Rattle.std.specs.Prelude.{Contains, nat_le}
use Rattle.std.specs.Option.{option_map_or}
use Rattle.std.proofs.lemmas.List.{append_cancel_left}
use Rattle.std.proofs.lemmas.List.Elements.{Contains-append_right}
use Rattle.world_model.specs.Words.{NodeId, PortNo, Down, Delivered, Refusal, Cell, Record, Journal, Here, has_entry, payload_of, next_mark, hop_of, forwards_packet, inject_refusal, Topology, World, Site, site_key, site_at, at, controller_acts, queue_in, queue_at, put_away, next}
use Rattle.world_model.specs.Controller.{Acted, free_slots, note}
use Rattle.world_model.specs.Packets.{injected}
use Rattle.world_model.specs.network_model.Step.{injects, injects_by}
use Rattle.world_model.specs.network_model.declared.event.Event.TheVariants.{Inject}
use Rattle.world_model.proofs.Lists.{at_key}
use Rattle.law_live_carried_out.specs.law_passing.telling_model.Passing.{cells_put_at, left}
use Rattle.law_live_carried_out.proofs.law_passing.Rules.{itself}
use Rattle.law_live_carried_out.proofs.law_passing.Controllers.{injected_adds}
use Rattle.law_live_carried_out.proofs.law_passing.Queues.{now_at}
use Rattle.law_live_carried_out.proofs.law_passing.Worlds.{change_by_passing}
use Rattle.law_live_carried_out.specs.law_live_hearing.Law.{acting}
use Rattle.law_live_journeys.specs.Law.{frame_on, GoesOn, IsRouted, entering, EntriesForward, EntriesFindSlots, EntriesAreDelivered}
use Rattle.law_live_journeys.proofs.Later.{later_self}
use Rattle.law_live_journeys.proofs.Sending.{delivers, IsSent, free_is_sent, unlost_is_sent, enters_nothing}

module _ (topology : Topology) (w : World) (node : NodeId) (site : Site) (found : site_at w node ≡ Some site) (packet : List ℕ) (accepted : inject_refusal packet ≡ None) where
  abbrev begun : World
  begun = record (put_away w) { sent = w.sent + 1 }

  abbrev pub a : Acted
  a = acting w site

  abbrev pub b : Acted
  b = forwards_packet a (entering w) packet

  abbrev new : Site
  new = record site { controller = b.controller }

  -- the world, told by its parts
  entered_by : {A : Type 0} (part : World → A) → part (injects (put_away w) node packet) ≡ part (controller_acts begun (Some site) (λ x. injected x begun.sent packet))
  entered_by part = ap (λ (o : Option Refusal). part (injects_by begun node packet o)) accepted
      ∙ ap (λ (o : Option Site). part (controller_acts begun o (λ x. injected x begun.sent packet))) found

  pub notes_are : (next topology w (Inject node packet)).notes ≡ b.notes
  notes_are = entered_by (λ (u : World). u.notes)

  key : site_key new ≡ node.0
  key = ap (λ (n : NodeId). n.0) (injected_adds a (w.sent + 1) packet).node ∙ at_key site_key node.0 w.sites site found

  pub queue_is : queue_at (next topology w (Inject node packet)) (Down node) ≡ b.controller.queue
  queue_is = entered_by (λ (u : World). queue_at u (Down node))
      ∙ now_at w.sites site new (subst (λ (j : ℕ). at site_key j w.sites ≡ Some site) (sym key) found) (Down node) key

  pub stays : left w (Inject node packet) (Down node) ≡ site.controller.queue
  stays = ap (λ (o : Option Site). option_map_or (λ s. queue_in s (Down node)) o []) found

  module _ (port : PortNo) (routed : IsRouted site.controller port packet) where
    some : 0 < w.sent + 1
    some = omega arith

    -- what is put are the cells that the controller sends
    goes_on : IsSent a (entering w) packet port some routed b → GoesOn topology w (Inject node packet) (record { node = node; port = port }) (entering w) packet
    goes_on s =
        let put : List Cell = frame_on port (entering w) packet ++ s.after in
        let put_is : cells_put_at topology w (Inject node packet) (Down node) ≡ put =
        append_cancel_left (left w (Inject node packet) (Down node)) (cells_put_at topology w (Inject node packet) (Down node)) put
        (sym (change_by_passing topology w (Inject node packet) (Down node)) ∙ (queue_is ∙ (s.queue ∙ ap (λ (cs : List Cell). cs ++ put) (sym stays)))) in
        record {
          put = record { front = []; after = s.after; is = put_is };
          made = ap (λ (n : Journal). payload_of n.frames (next_mark (entering w))) notes_are ∙ s.made_so;
        }

    pub unlost_goes : has_entry (next topology w (Inject node packet)).notes.entries (next_mark (entering w)) ≡ false
        → GoesOn topology w (Inject node packet) (record { node = node; port = port }) (entering w) packet
    unlost_goes none = goes_on (unlost_is_sent a (entering w) packet port some routed b (itself b) (later_self b.notes)
        (ap (λ (n : Journal). has_entry n.entries (next_mark (entering w))) (sym notes_are) ∙ none))

    pub free_goes : nat_le (length (frame_on port (entering w) packet)) (free_slots site.controller) ≡ true
        → GoesOn topology w (Inject node packet) (record { node = node; port = port }) (entering w) packet
    free_goes free = goes_on (free_is_sent a (entering w) packet port some routed b (itself b) (later_self b.notes) free)

    pub none_entered : nat_le (length (frame_on port (entering w) packet)) (free_slots site.controller) ≡ true
        → (next topology w (Inject node packet)).notes.entries ≡ w.notes.entries
    none_entered free = ap (λ (n : Journal). n.entries) notes_are ∙ enters_nothing a (entering w) packet port some routed free

  pub delivered : hop_of site.controller.table packet ≡ Here → Contains (next topology w (Inject node packet)).notes.records (Delivered node (w.sent + 1) packet)
  delivered here = subst (λ (n : Journal). Contains n.records (Delivered node (w.sent + 1) packet)) (sym notes_are)
      (subst (λ (x : Acted). Contains x.notes.records (Delivered node (w.sent + 1) packet)) (sym (delivers a (entering w) packet here))
      (subst (λ (n : NodeId). Contains (note a (Delivered n (w.sent + 1) packet)).notes.records (Delivered node (w.sent + 1) packet)) (sym own_node)
      (Contains-append_right a.notes.records (Delivered node (w.sent + 1) packet ∷ []) (Delivered node (w.sent + 1) packet) (there (Delivered node (w.sent + 1) packet)))))
    where
      own_node : site.controller.node ≡ node
      own_node = λ i. record { 0 = at_key site_key node.0 w.sites site found i }

      there : (item : Record) → Contains (item ∷ []) item
      there item = (0, omega arith, refl)

pub entries_forward : EntriesForward
entries_forward topology w one site packet found accepted routed unlost =
    let g : GoesOn topology w (Inject one.node packet) (record { node = one.node; port = one.port }) (entering w) packet =
    unlost_goes topology w one.node site found packet accepted one.port routed unlost in
    record { put = g.put; made = g.made }

pub entries_find_slots : EntriesFindSlots
entries_find_slots topology w one site packet found accepted routed free =
    let g : GoesOn topology w (Inject one.node packet) (record { node = one.node; port = one.port }) (entering w) packet =
    free_goes topology w one.node site found packet accepted one.port routed free in
    (record { put = g.put; made = g.made }, none_entered topology w one.node site found packet accepted one.port routed free)

pub entries_are_delivered : EntriesAreDelivered
entries_are_delivered topology w node site packet found accepted here = delivered topology w node site found packet accepted here
