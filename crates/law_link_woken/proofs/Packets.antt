-- a packet that enters at the node of an end leaves its port as it is, but that it may be cleared or heard

use Rattle.std.proofs.Common.{◌≡◌, ℕ, ◌+◌, ◌<◌, ◌≤◌, ◌++◌, Bool, true, false, List, [], Option, None, Some, append-nil, length, refl, sym, ◌∙◌, ap, subst, arith, if◌then◌else◌}
use Rattle.std.specs.Prelude.{◌==◌, drop}
use Rattle.std.specs.Option.{option_map_or}
use Rattle.std.proofs.Math.Seq.{drop-append_seam}
use Rattle.world_model.specs.Words.{Addr, NodeId, Down, Cell, Peer, Side, Refusal, PacketFault, protocol_of, control_protocol, default_home, inject_refusal, IsLinkPort, Linked, Topology, World, Site, site_key, site_at, at, controller_acts, put_away, queue_at, queue_in, next}
use Rattle.world_model.specs.ipv4_packet.Packet.{first_fault}
use Rattle.world_model.specs.Controller.{Acted}
use Rattle.world_model.specs.Packets.{refused_by, injected}
use Rattle.world_model.specs.link_model.declared.record.Refusal.TheVariants.{ControlProtocol}
use Rattle.world_model.specs.network_model.Step.{injects_by}
use Rattle.world_model.specs.network_model.declared.link.LinkEnd.{LinkEnd}
use Rattle.world_model.specs.network_model.declared.event.Event.TheVariants.{Inject}
use Rattle.world_model.proofs.Lists.{at_key, at_put_same}
use Rattle.law_link_nodes.specs.law_frame_readings.Reading.{IsForwarded}
use Rattle.law_link_nodes.proofs.law_passing.Controllers.{injected_adds}
use Rattle.law_link_nodes.proofs.law_passing.Queues.{now_at}
use Rattle.law_link_nodes.specs.law_live_worlds.Law.{Shows}
use Rattle.law_link_nodes.specs.law_live_orders.Law.{last_marks}
use Rattle.law_link_nodes.specs.law_live_unsaid.Law.{SendsByLabels}
use Rattle.law_link_nodes.specs.law_live_waking_links.Hellos.{Greet, none}
use Rattle.law_link_nodes.specs.law_live_waking_links.Law.{IsLeftBy, TakesNone, HearsByTable, Takes}
use Rattle.law_link_nodes.specs.law_live_waking_links.Law as links
use Rattle.law_link_nodes.proofs.law_live_waking_links.Hellos.{no_hellos}
use Rattle.law_link_nodes.specs.law_live_tables.Law.{IsOrderly, GoesByAddress}
use Rattle.law_link_numbers.specs.Law.{EntriesKeepParties}
use Rattle.law_link_nodes.specs.law_link_tables.Law.{IsLeft, stays, hears_else, is_cleared, began, LeavesPort, EntriesLeavePorts}

-- *A packet that may enter* passes the tests of a receiver, and is no message
may_enter : (octets : List ℕ) → inject_refusal octets ≡ None → IsForwarded octets
may_enter octets e = by (first_fault octets) refl e
  where
    plain : (b : Bool) → (if b then Some ControlProtocol else None) ≡ None → b ≡ false
    plain true e = absurd (cc e)
    plain false e = refl

    by : (o : Option PacketFault) → first_fault octets ≡ o → refused_by octets o ≡ None → IsForwarded octets
    by (Some fault) is e = absurd (cc e)
    by None is e = record { whole = is; other = plain (protocol_of octets == control_protocol) e }

-- *It didn't begin anew*, where it has the party that it had
left_so : (given : ℕ) (side now : Side Peer) → side.own.instance.0 ≤ given → IsLeft given side now → now.own ≡ side.own → IsLeftBy side now
left_so given side _ drawn stays same = links.stays
left_so given side _ drawn hears_else same = links.hears_else
left_so given side _ drawn is_cleared same = links.is_cleared
left_so given side _ drawn (began now less) same = absurd (too_low now.own.instance.0 side.own.instance.0 (ap (λ (p : Peer). p.instance.0) same) less drawn)
  where
    too_low : (k m : ℕ) → k ≡ m → given < k → m ≤ given → ⊥
    too_low k m same less most = absurd (omega (arith, same, less, most))

module _ (leave : EntriesLeavePorts) (keep : EntriesKeepParties) (topology : Topology) (w : World) (end : LinkEnd) (octets : List ℕ) (link : IsLinkPort end.port) (orderly : IsOrderly w end)
    (linked : Linked) (shows : Shows w end linked) (labels : SendsByLabels shows.site.controller) where
  abbrev entering : World
  entering = record (put_away w) { sent = w.sent + 1 }

  abbrev address : Addr
  address = shows.site.controller.address

  abbrev put_in : World → List Cell
  put_in v = drop (length (queue_at w (Down end.node))) (queue_at v (Down end.node))

  record LeftIn (v : World) : Type 0 where
    now : Linked
    left_by : IsLeftBy linked.port.adjacency now.port.adjacency
    now_shows : Shows v end now
    goes_by : now_shows.site.controller.address ≡ shows.site.controller.address
    says : Greet shows.site.controller.address v.notes.frames (last_marks (default_home end.port).channel (put_in v)) []

  put_is : (q now more : List Cell) → now ≡ q ++ more → drop (length q) now ≡ more
  put_is q now more is = ap (λ (cells : List Cell). drop (length q) cells) is ∙ drop-append_seam q more

  abbrev a : Acted
  a = record { controller = shows.site.controller; notes = entering.notes; numbers = entering.numbers }

  abbrev b : Acted
  b = injected a entering.sent octets

  abbrev new : Site
  new = record shows.site { controller = b.controller }

  key : site_key new ≡ end.node.0
  key = ap (λ (n : NodeId). n.0) (injected_adds a entering.sent octets).node ∙ at_key site_key end.node.0 w.sites shows.site shows.there

  found_key : at site_key (site_key new) w.sites ≡ Some shows.site
  found_key = subst (λ (k : ℕ). at site_key k w.sites ≡ Some shows.site) (sym key) shows.there

  abbrev acted : World
  acted = controller_acts entering (Some shows.site) (λ c. injected c entering.sent octets)

  acted_there : site_at acted end.node ≡ Some new
  acted_there = subst (λ (k : ℕ). at site_key k acted.sites ≡ Some new) key (at_put_same site_key new w.sites shows.site found_key)

  queue_now : queue_at w (Down end.node) ≡ shows.site.controller.queue
  queue_now = ap (λ (o : Option Site). option_map_or (λ s. queue_in s (Down end.node)) o []) shows.there

  acted_left : IsForwarded octets → GoesByAddress acted end → LeftIn acted
  acted_left plain goes =
      let l : LeavesPort end.port a b (IsLeft a.numbers.instances linked.port.adjacency) [] = leave end.port a entering.sent octets linked link labels (omega arith) shows.of_port plain in
      let own : l.now.port.adjacency.own ≡ linked.port.adjacency.own = keep end.port a entering.sent octets linked shows.of_port l.now l.is in
      let by_address : l.now.port.adjacency.own.address ≡ new.controller.address = goes new l.now acted_there l.is in
      let put : put_in acted ≡ l.later = put_is (queue_at w (Down end.node)) (queue_at acted (Down end.node)) l.later
      (now_at w.sites shows.site new found_key (Down end.node) key ∙ (l.queue ∙ ap (λ (q : List Cell). q ++ l.later) (sym queue_now))) in
      record {
        now = l.now;
        left_by = left_so w.numbers.instances linked.port.adjacency l.now.port.adjacency (orderly.drawn linked shows) l.side own;
        now_shows = record { site = new; there = acted_there; of_port = l.is; address = by_address };
        goes_by = sym by_address ∙ (ap (λ (p : Peer). p.address) own ∙ shows.address);
        says = subst (λ (cells : List Cell). Greet shows.site.controller.address b.notes.frames (last_marks (default_home end.port).channel cells) []) (sym put) l.greets;
      }

  refused_left : (v : World) → v.sites ≡ w.sites → LeftIn v
  refused_left v same = record {
    now = linked;
    left_by = links.stays;
    now_shows = record { site = shows.site; there = ap (λ (sites : List Site). at site_key end.node.0 sites) same ∙ shows.there; of_port = shows.of_port; address = shows.address };
    goes_by = refl;
    says = subst (λ (cells : List Cell). Greet shows.site.controller.address v.notes.frames (last_marks (default_home end.port).channel cells) [])
        (sym (put_is (queue_at w (Down end.node)) (queue_at v (Down end.node)) [] (ap (λ (sites : List Site). option_map_or (λ s. queue_in s (Down end.node)) (at site_key end.node.0 sites) []) same
        ∙ sym (append-nil (queue_at w (Down end.node)))))) none;
  }

  left_in : GoesByAddress (next topology w (Inject end.node octets)) end → LeftIn (next topology w (Inject end.node octets))
  left_in goes =
      let l : LeftIn (injects_by entering end.node octets (inject_refusal octets)) = by (inject_refusal octets) refl goes in
      record {
        now = l.now;
        left_by = l.left_by;
        now_shows = record { site = l.now_shows.site; there = l.now_shows.there; of_port = l.now_shows.of_port; address = l.now_shows.address };
        goes_by = l.goes_by;
        says = l.says;
      }
    where
      by : (r : Option Refusal) → inject_refusal octets ≡ r → GoesByAddress (injects_by entering end.node octets r) end → LeftIn (injects_by entering end.node octets r)
      by (Some name) is goes = refused_left (injects_by entering end.node octets (Some name)) refl
      by None is goes = subst (λ (o : Option Site). GoesByAddress (controller_acts entering o (λ c. injected c entering.sent octets)) end → LeftIn (controller_acts entering o (λ c. injected c entering.sent octets)))
          (sym shows.there) (acted_left (may_enter octets is)) goes

  takes_none : GoesByAddress (next topology w (Inject end.node octets)) end → TakesNone topology w (Inject end.node octets) end shows.site.controller.address linked.port.adjacency
  takes_none goes =
      let l : LeftIn (next topology w (Inject end.node octets)) = left_in goes in
      record {
        after = l.now.port.adjacency;
        left_by = l.left_by;
        leaves = record { linked = l.now; shows = l.now_shows; goes_by = l.goes_by; has = refl; says = l.says };
      }

-- *So it goes by its table*
pub packets_go_by_table : EntriesLeavePorts → EntriesKeepParties → (topology : Topology) (w : World) (end peer : LinkEnd) (octets : List ℕ) → IsLinkPort end.port → IsOrderly w end
    → ((site : Site) → site_at w end.node ≡ Some site → SendsByLabels site.controller) → GoesByAddress (next topology w (Inject end.node octets)) end
    → HearsByTable topology w (Inject end.node octets) end peer
packets_go_by_table leave keep topology w end peer octets link orderly labels goes linked peer_linked shows peer_shows hears greet written named =
    subst (Takes topology w (Inject end.node octets) end shows.site.controller.address linked.port.adjacency)
    (sym (no_hellos peer_shows.site.controller.address w.notes.frames [] hears greet refl))
    (takes_none leave keep topology w end octets link orderly linked shows (labels shows.site shows.there) goes)
