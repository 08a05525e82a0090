-- what is sent behind the carries: packets that enter, and further carries

use Rattle.std.proofs.Common.{◌≡◌, ℕ, ◌+◌, List, [], ◌∷◌, ◌++◌, append-nil, Option, None, Some, refl, sym, ◌∙◌, ap, subst}
use Rattle.world_model.specs.Words.{NodeId, Addr, Mark, Refusal, inject_refusal, injected, Linked, linked_at, Topology, World, Site, site_key, site_at, controller_acts, put_away, IsTopology, next}
use Rattle.world_model.specs.Controller.{Acted}
use Rattle.world_model.specs.network_model.Step.{injects_by}
use Rattle.world_model.specs.ifmp_wire.declared.message.Message.{Message}
use Rattle.world_model.specs.network_model.declared.link.LinkEnd.{LinkEnd}
use Rattle.world_model.specs.network_model.declared.event.Event.{Event}
use Rattle.world_model.specs.network_model.declared.event.Event.TheVariants.{Inject, Carry, Lose, Tick, TickSwitch, Restart, RestartSwitch, Forge, Route}
use Rattle.world_model.proofs.Lists.{at_key}
use Rattle.law_live_asking.proofs.law_causes.Shown.{peer_back}
use Rattle.law_live_asking.specs.law_live_unseen.Law.{AreAlike}
use Rattle.law_live_asking.specs.law_live_worlds.Law.{Shows, IsLeftAlike}
use Rattle.law_live_asking.proofs.law_live_elsewhere.Kept.{KeptAt, KeepsNode, KeepsSites, same_ports, sites_same, site_put}
use Rattle.law_live_asking.specs.law_live_orders.Law.{coming, sent_at, IsOpenWay}
use Rattle.law_live_asking.specs.law_live_orders.Messages.{AreSaid, AreComing, StayMade}
use Rattle.law_live_asking.proofs.law_live_orders.Saying.{sayings_stay, said_join}
use Rattle.law_live_asking.proofs.law_live_orders.Coming.{frames_come_in_order}
use Rattle.law_live_asking.specs.law_live_bound.Worlds.{BindIn}
use Rattle.law_live_asking.proofs.law_live_bound.Worlds.{like_worlds_bind}
use Rattle.law_live_binding_beats.specs.Law.{BindByQueues}
use Rattle.law_live_binding_beats.specs.Beats.{IsBindingEntry, IsBindingEvent, SendingsBindOn}
use Rattle.law_live_binding_beats.proofs.Homes.{SameHome, entered_home}
use Rattle.law_live_binding_beats.proofs.Entering.{entry_says_none}
use Rattle.law_live_binding_beats.proofs.Shown.{alike_address, by_queues}
use Rattle.law_live_binding_beats.proofs.Steps.{carry_binds}

module _ (topology : Topology) (w : World) (node : NodeId) (octets : List ℕ) where
  abbrev v : World
  v = next topology w (Inject node octets)

  abbrev entering : World
  entering = record (put_away w) { sent = w.sent + 1 }

  entry_keeps : (k : ℕ) → KeepsSites w.sites v.sites k
  entry_keeps k = by (inject_refusal octets)
    where
      acting : Site → Acted
      acting site = record { controller = site.controller; notes = entering.notes; numbers = entering.numbers }

      entered : (site : Site) → SameHome (acting site) (injected (acting site) entering.sent octets)
      entered site = entered_home (acting site) (record { packet = entering.sent; frame = 0 }) octets

      by : (r : Option Refusal) → KeepsSites w.sites (injects_by entering node octets r).sites k
      by (Some name) = sites_same w.sites k
      by None = at_node (site_at w node) refl
        where
          at_node : (o : Option Site) → site_at w node ≡ o → KeepsSites w.sites (controller_acts entering o (λ a. injected a entering.sent octets)).sites k
          at_node None found = sites_same w.sites k
          at_node (Some site) found = site_put w.sites node.0 site (record site { controller = (injected (acting site) entering.sent octets).controller }) found
              (ap (λ (n : NodeId). n.0) (entered site).node ∙ at_key site_key node.0 w.sites site found)
              (same_ports site.controller (injected (acting site) entering.sent octets).controller (entered site).ports (entered site).address) k

  -- *Each port* is left as it was
  entry_left : (end : LinkEnd) (linked : Linked) → Shows w end linked → IsLeftAlike linked v end
  entry_left end linked shows = record {
    linked = kept.after;
    shows = record {
      site = now.after;
      there = now.there;
      of_port = kept.there;
      address = ap (λ p. p.adjacency.own.address) kept.port ∙ (shows.address ∙ sym now.controller.address);
    };
    setup = kept.setup;
    alike = subst (λ p. AreAlike linked.port p) (sym kept.port) (record { adjacency = refl; in_session = refl; number = refl; expected = refl; labels = refl; grants = refl });
  }
    where
      now : KeepsNode shows.site (site_at v end.node)
      now = entry_keeps end.node.0 shows.site shows.there

      kept : KeptAt linked (linked_at now.after.controller end.port)
      kept = now.controller.ports end.port linked shows.of_port

  -- *What is on its way* comes as before, where none is said
  entry_coming : (one far : LinkEnd) (address : Addr) (said : List Message) → IsTopology topology → IsOpenWay topology w one far
      → StayMade w.notes.frames v.notes.frames (coming w one far) → AreSaid address v.notes.frames (sent_at topology w (Inject node octets) one) []
      → AreComing address w one far said → AreComing address v one far said
  entry_coming one far address said is way stays silent there =
      subst (λ (marks : List Mark). AreSaid address v.notes.frames marks said) (sym (frames_come_in_order topology w one far (Inject node octets) is way tt))
      (subst (λ (ms : List Message). AreSaid address v.notes.frames (coming w one far ++ sent_at topology w (Inject node octets) one) ms) (append-nil said)
      (said_join address v.notes.frames (coming w one far) (sent_at topology w (Inject node octets) one) said []
      (sayings_stay address w.notes.frames v.notes.frames (coming w one far) said stays there) silent))

  pub entry_binds : IsTopology topology → (one far : LinkEnd) (ends : BindByQueues w one far) → IsBindingEntry topology ends node octets → BindByQueues v one far
  entry_binds is one far ends e = by_queues w v one far ends ends.said ends.far_said bind_on
      (alike_address w v one ends.bind.linked bind_on.linked ends.bind.shows left bind_on.shows)
      (alike_address w v far ends.bind.far_linked bind_on.far_linked ends.bind.far_shows far_left bind_on.far_shows)
      (entry_coming one far ends.bind.shows.site.controller.address ends.said is e.ways.there e.ways.stays
      (entry_says_none topology w one octets ends.bind.shows.site.controller.address node (peer_back topology is one far e.ways.there.linked).own ends.bind.shows.site ends.bind.shows.there e.labels) ends.there)
      (entry_coming far one ends.bind.far_shows.site.controller.address ends.far_said is e.ways.back e.ways.far_stays
      (entry_says_none topology w far octets ends.bind.far_shows.site.controller.address node (peer_back topology is far one e.ways.back.linked).own ends.bind.far_shows.site ends.bind.far_shows.there e.far_labels) ends.back)
      ends.written ends.far_written
    where
      left : IsLeftAlike ends.bind.linked v one
      left = entry_left one ends.bind.linked ends.bind.shows

      far_left : IsLeftAlike ends.bind.far_linked v far
      far_left = entry_left far ends.bind.far_linked ends.bind.far_shows

      bind_on : BindIn v one far ends.said ends.far_said
      bind_on = like_worlds_bind w v one far ends.said ends.far_said ends.bind left far_left

-- *Any event* of these
event_binds : (topology : Topology) → IsTopology topology → (w : World) (one far : LinkEnd) (ends : BindByQueues w one far) (event : Event) → IsBindingEvent topology ends event
    → BindByQueues (next topology w event) one far
event_binds topology is w one far ends (Inject node octets) e = entry_binds topology w node octets is one far ends e
event_binds topology is w one far ends (Carry place) e = carry_binds topology is w one far ends place e
event_binds topology is w one far ends (Lose place) e = absurd e
event_binds topology is w one far ends (Tick node) e = absurd e
event_binds topology is w one far ends (TickSwitch node) e = absurd e
event_binds topology is w one far ends (Restart node) e = absurd e
event_binds topology is w one far ends (RestartSwitch node) e = absurd e
event_binds topology is w one far ends (Forge place channel payload) e = absurd e
event_binds topology is w one far ends (Route node change) e = absurd e

pub sendings_bind_on : SendingsBindOn
sendings_bind_on topology w one far [] is ends each = ends
sendings_bind_on topology w one far (event ∷ events) is ends each =
    sendings_bind_on topology (next topology w event) one far events is (event_binds topology is w one far ends event (each [] events event refl ends))
    (λ front rest later e. each (event ∷ front) rest later (ap (λ (es : List Event). event ∷ es) e))
