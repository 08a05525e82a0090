-- a packet that enters is sent on, where nothing is entered by that

use Rattle.std.proofs.Common.{◌≡◌, ℕ, ◌+◌, ◌<◌, List, None, Some, sym, ◌∙◌, ap, subst, arith}
use Rattle.world_model.specs.Words.{NodeId, PortNo, Channel, Journal, next_mark, default_payload, labelled_payload, kind_of, onward, control_end, default_home, Grant, forwards_packet, inject_refusal, Topology, World, Site, site_at, next}
use Rattle.world_model.specs.Controller.{Acted}
use Rattle.world_model.specs.Sending.{sends}
use Rattle.world_model.specs.network_model.declared.event.Event.TheVariants.{Inject}
use Rattle.law_live_ease.specs.law_live_hearing.Law.{acting}
use Rattle.law_live_ease.specs.law_live_journeys.Law.{IsRouted, entering}
use Rattle.law_live_ease.proofs.law_live_journeys.Entering.{notes_are, queue_is, stays}
use Rattle.law_live_cut_through.specs.Under.{IsGranted, EntersNothing, EntriesGoOn, EntriesGoUnder}
use Rattle.law_live_cut_through.proofs.UnderGrowing.{Follows, follows_itself}
use Rattle.law_live_cut_through.proofs.UnderSending.{by_default, by_grant, is_sent, GoesOut, goes_out}

module _ (topology : Topology) (w : World) (node : NodeId) (site : Site) (found : site_at w node ≡ Some site) (packet : List ℕ) (accepted : inject_refusal packet ≡ None)
    (none : EntersNothing topology w (Inject node packet)) where
  abbrev a : Acted
  a = acting w site

  abbrev b : Acted
  b = forwards_packet a (entering w) packet

  abbrev notes_now : (next topology w (Inject node packet)).notes ≡ b.notes
  notes_now = notes_are topology w node site found packet accepted

  some : 0 < w.sent + 1
  some = omega arith

  -- *One frame* goes out
  out : (channel : Channel) (payload : List ℕ) → b ≡ sends a channel (next_mark (entering w)) payload
      → GoesOut topology w (Inject node packet) node channel (next_mark (entering w)) payload
  out channel payload goes = goes_out topology w (Inject node packet) node channel (next_mark (entering w)) payload a b notes_now (queue_is topology w node site found packet accepted) (stays topology w node site found packet accepted)
      (is_sent a channel (next_mark (entering w)) payload some b (subst (λ (x : Acted). Follows x b) goes (follows_itself b)) (ap (λ (n : Journal). n.entries) (sym notes_now) ∙ none))

  pub routed : (port : PortNo) → IsRouted site.controller port packet
      → GoesOut topology w (Inject node packet) node (default_home port).channel (next_mark (entering w)) (default_payload (onward packet))
  routed port r = out (default_home port).channel (default_payload (onward packet)) (by_default a (entering w) packet some port r.route r.ungranted)

  pub granted : (port : PortNo) (grant : Grant) → IsGranted site.controller port packet grant
      → GoesOut topology w (Inject node packet) node (control_end port grant.label).channel (next_mark (entering w)) (labelled_payload (kind_of grant.flow) (onward packet))
  granted port grant g = out (control_end port grant.label).channel (labelled_payload (kind_of grant.flow) (onward packet)) (by_grant a (entering w) packet some port g.route grant g.granted)

pub entries_go_on : EntriesGoOn
entries_go_on topology w one site packet found accepted route none =
    let g = routed topology w one.node site found packet accepted none one.port route in
    record { put = g.put; made = g.made }

pub entries_go_under : EntriesGoUnder
entries_go_under topology w one site packet grant found accepted is none =
    let g = granted topology w one.node site found packet accepted none one.port grant is in
    record { put = g.put; made = g.made }
