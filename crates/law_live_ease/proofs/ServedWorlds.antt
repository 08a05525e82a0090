-- the session of the port at an end of a link stays fitting behind what is carried and sent in a network

use Rattle.std.proofs.Common.{◌≡◌, ◌≢◌, ℕ, suc, ◌+◌, ◌<◌, ◌==◌, true, false, List, [], ◌∷◌, drop, Option, None, Some, refl, sym, ◌∙◌, ap, subst, inl}
use Rattle.world_model.specs.Words.{NodeId, Place, Down, Up, Out, Mark, Cell, Refusal, FlowId, packet_flow, at, Desk, Setup, label_for, lowest_spare, has_room, default_home, default_payload, nothing_taken, ForDefault, with_reassembly, frame_holds, counts, forwards_packet, counted_at, inject_refusal, injected, Session, Linked, linked_at, port_key, Topology, World, Site, site_key, site_at, controller_acts, queue_at, with_queue_in, carries_head, put_away, next}
use Rattle.world_model.specs.Controller.{Acted}
use Rattle.world_model.specs.network_model.Step.{injects_by}
use Rattle.world_model.specs.network_model.declared.link.LinkEnd.{LinkEnd}
use Rattle.world_model.specs.network_model.declared.event.Event.TheVariants.{Inject, Carry}
use Rattle.world_model.specs.port_model.Counts.{Counted}
use Rattle.world_model.proofs.Lists.{by_eq}
use Rattle.law_live_journeys.proofs.law_run_facts.law_port_facts.Keyed.{at_key, at_put_same}
use Rattle.calm_model.specs.Served.{OffersLabels}
use Rattle.law_live_journeys.specs.law_live_nodes.Law.{idle_work}
use Rattle.law_live_journeys.specs.law_live_hearing.Law.{acting, Hears}
use Rattle.law_live_journeys.proofs.law_live_hearing.Sites.{up_now, up_site}
use Rattle.law_live_journeys.specs.law_live_worlds.Law.{Shows}
use Rattle.law_live_journeys.proofs.law_live_elsewhere.Kept.{KeptAt, KeepsNode, KeepsSites, same_ports, sites_same, site_put}
use Rattle.law_live_journeys.proofs.law_live_elsewhere.Elsewhere.{IsKept as IsKeptAt, carry_keeps}
use Rattle.law_live_journeys.proofs.law_live_others.Holding.{SameWork, forwards_same}
use Rattle.law_live_journeys.specs.law_live_bound.Law.{HoldsPacket}
use Rattle.law_live_journeys.proofs.law_live_bound.Frames.{counted_whole}
use Rattle.law_live_journeys.proofs.law_live_bound.Worlds.{heard_as, default_taker, some_port}
use Rattle.law_live_journeys.proofs.law_live_binding_beats.Homes.{SameHome, entered_home}
use Rattle.law_live_ease.proofs.ServedWorking.{In}
use Rattle.law_live_ease.proofs.ServedCounting.{IsKept, IsCounted, Lacks, heard_good}
use Rattle.law_live_ease.proofs.ServedWalk.{Fits, Has, H, at_own_h}
use Rattle.law_live_ease.proofs.ServedFrames.{IsReadyPort, cell_k}

one_site : (x y : Site) → Some x ≡ Some y → x ≡ y
one_site x y e = cc

one_linked : (x y : Linked) → Some x ≡ Some y → x ≡ y
one_linked x y e = cc

-- *A packet that enters* leaves each node its ports
entry_keeps : (topology : Topology) (w : World) (node : NodeId) (octets : List ℕ) (k : ℕ) → KeepsSites w.sites (next topology w (Inject node octets)).sites k
entry_keeps topology w node octets k = by (inject_refusal octets)
  where
    entering : World
    entering = record (put_away w) { sent = w.sent + 1 }

    came : Site → Acted
    came site = record { controller = site.controller; notes = entering.notes; numbers = entering.numbers }

    home : (site : Site) → SameHome (came site) (injected (came site) entering.sent octets)
    home site = entered_home (came site) (record { packet = entering.sent; frame = 0 }) octets

    by : (r : Option Refusal) → KeepsSites w.sites (injects_by entering node octets r).sites k
    by (Some name) = sites_same w.sites k
    by None = at_node (site_at w node) refl
      where
        at_node : (o : Option Site) → site_at w node ≡ o → KeepsSites w.sites (controller_acts entering o (λ a. injected a entering.sent octets)).sites k
        at_node None found = sites_same w.sites k
        at_node (Some site) found = site_put w.sites node.0 site (record site { controller = (injected (came site) entering.sent octets).controller }) found
            (ap (λ (n : NodeId). n.0) (home site).node ∙ at_key site_key node.0 w.sites site found)
            (same_ports site.controller (injected (came site) entering.sent octets).controller (home site).ports (home site).address) k

module _ (topology : Topology) (far : LinkEnd) (setup : Setup) (flow : FlowId) where
  -- *In a network* the port at the end fits
  abbrev pub HasIn : (List Counted → Type 0) → World → Type 0
  HasIn Q w = (site : Site) → site_at w far.node ≡ Some site → Has far.port setup (In flow Q) site.controller

  module _ (Q : List Counted → Type 0) (w : World) (linked : Linked) (shows : Shows w far linked) where
    -- *Where its port is kept*
    kept_in : (v : World) → KeepsSites w.sites v.sites far.node.0 → HasIn Q w → HasIn Q v
    kept_in v keeps h site found now of_port = subst (Fits far.port setup (In flow Q)) (one_linked same.after now (sym there ∙ of_port))
        (same.setup ∙ fits.0, subst (λ (o : Option Session). In flow Q o) (sym (ap (λ p. p.session) same.port)) fits.1)
      where
        node : KeepsNode shows.site (site_at v far.node)
        node = keeps shows.site shows.there

        same : KeptAt linked (linked_at node.after.controller far.port)
        same = node.controller.ports far.port linked shows.of_port

        there : linked_at site.controller far.port ≡ Some same.after
        there = ap (λ (s : Site). linked_at s.controller far.port) (one_site site node.after (sym found ∙ node.there)) ∙ same.there

        fits : Fits far.port setup (In flow Q) linked
        fits = h shows.site shows.there linked shows.of_port

    pub enters : (node : NodeId) (octets : List ℕ) → HasIn Q w → HasIn Q (next topology w (Inject node octets))
    enters node octets h = kept_in (next topology w (Inject node octets)) (entry_keeps topology w node octets far.node.0) h

    -- *A carry*, where the port is ready
    module _ (kept : IsKept Q) (ready : IsReadyPort linked.port) (h : HasIn Q w) where
      own : (queue : List Cell) → queue_at w (Up far.node) ≡ queue → HasIn Q (next topology w (Carry (Up far.node)))
      own [] e = kept_in (next topology w (Carry (Up far.node)))
          (subst (λ (q : List Cell). KeepsSites w.sites (carries_head topology (put_away w) (Up far.node) q).sites far.node.0) (sym e)
          (carry_keeps topology w far far (Up far.node) [] far.node.0 tt)) h
      own (cell ∷ cells) e = λ site found. subst (λ (s : Site). Has far.port setup (In flow Q) s.controller)
          (one_site (up_now topology w far.node shows.site shows.there cell cells) site (sym (up_site topology w far.node shows.site shows.there cell cells e) ∙ found))
          (cell_k far.port setup flow Q kept (acting w shows.site) cell (record { linked = linked; of_port = shows.of_port; ready = ready }) (h shows.site shows.there))

      away : (node : NodeId) → node.0 ≢ far.node.0 → HasIn Q (next topology w (Carry (Up node)))
      away node differs = kept_in (next topology w (Carry (Up node))) (carry_keeps topology w far far (Up node) (queue_at w (Up node)) far.node.0 (by (queue_at w (Up node)))) h
        where
          by : (queue : List Cell) → IsKeptAt (Up node) queue far.node.0
          by [] = tt
          by (cell ∷ cells) = inl differs

      pub carries : (place : Place) → HasIn Q (next topology w (Carry place))
      carries (Down node) = kept_in (next topology w (Carry (Down node))) (carry_keeps topology w far far (Down node) (queue_at w (Down node)) far.node.0 tt) h
      carries (Out node port) = kept_in (next topology w (Carry (Out node port))) (carry_keeps topology w far far (Out node port) (queue_at w (Out node port)) far.node.0 tt) h
      carries (Up node) = by_eq node.0 far.node.0
          (λ same t. subst (λ (n : NodeId). HasIn Q (next topology w (Carry (Up n)))) (λ i. record { 0 = sym same i }) (own (queue_at w (Up far.node)) refl))
          (λ differs t. away node differs)

  -- *A packet of the flow is heard* there
  module _ (w : World) (linked : Linked) (shows : Shows w far linked) (ready : IsReadyPort linked.port) (of_link : (linked.setup.port.0 == 0) ≡ false)
      (wanted k : ℕ) (policy : OffersLabels setup.policy flow wanted) (room : has_room shows.site.controller.desk (idle_work linked) ≡ true)
      (spare : label_for ready.session.labels flow ≡ None → lowest_spare linked.setup ready.session.least ready.session.greatest ready.session.labels ≢ None)
      (mark : Mark) (packet : List ℕ) (hears : Hears topology w far.node (default_home far.port).channel mark (default_payload packet))
      (holds : HoldsPacket (default_payload packet) packet) (of_flow : packet_flow packet ≡ Some flow) (low : k < wanted) (h : HasIn (IsCounted flow k) w) where
    abbrev Then : List Counted → Type 0
    Then = Lacks flow wanted (suc k)

    fits : Fits far.port setup (In flow (IsCounted flow k)) linked
    fits = h shows.site shows.there linked shows.of_port

    key : port_key linked ≡ far.port.0
    key = at_key port_key far.port.0 shows.site.controller.ports linked shows.of_port

    abbrev emptied : Linked
    emptied = record linked { reassembly = nothing_taken }

    abbrev before : Acted
    before = with_reassembly (acting w shows.site) (ForDefault linked) nothing_taken

    abbrev sent : Acted
    sent = forwards_packet before mark packet

    same : SameWork before sent
    same = forwards_same before mark packet

    found : linked_at sent.controller linked.setup.port ≡ Some emptied
    found = ap (λ ports. at port_key linked.setup.port.0 ports) same.ports
        ∙ at_put_same port_key emptied shows.site.controller.ports linked (ap (λ n. at port_key n shows.site.controller.ports) key ∙ shows.of_port)

    counted : H far.port setup (In flow Then) (counted_at sent linked.setup.port packet)
    counted = at_own_h far.port setup (In flow Then) tt sent linked.setup.port (λ s desk w. counts s desk w packet) emptied found key fits.0
        (heard_good linked.setup sent.controller.desk linked.port sent.numbers.instances ready.session ready.is_open ready.order ready.few flow wanted k
        (subst (λ (s : Setup). OffersLabels s.policy flow wanted) (sym fits.0) policy)
        (subst (λ (d : Desk). has_room d (idle_work linked) ≡ true) (sym same.desk) room) spare packet of_flow low fits.1)

    abbrev after : Site
    after = record (with_queue_in shows.site (Up far.node) (drop 1 (queue_at w (Up far.node)))) { controller = (frame_holds before (ForDefault linked) mark (default_payload packet)).controller }

    acts : site_at (next topology w (Carry (Up far.node))) far.node ≡ Some after
    acts = heard_as topology w far.node (default_home far.port).channel mark (default_payload packet) hears shows.site shows.there (ForDefault linked)
        (default_taker shows.site.controller far.port linked (some_port far.port.0 (ap (λ n. n == 0) (sym key) ∙ of_link)) shows.of_port)

    pub heard : HasIn Then (next topology w (Carry (Up far.node)))
    heard site there = subst (λ (s : Site). Has far.port setup (In flow Then) s.controller) (one_site after site (sym acts ∙ there))
        (subst (λ (b : Acted). H far.port setup (In flow Then) b) (sym (counted_whole before linked mark (default_payload packet) packet holds)) counted)
