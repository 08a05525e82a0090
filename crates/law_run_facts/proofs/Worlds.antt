-- each event leaves marks that were given out, and draws new instances

use Rattle.std.proofs.Common.{◌≡◌, ℕ, ◌+◌, List, [], ◌∷◌, Option, None, Some, refl, sym, ◌∙◌, ap, subst, arith, inl}
use Rattle.law_world_pace.specs.world_model.Words.{NodeId, PortNo, Place, Down, Up, Out, Channel, GivenOut, next_control, with_control, Cell, RouteChange, Next, Record, Forged, Refusal, at, put, control_port, inject_refusal, injected, sends_control, node_restarts, change_comes, Topology, with_site, World, Site, site_key, site_at, controller_acts, switch_acts, queue_at, with_queue_in, with_queue_of, with_queue, injects_by, injects, arrives_at, arrives, carries_head, loses_head, forges_at, forges}
use Rattle.law_controller_bindings.proofs.law_port_facts.Keyed.{at_key, at_every, at_put_same, put_every}
use Rattle.law_world_pace.specs.world_model.Conduct as switch
use Rattle.law_world_pace.specs.world_model.Controller.{Acted}
use Rattle.law_world_pace.specs.world_model.Sending.{sends}
use Rattle.law_world_pace.specs.world_model.Cells as controller
use Rattle.law_world_pace.specs.world_model.Ticks as controller_ticks
use Rattle.law_controller_bindings.specs.law_controller_facts.Inputs.{Input, CellComes, PacketEnters, Ticks, Restarts, ChangeComes, enters_unless, takes_input}
use Rattle.law_controller_bindings.specs.law_controller_facts.Sound.{IsOwn}
use Rattle.law_run_facts.specs.Inputs as turns
use Rattle.law_run_facts.proofs.Switches as switching
use Rattle.law_run_facts.proofs.Switches.{sends_leave}
use Rattle.law_run_facts.proofs.Owns.{own_in}
use Rattle.law_run_facts.proofs.Controllers as controllers
use Rattle.law_run_facts.proofs.Controllers.{IsLeft, control_leaves, May}
use Rattle.law_world_pace.specs.world_model.network_model.declared.event.Event.{Event}
use Rattle.law_world_pace.specs.world_model.network_model.declared.event.Event.TheVariants.{Inject, Carry, Lose, Tick, TickSwitch, Restart, RestartSwitch, Forge, Route}
use Rattle.law_world_pace.specs.world_model.network_model.declared.link.LinkEnd.{LinkEnd}
use Rattle.law_world_pace.specs.world_model.Topology.{peer_of}
use Rattle.law_world_pace.specs.world_model.World.{at_controller, at_switch}
use Rattle.law_world_pace.specs.world_model.Step.{note, acts}
use Rattle.law_run_facts.proofs.Marked.{Kind, IsController, IsSwitch, IsPort, own_as, SiteMarked, WorldMarked, sites_later, queue_marked, Popped, queue_popped, site_draws}
use Rattle.law_run_facts.proofs.Acting.{IsWhole, sent_same, Left, still, then_left, acting, is_left, site_of, controller_left, turning, turned, switch_by, switch_left}

module _ (Leads : NodeId → Next → Type 0) where
  -- *The head of a queue*
  head_marked : (w : World) (place : Place) (cell : Cell) (cells : List Cell) → queue_at w place ≡ cell ∷ cells → WorldMarked Leads w → turns.IsMarked w.numbers.controls cell
  head_marked w place cell cells is h = (subst (switching.AreMarked w.numbers.controls) is (queue_marked Leads w place h)).0

  popped_marked : (w u : World) (cell : Cell) → Popped Leads w u → turns.IsMarked w.numbers.controls cell → turns.IsMarked u.numbers.controls cell
  popped_marked w u cell p m = subst (λ (g : GivenOut). turns.IsMarked g.controls cell) (sym p.numbers) m

  -- a record alone
  note_left : (w u : World) (item : Record) → Popped Leads w u → WorldMarked Leads w → Left Leads w (note u item)
  note_left w u item p h = still Leads w (note u item) h p.own (ap (λ (g : GivenOut). g.instances) p.numbers) (ap (λ (g : GivenOut). g.controls) p.numbers) (record { sites = p.marked.sites; free = p.marked.free })

  -- *Each event* of a world whose controllers are sound; a change of routes leads where it may
  module _ (t : Topology) (w : World) (h : WorldMarked Leads w) (whole : (node : NodeId) (site : Site) → site_at w node ≡ Some site → IsWhole site.controller) where
    abbrev CanChange : Event → Type 0
    CanChange event = (node : NodeId) (change : RouteChange) → event ≡ Route node change → May (Leads node) change.next

    acts_left : (node : NodeId) (act : Acted → Acted) (input : Input) → ((a : Acted) → act a ≡ takes_input a input) → IsOwn input
        → ((site : Site) → site_at w node ≡ Some site → controllers.IsFair w.numbers.controls (Leads site.controller.node) input) → Left Leads w (at_controller w node act)
    acts_left node act input is own fair = controller_left Leads w node act input is own h (λ site found. whole node site found) fair

    inject_left : (node : NodeId) (octets : List ℕ) → Left Leads w (injects w node octets)
    inject_left node octets = by (inject_refusal octets) refl
      where
        counted : World
        counted = record w { sent = w.sent + 1 }

        h' : WorldMarked Leads counted
        h' = record { sites = h.sites; free = h.free }

        by : (o : Option Refusal) → inject_refusal octets ≡ o → Left Leads w (injects_by counted node octets o)
        by (Some name) e = still Leads w (injects_by counted node octets (Some name)) h (λ holder. refl) refl refl (record { sites = h.sites; free = h.free })
        by None e = again (controller_left Leads counted node (λ a. injected a (w.sent + 1) octets) (PacketEnters (w.sent + 1) octets)
            (λ a. ap (enters_unless a (w.sent + 1) octets) (sym e)) tt h' (λ site found. whole node site found) (λ site found. omega arith))
          where
            again : Left Leads counted (at_controller counted node (λ a. injected a (w.sent + 1) octets)) → Left Leads w (at_controller counted node (λ a. injected a (w.sent + 1) octets))
            again l = record { marked = l.marked; draws = record { more = l.draws.more; each = l.draws.each; apart = l.draws.apart }; controls = l.controls; few = l.few }

    carry_left : (place : Place) (queue : List Cell) → queue_at w place ≡ queue → Left Leads w (carries_head t w place queue)
    carry_left place [] is = still Leads w w h (λ holder. refl) refl refl h
    carry_left place (cell ∷ cells) is = by place refl
      where
        u : World
        u = with_queue w place cells

        p : Popped Leads w u
        p = queue_popped Leads w place cell cells is h

        m : turns.IsMarked u.numbers.controls cell
        m = popped_marked w u cell p (head_marked w place cell cells is h)

        to_switch : (node : NodeId) (port : PortNo) → Left Leads w (at_switch u node (λ a. switch.cell_comes a port cell))
        to_switch node port = then_left Leads w u (at_switch u node (λ a. switch.cell_comes a port cell)) p (switch_left Leads u node (turns.CellComes port cell) p.marked m)

        by : (at : Place) → place ≡ at → Left Leads w (arrives t u at cell)
        by (Down node) e = to_switch node control_port
        by (Up node) e = then_left Leads w u (at_controller u node (λ a. controller.cell_comes a cell)) p
            (controller_left Leads u node (λ a. controller.cell_comes a cell) (CellComes cell) (λ a. refl) tt p.marked
            (λ site found. up_whole node (subst (λ q. site_at (with_queue w q cells) node ≡ Some site) e found)) (λ site found. m))
          where
            up_whole : (node : NodeId) {site : Site} → site_at (with_queue w (Up node) cells) node ≡ Some site → IsWhole site.controller
            up_whole node {site} found = by_old (site_at w node) refl found
              where
                some_site : (x y : Site) → Some x ≡ Some y → x ≡ y
                some_site x y e = cc e

                by_old : (o : Option Site) → site_at w node ≡ o → site_at (with_queue_of w (Up node) cells o) node ≡ Some site → IsWhole site.controller
                by_old None none k = whole node site k
                by_old (Some old) there k =
                    let new : Site = with_queue_in old (Up node) cells in
                    let key : site_key new ≡ node.0 = at_key site_key node.0 w.sites old there in
                    let got : at site_key node.0 (put site_key new w.sites) ≡ Some new =
                    subst (λ n. at site_key n (put site_key new w.sites) ≡ Some new) key (at_put_same site_key new w.sites old (subst (λ n. at site_key n w.sites ≡ Some old) (sym key) there)) in
                    subst (λ (x : Site). IsWhole x.controller) (some_site new site (sym got ∙ k)) (whole node old there)
        by (Out node port) e = far (peer_of t node port)
          where
            far : (o : Option LinkEnd) → Left Leads w (arrives_at u cell o)
            far None = still Leads w u h p.own (ap (λ (g : GivenOut). g.instances) p.numbers) (ap (λ (g : GivenOut). g.controls) p.numbers) p.marked
            far (Some end) = to_switch end.node end.port

    lose_left : (place : Place) (queue : List Cell) → queue_at w place ≡ queue → Left Leads w (loses_head w place queue)
    lose_left place [] is = still Leads w w h (λ holder. refl) refl refl h
    lose_left place (cell ∷ cells) is = note_left w (with_queue w place cells) _ (queue_popped Leads w place cell cells is h) h

    -- a forged frame is sent under the next control mark
    forge_left : (place : Place) (channel : Channel) (payload : List ℕ) → Left Leads w (forges w place channel payload)
    forge_left place channel payload = by place
      where
        told : World
        told = note w (Forged place)

        h' : WorldMarked Leads told
        h' = record { sites = h.sites; free = h.free }

        given : World
        given = record told { numbers = with_control w.numbers }

        again : (v : World) → Left Leads told v → Left Leads w v
        again v l = record { marked = l.marked; draws = record { more = l.draws.more; each = l.draws.each; apart = l.draws.apart }; controls = l.controls; few = l.few }

        none : Left Leads w given
        none = record {
          marked = record { sites = sites_later Leads w.numbers (with_control w.numbers) w.sites (omega arith) (omega arith) h.sites; free = λ k less. h.free k (omega (arith, less)) };
          draws = (let d = (still Leads w w h (λ holder. refl) refl refl h).draws in record { more = d.more; each = d.each; apart = d.apart });
          controls = (omega arith, omega arith);
          few = omega arith;
        }

        at_port : (node : NodeId) (port : PortNo) → Left Leads w (at_switch given node (λ a. switch.forged a port channel (next_control w.numbers) payload))
        at_port node port = by_site (site_at w node) refl
          where
            by_site : (o : Option Site) → site_at w node ≡ o → Left Leads w (switch_acts given o (λ a. switch.forged a port channel (next_control w.numbers) payload))
            by_site None found = none
            by_site (Some x) found = again (turned Leads told x (switch.sends (record (turning Leads given x) { numbers = with_control w.numbers }) port channel (next_control w.numbers) payload))
                (switch_by Leads told node x (switch.sends (record (turning Leads given x) { numbers = with_control w.numbers }) port channel (next_control w.numbers) payload) h' found (sends_leave (turning Leads told x) port channel payload))

        by : (at : Place) → Left Leads w (forges_at given at channel (next_control w.numbers) payload)
        by (Down node) = by_site (site_at w node) refl
          where
            by_site : (o : Option Site) → site_at w node ≡ o → Left Leads w (controller_acts given o (λ a. sends a channel (next_control w.numbers) payload))
            by_site None found = none
            by_site (Some x) found =
                let a : Acted = acting Leads told x in
                let b : Acted = sends_control a channel payload in
                let s : SiteMarked Leads w.numbers x = at_every site_key (SiteMarked Leads w.numbers) node.0 w.sites x h.sites found in
                let l : IsLeft w.numbers.controls (Leads x.controller.node) b = control_leaves w.numbers.controls (Leads x.controller.node) a channel payload (is_left Leads told x s h.free) in
                again (record (with_site told (record x { controller = b.controller })) { notes = b.notes; numbers = b.numbers })
                (forged_by x found b (sent_same (λ c. c.node) a channel payload (λ cells. refl)) (sent_same (λ c. c.adjacency) a channel payload (λ cells. refl)) (sent_same (λ c. c.ports) a channel payload (λ cells. refl)) refl refl l s)
              where
                forged_by : (x : Site) → site_at w node ≡ Some x → (b : Acted) → b.controller.node ≡ x.controller.node → b.controller.adjacency ≡ x.controller.adjacency → b.controller.ports ≡ x.controller.ports
                    → b.numbers.instances ≡ w.numbers.instances → b.numbers.controls ≡ w.numbers.controls + 1 → IsLeft w.numbers.controls (Leads x.controller.node) b → SiteMarked Leads w.numbers x
                    → Left Leads told (record (with_site told (record x { controller = b.controller })) { notes = b.notes; numbers = b.numbers })
                forged_by x there b node_is side ports instances controls l s =
                    let new : Site = record x { controller = b.controller } in
                    let v : World = record (with_site told new) { notes = b.notes; numbers = b.numbers } in
                    record {
                      marked = record {
                        sites = put_every site_key (SiteMarked Leads b.numbers) new w.sites
                            (site_of Leads told x b x.controller.node refl node_is l (omega (arith, controls)) (omega (arith, instances)) refl
                            (omega (arith, s.most IsController x.controller.adjacency.own.instance.0 refl, ap (λ y. y.own.instance.0) side, instances))
                            (λ k m e. omega (arith, s.most (IsPort k) m (ap (λ ps. own_in ps k) (sym ports) ∙ e), instances)) s)
                            (sites_later Leads w.numbers b.numbers w.sites (omega (arith, controls)) (omega (arith, instances)) h.sites);
                        free = l.0.free;
                      };
                      draws = site_draws Leads told v x new h' refl (omega (arith, instances)) (subst (λ k. at site_key k w.sites ≡ Some x) (sym (ap (λ (n : NodeId). n.0) node_is ∙ at_key site_key node.0 w.sites x there)) there)
                          (record { each = λ kind. inl (same kind); apart = λ one other n e f less. absurd (omega (arith, s.most one n (sym (same one) ∙ e), less)) });
                      controls = (omega (arith, controls), omega (arith, controls));
                      few = omega (arith, instances);
                    }
                  where
                    same : (kind : Kind) → own_as (record x { controller = b.controller }) kind ≡ own_as x kind
                    same IsController = ap (λ y. Some y.own.instance.0) side
                    same IsSwitch = refl
                    same (IsPort k) = ap (λ ps. own_in ps k) ports
        by (Up node) = at_port node control_port
        by (Out node port) = at_port node port

    pub event_left : (event : Event) → CanChange event → Left Leads w (acts t w event)
    event_left (Inject node octets) can = inject_left node octets
    event_left (Carry place) can = carry_left place (queue_at w place) refl
    event_left (Lose place) can = lose_left place (queue_at w place) refl
    event_left (Tick node) can = acts_left node controller_ticks.ticks Ticks (λ a. refl) tt (λ site found. tt)
    event_left (TickSwitch node) can = switch_left Leads w node turns.Ticks h tt
    event_left (Restart node) can = acts_left node node_restarts Restarts (λ a. refl) tt (λ site found. tt)
    event_left (RestartSwitch node) can = switch_left Leads w node turns.Restarts h tt
    event_left (Forge place channel payload) can = forge_left place channel payload
    event_left (Route node change) can = acts_left node (λ a. change_comes a change) (ChangeComes change) (λ a. refl) tt
        (λ site found. (let own : site.controller.node.0 ≡ node.0 = at_key site_key node.0 w.sites site found in
        subst (λ k. May (Leads (record { 0 = k })) change.next) (sym own) (can node change refl)))
