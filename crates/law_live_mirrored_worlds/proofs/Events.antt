-- a mirrored node behind all else, and behind what its controller asks

use Rattle.std.proofs.Common.{◌≡◌, ◌≢◌, ℕ, ◌+◌, Bool, true≢false, List, [], ◌∷◌, ◌++◌, append_assoc, append-nil, Option, None, Some, refl, sym, ◌∙◌, ap, subst, arith, if◌then◌else◌}
use Rattle.std.specs.Prelude.{drop}
use Rattle.world_model.specs.Words.{NodeId, PortNo, Down, Up, Out, Cell, Refusal, inject_refusal, injected, injects_by, Request, control_port, tick_comes, Topology, World, Site, site_at, queue_at, with_queue, with_queue_in, with_queue_of, carries_head, arrives_at, put_away, next, IsTopology}
use Rattle.world_model.specs.switch_model.declared.request.Asked.{Asked}
use Rattle.world_model.specs.Switch as switches
use Rattle.world_model.specs.Conduct as switch
use Rattle.world_model.specs.Controller as controllers
use Rattle.world_model.specs.Cells as controller
use Rattle.world_model.specs.Ticks.{ticks}
use Rattle.world_model.specs.World.{at_switch}
use Rattle.world_model.specs.Topology.{peer_of}
use Rattle.world_model.specs.network_model.declared.event.Event.{Event}
use Rattle.world_model.specs.network_model.declared.event.Event.TheVariants.{Inject, Carry, Lose, Tick, TickSwitch, Restart, RestartSwitch, Forge, Route}
use Rattle.world_model.specs.network_model.declared.link.LinkEnd.{LinkEnd}
use Rattle.world_model.proofs.Lists.{by_eq}
use Rattle.law_passing.specs.telling_model.Passing.{cells_put_at, left}
use Rattle.law_passing.proofs.Controllers.{cell_adds, injected_adds, ticks_adds}
use Rattle.law_passing.proofs.Worlds.{change_by_passing}
use Rattle.law_running_worlds.proofs.law_causes.Shown.{IsPeer, peer_back}
use Rattle.law_live_frames.proofs.Coming.{site_left}
use Rattle.law_live_hearing.proofs.Sites.{up_now, up_site, queue_of_site}
use Rattle.law_live_control_links.proofs.Sites.{popped_elsewhere, controller_elsewhere, switch_elsewhere, controller_here, switch_here}
use Rattle.law_live_control_links.proofs.Sites as nodes
use Rattle.law_live_orders.proofs.Hops.{link_not_gsmp, numbers_apart}
use Rattle.law_live_mirrors.specs.Mirrors.{Mirrors}
use Rattle.law_live_mirrors.specs.Law.{LeadsSame}
use Rattle.law_live_mirrors.proofs.Switches.{switches_lead_same}
use Rattle.law_live_mirrored_worlds.specs.Way.{IsMirroredBy}
use Rattle.law_live_mirrored_worlds.specs.Law.{FramesStay, IsBeside, AllElseMirrors, StepsKeep, AsksIn, ActsAt, ControllersMirror}
use Rattle.law_live_mirrored_worlds.proofs.Switches.{parts_lead, lead_then, cell_leads}
use Rattle.law_live_mirrored_worlds.proofs.Sites.{stays_mirrored, asks_mirrored, unchanged}

pub same_node : (node here : NodeId) → here.0 ≡ node.0 → node ≡ here
same_node node here same = λ i. record { 0 = sym same i }

module _ (topology : Topology) (w : World) (node : NodeId) where
  -- *Others are carried to*
  down_away : (here : NodeId) → here.0 ≢ node.0 → (q : List Cell) → queue_at w (Down here) ≡ q → site_at (next topology w (Carry (Down here))) node ≡ site_at w node
  down_away here apart [] is = ap (λ (q : List Cell). site_at (carries_head topology (put_away w) (Down here) q) node) is
  down_away here apart (cell ∷ cells) is = ap (λ (q : List Cell). site_at (carries_head topology (put_away w) (Down here) q) node) is
      ∙ (switch_elsewhere (with_queue (put_away w) (Down here) cells) node here (λ b. switch.cell_comes b control_port cell) apart
      ∙ popped_elsewhere (put_away w) node (Down here) cells apart)

  up_away : (here : NodeId) → here.0 ≢ node.0 → (q : List Cell) → queue_at w (Up here) ≡ q → site_at (next topology w (Carry (Up here))) node ≡ site_at w node
  up_away here apart [] is = ap (λ (q : List Cell). site_at (carries_head topology (put_away w) (Up here) q) node) is
  up_away here apart (cell ∷ cells) is = ap (λ (q : List Cell). site_at (carries_head topology (put_away w) (Up here) q) node) is
      ∙ (controller_elsewhere (with_queue (put_away w) (Up here) cells) node here (λ b. controller.cell_comes b cell) (λ b. (cell_adds b cell).node) apart
      ∙ popped_elsewhere (put_away w) node (Up here) cells apart)

  -- *A packet enters* elsewhere
  abbrev enters : (octets : List ℕ) → controllers.Acted → controllers.Acted
  enters octets a = injected a (w.sent + 1) octets

  in_away : (here : NodeId) (octets : List ℕ) → here.0 ≢ node.0 → site_at (next topology w (Inject here octets)) node ≡ site_at w node
  in_away here octets apart = by_refusal (inject_refusal octets)
    where
      by_refusal : (o : Option Refusal) → site_at (injects_by (record (put_away w) { sent = w.sent + 1 }) here octets o) node ≡ site_at w node
      by_refusal (Some name) = refl
      by_refusal None = controller_elsewhere (record (put_away w) { sent = w.sent + 1 }) node here (enters octets) (λ b. (injected_adds b (w.sent + 1) octets).node) apart

  module _ (way : List Asked) (by : IsMirroredBy w node way) where
    abbrev site : Site
    site = by.site

    -- *Over a link* a cell is taken from a port's queue
    record IsPopped (u : World) : Type 0 where
      now : Site
      found : site_at u node ≡ Some now
      controller : now.controller ≡ site.controller
      leads : LeadsSame site.switch now.switch

    popped : (here : NodeId) (port : PortNo) (cells : List Cell) → IsPopped (with_queue (put_away w) (Out here port) cells)
    popped here port cells = by_eq here.0 node.0
        (λ same t. record {
          now = with_queue_in site (Out node port) cells;
          found = ap (λ (h : NodeId). site_at (with_queue (put_away w) (Out h port) cells) node) (sym (same_node node here same))
              ∙ (ap (λ (o : Option Site). site_at (with_queue_of (put_away w) (Out node port) cells o) node) by.found ∙ site_left (put_away w) (Out node port) node site cells by.found refl);
          controller = refl;
          leads = parts_lead site.switch (with_queue_in site (Out node port) cells).switch refl refl refl;
        })
        (λ apart t. record {
          now = site;
          found = popped_elsewhere (put_away w) node (Out here port) cells apart ∙ by.found;
          controller = refl;
          leads = parts_lead site.switch site.switch refl refl refl;
        })

    -- and comes to the port at the other end
    module _ (topology_is : IsTopology topology) (here : NodeId) (port : PortNo) (stays : FramesStay topology w (Carry (Out here port))) (cell : Cell) (cells : List Cell) (queue : queue_at w (Out here port) ≡ cell ∷ cells) where
      abbrev u : World
      u = with_queue (put_away w) (Out here port) cells

      abbrev v : World
      v = next topology w (Carry (Out here port))

      p : IsPopped u
      p = popped here port cells

      arrived : (o : Option LinkEnd) → peer_of topology here port ≡ o → site_at v node ≡ site_at (arrives_at u cell o) node
      arrived o led = ap (λ (q : List Cell). site_at (carries_head topology (put_away w) (Out here port) q) node) queue ∙ ap (λ (e : Option LinkEnd). site_at (arrives_at u cell e) node) led

      passes : site_at v node ≡ site_at u node → IsMirroredBy v node way
      passes same = stays_mirrored w v node site p.now stays (same ∙ p.found) p.leads way p.controller by.mirrored

      comes : (end : LinkEnd) → peer_of topology here port ≡ Some end → IsMirroredBy v node way
      comes end led = by_eq end.node.0 node.0
          (λ same t. (let act : switches.ActedSwitch → switches.ActedSwitch = λ b. switch.cell_comes b end.port cell in
          let a : switches.ActedSwitch = nodes.switching u p.now in
          let peer : IsPeer topology (record { node = here; port = port }) end = peer_back topology topology_is (record { node = here; port = port }) end led in
          let found : site_at v node ≡ Some (record p.now { switch = (act a).switch }) = arrived (Some end) led
          ∙ (ap (λ (h : NodeId). site_at (at_switch u h act) node) (sym (same_node node end.node same)) ∙ switch_here u node p.now p.found act) in
          stays_mirrored w v node site (record p.now { switch = (act a).switch }) stays found
          (lead_then site.switch p.now.switch (act a).switch p.leads
          (cell_leads a end.port cell (λ gsmp. absurd (true≢false (sym gsmp ∙ link_not_gsmp end.port peer.port.0 cell.header.channel)))))
          way p.controller by.mirrored))
          (λ apart t. passes (arrived (Some end) led ∙ switch_elsewhere u node end.node (λ b. switch.cell_comes b end.port cell) apart))

      by_end : (o : Option LinkEnd) → peer_of topology here port ≡ o → IsMirroredBy v node way
      by_end None led = passes (arrived None led)
      by_end (Some end) led = comes end led

    out_on : IsTopology topology → (here : NodeId) (port : PortNo) → FramesStay topology w (Carry (Out here port)) → (q : List Cell) → queue_at w (Out here port) ≡ q
        → IsMirroredBy (next topology w (Carry (Out here port))) node way
    out_on topology_is here port stays [] is = unchanged w (next topology w (Carry (Out here port))) node way stays
        (ap (λ (q : List Cell). site_at (carries_head topology (put_away w) (Out here port) q) node) is) by
    out_on topology_is here port stays (cell ∷ cells) is = by_end topology_is here port stays cell cells is (peer_of topology here port) refl

    -- *A switch ticks*
    own_switch : FramesStay topology w (TickSwitch node) → IsMirroredBy (next topology w (TickSwitch node)) node way
    own_switch stays =
        let a : switches.ActedSwitch = nodes.switching (put_away w) site in
        stays_mirrored w (next topology w (TickSwitch node)) node site (record site { switch = (tick_comes a).switch }) stays (switch_here (put_away w) node site by.found tick_comes)
        (switches_lead_same.ticks a) way refl by.mirrored

    switch_ticks : (here : NodeId) → FramesStay topology w (TickSwitch here) → IsMirroredBy (next topology w (TickSwitch here)) node way
    switch_ticks here = by_eq here.0 node.0
        (λ same t. subst (λ (h : NodeId). FramesStay topology w (TickSwitch h) → IsMirroredBy (next topology w (TickSwitch h)) node way) (same_node node here same) own_switch)
        (λ apart t stays. unchanged w (next topology w (TickSwitch here)) node way stays (switch_elsewhere (put_away w) node here tick_comes apart) by)

    pub goes_beside : IsTopology topology → (event : Event) → IsBeside node event → FramesStay topology w event → IsMirroredBy (next topology w event) node way
    goes_beside topology_is (Inject here octets) beside stays = unchanged w (next topology w (Inject here octets)) node way stays (in_away here octets beside) by
    goes_beside topology_is (Carry (Down here)) beside stays = unchanged w (next topology w (Carry (Down here))) node way stays (down_away here beside (queue_at w (Down here)) refl) by
    goes_beside topology_is (Carry (Up here)) beside stays = unchanged w (next topology w (Carry (Up here))) node way stays (up_away here beside (queue_at w (Up here)) refl) by
    goes_beside topology_is (Carry (Out here port)) beside stays = out_on topology_is here port stays (queue_at w (Out here port)) refl
    goes_beside topology_is (Lose place) beside stays = absurd beside
    goes_beside topology_is (Tick here) beside stays =
        unchanged w (next topology w (Tick here)) node way stays (controller_elsewhere (put_away w) node here ticks (λ b. (ticks_adds b).node) beside) by
    goes_beside topology_is (TickSwitch here) beside stays = switch_ticks here stays
    goes_beside topology_is (Restart here) beside stays = absurd beside
    goes_beside topology_is (RestartSwitch here) beside stays = absurd beside
    goes_beside topology_is (Forge place channel payload) beside stays = absurd beside
    goes_beside topology_is (Route here change) beside stays = absurd beside

    -- *Its controller acts*
    module _ (event : Event) (asked : List Asked) (stays : FramesStay topology w event) (asks : AsksIn topology w node event asked) (keeps_queue : left w event (Down node) ≡ queue_at w (Down node)) where
      acted : (now : Site) → site_at (next topology w event) node ≡ Some now → LeadsSame site.switch now.switch → IsMirroredBy (next topology w event) node (way ++ asked)
      acted now found leads = asks_mirrored w (next topology w event) node site now stays found leads way asked (cells_put_at topology w event (Down node))
          (sym (queue_of_site (next topology w event) node now (Down node) found) ∙ (change_by_passing topology w event (Down node)
          ∙ ap (λ (q : List Cell). q ++ cells_put_at topology w event (Down node)) (keeps_queue ∙ queue_of_site w node site (Down node) by.found)))
          asks.puts (asks.fit site by.found) (asks.keeps site now by.found found) by.mirrored

    pub tick_asks : (asked : List Asked) → FramesStay topology w (Tick node) → AsksIn topology w node (Tick node) asked → IsMirroredBy (next topology w (Tick node)) node (way ++ asked)
    tick_asks asked stays asks = acted (Tick node) asked stays asks refl (record site { controller = (ticks (nodes.acting (put_away w) site)).controller })
        (controller_here (put_away w) node site by.found ticks (λ b. (ticks_adds b).node)) (parts_lead site.switch site.switch refl refl refl)

    pub carry_asks : (asked : List Asked) → FramesStay topology w (Carry (Up node)) → AsksIn topology w node (Carry (Up node)) asked
        → IsMirroredBy (next topology w (Carry (Up node))) node (way ++ asked)
    carry_asks asked stays asks = by_queue (queue_at w (Up node)) refl
      where
        other_queue : left w (Carry (Up node)) (Down node) ≡ queue_at w (Down node)
        other_queue = ap (λ (b : Bool). if b then drop 1 (queue_at w (Down node)) else queue_at w (Down node)) (numbers_apart (Up node) (Down node) (λ e. absurd (omega (arith, e))))

        by_queue : (q : List Cell) → queue_at w (Up node) ≡ q → IsMirroredBy (next topology w (Carry (Up node))) node (way ++ asked)
        by_queue [] is = acted (Carry (Up node)) asked stays asks other_queue site
            (ap (λ (q : List Cell). site_at (carries_head topology (put_away w) (Up node) q) node) is ∙ by.found) (parts_lead site.switch site.switch refl refl refl)
        by_queue (cell ∷ cells) is = acted (Carry (Up node)) asked stays asks other_queue (up_now topology w node site by.found cell cells) (up_site topology w node site by.found cell cells is)
            (parts_lead site.switch (with_queue_in site (Up node) cells).switch refl refl refl)

    pub packet_asks : (octets : List ℕ) (asked : List Asked) → FramesStay topology w (Inject node octets) → AsksIn topology w node (Inject node octets) asked
        → IsMirroredBy (next topology w (Inject node octets)) node (way ++ asked)
    packet_asks octets asked stays asks = by_refusal (inject_refusal octets) refl
      where
        there : (o : Option Refusal) → inject_refusal octets ≡ o → site_at (next topology w (Inject node octets)) node ≡ site_at (injects_by (record (put_away w) { sent = w.sent + 1 }) node octets o) node
        there o is = ap (λ (r : Option Refusal). site_at (injects_by (record (put_away w) { sent = w.sent + 1 }) node octets r) node) is

        by_refusal : (o : Option Refusal) → inject_refusal octets ≡ o → IsMirroredBy (next topology w (Inject node octets)) node (way ++ asked)
        by_refusal (Some name) is = acted (Inject node octets) asked stays asks refl site (there (Some name) is ∙ by.found) (parts_lead site.switch site.switch refl refl refl)
        by_refusal None is = acted (Inject node octets) asked stays asks refl (record site { controller = (enters octets (nodes.acting (record (put_away w) { sent = w.sent + 1 }) site)).controller })
            (there None is ∙ controller_here (record (put_away w) { sent = w.sent + 1 }) node site by.found (enters octets) (λ b. (injected_adds b (w.sent + 1) octets).node))
            (parts_lead site.switch site.switch refl refl refl)

pub all_else_mirrors : AllElseMirrors
all_else_mirrors topology w node event way topology_is beside stays by = goes_beside topology w node way by topology_is event beside stays

module _ (topology : Topology) (w : World) (node : NodeId) (way asked : List Asked) (by : IsMirroredBy w node way) where
  abbrev Asking : Event → Type 0
  Asking event = FramesStay topology w event → AsksIn topology w node event asked → IsMirroredBy (next topology w event) node (way ++ asked)

  acts_on : (event : Event) → ActsAt node event → Asking event
  acts_on (Inject here octets) own = subst (λ (h : NodeId). Asking (Inject h octets)) (sym own) (packet_asks topology w node way by octets asked)
  acts_on (Carry (Down here)) own = absurd own
  acts_on (Carry (Up here)) own = subst (λ (h : NodeId). Asking (Carry (Up h))) (sym own) (carry_asks topology w node way by asked)
  acts_on (Carry (Out here port)) own = absurd own
  acts_on (Lose place) own = absurd own
  acts_on (Tick here) own = subst (λ (h : NodeId). Asking (Tick h)) (sym own) (tick_asks topology w node way by asked)
  acts_on (TickSwitch here) own = absurd own
  acts_on (Restart here) own = absurd own
  acts_on (RestartSwitch here) own = absurd own
  acts_on (Forge place channel payload) own = absurd own
  acts_on (Route here change) own = absurd own

pub controllers_mirror : ControllersMirror
controllers_mirror topology w node event way asked own stays asks by = acts_on topology w node way asked by event own stays asks

-- *What a controller does* keeps its inputs mirrored
pub steps_keep : StepsKeep
steps_keep = record {
  asks = λ a after requests asks branches way input h. asks.mirrors branches way input h;
  hears = λ a after s hears branches way input h. subst (λ (on_way : List Request). Mirrors after.controller.ports after.controller.desk branches on_way input) (sym (append-nil way)) (hears.mirrors branches way input h);
  both = λ a b c first later p q branches way input h. subst (λ (on_way : List Request). Mirrors c.ports c.desk branches on_way input) (append_assoc way first later)
      (q branches (way ++ first) input (p branches way input h));
}
