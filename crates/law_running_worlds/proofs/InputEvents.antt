-- each event leaves nothing but what may be said

use Rattle.std.proofs.Common.{◌≡◌, ℕ, ◌+◌, ◌≤◌, Bool, true, false, List, [], ◌∷◌, ◌++◌, length, Option, None, Some, refl, sym, ◌∙◌, subst, arith, if◌then◌else◌}
use Rattle.std.specs.Prelude.{nat_lt, Contains}
use Rattle.std.specs.Option.{option_map_or}
use Rattle.std.proofs.lemmas.Bool.Decides.{nat_tests}
use Rattle.law_branch_shapes.specs.world_model.Words.{Channel, NodeId, PortNo, Place, Down, Up, Out, Cell, queue_of, Frame, Refusal, control_port, Setup, default_channel, same_channel, change_comes, inject_refusal, injected, node_restarts, RouteChange, Topology, World, Site, site_at, with_site, place_node, queue_in, queue_at, with_queue_in, with_queue_of, injects_by, arrives_at, carries_head, loses_head, gsmp_under}
use Rattle.law_branch_shapes.specs.world_model.crossbar_model.Crossbar.{input_of}
use Rattle.law_branch_shapes.specs.world_model.gsmp_wire.declared.message.Message.{Message}
use Rattle.law_branch_shapes.specs.world_model.Switch as switches
use Rattle.law_branch_shapes.specs.world_model.Conduct as conduct
use Rattle.law_branch_shapes.specs.world_model.Controller.{Acted, free_slots}
use Rattle.law_branch_shapes.specs.world_model.Cells.{cell_comes}
use Rattle.law_branch_shapes.specs.world_model.Ticks.{ticks}
use Rattle.law_frame_readings.specs.law_controller_facts.Inputs.{Input, CellComes, PacketEnters, Ticks, Restarts, ChangeComes, enters_unless, takes_input}
use Rattle.law_frame_readings.specs.law_controller_facts.Sound.{IsOwn}
use Rattle.law_frame_readings.proofs.law_controller_facts.Laws.{has_ports, input_goes, moves_sound}
use Rattle.law_frame_readings.proofs.law_controller_facts.Moves.{moves_to, popping}
use Rattle.law_input_events.proofs.law_controller.Whole.{Whole}
use Rattle.law_input_events.proofs.law_controller.Events.{input_holds}
use Rattle.law_branch_shapes.specs.world_model.network_model.declared.event.Event.{Event}
use Rattle.law_branch_shapes.specs.world_model.network_model.declared.event.Event.TheVariants.{Inject, Carry, Lose, Tick, TickSwitch, Restart, RestartSwitch, Forge, Route}
use Rattle.law_branch_shapes.specs.world_model.network_model.declared.link.LinkEnd.{LinkEnd}
use Rattle.law_branch_shapes.specs.world_model.Topology.{peer_of}
use Rattle.law_branch_shapes.specs.world_model.World.{at_controller, at_switch}
use Rattle.law_branch_shapes.specs.world_model.Step.{acts}
use Rattle.law_input_events.specs.law_input_steps.Hearing.{IsEnded, PassesTrue}
use Rattle.law_input_events.specs.Coming.{IsNext, IsToSwitch, IsFromSwitch, IsFar, CanCarry, CanLose, IsOrdinary, IsRunning}
use Rattle.law_frame_readings.proofs.law_controller_facts.Nodes.{moves_node}
use Rattle.law_input_events.proofs.Sites.{put_at}
use Rattle.law_input_events.proofs.Events.{set_length}
use Rattle.law_frame_readings.specs.law_world_views.Between.{EachSite, setups_of}
use Rattle.law_frame_readings.specs.law_world_views.Shown.{acting}
use Rattle.law_running_worlds.specs.Mode.{Mode}
use Rattle.law_running_worlds.proofs.Joining.{change_well}
use Rattle.law_running_worlds.specs.Calls.{in_mode}
use Rattle.law_running_worlds.proofs.Events.{routes_in, other_cell_in, gsmp_cell_go, ticks_go, restarts_in}
use Rattle.law_running_worlds.proofs.Switches.{tick_fine, gsmp_cell_fine, switched_fine, restarted_fine}
use Rattle.law_running_worlds.specs.Left.{OldAsks, OldTells, port_list, Left, IsLeft}
use Rattle.law_running_worlds.proofs.Left.{each_put, left_shorter}
use Rattle.law_running_worlds.proofs.Acts.{IsFirm, whole_of, Begins, AllLeft, Fine, Ends, FineSwitch, controller_acts_left, switch_acts_left}

-- *A queue is shorter*
firm_shorter : (place : Place) (site : Site) (cells : List Cell) → IsFirm site → IsFirm (with_queue_in site place cells)
firm_shorter (Down node) site cells f = record { links = f.links; sound = moves_sound (setups_of site.controller) a (record a { controller = record a.controller { queue = cells } }) (moves_to (popping a cells)) f.sound; order = f.order; matched = f.matched; rows = f.rows; by_links = f.by_links; queues = f.queues; tells = f.tells; same_ports = f.same_ports; away = f.away }
  where
    a : Acted
    a = record { controller = site.controller; notes = record { records = []; entries = []; frames = [] }; numbers = record { instances = 0; controls = 0 } }
firm_shorter (Up node) site cells f = record { links = f.links; sound = f.sound; order = f.order; matched = f.matched; rows = f.rows; by_links = f.by_links; queues = set_length site.switch.crossbar.queues 0 cells ∙ f.queues; tells = f.tells; same_ports = f.same_ports; away = f.away }
firm_shorter (Out node port) site cells f = record { links = f.links; sound = f.sound; order = f.order; matched = f.matched; rows = f.rows; by_links = f.by_links; queues = set_length site.switch.crossbar.queues port.0 cells ∙ f.queues; tells = f.tells; same_ports = f.same_ports; away = f.away }

kept_node : (place : Place) (site : Site) (cells : List Cell) → (with_queue_in site place cells).controller.node ≡ site.controller.node
kept_node (Down node) site cells = refl
kept_node (Up node) site cells = refl
kept_node (Out node port) site cells = refl

kept_setups : (place : Place) (site : Site) (cells : List Cell) → setups_of (with_queue_in site place cells).controller ≡ setups_of site.controller
kept_setups (Down node) site cells = refl
kept_setups (Up node) site cells = refl
kept_setups (Out node port) site cells = refl

one_above : (n : ℕ) → n ≡ 9 → 1 ≤ n
one_above n e = omega (arith, e)

no_number : (n : ℕ) → n + 1 ≡ 0 → ⊥
no_number n e = absurd (omega (arith, e))

not_gsmp : (port : PortNo) (channel : Channel) → 1 ≤ port.0 → conduct.is_gsmp port channel ≡ false
not_gsmp port channel above = grind (arith, nat_tests)

module _ (topology : Topology) (began : List Frame) (marks : ℕ) where
  abbrev Done : World → Type 0
  Done w = AllLeft began marks w

  abbrev AllFirm : World → Type 0
  AllFirm w = EachSite w (λ node site. IsFirm site)

  -- *A controller takes an input*
  module _ (w : World) (b : Begins began marks w) (firm : AllFirm w) (node : NodeId) where
    abbrev Does : Input → Type 0
    Does input = (site : Site) (found : site_at w node ≡ Some site) (k : IsFirm site) (m : Mode) → Fine began marks (setups_of site.controller) k.links m (acting w site)
        → Ends began marks (setups_of site.controller) k.links (takes_input (acting w site) input)

    input_left : (input : Input) → IsOwn input → Does input → Done (at_controller w node (λ a. takes_input a input))
    input_left input own does = controller_acts_left began marks w node (λ a. takes_input a input) b
        (λ site found. (let k : IsFirm site = firm node site found in let whole : Whole (setups_of site.controller) (acting w site) = whole_of site w.notes w.numbers k in (
          k,
          (
            moves_node (setups_of site.controller) site.controller.node (acting w site) (takes_input (acting w site) input) (input_goes (setups_of site.controller) (acting w site) input own k.sound) refl,
            ((input_holds (setups_of site.controller) k.links (acting w site) input whole).sound.ports.same, λ m fine. does site found k m fine),
          ),
        )))

    abbrev old_asks : Site → Cell → Type 0
    old_asks site = OldAsks (setups_of site.controller) began marks

    abbrev old_tells : Site → Cell → Type 0
    old_tells site = OldTells (port_list (setups_of site.controller)) began marks

    whole_at : (site : Site) → IsFirm site → Whole (setups_of site.controller) (acting w site)
    whole_at site k = whole_of site w.notes w.numbers k

    pub ticks_left : Done (at_controller w node ticks)
    ticks_left = input_left Ticks tt (λ site found k m fine. ticks_go (setups_of site.controller) k.links (old_asks site) (old_tells site) began marks m (acting w site) (whole_at site k) fine)

    pub restarts_left : Done (at_controller w node node_restarts)
    restarts_left = input_left Restarts tt (λ site found k m fine. in_mode m (restarts_in (setups_of site.controller) k.links (old_asks site) (old_tells site) began marks m (acting w site) fine))

    pub change_left : (change : RouteChange) → Done (at_controller w node (λ a. change_comes a change))
    change_left change = input_left (ChangeComes change) tt (λ site found k m fine. in_mode m
        (change_well (setups_of site.controller) k.links (old_asks site) (old_tells site) began marks m (acting w site) change (has_ports (setups_of site.controller) (acting w site) k.sound) fine))

    pub packet_left : (number : ℕ) (octets : List ℕ) → IsNext w.notes.frames (record { packet = number; frame = 0 }) → inject_refusal octets ≡ None → Done (at_controller w node (λ a. injected a number octets))
    packet_left number octets next accepted = subst (λ (o : Option Refusal). Done (at_controller w node (λ a. enters_unless a number octets o))) accepted
        (input_left (PacketEnters number octets) tt (λ site found k m fine. subst (λ (o : Option Refusal). Ends began marks (setups_of site.controller) k.links (enters_unless (acting w site) number octets o)) (sym accepted)
        (in_mode m (routes_in (setups_of site.controller) k.links (old_asks site) (old_tells site) began marks m (acting w site) (record { packet = number; frame = 0 }) octets k.by_links next fine))))

    pub cell_left : (cell : Cell) → same_channel cell.header.channel default_channel ≡ false → (cell.header.last ≡ true → IsNext w.notes.frames cell.mark) → Done (at_controller w node (λ a. cell_comes a cell))
    cell_left cell other next = input_left (CellComes cell) tt (λ site found k m fine. in_mode m
        (other_cell_in (setups_of site.controller) k.links (old_asks site) (old_tells site) began marks m (acting w site) cell other (whole_at site k) next k.by_links fine))

    pub gsmp_left : (cell : Cell) → same_channel cell.header.channel default_channel ≡ true
        → ((site : Site) → site_at w node ≡ Some site → old_tells site cell × (((message : Message) → gsmp_under w.notes.frames cell.mark ≡ Some message → IsFromSwitch site.controller message)
        × (IsEnded (nat_lt 0 (free_slots site.controller)) site.controller.reassembly cell → PassesTrue w.notes.frames (site.controller.reassembly.chain ++ cell ∷ []))))
        → Done (at_controller w node (λ a. cell_comes a cell))
    gsmp_left cell here of = input_left (CellComes cell) tt (λ site found k m fine.
        gsmp_cell_go (setups_of site.controller) k.links (old_asks site) (old_tells site) began marks m (acting w site) cell (whole_at site k) (of site found).0 (of site found).1.0 (of site found).1.1 fine here)

    -- *A switch acts*
    pub switch_ticks_left : Done (at_switch w node conduct.tick_comes)
    switch_ticks_left = switch_acts_left began marks w node conduct.tick_comes b
        (λ site found. (firm node site found, λ fine. tick_fine (setups_of site.controller) (old_tells site) (old_asks site) began marks (record { switch = site.switch; notes = w.notes; numbers = w.numbers }) fine))

    pub switch_restarts_left : Done (at_switch w node conduct.restarted)
    switch_restarts_left = switch_acts_left began marks w node conduct.restarted b
        (λ site found. (firm node site found, λ fine. restarted_fine (setups_of site.controller) (old_tells site) (old_asks site) began marks (record { switch = site.switch; notes = w.notes; numbers = w.numbers }) fine))

    pub switched_left : (port : PortNo) (cell : Cell) → conduct.is_gsmp port cell.header.channel ≡ false → Done (at_switch w node (λ a. conduct.cell_comes a port cell))
    switched_left port cell other = switch_acts_left began marks w node (λ a. conduct.cell_comes a port cell) b
        (λ site found. (
          firm node site found,
          λ fine. (let a : switches.ActedSwitch = record { switch = site.switch; notes = w.notes; numbers = w.numbers } in
              subst (λ (t : Bool). FineSwitch began marks (setups_of site.controller) (if t then conduct.gsmp_cell a cell else conduct.switched_cell a port cell)) (sym other)
              (switched_fine (setups_of site.controller) (old_tells site) (old_asks site) began marks a port cell ((firm node site found).away (input_of port cell)) fine)),
        ))

    pub request_left : (cell : Cell) → same_channel cell.header.channel default_channel ≡ true
        → ((site : Site) → site_at w node ≡ Some site → old_asks site cell × (((message : Message) → gsmp_under w.notes.frames cell.mark ≡ Some message → IsToSwitch (setups_of site.controller) message)
        × (IsEnded (nat_lt 0 (switches.free_slots site.switch)) site.switch.reassembly cell → PassesTrue w.notes.frames (site.switch.reassembly.chain ++ cell ∷ []))))
        → Done (at_switch w node (λ a. conduct.cell_comes a control_port cell))
    request_left cell here of = switch_acts_left began marks w node (λ a. conduct.cell_comes a control_port cell) b
        (λ site found. (
          firm node site found,
          λ fine. (let a : switches.ActedSwitch = record { switch = site.switch; notes = w.notes; numbers = w.numbers } in
              subst (λ (t : Bool). FineSwitch began marks (setups_of site.controller) (if t then conduct.gsmp_cell a cell else conduct.switched_cell a control_port cell)) (sym here)
              (gsmp_cell_fine (setups_of site.controller) (old_tells site) (old_asks site) began marks a cell (firm node site found).tells (of site found).0 (of site found).1.0 (of site found).1.1 fine)),
        ))

-- *In an event*
module _ (topology : Topology) (v : World) (running : IsRunning v) (firm : EachSite v (λ node site. IsFirm site)) (begins : Begins v.notes.frames v.numbers.controls v)
    (down_old : (node : NodeId) (site : Site) (cell : Cell) → site_at v node ≡ Some site → same_channel cell.header.channel default_channel ≡ true → Contains site.controller.queue cell → OldAsks (setups_of site.controller) v.notes.frames v.numbers.controls cell)
    (up_old : (node : NodeId) (site : Site) (cell : Cell) → site_at v node ≡ Some site → same_channel cell.header.channel default_channel ≡ true → Contains (queue_of site.switch.crossbar control_port) cell
    → OldTells (port_list (setups_of site.controller)) v.notes.frames v.numbers.controls cell) where
  abbrev Now : World → Type 0
  Now w = AllLeft v.notes.frames v.numbers.controls w

  record Short (place : Place) (cell : Cell) (cells : List Cell) : Type 0 where
    site : Site
    found : site_at v (place_node place) ≡ Some site
    is : queue_in site place ≡ cell ∷ cells
    there : site_at (with_site v (with_queue_in site place cells)) (place_node place) ≡ Some (with_queue_in site place cells)
    start : Begins v.notes.frames v.numbers.controls (with_site v (with_queue_in site place cells))
    solid : EachSite (with_site v (with_queue_in site place cells)) (λ node x. IsFirm x)

  shorter : (place : Place) (cell : Cell) (cells : List Cell) → CanLose place → queue_at v place ≡ cell ∷ cells → Short place cell cells
  shorter place cell cells may is = by (site_at v (place_node place)) refl is
    where
      by : (o : Option Site) → site_at v (place_node place) ≡ o → option_map_or (λ (site : Site). queue_in site place) o [] ≡ cell ∷ cells → Short place cell cells
      by None found e = absurd (cc e)
      by (Some site) found e =
          let after : Site = with_queue_in site place cells in
          let k : IsFirm site = firm (place_node place) site found in
          record {
            site = site;
            found = found;
            is = e;
            there = (put_at v (place_node place) site after found (kept_node place site cells)).0;
            start = record {
              frames = refl;
              controls = refl;
              left = each_put (IsLeft v.notes.frames v.numbers.controls v.notes.frames v.numbers.controls) v (place_node place) site after found (kept_node place site cells)
                  (subst (λ (s : List Setup). Left v.notes.frames v.numbers.controls v.notes.frames v.numbers.controls s after) (sym (kept_setups place site cells))
                  (left_shorter v.notes.frames v.numbers.controls v.notes.frames v.numbers.controls (setups_of site.controller) place site cell cells may e (one_above (length site.switch.crossbar.queues) k.queues) (begins.left (place_node place) site found)))
                  begins.left;
            };
            solid = each_put IsFirm v (place_node place) site after found (kept_node place site cells) (firm_shorter place site cells k) firm;
          }

  head : (cell : Cell) (cells queue : List Cell) → queue ≡ cell ∷ cells → Contains queue cell
  head cell cells queue is = subst (λ (q : List Cell). Contains q cell) (sym is) (0, omega arith, refl)

  same_some : (x y : Site) (o : Option Site) → o ≡ Some x → o ≡ Some y → x ≡ y
  same_some x y o e f = (let both : Some x ≡ Some y = sym e ∙ f in cc both)

  carried : (place : Place) (xs : List Cell) → queue_at v place ≡ xs → CanCarry topology v place → Now (carries_head topology v place xs)
  carried place [] is can = begins.left
  carried (Down node) (cell ∷ cells) is can =
      let q : Short (Down node) cell cells = shorter (Down node) cell cells tt is in
      subst (λ (o : Option Site). Now (at_switch (with_queue_of v (Down node) cells o) node (λ a. conduct.cell_comes a control_port cell))) (sym q.found) (by_channel q (same_channel cell.header.channel default_channel) refl)
    where
      by_channel : (q : Short (Down node) cell cells) (t : Bool) → same_channel cell.header.channel default_channel ≡ t
          → Now (at_switch (with_site v (with_queue_in q.site (Down node) cells)) node (λ a. conduct.cell_comes a control_port cell))
      by_channel q false other = switched_left topology v.notes.frames v.numbers.controls (with_site v (with_queue_in q.site (Down node) cells)) q.start q.solid node control_port cell other
      by_channel q true here = request_left topology v.notes.frames v.numbers.controls (with_site v (with_queue_in q.site (Down node) cells)) q.start q.solid node cell here
          (λ site found. subst (λ (x : Site). OldAsks (setups_of x.controller) v.notes.frames v.numbers.controls cell × (((message : Message) → gsmp_under v.notes.frames cell.mark ≡ Some message → IsToSwitch (setups_of x.controller) message)
          × (IsEnded (nat_lt 0 (switches.free_slots x.switch)) x.switch.reassembly cell → PassesTrue v.notes.frames (x.switch.reassembly.chain ++ cell ∷ []))))
          (same_some (with_queue_in q.site (Down node) cells) site (site_at (with_site v (with_queue_in q.site (Down node) cells)) node) q.there found) (
            down_old node q.site cell q.found here (head cell cells q.site.controller.queue q.is),
            (
              λ message under. running.said node q.site q.found cell message (head cell cells q.site.controller.queue q.is) here under,
              λ ended. can cell cells q.site is q.found here ended,
            ),
          ))
  carried (Up node) (cell ∷ cells) is can =
      let q : Short (Up node) cell cells = shorter (Up node) cell cells tt is in
      subst (λ (o : Option Site). Now (at_controller (with_queue_of v (Up node) cells o) node (λ a. cell_comes a cell))) (sym q.found) (by_channel q (same_channel cell.header.channel default_channel) refl)
    where
      by_channel : (q : Short (Up node) cell cells) (t : Bool) → same_channel cell.header.channel default_channel ≡ t → Now (at_controller (with_site v (with_queue_in q.site (Up node) cells)) node (λ a. cell_comes a cell))
      by_channel q false other = cell_left topology v.notes.frames v.numbers.controls (with_site v (with_queue_in q.site (Up node) cells)) q.start q.solid node cell other ((can cell cells q.site is q.found).0 other)
      by_channel q true here = gsmp_left topology v.notes.frames v.numbers.controls (with_site v (with_queue_in q.site (Up node) cells)) q.start q.solid node cell here
          (λ site found. subst (λ (x : Site). OldTells (port_list (setups_of x.controller)) v.notes.frames v.numbers.controls cell × (((message : Message) → gsmp_under v.notes.frames cell.mark ≡ Some message → IsFromSwitch x.controller message)
          × (IsEnded (nat_lt 0 (free_slots x.controller)) x.controller.reassembly cell → PassesTrue v.notes.frames (x.controller.reassembly.chain ++ cell ∷ []))))
          (same_some (with_queue_in q.site (Up node) cells) site (site_at (with_site v (with_queue_in q.site (Up node) cells)) node) q.there found) (
            up_old node q.site cell q.found here (head cell cells (queue_of q.site.switch.crossbar control_port) q.is),
            (
              λ message under. running.answered node q.site q.found cell message (head cell cells (queue_of q.site.switch.crossbar control_port) q.is) here under,
              λ ended. (can cell cells q.site is q.found).1 here ended,
            ),
          ))
  carried (Out node port) (cell ∷ cells) is can =
      let q : Short (Out node port) cell cells = shorter (Out node port) cell cells can.0 is in
      subst (λ (o : Option Site). Now (arrives_at (with_queue_of v (Out node port) cells o) cell (peer_of topology node port))) (sym q.found) (arrives q (peer_of topology node port) can.1)
    where
      arrives : (q : Short (Out node port) cell cells) (o : Option LinkEnd) → IsFar o → Now (arrives_at (with_site v (with_queue_in q.site (Out node port) cells)) cell o)
      arrives q None far = q.start.left
      arrives q (Some end) far = switched_left topology v.notes.frames v.numbers.controls (with_site v (with_queue_in q.site (Out node port) cells)) q.start q.solid end.node end.port cell (not_gsmp end.port cell.header.channel far)

  lost : (place : Place) (xs : List Cell) → queue_at v place ≡ xs → CanLose place → Now (loses_head v place xs)
  lost place [] is may = begins.left
  lost place (cell ∷ cells) is may =
      let q : Short place cell cells = shorter place cell cells may is in
      subst (λ (o : Option Site). Now (record (with_queue_of v place cells o) { notes = (loses_head v place (cell ∷ cells)).notes })) (sym q.found) (short_notes q)
    where
      short_notes : (q : Short place cell cells) → Now (record (with_site v (with_queue_in q.site place cells)) { notes = (loses_head v place (cell ∷ cells)).notes })
      short_notes q = subst (λ (o : Option Site). AllFramed o q) (sym q.found) q.start.left
        where
          AllFramed : Option Site → Short place cell cells → Type 0
          AllFramed o k = EachSite (with_site v (with_queue_in k.site place cells)) (λ node site. IsLeft v.notes.frames v.numbers.controls (with_queue_of v place cells o).notes.frames v.numbers.controls site)

  enters : (node : NodeId) (octets : List ℕ) (r : Option Refusal) → inject_refusal octets ≡ r → Now (injects_by (record v { sent = v.sent + 1 }) node octets r)
  enters node octets (Some name) is = begins.left
  enters node octets None is = packet_left topology v.notes.frames v.numbers.controls (record v { sent = v.sent + 1 }) (record { frames = refl; controls = refl; left = begins.left }) firm node (v.sent + 1) octets
      (λ other. ((λ e. no_number v.sent e), running.unsent (v.sent + 1) 1 (omega arith))) is

  pub event_left : (event : Event) → IsOrdinary topology v event → Now (acts topology v event)
  event_left (Inject node octets) ok = enters node octets (inject_refusal octets) refl
  event_left (Carry place) ok = carried place (queue_at v place) refl ok
  event_left (Lose place) ok = lost place (queue_at v place) refl ok
  event_left (Tick node) ok = ticks_left topology v.notes.frames v.numbers.controls v begins firm node
  event_left (TickSwitch node) ok = switch_ticks_left topology v.notes.frames v.numbers.controls v begins firm node
  event_left (Restart node) ok = restarts_left topology v.notes.frames v.numbers.controls v begins firm node
  event_left (RestartSwitch node) ok = switch_restarts_left topology v.notes.frames v.numbers.controls v begins firm node
  event_left (Forge place channel payload) ok = absurd ok
  event_left (Route node change) ok = change_left topology v.notes.frames v.numbers.controls v begins firm node change
