-- a carry leaves the ports of each switch, and the desk of each controller that it doesn't reach

use Rattle.std.proofs.Common.{◌≡◌, ◌≢◌, ℕ, Bool, true, false, true≢false, List, [], ◌∷◌, Option, None, Some, Result, Ok, refl, sym, ◌∙◌, ap, subst}
use Rattle.std.specs.Prelude.{◌&&◌, drop}
use Rattle.std.specs.Option.{option_map}
use Rattle.world_model.specs.Words.{NodeId, PortNo, Place, Down, Up, Out, Mark, Cell, payload_of, default_channel, gsmp_channel, control_port, same_channel, asked_in, frame_read, Switch, Topology, IsTopology, World, Site, site_at, queue_at, with_queue, with_queue_in, switch_acts, carries_head, arrives_at, put_away, next, CountsAsItsFrame}
use Rattle.world_model.specs.gsmp_wire.declared.fault.Fault.{Fault}
use Rattle.world_model.specs.gsmp_wire.declared.message.Message.{Message}
use Rattle.world_model.specs.gsmp_wire.Fields.{decoded}
use Rattle.world_model.specs.switch_model.declared.port.PortState.{PortState}
use Rattle.world_model.specs.switch_model.declared.request.Asked.{Asked}
use Rattle.world_model.specs.Switch.{ActedSwitch}
use Rattle.world_model.specs.Conduct.{cell_comes}
use Rattle.world_model.specs.Cells as controller
use Rattle.world_model.specs.Topology.{peer_of}
use Rattle.world_model.specs.World.{at_switch}
use Rattle.world_model.specs.network_model.declared.link.LinkEnd.{LinkEnd}
use Rattle.world_model.specs.network_model.declared.event.Event.TheVariants.{Carry}
use Rattle.world_model.proofs.Lists.{by_eq}
use Rattle.law_live_journeys.specs.law_running_worlds.ordered_lists.Ordered.{Every}
use Rattle.law_live_journeys.specs.law_running_worlds.law_input_steps.Asking.{IsAsked}
use Rattle.law_live_journeys.proofs.law_running_worlds.law_causes.Shown.{peer_back}
use Rattle.law_live_journeys.proofs.law_passing.Controllers.{cell_adds}
use Rattle.law_live_journeys.specs.law_live_hearing.Law.{acting_switch, SwitchHears}
use Rattle.law_live_journeys.proofs.law_live_hearing.Sites.{switching, down_now, down_site, queue_of_site}
use Rattle.law_live_journeys.proofs.law_live_hearing.Hearing.{switch_hears}
use Rattle.law_live_journeys.proofs.law_live_control_links.Sites.{popped_elsewhere, switch_elsewhere, switch_here}
use Rattle.law_live_journeys.proofs.law_live_control_links.Sites as nodes
use Rattle.law_live_journeys.specs.law_live_orders.Law.{is_last_on, last_marks}
use Rattle.law_live_journeys.specs.law_live_orders.Slots.{IsUnlost}
use Rattle.law_live_journeys.proofs.law_live_orders.Hops.{link_not_gsmp}
use Rattle.law_live_journeys.proofs.law_live_orders.Marks.{channel_is, marks_here}
use Rattle.law_live_journeys.proofs.law_live_orders.Switches.{first, second}
use Rattle.law_live_journeys.proofs.law_live_calm_nodes.Parts.{part_at, controller_part, popped_part}
use Rattle.law_live_journeys.specs.law_live_mirrors.Fit.{IsFit}
use Rattle.law_live_journeys.specs.law_live_mirrored_worlds.Way.{AreAsked, asking, passed, IsMirroredIn}
use Rattle.law_live_journeys.proofs.law_live_mirrored_worlds.Events.{same_node}
use Rattle.law_live_journeys.proofs.law_live_mirrored_worlds.Sites.{one_site}
use Rattle.law_live_ease.proofs.NodesSwitches.{HasSamePorts, ports_then, AsksSo, read_same, cell_same}

-- *The ports of a switch*, and how many paths it connects
abbrev pub Ports : Type 0
Ports = List PortState × ℕ

abbrev pub ports_of : Site → Ports
ports_of site = (site.switch.ports, site.switch.vpis)

abbrev pub ports_at : World → NodeId → Option Ports
ports_at w node = part_at ports_of w node

both_same : (x y : Switch) → HasSamePorts x y → ◌≡◌ {A = Ports} (y.ports, y.vpis) (x.ports, x.vpis)
both_same x y same = λ i. (same.ports i, same.vpis i)

keeps_queue : (place : Place) (site : Site) (cells : List Cell) → ports_of (with_queue_in site place cells) ≡ ports_of site
keeps_queue (Down here) site cells = refl
keeps_queue (Up here) site cells = refl
keeps_queue (Out here port) site cells = refl

-- *A switch acts*, and keeps them where it is this one
acts_same : (w : World) (node here : NodeId) (act : ActedSwitch → ActedSwitch) → ((site : Site) → site_at w node ≡ Some site → here.0 ≡ node.0 → HasSamePorts site.switch (act (nodes.switching w site)).switch)
    → ports_at (at_switch w here act) node ≡ ports_at w node
acts_same w node here act same = by_eq here.0 node.0 (λ own t. own_acts own (site_at w node) refl) (λ apart t. ap (option_map ports_of) (switch_elsewhere w node here act apart))
  where
    own_acts : here.0 ≡ node.0 → (o : Option Site) → site_at w node ≡ o → ports_at (at_switch w here act) node ≡ ports_at w node
    own_acts own None found = subst (λ (h : NodeId). ports_at (at_switch w h act) node ≡ ports_at w node) (same_node node here own) (ap (λ (o : Option Site). ports_at (switch_acts w o act) node) found)
    own_acts own (Some site) found = subst (λ (h : NodeId). ports_at (at_switch w h act) node ≡ ports_at w node) (same_node node here own)
        (ap (option_map ports_of) (switch_here w node site found act)
        ∙ (ap (λ (ports : Ports). Some ports) (both_same site.switch (act (nodes.switching w site)).switch (same site found own)) ∙ sym (ap (option_map ports_of) found)))

one_message : (m n : Message) → ◌≡◌ {A = Result Message Fault} (Ok m) (Ok n) → m ≡ n
one_message m n e = cc

one_asked : (x y : Asked) → Some x ≡ Some y → x ≡ y
one_asked x y e = cc

not_last : (x y : Bool) → (x && y) ≡ false → y ≡ true → x ≡ false
not_last true y e on = absurd (true≢false (sym on ∙ e))
not_last false y e on = refl

module _ (topology : Topology) (w : World) (node : NodeId) where
  -- *Over a link*
  out_same : IsTopology topology → (here : NodeId) (port : PortNo) → ports_at (next topology w (Carry (Out here port))) node ≡ ports_at w node
  out_same is here port = by (queue_at w (Out here port))
    where
      arrived : (cell : Cell) (cells : List Cell) (o : Option LinkEnd) → peer_of topology here port ≡ o → ports_at (arrives_at (with_queue (put_away w) (Out here port) cells) cell o) node ≡ ports_at w node
      arrived cell cells None led = popped_part ports_of keeps_queue (put_away w) node (Out here port) cells
      arrived cell cells (Some end) led =
          let u : World = with_queue (put_away w) (Out here port) cells in
          acts_same u node end.node (λ b. cell_comes b end.port cell) (λ site found own. cell_same (nodes.switching u site) end.port cell
          (λ gsmp. absurd (true≢false (sym gsmp ∙ link_not_gsmp end.port (peer_back topology is (record { node = here; port = port }) end led).port.0 cell.header.channel))))
          ∙ popped_part ports_of keeps_queue (put_away w) node (Out here port) cells

      by : (q : List Cell) → ports_at (carries_head topology (put_away w) (Out here port) q) node ≡ ports_at w node
      by [] = refl
      by (cell ∷ cells) = arrived cell cells (peer_of topology here port) refl

  -- *To a controller*
  up_same : (here : NodeId) → ports_at (next topology w (Carry (Up here))) node ≡ ports_at w node
  up_same here = by (queue_at w (Up here))
    where
      by : (q : List Cell) → ports_at (carries_head topology (put_away w) (Up here) q) node ≡ ports_at w node
      by [] = refl
      by (cell ∷ cells) = controller_part ports_of (λ site c. refl) (with_queue (put_away w) (Up here) cells) node here (λ b. controller.cell_comes b cell) (λ b. (cell_adds b cell).node)
          ∙ popped_part ports_of keeps_queue (put_away w) node (Up here) cells

  -- *To another switch*
  down_away : (here : NodeId) → here.0 ≢ node.0 → ports_at (next topology w (Carry (Down here))) node ≡ ports_at w node
  down_away here apart = by (queue_at w (Down here))
    where
      by : (q : List Cell) → ports_at (carries_head topology (put_away w) (Down here) q) node ≡ ports_at w node
      by [] = refl
      by (cell ∷ cells) = ap (option_map ports_of) (switch_elsewhere (with_queue (put_away w) (Down here) cells) node here (λ b. cell_comes b control_port cell) apart
          ∙ popped_elsewhere (put_away w) node (Down here) cells apart)

  -- *To its own*: what it reads is what its controller asks
  record ReadsSo (mark : Mark) : Type 0 where
    payload : List ℕ
    made : payload_of w.notes.frames mark ≡ Some payload
    asks : (message : Message) → decoded payload ≡ Ok message → AsksSo message

  first_reads : (s : Switch) (mark : Mark) (marks : List Mark) (way : List Asked) → AreAsked w.notes.frames (mark ∷ marks) way → Every (IsFit s) way → ReadsSo mark
  first_reads s mark marks (asked ∷ left) (asking own one is later) fit = record {
    payload = is.payload;
    made = is.made;
    asks = λ message read other request asks. subst (λ (x : Asked). IsAsked x.request)
        (one_asked one other (sym is.asks ∙ (ap asked_in (one_message is.message message (sym is.read ∙ read)) ∙ asks))) fit.0.is_asked;
  }
  first_reads s mark marks way (passed own is later) fit = record {
    payload = is.payload;
    made = is.made;
    asks = λ message read other request asks. absurd (true≢false (sym request ∙ is.no_request message read));
  }

  module _ (mirrored : IsMirroredIn w node) (counts : CountsAsItsFrame w (Carry (Down node))) (unlost : IsUnlost topology w (Down node)) where
    abbrev v : World
    v = next topology w (Carry (Down node))

    abbrev site : Site
    site = mirrored.by.site

    now_same : (now : Site) → site_at v node ≡ Some now → HasSamePorts site.switch now.switch → ports_at v node ≡ ports_at w node
    now_same now found same = ap (option_map ports_of) found ∙ (ap (λ (ports : Ports). Some ports) (both_same site.switch now.switch same) ∙ sym (ap (option_map ports_of) mirrored.by.found))

    module _ (cell : Cell) (cells : List Cell) (queue : queue_at w (Down node) ≡ cell ∷ cells) where
      early : is_last_on default_channel cell ≡ false → ports_at v node ≡ ports_at w node
      early apart = now_same (down_now topology w node site mirrored.by.found cell cells) (down_site topology w node site mirrored.by.found cell cells queue)
          (cell_same (switching w site) control_port cell (not_last cell.header.last (same_channel cell.header.channel default_channel) apart))

      module _ (ends : is_last_on default_channel cell ≡ true) where
        reads : ReadsSo cell.mark
        reads = first_reads site.switch cell.mark (last_marks default_channel cells) mirrored.way (subst (λ (marks : List Mark). AreAsked w.notes.frames marks mirrored.way)
            (ap (last_marks default_channel) (sym (queue_of_site w node site (Down node) mirrored.by.found) ∙ queue) ∙ marks_here default_channel cell cells ends) mirrored.by.mirrored.waits)
            mirrored.by.mirrored.fit

        abbrev heard : Switch
        heard = (frame_read (acting_switch w site) (decoded reads.payload)).switch

        heard_now : SwitchHears topology w node cell.mark reads.payload → site_at v node ≡ Some (record (with_queue_in site (Down node) (drop 1 (queue_at w (Down node)))) { switch = heard })
        heard_now s = s.acts
            ∙ ap (λ (x : Site). Some (record (with_queue_in x (Down node) (drop 1 (queue_at w (Down node)))) { switch = (frame_read (acting_switch w x) (decoded reads.payload)).switch }))
            (one_site s.site site (sym s.found ∙ mirrored.by.found))

        ended : ports_at v node ≡ ports_at w node
        ended = now_same (record (with_queue_in site (Down node) (drop 1 (queue_at w (Down node)))) { switch = heard })
            (heard_now (switch_hears topology w node site mirrored.by.found cell cells queue (first cell.header.last (same_channel cell.header.channel default_channel) ends)
            (channel_is cell.header.channel gsmp_channel (second cell.header.last (same_channel cell.header.channel default_channel) ends)) reads.payload reads.made counts (unlost cell cells queue)))
            (ports_then site.switch (acting_switch w site).switch heard (record { ports = refl; vpis = refl }) (read_same (acting_switch w site) (decoded reads.payload) reads.asks))

    down_own : ports_at v node ≡ ports_at w node
    down_own = by (queue_at w (Down node)) refl
      where
        by : (q : List Cell) → queue_at w (Down node) ≡ q → ports_at v node ≡ ports_at w node
        by [] is = ap (λ (q : List Cell). ports_at (carries_head topology (put_away w) (Down node) q) node) is
        by (cell ∷ cells) is = by_end (is_last_on default_channel cell) refl
          where
            by_end : (b : Bool) → is_last_on default_channel cell ≡ b → ports_at v node ≡ ports_at w node
            by_end true ends = ended cell cells is ends
            by_end false apart = early cell cells is apart

-- *Each carry*
pub ports_stay : (topology : Topology) (w : World) (node : NodeId) (place : Place) → IsTopology topology → IsMirroredIn w node → CountsAsItsFrame w (Carry place) → IsUnlost topology w place
    → ports_at (next topology w (Carry place)) node ≡ ports_at w node
ports_stay topology w node (Up here) is mirrored counts unlost = up_same topology w node here
ports_stay topology w node (Out here port) is mirrored counts unlost = out_same topology w node is here port
ports_stay topology w node (Down here) is mirrored counts unlost = by_eq here.0 node.0
    (λ own t. subst (λ (h : NodeId). CountsAsItsFrame w (Carry (Down h)) → IsUnlost topology w (Down h) → ports_at (next topology w (Carry (Down h))) node ≡ ports_at w node)
    (same_node node here own) (down_own topology w node mirrored) counts unlost)
    (λ apart t. down_away topology w node here apart)
