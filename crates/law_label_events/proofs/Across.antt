-- a cell is carried over any link of the network

use Rattle.std.proofs.Common.{◌≡◌, ◌≢◌, ℕ, zero, suc, ◌<◌, true, List, [], ◌∷◌, Option, None, Some, refl, sym, ◌∙◌, ap, ap₂, subst, arith}
use Rattle.std.specs.Option.{option_map, option_map_or, option_and_then}
use Rattle.std.specs.FinMap.{get}
use Rattle.world_model.specs.Words.{End, NodeId, PortNo, Out, GivenOut, channel_on_control, label_channel_of, is_label_number, Cell, Frame, payload_of, at, Crossbar, queue_of, on_channel_of, route_on, switched_on, sent, control_port, gsmp_cell, switched_cell, is_gsmp, label_end, World, Site, site_key, site_at, with_site, switch_acts, queue_at, with_queue_in, with_queue_of, Topology, carries_head, arrives_at, output_at}
use Rattle.law_controller_lifts.proofs.law_port_facts.Keyed.{by_eq, on_both, at_put_other, at_key}
use Rattle.world_model.specs.crossbar_model.declared.branch.Branch.{Branch}
use Rattle.world_model.specs.crossbar_model.Crossbar.{input_of, output_of}
use Rattle.law_controller_lifts.specs.law_label_line.Cells.{Role, Downstream, Upstream}
use Rattle.law_controller_lifts.specs.law_label_line.Line.{Line}
use Rattle.world_model.specs.Switch.{ActedSwitch, free_slots}
use Rattle.world_model.specs.Conduct.{cell_routed, cell_comes}
use Rattle.world_model.specs.network_model.declared.link.LinkEnd.{LinkEnd}
use Rattle.world_model.specs.Topology.{peer_of}
use Rattle.law_controller_lifts.specs.law_port_views.Link.{LinkLabel, other}
use Rattle.law_controller_lifts.specs.law_controller_views.Lifted.{IsProper}
use Rattle.law_world_views.specs.Shown.{end_of, WorldShows, WorldGoes, AreApart}
use Rattle.law_world_views.proofs.Sites.{goes_self, goes_then, site_same}
use Rattle.law_label_events.specs.Queues.{HasQueues, HasLowPorts, LeadsOn, home, joined, LeadsFromLinks, IsAcross}
use Rattle.law_label_events.proofs.Nets.{by_node}
use Rattle.law_label_events.proofs.Losses.{lost_site}
use Rattle.law_label_events.proofs.Switches.{IsQuiet, IsMore, quiet_more, same, gsmp_quiet}
use Rattle.law_label_events.proofs.SwitchActs.{switching, switched_world, quiet_site}
use Rattle.law_label_events.proofs.Carries.{sent_elsewhere}
use Rattle.law_label_events.proofs.Links.{other_role, up_elsewhere, crosses_to, puts_out_at}

module _ (link : LinkLabel) (proper : IsProper link) (like : Type 0) (apart : AreApart link) (low : HasLowPorts link) (w : World) (line : Line) (s : WorldShows link like w line)
    (from : LinkEnd) (above : 0 < from.port.0) (site : Site) (found : site_at w from.node ≡ Some site) (nine : HasQueues site) (cell : Cell) (cells : List Cell)
    (front : queue_of site.switch.crossbar from.port ≡ cell ∷ cells) where
  -- the site without the cell, and the network with it: to the line the cell is lost
  abbrev popped : Site
  popped = with_queue_in site (Out from.node from.port) cells

  abbrev without : World
  without = with_site w popped

  pub popped_goes : WorldGoes link like without line
  popped_goes =
      let g : WorldGoes link like _ line = lost_site link proper like apart w line s (Out from.node from.port) cell cells site low nine above found front in
      record { moves = g.moves; after = g.after; is = g.is; shows = record { end = g.shows.end; found = g.shows.found; net = g.shows.net } }

  module _ (far : LinkEnd) (across : IsAcross link from far) (there : Site) (far_found : site_at w far.node ≡ Some there) (far_nine : HasQueues there) (leads : LeadsFromLinks there)
      (may : (input : End) → 0 < input.port.0 → output_at w (link.node Upstream) input ≡ Some (label_end (link.port Upstream) link.label) → like) where
    abbrev begun : ActedSwitch
    begun = switching without there

    abbrev After : ActedSwitch → Type 0
    After b = WorldGoes link like (switched_world without there b) line

    still_there : site_at without far.node ≡ Some there
    still_there = at_put_other site_key popped far.node.0 w.sites (λ e. across.apart (sym e ∙ at_key site_key from.node.0 w.sites site found)) ∙ far_found

    quietly : (b : ActedSwitch) → IsMore begun b → ((role : Role) → far.node.0 ≡ (link.node role).0 → IsQuiet link role begun b) → After b
    quietly b more quiet = goes_then link like without (switched_world without there b) line popped_goes
        (λ z shown. quiet_site link proper like apart without z shown far.node there b still_there far_nine more quiet)

    -- *Nowhere*
    same_notes : (b : ActedSwitch) → b.switch.crossbar.queues ≡ begun.switch.crossbar.queues → b.notes.frames ≡ w.notes.frames → b.numbers ≡ w.numbers → After b
    same_notes b queues frames numbers = quietly b (quiet_more link Downstream begun b (still Downstream)) (λ role here. still role)
      where
        still : (role : Role) → IsQuiet link role begun b
        still role = same link proper role begun b queues frames (omega (arith, ap (λ (m : GivenOut). m.instances) numbers)) (ap (λ (m : GivenOut). m.controls) numbers)

    more_of : (b : ActedSwitch) → b.notes.frames ≡ w.notes.frames → b.numbers ≡ w.numbers → IsMore begun b
    more_of b frames numbers = record {
      extends = λ u. record { kept = λ mark payload k. ap (λ (fs : List Frame). payload_of fs mark) frames ∙ k };
      instances = omega (arith, ap (λ (m : GivenOut). m.instances) numbers);
      unmade = λ u k less. ap (λ (fs : List Frame). payload_of fs (record { packet = 0; frame = k })) frames ∙ u k (omega (arith, less, ap (λ (m : GivenOut). m.controls) numbers));
    }

    -- *Up to the controller*
    far_key : site_key there ≡ far.node.0
    far_key = at_key site_key far.node.0 w.sites there far_found

    goes_home : (d : Cell) (b : ActedSwitch) → b.switch.crossbar.queues ≡ (sent there.switch.crossbar control_port (d ∷ [])).queues → b.notes.frames ≡ w.notes.frames → b.numbers ≡ w.numbers
        → d.header.channel ≡ channel_on_control far.port cell.header.channel → d.header.last ≡ cell.header.last → d.mark ≡ cell.mark → cell.header.channel.vpi < 16 → After b
    goes_home d b queues frames numbers channel last mark few = by_node link like (After b) far.node w there line far_found s
        (λ role here is. by_eq far.port.0 (link.port role).0 (λ own t. at_its_end role here is own)
        (λ n t. quietly b (more_of b frames numbers) (λ r at_r. elsewhere r (other_role link apart far.node far.port role r here at_r n))))
        (λ away. quietly b (more_of b frames numbers) (λ r at_r. absurd (away r (far_key ∙ at_r))))
      where
        elsewhere : (r : Role) → far.port.0 ≢ (link.port r).0 → IsQuiet link r begun b
        elsewhere r n = up_elsewhere link proper r begun far.port cell d b queues frames numbers channel few n

        at_other : (role source : Role) → source ≡ other role → other source ≡ role → far.node.0 ≡ (link.node role).0 → s.end role ≡ there → far.port.0 ≡ (link.port role).0 → After b
        at_other role source is back here end own =
            let behind : from ≡ end_of (other role) link = across.back role (ap₂ (λ (x y : ℕ). record { node = record { 0 = x }; port = record { 0 = y } }) here own) in
            let near : from ≡ end_of source link = behind ∙ ap (λ (r : Role). end_of r link) (sym is) in
            crosses_to link proper like apart low w line s source from.node from.port site there cell cells d b
            (site_same link like w source from.node site (s.end source) (ap (λ (e : LinkEnd). e.node.0) near) found (s.found source))
            (ap s.end back ∙ end) (ap (λ (e : LinkEnd). e.port) near) nine far_nine front queues frames numbers
            (channel ∙ ap (λ (p : PortNo). channel_on_control p cell.header.channel) (ap (λ (n : ℕ). record { 0 = n }) own ∙ ap link.port (sym back))) last mark

        at_its_end : (role : Role) → far.node.0 ≡ (link.node role).0 → s.end role ≡ there → far.port.0 ≡ (link.port role).0 → After b
        at_its_end Downstream = at_other Downstream Upstream refl refl
        at_its_end Upstream = at_other Upstream Downstream refl refl

    -- *Out under a label*
    goes_joined : (q : PortNo) (number : ℕ) (d : Cell) (b : ActedSwitch) → b.switch.crossbar.queues ≡ (sent there.switch.crossbar q (d ∷ [])).queues → b.notes.frames ≡ w.notes.frames → b.numbers ≡ w.numbers
        → 0 < q.0 → is_label_number number ≡ true → d.header.channel ≡ label_channel_of number
        → output_of there.switch.crossbar.branches (input_of far.port cell) ≡ Some (label_end q number) → After b
    goes_joined q number d b queues frames numbers high is channel output = goes_then link like without (switched_world without there b) line popped_goes out
      where
        like_there : (role : Role) → far.node.0 ≡ (link.node role).0 → q ≡ link.port role → role ≡ Upstream → number ≡ link.label → like
        like_there role here own up e = may (input_of far.port cell) across.above
            (ap (λ (o : Option Site). option_and_then (λ site. output_of site.switch.crossbar.branches (input_of far.port cell)) o)
            (subst (λ (j : ℕ). at site_key j w.sites ≡ Some there) (here ∙ ap (λ (r : Role). (link.node r).0) up) far_found)
            ∙ (output ∙ ap₂ (λ (p : PortNo) (n : ℕ). Some (label_end p n)) (own ∙ ap link.port up) e))

        out : (z : Line) → WorldShows link like without z → WorldGoes link like (switched_world without there b) z
        out z shown = by_node link like (WorldGoes link like (switched_world without there b) z) far.node without there z still_there shown
            (λ role here end. by_eq q.0 (link.port role).0
            (λ own t. (let port : q ≡ link.port role = ap (λ (n : ℕ). record { 0 = n }) own in
            puts_out_at link proper like apart low without z shown role there q d b number end port far_nine queues frames numbers is channel (like_there role here port)))
            (λ n t. quiet_site link proper like apart without z shown far.node there b still_there far_nine (more_of b frames numbers)
            (λ r at_r. sent_elsewhere link proper r begun q (d ∷ []) b queues frames numbers high (other_role link apart far.node q role r here at_r n))))
            (λ away. quiet_site link proper like apart without z shown far.node there b still_there far_nine (more_of b frames numbers) (λ r at_r. absurd (away r (far_key ∙ at_r))))

    -- *Where its branch leads*
    branch_leads : (branch : Branch) (b : ActedSwitch) → get there.switch.crossbar.branches (input_of far.port cell) ≡ Some branch
        → b.switch.crossbar.queues ≡ (sent there.switch.crossbar branch.output.port (on_channel_of cell branch.output ∷ [])).queues → b.notes.frames ≡ w.notes.frames → b.numbers ≡ w.numbers → After b
    branch_leads branch b is queues frames numbers = by (leads (input_of far.port cell) branch.output across.above output)
      where
        output : output_of there.switch.crossbar.branches (input_of far.port cell) ≡ Some branch.output
        output = ap (option_map (λ (x : Branch). x.output)) is

        at_port : (p : PortNo) → branch.output.port ≡ p → b.switch.crossbar.queues ≡ (sent there.switch.crossbar p (on_channel_of cell branch.output ∷ [])).queues
        at_port p e = queues ∙ ap (λ (x : PortNo). (sent there.switch.crossbar x (on_channel_of cell branch.output ∷ [])).queues) e

        by : LeadsOn (input_of far.port cell) branch.output → After b
        by (home few e) = goes_home (on_channel_of cell branch.output) b (at_port control_port (ap (λ (x : End). x.port) e)) frames numbers (ap (λ (x : End). x.channel) e) refl refl few
        by (joined q number high label e) = goes_joined q number (on_channel_of cell branch.output) b (at_port q (ap (λ (x : End). x.port) e)) frames numbers high label
            (ap (λ (x : End). x.channel) e) (output ∙ ap Some e)

    passes : (o : Option Branch) → get there.switch.crossbar.branches (input_of far.port cell) ≡ o → (free : ℕ) → free_slots there.switch ≡ free → After (cell_routed begun far.port cell (route_on o free))
    passes None e free f = same_notes (cell_routed begun far.port cell (route_on None free)) refl refl refl
    passes (Some branch) e zero f = same_notes (cell_routed begun far.port cell (route_on (Some branch) zero)) refl refl refl
    passes (Some branch) e (suc n) f = branch_leads branch (cell_routed begun far.port cell (route_on (Some branch) (suc n))) e
        (ap (λ (x : Crossbar). x.queues) ((λ i. switched_on there.switch.crossbar (input_of far.port cell) (e i) (f i) cell))) refl refl

    carried_over : After (cell_comes begun far.port cell)
    carried_over = on_both After (is_gsmp far.port cell.header.channel) (gsmp_cell begun cell) (switched_cell begun far.port cell)
        (quietly (gsmp_cell begun cell) (quiet_more link Downstream begun (gsmp_cell begun cell) (gsmp_quiet link proper Downstream begun cell)) (λ role here. gsmp_quiet link proper role begun cell))
        (passes (get there.switch.crossbar.branches (input_of far.port cell)) refl (free_slots there.switch) refl)

    pub comes_over : (o : Option Site) → o ≡ Some there → WorldGoes link like (switch_acts without o (λ a. cell_comes a far.port cell)) line
    comes_over o e = subst (λ (z : Option Site). WorldGoes link like (switch_acts without z (λ a. cell_comes a far.port cell)) line) (sym e) carried_over

    pub arrived : WorldGoes link like (arrives_at without cell (Some far)) line
    arrived = comes_over (site_at without far.node) still_there

-- the head of a queue at a port of a link is carried
module _ (link : LinkLabel) (proper : IsProper link) (like : Type 0) (apart : AreApart link) (low : HasLowPorts link) (w : World) (line : Line) (s : WorldShows link like w line) where
  pub carry_out_goes : (topology : Topology) (from : LinkEnd) → 0 < from.port.0 → ((far : LinkEnd) → peer_of topology from.node from.port ≡ Some far → IsAcross link from far)
      → ((node : NodeId) (site : Site) → site_at w node ≡ Some site → HasQueues site) → ((node : NodeId) (site : Site) → site_at w node ≡ Some site → LeadsFromLinks site)
      → ((input : End) → 0 < input.port.0 → output_at w (link.node Upstream) input ≡ Some (label_end (link.port Upstream) link.label) → like)
      → WorldGoes link like (carries_head topology w (Out from.node from.port) (queue_at w (Out from.node from.port))) line
  carry_out_goes topology from above across nine leads may = by (site_at w from.node) refl
    where
      by_cells : (site : Site) → site_at w from.node ≡ Some site → (cells : List Cell) → queue_of site.switch.crossbar from.port ≡ cells
          → WorldGoes link like (carries_head topology w (Out from.node from.port) cells) line
      by_cells site found [] front = goes_self link like w line s
      by_cells site found (cell ∷ cells) front = subst (λ (o : Option Site). WorldGoes link like (arrives_at (with_queue_of w (Out from.node from.port) cells o) cell (peer_of topology from.node from.port)) line) (sym found)
          (by_peer (peer_of topology from.node from.port) refl)
        where
          popped_site : Site
          popped_site = with_queue_in site (Out from.node from.port) cells

          lost : WorldGoes link like (with_site w popped_site) line
          lost = popped_goes link proper like apart low w line s from above site found (nine from.node site found) cell cells front

          by_far : (far : LinkEnd) → IsAcross link from far → (o : Option Site) → site_at w far.node ≡ o → WorldGoes link like (arrives_at (with_site w popped_site) cell (Some far)) line
          by_far far is None e = subst (λ (o : Option Site). WorldGoes link like (switch_acts (with_site w popped_site) o (λ a. cell_comes a far.port cell)) line)
              (sym (at_put_other site_key popped_site far.node.0 w.sites (λ h. is.apart (sym h ∙ at_key site_key from.node.0 w.sites site found)) ∙ e)) lost
          by_far far is (Some there) e = arrived link proper like apart low w line s from above site found (nine from.node site found) cell cells front far is there e
              (nine far.node there e) (leads far.node there e) may

          by_peer : (o : Option LinkEnd) → peer_of topology from.node from.port ≡ o → WorldGoes link like (arrives_at (with_site w popped_site) cell o) line
          by_peer None e = lost
          by_peer (Some far) e = by_far far (across far e) (site_at w far.node) refl

      by : (o : Option Site) → site_at w from.node ≡ o → WorldGoes link like (carries_head topology w (Out from.node from.port) (option_map_or (λ site. queue_of site.switch.crossbar from.port) o [])) line
      by None found = goes_self link like w line s
      by (Some site) found = by_cells site found (queue_of site.switch.crossbar from.port) refl
