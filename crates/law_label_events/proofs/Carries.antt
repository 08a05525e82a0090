-- a cell is carried from a controller to its switch: out to the link, out to another, to the switch itself, or nowhere

use Rattle.std.proofs.Common.{◌≡◌, ◌≢◌, ℕ, zero, suc, ◌<◌, Bool, List, [], ◌∷◌, ◌++◌, length, Option, None, Some, refl, sym, ◌∙◌, ap, subst, arith, if◌then◌else◌}
use Rattle.std.specs.Option.{option_map_or}
use Rattle.std.specs.FinMap.{get}
use Rattle.std.proofs.lemmas.Bool.Decides.{nat_tests}
use Rattle.world_model.specs.Words.{NodeId, PortNo, Down, Channel, GivenOut, channel_on_control, label_channel_of, Cell, Frame, payload_of, at, put, Crossbar, queue_of, on_channel_of, route_on, switched_on, sent, control_port, gsmp_cell, switched_cell, is_gsmp, default_channel, same_channel, World, Site, site_key, site_at, with_site, switch_acts, queue_at, with_queue_of, Topology, carries_head}
use Rattle.law_controller_lifts.proofs.law_port_facts.Keyed.{by_eq, on_both, at_put_same, at_key}
use Rattle.world_model.specs.crossbar_model.declared.branch.Branch.{Branch}
use Rattle.world_model.specs.crossbar_model.Crossbar.{input_of}
use Rattle.law_controller_lifts.specs.law_label_line.Cells.{Role, Downstream, Upstream}
use Rattle.law_controller_lifts.specs.law_label_line.Line.{Line}
use Rattle.world_model.specs.Switch.{ActedSwitch, free_slots}
use Rattle.world_model.specs.Conduct.{cell_routed, cell_comes}
use Rattle.world_model.specs.World.{at_switch}
use Rattle.world_model.proofs.Lists.{index_set, index_here, length_set}
use Rattle.law_controller_lifts.specs.law_port_views.Link.{LinkLabel}
use Rattle.law_controller_lifts.specs.law_shown_cells.Seen.{Nothing}
use Rattle.law_controller_lifts.specs.law_shown_cells.Label.{OnLink, OnControl, channel_at, seen, seen_payload, on_label}
use Rattle.law_controller_lifts.proofs.law_shown_cells.Made.{extends_self}
use Rattle.law_controller_lifts.specs.law_controller_views.Ends.{Goes, idle, put_at}
use Rattle.law_controller_lifts.specs.law_controller_views.Lifted.{IsProper}
use Rattle.law_controller_lifts.specs.law_controller_views.Queues.{carried, put_out, gone}
use Rattle.law_controller_lifts.proofs.law_controller_views.Carried.{carried_net}
use Rattle.law_controller_lifts.proofs.law_controller_views.Parts.{both}
use Rattle.law_world_views.specs.Shown.{pieces_of, WorldShows, WorldGoes, AreApart}
use Rattle.law_world_views.proofs.Sites.{goes_self, goes_then}
use Rattle.law_controller_lifts.proofs.law_arrival_views.Chains.{Came}
use Rattle.law_label_events.specs.Queues.{HasQueues, HasLowPorts, LeadsOut}
use Rattle.law_label_events.proofs.Nets.{Alike, alike_goes, site_goes, site_goes_twice, away_goes, goes_still, by_node}
use Rattle.law_label_events.proofs.Switches.{IsQuiet, IsMore, quiet_more, quiet_then, same, gsmp_quiet}
use Rattle.law_label_events.proofs.SwitchActs.{switching, switched_world, quiet_site}

-- *A channel of a port* on the link and on the control link is one to the line
on_control_same : (p : PortNo) (x y : Channel) → same_channel (channel_on_control p x) (channel_on_control p y) ≡ same_channel x y
on_control_same p x y = grind (arith, nat_tests)

pub seen_out : (port : PortNo) (role : Role) (link : LinkLabel) (frames : List Frame) (c d : Cell) → c.header.channel ≡ channel_on_control port d.header.channel → d.header.last ≡ c.header.last → d.mark ≡ c.mark
    → seen OnLink role link frames d ≡ seen (OnControl port) role link frames c
seen_out port role link frames c d channel last mark = sym (both_tests (same_channel c.header.channel (channel_at (OnControl port) default_channel)) (same_channel d.header.channel default_channel)
    (same_channel c.header.channel (channel_at (OnControl port) (label_channel_of link.label))) (same_channel d.header.channel (label_channel_of link.label))
    (test default_channel) (test (label_channel_of link.label)))
  where
    test : (x : Channel) → same_channel c.header.channel (channel_on_control port x) ≡ same_channel d.header.channel x
    test x = ap (λ (z : Channel). same_channel z (channel_on_control port x)) channel ∙ on_control_same port d.header.channel x

    both_tests : (a b x y : Bool) → a ≡ b → x ≡ y
        → (if a then seen_payload role link c.header.last (payload_of frames c.mark) else (if x then on_label role else Nothing))
        ≡ (if b then seen_payload role link d.header.last (payload_of frames d.mark) else (if y then on_label role else Nothing))
    both_tests a b x y e f = λ i. if e i then seen_payload role link (sym last i) (payload_of frames (sym mark i)) else (if f i then on_label role else Nothing)

-- *A cell that goes nowhere, or to another port*, is nothing to the queues of a port and of the controller
module _ (link : LinkLabel) (proper : IsProper link) (role : Role) where
  pub sent_elsewhere : (a : ActedSwitch) (output : PortNo) (cells : List Cell) (b : ActedSwitch) → b.switch.crossbar.queues ≡ (sent a.switch.crossbar output cells).queues → b.notes.frames ≡ a.notes.frames
      → b.numbers ≡ a.numbers → 0 < output.0 → output.0 ≢ (link.port role).0 → IsQuiet link role a b
  sent_elsewhere a output cells b queues frames numbers above n =
      let between : ActedSwitch = record a { switch = record a.switch { crossbar = sent a.switch.crossbar output cells } } in
      let moved : IsQuiet link role a between = record {
        size = length_set a.switch.crossbar.queues output.0 (queue_of a.switch.crossbar output ++ cells);
        extends = λ u. extends_self a.notes.frames;
        instances = omega arith;
        unmade = λ u. u;
        output = λ low. index_set a.switch.crossbar.queues output.0 (link.port role).0 (queue_of a.switch.crossbar output ++ cells) [] n;
        waiting = λ low u words s. subst (λ (z : List Cell). Came link role a.notes.frames z words) (sym (index_set a.switch.crossbar.queues output.0 0 (queue_of a.switch.crossbar output ++ cells) [] (λ e. absurd (omega (arith, e, above))))) s;
      } in
      quiet_then link proper role a between b moved (same link proper role between b queues frames (omega (arith, ap (λ (m : GivenOut). m.instances) numbers)) (ap (λ (m : GivenOut). m.controls) numbers))

module _ (link : LinkLabel) (proper : IsProper link) (like : Type 0) (apart : AreApart link) (low : HasLowPorts link) (w : World) (line : Line) (s : WorldShows link like w line)
    (node : NodeId) (site : Site) (found : site_at w node ≡ Some site) (nine : HasQueues site) (cell : Cell) (cells : List Cell) (front : site.controller.queue ≡ cell ∷ cells) (leads : LeadsOut site cell) where
  -- the site without the cell, and the network with it
  abbrev popped : Site
  popped = record site { controller = record site.controller { queue = cells } }

  abbrev without : World
  without = with_site w popped

  abbrev begun : ActedSwitch
  begun = switching without popped

  found_popped : site_at without node ≡ Some popped
  found_popped =
      let key : site_key site ≡ node.0 = at_key site_key node.0 w.sites site found in
      subst (λ (j : ℕ). at site_key j (put site_key popped w.sites) ≡ Some popped) key
      (at_put_same site_key popped w.sites site (subst (λ (j : ℕ). at site_key j w.sites ≡ Some site) (sym key) found))

  abbrev After : ActedSwitch → Type 0
  After b = WorldGoes link like (switched_world without popped b) line

  -- *It is gone* to the line, and the switch acts quietly
  popped_alike : (role : Role) → Alike (carried role (pieces_of w link s.end) cells ((pieces_of w link s.end).output role))
      (pieces_of (with_site w (record (s.end role) { controller = record (s.end role).controller { queue = cells } })) link
      (put_at role (record (s.end role) { controller = record (s.end role).controller { queue = cells } }) s.end))
  popped_alike Downstream = record { controller = both _ refl refl; waiting = both _ refl refl; output = both _ refl refl; frames = refl; numbers = refl }
  popped_alike Upstream = record { controller = both _ refl refl; waiting = both _ refl refl; output = both _ refl refl; frames = refl; numbers = refl }

  popped_end : (role : Role) → s.end role ≡ site → WorldGoes link like without line
  popped_end role is = site_goes link like role w without line site popped apart s is refl refl
      (subst (λ (z : Site). Goes link like (pieces_of (with_site w (record z { controller = record z.controller { queue = cells } })) link (put_at role (record z { controller = record z.controller { queue = cells } }) s.end)) idle line) is
      (alike_goes link like (carried role (pieces_of w link s.end) cells ((pieces_of w link s.end).output role))
      (pieces_of (with_site w (record (s.end role) { controller = record (s.end role).controller { queue = cells } })) link (put_at role (record (s.end role) { controller = record (s.end role).controller { queue = cells } }) s.end)) line
      (popped_alike role) (carried_net link like role (pieces_of w link s.end) line cell cells ((pieces_of w link s.end).output role)
      (subst (λ (z : Site). z.controller.queue ≡ cell ∷ cells) (sym is) front) s.net (gone refl))))

  popped_goes : WorldGoes link like without line
  popped_goes = by_node link like (WorldGoes link like without line) node w site line found s (λ role same is. popped_end role is)
      (λ away. away_goes link like w without line popped away s refl (goes_still link like (pieces_of without link s.end) line s.net))

  gone_quietly : (b : ActedSwitch) → IsMore begun b → ((role : Role) → node.0 ≡ (link.node role).0 → IsQuiet link role begun b) → After b
  gone_quietly b more quiet = goes_then link like without (switched_world without popped b) line popped_goes
      (λ z shown. quiet_site link proper like apart without z shown node popped b found_popped nine more quiet)

  -- *It goes out to the link*
  out_alike : (role : Role) (branch : Branch) (b : ActedSwitch) → b.switch.crossbar.queues ≡ (sent (s.end role).switch.crossbar branch.output.port (on_channel_of cell branch.output ∷ [])).queues
      → b.notes.frames ≡ w.notes.frames → b.numbers ≡ w.numbers → branch.output.port ≡ link.port role → length (s.end role).switch.crossbar.queues ≡ 9
      → (first : Site) → first ≡ record (s.end role) { controller = record (s.end role).controller { queue = cells } }
      → Alike (carried role (pieces_of w link s.end) cells ((pieces_of w link s.end).output role ++ on_channel_of cell branch.output ∷ []))
      (pieces_of (switched_world (with_site w first) first b) link (put_at role (record first { switch = b.switch }) (put_at role first s.end)))
  out_alike Downstream branch b queues frames numbers port size first is = record {
    controller = both _ (ap (λ (z : Site). z.controller) is) refl;
    waiting = both _ (ap (λ (qs : List (List Cell)). queue_of (record { branches = b.switch.crossbar.branches; queues = qs }) control_port) queues
        ∙ index_set (s.end Downstream).switch.crossbar.queues branch.output.port.0 0 (queue_of (s.end Downstream).switch.crossbar branch.output.port ++ on_channel_of cell branch.output ∷ []) []
        (λ e. absurd (omega (arith, e, ap (λ (q : PortNo). q.0) port, proper.above Downstream)))) refl;
    output = both _ (ap (λ (qs : List (List Cell)). queue_of (record { branches = b.switch.crossbar.branches; queues = qs }) (link.port Downstream)) queues
        ∙ subst (λ (q : PortNo). queue_of (record { branches = b.switch.crossbar.branches; queues = (sent (s.end Downstream).switch.crossbar branch.output.port (on_channel_of cell branch.output ∷ [])).queues }) q
        ≡ queue_of (s.end Downstream).switch.crossbar q ++ on_channel_of cell branch.output ∷ []) port
        (index_here (s.end Downstream).switch.crossbar.queues branch.output.port.0 (queue_of (s.end Downstream).switch.crossbar branch.output.port ++ on_channel_of cell branch.output ∷ []) []
        (omega (arith, ap (λ (q : PortNo). q.0) port, size, low Downstream)))) refl;
    frames = frames;
    numbers = numbers;
  }
  out_alike Upstream branch b queues frames numbers port size first is = record {
    controller = both _ refl (ap (λ (z : Site). z.controller) is);
    waiting = both _ refl (ap (λ (qs : List (List Cell)). queue_of (record { branches = b.switch.crossbar.branches; queues = qs }) control_port) queues
        ∙ index_set (s.end Upstream).switch.crossbar.queues branch.output.port.0 0 (queue_of (s.end Upstream).switch.crossbar branch.output.port ++ on_channel_of cell branch.output ∷ []) []
        (λ e. absurd (omega (arith, e, ap (λ (q : PortNo). q.0) port, proper.above Upstream))));
    output = both _ refl (ap (λ (qs : List (List Cell)). queue_of (record { branches = b.switch.crossbar.branches; queues = qs }) (link.port Upstream)) queues
        ∙ subst (λ (q : PortNo). queue_of (record { branches = b.switch.crossbar.branches; queues = (sent (s.end Upstream).switch.crossbar branch.output.port (on_channel_of cell branch.output ∷ [])).queues }) q
        ≡ queue_of (s.end Upstream).switch.crossbar q ++ on_channel_of cell branch.output ∷ []) port
        (index_here (s.end Upstream).switch.crossbar.queues branch.output.port.0 (queue_of (s.end Upstream).switch.crossbar branch.output.port ++ on_channel_of cell branch.output ∷ []) []
        (omega (arith, ap (λ (q : PortNo). q.0) port, size, low Upstream))));
    frames = frames;
    numbers = numbers;
  }

  goes_out : (role : Role) (branch : Branch) (b : ActedSwitch) → s.end role ≡ site → branch.output.port ≡ link.port role → cell.header.channel ≡ channel_on_control branch.output.port branch.output.channel
      → b.switch.crossbar.queues ≡ (sent site.switch.crossbar branch.output.port (on_channel_of cell branch.output ∷ [])).queues → b.notes.frames ≡ w.notes.frames → b.numbers ≡ w.numbers → After b
  goes_out role branch b is port channel queues frames numbers = site_goes_twice link like role w (switched_world without popped b) line site popped (record popped { switch = b.switch }) apart s is refl refl refl
      (alike_goes link like (carried role (pieces_of w link s.end) cells ((pieces_of w link s.end).output role ++ on_channel_of cell branch.output ∷ []))
      (pieces_of (switched_world without popped b) link (put_at role (record popped { switch = b.switch }) (put_at role popped s.end))) line
      (out_alike role branch b (subst (λ (z : Site). b.switch.crossbar.queues ≡ (sent z.switch.crossbar branch.output.port (on_channel_of cell branch.output ∷ [])).queues) (sym is) queues) frames numbers port
      (subst HasQueues (sym is) nine) popped (ap (λ (z : Site). record z { controller = record z.controller { queue = cells } }) (sym is)))
      (carried_net link like role (pieces_of w link s.end) line cell cells ((pieces_of w link s.end).output role ++ on_channel_of cell branch.output ∷ [])
      (subst (λ (z : Site). z.controller.queue ≡ cell ∷ cells) (sym is) front) s.net
      (put_out (on_channel_of cell branch.output) refl
      (seen_out (link.port role) role link w.notes.frames cell (on_channel_of cell branch.output) (channel ∙ ap (λ (q : PortNo). channel_on_control q branch.output.channel) port) refl refl))))

  -- *Where its branch leads*
  same_notes : (b : ActedSwitch) → b.switch.crossbar.queues ≡ begun.switch.crossbar.queues → b.notes.frames ≡ w.notes.frames → b.numbers ≡ w.numbers → After b
  same_notes b queues frames numbers = gone_quietly b (quiet_more link Downstream begun b (still Downstream)) (λ role here. still role)
    where
      still : (role : Role) → IsQuiet link role begun b
      still role = same link proper role begun b queues frames (omega (arith, ap (λ (m : GivenOut). m.instances) numbers)) (ap (λ (m : GivenOut). m.controls) numbers)

  branch_leads : (branch : Branch) (b : ActedSwitch) → get site.switch.crossbar.branches (input_of control_port cell) ≡ Some branch
      → b.switch.crossbar.queues ≡ (sent site.switch.crossbar branch.output.port (on_channel_of cell branch.output ∷ [])).queues → b.notes.frames ≡ w.notes.frames → b.numbers ≡ w.numbers → After b
  branch_leads branch b found_branch queues frames numbers = by_node link like (After b) node w site line found s
      (λ role here is. by_eq branch.output.port.0 (link.port role).0
      (λ own t. goes_out role branch b is (ap (λ (n : ℕ). record { 0 = n }) own) (leads branch found_branch).1 queues frames numbers)
      (λ n t. gone_quietly b more (λ r at_r. elsewhere r (other_role role r here at_r n))))
      (λ away. gone_quietly b more (λ r at_r. absurd (away r (at_key site_key node.0 w.sites site found ∙ at_r))))
    where
      more : IsMore begun b
      more = record {
        extends = λ u. record { kept = λ mark payload k. ap (λ (fs : List Frame). payload_of fs mark) frames ∙ k };
        instances = omega (arith, ap (λ (m : GivenOut). m.instances) numbers);
        unmade = λ u k less. ap (λ (fs : List Frame). payload_of fs (record { packet = 0; frame = k })) frames ∙ u k (omega (arith, less, ap (λ (m : GivenOut). m.controls) numbers));
      }

      elsewhere : (r : Role) → branch.output.port.0 ≢ (link.port r).0 → IsQuiet link r begun b
      elsewhere r n = sent_elsewhere link proper r begun branch.output.port (on_channel_of cell branch.output ∷ []) b queues frames numbers (leads branch found_branch).0 n

      other_role : (role r : Role) → node.0 ≡ (link.node role).0 → node.0 ≡ (link.node r).0 → branch.output.port.0 ≢ (link.port role).0 → branch.output.port.0 ≢ (link.port r).0
      other_role Downstream Downstream here there n = n
      other_role Downstream Upstream here there n = absurd (apart (sym here ∙ there))
      other_role Upstream Downstream here there n = absurd (apart (sym there ∙ here))
      other_role Upstream Upstream here there n = n

  passes : (o : Option Branch) → get site.switch.crossbar.branches (input_of control_port cell) ≡ o → (free : ℕ) → free_slots site.switch ≡ free → After (cell_routed begun control_port cell (route_on o free))
  passes None e free f = same_notes (cell_routed begun control_port cell (route_on None free)) refl refl refl
  passes (Some branch) e zero f = same_notes (cell_routed begun control_port cell (route_on (Some branch) zero)) refl refl refl
  passes (Some branch) e (suc n) f = branch_leads branch (cell_routed begun control_port cell (route_on (Some branch) (suc n))) e
      (ap (λ (x : Crossbar). x.queues) ((λ i. switched_on site.switch.crossbar (input_of control_port cell) (e i) (f i) cell))) refl refl

  pub carried_down : After (cell_comes begun control_port cell)
  carried_down = on_both After (is_gsmp control_port cell.header.channel) (gsmp_cell begun cell) (switched_cell begun control_port cell)
      (gone_quietly (gsmp_cell begun cell) (quiet_more link Downstream begun (gsmp_cell begun cell) (gsmp_quiet link proper Downstream begun cell)) (λ role here. gsmp_quiet link proper role begun cell))
      (passes (get site.switch.crossbar.branches (input_of control_port cell)) refl (free_slots site.switch) refl)

-- the head of a controller's queue is carried
module _ (link : LinkLabel) (proper : IsProper link) (like : Type 0) (apart : AreApart link) (low : HasLowPorts link) (w : World) (line : Line) (s : WorldShows link like w line) where
  pub carry_down_goes : (topology : Topology) (node : NodeId) → ((site : Site) → site_at w node ≡ Some site → HasQueues site)
      → ((site : Site) (cell : Cell) (cells : List Cell) → site_at w node ≡ Some site → site.controller.queue ≡ cell ∷ cells → LeadsOut site cell)
      → WorldGoes link like (carries_head topology w (Down node) (queue_at w (Down node))) line
  carry_down_goes topology node nine leads = by (site_at w node) refl
    where
      by_cells : (site : Site) → site_at w node ≡ Some site → (cells : List Cell) → site.controller.queue ≡ cells → WorldGoes link like (carries_head topology w (Down node) cells) line
      by_cells site found [] front = goes_self link like w line s
      by_cells site found (cell ∷ cells) front =
          let popped : Site = record site { controller = record site.controller { queue = cells } } in
          let key : site_key site ≡ node.0 = at_key site_key node.0 w.sites site found in
          let there : site_at (with_site w popped) node ≡ Some popped = subst (λ (j : ℕ). at site_key j (put site_key popped w.sites) ≡ Some popped) key
          (at_put_same site_key popped w.sites site (subst (λ (j : ℕ). at site_key j w.sites ≡ Some site) (sym key) found)) in
          subst (λ (o : Option Site). WorldGoes link like (at_switch (with_queue_of w (Down node) cells o) node (λ a. cell_comes a control_port cell)) line) (sym found)
          (subst (λ (o : Option Site). WorldGoes link like (switch_acts (with_site w popped) o (λ a. cell_comes a control_port cell)) line) (sym there)
          (carried_down link proper like apart low w line s node site found (nine site found) cell cells front (leads site cell cells found front)))

      by : (o : Option Site) → site_at w node ≡ o → WorldGoes link like (carries_head topology w (Down node) (option_map_or (λ site. site.controller.queue) o [])) line
      by None found = goes_self link like w line s
      by (Some site) found = by_cells site found site.controller.queue refl
