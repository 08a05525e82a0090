-- a cell is carried over a link to the switch at its other end: on to its controller, out under a label, or nowhere

use Rattle.std.proofs.Common.{◌≡◌, ◌≢◌, ℕ, ◌<◌, true, List, [], ◌∷◌, ◌++◌, refl, sym, ◌∙◌, ap, subst, arith}
use Rattle.world_model.specs.Words.{NodeId, PortNo, Out, GivenOut, channel_on_control, label_channel_of, is_label_number, Cell, Frame, queue_of, sent, control_port, World, Site, site_key, with_site, with_queue_in}
use Rattle.law_controller_lifts.proofs.law_port_facts.Keyed.{by_eq, at_key}
use Rattle.law_controller_lifts.specs.law_label_line.Cells.{Role, Downstream, Upstream}
use Rattle.law_controller_lifts.specs.law_label_line.Line.{Line}
use Rattle.world_model.specs.Switch.{ActedSwitch}
use Rattle.world_model.proofs.Lists.{index_set, index_here, length_set}
use Rattle.law_controller_lifts.specs.law_port_views.Link.{LinkLabel, other}
use Rattle.law_controller_lifts.specs.law_shown_cells.Label.{OnLink, OnControl, seen}
use Rattle.law_controller_lifts.proofs.law_shown_cells.Shows.{shows_behind, one_hidden}
use Rattle.law_controller_lifts.proofs.law_shown_cells.Made.{extends_self}
use Rattle.law_controller_lifts.proofs.law_shown_cells.Frames.{seen_elsewhere}
use Rattle.law_controller_lifts.specs.law_controller_views.Ends.{Goes, idle, put_at}
use Rattle.law_controller_lifts.specs.law_controller_views.Lifted.{IsProper}
use Rattle.law_controller_lifts.specs.law_controller_views.Queues.{crossed, passed as goes_up}
use Rattle.law_controller_lifts.proofs.law_controller_views.Carried.{crossed_net}
use Rattle.law_controller_lifts.proofs.law_controller_views.Parts.{both}
use Rattle.law_controller_lifts.proofs.law_controller_views.Sends.{port_default, port_label}
use Rattle.law_world_views.specs.Shown.{pieces_of, WorldShows, WorldGoes, AreApart}
use Rattle.law_world_views.proofs.Sites.{found_after}
use Rattle.law_controller_lifts.proofs.law_arrival_views.Chains.{Came}
use Rattle.law_label_events.specs.Queues.{HasQueues, HasLowPorts}
use Rattle.law_label_events.proofs.Nets.{Alike, alike_goes, site_goes}
use Rattle.law_label_events.proofs.Losses.{set_here, set_there}
use Rattle.law_label_events.proofs.Switches.{IsQuiet, quiet_then, same}
use Rattle.law_label_events.proofs.SwitchActs.{switched_world}
use Rattle.law_label_events.proofs.Carries.{seen_out}
use Rattle.law_label_events.proofs.Labelled.{seen_label, seen_other, seen_down, behind_goes, labelled_goes}

pub other_role : (link : LinkLabel) → AreApart link → (node : NodeId) (port : PortNo) (role r : Role) → node.0 ≡ (link.node role).0 → node.0 ≡ (link.node r).0
    → port.0 ≢ (link.port role).0 → port.0 ≢ (link.port r).0
other_role link apart node port Downstream Downstream here there n = n
other_role link apart node port Downstream Upstream here there n = absurd (apart (sym here ∙ there))
other_role link apart node port Upstream Downstream here there n = absurd (apart (sym there ∙ here))
other_role link apart node port Upstream Upstream here there n = n

-- *Up to the controller*: to the line it waits there as it stood on the link, and where it is of another port it is nothing
module _ (link : LinkLabel) (proper : IsProper link) (role : Role) where
  seen_up : (frames : List Frame) (c d : Cell) → d.header.channel ≡ channel_on_control (link.port (other role)) c.header.channel → d.header.last ≡ c.header.last → d.mark ≡ c.mark
      → seen (OnControl (link.port (other role))) role link frames d ≡ seen OnLink role link frames c
  seen_up frames c d channel last mark = sym (seen_out (link.port (other role)) role link frames d c channel (sym last) (sym mark))

  pub up_elsewhere : (a : ActedSwitch) (port : PortNo) (c d : Cell) (b : ActedSwitch) → b.switch.crossbar.queues ≡ (sent a.switch.crossbar control_port (d ∷ [])).queues → b.notes.frames ≡ a.notes.frames
      → b.numbers ≡ a.numbers → d.header.channel ≡ channel_on_control port c.header.channel → c.header.channel.vpi < 16 → port.0 ≢ (link.port role).0 → IsQuiet link role a b
  up_elsewhere a port c d b queues frames numbers channel low n =
      let between : ActedSwitch = record a { switch = record a.switch { crossbar = sent a.switch.crossbar control_port (d ∷ []) } } in
      let moved : IsQuiet link role a between = record {
        size = length_set a.switch.crossbar.queues 0 (queue_of a.switch.crossbar control_port ++ d ∷ []);
        extends = λ u. extends_self a.notes.frames;
        instances = omega arith;
        unmade = λ u. u;
        output = λ few. index_set a.switch.crossbar.queues 0 (link.port role).0 (queue_of a.switch.crossbar control_port ++ d ∷ []) [] (λ e. absurd (omega (arith, e, proper.above role)));
        waiting = λ few u words s. subst (λ (z : List Cell). Came link role a.notes.frames z words) (sym (index_here a.switch.crossbar.queues 0 (queue_of a.switch.crossbar control_port ++ d ∷ []) [] few))
            (shows_behind s (one_hidden (seen_elsewhere (OnControl (link.port role)) (other role) link a.notes.frames d (channel_on_control port c.header.channel) d.mark d.header.last
            (port_default link proper role port c.header.channel (λ e. n (ap (λ (q : PortNo). q.0) e)) low) (port_label link proper role port c.header.channel (λ e. n (ap (λ (q : PortNo). q.0) e)) low)
            (channel, refl, refl))));
      } in
      quiet_then link proper role a between b moved (same link proper role between b queues frames (omega (arith, ap (λ (m : GivenOut). m.instances) numbers)) (ap (λ (m : GivenOut). m.controls) numbers))

module _ (link : LinkLabel) (proper : IsProper link) (like : Type 0) (apart : AreApart link) (low : HasLowPorts link) (w : World) (line : Line) (s : WorldShows link like w line) where
  -- *Over the line's own link*: the one site loses the cell and the other has it in front of its controller
  abbrev popped_at : Role → NodeId → List Cell → Site
  popped_at role node cells = with_queue_in (s.end role) (Out node (link.port role)) cells

  abbrev crossed_ends : Role → NodeId → List Cell → ActedSwitch → Role → Site
  crossed_ends role node cells b = put_at (other role) (record (s.end (other role)) { switch = b.switch }) (put_at role (popped_at role node cells) s.end)

  abbrev crossed_world : Role → NodeId → List Cell → ActedSwitch → World
  crossed_world role node cells b = switched_world (with_site w (popped_at role node cells)) (s.end (other role)) b

  control_apart : (role : Role) → (link.port role).0 ≢ 0
  control_apart role e = absurd (omega (arith, e, proper.above role))

  ahead : (role : Role) → 0 ≢ (link.port role).0
  ahead role e = absurd (omega (arith, e, proper.above role))

  crossed_alike : (role : Role) (node : NodeId) (cells : List Cell) (d : Cell) (b : ActedSwitch) → HasQueues (s.end role) → HasQueues (s.end (other role))
      → b.switch.crossbar.queues ≡ (sent (s.end (other role)).switch.crossbar control_port (d ∷ [])).queues → b.notes.frames ≡ w.notes.frames → b.numbers ≡ w.numbers
      → Alike (crossed role (pieces_of w link s.end) cells ((pieces_of w link s.end).waiting (other role) ++ d ∷ []))
      (pieces_of (crossed_world role node cells b) link (crossed_ends role node cells b))
  crossed_alike Downstream node cells d b near far queues frames numbers = record {
    controller = both _ refl refl;
    waiting = both _ (set_there (s.end Downstream).switch.crossbar (link.port Downstream) control_port cells (control_apart Downstream))
        (ap (λ (qs : List (List Cell)). queue_of (record { branches = b.switch.crossbar.branches; queues = qs }) control_port) queues
        ∙ index_here (s.end Upstream).switch.crossbar.queues 0 (queue_of (s.end Upstream).switch.crossbar control_port ++ d ∷ []) [] (omega (arith, far)));
    output = both _ (set_here (s.end Downstream).switch.crossbar (link.port Downstream) cells (omega (arith, near, low Downstream)))
        (ap (λ (qs : List (List Cell)). queue_of (record { branches = b.switch.crossbar.branches; queues = qs }) (link.port Upstream)) queues
        ∙ index_set (s.end Upstream).switch.crossbar.queues 0 (link.port Upstream).0 (queue_of (s.end Upstream).switch.crossbar control_port ++ d ∷ []) [] (ahead Upstream));
    frames = frames;
    numbers = numbers;
  }
  crossed_alike Upstream node cells d b near far queues frames numbers = record {
    controller = both _ refl refl;
    waiting = both _
        (ap (λ (qs : List (List Cell)). queue_of (record { branches = b.switch.crossbar.branches; queues = qs }) control_port) queues
        ∙ index_here (s.end Downstream).switch.crossbar.queues 0 (queue_of (s.end Downstream).switch.crossbar control_port ++ d ∷ []) [] (omega (arith, far)))
        (set_there (s.end Upstream).switch.crossbar (link.port Upstream) control_port cells (control_apart Upstream));
    output = both _
        (ap (λ (qs : List (List Cell)). queue_of (record { branches = b.switch.crossbar.branches; queues = qs }) (link.port Downstream)) queues
        ∙ index_set (s.end Downstream).switch.crossbar.queues 0 (link.port Downstream).0 (queue_of (s.end Downstream).switch.crossbar control_port ++ d ∷ []) [] (ahead Downstream))
        (set_here (s.end Upstream).switch.crossbar (link.port Upstream) cells (omega (arith, near, low Upstream)));
    frames = frames;
    numbers = numbers;
  }

  end_key : (role : Role) → site_key (s.end role) ≡ (link.node role).0
  end_key role = at_key site_key (link.node role).0 w.sites (s.end role) (s.found role)

  crosses : (role : Role) (node : NodeId) (cell : Cell) (cells : List Cell) (d : Cell) (b : ActedSwitch) → HasQueues (s.end role) → HasQueues (s.end (other role))
      → queue_of (s.end role).switch.crossbar (link.port role) ≡ cell ∷ cells
      → b.switch.crossbar.queues ≡ (sent (s.end (other role)).switch.crossbar control_port (d ∷ [])).queues → b.notes.frames ≡ w.notes.frames → b.numbers ≡ w.numbers
      → d.header.channel ≡ channel_on_control (link.port (other role)) cell.header.channel → d.header.last ≡ cell.header.last → d.mark ≡ cell.mark
      → WorldGoes link like (crossed_world role node cells b) line
  crosses role node cell cells d b near far front queues frames numbers channel last mark =
      let g : Goes link like (pieces_of (crossed_world role node cells b) link (crossed_ends role node cells b)) idle line =
      alike_goes link like (crossed role (pieces_of w link s.end) cells ((pieces_of w link s.end).waiting (other role) ++ d ∷ []))
      (pieces_of (crossed_world role node cells b) link (crossed_ends role node cells b)) line (crossed_alike role node cells d b near far queues frames numbers)
      (crossed_net link like role (pieces_of w link s.end) line cell cells ((pieces_of w link s.end).waiting (other role) ++ d ∷ []) front s.net
      (goes_up d refl (seen_up link proper role w.notes.frames cell d channel last mark))) in
      record {
        moves = g.moves;
        after = g.after;
        is = g.is;
        shows = record {
          end = crossed_ends role node cells b;
          found = λ q. found_after link (other role) (with_site w (popped_at role node cells)) (put_at role (popped_at role node cells) s.end)
              (record (s.end (other role)) { switch = b.switch }) apart (λ r. found_after link role w s.end (popped_at role node cells) apart s.found (end_key role) r) (end_key (other role)) q;
          net = g.net;
        };
      }

  -- with the sites as they were found
  pub crosses_to : (role : Role) (node : NodeId) (port : PortNo) (site far : Site) (cell : Cell) (cells : List Cell) (d : Cell) (b : ActedSwitch) → s.end role ≡ site → s.end (other role) ≡ far
      → port ≡ link.port role → HasQueues site → HasQueues far → queue_of site.switch.crossbar port ≡ cell ∷ cells
      → b.switch.crossbar.queues ≡ (sent far.switch.crossbar control_port (d ∷ [])).queues → b.notes.frames ≡ w.notes.frames → b.numbers ≡ w.numbers
      → d.header.channel ≡ channel_on_control (link.port (other role)) cell.header.channel → d.header.last ≡ cell.header.last → d.mark ≡ cell.mark
      → WorldGoes link like (switched_world (with_site w (with_queue_in site (Out node port) cells)) far b) line
  crosses_to role node port site far cell cells d b here there own near nine front queues frames numbers channel last mark =
      subst (λ (q : PortNo). WorldGoes link like (switched_world (with_site w (with_queue_in site (Out node q) cells)) far b) line) (sym own)
      (subst (λ (z : Site). WorldGoes link like (switched_world (with_site w (with_queue_in z (Out node (link.port role)) cells)) far b) line) here
      (subst (λ (z : Site). WorldGoes link like (switched_world (with_site w (popped_at role node cells)) z b) line) there
      (crosses role node cell cells d b (subst HasQueues (sym here) near) (subst HasQueues (sym there) nine)
      (subst (λ (q : PortNo). queue_of (s.end role).switch.crossbar q ≡ cell ∷ cells) own (subst (λ (z : Site). queue_of z.switch.crossbar port ≡ cell ∷ cells) (sym here) front))
      (subst (λ (z : Site). b.switch.crossbar.queues ≡ (sent z.switch.crossbar control_port (d ∷ [])).queues) (sym there) queues) frames numbers channel last mark)))

  -- *Out under a label*, at the link's own port
  put_here : (role : Role) (q : PortNo) (d : Cell) → q ≡ link.port role → HasQueues (s.end role)
      → queue_of (sent (s.end role).switch.crossbar q (d ∷ [])) (link.port role) ≡ queue_of (s.end role).switch.crossbar (link.port role) ++ d ∷ []
  put_here role q d own nine = subst (λ (p : PortNo). queue_of (sent (s.end role).switch.crossbar q (d ∷ [])) p ≡ queue_of (s.end role).switch.crossbar p ++ d ∷ []) own
      (index_here (s.end role).switch.crossbar.queues q.0 (queue_of (s.end role).switch.crossbar q ++ d ∷ []) [] (omega (arith, ap (λ (p : PortNo). p.0) own, nine, low role)))

  put_alike : (role : Role) (q : PortNo) (d : Cell) (b : ActedSwitch) → q ≡ link.port role → HasQueues (s.end role)
      → b.switch.crossbar.queues ≡ (sent (s.end role).switch.crossbar q (d ∷ [])).queues → b.notes.frames ≡ w.notes.frames → b.numbers ≡ w.numbers
      → Alike (crossed role (pieces_of w link s.end) ((pieces_of w link s.end).output role ++ d ∷ []) ((pieces_of w link s.end).waiting (other role)))
      (pieces_of (switched_world w (s.end role) b) link (put_at role (record (s.end role) { switch = b.switch }) s.end))
  put_alike Downstream q d b own nine queues frames numbers = record {
    controller = both _ refl refl;
    waiting = both _ (ap (λ (qs : List (List Cell)). queue_of (record { branches = b.switch.crossbar.branches; queues = qs }) control_port) queues
        ∙ index_set (s.end Downstream).switch.crossbar.queues q.0 0 (queue_of (s.end Downstream).switch.crossbar q ++ d ∷ []) [] (λ e. control_apart Downstream (sym (ap (λ (p : PortNo). p.0) own) ∙ e))) refl;
    output = both _ (ap (λ (qs : List (List Cell)). queue_of (record { branches = b.switch.crossbar.branches; queues = qs }) (link.port Downstream)) queues ∙ put_here Downstream q d own nine) refl;
    frames = frames;
    numbers = numbers;
  }
  put_alike Upstream q d b own nine queues frames numbers = record {
    controller = both _ refl refl;
    waiting = both _ refl (ap (λ (qs : List (List Cell)). queue_of (record { branches = b.switch.crossbar.branches; queues = qs }) control_port) queues
        ∙ index_set (s.end Upstream).switch.crossbar.queues q.0 0 (queue_of (s.end Upstream).switch.crossbar q ++ d ∷ []) [] (λ e. control_apart Upstream (sym (ap (λ (p : PortNo). p.0) own) ∙ e)));
    output = both _ refl (ap (λ (qs : List (List Cell)). queue_of (record { branches = b.switch.crossbar.branches; queues = qs }) (link.port Upstream)) queues ∙ put_here Upstream q d own nine);
    frames = frames;
    numbers = numbers;
  }

  puts_out : (role : Role) (q : PortNo) (d : Cell) (b : ActedSwitch) (number : ℕ) → q ≡ link.port role → HasQueues (s.end role)
      → b.switch.crossbar.queues ≡ (sent (s.end role).switch.crossbar q (d ∷ [])).queues → b.notes.frames ≡ w.notes.frames → b.numbers ≡ w.numbers
      → is_label_number number ≡ true → d.header.channel ≡ label_channel_of number → (role ≡ Upstream → number ≡ link.label → like)
      → Goes link like (pieces_of (switched_world w (s.end role) b) link (put_at role (record (s.end role) { switch = b.switch }) s.end)) idle line
  puts_out role q d b number own nine queues frames numbers is channel there =
      alike_goes link like (crossed role (pieces_of w link s.end) ((pieces_of w link s.end).output role ++ d ∷ []) ((pieces_of w link s.end).waiting (other role)))
      (pieces_of (switched_world w (s.end role) b) link (put_at role (record (s.end role) { switch = b.switch }) s.end)) line
      (put_alike role q d b own nine queues frames numbers) (by_role role there)
    where
      by_role : (r : Role) → (r ≡ Upstream → number ≡ link.label → like)
          → Goes link like (crossed r (pieces_of w link s.end) ((pieces_of w link s.end).output r ++ d ∷ []) ((pieces_of w link s.end).waiting (other r))) idle line
      by_role Downstream may = behind_goes link like Downstream (pieces_of w link s.end) line d (seen_down link w.notes.frames d number is channel) s.net
      by_role Upstream may = by_eq number link.label
          (λ e t. labelled_goes link like (pieces_of w link s.end) line d (may refl e) (seen_label link w.notes.frames d proper.label (channel ∙ ap label_channel_of e)) s.net)
          (λ n t. behind_goes link like Upstream (pieces_of w link s.end) line d (seen_other link w.notes.frames d number is n channel) s.net)

  pub puts_out_at : (role : Role) (site : Site) (q : PortNo) (d : Cell) (b : ActedSwitch) (number : ℕ) → s.end role ≡ site → q ≡ link.port role → HasQueues site
      → b.switch.crossbar.queues ≡ (sent site.switch.crossbar q (d ∷ [])).queues → b.notes.frames ≡ w.notes.frames → b.numbers ≡ w.numbers
      → is_label_number number ≡ true → d.header.channel ≡ label_channel_of number → (role ≡ Upstream → number ≡ link.label → like)
      → WorldGoes link like (switched_world w site b) line
  puts_out_at role site q d b number here own nine queues frames numbers is channel there =
      site_goes link like role w (switched_world w site b) line site (record site { switch = b.switch }) apart s here refl refl
      (subst (λ (z : Site). Goes link like (pieces_of (switched_world w z b) link (put_at role (record z { switch = b.switch }) s.end)) idle line) here
      (puts_out role q d b number own (subst HasQueues (sym here) nine) (subst (λ (z : Site). b.switch.crossbar.queues ≡ (sent z.switch.crossbar q (d ∷ [])).queues) (sym here) queues) frames numbers is channel there))
