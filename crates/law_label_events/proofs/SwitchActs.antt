-- a switch acts in the network: quietly at an end of a link, and at a node that is no end

use Rattle.std.proofs.Common.{◌≡◌, ◌<◌, Option, None, Some, refl, sym, ◌∙◌, subst, arith, length}
use Rattle.std.specs.FinMap.{keys}
use Rattle.world_model.specs.Words.{NodeId, Changed, all_ended, tick_comes, restarted, World, Site, site_at, with_site, switch_acts}
use Rattle.law_controller_lifts.specs.law_label_line.Cells.{Role, Downstream, Upstream}
use Rattle.law_controller_lifts.specs.law_label_line.Line.{Line}
use Rattle.world_model.specs.Switch.{ActedSwitch}
use Rattle.world_model.specs.World.{at_switch}
use Rattle.law_controller_lifts.specs.law_port_views.Link.{LinkLabel, other}
use Rattle.law_controller_lifts.specs.law_shown_cells.Seen.{IsUnmade, Extends}
use Rattle.law_controller_lifts.specs.law_shown_cells.Label.{OnLink, OnControl, ShowsCells}
use Rattle.law_controller_lifts.proofs.law_shown_cells.Made.{shows_more}
use Rattle.law_controller_lifts.specs.law_controller_views.Ends.{way_to, Net, idle, put_at}
use Rattle.law_controller_lifts.specs.law_controller_views.Lifted.{IsProper}
use Rattle.law_controller_lifts.proofs.law_controller_views.Parts.{both, end_later}
use Rattle.law_world_views.specs.Shown.{pieces_of, WorldShows, WorldGoes, AreApart}
use Rattle.law_world_views.proofs.Sites.{goes_self}
use Rattle.law_controller_lifts.proofs.law_shown_cells.Tested.{cut_frames}
use Rattle.law_label_events.specs.Queues.{HasQueues}
use Rattle.law_label_events.proofs.Nets.{site_goes, away_goes, goes_still, by_node}
use Rattle.law_label_events.proofs.Switches.{IsQuiet, IsMore, quiet_more, same, tick_quiet, all_frames}

-- a switch at a site, with the notes and numbers of the network
abbrev pub switching : World → Site → ActedSwitch
switching w site = record { switch = site.switch; notes = w.notes; numbers = w.numbers }

abbrev pub switched_world : World → Site → ActedSwitch → World
switched_world w site b = record (with_site w (record site { switch = b.switch })) { notes = b.notes; numbers = b.numbers }

module _ (link : LinkLabel) (proper : IsProper link) (like : Type 0) (apart : AreApart link) (w : World) (line : Line) (s : WorldShows link like w line) where
  abbrev low : Site → Type 0
  low site = 0 < length site.switch.crossbar.queues

  -- *At an end*: its switch's queues show what they did
  quiet_net : (role : Role) (b : ActedSwitch) → low (s.end role) → IsQuiet link role (switching w (s.end role)) b
      → Net link like (pieces_of (switched_world w (s.end role) b) link (put_at role (record (s.end role) { switch = b.switch }) s.end)) idle line
  quiet_net Downstream b few q =
      let u : IsUnmade w.numbers.controls w.notes.frames = s.net.unmade in
      let more : Extends w.notes.frames b.notes.frames = q.extends u in
      record {
        end = both _ (end_later link like Downstream line more q.instances (s.net.end Downstream)) (end_later link like Upstream line more q.instances (s.net.end Upstream));
        waiting = both _ (q.waiting few u (way_to Downstream line).to_controller (s.net.waiting Downstream)) (shows_more (OnControl (link.port Upstream)) Downstream link more (s.net.waiting Upstream));
        output = both _ (subst (λ (z : _). ShowsCells OnLink Downstream link b.notes.frames z (way_to Upstream line).output) (sym (q.output few)) (shows_more OnLink Downstream link more (s.net.output Downstream)))
            (shows_more OnLink Upstream link more (s.net.output Upstream));
        unmade = q.unmade u;
      }
  quiet_net Upstream b few q =
      let u : IsUnmade w.numbers.controls w.notes.frames = s.net.unmade in
      let more : Extends w.notes.frames b.notes.frames = q.extends u in
      record {
        end = both _ (end_later link like Downstream line more q.instances (s.net.end Downstream)) (end_later link like Upstream line more q.instances (s.net.end Upstream));
        waiting = both _ (shows_more (OnControl (link.port Downstream)) Upstream link more (s.net.waiting Downstream)) (q.waiting few u (way_to Upstream line).to_controller (s.net.waiting Upstream));
        output = both _ (shows_more OnLink Downstream link more (s.net.output Downstream))
            (subst (λ (z : _). ShowsCells OnLink Upstream link b.notes.frames z (way_to Downstream line).output) (sym (q.output few)) (shows_more OnLink Upstream link more (s.net.output Upstream)));
        unmade = q.unmade u;
      }

  -- *Elsewhere*
  away_net : (site : Site) (b : ActedSwitch) → IsMore (switching w site) b → Net link like (pieces_of (switched_world w site b) link s.end) idle line
  away_net site b q =
      let u : IsUnmade w.numbers.controls w.notes.frames = s.net.unmade in
      let more : Extends w.notes.frames b.notes.frames = q.extends u in
      record {
        end = λ r. end_later link like r line more q.instances (s.net.end r);
        waiting = λ r. shows_more (OnControl (link.port r)) (other r) link more (s.net.waiting r);
        output = λ r. shows_more OnLink r link more (s.net.output r);
        unmade = q.unmade u;
      }

  -- the switch of any node
  pub quiet_site : (node : NodeId) (site : Site) (b : ActedSwitch) → site_at w node ≡ Some site → HasQueues site → IsMore (switching w site) b
      → ((role : Role) → node.0 ≡ (link.node role).0 → IsQuiet link role (switching w site) b) → WorldGoes link like (switched_world w site b) line
  quiet_site node site b found nine more quiet = by_node link like (WorldGoes link like (switched_world w site b) line) node w site line found s
      (λ role same is. at_end role is (quiet role same))
      (λ away. away_goes link like w (switched_world w site b) line (record site { switch = b.switch }) away s refl
      (goes_still link like (pieces_of (switched_world w site b) link s.end) line (away_net site b more)))
    where
      at_end : (role : Role) → s.end role ≡ site → IsQuiet link role (switching w site) b → WorldGoes link like (switched_world w site b) line
      at_end role is q = site_goes link like role w (switched_world w site b) line site (record site { switch = b.switch }) apart s is refl refl
          (goes_still link like (pieces_of (switched_world w site b) link (put_at role (record site { switch = b.switch }) s.end)) line
          (subst (λ (z : Site). Net link like (pieces_of (switched_world w z b) link (put_at role (record z { switch = b.switch }) s.end)) idle line) is
          (quiet_net role b (omega (arith, subst HasQueues (sym is) nine)) (subst (λ (z : Site). IsQuiet link role (switching w z) b) (sym is) q))))

  pub quiet_goes : (node : NodeId) (act : ActedSwitch → ActedSwitch) → ((site : Site) → site_at w node ≡ Some site → HasQueues site)
      → ((site : Site) → site_at w node ≡ Some site → IsMore (switching w site) (act (switching w site)))
      → ((site : Site) (role : Role) → site_at w node ≡ Some site → node.0 ≡ (link.node role).0 → IsQuiet link role (switching w site) (act (switching w site)))
      → WorldGoes link like (at_switch w node act) line
  quiet_goes node act nine more quiet = by (site_at w node) refl
    where
      by : (o : Option Site) → site_at w node ≡ o → WorldGoes link like (switch_acts w o act) line
      by None found = goes_self link like w line s
      by (Some site) found = quiet_site node site (act (switching w site)) found (nine site found) (more site found) (λ role same. quiet site role found same)

  always_quiet : (node : NodeId) (act : ActedSwitch → ActedSwitch) → ((site : Site) → site_at w node ≡ Some site → HasQueues site) → ((a : ActedSwitch) (role : Role) → IsQuiet link role a (act a))
      → WorldGoes link like (at_switch w node act) line
  always_quiet node act nine quiet = quiet_goes node act nine (λ site found. quiet_more link Downstream (switching w site) (act (switching w site)) (quiet (switching w site) Downstream))
      (λ site role found same. quiet (switching w site) role)

  -- *Ticks and restarts*
  pub switch_ticks : (node : NodeId) → ((site : Site) → site_at w node ≡ Some site → HasQueues site) → WorldGoes link like (at_switch w node tick_comes) line
  switch_ticks node nine = always_quiet node tick_comes nine (λ a role. tick_quiet link proper role a)

  restart_quiet : (a : ActedSwitch) (role : Role) → IsQuiet link role a (restarted a)
  restart_quiet a role =
      let c : Changed = all_ended (record { branches = a.switch.crossbar.branches; notes = a.notes }) (keys a.switch.crossbar.branches) in
      same link proper role a (restarted a) refl (cut_frames c.notes a.switch.reassembly ∙ all_frames (keys a.switch.crossbar.branches) (record { branches = a.switch.crossbar.branches; notes = a.notes }))
      (omega arith) refl

  pub switch_restarts : (node : NodeId) → ((site : Site) → site_at w node ≡ Some site → HasQueues site) → WorldGoes link like (at_switch w node restarted) line
  switch_restarts node nine = always_quiet node restarted nine restart_quiet
