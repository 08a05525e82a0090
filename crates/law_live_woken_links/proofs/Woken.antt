-- what is asked of a link and of the events of beats holds in a run, and of ticks what peace gives

use Rattle.std.proofs.Common.{◌≡◌, List, [], ◌∷◌, ◌++◌, append_assoc, Option, None, Some, refl, sym, ◌∙◌, ap, subst}
use Rattle.world_model.specs.Words.{NodeId, Down, Up, Out, Peer, IsSide, IsLinkPort, Linked, port_key, Policy, Topology, World, IsShaped, Site, site_at, world_after, next, past_of, IsEvent, IsRun, IsTame}
use Rattle.world_model.specs.World.{opened}
use Rattle.world_model.specs.network_model.declared.link.LinkEnd.{LinkEnd}
use Rattle.world_model.specs.network_model.declared.event.Event.{Event}
use Rattle.world_model.specs.network_model.declared.event.Event.TheVariants.{Inject, Carry, Lose, Tick, TickSwitch, Restart, RestartSwitch, Forge, Route}
use Rattle.live_model.specs.Beats.{Beat, events_in, behind}
use Rattle.law_live_rested.specs.law_run_facts.law_world_views.Between.{IsWorld, setups_of}
use Rattle.law_live_rested.specs.law_run_facts.law_world_views.Fronts.{HasAddresses}
use Rattle.law_live_rested.specs.law_run_facts.law_world_views.Kept.{Comes}
use Rattle.law_live_rested.specs.law_run_facts.law_controller_facts.Sound.{IsLinkedPort}
use Rattle.law_live_rested.specs.law_run_facts.law_world_views.Ready.{IsReadySite}
use Rattle.law_live_rested.specs.law_run_facts.law_world_views.law_controller_views.Ready.{IsReadyPort}
use Rattle.law_live_rested.specs.law_run_facts.law_world_views.law_controller_views.law_port_widths.Widths.{FitsStored as PortStored}
use Rattle.law_live_rested.specs.law_run_facts.law_shown_cells.Seen.{Extends}
use Rattle.law_live_rested.proofs.law_run_facts.law_port_facts.Keyed.{at_every}
use Rattle.law_live_rested.proofs.law_run_facts.Nodes.{runs_have_nodes}
use Rattle.law_live_rested.proofs.law_run_facts.Rooms.{runs_keep_nodes}
use Rattle.law_live_rested.proofs.law_run_facts.Steps.{front_run, runs_have_fronts}
use Rattle.law_live_rested.proofs.law_packet_worlds.Nets.{world_net}
use Rattle.law_live_rested.specs.law_true_runs.Runs.{HoldsInRuns, IsWhole}
use Rattle.law_live_rested.proofs.law_true_runs.Walk.{holds_at, comes_at}
use Rattle.law_live_rested.specs.law_live_hearing.Law.{world_at}
use Rattle.law_live_rested.proofs.law_live_hearing.Going.{after_all}
use Rattle.law_live_rested.proofs.law_live_control_links.Runs.{runs_are_steady}
use Rattle.law_live_rested.specs.law_live_worlds.Law.{Shows}
use Rattle.law_live_rested.specs.law_live_waking_links.Hellos.{FitsStored, HasFitSide}
use Rattle.law_live_rested.specs.law_live_waking_links.Law.{GoesByTable, TicksByTable}
use Rattle.law_live_rested.specs.law_live_waking_links.Beats.{IsPeacefulBeat, ArePeacefulBeats}
use Rattle.law_live_rested.proofs.law_live_waking_links.Beats.{links_wake}
use Rattle.law_live_rested.specs.law_live_woken.Law.{events_of}
use Rattle.law_live_rested.specs.law_live_tables.Law.{IsOrderly}
use Rattle.law_live_rested.proofs.law_live_tables.Ticks.{ticks_go_by_table, runs_are_orderly}
use Rattle.law_live_woken_links.specs.Law.{GoesOn, IsBeatInPeace, AreBeatsInPeace, RunsWakeLinks}

-- *At each event* an end goes by its table
table_at : (topology : Topology) (w : World) (end peer : LinkEnd) → IsLinkPort end.port → IsOrderly w end → (event : Event) → GoesOn topology w end peer event → GoesByTable topology w end peer event
table_at topology w end peer link orderly (Tick here) on = λ same. subst (λ (node : NodeId). TicksByTable topology w (Tick node) end) (sym (node_is same))
    (ticks_go_by_table topology w end link orderly (on same))
  where
    node_is : here.0 ≡ end.node.0 → here ≡ end.node
    node_is same = λ i. record { 0 = same i }
table_at topology w end peer link orderly (Inject here octets) on = on
table_at topology w end peer link orderly (Carry (Up here)) on = on
table_at topology w end peer link orderly (Carry (Down here)) on = on
table_at topology w end peer link orderly (Carry (Out here port)) on = on
table_at topology w end peer link orderly (Lose place) on = on
table_at topology w end peer link orderly (TickSwitch here) on = on
table_at topology w end peer link orderly (Restart here) on = on
table_at topology w end peer link orderly (RestartSwitch here) on = on
table_at topology w end peer link orderly (Forge place channel payload) on = on
table_at topology w end peer link orderly (Route here change) on = on

-- *What the sides know can be written*
abbrev Readies : World → Type 0
Readies w = (node : NodeId) (site : Site) → site_at w node ≡ Some site → IsReadySite site

fit_side : (w : World) (end : LinkEnd) → Readies w → HasFitSide w end
fit_side w end ready linked shows =
    let port = at_every port_key IsReadyPort end.port.0 shows.site.controller.ports linked (ready end.node shows.site shows.there).controller.ports shows.of_port in
    (port.fits.own, stored linked.port.adjacency.stored port.fits.stored)
  where
    stored : (o : Option Peer) → PortStored o → FitsStored o
    stored None fits = tt
    stored (Some peer) fits = fits

module _ (whole : HoldsInRuns IsWhole) (policy : Policy) (topology : Topology) (one far : LinkEnd) (link : IsLinkPort one.port) (far_link : IsLinkPort far.port) (addresses : HasAddresses topology) where
  -- *A beat*, and what comes behind it
  module _ (before later : List Event) (w : World) (now : world_at policy topology before ≡ w) (beat : Beat) (run : IsRun policy topology (before ++ (events_in w beat ++ later)))
      (tame : IsTame (past_of policy topology (before ++ (events_in w beat ++ later))).records) where
    abbrev all : List Event
    all = before ++ (events_in w beat ++ later)

    behind_front : (front : List Event) → world_at policy topology (before ++ front) ≡ world_after topology w front
    behind_front front = after_all topology (opened policy topology) before front ∙ ap (λ (u : World). world_after topology u front) now

    split : (front rest : List Event) (event : Event) → events_in w beat ≡ front ++ event ∷ rest → all ≡ (before ++ front) ++ event ∷ (rest ++ later)
    split front rest event e = ap (λ (es : List Event). before ++ (es ++ later)) e
        ∙ (ap (λ (es : List Event). before ++ es) (append_assoc front (event ∷ rest) later) ∙ sym (append_assoc before front (event ∷ (rest ++ later))))

    module _ (front rest : List Event) (event : Event) (e : events_in w beat ≡ front ++ event ∷ rest) where
      comes : Comes policy topology (before ++ front) event
      comes = comes_at policy topology addresses all (before ++ front) (rest ++ later) event run tame (split front rest event e)

      world : IsWorld (past_of policy topology (before ++ front))
      world = (holds_at policy topology addresses IsWhole whole all (before ++ front) (event ∷ (rest ++ later)) run tame (split front rest event e)).world

      ready : Readies (world_after topology w front)
      ready = subst Readies (behind_front front) world.ready

      orderly : (end : LinkEnd) → IsOrderly (world_after topology w front) end
      orderly end = subst (λ (u : World). IsOrderly u end) (behind_front front)
          (runs_are_orderly policy topology (before ++ front) addresses (runs_have_fronts policy topology (before ++ front) event comes).run world end)

    shaped : IsShaped w
    shaped =
        let begun : IsRun policy topology before = front_run policy topology before (events_in w beat ++ later) run in
        subst IsShaped now (world_net policy topology before (runs_have_nodes policy topology before addresses begun) (runs_keep_nodes policy topology before begun)).shaped

    pub peaceful_beat : IsBeatInPeace topology w one far beat → IsPeacefulBeat topology w one far beat
    peaceful_beat peace = record {
      is_beat = peace.is_beat;
      shaped = shaped;
      peaceful = λ front rest event e. (let p = peace.peace front rest event e in record {
        within = λ place same. subst (IsEvent topology (world_at policy topology (before ++ front))) same ((comes front rest event e).run.each (before ++ front) [] event refl).meant;
        order = p.order;
        order_back = p.order_back;
        fits = fit_side (world_after topology w front) one (ready front rest event e);
        far_fits = fit_side (world_after topology w front) far (ready front rest event e);
        named = p.named;
        named_back = p.named_back;
        stays = subst (λ (u : World). Extends u.notes.frames (next topology u event).notes.frames) (behind_front front)
            (runs_are_steady policy topology (before ++ front) event (comes front rest event e) (world front rest event e) one.node).1.stays;
        near = table_at topology (world_after topology w front) one far link (orderly front rest event e one) event p.near;
        far_end = table_at topology (world_after topology w front) far one far_link (orderly front rest event e far) event p.far_end;
      });
    }

  peaceful_beats : (beats : List Beat) (before : List Event) (w : World) → world_at policy topology before ≡ w → IsRun policy topology (before ++ events_of topology w beats)
      → IsTame (past_of policy topology (before ++ events_of topology w beats)).records → AreBeatsInPeace topology w one far beats → ArePeacefulBeats topology w one far beats
  peaceful_beats [] before w now run tame peace = tt
  peaceful_beats (beat ∷ beats) before w now run tame peace =
      let later : List Event = events_of topology (behind topology w beat) beats in
      let joined : before ++ (events_in w beat ++ later) ≡ (before ++ events_in w beat) ++ later = sym (append_assoc before (events_in w beat) later) in (
        record {
          peaceful = peaceful_beat before later w now beat run tame peace.0;
          empties = peace.0.empties;
          empties_back = peace.0.empties_back;
          clear = peace.0.clear;
          far_clear = peace.0.far_clear;
        },
        peaceful_beats beats (before ++ events_in w beat) (behind topology w beat) (behind_front before later w now beat run tame (events_in w beat))
            (subst (IsRun policy topology) joined run) (subst (λ (es : List Event). IsTame (past_of policy topology es).records) joined tame) peace.1,
      )

-- *A side of a port of a run* knows a peer just where its state says so
side_in_run : (policy : Policy) (topology : Topology) (events : List Event) → HasAddresses topology → IsRun policy topology events → (end : LinkEnd) (linked : Linked)
    → Shows (world_at policy topology events) end linked → IsSide linked.port.adjacency
side_in_run policy topology events addresses run end linked shows =
    (at_every port_key (IsLinkedPort (setups_of shows.site.controller)) end.port.0 shows.site.controller.ports linked
    (runs_have_nodes policy topology events addresses run end.node shows.site shows.there).conduct.sound.ports.each shows.of_port).side

pub links_wake_in_runs : HoldsInRuns IsWhole → RunsWakeLinks
links_wake_in_runs whole policy topology before one far beats given link far_link apart still peace enough =
    let run : IsRun policy topology before = front_run policy topology before (events_of topology (world_at policy topology before) beats) given.run in
    links_wake topology (world_at policy topology before) one far beats given.run.topology_is apart
    (record {
      linked = still.linked;
      far_linked = still.far_linked;
      shows = still.shows;
      far_shows = still.far_shows;
      side = record { is_side = side_in_run policy topology before given.addresses run one still.linked still.shows; clear = still.clear };
      far_side = record { is_side = side_in_run policy topology before given.addresses run far still.far_linked still.far_shows; clear = still.far_clear };
      there = still.there;
      back = still.back;
    })
    (peaceful_beats whole policy topology one far link far_link given.addresses beats before (world_at policy topology before) refl given.run given.tame peace) enough
