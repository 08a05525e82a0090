-- in every run before the first forged frame and the first chance: a cell that comes to a controller can be followed there, and
-- a tick leads each label's line

use Rattle.std.proofs.Common.{◌≡◌, ◌<◌, ◌+◌, List, [], ◌∷◌, ◌++◌, Option, Some, refl, sym, ◌∙◌, ap, subst, arith, ◌⊎◌, inl, inr}
use Rattle.std.proofs.lemmas.List.{length-map}
use Rattle.std.specs.Prelude.{◌^◌, not}
use Rattle.std.specs.Option.{option_map_or}
use Rattle.world_model.specs.Words.{NodeId, Up, Policy, label_end, taker_of, reassembly_of, Topology, IsEvent, World, Site, site_at, queue_in, queue_at, next, put_away, Past, past_of, IsRun, IsTame}
use Rattle.law_label_events.specs.law_label_line.Cells.{Upstream}
use Rattle.world_model.specs.Cells.{Taker}
use Rattle.world_model.specs.Ticks.{ticks}
use Rattle.law_label_events.specs.law_controller_facts.Sound.{linked_setup}
use Rattle.law_label_events.proofs.law_controller_facts.Drawn.{ticks_few}
use Rattle.law_label_events.specs.law_arrival_views.Cells.{PassesByRight, EndsFrame}
use Rattle.world_model.specs.network_model.declared.event.Event.{Event}
use Rattle.world_model.specs.network_model.declared.event.Event.TheVariants.{Carry, Tick}
use Rattle.world_model.specs.World.{at_controller, opened}
use Rattle.law_label_events.specs.law_world_views.Pairs.{Pairs, IsLike}
use Rattle.law_pairs.specs.Events.{EntersAt}
use Rattle.law_label_events.specs.law_world_views.Ready.{setups_of}
use Rattle.law_label_events.specs.law_world_views.Shown.{WorldGoes, acting}
use Rattle.law_label_events.specs.law_world_views.Between.{IsWorld}
use Rattle.law_label_events.specs.law_world_views.Kept.{Comes}
use Rattle.law_run_facts.specs.Nodes.{IsNodeOfRun, RunsHaveNodes, RunsHaveRoom}
use Rattle.law_run_facts.proofs.Steps.{front_run, runs_have_fronts}
use Rattle.law_running_worlds.proofs.Worlds.{events_true}
use Rattle.law_label_events.proofs.Acts.{away_shows, tallied_goes}
use Rattle.law_label_worlds.specs.Conduct.{now_of, then_of, CellsArrive, TicksLead}
use Rattle.law_label_worlds.proofs.Ends.{proper, apart, fits}
use Rattle.law_label_worlds.specs.Enters.{IsTickJoin}
use Rattle.law_pairs.specs.Asked.{AnswersSettle}
use Rattle.law_pairs.specs.Past.{RunsMakeNoPairs}
use Rattle.law_label_worlds.proofs.Arriving.{arrives}
use Rattle.law_label_worlds.proofs.Ticking.{Ticks, tick_goes}
use Rattle.law_running_worlds.proofs.law_causes.Runs.{after_one}

-- *Of a run*
module _ (nodes : RunsHaveNodes) (room : RunsHaveRoom) (policy : Policy) (topology : Topology) (before : List Event) (event : Event) (comes : Comes policy topology before event)
    (world : IsWorld (past_of policy topology before)) where
  abbrev past : Past
  past = past_of policy topology before

  run : IsRun policy topology before
  run = front_run policy topology before (event ∷ []) comes.run

  node_is : (node : NodeId) (site : Site) → site_at past.now node ≡ Some site → IsNodeOfRun policy past node site
  node_is node site found = nodes policy topology before comes.addresses run node site found

  left : past.now.numbers.instances + 20 < 2 ^ 32
  left = (room policy topology before run).left.instances

  meant : IsEvent topology past.now event
  meant = (comes.run.each before [] event refl).meant

  then_is : then_of policy topology before event ≡ next topology past.now event
  then_is = after_one topology (opened policy topology) before event

  tame : IsTame (next topology past.now event).notes.records
  tame = subst (λ (v : World). IsTame v.notes.records) then_is (runs_have_fronts policy topology before event comes).new_tame

  ticks_small : (node : NodeId) (site : Site) → site_at past.now node ≡ Some site → Ticks (put_away past.now) site
  ticks_small node site found = record {
    setups = setups_of site.controller;
    ready = (world.ready node site found).controller;
    small = omega (arith, (ticks_few (acting (put_away past.now) site)).few, left, length-map site.controller.ports linked_setup, (node_is node site found).ports.few);
  }

-- *Cells*
pub cells_arrive : RunsHaveNodes → RunsHaveRoom → AnswersSettle → CellsArrive
cells_arrive nodes room settle policy topology before node comes world link of site cell cells found front =
    let event : Event = Carry (Up node) in
    let is : IsNodeOfRun policy (past_of policy topology before) node site = node_is nodes room policy topology before event comes world node site found in
    arrives (past_of policy topology before) world node site cell cells found front (meant nodes room policy topology before event comes world) is.ports.few
    (left nodes room policy topology before event comes world) is.conduct.bound passes
    link (proper topology comes.run.topology_is link of) (fits topology comes.run.topology_is link of comes.addresses) (IsLike (then_of policy topology before event) link)
    (λ here. settle policy topology before node comes world link of here site cell cells found front)
  where
    queue : queue_at (now_of policy topology before) (Up node) ≡ cell ∷ cells
    queue = ap (λ (o : Option Site). option_map_or (λ (s : Site). queue_in s (Up node)) o []) found ∙ front

    passes : (taker : Taker) → taker_of site.controller cell.header.channel ≡ Some taker → EndsFrame (acting (put_away (now_of policy topology before)) site) (reassembly_of site.controller taker) cell
        → PassesByRight (acting (put_away (now_of policy topology before)) site) ((reassembly_of site.controller taker).chain ++ cell ∷ [])
    passes taker takes whole = (events_true policy topology before (Carry (Up node)) (tame nodes room policy topology before (Carry (Up node)) comes world)).at_controller node site taker cell cells refl queue found takes
        (record { listens = whole.gathers; slot_is = ap not whole.slot; short = whole.short; last = whole.last })

-- *Ticks*
pub ticks_lead : RunsHaveNodes → RunsHaveRoom → RunsMakeNoPairs → TicksLead
ticks_lead nodes room old policy topology before node comes world link of line shows =
    let event : Event = Tick node in
    let w : World = now_of policy topology before in
    let like : Type 0 = IsLike w link in
    let more : Type 0 = IsLike (then_of policy topology before event) link in
    subst (λ (v : World). WorldGoes link more v line) (sym (then_is nodes room policy topology before event comes world))
    (tallied_goes link more (put_away w) (at_controller (put_away w) node ticks) line
    (tick_goes link (proper topology comes.run.topology_is link of) (fits topology comes.run.topology_is link of comes.addresses) (apart topology comes.run.topology_is link of) like more
    (put_away w) line (away_shows link like w line shows) node (λ site found. ticks_small nodes room policy topology before event comes world node site found) joined))
  where
    joined : IsLike (then_of policy topology before (Tick node)) link → IsLike (now_of policy topology before) link ⊎ IsTickJoin link (put_away (now_of policy topology before)) node
    joined may = by (old policy topology before (Tick node) comes world (link.node Upstream) may.input (label_end (link.port Upstream) link.label) may.above
        ((proper topology comes.run.topology_is link of).above Upstream) may.pair)
      where
        by : Pairs (now_of policy topology before) (link.node Upstream) may.input (label_end (link.port Upstream) link.label)
            ⊎ EntersAt (put_away (now_of policy topology before)) (Tick node) (link.node Upstream) may.input (label_end (link.port Upstream) link.label)
            → IsLike (now_of policy topology before) link ⊎ IsTickJoin link (put_away (now_of policy topology before)) node
        by (inl pair) = inl (record { input = may.input; above = may.above; pair = pair })
        by (inr entered) = inr (record { here = entered.0; site = entered.1.site; found = entered.1.found; enters = record { input = may.input; enters = entered.1.enters.enters } })
