-- the line of each label of each link is kept by every event

use Rattle.std.proofs.Common.{◌≡◌, ◌<◌, List, [], ◌++◌, refl, sym, ◌∙◌, ap, subst}
use Rattle.world_model.specs.Words.{NodeId, Down, Up, Out, End, Policy, label_end, Topology, IsTopology, IsEvent, World, next, Past, past_of, IsTame}
use Rattle.law_label_events.specs.law_label_line.Cells.{Upstream}
use Rattle.law_label_events.specs.law_label_line.Line.{Line}
use Rattle.law_label_events.specs.law_label_line.Moves.{run}
use Rattle.law_label_events.specs.law_label_line.Law.{IsReached}
use Rattle.world_model.specs.network_model.declared.event.Event.{Event}
use Rattle.world_model.specs.network_model.declared.event.Event.TheVariants.{Inject, Carry, Lose, Tick, TickSwitch, Restart, RestartSwitch, Forge, Route}
use Rattle.world_model.specs.World.{opened}
use Rattle.law_label_events.specs.law_port_views.Link.{LinkLabel}
use Rattle.law_label_events.proofs.law_port_views.Reach.{run_join}
use Rattle.law_label_events.specs.law_world_views.Pairs.{Pairs, IsLike}
use Rattle.law_label_events.specs.law_world_views.Shown.{WorldGoes}
use Rattle.law_label_events.specs.law_world_views.Between.{EachSite, IsWorld, IsLinkLabel, HasLabelLine, HasAllLabels}
use Rattle.law_label_events.specs.law_world_views.Kept.{Comes, Keeps, behind}
use Rattle.law_label_events.proofs.law_world_views.Sites.{world_less}
use Rattle.law_label_events.proofs.Next.{comes_up}
use Rattle.law_label_worlds.specs.Conduct.{now_of, then_of, CellsArrive, TicksLead, PairsAreOld}
use Rattle.law_label_worlds.proofs.Ends.{proper, apart}
use Rattle.law_run_facts.proofs.Forged.{none_forged}
use Rattle.law_label_worlds.proofs.Events.{IsPlain, follows_lose, follows_down, follows_over, follows_inject, follows_restart, follows_route, follows_switch, follows_switch_restart}
use Rattle.law_running_worlds.proofs.law_causes.Runs.{after_one}

-- *The sites* before an event, and that no frame is forged in it
abbrev pub SitesArePlain : Type 0
SitesArePlain = (policy : Policy) (topology : Topology) (before : List Event) (event : Event) → Comes policy topology before event
    → EachSite (now_of policy topology before) (λ node site. IsPlain site)

abbrev pub EventsAreTame : Type 0
EventsAreTame = (policy : Policy) (topology : Topology) (before : List Event) (event : Event) → Comes policy topology before event
    → IsTame (then_of policy topology before event).notes.records

-- a line that moves lead to, and then others
reached_on : (line after : Line) → IsReached line → (moves : _) → run line moves ≡ after → IsReached after
reached_on line after r moves is = record {
  downstream = r.downstream;
  upstream = r.upstream;
  fresh = r.fresh;
  downstream_drawn = r.downstream_drawn;
  upstream_drawn = r.upstream_drawn;
  moves = r.moves ++ moves;
  is = run_join _ r.moves moves ∙ (ap (λ (z : Line). run z moves) r.is ∙ is);
}

module _ (plain : SitesArePlain) (tame : EventsAreTame) (old : PairsAreOld) (arrive : CellsArrive) (ticks : TicksLead)
    (policy : Policy) (topology : Topology) (before : List Event) (link : LinkLabel) (of : IsLinkLabel topology link) where
  abbrev past : Past
  past = past_of policy topology before

  then_is : (event : Event) → then_of policy topology before event ≡ next topology past.now event
  then_is event = after_one topology (opened policy topology) before event

  abbrev LineThen : Event → Type 0
  LineThen event = HasLabelLine (behind policy topology before event) link

  lined : (event : Event) (line : Line) → IsReached line → WorldGoes link (IsLike (then_of policy topology before event) link) (then_of policy topology before event) line → LineThen event
  lined event line reached g = record { line = g.after; reached = reached_on line g.after reached g.moves g.is; shows = g.shows }

  module _ (event : Event) (comes : Comes policy topology before event) (world : IsWorld past) where
    is : IsTopology topology
    is = comes.run.topology_is

    -- what may be joined behind the event might be before it
    fewer : ((node : NodeId) (input output : End) → 0 < input.port.0 → 0 < output.port.0 → Pairs (then_of policy topology before event) node input output → Pairs past.now node input output)
        → IsLike (then_of policy topology before event) link → IsLike past.now link
    fewer less like = record {
      input = like.input;
      above = like.above;
      pair = less (link.node Upstream) like.input (label_end (link.port Upstream) link.label) like.above ((proper topology is link of).above Upstream) like.pair;
    }

    less_then : ((node : NodeId) (input output : End) → 0 < input.port.0 → 0 < output.port.0 → Pairs (then_of policy topology before event) node input output → Pairs past.now node input output)
        → (line : Line) → IsReached line → WorldGoes link (IsLike past.now link) (next topology past.now event) line → LineThen event
    less_then less line reached g = lined event line reached
        (subst (λ (v : World). WorldGoes link (IsLike (then_of policy topology before event) link) v line) (sym (then_is event))
        (record {
          moves = g.moves;
          after = g.after;
          is = g.is;
          shows = world_less link (IsLike (then_of policy topology before event) link) (IsLike past.now link) (next topology past.now event) g.after (fewer less) g.shows;
        }))

  -- a cell that comes to a controller
  up : (node : NodeId) → Comes policy topology before (Carry (Up node)) → IsWorld past → HasLabelLine past link → LineThen (Carry (Up node))
  up node comes world l =
      let event : Event = Carry (Up node) in
      let like : Type 0 = IsLike (then_of policy topology before event) link in
      lined event l.line l.reached
      (subst (λ (v : World). WorldGoes link like v l.line) (sym (then_is event))
      (comes_up like topology link past.now l.line (proper topology (is event comes world) link of) (apart topology (is event comes world) link of)
      (world_less link like (IsLike past.now link) past.now l.line (fewer event comes world (old policy topology before event comes world tt)) l.shows)
      node (λ site found. (plain policy topology before event comes node site found).nine)
      (λ site cell cells found first. arrive policy topology before node comes world link of site cell cells found first)))

  kept : (event : Event) → Comes policy topology before event → IsWorld past → IsEvent topology past.now event → HasLabelLine past link → LineThen event
  kept (Inject node octets) comes world meant l = less_then (Inject node octets) comes world (old policy topology before (Inject node octets) comes world tt) l.line l.reached
      (follows_inject past (is _ comes world) world (plain policy topology before _ comes) link of l.line l.shows node octets)
  kept (Carry (Down node)) comes world meant l = less_then (Carry (Down node)) comes world (old policy topology before (Carry (Down node)) comes world tt) l.line l.reached
      (follows_down past (is _ comes world) world (plain policy topology before _ comes) link of l.line l.shows node)
  kept (Carry (Up node)) comes world meant l = up node comes world l
  kept (Carry (Out node port)) comes world meant l = less_then (Carry (Out node port)) comes world (old policy topology before (Carry (Out node port)) comes world tt) l.line l.reached
      (follows_over past (is _ comes world) world (plain policy topology before _ comes) link of l.line l.shows node port meant)
  kept (Lose place) comes world meant l = less_then (Lose place) comes world (old policy topology before (Lose place) comes world tt) l.line l.reached
      (follows_lose past (is _ comes world) world (plain policy topology before _ comes) link of l.line l.shows place meant)
  kept (Tick node) comes world meant l = lined (Tick node) l.line l.reached (ticks policy topology before node comes world link of l.line l.shows)
  kept (TickSwitch node) comes world meant l = less_then (TickSwitch node) comes world (old policy topology before (TickSwitch node) comes world tt) l.line l.reached
      (follows_switch past (is _ comes world) world (plain policy topology before _ comes) link of l.line l.shows node)
  kept (Restart node) comes world meant l = less_then (Restart node) comes world (old policy topology before (Restart node) comes world tt) l.line l.reached
      (follows_restart past (is _ comes world) world (plain policy topology before _ comes) link of l.line l.shows node)
  kept (RestartSwitch node) comes world meant l = less_then (RestartSwitch node) comes world (old policy topology before (RestartSwitch node) comes world tt) l.line l.reached
      (follows_switch_restart past (is _ comes world) world (plain policy topology before _ comes) link of l.line l.shows node)
  kept (Forge place channel payload) comes world meant l = absurd (none_forged topology past.now place channel payload
      (subst (λ (v : World). IsTame v.notes.records) (then_is (Forge place channel payload)) (tame policy topology before (Forge place channel payload) comes)))
  kept (Route node change) comes world meant l = less_then (Route node change) comes world (old policy topology before (Route node change) comes world tt) l.line l.reached
      (follows_route past (is _ comes world) world (plain policy topology before _ comes) link of l.line l.shows node change)

-- an event comes at the end of a run
meant_by : (policy : Policy) (topology : Topology) (before : List Event) (event : Event) → Comes policy topology before event → IsEvent topology (now_of policy topology before) event
meant_by policy topology before event comes = (comes.run.each before [] event refl).meant

pub labels_kept : SitesArePlain → EventsAreTame → PairsAreOld → CellsArrive → TicksLead → Keeps HasAllLabels
labels_kept plain tame old arrive ticks policy topology before event comes world link of =
    kept plain tame old arrive ticks policy topology before link of event comes world (meant_by policy topology before event comes) (world.labels link of)
