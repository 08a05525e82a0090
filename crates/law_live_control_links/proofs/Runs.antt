-- what is asked of a node and of an event holds in a run

use Rattle.std.proofs.Common.{◌≡◌, ℕ, false, List, [], ◌∷◌, ◌++◌, Option, None, Some, sym, ◌∙◌, ap, subst, map}
use Rattle.std.specs.Prelude.{◌==◌}
use Rattle.std.specs.Option.{option_map}
use Rattle.std.specs.FinMap.{get}
use Rattle.world_model.specs.Words.{End, Up, IsLinkPort, IsTame, Linked, Setup, World, Site, Past, default_channel, same_channel, site_at, next, past_of, frames_of}
use Rattle.world_model.specs.crossbar_model.declared.branch.Branch.{Branch}
use Rattle.law_running_worlds.specs.law_input_steps.Hearing.{LeadsAway}
use Rattle.law_run_facts.specs.Steps.{HasFront, IsStep}
use Rattle.law_run_facts.proofs.Nodes.{runs_have_nodes}
use Rattle.law_run_facts.proofs.Steps.{runs_have_fronts, events_are_steps}
use Rattle.law_run_facts.proofs.Grown.{frames_stay}
use Rattle.law_running_worlds.specs.law_input_events.Coming.{IsSteadySite}
use Rattle.law_running_worlds.specs.law_shown_cells.Seen.{Extends}
use Rattle.law_running_worlds.specs.ordered_lists.Ordered.{Every}
use Rattle.law_running_worlds.proofs.law_shown_cells.Frames.{differ}
use Rattle.law_running_worlds.proofs.Sites.{steady_site}
use Rattle.law_running_worlds.proofs.Worlds.{events_true}
use Rattle.law_live_control.proofs.Walks.{IsLinked}
use Rattle.law_live_control_links.specs.Law.{RunsAreSteady}

-- the ports are of links
links_of : (ports : List Linked) → Every (λ (setup : Setup). IsLinkPort setup.port) (map (λ (linked : Linked). linked.setup) ports) → Every IsLinked ports
links_of [] h = tt
links_of (linked ∷ ports) h = (h.0.0, links_of ports h.1)

-- branches lead away from the GSMP channel
apart_by : (o : Option Branch) (output : End) → LeadsAway o → option_map (λ (b : Branch). b.output) o ≡ Some output → output.port.0 ≡ 0 → same_channel output.channel default_channel ≡ false
apart_by None output away e home = absurd (cc e)
apart_by (Some b) output away e home =
    let same : b.output ≡ output = cc in
    ap (λ (x : End). same_channel x.channel default_channel) (sym same)
    ∙ differ b.output.channel default_channel (away (ap (λ (x : End). x.port.0 == 0) same ∙ ap (λ (n : ℕ). n == 0) home))

pub runs_are_steady : RunsAreSteady
runs_are_steady policy topology before event comes world node =
    let past : Past = past_of policy topology before in
    let front : HasFront policy topology before event = runs_have_fronts policy topology before event comes in
    let step : IsStep past (past_of policy topology (before ++ event ∷ [])) event = events_are_steps policy topology before event in
    let tame : IsTame (next topology past.now event).notes.records = subst (λ (w : World). IsTame w.notes.records) step.now front.new_tame in
    let stays : Extends (frames_of past) (frames_of (past_of policy topology (before ++ event ∷ []))) = frames_stay policy topology before event comes world in (
      record {
        topology_is = comes.run.topology_is;
        links = λ site found. (let s : IsSteadySite node site = steady site found in record { ports = links_of site.controller.ports (subst (Every (λ (setup : Setup). IsLinkPort setup.port)) (sym s.steady.sound.ports.same) s.steady.links); routes = s.by_links });
        apart = λ site input output found leads home. apart_by (get site.switch.crossbar.branches input) output ((steady site found).away input) leads home;
        marks = λ cell among none. world.numbers.counted (Up node) cell among none;
      },
      record {
        stays = subst (λ (w : World). Extends (frames_of past) w.notes.frames) step.now stays;
        chains = events_true policy topology before event tame;
      },
    )
  where
    steady : (site : Site) → site_at (past_of policy topology before).now node ≡ Some site → IsSteadySite node site
    steady site found = steady_site policy (past_of policy topology before) node site found
        (runs_have_nodes policy topology before comes.addresses (runs_have_fronts policy topology before event comes).run node site found) (world.ready node site found) (world.shapes node site found)
