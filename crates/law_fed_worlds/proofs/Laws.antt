-- the worlds of a run are fed once, where nothing more is asked than what is so of each

use Rattle.std.proofs.Common.{◌≡◌, List, [], ◌∷◌, ◌++◌, Option, None, Some, refl, sym, ◌∙◌, ap, subst, append_assoc}
use Rattle.std.specs.Option.{option_and_then}
use Rattle.std.specs.FinMap.{get}
use Rattle.law_branch_shapes.specs.world_model.Words.{Down, End, IsLinkPort, Setup, Controller, setup_of, Topology, World, Site, site_key, site_at, queue_at, next, worlds_from, world_after, records_of, IsTame}
use Rattle.law_branch_shapes.specs.world_model.crossbar_model.declared.branch.Branch.{Branch}
use Rattle.law_branch_shapes.proofs.ordered_lists.Every.{every_mapped}
use Rattle.law_branch_shapes.proofs.law_port_facts.Keyed.{at_every}
use Rattle.law_branch_shapes.proofs.law_controller_facts.Laws.{always_sound}
use Rattle.law_branch_shapes.specs.world_model.network_model.declared.event.Event.{Event}
use Rattle.law_branch_shapes.specs.world_model.World.{opened}
use Rattle.law_branch_shapes.proofs.law_lifetimes.Opened.{IsFed, opening_fed}
use Rattle.law_branch_shapes.proofs.law_lifetimes.Runs.{run_fed}
use Rattle.law_branch_shapes.specs.law_world_views.Between.{setups_of}
use Rattle.law_branch_shapes.specs.law_causes.Feeding.{IsLed, branch_at}
use Rattle.law_branch_shapes.specs.law_causes.Law.{BreaksHaveCauses}
use Rattle.law_branch_shapes.proofs.law_causes.Runs.{records_then, first_tame}
use Rattle.law_branch_shapes.proofs.Runs.{runs_keep}
use Rattle.law_fed_worlds.specs.Feeding.{FedInRuns, CausesInRuns}
use Rattle.law_fed_worlds.proofs.Led.{AreLinks, node_led}

site_links : (site : Site) → IsFed site → AreLinks (setups_of site.controller)
site_links site fed = subst (λ (c : Controller). AreLinks (setups_of c)) fed.now
    (subst AreLinks (sym (always_sound fed.o fed.inputs fed.is.differ).ports.same)
    (every_mapped (setup_of fed.o.node fed.o.address fed.o.timers fed.o.policy) (λ (setup : Setup). IsLinkPort setup.port) fed.o.ranges fed.is.links))

pub fed_in_runs : FedInRuns
fed_in_runs policy topology events shapes feeders node = by (site_at w node) refl
  where
    w : World
    w = world_after topology (opened policy topology) events

    by : (o : Option Site) → site_at w node ≡ o → IsLed (branch_at w node) (queue_at w (Down node))
    by None found = record {
      down = λ input b e zero. absurd (never input b e);
      up = λ input b e some zero. absurd (never input b e);
      across = λ input b e some other. absurd (never input b e);
      once = λ one other first second f s some more same. absurd (never one first f);
    }
      where
        never : (input : End) (b : Branch) → branch_at w node input ≡ Some b → ⊥
        never input b e = cc (sym (ap (option_and_then (λ (x : Site). get x.switch.crossbar.branches input)) found), e)
    by (Some site) found =
        node_led w node site found (site_links site (at_every site_key IsFed node.0 w.sites site (run_fed topology events (opened policy topology) (opening_fed policy topology)) found))
        (shapes node site found) (feeders node)

-- *A run without chances* has none in each of its events
each_tame : (t : Topology) (before : List Event) (w : World) (after : List Event) (event : Event) → IsTame (records_of (worlds_from t w (before ++ event ∷ after))) → IsTame (next t (world_after t w before) event).notes.records
each_tame t [] w after event tame = first_tame t (next t w event) after (records_then w (worlds_from t (next t w event) after) tame).1
each_tame t (first ∷ before) w after event tame = each_tame t before (next t w first) after event (records_then w (worlds_from t (next t w first) (before ++ event ∷ after)) tame).1

pub causes_in_runs : BreaksHaveCauses → CausesInRuns
causes_in_runs breaks policy topology events is tame worlds = breaks policy topology events is tame
    (λ before after whole. fed_in_runs policy topology before
    (runs_keep policy topology before is.topology_is
    (λ front rest event here. each_tame topology front (opened policy topology) (rest ++ after) event
    (subst (λ (es : List Event). IsTame (records_of (worlds_from topology (opened policy topology) es))) (further before after whole front rest event here) tame))
    (λ front rest here. (worlds front (rest ++ after) (whole ∙ ap (λ (es : List Event). es ++ after) here ∙ append_assoc front rest after)).copies))
    (worlds before after whole).feeders)
  where
    further : (before after : List Event) → events ≡ before ++ after → (front rest : List Event) (event : Event) → before ≡ front ++ event ∷ rest → events ≡ front ++ event ∷ (rest ++ after)
    further before after whole front rest event here = whole ∙ ap (λ (es : List Event). es ++ after) here ∙ append_assoc front (event ∷ rest) after
