-- the laws that are called, put together

use Rattle.std.proofs.Common.{[], ◌∷◌}
use Rattle.world_model.specs.Words.{past_of}
use Rattle.law_run_facts.specs.law_world_views.Between.{HasAllShapes, HasAllPortsUp, HasAllNumbers, HasAllReady, HasAllMade, HasAllLabels, HasAllInputs, HasAllUsers, HasAllCleared, HasAllJoins, HasAllLedOnce}
use Rattle.law_run_facts.specs.law_world_views.Kept.{Keeps}
use Rattle.law_label_worlds.specs.law_pairs.Past.{RunsMakeNoPairs}
use Rattle.law_label_worlds.specs.law_pairs.Asked.{AnswersSettle}
use Rattle.law_ownership.proofs.Own.{own_channels}
use Rattle.law_true_runs.specs.Runs.{IsWhole, BindsUnusedInRuns}
use Rattle.law_true_runs.proofs.Fronts.{front_run}
use Rattle.law_true_runs.proofs.Harmony.{harmony_kept, harmony_begins}
use Rattle.law_true_runs.proofs.Kept.{whole_of, whole_kept, whole_begins}
use Rattle.law_true_runs.proofs.Reading.{own_ways}
use Rattle.law_true_runs.proofs.Walk.{holds_in_runs}
use Rattle.law_true_runs.proofs.law.runs_are_whole.Goals as goal

pub returns : goal.returns
returns c =
    let steady = c.nodes_are_steady.ensures in
    let made : Keeps HasAllMade = c.frames_are_made.ensures.events steady.sites steady.room steady.fronts steady.steps in
    let ready : Keeps HasAllReady = c.frames_are_made.ensures.ready steady.sites steady.room steady.fronts steady.steps in
    let pairs : RunsMakeNoPairs = c.runs_make_no_pairs.ensures steady.sites steady.room steady.fronts steady.steps made in
    let settled : AnswersSettle = c.answers_settle_joins.ensures made in
    let shapes : Keeps HasAllShapes = c.inputs_are_kept.ensures.shapes made in
    let unused : BindsUnusedInRuns =
    λ policy topology before event comes w way label flow has on.
    c.labels_are_bound_unused.ensures.unused steady.sites steady.fronts steady.steps policy topology before event comes w.world
    (λ other number is. own_channels (past_of policy topology before)
    (own_ways steady.sites c.labels_are_owned.ensures.ways policy topology before
    (front_run policy topology before (event ∷ []) comes.run) comes.addresses w) other is number)
    way label flow has on in
    record {
      whole =
          holds_in_runs IsWhole
          (whole_kept (record {
            shapes = whole_of HasAllShapes shapes;
            ports_up = whole_of HasAllPortsUp (c.inputs_are_kept.ensures.ports_up made);
            numbers = whole_of HasAllNumbers steady.numbers;
            ready = whole_of HasAllReady ready;
            made = whole_of HasAllMade made;
            labels = whole_of HasAllLabels (c.labels_are_followed.ensures.events pairs settled);
            inputs = whole_of HasAllInputs (c.inputs_are_kept.ensures.inputs made);
            users = whole_of HasAllUsers c.users_are_kept.ensures.users;
            cleared = whole_of HasAllCleared c.users_are_kept.ensures.cleared;
            joins = whole_of HasAllJoins (c.joins_are_kept.ensures.joins pairs);
            once = whole_of HasAllLedOnce (c.joins_are_kept.ensures.once pairs);
            hops = λ policy topology before event comes w. c.joins_lead_on.ensures.events pairs settled policy topology before event comes w.world
                (unused policy topology before event comes w);
            passed = λ policy topology before event comes w. c.cells_have_passed.ensures.events shapes pairs policy topology before event comes w.world w.requests;
            packets = λ policy topology before event comes w. c.packets_are_kept.ensures.events policy topology before event comes w.world w.channels
                (unused policy topology before event comes w);
            places = λ policy topology before event comes w. c.control_frames_have_places.ensures.events policy topology before event comes w.world w.places;
            harmony = harmony_kept steady.steps c.nothing_is_refused.ensures.events c.labels_are_never_disowned.ensures.events;
          }))
          (whole_begins (record {
            shapes = c.inputs_are_kept.ensures.shapes_begin;
            ports_up = c.inputs_are_kept.ensures.ports_up_begin;
            numbers = steady.numbers_begin;
            ready = c.frames_are_made.ensures.ready_opening steady.sites steady.room;
            made = c.frames_are_made.ensures.opening;
            labels = c.labels_are_followed.ensures.opening;
            inputs = c.inputs_are_kept.ensures.inputs_begin;
            users = c.users_are_kept.ensures.users_begin;
            cleared = c.users_are_kept.ensures.cleared_begin;
            joins = c.joins_are_kept.ensures.joins_begin;
            once = c.joins_are_kept.ensures.once_begins;
            hops = c.joins_lead_on.ensures.opening;
            passed = c.cells_have_passed.ensures.opening;
            requests = c.cells_have_passed.ensures.requests;
            packets = c.packets_are_kept.ensures.opening;
            places = c.control_frames_have_places.ensures.opening;
            harmony = harmony_begins c.labels_are_never_disowned.ensures.opening;
          }));
      wired = c.labels_are_bound_unused.ensures.wired steady.sites steady.fronts steady.steps;
      unused = unused;
    }
