-- the laws that are called, put together

use Rattle.law_true_runs.proofs.Reading.{runs_are_true}
use Rattle.law_true_runs.proofs.law.runs_are_true.Goals as goal

pub returns : goal.returns
returns c =
    let steady = c.nodes_are_steady.ensures in
    let whole = c.runs_are_whole.ensures in
    runs_are_true whole.whole
    record {
      nodes = steady.sites;
      ways = c.labels_are_owned.ensures.ways;
      owned = c.labels_are_owned.ensures.owned;
      ordered = c.labels_are_owned.ensures.ordered;
      copies = c.labels_are_owned.ensures.copies;
      frames = c.chains_are_their_frames.ensures.events;
      unused = whole.unused;
      binds = c.labels_are_owned.ensures.binds;
      once = c.packets_are_kept.ensures.once;
      causes = c.cells_have_passed.ensures.causes;
      set = c.grants_expire.ensures.runs_set;
      ends = c.grants_expire.ensures.runs_end;
      silent = c.grants_expire.ensures.runs_silent;
      led_back = c.grants_expire.ensures.runs_led_back;
      by_reset = c.grants_expire.ensures.runs_reset;
      tables = c.tables_are_told.ensures.tables;
      losses = c.losses_are_true.ensures.losses;
      journeys = c.fates_are_journeys.ensures.journeys;
      unbound = c.nothing_is_bound.ensures.bound;
      carries = record {
        less = c.carries_empty_queues.ensures.carries;
        finds = c.carries_empty_queues.ensures.finds;
        lighter = c.carries_empty_queues.ensures.lighter;
        empty = c.carries_empty_queues.ensures.rounds;
        packets = c.carries_empty_queues.ensures.packets;
      };
    }
