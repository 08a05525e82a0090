-- what events are in a run is asked of the laws that are called

use Rattle.law_running_worlds.specs.Running.{EventsAreOrdinary}
use Rattle.law_joined_worlds.proofs.Joined.{joins_are_kept, once_is_kept}
use Rattle.law_joined_worlds.proofs.Opening as opening
use Rattle.law_joined_worlds.proofs.joins_are_kept.Goals as goal

pub returns : goal.returns
returns c =
    let ordinary : EventsAreOrdinary = c.worlds_are_running.ensures.events c.nodes_are_steady.ensures.sites c.nodes_are_steady.ensures.room
    c.nodes_are_steady.ensures.fronts c.nodes_are_steady.ensures.steps in
    record {
      joins = λ pairs. joins_are_kept ordinary pairs;
      joins_begin = opening.joins_begin;
      once = λ pairs. once_is_kept ordinary pairs;
      once_begins = opening.once_begins;
    }
