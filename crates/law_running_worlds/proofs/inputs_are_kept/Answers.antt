-- what is read in frames that were made, what each run has, and that events are ordinary, is asked of the laws that are called

use Rattle.law_running_worlds.proofs.InputWorlds.{shapes_kept, ports_kept, inputs_kept}
use Rattle.law_running_worlds.proofs.InputOpening.{shapes_begin, ports_begin, inputs_begin}
use Rattle.law_running_worlds.proofs.inputs_are_kept.Goals as goal

pub returns : goal.returns
returns c =
    let run : _ = c.nodes_are_steady.ensures in
    let running : _ = c.worlds_are_running.ensures.events run.sites run.room run.fronts run.steps in
    let read : _ = c.frames_are_read.ensures.marks in
    record {
      shapes = λ made. shapes_kept run.sites run.fronts run.steps running read made;
      shapes_begin = shapes_begin;
      ports_up = λ made. ports_kept run.sites run.fronts run.steps running read made;
      ports_up_begin = ports_begin;
      inputs = λ made. inputs_kept run.sites run.fronts run.steps running read made;
      inputs_begin = inputs_begin run.numbers_begin;
    }
