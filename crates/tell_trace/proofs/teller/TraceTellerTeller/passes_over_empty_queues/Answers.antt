use Rattle.std.proofs.Common.{◌≡◌, [], ◌++◌, List, None, refl, ◌∙◌, ap}
use Rattle.net_types.specs.declared.node.Place.{Place}
use Rattle.net_types.specs.declared.node.Place.TheVariants.{Down, Up, Out}
use Rattle.world_model.specs.network_model.declared.event.Event.TheVariants.{Carry}
use Rattle.network_run.proofs.Empty.{next_empty, put_none, taken_none}
use Rattle.tell_trace.specs.Passages.{Passage}
use Rattle.tell_trace.specs.Trace.{in_lines, passed, taken_told}
use Rattle.tell_trace.proofs.teller.TraceTellerTeller.passes_over_empty_queues.Goals as goal

took_none : (place : Place) → taken_told (Carry place) None ≡ []
took_none (Down node) = refl
took_none (Up node) = refl
took_none (Out node port) = refl

pub returns : goal.returns
returns g c = λ known t w line place e.
    (λ i. in_lines t (passed known (Carry place) (taken_none w place e i) (put_none t w place e i) (next_empty t w place e i).notes))
    ∙ ap (λ (passages : List Passage). in_lines t (record { passages = passages ++ []; marks = known })) (took_none place)
