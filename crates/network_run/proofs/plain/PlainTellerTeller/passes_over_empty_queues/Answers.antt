use Rattle.std.proofs.Common.{ℕ, List, ◌∙◌, ap}
use Rattle.world_model.specs.World.{World}
use Rattle.network_run.proofs.Empty.{next_empty}
use Rattle.network_run.proofs.plain.PlainTellerTeller.passes_over_empty_queues.Goals as goal

pub returns : goal.returns
returns g c = λ known t w line place e. ap (λ (v : World). record { octets = g.R.RecordTeller.lines t v.notes.records; state = tt }) (next_empty t w place e)
    ∙ ap (λ (octets : List ℕ). record { octets = octets; state = tt }) (g.met.R.RecordTeller.nothing t)
