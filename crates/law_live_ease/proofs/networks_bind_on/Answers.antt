-- the laws that are called, put together

use Rattle.law_live_ease.specs.Binding.{NetworksBindOn, StretchesBindOn}
use Rattle.law_live_ease.proofs.BindingNetworks.{networks_bind_on}
use Rattle.law_live_ease.proofs.BindingStretches.{stretches_bind_on}
use Rattle.law_live_ease.proofs.BindingBeats.{beats_bind_on}
use Rattle.law_live_ease.proofs.networks_bind_on.Goals as goal

pub returns : goal.returns
returns c =
    let carries : NetworksBindOn = networks_bind_on c.nodes_bind_on.ensures.nodes in
    let stretches : StretchesBindOn = stretches_bind_on c.runs_are_whole.ensures.whole carries c.entries_bind_on.ensures.entries in
    record { carries = carries; stretches = stretches; beats = beats_bind_on stretches }
