-- The trace of every run is good, before the first frame that was forged or passed its test by chance

use Rattle.std.specs.Prelude.{◌≡◌, true, List, [], ◌∷◌, ◌++◌, All, None, Ok}
use Rattle.lab_text.specs.Forms.{is_name}
use Rattle.world_model.specs.Words.{Policy, IsRun, IsTame, past_of, Topology, Node, Link, peer_among}
use Rattle.trace_model.specs.declared.line.TraceLine.{TraceLine}
use Rattle.trace_model.specs.declared.verdict.Step.TheVariants.{Good}
use Rattle.trace_model.specs.Judgement.{judged}
use Rattle.trace_model.specs.Known.{known}
use Rattle.trace_model.specs.Trace.{Trace}
use Rattle.world_model.specs.network_model.declared.event.Event.{Event}
use Rattle.law_run_facts.specs.law_world_views.Fronts.{HasAddresses}
use Rattle.law_trace_truth.specs.Told.{trace_told}

-- *Lines are good*, each by those before it
abbrev pub AreGood : Trace → (lines : List TraceLine) → Type 0
AreGood trace [] = Unit {0}
AreGood trace (line ∷ lines) = (judged (known trace) line ≡ Ok Good) × AreGood (line ∷ trace) lines

-- *What lines make of a topology*: its nodes have names, and each link joins two ports that no link before it joins
abbrev pub HasNames : Topology → Type 0
HasNames topology = All (λ (node : Node). is_name node.name ≡ true) topology.nodes

abbrev pub HasLinksOnce : Topology → Type 0
HasLinksOnce topology = (before after : List Link) (link : Link) → topology.links ≡ before ++ link ∷ after
    → (peer_among link.first before ≡ None) × (peer_among link.second before ≡ None)

-- *Every line of every trace* of such a run
abbrev pub TracesAreGood : Type 0
TracesAreGood = (policy : Policy) (topology : Topology) (events : List Event) → IsRun policy topology events → HasAddresses topology
    → HasNames topology → HasLinksOnce topology → IsTame (past_of policy topology events).records
    → AreGood [] (trace_told policy topology events)
