-- The chains of GSMP's channel have taken cells of that channel alone

use Rattle.std.specs.Prelude.{◌≡◌, true, List, ◌++◌, Contains}
use Rattle.law_world_pace.specs.world_model.Words.{NodeId, Cell, Policy, default_channel, same_channel, Topology, World, requests_chain_at, answers_chain_at, past_of}
use Rattle.law_world_pace.specs.world_model.network_model.declared.event.Event.{Event}

-- those of each switch and of each controller
abbrev pub HasOwnChains : World → Type 0
HasOwnChains w = (node : NodeId) (cell : Cell) → Contains (requests_chain_at w node ++ answers_chain_at w node) cell
    → same_channel cell.header.channel default_channel ≡ true

-- in every world of every run
abbrev pub RunsHaveOwnChains : Type 0
RunsHaveOwnChains = (policy : Policy) (topology : Topology) (events : List Event) → HasOwnChains (past_of policy topology events).now
