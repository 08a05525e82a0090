-- what an event brings to a controller is its own input

use Rattle.std.proofs.Common.{◌≡◌, Bool, true, false, List, [], ◌∷◌, Option, None, Some, subst, if◌then◌else◌}
use Rattle.std.specs.Prelude.{◌==◌, ◌+◌}
use Rattle.law_world_pace.specs.world_model.Words.{NodeId, Down, Up, Out, next_control, Cell, World, queue_at}
use Rattle.law_controller_bindings.specs.law_controller_facts.Inputs.{Input, PacketEnters, Ticks, Restarts, ChangeComes, FrameIsForged}
use Rattle.law_controller_bindings.specs.law_controller_facts.Sound.{IsOwn}
use Rattle.law_lifetimes.specs.Lifetimes.{if_at, head_comes, head_leaves, comes_to}
use Rattle.law_world_pace.specs.world_model.network_model.declared.event.Event.{Event}
use Rattle.law_world_pace.specs.world_model.network_model.declared.event.Event.TheVariants.{Inject, Carry, Lose, Tick, TickSwitch, Restart, RestartSwitch, Forge, Route}

abbrev IsOwnIf : Option Input → Type 0
IsOwnIf None = Unit {0}
IsOwnIf (Some input) = IsOwn input

own_if : (here node : NodeId) (o : Option Input) → IsOwnIf o → IsOwnIf (if_at here node o)
own_if here node o own = by (here.0 == node.0)
  where
    by : (b : Bool) → IsOwnIf (if b then o else None)
    by true = own
    by false = tt

heads_own : (queue : List Cell) → IsOwnIf (head_comes queue)
heads_own [] = tt
heads_own (cell ∷ cells) = tt

leaves_own : (queue : List Cell) → IsOwnIf (head_leaves queue)
leaves_own [] = tt
leaves_own (cell ∷ cells) = tt

each_own : (w : World) (node : NodeId) (event : Event) → IsOwnIf (comes_to w node event)
each_own w node (Inject here octets) = own_if here node (Some (PacketEnters (w.sent + 1) octets)) tt
each_own w node (Carry (Down here)) = own_if here node (head_leaves (queue_at w (Down here))) (leaves_own (queue_at w (Down here)))
each_own w node (Carry (Up here)) = own_if here node (head_comes (queue_at w (Up here))) (heads_own (queue_at w (Up here)))
each_own w node (Carry (Out here port)) = tt
each_own w node (Lose (Down here)) = own_if here node (head_leaves (queue_at w (Down here))) (leaves_own (queue_at w (Down here)))
each_own w node (Lose (Up here)) = tt
each_own w node (Lose (Out here port)) = tt
each_own w node (Tick here) = own_if here node (Some Ticks) tt
each_own w node (TickSwitch here) = tt
each_own w node (Restart here) = own_if here node (Some Restarts) tt
each_own w node (RestartSwitch here) = tt
each_own w node (Forge (Down here) channel payload) = own_if here node (Some (FrameIsForged channel (next_control w.numbers) payload)) tt
each_own w node (Forge (Up here) channel payload) = tt
each_own w node (Forge (Out here port) channel payload) = tt
each_own w node (Route here change) = own_if here node (Some (ChangeComes change)) tt

pub comes_own : (w : World) (node : NodeId) (event : Event) (input : Input) → comes_to w node event ≡ Some input → IsOwn input
comes_own w node event input e = by (comes_to w node event) (each_own w node event) e
  where
    by : (o : Option Input) → IsOwnIf o → o ≡ Some input → IsOwn input
    by None own is = absurd (cc is)
    by (Some x) own is = (let same : x ≡ input = cc is in subst IsOwn same own)
