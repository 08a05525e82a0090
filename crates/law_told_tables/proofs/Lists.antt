-- lists: numbers in order, with one more; and changes of a node among events

use Rattle.std.proofs.Common.{◌≡◌, ℕ, zero, suc, ◌+◌, List, [], ◌∷◌, ◌++◌, append-nil, refl, sym, ◌∙◌, ap, arith}
use Rattle.std.specs.List.{range_with_len}
use Rattle.world_model.specs.Words.{NodeId, RouteChange, changes_at, changes_of}
use Rattle.world_model.specs.network_model.declared.event.Event.{Event}
use Rattle.world_model.specs.network_model.declared.event.Event.TheVariants.{Inject, Carry, Lose, Tick, TickSwitch, Restart, RestartSwitch, Forge, Route}

-- *One number more*
pub range_more : (from count : ℕ) → range_with_len from (suc count) ≡ range_with_len from count ++ (from + count) ∷ []
range_more from zero = ap (λ (n : ℕ). n ∷ []) (omega arith)
range_more from (suc count) =
    let rest : range_with_len (from + 1) (suc count) ≡ range_with_len (from + 1) count ++ (from + 1 + count) ∷ [] = range_more (from + 1) count in
    let same : from + 1 + count ≡ from + suc count = omega arith in
    λ i. from ∷ (rest ∙ ap (λ (n : ℕ). range_with_len (from + 1) count ++ n ∷ []) same) i

-- *The changes of a node* among events are those of the first event, and those of the others
pub changes_split : (node : NodeId) (event : Event) (events : List Event) → changes_of node (event ∷ events) ≡ changes_of node (event ∷ []) ++ changes_of node events
changes_split node (Inject at octets) events = refl
changes_split node (Carry place) events = refl
changes_split node (Lose place) events = refl
changes_split node (Tick at) events = refl
changes_split node (TickSwitch at) events = refl
changes_split node (Restart at) events = refl
changes_split node (RestartSwitch at) events = refl
changes_split node (Forge place channel payload) events = refl
changes_split node (Route at change) events = ap (λ (changes : List RouteChange). changes ++ changes_of node events) (sym (append-nil (changes_at node at change)))
