-- an event that comes, and a call that ends early

use Rattle.std.proofs.Common.{◌≡◌, List, [], sym, ◌∙◌, ap}
use Rattle.std.specs.Prelude.{OnErr, OnOk, Result, Ok, Err}
use Rattle.std.specs.Result.{IsErrAnd}
use Rattle.link_model.specs.declared.record.Record.{Record}
use Rattle.world_model.specs.network_model.declared.event.Event.{Event}
use Rattle.world_model.specs.Run.{next}
use Rattle.world_model.specs.Step.{step}
use Rattle.world_model.specs.Topology.{Topology}
use Rattle.world_model.specs.World.{World}

-- *An event comes to a world whose records are put away*
pub next_is : (t : Topology) (w : World) (event : Event) → w.notes.records ≡ [] → next t w event ≡ step t w event
next_is t w event empty = ap (λ (records : List Record). step t (record w { notes = record w.notes { records = records } }) event) (sym empty)

-- where a call ended in an error
pub on_err : {T E P : Type 0} (r : Result T E) → P → OnErr r P
on_err (Ok x) p = tt
on_err (Err e) p = p

-- nothing is asked of its value then
pub none_ok : {T E : Type 0} (r : Result T E) (P : Type 0) (Q : E → Type 0) → IsErrAnd r Q → OnOk r P
none_ok (Ok x) P Q is = absurd is
none_ok (Err e) P Q is = tt

-- the world that an event came to
pub came_to : (t names : Topology) (w after : World) (event : Event) → names ≡ t → w.notes.records ≡ [] → after ≡ step t w event → after ≡ next names w event
came_to t names w after event named empty stepped = stepped ∙ sym (next_is t w event empty) ∙ ap (λ (u : Topology). next u w event) (sym named)
