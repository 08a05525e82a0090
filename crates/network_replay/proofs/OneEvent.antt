-- one event, as events

use Rattle.std.proofs.Common.{◌≡◌, ◌⊎◌, ℕ, List, [], ◌∷◌, append-nil, Option, Result, OnErr, OnOk, sym, ◌∙◌, ap, subst}
use Rattle.link_model.specs.Notes.{Journal}
use Rattle.link_model.specs.declared.record.Record.{Record}
use Rattle.script_model.specs.world_model.Controller.{Controller}
use Rattle.script_model.specs.world_model.network_model.declared.event.Event.{Event}
use Rattle.script_model.specs.world_model.Run.{next, put_away}
use Rattle.script_model.specs.world_model.Topology.{Topology}
use Rattle.script_model.specs.world_model.World.{World}
use Rattle.world.specs.declared.counts.Meter.{Meter}
use Rattle.world.specs.declared.world.World.{World as Network}
use Rattle.world.specs.Counted.{reading_of}
use Rattle.world.specs.Network.{world_of}
use Rattle.lab_io.specs.declared.stop.Stop.{Stop}
use Rattle.network_run.specs.telling_model.Placed.{Placed}
use Rattle.network_run.specs.telling_model.Tale.{Tale, Telling, told}
use Rattle.network_run.specs.declared.told.Told.{Told}
use Rattle.network_run.specs.Behind.{AreStepped, IsTold}
use Rattle.network_run.specs.Coming.{IsReady}
use Rattle.network_replay.proofs.Metered.{one_in}

-- records that are put away
pub away : (w : World) → w.notes.records ≡ [] → w ≡ put_away w
away w empty = ap (λ (records : List Record). record w { notes = record w.notes { records = records } }) empty

-- *It was stepped*
pub one_stepped : {C : Type 0} (seen : C → Controller) (t : Topology) (event : Event) (result : Result (Unit {0}) Stop) (old new : Network C) (notes after : Journal) (meter then : Meter)
    → OnOk result (world_of seen new after ≡ put_away (next t (world_of seen old notes) event)) → OnOk result (IsReady seen t new after) → OnOk result (then ≡ reading_of (next t (world_of seen old notes) event))
    → OnErr result ((then ≡ meter) ⊎ (then ≡ reading_of (next t (world_of seen old notes) event))) → AreStepped seen t (event ∷ []) result old new notes after meter then
one_stepped seen t event result old new notes after meter then world ready reading kept =
    record { world = world; ready = ready; meter_is = reading; kept = one_in result meter then t (world_of seen old notes) event kept }

-- *It was told*
pub one_told : {T S : Type 0} (known : T → S) (tale : Tale S) (state : S) (t : Topology) (w : World) (placed : Placed) (result : Result (Unit {0}) Stop) (old new : Told T) (written wrote : Option (List ℕ))
    → w.notes.records ≡ [] → IsTold known (tale.tells state t w placed) result old new written wrote → IsTold known (told tale state t w (placed ∷ [])) result old new written wrote
one_told {T} {S} known tale state t w placed result old new written wrote empty h =
    let first : Telling S = tale.tells state t (put_away w) placed in
    let same : tale.tells state t w placed ≡ told tale state t w (placed ∷ []) =
    ap (λ (v : World). tale.tells state t v placed) (away w empty) ∙ ap (λ (octets : List ℕ). record { octets = octets; state = first.state }) (sym (append-nil first.octets)) in
    subst (λ (telling : Telling S). IsTold known telling result old new written wrote) same h
