-- A tale of two parts: of an event, by its records alone, and of the last world. No claim needs this file.

use Rattle.std.specs.Prelude.{ℕ, List, []}
use Rattle.link_model.specs.declared.record.Record.{Record}
use Rattle.telling_model.specs.declared.ended.Ended.{Ended}
use Rattle.telling_model.specs.Tale.{Tale}
use Rattle.world_model.specs.Run.{next}
use Rattle.world_model.specs.Topology.{Topology}
use Rattle.world_model.specs.World.{World}

-- nothing is told of the opening
abbrev pub plain_tale : (lines : Topology → List Record → List ℕ) → (last : Topology → World → Ended → List ℕ) → Tale (Unit {0})
plain_tale lines last = record {
  opens = λ topology w. record { octets = []; state = tt };
  tells = λ state topology w placed. record { octets = lines topology (next topology w placed.event).notes.records; state = tt };
  ends = last;
}
