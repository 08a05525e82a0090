-- The line of a queue that holds cells

use Rattle.std.proofs.Common.{◌≡◌, ◌<◌, ◌∷◌, [], ℕ, zero, suc, codes, refl, arith}
use Rattle.std.specs.Prelude.{decimal}
use Rattle.lab_text.specs.Text.{line_of}
use Rattle.net_types.specs.declared.node.Place.{Place}
use Rattle.world_model.specs.Topology.{Topology}
use Rattle.script_model.specs.Texts.{place_text}
use Rattle.show_text.specs.Shown.{queue_line}

pub queue_is : (t : Topology) (place : Place) (cells : ℕ) → 0 < cells → line_of (codes "queue" ∷ place_text t place ∷ decimal cells ∷ []) ≡ queue_line t place cells
queue_is t place zero lt = absurd (omega (arith, lt))
queue_is t place (suc n) lt = refl
