-- what a port asks to be noted is no loss

use Rattle.std.proofs.Common.{◌≡◌, [], ◌∷◌, refl}
use Rattle.law_cell_lists.specs.world_model.Words.{Record, losses_of}
use Rattle.law_causes.proofs.Noting.{AllowsNotes, AllowsBinding}

-- *A record of no loss*
abbrev pub IsCalm : Record → Type 0
IsCalm item = losses_of (item ∷ []) ≡ []

pub calm_notes : AllowsNotes IsCalm
calm_notes = record {
  opened = λ node port. refl;
  closed = λ node port. refl;
  joined = λ node port label to_port to_label. refl;
  freed = λ node port label. refl;
}

pub calm_binding : AllowsBinding IsCalm
calm_binding node port label flow = refl
