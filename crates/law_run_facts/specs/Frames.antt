-- What is made of frames, and what is noted

use Rattle.std.specs.Prelude.{◌≡◌, ℕ, ◌<◌, List, Some, None}
use Rattle.law_world_pace.specs.world_model.Words.{Mark, Frame, Record, payload_of, last_bound}
use Rattle.law_world_pace.specs.world_model.network_model.declared.link.LinkEnd.{LinkEnd}

-- nothing is made under the control marks that weren't given out
abbrev pub IsFree : (controls : ℕ) → List Frame → Type 0
IsFree controls frames = (k : ℕ) → controls < k → payload_of frames (record { packet = 0; frame = k }) ≡ None

-- what was made stays
abbrev pub Stay : (old new : List Frame) → Type 0
Stay old new = (mark : Mark) (payload : List ℕ) → payload_of old mark ≡ Some payload → payload_of new mark ≡ Some payload

-- no label was bound in between
abbrev pub BindsNone : (old new : List Record) → Type 0
BindsNone old new = (end : LinkEnd) (label : ℕ) → last_bound new end label ≡ last_bound old end label
