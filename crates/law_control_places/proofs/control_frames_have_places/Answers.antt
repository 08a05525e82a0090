-- the laws are proved over definitions alone

use Rattle.law_control_places.proofs.Kept.{places_are_kept, places_begin}
use Rattle.law_control_places.proofs.control_frames_have_places.Goals as goal

pub returns : goal.returns
returns c = record { events = places_are_kept; opening = places_begin }
