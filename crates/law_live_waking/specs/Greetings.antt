-- What a network shows of the adjacency of a node's controller with its switch (RFC 1987): both sides, and the greetings that
-- are on their way between them

use Rattle.std.specs.Prelude.{◌≡◌, ℕ, List, [], ◌∷◌, Some, Ok}
use Rattle.world_model.specs.Words.{NodeId, Down, Up, Greeting, Party, Said, greeting_of, Mark, Frame, payload_of, gsmp_channel, World, Site, site_at}
use Rattle.world_model.specs.gsmp_wire.declared.message.Message.TheVariants.{Adjacency}
use Rattle.world_model.specs.gsmp_wire.Fields.{decoded}
use Rattle.law_live_meetings.specs.Exchange.{Ends}
use Rattle.law_live_orders.specs.Law.{marks_at}

-- *A frame greets*: an adjacency message is read in it; or it greets nobody
pub record Greets (frames : List Frame) (mark : Mark) (message : Said Party) : Type 0 where
  pub payload : List ℕ
  pub made : payload_of frames mark ≡ Some payload
  pub read : decoded payload ≡ Ok (Adjacency (greeting_of message))

pub record GreetsNobody (frames : List Frame) (mark : Mark) : Type 0 where
  pub payload : List ℕ
  pub made : payload_of frames mark ≡ Some payload
  pub unread : (greeting : Greeting) → decoded payload ≡ Ok (Adjacency greeting) → ⊥

-- *The frames of these marks greet so*, in order; requests and answers between them are passed over
pub data Greet (frames : List Frame) : List Mark → List (Said Party) → Type 0 where
  none : Greet frames [] []
  greets : {marks : List Mark} {messages : List (Said Party)} (mark : Mark) (message : Said Party) → Greets frames mark message
      → Greet frames marks messages → Greet frames (mark ∷ marks) (message ∷ messages)
  passed : {marks : List Mark} {messages : List (Said Party)} (mark : Mark) → GreetsNobody frames mark
      → Greet frames marks messages → Greet frames (mark ∷ marks) messages

-- *The two ends of a node's control link*: its controller's side and its switch's, and the greetings that come to each, in the
-- frames whose last cells wait on the GSMP channel
pub record ShowsEnds (w : World) (node : NodeId) (ends : Ends Party) : Type 0 where
  pub site : Site
  pub found : site_at w node ≡ Some site
  pub controller : ends.one.side ≡ site.controller.adjacency
  pub switch : ends.other.side ≡ site.switch.adjacency
  pub down : Greet w.notes.frames (marks_at w (Down node) gsmp_channel) ends.other.comes
  pub up : Greet w.notes.frames (marks_at w (Up node) gsmp_channel) ends.one.comes
