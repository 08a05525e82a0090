-- The requests on their way from a controller to its switch: those that are read in the frames that wait in its queue

use Rattle.std.specs.Prelude.{◌≡◌, ℕ, true, false, List, [], ◌∷◌, map, Some, Ok}
use Rattle.world_model.specs.Words.{NodeId, End, Mark, Frame, payload_of, default_channel, Request, asked_in, is_request, World, Site, site_at}
use Rattle.world_model.specs.gsmp_wire.declared.message.Message.{Message}
use Rattle.world_model.specs.gsmp_wire.Fields.{decoded}
use Rattle.world_model.specs.switch_model.declared.request.Asked.{Asked}
use Rattle.law_port_facts.specs.ordered_lists.Ordered.{Every}
use Rattle.law_live_orders.specs.Law.{last_marks}
use Rattle.law_live_mirrors.specs.Mirrors.{Mirrors}
use Rattle.law_live_mirrors.specs.Fit.{IsFit}

-- *A frame asks* this: what was made under its mark last is read as the request; or it asks nothing
pub record Asks (frames : List Frame) (mark : Mark) (asked : Asked) : Type 0 where
  pub payload : List ℕ
  pub made : payload_of frames mark ≡ Some payload
  pub message : Message
  pub read : decoded payload ≡ Ok message
  pub request : is_request message ≡ true
  pub asks : asked_in message ≡ Some asked

pub record AsksNothing (frames : List Frame) (mark : Mark) : Type 0 where
  pub payload : List ℕ
  pub made : payload_of frames mark ≡ Some payload
  pub no_request : (message : Message) → decoded payload ≡ Ok message → is_request message ≡ false

-- *The frames of these marks ask these*, in order; those that ask nothing are passed over
pub data AreAsked (frames : List Frame) : List Mark → List Asked → Type 0 where
  none : AreAsked frames [] []
  asking : {marks : List Mark} {way : List Asked} (mark : Mark) (asked : Asked) → Asks frames mark asked
      → AreAsked frames marks way → AreAsked frames (mark ∷ marks) (asked ∷ way)
  passed : {marks : List Mark} {way : List Asked} (mark : Mark) → AsksNothing frames mark
      → AreAsked frames marks way → AreAsked frames (mark ∷ marks) way

abbrev pub requests_of : List Asked → List Request
requests_of way = map (λ asked. asked.request) way

-- *A node is mirrored*: the frames whose last cells wait for its switch on the GSMP channel ask these, each of them fit, and with them on
-- their way each input of the switch mirrors the controller
pub record IsMirroredSite (frames : List Frame) (site : Site) (way : List Asked) : Type 0 where
  pub waits : AreAsked frames (last_marks default_channel site.controller.queue) way
  pub fit : Every (IsFit site.switch) way
  pub mirrors : (input : End)
      → Mirrors site.controller.ports site.controller.desk site.switch.crossbar.branches (requests_of way) input

pub record IsMirroredBy (w : World) (node : NodeId) (way : List Asked) : Type 0 where
  pub site : Site
  pub found : site_at w node ≡ Some site
  pub mirrored : IsMirroredSite w.notes.frames site way

pub record IsMirroredIn (w : World) (node : NodeId) : Type 0 where
  pub way : List Asked
  pub by : IsMirroredBy w node way
