-- What a switch says calmly is harmless to a controller that asks for joins alone

use Rattle.std.specs.Prelude.{◌≡◌, ◌≢◌, ℕ, ◌<◌, false, true, List, [], ◌∷◌, Some, Ok}
use Rattle.world_model.specs.Words.{End, Place, Up, Party, Cell, payload_of, Request, MoveBranch, Standing, is_spent, Linked, linked_at, port_key, taker_of, ForGsmp, ForDefault, World, Site, queue_at}
use Rattle.world_model.specs.Controller.{Acted}
use Rattle.world_model.specs.gsmp_wire.declared.message.Message.{Message}
use Rattle.world_model.specs.gsmp_wire.Fields.{decoded}
use Rattle.world_model.specs.network_model.declared.link.LinkEnd.{LinkEnd}
use Rattle.law_port_facts.specs.ordered_lists.Ordered.{Every, InOrder}
use Rattle.law_live_hearing.specs.Law.{acting}
use Rattle.law_live_others.specs.Law.{IsSettled}
use Rattle.law_live_numbers.specs.Law.{IsHarmlessMessage, HasNumbersFor}
use Rattle.law_live_control.specs.Calm.{IsCalmUp}
use Rattle.law_live_control_links.specs.Law.{IsCalmLink}
use Rattle.law_live_passed_by.specs.Law.{PassesBy, IsForOthersAt}

-- *Joins alone are asked*: each request that stands is Move Branch to a link; no change of routes waits, and no port's numbers are
-- spent
pub record IsJoin (request : Request) : Type 0 where
  pub input : End
  pub from : End
  pub to : End
  pub is : request ≡ MoveBranch input from to
  pub to_link : to.port.0 ≢ 0

pub record AsksJoinsAlone (a : Acted) : Type 0 where
  pub joins : Every (λ (s : Standing). IsJoin s.request) a.controller.desk.standing
  pub none_waits : a.controller.waiting ≡ []
  pub unspent : Every (λ (linked : Linked). is_spent linked.port.session ≡ false) a.controller.ports

-- *A calm message is harmless* then, and so is a frame in which nothing else is read
abbrev pub CalmMessagesAreHarmless : Type 0
CalmMessagesAreHarmless = (a : Acted) (controller switch : Party) (message : Message) → AsksJoinsAlone a → IsCalmUp controller switch message
    → IsHarmlessMessage a message

abbrev pub CalmFramesAreHarmless : Type 0
CalmFramesAreHarmless = (a : Acted) (controller switch : Party) (payload : List ℕ) → AsksJoinsAlone a
    → ((message : Message) → decoded payload ≡ Ok message → IsCalmUp controller switch message) → HasNumbersFor a ForGsmp payload

-- *A node lets frames pass a port by*: it asks for joins alone, has its ports in order, and this one is settled; and a frame on a
-- default channel that a cell ends passes the port by
pub record LetsPass (w : World) (end : LinkEnd) (site : Site) : Type 0 where
  pub joins : AsksJoinsAlone (acting w site)
  pub in_order : InOrder (λ (x y : Linked). port_key x < port_key y) site.controller.ports
  pub settled : (linked : Linked) → linked_at site.controller end.port ≡ Some linked → IsSettled linked.port
  pub by_default : (cell : Cell) (cells : List Cell) (linked : Linked) (payload : List ℕ) → queue_at w (Up end.node) ≡ cell ∷ cells → cell.header.last ≡ true
      → taker_of site.controller cell.header.channel ≡ Some (ForDefault linked) → payload_of w.notes.frames cell.mark ≡ Some payload
      → PassesBy end.port (acting w site) (ForDefault linked) payload

-- *Then so does all* that comes, where the control link is calm
abbrev pub CalmNodesLetPass : Type 0
CalmNodesLetPass = (w : World) (end : LinkEnd) (place : Place) (link : IsCalmLink w end.node) → LetsPass w end link.site → IsForOthersAt w end place
