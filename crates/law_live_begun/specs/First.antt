-- What a node is like before the first packet enters, and what is on its way there

use Rattle.std.specs.Prelude.{◌≡◌, ◌≢◌, ◌⊎◌, ℕ, ◌≤◌, ◌<◌, ◌^◌, true, false, List, [], ◌∷◌, map, Contains, Some}
use Rattle.world_model.specs.Words.{NodeId, PortNo, Channel, End, Request, AddBranch, PortRow, Session, Standing, message_of, is_estab, is_clearing, default_end, default_home, control_port, queue_of, last_transaction, awaits_nothing, Controller, Linked, Switch, Greeting, Addr, Hello, Mark, Frame, payload_of, Topology, World, Site, site_at, IsLinkPort}
use Rattle.world_model.specs.port_model.Port.{Port}
use Rattle.world_model.specs.switch_model.declared.port.PortState.{PortState}
use Rattle.world_model.specs.Switch.{begun as begun_port}
use Rattle.world_model.specs.Controller.{ports_of}
use Rattle.world_model.specs.Answers.{port_row}
use Rattle.world_model.specs.Topology.{linked_ports, vpis_of}
use Rattle.world_model.specs.crossbar_model.Crossbar.{output_of}
use Rattle.world_model.specs.gsmp_wire.declared.request.Request.TheVariants.{AllPorts, DeleteAll}
use Rattle.world_model.specs.gsmp_wire.declared.message.BranchKind.{BranchKind}
use Rattle.world_model.specs.gsmp_wire.declared.message.Message.{Message}
use Rattle.world_model.specs.gsmp_wire.declared.message.Message.TheVariants.{Adjacency, Branch, AllPorts as AllPortsMessage}
use Rattle.world_model.specs.gsmp_wire.Layout.{octets_of}
use Rattle.world_model.specs.ifmp_wire.declared.message.Message.TheVariants.{Adjacency as IfmpAdjacency}
use Rattle.law_link_parties.specs.law_run_facts.ordered_lists.Ordered.{Every, InOrder}
use Rattle.law_link_parties.specs.law_run_facts.law_world_views.law_controller_views.Lifted.{payload_by}
use Rattle.law_live_ease.specs.law_live_control.Calm.{IsCalmCell}

-- *What a node begins with*: the ports of its links, ascending, the session of its switch's ports, which is the instance that the switch drew
-- first, and how many VPIs labels can have there
pub record Start : Type 0 where
  pub ports : List PortNo
  pub session : ℕ
  pub vpis : ℕ

abbrev pub states_of : Start → List PortState
states_of start = map (begun_port (record { 0 = start.session })) (control_port ∷ start.ports)

abbrev pub rows_of : Start → List PortRow
rows_of start = map port_row (states_of start)

abbrev pub IsBelow : PortNo → PortNo → Type 0
IsBelow p q = p.0 < q.0

pub record FitsStart (start : Start) : Type 0 where
  pub links : Every (λ (port : PortNo). IsLinkPort port) start.ports
  pub ascending : InOrder IsBelow start.ports
  pub session : start.session < 2 ^ 32

-- *First requests*: for all ports, to delete all of a port, and to open a link's default channels
pub data IsFirstRequest (ports : List PortNo) : Request → Type 0 where
  asks_ports : IsFirstRequest ports AllPorts
  empties : (port : PortNo) → Contains (control_port ∷ ports) port → IsFirstRequest ports (DeleteAll port)
  opens_home : (port : PortNo) → Contains ports port → IsFirstRequest ports (AddBranch (default_end port) (default_home port))
  opens_out : (port : PortNo) → Contains ports port → IsFirstRequest ports (AddBranch (default_home port) (default_end port))

-- *What the controller says* to its switch: greetings, and first requests, which name the sessions of the switch's ports
pub data IsFirstDown (start : Start) : Message → Type 0 where
  greets_switch : (greeting : Greeting) → IsFirstDown start (Adjacency greeting)
  asks_switch : (rows : List PortRow) (number : ℕ) (request : Request) → number < 2 ^ 32 → IsFirstRequest start.ports request
      → (request ≡ AllPorts) ⊎ (rows ≡ rows_of start) → IsFirstDown start (message_of rows number request)

-- *What the switch says* to its controller: greetings, all its ports, and successes of requests for branches
pub data IsFirstUp (start : Start) : Message → Type 0 where
  greets_controller : (greeting : Greeting) → IsFirstUp start (Adjacency greeting)
  tells_ports : (number : ℕ) → number < 2 ^ 32 → IsFirstUp start (AllPortsMessage 3 0 number (rows_of start))
  succeeds : (kind : BranchKind) (code number session input_port : ℕ) (input : Channel) (output_port : ℕ) (output : Channel) (branches priority : ℕ)
      → IsFirstUp start (Branch kind 3 code number session input_port input output_port output branches priority)

-- *What is made*: messages of GSMP, and greetings of ports
pub data IsFirstPayload (payload : List ℕ) : Type 0 where
  of_gsmp : (message : Message) → payload ≡ octets_of message → IsFirstPayload payload
  of_port : (source : Addr) (hello : Hello) → payload ≡ payload_by source (IfmpAdjacency hello) → IsFirstPayload payload

abbrev pub AreFirstFrames : List Frame → Type 0
AreFirstFrames frames = (mark : Mark) (payload : List ℕ) → payload_of frames mark ≡ Some payload → IsFirstPayload payload

-- *A port* has no label, no grant and no count, and has told and heard no redirection message; without a session it may be any
pub record IsFirstSession (s : Session) : Type 0 where
  pub number : s.number ≡ 1
  pub expected : s.expected ≡ 1
  pub labels : s.labels ≡ []
  pub counted : s.counted ≡ []

pub record IsFirstPort (port : Port) : Type 0 where
  pub session : (s : Session) → port.session ≡ Some s → IsFirstSession s
  pub grants : port.grants ≡ []

-- *What stands* is a first request; all but the one for all ports stand once the ports are known
pub record IsFirstStanding (start : Start) (rows : List PortRow) (s : Standing) : Type 0 where
  pub request : IsFirstRequest start.ports s.request
  pub known : (s.request ≡ AllPorts) ⊎ (rows ≡ rows_of start)

-- *A controller*: its ports are those, none has anything to do with labels, no change of routes waits, and all that stands are first
-- requests. It has met its switch only in Estab, once the ports are known; until then its ports are shut
pub record IsFirstController (start : Start) (c : Controller) : Type 0 where
  pub ports_are : ports_of c ≡ start.ports
  pub ports : Every (λ (linked : Linked). IsFirstPort linked.port) c.ports
  pub waiting : c.waiting ≡ []
  pub standing : Every (IsFirstStanding start c.desk.rows) c.desk.standing
  pub room : c.desk.next ≤ last_transaction
  pub below : Every (λ (s : Standing). s.number < c.desk.next) c.desk.standing
  pub waits : is_estab c.adjacency.state ≡ false → c.desk.standing ≡ []
  pub met : c.has_met ≡ true → is_estab c.adjacency.state ≡ true
  pub known : c.has_met ≡ true → c.desk.rows ≡ rows_of start
  pub unmet : c.has_met ≡ false → Every (λ (linked : Linked). is_clearing linked.port.adjacency.state ≡ true) c.ports

-- *It is ready* for what comes next: before it has met its switch something stands, so that it will; and then, for each port that waits to
-- be cleared, something stands that it waits for
pub record IsReady (c : Controller) : Type 0 where
  pub meeting : is_estab c.adjacency.state ≡ true → c.has_met ≡ false → c.desk.standing ≢ []
  pub clearing : c.has_met ≡ true
      → Every (λ (linked : Linked). is_clearing linked.port.adjacency.state ≡ true → awaits_nothing c linked.setup.port ≡ false) c.ports

-- *A switch*: its ports are those, up and of that session, and its branches lead default channels alone
pub data IsFirstBranch (ports : List PortNo) : (input output : End) → Type 0 where
  home : (port : PortNo) → Contains ports port → IsFirstBranch ports (default_end port) (default_home port)
  out : (port : PortNo) → Contains ports port → IsFirstBranch ports (default_home port) (default_end port)

pub record IsFirstSwitch (start : Start) (s : Switch) : Type 0 where
  pub ports : s.ports ≡ states_of start
  pub vpis : s.vpis ≡ start.vpis
  pub branches : (input output : End) → output_of s.crossbar.branches input ≡ Some output → IsFirstBranch start.ports input output

-- *A node*, with what waits between the two on the GSMP channel
pub record IsFirstSite (frames : List Frame) (start : Start) (site : Site) : Type 0 where
  pub fits : FitsStart start
  pub controller : IsFirstController start site.controller
  pub ready : IsReady site.controller
  pub switch : IsFirstSwitch start site.switch
  pub down : Every (IsCalmCell (IsFirstDown start) frames) site.controller.queue
  pub up : Every (IsCalmCell (IsFirstUp start) frames) (queue_of site.switch.crossbar control_port)

pub record IsFirstNode (topology : Topology) (frames : List Frame) (node : NodeId) (site : Site) : Type 0 where
  pub start : Start
  pub ports : start.ports ≡ linked_ports topology node
  pub vpis : start.vpis ≡ vpis_of topology
  pub is : IsFirstSite frames start site

-- *A network*
pub record IsFirstWorld (topology : Topology) (w : World) : Type 0 where
  pub frames : AreFirstFrames w.notes.frames
  pub nodes : (node : NodeId) (site : Site) → site_at w node ≡ Some site → IsFirstNode topology w.notes.frames node site
