-- What is so of every network in a run, between its controllers, switches and links, before the first frame that was
-- forged or passed its test by chance

use Rattle.std.specs.Prelude.{◌≡◌, ℕ, ◌+◌, ◌<◌, ◌≤◌, true, false, List, ◌∷◌, ◌++◌, Contains, Option, None, Some}
use Rattle.law_controller_views.specs.world_model.Words.{End, NodeId, PortNo, Place, Addr, is_label_number, Cell, PortRow, payload_of, has_loss_of, Standing, all_on, control_port, numbers_of, Setup, home_of, Controller, Linked, default_channel, default_home, same_channel, Topology, Node, node_at, World, Site, site_at, queue_at, IsPlace, gsmp_to_switch, gsmp_to_controller, requests_chain_at, answers_chain_at, chain_at, gsmp_under, copy_under, Past, frames_of, Way, IsWay, WasAccepted, fates_of, AreTrueFates}
use Rattle.law_controller_views.specs.world_model.gsmp_wire.declared.message.Message.TheVariants.{AllPorts}
use Rattle.law_controller_views.specs.ordered_lists.Ordered.{Every}
use Rattle.law_controller_views.specs.world_model.crossbar_model.Crossbar.{output_of}
use Rattle.law_controller_views.specs.world_model.port_model.Messages.{is_up}
use Rattle.law_controller_views.specs.world_model.switch_model.declared.port.PortState.{PortState}
use Rattle.law_controller_views.specs.law_port_facts.Port.{IsLinked, IsLabelEnd, IsShaped}
use Rattle.law_controller_views.specs.world_model.Controller.{ports_of}
use Rattle.law_controller_views.specs.law_label_line.Cells.{Role}
use Rattle.law_controller_views.specs.law_label_line.Line as labels
use Rattle.law_controller_views.specs.law_label_line.Law as labels_law
use Rattle.law_controller_views.specs.world_model.network_model.declared.link.LinkEnd.{LinkEnd}
use Rattle.law_controller_views.specs.law_port_views.Link.{LinkLabel}
use Rattle.law_controller_views.specs.law_shown_cells.Seen.{IsUnmade}
use Rattle.law_input_views.specs.Reaching.{ReachedAs, Anything}
use Rattle.law_world_views.specs.Pairs.{IsLike}
use Rattle.law_world_views.specs.Shown.{way_of, WorldShows}
use Rattle.law_world_views.specs.Made.{AreMade}
pub use Rattle.law_world_views.specs.Ready.{setups_of}
use Rattle.law_world_views.specs.Ready.{IsReadySite}
use Rattle.law_world_views.specs.Marks.{heading_at, Means, last_cells}
use Rattle.law_world_views.specs.Tied.{HasUsersOfLast, HasClearedEnds, HasJoins, LeadsOnce, HasHops, HasPassed}

-- what is so of the site of each node
abbrev pub EachSite : World → (NodeId → Site → Type 0) → Type 0
EachSite w P = (node : NodeId) (site : Site) → site_at w node ≡ Some site → P node site

-- *Shapes*. The default channel of a linked port, or that of a label in its range
pub data IsPortEnd (setups : List Setup) : End → Type 0 where
  default : (port : PortNo) → IsLinked setups port → IsPortEnd setups (record { port = port; channel = default_channel })
  label : (end : End) → IsLabelEnd setups end → IsPortEnd setups end

-- a branch leads from such a channel to its channel on the control link, or back, or from one label to another
pub data IsShapedBranch (setups : List Setup) : (input output : End) → Type 0 where
  home : (end : End) → IsPortEnd setups end → IsShapedBranch setups end (home_of end)
  out : (end : End) → IsPortEnd setups end → IsShapedBranch setups (home_of end) end
  joined : (input output : End) → IsLabelEnd setups input → IsLabelEnd setups output → IsShapedBranch setups input output

-- and no request makes another; the ports of a switch are port 0 and those that its controller has linked
pub record HasShapes (w : World) (node : NodeId) (site : Site) : Type 0 where
  pub branches : (input output : End) → output_of site.switch.crossbar.branches input ≡ Some output
      → IsShapedBranch (setups_of site.controller) input output
  pub standing : Every (λ (s : Standing). IsShaped (setups_of site.controller) s.request) site.controller.desk.standing
  pub copies : (s : Standing) (cell : Cell) → Contains (gsmp_to_switch w node) cell → copy_under w.notes.frames cell.mark ≡ Some s
      → IsShaped (setups_of site.controller) s.request
  pub ports : numbers_of site.switch.ports ≡ control_port ∷ ports_of site.controller

-- *Ports that are up*: all of a switch are, and all that its controller has linked are listed so, in each answer to All
-- Ports on the way and in the records that the controller keeps
abbrev pub AreUp : List PortRow → List PortNo → Type 0
AreUp rows ports = Every (λ (port : PortNo). is_up rows port ≡ true) ports

pub record HasPortsUp (w : World) (node : NodeId) (site : Site) : Type 0 where
  pub up : Every (λ (state : PortState). state.is_up ≡ true) site.switch.ports
  pub told : (cell : Cell) (code number : ℕ) (rows : List PortRow) → Contains (gsmp_to_controller w node) cell
      → gsmp_under w.notes.frames cell.mark ≡ Some (AllPorts 3 code number rows) → AreUp rows (ports_of site.controller)
  pub met : site.controller.has_met ≡ true → AreUp site.controller.desk.rows (ports_of site.controller)
  pub emptying : (port : PortNo) → all_on site.controller.desk port ≡ true
      → AreUp site.controller.desk.rows (ports_of site.controller)

-- *Numbers*: control marks on the way, which count from 1, and instances are at most those given out; a chain has taken
-- cells of its own channel
pub record HasNumbers (w : World) : Type 0 where
  pub unmade : IsUnmade w.numbers.controls w.notes.frames
  pub marks : (place : Place) (cell : Cell) → Contains (queue_at w place) cell → cell.mark.packet ≡ 0
      → cell.mark.frame ≤ w.numbers.controls
  pub counted : (place : Place) (cell : Cell) → Contains (queue_at w place) cell → cell.mark.packet ≡ 0 → 0 < cell.mark.frame
  pub chains : (node : NodeId) (cell : Cell) → Contains (requests_chain_at w node ++ answers_chain_at w node) cell → cell.mark.packet ≡ 0
      → cell.mark.frame ≤ w.numbers.controls
  pub taken : (end : LinkEnd) (cell : Cell) → Contains (chain_at w end) cell
      → (same_channel cell.header.channel (default_home end.port).channel ≡ true) × (cell.mark.packet ≡ 0 → cell.mark.frame ≤ w.numbers.controls)
  pub controllers : EachSite w (λ node site. site.controller.adjacency.own.instance.0 ≤ w.numbers.instances)
  pub switches : EachSite w (λ node site. site.switch.adjacency.own.instance.0 ≤ w.numbers.instances)
  pub ports : EachSite w (λ node site. Every (λ (linked : Linked). linked.port.adjacency.own.instance.0 ≤ w.numbers.instances)
      site.controller.ports)

-- *The line of each label* of each link
abbrev pub HasAddress : Option Node → Addr → Type 0
HasAddress None address = ⊥
HasAddress (Some node) address = node.address ≡ address

pub record IsLinkLabel (topology : Topology) (link : LinkLabel) : Type 0 where
  pub way : IsWay topology (way_of link)
  pub address : (role : Role) → HasAddress (node_at topology (link.node role)) (link.address role)
  pub label : is_label_number link.label ≡ true

-- moves lead to one that the network shows
pub record HasLabelLine (past : Past) (link : LinkLabel) : Type 0 where
  pub line : labels.Line
  pub reached : labels_law.IsReached line
  pub shows : WorldShows link (IsLike past.now link) past.now line

-- *The line of each input* that is a label of a linked port
abbrev pub IsInput : Controller → End → Type 0
IsInput c input = IsLabelEnd (setups_of c) input

abbrev pub HasInputLine : World → NodeId → Site → (input : End) → Type 0
HasInputLine w node site input = ReachedAs node input site w.notes.frames w.numbers.instances Anything

-- *What cells mean*: each cell of each queue
abbrev pub HasMeanings : Past → Type 0
HasMeanings past =
    (place : Place) (cell : Cell) → IsPlace past.topology place → Contains (queue_at past.now place) cell
    → Means past (heading_at past.topology place cell.header.channel) cell.header.last cell.mark

-- *Packets*: of each packet there is at most one last cell, or one record of its fate, and exactly one of the two where it
-- was accepted and the ledger has no entry of it; of one that wasn't sent yet nothing is made. Each record is true
pub record HasPacketsOnce (past : Past) : Type 0 where
  pub once : (k : ℕ) → 0 < k → last_cells past.now k + fates_of past k ≤ 1
  pub kept : (k : ℕ) → WasAccepted past k → has_loss_of k past.now.notes.entries ≡ false
      → last_cells past.now k + fates_of past k ≡ 1
  pub unsent : (k frame : ℕ) → past.now.sent < k → payload_of (frames_of past) (record { packet = k; frame = frame }) ≡ None
  pub later : (k : ℕ) → past.now.sent < k → last_cells past.now k ≡ 0
  pub true_fates : AreTrueFates past

-- *All of it*, part by part
abbrev pub HasAllShapes : Past → Type 0
HasAllShapes past = EachSite past.now (HasShapes past.now)

abbrev pub HasAllPortsUp : Past → Type 0
HasAllPortsUp past = EachSite past.now (HasPortsUp past.now)

abbrev pub HasAllNumbers : Past → Type 0
HasAllNumbers past = HasNumbers past.now

abbrev pub HasAllReady : Past → Type 0
HasAllReady past = EachSite past.now (λ node site. IsReadySite site)

abbrev pub HasAllMade : Past → Type 0
HasAllMade past = AreMade (frames_of past)

abbrev pub HasAllLabels : Past → Type 0
HasAllLabels past = (link : LinkLabel) → IsLinkLabel past.topology link → HasLabelLine past link

abbrev pub HasAllInputs : Past → Type 0
HasAllInputs past = EachSite past.now (λ node site. (input : End) → IsInput site.controller input → HasInputLine past.now node site input)

abbrev pub HasAllUsers : Past → Type 0
HasAllUsers past = (link : LinkLabel) → IsLinkLabel past.topology link → HasUsersOfLast past link

abbrev pub HasAllCleared : Past → Type 0
HasAllCleared past = (way : Way) → IsWay past.topology way → HasClearedEnds past way

abbrev pub HasAllJoins : Past → Type 0
HasAllJoins past = EachSite past.now (HasJoins past.now)

abbrev pub HasAllLedOnce : Past → Type 0
HasAllLedOnce past = (node : NodeId) → LeadsOnce past.now node

abbrev pub HasAllHops : Past → Type 0
HasAllHops past = (link : LinkLabel) → IsLinkLabel past.topology link → HasHops past link

abbrev pub HasAllPassed : Past → Type 0
HasAllPassed past = (node : NodeId) → HasPassed past.now node

-- names and addresses are right in what the lines show: they are seen by instances
pub record IsWorld (past : Past) : Type 0 where
  pub shapes : HasAllShapes past
  pub ports_up : HasAllPortsUp past
  pub numbers : HasAllNumbers past
  pub ready : HasAllReady past
  pub made : HasAllMade past
  pub labels : HasAllLabels past
  pub inputs : HasAllInputs past
  pub users : HasAllUsers past
  pub cleared : HasAllCleared past
  pub joins : HasAllJoins past
  pub once : HasAllLedOnce past
  pub hops : HasAllHops past
  pub passed : HasAllPassed past
  -- what stands on default channels is in its encapsulation, and messages of IFMP are in their range
  pub meanings : HasMeanings past
  pub packets : HasPacketsOnce past
