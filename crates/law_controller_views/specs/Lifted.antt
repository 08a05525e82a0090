-- What a rule of a port has to be for its controller to lead the line: the lift from a port to its controller

use Rattle.std.specs.Prelude.{◌≡◌, ℕ, ◌<◌, ◌≤◌, true, List, Some}
use Rattle.law_controller_facts.specs.world_model.Words.{PortNo, Addr, is_label_number, ifmp_packet_of, default_payload, Action, Say, Linked, linked_at, begins, Rule}
use Rattle.law_controller_facts.specs.world_model.ifmp_wire.declared.message.Message.{Message}
use Rattle.law_controller_facts.specs.world_model.ifmp_wire.Message.{octets_of as ifmp_octets}
use Rattle.law_controller_facts.specs.ordered_lists.Ordered.{Every}
use Rattle.law_shown_cells.specs.law_label_line.Cells as lines
use Rattle.law_shown_cells.specs.law_label_line.Cells.{Role}
use Rattle.law_controller_facts.specs.world_model.Controller.{Acted}
use Rattle.law_shown_cells.specs.law_port_views.Link.{LinkLabel}
use Rattle.law_shown_cells.specs.law_port_views.Reaching.{Leads}
use Rattle.law_shown_cells.specs.Seen.{IsUnmade}
use Rattle.law_shown_cells.specs.Label.{told_of}
use Rattle.law_controller_views.specs.Ends.{Grows}

-- the ports of a link are above 0, and a label's number is one
pub record IsProper (link : LinkLabel) : Type 0 where
  pub above : (role : Role) → 0 < (link.port role).0
  pub label : is_label_number link.label ≡ true

-- *A port's message*, as its frame's payload carries it: what a receiver reads in it is what was said
abbrev pub payload_by : (address : Addr) → Message → List ℕ
payload_by address message = default_payload (ifmp_packet_of address (ifmp_octets message))

abbrev pub IsReadable : (address : Addr) → Message → Type 0
IsReadable address message = told_of (payload_by address message) ≡ Some (record { source = address; message = message })

abbrev pub IsReadableAction : (address : Addr) → Action → Type 0
IsReadableAction address (Say message) = IsReadable address message
IsReadableAction address action = Unit {0}

-- *A rule* draws instances and gives none back, says what can be read, and leads the line at the link's port
pub record IsLifted (link : LinkLabel) (like : Type 0) (role : Role) (a : Acted) (port : PortNo) (rule : Rule) : Type 0 where
  pub drawn : (linked : Linked) → linked_at a.controller port ≡ Some linked
      → a.numbers.instances ≤ (rule linked.setup a.controller.desk (begins a linked)).instances
  pub reads : (linked : Linked) → linked_at a.controller port ≡ Some linked → port ≡ link.port role
      → Every (IsReadableAction (link.address role)) (rule linked.setup a.controller.desk (begins a linked)).actions
  pub leads : (linked : Linked) → linked_at a.controller port ≡ Some linked → port ≡ link.port role → (queued : List lines.Cell)
      → Leads role link like queued (begins a linked) (rule linked.setup a.controller.desk (begins a linked))

-- *Elsewhere* frames are made and numbers given out
abbrev pub Growing : (a b : Acted) → Type 0
Growing a b = IsUnmade a.numbers.controls a.notes.frames → Grows a b
