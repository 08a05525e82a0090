-- A node stays mirrored behind each carry that brings its controller a cell

use Rattle.std.specs.Prelude.{◌≡◌, ℕ, ◌<◌, List, [], ◌∷◌, Some, Ok}
use Rattle.world_model.specs.Words.{Policy, NodeId, Up, Cell, Request, message_of, last_transaction, nothing_taken, with_reassembly, ForGsmp, CountsAsItsFrame, Topology, World, Site, site_at, queue_at, next, past_of}
use Rattle.world_model.specs.Cells.{Taker}
use Rattle.world_model.specs.gsmp_wire.declared.message.Message.{Message}
use Rattle.world_model.specs.switch_model.Requests.{result_of}
use Rattle.world_model.specs.gsmp_wire.Layout.{octets_of}
use Rattle.world_model.specs.gsmp_wire.Fields.{decoded}
use Rattle.world_model.specs.network_model.declared.event.Event.{Event}
use Rattle.world_model.specs.network_model.declared.event.Event.TheVariants.{Carry}
use Rattle.law_live_lasting.specs.law_run_facts.law_world_views.Between.{setups_of, IsWorld}
use Rattle.law_live_lasting.specs.law_run_facts.law_world_views.Kept.{Comes}
use Rattle.law_live_lasting.specs.law_live_hearing.Law.{world_at, acting}
use Rattle.law_live_lasting.specs.law_live_control.Calm.{HasLinks}
use Rattle.law_live_lasting.specs.law_live_control_links.Law.{IsCalmLink}
use Rattle.law_live_lasting.specs.law_live_unsaid.Carries.{EndsFrame}
use Rattle.law_live_mirrors.specs.Fit.{IsKnown, AsksFit}
use Rattle.law_live_lasting.specs.law_live_mirrored_worlds.Law.{AsksSome}
use Rattle.law_live_asking.specs.Law.{IsOfLabel}
use Rattle.law_live_asking.specs.Frames.{IsPlainMessage, MayCome}

-- *The first cell that waits* ends no frame, or one that may come to the controller
abbrev pub EndsWhatMayCome : World → NodeId → Site → List Cell → Type 0
EndsWhatMayCome w node site [] = Unit {0}
EndsWhatMayCome w node site (cell ∷ cells) =
    (taker : Taker) (payload : List ℕ) → EndsFrame w node site cell taker payload → MayCome (with_reassembly (acting w site) taker nothing_taken) taker payload

-- *What may be asked can be written*: the branch of a label or of a grant is read as that, and is fit for the switch
abbrev pub CanBeAsked : Site → Type 0
CanBeAsked site = (request : Request) → IsOfLabel site.controller request
    → (decoded (octets_of (message_of site.controller.desk.rows site.controller.desk.next request)) ≡ Ok (message_of site.controller.desk.rows site.controller.desk.next request))
    × AsksFit site.switch (message_of site.controller.desk.rows site.controller.desk.next request) request

-- *Then it asks some*, where no loss is entered by the carry
abbrev pub CarriesAskSome : Type 0
CarriesAskSome = (topology : Topology) (w : World) (node : NodeId) (site : Site) → site_at w node ≡ Some site → HasLinks site.controller
    → EndsWhatMayCome w node site (queue_at w (Up node)) → CanBeAsked site
    → (next topology w (Carry (Up node))).notes.entries ≡ w.notes.entries → AsksSome topology w node (Carry (Up node))

-- *In a run* what may be asked can be written, where the switch is as the controller knows it
abbrev pub KnownSwitchesAreAsked : Type 0
KnownSwitchesAreAsked = (policy : Policy) (topology : Topology) (before : List Event) (event : Event) (node : NodeId) (site : Site)
    → Comes policy topology before event → IsWorld (past_of policy topology before) → site_at (world_at policy topology before) node ≡ Some site
    → site.controller.desk.next < last_transaction
    → IsKnown (setups_of site.controller) site.controller.desk.rows site.switch → CanBeAsked site

-- *So it asks some* in a run before the first frame that was forged or passes by chance
pub record IsCalmArrival (topology : Topology) (w : World) (node : NodeId) (site : Site) : Type 0 where
  pub known : IsKnown (setups_of site.controller) site.controller.desk.rows site.switch
  pub number_left : site.controller.desk.next < last_transaction
  pub may_come : EndsWhatMayCome w node site (queue_at w (Up node))
  pub unlost : (next topology w (Carry (Up node))).notes.entries ≡ w.notes.entries

abbrev pub CarriesAsk : Type 0
CarriesAsk = (policy : Policy) (topology : Topology) (before : List Event) (node : NodeId) (site : Site) → Comes policy topology before (Carry (Up node))
    → IsWorld (past_of policy topology before) → site_at (world_at policy topology before) node ≡ Some site
    → IsCalmArrival topology (world_at policy topology before) node site → AsksSome topology (world_at policy topology before) node (Carry (Up node))

-- *Where the control link is calm*, of what the switch says to a controller answers of success alone need be looked at
abbrev pub CalmLinksMayCome : Type 0
CalmLinksMayCome = (w : World) (node : NodeId) (link : IsCalmLink w node) (cell : Cell) (cells : List Cell) (payload : List ℕ) → CountsAsItsFrame w (Carry (Up node))
    → queue_at w (Up node) ≡ cell ∷ cells → EndsFrame w node link.site cell ForGsmp payload
    → ((message : Message) → decoded payload ≡ Ok message → result_of message ≡ 3 → IsPlainMessage (with_reassembly (acting w link.site) ForGsmp nothing_taken) message)
    → MayCome (with_reassembly (acting w link.site) ForGsmp nothing_taken) ForGsmp payload
