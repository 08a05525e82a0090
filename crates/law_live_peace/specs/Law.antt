-- A carry of a run in peace is calm, for the two ends of a link

use Rattle.std.specs.Prelude.{◌≡◌, ℕ, List, ◌∷◌, Some}
use Rattle.world_model.specs.Words.{Policy, Place, Up, Cell, nothing_taken, with_reassembly, Topology, World, Site, site_at, queue_at, past_of}
use Rattle.world_model.specs.Cells.{Taker}
use Rattle.world_model.specs.network_model.declared.link.LinkEnd.{LinkEnd}
use Rattle.world_model.specs.network_model.declared.event.Event.{Event}
use Rattle.world_model.specs.network_model.declared.event.Event.TheVariants.{Carry}
use Rattle.law_run_facts.specs.law_world_views.Between.{IsWorld}
use Rattle.law_run_facts.specs.law_world_views.Kept.{Comes}
use Rattle.law_live_rests.specs.Law.{address_at}
use Rattle.law_live_hearing.specs.Law.{world_at, acting}
use Rattle.law_live_orders.specs.Law.{IsOpenWay}
use Rattle.law_live_orders.specs.Slots.{IsUnlost}
use Rattle.law_live_passed_by.specs.Law.{BringsNone, IsForOthersAt}
use Rattle.law_live_unsaid.specs.Law.{IsUnanswered}
use Rattle.law_live_unsaid.specs.Carries.{EndsFrame}
use Rattle.law_live_going.specs.Law.{IsCalmCarry}

-- *Nothing is answered* to what a carry brings: the port at this end has nothing to say to a frame that it ends at its controller
abbrev pub IsUnansweredAt : World → LinkEnd → Place → Type 0
IsUnansweredAt w end (Up node) = node.0 ≡ end.node.0 → (site : Site) (cell : Cell) (cells : List Cell) (taker : Taker) (payload : List ℕ)
    → site_at w end.node ≡ Some site → queue_at w (Up end.node) ≡ cell ∷ cells → EndsFrame w end.node site cell taker payload
    → IsUnanswered end.port (with_reassembly (acting w site) taker nothing_taken) taker payload
IsUnansweredAt w end place = Unit {0}

-- *A carry in peace*: the ledger has no entry of its cell behind it; if it brings neither end a message on its port's default
-- channel, what it brings is for others; and neither port has anything to say to it
pub record IsInPeace (topology : Topology) (w : World) (one far : LinkEnd) (place : Place) : Type 0 where
  pub unlost : IsUnlost topology w place
  pub others : BringsNone w one place → BringsNone w far place → IsForOthersAt w one place × IsForOthersAt w far place
  pub unanswered : IsUnansweredAt w one place
  pub far_unanswered : IsUnansweredAt w far place

-- *So it is calm* in a run before the first frame that was forged or passes by chance, where both ways of the link are open
abbrev pub CarriesAreCalm : Type 0
CarriesAreCalm = (policy : Policy) (topology : Topology) (before : List Event) (one far : LinkEnd) (place : Place)
    → Comes policy topology before (Carry place) → IsWorld (past_of policy topology before)
    → IsOpenWay topology (world_at policy topology before) one far → IsOpenWay topology (world_at policy topology before) far one
    → IsInPeace topology (world_at policy topology before) one far place
    → IsCalmCarry topology (world_at policy topology before) one far (address_at (world_at policy topology before) one.node)
    (address_at (world_at policy topology before) far.node) place
