-- a last cell that comes to the controller: what was made under its mark is heard, and acts

use Rattle.std.proofs.Common.{◌≡◌, ℕ, true, List, [], ◌∷◌, drop, Some, sym, ◌∙◌, ap, subst}
use Rattle.world_model.specs.Words.{Policy, Up, Cell, payload_of, nothing_taken, taker_of, with_reassembly, frame_holds, Topology, World, Site, site_at, queue_at, with_queue_in, next}
use Rattle.world_model.specs.Controller.{Acted}
use Rattle.world_model.specs.Cells.{Taker}
use Rattle.world_model.specs.network_model.declared.link.LinkEnd.{LinkEnd}
use Rattle.world_model.specs.network_model.declared.event.Event.{Event}
use Rattle.world_model.specs.network_model.declared.event.Event.TheVariants.{Carry}
use Rattle.law_live_binding_beats.specs.law_live_hearing.Law.{world_at, acting, Hears}
use Rattle.law_live_binding_beats.proofs.law_live_hearing.Hearing.{controller_hears}
use Rattle.law_live_binding_beats.specs.law_live_others.Law.{IsUp, LeavesAlike}
use Rattle.law_live_binding_beats.specs.law_live_unsaid.Law.{IsUnanswered}
use Rattle.law_live_binding_beats.specs.law_live_unsaid.Carries.{BringsNothing}
use Rattle.law_live_binding_beats.proofs.law_live_bound.Worlds.{heard_as}
use Rattle.law_live_binding_beats.specs.Law.{BindByQueues, alike}
use Rattle.law_live_brought.proofs.Whole.{one_payload}
use Rattle.law_live_brought.proofs.Heard.{left_so}
use Rattle.law_live_brought.proofs.Made.{WasMade, last_made}
use Rattle.law_live_brought.proofs.Moment.{marked, Brings, found, within, counted, stays_up, SaysNow, DoesNow, unanswered_says_none, one_site, one_taker}

-- *A last cell* at the head of the queue
pub record LastCell {policy : Policy} {topology : Topology} {before : List Event} {one far : LinkEnd} {ends : BindByQueues (world_at policy topology before) one far}
    (moment : Brings policy topology before ends) : Type 0 where
  pub cell : Cell
  pub cells : List Cell
  pub queue : queue_at (world_at policy topology before) (Up one.node) ≡ cell ∷ cells
  pub last : cell.header.last ≡ true

module _ {policy : Policy} {topology : Topology} {before : List Event} {one far : LinkEnd} {ends : BindByQueues (world_at policy topology before) one far}
    {moment : Brings policy topology before ends} (c : LastCell moment) where
  abbrev w : World
  w = world_at policy topology before

  abbrev v : World
  v = next topology w (Carry (Up one.node))

  abbrev site : Site
  site = ends.bind.shows.site

  abbrev cell : Cell
  cell = c.cell

  abbrev cells : List Cell
  cells = c.cells

  queue : queue_at w (Up one.node) ≡ cell ∷ cells
  queue = c.queue

  last : cell.header.last ≡ true
  last = c.last

  pub was_made : WasMade w cell
  was_made = last_made policy topology before moment.world one.node (within moment) moment.node.link cell cells queue last

  abbrev pub its_payload : List ℕ
  its_payload = was_made.payload

  abbrev payload : List ℕ
  payload = was_made.payload

  pub its_made : payload_of w.notes.frames cell.mark ≡ Some payload
  its_made = was_made.is

  made : payload_of w.notes.frames cell.mark ≡ Some payload
  made = its_made

  pub its_hearing : Hears topology w one.node cell.header.channel cell.mark payload
  its_hearing = controller_hears topology w one.node site (found moment) cell cells queue last payload made (counted moment) (moment.unlost cell cells queue)

  pub its_taking : taker_of site.controller cell.header.channel ≡ Some its_hearing.taker
  its_taking = ap (λ (s : Site). taker_of s.controller cell.header.channel) (one_site site its_hearing.site (sym (found moment) ∙ its_hearing.found)) ∙ its_hearing.takes

  module _ (t : Taker) (takes : taker_of site.controller cell.header.channel ≡ Some t) where
    abbrev a : Acted
    a = with_reassembly (acting w site) t nothing_taken

    abbrev b : Acted
    b = frame_holds a t cell.mark payload

    pub acts_so : site_at v one.node ≡ Some (record (with_queue_in site (Up one.node) (drop 1 (queue_at w (Up one.node)))) { controller = b.controller })
    acts_so = heard_as topology w one.node cell.header.channel cell.mark payload its_hearing site (found moment) t takes

    pub up_behind : IsUp b
    up_behind = stays_up moment (record (with_queue_in site (Up one.node) (drop 1 (queue_at w (Up one.node)))) { controller = b.controller }) acts_so

    pub alike_now : LeavesAlike one.port a b → DoesNow moment []
    alike_now kept = alike (left_so topology w one ends.bind.shows cell t takes cell.mark payload acts_so kept)

    pub none_said : IsUnanswered one.port a t payload → SaysNow moment []
    none_said nothing = unanswered_says_none moment (subst (BringsNothing w one site) (sym queue) (
      marked moment cell cells queue,
      λ taker read ended.
          subst (λ (x : Taker). IsUnanswered one.port (with_reassembly (acting w site) x nothing_taken) x read) (one_taker t taker (sym takes ∙ ended.takes))
          (subst (λ (x : List ℕ). IsUnanswered one.port a t x) (one_payload payload read (sym its_hearing.whole ∙ ended.whole)) nothing),
    ))
