-- what holds of a carry in a run, and what each law makes of it

use Rattle.std.proofs.Common.{◌≡◌, zero, List, [], ◌∷◌, Some, refl, sym, ap, subst, arith}
use Rattle.std.specs.Prelude.{Contains}
use Rattle.std.specs.Option.{is_some}
use Rattle.world_model.specs.Words.{Policy, Place, Down, Up, Out, Cell, Mark, Frame, Topology, World, Site, site_at, queue_at, IsTopology, IsPlace, CountsAsItsFrame, next, past_of}
use Rattle.world_model.specs.network_model.declared.link.LinkEnd.{LinkEnd}
use Rattle.world_model.specs.network_model.declared.event.Event.{Event}
use Rattle.world_model.specs.network_model.declared.event.Event.TheVariants.{Carry}
use Rattle.law_causes.proofs.Shown.{IsPeer, peer_back}
use Rattle.law_run_facts.specs.law_world_views.Between.{IsWorld, setups_of}
use Rattle.law_run_facts.specs.law_world_views.Kept.{Comes}
use Rattle.law_run_facts.specs.law_world_views.law_shown_cells.Seen.{Extends}
use Rattle.law_run_facts.specs.Nodes.{HasSite, HasPort, IsNodeOfRun}
use Rattle.law_run_facts.specs.Steps.{HasFront}
use Rattle.law_run_facts.proofs.Nodes.{runs_have_nodes}
use Rattle.law_run_facts.proofs.Rooms.{runs_keep_nodes}
use Rattle.law_run_facts.proofs.Steps.{runs_have_fronts}
use Rattle.law_control_places.proofs.Chains.{chains_are_their_frames}
use Rattle.law_live_control_links.proofs.Runs.{runs_are_steady}
use Rattle.law_live_rests.specs.Law.{address_at}
use Rattle.law_live_hearing.specs.Law.{world_at}
use Rattle.law_live_orders.specs.Law.{coming, IsOpenWay}
use Rattle.law_live_orders.specs.Messages.{StayMade}
use Rattle.law_live_orders.proofs.Slots.{unlost_find_slots}
use Rattle.law_live_passed_by.proofs.Carries.{carries_for_others_are_unseen}
use Rattle.law_live_unsaid.specs.Carries.{BringsNothing, IsUnansweredCarry}
use Rattle.law_live_unsaid.proofs.Unanswered.{sound_sends_by_labels}
use Rattle.law_live_unsaid.proofs.Carries.{carries_say_none}
use Rattle.law_live_going.specs.Law.{IsCalmWay, IsCalmEnd}
use Rattle.law_live_peace.specs.Law.{IsUnansweredAt, IsInPeace, CarriesAreCalm}

-- *What was made stays*
pub all_stay : (before after : List Frame) (marks : List Mark) → Extends before after → StayMade before after marks
all_stay before after [] extends = tt
all_stay before after (mark ∷ marks) extends = ((λ payload made. extends.kept mark payload made), all_stay before after marks extends)

module _ (policy : Policy) (topology : Topology) (before : List Event) (place : Place) (comes : Comes policy topology before (Carry place))
    (world : IsWorld (past_of policy topology before)) where
  abbrev w : World
  w = world_at policy topology before

  front : HasFront policy topology before (Carry place)
  front = runs_have_fronts policy topology before (Carry place) comes

  is : IsTopology topology
  is = comes.run.topology_is

  meant : IsPlace topology place
  meant = front.can.meant

  pub counts : CountsAsItsFrame w (Carry place)
  counts = chains_are_their_frames policy topology before (Carry place) comes.tame

  node_of : (end : LinkEnd) (site : Site) → site_at w end.node ≡ Some site → IsNodeOfRun policy (past_of policy topology before) end.node site
  node_of end site found = runs_have_nodes policy topology before comes.addresses front.run end.node site found

  -- *What is unanswered* here is so as `law_live_unsaid` wants it: grants are of labels, and marks count from 1
  unanswered : (end : LinkEnd) (at : Place) → IsUnansweredAt w end at → IsUnansweredCarry w end at
  unanswered end (Down node) none = tt
  unanswered end (Out node port) none = tt
  unanswered end (Up node) none = λ same site found. record {
    labels = sound_sends_by_labels (setups_of site.controller) site.controller (node_of end site found).conduct.sound;
    brings = brings same site found (queue_at w (Up end.node)) refl;
  }
    where
      brings : node.0 ≡ end.node.0 → (site : Site) → site_at w end.node ≡ Some site → (q : List Cell) → queue_at w (Up end.node) ≡ q → BringsNothing w end site q
      brings same site found [] e = tt
      brings same site found (cell ∷ cells) e = (
        world.numbers.counted (Up end.node) cell (subst (λ (q : List Cell). Contains q cell) (sym e) (zero, omega arith, refl)),
        λ taker payload ends. none same site cell cells taker payload found e ends,
      )

  -- *Each way*, and its end
  way_calm : (one far : LinkEnd) → IsOpenWay topology w one far → IsInPeace topology w one far place → IsUnansweredAt w one place → IsCalmWay topology w one far place
  way_calm one far way peace none = record {
    is_open = way;
    unlost = unlost_find_slots topology w one far place is way meant peace.unlost;
    stays = all_stay w.notes.frames (next topology w (Carry place)).notes.frames (coming w one far) (runs_are_steady policy topology before (Carry place) comes world one.node).1.stays;
    quiet = carries_say_none topology w one place (address_at w one.node) (peer_back topology is one far way.linked).own (unanswered one place none);
  }

  end_calm : (one far : LinkEnd) → IsOpenWay topology w one far → IsInPeace topology w one far place → IsCalmEnd topology w far place
  end_calm one far way peace =
      let peer : IsPeer topology one far = peer_back topology is one far way.linked in
      let there : HasSite w far.node = runs_keep_nodes policy topology before front.run far.node peer.node in
      let port : HasPort there.site.controller far.port = (node_of far there.site there.is).ports.found far.port (ap is_some peer.back) in
      record { site = there.site; there = there.is; linked = port.linked; of_port = port.is; counts = counts; unlost = peace.unlost }

  turned : (one far : LinkEnd) → IsInPeace topology w one far place → IsInPeace topology w far one place
  turned one far peace = record {
    unlost = peace.unlost;
    others = λ none far_none. ((peace.others far_none none).1, (peace.others far_none none).0);
    unanswered = peace.far_unanswered;
    far_unanswered = peace.unanswered;
  }

pub carries_are_calm : CarriesAreCalm
carries_are_calm policy topology before one far place comes world there back peace =
    let w : World = world_at policy topology before in
    let again : IsInPeace topology w far one place = turned policy topology before place comes world one far peace in
    record {
      there = way_calm policy topology before place comes world one far there peace peace.unanswered;
      back = way_calm policy topology before place comes world far one back again peace.far_unanswered;
      near = end_calm policy topology before place comes world far one back again;
      far_end = end_calm policy topology before place comes world one far there peace;
      goes_by = refl;
      far_goes_by = refl;
      alike = λ none far_none. carries_for_others_are_unseen topology w one far place (counts policy topology before place comes world)
          (peace.others none far_none).0 (peace.others none far_none).1 none far_none;
    }
