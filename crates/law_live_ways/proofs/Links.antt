-- no Delete All comes to a switch in peace, and what it reads keeps ways open

use Rattle.std.proofs.Common.{◌≡◌, ◌≢◌, ℕ, zero, ◌==◌, Bool, true, false, true≢false, not, List, [], ◌∷◌, ◌++◌, append-nil, drop, Option, None, Some, Result, refl, sym, ◌∙◌, ap, subst, arith, inl, inr, if◌then◌else◌}
use Rattle.std.specs.Prelude.{Contains}
use Rattle.std.specs.List.{list_any}
use Rattle.std.specs.Option.{option_and_then}
use Rattle.std.proofs.lemmas.List.Elements.{Contains-append_right}
use Rattle.std.proofs.lemmas.Bool.Decides.{nat_tests}
use Rattle.world_model.specs.Words.{NodeId, Place, Down, Up, Out, Cell, Frame, Request, Standing, AddBranch, MoveBranch, DeleteTree, VerifyTree, PortManagement, payload_of, default_channel, is_delete_all, is_deleting, is_clearing, Linked, port_key, Topology, World, Site, site_at, queue_at, same_queue, put_away, next, gsmp_of, copy_of, on_channel, requests_chain_at, OfSwitch, reassembly_at, cell_for, arrival, CountsAsItsFrame}
use Rattle.world_model.specs.Ways.{ok_of}
use Rattle.world_model.specs.gsmp_wire.declared.fault.Fault.{Fault}
use Rattle.world_model.specs.gsmp_wire.declared.message.Message.{Message}
use Rattle.world_model.specs.gsmp_wire.declared.request.Request.TheVariants.{DeleteAll, AllPorts}
use Rattle.world_model.specs.gsmp_wire.Layout.{octets_of as message_octets}
use Rattle.world_model.specs.gsmp_wire.Fields.{decoded}
use Rattle.world_model.specs.Stretches.{Reassembler, ended_at}
use Rattle.world_model.specs.Controller as controllers
use Rattle.world_model.specs.Cells as controller
use Rattle.world_model.specs.Ticks.{ticks}
use Rattle.world_model.specs.Topology.{peer_of}
use Rattle.world_model.specs.network_model.declared.link.LinkEnd.{LinkEnd}
use Rattle.world_model.specs.network_model.declared.event.Event.{Event}
use Rattle.world_model.specs.network_model.declared.event.Event.TheVariants.{Carry, Tick, TickSwitch}
use Rattle.world_model.proofs.Lists.{by_eq}
use Rattle.law_passing.specs.Reached.{switch_at, carried_to, reached, owns}
use Rattle.law_passing.specs.telling_model.Passing.{source_of, left_from, left}
use Rattle.law_passing.proofs.Worlds.{change_by_passing, of_the_actor}
use Rattle.law_run_facts.specs.law_controller.Order.{IsOfClearing, IsClearingAt}
use Rattle.law_run_facts.specs.law_world_views.Between.{setups_of}
use Rattle.law_run_facts.specs.ordered_lists.Ordered.{Every}
use Rattle.law_run_facts.proofs.ordered_lists.Every.{every_join, every_map}
use Rattle.law_run_facts.proofs.law_port_facts.Keyed.{on_both, at_every}
use Rattle.law_running_worlds.specs.law_shown_cells.Seen.{Extends}
use Rattle.law_branch_shapes.proofs.Kept.{copy_is}
use Rattle.law_live_hearing.specs.Law as hearing_law
use Rattle.law_live_hearing.proofs.Sites.{up_now, up_notes, up_site, queue_of_site}
use Rattle.law_live_control.specs.Calm.{IsOfCalm, IsCalmCell, Says}
use Rattle.law_live_control.specs.Law.{TicksOn}
use Rattle.law_live_control.proofs.Controllers.{tick_so}
use Rattle.law_live_control_links.specs.Law.{IsCalmLink, IsSteady, IsTrueEvent, ControllerListens}
use Rattle.law_live_control_links.proofs.Sites.{acting, controller_here, controller_frames}
use Rattle.law_live_control_links.proofs.Reading.{one_payload}
use Rattle.law_live_control_links.proofs.Heard.{Ended, ended_cell, IsHead, down_head}
use Rattle.law_live_control_links.proofs.Events.{goes_by}
use Rattle.law_run_facts.proofs.law_actor_pace.Controllers.{ticks_paces}
use Rattle.law_live_ways.specs.Requests.{AsksKeeping}
use Rattle.law_live_ways.specs.Deleting.{DeletesNone}
use Rattle.law_live_ways.specs.Law.{IsRead, KeepsWay}
use Rattle.law_live_ways.specs.Links.{ComesNone, StandsNoneIn, StandsNoneAt, MetStandNone, NoneComesStill, ReadsKeepWays, IsPeaceful, CarriesKeepWays}
use Rattle.law_live_ways.proofs.Deleting.{deletes, IsEmptied, not_so, none_of, tells_none, greets_none, none_is_read}
use Rattle.law_live_ways.proofs.Branches.{shapes_keep_ways}
use Rattle.law_live_ways.proofs.Ways.{ways_stay_open}

abbrev IsCalmIn : List Frame → Cell → Type 0
IsCalmIn frames cell = IsCalmCell DeletesNone frames cell

-- *What was made stays*
later_none : (old new : List Frame) → Extends old new → (cells : List Cell) → Every (IsCalmIn old) cells → Every (IsCalmIn new) cells
later_none old new stays cells h = every_map (IsCalmIn old) (IsCalmIn new) cells
    (λ cell calm on. (let k : IsOfCalm DeletesNone old cell = calm on in record { message = k.message; calm = k.calm; made = stays.kept cell.mark _ k.made })) h

behind_first : (P : Cell → Type 0) (cells : List Cell) → Every P cells → Every P (drop 1 cells)
behind_first P [] h = tt
behind_first P (cell ∷ cells) h = h.1

number_apart : (a b : ℕ) → a ≢ b → (a == b) ≡ false
number_apart a b apart = by_eq a b (λ same f. absurd (apart same)) (λ differs f. f)

module _ (topology : Topology) (w : World) (node : NodeId) (none : ComesNone w node) where
  abbrev down : Place
  down = Down node

  still_waits : (o : Option Place) → Every (IsCalmIn w.notes.frames) (left_from w o down)
  still_waits None = none
  still_waits (Some source) = on_both (Every (IsCalmIn w.notes.frames)) (same_queue source down) (drop 1 (queue_at w down)) (queue_at w down)
      (behind_first (IsCalmIn w.notes.frames) (queue_at w down) none) none

  -- *Where the controller says nothing*
  silent : (event : Event) → Extends w.notes.frames (next topology w event).notes.frames → owns (reached topology w event) down ≡ false → ComesNone (next topology w event) node
  silent event stays others =
      subst (Every (IsCalmIn (next topology w event).notes.frames))
      (sym (change_by_passing topology w event down ∙ (ap (λ (put : List Cell). left w event down ++ put) (of_the_actor topology w event down others) ∙ append-nil (left w event down))))
      (later_none w.notes.frames (next topology w event).notes.frames stays (left w event down) (still_waits (source_of event)))

  of_switches : (o : Option LinkEnd) → owns (switch_at o) down ≡ false
  of_switches None = refl
  of_switches (Some end) = refl

  past : (place : Place) → ((cell : Cell) (cells : List Cell) → owns (carried_to topology place (cell ∷ cells)) down ≡ false) → (q : List Cell) → owns (carried_to topology place q) down ≡ false
  past place each [] = refl
  past place each (cell ∷ cells) = each cell cells

  pub switch_ticks_on : (here : NodeId) → IsTrueEvent topology w (TickSwitch here) → ComesNone (next topology w (TickSwitch here)) node
  switch_ticks_on here true_event = silent (TickSwitch here) true_event.stays refl

  module _ (link : IsCalmLink w node) (steady : IsSteady topology w node) where
    abbrev site : Site
    site = link.site

    -- what waits behind an event is what waited, and what the controller said
    spoken : (v : World) (now : Site) (frames : List Frame) (later : List Cell) → site_at v node ≡ Some now → v.notes.frames ≡ frames → Extends w.notes.frames v.notes.frames
        → now.controller.queue ≡ site.controller.queue ++ later → Every (IsCalmIn frames) later → ComesNone v node
    spoken v now frames later found same stays queue calm =
        subst (Every (IsCalmIn v.notes.frames)) (sym (queue_of_site v node now down found ∙ queue))
        (every_join (IsCalmIn v.notes.frames) site.controller.queue later
        (later_none w.notes.frames v.notes.frames stays site.controller.queue (subst (Every (IsCalmIn w.notes.frames)) (queue_of_site w node site down link.found) none))
        (subst (λ (f : List Frame). Every (IsCalmIn f) later) (sym same) calm))

    -- *A cell comes to the controller*
    up_head : IsTrueEvent topology w (Carry (Up node)) → StandsNoneAt (next topology w (Carry (Up node))) node → (cell : Cell) (cells : List Cell) → queue_at w (Up node) ≡ cell ∷ cells
        → ComesNone (next topology w (Carry (Up node))) node
    up_head true_event stands cell cells queue =
        let v : World = next topology w (Carry (Up node)) in
        let a : controllers.Acted = hearing_law.acting w site in
        let heard : controllers.Acted = controller.cell_comes a cell in
        let now : Site = up_now topology w node site link.found cell cells in
        let found : site_at v node ≡ Some now = up_site topology w node site link.found cell cells queue in
        let says : Says DeletesNone a heard =
        (goes_by topology w node link steady true_event (λ other there. (stands other there).unspent) cell cells queue DeletesNone IsEmptied tells_none (not_so _ (stands now found).none)).says in
        spoken v now heard.notes.frames says.later found (ap (λ notes. notes.frames) (up_notes topology w node site link.found cell cells queue)) true_event.stays says.queue says.calm

    same_node : (here : NodeId) → here.0 ≡ node.0 → node ≡ here
    same_node here same = λ i. record { 0 = sym same i }

    pub carries_on : (place : Place) → IsTrueEvent topology w (Carry place) → StandsNoneAt (next topology w (Carry place)) node → ComesNone (next topology w (Carry place)) node
    carries_on (Down here) true_event stands = silent (Carry (Down here)) true_event.stays (past (Down here) (λ cell cells. refl) (queue_at w (Down here)))
    carries_on (Out here port) true_event stands = silent (Carry (Out here port)) true_event.stays (past (Out here port) (λ cell cells. of_switches (peer_of topology here port)) (queue_at w (Out here port)))
    carries_on (Up here) true_event stands = by_eq here.0 node.0
        (λ same t. subst (λ (h : NodeId). IsTrueEvent topology w (Carry (Up h)) → StandsNoneAt (next topology w (Carry (Up h))) node → ComesNone (next topology w (Carry (Up h))) node) (same_node here same)
        own true_event stands)
        (λ apart t. silent (Carry (Up here)) true_event.stays (past (Up here) (λ cell cells. number_apart here.0 node.0 apart) (queue_at w (Up here))))
      where
        own : IsTrueEvent topology w (Carry (Up node)) → StandsNoneAt (next topology w (Carry (Up node))) node → ComesNone (next topology w (Carry (Up node))) node
        own true_event stands = by (queue_at w (Up node)) refl
          where
            by : (q : List Cell) → queue_at w (Up node) ≡ q → ComesNone (next topology w (Carry (Up node))) node
            by [] is = silent (Carry (Up node)) true_event.stays (ap (λ (q : List Cell). owns (carried_to topology (Up node) q) down) is)
            by (cell ∷ cells) is = up_head true_event stands cell cells is

    -- *It ticks*
    tick_own : IsTrueEvent topology w (Tick node) → ControllerListens w node → StandsNoneAt (next topology w (Tick node)) node → ComesNone (next topology w (Tick node)) node
    tick_own true_event listens stands =
        let v : World = next topology w (Tick node) in
        let a : controllers.Acted = acting (put_away w) site in
        let now : Site = record site { controller = (ticks a).controller } in
        let found : site_at v node ≡ Some now = controller_here (put_away w) node site link.found ticks (λ b. (ticks_paces 0 b).node) in
        let frames : v.notes.frames ≡ (ticks a).notes.frames = controller_frames (put_away w) node site link.found ticks (λ b. (ticks_paces 0 b).node) in
        let stand : StandsNoneIn now.controller = stands now found in
        let t : TicksOn DeletesNone a (ticks a) = tick_so DeletesNone IsEmptied tells_none a site.switch.adjacency link.calm.met (steady.links site link.found) (listens site link.found)
        (greets_none site.controller.adjacency.own site.switch.adjacency.own) (stand.unspent, not_so _ stand.none) in
        spoken v now (ticks a).notes.frames t.says.later found frames true_event.stays t.says.queue t.says.calm

    pub ticks_on : (here : NodeId) → IsTrueEvent topology w (Tick here) → ControllerListens w here → StandsNoneAt (next topology w (Tick here)) node → ComesNone (next topology w (Tick here)) node
    ticks_on here = by_eq here.0 node.0
        (λ same t. subst (λ (h : NodeId). IsTrueEvent topology w (Tick h) → ControllerListens w h → StandsNoneAt (next topology w (Tick h)) node → ComesNone (next topology w (Tick h)) node) (same_node here same) tick_own)
        (λ apart t true_event listens stands. silent (Tick here) true_event.stays (number_apart here.0 node.0 apart))

pub none_comes_still : NoneComesStill
none_comes_still = record {
  carries = λ topology w node place link steady true_event stands none. carries_on topology w node none link steady place true_event stands;
  ticks = λ topology w node here link steady true_event listens stands none. ticks_on topology w node none link steady here true_event listens stands;
  switch_ticks = λ topology w node here true_event none. switch_ticks_on topology w node none here true_event;
}

-- *What is read* has the shape of what is asked
among : (before after : List Cell) (cell : Cell) → Contains (before ++ cell ∷ after) cell
among before after cell = Contains-append_right before (cell ∷ after) cell (zero, omega arith, refl)

pub reads_keep_ways : ReadsKeepWays
reads_keep_ways w node site message found shapes counts none read asked request is =
    let taker : Reassembler = OfSwitch node in
    let e : Ended (ended_at w (Carry (Down node)) taker) (cell_for taker (arrival w (Carry (Down node)))) =
    ended_cell w taker read.payload (reassembly_at w taker) (cell_for taker (arrival w (Carry (Down node)))) read.whole in
    let head : IsHead (queue_at w (Down node)) e.cell = down_head node e.cell (queue_at w (Down node)) e.is in
    let h : IsOfCalm DeletesNone w.notes.frames e.cell = (subst (Every (IsCalmIn w.notes.frames)) head.is none).0 head.on in
    let made : payload_of w.notes.frames e.cell.mark ≡ Some read.payload = ap (payload_of w.notes.frames) (sym e.last) ∙ counts taker read.payload read.whole in
    let deletes_none : DeletesNone message = none_is_read h.message message h.calm (ap decoded (one_payload (message_octets h.message) read.payload (sym h.made ∙ made)) ∙ read.read) in
    let copy = copy_is message asked request is in
    let here : on_channel default_channel (queue_at w (Down node)) ≡ e.cell ∷ on_channel default_channel head.later =
    ap (on_channel default_channel) head.is ∙ ap (λ (b : Bool). if b then e.cell ∷ on_channel default_channel head.later else on_channel default_channel head.later) head.on in
    shapes_keep_ways (setups_of site.controller) asked.request
    (shapes.copies (record { number = copy.0; request = asked.request }) e.cell
    (subst (λ (q : List Cell). Contains (requests_chain_at w node ++ q) e.cell) (sym here) (among (requests_chain_at w node) (on_channel default_channel head.later) e.cell))
    (ap (λ (o : Option (List ℕ)). option_and_then copy_of (option_and_then gsmp_of o)) made ∙ (ap (λ (r : Result Message Fault). option_and_then copy_of (ok_of r)) read.read ∙ copy.1)))
    (deletes_none asked is)

-- *At a desk* where no port waits to be cleared
itself : (n : ℕ) → (n == n) ≡ true
itself n = grind (arith, nat_tests)

none_deletes : (ports : List Linked) → Every (λ (linked : Linked). is_clearing linked.port.adjacency.state ≡ false) ports → (s : Standing) (request : Request) → s.request ≡ request → IsOfClearing ports s → is_deleting request ≡ false
none_deletes ports clear s (AddBranch i o) is h = refl
none_deletes ports clear s (MoveBranch i from to) is h = refl
none_deletes ports clear s (DeleteTree i) is h = refl
none_deletes ports clear s (VerifyTree i) is h = refl
none_deletes ports clear s (PortManagement port function) is h = refl
none_deletes ports clear s AllPorts is h = refl
none_deletes ports clear s (DeleteAll port) is h =
    let at : IsClearingAt ports port = h port (ap (is_delete_all port) is ∙ itself port.0) in
    absurd (true≢false (sym (ap is_clearing at.clearing) ∙ at_every port_key (λ (linked : Linked). is_clearing linked.port.adjacency.state ≡ false) port.0 ports at.linked clear at.found))

each_emptied : (ports : List Linked) → Every (λ (linked : Linked). is_clearing linked.port.adjacency.state ≡ false) ports → (standing : List Standing) → Every (IsOfClearing ports) standing → IsEmptied standing
each_emptied ports clear [] h = refl
each_emptied ports clear (s ∷ standing) h = none_of (deletes s) (list_any deletes standing) (none_deletes ports clear s s.request refl h.0) (each_emptied ports clear standing h.1)

pub met_stand_none : MetStandNone
met_stand_none c order met clear = ap not (each_emptied c.ports clear c.desk.standing (order.clearing met))

-- *A carry in peace*
pub carries_keep_ways : CarriesKeepWays
carries_keep_ways topology w one far place is way near there counts = ways_stay_open topology w one far (Carry place) is way (by place counts)
  where
    node_is : (x y : NodeId) → x.0 ≡ y.0 → y ≡ x
    node_is x y same = λ i. record { 0 = sym same i }

    at_node : (node : NodeId) → IsPeaceful w node → (here : NodeId) → here.0 ≡ node.0 → CountsAsItsFrame w (Carry (Down here)) → (message : Message) → IsRead w here message → AsksKeeping message
    at_node node p here same = subst (λ (h : NodeId). CountsAsItsFrame w (Carry (Down h)) → (message : Message) → IsRead w h message → AsksKeeping message) (node_is here node same)
        (λ counts message read. reads_keep_ways w node p.site message p.found p.shapes counts p.none read)

    by : (place : Place) → CountsAsItsFrame w (Carry place) → KeepsWay w one far (Carry place)
    by (Down here) counts = λ own. elim own [
      | inl same ↦ at_node one.node near here same counts
      | inr same ↦ at_node far.node there here same counts
    ]
    by (Up here) counts = tt
    by (Out here port) counts = tt
