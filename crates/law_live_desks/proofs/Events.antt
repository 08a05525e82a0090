-- each request that stands at a desk stays on its way behind each event

use Rattle.std.proofs.Common.{◌≡◌, ◌≢◌, ◌⊎◌, ℕ, zero, suc, ◌≤◌, ◌<◌, ◌==◌, ◌&&◌, Bool, true, false, true≢false, List, [], ◌∷◌, ◌++◌, length, drop, Option, None, Some, is_some, Result, refl, sym, ◌∙◌, ap, subst, inl, inr, arith, if◌then◌else◌}
use Rattle.std.specs.Prelude.{Contains, nat_lt}
use Rattle.std.specs.Option.{option_and_then}
use Rattle.std.proofs.lemmas.Bool.Decides.{nat_tests}
use Rattle.world_model.specs.Words.{NodeId, Place, Down, Up, Out, Cell, Frame, Standing, Desk, Journal, copy_of, copy_under, gsmp_of, gsmp_under, head_of, asked_in, is_request, is_estab, payload_of, default_channel, control_port, gsmp_holds, frame_read, Topology, World, Site, site_at, standing_at, queue_at, with_queue_in, controller_acts, same_queue, put_away, next}
use Rattle.world_model.specs.Ways.{ok_of, copy_by}
use Rattle.world_model.specs.gsmp_wire.declared.fault.Fault.{Fault}
use Rattle.world_model.specs.gsmp_wire.declared.message.Message.{Message}
use Rattle.world_model.specs.port_model.Desk.{message_at}
use Rattle.world_model.specs.frame_model.Reassembly.{Taken}
use Rattle.world_model.specs.Switch as switches
use Rattle.world_model.specs.Conduct as switch
use Rattle.world_model.specs.Controller as controllers
use Rattle.world_model.specs.Controller.{Acted}
use Rattle.world_model.specs.Cells as controller
use Rattle.world_model.specs.Ticks.{ticks}
use Rattle.world_model.specs.Topology.{peer_of}
use Rattle.world_model.specs.network_model.declared.link.LinkEnd.{LinkEnd}
use Rattle.world_model.specs.network_model.declared.event.Event.{Event}
use Rattle.world_model.specs.network_model.declared.event.Event.TheVariants.{Inject, Carry, Tick, TickSwitch}
use Rattle.world_model.proofs.Lists.{by_eq}
use Rattle.law_port_facts.specs.ordered_lists.Ordered.{Every}
use Rattle.law_port_facts.proofs.ordered_lists.Every.{every_map, every_map2}
use Rattle.law_shown_cells.specs.Seen.{Extends}
use Rattle.law_running_worlds.specs.law_input_steps.Asking.{IsReadable}
use Rattle.law_running_worlds.proofs.Greetings.{copy_is}
use Rattle.law_shown_cells.proofs.Frames.{same_is}
use Rattle.law_causes.proofs.Shown.{peer_back}
use Rattle.law_passing.specs.telling_model.Passing.{left, cells_put_at}
use Rattle.law_passing.proofs.Worlds.{change_by_passing}
use Rattle.law_passing.proofs.Controllers.{ticks_adds}
use Rattle.law_live_hearing.specs.Law as hearing_law
use Rattle.law_live_hearing.proofs.Sites.{switching, up_notes, up_site, down_now, down_notes, down_site, queue_of_site}
use Rattle.law_live_hearing.proofs.Hearing.{controller_hears, switch_hears}
use Rattle.law_live_orders.proofs.Sites.{nine_queues}
use Rattle.law_live_control_links.specs.Law.{IsCalmLink, IsSteady}
use Rattle.law_live_control_links.proofs.Sites.{acting, controller_here}
use Rattle.law_live_desks.specs.Law.{IsCopy, IsAnswer, Answers, IsOnItsWay, asked as is_asked, answered as is_answered, AreOnTheirWay, LosesNothing, RequestsAreRead, IsCalmCarry, CarriesKeepDesks, TicksKeepDesks, SwitchTicksKeepDesks, InjectsKeepDesks, TicksSendAgain, RestingDesksAreEmpty}
use Rattle.law_live_desks.proofs.Ledger.{tested_more, taken_more}
use Rattle.law_live_desks.proofs.Standing.{IsThere, stood, sent, Kept}
use Rattle.law_live_desks.proofs.Walks.{ticks_kept}
use Rattle.law_live_desks.proofs.Again.{tick_sends}
use Rattle.law_live_desks.proofs.Frames.{begins_so, told_kept, cell_kept}
use Rattle.law_live_desks.proofs.Hearing.{controller_told, told, after_told, switch_asked, asked, after_asked}
use Rattle.law_live_desks.proofs.Switches.{IsAnswered, same_answer, request_heard}
use Rattle.law_live_desks.proofs.Sites.{stands_in, down_stands, out_stands, up_stands, nothing_up_stands, tick_stands, switch_tick_stands, inject_stands}
use Rattle.law_live_desks.proofs.Answered.{answered_each}
use Rattle.law_live_desks.proofs.Ways.{way_later, way_grows, down_taken, up_taken, EndsFrame, ends, ends_none, does_end, DoesEnd, IsMade, message_made, IsAsked, copy_made}

-- *What an event leaves* in a queue
number_apart : (a b c d : ℕ) → c ≢ d → ((a == b) && (c == d)) ≡ false
number_apart a b c d apart = grind (arith, nat_tests, apart)

node_apart : (a b : ℕ) (rest : Bool) → a ≢ b → ((a == b) && rest) ≡ false
node_apart a b rest apart = grind (arith, nat_tests, apart)

itself : (n : ℕ) → (n == n) ≡ true
itself n = grind (arith, nat_tests)

module _ (w : World) (source place : Place) where
  left_other : same_queue source place ≡ false → left w (Carry source) place ≡ queue_at w place
  left_other other = ap (λ (b : Bool). if b then drop 1 (queue_at w place) else queue_at w place) other

  left_own : same_queue source place ≡ true → left w (Carry source) place ≡ drop 1 (queue_at w place)
  left_own own = ap (λ (b : Bool). if b then drop 1 (queue_at w place) else queue_at w place) own

module _ (topology : Topology) (w : World) (node : NodeId) where
  abbrev down : Place
  down = Down node

  abbrev up : Place
  up = Up node

  -- *Among what an event leaves*
  abbrev IsLeft : Event → Standing → Type 0
  IsLeft event s = IsOnItsWay (next topology w event).notes.frames (left w event down) (left w event up) s

  abbrev IsThen : Event → Standing → Type 0
  IsThen event s = IsOnItsWay (next topology w event).notes.frames (queue_at (next topology w event) down) (queue_at (next topology w event) up) s

  grown : (event : Event) (s : Standing) → IsLeft event s → IsThen event s
  grown event s way =
      let v : World = next topology w event in
      subst (λ (q : List Cell). IsOnItsWay v.notes.frames q (queue_at v up) s) (sym (change_by_passing topology w event down))
      (subst (λ (q : List Cell). IsOnItsWay v.notes.frames (left w event down ++ cells_put_at topology w event down) q s) (sym (change_by_passing topology w event up))
      (way_grows v.notes.frames (left w event down) (left w event up) (cells_put_at topology w event down) (cells_put_at topology w event up) s way))

  later : (event : Event) → Extends w.notes.frames (next topology w event).notes.frames → AreOnTheirWay w node → Every (IsOnItsWay (next topology w event).notes.frames (queue_at w down) (queue_at w up)) (standing_at w node)
  later event stays ways = every_map (IsOnItsWay w.notes.frames (queue_at w down) (queue_at w up)) (IsOnItsWay (next topology w event).notes.frames (queue_at w down) (queue_at w up)) (standing_at w node)
      (way_later w.notes.frames (next topology w event).notes.frames (queue_at w down) (queue_at w up) stays) ways

  -- *Where nothing of it is taken*, and the desk stays
  silent : (event : Event) → Extends w.notes.frames (next topology w event).notes.frames → left w event down ≡ queue_at w down → left w event up ≡ queue_at w up
      → standing_at (next topology w event) node ≡ standing_at w node → AreOnTheirWay w node → AreOnTheirWay (next topology w event) node
  silent event stays same_down same_up stands ways =
      let frames : List Frame = (next topology w event).notes.frames in
      subst (Every (IsThen event)) (sym stands) (every_map (IsLeft event) (IsThen event) (standing_at w node) (grown event)
      (subst (λ (q : List Cell). Every (IsOnItsWay frames q (left w event up)) (standing_at w node)) (sym same_down)
      (subst (λ (q : List Cell). Every (IsOnItsWay frames (queue_at w down) q) (standing_at w node)) (sym same_up) (later event stays ways))))

  -- *Its controller acts*
  module _ (event : Event) (base : Site) (after : Acted) (found : site_at (next topology w event) node ≡ Some (record base { controller = after.controller }))
      (notes : (next topology w event).notes ≡ after.notes) (loses : LosesNothing topology w event) (reads : RequestsAreRead (next topology w event) node) where
    abbrev v : World
    v = next topology w event

    abbrev now : Site
    now = record base { controller = after.controller }

    abbrev desk : Desk
    desk = after.controller.desk

    asked_now : (s : Standing) → IsThere (IsLeft event) desk.rows after.controller.queue after.notes.frames after.numbers.controls s → IsReadable (message_at desk s) → IsThen event s
    asked_now s (stood way) read = grown event s way
    asked_now s (sent cell among c) read = is_asked cell (subst (λ (q : List Cell). Contains q cell) (sym (queue_of_site v node now down found)) among) (record {
      last = c.last;
      on = c.on;
      asks = ap (copy_under v.notes.frames) c.is
          ∙ (ap (λ (o : Option (List ℕ)). option_and_then copy_of (option_and_then gsmp_of o)) (ap (λ (n : Journal). payload_of n.frames (record { packet = 0; frame = c.number })) notes ∙ c.made)
          ∙ (ap (option_and_then copy_of) read ∙ copy_is desk.rows s.number s.request));
    })

    pub acted : Kept (IsLeft event) (length w.notes.entries) after → AreOnTheirWay v node
    acted k = subst (Every (IsThen event)) (sym (ap stands_in found))
        (every_map2 (IsThere (IsLeft event) desk.rows after.controller.queue after.notes.frames after.numbers.controls) (λ (s : Standing). IsReadable (message_at desk s)) (IsThen event) desk.standing asked_now
        (k.each (sym (ap (λ (n : Journal). length n.entries) notes) ∙ ap length loses)) (reads now found))

  -- *A tick*
  same_node : (here : NodeId) → here.0 ≡ node.0 → node ≡ here
  same_node here same = λ i. record { 0 = sym same i }

  tick_own : Extends w.notes.frames (next topology w (Tick node)).notes.frames → LosesNothing topology w (Tick node) → RequestsAreRead (next topology w (Tick node)) node
      → AreOnTheirWay w node → AreOnTheirWay (next topology w (Tick node)) node
  tick_own stays loses reads ways = by (site_at w node) refl
    where
      u : World
      u = put_away w

      by : (o : Option Site) → site_at w node ≡ o → AreOnTheirWay (next topology w (Tick node)) node
      by None found = silent (Tick node) stays refl refl (ap (λ (o : Option Site). standing_at (controller_acts u o ticks) node) found) ways
      by (Some site) found =
          let a : Acted = acting u site in
          acted (Tick node) site (ticks a) (controller_here u node site found ticks (λ b. (ticks_adds b).node)) (ap (λ (o : Option Site). (controller_acts u o ticks).notes) found) loses reads
          (ticks_kept (IsLeft (Tick node)) (length w.notes.entries) a
          (begins_so (IsLeft (Tick node)) (length w.notes.entries) a (subst (Every (IsLeft (Tick node))) (ap stands_in found) (later (Tick node) stays ways)) (omega arith)))

  pub tick_on : (here : NodeId) → Extends w.notes.frames (next topology w (Tick here)).notes.frames → LosesNothing topology w (Tick here) → RequestsAreRead (next topology w (Tick here)) node
      → AreOnTheirWay w node → AreOnTheirWay (next topology w (Tick here)) node
  tick_on here = by_eq here.0 node.0
      (λ same t. subst (λ (h : NodeId). Extends w.notes.frames (next topology w (Tick h)).notes.frames → LosesNothing topology w (Tick h) → RequestsAreRead (next topology w (Tick h)) node
      → AreOnTheirWay w node → AreOnTheirWay (next topology w (Tick h)) node) (same_node here same) tick_own)
      (λ apart t stays loses reads ways. silent (Tick here) stays refl refl (tick_stands topology w node here apart) ways)

  -- *A carry*
  module _ (link : IsCalmLink w node) (steady : IsSteady topology w node) (ways : AreOnTheirWay w node) where
    abbrev site : Site
    site = link.site

    -- to its controller
    module _ (calm : IsCalmCarry topology w node up) (cell : Cell) (cells : List Cell) (queue : queue_at w up ≡ cell ∷ cells) where
      abbrev a : Acted
      a = hearing_law.acting w site

      abbrev event : Event
      event = Carry up

      abbrev Kept_to : Acted → Type 0
      Kept_to b = Kept (IsLeft event) (length w.notes.entries) b

      abbrev IsTaken : Standing → Type 0
      IsTaken s = IsLeft event s ⊎ IsAnswer w.notes.frames s cell

      taken_up : (s : Standing) → IsOnItsWay w.notes.frames (queue_at w down) (queue_at w up) s → IsTaken s
      taken_up s way = elim (up_taken w.notes.frames (queue_at w down) cell cells s (subst (λ (q : List Cell). IsOnItsWay w.notes.frames (queue_at w down) q s) queue way)) [
        | inl left_there ↦ inl (subst (λ (q : List Cell). IsOnItsWay (next topology w event).notes.frames q (left w event up) s) (sym (left_other w up down (number_apart node.0 node.0 1 0 (λ e. cc e))))
            (subst (λ (q : List Cell). IsOnItsWay (next topology w event).notes.frames (queue_at w down) q s) (sym (left_own w up up (ap (λ (b : Bool). b && true) (itself node.0)) ∙ ap (drop 1) queue))
            (way_later w.notes.frames (next topology w event).notes.frames (queue_at w down) cells calm.true_event.stays s left_there)))
        | inr answers ↦ inr answers
      ]

      each : Every IsTaken site.controller.desk.standing
      each = subst (Every IsTaken) (ap stands_in link.found) (every_map (IsOnItsWay w.notes.frames (queue_at w down) (queue_at w up)) IsTaken (standing_at w node) taken_up ways)

      marked : cell.mark.packet ≡ 0 → 0 < cell.mark.frame
      marked = steady.marks cell (subst (λ (q : List Cell). Contains q cell) (sym queue) (zero, omega arith, refl))

      by_end : DoesEnd gsmp_under w.notes.frames cell → Kept_to (controller.cell_comes a cell)
      by_end (ends_none none) = cell_kept (IsLeft event) (length w.notes.entries) a cell marked (every_map IsTaken (IsLeft event) site.controller.desk.standing (λ s either. elim either [
        | inl way ↦ way
        | inr answer ↦ absurd (none answer.message (record { last = answer.last; on = answer.on; is = answer.says }))
      ]) each) (omega arith)
      by_end (ends message e) =
          let made : IsMade w.notes.frames cell.mark message = message_made w.notes.frames cell.mark message e.is in
          let hears = controller_hears topology w node site link.found cell cells queue e.last made.payload made.made calm.counts (calm.unlost cell cells queue) in
          let t : Taken = told w node site link.found cell cells e.on made.payload queue in
          let b : Acted = after_told w node site link.found cell cells e.on made.payload queue in
          subst Kept_to (sym (controller_told w node site link.found cell cells e.on made.payload queue hears.whole ∙ ap (gsmp_holds b) made.read))
          (told_kept (IsLeft event) (length w.notes.entries) b message (begins_so (IsLeft event) (length w.notes.entries) _
          (answered_each (IsLeft event) site.controller.desk message (every_map IsTaken (λ (s : Standing). IsLeft event s ⊎ Answers s message) site.controller.desk.standing (λ s either. elim either [
            | inl way ↦ inl way
            | inr answer ↦ inr (subst (Answers s) (one_message answer.message message (sym answer.says ∙ e.is)) answer.answers)
          ]) each))
          (tested_more (length w.notes.entries) t.notes t.ended (Some made.payload) (taken_more (length w.notes.entries) a.notes (nat_lt 0 (controllers.free_slots site.controller)) site.controller.reassembly cell (omega arith)))))
        where
          one_message : (x y : Message) → Some x ≡ Some y → x ≡ y
          one_message x y e = cc

      up_head : AreOnTheirWay (next topology w event) node
      up_head = acted event (with_queue_in site up cells) (controller.cell_comes a cell) (up_site topology w node site link.found cell cells queue) (up_notes topology w node site link.found cell cells queue)
          calm.loses_nothing calm.requests_are_read (by_end (does_end gsmp_under w.notes.frames cell))

    -- to its switch
    module _ (calm : IsCalmCarry topology w node down) (cell : Cell) (cells : List Cell) (queue : queue_at w down ≡ cell ∷ cells) where
      abbrev to_switch : Event
      to_switch = Carry down

      abbrev after_it : World
      after_it = next topology w to_switch

      abbrev carried : switches.ActedSwitch
      carried = switch.cell_comes (switching w site) control_port cell

      notes_are : after_it.notes ≡ carried.notes
      notes_are = down_notes topology w node site link.found cell cells queue

      abbrev IsTakenDown : Standing → Type 0
      IsTakenDown s = IsThen to_switch s ⊎ IsCopy w.notes.frames s cell

      taken_down : (s : Standing) → IsOnItsWay w.notes.frames (queue_at w down) (queue_at w up) s → IsTakenDown s
      taken_down s way = elim (down_taken w.notes.frames cell cells (queue_at w up) s (subst (λ (q : List Cell). IsOnItsWay w.notes.frames q (queue_at w up) s) queue way)) [
        | inl left_there ↦ inl (grown to_switch s (subst (λ (q : List Cell). IsOnItsWay after_it.notes.frames (left w to_switch down) q s) (sym (left_other w down up (number_apart node.0 node.0 0 1 (λ e. cc e))))
            (subst (λ (q : List Cell). IsOnItsWay after_it.notes.frames q (queue_at w up) s) (sym (left_own w down down (ap (λ (b : Bool). b && true) (itself node.0)) ∙ ap (drop 1) queue))
            (way_later w.notes.frames after_it.notes.frames cells (queue_at w up) calm.true_event.stays s left_there))))
        | inr copy ↦ inr copy
      ]

      copied : (copy : Standing) (e : EndsFrame copy_under w.notes.frames cell copy) → IsAnswered copy carried
      copied copy e =
          let k : IsAsked w.notes.frames cell.mark copy = copy_made w.notes.frames cell.mark copy e.is in
          let hears = switch_hears topology w node site link.found cell cells queue e.last (same_is cell.header.channel default_channel e.on) k.made.payload k.made.made calm.counts (calm.unlost cell cells queue) in
          let t : Taken = asked w node site link.found cell cells e.on k.made.payload queue in
          let b : switches.ActedSwitch = after_asked w node site link.found cell cells e.on k.made.payload queue in
          let heard : carried ≡ switch.message_heard b k.message = switch_asked w node site link.found cell cells e.on k.made.payload queue hears.whole ∙ ap (frame_read b) k.made.read in
          let request : is_request k.message ≡ true = is_asking (is_request k.message) (copy_by (head_of k.message) (asked_in k.message)) copy k.copy in
          subst (IsAnswered copy) (sym heard)
          (request_heard (length w.notes.entries) copy b (ap (λ (state : _). is_estab state) link.calm.met.other_is_up) (omega (arith, nine_queues w node site calm.shaped link.found))
          (tested_more (length w.notes.entries) t.notes t.ended (Some k.made.payload) (taken_more (length w.notes.entries) (put_away w).notes (nat_lt 0 (switches.free_slots site.switch)) site.switch.reassembly cell (omega arith)))
          k.message k.copy (calm.carries_out site cell cells k.made.payload k.message link.found queue e.last e.on k.made.made k.made.read request)
          (subst IsReadable (sym (same_answer site.switch t.reassembly b.notes k.message)) (calm.answer_is_read site cell cells k.message b.notes link.found queue e.on
          (ap (option_and_then gsmp_of) k.made.made ∙ ap (λ (r : Result Message Fault). ok_of r) k.made.read) request))
          (sym (ap (λ (x : switches.ActedSwitch). length x.notes.entries) heard) ∙ (sym (ap (λ (n : Journal). length n.entries) notes_are) ∙ ap length calm.loses_nothing)))
        where
          is_asking : (b : Bool) (o : Option Standing) (s : Standing) → (if b then o else None) ≡ Some s → b ≡ true
          is_asking true o s e = refl
          is_asking false o s e = absurd (cc e)

      by_copy : DoesEnd copy_under w.notes.frames cell → (s : Standing) → IsTakenDown s → IsThen to_switch s
      by_copy (ends_none none) s either = elim either [
        | inl way ↦ way
        | inr c ↦ absurd (none s (record { last = c.last; on = c.on; is = c.asks }))
      ]
      by_copy (ends copy e) s either = elim either [
        | inl way ↦ way
        | inr c ↦ (let h : IsAnswered copy carried = copied copy e in
            let same : copy ≡ s = cc (sym e.is ∙ c.asks) in
            is_answered h.cell (subst (λ (q : List Cell). Contains q h.cell) (sym (queue_of_site after_it node (down_now topology w node site link.found cell cells) up (down_site topology w node site link.found cell cells queue))) h.among)
            (subst (λ (x : Standing). IsAnswer after_it.notes.frames x h.cell) same (subst (λ (n : Journal). IsAnswer n.frames copy h.cell) (sym notes_are) h.is)))
      ]

      down_head : AreOnTheirWay after_it node
      down_head = subst (Every (IsThen to_switch)) (sym (down_stands topology w node node))
          (every_map (IsOnItsWay w.notes.frames (queue_at w down) (queue_at w up)) (IsThen to_switch) (standing_at w node)
          (λ s way. by_copy (does_end copy_under w.notes.frames cell) s (taken_down s way)) ways)

    -- where none waits there
    nothing : (place : Place) → (q : List Cell) → q ≡ [] → drop 1 q ≡ q
    nothing place q none = subst (λ (x : List Cell). drop 1 x ≡ x) (sym none) refl

    up_own : IsCalmCarry topology w node up → AreOnTheirWay (next topology w (Carry up)) node
    up_own calm = by (queue_at w up) refl
      where
        by : (q : List Cell) → queue_at w up ≡ q → AreOnTheirWay (next topology w (Carry up)) node
        by [] none = silent (Carry up) calm.true_event.stays (left_other w up down (number_apart node.0 node.0 1 0 (λ e. cc e)))
            (left_own w up up (ap (λ (b : Bool). b && true) (itself node.0)) ∙ nothing up (queue_at w up) none) (nothing_up_stands topology w node none) ways
        by (cell ∷ cells) queue = up_head calm cell cells queue

    down_own : IsCalmCarry topology w node down → AreOnTheirWay (next topology w (Carry down)) node
    down_own calm = by (queue_at w down) refl
      where
        by : (q : List Cell) → queue_at w down ≡ q → AreOnTheirWay (next topology w (Carry down)) node
        by [] none = silent (Carry down) calm.true_event.stays (left_own w down down (ap (λ (b : Bool). b && true) (itself node.0)) ∙ nothing down (queue_at w down) none)
            (left_other w down up (number_apart node.0 node.0 0 1 (λ e. cc e))) (down_stands topology w node node) ways
        by (cell ∷ cells) queue = down_head calm cell cells queue

    pub carried_on : (place : Place) → IsCalmCarry topology w node place → AreOnTheirWay (next topology w (Carry place)) node
    carried_on (Down here) = by_eq here.0 node.0
        (λ same t. subst (λ (h : NodeId). IsCalmCarry topology w node (Down h) → AreOnTheirWay (next topology w (Carry (Down h))) node) (same_node here same) down_own)
        (λ apart t calm. silent (Carry (Down here)) calm.true_event.stays (left_other w (Down here) down (node_apart here.0 node.0 _ apart)) (left_other w (Down here) up (node_apart here.0 node.0 _ apart)) (down_stands topology w node here) ways)
    carried_on (Up here) = by_eq here.0 node.0
        (λ same t. subst (λ (h : NodeId). IsCalmCarry topology w node (Up h) → AreOnTheirWay (next topology w (Carry (Up h))) node) (same_node here same) up_own)
        (λ apart t calm. silent (Carry (Up here)) calm.true_event.stays (left_other w (Up here) down (node_apart here.0 node.0 _ apart)) (left_other w (Up here) up (node_apart here.0 node.0 _ apart)) (up_stands topology w node here apart) ways)
    carried_on (Out here port) = λ calm. by (peer_of topology here port) refl calm
      where
        by : (o : Option LinkEnd) → peer_of topology here port ≡ o → IsCalmCarry topology w node (Out here port) → AreOnTheirWay (next topology w (Carry (Out here port))) node
        by None led calm = absurd (true≢false (sym calm.of_network.1 ∙ ap (λ (o : Option LinkEnd). is_some o) led))
        by (Some far) led calm =
            let some : 1 ≤ port.0 = (peer_back topology steady.topology_is (record { node = here; port = port }) far led).own.0 in
            silent (Carry (Out here port)) calm.true_event.stays (left_other w (Out here port) down (number_apart here.0 node.0 (suc port.0) 0 (λ e. cc e)))
            (left_other w (Out here port) up (number_apart here.0 node.0 (suc port.0) 1 (λ e. omega (arith, some, e)))) (out_stands topology w node here port) ways

pub carries_keep_desks : CarriesKeepDesks
carries_keep_desks topology w node place link steady calm ways = carried_on topology w node link steady ways place calm

pub ticks_keep_desks : TicksKeepDesks
ticks_keep_desks topology w node here true_event loses reads ways = tick_on topology w node here true_event.stays loses reads ways

pub ticks_send_again : TicksSendAgain
ticks_send_again topology w node link listens all loses reads =
    let u : World = put_away w in
    let a : Acted = acting u link.site in
    acted topology w node (Tick node) link.site (ticks a) (controller_here u node link.site link.found ticks (λ b. (ticks_adds b).node)) (ap (λ (o : Option Site). (controller_acts u o ticks).notes) link.found) loses reads
    (tick_sends (IsLeft topology w node (Tick node)) (length w.notes.entries) a link.site.switch.adjacency link.calm.met (listens link.site link.found) all (omega arith))

pub switch_ticks_keep_desks : SwitchTicksKeepDesks
switch_ticks_keep_desks topology w node here true_event ways = silent topology w node (TickSwitch here) true_event.stays refl refl (switch_tick_stands topology w node here) ways

pub injects_keep_desks : InjectsKeepDesks
injects_keep_desks topology w node here octets true_event ways = silent topology w node (Inject here octets) true_event.stays refl refl (inject_stands topology w node here octets) ways

-- *At rest*
none_waits : (frames : List Frame) (standing : List Standing) → Every (IsOnItsWay frames [] []) standing → standing ≡ []
none_waits frames [] ways = refl
none_waits frames (s ∷ standing) ways = absurd (by ways.0)
  where
    by : IsOnItsWay frames [] [] s → ⊥
    by (is_asked cell among c) = omega (arith, among.1)
    by (is_answered cell among a) = omega (arith, among.1)

pub resting_desks_are_empty : RestingDesksAreEmpty
resting_desks_are_empty = record {
  empty = λ w node no_down no_up ways. none_waits w.notes.frames (standing_at w node)
      (subst (λ (q : List Cell). Every (IsOnItsWay w.notes.frames [] q) (standing_at w node)) no_up
      (subst (λ (q : List Cell). Every (IsOnItsWay w.notes.frames q (queue_at w (Up node))) (standing_at w node)) no_down ways));
  begins = λ w node none. subst (Every (IsOnItsWay w.notes.frames (queue_at w (Down node)) (queue_at w (Up node)))) (sym none) tt;
}
