-- what a switch says in its tick is heard by its controller in the beat

use Rattle.std.proofs.Common.{◌≡◌, ℕ, ◌≤◌, Bool, true, false, List, [], ◌∷◌, ◌++◌, append_assoc, drop, length, slice_set, slice_index_or, Option, Some, Result, Ok, refl, sym, ◌∙◌, ap, subst, arith, if◌then◌else◌}
use Rattle.std.specs.Prelude.{nat_le}
use Rattle.std.specs.Option.{option_map}
use Rattle.std.proofs.lemmas.Bool.Decides.{nat_tests}
use Rattle.world_model.specs.Words.{NodeId, Place, Down, Up, Out, Estab, Greeting, Party, Step, Channel, Mark, Cell, Entry, Loss, PoolFull, noted, made, frame_cells, next_control, payload_of, nothing_taken, gsmp_channel, control_port, queue_of, Switch, tick_comes, Topology, World, Site, queue_at, with_queue_in, same_queue, put_away, carries_head, next, with_reassembly, ForGsmp, gsmp_holds, CountsAsItsFrame}
use Rattle.world_model.specs.gsmp_wire.declared.message.Message.{Message}
use Rattle.world_model.specs.gsmp_wire.Layout.{octets_of}
use Rattle.world_model.specs.gsmp_wire.Fields.{decoded}
use Rattle.world_model.specs.frame_model.Sending.{Sender}
use Rattle.world_model.specs.Switch as switches
use Rattle.live_model.specs.world_model.switch_model.Requests.{result_of}
use Rattle.world_model.specs.Conduct.{says, with_cells}
use Rattle.world_model.specs.gsmp_wire.declared.fault.Fault.{Fault}
use Rattle.world_model.specs.gsmp_wire.declared.message.Message.TheVariants.{Adjacency}
use Rattle.world_model.specs.Controller as controllers
use Rattle.world_model.specs.Cells.{Taker, frame_holds, cell_comes}
use Rattle.world_model.specs.Gsmp.{message_comes, steps}
use Rattle.world_model.specs.network_model.declared.event.Event.{Event}
use Rattle.world_model.specs.network_model.declared.event.Event.TheVariants.{Carry, TickSwitch}
use Rattle.world_model.proofs.Lists.{by_eq}
use Rattle.law_passing.specs.telling_model.Passing.{cells_put_at}
use Rattle.law_passing.proofs.Worlds.{change_by_passing}
use Rattle.law_live_peace.specs.law_run_facts.law_world_views.law_shown_cells.Seen.{Extends}
use Rattle.law_live_peace.proofs.law_running_worlds.law_shown_cells.Made.{made_is}
use Rattle.law_live_peace.specs.law_live_hearing.Law.{Hears, acting}
use Rattle.law_live_peace.proofs.law_live_hearing.Hearing.{controller_hears}
use Rattle.law_live_peace.proofs.law_live_hearing.Sites.{up_site}
use Rattle.law_live_peace.specs.law_live_orders.Slots.{IsUnlost}
use Rattle.law_live_control.specs.Calm.{ack, IsCalmDown, IsCalmUp, greets_controller, answers_controller, ControllerGoesOn}
use Rattle.law_live_control.proofs.Sides.{ack_heard}
use Rattle.law_live_control.proofs.Controllers.{Anything, all_calm}
use Rattle.law_live_peace.specs.law_live_control_links.Law.{IsCalmLink, IsSteady, IsTrueEvent, IsUnspentAt}
use Rattle.law_live_peace.proofs.law_live_control_links.Heard.{nothing_else_is_heard}
use Rattle.law_live_peace.proofs.law_live_control_links.Events.{goes_by}
use Rattle.law_live_calm_nodes.proofs.Parts.{part_at, switch_part, down_part, out_part, up_elsewhere}

-- *A switch says a message*: its frame waits for the controller, where the ledger has no more entries behind it
not_more : (entries : List Entry) (entry : Entry) → entries ++ entry ∷ [] ≡ entries → ⊥
not_more [] entry e = cc e
not_more (x ∷ entries) entry e = not_more entries entry (cc e)

module _ (a : switches.ActedSwitch) (message : Message) (some : 1 ≤ length a.switch.crossbar.queues) where
  abbrev mark : Mark
  mark = next_control a.numbers

  abbrev cells : List Cell
  cells = frame_cells gsmp_channel mark (octets_of message)

  first_set : (queues : List (List Cell)) (queue : List Cell) → 1 ≤ length queues → slice_index_or (slice_set queues 0 queue) 0 [] ≡ queue
  first_set [] queue e = absurd (omega (arith, e))
  first_set (x ∷ queues) queue e = refl

  pub is_said : (says a message).notes.entries ≡ a.notes.entries
      → (queue_of (says a message).switch.crossbar control_port ≡ queue_of a.switch.crossbar control_port ++ cells) × (payload_of (says a message).notes.frames mark ≡ Some (octets_of message))
  is_said = by (nat_le (length cells) (switches.free_slots a.switch))
    where
      sent : Bool → Sender Switch
      sent b =
          if b then record { queues = with_cells a.switch control_port cells; notes = made a.notes mark (octets_of message) }
          else record { queues = a.switch; notes = noted (made a.notes mark (octets_of message)) (Loss mark PoolFull) }

      by : (b : Bool) → (sent b).notes.entries ≡ a.notes.entries
          → (queue_of (sent b).queues.crossbar control_port ≡ queue_of a.switch.crossbar control_port ++ cells) × (payload_of (sent b).notes.frames mark ≡ Some (octets_of message))
      by true same = (first_set a.switch.crossbar.queues (queue_of a.switch.crossbar control_port ++ cells) some, made_is a.notes.frames mark (octets_of message))
      by false same = absurd (not_more a.notes.entries (record { mark = mark; cause = PoolFull }) same)

-- *A frame of the switch waits* for its controller: its last cell is in the queue, and this is what was made under its mark
pub record IsWaiting (v : World) (node : NodeId) (payload : List ℕ) : Type 0 where
  pub before : List Cell
  pub cell : Cell
  pub after : List Cell
  pub is : queue_at v (Up node) ≡ before ++ cell ∷ after
  pub last : cell.header.last ≡ true
  pub on : cell.header.channel ≡ gsmp_channel
  pub made_it : payload_of v.notes.frames cell.mark ≡ Some payload

module _ (topology : Topology) (node : NodeId) (payload : List ℕ) where
  -- it does still, where it is left
  left_waiting : (v : World) (event : Event) (wait : IsWaiting v node payload) (before after : List Cell) → Extends v.notes.frames (next topology v event).notes.frames
      → queue_at (next topology v event) (Up node) ≡ before ++ wait.cell ∷ after → IsWaiting (next topology v event) node payload
  left_waiting v event wait before after stays is = record {
    before = before;
    cell = wait.cell;
    after = after;
    is = is;
    last = wait.last;
    on = wait.on;
    made_it = stays.kept wait.cell.mark payload wait.made_it;
  }

  abbrev put_by : World → Event → List Cell
  put_by v event = cells_put_at topology v event (Up node)

  -- behind a tick of a switch
  pub waits_on : (v : World) (here : NodeId) → Extends v.notes.frames (next topology v (TickSwitch here)).notes.frames → IsWaiting v node payload → IsWaiting (next topology v (TickSwitch here)) node payload
  waits_on v here stays wait = left_waiting v (TickSwitch here) wait wait.before (wait.after ++ put_by v (TickSwitch here)) stays
      (change_by_passing topology v (TickSwitch here) (Up node) ∙ (ap (λ (q : List Cell). q ++ put_by v (TickSwitch here)) wait.is ∙ append_assoc wait.before (wait.cell ∷ wait.after) (put_by v (TickSwitch here))))

  -- behind a carry of another queue, or of a cell before it
  pub carried_elsewhere : (v : World) (place : Place) → same_queue place (Up node) ≡ false → Extends v.notes.frames (next topology v (Carry place)).notes.frames
      → IsWaiting v node payload → IsWaiting (next topology v (Carry place)) node payload
  carried_elsewhere v place other stays wait = left_waiting v (Carry place) wait wait.before (wait.after ++ put_by v (Carry place)) stays
      (change_by_passing topology v (Carry place) (Up node)
      ∙ (ap (λ (b : Bool). (if b then drop 1 (queue_at v (Up node)) else queue_at v (Up node)) ++ put_by v (Carry place)) other
      ∙ (ap (λ (q : List Cell). q ++ put_by v (Carry place)) wait.is ∙ append_assoc wait.before (wait.cell ∷ wait.after) (put_by v (Carry place)))))

  pub carried_before : (v : World) (wait : IsWaiting v node payload) (cell : Cell) (before : List Cell) → wait.before ≡ cell ∷ before
      → Extends v.notes.frames (next topology v (Carry (Up node))).notes.frames → IsWaiting (next topology v (Carry (Up node))) node payload
  carried_before v wait cell before is stays = left_waiting v (Carry (Up node)) wait before (wait.after ++ put_by v (Carry (Up node))) stays
      (change_by_passing topology v (Carry (Up node)) (Up node)
      ∙ (ap (λ (b : Bool). (if b then drop 1 (queue_at v (Up node)) else queue_at v (Up node)) ++ put_by v (Carry (Up node))) (itself node)
      ∙ (ap (λ (q : List Cell). drop 1 q ++ put_by v (Carry (Up node))) (wait.is ∙ ap (λ (b : List Cell). b ++ wait.cell ∷ wait.after) is)
      ∙ append_assoc before (wait.cell ∷ wait.after) (put_by v (Carry (Up node))))))
    where
      itself : (n : NodeId) → same_queue (Up n) (Up n) ≡ true
      itself n = grind (arith, nat_tests)

-- *It is heard*, and the controller has heard its switch just now
abbrev pub silence_at : World → NodeId → Option ℕ
silence_at v node = part_at (λ (site : Site). site.controller.adjacency.silence) v node

silent_after : (a : controllers.Acted) (far : Party) → a.controller.adjacency.state ≡ Estab → a.controller.adjacency.stored ≡ Some far
    → (message_comes a (ack far a.controller.adjacency.own)).controller.adjacency.silence ≡ 0
silent_after a far up knows = ap (λ (step : Step Party). (steps a step).controller.adjacency.silence) (ack_heard a.controller.adjacency far up knows)

-- of what is calm an ACK alone is of an adjacency
calm_ack : (a : controllers.Acted) (far : Party) → a.controller.adjacency.state ≡ Estab → a.controller.adjacency.stored ≡ Some far → (greeting : Greeting) (message : Message)
    → message ≡ Adjacency greeting → IsCalmUp a.controller.adjacency.own far message → (message_comes a message).controller.adjacency.silence ≡ 0
calm_ack a far up knows greeting message is greets_controller = silent_after a far up knows
calm_ack a far up knows greeting message is (answers_controller answer success) = absurd (no_result {n = result_of answer} (ap result_of is) success)
  where
    no_result : {n : ℕ} → n ≡ 0 → n ≡ 3 → ⊥
    no_result zero three = omega (arith, zero, three)

module _ (topology : Topology) (v : World) (node : NodeId) (link : IsCalmLink v node) (greeting : Greeting) (payload : List ℕ) (read : decoded payload ≡ Ok (Adjacency greeting))
    (cell : Cell) (cells : List Cell) (queue : queue_at v (Up node) ≡ cell ∷ cells) (last : cell.header.last ≡ true) (on : cell.header.channel ≡ gsmp_channel)
    (made_it : payload_of v.notes.frames cell.mark ≡ Some payload) (counts : CountsAsItsFrame v (Carry (Up node))) (unlost : IsUnlost topology v (Up node)) where
  hears : Hears topology v node gsmp_channel cell.mark payload
  hears = subst (λ (c : Channel). Hears topology v node c cell.mark payload) on
      (controller_hears topology v node link.site link.found cell cells queue last payload made_it counts (unlost cell cells queue))

  one_taker : (x y : Taker) → Some x ≡ Some y → x ≡ y
  one_taker x y e = cc

  one_site : (x y : Site) → Some x ≡ Some y → x ≡ y
  one_site x y e = cc

  is_gsmp : ForGsmp ≡ hears.taker
  is_gsmp = one_taker ForGsmp hears.taker hears.takes

  abbrev heard_as : Site → Taker → controllers.Acted
  heard_as site taker = frame_holds (with_reassembly (acting v site) taker nothing_taken) taker cell.mark payload

  abbrev listening : controllers.Acted
  listening = with_reassembly (acting v link.site) ForGsmp nothing_taken

  silent : (heard_as link.site ForGsmp).controller.adjacency.silence ≡ 0
  silent = ap (λ (r : Result Message Fault). (gsmp_holds listening r).controller.adjacency.silence) read
      ∙ calm_ack listening link.site.switch.adjacency.own link.calm.met.one_is_up link.calm.met.one_knows greeting (Adjacency greeting) refl
      (nothing_else_is_heard.up topology v node cell.mark payload (Adjacency greeting) link counts hears read)

  pub is_heard : silence_at (next topology v (Carry (Up node))) node ≡ Some 0
  is_heard = ap (option_map (λ (site : Site). site.controller.adjacency.silence)) hears.acts
      ∙ ap (λ (n : ℕ). Some n) (subst (λ (s : Site). (heard_as s hears.taker).controller.adjacency.silence ≡ 0) (one_site link.site hears.site (sym link.found ∙ hears.found))
      (subst (λ (t : Taker). (heard_as link.site t).controller.adjacency.silence ≡ 0) is_gsmp silent))

-- *It stays so* behind what is carried
module _ (topology : Topology) (v : World) (node : NodeId) (silent : silence_at v node ≡ Some 0) where
  abbrev silence_of : Site → ℕ
  silence_of site = site.controller.adjacency.silence

  pub still_by_switch : (here : NodeId) → silence_at (next topology v (TickSwitch here)) node ≡ Some 0
  still_by_switch here = switch_part silence_of (λ site s. refl) (put_away v) node here tick_comes ∙ silent

  keeps_queue : (place : Place) (site : Site) (cells : List Cell) → silence_of (with_queue_in site place cells) ≡ silence_of site
  keeps_queue (Down here) site _ = refl
  keeps_queue (Up here) site _ = refl
  keeps_queue (Out here port) site _ = refl

  module _ (link : IsCalmLink v node) (steady : IsSteady topology v node) where
    one_number : (m n : ℕ) → Some m ≡ Some n → m ≡ n
    one_number m n e = cc

    own_up : IsTrueEvent topology v (Carry (Up node)) → IsUnspentAt (next topology v (Carry (Up node))) node → silence_at (next topology v (Carry (Up node))) node ≡ Some 0
    own_up true_event unspent = by (queue_at v (Up node)) refl
      where
        by : (q : List Cell) → queue_at v (Up node) ≡ q → silence_at (next topology v (Carry (Up node))) node ≡ Some 0
        by [] is = ap (λ (q : List Cell). silence_at (carries_head topology (put_away v) (Up node) q) node) is ∙ silent
        by (cell ∷ cells) is =
            let own : Party = link.site.controller.adjacency.own in
            let far : Party = link.site.switch.adjacency.own in
            let heard : controllers.Acted = cell_comes (acting v link.site) cell in
            let goes : ControllerGoesOn (IsCalmDown own far) (acting v link.site) heard =
            goes_by topology v node link steady true_event unspent cell cells is (IsCalmDown own far) Anything (all_calm own far) tt in
            let was : link.site.controller.adjacency.silence ≡ 0 = one_number link.site.controller.adjacency.silence 0 (sym (ap (option_map silence_of) link.found) ∙ silent) in
            ap (option_map silence_of) (up_site topology v node link.site link.found cell cells is)
            ∙ ap (λ (n : ℕ). Some n) (none_below heard.controller.adjacency.silence link.site.controller.adjacency.silence goes.side.silence was)
          where
            none_below : (m n : ℕ) → m ≤ n → n ≡ 0 → m ≡ 0
            none_below m n low none = omega (arith, low, none)

    pub still_silent : (place : Place) → IsTrueEvent topology v (Carry place) → IsUnspentAt (next topology v (Carry place)) node → silence_at (next topology v (Carry place)) node ≡ Some 0
    still_silent (Down here) true_event unspent = down_part silence_of keeps_queue (λ site s. refl) topology v node here ∙ silent
    still_silent (Out here port) true_event unspent = out_part silence_of keeps_queue (λ site s. refl) topology v node here port ∙ silent
    still_silent (Up here) true_event unspent = by_eq here.0 node.0
        (λ same t. subst (λ (h : NodeId). IsTrueEvent topology v (Carry (Up h)) → IsUnspentAt (next topology v (Carry (Up h))) node → silence_at (next topology v (Carry (Up h))) node ≡ Some 0)
        (same_node here same) own_up true_event unspent)
        (λ apart t. up_elsewhere silence_of keeps_queue topology v node here apart ∙ silent)
      where
        same_node : (h : NodeId) → h.0 ≡ node.0 → node ≡ h
        same_node h same = λ i. record { 0 = sym same i }
