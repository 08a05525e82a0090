-- what a controller says to its switch in its tick is heard by the switch in the beat

use Rattle.std.proofs.Common.{◌≡◌, ◌≢◌, ◌⊎◌, inl, inr, ℕ, ◌+◌, ◌≤◌, Bool, true, false, true≢false, List, [], ◌∷◌, ◌++◌, append_assoc, append-nil, drop, length, map, Option, Some, Result, Ok, refl, sym, ◌∙◌, ap, subst, arith, if◌then◌else◌}
use Rattle.std.specs.Prelude.{nat_le}
use Rattle.std.specs.Option.{option_map}
use Rattle.std.proofs.lemmas.Bool.Decides.{nat_tests}
use Rattle.world_model.specs.Words.{NodeId, Policy, Place, Down, Ack, Estab, Party, Greeting, Step, Entry, Frame, Loss, PoolFull, noted, made, Cell, Mark, payload_of, next_control, gsmp_channel, said, greeting_of, gsmp_answer, is_estab, is_request, Controller, Linked, controller_acts, Topology, World, Site, site_key, site_at, at, queue_at, same_queue, put_away, next, tick_of, switch_tick_of, tick_of_all, world_after, is_empty, IsTopology, frame_read}
use Rattle.world_model.specs.gsmp_wire.declared.fault.Fault.{Fault}
use Rattle.world_model.specs.gsmp_wire.declared.message.Message.{Message}
use Rattle.world_model.specs.gsmp_wire.declared.message.Message.TheVariants.{Adjacency}
use Rattle.world_model.specs.gsmp_wire.Layout.{octets_of}
use Rattle.world_model.specs.gsmp_wire.Fields.{decoded}
use Rattle.world_model.specs.frame_model.Sending.{Sender}
use Rattle.world_model.specs.Controller.{Acted, free_slots}
use Rattle.world_model.specs.Sending.{with_cells}
use Rattle.world_model.specs.Ticks.{ticks}
use Rattle.world_model.specs.Switch.{ActedSwitch}
use Rattle.world_model.specs.Conduct.{answers, message_heard}
use Rattle.world_model.specs.network_model.declared.event.Event.{Event}
use Rattle.world_model.specs.network_model.declared.event.Event.TheVariants.{Carry, Tick}
use Rattle.world_model.proofs.Lists.{by_eq}
use Rattle.live_model.specs.Beats.{Beat, settling, settled}
use Rattle.law_live_calm_nodes.proofs.law_gsmp_reading.Read.{message_is_read}
use Rattle.law_live_calm_nodes.specs.law_passing.telling_model.Passing.{left, cells_put_at}
use Rattle.law_live_calm_nodes.proofs.law_passing.Controllers.{ticks_adds}
use Rattle.law_live_calm_nodes.proofs.law_passing.Worlds.{change_by_passing}
use Rattle.law_port_facts.proofs.Keyed.{on_both}
use Rattle.law_port_facts.proofs.ordered_lists.Every.{every_map}
use Rattle.law_shown_cells.specs.Seen.{Extends}
use Rattle.law_shown_cells.proofs.Made.{made_is}
use Rattle.law_live_calm_nodes.specs.law_true_runs.Runs.{HoldsInRuns, IsWhole}
use Rattle.law_live_calm_nodes.proofs.law_live_carries.Names.{queues_have_one_name}
use Rattle.law_live_calm_nodes.specs.law_live_nodes.Law.{IsNodeAtPeace, greeted}
use Rattle.law_live_calm_nodes.specs.law_live_saying.Law.{Puts, ticking, greeting_said}
use Rattle.law_live_calm_nodes.proofs.law_live_saying.Put.{greetings_are_put}
use Rattle.law_live_calm_nodes.specs.law_live_worlds.Law.{IsCalm}
use Rattle.law_live_calm_nodes.specs.law_live_hearing.Law.{world_at, Waits, SwitchHears, acting_switch}
use Rattle.law_live_calm_nodes.proofs.law_live_hearing.Going.{after_all}
use Rattle.law_live_calm_nodes.proofs.law_live_hearing.Hearing.{switch_hears}
use Rattle.law_live_calm_nodes.proofs.law_live_hearing.Places.{down_empty}
use Rattle.law_live_calm_nodes.proofs.law_live_hearing.Waiting.{frames_wait}
use Rattle.law_live_calm_nodes.specs.law_live_control.Calm.{ack, IsCalmDown, greets_switch, asks_switch}
use Rattle.law_live_calm_nodes.proofs.law_live_control.Sides.{ack_heard}
use Rattle.law_live_calm_nodes.specs.law_live_control_links.Law.{IsCalmLink}
use Rattle.law_live_calm_nodes.proofs.law_live_control_links.Heard.{nothing_else_is_heard}
use Rattle.law_live_calm_nodes.proofs.law_live_control_links.Sites.{controller_here, controller_frames}
use Rattle.law_live_mirrored_worlds.proofs.Sending.{Moves}
use Rattle.law_live_mirrored_worlds.proofs.Telling.{greeted_goes_on}
use Rattle.law_live_calm_nodes.specs.Nodes.{LosesNothing, IsNodeInBeat}
use Rattle.law_live_calm_nodes.proofs.Parts.{along}
use Rattle.law_live_calm_nodes.proofs.Events.{Facts, now_is, facts}
use Rattle.law_live_calm_nodes.proofs.Ticks.{IsTick, of_controller, of_switch, all_ticks, site_waits}
use Rattle.law_live_calm_nodes.proofs.Control.{IsCarry, carries, is_carry}
use Rattle.law_live_lasting.specs.Hearing.{SwitchesHearTheirNodes}
use Rattle.law_live_lasting.proofs.Silence.{silence_of, silence_at, one_number, still_silent}

one_site : (x y : Site) → Some x ≡ Some y → x ≡ y
one_site x y e = cc e

-- *The greeting finds slots*, where the ledger is as it was behind the tick
not_longer : (entries more : List Entry) (entry : Entry) → entries ≡ (entries ++ entry ∷ []) ++ more → ⊥
not_longer [] more entry e = cc e
not_longer (x ∷ entries) more entry e = not_longer entries more entry (cc e)

module _ (a : Acted) where
  abbrev mark : Mark
  mark = next_control a.numbers

  abbrev payload : List ℕ
  payload = octets_of (Adjacency (greeting_of (said a.controller.adjacency Ack)))

  abbrev aged : Controller
  aged = record a.controller { adjacency = record a.controller.adjacency { silence = a.controller.adjacency.silence + 1 } }

  abbrev sent : Sender Controller
  sent = record { queues = with_cells aged (greeting_said a); notes = made a.notes mark payload }

  abbrev lost : Sender Controller
  lost = record { queues = aged; notes = noted (made a.notes mark payload) (Loss mark PoolFull) }

  has_room : (more : List Entry) → a.notes.entries ≡ (greeted a).notes.entries ++ more → nat_le (length (greeting_said a)) (free_slots a.controller) ≡ true
  has_room more e = elim (nat_le (length (greeting_said a)) (free_slots a.controller)) as (λ t. a.notes.entries ≡ (if t then sent else lost).notes.entries ++ more → t ≡ true) [
    | true ↦ λ same. refl
    | false ↦ λ longer. absurd (not_longer a.notes.entries more (record { mark = mark; cause = PoolFull }) longer)
  ] e

  made_now : payload_of (greeted a).notes.frames mark ≡ Some payload
  made_now = on_both (λ (s : Sender Controller). payload_of s.notes.frames mark ≡ Some payload) (nat_le (length (greeting_said a)) (free_slots a.controller)) sent lost
      (made_is a.notes.frames mark payload) (made_is a.notes.frames mark payload)

-- *Its controller's tick* among the others
record TicksAmong (node : NodeId) (events : List Event) : Type 0 where
  first : List Event
  later : List Event
  are : events ≡ first ++ Tick node ∷ later

same_node : (x y : NodeId) → x.0 ≡ y.0 → x ≡ y
same_node x y e = λ i. record { 0 = e i }

among : (node : NodeId) (site : Site) (sites : List Site) → at site_key node.0 sites ≡ Some site → TicksAmong node (map tick_of sites)
among node site [] e = absurd (cc e)
among node site (s ∷ sites) e = by_eq (site_key s) node.0
    (λ same d. record { first = []; later = map tick_of sites; are = ap (λ (n : NodeId). Tick n ∷ map tick_of sites) (same_node s.controller.node node same) })
    (λ apart d. (let r : TicksAmong node (map tick_of sites) = among node site sites (sym (ap (λ (b : Bool). if b then Some s else at site_key node.0 sites) d) ∙ e) in
    record { first = tick_of s ∷ r.first; later = r.later; are = ap (λ (es : List Event). tick_of s ∷ es) r.are }))

-- *It waits* for the switch, and is heard there
module _ (topology : Topology) (node : NodeId) (own_mark : Mark) (words : List ℕ) where
  record IsWaiting (v : World) : Type 0 where
    waits : Waits v (Down node) gsmp_channel own_mark
    made_it : payload_of v.notes.frames own_mark ≡ Some words

  abbrev put_by : World → Event → List Cell
  put_by v event = cells_put_at topology v event (Down node)

  -- where none of its queue is taken, or a cell before it
  left_by : (v : World) (event : Event) (wait : IsWaiting v) (front : List Cell) → Extends v.notes.frames (next topology v event).notes.frames
      → left v event (Down node) ≡ front ++ wait.waits.cell ∷ wait.waits.after → IsWaiting (next topology v event)
  left_by v event wait front stays is = record {
    waits = record {
      before = front;
      cell = wait.waits.cell;
      after = wait.waits.after ++ put_by v event;
      is = change_by_passing topology v event (Down node)
          ∙ (ap (λ (q : List Cell). q ++ put_by v event) is ∙ append_assoc front (wait.waits.cell ∷ wait.waits.after) (put_by v event));
      last = wait.waits.last;
      own = wait.waits.own;
      on = wait.waits.on;
    };
    made_it = stays.kept own_mark words wait.made_it;
  }

  ticks_leave : (v : World) (event : Event) → IsTick event → Extends v.notes.frames (next topology v event).notes.frames → IsWaiting v → IsWaiting (next topology v event)
  ticks_leave v event (of_controller here) stays wait = left_by v event wait wait.waits.before stays wait.waits.is
  ticks_leave v event (of_switch here) stays wait = left_by v event wait wait.waits.before stays wait.waits.is

  carries_leave : (v : World) (place : Place) → same_queue place (Down node) ≡ false → Extends v.notes.frames (next topology v (Carry place)).notes.frames
      → IsWaiting v → IsWaiting (next topology v (Carry place))
  carries_leave v place other stays wait = left_by v (Carry place) wait wait.waits.before stays
      (ap (λ (b : Bool). if b then drop 1 (queue_at v (Down node)) else queue_at v (Down node)) other ∙ wait.waits.is)

  carries_shorten : (v : World) (wait : IsWaiting v) (cell : Cell) (front : List Cell) → wait.waits.before ≡ cell ∷ front
      → Extends v.notes.frames (next topology v (Carry (Down node))).notes.frames → IsWaiting (next topology v (Carry (Down node)))
  carries_shorten v wait cell front is stays = left_by v (Carry (Down node)) wait front stays
      (ap (λ (b : Bool). if b then drop 1 (queue_at v (Down node)) else queue_at v (Down node)) (itself node)
      ∙ ap (drop 1) (wait.waits.is ∙ ap (λ (q : List Cell). q ++ wait.waits.cell ∷ wait.waits.after) is))
    where
      itself : (n : NodeId) → same_queue (Down n) (Down n) ≡ true
      itself n = grind (arith, nat_tests)

-- of what is calm an ACK alone is of an adjacency
calm_ack : (a : ActedSwitch) (own : Party) → a.switch.adjacency.state ≡ Estab → a.switch.adjacency.stored ≡ Some own → (greeting : Greeting) (message : Message)
    → message ≡ Adjacency greeting → IsCalmDown own a.switch.adjacency.own message → (message_heard a message).switch.adjacency.silence ≡ 0
calm_ack a own up knows greeting message is greets_switch =
    ap (λ (step : Step Party). (answers (record a { switch = record a.switch { adjacency = step.side } }) (gsmp_answer step.answer)).switch.adjacency.silence) (ack_heard a.switch.adjacency own up knows)
calm_ack a own up knows greeting message is (asks_switch asked request) = absurd (true≢false (sym request ∙ ap is_request is))

module _ (topology : Topology) (v : World) (node : NodeId) (link : IsCalmLink v node) (greeting : Greeting) (words : List ℕ) (read : decoded words ≡ Ok (Adjacency greeting))
    (own_mark : Mark) (wait : IsWaiting topology node own_mark words v) (first : wait.waits.before ≡ []) (f : Facts topology v (Carry (Down node))) (unlost : LosesNothing topology v (Carry (Down node))) where
  queue : queue_at v (Down node) ≡ wait.waits.cell ∷ wait.waits.after
  queue = wait.waits.is ∙ ap (λ (q : List Cell). q ++ wait.waits.cell ∷ wait.waits.after) first

  hears : SwitchHears topology v node wait.waits.cell.mark words
  hears = switch_hears topology v node link.site link.found wait.waits.cell wait.waits.after queue wait.waits.last wait.waits.on words
      (ap (payload_of v.notes.frames) wait.waits.own ∙ wait.made_it) f.counts (unlost wait.waits.cell wait.waits.after queue)

  abbrev heard_as : Site → Result Message Fault → ActedSwitch
  heard_as site r = frame_read (acting_switch v site) r

  silent : (heard_as link.site (decoded words)).switch.adjacency.silence ≡ 0
  silent = ap (λ (r : Result Message Fault). (heard_as link.site r).switch.adjacency.silence) read
      ∙ calm_ack (acting_switch v link.site) link.site.controller.adjacency.own link.calm.met.other_is_up link.calm.met.other_knows greeting (Adjacency greeting) refl
      (nothing_else_is_heard.down topology v node wait.waits.cell.mark words (Adjacency greeting) link f.counts hears read)

  is_heard : silence_at (next topology v (Carry (Down node))) node ≡ Some 0
  is_heard = ap (option_map silence_of) hears.acts
      ∙ ap (λ (n : ℕ). Some n) (subst (λ (s : Site). (heard_as s (decoded words)).switch.adjacency.silence ≡ 0) (one_site link.site hears.site (sym link.found ∙ hears.found)) silent)

-- *A node in a beat*
none_waits : (front : List Cell) (cell : Cell) (after : List Cell) → [] ≡ front ++ cell ∷ after → ⊥
none_waits [] cell after e = cc e
none_waits (x ∷ front) cell after e = cc e

module _ (whole : HoldsInRuns IsWhole) (policy : Policy) (topology : Topology) (before : List Event) (node : NodeId) (beat : Beat)
    (b : IsNodeInBeat policy topology before node beat) (calm : IsCalm (world_at policy topology before) node) where
  abbrev w : World
  w = world_at policy topology before

  abbrev all : List Event
  all = settling w beat

  is_now : (front : List Event) → world_at policy topology (before ++ front) ≡ world_after topology w front
  is_now = now_is whole policy topology before all b.run b.addresses b.tame

  fact : (front rest : List Event) (event : Event) → all ≡ front ++ event ∷ rest → Facts topology (world_after topology w front) event
  fact = facts whole policy topology before all b.run b.addresses b.tame

  -- *Its controller ticks*
  own_tick : TicksAmong node (map tick_of w.sites)
  own_tick = among node calm.site w.sites calm.there

  abbrev later : List Event
  later = own_tick.later ++ map switch_tick_of w.sites

  ticks_are : tick_of_all w ≡ own_tick.first ++ Tick node ∷ later
  ticks_are = ap (λ (es : List Event). es ++ map switch_tick_of w.sites) own_tick.are ∙ append_assoc own_tick.first (Tick node ∷ own_tick.later) (map switch_tick_of w.sites)

  in_ticks : (front rest : List Event) (event : Event) → tick_of_all w ≡ front ++ event ∷ rest → all ≡ front ++ event ∷ (rest ++ map Carry beat.carries)
  in_ticks front rest event e = ap (λ (es : List Event). es ++ map Carry beat.carries) e ∙ append_assoc front (event ∷ rest) (map Carry beat.carries)

  abbrev v0 : World
  v0 = world_after topology w own_tick.first

  abbrev v1 : World
  v1 = next topology v0 (Tick node)

  abbrev a : Acted
  a = ticking v0 calm.site

  found : site_at v0 node ≡ Some calm.site
  found = site_waits topology w own_tick.first later node b.shaped ticks_are ∙ calm.there

  peace : IsNodeAtPeace a
  peace = record { up = calm.peace.up; heard = calm.peace.heard; nothing_asked = calm.peace.nothing_asked; ports = calm.peace.ports; ports_apart = calm.peace.ports_apart }

  ticking_facts : Facts topology v0 (Tick node)
  ticking_facts = fact own_tick.first (later ++ map Carry beat.carries) (Tick node) (in_ticks own_tick.first later (Tick node) ticks_are)

  same_entries : v1.notes.entries ≡ v0.notes.entries
  same_entries = b.unlost own_tick.first (later ++ map Carry beat.carries) (Tick node) (in_ticks own_tick.first later (Tick node) ticks_are)

  entries_now : v1.notes.entries ≡ (ticks a).notes.entries
  entries_now = ap (λ (o : Option Site). (controller_acts (put_away v0) o ticks).notes.entries) found

  -- the node and its switch have met then, and behind it
  link0 : IsCalmLink v0 node
  link0 = b.link own_tick.first (Tick node ∷ (later ++ map Carry beat.carries)) (in_ticks own_tick.first later (Tick node) ticks_are)

  same0 : link0.site ≡ calm.site
  same0 = one_site link0.site calm.site (sym link0.found ∙ found)

  some_apart : (n : ℕ) → 1 ≤ n → n ≢ 0
  some_apart n some none = omega (arith, some, none)

  up_now : is_estab (ticks a).controller.adjacency.state ≡ true
  up_now =
      let l : IsCalmLink v1 node = subst (λ (v : World). IsCalmLink v node) (after_all topology w own_tick.first (Tick node ∷ []))
      (b.link (own_tick.first ++ Tick node ∷ []) (later ++ map Carry beat.carries) (in_ticks own_tick.first later (Tick node) ticks_are ∙ sym (append_assoc own_tick.first (Tick node ∷ []) (later ++ map Carry beat.carries)))) in
      ap is_estab (ap (λ (s : Site). s.controller.adjacency.state) (one_site (record calm.site { controller = (ticks a).controller }) l.site
      (sym (controller_here (put_away v0) node calm.site found ticks (λ c. (ticks_adds c).node)) ∙ l.found)) ∙ l.calm.met.one_is_up)

  moves : Moves (greeted a) (ticks a)
  moves = (greeted_goes_on a peace (every_map (λ (linked : Linked). 1 ≤ linked.setup.port.0) (λ (linked : Linked). linked.setup.port.0 ≢ 0) calm.site.controller.ports (λ linked. some_apart linked.setup.port.0)
      ((ticking_facts.steady node).0.links calm.site found).ports)).moves up_now

  room : nat_le (length (greeting_said a)) (free_slots calm.site.controller) ≡ true
  room = has_room a moves.entries (sym same_entries ∙ (entries_now ∙ moves.grown))

  put : Puts topology v0 (Tick node) (Down node) (greeting_said a)
  put = greetings_are_put topology v0 node calm.site found peace room

  given : (n : ℕ) → n + 1 ≤ n + 1
  given n = omega arith

  waiting : IsWaiting topology node (mark a) (payload a) v1
  waiting = record {
    waits = frames_wait v1 (Down node) gsmp_channel (mark a) (payload a) (queue_at v0 (Down node) ++ put.front) put.after
        (change_by_passing topology v0 (Tick node) (Down node) ∙ (ap (λ (q : List Cell). queue_at v0 (Down node) ++ q) put.is ∙ sym (append_assoc (queue_at v0 (Down node)) put.front (greeting_said a ++ put.after))));
    made_it = ap (λ (frames : List Frame). payload_of frames (mark a)) (controller_frames (put_away v0) node calm.site found ticks (λ c. (ticks_adds c).node))
        ∙ moves.stay (mark a) (payload a) (refl, given a.numbers.controls) (made_now a);
  }

  -- it is read as the ACK
  abbrev own : Party
  own = link0.site.controller.adjacency.own

  abbrev far : Party
  far = link0.site.switch.adjacency.own

  abbrev greets : Greeting
  greets = record { kind = Ack; sender = own; receiver = far }

  read : decoded (payload a) ≡ Ok (Adjacency greets)
  read = subst (λ (s : Site). decoded (payload (ticking v0 s)) ≡ Ok (Adjacency greets)) same0
      (ap (λ (o : Option Party). decoded (octets_of (Adjacency (greeting_of (record { kind = Ack; sender = own; receiver = o }))))) link0.calm.met.one_knows
      ∙ message_is_read (ack own far) (link0.calm.controller_fits, link0.calm.switch_fits) tt)

  -- *Through the other ticks* it waits
  abbrev Waiting : World → Type 0
  Waiting v = IsWaiting topology node (mark a) (payload a) v

  abbrev u : World
  u = world_after topology w (tick_of_all w)

  tick_step : (front rest : List Event) (event : Event) → later ≡ front ++ event ∷ rest → Waiting (world_after topology v1 front) → Waiting (next topology (world_after topology v1 front) event)
  tick_step front rest event e = ticks_leave topology node (mark a) (payload a) (world_after topology v1 front) event (all_ticks w (own_tick.first ++ Tick node ∷ front) rest event split)
      ((subst (λ (v : World). Facts topology v event) (after_all topology w own_tick.first (Tick node ∷ front))
      (fact (own_tick.first ++ Tick node ∷ front) (rest ++ map Carry beat.carries) event (in_ticks (own_tick.first ++ Tick node ∷ front) rest event split))).steady node).1.stays
    where
      split : tick_of_all w ≡ (own_tick.first ++ Tick node ∷ front) ++ event ∷ rest
      split = ticks_are ∙ (ap (λ (es : List Event). own_tick.first ++ Tick node ∷ es) e ∙ sym (append_assoc own_tick.first (Tick node ∷ front) (event ∷ rest)))

  waits_still : Waiting u
  waits_still = subst Waiting (sym (ap (world_after topology w) ticks_are ∙ after_all topology w own_tick.first (Tick node ∷ later)))
      (along topology Waiting later v1 waiting tick_step later [] (sym (append-nil later)))

  -- *Then it waits, or was heard*
  abbrev Goes : World → Type 0
  Goes v = Waiting v ⊎ (silence_at v node ≡ Some 0)

  record IsGood (v : World) (event : Event) : Type 0 where
    link : IsCalmLink v node
    unlost : LosesNothing topology v event
    is_so : Facts topology v event

  is : IsTopology topology
  is = b.run.topology_is

  by_place : (v : World) (place : Place) → IsGood v (Carry place) → Goes v → Goes (next topology v (Carry place))
  by_place v place g (inr silent) = inr (still_silent topology v node silent place)
  by_place v place g (inl wait) = by_queue (same_queue place (Down node)) refl
    where
      own_queue : IsGood v (Carry (Down node)) → (front : List Cell) → wait.waits.before ≡ front → Goes (next topology v (Carry (Down node)))
      own_queue k (cell ∷ front) first = inl (carries_shorten topology node (mark a) (payload a) v wait cell front first (k.is_so.steady node).1.stays)
      own_queue k [] first = inr (is_heard topology v node k.link greets (payload a) read (mark a) wait first k.is_so k.unlost)

      by_queue : (same : Bool) → same_queue place (Down node) ≡ same → Goes (next topology v (Carry place))
      by_queue false other = inl (carries_leave topology node (mark a) (payload a) v place other (g.is_so.steady node).1.stays wait)
      by_queue true same = subst (λ (p : Place). IsGood v (Carry p) → Goes (next topology v (Carry p))) (sym (queues_have_one_name topology place (Down node) is g.is_so.can.meant b.within same))
          (λ k. own_queue k wait.waits.before refl) g

  step : (front rest : List Event) (event : Event) → map Carry beat.carries ≡ front ++ event ∷ rest → Goes (world_after topology u front) → Goes (next topology (world_after topology u front) event)
  step front rest event e = by event (is_carry beat.carries front rest event e)
      (subst (λ (v : World). IsGood v event) (after_all topology w (tick_of_all w) front) (record { link = b.link (tick_of_all w ++ front) (event ∷ rest) split; unlost = b.unlost (tick_of_all w ++ front) rest event split; is_so = fact (tick_of_all w ++ front) rest event split }))
    where
      split : all ≡ (tick_of_all w ++ front) ++ event ∷ rest
      split = ap (λ (es : List Event). tick_of_all w ++ es) e ∙ sym (append_assoc (tick_of_all w) front (event ∷ rest))

      by : (x : Event) → IsCarry x → IsGood (world_after topology u front) x → Goes (world_after topology u front) → Goes (next topology (world_after topology u front) x)
      by x (carries place) g = by_place (world_after topology u front) place g

  ends : Goes (settled topology w beat)
  ends = subst Goes (sym (after_all topology w (tick_of_all w) (map Carry beat.carries)))
      (along topology Goes (map Carry beat.carries) u (inl waits_still) step (map Carry beat.carries) [] (sym (append-nil (map Carry beat.carries))))

  pub hears_its_node : (there : Site) → site_at (settled topology w beat) node ≡ Some there → there.switch.adjacency.silence ≡ 0
  hears_its_node there is_there = by ends
    where
      by : Goes (settled topology w beat) → there.switch.adjacency.silence ≡ 0
      by (inl wait) = absurd (none_waits wait.waits.before wait.waits.cell wait.waits.after
          (sym (ap (λ (v : World). queue_at v (Down node)) (sym (is_now all)) ∙ down_empty policy topology is (before ++ all) node b.within (ap is_empty (is_now all) ∙ b.settles)) ∙ wait.waits.is))
      by (inr silent) = one_number there.switch.adjacency.silence 0 (sym (ap (option_map silence_of) is_there) ∙ silent)

pub switches_hear_their_nodes : HoldsInRuns IsWhole → SwitchesHearTheirNodes
switches_hear_their_nodes whole policy topology before node beat site b calm found = hears_its_node whole policy topology before node beat b calm site found
