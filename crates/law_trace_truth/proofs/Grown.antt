-- how an event lets the queues of controllers grow

use Rattle.std.proofs.Common.{◌≡◌, ◌≢◌, inr, ℕ, ◌+◌, ◌<◌, ◌≤◌, ◌==◌, ◌&&◌, Bool, true, false, nat_lt, List, [], ◌∷◌, ◌++◌, drop, Option, None, Some, refl, sym, ◌∙◌, ap, subst, arith, append-nil, eqb-true, if◌then◌else◌}
use Rattle.std.specs.Prelude.{Contains}
use Rattle.std.specs.Option.{option_map_or}
use Rattle.std.proofs.lemmas.Bool.Decides.{nat_tests}
use Rattle.world_model.specs.Words.{Channel, NodeId, Place, Down, Up, Out, Mark, Cell, next_mark, Reassembly, at, put, Frame, Refusal, payload_of, Journal, reassembly_of, change_comes, IsTopology, IsNode, IsEvent, IsTame, inject_refusal, injected, is_control, Past, queue_in, queue_at, with_queue, with_queue_of, node_restarts, next, put_away, injects_by, carries_head, Topology, World, Site, site_key, site_at, controller_acts}
use Rattle.law_passing.proofs.law_actor_pace.Controllers.{cell_follows, injected_paces, ticks_paces, restarts_paces, change_changes}
use Rattle.world_model.specs.frame_model.Reassembly.{Taken, taken}
use Rattle.law_passing.specs.ordered_lists.Ordered.{Every}
use Rattle.law_packet_worlds.proofs.Walk.{node_restarts_kept, change_comes_kept, ticks_kept}
use Rattle.law_packet_worlds.proofs.Worlds.{IsNet, site_there, low}
use Rattle.law_passed_cells.proofs.Sending.{Any}
use Rattle.law_run_facts.proofs.law_port_facts.Keyed.{at_key, at_put_same}
use Rattle.law_running_worlds.proofs.Taken.{ended_mark}
use Rattle.law_packet_worlds.proofs.law_way_words.Switching.{taken_cases}
use Rattle.world_model.proofs.Queues.{set_queue}
use Rattle.world_model.specs.Cells as cells_of
use Rattle.world_model.specs.Cells.{Taker}
use Rattle.world_model.specs.Controller.{Acted, free_slots}
use Rattle.world_model.specs.Step.{acts}
use Rattle.world_model.specs.Ticks.{ticks}
use Rattle.world_model.specs.Topology.{peer_of}
use Rattle.world_model.specs.network_model.declared.event.Event.{Event}
use Rattle.world_model.specs.network_model.declared.event.Event.TheVariants.{Inject, Carry, Lose, Tick, TickSwitch, Restart, RestartSwitch, Forge, Route}
use Rattle.world_model.specs.network_model.declared.link.LinkEnd.{LinkEnd}
use Rattle.world_model.specs.World.{at_controller}
use Rattle.law_run_facts.specs.law_world_views.Between.{HasNumbers, HasMeanings, HasPacketsOnce}
use Rattle.law_run_facts.specs.law_world_views.Marks.{Means, heading_at, early, control, local, plain, labelled, IsNewest}
use Rattle.law_run_facts.proofs.Forged.{none_forged}
use Rattle.law_passing.specs.telling_model.Passing.{left, cells_put_at}
use Rattle.law_passing.specs.Law.{QueuesAreTheActors}
use Rattle.law_passing.specs.Reached.{owns, reached, carried_to, switch_at}
use Rattle.law_trace_truth.proofs.Crossing.{put_more, still_there}
use Rattle.law_trace_truth.proofs.Sending.{IsNew, IsMade, IsSent, Sends, P, begins, kept_all, routes_sent, cell_sent}

-- *New cells* of controllers' queues: those of one node
pub record Grows (topology : Topology) (w : World) (event : Event) : Type 0 where
  pub node : NodeId
  pub kept : Option (Channel × Mark)
  pub elsewhere : (other : NodeId) → node.0 ≢ other.0 → cells_put_at topology w event (Down other) ≡ []
  pub each : Every (IsNew kept w.notes.frames) (cells_put_at topology w event (Down node))
  pub made : Every (λ (cell : Cell). IsMade (next topology w event).notes.frames cell.mark) (cells_put_at topology w event (Down node))

nowhere : NodeId
nowhere = record { 0 = 0 }

-- an event that reaches no controller
none_grow : (topology : Topology) (w : World) (event : Event) → QueuesAreTheActors → ((other : NodeId) → owns (reached topology w event) (Down other) ≡ false) → Grows topology w event
none_grow topology w event actors none = record {
  node = nowhere;
  kept = None;
  elsewhere = λ other away. actors topology w event (Down other) (none other);
  each = subst (Every (IsNew None w.notes.frames)) (sym (actors topology w event (Down nowhere) (none nowhere))) tt;
  made = subst (Every (λ (cell : Cell). IsMade (next topology w event).notes.frames cell.mark)) (sym (actors topology w event (Down nowhere) (none nowhere))) tt;
}

acting : World → Site → Acted
acting w site = record { controller = site.controller; notes = w.notes; numbers = w.numbers }

-- *A controller acts*
module _ (topology : Topology) (w : World) (event : Event) (actors : QueuesAreTheActors) (node : NodeId) (v : World) (act : Acted → Acted) (site : Site) (found : site_at v node ≡ Some site)
    (acts_so : acts topology (put_away w) event ≡ at_controller v node act)
    (stays : (act (record { controller = site.controller; notes = v.notes; numbers = v.numbers })).controller.node ≡ site.controller.node)
    (before : queue_at v (Down node) ≡ left w event (Down node))
    (own : (other : NodeId) → owns (reached topology w event) (Down other) ≡ (node.0 == other.0)) where
  abbrev a : Acted
  a = record { controller = site.controller; notes = v.notes; numbers = v.numbers }

  new_site : Site
  new_site = record site { controller = (act a).controller }

  key : site_key site ≡ node.0
  key = at_key site_key node.0 v.sites site found

  queue_then : queue_at (next topology w event) (Down node) ≡ (act a).controller.queue
  unfolding new_site
  queue_then =
      ap (λ (u : World). queue_at u (Down node)) acts_so
      ∙ ap (λ (o : Option Site). queue_at (controller_acts v o act) (Down node)) found
      ∙ ap (λ (o : Option Site). option_map_or (λ site. queue_in site (Down node)) o [])
      (ap (λ (k : ℕ). at site_key k (put site_key new_site v.sites)) (sym (ap (λ (n : NodeId). n.0) stays ∙ key))
      ∙ at_put_same site_key new_site v.sites site (ap (λ (k : ℕ). at site_key k v.sites) (ap (λ (n : NodeId). n.0) stays ∙ key) ∙ found))

  frames_then : (next topology w event).notes.frames ≡ (act a).notes.frames
  frames_then = ap (λ (u : World). u.notes.frames) acts_so ∙ ap (λ (o : Option Site). (controller_acts v o act).notes.frames) found

  pub controller_grows : (frames : List Frame) → frames ≡ w.notes.frames → (controls : ℕ) → Sends frames controls site.controller.queue (act (record { controller = site.controller; notes = v.notes; numbers = v.numbers })) → Grows topology w event
  controller_grows frames same controls s =
      let queue : site.controller.queue ≡ left w event (Down node) = sym (ap (λ (o : Option Site). option_map_or (λ site. queue_in site (Down node)) o []) found) ∙ before in
      let now : cells_put_at topology w event (Down node) ≡ s.sent.new =
      put_more topology w event (Down node) s.sent.new (queue_then ∙ s.sent.is ∙ ap (λ (l : List Cell). l ++ s.sent.new) queue) in
      record {
        node = node;
        kept = s.kept;
        elsewhere = λ other away. actors topology w event (Down other) (own other ∙ by other away (node.0 == other.0) refl);
        each = subst (Every (IsNew s.kept w.notes.frames)) (sym now) (subst (λ (fs : List Frame). Every (IsNew s.kept fs) s.sent.new) same s.sent.each);
        made = subst (Every (λ (cell : Cell). IsMade (next topology w event).notes.frames cell.mark)) (sym now)
            (subst (λ (fs : List Frame). Every (λ (cell : Cell). IsMade fs cell.mark) s.sent.new) (sym frames_then) s.sent.made);
      }
    where
      by : (other : NodeId) → node.0 ≢ other.0 → (b : Bool) → (node.0 == other.0) ≡ b → b ≡ false
      by other away false e = refl
      by other away true e = absurd (away (eqb-true node.0 other.0 e))

-- the cell that ends a frame is a last one
ended_last : (notes : Journal) (slot : Bool) (r : Reassembly) (cell first : Cell) (cells : List Cell) → (taken notes slot r cell).ended ≡ first ∷ cells → cell.header.last ≡ true
ended_last notes slot r cell first cells = taken_cases (λ (t : Taken). t.ended ≡ first ∷ cells → cell.header.last ≡ true) notes slot r cell (λ e. absurd (cc e)) (λ e. absurd (cc e)) (λ e. absurd (cc e)) (λ last e. last) (λ more e. absurd (cc e))

module _ (topology : Topology) (is : IsTopology topology) (actors : QueuesAreTheActors) (past : Past) (same_topology : past.topology ≡ topology) (net : IsNet topology past.now)
    (numbers : HasNumbers past.now) (meanings : HasMeanings past) (packets : HasPacketsOnce past) where
  abbrev w : World
  w = past.now

  abbrev F : List Frame
  F = w.notes.frames

  unmade : (k : ℕ) → w.numbers.controls < k → payload_of F (record { packet = 0; frame = k }) ≡ None
  unmade = numbers.unmade

  -- a controller that sends no packet
  quiet : (event : Event) (node : NodeId) (act : Acted → Acted) → IsNode topology node → acts topology (put_away w) event ≡ at_controller (put_away w) node act
      → ((b : Acted) → (act b).controller.node ≡ b.controller.node) → ((place : Place) → left w event place ≡ queue_at w place)
      → ((other : NodeId) → owns (reached topology w event) (Down other) ≡ (node.0 == other.0))
      → ((frames : List Frame) (controls : ℕ) (queue : List Cell) (b : Acted) → IsSent frames controls queue None b → IsSent frames controls queue None (act b)) → Grows topology w event
  quiet event node act there acts_so stays same own walk =
      let s = site_there topology w (Down node) net there in
      let b : Acted = record { controller = s.site.controller; notes = (put_away w).notes; numbers = w.numbers } in
      controller_grows topology w event actors node (put_away w) act s.site s.found acts_so (stays b) (sym (same (Down node))) own F refl w.numbers.controls
      (record { kept = None; sent = walk F w.numbers.controls s.site.controller.queue b (begins F w.numbers.controls s.site.controller.queue b refl (self_le w.numbers.controls)) })
    where
      self_le : (n : ℕ) → n ≤ n
      self_le n = omega arith

  -- a packet enters
  injects : (node : NodeId) (octets : List ℕ) → IsNode topology node → (o : Option Refusal) → inject_refusal octets ≡ o → Grows topology w (Inject node octets)
  injects node octets there (Some name) refused = record {
    node = node;
    kept = None;
    elsewhere = λ other away. none other;
    each = subst (Every (IsNew None F)) (sym (none node)) tt;
    made = subst (Every (λ (cell : Cell). IsMade (next topology w (Inject node octets)).notes.frames cell.mark)) (sym (none node)) tt;
  }
    where
      none : (other : NodeId) → cells_put_at topology w (Inject node octets) (Down other) ≡ []
      none other = put_more topology w (Inject node octets) (Down other) []
          (ap (λ (o : Option Refusal). queue_at (injects_by (record (put_away w) { sent = w.sent + 1 }) node octets o) (Down other)) refused ∙ sym (append-nil (queue_at w (Down other))))
  injects node octets there None accepted =
      let s = site_there topology w (Down node) net there in
      let v : World = record (put_away w) { sent = w.sent + 1 } in
      let b : Acted = record { controller = s.site.controller; notes = v.notes; numbers = v.numbers } in
      controller_grows topology w (Inject node octets) actors node v (λ a. injected a (w.sent + 1) octets) s.site s.found
      (ap (injects_by (record (put_away w) { sent = w.sent + 1 }) node octets) accepted)
      (injected_paces 1 b (w.sent + 1) octets (omega arith)).node refl (λ other. refl) F refl w.numbers.controls
      (routes_sent F w.numbers.controls s.site.controller.queue b (record { packet = w.sent + 1; frame = 0 }) octets
      (λ off. packets.unsent (w.sent + 1) (0 + 1) (more w.sent), unmade)
      (begins F w.numbers.controls s.site.controller.queue b refl (self_le w.numbers.controls)))
    where
      self_le : (n : ℕ) → n ≤ n
      self_le n = omega arith

      more : (n : ℕ) → n < n + 1
      more n = omega arith

  -- a cell comes to a controller
  next_of : (node : NodeId) → IsNode topology node → (cell : Cell) (cells : List Cell) → queue_at w (Up node) ≡ cell ∷ cells → cell.header.last ≡ true
      → is_control cell.mark ≡ false → payload_of F (next_mark cell.mark) ≡ None
  next_of node there cell cells head last off =
      by cell.header.last last (meanings (Up node) cell (subst (λ (t : Topology). IsNode t node) (sym same_topology) there) has)
    where
      has : Contains (queue_at w (Up node)) cell
      has = subst (λ (q : List Cell). Contains q cell) (sym head) (0, omega arith, refl)

      frame_more : (n : ℕ) → n < n + 1
      frame_more n = omega arith

      not_control : cell.mark.packet ≡ 0 → ⊥
      not_control none = never cell.mark.packet cell.mark.frame none (numbers.counted (Up node) cell has none) off
        where
          never : (p f : ℕ) → p ≡ 0 → 0 < f → (p == 0 && nat_lt 0 f) ≡ false → ⊥
          never p f e less o = (let one : (p == 0 && nat_lt 0 f) ≡ true = both (p == 0) (nat_lt 0 f) (grind (arith, nat_tests, e)) (grind (arith, nat_tests, less)) in cc (sym one ∙ o))
            where
              both : (a b : Bool) → a ≡ true → b ≡ true → a && b ≡ true
              both true true e f = refl
              both true false e f = absurd (cc f)
              both false b e f = absurd (cc e)

      newest : IsNewest F cell.mark → payload_of F (next_mark cell.mark) ≡ None
      newest n = n (cell.mark.frame + 1) (frame_more cell.mark.frame)

      by : (l : Bool) → l ≡ true → Means past (heading_at past.topology (Up node) cell.header.channel) l cell.mark → payload_of F (next_mark cell.mark) ≡ None
      by l is_last (early default no_last some) = absurd (cc (sym is_last ∙ no_last))
      by l is_last (control default none source message made) = absurd (not_control none)
      by l is_last (local default own none) = absurd (not_control none)
      by l is_last (plain default also far to packet made come n) = newest n
      by l is_last (labelled other far to flow bound payload packet made carries come n) = newest (n is_last)

  comes_up : (node : NodeId) → IsNode topology node → (q : List Cell) → queue_at w (Up node) ≡ q → Grows topology w (Carry (Up node))
  comes_up node there [] head = none_grow topology w (Carry (Up node)) actors (λ other. ap (λ (q : List Cell). owns (carried_to topology (Up node) q) (Down other)) head)
  comes_up node there (cell ∷ cells) head =
      let s = site_there topology w (Up node) net there in
      from_site s.site s.found
    where
      v : World
      v = with_queue (put_away w) (Up node) cells

      notes_are : (o : Option Site) → ((with_queue_of (put_away w) (Up node) cells o).notes ≡ (put_away w).notes) × ((with_queue_of (put_away w) (Up node) cells o).numbers ≡ w.numbers)
      notes_are None = (refl, refl)
      notes_are (Some site) = (refl, refl)

      same_notes : (v.notes ≡ (put_away w).notes) × (v.numbers ≡ w.numbers)
      same_notes = notes_are (site_at w node)

      beside : (site : Site) → site_at w node ≡ Some site → queue_at v (Down node) ≡ left w (Carry (Up node)) (Down node)
      beside site found =
          (set_queue (put_away w) (Up node) site cells net.shaped found (low topology is (Up node) there)).away (Down node) (inr (λ e. absurd (omega (arith, e))))
          ∙ sym (ap (λ (b : Bool). if b then drop 1 (queue_at w (Down node)) else queue_at w (Down node)) (and_false (node.0 == node.0) (1 == 0) (grind (arith, nat_tests))))
        where
          and_false : (a b : Bool) → b ≡ false → a && b ≡ false
          and_false true b e = e
          and_false false b e = refl

      sent : (site : Site) → Sends F v.numbers.controls site.controller.queue (cells_of.cell_comes (record { controller = site.controller; notes = v.notes; numbers = v.numbers }) cell)
      sent site =
          let b : Acted = record { controller = site.controller; notes = v.notes; numbers = v.numbers } in
          let n : cell.header.last ≡ true → (is_control cell.mark ≡ false → payload_of F (next_mark cell.mark) ≡ None) × ((k : ℕ) → v.numbers.controls < k → payload_of F (record { packet = 0; frame = k }) ≡ None) =
          λ last. (next_of node there cell cells head last, λ k less. unmade k (subst (λ (m : ℕ). m < k) (ap (λ g. g.controls) same_notes.1) less)) in
          cell_sent F v.numbers.controls site.controller.queue b cell n
          (λ taker t first rest ended.
          (subst (λ (m : Mark). (is_control m ≡ false → payload_of F (next_mark m) ≡ None) × ((k : ℕ) → v.numbers.controls < k → payload_of F (record { packet = 0; frame = k }) ≡ None))
          (sym (ended_mark b.notes (nat_lt 0 (free_slots b.controller)) (reassembly_of b.controller taker) cell first rest ended))
          (n (ended_last b.notes (nat_lt 0 (free_slots b.controller)) (reassembly_of b.controller taker) cell first rest ended))))
          (begins F v.numbers.controls site.controller.queue b refl (self_le v.numbers.controls))
        where
          self_le : (n : ℕ) → n ≤ n
          self_le n = omega arith

      from_site : (site : Site) → site_at w node ≡ Some site → Grows topology w (Carry (Up node))
      from_site site found = by (site_at v node) refl
        where
          none_there : site_at v node ≡ None → ⊥
          none_there e = (let kept = still_there (put_away w) (Up node) cells node site found in cc (sym e ∙ kept.found))

          by : (o : Option Site) → site_at v node ≡ o → Grows topology w (Carry (Up node))
          by None e = absurd (none_there e)
          by (Some other) e =
              let b : Acted = record { controller = other.controller; notes = v.notes; numbers = v.numbers } in
              controller_grows topology w (Carry (Up node)) actors node v (λ a. cells_of.cell_comes a cell) other e
              (ap (carries_head topology (put_away w) (Up node)) head)
              (cell_follows (cell.mark.frame + 1) b cell (self_le (cell.mark.frame + 1))).node
              (beside site found)
              (λ third. ap (λ (q : List Cell). owns (carried_to topology (Up node) q) (Down third)) head)
              F refl v.numbers.controls (sent other)
            where
              self_le : (n : ℕ) → n ≤ n
              self_le n = omega arith

  -- *Each event*
  pub grows : (event : Event) → IsEvent topology w event → IsTame (next topology w event).notes.records → Grows topology w event
  grows (Inject node octets) meant tame = injects node octets meant.0 (inject_refusal octets) refl
  grows (Carry (Down node)) meant tame = none_grow topology w (Carry (Down node)) actors (λ other. by (queue_at w (Down node)) other)
    where
      by : (q : List Cell) (other : NodeId) → owns (carried_to topology (Down node) q) (Down other) ≡ false
      by [] other = refl
      by (cell ∷ cells) other = refl
  grows (Carry (Up node)) meant tame = comes_up node meant (queue_at w (Up node)) refl
  grows (Carry (Out node port)) meant tame = none_grow topology w (Carry (Out node port)) actors (λ other. by (queue_at w (Out node port)) (peer_of topology node port) refl other)
    where
      of_peer : (o : Option LinkEnd) (other : NodeId) → owns (switch_at o) (Down other) ≡ false
      of_peer None other = refl
      of_peer (Some far) other = refl

      by : (q : List Cell) (o : Option LinkEnd) → peer_of topology node port ≡ o → (other : NodeId) → owns (carried_to topology (Out node port) q) (Down other) ≡ false
      by [] o e other = refl
      by (cell ∷ cells) o e other = ap (λ (p : Option LinkEnd). owns (switch_at p) (Down other)) e ∙ of_peer o other
  grows (Lose place) meant tame = none_grow topology w (Lose place) actors (λ other. refl)
  grows (Tick node) meant tame = quiet (Tick node) node ticks meant refl (λ b. (ticks_paces 0 b).node) (λ place. refl) (λ other. refl)
      (λ frames controls queue b h. ticks_kept Any (λ item f c. tt) (P frames controls queue None) (kept_all frames controls queue None) (λ n p l flow. tt) b h)
  grows (TickSwitch node) meant tame = none_grow topology w (TickSwitch node) actors (λ other. refl)
  grows (Restart node) meant tame = quiet (Restart node) node node_restarts meant refl (λ b. (restarts_paces 0 b).node) (λ place. refl) (λ other. refl)
      (λ frames controls queue b h. node_restarts_kept Any (λ item f c. tt) (P frames controls queue None) (kept_all frames controls queue None) b h)
  grows (RestartSwitch node) meant tame = none_grow topology w (RestartSwitch node) actors (λ other. refl)
  grows (Forge place channel payload) meant tame = absurd (none_forged topology w place channel payload tame)
  grows (Route node change) meant tame = quiet (Route node change) node (λ a. change_comes a change) meant.there refl (λ b. (change_changes 0 b change).node) (λ place. refl) (λ other. refl)
      (λ frames controls queue b h. change_comes_kept Any (λ item f c. tt) (P frames controls queue None) (kept_all frames controls queue None) b change h)
