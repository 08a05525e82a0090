-- what the records of an event bind at each node is what its controller noted of what came to it

use Rattle.std.proofs.Common.{◌≡◌, ◌≢◌, ℕ, ◌+◌, Bool, true, false, List, [], ◌∷◌, ◌++◌, length, Option, None, Some, refl, sym, ◌∙◌, ap, subst, arith, if◌then◌else◌}
use Rattle.std.specs.Prelude.{◌==◌, ◌&&◌, drop, nat_le}
use Rattle.std.specs.Option.{option_map, option_or}
use Rattle.std.proofs.lemmas.Bool.Decides.{nat_tests}
use Rattle.law_world_pace.specs.world_model.Words.{NodeId, PortNo, Place, Down, Up, Out, Channel, Mark, GivenOut, next_control, with_control, Cell, FlowId, Record, Bind, Loss, Forged, Refused, PoolFull, Lost, Refusal, Journal, noted, frame_cells, made, at, put, Switch, control_port, Controller, inject_refusal, injected, node_restarts, change_comes, Topology, World, Site, site_key, site_at, controller_at, controller_acts, switch_acts, queue_at, with_queue_in, with_queue_of, with_queue, injects_by, arrives_at, carries_head, loses_head, forges_at, forges, put_away, next, bound_by, last_bound}
use Rattle.law_world_pace.specs.world_model.frame_model.Sending.{Sender}
use Rattle.law_controller_bindings.specs.ordered_lists.Ordered.{Every}
use Rattle.law_controller_bindings.proofs.law_port_facts.Keyed.{on_both, by_eq, at_key, at_every, at_put_same}
use Rattle.law_world_pace.specs.world_model.Switch as switches
use Rattle.law_world_pace.specs.world_model.Conduct as switch
use Rattle.law_world_pace.specs.world_model.Controller.{Acted, free_slots}
use Rattle.law_world_pace.specs.world_model.Sending.{with_cells, sends}
use Rattle.law_world_pace.specs.world_model.Cells as controller
use Rattle.law_world_pace.specs.world_model.Ticks as controller_ticks
use Rattle.law_controller_bindings.specs.law_controller_facts.Inputs.{Input, CellComes, PacketEnters, Ticks, Restarts, ChangeComes, FrameIsForged, CellLeaves, Meanwhile, enters_unless, takes_input, takes_inputs}
use Rattle.law_controller_bindings.specs.law_controller_facts.Sound.{IsOwn, opened_by}
use Rattle.law_controller_bindings.specs.Bindings.{site, IsOfNode, noted_by}
use Rattle.law_controller_bindings.proofs.Laws.{notes_own}
use Rattle.law_run_facts.specs.Inputs as turns
use Rattle.law_run_facts.specs.Inputs.{SwitchInput, switch_takes}
use Rattle.law_run_facts.proofs.Switches as switching
use Rattle.law_run_facts.proofs.Switches.{switch_leaves}
use Rattle.law_lifetimes.specs.Lifetimes.{acted_in, if_at, head_comes, head_leaves, comes_to}
use Rattle.law_lifetimes.proofs.Opened.{IsFed}
use Rattle.law_lifetimes.proofs.Feeding.{inputs_join, acted_by, number_isnt}
use Rattle.law_world_pace.specs.world_model.network_model.declared.event.Event.{Event}
use Rattle.law_world_pace.specs.world_model.network_model.declared.event.Event.TheVariants.{Inject, Carry, Lose, Tick, TickSwitch, Restart, RestartSwitch, Forge, Route}
use Rattle.law_world_pace.specs.world_model.network_model.declared.link.LinkEnd.{LinkEnd}
use Rattle.law_world_pace.specs.world_model.Topology.{peer_of}
use Rattle.law_world_pace.specs.world_model.World.{at_controller, at_switch}
use Rattle.law_world_pace.specs.world_model.Step.{note}
use Rattle.law_run_facts.proofs.Marked.{WorldMarked, queue_marked, queue_popped}
use Rattle.law_run_facts.proofs.Runs.{Any}
use Rattle.law_run_facts.proofs.Opened.{always_named}

-- *Records of another node* bind nothing here
bound_away : (n : NodeId) (end : LinkEnd) (label : ℕ) (item : Record) → IsOfNode n item → n.0 ≢ end.node.0 → bound_by end label item ≡ None
bound_away n end label (Bind node port vci flow) own apart =
    ap (λ (b : Bool). if b && ((port.0 == end.port.0) && (vci == label)) then Some flow else None) (differ node.0 end.node.0 (λ e. apart (ap (λ (m : NodeId). m.0) (sym own) ∙ e)))
  where
    differ : (a b : ℕ) → a ≢ b → (a == b) ≡ false
    differ a b n = grind (arith, nat_tests)
bound_away n end label item own apart = refl

pub away_binds : (n : NodeId) (end : LinkEnd) (label : ℕ) (items : List Record) → Every (IsOfNode n) items → n.0 ≢ end.node.0 → last_bound items end label ≡ None
away_binds n end label [] all apart = refl
away_binds n end label (item ∷ items) all apart = ap (λ o. option_or o (bound_by end label item)) (away_binds n end label items all.1 apart) ∙ ap (λ o. option_or None o) (bound_away n end label item all.0 apart)

-- *What a controller notes*, where nothing was noted before
pub noted_is : (a : Acted) (input : Input) → IsOwn input → noted_by a input ≡ drop (length a.notes.records) (takes_input a input).notes.records
noted_is a (CellComes cell) own = refl
noted_is a (PacketEnters number octets) own = refl
noted_is a Ticks own = refl
noted_is a Restarts own = refl
noted_is a (ChangeComes change) own = refl
noted_is a (FrameIsForged channel mark payload) own = refl
noted_is a CellLeaves own = refl
noted_is a (Meanwhile notes numbers) own = absurd own

own_records : (x : Site) (fed : IsFed x) (notes : Journal) (numbers : GivenOut) (input : Input) → IsOwn input → notes.records ≡ []
    → Every (IsOfNode x.controller.node) (takes_input (acted_by notes numbers x.controller) input).notes.records
own_records x fed notes numbers input own none =
    let o = fed.o in
    let before : Acted = takes_inputs (opened_by o) fed.inputs in
    let a : Acted = record before { notes = notes; numbers = numbers } in
    let is : takes_inputs (opened_by o) (fed.inputs ++ Meanwhile notes numbers ∷ []) ≡ a = inputs_join fed.inputs (Meanwhile notes numbers ∷ []) (opened_by o) in
    let all : Every (IsOfNode o.node) (noted_by a input) = subst (λ (b : Acted). Every (IsOfNode o.node) (noted_by b input)) is (notes_own o (fed.inputs ++ Meanwhile notes numbers ∷ []) input fed.is) in
    let whole : Every (IsOfNode o.node) (takes_input a input).notes.records =
    subst (Every (IsOfNode o.node)) (noted_is a input own ∙ ap (λ (items : List Record). drop (length items) (takes_input a input).notes.records) none) all in
    let named : o.node ≡ x.controller.node = sym (always_named o fed.inputs fed.is).is_node ∙ ap (λ (c : Controller). c.node) fed.now in
    subst (λ (n : NodeId). Every (IsOfNode n) (takes_input (acted_by notes numbers x.controller) input).notes.records) named
    (subst (λ (c : Controller). Every (IsOfNode o.node) (takes_input (acted_by notes numbers c) input).notes.records) fed.now whole)

-- *What came to a node*
abbrev pub told_by : NodeId → Acted → Option Input → PortNo → (label : ℕ) → Option FlowId
told_by node a None port label = None
told_by node a (Some input) port label = last_bound (takes_input a input).notes.records (site node port) label

number_is : (m n : ℕ) → m ≡ n → (m == n) ≡ true
number_is m n e = grind (arith, nat_tests, e)

by_node : (P : Option Input → Type 0) (here node : NodeId) (input : Option Input) → (here.0 ≡ node.0 → P input) → (here.0 ≢ node.0 → P None) → P (if_at here node input)
by_node P here node input same other = by_eq here.0 node.0 (λ e t. subst (λ b. P (if b then input else None)) (sym (number_is here.0 node.0 e)) (same e))
    (λ e t. subst (λ b. P (if b then input else None)) (sym (number_isnt here.0 node.0 e)) (other e))

some_same : (x y : Controller) → Some x ≡ Some y → x ≡ y
some_same x y e = cc e

module _ (t : Topology) (w : World) (h : WorldMarked Any w) (fed : Every IsFed w.sites) (node : NodeId) (c : Controller) (there : controller_at w node ≡ Some c) where
  abbrev v : World
  v = put_away w

  abbrev Tells : List Record → Option Input → Type 0
  Tells records o = (port : PortNo) (label : ℕ) → last_bound records (site node port) label ≡ told_by node (acted_in w c) o port label

  away : WorldMarked Any (put_away w)
  away = record { sites = h.sites; free = h.free }

  -- *A controller acts*, found with the controller that it has in the world
  controller_tells : (u : World) (here : NodeId) (act : Acted → Acted) (input : Input) → IsOwn input → u.notes ≡ (put_away w).notes → u.numbers ≡ w.numbers
      → ((x : Site) → site_at u here ≡ Some x → (old : Site) × ((site_at w here ≡ Some old) × (x.controller ≡ old.controller)))
      → (site_at u here ≡ None → site_at w here ≡ None)
      → ((a : Acted) → (act a).notes.records ≡ (takes_input a input).notes.records) → Tells (at_controller u here act).notes.records (if_at here node (Some input))
  controller_tells u here act input own notes numbers found none is = by (site_at u here) refl
    where
      by : (o : Option Site) → site_at u here ≡ o → Tells (controller_acts u o act).notes.records (if_at here node (Some input))
      by None e port label = by_node (λ i. last_bound u.notes.records (site node port) label ≡ told_by node (acted_in w c) i port label) here node (Some input)
          (λ same. absurd (never (none e) same)) (λ other. ap (λ (n : Journal). last_bound n.records (site node port) label) notes)
        where
          never : site_at w here ≡ None → here.0 ≡ node.0 → ⊥
          never gone same = cc (sym (ap (option_map (λ (x : Site). x.controller)) (subst (λ k. at site_key k w.sites ≡ None) same gone)) ∙ there)
      by (Some x) e port label =
          let f = found x e in
          let old : Site = f.0 in
          let at_old : site_at w here ≡ Some old = f.1.0 in
          let a : Acted = record { controller = x.controller; notes = u.notes; numbers = u.numbers } in
          let b : Acted = acted_in w old.controller in
          let records : (act a).notes.records ≡ (takes_input b input).notes.records = is a ∙ (λ i. (takes_input (record { controller = f.1.1 i; notes = notes i; numbers = numbers i }) input).notes.records) in
          ap (λ items. last_bound items (site node port) label) records
          ∙ by_node (λ i. last_bound (takes_input b input).notes.records (site node port) label ≡ told_by node (acted_in w c) i port label) here node (Some input)
          (λ same. ap (λ (d : Controller). last_bound (takes_input (acted_in w d) input).notes.records (site node port) label)
          (some_same old.controller c (sym (ap (option_map (λ (z : Site). z.controller)) (subst (λ k. at site_key k w.sites ≡ Some old) same at_old)) ∙ there)))
          (λ other. away_binds old.controller.node (site node port) label (takes_input b input).notes.records (own_records old (at_every site_key IsFed here.0 w.sites old fed at_old) (put_away w).notes w.numbers input own refl)
          (λ same. other (sym (at_key site_key here.0 w.sites old at_old) ∙ same)))

  itself : (here : NodeId) (x : Site) → site_at (put_away w) here ≡ Some x → (old : Site) × ((site_at w here ≡ Some old) × (x.controller ≡ old.controller))
  itself here x e = (x, (e, refl))

  acts_tell : (here : NodeId) (act : Acted → Acted) (input : Input) → IsOwn input → ((a : Acted) → (act a).notes.records ≡ (takes_input a input).notes.records)
      → Tells (at_controller (put_away w) here act).notes.records (if_at here node (Some input))
  acts_tell here act input own is = controller_tells (put_away w) here act input own refl refl (itself here) (λ e. e) is

  -- *Nothing is bound*
  silent : (records : List Record) → ((port : PortNo) (label : ℕ) → last_bound records (site node port) label ≡ None) → (here : NodeId) (o : Option Input)
      → ((port : PortNo) (label : ℕ) → told_by node (acted_in w c) o port label ≡ None) → Tells records (if_at here node o)
  silent records none here o still port label = none port label ∙ by_node (λ i. None ≡ told_by node (acted_in w c) i port label) here node o (λ e. sym (still port label)) (λ e. refl)

  leaves_none : (queue : List Cell) (port : PortNo) (label : ℕ) → told_by node (acted_in w c) (head_leaves queue) port label ≡ None
  leaves_none [] port label = refl
  leaves_none (cell ∷ cells) port label = refl

  switch_silent : (u : World) (here : NodeId) (input : SwitchInput) → u.notes ≡ (put_away w).notes → switching.IsFair u.numbers.controls input → (port : PortNo) (label : ℕ)
      → last_bound (at_switch u here (λ a. switch_takes a input)).notes.records (site node port) label ≡ None
  switch_silent u here input notes fair port label = by (site_at u here)
    where
      none : last_bound u.notes.records (site node port) label ≡ None
      none = ap (λ (n : Journal). last_bound n.records (site node port) label) notes

      by : (o : Option Site) → last_bound (switch_acts u o (λ a. switch_takes a input)).notes.records (site node port) label ≡ None
      by None = none
      by (Some x) = (switch_leaves (record { switch = x.switch; notes = u.notes; numbers = u.numbers }) input fair).binds (site node port) label ∙ none

  -- *The head of a queue*
  head_fair : (place : Place) (cell : Cell) (cells : List Cell) → queue_at (put_away w) place ≡ cell ∷ cells → turns.IsMarked (with_queue (put_away w) place cells).numbers.controls cell
  head_fair place cell cells is =
      let p = queue_popped Any (put_away w) place cell cells is away in
      subst (λ (g : GivenOut). turns.IsMarked g.controls cell) (sym p.numbers) (subst (switching.AreMarked w.numbers.controls) is (queue_marked Any (put_away w) place away)).0

  to_switch : (place : Place) (cell : Cell) (cells : List Cell) → queue_at (put_away w) place ≡ cell ∷ cells → (here : NodeId) (at_port : PortNo) (port : PortNo) (label : ℕ)
      → last_bound (at_switch (with_queue (put_away w) place cells) here (λ a. switch.cell_comes a at_port cell)).notes.records (site node port) label ≡ None
  to_switch place cell cells is here at_port port label =
      switch_silent (with_queue (put_away w) place cells) here (turns.CellComes at_port cell) (queue_popped Any (put_away w) place cell cells is away).notes (head_fair place cell cells is) port label

  carry_down : (here : NodeId) (queue : List Cell) → queue_at (put_away w) (Down here) ≡ queue → Tells (carries_head t (put_away w) (Down here) queue).notes.records (if_at here node (head_leaves queue))
  carry_down here [] is = silent [] (λ port label. refl) here None (λ port label. refl)
  carry_down here (cell ∷ cells) is = silent (at_switch (with_queue (put_away w) (Down here) cells) here (λ a. switch.cell_comes a control_port cell)).notes.records (to_switch (Down here) cell cells is here control_port) here (Some CellLeaves) (λ port label. refl)

  up_found : (here : NodeId) (cells : List Cell) (x : Site) → site_at (with_queue (put_away w) (Up here) cells) here ≡ Some x → (old : Site) × ((site_at w here ≡ Some old) × (x.controller ≡ old.controller))
  up_found here cells x e = by (site_at w here) refl e
    where
      some_site : (y z : Site) → Some y ≡ Some z → y ≡ z
      some_site y z e = cc e

      by : (o : Option Site) → site_at w here ≡ o → site_at (with_queue_of (put_away w) (Up here) cells o) here ≡ Some x → (old : Site) × ((site_at w here ≡ Some old) × (x.controller ≡ old.controller))
      by None gone k = (x, (k, refl))
      by (Some old) found k =
          let new : Site = with_queue_in old (Up here) cells in
          let key : site_key new ≡ here.0 = at_key site_key here.0 w.sites old found in
          let got : at site_key here.0 (put site_key new w.sites) ≡ Some new =
          subst (λ n. at site_key n (put site_key new w.sites) ≡ Some new) key (at_put_same site_key new w.sites old (subst (λ n. at site_key n w.sites ≡ Some old) (sym key) found)) in
          (old, (found, ap (λ (y : Site). y.controller) (sym (some_site new x (sym got ∙ k)))))

  up_gone : (here : NodeId) (cells : List Cell) → site_at (with_queue (put_away w) (Up here) cells) here ≡ None → site_at w here ≡ None
  up_gone here cells e = by (site_at w here) refl e
    where
      by : (o : Option Site) → site_at w here ≡ o → site_at (with_queue_of (put_away w) (Up here) cells o) here ≡ None → site_at w here ≡ None
      by None gone k = gone
      by (Some old) found k =
          let new : Site = with_queue_in old (Up here) cells in
          let key : site_key new ≡ here.0 = at_key site_key here.0 w.sites old found in
          let got : at site_key here.0 (put site_key new w.sites) ≡ Some new =
          subst (λ n. at site_key n (put site_key new w.sites) ≡ Some new) key (at_put_same site_key new w.sites old (subst (λ n. at site_key n w.sites ≡ Some old) (sym key) found)) in
          absurd (cc (sym got ∙ k))

  carry_up : (here : NodeId) (queue : List Cell) → queue_at (put_away w) (Up here) ≡ queue → Tells (carries_head t (put_away w) (Up here) queue).notes.records (if_at here node (head_comes queue))
  carry_up here [] is = silent [] (λ port label. refl) here None (λ port label. refl)
  carry_up here (cell ∷ cells) is =
      let p = queue_popped Any (put_away w) (Up here) cell cells is away in
      controller_tells (with_queue (put_away w) (Up here) cells) here (λ a. controller.cell_comes a cell) (CellComes cell) tt p.notes p.numbers (up_found here cells) (up_gone here cells) (λ a. refl)

  carry_out : (here : NodeId) (at_port : PortNo) (queue : List Cell) → queue_at (put_away w) (Out here at_port) ≡ queue → Tells (carries_head t (put_away w) (Out here at_port) queue).notes.records None
  carry_out here at_port [] is port label = refl
  carry_out here at_port (cell ∷ cells) is port label = far (peer_of t here at_port)
    where
      far : (o : Option LinkEnd) → last_bound (arrives_at (with_queue (put_away w) (Out here at_port) cells) cell o).notes.records (site node port) label ≡ None
      far None = ap (λ (n : Journal). last_bound n.records (site node port) label) (queue_popped Any (put_away w) (Out here at_port) cell cells is away).notes
      far (Some end) = to_switch (Out here at_port) cell cells is end.node end.port port label

  lost_none : (place : Place) (queue : List Cell) → queue_at (put_away w) place ≡ queue → (port : PortNo) (label : ℕ) → last_bound (loses_head (put_away w) place queue).notes.records (site node port) label ≡ None
  lost_none place [] is port label = refl
  lost_none place (cell ∷ cells) is port label =
      ap (λ (n : Journal). last_bound (n.records ++ Loss cell.mark Lost ∷ []) (site node port) label) (queue_popped Any (put_away w) place cell cells is away).notes

  inject_tells : (here : NodeId) (octets : List ℕ) → Tells (injects_by (record (put_away w) { sent = w.sent + 1 }) here octets (inject_refusal octets)).notes.records (if_at here node (Some (PacketEnters (w.sent + 1) octets)))
  inject_tells here octets = by (inject_refusal octets) refl
    where
      counted : World
      counted = record (put_away w) { sent = w.sent + 1 }

      by : (o : Option Refusal) → inject_refusal octets ≡ o → Tells (injects_by counted here octets o).notes.records (if_at here node (Some (PacketEnters (w.sent + 1) octets)))
      by (Some name) e = silent (Refused here (w.sent + 1) name ∷ []) (λ port label. refl) here (Some (PacketEnters (w.sent + 1) octets))
          (λ port label. ap (λ (o : Option Refusal). last_bound (enters_unless (acted_in w c) (w.sent + 1) octets o).notes.records (site node port) label) e)
      by None e = controller_tells counted here (λ a. injected a (w.sent + 1) octets) (PacketEnters (w.sent + 1) octets) tt refl refl (itself here) (λ f. f)
          (λ a. ap (λ (o : Option Refusal). (enters_unless a (w.sent + 1) octets o).notes.records) (sym e))

  -- *A forged frame* notes that it is, and perhaps a loss
  sent_none : (a : Acted) (channel : Channel) (mark : Mark) (payload : List ℕ) (port : PortNo) (label : ℕ) → last_bound a.notes.records (site node port) label ≡ None
      → last_bound (a.notes.records ++ Loss mark PoolFull ∷ []) (site node port) label ≡ None → last_bound (sends a channel mark payload).notes.records (site node port) label ≡ None
  sent_none a channel mark payload port label one other = on_both (λ (s : Sender Controller). last_bound s.notes.records (site node port) label ≡ None) (nat_le (length (frame_cells channel mark payload)) (free_slots a.controller))
      (record { queues = with_cells a.controller (frame_cells channel mark payload); notes = made a.notes mark payload })
      (record { queues = a.controller; notes = noted (made a.notes mark payload) (Loss mark PoolFull) }) one other

  switch_none : (a : switches.ActedSwitch) (at_port : PortNo) (channel : Channel) (mark : Mark) (payload : List ℕ) (port : PortNo) (label : ℕ) → last_bound a.notes.records (site node port) label ≡ None
      → last_bound (a.notes.records ++ Loss mark PoolFull ∷ []) (site node port) label ≡ None → last_bound (switch.sends a at_port channel mark payload).notes.records (site node port) label ≡ None
  switch_none a at_port channel mark payload port label one other = on_both (λ (s : Sender Switch). last_bound s.notes.records (site node port) label ≡ None) (nat_le (length (frame_cells channel mark payload)) (switches.free_slots a.switch))
      (record { queues = switch.with_cells a.switch at_port (frame_cells channel mark payload); notes = made a.notes mark payload })
      (record { queues = a.switch; notes = noted (made a.notes mark payload) (Loss mark PoolFull) }) one other

  forge_none : (place : Place) (channel : Channel) (payload : List ℕ) (port : PortNo) (label : ℕ) → last_bound (forges (put_away w) place channel payload).notes.records (site node port) label ≡ None
  forge_none place channel payload port label = by place
    where
      given : World
      given = record (note (put_away w) (Forged place)) { numbers = with_control w.numbers }

      by : (at_place : Place) → last_bound (forges_at given at_place channel (next_control w.numbers) payload).notes.records (site node port) label ≡ None
      by (Down here) = at_site (site_at w here)
        where
          at_site : (o : Option Site) → last_bound (controller_acts given o (λ a. sends a channel (next_control w.numbers) payload)).notes.records (site node port) label ≡ None
          at_site None = refl
          at_site (Some x) = sent_none (record { controller = x.controller; notes = given.notes; numbers = given.numbers }) channel (next_control w.numbers) payload port label refl refl
      by (Up here) = at_site (site_at w here)
        where
          at_site : (o : Option Site) → last_bound (switch_acts given o (λ a. switch.forged a control_port channel (next_control w.numbers) payload)).notes.records (site node port) label ≡ None
          at_site None = refl
          at_site (Some x) = switch_none (record { switch = x.switch; notes = given.notes; numbers = given.numbers }) control_port channel (next_control w.numbers) payload port label refl refl
      by (Out here at_port) = at_site (site_at w here)
        where
          at_site : (o : Option Site) → last_bound (switch_acts given o (λ a. switch.forged a at_port channel (next_control w.numbers) payload)).notes.records (site node port) label ≡ None
          at_site None = refl
          at_site (Some x) = switch_none (record { switch = x.switch; notes = given.notes; numbers = given.numbers }) at_port channel (next_control w.numbers) payload port label refl refl

  pub event_tells : (event : Event) → Tells (next t w event).notes.records (comes_to w node event)
  event_tells (Inject here octets) = inject_tells here octets
  event_tells (Carry (Down here)) = carry_down here (queue_at (put_away w) (Down here)) refl
  event_tells (Carry (Up here)) = carry_up here (queue_at (put_away w) (Up here)) refl
  event_tells (Carry (Out here port)) = carry_out here port (queue_at (put_away w) (Out here port)) refl
  event_tells (Lose (Down here)) = silent (loses_head (put_away w) (Down here) (queue_at (put_away w) (Down here))).notes.records (lost_none (Down here) (queue_at (put_away w) (Down here)) refl) here (head_leaves (queue_at (put_away w) (Down here))) (leaves_none (queue_at (put_away w) (Down here)))
  event_tells (Lose (Up here)) = lost_none (Up here) (queue_at (put_away w) (Up here)) refl
  event_tells (Lose (Out here port)) = lost_none (Out here port) (queue_at (put_away w) (Out here port)) refl
  event_tells (Tick here) = acts_tell here controller_ticks.ticks Ticks tt (λ a. refl)
  event_tells (TickSwitch here) = switch_silent (put_away w) here turns.Ticks refl tt
  event_tells (Restart here) = acts_tell here node_restarts Restarts tt (λ a. refl)
  event_tells (RestartSwitch here) = switch_silent (put_away w) here turns.Restarts refl tt
  event_tells (Forge (Down here) channel payload) = silent (forges (put_away w) (Down here) channel payload).notes.records (forge_none (Down here) channel payload) here (Some (FrameIsForged channel (next_control w.numbers) payload))
      (λ port label. sent_none (acted_in w c) channel (next_control w.numbers) payload port label refl refl)
  event_tells (Forge (Up here) channel payload) = forge_none (Up here) channel payload
  event_tells (Forge (Out here port) channel payload) = forge_none (Out here port) channel payload
  event_tells (Route here change) = acts_tell here (λ a. change_comes a change) (ChangeComes change) tt (λ a. refl)
