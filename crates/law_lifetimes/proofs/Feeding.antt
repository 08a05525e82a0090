-- what each event of a run is to the controller of each node

use Rattle.std.proofs.Common.{◌≡◌, ◌≢◌, ℕ, Bool, true, false, List, [], ◌∷◌, ◌++◌, length, Option, None, Some, refl, sym, ◌∙◌, ap, subst, arith, if◌then◌else◌}
use Rattle.std.specs.Prelude.{◌+◌, ◌==◌, nat_le, drop}
use Rattle.std.specs.Option.{option_map, option_map_or}
use Rattle.std.proofs.lemmas.Bool.Decides.{nat_tests}
use Rattle.law_controller.specs.world_model.Words.{NodeId, PortNo, Place, Down, Up, Out, Channel, Mark, GivenOut, next_control, with_control, Cell, Refusal, Loss, Forged, PoolFull, Journal, noted, frame_cells, made, at, put, Switch, control_port, Setup, Controller, node_restarts, inject_refusal, injected, change_comes, Topology, World, Site, site_key, site_at, controller_acts, switch_acts, queue_in, queue_at, with_queue_in, with_queue_of, with_queue, injects_by, injects, arrives_at, carries_head, loses_head, forges}
use Rattle.law_controller.specs.world_model.frame_model.Sending.{Sender}
use Rattle.law_controller.specs.ordered_lists.Ordered.{Every}
use Rattle.law_controller.specs.world_model.Switch as switches
use Rattle.law_controller.specs.world_model.Conduct as switch
use Rattle.law_controller.proofs.law_port_facts.Keyed.{on_both, by_eq, at_key, at_every, at_put_same, at_put_other, put_every}
use Rattle.law_controller.specs.world_model.Controller.{Acted, free_slots}
use Rattle.law_controller.specs.world_model.Sending.{with_cells, sends}
use Rattle.law_controller.specs.world_model.Cells as controller
use Rattle.law_controller.specs.world_model.Ticks as controller_ticks
use Rattle.law_controller.specs.law_controller_facts.Inputs.{Input, CellComes, PacketEnters, Ticks, Restarts, ChangeComes, FrameIsForged, CellLeaves, Meanwhile, enters_unless, takes_input, takes_inputs}
use Rattle.law_controller.specs.law_controller_facts.Sound.{IsSound, IsOwn, opened_by, setups_by}
use Rattle.law_controller.proofs.law_controller_facts.Moves.{Move, noting, taking_notes, sending, sending_control, asking, withdrawing, answering, meeting, ending_meeting, turning, placing, clearing, gathering, chaining, routing, popping, moves_keep}
use Rattle.law_controller.proofs.law_controller_facts.Laws.{input_goes, always_sound}
use Rattle.law_controller.specs.world_model.network_model.declared.event.Event.{Event}
use Rattle.law_controller.specs.world_model.network_model.declared.event.Event.TheVariants.{Inject, Carry, Lose, Tick, TickSwitch, Restart, RestartSwitch, Forge, Route}
use Rattle.law_controller.specs.world_model.network_model.declared.link.LinkEnd.{LinkEnd}
use Rattle.law_controller.specs.world_model.Topology.{peer_of}
use Rattle.law_controller.specs.world_model.World.{at_controller, at_switch}
use Rattle.law_controller.specs.world_model.Step as steps
use Rattle.law_controller.specs.world_model.Step.{acts}
use Rattle.law_lifetimes.specs.Lifetimes.{if_at, head_comes, head_leaves, comes_to}
use Rattle.law_lifetimes.proofs.Opened.{IsFed}

-- *A controller stays at its node*
module _ (setups : List Setup) (node : NodeId) where
  abbrev IsAt : Acted → Type 0
  IsAt a = a.controller.node ≡ node

  sends_at : (a : Acted) (channel : Channel) (mark : Mark) (payload : List ℕ) → IsAt a → IsAt (sends a channel mark payload)
  sends_at a channel mark payload h = on_both (λ (s : Sender Controller). s.queues.node ≡ node) (nat_le (length (frame_cells channel mark payload)) (free_slots a.controller))
      (record { queues = with_cells a.controller (frame_cells channel mark payload); notes = made a.notes mark payload })
      (record { queues = a.controller; notes = noted (made a.notes mark payload) (Loss mark PoolFull) }) h h

  move_at : (a b : Acted) → Move setups a b → IsAt a → IsAt b
  move_at a b (noting x item) h = h
  move_at a b (taking_notes x notes) h = h
  move_at a b (sending x channel mark payload) h = sends_at x channel mark payload h
  move_at a b (sending_control x channel payload) h = sends_at (record x { numbers = with_control x.numbers }) channel (next_control x.numbers) payload h
  move_at a b (asking x request estab room shaped) h = h
  move_at a b (withdrawing x input) h = h
  move_at a b (answering x answer) h = h
  move_at a b (meeting x) h = h
  move_at a b (ending_meeting x estab) h = h
  move_at a b (turning x step turn) h = h
  move_at a b (placing x linked w found worked) h = h
  move_at a b (clearing x linked found may) h = h
  move_at a b (gathering x r) h = h
  move_at a b (chaining x linked after found setup port) h = h
  move_at a b (routing x table waiting begun changes) h = h
  move_at a b (popping x queue) h = h

  own_at : (a : Acted) (input : Input) → IsOwn input → IsSound setups a.controller → IsAt a → IsAt (takes_input a input)
  own_at a input own s h = moves_keep setups IsAt move_at (λ b k. k) (input_goes setups a input own s) h

  input_at : (a : Acted) (input : Input) → IsSound setups a.controller → IsAt a → IsAt (takes_input a input)
  input_at a (CellComes cell) s h = own_at a (CellComes cell) tt s h
  input_at a (PacketEnters number octets) s h = own_at a (PacketEnters number octets) tt s h
  input_at a Ticks s h = own_at a Ticks tt s h
  input_at a Restarts s h = own_at a Restarts tt s h
  input_at a (ChangeComes change) s h = own_at a (ChangeComes change) tt s h
  input_at a (FrameIsForged channel mark payload) s h = own_at a (FrameIsForged channel mark payload) tt s h
  input_at a CellLeaves s h = own_at a CellLeaves tt s h
  input_at a (Meanwhile notes numbers) s h = h

-- *A site that was fed* takes one more input
abbrev pub acted_by : Journal → GivenOut → Controller → Acted
acted_by notes numbers c = record { controller = c; notes = notes; numbers = numbers }

pub inputs_join : (xs ys : List Input) (a : Acted) → takes_inputs a (xs ++ ys) ≡ takes_inputs (takes_inputs a xs) ys
inputs_join [] ys a = refl
inputs_join (x ∷ xs) ys a = inputs_join xs ys (takes_input a x)

module _ (notes : Journal) (numbers : GivenOut) (site : Site) (fed : IsFed site) where
  fed_sound : IsSound (setups_by fed.o) site.controller
  fed_sound = subst (λ (c : Controller). IsSound (setups_by fed.o) c) fed.now (always_sound fed.o fed.inputs fed.is.differ)

  fed_node : (input : Input) → (takes_input (acted_by notes numbers site.controller) input).controller.node ≡ site.controller.node
  fed_node input = input_at (setups_by fed.o) site.controller.node (acted_by notes numbers site.controller) input fed_sound refl

  fed_more : (after : Controller) (input : Input) → after ≡ (takes_input (acted_by notes numbers site.controller) input).controller → IsFed (record site { controller = after })
  fed_more after input is = record {
    o = fed.o;
    is = fed.is;
    inputs = fed.inputs ++ Meanwhile notes numbers ∷ input ∷ [];
    now = ap (λ (a : Acted). a.controller) (inputs_join fed.inputs (Meanwhile notes numbers ∷ input ∷ []) (opened_by fed.o))
        ∙ ap (λ (c : Controller). (takes_input (acted_by notes numbers c) input).controller) fed.now ∙ sym is;
  }

-- *What an event is to the controllers*
abbrev pub after_of : Journal → GivenOut → Controller → Option Input → Controller
after_of notes numbers c None = c
after_of notes numbers c (Some input) = (takes_input (acted_by notes numbers c) input).controller

abbrev pub controller_in : List Site → NodeId → Option Controller
controller_in sites node = option_map (λ (site : Site). site.controller) (at site_key node.0 sites)

pub record Stepped (notes : Journal) (numbers : GivenOut) (before after : List Site) (comes : NodeId → Option Input) : Type 0 where
  pub fed : Every IsFed after
  pub each : (node : NodeId) (c : Controller) → controller_in before node ≡ Some c → controller_in after node ≡ Some (after_of notes numbers c (comes node))

abbrev pub Nothing : NodeId → Option Input
Nothing node = None

number_is : (m n : ℕ) → m ≡ n → (m == n) ≡ true
number_is m n e = grind (arith, nat_tests)

pub number_isnt : (m n : ℕ) → m ≢ n → (m == n) ≡ false
number_isnt m n e = grind (arith, nat_tests)

some_same : (x y : Controller) → Some x ≡ Some y → x ≡ y
some_same x y e = cc

-- at this node or at another
by_node : (P : Option Input → Type 0) (here node : NodeId) (input : Option Input) → (here.0 ≡ node.0 → P input) → (here.0 ≢ node.0 → P None) → P (if_at here node input)
by_node P here node input same other = by_eq here.0 node.0 (λ e t. subst (λ b. P (if b then input else None)) (sym (number_is here.0 node.0 e)) (same e))
    (λ e t. subst (λ b. P (if b then input else None)) (sym (number_isnt here.0 node.0 e)) (other e))

module _ (notes : Journal) (numbers : GivenOut) where
  nothing_comes : (sites : List Site) → Every IsFed sites → Stepped notes numbers sites sites Nothing
  nothing_comes sites h = record { fed = h; each = λ node c there. there }

  then_nothing : (first second third : List Site) (comes : NodeId → Option Input) (notes' : Journal) (numbers' : GivenOut) → Stepped notes numbers first second comes → Stepped notes' numbers' second third Nothing → Stepped notes numbers first third comes
  then_nothing first second third comes notes' numbers' s t = record { fed = t.fed; each = λ node c there. t.each node (after_of notes numbers c (comes node)) (s.each node c there) }

  nothing_then : (first second third : List Site) (comes : NodeId → Option Input) (notes' : Journal) (numbers' : GivenOut) → Stepped notes' numbers' first second Nothing → Stepped notes numbers second third comes → Stepped notes numbers first third comes
  nothing_then first second third comes notes' numbers' s t = record { fed = t.fed; each = λ node c there. t.each node c (s.each node c there) }

  -- an input that changes no controller
  same_comes : (sites : List Site) (here : NodeId) (input : Input) → Every IsFed sites → ((c : Controller) → (takes_input (acted_by notes numbers c) input).controller ≡ c) → Stepped notes numbers sites sites (λ node. if_at here node (Some input))
  same_comes sites here input h same = record { fed = h; each = λ node c there. by_node (λ o. controller_in sites node ≡ Some (after_of notes numbers c o)) here node (Some input) (λ e. there ∙ ap Some (sym (same c))) (λ e. there) }

  -- one that is put in its place
  controller_put : (sites : List Site) (here : NodeId) (site : Site) (after : Controller) (input : Input) → at site_key here.0 sites ≡ Some site → Every IsFed sites
      → after ≡ (takes_input (acted_by notes numbers site.controller) input).controller → Stepped notes numbers sites (put site_key (record site { controller = after }) sites) (λ node. if_at here node (Some input))
  controller_put sites here site after input found h is = record {
    fed = put_every site_key IsFed new sites (fed_more notes numbers site fed after input is) h;
    each = λ node c there. by_node (λ o. controller_in (put site_key new sites) node ≡ Some (after_of notes numbers c o)) here node (Some input)
        (λ e. here_now node c (sym e) there) (λ e. ap (option_map (λ (x : Site). x.controller)) (at_put_other site_key new node.0 sites (λ same. e (sym own ∙ (sym key ∙ same)))) ∙ there);
  }
    where
      new : Site
      new = record site { controller = after }

      fed : IsFed site
      fed = at_every site_key IsFed here.0 sites site h found

      own : site_key site ≡ here.0
      own = at_key site_key here.0 sites site found

      key : after.node.0 ≡ site_key site
      key = ap (λ (c : Controller). c.node.0) is ∙ ap (λ (n : NodeId). n.0) (fed_node notes numbers site fed input)

      here_now : (node : NodeId) (c : Controller) → node.0 ≡ here.0 → controller_in sites node ≡ Some c → controller_in (put site_key (record site { controller = after }) sites) node ≡ Some (takes_input (acted_by notes numbers c) input).controller
      here_now node c e there =
          let at_own : at site_key node.0 sites ≡ Some site = subst (λ k. at site_key k sites ≡ Some site) (sym e) found in
          let same : site.controller ≡ c = some_same site.controller c (sym (ap (option_map (λ (x : Site). x.controller)) at_own) ∙ there) in
          ap (option_map (λ (x : Site). x.controller))
          (subst (λ k. at site_key k (put site_key (record site { controller = after }) sites) ≡ Some (record site { controller = after })) (key ∙ (own ∙ sym e))
          (at_put_same site_key (record site { controller = after }) sites site (subst (λ k. at site_key k sites ≡ Some site) (sym (key ∙ own)) found)))
          ∙ ap Some (is ∙ ap (λ (x : Controller). (takes_input (acted_by notes numbers x) input).controller) same)

  switch_put : (sites : List Site) (here : NodeId) (site : Site) (after : Switch) → at site_key here.0 sites ≡ Some site → Every IsFed sites → Stepped notes numbers sites (put site_key (record site { switch = after }) sites) Nothing
  switch_put sites here site after found h = record {
    fed = put_every site_key IsFed (record site { switch = after }) sites (record { o = fed.o; is = fed.is; inputs = fed.inputs; now = fed.now }) h;
    each = λ node c there. by_eq (site_key site) node.0
        (λ e t. (let at_own : at site_key (site_key site) sites ≡ Some site = subst (λ k. at site_key k sites ≡ Some site) (sym own) found in
        let same : site.controller ≡ c = some_same site.controller c (sym (ap (option_map (λ (x : Site). x.controller)) (subst (λ k. at site_key k sites ≡ Some site) e at_own)) ∙ there) in
        ap (option_map (λ (x : Site). x.controller)) (subst (λ k. at site_key k (put site_key (record site { switch = after }) sites) ≡ Some (record site { switch = after })) e (at_put_same site_key (record site { switch = after }) sites site at_own)) ∙ ap Some same))
        (λ e t. ap (option_map (λ (x : Site). x.controller)) (at_put_other site_key (record site { switch = after }) node.0 sites e) ∙ there);
  }
    where
      fed : IsFed site
      fed = at_every site_key IsFed here.0 sites site h found

      own : site_key site ≡ here.0
      own = at_key site_key here.0 sites site found

  -- *An actor acts*
  at_controller_steps : (v : World) (here : NodeId) (act : Acted → Acted) (input : Input) → Every IsFed v.sites
      → ((c : Controller) → (act (acted_by v.notes v.numbers c)).controller ≡ (takes_input (acted_by notes numbers c) input).controller) → Stepped notes numbers v.sites (at_controller v here act).sites (λ node. if_at here node (Some input))
  at_controller_steps v here act input h is = by_found (site_at v here) refl
    where
      never : (node : NodeId) (c : Controller) → here.0 ≡ node.0 → site_at v here ≡ None → controller_in v.sites node ≡ Some c → ⊥
      never node c e none there = absurd (cc (sym (ap (option_map (λ (x : Site). x.controller)) (subst (λ k. at site_key k v.sites ≡ None) e none)) ∙ there))

      by_found : (o : Option Site) → site_at v here ≡ o → Stepped notes numbers v.sites (controller_acts v o act).sites (λ node. if_at here node (Some input))
      by_found None none = record { fed = h; each = λ node c there. by_node (λ o. controller_in v.sites node ≡ Some (after_of notes numbers c o)) here node (Some input) (λ e. absurd (never node c e none there)) (λ e. there) }
      by_found (Some site) found = controller_put v.sites here site (act (acted_by v.notes v.numbers site.controller)).controller input found h (is site.controller)

  at_switch_steps : (v : World) (here : NodeId) (act : switches.ActedSwitch → switches.ActedSwitch) → Every IsFed v.sites → Stepped notes numbers v.sites (at_switch v here act).sites Nothing
  at_switch_steps v here act h = by_found (site_at v here) refl
    where
      by_found : (o : Option Site) → site_at v here ≡ o → Stepped notes numbers v.sites (switch_acts v o act).sites Nothing
      by_found None none = nothing_comes v.sites h
      by_found (Some site) found = switch_put v.sites here site (act (record { switch = site.switch; notes = v.notes; numbers = v.numbers })).switch found h

  -- *A queue loses its head*
  head_gone : (cell : Cell) (cells queue : List Cell) → queue ≡ cell ∷ cells → cells ≡ drop 1 queue
  head_gone cell cells queue e = sym (ap (drop 1) e)

  down_steps : (v : World) (here : NodeId) (cell : Cell) (cells : List Cell) → Every IsFed v.sites → queue_at v (Down here) ≡ cell ∷ cells → Stepped notes numbers v.sites (with_queue v (Down here) cells).sites (λ node. if_at here node (Some CellLeaves))
  down_steps v here cell cells h queue = by_found (site_at v here) refl queue
    where
      by_found : (o : Option Site) → site_at v here ≡ o → option_map_or (λ site. queue_in site (Down here)) o [] ≡ cell ∷ cells → Stepped notes numbers v.sites (with_queue_of v (Down here) cells o).sites (λ node. if_at here node (Some CellLeaves))
      by_found None none queue = absurd (cc queue)
      by_found (Some site) found queue = controller_put v.sites here site (record site.controller { queue = cells }) CellLeaves found h
          (ap (λ (q : List Cell). record site.controller { queue = q }) (head_gone cell cells site.controller.queue queue))

  up_steps : (v : World) (here : NodeId) (cells : List Cell) → Every IsFed v.sites → Stepped notes numbers v.sites (with_queue v (Up here) cells).sites Nothing
  up_steps v here cells h = by_found (site_at v here) refl
    where
      by_found : (o : Option Site) → site_at v here ≡ o → Stepped notes numbers v.sites (with_queue_of v (Up here) cells o).sites Nothing
      by_found None none = nothing_comes v.sites h
      by_found (Some site) found = switch_put v.sites here site (with_queue_in site (Up here) cells).switch found h

  out_steps : (v : World) (here : NodeId) (port : PortNo) (cells : List Cell) → Every IsFed v.sites → Stepped notes numbers v.sites (with_queue v (Out here port) cells).sites Nothing
  out_steps v here port cells h = by_found (site_at v here) refl
    where
      by_found : (o : Option Site) → site_at v here ≡ o → Stepped notes numbers v.sites (with_queue_of v (Out here port) cells o).sites Nothing
      by_found None none = nothing_comes v.sites h
      by_found (Some site) found = switch_put v.sites here site (with_queue_in site (Out here port) cells).switch found h

-- setting a queue keeps the notes and the numbers
record KeepsNotes (v u : World) : Type 0 where
  notes : u.notes ≡ v.notes
  numbers : u.numbers ≡ v.numbers

queue_notes : (v : World) (place : Place) (cells : List Cell) (o : Option Site) → KeepsNotes v (with_queue_of v place cells o)
queue_notes v place cells None = record { notes = refl; numbers = refl }
queue_notes v place cells (Some site) = record { notes = refl; numbers = refl }

abbrev queues_of : Sender Controller → Controller
queues_of s = s.queues

-- what is sent makes the same of a controller, whatever the notes and the numbers
sent_in : (channel : Channel) (mark : Mark) (payload : List ℕ) (x : Acted) → (sends x channel mark payload).controller
    ≡ (if nat_le (length (frame_cells channel mark payload)) (free_slots x.controller) then with_cells x.controller (frame_cells channel mark payload) else x.controller)
sent_in channel mark payload x = by_room (nat_le (length (frame_cells channel mark payload)) (free_slots x.controller))
  where
    by_room : (t : Bool) → queues_of (if t then record { queues = with_cells x.controller (frame_cells channel mark payload); notes = made x.notes mark payload } else record { queues = x.controller; notes = noted (made x.notes mark payload) (Loss mark PoolFull) })
        ≡ (if t then with_cells x.controller (frame_cells channel mark payload) else x.controller)
    by_room true = refl
    by_room false = refl

-- *Each event*
module _ (topology : Topology) (v : World) (h : Every IsFed v.sites) where
  abbrev Steps : List Site → (NodeId → Option Input) → Type 0
  Steps after comes = Stepped v.notes v.numbers v.sites after comes

  inject_steps : (here : NodeId) (octets : List ℕ) → Steps (injects v here octets).sites (λ node. if_at here node (Some (PacketEnters (v.sent + 1) octets)))
  inject_steps here octets = by_refusal (inject_refusal octets) refl
    where
      by_refusal : (o : Option Refusal) → inject_refusal octets ≡ o → Steps (injects_by (record v { sent = v.sent + 1 }) here octets o).sites (λ node. if_at here node (Some (PacketEnters (v.sent + 1) octets)))
      by_refusal (Some refusal) e = same_comes v.notes v.numbers v.sites here (PacketEnters (v.sent + 1) octets) h
          (λ c. ap (λ (o : Option Refusal). (enters_unless (acted_by v.notes v.numbers c) (v.sent + 1) octets o).controller) e)
      by_refusal None e = at_controller_steps v.notes v.numbers (record v { sent = v.sent + 1 }) here (λ a. injected a (v.sent + 1) octets) (PacketEnters (v.sent + 1) octets) h
          (λ c. sym (ap (λ (o : Option Refusal). (enters_unless (acted_by v.notes v.numbers c) (v.sent + 1) octets o).controller) e))

  carry_down : (here : NodeId) (queue : List Cell) → queue_at v (Down here) ≡ queue → Steps (carries_head topology v (Down here) queue).sites (λ node. if_at here node (head_leaves queue))
  carry_down here [] is = record { fed = h; each = λ node c there. by_node (λ o. controller_in v.sites node ≡ Some (after_of v.notes v.numbers c o)) here node None (λ e. there) (λ e. there) }
  carry_down here (cell ∷ cells) is =
      let popped : World = with_queue v (Down here) cells in
      let first : Steps popped.sites (λ node. if_at here node (Some CellLeaves)) = down_steps v.notes v.numbers v here cell cells h is in
      then_nothing v.notes v.numbers v.sites popped.sites (at_switch popped here (λ a. switch.cell_comes a control_port cell)).sites (λ node. if_at here node (Some CellLeaves)) v.notes v.numbers first
      (at_switch_steps v.notes v.numbers popped here (λ a. switch.cell_comes a control_port cell) first.fed)

  carry_up : (here : NodeId) (queue : List Cell) → Steps (carries_head topology v (Up here) queue).sites (λ node. if_at here node (head_comes queue))
  carry_up here [] = record { fed = h; each = λ node c there. by_node (λ o. controller_in v.sites node ≡ Some (after_of v.notes v.numbers c o)) here node None (λ e. there) (λ e. there) }
  carry_up here (cell ∷ cells) =
      let popped : World = with_queue v (Up here) cells in
      let keeps : KeepsNotes v popped = queue_notes v (Up here) cells (site_at v here) in
      let first : Steps popped.sites Nothing = up_steps v.notes v.numbers v here cells h in
      nothing_then v.notes v.numbers v.sites popped.sites (at_controller popped here (λ a. controller.cell_comes a cell)).sites (λ node. if_at here node (Some (CellComes cell))) v.notes v.numbers first
      (at_controller_steps v.notes v.numbers popped here (λ a. controller.cell_comes a cell) (CellComes cell) first.fed
      (λ c. ap (λ (n : Journal). (controller.cell_comes (acted_by n popped.numbers c) cell).controller) keeps.notes ∙ ap (λ (n : GivenOut). (controller.cell_comes (acted_by v.notes n c) cell).controller) keeps.numbers))

  carry_out : (here : NodeId) (port : PortNo) (queue : List Cell) → Steps (carries_head topology v (Out here port) queue).sites Nothing
  carry_out here port [] = nothing_comes v.notes v.numbers v.sites h
  carry_out here port (cell ∷ cells) = by_far (peer_of topology here port)
    where
      popped : World
      popped = with_queue v (Out here port) cells

      first : Steps popped.sites Nothing
      first = out_steps v.notes v.numbers v here port cells h

      by_far : (o : Option LinkEnd) → Steps (arrives_at popped cell o).sites Nothing
      by_far None = first
      by_far (Some far) = then_nothing v.notes v.numbers v.sites popped.sites (at_switch popped far.node (λ a. switch.cell_comes a far.port cell)).sites Nothing v.notes v.numbers first
          (at_switch_steps v.notes v.numbers popped far.node (λ a. switch.cell_comes a far.port cell) first.fed)

  carry_steps : (place : Place) → Steps (carries_head topology v place (queue_at v place)).sites (λ node. comes_to v node (Carry place))
  carry_steps (Down here) = carry_down here (queue_at v (Down here)) refl
  carry_steps (Up here) = carry_up here (queue_at v (Up here))
  carry_steps (Out here port) = carry_out here port (queue_at v (Out here port))

  lose_down : (here : NodeId) (queue : List Cell) → queue_at v (Down here) ≡ queue → Steps (loses_head v (Down here) queue).sites (λ node. if_at here node (head_leaves queue))
  lose_down here [] is = record { fed = h; each = λ node c there. by_node (λ o. controller_in v.sites node ≡ Some (after_of v.notes v.numbers c o)) here node None (λ e. there) (λ e. there) }
  lose_down here (cell ∷ cells) is = down_steps v.notes v.numbers v here cell cells h is

  lose_up : (here : NodeId) (queue : List Cell) → Steps (loses_head v (Up here) queue).sites Nothing
  lose_up here [] = nothing_comes v.notes v.numbers v.sites h
  lose_up here (cell ∷ cells) = up_steps v.notes v.numbers v here cells h

  lose_out : (here : NodeId) (port : PortNo) (queue : List Cell) → Steps (loses_head v (Out here port) queue).sites Nothing
  lose_out here port [] = nothing_comes v.notes v.numbers v.sites h
  lose_out here port (cell ∷ cells) = out_steps v.notes v.numbers v here port cells h

  lose_steps : (place : Place) → Steps (loses_head v place (queue_at v place)).sites (λ node. comes_to v node (Lose place))
  lose_steps (Down here) = lose_down here (queue_at v (Down here)) refl
  lose_steps (Up here) = lose_up here (queue_at v (Up here))
  lose_steps (Out here port) = lose_out here port (queue_at v (Out here port))

  forge_steps : (place : Place) (channel : Channel) (payload : List ℕ) → Steps (forges v place channel payload).sites (λ node. comes_to v node (Forge place channel payload))
  forge_steps (Down here) channel payload =
      let forged : World = record (steps.note v (Forged (Down here))) { numbers = with_control v.numbers } in
      at_controller_steps v.notes v.numbers forged here (λ a. sends a channel (next_control v.numbers) payload) (FrameIsForged channel (next_control v.numbers) payload) h
      (λ c. sent_in channel (next_control v.numbers) payload (acted_by forged.notes forged.numbers c) ∙ sym (sent_in channel (next_control v.numbers) payload (acted_by v.notes v.numbers c)))
  forge_steps (Up here) channel payload = at_switch_steps v.notes v.numbers (record (steps.note v (Forged (Up here))) { numbers = with_control v.numbers }) here (λ a. switch.forged a control_port channel (next_control v.numbers) payload) h
  forge_steps (Out here port) channel payload = at_switch_steps v.notes v.numbers (record (steps.note v (Forged (Out here port))) { numbers = with_control v.numbers }) here (λ a. switch.forged a port channel (next_control v.numbers) payload) h

  pub event_steps : (event : Event) → Steps (acts topology v event).sites (λ node. comes_to v node event)
  event_steps (Inject here octets) = inject_steps here octets
  event_steps (Carry place) = carry_steps place
  event_steps (Lose place) = lose_steps place
  event_steps (Tick here) = at_controller_steps v.notes v.numbers v here controller_ticks.ticks Ticks h (λ c. refl)
  event_steps (TickSwitch here) = at_switch_steps v.notes v.numbers v here switch.tick_comes h
  event_steps (Restart here) = at_controller_steps v.notes v.numbers v here node_restarts Restarts h (λ c. refl)
  event_steps (RestartSwitch here) = at_switch_steps v.notes v.numbers v here switch.restarted h
  event_steps (Forge place channel payload) = forge_steps place channel payload
  event_steps (Route here change) = at_controller_steps v.notes v.numbers v here (λ a. change_comes a change) (ChangeComes change) h (λ c. refl)
